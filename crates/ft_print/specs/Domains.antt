-- The texts of domains, and which theses are plain types.
use Rattle.std.specs.Prelude.{ℕ, suc, ◌≡◌, List, [], ◌∷◌, ◌++◌, codes, decimal}
use Rattle.ft_theory.specs.Expressions.{Expression}
use Rattle.ft_items.specs.Store.{Declarations}
use Rattle.ft_syntax.specs.Table.{tree}
use Rattle.ft_judge.specs.declared.judgement.Thesis.{Thesis}
use Rattle.ft_judge.specs.declared.judgement.Form.TheVariants.{Ty}
use Rattle.ft_meaning.specs.Texts.{Text, of_type_text}

-- a domain below n others
abbrev pub domain_text : Declarations → List ℕ → ℕ → Expression → Text
domain_text W vs n A = codes "{@" ++ decimal n ++ of_type_text W vs n A ++ codes "} "

-- domains, the first of them below n others
abbrev pub domains_text : Declarations → List ℕ → List Expression → ℕ → List ℕ → Text
domains_text W vs ts n [] = []
domains_text W vs ts n (d ∷ ds) = domain_text W vs n (tree ts d) ++ domains_text W vs ts (suc n) ds

-- the thesis is a plain one, `A type`
abbrev pub IsPlainType : Thesis → Type 0
IsPlainType x = (x.domains ≡ []) × (a : ℕ) × (x.form ≡ Ty a)
