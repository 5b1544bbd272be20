-- What has to be the same for a thesis to fit an instance of a boundary.
use Rattle.std.specs.Prelude.{ℕ, ◌<◌, ◌&&◌, Bool, true, false, List, [], ◌∷◌}
use Rattle.std.specs.List.{list_all}
use Rattle.ft_theory.specs.Expressions.{Expression}
use Rattle.ft_items.specs.Equal.{equal_expressions}
use Rattle.ft_syntax.specs.Table.{tree}
use Rattle.ft_judge.specs.declared.judgement.Form.{Form}
use Rattle.ft_judge.specs.declared.judgement.Form.TheVariants.{Ty, Tm, EqTy, EqTm}
use Rattle.ft_syntax.specs.declared.syntax.Arg.{Arg}
use Rattle.ft_check.specs.declared.compare.Compared.{Compared}

-- the test that what is found is the instance of what is wanted, where j forms instances
abbrev pub same_at : List Expression → (Expression → Expression) → Compared → Bool
same_at ts j p = equal_expressions (tree ts p.found) (j (tree ts p.wanted))

-- and so for all of these
abbrev pub all_same : List Expression → (Expression → Expression) → List Compared → Bool
all_same ts j ps = list_all (same_at ts j) ps

-- the test that the head of a form, where it has one, is the expression h
abbrev pub head_same : List Expression → Expression → Form → Bool
head_same ts h (Ty A) = equal_expressions (tree ts A) h
head_same ts h (Tm t A) = equal_expressions (tree ts t) h
head_same ts h (EqTy A B) = true
head_same ts h (EqTm s t A) = true

-- the test that as many domains are found, each the instance of the one wanted
abbrev pub domains_same : List Expression → (Expression → Expression) → List ℕ → List ℕ → Bool
domains_same ts j [] [] = true
domains_same ts j [] (B ∷ Bs) = false
domains_same ts j (A ∷ As) [] = false
domains_same ts j (A ∷ As) (B ∷ Bs) = equal_expressions (tree ts A) (j (tree ts B)) && domains_same ts j As Bs

-- all are among the first n trees
abbrev pub ComparedBelow : ℕ → List Compared → Type 0
ComparedBelow n [] = Unit {0}
ComparedBelow n (p ∷ ps) = (p.found < n) × (p.wanted < n) × ComparedBelow n ps

-- each metavariable with the argument in its place
abbrev pub paired : List ℕ → List Arg → List (ℕ × Arg)
paired [] as' = []
paired (m ∷ ms) [] = []
paired (m ∷ ms) (a ∷ as') = (m, a) ∷ paired ms as'
