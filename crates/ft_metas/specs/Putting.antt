-- Terms put for the variables of domains, and goals that are filled with a metavariable at terms.
use Rattle.std.specs.Prelude.{ℕ, zero, suc, ◌≡◌, Bool, List, [], ◌∷◌, length, map}
use Rattle.ft_theory.specs.Expressions.{Expression, bound, meta, Terms, no_terms, also, open_at}
use Rattle.ft_theory.specs.Statements.{Claim, map_claim, fill_goal, equate_goal}
use Rattle.ft_items.specs.Equal.{is_object_goal}
use Rattle.ft_syntax.specs.Table.{tree, terms_in}
use Rattle.ft_judge.specs.Meaning.{claim_in, goal_in}
use Rattle.ft_judge.specs.declared.judgement.Form.{Form}
use Rattle.ft_judge.specs.declared.judgement.Goal.{Goal}

-- the terms of a list
abbrev pub terms_of : List Expression → Terms
terms_of [] = no_terms
terms_of (T ∷ Ts) = also T (terms_of Ts)

-- the expression below as many domains as there are terms, with the terms for their variables, in order
abbrev pub with_terms : List Expression → Expression → Expression
with_terms [] E = E
with_terms (T ∷ Ts) E = with_terms Ts (open_at (length Ts) T E)

-- the same over a table
abbrev pub put_in : List Expression → List ℕ → ℕ → Expression
put_in ts es e = with_terms (map (tree ts) es) (tree ts e)

-- the claim or goal with the terms, likewise
abbrev pub claim_with : List Expression → Claim → Claim
claim_with Ts c = map_claim (with_terms Ts) c

abbrev pub goal_with : List Expression → List ℕ → Claim → Claim
goal_with ts es c = claim_with (map (tree ts) es) c

-- the metavariable at terms of the table
abbrev pub meta_in : List Expression → ℕ → List ℕ → Expression
meta_in ts m es = meta m (terms_in ts es)

-- the goal filled with the metavariable at the terms
abbrev pub filled_at : List Expression → Goal → ℕ → List ℕ → Claim
filled_at ts g m es = fill_goal (goal_in ts g) (meta_in ts m es)

-- the equation of the metavariable at two lists of terms, for an object goal
abbrev pub equated_at : List Expression → Goal → ℕ → List ℕ → List ℕ → Claim
equated_at ts g m es fs = equate_goal (goal_in ts g) (meta_in ts m es) (meta_in ts m fs)

-- the bound variables of n domains as a list, the outermost first
abbrev pub bound_list : ℕ → List Expression
bound_list zero = []
bound_list (suc n) = bound n ∷ bound_list n

-- whether the goal is that of a type or a term, over each table
abbrev pub IsObjectOver : Goal → Bool → Type 0
IsObjectOver g b = (ts : List Expression) → is_object_goal (goal_in ts g) ≡ b

-- the form is the equation of two types or of two terms for the goal, over each table
abbrev pub IsEquationOf : Goal → ℕ → ℕ → Form → Type 0
IsEquationOf g l r f = (ts : List Expression) → claim_in ts f ≡ equate_goal (goal_in ts g) (tree ts l) (tree ts r)
