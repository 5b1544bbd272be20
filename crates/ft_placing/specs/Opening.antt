-- Terms put for the variables of domains.
use Rattle.std.specs.Prelude.{ℕ, ◌+◌, Bool, List, [], ◌∷◌, length, map}
use Rattle.ft_theory.specs.Expressions.{Expression, meta, Terms, no_terms, also, open_at}
use Rattle.ft_theory.specs.Statements.{Claim, map_claim}
use Rattle.ft_items.specs.Equal.{equal_expressions}
use Rattle.ft_syntax.specs.Table.{tree}
use Rattle.ft_judge.specs.Meaning.{goal_in}
use Rattle.ft_judge.specs.declared.judgement.Goal.{Goal}

-- the expression, below k domains that stay around it, with terms for the variables of the domains before these: the first term
-- for the outermost
abbrev pub opened_by : ℕ → List Expression → Expression → Expression
opened_by k [] e = e
opened_by k (t ∷ as') e = opened_by k as' (open_at (length as' + k) t e)

-- the terms of a list, as those of a metavariable
abbrev pub listed : List Expression → Terms
listed [] = no_terms
listed (t ∷ as') = also t (listed as')

-- the trees of these numbers
abbrev pub trees_of : List Expression → List ℕ → List Expression
trees_of ts es = map (tree ts) es

-- the test that the expression found is the wanted one with the terms put
abbrev pub is_put : List Expression → List ℕ → ℕ → ℕ → Bool
is_put ts es wanted found = equal_expressions (opened_by 0 (trees_of ts es) (tree ts wanted)) (tree ts found)

-- the metavariable at the terms
abbrev pub meta_at : List Expression → ℕ → List ℕ → Expression
meta_at ts m es = meta m (listed (trees_of ts es))

-- the goal with the terms put
abbrev pub goal_put : List Expression → List ℕ → Goal → Claim
goal_put ts es g = map_claim (opened_by 0 (trees_of ts es)) (goal_in ts g)
