-- Rules and claims with simple expressions.
use Rattle.std.specs.Prelude.{ℕ, List, [], ◌∷◌, map}
use Rattle.ft_theory.specs.Statements.{Claim, Statement, plain, abstracted}
use Rattle.ft_theory.specs.Rules.{Rule}
use Rattle.ft_items.specs.Store.{Assertion}
use Rattle.ft_run.specs.Session.{IsSimpleGoal, IsSimpleClaim}

-- a boundary without domains, with a simple goal
abbrev pub IsSimpleBoundary : Statement → Type 0
IsSimpleBoundary (plain c) = IsSimpleGoal c
IsSimpleBoundary (abstracted A x) = ⊥

-- premises with simple boundaries
abbrev pub AreSimplePremises : List (ℕ × Statement) → Type 0
AreSimplePremises [] = Unit {0}
AreSimplePremises (p ∷ ps) = IsSimpleBoundary p.1 × AreSimplePremises ps

-- a rule without domains whose expressions are simple
abbrev pub IsSimpleRule : Rule → Type 0
IsSimpleRule R = AreSimplePremises R.premises × IsSimpleGoal R.conclusion

-- simple claims
abbrev pub AreSimpleClaims : List Claim → Type 0
AreSimpleClaims [] = Unit {0}
AreSimpleClaims (c ∷ cs) = IsSimpleClaim c × AreSimpleClaims cs

-- claims as assertions that rest on nothing
abbrev pub assertions : List Claim → List Assertion
assertions cs = map (λ c. record { statement = plain c; set = [] }) cs
