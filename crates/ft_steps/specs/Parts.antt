-- A statement that the program takes apart, as a statement.
use Rattle.std.specs.Prelude.{ℕ, ◌<◌, ◌&&◌, Bool, true, false, List, [], ◌∷◌}
use Rattle.ft_theory.specs.Expressions.{Expression}
use Rattle.ft_theory.specs.Statements.{Claim as AnyClaim, is_type, has_type, equal_types, equal_terms, type_goal, term_goal, type_equation_goal, term_equation_goal, Statement, plain}
use Rattle.ft_items.specs.Equal.{equal_expressions}
use Rattle.ft_syntax.specs.Table.{tree, AllBelow}
use Rattle.ft_judge.specs.Meaning.{under}
use Rattle.ft_steps.specs.declared.parts.Claim.{Claim}
use Rattle.ft_steps.specs.declared.parts.Claim.TheVariants.{IsType, HasType, EqualTypes, EqualTerms, TypeGoal, TermGoal, TypeEquationGoal, TermEquationGoal}
use Rattle.ft_steps.specs.declared.parts.Parts.{Parts}

-- a claim or goal over the trees of a table
abbrev pub claim_in : List Expression → Claim → AnyClaim
claim_in ts (IsType A) = is_type (tree ts A)
claim_in ts (HasType t A) = has_type (tree ts t) (tree ts A)
claim_in ts (EqualTypes A B) = equal_types (tree ts A) (tree ts B)
claim_in ts (EqualTerms s t A) = equal_terms (tree ts s) (tree ts t) (tree ts A)
claim_in ts TypeGoal = type_goal
claim_in ts (TermGoal A) = term_goal (tree ts A)
claim_in ts (TypeEquationGoal A B) = type_equation_goal (tree ts A) (tree ts B)
claim_in ts (TermEquationGoal s t A) = term_equation_goal (tree ts s) (tree ts t) (tree ts A)

-- the claim as a statement without domains
abbrev pub plain_in : List Expression → Claim → Statement
plain_in ts c = plain (claim_in ts c)

-- the claim below its domains, as a statement
abbrev pub statement_in : List Expression → Parts → Statement
statement_in ts x = under ts x.domains.now (plain (claim_in ts x.claim))

-- each expression of the claim is among the first n trees
abbrev pub ClaimBelow : ℕ → Claim → Type 0
ClaimBelow n (IsType A) = A < n
ClaimBelow n (HasType t A) = (t < n) × (A < n)
ClaimBelow n (EqualTypes A B) = (A < n) × (B < n)
ClaimBelow n (EqualTerms s t A) = (s < n) × (t < n) × (A < n)
ClaimBelow n TypeGoal = Unit {0}
ClaimBelow n (TermGoal A) = A < n
ClaimBelow n (TypeEquationGoal A B) = (A < n) × (B < n)
ClaimBelow n (TermEquationGoal s t A) = (s < n) × (t < n) × (A < n)

-- each expression of the statement is among the first n trees
abbrev pub PartsBelow : ℕ → Parts → Type 0
PartsBelow n x = AllBelow n x.domains.now × ClaimBelow n x.claim

-- the test that two lists of domains are the same
abbrev pub equal_domains : List Expression → List ℕ → List ℕ → Bool
equal_domains ts [] [] = true
equal_domains ts [] (B ∷ Bs) = false
equal_domains ts (A ∷ As) [] = false
equal_domains ts (A ∷ As) (B ∷ Bs) = equal_expressions (tree ts A) (tree ts B) && equal_domains ts As Bs
