-- Derivability with wide steps, level by level, and finitary theories.
-- After Haselwarter and Bauer, "Finitary type theories with and without contexts".
use Rattle.std.specs.Prelude.{ℕ, ◌≤◌, None, ◌≡◌, List, [], ◌∷◌, ◌++◌, ◌⊎◌}
use Rattle.ft_theory.specs.Statements.{Statement, plain, IsObjectGoal, IsEquationGoal, IsObject, IsEquation}
use Rattle.ft_theory.specs.Rules.{BoundaryMap, TypeMap, look_up, Rule}
use Rattle.ft_theory.specs.Steps.{Sequent, sequent, Step, Tree}
use Rattle.ft_theory.specs.WideSteps.{WideStep}

-- a primitive step, or a wide step of a kind up to k
abbrev pub StepUpTo : ℕ → List Rule → List Sequent → Sequent → Type 0
StepUpTo k T ps c = Step T ps c ⊎ ((n : ℕ) × (n ≤ k) × WideStep T n ps c)

-- derivable by primitive steps and wide steps of kinds up to k
abbrev pub DerUpTo : ℕ → List Rule → BoundaryMap → TypeMap → Statement → Type 0
DerUpTo k T M G x = Tree (StepUpTo k T) (sequent M G x)

-- derivable: by primitive steps and wide steps of all seven kinds
abbrev pub Der : List Rule → BoundaryMap → TypeMap → Statement → Type 0
Der T M G x = DerUpTo 7 T M G x

-- each premise's metavariable is new, and its boundary, which is one of an object or an equation, is derivable in the sense D over
-- the premises before it
abbrev pub PremisesHold : (BoundaryMap → Statement → Type 0) → BoundaryMap → BoundaryMap → Type 0
PremisesHold D ps [] = Unit {0}
PremisesHold D ps (q ∷ qs) =
    (look_up ps q.0 ≡ None) × (IsObject q.1 ⊎ IsEquation q.1) × D ps q.1
    × PremisesHold D (ps ++ (q ∷ [])) qs

-- a rule is well formed: its premises hold, and its conclusion is a boundary derivable over them
abbrev pub RuleHolds : (BoundaryMap → Statement → Type 0) → Rule → Type 0
RuleHolds D R =
    PremisesHold D [] R.premises × (IsObjectGoal R.conclusion ⊎ IsEquationGoal R.conclusion)
    × D R.premises (plain R.conclusion)

-- each further rule is well formed over the rules before it
abbrev pub FinitaryAfter : (List Rule → BoundaryMap → Statement → Type 0) → List Rule → List Rule
    → Type 0
FinitaryAfter D T [] = Unit {0}
FinitaryAfter D T (R ∷ Rs) = RuleHolds (D T) R × FinitaryAfter D (T ++ (R ∷ [])) Rs

-- A theory is finitary where each rule is well formed over the rules before it, without free variables. Here derivable means by
-- kinds up to k.
abbrev pub FinitaryUpTo : ℕ → List Rule → Type 0
FinitaryUpTo k T = FinitaryAfter (λ T M x. DerUpTo k T M [] x) [] T

-- finitary, where derivable is by all seven kinds of wide step
abbrev pub Finitary : List Rule → Type 0
Finitary T = FinitaryUpTo 7 T
