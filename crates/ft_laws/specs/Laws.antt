-- The laws of the wide steps, and of instances of whole judgements.
use Rattle.std.specs.Prelude.{ℕ, Some, None, ◌≡◌, List, [], ◌∷◌, ◌++◌, ◌↔◌}
use Rattle.ft_theory.specs.Expressions.{Expression, free, Arguments, act, MentionsOnly}
use Rattle.ft_theory.specs.Statements.{Statement, StatementMentionsOnly, act_statement, fill, equate, IsObject}
use Rattle.ft_theory.specs.Rules.{look_up, Rule, instance_of, FitsPremises, filled_premises, equated_premises}
use Rattle.ft_theory.specs.Steps.{Sequent, Prim}
use Rattle.ft_theory.specs.WideSteps.{WideStep}
use Rattle.ft_theory.specs.Derivability.{DerUpTo, Finitary, FinitaryUpTo}

-- each of the list is as P says
abbrev pub Each : {X : Type 0} → (X → Type 0) → List X → Type 0
Each P [] = Unit {0}
Each P (x ∷ xs) = P x × Each P xs

-- the sequent is derivable by primitive steps
abbrev pub IsPrimitive : List Rule → Sequent → Type 0
IsPrimitive T c = Prim T c.metavariables c.variables c.statement

-- Over a theory the wide steps of kind k are admissible: where the premises of one are derivable by primitive steps, so is its
-- conclusion.
abbrev pub IsAdmissible : ℕ → List Rule → Type 0
IsAdmissible k T = (ps : List Sequent) (c : Sequent) → WideStep T k ps c → Each (IsPrimitive T) ps → IsPrimitive T c

-- In every finitary theory the wide steps of kind k are admissible.
abbrev pub KindIsAdmissible : ℕ → Type 0
KindIsAdmissible k = (T : List Rule) → Finitary T → IsAdmissible k T

-- At level k: in every theory that is finitary by derivations of that level, derivable by kinds up to k is primitively
-- derivable, for all maps of metavariables and variables and all theses and boundaries.
abbrev pub Law : ℕ → Type 0
Law k = (T : List Rule) → FinitaryUpTo k T → (M : List (ℕ × Statement)) (G : List (ℕ × Expression)) (x : Statement) → DerUpTo k T M G x ↔ Prim T M G x

-- the metavariables ms are not mentioned
abbrev pub Avoids : List (ℕ × Statement) → Expression → Type 0
Avoids ms e = MentionsOnly (λ v. Unit {0}) (λ m k. look_up ms m ≡ None) e

-- the metavariables ms are not mentioned in the statement
abbrev pub StatementAvoids : List (ℕ × Statement) → Statement → Type 0
StatementAvoids ms x = StatementMentionsOnly (λ v. Unit {0}) (λ m k. look_up ms m ≡ None) x

-- A statement over further metavariables ms that nothing else mentions, with a derivable argument for each of them:
-- its instance is derivable without them.
abbrev pub LawInstantiate : ℕ → Type 0
LawInstantiate k = (T : List Rule) → FinitaryUpTo k T → (ms M : List (ℕ × Statement)) (G : List (ℕ × Expression)) (a : Arguments) (x : Statement)
    → ((m : ℕ) (b : Statement) → look_up ms m ≡ Some b → look_up M m ≡ None)
    → ((v : ℕ) (A : Expression) → look_up G v ≡ Some A → Avoids ms A) → ((m : ℕ) (b : Statement) → look_up M m ≡ Some b → StatementAvoids ms b)
    → FitsPremises ms a → Each (λ y. DerUpTo k T M G y) (filled_premises (instance_of ms a) ms a)
    → DerUpTo k T (ms ++ M) G x → DerUpTo k T M G (act_statement free (instance_of ms a) x)

-- An object thesis over further metavariables ms that nothing else mentions, with a derivable argument for each of them and
-- equal ones: the equation between the two instances of its head is derivable without them.
abbrev pub LawEqualInstantiate : ℕ → Type 0
LawEqualInstantiate k = (T : List Rule) → FinitaryUpTo k T → (ms M : List (ℕ × Statement)) (G : List (ℕ × Expression)) (a c : Arguments) (b : Statement) (h : Expression)
    → ((m : ℕ) (b : Statement) → look_up ms m ≡ Some b → look_up M m ≡ None)
    → ((v : ℕ) (A : Expression) → look_up G v ≡ Some A → Avoids ms A) → ((m : ℕ) (b : Statement) → look_up M m ≡ Some b → StatementAvoids ms b)
    → FitsPremises ms a → FitsPremises ms c → Each (λ y. DerUpTo k T M G y) (filled_premises (instance_of ms a) ms a) → Each (λ y. DerUpTo k T M G y) (equated_premises (instance_of ms a) ms a c)
    → IsObject b → DerUpTo k T (ms ++ M) G (fill b h)
    → DerUpTo k T M G (equate (act_statement free (instance_of ms a) b) (act free (instance_of ms a) h) (act free (instance_of ms c) h))
