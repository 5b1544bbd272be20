-- Laws of the syntax: opening and closing, substitution, instances.
-- After the raw syntax of Haselwarter and Bauer, "Finitary type theories with and without contexts".
use Rattle.std.specs.Prelude.{ℕ, zero, ◌≡◌, Option, Some, None, List}
use Rattle.ft_theory.specs.Expressions.{Expression, free, Arguments, act_arguments, substitute, in_place_of, instantiate, ClosedAt, Without, open_at, close_at}
use Rattle.ft_theory.specs.Statements.{Statement, abstracted, AllOfStatement, ClosedStatement, StatementMentionsOnly, act_statement, close_statement, opened, domain_count, IsObject}
use Rattle.ft_theory.specs.Rules.{look_up, instance_of, FitsPremises}

-- Opening at a variable undoes closing over it: what is closed but for k bound variables comes back.
abbrev pub OpenUndoesClose : Type 0
OpenUndoesClose = (k v : ℕ) (e : Expression) → ClosedAt k e → open_at k (free v) (close_at k v e) ≡ e

-- Closing over a variable undoes opening at it: what does not mention the variable comes back.
abbrev pub CloseUndoesOpen : Type 0
CloseUndoesOpen = (k v : ℕ) (e : Expression) → Without v e → close_at k v (open_at k (free v) e) ≡ e

-- The same for a closed statement, of which a variable is made the first domain's.
abbrev pub OpenUndoesCloseInStatement : Type 0
OpenUndoesCloseInStatement = (v : ℕ) (A : Expression) (x : Statement) → ClosedStatement zero x → opened (free v) (abstracted A (close_statement v x)) ≡ x

-- The same for a statement under a domain, which does not mention the variable.
abbrev pub CloseUndoesOpenInStatement : Type 0
CloseUndoesOpenInStatement = (v : ℕ) (A : Expression) (x : Statement) → AllOfStatement (λ k. Without v) zero x → close_statement v (opened (free v) (abstracted A x)) ≡ x

-- what a substitution puts is closed
abbrev pub PutsClosed : (ℕ → Expression) → Type 0
PutsClosed s = (v : ℕ) → ClosedAt zero (s v)

-- Substitution is simultaneous: what is put is not looked at again. So a substitution after another is the substitution that
-- puts what the first puts with the second done to it.
abbrev pub SubstitutionAfterSubstitution : Type 0
SubstitutionAfterSubstitution = (s t : ℕ → Expression) (e : Expression) → PutsClosed s → substitute s (substitute t e) ≡ substitute (λ v. substitute s (t v)) e

-- A term put for a variable that is not mentioned changes nothing.
abbrev pub SubstitutionOfAbsent : Type 0
SubstitutionOfAbsent = (v : ℕ) (t e : Expression) → Without v e → substitute (in_place_of v t) e ≡ e

-- Opening at a closed term is opening at a variable that is not mentioned, with the term then put for it.
abbrev pub OpenIsSubstitution : Type 0
OpenIsSubstitution = (k v : ℕ) (t e : Expression) → ClosedAt zero t → Without v e → substitute (in_place_of v t) (open_at k (free v) e) ≡ open_at k t e

-- what an instance puts for a metavariable at k terms is closed but for k bound variables
abbrev pub HasClosedBodies : (ℕ → ℕ → Option Expression) → Type 0
HasClosedBodies i = (m k : ℕ) (e : Expression) → i m k ≡ Some e → ClosedAt k e

-- the instance that has the first one's bodies at i, and else those of i
abbrev pub instance_after : (ℕ → ℕ → Option Expression) → (ℕ → ℕ → Option Expression) → ℕ → ℕ → Option Expression
instance_after i j m k = elim (j m k) as (λ o. Option Expression) [ None ↦ i m k | Some e ↦ Some (instantiate i e) ]

-- An instance of an instance is an instance.
abbrev pub InstanceOfInstance : Type 0
InstanceOfInstance = (i j : ℕ → ℕ → Option Expression) (e : Expression) → HasClosedBodies i → instantiate i (instantiate j e) ≡ instantiate (instance_after i j) e

-- the premises' object metavariables, each at as many terms as its boundary has domains
abbrev pub IsObjectPremise : List (ℕ × Statement) → ℕ → ℕ → Type 0
IsObjectPremise ps m k = (b : Statement) × (look_up ps m ≡ Some b) × IsObject b × (k ≡ domain_count b)

-- An instance of a rule's boundary at arguments is, at a further instance, its instance at the arguments' instances.
abbrev pub InstanceOfRuleInstance : Type 0
InstanceOfRuleInstance = (i : ℕ → ℕ → Option Expression) (ps : List (ℕ × Statement)) (a : Arguments) (b : Statement) → HasClosedBodies i → FitsPremises ps a → StatementMentionsOnly (λ v. ⊥) (IsObjectPremise ps) b
    → act_statement free i (act_statement free (instance_of ps a) b) ≡ act_statement free (instance_of ps (act_arguments free i a)) b
