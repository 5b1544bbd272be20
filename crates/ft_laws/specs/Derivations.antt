-- Laws of what is derivable: what it may mention, renaming, substitution, statements under a domain, longer theories, types.
-- After Haselwarter and Bauer, "Finitary type theories with and without contexts".
use Rattle.std.specs.Prelude.{ℕ, zero, Some, None, ◌≡◌, List, ◌∷◌, ◌++◌, ◌↔◌}
use Rattle.ft_theory.specs.Expressions.{Expression, free, substitute, Without}
use Rattle.ft_theory.specs.Statements.{is_type, has_type, equal_types, Statement, plain, abstracted, AllOfStatement, ClosedStatement, StatementMentionsOnly, act_statement, opened}
use Rattle.ft_theory.specs.Rules.{look_up, Rule}
use Rattle.ft_theory.specs.Steps.{Unmentioned, Prim}
use Rattle.ft_theory.specs.Derivability.{Der, DerUpTo, Finitary, FinitaryUpTo}
use Rattle.ft_laws.specs.Syntax.{PutsClosed, IsObjectPremise}

-- In every finitary theory, derivable is primitively derivable.
abbrev pub DerivableIsPrimitive : Type 0
DerivableIsPrimitive = (T : List Rule) → Finitary T → (M : List (ℕ × Statement)) (G : List (ℕ × Expression)) (x : Statement) → Der T M G x ↔ Prim T M G x

-- A theory is finitary by derivations of one level exactly where it is so by derivations of each.
abbrev pub FinitaryAtEachLevel : Type 0
FinitaryAtEachLevel = (k l : ℕ) (T : List Rule) → FinitaryUpTo k T → FinitaryUpTo l T

-- the map has a type for the variable
abbrev pub HasVariable : List (ℕ × Expression) → ℕ → Type 0
HasVariable G v = (A : Expression) × (look_up G v ≡ Some A)

-- What is primitively derivable, over any theory, is closed. It mentions only free variables that the sequent has, and only
-- object metavariables that it has, each at as many terms as its boundary has domains.
abbrev pub LawScope : Type 0
LawScope = (T : List Rule) (M : List (ℕ × Statement)) (G : List (ℕ × Expression)) (x : Statement) → Prim T M G x
    → ClosedStatement zero x × StatementMentionsOnly (HasVariable G) (IsObjectPremise M) x

-- the statement with a substitution done to it
abbrev pub substitute_statement : (ℕ → Expression) → Statement → Statement
substitute_statement s x = act_statement s (λ m k. None) x

-- Renaming: where each variable goes to a variable whose type is the renamed one, what is derivable is so when renamed.
abbrev pub LawRenaming : Type 0
LawRenaming = (T : List Rule) → Finitary T → (M : List (ℕ × Statement)) (G H : List (ℕ × Expression)) (r : ℕ → ℕ) (x : Statement)
    → ((v : ℕ) (A : Expression) → look_up G v ≡ Some A → look_up H (r v) ≡ Some (substitute (λ u. free (r u)) A))
    → Prim T M G x → Prim T M H (substitute_statement (λ u. free (r u)) x)

-- the map K has what the map H has
abbrev pub IsLarger : List (ℕ × Expression) → List (ℕ × Expression) → Type 0
IsLarger H K = (v : ℕ) (A : Expression) → look_up H v ≡ Some A → look_up K v ≡ Some A

-- The substitution s leads from the variables of G to terms over M and H: over each map that is larger than H, what is put for a
-- variable has the variable's substituted type, where that is a type. Nothing is asked where it is none, since no derivation uses
-- such a variable.
abbrev pub LeadsTo : List Rule → List (ℕ × Statement) → List (ℕ × Expression) → List (ℕ × Expression) → (ℕ → Expression) → Type 0
LeadsTo T M G H s = (v : ℕ) (A : Expression) → look_up G v ≡ Some A → (K : List (ℕ × Expression)) → IsLarger H K
    → Prim T M K (plain (is_type (substitute s A))) → Prim T M K (plain (has_type (s v) (substitute s A)))

-- Simultaneous substitution: where a substitution leads from the variables of one map to terms over another, what is derivable over
-- the first is, when substituted, derivable over the other.
abbrev pub LawSimultaneousSubstitution : Type 0
LawSimultaneousSubstitution = (T : List Rule) → Finitary T → (M : List (ℕ × Statement)) (G H : List (ℕ × Expression)) (s : ℕ → Expression) (x : Statement)
    → PutsClosed s → LeadsTo T M G H s
    → Prim T M G x → Prim T M H (substitute_statement s x)

-- a variable that the map neither has nor mentions
abbrev pub IsNew : ℕ → List (ℕ × Expression) → Type 0
IsNew v G = (look_up G v ≡ None) × Unmentioned v G

-- Over any theory, a statement under a domain is derivable only where the domain is a derivable type and the statement opened
-- at some new variable is derivable with that variable added.
abbrev pub LawDomain : Type 0
LawDomain = (T : List Rule) (M : List (ℕ × Statement)) (G : List (ℕ × Expression)) (A : Expression) (x : Statement) → Prim T M G (abstracted A x)
    → Prim T M G (plain (is_type A)) × (v : ℕ) × IsNew v G × Prim T M ((v, A) ∷ G) (opened (free v) (abstracted A x))

-- In a finitary theory this holds of each new variable that the statement does not mention, and it suffices.
abbrev pub LawDomainAtEach : Type 0
LawDomainAtEach = (T : List Rule) → Finitary T → (M : List (ℕ × Statement)) (G : List (ℕ × Expression)) (A : Expression) (x : Statement) (v : ℕ) → IsNew v G → AllOfStatement (λ k. Without v) zero x
    → Prim T M G (abstracted A x) ↔ (Prim T M G (plain (is_type A)) × Prim T M ((v, A) ∷ G) (opened (free v) (abstracted A x)))

-- What is derivable over a theory is derivable over every longer one.
abbrev pub LawLongerTheory : Type 0
LawLongerTheory = (k : ℕ) (T U : List Rule) (M : List (ℕ × Statement)) (G : List (ℕ × Expression)) (x : Statement) → DerUpTo k T M G x → DerUpTo k (T ++ U) M G x

-- The same by primitive steps.
abbrev pub LawLongerTheoryPrimitive : Type 0
LawLongerTheoryPrimitive = (T U : List Rule) (M : List (ℕ × Statement)) (G : List (ℕ × Expression)) (x : Statement) → Prim T M G x → Prim (T ++ U) M G x

-- In a finitary theory all types of a term are equal.
abbrev pub LawUniqueType : Type 0
LawUniqueType = (T : List Rule) → Finitary T → (M : List (ℕ × Statement)) (G : List (ℕ × Expression)) (t A B : Expression) → Prim T M G (plain (has_type t A)) → Prim T M G (plain (has_type t B)) → Prim T M G (plain (equal_types A B))
