-- Conditions that carry weight: the laws without a premise of theirs are false, and there is no strengthening.
use Rattle.std.specs.Prelude.{ℕ, ◌≤◌, Some, ◌≡◌, List, ◌∷◌, ◌⊎◌, ◌↔◌}
use Rattle.ft_theory.specs.Expressions.{Expression, meta, Terms, count, Without}
use Rattle.ft_theory.specs.Statements.{is_type, has_type, Statement, plain, abstracted, AllOfStatement, opened, domain_count, at, fill, IsObject}
use Rattle.ft_theory.specs.Rules.{look_up, Rule, term_typings}
use Rattle.ft_theory.specs.Steps.{Sequent, sequent, sequents, IsVariableFree, Step, Tree, Prim}
use Rattle.ft_theory.specs.Derivability.{DerUpTo, Finitary}
use Rattle.ft_laws.specs.Derivations.{IsNew}

-- the law at level k, without the premise that the theory is finitary
abbrev pub LawForAllTheories : ℕ → Type 0
LawForAllTheories k = (T : List Rule) (M : List (ℕ × Statement)) (G : List (ℕ × Expression)) (x : Statement) → DerUpTo k T M G x ↔ Prim T M G x

-- From level one on the law is false for theories that are not finitary: a rule's boundary may have a free variable.
abbrev pub LawNeedsFinitary : Type 0
LawNeedsFinitary = (k : ℕ) → 1 ≤ k → LawForAllTheories k → ⊥

-- the metavariable row without the premise that its boundary is derivable
pub data LooseMetavariable : List Sequent → Sequent → Type 0 where
  loose : {M : List (ℕ × Statement)} {G : List (ℕ × Expression)} (m : ℕ) (b : Statement) (a : Terms) → look_up M m ≡ Some b → IsVariableFree b → IsObject b → count a ≡ domain_count b
      → LooseMetavariable (sequents M G (term_typings b a)) (sequent M G (fill (at b a) (meta m a)))

-- derivable by primitive steps and that row
abbrev pub Loose : List Rule → List (ℕ × Statement) → List (ℕ × Expression) → Statement → Type 0
Loose T M G x = Tree (λ ps c. Step T ps c ⊎ LooseMetavariable ps c) (sequent M G x)

-- With that row the law on sides is false: a derivable term may have a type that is not derivable.
abbrev pub SidesNeedTheBoundary : Type 0
SidesNeedTheBoundary = ((T : List Rule) → Finitary T → (M : List (ℕ × Statement)) (G : List (ℕ × Expression)) (t A : Expression) → Loose T M G (plain (has_type t A)) → Loose T M G (plain (is_type A))) → ⊥

-- the metavariable row without the condition that its boundary has no free variables
pub data OpenMetavariable : List Sequent → Sequent → Type 0 where
  with_open_boundary : {M : List (ℕ × Statement)} {G : List (ℕ × Expression)} (m : ℕ) (b : Statement) (a : Terms) → look_up M m ≡ Some b → IsObject b → count a ≡ domain_count b
      → OpenMetavariable (sequent M G b ∷ sequents M G (term_typings b a)) (sequent M G (fill (at b a) (meta m a)))

-- derivable by primitive steps and that row
abbrev pub WithOpenBoundaries : List Rule → List (ℕ × Statement) → List (ℕ × Expression) → Statement → Type 0
WithOpenBoundaries T M G x = Tree (λ ps c. Step T ps c ⊎ OpenMetavariable ps c) (sequent M G x)

-- With that row the law on substitution is false.
abbrev pub SubstitutionNeedsVariableFree : Type 0
SubstitutionNeedsVariableFree = ((T : List Rule) → Finitary T → (M : List (ℕ × Statement)) (G : List (ℕ × Expression)) (A t : Expression) (x : Statement)
    → WithOpenBoundaries T M G (abstracted A x) → WithOpenBoundaries T M G (plain (has_type t A)) → WithOpenBoundaries T M G (opened t (abstracted A x))) → ⊥

-- There is no strengthening: a variable that a statement does not mention cannot always be dropped.
abbrev pub NoStrengthening : Type 0
NoStrengthening = ((T : List Rule) → Finitary T → (M : List (ℕ × Statement)) (G : List (ℕ × Expression)) (v : ℕ) (A : Expression) (x : Statement) → IsNew v G → AllOfStatement (λ k. Without v) 0 x → Prim T M ((v, A) ∷ G) x → Prim T M G x) → ⊥
