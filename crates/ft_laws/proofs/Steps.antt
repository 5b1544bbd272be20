-- The primitive steps as functions on trees.
use Rattle.std.proofs.Common.{◌≡◌, ℕ, Some, List, [], ◌∷◌}
use Rattle.ft_theory.specs.Expressions.{Expression, free}
use Rattle.ft_theory.specs.Statements.{is_type, has_type, equal_types, equal_terms, type_goal, term_goal, type_equation_goal, term_equation_goal, Statement, plain}
use Rattle.ft_theory.specs.Rules.{look_up, Rule}
use Rattle.ft_theory.specs.Steps.{sequent, variable, reflexive_type, reflexive_term, symmetric_types, symmetric_terms, transitive_types, transitive_terms, convert_term, convert_equation, for_type, for_term, for_types, for_terms, node, none, more, Prim}

pub do_reflexive_type : {T : List Rule} {M : List (ℕ × Statement)} {G : List (ℕ × Expression)} {A : Expression} → Prim T M G (plain (is_type A)) → Prim T M G (plain (equal_types A A))
do_reflexive_type {T} {M} {G} {A} p = node (sequent M G (plain (is_type A)) ∷ []) (reflexive_type A) (more p none)

pub do_reflexive_term : {T : List Rule} {M : List (ℕ × Statement)} {G : List (ℕ × Expression)} {t : Expression} {A : Expression} → Prim T M G (plain (has_type t A)) → Prim T M G (plain (equal_terms t t A))
do_reflexive_term {T} {M} {G} {t} {A} p = node (sequent M G (plain (has_type t A)) ∷ []) (reflexive_term t A) (more p none)

pub do_symmetric_types : {T : List Rule} {M : List (ℕ × Statement)} {G : List (ℕ × Expression)} {A : Expression} {B : Expression} → Prim T M G (plain (equal_types A B)) → Prim T M G (plain (equal_types B A))
do_symmetric_types {T} {M} {G} {A} {B} p = node (sequent M G (plain (equal_types A B)) ∷ []) (symmetric_types A B) (more p none)

pub do_symmetric_terms : {T : List Rule} {M : List (ℕ × Statement)} {G : List (ℕ × Expression)} {s : Expression} {t : Expression} {A : Expression} → Prim T M G (plain (equal_terms s t A)) → Prim T M G (plain (equal_terms t s A))
do_symmetric_terms {T} {M} {G} {s} {t} {A} p = node (sequent M G (plain (equal_terms s t A)) ∷ []) (symmetric_terms s t A) (more p none)

pub do_transitive_types : {T : List Rule} {M : List (ℕ × Statement)} {G : List (ℕ × Expression)} {A : Expression} {B : Expression} {C : Expression} → Prim T M G (plain (equal_types A B)) → Prim T M G (plain (equal_types B C)) → Prim T M G (plain (equal_types A C))
do_transitive_types {T} {M} {G} {A} {B} {C} p q = node (sequent M G (plain (equal_types A B)) ∷ sequent M G (plain (equal_types B C)) ∷ []) (transitive_types A B C) (more p (more q none))

pub do_transitive_terms : {T : List Rule} {M : List (ℕ × Statement)} {G : List (ℕ × Expression)} {s : Expression} {t : Expression} {u : Expression} {A : Expression} → Prim T M G (plain (equal_terms s t A)) → Prim T M G (plain (equal_terms t u A)) → Prim T M G (plain (equal_terms s u A))
do_transitive_terms {T} {M} {G} {s} {t} {u} {A} p q = node (sequent M G (plain (equal_terms s t A)) ∷ sequent M G (plain (equal_terms t u A)) ∷ []) (transitive_terms s t u A) (more p (more q none))

pub do_convert_term : {T : List Rule} {M : List (ℕ × Statement)} {G : List (ℕ × Expression)} {t : Expression} {A : Expression} {B : Expression} → Prim T M G (plain (has_type t A)) → Prim T M G (plain (equal_types A B)) → Prim T M G (plain (has_type t B))
do_convert_term {T} {M} {G} {t} {A} {B} p q = node (sequent M G (plain (has_type t A)) ∷ sequent M G (plain (equal_types A B)) ∷ []) (convert_term t A B) (more p (more q none))

pub do_convert_equation : {T : List Rule} {M : List (ℕ × Statement)} {G : List (ℕ × Expression)} {s : Expression} {t : Expression} {A : Expression} {B : Expression} → Prim T M G (plain (equal_terms s t A)) → Prim T M G (plain (equal_types A B)) → Prim T M G (plain (equal_terms s t B))
do_convert_equation {T} {M} {G} {s} {t} {A} {B} p q = node (sequent M G (plain (equal_terms s t A)) ∷ sequent M G (plain (equal_types A B)) ∷ []) (convert_equation s t A B) (more p (more q none))

pub do_for_term : {T : List Rule} {M : List (ℕ × Statement)} {G : List (ℕ × Expression)} {A : Expression} → Prim T M G (plain (is_type A)) → Prim T M G (plain (term_goal A))
do_for_term {T} {M} {G} {A} p = node (sequent M G (plain (is_type A)) ∷ []) (for_term A) (more p none)

pub do_for_types : {T : List Rule} {M : List (ℕ × Statement)} {G : List (ℕ × Expression)} {A : Expression} {B : Expression} → Prim T M G (plain (is_type A)) → Prim T M G (plain (is_type B)) → Prim T M G (plain (type_equation_goal A B))
do_for_types {T} {M} {G} {A} {B} p q = node (sequent M G (plain (is_type A)) ∷ sequent M G (plain (is_type B)) ∷ []) (for_types A B) (more p (more q none))

pub do_for_terms : {T : List Rule} {M : List (ℕ × Statement)} {G : List (ℕ × Expression)} {s : Expression} {t : Expression} {A : Expression} → Prim T M G (plain (is_type A)) → Prim T M G (plain (has_type s A)) → Prim T M G (plain (has_type t A)) → Prim T M G (plain (term_equation_goal s t A))
do_for_terms {T} {M} {G} {s} {t} {A} p q r = node (sequent M G (plain (is_type A)) ∷ sequent M G (plain (has_type s A)) ∷ sequent M G (plain (has_type t A)) ∷ []) (for_terms s t A) (more p (more q (more r none)))

pub do_for_type : {T : List Rule} {M : List (ℕ × Statement)} {G : List (ℕ × Expression)} → Prim T M G (plain type_goal)
do_for_type = node [] for_type none

pub do_variable : {T : List Rule} {M : List (ℕ × Statement)} {G : List (ℕ × Expression)} (v : ℕ) {A : Expression} → look_up G v ≡ Some A → Prim T M G (plain (is_type A)) → Prim T M G (plain (has_type (free v) A))
do_variable {T} {M} {G} v {A} q p = node (sequent M G (plain (is_type A)) ∷ []) (variable v A q) (more p none)
