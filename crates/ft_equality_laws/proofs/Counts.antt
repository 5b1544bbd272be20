-- Units are kept, and calls are answered by their programs.
use Rattle.std.proofs.Common.{ℕ, zero, suc, Bool, true, false, ◌≤◌, ◌+◌, ◌≡◌, refl, ap, ◌∙◌, arith, Ok, Err}
use Rattle.ft_theory.specs.Expressions.{Expression}
use Rattle.ft_items.specs.Store.{Declarations}
use Rattle.ft_sound.proofs.EqualLemmas.{expression_self}
use Rattle.ft_equality.specs.Shapes.{EqualityRules}
use Rattle.ft_equality.specs.Programs.{Question, types, terms, Program, give, stop, opens, asks, normalises, Units, Answer, after, spend_from, Solver, run, Bodies, solver, solve}
use Rattle.ft_equality.specs.Comparing.{yes_or}
use Rattle.ft_equality.specs.Equality.{bodies, by_normal_forms, types_are_equal, terms_at, terms_are_equal}
use Rattle.ft_equality.proofs.Fuel.{units, asks_unroll, normals_unroll}
use Rattle.ft_equality_laws.specs.Laws.{UsesUnits, UnitsAreKept, CallsUnroll, SameAreEqual}

pub record Keeps (S : Solver) : Type 0 where
  pub asks : (q : Question) (u : Units) → UsesUnits u (S.ask q u)
  pub normals : (e : Expression) (u : Units) → UsesUnits u (S.normal e u)

spend_keeps : {A : Type 0} (used left : ℕ) (next : Units → Answer A) → ((w : Units) → UsesUnits w (next w)) → UsesUnits (units used left) (spend_from used left next)
spend_keeps used zero next h = (refl, omega arith)
spend_keeps used (suc left) next h =
    let k : ((next (units (suc used) left)).1.used + (next (units (suc used) left)).1.left ≡ suc used + left) × (suc used ≤ (next (units (suc used) left)).1.used) = h (units (suc used) left) in
    (k.0 ∙ omega arith, omega (arith, k.1))

after_keeps : {A B : Type 0} (u : Units) (o : Answer A) (next : A → Units → Answer B) → UsesUnits u o → ((a : A) (w : Units) → UsesUnits w (next a w)) → UsesUnits u (after o next)
after_keeps u (Ok a, w) next h k =
    let r : ((next a w).1.used + (next a w).1.left ≡ w.used + w.left) × (w.used ≤ (next a w).1.used) = k a w in
    (r.0 ∙ h.0, omega (arith, h.1, r.1))
after_keeps u (Err e, w) next h k = h

run_keeps : {A : Type 0} (S : Solver) → Keeps S → (p : Program A) (u : Units) → UsesUnits u (run S p u)
run_keeps S s (give a) u = (refl, omega arith)
run_keeps S s stop u = (refl, omega arith)
run_keeps S s (opens k) u = spend_keeps u.used u.left (λ w. run S (k u.used) w) (λ w. run_keeps S s (k u.used) w)
run_keeps S s (asks q k) u = after_keeps u (S.ask q u) (λ b w. run S (k b) w) (s.asks q u) (λ b w. run_keeps S s (k b) w)
run_keeps S s (normalises e k) u = after_keeps u (S.normal e u) (λ f w. run S (k f) w) (s.normals e u) (λ f w. run_keeps S s (k f) w)

solver_keeps : (B : Bodies) (n : ℕ) → Keeps (solver B n)
solver_keeps B zero = record { asks = λ q u. (refl, omega arith); normals = λ e u. (refl, omega arith) }
solver_keeps B (suc n) = record {
  asks = λ q u. spend_keeps u.used u.left (run (solver B n) (B.asked q)) (run_keeps (solver B n) (solver_keeps B n) (B.asked q));
  normals = λ e u. spend_keeps u.used u.left (run (solver B n) (B.normal e)) (run_keeps (solver B n) (solver_keeps B n) (B.normal e));
}

module _ (W : Declarations) (E : EqualityRules) where
  types_keep : (A B : Expression) (u : Units) → UsesUnits u (types_are_equal W E A B u)
  types_keep A B u = (solver_keeps (bodies W E) u.left).asks (types A B) u

  terms_keep : (s A t B : Expression) (u : Units) → UsesUnits u (terms_are_equal W E s A t B u)
  terms_keep s A t B u = after_keeps u (types_are_equal W E A B u) (terms_at W E s t A) (types_keep A B u) go
    where
      go : (b : Bool) (w : Units) → UsesUnits w (terms_at W E s t A b w)
      go true w = (solver_keeps (bodies W E) w.left).asks (terms s t A) w
      go false w = (refl, omega arith)

pub units_are_kept : UnitsAreKept
units_are_kept W E u = (λ A B. types_keep W E A B u, λ s A t B. terms_keep W E s A t B u, λ e. (solver_keeps (bodies W E) u.left).normals e u)

pub calls_unroll : CallsUnroll
calls_unroll W E u = (λ A B. asks_unroll (bodies W E) (types A B) u, λ e. normals_unroll (bodies W E) e u)

pub same_are_equal : SameAreEqual
same_are_equal W E A used left = asks_unroll (bodies W E) (types A A) (units used (suc left)) ∙ ap (λ t. run (solve (bodies W E)) (yes_or t (by_normal_forms A A)) (units (suc used) left)) (expression_self A)
