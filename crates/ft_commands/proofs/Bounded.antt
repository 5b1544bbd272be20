-- Boundaries of which parts are claimed first.
use Rattle.std.proofs.Common.{◌≡◌, ℕ, sym, subst}
use Rattle.std.specs.Prelude.{Result, Ok, Err}
use Rattle.ft_items.specs.Store.{Assertion}
use Rattle.ft_kernel.specs.State.{IsThesisOf}
use Rattle.ft_reference.specs.Nucleus as reference
use Rattle.ft_meaning.specs.Trees.{Form, term_body, types_body, terms_body}
use Rattle.ft_meaning.specs.Values.{Environment, Outcome, Run, after, nucleus}
use Rattle.ft_meaning.specs.Forms.{judgement_of}
use Rattle.ft_meaning.specs.Commands.{boundary_by}
use Rattle.ft_values.specs.Kept.{stated_at}
use Rattle.ft_values.specs.declared.scopes.Scope.{Scope}
use Rattle.ft_running.specs.declared.ending.End.{End}
use Rattle.ft_running.specs.Evaluation.{Evaluation, IsEvaluation, GoesFurther, run_of, environment_of, IsScopeIn}
use Rattle.ft_running.specs.Asked.{TellsEntry, TellsGoal}
use Rattle.ft_running.proofs.Further.{environment_further, stated_further}
use Rattle.ft_commands.proofs.Claimed.{ends_after}

-- what follows a value that a run gave
pub follows : {A B : Type 0} (P : Outcome B → Type 0) (o : Outcome A) (next : A → Run B) (a : A) (e : Evaluation)
    → o ≡ (Ok a, run_of e) → P (next a (run_of e)) → P (after o next)
follows P o next a e is h = subst (λ o. P (after o next)) (sym is) h

-- ---- of terms

pub term_bounded : (f g : Evaluation) (at : ℕ) (ty : Form) (e : Evaluation) (G : Environment) (j : ℕ) (r : Result ℕ End)
    → TellsEntry (judgement_of ty G (run_of e)) (Ok j) f
    → TellsGoal (nucleus at (λ W. reference.boundary_term W (stated_at f.list j)) (run_of f)) r g
    → TellsGoal (boundary_by at (term_body ty) G (run_of e)) r g
term_bounded f g at ty e G j r claimed told =
    follows (λ o. TellsGoal o r g) (judgement_of ty G (run_of e)) (λ A. nucleus at (λ W. reference.boundary_term W A))
    (stated_at f.list j) f claimed.0 told

pub term_ends : (f : Evaluation) (at : ℕ) (ty : Form) (e : Evaluation) (G : Environment) (end : End)
    → TellsEntry (judgement_of ty G (run_of e)) (Err end) f
    → TellsGoal (boundary_by at (term_body ty) G (run_of e)) (Err end) f
term_ends f at ty e G end told =
    ends_after (judgement_of ty G (run_of e)) (λ A. nucleus at (λ W. reference.boundary_term W A)) end f told

-- ---- two claims in turn

-- a second claim in the scope of the first
second_claim : (e f g : Evaluation) (a : Form) (s : Scope) (r : Result ℕ End) → IsEvaluation e → GoesFurther e f → IsScopeIn e s
    → TellsEntry (judgement_of a (environment_of f s) (run_of f)) r g → TellsEntry (judgement_of a (environment_of e s) (run_of f)) r g
second_claim e f g a s r is on scope told =
    subst (λ G. TellsEntry (judgement_of a G (run_of f)) r g) (environment_further e f s is on scope) told

-- both judgements in the state after them, with what follows
both_claimed : (e f g : Evaluation) (a b : Form) (s : Scope) (i j : ℕ) (r : Result ℕ End) (h : Evaluation) (next : Assertion → Assertion → Run Assertion)
    → IsEvaluation e → GoesFurther e f → IsScopeIn e s → GoesFurther f g
    → TellsEntry (judgement_of a (environment_of e s) (run_of e)) (Ok i) f
    → TellsEntry (judgement_of b (environment_of f s) (run_of f)) (Ok j) g
    → TellsGoal (next (stated_at g.list i) (stated_at g.list j) (run_of g)) r h
    → TellsGoal (after (judgement_of a (environment_of e s) (run_of e)) (λ A. λ x. after (judgement_of b (environment_of e s) x) (next A))) r h
both_claimed e f g a b s i j r h next is on scope further first second told =
    follows (λ o. TellsGoal o r h) (judgement_of a (environment_of e s) (run_of e))
    (λ A. λ x. after (judgement_of b (environment_of e s) x) (next A)) (stated_at f.list i) f first.0
    (follows (λ o. TellsGoal o r h) (judgement_of b (environment_of e s) (run_of f)) (next (stated_at f.list i)) (stated_at g.list j) g
    (second_claim e f g b s (Ok j) is on scope second).0
    (subst (λ A. TellsGoal (next A (stated_at g.list j) (run_of g)) r h) (stated_further f g i further first.1) told))

second_ends : (e f g : Evaluation) (a b : Form) (s : Scope) (i : ℕ) (end : End) (next : Assertion → Assertion → Run Assertion)
    → IsEvaluation e → GoesFurther e f → IsScopeIn e s
    → TellsEntry (judgement_of a (environment_of e s) (run_of e)) (Ok i) f
    → TellsEntry (judgement_of b (environment_of f s) (run_of f)) (Err end) g
    → TellsGoal (after (judgement_of a (environment_of e s) (run_of e)) (λ A. λ x. after (judgement_of b (environment_of e s) x) (next A))) (Err end) g
second_ends e f g a b s i end next is on scope first second =
    follows (λ o. TellsGoal o (Err end) g) (judgement_of a (environment_of e s) (run_of e))
    (λ A. λ x. after (judgement_of b (environment_of e s) x) (next A)) (stated_at f.list i) f first.0
    (ends_after (judgement_of b (environment_of e s) (run_of f)) (next (stated_at f.list i)) end g
    (second_claim e f g b s (Err end) is on scope second))

-- ---- of equations between types

abbrev of_types : ℕ → Assertion → Assertion → Run Assertion
of_types at A B = nucleus at (λ W. reference.boundary_eq_type W A B)

pub types_bounded : (e f g h : Evaluation) (at : ℕ) (a b : Form) (s : Scope) (i j : ℕ) (r : Result ℕ End)
    → IsEvaluation e → GoesFurther e f → IsScopeIn e s → GoesFurther f g
    → TellsEntry (judgement_of a (environment_of e s) (run_of e)) (Ok i) f
    → TellsEntry (judgement_of b (environment_of f s) (run_of f)) (Ok j) g
    → TellsGoal (nucleus at (λ W. reference.boundary_eq_type W (stated_at g.list i) (stated_at g.list j)) (run_of g)) r h
    → TellsGoal (boundary_by at (types_body a b) (environment_of e s) (run_of e)) r h
types_bounded e f g h at a b s i j r is on scope further first second told =
    both_claimed e f g a b s i j r h (of_types at) is on scope further first second told

pub types_first_ends : (e f : Evaluation) (at : ℕ) (a b : Form) (G : Environment) (end : End)
    → TellsEntry (judgement_of a G (run_of e)) (Err end) f
    → TellsGoal (boundary_by at (types_body a b) G (run_of e)) (Err end) f
types_first_ends e f at a b G end told =
    ends_after (judgement_of a G (run_of e)) (λ A. λ x. after (judgement_of b G x) (of_types at A)) end f told

pub types_second_ends : (e f g : Evaluation) (at : ℕ) (a b : Form) (s : Scope) (i : ℕ) (end : End)
    → IsEvaluation e → GoesFurther e f → IsScopeIn e s
    → TellsEntry (judgement_of a (environment_of e s) (run_of e)) (Ok i) f
    → TellsEntry (judgement_of b (environment_of f s) (run_of f)) (Err end) g
    → TellsGoal (boundary_by at (types_body a b) (environment_of e s) (run_of e)) (Err end) g
types_second_ends e f g at a b s i end is on scope first second =
    second_ends e f g a b s i end (of_types at) is on scope first second

-- ---- of equations between terms

abbrev of_terms : ℕ → Assertion → Assertion → Assertion → Run Assertion
of_terms at s t A = nucleus at (λ W. reference.boundary_eq_term W A s t)

-- a type that is claimed last
abbrev typed : ℕ → Form → Environment → Assertion → Assertion → Run Assertion
typed at c G s t = λ x. after (judgement_of c G x) (of_terms at s t)

pub terms_bounded : (e f g h k : Evaluation) (at : ℕ) (a b c : Form) (s : Scope) (i j t : ℕ) (r : Result ℕ End)
    → IsEvaluation e → GoesFurther e f → IsScopeIn e s → GoesFurther f g → GoesFurther e g → GoesFurther g h
    → TellsEntry (judgement_of a (environment_of e s) (run_of e)) (Ok i) f
    → TellsEntry (judgement_of b (environment_of f s) (run_of f)) (Ok j) g
    → TellsEntry (judgement_of c (environment_of g s) (run_of g)) (Ok t) h
    → IsThesisOf g.list i
    → TellsGoal (nucleus at (λ W. reference.boundary_eq_term W (stated_at h.list t) (stated_at h.list i) (stated_at h.list j)) (run_of h)) r k
    → TellsGoal (boundary_by at (terms_body a b c) (environment_of e s) (run_of e)) r k
terms_bounded e f g h k at a b c s i j t r is on scope further over last first second third thesis told =
    both_claimed e f g a b s i j r k (typed at c (environment_of e s)) is on scope further first second
    (follows (λ o. TellsGoal o r k) (judgement_of c (environment_of e s) (run_of g)) (of_terms at (stated_at g.list i) (stated_at g.list j)) (stated_at h.list t) h
    (second_claim e g h c s (Ok t) is over scope third).0
    (subst (λ A. TellsGoal (of_terms at A (stated_at g.list j) (stated_at h.list t) (run_of h)) r k) (stated_further g h i last thesis)
    (subst (λ B. TellsGoal (of_terms at (stated_at h.list i) B (stated_at h.list t) (run_of h)) r k) (stated_further g h j last second.1) told)))

pub terms_first_ends : (e f : Evaluation) (at : ℕ) (a b c : Form) (G : Environment) (end : End)
    → TellsEntry (judgement_of a G (run_of e)) (Err end) f
    → TellsGoal (boundary_by at (terms_body a b c) G (run_of e)) (Err end) f
terms_first_ends e f at a b c G end told =
    ends_after (judgement_of a G (run_of e)) (λ A. λ x. after (judgement_of b G x) (typed at c G A)) end f told

pub terms_second_ends : (e f g : Evaluation) (at : ℕ) (a b c : Form) (s : Scope) (i : ℕ) (end : End)
    → IsEvaluation e → GoesFurther e f → IsScopeIn e s
    → TellsEntry (judgement_of a (environment_of e s) (run_of e)) (Ok i) f
    → TellsEntry (judgement_of b (environment_of f s) (run_of f)) (Err end) g
    → TellsGoal (boundary_by at (terms_body a b c) (environment_of e s) (run_of e)) (Err end) g
terms_second_ends e f g at a b c s i end is on scope first second =
    second_ends e f g a b s i end (typed at c (environment_of e s)) is on scope first second

pub terms_third_ends : (e f g h : Evaluation) (at : ℕ) (a b c : Form) (s : Scope) (i j : ℕ) (end : End)
    → IsEvaluation e → GoesFurther e f → IsScopeIn e s → GoesFurther f g → GoesFurther e g
    → TellsEntry (judgement_of a (environment_of e s) (run_of e)) (Ok i) f
    → TellsEntry (judgement_of b (environment_of f s) (run_of f)) (Ok j) g
    → TellsEntry (judgement_of c (environment_of g s) (run_of g)) (Err end) h
    → TellsGoal (boundary_by at (terms_body a b c) (environment_of e s) (run_of e)) (Err end) h
terms_third_ends e f g h at a b c s i j end is on scope further over first second third =
    both_claimed e f g a b s i j (Err end) h (typed at c (environment_of e s)) is on scope further first second
    (ends_after (judgement_of c (environment_of e s) (run_of g)) (of_terms at (stated_at g.list i) (stated_at g.list j)) end h
    (second_claim e g h c s (Err end) is over scope third))
