-- The words at what their calls answer.
use Rattle.std.proofs.Common.{◌≡◌, refl, subst, sym, ℕ, true, false}
use Rattle.std.specs.Prelude.{Result}
use Rattle.ft_theory.specs.Statements.{is_type, has_type, equal_types, equal_terms, type_goal, term_goal, type_equation_goal, term_equation_goal, Statement, plain, abstracted}
use Rattle.ft_items.specs.Item.{by_refl, by_sym, by_left, by_right, by_typeof, by_domain, by_boundary, by_trans, by_conv, by_conveq, by_widen}
use Rattle.ft_items.specs.Store.{Assertion, Declarations}
use Rattle.ft_reference.specs.Refusals.{Refusal}
use Rattle.ft_reference.specs.Nucleus as reference
use Rattle.ft_grammar.specs.declared.form.OneForm.TheVariants as one
use Rattle.ft_grammar.specs.declared.form.TwoForm.TheVariants as two
use Rattle.ft_base.specs.Budget.{Budget}
use Rattle.ft_meaning.specs.Forms.{judged, conversion}
use Rattle.ft_judge.specs.declared.fault.Fault.{Fault}
use Rattle.ft_kernel.specs.State.{State, IsEntryOf, IsThesisOf, IsBoundaryOf}
use Rattle.ft_values.specs.Kept.{stated_at}
use Rattle.ft_telling.specs.Telling.{state_of, halted_at, TellsJudgement}
use Rattle.ft_telling.specs.Words.{WordIsTold, BoundaryWordIsTold, BoundaryofIsTold, PairWordIsTold, ConvertIsTold, is_term_equation}
use Rattle.ft_telling.proofs.Calls.{judged_by, tells_one, tells_two, bounds_one}

thesis_entry : (s : State) (j : ℕ) → IsThesisOf s j → IsEntryOf s j
thesis_entry s j h = (h.0, h.1)

boundary_entry : (s : State) (b : ℕ) → IsBoundaryOf s b → IsEntryOf s b
boundary_entry s b h = (h.0, h.1)

pub refl_tells : WordIsTold one.Refl by_refl
refl_tells s t u at j r is h = tells_one by_refl by_refl (λ W p. refl) s t u at j r (thesis_entry s j is) h

pub sym_tells : WordIsTold one.Sym by_sym
sym_tells s t u at j r is h = tells_one by_sym by_sym (λ W p. refl) s t u at j r (thesis_entry s j is) h

pub left_tells : WordIsTold one.Left by_left
left_tells s t u at j r is h = tells_one by_left by_left (λ W p. refl) s t u at j r (thesis_entry s j is) h

pub boundary_left_tells : BoundaryWordIsTold one.Left by_left
boundary_left_tells s t u at b r is h = tells_one by_left by_left (λ W p. refl) s t u at b r (boundary_entry s b is) h

pub right_tells : WordIsTold one.Right by_right
right_tells s t u at j r is h = tells_one by_right by_right (λ W p. refl) s t u at j r (thesis_entry s j is) h

pub boundary_right_tells : BoundaryWordIsTold one.Right by_right
boundary_right_tells s t u at b r is h = tells_one by_right by_right (λ W p. refl) s t u at b r (boundary_entry s b is) h

pub typeof_tells : WordIsTold one.Typeof by_typeof
typeof_tells s t u at j r is h = tells_one by_typeof by_typeof (λ W p. refl) s t u at j r (thesis_entry s j is) h

pub boundary_typeof_tells : BoundaryWordIsTold one.Typeof by_typeof
boundary_typeof_tells s t u at b r is h = tells_one by_typeof by_typeof (λ W p. refl) s t u at b r (boundary_entry s b is) h

pub domain_tells : WordIsTold one.Domain by_domain
domain_tells s t u at j r is h = tells_one by_domain by_domain (λ W p. refl) s t u at j r (thesis_entry s j is) h

pub boundary_domain_tells : BoundaryWordIsTold one.Domain by_domain
boundary_domain_tells s t u at b r is h = tells_one by_domain by_domain (λ W p. refl) s t u at b r (boundary_entry s b is) h

pub boundaryof_tells : BoundaryofIsTold
boundaryof_tells s t u at j r is h = bounds_one by_boundary by_boundary (λ W p. refl) s t u at j r (thesis_entry s j is) h

pub trans_tells : PairWordIsTold two.Trans by_trans
trans_tells s t u at second i j r is js h = tells_two by_trans by_trans (λ W p q. refl) s t u at i j r (thesis_entry s i is) (thesis_entry s j js) h

pub widen_tells : PairWordIsTold two.Widen by_widen
widen_tells s t u at second i j r is js h = tells_two by_widen by_widen (λ W p q. refl) s t u at i j r (thesis_entry s i is) (thesis_entry s j js) h

-- the call for an equation of terms, and for any other statement
equation_converts : (x : Statement) (W : Declarations) (a b : Assertion) → true ≡ is_term_equation x → conversion x W a b ≡ reference.convert_equation W a b
equation_converts (plain (is_type A)) W a b h = cc
equation_converts (plain (has_type t A)) W a b h = cc
equation_converts (plain (equal_types A B)) W a b h = cc
equation_converts (plain (equal_terms s t A)) W a b h = refl
equation_converts (plain type_goal) W a b h = cc
equation_converts (plain (term_goal A)) W a b h = cc
equation_converts (plain (type_equation_goal A B)) W a b h = cc
equation_converts (plain (term_equation_goal s t A)) W a b h = cc
equation_converts (abstracted A x) W a b h = cc

other_converts : (x : Statement) (W : Declarations) (a b : Assertion) → false ≡ is_term_equation x → conversion x W a b ≡ reference.convert W a b
other_converts (plain (is_type A)) W a b h = refl
other_converts (plain (has_type t A)) W a b h = refl
other_converts (plain (equal_types A B)) W a b h = refl
other_converts (plain (equal_terms s t A)) W a b h = cc
other_converts (plain type_goal) W a b h = refl
other_converts (plain (term_goal A)) W a b h = refl
other_converts (plain (type_equation_goal A B)) W a b h = refl
other_converts (plain (term_equation_goal s t A)) W a b h = refl
other_converts (abstracted A x) W a b h = refl

-- a run of a call is that of the answer
same_run : (s : State) (u : Budget) (at : ℕ) (f g : Declarations → Result Assertion Refusal) (t : State) (r : Result ℕ Fault)
    → f (state_of s u).declarations ≡ g (state_of s u).declarations
    → TellsJudgement (judged at g (state_of s u)) (halted_at at r) t u → TellsJudgement (judged at f (state_of s u)) (halted_at at r) t u
same_run s u at f g t r e h =
    subst (λ a. TellsJudgement (judged_by at a (state_of s u)) (halted_at at r) t u) (sym e) h

pub convert_equation_tells : ConvertIsTold true by_conveq
convert_equation_tells s t u at second i j r is js e h =
    same_run s u at (λ W. conversion (stated_at s i).statement W (stated_at s i) (stated_at s j)) (λ W. reference.convert_equation W (stated_at s i) (stated_at s j)) t r
    (equation_converts (stated_at s i).statement (state_of s u).declarations (stated_at s i) (stated_at s j) e)
    (tells_two by_conveq by_conveq (λ W p q. refl) s t u at i j r (thesis_entry s i is) (thesis_entry s j js) h)

pub convert_tells : ConvertIsTold false by_conv
convert_tells s t u at second i j r is js e h =
    same_run s u at (λ W. conversion (stated_at s i).statement W (stated_at s i) (stated_at s j)) (λ W. reference.convert W (stated_at s i) (stated_at s j)) t r
    (other_converts (stated_at s i).statement (state_of s u).declarations (stated_at s i) (stated_at s j) e)
    (tells_two by_conv by_conv (λ W p q. refl) s t u at i j r (thesis_entry s i is) (thesis_entry s j js) h)
