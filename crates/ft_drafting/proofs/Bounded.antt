-- The boundaries of premises and conclusions, by what their calls answer.
use Rattle.std.proofs.Common.{◌≡◌, ◌∙◌, ◌++◌, ℕ, Bool, true, false, cond, Option, Some, None, [], ◌∷◌, ap, refl, sym, subst, IfOk}
use Rattle.std.specs.Prelude.{Result, Ok, Err, option_map}
use Rattle.std.proofs.lemmas.Option.{same_Some}
use Rattle.ft_common.proofs.Options.{none_some}
use Rattle.ft_theory.specs.Expressions.{Expression}
use Rattle.ft_theory.specs.Statements.{Statement, is_type, has_type, equal_types, equal_terms, type_goal, term_goal, type_equation_goal, term_equation_goal, plain, abstracted}
use Rattle.ft_items.specs.Equal.{is_thesis, is_plain}
use Rattle.ft_items.specs.Item.{Stated, entry, by_btype, by_bterm, by_beqty, by_beqtm}
use Rattle.ft_items.specs.Store.{Assertion, Resolved, Declarations, nth, store_of, entries_in, resolve, declared_by}
use Rattle.ft_items.specs.Rows.{conclusion, result_set, when, term_boundary, type_equation_boundary, term_equation_boundary}
use Rattle.ft_items.specs.Good.{of_kind}
use Rattle.ft_items.proofs.Lists.{nth_end, entries_append}
use Rattle.ft_nucleus_laws.proofs.Calls.{answers_its_row}
use Rattle.ft_reference.specs.Nucleus as reference
use Rattle.ft_reference.specs.Calls.{answer}
use Rattle.ft_meaning.specs.Values.{nucleus}
use Rattle.ft_judge.specs.declared.fault.Fault.{Fault}
use Rattle.ft_kernel.specs.State.{State, entry_at, IsThesisOf, IsBoundaryOf}
use Rattle.ft_calls.specs.Answers.{Answers, Gains}
use Rattle.ft_calls.proofs.Answering.{resolves_one, resolves_two, resolves_three}
use Rattle.ft_rules.specs.Drafts.{IsPlainBoundaryOf}
use Rattle.ft_values.specs.Kept.{stated, stated_at}
use Rattle.ft_telling.specs.declared.halt.Halt.{Halt}
use Rattle.ft_telling.specs.Telling.{halted_at}
use Rattle.ft_telling.proofs.Calls.{tells_statement}
use Rattle.ft_calling.specs.Calling.{ToldGoal}
use Rattle.ft_calling.proofs.Leaving.{halted_kind}
use Rattle.ft_calling.proofs.Telling.{told_goal}

-- ---- boundaries without domains

pub term_boundary_plain : (x z : Statement) → term_boundary x ≡ Some z → is_plain z ≡ true
term_boundary_plain (plain (is_type A)) z h = ap is_plain (sym (same_Some (plain (term_goal A)) z h))
term_boundary_plain (plain (has_type t A)) z h = none_some h
term_boundary_plain (plain (equal_types A B)) z h = none_some h
term_boundary_plain (plain (equal_terms s t A)) z h = none_some h
term_boundary_plain (plain type_goal) z h = none_some h
term_boundary_plain (plain (term_goal A)) z h = none_some h
term_boundary_plain (plain (type_equation_goal A B)) z h = none_some h
term_boundary_plain (plain (term_equation_goal s t A)) z h = none_some h
term_boundary_plain (abstracted A x) z h = none_some h

pub types_boundary_plain : (x y z : Statement) → type_equation_boundary x y ≡ Some z → is_plain z ≡ true
types_boundary_plain (plain (is_type A)) (plain (is_type B)) z h = ap is_plain (sym (same_Some (plain (type_equation_goal A B)) z h))
types_boundary_plain (plain (is_type A)) (plain (has_type t B)) z h = none_some h
types_boundary_plain (plain (is_type A)) (plain (equal_types B C)) z h = none_some h
types_boundary_plain (plain (is_type A)) (plain (equal_terms s t B)) z h = none_some h
types_boundary_plain (plain (is_type A)) (plain type_goal) z h = none_some h
types_boundary_plain (plain (is_type A)) (plain (term_goal B)) z h = none_some h
types_boundary_plain (plain (is_type A)) (plain (type_equation_goal B C)) z h = none_some h
types_boundary_plain (plain (is_type A)) (plain (term_equation_goal s t B)) z h = none_some h
types_boundary_plain (plain (is_type A)) (abstracted B y) z h = none_some h
types_boundary_plain (plain (has_type t A)) y z h = none_some h
types_boundary_plain (plain (equal_types A B)) y z h = none_some h
types_boundary_plain (plain (equal_terms s t A)) y z h = none_some h
types_boundary_plain (plain type_goal) y z h = none_some h
types_boundary_plain (plain (term_goal A)) y z h = none_some h
types_boundary_plain (plain (type_equation_goal A B)) y z h = none_some h
types_boundary_plain (plain (term_equation_goal s t A)) y z h = none_some h
types_boundary_plain (abstracted A x) y z h = none_some h

when_plain : (b : Bool) (x z : Statement) → is_plain x ≡ true → when b x ≡ Some z → is_plain z ≡ true
when_plain true x z p h = ap is_plain (sym (same_Some x z h)) ∙ p
when_plain false x z p h = none_some h

terms_of_plain : (A : Expression) (x y z : Statement) → term_equation_boundary (plain (is_type A)) x y ≡ Some z → is_plain z ≡ true
terms_of_plain A (plain (has_type s B)) (plain (has_type t C)) z h = when_plain _ _ z refl h
terms_of_plain A (plain (has_type s B)) (plain (is_type C)) z h = none_some h
terms_of_plain A (plain (has_type s B)) (plain (equal_types C D)) z h = none_some h
terms_of_plain A (plain (has_type s B)) (plain (equal_terms t u C)) z h = none_some h
terms_of_plain A (plain (has_type s B)) (plain type_goal) z h = none_some h
terms_of_plain A (plain (has_type s B)) (plain (term_goal C)) z h = none_some h
terms_of_plain A (plain (has_type s B)) (plain (type_equation_goal C D)) z h = none_some h
terms_of_plain A (plain (has_type s B)) (plain (term_equation_goal t u C)) z h = none_some h
terms_of_plain A (plain (has_type s B)) (abstracted C y) z h = none_some h
terms_of_plain A (plain (is_type B)) y z h = none_some h
terms_of_plain A (plain (equal_types B C)) y z h = none_some h
terms_of_plain A (plain (equal_terms s t B)) y z h = none_some h
terms_of_plain A (plain type_goal) y z h = none_some h
terms_of_plain A (plain (term_goal B)) y z h = none_some h
terms_of_plain A (plain (type_equation_goal B C)) y z h = none_some h
terms_of_plain A (plain (term_equation_goal s t B)) y z h = none_some h
terms_of_plain A (abstracted B x) y z h = none_some h

pub terms_boundary_plain : (w x y z : Statement) → term_equation_boundary w x y ≡ Some z → is_plain z ≡ true
terms_boundary_plain (plain (is_type A)) x y z h = terms_of_plain A x y z h
terms_boundary_plain (plain (has_type t A)) x y z h = none_some h
terms_boundary_plain (plain (equal_types A B)) x y z h = none_some h
terms_boundary_plain (plain (equal_terms s t A)) x y z h = none_some h
terms_boundary_plain (plain type_goal) x y z h = none_some h
terms_boundary_plain (plain (term_goal A)) x y z h = none_some h
terms_boundary_plain (plain (type_equation_goal A B)) x y z h = none_some h
terms_boundary_plain (plain (term_equation_goal s t A)) x y z h = none_some h
terms_boundary_plain (abstracted A w) x y z h = none_some h

-- ---- what is answered is such a boundary

given_concludes : (R : Resolved) (a : Assertion) (b : Bool) (o : Option Statement)
    → cond b (option_map (λ x. record { statement = x; set = result_set R }) o) None ≡ Some a → o ≡ Some a.statement
given_concludes R a true (Some x) h =
    ap (λ x. Some x) (ap (λ (c : Assertion). c.statement) (same_Some (record { statement = x; set = result_set R }) a h))
given_concludes R a true None h = none_some h
given_concludes R a false o h = none_some h

-- what a call answers has the conclusion of its row
answer_concludes : (W : Declarations) (R : Resolved) (a : Assertion) → answer W R ≡ Ok a → conclusion W R ≡ Some a.statement
answer_concludes W R a h = given_concludes R a (of_kind R) (conclusion W R) ((answers_its_row W R a).0 h).0

-- the new entry has what is answered
gained : (s t : State) (a : Assertion) (n : Stated) (j : ℕ) → Gains s a n j t → entry_at t j ≡ Some a
gained s t a n j g =
    ap (λ items. nth (entries_in items) j) g.0
    ∙ ap (λ es. nth es j) (entries_append s.items (entry (record { statement = a.statement; set = a.set; step = n }) ∷ []))
    ∙ ap (nth (entries_in s.items ++ a ∷ [])) g.1
    ∙ nth_end (entries_in s.items) a

-- the row of what the step names gives statements without domains
abbrev GivesPlain : State → Resolved → Type 0
GivesPlain s R = (z : Statement) → conclusion (declared_by s.items) R ≡ Some z → is_plain z ≡ true

plain_answered : (s t : State) (n : Stated) (R : Resolved) (b : ℕ) → resolve (store_of s.items) n ≡ Some R → GivesPlain s R
    → Answers s n (Ok b) t → IsBoundaryOf t b → IsPlainBoundaryOf t b
plain_answered s t n R b names row h is =
    let a : Assertion = h.0 in
    let here : entry_at t b ≡ Some a = gained s t a n b h.2 in
    let same : is.0 ≡ a = same_Some is.0 a (sym is.1 ∙ here) in
    let named : h.1.0 ≡ R = same_Some h.1.0 R (sym h.1.1 ∙ names) in
    let answers : answer (declared_by s.items) R ≡ Ok a = ap (answer (declared_by s.items)) (sym named) ∙ h.1.2 in (
      a,
      here,
      ap (λ (c : Assertion). is_thesis c.statement) (sym same) ∙ is.2,
      row a.statement (answer_concludes (declared_by s.items) R a answers),
    )

plain_ok : (s t : State) (n : Stated) (R : Resolved) (r : Result ℕ Fault) → resolve (store_of s.items) n ≡ Some R → GivesPlain s R
    → Answers s n r t → IfOk r (λ b. IsBoundaryOf t b) → IfOk r (λ b. IsPlainBoundaryOf t b)
plain_ok s t n R (Ok b) names row h is = plain_answered s t n R b names row h is
plain_ok s t n R (Err f) names row h is = tt

plain_told : (s t : State) (n : Stated) (R : Resolved) (at : ℕ) (r : Result ℕ Fault) (o : Result ℕ Halt) → resolve (store_of s.items) n ≡ Some R → GivesPlain s R
    → Answers s n r t → IfOk r (λ b. IsBoundaryOf t b) → o ≡ halted_at at r → IfOk o (λ b. IsPlainBoundaryOf t b)
plain_told s t n R at r o names row h is e =
    subst (λ (o : Result ℕ Halt). IfOk o (λ b. IsPlainBoundaryOf t b)) (sym e)
    (halted_kind (λ b. IsPlainBoundaryOf t b) at r (plain_ok s t n R r names row h is))

-- ---- the boundary of types

pub type_told : (s t : State) (at : ℕ) (r : Result ℕ Fault) (o : Result ℕ Halt) → Answers s by_btype r t
    → IfOk r (λ b. IsBoundaryOf t b) → o ≡ halted_at at r → ToldGoal s (nucleus at reference.boundary_type) o t
type_told s t at r o h is e =
    told_goal s t by_btype (nucleus at reference.boundary_type) at r o (λ u. tells_statement s t u at by_btype by_btype r refl h) h is e

pub type_plain : (s t : State) (at : ℕ) (r : Result ℕ Fault) (o : Result ℕ Halt) → Answers s by_btype r t
    → IfOk r (λ b. IsBoundaryOf t b) → o ≡ halted_at at r → IfOk o (λ b. IsPlainBoundaryOf t b)
type_plain s t at r o h is e =
    plain_told s t by_btype by_btype at r o refl (λ z k. ap is_plain (sym (same_Some (plain type_goal) z k))) h is e

-- ---- the boundary of terms

pub term_told : (s t : State) (at A : ℕ) (r : Result ℕ Fault) (o : Result ℕ Halt) → IsThesisOf s A → Answers s (by_bterm A) r t
    → IfOk r (λ b. IsBoundaryOf t b) → o ≡ halted_at at r → ToldGoal s (nucleus at (λ W. reference.boundary_term W (stated_at s A))) o t
term_told s t at A r o ty h is e =
    subst (λ a. ToldGoal s (nucleus at (λ W. reference.boundary_term W a)) o t) (sym (ap stated ty.1))
    (told_goal s t (by_bterm A) (nucleus at (λ W. reference.boundary_term W ty.0)) at r o
    (λ u. tells_statement s t u at (by_bterm A) (by_bterm ty.0) r (resolves_one s (by_bterm A) by_bterm A ty.0 refl ty.1) h) h is e)

pub term_plain : (s t : State) (at A : ℕ) (r : Result ℕ Fault) (o : Result ℕ Halt) → IsThesisOf s A → Answers s (by_bterm A) r t
    → IfOk r (λ b. IsBoundaryOf t b) → o ≡ halted_at at r → IfOk o (λ b. IsPlainBoundaryOf t b)
term_plain s t at A r o ty h is e =
    plain_told s t (by_bterm A) (by_bterm ty.0) at r o (resolves_one s (by_bterm A) by_bterm A ty.0 refl ty.1)
    (term_boundary_plain ty.0.statement) h is e

-- ---- the boundary of equations between types

pub types_told : (s t : State) (at i j : ℕ) (r : Result ℕ Fault) (o : Result ℕ Halt) → IsThesisOf s i → IsThesisOf s j → Answers s (by_beqty i j) r t
    → IfOk r (λ b. IsBoundaryOf t b) → o ≡ halted_at at r
    → ToldGoal s (nucleus at (λ W. reference.boundary_eq_type W (stated_at s i) (stated_at s j))) o t
types_told s t at i j r o left right h is e =
    subst (λ a. ToldGoal s (nucleus at (λ W. reference.boundary_eq_type W a (stated_at s j))) o t) (sym (ap stated left.1))
    (subst (λ b. ToldGoal s (nucleus at (λ W. reference.boundary_eq_type W left.0 b)) o t) (sym (ap stated right.1))
    (told_goal s t (by_beqty i j) (nucleus at (λ W. reference.boundary_eq_type W left.0 right.0)) at r o
    (λ u. tells_statement s t u at (by_beqty i j) (by_beqty left.0 right.0) r (resolves_two s (by_beqty i j) by_beqty i j left.0 right.0 refl left.1 right.1) h) h is e))

pub types_plain : (s t : State) (at i j : ℕ) (r : Result ℕ Fault) (o : Result ℕ Halt) → IsThesisOf s i → IsThesisOf s j → Answers s (by_beqty i j) r t
    → IfOk r (λ b. IsBoundaryOf t b) → o ≡ halted_at at r → IfOk o (λ b. IsPlainBoundaryOf t b)
types_plain s t at i j r o left right h is e =
    plain_told s t (by_beqty i j) (by_beqty left.0 right.0) at r o (resolves_two s (by_beqty i j) by_beqty i j left.0 right.0 refl left.1 right.1)
    (types_boundary_plain left.0.statement right.0.statement) h is e

-- ---- the boundary of equations between terms

pub terms_told : (s t : State) (at A i j : ℕ) (r : Result ℕ Fault) (o : Result ℕ Halt) → IsThesisOf s A → IsThesisOf s i → IsThesisOf s j
    → Answers s (by_beqtm A i j) r t → IfOk r (λ b. IsBoundaryOf t b) → o ≡ halted_at at r
    → ToldGoal s (nucleus at (λ W. reference.boundary_eq_term W (stated_at s A) (stated_at s i) (stated_at s j))) o t
terms_told s t at A i j r o ty left right h is e =
    subst (λ a. ToldGoal s (nucleus at (λ W. reference.boundary_eq_term W a (stated_at s i) (stated_at s j))) o t) (sym (ap stated ty.1))
    (subst (λ b. ToldGoal s (nucleus at (λ W. reference.boundary_eq_term W ty.0 b (stated_at s j))) o t) (sym (ap stated left.1))
    (subst (λ c. ToldGoal s (nucleus at (λ W. reference.boundary_eq_term W ty.0 left.0 c)) o t) (sym (ap stated right.1))
    (told_goal s t (by_beqtm A i j) (nucleus at (λ W. reference.boundary_eq_term W ty.0 left.0 right.0)) at r o
    (λ u. tells_statement s t u at (by_beqtm A i j) (by_beqtm ty.0 left.0 right.0) r
    (resolves_three s (by_beqtm A i j) by_beqtm A i j ty.0 left.0 right.0 refl ty.1 left.1 right.1) h) h is e)))

pub terms_plain : (s t : State) (at A i j : ℕ) (r : Result ℕ Fault) (o : Result ℕ Halt) → IsThesisOf s A → IsThesisOf s i → IsThesisOf s j
    → Answers s (by_beqtm A i j) r t → IfOk r (λ b. IsBoundaryOf t b) → o ≡ halted_at at r → IfOk o (λ b. IsPlainBoundaryOf t b)
terms_plain s t at A i j r o ty left right h is e =
    plain_told s t (by_beqtm A i j) (by_beqtm ty.0 left.0 right.0) at r o
    (resolves_three s (by_beqtm A i j) by_beqtm A i j ty.0 left.0 right.0 refl ty.1 left.1 right.1)
    (terms_boundary_plain ty.0.statement left.0.statement right.0.statement) h is e
