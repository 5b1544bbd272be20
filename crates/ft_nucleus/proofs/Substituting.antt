-- A term put for the variable of a first domain.
use Rattle.std.proofs.Common.{◌≡◌, ◌≢◌, ◌∙◌, ℕ, zero, ◌<◌, true, false, Some, None, List, [], ◌∷◌, length, get_or, refl, sym, ap, ap₂, subst, arith}
use Rattle.std.specs.Prelude.{Result, Ok, Err}
use Rattle.ft_common.proofs.Booleans.{true_false}
use Rattle.ft_common.proofs.Choices.{if_false}
use Rattle.ft_theory.specs.Expressions.{Expression}
use Rattle.ft_theory.specs.Statements.{is_type, has_type, equal_types, equal_terms, type_goal, term_goal, type_equation_goal, term_equation_goal, Statement, plain, abstracted, opened}
use Rattle.ft_items.specs.Sets.{Atom, union}
use Rattle.ft_items.specs.Equal.{is_thesis}
use Rattle.ft_items.specs.Item.{by_subst}
use Rattle.ft_items.specs.Store.{Assertion, resolve}
use Rattle.ft_reference.specs.Refusals as reference
use Rattle.ft_reference.specs.Refusals.{AllSmall, expressions, first_refusal}
use Rattle.ft_reference.specs.Checks.{substitution_checks}
use Rattle.ft_syntax.specs.Table.{tree, AllBelow}
use Rattle.ft_judge.specs.Meaning.{claim_in, under, thesis_in}
use Rattle.ft_judge.specs.Moving.{IsSmallStatement}
use Rattle.ft_judge.specs.declared.judgement.Form.TheVariants.{Tm}
use Rattle.ft_judge.specs.declared.judgement.Thesis.{Thesis}
use Rattle.ft_judge.specs.declared.fault.Refusal.{Refusal}
use Rattle.ft_judge.specs.declared.fault.Refusal.TheVariants as judge
use Rattle.ft_judge.specs.Faults.{refused as fault_of}
use Rattle.ft_syntax.specs.declared.syntax.SynFault.{SynFault}
use Rattle.ft_syntax.specs.declared.syntax.SynFault.TheVariants as syntax
use Rattle.ft_judge.specs.declared.fault.Fault.{Fault}
use Rattle.ft_judge.specs.declared.fault.Fault.TheVariants.{Refused, Memory}
use Rattle.ft_kernel.specs.State.{State, entry_at, statement_at, set_at, IsThesisOf}
use Rattle.ft_calls.specs.Answers.{IsAnswer, Answers, Stays}
use Rattle.ft_calls.specs.Forming.{equal_in, differ_at, Refuses}
use Rattle.ft_calls.proofs.Entries.{entry_is, stated_is}
use Rattle.ft_calls.proofs.Answering.{store, rests, resolves_two, answered_ok, refused, with_statement}
use Rattle.ft_calls.proofs.Calling.{wrong_form, one_thesis}
use Rattle.ft_calls.proofs.Later.{forms_pass, forms_fail, statement_small}
use Rattle.ft_nucleus.specs.Substituting.{is_plain_term, StatesTerm, StatesNoTerm, PutsTerm, FindsTerm}

-- A plain term, or none.

none_around : (ts : List Expression) (ds : List ℕ) (x : Statement) → length ds ≡ 0 → under ts ds x ≡ x
none_around ts [] x e = refl
none_around ts (d ∷ ds) x e = absurd (omega (arith, e))

pub states_term : (y : Thesis) (t A : ℕ) → y.form ≡ Tm t A → length y.domains ≡ 0 → StatesTerm y t A
states_term y t A e h ts = none_around ts y.domains (plain (claim_in ts y.form)) h ∙ ap (λ f. plain (claim_in ts f)) e

around : (ts : List Expression) (ds : List ℕ) (x : Statement) → length ds ≢ 0 → is_plain_term (under ts ds x) ≡ false
around ts [] x n = absurd (n refl)
around ts (d ∷ ds) x n = refl

pub no_term_around : (y : Thesis) → length y.domains ≢ 0 → StatesNoTerm y
no_term_around y n ts = around ts y.domains (plain (claim_in ts y.form)) n

-- Under the domains.

-- a list with a first member
first_there : (ds : List ℕ) (d : ℕ) → length ds ≢ 0 → d ≡ get_or ds 0 d → (es : List ℕ) × (ds ≡ d ∷ es)
first_there [] d n e = absurd (n refl)
first_there (x ∷ es) d n e = (es, ap (λ x. x ∷ es) (sym e))

-- the first of the domains is in the table
pub first_below : (n : ℕ) (ds : List ℕ) (d : ℕ) → AllBelow n ds → length ds ≢ 0 → d ≡ get_or ds 0 d → d < n
first_below n [] d h k e = absurd (k refl)
first_below n (x ∷ ds) d h k e = subst (λ x. x < n) (sym e) h.0

wrong_term : (A : Expression) (x y : Statement) → is_plain_term y ≡ false → first_refusal (substitution_checks (abstracted A x) y) ≡ Some reference.WrongForm
wrong_term A x (abstracted B y) h = refl
wrong_term A x (plain (is_type B)) h = refl
wrong_term A x (plain (has_type t B)) h = true_false h
wrong_term A x (plain (equal_types B C)) h = refl
wrong_term A x (plain (equal_terms s t B)) h = refl
wrong_term A x (plain type_goal) h = refl
wrong_term A x (plain (term_goal B)) h = refl
wrong_term A x (plain (type_equation_goal B C)) h = refl
wrong_term A x (plain (term_equation_goal s t B)) h = refl

pub no_term : (ts : List Expression) (ds : List ℕ) (y : Thesis) (q : Refusal) → length ds ≢ 0 → StatesNoTerm y → q ≡ judge.WrongForm → FindsTerm ts ds y (Err q)
no_term ts [] y q n h same c = absurd (n refl)
no_term ts (d ∷ ds) y q n h same c =
    wrong_form ts (substitution_checks (under ts (d ∷ ds) (plain c)) (thesis_in ts y)) q same (wrong_term (tree ts d) (under ts ds (plain c)) (thesis_in ts y) (h ts))

pub other_type : (ts : List Expression) (ds : List ℕ) (y : Thesis) (t A d : ℕ) (q : Refusal) → length ds ≢ 0 → d ≡ get_or ds 0 d → StatesTerm y t A → (A < length ts) × (d < length ts)
    → equal_in ts A d ≡ false → q ≡ judge.TypeDiffers (differ_at zero A d) → FindsTerm ts ds y (Err q)
other_type ts ds y t A d q n at h b f same c =
    let L : (es : List ℕ) × (ds ≡ d ∷ es) = first_there ds d n at in
    subst (λ q. Refuses ts (substitution_checks (under ts ds (plain c)) (thesis_in ts y)) q) (sym same) (
      ap₂ (λ ds z. first_refusal (substitution_checks (under ts ds (plain c)) z)) L.1 (h ts)
          ∙ if_false _ (Some (reference.TypeDiffers (record { found = tree ts A; wanted = tree ts d; under = zero }))) (equal_in ts A d) f,
      b,
    )

-- The call.

resolved : (s : State) (p q : ℕ) (P Q : Assertion) → entry_at s p ≡ Some P → entry_at s q ≡ Some Q → resolve (store s) (by_subst p q) ≡ Some (by_subst P Q)
resolved s p q P Q h k = resolves_two s (by_subst p q) by_subst p q P Q refl h k

-- what is answered: the term was found, and what it gives is small
pub puts : (s : State) (p q : ℕ) (X Y y : Statement) (T : Expression) (S R U : List Atom) → statement_at s p ≡ Some X → set_at s p ≡ Some S → IsThesisOf s q → statement_at s q ≡ Some Y → set_at s q ≡ Some R
    → PutsTerm X Y T → y ≡ opened T X → AllSmall (expressions y) → U ≡ union S R → IsAnswer s (by_subst p q) (Ok (rests y U))
puts s p q X Y y T S R U h k t l m f same small set =
    let P = rests X S in
    let Q = rests Y R in
    let kind : is_thesis Y ≡ true = subst (λ z. is_thesis z ≡ true) (stated_is s q t.0 Y t.1 l) t.2 in
    let passes : first_refusal (substitution_checks X Y) ≡ None = f.1 ∙ forms_pass (expressions (opened T X)) (subst (λ z. AllSmall (expressions z)) same small) in
    subst (λ a. IsAnswer s (by_subst p q) (Ok a)) (ap₂ rests (sym same) (sym set))
    (answered_ok s (by_subst p q) (by_subst P Q) (opened T X) (resolved s p q P Q (entry_is s p X S h k) (entry_is s q Y R l m)) (one_thesis (is_thesis Y) kind) (passes, f.0))

-- what is refused
pub puts_not : (s t : State) (p q : ℕ) (X Y : Statement) (r : Refusal) → statement_at s p ≡ Some X → statement_at s q ≡ Some Y → Stays s t → Refuses t.trees (substitution_checks X Y) r → Answers s (by_subst p q) (Err (Refused r)) t
puts_not s t p q X Y r h k stays f =
    let P = with_statement s p X h in
    let Q = with_statement s q Y k in
    refused s t (by_subst p q) (by_subst (rests X P.0) (rests Y Q.0)) r (resolved s p q (rests X P.0) (rests Y Q.0) P.1 Q.1) f stays

-- what is too big
pub too_big : (s t : State) (p q : ℕ) (X Y : Statement) (T : Expression) → statement_at s p ≡ Some X → statement_at s q ≡ Some Y → Stays s t → PutsTerm X Y T → (IsSmallStatement (opened T X) → ⊥) → Answers s (by_subst p q) (Err (Refused judge.TooBig)) t
too_big s t p q X Y T h k stays f big =
    puts_not s t p q X Y judge.TooBig h k stays (f.1 ∙ forms_fail (expressions (opened T X)) (λ small. big (statement_small (opened T X) zero small)), tt)

-- what was found, over the table and the domains themselves
pub found_in : (ts us : List Expression) (ds es : List ℕ) (y : Thesis) (r : Result ℕ Refusal) → us ≡ ts → es ≡ ds → FindsTerm us es y r → FindsTerm ts ds y r
found_in ts us ds es y r e d h = subst (λ ds. FindsTerm ts ds y r) d (subst (λ ts. FindsTerm ts es y r) e h)

-- a fault of opening
pub opened_not : (s t : State) (p q : ℕ) (X Y : Statement) (T : Expression) (f : SynFault) (g : Fault) → statement_at s p ≡ Some X → statement_at s q ≡ Some Y → Stays s t → PutsTerm X Y T → g ≡ fault_of f
    → (f ≡ syntax.TooBig → IsSmallStatement (opened T X) → ⊥) → Answers s (by_subst p q) (Err g) t
opened_not s t p q X Y T syntax.TooBig g h k stays puts same big = subst (λ g. Answers s (by_subst p q) (Err g) t) (sym same) (too_big s t p q X Y T h k stays puts (big refl))
opened_not s t p q X Y T syntax.Memory g h k stays puts same big = subst (λ g. Answers s (by_subst p q) (Err g) t) (sym same) stays
