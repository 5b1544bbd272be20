-- Equal terms put for the variable of a first domain.
use Rattle.std.proofs.Common.{◌≡◌, ◌≢◌, ◌∙◌, ℕ, zero, suc, ◌+◌, ◌<◌, Bool, true, false, cond, ◌&&◌, Option, Some, None, List, [], ◌∷◌, length, get_or, refl, sym, ap, ap₂, subst, arith}
use Rattle.std.specs.Prelude.{Result, Ok, Err}
use Rattle.ft_common.proofs.Booleans.{true_false}
use Rattle.ft_common.proofs.Choices.{if_true, if_false}
use Rattle.ft_theory.specs.Expressions.{Expression, open_at}
use Rattle.ft_theory.specs.Small.{IsSmall}
use Rattle.ft_theory.specs.Statements.{Claim, is_type, has_type, equal_types, equal_terms, type_goal, term_goal, type_equation_goal, term_equation_goal, Statement, plain, abstracted, map_statement, opened, domain_count, boundary_of, boundary_of_claim, equate}
use Rattle.ft_items.specs.Sets.{Atom, union}
use Rattle.ft_items.specs.Equal.{equal_expressions, has_head, has_head_claim, head, head_of_claim, is_thesis}
use Rattle.ft_items.specs.Item.{by_substeq}
use Rattle.ft_items.specs.Rows.{when, equal_substitution}
use Rattle.ft_sound.proofs.EqualLemmas.{equal_back}
use Rattle.ft_reference.specs.Refusals as reference
use Rattle.ft_reference.specs.Refusals.{AllSmall, expressions, first_refusal}
use Rattle.ft_reference.specs.Checks.{equal_substitution_checks}
use Rattle.ft_syntax.specs.Table.{tree, Extends}
use Rattle.ft_syntax.specs.Laws.{tree_extends}
use Rattle.ft_syntax.specs.declared.syntax.SynFault.{SynFault}
use Rattle.ft_syntax.specs.declared.syntax.SynFault.TheVariants as syntax
use Rattle.ft_judge.specs.Meaning.{claim_in, under, thesis_in, ThesisBelow, head_of_form}
use Rattle.ft_judge.specs.Moving.{IsSmallStatement}
use Rattle.ft_judge.specs.Laws.{thesis_extends}
use Rattle.ft_judge.specs.Faults.{refused as fault_of}
use Rattle.ft_judge.specs.declared.judgement.Form.{Form}
use Rattle.ft_judge.specs.declared.judgement.Form.TheVariants.{Ty, Tm, EqTy, EqTm}
use Rattle.ft_judge.specs.declared.judgement.Thesis.{Thesis}
use Rattle.ft_judge.specs.declared.fault.Refusal.{Refusal}
use Rattle.ft_judge.specs.declared.fault.Refusal.TheVariants as judge
use Rattle.ft_judge.specs.declared.fault.Fault.{Fault}
use Rattle.ft_judge.specs.declared.fault.Fault.TheVariants.{Refused, Memory}
use Rattle.ft_kernel.specs.State.{State, statement_at, set_at}
use Rattle.ft_calls.specs.Answers.{IsAnswer, Answers, Stays}
use Rattle.ft_calls.specs.Forming.{equal_in, differ_at, Refuses}
use Rattle.ft_calls.proofs.Answering.{rests, resolves_two, refused, with_statement}
use Rattle.ft_calls.proofs.Calling.{IsCallOfTwo, two_theses, answers_two, wrong_form}
use Rattle.ft_calls.proofs.Later.{forms_pass, forms_fail, statement_small}
use Rattle.ft_nucleus.specs.Forms.{HasHead}
use Rattle.ft_nucleus.specs.Equating.{is_plain_term_equation, StatesEquation, StatesNoEquation, PutsEquation, FindsEquation, opened_head, equated_at, equated_in, IsEquatedSmall, IsEqualTo}
use Rattle.ft_nucleus.proofs.Under.{has_head-under, head-under, boundary_of-under, equate-under}

-- A plain equation of terms, or none.

none_around : (ts : List Expression) (ds : List ℕ) (x : Statement) → length ds ≡ 0 → under ts ds x ≡ x
none_around ts [] x e = refl
none_around ts (d ∷ ds) x e = absurd (omega (arith, e))

pub states_equation : (y : Thesis) (s t A : ℕ) → y.form ≡ EqTm s t A → length y.domains ≡ 0 → StatesEquation y s t A
states_equation y s t A e h ts = none_around ts y.domains (plain (claim_in ts y.form)) h ∙ ap (λ f. plain (claim_in ts f)) e

around : (ts : List Expression) (ds : List ℕ) (x : Statement) → length ds ≢ 0 → is_plain_term_equation (under ts ds x) ≡ false
around ts [] x n = absurd (n refl)
around ts (d ∷ ds) x n = refl

pub no_equation_around : (y : Thesis) → length y.domains ≢ 0 → StatesNoEquation y
no_equation_around y n ts = around ts y.domains (plain (claim_in ts y.form)) n

-- Under the domains.

pub no_domain : (ts : List Expression) (x y : Thesis) → length x.domains ≡ 0 → FindsEquation ts x y (Err judge.NotAbstracted)
no_domain ts x y e = (ap (λ X. first_refusal (equal_substitution_checks X (thesis_in ts y))) (none_around ts x.domains (plain (claim_in ts x.form)) e), tt)

first_there : (ds : List ℕ) (d : ℕ) → length ds ≢ 0 → d ≡ get_or ds 0 d → (es : List ℕ) × (ds ≡ d ∷ es)
first_there [] d n e = absurd (n refl)
first_there (x ∷ es) d n e = (es, ap (λ x. x ∷ es) (sym e))

some_domain : (ds : List ℕ) → length ds ≢ 0 → (d : ℕ) × (es : List ℕ) × (ds ≡ d ∷ es)
some_domain [] n = absurd (n refl)
some_domain (d ∷ es) n = (d, es, refl)

wrong_equation : (A : Expression) (x y : Statement) → is_plain_term_equation y ≡ false → first_refusal (equal_substitution_checks (abstracted A x) y) ≡ Some reference.WrongForm
wrong_equation A x (abstracted B y) h = refl
wrong_equation A x (plain (is_type B)) h = refl
wrong_equation A x (plain (has_type t B)) h = refl
wrong_equation A x (plain (equal_types B C)) h = refl
wrong_equation A x (plain (equal_terms s t B)) h = true_false h
wrong_equation A x (plain type_goal) h = refl
wrong_equation A x (plain (term_goal B)) h = refl
wrong_equation A x (plain (type_equation_goal B C)) h = refl
wrong_equation A x (plain (term_equation_goal s t B)) h = refl

pub no_equation : (ts : List Expression) (x y : Thesis) (q : Refusal) → length x.domains ≢ 0 → StatesNoEquation y → q ≡ judge.WrongForm → FindsEquation ts x y (Err q)
no_equation ts x y q n h same =
    let L : (d : ℕ) × (es : List ℕ) × (x.domains ≡ d ∷ es) = some_domain x.domains n in
    wrong_form ts (equal_substitution_checks (thesis_in ts x) (thesis_in ts y)) q same
    (ap (λ ds. first_refusal (equal_substitution_checks (under ts ds (plain (claim_in ts x.form))) (thesis_in ts y))) L.2 ∙ wrong_equation (tree ts L.0) (under ts L.1 (plain (claim_in ts x.form))) (thesis_in ts y) (h ts))

-- whether there is a head is said below the domains
head_below : (ts : List Expression) (ds : List ℕ) (f : Form) (b : Bool) → HasHead f b → has_head (under ts ds (plain (claim_in ts f))) ≡ b
head_below ts ds f b h = has_head-under ts ds (plain (claim_in ts f)) ∙ h ts

pub headless : (ts : List Expression) (x y : Thesis) (s t A : ℕ) → length x.domains ≢ 0 → StatesEquation y s t A → HasHead x.form false → FindsEquation ts x y (Err judge.WrongForm)
headless ts x y s t A n h none =
    let L : (d : ℕ) × (es : List ℕ) × (x.domains ≡ d ∷ es) = some_domain x.domains n in (
      ap₂ (λ ds z. first_refusal (equal_substitution_checks (under ts ds (plain (claim_in ts x.form))) z)) L.2 (h ts)
          ∙ if_false _ (Some reference.WrongForm) (has_head (under ts L.1 (plain (claim_in ts x.form)))) (head_below ts L.1 x.form false none),
      tt,
    )

-- the checks where there is a head
with_head : (D : Expression) (x : Statement) (S T B : Expression) → has_head x ≡ true
    → first_refusal (equal_substitution_checks (abstracted D x) (plain (equal_terms S T B))) ≡ cond (equal_expressions B D) (first_refusal (reference.forms_result (equal_substitution (abstracted D x) (plain (equal_terms S T B))))) (Some (reference.TypeDiffers (record { found = B; wanted = D; under = zero })))
with_head D x S T B h = if_true _ (Some reference.WrongForm) (has_head x) h

pub other_type : (ts : List Expression) (x y : Thesis) (s t A d : ℕ) (q : Refusal) → length x.domains ≢ 0 → d ≡ get_or x.domains 0 d → StatesEquation y s t A → HasHead x.form true → (A < length ts) × (d < length ts)
    → equal_in ts A d ≡ false → q ≡ judge.TypeDiffers (differ_at zero A d) → FindsEquation ts x y (Err q)
other_type ts x y s t A d q n at h some b f same =
    let L : (es : List ℕ) × (x.domains ≡ d ∷ es) = first_there x.domains d n at in
    let X = under ts L.0 (plain (claim_in ts x.form)) in
    subst (λ q. Refuses ts (equal_substitution_checks (thesis_in ts x) (thesis_in ts y)) q) (sym same) (
      ap₂ (λ ds z. first_refusal (equal_substitution_checks (under ts ds (plain (claim_in ts x.form))) z)) L.1 (h ts)
          ∙ with_head (tree ts d) X (tree ts s) (tree ts t) (tree ts A) (head_below ts L.0 x.form true some)
          ∙ if_false _ (Some (reference.TypeDiffers (record { found = tree ts A; wanted = tree ts d; under = zero }))) (equal_in ts A d) f,
      b,
    )

pub sides_found : (ts : List Expression) (x y : Thesis) (s t A d : ℕ) → length x.domains ≢ 0 → d ≡ get_or x.domains 0 d → StatesEquation y s t A → HasHead x.form true → equal_in ts A d ≡ true
    → FindsEquation ts x y (Ok (s, t))
sides_found ts x y s t A d n at h some k =
    let L : (es : List ℕ) × (x.domains ≡ d ∷ es) = first_there x.domains d n at in
    subst (λ X. PutsEquation X (thesis_in ts y) (tree ts s) (tree ts t)) (sym (ap (λ ds. under ts ds (plain (claim_in ts x.form))) L.1))
    (subst (λ Y. PutsEquation (under ts (d ∷ L.0) (plain (claim_in ts x.form))) Y (tree ts s) (tree ts t)) (sym (h ts))
    (here (tree ts d) (under ts L.0 (plain (claim_in ts x.form))) (tree ts s) (tree ts t) (tree ts A) (head_below ts L.0 x.form true some) k))
  where
    here : (D : Expression) (x : Statement) (S T B : Expression) → has_head x ≡ true → equal_expressions B D ≡ true → PutsEquation (abstracted D x) (plain (equal_terms S T B)) S T
    here D x S T B h k =
        let row : equal_substitution (abstracted D x) (plain (equal_terms S T B)) ≡ Some (equated_at (abstracted D x) S T) = ap₂ (λ a b. when (a && b) (equated_at (abstracted D x) S T)) h (equal_back D B ∙ k) in (
          h,
          row,
          with_head D x S T B h
              ∙ if_true _ (Some (reference.TypeDiffers (record { found = B; wanted = D; under = zero }))) (equal_expressions B D) k
              ∙ ap (λ o. first_refusal (reference.forms_result o)) row,
        )

-- what was found, over the table itself
pub found_in : (ts us : List Expression) (x y : Thesis) (r : Result (ℕ × ℕ) Refusal) → us ≡ ts → FindsEquation us x y r → FindsEquation ts x y r
found_in ts us x y r e h = subst (λ ts. FindsEquation ts x y r) e h

-- What is formed.

boundary_of-moved : (f : ℕ → Expression → Expression) (k : ℕ) (x : Statement) → boundary_of (map_statement f k x) ≡ map_statement f k (boundary_of x)
boundary_of-moved f k (abstracted A x) = ap (abstracted (f k A)) (boundary_of-moved f (suc k) x)
boundary_of-moved f k (plain (is_type A)) = refl
boundary_of-moved f k (plain (has_type t A)) = refl
boundary_of-moved f k (plain (equal_types A B)) = refl
boundary_of-moved f k (plain (equal_terms s t A)) = refl
boundary_of-moved f k (plain type_goal) = refl
boundary_of-moved f k (plain (term_goal A)) = refl
boundary_of-moved f k (plain (type_equation_goal A B)) = refl
boundary_of-moved f k (plain (term_equation_goal s t A)) = refl

has_head-moved : (f : ℕ → Expression → Expression) (k : ℕ) (x : Statement) → has_head (map_statement f k x) ≡ has_head x
has_head-moved f k (abstracted A x) = has_head-moved f (suc k) x
has_head-moved f k (plain (is_type A)) = refl
has_head-moved f k (plain (has_type t A)) = refl
has_head-moved f k (plain (equal_types A B)) = refl
has_head-moved f k (plain (equal_terms s t A)) = refl
has_head-moved f k (plain type_goal) = refl
has_head-moved f k (plain (term_goal A)) = refl
has_head-moved f k (plain (type_equation_goal A B)) = refl
has_head-moved f k (plain (term_equation_goal s t A)) = refl

head-moved : (f : ℕ → Expression → Expression) (k : ℕ) (x : Statement) → has_head x ≡ true → head (map_statement f k x) ≡ f (k + domain_count x) (head x)
head-moved f k (abstracted A x) h = let e : suc k + domain_count x ≡ k + suc (domain_count x) = omega arith in head-moved f (suc k) x h ∙ ap (λ n. f n (head x)) e
head-moved f k (plain (is_type A)) h = let e : k ≡ k + 0 = omega arith in ap (λ n. f n A) e
head-moved f k (plain (has_type t A)) h = let e : k ≡ k + 0 = omega arith in ap (λ n. f n t) e
head-moved f k (plain (equal_types A B)) h = true_false (sym h)
head-moved f k (plain (equal_terms s t A)) h = true_false (sym h)
head-moved f k (plain type_goal) h = true_false (sym h)
head-moved f k (plain (term_goal A)) h = true_false (sym h)
head-moved f k (plain (type_equation_goal A B)) h = true_false (sym h)
head-moved f k (plain (term_equation_goal s t A)) h = true_false (sym h)

-- the test for a statement under a domain
abbrev IsAbstracted : Statement → Type 0
IsAbstracted (plain c) = ⊥
IsAbstracted (abstracted A x) = Unit {0}

abstracted_in : (ts : List Expression) (x : Thesis) → 0 < length x.domains → IsAbstracted (thesis_in ts x)
abstracted_in ts x l = go x.domains l
  where
    go : (ds : List ℕ) → 0 < length ds → IsAbstracted (under ts ds (plain (claim_in ts x.form)))
    go [] l = absurd (omega (arith, l))
    go (d ∷ ds) l = tt

-- the equation of the head at the left side and another head
equated_is : (X : Statement) (S T : Expression) → IsAbstracted X → has_head X ≡ true → equate (boundary_of (opened S X)) (head (opened S X)) (opened_head X T) ≡ equated_at X S T
equated_is (plain c) S T a h = absurd a
equated_is (abstracted A x) S T a h =
    let n : 0 + domain_count x ≡ domain_count x = omega arith in
    ap₂ (λ b e. equate b e (opened_head (abstracted A x) T)) (boundary_of-moved (λ l. open_at l S) zero x) (head-moved (λ l. open_at l S) zero x h ∙ ap (λ n. open_at n S (head x)) n)

opened_has_head : (X : Statement) (S : Expression) → has_head X ≡ true → has_head (opened S X) ≡ true
opened_has_head (plain c) S h = h
opened_has_head (abstracted A x) S h = has_head-moved (λ l. open_at l S) zero x ∙ h

-- a form with a head has one over each table
form_head : (ts us : List Expression) (f : Form) → has_head_claim (claim_in ts f) ≡ has_head_claim (claim_in us f)
form_head ts us (Ty A) = refl
form_head ts us (Tm t A) = refl
form_head ts us (EqTy A B) = refl
form_head ts us (EqTm s t A) = refl

-- and so the opened thesis has a head
pub opened_form : (ts us : List Expression) (x z : Thesis) (S : Expression) → HasHead x.form true → thesis_in us z ≡ opened S (thesis_in ts x) → HasHead z.form true
opened_form ts us x z S h e vs =
    form_head vs us z.form
    ∙ sym (has_head-under us z.domains (plain (claim_in us z.form)))
    ∙ ap has_head e
    ∙ opened_has_head (thesis_in ts x) S (head_below ts x.domains x.form true h)

-- the head of a thesis under its domains
opened_head_is : (ts : List Expression) (x : Thesis) (T : Expression) (n : ℕ) → suc n ≡ length x.domains → opened_head (thesis_in ts x) T ≡ open_at n T (head_of_claim (claim_in ts x.form))
opened_head_is ts x T n e = go x.domains e
  where
    counted : (ds : List ℕ) → domain_count (under ts ds (plain (claim_in ts x.form))) ≡ length ds
    counted [] = refl
    counted (d ∷ ds) = ap suc (counted ds)

    go : (ds : List ℕ) → suc n ≡ length ds → opened_head (under ts ds (plain (claim_in ts x.form))) T ≡ open_at n T (head_of_claim (claim_in ts x.form))
    go [] e = absurd (omega (arith, e))
    go (d ∷ ds) e = let c : length ds ≡ n = omega (arith, e) in ap₂ (λ n h. open_at n T h) (counted ds ∙ c) (head-under ts ds (plain (claim_in ts x.form)))

form_head_is : (ts : List Expression) (f : Form) (e : ℕ) → head_of_form f ≡ Some e → head_of_claim (claim_in ts f) ≡ tree ts e
form_head_is ts (Ty A) e h = cc
form_head_is ts (Tm t A) e h = cc
form_head_is ts (EqTy A B) e h = let clash : None ≡ Some e = h in cc
form_head_is ts (EqTm s t A) e h = let clash : None ≡ Some e = h in cc

-- what is opened is the head
pub head_opened : (ts : List Expression) (x : Thesis) (T : Expression) (n e : ℕ) → suc n ≡ length x.domains → head_of_form x.form ≡ Some e → open_at n T (tree ts e) ≡ opened_head (thesis_in ts x) T
head_opened ts x T n e l h = ap (open_at n T) (sym (form_head_is ts x.form e h)) ∙ sym (opened_head_is ts x T n l)

-- a form with a head has it
pub no_form_head : (f : Form) → HasHead f true → head_of_form f ≡ None → ⊥
no_form_head (Ty A) h e = cc
no_form_head (Tm t A) h e = cc
no_form_head (EqTy A B) h e = true_false (sym (h []))
no_form_head (EqTm s t A) h e = true_false (sym (h []))

pub no_other : (f : Form) → HasHead f true → ((A : ℕ) → f ≡ Ty A → ⊥) → ((t A : ℕ) → f ≡ Tm t A → ⊥) → ⊥
no_other (Ty A) h i j = i A refl
no_other (Tm t A) h i j = j t A refl
no_other (EqTy A B) h i j = true_false (sym (h []))
no_other (EqTm s t A) h i j = true_false (sym (h []))

-- the equation, as a thesis over the table
equation_formed : (ts : List Expression) (z : Thesis) (f : Form) (e : ℕ) → IsEqualTo z.form e f → under ts z.domains (plain (claim_in ts f)) ≡ equate (boundary_of (thesis_in ts z)) (head (thesis_in ts z)) (tree ts e)
equation_formed ts z f e h =
    let c = claim_in ts z.form in
    ap (λ d. under ts z.domains (plain d)) (h ts)
    ∙ sym (equate-under ts z.domains (plain (boundary_of_claim c)) (head_of_claim c) (tree ts e))
    ∙ ap₂ (λ b h. equate b h (tree ts e)) (sym (boundary_of-under ts z.domains (plain c))) (sym (head-under ts z.domains (plain c)))

-- over a table that goes on
pub head_later : (ts us : List Expression) (x : Thesis) (r : ℕ) → Extends ts us → ThesisBelow (length ts) x → r < length ts → opened_head (thesis_in us x) (tree us r) ≡ opened_head (thesis_in ts x) (tree ts r)
head_later ts us x r g b l = ap₂ opened_head (thesis_extends ts us x g b) (tree_extends ts us r g l)

pub equation_is : (ts us vs : List Expression) (x z : Thesis) (l r h : ℕ) (f : Form) → Extends ts us → Extends us vs → ThesisBelow (length ts) x → r < length ts → ThesisBelow (length us) z → 0 < length x.domains → HasHead x.form true
    → thesis_in us z ≡ opened (tree ts l) (thesis_in ts x) → IsEqualTo z.form h f → tree vs h ≡ opened_head (thesis_in us x) (tree us r)
    → under vs z.domains (plain (claim_in vs f)) ≡ equated_in ts x l r
equation_is ts us vs x z l r h f g k b m d n p e q i =
    let X = thesis_in ts x in
    equation_formed vs z f h q
    ∙ ap₂ (λ Z H. equate (boundary_of Z) (head Z) H) (thesis_extends us vs z k d ∙ e) (i ∙ head_later ts us x r g b m)
    ∙ equated_is X (tree ts l) (tree ts r) (abstracted_in ts x n) (head_below ts x.domains x.form true p)

-- what is formed is a part of the equation
left_small : (Z : Statement) (H : Expression) → has_head Z ≡ true → AllSmall (expressions (equate (boundary_of Z) (head Z) H)) → AllSmall (expressions Z)
left_small (abstracted A x) H h k = (k.0, left_small x H h k.1)
left_small (plain (is_type A)) H h k = (k.0, tt)
left_small (plain (has_type t A)) H h k = (k.0, (k.1.1.0, tt))
left_small (plain (equal_types A B)) H h k = true_false (sym h)
left_small (plain (equal_terms s t A)) H h k = true_false (sym h)
left_small (plain type_goal) H h k = true_false (sym h)
left_small (plain (term_goal A)) H h k = true_false (sym h)
left_small (plain (type_equation_goal A B)) H h k = true_false (sym h)
left_small (plain (term_equation_goal s t A)) H h k = true_false (sym h)

right_small : (Z : Statement) (H : Expression) → has_head Z ≡ true → AllSmall (expressions (equate (boundary_of Z) (head Z) H)) → IsSmall H
right_small (abstracted A x) H h k = right_small x H h k.1
right_small (plain (is_type A)) H h k = k.1.0
right_small (plain (has_type t A)) H h k = k.1.0
right_small (plain (equal_types A B)) H h k = true_false (sym h)
right_small (plain (equal_terms s t A)) H h k = true_false (sym h)
right_small (plain type_goal) H h k = true_false (sym h)
right_small (plain (term_goal A)) H h k = true_false (sym h)
right_small (plain (type_equation_goal A B)) H h k = true_false (sym h)
right_small (plain (term_equation_goal s t A)) H h k = true_false (sym h)

-- the equation by the opened thesis and the opened head
parts_small : (X : Statement) (S T : Expression) → IsAbstracted X → has_head X ≡ true → AllSmall (expressions (equated_at X S T)) → AllSmall (expressions (equate (boundary_of (opened S X)) (head (opened S X)) (opened_head X T)))
parts_small X S T a h k = subst (λ z. AllSmall (expressions z)) (sym (equated_is X S T a h)) k

pub left_opened_small : (ts : List Expression) (x : Thesis) (l r : ℕ) → 0 < length x.domains → HasHead x.form true → IsEquatedSmall ts x l r → IsSmallStatement (opened (tree ts l) (thesis_in ts x))
left_opened_small ts x l r n p k =
    let X = thesis_in ts x in
    let h : has_head X ≡ true = head_below ts x.domains x.form true p in
    statement_small (opened (tree ts l) X) zero (left_small (opened (tree ts l) X) (opened_head X (tree ts r)) (opened_has_head X (tree ts l) h) (parts_small X (tree ts l) (tree ts r) (abstracted_in ts x n) h k))

pub right_opened_small : (ts us : List Expression) (x : Thesis) (l r : ℕ) → Extends ts us → ThesisBelow (length ts) x → r < length ts → 0 < length x.domains → HasHead x.form true → IsEquatedSmall ts x l r → IsSmall (opened_head (thesis_in us x) (tree us r))
right_opened_small ts us x l r g b m n p k =
    let X = thesis_in ts x in
    let h : has_head X ≡ true = head_below ts x.domains x.form true p in
    subst IsSmall (sym (head_later ts us x r g b m))
    (right_small (opened (tree ts l) X) (opened_head X (tree ts r)) (opened_has_head X (tree ts l) h) (parts_small X (tree ts l) (tree ts r) (abstracted_in ts x n) h k))

-- The call.

equates : IsCallOfTwo by_substeq by_substeq equal_substitution_checks equal_substitution
equates = record { resolves = λ W p q. refl; kind = λ P Q h k. two_theses (is_thesis P.statement) (is_thesis Q.statement) h k; checks_are = λ W P Q. refl; row_is = λ W P Q. refl; set_is = λ P Q. refl }

pub equation_answers : (s : State) (p q : ℕ) (X Y y : Statement) (L R : Expression) (S T U : List Atom) → statement_at s p ≡ Some X → set_at s p ≡ Some S → is_thesis X ≡ true → statement_at s q ≡ Some Y → set_at s q ≡ Some T → is_thesis Y ≡ true
    → PutsEquation X Y L R → y ≡ equated_at X L R → AllSmall (expressions y) → U ≡ union S T → IsAnswer s (by_substeq p q) (Ok (rests y U))
equation_answers s p q X Y y L R S T U h k t l m u f same small set =
    answers_two equates s p q X Y (equated_at X L R) y S T U h k l m t u (f.2 ∙ forms_pass (expressions (equated_at X L R)) (subst (λ z. AllSmall (expressions z)) same small), f.1) same set

pub equation_refused : (s t : State) (p q : ℕ) (X Y : Statement) (r : Refusal) → statement_at s p ≡ Some X → statement_at s q ≡ Some Y → Stays s t → Refuses t.trees (equal_substitution_checks X Y) r → Answers s (by_substeq p q) (Err (Refused r)) t
equation_refused s t p q X Y r h k stays f =
    let P = with_statement s p X h in
    let Q = with_statement s q Y k in
    refused s t (by_substeq p q) (by_substeq (rests X P.0) (rests Y Q.0)) r (resolves_two s (by_substeq p q) by_substeq p q (rests X P.0) (rests Y Q.0) refl P.1 Q.1) f stays

-- a fault of what is formed
pub equation_not : (s t : State) (p q : ℕ) (X Y : Statement) (L R : Expression) (f : SynFault) (g : Fault) → statement_at s p ≡ Some X → statement_at s q ≡ Some Y → Stays s t → PutsEquation X Y L R → g ≡ fault_of f
    → (f ≡ syntax.TooBig → AllSmall (expressions (equated_at X L R)) → ⊥) → Answers s (by_substeq p q) (Err g) t
equation_not s t p q X Y L R syntax.TooBig g h k stays puts same big =
    subst (λ g. Answers s (by_substeq p q) (Err g) t) (sym same) (equation_refused s t p q X Y judge.TooBig h k stays (puts.2 ∙ forms_fail (expressions (equated_at X L R)) (big refl), tt))
equation_not s t p q X Y L R syntax.Memory g h k stays puts same big = subst (λ g. Answers s (by_substeq p q) (Err g) t) (sym same) stays
