-- Calls of one or two theses: what has to be found out for their answers and their refusals.
use Rattle.std.proofs.Common.{◌≡◌, ◌∙◌, ℕ, Bool, true, false, ◌&&◌, Option, Some, List, ap, ap₂, sym, subst, ◌⊎◌, inl, inr}
use Rattle.std.specs.Prelude.{option_map, Ok, Err}
use Rattle.ft_theory.specs.Expressions.{Expression}
use Rattle.ft_theory.specs.Statements.{Statement}
use Rattle.ft_items.specs.Sets.{Atom, union}
use Rattle.ft_items.specs.Equal.{is_thesis, is_plain}
use Rattle.ft_items.specs.Item.{Stated}
use Rattle.ft_items.specs.Store.{Assertion, Store, Resolved, entry_named, resolve, with_one, with_two, with_three, Declarations}
use Rattle.ft_items.specs.Rows.{conclusion, result_set}
use Rattle.ft_items.specs.Good.{of_kind}
use Rattle.ft_reference.specs.Refusals.{Check, first_refusal}
use Rattle.ft_reference.specs.Refusals as reference
use Rattle.ft_reference.specs.Checks.{checks}
use Rattle.ft_judge.specs.Laws.{claim_is}
use Rattle.ft_judge.specs.declared.judgement.Form.{Form}
use Rattle.ft_judge.specs.declared.fault.Refusal.{Refusal}
use Rattle.ft_judge.specs.declared.fault.Refusal.TheVariants.{WrongForm}
use Rattle.ft_judge.specs.declared.fault.Fault.TheVariants.{Refused}
use Rattle.ft_kernel.specs.State.{State, entry_at, statement_at, set_at, IsThesisOf}
use Rattle.ft_calls.specs.Answers.{IsAnswer, Answers}
use Rattle.ft_calls.specs.Forming.{Gives, Refuses, plain_in, FormsOne, FormsTwo, FormsThree, HasDomains}
use Rattle.ft_calls.proofs.Entries.{entry_is, stated_is}
use Rattle.ft_calls.proofs.Answering.{store, declarations, rests, resolves_one, resolves_two, resolves_three, answered_ok, refused_here, with_statement}

-- The call n of one thesis has the step f, these checks and this row, and the set of the thesis.
pub record IsCallOfOne (n : ℕ → Stated) (f : Assertion → Resolved) (cs : Statement → List Check) (row : Statement → Option Statement) : Type 0 where
  pub resolves : (W : Store) (p : ℕ) → resolve W (n p) ≡ with_one f (entry_named W p)
  pub kind : (P : Assertion) → is_thesis P.statement ≡ true → of_kind (f P) ≡ true
  pub checks_are : (W : Declarations) (P : Assertion) → checks W (f P) ≡ cs P.statement
  pub row_is : (W : Declarations) (P : Assertion) → conclusion W (f P) ≡ row P.statement
  pub set_is : (P : Assertion) → result_set (f P) ≡ P.set

-- The same for a call of a thesis or a boundary.
pub record IsCallOfEither (n : ℕ → Stated) (f : Assertion → Resolved) (cs : Statement → List Check) (row : Statement → Option Statement) : Type 0 where
  pub resolves : (W : Store) (p : ℕ) → resolve W (n p) ≡ with_one f (entry_named W p)
  pub kind : (P : Assertion) → of_kind (f P) ≡ true
  pub checks_are : (W : Declarations) (P : Assertion) → checks W (f P) ≡ cs P.statement
  pub row_is : (W : Declarations) (P : Assertion) → conclusion W (f P) ≡ row P.statement
  pub set_is : (P : Assertion) → result_set (f P) ≡ P.set

pub of_either : {n : ℕ → Stated} {f : Assertion → Resolved} {cs : Statement → List Check} {row : Statement → Option Statement} → IsCallOfEither n f cs row → IsCallOfOne n f cs row
of_either C = record { resolves = C.resolves; kind = λ P h. C.kind P; checks_are = C.checks_are; row_is = C.row_is; set_is = C.set_is }

-- The call n of two theses, likewise, and the sets of both.
pub record IsCallOfTwo (n : ℕ → ℕ → Stated) (f : Assertion → Assertion → Resolved) (cs : Statement → Statement → List Check) (row : Statement → Statement → Option Statement) : Type 0 where
  pub resolves : (W : Store) (p q : ℕ) → resolve W (n p q) ≡ with_two f (entry_named W p) (entry_named W q)
  pub kind : (P Q : Assertion) → is_thesis P.statement ≡ true → is_thesis Q.statement ≡ true → of_kind (f P Q) ≡ true
  pub checks_are : (W : Declarations) (P Q : Assertion) → checks W (f P Q) ≡ cs P.statement Q.statement
  pub row_is : (W : Declarations) (P Q : Assertion) → conclusion W (f P Q) ≡ row P.statement Q.statement
  pub set_is : (P Q : Assertion) → result_set (f P Q) ≡ union P.set Q.set

-- the kinds of theses, as a step's own test has them
pub one_thesis : (b : Bool) → b ≡ true → ((b && true) && true) ≡ true
one_thesis b h = ap (λ b. (b && true) && true) h

pub two_theses : (b c : Bool) → b ≡ true → c ≡ true → ((b && (c && true)) && true) ≡ true
two_theses b c h k = ap₂ (λ b c. (b && (c && true)) && true) h k

-- What is answered: the row gives x, and no check fails.

pub answers_one : {n : ℕ → Stated} {f : Assertion → Resolved} {cs : Statement → List Check} {row : Statement → Option Statement} → IsCallOfOne n f cs row
    → (s : State) (p : ℕ) (X x y : Statement) (S U : List Atom) → statement_at s p ≡ Some X → set_at s p ≡ Some S → is_thesis X ≡ true → Gives (cs X) (row X) x → y ≡ x → U ≡ S → IsAnswer s (n p) (Ok (rests y U))
answers_one {n} {f} {cs} {row} C s p X x y S U h k t g same set =
    let P = rests X S in
    subst (λ a. IsAnswer s (n p) (Ok a)) (ap₂ rests (sym same) (C.set_is P ∙ sym set))
    (answered_ok s (n p) (f P) x (resolves_one s (n p) f p P (C.resolves (store s) p) (entry_is s p X S h k)) (C.kind P t)
    (ap first_refusal (C.checks_are (declarations s) P) ∙ g.0, C.row_is (declarations s) P ∙ g.1))

pub answers_two : {n : ℕ → ℕ → Stated} {f : Assertion → Assertion → Resolved} {cs : Statement → Statement → List Check} {row : Statement → Statement → Option Statement} → IsCallOfTwo n f cs row
    → (s : State) (p q : ℕ) (X Y x y : Statement) (S T U : List Atom) → statement_at s p ≡ Some X → set_at s p ≡ Some S → statement_at s q ≡ Some Y → set_at s q ≡ Some T
    → is_thesis X ≡ true → is_thesis Y ≡ true → Gives (cs X Y) (row X Y) x → y ≡ x → U ≡ union S T → IsAnswer s (n p q) (Ok (rests y U))
answers_two {n} {f} {cs} {row} C s p q X Y x y S T U h k l m t u g same set =
    let P = rests X S in
    let Q = rests Y T in
    subst (λ a. IsAnswer s (n p q) (Ok a)) (ap₂ rests (sym same) (C.set_is P Q ∙ sym set))
    (answered_ok s (n p q) (f P Q) x (resolves_two s (n p q) f p q P Q (C.resolves (store s) p q) (entry_is s p X S h k) (entry_is s q Y T l m)) (C.kind P Q t u)
    (ap first_refusal (C.checks_are (declarations s) P Q) ∙ g.0, C.row_is (declarations s) P Q ∙ g.1))

-- the same where the second statement is not looked at
pub answers_both : {n : ℕ → ℕ → Stated} {f : Assertion → Assertion → Resolved} {cs : Statement → Statement → List Check} {row : Statement → Statement → Option Statement} → IsCallOfTwo n f cs row
    → (s : State) (p q : ℕ) (X x y : Statement) (S T U : List Atom) → IsThesisOf s p → IsThesisOf s q → statement_at s p ≡ Some X → set_at s p ≡ Some S → set_at s q ≡ Some T
    → ((Y : Statement) → Gives (cs X Y) (row X Y) x) → y ≡ x → U ≡ union S T → IsAnswer s (n p q) (Ok (rests y U))
answers_both {n} {f} {cs} {row} C s p q X x y S T U P Q h k m g same set =
    answers_two C s p q X Q.0.statement x y S T U h k (ap (option_map (λ (a : Assertion). a.statement)) Q.1) m
    (subst (λ x. is_thesis x ≡ true) (stated_is s p P.0 X P.1 h) P.2) Q.2 (g Q.0.statement) same set

pub answers_either : {n : ℕ → Stated} {f : Assertion → Resolved} {cs : Statement → List Check} {row : Statement → Option Statement} → IsCallOfEither n f cs row
    → (s : State) (p : ℕ) (X x y : Statement) (S U : List Atom) → statement_at s p ≡ Some X → set_at s p ≡ Some S → Gives (cs X) (row X) x → y ≡ x → U ≡ S → IsAnswer s (n p) (Ok (rests y U))
answers_either {n} {f} {cs} {row} C s p X x y S U h k g same set =
    let P = rests X S in
    subst (λ a. IsAnswer s (n p) (Ok a)) (ap₂ rests (sym same) (C.set_is P ∙ sym set))
    (answered_ok s (n p) (f P) x (resolves_one s (n p) f p P (C.resolves (store s) p) (entry_is s p X S h k)) (C.kind P)
    (ap first_refusal (C.checks_are (declarations s) P) ∙ g.0, C.row_is (declarations s) P ∙ g.1))

-- What is refused: the first check that fails.

pub refuses_one : {n : ℕ → Stated} {f : Assertion → Resolved} {cs : Statement → List Check} {row : Statement → Option Statement} → IsCallOfOne n f cs row
    → (s : State) (p : ℕ) (X : Statement) (q : Refusal) → statement_at s p ≡ Some X → Refuses s.trees (cs X) q → Answers s (n p) (Err (Refused q)) s
refuses_one {n} {f} {cs} {row} C s p X q h k =
    let P = with_statement s p X h in
    refused_here s (n p) (f (rests X P.0)) q (resolves_one s (n p) f p (rests X P.0) (C.resolves (store s) p) P.1)
    (ap first_refusal (C.checks_are (declarations s) (rests X P.0)) ∙ k.0, k.1)

pub refuses_two : {n : ℕ → ℕ → Stated} {f : Assertion → Assertion → Resolved} {cs : Statement → Statement → List Check} {row : Statement → Statement → Option Statement} → IsCallOfTwo n f cs row
    → (s : State) (p r : ℕ) (X Y : Statement) (q : Refusal) → statement_at s p ≡ Some X → statement_at s r ≡ Some Y → Refuses s.trees (cs X Y) q → Answers s (n p r) (Err (Refused q)) s
refuses_two {n} {f} {cs} {row} C s p r X Y q h l k =
    let P = with_statement s p X h in
    let R = with_statement s r Y l in
    refused_here s (n p r) (f (rests X P.0) (rests Y R.0)) q (resolves_two s (n p r) f p r (rests X P.0) (rests Y R.0) (C.resolves (store s) p r) P.1 R.1)
    (ap first_refusal (C.checks_are (declarations s) (rests X P.0) (rests Y R.0)) ∙ k.0, k.1)

-- The same where the theses are plain forms of the table.

pub answers_plain_one : {A : Type 0} (seen : List Expression → A → Statement) {n : ℕ → Stated} {f : Assertion → Resolved} {cs : Statement → List Check} {row : Statement → Option Statement} → IsCallOfOne n f cs row
    → (s : State) (p : ℕ) (x : Form) (z : A) (y : Statement) (S U : List Atom) → statement_at s p ≡ Some (plain_in s.trees x) → set_at s p ≡ Some S
    → FormsOne seen cs row s.trees x (Ok z) → y ≡ seen s.trees z → U ≡ S → IsAnswer s (n p) (Ok (rests y U))
answers_plain_one {A} seen C s p x z y S U h k g same set = answers_one C s p (plain_in s.trees x) (seen s.trees z) y S U h k (claim_is s.trees x) g same set

pub answers_plain_two : {A : Type 0} (seen : List Expression → A → Statement) {n : ℕ → ℕ → Stated} {f : Assertion → Assertion → Resolved} {cs : Statement → Statement → List Check} {row : Statement → Statement → Option Statement} → IsCallOfTwo n f cs row
    → (s : State) (ts : List Expression) (p q : ℕ) (v w : Form) (z : A) (y : Statement) (S T U : List Atom) → statement_at s p ≡ Some (plain_in s.trees v) → set_at s p ≡ Some S → statement_at s q ≡ Some (plain_in s.trees w) → set_at s q ≡ Some T
    → ts ≡ s.trees → FormsTwo seen cs row ts v w (Ok z) → y ≡ seen s.trees z → U ≡ union S T → IsAnswer s (n p q) (Ok (rests y U))
answers_plain_two {A} seen {n} {f} {cs} {row} C s ts p q v w z y S T U h k l m e g same set =
    answers_two C s p q (plain_in s.trees v) (plain_in s.trees w) (seen s.trees z) y S T U h k l m (claim_is s.trees v) (claim_is s.trees w)
    (subst (λ ts. FormsTwo seen cs row ts v w (Ok z)) e g) same set

pub refuses_plain_two : {A : Type 0} (seen : List Expression → A → Statement) {n : ℕ → ℕ → Stated} {f : Assertion → Assertion → Resolved} {cs : Statement → Statement → List Check} {row : Statement → Statement → Option Statement} → IsCallOfTwo n f cs row
    → (s : State) (ts : List Expression) (p r : ℕ) (v w : Form) (q : Refusal) → statement_at s p ≡ Some (plain_in s.trees v) → statement_at s r ≡ Some (plain_in s.trees w)
    → ts ≡ s.trees → FormsTwo seen cs row ts v w (Err q) → Answers s (n p r) (Err (Refused q)) s
refuses_plain_two {A} seen {n} {f} {cs} {row} C s ts p r v w q h l e g =
    refuses_two C s p r (plain_in s.trees v) (plain_in s.trees w) q h l (subst (λ ts. FormsTwo seen cs row ts v w (Err q)) e g)

-- Theses with domains, where they are to be plain.

pub wrong_form : (ts : List Expression) (cs : List Check) (q : Refusal) → q ≡ WrongForm → first_refusal cs ≡ Some reference.WrongForm → Refuses ts cs q
wrong_form ts cs q e h = subst (Refuses ts cs) (sym e) (h, tt)

pub wrong_one : {n : ℕ → Stated} {f : Assertion → Resolved} {cs : Statement → List Check} {row : Statement → Option Statement} → IsCallOfOne n f cs row
    → (s : State) (p : ℕ) (q : Refusal) → HasDomains s p → q ≡ WrongForm → ((x : Statement) → is_plain x ≡ false → first_refusal (cs x) ≡ Some reference.WrongForm) → Answers s (n p) (Err (Refused q)) s
wrong_one {n} {f} {cs} {row} C s p q h same none =
    refused_here s (n p) (f h.0) q (resolves_one s (n p) f p h.0 (C.resolves (store s) p) h.1)
    (wrong_form s.trees (checks (declarations s) (f h.0)) q same (ap first_refusal (C.checks_are (declarations s) h.0) ∙ none h.0.statement h.2))

pub wrong_two : {n : ℕ → ℕ → Stated} {f : Assertion → Assertion → Resolved} {cs : Statement → Statement → List Check} {row : Statement → Statement → Option Statement} → IsCallOfTwo n f cs row
    → (s : State) (p r : ℕ) (q : Refusal) → IsThesisOf s p → IsThesisOf s r → HasDomains s p ⊎ HasDomains s r → q ≡ WrongForm
    → ((x y : Statement) → is_plain x ≡ false → first_refusal (cs x y) ≡ Some reference.WrongForm)
    → ((x y : Statement) → is_plain y ≡ false → first_refusal (cs x y) ≡ Some reference.WrongForm) → Answers s (n p r) (Err (Refused q)) s
wrong_two {n} {f} {cs} {row} C s p r q P R h same left right = go h
  where
    at : (P R : Assertion) → entry_at s p ≡ Some P → entry_at s r ≡ Some R → first_refusal (cs P.statement R.statement) ≡ Some reference.WrongForm → Answers s (n p r) (Err (Refused q)) s
    at P R h k l =
        refused_here s (n p r) (f P R) q (resolves_two s (n p r) f p r P R (C.resolves (store s) p r) h k)
        (wrong_form s.trees (checks (declarations s) (f P R)) q same (ap first_refusal (C.checks_are (declarations s) P R) ∙ l))

    go : HasDomains s p ⊎ HasDomains s r → Answers s (n p r) (Err (Refused q)) s
    go (inl h) = at h.0 R.0 h.1 R.1 (left h.0.statement R.0.statement h.2)
    go (inr h) = at P.0 h.0 P.1 h.1 (right P.0.statement h.0.statement h.2)

-- Calls of three theses.

pub record IsCallOfThree (n : ℕ → ℕ → ℕ → Stated) (f : Assertion → Assertion → Assertion → Resolved) (cs : Statement → Statement → Statement → List Check) (row : Statement → Statement → Statement → Option Statement) : Type 0 where
  pub resolves : (W : Store) (p q r : ℕ) → resolve W (n p q r) ≡ with_three f (entry_named W p) (entry_named W q) (entry_named W r)
  pub kind : (P Q R : Assertion) → is_thesis P.statement ≡ true → is_thesis Q.statement ≡ true → is_thesis R.statement ≡ true → of_kind (f P Q R) ≡ true
  pub checks_are : (W : Declarations) (P Q R : Assertion) → checks W (f P Q R) ≡ cs P.statement Q.statement R.statement
  pub row_is : (W : Declarations) (P Q R : Assertion) → conclusion W (f P Q R) ≡ row P.statement Q.statement R.statement
  pub set_is : (P Q R : Assertion) → result_set (f P Q R) ≡ union P.set (union Q.set R.set)

pub three_theses : (b c d : Bool) → b ≡ true → c ≡ true → d ≡ true → ((b && (c && (d && true))) && true) ≡ true
three_theses b c d h k l = ap₂ (λ b c. (b && (c && (d && true))) && true) h k ∙ ap (λ d. (true && (true && (d && true))) && true) l

pub answers_plain_three : {A : Type 0} (seen : List Expression → A → Statement) {n : ℕ → ℕ → ℕ → Stated} {f : Assertion → Assertion → Assertion → Resolved} {cs : Statement → Statement → Statement → List Check} {row : Statement → Statement → Statement → Option Statement} → IsCallOfThree n f cs row
    → (s : State) (ts : List Expression) (p q r : ℕ) (u v w : Form) (z : A) (y : Statement) (S T R U : List Atom)
    → statement_at s p ≡ Some (plain_in s.trees u) → set_at s p ≡ Some S → statement_at s q ≡ Some (plain_in s.trees v) → set_at s q ≡ Some T → statement_at s r ≡ Some (plain_in s.trees w) → set_at s r ≡ Some R
    → ts ≡ s.trees → FormsThree seen cs row ts u v w (Ok z) → y ≡ seen s.trees z → U ≡ union S (union T R) → IsAnswer s (n p q r) (Ok (rests y U))
answers_plain_three {A} seen {n} {f} {cs} {row} C s ts p q r u v w z y S T R U h k l m i j e g same set =
    let P = rests (plain_in s.trees u) S in
    let Q = rests (plain_in s.trees v) T in
    let O = rests (plain_in s.trees w) R in
    let F : FormsThree seen cs row s.trees u v w (Ok z) = subst (λ ts. FormsThree seen cs row ts u v w (Ok z)) e g in
    subst (λ a. IsAnswer s (n p q r) (Ok a)) (ap₂ rests (sym same) (C.set_is P Q O ∙ sym set))
    (answered_ok s (n p q r) (f P Q O) (seen s.trees z)
    (resolves_three s (n p q r) f p q r P Q O (C.resolves (store s) p q r) (entry_is s p (plain_in s.trees u) S h k) (entry_is s q (plain_in s.trees v) T l m) (entry_is s r (plain_in s.trees w) R i j))
    (C.kind P Q O (claim_is s.trees u) (claim_is s.trees v) (claim_is s.trees w))
    (ap first_refusal (C.checks_are (declarations s) P Q O) ∙ F.0, C.row_is (declarations s) P Q O ∙ F.1))

refused_three : {n : ℕ → ℕ → ℕ → Stated} {f : Assertion → Assertion → Assertion → Resolved} {cs : Statement → Statement → Statement → List Check} {row : Statement → Statement → Statement → Option Statement} → IsCallOfThree n f cs row
    → (s : State) (p q r : ℕ) (e : Refusal) (P Q R : Assertion) → entry_at s p ≡ Some P → entry_at s q ≡ Some Q → entry_at s r ≡ Some R
    → Refuses s.trees (cs P.statement Q.statement R.statement) e → Answers s (n p q r) (Err (Refused e)) s
refused_three {n} {f} {cs} {row} C s p q r e P Q R h k l g =
    refused_here s (n p q r) (f P Q R) e (resolves_three s (n p q r) f p q r P Q R (C.resolves (store s) p q r) h k l) (ap first_refusal (C.checks_are (declarations s) P Q R) ∙ g.0, g.1)

pub refuses_plain_three : {A : Type 0} (seen : List Expression → A → Statement) {n : ℕ → ℕ → ℕ → Stated} {f : Assertion → Assertion → Assertion → Resolved} {cs : Statement → Statement → Statement → List Check} {row : Statement → Statement → Statement → Option Statement} → IsCallOfThree n f cs row
    → (s : State) (ts : List Expression) (p q r : ℕ) (u v w : Form) (e : Refusal) → statement_at s p ≡ Some (plain_in s.trees u) → statement_at s q ≡ Some (plain_in s.trees v) → statement_at s r ≡ Some (plain_in s.trees w)
    → ts ≡ s.trees → FormsThree seen cs row ts u v w (Err e) → Answers s (n p q r) (Err (Refused e)) s
refuses_plain_three {A} seen {n} {f} {cs} {row} C s ts p q r u v w e h k l same g =
    let P = with_statement s p (plain_in s.trees u) h in
    let Q = with_statement s q (plain_in s.trees v) k in
    let R = with_statement s r (plain_in s.trees w) l in
    refused_three C s p q r e (rests (plain_in s.trees u) P.0) (rests (plain_in s.trees v) Q.0) (rests (plain_in s.trees w) R.0) P.1 Q.1 R.1
    (subst (λ ts. FormsThree seen cs row ts u v w (Err e)) same g)

pub wrong_three : {n : ℕ → ℕ → ℕ → Stated} {f : Assertion → Assertion → Assertion → Resolved} {cs : Statement → Statement → Statement → List Check} {row : Statement → Statement → Statement → Option Statement} → IsCallOfThree n f cs row
    → (s : State) (p q r : ℕ) (e : Refusal) → IsThesisOf s p → IsThesisOf s q → IsThesisOf s r → HasDomains s p ⊎ (HasDomains s q ⊎ HasDomains s r) → e ≡ WrongForm
    → ((x y z : Statement) → is_plain x ≡ false → first_refusal (cs x y z) ≡ Some reference.WrongForm)
    → ((x y z : Statement) → is_plain y ≡ false → first_refusal (cs x y z) ≡ Some reference.WrongForm)
    → ((x y z : Statement) → is_plain z ≡ false → first_refusal (cs x y z) ≡ Some reference.WrongForm) → Answers s (n p q r) (Err (Refused e)) s
wrong_three {n} {f} {cs} {row} C s p q r e P Q R h same first second third = go h
  where
    at : (P Q R : Assertion) → entry_at s p ≡ Some P → entry_at s q ≡ Some Q → entry_at s r ≡ Some R → first_refusal (cs P.statement Q.statement R.statement) ≡ Some reference.WrongForm → Answers s (n p q r) (Err (Refused e)) s
    at P Q R i j k l = refused_three C s p q r e P Q R i j k (wrong_form s.trees (cs P.statement Q.statement R.statement) e same l)

    go : HasDomains s p ⊎ (HasDomains s q ⊎ HasDomains s r) → Answers s (n p q r) (Err (Refused e)) s
    go (inl h) = at h.0 Q.0 R.0 h.1 Q.1 R.1 (first h.0.statement Q.0.statement R.0.statement h.2)
    go (inr (inl h)) = at P.0 h.0 R.0 P.1 h.1 R.1 (second P.0.statement h.0.statement R.0.statement h.2)
    go (inr (inr h)) = at P.0 Q.0 h.0 P.1 Q.1 h.1 (third P.0.statement Q.0.statement h.0.statement h.2)
