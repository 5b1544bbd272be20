-- The reasons against entries, by the step.
use Rattle.std.proofs.Common.{◌≡◌, ℕ, Bool, true, false, ◌&&◌, not, Option, Some, None, List, [], refl, sym, ap, ◌∙◌}
use Rattle.std.specs.Prelude.{IfOk, Result, Ok, Err, option_map}
use Rattle.std.proofs.lemmas.Option.{same_Some}
use Rattle.ft_theory.specs.Statements.{plain, type_goal}
use Rattle.ft_theory.specs.Rules.{Rule}
use Rattle.ft_items.specs.Sets.{union, unions}
use Rattle.ft_items.specs.Equal.{is_thesis}
use Rattle.ft_items.specs.Item.{by_arg, by_btype, by_rule, by_rulewith}
use Rattle.ft_items.specs.Store.{Assertion, Store, Resolved, each, entry_named, rule_named, resolve, with_one, with_two, with_three}
use Rattle.ft_items.specs.Rows.{conclusion, result_set, rule_instance, rule_instance_with, statements, sets}
use Rattle.ft_items.specs.Good.{Reject as Reason, all_theses, reason_of_result}
use Rattle.ft_items.proofs.SetLemmas.{both}
use Rattle.ft_stated.specs.Steps.{stated_step}
use Rattle.ft_stated.specs.declared.step.StatedStep.{StatedStep}
use Rattle.ft_stated.specs.declared.step.StatedStep.TheVariants as step
use Rattle.ft_check.specs.Entries.{with_step}
use Rattle.ft_check.specs.Kinds.{kinds_right}
use Rattle.ft_check.specs.Rejects.{reason_of}
use Rattle.ft_check.specs.declared.reject.Reject.{Reject}
use Rattle.ft_common.proofs.Options.{none_some}

-- the result of a step
abbrev pub result_of : Store → Resolved → Assertion → StatedStep → Option Reason
result_of W s a t = reason_of_result (conclusion W.declarations s) (result_set s) (with_step a (stated_step t))

pub btype_result : (W : Store) (t : StatedStep) (a : Assertion) (r : Option Reason) (s : Resolved) → t ≡ step.Btype → resolve W (stated_step t) ≡ Some s
    → r ≡ reason_of_result (Some (plain type_goal)) [] (with_step a (stated_step t)) → r ≡ result_of W s a t
btype_result W t a r s e q h = h ∙ ap (λ s. result_of W s a t) (same_Some by_btype s (sym (ap (λ t. resolve W (stated_step t)) e) ∙ q))

pub one_result : {A : Type 0} (W : Store) (t : StatedStep) (f : A → Resolved) (o : Option A) (a : Assertion) (r : Option Reason) (s : Resolved) → resolve W (stated_step t) ≡ with_one f o → resolve W (stated_step t) ≡ Some s
    → ((b : A) → o ≡ Some b → r ≡ result_of W (f b) a t) → r ≡ result_of W s a t
one_result W t f None a r s e q h = none_some (sym e ∙ q)
one_result W t f (Some b) a r s e q h = h b refl ∙ ap (λ s. result_of W s a t) (same_Some (f b) s (sym e ∙ q))

-- in a result, where there is one
in_ok : {A E : Type 0} (P Q : A → Type 0) (r : Result A E) → ((x : A) → P x → Q x) → IfOk r P → IfOk r Q
in_ok P Q (Ok x) f h = f x h
in_ok P Q (Err e) f h = tt

abbrev pub gives : Option Reason → Option Reject → Type 0
gives r x = option_map reason_of x ≡ r

same_reason : {E : Type 0} (w v : Option Reason) (r : Result (Option Reject) E) → w ≡ v → IfOk r (gives w) → IfOk r (gives v)
same_reason w v r e h = in_ok (gives w) (gives v) r (λ x k. k ∙ e) h

pub one_checked : {A E : Type 0} (W : Store) (t : StatedStep) (f : A → Resolved) (o : Option A) (a : Assertion) (x : Result (Option Reject) E) (s : Resolved) → resolve W (stated_step t) ≡ with_one f o → resolve W (stated_step t) ≡ Some s
    → ((b : A) → o ≡ Some b → IfOk x (gives (result_of W (f b) a t))) → IfOk x (gives (result_of W s a t))
one_checked W t f None a x s e q h = none_some (sym e ∙ q)
one_checked W t f (Some b) a x s e q h = same_reason _ _ x (ap (λ s. result_of W s a t) (same_Some (f b) s (sym e ∙ q))) (h b refl)

pub arg_result : {E : Type 0} (W : Store) (t : StatedStep) (n p : ℕ) (a : Assertion) (x : Result (Option Reject) E) (s : Resolved) → resolve W (stated_step t) ≡ with_one (by_arg n) (entry_named W p) → resolve W (stated_step t) ≡ Some s → kinds_right (is_thesis a.statement) s ≡ true
    → ((b : Assertion) → entry_named W p ≡ Some b → is_thesis a.statement ≡ true → IfOk x (gives (result_of W (by_arg n b) a t))) → IfOk x (gives (result_of W s a t))
arg_result W t n p a x s e q k h = go (entry_named W p) refl (sym e ∙ q)
  where
    go : (o : Option Assertion) → entry_named W p ≡ o → with_one (by_arg n) o ≡ Some s → IfOk x (gives (result_of W s a t))
    go None f q = none_some q
    go (Some b) f q =
        let same : by_arg n b ≡ s = same_Some (by_arg n b) s q in
        let right : kinds_right (is_thesis a.statement) (by_arg n b) ≡ true = ap (kinds_right (is_thesis a.statement)) same ∙ k in
        same_reason _ _ x (ap (λ s. result_of W s a t) same) (h b f (both ((is_thesis b.statement && true) && true) (is_thesis a.statement) right).1)

pub two_result : {A B E : Type 0} (W : Store) (t : StatedStep) (f : A → B → Resolved) (o : Option A) (l : Option B) (a : Assertion) (x : Result (Option Reject) E) (s : Resolved) → resolve W (stated_step t) ≡ with_two f o l → resolve W (stated_step t) ≡ Some s
    → ((b : A) (c : B) → o ≡ Some b → l ≡ Some c → IfOk x (gives (result_of W (f b c) a t))) → IfOk x (gives (result_of W s a t))
two_result W t f None l a x s e q h = none_some (sym e ∙ q)
two_result W t f (Some b) None a x s e q h = none_some (sym e ∙ q)
two_result W t f (Some b) (Some c) a x s e q h = same_reason _ _ x (ap (λ s. result_of W s a t) (same_Some (f b c) s (sym e ∙ q))) (h b c refl refl)

pub three_result : {A B C E : Type 0} (W : Store) (t : StatedStep) (f : A → B → C → Resolved) (o : Option A) (l : Option B) (m : Option C) (a : Assertion) (x : Result (Option Reject) E) (s : Resolved) → resolve W (stated_step t) ≡ with_three f o l m → resolve W (stated_step t) ≡ Some s
    → ((b : A) (c : B) (d : C) → o ≡ Some b → l ≡ Some c → m ≡ Some d → IfOk x (gives (result_of W (f b c d) a t))) → IfOk x (gives (result_of W s a t))
three_result W t f None l m a x s e q h = none_some (sym e ∙ q)
three_result W t f (Some b) None m a x s e q h = none_some (sym e ∙ q)
three_result W t f (Some b) (Some c) None a x s e q h = none_some (sym e ∙ q)
three_result W t f (Some b) (Some c) (Some d) a x s e q h = same_reason _ _ x (ap (λ s. result_of W s a t) (same_Some (f b c d) s (sym e ∙ q))) (h b c d refl refl refl)

pub rule_result : {E : Type 0} (W : Store) (t : StatedStep) (r : ℕ) (ps : List ℕ) (a : Assertion) (x : Result (Option Reject) E) (b : Bool) (s : Resolved) → t ≡ step.Rule r ps → resolve W (stated_step t) ≡ Some s → kinds_right b s ≡ true
    → ((R : ℕ × Rule) (given : List Assertion) → rule_named W.declarations r ≡ Some R → each (entry_named W) ps ≡ Some given → all_theses given ≡ true
    → IfOk x (λ y. option_map reason_of y ≡ reason_of_result (rule_instance R.0 R.1 (statements given)) (unions (sets given)) (with_step a (stated_step t))))
    → IfOk x (λ y. option_map reason_of y ≡ result_of W s a t)
rule_result W t r ps a x b s e q k h = go (rule_named W.declarations r) refl (each (entry_named W) ps) refl (sym (ap (λ t. resolve W (stated_step t)) e) ∙ q)
  where
    right : (R : ℕ × Rule) (given : List Assertion) → by_rule R given ≡ s → all_theses given ≡ true
    right R given same =
        let kinds : kinds_right b (by_rule R given) ≡ true = ap (kinds_right b) same ∙ k in
        (both (all_theses given) true (both (all_theses given && true) _ kinds).0).0

    go : (o : Option (ℕ × Rule)) → rule_named W.declarations r ≡ o → (os : Option (List Assertion)) → each (entry_named W) ps ≡ os → with_two by_rule o os ≡ Some s → IfOk x (λ y. option_map reason_of y ≡ result_of W s a t)
    go None f os g q = none_some q
    go (Some R) f None g q = none_some q
    go (Some R) f (Some given) g q =
        let same : by_rule R given ≡ s = same_Some (by_rule R given) s q in
        same_reason _ _ x (ap (λ s. result_of W s a t) same) (h R given f g (right R given same))

pub rulewith_result : {E : Type 0} (W : Store) (t : StatedStep) (r p : ℕ) (ps : List ℕ) (a : Assertion) (x : Result (Option Reject) E) (b : Bool) (s : Resolved) → t ≡ step.Rulewith r p ps → resolve W (stated_step t) ≡ Some s → kinds_right b s ≡ true
    → ((R : ℕ × Rule) (c : Assertion) (given : List Assertion) → rule_named W.declarations r ≡ Some R → entry_named W p ≡ Some c → is_thesis c.statement ≡ false → each (entry_named W) ps ≡ Some given → all_theses given ≡ true
    → IfOk x (λ y. option_map reason_of y ≡ reason_of_result (rule_instance_with R.0 R.1 c.statement (statements given)) (union c.set (unions (sets given))) (with_step a (stated_step t))))
    → IfOk x (λ y. option_map reason_of y ≡ result_of W s a t)
rulewith_result W t r p ps a x b s e q k h = go (rule_named W.declarations r) refl (entry_named W p) refl (each (entry_named W) ps) refl (sym (ap (λ t. resolve W (stated_step t)) e) ∙ q)
  where
    kinds : (R : ℕ × Rule) (c : Assertion) (given : List Assertion) → by_rulewith R c given ≡ s → (all_theses given ≡ true) × ((not (is_thesis c.statement) && true) ≡ true)
    kinds R c given same =
        let right : kinds_right b (by_rulewith R c given) ≡ true = ap (kinds_right b) same ∙ k in
        both (all_theses given) (not (is_thesis c.statement) && true) (both (all_theses given && (not (is_thesis c.statement) && true)) _ right).0

    no_thesis : (b : Bool) → (not b && true) ≡ true → b ≡ false
    no_thesis true h = sym h
    no_thesis false h = refl

    go : (o : Option (ℕ × Rule)) → rule_named W.declarations r ≡ o → (l : Option Assertion) → entry_named W p ≡ l → (os : Option (List Assertion)) → each (entry_named W) ps ≡ os → with_three by_rulewith o l os ≡ Some s → IfOk x (λ y. option_map reason_of y ≡ result_of W s a t)
    go None f l m os g q = none_some q
    go (Some R) f None m os g q = none_some q
    go (Some R) f (Some c) m None g q = none_some q
    go (Some R) f (Some c) m (Some given) g q =
        let same : by_rulewith R c given ≡ s = same_Some (by_rulewith R c given) s q in
        let right = kinds R c given same in
        same_reason _ _ x (ap (λ s. result_of W s a t) same) (h R c given f m (no_thesis (is_thesis c.statement) right.1) g right.0)
