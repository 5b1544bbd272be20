-- The reasons against entries by steps at rules, whose numbers name what is there and is of the right kind.
use Rattle.std.proofs.Common.{◌≡◌, ℕ, Bool, true, false, ◌&&◌, not, Option, Some, None, List, [], ◌∷◌, ◌++◌, refl, sym, ap, ◌∙◌}
use Rattle.std.specs.Prelude.{IfOk, Result, option_map}
use Rattle.std.proofs.Math.Bool.{and_assoc}
use Rattle.std.proofs.lemmas.Option.{same_Some}
use Rattle.std.proofs.lemmas.Result.{IfOk-weaker}
use Rattle.ft_common.proofs.Options.{none_some}
use Rattle.ft_theory.specs.Rules.{Rule}
use Rattle.ft_items.specs.Sets.{union, unions}
use Rattle.ft_items.specs.Equal.{is_thesis}
use Rattle.ft_items.specs.Item.{by_inst, by_cong, by_convprem, by_convback, Item}
use Rattle.ft_items.specs.Store.{Assertion, Resolved, declared_by, each, entry_named, rule_named, resolve, store_of, with_two, with_three, with_four}
use Rattle.ft_items.specs.Rows.{boundary_instance, congruence_of, sets, statements}
use Rattle.ft_items.specs.Good.{all_theses}
use Rattle.ft_items.proofs.SetLemmas.{both}
use Rattle.ft_stated.specs.Steps.{stated_step}
use Rattle.ft_stated.specs.declared.step.StatedStep.{StatedStep}
use Rattle.ft_stated.specs.declared.step.StatedStep.TheVariants as step
use Rattle.ft_check.specs.Arguing.{AreTheses, Judges}
use Rattle.ft_check.specs.Equations.{converted}
use Rattle.ft_check.specs.Kinds.{kinds_right}
use Rattle.ft_check.specs.Rejects.{reason_of}
use Rattle.ft_check.specs.declared.conversions.Way.{Way}
use Rattle.ft_check.specs.declared.conversions.Way.TheVariants.{Forth, Back}
use Rattle.ft_check.specs.declared.reject.Reject.{Reject}
use Rattle.ft_check.proofs.Entering.{result_of}

theses_both : (xs ys : List Assertion) → all_theses (xs ++ ys) ≡ (all_theses xs && all_theses ys)
theses_both [] ys = refl
theses_both (x ∷ xs) ys = ap (λ b. is_thesis x.statement && b) (theses_both xs ys) ∙ sym (and_assoc (is_thesis x.statement) (all_theses xs) (all_theses ys))

is_not : (b : Bool) → not b ≡ true → b ≡ false
is_not true h = sym h
is_not false h = refl

pub inst_result : {E : Type 0} (items : List Item) (t : StatedStep) (r : ℕ) (ps : List ℕ) (a : Assertion) (x : Result (Option Reject) E) (s : Resolved) → t ≡ step.Inst r ps
    → resolve (store_of items) (stated_step t) ≡ Some s → kinds_right (is_thesis a.statement) s ≡ true
    → ((R : ℕ × Rule) (xs : List Assertion) → rule_named (declared_by items) r ≡ Some R → AreTheses items ps xs → is_thesis a.statement ≡ false
    → IfOk x (λ y. Judges a (stated_step t) (boundary_instance R.1 (statements xs)) (unions (sets xs)) y))
    → IfOk x (λ y. option_map reason_of y ≡ result_of (store_of items) s a t)
inst_result items t r ps a x s e q k h = go (rule_named (declared_by items) r) refl (each (entry_named (store_of items)) ps) refl (sym (ap (λ t. resolve (store_of items) (stated_step t)) e) ∙ q)
  where
    go : (o : Option (ℕ × Rule)) → rule_named (declared_by items) r ≡ o → (l : Option (List Assertion)) → each (entry_named (store_of items)) ps ≡ l → with_two by_inst o l ≡ Some s
        → IfOk x (λ y. option_map reason_of y ≡ result_of (store_of items) s a t)
    go None f l m q = none_some q
    go (Some R) f None m q = none_some q
    go (Some R) f (Some xs) m q =
        let same : by_inst R xs ≡ s = same_Some (by_inst R xs) s q in
        let right : kinds_right (is_thesis a.statement) (by_inst R xs) ≡ true = ap (kinds_right (is_thesis a.statement)) same ∙ k in
        let kinds = both (all_theses xs && true) (not (is_thesis a.statement)) right in
        IfOk-weaker x _ _ (λ y w. w ∙ ap (λ s. result_of (store_of items) s a t) same) (h R xs f (record { are = m; theses = (both (all_theses xs) true kinds.0).0 }) (is_not (is_thesis a.statement) kinds.1))

pub cong_result : {E : Type 0} (items : List Item) (t : StatedStep) (r : ℕ) (ps es : List ℕ) (a : Assertion) (x : Result (Option Reject) E) (b : Bool) (s : Resolved) → t ≡ step.Cong r ps es
    → resolve (store_of items) (stated_step t) ≡ Some s → kinds_right b s ≡ true
    → ((R : ℕ × Rule) (xs ys : List Assertion) → rule_named (declared_by items) r ≡ Some R → AreTheses items ps xs → AreTheses items es ys
    → IfOk x (λ y. Judges a (stated_step t) (congruence_of R.0 R.1 (statements xs) (statements ys)) (union (unions (sets xs)) (unions (sets ys))) y))
    → IfOk x (λ y. option_map reason_of y ≡ result_of (store_of items) s a t)
cong_result items t r ps es a x b s e q k h =
    go (rule_named (declared_by items) r) refl (each (entry_named (store_of items)) ps) refl (each (entry_named (store_of items)) es) refl (sym (ap (λ t. resolve (store_of items) (stated_step t)) e) ∙ q)
  where
    go : (o : Option (ℕ × Rule)) → rule_named (declared_by items) r ≡ o → (l : Option (List Assertion)) → each (entry_named (store_of items)) ps ≡ l → (n : Option (List Assertion)) → each (entry_named (store_of items)) es ≡ n → with_three by_cong o l n ≡ Some s
        → IfOk x (λ y. option_map reason_of y ≡ result_of (store_of items) s a t)
    go None f l m n g q = none_some q
    go (Some R) f None m n g q = none_some q
    go (Some R) f (Some xs) m None g q = none_some q
    go (Some R) f (Some xs) m (Some ys) g q =
        let same : by_cong R xs ys ≡ s = same_Some (by_cong R xs ys) s q in
        let right : kinds_right b (by_cong R xs ys) ≡ true = ap (kinds_right b) same ∙ k in
        let all = (both (all_theses (xs ++ ys)) true (both (all_theses (xs ++ ys) && true) b right).0).0 in
        let each_kind = both (all_theses xs) (all_theses ys) (sym (theses_both xs ys) ∙ all) in
        IfOk-weaker x _ _ (λ y w. w ∙ ap (λ s. result_of (store_of items) s a t) same) (h R xs ys f (record { are = m; theses = each_kind.0 }) (record { are = g; theses = each_kind.1 }))

-- a step either way
abbrev pub by_conv_of : Way → (ℕ × Rule) → List Assertion → List Assertion → Assertion → Resolved
by_conv_of Forth R xs ys q = by_convprem R xs ys q
by_conv_of Back R xs ys q = by_convback R xs ys q

conv_kinds : (w : Way) (R : ℕ × Rule) (xs ys : List Assertion) (q : Assertion) (b : Bool) → kinds_right b (by_conv_of w R xs ys q) ≡ ((all_theses (xs ++ (ys ++ q ∷ [])) && true) && b)
conv_kinds Forth R xs ys q b = refl
conv_kinds Back R xs ys q b = refl

conv_judged : (w : Way) (items : List Item) (R : ℕ × Rule) (xs ys : List Assertion) (q a : Assertion) (t : StatedStep) (y : Option Reject)
    → Judges a (stated_step t) (converted w R.1 (statements xs) (statements ys) q.statement) (union (unions (sets xs)) (union (unions (sets ys)) q.set)) y
    → option_map reason_of y ≡ result_of (store_of items) (by_conv_of w R xs ys q) a t
conv_judged Forth items R xs ys q a t y h = h
conv_judged Back items R xs ys q a t y h = h

pub conv_result : {E : Type 0} (w : Way) (items : List Item) (t : StatedStep) (r p : ℕ) (ps es : List ℕ) (a : Assertion) (x : Result (Option Reject) E) (s : Resolved)
    → resolve (store_of items) (stated_step t) ≡ with_four (by_conv_of w) (rule_named (declared_by items) r) (each (entry_named (store_of items)) ps) (each (entry_named (store_of items)) es) (entry_named (store_of items) p)
    → resolve (store_of items) (stated_step t) ≡ Some s → kinds_right (is_thesis a.statement) s ≡ true
    → ((R : ℕ × Rule) (xs ys : List Assertion) (q : Assertion) → rule_named (declared_by items) r ≡ Some R → AreTheses items ps xs → AreTheses items es ys
    → entry_named (store_of items) p ≡ Some q → is_thesis q.statement ≡ true → is_thesis a.statement ≡ true
    → IfOk x (λ y. Judges a (stated_step t) (converted w R.1 (statements xs) (statements ys) q.statement) (union (unions (sets xs)) (union (unions (sets ys)) q.set)) y))
    → IfOk x (λ y. option_map reason_of y ≡ result_of (store_of items) s a t)
conv_result w items t r p ps es a x s e q k h =
    go (rule_named (declared_by items) r) refl (each (entry_named (store_of items)) ps) refl (each (entry_named (store_of items)) es) refl (entry_named (store_of items) p) refl (sym e ∙ q)
  where
    go : (o : Option (ℕ × Rule)) → rule_named (declared_by items) r ≡ o → (l : Option (List Assertion)) → each (entry_named (store_of items)) ps ≡ l → (n : Option (List Assertion)) → each (entry_named (store_of items)) es ≡ n
        → (v : Option Assertion) → entry_named (store_of items) p ≡ v → with_four (by_conv_of w) o l n v ≡ Some s
        → IfOk x (λ y. option_map reason_of y ≡ result_of (store_of items) s a t)
    go None f l m n g v u q = none_some q
    go (Some R) f None m n g v u q = none_some q
    go (Some R) f (Some xs) m None g v u q = none_some q
    go (Some R) f (Some xs) m (Some ys) g None u q = none_some q
    go (Some R) f (Some xs) m (Some ys) g (Some d) u q =
        let same : by_conv_of w R xs ys d ≡ s = same_Some (by_conv_of w R xs ys d) s q in
        let right = sym (conv_kinds w R xs ys d (is_thesis a.statement)) ∙ ap (kinds_right (is_thesis a.statement)) same ∙ k in
        let kinds = both (all_theses (xs ++ (ys ++ d ∷ [])) && true) (is_thesis a.statement) right in
        let all = (both (all_theses (xs ++ (ys ++ d ∷ []))) true kinds.0).0 in
        let first = both (all_theses xs) (all_theses (ys ++ d ∷ [])) (sym (theses_both xs (ys ++ d ∷ [])) ∙ all) in
        let later = both (all_theses ys) (is_thesis d.statement && true) (sym (theses_both ys (d ∷ [])) ∙ first.1) in
        IfOk-weaker x _ _ (λ y z. conv_judged w items R xs ys d a t y z ∙ ap (λ s. result_of (store_of items) s a t) same)
        (h R xs ys d f (record { are = m; theses = first.0 }) (record { are = g; theses = later.0 }) u (both (is_thesis d.statement) true later.1).0 kinds.1)
