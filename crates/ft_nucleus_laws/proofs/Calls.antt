-- What a call answers, and when it refuses.
use Rattle.std.proofs.Common.{◌≡◌, Bool, true, false, cond, ◌&&◌, Option, Some, None, [], refl, sym, ap, ap₂, ◌∙◌}
use Rattle.std.specs.Prelude.{is_some, option_map, option_and_then, Result, Ok, Err}
use Rattle.std.proofs.lemmas.Bool.{and_parts, and_from}
use Rattle.ft_common.proofs.Options.{none_some}
use Rattle.ft_common.proofs.Booleans.{false_true}
use Rattle.ft_theory.specs.Statements.{Statement}
use Rattle.ft_items.specs.Sets.{is_within}
use Rattle.ft_items.specs.Item.{Stated, entry, by_var, by_generic, by_meta, by_metacong, by_abs, by_subst, by_substeq, by_refl, by_sym, by_trans, by_conv, by_conveq, by_left, by_right, by_typeof, by_domain, by_boundary, by_widen, by_btype, by_bterm, by_beqty, by_beqtm, by_rule, by_rulewith, by_inst, by_cong, by_convprem, by_convback, by_arg, by_natural, by_metainst}
use Rattle.ft_items.specs.Store.{Assertion, Resolved, resolve, store_of, premises_of, empty_store, Declarations, Store}
use Rattle.ft_items.specs.Rows.{when, statements, atoms, differ, on_earlier, are_arguments, conclusion, result_set}
use Rattle.ft_items.specs.Good.{of_kind, given, AllowedIn}
use Rattle.ft_items.proofs.Lists.{good_last}
use Rattle.ft_sound.proofs.Good.{entry_valid}
use Rattle.ft_sound.proofs.Reasons.{no_reason, well_formed_all, well_formed_empty}
use Rattle.ft_reference.specs.Refusals.{Refusal, WrongForm, first_refusal, formed, AllSmall}
use Rattle.ft_reference.specs.Checks.{checks}
use Rattle.ft_reference.specs.Calls.{instance_allowed, may_be_made, answered, answer}
use Rattle.ft_nucleus_laws.specs.Laws.{AnswersItsRow, FailsFirst, RefusesFirst, AnswersDerivable, AnswersAllowed}
use Rattle.ft_nucleus_laws.proofs.Lists.{passes, passed, fails_first, first_fails}
use Rattle.ft_nucleus_laws.proofs.StepRows.{asks_its_row}

-- options and results
abbrev answers : Assertion → Result Assertion Refusal
answers a = Ok a

abbrev refuses : Refusal → Result Assertion Refusal
refuses r = Err r

ok_path : (a b : Assertion) → answers a ≡ answers b → a ≡ b
ok_path a b e = cc

-- what is given has a conclusion
given_concludes : (W : Declarations) (s : Resolved) (a : Assertion) → given W s ≡ Some a → (of_kind s ≡ true) × (is_some (conclusion W s) ≡ true)
given_concludes W s a h = go (of_kind s) (conclusion W s) h
  where
    go : (b : Bool) (o : Option Statement) → cond b (option_map (λ x. record { statement = x; set = result_set s }) o) None ≡ Some a → (b ≡ true) × (is_some o ≡ true)
    go true None h = none_some h
    go true (Some x) h = (refl, refl)
    go false o h = none_some h

concludes_given : (W : Declarations) (s : Resolved) → of_kind s ≡ true → is_some (conclusion W s) ≡ true → (a : Assertion) × (given W s ≡ Some a)
concludes_given W s k h = go (of_kind s) (conclusion W s) k h
  where
    go : (b : Bool) (o : Option Statement) → b ≡ true → is_some o ≡ true → (a : Assertion) × (cond b (option_map (λ x. record { statement = x; set = result_set s }) o) None ≡ Some a)
    go true None k h = false_true h
    go true (Some x) k h = (record { statement = x; set = result_set s }, refl)
    go false o k h = false_true k

-- an instance that concludes meets its own condition
when_true : (b : Bool) (x : Statement) → is_some (when b x) ≡ true → b ≡ true
when_true true x h = refl
when_true false x h = false_true h

concludes_allowed : (W : Declarations) (s : Resolved) → is_some (conclusion W s) ≡ true → instance_allowed s ≡ true
concludes_allowed W (by_metainst p ms qs) h =
    (and_parts (differ (atoms ms) && on_earlier [] ms && is_within p.set (atoms ms)) (are_arguments (premises_of ms) (statements qs))
    (when_true (differ (atoms ms) && on_earlier [] ms && is_within p.set (atoms ms) && are_arguments (premises_of ms) (statements qs)) _ h)).0
concludes_allowed W (by_var v) h = refl
concludes_allowed W (by_generic m) h = refl
concludes_allowed W (by_meta m ps) h = refl
concludes_allowed W (by_metacong m es) h = refl
concludes_allowed W (by_abs v p) h = refl
concludes_allowed W (by_subst p t) h = refl
concludes_allowed W (by_substeq p e) h = refl
concludes_allowed W (by_refl p) h = refl
concludes_allowed W (by_sym p) h = refl
concludes_allowed W (by_trans p q) h = refl
concludes_allowed W (by_conv p e) h = refl
concludes_allowed W (by_conveq p e) h = refl
concludes_allowed W (by_left p) h = refl
concludes_allowed W (by_right p) h = refl
concludes_allowed W (by_typeof p) h = refl
concludes_allowed W (by_domain p) h = refl
concludes_allowed W (by_boundary p) h = refl
concludes_allowed W (by_widen p q) h = refl
concludes_allowed W by_btype h = refl
concludes_allowed W (by_bterm p) h = refl
concludes_allowed W (by_beqty p q) h = refl
concludes_allowed W (by_beqtm p s t) h = refl
concludes_allowed W (by_rule r ps) h = refl
concludes_allowed W (by_rulewith r b ps) h = refl
concludes_allowed W (by_inst r ps) h = refl
concludes_allowed W (by_cong r ps es) h = refl
concludes_allowed W (by_convprem r ps es q) h = refl
concludes_allowed W (by_convback r ps es q) h = refl
concludes_allowed W (by_arg i p) h = refl
concludes_allowed W (by_natural p) h = refl

-- answers
answered_ok : (o : Option Refusal) (g : Option Assertion) (a : Assertion) → answered o g ≡ Ok a → (o ≡ None) × (g ≡ Some a)
answered_ok None None a h = absurd (clash h)
  where
    clash : refuses WrongForm ≡ answers a → ⊥
    clash e = cc
answered_ok None (Some b) a h = (refl, ap Some (ok_path b a h))
answered_ok (Some r) g a h = absurd (clash h)
  where
    clash : refuses r ≡ answers a → ⊥
    clash e = cc

pub answers_its_row : AnswersItsRow
answers_its_row W s a = (there, back)
  where
    there : answer W s ≡ Ok a → (given W s ≡ Some a) × AllSmall (formed (checks W s))
    there h =
        let k : (first_refusal (checks W s) ≡ None) × (given W s ≡ Some a) = answered_ok (first_refusal (checks W s)) (given W s) a h in
        (k.1, (passed (checks W s) k.0).1)

    back : (given W s ≡ Some a) × AllSmall (formed (checks W s)) → answer W s ≡ Ok a
    back h =
        let k : (of_kind s ≡ true) × (is_some (conclusion W s) ≡ true) = given_concludes W s a h.0 in
        let m : may_be_made s ≡ true = and_from (of_kind s) (instance_allowed s) k.0 (concludes_allowed W s k.1) in
        ap₂ answered (passes (checks W s) (asks_its_row W s m ∙ k.1) h.1) h.0

-- refusals
answered_err : (o : Option Refusal) (g : Option Assertion) (r : Refusal) → (o ≡ None → (a : Assertion) × (g ≡ Some a)) → answered o g ≡ Err r → o ≡ Some r
answered_err None g r k h = absurd (clash (k refl).0 (ap (answered None) (sym (k refl).1) ∙ h))
  where
    clash : (a : Assertion) → answers a ≡ refuses r → ⊥
    clash a e = cc
answered_err (Some q) g r k h = ap Some (err_path q r h)
  where
    err_path : (q r : Refusal) → refuses q ≡ refuses r → q ≡ r
    err_path q r e = cc

pub refuses_first : RefusesFirst
refuses_first W s r m = (there, back)
  where
    gives_some : first_refusal (checks W s) ≡ None → (a : Assertion) × (given W s ≡ Some a)
    gives_some h = concludes_given W s (and_parts (of_kind s) (instance_allowed s) m).0 (sym (asks_its_row W s m) ∙ (passed (checks W s) h).0)

    there : answer W s ≡ Err r → FailsFirst (checks W s) r
    there h = fails_first (checks W s) r (answered_err (first_refusal (checks W s)) (given W s) r gives_some h)

    back : FailsFirst (checks W s) r → answer W s ≡ Err r
    back f = ap (λ o. answered o (given W s)) (ap first_refusal f.3 ∙ first_fails f.0 f.1 f.2 f.4 f.5 ∙ ap Some f.6)

-- what is answered may be added, and is derivable
pub answer_gives : (W : Store) (n : Stated) (s : Resolved) (a : Assertion) → resolve W n ≡ Some s → answer W.declarations s ≡ Ok a → AllowedIn W (entry (record { statement = a.statement; set = a.set; step = n }))
answer_gives W n s a e h = ap (option_and_then (given W.declarations)) e ∙ (answered_ok (first_refusal (checks W.declarations s)) (given W.declarations s) a h).1

pub answers_derivable : AnswersDerivable
answers_derivable items g n s a e h =
    (entry_valid (store_of items) (well_formed_all empty_store well_formed_empty items g) (record { statement = a.statement; set = a.set; step = n })
    (no_reason (store_of items) (well_formed_all empty_store well_formed_empty items g) (entry (record { statement = a.statement; set = a.set; step = n })) (answer_gives (store_of items) n s a e h))).derivable

pub answers_allowed : AnswersAllowed
answers_allowed items g n s a e h = good_last empty_store items (entry (record { statement = a.statement; set = a.set; step = n })) g (answer_gives (store_of items) n s a e h)
