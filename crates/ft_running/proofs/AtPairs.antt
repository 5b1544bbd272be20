-- Words and terms at two values, by what the values are.
use Rattle.std.proofs.Common.{◌≡◌, ◌∙◌, ℕ, List, ap, ap₂, sym, refl, subst, Some, None, Ok, Err}
use Rattle.std.specs.Prelude.{Result}
use Rattle.ft_items.specs.Item.{Name}
use Rattle.ft_items.specs.Store.{Assertion, declared_by}
use Rattle.ft_reference.specs.Nucleus as reference
use Rattle.ft_grammar.specs.declared.form.TwoForm.{TwoForm}
use Rattle.ft_grammar.specs.declared.form.TwoForm.TheVariants as two
use Rattle.ft_meaning.specs.Names.{rule_of_name}
use Rattle.ft_meaning.specs.Values.{Value, judgement, boundary, unit, truth, pair, nil, cons, none, some, Outcome, Run, after, pure, halts, stuck, as_judgements, the, State as Running}
use Rattle.ft_meaning.specs.Forms.{word_at_two, fitting, judged, substitute_value}
use Rattle.ft_values.specs.Kept.{Kept, stated_at}
use Rattle.ft_values.specs.Kept as kept
use Rattle.ft_values.specs.declared.values.Value.{Value as AnyValue}
use Rattle.ft_calling.specs.Asking.{IsAskedOfTwo}
use Rattle.ft_running.specs.Evaluation.{Evaluation, run_of, value_over, IsValueOf, with_kept}
use Rattle.ft_running.specs.Readers.{judgement_in, boundary_in, stated_in}
use Rattle.ft_running.specs.Telling.{TellsValue, TellsEnd}
use Rattle.ft_running.specs.Asked.{TellsEntry, congruence_at, put_at, rule_in, judgements_of, IsOfJudgements}
use Rattle.ft_running.specs.declared.ending.End.{End}
use Rattle.ft_running.specs.declared.ending.End.TheVariants as ending
use Rattle.ft_telling.specs.declared.halt.Why.TheVariants as why
use Rattle.ft_running.proofs.Ended.{stuck_told}
use Rattle.ft_running.proofs.AtValues.{read_judgement, read_boundary}
use Rattle.ft_common.proofs.Options.{some_none}

-- an end stays one whatever would follow a value
pub ends_after : {A B : Type 0} (o : Outcome A) (f : A → Run B) (e : End) (S : Evaluation)
    → TellsEnd o e S → TellsEnd (after o f) e S
ends_after o f (ending.Performs op) S h = (ap (λ o. after o f) h.0, h.1)
ends_after o f (ending.Halts q) S h = λ no. ((h no).0, ap (λ o. after o f) (h no).1)

-- ---- `fill`

pub filled : (e f g : Evaluation) (at second j b k : ℕ) (v w : Value) (u : AnyValue) → stated_in e (Some b) ≡ boundary_in v → stated_in e (Some j) ≡ judgement_in w
    → TellsEntry (fitting second (stated_at e.list j) (stated_at e.list b) (run_of e)) (Ok k) f
    → g ≡ with_kept (kept.judgement k) f → value_over g u ≡ judgement (stated_at f.list k) → IsValueOf g u
    → TellsValue (word_at_two at second two.Fill v w (run_of e)) (Ok u) g
filled e f g at second j b k v w u first second_is told adds means is = (
  ap₂ (λ v w. word_at_two at second two.Fill v w (run_of e)) (read_boundary e v b first) (read_judgement e w j second_is)
      ∙ ap (λ o. after o (λ j. pure (judgement j))) told.0
      ∙ ap₂ (λ x s. (Ok x, s)) (sym means) (sym (ap run_of adds)),
  is,
)

pub filled_ends : (e f : Evaluation) (at second j b : ℕ) (v w : Value) (end : End) → stated_in e (Some b) ≡ boundary_in v → stated_in e (Some j) ≡ judgement_in w
    → TellsEnd (fitting second (stated_at e.list j) (stated_at e.list b) (run_of e)) end f
    → TellsEnd (word_at_two at second two.Fill v w (run_of e)) end f
filled_ends e f at second j b v w end first second_is told =
    subst (λ o. TellsEnd o end f) (sym (ap₂ (λ v w. word_at_two at second two.Fill v w (run_of e)) (read_boundary e v b first) (read_judgement e w j second_is)))
    (ends_after (fitting second (stated_at e.list j) (stated_at e.list b) (run_of e)) (λ j. pure (judgement j)) end f told)

stuck_fill : (at second : ℕ) (v w : Value) (s : Running) → boundary_in v ≡ None → word_at_two at second two.Fill v w s ≡ (Err (halts stuck), s)
stuck_fill at second (boundary b) w s h = some_none h
stuck_fill at second (judgement j) w s h = refl
stuck_fill at second unit w s h = refl
stuck_fill at second (truth c) w s h = refl
stuck_fill at second (pair x y) w s h = refl
stuck_fill at second nil w s h = refl
stuck_fill at second (cons x y) w s h = refl
stuck_fill at second none w s h = refl
stuck_fill at second (some x) w s h = refl

stuck_filling : (at second : ℕ) (b : Assertion) (w : Value) (s : Running) → judgement_in w ≡ None → word_at_two at second two.Fill (boundary b) w s ≡ (Err (halts stuck), s)
stuck_filling at second b (judgement j) s h = some_none h
stuck_filling at second b (boundary c) s h = refl
stuck_filling at second b unit s h = refl
stuck_filling at second b (truth c) s h = refl
stuck_filling at second b (pair x y) s h = refl
stuck_filling at second b nil s h = refl
stuck_filling at second b (cons x y) s h = refl
stuck_filling at second b none s h = refl
stuck_filling at second b (some x) s h = refl

pub no_boundary : (e : Evaluation) (at second : ℕ) (v w : Value) (end : End) → boundary_in v ≡ None
    → end ≡ ending.Halts (record { at = at; why = why.Stuck }) → TellsEnd (word_at_two at second two.Fill v w (run_of e)) end e
no_boundary e at second v w end h is = stuck_told (word_at_two at second two.Fill v w (run_of e)) at end e is (stuck_fill at second v w (run_of e) h)

pub no_filling : (e : Evaluation) (at second b : ℕ) (v w : Value) (end : End) → stated_in e (Some b) ≡ boundary_in v → judgement_in w ≡ None
    → end ≡ ending.Halts (record { at = at; why = why.Stuck }) → TellsEnd (word_at_two at second two.Fill v w (run_of e)) end e
no_filling e at second b v w end first h is =
    stuck_told (word_at_two at second two.Fill v w (run_of e)) at end e is
    (ap (λ v. word_at_two at second two.Fill v w (run_of e)) (read_boundary e v b first) ∙ stuck_filling at second (stated_at e.list b) w (run_of e) h)

-- ---- words at two judgements

pub at_judgements : (e f : Evaluation) (at second i j : ℕ) (word : TwoForm) (v w : Value) (r : Result AnyValue End) → stated_in e (Some i) ≡ judgement_in v → stated_in e (Some j) ≡ judgement_in w
    → TellsValue (word_at_two at second word (judgement (stated_at e.list i)) (judgement (stated_at e.list j)) (run_of e)) r f
    → TellsValue (word_at_two at second word v w (run_of e)) r f
at_judgements e f at second i j word v w r first second_is told =
    subst (λ o. TellsValue o r f) (sym (ap₂ (λ v w. word_at_two at second word v w (run_of e)) (read_judgement e v i first) (read_judgement e w j second_is))) told

pub asked_of_judgements : (w : TwoForm) → IsOfJudgements w → IsAskedOfTwo w
asked_of_judgements two.Trans h = tt
asked_of_judgements two.Convert h = tt
asked_of_judgements two.Equal h = absurd h
asked_of_judgements two.Widen h = tt
asked_of_judgements two.Rewrite h = tt
asked_of_judgements two.Fill h = tt

stuck_first : (at second : ℕ) (word : TwoForm) (v w : Value) (s : Running) → IsOfJudgements word → judgement_in v ≡ None → word_at_two at second word v w s ≡ (Err (halts stuck), s)
stuck_first at second word (judgement j) w s q h = some_none h
stuck_first at second two.Trans (boundary b) w s q h = refl
stuck_first at second two.Trans unit w s q h = refl
stuck_first at second two.Trans (truth c) w s q h = refl
stuck_first at second two.Trans (pair x y) w s q h = refl
stuck_first at second two.Trans nil w s q h = refl
stuck_first at second two.Trans (cons x y) w s q h = refl
stuck_first at second two.Trans none w s q h = refl
stuck_first at second two.Trans (some x) w s q h = refl
stuck_first at second two.Convert (boundary b) w s q h = refl
stuck_first at second two.Convert unit w s q h = refl
stuck_first at second two.Convert (truth c) w s q h = refl
stuck_first at second two.Convert (pair x y) w s q h = refl
stuck_first at second two.Convert nil w s q h = refl
stuck_first at second two.Convert (cons x y) w s q h = refl
stuck_first at second two.Convert none w s q h = refl
stuck_first at second two.Convert (some x) w s q h = refl
stuck_first at second two.Widen (boundary b) w s q h = refl
stuck_first at second two.Widen unit w s q h = refl
stuck_first at second two.Widen (truth c) w s q h = refl
stuck_first at second two.Widen (pair x y) w s q h = refl
stuck_first at second two.Widen nil w s q h = refl
stuck_first at second two.Widen (cons x y) w s q h = refl
stuck_first at second two.Widen none w s q h = refl
stuck_first at second two.Widen (some x) w s q h = refl
stuck_first at second two.Rewrite (boundary b) w s q h = refl
stuck_first at second two.Rewrite unit w s q h = refl
stuck_first at second two.Rewrite (truth c) w s q h = refl
stuck_first at second two.Rewrite (pair x y) w s q h = refl
stuck_first at second two.Rewrite nil w s q h = refl
stuck_first at second two.Rewrite (cons x y) w s q h = refl
stuck_first at second two.Rewrite none w s q h = refl
stuck_first at second two.Rewrite (some x) w s q h = refl
stuck_first at second two.Equal (boundary b) w s q h = absurd q
stuck_first at second two.Equal unit w s q h = absurd q
stuck_first at second two.Equal (truth c) w s q h = absurd q
stuck_first at second two.Equal (pair x y) w s q h = absurd q
stuck_first at second two.Equal nil w s q h = absurd q
stuck_first at second two.Equal (cons x y) w s q h = absurd q
stuck_first at second two.Equal none w s q h = absurd q
stuck_first at second two.Equal (some x) w s q h = absurd q
stuck_first at second two.Fill (boundary b) w s q h = absurd q
stuck_first at second two.Fill unit w s q h = absurd q
stuck_first at second two.Fill (truth c) w s q h = absurd q
stuck_first at second two.Fill (pair x y) w s q h = absurd q
stuck_first at second two.Fill nil w s q h = absurd q
stuck_first at second two.Fill (cons x y) w s q h = absurd q
stuck_first at second two.Fill none w s q h = absurd q
stuck_first at second two.Fill (some x) w s q h = absurd q

stuck_second : (at second : ℕ) (word : TwoForm) (i : Assertion) (w : Value) (s : Running) → IsOfJudgements word → judgement_in w ≡ None → word_at_two at second word (judgement i) w s ≡ (Err (halts stuck), s)
stuck_second at second word i (judgement j) s q h = some_none h
stuck_second at second two.Trans i (boundary b) s q h = refl
stuck_second at second two.Trans i unit s q h = refl
stuck_second at second two.Trans i (truth c) s q h = refl
stuck_second at second two.Trans i (pair x y) s q h = refl
stuck_second at second two.Trans i nil s q h = refl
stuck_second at second two.Trans i (cons x y) s q h = refl
stuck_second at second two.Trans i none s q h = refl
stuck_second at second two.Trans i (some x) s q h = refl
stuck_second at second two.Convert i (boundary b) s q h = refl
stuck_second at second two.Convert i unit s q h = refl
stuck_second at second two.Convert i (truth c) s q h = refl
stuck_second at second two.Convert i (pair x y) s q h = refl
stuck_second at second two.Convert i nil s q h = refl
stuck_second at second two.Convert i (cons x y) s q h = refl
stuck_second at second two.Convert i none s q h = refl
stuck_second at second two.Convert i (some x) s q h = refl
stuck_second at second two.Widen i (boundary b) s q h = refl
stuck_second at second two.Widen i unit s q h = refl
stuck_second at second two.Widen i (truth c) s q h = refl
stuck_second at second two.Widen i (pair x y) s q h = refl
stuck_second at second two.Widen i nil s q h = refl
stuck_second at second two.Widen i (cons x y) s q h = refl
stuck_second at second two.Widen i none s q h = refl
stuck_second at second two.Widen i (some x) s q h = refl
stuck_second at second two.Rewrite i (boundary b) s q h = refl
stuck_second at second two.Rewrite i unit s q h = refl
stuck_second at second two.Rewrite i (truth c) s q h = refl
stuck_second at second two.Rewrite i (pair x y) s q h = refl
stuck_second at second two.Rewrite i nil s q h = refl
stuck_second at second two.Rewrite i (cons x y) s q h = refl
stuck_second at second two.Rewrite i none s q h = refl
stuck_second at second two.Rewrite i (some x) s q h = refl
stuck_second at second two.Equal i (boundary b) s q h = absurd q
stuck_second at second two.Equal i unit s q h = absurd q
stuck_second at second two.Equal i (truth c) s q h = absurd q
stuck_second at second two.Equal i (pair x y) s q h = absurd q
stuck_second at second two.Equal i nil s q h = absurd q
stuck_second at second two.Equal i (cons x y) s q h = absurd q
stuck_second at second two.Equal i none s q h = absurd q
stuck_second at second two.Equal i (some x) s q h = absurd q
stuck_second at second two.Fill i (boundary b) s q h = absurd q
stuck_second at second two.Fill i unit s q h = absurd q
stuck_second at second two.Fill i (truth c) s q h = absurd q
stuck_second at second two.Fill i (pair x y) s q h = absurd q
stuck_second at second two.Fill i nil s q h = absurd q
stuck_second at second two.Fill i (cons x y) s q h = absurd q
stuck_second at second two.Fill i none s q h = absurd q
stuck_second at second two.Fill i (some x) s q h = absurd q

pub no_first : (e : Evaluation) (at second : ℕ) (word : TwoForm) (v w : Value) (end : End) → IsOfJudgements word → judgement_in v ≡ None
    → end ≡ ending.Halts (record { at = at; why = why.Stuck }) → TellsEnd (word_at_two at second word v w (run_of e)) end e
no_first e at second word v w end q h is = stuck_told (word_at_two at second word v w (run_of e)) at end e is (stuck_first at second word v w (run_of e) q h)

pub no_second : (e : Evaluation) (at second i : ℕ) (word : TwoForm) (v w : Value) (end : End) → IsOfJudgements word → stated_in e (Some i) ≡ judgement_in v → judgement_in w ≡ None
    → end ≡ ending.Halts (record { at = at; why = why.Stuck }) → TellsEnd (word_at_two at second word v w (run_of e)) end e
no_second e at second i word v w end q first h is =
    stuck_told (word_at_two at second word v w (run_of e)) at end e is
    (ap (λ v. word_at_two at second word v w (run_of e)) (read_judgement e v i first) ∙ stuck_second at second word (stated_at e.list i) w (run_of e) q h)

pub word_of_two_same : (e f : Evaluation) (at second : ℕ) (w x : TwoForm) (v u : Value) (r : Result AnyValue End) → w ≡ x
    → TellsValue (word_at_two at second x v u (run_of e)) r f → TellsValue (word_at_two at second w v u (run_of e)) r f
word_of_two_same e f at second w x v u r is told = subst (λ w. TellsValue (word_at_two at second w v u (run_of e)) r f) (sym is) told

-- ---- congruence

pub no_list : (e : Evaluation) (at : ℕ) (n : Name) (v w : Value) (end : End) → TellsEnd (as_judgements v (run_of e)) end e → TellsEnd (congruence_at at n v w (run_of e)) end e
no_list e at n v w end told =
    ends_after (as_judgements v (run_of e)) (λ js. λ s. after (as_judgements w s) (λ es. λ s. after (the (rule_of_name s.declarations n) s) (λ r. judged at (λ W. reference.congruence W r js es)))) end e told

pub no_second_list : (e : Evaluation) (at : ℕ) (n : Name) (v w : Value) (js : List ℕ) (end : End) → as_judgements v (run_of e) ≡ (Ok (judgements_of e js), run_of e)
    → TellsEnd (as_judgements w (run_of e)) end e → TellsEnd (congruence_at at n v w (run_of e)) end e
no_second_list e at n v w js end first told =
    let k = λ (es : List Assertion). λ (s : Running). after (the (rule_of_name s.declarations n) s) (λ r. judged at (λ W. reference.congruence W r (judgements_of e js) es)) in
    subst (λ o. TellsEnd o end e)
    (sym (ap (λ o. after o (λ js. λ s. after (as_judgements w s) (λ es. λ s. after (the (rule_of_name s.declarations n) s) (λ r. judged at (λ W. reference.congruence W r js es))))) first))
    (ends_after (as_judgements w (run_of e)) k end e told)

lists_are : (e : Evaluation) (at : ℕ) (n : Name) (v w : Value) (js es : List ℕ) → as_judgements v (run_of e) ≡ (Ok (judgements_of e js), run_of e)
    → as_judgements w (run_of e) ≡ (Ok (judgements_of e es), run_of e)
    → congruence_at at n v w (run_of e)
    ≡ after (the (rule_of_name (declared_by e.list.items) n) (run_of e)) (λ r. judged at (λ W. reference.congruence W r (judgements_of e js) (judgements_of e es)))
lists_are e at n v w js es first second =
    ap (λ o. after o (λ js. λ s. after (as_judgements w s) (λ es. λ s. after (the (rule_of_name s.declarations n) s) (λ r. judged at (λ W. reference.congruence W r js es))))) first
    ∙ ap (λ o. after o (λ es. λ s. after (the (rule_of_name s.declarations n) s) (λ r. judged at (λ W. reference.congruence W r (judgements_of e js) es)))) second

pub no_rule : (e : Evaluation) (at : ℕ) (n : Name) (v w : Value) (js es : List ℕ) (end : End) → as_judgements v (run_of e) ≡ (Ok (judgements_of e js), run_of e)
    → as_judgements w (run_of e) ≡ (Ok (judgements_of e es), run_of e) → rule_of_name (declared_by e.list.items) n ≡ None
    → end ≡ ending.Halts (record { at = at; why = why.Stuck }) → TellsEnd (congruence_at at n v w (run_of e)) end e
no_rule e at n v w js es end first second none_there is =
    stuck_told (congruence_at at n v w (run_of e)) at end e is
    (lists_are e at n v w js es first second
    ∙ ap (λ o. after (the o (run_of e)) (λ r. judged at (λ W. reference.congruence W r (judgements_of e js) (judgements_of e es)))) none_there)

pub congruence_told : (e f : Evaluation) (at r : ℕ) (n : Name) (v w : Value) (js es : List ℕ) (x : Result AnyValue End) → as_judgements v (run_of e) ≡ (Ok (judgements_of e js), run_of e)
    → as_judgements w (run_of e) ≡ (Ok (judgements_of e es), run_of e) → rule_of_name (declared_by e.list.items) n ≡ Some (rule_in e r)
    → TellsValue (judged at (λ W. reference.congruence W (rule_in e r) (judgements_of e js) (judgements_of e es)) (run_of e)) x f
    → TellsValue (congruence_at at n v w (run_of e)) x f
congruence_told e f at r n v w js es x first second rule told =
    subst (λ o. TellsValue o x f)
    (sym (lists_are e at n v w js es first second
    ∙ ap (λ o. after (the o (run_of e)) (λ r. judged at (λ W. reference.congruence W r (judgements_of e js) (judgements_of e es)))) rule))
    told

-- ---- terms

no_term_is : (at : ℕ) (v u : Value) (s : Running) → judgement_in u ≡ None → put_at at v u s ≡ (Err (halts stuck), s)
no_term_is at v (judgement j) s h = some_none h
no_term_is at v (boundary b) s h = refl
no_term_is at v unit s h = refl
no_term_is at v (truth c) s h = refl
no_term_is at v (pair x y) s h = refl
no_term_is at v nil s h = refl
no_term_is at v (cons x y) s h = refl
no_term_is at v none s h = refl
no_term_is at v (some x) s h = refl

pub no_term : (e : Evaluation) (at : ℕ) (v u : Value) (end : End) → judgement_in u ≡ None
    → end ≡ ending.Halts (record { at = at; why = why.Stuck }) → TellsEnd (put_at at v u (run_of e)) end e
no_term e at v u end h is = stuck_told (put_at at v u (run_of e)) at end e is (no_term_is at v u (run_of e) h)

pub put_judgement : (e f : Evaluation) (at j t : ℕ) (v u : Value) (r : Result AnyValue End) → stated_in e (Some j) ≡ judgement_in v → stated_in e (Some t) ≡ judgement_in u
    → TellsValue (substitute_value at (judgement (stated_at e.list j)) (stated_at e.list t) (run_of e)) r f → TellsValue (put_at at v u (run_of e)) r f
put_judgement e f at j t v u r first second told =
    subst (λ o. TellsValue o r f) (sym (ap₂ (λ v u. put_at at v u (run_of e)) (read_judgement e v j first) (read_judgement e u t second))) told

pub put_boundary : (e f : Evaluation) (at b t : ℕ) (v u : Value) (r : Result AnyValue End) → stated_in e (Some b) ≡ boundary_in v → stated_in e (Some t) ≡ judgement_in u
    → TellsValue (substitute_value at (boundary (stated_at e.list b)) (stated_at e.list t) (run_of e)) r f → TellsValue (put_at at v u (run_of e)) r f
put_boundary e f at b t v u r first second told =
    subst (λ o. TellsValue o r f) (sym (ap₂ (λ v u. put_at at v u (run_of e)) (read_boundary e v b first) (read_judgement e u t second))) told

stuck_put : (at : ℕ) (v : Value) (a : Assertion) (s : Running) → judgement_in v ≡ None → boundary_in v ≡ None → substitute_value at v a s ≡ (Err (halts stuck), s)
stuck_put at (judgement j) a s h k = some_none h
stuck_put at (boundary b) a s h k = some_none k
stuck_put at unit a s h k = refl
stuck_put at (truth c) a s h k = refl
stuck_put at (pair x y) a s h k = refl
stuck_put at nil a s h k = refl
stuck_put at (cons x y) a s h k = refl
stuck_put at none a s h k = refl
stuck_put at (some x) a s h k = refl

pub put_nothing : (e : Evaluation) (at t : ℕ) (v u : Value) (end : End) → judgement_in v ≡ None → boundary_in v ≡ None → stated_in e (Some t) ≡ judgement_in u
    → end ≡ ending.Halts (record { at = at; why = why.Stuck }) → TellsEnd (put_at at v u (run_of e)) end e
put_nothing e at t v u end h k second is =
    stuck_told (put_at at v u (run_of e)) at end e is
    (ap (λ u. put_at at v u (run_of e)) (read_judgement e u t second) ∙ stuck_put at v (stated_at e.list t) (run_of e) h k)
