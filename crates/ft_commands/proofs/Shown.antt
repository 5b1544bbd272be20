-- What values show.
use Rattle.std.proofs.Common.{◌≡◌, ◌∙◌, ℕ, List, [], ◌∷◌, ap, sym, refl, subst, Some, None, true, false}
use Rattle.std.specs.Prelude.{Option, Result, Ok, Err}
use Rattle.ft_items.specs.Store.{Assertion}
use Rattle.ft_kernel.specs.State.{IsThesisOf}
use Rattle.ft_meaning.specs.Values as meaning
use Rattle.ft_meaning.specs.Values.{Value, judgement, boundary, unit, truth, pair, nil, cons, none, some, Outcome, after, as_judgement, as_judgements, halts, stuck, the, State as Running}
use Rattle.ft_meaning.specs.Commands.{Done, Shown, ShownNone, shown}
use Rattle.ft_telling.specs.declared.halt.Why.TheVariants as why
use Rattle.ft_apply.specs.Named.{AreThesesOf}
use Rattle.ft_values.specs.Kept.{stated_at}
use Rattle.ft_values.specs.declared.values.Value.{Value as AnyValue}
use Rattle.ft_running.specs.declared.ending.End.{End}
use Rattle.ft_running.specs.declared.ending.End.TheVariants as ending
use Rattle.ft_running.specs.Ends.{IsMemory}
use Rattle.ft_running.specs.Evaluation.{Evaluation, run_of, value_over}
use Rattle.ft_running.specs.Readers.{stated_in, value_in, judgement_in, option_in, is_none, HasJudgements}
use Rattle.ft_running.specs.Asked.{judgements_of}
use Rattle.ft_running.proofs.Ended.{memory_told, stuck_told, judgements_told, no_judgements_told}
use Rattle.ft_running.proofs.Reading.{judgement_read}
use Rattle.ft_commands.specs.Doing.{TellsShown, IsShown, shown_by, shown_part, shown_list}
use Rattle.ft_commands.specs.declared.done.Done.{Done as AnyDone}
use Rattle.ft_commands.specs.declared.done.Done.TheVariants as done
use Rattle.ft_commands.proofs.Claimed.{ends_after}

-- ---- one judgement

-- these are shown
abbrev pub ShowsAll : AnyDone → List ℕ → Type 0
ShowsAll (done.Shown js) ks = js.items ≡ ks
ShowsAll d ks = ⊥

all_shown : (e : Evaluation) (d : AnyDone) (ks : List ℕ) → ShowsAll d ks → AreThesesOf e.list ks → IsShown e d (Shown (judgements_of e ks))
all_shown e (done.Accepted n) ks h are = absurd h
all_shown e (done.Shown js) ks h are = (subst (AreThesesOf e.list) (sym h) are, ap (judgements_of e) (sym h))
all_shown e done.ShownNone ks h are = absurd h
all_shown e done.Quiet ks h are = absurd h

pub one_shown : (e : Evaluation) (j : ℕ) (d : AnyDone) → IsThesisOf e.list j → ShowsAll d (j ∷ [])
    → TellsShown (Ok (Shown (stated_at e.list j ∷ [])), run_of e) (Ok d) e
one_shown e j d thesis h = (Shown (stated_at e.list j ∷ []), all_shown e d (j ∷ []) h (thesis, tt), refl)

pub memory_shown : (o : Outcome Done) (end : End) (e : Evaluation) → IsMemory end → TellsShown o (Err end) e
memory_shown o end e is = memory_told o end e is

-- ---- what is to be a judgement

pub part_shown : (e : Evaluation) (w : Value) (j : ℕ) (r : Result AnyDone End) → stated_in e (Some j) ≡ judgement_in w
    → TellsShown (Ok (Shown (stated_at e.list j ∷ [])), run_of e) r e → TellsShown (shown_part w (run_of e)) r e
part_shown e w j r means told =
    subst (λ o. TellsShown o r e)
    (sym (ap (λ o. after o (λ j. meaning.pure (Shown (j ∷ [])))) (judgement_read w (run_of e) ∙ ap (λ x. the x (run_of e)) (sym means)))) told

pub no_part : (e : Evaluation) (w : Value) (at : ℕ) (end : End) → end ≡ ending.Halts (record { at = at; why = why.Stuck })
    → stated_in e None ≡ judgement_in w → TellsShown (shown_part w (run_of e)) (Err end) e
no_part e w at end is means =
    stuck_told (shown_part w (run_of e)) at end e is
    (ap (λ o. after o (λ j. meaning.pure (Shown (j ∷ [])))) (judgement_read w (run_of e) ∙ ap (λ x. the x (run_of e)) (sym means)))

-- ---- lists

pub list_shown : (e : Evaluation) (w : Value) (d : AnyDone) → HasJudgements e w (Some (shown_by d)) → AreThesesOf e.list (shown_by d) → ShowsAll d (shown_by d)
    → TellsShown (shown_list w (run_of e)) (Ok d) e
list_shown e w d has are h =
    (Shown (judgements_of e (shown_by d)), all_shown e d (shown_by d) h are, ap (λ o. after o (λ js. meaning.pure (Shown js))) (judgements_told e w (shown_by d) has))

pub no_list : (e : Evaluation) (w : Value) (at : ℕ) (end : End) → end ≡ ending.Halts (record { at = at; why = why.Stuck }) → HasJudgements e w None
    → TellsShown (shown_list w (run_of e)) (Err end) e
no_list e w at end is has = ends_after (as_judgements w (run_of e)) (λ js. meaning.pure (Shown js)) end e (no_judgements_told e w at end is has)

-- ---- by the kind of value

shown_judgement : (w : Value) (a : Assertion) (s : Running) → Some a ≡ judgement_in w → shown w s ≡ (Ok (Shown (a ∷ [])), s)
shown_judgement (judgement j) a s h = ap (λ (o : Option Assertion). (Ok (Shown (value o ∷ [])), s)) (sym h)
  where
    value : Option Assertion → Assertion
    value (Some b) = b
    value None = a
shown_judgement (boundary b) a s h = cc
shown_judgement unit a s h = cc
shown_judgement (truth b) a s h = cc
shown_judgement (pair v w) a s h = cc
shown_judgement nil a s h = cc
shown_judgement (cons v w) a s h = cc
shown_judgement none a s h = cc
shown_judgement (some v) a s h = cc

pub shows_judgement : (e : Evaluation) (w : Value) (j : ℕ) (r : Result AnyDone End) → stated_in e (Some j) ≡ judgement_in w
    → TellsShown (Ok (Shown (stated_at e.list j ∷ [])), run_of e) r e → TellsShown (shown w (run_of e)) r e
shows_judgement e w j r means told = subst (λ o. TellsShown o r e) (sym (shown_judgement w (stated_at e.list j) (run_of e) means)) told

shown_some : (w v : Value) (s : Running) → Some v ≡ option_in w → shown w s ≡ shown_part v s
shown_some (judgement j) v s h = cc
shown_some (boundary b) v s h = cc
shown_some unit v s h = cc
shown_some (truth b) v s h = cc
shown_some (pair x y) v s h = cc
shown_some nil v s h = cc
shown_some (cons x y) v s h = cc
shown_some none v s h = cc
shown_some (some x) v s h = ap (λ (o : Option Value). shown_part (value o) s) (sym h)
  where
    value : Option Value → Value
    value (Some u) = u
    value None = v

pub shows_part : (e : Evaluation) (w : Value) (v : AnyValue) (r : Result AnyDone End) → value_in e (Some v) ≡ option_in w
    → TellsShown (shown_part (value_over e v) (run_of e)) r e → TellsShown (shown w (run_of e)) r e
shows_part e w v r means told = subst (λ o. TellsShown o r e) (sym (shown_some w (value_over e v) (run_of e) means)) told

shown_none : (w : Value) (s : Running) → true ≡ is_none w → shown w s ≡ (Ok ShownNone, s)
shown_none (judgement j) s h = cc
shown_none (boundary b) s h = cc
shown_none unit s h = cc
shown_none (truth b) s h = cc
shown_none (pair x y) s h = cc
shown_none nil s h = cc
shown_none (cons x y) s h = cc
shown_none none s h = refl
shown_none (some x) s h = cc

pub shows_none : (e : Evaluation) (w : Value) → true ≡ is_none w → TellsShown (shown w (run_of e)) (Ok done.ShownNone) e
shows_none e w h = (ShownNone, tt, shown_none w (run_of e) h)

shown_other : (w : Value) (s : Running) → None ≡ judgement_in w → None ≡ option_in w → false ≡ is_none w → shown w s ≡ shown_list w s
shown_other (judgement j) s h k l = cc
shown_other (boundary b) s h k l = refl
shown_other unit s h k l = refl
shown_other (truth b) s h k l = refl
shown_other (pair x y) s h k l = refl
shown_other nil s h k l = refl
shown_other (cons x y) s h k l = refl
shown_other none s h k l = cc
shown_other (some x) s h k l = cc

pub shows_list : (e : Evaluation) (w : Value) (r : Result AnyDone End) → stated_in e None ≡ judgement_in w → value_in e None ≡ option_in w → false ≡ is_none w
    → TellsShown (shown_list w (run_of e)) r e → TellsShown (shown w (run_of e)) r e
shows_list e w r h k l told = subst (λ o. TellsShown o r e) (sym (shown_other w (run_of e) h k l)) told
