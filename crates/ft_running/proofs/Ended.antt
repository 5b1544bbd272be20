-- What calls answered, as values and as ends.
use Rattle.std.proofs.Common.{◌≡◌, ◌∙◌, sym, ap, ap₂, refl, subst, ℕ, List, [], ◌∷◌, Some, None, true, false, cond}
use Rattle.std.specs.Prelude.{Ok, Err, map, codes}
use Rattle.ft_items.specs.Item.{Name}
use Rattle.ft_items.specs.Store.{Assertion}
use Rattle.ft_kernel.specs.State.{State, IsThesisOf, IsBoundaryOf}
use Rattle.ft_meaning.specs.Values as meaning
use Rattle.ft_meaning.specs.Values.{Outcome, as_judgements, the, halts, stuck}
use Rattle.ft_meaning.specs.Forms.{fitting, coerce}
use Rattle.ft_reference.specs.Nucleus.{fits_boundary}
use Rattle.ft_telling.specs.declared.halt.Halt.{Halt}
use Rattle.ft_telling.specs.declared.halt.Why.TheVariants as why
use Rattle.ft_telling.specs.Telling.{HaltsSo, TellsJudgement, TellsBoundary}
use Rattle.ft_telling.specs.Words.{stated_all}
use Rattle.ft_values.specs.declared.values.Value.{Value}
use Rattle.ft_values.specs.Kept.{judgement, boundary, stated_at}
use Rattle.ft_running.specs.declared.ending.End.{End}
use Rattle.ft_running.specs.declared.ending.End.TheVariants as ending
use Rattle.ft_running.specs.Ends.{IsMemory}
use Rattle.ft_running.specs.Evaluation.{Evaluation, run_of, value_over, IsValueOf, IsEvaluation, GoesFurther, with_kept}
use Rattle.ft_running.specs.Telling.{TellsValue, TellsEnd}
use Rattle.ft_running.specs.Asked.{TellsEntry, judgements_of, coerced}
use Rattle.ft_running.specs.Readers.{HasJudgements}
use Rattle.ft_running.proofs.Further.{means_further}

-- ---- ends

pub halt_told : {A : Type 0} (o : Outcome A) (h : Halt) (end : End) (e : Evaluation) → end ≡ ending.Halts h → HaltsSo o h e.list e.units → TellsEnd o end e
halt_told o h end e is told = subst (λ end. TellsEnd o end e) (sym is) told

pub memory_told : {A : Type 0} (o : Outcome A) (end : End) (e : Evaluation) → IsMemory end → TellsEnd o end e
memory_told o (ending.Performs op) e is = absurd is
memory_told o (ending.Halts h) e is = λ no. absurd (no is)

pub stuck_told : {A : Type 0} (o : Outcome A) (at : ℕ) (end : End) (e : Evaluation) → end ≡ ending.Halts (record { at = at; why = why.Stuck })
    → o ≡ (Err (halts stuck), run_of e) → TellsEnd o end e
stuck_told o at end e is told = halt_told o (record { at = at; why = why.Stuck }) end e is (λ no. (tt, told))

-- ---- values

pub judgement_kept : (e f : Evaluation) (j : ℕ) (v : Value) → f ≡ with_kept (judgement j) e → value_over f v ≡ meaning.judgement (stated_at e.list j) → IsValueOf f v
    → (o : Outcome meaning.Value) → TellsJudgement o (Ok j) e.list e.units → TellsValue o (Ok v) f
judgement_kept e f j v adds means below o told = (told ∙ ap₂ (λ w x. (Ok w, x)) (sym means) (sym (ap run_of adds)), below)

pub boundary_kept : (e f : Evaluation) (b : ℕ) (v : Value) → f ≡ with_kept (boundary b) e → value_over f v ≡ meaning.boundary (stated_at e.list b) → IsValueOf f v
    → (o : Outcome meaning.Value) → TellsBoundary o (Ok b) e.list e.units → TellsValue o (Ok v) f
boundary_kept e f b v adds means below o told = (told ∙ ap₂ (λ w x. (Ok w, x)) (sym means) (sym (ap run_of adds)), below)

pub all_stated : (s : State) (js : List ℕ) → map (stated_at s) js ≡ stated_all s js
all_stated s [] = refl
all_stated s (j ∷ js) = ap (λ xs. stated_at s j ∷ xs) (all_stated s js)

pub judgements_told : (e : Evaluation) (v : meaning.Value) (js : List ℕ) → HasJudgements e v (Some js)
    → as_judgements v (run_of e) ≡ (Ok (judgements_of e js), run_of e)
judgements_told e v js has = has (run_of e) ∙ ap (λ xs. (Ok xs, run_of e)) (all_stated e.list js)

pub no_judgements_told : (e : Evaluation) (v : meaning.Value) (at : ℕ) (end : End) → end ≡ ending.Halts (record { at = at; why = why.Stuck }) → HasJudgements e v None
    → TellsEnd (as_judgements v (run_of e)) end e
no_judgements_told e v at end is has = stuck_told (as_judgements v (run_of e)) at end e is (has (run_of e))

-- ---- `coerce`

pub coerce_told : (e f : Evaluation) (at : ℕ) (a b : Assertion) (n : Name) (v : Value) → n ≡ codes "coerce" → value_over f v ≡ meaning.pair (meaning.judgement a) (meaning.boundary b)
    → run_of f ≡ run_of e → IsValueOf f v → TellsEnd (coerced at a b (run_of e)) (ending.Performs (record { name = n; argument = v; at = at })) f
coerce_told e f at a b n v name means run below = (
  ap (λ x. (Err (meaning.performs (codes "coerce") (meaning.pair (meaning.judgement a) (meaning.boundary b)) at), x)) (sym run)
      ∙ ap₂ (λ n w. (Err (meaning.performs n w at), run_of f)) (sym name) (sym means),
  below,
)

pub both_mean : (e f g h : Evaluation) (a b : ℕ) (v w u : Value) → IsEvaluation f → IsThesisOf e.list a → IsBoundaryOf e.list b
    → IsValueOf f v → GoesFurther f g → f ≡ with_kept (judgement a) e
    → value_over f v ≡ meaning.judgement (stated_at e.list a) → value_over g w ≡ meaning.boundary (stated_at f.list b)
    → value_over h u ≡ meaning.pair (value_over g v) (value_over g w)
    → value_over h u ≡ meaning.pair (meaning.judgement (stated_at e.list a)) (meaning.boundary (stated_at e.list b))
both_mean e f g h a b v w u is thesis goal below further adds first second both =
    both ∙ ap₂ (λ x y. meaning.pair x y) (means_further f g v is further below ∙ first) (second ∙ ap (λ (f : Evaluation). meaning.boundary (stated_at f.list b)) adds)

pub fits_told : (e : Evaluation) (at j b : ℕ) → fits_boundary (stated_at e.list j) (stated_at e.list b) ≡ true → IsThesisOf e.list j
    → TellsEntry (fitting at (stated_at e.list j) (stated_at e.list b) (run_of e)) (Ok j) e
fits_told e at j b fits is =
    (ap (λ t. cond t (meaning.pure (stated_at e.list j)) (coerce at (stated_at e.list j) (stated_at e.list b)) (run_of e)) fits, is)

pub coercion_told : (e f : Evaluation) (at j b : ℕ) (end : End) → fits_boundary (stated_at e.list j) (stated_at e.list b) ≡ false
    → TellsEnd (coerced at (stated_at e.list j) (stated_at e.list b) (run_of e)) end f
    → TellsEntry (fitting at (stated_at e.list j) (stated_at e.list b) (run_of e)) (Err end) f
coercion_told e f at j b end other told =
    subst (λ o. TellsEnd o end f)
    (sym (ap (λ t. cond t (meaning.pure (stated_at e.list j)) (coerce at (stated_at e.list j) (stated_at e.list b)) (run_of e)) other)) told
