-- Expressions that give judgements; and runs that end whatever would follow.
use Rattle.std.proofs.Common.{◌≡◌, ◌∙◌, ℕ, ap, sym, Some, None}
use Rattle.std.specs.Prelude.{Ok, Err}
use Rattle.ft_kernel.specs.State.{IsThesisOf}
use Rattle.ft_meaning.specs.Values as meaning
use Rattle.ft_meaning.specs.Values.{Outcome, Run, after, as_judgement, the}
use Rattle.ft_telling.specs.declared.halt.Why.TheVariants as why
use Rattle.ft_values.specs.declared.values.Value.{Value}
use Rattle.ft_running.specs.declared.ending.End.{End}
use Rattle.ft_running.specs.declared.ending.End.TheVariants as ending
use Rattle.ft_running.specs.Evaluation.{Evaluation, run_of, value_over}
use Rattle.ft_running.specs.Telling.{TellsEnd, TellsValue}
use Rattle.ft_running.specs.Readers.{stated_in, judgement_in}
use Rattle.ft_running.specs.Asked.{TellsEntry}
use Rattle.ft_running.proofs.Ended.{stuck_told}
use Rattle.ft_running.proofs.Reading.{judgement_read}

-- an end stays one whatever would follow a value
pub ends_after : {A B : Type 0} (o : Outcome A) (f : A → Run B) (e : End) (S : Evaluation)
    → TellsEnd o e S → TellsEnd (after o f) e S
ends_after o f (ending.Performs op) S h = (ap (λ o. after o f) h.0, h.1)
ends_after o f (ending.Halts q) S h = λ no. ((h no).0, ap (λ o. after o f) (h no).1)

pub claim_told : (o : Outcome meaning.Value) (e : Evaluation) (v : Value) (j : ℕ) → TellsValue o (Ok v) e
    → stated_in e (Some j) ≡ judgement_in (value_over e v) → IsThesisOf e.list j
    → TellsEntry (after o as_judgement) (Ok j) e
claim_told o e v j told means thesis = (
  ap (λ o. after o as_judgement) told.0
      ∙ judgement_read (value_over e v) (run_of e)
      ∙ ap (λ x. the x (run_of e)) (sym means),
  thesis,
)

pub claim_stuck : (o : Outcome meaning.Value) (e : Evaluation) (v : Value) (at : ℕ) (end : End)
    → end ≡ ending.Halts (record { at = at; why = why.Stuck }) → TellsValue o (Ok v) e
    → stated_in e None ≡ judgement_in (value_over e v) → TellsEntry (after o as_judgement) (Err end) e
claim_stuck o e v at end is told means =
    stuck_told (after o as_judgement) at end e is
    (ap (λ o. after o as_judgement) told.0
    ∙ judgement_read (value_over e v) (run_of e)
    ∙ ap (λ x. the x (run_of e)) (sym means))

pub claim_ends : (o : Outcome meaning.Value) (e : Evaluation) (end : End) → TellsValue o (Err end) e
    → TellsEntry (after o as_judgement) (Err end) e
claim_ends o e end told = ends_after o as_judgement end e told
