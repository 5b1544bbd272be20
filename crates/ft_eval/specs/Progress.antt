-- What a turn of the machine comes to.
use Rattle.std.specs.Prelude.{◌≡◌, List, Result, Ok, Err}
use Rattle.ft_meaning.specs.Values.{Outcome}
use Rattle.ft_meaning.specs.Values as meaning
use Rattle.ft_running.specs.Evaluation.{Evaluation, run_of, value_over, IsValueOf}
use Rattle.ft_running.specs.Telling.{TellsEnd}
use Rattle.ft_running.specs.declared.ending.End.{End}
use Rattle.ft_eval.specs.Frames.{passed_all, turned}
use Rattle.ft_eval.specs.declared.frames.Frame.{Frame}
use Rattle.ft_eval.specs.declared.frames.Turn.{Turn}
use Rattle.ft_eval.specs.declared.machine.Progress.{Progress}
use Rattle.ft_eval.specs.declared.machine.Progress.TheVariants as progress

-- The outcome is the value, or what the frames make of what the further turn gives; or the
-- evaluation ends so.
abbrev pub ProgressesTo : Outcome meaning.Value → Result Progress End → List Frame → Evaluation
    → Type 0
ProgressesTo o (Ok (progress.Done v)) fs S =
    (o ≡ (Ok (value_over S v), run_of S)) × IsValueOf S v
ProgressesTo o (Ok (progress.Further t)) fs S = o ≡ passed_all S fs (turned S t)
ProgressesTo o (Err e) fs S = TellsEnd o e S

-- it holds of the further turn, where there is one
abbrev pub IfFurther : Result Progress End → (Turn → Type 0) → Type 0
IfFurther (Ok (progress.Done v)) P = Unit {0}
IfFurther (Ok (progress.Further t)) P = P t
IfFurther (Err e) P = Unit {0}
