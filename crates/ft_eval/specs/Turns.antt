-- What a turn leaves of an evaluation, and how much is left to do.
use Rattle.std.specs.Prelude.{ℕ, ◌≡◌, ◌+◌, ◌-◌, ◌*◌, List, length, Result, Ok, Err}
use Rattle.ft_meaning.specs.Values.{Outcome}
use Rattle.ft_meaning.specs.Values as meaning
use Rattle.ft_running.specs.Evaluation.{Evaluation}
use Rattle.ft_running.specs.Telling.{TellsEnd}
use Rattle.ft_running.specs.declared.ending.End.{End}
use Rattle.ft_eval.specs.Frames.{passed_all, turned}
use Rattle.ft_eval.specs.declared.frames.Frame.{Frame}
use Rattle.ft_eval.specs.declared.frames.Turn.{Turn}
use Rattle.ft_eval.specs.declared.frames.Turn.TheVariants as turn

-- The outcome is what the frames make of what the turn gives, or the evaluation ends so.
abbrev pub StepsInto : Outcome meaning.Value → Result Turn End → List Frame → Evaluation → Type 0
StepsInto o (Ok t) fs S = o ≡ passed_all S fs (turned S t)
StepsInto o (Err e) fs S = TellsEnd o e S

-- The units that are left count most, and a turn that gives a value, or has a frame that is to be
-- put on the stack, counts one.
abbrev pub turn_left : Turn → ℕ
turn_left (turn.Give v) = 1
turn_left (turn.Evaluate e G) = 0
turn_left (turn.Await e f) = 1

abbrev pub frames_left : List Frame → Turn → ℕ
frames_left fs t = length fs + turn_left t

abbrev pub work_left : Evaluation → List Frame → Turn → ℕ
work_left S fs t = 3 * (S.units.total - S.units.used) + frames_left fs t

-- the turn is the one that was answered, and the frames are as they were
abbrev pub IsTurnOf : Result Turn End → List Frame → List Frame → Turn → Type 0
IsTurnOf (Ok t) fs gs u = (t ≡ u) × (fs ≡ gs)
IsTurnOf (Err e) fs gs u = ⊥
