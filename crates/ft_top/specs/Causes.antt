-- Why an input is not had, and the statuses for the errors of the parts below.
use Rattle.std.specs.Prelude.{ℕ, ◌<◌, List, length, Option, IfSome}
use Rattle.ft_streams.specs.Streams.{Rose}
use Rattle.ft_outside.specs.declared.errors.ReadErr.{ReadErr}
use Rattle.ft_outside.specs.declared.errors.ReadErr.TheVariants as reading
use Rattle.ft_applications.specs.declared.fault.Fault.{Fault}
use Rattle.ft_applications.specs.declared.fault.Fault.TheVariants as fault
use Rattle.ft_answers.specs.declared.words.Job.{Job}
use Rattle.ft_answers.specs.declared.status.Status.{Status}
use Rattle.ft_answers.specs.declared.status.Status.TheVariants as status
use Rattle.ft_answers.specs.Words.{limit}
use Rattle.ft_answers.specs.Statuses.{IsOverLimit}

-- Why an input is not had, for the status of its error: the bytes that the source told before the call, the bytes taken before
-- and after it, and the faults before and after it.
abbrev pub IsCauseOfReading : Job → Option (List ℕ) → ℕ → ℕ → ℕ → ℕ → Status → Type 0
IsCauseOfReading j left taken taken' faults later status.ReadFault = Rose faults later
IsCauseOfReading j left taken taken' faults later status.TooLong = IsOverLimit j taken taken' × IfSome left (λ bytes. limit j < length bytes)
IsCauseOfReading j left taken taken' faults later status.Memory = Unit {0}
IsCauseOfReading j left taken taken' faults later _ = ⊥

-- the status where an input is not read
abbrev pub status_of_reading : ReadErr → Status
status_of_reading reading.Fault = status.ReadFault
status_of_reading reading.TooLong = status.TooLong
status_of_reading reading.Memory = status.Memory

-- the status where a source is not run
abbrev pub status_of_running : Fault → Status
status_of_running fault.NotYet = status.Syntax
status_of_running fault.Memory = status.Memory
