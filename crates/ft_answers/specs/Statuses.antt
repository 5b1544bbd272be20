-- The statuses of a call, with their lines.
use Rattle.std.specs.Prelude.{ℕ, ◌≡◌, ◌<◌, ◌+◌, ◌⊎◌, ◌++◌, List, [], codes, Option}
use Rattle.ft_streams.specs.Streams.{Rose, Appends, AppendsPrefix, greatest_count}
use Rattle.ft_applications_meaning.specs.Transcript.{line_feed, not_yet_line}
use Rattle.ft_answers.specs.declared.words.Job.{Job}
use Rattle.ft_answers.specs.declared.words.Job.TheVariants as job
use Rattle.ft_answers.specs.declared.status.Status.{Status}
use Rattle.ft_answers.specs.declared.status.Status.TheVariants as status
use Rattle.ft_answers.specs.Words.{limit}

-- the number that the program ends with
abbrev pub number_of : Status → ℕ
number_of status.Done = 0
number_of status.Usage = 2
number_of status.ReadFault = 3
number_of status.WriteFault = 4
number_of status.TooLong = 5
number_of status.Syntax = 7
number_of status.Rule = 9
number_of status.Rejected = 15
number_of status.File = 16
number_of status.Memory = 17

-- the number is that of a status
abbrev pub IsStatus : ℕ → Type 0
IsStatus n = (s : Status) × (n ≡ number_of s)

-- the statuses that a job has where its input was read whole
abbrev pub IsOfInput : Job → Status → Type 0
IsOfInput job.Check status.Done = Unit {0}
IsOfInput job.Check status.Rejected = Unit {0}
IsOfInput job.Check status.File = Unit {0}
IsOfInput job.Check _ = ⊥
IsOfInput _ status.Done = Unit {0}
IsOfInput _ status.Syntax = Unit {0}
IsOfInput _ status.Rule = Unit {0}
IsOfInput _ _ = ⊥

-- the number is that of such a status
abbrev pub IsReadWhole : ℕ → Type 0
IsReadWhole n = (j : Job) × (s : Status) × IsOfInput j s × (n ≡ number_of s)

-- the number is that of a failed read, or of a failed write
abbrev pub IsFaulty : ℕ → Type 0
IsFaulty n = (n ≡ number_of status.ReadFault) ⊎ (n ≡ number_of status.WriteFault)

-- the line where the words are others
abbrev pub usage_line : List ℕ
usage_line = codes "error usage" ++ line_feed

-- the line where a read fails
abbrev pub read_line : List ℕ
read_line = codes "error read" ++ line_feed

-- the line where the input is longer than it may be
abbrev pub too_long_line : List ℕ
too_long_line = codes "error too long" ++ line_feed

-- the one line of a call that ends with the status, where it has one
abbrev pub line_of : Status → List ℕ
line_of status.Usage = usage_line
line_of status.ReadFault = read_line
line_of status.TooLong = too_long_line
line_of status.Syntax = not_yet_line
line_of _ = []

-- the line of an error, which `export` does not write: what it writes is a derivation, or nothing
abbrev pub line_for : Job → List ℕ → List ℕ
line_for job.Run line = line
line_for job.Export line = []
line_for job.Check line = line

-- the text is written and its status answered, or the sink failed after a beginning of the text
abbrev pub Ends : List ℕ → ℕ → ℕ → Option (List ℕ) → Option (List ℕ) → Type 0
Ends text status result before after = ((result ≡ status) × Appends before text after) ⊎ ((result ≡ 4) × AppendsPrefix before text after)

-- more bytes were taken than the job reads, or the count of taken bytes stands at its end
abbrev pub IsOverLimit : Job → ℕ → ℕ → Type 0
IsOverLimit j taken later = (taken + limit j < later) ⊎ (later ≡ greatest_count)

-- no fault came in a call
abbrev pub HasNoFault : ℕ → ℕ → Type 0
HasNoFault faults later = Rose faults later → ⊥
