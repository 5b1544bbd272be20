-- What follows of a call from the ways in which it goes.
use Rattle.std.specs.Prelude.{◌≡◌}
use Rattle.ft_whole_answers.specs.Calls.{Call, Goes, WriteFails}
use Rattle.ft_whole_answers.specs.Clauses.{Answers, HasCause, Exports, Checks}

-- 4 is answered only where a write failed
abbrev pub TellsWriteFault : Call → Type 0
TellsWriteFault c = c.result ≡ 4 → WriteFails c

-- A call that goes in one of the ways answers the text of its job, where no read and no write fails.
abbrev pub AnswersFollow : Type 0
AnswersFollow = (c : Call) → Goes c → TellsWriteFault c → Answers c

-- Each status of a call that goes in one of the ways has its cause.
abbrev pub CausesFollow : Type 0
CausesFollow = (c : Call) → Goes c → TellsWriteFault c → HasCause c

-- What is exported by a call that goes in one of the ways is accepted.
abbrev pub ExportsFollow : Type 0
ExportsFollow = (c : Call) → Goes c → Exports c

-- The status of a call for a verdict, which goes in one of the ways, tells of the file what is claimed.
abbrev pub ChecksFollow : Type 0
ChecksFollow = (c : Call) → Goes c → Checks c
