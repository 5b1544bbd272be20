-- The statuses of a call, with their lines.
use Rattle.std.specs.Prelude.{ℕ, ◌≡◌, codes}
use Rattle.ft_meaning.specs.Texts.{Text}
use Rattle.ft_meaning.specs.Lines.{line}
use Rattle.ft_whole_answers.specs.declared.status.Status.{Status}
use Rattle.ft_whole_answers.specs.declared.status.Status.TheVariants.{Done, Usage, ReadFault, WriteFault, TooLong, NotUtf8, Syntax, NameOrType, Rule, Unhandled, Refused, NoMatch, Spent, Shape, Rejected, File, Memory}

-- the number that the program ends with
abbrev pub number_of : Status → ℕ
number_of Done = 0
number_of Usage = 2
number_of ReadFault = 3
number_of WriteFault = 4
number_of TooLong = 5
number_of NotUtf8 = 6
number_of Syntax = 7
number_of NameOrType = 8
number_of Rule = 9
number_of Unhandled = 10
number_of Refused = 11
number_of NoMatch = 12
number_of Spent = 13
number_of Shape = 14
number_of Rejected = 15
number_of File = 16
number_of Memory = 17

-- the number is that of a status
abbrev pub IsStatus : ℕ → Type 0
IsStatus n = (s : Status) × (n ≡ number_of s)

-- the line where the words are others
abbrev pub usage_line : Text
usage_line = line (codes "error usage")

-- the line where a read fails
abbrev pub read_line : Text
read_line = line (codes "error read")

-- the line where a derivation file is longer than it may be
abbrev pub too_long_line : Text
too_long_line = line (codes "error too long")
