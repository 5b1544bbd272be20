-- What the program is asked for: the words of a call, and what its job reads.
use Rattle.std.specs.Prelude.{ℕ, ◌≡◌, ◌<◌, ◌+◌, ◌⊎◌, List, [], Some, None}
use Rattle.ft_streams.specs.Streams.{greatest_count}
use Rattle.ft_meaning.specs.Texts.{Text}
use Rattle.ft_meaning.specs.Sources.{greatest_length}
use Rattle.ft_answers.specs.declared.wanted.Wanted.{Wanted}
use Rattle.ft_answers.specs.declared.wanted.Wanted.TheVariants.{Run, Export, Check}
use Rattle.ft_answers.specs.CommandLine.{wanted_of}

-- the words ask for the job
abbrev pub IsAsked : List Text → Wanted → Type 0
IsAsked words job = wanted_of words ≡ Some job

-- the words ask for no job
abbrev pub IsNoJob : List Text → Type 0
IsNoJob words = wanted_of words ≡ None

-- the most bytes that a job takes for its input: of a source, or of a derivation file
abbrev pub limit : Wanted → ℕ
limit (Run budget) = greatest_length
limit (Export budget) = greatest_length
limit (Check one_thread) = 67108864

-- more bytes were given than the job takes, or the count of given bytes stands at its end
abbrev pub IsOverLimit : Wanted → ℕ → ℕ → Type 0
IsOverLimit job before after = (before + limit job < after) ⊎ (after ≡ greatest_count)

-- the job runs a source within so many units
abbrev pub RunsWithin : Wanted → ℕ → Type 0
RunsWithin (Run budget) n = budget ≡ n
RunsWithin (Export budget) n = budget ≡ n
RunsWithin (Check one_thread) n = ⊥

-- the job may break off with this number after a beginning of its text: where a write failed, and, but
-- for `check`, where memory was refused
abbrev pub MayBreakOff : Wanted → ℕ → Type 0
MayBreakOff (Run budget) n = (n ≡ 4) ⊎ (n ≡ 17)
MayBreakOff (Export budget) n = (n ≡ 4) ⊎ (n ≡ 17)
MayBreakOff (Check one_thread) n = n ≡ 4

-- the line of an error, which `export` does not write: what it writes is a derivation, or nothing
abbrev pub line_for : Wanted → Text → Text
line_for (Run budget) t = t
line_for (Export budget) t = []
line_for (Check one_thread) t = t
