-- What the program is asked for: the words of a call.
use Rattle.std.specs.Prelude.{ℕ, ◌≡◌, List, [], ◌∷◌, codes}
use Rattle.ft_answers.specs.declared.words.Job.{Job}
use Rattle.ft_answers.specs.declared.words.Job.TheVariants as job

-- the word of a job
abbrev pub word_of : Job → List ℕ
word_of job.Run = codes "run"
word_of job.Export = codes "export"
word_of job.Check = codes "check"

-- the words are the one word of the job
abbrev pub IsAsked : List (List ℕ) → Job → Type 0
IsAsked words j = words ≡ word_of j ∷ []

-- the words ask for no job
abbrev pub IsNoJob : List (List ℕ) → Type 0
IsNoJob words = (j : Job) → IsAsked words j → ⊥

-- the most bytes that a job reads: of a source, or of a derivation file
abbrev pub limit : Job → ℕ
limit job.Run = 1048576
limit job.Export = 1048576
limit job.Check = 67108864

-- the job reads a source, which it runs
abbrev pub ReadsSource : Job → Type 0
ReadsSource job.Run = Unit {0}
ReadsSource job.Export = Unit {0}
ReadsSource job.Check = ⊥
