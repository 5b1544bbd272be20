-- A call of the program: what its source and its sink tell, and how it goes.
use Rattle.std.specs.Prelude.{ℕ, ◌≡◌, ◌<◌, ◌⊎◌, Bool, List, length, Option, IfSome}
use Rattle.ft_streams.specs.Streams.{Rose, IsAtEnd, Appends, AppendsPrefix}
use Rattle.ft_meaning.specs.Texts.{Text}
use Rattle.ft_answers.specs.declared.wanted.Wanted.{Wanted}
use Rattle.ft_whole_answers.specs.declared.status.Status.{Status}
use Rattle.ft_whole_answers.specs.Statuses.{number_of, usage_line, read_line, too_long_line}
use Rattle.ft_whole_answers.specs.Asking.{IsAsked, IsNoJob, limit, IsOverLimit, MayBreakOff, line_for}
use Rattle.ft_whole_answers.specs.Answers.{IsText, IsBegun, IsOfInput}

-- What a source tells at a moment: the bytes still to come, where they are told; how many bytes
-- were given and how many reads failed, where both counts stand still at the end of their type;
-- and whether the last read failed.
pub record Input : Type 0 where
  pub left : Option Text
  pub taken : ℕ
  pub faults : ℕ
  pub failed : Bool

-- What a sink tells at a moment: the bytes that were written, where they are told; how many writes
-- failed; and whether the last one did.
pub record Output : Type 0 where
  pub written : Option Text
  pub faults : ℕ
  pub failed : Bool

-- A call: its words, its source and its sink before and after it, and the number that it answers.
pub record Call : Type 0 where
  pub words : List Text
  pub input : Input
  pub input_after : Input
  pub output : Output
  pub output_after : Output
  pub result : ℕ

-- the call of these parts
abbrev pub call : List Text → Input → Input → Output → Output → ℕ → Call
call words input input_after output output_after result = record {
  words = words;
  input = input;
  input_after = input_after;
  output = output;
  output_after = output_after;
  result = result;
}

-- P holds of the bytes of the input, where the source tells them
abbrev pub OfBytes : Call → (Text → Type 0) → Type 0
OfBytes c P = IfSome c.input.left P

-- the input was read to its end
abbrev pub ReadsAll : Call → Type 0
ReadsAll c = IsAtEnd c.input_after.left

-- a read failed
abbrev pub ReadFails : Call → Type 0
ReadFails c = Rose c.input.faults c.input_after.faults

-- a write failed
abbrev pub WriteFails : Call → Type 0
WriteFails c = Rose c.output.faults c.output_after.faults

-- more bytes were taken than the job takes
abbrev pub TakesTooMany : Wanted → Call → Type 0
TakesTooMany job c = IsOverLimit job c.input.taken c.input_after.taken

-- the text was written, where the sink tells what is written
abbrev pub Writes : Call → Text → Type 0
Writes c text = Appends c.output.written text c.output_after.written

-- a beginning of the text was written, maybe nothing of it and maybe all
abbrev pub Begins : Call → Text → Type 0
Begins c text = AppendsPrefix c.output.written text c.output_after.written

-- the text was written and its status answered; or the sink failed after a beginning of the text
abbrev pub Ends : Call → Text → ℕ → Type 0
Ends c text n = ((c.result ≡ n) × Writes c text) ⊎ ((c.result ≡ 4) × Begins c text)

-- How a call goes: all ways, of which each call goes one.
pub data Goes (c : Call) : Type 0 where
  -- The words ask for no job.
  of_usage : IsNoJob c.words → Ends c usage_line 2 → Goes c
  -- A read failed.
  of_fault : (job : Wanted) → IsAsked c.words job → ReadFails c → Ends c (line_for job read_line) 3
      → Goes c
  -- The input is longer than it may be.
  of_length : (job : Wanted) → IsAsked c.words job → TakesTooMany job c
      → OfBytes c (λ bytes. limit job < length bytes) → Ends c (line_for job too_long_line) 5
      → Goes c
  -- The input was read to its end. Its text was written and its status answered.
  of_text : (job : Wanted) → IsAsked c.words job → ReadsAll c
      → (s : Status) → IsOfInput job s → c.result ≡ number_of s
      → (text : Text) → OfBytes c (λ bytes. IsText job bytes text c.result) → Writes c text
      → Goes c
  -- The input was read to its end. After a beginning of its text the sink failed, or memory was
  -- refused.
  of_break : (job : Wanted) → IsAsked c.words job → ReadsAll c → MayBreakOff job c.result
      → OfBytes c (λ bytes. (text : Text) × IsBegun job bytes text × Begins c text)
      → Goes c
  -- Memory was refused, and nothing was written.
  of_memory : c.result ≡ 17 → c.output_after.written ≡ c.output.written → Goes c
