-- What sources and sinks tell.
use Rattle.std.specs.Prelude.{◌≡◌, Bool, true, ◌<◌, ◌≤◌, ◌+◌, ◌⊎◌, ◌++◌, ℕ, List, [], Option, option_map, min, length, take, IfSome}

-- where a count stands still: the end of its type
abbrev pub greatest_count : ℕ
greatest_count = 18446744073709551615

-- a count rose in a call, or stands at its end after it
abbrev pub Rose : ℕ → ℕ → Type 0
Rose before after = (before < after) ⊎ (after ≡ greatest_count)

-- a count with so many more, which stands still at its end
abbrev pub raised_count : ℕ → ℕ → ℕ
raised_count n by = min (n + by) greatest_count

-- one call failed, and it was the last: the count of faults before and after, and whether the last call failed
abbrev pub FailsOnce : ℕ → ℕ → Bool → Type 0
FailsOnce before after failed = (after ≡ raised_count before 1) × (failed ≡ true)

-- no call failed; or one did, which was the last, and P
abbrev pub NoFaultUnless : Type 0 → ℕ → ℕ → Bool → Type 0
NoFaultUnless P before after failed = (after ≡ before) ⊎ (P × FailsOnce before after failed)

-- a count that was raised by so many, maybe in several calls
abbrev pub CountsOn : ℕ → ℕ → ℕ → Type 0
CountsOn before by after = (after ≡ before + by) ⊎ (after ≡ greatest_count)

-- the bytes that were to come are this piece and those to come after it, where they are told
abbrev pub Gives : Option (List ℕ) → List ℕ → Option (List ℕ) → Type 0
Gives before piece after = before ≡ option_map (λ rest. piece ++ rest) after

-- so many bytes at most were given since, where they are told
abbrev pub GivesAtMost : ℕ → Option (List ℕ) → Option (List ℕ) → Type 0
GivesAtMost most before after = (piece : List ℕ) × (length piece ≤ most) × Gives before piece after

-- no byte is to come, where that is told
abbrev pub IsAtEnd : Option (List ℕ) → Type 0
IsAtEnd left = IfSome left (λ rest. rest ≡ [])

-- what was written is what was written before and then this piece, where it is told
abbrev pub Appends : Option (List ℕ) → List ℕ → Option (List ℕ) → Type 0
Appends before piece after = after ≡ option_map (λ old. old ++ piece) before

-- a prefix of these bytes was appended to what was written, where that is told
abbrev pub AppendsPrefix : Option (List ℕ) → List ℕ → Option (List ℕ) → Type 0
AppendsPrefix before bytes after = (n : ℕ) × (n ≤ length bytes) × Appends before (take n bytes) after
