-- Sources and sinks in memory, and the counts of adapters, as their callers see them.
use Rattle.std.specs.Prelude.{◌≡◌, ◌<◌, ℕ, Bool, List, Option, None, Contains, length}
use Rattle.ft_streams.specs.Streams.{raised_count}

-- a source in memory
pub record SourceState : Type 0 where
  -- the bytes still to come
  pub rest : List ℕ
  -- the most bytes that one call gives
  pub piece : ℕ
  -- the numbers of the calls that fail
  pub fail_at : List ℕ
  -- the number of the last call, 0 before the first
  pub calls : ℕ
  -- how many bytes were given
  pub taken : ℕ
  -- how many calls failed
  pub faults : ℕ
  -- whether the last call failed
  pub failed : Bool

-- a sink in memory
pub record SinkState : Type 0 where
  -- the bytes that were written
  pub written : List ℕ
  -- the most bytes that it holds
  pub room : ℕ
  -- the most bytes that one call takes
  pub piece : ℕ
  -- the numbers of the calls that fail
  pub fail_at : List ℕ
  -- the number of the last call, 0 before the first
  pub calls : ℕ
  -- how many calls failed
  pub faults : ℕ
  -- whether the last call failed
  pub failed : Bool

-- what a source over a reader tells: the bytes given, the failed calls, and whether the last call failed
pub record SourceCounts : Type 0 where
  pub taken : ℕ
  pub faults : ℕ
  pub failed : Bool

-- what a sink over a writer tells: the failed calls, and whether the last call failed
pub record SinkCounts : Type 0 where
  pub faults : ℕ
  pub failed : Bool

-- what an adapter tells of its bytes
abbrev pub untold_bytes : Option (List ℕ)
untold_bytes = None

-- the next call's number is listed among those that fail
abbrev pub IsListed : List ℕ → ℕ → Type 0
IsListed fail_at calls = Contains fail_at (raised_count calls 1)

-- bytes are handed in, and there is no room for one of them
abbrev pub IsFull : SinkState → List ℕ → Type 0
IsFull sink bytes = (0 < length bytes) × (length sink.written ≡ sink.room)
