-- Texts of whole lines.
use Rattle.std.specs.Prelude.{ℕ, zero, suc, ◌≡◌, Bool, true, not, ◌==◌, List, [], ◌++◌}
use Rattle.std.specs.List.{list_all}
use Rattle.ft_applications_meaning.specs.Transcript.{line_feed}

-- no byte is a line feed
abbrev pub has_no_line_feed : List ℕ → Bool
has_no_line_feed cs = list_all (λ c. not (c == 10)) cs

-- a line: bytes without a line feed, and a line feed
pub record IsLine (line : List ℕ) : Type 0 where
  pub front : List ℕ
  pub ends : line ≡ front ++ line_feed
  pub one : has_no_line_feed front ≡ true

-- so many lines, one after the other
pub data AreLines : ℕ → List ℕ → Type 0 where
  no_line : AreLines zero []
  next_line : {n : ℕ} {line text : List ℕ} → IsLine line → AreLines n text → AreLines (suc n) (line ++ text)
