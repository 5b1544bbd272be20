-- Reading a step: its word, and its parts.
use Rattle.std.specs.Prelude.{ℕ, zero, suc, if◌then◌else◌, nat_le, ◌≡◌, ◌&&◌, Bool, false, List, [], ◌∷◌, ◌++◌, length, map, take, drop, codes, Option, Some, None, Ok, Err}
use Rattle.std.specs.List.{flat_map}
use Rattle.ft_items.specs.Item.{Stated}
use Rattle.ft_items.specs.Texts.{Part as AnyPart, number as any_number, slash, part_text, written}
use Rattle.ft_common.specs.Digits.{run}
use Rattle.ft_lines.specs.declared.fault.Fault.TheVariants.{Form}
use Rattle.ft_lines.specs.declared.words.Word.{Word}
use Rattle.ft_lines.specs.declared.steps.Part.{Part}
use Rattle.ft_lines.specs.declared.steps.Part.TheVariants.{Number, Slash}
use Rattle.ft_lines.specs.Reading.{Outcome, Reader, ◌>>=◌, ◌>>◌, pure, skip, sees, passes, number}
use Rattle.ft_lines.specs.Words.{spelling_of, word_of}

-- a part by its number
abbrev pub part_of : Part → AnyPart
part_of (Number n) = any_number n
part_of Slash = slash

-- a slash or a number
unfoldable pub part : Reader Part
part = λ cs.
    if sees 47 cs then (do
      skip
      pure Slash) cs else (do
        n ← number
        pure (Number n)) cs

-- parts with a space before each, as far as the spaces go; the number bounds the turns
unfoldable pub parts_from : ℕ → List Part → Reader (List Part)
parts_from zero found = pure found
parts_from (suc n) found = do
  more ← passes 32
  if more then (do
    p ← part
    parts_from n (found ++ p ∷ [])) else pure found

-- the parts of a step, after its word
abbrev pub parts : Reader (List Part)
parts = λ cs. parts_from (length cs) [] cs

-- the text of parts: a space before each
abbrev pub parts_text : List AnyPart → List ℕ
parts_text ps = flat_map (λ y. codes " " ++ y) (map part_text ps)

-- a small letter
abbrev pub is_letter : ℕ → Bool
is_letter c = nat_le 97 c && nat_le c 122

abbrev pub word_then : Option Word → List ℕ → Outcome Word
word_then (Some w) cs = Ok (w, cs)
word_then None cs = Err Form

-- the word of a step: as many small letters as there are
unfoldable pub step_word : Reader Word
step_word cs = word_then (word_of (take (run is_letter cs) cs)) (drop (run is_letter cs) cs)

-- a step: its word and its parts
unfoldable pub step : Reader (Word × List Part)
step = do
  w ← step_word
  ps ← parts
  pure (w, ps)

-- whether a small letter is next
abbrev pub sees_letter : List ℕ → Bool
sees_letter [] = false
sees_letter (c ∷ cs) = is_letter c

-- the word and the parts are those that the step is written with
abbrev pub IsWritten : Stated → Word → List Part → Type 0
IsWritten s w ps = (spelling_of w ≡ (written s).0) × (map part_of ps ≡ (written s).1)
