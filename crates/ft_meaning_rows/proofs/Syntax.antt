-- By computation.
use Rattle.std.proofs.Common.{◌≡◌, ◌∙◌, sym, ap, refl, ℕ, zero, suc, ◌-◌, ◌<◌, false, List, length, take, arith}
use Rattle.std.proofs.lemmas.Bool.{leb-true}
use Rattle.std.proofs.lemmas.Str.{IsUtf8-from_is_utf8, is_utf8-from_IsUtf8}
use Rattle.std.specs.Str.{is_utf8, IsUtf8}
use Rattle.ft_common.proofs.Booleans.{true_false}
use Rattle.ft_meaning.specs.Sources.{greatest_length}
use Rattle.ft_meaning.specs.Sources as source
use Rattle.ft_meaning.specs.Stages.{all_built}
use Rattle.ft_meaning.specs.Transcript.{transcript_of}
use Rattle.ft_meaning_rows.specs.Written.{lines, plenty, Holds, AllHold}
use Rattle.ft_meaning_rows.specs.Syntax as row
use Rattle.ft_meaning_rows.proofs.Running.{holds, holds_unexpected, holds_too_nested, running}

misspelled : Holds row.misspelled
unfolding running
misspelled = holds_unexpected row.misspelled 9 refl

nested : Holds row.nested
unfolding running
nested = holds row.nested refl

nested_too_deeply : Holds row.nested_too_deeply
unfolding running
nested_too_deeply = holds_too_nested row.nested_too_deeply 232 refl

wide_name : Holds row.wide_name
unfolding running
wide_name = holds row.wide_name refl

-- the bytes of the row that is no text, with those before the fault and those after it taken so far
abbrev bytes : List ℕ
bytes = lines (row.not_text).source

no_text_past : (n : ℕ) → is_utf8 (take (suc (suc (suc (suc (suc (suc (suc (suc n)))))))) bytes) ≡ false
unfolding running
no_text_past zero = refl
no_text_past (suc zero) = refl
no_text_past (suc (suc n)) = refl

longest : (m : ℕ) → 7 < m → ¬ (IsUtf8 (take m bytes))
longest m past text =
    let e : m ≡ suc (suc (suc (suc (suc (suc (suc (suc (m - 8)))))))) = omega arith in
    true_false (sym (is_utf8-from_IsUtf8 (take m bytes) text) ∙ (ap (λ k. is_utf8 (take k bytes)) e ∙ no_text_past (m - 8)))

not_text : Holds row.not_text
unfolding running
not_text = (
  transcript_of all_built bytes plenty (source.no_text 7),
  (source.no_text 7, (leb-true (length bytes) greatest_length refl, record { short = leb-true 8 9 refl; front = IsUtf8-from_is_utf8 (take 7 bytes) refl; longest = longest }), refl),
  refl,
  refl,
)

pub too_long : row.TooLong
too_long B s budget long = (transcript_of B s budget source.too_long, (source.too_long, long, refl), refl, refl)

pub each_holds : AllHold row.syntax
each_holds = (misspelled, (nested, (nested_too_deeply, (wide_name, (not_text, tt)))))
