use Rattle.std.proofs.Common.{◌≡◌, find, drop}
use Rattle.std.specs.Str.{bytes_eq}
use Rattle.ft_lines.specs.Words.{spelling_of}
use Rattle.ft_lines.proofs.words.first_spelled.Given as goal

abbrev pub invariant-loop-word : goal.invariant-loop-word
invariant-loop-word l =
    find (λ w. bytes_eq (spelling_of w) l.spelling) l.words
    ≡ find (λ w. bytes_eq (spelling_of w) l.spelling) (drop l.word-index l.words)
