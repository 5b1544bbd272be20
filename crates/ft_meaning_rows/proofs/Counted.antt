-- By computation.
use Rattle.std.proofs.Common.{refl}
use Rattle.ft_meaning_rows.specs.Written.{HoldsWith}
use Rattle.ft_meaning_rows.specs.Counted as row
use Rattle.ft_meaning_rows.proofs.Running.{holds_with, running}

pub one_numeral : HoldsWith row.one_numeral 5
unfolding running
one_numeral = holds_with row.one_numeral 5 refl refl

pub two_numerals : HoldsWith row.two_numerals 8
unfolding running
two_numerals = holds_with row.two_numerals 8 refl refl

pub seven_numerals : HoldsWith row.seven_numerals 31
unfolding running
seven_numerals = holds_with row.seven_numerals 31 refl refl

pub one_sum : HoldsWith row.one_sum 47
unfolding running
one_sum = holds_with row.one_sum 47 refl refl

pub two_sums : HoldsWith row.two_sums 82
unfolding running
two_sums = holds_with row.two_sums 82 refl refl
