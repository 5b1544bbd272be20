use Rattle.ft_meaning_rows.proofs.Counted as proved
use Rattle.ft_meaning_rows.proofs.worked_units.Goals as goal

pub returns : goal.returns
returns c = record { one_numeral = proved.one_numeral; two_numerals = proved.two_numerals; seven_numerals = proved.seven_numerals; one_sum = proved.one_sum; two_sums = proved.two_sums }
