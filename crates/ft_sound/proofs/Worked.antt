-- The worked lists of items: their verdicts are computed, and what is good is derivable.
use Rattle.std.proofs.Common.{◌≡◌, [], ◌∷◌, refl, ◌∙◌, sym}
use Rattle.std.specs.Prelude.{take}
use Rattle.ft_theory.specs.Expressions.{act, body_or, count, put, open_at, close_at, rename, lifts, lift, pushes, push}
use Rattle.ft_theory.specs.Statements.{has_type, plain}
use Rattle.ft_items.specs.Sets.{var}
use Rattle.ft_items.specs.Item.{by_rule, shown}
use Rattle.ft_items.specs.Good.{Good, Set, Accepted, Rejected, Counts, counts, verdict}
use Rattle.ft_items.specs.Worked.{Nat, O, S, zero_file}
use Rattle.ft_sound.specs.Worked.{accepted, ZeroFileIsGood, OtherSetIsNotGood, two_file, TwoIsNatural}
use Rattle.ft_sound.proofs.Theorems.{entries_derivable, accepted_are_good, good_are_accepted}

zero_verdict : verdict (zero_file []) ≡ accepted 2 4 1 1
unfolding act body_or count put open_at close_at rename lifts lift pushes push
zero_verdict = refl

pub zero_file_is_good : ZeroFileIsGood
zero_file_is_good = ((accepted_are_good (zero_file []) (record { rules = 2; entries = 4; shown = 1; level = 1 }) zero_verdict).0, zero_verdict)

other_verdict : verdict (zero_file (var 0 ∷ [])) ≡ Rejected 5 Set
unfolding act body_or count put open_at close_at rename lifts lift pushes push
other_verdict = refl

pub other_set_is_not_good : OtherSetIsNotGood
other_set_is_not_good = ((λ g. clash (counts (zero_file (var 0 ∷ []))) (sym other_verdict ∙ good_are_accepted (zero_file (var 0 ∷ [])) g)), other_verdict)
  where
    clash : (c : Counts) → Rejected 5 Set ≡ Accepted c → ⊥
    clash c e = cc

two_verdict : verdict two_file ≡ accepted 3 6 1 5
unfolding act body_or count put open_at close_at rename lifts lift pushes push
two_verdict = refl

two_is_good : Good two_file
two_is_good = (accepted_are_good two_file (record { rules = 3; entries = 6; shown = 1; level = 5 }) two_verdict).0

pub two_is_natural : TwoIsNatural
two_is_natural = (two_is_good, entries_derivable two_file two_is_good (take 9 two_file) (shown 5 ∷ []) (record { statement = plain (has_type (S (S O)) Nat); set = []; step = by_rule 2 (4 ∷ []) }) refl)
