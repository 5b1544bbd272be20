-- Runs of characters, and the digits of a number.
use Rattle.std.proofs.Common.{rules, ◌≡◌, ◌≤◌, ◌+◌, ◌-◌, ◌*◌, refl, ℕ, suc, List, [], ◌∷◌, length, take, Bool, true, false, arith}
use Rattle.std.specs.Prelude.{slice_index}
use Rattle.std.specs.List.{list_all}
use Rattle.std.specs.Char.{is_ascii_digit}
use Rattle.std.specs.Str.{all_ascii_digits}
use Rattle.std.proofs.lemmas.Str.Parse.{IsNumeralModel, numerals_by_fold}
use Rattle.ft_common.specs.Digits.{run, decimal_value, has_leading_zero}
use Rattle.ft_common.proofs.Booleans.{and_left, and_right}
use Rattle.ft_common.proofs.Choices.{if_both}

pub list_all-take-run : (passes : ℕ → Bool) (cs : List ℕ) → list_all passes (take (run passes cs) cs) ≡ true
list_all-take-run passes [] = refl
list_all-take-run passes (c ∷ cs) = if_both (λ n. list_all passes (take n (c ∷ cs)) ≡ true) (passes c) (suc (run passes cs)) 0
    (λ e. rw e (list_all-take-run passes cs)) (λ e. refl)

-- a run goes no further than the text
pub run-le : (passes : ℕ → Bool) (cs : List ℕ) → run passes cs ≤ length cs
run-le passes [] = omega arith
run-le passes (c ∷ cs) = if_both (λ n. n ≤ length (c ∷ cs)) (passes c) (suc (run passes cs)) 0
    (λ e. omega (arith, run-le passes cs)) (λ e. omega arith)

-- digits after a number never write a smaller one
pub decimal_value-le : (n : ℕ) (ds : List ℕ) → n ≤ decimal_value n ds
decimal_value-le n [] = omega arith
decimal_value-le n (d ∷ ds) = omega (arith, decimal_value-le (10 * n + (d - 48)) ds)

-- the number that digits write is the library's
pub decimal_value-is_numeral : IsNumeralModel (λ ds. all_ascii_digits ds ≡ true) (decimal_value 0)
decimal_value-is_numeral = numerals_by_fold _ (search rules) decimal_value (search rules)

pub digits_all : (ds : List ℕ) → list_all is_ascii_digit ds ≡ true → all_ascii_digits ds ≡ true
digits_all [] all = refl
digits_all (d ∷ ds) all =
    rw (and_left (is_ascii_digit d) (list_all is_ascii_digit ds) all) (digits_all ds (and_right (is_ascii_digit d) (list_all is_ascii_digit ds) all))

pub all_digits : (ds : List ℕ) → all_ascii_digits ds ≡ true → list_all is_ascii_digit ds ≡ true
all_digits [] all = refl
all_digits (d ∷ ds) all =
    rw (and_left (is_ascii_digit d) (all_ascii_digits ds) all) (all_digits ds (and_right (is_ascii_digit d) (all_ascii_digits ds) all))

pub no_leading_zero : (ds : List ℕ) → has_leading_zero ds ≡ false → slice_index ds 0 ≡ 48 → length ds ≡ 1
no_leading_zero [] none first = cc
no_leading_zero (d ∷ []) none first = refl
no_leading_zero (d ∷ e ∷ ds) none first = grind (arith, none, first)
