-- Numbers: what is read is the decimal text.
use Rattle.std.proofs.Common.{◌≡◌, ◌∙◌, sym, ap, refl, subst, ℕ, suc, ◌+◌, ◌-◌, ◌*◌, ◌^◌, ◌≤◌, ◌<◌, List, [], ◌∷◌, ◌++◌, length, take, drop, Option, Some, None, Ok, Bool, true, false, ◌||◌, nat_le, if◌then◌else◌, get_or, zero, arith}
use Rattle.std.specs.Fmt.{decimal}
use Rattle.std.specs.List.{list_all}
use Rattle.std.specs.Char.{is_ascii_digit}
use Rattle.std.specs.Str.{all_ascii_digits}
use Rattle.std.proofs.Math.Seq.{take-append_seam, drop-append_seam}
use Rattle.std.proofs.lemmas.List.{take-append-drop, drop_more, drop_all}
use Rattle.std.proofs.lemmas.Option.{same_Some}
use Rattle.std.proofs.lemmas.Fmt.{decimal-digits_value, digits_decimal, digits_value-decimal, decimal_digit, decimal_nonempty, first_decimal}
use Rattle.ft_items.specs.Texts.{NumberFits}
use Rattle.ft_common.specs.Digits.{run, decimal_value, has_leading_zero}
use Rattle.ft_common.proofs.Booleans.{or_left, or_right}
use Rattle.ft_common.proofs.Choices.{if_both}
use Rattle.ft_common.proofs.Digits.{all_digits, decimal_value-is_numeral, decimal_value-le, digits_all, list_all-take-run, no_leading_zero}
use Rattle.ft_common.proofs.Results.{ok_ok}
use Rattle.ft_lines.specs.Reading.{spelled, number_then, number, sees_digit}
use Rattle.ft_lines.proofs.Runs.{run_past}

-- a number that is too great stays so with more digits
pub stays_great : (first value : ℕ) (rest ds : List ℕ) → decimal_value first rest ≡ decimal_value value ds → 2 ^ 64 ≤ value
    → nat_le (2 ^ 64) (decimal_value first rest) ≡ true
stays_great first value rest ds e great = grind (arith, decimal_value-le value ds, e, great)

pub value_none : (value i : ℕ) (digits : List ℕ) → i < length digits → decimal_value 0 digits ≡ decimal_value value (drop i digits)
    → None ≡ (if nat_le (2 ^ 64) (10 * value + (get_or digits i 0 - 48)) then None else Some (10 * value + (get_or digits i 0 - 48)))
    → None ≡ (if nat_le (2 ^ 64) (decimal_value 0 digits) then None else Some (decimal_value 0 digits))
value_none value i digits within e longer =
    let next = 10 * value + (get_or digits i 0 - 48) in
    let great : nat_le (2 ^ 64) next ≡ true = no_longer (nat_le (2 ^ 64) next) next longer in
    let whole : decimal_value 0 digits ≡ decimal_value next (drop (i + 1) digits) = e ∙ ap (decimal_value value) (drop_more digits i 0 within) in
    rw (stays_great 0 next digits (drop (i + 1) digits) whole (grind (arith, great))) refl
  where
    no_longer : (great : Bool) (n : ℕ) → None ≡ (if great then None else Some n) → great ≡ true
    no_longer true n h = refl
    no_longer false n h = cc

pub value_some : (value i : ℕ) (digits : List ℕ) → length digits ≤ i → decimal_value 0 digits ≡ decimal_value value (drop i digits) → value < 2 ^ 64
    → Some value ≡ (if nat_le (2 ^ 64) (decimal_value 0 digits) then None else Some (decimal_value 0 digits))
value_some value i digits done e small =
    let whole : decimal_value 0 digits ≡ value = e ∙ ap (decimal_value value) (drop_all i digits done) in
    let fits : nat_le (2 ^ 64) value ≡ false = grind (arith, small) in
    rw (whole, fits) refl

-- ---- what is read is the text
spelled_is : (ds : List ℕ) (n : ℕ) → all_ascii_digits ds ≡ true → spelled ds ≡ Some n → (ds ≡ decimal n) × NumberFits n
spelled_is [] n all h = cc
spelled_is (d ∷ ds) n all h =
    let digits = d ∷ ds in
    if_both (λ o. o ≡ Some n → (digits ≡ decimal n) × NumberFits n) (has_leading_zero digits || nat_le (2 ^ 64) (decimal_value 0 digits)) None (Some (decimal_value 0 digits))
    (λ e g. cc)
    (λ e g.
    let value : decimal_value 0 digits ≡ n = same_Some (decimal_value 0 digits) n g in
    let fits : decimal_value 0 digits < 2 ^ 64 = grind (arith, or_right (has_leading_zero digits) (nat_le (2 ^ 64) (decimal_value 0 digits)) e) in
    let text : decimal (decimal_value 0 digits) ≡ digits =
    decimal-digits_value decimal_value-is_numeral digits all (omega arith) (no_leading_zero digits (or_left (has_leading_zero digits) (nat_le (2 ^ 64) (decimal_value 0 digits)) e)) fits in
    (sym text ∙ ap decimal value, subst NumberFits value fits)) h

then_is : (o : Option ℕ) (cs rest : List ℕ) (n : ℕ) → number_then o cs ≡ Ok (n, rest) → (o ≡ Some n) × (cs ≡ rest)
then_is None cs rest n h = cc
then_is (Some m) cs rest n h = (ap Some (ap (λ p. p.0) (ok_ok (m, cs) (n, rest) h)), ap (λ p. p.1) (ok_ok (m, cs) (n, rest) h))

pub number_is : (n : ℕ) (cs rest : List ℕ) → number cs ≡ Ok (n, rest) → (cs ≡ decimal n ++ rest) × NumberFits n
unfolding number
number_is n cs rest h =
    let k = run is_ascii_digit cs in
    let t : (spelled (take k cs) ≡ Some n) × (drop k cs ≡ rest) = then_is (spelled (take k cs)) (drop k cs) rest n h in
    let s : (take k cs ≡ decimal n) × NumberFits n = spelled_is (take k cs) n (digits_all (take k cs) (list_all-take-run is_ascii_digit cs)) t.0 in
    (sym (take-append-drop k cs) ∙ ap (λ x. x ++ drop k cs) s.0 ∙ ap (λ x. decimal n ++ x) t.1, s.1)

-- ---- a number's text is read
digits_stop : (rest : List ℕ) → sees_digit rest ≡ false → run is_ascii_digit rest ≡ 0
digits_stop [] h = refl
digits_stop (c ∷ rest) h = rw h refl

unpadded : (ds : List ℕ) → 48 < get_or ds 0 0 → has_leading_zero ds ≡ false
unpadded [] h = refl
unpadded (d ∷ []) h = refl
unpadded (d ∷ e ∷ ds) h = grind (arith, h)

decimal_unpadded : (n : ℕ) → NumberFits n → has_leading_zero (decimal n) ≡ false
decimal_unpadded zero h = ap has_leading_zero (decimal_digit 0 (omega arith))
decimal_unpadded (suc n) h = unpadded (decimal (suc n)) (first_decimal (suc n) (omega arith) h)

spelled_digits : (ds : List ℕ) (n : ℕ) → 0 < length ds → has_leading_zero ds ≡ false → decimal_value 0 ds ≡ n → NumberFits n → spelled ds ≡ Some n
spelled_digits [] n some plain value fits = absurd (omega (arith, some))
spelled_digits (d ∷ ds) n some plain value fits =
    let small : nat_le (2 ^ 64) n ≡ false = grind (arith, fits) in
    rw (plain, value, small) refl

pub number_read : (n : ℕ) (rest : List ℕ) → NumberFits n → sees_digit rest ≡ false → number (decimal n ++ rest) ≡ Ok (n, rest)
unfolding number
number_read n rest fits stops =
    let ds = decimal n in
    let k : run is_ascii_digit (ds ++ rest) ≡ length ds = run_past is_ascii_digit ds rest (all_digits ds (digits_decimal decimal_value-is_numeral n fits)) (digits_stop rest stops) in
    let s : spelled ds ≡ Some n = spelled_digits ds n (decimal_nonempty n fits) (decimal_unpadded n fits) (digits_value-decimal decimal_value-is_numeral n fits) fits in
    ap (λ j. number_then (spelled (take j (ds ++ rest))) (drop j (ds ++ rest))) k
    ∙ ap (λ x. number_then (spelled x) (drop (length ds) (ds ++ rest))) (take-append_seam ds rest)
    ∙ ap (λ o. number_then o (drop (length ds) (ds ++ rest))) s
    ∙ ap (λ x. Ok (n, x)) (drop-append_seam ds rest)

pub decimal_all : (n : ℕ) → NumberFits n → list_all is_ascii_digit (decimal n) ≡ true
decimal_all n fits = all_digits (decimal n) (digits_decimal decimal_value-is_numeral n fits)
