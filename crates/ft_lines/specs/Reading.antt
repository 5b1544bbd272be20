-- Readers: functions from the characters that are left to what is read and the characters behind it. All that is read is plain
-- ASCII but for names, so that a character is a byte.
use Rattle.std.specs.Prelude.{ℕ, ◌^◌, ◌≡◌, ◌≢◌, ◌==◌, ◌||◌, nat_le, Bool, false, if◌then◌else◌, List, [], ◌∷◌, take, drop, Result, Ok, Err, Option, Some, None}
use Rattle.std.specs.Char.{is_ascii_digit}
use Rattle.ft_common.specs.Digits.{run, decimal_value, has_leading_zero}
use Rattle.ft_lines.specs.declared.fault.Fault.{Fault}
use Rattle.ft_lines.specs.declared.fault.Fault.TheVariants.{Form, Memory}

-- what is read, with the characters that are left
abbrev pub Outcome : Type 0 → Type 0
Outcome A = Result (A × List ℕ) Fault

abbrev pub Reader : Type 0 → Type 0
Reader A = List ℕ → Outcome A

abbrev pub and_then : {A B : Type 0} → Outcome A → (A → Reader B) → Outcome B
and_then (Ok p) f = f p.0 p.1
and_then (Err e) f = Err e

infixl 10 ◌>>=◌
abbrev pub ◌>>=◌ : {A B : Type 0} → Reader A → (A → Reader B) → Reader B
p >>= f = λ cs. and_then (p cs) f

infixl 10 ◌>>◌
abbrev pub ◌>>◌ : {A B : Type 0} → Reader A → Reader B → Reader B
p >> q = p >>= (λ _. q)

abbrev pub pure : {A : Type 0} → A → Reader A
pure a = λ cs. Ok (a, cs)

-- nothing of the form stands here
abbrev pub refuse : {A : Type 0} → Reader A
refuse = λ cs. Err Form

-- what a function that reads ensures
abbrev pub Reads : {A : Type 0} → Outcome A → Result A Fault → List ℕ → Type 0
Reads outcome (Ok a) new = outcome ≡ Ok (a, new)
Reads outcome (Err e) new = e ≢ Memory → outcome ≡ Err e

-- what it ensures where what is read stands for a value, and has P
abbrev pub ReadsAs : {A B : Type 0} → (A → Type 0) → (A → B) → Outcome B → Result A Fault → List ℕ → Type 0
ReadsAs P value outcome (Ok a) new = P a × (outcome ≡ Ok (value a, new))
ReadsAs P value outcome (Err e) new = e ≢ Memory → outcome ≡ Err e

-- whether the next character is this one
unfoldable pub sees : ℕ → List ℕ → Bool
sees c [] = false
sees c (d ∷ ds) = d == c

-- goes past one character
abbrev pub skip : Reader (Unit {0})
skip = λ cs. Ok (tt, drop 1 cs)

-- this character
unfoldable pub expect : ℕ → Reader (Unit {0})
expect c = λ cs. if sees c cs then Ok (tt, drop 1 cs) else refuse cs

-- goes past this character where it is next, and tells whether it was
abbrev pub passes : ℕ → Reader Bool
passes c = λ cs. Ok (sees c cs, if sees c cs then drop 1 cs else cs)

-- the number that a run of digits spells: one digit or more without a leading zero, below 2 ^ 64
abbrev pub spelled : List ℕ → Option ℕ
spelled [] = None
spelled (d ∷ ds) =
    if has_leading_zero (d ∷ ds) || nat_le (2 ^ 64) (decimal_value 0 (d ∷ ds)) then None else Some (decimal_value 0 (d ∷ ds))

abbrev pub number_then : Option ℕ → List ℕ → Outcome ℕ
number_then (Some n) cs = Ok (n, cs)
number_then None cs = Err Form

-- a number: as many digits as there are
unfoldable pub number : Reader ℕ
number cs = number_then (spelled (take (run is_ascii_digit cs) cs)) (drop (run is_ascii_digit cs) cs)

-- whether a digit is next
abbrev pub sees_digit : List ℕ → Bool
sees_digit [] = false
sees_digit (c ∷ cs) = is_ascii_digit c
