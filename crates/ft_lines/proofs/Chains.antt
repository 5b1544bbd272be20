-- Readers one after another, and choices by tests.
use Rattle.std.proofs.Common.{◌≡◌, ◌∙◌, sym, ap, refl, ℕ, ◌≤◌, ◌<◌, List, [], ◌∷◌, ◌++◌, length, drop, Ok, Err, Bool, true, false, if◌then◌else◌, append_assoc, arith}
use lib.ListN.{length-append}
use Rattle.std.specs.Prelude.{◌==◌}
use Rattle.std.specs.Fmt.{decimal}
use Rattle.std.specs.List.{list_all}
use Rattle.std.specs.Char.{is_ascii_digit}
use Rattle.std.proofs.lemmas.Bool.{eqb-true}
use Rattle.std.proofs.lemmas.Fmt.{decimal_nonempty}
use Rattle.ft_items.specs.Texts.{NumberFits}
use Rattle.ft_common.proofs.Booleans.{and_left, false_true}
use Rattle.ft_common.proofs.Choices.{by_test, taken, not_taken}
use Rattle.ft_common.proofs.Results.{err_ok, ok_ok}
use Rattle.ft_texts.proofs.Expressions.{further}
use Rattle.ft_lines.specs.declared.fault.Fault.TheVariants.{Form}
use Rattle.ft_lines.specs.Reading.{Outcome, Reader, and_then, sees, expect, number}
use Rattle.ft_lines.proofs.Numbers.{number_is, decimal_all}

-- what was read by two readers in turn was read by the first, and then by the second
pub in_turn : {A B : Type 0} (o : Outcome A) (f : A → Reader B) (b : B) (cs : List ℕ) → and_then o f ≡ Ok (b, cs)
    → (p : A × List ℕ) × (o ≡ Ok p) × (f p.0 p.1 ≡ Ok (b, cs))
in_turn (Ok p) f b cs h = (p, refl, h)
in_turn (Err e) f b cs h = absurd (err_ok e (b, cs) h)

-- one more, by what is read first
pub after : {A B : Type 0} (o : Outcome A) (a : A) (rest : List ℕ) (f : A → Reader B) → o ≡ Ok (a, rest) → and_then o f ≡ f a rest
after o a rest f h = ap (λ o. and_then o f) h

-- a choice by a test, of a reader and what it reads
pub taken_both : {A : Type 0} {r : Outcome A} (x y : Reader A) (u v : List ℕ) (b : Bool) → b ≡ true → (if b then x else y) (if b then u else v) ≡ r → x u ≡ r
taken_both x y u v true e h = h
taken_both x y u v false e h = absurd (false_true e)

pub not_taken_both : {A : Type 0} {r : Outcome A} (x y : Reader A) (u v : List ℕ) (b : Bool) → b ≡ false → (if b then x else y) (if b then u else v) ≡ r → y v ≡ r
not_taken_both x y u v true e h = absurd (false_true (sym e))
not_taken_both x y u v false e h = h

pub taken_reader : {A : Type 0} {r : Outcome A} (x y : Reader A) (u : List ℕ) (b : Bool) → b ≡ true → (if b then x else y) u ≡ r → x u ≡ r
taken_reader x y u true e h = h
taken_reader x y u false e h = absurd (false_true e)

pub not_taken_reader : {A : Type 0} {r : Outcome A} (x y : Reader A) (u : List ℕ) (b : Bool) → b ≡ false → (if b then x else y) u ≡ r → y u ≡ r
not_taken_reader x y u true e h = absurd (false_true (sym e))
not_taken_reader x y u false e h = h

-- the character that is next
pub sees_is : (c : ℕ) (cs : List ℕ) → sees c cs ≡ true → cs ≡ c ∷ drop 1 cs
unfolding sees
sees_is c [] h = absurd (false_true h)
sees_is c (d ∷ ds) h = ap (λ x. x ∷ ds) (eqb-true d c h)

pub expected : (c : ℕ) (cs rest : List ℕ) → expect c cs ≡ Ok (tt, rest) → cs ≡ c ∷ rest
unfolding expect
expected c cs rest h =
    let yes : Outcome (Unit {0}) = Ok (tt, drop 1 cs) in
    let no : Outcome (Unit {0}) = Err Form in
    by_test (sees c cs)
    (λ y. sees_is c cs y ∙ ap (λ us. c ∷ us) (ap (λ p. p.1) (ok_ok (tt, drop 1 cs) (tt, rest) (taken yes no (sees c cs) y h))))
    (λ n. absurd (err_ok Form (tt, rest) (not_taken yes no (sees c cs) n h)))

pub expect_next : (c : ℕ) (rest : List ℕ) → c == c ≡ true → expect c (c ∷ rest) ≡ Ok (tt, rest)
unfolding expect sees
expect_next c rest same = rw same refl

-- a number, and what is made of it
pub numbered : {A : Type 0} (mk : ℕ → A) (cs rest : List ℕ) (a : A) → and_then (number cs) (λ n ds. Ok (mk n, ds)) ≡ Ok (a, rest)
    → (n : ℕ) × (mk n ≡ a) × (cs ≡ decimal n ++ rest) × NumberFits n
numbered mk cs rest a h =
    let p = in_turn (number cs) (λ n ds. Ok (mk n, ds)) a rest h in
    let e = ok_ok (mk p.0.0, p.0.1) (a, rest) p.2 in
    let n = number_is p.0.0 cs p.0.1 p.1 in
    (p.0.0, ap (λ x. x.0) e, n.0 ∙ ap (λ x. decimal p.0.0 ++ x.1) e, n.1)

-- a number begins with a digit
pub sees_none : (c : ℕ) (n : ℕ) (rest : List ℕ) → NumberFits n → is_ascii_digit c ≡ false → sees c (decimal n ++ rest) ≡ false
unfolding sees
sees_none c n rest fits other = go (decimal n) (decimal_all n fits) (decimal_nonempty n fits)
  where
    go : (ds : List ℕ) → list_all is_ascii_digit ds ≡ true → 0 < length ds → sees c (ds ++ rest) ≡ false
    go [] all some = absurd (omega (arith, some))
    go (d ∷ ds) all some = by_test (d == c)
        (λ y. absurd (false_true (sym other ∙ ap is_ascii_digit (sym (eqb-true d c y)) ∙ and_left (is_ascii_digit d) (list_all is_ascii_digit ds) all)))
        (λ n. n)

-- texts, each after a comma
pub further_length : (xs : List (List ℕ)) (rest : List ℕ) → length xs ≤ length (further xs ++ rest)
further_length [] rest = omega arith
further_length (x ∷ xs) rest =
    let l = further_length xs rest in
    let e : (x ++ further xs) ++ rest ≡ x ++ (further xs ++ rest) = append_assoc x (further xs) rest in
    let m = length-append x (further xs ++ rest) in
    let k : length ((x ++ further xs) ++ rest) ≡ length (x ++ (further xs ++ rest)) = ap length e in
    omega (arith, l, m, k)
