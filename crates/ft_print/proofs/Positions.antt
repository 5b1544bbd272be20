-- Lines and columns, byte by byte.
use Rattle.std.proofs.Common.{◌≡◌, ◌∙◌, sym, ap, ap₂, refl, ℕ, suc, ◌+◌, ◌<◌, nat_eq, Bool, true, false, cond, not, List, [], ◌∷◌, length, take, reverse, get_or, arith}
use Rattle.std.specs.Prelude.{count_by}
use Rattle.std.specs.List.{take_while}
use Rattle.std.proofs.lemmas.List.{take_more, reverse-append}
use Rattle.std.proofs.lemmas.List.Sums.{take_while-cons, sum_by-append, count_by_more_yes, count_by_more_no}
use Rattle.std.proofs.lemmas.Bool.{eq-eqb, ne_eqb}
use Rattle.ft_meaning.specs.Lines.{begins_character}

-- the characters that begin on the last line of a text
abbrev pub on_last_line : List ℕ → ℕ
on_last_line s = count_by begins_character (take_while (λ b. not (nat_eq b 10)) (reverse s))

last_first : (s : List ℕ) (i b : ℕ) → i < length s → b ≡ get_or s i 0 → reverse (take (i + 1) s) ≡ b ∷ reverse (take i s)
last_first s i b l e = ap reverse (take_more s i 0 l) ∙ reverse-append (take i s) (get_or s i 0 ∷ []) ∙ ap (λ c. c ∷ reverse (take i s)) (sym e)

one_more : (n : ℕ) → 1 + n ≡ suc n
one_more n = omega arith

none_more : (n : ℕ) → 0 + n ≡ n
none_more n = omega arith

-- what one more byte in front adds
abbrev with_byte : Bool → Bool → ℕ → ℕ
with_byte goes begins n = cond goes (cond begins 1 0 + n) 0

counted_cons : (p q : ℕ → Bool) (b : ℕ) (s : List ℕ) → count_by q (take_while p (b ∷ s)) ≡ with_byte (p b) (q b) (count_by q (take_while p s))
counted_cons p q b s = ap (count_by q) (take_while-cons p b s) ∙ go (p b)
  where
    go : (x : Bool) → count_by q (cond x (b ∷ take_while p s) []) ≡ with_byte x (q b) (count_by q (take_while p s))
    go true = sum_by-append (λ x. cond (q x) 1 0) (b ∷ []) (take_while p s) ∙ ap (λ n. n + count_by q (take_while p s)) (none_more (cond (q b) 1 0))
    go false = refl

on_next : (s : List ℕ) (i b : ℕ) → i < length s → b ≡ get_or s i 0 → on_last_line (take (i + 1) s) ≡ with_byte (not (nat_eq b 10)) (begins_character b) (on_last_line (take i s))
on_next s i b l e = ap (λ r. count_by begins_character (take_while (λ b. not (nat_eq b 10)) r)) (last_first s i b l e) ∙ counted_cons (λ b. not (nat_eq b 10)) begins_character b (reverse (take i s))

pub line_feed : (s : List ℕ) (i b : ℕ) → i < length s → b ≡ get_or s i 0 → b ≡ 10 → on_last_line (take (i + 1) s) ≡ 0
line_feed s i b l e h = on_next s i b l e ∙ ap (λ x. with_byte (not x) (begins_character b) (on_last_line (take i s))) (eq-eqb b 10 h)

pub character : (s : List ℕ) (i b : ℕ) → i < length s → b ≡ get_or s i 0 → (b ≡ 10 → ⊥) → begins_character b ≡ true → on_last_line (take (i + 1) s) ≡ suc (on_last_line (take i s))
character s i b l e h c = on_next s i b l e ∙ ap₂ (λ x y. with_byte (not x) y (on_last_line (take i s))) (ne_eqb b 10 h) c ∙ one_more (on_last_line (take i s))

pub no_character : (s : List ℕ) (i b : ℕ) → i < length s → b ≡ get_or s i 0 → (b ≡ 10 → ⊥) → begins_character b ≡ false → on_last_line (take (i + 1) s) ≡ on_last_line (take i s)
no_character s i b l e h c = on_next s i b l e ∙ ap₂ (λ x y. with_byte (not x) y (on_last_line (take i s))) (ne_eqb b 10 h) c ∙ none_more (on_last_line (take i s))

-- the line feeds in a text
abbrev pub line_feeds : List ℕ → ℕ
line_feeds s = count_by (λ b. nat_eq b 10) s

pub one_line_more : (s : List ℕ) (i b : ℕ) → i < length s → b ≡ get_or s i 0 → b ≡ 10 → line_feeds (take (i + 1) s) ≡ line_feeds (take i s) + 1
one_line_more s i b l e h = count_by_more_yes (λ b. nat_eq b 10) s i 0 l (ap (λ c. nat_eq c 10) (sym e) ∙ eq-eqb b 10 h)

pub no_line_more : (s : List ℕ) (i b : ℕ) → i < length s → b ≡ get_or s i 0 → (b ≡ 10 → ⊥) → line_feeds (take (i + 1) s) ≡ line_feeds (take i s)
no_line_more s i b l e h = count_by_more_no (λ b. nat_eq b 10) s i 0 l (ap (λ c. nat_eq c 10) (sym e) ∙ ne_eqb b 10 h)
