-- Pieces of a text: where a piece ends is told by its characters.
use Rattle.std.proofs.Common.{◌≡◌, ℕ, ◌≤◌, ◌<◌, ◌^◌, List, [], ◌∷◌, ◌++◌, refl, sym, subst, length, arith, append_assoc, ◌∙◌, ap₂}
use Rattle.std.specs.Fmt.{decimal}
use Rattle.std.specs.Str.Parse.{AllDigits}
use Rattle.std.proofs.lemmas.Fmt.{decimal_is_IsNumeral, decimal_injective}
use Rattle.std.proofs.lemmas.Str.Parse.{digit_from_value}
use Rattle.std.specs.Str.{encode_utf8_all}
use Rattle.std.proofs.lemmas.Str.{encode_ascii}

-- each character is as P says
abbrev pub Each : (ℕ → Type 0) → List ℕ → Type 0
Each P [] = Unit {0}
Each P (c ∷ cs) = P c × Each P cs

-- nothing, or a first character as Q says
abbrev pub Begins : (ℕ → Type 0) → List ℕ → Type 0
Begins Q [] = Unit {0}
Begins Q (c ∷ cs) = Q c

-- a text of ASCII is its bytes
pub plain_bytes : (x : List ℕ) → Each (λ c. c < 128) x → encode_utf8_all x ≡ x
plain_bytes [] h = refl
plain_bytes (c ∷ x) h = ap₂ (λ a b. a ++ b) (encode_ascii c h.0) (plain_bytes x h.1)

pub head_same : (c d : ℕ) (cs ds : List ℕ) → (c ∷ cs) ≡ (d ∷ ds) → c ≡ d
head_same c d cs ds e = cc

pub tail_same : (c d : ℕ) (cs ds : List ℕ) → (c ∷ cs) ≡ (d ∷ ds) → cs ≡ ds
tail_same c d cs ds e = cc

pub nil_cons : (d : ℕ) (ds : List ℕ) → [] ≡ (d ∷ ds) → ⊥
nil_cons d ds e = cc

-- two pieces of characters as P says, each before what does not begin so
pub front_same : (P Q : ℕ → Type 0) → ((c : ℕ) → P c → Q c → ⊥) → (xs ys r s : List ℕ) → Each P xs → Each P ys → Begins Q r → Begins Q s
    → xs ++ r ≡ ys ++ s → (xs ≡ ys) × (r ≡ s)
front_same P Q apart [] [] r s a b t u e = (refl, e)
front_same P Q apart [] (y ∷ ys) [] s a b t u e = absurd (nil_cons y (ys ++ s) e)
front_same P Q apart [] (y ∷ ys) (c ∷ r) s a b t u e = absurd (apart y b.0 (subst Q (head_same c y r (ys ++ s) e) t))
front_same P Q apart (x ∷ xs) [] r [] a b t u e = absurd (nil_cons x (xs ++ r) (sym e))
front_same P Q apart (x ∷ xs) [] r (c ∷ s) a b t u e = absurd (apart x a.0 (subst Q (sym (head_same x c (xs ++ r) s e)) u))
front_same P Q apart (x ∷ xs) (y ∷ ys) r s a b t u e =
    let h : x ≡ y = head_same x y (xs ++ r) (ys ++ s) e in
    let i : (xs ≡ ys) × (r ≡ s) = front_same P Q apart xs ys r s a.1 b.1 t u (tail_same x y (xs ++ r) (ys ++ s) e) in
    (cons_same x y xs ys h i.0, i.1)
  where
    cons_same : (x y : ℕ) (xs ys : List ℕ) → x ≡ y → xs ≡ ys → (x ∷ xs) ≡ (y ∷ ys)
    cons_same x y xs ys e f = cc

-- a decimal digit
abbrev pub IsDigit : ℕ → Type 0
IsDigit c = (48 ≤ c) × (c ≤ 57)

-- no decimal digit
abbrev pub IsNoDigit : ℕ → Type 0
IsNoDigit c = 48 ≤ c → c ≤ 57 → ⊥

digits_from : (ds : List ℕ) → AllDigits 10 ds → Each IsDigit ds
digits_from [] h = tt
digits_from (c ∷ cs) h = (digit_from_value c h.0, digits_from cs h.1)

pub decimal_digits : (n : ℕ) → n < 2 ^ 64 → Each IsDigit (decimal n)
decimal_digits n h = digits_from (decimal n) (decimal_is_IsNumeral n h).0.1

-- two numbers, each before what does not begin with a digit
pub decimal_same : (m n : ℕ) (r s : List ℕ) → m < 2 ^ 64 → n < 2 ^ 64 → Begins IsNoDigit r → Begins IsNoDigit s → decimal m ++ r ≡ decimal n ++ s → (m ≡ n) × (r ≡ s)
decimal_same m n r s a b t u e =
    let p : (decimal m ≡ decimal n) × (r ≡ s) = front_same IsDigit IsNoDigit (λ c d f. f d.0 d.1) (decimal m) (decimal n) r s (decimal_digits m a) (decimal_digits n b) t u e in
    (decimal_injective m n a b p.0, p.1)

-- a number does not begin with what is no digit
pub decimal_begins : (n : ℕ) (r : List ℕ) (c : ℕ) (s : List ℕ) → n < 2 ^ 64 → IsNoDigit c → decimal n ++ r ≡ c ∷ s → ⊥
decimal_begins n r c s h f e = go (decimal n) (decimal_digits n h) (decimal_is_IsNumeral n h).0.0 e
  where
    go : (ds : List ℕ) → Each IsDigit ds → 0 < length ds → ds ++ r ≡ c ∷ s → ⊥
    go [] d l e = omega (arith, l)
    go (x ∷ ds) d l e = f (omega (arith, d.0.0, head_same x c (ds ++ r) s e)) (omega (arith, d.0.1, head_same x c (ds ++ r) s e))

-- a text in parentheses after another, before what follows
pub wrapped : (xs ys r : List ℕ) (c d : ℕ) → (((xs ++ (c ∷ [])) ++ ys) ++ (d ∷ [])) ++ r ≡ xs ++ (c ∷ (ys ++ (d ∷ r)))
wrapped xs ys r c d = append_assoc ((xs ++ (c ∷ [])) ++ ys) (d ∷ []) r ∙ append_assoc (xs ++ (c ∷ [])) ys (d ∷ r) ∙ append_assoc xs (c ∷ []) (ys ++ (d ∷ r))

-- two texts with different first characters
pub heads_apart : {A : Type 0} {c d : ℕ} {cs ds : List ℕ} → (c ≡ d → ⊥) → (c ∷ cs) ≡ (d ∷ ds) → A
heads_apart {A} {c} {d} {cs} {ds} h e = absurd (h (head_same c d cs ds e))

-- what follows the first characters
pub after_first : {c d : ℕ} {cs ds : List ℕ} → (c ∷ cs) ≡ (d ∷ ds) → cs ≡ ds
after_first {c} {d} {cs} {ds} e = tail_same c d cs ds e
