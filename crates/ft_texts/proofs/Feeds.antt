-- The line of an item has no line feed, neither as characters nor as bytes.
use Rattle.std.proofs.Common.{◌≡◌, ◌≢◌, ℕ, suc, ◌≤◌, ◌<◌, Bool, true, false, List, [], ◌∷◌, ◌⊎◌, inl, inr, refl, sym, ap, ◌∙◌, length, arith}
use Rattle.std.specs.Prelude.{nat_eq, get_or}
use Rattle.std.specs.Str.{encode_utf8_all, NonePass}
use Rattle.std.proofs.lemmas.Str.{NoCharPasses-byte}
use Rattle.std.proofs.lemmas.Bool.Decides.{eqb_tells}
use Rattle.ft_common.proofs.Booleans.{false_true}
use Rattle.ft_items.specs.Item.{Name, Item}
use Rattle.ft_items.specs.Texts.{line_text, ItemFits}
use Rattle.ft_texts.specs.Laws.{Visible}
use Rattle.ft_texts.proofs.Pieces.{Each}
use Rattle.ft_texts.proofs.Characters.{line_each}

-- the space and all characters after it
abbrev pub IsPrinted : ℕ → Type 0
IsPrinted c = 32 ≤ c

printed_visible : (x : List ℕ) → Visible x → Each IsPrinted x
printed_visible [] h = tt
printed_visible (c ∷ x) h = (omega (arith, h.0), printed_visible x h.1)

printed_line : (is_name : Name → Bool) → ((n : Name) → is_name n ≡ true → Visible n) → (i : Item) → ItemFits is_name i → Each IsPrinted (line_text i)
printed_line N shows i h = line_each IsPrinted (λ c a b. a) N (λ n e. printed_visible n (shows n e)) i h

-- no line feed
abbrev pub IsNoFeed : ℕ → Type 0
IsNoFeed b = b ≢ 10

-- the test for a line feed fails on each printed character
none_feeds : (x : List ℕ) → Each IsPrinted x → NonePass (λ c. nat_eq c 10) x
none_feeds [] h = tt
none_feeds (c ∷ x) h = (go (eqb_tells c 10), none_feeds x h.1)
  where
    go : ((nat_eq c 10 ≡ true) × (c ≡ 10)) ⊎ ((nat_eq c 10 ≡ false) × (c ≢ 10)) → nat_eq c 10 ≡ false
    go (inl k) = absurd (omega (arith, k.1, h.0))
    go (inr k) = k.0

each_at : (P : ℕ → Type 0) (xs : List ℕ) → ((i : ℕ) → i < length xs → P (get_or xs i 0)) → Each P xs
each_at P [] h = tt
each_at P (x ∷ xs) h = (h 0 (omega arith), each_at P xs (λ i l. h (suc i) (omega (arith, l))))

-- the bytes of printed characters have no line feed
no_feed_bytes : (x : List ℕ) → Each IsPrinted x → Each IsNoFeed (encode_utf8_all x)
no_feed_bytes x h = each_at IsNoFeed (encode_utf8_all x) (λ i l e. false_true (sym (NoCharPasses-byte (λ c. nat_eq c 10) (encode_utf8_all x) i (x, refl, none_feeds x h) l (omega (arith, e))) ∙ ap (λ z. nat_eq z 10) e))

pub line_has_no_feed : (is_name : Name → Bool) → ((n : Name) → is_name n ≡ true → Visible n) → (i : Item) → ItemFits is_name i → Each IsNoFeed (encode_utf8_all (line_text i))
line_has_no_feed N shows i h = no_feed_bytes (line_text i) (printed_line N shows i h)
