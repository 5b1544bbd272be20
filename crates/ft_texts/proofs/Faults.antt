-- A file has at most one fault, and a text has none.
use Rattle.std.proofs.Common.{◌≡◌, ◌≢◌, ℕ, suc, Bool, true, false, List, [], ◌∷◌, ◌⊎◌, inl, inr, refl, sym, ap, ap₂, ◌∙◌, subst, append-nil, arith}
use Rattle.std.specs.Prelude.{codes, nat_eq}
use Rattle.std.specs.Fmt.{decimal, digits}
use Rattle.std.specs.Str.{encode_utf8_all}
use Rattle.std.proofs.lemmas.Fmt.{decimal_injective}
use Rattle.std.proofs.lemmas.Str.{encodes_same}
use Rattle.std.proofs.lemmas.Bool.Decides.{eqb_tells}
use Rattle.std.proofs.lemmas.List.{append_cancel_left}
use Rattle.ft_items.specs.Item.{Name, Item}
use Rattle.ft_items.specs.Texts.{ItemsFit, line_text, lines_text, text_of, IsTextOf}
use Rattle.ft_items.specs.Lines.{lines_in, first_line, last_line, AreLinesAfterFirst, AreLinesOf}
use Rattle.ft_items.specs.Faults.{IsItemLine, IsOtherVersion, FaultFrom, FormFault, VersionFault, Fault, Form, Version, HasFault}
use Rattle.ft_texts.specs.Laws.{Visible, AtMostOneFault, TextHasNoFault, Decided, TextOrFault}
use Rattle.ft_texts.proofs.Pieces.{head_same, tail_same, nil_cons}
use Rattle.ft_texts.proofs.Lines.{no_end}
use Rattle.ft_texts.proofs.ByLines.{last_encoded, lines_some, end_lines, item_lines, text_lines, text_by_lines}

one_decimal : decimal 1 ≡ codes "1"
unfolding digits
one_decimal = refl

-- no item's line is `end`
item_no_end : {A : Type 0} (N : Name → Bool) (l : List ℕ) → IsItemLine N l → l ≡ last_line → A
item_no_end N l i e = no_end i.0 [] (110 ∷ 100 ∷ []) (encodes_same (codes "end") (line_text i.0) (last_encoded ∙ sym e ∙ i.1.1) ∙ sym (append-nil (line_text i.0)))

-- version 1 is no other version
no_other : {A : Type 0} (l : List ℕ) → l ≡ first_line → IsOtherVersion l → A
no_other l e o = absurd (o.2 (decimal_injective o.0 1 o.1 (omega arith) (append_cancel_left (codes "andromeda derivation ") (decimal o.0) (codes "1") (sym o.3 ∙ e) ∙ sym one_decimal)))

from_unique : (N : Name → Bool) (k : ℕ) (ls : List (List ℕ)) (n m : ℕ) → FaultFrom N k ls n → FaultFrom N k ls m → n ≡ m
from_unique N k [] n m a b = a ∙ sym b
from_unique N k (l ∷ []) n m a b = a ∙ sym b
from_unique N k (l ∷ j ∷ ls) n m (inl a) (inl b) = from_unique N (suc k) (j ∷ ls) n m a.1 b.1
from_unique N k (l ∷ j ∷ ls) n m (inl a) (inr (inl b)) = item_no_end N l a.0 b.0
from_unique N k (l ∷ j ∷ ls) n m (inl a) (inr (inr b)) = absurd (b.0 a.0)
from_unique N k (l ∷ j ∷ ls) n m (inr (inl a)) (inl b) = item_no_end N l b.0 a.0
from_unique N k (l ∷ j ∷ ls) n m (inr (inl a)) (inr (inl b)) = a.2 ∙ sym b.2
from_unique N k (l ∷ j ∷ ls) n m (inr (inl a)) (inr (inr b)) = absurd (b.1 a.0)
from_unique N k (l ∷ j ∷ ls) n m (inr (inr a)) (inl b) = absurd (a.0 b.0)
from_unique N k (l ∷ j ∷ ls) n m (inr (inr a)) (inr (inl b)) = absurd (a.1 b.0)
from_unique N k (l ∷ j ∷ ls) n m (inr (inr a)) (inr (inr b)) = a.2 ∙ sym b.2

form_unique : (N : Name → Bool) (ls : List (List ℕ)) (n m : ℕ) → FormFault N ls n → FormFault N ls m → n ≡ m
form_unique N [] n m a b = a ∙ sym b
form_unique N (l ∷ []) n m a b = a ∙ sym b
form_unique N (l ∷ j ∷ ls) n m (inl a) (inl b) = from_unique N 2 (j ∷ ls) n m a.1 b.1
form_unique N (l ∷ j ∷ ls) n m (inl a) (inr b) = absurd (b.0 a.0)
form_unique N (l ∷ j ∷ ls) n m (inr a) (inl b) = absurd (a.0 b.0)
form_unique N (l ∷ j ∷ ls) n m (inr a) (inr b) = a.2 ∙ sym b.2

no_version : {A : Type 0} (N : Name → Bool) (ls : List (List ℕ)) (n : ℕ) → FormFault N ls n → VersionFault ls → A
no_version N [] n a b = absurd b
no_version N (l ∷ []) n a b = absurd b
no_version N (l ∷ j ∷ ls) n (inl a) b = no_other l a.0 b
no_version N (l ∷ j ∷ ls) n (inr a) b = absurd (a.1 b)

pub at_most_one_fault : AtMostOneFault
at_most_one_fault N bytes (Form n) (Form m) a b = ap Form (form_unique N (lines_in bytes) n m a b)
at_most_one_fault N bytes (Form n) (Version m) a b = no_version N (lines_in bytes) n a b.1
at_most_one_fault N bytes (Version n) (Form m) a b = no_version N (lines_in bytes) m b a.1
at_most_one_fault N bytes (Version n) (Version m) a b = ap Version (a.0 ∙ sym b.0)

-- A text has no fault.

-- no line of the items is at fault
no_fault_from : (N : Name → Bool) → ((n : Name) → N n ≡ true → Visible n) → (k : ℕ) (items : List Item) (n : ℕ) → ItemsFit N items
    → FaultFrom N k (lines_in (encode_utf8_all (lines_text items))) n → ⊥
no_fault_from N shows k [] n h f = go (subst (λ ls. FaultFrom N k ls n) end_lines f)
  where
    go : FaultFrom N k (last_line ∷ [] ∷ []) n → ⊥
    go (inl a) = item_no_end N last_line a.0 refl
    go (inr (inl a)) = a.1 refl
    go (inr (inr a)) = a.1 refl
no_fault_from N shows k (i ∷ items) n h f =
    go (lines_in (encode_utf8_all (lines_text items))) refl (no_fault_from N shows (suc k) items n h.1) (subst (λ ls. FaultFrom N k ls n) (item_lines N shows i items h.0) f)
  where
    go : (ls : List (List ℕ)) → lines_in (encode_utf8_all (lines_text items)) ≡ ls → (FaultFrom N (suc k) (lines_in (encode_utf8_all (lines_text items))) n → ⊥)
        → FaultFrom N k (encode_utf8_all (line_text i) ∷ ls) n → ⊥
    go [] e more f = lines_some (encode_utf8_all (lines_text items)) e
    go (m ∷ ls) e more (inl a) = more (subst (λ z. FaultFrom N (suc k) z n) (sym e) a.1)
    go (m ∷ ls) e more (inr (inl a)) = item_no_end N (encode_utf8_all (line_text i)) (i, (h.0, refl)) a.0
    go (m ∷ ls) e more (inr (inr a)) = a.0 (i, (h.0, refl))

pub text_has_no_fault : TextHasNoFault
text_has_no_fault N shows bytes items f a b = go f (subst (λ z. HasFault N z f) a.1 b)
  where
    form : (n : ℕ) (ls : List (List ℕ)) → lines_in (encode_utf8_all (lines_text items)) ≡ ls → FormFault N (first_line ∷ ls) n → ⊥
    form n [] e f = lines_some (encode_utf8_all (lines_text items)) e
    form n (m ∷ ls) e (inl c) = no_fault_from N shows 2 items n a.0 (subst (λ z. FaultFrom N 2 z n) (sym e) c.1)
    form n (m ∷ ls) e (inr c) = c.0 refl

    version : (ls : List (List ℕ)) → lines_in (encode_utf8_all (lines_text items)) ≡ ls → VersionFault (first_line ∷ ls) → ⊥
    version [] e f = f
    version (m ∷ ls) e f = no_other first_line refl f

    go : (f : Fault) → HasFault N (encode_utf8_all (text_of items)) f → ⊥
    go (Form n) c = form n (lines_in (encode_utf8_all (lines_text items))) refl (subst (λ z. FormFault N z n) (text_lines items) c)
    go (Version n) c = version (lines_in (encode_utf8_all (lines_text items))) refl (subst VersionFault (text_lines items) c.1)

-- Each file is a text or has a fault.

-- two lists of characters are the same or not
same_or_not : (x y : List ℕ) → Decided (x ≡ y)
same_or_not [] [] = inl refl
same_or_not [] (d ∷ y) = inr (λ e. nil_cons d y e)
same_or_not (c ∷ x) [] = inr (λ e. nil_cons c x (sym e))
same_or_not (c ∷ x) (d ∷ y) = go (eqb_tells c d) (same_or_not x y)
  where
    go : ((nat_eq c d ≡ true) × (c ≡ d)) ⊎ ((nat_eq c d ≡ false) × (c ≢ d)) → Decided (x ≡ y) → Decided ((c ∷ x) ≡ (d ∷ y))
    go (inl k) (inl e) = inl (ap₂ (λ z zs. z ∷ zs) k.1 e)
    go (inl k) (inr h) = inr (λ e. h (tail_same c d x y e))
    go (inr k) r = inr (λ e. k.1 (head_same c d x y e))

-- nothing follows, or something does
end_or_not : (m : List ℕ) (ls : List (List ℕ)) → Decided ((m ∷ ls) ≡ ([] ∷ []))
end_or_not [] [] = inl refl
end_or_not [] (l ∷ ls) = inr (λ e. clash l ls e)
  where
    clash : (l : List ℕ) (ls : List (List ℕ)) → ([] ∷ l ∷ ls) ≡ ([] ∷ []) → ⊥
    clash l ls e = cc
end_or_not (c ∷ m) ls = inr (λ e. clash c m ls e)
  where
    clash : (c : ℕ) (m : List ℕ) (ls : List (List ℕ)) → ((c ∷ m) ∷ ls) ≡ ([] ∷ []) → ⊥
    clash c m ls e = cc

lines_or_fault : (N : Name → Bool) → ((l : List ℕ) → Decided (IsItemLine N l)) → (k : ℕ) (ls : List (List ℕ))
    → ((items : List Item) × AreLinesAfterFirst N ls items) ⊎ ((n : ℕ) × FaultFrom N k ls n)
lines_or_fault N told k [] = inr (k, refl)
lines_or_fault N told k (l ∷ []) = inr (k, refl)
lines_or_fault N told k (l ∷ m ∷ ls) = go (told l) (same_or_not l last_line) (end_or_not m ls) (lines_or_fault N told (suc k) (m ∷ ls))
  where
    go : Decided (IsItemLine N l) → Decided (l ≡ last_line) → Decided ((m ∷ ls) ≡ ([] ∷ [])) → ((items : List Item) × AreLinesAfterFirst N (m ∷ ls) items) ⊎ ((n : ℕ) × FaultFrom N (suc k) (m ∷ ls) n)
        → ((items : List Item) × AreLinesAfterFirst N (l ∷ m ∷ ls) items) ⊎ ((n : ℕ) × FaultFrom N k (l ∷ m ∷ ls) n)
    go (inl i) d e (inl r) = inl (i.0 ∷ r.0, (i.1, r.1))
    go (inl i) d e (inr r) = inr (r.0, inl (i, r.1))
    go (inr i) (inl d) (inl e) r = inl ([], (d, e))
    go (inr i) (inl d) (inr e) r = inr (suc k, inr (inl (d, e, refl)))
    go (inr i) (inr d) e r = inr (k, inr (inr (i, d, refl)))

pub text_or_fault : TextOrFault
text_or_fault N shows told other bytes = go (lines_in bytes) refl
  where
    first : (l m : List ℕ) (ls : List (List ℕ)) → lines_in bytes ≡ (l ∷ m ∷ ls) → Decided (l ≡ first_line) → Decided (IsOtherVersion l)
        → ((items : List Item) × AreLinesAfterFirst N (m ∷ ls) items) ⊎ ((n : ℕ) × FaultFrom N 2 (m ∷ ls) n)
        → ((items : List Item) × IsTextOf N bytes items) ⊎ ((f : Fault) × HasFault N bytes f)
    first l m ls e (inl a) v (inl r) = inl (r.0, (text_by_lines N shows bytes r.0).1 (subst (λ z. AreLinesOf N z r.0) (sym e) (a, r.1)))
    first l m ls e (inl a) v (inr r) = inr (Form r.0, subst (λ z. FormFault N z r.0) (sym e) (inl (a, r.1)))
    first l m ls e (inr a) (inl v) r = inr (Version 1, (refl, subst VersionFault (sym e) v))
    first l m ls e (inr a) (inr v) r = inr (Form 1, subst (λ z. FormFault N z 1) (sym e) (inr (a, v, refl)))

    go : (ls : List (List ℕ)) → lines_in bytes ≡ ls → ((items : List Item) × IsTextOf N bytes items) ⊎ ((f : Fault) × HasFault N bytes f)
    go [] e = inr (Form 1, subst (λ z. FormFault N z 1) (sym e) refl)
    go (l ∷ []) e = inr (Form 1, subst (λ z. FormFault N z 1) (sym e) refl)
    go (l ∷ m ∷ ls) e = first l m ls e (same_or_not l first_line) (other l) (lines_or_fault N told 2 (m ∷ ls))
