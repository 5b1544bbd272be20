-- The first line of a file ends before the first line feed.
use Rattle.std.proofs.Common.{◌≡◌, ◌∙◌, sym, subst, ap, refl, ℕ, suc, ◌+◌, ◌-◌, ◌<◌, ◌≤◌, Bool, true, false, List, [], ◌∷◌, length, take, drop, length-drop, arith}
use Rattle.std.proofs.Math.Seq.{take-length}
use Rattle.std.specs.Prelude.{cond, nat_eq}
use Rattle.ft_items.specs.Lines.{onto_first, lines_in}
use Rattle.ft_read.specs.Files.{before_feed}

cut : (bs : List ℕ) → before_feed bs < length bs → lines_in bs ≡ take (before_feed bs) bs ∷ lines_in (drop (before_feed bs + 1) bs)
cut [] h = absurd (omega (arith, h))
cut (b ∷ bs) h = go (nat_eq b 10) (cut bs) h
  where
    k : ℕ
    k = before_feed bs

    go : (t : Bool) → (k < length bs → lines_in bs ≡ take k bs ∷ lines_in (drop (k + 1) bs)) → cond t 0 (suc k) < suc (length bs)
        → cond t ([] ∷ lines_in bs) (onto_first b (lines_in bs)) ≡ take (cond t 0 (suc k)) (b ∷ bs) ∷ lines_in (drop (cond t 0 (suc k) + 1) (b ∷ bs))
    go true r h = refl
    go false r h =
        let e : suc (k + 1) ≡ suc k + 1 = omega arith in
        ap (onto_first b) (r (omega (arith, h))) ∙ ap (λ n. (b ∷ take k bs) ∷ lines_in (drop n (b ∷ bs))) e

whole : (bs : List ℕ) → length bs ≤ before_feed bs → lines_in bs ≡ bs ∷ []
whole [] h = refl
whole (b ∷ bs) h = go (nat_eq b 10) (whole bs) h
  where
    go : (t : Bool) → (length bs ≤ before_feed bs → lines_in bs ≡ bs ∷ []) → suc (length bs) ≤ cond t 0 (suc (before_feed bs))
        → cond t ([] ∷ lines_in bs) (onto_first b (lines_in bs)) ≡ (b ∷ bs) ∷ []
    go true r h = absurd (omega (arith, h))
    go false r h = ap (onto_first b) (r (omega (arith, h)))

pub line_cut : (bs : List ℕ) (k : ℕ) → k ≡ before_feed bs → k < length bs → lines_in bs ≡ take k bs ∷ lines_in (take (length bs - (k + 1)) (drop (k + 1) bs))
line_cut bs k e h =
    subst (λ n. n < length bs → lines_in bs ≡ take n bs ∷ lines_in (drop (n + 1) bs)) (sym e) (cut bs) h
    ∙ ap (λ after. take k bs ∷ lines_in after) (sym (ap (λ n. take n (drop (k + 1) bs)) (sym (length-drop (k + 1) bs)) ∙ take-length (drop (k + 1) bs)))

pub line_whole : (bs : List ℕ) (k : ℕ) → k ≡ before_feed bs → length bs ≤ k → lines_in bs ≡ bs ∷ []
line_whole bs k e h = subst (λ n. length bs ≤ n → lines_in bs ≡ bs ∷ []) (sym e) (whole bs) h
