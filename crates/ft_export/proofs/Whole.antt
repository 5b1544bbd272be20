-- The text of a whole list, item by item.
use Rattle.std.proofs.Common.{◌≡◌, ◌∙◌, sym, ap, refl, subst, ℕ, zero, suc, ◌+◌, ◌≤◌, Option, Some, None, option_map, List, [], ◌∷◌, ◌++◌, length, take, drop, codes, encode_utf8_all, append_assoc, append-nil, arith}
use Rattle.std.proofs.lemmas.Str.{encodes-append}
use Rattle.std.proofs.lemmas.List.{length-append}
use Rattle.ft_items.specs.Item.{Item}
use Rattle.ft_items.specs.Store.{nth}
use Rattle.ft_items.specs.Texts.{line_text, lines_text, text_of, ItemFits, ItemsFit}
use Rattle.ft_streams.specs.Streams.{Appends, AppendsPrefix}
use Rattle.ft_base.specs.Names.{is_name_token}
use Rattle.ft_export.specs.Written.{WritesUpTo}

-- the lines of items, each with its line feed
abbrev pub item_lines : List Item → List ℕ
item_lines [] = []
item_lines (i ∷ items) = line_text i ++ codes "\n" ++ item_lines items

-- the first line of a file and the lines of these items
abbrev pub first_lines : List Item → List ℕ
first_lines items = codes "andromeda derivation 1\n" ++ item_lines items

appends_next : (w w1 w2 : Option (List ℕ)) (a b : List ℕ) → Appends w a w1 → Appends w1 b w2 → Appends w (a ++ b) w2
appends_next None w1 w2 a b h k = k ∙ ap (option_map (λ old. old ++ b)) h
appends_next (Some w) w1 w2 a b h k = k ∙ ap (option_map (λ old. old ++ b)) h ∙ ap Some (append_assoc w a b)

appends_none : (w : Option (List ℕ)) → Appends w [] w
appends_none None = refl
appends_none (Some w) = ap Some (sym (append-nil w))

take_past : (a xs : List ℕ) (n : ℕ) → take (length a + n) (a ++ xs) ≡ a ++ take n xs
take_past [] xs n = let e : 0 + n ≡ n = omega arith in ap (λ m. take m xs) e
take_past (c ∷ a) xs n =
    let e : suc (length a) + n ≡ suc (length a + n) = omega arith in
    ap (λ m. take m (c ∷ (a ++ xs))) e ∙ ap (λ z. c ∷ z) (take_past a xs n)

take_first : (b c : List ℕ) (n : ℕ) → n ≤ length b → take n (b ++ c) ≡ take n b
take_first b c zero h = refl
take_first [] c (suc n) h = absurd (omega (arith, h))
take_first (x ∷ b) c (suc n) h = ap (λ z. x ∷ z) (take_first b c n (omega (arith, h)))

-- a piece, and then a prefix of the next one
prefix_next : (w w1 w2 : Option (List ℕ)) (a b c whole : List ℕ) → whole ≡ a ++ (b ++ c) → Appends w a w1 → AppendsPrefix w1 b w2 → AppendsPrefix w whole w2
prefix_next w w1 w2 a b c whole e h k =
    let n : ℕ = k.0 in
    let long : length whole ≡ length a + (length b + length c) = ap length e ∙ length-append a (b ++ c) ∙ ap (λ m. length a + m) (length-append b c) in
    let within : length a + n ≤ length whole = omega (arith, long, k.1) in
    let part : take (length a + n) whole ≡ a ++ take n b = ap (take (length a + n)) e ∙ take_past a (b ++ c) n ∙ ap (λ z. a ++ z) (take_first b c n k.1) in
    (length a + n, within, subst (λ p. Appends w p w2) (sym part) (appends_next w w1 w2 a (take n b) h k.2))

-- a piece, and nothing more
prefix_same : (w w1 : Option (List ℕ)) (a c whole : List ℕ) → whole ≡ a ++ c → Appends w a w1 → AppendsPrefix w whole w1
prefix_same w w1 a c whole e h = prefix_next w w1 w1 a [] c whole e h (0, omega arith, appends_none w1)

lines_split : (items : List Item) (i : ℕ) → lines_text items ≡ item_lines (take i items) ++ lines_text (drop i items)
lines_split items zero = refl
lines_split [] (suc i) = refl
lines_split (x ∷ items) (suc i) =
    ap (λ z. line_text x ++ codes "\n" ++ z) (lines_split items i) ∙ sym (append_assoc (line_text x ++ codes "\n") (item_lines (take i items)) (lines_text (drop i items)))

-- the text is what is written of the first items, and then the lines of the others
text_split : (items : List Item) (i : ℕ) → encode_utf8_all (text_of items) ≡ encode_utf8_all (first_lines (take i items)) ++ encode_utf8_all (lines_text (drop i items))
text_split items i =
    let h = codes "andromeda derivation 1\n" in
    ap encode_utf8_all (ap (λ z. h ++ z) (lines_split items i) ∙ sym (append_assoc h (item_lines (take i items)) (lines_text (drop i items))))
    ∙ encodes-append (first_lines (take i items)) (lines_text (drop i items))

-- the line of an item with its line feed
encode_line : (x : Item) → encode_utf8_all (line_text x ++ codes "\n") ≡ encode_utf8_all (line_text x) ++ codes "\n"
unfolding lib.Utf8.encode
encode_line x = encodes-append (line_text x) (codes "\n")

item_lines_next : (items : List Item) (i : ℕ) (x : Item) → nth items i ≡ Some x → item_lines (take (suc i) items) ≡ item_lines (take i items) ++ (line_text x ++ codes "\n")
item_lines_next [] i x h = cc
item_lines_next (y ∷ items) zero x h = let same : y ≡ x = cc in append-nil (line_text y ++ codes "\n") ∙ ap (λ y. line_text y ++ codes "\n") same
item_lines_next (y ∷ items) (suc i) x h =
    ap (λ z. line_text y ++ codes "\n" ++ z) (item_lines_next items i x h) ∙ sym (append_assoc (line_text y ++ codes "\n") (item_lines (take i items)) (line_text x ++ codes "\n"))

-- one more line
first_next : (items : List Item) (i : ℕ) (x : Item) (line : List ℕ) → nth items i ≡ Some x → line ≡ encode_utf8_all (line_text x) ++ codes "\n"
    → encode_utf8_all (first_lines (take (suc i) items)) ≡ encode_utf8_all (first_lines (take i items)) ++ line
first_next items i x line h e =
    let f = codes "andromeda derivation 1\n" in
    ap encode_utf8_all (ap (λ z. f ++ z) (item_lines_next items i x h) ∙ sym (append_assoc f (item_lines (take i items)) (line_text x ++ codes "\n")))
    ∙ encodes-append (first_lines (take i items)) (line_text x ++ codes "\n") ∙ ap (λ z. encode_utf8_all (first_lines (take i items)) ++ z) (encode_line x ∙ sym e)

pub fits_next : (items : List Item) (i : ℕ) (x : Item) → nth items i ≡ Some x → ItemsFit is_name_token (take i items) → ItemFits is_name_token x → ItemsFit is_name_token (take (suc i) items)
fits_next [] i x h f g = cc
fits_next (y ∷ items) zero x h f g = let same : x ≡ y = cc in (subst (ItemFits is_name_token) same g, tt)
fits_next (y ∷ items) (suc i) x h f g = (f.0, fits_next items i x h f.1 g)

-- after all items
text_end : (items : List Item) (i : ℕ) → length items ≤ i → encode_utf8_all (text_of items) ≡ encode_utf8_all (first_lines (take i items)) ++ codes "end\n"
unfolding lib.Utf8.encode
text_end items i h = text_split items i ∙ ap (λ z. encode_utf8_all (first_lines (take i items)) ++ encode_utf8_all (lines_text z)) (none items i h)
  where
    none : (items : List Item) (i : ℕ) → length items ≤ i → drop i items ≡ []
    none [] zero h = refl
    none [] (suc i) h = refl
    none (y ∷ items) zero h = absurd (omega (arith, h))
    none (y ∷ items) (suc i) h = none items i (omega (arith, h))

-- more of the text, which is left
written_more : (w w1 : Option (List ℕ)) (text left more longer left2 : List ℕ) → WritesUpTo w text left w1 → longer ≡ text ++ more → left2 ≡ left ++ more → WritesUpTo w longer left2 w1
written_more w w1 text left more longer left2 h e f =
    (h.0, e ∙ ap (λ z. z ++ more) h.1 ∙ append_assoc h.0 left more ∙ ap (λ z. h.0 ++ z) (sym f), h.2)

-- a part of what was left is written
pub written_on : (w w1 w2 : Option (List ℕ)) (text left left2 : List ℕ) → WritesUpTo w text left w1 → WritesUpTo w1 left left2 w2 → WritesUpTo w text left2 w2
written_on w w1 w2 text left left2 h k =
    (h.0 ++ k.0, h.1 ∙ ap (λ z. h.0 ++ z) k.1 ∙ sym (append_assoc h.0 k.0 left2), appends_next w w1 w2 h.0 k.0 h.2 k.2)

-- all that was left is written
pub written_whole : (w w1 w2 : Option (List ℕ)) (text left : List ℕ) → WritesUpTo w text left w1 → Appends w1 left w2 → Appends w text w2
written_whole w w1 w2 text left h k = subst (λ p. Appends w p w2) (sym h.1) (appends_next w w1 w2 h.0 left h.2 k)

-- the writing ends within what was left
written_front : (w w1 w2 : Option (List ℕ)) (text left rest whole : List ℕ) → whole ≡ text ++ rest → WritesUpTo w text left w1 → AppendsPrefix w1 left w2 → AppendsPrefix w whole w2
written_front w w1 w2 text left rest whole e h k =
    prefix_next w w1 w2 h.0 left rest whole (e ∙ ap (λ z. z ++ rest) h.1 ∙ append_assoc h.0 left rest) h.2 k

-- the writing ends before what is left
written_stop : (w w1 : Option (List ℕ)) (text left rest whole : List ℕ) → whole ≡ text ++ rest → WritesUpTo w text left w1 → AppendsPrefix w whole w1
written_stop w w1 text left rest whole e h =
    prefix_same w w1 h.0 (left ++ rest) whole (e ∙ ap (λ z. z ++ rest) h.1 ∙ append_assoc h.0 left rest) h.2

-- The same, of a page that holds what is left of the first i items.

-- one more item and its line feed
pub item_on_page : (w w1 : Option (List ℕ)) (items : List Item) (i : ℕ) (x : Item) (page line new : List ℕ) → WritesUpTo w (encode_utf8_all (first_lines (take i items))) page w1 → nth items i ≡ Some x
    → line ≡ page ++ encode_utf8_all (line_text x) → new ≡ line ++ codes "\n" → WritesUpTo w (encode_utf8_all (first_lines (take (suc i) items))) new w1
item_on_page w w1 items i x page line new h at l n =
    let more = encode_utf8_all (line_text x) ++ codes "\n" in
    written_more w w1 (encode_utf8_all (first_lines (take i items))) page more (encode_utf8_all (first_lines (take (suc i) items))) new h (first_next items i x more at refl)
    (n ∙ ap (λ z. z ++ codes "\n") l ∙ append_assoc page (encode_utf8_all (line_text x)) (codes "\n"))

-- the last line
pub end_on_page : (w w1 : Option (List ℕ)) (items : List Item) (i : ℕ) (page new : List ℕ) → WritesUpTo w (encode_utf8_all (first_lines (take i items))) page w1 → length items ≤ i → new ≡ page ++ codes "end\n"
    → WritesUpTo w (encode_utf8_all (text_of items)) new w1
end_on_page w w1 items i page new h all n =
    written_more w w1 (encode_utf8_all (first_lines (take i items))) page (codes "end\n") (encode_utf8_all (text_of items)) new h (text_end items i all) n

-- the writing ends within the page
pub front_of_page : (w w1 w2 : Option (List ℕ)) (items : List Item) (i : ℕ) (page : List ℕ) → WritesUpTo w (encode_utf8_all (first_lines (take i items))) page w1 → AppendsPrefix w1 page w2
    → AppendsPrefix w (encode_utf8_all (text_of items)) w2
front_of_page w w1 w2 items i page h k =
    written_front w w1 w2 (encode_utf8_all (first_lines (take i items))) page (encode_utf8_all (lines_text (drop i items))) (encode_utf8_all (text_of items)) (text_split items i) h k

-- the writing ends before the page
pub stop_before_page : (w w1 : Option (List ℕ)) (items : List Item) (i : ℕ) (page : List ℕ) → WritesUpTo w (encode_utf8_all (first_lines (take i items))) page w1 → AppendsPrefix w (encode_utf8_all (text_of items)) w1
stop_before_page w w1 items i page h =
    written_stop w w1 (encode_utf8_all (first_lines (take i items))) page (encode_utf8_all (lines_text (drop i items))) (encode_utf8_all (text_of items)) (text_split items i) h

-- the writing ends within the last page
pub front_of_all : (w w1 w2 : Option (List ℕ)) (items : List Item) (page : List ℕ) → WritesUpTo w (encode_utf8_all (text_of items)) page w1 → AppendsPrefix w1 page w2 → AppendsPrefix w (encode_utf8_all (text_of items)) w2
front_of_all w w1 w2 items page h k =
    let whole = encode_utf8_all (text_of items) in
    written_front w w1 w2 whole page [] whole (sym (append-nil whole)) h k
