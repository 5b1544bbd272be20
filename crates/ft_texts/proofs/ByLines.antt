-- The lines of a text are those of its items.
use Rattle.std.proofs.Common.{◌≡◌, ◌≢◌, ℕ, Bool, true, false, List, [], ◌∷◌, ◌++◌, ◌⊎◌, inl, inr, refl, sym, ap, ap₂, ◌∙◌, subst, append_assoc}
use Rattle.std.specs.Prelude.{codes, cond, nat_eq}
use Rattle.std.specs.Char.{encode_utf8}
use Rattle.std.specs.Str.{encode_utf8_all}
use Rattle.std.proofs.lemmas.Str.{encodes-append}
use Rattle.std.proofs.lemmas.Bool.Decides.{eqb_tells}
use Rattle.ft_items.specs.Item.{Name, Item}
use Rattle.ft_items.specs.Texts.{ItemFits, ItemsFit, line_text, lines_text, text_of, IsTextOf}
use Rattle.ft_items.specs.Lines.{onto_first, lines_in, first_line, last_line, AreLinesAfterFirst, AreLinesOf}
use Rattle.ft_texts.specs.Laws.{Visible, TextByLines}
use Rattle.ft_texts.proofs.Pieces.{Each}
use Rattle.ft_texts.proofs.Feeds.{IsNoFeed, line_has_no_feed}

pub last_encoded : encode_utf8_all (codes "end") ≡ last_line
unfolding encode_utf8
last_encoded = refl

-- there is always a line
pub lines_some : {A : Type 0} (bs : List ℕ) → lines_in bs ≡ [] → A
lines_some [] e = cons_nil [] [] e
  where
    cons_nil : {A : Type 0} (l : List ℕ) (ls : List (List ℕ)) → (l ∷ ls) ≡ [] → A
    cons_nil {A} l ls e = absurd (clash e)
      where
        clash : (l ∷ ls) ≡ [] → ⊥
        clash e = cc
lines_some {A} (b ∷ bs) e = go (nat_eq b 10) (lines_in bs) e
  where
    clash : (l : List ℕ) (ls : List (List ℕ)) → (l ∷ ls) ≡ [] → ⊥
    clash l ls e = cc

    go : (t : Bool) (ls : List (List ℕ)) → cond t ([] ∷ ls) (onto_first b ls) ≡ [] → A
    go true ls e = absurd (clash [] ls e)
    go false [] e = absurd (clash (b ∷ []) [] e)
    go false (l ∷ ls) e = absurd (clash (b ∷ l) ls e)

-- what stands before a line feed is a line
pub line_first : (x rest : List ℕ) → Each IsNoFeed x → lines_in (x ++ (10 ∷ rest)) ≡ x ∷ lines_in rest
line_first [] rest h = refl
line_first (b ∷ x) rest h = ap (λ t. cond t ([] ∷ lines_in (x ++ (10 ∷ rest))) (onto_first b (lines_in (x ++ (10 ∷ rest))))) (not_feed b h.0) ∙ ap (onto_first b) (line_first x rest h.1)
  where
    not_feed : (b : ℕ) → b ≢ 10 → nat_eq b 10 ≡ false
    not_feed b n = go (eqb_tells b 10)
      where
        go : ((nat_eq b 10 ≡ true) × (b ≡ 10)) ⊎ ((nat_eq b 10 ≡ false) × (b ≢ 10)) → nat_eq b 10 ≡ false
        go (inl k) = absurd (n k.1)
        go (inr k) = k.0

pub feed_encoded : (x : List ℕ) → encode_utf8_all (10 ∷ x) ≡ 10 ∷ encode_utf8_all x
unfolding encode_utf8
feed_encoded x = refl

pub end_lines : lines_in (encode_utf8_all (codes "end\n")) ≡ last_line ∷ [] ∷ []
unfolding encode_utf8
end_lines = refl

-- the lines of the text of an item and more
pub item_lines : (N : Name → Bool) → ((n : Name) → N n ≡ true → Visible n) → (i : Item) (items : List Item) → ItemFits N i
    → lines_in (encode_utf8_all (lines_text (i ∷ items))) ≡ encode_utf8_all (line_text i) ∷ lines_in (encode_utf8_all (lines_text items))
item_lines N shows i items h =
    ap (λ z. lines_in (encode_utf8_all z)) (append_assoc (line_text i) (10 ∷ []) (lines_text items))
    ∙ ap lines_in (encodes-append (line_text i) (10 ∷ lines_text items) ∙ ap (λ z. encode_utf8_all (line_text i) ++ z) (feed_encoded (lines_text items)))
    ∙ line_first (encode_utf8_all (line_text i)) (encode_utf8_all (lines_text items)) (line_has_no_feed N shows i h)

-- the lines of a text
pub text_lines : (items : List Item) → lines_in (encode_utf8_all (text_of items)) ≡ first_line ∷ lines_in (encode_utf8_all (lines_text items))
unfolding encode_utf8
text_lines items = refl

-- the lines joined by line feeds again
abbrev pub unlines : List (List ℕ) → List ℕ
unlines [] = []
unlines (l ∷ []) = l
unlines (l ∷ m ∷ ls) = l ++ (10 ∷ unlines (m ∷ ls))

unlines_onto : (b : ℕ) (ls : List (List ℕ)) → unlines (onto_first b ls) ≡ b ∷ unlines ls
unlines_onto b [] = refl
unlines_onto b (l ∷ []) = refl
unlines_onto b (l ∷ m ∷ ls) = refl

-- a file is its lines
unlines_lines : (bs : List ℕ) → unlines (lines_in bs) ≡ bs
unlines_lines [] = refl
unlines_lines (b ∷ bs) = go (eqb_tells b 10) (lines_in bs) refl (unlines_lines bs)
  where
    feed : (ls : List (List ℕ)) → lines_in bs ≡ ls → unlines ls ≡ bs → unlines ([] ∷ ls) ≡ 10 ∷ bs
    feed [] e h = lines_some bs e
    feed (m ∷ ls) e h = ap (λ z. 10 ∷ z) h

    go : ((nat_eq b 10 ≡ true) × (b ≡ 10)) ⊎ ((nat_eq b 10 ≡ false) × (b ≢ 10)) → (ls : List (List ℕ)) → lines_in bs ≡ ls → unlines ls ≡ bs
        → unlines (cond (nat_eq b 10) ([] ∷ ls) (onto_first b ls)) ≡ b ∷ bs
    go (inl k) ls e h = ap (λ t. unlines (cond t ([] ∷ ls) (onto_first b ls))) k.0 ∙ feed ls e h ∙ ap (λ z. z ∷ bs) (sym k.1)
    go (inr k) ls e h = ap (λ t. unlines (cond t ([] ∷ ls) (onto_first b ls))) k.0 ∙ unlines_onto b ls ∙ ap (λ z. b ∷ z) h

end_encoded : encode_utf8_all (codes "end\n") ≡ codes "end\n"
unfolding encode_utf8
end_encoded = refl

-- the lines of the items' text, one by one
lines_after : (N : Name → Bool) → ((n : Name) → N n ≡ true → Visible n) → (items : List Item) → ItemsFit N items → AreLinesAfterFirst N (lines_in (encode_utf8_all (lines_text items))) items
lines_after N shows [] h = subst (λ ls. AreLinesAfterFirst N ls []) (sym end_lines) (refl, refl)
lines_after N shows (i ∷ items) h = subst (λ ls. AreLinesAfterFirst N ls (i ∷ items)) (sym (item_lines N shows i items h.0)) ((h.0, refl), lines_after N shows items h.1)

-- lines of items make the items' text
text_after : (N : Name → Bool) (ls : List (List ℕ)) (items : List Item) → AreLinesAfterFirst N ls items → ItemsFit N items × (unlines ls ≡ encode_utf8_all (lines_text items))
text_after N [] items h = absurd h
text_after N (l ∷ ls) [] h = (tt, ap₂ (λ x xs. unlines (x ∷ xs)) h.0 h.1 ∙ sym end_encoded)
text_after N (l ∷ []) (i ∷ items) h = absurd h.1
text_after N (l ∷ m ∷ ls) (i ∷ items) h =
    let r : ItemsFit N items × (unlines (m ∷ ls) ≡ encode_utf8_all (lines_text items)) = text_after N (m ∷ ls) items h.1 in (
      (h.0.0, r.0),
      ap₂ (λ x y. x ++ (10 ∷ y)) h.0.1 r.1
          ∙ ap (λ z. encode_utf8_all (line_text i) ++ z) (sym (feed_encoded (lines_text items)))
          ∙ sym (encodes-append (line_text i) (10 ∷ lines_text items))
          ∙ ap encode_utf8_all (sym (append_assoc (line_text i) (10 ∷ []) (lines_text items))),
    )

first_encoded : (x : List ℕ) → first_line ++ (10 ∷ encode_utf8_all x) ≡ encode_utf8_all (codes "andromeda derivation 1\n" ++ x)
unfolding encode_utf8
first_encoded x = refl

text_of_lines : (N : Name → Bool) (ls : List (List ℕ)) (items : List Item) → AreLinesOf N ls items → ItemsFit N items × (unlines ls ≡ encode_utf8_all (text_of items))
text_of_lines N [] items h = absurd h
text_of_lines N (l ∷ []) items h = absurd h.1
text_of_lines N (l ∷ m ∷ ls) items h =
    let r : ItemsFit N items × (unlines (m ∷ ls) ≡ encode_utf8_all (lines_text items)) = text_after N (m ∷ ls) items h.1 in
    (r.0, ap₂ (λ x y. x ++ (10 ∷ y)) h.0 r.1 ∙ first_encoded (lines_text items))

pub text_by_lines : TextByLines
text_by_lines N shows bytes items = (there, back)
  where
    there : IsTextOf N bytes items → AreLinesOf N (lines_in bytes) items
    there h = subst (λ z. AreLinesOf N (lines_in z) items) (sym h.1) (subst (λ ls. AreLinesOf N ls items) (sym (text_lines items)) (refl, lines_after N shows items h.0))

    back : AreLinesOf N (lines_in bytes) items → IsTextOf N bytes items
    back h = let r : ItemsFit N items × (unlines (lines_in bytes) ≡ encode_utf8_all (text_of items)) = text_of_lines N (lines_in bytes) items h in (r.0, sym (unlines_lines bytes) ∙ r.1)
