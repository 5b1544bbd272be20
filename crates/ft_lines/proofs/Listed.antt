-- Items in parentheses: what is read is their text, and the text is read.
use Rattle.std.proofs.Common.{◌≡◌, ◌∙◌, sym, ap, refl, subst, ℕ, zero, suc, ◌≤◌, ◌<◌, List, [], ◌∷◌, ◌++◌, length, map, drop, Ok, false, if◌then◌else◌, append_assoc, append-nil, arith}
use lib.ListN.{length-append}
use Rattle.std.specs.Prelude.{codes}
use Rattle.std.proofs.lemmas.List.{length-map}
use Rattle.ft_items.specs.Texts.{joined}
use Rattle.ft_texts.proofs.Expressions.{further}
use Rattle.ft_lines.specs.declared.fault.Fault.TheVariants.{Form}
use Rattle.ft_lines.specs.Reading.{Reader, ◌>>=◌, pure, sees, sees_digit, passes, expect}
use Rattle.ft_lines.specs.Expressions.{items_from, in_parentheses}
use Rattle.ft_common.proofs.Choices.{by_test}
use Rattle.ft_common.proofs.Results.{err_ok, ok_ok}
use Rattle.ft_lines.proofs.Chains.{in_turn, taken_both, not_taken_both, sees_is, expected, further_length}
use Rattle.ft_lines.proofs.Items.{items_turn}

module _ {A : Type 0} (item : Reader A) (text : A → List ℕ) where
  -- the items' texts with commas
  abbrev pub row : A → List A → List ℕ
  row a as' = text a ++ further (map text as')

  -- items in parentheses, before what follows
  abbrev pub enclosed : List A → List ℕ
  enclosed as' = joined (codes ",") (map text as') ++ codes ")"

  enclosed_then : (a : A) (as' : List A) (rest : List ℕ) → enclosed (a ∷ as') ++ rest ≡ row a as' ++ (41 ∷ rest)
  enclosed_then a as' rest = append_assoc (row a as') (41 ∷ []) rest

  -- ---- what is read
  module _ (P : A → Type 0) (is : (a : A) (cs rest : List ℕ) → item cs ≡ Ok (a, rest) → (cs ≡ text a ++ rest) × P a) where
    abbrev pub Each : List A → Type 0
    Each [] = Unit {0}
    Each (a ∷ as') = P a × Each as'

    abbrev ItemsFound : List A → List A → List ℕ → List ℕ → Type 0
    ItemsFound found all cs rest = (a : A) × (as' : List A) × (all ≡ found ++ a ∷ as') × (cs ≡ row a as' ++ rest) × Each (a ∷ as')

    items_are : (n : ℕ) (found all : List A) (cs rest : List ℕ) → items_from item n found cs ≡ Ok (all, rest) → ItemsFound found all cs rest
    unfolding items_from
    items_are zero found all cs rest h = absurd (err_ok Form (all, rest) h)
    items_are (suc n) found all cs rest h =
        let p = in_turn (item cs) (λ a. passes 44 >>= (λ more. if more then items_from item n (found ++ a ∷ []) else pure (found ++ a ∷ []))) all rest h in
        let a = p.0.0 in
        let ds = p.0.1 in
        let i = is a cs ds p.1 in
        let go_on : Reader (List A) = items_from item n (found ++ a ∷ []) in
        let stop : Reader (List A) = pure (found ++ a ∷ []) in
        by_test (sees 44 ds)
        (λ more. let f = items_are n (found ++ a ∷ []) all (drop 1 ds) rest (taken_both go_on stop (drop 1 ds) ds (sees 44 ds) more p.2) in (
          a,
          f.0 ∷ f.1,
          f.2 ∙ append_assoc found (a ∷ []) (f.0 ∷ f.1),
          i.0 ∙ ap (λ x. text a ++ x) (sees_is 44 ds more ∙ ap (λ x. 44 ∷ x) f.3) ∙ sym (append_assoc (text a) (further (map text (f.0 ∷ f.1))) rest),
          (i.1, f.4),
        ))
        (λ last. let e = ok_ok (found ++ a ∷ [], ds) (all, rest) (not_taken_both go_on stop (drop 1 ds) ds (sees 44 ds) last p.2) in
        (a, [], sym (ap (λ x. x.0) e), i.0 ∙ ap (λ x. text a ++ x.1) e ∙ ap (λ x. x ++ rest) (sym (append-nil (text a))), (i.1, tt)))

    abbrev ListedIs : List A → List ℕ → List ℕ → Type 0
    ListedIs found cs rest = (cs ≡ 40 ∷ (enclosed found ++ rest)) × Each found

    pub in_parentheses_is : (found : List A) (cs rest : List ℕ) → in_parentheses item cs ≡ Ok (found, rest) → ListedIs found cs rest
    unfolding in_parentheses
    in_parentheses_is found cs rest h =
        let some : Reader (List A) = (λ us. items_from item (length us) [] us) >>= (λ f. expect 41 >>= (λ _. pure f)) in
        let none : Reader (List A) = pure [] in
        let p = in_turn (expect 40 cs) (λ _. passes 41 >>= (λ e. if e then none else some)) found rest h in
        let us = p.0.1 in
        let opened : cs ≡ 40 ∷ us = expected 40 cs us p.1 in
        by_test (sees 41 us)
        (λ y. let e = ok_ok ([], drop 1 us) (found, rest) (taken_both none some (drop 1 us) us (sees 41 us) y p.2) in
        subst (λ f. ListedIs f cs rest) (ap (λ x. x.0) e) (opened ∙ ap (λ x. 40 ∷ x) (sees_is 41 us y ∙ ap (λ x. 41 ∷ x.1) e), tt))
        (λ n. let q = in_turn (items_from item (length us) [] us) (λ f. expect 41 >>= (λ _. pure f)) found rest (not_taken_both none some (drop 1 us) us (sees 41 us) n p.2) in
        let r = in_turn (expect 41 q.0.1) (λ _. pure q.0.0) found rest q.2 in
        let e = ok_ok (q.0.0, r.0.1) (found, rest) r.2 in
        let f = items_are (length us) [] q.0.0 us q.0.1 q.1 in
        let closed : q.0.1 ≡ 41 ∷ rest = expected 41 q.0.1 r.0.1 r.1 ∙ ap (λ x. 41 ∷ x.1) e in
        let whole : cs ≡ 40 ∷ (enclosed (f.0 ∷ f.1) ++ rest) = opened ∙ ap (λ x. 40 ∷ x) (f.3 ∙ ap (λ x. row f.0 f.1 ++ x) closed ∙ sym (enclosed_then f.0 f.1 rest)) in
        subst (λ g. ListedIs g cs rest) (sym f.2 ∙ ap (λ x. x.0) e) (whole, f.4))

  -- ---- what is written
  -- the item is read from its text, where no digit follows; its text is some characters, and no parenthesis closes at it
  pub record IsReadBack (a : A) : Type 0 where
    pub read : (rest : List ℕ) → sees_digit rest ≡ false → item (text a ++ rest) ≡ Ok (a, rest)
    pub some : 1 ≤ length (text a)
    pub opens : (rest : List ℕ) → sees 41 (text a ++ rest) ≡ false

  abbrev pub AreReadBack : List A → Type 0
  AreReadBack [] = Unit {0}
  AreReadBack (a ∷ as') = IsReadBack a × AreReadBack as'

  items_read : (n : ℕ) (found : List A) (a : A) (as' : List A) (rest : List ℕ) → length as' < n → AreReadBack (a ∷ as')
      → sees 44 rest ≡ false → sees_digit rest ≡ false → items_from item n found (row a as' ++ rest) ≡ Ok (found ++ a ∷ as', rest)
  unfolding sees
  items_read zero found a as' rest few back stops plain = absurd (omega (arith, few))
  items_read (suc k) found a [] rest few back stops plain =
      ap (λ x. items_from item (suc k) found (x ++ rest)) (append-nil (text a))
      ∙ items_turn item k found a (text a ++ rest) rest (back.0.read rest plain)
      ∙ rw stops refl
  items_read (suc k) found a (b ∷ bs) rest few back stops plain =
      let ds = further (map text (b ∷ bs)) ++ rest in
      ap (items_from item (suc k) found) (append_assoc (text a) (further (map text (b ∷ bs))) rest)
      ∙ items_turn item k found a (text a ++ ds) ds (back.0.read ds refl)
      ∙ items_read k (found ++ a ∷ []) b bs rest (omega (arith, few)) back.1 stops plain
      ∙ ap (λ xs. Ok (xs, rest)) (append_assoc found (a ∷ []) (b ∷ bs))

  few_items : (a : A) (as' : List A) (r : List ℕ) → 1 ≤ length (text a) → length as' < length (row a as' ++ r)
  few_items a as' r k =
      let f = further (map text as') in
      let l = further_length (map text as') r in
      let n = length-map as' text in
      let e : length ((text a ++ f) ++ r) ≡ length (text a ++ (f ++ r)) = ap length (append_assoc (text a) f r) in
      let m = length-append (text a) (f ++ r) in
      omega (arith, l, n, e, m, k)

  some_read : (us rest : List ℕ) (found : List A) → sees 41 us ≡ false → items_from item (length us) [] us ≡ Ok (found, 41 ∷ rest) → in_parentheses item (40 ∷ us) ≡ Ok (found, rest)
  unfolding in_parentheses expect sees
  some_read us rest found s h = rw (s, h) refl

  none_read : (rest : List ℕ) → in_parentheses item (40 ∷ 41 ∷ rest) ≡ Ok ([], rest)
  unfolding in_parentheses expect sees
  none_read rest = refl

  pub in_parentheses_read : (as' : List A) (rest : List ℕ) → AreReadBack as' → in_parentheses item (40 ∷ (enclosed as' ++ rest)) ≡ Ok (as', rest)
  unfolding sees
  in_parentheses_read [] rest back = none_read rest
  in_parentheses_read (a ∷ as') rest back =
      let us = row a as' ++ (41 ∷ rest) in
      let opens : sees 41 us ≡ false = ap (sees 41) (append_assoc (text a) (further (map text as')) (41 ∷ rest)) ∙ back.0.opens (further (map text as') ++ (41 ∷ rest)) in
      ap (λ x. in_parentheses item (40 ∷ x)) (enclosed_then a as' rest)
      ∙ some_read us rest (a ∷ as') opens (items_read (length us) [] a as' (41 ∷ rest) (few_items a as' (41 ∷ rest) back.0.some) back refl refl)
