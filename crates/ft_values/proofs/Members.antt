-- The members of a list of judgements, taken in turn.
use Rattle.std.proofs.Common.{◌≡◌, ◌∙◌, ◌++◌, sym, ap, refl, ℕ, List, [], ◌∷◌, Some, None, Bool, Option, append_assoc, append-nil}
use Rattle.std.specs.Prelude.{option_map}
use Rattle.std.proofs.lemmas.Option.{same_Some}
use Rattle.ft_values.specs.Kept.{Kept, judgement, boundary, unit, truth, pair, nil, cons, none, some, judgement_of, first_judgement, with_rest, is_nil, judgements_in, before_members, found_before, if_list}

found_more : (js : List ℕ) (j : ℕ) (o : Option (List ℕ)) → found_before js (option_map (λ ks. j ∷ ks) o) ≡ found_before (js ++ j ∷ []) o
found_more js j None = refl
found_more js j (Some ks) = ap (λ l. Some l) (sym (append_assoc js (j ∷ []) ks))

rest_is : (o : Option ℕ) (w : Kept) (j : ℕ) (r : Kept) → with_rest o w ≡ Some (j, r) → before_members o (judgements_in w) ≡ option_map (λ ks. j ∷ ks) (judgements_in r)
rest_is None w j r h = cc
rest_is (Some i) w j r h =
    let same : (i, w) ≡ (j, r) = same_Some (i, w) (j, r) h in
    let first : i ≡ j = ap (λ (p : ℕ × Kept). p.0) same in
    let second : w ≡ r = ap (λ (p : ℕ × Kept). p.1) same in
    ap (λ i. option_map (λ ks. i ∷ ks) (judgements_in w)) first ∙ ap (λ w. option_map (λ ks. j ∷ ks) (judgements_in w)) second

judgements_first : (k : Kept) (j : ℕ) (r : Kept) → first_judgement k ≡ Some (j, r) → judgements_in k ≡ option_map (λ ks. j ∷ ks) (judgements_in r)
judgements_first (judgement i) j r h = cc
judgements_first (boundary b) j r h = cc
judgements_first unit j r h = cc
judgements_first (truth b) j r h = cc
judgements_first (pair a b) j r h = cc
judgements_first nil j r h = cc
judgements_first (cons v w) j r h = rest_is (judgement_of v) w j r h
judgements_first none j r h = cc
judgements_first (some a) j r h = cc

-- one more member is found
pub members_more : (k r : Kept) (js : List ℕ) (j : ℕ) (o : Option (List ℕ)) → Some (j, r) ≡ first_judgement k → found_before js (judgements_in k) ≡ o
    → found_before (js ++ j ∷ []) (judgements_in r) ≡ o
members_more k r js j o h e = sym (found_more js j (judgements_in r)) ∙ ap (found_before js) (sym (judgements_first k j r (sym h))) ∙ e

rest_other : (o : Option ℕ) (w : Kept) (p : Option (List ℕ)) → with_rest o w ≡ None → before_members o p ≡ None
rest_other None w p h = refl
rest_other (Some j) w p h = cc

list_or_not : (k : Kept) (js : List ℕ) → None ≡ first_judgement k → if_list (is_nil k) js ≡ found_before js (judgements_in k)
list_or_not (judgement i) js f = refl
list_or_not (boundary b) js f = refl
list_or_not unit js f = refl
list_or_not (truth b) js f = refl
list_or_not (pair a b) js f = refl
list_or_not nil js f = ap (λ l. Some l) (sym (append-nil js))
list_or_not (cons v w) js f = sym (ap (found_before js) (rest_other (judgement_of v) w (judgements_in w) (sym f)))
list_or_not none js f = refl
list_or_not (some a) js f = refl

-- no more are found
pub members_end : (k : Kept) (js : List ℕ) (b : Bool) (o : Option (List ℕ)) → None ≡ first_judgement k → b ≡ is_nil k → found_before js (judgements_in k) ≡ o → if_list b js ≡ o
members_end k js b o f h e = ap (λ b. if_list b js) h ∙ list_or_not k js f ∙ e
