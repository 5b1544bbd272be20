-- Lines found again by the places that are kept.
use Rattle.std.proofs.Common.{◌≡◌, ◌≢◌, ℕ, zero, suc, ◌+◌, ◌-◌, ◌<◌, ◌≤◌, nat_eq, Bool, true, false, cond, Option, Some, None, List, [], ◌∷◌, refl, sym, ap, ◌∙◌, subst, length, map, take, get_or, arith, ◌⊎◌, inl, inr}
use Rattle.std.proofs.lemmas.Bool.Decides.{eqb_tells}
use Rattle.ft_kernel.specs.State.{variable_numbered}
use Rattle.ft_kernel.specs.declared.item.VarItem.{VarItem}
use Rattle.ft_theory.specs.Expressions.{Expression}
use Rattle.ft_items.specs.Item.{Name}
use Rattle.ft_items.specs.Store.{nth, variables_in}
use Rattle.ft_kernel.specs.Lines.{item_in, items_in, ContentBelow, AllLinesBelow, places, place_if_numbered, place_numbered, AreNumbered}
use Rattle.ft_kernel.specs.declared.line.Content.{Content}
use Rattle.ft_kernel.specs.declared.line.Content.TheVariants.{Variable, Metavariable, Rule, Thesis, Boundary, Shown}
use Rattle.ft_kernel.specs.declared.line.Line.{Line}
use Rattle.ft_kernel.proofs.LineKinds.{Kind, passing, kind_passing}

pub place_within : (p : Content → Bool) (k : ℕ) (ls : List Line) (n : ℕ) → n < length (places p k ls) → (k ≤ get_or (places p k ls) n 0) × (get_or (places p k ls) n 0 < k + length ls)
place_within p k [] n h = absurd (omega (arith, h))
place_within p k (l ∷ ls) n h = go (p l.content) n h (λ n g. place_within p (k + 1) ls n g)
  where
    X : List ℕ
    X = places p (k + 1) ls

    go : (b : Bool) (n : ℕ) → n < length (cond b (k ∷ X) X) → ((n : ℕ) → n < length X → (k + 1 ≤ get_or X n 0) × (get_or X n 0 < (k + 1) + length ls))
        → (k ≤ get_or (cond b (k ∷ X) X) n 0) × (get_or (cond b (k ∷ X) X) n 0 < k + length (l ∷ ls))
    go true zero h ih = (omega arith, omega arith)
    go true (suc n) h ih = let r : (k + 1 ≤ get_or X n 0) × (get_or X n 0 < (k + 1) + length ls) = ih n (omega (arith, h)) in (omega (arith, r.0), omega (arith, r.1))
    go false n h ih = let r : (k + 1 ≤ get_or X n 0) × (get_or X n 0 < (k + 1) + length ls) = ih n h in (omega (arith, r.0), omega (arith, r.1))

pub passing_at : (p : Content → Bool) (k : ℕ) (ls : List Line) (n : ℕ) (d : Line) → n < length (places p k ls) → nth (passing p ls) n ≡ Some (get_or ls (get_or (places p k ls) n 0 - k) d)
passing_at p k [] n d h = absurd (omega (arith, h))
passing_at p k (l ∷ ls) n d h = go (p l.content) n h (λ n g. passing_at p (k + 1) ls n d g) (λ n g. (place_within p (k + 1) ls n g).0)
  where
    X : List ℕ
    X = places p (k + 1) ls

    later : (x : ℕ) → k + 1 ≤ x → get_or (l ∷ ls) (x - k) d ≡ get_or ls (x - (k + 1)) d
    later x h = let e : x - k ≡ suc (x - (k + 1)) = omega (arith, h) in ap (λ i. get_or (l ∷ ls) i d) e

    go : (b : Bool) (n : ℕ) → n < length (cond b (k ∷ X) X) → ((n : ℕ) → n < length X → nth (passing p ls) n ≡ Some (get_or ls (get_or X n 0 - (k + 1)) d)) → ((n : ℕ) → n < length X → k + 1 ≤ get_or X n 0)
        → nth (cond b (l ∷ passing p ls) (passing p ls)) n ≡ Some (get_or (l ∷ ls) (get_or (cond b (k ∷ X) X) n 0 - k) d)
    go true zero h ih above = let e : 0 ≡ k - k = omega arith in ap (λ i. Some (get_or (l ∷ ls) i d)) e
    go true (suc n) h ih above =
        let lt : n < length X = omega (arith, h) in
        ih n lt ∙ ap Some (sym (later (get_or X n 0) (above n lt)))
    go false n h ih above = ih n h ∙ ap Some (sym (later (get_or X n 0) (above n h)))

-- two lists, one of which gives the other
matched : {A B : Type 0} (f : B → Option A) (xs : List A) (ys : List B) → map Some xs ≡ map f ys → (n : ℕ) (y : B) → nth ys n ≡ Some y → f y ≡ nth xs n
matched f [] [] e n y h = let clash : None ≡ Some y = h in cc
matched f [] (z ∷ ys) e n y h = cc
matched f (x ∷ xs) [] e n y h = cc
matched f (x ∷ xs) (z ∷ ys) e zero y h = let first : Some x ≡ f z = cc in let same : z ≡ y = cc in sym (first ∙ ap f same)
matched f (x ∷ xs) (z ∷ ys) e (suc n) y h = let rest : map Some xs ≡ map f ys = cc in matched f xs ys rest n y h

-- a place of a kind is that of a line
pub place_below : (p : Content → Bool) (ls : List Line) (xs : List ℕ) (n : ℕ) → xs ≡ places p 0 ls → n < length xs → get_or xs n 0 < length ls
place_below p ls xs n e h =
    let lt : n < length (places p 0 ls) = subst (λ X. n < length X) e h in
    let r : (0 ≤ get_or (places p 0 ls) n 0) × (get_or (places p 0 ls) n 0 < 0 + length ls) = place_within p 0 ls n lt in
    subst (λ X. get_or X n 0 < length ls) (sym e) (omega (arith, r.1))

line_at : (p : Content → Bool) (ls : List Line) (xs : List ℕ) (n : ℕ) (d : Line) → xs ≡ places p 0 ls → n < length xs → nth (passing p ls) n ≡ Some (get_or ls (get_or xs n 0) d)
line_at p ls xs n d e h =
    let lt : n < length (places p 0 ls) = subst (λ X. n < length X) e h in
    let same : get_or (places p 0 ls) n 0 - 0 ≡ get_or (places p 0 ls) n 0 = omega arith in
    passing_at p 0 ls n d lt ∙ ap (λ i. Some (get_or ls i d)) (same ∙ ap (λ X. get_or X n 0) (sym e))

pub found : {A : Type 0} (K : Kind A) (ts : List Expression) (ls : List Line) (xs : List ℕ) (n : ℕ) (d : Line) → xs ≡ places K.passes 0 ls → n < length xs
    → K.adds ts (get_or ls (get_or xs n 0) d).content ≡ nth (K.all (items_in ts ls)) n
found K ts ls xs n d e h = matched (λ (l : Line). K.adds ts l.content) (K.all (items_in ts ls)) (passing K.passes ls) (kind_passing K ts ls) n (get_or ls (get_or xs n 0) d) (line_at K.passes ls xs n d e h)

pub below_at : (n : ℕ) (ls : List Line) (i : ℕ) (d : Line) → AllLinesBelow n ls → i < length ls → ContentBelow n (get_or ls i d).content
below_at n [] i d h lt = absurd (omega (arith, lt))
below_at n (l ∷ ls) zero d h lt = h.0
below_at n (l ∷ ls) (suc i) d h lt = below_at n ls i d h.1 (omega (arith, lt))

-- the same, as the code reads it
other_default : {A : Type 0} (xs : List A) (i : ℕ) (d e : A) → i < length xs → get_or xs i d ≡ get_or xs i e
other_default [] i d e h = absurd (omega (arith, h))
other_default (x ∷ xs) zero d e h = refl
other_default (x ∷ xs) (suc i) d e h = other_default xs i d e (omega (arith, h))

pub read_below : (p : Content → Bool) (ls : List Line) (xs : List ℕ) (n x : ℕ) → xs ≡ places p 0 ls → n < length xs → x ≡ get_or xs n x → x < length ls
read_below p ls xs n x e h is = subst (λ i. i < length ls) (sym (is ∙ other_default xs n x 0 h)) (place_below p ls xs n e h)

same_line : (ls : List Line) (xs : List ℕ) (n x : ℕ) (l : Line) → n < length xs → x ≡ get_or xs n x → l ≡ get_or ls x l → l ≡ get_or ls (get_or xs n 0) l
same_line ls xs n x l h is at = at ∙ ap (λ i. get_or ls i l) (is ∙ other_default xs n x 0 h)

pub read : {A : Type 0} (K : Kind A) (ts : List Expression) (ls : List Line) (xs : List ℕ) (n x : ℕ) (l : Line) → xs ≡ places K.passes 0 ls → n < length xs → x ≡ get_or xs n x → l ≡ get_or ls x l
    → K.adds ts l.content ≡ nth (K.all (items_in ts ls)) n
read K ts ls xs n x l e h is at = ap (λ (l : Line). K.adds ts l.content) (same_line ls xs n x l h is at) ∙ found K ts ls xs n l e h

-- the line of the variable of a number
pub record FoundVariable (ts : List Expression) (k : ℕ) (ls : List Line) (v i : ℕ) (x : VarItem) : Type 0 where
  pub place : place_numbered k ls v ≡ Some i
  pub from : k ≤ i
  pub within : i < k + length ls
  pub numbered : x.number ≡ v
  pub here : (d : Line) → (get_or ls (i - k) d).content ≡ Variable x
  pub named : variable_numbered (variables_in (items_in ts ls)) v ≡ Some (x.name, x.ty)

abbrev pub Decided : List Expression → ℕ → List Line → ℕ → Type 0
Decided ts k ls v = ((place_numbered k ls v ≡ None) × (variable_numbered (variables_in (items_in ts ls)) v ≡ None)) ⊎ ((i : ℕ) × (x : VarItem) × FoundVariable ts k ls v i x)

pub variable_decided : (ts : List Expression) (k : ℕ) (ls : List Line) (v : ℕ) → Decided ts k ls v
variable_decided ts k [] v = inl (refl, refl)
variable_decided ts k (l ∷ ls) v = go l.content refl (variable_decided ts (k + 1) ls v)
  where
    later : (i : ℕ) (d : Line) → k + 1 ≤ i → get_or (l ∷ ls) (i - k) d ≡ get_or ls (i - (k + 1)) d
    later i d h = let e : i - k ≡ suc (i - (k + 1)) = omega (arith, h) in ap (λ j. get_or (l ∷ ls) j d) e

    V : List (ℕ × Name × ℕ)
    V = variables_in (items_in ts ls)

    past : (c : Content) → l.content ≡ c → ((o : Option ℕ) → place_if_numbered c k v o ≡ o) → variable_numbered (variables_in (item_in ts c ∷ items_in ts ls)) v ≡ variable_numbered V v
        → Decided ts (k + 1) ls v → Decided ts k (l ∷ ls) v
    past c e skip same (inl h) = inl (ap (λ c. place_if_numbered c k v (place_numbered (k + 1) ls v)) e ∙ skip (place_numbered (k + 1) ls v) ∙ h.0, ap (λ c. variable_numbered (variables_in (item_in ts c ∷ items_in ts ls)) v) e ∙ same ∙ h.1)
    past c e skip same (inr h) =
        let f : FoundVariable ts (k + 1) ls v h.0 h.1 = h.2 in
        inr (
          h.0,
          h.1,
          record {
            place = ap (λ c. place_if_numbered c k v (place_numbered (k + 1) ls v)) e ∙ skip (place_numbered (k + 1) ls v) ∙ f.place;
            from = omega (arith, f.from);
            within = omega (arith, f.within);
            numbered = f.numbered;
            here = λ d. ap (λ (m : Line). m.content) (later h.0 d f.from) ∙ f.here d;
            named = ap (λ c. variable_numbered (variables_in (item_in ts c ∷ items_in ts ls)) v) e ∙ same ∙ f.named;
          },
        )

    variable_case : (y : VarItem) → l.content ≡ Variable y → Decided ts (k + 1) ls v → ((nat_eq y.number v ≡ true) × (y.number ≡ v)) ⊎ ((nat_eq y.number v ≡ false) × (y.number ≢ v)) → Decided ts k (l ∷ ls) v
    variable_case y e ih (inl t) = inr (
      k,
      y,
      record {
        place = ap (λ c. place_if_numbered c k v (place_numbered (k + 1) ls v)) e ∙ ap (λ b. cond b (Some k) (place_numbered (k + 1) ls v)) t.0;
        from = omega arith;
        within = omega arith;
        numbered = t.1;
        here = λ d. let z : k - k ≡ 0 = omega arith in ap (λ j. (get_or (l ∷ ls) j d).content) z ∙ e;
        named = ap (λ c. variable_numbered (variables_in (item_in ts c ∷ items_in ts ls)) v) e ∙ ap (λ b. cond b (Some (y.name, y.ty)) (variable_numbered V v)) t.0;
      },
    )
    variable_case y e ih (inr f) = past (Variable y) e (λ o. ap (λ b. cond b (Some k) o) f.0) (ap (λ b. cond b (Some (y.name, y.ty)) (variable_numbered V v)) f.0) ih

    go : (c : Content) → l.content ≡ c → Decided ts (k + 1) ls v → Decided ts k (l ∷ ls) v
    go (Variable y) e ih = variable_case y e ih (eqb_tells y.number v)
    go (Metavariable y) e ih = past (Metavariable y) e (λ o. refl) refl ih
    go (Rule y) e ih = past (Rule y) e (λ o. refl) refl ih
    go (Thesis y S s) e ih = past (Thesis y S s) e (λ o. refl) refl ih
    go (Boundary y S s) e ih = past (Boundary y S s) e (λ o. refl) refl ih
    go (Shown j) e ih = past (Shown j) e (λ o. refl) refl ih

-- the number of a line
pub numbered_at : (p : Content → Bool) (n : ℕ) (ls : List Line) (i : ℕ) (d : Line) → AreNumbered p n ls → i < length ls → p (get_or ls i d).content ≡ true → (get_or ls i d).number ≡ n + length (passing p (take i ls))
numbered_at p n [] i d h lt t = absurd (omega (arith, lt))
numbered_at p n (l ∷ ls) zero d h lt t = let z : n ≡ n + 0 = omega arith in h.0 t ∙ z
numbered_at p n (l ∷ ls) (suc i) d h lt t = go (p l.content) h.1 (λ j g. numbered_at p j ls i d g (omega (arith, lt)) t)
  where
    P : List Line
    P = passing p (take i ls)

    go : (b : Bool) → AreNumbered p (cond b (n + 1) n) ls → ((j : ℕ) → AreNumbered p j ls → (get_or ls i d).number ≡ j + length P) → (get_or ls i d).number ≡ n + length (cond b (l ∷ P) P)
    go true h ih = let one : (n + 1) + length P ≡ n + length (l ∷ P) = omega arith in ih (n + 1) h ∙ one
    go false h ih = ih n h

pub item_at : (ts : List Expression) (ls : List Line) (i : ℕ) (d : Line) → i < length ls → nth (items_in ts ls) i ≡ Some (item_in ts (get_or ls i d).content)
item_at ts [] i d h = absurd (omega (arith, h))
item_at ts (l ∷ ls) zero d h = refl
item_at ts (l ∷ ls) (suc i) d h = item_at ts ls i d (omega (arith, h))
