-- A list of lines with one more line.
use Rattle.std.proofs.Common.{◌≡◌, ◌≢◌, ℕ, ◌+◌, ◌<◌, max, nat_eq, nat_lt, Bool, true, false, cond, Option, Some, None, List, [], ◌∷◌, ◌++◌, refl, sym, ap, ap₂, ◌⊎◌, inl, inr, ◌∙◌, subst, length, map, arith}
use Rattle.std.proofs.lemmas.List.{map-append, append-nil}
use Rattle.ft_theory.specs.Expressions.{Expression}
use Rattle.ft_items.specs.Item.{Name, Item, variable, metavariable, rule, entry, shown}
use Rattle.ft_items.specs.Store.{variables_in, rules_in}
use Rattle.ft_items.proofs.SetLemmas.{both, wrong}
use Rattle.ft_kernel.specs.State.{next_number, rule_names}
use Rattle.ft_kernel.specs.Lines.{item_in, items_in, ContentBelow, AllLinesBelow, is_rule, places, place_if_numbered, place_numbered, AreNumbered}
use Rattle.ft_kernel.specs.declared.line.Content.{Content}
use Rattle.ft_kernel.specs.declared.line.Content.TheVariants.{Variable, Metavariable, Rule, Thesis, Boundary, Shown}
use Rattle.ft_kernel.specs.declared.line.Line.{Line}
use Rattle.ft_kernel.specs.declared.item.VarItem.{VarItem}
use Rattle.ft_kernel.specs.declared.item.RuleItem.{RuleItem}
use Rattle.std.proofs.lemmas.Bool.{eq-eqb, ltb-true, ne_eqb}
use Rattle.ft_items.specs.Store.{Annotation}
use Rattle.ft_items.specs.Good.{is_next}
use Rattle.std.proofs.lemmas.Bool.Decides.{eqb_tells}

pub items_last : (ts : List Expression) (ls : List Line) (l : Line) → items_in ts (ls ++ l ∷ []) ≡ items_in ts ls ++ item_in ts l.content ∷ []
items_last ts ls l = map-append (λ (l : Line). item_in ts l.content) ls (l ∷ [])

-- where lines of a kind stand
pub places_more : (p : Content → Bool) (k : ℕ) (ls : List Line) (l : Line) → p l.content ≡ true → places p k (ls ++ l ∷ []) ≡ places p k ls ++ (k + length ls) ∷ []
places_more p k [] l e = let z : k ≡ k + 0 = omega arith in ap (λ b. cond b (k ∷ []) []) e ∙ ap (λ n. n ∷ []) z
places_more p k (m ∷ ls) l e = go (p m.content) (places_more p (k + 1) ls l e ∙ ap (λ n. places p (k + 1) ls ++ n ∷ []) here)
  where
    here : (k + 1) + length ls ≡ k + length (m ∷ ls)
    here = omega arith

    go : (b : Bool) → places p (k + 1) (ls ++ l ∷ []) ≡ places p (k + 1) ls ++ (k + length (m ∷ ls)) ∷ []
        → cond b (k ∷ places p (k + 1) (ls ++ l ∷ [])) (places p (k + 1) (ls ++ l ∷ [])) ≡ cond b (k ∷ places p (k + 1) ls) (places p (k + 1) ls) ++ (k + length (m ∷ ls)) ∷ []
    go true rest = ap (λ X. k ∷ X) rest
    go false rest = rest

pub places_same : (p : Content → Bool) (k : ℕ) (ls : List Line) (l : Line) → p l.content ≡ false → places p k (ls ++ l ∷ []) ≡ places p k ls
places_same p k [] l e = ap (λ b. cond b (k ∷ []) []) e
places_same p k (m ∷ ls) l e = go (p m.content) (places_same p (k + 1) ls l e)
  where
    go : (b : Bool) → places p (k + 1) (ls ++ l ∷ []) ≡ places p (k + 1) ls
        → cond b (k ∷ places p (k + 1) (ls ++ l ∷ [])) (places p (k + 1) (ls ++ l ∷ [])) ≡ cond b (k ∷ places p (k + 1) ls) (places p (k + 1) ls)
    go true rest = ap (λ X. k ∷ X) rest
    go false rest = rest

-- their numbers
pub numbered_last : (p : Content → Bool) (n k : ℕ) (ls : List Line) (l : Line) → AreNumbered p n ls → (p l.content ≡ true → l.number ≡ n + length (places p k ls)) → AreNumbered p n (ls ++ l ∷ [])
numbered_last p n k [] l h e = ((λ t. let z : n + 0 ≡ n = omega arith in e t ∙ z), tt)
numbered_last p n k (m ∷ ls) l h e = (h.0, go (p m.content) refl h.1 (λ j g f. numbered_last p j (k + 1) ls l g f))
  where
    go : (b : Bool) → p m.content ≡ b → AreNumbered p (cond b (n + 1) n) ls
        → ((j : ℕ) → AreNumbered p j ls → (p l.content ≡ true → l.number ≡ j + length (places p (k + 1) ls)) → AreNumbered p j (ls ++ l ∷ []))
        → AreNumbered p (cond b (n + 1) n) (ls ++ l ∷ [])
    go true q h ih = ih (n + 1) h
        (λ t. let one : n + length (k ∷ places p (k + 1) ls) ≡ (n + 1) + length (places p (k + 1) ls) = omega arith in
        e t ∙ ap (λ b. n + length (cond b (k ∷ places p (k + 1) ls) (places p (k + 1) ls))) q ∙ one)
    go false q h ih = ih n h (λ t. e t ∙ ap (λ b. n + length (cond b (k ∷ places p (k + 1) ls) (places p (k + 1) ls))) q)

pub below_last : (n : ℕ) (ls : List Line) (l : Line) → AllLinesBelow n ls → ContentBelow n l.content → AllLinesBelow n (ls ++ l ∷ [])
below_last n [] l h c = (c, tt)
below_last n (m ∷ ls) l h c = (h.0, below_last n ls l h.1 c)

-- the place of the variable of a number
pub place_same : (k : ℕ) (ls : List Line) (l : Line) (v : ℕ) → ((k : ℕ) (later : Option ℕ) → place_if_numbered l.content k v later ≡ later) → place_numbered k (ls ++ l ∷ []) v ≡ place_numbered k ls v
place_same k [] l v e = e k None
place_same k (m ∷ ls) l v e = ap (place_if_numbered m.content k v) (place_same (k + 1) ls l v e)

place_in_front : (c : Content) (x : VarItem) (k n v : ℕ) (other rest : Option ℕ) → place_if_numbered c k x.number other ≡ None
    → place_if_numbered c k v (cond (nat_eq x.number v) (Some n) rest) ≡ cond (nat_eq x.number v) (Some n) (place_if_numbered c k v rest)
place_in_front (Variable y) x k n v other rest h = go (eqb_tells y.number v) (eqb_tells x.number v)
  where
    differs : y.number ≡ v → x.number ≡ v → ⊥
    differs e f =
        let same : nat_eq y.number x.number ≡ true = eq-eqb y.number x.number (e ∙ sym f) in
        let clash : Some k ≡ None = ap (λ b. cond b (Some k) other) (sym same) ∙ h in
        cc

    go : ((nat_eq y.number v ≡ true) × (y.number ≡ v)) ⊎ ((nat_eq y.number v ≡ false) × (y.number ≢ v))
        → ((nat_eq x.number v ≡ true) × (x.number ≡ v)) ⊎ ((nat_eq x.number v ≡ false) × (x.number ≢ v))
        → cond (nat_eq y.number v) (Some k) (cond (nat_eq x.number v) (Some n) rest) ≡ cond (nat_eq x.number v) (Some n) (cond (nat_eq y.number v) (Some k) rest)
    go (inl e) (inl f) = absurd (differs e.1 f.1)
    go (inl e) (inr f) =
        ap (λ b. cond b (Some k) (cond (nat_eq x.number v) (Some n) rest)) e.0
        ∙ sym (ap₂ (λ b c. cond b (Some n) (cond c (Some k) rest)) f.0 e.0)
    go (inr e) f =
        ap (λ b. cond b (Some k) (cond (nat_eq x.number v) (Some n) rest)) e.0
        ∙ sym (ap (λ c. cond (nat_eq x.number v) (Some n) (cond c (Some k) rest)) e.0)
place_in_front (Metavariable y) x k n v other rest h = refl
place_in_front (Rule y) x k n v other rest h = refl
place_in_front (Thesis y S s) x k n v other rest h = refl
place_in_front (Boundary y S s) x k n v other rest h = refl
place_in_front (Shown j) x k n v other rest h = refl

place_of_rest : (c : Content) (k v : ℕ) (rest : Option ℕ) → place_if_numbered c k v rest ≡ None → rest ≡ None
place_of_rest (Variable y) k v rest h = go (nat_eq y.number v) h
  where
    go : (b : Bool) → cond b (Some k) rest ≡ None → rest ≡ None
    go true h = let clash : Some k ≡ None = h in cc
    go false h = h
place_of_rest (Metavariable y) k v rest h = h
place_of_rest (Rule y) k v rest h = h
place_of_rest (Thesis y S s) k v rest h = h
place_of_rest (Boundary y S s) k v rest h = h
place_of_rest (Shown j) k v rest h = h

pub place_more : (k : ℕ) (ls : List Line) (i : ℕ) (x : VarItem) (v : ℕ) → place_numbered k ls x.number ≡ None
    → place_numbered k (ls ++ record { number = i; content = Variable x } ∷ []) v ≡ cond (nat_eq x.number v) (Some (k + length ls)) (place_numbered k ls v)
place_more k [] i x v h = let z : k ≡ k + 0 = omega arith in ap (λ n. cond (nat_eq x.number v) (Some n) None) z
place_more k (m ∷ ls) i x v h =
    let here : (k + 1) + length ls ≡ k + length (m ∷ ls) = omega arith in
    ap (place_if_numbered m.content k v) (place_more (k + 1) ls i x v (place_of_rest m.content k x.number (place_numbered (k + 1) ls x.number) h))
    ∙ place_in_front m.content x k ((k + 1) + length ls) v (place_numbered (k + 1) ls x.number) (place_numbered (k + 1) ls v) h
    ∙ ap (λ n. cond (nat_eq x.number v) (Some n) (place_numbered k (m ∷ ls) v)) here

-- the next number
pub variables_last : (items : List Item) (i : Item) → variables_in (items ++ i ∷ []) ≡ variables_in items ++ variables_in (i ∷ [])
variables_last [] i = refl
variables_last (variable v n p ∷ items) i = ap (λ X. (v, n, p) ∷ X) (variables_last items i)
variables_last (metavariable n p ∷ items) i = variables_last items i
variables_last (rule n ms p ∷ items) i = variables_last items i
variables_last (entry e ∷ items) i = variables_last items i
variables_last (shown p ∷ items) i = variables_last items i

pub next_more : (vs : List (ℕ × Name × ℕ)) (v : ℕ) (n : Name) (p : ℕ) → next_number (vs ++ (v, n, p) ∷ []) ≡ max (next_number vs) (v + 1)
next_more [] v n p = omega arith
next_more (w ∷ vs) v n p = ap (max (w.0 + 1)) (next_more vs v n p) ∙ max_turn (w.0 + 1) (next_number vs) (v + 1)
  where
    max_turn : (a b c : ℕ) → max a (max b c) ≡ max (max a b) c
    max_turn a b c = omega arith

-- the names of the rules
pub rules_last : (items : List Item) (i : Item) → rules_in (items ++ i ∷ []) ≡ rules_in items ++ rules_in (i ∷ [])
rules_last [] i = refl
rules_last (variable v n p ∷ items) i = rules_last items i
rules_last (metavariable n p ∷ items) i = rules_last items i
rules_last (rule n ms p ∷ items) i = ap (λ X. (n, ms, p) ∷ X) (rules_last items i)
rules_last (entry e ∷ items) i = rules_last items i
rules_last (shown p ∷ items) i = rules_last items i

no_rule : (ts : List Expression) (c : Content) → is_rule c ≡ false → rules_in (item_in ts c ∷ []) ≡ []
no_rule ts (Variable x) e = refl
no_rule ts (Metavariable x) e = refl
no_rule ts (Rule x) e = wrong (sym e)
no_rule ts (Thesis x S s) e = refl
no_rule ts (Boundary x S s) e = refl
no_rule ts (Shown j) e = refl

names_last : (ts : List Expression) (ls : List Line) (l : Line) → rule_names (items_in ts (ls ++ l ∷ [])) ≡ rule_names (items_in ts ls) ++ rule_names (item_in ts l.content ∷ [])
names_last ts ls l =
    ap rule_names (items_last ts ls l)
    ∙ ap (map (λ (x : Name × List ℕ × ℕ). x.0)) (rules_last (items_in ts ls) (item_in ts l.content))
    ∙ map-append (λ (x : Name × List ℕ × ℕ). x.0) (rules_in (items_in ts ls)) (rules_in (item_in ts l.content ∷ []))

pub names_same : (ts : List Expression) (ls : List Line) (l : Line) → is_rule l.content ≡ false → rule_names (items_in ts (ls ++ l ∷ [])) ≡ rule_names (items_in ts ls)
names_same ts ls l e =
    names_last ts ls l ∙ ap (λ X. rule_names (items_in ts ls) ++ map (λ (x : Name × List ℕ × ℕ). x.0) X) (no_rule ts l.content e)
    ∙ append-nil (rule_names (items_in ts ls))

pub names_more : (ts : List Expression) (ls : List Line) (i : ℕ) (x : RuleItem) → rule_names (items_in ts (ls ++ record { number = i; content = Rule x } ∷ [])) ≡ rule_names (items_in ts ls) ++ x.name ∷ []
names_more ts ls i x = names_last ts ls (record { number = i; content = Rule x })

-- no line has the number of a variable that may come next
pub none_numbered : (ts : List Expression) (k : ℕ) (ls : List Line) (v : ℕ) (f : ℕ × Name × ℕ → ℕ × Annotation) → ((x : ℕ × Name × ℕ) → (f x).0 ≡ x.0)
    → is_next (map f (variables_in (items_in ts ls))) v ≡ true → place_numbered k ls v ≡ None
none_numbered ts k [] v f same h = refl
none_numbered ts k (l ∷ ls) v f same h = go l.content h (λ g. none_numbered ts (k + 1) ls v f same g)
  where
    go : (c : Content) → is_next (map f (variables_in (item_in ts c ∷ items_in ts ls))) v ≡ true → (is_next (map f (variables_in (items_in ts ls))) v ≡ true → place_numbered (k + 1) ls v ≡ None)
        → place_if_numbered c k v (place_numbered (k + 1) ls v) ≡ None
    go (Variable x) h ih =
        let parts : (nat_lt (f (x.number, x.name, x.ty)).0 v ≡ true) × (is_next (map f (variables_in (items_in ts ls))) v ≡ true) = both _ _ h in
        let less : x.number < v = subst (λ n. n < v) (same (x.number, x.name, x.ty)) (ltb-true (f (x.number, x.name, x.ty)).0 v parts.0) in
        let differs : nat_eq x.number v ≡ false = ne_eqb x.number v (λ e. omega (arith, e, less)) in
        ap (λ b. cond b (Some k) (place_numbered (k + 1) ls v)) differs ∙ ih parts.1
    go (Metavariable x) h ih = ih h
    go (Rule x) h ih = ih h
    go (Thesis x S s) h ih = ih h
    go (Boundary x S s) h ih = ih h
    go (Shown j) h ih = ih h
