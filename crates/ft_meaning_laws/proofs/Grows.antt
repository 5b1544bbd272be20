-- Stores grow with each item, and what lists tell.
use Rattle.std.proofs.Common.{◌≡◌, ℕ, suc, ◌<◌, true, Option, Some, None, List, [], ◌∷◌, ◌++◌, refl, sym, ap, ◌∙◌, subst, append_assoc, append-nil, arith}
use Rattle.std.specs.Prelude.{nat_lt}
use Rattle.std.proofs.lemmas.Bool.{ltb-true, lt-ltb, and_parts, and_from}
use Rattle.ft_items.specs.Item.{Name, Item, variable, metavariable, rule, entry, shown}
use Rattle.ft_items.specs.Store.{Assertion, Annotation, Declared, nth, each, entry_named, metavariable_named, add_variable, add_metavariable, add_rule, add, add_all, empty_store, store_of, Declarations, Store}
use Rattle.ft_items.specs.Good.{is_next}
use Rattle.ft_items.proofs.Lists.{store_last, nth_before}
use Rattle.ft_laws.proofs.Rules.{look_before}
use Rattle.ft_sound.proofs.Valid.{Later}
use Rattle.ft_laws.proofs.Admissible.{rule_before}
use Rattle.ft_meaning.specs.Events.{told_by_item, told_from}

-- What is named stays.
pub record GrowsStore (W X : Store) : Type 0 where
  pub entries : (p : ℕ) (a : Assertion) → nth W.entries p ≡ Some a → nth X.entries p ≡ Some a
  pub declarations : Later W.declarations X.declarations

later_self : (W : Declarations) → Later W W
later_self W = record { rules = λ r R q. q; metavariables = λ m d q. q; variables = λ v d q. q }

pub grows_self : (W : Store) → GrowsStore W W
grows_self W = record { entries = λ p a q. q; declarations = later_self W.declarations }

later_then : (W X Y : Declarations) → Later W X → Later X Y → Later W Y
later_then W X Y f g = record {
  rules = λ r R q. g.rules r R (f.rules r R q);
  metavariables = λ m d q. g.metavariables m d (f.metavariables m d q);
  variables = λ v d q. g.variables v d (f.variables v d q);
}

pub grows_then : (W X Y : Store) → GrowsStore W X → GrowsStore X Y → GrowsStore W Y
grows_then W X Y f g = record {
  entries = λ p a q. g.entries p a (f.entries p a q);
  declarations = later_then W.declarations X.declarations Y.declarations f.declarations g.declarations;
}

later_variable : (W : Declarations) (v : ℕ) (n : Name) (o : Option Assertion) → Later W (add_variable W v n o)
later_variable W v n None = later_self W
later_variable W v n (Some a) = record { rules = λ r R q. q; metavariables = λ m d q. q; variables = λ u d q. look_before W.variables _ u d q }

later_metavariable : (W : Declarations) (n : Name) (o : Option Assertion) → Later W (add_metavariable W n o)
later_metavariable W n None = later_self W
later_metavariable W n (Some a) = record { rules = λ r R q. q; metavariables = λ m d q. nth_before W.metavariables _ m d q; variables = λ v d q. q }

later_rule : (W : Declarations) (n : Name) (os : Option (List (ℕ × Declared))) (o : Option Assertion) → Later W (add_rule W n os o)
later_rule W n None o = later_self W
later_rule W n (Some ds) None = later_self W
later_rule W n (Some ds) (Some a) = record { rules = λ r R q. rule_before W.rules _ r R q; metavariables = λ m d q. q; variables = λ v d q. q }

pub grows_add : (W : Store) (i : Item) → GrowsStore W (add W i)
grows_add W (variable v n p) = record { entries = λ q a e. e; declarations = later_variable W.declarations v n (entry_named W p) }
grows_add W (metavariable n p) = record { entries = λ q a e. e; declarations = later_metavariable W.declarations n (entry_named W p) }
grows_add W (rule n ms p) = record { entries = λ q a e. e; declarations = later_rule W.declarations n (each (metavariable_named W.declarations) ms) (entry_named W p) }
grows_add W (entry e) = record { entries = λ p a q. nth_before W.entries _ p a q; declarations = later_self W.declarations }
grows_add W (shown p) = grows_self W

-- what a list tells, and one more item
pub told_last : (W : Store) (items : List Item) (i : Item) → told_from W (items ++ (i ∷ [])) ≡ told_from W items ++ told_by_item (add_all W items) i
told_last W [] i = append-nil (told_by_item W i)
told_last W (j ∷ items) i = ap (λ z. told_by_item W j ++ z) (told_last (add W j) items i) ∙ sym (append_assoc (told_by_item W j) (told_from (add W j) items) (told_by_item (add_all (add W j) items) i))

-- A list grows by items that tell nothing.
pub record Quiet (items after : List Item) : Type 0 where
  pub grows : GrowsStore (store_of items) (store_of after)
  pub tells : told_from empty_store after ≡ told_from empty_store items

pub quiet_self : (items : List Item) → Quiet items items
quiet_self items = record { grows = grows_self (store_of items); tells = refl }

pub quiet_then : (xs ys zs : List Item) → Quiet xs ys → Quiet ys zs → Quiet xs zs
quiet_then xs ys zs f g = record { grows = grows_then (store_of xs) (store_of ys) (store_of zs) f.grows g.grows; tells = g.tells ∙ f.tells }

pub grows_last : (items : List Item) (i : Item) → GrowsStore (store_of items) (store_of (items ++ (i ∷ [])))
grows_last items i = subst (GrowsStore (store_of items)) (sym (store_last empty_store items i)) (grows_add (store_of items) i)

pub quiet_last : (items : List Item) (i : Item) → told_by_item (store_of items) i ≡ [] → Quiet items (items ++ (i ∷ []))
quiet_last items i h = record {
  grows = grows_last items i;
  tells = told_last empty_store items i ∙ ap (λ z. told_from empty_store items ++ z) h ∙ append-nil (told_from empty_store items);
}

-- numbers of variables
pub next_later : (G : List (ℕ × Annotation)) (v : ℕ) → is_next G v ≡ true → is_next G (suc v) ≡ true
next_later [] v h = refl
next_later (p ∷ G) v h =
    let k : (nat_lt p.0 v ≡ true) × (is_next G v ≡ true) = and_parts (nat_lt p.0 v) (is_next G v) h in
    let l : p.0 < v = ltb-true p.0 v k.0 in
    let m : p.0 < suc v = omega arith in
    and_from (nat_lt p.0 (suc v)) (is_next G (suc v)) (lt-ltb p.0 (suc v) m) (next_later G v k.1)

pub next_last : (G : List (ℕ × Annotation)) (v : ℕ) (d : Annotation) → is_next G v ≡ true → is_next (G ++ ((v, d) ∷ [])) (suc v) ≡ true
next_last [] v d h = let m : v < suc v = omega arith in and_from (nat_lt v (suc v)) true (lt-ltb v (suc v) m) refl
next_last (p ∷ G) v d h =
    let k : (nat_lt p.0 v ≡ true) × (is_next G v ≡ true) = and_parts (nat_lt p.0 v) (is_next G v) h in
    let l : p.0 < v = ltb-true p.0 v k.0 in
    let m : p.0 < suc v = omega arith in
    and_from (nat_lt p.0 (suc v)) (is_next (G ++ ((v, d) ∷ [])) (suc v)) (lt-ltb p.0 (suc v) m) (next_last G v d k.1)
