-- The sides of the entries that a step names, one by one.
use Rattle.std.proofs.Common.{◌≡◌, ℕ, zero, suc, ◌+◌, ◌<◌, ◌≤◌, false, ◌&&◌, Option, Some, None, List, [], ◌∷◌, ◌++◌, refl, sym, ap, ◌∙◌, subst, length, drop, get_or}
use Rattle.std.specs.Prelude.{IfSome, IfNone}
use Rattle.std.proofs.lemmas.List.{append_assoc, append-nil, drop_all, map-append}
use Rattle.std.proofs.Math.Bool.{and-false}
use Rattle.ft_theory.specs.Expressions.{Expression}
use Rattle.ft_items.specs.Store.{Assertion, Store, each, entry_named}
use Rattle.ft_items.specs.Rows.{statements}
use Rattle.ft_placing.specs.Sides.{all_have_sides, has_sides, side_in, sides_in, SideBelow, SidesBelow}
use Rattle.ft_placing.specs.declared.sides.At.{At}
use Rattle.ft_placing.specs.declared.sides.Sides.{Sides}
use Rattle.ft_check.proofs.Fits.{each_at, each_length}

-- The first k are found, and the others are to come.
pub record Found (W : Store) (ps : List ℕ) (a : At) (ts : List Expression) (k : ℕ) (ss : List Sides) : Type 0 where
  pub below : SidesBelow (length ts) ss
  pub going : (given : List Assertion) → each (entry_named W) ps ≡ Some given → sides_in a ts ss ++ statements (drop k given) ≡ statements given

pub found_start : (W : Store) (ps : List ℕ) (a : At) (ts : List Expression) → Found W ps a ts 0 []
found_start W ps a ts = record { below = tt; going = λ given h. refl }

push_below : (n : ℕ) (ss : List Sides) (s : Sides) → SidesBelow n ss → SideBelow n s → SidesBelow n (ss ++ s ∷ [])
push_below n [] s h g = (g, tt)
push_below n (r ∷ ss) s h g = (h.0, push_below n ss s h.1 g)

pub found_more : (W : Store) (ps : List ℕ) (a : At) (ts : List Expression) (k p : ℕ) (ss rs : List Sides) (s : Sides) → Found W ps a ts k ss → k < length ps → p ≡ get_or ps k 0 → ((x : Assertion) → entry_named W p ≡ Some x → side_in a ts s ≡ x.statement)
    → SideBelow (length ts) s → rs ≡ ss ++ s ∷ [] → Found W ps a ts (k + 1) rs
found_more W ps a ts k p ss rs s m l e f b q = record {
  below = subst (SidesBelow (length ts)) (sym q) (push_below (length ts) ss s m.below b);
  going = λ given h.
      let x = each_at (entry_named W) ps given k p h l e in
      ap (λ rs. sides_in a ts rs ++ statements (drop (k + 1) given)) q
      ∙ ap (λ xs. xs ++ statements (drop (k + 1) given)) (map-append (side_in a ts) ss (s ∷ []))
      ∙ append_assoc (sides_in a ts ss) (side_in a ts s ∷ []) (statements (drop (k + 1) given))
      ∙ ap (λ y. sides_in a ts ss ++ y ∷ statements (drop (k + 1) given)) (f x.0 x.1)
      ∙ ap (λ xs. sides_in a ts ss ++ statements xs) (sym x.2) ∙ m.going given h;
}

pub found_end : (W : Store) (ps : List ℕ) (a : At) (ts : List Expression) (k : ℕ) (ss : List Sides) (given : List Assertion) → Found W ps a ts k ss → length ps ≤ k → each (entry_named W) ps ≡ Some given → sides_in a ts ss ≡ statements given
found_end W ps a ts k ss given m l h =
    let over : length given ≤ k = subst (λ n. n ≤ k) (sym (each_length (entry_named W) ps given h)) l in
    sym (append-nil (sides_in a ts ss)) ∙ ap (λ xs. sides_in a ts ss ++ statements xs) (sym (drop_all k given over)) ∙ m.going given h

-- one of them has none
later_none : (a : At) (xs : List Assertion) (k : ℕ) → all_have_sides a (statements (drop k xs)) ≡ false → all_have_sides a (statements xs) ≡ false
later_none a [] zero h = h
later_none a [] (suc k) h = h
later_none a (x ∷ xs) zero h = h
later_none a (x ∷ xs) (suc k) h = ap (λ b. has_sides a x.statement && b) (later_none a xs k h) ∙ and-false (has_sides a x.statement)

pub found_none : (W : Store) (ps : List ℕ) (a : At) (k p : ℕ) (given : List Assertion) → each (entry_named W) ps ≡ Some given → k < length ps → p ≡ get_or ps k 0 → ((x : Assertion) → entry_named W p ≡ Some x → has_sides a x.statement ≡ false)
    → all_have_sides a (statements given) ≡ false
found_none W ps a k p given h l e f =
    let x = each_at (entry_named W) ps given k p h l e in
    later_none a given k (ap (λ xs. all_have_sides a (statements xs)) x.2 ∙ ap (λ b. b && all_have_sides a (statements (drop (k + 1) given))) (f x.0 x.1))

-- what is said of what is there, or where nothing is
pub if_some : {A : Type 0} (P Q : A → Type 0) (o : Option A) → ((x : A) → P x → Q x) → IfSome o P → IfSome o Q
if_some P Q None f h = tt
if_some P Q (Some x) f h = f x h

pub if_none : {A P Q : Type 0} (o : Option A) → (P → Q) → IfNone o P → IfNone o Q
if_none None f h = f h
if_none (Some x) f h = tt
