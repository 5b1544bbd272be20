-- What is stated at a place.
use Rattle.std.proofs.Common.{◌≡◌, ℕ, false, Some, List, refl, sym, ap, ◌∙◌, subst, Option}
use Rattle.ft_theory.specs.Expressions.{Expression}
use Rattle.ft_items.specs.Item.{Name, Item}
use Rattle.ft_items.specs.Store.{nth}
use Rattle.ft_items.proofs.SetLemmas.{wrong'}
use Rattle.ft_stated.specs.Lines.{item_in}
use Rattle.ft_stated.specs.Places.{is_entry}
use Rattle.ft_stated.specs.declared.stated.Stated.{Stated}
use Rattle.ft_stated.specs.declared.stated.Stated.TheVariants.{Var, Met, Rule, Thesis, Boundary, Shown}
use Rattle.ft_check.specs.Rejects.{IsReason}
use Rattle.ft_check.specs.declared.reject.Reject.{Reject}

-- an item without a step is of one of four kinds
pub without_step : (ts : List Expression) (s : Stated) → is_entry (item_in ts s) ≡ false
    → ((v : ℕ) (n : Name) (p : ℕ) → s ≡ Var v n p → ⊥) → ((n : Name) (p : ℕ) → s ≡ Met n p → ⊥) → ((n : Name) (ms : List ℕ) (p : ℕ) → s ≡ Rule n ms p → ⊥) → ((p : ℕ) → s ≡ Shown p → ⊥) → ⊥
without_step ts (Var v n p) e a b c d = a v n p refl
without_step ts (Met n p) e a b c d = b n p refl
without_step ts (Rule n ms p) e a b c d = c n ms p refl
without_step ts (Thesis x S s) e a b c d = wrong' e
without_step ts (Boundary x S s) e a b c d = wrong' e
without_step ts (Shown p) e a b c d = d p refl

-- a reason against what is stated at the place is one against the item there
pub against_item : (ts : List Expression) (items before : List Item) (i : ℕ) (s t : Stated) (x : Item) (r : Option Reject) → nth items i ≡ Some (item_in ts s) → nth items i ≡ Some x → s ≡ t → IsReason before (item_in ts t) r → IsReason before x r
against_item ts items before i s t x r h g e reason =
    let both : Some (item_in ts s) ≡ Some x = sym h ∙ g in
    let same : item_in ts s ≡ x = cc in
    subst (λ (y : Item). IsReason before y r) (ap (item_in ts) (sym e) ∙ same) reason
