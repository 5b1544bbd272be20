-- A list with one more item has what it had.
use Rattle.std.proofs.Common.{◌≡◌, ℕ, nat_eq, Bool, true, false, cond, Some, None, List, [], ◌∷◌, ◌++◌, ap, ◌∙◌}
use Rattle.ft_items.specs.Item.{Name, Item}
use Rattle.ft_items.specs.Store.{Assertion, nth, entries_in, variables_in, metavariables_in, rules_in}
use Rattle.ft_items.proofs.Lists.{nth_before, entries_append, metavariables_append}
use Rattle.ft_kernel.specs.State.{State, with_item, entry_at, variable_numbered}
use Rattle.ft_kernel.proofs.Grows.{variables_last, rules_last}

numbered_before : (vs ws : List (ℕ × Name × ℕ)) (v : ℕ) (x : Name × ℕ) → variable_numbered vs v ≡ Some x → variable_numbered (vs ++ ws) v ≡ Some x
numbered_before [] ws v x h = let clash : None ≡ Some x = h in cc
numbered_before (w ∷ vs) ws v x h = go (nat_eq w.0 v) h (λ g. numbered_before vs ws v x g)
  where
    go : (b : Bool) → cond b (Some (w.1, w.2)) (variable_numbered vs v) ≡ Some x → (variable_numbered vs v ≡ Some x → variable_numbered (vs ++ ws) v ≡ Some x)
        → cond b (Some (w.1, w.2)) (variable_numbered (vs ++ ws) v) ≡ Some x
    go true h ih = h
    go false h ih = ih h

pub entry_stays : (s : State) (i : Item) (n : ℕ) (a : Assertion) → entry_at s n ≡ Some a → entry_at (with_item s i) n ≡ Some a
entry_stays s i n a h = ap (λ X. nth X n) (entries_append s.items (i ∷ [])) ∙ nth_before (entries_in s.items) (entries_in (i ∷ [])) n a h

pub variable_stays : (s : State) (i : Item) (v : ℕ) (x : Name × ℕ) → variable_numbered (variables_in s.items) v ≡ Some x → variable_numbered (variables_in (with_item s i).items) v ≡ Some x
variable_stays s i v x h = ap (λ X. variable_numbered X v) (variables_last s.items i) ∙ numbered_before (variables_in s.items) (variables_in (i ∷ [])) v x h

pub metavariable_stays : (s : State) (i : Item) (m : ℕ) (x : Name × ℕ) → nth (metavariables_in s.items) m ≡ Some x → nth (metavariables_in (with_item s i).items) m ≡ Some x
metavariable_stays s i m x h = ap (λ X. nth X m) (metavariables_append s.items (i ∷ [])) ∙ nth_before (metavariables_in s.items) (metavariables_in (i ∷ [])) m x h

pub rule_stays : (s : State) (i : Item) (r : ℕ) (x : Name × List ℕ × ℕ) → nth (rules_in s.items) r ≡ Some x → nth (rules_in (with_item s i).items) r ≡ Some x
rule_stays s i r x h = ap (λ X. nth X r) (rules_last s.items i) ∙ nth_before (rules_in s.items) (rules_in (i ∷ [])) r x h
