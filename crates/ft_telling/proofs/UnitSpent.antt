-- Units that are spent, and variables that are declared.
use Rattle.std.proofs.Common.{◌≡◌, ◌∙◌, ◌-◌, ◌+◌, ◌<◌, ◌≤◌, ap, ap₂, sym, ℕ, suc, arith, Bool, true, false}
use Rattle.std.specs.Prelude.{Ok, Err, IsTrue, ◌↔◌, if◌then◌else◌}
use Rattle.ft_common.proofs.Booleans.{true_false}
use Rattle.ft_equality.specs.Shapes.{no_rules}
use Rattle.ft_items.specs.Store.{declared_by}
use Rattle.ft_base.specs.Budget.{Budget}
use Rattle.ft_meaning.specs.Values.{Outcome, spend, halts, spent, State as Running}
use Rattle.ft_kernel.specs.State.{State}
use Rattle.ft_telling.specs.Telling.{state_of}

-- a run of a list with so many units used and left
abbrev counted : State → ℕ → ℕ → Running
counted s used left = record { declarations = declared_by s.items; equality_rules = no_rules; units = record { used = used; left = left } }

spent_from : (s : State) (at used left m : ℕ) → left ≡ suc m → spend at (counted s used left) ≡ (Ok tt, counted s (suc used) m)
spent_from s at used left m h = ap (λ l. spend at (counted s used l)) h

-- a unit is left
spent_one : (s : State) (at : ℕ) (u v : Budget) → u.used < u.total → v.used ≡ u.used + 1 → v.total ≡ u.total
    → spend at (state_of s u) ≡ (Ok tt, state_of s v)
spent_one s at u v some used total =
    let left : u.total - u.used ≡ suc (v.total - v.used) = omega arith in
    let more : suc u.used ≡ v.used = omega arith in
    spent_from s at u.used (u.total - u.used) (v.total - v.used) left
    ∙ ap (λ n. (Ok tt, counted s n (v.total - v.used))) more

-- none is left
no_unit : State → ℕ → ℕ → ℕ → Outcome (Unit {0})
no_unit s at used left = (Err (halts (spent at)), counted s used left)

none_from : (s : State) (at used left : ℕ) → left ≡ 0 → spend at (counted s used left) ≡ no_unit s at used 0
unfolding no_unit
none_from s at used left h = ap (λ l. spend at (counted s used l)) h

spent_none : (s : State) (at : ℕ) (u v : Budget) → u.total ≤ u.used → v.used ≡ u.used → v.total ≡ u.total
    → spend at (state_of s u) ≡ (Err (halts (spent at)), state_of s v)
unfolding no_unit
spent_none s at u v none used total =
    let gone : u.total - u.used ≡ 0 = omega arith in
    let left : 0 ≡ v.total - v.used = omega arith in
    none_from s at u.used (u.total - u.used) gone
    ∙ ap₂ (λ n l. no_unit s at n l) (sym used) left

-- by the answer of the budget
pub unit_spent : (s : State) (at : ℕ) (u v : Budget) (b : Bool) → (IsTrue b ↔ (u.used < u.total)) → v.used ≡ (if b then u.used + 1 else u.used) → v.total ≡ u.total → b ≡ true
    → spend at (state_of s u) ≡ (Ok tt, state_of s v)
unit_spent s at u v b is used total holds =
    spent_one s at u v (is.0 holds) (used ∙ ap (λ b. if b then u.used + 1 else u.used) holds) total

pub unit_missing : (s : State) (at : ℕ) (u v : Budget) (b : Bool) → (IsTrue b ↔ (u.used < u.total)) → v.used ≡ (if b then u.used + 1 else u.used) → v.total ≡ u.total → b ≡ false
    → spend at (state_of s u) ≡ (Err (halts (spent at)), state_of s v)
unit_missing s at u v b is used total fails =
    let none : u.total ≤ u.used = not_less u.used u.total (λ l. true_false (sym (is.1 l) ∙ fails)) in
    spent_none s at u v none (used ∙ ap (λ b. if b then u.used + 1 else u.used) fails) total
  where
    not_less : (m n : ℕ) → (m < n → ⊥) → n ≤ m
    not_less m n h = omega arith
