-- What the number of a variable or a metavariable names in the list of a kernel.
use Rattle.std.specs.Prelude.{ℕ, ◌≡◌, Some, true, false}
use Rattle.ft_theory.specs.Rules.{look_up}
use Rattle.ft_items.specs.Item.{Name}
use Rattle.ft_items.specs.Store.{Assertion, declared_variable, declared_metavariable, nth, declared_by}
use Rattle.ft_items.specs.Equal.{is_thesis}
use Rattle.ft_items.specs.Good.{is_plain_type}
use Rattle.ft_kernel.specs.State.{State, entry_at}

-- the variable is declared with the entry of number p, a plain type, as its type
abbrev pub IsVariableAt : State → ℕ → ℕ → Type 0
IsVariableAt s v p = (n : Name) × (a : Assertion) × (entry_at s p ≡ Some a) × (is_plain_type a.statement ≡ true) × (look_up (declared_by s.items).variables v ≡ Some (declared_variable n a))

-- the metavariable is declared with the entry of number p, a boundary, as its boundary
abbrev pub IsMetavariableAt : State → ℕ → ℕ → Type 0
IsMetavariableAt s m p = (n : Name) × (a : Assertion) × (entry_at s p ≡ Some a) × (is_thesis a.statement ≡ false) × (nth (declared_by s.items).metavariables m ≡ Some (declared_metavariable n a))

-- the entry of a number is a plain type
abbrev pub IsPlainTypeAt : State → ℕ → Type 0
IsPlainTypeAt s p = (a : Assertion) × (entry_at s p ≡ Some a) × (is_plain_type a.statement ≡ true)

-- the entry of a number is no plain type
abbrev pub IsNoPlainTypeAt : State → ℕ → Type 0
IsNoPlainTypeAt s p = (a : Assertion) × (entry_at s p ≡ Some a) × (is_plain_type a.statement ≡ false)
