-- What a declaration answers over the list of a kernel, and what it leaves.
use Rattle.std.specs.Prelude.{ℕ, ◌≡◌, List, [], ◌∷◌, ◌++◌, Some, Result, Ok, Err}
use Rattle.ft_items.specs.Item.{Name, Item, variable, metavariable}
use Rattle.ft_items.specs.Store.{Assertion, Declarations, declared_by}
use Rattle.ft_syntax.specs.Table.{Extends}
use Rattle.ft_reference.specs.Refusals as reference
use Rattle.ft_reference.specs.Declare.{Outcome, new_variable, new_metavariable}
use Rattle.ft_judge.specs.declared.fault.Fault.{Fault}
use Rattle.ft_judge.specs.declared.fault.Fault.TheVariants.{Refused, Memory}
use Rattle.ft_kernel.specs.State.{State, entry_at}
use Rattle.ft_calls.specs.Answers.{refusal_in, Stays}

-- The declaration of an item over the first list, of which the reference tells the outcome, has this outcome and leaves the
-- second list. It answers the number that the reference answers, the list has the item more, and declares what the reference
-- leaves; or it refuses as the reference does, and then the items are as before; so they are where memory was refused.
abbrev pub Declares : {A : Type 0} → State → Item → Outcome Declarations (ℕ × A) reference.Refusal → Result ℕ Fault → State → Type 0
Declares {A} s i o (Ok n) t = (x : A) × (o.answer ≡ Ok (n, x)) × (o.after ≡ declared_by t.items) × (t.items ≡ s.items ++ i ∷ []) × Extends s.trees t.trees
Declares s i o (Err (Refused r)) t = (o.answer ≡ Err (refusal_in t.trees r)) × Stays s t
Declares s i o (Err Memory) t = Stays s t

-- so it is for a variable of the number and the name, with the entry p as its type
abbrev pub DeclaresVariable : State → ℕ → Name → ℕ → Result ℕ Fault → State → Type 0
DeclaresVariable s v n p r t = (a : Assertion) × (entry_at s p ≡ Some a) × Declares s (variable v n p) (new_variable (declared_by s.items) v n a) r t

-- so it is for a metavariable of the name, with the entry p as its boundary
abbrev pub DeclaresMetavariable : State → Name → ℕ → Result ℕ Fault → State → Type 0
DeclaresMetavariable s n p r t = (a : Assertion) × (entry_at s p ≡ Some a) × Declares s (metavariable n p) (new_metavariable (declared_by s.items) n a) r t
