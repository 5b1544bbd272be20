-- What a call answers over the list of a kernel.
use Rattle.std.specs.Prelude.{ℕ, ◌≡◌, ◌<◌, List, [], ◌∷◌, ◌++◌, length, Some, Result, Ok, Err}
use Rattle.ft_theory.specs.Expressions.{Expression}
use Rattle.ft_items.specs.Item.{Stated, entry}
use Rattle.ft_items.specs.Store.{Assertion, Resolved, resolve, store_of, entries_in, declared_by}
use Rattle.ft_syntax.specs.Table.{tree, Extends}
use Rattle.ft_reference.specs.Refusals as reference
use Rattle.ft_reference.specs.Calls.{answer}
use Rattle.ft_judge.specs.declared.fault.Differ.{Differ}
use Rattle.ft_judge.specs.declared.fault.Refusal.{Refusal}
use Rattle.ft_judge.specs.declared.fault.Refusal.TheVariants.{WrongForm, NotAbstracted, TypeDiffers, SidesDiffer, DependentVariable, OpenBoundary, ArgumentCount, TooBig, NotApplication}
use Rattle.ft_judge.specs.declared.fault.Fault.{Fault}
use Rattle.ft_judge.specs.declared.fault.Fault.TheVariants.{Refused, Memory}
use Rattle.ft_kernel.specs.State.{State}

-- two expressions of a table that differ, as trees
abbrev pub difference_in : List Expression → Differ → reference.Differ
difference_in ts d = record { found = tree ts d.found; wanted = tree ts d.wanted; under = d.under }

-- a refusal whose expressions are trees of a table
abbrev pub refusal_in : List Expression → Refusal → reference.Refusal
refusal_in ts WrongForm = reference.WrongForm
refusal_in ts NotAbstracted = reference.NotAbstracted
refusal_in ts (TypeDiffers d) = reference.TypeDiffers (difference_in ts d)
refusal_in ts (SidesDiffer d) = reference.SidesDiffer (difference_in ts d)
refusal_in ts (DependentVariable v) = reference.DependentVariable v
refusal_in ts (OpenBoundary v) = reference.OpenBoundary v
refusal_in ts (ArgumentCount m n) = reference.ArgumentCount m n
refusal_in ts TooBig = reference.TooBig
refusal_in ts NotApplication = reference.NotApplication

-- each expression of the refusal is among the first n trees
abbrev pub RefusalBelow : ℕ → Refusal → Type 0
RefusalBelow n WrongForm = Unit {0}
RefusalBelow n NotAbstracted = Unit {0}
RefusalBelow n (TypeDiffers d) = (d.found < n) × (d.wanted < n)
RefusalBelow n (SidesDiffer d) = (d.found < n) × (d.wanted < n)
RefusalBelow n (DependentVariable v) = Unit {0}
RefusalBelow n (OpenBoundary v) = Unit {0}
RefusalBelow n (ArgumentCount given wanted) = Unit {0}
RefusalBelow n TooBig = Unit {0}
RefusalBelow n NotApplication = Unit {0}

-- the call of a stated step over the list, with what its numbers name there, answers so
abbrev pub IsAnswer : State → Stated → Result Assertion reference.Refusal → Type 0
IsAnswer s n o = (r : Resolved) × (resolve (store_of s.items) n ≡ Some r) × (answer (declared_by s.items) r ≡ o)

-- the items are as before, and the table's earlier trees too
abbrev pub Stays : State → State → Type 0
Stays s t = (t.items ≡ s.items) × Extends s.trees t.trees

-- the list has one more entry, with this assertion and this step, and the number of this entry
abbrev pub Gains : State → Assertion → Stated → ℕ → State → Type 0
Gains s a n j t = (t.items ≡ s.items ++ entry (record { statement = a.statement; set = a.set; step = n }) ∷ [])
    × (j ≡ length (entries_in s.items)) × Extends s.trees t.trees

-- The call of a stated step over the first list has this outcome and leaves the second. It answers the number of a new entry,
-- which has what the reference answers, with this step; or it refuses as the reference does, and then the items are as before;
-- so they are where memory was refused. What a refusal names is in the table.
abbrev pub Answers : State → Stated → Result ℕ Fault → State → Type 0
Answers s n (Ok j) t = (a : Assertion) × IsAnswer s n (Ok a) × Gains s a n j t
Answers s n (Err (Refused r)) t = IsAnswer s n (Err (refusal_in t.trees r)) × RefusalBelow (length t.trees) r × Stays s t
Answers s n (Err Memory) t = Stays s t
