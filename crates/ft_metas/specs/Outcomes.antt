-- What the parts of a call find out while the table goes on.
use Rattle.std.specs.Prelude.{◌≡◌, List, Option, None, Result, Ok, Err}
use Rattle.ft_theory.specs.Expressions.{Expression}
use Rattle.ft_theory.specs.Statements.{Statement}
use Rattle.ft_reference.specs.Refusals.{Check, first_refusal}
use Rattle.ft_syntax.specs.declared.syntax.SynFault.{SynFault}
use Rattle.ft_syntax.specs.declared.syntax.SynFault.TheVariants as syntax
use Rattle.ft_judge.specs.declared.fault.Fault.{Fault}
use Rattle.ft_judge.specs.declared.fault.Fault.TheVariants.{Refused, Memory}
use Rattle.ft_calls.specs.Forming.{Gives, Refuses}

-- What is formed is too big, or memory was refused.
abbrev pub BigOr : Type 0 → SynFault → Type 0
BigOr P syntax.TooBig = P → ⊥
BigOr P syntax.Memory = Unit {0}

-- What is formed is small; it is too big only where it is not small.
abbrev pub SmallOr : {A : Type 0} → Type 0 → Result A SynFault → Type 0
SmallOr P (Ok x) = P
SmallOr P (Err f) = BigOr P f

-- The fault is the refusal of the first check that fails, over the table after it, or memory was refused.
abbrev pub Stops : List Expression → List Check → Fault → Type 0
Stops ts cs (Refused r) = Refuses ts cs r
Stops ts cs Memory = Unit {0}

-- No check fails, or the fault is that of the first that fails.
abbrev pub Asks : {A : Type 0} → List Expression → List Check → Result A Fault → Type 0
Asks ts cs (Ok x) = first_refusal cs ≡ None
Asks ts cs (Err f) = Stops ts cs f

-- The checks hold and the row gives this, seen as a statement; or the fault is that of the first check that fails.
abbrev pub Formed : {A : Type 0} → (A → Statement) → List Expression → List Check → Option Statement → Result A Fault → Type 0
Formed seen ts cs row (Ok x) = Gives cs row (seen x)
Formed seen ts cs row (Err f) = Stops ts cs f
