-- Types by declaration, as they are looked for.
use Rattle.std.specs.Prelude.{ℕ, zero, suc, ◌≡◌, Option, Some, None, Bool, true, false, List, [], ◌∷◌, Result, Ok, Err, option_map, unwrap_or}
use Rattle.ft_theory.specs.Expressions.{Expression, bound, free, symbol, meta, open_at}
use Rattle.ft_theory.specs.Statements.{has_type, Statement, plain, abstracted, domain_count}
use Rattle.ft_theory.specs.Rules.{Rule, instance_of}
use Rattle.ft_items.specs.Store.{Assertion, Declared}
use Rattle.ft_items.specs.Rows.{type_of_boundary}
use Rattle.ft_reference.specs.Checks.{forms_natural}
use Rattle.ft_syntax.specs.Arguments.{Argument}
use Rattle.ft_syntax.specs.Table.{tree}
use Rattle.ft_judge.specs.declared.fault.Fault.{Fault}
use Rattle.ft_judge.specs.declared.fault.Fault.TheVariants.{Refused, Memory}
use Rattle.ft_kernel.specs.State.{State, entry_at}
use Rattle.ft_calls.specs.Forming.{Refuses}

-- the test for a plain term
abbrev pub is_plain_term : Statement → Bool
is_plain_term (plain (has_type t A)) = true
is_plain_term x = false

-- the entry of a number is no plain term
abbrev pub IsNoPlainTermAt : State → ℕ → Type 0
IsNoPlainTermAt s p =
    (a : Assertion) × (entry_at s p ≡ Some a) × (is_plain_term a.statement ≡ false)

-- The type was found, and is a tree of the table; or the fault is the refusal of what forms it, or memory was refused.
abbrev pub FindsType : List Expression → Option Expression → Result ℕ Fault → Type 0
FindsType ts o (Ok n) = o ≡ Some (tree ts n)
FindsType ts o (Err (Refused r)) = Refuses ts (forms_natural o) r
FindsType ts o (Err Memory) = Unit {0}

-- the type in a rule's conclusion, where it concludes terms
abbrev pub concluded_type : Option Rule → Option Expression
concluded_type None = None
concluded_type (Some R) = type_of_boundary (plain R.conclusion)

-- the instance that the arguments of an expression are for the premises of a rule
abbrev pub instance_at : Option Rule → Expression → ℕ → ℕ → Option Expression
instance_at None e m k = None
instance_at (Some R) (bound i) m k = None
instance_at (Some R) (free v) m k = None
instance_at (Some R) (symbol s a) m k = instance_of R.premises a m k
instance_at (Some R) (meta n a) m k = None

-- the type below the domains of a boundary of terms
abbrev pub type_below : Statement → Option Expression
type_below (plain c) = type_of_boundary (plain c)
type_below (abstracted A x) = type_below x

-- the same for a metavariable, with the number of domains
abbrev pub type_of_metavariable : Option Declared → Option (Expression × ℕ)
type_of_metavariable None = None
type_of_metavariable (Some d) =
    option_map (λ A. (A, domain_count d.boundary)) (type_below d.boundary)

-- the expression below n domains, with the first n terms for their variables, in order
abbrev pub opened_by : ℕ → List Argument → Expression → Expression
opened_by zero ps e = e
opened_by (suc n) [] e = e
opened_by (suc n) (p ∷ ps) e = opened_by n ps (open_at n (unwrap_or p.1 (bound 0)) e)
