-- Arguments of applications, as they are looked for by their place.
use Rattle.std.specs.Prelude.{ℕ, zero, suc, ◌≡◌, Option, Some, None, Bool, true, false, List, ◌∷◌, length, Result, Ok, Err, is_some}
use Rattle.ft_theory.specs.Expressions.{Expression, bound}
use Rattle.ft_theory.specs.Statements.{type_goal, is_type, has_type, Statement, plain, abstracted}
use Rattle.ft_items.specs.Store.{Assertion, Declared}
use Rattle.ft_items.specs.Rows.{from_one}
use Rattle.ft_reference.specs.Refusals.{Check, NotApplication, ArgumentCount, asks, forms_result}
use Rattle.ft_judge.specs.Meaning.{thesis_in}
use Rattle.ft_judge.specs.declared.judgement.Thesis.{Thesis}
use Rattle.ft_judge.specs.declared.fault.Fault.{Fault}
use Rattle.ft_judge.specs.declared.fault.Fault.TheVariants.{Refused, Memory}
use Rattle.ft_syntax.specs.Arguments.{Argument}
use Rattle.ft_kernel.specs.State.{State, entry_at, statement_at}
use Rattle.ft_calls.specs.Forming.{Refuses}
use Rattle.ft_parts.specs.Types.{opened_by}

-- the test for a plain type or term
abbrev pub is_plain_object : Statement → Bool
is_plain_object (plain (is_type A)) = true
is_plain_object (plain (has_type t A)) = true
is_plain_object x = false

-- the entry of a number is neither
abbrev pub IsNoPlainObjectAt : State → ℕ → Type 0
IsNoPlainObjectAt s p =
    (a : Assertion) × (entry_at s p ≡ Some a) × (is_plain_object a.statement ≡ false)

-- there is an argument at the place, and it is formed
abbrev pub place_checked : ℕ → List Statement → List Check
place_checked i xs =
    asks (is_some (from_one xs i)) (ArgumentCount i (length xs)) ∷ forms_result (from_one xs i)

-- What is found at place i of an application or not, where its arguments are the theses: the thesis there, or the refusal of
-- the first check that fails, or memory was refused.
abbrev pub FindsPlace : List Expression → Bool → ℕ → List Statement → Result Thesis Fault → Type 0
FindsPlace ts b i xs (Ok x) = (b ≡ true) × (from_one xs i ≡ Some (thesis_in ts x))
FindsPlace ts b i xs (Err (Refused r)) =
    Refuses ts (asks b NotApplication ∷ place_checked i xs) r
FindsPlace ts b i xs (Err Memory) = Unit {0}

-- the statement is a plain type or term with this as its type or its term
abbrev pub HasHead : Statement → Expression → Type 0
HasHead (plain (is_type A)) e = A ≡ e
HasHead (plain (has_type t A)) e = t ≡ e
HasHead x e = ⊥

abbrev pub StatesHead : State → ℕ → Expression → Type 0
StatesHead s j e = (x : Statement) × (statement_at s j ≡ Some x) × HasHead x e

-- the boundary of a metavariable, where it is declared; else a dummy
abbrev pub boundary_of_met : Option Declared → Statement
boundary_of_met None = plain type_goal
boundary_of_met (Some d) = d.boundary

-- the domain of a statement at a place from 0
abbrev pub nth_domain : ℕ → Statement → Option Expression
nth_domain n (plain c) = None
nth_domain zero (abstracted A x) = Some A
nth_domain (suc n) (abstracted A x) = nth_domain n x

-- the same of a metavariable's boundary
abbrev pub domain_at : ℕ → Option Declared → Option Expression
domain_at n o = nth_domain n (boundary_of_met o)

-- a domain below n others, at the first n terms; without a domain a dummy
abbrev pub placed : ℕ → Option Expression → List Argument → Expression
placed n None ps = bound 0
placed n (Some A) ps = opened_by n ps A

-- the type that a metavariable's term at a place from 0 has, at the terms before it
abbrev pub type_at_place : ℕ → Option Declared → List Argument → Expression
type_at_place n o ps = placed n (domain_at n o) ps
