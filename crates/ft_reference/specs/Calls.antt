-- What a call of the nucleus answers: the first refusal of its checks, or what its step gives.
use Rattle.std.specs.Prelude.{Option, Some, None, Bool, true, ◌&&◌, Result, Ok, Err, []}
use Rattle.ft_items.specs.Sets.{is_within}
use Rattle.ft_items.specs.Item.{by_metainst}
use Rattle.ft_items.specs.Store.{Assertion, Resolved, Declarations}
use Rattle.ft_items.specs.Rows.{atoms, differ, on_earlier}
use Rattle.ft_items.specs.Good.{of_kind, given}
use Rattle.ft_reference.specs.Refusals.{Refusal, WrongForm, first_refusal}
use Rattle.ft_reference.specs.Checks.{checks}

-- the test of an instance's own condition: its metavariables differ, each rests on earlier ones alone, and what is
-- instantiated rests on them alone. Other calls have none.
abbrev pub instance_allowed : Resolved → Bool
instance_allowed (by_metainst p ms qs) = differ (atoms ms) && on_earlier [] ms && is_within p.set (atoms ms)
instance_allowed s = true

-- A call may be made where it has theses and boundaries where its step has them, and its own condition holds.
abbrev pub may_be_made : Resolved → Bool
may_be_made s = of_kind s && instance_allowed s

-- the refusal, or what is given; a call that may not be made gives nothing, and has no meaning
abbrev pub answered : Option Refusal → Option Assertion → Result Assertion Refusal
answered (Some r) o = Err r
answered None (Some a) = Ok a
answered None None = Err WrongForm

-- The answer of a call over declarations: a statement with its set, or the first refusal. A call is a step with the statements,
-- variables, metavariables and the rule that it names. The declarations stay as they are.
abbrev pub answer : Declarations → Resolved → Result Assertion Refusal
answer W s = answered (first_refusal (checks W s)) (given W s)
