use Rattle.ft_items.specs.Store.{Assertion}
use Rattle.ft_judge.specs.Meaning.{boundary_in}
use Rattle.ft_judge.specs.Laws.{boundary_is}
use Rattle.ft_kernel.specs.Steps.{step_of}
use Rattle.ft_calls.proofs.Ends.{allowed, answers_ok, entry_there}
use Rattle.ft_calls.proofs.concluding.conclude_boundary.Goals as goal

pub push_boundary-requires-clause-allowed : goal.push_boundary-requires-clause-allowed
push_boundary-requires-clause-allowed c =
    let a : Assertion = record { statement = boundary_in c.args.k.now.trees c.args.x; set = c.args.set } in
    allowed c.args.k.now (step_of c.args.step) a c.requires.answer

pub returns-clause-answers : goal.returns-clause-answers
returns-clause-answers c =
    let a : Assertion = record { statement = boundary_in c.args.k.now.trees c.args.x; set = c.args.set } in
    answers_ok c.args.k.now c.push_boundary.new.self (step_of c.args.step) a c.in_ok-push_boundary.field-0 c.requires.answer c.in_ok-push_boundary.ensures.list c.in_ok-push_boundary.ensures.number

pub returns-clause-boundary : goal.returns-clause-boundary
returns-clause-boundary c =
    let a : Assertion = record { statement = boundary_in c.args.k.now.trees c.args.x; set = c.args.set } in (
      a,
      entry_there c.args.k.now c.push_boundary.new.self (step_of c.args.step) a c.in_ok-push_boundary.field-0 c.in_ok-push_boundary.ensures.list c.in_ok-push_boundary.ensures.number,
      boundary_is c.args.k.now.trees c.args.x,
    )
