use Rattle.ft_items.specs.Store.{Assertion}
use Rattle.ft_judge.specs.Meaning.{thesis_in}
use Rattle.ft_judge.specs.Laws.{thesis_is}
use Rattle.ft_kernel.specs.Steps.{step_of}
use Rattle.ft_calls.proofs.Ends.{allowed, answers_ok, entry_there}
use Rattle.ft_calls.proofs.concluding.conclude.Goals as goal

pub push_judgement-requires-clause-allowed : goal.push_judgement-requires-clause-allowed
push_judgement-requires-clause-allowed c =
    let a : Assertion = record { statement = thesis_in c.args.k.now.trees c.args.x; set = c.args.set } in
    allowed c.args.k.now (step_of c.args.step) a c.requires.answer

pub returns-clause-answers : goal.returns-clause-answers
returns-clause-answers c =
    let a : Assertion = record { statement = thesis_in c.args.k.now.trees c.args.x; set = c.args.set } in
    answers_ok c.args.k.now c.push_judgement.new.self (step_of c.args.step) a c.in_ok-push_judgement.field-0 c.requires.answer c.in_ok-push_judgement.ensures.list c.in_ok-push_judgement.ensures.number

pub returns-clause-thesis : goal.returns-clause-thesis
returns-clause-thesis c =
    let a : Assertion = record { statement = thesis_in c.args.k.now.trees c.args.x; set = c.args.set } in (
      a,
      entry_there c.args.k.now c.push_judgement.new.self (step_of c.args.step) a c.in_ok-push_judgement.field-0 c.in_ok-push_judgement.ensures.list c.in_ok-push_judgement.ensures.number,
      thesis_is c.args.k.now.trees c.args.x,
    )
