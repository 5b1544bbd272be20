use Rattle.std.proofs.Common.{length}
use Rattle.ft_items.specs.Store.{metavariables_in}
use Rattle.ft_judge.specs.Meaning.{goal_in}
use Rattle.ft_run.proofs.Keeping.{goals_fit, keeps_then}
use Rattle.ft_run.proofs.Premises.{made_later, declared_after, counted_after}
use Rattle.ft_run.proofs.session.Session.declare.Goals as goal

pub accept-requires-clause-goals : goal.accept-requires-clause-goals
accept-requires-clause-goals c =
    goals_fit c.premises.new.self.state.trees c.boundary.new.self.state.trees
    (keeps_then c.premises.new.self c.concluded.new.self c.boundary.new.self c.concluded.ensures.keeps c.boundary.ensures.keeps).trees
    c.in_ok-goals.field-0.goals.items c.in_ok-goals.ensures.fits

pub accept-requires-clause-made : goal.accept-requires-clause-made
accept-requires-clause-made c =
    made_later c.premises.new.self c.boundary.new.self (length (metavariables_in c.args.self.now.state.items)) c.first-first.result c.in_ok-goals.field-0.goals.items c.in_ok-goals.field-0.mets
    (keeps_then c.premises.new.self c.concluded.new.self c.boundary.new.self c.concluded.ensures.keeps c.boundary.ensures.keeps)
    c.in_ok-goals.ensures.fits c.in_ok-goals.ensures.made c.first-first.ensures

pub returns-clause-declared : goal.returns-clause-declared
returns-clause-declared c =
    declared_after c.accept.result c.args.self.now c.premises.new.self c.concluded.new.self c.boundary.new.self c.accept.new.self c.args.name.now c.in_ok-copy.field-0 c.args.premises.now c.args.conclusion.now
    (length (metavariables_in c.args.self.now.state.items)) c.first-first.result c.in_ok-goals.field-0.goals.items c.in_ok-goals.field-0.mets c.in_ok-goal.field-0.goal
    c.requires.counted c.premises.ensures.goes c.concluded.ensures.keeps c.boundary.ensures.keeps c.boundary.ensures.trees c.in_ok-goals.ensures.fits c.in_ok-goals.ensures.made
    c.in_ok-goals.ensures.premises c.in_ok-goal.ensures.goal c.first-first.ensures c.in_ok-copy.ensures c.accept.ensures.rules c.accept.ensures.told c.accept.ensures.room

pub returns-clause-counted : goal.returns-clause-counted
returns-clause-counted c =
    counted_after c.accept.result c.args.self.now c.premises.new.self c.concluded.new.self c.boundary.new.self c.accept.new.self c.in_ok-copy.field-0 c.in_ok-copy.field-0 c.in_ok-goals.field-0.mets c.in_ok-b.b
    (length (metavariables_in c.args.self.now.state.items)) c.first-first.result (length c.args.premises.now) c.in_ok-goals.field-0.goals.items (goal_in c.boundary.new.self.state.trees c.in_ok-goal.field-0.goal)
    c.requires.counted c.premises.ensures.goes.rules c.concluded.ensures.keeps c.boundary.ensures.keeps c.in_ok-goals.ensures.count c.in_ok-goals.ensures.long c.accept.ensures.state c.accept.ensures.rules
