use Rattle.std.proofs.Common.{◌∙◌, ap}
use Rattle.ft_types.specs.Names.{listed}
use Rattle.ft_types.specs.Checking.{Checking}
use Rattle.ft_types.proofs.Scopes.{grown_checker, grown_keeps, values_kept}
use Rattle.ft_types.proofs.checker.Checker.of_row.Goals as goal

pub invariant_of-self : goal.invariant_of-self
invariant_of-self c =
    let t = c.self.inside in
    grown_checker t.types c.of_row.new.self t.values t.operations (listed t.locals.items) c.of_row.ensures.grows c.self.invariant

pub returns-clause-locals : goal.returns-clause-locals
returns-clause-locals c =
    let t = c.self.inside in
    values_kept t.types c.of_row.new.self (listed t.locals.items) c.of_row.ensures.grows c.self.invariant.locals_are ∙ ap (λ (v : Checking). v.locals) c.self.view_is

pub returns-clause-keeps : goal.returns-clause-keeps
returns-clause-keeps c =
    let t = c.self.inside in
    grown_keeps t.types c.of_row.new.self t.values t.rules t.operations (listed t.locals.items) c.args.self.now c.of_row.ensures.grows c.self.invariant c.self.view_is
