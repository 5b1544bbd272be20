use Rattle.std.proofs.Common.{◌∙◌, sym}
use Rattle.ft_run.proofs.Accepted.{new_there, not_new}
use Rattle.std.proofs.lemmas.Result.{on_ok_weaker}
use Rattle.ft_common.proofs.Results.{ok_any}
use Rattle.ft_run.proofs.Lines.{counted_kept, built_old, built_new}
use Rattle.ft_run.proofs.session.Session.build_rule.Goals as goal

pub returns-then-is_some-clause-done : goal.returns-then-is_some-clause-done
returns-then-is_some-clause-done c =
    on_ok_weaker c.is_built.result
    (built_old c.args.self.now c.is_built.new.self c.args.name.now c.args.premises.now c.args.conclusion.now
    (not_new c.args.self.now c.args.name.now c.place.result c.place.ensures.some (sym c.is_some.ensures ∙ c.if-is_some.true)) c.is_built.ensures.keeps.rules)
    c.is_built.ensures.some

pub returns-then-is_some-clause-counted : goal.returns-then-is_some-clause-counted
returns-then-is_some-clause-counted c = ok_any c.is_built.result (counted_kept c.args.self.now c.is_built.new.self c.is_built.ensures.keeps c.requires.counted)

pub declare-requires-clause-new : goal.declare-requires-clause-new
declare-requires-clause-new c = new_there c.args.self.now c.args.name.now c.place.result c.place.ensures.none (sym c.is_some.ensures ∙ c.if-is_some.false)

pub returns-clause-done : goal.returns-clause-done
returns-clause-done c =
    on_ok_weaker c.declare.result
    (built_new c.args.self.now c.declare.new.self c.args.name.now c.args.premises.now c.args.conclusion.now
    (new_there c.args.self.now c.args.name.now c.place.result c.place.ensures.none (sym c.is_some.ensures ∙ c.if-is_some.false)))
    c.declare.ensures.declared
