use Rattle.std.proofs.Common.{◌∙◌, sym, refl}
use Rattle.ft_run.proofs.Accepted.{new_there, not_new}
use Rattle.ft_run.proofs.session.Session.rule_command.Goals as goal

pub returns-then-is_some-clause-was : goal.returns-then-is_some-clause-was
returns-then-is_some-clause-was c = record {
  taken = not_new c.args.self.now c.args.name.now c.place.result c.place.ensures.some (sym c.is_some.ensures ∙ c.if-is_some.true);
  text = c.in_ok-push_repeated.ensures;
  same = refl;
}

pub declare-requires-clause-new : goal.declare-requires-clause-new
declare-requires-clause-new c = new_there c.args.self.now c.args.name.now c.place.result c.place.ensures.none (sym c.is_some.ensures ∙ c.if-is_some.false)

pub returns-clause-was : goal.returns-clause-was
returns-clause-was c = (
  new_there c.args.self.now c.args.name.now c.place.result c.place.ensures.none (sym c.is_some.ensures ∙ c.if-is_some.false),
  c.in_ok-declare.ensures.declared,
  c.in_ok-push_accepted.ensures,
  c.in_ok-declare.ensures.counted,
)
