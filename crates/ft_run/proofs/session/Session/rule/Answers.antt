use Rattle.std.proofs.Common.{◌∙◌, sym}
use Rattle.std.proofs.lemmas.Option.{none-some}
use Rattle.ft_run.proofs.Concluding.{rule_found}
use Rattle.ft_run.proofs.session.Session.rule.Goals as goal

pub unreachable-requires : goal.unreachable-requires
unreachable-requires c =
    none-some c.args.place (sym c.in-None.is ∙ rule_found c.self.inside.kernel c.self.inside.known.items c.args.self.now c.args.place c.rule_numbered.result c.self.invariant c.terms-terms.ensures.good c.self.view_is c.requires c.rule_numbered.ensures)
