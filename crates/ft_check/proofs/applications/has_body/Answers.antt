use Rattle.std.proofs.Common.{length, subst}
use Rattle.ft_syntax.specs.Table.{BodyBelow}
use Rattle.ft_check.proofs.applications.has_body.Goals as goal

pub is_bound-requires : goal.is_bound-requires
is_bound-requires c = c.in-Some.ensures.below (length c.args.terms.now) c.requires.found

pub is_same_expression-requires : goal.is_same_expression-requires
is_same_expression-requires c = (c.in-Some.ensures.below (length c.args.terms.now) c.requires.found, subst (BodyBelow (length c.args.terms.now)) c.in-Some-body.is c.requires.body)
