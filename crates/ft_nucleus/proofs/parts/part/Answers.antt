use Rattle.std.proofs.Common.{subst, sym}
use Rattle.ft_nucleus.specs.Sides.{FormsSide}
use Rattle.ft_nucleus.proofs.Parted.{part_given, part_below}
use Rattle.ft_nucleus.proofs.parts.part.Goals as goal

pub returns-in-Domain-clause-forms : goal.returns-in-Domain-clause-forms
returns-in-Domain-clause-forms c = λ ts d h. subst (λ w. FormsSide w ts c.args.domains.now d c.first_domain.result) (sym c.in-Domain.is) (c.first_domain.ensures.forms ts d)

pub returns-in-Domain-clause-below : goal.returns-in-Domain-clause-below
returns-in-Domain-clause-below c = λ n a h. c.first_domain.ensures.below n a

pub returns-in_default : goal.returns-in_default
returns-in_default c = record {
  forms = λ ts d h. part_given c.args.which ts c.args.domains.now d c.args.below c.ok_or.result c.in_default.not-Domain c.ok_or.ensures.value h;
  below = λ n a h. part_below n c.args.below c.ok_or.result c.ok_or.ensures.value h;
}
