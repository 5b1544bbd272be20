use Rattle.std.proofs.Common.{sym, ap}
use Rattle.ft_items.specs.Equal.{right_of_claim}
use Rattle.ft_judge.specs.Meaning.{claim_in}
use Rattle.ft_check.proofs.Started.{no_equation, right_is}
use Rattle.ft_check.proofs.rights.right_of.Goals as goal

pub returns-in-EqTy-clause-is : goal.returns-in-EqTy-clause-is
returns-in-EqTy-clause-is c = λ ts. right_is ts c.args.x.now c.in-EqTy.b (sym (ap (λ f. right_of_claim (claim_in ts f)) c.in-EqTy.is))

pub returns-in-EqTm-clause-is : goal.returns-in-EqTm-clause-is
returns-in-EqTm-clause-is c = λ ts. right_is ts c.args.x.now c.in-EqTm.t (sym (ap (λ f. right_of_claim (claim_in ts f)) c.in-EqTm.is))

pub returns-in_default-clause-there : goal.returns-in_default-clause-there
returns-in_default-clause-there c = λ ts y h. no_equation ts y c.args.x.now c.in_default.not-EqTy c.in_default.not-EqTm h
