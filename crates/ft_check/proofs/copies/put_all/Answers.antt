use Rattle.std.proofs.Common.{ap, ◌∙◌}
use Rattle.ft_check.specs.Comparing.{paired}
use Rattle.ft_check.proofs.HeadsPut.{instance_is}
use Rattle.ft_check.proofs.copies.put_all.Goals as goal

pub returns-clause-put : goal.returns-clause-put
returns-clause-put c = λ qs e. record {
  arguments = c.in_ok-arguments.ensures.are;
  instance = instance_is c.all_copied.new.terms c.args.ms.now c.in_ok-arguments.arguments.items c.in_ok-pairs.pairs qs _
      (c.in_ok-pairs.ensures ∙ ap (paired c.args.ms.now) c.deref.ensures.value) c.in_ok-arguments.ensures.are e;
}
