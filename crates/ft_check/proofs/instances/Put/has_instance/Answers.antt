use Rattle.ft_syntax.specs.Laws.{instance_extends}
use Rattle.ft_check.proofs.instances.Put.has_instance.Goals as goal

pub returns-clause-instance : goal.returns-clause-instance
returns-clause-instance c = instance_extends c.args.self.now.terms c.is_instance.new.put c.args.self.now.instance.pairs c.is_instance.ensures.goes_on c.requires.below.1
