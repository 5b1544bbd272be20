use Rattle.ft_types.proofs.Bindings.{found_below}
use Rattle.ft_types.proofs.checker.Checker.bind_name.Goals as goal

pub returns-clause-below : goal.returns-clause-below
returns-clause-below c = rw c.in_ok-push.ensures.items (found_below _ c.args.found.now.items _ c.requires.below c.requires.found_below)
