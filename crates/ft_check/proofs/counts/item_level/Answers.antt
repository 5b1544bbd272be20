use Rattle.std.proofs.Common.{ap, take}
use Rattle.ft_items.specs.Store.{store_of}
use Rattle.ft_stated.specs.Lines.{item_in}
use Rattle.ft_check.proofs.Listed.{level_stated}
use Rattle.ft_check.proofs.counts.item_level.Goals as goal

pub returns-in-Thesis : goal.returns-in-Thesis
returns-in-Thesis c = λ ts g n. level_stated (store_of (take c.args.i c.args.items.now.items)) (item_in ts c.args.x.now) _ c.step_level.result (ap (item_in ts) c.in-Thesis.is) n (λ s q. c.step_level.ensures s g q)

pub returns-in-Boundary : goal.returns-in-Boundary
returns-in-Boundary c = λ ts g n. level_stated (store_of (take c.args.i c.args.items.now.items)) (item_in ts c.args.x.now) _ c.step_level-in-Boundary.result (ap (item_in ts) c.in-Boundary.is) n (λ s q. c.step_level-in-Boundary.ensures s g q)
