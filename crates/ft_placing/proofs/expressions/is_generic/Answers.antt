use Rattle.std.proofs.Common.{rules, ◌≢◌, ◌∙◌}
use Rattle.ft_syntax.specs.Table.{tree}
use Rattle.ft_placing.proofs.Nodes.{generic_count}
use Rattle.ft_placing.proofs.expressions.is_generic.Goals as goal

pub returns-then-count-n : goal.returns-then-count-n
returns-then-count-n c =
    let other : c.count.result ≢ c.args.n = search rules in
    generic_count c.args.m c.in-Meta.other c.args.n (tree c.args.terms.now c.args.e) c.in-Meta.ensures.node (λ h. other (c.count.ensures ∙ h))
