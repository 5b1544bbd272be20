use Rattle.std.proofs.Common.{◌≡◌, ◌≤◌, ◌+◌, ◌-◌, length, arith}
use Rattle.ft_syntax.specs.Arguments.{arguments_of}
use Rattle.ft_syntax.specs.Laws.{body_longer}
use Rattle.ft_syntax.specs.Table.{tree}
use Rattle.ft_placing.specs.Applied.{bodies}
use Rattle.ft_placing.proofs.Nodes.{bodies_next}
use Rattle.ft_placing.proofs.expressions.bodies_of.Goals as goal

pub loop-k-preserved : goal.loop-k-preserved
loop-k-preserved c =
    let T = c.args.terms.now in
    let L = arguments_of (tree T c.args.e) in
    let within : c.args.e ≤ length T = omega (arith, c.requires) in
    let place : c.loop-k.k + 1 - 1 ≡ c.loop-k.k = omega arith in
    record {
      below = c.in_ok-push_body.ensures.below (length T) c.loop-k.invariant.below (body_longer c.args.e (length T) c.arg-found.result.body within c.arg-found.ensures.below);
      same = bodies_next T c.loop-k.k (c.loop-k.k + 1 - 1) L c.arg-found.result c.loop-k.list.items c.push_body.new.list.items (bodies L) c.loop-k.invariant.same place c.arg-found.ensures.argument (c.in_ok-push_body.ensures.trees T);
    }
