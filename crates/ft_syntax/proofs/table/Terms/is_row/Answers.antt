use Rattle.std.proofs.Common.{rules, ◌≡◌, subst}
use Rattle.ft_syntax.specs.Arguments.{node_of}
use Rattle.ft_syntax.specs.Table.{tree, AreDifferent}
use Rattle.ft_syntax.proofs.Different.{is_row}
use Rattle.ft_syntax.proofs.table.Terms.is_row.Goals as goal

pub returns : goal.returns
returns c =
    let n : node_of (tree c.args.self.now c.args.e) ≡ c.args.node = search rules in
    is_row c.args.self.now c.args.e c.args.node c.listed.result.now c.args.args.now c.are_same.result (subst AreDifferent c.self.view_is c.self.invariant.different) c.listed.ensures c.requires.below c.requires.fits n c.are_same.ensures
