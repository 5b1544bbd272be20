use Rattle.std.proofs.Common.{rules, ◌≡◌, IsTrue, ◌↔◌, ap, subst}
use Rattle.ft_syntax.specs.Table.{tree, AreDifferent}
use Rattle.ft_syntax.proofs.Different.{one_number}
use Rattle.ft_syntax.proofs.table.Terms.equal_expr.Goals as goal

pub returns : goal.returns
returns c =
    let numbers : IsTrue c.eq.result ↔ (c.args.a ≡ c.args.b) = search rules in (
      λ t. ap (tree c.args.self.now) (numbers.0 t),
      λ h. numbers.1 (one_number c.args.self.now c.args.a c.args.b (subst AreDifferent c.self.view_is c.self.invariant.different) c.requires.0 c.requires.1 h),
    )
