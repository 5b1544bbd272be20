use Rattle.std.proofs.Common.{◌≡◌, ap, arith}
use Rattle.ft_types.specs.Types.{type_in}
use Rattle.ft_types.proofs.Rows.{same_known}
use Rattle.ft_types.proofs.SameTypes.{same_by}
use Rattle.ft_types.proofs.types.Types.are_same.Goals as goal

pub returns : goal.returns
returns c =
    let t = c.self.inside in
    same_by _ _ _
    (λ h. let same : c.args.a ≡ c.args.b = grind arith in ap (type_in c.args.self.now) same)
    (λ h. let same = same_known t.rows.items t.places.entries c.self.invariant c.args.a c.args.b
    (rw c.self.view_is c.requires.0) (rw c.self.view_is c.requires.1) (rw c.self.view_is h) in grind arith)
