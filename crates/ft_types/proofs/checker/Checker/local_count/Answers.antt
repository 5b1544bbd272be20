use Rattle.std.proofs.Common.{ap, length, arith, []}
use Rattle.ft_types.specs.Types.{type_in}
use Rattle.ft_types.specs.Names.{listed}
use Rattle.ft_types.specs.Checking.{Checking}
use Rattle.ft_types.proofs.Scopes.{renamed_length, listed_length}
use Rattle.ft_types.proofs.checker.Checker.local_count.Goals as goal

pub returns : goal.returns
returns c =
    let t = c.self.inside in
    omega (arith, c.len.ensures, ap (λ (v : Checking). length v.locals) c.self.view_is, renamed_length (type_in t.types) (listed t.locals.items), listed_length [] t.locals.items)
