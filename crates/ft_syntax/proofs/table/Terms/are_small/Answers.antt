use Rattle.std.proofs.Common.{subst, length}
use Rattle.std.specs.Prelude.{ℕ, ◌<◌}
use Rattle.ft_theory.specs.Small.{IsSmall}
use Rattle.ft_syntax.specs.Table.{tree}
use Rattle.ft_syntax.proofs.AreSmall.{trees_small}
use Rattle.ft_syntax.proofs.table.Terms.are_small.Goals as goal

pub returns : goal.returns
returns c = subst (λ ts. (e : ℕ) → e < length ts → IsSmall (tree ts e)) c.self.view_is (trees_small c.self.inside.parts.items c.self.inside.rows.items c.self.invariant.good)
