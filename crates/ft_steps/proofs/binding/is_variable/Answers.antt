use Rattle.std.proofs.Common.{rules, ◌≡◌, []}
use Rattle.ft_theory.specs.Expressions.{free}
use Rattle.ft_syntax.specs.Table.{tree}
use Rattle.ft_steps.proofs.Concluding.{no_length}
use Rattle.ft_steps.proofs.Substitutes.{variable_under}
use Rattle.ft_steps.proofs.binding.is_variable.Goals as goal

pub returns-then-not-is_empty : goal.returns-then-not-is_empty
returns-then-not-is_empty c =
    let some : c.args.y.now.domains.now ≡ [] → ⊥ = search rules in
    variable_under c.args.terms.now c.args.y.now.domains.now c.args.y.now.claim (free c.args.v) (tree c.args.terms.now c.args.ty) (λ e. some (no_length c.args.y.now.domains.now e))
