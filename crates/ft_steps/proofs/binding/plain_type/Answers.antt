use Rattle.std.proofs.Common.{rules, ◌≡◌, []}
use Rattle.ft_steps.proofs.Concluding.{no_length}
use Rattle.ft_steps.proofs.Substitutes.{type_under}
use Rattle.ft_steps.proofs.binding.plain_type.Goals as goal

pub returns-else-is_empty-clause-is : goal.returns-else-is_empty-clause-is
returns-else-is_empty-clause-is c =
    let some : c.args.x.now.domains.now ≡ [] → ⊥ = search rules in
    λ ts h. type_under ts c.args.x.now.domains.now c.args.x.now.claim (λ e. some (no_length c.args.x.now.domains.now e)) h
