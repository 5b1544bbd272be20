use Rattle.std.proofs.Common.{rules, ◌≡◌, []}
use Rattle.ft_steps.specs.Parts.{plain_in}
use Rattle.ft_steps.proofs.Concluding.{some_domains}
use Rattle.ft_steps.proofs.rows.plainly.Goals as goal

pub returns-else-is_empty-clause-is : goal.returns-else-is_empty-clause-is
returns-else-is_empty-clause-is c =
    let some : c.args.domains.now ≡ [] → ⊥ = search rules in
    λ ts f x h e. some_domains ts f c.args.domains.now (plain_in ts x) some h
