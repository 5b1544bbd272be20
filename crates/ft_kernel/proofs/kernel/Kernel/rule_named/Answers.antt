use Rattle.std.proofs.Common.{rules, ◌≡◌, ◌∙◌, ap}
use Rattle.std.specs.Prelude.{is_none}
use Rattle.ft_kernel.specs.State.{place_of_name, rule_names}
use Rattle.ft_kernel.proofs.Naming.{fresh_name}
use Rattle.ft_kernel.proofs.kernel.Kernel.rule_named.Goals as goal

pub returns-clause-fresh : goal.returns-clause-fresh
returns-clause-fresh c =
    let first : c.map.result ≡ place_of_name (rule_names c.args.self.now.items) c.args.name.now = search rules in
    ap is_none first ∙ fresh_name (rule_names c.args.self.now.items) c.args.name.now
