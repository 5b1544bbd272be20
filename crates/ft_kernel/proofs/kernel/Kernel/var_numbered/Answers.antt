use Rattle.std.proofs.Common.{rules, ◌≡◌, ◌∙◌, ap, sym, Some, None, nat_eq}
use Rattle.std.specs.Prelude.{option_map}
use Rattle.std.specs.Map.{lookup}
use Rattle.ft_kernel.proofs.Answered.{variable_numbered_if, variable_absent}
use Rattle.ft_kernel.proofs.kernel.Kernel.var_numbered.Goals as goal

pub returns-in-Some : goal.returns-in-Some
returns-in-Some c =
    let place : lookup (nat_eq c.args.n) c.self.inside.variables.entries ≡ Some c.in-Some.field-0.now = search rules in
    ap Some c.at.ensures
    ∙ sym (variable_numbered_if c.self.inside.terms c.self.inside.lines.items c.self.inside.variables.entries c.args.self.now c.args.n c.in-Some.field-0.now c.self.invariant.variables_are c.self.view_is place)

pub returns-in-None : goal.returns-in-None
returns-in-None c =
    let place : lookup (nat_eq c.args.n) c.self.inside.variables.entries ≡ None = search rules in
    sym (ap (option_map (λ _. c.args.n)) (variable_absent c.self.inside.terms c.self.inside.lines.items c.self.inside.variables.entries c.args.self.now c.args.n c.self.invariant.variables_are c.self.view_is place))
