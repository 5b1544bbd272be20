use Rattle.std.proofs.Common.{rules, ◌≡◌, ◌<◌, ◌∙◌, ap, sym, length, Some, nat_eq}
use Rattle.std.specs.Map.{lookup}
use Rattle.ft_kernel.specs.declared.item.VarItem.{VarItem}
use Rattle.ft_kernel.proofs.Answered.{variable_there, variable_answered, same_variable}
use Rattle.ft_kernel.proofs.kernel.Kernel.var.Goals as goal

pub unwrap-place-requires : goal.unwrap-place-requires
unwrap-place-requires c =
    let there = variable_there c.self.inside.terms c.self.inside.lines.items c.self.inside.variables.entries c.args.self.now c.args.v c.requires.0 c.self.invariant.variables_are c.self.view_is c.requires.1 in
    let found : c.copied.result ≡ Some there.0 = c.copied.ensures ∙ c.get.ensures.value ∙ ap (λ n. lookup (nat_eq n) c.self.inside.variables.entries) c.number-number.ensures ∙ there.1 in
    search (rules, found)

pub index-requires : goal.index-requires
index-requires c =
    let found : lookup (nat_eq c.args.v) c.self.inside.variables.entries ≡ Some c.unwrap-place.result =
    ap (λ n. lookup (nat_eq n) c.self.inside.variables.entries) (sym c.number-number.ensures) ∙ sym c.get.ensures.value ∙ sym c.copied.ensures ∙ c.unwrap-place.ensures in
    let answered = variable_answered c.self.inside.terms c.self.inside.lines.items c.self.inside.variables.entries c.args.self.now c.args.v c.unwrap-place.result c.self.invariant.variables_are c.self.view_is found in
    let lt : c.unwrap-place.result < length c.self.inside.lines.items = answered.1 in
    search rules

pub unreachable-requires : goal.unreachable-requires
unreachable-requires c =
    let found : lookup (nat_eq c.args.v) c.self.inside.variables.entries ≡ Some c.unwrap-place.result =
    ap (λ n. lookup (nat_eq n) c.self.inside.variables.entries) (sym c.number-number.ensures) ∙ sym c.get.ensures.value ∙ sym c.copied.ensures ∙ c.unwrap-place.ensures in
    let answered = variable_answered c.self.inside.terms c.self.inside.lines.items c.self.inside.variables.entries c.args.self.now c.args.v c.unwrap-place.result c.self.invariant.variables_are c.self.view_is found in
    c.in_default.not-Variable answered.0 (answered.2 c.index.result.now c.index.ensures).is

pub returns-clause-number : goal.returns-clause-number
returns-clause-number c =
    let found : lookup (nat_eq c.args.v) c.self.inside.variables.entries ≡ Some c.unwrap-place.result =
    ap (λ n. lookup (nat_eq n) c.self.inside.variables.entries) (sym c.number-number.ensures) ∙ sym c.get.ensures.value ∙ sym c.copied.ensures ∙ c.unwrap-place.ensures in
    let answered = variable_answered c.self.inside.terms c.self.inside.lines.items c.self.inside.variables.entries c.args.self.now c.args.v c.unwrap-place.result c.self.invariant.variables_are c.self.view_is found in
    let same : c.in-Variable.x ≡ answered.0 = same_variable _ _ _ c.in-Variable.is (answered.2 c.index.result.now c.index.ensures).is in
    ap (λ (x : VarItem). x.number) same ∙ (answered.2 c.index.result.now c.index.ensures).numbered

pub returns-clause-variable : goal.returns-clause-variable
returns-clause-variable c =
    let found : lookup (nat_eq c.args.v) c.self.inside.variables.entries ≡ Some c.unwrap-place.result =
    ap (λ n. lookup (nat_eq n) c.self.inside.variables.entries) (sym c.number-number.ensures) ∙ sym c.get.ensures.value ∙ sym c.copied.ensures ∙ c.unwrap-place.ensures in
    let answered = variable_answered c.self.inside.terms c.self.inside.lines.items c.self.inside.variables.entries c.args.self.now c.args.v c.unwrap-place.result c.self.invariant.variables_are c.self.view_is found in
    let same : c.in-Variable.x ≡ answered.0 = same_variable _ _ _ c.in-Variable.is (answered.2 c.index.result.now c.index.ensures).is in
    (answered.2 c.index.result.now c.index.ensures).named ∙ ap (λ (x : VarItem). Some (x.name, x.ty)) (sym same)
