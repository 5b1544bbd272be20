use Rattle.std.proofs.Common.{rules, ◌<◌, ◌∙◌, sym, ap, subst, length, suc}
use Rattle.ft_meaning.specs.Names.{named}
use Rattle.ft_values.specs.declared.scopes.Binding.{Binding}
use Rattle.ft_values.specs.Scopes.{names_in, names_of, IsScopeOf, depth}
use Rattle.ft_values.proofs.Layers.{names_count, outer_within, outer_lower, name_further}
use Rattle.ft_values.proofs.scopes.Scopes.get.Goals as goal

pub searching-init : goal.searching-init
searching-init c = record {
  within = subst (λ n. IsScopeOf n c.args.scope) (ap length (sym c.self.view_is) ∙ names_count c.self.inside.bindings.items) c.requires;
  left = ap (λ es. named (names_in es c.args.scope) c.args.name.now) c.self.view_is;
}

pub searching-smaller : goal.searching-smaller
searching-smaller c =
    let bs = c.self.inside.bindings.items in
    let b = c.index-binding.result.now in
    let lt : c.in-Within.row < length bs = subst (IsScopeOf (length bs)) c.in-Within.is c.searching.invariant.within in
    subst (λ r. depth b.outer < depth r) (sym c.in-Within.is)
    (subst (λ (x : Binding). depth x.outer < suc c.in-Within.row) (sym c.index-binding.ensures) (outer_lower bs c.in-Within.row b c.self.invariant lt))

pub searching-preserved : goal.searching-preserved
searching-preserved c =
    let bs = c.self.inside.bindings.items in
    let b = c.index-binding.result.now in
    let lt : c.in-Within.row < length bs = subst (IsScopeOf (length bs)) c.in-Within.is c.searching.invariant.within in
    record {
      within = subst (λ (x : Binding). IsScopeOf (length bs) x.outer) (sym c.index-binding.ensures) (outer_within bs c.in-Within.row b c.self.invariant lt);
      left = sym (name_further bs c.in-Within.row b c.args.name.now c.self.invariant lt c.index-binding.ensures (search rules))
          ∙ sym (ap (λ r. named (names_in (names_of bs) r) c.args.name.now) c.in-Within.is) ∙ c.searching.invariant.left;
    }
