use Rattle.std.proofs.Common.{rules, ◌≡◌, ◌∙◌, sym, ap, subst, length, [], ◌∷◌, ◌++◌}
use Rattle.ft_values.specs.Scopes.{IsScopeOf, names_in, names_of}
use Rattle.ft_values.proofs.Layers.{scope_made, within_push, names_count, names_more}
use Rattle.ft_values.proofs.scopes.Scopes.bind.Goals as goal

pub invariant_of-self-2 : goal.invariant_of-self-2
invariant_of-self-2 c =
    let t = c.self.inside in
    let outer : IsScopeOf (length t.bindings.items) c.args.outer =
    subst (λ n. IsScopeOf n c.args.outer) (ap length (sym c.self.view_is) ∙ names_count t.bindings.items) c.requires in
    rw c.in_ok-push.ensures.items (within_push t.bindings.items _ c.self.invariant outer)

pub returns-clause-scope : goal.returns-clause-scope
returns-clause-scope c =
    let t = c.self.inside in
    let n : c.len-row.result ≡ length t.bindings.items = search rules in
    rw (c.in_ok-push.ensures.items, n) (scope_made t.bindings.items _).0

pub returns-clause-means : goal.returns-clause-means
returns-clause-means c =
    let t = c.self.inside in
    let n : c.len-row.result ≡ length t.bindings.items = search rules in
    rw (c.in_ok-push.ensures.items, n, ← c.self.view_is)
    ((scope_made t.bindings.items _).1 ∙ ap (λ m. (m, c.args.value) ∷ names_in (names_of t.bindings.items) c.args.outer) c.in_ok-name.ensures)

pub returns-clause-list : goal.returns-clause-list
returns-clause-list c =
    let t = c.self.inside in
    rw (c.in_ok-push.ensures.items, ← c.self.view_is)
    (names_more [] t.bindings.items _ ∙ ap (λ m. names_of t.bindings.items ++ ((m, c.args.value) ∷ names_in (names_of t.bindings.items) c.args.outer) ∷ []) c.in_ok-name.ensures)

pub invariant_of-self : goal.invariant_of-self
invariant_of-self c = rw c.in_err-push.ensures.items c.self.invariant
