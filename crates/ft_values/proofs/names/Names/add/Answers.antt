use Rattle.std.proofs.Common.{◌∙◌, sym, ap, ◌∷◌, []}
use Rattle.std.specs.Prelude.{cond, Some}
use Rattle.std.specs.Map.{lookup}
use Rattle.std.specs.Str.{bytes_eq}
use Rattle.ft_values.specs.Names.{listed}
use Rattle.ft_values.proofs.Listed.{listed_append, has_more}
use Rattle.ft_values.proofs.names.Names.add.Goals as goal

pub invariant_of-self-in_default : goal.invariant_of-self-in_default
invariant_of-self-in_default c =
    let both = c.in_ok-key.ensures ∙ sym c.in_ok-copy.ensures in
    rw c.in_ok-push.ensures.items (has_more c.self.inside.entries.items _ c.self.inside.last.entries c.insert.new.self.entries c.self.invariant
    (λ n. c.in_default.ensures.updates.0 n ∙ ap (λ k. cond (bytes_eq k n) (Some c.args.value) (lookup (bytes_eq n) c.self.inside.last.entries)) both))

pub returns-clause-ok : goal.returns-clause-ok
returns-clause-ok c =
    ap listed c.in_ok-push.ensures.items ∙ listed_append [] c.self.inside.entries.items _
    ∙ ap (λ k. (k, c.args.value) ∷ listed c.self.inside.entries.items) c.in_ok-copy.ensures
    ∙ ap (λ ns. (c.args.name.now, c.args.value) ∷ ns) c.self.view_is
