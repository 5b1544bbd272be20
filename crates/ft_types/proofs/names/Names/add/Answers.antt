use Rattle.std.proofs.Common.{◌∙◌, sym, ap, ◌∷◌, []}
use Rattle.std.specs.Prelude.{cond, Some}
use Rattle.std.specs.Map.{lookup}
use Rattle.std.specs.Str.{bytes_eq}
use Rattle.ft_types.specs.Names.{listed}
use Rattle.ft_types.proofs.Listed.{listed_append, has_more}
use Rattle.ft_types.proofs.names.Names.add.Goals as goal

pub invariant_of-self-in_default : goal.invariant_of-self-in_default
invariant_of-self-in_default g c =
    let both = c.in_ok-key.ensures ∙ sym c.in_ok-copy.ensures in
    rw c.in_ok-push.ensures.items (has_more c.self.inside.entries.items _ c.self.inside.last.entries c.insert.new.self.entries c.self.invariant
    (λ n. c.in_default.ensures.updates.0 n ∙ ap (λ k. cond (bytes_eq k n) (Some c.args.meaning) (lookup (bytes_eq n) c.self.inside.last.entries)) both))

pub returns-clause-ok : goal.returns-clause-ok
returns-clause-ok g c =
    ap listed c.in_ok-push.ensures.items ∙ listed_append [] c.self.inside.entries.items _
    ∙ ap (λ k. (k, c.args.meaning) ∷ listed c.self.inside.entries.items) c.in_ok-copy.ensures
    ∙ ap (λ ns. (c.args.name.now, c.args.meaning) ∷ ns) c.self.view_is
