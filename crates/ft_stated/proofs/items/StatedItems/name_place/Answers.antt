use Rattle.std.proofs.Common.{rules, ◌≡◌, ◌∙◌, ap}
use Rattle.std.specs.Str.{bytes_eq}
use Rattle.std.specs.Map.{lookup}
use Rattle.ft_stated.specs.First.{first_place, is_rule_of}
use Rattle.ft_stated.specs.Lines.{Listing}
use Rattle.ft_stated.proofs.items.StatedItems.name_place.Goals as goal

pub returns : goal.returns
returns c =
    let read : c.copied.result ≡ lookup (bytes_eq c.args.name.now) c.self.inside.firsts.rules.entries = search rules in
    read ∙ c.self.invariant.2.rules_are c.args.name.now ∙ ap (λ (s : Listing). first_place (is_rule_of c.args.name.now) s.items) c.self.view_is
