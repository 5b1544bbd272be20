use Rattle.std.proofs.Common.{rules, ◌≡◌, true, false, Some, cond, subst}
use Rattle.std.specs.Prelude.{is_some}
use Rattle.std.specs.Str.{bytes_eq}
use Rattle.std.specs.Map.{lookup}
use Rattle.ft_stated.proofs.FirstPlaces.{name_new, name_there}
use Rattle.ft_stated.proofs.firsts.Firsts.note_rule.Goals as goal

pub returns-in_ok-insert-clause-rules : goal.returns-in_ok-insert-clause-rules
returns-in_ok-insert-clause-rules c =
    let none : is_some (lookup (bytes_eq c.args.name.now) c.args.self.now.rules.entries) ≡ false = search rules in
    let key : c.in_ok-copy.field-0 ≡ c.args.name.now = search rules in
    name_new c.args.name.now c.args.self.now.rules.entries c.insert.new.self.entries c.args.place none
    (λ q. subst (λ m. lookup (bytes_eq q) c.insert.new.self.entries ≡ cond (bytes_eq m q) (Some c.args.place) (lookup (bytes_eq q) c.args.self.now.rules.entries)) key (c.in_ok-insert.ensures.updates.0 q))

pub returns-else-not-contains_key-clause-rules : goal.returns-else-not-contains_key-clause-rules
returns-else-not-contains_key-clause-rules c =
    let some : is_some (lookup (bytes_eq c.args.name.now) c.args.self.now.rules.entries) ≡ true = search rules in
    name_there c.args.name.now c.args.self.now.rules.entries c.args.place some
