use Rattle.std.proofs.Common.{rules, ◌≡◌, ◌≤◌, subst, length}
use Rattle.std.specs.Prelude.{IfSome, IfNone}
use Rattle.ft_items.specs.Store.{nth, rules_in}
use Rattle.ft_stated.specs.Lines.{Listing}
use Rattle.ft_stated.specs.Places.{RuleStands}
use Rattle.ft_stated.proofs.Indexes.{rule_answered, rule_missing}
use Rattle.ft_stated.proofs.items.StatedItems.rule_place.Goals as goal

pub returns-clause-some : goal.returns-clause-some
returns-clause-some c =
    let read : c.place_at.result ≡ nth c.self.inside.index.rules.items c.args.n = search rules in
    subst (λ (s : Listing). IfSome c.place_at.result (λ k. RuleStands s.items c.args.n k)) c.self.view_is (rule_answered _ _ c.args.n c.place_at.result c.self.invariant.1.2 read)

pub returns-clause-none : goal.returns-clause-none
returns-clause-none c =
    let read : c.place_at.result ≡ nth c.self.inside.index.rules.items c.args.n = search rules in
    subst (λ (s : Listing). IfNone c.place_at.result (length (rules_in s.items) ≤ c.args.n)) c.self.view_is (rule_missing _ _ c.args.n c.place_at.result c.self.invariant.1.2 read)
