use Rattle.std.proofs.Common.{rules, ◌≡◌, ◌∙◌, ap, true, false, take, None}
use Rattle.ft_items.specs.Good.{unless, Loose}
use Rattle.ft_check.specs.Entries.{entry_in}
use Rattle.ft_check.proofs.RuleReasons.{rule_kind, rule_tight}
use Rattle.ft_check.proofs.rules.against_conclusion.Goals as goal

pub returns-then-not-is_of_kind : goal.returns-then-not-is_of_kind
returns-then-not-is_of_kind c =
    let failed : c.is_of_kind.result ≡ false = search rules in
    λ ts ds g h. rule_kind (take c.args.i c.args.items.now.items) c.args.ms.now ds (entry_in ts c.args.found) c.is_of_kind.result h (c.is_of_kind.ensures ts) failed

pub returns-then-is_tight : goal.returns-then-is_tight
returns-then-is_tight c =
    let right : c.is_of_kind.result ≡ true = search rules in
    let tight : true ≡ c.is_tight.result = search rules in
    λ ts ds g h. ap (λ b. unless b Loose None) tight
    ∙ rule_tight (take c.args.i c.args.items.now.items) c.args.ms.now ds (entry_in ts c.args.found) c.is_of_kind.result c.is_tight.result g h (c.is_of_kind.ensures ts) right (c.is_tight.ensures ts)

pub returns-else-is_tight : goal.returns-else-is_tight
returns-else-is_tight c =
    let right : c.is_of_kind.result ≡ true = search rules in
    let loose : false ≡ c.is_tight.result = search rules in
    λ ts ds g h. ap (λ b. unless b Loose None) loose
    ∙ rule_tight (take c.args.i c.args.items.now.items) c.args.ms.now ds (entry_in ts c.args.found) c.is_of_kind.result c.is_tight.result g h (c.is_of_kind.ensures ts) right (c.is_tight.ensures ts)
