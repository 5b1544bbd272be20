use Rattle.std.proofs.Common.{◌∙◌, sym}
use Rattle.ft_rules.proofs.Names.{name_taken, too_many, name_free}
use Rattle.ft_rules.proofs.drafts.free_name.Goals as goal

pub returns-then-is_some : goal.returns-then-is_some
returns-then-is_some c = name_taken c.args.k.now.items c.args.name.now c.rule_named.result c.terms-terms.ensures.good c.rule_named.ensures.fresh (sym c.is_some.ensures ∙ c.if-is_some.true)

pub returns-then-rules-ge-MAX_RULES : goal.returns-then-rules-ge-MAX_RULES
returns-then-rules-ge-MAX_RULES c =
    too_many c.args.k.now.items c.args.name.now c.rule_named.result c.rules.result c.terms-terms.ensures.good c.rule_named.ensures.fresh (sym c.is_some.ensures ∙ c.if-is_some.false) c.rules.ensures c.if-rules-ge-MAX_RULES.true

pub returns : goal.returns
returns c =
    name_free c.args.k.now.items c.args.name.now c.rule_named.result c.rules.result c.terms-terms.ensures.good c.rule_named.ensures.fresh (sym c.is_some.ensures ∙ c.if-is_some.false) c.rules.ensures c.if-rules-ge-MAX_RULES.false
