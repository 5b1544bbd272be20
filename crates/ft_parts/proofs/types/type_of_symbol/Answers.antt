use Rattle.std.proofs.Common.{◌≡◌, ◌∙◌, length, Some, ap, sym, subst}
use Rattle.std.specs.Prelude.{Err}
use Rattle.ft_theory.specs.Expressions.{instantiate}
use Rattle.ft_items.specs.Store.{declared_by, rules_in}
use Rattle.ft_items.specs.Rows.{natural_type}
use Rattle.ft_syntax.specs.Table.{tree}
use Rattle.ft_syntax.specs.Instances.{instance_in}
use Rattle.ft_parts.specs.Types.{FindsType}
use Rattle.ft_parts.proofs.Declared.{below_some, no_symbol, symbol_type}
use Rattle.ft_parts.proofs.Told.{finds_none, finds_big}
use Rattle.ft_parts.proofs.types.type_of_symbol.Goals as goal

pub returns-in-None-clause-finds : goal.returns-in-None-clause-finds
returns-in-None-clause-finds c =
    let s = c.args.k.now in
    let x = tree s.trees c.args.e in
    finds_none s.trees (natural_type (declared_by s.items) x) (no_symbol s x c.args.s c.rule_numbered.result c.terms-terms.ensures.good c.requires.symbol c.rule_numbered.ensures c.in-None.is)

pub returns-in-Ok-clause-finds : goal.returns-in-Ok-clause-finds
returns-in-Ok-clause-finds c =
    let s = c.args.k.now in
    let x = tree s.trees c.args.e in
    let same : c.in-Some.rule ≡ c.args.s = below_some c.args.s (length (rules_in s.items)) c.in-Some.rule (sym c.rule_numbered.ensures ∙ c.in-Some.is) in
    symbol_type s x c.args.s c.in-Some.rule c.in-Some-type_of_conclusion.ty (instance_in s.trees c.in_ok-instance.instance.pairs) c.type_of_conclusion.result c.requires.symbol same c.type_of_conclusion.ensures.ty
    c.in-Some-type_of_conclusion.is c.in_ok-instance.ensures.instance
    ∙ ap Some (sym c.in-Ok.ensures.tree)

pub returns-clause-finds : goal.returns-clause-finds
returns-clause-finds c =
    let s = c.args.k.now in
    let x = tree s.trees c.args.e in
    let i = instance_in s.trees c.in_ok-instance.instance.pairs in
    let same : c.in-Some.rule ≡ c.args.s = below_some c.args.s (length (rules_in s.items)) c.in-Some.rule (sym c.rule_numbered.ensures ∙ c.in-Some.is) in
    subst (λ f. FindsType c.instantiate.new.self.trees (natural_type (declared_by s.items) x) (Err f)) (sym c.from.ensures)
    (finds_big c.instantiate.new.self.trees (natural_type (declared_by s.items) x) (instantiate i (tree s.trees c.in-Some-type_of_conclusion.ty)) c.in-Err.fault
    (symbol_type s x c.args.s c.in-Some.rule c.in-Some-type_of_conclusion.ty i c.type_of_conclusion.result c.requires.symbol same c.type_of_conclusion.ensures.ty
    c.in-Some-type_of_conclusion.is c.in_ok-instance.ensures.instance) c.in-Err.ensures.too_big)
