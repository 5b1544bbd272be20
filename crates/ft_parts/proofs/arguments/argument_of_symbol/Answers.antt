use Rattle.std.proofs.Common.{◌≡◌, ◌∙◌, ℕ, ◌-◌, ◌<◌, Some, List, length, ap, refl, sym, subst, arith}
use Rattle.std.specs.Prelude.{slice_get, Err}
use Rattle.std.proofs.lemmas.Option.{slice_get_read}
use Rattle.ft_items.specs.Store.{declared_by, rules_in, Declared, premises_of, nth}
use Rattle.ft_items.specs.Rows.{arguments_of as arguments_by}
use Rattle.ft_reference.specs.Checks.{is_application}
use Rattle.ft_syntax.specs.Arguments.{arguments_of, node_of}
use Rattle.ft_syntax.specs.Table.{tree, argument_in}
use Rattle.ft_syntax.specs.declared.syntax.Node.TheVariants.{Sym}
use Rattle.ft_parts.specs.Places.{FindsPlace}
use Rattle.ft_parts.proofs.Declared.{below_some}
use Rattle.ft_parts.proofs.Lines.{IsRule, rule_there}
use Rattle.ft_parts.proofs.Premises.{premise_named, premise_below}
use Rattle.ft_parts.proofs.Found.{symbol_applies, finds_past, finds_empty, no_symbol_arguments, symbol_count, symbol_place, symbol_big}
use Rattle.ft_parts.proofs.arguments.argument_of_symbol.Goals as goal

pub returns-in-None-clause-finds : goal.returns-in-None-clause-finds
returns-in-None-clause-finds c =
    let s = c.args.k.now in
    let x = tree s.trees c.args.e in
    finds_empty s.trees x c.args.i (arguments_by (declared_by s.items) x) c.no_place.result (symbol_applies x c.args.s c.requires.symbol)
    (no_symbol_arguments s x c.args.s c.rule_numbered.result c.terms-terms.ensures.good c.requires.symbol c.rule_numbered.ensures c.in-None.is) c.no_place.ensures

pub returns-then-i-lt1-clause-finds : goal.returns-then-i-lt1-clause-finds
returns-then-i-lt1-clause-finds c =
    let s = c.args.k.now in
    let x = tree s.trees c.args.e in
    let y = c.rule.result.now in
    let r = c.in-Some.rule in
    let same : r ≡ c.args.s = below_some c.args.s (length (rules_in s.items)) r (sym c.rule_numbered.ensures ∙ c.in-Some.is) in
    let node : node_of x ≡ Sym r = c.requires.symbol ∙ ap Sym (sym same) in
    let R : IsRule s r y.premises y.conclusion = rule_there s r (y.name, y.premises, y.conclusion) c.rule.ensures.good c.rule.ensures.rule in
    let here : c.count.result ≡ length (arguments_of x) = c.count.ensures ∙ ap (λ ts. length (arguments_of (tree ts c.args.e))) c.terms-terms.ensures.terms in
    let listed : length c.items-premises.result.now ≡ length y.premises = ap length c.items-premises.ensures in
    let total : length (arguments_by (declared_by s.items) x) ≡ c.min-given.result = omega (arith, symbol_count s x r y.conclusion y.premises R node, here, listed, c.min-given.ensures) in
    finds_past s.trees x c.args.i c.min-given.result (arguments_by (declared_by s.items) x) c.no_place-then-i-lt1.result (symbol_applies x r node) total c.then-i-lt1.either c.no_place-then-i-lt1.ensures

pub argument_for-requires-clause-premise : goal.argument_for-requires-clause-premise
argument_for-requires-clause-premise c =
    let s = c.args.k.now in
    let y = c.rule.result.now in
    let m = c.index-premises-i.result in
    let R : IsRule s c.in-Some.rule y.premises y.conclusion = rule_there s c.in-Some.rule (y.name, y.premises, y.conclusion) c.rule.ensures.good c.rule.ensures.rule in
    let less : c.args.i - 1 < length c.items-premises.result.now = omega (arith, c.if-i-lt1.false, c.if-given-i.false, c.min-given.ensures) in
    let named : slice_get y.premises (c.args.i - 1) ≡ Some m = subst (λ (ms : List ℕ). slice_get ms (c.args.i - 1) ≡ Some m) c.items-premises.ensures (slice_get_read c.items-premises.result.now (length c.items-premises.result.now) (c.args.i - 1) m refl less c.index-premises-i.is) in
    let d : (d : Declared) × (nth (declared_by s.items).metavariables m ≡ Some d) × (nth (premises_of R.premises) (c.args.i - 1) ≡ Some (m, d.boundary)) = premise_named (declared_by s.items) y.premises R.premises (c.args.i - 1) m R.are named in
    premise_below s m d.0 c.rule.ensures.good d.1

pub returns-in-Ok-clause-finds : goal.returns-in-Ok-clause-finds
returns-in-Ok-clause-finds c =
    let s = c.args.k.now in
    let x = tree s.trees c.args.e in
    let y = c.rule.result.now in
    let r = c.in-Some.rule in
    let m = c.index-premises-i.result in
    let a = c.arg-argument.result in
    let same : r ≡ c.args.s = below_some c.args.s (length (rules_in s.items)) r (sym c.rule_numbered.ensures ∙ c.in-Some.is) in
    let node : node_of x ≡ Sym r = c.requires.symbol ∙ ap Sym (sym same) in
    let R : IsRule s r y.premises y.conclusion = rule_there s r (y.name, y.premises, y.conclusion) c.rule.ensures.good c.rule.ensures.rule in
    let less : c.args.i - 1 < length c.items-premises.result.now = omega (arith, c.if-i-lt1.false, c.if-given-i.false, c.min-given.ensures) in
    let named : slice_get y.premises (c.args.i - 1) ≡ Some m = subst (λ (ms : List ℕ). slice_get ms (c.args.i - 1) ≡ Some m) c.items-premises.ensures (slice_get_read c.items-premises.result.now (length c.items-premises.result.now) (c.args.i - 1) m refl less c.index-premises-i.is) in
    let given : slice_get (arguments_of x) (c.args.i - 1) ≡ Some (argument_in s.trees a) = subst (λ ts. slice_get (arguments_of (tree ts c.args.e)) (c.args.i - 1) ≡ Some (argument_in ts a)) c.terms-terms.ensures.terms c.arg-argument.ensures.argument in
    (symbol_applies x r node, symbol_place s x r y.conclusion c.args.i m y.premises (argument_in s.trees a) R node c.if-i-lt1.false named given ∙ ap Some (sym c.in-Ok.ensures.thesis))

pub returns-in-Err-clause-finds : goal.returns-in-Err-clause-finds
returns-in-Err-clause-finds c =
    let s = c.args.k.now in
    let t = c.argument_for.new.k in
    let x = tree s.trees c.args.e in
    let y = c.rule.result.now in
    let r = c.in-Some.rule in
    let m = c.index-premises-i.result in
    let a = c.arg-argument.result in
    let same : r ≡ c.args.s = below_some c.args.s (length (rules_in s.items)) r (sym c.rule_numbered.ensures ∙ c.in-Some.is) in
    let node : node_of x ≡ Sym r = c.requires.symbol ∙ ap Sym (sym same) in
    let R : IsRule s r y.premises y.conclusion = rule_there s r (y.name, y.premises, y.conclusion) c.rule.ensures.good c.rule.ensures.rule in
    let less : c.args.i - 1 < length c.items-premises.result.now = omega (arith, c.if-i-lt1.false, c.if-given-i.false, c.min-given.ensures) in
    let named : slice_get y.premises (c.args.i - 1) ≡ Some m = subst (λ (ms : List ℕ). slice_get ms (c.args.i - 1) ≡ Some m) c.items-premises.ensures (slice_get_read c.items-premises.result.now (length c.items-premises.result.now) (c.args.i - 1) m refl less c.index-premises-i.is) in
    let given : slice_get (arguments_of x) (c.args.i - 1) ≡ Some (argument_in s.trees a) = subst (λ ts. slice_get (arguments_of (tree ts c.args.e)) (c.args.i - 1) ≡ Some (argument_in ts a)) c.terms-terms.ensures.terms c.arg-argument.ensures.argument in
    subst (λ f. FindsPlace t.trees (is_application x) c.args.i (arguments_by (declared_by s.items) x) (Err f)) (sym c.from.ensures)
    (symbol_big t.trees s x r c.args.i m (argument_in s.trees a) c.in-Err.fault node (symbol_place s x r y.conclusion c.args.i m y.premises (argument_in s.trees a) R node c.if-i-lt1.false named given) c.in-Err.ensures.small)
