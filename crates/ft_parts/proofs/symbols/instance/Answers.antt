use Rattle.std.proofs.Common.{◌≡◌, ◌∙◌, ◌+◌, ◌-◌, ◌<◌, ◌≤◌, ◌++◌, ◌∷◌, [], Some, length, min, ap, sym, subst, add-one, arith}
use Rattle.std.specs.Prelude.{slice_get}
use Rattle.ft_items.specs.Store.{declared_rule}
use Rattle.ft_syntax.specs.Arguments.{arguments_of}
use Rattle.ft_syntax.specs.Table.{tree, argument_in}
use Rattle.ft_parts.specs.Types.{instance_at}
use Rattle.ft_parts.proofs.Pairing.{pairing_more, pairing_end}
use Rattle.ft_parts.proofs.Lines.{IsRule, rule_there}
use Rattle.ft_parts.proofs.symbols.instance.Goals as goal

pub loop-i-preserved : goal.loop-i-preserved
loop-i-preserved c =
    let ts = c.args.k.now.trees in
    let x = c.arg-argument.result in
    let l : c.loop-i.i < length c.items-premises.result.now = omega (arith, c.loop-i-test.true, c.min-count.ensures) in
    rw add-one (pairing_more ts c.items-premises.result.now (arguments_of (tree ts c.args.e)) c.loop-i.i c.index-premises-i.result c.args.e x c.loop-i.pairs c.push.new.self c.loop-i.invariant l c.index-premises-i.is
    (subst (λ ts. slice_get (arguments_of (tree ts c.args.e)) (c.loop-i.i + 1 - 1) ≡ Some (argument_in ts x)) c.terms-terms.ensures.terms c.arg-argument.ensures.argument) c.arg-argument.ensures.below c.requires.below
    (c.in_ok-push.ensures.ok ∙ ap (λ n. c.loop-i.pairs ++ (n, x) ∷ []) c.number.ensures))

pub returns-clause-instance : goal.returns-clause-instance
returns-clause-instance c =
    let s = c.args.k.now in
    let x = c.rule.result.now in
    let X = tree s.trees c.args.e in
    let R : IsRule s c.args.r x.premises x.conclusion = rule_there s c.args.r (x.name, x.premises, x.conclusion) c.rule.ensures.good c.rule.ensures.rule in
    let count : c.count.result ≡ length (arguments_of X) = c.count.ensures ∙ ap (λ ts. length (arguments_of (tree ts c.args.e))) c.terms-terms.ensures.terms in
    let past : min (length (arguments_of X)) (length c.items-premises.result.now) ≤ c.loop-i.i = omega (arith, c.loop-i-test.false, c.min-count.ensures, count) in
    pairing_end s.trees c.items-premises.result.now c.loop-i.i c.args.r (declared_rule R.premises R.conclusion) X c.loop-i.pairs c.loop-i.invariant past (R.numbers ∙ sym c.items-premises.ensures) c.requires.symbol
    ∙ ap (λ o. instance_at o X) (sym R.at)
