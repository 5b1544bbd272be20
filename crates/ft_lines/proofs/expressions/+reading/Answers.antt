use Rattle.std.proofs.Common.{◌≡◌, ◌∙◌, ◌++◌, ◌∷◌, [], sym, subst, ap, arith, length, map}
use Rattle.ft_syntax.specs.Table.{tree, argument_in, ArgumentsBelow, AllBelow}
use Rattle.ft_syntax.specs.declared.syntax.Arg.{Arg}
use Rattle.ft_syntax.specs.Laws.{extends_trans}
use Rattle.ft_lines.specs.Expressions.{expression_within, argument}
use Rattle.ft_common.proofs.Turns.{deeper}
use Rattle.ft_lines.proofs.Items.{items_more, items_last}
use Rattle.ft_lines.proofs.Forming.{arguments_more, arguments_below, terms_more, terms_below}
use Rattle.ft_lines.proofs.expressions.+reading.Goals as goal

pub expression_within-returns-then-depth-eq0-clause-reads : goal.expression_within-returns-then-depth-eq0-clause-reads
unfolding expression_within
expression_within-returns-then-depth-eq0-clause-reads t c = λ _. let none : c.args.depth ≡ 0 = omega arith in ap (λ n. expression_within n c.args.text.now) none

pub expression_within-returns-clause-reads : goal.expression_within-returns-clause-reads
unfolding expression_within
expression_within-returns-clause-reads t c = rw (deeper (λ n. expression_within n c.args.text.now) c.args.depth (omega arith)) c.level.ensures.reads

pub some_arguments-loop-turn-preserved : goal.some_arguments-loop-turn-preserved
some_arguments-loop-turn-preserved t c =
    let x : Arg = record { binders = c.in_ok-binders.binders; body = c.in_ok-binders.body } in
    let on = c.in_ok-binders.ensures.goes_on in
    let next : map (argument_in c.argument.new.terms) c.push.new.self ≡ map (argument_in c.loop-turn.terms) c.loop-turn.found ++ argument_in c.argument.new.terms x ∷ [] =
    ap (map (argument_in c.argument.new.terms)) c.in_ok-push.ensures.ok ∙ arguments_more c.loop-turn.terms c.argument.new.terms c.loop-turn.found x on c.loop-turn.invariant.below in
    record {
      below = subst (ArgumentsBelow (length c.argument.new.terms)) (sym c.in_ok-push.ensures.ok)
          (arguments_below c.loop-turn.terms c.argument.new.terms c.loop-turn.found x on c.loop-turn.invariant.below c.in_ok-binders.ensures.reads.0);
      goes_on = extends_trans c.args.terms.now c.loop-turn.terms c.argument.new.terms c.loop-turn.invariant.goes_on on;
      same = items_more (argument (expression_within c.args.depth)) _ c.left-turn-end.result c.loop-turn._turn (map (argument_in c.loop-turn.terms) c.loop-turn.found) _
          (argument_in c.argument.new.terms x) c.loop-turn.text c.argument.new.text c.passes.new.self c.passes.result
          c.loop-turn-test.true c.loop-turn.invariant.same c.in_ok-binders.ensures.reads.1 next c.passes.ensures.tells c.if-not-passes.false c.passes.ensures.rest;
    }

pub some_arguments-returns-then-not-passes-clause-reads : goal.some_arguments-returns-then-not-passes-clause-reads
some_arguments-returns-then-not-passes-clause-reads t c =
    let x : Arg = record { binders = c.in_ok-binders.binders; body = c.in_ok-binders.body } in
    let on = c.in_ok-binders.ensures.goes_on in
    let next : map (argument_in c.argument.new.terms) c.push.new.self ≡ map (argument_in c.loop-turn.terms) c.loop-turn.found ++ argument_in c.argument.new.terms x ∷ [] =
    ap (map (argument_in c.argument.new.terms)) c.in_ok-push.ensures.ok ∙ arguments_more c.loop-turn.terms c.argument.new.terms c.loop-turn.found x on c.loop-turn.invariant.below in (
      subst (ArgumentsBelow (length c.argument.new.terms)) (sym c.in_ok-push.ensures.ok)
          (arguments_below c.loop-turn.terms c.argument.new.terms c.loop-turn.found x on c.loop-turn.invariant.below c.in_ok-binders.ensures.reads.0),
      items_last (argument (expression_within c.args.depth)) _ c.left-turn-end.result c.loop-turn._turn (map (argument_in c.loop-turn.terms) c.loop-turn.found) _
          (argument_in c.argument.new.terms x) c.loop-turn.text c.argument.new.text c.passes.new.self c.passes.result
          c.loop-turn-test.true c.loop-turn.invariant.same c.in_ok-binders.ensures.reads.1 next c.passes.ensures.tells c.if-not-passes.true c.passes.ensures.rest,
    )

pub some_terms-loop-turn-preserved : goal.some_terms-loop-turn-preserved
some_terms-loop-turn-preserved t c =
    let on = c.in_ok-term.ensures.goes_on in
    let next : map (tree c.expression_within.new.terms) c.push.new.self ≡ map (tree c.loop-turn.terms) c.loop-turn.found ++ tree c.expression_within.new.terms c.in_ok-term.term ∷ [] =
    ap (map (tree c.expression_within.new.terms)) c.in_ok-push.ensures.ok ∙ terms_more c.loop-turn.terms c.expression_within.new.terms c.loop-turn.found c.in_ok-term.term on c.loop-turn.invariant.below in
    record {
      below = subst (AllBelow (length c.expression_within.new.terms)) (sym c.in_ok-push.ensures.ok)
          (terms_below c.loop-turn.terms c.expression_within.new.terms c.loop-turn.found c.in_ok-term.term on c.loop-turn.invariant.below c.in_ok-term.ensures.reads.0);
      goes_on = extends_trans c.args.terms.now c.loop-turn.terms c.expression_within.new.terms c.loop-turn.invariant.goes_on on;
      same = items_more (expression_within c.args.depth) _ c.left-turn-end.result c.loop-turn._turn (map (tree c.loop-turn.terms) c.loop-turn.found) _
          (tree c.expression_within.new.terms c.in_ok-term.term) c.loop-turn.text c.expression_within.new.text c.passes.new.self c.passes.result
          c.loop-turn-test.true c.loop-turn.invariant.same c.in_ok-term.ensures.reads.1 next c.passes.ensures.tells c.if-not-passes.false c.passes.ensures.rest;
    }

pub some_terms-returns-then-not-passes-clause-reads : goal.some_terms-returns-then-not-passes-clause-reads
some_terms-returns-then-not-passes-clause-reads t c =
    let on = c.in_ok-term.ensures.goes_on in
    let next : map (tree c.expression_within.new.terms) c.push.new.self ≡ map (tree c.loop-turn.terms) c.loop-turn.found ++ tree c.expression_within.new.terms c.in_ok-term.term ∷ [] =
    ap (map (tree c.expression_within.new.terms)) c.in_ok-push.ensures.ok ∙ terms_more c.loop-turn.terms c.expression_within.new.terms c.loop-turn.found c.in_ok-term.term on c.loop-turn.invariant.below in (
      subst (AllBelow (length c.expression_within.new.terms)) (sym c.in_ok-push.ensures.ok)
          (terms_below c.loop-turn.terms c.expression_within.new.terms c.loop-turn.found c.in_ok-term.term on c.loop-turn.invariant.below c.in_ok-term.ensures.reads.0),
      items_last (expression_within c.args.depth) _ c.left-turn-end.result c.loop-turn._turn (map (tree c.loop-turn.terms) c.loop-turn.found) _
          (tree c.expression_within.new.terms c.in_ok-term.term) c.loop-turn.text c.expression_within.new.text c.passes.new.self c.passes.result
          c.loop-turn-test.true c.loop-turn.invariant.same c.in_ok-term.ensures.reads.1 next c.passes.ensures.tells c.if-not-passes.true c.passes.ensures.rest,
    )
