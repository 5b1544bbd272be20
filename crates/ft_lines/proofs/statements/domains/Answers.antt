use Rattle.std.proofs.Common.{◌≡◌, ◌∙◌, ◌++◌, ◌∷◌, [], sym, subst, ap, length, map}
use Rattle.ft_syntax.specs.Table.{tree, AllBelow}
use Rattle.ft_syntax.specs.Laws.{extends_trans}
use Rattle.ft_lines.proofs.Forming.{terms_more, terms_below}
use Rattle.ft_lines.proofs.Reading.{domains_more}
use Rattle.ft_lines.proofs.statements.domains.Goals as goal

pub loop-turn-preserved : goal.loop-turn-preserved
loop-turn-preserved c =
    let on = c.in_ok-domain.ensures.goes_on in
    let next : map (tree c.domain.new.terms) c.push.new.self ≡ map (tree c.loop-turn.terms) c.loop-turn.found ++ tree c.domain.new.terms c.in_ok-domain.domain ∷ [] =
    ap (map (tree c.domain.new.terms)) c.in_ok-push.ensures.ok ∙ terms_more c.loop-turn.terms c.domain.new.terms c.loop-turn.found c.in_ok-domain.domain on c.loop-turn.invariant.below in
    record {
      below = subst (AllBelow (length c.domain.new.terms)) (sym c.in_ok-push.ensures.ok)
          (terms_below c.loop-turn.terms c.domain.new.terms c.loop-turn.found c.in_ok-domain.domain on c.loop-turn.invariant.below c.in_ok-domain.ensures.reads.0);
      goes_on = extends_trans c.args.terms.now c.loop-turn.terms c.domain.new.terms c.loop-turn.invariant.goes_on on;
      same = domains_more _ c.left-turn-end.result c.loop-turn._turn (map (tree c.loop-turn.terms) c.loop-turn.found) _
          (tree c.domain.new.terms c.in_ok-domain.domain) c.loop-turn.text c.passes.new.self c.domain.new.text c.passes.result
          c.loop-turn-test.true c.loop-turn.invariant.same c.passes.ensures.tells c.if-not-passes.false c.passes.ensures.rest c.in_ok-domain.ensures.reads.1 next;
    }
