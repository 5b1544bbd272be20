use Rattle.std.proofs.Common.{◌∙◌, refl, rules, add-one, subst}
use Rattle.ft_syntax.specs.Laws.{below_extends, extends_trans}
use Rattle.ft_calls.proofs.Later.{AreSmallTrees}
use Rattle.ft_parts.proofs.Opened.{opening_more, opening_big, terms_later, count_later}
use Rattle.ft_parts.proofs.opening.open_all.Goals as goal

pub term_at-term-requires-clause-below : goal.term_at-term-requires-clause-below
term_at-term-requires-clause-below c = below_extends c.args.k.now.trees c.loop-i.k.trees c.args.e c.loop-i.invariant.stays.1 c.requires.below

pub term_at-term-requires-clause-last : goal.term_at-term-requires-clause-last
term_at-term-requires-clause-last c = count_later c.args.k.now c.loop-i.k c.args.ty c.args.domains c.args.e c.loop-i.i c.loop-i.opened c.loop-i.invariant c.requires.below c.requires.domains (search rules)

pub term_at-term-requires-clause-terms : goal.term_at-term-requires-clause-terms
term_at-term-requires-clause-terms c = terms_later c.args.k.now c.loop-i.k c.args.ty c.args.domains c.args.e c.loop-i.i c.loop-i.opened c.loop-i.invariant c.requires.below c.requires.terms

pub open_bound-requires : goal.open_bound-requires
open_bound-requires c = (c.loop-i.invariant.below, c.term_at-term.ensures.below)

pub returns-in-Err-clause-too_big : goal.returns-in-Err-clause-too_big
returns-in-Err-clause-too_big c q all =
    let s = c.args.k.now in
    let t = c.loop-i.k in
    let small : AreSmallTrees t.trees = subst AreSmallTrees c.terms.ensures.terms c.are_small.ensures in
    opening_big s t c.args.ty c.args.domains c.args.e c.loop-i.i c.loop-i.opened c.term_at-term.result _ c.loop-i.invariant c.requires.below (search rules) refl c.term_at-term.ensures.term
    (small c.args.e (below_extends s.trees t.trees c.args.e c.loop-i.invariant.stays.1 c.requires.below)) (small c.loop-i.opened c.loop-i.invariant.below) (c.in-Err.ensures.too_big q) all

pub returns-in-Err-clause-stays : goal.returns-in-Err-clause-stays
returns-in-Err-clause-stays c =
    (c.open_bound.ensures.items ∙ c.loop-i.invariant.stays.0, extends_trans c.args.k.now.trees c.loop-i.k.trees c.open_bound.new.self.trees c.loop-i.invariant.stays.1 c.open_bound.ensures.goes_on)

pub loop-i-preserved : goal.loop-i-preserved
loop-i-preserved c =
    rw add-one (opening_more c.args.k.now c.loop-i.k c.open_bound.new.self c.args.ty c.args.domains c.args.e c.loop-i.i c.loop-i.opened c.term_at-term.result _ c.in-Ok.opened c.loop-i.invariant c.requires.below (search rules) refl
    c.term_at-term.ensures.term c.open_bound.ensures.items c.open_bound.ensures.goes_on c.in-Ok.ensures.within c.in-Ok.ensures.tree)
