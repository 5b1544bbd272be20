use Rattle.std.proofs.Common.{◌<◌, length, subst, sym, rules, add-one, arith}
use Rattle.ft_items.specs.Store.{metavariables_in}
use Rattle.ft_syntax.specs.Laws.{one_below, pairs_below_extends}
use Rattle.ft_apply.proofs.Naming.{thesis_named}
use Rattle.ft_apply.proofs.Fitted.{theses_stay}
use Rattle.ft_apply.proofs.Asking.{fitting_more, fitting_fault}
use Rattle.ft_apply.proofs.fitting.fit_all.Goals as goal

pub fit-requires-clause-thesis : goal.fit-requires-clause-thesis
fit-requires-clause-thesis c =
    thesis_named c.loop-n.k c.args.args.now c.loop-n.n c.index-args-n.result (theses_stay c.args.k.now c.loop-n.k c.args.args.now c.loop-n.invariant.stays.0 c.requires.arguments) (search rules) c.index-args-n.is

pub fit-requires-clause-met : goal.fit-requires-clause-met
fit-requires-clause-met c =
    let l : c.loop-n.n < length c.args.premises.now = omega (arith, c.requires.count) in
    subst (λ items. c.index-premises-n.result < length (metavariables_in items)) (sym c.loop-n.invariant.stays.0)
    (one_below (length (metavariables_in c.args.k.now.items)) c.loop-n.n c.index-premises-n.result c.args.premises.now c.requires.premises l c.index-premises-n.is)

pub fit-requires-clause-pairs : goal.fit-requires-clause-pairs
fit-requires-clause-pairs c = pairs_below_extends c.args.k.now.trees c.loop-n.k.trees c.args.i.now.pairs c.loop-n.invariant.stays.1 c.requires.pairs

pub returns-in-Err-clause-checks : goal.returns-in-Err-clause-checks
returns-in-Err-clause-checks c =
    let l : c.loop-n.n < length c.args.premises.now = omega (arith, c.requires.count) in
    fitting_fault c.args.k.now c.loop-n.k c.fit.new.k c.args.i.now.pairs c.args.premises.now c.args.args.now c.loop-n.n c.index-premises-n.result c.index-args-n.result c.in-Err.fault
    c.loop-n.invariant c.requires.pairs l (search rules) c.index-premises-n.is c.index-args-n.is c.in-Err.ensures.checks

pub loop-n-preserved : goal.loop-n-preserved
loop-n-preserved c =
    let l : c.loop-n.n < length c.args.premises.now = omega (arith, c.requires.count) in
    rw add-one (fitting_more c.args.k.now c.loop-n.k c.fit.new.k c.args.i.now.pairs c.args.premises.now c.args.args.now c.loop-n.n c.index-premises-n.result c.index-args-n.result
    c.loop-n.invariant c.requires.pairs l (search rules) c.index-premises-n.is c.index-args-n.is c.in-Ok.ensures.stays c.in-Ok.ensures.checks)
