use Rattle.std.proofs.Common.{◌≡◌, ◌≢◌, ◌∙◌, ◌<◌, ◌≤◌, ◌++◌, [], ◌∷◌, length, get_or, subst, sym, ap, refl, rules, add-one, arith}
use Rattle.ft_syntax.specs.Table.{AllBelow}
use Rattle.ft_syntax.specs.Laws.{below_extends, one_below}
use Rattle.ft_judge.specs.Meaning.{goal_in, boundary_in}
use Rattle.ft_judge.specs.declared.fault.Refusal.TheVariants.{ArgumentCount}
use Rattle.ft_judge.specs.declared.fault.Fault.TheVariants.{Refused}
use Rattle.ft_metas.specs.Named.{statements_of}
use Rattle.ft_metas.specs.Outcomes.{Stops}
use Rattle.ft_metas.specs.Operands.{all_checks, operand_checks}
use Rattle.ft_metas.proofs.Naming.{thesis_named, theses_stay}
use Rattle.ft_metas.proofs.Asking.{stops_as}
use Rattle.ft_metas.proofs.Taking.{Taking, taking_start, taking_more, taking_fault, taking_end, taken_all, counted, counted_not}
use Rattle.ft_metas.proofs.operands.operands.Goals as goal

pub returns-then-args-wanted-clause-checks : goal.returns-then-args-wanted-clause-checks
returns-then-args-wanted-clause-checks c =
    let s = c.args.k.now in
    let b = c.args.b.now in
    let js = c.args.args.now in
    let n : length js ≢ length b.domains = subst (λ ds. length js ≢ length ds) c.items-domains.ensures c.if-args-wanted.true in
    subst (Stops s.trees (all_checks c.args.given (boundary_in s.trees b) (statements_of s.items js))) (ap (λ ds. Refused (ArgumentCount (length js) (length ds))) (sym c.items-domains.ensures) ∙ sym c.counts.ensures)
    (counted_not s.trees s.trees s.items c.args.given b.domains (goal_in s.trees b.goal) js n)

pub loop-i-init : goal.loop-i-init
loop-i-init c =
    let B = boundary_in c.args.k.now.trees c.args.b.now in
    subst (Taking c.args.k.now c.args.k.now c.args.given B c.args.args.now 0) (sym c.new-found.ensures) (taking_start c.args.k.now c.args.given B c.args.args.now)

pub operand_at-requires-clause-domain : goal.operand_at-requires-clause-domain
operand_at-requires-clause-domain c =
    let s = c.args.k.now in
    let ds = c.items-domains.result.now in
    let w : AllBelow (length s.trees) ds = subst (AllBelow (length s.trees)) (sym c.items-domains.ensures) c.requires.boundary.0 in
    let l : c.loop-i.i < length ds = omega arith in
    below_extends s.trees c.loop-i.k.trees c.index-domains-i.result c.loop-i.invariant.stays.1 (one_below (length s.trees) c.loop-i.i c.index-domains-i.result ds w l c.index-domains-i.is)

pub operand_at-requires-clause-earlier : goal.operand_at-requires-clause-earlier
operand_at-requires-clause-earlier c = subst (AllBelow (length c.loop-i.k.trees)) (sym c.items.ensures) c.loop-i.invariant.below

pub operand_at-requires-clause-thesis : goal.operand_at-requires-clause-thesis
operand_at-requires-clause-thesis c =
    thesis_named c.loop-i.k c.args.args.now c.loop-i.i c.index-args-i.result (theses_stay c.args.k.now c.loop-i.k c.args.args.now c.loop-i.invariant.stays.0 c.requires.arguments) (search rules) c.index-args-i.is

pub returns-in-Err-clause-checks : goal.returns-in-Err-clause-checks
returns-in-Err-clause-checks c =
    let s = c.args.k.now in
    let t = c.loop-i.k in
    let u = c.operand_at.new.k in
    let b = c.args.b.now in
    let g = c.args.given in
    let js = c.args.args.now in
    let n : length js ≡ length b.domains = subst (λ ds. length js ≡ length ds) c.items-domains.ensures c.if-args-wanted.false in
    let l : c.loop-i.i < length b.domains = omega (arith, n) in
    let e = subst (λ ds. c.index-domains-i.result ≡ get_or ds c.loop-i.i c.index-domains-i.result) c.items-domains.ensures c.index-domains-i.is in
    stops_as u.trees (all_checks g (boundary_in s.trees b) (statements_of s.items js)) (operand_checks g (boundary_in s.trees b) (statements_of s.items js)) c.in-Err.fault
    (counted s.trees s.items g b.domains (goal_in s.trees b.goal) js n)
    (taking_fault s t u g b.domains (goal_in s.trees b.goal) js c.loop-i.i c.index-domains-i.result c.index-args-i.result c.loop-i.found c.in-Err.fault c.loop-i.invariant c.requires.boundary.0 l e (search rules) c.index-args-i.is
    (subst (λ es. Stops u.trees (Rattle.ft_metas.specs.Operands.one_checks g (Rattle.ft_metas.specs.Putting.put_in t.trees es c.index-domains-i.result) (Rattle.ft_metas.specs.Named.entry_of t.items c.index-args-i.result).statement) c.in-Err.fault) c.items.ensures c.in-Err.ensures.checks))

pub loop-i-preserved : goal.loop-i-preserved
loop-i-preserved c =
    let s = c.args.k.now in
    let t = c.loop-i.k in
    let u = c.operand_at.new.k in
    let b = c.args.b.now in
    let g = c.args.given in
    let js = c.args.args.now in
    let n : length js ≡ length b.domains = subst (λ ds. length js ≡ length ds) c.items-domains.ensures c.if-args-wanted.false in
    let l : c.loop-i.i < length b.domains = omega (arith, n) in
    let e = subst (λ ds. c.index-domains-i.result ≡ get_or ds c.loop-i.i c.index-domains-i.result) c.items-domains.ensures c.index-domains-i.is in
    let it : c.push.new.self ≡ c.loop-i.found ++ c.in-Ok.next ∷ [] = c.in_ok-push.ensures.ok in
    rw (add-one, it) (taking_more s t u g b.domains (goal_in s.trees b.goal) js c.loop-i.i c.index-domains-i.result c.index-args-i.result c.in-Ok.next c.loop-i.found (c.loop-i.found ++ c.in-Ok.next ∷ [])
    c.loop-i.invariant c.requires.boundary.0 l e (search rules) c.index-args-i.is c.in-Ok.ensures.stays c.in-Ok.ensures.within c.in-Ok.ensures.operand
    (subst (λ es. Rattle.ft_reference.specs.Refusals.first_refusal (Rattle.ft_metas.specs.Operands.one_checks g (Rattle.ft_metas.specs.Putting.put_in t.trees es c.index-domains-i.result) (Rattle.ft_metas.specs.Named.entry_of t.items c.index-args-i.result).statement) ≡ Rattle.std.specs.Prelude.None) c.items.ensures c.in-Ok.ensures.checks) refl)

pub returns-clause-count : goal.returns-clause-count
returns-clause-count c =
    let n : length c.args.args.now ≡ length c.args.b.now.domains = subst (λ ds. length c.args.args.now ≡ length ds) c.items-domains.ensures c.if-args-wanted.false in
    omega (arith, n, c.loop-i.invariant.long)

pub returns-clause-operands : goal.returns-clause-operands
returns-clause-operands c =
    let l : length c.args.args.now ≤ c.loop-i.i = omega arith in
    taken_all c.args.k.now c.loop-i.k c.args.given (boundary_in c.args.k.now.trees c.args.b.now) c.args.args.now c.loop-i.i c.loop-i.found c.loop-i.invariant l

pub returns-clause-checks : goal.returns-clause-checks
returns-clause-checks c =
    let s = c.args.k.now in
    let b = c.args.b.now in
    let l : length c.args.args.now ≤ c.loop-i.i = omega arith in
    let n : length c.args.args.now ≡ length b.domains = subst (λ ds. length c.args.args.now ≡ length ds) c.items-domains.ensures c.if-args-wanted.false in
    counted s.trees s.items c.args.given b.domains (goal_in s.trees b.goal) c.args.args.now n
    ∙ taking_end s c.loop-i.k c.args.given (boundary_in s.trees b) c.args.args.now c.loop-i.i c.loop-i.found c.loop-i.invariant l
