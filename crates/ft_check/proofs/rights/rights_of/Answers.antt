use Rattle.std.proofs.Common.{rules, ◌≤◌, length, take, refl}
use Rattle.ft_check.proofs.Started.{rights_more, rights_not, rights_over, rights_all, rights_are}
use Rattle.ft_check.proofs.rights.rights_of.Goals as goal

pub loop-k-preserved : goal.loop-k-preserved
loop-k-preserved c =
    rights_more (take c.args.i c.args.items.now.items) c.args.ps.now c.args.es.now c.loop-k.k c.loop-k.used _ c.args.items.now.trees c.loop-k.list.items c.push.new.self.items c.next_right.result c.in-Some.next
    c.loop-k.invariant c.loop-k-test.true refl c.next_right.ensures.next c.in-Some.is c.in-Some.ensures.used c.in-Some.ensures.below c.in_ok-push-in-Some.ensures.items

pub returns-in-None-clause-start : goal.returns-in-None-clause-start
returns-in-None-clause-start c = λ xs ys q r.
    rights_not (take c.args.i c.args.items.now.items) c.args.ps.now c.args.es.now c.loop-k.k c.loop-k.used _ c.args.items.now.trees c.loop-k.list.items c.next_right.result xs ys
    c.loop-k.invariant c.loop-k-test.true refl c.next_right.ensures.next c.in-None.is q r

pub returns-then-used-es-clause-start : goal.returns-then-used-es-clause-start
returns-then-used-es-clause-start c =
    let over : length c.args.ps.now ≤ c.loop-k.k = search rules in
    λ xs ys q r. rights_over (take c.args.i c.args.items.now.items) c.args.ps.now c.args.es.now c.loop-k.k c.loop-k.used c.args.items.now.trees c.loop-k.list.items xs ys
    c.loop-k.invariant over c.if-used-es.true q r

pub returns-clause-start : goal.returns-clause-start
returns-clause-start c =
    let over : length c.args.ps.now ≤ c.loop-k.k = search rules in
    λ xs ys q r. rights_all (take c.args.i c.args.items.now.items) c.args.ps.now c.args.es.now c.loop-k.k c.loop-k.used c.args.items.now.trees c.loop-k.list.items xs ys
    c.loop-k.invariant over c.if-used-es.false q r

pub returns-clause-are : goal.returns-clause-are
returns-clause-are c =
    let over : length c.args.ps.now ≤ c.loop-k.k = search rules in
    λ xs ys q r. rights_are (take c.args.i c.args.items.now.items) c.args.ps.now c.args.es.now c.loop-k.k c.loop-k.used c.args.items.now.trees c.loop-k.list.items xs ys
    c.loop-k.invariant over c.if-used-es.false q r
