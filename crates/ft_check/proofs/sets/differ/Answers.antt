use Rattle.std.proofs.Common.{◌∙◌, ◌+◌, ap, refl, get_or, nat_eq}
use Rattle.std.specs.List.{list_any}
use Rattle.std.proofs.lemmas.List.{take_rest}
use Rattle.ft_check.proofs.OfSets.{differ_next, differ_not}
use Rattle.ft_check.proofs.sets.differ.Goals as goal

pub returns-then-is_listed : goal.returns-then-is_listed
returns-then-is_listed c = differ_not c.args.ms.now c.loop-k.k (get_or c.args.ms.now c.loop-k.k 0) c.is_listed.result c.loop-k.invariant c.loop-k-test.true refl
    (c.is_listed.ensures ∙ ap (list_any (λ n. nat_eq (get_or c.args.ms.now c.loop-k.k 0) n)) (take_rest c.args.ms.now (c.loop-k.k + 1))) c.if-is_listed.true

pub loop-k-preserved : goal.loop-k-preserved
loop-k-preserved c = differ_next c.args.ms.now c.loop-k.k (get_or c.args.ms.now c.loop-k.k 0) c.is_listed.result c.loop-k.invariant c.loop-k-test.true refl
    (c.is_listed.ensures ∙ ap (list_any (λ n. nat_eq (get_or c.args.ms.now c.loop-k.k 0) n)) (take_rest c.args.ms.now (c.loop-k.k + 1))) c.if-is_listed.false
