use Rattle.std.proofs.Common.{◌∙◌, sym, add-one, rules}
use Rattle.ft_apply.proofs.Starts.{counting_head, counting_other}
use Rattle.ft_apply.proofs.starting.count_heads.Goals as goal
use Rattle.ft_apply.proofs.starting.count_heads.Goals.{then-has_head, else-has_head}

pub loop-i-preserved : goal.loop-i-preserved
loop-i-preserved c =
    let s = c.args.k.now in
    let js = c.args.args.now in
    let i = c.loop-i.i in
    let j = c.index-args-i.result in
    elim c.if-has_head.branch [
      | then-has_head w ↦ rw (add-one, w.count-is, add-one) (counting_head s.items js i c.loop-i.count j c.loop-i.invariant (search rules) c.index-args-i.is (sym c.has_head.ensures ∙ w.if-has_head.true))
      | else-has_head w ↦ rw (add-one, w.count-is) (counting_other s.items js i c.loop-i.count j c.loop-i.invariant (search rules) c.index-args-i.is (sym c.has_head.ensures ∙ w.if-has_head.false))
    ]
