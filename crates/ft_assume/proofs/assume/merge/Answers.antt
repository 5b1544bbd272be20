use Rattle.std.proofs.Common.{◌≡◌, ◌∙◌, ◌++◌, ◌-◌, ◌≤◌, ap, drop, take, length, ◌⊎◌, inl, inr, arith}
use Rattle.ft_assume.proofs.Walks.{merged_turn, merged_end, range_from}
use Rattle.ft_assume.proofs.assume.merge.Goals as goal
use Rattle.ft_assume.proofs.assume.merge.Goals.{then-merging-test+else-j-right, else-merging-test}

pub merging-preserved : goal.merging-preserved
merging-preserved c = record {
  left = omega (arith, c.next-atom.ensures.left, c.merging-test.true);
  right = omega (arith, c.next-atom.ensures.right, c.if-j-right.true);
  merged = merged_turn c.args.left.now c.args.right.now c.merging.out.items c.push.new.self.items c.merging.i c.merging.j _ _ c.next-atom.result _
      c.requires.left c.requires.right c.merging-test.true c.if-j-right.true c.next-atom.ensures.next c.in_ok-push.ensures.items c.merging.invariant.merged;
}

pub returns : goal.returns
returns c =
    let over : (length c.args.left.now ≤ c.merging.i) ⊎ (length c.args.right.now ≤ c.merging.j) =
    elim c.merging-test.branch [ then-merging-test+else-j-right w ↦ inr w.if-j-right.false | else-merging-test w ↦ inl w.merging-test.false ] in
    let items : c.extend_from_slice-2.new.self.items ≡ (c.merging.out.items ++ drop c.merging.i c.args.left.now) ++ drop c.merging.j c.args.right.now =
    c.in_ok-extend_from_slice-2.ensures.items
    ∙ ap (λ X. X ++ take (length c.args.right.now - c.merging.j) (drop c.merging.j c.args.right.now)) (c.in_ok-extend_from_slice.ensures.items ∙ ap (λ X. c.merging.out.items ++ X) (range_from c.args.left.now c.merging.i))
    ∙ ap (λ X. (c.merging.out.items ++ drop c.merging.i c.args.left.now) ++ X) (range_from c.args.right.now c.merging.j) in
    merged_end c.args.left.now c.args.right.now c.merging.out.items c.extend_from_slice-2.new.self.items c.merging.i c.merging.j _ c.requires.left over items c.merging.invariant.merged
