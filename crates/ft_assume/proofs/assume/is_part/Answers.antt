use Rattle.std.proofs.Common.{◌∙◌, ◌≤◌, sym, length, ◌⊎◌, inl, inr, arith}
use Rattle.ft_assume.proofs.Walks.{within_goes, within_stops, within_end}
use Rattle.ft_assume.proofs.assume.is_part.Goals as goal
use Rattle.ft_assume.proofs.assume.is_part.Goals.{then-walking-test+else-j-right, else-walking-test}

pub returns-then-from_right-eq0 : goal.returns-then-from_right-eq0
returns-then-from_right-eq0 c = within_stops c.args.left.now c.args.right.now c.walking.i c.walking.j _ _ c.next-from_left.result _ c.requires.left c.requires.right
    c.walking-test.true c.if-j-right.true c.next-from_left.ensures.next c.if-from_right-eq0.true c.walking.invariant.rest

pub walking-preserved : goal.walking-preserved
walking-preserved c = record {
  left = omega (arith, c.next-from_left.ensures.left, c.walking-test.true);
  right = omega (arith, c.next-from_left.ensures.right, c.if-j-right.true);
  rest = within_goes c.args.left.now c.args.right.now c.walking.i c.walking.j _ _ c.next-from_left.result _ c.requires.left c.requires.right
      c.walking-test.true c.if-j-right.true c.next-from_left.ensures.next c.if-from_right-eq0.false c.walking.invariant.rest;
}

pub returns : goal.returns
returns c =
    let over : (length c.args.left.now ≤ c.walking.i) ⊎ (length c.args.right.now ≤ c.walking.j) =
    elim c.walking-test.branch [ then-walking-test+else-j-right w ↦ inr w.if-j-right.false | else-walking-test w ↦ inl w.walking-test.false ] in
    sym (within_end c.args.left.now c.args.right.now c.walking.i c.walking.j c.walking.invariant.left over) ∙ c.walking.invariant.rest
