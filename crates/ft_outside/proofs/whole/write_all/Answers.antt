use Rattle.ft_outside.proofs.Pieces.{appends_from}
use Rattle.std.proofs.Common.{rules}
use Rattle.ft_outside.proofs.whole.write_all.Goals as goal

pub loop-at-preserved : goal.loop-at-preserved
loop-at-preserved g c = record {
  within = search rules;
  bytes = appends_from _ _ _ c.args.bytes.now c.loop-at.at c.in_ok-at.field-0 c.loop-at.invariant.bytes c.in_ok-at.ensures.bytes;
  calm = search rules;
}
