use Rattle.std.proofs.Common.{◌≡◌, suc, take}
use Rattle.ft_print.proofs.Positions.{line_feeds, on_last_line}
use Rattle.ft_print.proofs.places.line_col.Given as goal

abbrev pub invariant-loop-b : goal.invariant-loop-b
invariant-loop-b l = record {
  items : l.b-items ≡ take l.fn.at l.fn.source;
  line : l.line ≡ suc (line_feeds (take l.b-index l.b-items));
  column : l.column ≡ suc (on_last_line (take l.b-index l.b-items));
}
