use Rattle.std.proofs.Common.{◌≡◌, take, encode_utf8_all}
use Rattle.ft_base.specs.Names.{is_name_token}
use Rattle.ft_items.specs.Texts.{ItemsFit}
use Rattle.ft_export.specs.Written.{WritesUpTo}
use Rattle.ft_export.proofs.Whole.{first_lines}
use Rattle.ft_export.proofs.write.write_derivation.Given as goal

abbrev pub invariant-loop-i : goal.invariant-loop-i
invariant-loop-i g l =
    let O = g.O.Sink in record {
      bytes : WritesUpTo (O.written l.fn.sink) (encode_utf8_all (first_lines (take l.i l.k.items))) l.page (O.written l.sink);
      fits : ItemsFit is_name_token (take l.i l.k.items);
      calm : O.faults l.sink ≡ O.faults l.fn.sink;
    }
