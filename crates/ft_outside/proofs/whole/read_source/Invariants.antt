use Rattle.std.proofs.Common.{◌≡◌, ◌≤◌, ◌-◌, ◌+◌, length}
use Rattle.ft_streams.specs.Streams.{Gives, CountsOn}
use Rattle.ft_outside.proofs.whole.read_source.Given as goal

abbrev pub invariant-reading : goal.invariant-reading
invariant-reading g l =
    let I = g.I.Source in record {
      short : length l.out.items ≤ l.max;
      bytes : Gives (I.left l.fn.src) l.out.items (I.left l.src);
      taken : CountsOn (I.taken l.fn.src) (length l.out.items) (I.taken l.src);
      calm : I.faults l.src ≡ I.faults l.fn.src;
      most : I.taken l.src ≤ I.taken l.fn.src + length l.out.items;
    }

abbrev pub decreases-reading : goal.decreases-reading
decreases-reading g l = l.max + 1 - length l.out.items
