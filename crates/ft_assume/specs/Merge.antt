-- One turn of a walk along two ascending lists.
use Rattle.std.specs.Prelude.{ℕ, if◌then◌else◌}
use Rattle.ft_items.specs.Sets.{precedes}
use Rattle.ft_assume.specs.Atoms.{atom_of}
use Rattle.ft_assume.specs.declared.atom.Atom.{Atom as AtomValue}

-- the less of two atoms, and how many of either list it stands for
unfoldable pub next_of : AtomValue → AtomValue → AtomValue × ℕ × ℕ
next_of a b =
    if precedes (atom_of a) (atom_of b) then (a, 1, 0)
    else (if precedes (atom_of b) (atom_of a) then (b, 0, 1) else (a, 1, 1))
