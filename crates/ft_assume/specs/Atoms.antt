-- The atoms of the program as atoms of a set of assumptions.
use Rattle.std.specs.Prelude.{List, map}
use Rattle.ft_items.specs.Sets.{Atom, met, var}
use Rattle.ft_assume.specs.declared.atom.Atom.{Atom as AtomValue}
use Rattle.ft_assume.specs.declared.atom.Atom.TheVariants.{Met, Var}

-- an atom by its number
abbrev pub atom_of : AtomValue → Atom
atom_of (Met m) = met m
atom_of (Var v) = var v

-- the atoms of a list
abbrev pub atoms_of : List AtomValue → List Atom
atoms_of atoms = map atom_of atoms
