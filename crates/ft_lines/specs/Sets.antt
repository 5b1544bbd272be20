-- Reading sets of atoms.
use Rattle.std.specs.Prelude.{ℕ, zero, suc, Bool, true, if◌then◌else◌, List, [], ◌∷◌, ◌++◌, length, Option, Some, None}
use Rattle.ft_items.specs.Sets.{Atom as AnyAtom, precedes}
use Rattle.ft_assume.specs.Atoms.{atom_of, atoms_of}
use Rattle.ft_assume.specs.declared.atom.Atom.{Atom}
use Rattle.ft_assume.specs.declared.atom.Atom.TheVariants.{Met, Var}
use Rattle.ft_lines.specs.Reading.{Reader, ◌>>=◌, ◌>>◌, pure, refuse, skip, sees, passes, expect, number}

-- an atom: `m` or `v`, and its number
unfoldable pub atom : Reader Atom
atom = λ cs.
    if sees 109 cs then (do
      skip
      m ← number
      pure (Met m)) cs else
    if sees 118 cs then (do
      skip
      v ← number
      pure (Var v)) cs else
    refuse cs

-- whether the atom stands after the last one, where there is one
abbrev pub follows : Option Atom → Atom → Bool
follows None a = true
follows (Some b) a = precedes (atom_of b) (atom_of a)

-- ascending atoms after the last one, with a comma between each two; the number bounds the turns
unfoldable pub atoms_from : ℕ → Option Atom → List Atom → Reader (List Atom)
atoms_from zero last found = refuse
atoms_from (suc n) last found = do
  a ← atom
  if follows last a then (do
    more ← passes 44
    if more then atoms_from n (Some a) (found ++ a ∷ []) else pure (found ++ a ∷ [])) else refuse

-- atoms in brackets
unfoldable pub listed : Reader (List Atom)
listed = do
  expect 91
  none ← passes 93
  if none then pure [] else (do
    found ← (λ cs. atoms_from (length cs) None [] cs)
    expect 93
    pure found)

-- a set
unfoldable pub set : Reader (List AnyAtom)
set = do
  found ← listed
  pure (atoms_of found)
