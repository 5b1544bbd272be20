-- Reading the lines of entries.
use Rattle.std.specs.Prelude.{ℕ, ◌≡◌, Bool, List, [], ◌∷◌, ◌++◌, length, map, Result}
use Rattle.ft_theory.specs.Expressions.{Expression}
use Rattle.ft_theory.specs.Statements.{Claim, Statement}
use Rattle.ft_items.specs.Sets.{Atom, Ascending}
use Rattle.ft_items.specs.Equal.{is_thesis}
use Rattle.ft_items.specs.Item.{Entry}
use Rattle.ft_items.specs.Texts.{statement_text, set_text, step_text, StatementFits, EachAtomFits, PartsFit}
use Rattle.ft_judge.specs.Meaning.{thesis_in, boundary_in, ThesisBelow, BoundaryBelow}
use Rattle.ft_lines.specs.declared.entries.ThesisEntry.{ThesisEntry}
use Rattle.ft_lines.specs.declared.entries.BoundaryEntry.{BoundaryEntry}
use Rattle.ft_lines.specs.declared.fault.Fault.{Fault}
use Rattle.ft_lines.specs.declared.steps.Part.{Part}
use Rattle.ft_lines.specs.declared.words.Word.{Word}
use Rattle.ft_lines.specs.Reading.{Outcome, Reader, ◌>>=◌, ◌>>◌, pure, expect, ReadsAs}
use Rattle.ft_lines.specs.Sets.{set}
use Rattle.ft_lines.specs.Statements.{form, goal, statement}
use Rattle.ft_lines.specs.Steps.{part_of, parts_text, step}
use Rattle.ft_lines.specs.Words.{spelling_of}

-- what a statement stands on: a set and a step, with a space before each
unfoldable pub grounds : Reader (List Atom × Word × List Part)
grounds = do
  expect 32
  S ← set
  expect 32
  s ← step
  pure (S, s.0, s.1)

-- an entry: its letter, its statement, its set and its step, with a space between each two
unfoldable pub entry : ℕ → Reader Claim → Reader (Statement × List Atom × Word × List Part)
entry letter claim = do
  expect letter
  expect 32
  x ← statement claim
  g ← grounds
  pure (x, g.0, g.1, g.2)

-- an entry with a thesis
abbrev pub thesis_entry : Reader (Statement × List Atom × Word × List Part)
thesis_entry = entry 74 form

-- an entry with a boundary
abbrev pub boundary_entry : Reader (Statement × List Atom × Word × List Part)
boundary_entry = entry 66 goal

abbrev pub ReadsThesisEntry : Outcome (Statement × List Atom × Word × List Part) → List Expression → Result ThesisEntry Fault → List ℕ → Type 0
ReadsThesisEntry outcome table result new =
    ReadsAs (λ e. ThesisBelow (length table) e.thesis) (λ e. (thesis_in table e.thesis, e.set, e.word, e.parts)) outcome result new

abbrev pub ReadsBoundaryEntry : Outcome (Statement × List Atom × Word × List Part) → List Expression → Result BoundaryEntry Fault → List ℕ → Type 0
ReadsBoundaryEntry outcome table result new =
    ReadsAs (λ e. BoundaryBelow (length table) e.boundary) (λ e. (boundary_in table e.boundary, e.set, e.word, e.parts)) outcome result new

-- the text of an entry, with this letter
abbrev pub entry_text : ℕ → Entry → List ℕ
entry_text letter e = letter ∷ 32 ∷ (statement_text e.statement ++ (32 ∷ (set_text e.set ++ (32 ∷ (step_text e.step ++ [])))))

-- what is read is the text of its pieces, which are as they are to be; the test tells a thesis from a boundary
abbrev pub IsEntryText : Bool → ℕ → Statement → List Atom → Word → List Part → List ℕ → List ℕ → Type 0
IsEntryText t letter x S w ps cs rest =
    (cs ≡ letter ∷ 32 ∷ (statement_text x ++ (32 ∷ (set_text S ++ (32 ∷ ((spelling_of w ++ parts_text (map part_of ps)) ++ rest))))))
    × StatementFits x × (is_thesis x ≡ t) × Ascending S × EachAtomFits S × PartsFit (map part_of ps)
