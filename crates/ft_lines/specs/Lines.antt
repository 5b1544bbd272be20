-- Reading the lines of items.
use Rattle.std.specs.Prelude.{ℕ, zero, suc, if◌then◌else◌, List, [], ◌∷◌, ◌++◌, length, Result, Ok, Err}
use Rattle.ft_theory.specs.Expressions.{Expression}
use Rattle.ft_items.specs.Item.{Item, variable as a_variable, metavariable as a_metavariable, rule as a_rule, entry as an_entry, shown as a_mark}
use Rattle.ft_stated.specs.Lines.{item_in, StatedBelow}
use Rattle.ft_stated.specs.declared.stated.Stated.{Stated}
use Rattle.ft_lines.specs.declared.fault.Fault.{Fault}
use Rattle.ft_lines.specs.declared.fault.Fault.TheVariants.{Form}
use Rattle.ft_lines.specs.Reading.{Outcome, Reader, ◌>>=◌, ◌>>◌, pure, refuse, sees, passes, expect, number, ReadsAs}
use Rattle.ft_lines.specs.Names.{name}
use Rattle.ft_lines.specs.Written.{Told, step_of}
use Rattle.ft_lines.specs.Entries.{thesis_entry, boundary_entry}

-- a variable: `V`, its number, its name and an entry
unfoldable pub variable : Reader Item
variable = do
  expect 86
  expect 32
  v ← number
  expect 32
  n ← name
  expect 32
  p ← number
  pure (a_variable v n p)

-- a metavariable: `M`, its name and an entry
unfoldable pub metavariable : Reader Item
metavariable = do
  expect 77
  expect 32
  n ← name
  expect 32
  p ← number
  pure (a_metavariable n p)

-- numbers up to a semicolon, with a space before each and before the semicolon; the number bounds the turns
unfoldable pub premises_from : ℕ → List ℕ → Reader (List ℕ)
premises_from zero found = refuse
premises_from (suc k) found = do
  expect 32
  last ← passes 59
  if last then pure found else (do
    m ← number
    premises_from k (found ++ m ∷ []))

-- the metavariables of a rule, and the semicolon
abbrev pub premises : Reader (List ℕ)
premises = λ cs. premises_from (length cs) [] cs

-- a rule: `R`, its name, its metavariables, a semicolon and an entry
unfoldable pub rule : Reader Item
rule = do
  expect 82
  expect 32
  n ← name
  ms ← premises
  expect 32
  p ← number
  pure (a_rule n ms p)

-- a shown mark: `W` and an entry
unfoldable pub mark : Reader Item
mark = do
  expect 87
  expect 32
  p ← number
  pure (a_mark p)

-- what is told, which takes no character
abbrev pub told : {A : Type 0} → Told A → Reader A
told (Ok a) = pure a
told (Err e) = λ cs. Err e

-- an entry with a thesis
unfoldable pub thesis_item : Reader Item
thesis_item = do
  e ← thesis_entry
  s ← told (step_of e.2 e.3)
  pure (an_entry (record { statement = e.0; set = e.1; step = s }))

-- an entry with a boundary
unfoldable pub boundary_item : Reader Item
boundary_item = do
  e ← boundary_entry
  s ← told (step_of e.2 e.3)
  pure (an_entry (record { statement = e.0; set = e.1; step = s }))

-- an item that is no entry
unfoldable pub declared : Reader Item
declared = λ cs.
    if sees 86 cs then variable cs else
    if sees 77 cs then metavariable cs else
    if sees 82 cs then rule cs else
    mark cs

-- an item
unfoldable pub item : Reader Item
item = λ cs.
    if sees 74 cs then thesis_item cs else
    if sees 66 cs then boundary_item cs else
    declared cs

-- the end of the line
unfoldable pub ended : Reader (Unit {0})
ended [] = Ok (tt, [])
ended (c ∷ cs) = Err Form

-- an item, and nothing behind it
unfoldable pub whole : Reader Item
whole = do
  i ← item
  ended
  pure i

-- what a function ensures that reads an item over a table of expressions
abbrev pub ReadsItem : Outcome Item → List Expression → Result Stated Fault → List ℕ → Type 0
ReadsItem outcome table result new = ReadsAs (StatedBelow (length table)) (item_in table) outcome result new
