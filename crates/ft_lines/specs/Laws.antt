-- What holds of the readers: what is read is the text of what it is read as, and each text is read.
use Rattle.std.specs.Prelude.{ℕ, ◌≡◌, List, [], ◌++◌, Ok, map, true, false}
use Rattle.std.specs.Fmt.{decimal}
use Rattle.std.specs.Str.{all_scalars, encode_utf8_all}
use Rattle.ft_base.specs.Names.{is_name_token}
use Rattle.ft_theory.specs.Expressions.{Expression}
use Rattle.ft_theory.specs.Statements.{Statement}
use Rattle.ft_theory.specs.Small.{IsSmall}
use Rattle.ft_items.specs.Equal.{is_thesis}
use Rattle.ft_items.specs.Item.{Stated, Name, Entry, entry}
use Rattle.ft_items.specs.Sets.{Atom, Ascending}
use Rattle.ft_items.specs.Texts.{NumberFits, EachAtomFits, ItsNumbersFit, StatementFits, PartsFit, IsOfVersion1, EntryFits, line_text, written, step_text, set_text, expression_text, statement_text}
use Rattle.ft_texts.specs.Laws.{Visible}
use Rattle.ft_lines.specs.declared.steps.Part.{Part}
use Rattle.ft_lines.specs.Reading.{sees, sees_digit, number}
use Rattle.ft_lines.specs.Names.{name, ends_name}
use Rattle.ft_lines.specs.Steps.{part_of, parts, parts_text, step, sees_letter, IsWritten}
use Rattle.ft_lines.specs.declared.words.Word.{Word}
use Rattle.ft_lines.specs.Words.{spelling_of}
use Rattle.ft_lines.specs.Entries.{thesis_entry, boundary_entry, IsEntryText}
use Rattle.ft_lines.specs.Sets.{set}
use Rattle.ft_lines.specs.Expressions.{expression}
use Rattle.ft_lines.specs.Statements.{thesis, boundary}

-- a number that fits is read, where no digit follows
abbrev pub NumberIsRead : Type 0
NumberIsRead = (n : ℕ) (rest : List ℕ) → NumberFits n → sees_digit rest ≡ false → number (decimal n ++ rest) ≡ Ok (n, rest)

-- what is read as a number is its text, and it fits
abbrev pub NumberIsText : Type 0
NumberIsText = (n : ℕ) (cs rest : List ℕ) → number cs ≡ Ok (n, rest) → (cs ≡ decimal n ++ rest) × NumberFits n

-- a name is read, where a space or nothing follows
abbrev pub NameIsRead : Type 0
NameIsRead = (n : Name) (rest : List ℕ) → is_name_token n ≡ true → ends_name rest ≡ true → name (encode_utf8_all n ++ rest) ≡ Ok (n, rest)

-- what is read as a name is its UTF-8, and it is a name token
abbrev pub NameIsText : Type 0
NameIsText = (n : Name) (cs rest : List ℕ) → name cs ≡ Ok (n, rest) → (cs ≡ encode_utf8_all n ++ rest) × (is_name_token n ≡ true)

-- an ascending set whose numbers fit is read
abbrev pub SetIsRead : Type 0
SetIsRead = (S : List Atom) (rest : List ℕ) → Ascending S → EachAtomFits S → set (set_text S ++ rest) ≡ Ok (S, rest)

-- what is read as a set is its text, it is ascending, and its numbers fit
abbrev pub SetIsText : Type 0
SetIsText = (S : List Atom) (cs rest : List ℕ) → set cs ≡ Ok (S, rest) → (cs ≡ set_text S ++ rest) × Ascending S × EachAtomFits S

-- a small expression whose numbers fit is read, where no digit follows
abbrev pub ExpressionIsRead : Type 0
ExpressionIsRead = (e : Expression) (rest : List ℕ) → IsSmall e → ItsNumbersFit e → sees_digit rest ≡ false → expression (expression_text e ++ rest) ≡ Ok (e, rest)

-- what is read as an expression is its text, it is small, and its numbers fit
abbrev pub ExpressionIsText : Type 0
ExpressionIsText = (e : Expression) (cs rest : List ℕ) → expression cs ≡ Ok (e, rest) → (cs ≡ expression_text e ++ rest) × IsSmall e × ItsNumbersFit e

-- a thesis whose expressions are small and fit is read, where no digit follows
abbrev pub ThesisIsRead : Type 0
ThesisIsRead = (x : Statement) (rest : List ℕ) → StatementFits x → is_thesis x ≡ true → sees_digit rest ≡ false → thesis (statement_text x ++ rest) ≡ Ok (x, rest)

-- what is read as a thesis is its text, its expressions are small and fit, and it is no boundary
abbrev pub ThesisIsText : Type 0
ThesisIsText = (x : Statement) (cs rest : List ℕ) → thesis cs ≡ Ok (x, rest) → (cs ≡ statement_text x ++ rest) × StatementFits x × (is_thesis x ≡ true)

-- the same for a boundary
abbrev pub BoundaryIsRead : Type 0
BoundaryIsRead = (x : Statement) (rest : List ℕ) → StatementFits x → is_thesis x ≡ false → sees_digit rest ≡ false → boundary (statement_text x ++ rest) ≡ Ok (x, rest)

abbrev pub BoundaryIsText : Type 0
BoundaryIsText = (x : Statement) (cs rest : List ℕ) → boundary cs ≡ Ok (x, rest) → (cs ≡ statement_text x ++ rest) × StatementFits x × (is_thesis x ≡ false)

-- the parts of a step whose numbers fit are read, where no digit and no space follows
abbrev pub PartsAreRead : Type 0
PartsAreRead = (ps : List Part) (rest : List ℕ) → PartsFit (map part_of ps) → sees 32 rest ≡ false → sees_digit rest ≡ false → parts (parts_text (map part_of ps) ++ rest) ≡ Ok (ps, rest)

-- what is read as parts is their text, and their numbers fit
abbrev pub PartsAreText : Type 0
PartsAreText = (ps : List Part) (cs rest : List ℕ) → parts cs ≡ Ok (ps, rest) → (cs ≡ parts_text (map part_of ps) ++ rest) × PartsFit (map part_of ps)

-- a step of version 1 whose numbers fit is read as its word and its parts, where no digit, no letter and no space follows
abbrev pub StepIsRead : Type 0
StepIsRead = (s : Stated) (rest : List ℕ) → IsOfVersion1 s → PartsFit (written s).1 → sees 32 rest ≡ false → sees_digit rest ≡ false → sees_letter rest ≡ false
    → (w : Word) × (ps : List Part) × (step (step_text s ++ rest) ≡ Ok ((w, ps), rest)) × IsWritten s w ps

-- what is read as a step is the text of its word and its parts, and its numbers fit
abbrev pub StepIsText : Type 0
StepIsText = (w : Word) (ps : List Part) (cs rest : List ℕ) → step cs ≡ Ok ((w, ps), rest) → (cs ≡ (spelling_of w ++ parts_text (map part_of ps)) ++ rest) × PartsFit (map part_of ps)

-- the line of an entry with a thesis, which can be written, is read, to its end
abbrev pub ThesisEntryIsRead : Type 0
ThesisEntryIsRead = (e : Entry) → EntryFits e → is_thesis e.statement ≡ true
    → (w : Word) × (ps : List Part) × (thesis_entry (line_text (entry e)) ≡ Ok ((e.statement, e.set, w, ps), [])) × IsWritten e.step w ps

-- what is read as an entry with a thesis is its text
abbrev pub ThesisEntryIsText : Type 0
ThesisEntryIsText = (e : Statement × List Atom × Word × List Part) (cs rest : List ℕ) → thesis_entry cs ≡ Ok (e, rest) → IsEntryText true 74 e.0 e.1 e.2 e.3 cs rest

-- the same for an entry with a boundary
abbrev pub BoundaryEntryIsRead : Type 0
BoundaryEntryIsRead = (e : Entry) → EntryFits e → is_thesis e.statement ≡ false
    → (w : Word) × (ps : List Part) × (boundary_entry (line_text (entry e)) ≡ Ok ((e.statement, e.set, w, ps), [])) × IsWritten e.step w ps

abbrev pub BoundaryEntryIsText : Type 0
BoundaryEntryIsText = (e : Statement × List Atom × Word × List Part) (cs rest : List ℕ) → boundary_entry cs ≡ Ok (e, rest) → IsEntryText false 66 e.0 e.1 e.2 e.3 cs rest

-- each character of a name stands after the space
abbrev pub NamesAreVisible : Type 0
NamesAreVisible = (n : Name) → is_name_token n ≡ true → Visible n

-- each number in a name is that of a character
abbrev pub NamesHaveScalars : Type 0
NamesHaveScalars = (n : Name) → is_name_token n ≡ true → all_scalars n ≡ true
