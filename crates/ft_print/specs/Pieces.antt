-- What is still to be written of a type.
use Rattle.std.specs.Prelude.{ℕ, ◌≡◌, ◌<◌, ◌+◌, List, [], ◌∷◌, ◌++◌, length, codes}
use Rattle.ft_meaning.specs.Trees.{ValueType, judgement, boundary, unit, bool, pair, list, option}
use Rattle.ft_meaning.specs.Texts.{Text}
use Rattle.ft_meaning.specs.Faults.{type_text, inside}
use Rattle.ft_types.specs.Types.{type_in, Below}
use Rattle.ft_print.specs.declared.types.Piece.{Piece}
use Rattle.ft_print.specs.declared.types.Piece.TheVariants as piece

-- the text of a piece, over the types of a table
abbrev pub piece_text : List ValueType → Piece → Text
piece_text ts (piece.Whole t) = type_text (type_in ts t)
piece_text ts (piece.Inside t) = inside (type_in ts t) (type_text (type_in ts t))
piece_text ts piece.Times = codes " * "
piece_text ts piece.Closing = codes ")"

-- the texts of the pieces of a stack, the last first, before a text
abbrev pub text_before : List ValueType → Text → List Piece → Text
text_before ts after [] = after
text_before ts after (p ∷ ps) = text_before ts (piece_text ts p ++ after) ps

abbrev pub text_left : List ValueType → List Piece → Text
text_left ts ps = text_before ts [] ps

-- all types of a piece are in the table
abbrev pub Within : ℕ → Piece → Type 0
Within n (piece.Whole t) = Below n t
Within n (piece.Inside t) = Below n t
Within n piece.Times = Unit {0}
Within n piece.Closing = Unit {0}

abbrev pub AllWithin : ℕ → List Piece → Type 0
AllWithin n [] = Unit {0}
AllWithin n (p ∷ ps) = Within n p × AllWithin n ps

-- a number above the steps that it takes to write a type
abbrev pub work_of_type : ValueType → ℕ
work_of_type judgement = 1
work_of_type boundary = 1
work_of_type unit = 1
work_of_type bool = 1
work_of_type (pair A B) = 6 + (work_of_type A + work_of_type B)
work_of_type (list A) = 3 + work_of_type A
work_of_type (option A) = 3 + work_of_type A

-- a number above the steps that it takes to write a piece
abbrev pub work_of : List ValueType → Piece → ℕ
work_of ts (piece.Whole t) = work_of_type (type_in ts t)
work_of ts (piece.Inside t) = 2 + work_of_type (type_in ts t)
work_of ts piece.Times = 1
work_of ts piece.Closing = 1

abbrev pub work_left : List ValueType → List Piece → ℕ
work_left ts [] = 0
work_left ts (p ∷ ps) = work_of ts p + work_left ts ps

-- A step with a piece that was taken off the stack: what was written and what is left are the same text, and less is left to do.
pub record Goes (ts : List ValueType) (p : Piece) (old : Text) (ps : List Piece) (new : Text) (qs : List Piece) : Type 0 where
  pub same : new ++ text_left ts qs ≡ old ++ (piece_text ts p ++ text_left ts ps)
  pub within : AllWithin (length ts) qs
  pub less : work_left ts qs < work_of ts p + work_left ts ps
