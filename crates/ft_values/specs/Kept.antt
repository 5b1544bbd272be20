-- Values as a table keeps them, and the values that they are over a list of items.
use Rattle.std.specs.Prelude.{ℕ, ◌≡◌, Bool, true, false, Option, Some, None, option_map}
use Rattle.std.specs.Prelude.{List, [], ◌∷◌, ◌++◌}
use Rattle.ft_theory.specs.Statements.{type_goal, plain}
use Rattle.ft_items.specs.Item.{Item, rule, shown}
use Rattle.ft_items.specs.Store.{Assertion}
use Rattle.ft_kernel.specs.State.{State, entry_at, IsThesisOf, IsBoundaryOf}
use Rattle.ft_meaning.specs.Values as meaning

-- A value with the numbers of entries in place of what they state: a judgement or a boundary by the
-- number of its entry, the unit, a truth value, a pair, a list, an option.
pub data Kept : Type 0 where
  judgement : ℕ → Kept
  boundary : ℕ → Kept
  unit : Kept
  truth : Bool → Kept
  pair : Kept → Kept → Kept
  nil : Kept
  cons : Kept → Kept → Kept
  none : Kept
  some : Kept → Kept

-- what there is, or else the boundary of types over the empty set
abbrev pub stated : Option Assertion → Assertion
stated (Some a) = a
stated None = record { statement = plain type_goal; set = [] }

-- what the entry of a number states
abbrev pub stated_at : State → ℕ → Assertion
stated_at s n = stated (entry_at s n)

-- the value over the list of items
abbrev pub value_of : State → Kept → meaning.Value
value_of s (judgement j) = meaning.judgement (stated_at s j)
value_of s (boundary b) = meaning.boundary (stated_at s b)
value_of s unit = meaning.unit
value_of s (truth b) = meaning.truth b
value_of s (pair v w) = meaning.pair (value_of s v) (value_of s w)
value_of s nil = meaning.nil
value_of s (cons v w) = meaning.cons (value_of s v) (value_of s w)
value_of s none = meaning.none
value_of s (some v) = meaning.some (value_of s v)

-- each number in the value is that of a thesis or of a boundary of the list
abbrev pub IsOver : State → Kept → Type 0
IsOver s (judgement j) = IsThesisOf s j
IsOver s (boundary b) = IsBoundaryOf s b
IsOver s unit = Unit {0}
IsOver s (truth b) = Unit {0}
IsOver s (pair v w) = IsOver s v × IsOver s w
IsOver s nil = Unit {0}
IsOver s (cons v w) = IsOver s v × IsOver s w
IsOver s none = Unit {0}
IsOver s (some v) = IsOver s v

-- the second list has the items of the first, and perhaps more after them
abbrev pub HasMore : State → State → Type 0
HasMore s t = (more : List Item) × (t.items ≡ s.items ++ more)

-- the item declares no rule, and does not mark an entry as shown; so each of the items
abbrev pub IsQuiet : Item → Type 0
IsQuiet (rule n ms p) = ⊥
IsQuiet (shown p) = ⊥
IsQuiet i = Unit {0}

abbrev pub AreQuiet : List Item → Type 0
AreQuiet [] = Unit {0}
AreQuiet (i ∷ items) = IsQuiet i × AreQuiet items

-- the second list has the items of the first, and perhaps more after them, which declare no rule and
-- mark nothing as shown
abbrev pub GoesOn : State → State → Type 0
GoesOn s t = (more : List Item) × (t.items ≡ s.items ++ more) × AreQuiet more

-- What a value is, where it is of the kind: the number of the judgement, or of the boundary; the
-- truth value.
abbrev pub judgement_of : Kept → Option ℕ
judgement_of (judgement j) = Some j
judgement_of v = None

abbrev pub boundary_of : Kept → Option ℕ
boundary_of (boundary b) = Some b
boundary_of v = None

abbrev pub truth_of : Kept → Option Bool
truth_of (truth b) = Some b
truth_of v = None

-- The tests that it is the unit, the list without members, the option that holds nothing.
abbrev pub is_unit : Kept → Bool
is_unit unit = true
is_unit v = false

abbrev pub is_nil : Kept → Bool
is_nil nil = true
is_nil v = false

abbrev pub is_none_value : Kept → Bool
is_none_value none = true
is_none_value v = false

-- The parts of a value, where it is of the kind: of a pair; the first member of a list and the rest;
-- what an option holds.
abbrev pub pair_parts : Kept → Option (Kept × Kept)
pair_parts (pair v w) = Some (v, w)
pair_parts v = None

abbrev pub list_parts : Kept → Option (Kept × Kept)
list_parts (cons v w) = Some (v, w)
list_parts v = None

abbrev pub option_part : Kept → Option Kept
option_part (some v) = Some v
option_part v = None

-- the first judgement and the rest, where it is a list whose first member is a judgement
abbrev pub with_rest : Option ℕ → Kept → Option (ℕ × Kept)
with_rest o w = option_map (λ j. (j, w)) o

abbrev pub first_judgement : Kept → Option (ℕ × Kept)
first_judgement (cons v w) = with_rest (judgement_of v) w
first_judgement v = None

-- the members in order, where it is a list of judgements
abbrev pub before_members : Option ℕ → Option (List ℕ) → Option (List ℕ)
before_members None o = None
before_members (Some j) o = option_map (λ js. j ∷ js) o

abbrev pub judgements_in : Kept → Option (List ℕ)
judgements_in nil = Some []
judgements_in (cons v w) = before_members (judgement_of v) (judgements_in w)
judgements_in v = None

-- members that were found before those that there are
abbrev pub found_before : List ℕ → Option (List ℕ) → Option (List ℕ)
found_before js o = option_map (λ ks. js ++ ks) o

-- the members found, where they are those of a list
abbrev pub if_list : Bool → List ℕ → Option (List ℕ)
if_list true js = Some js
if_list false js = None
