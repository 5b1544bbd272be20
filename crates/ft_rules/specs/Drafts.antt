-- The draft of a rule over a list of items.
use Rattle.std.specs.Prelude.{ℕ, ◌≡◌, ◌≤◌, ◌<◌, Option, Some, None, true, false, List, [], ◌∷◌, length, get_or}
use Rattle.ft_theory.specs.Statements.{type_goal, plain}
use Rattle.ft_items.specs.Sets.{Atom}
use Rattle.ft_items.specs.Item.{Name, Item}
use Rattle.ft_items.specs.Equal.{is_thesis, is_plain}
use Rattle.ft_items.specs.Store.{Assertion, Declared, nth, declared_by}
use Rattle.ft_reference.specs.Declare.{Draft, first_outside}
use Rattle.ft_nucleus_laws.specs.Laws.{IsDraft}
use Rattle.ft_kernel.specs.State.{State, entry_at, set_at}

-- what is seen of a draft: its name, and the metavariables of its premises so far
pub record Drafted : Type 0 where
  pub name : Name
  pub premises : List ℕ

abbrev pub declared_or : Option Declared → Declared
declared_or None = record { name = []; boundary = plain type_goal; set = [] }
declared_or (Some d) = d

-- the metavariable of a number, with what is declared of it; a dummy where there is none
abbrev pub met_of : List Item → ℕ → ℕ × Declared
met_of items m = (m, declared_or (nth (declared_by items).metavariables m))

abbrev pub mets_of : List Item → List ℕ → List (ℕ × Declared)
mets_of items [] = []
mets_of items (m ∷ ms) = met_of items m ∷ mets_of items ms

-- the draft as the reference has it
abbrev pub draft_in : List Item → Drafted → Draft
draft_in items d = record { name = d.name; premises = mets_of items d.premises }

-- It is the draft of a rule: its metavariables are those of the list, they differ, and each rests on earlier ones alone.
abbrev pub IsDraftOver : List Item → Drafted → Type 0
IsDraftOver items d = IsDraft (declared_by items) (draft_in items d)

-- the number is that of a boundary without domains
abbrev pub IsPlainBoundaryOf : State → ℕ → Type 0
IsPlainBoundaryOf s b = (a : Assertion) × (entry_at s b ≡ Some a)
    × (is_thesis a.statement ≡ false) × (is_plain a.statement ≡ true)

-- the entry of a number rests on none but these atoms
abbrev pub RestsOnOwn : State → ℕ → List Atom → Type 0
RestsOnOwn s b own = (S : List Atom) × (set_at s b ≡ Some S) × (first_outside own S ≡ None)

-- numbers in order
abbrev pub InOrder : List ℕ → Type 0
InOrder ns = (i j : ℕ) → i ≤ j → j < length ns → get_or ns i 0 ≤ get_or ns j 0
