-- What holds of the texts of item lists.
use Rattle.std.specs.Prelude.{ℕ, ◌<◌, ◌≡◌, ◌↔◌, ◌⊎◌, Bool, true, codes, List, [], ◌∷◌}
use Rattle.std.specs.Str.{all_scalars, IsUtf8}
use Rattle.ft_theory.specs.Expressions.{bound, free, symbol, meta, no_arguments, with_body, dummy, no_terms, also}
use Rattle.ft_theory.specs.Statements.{equal_terms, type_equation_goal, plain, abstracted}
use Rattle.ft_items.specs.Sets.{met, var}
use Rattle.ft_items.specs.Item.{by_cong, by_convprem, Name, Item, variable, metavariable, rule, entry, shown}
use Rattle.ft_items.specs.Lines.{lines_in, IsLineOf, AreLinesOf}
use Rattle.ft_items.specs.Faults.{IsItemLine, IsOtherVersion, Fault, Form, Version, HasFault}
use Rattle.ft_items.specs.Worked.{Nat, O, zero_file, zero_text}
use Rattle.ft_items.specs.Texts.{line_text, ItemsFit, IsTextOf}

-- each character stands after the space in Unicode, so that none is a space or a line feed
abbrev pub Visible : List ℕ → Type 0
Visible [] = Unit {0}
Visible (c ∷ cs) = (32 < c) × Visible cs

-- A list of items has at most one text.
abbrev pub AtMostOneText : Type 0
AtMostOneText = (is_name : Name → Bool) (items : List Item) (bytes others : List ℕ) → IsTextOf is_name bytes items → IsTextOf is_name others items → bytes ≡ others

-- A text is of at most one list of items, whatever the names are, if only they are visible.
abbrev pub AtMostOneList : Type 0
AtMostOneList = (is_name : Name → Bool) → ((n : Name) → is_name n ≡ true → Visible n)
    → (bytes : List ℕ) (items others : List Item) → IsTextOf is_name bytes items → IsTextOf is_name bytes others → items ≡ others

-- A list of items has a text where its expressions are small, its numbers fit, its sets are ascending, its names are names, and
-- its steps are of version 1.
abbrev pub HasText : Type 0
HasText = (is_name : Name → Bool) (items : List Item) → ItemsFit is_name items → (bytes : List ℕ) × IsTextOf is_name bytes items

-- The bytes are the text of the list of items exactly where their lines are those of a file with these items.
abbrev pub TextByLines : Type 0
TextByLines = (is_name : Name → Bool) → ((n : Name) → is_name n ≡ true → Visible n)
    → (bytes : List ℕ) (items : List Item) → IsTextOf is_name bytes items ↔ AreLinesOf is_name (lines_in bytes) items

-- The worked list of two rules has the worked text.
abbrev pub WorkedText : Type 0
WorkedText = IsTextOf (λ n. true) zero_text (zero_file [])

-- A file has at most one fault.
abbrev pub AtMostOneFault : Type 0
AtMostOneFault = (is_name : Name → Bool) (bytes : List ℕ) (f g : Fault) → HasFault is_name bytes f → HasFault is_name bytes g → f ≡ g

-- A text of a list of items has no fault, whatever the names are, if only they are visible.
abbrev pub TextHasNoFault : Type 0
TextHasNoFault = (is_name : Name → Bool) → ((n : Name) → is_name n ≡ true → Visible n)
    → (bytes : List ℕ) (items : List Item) (f : Fault) → IsTextOf is_name bytes items → HasFault is_name bytes f → ⊥

-- A text is UTF-8, where the names have characters alone.
abbrev pub TextIsUtf8 : Type 0
TextIsUtf8 = (is_name : Name → Bool) → ((n : Name) → is_name n ≡ true → all_scalars n ≡ true)
    → (bytes : List ℕ) (items : List Item) → IsTextOf is_name bytes items → IsUtf8 bytes

-- An item's line is UTF-8, where the names have characters alone. So bytes that are not UTF-8 are a fault of their line.
abbrev pub LineIsUtf8 : Type 0
LineIsUtf8 = (is_name : Name → Bool) → ((n : Name) → is_name n ≡ true → all_scalars n ≡ true)
    → (l : List ℕ) (i : Item) → IsLineOf is_name l i → IsUtf8 l

-- P or not
abbrev pub Decided : Type 0 → Type 0
Decided P = P ⊎ (P → ⊥)

-- Each file is a text or has a fault, where it can be told of each line whether it is an item's, or another version's.
abbrev pub TextOrFault : Type 0
TextOrFault = (is_name : Name → Bool) → ((n : Name) → is_name n ≡ true → Visible n)
    → ((l : List ℕ) → Decided (IsItemLine is_name l)) → ((l : List ℕ) → Decided (IsOtherVersion l))
    → (bytes : List ℕ) → ((items : List Item) × IsTextOf is_name bytes items) ⊎ ((f : Fault) × HasFault is_name bytes f)

-- The texts of worked lines, one for each kind, with each kind of expression, atom and part.
abbrev pub WorkedLines : Type 0
WorkedLines = (line_text (variable 7 (codes "x") 1) ≡ codes "V 7 x 1")
    × (line_text (metavariable (codes "n") 20) ≡ codes "M n 20")
    × (line_text (rule (codes "S") (0 ∷ 10 ∷ []) 2) ≡ codes "R S 0 10 ; 2")
    × (line_text (shown 3) ≡ codes "W 3")
    × (line_text (entry (record {
      statement = abstracted Nat (plain (equal_terms (bound 0) (symbol 12 (with_body 1 (bound 0) (dummy 0 no_arguments))) (meta 3 (also (free 4) (also (bound 1) no_terms)))));
      set = met 0 ∷ var 7 ∷ [];
      step = by_convprem 2 (3 ∷ 1 ∷ []) [] 5;
    })) ≡ codes "J {s0()}e b0 s12(1.b0,0.*) m3(v4,b1) [m0,v7] convprem 2 3 1 / / 5")
    × (line_text (entry (record { statement = plain (type_equation_goal Nat O); set = []; step = by_cong 2 (0 ∷ []) [] })) ≡ codes "B E s0() s1() [] cong 2 0 /")

-- Worked faults: `end` without its line feed, a line after `end`, no line at all, and another version.
abbrev pub WorkedFaults : Type 0
WorkedFaults = HasFault (λ n. true) (codes "andromeda derivation 1\nB T [] btype\nend") (Form 3)
    × HasFault (λ n. true) (codes "andromeda derivation 1\nend\nW 0\n") (Form 3)
    × HasFault (λ n. true) [] (Form 1)
    × HasFault (λ n. true) (codes "andromeda derivation 3\nend\n") (Version 1)
