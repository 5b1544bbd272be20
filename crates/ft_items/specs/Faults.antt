-- The fault of a file that is no derivation file of version 1: another version, or the first line that is not as it should be.
use Rattle.std.specs.Prelude.{ℕ, suc, ◌≡◌, ◌≢◌, ◌⊎◌, Bool, List, [], ◌∷◌, ◌++◌, codes}
use Rattle.std.specs.Fmt.{decimal}
use Rattle.ft_items.specs.Item.{Name, Item}
use Rattle.ft_items.specs.Texts.{NumberFits}
use Rattle.ft_items.specs.Lines.{lines_in, first_line, last_line, IsLineOf}

-- the line is that of some item
abbrev pub IsItemLine : (Name → Bool) → List ℕ → Type 0
IsItemLine is_name l = (i : Item) × IsLineOf is_name l i

-- the first line of another version
abbrev pub IsOtherVersion : List ℕ → Type 0
IsOtherVersion l = (v : ℕ) × NumberFits v × (v ≢ 1) × (l ≡ codes "andromeda derivation " ++ decimal v)

-- Line n is the first at fault of these lines after the file's first, which are counted on from k. A line without its line feed
-- is at fault, and so is a line that is missing, as the next one. After `end` each line is.
abbrev pub FaultFrom : (Name → Bool) → ℕ → List (List ℕ) → ℕ → Type 0
FaultFrom is_name k [] n = n ≡ k
FaultFrom is_name k (l ∷ []) n = n ≡ k
FaultFrom is_name k (l ∷ m ∷ ls) n = (IsItemLine is_name l × FaultFrom is_name (suc k) (m ∷ ls) n)
    ⊎ (((l ≡ last_line) × ((m ∷ ls) ≢ ([] ∷ [])) × (n ≡ suc k))
    ⊎ ((IsItemLine is_name l → ⊥) × (l ≢ last_line) × (n ≡ k)))

-- line n is the first at fault, and the first line is not that of another version
abbrev pub FormFault : (Name → Bool) → List (List ℕ) → ℕ → Type 0
FormFault is_name [] n = n ≡ 1
FormFault is_name (l ∷ []) n = n ≡ 1
FormFault is_name (l ∷ m ∷ ls) n = ((l ≡ first_line) × FaultFrom is_name 2 (m ∷ ls) n)
    ⊎ ((l ≢ first_line) × (IsOtherVersion l → ⊥) × (n ≡ 1))

-- the first line is that of another version
abbrev pub VersionFault : List (List ℕ) → Type 0
VersionFault [] = ⊥
VersionFault (l ∷ []) = ⊥
VersionFault (l ∷ m ∷ ls) = IsOtherVersion l

-- the fault of a file: a line's form, or its version; the line is counted from 1
pub data Fault : Type 0 where
  Form : ℕ → Fault
  Version : ℕ → Fault

-- the file of these bytes has the fault, where is_name tells the names
abbrev pub HasFault : (Name → Bool) → List ℕ → Fault → Type 0
HasFault is_name bytes (Form n) = FormFault is_name (lines_in bytes) n
HasFault is_name bytes (Version n) = (n ≡ 1) × VersionFault (lines_in bytes)
