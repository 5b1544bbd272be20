-- What is told of the file that is read.
use Rattle.std.specs.Prelude.{ℕ, suc, cond, nat_eq, ◌≡◌, ◌≢◌, List, [], ◌∷◌, ◌++◌, codes}
use Rattle.std.specs.Fmt.{decimal}
use Rattle.ft_base.specs.Names.{is_name_token}
use Rattle.ft_items.specs.Texts.{NumberFits}
use Rattle.ft_items.specs.Lines.{first_line}
use Rattle.ft_items.specs.Faults.{IsItemLine, IsOtherVersion, FaultFrom, Form, Version, HasFault}
use Rattle.ft_read.specs.declared.fault.FileFault.{FileFault}
use Rattle.ft_read.specs.declared.fault.FileFault.TheVariants as told

-- The file of these bytes has the fault that is told. That memory was refused tells nothing of the file.
abbrev pub IsFault : List ℕ → FileFault → Type 0
IsFault bytes (told.Form n) = HasFault is_name_token bytes (Form n)
IsFault bytes (told.Version n) = HasFault is_name_token bytes (Version n)
IsFault bytes told.Memory = Unit {0}

-- how many bytes stand before the first line feed
abbrev pub before_feed : List ℕ → ℕ
before_feed [] = 0
before_feed (b ∷ bs) = cond (nat_eq b 10) 0 (suc (before_feed bs))

-- the first line of a file of this version
abbrev pub IsFirstLineOf : ℕ → List ℕ → Type 0
IsFirstLineOf v l = NumberFits v × (l ≡ codes "andromeda derivation " ++ decimal v)

-- what is told against a first line that is not the one of version 1
abbrev pub IsFirstFault : List ℕ → FileFault → Type 0
IsFirstFault l (told.Form n) = (l ≢ first_line) × (IsOtherVersion l → ⊥) × (n ≡ 1)
IsFirstFault l (told.Version n) = IsOtherVersion l × (n ≡ 1)
IsFirstFault l told.Memory = Unit {0}

-- what is told against the line of this number that is no item's
abbrev pub IsItemFault : List ℕ → ℕ → FileFault → Type 0
IsItemFault l k (told.Form n) = (IsItemLine is_name_token l → ⊥) × (n ≡ k)
IsItemFault l k (told.Version n) = ⊥
IsItemFault l k told.Memory = Unit {0}

-- what is told against the lines after the first
abbrev pub IsLaterFault : List (List ℕ) → FileFault → Type 0
IsLaterFault ls (told.Form n) = FaultFrom is_name_token 2 ls n
IsLaterFault ls (told.Version n) = ⊥
IsLaterFault ls told.Memory = Unit {0}
