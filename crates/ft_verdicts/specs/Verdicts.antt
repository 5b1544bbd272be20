-- What `check` writes for a derivation file, with its status.
use Rattle.std.specs.Prelude.{ℕ, Bool, List, ◌++◌, codes}
use Rattle.std.specs.Fmt.{decimal}
use Rattle.ft_items.specs.Item.{Name, Item}
use Rattle.ft_items.specs.Good.{Reject, Reference, Kind, Premise, Conclusion, Set, Named, Number, Many, Loose, Verdict, Accepted, Rejected, verdict}
use Rattle.ft_items.specs.Texts.{IsTextOf}
use Rattle.ft_items.specs.Faults.{Fault, Form, Version, HasFault}

-- the word of a reason
abbrev pub reason_word : Reject → List ℕ
reason_word Reference = codes "reference"
reason_word Kind = codes "kind"
reason_word Premise = codes "premise"
reason_word Conclusion = codes "conclusion"
reason_word Set = codes "set"
reason_word Named = codes "name"
reason_word Number = codes "number"
reason_word Many = codes "many"
reason_word Loose = codes "loose"

-- the line of a verdict: accepted with the counts, or rejected with the item's number and the reason
abbrev pub verdict_line : Verdict → List ℕ
verdict_line (Accepted c) =
    codes "accepted " ++ decimal c.rules ++ codes " rules, " ++ decimal c.entries ++ codes " entries, " ++ decimal c.shown ++ codes " shown, level " ++ decimal c.level ++ codes "\n"
verdict_line (Rejected k why) = codes "rejected " ++ decimal k ++ codes " " ++ reason_word why ++ codes "\n"

-- the status of a verdict
abbrev pub verdict_status : Verdict → ℕ
verdict_status (Accepted c) = 0
verdict_status (Rejected k why) = 15

-- the line of a file's fault
abbrev pub fault_line : Fault → List ℕ
fault_line (Form n) = codes "error line " ++ decimal n ++ codes " form\n"
fault_line (Version n) = codes "error line " ++ decimal n ++ codes " version\n"

-- What `check` writes for a file, with its status: the verdict on its items, or its fault. `is_name` tells the names.
pub data IsVerdict (is_name : Name → Bool) (bytes : List ℕ) : List ℕ → ℕ → Type 0 where
  of_items : (items : List Item) → IsTextOf is_name bytes items
      → IsVerdict is_name bytes (verdict_line (verdict items)) (verdict_status (verdict items))
  of_fault : (f : Fault) → HasFault is_name bytes f → IsVerdict is_name bytes (fault_line f) 16
