-- The reasons of the program as reasons of the definition.
use Rattle.std.specs.Prelude.{◌≡◌, Option, option_map, List}
use Rattle.ft_items.specs.Item.{Item}
use Rattle.ft_items.specs.Good.{Reject as Reason, Good, reason, Reference as reference, Kind as kind, Premise as premise, Conclusion as conclusion, Set as set, Named as named, Number as number, Many as many, Loose as loose}
use Rattle.ft_check.specs.declared.reject.Reject.{Reject}
use Rattle.ft_check.specs.declared.reject.Reject.TheVariants.{Reference, Kind, Premise, Conclusion, Set, Name, Number, Many, Loose}

-- a reason by its name; Name is that of a name that an earlier rule has
abbrev pub reason_of : Reject → Reason
reason_of Reference = reference
reason_of Kind = kind
reason_of Premise = premise
reason_of Conclusion = conclusion
reason_of Set = set
reason_of Name = named
reason_of Number = number
reason_of Many = many
reason_of Loose = loose

-- Where the items before are a good list, the answer is the first reason against the item after them, or that there is none.
-- Where they are not, nothing is said.
abbrev pub IsReason : List Item → Item → Option Reject → Type 0
IsReason before i r = Good before → option_map reason_of r ≡ reason before i
