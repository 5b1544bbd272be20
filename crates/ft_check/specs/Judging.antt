-- The reason against an entry as it is stated.
use Rattle.std.specs.Prelude.{◌≡◌, Option, option_map, List}
use Rattle.ft_theory.specs.Expressions.{Expression}
use Rattle.ft_theory.specs.Statements.{Statement}
use Rattle.ft_items.specs.Item.{Entry as AnyEntry, Stated}
use Rattle.ft_items.specs.Sets.{Atom}
use Rattle.ft_items.specs.Good.{reason_of_result}
use Rattle.ft_check.specs.Entries.{entry_in, with_step}
use Rattle.ft_check.specs.Rejects.{reason_of}
use Rattle.ft_check.specs.declared.entry.Entry.{Entry}
use Rattle.ft_check.specs.declared.reject.Reject.{Reject}

-- the entry with a step, read over the trees of a table
abbrev pub stated : List Expression → Entry → Stated → AnyEntry
stated ts e t = with_step (entry_in ts e) t

-- the answer is the first reason against the entry as the conclusion o with the set S, or that there is none
abbrev pub Judges : AnyEntry → Option Statement → List Atom → Option Reject → Type 0
Judges e o S r = option_map reason_of r ≡ reason_of_result o S e
