-- Lists that go on, and a draft over them.
use Rattle.std.specs.Prelude.{◌≡◌, Option, Some, None, List, ◌++◌}
use Rattle.ft_items.specs.Item.{Item}
use Rattle.ft_kernel.specs.State.{State}
use Rattle.ft_rules.specs.Drafts.{Drafted, IsDraftOver}

-- the list goes on
abbrev pub Grows : State → State → Type 0
Grows s t = (more : List Item) × (t.items ≡ s.items ++ more)

-- the draft, where there is one, is that of a rule over the items
abbrev pub MayDraft : List Item → Option Drafted → Type 0
MayDraft items None = Unit {0}
MayDraft items (Some d) = IsDraftOver items d
