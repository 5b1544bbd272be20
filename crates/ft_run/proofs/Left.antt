-- What commands that are left to be run do.
use Rattle.std.specs.Prelude.{◌≡◌, List, ◌++◌, option_map}
use Rattle.ft_applications_meaning.specs.declared.syntax.Command.{Command}
use Rattle.ft_applications_meaning.specs.Building.{Declaration}
use Rattle.ft_applications_meaning.specs.Events.{Event, events}

-- what all commands do, by what was done and by the commands that are left
abbrev pub AreLeft : List Declaration → List Command → List Event → List Declaration → List Command → Type 0
AreLeft ds cs es fs left = events ds cs ≡ option_map (λ more. es ++ more) (events fs left)
