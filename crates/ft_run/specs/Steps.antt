-- The items that a session makes: they have the steps of the language of applications alone.
use Rattle.std.specs.Prelude.{◌≡◌, List, [], ◌∷◌}
use Rattle.ft_items.specs.Item.{Stated, by_btype, by_bterm, by_rule, Item, variable, metavariable, rule, entry, shown}

-- the steps of this language: the boundary of a type, or of a term of a type, and a rule at arguments
abbrev pub IsStepOfApplications : Stated → Type 0
IsStepOfApplications by_btype = Unit {0}
IsStepOfApplications (by_bterm p) = Unit {0}
IsStepOfApplications (by_rule r ps) = Unit {0}
IsStepOfApplications _ = ⊥

-- An entry has a step of this language, and rests on nothing. There are no variables.
abbrev pub IsOfApplications : Item → Type 0
IsOfApplications (variable v n p) = ⊥
IsOfApplications (metavariable n p) = Unit {0}
IsOfApplications (rule n ms p) = Unit {0}
IsOfApplications (entry e) = IsStepOfApplications e.step × (e.set ≡ [])
IsOfApplications (shown p) = Unit {0}

-- each item is of this language
abbrev pub AllOfApplications : List Item → Type 0
AllOfApplications [] = Unit {0}
AllOfApplications (i ∷ items) = IsOfApplications i × AllOfApplications items
