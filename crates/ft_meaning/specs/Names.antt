-- What stands under a name in a list, where the first entry of a name counts; and the rule of a name.
use Rattle.std.specs.Prelude.{ℕ, zero, suc, Bool, cond, Option, Some, None, option_map, option_and_then, List, [], ◌∷◌}
use Rattle.std.specs.List.{list_any}
use Rattle.ft_theory.specs.Rules.{Rule}
use Rattle.ft_items.specs.Item.{Name}
use Rattle.ft_items.specs.Store.{rule_named, Declarations}
use Rattle.ft_items.specs.Good.{equal_names}

-- what stands under the name
abbrev pub named : {A : Type 0} → List (Name × A) → Name → Option A
named [] n = None
named (p ∷ ps) n = cond (equal_names p.0 n) (Some p.1) (named ps n)

-- the test that the name is in the list
abbrev pub is_among : List Name → Name → Bool
is_among ns n = list_any (equal_names n) ns

-- the number of the name in the list, counted from 0
abbrev pub number_of : List Name → Name → Option ℕ
number_of [] n = None
number_of (m ∷ ms) n = cond (equal_names m n) (Some zero) (option_map suc (number_of ms n))

-- the rule of the name, with its number
abbrev pub rule_of_name : Declarations → Name → Option (ℕ × Rule)
rule_of_name W n = option_and_then (rule_named W) (number_of W.names n)
