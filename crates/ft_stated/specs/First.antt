-- The first item of a number or a name, and the greatest number of a variable.
use Rattle.std.specs.Prelude.{ℕ, zero, suc, ◌≡◌, ◌+◌, length, nat_eq, max, Bool, true, false, if◌then◌else◌, Option, Some, None, option_map, List, [], ◌∷◌}
use Rattle.std.specs.Str.{bytes_eq}
use Rattle.std.specs.Map.{lookup}
use Rattle.ft_items.specs.Item.{Name, Item, variable, metavariable, rule, entry, shown}
use Rattle.ft_items.specs.Good.{equal_names}
use Rattle.ft_stated.specs.declared.firsts.Greatest.{Greatest}

-- the place of the first item that passes the test, from 0; None where none does
abbrev pub first_place : (Item → Bool) → List Item → Option ℕ
first_place p [] = None
first_place p (i ∷ items) = if p i then Some 0 else option_map suc (first_place p items)

-- the test for a variable of this number
abbrev pub is_variable_of : ℕ → Item → Bool
is_variable_of w (variable v n p) = nat_eq v w
is_variable_of w (metavariable n p) = false
is_variable_of w (rule n ms p) = false
is_variable_of w (entry e) = false
is_variable_of w (shown p) = false

-- the test for a rule of this name
abbrev pub is_rule_of : Name → Item → Bool
is_rule_of n (variable v m p) = false
is_rule_of n (metavariable m p) = false
is_rule_of n (rule m ms p) = equal_names m n
is_rule_of n (entry e) = false
is_rule_of n (shown p) = false

-- the greater of a number and another, where there is one
abbrev pub at_least : ℕ → Option ℕ → ℕ
at_least v None = v
at_least v (Some w) = max v w

-- the greatest number of these variables, None where there are none
abbrev pub greatest_number : List (ℕ × Name × ℕ) → Option ℕ
greatest_number [] = None
greatest_number (x ∷ xs) = Some (at_least x.0 (greatest_number xs))

-- What is kept of a list, so that nothing is looked for in it.

-- the place that is kept, else the new one where the test holds
abbrev pub or_place : Option ℕ → Bool → ℕ → Option ℕ
or_place (Some k) b n = Some k
or_place None b n = if b then Some n else None

-- the place of each variable, counted from k, with the greatest number of a variable up to it, m before all
abbrev pub greatest_up_to : ℕ → Option ℕ → List Item → List Greatest
greatest_up_to k m [] = []
greatest_up_to k m (variable v n p ∷ items) = record { place = k; number = at_least v m } ∷ greatest_up_to (k + 1) (Some (at_least v m)) items
greatest_up_to k m (metavariable n p ∷ items) = greatest_up_to (k + 1) m items
greatest_up_to k m (rule n ms p ∷ items) = greatest_up_to (k + 1) m items
greatest_up_to k m (entry e ∷ items) = greatest_up_to (k + 1) m items
greatest_up_to k m (shown p ∷ items) = greatest_up_to (k + 1) m items

-- the greatest number up to the first n of these places, m before all
abbrev pub number_after : ℕ → List Greatest → Option ℕ → Option ℕ
number_after zero gs m = m
number_after (suc n) [] m = m
number_after (suc n) (g ∷ gs) m = number_after n gs (Some g.number)

-- the greatest number of all these places
abbrev pub number_after_all : List Greatest → Option ℕ
number_after_all gs = number_after (length gs) gs None

-- the maps have the first place of each number and of each name, and the list the greatest numbers
pub record AreFirsts (items : List Item) (variables : List (ℕ × ℕ)) (rules : List (Name × ℕ)) (greatest : List Greatest) : Type 0 where
  pub variables_are : (w : ℕ) → lookup (nat_eq w) variables ≡ first_place (is_variable_of w) items
  pub rules_are : (n : Name) → lookup (bytes_eq n) rules ≡ first_place (is_rule_of n) items
  pub greatest_are : greatest ≡ greatest_up_to 0 None items
