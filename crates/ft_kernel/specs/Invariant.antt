-- What a kernel keeps.
use Rattle.std.specs.Prelude.{ℕ, ◌≡◌, nat_eq, List, length}
use Rattle.std.specs.Map.{lookup}
use Rattle.std.specs.Str.{bytes_eq}
use Rattle.ft_theory.specs.Expressions.{Expression}
use Rattle.ft_items.specs.Item.{Name}
use Rattle.ft_items.specs.Store.{variables_in}
use Rattle.ft_items.specs.Good.{Good}
use Rattle.ft_kernel.specs.State.{next_number, place_of_name, rule_names}
use Rattle.ft_kernel.specs.Lines.{items_in, AllLinesBelow, is_entry, is_metavariable, is_rule, places, place_numbered, AreNumbered}
use Rattle.ft_kernel.specs.declared.line.Line.{Line}

-- the items are good, their expressions are in the table, each index has the places of its kind, and each rule's name is entered
-- with the rule's number
pub record IsKernel (ts : List Expression) (ls : List Line) (entries metavariables rules : List ℕ) (variables : List (ℕ × ℕ)) (names : List (Name × ℕ)) (next : ℕ) : Type 0 where
  pub good : Good (items_in ts ls)
  pub below : AllLinesBelow (length ts) ls
  pub entries_are : entries ≡ places is_entry 0 ls
  pub metavariables_are : metavariables ≡ places is_metavariable 0 ls
  pub rules_are : rules ≡ places is_rule 0 ls
  pub variables_are : (v : ℕ) → lookup (nat_eq v) variables ≡ place_numbered 0 ls v
  pub names_are : (n : Name) → lookup (bytes_eq n) names ≡ place_of_name (rule_names (items_in ts ls)) n
  pub next_is : next ≡ next_number (variables_in (items_in ts ls))
  pub entries_numbered : AreNumbered is_entry 0 ls
  pub metavariables_numbered : AreNumbered is_metavariable 0 ls
  pub rules_numbered : AreNumbered is_rule 0 ls
