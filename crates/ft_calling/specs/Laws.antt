-- What holds of rules as the list goes on.
use Rattle.std.specs.Prelude.{ℕ, ◌≡◌}
use Rattle.ft_items.specs.Good.{Good}
use Rattle.ft_kernel.specs.State.{State}
use Rattle.ft_values.specs.Kept.{GoesOn}
use Rattle.ft_calling.specs.Calling.{IsRuleOf, rule_at}

-- a number stays that of a rule, and of the same one
abbrev pub RulesStay : Type 0
RulesStay = (s t : State) (r : ℕ) → Good s.items → GoesOn s t → IsRuleOf s r
    → IsRuleOf t r × (rule_at t r ≡ rule_at s r)
