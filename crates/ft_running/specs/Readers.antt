-- What a value is, where it is of the kind, and its parts.
use Rattle.std.specs.Prelude.{ℕ, ◌≡◌, Bool, true, false, Option, Some, None, option_map}
use Rattle.std.specs.Prelude.{List, map}
use Rattle.ft_items.specs.Store.{Assertion}
use Rattle.ft_meaning.specs.Values.{Value, judgement, boundary, unit, truth, pair, nil, cons, none, some}
use Rattle.ft_meaning.specs.Values.{State as Running, the, as_judgements}
use Rattle.ft_values.specs.Kept.{stated_at}
use Rattle.ft_values.specs.declared.values.Value.{Value as AnyValue}
use Rattle.ft_running.specs.Evaluation.{Evaluation, value_over}

abbrev pub judgement_in : Value → Option Assertion
judgement_in (judgement j) = Some j
judgement_in v = None

abbrev pub boundary_in : Value → Option Assertion
boundary_in (boundary b) = Some b
boundary_in v = None

abbrev pub truth_in : Value → Option Bool
truth_in (truth b) = Some b
truth_in v = None

abbrev pub is_unit : Value → Bool
is_unit unit = true
is_unit v = false

abbrev pub is_nil : Value → Bool
is_nil nil = true
is_nil v = false

abbrev pub is_none : Value → Bool
is_none none = true
is_none v = false

abbrev pub pair_in : Value → Option (Value × Value)
pair_in (pair v w) = Some (v, w)
pair_in v = None

abbrev pub list_in : Value → Option (Value × Value)
list_in (cons v w) = Some (v, w)
list_in v = None

abbrev pub option_in : Value → Option Value
option_in (some v) = Some v
option_in v = None

-- what the numbers of entries state, and what known values are
abbrev pub stated_in : Evaluation → Option ℕ → Option Assertion
stated_in e o = option_map (stated_at e.list) o

abbrev pub value_in : Evaluation → Option AnyValue → Option Value
value_in e o = option_map (value_over e) o

abbrev pub both_in : Evaluation → Option (AnyValue × AnyValue) → Option (Value × Value)
both_in e o = option_map (λ p. (value_over e p.0, value_over e p.1)) o

-- the value is the list of these judgements, or where there are none it is no list of judgements
abbrev pub HasJudgements : Evaluation → Value → Option (List ℕ) → Type 0
HasJudgements e v o = (s : Running) → as_judgements v s ≡ the (option_map (map (stated_at e.list)) o) s
