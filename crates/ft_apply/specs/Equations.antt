-- What the calls with equations check and give, by the numbers that are handed in.
use Rattle.std.specs.Prelude.{ℕ, Bool, true, false, Option, List}
use Rattle.ft_theory.specs.Expressions.{Expression, Arguments}
use Rattle.ft_theory.specs.Statements.{Statement}
use Rattle.ft_theory.specs.Rules.{Rule, instance_of}
use Rattle.ft_items.specs.Equal.{heads, right_heads}
use Rattle.ft_items.specs.Item.{Item, Stated, by_convprem, by_convback}
use Rattle.ft_items.specs.Rows.{first_premises, congruence_of, premise_conversion, premise_conversion_back}
use Rattle.ft_reference.specs.Refusals.{Check}
use Rattle.ft_reference.specs.Checks.{all_equation_checks, congruence_checks, equal_argument_checks, premise_checks, premise_back_checks}
use Rattle.ft_apply.specs.Named.{entry_of, statements_of, rule_of}

-- of equations for arguments
abbrev pub equation_checks_in : List Item → List ℕ → List ℕ → List Check
equation_checks_in items js ks =
    all_equation_checks (statements_of items js) (statements_of items ks)

-- of the symbol at arguments and at the right sides
abbrev pub congruence_checks_in : List Item → ℕ → List ℕ → List ℕ → List Check
congruence_checks_in items r js ks =
    congruence_checks r (rule_of items r) (statements_of items js) (statements_of items ks)

abbrev pub congruence_in : List Item → ℕ → List ℕ → List ℕ → Option Statement
congruence_in items r js ks =
    congruence_of r (rule_of items r) (statements_of items js) (statements_of items ks)

-- Of an argument that is moved between arguments and right sides; with true it goes back to the arguments.
abbrev pub conversion_step : Bool → ℕ → List ℕ → List ℕ → ℕ → Stated
conversion_step false r js ks q = by_convprem r js ks q
conversion_step true r js ks q = by_convback r js ks q

abbrev pub conversion_checks : Bool → Rule → List Statement → List Statement → Statement
    → List Check
conversion_checks false R xs es y = premise_checks R xs es y
conversion_checks true R xs es y = premise_back_checks R xs es y

abbrev pub conversion_of : Bool → Rule → List Statement → List Statement → Statement
    → Option Statement
conversion_of false R xs es y = premise_conversion R xs es y
conversion_of true R xs es y = premise_conversion_back R xs es y

abbrev pub conversion_checks_in : Bool → List Item → ℕ → List ℕ → List ℕ → ℕ → List Check
conversion_checks_in b items r js ks q =
    conversion_checks b (rule_of items r) (statements_of items js) (statements_of items ks)
    (entry_of items q).statement

abbrev pub conversion_in : Bool → List Item → ℕ → List ℕ → List ℕ → ℕ → Option Statement
conversion_in b items r js ks q =
    conversion_of b (rule_of items r) (statements_of items js) (statements_of items ks)
    (entry_of items q).statement

-- the checks of arguments for the first premises, with their equations
abbrev pub equal_argument_checks_in : List Item → ℕ → List ℕ → List ℕ → List Check
equal_argument_checks_in items r js ks =
    equal_argument_checks (rule_of items r) (statements_of items js) (statements_of items ks)

-- the heads of theses, or with true the right sides of the equations
abbrev pub side_of : Bool → List Statement → List Statement → Arguments
side_of false xs es = heads xs
side_of true xs es = right_heads xs es

-- the instance of the first premises that these are
abbrev pub side_instance : Bool → List Item → ℕ → List ℕ → List ℕ → ℕ → ℕ
    → Option Expression
side_instance b items r js ks =
    instance_of (first_premises (rule_of items r) (statements_of items js))
    (side_of b (statements_of items js) (statements_of items ks))
