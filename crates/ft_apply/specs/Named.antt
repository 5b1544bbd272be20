-- What numbers name in a list of items. Where nothing has a number, a dummy stands.
use Rattle.std.specs.Prelude.{ℕ, Option, Some, None, List, [], ◌∷◌, drop}
use Rattle.ft_theory.specs.Statements.{type_goal, Statement, plain, domain_count}
use Rattle.ft_theory.specs.Rules.{Rule}
use Rattle.ft_items.specs.Item.{Name, Item}
use Rattle.ft_items.specs.Store.{Assertion, nth, claim_in, entries_in, metavariables_in, rules_in}
use Rattle.ft_items.specs.Rows.{statements}
use Rattle.ft_syntax.specs.Arguments.{Argument}
use Rattle.ft_judge.specs.Meaning.{head_of_statement}
use Rattle.ft_kernel.specs.State.{State, IsThesisOf}

abbrev pub entry_or : Option Assertion → Assertion
entry_or None = record { statement = plain type_goal; set = [] }
entry_or (Some a) = a

-- the entry of a number
abbrev pub entry_of : List Item → ℕ → Assertion
entry_of items j = entry_or (nth (entries_in items) j)

-- the entries of numbers, in their order
abbrev pub entries_of : List Item → List ℕ → List Assertion
entries_of items [] = []
entries_of items (j ∷ js) = entry_of items j ∷ entries_of items js

-- their statements
abbrev pub statements_of : List Item → List ℕ → List Statement
statements_of items js = statements (entries_of items js)

-- each number is that of a thesis
abbrev pub AreThesesOf : State → List ℕ → Type 0
AreThesesOf s [] = Unit {0}
AreThesesOf s (j ∷ js) = IsThesisOf s j × AreThesesOf s js

-- the head of a thesis, under as many binders as the thesis has domains
abbrev pub head_argument : Statement → Argument
head_argument x = (domain_count x, head_of_statement x)

abbrev pub boundary_or : List Item → Option (Name × ℕ) → Statement
boundary_or items None = plain type_goal
boundary_or items (Some x) = (entry_of items x.1).statement

-- the boundary of the metavariable of a number
abbrev pub boundary_of_met : List Item → ℕ → Statement
boundary_of_met items m = boundary_or items (nth (metavariables_in items) m)

-- metavariables as premises, each with its boundary
abbrev pub premises_in : List Item → List ℕ → List (ℕ × Statement)
premises_in items [] = []
premises_in items (m ∷ ms) = (m, boundary_of_met items m) ∷ premises_in items ms

abbrev pub rule_or : List Item → Option (Name × List ℕ × ℕ) → Rule
rule_or items None = record { premises = []; conclusion = type_goal }
rule_or items (Some x) = record { premises = premises_in items x.1; conclusion = claim_in (entry_of items x.2).statement }

-- the rule of a number
abbrev pub rule_of : List Item → ℕ → Rule
rule_of items r = rule_or items (nth (rules_in items) r)

abbrev pub next_of : Rule → List (ℕ × Statement) → Statement
next_of R [] = plain R.conclusion
next_of R (q ∷ qs) = q.1

-- the boundary of the premise after the first n, or of the conclusion where no premise is left
abbrev pub boundary_after : Rule → ℕ → Statement
boundary_after R n = next_of R (drop n R.premises)
