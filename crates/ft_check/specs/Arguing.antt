-- Theses as arguments for the premises of a rule, put for its metavariables; and what a rule has after its first premises.
use Rattle.std.specs.Prelude.{◌≡◌, ℕ, nat_lt, false, true, Option, Some, option_map, List, [], ◌∷◌, take, drop, length}
use Rattle.ft_theory.specs.Expressions.{Expression, Arguments}
use Rattle.ft_theory.specs.Statements.{Claim, Statement, plain}
use Rattle.ft_theory.specs.Rules.{Rule, instance_of}
use Rattle.ft_items.specs.Sets.{Atom}
use Rattle.ft_items.specs.Equal.{is_thesis}
use Rattle.ft_items.specs.Item.{Item, Stated}
use Rattle.ft_items.specs.Store.{Assertion, Declared, each, entry_named, metavariable_named, premises_of, store_of, declared_by}
use Rattle.ft_items.specs.Good.{Good, all_theses, reason_of_result}
use Rattle.ft_syntax.specs.Instances.{instance_in}
use Rattle.ft_syntax.specs.Table.{arguments_in}
use Rattle.ft_check.specs.Entries.{entry_in, with_step}
use Rattle.ft_check.specs.Rejects.{reason_of}
use Rattle.ft_check.specs.declared.entry.Entry.{Entry}
use Rattle.ft_check.specs.declared.entry.RuleLine.{RuleLine}
use Rattle.ft_check.specs.declared.after.After.{After}
use Rattle.ft_check.specs.declared.instances.Put.{Put}
use Rattle.ft_check.specs.declared.reject.Reject.{Reject}

-- the entries of these numbers in the list are these, and each is a thesis
pub record AreTheses (items : List Item) (ps : List ℕ) (given : List Assertion) : Type 0 where
  pub are : each (entry_named (store_of items)) ps ≡ Some given
  pub theses : all_theses given ≡ true

-- the list is good, and the metavariables of these numbers are declared so
pub record AreDeclared (items : List Item) (ms : List ℕ) (ds : List (ℕ × Declared)) : Type 0 where
  pub good : Good items
  pub are : each (metavariable_named (declared_by items)) ms ≡ Some ds

-- these arguments are put, for the premises
pub record IsPut (x : Put) (ps : List (ℕ × Statement)) (a : Arguments) : Type 0 where
  pub arguments : arguments_in x.terms x.arguments.items ≡ a
  pub instance : instance_in x.terms x.instance.pairs ≡ instance_of ps a

-- The answer is the reason against the entry, with the step, where the step has this conclusion and this set.
abbrev pub Judges : Assertion → Stated → Option Statement → List Atom → Option Reject → Type 0
Judges e t o S r = option_map reason_of r ≡ reason_of_result o S (with_step e t)

-- the boundary of the first of these premises; where there is none, the conclusion
abbrev pub boundary_or : Claim → List (ℕ × Statement) → Statement
boundary_or c [] = plain c
boundary_or c (q ∷ qs) = q.1

-- The boundary of a rule after its first n premises: that of the next one, or the conclusion's after all.
abbrev pub boundary_next : Rule → ℕ → Statement
boundary_next R n = boundary_or R.conclusion (drop n R.premises)

-- what is read of a rule is what is declared of it: its premises, and the entry of its conclusion, which is a plain boundary
pub record IsLineOf (items : List Item) (x : RuleLine) (R : Rule) : Type 0 where
  pub declared : List (ℕ × Declared)
  pub are : AreDeclared items x.premises.now declared
  pub premises : R.premises ≡ premises_of declared
  pub conclusion : Assertion
  pub is : entry_named (store_of items) x.conclusion ≡ Some conclusion
  pub goal : conclusion.statement ≡ plain R.conclusion
  pub kind : is_thesis conclusion.statement ≡ false

-- the entry is the boundary of the rule after its first n premises
pub record IsNext (ts : List Expression) (e : Entry) (R : Rule) (n : ℕ) : Type 0 where
  pub is : (entry_in ts e).statement ≡ boundary_next R n
  pub kind : is_thesis (entry_in ts e).statement ≡ false

-- What is read is what the rule has after its first n premises: these, the boundary then, and whether it is that of a premise.
pub record IsAfter (ts : List Expression) (items : List Item) (x : After) (R : Rule) (n : ℕ)
    : Type 0 where
  pub declared : List (ℕ × Declared)
  pub are : AreDeclared items x.metavariables.now declared
  pub premises : take n R.premises ≡ premises_of declared
  pub boundary : IsNext ts x.boundary R n
  pub more : x.is_premise ≡ nat_lt n (length R.premises)
