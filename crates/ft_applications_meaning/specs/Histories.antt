-- What a list of items tells: the rules that it declares and the statements that it shows. Also which lists are derivations
-- of a run.
use Rattle.std.specs.Prelude.{ℕ, ◌≡◌, List, [], ◌∷◌, ◌++◌, Option, Some, None}
use Rattle.ft_theory.specs.Statements.{Statement, plain}
use Rattle.ft_theory.specs.Rules.{Rule}
use Rattle.ft_items.specs.Sets.{Atom}
use Rattle.ft_items.specs.Item.{Name, Item, variable, metavariable, rule, entry, shown}
use Rattle.ft_items.specs.Store.{Assertion, Declared, Store, each, entry_named, metavariable_named, premises_of, claim_in, add, empty_store}
use Rattle.ft_items.specs.Good.{Good}
use Rattle.ft_applications_meaning.specs.Building.{theory}
use Rattle.ft_applications_meaning.specs.Events.{Event, accepts, repeats, shows, run_of}

-- What a list of items tells its reader: a rule with its name is declared; or a statement is shown, with its set, over the
-- rules declared before it.
pub data Told : Type 0 where
  declares : Name → Rule → Told
  states : List Rule → Statement → List Atom → Told

-- the rule of these metavariables and of this entry, where they are there
abbrev pub told_rule : Name → Option (List (ℕ × Declared)) → Option Assertion → List Told
told_rule n None p = []
told_rule n (Some ms) None = []
told_rule n (Some ms) (Some p) = declares n (record { premises = premises_of ms; conclusion = claim_in p.statement }) ∷ []

-- the statement and the set of an entry, where it is there
abbrev pub told_shown : List Rule → Option Assertion → List Told
told_shown T None = []
told_shown T (Some p) = states T p.statement p.set ∷ []

-- what an item tells: a rule declares itself, a shown mark states its entry, and the others tell nothing
abbrev pub told_by : Store → Item → List Told
told_by W (variable v n p) = []
told_by W (metavariable n p) = []
told_by W (rule n ms p) = told_rule n (each (metavariable_named W.declarations) ms) (entry_named W p)
told_by W (entry e) = []
told_by W (shown p) = told_shown W.declarations.rules (entry_named W p)

-- what items tell after what the store has
abbrev pub told_from : Store → List Item → List Told
told_from W [] = []
told_from W (i ∷ items) = told_by W i ++ told_from (add W i) items

-- what a list of items tells
abbrev pub told : List Item → List Told
told items = told_from empty_store items

-- an accepted rule declares itself; a thesis that is shown is plain, and its set is empty
abbrev pub told_in : List Event → List Told
told_in [] = []
told_in (accepts d ∷ es) = declares d.name d.rule ∷ told_in es
told_in (repeats n ∷ es) = told_in es
told_in (shows ds c ∷ es) = states (theory ds) (plain c) [] ∷ told_in es

-- what a run tells
abbrev pub told_in_run : List Event → List Told
told_in_run es = told_in (run_of es)

-- The list is a derivation of the run: it is good, and its rules and its shown marks are, in order, the rules accepted and
-- the theses shown.
pub record IsDerivationOf (items : List Item) (es : List Event) : Type 0 where
  pub good : Good items
  pub tells : told items ≡ told_in_run es
