-- What a run does that is claimed: rules are accepted and judgements shown. What is shown is derivable, and what a derivation
-- tells.
use Rattle.std.specs.Prelude.{ℕ, ◌≡◌, Option, Some, None, List, [], ◌∷◌, ◌++◌, map}
use Rattle.ft_theory.specs.Rules.{Rule}
use Rattle.ft_theory.specs.Steps.{Sequent}
use Rattle.ft_items.specs.Item.{Name, Item, variable, metavariable, rule, entry, shown}
use Rattle.ft_items.specs.Store.{Assertion, Declared, each, entry_named, metavariable_named, sequent_in, Derivable, add, empty_store, declared_rule, Declarations, Store, WellFormedContext}
use Rattle.ft_items.specs.Good.{Good}
use Rattle.ft_meaning.specs.Commands.{Done, Accepted, ShownNone, Quiet}
use Rattle.ft_meaning.specs.Commands as command

-- An event: a rule is accepted, or a judgement is shown over what is declared at that moment, the rules accepted before among it.
pub data Event : Type 0 where
  accepts : Name → Rule → Event
  shows : Declarations → Assertion → Event

-- the events of a command, over the declarations after it
abbrev pub events_of : Declarations → Done → List Event
events_of W (Accepted n R) = accepts n R ∷ []
events_of W (command.Shown js) = map (shows W) js
events_of W ShownNone = []
events_of W Quiet = []

-- a judgement that is shown, with the declarations at that moment
pub record Shown : Type 0 where
  pub declarations : Declarations
  pub judgement : Assertion

-- the judgements shown, in their order
abbrev pub shown_in : List Event → List Shown
shown_in [] = []
shown_in (accepts n R ∷ es) = shown_in es
shown_in (shows W j ∷ es) = record { declarations = W; judgement = j } ∷ shown_in es

-- The context of the judgement's set, which is what is printed before its `|-`, is well formed, and in it the judgement is derivable
-- by primitive steps over the rules accepted before its line.
pub record IsDerivable (s : Shown) : Type 0 where
  pub context : WellFormedContext s.declarations s.judgement.set
  pub derivable : Derivable s.declarations s.judgement.statement s.judgement.set

-- P holds of each of the judgements shown
abbrev pub EachShown : (Shown → Type 0) → List Shown → Type 0
EachShown P [] = Unit {0}
EachShown P (s ∷ ss) = P s × EachShown P ss

-- each of the judgements shown is derivable
abbrev pub AllDerivable : List Shown → Type 0
AllDerivable = EachShown IsDerivable

-- Derivations.

-- What is told to a reader: a rule with its name is declared; or a sequent is stated, over the rules declared before it.
pub data Told : Type 0 where
  declares : Name → Rule → Told
  states : List Rule → Sequent → Told

-- what an event tells
abbrev pub told_by_event : Event → Told
told_by_event (accepts n R) = declares n R
told_by_event (shows W j) = states W.rules (sequent_in W j.statement j.set)

-- the rule of these metavariables and of this entry, where they are there
abbrev pub told_rule : Name → Option (List (ℕ × Declared)) → Option Assertion → List Told
told_rule n None p = []
told_rule n (Some ms) None = []
told_rule n (Some ms) (Some p) = declares n (declared_rule ms p) ∷ []

-- the sequent of an entry, where it is there
abbrev pub told_shown : Declarations → Option Assertion → List Told
told_shown W None = []
told_shown W (Some p) = states W.rules (sequent_in W p.statement p.set) ∷ []

-- what an item tells: a rule declares itself, a shown mark states its entry, and the others tell nothing
abbrev pub told_by_item : Store → Item → List Told
told_by_item W (variable v n p) = []
told_by_item W (metavariable n p) = []
told_by_item W (rule n ms p) = told_rule n (each (metavariable_named W.declarations) ms) (entry_named W p)
told_by_item W (entry e) = []
told_by_item W (shown p) = told_shown W.declarations (entry_named W p)

-- what items tell after what the store has
abbrev pub told_from : Store → List Item → List Told
told_from W [] = []
told_from W (i ∷ items) = told_by_item W i ++ told_from (add W i) items

-- The list is a derivation of the events: it is good, and its rules and shown marks are, in order, the rules accepted and the
-- judgements shown, each with its sequent.
pub record IsDerivationOf (items : List Item) (es : List Event) : Type 0 where
  pub good : Good items
  pub tells : told_from empty_store items ≡ map told_by_event es
