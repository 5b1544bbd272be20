-- The rules that a list tells are its rules, and it tells each sequent over the rules told before.
use Rattle.std.proofs.Common.{◌≡◌, ℕ, Option, Some, None, List, [], ◌∷◌, ◌++◌, refl, sym, ap, ◌∙◌, subst, append_assoc, append-nil}
use Rattle.std.specs.Prelude.{map}
use Rattle.ft_theory.specs.Rules.{Rule}
use Rattle.ft_items.specs.Item.{Name, Item, variable, metavariable, rule, entry, shown}
use Rattle.ft_items.specs.Store.{Assertion, Declared, each, entry_named, metavariable_named, add_variable, add_metavariable, add_rule, add, add_all, Declarations, Store}
use Rattle.ft_meaning.specs.Events.{Event, accepts, shows, Told, declares, states, told_by_event, told_rule, told_shown, told_by_item, told_from}
use Rattle.ft_meaning_laws.specs.Derivability.{AreOver, accepted_in}

-- the rules that are told
abbrev pub rules_told : List Told → List Rule
rules_told [] = []
rules_told (declares n R ∷ ts) = R ∷ rules_told ts
rules_told (states T x ∷ ts) = rules_told ts

told_append : (xs ys : List Told) → rules_told (xs ++ ys) ≡ rules_told xs ++ rules_told ys
told_append [] ys = refl
told_append (declares n R ∷ xs) ys = ap (λ z. R ∷ z) (told_append xs ys)
told_append (states T x ∷ xs) ys = told_append xs ys

variable_tells : (W : Declarations) (v : ℕ) (n : Name) (o : Option Assertion) → (add_variable W v n o).rules ≡ W.rules ++ []
variable_tells W v n None = sym (append-nil W.rules)
variable_tells W v n (Some a) = sym (append-nil W.rules)

metavariable_tells : (W : Declarations) (n : Name) (o : Option Assertion) → (add_metavariable W n o).rules ≡ W.rules ++ []
metavariable_tells W n None = sym (append-nil W.rules)
metavariable_tells W n (Some a) = sym (append-nil W.rules)

rule_tells : (W : Declarations) (n : Name) (os : Option (List (ℕ × Declared))) (o : Option Assertion) → (add_rule W n os o).rules ≡ W.rules ++ rules_told (told_rule n os o)
rule_tells W n None o = sym (append-nil W.rules)
rule_tells W n (Some ms) None = sym (append-nil W.rules)
rule_tells W n (Some ms) (Some a) = refl

shown_tells : (W : Declarations) (o : Option Assertion) → W.rules ≡ W.rules ++ rules_told (told_shown W o)
shown_tells W None = sym (append-nil W.rules)
shown_tells W (Some a) = sym (append-nil W.rules)

item_tells : (W : Store) (i : Item) → (add W i).declarations.rules ≡ W.declarations.rules ++ rules_told (told_by_item W i)
item_tells W (variable v n p) = variable_tells W.declarations v n (entry_named W p)
item_tells W (metavariable n p) = metavariable_tells W.declarations n (entry_named W p)
item_tells W (rule n ms p) = rule_tells W.declarations n (each (metavariable_named W.declarations) ms) (entry_named W p)
item_tells W (entry e) = sym (append-nil W.declarations.rules)
item_tells W (shown p) = shown_tells W.declarations (entry_named W p)

-- the rules of a list are those that it tells
pub rules_are_told : (W : Store) (items : List Item) → (add_all W items).declarations.rules ≡ W.declarations.rules ++ rules_told (told_from W items)
rules_are_told W [] = sym (append-nil W.declarations.rules)
rules_are_told W (i ∷ items) =
    rules_are_told (add W i) items
    ∙ ap (λ z. z ++ rules_told (told_from (add W i) items)) (item_tells W i)
    ∙ append_assoc W.declarations.rules (rules_told (told_by_item W i)) (rules_told (told_from (add W i) items))
    ∙ ap (λ z. W.declarations.rules ++ z) (sym (told_append (told_by_item W i) (told_from (add W i) items)))

-- the rules that events tell are those accepted
pub accepted_are_told : (es : List Event) → rules_told (map told_by_event es) ≡ accepted_in es
accepted_are_told [] = refl
accepted_are_told (accepts n R ∷ es) = ap (λ z. R ∷ z) (accepted_are_told es)
accepted_are_told (shows W j ∷ es) = accepted_are_told es

-- each sequent is stated over these rules and those declared before it
abbrev pub AreStatedOver : List Rule → List Told → Type 0
AreStatedOver T [] = Unit {0}
AreStatedOver T (declares n R ∷ ts) = AreStatedOver (T ++ R ∷ []) ts
AreStatedOver T (states U x ∷ ts) = (U ≡ T) × AreStatedOver T ts

over_append : (T : List Rule) (xs ys : List Told) → AreStatedOver T xs → AreStatedOver (T ++ rules_told xs) ys → AreStatedOver T (xs ++ ys)
over_append T [] ys h k = subst (λ z. AreStatedOver z ys) (append-nil T) k
over_append T (declares n R ∷ xs) ys h k = over_append (T ++ R ∷ []) xs ys h (subst (λ z. AreStatedOver z ys) (sym (append_assoc T (R ∷ []) (rules_told xs))) k)
over_append T (states U x ∷ xs) ys h k = (h.0, over_append T xs ys h.1 k)

rule_over : (W : Declarations) (n : Name) (os : Option (List (ℕ × Declared))) (o : Option Assertion) → AreStatedOver W.rules (told_rule n os o)
rule_over W n None o = tt
rule_over W n (Some ms) None = tt
rule_over W n (Some ms) (Some a) = tt

shown_over : (W : Declarations) (o : Option Assertion) → AreStatedOver W.rules (told_shown W o)
shown_over W None = tt
shown_over W (Some a) = (refl, tt)

item_over : (W : Store) (i : Item) → AreStatedOver W.declarations.rules (told_by_item W i)
item_over W (variable v n p) = tt
item_over W (metavariable n p) = tt
item_over W (rule n ms p) = rule_over W.declarations n (each (metavariable_named W.declarations) ms) (entry_named W p)
item_over W (entry e) = tt
item_over W (shown p) = shown_over W.declarations (entry_named W p)

pub told_over : (W : Store) (items : List Item) → AreStatedOver W.declarations.rules (told_from W items)
told_over W [] = tt
told_over W (i ∷ items) = over_append W.declarations.rules (told_by_item W i) (told_from (add W i) items) (item_over W i) (subst (λ z. AreStatedOver z (told_from (add W i) items)) (item_tells W i) (told_over (add W i) items))

pub events_over : (T : List Rule) (es : List Event) → AreStatedOver T (map told_by_event es) → AreOver T es
events_over T [] h = tt
events_over T (accepts n R ∷ es) h = events_over (T ++ R ∷ []) es h
events_over T (shows W j ∷ es) h = (h.0, events_over T es h.1)
