-- What a derivation of a run shows is derivable.
use Rattle.std.proofs.Common.{◌≡◌, ◌∙◌, sym, ap, refl, subst, ℕ, zero, suc, ◌⊎◌, List, [], ◌∷◌, ◌++◌, Option, Some, None, append_assoc, inl, inr}
use Rattle.ft_theory.specs.Statements.{Statement, plain}
use Rattle.ft_theory.specs.Rules.{Rule}
use Rattle.ft_theory.specs.Steps.{Prim}
use Rattle.ft_laws.proofs.DerivationLaws.{law_longer_theory_primitive}
use Rattle.ft_items.specs.Item.{Name, Item, Entry, variable, metavariable, rule, entry, shown}
use Rattle.ft_items.specs.Store.{Assertion, Declared, Store, Derivable, nth, each, entry_named, metavariable_named, add_variable, add_metavariable, add_rule, add, add_all, empty_store, Declarations}
use Rattle.ft_items.specs.Good.{Good}
use Rattle.ft_sound.specs.Soundness.{EachEntry, EntriesDerivable}
use Rattle.ft_applications_meaning.specs.Building.{theory}
use Rattle.ft_applications_meaning.specs.Events.{Event, accepts, repeats, shows, run_of}
use Rattle.ft_applications_meaning.specs.Histories.{Told, declares, states, told_rule, told_shown, told_by, told_from, told_in, IsDerivationOf}
use Rattle.ft_applications_meaning.specs.Transcript.{AllDerivable, theses, shown_in}

-- what an entry that rests on nothing asserts is derivable over the rules
abbrev Holds : List Rule → Assertion → Type 0
Holds T a = a.set ≡ [] → Prim T [] [] a.statement

-- so is each of them
abbrev AllHold : List Rule → List Assertion → Type 0
AllHold T [] = Unit {0}
AllHold T (a ∷ as') = Holds T a × AllHold T as'

hold_named : (T : List Rule) (as' : List Assertion) (p : ℕ) (a : Assertion) → AllHold T as' → nth as' p ≡ Some a → Holds T a
hold_named T [] p a h e = cc
hold_named T (b ∷ as') zero a h e = let same : b ≡ a = cc in subst (Holds T) same h.0
hold_named T (b ∷ as') (suc p) a h e = hold_named T as' p a h.1 e

hold_one_more : (T : List Rule) (as' : List Assertion) (a : Assertion) → AllHold T as' → Holds T a → AllHold T (as' ++ a ∷ [])
hold_one_more T [] a h k = (k, tt)
hold_one_more T (b ∷ as') a h k = (h.0, hold_one_more T as' a h.1 k)

hold_longer : (T U : List Rule) (as' : List Assertion) → AllHold T as' → AllHold (T ++ U) as'
hold_longer T U [] h = tt
hold_longer T U (a ∷ as') h = (λ e. law_longer_theory_primitive T U [] [] a.statement (h.0 e), hold_longer T U as' h.1)

-- an entry that is derivable in its sequent
held : (W : Declarations) (e : Entry) → Derivable W e.statement e.set → Holds W.rules (record { statement = e.statement; set = e.set })
held W e d same = subst (λ S. Derivable W e.statement S) same d

-- each entry is derivable over what is before it
abbrev EachAfter : Store → List Item → Type 0
EachAfter W [] = Unit {0}
EachAfter W (variable v n p ∷ items) = EachAfter (add W (variable v n p)) items
EachAfter W (metavariable n p ∷ items) = EachAfter (add W (metavariable n p)) items
EachAfter W (rule n ms p ∷ items) = EachAfter (add W (rule n ms p)) items
EachAfter W (entry e ∷ items) = Derivable W.declarations e.statement e.set × EachAfter (add W (entry e)) items
EachAfter W (shown p ∷ items) = EachAfter (add W (shown p)) items

each_from : (W : Store) (items : List Item) → ((front after : List Item) (e : Entry) → items ≡ front ++ (entry e ∷ after) → Derivable (add_all W front).declarations e.statement e.set) → EachAfter W items
each_from W [] h = tt
each_from W (variable v n p ∷ items) h = each_from (add W (variable v n p)) items (λ front after e k. h (variable v n p ∷ front) after e (ap (λ js. variable v n p ∷ js) k))
each_from W (metavariable n p ∷ items) h = each_from (add W (metavariable n p)) items (λ front after e k. h (metavariable n p ∷ front) after e (ap (λ js. metavariable n p ∷ js) k))
each_from W (rule n ms p ∷ items) h = each_from (add W (rule n ms p)) items (λ front after e k. h (rule n ms p ∷ front) after e (ap (λ js. rule n ms p ∷ js) k))
each_from W (entry d ∷ items) h = (h [] items d refl, each_from (add W (entry d)) items (λ front after e k. h (entry d ∷ front) after e (ap (λ js. entry d ∷ js) k)))
each_from W (shown p ∷ items) h = each_from (add W (shown p)) items (λ front after e k. h (shown p ∷ front) after e (ap (λ js. shown p ∷ js) k))

-- what is told to be stated, on nothing, is derivable
abbrev Stands : Told → Type 0
Stands (declares n R) = Unit {0}
Stands (states T x S) = S ≡ [] → Prim T [] [] x

abbrev AllStand : List Told → Type 0
AllStand [] = Unit {0}
AllStand (t ∷ ts) = Stands t × AllStand ts

stand_append : (ts us : List Told) → AllStand ts → AllStand us → AllStand (ts ++ us)
stand_append [] us h k = k
stand_append (t ∷ ts) us h k = (h.0, stand_append ts us h.1 k)

rule_stands : (n : Name) (ms : Option (List (ℕ × Declared))) (p : Option Assertion) → AllStand (told_rule n ms p)
rule_stands n None p = tt
rule_stands n (Some ms) None = tt
rule_stands n (Some ms) (Some p) = (tt, tt)

shown_stands : (T : List Rule) (o : Option Assertion) → ((a : Assertion) → o ≡ Some a → Holds T a) → AllStand (told_shown T o)
shown_stands T None h = tt
shown_stands T (Some a) h = (h a refl, tt)

after_variable : (W : Declarations) (es : List Assertion) (v : ℕ) (n : Name) (o : Option Assertion) → AllHold W.rules es → AllHold (add_variable W v n o).rules es
after_variable W es v n None h = h
after_variable W es v n (Some a) h = h

after_metavariable : (W : Declarations) (es : List Assertion) (n : Name) (o : Option Assertion) → AllHold W.rules es → AllHold (add_metavariable W n o).rules es
after_metavariable W es n None h = h
after_metavariable W es n (Some a) h = h

after_rule : (W : Declarations) (es : List Assertion) (n : Name) (os : Option (List (ℕ × Declared))) (o : Option Assertion) → AllHold W.rules es → AllHold (add_rule W n os o).rules es
after_rule W es n None o h = h
after_rule W es n (Some ms) None h = h
after_rule W es n (Some ms) (Some a) h = hold_longer W.rules _ es h

told_stand : (W : Store) (items : List Item) → AllHold W.declarations.rules W.entries → EachAfter W items → AllStand (told_from W items)
told_stand W [] h d = tt
told_stand W (variable v n p ∷ items) h d = told_stand (add W (variable v n p)) items (after_variable W.declarations W.entries v n (entry_named W p) h) d
told_stand W (metavariable n p ∷ items) h d = told_stand (add W (metavariable n p)) items (after_metavariable W.declarations W.entries n (entry_named W p) h) d
told_stand W (rule n ms p ∷ items) h d =
    stand_append (told_by W (rule n ms p)) (told_from (add W (rule n ms p)) items) (rule_stands n (each (metavariable_named W.declarations) ms) (entry_named W p))
    (told_stand (add W (rule n ms p)) items (after_rule W.declarations W.entries n (each (metavariable_named W.declarations) ms) (entry_named W p) h) d)
told_stand W (entry e ∷ items) h d = told_stand (add W (entry e)) items (hold_one_more W.declarations.rules W.entries _ h (held W.declarations e d.0)) d.1
told_stand W (shown p ∷ items) h d =
    stand_append (told_by W (shown p)) (told_from (add W (shown p)) items) (shown_stands W.declarations.rules (entry_named W p) (λ a e. hold_named W.declarations.rules W.entries p a h e))
    (told_stand (add W (shown p)) items h d)

told_derivable : (es : List Event) → AllStand (told_in es) → AllDerivable (theses es)
told_derivable [] h = tt
told_derivable (accepts d ∷ es) h = told_derivable es h.1
told_derivable (repeats n ∷ es) h = told_derivable es h
told_derivable (shows ds c ∷ es) h = (h.0 refl, told_derivable es h.1)

-- what a run shows is derivable, where it has a derivation
pub shown_derivable : EntriesDerivable → (items : List Item) (es : List Event) → IsDerivationOf items es → AllDerivable (shown_in es)
shown_derivable derivable items es d =
    told_derivable (run_of es) (subst AllStand d.tells (told_stand empty_store items tt (each_from empty_store items (λ front after e k. derivable items d.good front after e k))))
