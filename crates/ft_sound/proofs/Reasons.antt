-- An item is allowed exactly where there is no reason against it, and good lists keep the declarations and the store well formed.
use Rattle.std.proofs.Common.{◌≡◌, ℕ, ◌<◌, Bool, true, false, cond, nat_lt, ◌&&◌, not, Option, Some, None, List, [], ◌∷◌, length, refl, sym, ap, ap₂, ◌∙◌, subst}
use Rattle.std.proofs.lemmas.Bool.{ltb-true, lt-ltb, and_parts, and_from, not-true, not_from_false}
use Rattle.std.specs.Prelude.{option_map, option_and_then}
use Rattle.std.proofs.lemmas.Option.{same_Some}
use Rattle.ft_common.proofs.Booleans.{false_true}
use Rattle.ft_common.proofs.Options.{none_some}
use Rattle.ft_theory.specs.Statements.{is_type, Statement, plain}
use Rattle.ft_theory.specs.Steps.{Prim}
use Rattle.ft_items.specs.Sets.{Atom, is_within, same_set, metavariables_only}
use Rattle.ft_items.specs.Equal.{equal_statements, is_thesis, is_plain}
use Rattle.ft_items.specs.Item.{Name, Entry, Item, variable, metavariable, rule, entry, shown}
use Rattle.ft_items.specs.Store.{Assertion, Declared, Store, each, entry_named, metavariable_named, Resolved, resolve, add_variable, add_metavariable, add_rule, add, add_all, empty_store, Declarations}
use Rattle.ft_items.specs.Rows.{conclusion, result_set, atoms, differ, on_earlier, concludes_thesis}
use Rattle.ft_items.specs.Good.{Reject, Kind, Premise, Conclusion, Set, Named, Number, Many, Loose, unless, of_kind, same_truth, is_next, is_plain_type, is_new, reason_of_result, reason_of_entry, reason_of_variable, reason_of_metavariable, reason_of_rule, reason_of_shown, reason_in, given, AllowedVariable, AllowedMetavariable, AllowedRule, AllowedEntry, AllowedShown, AllowedIn, GoodAfter}
use Rattle.ft_sound.proofs.KindRows.{conclusion_kind}
use Rattle.ft_items.proofs.SetLemmas.{same_set_self}
use Rattle.ft_sound.proofs.EqualLemmas.{statement_self}
use Rattle.ft_sound.proofs.Valid.{WellFormedStore}
use Rattle.ft_sound.proofs.Steps.{resolved, all_declared}
use Rattle.ft_sound.proofs.Good.{StatesWhatItsStepGives, unless_none, as_given, add_entry, Grown, over, variable_grown, metavariable_grown, rule_grown}

-- allowed, by the tests
none_of : (b : Bool) (why : Reject) (next : Option Reject) → b ≡ true → next ≡ None → unless b why next ≡ None
none_of true why next h e = e
none_of false why next h e = false_true h

plain_type_thesis : (x : Statement) → is_plain_type x ≡ true → is_thesis x ≡ true
plain_type_thesis (plain (is_type A)) h = refl
plain_type_thesis x h = false_true h

variable_reason : (W : Store) (v p : ℕ) → AllowedVariable W v p → unless (is_next W.declarations.variables v) Number (reason_of_variable (entry_named W p)) ≡ None
variable_reason W v p h = none_of (is_next W.declarations.variables v) Number (reason_of_variable (entry_named W p)) h.0
    (ap reason_of_variable h.2 ∙ none_of (is_thesis h.1.statement) Kind (unless (is_plain_type h.1.statement) Premise None) (plain_type_thesis h.1.statement h.3) (none_of (is_plain_type h.1.statement) Premise None h.3 refl))

metavariable_reason : (W : Store) (p : ℕ) → AllowedMetavariable W p → reason_of_metavariable (entry_named W p) ≡ None
metavariable_reason W p h = ap reason_of_metavariable h.1 ∙ none_of (not (is_thesis h.0.statement)) Kind (unless (metavariables_only h.0.set) Loose None) (not_from_false (is_thesis h.0.statement) h.2) (none_of (metavariables_only h.0.set) Loose None h.3 refl)

rule_reason : (W : Store) (n : Name) (ms : List ℕ) (p : ℕ) → AllowedRule W n ms p → reason_in W (rule n ms p) ≡ None
rule_reason W n ms p h =
    let ds : List (ℕ × Declared) = h.2 in
    let a : Assertion = h.4 in
    none_of (is_new W.declarations.names n) Named (unless (nat_lt (length W.declarations.rules) 65536) Many (reason_of_rule (each (metavariable_named W.declarations) ms) (entry_named W p))) h.0
    (none_of (nat_lt (length W.declarations.rules) 65536) Many (reason_of_rule (each (metavariable_named W.declarations) ms) (entry_named W p)) (lt-ltb (length W.declarations.rules) 65536 h.1)
    (ap₂ reason_of_rule h.3 h.5
    ∙ none_of ((differ (atoms ds) && not (is_thesis a.statement)) && is_plain a.statement) Kind (unless (on_earlier [] ds && is_within a.set (atoms ds)) Loose None)
    (and_from (differ (atoms ds) && not (is_thesis a.statement)) (is_plain a.statement) (and_from (differ (atoms ds)) (not (is_thesis a.statement)) h.6 (not_from_false (is_thesis a.statement) h.7)) h.8)
    (none_of (on_earlier [] ds && is_within a.set (atoms ds)) Loose None (and_from (on_earlier [] ds) (is_within a.set (atoms ds)) h.9 h.10) refl)))

shown_reason : (W : Store) (p : ℕ) → AllowedShown W p → reason_of_shown (entry_named W p) ≡ None
shown_reason W p h = ap reason_of_shown h.1 ∙ none_of (is_thesis h.0.statement) Kind None h.2 refl

abbrev statement_of : Assertion → Statement
statement_of p = p.statement

abbrev set_of : Assertion → List Atom
set_of p = p.set

-- what a step gives, taken apart
allowed_states : (W : Store) (e : Entry) → AllowedEntry W e → StatesWhatItsStepGives W e
allowed_states W e h = go (resolve W e.step) refl h
  where
    E : Assertion
    E = record { statement = e.statement; set = e.set }

    concluded : (s : Resolved) → resolve W e.step ≡ Some s → of_kind s ≡ true → (o : Option Statement) → conclusion W.declarations s ≡ o → option_map (λ x. record { statement = x; set = result_set s }) o ≡ Some E → StatesWhatItsStepGives W e
    concluded s q k None c h = none_some h
    concluded s q k (Some x) c h =
        let i : record { statement = x; set = result_set s } ≡ E = same_Some (record { statement = x; set = result_set s }) E h in
        (s, q, k, c ∙ ap Some (ap statement_of i), ap set_of i)

    tested : (s : Resolved) → resolve W e.step ≡ Some s → (b : Bool) → of_kind s ≡ b → cond b (option_map (λ x. record { statement = x; set = result_set s }) (conclusion W.declarations s)) None ≡ Some E → StatesWhatItsStepGives W e
    tested s q true k h = concluded s q k (conclusion W.declarations s) refl h
    tested s q false k h = none_some h

    go : (o : Option Resolved) → resolve W e.step ≡ o → option_and_then (given W.declarations) o ≡ Some E → StatesWhatItsStepGives W e
    go None q h = none_some h
    go (Some s) q h = tested s q (of_kind s) refl h

states_allowed : (W : Store) (e : Entry) → StatesWhatItsStepGives W e → AllowedEntry W e
states_allowed W e h =
    ap (option_and_then (given W.declarations)) h.1
    ∙ ap (λ b. cond b (option_map (λ x. record { statement = x; set = result_set h.0 }) (conclusion W.declarations h.0)) None) h.2
    ∙ ap (option_map (λ x. record { statement = x; set = result_set h.0 })) h.3
    ∙ ap (λ S. Some (record { statement = e.statement; set = S })) h.4

kinds_agree : (a b : Bool) → b ≡ a → same_truth a b ≡ true
kinds_agree true b e = e
kinds_agree false b e = not_from_false b e

entry_reason : (W : Store) → WellFormedStore W → (e : Entry) → AllowedEntry W e → reason_in W (entry e) ≡ None
entry_reason W F e h =
    let g : StatesWhatItsStepGives W e = allowed_states W e h in
    ap (λ o. reason_of_entry W.declarations o e) g.1
    ∙ none_of (of_kind g.0 && same_truth (concludes_thesis g.0) (is_thesis e.statement)) Kind (reason_of_result (conclusion W.declarations g.0) (result_set g.0) e)
    (and_from (of_kind g.0) (same_truth (concludes_thesis g.0) (is_thesis e.statement)) g.2 (kinds_agree (concludes_thesis g.0) (is_thesis e.statement) (conclusion_kind W.declarations F.declarations g.0 (resolved W F e.step g.0 g.1) g.2 e.statement g.3)))
    (ap (λ o. reason_of_result o (result_set g.0) e) g.3
    ∙ none_of (equal_statements e.statement e.statement) Conclusion (unless (same_set (result_set g.0) e.set) Set None) (statement_self e.statement)
    (none_of (same_set (result_set g.0) e.set) Set None (subst (λ S. same_set S e.set ≡ true) (sym g.4) (same_set_self e.set)) refl))

pub no_reason : (W : Store) → WellFormedStore W → (i : Item) → AllowedIn W i → reason_in W i ≡ None
no_reason W F (variable v n p) h = variable_reason W v p h
no_reason W F (metavariable n p) h = metavariable_reason W p h
no_reason W F (rule n ms p) h = rule_reason W n ms p h
no_reason W F (entry e) h = entry_reason W F e h
no_reason W F (shown p) h = shown_reason W p h

-- and back
variable_allowed : (W : Store) (v p : ℕ) → unless (is_next W.declarations.variables v) Number (reason_of_variable (entry_named W p)) ≡ None → AllowedVariable W v p
variable_allowed W v p h = let k : (is_next W.declarations.variables v ≡ true) × (reason_of_variable (entry_named W p) ≡ None) = unless_none (is_next W.declarations.variables v) Number (reason_of_variable (entry_named W p)) h in go k.0 (entry_named W p) refl k.1
  where
    go : is_next W.declarations.variables v ≡ true → (o : Option Assertion) → entry_named W p ≡ o → reason_of_variable o ≡ None → AllowedVariable W v p
    go n None q h = none_some (sym h)
    go n (Some a) q h =
        let t : (is_thesis a.statement ≡ true) × (unless (is_plain_type a.statement) Premise None ≡ None) = unless_none (is_thesis a.statement) Kind (unless (is_plain_type a.statement) Premise None) h in
        (n, a, q, (unless_none (is_plain_type a.statement) Premise None t.1).0)

metavariable_allowed : (W : Store) (p : ℕ) → reason_of_metavariable (entry_named W p) ≡ None → AllowedMetavariable W p
metavariable_allowed W p h = go (entry_named W p) refl h
  where
    go : (o : Option Assertion) → entry_named W p ≡ o → reason_of_metavariable o ≡ None → AllowedMetavariable W p
    go None q h = none_some (sym h)
    go (Some a) q h =
        let t : (not (is_thesis a.statement) ≡ true) × (unless (metavariables_only a.set) Loose None ≡ None) = unless_none (not (is_thesis a.statement)) Kind (unless (metavariables_only a.set) Loose None) h in
        (a, q, not-true (is_thesis a.statement) t.0, (unless_none (metavariables_only a.set) Loose None t.1).0)

rule_allowed : (W : Store) (n : Name) (ms : List ℕ) (p : ℕ) → reason_in W (rule n ms p) ≡ None → AllowedRule W n ms p
rule_allowed W n ms p h =
    let j : (is_new W.declarations.names n ≡ true) × (unless (nat_lt (length W.declarations.rules) 65536) Many (reason_of_rule (each (metavariable_named W.declarations) ms) (entry_named W p)) ≡ None) = unless_none (is_new W.declarations.names n) Named (unless (nat_lt (length W.declarations.rules) 65536) Many (reason_of_rule (each (metavariable_named W.declarations) ms) (entry_named W p))) h in
    let k : (nat_lt (length W.declarations.rules) 65536 ≡ true) × (reason_of_rule (each (metavariable_named W.declarations) ms) (entry_named W p) ≡ None) = unless_none (nat_lt (length W.declarations.rules) 65536) Many (reason_of_rule (each (metavariable_named W.declarations) ms) (entry_named W p)) j.1 in
    go j.0 (ltb-true (length W.declarations.rules) 65536 k.0) (each (metavariable_named W.declarations) ms) refl (entry_named W p) refl k.1
  where
    go : is_new W.declarations.names n ≡ true → length W.declarations.rules < 65536 → (os : Option (List (ℕ × Declared))) → each (metavariable_named W.declarations) ms ≡ os → (o : Option Assertion) → entry_named W p ≡ o → reason_of_rule os o ≡ None → AllowedRule W n ms p
    go nn l None i o q h = none_some (sym h)
    go nn l (Some ds) i None q h = none_some (sym h)
    go nn l (Some ds) i (Some a) q h =
        let t : (((differ (atoms ds) && not (is_thesis a.statement)) && is_plain a.statement) ≡ true) × (unless (on_earlier [] ds && is_within a.set (atoms ds)) Loose None ≡ None) = unless_none ((differ (atoms ds) && not (is_thesis a.statement)) && is_plain a.statement) Kind (unless (on_earlier [] ds && is_within a.set (atoms ds)) Loose None) h in
        let t1 : ((differ (atoms ds) && not (is_thesis a.statement)) ≡ true) × (is_plain a.statement ≡ true) = and_parts (differ (atoms ds) && not (is_thesis a.statement)) (is_plain a.statement) t.0 in
        let t2 : (differ (atoms ds) ≡ true) × (not (is_thesis a.statement) ≡ true) = and_parts (differ (atoms ds)) (not (is_thesis a.statement)) t1.0 in
        let u1 : (on_earlier [] ds ≡ true) × (is_within a.set (atoms ds) ≡ true) = and_parts (on_earlier [] ds) (is_within a.set (atoms ds)) (unless_none (on_earlier [] ds && is_within a.set (atoms ds)) Loose None t.1).0 in
        (nn, l, ds, i, a, q, t2.0, not-true (is_thesis a.statement) t2.1, t1.1, u1.0, u1.1)

shown_allowed : (W : Store) (p : ℕ) → reason_of_shown (entry_named W p) ≡ None → AllowedShown W p
shown_allowed W p h = go (entry_named W p) refl h
  where
    go : (o : Option Assertion) → entry_named W p ≡ o → reason_of_shown o ≡ None → AllowedShown W p
    go None q h = none_some (sym h)
    go (Some a) q h = (a, q, (unless_none (is_thesis a.statement) Kind None h).0)

pub allowed : (W : Store) (i : Item) → reason_in W i ≡ None → AllowedIn W i
allowed W (variable v n p) h = variable_allowed W v p h
allowed W (metavariable n p) h = metavariable_allowed W p h
allowed W (rule n ms p) h = rule_allowed W n ms p h
allowed W (entry e) h = states_allowed W e (as_given W e h)
allowed W (shown p) h = shown_allowed W p h

pub well_formed_add : (W : Store) → WellFormedStore W → (i : Item) → AllowedIn W i → WellFormedStore (add W i)
well_formed_add W F (variable v n p) h =
    over W (add_variable W.declarations v n (entry_named W p)) F
    (subst (λ o. Grown W.declarations (add_variable W.declarations v n o)) (sym h.2) (variable_grown W.declarations F.declarations v n h.1 h.0 h.3 (F.entries p h.1 h.2)))
well_formed_add W F (metavariable n p) h =
    over W (add_metavariable W.declarations n (entry_named W p)) F
    (subst (λ o. Grown W.declarations (add_metavariable W.declarations n o)) (sym h.1) (metavariable_grown W.declarations F.declarations n h.0 h.2 h.3 (F.entries p h.0 h.1)))
well_formed_add W F (rule n ms p) h =
    let D : Declarations = W.declarations in
    over W (add_rule D n (each (metavariable_named D) ms) (entry_named W p)) F
    (subst (λ os. Grown D (add_rule D n os (entry_named W p))) (sym h.3)
    (subst (λ o. Grown D (add_rule D n (Some h.2) o)) (sym h.5)
    (rule_grown D F.declarations n h.2 h.4 (all_declared D F.declarations ms h.2 h.3) h.6 h.7 h.8 h.9 h.10 (F.entries p h.4 h.5).derivable)))
well_formed_add W F (entry e) h = add_entry W F e (entry_reason W F e h)
well_formed_add W F (shown p) h = F

pub well_formed_all : (W : Store) → WellFormedStore W → (items : List Item) → GoodAfter W items → WellFormedStore (add_all W items)
well_formed_all W F [] g = F
well_formed_all W F (i ∷ items) g = well_formed_all (add W i) (well_formed_add W F i g.0) items g.1

pub well_formed_empty : WellFormedStore empty_store
well_formed_empty = record { declarations = record { finitary = λ k. tt; metavariables = λ m d q. none_some q; variables = λ v d q. none_some q }; entries = λ p a q. none_some q }
