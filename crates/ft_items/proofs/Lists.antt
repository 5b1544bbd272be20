-- Good lists item by item, and the store of a good list in terms of the list's own items.
use Rattle.std.proofs.Common.{◌≡◌, ℕ, zero, suc, true, ◌<◌, ◌≤◌, length, get_or, arith, Option, Some, None, List, [], ◌∷◌, ◌++◌, refl, sym, ap, ap₂, ◌∙◌, append_assoc, append-nil}
use Rattle.std.specs.Prelude.{map, nat_lt, option_map, option_and_then}
use Rattle.std.proofs.lemmas.Bool.{ltb-true, and_parts}
use Rattle.ft_common.proofs.Options.{none_some}
use Rattle.ft_common.proofs.Choices.{if_same, if_other}
use Rattle.ft_theory.specs.Rules.{look_up, Rule, rule_at}
use Rattle.ft_items.specs.Item.{Name, Item, variable, metavariable, rule, entry, shown}
use Rattle.ft_items.specs.Store.{Assertion, Annotation, Declared, Declarations, Store, nth, each, entry_named, metavariable_named, add_variable, add_metavariable, add_rule, add, add_all, empty_store, store_of, declared_by, entries_in, variables_in, metavariables_in, rules_in, annotated, declared, ruled}
use Rattle.ft_items.specs.Good.{is_next, AllowedIn, GoodAfter, Good}

-- what stands at a place of a list
pub nth_before : {A : Type 0} (xs ys : List A) (n : ℕ) (x : A) → nth xs n ≡ Some x → nth (xs ++ ys) n ≡ Some x
nth_before [] ys n x e = none_some e
nth_before (y ∷ xs) ys zero x e = e
nth_before (y ∷ xs) ys (suc n) x e = nth_before xs ys n x e

pub nth_within : {A : Type 0} (xs : List A) (n : ℕ) (x : A) → nth xs n ≡ Some x → n < length xs
nth_within [] n x h = none_some h
nth_within (y ∷ xs) zero x h = omega arith
nth_within (y ∷ xs) (suc n) x h = omega (arith, nth_within xs n x h)

pub nth_there : {A : Type 0} (xs : List A) (n : ℕ) (d : A) → n < length xs → nth xs n ≡ Some (get_or xs n d)
nth_there [] n d h = absurd (omega (arith, h))
nth_there (y ∷ xs) zero d h = refl
nth_there (y ∷ xs) (suc n) d h = nth_there xs n d (omega (arith, h))

pub nth_found : {A : Type 0} (xs : List A) (n : ℕ) → n < length xs → (x : A) × (nth xs n ≡ Some x)
nth_found [] n h = absurd (omega (arith, h))
nth_found (y ∷ xs) zero h = (y, refl)
nth_found (y ∷ xs) (suc n) h = nth_found xs n (omega (arith, h))

pub nth_past : {A : Type 0} (xs : List A) (n : ℕ) → length xs ≤ n → nth xs n ≡ None
nth_past [] n h = refl
nth_past (y ∷ xs) zero h = absurd (omega (arith, h))
nth_past (y ∷ xs) (suc n) h = nth_past xs n (omega (arith, h))

pub nth_end : {A : Type 0} (xs : List A) (x : A) → nth (xs ++ x ∷ []) (length xs) ≡ Some x
nth_end [] x = refl
nth_end (y ∷ xs) x = nth_end xs x

pub rule_end : (T : List Rule) (R : Rule) → rule_at (T ++ (R ∷ [])) (length T) ≡ Some R
rule_end [] R = refl
rule_end (S ∷ T) R = rule_end T R

-- the last variable, whose number is greater than those of the others
pub look_new : (G : List (ℕ × Annotation)) (v : ℕ) (d : Annotation) → is_next G v ≡ true → look_up (G ++ ((v, d) ∷ [])) v ≡ Some d
look_new [] v d h = if_same v v (Some d) None refl
look_new (p ∷ G) v d h =
    let k : (nat_lt p.0 v ≡ true) × (is_next G v ≡ true) = and_parts (nat_lt p.0 v) (is_next G v) h in
    let below : p.0 < v = ltb-true p.0 v k.0 in
    if_other v p.0 (Some p.1) (look_up (G ++ ((v, d) ∷ [])) v) (λ e. omega (arith, below, e)) ∙ look_new G v d k.1

-- a list and one more item
pub store_append : (W : Store) (items more : List Item) → add_all W (items ++ more) ≡ add_all (add_all W items) more
store_append W [] more = refl
store_append W (i ∷ items) more = store_append (add W i) items more

pub store_last : (W : Store) (items : List Item) (i : Item) → add_all W (items ++ (i ∷ [])) ≡ add (add_all W items) i
store_last W items i = store_append W items (i ∷ [])

pub declared_last : (items : List Item) (i : Item) → declared_by (items ++ (i ∷ [])) ≡ (add (store_of items) i).declarations
declared_last items i = ap (λ (W : Store). W.declarations) (store_last empty_store items i)

pub good_last : (W : Store) (items : List Item) (i : Item) → GoodAfter W items → AllowedIn (add_all W items) i → GoodAfter W (items ++ (i ∷ []))
good_last W [] i g h = (h, tt)
good_last W (j ∷ items) i g h = (g.0, good_last (add W j) items i g.1 h)

pub good_split : (W : Store) (before : List Item) (i : Item) (after : List Item) → GoodAfter W (before ++ (i ∷ after)) → GoodAfter W before × AllowedIn (add_all W before) i
good_split W [] i after g = (tt, g.0)
good_split W (j ∷ before) i after g = let r : GoodAfter (add W j) before × AllowedIn (add_all (add W j) before) i = good_split (add W j) before i after g.1 in ((g.0, r.0), r.1)

-- the entries of the store are those of the list, good or not
pub entries_all : (W : Store) (items : List Item) → (add_all W items).entries ≡ W.entries ++ entries_in items
entries_all W [] = sym (append-nil W.entries)
entries_all W (variable v n p ∷ items) = entries_all (add W (variable v n p)) items
entries_all W (metavariable n p ∷ items) = entries_all (add W (metavariable n p)) items
entries_all W (rule n ms p ∷ items) = entries_all (add W (rule n ms p)) items
entries_all W (entry e ∷ items) = entries_all (add W (entry e)) items ∙ append_assoc W.entries (record { statement = e.statement; set = e.set } ∷ []) (entries_in items)
entries_all W (shown p ∷ items) = entries_all W items

-- what is there stays there
pub record Before (W X : Store) : Type 0 where
  pub entries : (p : ℕ) (a : Assertion) → nth W.entries p ≡ Some a → nth X.entries p ≡ Some a
  pub metavariables : (m : ℕ) (d : Declared) → nth W.declarations.metavariables m ≡ Some d → nth X.declarations.metavariables m ≡ Some d

-- the metavariables of the one stand in the other
abbrev pub Kept : Declarations → Declarations → Type 0
Kept W X = (m : ℕ) (d : Declared) → nth W.metavariables m ≡ Some d → nth X.metavariables m ≡ Some d

kept_variable : (W : Declarations) (v : ℕ) (n : Name) (o : Option Assertion) → Kept W (add_variable W v n o)
kept_variable W v n None m d q = q
kept_variable W v n (Some a) m d q = q

kept_metavariable : (W : Declarations) (n : Name) (o : Option Assertion) → Kept W (add_metavariable W n o)
kept_metavariable W n None m d q = q
kept_metavariable W n (Some a) m d q = nth_before W.metavariables (record { name = n; boundary = a.statement; set = a.set } ∷ []) m d q

kept_rule : (W : Declarations) (n : Name) (os : Option (List (ℕ × Declared))) (o : Option Assertion) → Kept W (add_rule W n os o)
kept_rule W n None o m d q = q
kept_rule W n (Some ds) None m d q = q
kept_rule W n (Some ds) (Some a) m d q = q

pub before_add : (W : Store) (i : Item) → Before W (add W i)
before_add W (variable v n p) = record { entries = λ q a e. e; metavariables = kept_variable W.declarations v n (entry_named W p) }
before_add W (metavariable n p) = record { entries = λ q a e. e; metavariables = kept_metavariable W.declarations n (entry_named W p) }
before_add W (rule n ms p) = record { entries = λ q a e. e; metavariables = kept_rule W.declarations n (each (metavariable_named W.declarations) ms) (entry_named W p) }
before_add W (entry e) = record { entries = λ p a q. nth_before W.entries (record { statement = e.statement; set = e.set } ∷ []) p a q; metavariables = λ m d q. q }
before_add W (shown p) = record { entries = λ p a q. q; metavariables = λ m d q. q }

before_then : (W X Y : Store) → Before W X → Before X Y → Before W Y
before_then W X Y f g = record { entries = λ p a q. g.entries p a (f.entries p a q); metavariables = λ m d q. g.metavariables m d (f.metavariables m d q) }

pub before_all : (W : Store) (items : List Item) → Before W (add_all W items)
before_all W [] = record { entries = λ p a q. q; metavariables = λ m d q. q }
before_all W (i ∷ items) = before_then W (add W i) (add_all (add W i) items) (before_add W i) (before_all (add W i) items)

pub each_before : (W X : Declarations) → Kept W X → (ms : List ℕ) (ds : List (ℕ × Declared)) → each (metavariable_named W) ms ≡ Some ds → each (metavariable_named X) ms ≡ Some ds
each_before W X b [] ds e = e
each_before W X b (m ∷ ms) ds e = go (nth W.metavariables m) refl (each (metavariable_named W) ms) refl e (each_before W X b ms)
  where
    go : (o : Option Declared) → nth W.metavariables m ≡ o → (os : Option (List (ℕ × Declared))) → each (metavariable_named W) ms ≡ os
        → option_and_then (λ d. option_map (λ ds. d ∷ ds) os) (option_map (λ d. (m, d)) o) ≡ Some ds
        → ((ds : List (ℕ × Declared)) → each (metavariable_named W) ms ≡ Some ds → each (metavariable_named X) ms ≡ Some ds)
        → each (metavariable_named X) (m ∷ ms) ≡ Some ds
    go None q os r e ih = none_some e
    go (Some d) q None r e ih = none_some e
    go (Some d) q (Some as') r e ih =
        ap (λ o. option_and_then (λ d. option_map (λ ds. d ∷ ds) (each (metavariable_named X) ms)) (option_map (λ d. (m, d)) o)) (b m d q)
        ∙ ap (option_map (λ ds. (m, d) ∷ ds)) (ih as' r)
        ∙ e

pub annotated_number : (x : ℕ × Name × ℕ) (o : Option Assertion) → (annotated x o).0 ≡ x.0
annotated_number x None = refl
annotated_number x (Some a) = refl

-- what the items of two lists, one after the other, add
pub entries_append : (xs ys : List Item) → entries_in (xs ++ ys) ≡ entries_in xs ++ entries_in ys
entries_append [] ys = refl
entries_append (variable v n p ∷ xs) ys = entries_append xs ys
entries_append (metavariable n p ∷ xs) ys = entries_append xs ys
entries_append (rule n ms p ∷ xs) ys = entries_append xs ys
entries_append (entry e ∷ xs) ys = ap (λ es. record { statement = e.statement; set = e.set } ∷ es) (entries_append xs ys)
entries_append (shown p ∷ xs) ys = entries_append xs ys

pub metavariables_append : (xs ys : List Item) → metavariables_in (xs ++ ys) ≡ metavariables_in xs ++ metavariables_in ys
metavariables_append [] ys = refl
metavariables_append (variable v n p ∷ xs) ys = metavariables_append xs ys
metavariables_append (metavariable n p ∷ xs) ys = ap (λ ms. (n, p) ∷ ms) (metavariables_append xs ys)
metavariables_append (rule n ms p ∷ xs) ys = metavariables_append xs ys
metavariables_append (entry e ∷ xs) ys = metavariables_append xs ys
metavariables_append (shown p ∷ xs) ys = metavariables_append xs ys

-- one more in front of what the rest adds
moved_in : {A : Type 0} (xs ys zs rest : List A) (x : A) → zs ≡ xs ++ (x ∷ []) → ys ≡ zs ++ rest → ys ≡ xs ++ (x ∷ rest)
moved_in xs ys zs rest x e f = f ∙ ap (λ z. z ++ rest) e ∙ append_assoc xs (x ∷ []) rest

unmoved : {A : Type 0} (xs ys zs rest : List A) → zs ≡ xs → ys ≡ zs ++ rest → ys ≡ xs ++ rest
unmoved xs ys zs rest e f = f ∙ ap (λ z. z ++ rest) e

-- the variables, each with the type and the set that its entry has in the whole list
abbrev annotated_in : Store → ℕ × Name × ℕ → ℕ × Annotation
annotated_in X x = annotated x (nth X.entries x.2)

metavariable_variables : (W : Declarations) (n : Name) (o : Option Assertion) → (add_metavariable W n o).variables ≡ W.variables
metavariable_variables W n None = refl
metavariable_variables W n (Some a) = refl

rule_variables : (W : Declarations) (n : Name) (os : Option (List (ℕ × Declared))) (o : Option Assertion) → (add_rule W n os o).variables ≡ W.variables
rule_variables W n None o = refl
rule_variables W n (Some ds) None = refl
rule_variables W n (Some ds) (Some a) = refl

variables_all : (W X : Store) (items : List Item) → GoodAfter W items → Before (add_all W items) X → (add_all W items).declarations.variables ≡ W.declarations.variables ++ map (annotated_in X) (variables_in items)
variables_all W X [] g b = sym (append-nil W.declarations.variables)
variables_all W X (variable v n p ∷ items) g b =
    let a : Assertion = g.0.1 in
    moved_in W.declarations.variables (add_all (add W (variable v n p)) items).declarations.variables (add W (variable v n p)).declarations.variables (map (annotated_in X) (variables_in items)) (annotated_in X (v, n, p))
    (ap (λ o. (add_variable W.declarations v n o).variables) g.0.2
    ∙ ap (λ o. W.declarations.variables ++ (annotated (v, n, p) o ∷ [])) (sym (b.entries p a ((before_all (add W (variable v n p)) items).entries p a ((before_add W (variable v n p)).entries p a g.0.2)))))
    (variables_all (add W (variable v n p)) X items g.1 b)
variables_all W X (metavariable n p ∷ items) g b = unmoved W.declarations.variables (add_all (add W (metavariable n p)) items).declarations.variables (add W (metavariable n p)).declarations.variables (map (annotated_in X) (variables_in items)) (metavariable_variables W.declarations n (entry_named W p)) (variables_all (add W (metavariable n p)) X items g.1 b)
variables_all W X (rule n ms p ∷ items) g b = unmoved W.declarations.variables (add_all (add W (rule n ms p)) items).declarations.variables (add W (rule n ms p)).declarations.variables (map (annotated_in X) (variables_in items)) (rule_variables W.declarations n (each (metavariable_named W.declarations) ms) (entry_named W p)) (variables_all (add W (rule n ms p)) X items g.1 b)
variables_all W X (entry e ∷ items) g b = variables_all (add W (entry e)) X items g.1 b
variables_all W X (shown p ∷ items) g b = variables_all W X items g.1 b

-- the metavariables, likewise
abbrev declared_in : Store → Name × ℕ → Declared
declared_in X x = declared x (nth X.entries x.1)

pub variable_metavariables : (W : Declarations) (v : ℕ) (n : Name) (o : Option Assertion) → (add_variable W v n o).metavariables ≡ W.metavariables
variable_metavariables W v n None = refl
variable_metavariables W v n (Some a) = refl

pub rule_metavariables : (W : Declarations) (n : Name) (os : Option (List (ℕ × Declared))) (o : Option Assertion) → (add_rule W n os o).metavariables ≡ W.metavariables
rule_metavariables W n None o = refl
rule_metavariables W n (Some ds) None = refl
rule_metavariables W n (Some ds) (Some a) = refl

metavariables_all : (W X : Store) (items : List Item) → GoodAfter W items → Before (add_all W items) X → (add_all W items).declarations.metavariables ≡ W.declarations.metavariables ++ map (declared_in X) (metavariables_in items)
metavariables_all W X [] g b = sym (append-nil W.declarations.metavariables)
metavariables_all W X (metavariable n p ∷ items) g b =
    let a : Assertion = g.0.0 in
    moved_in W.declarations.metavariables (add_all (add W (metavariable n p)) items).declarations.metavariables (add W (metavariable n p)).declarations.metavariables (map (declared_in X) (metavariables_in items)) (declared_in X (n, p))
    (ap (λ o. (add_metavariable W.declarations n o).metavariables) g.0.1
    ∙ ap (λ o. W.declarations.metavariables ++ (declared (n, p) o ∷ [])) (sym (b.entries p a ((before_all (add W (metavariable n p)) items).entries p a ((before_add W (metavariable n p)).entries p a g.0.1)))))
    (metavariables_all (add W (metavariable n p)) X items g.1 b)
metavariables_all W X (variable v n p ∷ items) g b = unmoved W.declarations.metavariables (add_all (add W (variable v n p)) items).declarations.metavariables (add W (variable v n p)).declarations.metavariables (map (declared_in X) (metavariables_in items)) (variable_metavariables W.declarations v n (entry_named W p)) (metavariables_all (add W (variable v n p)) X items g.1 b)
metavariables_all W X (rule n ms p ∷ items) g b = unmoved W.declarations.metavariables (add_all (add W (rule n ms p)) items).declarations.metavariables (add W (rule n ms p)).declarations.metavariables (map (declared_in X) (metavariables_in items)) (rule_metavariables W.declarations n (each (metavariable_named W.declarations) ms) (entry_named W p)) (metavariables_all (add W (rule n ms p)) X items g.1 b)
metavariables_all W X (entry e ∷ items) g b = metavariables_all (add W (entry e)) X items g.1 b
metavariables_all W X (shown p ∷ items) g b = metavariables_all W X items g.1 b

-- the rules, likewise
abbrev ruled_in : Store → Name × List ℕ × ℕ → Rule
ruled_in X x = ruled (each (metavariable_named X.declarations) x.1) (nth X.entries x.2)

variable_rules : (W : Declarations) (v : ℕ) (n : Name) (o : Option Assertion) → (add_variable W v n o).rules ≡ W.rules
variable_rules W v n None = refl
variable_rules W v n (Some a) = refl

metavariable_rules : (W : Declarations) (n : Name) (o : Option Assertion) → (add_metavariable W n o).rules ≡ W.rules
metavariable_rules W n None = refl
metavariable_rules W n (Some a) = refl

rules_all : (W X : Store) (items : List Item) → GoodAfter W items → Before (add_all W items) X → (add_all W items).declarations.rules ≡ W.declarations.rules ++ map (ruled_in X) (rules_in items)
rules_all W X [] g b = sym (append-nil W.declarations.rules)
rules_all W X (rule n ms p ∷ items) g b =
    let ds : List (ℕ × Declared) = g.0.2 in
    let a : Assertion = g.0.4 in
    let c : Before W X = before_then W (add W (rule n ms p)) X (before_add W (rule n ms p)) (before_then (add W (rule n ms p)) (add_all (add W (rule n ms p)) items) X (before_all (add W (rule n ms p)) items) b) in
    moved_in W.declarations.rules (add_all (add W (rule n ms p)) items).declarations.rules (add W (rule n ms p)).declarations.rules (map (ruled_in X) (rules_in items)) (ruled_in X (n, ms, p))
    (ap₂ (λ os o. (add_rule W.declarations n os o).rules) g.0.3 g.0.5
    ∙ ap₂ (λ os o. W.declarations.rules ++ (ruled os o ∷ [])) (sym (each_before W.declarations X.declarations c.metavariables ms ds g.0.3)) (sym (c.entries p a g.0.5)))
    (rules_all (add W (rule n ms p)) X items g.1 b)
rules_all W X (variable v n p ∷ items) g b = unmoved W.declarations.rules (add_all (add W (variable v n p)) items).declarations.rules (add W (variable v n p)).declarations.rules (map (ruled_in X) (rules_in items)) (variable_rules W.declarations v n (entry_named W p)) (rules_all (add W (variable v n p)) X items g.1 b)
rules_all W X (metavariable n p ∷ items) g b = unmoved W.declarations.rules (add_all (add W (metavariable n p)) items).declarations.rules (add W (metavariable n p)).declarations.rules (map (ruled_in X) (rules_in items)) (metavariable_rules W.declarations n (entry_named W p)) (rules_all (add W (metavariable n p)) X items g.1 b)
rules_all W X (entry e ∷ items) g b = rules_all (add W (entry e)) X items g.1 b
rules_all W X (shown p ∷ items) g b = rules_all W X items g.1 b

-- the names of the rules
variable_names : (W : Declarations) (v : ℕ) (n : Name) (o : Option Assertion) → (add_variable W v n o).names ≡ W.names
variable_names W v n None = refl
variable_names W v n (Some a) = refl

metavariable_names : (W : Declarations) (n : Name) (o : Option Assertion) → (add_metavariable W n o).names ≡ W.names
metavariable_names W n None = refl
metavariable_names W n (Some a) = refl

abbrev name_of : Name × List ℕ × ℕ → Name
name_of x = x.0

names_all : (W : Store) (items : List Item) → GoodAfter W items → (add_all W items).declarations.names ≡ W.declarations.names ++ map name_of (rules_in items)
names_all W [] g = sym (append-nil W.declarations.names)
names_all W (rule n ms p ∷ items) g =
    moved_in W.declarations.names (add_all (add W (rule n ms p)) items).declarations.names (add W (rule n ms p)).declarations.names (map name_of (rules_in items)) n
    (ap₂ (λ os o. (add_rule W.declarations n os o).names) g.0.3 g.0.5)
    (names_all (add W (rule n ms p)) items g.1)
names_all W (variable v n p ∷ items) g = unmoved W.declarations.names (add_all (add W (variable v n p)) items).declarations.names (add W (variable v n p)).declarations.names (map name_of (rules_in items)) (variable_names W.declarations v n (entry_named W p)) (names_all (add W (variable v n p)) items g.1)
names_all W (metavariable n p ∷ items) g = unmoved W.declarations.names (add_all (add W (metavariable n p)) items).declarations.names (add W (metavariable n p)).declarations.names (map name_of (rules_in items)) (metavariable_names W.declarations n (entry_named W p)) (names_all (add W (metavariable n p)) items g.1)
names_all W (entry e ∷ items) g = names_all (add W (entry e)) items g.1
names_all W (shown p ∷ items) g = names_all W items g.1

-- the store of a good list, by the list's own items
pub record StoreIs (items : List Item) : Type 0 where
  pub entries : (store_of items).entries ≡ entries_in items
  pub variables : (declared_by items).variables ≡ map (λ (x : ℕ × Name × ℕ). annotated x (nth (entries_in items) x.2)) (variables_in items)
  pub metavariables : (declared_by items).metavariables ≡ map (λ (x : Name × ℕ). declared x (nth (entries_in items) x.1)) (metavariables_in items)
  pub names : (declared_by items).names ≡ map (λ (x : Name × List ℕ × ℕ). x.0) (rules_in items)
  pub rules : (declared_by items).rules ≡ map (λ (x : Name × List ℕ × ℕ). ruled (each (metavariable_named (declared_by items)) x.1) (nth (entries_in items) x.2)) (rules_in items)

pub store_is : (items : List Item) → Good items → StoreIs items
store_is items g =
    let X : Store = store_of items in
    let b : Before X X = record { entries = λ p a q. q; metavariables = λ m d q. q } in
    let e : X.entries ≡ entries_in items = entries_all empty_store items in
    record {
      entries = e;
      variables = variables_all empty_store X items g b ∙ ap (λ es. map (λ (x : ℕ × Name × ℕ). annotated x (nth es x.2)) (variables_in items)) e;
      metavariables = metavariables_all empty_store X items g b ∙ ap (λ es. map (λ (x : Name × ℕ). declared x (nth es x.1)) (metavariables_in items)) e;
      names = names_all empty_store items g;
      rules = rules_all empty_store X items g b ∙ ap (λ es. map (λ (x : Name × List ℕ × ℕ). ruled (each (metavariable_named (declared_by items)) x.1) (nth es x.2)) (rules_in items)) e;
    }
