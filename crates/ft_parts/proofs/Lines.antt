-- The rules and the metavariables of a good list, by their lines.
use Rattle.std.proofs.Common.{◌≡◌, ◌∙◌, ℕ, zero, suc, ◌<◌, ◌≤◌, true, false, Option, Some, None, List, [], ◌∷◌, length, map, refl, sym, ap, ap₂, subst, arith}
use Rattle.std.specs.Prelude.{option_map, option_and_then}
use Rattle.std.proofs.lemmas.Option.{same_Some}
use Rattle.ft_common.proofs.Options.{none_some}
use Rattle.ft_theory.specs.Rules.{Rule, rule_at}
use Rattle.ft_items.specs.Item.{Name, Item, variable, metavariable, rule, entry, shown}
use Rattle.ft_items.specs.Equal.{is_thesis, is_plain}
use Rattle.ft_items.specs.Store.{Assertion, Declared, Store, premises_of, declared, declared_metavariable, declared_rule, ruled, nth, each, entry_named, metavariable_named, add, add_all, empty_store, store_of, declared_by, Declarations, entries_in, metavariables_in, rules_in}
use Rattle.ft_items.specs.Good.{AllowedRule, GoodAfter, Good}
use Rattle.ft_items.proofs.Lists.{Before, before_all, each_before, store_is, entries_all}
use Rattle.ft_kernel.specs.State.{State, entry_at, IsBoundaryOf}
use Rattle.ft_parts.proofs.Pairing.{numbers_of}

-- A rule that is declared has metavariables that are declared, and a plain boundary for its conclusion.
record Ruled (X : Store) (ms : List ℕ) (p : ℕ) : Type 0 where
  premises : List (ℕ × Declared)
  are : each (metavariable_named X.declarations) ms ≡ Some premises
  conclusion : Assertion
  is : entry_named X p ≡ Some conclusion
  boundary : is_thesis conclusion.statement ≡ false
  plain : is_plain conclusion.statement ≡ true

ruled_stays : (W X : Store) (ms : List ℕ) (p : ℕ) (n : Name) → Before W X → AllowedRule W n ms p → Ruled X ms p
ruled_stays W X ms p n b h = record { premises = h.2; are = each_before W.declarations X.declarations b.metavariables ms h.2 h.3; conclusion = h.4; is = b.entries p h.4 h.5; boundary = h.7; plain = h.8 }

rule_line : (W : Store) (items : List Item) (r : ℕ) (x : Name × List ℕ × ℕ) → GoodAfter W items → nth (rules_in items) r ≡ Some x → Ruled (add_all W items) x.1 x.2
rule_line W [] r x g h = none_some h
rule_line W (rule n ms p ∷ items) zero x g h =
    let same : (n, ms, p) ≡ x = same_Some (n, ms, p) x h in
    subst (λ (y : Name × List ℕ × ℕ). Ruled (add_all W (rule n ms p ∷ items)) y.1 y.2) same (ruled_stays W (add_all W (rule n ms p ∷ items)) ms p n (before_all W (rule n ms p ∷ items)) g.0)
rule_line W (rule n ms p ∷ items) (suc r) x g h = rule_line (add W (rule n ms p)) items r x g.1 h
rule_line W (variable v n p ∷ items) r x g h = rule_line (add W (variable v n p)) items r x g.1 h
rule_line W (metavariable n p ∷ items) r x g h = rule_line (add W (metavariable n p)) items r x g.1 h
rule_line W (entry e ∷ items) r x g h = rule_line (add W (entry e)) items r x g.1 h
rule_line W (shown p ∷ items) r x g h = rule_line (add W (shown p)) items r x g.1 h

-- The entry of a metavariable's boundary is there.
record Bounded (X : Store) (p : ℕ) : Type 0 where
  conclusion : Assertion
  is : entry_named X p ≡ Some conclusion
  boundary : is_thesis conclusion.statement ≡ false

metavariable_line : (W : Store) (items : List Item) (m : ℕ) (x : Name × ℕ) → GoodAfter W items → nth (metavariables_in items) m ≡ Some x → Bounded (add_all W items) x.1
metavariable_line W [] m x g h = none_some h
metavariable_line W (metavariable n p ∷ items) zero x g h =
    let same : (n, p) ≡ x = same_Some (n, p) x h in
    subst (λ (y : Name × ℕ). Bounded (add_all W (metavariable n p ∷ items)) y.1) same
    (record { conclusion = g.0.0; is = (before_all W (metavariable n p ∷ items)).entries p g.0.0 g.0.1; boundary = g.0.2 })
metavariable_line W (metavariable n p ∷ items) (suc m) x g h = metavariable_line (add W (metavariable n p)) items m x g.1 h
metavariable_line W (variable v n p ∷ items) m x g h = metavariable_line (add W (variable v n p)) items m x g.1 h
metavariable_line W (rule n ms p ∷ items) m x g h = metavariable_line (add W (rule n ms p)) items m x g.1 h
metavariable_line W (entry e ∷ items) m x g h = metavariable_line (add W (entry e)) items m x g.1 h
metavariable_line W (shown p ∷ items) m x g h = metavariable_line (add W (shown p)) items m x g.1 h

-- What the store has is what the list has.
nth_map : {A B : Type 0} (f : A → B) (xs : List A) (n : ℕ) → nth (map f xs) n ≡ option_map f (nth xs n)
nth_map f [] n = refl
nth_map f (x ∷ xs) zero = refl
nth_map f (x ∷ xs) (suc n) = nth_map f xs n

rule_at_nth : (rs : List Rule) (r : ℕ) → rule_at rs r ≡ nth rs r
rule_at_nth [] r = refl
rule_at_nth (R ∷ rs) zero = refl
rule_at_nth (R ∷ rs) (suc r) = rule_at_nth rs r

entries_same : (items : List Item) (p : ℕ) → entry_named (store_of items) p ≡ nth (entries_in items) p
entries_same items p = ap (λ es. nth es p) (entries_all empty_store items)

-- The declared rule of a number, with the metavariables of its premises and the entry of its conclusion.
pub record IsRule (s : State) (r : ℕ) (ms : List ℕ) (p : ℕ) : Type 0 where
  pub premises : List (ℕ × Declared)
  pub conclusion : Assertion
  pub at : rule_at (declared_by s.items).rules r ≡ Some (declared_rule premises conclusion)
  pub are : each (metavariable_named (declared_by s.items)) ms ≡ Some premises
  pub numbers : numbers_of (premises_of premises) ≡ ms
  pub is : entry_at s p ≡ Some conclusion
  pub boundary : is_thesis conclusion.statement ≡ false
  pub plain : is_plain conclusion.statement ≡ true

numbers_are : (W : Declarations) (ms : List ℕ) (ds : List (ℕ × Declared)) → each (metavariable_named W) ms ≡ Some ds → numbers_of (premises_of ds) ≡ ms
numbers_are W [] ds h = ap (λ ds. numbers_of (premises_of ds)) (sym (same_Some [] ds h))
numbers_are W (m ∷ ms) ds h = go (nth W.metavariables m) (each (metavariable_named W) ms) refl h (numbers_are W ms)
  where
    go : (o : Option Declared) (os : Option (List (ℕ × Declared))) → each (metavariable_named W) ms ≡ os → option_and_then (λ d. option_map (λ ds. d ∷ ds) os) (option_map (λ d. (m, d)) o) ≡ Some ds
        → ((ds : List (ℕ × Declared)) → each (metavariable_named W) ms ≡ Some ds → numbers_of (premises_of ds) ≡ ms) → numbers_of (premises_of ds) ≡ m ∷ ms
    go None os f k ih = none_some k
    go (Some d) None f k ih = none_some k
    go (Some d) (Some more) f k ih = ap (λ ds. numbers_of (premises_of ds)) (sym (same_Some ((m, d) ∷ more) ds k)) ∙ ap (λ ns. m ∷ ns) (ih more f)

pub rule_there : (s : State) (r : ℕ) (x : Name × List ℕ × ℕ) → Good s.items → nth (rules_in s.items) r ≡ Some x → IsRule s r x.1 x.2
rule_there s r x g h =
    let W : Declarations = declared_by s.items in
    let l : Ruled (store_of s.items) x.1 x.2 = rule_line empty_store s.items r x g h in
    let here : nth (entries_in s.items) x.2 ≡ Some l.conclusion = sym (entries_same s.items x.2) ∙ l.is in
    record {
      premises = l.premises;
      conclusion = l.conclusion;
      at =
          rule_at_nth W.rules r
          ∙ ap (λ rs. nth rs r) (store_is s.items g).rules
          ∙ nth_map (λ (x : Name × List ℕ × ℕ). ruled (each (metavariable_named W) x.1) (nth (entries_in s.items) x.2)) (rules_in s.items) r
          ∙ ap (option_map (λ (x : Name × List ℕ × ℕ). ruled (each (metavariable_named W) x.1) (nth (entries_in s.items) x.2))) h
          ∙ ap₂ (λ ds o. Some (ruled ds o)) l.are here;
      are = l.are;
      numbers = numbers_are W x.1 l.premises l.are;
      is = here;
      boundary = l.boundary;
      plain = l.plain;
    }

pub rule_boundary : (s : State) (r : ℕ) (ms : List ℕ) (p : ℕ) → IsRule s r ms p → IsBoundaryOf s p
rule_boundary s r ms p R = (R.conclusion, R.is, R.boundary)

-- there is none of a greater number
pub nth_past : {A : Type 0} (xs : List A) (n : ℕ) → length xs ≤ n → nth xs n ≡ None
nth_past [] n l = refl
nth_past (x ∷ xs) zero l = absurd (omega (arith, l))
nth_past (x ∷ xs) (suc n) l = nth_past xs n (omega (arith, l))

pub no_rule : (s : State) (r : ℕ) → Good s.items → length (rules_in s.items) ≤ r → rule_at (declared_by s.items).rules r ≡ None
no_rule s r g l =
    let W : Declarations = declared_by s.items in
    rule_at_nth W.rules r
    ∙ ap (λ rs. nth rs r) (store_is s.items g).rules
    ∙ nth_map (λ (x : Name × List ℕ × ℕ). ruled (each (metavariable_named W) x.1) (nth (entries_in s.items) x.2)) (rules_in s.items) r
    ∙ ap (option_map (λ (x : Name × List ℕ × ℕ). ruled (each (metavariable_named W) x.1) (nth (entries_in s.items) x.2))) (nth_past (rules_in s.items) r l)

-- The declared metavariable of a number, with the entry of its boundary.
pub record IsMet (s : State) (m p : ℕ) : Type 0 where
  pub name : Name
  pub conclusion : Assertion
  pub at : nth (declared_by s.items).metavariables m ≡ Some (declared_metavariable name conclusion)
  pub is : entry_at s p ≡ Some conclusion
  pub boundary : is_thesis conclusion.statement ≡ false

pub met_there : (s : State) (m : ℕ) (x : Name × ℕ) → Good s.items → nth (metavariables_in s.items) m ≡ Some x → IsMet s m x.1
met_there s m x g h =
    let l : Bounded (store_of s.items) x.1 = metavariable_line empty_store s.items m x g h in
    let here : nth (entries_in s.items) x.1 ≡ Some l.conclusion = sym (entries_same s.items x.1) ∙ l.is in
    record {
      name = x.0;
      conclusion = l.conclusion;
      at =
          ap (λ ms. nth ms m) (store_is s.items g).metavariables
          ∙ nth_map (λ (x : Name × ℕ). declared x (nth (entries_in s.items) x.1)) (metavariables_in s.items) m
          ∙ ap (option_map (λ (x : Name × ℕ). declared x (nth (entries_in s.items) x.1))) h
          ∙ ap (λ o. Some (declared x o)) here;
      is = here;
      boundary = l.boundary;
    }

pub met_boundary : (s : State) (m p : ℕ) → IsMet s m p → IsBoundaryOf s p
met_boundary s m p M = (M.conclusion, M.is, M.boundary)

pub no_met : (s : State) (m : ℕ) → Good s.items → length (metavariables_in s.items) ≤ m → nth (declared_by s.items).metavariables m ≡ None
no_met s m g l =
    ap (λ ms. nth ms m) (store_is s.items g).metavariables
    ∙ nth_map (λ (x : Name × ℕ). declared x (nth (entries_in s.items) x.1)) (metavariables_in s.items) m
    ∙ ap (option_map (λ (x : Name × ℕ). declared x (nth (entries_in s.items) x.1))) (nth_past (metavariables_in s.items) m l)

-- a metavariable of a number that there is
nth_there : {A : Type 0} (xs : List A) (n : ℕ) → n < length xs → (x : A) × (nth xs n ≡ Some x)
nth_there [] n l = absurd (omega (arith, l))
nth_there (x ∷ xs) zero l = (x, refl)
nth_there (x ∷ xs) (suc n) l = nth_there xs n (omega (arith, l))

pub met_declared : (s : State) (m : ℕ) → Good s.items → m < length (metavariables_in s.items) → (d : Declared) × (nth (declared_by s.items).metavariables m ≡ Some d)
met_declared s m g l =
    let x : (x : Name × ℕ) × (nth (metavariables_in s.items) m ≡ Some x) = nth_there (metavariables_in s.items) m l in
    let M : IsMet s m x.0.1 = met_there s m x.0 g x.1 in
    (declared_metavariable M.name M.conclusion, M.at)
