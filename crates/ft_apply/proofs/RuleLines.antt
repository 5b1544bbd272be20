-- The rules and the metavariables of a good list, by their lines.
use Rattle.std.proofs.Common.{◌≡◌, ◌∙◌, ℕ, zero, suc, ◌<◌, true, false, Option, Some, None, List, [], ◌∷◌, length, map, refl, sym, ap, ap₂, subst}
use Rattle.std.specs.Prelude.{option_map, option_and_then}
use Rattle.std.proofs.lemmas.Option.{same_Some}
use Rattle.ft_common.proofs.Options.{none_some}
use Rattle.ft_theory.specs.Rules.{Rule, rule_at}
use Rattle.ft_items.specs.Item.{Name, Item, variable, metavariable, rule, entry, shown}
use Rattle.ft_items.specs.Equal.{is_thesis, is_plain}
use Rattle.ft_items.specs.Store.{Assertion, Declared, Store, premises_of, declared, ruled, nth, each, entry_named, metavariable_named, rule_named, add, add_all, empty_store, store_of, declared_by, Declarations, entries_in, metavariables_in, rules_in, claim_in}
use Rattle.ft_items.specs.Good.{AllowedRule, GoodAfter, Good}
use Rattle.ft_items.proofs.Lists.{Before, before_all, each_before, store_is, nth_within, nth_found, entries_all}
use Rattle.ft_syntax.specs.Table.{AllBelow}
use Rattle.ft_kernel.specs.State.{State, IsBoundaryOf}
use Rattle.ft_apply.specs.Named.{entry_or, entry_of, boundary_or, boundary_of_met, premises_in, rule_or, rule_of}

-- A rule that is declared has metavariables that are declared, and a plain boundary for its conclusion.
pub record Ruled (X : Store) (ms : List ℕ) (p : ℕ) : Type 0 where
  pub premises : List (ℕ × Declared)
  pub are : each (metavariable_named X.declarations) ms ≡ Some premises
  pub conclusion : Assertion
  pub is : entry_named X p ≡ Some conclusion
  pub boundary : is_thesis conclusion.statement ≡ false
  pub plain : is_plain conclusion.statement ≡ true

ruled_stays : (W X : Store) (ms : List ℕ) (p : ℕ) (n : Name) → Before W X → AllowedRule W n ms p → Ruled X ms p
ruled_stays W X ms p n b h = record { premises = h.2; are = each_before W.declarations X.declarations b.metavariables ms h.2 h.3; conclusion = h.4; is = b.entries p h.4 h.5; boundary = h.7; plain = h.8 }

rule_line_in : (W : Store) (items : List Item) (r : ℕ) (x : Name × List ℕ × ℕ) → GoodAfter W items → nth (rules_in items) r ≡ Some x → Ruled (add_all W items) x.1 x.2
rule_line_in W [] r x g h = none_some h
rule_line_in W (rule n ms p ∷ items) zero x g h =
    let same : (n, ms, p) ≡ x = same_Some (n, ms, p) x h in
    subst (λ (y : Name × List ℕ × ℕ). Ruled (add_all W (rule n ms p ∷ items)) y.1 y.2) same (ruled_stays W (add_all W (rule n ms p ∷ items)) ms p n (before_all W (rule n ms p ∷ items)) g.0)
rule_line_in W (rule n ms p ∷ items) (suc r) x g h = rule_line_in (add W (rule n ms p)) items r x g.1 h
rule_line_in W (variable v n p ∷ items) r x g h = rule_line_in (add W (variable v n p)) items r x g.1 h
rule_line_in W (metavariable n p ∷ items) r x g h = rule_line_in (add W (metavariable n p)) items r x g.1 h
rule_line_in W (entry e ∷ items) r x g h = rule_line_in (add W (entry e)) items r x g.1 h
rule_line_in W (shown p ∷ items) r x g h = rule_line_in (add W (shown p)) items r x g.1 h

pub rule_line : (items : List Item) (r : ℕ) (x : Name × List ℕ × ℕ) → Good items → nth (rules_in items) r ≡ Some x → Ruled (store_of items) x.1 x.2
rule_line items r x g h = rule_line_in empty_store items r x g h

-- The entry of a metavariable's boundary is there.
pub record Bounded (X : Store) (p : ℕ) : Type 0 where
  pub conclusion : Assertion
  pub is : entry_named X p ≡ Some conclusion
  pub boundary : is_thesis conclusion.statement ≡ false

metavariable_line_in : (W : Store) (items : List Item) (m : ℕ) (x : Name × ℕ) → GoodAfter W items → nth (metavariables_in items) m ≡ Some x → Bounded (add_all W items) x.1
metavariable_line_in W [] m x g h = none_some h
metavariable_line_in W (metavariable n p ∷ items) zero x g h =
    let same : (n, p) ≡ x = same_Some (n, p) x h in
    subst (λ (y : Name × ℕ). Bounded (add_all W (metavariable n p ∷ items)) y.1) same
    (record { conclusion = g.0.0; is = (before_all W (metavariable n p ∷ items)).entries p g.0.0 g.0.1; boundary = g.0.2 })
metavariable_line_in W (metavariable n p ∷ items) (suc m) x g h = metavariable_line_in (add W (metavariable n p)) items m x g.1 h
metavariable_line_in W (variable v n p ∷ items) m x g h = metavariable_line_in (add W (variable v n p)) items m x g.1 h
metavariable_line_in W (rule n ms p ∷ items) m x g h = metavariable_line_in (add W (rule n ms p)) items m x g.1 h
metavariable_line_in W (entry e ∷ items) m x g h = metavariable_line_in (add W (entry e)) items m x g.1 h
metavariable_line_in W (shown p ∷ items) m x g h = metavariable_line_in (add W (shown p)) items m x g.1 h

pub metavariable_line : (items : List Item) (m : ℕ) (x : Name × ℕ) → Good items → nth (metavariables_in items) m ≡ Some x → Bounded (store_of items) x.1
metavariable_line items m x g h = metavariable_line_in empty_store items m x g h

-- What the store has is what the list has.
nth_map : {A B : Type 0} (f : A → B) (xs : List A) (n : ℕ) → nth (map f xs) n ≡ option_map f (nth xs n)
nth_map f [] n = refl
nth_map f (x ∷ xs) zero = refl
nth_map f (x ∷ xs) (suc n) = nth_map f xs n

rule_at_nth : (rs : List Rule) (r : ℕ) → rule_at rs r ≡ nth rs r
rule_at_nth [] r = refl
rule_at_nth (R ∷ rs) zero = refl
rule_at_nth (R ∷ rs) (suc r) = rule_at_nth rs r

entries_same : (items : List Item) (p : ℕ) → entry_named (store_of items) p ≡ nth (entries_in items) p
entries_same items p = ap (λ es. nth es p) (entries_all empty_store items)

-- the boundary that a metavariable is declared with
met_same : (items : List Item) (m : ℕ) (d : Declared) → Good items → nth (declared_by items).metavariables m ≡ Some d → (m < length (metavariables_in items)) × (d.boundary ≡ boundary_of_met items m)
met_same items m d g h = go (nth (metavariables_in items) m) refl (sym found ∙ h)
  where
    found : nth (declared_by items).metavariables m ≡ option_map (λ (x : Name × ℕ). declared x (nth (entries_in items) x.1)) (nth (metavariables_in items) m)
    found = ap (λ ms. nth ms m) (store_is items g).metavariables ∙ nth_map (λ (x : Name × ℕ). declared x (nth (entries_in items) x.1)) (metavariables_in items) m

    stated : (x : Name × ℕ) (o : Option Assertion) → (declared x o).boundary ≡ (entry_or o).statement
    stated x None = refl
    stated x (Some a) = refl

    go : (o : Option (Name × ℕ)) → nth (metavariables_in items) m ≡ o → option_map (λ (x : Name × ℕ). declared x (nth (entries_in items) x.1)) o ≡ Some d → (m < length (metavariables_in items)) × (d.boundary ≡ boundary_of_met items m)
    go None e k = none_some k
    go (Some x) e k = (
      nth_within (metavariables_in items) m x e,
      ap (λ (d : Declared). d.boundary) (sym (same_Some (declared x (nth (entries_in items) x.1)) d k))
          ∙ stated x (nth (entries_in items) x.1)
          ∙ sym (ap (boundary_or items) e),
    )

-- the premises that metavariables are declared with
premises_same : (items : List Item) (ms : List ℕ) (ds : List (ℕ × Declared)) → Good items → each (metavariable_named (declared_by items)) ms ≡ Some ds → AllBelow (length (metavariables_in items)) ms × (premises_of ds ≡ premises_in items ms)
premises_same items [] ds g h = (tt, ap premises_of (sym (same_Some [] ds h)))
premises_same items (m ∷ ms) ds g h = go (nth (declared_by items).metavariables m) refl (each (metavariable_named (declared_by items)) ms) refl h (premises_same items ms)
  where
    W : Declarations
    W = declared_by items

    go : (o : Option Declared) → nth W.metavariables m ≡ o → (os : Option (List (ℕ × Declared))) → each (metavariable_named W) ms ≡ os → option_and_then (λ d. option_map (λ ds. d ∷ ds) os) (option_map (λ d. (m, d)) o) ≡ Some ds
        → ((ds : List (ℕ × Declared)) → Good items → each (metavariable_named W) ms ≡ Some ds → AllBelow (length (metavariables_in items)) ms × (premises_of ds ≡ premises_in items ms))
        → AllBelow (length (metavariables_in items)) (m ∷ ms) × (premises_of ds ≡ premises_in items (m ∷ ms))
    go None e os f k ih = none_some k
    go (Some d) e None f k ih = none_some k
    go (Some d) e (Some more) f k ih =
        let here : (m < length (metavariables_in items)) × (d.boundary ≡ boundary_of_met items m) = met_same items m d g e in
        let rest : AllBelow (length (metavariables_in items)) ms × (premises_of more ≡ premises_in items ms) = ih more g f in
        ((here.0, rest.0), ap premises_of (sym (same_Some ((m, d) ∷ more) ds k)) ∙ ap₂ (λ b ps. (m, b) ∷ ps) here.1 rest.1)

-- A rule of the list: its premises are metavariables, its conclusion a plain boundary, and the store has it.
pub record IsRuleOf (items : List Item) (r : ℕ) (ms : List ℕ) (p : ℕ) : Type 0 where
  pub premises_below : AllBelow (length (metavariables_in items)) ms
  pub premises : (rule_of items r).premises ≡ premises_in items ms
  pub conclusion : (rule_of items r).conclusion ≡ claim_in (entry_of items p).statement
  pub plain : is_plain (entry_of items p).statement ≡ true
  pub boundary : (a : Assertion) × (nth (entries_in items) p ≡ Some a) × (is_thesis a.statement ≡ false)
  pub named : rule_named (declared_by items) r ≡ Some (r, rule_of items r)

pub rule_there : (items : List Item) (r : ℕ) (x : Name × List ℕ × ℕ) → Good items → nth (rules_in items) r ≡ Some x → IsRuleOf items r x.1 x.2
rule_there items r x g h =
    let W : Declarations = declared_by items in
    let l : Ruled (store_of items) x.1 x.2 = rule_line items r x g h in
    let here : nth (entries_in items) x.2 ≡ Some l.conclusion = sym (entries_same items x.2) ∙ l.is in
    let is : rule_of items r ≡ rule_or items (Some x) = ap (rule_or items) h in
    let same : AllBelow (length (metavariables_in items)) x.1 × (premises_of l.premises ≡ premises_in items x.1) = premises_same items x.1 l.premises g l.are in
    let stated : (entry_of items x.2).statement ≡ l.conclusion.statement = ap (λ o. (entry_or o).statement) here in
    record {
      premises_below = same.0;
      premises = ap (λ (R : Rule). R.premises) is;
      conclusion = ap (λ (R : Rule). R.conclusion) is;
      plain = ap is_plain stated ∙ l.plain;
      boundary = (l.conclusion, here, l.boundary);
      named =
          ap (option_map (λ R. (r, R)))
          (rule_at_nth W.rules r
          ∙ ap (λ rs. nth rs r) (store_is items g).rules
          ∙ nth_map (λ (x : Name × List ℕ × ℕ). ruled (each (metavariable_named W) x.1) (nth (entries_in items) x.2)) (rules_in items) r
          ∙ ap (option_map (λ (x : Name × List ℕ × ℕ). ruled (each (metavariable_named W) x.1) (nth (entries_in items) x.2))) h
          ∙ ap₂ (λ ds o. Some (ruled ds o)) l.are here
          ∙ ap₂ (λ ps c. Some (record { premises = ps; conclusion = claim_in c })) same.1 (sym stated)
          ∙ ap Some (sym is));
    }

-- the boundary of a metavariable is one
pub met_boundary : (s : State) (m : ℕ) (x : Name × ℕ) → Good s.items → nth (metavariables_in s.items) m ≡ Some x → IsBoundaryOf s x.1
met_boundary s m x g h =
    let b : Bounded (store_of s.items) x.1 = metavariable_line s.items m x g h in
    (b.conclusion, sym (entries_same s.items x.1) ∙ b.is, b.boundary)

pub met_statement : (items : List Item) (m : ℕ) (x : Name × ℕ) → nth (metavariables_in items) m ≡ Some x → boundary_of_met items m ≡ (entry_of items x.1).statement
met_statement items m x h = ap (boundary_or items) h

-- the rule of a number, in the store
pub rule_resolved : (items : List Item) (r : ℕ) → Good items → r < length (rules_in items) → rule_named (declared_by items) r ≡ Some (r, rule_of items r)
rule_resolved items r g l = let x : (y : Name × List ℕ × ℕ) × (nth (rules_in items) r ≡ Some y) = nth_found (rules_in items) r l in (rule_there items r x.0 g x.1).named
