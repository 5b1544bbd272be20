-- The rules and the metavariables of a good list, by their lines.
use Rattle.std.proofs.Common.{◌≡◌, ℕ, zero, suc, true, false, Some, List, [], ◌∷◌, refl, sym, ap, ◌∙◌, subst, map}
use Rattle.std.specs.Prelude.{option_map}
use Rattle.std.proofs.lemmas.Option.{same_Some}
use Rattle.ft_theory.specs.Rules.{Rule, rule_at}
use Rattle.ft_items.specs.Item.{Name, Item, variable, metavariable, rule, entry, shown}
use Rattle.ft_items.specs.Equal.{is_thesis, is_plain}
use Rattle.ft_items.specs.Store.{Assertion, Declared, Store, ruled, nth, each, entry_named, metavariable_named, add, add_all, empty_store, store_of, metavariables_in, rules_in, declared_by}
use Rattle.ft_items.specs.Good.{AllowedRule, GoodAfter, Good}
use Rattle.ft_items.proofs.Lists.{Before, before_all, each_before, store_is}
use Rattle.ft_common.proofs.Options.{none_some}
use Rattle.ft_check.proofs.Basics.{nth_map}

-- A rule that is declared has metavariables that differ, and a plain boundary for its conclusion.
pub record Ruled (X : Store) (ms : List ℕ) (p : ℕ) : Type 0 where
  pub premises : List (ℕ × Declared)
  pub are : each (metavariable_named X.declarations) ms ≡ Some premises
  pub conclusion : Assertion
  pub is : entry_named X p ≡ Some conclusion
  pub boundary : is_thesis conclusion.statement ≡ false
  pub plain : is_plain conclusion.statement ≡ true

ruled_stays : (W X : Store) (ms : List ℕ) (p : ℕ) (n : Name) → Before W X → AllowedRule W n ms p → Ruled X ms p
ruled_stays W X ms p n b h = record {
  premises = h.2;
  are = each_before W.declarations X.declarations b.metavariables ms h.2 h.3;
  conclusion = h.4;
  is = b.entries p h.4 h.5;
  boundary = h.7;
  plain = h.8;
}

rule_line_in : (W : Store) (items : List Item) (r : ℕ) (x : Name × List ℕ × ℕ) → GoodAfter W items → nth (rules_in items) r ≡ Some x → Ruled (add_all W items) x.1 x.2
rule_line_in W [] r x g h = none_some h
rule_line_in W (rule n ms p ∷ items) zero x g h =
    let same : (n, ms, p) ≡ x = same_Some (n, ms, p) x h in
    subst (λ (y : Name × List ℕ × ℕ). Ruled (add_all W (rule n ms p ∷ items)) y.1 y.2) same (ruled_stays W (add_all W (rule n ms p ∷ items)) ms p n (before_all W (rule n ms p ∷ items)) g.0)
rule_line_in W (rule n ms p ∷ items) (suc r) x g h = rule_line_in (add W (rule n ms p)) items r x g.1 h
rule_line_in W (variable v n p ∷ items) r x g h = rule_line_in (add W (variable v n p)) items r x g.1 h
rule_line_in W (metavariable n p ∷ items) r x g h = rule_line_in (add W (metavariable n p)) items r x g.1 h
rule_line_in W (entry e ∷ items) r x g h = rule_line_in (add W (entry e)) items r x g.1 h
rule_line_in W (shown p ∷ items) r x g h = rule_line_in (add W (shown p)) items r x g.1 h

pub rule_line : (items : List Item) (r : ℕ) (x : Name × List ℕ × ℕ) → Good items → nth (rules_in items) r ≡ Some x → Ruled (store_of items) x.1 x.2
rule_line items r x g h = rule_line_in empty_store items r x g h

-- The entry of a metavariable's boundary is there.
pub record Bounded (X : Store) (p : ℕ) : Type 0 where
  pub conclusion : Assertion
  pub is : entry_named X p ≡ Some conclusion
  pub boundary : is_thesis conclusion.statement ≡ false

metavariable_line_in : (W : Store) (items : List Item) (m : ℕ) (x : Name × ℕ) → GoodAfter W items → nth (metavariables_in items) m ≡ Some x → Bounded (add_all W items) x.1
metavariable_line_in W [] m x g h = none_some h
metavariable_line_in W (metavariable n p ∷ items) zero x g h =
    let same : (n, p) ≡ x = same_Some (n, p) x h in
    subst (λ (y : Name × ℕ). Bounded (add_all W (metavariable n p ∷ items)) y.1) same
    (record { conclusion = g.0.0; is = (before_all W (metavariable n p ∷ items)).entries p g.0.0 g.0.1; boundary = g.0.2 })
metavariable_line_in W (metavariable n p ∷ items) (suc m) x g h = metavariable_line_in (add W (metavariable n p)) items m x g.1 h
metavariable_line_in W (variable v n p ∷ items) m x g h = metavariable_line_in (add W (variable v n p)) items m x g.1 h
metavariable_line_in W (rule n ms p ∷ items) m x g h = metavariable_line_in (add W (rule n ms p)) items m x g.1 h
metavariable_line_in W (entry e ∷ items) m x g h = metavariable_line_in (add W (entry e)) items m x g.1 h
metavariable_line_in W (shown p ∷ items) m x g h = metavariable_line_in (add W (shown p)) items m x g.1 h

pub metavariable_line : (items : List Item) (m : ℕ) (x : Name × ℕ) → Good items → nth (metavariables_in items) m ≡ Some x → Bounded (store_of items) x.1
metavariable_line items m x g h = metavariable_line_in empty_store items m x g h

-- The rule of a line.
rule_at_nth : (rs : List Rule) (r : ℕ) → rule_at rs r ≡ nth rs r
rule_at_nth [] r = refl
rule_at_nth (R ∷ rs) zero = refl
rule_at_nth (R ∷ rs) (suc r) = rule_at_nth rs r

pub rule_is_line : (items : List Item) (r : ℕ) → Good items
    → rule_at (declared_by items).rules r ≡ option_map (λ (x : Name × List ℕ × ℕ). ruled (each (metavariable_named (declared_by items)) x.1) (entry_named (store_of items) x.2)) (nth (rules_in items) r)
rule_is_line items r g =
    rule_at_nth (declared_by items).rules r ∙ ap (λ rs. nth rs r) (store_is items g).rules
    ∙ ap (λ es. nth (map (λ (x : Name × List ℕ × ℕ). ruled (each (metavariable_named (declared_by items)) x.1) (nth es x.2)) (rules_in items)) r) (sym (store_is items g).entries)
    ∙ nth_map (λ (x : Name × List ℕ × ℕ). ruled (each (metavariable_named (declared_by items)) x.1) (entry_named (store_of items) x.2)) (rules_in items) r
