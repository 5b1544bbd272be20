-- The goal of a boundary, and the rule of a line.
use Rattle.std.proofs.Common.{◌≡◌, ℕ, true, false, Option, Some, None, List, [], ◌∷◌, refl, sym, ap, ap₂, ◌∙◌, subst}
use Rattle.std.specs.Prelude.{option_map}
use Rattle.std.proofs.lemmas.Option.{same_Some}
use Rattle.ft_theory.specs.Expressions.{Expression}
use Rattle.ft_theory.specs.Statements.{plain}
use Rattle.ft_theory.specs.Rules.{Rule, rule_at}
use Rattle.ft_items.specs.Item.{Name, Item}
use Rattle.ft_items.specs.Equal.{is_thesis, is_plain}
use Rattle.ft_items.specs.Store.{Store, claim_in, premises_of, ruled, each, entry_named, metavariable_named, store_of, rules_in, nth, declared_by}
use Rattle.ft_items.specs.Good.{Good}
use Rattle.ft_judge.specs.Meaning.{goal_in, under, thesis_in, boundary_in}
use Rattle.ft_judge.specs.declared.judgement.Goal.{Goal}
use Rattle.ft_judge.specs.declared.judgement.Thesis.{Thesis as ThesisValue}
use Rattle.ft_judge.specs.declared.judgement.Boundary.{Boundary as BoundaryValue}
use Rattle.ft_check.specs.Entries.{line_of}
use Rattle.ft_check.proofs.OfKind.{thesis_is}
use Rattle.ft_common.proofs.Options.{none_some}
use Rattle.ft_check.proofs.RuleLines.{Ruled, rule_line, rule_is_line}

pub no_thesis : {P : Type 0} (ts : List Expression) (x : ThesisValue) → is_thesis (thesis_in ts x) ≡ false → P
no_thesis ts x h = let clash : true ≡ false = thesis_is ts x ∙ h in absurd (no clash)
  where
    no : true ≡ false → ⊥
    no e = cc

goal_under : (ts : List Expression) (As : List ℕ) (g : Goal) → is_plain (under ts As (plain (goal_in ts g))) ≡ true → Some (goal_in ts g) ≡ Some (claim_in (under ts As (plain (goal_in ts g))))
goal_under ts [] g h = refl
goal_under ts (A ∷ As) g h = let clash : false ≡ true = h in cc

pub goal_taken : (ts : List Expression) (b : BoundaryValue) → is_plain (boundary_in ts b) ≡ true → Some (goal_in ts b.goal) ≡ Some (claim_in (boundary_in ts b))
goal_taken ts b h = goal_under ts b.domains b.goal h

-- A rule of a good list is that of its line.
pub rule_gone : {P : Type 0} (items : List Item) (r : ℕ) (R : Rule) → Good items → rule_at (declared_by items).rules r ≡ Some R → None ≡ option_map line_of (nth (rules_in items) r) → P
rule_gone {P} items r R g e h = go (nth (rules_in items) r) refl h
  where
    go : (o : Option (Name × List ℕ × ℕ)) → nth (rules_in items) r ≡ o → None ≡ option_map line_of o → P
    go None q h = none_some (sym (rule_is_line items r g ∙ ap (option_map (λ (x : Name × List ℕ × ℕ). ruled (each (metavariable_named (declared_by items)) x.1) (entry_named (store_of items) x.2))) q) ∙ e)
    go (Some x) q h = none_some h

pub rule_unknown : {P : Type 0} (items : List Item) (r : ℕ) (ms : List ℕ) (p : ℕ) → Good items → rule_at (declared_by items).rules r ≡ None → Some (ms, p) ≡ option_map line_of (nth (rules_in items) r) → P
rule_unknown {P} items r ms p g e h = go (nth (rules_in items) r) refl h
  where
    go : (o : Option (Name × List ℕ × ℕ)) → nth (rules_in items) r ≡ o → Some (ms, p) ≡ option_map line_of o → P
    go None q h = none_some (sym h)
    go (Some x) q h = none_some (sym (sym (rule_is_line items r g ∙ ap (option_map (λ (x : Name × List ℕ × ℕ). ruled (each (metavariable_named (declared_by items)) x.1) (entry_named (store_of items) x.2))) q) ∙ e))

pub record KnownRule (X : Store) (ms : List ℕ) (p : ℕ) (R : Rule) : Type 0 where
  pub line : Ruled X ms p
  pub premises : R.premises ≡ premises_of line.premises
  pub conclusion : R.conclusion ≡ claim_in line.conclusion.statement

pub rule_known : (items : List Item) (r : ℕ) (ms : List ℕ) (p : ℕ) (R : Rule) → Good items → rule_at (declared_by items).rules r ≡ Some R → Some (ms, p) ≡ option_map line_of (nth (rules_in items) r) → KnownRule (store_of items) ms p R
rule_known items r ms p R g e h = go (nth (rules_in items) r) refl h
  where
    X : Store
    X = store_of items

    known : (x : Name × List ℕ × ℕ) → nth (rules_in items) r ≡ Some x → line_of x ≡ (ms, p) → KnownRule X ms p R
    known (n, ms', p') q same =
        let l : Ruled X ms' p' = rule_line items r (n, ms', p') g q in
        let is : Some (ruled (each (metavariable_named X.declarations) ms') (entry_named X p')) ≡ Some R = sym (rule_is_line items r g ∙ ap (option_map (λ (x : Name × List ℕ × ℕ). ruled (each (metavariable_named X.declarations) x.1) (entry_named X x.2))) q) ∙ e in
        let R_is : ruled (Some l.premises) (Some l.conclusion) ≡ R = ap₂ ruled (sym l.are) (sym l.is) ∙ same_Some _ R is in
        subst (λ (z : List ℕ × ℕ). KnownRule X z.0 z.1 R) same
        (record { line = l; premises = ap (λ (Q : Rule). Q.premises) (sym R_is); conclusion = ap (λ (Q : Rule). Q.conclusion) (sym R_is) })

    go : (o : Option (Name × List ℕ × ℕ)) → nth (rules_in items) r ≡ o → Some (ms, p) ≡ option_map line_of o → KnownRule X ms p R
    go None q h = none_some (sym h)
    go (Some x) q h = known x q (same_Some (line_of x) (ms, p) (sym h))
