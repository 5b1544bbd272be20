-- The entry at a place of a list has as its number how many entries stand before it.
use Rattle.std.proofs.Common.{◌≡◌, ◌∙◌, ℕ, zero, suc, Option, Some, None, true, false, List, [], ◌∷◌, ap, sym, refl, subst, arith, length, take}
use Rattle.std.specs.Prelude.{option_map, IfSome}
use Rattle.std.proofs.lemmas.Option.{same_Some}
use Rattle.ft_common.proofs.Options.{none_some}
use Rattle.ft_theory.specs.Statements.{Statement, plain}
use Rattle.ft_items.specs.Item.{Name, Item, Entry, variable, metavariable, rule, entry, shown}
use Rattle.ft_items.specs.Store.{Assertion, nth, entries_in, variables_in}
use Rattle.ft_items.specs.Equal.{is_thesis, is_plain}
use Rattle.ft_judge.specs.Meaning.{under, boundary_in, goal_in}
use Rattle.ft_judge.specs.declared.judgement.Boundary.{Boundary}
use Rattle.ft_rules.specs.Drafts.{IsPlainBoundaryOf}
use Rattle.ft_kernel.specs.State.{State, statement_at, variable_numbered, IsThesisOf, IsBoundaryOf, IsVariableOf}
use Rattle.ft_kernel.specs.Steps.{step_of}
use Rattle.ft_kernel.specs.Shown.{IsShownAs}
use Rattle.ft_tests_nucleus.specs.Faults.{IsNamed}
use Rattle.ft_kernel.specs.declared.item.Item.{Item as ShownItem}
use Rattle.ft_kernel.specs.declared.item.Item.TheVariants as item

entry_there : (items : List Item) (i : ℕ) (e : Entry) → nth items i ≡ Some (entry e) → nth (entries_in items) (length (entries_in (take i items))) ≡ Some (record { statement = e.statement; set = e.set })
entry_there [] i e h = cc
entry_there (variable v n p ∷ items) zero e h = cc
entry_there (metavariable n p ∷ items) zero e h = cc
entry_there (rule n ms p ∷ items) zero e h = cc
entry_there (entry x ∷ items) zero e h = cc
entry_there (shown p ∷ items) zero e h = cc
entry_there (variable v n p ∷ items) (suc i) e h = entry_there items i e h
entry_there (metavariable n p ∷ items) (suc i) e h = entry_there items i e h
entry_there (rule n ms p ∷ items) (suc i) e h = entry_there items i e h
entry_there (entry x ∷ items) (suc i) e h = entry_there items i e h
entry_there (shown p ∷ items) (suc i) e h = entry_there items i e h

-- what an item is shown by names what it is
pub shown_named : (s : State) (i : ℕ) (x : ShownItem) → IsShownAs s i x → IsNamed s x
shown_named s i (item.Var v) h = tt
shown_named s i (item.Met m) h = tt
shown_named s i (item.Rule r) h = tt
shown_named s i (item.Thesis j t) h = (
  record { statement = h.0; set = h.1 },
  ap (λ n. nth (entries_in s.items) n) h.4 ∙ entry_there s.items i (record { statement = h.0; set = h.1; step = step_of t.now }) h.2,
  h.3,
)
shown_named s i (item.Boundary j t) h = (
  record { statement = h.0; set = h.1 },
  ap (λ n. nth (entries_in s.items) n) h.4 ∙ entry_there s.items i (record { statement = h.0; set = h.1; step = step_of t.now }) h.2,
  h.3,
)
shown_named s i (item.Shown j) h = tt

-- a boundary without domains
pub plain_there : (s : State) (b : ℕ) (x : Boundary) → IsBoundaryOf s b → statement_at s b ≡ Some (boundary_in s.trees x) → length x.domains ≡ 0 → IsPlainBoundaryOf s b
plain_there s b x h e d = (h.0, h.1, h.2, ap is_plain same ∙ none_around x.domains d)
  where
    same : h.0.statement ≡ boundary_in s.trees x
    same = same_Some h.0.statement (boundary_in s.trees x) (ap (option_map (λ (a : Assertion). a.statement)) (sym h.1) ∙ e)

    none_around : (ds : List ℕ) → length ds ≡ 0 → is_plain (under s.trees ds (plain (goal_in s.trees x.goal))) ≡ true
    none_around [] e = refl
    none_around (d ∷ ds) e = absurd (omega (arith, e))

-- a variable of the number that was looked for
pub variable_found : (s : State) (v : ℕ) (o : Option ℕ) → o ≡ option_map (λ _. v) (variable_numbered (variables_in s.items) v) → IfSome o (λ v. IsVariableOf s v)
variable_found s v o h = subst (λ o. IfSome o (λ v. IsVariableOf s v)) (sym h) (go (variable_numbered (variables_in s.items) v) refl)
  where
    go : (x : Option (Name × ℕ)) → variable_numbered (variables_in s.items) v ≡ x → IfSome (option_map (λ _. v) x) (λ v. IsVariableOf s v)
    go None k = tt
    go (Some x) k = (x, k)
