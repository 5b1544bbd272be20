-- What a content is, by what it adds to a list.
use Rattle.std.proofs.Common.{◌≡◌, ℕ, true, false, Some, None, List, refl, sym, ap, ◌∙◌}
use Rattle.ft_theory.specs.Expressions.{Expression}
use Rattle.ft_assume.specs.declared.assume.Assume.{Assume}
use Rattle.ft_items.specs.Item.{Name}
use Rattle.ft_items.specs.Store.{Assertion}
use Rattle.ft_items.specs.Equal.{is_thesis}
use Rattle.ft_items.proofs.SetLemmas.{wrong, wrong'}
use Rattle.ft_judge.specs.Meaning.{thesis_in, boundary_in}
use Rattle.ft_judge.specs.Laws.{thesis_is, boundary_is}
use Rattle.ft_judge.specs.declared.judgement.Thesis.{Thesis as ThesisValue}
use Rattle.ft_judge.specs.declared.judgement.Boundary.{Boundary as BoundaryValue}
use Rattle.ft_kernel.specs.Lines.{assertion_in, added_metavariable, added_rule}
use Rattle.ft_kernel.specs.declared.item.MetItem.{MetItem}
use Rattle.ft_kernel.specs.declared.item.RuleItem.{RuleItem}
use Rattle.ft_kernel.specs.declared.step.Step.{Step}
use Rattle.ft_kernel.specs.declared.line.Content.{Content}
use Rattle.ft_kernel.specs.declared.line.Content.TheVariants.{Variable, Metavariable, Rule, Thesis, Boundary, Shown}

pub only_thesis : (ts : List Expression) (c : Content) (a : Assertion) → assertion_in ts c ≡ Some a → is_thesis a.statement ≡ true
    → ((x : ThesisValue) (S : Assume) (s : Step) → c ≡ Thesis x S s → ⊥) → ⊥
only_thesis ts (Variable x) a e t never = let clash : None ≡ Some a = e in cc
only_thesis ts (Metavariable x) a e t never = let clash : None ≡ Some a = e in cc
only_thesis ts (Rule x) a e t never = let clash : None ≡ Some a = e in cc
only_thesis ts (Thesis x S s) a e t never = never x S s refl
only_thesis ts (Boundary x S s) a e t never =
    let same : record { statement = boundary_in ts x; set = S } ≡ a = cc in
    wrong (sym (boundary_is ts x) ∙ ap (λ (b : Assertion). is_thesis b.statement) same ∙ t)
only_thesis ts (Shown j) a e t never = let clash : None ≡ Some a = e in cc

pub only_boundary : (ts : List Expression) (c : Content) (a : Assertion) → assertion_in ts c ≡ Some a → is_thesis a.statement ≡ false
    → ((x : BoundaryValue) (S : Assume) (s : Step) → c ≡ Boundary x S s → ⊥) → ⊥
only_boundary ts (Variable x) a e t never = let clash : None ≡ Some a = e in cc
only_boundary ts (Metavariable x) a e t never = let clash : None ≡ Some a = e in cc
only_boundary ts (Rule x) a e t never = let clash : None ≡ Some a = e in cc
only_boundary ts (Thesis x S s) a e t never =
    let same : record { statement = thesis_in ts x; set = S } ≡ a = cc in
    wrong' (sym (thesis_is ts x) ∙ ap (λ (b : Assertion). is_thesis b.statement) same ∙ t)
only_boundary ts (Boundary x S s) a e t never = never x S s refl
only_boundary ts (Shown j) a e t never = let clash : None ≡ Some a = e in cc

pub only_metavariable : (c : Content) (a : Name × ℕ) → added_metavariable c ≡ Some a → ((x : MetItem) → c ≡ Metavariable x → ⊥) → ⊥
only_metavariable (Variable x) a e never = let clash : None ≡ Some a = e in cc
only_metavariable (Metavariable x) a e never = never x refl
only_metavariable (Rule x) a e never = let clash : None ≡ Some a = e in cc
only_metavariable (Thesis x S s) a e never = let clash : None ≡ Some a = e in cc
only_metavariable (Boundary x S s) a e never = let clash : None ≡ Some a = e in cc
only_metavariable (Shown j) a e never = let clash : None ≡ Some a = e in cc

pub only_rule : (c : Content) (a : Name × List ℕ × ℕ) → added_rule c ≡ Some a → ((x : RuleItem) → c ≡ Rule x → ⊥) → ⊥
only_rule (Variable x) a e never = let clash : None ≡ Some a = e in cc
only_rule (Metavariable x) a e never = let clash : None ≡ Some a = e in cc
only_rule (Rule x) a e never = never x refl
only_rule (Thesis x S s) a e never = let clash : None ≡ Some a = e in cc
only_rule (Boundary x S s) a e never = let clash : None ≡ Some a = e in cc
only_rule (Shown j) a e never = let clash : None ≡ Some a = e in cc
