-- A kernel whose table goes on.
use Rattle.std.proofs.Common.{◌≡◌, ℕ, ◌≤◌, List, [], ◌∷◌, refl, sym, ap, ap₂, ◌∙◌, subst, length}
use Rattle.ft_theory.specs.Expressions.{Expression}
use Rattle.ft_items.specs.Item.{Name, entry}
use Rattle.ft_items.specs.Store.{variables_in}
use Rattle.ft_items.specs.Good.{Good}
use Rattle.ft_syntax.specs.Table.{Extends}
use Rattle.ft_syntax.specs.Laws.{length_extends}
use Rattle.ft_judge.specs.Laws.{thesis_longer, boundary_longer, thesis_extends, boundary_extends}
use Rattle.ft_kernel.specs.State.{State, next_number, place_of_name, rule_names}
use Rattle.ft_kernel.specs.Steps.{step_of}
use Rattle.ft_kernel.specs.Lines.{item_in, items_in, ContentBelow, AllLinesBelow}
use Rattle.ft_kernel.specs.Invariant.{IsKernel}
use Rattle.ft_kernel.specs.declared.line.Content.{Content}
use Rattle.ft_kernel.specs.declared.line.Content.TheVariants.{Variable, Metavariable, Rule, Thesis, Boundary, Shown}
use Rattle.ft_kernel.specs.declared.line.Line.{Line}
use Rattle.ft_kernel.proofs.Answered.{seen}

-- the items are as they were
item_extends : (ts us : List Expression) (c : Content) → Extends ts us → ContentBelow (length ts) c → item_in us c ≡ item_in ts c
item_extends ts us (Variable x) e h = refl
item_extends ts us (Metavariable x) e h = refl
item_extends ts us (Rule x) e h = refl
item_extends ts us (Thesis x S s) e h = ap (λ z. entry (record { statement = z; set = S; step = step_of s })) (thesis_extends ts us x e h)
item_extends ts us (Boundary x S s) e h = ap (λ z. entry (record { statement = z; set = S; step = step_of s })) (boundary_extends ts us x e h)
item_extends ts us (Shown j) e h = refl

items_extend : (ts us : List Expression) (ls : List Line) → Extends ts us → AllLinesBelow (length ts) ls → items_in us ls ≡ items_in ts ls
items_extend ts us [] e h = refl
items_extend ts us (l ∷ ls) e h = ap₂ (λ i X. i ∷ X) (item_extends ts us l.content e h.0) (items_extend ts us ls e h.1)

-- what is below stays below
content_longer : (n m : ℕ) (c : Content) → n ≤ m → ContentBelow n c → ContentBelow m c
content_longer n m (Variable x) le h = tt
content_longer n m (Metavariable x) le h = tt
content_longer n m (Rule x) le h = tt
content_longer n m (Thesis x S s) le h = thesis_longer n m x le h
content_longer n m (Boundary x S s) le h = boundary_longer n m x le h
content_longer n m (Shown j) le h = tt

all_longer : (n m : ℕ) (ls : List Line) → n ≤ m → AllLinesBelow n ls → AllLinesBelow m ls
all_longer n m [] le h = tt
all_longer n m (l ∷ ls) le h = (content_longer n m l.content le h.0, all_longer n m ls le h.1)

-- the kernel keeps what it keeps
pub kernel_extended : (ts us : List Expression) (ls : List Line) (es ms rs : List ℕ) (vs : List (ℕ × ℕ)) (ns : List (Name × ℕ)) (next : ℕ) → IsKernel ts ls es ms rs vs ns next → Extends ts us → IsKernel us ls es ms rs vs ns next
kernel_extended ts us ls es ms rs vs ns next k h =
    let same : items_in us ls ≡ items_in ts ls = items_extend ts us ls h k.below in
    record {
      good = subst Good (sym same) k.good;
      below = all_longer (length ts) (length us) ls (length_extends ts us h) k.below;
      entries_are = k.entries_are;
      metavariables_are = k.metavariables_are;
      rules_are = k.rules_are;
      variables_are = k.variables_are;
      names_are = λ n. k.names_are n ∙ ap (λ X. place_of_name (rule_names X) n) (sym same);
      next_is = k.next_is ∙ ap (λ X. next_number (variables_in X)) (sym same);
      entries_numbered = k.entries_numbered;
      metavariables_numbered = k.metavariables_numbered;
      rules_numbered = k.rules_numbered;
    }

-- and its items
pub items_extended : (ts us : List Expression) (ls : List Line) (s : State) → AllLinesBelow (length ts) ls → Extends ts us → seen ts ls ≡ s → items_in us ls ≡ s.items
items_extended ts us ls s b h w = items_extend ts us ls h b ∙ ap (λ (s : State). s.items) w

pub trees_extended : (ts us : List Expression) (ls : List Line) (s : State) → Extends ts us → seen ts ls ≡ s → Extends s.trees us
trees_extended ts us ls s h w = subst (λ (s : State). Extends s.trees us) w h
