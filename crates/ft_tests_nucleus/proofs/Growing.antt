-- A call leaves a list that goes on.
use Rattle.std.proofs.Common.{◌≡◌, ◌∙◌, ℕ, Option, Some, None, List, [], ◌∷◌, ◌++◌, refl, ap, sym, subst}
use Rattle.std.specs.Prelude.{Result, Ok, Err}
use Rattle.ft_items.specs.Item.{Stated, Item, Name, variable, metavariable, rule, entry}
use Rattle.ft_judge.specs.declared.fault.Fault.{Fault}
use Rattle.ft_judge.specs.declared.fault.Fault.TheVariants.{Refused, Memory}
use Rattle.ft_kernel.specs.State.{State}
use Rattle.ft_calls.specs.Answers.{Answers}
use Rattle.ft_calls.specs.Declaring.{DeclaresVariable, DeclaresMetavariable}
use Rattle.ft_rules.specs.Drafts.{Drafted, IsDraftOver}
use Rattle.ft_rules.specs.Answers.{Finishes}
use Rattle.ft_rules.specs.declared.fault.RuleFault.{RuleFault}
use Rattle.ft_tests_nucleus.specs.Drafts.{Grows, MayDraft}

append_nothing : (xs : List Item) → xs ++ [] ≡ xs
append_nothing [] = refl
append_nothing (x ∷ xs) = ap (λ ys. x ∷ ys) (append_nothing xs)

same_grows : (s t : State) → t.items ≡ s.items → Grows s t
same_grows s t h = ([], h ∙ sym (append_nothing s.items))

pub answers_grow : (s : State) (n : Stated) (r : Result ℕ Fault) (t : State) → Answers s n r t → Grows s t
answers_grow s n (Ok j) t h = (entry (record { statement = h.0.statement; set = h.0.set; step = n }) ∷ [], h.2.0)
answers_grow s n (Err (Refused q)) t h = same_grows s t h.2.0
answers_grow s n (Err Memory) t h = same_grows s t h.0

pub variable_grows : (s : State) (v : ℕ) (n : Name) (p : ℕ) (r : Result ℕ Fault) (t : State) → DeclaresVariable s v n p r t → Grows s t
variable_grows s v n p (Ok j) t h = (variable v n p ∷ [], h.2.3)
variable_grows s v n p (Err (Refused q)) t h = same_grows s t h.2.1.0
variable_grows s v n p (Err Memory) t h = same_grows s t h.2.0

pub metavariable_grows : (s : State) (n : Name) (p : ℕ) (r : Result ℕ Fault) (t : State) → DeclaresMetavariable s n p r t → Grows s t
metavariable_grows s n p (Ok j) t h = (metavariable n p ∷ [], h.2.3)
metavariable_grows s n p (Err (Refused q)) t h = same_grows s t h.2.1.0
metavariable_grows s n p (Err Memory) t h = same_grows s t h.2.0

-- that a draft stays one as the list goes on
abbrev DraftsStay : Type 0
DraftsStay = (items more : List Item) (d : Drafted) → IsDraftOver items d → IsDraftOver (items ++ more) d

-- A draft stays one where the list goes on.
pub one_draft_stays : (law : DraftsStay) (s t : State) (d : Drafted) → Grows s t → IsDraftOver s.items d → IsDraftOver t.items d
one_draft_stays law s t d g h = subst (λ items. IsDraftOver items d) (sym g.1) (law s.items g.0 d h)

pub draft_stays : (law : DraftsStay) (s t : State) (o : Option Drafted) → Grows s t → MayDraft s.items o → MayDraft t.items o
draft_stays law s t None g h = tt
draft_stays law s t (Some d) g h = one_draft_stays law s t d g h

pub finish_grows : (s : State) (d : Drafted) (c : ℕ) (r : Result ℕ RuleFault) (t : State) → Finishes s d c r t → Grows s t
finish_grows s d c (Ok r) t h = (rule d.name d.premises c ∷ [], ap (λ (t : State). t.items) h.2.2)
finish_grows s d c (Err f) t h = same_grows s t (ap (λ (t : State). t.items) h.2.1)
