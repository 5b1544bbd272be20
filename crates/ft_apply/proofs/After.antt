-- The boundary after some premises of a rule of the list, as it is read.
use Rattle.std.proofs.Common.{◌≡◌, ◌∙◌, ℕ, zero, suc, ◌<◌, ◌≤◌, true, Some, List, [], ◌∷◌, length, drop, get_or, refl, sym, ap, drop_of_length-le}
use Rattle.std.specs.Prelude.{Result, Ok, Err, IfOk}
use Rattle.ft_base.specs.declared.memory.Memory.{Memory}
use Rattle.ft_theory.specs.Expressions.{Expression}
use Rattle.ft_theory.specs.Statements.{Statement, plain, abstracted}
use Rattle.ft_items.specs.Item.{Name, Item}
use Rattle.ft_items.specs.Equal.{is_plain}
use Rattle.ft_items.specs.Store.{nth, claim_in, metavariables_in}
use Rattle.ft_judge.specs.Meaning.{boundary_in}
use Rattle.ft_judge.specs.declared.judgement.Boundary.{Boundary}
use Rattle.ft_kernel.specs.State.{State, statement_at}
use Rattle.ft_apply.specs.Named.{entry_of, premises_in, rule_of, next_of, boundary_after}
use Rattle.ft_apply.proofs.Naming.{drop_one, statement_found}
use Rattle.ft_apply.proofs.RuleLines.{IsRuleOf, met_statement}

premises_dropped : (items : List Item) (n : ℕ) (ms : List ℕ) → drop n (premises_in items ms) ≡ premises_in items (drop n ms)
premises_dropped items zero ms = refl
premises_dropped items (suc n) [] = refl
premises_dropped items (suc n) (m ∷ ms) = premises_dropped items n ms

-- that of a premise
pub after_premise : (s : State) (r : ℕ) (ms : List ℕ) (p n m : ℕ) (x : Name × ℕ) (b : Boundary) → IsRuleOf s.items r ms p → n < length ms → m ≡ get_or ms n m → nth (metavariables_in s.items) m ≡ Some x
    → statement_at s x.1 ≡ Some (boundary_in s.trees b) → boundary_in s.trees b ≡ boundary_after (rule_of s.items r) n
after_premise s r ms p n m x b R l e h k =
    sym (statement_found s x.1 (boundary_in s.trees b) k)
    ∙ sym (met_statement s.items m x h)
    ∙ ap (next_of (rule_of s.items r)) (sym (ap (drop n) R.premises ∙ premises_dropped s.items n ms ∙ ap (premises_in s.items) (drop_one ms n m l e)))

-- that of the conclusion
plain_is : (x : Statement) → is_plain x ≡ true → plain (claim_in x) ≡ x
plain_is (plain c) h = refl
plain_is (abstracted A x) h = let no : ⊥ = cc in absurd no

pub after_conclusion : (s : State) (r : ℕ) (ms : List ℕ) (p n : ℕ) (b : Boundary) → IsRuleOf s.items r ms p → length ms ≤ n → statement_at s p ≡ Some (boundary_in s.trees b) → boundary_in s.trees b ≡ boundary_after (rule_of s.items r) n
after_conclusion s r ms p n b R l k =
    sym (statement_found s p (boundary_in s.trees b) k)
    ∙ sym (plain_is (entry_of s.items p).statement R.plain)
    ∙ ap plain (sym R.conclusion)
    ∙ ap (next_of (rule_of s.items r)) (sym (ap (drop n) R.premises ∙ premises_dropped s.items n ms ∙ ap (premises_in s.items) (drop_of_length-le ms l)))

-- a copy states what it is a copy of
pub copied : (ts : List Expression) (r : Result Boundary Memory) (b : Boundary) (x : Statement) → IfOk r (λ c. c ≡ b) → boundary_in ts b ≡ x → IfOk r (λ c. boundary_in ts c ≡ x)
copied ts (Ok c) b x e h = ap (boundary_in ts) e ∙ h
copied ts (Err f) b x e h = tt
