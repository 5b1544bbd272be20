-- What one argument's comparison says of its checks.
use Rattle.std.proofs.Common.{◌≡◌, ◌∙◌, ℕ, Some, sym, ap, ap₂, subst}
use Rattle.std.specs.Prelude.{Result, Ok, Err, ⊤}
use Rattle.ft_theory.specs.Statements.{Statement}
use Rattle.ft_items.specs.Item.{Name}
use Rattle.ft_items.specs.Store.{nth, metavariables_in}
use Rattle.ft_reference.specs.Refusals.{AllSmall, expressions, forms_statement}
use Rattle.ft_reference.specs.Compare.{fit_checks}
use Rattle.ft_judge.specs.Meaning.{thesis_in, boundary_in}
use Rattle.ft_judge.specs.declared.judgement.Thesis.{Thesis}
use Rattle.ft_judge.specs.declared.judgement.Boundary.{Boundary}
use Rattle.ft_judge.specs.declared.fault.Refusal.{Refusal}
use Rattle.ft_kernel.specs.State.{State, statement_at}
use Rattle.ft_apply.specs.Named.{entry_of, boundary_of_met}
use Rattle.ft_apply.specs.Outcomes.{Tests, one_argument_checks}
use Rattle.ft_apply.proofs.Naming.{statement_found}
use Rattle.ft_apply.proofs.RuleLines.{met_statement}
use Rattle.ft_apply.proofs.Asking.{both_pass, refused_later}
use Rattle.ft_calls.proofs.Later.{forms_pass}

-- the boundary of a metavariable, as it is read
pub met_is : (s : State) (m : ℕ) (x : Name × ℕ) (b c : Boundary) → nth (metavariables_in s.items) m ≡ Some x → statement_at s x.1 ≡ Some (boundary_in s.trees b) → c ≡ b → boundary_in s.trees c ≡ boundary_of_met s.items m
met_is s m x b c h k e = ap (boundary_in s.trees) e ∙ sym (statement_found s x.1 (boundary_in s.trees b) k) ∙ sym (met_statement s.items m x h)

-- a thesis compared with a boundary that was formed
pub fit_result : (s t : State) (j : ℕ) (x : Thesis) (b : Boundary) (B : Statement) (r : Result ⊤ Refusal) → t.items ≡ s.items → statement_at t j ≡ Some (thesis_in t.trees x) → boundary_in t.trees b ≡ B → AllSmall (expressions B)
    → Tests t.trees (fit_checks (thesis_in t.trees x) (boundary_in t.trees b)) r → Tests t.trees (one_argument_checks B (entry_of s.items j).statement) r
fit_result s t j x b B r e h q small k = go r (subst (λ cs. Tests t.trees cs r) (ap₂ fit_checks same q) k)
  where
    same : thesis_in t.trees x ≡ (entry_of s.items j).statement
    same = sym (statement_found t j (thesis_in t.trees x) h) ∙ ap (λ items. (entry_of items j).statement) e

    go : (r : Result ⊤ Refusal) → Tests t.trees (fit_checks (entry_of s.items j).statement B) r → Tests t.trees (one_argument_checks B (entry_of s.items j).statement) r
    go (Ok y) k = both_pass (forms_statement B) (fit_checks (entry_of s.items j).statement B) (forms_pass (expressions B) small) ∙ k
    go (Err f) k = refused_later t.trees (forms_statement B) (fit_checks (entry_of s.items j).statement B) f (forms_pass (expressions B) small) k
