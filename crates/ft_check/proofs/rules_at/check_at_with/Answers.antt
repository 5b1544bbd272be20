use Rattle.std.proofs.Common.{rules, take, zero, ℕ, ◌≡◌, ◌&&◌, true, false, sym, ap, ap₂, ◌∙◌, refl, map, subst, IfOk, length}
use Rattle.std.specs.Prelude.{option_map}
use Rattle.ft_theory.specs.Expressions.{instantiate, symbol}
use Rattle.ft_theory.specs.Statements.{Statement, map_claim, map_statement, plain, fill_goal}
use Rattle.ft_theory.specs.Rules.{instance_of, conclusion_at}
use Rattle.ft_items.specs.Equal.{equal_statements, fit_all, heads}
use Rattle.ft_items.specs.Sets.{union}
use Rattle.ft_items.specs.Store.{declared_by}
use Rattle.ft_items.specs.Rows.{are_arguments, statements, when}
use Rattle.ft_items.specs.Good.{reason_of_result}
use Rattle.ft_syntax.specs.Instances.{instance_in}
use Rattle.ft_syntax.specs.Table.{arguments_in}
use Rattle.ft_judge.specs.Meaning.{goal_in}
use Rattle.ft_check.specs.Comparing.{all_same, ComparedBelow}
use Rattle.ft_check.specs.Entries.{entry_in, with_step}
use Rattle.ft_check.specs.Rejects.{reason_of}
use Rattle.ft_check.proofs.Concludes.{premise_not}
use Rattle.ft_check.proofs.Fits.{no_same}
use Rattle.ft_check.proofs.Applies.{at_these, first_not, numbers_are, second_not, two_lists}
use Rattle.std.proofs.lemmas.Result.{IfOk-weaker}
use Rattle.ft_check.proofs.rules_at.check_at_with.Goals as goal

pub returns-then-not-branch : goal.returns-then-not-branch
returns-then-not-branch c =
    let T = c.args.items.now.trees in
    let no : c.in_ok-push_premises.field-0 ≡ false = search rules in
    λ R given t g k w p a.
    premise_not false (are_arguments R.1.premises (statements given) && equal_statements (entry_in T c.args.bound).statement (plain (conclusion_at R.1 (heads (statements given))))) _ _ _ refl
    (first_not (are_arguments R.1.premises (statements given)) (equal_statements (entry_in T c.args.bound).statement (plain (conclusion_at R.1 (heads (statements given)))))
    (no_same _ _ _ no (c.in_ok-push_premises.ensures.same k.declared given (instantiate (instance_of R.1.premises (heads (statements given)))) g k.are p a)
    ∙ ap₂ (λ xs qs. all_same T (instantiate (instance_of R.1.premises (heads (statements given)))) xs && fit_all (map_statement (λ k. instantiate (instance_of R.1.premises (heads (statements given)))) zero) qs (statements given)) c.new-list.ensures.items (sym k.premises)))

pub returns-then-not-branch-2 : goal.returns-then-not-branch-2
returns-then-not-branch-2 c =
    let T = c.args.items.now.trees in
    let yes : c.in_ok-push_premises.field-0 ≡ true = search rules in
    let no : c.in_ok-push_boundary.field-0 ≡ false = search rules in
    λ R given t g k w p a.
    premise_not false (are_arguments R.1.premises (statements given) && equal_statements (entry_in T c.args.bound).statement (plain (conclusion_at R.1 (heads (statements given))))) _ _ _ refl
    (second_not _ _ _ _ (are_arguments R.1.premises (statements given)) (equal_statements (entry_in T c.args.bound).statement (plain (conclusion_at R.1 (heads (statements given))))) yes no
    (c.in_ok-push_premises.ensures.same k.declared given (instantiate (instance_of R.1.premises (heads (statements given)))) g k.are p a
    ∙ ap₂ (λ xs qs. all_same T (instantiate (instance_of R.1.premises (heads (statements given)))) xs && fit_all (map_statement (λ k. instantiate (instance_of R.1.premises (heads (statements given)))) zero) qs (statements given)) c.new-list.ensures.items (sym k.premises))
    (c.in_ok-push_boundary.ensures.same T (instantiate (instance_of R.1.premises (heads (statements given)))) w
    ∙ ap (λ d. all_same T (instantiate (instance_of R.1.premises (heads (statements given)))) c.push_premises.new.list.items && equal_statements (entry_in T c.args.bound).statement (plain (map_claim (instantiate (instance_of R.1.premises (heads (statements given)))) d))) k.conclusion))

pub returns : goal.returns
returns c =
    let T = c.args.items.now.trees in
    let yes : c.in_ok-push_premises.field-0 ≡ true = search rules in
    let also : c.in_ok-push_boundary.field-0 ≡ true = search rules in
    λ R given t g k w p a. IfOk-weaker c.check_conclusion.result _ _
    (λ x e. at_these T (declared_by (take c.args.i c.args.items.now.items)) c.args.rule.now R (statements given) _ _ _ (are_arguments R.1.premises (statements given) && equal_statements (entry_in T c.args.bound).statement (plain (conclusion_at R.1 (heads (statements given))))) _ _ _ _ k
    (c.in_ok-put.ensures.instance given R.1.premises p a (ap (map (λ (x : ℕ × Statement). x.0)) k.premises ∙ numbers_are (declared_by (take c.args.i c.args.items.now.items)) c.args.rule.now.metavariables.now k.declared k.are))
    (c.in_ok-put.ensures.heads given p a)
    (ap (all_same T (instantiate (instance_of R.1.premises (heads (statements given))))) c.deref.ensures.value
    ∙ two_lists _ _ _ _ (are_arguments R.1.premises (statements given)) (equal_statements (entry_in T c.args.bound).statement (plain (conclusion_at R.1 (heads (statements given))))) yes also
    (c.in_ok-push_premises.ensures.same k.declared given (instantiate (instance_of R.1.premises (heads (statements given)))) g k.are p a
    ∙ ap₂ (λ xs qs. all_same T (instantiate (instance_of R.1.premises (heads (statements given)))) xs && fit_all (map_statement (λ k. instantiate (instance_of R.1.premises (heads (statements given)))) zero) qs (statements given)) c.new-list.ensures.items (sym k.premises))
    (c.in_ok-push_boundary.ensures.same T (instantiate (instance_of R.1.premises (heads (statements given)))) w
    ∙ ap (λ d. all_same T (instantiate (instance_of R.1.premises (heads (statements given)))) c.push_premises.new.list.items && equal_statements (entry_in T c.args.bound).statement (plain (map_claim (instantiate (instance_of R.1.premises (heads (statements given)))) d))) k.conclusion))
    (c.in_ok-set.ensures ∙ ap₂ union (c.set.ensures T) (c.in_ok-arguments.ensures given p)) e)
    (subst (λ ts. IfOk c.check_conclusion.result (λ x. option_map reason_of x ≡ reason_of_result (when (all_same ts (instantiate (instance_in c.in_ok-put.put.terms c.in_ok-put.put.instance.pairs)) c.deref.result.now)
    (plain (fill_goal (map_claim (instantiate (instance_in c.in_ok-put.put.terms c.in_ok-put.put.instance.pairs)) (goal_in ts c.args.rule.now.goal)) (symbol c.args.rule.now.symbol (arguments_in c.in_ok-put.put.terms c.in_ok-put.put.arguments.items))))) c.in_ok-set.set (with_step (entry_in ts c.args.found) t)))
    c.terms.ensures (c.check_conclusion.ensures t))

pub check_conclusion-requires-clause-list : goal.check_conclusion-requires-clause-list
check_conclusion-requires-clause-list c =
    let T = c.args.items.now.trees in
    subst (λ ts. ComparedBelow (length ts) c.deref.result.now) (sym c.terms.ensures) (subst (ComparedBelow (length T)) (sym c.deref.ensures.value)
    (c.in_ok-push_boundary.ensures.below (length T) (c.in_ok-push_premises.ensures.below (subst (ComparedBelow (length T)) (sym c.new-list.ensures.items) tt)) c.requires.bound c.requires.goal))
