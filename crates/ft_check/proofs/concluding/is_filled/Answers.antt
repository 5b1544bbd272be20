use Rattle.std.proofs.Common.{rules, ◌≡◌, ◌&&◌, true, false, sym, ap, ◌∙◌, length, subst}
use Rattle.ft_theory.specs.Expressions.{symbol, instantiate}
use Rattle.ft_theory.specs.Statements.{map_claim}
use Rattle.ft_items.specs.Equal.{fits_goal}
use Rattle.ft_syntax.specs.Instances.{instance_in}
use Rattle.ft_syntax.specs.Table.{arguments_in}
use Rattle.ft_judge.specs.Meaning.{claim_in, goal_in}
use Rattle.ft_check.specs.Comparing.{all_same, head_same, ComparedBelow}
use Rattle.ft_check.proofs.Concludes.{form_not, list_not, all_filled}
use Rattle.std.proofs.lemmas.Result.{IfOk-weaker}
use Rattle.ft_check.proofs.concluding.is_filled.Goals as goal

pub returns-then-not-branch : goal.returns-then-not-branch
returns-then-not-branch c =
    let T = c.args.terms.now in
    let J = instantiate (instance_in c.args.put.now.terms c.args.put.now.instance.pairs) in
    let no : c.in_ok-push_form.field-0 ≡ false = search rules in
    form_not T J (symbol c.args.rule.now.symbol (arguments_in c.args.put.now.terms c.args.put.now.arguments.items)) c.args.form.now c.args.rule.now.goal _ _ no
    (c.in_ok-push_form.ensures.same T J ∙ ap (λ xs. all_same T J xs && fits_goal (claim_in T c.args.form.now) (map_claim J (goal_in T c.args.rule.now.goal))) c.new-list.ensures.items)

pub are_instances-requires-clause-compared : goal.are_instances-requires-clause-compared
are_instances-requires-clause-compared c =
    subst (ComparedBelow (length c.args.terms.now)) (sym c.deref.ensures.value)
    (c.in_ok-push_form.ensures.below (length c.args.terms.now) (subst (ComparedBelow (length c.args.terms.now)) (sym c.new-list.ensures.items) tt) c.requires.form c.requires.goal)

pub returns-then-not-branch-2 : goal.returns-then-not-branch-2
returns-then-not-branch-2 c =
    let T = c.args.terms.now in
    let J = instantiate (instance_in c.args.put.now.terms c.args.put.now.instance.pairs) in
    let yes : c.in_ok-push_form.field-0 ≡ true = search rules in
    let no : c.in_ok-are_instances.field-0 ≡ false = search rules in
    list_not T J (symbol c.args.rule.now.symbol (arguments_in c.args.put.now.terms c.args.put.now.arguments.items)) c.args.form.now c.args.rule.now.goal _ _ _ yes no (c.in_ok-are_instances.ensures.are ∙ ap (all_same T J) c.deref.ensures.value)
    (c.in_ok-push_form.ensures.same T J ∙ ap (λ xs. all_same T J xs && fits_goal (claim_in T c.args.form.now) (map_claim J (goal_in T c.args.rule.now.goal))) c.new-list.ensures.items)

pub returns : goal.returns
returns c =
    let T = c.args.terms.now in
    let J = instantiate (instance_in c.args.put.now.terms c.args.put.now.instance.pairs) in
    let yes : c.in_ok-push_form.field-0 ≡ true = search rules in
    let all : c.in_ok-are_instances.field-0 ≡ true = search rules in
    IfOk-weaker c.has_applied.result _ _
    (λ b h. all_filled T J (symbol c.args.rule.now.symbol (arguments_in c.args.put.now.terms c.args.put.now.arguments.items)) c.args.form.now c.args.rule.now.goal _ _ _ b yes all (c.in_ok-are_instances.ensures.are ∙ ap (all_same T J) c.deref.ensures.value)
    (c.in_ok-push_form.ensures.same T J ∙ ap (λ xs. all_same T J xs && fits_goal (claim_in T c.args.form.now) (map_claim J (goal_in T c.args.rule.now.goal))) c.new-list.ensures.items)
    (h ∙ ap (λ a. head_same T (symbol c.args.rule.now.symbol a) c.args.form.now) c.in_ok-are_instances.ensures.arguments))
    c.has_applied.ensures
