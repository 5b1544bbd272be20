use Rattle.std.proofs.Common.{rules, take, ◌≡◌, true, false, sym, ap₂, ◌∙◌}
use Rattle.ft_theory.specs.Expressions.{instantiate}
use Rattle.ft_items.specs.Rows.{statements}
use Rattle.ft_items.specs.Store.{declared_by, premises_of}
use Rattle.ft_syntax.specs.Instances.{instance_in}
use Rattle.ft_check.specs.Comparing.{all_same}
use Rattle.ft_check.proofs.Applies.{numbers_are}
use Rattle.ft_check.proofs.Argued.{arguments_tested, not_arguments}
use Rattle.ft_check.proofs.arguing.put_arguments.Goals as goal

pub returns-then-not-branch-clause-are : goal.returns-then-not-branch-clause-are
returns-then-not-branch-clause-are c =
    let no : c.in_ok-push_premises.field-0 ≡ false = search rules in
    λ ds xs d t. not_arguments c.args.items.now.trees c.in_ok-push_premises.field-0 c.push_premises.new.list.items _ (premises_of ds) (statements xs)
    (λ j. c.in_ok-push_premises.ensures.same ds xs j d.good d.are t.are t.theses) c.new-list.ensures.items no

pub returns-then-not-branch-2-clause-are : goal.returns-then-not-branch-2-clause-are
returns-then-not-branch-2-clause-are c =
    let T = c.args.items.now.trees in
    let P = c.in_ok-put.put in
    let yes : c.in_ok-push_premises.field-0 ≡ true = search rules in
    let no : c.in_ok-are_instances.field-0 ≡ false = search rules in
    λ ds xs d t. sym no ∙ arguments_tested T c.in_ok-push_premises.field-0 c.in_ok-are_instances.field-0 c.push_premises.new.list.items _ (premises_of ds) (statements xs) (instance_in P.terms P.instance.pairs)
    (λ j. c.in_ok-push_premises.ensures.same ds xs j d.good d.are t.are t.theses) c.new-list.ensures.items yes
    (c.in_ok-put.ensures.instance xs (premises_of ds) t.are t.theses (numbers_are (declared_by (take c.args.i c.args.items.now.items)) c.args.ms.now ds d.are))
    (c.in_ok-are_instances.ensures.are ∙ ap₂ (λ ts l. all_same ts (instantiate (instance_in P.terms P.instance.pairs)) l) c.terms.ensures c.deref.ensures.value)

pub returns-clause-are : goal.returns-clause-are
returns-clause-are c =
    let T = c.args.items.now.trees in
    let P = c.in_ok-put.put in
    let yes : c.in_ok-push_premises.field-0 ≡ true = search rules in
    let so : c.in_ok-are_instances.field-0 ≡ true = search rules in
    λ ds xs d t. sym so ∙ arguments_tested T c.in_ok-push_premises.field-0 c.in_ok-are_instances.field-0 c.push_premises.new.list.items _ (premises_of ds) (statements xs) (instance_in P.terms P.instance.pairs)
    (λ j. c.in_ok-push_premises.ensures.same ds xs j d.good d.are t.are t.theses) c.new-list.ensures.items yes
    (c.in_ok-put.ensures.instance xs (premises_of ds) t.are t.theses (numbers_are (declared_by (take c.args.i c.args.items.now.items)) c.args.ms.now ds d.are))
    (c.in_ok-are_instances.ensures.are ∙ ap₂ (λ ts l. all_same ts (instantiate (instance_in P.terms P.instance.pairs)) l) c.terms.ensures c.deref.ensures.value)

pub returns-clause-put : goal.returns-clause-put
returns-clause-put c = λ ds xs d t. record {
  arguments = c.in_ok-are_instances.ensures.arguments ∙ c.in_ok-put.ensures.heads xs t.are t.theses;
  instance = c.in_ok-are_instances.ensures.instance ∙ c.in_ok-put.ensures.instance xs (premises_of ds) t.are t.theses (numbers_are (declared_by (take c.args.i c.args.items.now.items)) c.args.ms.now ds d.are);
}
