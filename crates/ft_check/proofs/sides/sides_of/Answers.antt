use Rattle.std.proofs.Common.{take, ◌≡◌, is_some, sym, ap, ap₂, ◌∙◌, subst, IfSome}
use Rattle.ft_items.specs.Equal.{heads, right_heads, start_all}
use Rattle.ft_items.specs.Rows.{are_arguments, statements}
use Rattle.ft_items.specs.Store.{declared_by, premises_of}
use Rattle.ft_syntax.specs.Table.{arguments_in}
use Rattle.ft_check.specs.Arguing.{IsPut}
use Rattle.ft_check.proofs.Applies.{first_not, numbers_are}
use Rattle.ft_check.proofs.Sided.{both_there, second_none, right_put}
use Rattle.ft_check.proofs.sides.sides_of.Goals as goal

pub returns-in_default-clause-are : goal.returns-in_default-clause-are
returns-in_default-clause-are c = λ ds xs ys d t u.
    first_not (are_arguments (premises_of ds) (statements xs)) (start_all (statements xs) (statements ys)) (sym (ap is_some c.in_default.is) ∙ c.in_ok-left.ensures.are ds xs d t)

pub returns-in_default-2-clause-are : goal.returns-in_default-2-clause-are
returns-in_default-2-clause-are c = λ ds xs ys d t u.
    second_none _ _ (are_arguments (premises_of ds) (statements xs)) (start_all (statements xs) (statements ys)) (c.in_ok-left.ensures.are ds xs d t) (ap is_some c.in-Some.is)
    (c.in_ok-rights.ensures.start xs ys t u) (ap is_some c.in_default-2.is)

pub returns-clause-are : goal.returns-clause-are
returns-clause-are c = λ ds xs ys d t u.
    both_there _ _ (are_arguments (premises_of ds) (statements xs)) (start_all (statements xs) (statements ys)) (c.in_ok-left.ensures.are ds xs d t) (ap is_some c.in-Some.is)
    (c.in_ok-rights.ensures.start xs ys t u) (ap is_some c.in-Some-2.is)

pub returns-clause-sides : goal.returns-clause-sides
returns-clause-sides c = λ ds xs ys d t u.
    let rights : arguments_in c.args.items.now.trees c.in-Some-2.rights.items ≡ right_heads (statements xs) (statements ys) =
    subst (λ o. IfSome o (λ l. arguments_in c.args.items.now.trees l.items ≡ right_heads (statements xs) (statements ys))) c.in-Some-2.is (c.in_ok-rights.ensures.are xs ys t u) in
    record {
      left = subst (λ o. IfSome o (λ x. IsPut x (premises_of ds) (heads (statements xs)))) c.in-Some.is (c.in_ok-left.ensures.put ds xs d t);
      right = right_put c.in_ok-right.right (premises_of ds) _ (right_heads (statements xs) (statements ys))
          (c.in_ok-right.ensures.put (premises_of ds) (numbers_are (declared_by (take c.args.i c.args.items.now.items)) c.args.ms.now ds d.are))
          (ap₂ arguments_in c.terms.ensures c.deref.ensures.value ∙ rights);
    }
