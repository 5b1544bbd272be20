use Rattle.std.proofs.Common.{rules, ◌≡◌, ◌&&◌, true, false, sym, ap, ◌∙◌}
use Rattle.std.proofs.lemmas.Result.{IfOk-weaker}
use Rattle.ft_theory.specs.Expressions.{symbol}
use Rattle.ft_items.specs.Equal.{equal_expressions}
use Rattle.ft_syntax.specs.Table.{tree, arguments_in}
use Rattle.ft_check.proofs.Sided.{first_so, last_not}
use Rattle.ft_check.proofs.congruences.are_typed.Goals as goal

pub returns-then-not-branch : goal.returns-then-not-branch
returns-then-not-branch c =
    let no : c.in_ok-has_instance.field-0 ≡ false = search rules in
    last_not _ _ (sym no ∙ c.in_ok-has_instance.ensures.is)

pub returns : goal.returns
returns c =
    let T = c.args.terms.now in
    let R = c.args.sides.now.right in
    let yes : c.in_ok-has_instance.field-0 ≡ true = search rules in
    IfOk-weaker c.are_applied.result _ _
    (λ b h. first_so _ _ b (sym c.in_ok-has_instance.ensures.is ∙ yes)
    (h ∙ ap (λ x. equal_expressions (tree T c.args.a) (symbol c.args.r x) && equal_expressions (tree T c.args.b) (symbol c.args.r (arguments_in R.terms R.arguments.items))) c.in_ok-has_instance.ensures.arguments))
    c.are_applied.ensures
