use Rattle.std.proofs.Common.{rules, ◌≡◌, true, false, sym, ◌∙◌}
use Rattle.std.proofs.lemmas.Result.{IfOk-weaker}
use Rattle.ft_check.proofs.Applies.{first_not}
use Rattle.ft_check.proofs.Sided.{second_so}
use Rattle.ft_check.proofs.congruences.are_applied.Goals as goal

pub returns-then-not-branch : goal.returns-then-not-branch
returns-then-not-branch c =
    let no : c.in_ok-is_applied.field-0 ≡ false = search rules in
    first_not _ _ (sym no ∙ c.in_ok-is_applied.ensures.is)

pub returns : goal.returns
returns c =
    let yes : c.in_ok-is_applied.field-0 ≡ true = search rules in
    IfOk-weaker c.is_applied-2.result _ _ (λ b h. second_so _ _ b (sym c.in_ok-is_applied.ensures.is ∙ yes) h) c.is_applied-2.ensures.is
