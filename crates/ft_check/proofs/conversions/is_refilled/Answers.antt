use Rattle.std.proofs.Common.{rules, ◌≡◌, true, false, sym, ◌∙◌}
use Rattle.ft_check.proofs.Applies.{first_not}
use Rattle.ft_check.proofs.Sided.{second_so}
use Rattle.ft_check.proofs.conversions.is_refilled.Goals as goal

pub returns-then-not-branch : goal.returns-then-not-branch
returns-then-not-branch c =
    let no : c.in_ok-fits_at.field-0 ≡ false = search rules in
    λ h k. first_not _ _ (sym no ∙ c.in_ok-fits_at.ensures h k)

pub returns : goal.returns
returns c =
    let yes : c.in_ok-fits_at.field-0 ≡ true = search rules in
    λ h k. second_so _ _ _ (sym (c.in_ok-fits_at.ensures h k) ∙ yes) c.has_same_head.ensures
