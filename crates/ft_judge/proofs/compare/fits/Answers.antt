use Rattle.std.proofs.Common.{length, Ok, rules}
use Rattle.ft_judge.specs.Fits.{IsSameForm, IsFirstDifference, domain_comparisons, form_comparisons}
use Rattle.ft_judge.proofs.Differences.{both_parts, fits_meaning}
use Rattle.ft_judge.proofs.compare.fits.Goals as goal

pub returns-in-Ok-clause-meaning : goal.returns-in-Ok-clause-meaning
returns-in-Ok-clause-meaning c =
    let ts = c.args.t.now in let x = c.args.x.now in let b = c.args.b.now in
    let s : IsSameForm x b = search rules in
    let d : IsFirstDifference ts (domain_comparisons 0 x.domains b.domains) (Ok tt) = search rules in
    let f : IsFirstDifference ts (form_comparisons (length x.domains) x.form b.goal) c.same_form.result = search rules in
    fits_meaning ts x b c.same_form.result s (both_parts ts x b c.same_form.result d f)
