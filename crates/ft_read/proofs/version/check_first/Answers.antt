use Rattle.std.proofs.Common.{rules, subst, refl}
use Rattle.ft_read.specs.Files.{IsFirstLineOf}
use Rattle.ft_read.proofs.Versions.{first_of_one, first_of_none}
use Rattle.ft_read.proofs.version.check_first.Goals as goal

pub returns-in-Ok-eq1-clause-ok : goal.returns-in-Ok-eq1-clause-ok
returns-in-Ok-eq1-clause-ok c = first_of_one c.args.line.now (subst (λ v. IsFirstLineOf v c.args.line.now) (search rules) c.in-Ok-eq1.ensures.version)

pub returns-in-Err-Form-clause-fault : goal.returns-in-Err-Form-clause-fault
returns-in-Err-Form-clause-fault c =
    let both = first_of_none c.args.line.now (c.in-Err-Form.ensures.form (search rules)) in
    (both.0, both.1, refl)
