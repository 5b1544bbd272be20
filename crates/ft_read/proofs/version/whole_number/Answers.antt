use Rattle.std.proofs.Common.{rules, ◌≡◌, ◌≢◌, subst, length, Err}
use Rattle.std.proofs.lemmas.Result.{err_from_is_err_and}
use Rattle.ft_lines.specs.declared.fault.Fault.TheVariants.{Memory}
use Rattle.ft_lines.specs.Reading.{number}
use Rattle.ft_read.proofs.Versions.{number_whole, refused_none, longer_none}
use Rattle.ft_read.proofs.version.whole_number.Goals as goal

pub returns-in_err-number-clause-form : goal.returns-in_err-number-clause-form
returns-in_err-number-clause-form c =
    let p = err_from_is_err_and c.from_residual.result c.from_residual.ensures.1 in
    let f = c.in_err-number.field-0.0 in
    rw (p.1, p.2) (refused_none c.numbers.ensures.complete c.args.text.now f (subst (λ t. f ≢ Memory → number t ≡ Err f) c.new-rest.ensures c.in_err-number.ensures))

pub returns-then-left-gt0-clause-form : goal.returns-then-left-gt0-clause-form
returns-then-left-gt0-clause-form c =
    let some : length c.number.new.self ≢ 0 = search rules in
    λ _. longer_none c.numbers.ensures.complete c.args.text.now c.number.new.self c.in_ok-number.number (search rules) some

pub returns-clause-number : goal.returns-clause-number
returns-clause-number c =
    let none : length c.number.new.self ≡ 0 = search rules in
    number_whole c.numbers.ensures.sound c.args.text.now c.number.new.self c.in_ok-number.number (search rules) none
