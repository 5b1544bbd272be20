use Rattle.std.proofs.Common.{◌∙◌, ◌++◌, ap}
use Rattle.ft_applications_meaning.specs.Texts.{name_text}
use Rattle.ft_run.proofs.Lines.{repeated_appended}
use Rattle.ft_run.proofs.running.push_repeated.Goals as goal

pub returns : goal.returns
returns c =
    repeated_appended c.push_str-2.result c.args.out.now c.push_str.new.self c.push_chars.new.self c.push_str-2.new.self c.args.name.now
    c.in_ok-push_str.ensures.ok (c.in_ok-push_chars.ensures.ok ∙ ap (λ n. c.push_str.new.self ++ name_text n) c.chars.ensures.value) c.push_str-2.ensures.ok
