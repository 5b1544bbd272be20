use Rattle.std.proofs.Common.{◌∙◌, ◌++◌, sym, ap, codes}
use Rattle.ft_meaning.specs.Texts.{name_text}
use Rattle.ft_meaning.specs.Faults.{type_why_text}
use Rattle.ft_types.specs.Checking.{why_of}
use Rattle.ft_print.proofs.Joining.{two_parts}
use Rattle.ft_print.proofs.type_faults.push_why.Goals as goal

pub returns-in_ok-push_chars-in-Twice : goal.returns-in_ok-push_chars-in-Twice
returns-in_ok-push_chars-in-Twice c =
    let name = name_text c.chars-in-Twice.result.now in
    record {
      ok = two_parts c.push_str-in-Twice.result c.args.out.now name (codes " declared twice") c.push_chars-in-Twice.new.self c.push_str-in-Twice.new.self (type_why_text (why_of c.args.why.now))
          (ap (λ w. type_why_text (why_of w)) c.in-Twice.is ∙ ap (λ n. name_text n ++ codes " declared twice") (sym c.chars-in-Twice.ensures.value))
          c.in_ok-push_chars-in-Twice.ensures.ok c.push_str-in-Twice.ensures.ok;
    }
