use Rattle.std.proofs.Common.{◌≡◌, ◌++◌, ◌∷◌, [], subst}
use Rattle.ft_items.specs.Texts.{number, NumberFits, EachNumberFits}
use Rattle.ft_export.specs.Parts.{parts_text, numbers}
use Rattle.std.proofs.lemmas.Result.{on_ok_weaker}
use Rattle.ft_export.proofs.Encoding.{rule_line}
use Rattle.ft_export.proofs.lines.push_rule.Goals as goal

pub returns : goal.returns
returns c =
    let x = c.args.x.now in
    let f : NumberFits x.conclusion = subst NumberFits c.number.ensures c.push_number.ensures.fits.0 in
    let fs : EachNumberFits x.premises = subst EachNumberFits c.items.ensures c.in_ok-push_metavariables.ensures.fits in
    record {
      ok = on_ok_weaker c.push_number.result (λ h. rule_line x.name x.premises x.conclusion c.args.out.now c.push_str.new.self c.push_name.new.out c.push_metavariables.new.out c.push_str-2.new.self c.push_number.new.out
          c.in_ok-push_name.ensures.token fs f c.in_ok-push_str.ensures.ok c.in_ok-push_name.ensures.ok
          (subst (λ ns. c.push_metavariables.new.out ≡ c.push_name.new.out ++ parts_text (numbers ns)) c.items.ensures c.in_ok-push_metavariables.ensures.ok) c.in_ok-push_str-2.ensures.ok
          (subst (λ n. c.push_number.new.out ≡ c.push_str-2.new.self ++ parts_text (number n ∷ [])) c.number.ensures h)) c.push_number.ensures.ok;
    }
