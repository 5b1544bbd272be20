use Rattle.std.proofs.Common.{◌≡◌, ◌++◌, ◌∷◌, [], subst}
use Rattle.ft_items.specs.Texts.{number, NumberFits}
use Rattle.ft_export.specs.Parts.{parts_text}
use Rattle.std.proofs.lemmas.Result.{on_ok_weaker}
use Rattle.ft_export.proofs.Encoding.{variable_line}
use Rattle.ft_export.proofs.lines.push_variable.Goals as goal

pub returns : goal.returns
returns c =
    let x = c.args.x.now in
    let f : NumberFits x.ty = subst NumberFits c.number.ensures c.push_number-2.ensures.fits.0 in
    record {
      ok = on_ok_weaker c.push_number-2.result (λ h. variable_line x.number x.name x.ty c.args.out.now c.push_str.new.self c.push_number.new.out c.push_name.new.out c.push_number-2.new.out
          c.push_number.ensures.fits.0 c.in_ok-push_name.ensures.token f c.in_ok-push_str.ensures.ok c.in_ok-push_number.ensures.ok c.in_ok-push_name.ensures.ok
          (subst (λ n. c.push_number-2.new.out ≡ c.push_name.new.out ++ parts_text (number n ∷ [])) c.number.ensures h)) c.push_number-2.ensures.ok;
    }
