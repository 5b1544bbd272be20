use Rattle.std.proofs.Common.{◌≡◌, ◌++◌, ◌∷◌, [], subst}
use Rattle.ft_items.specs.Texts.{number, NumberFits}
use Rattle.ft_export.specs.Parts.{parts_text}
use Rattle.std.proofs.lemmas.Result.{on_ok_weaker}
use Rattle.ft_export.proofs.Encoding.{shown_line}
use Rattle.ft_export.proofs.lines.push_mark.Goals as goal

pub returns : goal.returns
returns c =
    let f : NumberFits c.args.j = subst NumberFits c.number.ensures c.push_number.ensures.fits.0 in
    record {
      ok = on_ok_weaker c.push_number.result (λ h. shown_line c.args.j c.args.out.now c.push_str.new.self c.push_number.new.out f c.in_ok-push_str.ensures.ok
          (subst (λ n. c.push_number.new.out ≡ c.push_str.new.self ++ parts_text (number n ∷ [])) c.number.ensures h)) c.push_number.ensures.ok;
    }
