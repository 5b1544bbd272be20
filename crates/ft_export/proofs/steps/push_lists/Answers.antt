use Rattle.std.proofs.Common.{◌≡◌, ◌++◌, ◌∷◌, subst}
use Rattle.ft_items.specs.Texts.{number, slash, PartsFit}
use Rattle.ft_export.specs.Parts.{numbers, parts_text}
use Rattle.std.proofs.lemmas.Result.{on_ok_weaker}
use Rattle.ft_export.proofs.Numbers.{slash_more, parts_fit_append}
use Rattle.ft_export.proofs.steps.push_lists.Goals as goal

pub returns-clause-ok : goal.returns-clause-ok
returns-clause-ok c =
    on_ok_weaker c.push_numbers.result (λ h. slash_more c.args.word.now (number c.args.a ∷ numbers c.args.ps.now) (numbers c.args.es.now) c.args.out.now c.push_list.new.out c.push_str.new.self c.push_numbers.new.out
    c.in_ok-push_list.ensures.ok c.in_ok-push_str.ensures.ok (subst (λ ns. c.push_numbers.new.out ≡ c.push_str.new.self ++ parts_text (numbers ns)) c.items.ensures h)) c.push_numbers.ensures.ok

pub returns-clause-fits : goal.returns-clause-fits
returns-clause-fits c =
    on_ok_weaker c.push_numbers.result (λ h. parts_fit_append (number c.args.a ∷ numbers c.args.ps.now) (slash ∷ numbers c.args.es.now) c.in_ok-push_list.ensures.fits
    (subst (λ ns. PartsFit (numbers ns)) c.items.ensures h)) c.push_numbers.ensures.fits
