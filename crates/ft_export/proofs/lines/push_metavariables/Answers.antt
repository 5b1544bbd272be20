use Rattle.std.proofs.Common.{◌≡◌, ◌<◌, ◌++◌, ◌∷◌, ◌∙◌, [], ap, subst, length, ℕ, Some, slice_get, add-one, rules}
use Rattle.ft_items.specs.Texts.{number, PartsFit}
use Rattle.ft_export.specs.Parts.{parts_text}
use Rattle.ft_export.proofs.Joining.{read_at}
use Rattle.ft_export.proofs.Numbers.{numbers_next, each_fits_next}
use Rattle.ft_export.proofs.lines.push_metavariables.Goals as goal

pub loop-m-preserved : goal.loop-m-preserved
loop-m-preserved c =
    let i : ℕ = c.loop-m.m-index in
    let ns = c.args.items.now in
    let n = c.m-item.result in
    let l : i < length ns = search rules in
    let g : slice_get ns i ≡ Some n = read_at ns i n l c.m-item.is in
    rw add-one (record {
      out = numbers_next ns i n c.args.out.now c.loop-m.out c.push_number.new.out g c.loop-m.invariant.out (c.in_ok-push_number.ensures.ok ∙ ap (λ n. c.loop-m.out ++ parts_text (number n ∷ [])) c.number.ensures);
      fits = each_fits_next ns i n g c.loop-m.invariant.fits (subst (λ n. PartsFit (number n ∷ [])) c.number.ensures c.push_number.ensures.fits).0;
    })
