use Rattle.std.proofs.Common.{◌≡◌, ◌<◌, ◌∙◌, sym, ap, subst, length, List, Some, arith}
use Rattle.std.specs.Prelude.{slice_get}
use Rattle.std.proofs.lemmas.Option.{slice_get-get_or}
use Rattle.ft_meaning.specs.Trees.{ValueType}
use Rattle.ft_types.specs.declared.types.KnownType.TheVariants as known
use Rattle.ft_types.specs.Types.{type_in, type_at}
use Rattle.ft_types.proofs.Rows.{types_len, type_of_row}
use Rattle.ft_types.proofs.types.Types.row.Goals as goal

pub returns-clause-parts : goal.returns-clause-parts
returns-clause-parts c =
    let rows = c.self.inside.rows.items in
    let lt : c.args.place < length rows = omega (arith, c.requires, ap length c.self.view_is, types_len rows) in
    let here : slice_get rows c.args.place ≡ Some c.index.result.now = slice_get-get_or rows c.args.place c.index.result.now lt ∙ ap (λ r. Some r) (sym c.index.ensures) in
    c.self.invariant.fits c.args.place c.index.result.now here

pub returns-clause-means : goal.returns-clause-means
returns-clause-means c =
    let rows = c.self.inside.rows.items in
    let lt : c.args.place < length rows = omega (arith, c.requires, ap length c.self.view_is, types_len rows) in
    let here : slice_get rows c.args.place ≡ Some c.index.result.now = slice_get-get_or rows c.args.place c.index.result.now lt ∙ ap (λ r. Some r) (sym c.index.ensures) in
    sym (subst (λ (ts : List ValueType). type_in ts (known.Compound c.args.place) ≡ type_at ts c.index.result.now) c.self.view_is
    (type_of_row rows c.args.place c.index.result.now c.self.invariant.fits here))
