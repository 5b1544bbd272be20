use Rattle.std.proofs.Common.{◌≡◌, ◌<◌, sym, ap, subst, length, List, arith}
use Rattle.ft_values.specs.Kept.{Kept}
use Rattle.ft_values.specs.declared.values.Value.TheVariants as value
use Rattle.ft_values.specs.Rows.{kept_in, kept_at, kept_of, FitsBelow}
use Rattle.ft_values.proofs.Rows.{kept_len, row_at}
use Rattle.ft_values.proofs.values.Values.row.Goals as goal

pub returns-clause-parts : goal.returns-clause-parts
returns-clause-parts c =
    let rows = c.self.inside.rows.items in
    let lt : c.args.place < length rows = omega (arith, c.requires, ap length c.self.view_is, kept_len rows) in
    subst (FitsBelow c.args.place) (sym c.index.ensures) (row_at rows c.args.place c.index.result.now c.self.invariant lt).0

pub returns-clause-means : goal.returns-clause-means
returns-clause-means c =
    let rows = c.self.inside.rows.items in
    let lt : c.args.place < length rows = omega (arith, c.requires, ap length c.self.view_is, kept_len rows) in
    subst (λ (ks : List Kept). kept_at ks c.index.result.now ≡ kept_in ks (value.At c.args.place)) c.self.view_is
    (subst (λ r. kept_at (kept_of rows) r ≡ kept_in (kept_of rows) (value.At c.args.place)) (sym c.index.ensures)
    (row_at rows c.args.place c.index.result.now c.self.invariant lt).1)
