use Rattle.std.proofs.Common.{rules, ◌≡◌, ◌∙◌, sym, ap, subst, length, []}
use Rattle.ft_values.specs.Rows.{FitsBelow}
use Rattle.ft_values.proofs.Rows.{row_made, fit_push, kept_len, kept_more}
use Rattle.ft_values.proofs.values.Values.of_row.Goals as goal

pub invariant_of-self-2 : goal.invariant_of-self-2
invariant_of-self-2 c =
    let t = c.self.inside in
    let fits : FitsBelow (length t.rows.items) c.args.row =
    subst (λ n. FitsBelow n c.args.row) (ap length (sym c.self.view_is) ∙ kept_len t.rows.items) c.requires in
    rw c.in_ok-push.ensures.items (fit_push t.rows.items c.args.row c.self.invariant fits)

pub returns-clause-below : goal.returns-clause-below
returns-clause-below c =
    let t = c.self.inside in
    let n : c.len-place.result ≡ length t.rows.items = search rules in
    rw (c.in_ok-push.ensures.items, n) (row_made t.rows.items c.args.row).0

pub returns-clause-means : goal.returns-clause-means
returns-clause-means c =
    let t = c.self.inside in
    let n : c.len-place.result ≡ length t.rows.items = search rules in
    rw (c.in_ok-push.ensures.items, n, ← c.self.view_is) (row_made t.rows.items c.args.row).1

pub returns-clause-list : goal.returns-clause-list
returns-clause-list c =
    let t = c.self.inside in
    rw (c.in_ok-push.ensures.items, ← c.self.view_is) (kept_more [] t.rows.items c.args.row)
