use Rattle.std.proofs.Common.{rules, ◌≡◌, ◌∙◌, ◌<◌, sym, ap, subst, length, [], ◌∷◌, List, Some, None}
use Rattle.std.specs.Prelude.{cond}
use Rattle.std.specs.Map.{lookup}
use Rattle.ft_meaning.specs.Trees.{ValueType}
use Rattle.ft_types.specs.declared.types.KnownType.TheVariants as known
use Rattle.ft_types.specs.Types.{type_in, type_at, types_of, same_row, FitsBelow}
use Rattle.ft_types.proofs.Rows.{row_found, row_made, table_push, types_len, types_more}
use Rattle.ft_types.proofs.types.Types.of_row.Goals as goal

pub returns-in-Some-clause-below : goal.returns-in-Some-clause-below
returns-in-Some-clause-below c =
    let t = c.self.inside in
    let found : lookup (same_row c.args.row) t.places.entries ≡ Some c.in-Some.place = search rules in
    subst (λ (ts : List ValueType). c.in-Some.place < length ts) c.self.view_is (row_found t.rows.items t.places.entries c.args.row c.in-Some.place c.self.invariant found).0

pub returns-in-Some-clause-means : goal.returns-in-Some-clause-means
returns-in-Some-clause-means c =
    let t = c.self.inside in
    let found : lookup (same_row c.args.row) t.places.entries ≡ Some c.in-Some.place = search rules in
    subst (λ (ts : List ValueType). type_in ts (known.Compound c.in-Some.place) ≡ type_at ts c.args.row) c.self.view_is
    (row_found t.rows.items t.places.entries c.args.row c.in-Some.place c.self.invariant found).1

pub invariant_of-self-in_default-insert : goal.invariant_of-self-in_default-insert
invariant_of-self-in_default-insert c =
    let t = c.self.inside in
    let fits : FitsBelow (length t.rows.items) c.args.row =
    subst (λ n. FitsBelow n c.args.row) (ap length (sym c.self.view_is) ∙ types_len t.rows.items) c.requires in
    let none : lookup (same_row c.args.row) t.places.entries ≡ None = search rules in
    let n : c.len-place.result ≡ length t.rows.items = search rules in
    rw c.in_ok-push.ensures.items (table_push t.rows.items t.places.entries c.insert.new.self.entries c.args.row c.self.invariant fits none
    (λ q. c.in_default-insert.ensures.updates.0 q ∙ ap (λ n. cond (same_row c.args.row q) (Some n) (lookup (same_row q) t.places.entries)) n))

pub returns-clause-below : goal.returns-clause-below
returns-clause-below c =
    let t = c.self.inside in
    let n : c.len-place.result ≡ length t.rows.items = search rules in
    rw (c.in_ok-push.ensures.items, n) (row_made t.rows.items c.args.row).0

pub returns-clause-means : goal.returns-clause-means
returns-clause-means c =
    let t = c.self.inside in
    let n : c.len-place.result ≡ length t.rows.items = search rules in
    rw (c.in_ok-push.ensures.items, n, ← c.self.view_is) (row_made t.rows.items c.args.row).1

pub returns-clause-grows : goal.returns-clause-grows
returns-clause-grows c =
    let t = c.self.inside in
    (type_at (types_of t.rows.items) c.args.row ∷ [], rw (c.in_ok-push.ensures.items, ← c.self.view_is) (types_more [] t.rows.items c.args.row))
