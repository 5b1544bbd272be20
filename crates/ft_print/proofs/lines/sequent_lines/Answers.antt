use Rattle.std.proofs.Common.{◌<◌, ℕ, refl, sym, subst, length, add-one, rules}
use Rattle.std.proofs.lemmas.Option.{slice_get_read}
use Rattle.ft_items.specs.Store.{declared_by}
use Rattle.ft_kernel.specs.State.{entry_at, IsThesisOf}
use Rattle.ft_print.proofs.Listed.{lines_next}
use Rattle.ft_print.proofs.lines.sequent_lines.Goals as goal

pub push_sequent-requires : goal.push_sequent-requires
push_sequent-requires c =
    let l : c.loop-j.j-index < length c.args.js.now = search rules in
    subst (IsThesisOf c.args.k.now) (sym c.j-item.is) (c.requires c.loop-j.j-index c.j-item.result l)

pub loop-j-preserved : goal.loop-j-preserved
loop-j-preserved c =
    let js = c.args.js.now in
    let i : ℕ = c.loop-j.j-index in
    let l : i < length js = search rules in
    rw add-one (lines_next (declared_by c.args.k.now.items) (entry_at c.args.k.now) js i c.j-item.result c.loop-j.out c.push_sequent.new.out c.push_str.new.self (slice_get_read js (length js) i c.j-item.result refl l c.j-item.is) c.loop-j.invariant
    c.in_ok-push_sequent.ensures.ok c.in_ok-push_str.ensures.ok)
