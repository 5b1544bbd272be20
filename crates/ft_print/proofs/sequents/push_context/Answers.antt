use Rattle.std.proofs.Common.{◌<◌, ℕ, get_or, length, add-one, rules}
use Rattle.std.proofs.lemmas.Option.{slice_get-get_or}
use Rattle.ft_assume.specs.declared.atom.Atom.TheVariants.{Met}
use Rattle.ft_items.specs.Store.{declared_by}
use Rattle.ft_print.proofs.Members.{member_next}
use Rattle.ft_print.proofs.sequents.push_context.Goals as goal

pub loop-i-preserved : goal.loop-i-preserved
loop-i-preserved c =
    let atoms = c.args.atoms.now in
    let i : ℕ = c.loop-i.i in
    let l : i < length atoms = search rules in
    rw add-one (member_next (declared_by c.args.k.now.items) c.args.variables.now atoms i (get_or atoms i (Met 0)) c.before-in-loop-i.result.now c.args.out.now c.loop-i.out c.push_str.new.self c.push_member.new.out (slice_get-get_or atoms i (Met 0) l)
    c.before-in-loop-i.ensures.first c.before-in-loop-i.ensures.further c.loop-i.invariant c.in_ok-push_str.ensures.ok c.in_ok-push_member.ensures.ok)
