use Rattle.std.proofs.Common.{rules, add-one, length, ◌<◌, None, get_or}
use Rattle.std.proofs.lemmas.List.{get_or_default}
use Rattle.ft_syntax.specs.declared.index.Link.{Link}
use Rattle.ft_syntax.proofs.Chained.{relink_more}
use Rattle.ft_syntax.proofs.index.chained_anew.Goals as goal

pub loop-link-preserved : goal.loop-link-preserved
loop-link-preserved c =
    let none : Link = record { mark = None; earlier = None } in
    let i = c.loop-link.link-index in
    let within : i < length c.args.old.now = search rules in
    rw add-one (relink_more c.args.old.now c.loop-link.links.items c.chain.new.links.items i c.loop-link.heads.items c.chain.new.heads.items (get_or c.args.old.now i none) c.loop-link.invariant within (get_or_default c.args.old.now i none _ within)
    c.chain.ensures.length c.chain.ensures.chained c.in_ok-chain.ensures.ok)
