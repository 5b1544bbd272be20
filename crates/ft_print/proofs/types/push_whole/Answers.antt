use Rattle.std.proofs.Common.{◌∙◌, sym, ap, refl, codes, arith}
use Rattle.ft_meaning.specs.Trees.{list, option}
use Rattle.ft_types.specs.Types.{type_in}
use Rattle.ft_print.proofs.Pieces.{pair_put, member_put}
use Rattle.ft_print.proofs.types.push_whole.Goals as goal

pub returns-in_ok-push-in-Pair-3 : goal.returns-in_ok-push-in-Pair-3
returns-in_ok-push-in-Pair-3 c =
    let ts = c.args.ty.now.types in
    pair_put ts c.args.t c.in-Pair.first c.in-Pair.second c.args.out.now c.args.left.now.items c.push.new.self.items c.push-in-Pair.new.self.items c.push-in-Pair-2.new.self.items
    c.requires.all_within c.in-Pair.ensures.parts (ap (type_in ts) c.in-Compound.is ∙ sym c.in-Pair.ensures.means)
    c.in_ok-push-in-Pair.ensures.items c.in_ok-push-in-Pair-2.ensures.items c.in_ok-push-in-Pair-3.ensures.items

pub returns-in_ok-push-in-List : goal.returns-in_ok-push-in-List
returns-in_ok-push-in-List c =
    let ts = c.args.ty.now.types in
    member_put ts c.args.t c.in-List.of (list (type_in ts c.in-List.of)) c.args.out.now (codes "list ") c.push_str-in-List.new.self c.args.left.now.items c.push-in-List.new.self.items
    c.requires.all_within c.in-List.ensures.parts (ap (type_in ts) c.in-Compound.is ∙ sym c.in-List.ensures.means) refl (omega arith)
    c.in_ok-push_str-in-List.ensures.ok c.in_ok-push-in-List.ensures.items

pub returns-in_ok-push-in-Opt : goal.returns-in_ok-push-in-Opt
returns-in_ok-push-in-Opt c =
    let ts = c.args.ty.now.types in
    member_put ts c.args.t c.in-Opt.of (option (type_in ts c.in-Opt.of)) c.args.out.now (codes "option ") c.push_str-in-Opt.new.self c.args.left.now.items c.push-in-Opt.new.self.items
    c.requires.all_within c.in-Opt.ensures.parts (ap (type_in ts) c.in-Compound.is ∙ sym c.in-Opt.ensures.means) refl (omega arith)
    c.in_ok-push_str-in-Opt.ensures.ok c.in_ok-push-in-Opt.ensures.items
