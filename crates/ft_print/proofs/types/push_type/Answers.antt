use Rattle.std.proofs.Common.{length, subst}
use Rattle.ft_meaning.specs.Faults.{type_text}
use Rattle.ft_types.specs.Types.{stands_for}
use Rattle.ft_print.specs.Pieces.{AllWithin}
use Rattle.ft_print.proofs.Pieces.{within_last, within_rest, text_goes_on, less_left}
use Rattle.ft_print.proofs.types.push_type.Goals as goal

pub push_piece-requires-clause-within : goal.push_piece-requires-clause-within
push_piece-requires-clause-within c =
    let n = length c.args.ty.now.types in
    within_last n c.pop.new.self.items c.in-Some.piece (subst (AllWithin n) c.in-Some.ensures.items c.writing.invariant.within)

pub push_piece-requires-clause-all_within : goal.push_piece-requires-clause-all_within
push_piece-requires-clause-all_within c =
    let n = length c.args.ty.now.types in
    within_rest n c.pop.new.self.items c.in-Some.piece (subst (AllWithin n) c.in-Some.ensures.items c.writing.invariant.within)

pub writing-smaller : goal.writing-smaller
writing-smaller c =
    less_left c.args.ty.now.types c.in-Some.piece c.writing.out c.push_piece.new.out c.writing.left.items c.pop.new.self.items c.push_piece.new.left.items
    c.in-Some.ensures.items c.in_ok-push_piece.ensures

pub writing-preserved : goal.writing-preserved
writing-preserved c = record {
  within = c.in_ok-push_piece.ensures.within;
  same =
      text_goes_on c.args.ty.now.types c.in-Some.piece c.args.out.now c.writing.out c.push_piece.new.out (type_text (stands_for c.args.ty.now))
      c.writing.left.items c.pop.new.self.items c.push_piece.new.left.items c.in-Some.ensures.items c.in_ok-push_piece.ensures c.writing.invariant.same;
}
