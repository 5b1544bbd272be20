use Rattle.std.proofs.Common.{◌∙◌, sym, ap}
use Rattle.ft_print.proofs.Pieces.{pair_inside, other_inside}
use Rattle.ft_print.proofs.types.push_inside.Goals as goal
use Rattle.ft_print.proofs.types.push_inside.Goals.{then-is_pair+in_ok-push_str+in_ok-push, else-is_pair}

pub returns : goal.returns
returns c =
    let ts = c.args.ty.now.types in
    let old = c.args.out.now in
    let ps = c.args.left.now.items in
    elim c.if-is_pair.branch [
      | then-is_pair+in_ok-push_str+in_ok-push w ↦
          pair_inside ts c.args.t old c.if-is_pair.out ps c.if-is_pair.left.items c.push-2.new.self.items c.requires.all_within c.requires.within
          (sym c.is_pair.ensures ∙ w.if-is_pair.true) (w.out-is ∙ w.in_ok-push_str.ensures.ok) (ap (λ l. l.items) w.left-is ∙ w.in_ok-push.ensures.items) c.in_ok-push-2.ensures.items
      | else-is_pair w ↦
          other_inside ts c.args.t old c.if-is_pair.out ps c.if-is_pair.left.items c.push-2.new.self.items c.requires.all_within c.requires.within
          (sym c.is_pair.ensures ∙ w.if-is_pair.false) w.out-is (ap (λ l. l.items) w.left-is) c.in_ok-push-2.ensures.items
    ]
