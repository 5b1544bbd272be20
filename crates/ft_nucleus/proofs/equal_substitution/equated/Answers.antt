use Rattle.std.proofs.Common.{length}
use Rattle.ft_syntax.specs.Table.{tree}
use Rattle.ft_judge.specs.Laws.{thesis_below_extends}
use Rattle.ft_nucleus.proofs.Equating.{left_opened_small, right_opened_small, equation_is, opened_form}
use Rattle.ft_nucleus.proofs.equal_substitution.equated.Goals as goal

pub opened_head-requires-clause-thesis : goal.opened_head-requires-clause-thesis
opened_head-requires-clause-thesis c = thesis_below_extends c.args.k.now.trees c.open_first.new.self.trees c.args.x.now c.open_first.ensures.goes_on c.requires.thesis

pub equal_to-form-requires : goal.equal_to-form-requires
equal_to-form-requires c =
    opened_form c.args.k.now.trees c.open_first.new.self.trees c.args.x.now c.in-Ok.opened (tree c.args.k.now.trees c.args.left) c.requires.head c.in-Ok.ensures.thesis

pub returns-in-Err-clause-too_big : goal.returns-in-Err-clause-too_big
returns-in-Err-clause-too_big c = λ e small. c.in-Err.ensures.too_big e (left_opened_small c.args.k.now.trees c.args.x.now c.args.left c.args.right c.requires.domain c.requires.head small)

pub returns-in-Err-opened_head-clause-too_big : goal.returns-in-Err-opened_head-clause-too_big
returns-in-Err-opened_head-clause-too_big c = λ e small.
    c.in-Err-opened_head.ensures.too_big e (right_opened_small c.args.k.now.trees c.open_first.new.self.trees c.args.x.now c.args.left c.args.right c.open_first.ensures.goes_on c.requires.thesis c.requires.sides.1 c.requires.domain c.requires.head small)

pub returns-clause-within : goal.returns-clause-within
returns-clause-within c =
    let n = length c.opened_head.new.k.trees in
    let h = thesis_below_extends c.open_first.new.self.trees c.opened_head.new.k.trees c.in-Ok.opened c.opened_head.ensures.stays.1 c.in-Ok.ensures.within in
    (h.0, c.equal_to-form.ensures.below n h.1 c.in-Ok-opened_head.ensures.within)

pub returns-clause-equation : goal.returns-clause-equation
returns-clause-equation c =
    equation_is c.args.k.now.trees c.open_first.new.self.trees c.opened_head.new.k.trees c.args.x.now c.in-Ok.opened c.args.left c.args.right c.in-Ok-opened_head.head c.equal_to-form.result
    c.open_first.ensures.goes_on c.opened_head.ensures.stays.1 c.requires.thesis c.requires.sides.1 c.in-Ok.ensures.within c.requires.domain c.requires.head c.in-Ok.ensures.thesis c.equal_to-form.ensures.equation c.in-Ok-opened_head.ensures.tree
