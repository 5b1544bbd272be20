use Rattle.std.proofs.Common.{refl, sym, ap, ◌∙◌, Some}
use Rattle.ft_theory.specs.Statements.{boundary_of_claim}
use Rattle.ft_items.specs.Rows.{left_side, right_side, type_part, symmetry, term_boundary}
use Rattle.ft_steps.specs.Parts.{statement_in}
use Rattle.ft_steps.specs.Rows.{equal_to_itself, from_one}
use Rattle.ft_steps.proofs.Concluding.{part_concluded, reflexive_under, boundary_under}
use Rattle.ft_steps.proofs.rows.from_one.Goals as goal

pub returns-in-Refl-clause-is : goal.returns-in-Refl-clause-is
returns-in-Refl-clause-is c = λ ts. part_concluded ts equal_to_itself c.args.x _ c.below.result (c.reflexive.ensures.is ts) (c.below.ensures.is ts) ∙ reflexive_under (statement_in ts c.args.x) ∙ ap (λ r. from_one r (statement_in ts c.args.x)) (sym c.in-Refl.is)

pub returns-in-Refl-clause-below : goal.returns-in-Refl-clause-below
returns-in-Refl-clause-below c = λ n h. c.below.ensures.below n h.0 (c.reflexive.ensures.below n h.1)

pub returns-in-Left-clause-is : goal.returns-in-Left-clause-is
returns-in-Left-clause-is c = λ ts. part_concluded ts left_side c.args.x _ c.below-in-Left.result (c.left_side.ensures.is ts) (c.below-in-Left.ensures.is ts) ∙ ap (λ r. from_one r (statement_in ts c.args.x)) (sym c.in-Left.is)

pub returns-in-Left-clause-below : goal.returns-in-Left-clause-below
returns-in-Left-clause-below c = λ n h. c.below-in-Left.ensures.below n h.0 (c.left_side.ensures.below n h.1)

pub returns-in-Right-clause-is : goal.returns-in-Right-clause-is
returns-in-Right-clause-is c = λ ts. part_concluded ts right_side c.args.x _ c.below-in-Right.result (c.right_side.ensures.is ts) (c.below-in-Right.ensures.is ts) ∙ ap (λ r. from_one r (statement_in ts c.args.x)) (sym c.in-Right.is)

pub returns-in-Right-clause-below : goal.returns-in-Right-clause-below
returns-in-Right-clause-below c = λ n h. c.below-in-Right.ensures.below n h.0 (c.right_side.ensures.below n h.1)

pub returns-in-Typeof-clause-is : goal.returns-in-Typeof-clause-is
returns-in-Typeof-clause-is c = λ ts. part_concluded ts type_part c.args.x _ c.below-in-Typeof.result (c.type_of.ensures.is ts) (c.below-in-Typeof.ensures.is ts) ∙ ap (λ r. from_one r (statement_in ts c.args.x)) (sym c.in-Typeof.is)

pub returns-in-Typeof-clause-below : goal.returns-in-Typeof-clause-below
returns-in-Typeof-clause-below c = λ n h. c.below-in-Typeof.ensures.below n h.0 (c.type_of.ensures.below n h.1)

pub returns-in-Boundary-clause-is : goal.returns-in-Boundary-clause-is
returns-in-Boundary-clause-is c = λ ts. part_concluded ts (λ d. Some (boundary_of_claim d)) c.args.x (Some c.goal_of.result) c.below-in-Boundary.result (ap Some (c.goal_of.ensures.is ts)) (c.below-in-Boundary.ensures.is ts) ∙ boundary_under (statement_in ts c.args.x) ∙ ap (λ r. from_one r (statement_in ts c.args.x)) (sym c.in-Boundary.is)

pub returns-in-Boundary-clause-below : goal.returns-in-Boundary-clause-below
returns-in-Boundary-clause-below c = λ n h. c.below-in-Boundary.ensures.below n h.0 (c.goal_of.ensures.below n h.1)

pub returns-in-Sym-clause-is : goal.returns-in-Sym-clause-is
returns-in-Sym-clause-is c = λ ts. c.plainly.ensures.is ts symmetry c.args.x.claim (λ A u. refl) (c.symmetric.ensures.is ts) ∙ ap (λ r. from_one r (statement_in ts c.args.x)) (sym c.in-Sym.is)

pub returns-in-Sym-clause-below : goal.returns-in-Sym-clause-below
returns-in-Sym-clause-below c = λ n h. c.plainly.ensures.below n h.0 (c.symmetric.ensures.below n h.1)

pub returns-in-Bterm-clause-is : goal.returns-in-Bterm-clause-is
returns-in-Bterm-clause-is c = λ ts. c.plainly-in-Bterm.ensures.is ts term_boundary c.args.x.claim (λ A u. refl) (c.term_boundary.ensures.is ts) ∙ ap (λ r. from_one r (statement_in ts c.args.x)) (sym c.in-Bterm.is)

pub returns-in-Bterm-clause-below : goal.returns-in-Bterm-clause-below
returns-in-Bterm-clause-below c = λ n h. c.plainly-in-Bterm.ensures.below n h.0 (c.term_boundary.ensures.below n h.1)
