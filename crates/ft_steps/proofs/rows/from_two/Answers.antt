use Rattle.std.proofs.Common.{refl, sym, ap, ◌∙◌, length}
use Rattle.ft_items.specs.Rows.{transitivity, conversion, equation_conversion, type_equation_boundary}
use Rattle.ft_steps.specs.Parts.{statement_in}
use Rattle.ft_steps.specs.Rows.{from_two}
use Rattle.ft_steps.proofs.Concluding.{transitivity_second, conversion_second, equation_second, types_second}
use Rattle.ft_steps.proofs.rows.from_two.Goals as goal

pub returns-in-Trans-clause-is : goal.returns-in-Trans-clause-is
returns-in-Trans-clause-is c =
    let T = c.args.terms.now in
    c.both_plainly.ensures.is T transitivity c.args.x.claim c.args.y.claim (λ A u v. refl) transitivity_second c.transitive.ensures.is ∙ ap (λ r. from_two r (statement_in T c.args.x) (statement_in T c.args.y)) (sym c.in-Trans.is)

pub returns-in-Conv-clause-is : goal.returns-in-Conv-clause-is
returns-in-Conv-clause-is c =
    let T = c.args.terms.now in
    c.both_plainly-in-Conv.ensures.is T conversion c.args.x.claim c.args.y.claim (λ A u v. refl) conversion_second c.converted.ensures.is ∙ ap (λ r. from_two r (statement_in T c.args.x) (statement_in T c.args.y)) (sym c.in-Conv.is)

pub returns-in-Conveq-clause-is : goal.returns-in-Conveq-clause-is
returns-in-Conveq-clause-is c =
    let T = c.args.terms.now in
    c.both_plainly-in-Conveq.ensures.is T equation_conversion c.args.x.claim c.args.y.claim (λ A u v. refl) equation_second c.converted_equation.ensures.is ∙ ap (λ r. from_two r (statement_in T c.args.x) (statement_in T c.args.y)) (sym c.in-Conveq.is)

pub returns-in-Beqty-clause-is : goal.returns-in-Beqty-clause-is
returns-in-Beqty-clause-is c =
    let T = c.args.terms.now in
    c.both_plainly-in-Beqty.ensures.is T type_equation_boundary c.args.x.claim c.args.y.claim (λ A u v. refl) types_second (c.type_equation.ensures.is c.args.terms.now) ∙ ap (λ r. from_two r (statement_in T c.args.x) (statement_in T c.args.y)) (sym c.in-Beqty.is)

pub returns-in-Beqty-clause-below : goal.returns-in-Beqty-clause-below
returns-in-Beqty-clause-below c =
    let n = length c.args.terms.now in
    c.both_plainly-in-Beqty.ensures.below n c.requires.x.0 (c.type_equation.ensures.below n c.requires.x.1 c.requires.y.1)
