use Rattle.std.proofs.Common.{rules, ◌≡◌, []}
use Rattle.ft_items.specs.Rows.{term_equation_boundary}
use Rattle.ft_steps.specs.Parts.{plain_in, statement_in}
use Rattle.std.proofs.Common.{refl}
use Rattle.ft_steps.proofs.Concluding.{no_length, no_others, some_others, terms_second, terms_third}
use Rattle.ft_steps.proofs.rows.from_three.Goals as goal

pub returns-then-is_empty-clause-is : goal.returns-then-is_empty-clause-is
returns-then-is_empty-clause-is c =
    let none : c.args.z.domains.now ≡ [] = no_length c.args.z.domains.now (search rules) in
    let T = c.args.terms.now in
    no_others T (term_equation_boundary (statement_in T c.args.x)) (statement_in T c.args.y) (plain_in T c.args.z.claim) c.args.z.domains.now _ none
    (c.both_plainly.ensures.is T (λ u v. term_equation_boundary u v (plain_in T c.args.z.claim)) c.args.x.claim c.args.y.claim (λ A u v. refl) (λ A u v. terms_second A u v (plain_in T c.args.z.claim)) c.term_equation-concluded.ensures.is)

pub returns-else-is_empty-clause-is : goal.returns-else-is_empty-clause-is
returns-else-is_empty-clause-is c =
    let some : c.args.z.domains.now ≡ [] → ⊥ = search rules in
    let T = c.args.terms.now in
    some_others T (term_equation_boundary (statement_in T c.args.x)) (statement_in T c.args.y) (plain_in T c.args.z.claim) c.args.z.domains.now some (λ A u v. terms_third A (statement_in T c.args.x) u v)
