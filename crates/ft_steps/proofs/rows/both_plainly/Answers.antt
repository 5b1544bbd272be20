use Rattle.std.proofs.Common.{rules, ◌≡◌, []}
use Rattle.ft_judge.specs.Meaning.{under}
use Rattle.ft_steps.specs.Parts.{plain_in}
use Rattle.ft_steps.proofs.Concluding.{no_length, no_others, some_others}
use Rattle.ft_steps.proofs.rows.both_plainly.Goals as goal

pub returns-then-is_empty-clause-is : goal.returns-then-is_empty-clause-is
returns-then-is_empty-clause-is c =
    let none : c.args.others.now ≡ [] = no_length c.args.others.now (search rules) in
    λ ts f x y h k e. no_others ts f (under ts c.args.domains.now (plain_in ts x)) (plain_in ts y) c.args.others.now _ none
    (c.plainly.ensures.is ts (λ u. f u (plain_in ts y)) x (λ A u. h A u (plain_in ts y)) e)

pub returns-else-is_empty-clause-is : goal.returns-else-is_empty-clause-is
returns-else-is_empty-clause-is c =
    let some : c.args.others.now ≡ [] → ⊥ = search rules in
    λ ts f x y h k e. some_others ts f (under ts c.args.domains.now (plain_in ts x)) (plain_in ts y) c.args.others.now some k
