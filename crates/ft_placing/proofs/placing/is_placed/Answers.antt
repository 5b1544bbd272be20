use Rattle.std.proofs.Common.{rules, ◌≡◌, ◌≢◌, true, false, [], length, sym, ap, ◌∙◌}
use Rattle.ft_judge.specs.Meaning.{goal_in}
use Rattle.ft_steps.specs.Parts.{statement_in}
use Rattle.ft_placing.specs.Sides.{sides_in, types_fit}
use Rattle.ft_placing.proofs.Placed.{goal_refused, other_number, other_types, is_placed_so}
use Rattle.ft_placing.proofs.placing.is_placed.Goals as goal

pub returns-then-not-goal_allows : goal.returns-then-not-goal_allows
returns-then-not-goal_allows c =
    let T = c.args.terms.now in
    let no : c.goal_allows.result ≡ false = search rules in
    goal_refused c.args.at c.args.m T c.args.b.now.domains c.args.b.now.goal (sides_in c.args.at T c.args.list.now) (statement_in T c.args.y.now) c.goal_allows.result (c.goal_allows.ensures T) no

pub returns-then-domains-list : goal.returns-then-domains-list
returns-then-domains-list c =
    let T = c.args.terms.now in
    let other : length c.items-domains.result.now ≢ length c.args.list.now = search rules in
    other_number c.args.at c.args.m T c.args.b.now.domains (goal_in T c.args.b.now.goal) c.args.list.now (statement_in T c.args.y.now) (λ e. other (ap length c.items-domains.ensures ∙ e))

pub returns-then-not-branch : goal.returns-then-not-branch
returns-then-not-branch c =
    let T = c.args.terms.now in
    let no : c.in_ok-do_types_fit.field-0 ≡ false = search rules in
    other_types c.args.at c.args.m T c.args.b.now.domains (goal_in T c.args.b.now.goal) c.args.list.now (statement_in T c.args.y.now) c.in_ok-do_types_fit.field-0
    (c.in_ok-do_types_fit.ensures ∙ ap (λ Ds. types_fit T [] Ds c.args.list.now) c.items-domains.ensures) no

pub returns : goal.returns
returns c =
    let T = c.args.terms.now in
    let may : c.goal_allows.result ≡ true = search rules in
    let fit : c.in_ok-do_types_fit.field-0 ≡ true = search rules in
    let same : length c.items-domains.result.now ≡ length c.args.list.now = search rules in
    is_placed_so c.args.at c.args.m T c.args.b.now.domains c.deref-2.result.now c.deref-3.result.now c.args.b.now.goal c.args.list.now (statement_in T c.args.y.now) c.goal_allows.result c.in_ok-do_types_fit.field-0 c.in_ok-yes.yes
    (c.goal_allows.ensures T) may (c.in_ok-do_types_fit.ensures ∙ ap (λ Ds. types_fit T [] Ds c.args.list.now) c.items-domains.ensures) fit (sym (ap length c.items-domains.ensures) ∙ same)
    (c.deref-2.ensures.value ∙ c.in_ok-put.ensures.are) (c.deref-3.ensures.value ∙ c.in_ok-others.ensures.are) c.in_ok-yes.ensures
