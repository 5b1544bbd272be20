use Rattle.std.proofs.Common.{◌≡◌, ◌+◌, ◌∙◌, length, map, drop, sym, ap, subst, arith}
use Rattle.ft_theory.specs.Statements.{AllOfClaim}
use Rattle.ft_theory.specs.Small.{IsSmall}
use Rattle.ft_syntax.specs.Table.{tree}
use Rattle.ft_judge.specs.Meaning.{goal_in}
use Rattle.ft_judge.specs.Moving.{moved_list, AreSmall}
use Rattle.ft_judge.specs.declared.moving.Move.TheVariants.{Open}
use Rattle.ft_syntax.specs.Laws.{all_below_extends}
use Rattle.ft_judge.proofs.Moved.{opened_statement, opened_domains_big, opened_claim_big, goal_after}
use Rattle.ft_judge.proofs.moving.open_first_boundary.Goals as goal

pub returns-in-Err-clause-too_big : goal.returns-in-Err-clause-too_big
returns-in-Err-clause-too_big c = λ e. opened_domains_big c.args.t.now c.args.by c.args.x.now.domains (goal_in c.args.t.now c.args.x.now.goal) c.requires.domain (λ s. c.in-Err.ensures.too_big e (subst (λ xs. AreSmall (moved_list c.args.t.now (Open c.args.by) 0 (map (tree c.args.t.now) (drop 1 xs)))) (sym c.items.ensures) s))

pub returns-in-Ok-move_goal-clause-within : goal.returns-in-Ok-move_goal-clause-within
returns-in-Ok-move_goal-clause-within c = (all_below_extends c.open_domains.new.t c.move_goal.new.t c.in-Ok.domains c.in-Ok-move_goal.ensures.goes_on c.in-Ok.ensures.within, c.in-Ok-move_goal.ensures.within)

pub returns-in-Ok-move_goal-clause-boundary : goal.returns-in-Ok-move_goal-clause-boundary
returns-in-Ok-move_goal-clause-boundary c =
    let n : length c.items-2.result.now + 1 ≡ length c.args.x.now.domains = omega (arith, ap length c.items-2.ensures, ap length c.items.ensures, c.in-Ok.ensures.count) in
    let d : map (tree c.open_domains.new.t) c.in-Ok.domains ≡ moved_list c.args.t.now (Open c.args.by) 0 (map (tree c.args.t.now) (drop 1 c.args.x.now.domains)) = c.in-Ok.ensures.domains ∙ ap (λ xs. moved_list c.args.t.now (Open c.args.by) 0 (map (tree c.args.t.now) (drop 1 xs))) c.items.ensures in
    opened_statement c.args.t.now c.open_domains.new.t c.move_goal.new.t c.args.by (length c.items-2.result.now) c.args.x.now.domains c.in-Ok.domains (goal_in c.args.t.now c.args.x.now.goal) (goal_in c.move_goal.new.t c.in-Ok-move_goal.goal) c.requires.domain c.in-Ok-move_goal.ensures.goes_on c.in-Ok.ensures.within d n (c.in-Ok-move_goal.ensures.claim ∙ goal_after c.args.t.now c.open_domains.new.t (Open c.args.by) (length c.items-2.result.now) c.args.x.now.goal c.in-Ok.ensures.goes_on c.requires.boundary.1 c.requires.by)

pub returns-in-Err-move_goal-clause-too_big : goal.returns-in-Err-move_goal-clause-too_big
returns-in-Err-move_goal-clause-too_big c =
    let n : length c.items-2.result.now + 1 ≡ length c.args.x.now.domains = omega (arith, ap length c.items-2.ensures, ap length c.items.ensures, c.in-Ok.ensures.count) in
    λ e. opened_claim_big c.args.t.now c.args.by (length c.items-2.result.now) c.args.x.now.domains (goal_in c.args.t.now c.args.x.now.goal) c.requires.domain n (λ s. c.in-Err-move_goal.ensures.too_big e (subst (AllOfClaim IsSmall) (sym (goal_after c.args.t.now c.open_domains.new.t (Open c.args.by) (length c.items-2.result.now) c.args.x.now.goal c.in-Ok.ensures.goes_on c.requires.boundary.1 c.requires.by)) s))
