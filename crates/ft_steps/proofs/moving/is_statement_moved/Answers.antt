use Rattle.std.proofs.Common.{rules, ◌≡◌, ◌≢◌, true, length}
use Rattle.std.proofs.lemmas.Result.{IfOk-weaker}
use Rattle.ft_steps.specs.Parts.{claim_in}
use Rattle.ft_steps.proofs.Moves.{other_number, moved_under}
use Rattle.ft_steps.proofs.moving.is_statement_moved.Goals as goal

pub returns-then-xs-ys : goal.returns-then-xs-ys
returns-then-xs-ys c =
    let T = c.args.terms.now in
    let other : length c.args.xs.now ≢ length c.args.ys.now = search rules in
    other_number T c.args.work.now c.args.xs.now c.args.ys.now (claim_in T c.args.c) (claim_in T c.args.d) other

pub returns-then-branch : goal.returns-then-branch
returns-then-branch c =
    let T = c.args.terms.now in
    let yes : c.in_ok-are_domains_moved.field-0 ≡ true = search rules in
    IfOk-weaker c.is_claim_moved.result _ _ (λ a h. moved_under T c.args.work.now c.args.xs.now c.args.ys.now (claim_in T c.args.c) (claim_in T c.args.d) _ a c.in_ok-are_domains_moved.ensures yes h) c.is_claim_moved.ensures
