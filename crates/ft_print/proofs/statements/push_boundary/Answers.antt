use Rattle.ft_items.specs.Store.{declared_by}
use Rattle.ft_judge.specs.Meaning.{goal_in}
use Rattle.ft_print.proofs.Below.{statement_written}
use Rattle.ft_print.proofs.statements.push_boundary.Goals as goal

pub returns : goal.returns
returns c =
    let ts = c.args.k.now.trees in
    record {
      ok = statement_written c.push_goal.result (declared_by c.args.k.now.items) c.args.variables.now ts c.items-domains.result.now c.args.x.now.domains (goal_in ts c.args.x.now.goal) c.args.out.now c.push_domains.new.out c.push_goal.new.out
          c.items-domains.ensures c.in_ok-push_domains.ensures.ok c.push_goal.ensures.ok;
    }
