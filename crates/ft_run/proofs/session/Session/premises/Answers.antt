use Rattle.std.proofs.Common.{◌≡◌, ◌∙◌, ◌<◌, ◌+◌, subst, ℕ, suc, Some, length, take, arith, rules}
use Rattle.ft_items.specs.Store.{metavariables_in}
use Rattle.ft_judge.specs.Meaning.{goal_in}
use Rattle.ft_applications_meaning.specs.Building.{premise_names}
use Rattle.ft_run.specs.Session.{boundaries_in}
use Rattle.ft_run.specs.Asking.{goal_of_new}
use Rattle.ft_run.proofs.Going.{goes_then}
use Rattle.ft_run.proofs.Premises.{IsAskedFor, fits_next, long_next, made_next, premises_next}
use Rattle.ft_run.proofs.session.Session.premises.Goals as goal

pub loop-i-preserved : goal.loop-i-preserved
loop-i-preserved c =
    let i : ℕ = c.loop-i.i in
    let m : ℕ = length (metavariables_in c.args.self.now.state.items) in
    let one : suc i ≡ i + 1 = omega arith in
    let below : c.loop-i.i < length c.args.premises.now = search rules in
    let number : c.in_ok-goal.field-0.met ≡ m + i = c.in_ok-goal.ensures.number ∙ c.loop-i.invariant.count in
    let asked : goal_of_new c.loop-i.self.rules (premise_names (take i c.args.premises.now)) c.index-premises-i.result ≡ Some (goal_in c.premise.new.self.state.trees c.in_ok-goal.field-0.goal) = c.in_ok-goal.ensures.goal in
    record {
      fits = fits_next c.loop-i.self c.premise.new.self c.loop-i.goals.items c.push.new.self.items c.in_ok-goal.field-0.goal c.premise.ensures.goes c.loop-i.invariant.fits c.in_ok-goal.ensures.fits c.in_ok-push.ensures.items;
      long = long_next c.loop-i.goals.items c.push.new.self.items c.in_ok-goal.field-0.goal i c.loop-i.invariant.long c.in_ok-push.ensures.items ∙ one;
      made = made_next c.loop-i.self c.premise.new.self m i c.loop-i.goals.items c.push.new.self.items c.loop-i.mets c.push-in-loop-i.new.self c.in_ok-goal.field-0.goal c.in_ok-goal.field-0.met
          c.premise.ensures.goes c.loop-i.invariant.fits c.loop-i.invariant.made c.loop-i.invariant.long number c.in_ok-goal.ensures.met c.in_ok-push.ensures.items c.in_ok-push-2.ensures.ok;
      premises = subst (λ k. IsAskedFor c.args.self.now.rules m c.args.premises.now k (boundaries_in c.premise.new.self.state.trees c.push.new.self.items)) one
          (premises_next c.loop-i.self c.premise.new.self c.args.self.now.rules m c.args.premises.now i c.index-premises-i.result c.loop-i.goals.items c.push.new.self.items c.in_ok-goal.field-0.goal
          c.premise.ensures.goes c.loop-i.invariant.fits c.loop-i.invariant.goes.rules below c.index-premises-i.is c.loop-i.invariant.long asked c.in_ok-push.ensures.items c.loop-i.invariant.premises);
      count = let z = c.in_ok-goal.ensures.count in let y = c.loop-i.invariant.count in omega (arith, z, y);
      goes = goes_then c.args.self.now c.loop-i.self c.premise.new.self c.loop-i.invariant.goes c.premise.ensures.goes;
    }
