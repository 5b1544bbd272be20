use Rattle.std.proofs.Common.{◌≡◌, ◌+◌, length}
use Rattle.ft_items.specs.Store.{metavariables_in}
use Rattle.ft_run.specs.Session.{AllFitGoals, AreMade, goals_in, boundaries_in, GoesOn}
use Rattle.ft_run.proofs.Premises.{IsAskedFor}
use Rattle.ft_run.proofs.session.Session.premises.Given as goal

abbrev pub invariant-loop-i : goal.invariant-loop-i
invariant-loop-i l = record {
  fits : AllFitGoals l.self.state.trees l.goals.items;
  long : length l.goals.items ≡ l.i;
  made : AreMade l.self.state (length (metavariables_in l.fn.self.state.items)) (goals_in l.self.state.trees l.goals.items) l.mets;
  premises : IsAskedFor l.fn.self.rules (length (metavariables_in l.fn.self.state.items)) l.premises l.i (boundaries_in l.self.state.trees l.goals.items);
  count : length (metavariables_in l.self.state.items) ≡ length (metavariables_in l.fn.self.state.items) + l.i;
  goes : GoesOn l.fn.self l.self;
}
