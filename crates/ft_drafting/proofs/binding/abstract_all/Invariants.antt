use Rattle.std.proofs.Common.{◌≡◌, take}
use Rattle.ft_kernel.specs.State.{IsBoundaryOf}
use Rattle.ft_meaning.specs.Commands.{abstract_all}
use Rattle.ft_values.specs.Kept.{stated_at}
use Rattle.ft_running.specs.Evaluation.{run_of, GoesFurther}
use Rattle.ft_drafting.specs.Drafting.{bounds_over}
use Rattle.ft_drafting.proofs.binding.abstract_all.Given as goal

abbrev pub invariant-binding : goal.invariant-binding
invariant-binding l = record {
  boundary : IsBoundaryOf l.state.list l.bound;
  further : GoesFurther l.fn.state l.state;
  left : abstract_all (bounds_over l.fn.state (take l.i l.bounds)) (stated_at l.state.list l.bound) (run_of l.state)
      ≡ abstract_all (bounds_over l.fn.state l.bounds) (stated_at l.fn.state.list l.fn.b) (run_of l.fn.state);
}
