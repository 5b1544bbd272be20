use Rattle.std.proofs.Common.{◌≡◌, ◌+◌, ◌*◌}
use Rattle.std.specs.Prelude.{max}
use denote.Param.Weighed.{most}
use Rattle.ft_grammar.specs.declared.syntax.Pattern.{size-Pattern}
use Rattle.ft_values.specs.Kept.{stated_at}
use Rattle.ft_running.specs.Evaluation.{run_of, IsScopeIn, environment_of, GoesFurther}
use Rattle.ft_running.proofs.Applied.{arguments_from}
use Rattle.ft_running.proofs.state.State.+matching.Given as goal

abbrev pub decreases-matches : goal.decreases-matches
decreases-matches l = 4 * size-Pattern l.wanted.now

abbrev pub decreases-match_both : goal.decreases-match_both
decreases-match_both l = 4 * (max (size-Pattern l.p.now) (size-Pattern l.q.now)) + 3

abbrev pub decreases-match_argument : goal.decreases-match_argument
decreases-match_argument l = 4 * size-Pattern l.p.now + 1

abbrev pub decreases-match_arguments : goal.decreases-match_arguments
decreases-match_arguments l = 4 * (most size-Pattern l.ps.now) + 2

abbrev pub invariant-match_arguments-matching : goal.invariant-match_arguments-matching
invariant-match_arguments-matching l = record {
  scope : IsScopeIn l.self l.found;
  further : GoesFurther l.fn.self l.self;
  units : l.self.units ≡ l.fn.self.units;
  left : arguments_from l.at l.ps (stated_at l.fn.self.list l.j) l.i (environment_of l.self l.found) (run_of l.self)
      ≡ arguments_from l.at l.ps (stated_at l.fn.self.list l.j) 0 (environment_of l.fn.self l.fn.scope) (run_of l.fn.self);
}
