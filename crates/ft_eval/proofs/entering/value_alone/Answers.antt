use Rattle.std.proofs.Common.{sym, subst, map, Some}
use Rattle.ft_meaning.specs.Trees.{forms, form}
use Rattle.ft_meaning.specs.Forms.{value_or_rule}
use Rattle.ft_running.specs.Evaluation.{run_of, value_over}
use Rattle.ft_running.specs.Telling.{TellsEnd}
use Rattle.ft_eval.proofs.Terms.{named_alone}
use Rattle.ft_eval.proofs.entering.value_alone.Goals as goal

pub returns-in-len1-up-clause-turns : goal.returns-in-len1-up-clause-turns
returns-in-len1-up-clause-turns c = λ o.
    subst (λ e. TellsEnd (value_or_rule (Some (value_over c.args.state.now c.args.v)) (forms (map form c.args.es.now)) o (run_of c.args.state.now)) e c.args.state.now)
    (sym c.halts.ensures)
    (λ no. (tt, named_alone c.args.es.now (value_over c.args.state.now c.args.v) o (run_of c.args.state.now) c.in-len1-up.len_at_least))
