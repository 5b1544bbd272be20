use Rattle.ft_running.specs.Evaluation.{value_over}
use Rattle.ft_running.proofs.Argued.{term_made}
use Rattle.ft_running.proofs.Further.{further_both}
use Rattle.ft_running.proofs.state.State.new_term.Goals as goal

pub returns-in-Ok-keep_judgement-clause-tells : goal.returns-in-Ok-keep_judgement-clause-tells
returns-in-Ok-keep_judgement-clause-tells c =
    term_made c.args.self.now c.new_variable.new.self c.variable.new.self c.keep_judgement.new.self c.args.at c.in-Some.ty c.in-Ok.y c.in-Ok-variable.j c.args.name.now (value_over c.args.self.now c.args.v) c.in-Ok-keep_judgement.term
    c.in-Some.ensures.means c.in-Ok.ensures.tells c.variable.ensures.further c.in-Ok-variable.ensures.tells
    c.in-Ok-keep_judgement.ensures.adds c.in-Ok-keep_judgement.ensures.means c.in-Ok-keep_judgement.ensures.value

pub returns-in-Err-variable-clause-further : goal.returns-in-Err-variable-clause-further
returns-in-Err-variable-clause-further c =
    further_both c.args.self.now c.new_variable.new.self c.variable.new.self c.new_variable.ensures.further c.variable.ensures.further

pub returns-in-Ok-keep_judgement-clause-further : goal.returns-in-Ok-keep_judgement-clause-further
returns-in-Ok-keep_judgement-clause-further c =
    further_both c.args.self.now c.variable.new.self c.keep_judgement.new.self
    (further_both c.args.self.now c.new_variable.new.self c.variable.new.self c.new_variable.ensures.further c.variable.ensures.further)
    c.keep_judgement.ensures.further

pub returns-in-Err-keep_judgement-clause-further : goal.returns-in-Err-keep_judgement-clause-further
returns-in-Err-keep_judgement-clause-further c =
    further_both c.args.self.now c.variable.new.self c.keep_judgement.new.self
    (further_both c.args.self.now c.new_variable.new.self c.variable.new.self c.new_variable.ensures.further c.variable.ensures.further)
    c.keep_judgement.ensures.further
