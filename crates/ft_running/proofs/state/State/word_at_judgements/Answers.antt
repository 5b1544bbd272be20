use Rattle.ft_meaning.specs.Values as meaning
use Rattle.std.proofs.Common.{subst}
use Rattle.ft_meaning.specs.Forms.{word_at_two}
use Rattle.ft_values.specs.Kept.{stated_at}
use Rattle.ft_running.specs.Evaluation.{Evaluation, run_of, GoesFurther, with_list}
use Rattle.ft_running.specs.Telling.{TellsValue}
use Rattle.ft_running.proofs.Further.{further_both}
use Rattle.ft_running.proofs.Called.{leaves_evaluation, leaves_goes}
use Rattle.ft_running.proofs.state.State.word_at_judgements.Goals as goal

pub invariant_of-self : goal.invariant_of-self
invariant_of-self c = leaves_evaluation (record { list = c.self.inside.kernel; values = c.self.inside.values; scopes = c.self.inside.scopes; top = c.self.inside.top; units = c.self.inside.units }) c.word_at_two-answer.new.k c.self.invariant (c.word_at_two-answer.ensures.told c.args.second).leaves

pub concluded-requires : goal.concluded-requires
concluded-requires c = (c.word_at_two-answer.ensures.told c.args.second).kind

pub returns-clause-tells : goal.returns-clause-tells
returns-clause-tells c =
    subst (λ (e : Evaluation). TellsValue (word_at_two c.args.at c.args.second c.args.word (meaning.judgement (stated_at e.list c.args.i)) (meaning.judgement (stated_at e.list c.args.j)) (run_of e)) c.concluded.result c.concluded.new.self)
    c.self.view_is
    (c.concluded.ensures.tells (word_at_two c.args.at c.args.second c.args.word (meaning.judgement (stated_at c.self.inside.kernel c.args.i)) (meaning.judgement (stated_at c.self.inside.kernel c.args.j)) (run_of (record { list = c.self.inside.kernel; values = c.self.inside.values; scopes = c.self.inside.scopes; top = c.self.inside.top; units = c.self.inside.units })))
    ((c.word_at_two-answer.ensures.told c.args.second).tells c.self.inside.units))

pub returns-clause-further : goal.returns-clause-further
returns-clause-further c =
    subst (λ e. GoesFurther e c.concluded.new.self) c.self.view_is
    (further_both (record { list = c.self.inside.kernel; values = c.self.inside.values; scopes = c.self.inside.scopes; top = c.self.inside.top; units = c.self.inside.units }) (with_list c.word_at_two-answer.new.k (record { list = c.self.inside.kernel; values = c.self.inside.values; scopes = c.self.inside.scopes; top = c.self.inside.top; units = c.self.inside.units })) c.concluded.new.self
    (leaves_goes (record { list = c.self.inside.kernel; values = c.self.inside.values; scopes = c.self.inside.scopes; top = c.self.inside.top; units = c.self.inside.units }) c.word_at_two-answer.new.k (c.word_at_two-answer.ensures.told c.args.second).leaves) c.concluded.ensures.further)
