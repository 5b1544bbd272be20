use Rattle.std.proofs.Common.{subst, IfOk}
use Rattle.ft_judge.specs.Meaning.{claim_in}
use Rattle.ft_kernel.specs.Steps.{step_of}
use Rattle.ft_run.specs.Session.{HasEntry}
use Rattle.ft_run.proofs.Keeping.{session_after, keeps_after, entry_pushed}
use Rattle.ft_run.proofs.session.Session.push.Goals as goal

pub invariant_of-self : goal.invariant_of-self
invariant_of-self c =
    session_after c.push_judgement.result c.self.inside.kernel c.push_judgement.new.self _ c.self.inside.known.items c.self.invariant (c.requires.step, c.new-2.ensures) c.push_judgement.ensures.list c.push_judgement.ensures.err

pub returns-clause-entry : goal.returns-clause-entry
returns-clause-entry c =
    subst (λ p. IfOk c.push_judgement.result (λ j. HasEntry c.push_judgement.new.self j (claim_in p.state.trees c.args.form.now))) c.self.view_is
    (entry_pushed c.push_judgement.result c.self.inside.kernel c.push_judgement.new.self (claim_in c.self.inside.kernel.trees c.args.form.now) c.new.result c.new-2.result (step_of c.args.step) c.new.ensures c.new-2.ensures
    c.push_judgement.ensures.number c.push_judgement.ensures.list)

pub returns-clause-keeps : goal.returns-clause-keeps
returns-clause-keeps c =
    keeps_after c.push_judgement.result c.args.self.now c.self.inside.kernel c.push_judgement.new.self _ c.self.inside.known.items c.self.view_is c.push_judgement.ensures.list c.push_judgement.ensures.err
