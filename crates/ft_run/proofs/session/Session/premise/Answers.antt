use Rattle.std.proofs.Common.{◌∙◌, ap, suc, length}
use Rattle.ft_items.specs.Store.{metavariables_in}
use Rattle.ft_kernel.specs.State.{State}
use Rattle.ft_run.proofs.Keeping.{keeps_then}
use Rattle.ft_run.proofs.Going.{same_metavariables, one_more, goes_kept, goes_then, goes_item, goes_equal}
use Rattle.ft_run.proofs.session.Session.premise.Goals as goal

pub returns-clause-number : goal.returns-clause-number
returns-clause-number c =
    c.in_ok-met.ensures.number
    ∙ ap length (same_metavariables c.wanted.new.self c.boundary.new.self c.boundary.ensures.keeps ∙ same_metavariables c.args.self.now c.wanted.new.self c.wanted.ensures.keeps)

pub returns-clause-count : goal.returns-clause-count
returns-clause-count c =
    ap (λ (s : State). length (metavariables_in s.items)) c.in_ok-met.ensures.state
    ∙ one_more c.boundary.new.self.state c.name.result.now c.in_ok-b.b
    ∙ ap (λ ms. suc (length ms)) (same_metavariables c.wanted.new.self c.boundary.new.self c.boundary.ensures.keeps ∙ same_metavariables c.args.self.now c.wanted.new.self c.wanted.ensures.keeps)

pub returns-in_err-b-clause-goes : goal.returns-in_err-b-clause-goes
returns-in_err-b-clause-goes c = goes_kept c.args.self.now c.boundary.new.self (keeps_then c.args.self.now c.wanted.new.self c.boundary.new.self c.wanted.ensures.keeps c.boundary.ensures.keeps)

pub returns-in_err-met-clause-goes : goal.returns-in_err-met-clause-goes
returns-in_err-met-clause-goes c =
    goes_then c.args.self.now c.boundary.new.self c.met.new.self
    (goes_kept c.args.self.now c.boundary.new.self (keeps_then c.args.self.now c.wanted.new.self c.boundary.new.self c.wanted.ensures.keeps c.boundary.ensures.keeps))
    (goes_equal c.boundary.new.self c.met.new.self c.in_err-met.ensures.err)

pub returns-clause-goes : goal.returns-clause-goes
returns-clause-goes c =
    goes_then c.args.self.now c.boundary.new.self c.met.new.self
    (goes_kept c.args.self.now c.boundary.new.self (keeps_then c.args.self.now c.wanted.new.self c.boundary.new.self c.wanted.ensures.keeps c.boundary.ensures.keeps))
    (goes_item c.boundary.new.self c.met.new.self c.name.result.now c.in_ok-b.b c.in_ok-met.ensures.state c.met.ensures.rules)
