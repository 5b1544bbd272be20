use Rattle.ft_run.proofs.Lines.{shown_after}
use Rattle.ft_run.proofs.session.Session.show.Goals as goal

pub returns-clause-shown : goal.returns-clause-shown
returns-clause-shown c =
    shown_after c.args.self.now c.claim.new.self c.mark.new.self c.args.a.now c.in_ok-shown.shown.form c.args.out.now c.push_shown.new.out c.requires.counted c.claim.ensures.keeps
    c.in_ok-shown.ensures.claim c.in_ok-push_shown.ensures.line c.in_ok-push_shown.ensures.derivable c.in_ok-mark.ensures.told c.mark.ensures.rules c.mark.ensures.counted
