use Rattle.ft_judge.specs.Meaning.{claim_in}
use Rattle.std.proofs.lemmas.Result.{on_ok_weaker}
use Rattle.ft_common.proofs.Results.{ok_any}
use Rattle.ft_run.proofs.Lines.{shown_appended}
use Rattle.ft_run.proofs.Shown.{claimed_derivable}
use Rattle.ft_run.proofs.session.Session.push_shown.Goals as goal

pub returns-clause-line : goal.returns-clause-line
returns-clause-line c =
    on_ok_weaker c.push_str-2.result
    (shown_appended c.self.inside.kernel c.self.inside.known.items c.deref.result.now c.args.self.now c.terms.result.now c.args.form c.args.out.now c.push_str.new.self c.push_claim.new.out c.push_str-2.new.self
    c.self.view_is c.terms.ensures.terms c.deref.ensures.value c.in_ok-push_str.ensures.ok c.in_ok-push_claim.ensures.ok)
    c.push_str-2.ensures.ok

pub returns-clause-derivable : goal.returns-clause-derivable
returns-clause-derivable c =
    ok_any c.push_str-2.result
    (claimed_derivable c.self.inside.kernel c.self.inside.known.items c.args.self.now c.requires.0 (claim_in c.args.self.now.state.trees c.args.form) c.self.invariant c.terms.ensures.good c.self.view_is c.requires.1.entry)
