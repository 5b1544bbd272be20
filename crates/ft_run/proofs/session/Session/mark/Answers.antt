use Rattle.ft_run.proofs.Lines.{mark_allowed, session_after_mark, told_after_mark, counted_after_mark}
use Rattle.ft_run.proofs.session.Session.mark.Goals as goal

pub push_shown-requires : goal.push_shown-requires
push_shown-requires c = mark_allowed c.self.inside.kernel c.self.inside.known.items c.args.self.now c.args.shown.now c.self.view_is c.requires

pub invariant_of-self : goal.invariant_of-self
invariant_of-self c =
    session_after_mark c.push_shown.result c.self.inside.kernel c.push_shown.new.self c.args.shown.now.entry c.self.inside.known.items c.self.invariant c.push_shown.ensures.list c.push_shown.ensures.err

pub returns-clause-told : goal.returns-clause-told
returns-clause-told c =
    told_after_mark c.push_shown.result c.self.inside.kernel c.push_shown.new.self c.self.inside.known.items c.args.self.now c.args.shown.now c.self.invariant c.self.view_is c.requires c.push_shown.ensures.list

pub returns-clause-counted : goal.returns-clause-counted
returns-clause-counted c =
    counted_after_mark c.push_shown.result c.self.inside.kernel c.push_shown.new.self c.args.shown.now.entry c.self.inside.known.items c.args.self.now c.self.view_is c.push_shown.ensures.list c.push_shown.ensures.err
