use Rattle.ft_run.proofs.Accepted.{accepted_allowed, session_accepted, rules_accepted, told_accepted, state_accepted}
use Rattle.ft_run.proofs.session.Session.add.Goals as goal

pub push_rule-requires : goal.push_rule-requires
push_rule-requires c =
    accepted_allowed c.self.inside.kernel c.self.inside.known.items c.args.self.now c.args.known c.in_ok-copy.field-0 c.args.premises c.args.b c.self.invariant c.self.view_is
    c.requires.new c.requires.room c.requires.fits c.requires.made c.requires.entry c.in_ok-copy.ensures

pub invariant_of-self-in_default : goal.invariant_of-self-in_default
invariant_of-self-in_default c =
    session_accepted c.self.inside.kernel c.push_rule.new.self c.self.inside.known.items c.push.new.self.items c.args.self.now c.args.known c.in_ok-copy.field-0 c.args.premises c.args.b c.self.invariant c.self.view_is
    c.requires.fits c.requires.made c.requires.entry c.in_ok-copy.ensures c.in_default.ensures.list c.in_ok-push.ensures.items

pub returns-clause-rules : goal.returns-clause-rules
returns-clause-rules c =
    rules_accepted c.self.inside.kernel c.push_rule.new.self c.self.inside.known.items c.push.new.self.items c.args.self.now c.args.known _ c.self.view_is c.in_default.ensures.list c.in_ok-push.ensures.items

pub returns-clause-state : goal.returns-clause-state
returns-clause-state c =
    state_accepted c.self.inside.kernel c.push_rule.new.self c.self.inside.known.items c.args.self.now c.in_ok-copy.field-0 c.args.known.name c.args.premises c.args.b c.self.view_is c.in_ok-copy.ensures c.in_default.ensures.list

pub returns-clause-told : goal.returns-clause-told
returns-clause-told c =
    told_accepted c.self.inside.kernel c.push_rule.new.self c.self.inside.known.items c.args.self.now c.args.known c.in_ok-copy.field-0 c.args.premises c.args.b c.self.view_is
    c.requires.made c.requires.entry c.in_ok-copy.ensures c.in_default.ensures.list
