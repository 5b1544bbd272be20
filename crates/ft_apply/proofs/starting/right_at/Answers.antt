use Rattle.std.proofs.Common.{◌∙◌, sym}
use Rattle.ft_apply.specs.Named.{entry_of}
use Rattle.ft_apply.specs.Starting.{statements_from}
use Rattle.ft_apply.proofs.Naming.{thesis_named}
use Rattle.ft_apply.proofs.Starts.{right_none}
use Rattle.ft_apply.proofs.starting.right_at.Goals as goal

pub returns-then-not-has_head-clause-right : goal.returns-then-not-has_head-clause-right
returns-then-not-has_head-clause-right c =
    let s = c.args.k.now in
    right_none s.trees c.head.result (entry_of s.items c.args.j).statement (statements_from s.items c.args.next c.args.equations.now) c.head.ensures.head (sym c.has_head.ensures ∙ c.if-not-has_head.true)

pub right_of-requires-clause-equation : goal.right_of-requires-clause-equation
right_of-requires-clause-equation c =
    thesis_named c.args.k.now c.args.equations.now c.args.next c.index-equations-next.result c.requires.equations (c.requires.there (sym c.has_head.ensures ∙ c.if-not-has_head.false)) c.index-equations-next.is
