use Rattle.std.proofs.Common.{sym, ap, ◌∙◌}
use Rattle.ft_items.specs.Equal.{starts}
use Rattle.ft_check.specs.Entries.{entry_in}
use Rattle.ft_check.proofs.Fits.{no_boundary}
use Rattle.ft_check.proofs.rights.right_from.Goals as goal

pub returns-then-not-starts-clause-there : goal.returns-then-not-starts-clause-there
returns-then-not-starts-clause-there c = λ h. sym c.if-not-starts.true ∙ c.starts.ensures h

pub returns-in-Boundary-clause-there : goal.returns-in-Boundary-clause-there
returns-in-Boundary-clause-there c = λ h. no_boundary c.args.terms.now c.in-Boundary.field-0.now (entry_in c.args.terms.now c.args.e).statement (ap (λ e. (entry_in c.args.terms.now e).statement) c.in-Boundary.is) h

pub returns-in-Thesis-clause-there : goal.returns-in-Thesis-clause-there
returns-in-Thesis-clause-there c = λ h.
    let T = c.args.terms.now in
    c.right_of.ensures.there T (entry_in T c.args.x).statement
    (ap (λ e. starts (entry_in T c.args.x).statement (entry_in T e).statement) (sym c.in-Thesis.is) ∙ sym (c.starts.ensures h) ∙ c.if-not-starts.false)
    ∙ sym c.if-not-starts.false ∙ c.starts.ensures h
