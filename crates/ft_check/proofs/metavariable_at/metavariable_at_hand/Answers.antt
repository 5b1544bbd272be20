use Rattle.std.proofs.Common.{Some, take, sym, ap, ◌∙◌}
use Rattle.std.specs.Prelude.{option_map}
use Rattle.ft_check.specs.Entries.{entry_in}
use Rattle.ft_check.proofs.MetavariableRead.{no_line, no_entry, no_boundary, is_read, not_declared}
use Rattle.ft_check.proofs.metavariable_at.metavariable_at_hand.Goals as goal

pub returns-in_err-p-clause-is : goal.returns-in_err-p-clause-is
returns-in_err-p-clause-is c = λ d g h. no_line (take c.args.i c.args.items.now.items) c.args.m d g h (sym c.in_err-p.was ∙ c.metavariable_before.ensures)

pub returns-in_err-entry-clause-is : goal.returns-in_err-entry-clause-is
returns-in_err-entry-clause-is c = λ d g h.
    no_entry (take c.args.i c.args.items.now.items) c.args.m c.in_ok-p.p d g h (sym c.in_ok-p.was ∙ c.metavariable_before.ensures)
    (sym (ap (option_map (entry_in c.args.items.now.trees)) c.in_err-entry.was) ∙ c.entry_before.ensures.entry)

pub returns-in-Thesis-clause-is : goal.returns-in-Thesis-clause-is
returns-in-Thesis-clause-is c = λ d g h.
    let T = c.args.items.now.trees in
    no_boundary T (take c.args.i c.args.items.now.items) c.args.m c.in_ok-p.p d c.in-Thesis.field-0.now c.in-Thesis.field-1.now g h (sym c.in_ok-p.was ∙ c.metavariable_before.ensures)
    (sym (ap (λ x. Some (entry_in T x)) c.in-Thesis.is) ∙ sym (ap (option_map (entry_in T)) c.in_ok-entry.was) ∙ c.entry_before.ensures.entry)

pub returns-in-Boundary-clause-is : goal.returns-in-Boundary-clause-is
returns-in-Boundary-clause-is c = λ d g h.
    let T = c.args.items.now.trees in
    is_read T (take c.args.i c.args.items.now.items) c.args.m c.in_ok-p.p d _ g h (sym c.in_ok-p.was ∙ c.metavariable_before.ensures)
    (sym (ap (λ x. Some (entry_in T x)) c.in-Boundary.is) ∙ sym (ap (option_map (entry_in T)) c.in_ok-entry.was) ∙ c.entry_before.ensures.entry)

pub returns-in-Boundary-clause-none : goal.returns-in-Boundary-clause-none
returns-in-Boundary-clause-none c = λ g e. not_declared (take c.args.i c.args.items.now.items) c.args.m c.in_ok-p.p g e (sym c.in_ok-p.was ∙ c.metavariable_before.ensures)
