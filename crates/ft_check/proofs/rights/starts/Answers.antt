use Rattle.std.proofs.Common.{length, sym, ap, ◌∙◌}
use Rattle.std.specs.Prelude.{option_map}
use Rattle.ft_items.specs.Equal.{equal_statements}
use Rattle.ft_items.specs.Rows.{left_side, under_domains}
use Rattle.ft_steps.specs.Parts.{statement_in}
use Rattle.ft_check.specs.Entries.{entry_in}
use Rattle.ft_check.proofs.Started.{left_there, no_left}
use Rattle.ft_check.proofs.rights.starts.Goals as goal

pub returns-in-None : goal.returns-in-None
returns-in-None c = λ h.
    let T = c.args.terms.now in
    no_left (entry_in T c.args.x).statement (entry_in T c.args.e).statement _ (ap (option_map (statement_in T)) (sym c.in-None.is))
    (c.from_one.ensures.is T ∙ ap (under_domains left_side) (c.parts.ensures.is T)) h

pub returns-in-Some : goal.returns-in-Some
returns-in-Some c = λ h.
    let T = c.args.terms.now in
    left_there (entry_in T c.args.x).statement (entry_in T c.args.e).statement (statement_in T c.in-Some.left) _
    (sym (ap (option_map (statement_in T)) c.in-Some.is) ∙ c.from_one.ensures.is T ∙ ap (under_domains left_side) (c.parts.ensures.is T))
    (c.is_same.ensures ∙ ap (λ z. equal_statements z (statement_in T c.in-Some.left)) (c.parts-stated.ensures.is T)) h

pub is_same-requires-clause-x : goal.is_same-requires-clause-x
is_same-requires-clause-x c = c.parts-stated.ensures.below (length c.args.terms.now) c.requires.x

pub is_same-requires-clause-y : goal.is_same-requires-clause-y
is_same-requires-clause-y c = c.in-Some.ensures.below (length c.args.terms.now) (c.parts.ensures.below (length c.args.terms.now) c.requires.e)
