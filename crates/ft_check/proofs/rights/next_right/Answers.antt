use Rattle.std.proofs.Common.{sym, ap, ◌∙◌}
use Rattle.std.specs.Prelude.{option_map}
use Rattle.std.proofs.lemmas.Option.{same_Some}
use Rattle.ft_items.specs.Equal.{is_thesis}
use Rattle.ft_items.specs.Store.{Assertion}
use Rattle.ft_check.specs.Entries.{entry_in}
use Rattle.ft_common.proofs.Options.{none_some}
use Rattle.ft_check.proofs.Fits.{no_boundary}
use Rattle.ft_check.proofs.rights.next_right.Goals as goal

pub returns-in_err-found-clause-next : goal.returns-in_err-found-clause-next
returns-in_err-found-clause-next c = λ a ys e t h. none_some (sym (ap (option_map (entry_in c.args.items.now.trees)) c.in_err-found.was) ∙ c.entry_before.ensures.entry ∙ e)

pub returns-in-Boundary-clause-next : goal.returns-in-Boundary-clause-next
returns-in-Boundary-clause-next c = λ a ys e t h.
    let T = c.args.items.now.trees in
    let same = same_Some (entry_in T c.in_ok-found.found) a (sym (ap (option_map (entry_in T)) c.in_ok-found.was) ∙ c.entry_before.ensures.entry ∙ e) in
    no_boundary T c.in-Boundary.field-0.now (entry_in T c.in_ok-found.found).statement (ap (λ e. (entry_in T e).statement) c.in-Boundary.is) (ap (λ (a : Assertion). is_thesis a.statement) same ∙ t)
