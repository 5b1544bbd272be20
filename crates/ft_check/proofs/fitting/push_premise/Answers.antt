use Rattle.std.proofs.Common.{take, zero, ◌≡◌, ◌&&◌, sym, ap, ◌∙◌, IfOk}
use Rattle.std.specs.Prelude.{option_map}
use Rattle.std.proofs.lemmas.Option.{same_Some}
use Rattle.ft_theory.specs.Statements.{map_statement}
use Rattle.ft_items.specs.Equal.{fits}
use Rattle.ft_items.specs.Store.{declared_by}
use Rattle.ft_check.specs.Comparing.{all_same}
use Rattle.ft_check.specs.Entries.{entry_in}
use Rattle.ft_check.proofs.Basics.{named}
use Rattle.ft_check.proofs.Fits.{transported, boundary_kind, same_statement}
use Rattle.ft_check.proofs.fitting.push_premise.Goals as goal

pub returns-in-Some-boundary_named-clause-same : goal.returns-in-Some-boundary_named-clause-same
returns-in-Some-boundary_named-clause-same c = λ d a j g h e k.
    let T = c.args.items.now.trees in
    let stands = (named (declared_by (take c.args.i c.args.items.now.items)) c.args.m d h).1 in
    transported (λ x w. IfOk c.push_entry.result (λ t. (t && all_same T j c.push_entry.new.list.items) ≡ (all_same T j c.args.list.now.items && fits x (map_statement (λ k. j) zero w))))
    (entry_in T c.in-Some.found).statement a.statement (entry_in T c.in-Some-boundary_named.wanted).statement d.1.boundary
    (c.push_entry.ensures.same T j)
    (same_statement (entry_in T c.in-Some.found) a (sym (ap (option_map (entry_in T)) c.in-Some.is) ∙ c.entry_before.ensures.entry ∙ e))
    (same_Some _ _ (sym (ap (option_map (λ x. (entry_in T x).statement)) c.in-Some-boundary_named.is) ∙ c.boundary_named.ensures.entry d.1 g stands))
    k (boundary_kind (take c.args.i c.args.items.now.items) c.args.m d.1 g stands)
