use Rattle.std.proofs.Common.{◌≡◌, take, length, sym, ap, ◌∙◌}
use Rattle.std.specs.Prelude.{option_map}
use Rattle.std.proofs.lemmas.Option.{same_Some}
use Rattle.ft_common.proofs.Options.{none_some}
use Rattle.ft_items.specs.Good.{is_plain_type}
use Rattle.ft_items.specs.Store.{Assertion, type_in}
use Rattle.ft_syntax.specs.Table.{tree}
use Rattle.ft_check.specs.Entries.{entry_in}
use Rattle.ft_check.proofs.TypeEntries.{annotation_gone, annotation_known, no_annotation}
use Rattle.ft_check.proofs.typed.typed_before.Goals as goal

pub returns-in_err-p-clause-is : goal.returns-in_err-p-clause-is
returns-in_err-p-clause-is c = λ d g e. annotation_gone (take c.args.i c.args.items.now.items) c.args.v d g e (sym c.in_err-p.was ∙ c.type_before.ensures)

pub returns-in_err-entry-clause-is : goal.returns-in_err-entry-clause-is
returns-in_err-entry-clause-is c = λ d g e.
    let k = annotation_known (take c.args.i c.args.items.now.items) c.args.v c.in_ok-p.p d g e (sym c.in_ok-p.was ∙ c.type_before.ensures) in
    none_some (sym (ap (option_map (entry_in c.args.items.now.trees)) c.in_err-entry.was) ∙ c.entry_before.ensures.entry ∙ k.is)

pub returns-in_err-ty-clause-is : goal.returns-in_err-ty-clause-is
returns-in_err-ty-clause-is c = λ d g e.
    let T = c.args.items.now.trees in
    let k = annotation_known (take c.args.i c.args.items.now.items) c.args.v c.in_ok-p.p d g e (sym c.in_ok-p.was ∙ c.type_before.ensures) in
    let same : entry_in T c.in_ok-entry.entry ≡ k.entry = same_Some (entry_in T c.in_ok-entry.entry) k.entry (sym (ap (option_map (entry_in T)) c.in_ok-entry.was) ∙ c.entry_before.ensures.entry ∙ k.is) in
    none_some (sym (ap (option_map (tree T)) c.in_err-ty.was) ∙ c.plain_type.ensures.is T (ap is_plain_type (c.parts-parts.ensures.is T ∙ ap (λ (a : Assertion). a.statement) same) ∙ k.type))

pub returns-clause-is : goal.returns-clause-is
returns-clause-is c = λ d g e.
    let T = c.args.items.now.trees in
    let k = annotation_known (take c.args.i c.args.items.now.items) c.args.v c.in_ok-p.p d g e (sym c.in_ok-p.was ∙ c.type_before.ensures) in
    let same : entry_in T c.in_ok-entry.entry ≡ k.entry = same_Some (entry_in T c.in_ok-entry.entry) k.entry (sym (ap (option_map (entry_in T)) c.in_ok-entry.was) ∙ c.entry_before.ensures.entry ∙ k.is) in
    let stated = c.parts-parts.ensures.is T ∙ ap (λ (a : Assertion). a.statement) same in
    record {
      type = same_Some _ _ (sym (ap (option_map (tree T)) c.in_ok-ty.was) ∙ c.plain_type.ensures.is T (ap is_plain_type stated ∙ k.type)) ∙ ap type_in stated ∙ sym k.annotation;
      set = c.set.ensures T ∙ ap (λ (a : Assertion). a.set) same ∙ sym k.set;
    }

pub returns-clause-none : goal.returns-clause-none
returns-clause-none c = λ g e. no_annotation (take c.args.i c.args.items.now.items) c.args.v c.in_ok-p.p g e (sym c.in_ok-p.was ∙ c.type_before.ensures)

pub returns-clause-below : goal.returns-clause-below
returns-clause-below c = c.in_ok-ty.ensures.below (length c.args.items.now.trees) (c.parts-parts.ensures.below (length c.args.items.now.trees) c.in_ok-entry.ensures.below)
