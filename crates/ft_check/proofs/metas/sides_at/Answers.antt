use Rattle.std.proofs.Common.{◌∙◌, length, sym, ap}
use Rattle.std.specs.Prelude.{option_map}
use Rattle.ft_common.proofs.Options.{none_some}
use Rattle.ft_placing.specs.Sides.{has_sides}
use Rattle.ft_check.specs.Entries.{entry_in}
use Rattle.ft_check.proofs.Fits.{same_statement}
use Rattle.ft_check.proofs.SidesFound.{if_none, if_some}
use Rattle.ft_check.proofs.metas.sides_at.Goals as goal

pub returns-in-None-clause-none : goal.returns-in-None-clause-none
returns-in-None-clause-none c = λ a h. none_some (sym (ap (option_map (entry_in c.args.items.now.trees)) c.in-None.is) ∙ c.entry_before.ensures.entry ∙ h)

pub returns-in-Some-clause-some : goal.returns-in-Some-clause-some
returns-in-Some-clause-some c = λ a h.
    let T = c.args.items.now.trees in
    let same = c.parts-parts.ensures.is T ∙ same_statement (entry_in T c.in-Some.named) a (sym (ap (option_map (entry_in T)) c.in-Some.is) ∙ c.entry_before.ensures.entry ∙ h) in
    if_some _ _ c.sides_of.result (λ s k. k ∙ same) (c.sides_of.ensures.some T)

pub returns-in-Some-clause-none : goal.returns-in-Some-clause-none
returns-in-Some-clause-none c = λ a h.
    let T = c.args.items.now.trees in
    let same = c.parts-parts.ensures.is T ∙ same_statement (entry_in T c.in-Some.named) a (sym (ap (option_map (entry_in T)) c.in-Some.is) ∙ c.entry_before.ensures.entry ∙ h) in
    if_none c.sides_of.result (λ k. ap (has_sides c.args.at) (sym same) ∙ k) (c.sides_of.ensures.none T)

pub returns-in-Some-clause-below : goal.returns-in-Some-clause-below
returns-in-Some-clause-below c = c.sides_of.ensures.below (length c.args.items.now.trees) (c.parts-parts.ensures.below (length c.args.items.now.trees) c.in-Some.ensures.below)
