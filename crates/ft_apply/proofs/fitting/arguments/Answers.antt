use Rattle.std.proofs.Common.{◌∙◌, length, subst, sym, ap, refl}
use Rattle.ft_reference.specs.Refusals.{first_refusal}
use Rattle.ft_syntax.specs.Laws.{arguments_below_extends, extends_same}
use Rattle.ft_apply.specs.Outcomes.{Stops}
use Rattle.ft_apply.proofs.Fitted.{heads_stay, paired_is, paired_below, paired_checks}
use Rattle.ft_apply.proofs.fitting.arguments.Goals as goal

pub fit_all-requires-clause-pairs : goal.fit_all-requires-clause-pairs
fit_all-requires-clause-pairs c = paired_below (length c.args.k.now.trees) c.args.premises.now c.in_ok-heads.heads c.in_ok-instance.instance.pairs c.in_ok-heads.ensures.below (c.in_ok-instance.ensures ∙ ap (Rattle.std.specs.List.zip c.args.premises.now) c.items.ensures)

pub returns-in-Ok-clause-heads : goal.returns-in-Ok-clause-heads
returns-in-Ok-clause-heads c = heads_stay c.args.k.now.trees c.fit_all.new.k.trees c.in_ok-heads.heads c.in-Ok.ensures.stays.1 c.in_ok-heads.ensures.below ∙ c.in_ok-heads.ensures.heads

pub returns-in-Ok-clause-below : goal.returns-in-Ok-clause-below
returns-in-Ok-clause-below c = arguments_below_extends c.args.k.now.trees c.fit_all.new.k.trees c.in_ok-heads.heads c.in-Ok.ensures.stays.1 c.in_ok-heads.ensures.below

pub returns-in-Ok-clause-instance : goal.returns-in-Ok-clause-instance
returns-in-Ok-clause-instance c =
    paired_is c.args.k.now c.fit_all.new.k.trees c.args.premises.now c.args.args.now c.in_ok-heads.heads c.in_ok-instance.instance.pairs c.in-Ok.ensures.stays.1 c.in_ok-heads.ensures.below c.in_ok-heads.ensures.heads
    (c.in_ok-instance.ensures ∙ ap (Rattle.std.specs.List.zip c.args.premises.now) c.items.ensures)

pub returns-in-Ok-clause-pairs : goal.returns-in-Ok-clause-pairs
returns-in-Ok-clause-pairs c =
    paired_below (length c.fit_all.new.k.trees) c.args.premises.now c.in_ok-heads.heads c.in_ok-instance.instance.pairs
    (arguments_below_extends c.args.k.now.trees c.fit_all.new.k.trees c.in_ok-heads.heads c.in-Ok.ensures.stays.1 c.in_ok-heads.ensures.below)
    (c.in_ok-instance.ensures ∙ ap (Rattle.std.specs.List.zip c.args.premises.now) c.items.ensures)

pub returns-in-Ok-clause-checks : goal.returns-in-Ok-clause-checks
returns-in-Ok-clause-checks c =
    ap first_refusal (sym (paired_checks c.args.k.now c.args.premises.now c.args.args.now c.in_ok-instance.instance.pairs
    (paired_is c.args.k.now c.args.k.now.trees c.args.premises.now c.args.args.now c.in_ok-heads.heads c.in_ok-instance.instance.pairs (extends_same c.args.k.now.trees c.args.k.now.trees refl) c.in_ok-heads.ensures.below c.in_ok-heads.ensures.heads
    (c.in_ok-instance.ensures ∙ ap (Rattle.std.specs.List.zip c.args.premises.now) c.items.ensures))))
    ∙ c.in-Ok.ensures.checks

pub returns-in-Err-clause-checks : goal.returns-in-Err-clause-checks
returns-in-Err-clause-checks c =
    subst (λ cs. Stops c.fit_all.new.k.trees cs c.in-Err.fault)
    (paired_checks c.args.k.now c.args.premises.now c.args.args.now c.in_ok-instance.instance.pairs
    (paired_is c.args.k.now c.args.k.now.trees c.args.premises.now c.args.args.now c.in_ok-heads.heads c.in_ok-instance.instance.pairs (extends_same c.args.k.now.trees c.args.k.now.trees refl) c.in_ok-heads.ensures.below c.in_ok-heads.ensures.heads
    (c.in_ok-instance.ensures ∙ ap (Rattle.std.specs.List.zip c.args.premises.now) c.items.ensures)))
    c.in-Err.ensures.checks
