use Rattle.std.proofs.Common.{take, length, sym, ap, ◌≡◌, ◌∙◌, subst, ◌<◌, IfOk}
use Rattle.std.proofs.lemmas.Option.{same_Some}
use Rattle.std.specs.Prelude.{option_map}
use Rattle.ft_items.specs.Equal.{is_thesis}
use Rattle.ft_items.specs.Rows.{sets, statements}
use Rattle.ft_items.specs.Sets.{union, unions}
use Rattle.ft_items.specs.Store.{Assertion}
use Rattle.ft_check.specs.Arguing.{AreTheses, IsAfter, Judges}
use Rattle.ft_check.specs.Equations.{converted}
use Rattle.ft_check.specs.Entries.{entry_in, with_step}
use Rattle.ft_common.proofs.Options.{none_some}
use Rattle.ft_check.proofs.Moved.{no_more, no_premise}
use Rattle.ft_check.proofs.conversions.check_conv.Goals as goal

pub returns-in_default : goal.returns-in_default
returns-in_default c = λ R xs ys a t g e q u h m f.
    no_more c.args.way (take c.args.i c.args.items.now.items) c.args.ps.now R.1 xs (statements ys) a.statement _ (with_step (entry_in c.args.items.now.trees c.args.found) t) q
    (subst (λ ms. length R.1.premises < length ms) c.items-numbers.ensures (c.rule_after.ensures.none R g e c.in_default.is))

pub returns-then-not-after : goal.returns-then-not-after
returns-then-not-after c = λ R xs ys a t g e q u h m f.
    let T = c.args.items.now.trees in
    let W = take c.args.i c.args.items.now.items in
    no_premise c.args.way T W c.in-Some.after R.1 c.args.ps.now xs (statements ys) a.statement _ (with_step (entry_in T c.args.found) t)
    (subst (λ ms. IsAfter T W c.in-Some.after R.1 (length ms)) c.items-numbers.ensures (c.in-Some.ensures.is R g e)) q c.if-not-after.true

pub returns-in_default-entry_before : goal.returns-in_default-entry_before
returns-in_default-entry_before c = λ R xs ys a t g e q u h m f.
    none_some (sym (ap (option_map (entry_in c.args.items.now.trees)) c.in_default-entry_before.is) ∙ c.entry_before.ensures.entry ∙ h)

pub returns : goal.returns
returns c = λ R xs ys a t g e q u h m f.
    let T = c.args.items.now.trees in
    let W = take c.args.i c.args.items.now.items in
    let same : entry_in T c.in-Some-entry_before.moved ≡ a = same_Some (entry_in T c.in-Some-entry_before.moved) a (sym (ap (option_map (entry_in T)) c.in-Some-entry_before.is) ∙ c.entry_before.ensures.entry ∙ h) in
    subst (λ (b : Assertion). IfOk c.check_moved.result (λ x. Judges (entry_in T c.args.found) t (converted c.args.way R.1 (statements xs) (statements ys) b.statement) (union (unions (sets xs)) (union (unions (sets ys)) b.set)) x)) same
    (c.check_moved.ensures R.1 xs ys t (c.in-Some.ensures.is R g e) c.if-not-after.false
    (subst (λ ps. AreTheses W ps xs) (sym c.items-numbers.ensures) q) (subst (λ ps. AreTheses W ps ys) (sym c.items.ensures) u)
    (ap (λ (b : Assertion). is_thesis b.statement) same ∙ m) f)
