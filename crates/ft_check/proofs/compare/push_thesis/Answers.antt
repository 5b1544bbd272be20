use Rattle.std.proofs.Common.{rules, ◌≢◌, length, subst, sym}
use Rattle.ft_syntax.specs.Table.{AllBelow}
use Rattle.ft_check.proofs.Compares.{thesis_fits, no_thesis_fits}
use Rattle.std.proofs.lemmas.Result.{IfOk-weaker}
use Rattle.ft_check.proofs.compare.push_thesis.Goals as goal

pub returns-then-found-wanted-clause-same : goal.returns-then-found-wanted-clause-same
returns-then-found-wanted-clause-same c =
    let other : length c.args.x.now.domains ≢ length c.args.b.now.domains = search rules in
    λ ts j. no_thesis_fits ts j c.args.x.now c.args.b.now _ other

pub returns-clause-same : goal.returns-clause-same
returns-clause-same c =
    λ ts j. IfOk-weaker c.push_form.result _ _ (λ yes h. thesis_fits ts j c.args.x.now c.args.b.now c.items-found.result.now c.items-wanted.result.now _ _ _ c.items-found.ensures c.items-wanted.ensures (c.in_ok-push_domains.ensures.same ts j) h) (c.push_form.ensures.same ts j)

pub returns-clause-below : goal.returns-clause-below
returns-clause-below c =
    λ n h f g. c.push_form.ensures.below n (c.in_ok-push_domains.ensures.below n h (subst (AllBelow n) (sym c.items-found.ensures) f.0) (subst (AllBelow n) (sym c.items-wanted.ensures) g.0)) f.1 g.1
