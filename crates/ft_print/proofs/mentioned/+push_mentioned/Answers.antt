use Rattle.std.proofs.Common.{◌≡◌, ◌∙◌, sym, ap, subst, suc, ◌++◌, ℕ, ◌+◌, ◌-◌, ◌≤◌, Some, None, length, option_map, slice_get, take, add-one, arith, rules}
use Rattle.ft_syntax.specs.Arguments.{arguments_of}
use Rattle.ft_syntax.specs.Table.{tree, argument_in}
use Rattle.ft_print.specs.Mentions.{mentioned}
use Rattle.ft_print.proofs.Joining.{written_next}
use Rattle.ft_print.proofs.Gathered.{mentioned_in, mentioned_next, dummy_next, all_mentioned}
use Rattle.ft_print.proofs.mentioned.+push_mentioned.Goals.{in-Some+in_ok-push_mentioned-in-Some, in-None}
use Rattle.ft_print.proofs.mentioned.+push_mentioned.Goals as goal

pub loop-i-preserved : goal.loop-i-preserved
loop-i-preserved t c =
    let ts = c.args.terms.now in
    let ps = arguments_of (tree ts c.args.e) in
    let i : ℕ = c.loop-i.i in
    let x = c.arg.result in
    let back : i + 1 - 1 ≡ i = omega arith in
    let g : slice_get ps i ≡ Some (argument_in ts x) = subst (λ k. slice_get ps k ≡ Some (argument_in ts x)) back c.arg.ensures.argument in
    rw add-one (elim c.match-arg.branch [
      | in-Some+in_ok-push_mentioned-in-Some w ↦
          let h : slice_get ps i ≡ Some (x.binders, Some (tree ts w.in-Some.body)) = g ∙ ap (λ o. Some (x.binders, option_map (tree ts) o)) w.in-Some.is in
          ap (λ v. v.items) w.found-is
          ∙ written_next c.args.found.now.items (mentioned_in (take i ps)) (mentioned (tree ts w.in-Some.body)) c.loop-i.found.items w.push_mentioned.new.found.items (mentioned_in (take (suc i) ps)) (mentioned_next ps i x.binders (tree ts w.in-Some.body) h) c.loop-i.invariant w.in_ok-push_mentioned-in-Some.ensures.ok
      | in-None w ↦
          let h : slice_get ps i ≡ Some (x.binders, None) = g ∙ ap (λ o. Some (x.binders, option_map (tree ts) o)) w.in-None.is in
          ap (λ v. v.items) w.found-is ∙ c.loop-i.invariant ∙ ap (λ z. c.args.found.now.items ++ z) (sym (dummy_next ps i x.binders h))
    ])

pub returns : goal.returns
returns t c =
    let past : length (arguments_of (tree c.args.terms.now c.args.e)) ≤ c.loop-i.i = search rules in
    record { ok = all_mentioned (tree c.args.terms.now c.args.e) c.loop-i.i c.args.found.now.items c.loop-i.found.items (λ v e. c.in_default.not-Free v (c.node.ensures.node ∙ e)) past c.loop-i.invariant }
