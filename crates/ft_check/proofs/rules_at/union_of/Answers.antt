use Rattle.std.proofs.Common.{rules, take, drop, length, sym, ap, ◌∙◌, ◌≡◌, ◌<◌, ◌≤◌, ◌+◌, ◌-◌, arith}
use Rattle.std.specs.Prelude.{option_map}
use Rattle.ft_items.specs.Sets.{union, unions}
use Rattle.ft_items.specs.Store.{store_of}
use Rattle.ft_items.specs.Rows.{sets}
use Rattle.ft_check.specs.Entries.{entry_in}
use Rattle.ft_check.proofs.Applies.{union_start, union_next, union_none}
use Rattle.ft_check.proofs.rules_at.union_of.Goals as goal

pub loop-k-init : goal.loop-k-init
loop-k-init c = (omega arith, λ given h. c.new-set.ensures ∙ union_start (store_of (take c.args.i c.args.items.now.items)) c.args.ps.now given h)

pub loop-k-preserved-in-None : goal.loop-k-preserved-in-None
loop-k-preserved-in-None c =
    let positive : 0 < c.loop-k.k = search rules in
    let within : c.loop-k.k ≤ length c.args.ps.now = c.loop-k.invariant.0 in
    let lt : c.loop-k.k - 1 < length c.args.ps.now = omega (arith, positive, within) in (
      omega (arith, within),
      λ given h. union_none (store_of (take c.args.i c.args.items.now.items)) c.args.ps.now given (c.loop-k.k - 1) h lt
          (sym (ap (option_map (entry_in c.args.items.now.trees)) c.in-None.is) ∙ c.entry_before.ensures.entry),
    )

pub loop-k-preserved : goal.loop-k-preserved
loop-k-preserved c =
    let positive : 0 < c.loop-k.k = search rules in
    let within : c.loop-k.k ≤ length c.args.ps.now = c.loop-k.invariant.0 in
    let lt : c.loop-k.k - 1 < length c.args.ps.now = omega (arith, positive, within) in
    let next : c.loop-k.k ≡ c.loop-k.k - 1 + 1 = omega (arith, positive) in (
      omega (arith, within),
      λ given h. c.in_ok-set-in-Some.ensures ∙ ap (λ S. union S c.loop-k.set) (c.set.ensures c.args.items.now.trees)
          ∙ union_next (store_of (take c.args.i c.args.items.now.items)) c.args.ps.now given (c.loop-k.k - 1) c.loop-k.k (entry_in c.args.items.now.trees c.in-Some.found) c.loop-k.set h lt next
          (sym (ap (option_map (entry_in c.args.items.now.trees)) c.in-Some.is) ∙ c.entry_before.ensures.entry) (c.loop-k.invariant.1 given h),
    )

pub returns : goal.returns
returns c =
    let over : c.loop-k.k ≡ 0 = search rules in
    λ given h. c.loop-k.invariant.1 given h ∙ ap (λ k. unions (sets (drop k given))) over
