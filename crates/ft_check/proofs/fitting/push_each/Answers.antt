use Rattle.std.proofs.Common.{rules, take, zero, ◌≡◌, ◌<◌, ◌≤◌, length, sym, refl, get_or, true, false}
use Rattle.ft_theory.specs.Statements.{map_statement}
use Rattle.ft_items.specs.Store.{store_of}
use Rattle.ft_check.proofs.Fits.{fit_next, fit_end, yes_same, no_same}
use Rattle.ft_check.proofs.fitting.push_each.Goals as goal

pub returns-then-not-branch-clause-same : goal.returns-then-not-branch-clause-same
returns-then-not-branch-clause-same c =
    let lt : c.loop-k.k < length c.args.ms.now = search rules in
    let no : c.in_ok-push_premise.field-0 ≡ false = search rules in
    λ ds given j g h q t. sym (fit_next (store_of (take c.args.i c.args.items.now.items)) c.args.ms.now c.args.ps.now ds given c.loop-k.k (get_or c.args.ms.now c.loop-k.k 0) (get_or c.args.ps.now c.loop-k.k 0) (map_statement (λ k. j) zero) _ _ false h q t c.requires lt refl refl
    (λ d x e f k. no_same _ _ _ no (c.in_ok-push_premise.ensures.same d x j g e f k)) (c.loop-k.invariant.same ds given j g h q t))

pub loop-k-preserved : goal.loop-k-preserved
loop-k-preserved c =
    let lt : c.loop-k.k < length c.args.ms.now = search rules in
    let yes : c.in_ok-push_premise.field-0 ≡ true = search rules in
    record {
      same = λ ds given j g h q t. fit_next (store_of (take c.args.i c.args.items.now.items)) c.args.ms.now c.args.ps.now ds given c.loop-k.k (get_or c.args.ms.now c.loop-k.k 0) (get_or c.args.ps.now c.loop-k.k 0) (map_statement (λ k. j) zero) _ _ _ h q t c.requires lt refl refl
          (λ d x e f k. yes_same _ _ _ yes (c.in_ok-push_premise.ensures.same d x j g e f k)) (c.loop-k.invariant.same ds given j g h q t);
      below = λ h. c.in_ok-push_premise.ensures.below (c.loop-k.invariant.below h);
    }

pub returns-clause-same : goal.returns-clause-same
returns-clause-same c =
    let over : length c.args.ms.now ≤ c.loop-k.k = search rules in
    λ ds given j g h q t. fit_end (store_of (take c.args.i c.args.items.now.items)) c.args.ms.now c.args.ps.now ds given c.loop-k.k (map_statement (λ k. j) zero) _ _ h q c.requires over (c.loop-k.invariant.same ds given j g h q t)
