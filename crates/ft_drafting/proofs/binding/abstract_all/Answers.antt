use Rattle.std.proofs.Common.{arith, ◌≡◌, ◌<◌, ◌+◌, ◌-◌, length}
use Rattle.ft_running.specs.Evaluation.{run_of}
use Rattle.ft_running.proofs.Further.{further_both}
use Rattle.ft_values.specs.Kept.{stated_at}
use Rattle.ft_meaning.specs.Commands.{abstract_all}
use Rattle.ft_drafting.specs.Drafting.{bounds_over}
use Rattle.ft_drafting.proofs.BoundInTurn.{still_bound, turn_goes_on, turn_ends}
use Rattle.ft_drafting.proofs.binding.abstract_all.Goals as goal

pub abstract_one-requires-clause-variable : goal.abstract_one-requires-clause-variable
abstract_one-requires-clause-variable c =
    let e = c.args.state.now in
    let w = c.binding.state in
    let xs = c.args.bounds.now in
    let i = c.binding.i - 1 in
    let within : i < length xs = omega (arith, c.binding.auto.i, c.binding-test.true) in
    still_bound e w xs i c.index-bounds-i.result within c.index-bounds-i.is c.requires.variables c.binding.invariant.further

pub binding-preserved : goal.binding-preserved
binding-preserved c =
    let e = c.args.state.now in
    let w = c.binding.state in
    let f = c.abstract_one.new.state in
    let xs = c.args.bounds.now in
    let i = c.binding.i - 1 in
    let next : c.binding.i ≡ i + 1 = omega (arith, c.binding-test.true) in
    let within : i < length xs = omega (arith, c.binding.auto.i, c.binding-test.true) in
    record {
      boundary = c.in-Ok.ensures.tells.1;
      further = further_both e w f c.binding.invariant.further c.in-Ok.ensures.further;
      left = turn_goes_on e w f xs c.binding.i i c.index-bounds-i.result c.binding.bound c.in-Ok.next (abstract_all (bounds_over e xs) (stated_at e.list c.args.b) (run_of e))
          next within c.index-bounds-i.is c.requires.variables c.binding.invariant.further c.binding.invariant.left c.in-Ok.ensures.tells;
    }

pub returns-in-Err-clause-tells : goal.returns-in-Err-clause-tells
returns-in-Err-clause-tells c =
    let e = c.args.state.now in
    let w = c.binding.state in
    let f = c.abstract_one.new.state in
    let xs = c.args.bounds.now in
    let i = c.binding.i - 1 in
    let next : c.binding.i ≡ i + 1 = omega (arith, c.binding-test.true) in
    let within : i < length xs = omega (arith, c.binding.auto.i, c.binding-test.true) in
    turn_ends e w f xs c.binding.i i c.index-bounds-i.result c.binding.bound c.in-Err.end (abstract_all (bounds_over e xs) (stated_at e.list c.args.b) (run_of e))
    next within c.index-bounds-i.is c.requires.variables c.binding.invariant.further c.binding.invariant.left c.in-Err.ensures.tells

pub returns-in-Err-clause-further : goal.returns-in-Err-clause-further
returns-in-Err-clause-further c =
    further_both c.args.state.now c.binding.state c.abstract_one.new.state c.binding.invariant.further c.in-Err.ensures.further
