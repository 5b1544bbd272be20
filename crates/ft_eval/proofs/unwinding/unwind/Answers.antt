use Rattle.std.proofs.Common.{rules, ◌≡◌, ◌∙◌, [], ap, sym, refl, subst, arith}
use Rattle.ft_running.specs.Telling.{TellsEnd}
use Rattle.ft_running.proofs.Further.{further_same, further_both}
use Rattle.ft_eval.specs.Frames.{passed, passed_all}
use Rattle.ft_eval.proofs.Staying.{fits_further}
use Rattle.ft_eval.proofs.Outwards.{performed, fits_last, unwind_ok, unwind_halts, unwind_on, unwind_falls, unwind_fits}
use Rattle.ft_eval.specs.Fits.{AllFit}
use Rattle.ft_eval.proofs.unwinding.unwind.Goals as goal

pub outwards-init : goal.outwards-init
outwards-init c = record {
  is = c.holds.ensures;
  further = further_same c.args.state.now;
  fits = c.requires.frames;
  argument = c.requires.argument;
  same = refl;
  shorter = omega arith;
}

pub pass-requires-clause-frame : goal.pass-requires-clause-frame
pass-requires-clause-frame c =
    fits_further c.args.state.now c.outwards.state c.in-Some.frame c.outwards.invariant.further
    (fits_last c.args.state.now c.pop.new.self.items c.in-Some.frame (subst (AllFit c.args.state.now) c.in-Some.ensures.items c.outwards.invariant.fits)).1

pub pass-requires-clause-argument : goal.pass-requires-clause-argument
pass-requires-clause-argument c = c.outwards.invariant.argument

pub returns-in-Ok-clause-steps : goal.returns-in-Ok-clause-steps
returns-in-Ok-clause-steps c =
    unwind_ok c.args.state.now c.outwards.state c.pass.new.state c.args.stack.now.items c.outwards.stack.items c.pop.new.self.items c.in-Some.frame c.args.operation c.outwards.operation c.in-Ok.turn c.outwards.invariant c.pass.ensures.further c.in-Some.ensures.items c.in-Ok.ensures.turns

pub returns-in-Ok-clause-further : goal.returns-in-Ok-clause-further
returns-in-Ok-clause-further c = further_both c.args.state.now c.outwards.state c.pass.new.state c.outwards.invariant.further c.pass.ensures.further

pub returns-in-Ok-clause-frames : goal.returns-in-Ok-clause-frames
returns-in-Ok-clause-frames c = (unwind_fits c.args.state.now c.outwards.state c.pass.new.state c.args.stack.now.items c.outwards.stack.items c.pop.new.self.items c.in-Some.frame c.args.operation c.outwards.operation c.outwards.invariant c.pass.ensures.further c.in-Some.ensures.items).0

pub returns-in-Ok-clause-falls : goal.returns-in-Ok-clause-falls
returns-in-Ok-clause-falls c =
    unwind_falls c.args.state.now c.outwards.state c.args.stack.now.items c.outwards.stack.items c.pop.new.self.items c.in-Some.frame c.args.operation c.outwards.operation c.in-Ok.turn c.outwards.invariant c.in-Some.ensures.items c.in-Ok.ensures.evaluates

pub returns-in-Err-Halts-clause-steps : goal.returns-in-Err-Halts-clause-steps
returns-in-Err-Halts-clause-steps c =
    unwind_halts c.args.state.now c.outwards.state c.pass.new.state c.args.stack.now.items c.outwards.stack.items c.pop.new.self.items c.in-Some.frame c.args.operation c.outwards.operation c.in-Err-Halts.halt c.outwards.invariant c.pass.ensures.further c.in-Some.ensures.items
    (subst (λ e. TellsEnd (passed c.outwards.state c.in-Some.frame (performed c.outwards.state c.outwards.operation)) e c.pass.new.state) c.in-Err-Halts.field-0-is c.in-Err-Halts.ensures.turns)

pub returns-in-Err-Halts-clause-further : goal.returns-in-Err-Halts-clause-further
returns-in-Err-Halts-clause-further c = further_both c.args.state.now c.outwards.state c.pass.new.state c.outwards.invariant.further c.pass.ensures.further

pub returns-in-Err-Halts-clause-frames : goal.returns-in-Err-Halts-clause-frames
returns-in-Err-Halts-clause-frames c = (unwind_fits c.args.state.now c.outwards.state c.pass.new.state c.args.stack.now.items c.outwards.stack.items c.pop.new.self.items c.in-Some.frame c.args.operation c.outwards.operation c.outwards.invariant c.pass.ensures.further c.in-Some.ensures.items).0

pub outwards-preserved-in-Err-Performs : goal.outwards-preserved-in-Err-Performs
outwards-preserved-in-Err-Performs c =
    unwind_on c.args.state.now c.outwards.state c.pass.new.state c.args.stack.now.items c.outwards.stack.items c.pop.new.self.items c.in-Some.frame c.args.operation c.outwards.operation c.in-Err-Performs.further c.outwards.invariant c.pass.ensures.further c.in-Some.ensures.items
    (subst (λ e. TellsEnd (passed c.outwards.state c.in-Some.frame (performed c.outwards.state c.outwards.operation)) e c.pass.new.state) c.in-Err-Performs.field-0-is c.in-Err-Performs.ensures.turns)

pub outwards-preserved : goal.outwards-preserved
outwards-preserved c =
    unwind_on c.args.state.now c.outwards.state c.pass.new.state c.args.stack.now.items c.outwards.stack.items c.pop.new.self.items c.in-Some.frame c.args.operation c.outwards.operation c.in-Err-Performs.further c.outwards.invariant c.pass.ensures.further c.in-Some.ensures.items
    (subst (λ e. TellsEnd (passed c.outwards.state c.in-Some.frame (performed c.outwards.state c.outwards.operation)) e c.pass.new.state) c.in-Err-Performs.field-0-is c.in-Err-Performs.ensures.turns)

pub returns-clause-steps : goal.returns-clause-steps
returns-clause-steps c =
    let empty : c.outwards.stack.items ≡ [] = search rules in
    (sym c.outwards.invariant.same ∙ ap (λ fs. passed_all c.outwards.state fs (performed c.outwards.state c.outwards.operation)) empty, c.outwards.invariant.argument)

pub returns-clause-further : goal.returns-clause-further
returns-clause-further c = c.outwards.invariant.further
