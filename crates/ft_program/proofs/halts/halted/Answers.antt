use Rattle.std.proofs.Common.{◌≡◌, subst}
use Rattle.ft_items.specs.Item.{Name}
use Rattle.ft_items.specs.Store.{declared_by}
use Rattle.ft_calls.specs.Answers.{refusal_in}
use Rattle.ft_meaning.specs.Trees.{command_of}
use Rattle.ft_meaning.specs.Values.{Refused}
use Rattle.ft_meaning.specs.Faults.{fault_text}
use Rattle.ft_running.specs.Evaluation.{Evaluation}
use Rattle.ft_whole_answers.specs.declared.status.Status.TheVariants as status
use Rattle.ft_program.specs.Running.{IsEnding, IsHalted}
use Rattle.ft_program.proofs.Halting.{ok_map, unhandled_halts, refused_halts}
use Rattle.ft_program.proofs.halts.halted.Goals as goal

pub returns-in_ok-why-in-Unhandled : goal.returns-in_ok-why-in-Unhandled
returns-in_ok-why-in-Unhandled c =
    ok_map c.ends.result (λ s. IsEnding c.args.source.now c.args.fault.now.at c.in_ok-why-in-Unhandled.why status.Unhandled s)
    (λ s. IsHalted c.args.source.now (command_of c.args.c.now) c.args.state.now c.args.fault.now s)
    (λ s ends. unhandled_halts c.args.source.now (command_of c.args.c.now) c.args.state.now c.args.fault.now c.in-Unhandled.name c.in_ok-why-in-Unhandled.why s
    c.in-Unhandled.is c.in_ok-why-in-Unhandled.ensures ends) c.ends.ensures

pub returns-in_ok-why-in-Refused : goal.returns-in_ok-why-in-Refused
returns-in_ok-why-in-Refused c =
    let t = c.in_ok-why-in-Refused.why in
    ok_map c.ends-in-Refused.result (λ s. IsEnding c.args.source.now c.args.fault.now.at t status.Refused s)
    (λ s. IsHalted c.args.source.now (command_of c.args.c.now) c.args.state.now c.args.fault.now s)
    (λ s ends. refused_halts c.args.source.now (command_of c.args.c.now) c.args.state.now c.args.fault.now c.in-Refused.refusal t s c.in-Refused.is
    (subst (λ (e : Evaluation). (n : Name) → t ≡ fault_text (declared_by e.list.items) n (Refused (refusal_in e.list.trees c.in-Refused.refusal))) c.state.view_is c.in_ok-why-in-Refused.ensures)
    ends) c.ends-in-Refused.ensures
