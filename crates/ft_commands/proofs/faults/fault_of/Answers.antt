use Rattle.std.proofs.Common.{◌∙◌, ap, refl, subst}
use Rattle.ft_drafting.specs.Drafting.{TellsStop}
use Rattle.ft_drafting.specs.declared.stops.Stop.TheVariants as stop
use Rattle.ft_commands.specs.Doing.{IsNotStuck}
use Rattle.ft_commands.specs.declared.done.EvalWhy.TheVariants as why
use Rattle.ft_commands.proofs.Faulting.{unhandled, halted, refused}
use Rattle.ft_commands.proofs.faults.fault_of.Goals as goal

pub returns-in-Ends-Performs-clause-tells : goal.returns-in-Ends-Performs-clause-tells
returns-in-Ends-Performs-clause-tells c = λ o e told.
    unhandled o e c.in-Ends-Performs.operation (record { at = c.in-Ends-Performs.operation.at; why = why.Unhandled c.in-Ends-Performs.operation.name }) refl
    (subst (λ s. TellsStop o s e) (c.in-Ends-Performs.is ∙ ap stop.Ends c.in-Ends-Performs.field-0-is) told)

pub returns-in-Ends-Halts-clause-tells : goal.returns-in-Ends-Halts-clause-tells
returns-in-Ends-Halts-clause-tells c = λ o e told.
    let is = c.in-Ends-Halts.is ∙ ap stop.Ends c.in-Ends-Halts.field-0-is in
    halted o e c.in-Ends-Halts.halt (record { at = c.in-Ends-Halts.halt.at; why = c.of_why.result }) (subst IsNotStuck is c.requires)
    (ap (λ w. record { at = c.in-Ends-Halts.halt.at; why = w }) c.of_why.ensures)
    (subst (λ s. TellsStop o s e) is told)

pub returns-in-Refuses-clause-tells : goal.returns-in-Refuses-clause-tells
returns-in-Refuses-clause-tells c = λ o e told.
    refused o e c.in-Refuses.at c.in-Refuses.fault (record { at = c.in-Refuses.at; why = why.Rule c.in-Refuses.fault }) refl
    (subst (λ s. TellsStop o s e) c.in-Refuses.is told)
