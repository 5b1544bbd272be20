use Rattle.std.proofs.Common.{subst}
use Rattle.std.specs.Prelude.{Err}
use Rattle.ft_grammar.specs.declared.syntax.Named.{Named}
use Rattle.ft_meaning.specs.Commands.{add_premise}
use Rattle.ft_values.specs.Kept.{stated_at}
use Rattle.ft_running.specs.Evaluation.{run_of}
use Rattle.ft_drafting.specs.Drafting.{TellsPremise, draft_over}
use Rattle.ft_running.proofs.Further.{further_both, scope_further}
use Rattle.ft_drafting.proofs.Staying.{draft_further}
use Rattle.ft_commands.proofs.Premised.{premise_stops}
use Rattle.ft_commands.proofs.premises.declare_premise.Goals as goal

pub add_premise-requires-clause-draft : goal.add_premise-requires-clause-draft
add_premise-requires-clause-draft c = draft_further c.args.state.now c.boundary_of.new.state c.args.draft.now c.boundary_of.ensures.further c.requires.draft

pub returns-in-Err-add_premise-clause-tells : goal.returns-in-Err-add_premise-clause-tells
returns-in-Err-add_premise-clause-tells c =
    premise_stops c.args.state.now c.boundary_of.new.state c.add_premise.new.state c.args.p.now c.args.draft.now c.add_premise.new.draft c.args.scope c.in-Ok.b c.in-Err-add_premise.stop
    c.boundary_of.ensures.further c.requires.draft c.in-Ok.ensures.tells
    (subst (λ (n : Named). TellsPremise (add_premise c.args.p.now.at (draft_over c.boundary_of.new.state c.args.draft.now) n.name (stated_at c.boundary_of.new.state.list c.in-Ok.b) (run_of c.boundary_of.new.state)) (Err c.in-Err-add_premise.stop) c.add_premise.new.draft c.add_premise.new.state)
    c.name_of-name.ensures c.in-Err-add_premise.ensures.tells)

pub returns-in-Err-add_premise-clause-further : goal.returns-in-Err-add_premise-clause-further
returns-in-Err-add_premise-clause-further c =
    further_both c.args.state.now c.boundary_of.new.state c.add_premise.new.state c.boundary_of.ensures.further c.add_premise.ensures.further

pub returns-in-Err-generic-clause-further : goal.returns-in-Err-generic-clause-further
returns-in-Err-generic-clause-further c =
    further_both c.args.state.now c.add_premise.new.state c.generic.new.state (further_both c.args.state.now c.boundary_of.new.state c.add_premise.new.state c.boundary_of.ensures.further c.add_premise.ensures.further) c.generic.ensures.further

pub bind-requires-clause-scope : goal.bind-requires-clause-scope
bind-requires-clause-scope c = scope_further c.args.state.now c.generic.new.state c.args.scope (further_both c.args.state.now c.add_premise.new.state c.generic.new.state (further_both c.args.state.now c.boundary_of.new.state c.add_premise.new.state c.boundary_of.ensures.further c.add_premise.ensures.further) c.generic.ensures.further) c.requires.scope

pub returns-in-Ok-bind-clause-further : goal.returns-in-Ok-bind-clause-further
returns-in-Ok-bind-clause-further c = further_both c.args.state.now c.generic.new.state c.bind.new.self (further_both c.args.state.now c.add_premise.new.state c.generic.new.state (further_both c.args.state.now c.boundary_of.new.state c.add_premise.new.state c.boundary_of.ensures.further c.add_premise.ensures.further) c.generic.ensures.further) c.bind.ensures.further

pub returns-in-Err-bind-clause-further : goal.returns-in-Err-bind-clause-further
returns-in-Err-bind-clause-further c = further_both c.args.state.now c.generic.new.state c.bind.new.self (further_both c.args.state.now c.add_premise.new.state c.generic.new.state (further_both c.args.state.now c.boundary_of.new.state c.add_premise.new.state c.boundary_of.ensures.further c.add_premise.ensures.further) c.generic.ensures.further) c.bind.ensures.further
