-- The last line of a run that a command halts.
use Rattle.std.proofs.Common.{◌≡◌, ◌≢◌, ◌∙◌, ℕ, List, ap, ap₂, sym, refl, Some, None}
use Rattle.std.specs.Prelude.{Option, Result, Ok, Err, IfOk, codes}
use Rattle.ft_grammar.specs.declared.syntax.Named.{Named}
use Rattle.ft_grammar.specs.declared.syntax.Premise.{Premise}
use Rattle.ft_grammar.specs.declared.syntax.Conclusion.{Conclusion}
use Rattle.ft_grammar.specs.declared.syntax.Conclusion.TheVariants as conclusion
use Rattle.ft_grammar.specs.declared.syntax.Command.TheVariants as any
use Rattle.std.proofs.lemmas.Option.{same_Some}
use Rattle.ft_items.specs.Item.{Name}
use Rattle.ft_items.specs.Store.{Declarations, declared_by}
use Rattle.ft_reference.specs.Declare.{RuleFault as AnyRuleFault}
use Rattle.ft_rules.specs.declared.fault.RuleFault.{RuleFault}
use Rattle.ft_judge.specs.declared.fault.Refusal.{Refusal}
use Rattle.ft_calls.specs.Answers.{refusal_in}
use Rattle.ft_meaning.specs.Trees.{Command, command_of}
use Rattle.ft_meaning.specs.Texts.{Text}
use Rattle.ft_meaning.specs.Values.{Halt, Fault, fails, spent, Unhandled, Refused, NoMatch, OfRule}
use Rattle.ft_meaning.specs.Lines.{error_line}
use Rattle.ft_meaning.specs.Faults.{fault_text, fault_status}
use Rattle.ft_meaning.specs.Transcript.{rule_name, halted, over}
use Rattle.ft_running.specs.Evaluation.{Evaluation, run_of}
use Rattle.ft_drafting.specs.Drafting.{reason}
use Rattle.ft_commands.specs.Doing.{halt_for, rule_halt}
use Rattle.ft_commands.specs.declared.done.EvalFault.{EvalFault}
use Rattle.ft_commands.specs.declared.done.EvalWhy.TheVariants as why
use Rattle.ft_whole_answers.specs.Statuses.{number_of}
use Rattle.ft_whole_answers.specs.declared.status.Status.{Status}
use Rattle.ft_whole_answers.specs.declared.status.Status.TheVariants as status
use Rattle.ft_program.specs.declared.commands.Step.{Step}
use Rattle.ft_program.specs.declared.commands.Step.TheVariants as step
use Rattle.ft_program.specs.Running.{IsHalted, IsEnding, IsRuleText}

-- a halt that is known
known : (source : Text) (c : Command) (e : Evaluation) (f : EvalFault) (h : Halt) (x : Text) (st : Status)
    → f.why ≢ why.Memory → halt_for e.list.trees f.at f.why ≡ Some h → halted source c h (run_of e) ≡ over x (number_of st) e.units.used
    → IsHalted source c e f (step.Ends x st)
known source c e f h x st other is line = (
  other,
  λ g there.
      ap (λ g. halted source c g (run_of e)) (same_Some g h (sym there ∙ is)) ∙ line,
)

-- a fault with its text and its status
by_text : (source : Text) (c : Command) (e : Evaluation) (f : EvalFault) (w : Fault) (t : Text) (st : Status) (s : Step)
    → f.why ≢ why.Memory → halt_for e.list.trees f.at f.why ≡ Some (fails w f.at) → t ≡ fault_text (declared_by e.list.items) (rule_name c) w → number_of st ≡ fault_status w
    → IsEnding source f.at t st s → IsHalted source c e f s
by_text source c e f w t st (step.Lines x) other is text number ends = absurd ends
by_text source c e f w t st (step.Ends x u) other is text number ends =
    known source c e f (fails w f.at) x u other is
    (ap₂ (λ y n. over y n e.units.used) (ap (error_line source f.at) (sym text) ∙ sym ends.0) (sym (ap number_of ends.1 ∙ number)))

pub spent_halts : (source : Text) (c : Command) (e : Evaluation) (f : EvalFault) (x : Text) → f.why ≡ why.Spent → x ≡ error_line source f.at (codes "budget spent")
    → IsHalted source c e f (step.Ends x status.Spent)
spent_halts source c e f x is line =
    known source c e f (spent f.at) x status.Spent (λ no. distinct (sym is ∙ no)) (ap (halt_for e.list.trees f.at) is) (ap (λ t. over t 13 e.units.used) (sym line))
  where
    distinct : why.Spent ≡ why.Memory → ⊥
    distinct h = cc

pub unhandled_halts : (source : Text) (c : Command) (e : Evaluation) (f : EvalFault) (n : Name) (t : Text) (s : Step) → f.why ≡ why.Unhandled n
    → ((W : Declarations) (m : Name) → t ≡ fault_text W m (Unhandled n)) → IsEnding source f.at t status.Unhandled s → IsHalted source c e f s
unhandled_halts source c e f n t s is text ends =
    by_text source c e f (Unhandled n) t status.Unhandled s (λ no. distinct n (sym is ∙ no)) (ap (halt_for e.list.trees f.at) is) (text (declared_by e.list.items) (rule_name c)) refl ends
  where
    distinct : (n : Name) → why.Unhandled n ≡ why.Memory → ⊥
    distinct n h = cc

pub refused_halts : (source : Text) (c : Command) (e : Evaluation) (f : EvalFault) (r : Refusal) (t : Text) (s : Step) → f.why ≡ why.Refused r
    → ((n : Name) → t ≡ fault_text (declared_by e.list.items) n (Refused (refusal_in e.list.trees r))) → IsEnding source f.at t status.Refused s → IsHalted source c e f s
refused_halts source c e f r t s is text ends =
    by_text source c e f (Refused (refusal_in e.list.trees r)) t status.Refused s (λ no. distinct r (sym is ∙ no)) (ap (halt_for e.list.trees f.at) is) (text (rule_name c)) refl ends
  where
    distinct : (r : Refusal) → why.Refused r ≡ why.Memory → ⊥
    distinct r h = cc

pub no_match_halts : (source : Text) (c : Command) (e : Evaluation) (f : EvalFault) (t : Text) (s : Step) → f.why ≡ why.NoMatch
    → ((W : Declarations) (n : Name) → t ≡ fault_text W n NoMatch) → IsEnding source f.at t status.NoMatch s → IsHalted source c e f s
no_match_halts source c e f t s is text ends =
    by_text source c e f NoMatch t status.NoMatch s (λ no. distinct (sym is ∙ no)) (ap (halt_for e.list.trees f.at) is) (text (declared_by e.list.items) (rule_name c)) refl ends
  where
    distinct : why.NoMatch ≡ why.Memory → ⊥
    distinct h = cc

-- that no rule is declared has a reason
some_reason : (e : Evaluation) (at : ℕ) (o : Option AnyRuleFault) (h : Halt) → rule_halt at o ≡ Some h → (w : AnyRuleFault) × (o ≡ Some w)
some_reason e at (Some w) h is = (w, refl)
some_reason e at None h is = Rattle.ft_common.proofs.Options.none_some is

pub rule_halts : (source : Text) (c : Command) (e : Evaluation) (f : EvalFault) (r : RuleFault) (t : Text) (s : Step) (h : Halt) → f.why ≡ why.Rule r
    → halt_for e.list.trees f.at f.why ≡ Some h
    → IsRuleText (declared_by e.list.items) (rule_name c) r t → IsEnding source f.at t status.Rule s → IsHalted source c e f s
rule_halts source c e f r t s h is there text ends =
    let w = some_reason e f.at (reason r) h (sym (ap (halt_for e.list.trees f.at) is) ∙ there) in
    by_text source c e f (OfRule w.0) t status.Rule s (λ no. distinct r (sym is ∙ no)) (ap (halt_for e.list.trees f.at) is ∙ ap (rule_halt f.at) w.1) (text w.0 w.1) refl ends
  where
    distinct : (r : RuleFault) → why.Rule r ≡ why.Memory → ⊥
    distinct r h = cc

-- ---- answers

-- what holds of an answer, from what else does
pub ok_map : {A E : Type 0} (r : Result A E) (P Q : A → Type 0) → ((a : A) → P a → Q a) → IfOk r P → IfOk r Q
ok_map (Ok a) P Q f h = f a h
ok_map (Err e) P Q f h = tt

-- the name of the rule that a command declares
pub rule_named : (at : ℕ) (n : Named) (ps : List Premise) (c : Conclusion) → rule_name (command_of (any.Rule at n ps c)) ≡ n.name
rule_named at n ps (conclusion.Type b) = refl
rule_named at n ps (conclusion.Term b A) = refl
rule_named at n ps (conclusion.Equation b x y A) = refl

pub rule_text_is : (W : Declarations) (n : Name) (f : RuleFault) (t : Text) (w : AnyRuleFault) → reason f ≡ Some w → t ≡ fault_text W n (OfRule w) → IsRuleText W n f t
rule_text_is W n f t w is text v there = text ∙ ap (λ w. fault_text W n (OfRule w)) (same_Some w v (sym is ∙ there))
