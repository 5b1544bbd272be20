-- What a command does.
use Rattle.std.proofs.Common.{◌≡◌, ◌∙◌, ◌++◌, ℕ, List, [], ◌∷◌, map, ap, ap₂, sym, refl, subst, append_assoc}
use Rattle.std.specs.Prelude.{Result, Ok, Err}
use Rattle.ft_theory.specs.Rules.{Rule}
use Rattle.ft_items.specs.Item.{Name, shown}
use Rattle.ft_items.specs.Store.{Store}
use Rattle.ft_grammar.specs.declared.syntax.Named.{Named}
use Rattle.ft_grammar.specs.declared.syntax.Conclusion.{Conclusion}
use Rattle.ft_grammar.specs.declared.syntax.Conclusion.TheVariants as conclusion
use Rattle.ft_meaning.specs.Trees.{Form, Body, Command, Premise, rule_command, let_command, operation_command, show_command, rule_by, ValueType}
use Rattle.ft_meaning.specs.Values as meaning
use Rattle.ft_meaning.specs.Values.{Environment, Outcome, Run, after, pure, State as Running}
use Rattle.ft_meaning.specs.Forms.{meaning as meaning_of}
use Rattle.ft_meaning.specs.Typing.{Scope as Types}
use Rattle.ft_meaning.specs.Commands as command
use Rattle.ft_meaning.specs.Commands.{done as run_done, ended, run_command, declare_rule, shown as shown_by_value}
use Rattle.ft_meaning_laws.specs.Fits.{TypedCommandsFit, Leaves}
use Rattle.ft_telling.specs.declared.halt.Why.TheVariants as halting
use Rattle.ft_telling.specs.Telling.{halt_by}
use Rattle.ft_values.specs.Kept.{HasMore}
use Rattle.ft_values.specs.declared.scopes.Scope.TheVariants.{Top}
use Rattle.ft_values.specs.declared.values.Value.{Value}
use Rattle.ft_running.specs.declared.ending.End.{End}
use Rattle.ft_running.specs.declared.ending.End.TheVariants as ending
use Rattle.ft_running.specs.Evaluation.{Evaluation, IsEvaluation, GoesFurther, run_of, value_over, environment_of, with_top, without_scopes}
use Rattle.ft_running.specs.Telling.{TellsValue, TellsEnd}
use Rattle.ft_running.specs.Ends.{IsMemory}
use Rattle.ft_running.proofs.Ended.{memory_told}
use Rattle.ft_running.proofs.Further.{environment_further, further_same}
use Rattle.ft_apply.specs.Named.{AreThesesOf}
use Rattle.ft_eval.specs.CommandsAsking.{CommandAsksNothing, PremisesAskNothing, BodyAsksNothing}
use Rattle.ft_meaning.specs.Events.{told_by_event, events_of}
use Rattle.ft_drafting.specs.Drafting.{TellsStop}
use Rattle.ft_drafting.specs.declared.stops.Stop.{Stop}
use Rattle.ft_drafting.specs.declared.stops.Stop.TheVariants as stop
use Rattle.ft_commands.specs.Parts.{conclusion_of, conclusion_place}
use Rattle.ft_commands.specs.Doing.{named_in, IsTyped, IsDone, IsShown, IsQuiet, IsNotStuck, ItemsTell, TellsAccepted, TellsDoing, TellsShown, told_by, shown_by, with_marks}
use Rattle.ft_commands.specs.declared.done.Done.{Done}
use Rattle.ft_commands.specs.declared.done.Done.TheVariants as done
use Rattle.ft_commands.proofs.Claimed.{ends_after}
use Rattle.ft_commands.proofs.Premised.{stops_after}
use Rattle.ft_commands.proofs.Marks.{quiet_tell, more_tell, shown_tell, shown_marked, store_marked, shown_theses}
use Rattle.ft_commands.proofs.Ruled.{environment_more}

-- ---- quiet

pub quiet_further : (e f : Evaluation) → GoesFurther e f → IsQuiet e f
quiet_further e f g = record { list = g.list; names = g.top }

pub more_further : (e f : Evaluation) → GoesFurther e f → HasMore e.list f.list
more_further e f g = (g.list.0, g.list.1)

-- ---- rules

pub accepted : (e f : Evaluation) (at c_at : ℕ) (n : Named) (ps : List Premise) (c : Body) (m : Name) → m ≡ n.name
    → TellsAccepted (declare_rule n ps c_at c (named_in e) (run_of e)) n.name e (Ok tt) f
    → TellsDoing (run_done (rule_command at n ps c_at c) (named_in e) (run_of e)) e (Ok (done.Accepted m)) f
accepted e f at c_at n ps c m name told = (
  command.Accepted n.name told.0,
  name,
  ap (λ o. after o (λ R. pure (command.Accepted n.name R, named_in e))) told.1
      ∙ ap (λ G. (Ok (command.Accepted n.name told.0, G), run_of f)) (sym told.2),
  told.3,
)

pub rule_stops : (e f : Evaluation) (at c_at : ℕ) (n : Named) (ps : List Premise) (c : Body) (x : Stop)
    → TellsAccepted (declare_rule n ps c_at c (named_in e) (run_of e)) n.name e (Err x) f
    → TellsDoing (run_done (rule_command at n ps c_at c) (named_in e) (run_of e)) e (Err x) f
rule_stops e f at c_at n ps c x told =
    stops_after (declare_rule n ps c_at c (named_in e) (run_of e)) (λ R. pure (command.Accepted n.name R, named_in e)) x f told

-- a rule as it is written
rule_written : (at : ℕ) (n : Named) (ps : List Premise) (c : Conclusion) → rule_by at n ps c ≡ rule_command at n ps (conclusion_place c) (conclusion_of c)
rule_written at n ps (conclusion.Type c) = refl
rule_written at n ps (conclusion.Term c A) = refl
rule_written at n ps (conclusion.Equation c e f A) = refl

pub rule_is_done : (S e : Evaluation) (at : ℕ) (n : Named) (ps : List Premise) (c : Conclusion) (r : Result Done Stop)
    → ((at : ℕ) → TellsDoing (run_done (rule_command at n ps (conclusion_place c) (conclusion_of c)) (named_in S) (run_of S)) S r e)
    → TellsDoing (run_done (rule_by at n ps c) (named_in S) (run_of S)) S r e
rule_is_done S e at n ps c r told = subst (λ c. TellsDoing (run_done c (named_in S) (run_of S)) S r e) (sym (rule_written at n ps c)) (told at)

-- ---- names

pub value_named : (e f g : Evaluation) (at : ℕ) (n : Named) (x : Form) (v : Value) → IsEvaluation e → GoesFurther e f
    → TellsValue (meaning_of x (environment_of e Top) (run_of e)) (Ok v) f → g ≡ with_top n.name v f
    → TellsDoing (run_done (let_command at n x) (named_in e) (run_of e)) e (Ok done.Quiet) g
value_named e f g at n x v was on told is = (
  command.Quiet,
  tt,
  ap (λ o. after o (λ v. pure (command.Quiet, (n.name, v) ∷ named_in e))) told.0
      ∙ ap (λ G. (Ok (command.Quiet, (n.name, value_over f v) ∷ G), run_of f)) (sym (environment_further e f Top was on tt))
      ∙ ap (λ (x : Evaluation). (Ok (command.Quiet, named_in x), run_of x)) (sym is),
  subst (λ (x : Evaluation). ItemsTell e.list x.list []) (sym is) (quiet_tell e.list f.list on.list),
)

pub naming_ends : (e f : Evaluation) (at : ℕ) (n : Named) (x : Form) (end : End)
    → TellsValue (meaning_of x (environment_of e Top) (run_of e)) (Err end) f
    → TellsDoing (run_done (let_command at n x) (named_in e) (run_of e)) e (Err (stop.Ends end)) f
naming_ends e f at n x end told = ends_after (meaning_of x (named_in e) (run_of e)) (λ v. pure (command.Quiet, (n.name, v) ∷ named_in e)) end f told

-- ---- what is shown

marked_done : (js : List ℕ) (f : Evaluation) (d : Done) (m : command.Done) → IsShown f d m → IsDone (with_marks js f) d m
marked_done js f (done.Accepted n) m h = absurd h
marked_done js f done.Quiet m h = absurd h
marked_done js f (done.Shown ks) (command.Accepted n R) h = absurd h
marked_done js f (done.Shown ks) (command.Shown bs) h = shown_marked js f (done.Shown ks) (command.Shown bs) h
marked_done js f (done.Shown ks) command.ShownNone h = absurd h
marked_done js f (done.Shown ks) command.Quiet h = absurd h
marked_done js f done.ShownNone (command.Accepted n R) h = absurd h
marked_done js f done.ShownNone (command.Shown bs) h = absurd h
marked_done js f done.ShownNone command.ShownNone h = tt
marked_done js f done.ShownNone command.Quiet h = absurd h

pub value_shown : (e f g : Evaluation) (at : ℕ) (x : Form) (v : Value) (d : Done) → IsEvaluation e → IsEvaluation f → GoesFurther e f
    → TellsValue (meaning_of x (environment_of e Top) (run_of e)) (Ok v) f
    → TellsShown (shown_by_value (value_over f v) (run_of f)) (Ok d) f → g ≡ with_marks (shown_by d) f
    → TellsDoing (run_done (show_command at x) (named_in e) (run_of e)) e (Ok d) g
value_shown e f g at x v d was now on told shows is =
    let js = shown_by d in
    let h = with_marks js f in
    subst (λ g. TellsDoing (run_done (show_command at x) (named_in e) (run_of e)) e (Ok d) g) (sym is) (
      shows.0,
      marked_done js f d shows.0 shows.1,
      ap (λ o. after (after o shown_by_value) (λ d. pure (d, named_in e))) told.0
          ∙ ap (λ o. after o (λ d. pure (d, named_in e))) shows.2
          ∙ ap₂ (λ G s. (Ok (shows.0, G), s)) (sym (environment_more f h.list Top now (map shown js, refl) tt ∙ environment_further e f Top was on tt))
          (ap (λ (W : Store). record (run_of f) { declarations = W.declarations }) (sym (store_marked js f))),
      more_tell e.list f.list h.list (map shown js) (told_by h shows.0) on.list refl
          (shown_tell f d shows.0 shows.1 ∙ ap (λ (W : Store). map told_by_event (events_of W.declarations shows.0)) (sym (store_marked js f))),
    )

pub showing_ends : (e f : Evaluation) (at : ℕ) (x : Form) (end : End)
    → TellsValue (meaning_of x (environment_of e Top) (run_of e)) (Err end) f
    → TellsDoing (run_done (show_command at x) (named_in e) (run_of e)) e (Err (stop.Ends end)) f
showing_ends e f at x end told =
    ends_after (after (meaning_of x (named_in e) (run_of e)) shown_by_value) (λ d. pure (d, named_in e)) end f
    (ends_after (meaning_of x (named_in e) (run_of e)) shown_by_value end f told)

pub shown_ends : (e f : Evaluation) (at : ℕ) (x : Form) (v : Value) (end : End)
    → TellsValue (meaning_of x (environment_of e Top) (run_of e)) (Ok v) f
    → TellsShown (shown_by_value (value_over f v) (run_of f)) (Err end) f
    → TellsDoing (run_done (show_command at x) (named_in e) (run_of e)) e (Err (stop.Ends end)) f
shown_ends e f at x v end told shows =
    ends_after (after (meaning_of x (named_in e) (run_of e)) shown_by_value) (λ d. pure (d, named_in e)) end f
    (subst (λ o. TellsEnd (after o shown_by_value) end f) (sym told.0) shows)

pub told_theses : (f : Evaluation) (o : Outcome command.Done) (d : Done) → TellsShown o (Ok d) f → AreThesesOf f.list (shown_by d)
told_theses f o d told = shown_theses f d told.0 told.1

-- ---- what is left

pub memory_stops : (o : Outcome (command.Done × Environment)) (S e : Evaluation) (end : End) → IsMemory end → TellsDoing o S (Err (stop.Ends end)) e
memory_stops o S e end is = memory_told o end e is

pub quiet_same : (e : Evaluation) → IsQuiet e e
quiet_same e = quiet_further e e (further_same e)

pub more_same : (e : Evaluation) → HasMore e.list e.list
more_same e = more_further e e (further_same e)

pub more_told : (e f : Evaluation) (o : Outcome Rule) (n : Name) → TellsAccepted o n e (Ok tt) f → HasMore e.list f.list
more_told e f o n told = (told.3.0, told.3.1)

pub more_marked : (e f g : Evaluation) (js : List ℕ) → GoesFurther e f → g ≡ with_marks js f → HasMore e.list g.list
more_marked e f g js on is =
    subst (λ (g : Evaluation). HasMore e.list g.list) (sym is)
    (on.list.0 ++ map shown js, ap (λ xs. xs ++ map shown js) on.list.1 ∙ append_assoc e.list.items on.list.0 (map shown js))

pub quiet_cleared : (e f g : Evaluation) → g ≡ without_scopes f → IsQuiet e f → IsQuiet e g
quiet_cleared e f g is quiet = subst (λ g. IsQuiet e g) (sym is) (record { list = quiet.list; names = quiet.names })

-- ---- a command

pub operation_done : (e : Evaluation) (at : ℕ) (n : Named) (A B : ValueType)
    → TellsDoing (run_done (operation_command at n A B) (named_in e) (run_of e)) e (Ok done.Quiet) e
operation_done e at n A B = (command.Quiet, tt, refl, quiet_tell e.list e.list (further_same e).list)

pub rule_asks : (at : ℕ) (n : Named) (ps : List Premise) (c : Conclusion) → CommandAsksNothing (rule_by at n ps c)
    → PremisesAskNothing ps × BodyAsksNothing (conclusion_of c)
rule_asks at n ps c h = subst CommandAsksNothing (rule_written at n ps c) h

-- a command that has a type is not stuck
free : (before further : Types) (G : Environment) (s : Stop) (o : Outcome (command.Done × Environment)) (e : Evaluation)
    → TellsStop o s e → Leaves before further G (ended o) → IsNotStuck s
free before further G (stop.Refuses at f) o e told fits = tt
free before further G (stop.Ends (ending.Performs op)) o e told fits = tt
free before further G (stop.Ends (ending.Halts h)) o e told fits = λ is.
    let why_is : halt_by e.list.trees h.at h.why ≡ meaning.stuck = ap (halt_by e.list.trees h.at) is in
    subst (λ o. Leaves before further G o)
    (ap ended (told (λ memory. stuck_memory (sym is ∙ memory))).1 ∙ ap (λ w. (Err w, run_of e)) why_is) fits
  where
    stuck_memory : halting.Stuck ≡ halting.Memory → ⊥
    stuck_memory h = cc

pub not_stuck : (c : Command) (S e : Evaluation) (s : Stop) → TypedCommandsFit → IsTyped c S
    → TellsStop (run_done c (named_in S) (run_of S)) s e → IsNotStuck s
not_stuck c S e s law typed told =
    free typed.0 typed.1 (named_in S) s (run_done c (named_in S) (run_of S)) e told (law c typed.0 typed.1 (named_in S) (run_of S) typed.2 typed.3)
