-- Steps of a run.
use Rattle.std.proofs.Common.{◌≡◌, ◌≢◌, ◌∙◌, ◌++◌, ◌-◌, ℕ, List, [], ◌∷◌, map, ap, ap₂, sym, refl, subst, arith, suc}
use Rattle.std.specs.Prelude.{Result, Ok, Err, IfOk, All, reverse}
use Rattle.std.proofs.lemmas.List.{reverse-append}
use Rattle.ft_base.specs.declared.memory.Memory.{Memory}
use Rattle.ft_items.specs.Store.{declared_by}
use Rattle.ft_grammar.specs.declared.syntax.Command.{Command as AnyCommand}
use Rattle.ft_meaning.specs.Trees.{Command, command_of}
use Rattle.ft_meaning.specs.Texts.{Text}
use Rattle.ft_meaning.specs.Typing.{first_scope}
use Rattle.ft_meaning.specs.CommandTyping.{scope_after}
use Rattle.ft_meaning.specs.Commands.{run_command}
use Rattle.ft_meaning.specs.Events.{events_of}
use Rattle.ft_meaning.specs.Transcript.{Transcript, transcript_from, after_typing, after_command, preceded, over, start}
use Rattle.ft_meaning_laws.specs.Fits.{Fits, TypedCommandsFit, FirstStateFits, Leaves}
use Rattle.ft_kernel.specs.State.{State}
use Rattle.ft_eval.specs.CommandsAsking.{CommandAsksNothing}
use Rattle.ft_running.specs.Evaluation.{Evaluation, run_of}
use Rattle.ft_types.specs.Checking.{fault_of}
use Rattle.ft_types.specs.declared.fault.TypeFault.{TypeFault as AnyFault}
use Rattle.ft_types.specs.declared.fault.TypeWhy.TheVariants as why
use Rattle.ft_values.specs.Kept.{HasMore}
use Rattle.ft_commands.specs.Doing.{named_in, ItemsTell, IsQuiet, TellsRun, IsTyped}
use Rattle.ft_commands.specs.declared.done.Done.{Done}
use Rattle.ft_commands.specs.declared.done.EvalFault.{EvalFault}
use Rattle.ft_commands.specs.declared.done.EvalWhy.TheVariants as halting
use Rattle.ft_commands.proofs.Marks.{quiet_tell}
use Rattle.ft_whole_answers.specs.Statuses.{number_of}
use Rattle.ft_whole_answers.specs.declared.status.Status.TheVariants as status
use Rattle.ft_program.specs.declared.commands.Run.{Run}
use Rattle.ft_program.specs.declared.commands.Step.{Step}
use Rattle.ft_program.specs.declared.commands.Step.TheVariants as step
use Rattle.ft_program.specs.Running.{commands_left, IsReady, ahead, StepsFrom, performed, IsTypedFor, IsUntyped, IsTold, IsHalted, IsTelling, IsHalting}

-- ---- the first state

-- a run before its first command
pub record IsFirst (r : Run) (cs : List AnyCommand) (budget : ℕ) : Type 0 where
  pub rest : r.rest.items ≡ reverse cs
  pub scope : r.scope ≡ first_scope
  pub list : r.state.list ≡ record { trees = []; items = [] }
  pub names : r.state.top ≡ []
  pub total : r.state.units.total ≡ budget
  pub used : r.state.units.used ≡ 0

twice_reversed : {A : Type 0} (xs : List A) → reverse (reverse xs) ≡ xs
twice_reversed [] = refl
twice_reversed (x ∷ xs) = ap reverse (reverse-append (x ∷ []) xs) ∙ reverse-append (reverse xs) (x ∷ []) ∙ ap (λ ys. x ∷ ys) (twice_reversed xs)

first_run : (r : Run) (cs : List AnyCommand) (budget : ℕ) → IsFirst r cs budget → run_of r.state ≡ start budget
first_run r cs budget h =
    ap₂ (λ (s : State) n. record { declarations = declared_by s.items; equality_rules = Rattle.ft_equality.specs.Shapes.no_rules; units = record { used = n; left = r.state.units.total - n } }) h.list h.used
    ∙ ap (λ m. record { declarations = declared_by []; equality_rules = Rattle.ft_equality.specs.Shapes.no_rules; units = record { used = 0; left = m } }) (left r.state.units.total budget h.total)
  where
    left : (m n : ℕ) → m ≡ n → m - 0 ≡ n
    left m n e = omega (arith, e)

first_names : (r : Run) (cs : List AnyCommand) (budget : ℕ) → IsFirst r cs budget → named_in r.state ≡ []
first_names r cs budget h = ap (λ ns. Rattle.ft_values.specs.Named.environment_in r.state.list r.state.values ns) h.names

pub run_ready : (r : Run) (cs : List AnyCommand) (budget : ℕ) → IsFirst r cs budget → FirstStateFits → All CommandAsksNothing (map command_of cs) → IsReady r
run_ready r cs budget h law asks = record {
  fits = subst (λ s. Fits s (named_in r.state) (run_of r.state)) (sym h.scope)
      (subst (λ G. Fits first_scope G (run_of r.state)) (sym (first_names r cs budget h))
      (subst (λ s. Fits first_scope [] s) (sym (first_run r cs budget h)) (law budget)));
  asks = subst (λ xs. All CommandAsksNothing (map command_of xs)) (sym (ap reverse h.rest ∙ twice_reversed cs)) asks;
}

pub run_ahead : (r : Run) (cs : List AnyCommand) (budget : ℕ) → IsFirst r cs budget → (source : Text)
    → ahead source r ≡ transcript_from source (map command_of cs) first_scope [] (start budget)
run_ahead r cs budget h source =
    ap (λ xs. transcript_from source (map command_of xs) r.scope (named_in r.state) (run_of r.state)) (ap reverse h.rest ∙ twice_reversed cs)
    ∙ ap (λ s. transcript_from source (map command_of cs) s (named_in r.state) (run_of r.state)) h.scope
    ∙ ap₂ (λ G s. transcript_from source (map command_of cs) first_scope G s) (first_names r cs budget h) (first_run r cs budget h)

-- ---- the end

pub run_over : (source : Text) (r q : Run) (x : Text) → r.rest.items ≡ [] → q.state ≡ r.state → x ≡ []
    → StepsFrom source (ahead source r) r.state.list (Ok (step.Ends x status.Done)) q
run_over source r q x none same empty = (
  ap (λ xs. transcript_from source (map command_of (reverse xs)) r.scope (named_in r.state) (run_of r.state)) none
      ∙ ap₂ (λ t (e : Evaluation). over t 0 e.units.used) (sym empty) (sym same),
  subst (λ (e : Evaluation). ItemsTell r.state.list e.list []) (sym same) (nothing_told r.state.list),
)
  where
    nothing_told : (s : State) → ItemsTell s s []
    nothing_told s = ([], sym (Rattle.std.proofs.Common.append-nil s.items), refl)

-- ---- the next command

left_is : (r : Run) (more : List AnyCommand) (c : AnyCommand) → r.rest.items ≡ more ++ c ∷ [] → commands_left r ≡ command_of c ∷ map command_of (reverse more)
left_is r more c h = ap (λ xs. map command_of (reverse xs)) h ∙ ap (map command_of) (reverse-append more (c ∷ []))

ahead_is : (source : Text) (r : Run) (more : List AnyCommand) (c : AnyCommand) → r.rest.items ≡ more ++ c ∷ []
    → ahead source r ≡ after_typing source (scope_after (command_of c) r.scope) r.state.units.used
    (λ further. after_command source (command_of c) (run_command (command_of c) (named_in r.state) (run_of r.state)) (transcript_from source (map command_of (reverse more)) further))
ahead_is source r more c h = ap (λ cs. transcript_from source cs r.scope (named_in r.state) (run_of r.state)) (left_is r more c h)

all_first : (c : Command) (cs : List Command) → All CommandAsksNothing (c ∷ cs) → CommandAsksNothing c
all_first c cs h = h 0 c (omega arith)

all_rest : (c : Command) (cs : List Command) → All CommandAsksNothing (c ∷ cs) → All CommandAsksNothing cs
all_rest c cs h = λ k d l. h (suc k) d (omega (arith, l))

-- the commands ask nothing
pub first_asks : (r : Run) (more : List AnyCommand) (c : AnyCommand) → IsReady r → r.rest.items ≡ more ++ c ∷ [] → CommandAsksNothing (command_of c)
first_asks r more c h is = all_first (command_of c) (map command_of (reverse more)) (subst (λ cs. All CommandAsksNothing cs) (left_is r more c is) h.asks)

pub rest_asks : (r q : Run) (c : AnyCommand) → IsReady r → r.rest.items ≡ q.rest.items ++ c ∷ [] → All CommandAsksNothing (commands_left q)
rest_asks r q c h is = all_rest (command_of c) (map command_of (reverse q.rest.items)) (subst (λ cs. All CommandAsksNothing cs) (left_is r q.rest.items c is) h.asks)

-- it has a type
pub typed_for : (r q : Run) (c : AnyCommand) → IsReady r → q.state ≡ r.state → scope_after (command_of c) r.scope ≡ Ok q.scope → IsTypedFor (command_of c) q
typed_for r q c h same typed = (r.scope, subst (λ (e : Evaluation). Fits r.scope (named_in e) (run_of e)) (sym same) h.fits, typed)

pub typed_steps : (source : Text) (r q p : Run) (c : AnyCommand) (o : Result Step Memory) → r.rest.items ≡ q.rest.items ++ c ∷ [] → q.state ≡ r.state
    → scope_after (command_of c) r.scope ≡ Ok q.scope → StepsFrom source (performed source (command_of c) q) q.state.list o p
    → StepsFrom source (ahead source r) r.state.list o p
typed_steps source r q p c o is same typed told =
    subst (λ t. StepsFrom source t r.state.list o p)
    (sym (ahead_is source r q.rest.items c is
    ∙ ap (λ s. after_typing source s r.state.units.used
    (λ further. after_command source (command_of c) (run_command (command_of c) (named_in r.state) (run_of r.state)) (transcript_from source (map command_of (reverse q.rest.items)) further))) typed))
    (subst (λ (e : Evaluation). StepsFrom source (after_command source (command_of c) (run_command (command_of c) (named_in e) (run_of e)) (transcript_from source (commands_left q) q.scope)) e.list o p) same told)

-- it has none
pub untyped_ends : (source : Text) (r q : Run) (c : AnyCommand) (f : AnyFault) (s : Step) → r.rest.items ≡ q.rest.items ++ c ∷ [] → q.state ≡ r.state
    → (f.why ≢ why.Memory → scope_after (command_of c) r.scope ≡ Err (fault_of f)) → IsUntyped source f s
    → StepsFrom source (ahead source r) r.state.list (Ok s) q
untyped_ends source r q c f (step.Lines x) is same gives told = absurd told
untyped_ends source r q c f (step.Ends x st) is same gives told = (
  ahead_is source r q.rest.items c is
      ∙ ap (λ s. after_typing source s r.state.units.used
      (λ further. after_command source (command_of c) (run_command (command_of c) (named_in r.state) (run_of r.state)) (transcript_from source (map command_of (reverse q.rest.items)) further))) (gives told.0)
      ∙ ap₂ (λ t n. over t n r.state.units.used) (sym told.1) (sym told.2)
      ∙ ap (λ (e : Evaluation). over x (number_of st) e.units.used) (sym same),
  subst (λ (e : Evaluation). ItemsTell r.state.list e.list []) (sym same) ([], sym (Rattle.std.proofs.Common.append-nil r.state.list.items), refl),
)

pub more_same : (r q : Run) → q.state ≡ r.state → HasMore r.state.list q.state.list
more_same r q same = subst (λ (e : Evaluation). HasMore r.state.list e.list) (sym same) ([], sym (Rattle.std.proofs.Common.append-nil r.state.list.items))

-- ---- a command that is run

-- the run with another state
abbrev pub at_state : Run → Evaluation → Run
at_state r e = record r { state = e }

pub is_typed : (c : Command) (r : Run) → IsTypedFor c r → IsTyped c r.state
is_typed c r h = (h.0, r.scope, h.1, h.2)

pub telling : (o : _) (S e : Evaluation) (d : Done) → TellsRun o S (Ok d) e → IsTelling e d
telling o S e d told = (told.0, told.1)

pub halts : (o : _) (S e : Evaluation) (f : EvalFault) → TellsRun o S (Err f) e → IsHalting e f
halts o S e f told = λ no. let t = told no in (t.0, t.1, t.2)

pub done_steps : (source : Text) (c : Command) (r q : Run) (d : Done) (s : Step) → TypedCommandsFit → IsTypedFor c r → All CommandAsksNothing (commands_left r)
    → TellsRun (run_command c (named_in r.state) (run_of r.state)) r.state (Ok d) q.state → q ≡ at_state r q.state → IsTold q.state d s
    → StepsFrom source (performed source c r) r.state.list (Ok s) q
done_steps source c r q d (step.Ends x st) law typed asks told is lines = absurd lines
done_steps source c r q d (step.Lines x) law typed asks told is lines =
    let m = told.0 in
    let W = declared_by q.state.list.items in
    let fits = law c typed.0 r.scope (named_in r.state) (run_of r.state) typed.1 typed.2 in (
      events_of W m,
      ap (λ o. after_command source c o (transcript_from source (commands_left r) r.scope)) told.2
          ∙ ap (λ t. preceded t (events_of W m) (ahead source (at_state r q.state))) (sym (lines m told.1))
          ∙ ap (λ p. preceded x (events_of W m) (ahead source p)) (sym is),
      told.3,
      subst IsReady (sym is) (record {
        fits = subst (λ o. Leaves typed.0 r.scope (named_in r.state) o) told.2 fits;
        asks = asks;
      }),
    )

pub halted_steps : (source : Text) (c : Command) (r q : Run) (f : EvalFault) (s : Step)
    → TellsRun (run_command c (named_in r.state) (run_of r.state)) r.state (Err f) q.state → (f.why ≢ halting.Memory → IsQuiet r.state q.state)
    → IsHalted source c q.state f s
    → StepsFrom source (performed source c r) r.state.list (Ok s) q
halted_steps source c r q f (step.Lines x) told quiet line = absurd line
halted_steps source c r q f (step.Ends x st) told quiet line =
    let t = told line.0 in (
      ap (λ o. after_command source c o (transcript_from source (commands_left r) r.scope)) t.3 ∙ line.1 t.1 t.2,
      quiet_tell r.state.list q.state.list (quiet line.0).list,
    )

-- by what is known of an answer
pub steps_any : (source : Text) (t : Transcript) (s : State) (o : Result Step Memory) (q : Run) → IfOk o (λ x. StepsFrom source t s (Ok x) q) → HasMore s q.state.list
    → StepsFrom source t s o q
steps_any source t s (Ok x) q ok more = ok
steps_any source t s (Err m) q ok more = more
