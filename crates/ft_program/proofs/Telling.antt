-- The lines of what a command tells.
use Rattle.std.proofs.Common.{◌≡◌, ◌∙◌, ℕ, List, [], ◌∷◌, ap, ap₂, sym, refl, Some}
use Rattle.std.specs.Prelude.{All, option_map, option_and_then}
use Rattle.std.proofs.lemmas.Option.{same_Some}
use Rattle.ft_theory.specs.Rules.{Rule}
use Rattle.ft_items.specs.Item.{Name}
use Rattle.ft_items.specs.Store.{Assertion, Declarations, declared_by, each}
use Rattle.ft_kernel.specs.State.{State, entry_at, IsThesisOf}
use Rattle.ft_apply.specs.Named.{AreThesesOf}
use Rattle.ft_meaning.specs.Texts.{Text}
use Rattle.ft_meaning.specs.Commands as command
use Rattle.ft_meaning.specs.Lines.{done_lines}
use Rattle.ft_telling.specs.Words.{stated_all}
use Rattle.ft_values.specs.Kept.{stated}
use Rattle.ft_running.specs.Evaluation.{Evaluation}
use Rattle.ft_running.specs.Asked.{judgements_of}
use Rattle.ft_commands.specs.Doing.{IsDone, shown_by}
use Rattle.ft_commands.proofs.Marks.{thesis_at}
use Rattle.ft_commands.specs.declared.done.Done.{Done}
use Rattle.ft_commands.specs.declared.done.Done.TheVariants as done
use Rattle.ft_program.specs.declared.commands.Step.TheVariants as step
use Rattle.ft_program.specs.Running.{IsTold, IsTelling}

pub accepted_told : (e : Evaluation) (n : Name) (x : Text) → ((W : Declarations) (R : Rule) → x ≡ done_lines W (command.Accepted n R))
    → IsTold e (done.Accepted n) (step.Lines x)
accepted_told e n x h (command.Accepted m R) is = h (declared_by e.list.items) R ∙ ap (λ m. done_lines (declared_by e.list.items) (command.Accepted m R)) is
accepted_told e n x h (command.Shown bs) is = absurd is
accepted_told e n x h command.ShownNone is = absurd is
accepted_told e n x h command.Quiet is = absurd is

pub none_told : (e : Evaluation) (x : Text) → ((W : Declarations) → x ≡ done_lines W command.ShownNone) → IsTold e done.ShownNone (step.Lines x)
none_told e x h (command.Accepted m R) is = absurd is
none_told e x h (command.Shown bs) is = absurd is
none_told e x h command.ShownNone is = h (declared_by e.list.items)
none_told e x h command.Quiet is = absurd is

pub quiet_told : (e : Evaluation) (x : Text) → x ≡ [] → IsTold e done.Quiet (step.Lines x)
quiet_told e x h (command.Accepted m R) is = absurd is
quiet_told e x h (command.Shown bs) is = absurd is
quiet_told e x h command.ShownNone is = absurd is
quiet_told e x h command.Quiet is = h

-- ---- judgements

all_are : (s : State) (js : List ℕ) → AreThesesOf s js → All (IsThesisOf s) js
all_are s js h = λ k d l. thesis_at s js k d h l

each_is : (s : State) (js : List ℕ) → AreThesesOf s js → each (entry_at s) js ≡ Some (stated_all s js)
each_is s [] h = refl
each_is s (j ∷ js) h =
    ap₂ (λ o q. option_and_then (λ (b : Assertion). option_map (λ bs. b ∷ bs) q) o)
    (h.0.1 ∙ ap (λ (a : Assertion). Some a) (sym (ap stated h.0.1))) (each_is s js h.1)

theses_in : (e : Evaluation) (d : Done) (m : command.Done) → IsDone e d m → AreThesesOf e.list (shown_by d)
theses_in e (done.Accepted n) m h = tt
theses_in e (done.Shown js) (command.Accepted n R) h = absurd h
theses_in e (done.Shown js) (command.Shown bs) h = h.0
theses_in e (done.Shown js) command.ShownNone h = absurd h
theses_in e (done.Shown js) command.Quiet h = absurd h
theses_in e done.ShownNone m h = tt
theses_in e done.Quiet m h = tt

pub all_theses : (e : Evaluation) (d : Done) → IsTelling e d → All (IsThesisOf e.list) (shown_by d)
all_theses e d h = all_are e.list (shown_by d) (theses_in e d h.0 h.1)

-- it shows judgements
abbrev pub ShowsOnly : Done → Type 0
ShowsOnly (done.Shown js) = Unit {0}
ShowsOnly d = ⊥

pub shown_told : (e : Evaluation) (d : Done) (x : Text) → ShowsOnly d
    → Some x ≡ option_map (λ entries. done_lines (declared_by e.list.items) (command.Shown entries)) (each (entry_at e.list) (shown_by d))
    → IsTold e d (step.Lines x)
shown_told e (done.Accepted n) x only h m is = absurd only
shown_told e done.ShownNone x only h m is = absurd only
shown_told e done.Quiet x only h m is = absurd only
shown_told e (done.Shown js) x only h (command.Accepted m R) is = absurd is
shown_told e (done.Shown js) x only h (command.Shown bs) is =
    same_Some x (done_lines (declared_by e.list.items) (command.Shown (judgements_of e js.items)))
    (h ∙ ap (option_map (λ entries. done_lines (declared_by e.list.items) (command.Shown entries))) (each_is e.list js.items is.0))
    ∙ ap (λ bs. done_lines (declared_by e.list.items) (command.Shown bs)) (sym is.1)
shown_told e (done.Shown js) x only h command.ShownNone is = absurd is
shown_told e (done.Shown js) x only h command.Quiet is = absurd is
