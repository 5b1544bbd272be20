-- Operations that go outwards.
use Rattle.std.proofs.Common.{◌≡◌, ◌∙◌, ◌≤◌, ◌<◌, ◌+◌, ◌++◌, List, [], ◌∷◌, length, ap, sym, subst, Ok, Err, Result, arith, inl, inr, ◌⊎◌}
use Rattle.std.specs.Prelude.{IfOk, OnOk}
use Rattle.ft_values.specs.declared.scopes.Scope.{Scope}
use Rattle.ft_values.specs.declared.values.Value.{Value}
use Rattle.ft_eval.specs.declared.machine.Progress.{Progress}
use Rattle.ft_eval.specs.declared.machine.Progress.TheVariants as progress
use Rattle.ft_eval.specs.Progress.{ProgressesTo}
use Rattle.std.proofs.lemmas.List.{length-append}
use Rattle.ft_meaning.specs.Values.{Outcome, halts}
use Rattle.ft_meaning.specs.Values as meaning
use Rattle.ft_telling.specs.declared.halt.Halt.{Halt}
use Rattle.ft_telling.specs.Telling.{halt_in}
use Rattle.ft_running.specs.Evaluation.{Evaluation, IsEvaluation, GoesFurther, run_of, IsValueOf}
use Rattle.ft_running.specs.Telling.{performs, Halts, TellsEnd}
use Rattle.ft_running.specs.declared.ending.Operation.{Operation}
use Rattle.ft_running.specs.declared.ending.End.{End}
use Rattle.ft_running.specs.declared.ending.End.TheVariants as ending
use Rattle.ft_running.proofs.Further.{further_both}
use Rattle.ft_eval.specs.declared.frames.Frame.{Frame}
use Rattle.ft_eval.specs.declared.frames.Turn.{Turn}
use Rattle.ft_eval.specs.declared.frames.Turn.TheVariants as turn
use Rattle.ft_eval.specs.Frames.{passed, passed_all, turned, TurnsInto}
use Rattle.ft_eval.specs.Turns.{StepsInto, turn_left, frames_left, work_left, IsTurnOf}
use Rattle.ft_eval.specs.Fits.{AllFit, Fits, TurnFits, AnswerFits}
use Rattle.ft_eval.proofs.Passing.{passed_last, halted_through}
use Rattle.ft_eval.proofs.Staying.{all_passed_still, fits_further, all_fit_further}

-- the operation that is performed in a state, as an outcome
abbrev pub performed : Evaluation → Operation → Outcome meaning.Value
performed S op = (Err (performs op S), run_of S)

-- From the state S on, the operation went through all frames but the rest; the state is T.
pub record Unwinds (S T : Evaluation) (all rest : List Frame) (op here : Operation) : Type 0 where
  pub is : IsEvaluation S
  pub further : GoesFurther S T
  pub fits : AllFit S rest
  pub argument : IsValueOf T here.argument
  pub same : passed_all T rest (performed T here) ≡ passed_all S all (performed S op)
  pub shorter : length rest ≤ length all

-- the last frame and those before it fit
pub fits_last : (S : Evaluation) (fs : List Frame) (f : Frame) → AllFit S (fs ++ f ∷ []) → AllFit S fs × Fits S f
fits_last S [] f h = (tt, h.0)
fits_last S (g ∷ fs) f h = let r = fits_last S fs f h.1 in ((h.0, r.0), r.1)

pub fits_more : (S : Evaluation) (fs : List Frame) (f : Frame) → AllFit S fs → Fits S f → AllFit S (fs ++ f ∷ [])
fits_more S [] f h k = (k, tt)
fits_more S (g ∷ fs) f h k = (h.0, fits_more S fs f h.1 k)

-- what frames make of an outcome is the same in both states
moved : (S T U : Evaluation) (fs : List Frame) (o : Outcome meaning.Value) → IsEvaluation S → GoesFurther S T → GoesFurther S U → AllFit S fs
    → passed_all T fs o ≡ passed_all U fs o
moved S T U fs o is g h fit = all_passed_still S T fs o is g fit ∙ sym (all_passed_still S U fs o is h fit)

-- up to a frame that is taken off
taken : (S T U : Evaluation) (all rest fs : List Frame) (f : Frame) (op here : Operation) → Unwinds S T all rest op here → GoesFurther T U → rest ≡ fs ++ f ∷ []
    → passed_all S all (performed S op) ≡ passed_all U fs (passed T f (performed T here))
taken S T U all rest fs f op here h g is =
    let parts = fits_last S fs f (subst (AllFit S) is h.fits) in
    sym h.same
    ∙ ap (λ r. passed_all T r (performed T here)) is
    ∙ passed_last T fs f (performed T here)
    ∙ moved S T U fs (passed T f (performed T here)) h.is h.further (further_both S T U h.further g) parts.0

pub unwind_ok : (S T U : Evaluation) (all rest fs : List Frame) (f : Frame) (op here : Operation) (t : Turn) → Unwinds S T all rest op here → GoesFurther T U → rest ≡ fs ++ f ∷ []
    → passed T f (performed T here) ≡ turned U t
    → passed_all S all (performed S op) ≡ passed_all U fs (turned U t)
unwind_ok S T U all rest fs f op here t h g is told = taken S T U all rest fs f op here h g is ∙ ap (passed_all U fs) told

pub unwind_halts : (S T U : Evaluation) (all rest fs : List Frame) (f : Frame) (op here : Operation) (q : Halt) → Unwinds S T all rest op here → GoesFurther T U → rest ≡ fs ++ f ∷ []
    → Halts (passed T f (performed T here)) q U
    → Halts (passed_all S all (performed S op)) q U
unwind_halts S T U all rest fs f op here q h g is told = λ other. (
  (told other).0,
  taken S T U all rest fs f op here h g is ∙ ap (passed_all U fs) (told other).1
      ∙ halted_through U fs (halt_in U.list.trees q) (run_of U),
)

shorter_by_one : (rest fs all : List Frame) (f : Frame) → rest ≡ fs ++ f ∷ [] → length rest ≤ length all → length fs + 1 ≤ length all
shorter_by_one rest fs all f is l = omega (arith, ap length is, length-append fs (f ∷ []), l)

pub unwind_on : (S T U : Evaluation) (all rest fs : List Frame) (f : Frame) (op here next : Operation) → Unwinds S T all rest op here → GoesFurther T U → rest ≡ fs ++ f ∷ []
    → TellsEnd (passed T f (performed T here)) (ending.Performs next) U
    → Unwinds S U all fs op next
unwind_on S T U all rest fs f op here next h g is told = record {
  is = h.is;
  further = further_both S T U h.further g;
  fits = (fits_last S fs f (subst (AllFit S) is h.fits)).0;
  argument = told.1;
  same = sym (taken S T U all rest fs f op here h g is ∙ ap (passed_all U fs) told.0);
  shorter = omega (arith, shorter_by_one rest fs all f is h.shorter);
}

pub unwind_falls : (S T : Evaluation) (all rest fs : List Frame) (f : Frame) (op here : Operation) (t : Turn) → Unwinds S T all rest op here → rest ≡ fs ++ f ∷ []
    → turn_left t ≡ 0 → frames_left fs t < length all
unwind_falls S T all rest fs f op here t h is none = omega (arith, shorter_by_one rest fs all f is h.shorter, none)

pub unwind_fits : (S T U : Evaluation) (all rest fs : List Frame) (f : Frame) (op here : Operation) → Unwinds S T all rest op here → GoesFurther T U → rest ≡ fs ++ f ∷ []
    → AllFit U fs × Fits T f
unwind_fits S T U all rest fs f op here h g is =
    let parts = fits_last S fs f (subst (AllFit S) is h.fits) in
    (all_fit_further S U fs (further_both S T U h.further g) parts.0, fits_further S T f h.further parts.1)

-- what a turn answers fits, where it is what is told
pub answer_fits : (S : Evaluation) (o : Outcome meaning.Value) (r : Result Turn End) → TurnsInto o r S
    → IfOk r (λ t. TurnFits S t) → AnswerFits S r
answer_fits S o (Ok t) told fits = fits
answer_fits S o (Err (ending.Performs op)) told fits = told.1
answer_fits S o (Err (ending.Halts h)) told fits = tt

-- frames around a turn's outcome
pub steps_same : (o p : Outcome meaning.Value) (r : Result Turn End) (fs : List Frame) (S : Evaluation) → o ≡ p → StepsInto o r fs S → StepsInto p r fs S
steps_same o p r fs S same h = subst (λ o. StepsInto o r fs S) same h

-- a halt is one for all frames
pub halt_told : (S : Evaluation) (fs : List Frame) (o : Outcome meaning.Value) (q : Halt) → Halts o q S → Halts (passed_all S fs o) q S
halt_told S fs o q told = λ other. ((told other).0, ap (passed_all S fs) (told other).1 ∙ halted_through S fs (halt_in S.list.trees q) (run_of S))

-- what is left to do falls
pub at_most_one : (t : Turn) → turn_left t ≤ 1
at_most_one (turn.Give v) = omega arith
at_most_one (turn.Evaluate e G) = omega arith
at_most_one (turn.Await e f) = omega arith

pub go_falls : (S T U : Evaluation) (fs gs : List Frame) (a r : Result Turn End) (e : _) (G : Scope)
    → OnOk a (S.units.used + 1 ≤ T.units.used) → IsEvaluation T → GoesFurther S T → GoesFurther T U
    → IfOk r (λ t. IsTurnOf a fs gs t ⊎ (frames_left gs t < length fs))
    → IfOk r (λ t. work_left U gs t < work_left S fs (turn.Evaluate e G))
go_falls S T U fs gs (Ok u) (Ok t) e G spent is g h (inl same) =
    omega (arith, spent, is.within, h.used, g.total, h.total, at_most_one t, ap (λ (fs : List Frame). length fs) same.1)
go_falls S T U fs gs (Err q) (Ok t) e G spent is g h (inl same) = absurd same
go_falls S T U fs gs a (Ok t) e G spent is g h (inr less) = omega (arith, g.used, h.used, g.total, h.total, less)
go_falls S T U fs gs a (Err q) e G spent is g h l = tt

-- From the state S on, the frames and the turn at hand are to give the outcome; the state is T.
pub record Runs (S T : Evaluation) (o : Outcome meaning.Value) (fs : List Frame) (t : Turn) : Type 0 where
  pub further : GoesFurther S T
  pub frames : AllFit T fs
  pub fits : TurnFits T t
  pub same : o ≡ passed_all T fs (turned T t)

-- a further turn
pub runs_on : (S T U : Evaluation) (o : Outcome meaning.Value) (fs gs : List Frame) (t n : Turn) → Runs S T o fs t → GoesFurther T U → AllFit U gs → TurnFits U n
    → ProgressesTo (passed_all T fs (turned T t)) (Ok (progress.Further n)) gs U → Runs S U o gs n
runs_on S T U o fs gs t n h g frames fits told = record {
  further = further_both S T U h.further g;
  frames = frames;
  fits = fits;
  same = h.same ∙ told;
}

pub progresses_same : (o p : Outcome meaning.Value) (r : Result Progress End) (fs : List Frame) (S : Evaluation) → o ≡ p → ProgressesTo o r fs S → ProgressesTo p r fs S
progresses_same o p r fs S same h = subst (λ o. ProgressesTo o r fs S) same h

-- a value that is given to the last frame
pub given_last : (S : Evaluation) (fs gs : List Frame) (f : Frame) (o : Outcome meaning.Value) → fs ≡ gs ++ f ∷ [] → passed_all S gs (passed S f o) ≡ passed_all S fs o
given_last S fs gs f o is = sym (ap (λ fs. passed_all S fs o) is ∙ passed_last S gs f o)

pub give_falls : (S T : Evaluation) (fs gs hs : List Frame) (f : Frame) (v : Value) (r : Result Turn End) → fs ≡ gs ++ f ∷ [] → GoesFurther S T
    → IfOk r (λ t. frames_left hs t < length gs + 2) → IfOk r (λ t. work_left T hs t < work_left S fs (turn.Give v))
give_falls S T fs gs hs f v (Ok t) is g l = omega (arith, ap (λ (fs : List Frame). length fs) is, length-append gs (f ∷ []), g.used, g.total, l)
give_falls S T fs gs hs f v (Err e) is g l = tt
