-- What frames make of outcomes.
use Rattle.std.proofs.Common.{◌≡◌, List, [], ◌∷◌, ◌++◌, ap, refl, Ok, Err}
use Rattle.ft_meaning.specs.Trees.{handlers}
use Rattle.ft_meaning.specs.Values.{Environment, Outcome, after, performs, halts, Halt, State as Running}
use Rattle.ft_meaning.specs.Values as meaning
use Rattle.ft_meaning.specs.Forms.{of_operation}
use Rattle.ft_running.specs.Evaluation.{Evaluation}
use Rattle.ft_eval.specs.declared.frames.Work.{Work}
use Rattle.ft_eval.specs.declared.frames.Frame.{Frame}
use Rattle.ft_eval.specs.Frames.{follows, handlers_of, passed_by, passed, passed_all}

-- what waits without cases for operations is what follows a value
pub passed_after : (S : Evaluation) (w : Work) (G : Environment) (o : Outcome meaning.Value)
    → handlers_of w ≡ [] → passed_by S w G o ≡ after o (follows S w G)
passed_after S w G (Ok v, s) q = refl
passed_after S w G (Err (performs op v at), s) q =
    ap (λ hs. of_operation (handlers hs) op v at G s) q
passed_after S w G (Err (halts h), s) q = refl

-- a halt goes through all frames
pub halted_through : (S : Evaluation) (fs : List Frame) (h : Halt) (s : Running)
    → passed_all S fs (Err (halts h), s) ≡ (Err (halts h), s)
halted_through S [] h s = refl
halted_through S (f ∷ fs) h s = ap (passed S f) (halted_through S fs h s)

-- the last frame is the first that an outcome comes to
pub passed_last : (S : Evaluation) (fs : List Frame) (f : Frame) (o : Outcome meaning.Value)
    → passed_all S (fs ++ f ∷ []) o ≡ passed_all S fs (passed S f o)
passed_last S [] f o = refl
passed_last S (g ∷ fs) f o = ap (passed S g) (passed_last S fs f o)
