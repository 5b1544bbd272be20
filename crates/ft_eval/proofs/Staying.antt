-- What frames make of outcomes stays where a state goes further.
use Rattle.std.proofs.Common.{◌≡◌, ◌∙◌, List, [], ◌∷◌, ◌++◌, ap, ap₂, refl, Ok, Err, map}
use Rattle.ft_meaning.specs.Trees.{form, forms}
use Rattle.ft_meaning.specs.Values.{Environment, Outcome, after, performs, halts, State as Running}
use Rattle.ft_meaning.specs.Values as meaning
use Rattle.ft_meaning.specs.Forms.{abstract_value}
use Rattle.ft_running.specs.Evaluation.{Evaluation, IsEvaluation, GoesFurther, environment_of}
use Rattle.ft_running.specs.Asked.{next_argument}
use Rattle.ft_eval.specs.declared.frames.Work.{Work}
use Rattle.ft_eval.specs.declared.frames.Work.TheVariants as work
use Rattle.ft_eval.specs.declared.frames.Frame.{Frame}
use Rattle.ft_eval.specs.Frames.{follows, passed_by, passed, passed_all, made, filled_in}
use Rattle.ft_eval.specs.Fits.{WorkFits, Fits, AllFit}
use Rattle.ft_meaning.specs.Values.{◌>>=◌}
use Rattle.ft_meaning.specs.Forms.{applied}
use Rattle.ft_running.proofs.Further.{means_further, below_further, environment_further, scope_further}
use Rattle.ft_running.proofs.Declared.{rule_further, rule_means_further, variable_further, variable_means_further, judgements_further, theses_further}

-- what is done with a value stays
follows_still : (S T : Evaluation) (w : Work) (G : Environment) (v : meaning.Value) (s : Running)
    → IsEvaluation S → GoesFurther S T → WorkFits S w → follows T w G v s ≡ follows S w G v s
follows_still S T (work.Let x f) G v s e g h = refl
follows_still S T (work.Branches f f') G v s e g h = refl
follows_still S T (work.Cases at cs) G v s e g h = refl
follows_still S T (work.Handle hs) G v s e g h = refl
follows_still S T (work.HandleValue c hs) G v s e g h = refl
follows_still S T (work.Domain at x f) G v s e g h = refl
follows_still S T (work.Bind at y) G v s e g h =
    ap (λ x. abstract_value at x v s) (variable_means_further S T y g h)
follows_still S T (work.Second p f) G v s e g h = refl
follows_still S T (work.Both p a) G v s e g h =
    ap (λ x. made p x v s) (means_further S T a e g h.1)
follows_still S T (work.Word at word) G v s e g h = refl
follows_still S T (work.Argument at i) G v s e g h = refl
follows_still S T (work.Perform at op) G v s e g h = refl
follows_still S T (work.Premise a) G v s e g h =
    ap₂ (λ R js. (next_argument a.place R js v >>= λ k. applied a.at R (forms (map form a.rest.now)) G (js ++ k ∷ [])) s)
    (rule_means_further S T a.rule g h.0) (judgements_further S T a.given.items g h.1)
follows_still S T (work.Terms at es) G v s e g h = refl
follows_still S T (work.Term at a es) G v s e g h =
    ap (λ x. filled_in at x es.now G v s) (means_further S T a e g h.0)

passed_by_still : (S T : Evaluation) (w : Work) (G : Environment) (o : Outcome meaning.Value)
    → IsEvaluation S → GoesFurther S T → WorkFits S w → passed_by T w G o ≡ passed_by S w G o
passed_by_still S T w G (Ok v, s) e g h = follows_still S T w G v s e g h
passed_by_still S T w G (Err (performs op v at), s) e g h = refl
passed_by_still S T w G (Err (halts q), s) e g h = refl

-- what a frame makes of an outcome stays
pub passed_still : (S T : Evaluation) (f : Frame) (o : Outcome meaning.Value)
    → IsEvaluation S → GoesFurther S T → Fits S f → passed T f o ≡ passed S f o
passed_still S T f o e g h =
    ap (λ G. passed_by T f.work G o) (environment_further S T f.scope e g h.0)
    ∙ passed_by_still S T f.work (environment_of S f.scope) o e g h.1

-- so it is for all frames that wait
pub all_passed_still : (S T : Evaluation) (fs : List Frame) (o : Outcome meaning.Value)
    → IsEvaluation S → GoesFurther S T → AllFit S fs → passed_all T fs o ≡ passed_all S fs o
all_passed_still S T [] o e g h = refl
all_passed_still S T (f ∷ fs) o e g h =
    ap (passed T f) (all_passed_still S T fs o e g h.1)
    ∙ passed_still S T f (passed_all S fs o) e g h.0

work_further : (S T : Evaluation) (w : Work) → GoesFurther S T → WorkFits S w → WorkFits T w
work_further S T (work.Let x f) g h = h
work_further S T (work.Branches f f') g h = h
work_further S T (work.Cases at cs) g h = h
work_further S T (work.Handle hs) g h = h
work_further S T (work.HandleValue c hs) g h = h
work_further S T (work.Domain at x f) g h = h
work_further S T (work.Bind at y) g h = variable_further S T y g h
work_further S T (work.Second p f) g h = h
work_further S T (work.Both p a) g h = (h.0, below_further S T a g h.1)
work_further S T (work.Word at word) g h = h
work_further S T (work.Argument at i) g h = h
work_further S T (work.Perform at op) g h = h
work_further S T (work.Premise a) g h =
    (rule_further S T a.rule g h.0, theses_further S T a.given.items g h.1, h.2)
work_further S T (work.Terms at es) g h = h
work_further S T (work.Term at a es) g h = (below_further S T a g h.0, h.1)

-- frames fit still
pub fits_further : (S T : Evaluation) (f : Frame) → GoesFurther S T → Fits S f → Fits T f
fits_further S T f g h = (scope_further S T f.scope g h.0, work_further S T f.work g h.1)

pub all_fit_further : (S T : Evaluation) (fs : List Frame) → GoesFurther S T → AllFit S fs → AllFit T fs
all_fit_further S T [] g h = tt
all_fit_further S T (f ∷ fs) g h = (fits_further S T f g h.0, all_fit_further S T fs g h.1)
