-- What the frames that wait, and turns, hold is of the evaluation.
use Rattle.std.specs.Prelude.{List, [], ◌∷◌, map, Result, Ok, Err}
use Rattle.ft_meaning.specs.Trees.{form, forms, cases, handlers}
use Rattle.ft_meaning.proofs.Written.{case, handler}
use Rattle.ft_apply.specs.Named.{AreThesesOf}
use Rattle.ft_running.specs.Evaluation.{Evaluation, IsValueOf, IsScopeIn}
use Rattle.ft_running.specs.declared.ending.End.{End}
use Rattle.ft_running.specs.declared.ending.End.TheVariants as ending
use Rattle.ft_running.specs.Asked.{IsRuleOf, IsVariableIn, IsNoNormal, IsNoEqual}
use Rattle.ft_eval.specs.Asking.{AsksNothing, AskNothing, CasesAskNothing, HandlersAskNothing}
use Rattle.ft_eval.specs.declared.frames.Pairing.{Pairing}
use Rattle.ft_eval.specs.declared.frames.Pairing.TheVariants as pairing
use Rattle.ft_eval.specs.declared.frames.Work.{Work}
use Rattle.ft_eval.specs.declared.frames.Work.TheVariants as work
use Rattle.ft_eval.specs.declared.frames.Frame.{Frame}
use Rattle.ft_eval.specs.declared.frames.Turn.{Turn}
use Rattle.ft_eval.specs.declared.frames.Turn.TheVariants as turn

-- what is made of two values asks nothing of the equality checker
abbrev pub PairingAsksNothing : Pairing → Type 0
PairingAsksNothing (pairing.Word at second word) = IsNoEqual word
PairingAsksNothing p = Unit {0}

-- values, variables, rules and judgements in it are those of the evaluation, and its expressions
-- ask nothing of the equality checker
abbrev pub WorkFits : Evaluation → Work → Type 0
WorkFits S (work.Let x f) = AsksNothing (form f.now)
WorkFits S (work.Branches f g) = AsksNothing (form f.now) × AsksNothing (form g.now)
WorkFits S (work.Cases at cs) = CasesAskNothing (cases (map case cs.now))
WorkFits S (work.Handle hs) = HandlersAskNothing (handlers (map handler hs.now))
WorkFits S (work.HandleValue c hs) =
    AsksNothing (form c.now.body) × HandlersAskNothing (handlers (map handler hs.now))
WorkFits S (work.Domain at x f) = AsksNothing (form f.now)
WorkFits S (work.Bind at y) = IsVariableIn S y
WorkFits S (work.Second p f) = PairingAsksNothing p × AsksNothing (form f.now)
WorkFits S (work.Both p v) = PairingAsksNothing p × IsValueOf S v
WorkFits S (work.Word at word) = IsNoNormal word
WorkFits S (work.Argument at i) = Unit {0}
WorkFits S (work.Perform at op) = Unit {0}
WorkFits S (work.Premise a) =
    IsRuleOf S a.rule × AreThesesOf S.list a.given.items
    × AskNothing (forms (map form a.rest.now))
WorkFits S (work.Terms at es) = AskNothing (forms (map form es.now))
WorkFits S (work.Term at v es) = IsValueOf S v × AskNothing (forms (map form es.now))

abbrev pub Fits : Evaluation → Frame → Type 0
Fits S f = IsScopeIn S f.scope × WorkFits S f.work

-- so it is for all frames that wait
abbrev pub AllFit : Evaluation → List Frame → Type 0
AllFit S [] = Unit {0}
AllFit S (f ∷ fs) = Fits S f × AllFit S fs

abbrev pub TurnFits : Evaluation → Turn → Type 0
TurnFits S (turn.Give v) = IsValueOf S v
TurnFits S (turn.Evaluate e G) = IsScopeIn S G × AsksNothing (form e.now)
TurnFits S (turn.Await e f) = Fits S f × AsksNothing (form e.now)

-- so it is for what a turn answers
abbrev pub AnswerFits : Evaluation → Result Turn End → Type 0
AnswerFits S (Ok t) = TurnFits S t
AnswerFits S (Err (ending.Performs op)) = IsValueOf S op.argument
AnswerFits S (Err (ending.Halts h)) = Unit {0}
