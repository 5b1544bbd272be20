-- What the frames that wait make of an outcome.
use Rattle.std.specs.Prelude.{ℕ, ◌≡◌, List, [], ◌∷◌, ◌++◌, map, Result, Ok, Err}
use Rattle.ft_items.specs.Item.{Name}
use Rattle.ft_items.specs.Store.{Assertion}
use Rattle.ft_grammar.specs.declared.syntax.Ast.{Ast}
use Rattle.ft_grammar.specs.declared.syntax.Named.{Named}
use Rattle.ft_meaning.specs.Trees.{Form, form, forms, cases, handlers}
use Rattle.ft_meaning.specs.Values.{Environment, Outcome, Run, after, ◌>>=◌, pure, end, performs, halts, the_rule}
use Rattle.ft_meaning.specs.Values as meaning
use Rattle.ft_meaning.specs.Forms.{meaning as meaning_of, branch, first_match}
use Rattle.ft_meaning.specs.Forms.{of_operation, abstract_value, word_at, word_at_two}
use Rattle.ft_meaning.specs.Forms.{applied, substituted}
use Rattle.ft_meaning.proofs.Written.{case, handler}
use Rattle.ft_telling.specs.Telling.{variable_at}
use Rattle.ft_running.specs.Evaluation.{Evaluation, run_of, environment_of, value_over}
use Rattle.ft_running.specs.Asked.{new_term, next_argument, argument_at, congruence_at, put_at}
use Rattle.ft_running.specs.Asked.{rule_in, judgements_of}
use Rattle.ft_running.specs.Telling.{TellsEnd}
use Rattle.ft_running.specs.declared.ending.End.{End}
use Rattle.ft_eval.specs.declared.frames.Pairing.{Pairing}
use Rattle.ft_eval.specs.declared.frames.Pairing.TheVariants as pairing
use Rattle.ft_eval.specs.declared.frames.Arguments.{Arguments}
use Rattle.ft_eval.specs.declared.frames.Work.{Work}
use Rattle.ft_eval.specs.declared.frames.Work.TheVariants as work
use Rattle.ft_eval.specs.declared.frames.Frame.{Frame}
use Rattle.ft_eval.specs.declared.frames.Turn.{Turn}
use Rattle.ft_eval.specs.declared.frames.Turn.TheVariants as turn

-- what is made of two values
abbrev pub made : Pairing → meaning.Value → meaning.Value → Run meaning.Value
made pairing.Cons v w = pure (meaning.cons v w)
made pairing.Pair v w = pure (meaning.pair v w)
made (pairing.Word at second word) v w = word_at_two at second word v w
made (pairing.Congruence at R) v w = congruence_at at R.now.name v w

-- the value of an expression in an environment
abbrev pub value_of : Ast → Environment → Run meaning.Value
value_of e G = meaning_of (form e) G

-- what is made of the values of two expressions
abbrev pub both_of : Pairing → Ast → Ast → Environment → Run meaning.Value
both_of p e f G = value_of e G >>= λ v. value_of f G >>= made p v

-- a rule at the arguments so far and at further expressions
abbrev pub applied_to : Evaluation → ℕ → ℕ → List Assertion → List Ast → Environment
    → Run meaning.Value
applied_to S at r js es G = applied at (rule_in S r) (forms (map form es)) G js

-- the rule of a name at expressions
abbrev pub rule_called : ℕ → Name → List Ast → Environment → Run meaning.Value
rule_called at n es G = the_rule n >>= λ r. applied at r (forms (map form es)) G []

-- a rule where a further argument has this value
abbrev pub argued : Evaluation → Arguments → Environment → meaning.Value → Run meaning.Value
argued S a G v = do
  k ← next_argument a.place (rule_in S a.rule) (judgements_of S a.given.items) v
  applied_to S a.at a.rule (judgements_of S a.given.items ++ k ∷ []) a.rest.now G

-- the body of an abstraction over a new variable of the type that a value is
abbrev pub abstracted : ℕ → Name → Ast → Environment → meaning.Value → Run meaning.Value
abstracted at x f G v = do
  y ← new_term at x v
  w ← value_of f ((x, y.1) ∷ G)
  abstract_value at y.0 w

-- terms put into a value, one after the other
abbrev pub filled : ℕ → List Ast → Environment → meaning.Value → Run meaning.Value
filled at es G v = substituted at (forms (map form es)) v G

-- a term put into a value, and further ones after it
abbrev pub filled_in : ℕ → meaning.Value → List Ast → Environment → meaning.Value
    → Run meaning.Value
filled_in at v es G u = put_at at v u >>= filled at es G

-- what is done with a value in an environment
abbrev pub follows : Evaluation → Work → Environment → meaning.Value → Run meaning.Value
follows S (work.Let x f) G v = value_of f.now ((x.now.name, v) ∷ G)
follows S (work.Branches f g) G v = branch v (value_of f.now G) (value_of g.now G)
follows S (work.Cases at cs) G v = first_match at (cases (map case cs.now)) v G
follows S (work.Handle hs) G v = pure v
follows S (work.HandleValue c hs) G v = value_of c.now.body ((c.now.name.name, v) ∷ G)
follows S (work.Domain at x f) G v = abstracted at x.now.name f.now G v
follows S (work.Bind at y) G w = abstract_value at (variable_at S.list y) w
follows S (work.Second p f) G v = value_of f.now G >>= made p v
follows S (work.Both p v) G w = made p (value_over S v) w
follows S (work.Word at word) G v = word_at at word v
follows S (work.Argument at i) G v = argument_at at i v
follows S (work.Perform at op) G v = end (performs op.now.name v at)
follows S (work.Premise a) G v = argued S a G v
follows S (work.Terms at es) G v = filled at es.now G v
follows S (work.Term at v es) G u = filled_in at (value_over S v) es.now G u

-- the cases for operations, where a `handle` waits
abbrev pub handlers_of : Work → List (Named × Named × Form)
handlers_of (work.Handle hs) = map handler hs.now
handlers_of (work.HandleValue c hs) = map handler hs.now
handlers_of w = []

-- What waits in an environment is passed an outcome: it does with a value what it is there for, and
-- an operation goes on outwards where it has no case for it.
abbrev pub passed_by : Evaluation → Work → Environment → Outcome meaning.Value
    → Outcome meaning.Value
passed_by S w G (Ok v, s) = follows S w G v s
passed_by S w G (Err (performs op v at), s) =
    of_operation (handlers (handlers_of w)) op v at G s
passed_by S w G (Err (halts h), s) = (Err (halts h), s)

-- so for a frame, in the environment of its scope
abbrev pub passed : Evaluation → Frame → Outcome meaning.Value → Outcome meaning.Value
passed S f o = passed_by S f.work (environment_of S f.scope) o

-- what all frames that wait make of an outcome, the last one first
abbrev pub passed_all : Evaluation → List Frame → Outcome meaning.Value → Outcome meaning.Value
passed_all S [] o = o
passed_all S (f ∷ fs) o = passed S f (passed_all S fs o)

-- what a turn gives
abbrev pub turned : Evaluation → Turn → Outcome meaning.Value
turned S (turn.Give v) = (Ok (value_over S v), run_of S)
turned S (turn.Evaluate e G) = value_of e.now (environment_of S G) (run_of S)
turned S (turn.Await e f) =
    passed S f (value_of e.now (environment_of S f.scope) (run_of S))

-- The outcome is what the turn gives from here, or the run ends so.
abbrev pub TurnsInto : Outcome meaning.Value → Result Turn End → Evaluation → Type 0
TurnsInto o (Ok t) S = o ≡ turned S t
TurnsInto o (Err e) S = TellsEnd o e S
