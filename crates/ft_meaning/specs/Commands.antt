-- What commands do: a rule is declared, a value is named, an operation or an equality rule is declared, a value is shown.
use Rattle.std.specs.Prelude.{ℕ, List, [], ◌∷◌, Result, Ok, Err}
use Rattle.ft_theory.specs.Rules.{Rule}
use Rattle.ft_items.specs.Item.{Name}
use Rattle.ft_items.specs.Store.{Assertion, Annotation, Declared, Declarations}
use Rattle.ft_reference.specs.Declare.{Outcome as Declaration, RuleFault, Draft, begin, premise, finish}
use Rattle.ft_reference.specs.Nucleus as reference
use Rattle.ft_equality.specs.Shapes.{ShapeFault, EqualityRules, add_computation, add_extensionality}
use Rattle.ft_grammar.specs.declared.syntax.Named.{Named}
use Rattle.ft_meaning.specs.Trees.{Binder, Body, type_body, term_body, types_body, terms_body, Premise, Command, rule_command, let_command, operation_command, computation_command, extensionality_command, show_command}
use Rattle.ft_meaning.specs.Values.{Value, judgement, nil, cons, none, some, Environment, State, Unhandled, OfRule, OfShape, Halt, fails, stuck, performs, halts, Outcome, Run, ◌>>=◌, ◌>>◌, pure, halt, nucleus, after_declaration, declare, the_rule, as_judgement, as_judgements}
use Rattle.ft_meaning.specs.Forms.{meaning, judgement_of, make_variable}

-- Rules.

-- a variable of a premise, with the place of its name
pub record Bound : Type 0 where
  pub at : ℕ
  pub variable : ℕ × Annotation

-- binders in turn: the named values after them, and their variables, the last first
abbrev pub bind_all : List Binder → Environment → List Bound → Run (Environment × List Bound)
bind_all [] G xs = pure (G, xs)
bind_all (b ∷ bs) G xs = do
  A ← judgement_of b.domain G
  x ← make_variable b.name.at b.name.name A
  j ← nucleus b.name.at (λ W. reference.variable W x)
  bind_all bs ((b.name.name, judgement j) ∷ G) (record { at = b.name.at; variable = x } ∷ xs)

-- the boundary that a body states; a refusal of it stands at the place
abbrev pub boundary_by : ℕ → Body → Environment → Run Assertion
boundary_by at type_body G = nucleus at reference.boundary_type
boundary_by at (term_body e) G = do
  A ← judgement_of e G
  nucleus at (λ W. reference.boundary_term W A)
boundary_by at (types_body e f) G = do
  A ← judgement_of e G
  B ← judgement_of f G
  nucleus at (λ W. reference.boundary_eq_type W A B)
boundary_by at (terms_body e f g) G = do
  s ← judgement_of e G
  t ← judgement_of f G
  A ← judgement_of g G
  nucleus at (λ W. reference.boundary_eq_term W A s t)

-- the variables bound in turn, each as a new first domain
abbrev pub abstract_all : List Bound → Assertion → Run Assertion
abstract_all [] b = pure b
abstract_all (x ∷ xs) b = nucleus x.at (λ W. reference.abstract_variable W x.variable b) >>= abstract_all xs

-- what a premise of the draft leaves and answers: its metavariable, and the draft after it; a refusal becomes a fault at the place
abbrev pub after_premise : ℕ → Declaration (Declarations × Draft) (ℕ × Declared) RuleFault → Run ((ℕ × Declared) × Draft)
after_premise at o = after_declaration OfRule at o.after.0 o.answer >>= λ M. pure (M, o.after.1)

-- a further premise of the draft
abbrev pub add_premise : ℕ → Draft → Name → Assertion → Run ((ℕ × Declared) × Draft)
add_premise at d n b = λ s. after_premise at (premise s.declarations d n b) s

-- premises in turn: the draft and the named values after them
abbrev pub declare_premises : List Premise → Draft → Environment → Run (Draft × Environment)
declare_premises [] d G = pure (d, G)
declare_premises (p ∷ ps) d G = do
  (H, xs) ← bind_all p.binders G []
  b ← boundary_by p.body_at p.body H
  c ← abstract_all xs b
  (M, e) ← add_premise p.at d p.name.name c
  j ← nucleus p.at (λ W. reference.generic W M)
  declare_premises ps e ((p.name.name, judgement j) ∷ G)

-- A rule is declared. Faults of its name stand at the name, those of the conclusion's boundary and of finishing at the conclusion.
abbrev pub declare_rule : Named → List Premise → ℕ → Body → Environment → Run Rule
declare_rule n ps at c G = do
  d ← declare OfRule n.at (λ W. begin W n.name)
  (e, H) ← declare_premises ps d G
  b ← boundary_by at c H
  R ← declare OfRule at (λ W. finish W e b)
  pure R.1

-- Equality rules.

-- the equality rules after a declaration; a fault of shape stands at the place
abbrev pub shaped : ℕ → Result EqualityRules ShapeFault → Run (Unit {0})
shaped at (Ok E) = λ s. (Ok tt, record s { equality_rules = E })
shaped at (Err e) = halt (fails (OfShape e) at)

-- a rule is declared as one of the equality checker
abbrev pub declare_equality : (EqualityRules → ℕ → Rule → Result EqualityRules ShapeFault) → Named → Run (Unit {0})
declare_equality add n = do
  r ← the_rule n.name
  (λ s. shaped n.at (add s.equality_rules r.0 r.1) s)

-- Commands.

-- What a command has to tell: a rule is accepted; judgements are shown, in their order; an option is shown that has none; or there
-- is nothing to tell.
pub data Done : Type 0 where
  Accepted : Name → Rule → Done
  Shown : List Assertion → Done
  ShownNone : Done
  Quiet : Done

-- what a value shows
abbrev pub shown : Value → Run Done
shown (judgement j) = pure (Shown (j ∷ []))
shown (some v) = as_judgement v >>= λ j. pure (Shown (j ∷ []))
shown none = pure ShownNone
shown nil = pure (Shown [])
shown (cons v w) = as_judgements (cons v w) >>= λ js. pure (Shown js)
shown v = halt stuck

-- what a command tells, and the named values after it
abbrev pub done : Command → Environment → Run (Done × Environment)
done (rule_command at n ps c_at c) G = declare_rule n ps c_at c G >>= λ R. pure (Accepted n.name R, G)
done (let_command at n e) G = meaning e G >>= λ v. pure (Quiet, (n.name, v) ∷ G)
done (operation_command at n A B) G = pure (Quiet, G)
done (computation_command at n) G = declare_equality add_computation n >> pure (Quiet, G)
done (extensionality_command at n) G = declare_equality add_extensionality n >> pure (Quiet, G)
done (show_command at e) G = meaning e G >>= shown >>= λ d. pure (d, G)

-- how a command ends: an operation that no case took is a fault
abbrev pub ended : {A : Type 0} → Outcome A → Result A Halt × State
ended (Ok a, s) = (Ok a, s)
ended (Err (performs op v at), s) = (Err (fails (Unhandled op) at), s)
ended (Err (halts h), s) = (Err h, s)

-- a command is run
abbrev pub run_command : Command → Environment → State → Result (Done × Environment) Halt × State
run_command c G s = ended (done c G s)
