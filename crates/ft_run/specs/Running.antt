-- What is done as commands are run, and how a run ends.
use Rattle.std.specs.Prelude.{ℕ, ◌≡◌, true, false, List, [], ◌∷◌, ◌++◌, Some}
use Rattle.ft_items.specs.Item.{Name}
use Rattle.ft_theory.specs.Rules.{Rule}
use Rattle.ft_applications_meaning.specs.declared.syntax.Command.{Command}
use Rattle.ft_applications_meaning.specs.declared.syntax.Premise.{Premise}
use Rattle.ft_applications_meaning.specs.declared.syntax.Conclusion.{Conclusion}
use Rattle.ft_applications_meaning.specs.declared.syntax.Application.{Application}
use Rattle.ft_theory.specs.Statements.{Claim}
use Rattle.ft_items.specs.Good.{is_new}
use Rattle.ft_applications_meaning.specs.Building.{Declaration, names, claim_of, declared}
use Rattle.ft_applications_meaning.specs.Events.{Event, repeats, shows, done, events}
use Rattle.ft_applications_meaning.specs.Transcript.{accepted_line, repeated_line, text_of, status_of, shown_in, AllDerivable}
use Rattle.ft_applications_meaning.specs.Histories.{told, told_in_run, declares}
use Rattle.ft_run.specs.declared.session.Ending.{Ending}
use Rattle.ft_run.specs.declared.session.Ending.TheVariants as ending
use Rattle.ft_run.specs.Session.{Progress, IsCounted}

-- the status of a run that ended so
abbrev pub ending_status : Ending → ℕ
ending_status ending.Done = 0
ending_status ending.Twice = 9

-- the rule that a command declares is the last of the later rules, and it is told
abbrev pub IsDeclared : Progress → Progress → Name → List Premise → Conclusion → Type 0
IsDeclared p q n ps c = (R : Rule) × (declared p.rules ps c ≡ Some R) × (q.rules ≡ p.rules ++ record { name = n; rule = R } ∷ []) × (told q.state.items ≡ told p.state.items ++ declares n R ∷ [])

-- What was done, none of it a repeated rule: its lines are appended, it is told, and what it shows is derivable.
pub record Does (p q : Progress) (out new : List ℕ) (es : List Event) : Type 0 where
  pub kept : status_of es ≡ 0
  pub text : new ≡ out ++ text_of es
  pub tells : told q.state.items ≡ told p.state.items ++ told_in_run es
  pub derivable : AllDerivable (shown_in es)
  pub counted : IsCounted q

-- an expression claims something, and it was shown
abbrev pub IsShown : Progress → Progress → List ℕ → List ℕ → Application → Type 0
IsShown p q out new a = (c : Claim) × (claim_of p.rules a ≡ Some c) × (q.rules ≡ p.rules) × Does p q out new (shows p.rules c ∷ [])

-- The name is that of an earlier rule, and nothing was done but its line.
pub record IsRepeated (p q : Progress) (out new : List ℕ) (n : Name) : Type 0 where
  pub taken : is_new (names p.rules) n ≡ false
  pub text : new ≡ out ++ repeated_line n
  pub same : q ≡ p

-- a rule was declared, or it ended the run
abbrev pub WasRule : Progress → Progress → List ℕ → List ℕ → Name → List Premise → Conclusion → Ending → Type 0
WasRule p q out new n ps c ending.Done = (is_new (names p.rules) n ≡ true) × IsDeclared p q n ps c × (new ≡ out ++ accepted_line n) × IsCounted q
WasRule p q out new n ps c ending.Twice = IsRepeated p q out new n

-- A command was run: it did something that is no repeated rule; or it declares a rule of the name of an earlier one, if it is
-- built, and nothing was done but its line.
abbrev pub WasRun : Progress → Progress → List ℕ → List ℕ → Command → Ending → Type 0
WasRun p q out new c ending.Done = (e : Event) × (done p.rules c ≡ Some (q.rules, e)) × Does p q out new (e ∷ [])
WasRun p q out new c ending.Twice = (n : Name) × ((s : List Declaration × Event) → done p.rules c ≡ Some s → s.1 ≡ repeats n) × IsRepeated p q out new n

-- Commands were run: where they are built, this is what they do, and it ended as said.
abbrev pub WereRun : Progress → Progress → List ℕ → List ℕ → List Command → Ending → Type 0
WereRun p q out new cs x = (es : List Event) → events p.rules cs ≡ Some es
    → (new ≡ out ++ text_of es) × (ending_status x ≡ status_of es) × (told q.state.items ≡ told p.state.items ++ told_in_run es) × AllDerivable (shown_in es)

-- all commands are built
abbrev pub AreBuilt : List Declaration → List Command → Type 0
AreBuilt ds cs = (es : List Event) × (events ds cs ≡ Some es)

-- so are they, where the run came to the end
abbrev pub AreBuiltWhere : Ending → List Declaration → List Command → Type 0
AreBuiltWhere ending.Done ds cs = AreBuilt ds cs
AreBuiltWhere ending.Twice ds cs = Unit {0}
