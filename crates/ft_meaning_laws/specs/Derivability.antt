-- What is shown is derivable, in a context that is well formed; what is done has a derivation; and the rules that are accepted are
-- a finitary theory.
use Rattle.std.specs.Prelude.{ℕ, ◌≡◌, false, None, List, [], ◌∷◌, ◌++◌}
use Rattle.ft_theory.specs.Rules.{Rule}
use Rattle.ft_theory.specs.Derivability.{FinitaryUpTo}
use Rattle.ft_items.specs.Item.{Item}
use Rattle.ft_meaning.specs.Texts.{Text}
use Rattle.ft_meaning.specs.Stages.{Stage, equality, no_equality, first_unbuilt}
use Rattle.ft_meaning.specs.Sources.{Content, commands}
use Rattle.ft_meaning.specs.Events.{Event, accepts, shows, shown_in, AllDerivable, IsDerivationOf}
use Rattle.ft_meaning.specs.Transcript.{Transcript, IsTranscriptAt}

-- P holds of the events of each transcript, at each stage
abbrev pub OfEachTranscript : (List Event → Type 0) → Type 0
OfEachTranscript P = (B : Stage) (source : Text) (budget : ℕ) (t : Transcript) → IsTranscriptAt B source budget t → P t.events

-- Each judgement that a transcript shows is derivable by primitive steps, in the context of its set, which is well formed, over the
-- rules accepted before its line.
abbrev pub ShownDerivable : Type 0
ShownDerivable = OfEachTranscript (λ es. AllDerivable (shown_in es))

-- each judgement is shown over these rules and those accepted before it
abbrev pub AreOver : List Rule → List Event → Type 0
AreOver T [] = Unit {0}
AreOver T (accepts n R ∷ es) = AreOver (T ++ R ∷ []) es
AreOver T (shows W j ∷ es) = (W.rules ≡ T) × AreOver T es

-- Each judgement is shown over the rules accepted before it.
abbrev pub ShownOverAccepted : Type 0
ShownOverAccepted = OfEachTranscript (AreOver [])

-- the rules accepted, in their order
abbrev pub accepted_in : List Event → List Rule
accepted_in [] = []
accepted_in (accepts n R ∷ es) = R ∷ accepted_in es
accepted_in (shows W j ∷ es) = accepted_in es

-- The rules that a transcript accepts are, in their order, a finitary theory, whichever kinds of wide step are allowed.
abbrev pub AcceptedIsFinitary : Type 0
AcceptedIsFinitary = OfEachTranscript (λ es. (k : ℕ) → FinitaryUpTo k (accepted_in es))

-- There is a derivation of the events: a good list whose rules and shown marks are, in order, the rules accepted and the judgements
-- shown, each with its sequent.
abbrev pub HasDerivation : List Event → Type 0
HasDerivation es = (items : List Item) × IsDerivationOf items es

-- Where the equality checker is not built, what a transcript does has a derivation.
abbrev pub StageHasDerivation : Type 0
StageHasDerivation = (B : Stage) (source : Text) (budget : ℕ) (t : Transcript) → B equality ≡ false → IsTranscriptAt B source budget t → HasDerivation t.events

-- no part of the content is one of the equality checker
abbrev pub IsWithoutEquality : Content → Type 0
IsWithoutEquality (commands cs) = first_unbuilt no_equality cs ≡ None
IsWithoutEquality c = Unit {0}

-- Where a source has no part of the equality checker, what its transcript does has a derivation, at each stage.
abbrev pub SourceHasDerivation : Type 0
SourceHasDerivation = (B : Stage) (source : Text) (budget : ℕ) (t : Transcript) (h : IsTranscriptAt B source budget t) → IsWithoutEquality h.0 → HasDerivation t.events
