-- What commands do, their lines, and the transcript of a source.
use Rattle.std.proofs.Common.{◌≡◌, ◌∙◌, sym, ap, refl, subst, ℕ, List, [], ◌∷◌, ◌++◌, append_assoc, Option, Some, None, option_map, option_and_then, arith, Ok, Err, Result, true, false, Bool}
use Rattle.std.specs.List.{list_all}
use Rattle.std.specs.Str.{chars}
use Rattle.std.proofs.lemmas.Option.{none-some, same_Some}
use Rattle.ft_common.proofs.Booleans.{true_false}
use Rattle.ft_grammar.specs.Tokens.{tokens_of}
use Rattle.ft_applications.specs.declared.fault.Fault.{Fault}
use Rattle.ft_applications_meaning.specs.declared.syntax.Command.{Command}
use Rattle.ft_applications_meaning.specs.Grammar.{kinds}
use Rattle.ft_applications.specs.Reading.{source}
use Rattle.ft_applications_meaning.specs.Building.{Declaration, names}
use Rattle.ft_applications_meaning.specs.Events.{Event, accepts, repeats, shows, done, events}
use Rattle.ft_applications_meaning.specs.Transcript.{IsPlainSource, IsTranscript, is_plain_character, accepted_line, shown_line, text_of, status_of, not_yet_line}
use Rattle.ft_applications.proofs.Plain.{source_is, no_source, one_source}

-- an event that was put before others
mapped : (e : Event) (o : Option (List Event)) (es : List Event) → option_map (λ t. e ∷ t) o ≡ Some es
    → (rest : List Event) × ((o ≡ Some rest) × (e ∷ rest ≡ es))
mapped e None es h = absurd (none-some es h)
mapped e (Some t) es h = (t, (refl, same_Some _ _ h))

-- what a command does, and then what those after it do
abbrev pub After : (List Declaration → Option (List Event)) → Option (List Declaration × Event) → List Event → Type 0
After f o es = (s : List Declaration × Event) × ((rest : List Event) × ((o ≡ Some s) × (f s.0 ≡ Some rest) × (s.1 ∷ rest ≡ es)))

pub first_then : (f : List Declaration → Option (List Event)) (o : Option (List Declaration × Event)) (es : List Event)
    → option_and_then (λ s. option_map (λ t. s.1 ∷ t) (f s.0)) o ≡ Some es → After f o es
first_then f None es h = absurd (none-some es h)
first_then f (Some s) es h = let m = mapped s.1 (f s.0) es h in (s, (m.0, (refl, m.1.0, m.1.1)))

-- what is done goes on where more commands come
pub events_begin : (ds : List Declaration) (cs more : List Command) (es all : List Event) → events ds cs ≡ Some es → events ds (cs ++ more) ≡ Some all → (rest : List Event) × (all ≡ es ++ rest)
events_begin ds [] more es all h k = (all, ap (λ t. t ++ all) (same_Some _ _ h))
events_begin ds (c ∷ cs) more es all h k =
    let one = first_then (λ ds. events ds cs) (done ds c) es h in
    let two = first_then (λ ds. events ds (cs ++ more)) (done ds c) all k in
    let same : two.0 ≡ one.0 = same_Some two.0 one.0 (sym two.1.1.0 ∙ one.1.1.0) in
    let further = events_begin one.0.0 cs more one.1.0 two.1.0 one.1.1.1 (subst (λ s. events s.0 (cs ++ more) ≡ Some two.1.0) same two.1.1.1) in
    (further.0, sym two.1.1.2 ∙ ap (λ (s : List Declaration × Event). s.1 ∷ two.1.0) same ∙ ap (λ t. one.0.1 ∷ t) further.1 ∙ ap (λ t. t ++ further.0) one.1.1.2)

-- the text of events before others, where none repeats a name
pub text_goes_on : (es rest : List Event) → status_of es ≡ 0 → text_of (es ++ rest) ≡ text_of es ++ text_of rest
text_goes_on [] rest h = refl
text_goes_on (accepts d ∷ es) rest h = ap (λ t. accepted_line d.name ++ t) (text_goes_on es rest h) ∙ sym (append_assoc (accepted_line d.name) (text_of es) (text_of rest))
text_goes_on (repeats n ∷ es) rest h = absurd (omega (arith, h))
text_goes_on (shows ds c ∷ es) rest h = ap (λ t. shown_line (names ds) c ++ t) (text_goes_on es rest h) ∙ sym (append_assoc (shown_line (names ds) c) (text_of es) (text_of rest))

pub lines_begin : (ds : List Declaration) (cs more : List Command) (es all : List Event) → events ds cs ≡ Some es → status_of es ≡ 0 → events ds (cs ++ more) ≡ Some all → (rest : List ℕ) × (text_of all ≡ text_of es ++ rest)
lines_begin ds cs more es all h z k =
    let further = events_begin ds cs more es all h k in
    (text_of further.0, ap text_of further.1 ∙ text_goes_on es further.0 z)

-- what is known of a source that is read
abbrev HasTranscript : List ℕ → Type 0
HasTranscript bs = (text : List ℕ) × ((status : ℕ) × IsTranscript bs text status)

of_events : (bs : List ℕ) (cs : List Command) (o : Option (List Event)) → IsPlainSource bs cs → events [] cs ≡ o → HasTranscript bs
of_events bs cs (Some es) s h = (text_of es, (status_of es, IsTranscript.of_commands cs es s h))
of_events bs cs None s h = (
  not_yet_line,
  (
    7,
    IsTranscript.of_another (λ ds es t k.
        none-some es (sym h ∙ ap (λ ds. events [] ds) (sym (one_source bs cs ds s t)) ∙ k)),
  ),
)

of_reading : (bs : List ℕ) (r : Result (List Command) Fault) → list_all is_plain_character bs ≡ true → source (kinds (tokens_of (chars bs))) ≡ r → HasTranscript bs
of_reading bs (Ok cs) plain h = of_events bs cs (events [] cs) (source_is bs bs cs refl plain h) refl
of_reading bs (Err e) plain h = (not_yet_line, (7, IsTranscript.of_another (λ cs es s _. no_source bs bs cs e refl h s)))

of_characters : (bs : List ℕ) (b : Bool) → list_all is_plain_character bs ≡ b → HasTranscript bs
of_characters bs true h = of_reading bs (source (kinds (tokens_of (chars bs)))) h refl
of_characters bs false h = (not_yet_line, (7, IsTranscript.of_another (λ cs es s _. true_false (sym s.characters ∙ h))))

pub has_transcript : (bs : List ℕ) → HasTranscript bs
has_transcript bs = of_characters bs (list_all is_plain_character bs) refl

pub one_transcript : (bs text text' : List ℕ) (status status' : ℕ) → IsTranscript bs text status → IsTranscript bs text' status' → (text ≡ text') × (status ≡ status')
one_transcript bs _ _ _ _ (IsTranscript.of_commands cs es s h) (IsTranscript.of_commands ds fs r k) =
    let same : es ≡ fs = same_Some es fs (sym h ∙ ap (λ cs. events [] cs) (one_source bs ds cs r s) ∙ k) in
    (ap text_of same, ap status_of same)
one_transcript bs _ _ _ _ (IsTranscript.of_commands cs es s h) (IsTranscript.of_another none) = absurd (none cs es s h)
one_transcript bs _ _ _ _ (IsTranscript.of_another none) (IsTranscript.of_commands cs es s h) = absurd (none cs es s h)
one_transcript bs _ _ _ _ (IsTranscript.of_another none) (IsTranscript.of_another other) = (refl, refl)
