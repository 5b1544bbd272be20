-- Whole transcripts: there is a list that tells what a transcript does, and all that it shows is derivable in its context.
use Rattle.std.proofs.Common.{◌≡◌, ℕ, false, Option, Some, None, Result, Ok, Err, List, [], ◌∷◌, ◌++◌, refl, sym, ap, ◌∙◌, subst, append_assoc, append-nil}
use Rattle.std.specs.Prelude.{map}
use Rattle.std.proofs.lemmas.List.{map-append}
use Rattle.ft_theory.specs.Derivability.{FinitaryUpTo}
use Rattle.ft_items.specs.Item.{Item}
use Rattle.ft_items.specs.Store.{empty_store}
use Rattle.ft_meaning.specs.Trees.{Command}
use Rattle.ft_meaning.specs.Stages.{Stage, equality, no_equality, source_parts, first_not_built}
use Rattle.ft_meaning.specs.Values.{Environment, State, Halt, fails, spent, stuck}
use Rattle.ft_meaning.specs.Commands.{Done, run_command}
use Rattle.ft_meaning.specs.Typing.{TypeFault, Scope, first_scope}
use Rattle.ft_meaning.specs.CommandTyping.{scope_after}
use Rattle.ft_meaning.specs.Texts.{Text}
use Rattle.ft_meaning.specs.Events.{Event, accepts, shows, events_of, shown_in, EachShown, IsDerivable, told_by_event, told_from}
use Rattle.ft_meaning.specs.Sources.{Content, too_long, no_text, unexpected, too_nested, commands}
use Rattle.ft_meaning.specs.Transcript.{Transcript, after_command, after_typing, transcript_from, start, unless_unbuilt, transcript_of, IsTranscriptAt}
use Rattle.ft_meaning_laws.specs.Derivability.{ShownDerivable, ShownOverAccepted, AcceptedIsFinitary, HasDerivation, StageHasDerivation, IsWithoutEquality, SourceHasDerivation}
use Rattle.ft_meaning_laws.proofs.Lists.{IsSound, sound_empty}
use Rattle.ft_meaning_laws.proofs.Told.{rules_told, rules_are_told, accepted_are_told, AreStatedOver, told_over, events_over}
use Rattle.ft_meaning_laws.proofs.Made.{AreMade, Holds}
use Rattle.ft_meaning_laws.proofs.Built.{AllBuilt, left_built, right_built}
use Rattle.ft_meaning_laws.proofs.Runs.{CommandRan, command_ran}

shown_append : (xs ys : List Event) → EachShown IsDerivable (shown_in xs) → EachShown IsDerivable (shown_in ys) → EachShown IsDerivable (shown_in (xs ++ ys))
shown_append [] ys h k = k
shown_append (accepts n R ∷ xs) ys h k = shown_append xs ys h k
shown_append (shows W j ∷ xs) ys h k = (h.0, shown_append xs ys h.1 k)

module _ (B : Stage) where
  -- a longer list tells the events, after what the list told before
  record Tells (items : List Item) (es : List Event) : Type 0 where
    later : List Item
    list : IsSound B later
    tells : told_from empty_store later ≡ told_from empty_store items ++ map told_by_event es
    derivable : EachShown IsDerivable (shown_in es)

  no_event : (items : List Item) → IsSound B items → Tells items []
  no_event items l = record { later = items; list = l; tells = sym (append-nil (told_from empty_store items)); derivable = tt }

  module _ (source : Text) where
    then_tells : (items : List Item) (c : Command) (o : Result (Done × Environment) Halt × State) (next : Environment → State → Transcript) → CommandRan B Halt items o
        → ((later : List Item) (G : Environment) (s : State) → AreMade later G → Holds B later s → Tells later (next G s).events) → Tells items (after_command source c o next).events
    then_tells items c (Ok d, s) next r f =
        let t : Tells r.longer.later (next d.1 s).events = f r.longer.later d.1 s r.names r.longer.holds in
        record {
          later = t.later;
          list = t.list;
          tells = t.tells
              ∙ ap (λ z. z ++ map told_by_event (next d.1 s).events) r.longer.tells
              ∙ append_assoc (told_from empty_store items) (map told_by_event (events_of s.declarations d.0)) (map told_by_event (next d.1 s).events)
              ∙ ap (λ z. told_from empty_store items ++ z) (sym (map-append told_by_event (events_of s.declarations d.0) (next d.1 s).events));
          derivable = shown_append (events_of s.declarations d.0) (next d.1 s).events r.derivable t.derivable;
        }
    then_tells items c (Err (fails why at), s) next r f = record { later = r.longer.later; list = r.longer.holds.list; tells = r.longer.tells; derivable = tt }
    then_tells items c (Err (spent at), s) next r f = record { later = r.longer.later; list = r.longer.holds.list; tells = r.longer.tells; derivable = tt }
    then_tells items c (Err stuck, s) next r f = record { later = r.longer.later; list = r.longer.holds.list; tells = r.longer.tells; derivable = tt }

    typed_tells : (items : List Item) → IsSound B items → (r : Result Scope TypeFault) (units : ℕ) (next : Scope → Transcript) → ((scope : Scope) → Tells items (next scope).events) → Tells items (after_typing source r units next).events
    typed_tells items l (Ok scope) units next f = f scope
    typed_tells items l (Err e) units next f = no_event items l

    commands_tell : (cs : List Command) → AllBuilt B (source_parts cs) → (items : List Item) (scope : Scope) (G : Environment) (s : State) → AreMade items G → Holds B items s → Tells items (transcript_from source cs scope G s).events
    commands_tell [] u items scope G s g h = no_event items h.list
    commands_tell (c ∷ cs) u items scope G s g h =
        typed_tells items h.list (scope_after c scope) s.units.used (λ further. after_command source c (run_command c G s) (transcript_from source cs further)) (λ further.
        then_tells items c (run_command c G s) (transcript_from source cs further) (command_ran B c (left_built B _ _ u) items G g s h) (λ later H t m k.
        commands_tell cs (right_built B _ _ u) later further H t m k))

    unbuilt_tells : (budget : ℕ) (cs : List Command) (o : Option ℕ) → first_not_built B (source_parts cs) ≡ o → Tells [] (unless_unbuilt source budget cs o).events
    unbuilt_tells budget cs None e = commands_tell cs (record { none = e }) [] first_scope [] (start budget) tt (record { list = sound_empty B; equality = (tt, tt); declarations = refl; next = refl })
    unbuilt_tells budget cs (Some at) e = no_event [] (sound_empty B)

    content_tells : (budget : ℕ) (content : Content) → Tells [] (transcript_of B source budget content).events
    content_tells budget too_long = no_event [] (sound_empty B)
    content_tells budget (no_text n) = no_event [] (sound_empty B)
    content_tells budget (unexpected at) = no_event [] (sound_empty B)
    content_tells budget (too_nested at) = no_event [] (sound_empty B)
    content_tells budget (commands cs) = unbuilt_tells budget cs (first_not_built B (source_parts cs)) refl

    transcript_tells : (budget : ℕ) (t : Transcript) → IsTranscriptAt B source budget t → Tells [] t.events
    transcript_tells budget t h = subst (λ (z : Transcript). Tells [] z.events) (sym h.2) (content_tells budget h.0)

-- The laws.
pub shown_derivable : ShownDerivable
shown_derivable B source budget t h = (transcript_tells B source budget t h).derivable

pub shown_over_accepted : ShownOverAccepted
shown_over_accepted B source budget t h = let r : Tells B [] t.events = transcript_tells B source budget t h in events_over [] t.events (subst (AreStatedOver []) r.tells (told_over empty_store r.later))

pub accepted_is_finitary : AcceptedIsFinitary
accepted_is_finitary B source budget t h k =
    let r : Tells B [] t.events = transcript_tells B source budget t h in
    subst (FinitaryUpTo k) (rules_are_told empty_store r.later ∙ ap rules_told r.tells ∙ accepted_are_told t.events) (r.list.well.declarations.finitary k)

-- derivations
derivation : (B : Stage) (es : List Event) → B equality ≡ false → Tells B [] es → HasDerivation es
derivation B es without r = (r.later, record { good = r.list.good without; tells = r.tells })

pub stage_has_derivation : StageHasDerivation
stage_has_derivation B source budget t without h = derivation B t.events without (transcript_tells B source budget t h)

content_has_derivation : (B : Stage) (source : Text) (budget : ℕ) (content : Content) → IsWithoutEquality content → HasDerivation (transcript_of B source budget content).events
content_has_derivation B source budget too_long w = ([], record { good = tt; tells = refl })
content_has_derivation B source budget (no_text n) w = ([], record { good = tt; tells = refl })
content_has_derivation B source budget (unexpected at) w = ([], record { good = tt; tells = refl })
content_has_derivation B source budget (too_nested at) w = ([], record { good = tt; tells = refl })
content_has_derivation B source budget (commands cs) w = go (first_not_built B (source_parts cs))
  where
    go : (o : Option ℕ) → HasDerivation (unless_unbuilt source budget cs o).events
    go None = derivation no_equality (unless_unbuilt source budget cs None).events refl (unbuilt_tells no_equality source budget cs None w)
    go (Some at) = ([], record { good = tt; tells = refl })

pub source_has_derivation : SourceHasDerivation
source_has_derivation B source budget t h w = subst (λ (z : Transcript). HasDerivation z.events) (sym h.2) (content_has_derivation B source budget h.0 w)
