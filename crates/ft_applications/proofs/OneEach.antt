-- A source has one line for each of its commands.
use Rattle.std.proofs.Common.{◌≡◌, ◌∙◌, refl, ap, subst, ℕ, zero, suc, ◌+◌, arith, append-nil, Bool, true, false, cond, List, [], ◌∷◌, ◌++◌, length, Option, Some, None, option_map, codes}
use Rattle.std.specs.List.{list_all}
use Rattle.std.specs.Str.{chars}
use Rattle.std.proofs.lemmas.Str.{chars-IsAscii}
use Rattle.ft_theory.specs.Rules.{Rule}
use Rattle.ft_theory.specs.Statements.{Claim}
use Rattle.ft_grammar.specs.declared.token.Kind.{Kind}
use Rattle.ft_grammar.specs.declared.token.Kind.TheVariants as kind
use Rattle.ft_grammar.specs.declared.token.Token.{Token}
use Rattle.ft_grammar.specs.Tokens.{tokens_of}
use Rattle.ft_grammar.specs.Made.{IsMadeOf, IsSpelled}
use Rattle.ft_applications_meaning.specs.declared.syntax.Command.{Command}
use Rattle.ft_applications_meaning.specs.declared.syntax.Command.TheVariants as command
use Rattle.ft_applications_meaning.specs.Grammar.{kinds, IsCommand, AreCommands}
use Rattle.ft_items.specs.Good.{is_new}
use Rattle.ft_applications_meaning.specs.Building.{Declaration, names, claim_of, declared, with_rule}
use Rattle.ft_applications_meaning.specs.Events.{Event, accepts, repeats, shows, event_of_rule, done, events, run_of}
use Rattle.ft_applications_meaning.specs.Transcript.{IsPlainSource, is_plain_character, repeated_line, text_of, status_of}
use Rattle.ft_applications_meaning.specs.OneLine.{IsLine, AreLines}
use Rattle.ft_applications.proofs.Plain.{plain_is_ascii}
use Rattle.std.proofs.lemmas.Option.{none-some, same_Some}
use Rattle.ft_common.proofs.Booleans.{and_right}
use Rattle.ft_applications.proofs.Lines.{first_then}
use Rattle.ft_applications.proofs.Feeds.{in_name, joined_left, joined_right, name_clean, AreClean, accepted_is_line, repeated_is_line, shown_is_line}

-- ---- names among tokens

-- a name of this kind has the characters of a name
abbrev IsCleanKind : Kind → Type 0
IsCleanKind (kind.Name n) = list_all in_name n ≡ true
IsCleanKind _ = Unit {0}

abbrev AreCleanKinds : List Kind → Type 0
AreCleanKinds [] = Unit {0}
AreCleanKinds (k ∷ ks) = IsCleanKind k × AreCleanKinds ks

spelled_clean : (k : Kind) (spelling : List ℕ) → IsSpelled k spelling → list_all is_plain_character spelling ≡ true → IsCleanKind k
spelled_clean (kind.Name n) spelling is plain = name_clean n (subst (λ s. list_all is_plain_character s ≡ true) is.0 plain) is.1
spelled_clean (kind.Number n) spelling is plain = tt
spelled_clean (kind.Word w) spelling is plain = tt
spelled_clean (kind.Mark m) spelling is plain = tt
spelled_clean kind.Bad spelling is plain = tt
spelled_clean kind.End spelling is plain = tt

made_clean : (at : ℕ) (text : List ℕ) (tokens : List Token) → IsMadeOf at text tokens → list_all is_plain_character text ≡ true → AreCleanKinds (kinds tokens)
made_clean _ _ _ (IsMadeOf.at_end at) plain = (tt, tt)
made_clean _ _ _ (IsMadeOf.space at c rest tokens is made) plain = made_clean _ rest tokens made (and_right (is_plain_character c) _ plain)
made_clean _ _ _ (IsMadeOf.comment at line rest tokens all ends made) plain = made_clean _ rest tokens made (joined_right is_plain_character (codes "--" ++ line) rest plain)
made_clean _ _ _ (IsMadeOf.token at k c cs rest tokens is made) plain =
    (spelled_clean k (c ∷ cs) is (joined_left is_plain_character (c ∷ cs) rest plain), made_clean _ rest tokens made (joined_right is_plain_character (c ∷ cs) rest plain))

-- ---- names of rules

abbrev IsCleanCommand : Command → Type 0
IsCleanCommand (command.Rule n ps c) = list_all in_name n ≡ true
IsCleanCommand (command.Show a) = Unit {0}

abbrev AreCleanCommands : List Command → Type 0
AreCleanCommands [] = Unit {0}
AreCleanCommands (c ∷ cs) = IsCleanCommand c × AreCleanCommands cs

kinds_right : (js ks : List Kind) → AreCleanKinds (js ++ ks) → AreCleanKinds ks
kinds_right [] ks h = h
kinds_right (j ∷ js) ks h = kinds_right js ks h.1

command_clean : (c : Command) (js ks : List Kind) → IsCommand c js → AreCleanKinds (js ++ ks) → IsCleanCommand c
command_clean _ _ ks (IsCommand.a_rule n ps c) h = h.1.0
command_clean _ _ ks (IsCommand.a_show a) h = tt

commands_clean : (cs : List Command) (ks : List Kind) → AreCommands cs ks → AreCleanKinds ks → AreCleanCommands cs
commands_clean _ _ AreCommands.the_end h = tt
commands_clean _ _ (AreCommands.next_command {c} {cs} {js} {ks} one more) h = (command_clean c js ks one h, commands_clean cs ks more (kinds_right js ks h))

-- ---- lines

clean_more : (ds : List Declaration) (d : Declaration) → AreClean (names ds) → list_all in_name d.name ≡ true → AreClean (names (ds ++ d ∷ []))
clean_more [] d h k = (k, tt)
clean_more (e ∷ ds) d h k = (h.0, clean_more ds d h.1 k)

-- an event with the names that its line has
abbrev IsCleanEvent : Event → Type 0
IsCleanEvent (accepts d) = list_all in_name d.name ≡ true
IsCleanEvent (repeats n) = list_all in_name n ≡ true
IsCleanEvent (shows ds c) = AreClean (names ds)

-- the rules after a command, and what it does
abbrev IsStep : List Declaration × Event → Type 0
IsStep s = AreClean (names s.0) × IsCleanEvent s.1

rule_clean : (ds : List Declaration) (n : List ℕ) (R : Rule) → AreClean (names ds) → list_all in_name n ≡ true → IsStep (with_rule ds n R, event_of_rule ds n R)
rule_clean ds n R h k = go (is_new (names ds) n)
  where
    go : (b : Bool) → IsStep (cond b (ds ++ record { name = n; rule = R } ∷ []) ds, cond b (accepts (record { name = n; rule = R })) (repeats n))
    go true = (clean_more ds (record { name = n; rule = R }) h k, k)
    go false = (h, k)

declared_clean : (ds : List Declaration) (n : List ℕ) (o : Option Rule) (s : List Declaration × Event) → AreClean (names ds) → list_all in_name n ≡ true
    → option_map (λ R. (with_rule ds n R, event_of_rule ds n R)) o ≡ Some s → IsStep s
declared_clean ds n None s h k e = absurd (none-some s e)
declared_clean ds n (Some R) s h k e = subst IsStep (same_Some _ s e) (rule_clean ds n R h k)

shown_clean : (ds : List Declaration) (o : Option Claim) (s : List Declaration × Event) → AreClean (names ds)
    → option_map (λ c. (ds, shows ds c)) o ≡ Some s → IsStep s
shown_clean ds None s h e = absurd (none-some s e)
shown_clean ds (Some c) s h e = subst IsStep (same_Some _ s e) (h, h)

done_clean : (ds : List Declaration) (c : Command) (s : List Declaration × Event) → AreClean (names ds) → IsCleanCommand c → done ds c ≡ Some s → IsStep s
done_clean ds (command.Rule n ps c) s h k e = declared_clean ds n (declared ds ps c) s h k e
done_clean ds (command.Show a) s h k e = shown_clean ds (claim_of ds a) s h e

-- the events, one for each command
abbrev AreCleanEvents : List Event → Type 0
AreCleanEvents [] = Unit {0}
AreCleanEvents (e ∷ es) = IsCleanEvent e × AreCleanEvents es

events_clean : (ds : List Declaration) (cs : List Command) (es : List Event) → AreClean (names ds) → AreCleanCommands cs → events ds cs ≡ Some es → AreCleanEvents es × (length es ≡ length cs)
events_clean ds [] es h k e = subst (λ es. AreCleanEvents es × (length es ≡ zero)) (same_Some [] es e) (tt, refl)
events_clean ds (c ∷ cs) es h k e =
    let one = first_then (λ ds. events ds cs) (done ds c) es e in
    let step = done_clean ds c one.0 h k.0 one.1.1.0 in
    let more = events_clean one.0.0 cs one.1.0 step.0 k.1 one.1.1.1 in
    subst (λ es. AreCleanEvents es × (length es ≡ suc (length cs))) one.1.1.2 ((step.1, more.0), ap suc more.1)

lines_of_all : (es : List Event) → AreCleanEvents es → status_of es ≡ 0 → AreLines (length es) (text_of es)
lines_of_all [] h z = AreLines.no_line
lines_of_all (accepts d ∷ es) h z = AreLines.next_line (accepted_is_line d.name h.0) (lines_of_all es h.1 z)
lines_of_all (repeats n ∷ es) h z = absurd (omega (arith, z))
lines_of_all (shows ds c ∷ es) h z = AreLines.next_line (shown_is_line (names ds) c h.0) (lines_of_all es h.1 z)

one_line : (line : List ℕ) → IsLine line → AreLines 1 line
one_line line h = subst (AreLines 1) (append-nil line) (AreLines.next_line h AreLines.no_line)

lines_of_run : (es : List Event) → AreCleanEvents es → status_of es ≡ 9 → AreLines (suc (length (run_of es))) (text_of es)
lines_of_run [] h z = absurd (omega (arith, z))
lines_of_run (accepts d ∷ es) h z = AreLines.next_line (accepted_is_line d.name h.0) (lines_of_run es h.1 z)
lines_of_run (repeats n ∷ es) h z = one_line (repeated_line n) (repeated_is_line n h.0)
lines_of_run (shows ds c ∷ es) h z = AreLines.next_line (shown_is_line (names ds) c h.0) (lines_of_run es h.1 z)

clean_of : ((text : List ℕ) → IsMadeOf 0 text (tokens_of text)) → (bs : List ℕ) (cs : List Command) (es : List Event) → IsPlainSource bs cs → events [] cs ≡ Some es → AreCleanEvents es × (length es ≡ length cs)
clean_of made bs cs es s e =
    let plain : list_all is_plain_character (chars bs) ≡ true = ap (list_all is_plain_character) (chars-IsAscii bs (plain_is_ascii bs s.characters)) ∙ s.characters in
    events_clean [] cs es tt (commands_clean cs (kinds (tokens_of (chars bs))) s.grammar (made_clean 0 (chars bs) (tokens_of (chars bs)) (made (chars bs)) plain)) e

pub one_line_each : ((text : List ℕ) → IsMadeOf 0 text (tokens_of text)) → (bs : List ℕ) (cs : List Command) (es : List Event) → IsPlainSource bs cs → events [] cs ≡ Some es → status_of es ≡ 0 → AreLines (length cs) (text_of es)
one_line_each made bs cs es s e z =
    let clean = clean_of made bs cs es s e in
    subst (λ n. AreLines n (text_of es)) clean.1 (lines_of_all es clean.0 z)

pub one_line_each_run : ((text : List ℕ) → IsMadeOf 0 text (tokens_of text)) → (bs : List ℕ) (cs : List Command) (es : List Event) → IsPlainSource bs cs → events [] cs ≡ Some es → status_of es ≡ 9
    → AreLines (length (run_of es) + 1) (text_of es)
one_line_each_run made bs cs es s e z =
    let one : suc (length (run_of es)) ≡ length (run_of es) + 1 = omega arith in
    subst (λ n. AreLines n (text_of es)) one (lines_of_run es (clean_of made bs cs es s e).0 z)
