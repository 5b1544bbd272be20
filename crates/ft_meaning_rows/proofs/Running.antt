-- A row from what computes: the bytes are a text, the parser's trees are those of some commands, and these write the text.
use Rattle.std.proofs.Common.{◌≡◌, refl, ap, sym, ℕ, zero, Bool, true, false, Result, List, [], ◌∷◌, length, Ok, Err}
use Rattle.std.proofs.Math.Dec.{leb, ltb}
use Rattle.std.proofs.lemmas.Bool.{leb-true}
use Rattle.std.proofs.lemmas.Str.{IsUtf8-from_is_utf8}
use Rattle.std.specs.Fmt as fmt
use Rattle.std.specs.Str.{chars, is_utf8}
use lib.Utf8 as utf8
use Rattle.unicode_ident.proofs.Computing.{unicode_ident}
use Rattle.ft_theory.specs.Expressions.{act, close_at, open_at, put, rename, body_or, pushes, push, lift, lifts, under_binder, under_binders, count}
use Rattle.ft_grammar.specs.declared.token.Mark.TheVariants.{Bar}
use Rattle.ft_grammar.specs.declared.token.Token.{Token}
use Rattle.ft_grammar.specs.Grammar.{list_type, option_type, parenthesized_type, atomic_type, any_type, parenthesized_pattern, atomic_pattern, some_pattern, symbol_pattern, list_pattern, any_pattern, parenthesized, none_of, nil_of, base, brace, braces, atom, call, one_part, two_parts, argument, congruence, perform, application, list_expression, let_in, if_then_else, case, match_with, operation_body, operation_case, value_body, handle_cases, handle_with, abstraction, any_expression, binder, type_body, term_body, equation_type, equation_body, any_body, premise, type_conclusion, term_conclusion, any_conclusion, rule_command, let_command, operation_command, computation_command, extensionality_command, show_command, any_command, commands}
use Rattle.ft_grammar.specs.Rules.{is_name, is_mark, is_word, exactly}
use Rattle.ft_grammar.specs.Forms.{plain_type, word_pattern, word_expression, one_form, one_tree, two_form, two_tree, begins_one, begins_two, begins_atom, begins_pattern_atom, is_no_end}
use Rattle.ft_grammar.specs.Reading.{parse, level, more_from, read_mark, read_word, read_number, read_name}
use Rattle.ft_grammar.specs.declared.fault.SyntaxFault.{SyntaxFault}
use Rattle.ft_grammar.specs.declared.fault.SyntaxFault.TheVariants.{Unexpected, TooNested}
use Rattle.ft_grammar.specs.declared.syntax.Command.{Command as Tree}
use Rattle.ft_grammar_laws.proofs.Readings.{read_is_source, tokens_closed}
use Rattle.ft_meaning.specs.Trees.{Command}
use Rattle.ft_meaning.specs.Texts.{Text}
use Rattle.ft_meaning.specs.Stages.{Stage, all_built}
use Rattle.ft_meaning.specs.Sources.{greatest_length, source_tokens}
use Rattle.ft_meaning.specs.Sources as source
use Rattle.ft_meaning.specs.Transcript.{Transcript, transcript_of}
use Rattle.ft_meaning_rows.specs.Written.{lines, Row, HoldsAt, Holds, HoldsWith}
use Rattle.ft_meaning_rows.proofs.Reader.{commands_in}
use Rattle.ft_meaning_rows.proofs.Trees.{command_trees, commands_of_trees}

-- what unfolds so that a source is read
unfoldable pub reading : Unit {0}
unfolding chars is_utf8 unicode_ident utf8.encode parse level more_from read_mark read_word read_number read_name list_type option_type parenthesized_type atomic_type any_type parenthesized_pattern atomic_pattern some_pattern symbol_pattern list_pattern any_pattern parenthesized none_of nil_of base brace braces atom call one_part two_parts argument congruence perform application list_expression let_in if_then_else case match_with operation_body operation_case value_body handle_cases handle_with abstraction any_expression binder type_body term_body equation_type equation_body any_body premise type_conclusion term_conclusion any_conclusion rule_command let_command operation_command computation_command extensionality_command show_command any_command commands is_name is_mark is_word exactly plain_type word_pattern word_expression one_form one_tree two_form two_tree begins_one begins_two begins_atom begins_pattern_atom is_no_end
reading = tt

-- and so that it is run
unfoldable pub running : Unit {0}
unfolding reading fmt.digits act close_at open_at put rename body_or pushes push lift lifts under_binder under_binders count
running = tt

-- where the last bar begins that stands before the place
abbrev bar_before : List Token → ℕ → ℕ → ℕ
bar_before [] found at = found
bar_before (t ∷ ts) found at = elim (is_mark Bar t.kind) as (λ _. ℕ) [
  | true ↦ elim (ltb t.start at) as (λ _. ℕ) [ true ↦ bar_before ts t.start at | false ↦ found ]
  | false ↦ bar_before ts found at
]

-- what computes from the row: that its bytes are a text and not too many, the trees of the grammar, and the transcript of the
-- commands that the reader finds
abbrev pub Computes : Stage → Row → Type 0
Computes B r =
    let s : Text = lines r.source in
    let ts : List Token = source_tokens s in
    let cs : List Command = commands_in ts in
    let t : Transcript = transcript_of B s r.budget (source.commands cs) in
    ◌≡◌ {A = Bool × Bool × Result (List Tree) SyntaxFault × Text × ℕ}
    (leb (length s) greatest_length, is_utf8 s, parse ts, t.text, t.status)
    (true, true, Ok (command_trees (bar_before ts zero) cs), lines r.written, r.status)

pub has_commands : (s : Text) → leb (length s) greatest_length ≡ true → is_utf8 s ≡ true
    → parse (source_tokens s) ≡ Ok (command_trees (bar_before (source_tokens s) zero) (commands_in (source_tokens s)))
    → source.HasContent s (source.commands (commands_in (source_tokens s)))
has_commands s short text read =
    let ts : List Token = source_tokens s in
    let trees : List Tree = command_trees (bar_before ts zero) (commands_in ts) in (
      (leb-true (length s) greatest_length short, IsUtf8-from_is_utf8 s text),
      (trees, read_is_source trees ts (tokens_closed (chars s)) read, sym (commands_of_trees (bar_before ts zero) (commands_in ts))),
    )

pub holds_at : (B : Stage) (r : Row) → Computes B r → HoldsAt B r
holds_at B r c =
    let s : Text = lines r.source in
    let content : source.Content = source.commands (commands_in (source_tokens s)) in (
      transcript_of B s r.budget content,
      (content, has_commands s (ap (λ x. x.0) c) (ap (λ x. x.1) c) (ap (λ x. x.2) c), refl),
      ap (λ x. x.3) c,
      ap (λ x. x.4) c,
    )

pub holds : (r : Row) → Computes all_built r → Holds r
holds r c = holds_at all_built r c

-- the same with the units
pub holds_with : (r : Row) (units : ℕ) → Computes all_built r
    → (transcript_of all_built (lines r.source) r.budget (source.commands (commands_in (source_tokens (lines r.source))))).units ≡ units
    → HoldsWith r units
unfolding holds holds_at
holds_with r units c u = let h : Holds r = holds r c in (h.0, h.1, h.2, h.3, u)

-- what computes from a row whose tokens are not in the grammar: the fault, and the transcript of a source with that fault
abbrev pub ComputesFault : Row → SyntaxFault → source.Content → Type 0
ComputesFault r fault content =
    let s : Text = lines r.source in
    let t : Transcript = transcript_of all_built s r.budget content in
    ◌≡◌ {A = Bool × Bool × Result (List Tree) SyntaxFault × Text × ℕ}
    (leb (length s) greatest_length, is_utf8 s, parse (source_tokens s), t.text, t.status)
    (true, true, Err fault, lines r.written, r.status)

pub holds_unexpected : (r : Row) (at : ℕ) → ComputesFault r (Unexpected at) (source.unexpected at) → Holds r
holds_unexpected r at c =
    let s : Text = lines r.source in (
      transcript_of all_built s r.budget (source.unexpected at),
      (source.unexpected at, ((leb-true (length s) greatest_length (ap (λ x. x.0) c), IsUtf8-from_is_utf8 s (ap (λ x. x.1) c)), ap (λ x. x.2) c), refl),
      ap (λ x. x.3) c,
      ap (λ x. x.4) c,
    )

pub holds_too_nested : (r : Row) (at : ℕ) → ComputesFault r (TooNested at) (source.too_nested at) → Holds r
holds_too_nested r at c =
    let s : Text = lines r.source in (
      transcript_of all_built s r.budget (source.too_nested at),
      (source.too_nested at, ((leb-true (length s) greatest_length (ap (λ x. x.0) c), IsUtf8-from_is_utf8 s (ap (λ x. x.1) c)), ap (λ x. x.2) c), refl),
      ap (λ x. x.3) c,
      ap (λ x. x.4) c,
    )
