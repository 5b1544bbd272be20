-- How a source is read: what crates above cite.
use Rattle.std.proofs.Common.{◌≡◌, ◌∙◌, sym, ap, refl, subst, ℕ, zero, suc, ◌+◌, ◌-◌, true, nat_lt, ◌==◌, ◌&&◌, ◌||◌, List, [], ◌∷◌, ◌++◌, take, Ok, Err, Option, Some, None, inl, inr}
use Rattle.std.specs.Char.{len_utf8, is_ascii_digit}
use Rattle.unicode_ident.specs.Ident.{is_xid_continue}
use Rattle.ft_common.proofs.Choices.{if_both}
use Rattle.ft_base.specs.Names.{starts_name, is_name_token}
use Rattle.ft_base.specs.Words.{word_of}
use Rattle.ft_base.specs.declared.word.Word.{Word}
use Rattle.ft_grammar.specs.declared.token.Kind.{Kind}
use Rattle.ft_grammar.specs.declared.token.Kind.TheVariants.{Number, Bad}
use Rattle.ft_grammar.specs.declared.token.Token.{Token}
use Rattle.ft_grammar.specs.declared.fault.SyntaxFault.TheVariants.{Memory}
use Rattle.ft_grammar.specs.declared.syntax.Command.{Command}
use Rattle.ft_grammar.specs.Fronts.{run, has_leading_zero, decimal_value, is_space, begins_comment, word_or_mark, name_kind, number_kind, mark_kind, mark_front, front}
use Rattle.ft_grammar.specs.Tokens.{token_at, tokens_from, tokens_of}
use Rattle.ft_grammar.specs.Forms.{is_no_end}
use Rattle.ft_grammar.specs.Grammar.{IsSource, commands, nesting}
use Rattle.ft_grammar.specs.Reading.{read, level, answer, parse}
use Rattle.ft_grammar.specs.Sources.{IsClosed}
use Rattle.ft_grammar_laws.specs.Laws.{ReadExactlyAsSource}
use Rattle.ft_grammar_laws.proofs.Cases.{ok_value}
use Rattle.ft_grammar_laws.proofs.SourceLaws.{source_is_read_at, answered, read_is_in_grammar}
use Rattle.ft_grammar_laws.proofs.FaultNames.{Names, NamesNext, names_next, level_names}
use Rattle.ft_grammar_laws.proofs.Refusals.{refused}

-- a source is read, as the same commands
pub source_is_read : (c : List Command) (ts : List Token) → IsSource nesting c ts → parse ts ≡ Ok c
unfolding parse
source_is_read c ts h = ap answer (source_is_read_at nesting c ts h).1

-- what is read is a source of the same commands
pub read_is_source : (c : List Command) (ts : List Token) → IsClosed ts → parse ts ≡ Ok c → IsSource nesting c ts
unfolding parse
read_is_source c ts closed h =
    let o = answered (read (level nesting) commands ts) c h in
    read_is_in_grammar nesting c ts o.0 closed o.1

pub read_exactly_as_source : ReadExactlyAsSource
read_exactly_as_source c ts closed = (read_is_source c ts closed, source_is_read c ts)

-- two lists of commands of the same tokens are the same
pub one_source : (depth : ℕ) (c d : List Command) (ts : List Token) → IsSource depth c ts → IsSource depth d ts → c ≡ d
one_source depth c d ts h g = ok_value (sym (source_is_read_at depth c ts h).1 ∙ (source_is_read_at depth d ts g).1)

-- ---- reading never answers that memory was refused
memory_names_none : (left : List Token) → Names Memory left → ⊥
memory_names_none left (inl h) = cc
memory_names_none left (inr h) = cc

pub never_memory : (ts : List Token) → parse ts ≡ Err Memory → ⊥
unfolding parse
never_memory ts h =
    let o = refused (read (level nesting) commands ts) Memory h in
    memory_names_none o.0 (subst (λ r. NamesNext r) o.1 (names_next (level nesting) (level_names nesting) commands ts))

-- ---- the tokens of any text are closed
-- no end stands at the front of a text
abbrev pub NoEndFront : Option Kind → Type 0
NoEndFront None = Unit {0}
NoEndFront (Some kind) = is_no_end kind ≡ true

word_or_mark_front : (found : Option Word) → NoEndFront (Some (word_or_mark found))
unfolding is_no_end
word_or_mark_front (Some w) = refl
word_or_mark_front None = refl

name_front : (spelling : List ℕ) → NoEndFront (Some (name_kind spelling))
unfolding is_no_end
name_front spelling = if_both (λ k. NoEndFront (Some k)) (is_name_token spelling) _ _ (λ _. refl) (λ _. word_or_mark_front (word_of spelling))

number_front : (digits : List ℕ) → NoEndFront (Some (number_kind digits))
unfolding is_no_end
number_front digits =
    if_both (λ k. NoEndFront (Some k)) (has_leading_zero digits || nat_lt 65535 (decimal_value 0 digits)) Bad (Number (decimal_value 0 digits)) (λ _. refl) (λ _. refl)

mark_kind_front : (c : ℕ) → NoEndFront (Some (mark_kind c))
unfolding is_no_end
mark_kind_front c =
    let P : Kind → Type 0 = λ k. NoEndFront (Some k) in
    if_both P (c == 40) _ _ (λ _. refl)
    (λ _. if_both P (c == 41) _ _ (λ _. refl)
    (λ _. if_both P (c == 123) _ _ (λ _. refl)
    (λ _. if_both P (c == 125) _ _ (λ _. refl)
    (λ _. if_both P (c == 44) _ _ (λ _. refl)
    (λ _. if_both P (c == 58) _ _ (λ _. refl)
    (λ _. if_both P (c == 61) _ _ (λ _. refl)
    (λ _. if_both P (c == 124) _ _ (λ _. refl)
    (λ _. if_both P (c == 42) _ _ (λ _. refl)
    (λ _. if_both P (c == 64) _ _ (λ _. refl) (λ _. refl))))))))))

mark_is_no_end : (c : ℕ) (cs : List ℕ) → NoEndFront (Some (mark_front c cs).0)
unfolding is_no_end
mark_is_no_end c [] = mark_kind_front c
mark_is_no_end c (d ∷ cs) =
    let P : Kind × ℕ → Type 0 = λ m. NoEndFront (Some m.0) in
    if_both P (c == 58 && d == 58) _ _ (λ _. refl)
    (λ _. if_both P (c == 61 && d == 61) _ _ (λ _. refl)
    (λ _. if_both P (c == 45 && d == 62) _ _ (λ _. refl) (λ _. mark_kind_front c)))

front_is_no_end : (c : ℕ) (cs : List ℕ) → NoEndFront (front c cs).0
front_is_no_end c cs =
    let P : Option Kind × ℕ → Type 0 = λ f. NoEndFront f.0 in
    if_both P (is_space c) _ _ (λ _. tt)
    (λ _. if_both P (begins_comment c cs) _ _ (λ _. tt)
    (λ _. if_both P (starts_name c) _ _ (λ _. name_front (c ∷ take (run is_xid_continue cs) cs))
    (λ _. if_both P (is_ascii_digit c) _ _ (λ _. number_front (c ∷ take (run is_ascii_digit cs) cs))
    (λ _. mark_is_no_end c cs))))

closed_after : (at : ℕ) (kind : Option Kind) (end : ℕ) (ts : List Token) → NoEndFront kind → IsClosed ts → IsClosed (token_at at kind end ++ ts)
closed_after at None end ts none closed = closed
closed_after at (Some kind) end [] none closed = absurd closed
closed_after at (Some kind) end (t ∷ ts) none closed = (none, closed)

closed_from : (at told : ℕ) (cs : List ℕ) → IsClosed (tokens_from at told cs)
closed_from at told [] = refl
closed_from at (suc told) (c ∷ cs) = closed_from (at + len_utf8 c) told cs
closed_from at zero (c ∷ cs) =
    closed_after at (front c cs).0 _ _ (front_is_no_end c cs) (closed_from (at + len_utf8 c) ((front c cs).1 - 1) cs)

pub tokens_closed : (text : List ℕ) → IsClosed (tokens_of text)
tokens_closed text = closed_from 0 0 text
