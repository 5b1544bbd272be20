-- Each source has exactly one content, so that it has exactly one transcript within a budget.
use Rattle.std.proofs.Common.{◌≡◌, ◌≢◌, ℕ, zero, suc, ◌<◌, ◌≤◌, Bool, true, false, cond, List, map, length, take, Result, Ok, Err, refl, sym, ap, ◌∙◌, subst, arith}
use Rattle.std.specs.Prelude.{nat_lt}
use Rattle.std.specs.Str.{IsUtf8, is_utf8, IsValidUpTo, chars}
use Rattle.std.specs.Str.Lossy.{utf8_valid_len, valid_len_up_to}
use Rattle.std.proofs.Math.Seq.{take-length, take_all}
use Rattle.std.proofs.lemmas.Bool.{ltb-true, ltb-false, lt-ltb, le-ltb}
use Rattle.std.proofs.lemmas.Str.{IsUtf8-nil, IsUtf8-from_is_utf8, is_utf8-from_IsUtf8, utf8_valid_len_le, utf8_valid_len-IsValidUpTo}
use Rattle.ft_common.proofs.Booleans.{true_false}
use Rattle.ft_common.proofs.Choices.{by_test}
use Rattle.ft_grammar.specs.declared.fault.SyntaxFault.{SyntaxFault}
use Rattle.ft_grammar.specs.declared.fault.SyntaxFault.TheVariants.{Unexpected, TooNested, Memory}
use Rattle.ft_grammar.specs.declared.syntax.Command.{Command as Tree}
use Rattle.ft_grammar.specs.Reading.{parse}
use Rattle.ft_grammar_laws.proofs.Readings.{source_is_read, read_is_source, never_memory, tokens_closed}
use Rattle.ft_meaning.specs.Trees.{command_of}
use Rattle.ft_meaning.specs.Texts.{Text}
use Rattle.ft_meaning.specs.Sources.{Content, too_long, no_text, unexpected, too_nested, commands, greatest_length, source_tokens, IsText, HasContent}
use Rattle.ft_meaning.specs.Transcript.{transcript_of}
use Rattle.ft_meaning_laws.specs.Runs.{OneContent, OneTranscript}

-- The longest front that is UTF-8, among those of at most m bytes.
pub record IsLongest (bs : List ℕ) (m n : ℕ) : Type 0 where
  pub front : IsUtf8 (take n bs)
  pub longest : (k : ℕ) → n < k → k ≤ m → ¬ (IsUtf8 (take k bs))

longest : (bs : List ℕ) (m : ℕ) → IsLongest bs m (valid_len_up_to bs m)
longest bs zero = record { front = IsUtf8-nil; longest = λ k p q. absurd (omega arith) }
longest bs (suc m) = go (is_utf8 (take (suc m) bs)) refl (longest bs m)
  where
    go : (b : Bool) → is_utf8 (take (suc m) bs) ≡ b → IsLongest bs m (valid_len_up_to bs m) → IsLongest bs (suc m) (cond b (suc m) (valid_len_up_to bs m))
    go true e ih = record { front = IsUtf8-from_is_utf8 (take (suc m) bs) e; longest = λ k p q. absurd (omega arith) }
    go false e ih = record { front = ih.front; longest = λ k p q. by_test (nat_lt k (suc m)) (λ l. ih.longest k p (let h : k < suc m = ltb-true k (suc m) l in omega arith)) (λ l u. last k (let h : suc m ≤ k = ltb-false k (suc m) l in omega arith) u) }
      where
        last : (k : ℕ) → k ≡ suc m → ¬ (IsUtf8 (take k bs))
        last k same u = true_false (sym (is_utf8-from_IsUtf8 (take (suc m) bs) (subst (λ z. IsUtf8 (take z bs)) same u)) ∙ e)

-- bytes that are no text are one up to somewhere
pub valid_up_to : (bs : List ℕ) → is_utf8 bs ≡ false → IsValidUpTo bs (utf8_valid_len bs)
unfolding utf8_valid_len
valid_up_to bs e = record { short = short; front = l.front; longest = λ k p. by_test (nat_lt (length bs) k) (λ q u. not_text (subst IsUtf8 (take_all k bs (let h : length bs < k = ltb-true (length bs) k q in omega arith)) u)) (λ q. l.longest k p (ltb-false (length bs) k q)) }
  where
    n : ℕ
    n = valid_len_up_to bs (length bs)

    l : IsLongest bs (length bs) n
    l = longest bs (length bs)

    not_text : ¬ (IsUtf8 bs)
    not_text u = true_false (sym (is_utf8-from_IsUtf8 bs u) ∙ e)

    short : n < length bs
    short =
        let le : n ≤ length bs = utf8_valid_len_le bs in
        let ne : n ≢ length bs = λ q. not_text (subst IsUtf8 (take-length bs) (subst (λ z. IsUtf8 (take z bs)) q l.front)) in
        omega arith

-- the content of what was read; reading is never refused memory
abbrev read_content : Result (List Tree) SyntaxFault → Content
read_content (Ok trees) = commands (map command_of trees)
read_content (Err (Unexpected at)) = unexpected at
read_content (Err (TooNested at)) = too_nested at
read_content (Err Memory) = too_long

-- the content of bytes
abbrev content_by : Bool → Bool → ℕ → Result (List Tree) SyntaxFault → Content
content_by true text n read = too_long
content_by false true n read = read_content read
content_by false false n read = no_text n

abbrev content_of : Text → Content
content_of source = content_by (nat_lt greatest_length (length source)) (is_utf8 source) (utf8_valid_len source) (parse (source_tokens source))

not_long : (n : ℕ) → n ≤ greatest_length → nat_lt greatest_length n ≡ false
not_long n h = le-ltb greatest_length n h

-- a content is that one
of_text : (source : Text) → IsText source → content_of source ≡ read_content (parse (source_tokens source))
of_text source t =
    ap (λ b. content_by b (is_utf8 source) (utf8_valid_len source) (parse (source_tokens source))) (not_long (length source) t.0)
    ∙ ap (λ b. content_by false b (utf8_valid_len source) (parse (source_tokens source))) (is_utf8-from_IsUtf8 source t.1)

not_utf8 : (source : Text) (n : ℕ) → IsValidUpTo source n → is_utf8 source ≡ false
not_utf8 source n v = by_test (is_utf8 source) (λ e. absurd (v.longest (length source) v.short (subst IsUtf8 (sym (take-length source)) (IsUtf8-from_is_utf8 source e)))) (λ e. e)

is_content : (source : Text) (c : Content) → HasContent source c → content_of source ≡ c
is_content source too_long h = ap (λ b. content_by b (is_utf8 source) (utf8_valid_len source) (parse (source_tokens source))) (lt-ltb greatest_length (length source) h)
is_content source (no_text n) h =
    ap (λ b. content_by b (is_utf8 source) (utf8_valid_len source) (parse (source_tokens source))) (not_long (length source) h.0)
    ∙ ap (λ b. content_by false b (utf8_valid_len source) (parse (source_tokens source))) (not_utf8 source n h.1)
    ∙ ap no_text (utf8_valid_len-IsValidUpTo source n h.1)
is_content source (unexpected at) h = of_text source h.0 ∙ ap read_content h.1
is_content source (too_nested at) h = of_text source h.0 ∙ ap read_content h.1
is_content source (commands cs) h = of_text source h.0 ∙ ap read_content (source_is_read h.1.0 (source_tokens source) h.1.1) ∙ ap commands (sym h.1.2)

-- and that one is its content
has_content : (source : Text) → HasContent source (content_of source)
has_content source = long (nat_lt greatest_length (length source)) refl
  where
    read : IsText source → (r : Result (List Tree) SyntaxFault) → parse (source_tokens source) ≡ r → HasContent source (read_content r)
    read t (Ok trees) e = (t, (trees, read_is_source trees (source_tokens source) (tokens_closed (chars source)) e, refl))
    read t (Err (Unexpected at)) e = (t, e)
    read t (Err (TooNested at)) e = (t, e)
    read t (Err Memory) e = absurd (never_memory (source_tokens source) e)

    text : length source ≤ greatest_length → (b : Bool) → is_utf8 source ≡ b → HasContent source (content_by false b (utf8_valid_len source) (parse (source_tokens source)))
    text l true e = read (l, IsUtf8-from_is_utf8 source e) (parse (source_tokens source)) refl
    text l false e = (l, valid_up_to source e)

    long : (b : Bool) → nat_lt greatest_length (length source) ≡ b → HasContent source (content_by b (is_utf8 source) (utf8_valid_len source) (parse (source_tokens source)))
    long true e = ltb-true greatest_length (length source) e
    long false e = text (ltb-false greatest_length (length source) e) (is_utf8 source) refl

pub one_content : OneContent
one_content source = ((content_of source, has_content source), λ c d h k. sym (is_content source c h) ∙ is_content source d k)

pub one_transcript : OneTranscript
one_transcript B source budget = (
  (transcript_of B source budget (content_of source), (content_of source, has_content source, refl)),
  λ t u h k. h.2 ∙ ap (transcript_of B source budget) ((one_content source).1 h.0 k.0 h.1 k.1) ∙ sym k.2,
)
