-- A text is made of its tokens.
use Rattle.std.proofs.Common.{◌≡◌, ◌≤◌, ◌<◌, ◌+◌, ◌∙◌, sym, ap, refl, subst, ℕ, zero, suc, List, [], ◌∷◌, ◌++◌, length, take, drop, Option, Some, None, true, false, ◌==◌, arith}
use Rattle.std.specs.Char.{len_utf8, is_ascii_digit}
use Rattle.std.proofs.lemmas.Bool.{eqb-true}
use Rattle.std.proofs.lemmas.List.{length-drop, take-append-drop}
use Rattle.std.proofs.lemmas.Str.{len_utf8_bounds}
use Rattle.unicode_ident.specs.Ident.{is_xid_continue}
use Rattle.ft_base.specs.Names.{starts_name}
use Rattle.ft_common.proofs.Booleans.{and_left, and_right}
use Rattle.ft_common.proofs.Choices.{if_both}
use Rattle.ft_common.proofs.Digits.{run-le, list_all-take-run, digits_all}
use Rattle.ft_grammar.specs.declared.token.Kind.{Kind}
use Rattle.ft_grammar.specs.declared.token.Kind.TheVariants.{Name, Number, Word, Mark, Bad, End}
use Rattle.ft_grammar.specs.declared.token.Token.{Token}
use Rattle.ft_grammar.specs.Fronts.{run, is_space, begins_comment, is_no_line_feed, name_kind, number_kind, front}
use Rattle.ft_grammar.specs.Tokens.{width, token_at, tokens_from, tokens_of}
use Rattle.ft_grammar.specs.Made.{IsSpelled, IsMadeOf, at_end, space, comment, token, is_end, is_ended, IsRising}
use Rattle.ft_lexer.proofs.Runs.{line_end}
use Rattle.ft_lexer.proofs.Spelled.{mark_front-spelled, number_kind-spelled, name_kind-spelled}
use Rattle.ft_lexer.proofs.Steps.{tokens_step}

-- a piece of so many characters at the front of a text: white space and comments that may stand before the rest, or the
-- spelling of a token
abbrev pub IsPiece : Option Kind → ℕ → List ℕ → Type 0
IsPiece None n text = (at : ℕ) (tokens : List Token) → IsMadeOf (at + width (take n text)) (drop n text) tokens → IsMadeOf at text tokens
IsPiece (Some kind) n text = IsSpelled kind (take n text)

abbrev pub IsFront : ℕ → List ℕ → Option Kind × ℕ → Type 0
IsFront c cs f = (0 < f.1) × (f.1 ≤ length cs + 1) × IsPiece f.0 f.1 (c ∷ cs)

space_front : (c : ℕ) (cs : List ℕ) → is_space c ≡ true → IsFront c cs (None, 1)
space_front c cs is = (
  omega arith,
  omega arith,
  λ at tokens made.
      let there : at + width (c ∷ []) ≡ at + len_utf8 c = omega arith in
      space at c cs tokens is (subst (λ n. IsMadeOf n cs tokens) there made),
)

comment_front : (c : ℕ) (cs : List ℕ) → begins_comment c cs ≡ true → IsFront c cs (None, suc (run is_no_line_feed cs))
comment_front c [] is = cc
comment_front c (d ∷ cs) is =
    let n = run is_no_line_feed cs in
    let first : 45 ≡ c = sym (eqb-true c 45 (and_left (c == 45) (d == 45) is)) in
    let second : 45 ≡ d = sym (eqb-true d 45 (and_right (c == 45) (d == 45) is)) in
    subst (λ x. IsFront x (d ∷ cs) (None, suc (run is_no_line_feed (d ∷ cs)))) first
    (subst (λ y. IsFront 45 (y ∷ cs) (None, suc (run is_no_line_feed (y ∷ cs)))) second (
      omega arith,
      omega (arith, run-le is_no_line_feed cs),
      λ at tokens made. subst (λ text. IsMadeOf at (45 ∷ 45 ∷ text) tokens) (take-append-drop n cs)
          (comment at (take n cs) (drop n cs) tokens (list_all-take-run is_no_line_feed cs) (line_end cs) made),
    ))

name_front : (c : ℕ) (cs : List ℕ) → starts_name c ≡ true
    → IsFront c cs (Some (name_kind (c ∷ take (run is_xid_continue cs) cs)), suc (run is_xid_continue cs))
name_front c cs starts = (
  omega arith,
  omega (arith, run-le is_xid_continue cs),
  name_kind-spelled c (take (run is_xid_continue cs) cs) starts (list_all-take-run is_xid_continue cs),
)

number_front : (c : ℕ) (cs : List ℕ) → is_ascii_digit c ≡ true
    → IsFront c cs (Some (number_kind (c ∷ take (run is_ascii_digit cs) cs)), suc (run is_ascii_digit cs))
number_front c cs digit = (
  omega arith,
  omega (arith, run-le is_ascii_digit cs),
  number_kind-spelled c (take (run is_ascii_digit cs) cs)
      (digits_all (c ∷ take (run is_ascii_digit cs) cs) (rw digit (list_all-take-run is_ascii_digit cs))),
)

pub front-is : (c : ℕ) (cs : List ℕ) → IsFront c cs (front c cs)
front-is c cs =
    if_both (IsFront c cs) (is_space c) _ _ (space_front c cs)
    (λ _. if_both (IsFront c cs) (begins_comment c cs) _ _ (comment_front c cs)
    (λ _. if_both (IsFront c cs) (starts_name c) _ _ (name_front c cs)
    (λ _. if_both (IsFront c cs) (is_ascii_digit c) _ _ (number_front c cs)
    (λ _. mark_front-spelled c cs))))

-- one piece before the rest
piece_joined : (kind : Option Kind) (n : ℕ) (c : ℕ) (cs : List ℕ) (at : ℕ) (tokens : List Token) → 0 < n → IsPiece kind n (c ∷ cs)
    → IsMadeOf (at + width (take n (c ∷ cs))) (drop n (c ∷ cs)) tokens
    → IsMadeOf at (c ∷ cs) (token_at at kind (at + width (take n (c ∷ cs))) ++ tokens)
piece_joined kind zero c cs at tokens some piece made = absurd (omega arith)
piece_joined None (suc n) c cs at tokens some piece made = piece at tokens made
piece_joined (Some kind) (suc n) c cs at tokens some spelled made =
    subst (λ ds. IsMadeOf at (c ∷ ds) (record { kind = kind; start = at; end = at + width (c ∷ take n cs) } ∷ tokens)) (take-append-drop n cs)
    (token at kind c (take n cs) (drop n cs) tokens spelled made)

made_from : (most at : ℕ) (cs : List ℕ) → length cs ≤ most → IsMadeOf at cs (tokens_from at 0 cs)
made_from most at [] within = at_end at
made_from zero at (c ∷ cs) within = absurd (omega arith)
made_from (suc most) at (c ∷ cs) within =
    let is = front-is c cs in
    let n = (front c cs).1 in
    let text = c ∷ cs in
    let there = at + width (take n text) in
    let shorter : length (drop n text) ≤ most = omega (arith, length-drop n text, is.0) in
    subst (IsMadeOf at text) (sym (tokens_step at c cs (front c cs).0 n refl is.0 is.1))
    (piece_joined (front c cs).0 n c cs at (tokens_from there 0 (drop n text)) is.0 is.2 (made_from most there (drop n text) shorter))

pub tokens_of-made : (text : List ℕ) → IsMadeOf 0 text (tokens_of text)
tokens_of-made text = made_from (length text) 0 text (omega arith)

-- ---- what follows for the tokens

is_end-spelled : (kind : Kind) (spelling : List ℕ) → IsSpelled kind spelling → is_end kind ≡ false
is_end-spelled (Name name) spelling is = refl
is_end-spelled (Number n) spelling is = refl
is_end-spelled (Word w) spelling is = refl
is_end-spelled (Mark m) spelling is = refl
is_end-spelled Bad spelling is = refl
is_end-spelled End spelling is = absurd is

is_ended-more : (t : Token) (ts : List Token) → is_end t.kind ≡ false → is_ended ts ≡ true → is_ended (t ∷ ts) ≡ true
is_ended-more t [] other ended = cc
is_ended-more t (u ∷ us) other ended = rw other ended

pub is_ended-made : (at : ℕ) (text : List ℕ) (tokens : List Token) → IsMadeOf at text tokens → is_ended tokens ≡ true
is_ended-made _ _ _ (at_end at) = refl
is_ended-made _ _ _ (space at c rest tokens is made) = is_ended-made (at + len_utf8 c) rest tokens made
is_ended-made _ _ _ (comment at line rest tokens all ends made) = is_ended-made (at + width (45 ∷ 45 ∷ line)) rest tokens made
is_ended-made _ _ _ (token at kind c cs rest tokens spelled made) =
    is_ended-more (record { kind = kind; start = at; end = at + width (c ∷ cs) }) tokens (is_end-spelled kind (c ∷ cs) spelled) (is_ended-made (at + width (c ∷ cs)) rest tokens made)

IsRising-lower : (lower low : ℕ) (tokens : List Token) (high : ℕ) → lower ≤ low → IsRising low tokens high → IsRising lower tokens high
IsRising-lower lower low [] high le rises = omega arith
IsRising-lower lower low (t ∷ ts) high le rises = (omega (arith, rises.0), rises.1, rises.2, rises.3)

width-append : (before after : List ℕ) → width (before ++ after) ≡ width before + width after
width-append [] after = omega arith
width-append (c ∷ cs) after = omega (arith, width-append cs after)

pub IsRising-made : (at : ℕ) (text : List ℕ) (tokens : List Token) → IsMadeOf at text tokens → IsRising at tokens (at + width text)
IsRising-made _ _ _ (at_end at) = (omega arith, omega arith, λ other. cc, omega arith)
IsRising-made _ _ _ (space at c rest tokens is made) =
    let further : at + len_utf8 c + width rest ≡ at + width (c ∷ rest) = omega arith in
    IsRising-lower at (at + len_utf8 c) tokens _ (omega arith)
    (subst (IsRising (at + len_utf8 c) tokens) further (IsRising-made (at + len_utf8 c) rest tokens made))
IsRising-made _ _ _ (comment at line rest tokens all ends made) =
    let there = at + width (45 ∷ 45 ∷ line) in
    let further : there + width rest ≡ at + width (45 ∷ 45 ∷ line ++ rest) = omega (arith, width-append (45 ∷ 45 ∷ line) rest) in
    IsRising-lower at there tokens _ (omega arith) (subst (IsRising there tokens) further (IsRising-made there rest tokens made))
IsRising-made _ _ _ (token at kind c cs rest tokens spelled made) =
    let there = at + width (c ∷ cs) in
    let further : there + width rest ≡ at + width (c ∷ cs ++ rest) = omega (arith, width-append (c ∷ cs) rest) in (
      omega arith,
      omega arith,
      λ other. omega (arith, (len_utf8_bounds c).0),
      subst (IsRising there tokens) further (IsRising-made there rest tokens made),
    )

pub tokens_of-ended : (text : List ℕ) → is_ended (tokens_of text) ≡ true
tokens_of-ended text = is_ended-made 0 text (tokens_of text) (tokens_of-made text)

pub tokens_of-rising : (text : List ℕ) → IsRising 0 (tokens_of text) (width text)
tokens_of-rising text =
    let whole : 0 + width text ≡ width text = omega arith in
    subst (IsRising 0 (tokens_of text)) whole (IsRising-made 0 text (tokens_of text) (tokens_of-made text))

pub is_ended_of : (tokens : List Token) (text : List ℕ) → tokens ≡ tokens_of text → is_ended tokens ≡ true
is_ended_of tokens text is = ap is_ended is ∙ tokens_of-ended text
