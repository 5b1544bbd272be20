use Rattle.std.proofs.Common.{◌≡◌, ◌≤◌, ◌<◌, ◌+◌, ◌-◌, ◌∙◌, ◌++◌, sym, ap, refl, zero, suc, ℕ, List, [], ◌∷◌, length, take, drop, Option, append_assoc, arith}
use Rattle.std.specs.Char.{len_utf8}
use Rattle.std.specs.Str.{chars, IsUtf8}
use Rattle.std.specs.Prelude.{slice_index}
use Rattle.std.proofs.lemmas.Str.{length-encode, chars_from_encodes}
use Rattle.std.proofs.lemmas.List.{length-append, drop_more, drop-drop}
use Rattle.std.proofs.Math.Utf8.{encode, encodes}
use Rattle.ft_grammar.specs.declared.token.Kind.{Kind}
use Rattle.ft_grammar.specs.declared.token.Token.{Token}
use Rattle.ft_grammar.specs.Fronts.{front}
use Rattle.ft_grammar.specs.Tokens.{width, token_at, tokens_from}

-- passing over the characters of a token that was told
pub tokens_skip : (at k : ℕ) (cs : List ℕ) → k ≤ length cs → tokens_from at k cs ≡ tokens_from (at + width (take k cs)) 0 (drop k cs)
tokens_skip at zero cs h = ap (λ n. tokens_from n 0 cs) (omega arith)
tokens_skip at (suc k) [] h = absurd (omega arith)
tokens_skip at (suc k) (c ∷ cs) h =
    let first : width (take (suc k) (c ∷ cs)) ≡ len_utf8 c + width (take k cs) = refl in
    tokens_skip (at + len_utf8 c) k cs (omega arith)
    ∙ ap (λ n. tokens_from n 0 (drop k cs)) (omega (arith, first))

-- one token, or a space
pub tokens_step : (at : ℕ) (c : ℕ) (cs : List ℕ) (kind : Option Kind) (n : ℕ) → front c cs ≡ (kind, n) → 0 < n → n ≤ length cs + 1
    → tokens_from at 0 (c ∷ cs) ≡ token_at at kind (at + width (take n (c ∷ cs))) ++ tokens_from (at + width (take n (c ∷ cs))) 0 (drop n (c ∷ cs))
tokens_step at c cs kind zero is some within = absurd (omega arith)
tokens_step at c cs kind (suc n) is some within =
    let first : width (take (suc n) (c ∷ cs)) ≡ len_utf8 c + width (take n cs) = refl in
    let less : suc n - 1 ≡ n = omega arith in
    rw is (ap (λ ts. token_at at kind (at + width (take (suc n) (c ∷ cs))) ++ ts)
    (ap (λ k. tokens_from (at + len_utf8 c) k cs) less ∙ tokens_skip (at + len_utf8 c) n cs (omega arith) ∙ ap (λ m. tokens_from m 0 (drop n cs)) (omega (arith, first))))

width_is : (cs : List ℕ) → length (encodes cs) ≡ width cs
width_is [] = refl
width_is (c ∷ cs) = omega (arith, length-append (encode c) (encodes cs), length-encode c, width_is cs)

-- the characters of a text take its bytes
pub width_chars : (bs : List ℕ) → IsUtf8 bs → width (chars bs) ≡ length bs
width_chars bs u = ap width (sym (chars_from_encodes u.0 bs u u.1.1)) ∙ sym (width_is u.0) ∙ ap length u.1.1

-- a place in the characters
pub width_parts : (n : ℕ) (cs : List ℕ) → width (take n cs) + width (drop n cs) ≡ width cs
width_parts zero cs = omega arith
width_parts (suc n) [] = refl
width_parts (suc n) (c ∷ cs) = omega (arith, width_parts n cs)

-- one turn of the lexer
pub lex_step : (out next : List Token) (chars : List ℕ) (i at w : ℕ) (kind : Option Kind) (n : ℕ) → i < length chars
    → front (slice_index chars i) (drop (i + 1) chars) ≡ (kind, n) → 0 < n → n ≤ length (drop (i + 1) chars) + 1
    → w ≡ width (take n (drop i chars)) → next ≡ out ++ token_at at kind (at + w)
    → next ++ tokens_from (at + w) 0 (drop (i + n) chars) ≡ out ++ tokens_from at 0 (drop i chars)
lex_step out next chars i at w kind n lt is some within width-is next-is =
    let parts = drop_more chars i 0 lt in
    let step = tokens_step at (slice_index chars i) (drop (i + 1) chars) kind n is some within in
    let whole : tokens_from at 0 (drop i chars) ≡ token_at at kind (at + w) ++ tokens_from (at + w) 0 (drop n (drop i chars)) =
    rw (width-is, parts) step in
    ap (λ o. o ++ tokens_from (at + w) 0 (drop (i + n) chars)) next-is
    ∙ append_assoc out _ _
    ∙ ap (λ ts. out ++ ts) (ap (λ cs. token_at at kind (at + w) ++ tokens_from (at + w) 0 cs) (sym (drop-drop n i chars)) ∙ sym whole)

pub part_at : (chars : List ℕ) (i n : ℕ) → width (take (i + n - i) (drop i chars)) ≡ width (take n (drop i chars))
part_at chars i n = ap (λ m. width (take m (drop i chars))) (omega arith)

pub width_next : (chars : List ℕ) (i n at w : ℕ) → at + width (drop i chars) ≡ width chars → w ≡ width (take n (drop i chars)) → at + w + width (drop (i + n) chars) ≡ width chars
width_next chars i n at w h e =
    let d : width (drop n (drop i chars)) ≡ width (drop (i + n) chars) = ap width (drop-drop n i chars) in
    omega (arith, width_parts n (drop i chars), d, h, e)
