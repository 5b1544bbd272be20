-- What stands at the front of a text is spelled as it is told.
use Rattle.std.proofs.Common.{◌≡◌, ◌≤◌, ◌<◌, ◌+◌, ◌∙◌, sym, ap, refl, ℕ, List, [], ◌∷◌, length, take, Option, Some, None, Bool, true, false, not, ◌&&◌, ◌||◌, ◌==◌, is_some, is_none, nat_lt, if◌then◌else◌, arith}
use Rattle.std.specs.Prelude.{decimal}
use Rattle.std.specs.List.{list_all}
use Rattle.std.specs.Str.{bytes_eq, all_ascii_digits}
use Rattle.std.proofs.lemmas.Bool.{eqb-true}
use Rattle.std.proofs.lemmas.Fmt.{decimal-digits_value}
use Rattle.std.proofs.lemmas.Slice.Eq.{bytes_eq-Decides}
use Rattle.unicode_ident.specs.Ident.{is_xid_continue}
use Rattle.ft_base.specs.declared.word.Word.{Word as AnyWord}
use Rattle.ft_base.specs.Words.{words, spelling_of, word_of}
use Rattle.ft_base.specs.Names.{starts_name, is_lone_underscore, is_name_token}
use Rattle.ft_common.proofs.Booleans.{and_left, and_right, or_left, or_right}
use Rattle.ft_common.proofs.Choices.{if_both}
use Rattle.ft_common.proofs.Digits.{decimal_value-is_numeral, no_leading_zero}
use Rattle.ft_common.proofs.Lists.{find_passes}
use Rattle.ft_grammar.specs.declared.token.Kind.{Kind}
use Rattle.ft_grammar.specs.declared.token.Kind.TheVariants.{Name, Number, Mark, Bad}
use Rattle.ft_grammar.specs.declared.token.Mark.{Mark as AnyMark}
use Rattle.ft_grammar.specs.declared.token.Mark.TheVariants as mark
use Rattle.ft_grammar.specs.Fronts.{word_or_mark, name_kind, decimal_value, has_leading_zero, number_kind, mark_kind, mark_front}
use Rattle.ft_grammar.specs.Made.{IsSpelled, mark_spelling}
use Rattle.ft_lexer.proofs.Runs.{IsTrue-from}

-- ---- marks

one_mark : (c k : ℕ) (m : AnyMark) (other : Kind) → mark_spelling m ≡ k ∷ [] → IsSpelled other (c ∷ []) → IsSpelled (if c == k then Mark m else other) (c ∷ [])
one_mark c k m other spells rest = if_both (λ kind. IsSpelled kind (c ∷ [])) (c == k) (Mark m) other
    (λ e. ap (λ n. n ∷ []) (eqb-true c k e) ∙ sym spells) (λ e. rest)

mark_kind-spelled : (c : ℕ) → IsSpelled (mark_kind c) (c ∷ [])
mark_kind-spelled c =
    one_mark c 40 mark.LeftParen _ refl (one_mark c 41 mark.RightParen _ refl (one_mark c 123 mark.LeftBrace _ refl
    (one_mark c 125 mark.RightBrace _ refl (one_mark c 44 mark.Comma _ refl (one_mark c 58 mark.Colon _ refl
    (one_mark c 61 mark.Equals _ refl (one_mark c 124 mark.Bar _ refl (one_mark c 42 mark.Star _ refl
    (one_mark c 64 mark.At Bad refl tt)))))))))

-- the front has at least one character and no more than there are, and they spell its kind
abbrev pub IsSpelledFront : Kind × ℕ → ℕ → List ℕ → Type 0
IsSpelledFront front c cs = (0 < front.1) × (front.1 ≤ length cs + 1) × IsSpelled front.0 (take front.1 (c ∷ cs))

one_front : (c : ℕ) (cs : List ℕ) → IsSpelledFront (mark_kind c, 1) c cs
one_front c cs = (omega arith, omega arith, mark_kind-spelled c)

two_marks : (c d j k : ℕ) (cs : List ℕ) (m : AnyMark) (other : Kind × ℕ) → mark_spelling m ≡ j ∷ k ∷ [] → IsSpelledFront other c (d ∷ cs)
    → IsSpelledFront (if c == j && d == k then (Mark m, 2) else other) c (d ∷ cs)
two_marks c d j k cs m other spells rest = if_both (λ f. IsSpelledFront f c (d ∷ cs)) (c == j && d == k) (Mark m, 2) other
    (λ e.
    let first : c ≡ j = eqb-true c j (and_left (c == j) (d == k) e) in
    let second : d ≡ k = eqb-true d k (and_right (c == j) (d == k) e) in
    let spelled : c ∷ d ∷ [] ≡ mark_spelling m = ap (λ n. n ∷ d ∷ []) first ∙ ap (λ n. j ∷ n ∷ []) second ∙ sym spells in
    (omega arith, omega arith, spelled))
    (λ e. rest)

pub mark_front-spelled : (c : ℕ) (cs : List ℕ) → IsSpelledFront (mark_front c cs) c cs
mark_front-spelled c [] = one_front c []
mark_front-spelled c (d ∷ cs) =
    two_marks c d 58 58 cs mark.DoubleColon _ refl (two_marks c d 61 61 cs mark.DoubleEquals _ refl
    (two_marks c d 45 62 cs mark.Arrow _ refl (one_front c (d ∷ cs))))

-- ---- numbers

number : (ds : List ℕ) → all_ascii_digits ds ≡ true → 0 < length ds → has_leading_zero ds ≡ false
    → nat_lt 65535 (decimal_value 0 ds) ≡ false → (ds ≡ decimal (decimal_value 0 ds)) × (decimal_value 0 ds ≤ 65535)
number ds all some unpadded small =
    let within : decimal_value 0 ds ≤ 65535 = grind (arith, small) in
    (sym (decimal-digits_value decimal_value-is_numeral ds all some (no_leading_zero ds unpadded) (omega (arith, within))), within)

pub number_kind-spelled : (d : ℕ) (ds : List ℕ) → all_ascii_digits (d ∷ ds) ≡ true → IsSpelled (number_kind (d ∷ ds)) (d ∷ ds)
number_kind-spelled d ds all =
    let digits = d ∷ ds in
    if_both (λ kind. IsSpelled kind digits) (has_leading_zero digits || nat_lt 65535 (decimal_value 0 digits)) Bad (Number (decimal_value 0 digits))
    (λ e. tt)
    (λ e. number digits all (omega arith) (or_left (has_leading_zero digits) (nat_lt 65535 (decimal_value 0 digits)) e) (or_right (has_leading_zero digits) (nat_lt 65535 (decimal_value 0 digits)) e))

-- ---- names and words

word_of-spelled : (spelling : List ℕ) (w : AnyWord) → word_of spelling ≡ Some w → spelling ≡ spelling_of w
word_of-spelled spelling w e =
    sym ((bytes_eq-Decides (spelling_of w) spelling).0 (find_passes (λ v. bytes_eq (spelling_of v) spelling) words w e))

underscore : (spelling : List ℕ) → is_lone_underscore spelling ≡ true → spelling ≡ 95 ∷ []
underscore [] e = cc
underscore (c ∷ []) e = ap (λ n. n ∷ []) (eqb-true c 95 e)
underscore (c ∷ d ∷ cs) e = cc

-- characters that begin as a name and go on as one
word_or_underscore : (found : Option AnyWord) (spelling : List ℕ) → word_of spelling ≡ found → (is_none found ≡ true → is_lone_underscore spelling ≡ true)
    → IsSpelled (word_or_mark found) spelling
word_or_underscore (Some w) spelling is lone = word_of-spelled spelling w is
word_or_underscore None spelling is lone = underscore spelling (lone refl)

lone_left : (starts all lone found : Bool) → starts ≡ true → all ≡ true → (starts && all && not lone && not found) ≡ false
    → found ≡ false → lone ≡ true
lone_left true true true found s a e f = refl
lone_left true true false false s a e f = cc
lone_left true true false true s a e f = cc
lone_left true false lone found s a e f = cc
lone_left false all lone found s a e f = cc

none_found : (found : Option AnyWord) → is_none found ≡ true → is_some found ≡ false
none_found None e = refl
none_found (Some w) e = cc

pub name_kind-spelled : (c : ℕ) (cs : List ℕ) → starts_name c ≡ true → list_all is_xid_continue cs ≡ true
    → IsSpelled (name_kind (c ∷ cs)) (c ∷ cs)
name_kind-spelled c cs starts all =
    let spelling = c ∷ cs in
    if_both (λ kind. IsSpelled kind spelling) (is_name_token spelling) (Name spelling) (word_or_mark (word_of spelling))
    (λ e. (refl, IsTrue-from e))
    (λ e. word_or_underscore (word_of spelling) spelling refl
    (λ none. lone_left (starts_name c) (list_all is_xid_continue cs) (is_lone_underscore spelling) (is_some (word_of spelling))
    starts all e (none_found (word_of spelling) none)))
