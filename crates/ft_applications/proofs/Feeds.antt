-- Names, claims and lines have no line feed within.
use Rattle.std.proofs.Common.{◌≡◌, ◌∙◌, sym, ap, refl, ℕ, zero, suc, ◌<◌, Bool, true, false, not, ◌&&◌, ◌==◌, nat_lt, List, [], ◌∷◌, ◌++◌, codes, arith}
use Rattle.std.specs.List.{list_all}
use Rattle.std.proofs.Math.Utf8.{encode}
use Rattle.std.proofs.lemmas.Str.{encode_ascii}
use Rattle.std.proofs.lemmas.Bool.{eqb-true, and_from}
use Rattle.std.proofs.lemmas.List.Folds.{list_all-append}
use Rattle.unicode_ident.specs.Ident.{is_xid_start, is_xid_continue}
use Rattle.unicode_ident.proofs.Computing.{unicode_ident}
use Rattle.ft_base.specs.Names.{is_name_token, starts_name}
use Rattle.ft_common.proofs.Booleans.{and_left, and_right}
use Rattle.ft_theory.specs.Expressions.{Expression, bound, free, symbol, meta, Arguments, no_arguments, with_body, dummy}
use Rattle.ft_theory.specs.Statements.{Claim, is_type, has_type, equal_types, equal_terms, type_goal, term_goal, type_equation_goal, term_equation_goal}
use Rattle.ft_applications_meaning.specs.Texts.{name_text, symbol_text, expression_text, rest_text, claim_text}
use Rattle.ft_applications_meaning.specs.Transcript.{is_plain_character, accepted_line, repeated_line, shown_line}
use Rattle.ft_applications_meaning.specs.OneLine.{has_no_line_feed, IsLine}

-- ---- tests

pub joined : (p : ℕ → Bool) (a b : List ℕ) → list_all p a ≡ true → list_all p b ≡ true → list_all p (a ++ b) ≡ true
joined p a b h k = list_all-append p a b ∙ and_from (list_all p a) (list_all p b) h k

pub joined_left : (p : ℕ → Bool) (a b : List ℕ) → list_all p (a ++ b) ≡ true → list_all p a ≡ true
joined_left p a b h = and_left _ _ (sym (list_all-append p a b) ∙ h)

pub joined_right : (p : ℕ → Bool) (a b : List ℕ) → list_all p (a ++ b) ≡ true → list_all p b ≡ true
joined_right p a b h = and_right _ _ (sym (list_all-append p a b) ∙ h)

-- ---- names

-- a character of ASCII that is no line feed
abbrev pub in_name : ℕ → Bool
in_name c = nat_lt c 128 && not (c == 10)

no_feed_continues : is_xid_continue 10 ≡ false
unfolding unicode_ident
no_feed_continues = refl

no_feed_starts : is_xid_start 10 ≡ false
unfolding unicode_ident
no_feed_starts = refl

unless_ten : (c : ℕ) (b : Bool) → (c == 10) ≡ b → (c ≡ 10 → ⊥) → not (c == 10) ≡ true
unless_ten c true h never = absurd (never (eqb-true c 10 h))
unless_ten c false h never = ap not h

plain_low : (c : ℕ) → is_plain_character c ≡ true → nat_lt c 128 ≡ true
plain_low c h = grind arith

pub continues_name : (c : ℕ) → is_plain_character c ≡ true → is_xid_continue c ≡ true → in_name c ≡ true
continues_name c plain h = and_from _ _ (plain_low c plain) (unless_ten c _ refl (λ e. let no : true ≡ false = sym h ∙ ap is_xid_continue e ∙ no_feed_continues in cc))

starts_no_feed : (c : ℕ) → starts_name c ≡ true → c ≡ 10 → ⊥
starts_no_feed c h e = let no : true ≡ false = sym h ∙ ap starts_name e ∙ no_feed_starts in cc

pub starts_a_name : (c : ℕ) → is_plain_character c ≡ true → starts_name c ≡ true → in_name c ≡ true
starts_a_name c plain h = and_from _ _ (plain_low c plain) (unless_ten c _ refl (starts_no_feed c h))

all_continue : (cs : List ℕ) → list_all is_plain_character cs ≡ true → list_all is_xid_continue cs ≡ true → list_all in_name cs ≡ true
all_continue [] plain h = refl
all_continue (c ∷ cs) plain h = and_from _ _ (continues_name c (and_left _ _ plain) (and_left _ _ h)) (all_continue cs (and_right _ _ plain) (and_right _ _ h))

pub name_clean : (n : List ℕ) → list_all is_plain_character n ≡ true → is_name_token n ≡ true → list_all in_name n ≡ true
name_clean [] plain h = refl
name_clean (c ∷ cs) plain h =
    let two = and_left (starts_name c && list_all is_xid_continue cs) _ (and_left _ _ h) in
    and_from _ _ (starts_a_name c (and_left _ _ plain) (and_left (starts_name c) _ two)) (all_continue cs (and_right _ _ plain) (and_right (starts_name c) _ two))

below_128 : (c : ℕ) → nat_lt c 128 ≡ true → c < 128
below_128 c h = grind arith

-- the text of a name
pub name_free : (n : List ℕ) → list_all in_name n ≡ true → has_no_line_feed (name_text n) ≡ true
name_free [] h = refl
name_free (c ∷ cs) h =
    joined _ (encode c) (name_text cs)
    (ap has_no_line_feed (encode_ascii c (below_128 c (and_left _ _ (and_left (in_name c) _ h)))) ∙ and_from _ _ (and_right (nat_lt c 128) _ (and_left (in_name c) _ h)) refl)
    (name_free cs (and_right (in_name c) _ h))

-- ---- claims

-- each is the characters of a name
abbrev pub AreClean : List (List ℕ) → Type 0
AreClean [] = Unit {0}
AreClean (n ∷ ns) = (list_all in_name n ≡ true) × AreClean ns

pub symbol_free : (ns : List (List ℕ)) (s : ℕ) → AreClean ns → has_no_line_feed (symbol_text ns s) ≡ true
symbol_free [] s h = refl
symbol_free (n ∷ ns) zero h = name_free n h.0
symbol_free (n ∷ ns) (suc s) h = symbol_free ns s h.1

mutual
  expression_free : (ns : List (List ℕ)) (e : Expression) → AreClean ns → has_no_line_feed (expression_text ns e) ≡ true
  expression_free ns (bound i) h = refl
  expression_free ns (free v) h = refl
  expression_free ns (symbol s no_arguments) h = symbol_free ns s h
  expression_free ns (symbol s (with_body n e a)) h =
      joined _ (symbol_text ns s ++ codes "(" ++ expression_text ns e ++ rest_text ns a) (codes ")")
      (joined _ (symbol_text ns s ++ codes "(" ++ expression_text ns e) (rest_text ns a)
      (joined _ (symbol_text ns s ++ codes "(") (expression_text ns e) (joined _ (symbol_text ns s) (codes "(") (symbol_free ns s h) refl) (expression_free ns e h))
      (rest_free ns a h)) refl
  expression_free ns (symbol s (dummy n a)) h = symbol_free ns s h
  expression_free ns (meta m a) h = refl

  rest_free : (ns : List (List ℕ)) (a : Arguments) → AreClean ns → has_no_line_feed (rest_text ns a) ≡ true
  rest_free ns no_arguments h = refl
  rest_free ns (with_body n e a) h = joined _ (codes ", " ++ expression_text ns e) (rest_text ns a) (joined _ (codes ", ") (expression_text ns e) refl (expression_free ns e h)) (rest_free ns a h)
  rest_free ns (dummy n a) h = rest_free ns a h

pub claim_free : (ns : List (List ℕ)) (c : Claim) → AreClean ns → has_no_line_feed (claim_text ns c) ≡ true
claim_free ns (is_type A) h = joined _ (expression_text ns A) (codes " type") (expression_free ns A h) refl
claim_free ns (has_type t A) h = joined _ (expression_text ns t ++ codes " : ") (expression_text ns A) (joined _ (expression_text ns t) (codes " : ") (expression_free ns t h) refl) (expression_free ns A h)
claim_free ns (equal_types A B) h = refl
claim_free ns (equal_terms s t A) h = refl
claim_free ns type_goal h = refl
claim_free ns (term_goal A) h = refl
claim_free ns (type_equation_goal A B) h = refl
claim_free ns (term_equation_goal s t A) h = refl

-- ---- lines

pub accepted_is_line : (n : List ℕ) → list_all in_name n ≡ true → IsLine (accepted_line n)
accepted_is_line n h = record { front = codes "accepted " ++ name_text n; ends = refl; one = joined _ (codes "accepted ") (name_text n) refl (name_free n h) }

pub repeated_is_line : (n : List ℕ) → list_all in_name n ≡ true → IsLine (repeated_line n)
repeated_is_line n h = record {
  front = codes "error rule " ++ name_text n ++ codes " declared twice";
  ends = refl;
  one = joined (λ c. not (c == 10)) (codes "error rule " ++ name_text n) (codes " declared twice") (joined (λ c. not (c == 10)) (codes "error rule ") (name_text n) refl (name_free n h)) refl;
}

pub shown_is_line : (ns : List (List ℕ)) (c : Claim) → AreClean ns → IsLine (shown_line ns c)
shown_is_line ns c h = record { front = codes "|- " ++ claim_text ns c; ends = refl; one = joined _ (codes "|- ") (claim_text ns c) refl (claim_free ns c h) }
