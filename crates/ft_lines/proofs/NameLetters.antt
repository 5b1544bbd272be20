-- The characters of names: each is a character of Unicode after the space.
use Rattle.std.proofs.Common.{◌≡◌, ◌∙◌, sym, ap, refl, subst, ℕ, ◌<◌, true, not, ◌||◌, ◌&&◌, ◌==◌, List, [], ◌∷◌, arith}
use Rattle.std.specs.List.{list_all}
use Rattle.std.specs.Str.{all_scalars}
use Rattle.std.specs.Char.{IsScalar}
use Rattle.std.proofs.lemmas.Bool.{eqb-true}
use Rattle.unicode_ident.specs.Ident.{is_xid_start, is_xid_continue}
use Rattle.unicode_ident.proofs.Computing.{unicode_ident}
use Rattle.unicode_ident.proofs.IdentLemmas.{is_xid_start-is_xid_continue}
use Rattle.ucd_table.specs.Rows.{Range, in_ranges}
use Rattle.ucd_table.proofs.Computing.{tables}
use Rattle.ucd_table.proofs.Facts.{Stepped-everywhere}
use Rattle.ucd_table.proofs.Stepped.{Stepped, zip_stepped, of_ranges}
use Rattle.ucd_derived.proofs.BinaryLemmas.{is_xid_continue_stepped}
use Rattle.ft_base.specs.Names.{is_name_token, starts_name, is_lone_underscore}
use Rattle.ft_texts.specs.Laws.{Visible}
use Rattle.ft_common.proofs.Booleans.{and_left, and_right}
use Rattle.ft_common.proofs.Choices.{by_test}

-- the characters of Unicode after the space
abbrev printed : List Range
printed = (33, 0xD7FF) ∷ (0xE000, 0x10_FFFF) ∷ []

unfoldable printed_stepped : Stepped (in_ranges printed)
unfolding tables
printed_stepped = of_ranges printed refl

continues_printed : (c : ℕ) → is_xid_continue c ≡ true → in_ranges printed c ≡ true
unfolding unicode_ident printed_stepped
continues_printed c continues =
    let both = zip_stepped (λ a b. not a || b) is_xid_continue (in_ranges printed) is_xid_continue_stepped printed_stepped in
    subst (λ a. (not a || in_ranges printed c) ≡ true) continues (Stepped-everywhere _ both refl c)

abbrev IsLetter : ℕ → Type 0
IsLetter c = (32 < c) × IsScalar c

printed_letter : (c : ℕ) → in_ranges printed c ≡ true → IsLetter c
unfolding in_ranges
printed_letter c h = grind arith

starts_letter : (c : ℕ) → starts_name c ≡ true → IsLetter c
starts_letter c starts = by_test (c == 95)
    (λ y. subst IsLetter (sym (eqb-true c 95 y)) (omega arith, refl))
    (λ n. printed_letter c (continues_printed c (is_xid_start-is_xid_continue c (sym (ap (λ b. b || is_xid_start c) n) ∙ starts))))

abbrev Letters : List ℕ → Type 0
Letters [] = Unit {0}
Letters (c ∷ cs) = IsLetter c × Letters cs

continue_letters : (cs : List ℕ) → list_all is_xid_continue cs ≡ true → Letters cs
continue_letters [] all = tt
continue_letters (c ∷ cs) all =
    (printed_letter c (continues_printed c (and_left (is_xid_continue c) (list_all is_xid_continue cs) all)), continue_letters cs (and_right (is_xid_continue c) (list_all is_xid_continue cs) all))

letters : (n : List ℕ) → is_name_token n ≡ true → Letters n
letters [] h = tt
letters (c ∷ cs) h =
    let two = and_left (starts_name c && list_all is_xid_continue cs) _ (and_left (starts_name c && list_all is_xid_continue cs && not (is_lone_underscore (c ∷ cs))) _ h) in
    (starts_letter c (and_left (starts_name c) (list_all is_xid_continue cs) two), continue_letters cs (and_right (starts_name c) (list_all is_xid_continue cs) two))

letters_visible : (n : List ℕ) → Letters n → Visible n
letters_visible [] h = tt
letters_visible (c ∷ cs) h = (h.0.0, letters_visible cs h.1)

letters_scalars : (n : List ℕ) → Letters n → all_scalars n ≡ true
letters_scalars [] h = refl
letters_scalars (c ∷ cs) h = rw h.0.1 (letters_scalars cs h.1)

pub names_visible : (n : List ℕ) → is_name_token n ≡ true → Visible n
names_visible n h = letters_visible n (letters n h)

pub names_scalars : (n : List ℕ) → is_name_token n ≡ true → all_scalars n ≡ true
names_scalars n h = letters_scalars n (letters n h)
