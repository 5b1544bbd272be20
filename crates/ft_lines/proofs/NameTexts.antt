-- Names: what is read is the UTF-8 of a name, and a name's UTF-8 is read.
use Rattle.std.proofs.Common.{◌≡◌, ◌∙◌, sym, ap, refl, ℕ, suc, ◌<◌, List, [], ◌∷◌, ◌++◌, length, take, drop, Option, Some, None, Result, Ok, Err, Bool, true, false, not, ◌&&◌, ◌==◌, if◌then◌else◌, get_or, nat_eq, arith}
use Rattle.std.specs.Prelude.{IfOk}
use Rattle.std.specs.List.{list_all}
use Rattle.std.specs.Str.{IsUtf8, is_utf8, chars, encode_utf8_all, NonePass}
use Rattle.std.proofs.Math.Seq.{take-append_seam, drop-append_seam}
use Rattle.std.proofs.lemmas.List.{take-append-drop}
use Rattle.std.proofs.lemmas.Option.{same_Some}
use Rattle.std.proofs.lemmas.Str.{IsUtf8-from_is_utf8, is_utf8-from_IsUtf8, encodes-chars, chars-encodes, NoCharPasses-byte}
use Rattle.std.proofs.lemmas.Bool.{eqb-true}
use Rattle.ft_base.specs.Names.{is_name_token}
use Rattle.ft_base.specs.declared.memory.Memory.{Memory}
use Rattle.ft_items.specs.Item.{Name}
use Rattle.ft_common.specs.Digits.{run}
use Rattle.ft_texts.specs.Laws.{Visible}
use Rattle.ft_lines.specs.Names.{is_no_space, name_in, name_then, name, ends_name}
use Rattle.ft_common.proofs.Booleans.{and_left, and_right}
use Rattle.ft_common.proofs.Choices.{by_test, taken, not_taken}
use Rattle.ft_common.proofs.Options.{none_some}
use Rattle.ft_common.proofs.Results.{ok_ok, err_ok}
use Rattle.ft_lines.proofs.NameLetters.{names_visible, names_scalars}
use Rattle.ft_lines.proofs.Runs.{run_past}

name_in_is : (bytes : List ℕ) (n : Name) → name_in bytes ≡ Some n → (bytes ≡ encode_utf8_all n) × (is_name_token n ≡ true)
name_in_is bytes n h =
    let test = is_utf8 bytes && is_name_token (chars bytes) in
    let yes : Option Name = Some (chars bytes) in
    let no : Option Name = None in
    by_test test
    (λ y. let same : chars bytes ≡ n = same_Some (chars bytes) n (taken yes no test y h) in (
      sym (encodes-chars bytes (IsUtf8-from_is_utf8 bytes (and_left (is_utf8 bytes) (is_name_token (chars bytes)) y))) ∙ ap encode_utf8_all same,
      ap is_name_token (sym same) ∙ and_right (is_utf8 bytes) (is_name_token (chars bytes)) y,
    ))
    (λ m. none_some (not_taken yes no test m h))

then_is : (o : Option Name) (cs rest : List ℕ) (n : Name) → name_then o cs ≡ Ok (n, rest) → (o ≡ Some n) × (cs ≡ rest)
then_is None cs rest n h = absurd (err_ok _ (n, rest) h)
then_is (Some m) cs rest n h = let e = ok_ok (m, cs) (n, rest) h in (ap (λ p. Some p.0) e, ap (λ p. p.1) e)

pub name_is : (n : Name) (cs rest : List ℕ) → name cs ≡ Ok (n, rest) → (cs ≡ encode_utf8_all n ++ rest) × (is_name_token n ≡ true)
unfolding name
name_is n cs rest h =
    let k = run is_no_space cs in
    let t = then_is (name_in (take k cs)) (drop k cs) rest n h in
    let i = name_in_is (take k cs) n t.0 in
    (sym (take-append-drop k cs) ∙ ap (λ x. x ++ drop k cs) i.0 ∙ ap (λ x. encode_utf8_all n ++ x) t.1, i.1)

-- ---- what a function ensures that tells the name
utf8_named : (bytes : List ℕ) → IsUtf8 bytes → name_in bytes ≡ (if is_name_token (chars bytes) then Some (chars bytes) else None)
utf8_named bytes utf8 = ap (λ b. if b && is_name_token (chars bytes) then Some (chars bytes) else None) (is_utf8-from_IsUtf8 bytes utf8)

pub named_text : (bytes text : List ℕ) (result : Result (Option Name) Memory) → (text ≡ bytes) × IsUtf8 bytes
    → IfOk result (λ n. n ≡ (if is_name_token (chars text) then Some (chars text) else None)) → IfOk result (λ n. n ≡ name_in bytes)
named_text bytes text (Ok n) given told =
    told ∙ ap (λ x. if is_name_token (chars x) then Some (chars x) else None) given.0 ∙ sym (utf8_named bytes given.1)
named_text bytes text (Err e) given told = tt

pub no_text : (bytes : List ℕ) → (IsUtf8 bytes → ⊥) → None ≡ name_in bytes
no_text bytes never = by_test (is_utf8 bytes) (λ y. absurd (never (IsUtf8-from_is_utf8 bytes y)))
    (λ n. sym (ap (λ b. if b && is_name_token (chars bytes) then Some (chars bytes) else None) n))

-- ---- a name's UTF-8 is read
none_space : (n : List ℕ) → Visible n → NonePass (λ c. nat_eq c 32) n
none_space [] h = tt
none_space (c ∷ cs) h = (by_test (nat_eq c 32) (λ y. absurd (omega (arith, eqb-true c 32 y, h.0))) (λ m. m), none_space cs h.1)

no_space_at : (b : ℕ) → (b < 128 → nat_eq b 32 ≡ false) → is_no_space b ≡ true
no_space_at b h = by_test (b == 32) (λ y. ap not (h (omega (arith, eqb-true b 32 y)))) (λ m. ap not m)

all_at : (p : ℕ → Bool) (xs : List ℕ) → ((i : ℕ) → i < length xs → p (get_or xs i 0) ≡ true) → list_all p xs ≡ true
all_at p [] h = refl
all_at p (x ∷ xs) h = rw (h 0 (omega arith)) (all_at p xs (λ i l. h (suc i) (omega (arith, l))))

no_spaces : (n : Name) → is_name_token n ≡ true → list_all is_no_space (encode_utf8_all n) ≡ true
no_spaces n h = all_at is_no_space (encode_utf8_all n)
    (λ i l. no_space_at _ (λ low. NoCharPasses-byte (λ c. nat_eq c 32) (encode_utf8_all n) i (n, refl, none_space n (names_visible n h)) l low))

name_stops : (rest : List ℕ) → ends_name rest ≡ true → run is_no_space rest ≡ 0
name_stops [] h = refl
name_stops (c ∷ rest) h = rw h refl

name_in_back : (n : Name) → is_name_token n ≡ true → name_in (encode_utf8_all n) ≡ Some n
name_in_back n h =
    let bytes = encode_utf8_all n in
    let utf8 : is_utf8 bytes ≡ true = is_utf8-from_IsUtf8 bytes (n, (names_scalars n h, refl)) in
    let same : chars bytes ≡ n = chars-encodes n (names_scalars n h) in
    ap (λ b. if b && is_name_token (chars bytes) then Some (chars bytes) else None) utf8
    ∙ ap (λ x. if is_name_token x then Some x else None) same
    ∙ ap (λ b. if b then Some n else None) h

pub name_read : (n : Name) (rest : List ℕ) → is_name_token n ≡ true → ends_name rest ≡ true → name (encode_utf8_all n ++ rest) ≡ Ok (n, rest)
unfolding name
name_read n rest h ends =
    let ds = encode_utf8_all n in
    let all = ds ++ rest in
    let k : run is_no_space all ≡ length ds = run_past is_no_space ds rest (no_spaces n h) (name_stops rest ends) in
    ap (λ j. name_then (name_in (take j all)) (drop j all)) k
    ∙ ap (λ x. name_then (name_in x) (drop (length ds) all)) (take-append_seam ds rest)
    ∙ ap (λ o. name_then o (drop (length ds) all)) (name_in_back n h)
    ∙ ap (λ x. Ok (n, x)) (drop-append_seam ds rest)
