-- Lines of items that are no entries: what is read is the line of an item, and the line is read.
use Rattle.std.proofs.Common.{◌≡◌, ◌∙◌, sym, ap, refl, subst, ℕ, zero, suc, ◌<◌, List, [], ◌∷◌, ◌++◌, length, drop, Ok, true, false, ◌==◌, if◌then◌else◌, append_assoc, append-nil, arith}
use lib.ListN.{length-append}
use Rattle.std.specs.Fmt.{decimal}
use Rattle.std.specs.Str.{encode_utf8_all}
use Rattle.std.proofs.lemmas.Str.{encodes-append, encode_ascii}
use Rattle.ft_base.specs.Names.{is_name_token}
use Rattle.ft_items.specs.Item.{Name, Item, variable as a_variable, metavariable as a_metavariable, rule as a_rule, shown as a_mark}
use Rattle.ft_items.specs.Texts.{line_text, NumberFits, EachNumberFits}
use Rattle.ft_items.specs.Lines.{IsLineOf}
use Rattle.ft_texts.proofs.Pieces.{Each, IsDigit, decimal_digits}
use Rattle.ft_texts.proofs.Statements.{after_spaces}
use Rattle.ft_texts.proofs.Lines.{rule_texts}
use Rattle.ft_lines.specs.declared.fault.Fault.TheVariants.{Form}
use Rattle.ft_lines.specs.Reading.{Reader, ◌>>=◌, and_then, pure, sees, sees_digit, expect, number}
use Rattle.ft_lines.specs.Names.{name}
use Rattle.ft_lines.specs.Lines.{variable, metavariable, premises_from, premises, rule, mark}
use Rattle.ft_lines.proofs.Numbers.{number_is, number_read}
use Rattle.ft_lines.proofs.NameTexts.{name_is, name_read}
use Rattle.ft_common.proofs.Choices.{by_test}
use Rattle.ft_common.proofs.Results.{ok_ok, err_ok}
use Rattle.ft_lines.proofs.Chains.{in_turn, after, taken_both, not_taken_both, sees_is, sees_none, expected, expect_next}

-- ---- the bytes of lines
pub byte_then : (c : ℕ) (x y : List ℕ) → c < 128 → encode_utf8_all x ≡ y → encode_utf8_all (c ∷ x) ≡ c ∷ y
byte_then c x y low e = ap (λ z. z ++ encode_utf8_all x) (encode_ascii c low) ∙ ap (λ z. c ∷ z) e

pub plain_bytes : (x : List ℕ) → Each (λ c. c < 128) x → encode_utf8_all x ≡ x
plain_bytes [] h = refl
plain_bytes (c ∷ x) h = byte_then c x x h.0 (plain_bytes x h.1)

low_digits : (x : List ℕ) → Each IsDigit x → Each (λ c. c < 128) x
low_digits [] h = tt
low_digits (c ∷ x) h = (omega (arith, h.0.1), low_digits x h.1)

number_then : (n : ℕ) (x y : List ℕ) → NumberFits n → encode_utf8_all x ≡ y → encode_utf8_all (decimal n ++ x) ≡ decimal n ++ y
number_then n x y fits e =
    encodes-append (decimal n) x ∙ ap (λ z. z ++ encode_utf8_all x) (plain_bytes (decimal n) (low_digits (decimal n) (decimal_digits n fits))) ∙ ap (λ z. decimal n ++ z) e

spaced_number : (n : ℕ) (x y : List ℕ) → NumberFits n → encode_utf8_all x ≡ y → encode_utf8_all (32 ∷ (decimal n ++ x)) ≡ 32 ∷ (decimal n ++ y)
spaced_number n x y fits e = byte_then 32 (decimal n ++ x) (decimal n ++ y) (omega arith) (number_then n x y fits e)

spaced_name : (n : Name) (x y : List ℕ) → encode_utf8_all x ≡ y → encode_utf8_all (32 ∷ (n ++ x)) ≡ 32 ∷ (encode_utf8_all n ++ y)
spaced_name n x y e = byte_then 32 (n ++ x) (encode_utf8_all n ++ y) (omega arith) (encodes-append n x ∙ ap (λ z. encode_utf8_all n ++ z) e)

-- a number at the end
abbrev last_number : ℕ → List ℕ → List ℕ
last_number p rest = 32 ∷ (decimal p ++ rest)

last_bytes : (p : ℕ) → NumberFits p → encode_utf8_all (last_number p []) ≡ last_number p []
last_bytes p fits = spaced_number p [] [] fits refl

abbrev named_number : Name → ℕ → List ℕ → List ℕ
named_number n p rest = 32 ∷ (encode_utf8_all n ++ last_number p rest)

abbrev variable_bytes : ℕ → Name → ℕ → List ℕ → List ℕ
variable_bytes v n p rest = 86 ∷ 32 ∷ (decimal v ++ named_number n p rest)

pub variable_line : (v : ℕ) (n : Name) (p : ℕ) → NumberFits v → NumberFits p → encode_utf8_all (line_text (a_variable v n p)) ≡ variable_bytes v n p []
variable_line v n p first second =
    let us = last_number p [] in
    let ts = 32 ∷ (n ++ us) in
    byte_then 86 (32 ∷ (decimal v ++ ts)) (32 ∷ (decimal v ++ named_number n p [])) (omega arith) (spaced_number v ts (named_number n p []) first (spaced_name n us us (last_bytes p second)))

abbrev metavariable_bytes : Name → ℕ → List ℕ → List ℕ
metavariable_bytes n p rest = 77 ∷ named_number n p rest

pub metavariable_line : (n : Name) (p : ℕ) → NumberFits p → encode_utf8_all (line_text (a_metavariable n p)) ≡ metavariable_bytes n p []
metavariable_line n p fits =
    let us = last_number p [] in
    byte_then 77 (32 ∷ (n ++ us)) (named_number n p []) (omega arith) (spaced_name n us us (last_bytes p fits))

-- the metavariables and the semicolon, before what follows
abbrev premise_bytes : List ℕ → List ℕ → List ℕ
premise_bytes [] rest = 32 ∷ 59 ∷ rest
premise_bytes (m ∷ ms) rest = 32 ∷ (decimal m ++ premise_bytes ms rest)

premise_line : (ms : List ℕ) (p : ℕ) → EachNumberFits ms → NumberFits p → encode_utf8_all (after_spaces (rule_texts ms p)) ≡ premise_bytes ms (last_number p [])
premise_line [] p each fits =
    let us = last_number p [] in
    byte_then 32 (59 ∷ us) (59 ∷ us) (omega arith) (byte_then 59 us us (omega arith) (last_bytes p fits))
premise_line (m ∷ ms) p each fits = spaced_number m (after_spaces (rule_texts ms p)) (premise_bytes ms (last_number p [])) each.0 (premise_line ms p each.1 fits)

abbrev rule_bytes : Name → List ℕ → ℕ → List ℕ → List ℕ
rule_bytes n ms p rest = 82 ∷ 32 ∷ (encode_utf8_all n ++ premise_bytes ms (last_number p rest))

pub rule_line : (n : Name) (ms : List ℕ) (p : ℕ) → EachNumberFits ms → NumberFits p → encode_utf8_all (line_text (a_rule n ms p)) ≡ rule_bytes n ms p []
rule_line n ms p each fits =
    let us = after_spaces (rule_texts ms p) in
    let ts = premise_bytes ms (last_number p []) in
    byte_then 82 (32 ∷ (n ++ us)) (32 ∷ (encode_utf8_all n ++ ts)) (omega arith) (spaced_name n us ts (premise_line ms p each fits))

pub mark_line : (p : ℕ) → NumberFits p → encode_utf8_all (line_text (a_mark p)) ≡ 87 ∷ last_number p []
mark_line p fits =
    let us = last_number p [] in
    byte_then 87 us us (omega arith) (last_bytes p fits)

-- ---- a piece, and what is read behind it
past : {A : Type 0} (c : ℕ) (f : Reader A) (a : A) (cs rest : List ℕ) → and_then (expect c cs) (λ _. f) ≡ Ok (a, rest) → (ds : List ℕ) × (cs ≡ c ∷ ds) × (f ds ≡ Ok (a, rest))
past c f a cs rest h = let p = in_turn (expect c cs) (λ _. f) a rest h in (p.0.1, expected c cs p.0.1 p.1, p.2)

past_number : {A : Type 0} (f : ℕ → Reader A) (a : A) (cs rest : List ℕ) → and_then (number cs) f ≡ Ok (a, rest)
    → (n : ℕ) × (ds : List ℕ) × (cs ≡ decimal n ++ ds) × NumberFits n × (f n ds ≡ Ok (a, rest))
past_number f a cs rest h =
    let p = in_turn (number cs) f a rest h in
    let n = number_is p.0.0 cs p.0.1 p.1 in
    (p.0.0, p.0.1, n.0, n.1, p.2)

past_name : {A : Type 0} (f : Name → Reader A) (a : A) (cs rest : List ℕ) → and_then (name cs) f ≡ Ok (a, rest)
    → (n : Name) × (ds : List ℕ) × (cs ≡ encode_utf8_all n ++ ds) × (is_name_token n ≡ true) × (f n ds ≡ Ok (a, rest))
past_name f a cs rest h =
    let p = in_turn (name cs) f a rest h in
    let n = name_is p.0.0 cs p.0.1 p.1 in
    (p.0.0, p.0.1, n.0, n.1, p.2)

past_back : {A : Type 0} (c : ℕ) (f : Reader A) (ds : List ℕ) → c == c ≡ true → and_then (expect c (c ∷ ds)) (λ _. f) ≡ f ds
past_back c f ds same = after (expect c (c ∷ ds)) tt ds (λ _. f) (expect_next c ds same)

number_back : {A : Type 0} (f : ℕ → Reader A) (n : ℕ) (ds : List ℕ) → NumberFits n → sees_digit ds ≡ false → and_then (number (decimal n ++ ds)) f ≡ f n ds
number_back f n ds fits stops = after (number (decimal n ++ ds)) n ds f (number_read n ds fits stops)

name_back : {A : Type 0} (f : Name → Reader A) (n : Name) (ds : List ℕ) → is_name_token n ≡ true → and_then (name (encode_utf8_all n ++ (32 ∷ ds))) f ≡ f n (32 ∷ ds)
name_back f n ds is = after (name (encode_utf8_all n ++ (32 ∷ ds))) n (32 ∷ ds) f (name_read n (32 ∷ ds) is refl)

-- a space and the number at the end
abbrev last : {A : Type 0} → (ℕ → A) → Reader A
last make = expect 32 >>= (λ _. number >>= (λ p. pure (make p)))

last_is : {A : Type 0} (make : ℕ → A) (a : A) (cs rest : List ℕ) → last make cs ≡ Ok (a, rest) → (p : ℕ) × (make p ≡ a) × (cs ≡ last_number p rest) × NumberFits p
last_is make a cs rest h =
    let s = past 32 (number >>= (λ p. pure (make p))) a cs rest h in
    let n = past_number (λ p. pure (make p)) a s.0 rest s.2 in
    let e = ok_ok (make n.0, n.1) (a, rest) n.4 in
    (n.0, ap (λ x. x.0) e, s.1 ∙ ap (λ x. 32 ∷ x) (n.2 ∙ ap (λ x. decimal n.0 ++ x.1) e), n.3)

last_back : {A : Type 0} (make : ℕ → A) (p : ℕ) → NumberFits p → last make (last_number p []) ≡ Ok (make p, [])
last_back make p fits = past_back 32 (number >>= (λ p. pure (make p))) (decimal p ++ []) refl ∙ number_back (λ p. pure (make p)) p [] fits refl

-- ---- each kind of line
abbrev name_last : {A : Type 0} → (Name → ℕ → A) → Reader A
name_last make = expect 32 >>= (λ _. name >>= (λ n. last (make n)))

name_last_is : {A : Type 0} (make : Name → ℕ → A) (a : A) (cs rest : List ℕ) → name_last make cs ≡ Ok (a, rest)
    → (n : Name) × (p : ℕ) × (make n p ≡ a) × (cs ≡ named_number n p rest) × (is_name_token n ≡ true) × NumberFits p
name_last_is make a cs rest h =
    let s = past 32 (name >>= (λ n. last (make n))) a cs rest h in
    let n = past_name (λ n. last (make n)) a s.0 rest s.2 in
    let p = last_is (make n.0) a n.1 rest n.4 in
    (n.0, p.0, p.1, s.1 ∙ ap (λ x. 32 ∷ x) (n.2 ∙ ap (λ x. encode_utf8_all n.0 ++ x) p.2), n.3, p.3)

name_last_back : {A : Type 0} (make : Name → ℕ → A) (n : Name) (p : ℕ) → is_name_token n ≡ true → NumberFits p → name_last make (named_number n p []) ≡ Ok (make n p, [])
name_last_back make n p is fits =
    past_back 32 (name >>= (λ n. last (make n))) (encode_utf8_all n ++ last_number p []) refl
    ∙ name_back (λ n. last (make n)) n (decimal p ++ []) is ∙ last_back (make n) p fits

pub variable_is : (i : Item) (cs : List ℕ) → variable cs ≡ Ok (i, []) → IsLineOf is_name_token cs i
unfolding variable
variable_is i cs h =
    let s = past 86 (expect 32 >>= (λ _. number >>= (λ v. name_last (a_variable v)))) i cs [] h in
    let t = past 32 (number >>= (λ v. name_last (a_variable v))) i s.0 [] s.2 in
    let v = past_number (λ v. name_last (a_variable v)) i t.0 [] t.2 in
    let n = name_last_is (a_variable v.0) i v.1 [] v.4 in
    subst (IsLineOf is_name_token cs) n.2 (
      (v.3, n.4, n.5),
      s.1 ∙ ap (λ x. 86 ∷ x) (t.1 ∙ ap (λ x. 32 ∷ x) (v.2 ∙ ap (λ x. decimal v.0 ++ x) n.3)) ∙ sym (variable_line v.0 n.0 n.1 v.3 n.5),
    )

pub variable_back : (v : ℕ) (n : Name) (p : ℕ) → NumberFits v → is_name_token n ≡ true → NumberFits p → variable (encode_utf8_all (line_text (a_variable v n p))) ≡ Ok (a_variable v n p, [])
unfolding variable
variable_back v n p first is second =
    ap variable (variable_line v n p first second)
    ∙ past_back 86 (expect 32 >>= (λ _. number >>= (λ v. name_last (a_variable v)))) (32 ∷ (decimal v ++ named_number n p [])) refl
    ∙ past_back 32 (number >>= (λ v. name_last (a_variable v))) (decimal v ++ named_number n p []) refl
    ∙ number_back (λ v. name_last (a_variable v)) v (named_number n p []) first refl
    ∙ name_last_back (a_variable v) n p is second

pub metavariable_is : (i : Item) (cs : List ℕ) → metavariable cs ≡ Ok (i, []) → IsLineOf is_name_token cs i
unfolding metavariable
metavariable_is i cs h =
    let s = past 77 (name_last a_metavariable) i cs [] h in
    let n = name_last_is a_metavariable i s.0 [] s.2 in
    subst (IsLineOf is_name_token cs) n.2 ((n.4, n.5), s.1 ∙ ap (λ x. 77 ∷ x) n.3 ∙ sym (metavariable_line n.0 n.1 n.5))

pub metavariable_back : (n : Name) (p : ℕ) → is_name_token n ≡ true → NumberFits p → metavariable (encode_utf8_all (line_text (a_metavariable n p))) ≡ Ok (a_metavariable n p, [])
unfolding metavariable
metavariable_back n p is fits =
    ap metavariable (metavariable_line n p fits) ∙ past_back 77 (name_last a_metavariable) (named_number n p []) refl ∙ name_last_back a_metavariable n p is fits

pub mark_is : (i : Item) (cs : List ℕ) → mark cs ≡ Ok (i, []) → IsLineOf is_name_token cs i
unfolding mark
mark_is i cs h =
    let s = past 87 (last a_mark) i cs [] h in
    let p = last_is a_mark i s.0 [] s.2 in
    subst (IsLineOf is_name_token cs) p.1 (p.3, s.1 ∙ ap (λ x. 87 ∷ x) p.2 ∙ sym (mark_line p.0 p.3))

pub mark_back : (p : ℕ) → NumberFits p → mark (encode_utf8_all (line_text (a_mark p))) ≡ Ok (a_mark p, [])
unfolding mark
mark_back p fits = ap mark (mark_line p fits) ∙ past_back 87 (last a_mark) (last_number p []) refl ∙ last_back a_mark p fits

-- ---- rules
abbrev PremisesFound : List ℕ → List ℕ → List ℕ → List ℕ → Type 0
PremisesFound found all cs rest = (ms : List ℕ) × (all ≡ found ++ ms) × (cs ≡ premise_bytes ms rest) × EachNumberFits ms

premises_are : (k : ℕ) (found all : List ℕ) (cs rest : List ℕ) → premises_from k found cs ≡ Ok (all, rest) → PremisesFound found all cs rest
unfolding premises_from
premises_are zero found all cs rest h = absurd (err_ok Form (all, rest) h)
premises_are (suc k) found all cs rest h =
    let go_on : Reader (List ℕ) = number >>= (λ m. premises_from k (found ++ m ∷ [])) in
    let stop : Reader (List ℕ) = pure found in
    let s = past 32 (λ ds. (if sees 59 ds then stop else go_on) (if sees 59 ds then drop 1 ds else ds)) all cs rest h in
    by_test (sees 59 s.0)
    (λ y. let e = ok_ok (found, drop 1 s.0) (all, rest) (taken_both stop go_on (drop 1 s.0) s.0 (sees 59 s.0) y s.2) in
    ([], sym (ap (λ x. x.0) e) ∙ sym (append-nil found), s.1 ∙ ap (λ x. 32 ∷ x) (sees_is 59 s.0 y ∙ ap (λ x. 59 ∷ x.1) e), tt))
    (λ n. let m = past_number (λ m. premises_from k (found ++ m ∷ [])) all s.0 rest (not_taken_both stop go_on (drop 1 s.0) s.0 (sees 59 s.0) n s.2) in
    let f = premises_are k (found ++ m.0 ∷ []) all m.1 rest m.4 in
    (m.0 ∷ f.0, f.1 ∙ append_assoc found (m.0 ∷ []) f.0, s.1 ∙ ap (λ x. 32 ∷ x) (m.2 ∙ ap (λ x. decimal m.0 ++ x) f.2), (m.3, f.3)))

sees_mark : (cs : List ℕ) → sees 59 (59 ∷ cs) ≡ true
unfolding sees
sees_mark cs = refl

premises_end : (k : ℕ) (found : List ℕ) (rest : List ℕ) → premises_from (suc k) found (32 ∷ 59 ∷ rest) ≡ Ok (found, rest)
unfolding premises_from
premises_end k found rest =
    let go_on : Reader (List ℕ) = number >>= (λ m. premises_from k (found ++ m ∷ [])) in
    let stop : Reader (List ℕ) = pure found in
    past_back 32 (λ ds. (if sees 59 ds then stop else go_on) (if sees 59 ds then drop 1 ds else ds)) (59 ∷ rest) refl
    ∙ ap (λ b. (if b then stop else go_on) (if b then rest else 59 ∷ rest)) (sees_mark rest)

premises_on : (k : ℕ) (found : List ℕ) (m : ℕ) (ds : List ℕ) → NumberFits m → sees_digit ds ≡ false
    → premises_from (suc k) found (32 ∷ (decimal m ++ ds)) ≡ premises_from k (found ++ m ∷ []) ds
unfolding premises_from
premises_on k found m ds fits stops =
    let go_on : Reader (List ℕ) = number >>= (λ m. premises_from k (found ++ m ∷ [])) in
    let stop : Reader (List ℕ) = pure found in
    let es = decimal m ++ ds in
    past_back 32 (λ ds. (if sees 59 ds then stop else go_on) (if sees 59 ds then drop 1 ds else ds)) es refl
    ∙ ap (λ b. (if b then stop else go_on) (if b then drop 1 es else es)) (sees_none 59 m ds fits refl)
    ∙ number_back (λ m. premises_from k (found ++ m ∷ [])) m ds fits stops

no_digit : (ms : List ℕ) (rest : List ℕ) → sees_digit (premise_bytes ms rest) ≡ false
no_digit [] rest = refl
no_digit (m ∷ ms) rest = refl

premises_read : (k : ℕ) (found ms : List ℕ) (rest : List ℕ) → length ms < k → EachNumberFits ms → premises_from k found (premise_bytes ms rest) ≡ Ok (found ++ ms, rest)
premises_read zero found ms rest few each = absurd (omega (arith, few))
premises_read (suc k) found [] rest few each = premises_end k found rest ∙ ap (λ x. Ok (x, rest)) (sym (append-nil found))
premises_read (suc k) found (m ∷ ms) rest few each =
    premises_on k found m (premise_bytes ms rest) each.0 (no_digit ms rest)
    ∙ premises_read k (found ++ m ∷ []) ms rest (omega (arith, few)) each.1
    ∙ ap (λ xs. Ok (xs, rest)) (append_assoc found (m ∷ []) ms)

few_premises : (ms rest : List ℕ) → length ms < length (premise_bytes ms rest)
few_premises [] rest = omega arith
few_premises (m ∷ ms) rest =
    let l = few_premises ms rest in
    let e = length-append (decimal m) (premise_bytes ms rest) in
    omega (arith, l, e)

premises_back : (ms rest : List ℕ) → EachNumberFits ms → premises (premise_bytes ms rest) ≡ Ok (ms, rest)
premises_back ms rest each = premises_read (length (premise_bytes ms rest)) [] ms rest (few_premises ms rest) each

pub rule_is : (i : Item) (cs : List ℕ) → rule cs ≡ Ok (i, []) → IsLineOf is_name_token cs i
unfolding rule
rule_is i cs h =
    let s = past 82 (expect 32 >>= (λ _. name >>= (λ n. premises >>= (λ ms. last (a_rule n ms))))) i cs [] h in
    let t = past 32 (name >>= (λ n. premises >>= (λ ms. last (a_rule n ms)))) i s.0 [] s.2 in
    let n = past_name (λ n. premises >>= (λ ms. last (a_rule n ms))) i t.0 [] t.2 in
    let m = in_turn (premises n.1) (λ ms. last (a_rule n.0 ms)) i [] n.4 in
    let f = premises_are (length n.1) [] m.0.0 n.1 m.0.1 m.1 in
    let p = last_is (a_rule n.0 m.0.0) i m.0.1 [] m.2 in
    subst (IsLineOf is_name_token cs) (ap (λ ms. a_rule n.0 ms p.0) (sym f.1) ∙ p.1) (
      (n.3, f.3, p.3),
      s.1 ∙ ap (λ x. 82 ∷ x) (t.1 ∙ ap (λ x. 32 ∷ x) (n.2 ∙ ap (λ x. encode_utf8_all n.0 ++ x) (f.2 ∙ ap (premise_bytes f.0) p.2))) ∙ sym (rule_line n.0 f.0 p.0 f.3 p.3),
    )

-- the metavariables begin with a space
premises_begin : (ms rest : List ℕ) → (ds : List ℕ) × (premise_bytes ms rest ≡ 32 ∷ ds)
premises_begin [] rest = (59 ∷ rest, refl)
premises_begin (m ∷ ms) rest = (decimal m ++ premise_bytes ms rest, refl)

pub rule_back : (n : Name) (ms : List ℕ) (p : ℕ) → is_name_token n ≡ true → EachNumberFits ms → NumberFits p → rule (encode_utf8_all (line_text (a_rule n ms p))) ≡ Ok (a_rule n ms p, [])
unfolding rule
rule_back n ms p is each fits =
    let us = premise_bytes ms (last_number p []) in
    let b = premises_begin ms (last_number p []) in
    let further : Name → Reader Item = λ n. premises >>= (λ ms. last (a_rule n ms)) in
    ap rule (rule_line n ms p each fits)
    ∙ past_back 82 (expect 32 >>= (λ _. name >>= further)) (32 ∷ (encode_utf8_all n ++ us)) refl
    ∙ past_back 32 (name >>= further) (encode_utf8_all n ++ us) refl
    ∙ ap (λ x. and_then (name (encode_utf8_all n ++ x)) further) b.1
    ∙ name_back further n b.0 is
    ∙ ap (further n) (sym b.1)
    ∙ after (premises us) ms (last_number p []) (λ ms. last (a_rule n ms)) (premises_back ms (last_number p []) each)
    ∙ last_back (a_rule n ms) p fits
