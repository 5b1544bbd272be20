-- Sets of atoms: what is read is the text, and the text is read.
use Rattle.std.proofs.Common.{◌≡◌, ◌∙◌, sym, ap, refl, subst, ℕ, zero, suc, ◌≤◌, ◌<◌, List, [], ◌∷◌, ◌++◌, length, map, take, drop, Ok, Err, Option, Some, None, true, false, if◌then◌else◌, append_assoc, append-nil, arith}
use lib.ListN.{length-append}
use Rattle.std.specs.Prelude.{codes}
use Rattle.std.specs.Fmt.{decimal}
use Rattle.std.proofs.lemmas.List.{length-map, map-append, take-append-drop}
use Rattle.ft_items.specs.Sets.{Atom as AnyAtom, met, var, precedes, same_atom, insert, union, PrecedesAll, Ascending}
use Rattle.ft_items.specs.Texts.{joined, atom_text, set_text, AtomFits, EachAtomFits}
use Rattle.ft_items.proofs.SetLemmas.{by_atom, precedes_trans, irreflexive}
use Rattle.ft_texts.proofs.Expressions.{further}
use Rattle.ft_assume.specs.Atoms.{atom_of, atoms_of}
use Rattle.ft_assume.specs.declared.atom.Atom.{Atom}
use Rattle.ft_assume.specs.declared.atom.Atom.TheVariants.{Met, Var}
use Rattle.ft_lines.specs.declared.fault.Fault.TheVariants.{Form}
use Rattle.ft_lines.specs.Reading.{Outcome, Reader, ◌>>=◌, and_then, pure, refuse, sees, sees_digit, passes, expect, number}
use Rattle.ft_lines.specs.Sets.{atom, follows, atoms_from, listed, set}
use Rattle.ft_lines.proofs.Numbers.{number_read}
use Rattle.ft_common.proofs.Choices.{by_test, taken, not_taken}
use Rattle.ft_common.proofs.Results.{err_ok, ok_ok}
use Rattle.ft_lines.proofs.Chains.{in_turn, after, taken_both, not_taken_both, taken_reader, not_taken_reader, sees_is, expected, numbered, further_length}

-- ---- sets by halves
before_front : (a : AnyAtom) (X Y : List AnyAtom) → PrecedesAll a (X ++ Y) → PrecedesAll a X
before_front a [] Y h = tt
before_front a (b ∷ X) Y h = (h.0, before_front a X Y h.1)

ascending_front : (X Y : List AnyAtom) → Ascending (X ++ Y) → Ascending X
ascending_front [] Y h = tt
ascending_front (a ∷ X) Y h = (before_front a X Y h.0, ascending_front X Y h.1)

ascending_back : (X Y : List AnyAtom) → Ascending (X ++ Y) → Ascending Y
ascending_back [] Y h = h
ascending_back (a ∷ X) Y h = ascending_back X Y h.1

other_atom : (a b : AnyAtom) → precedes a b ≡ true → same_atom a b ≡ false
other_atom a b h = by_atom (same_atom a b ≡ false) a b (λ t e. absurd (irreflexive a (subst (λ x. precedes a x ≡ true) (sym e) h))) (λ f n. f)

insert_before : (a : AnyAtom) (S : List AnyAtom) → PrecedesAll a S → insert a S ≡ a ∷ S
insert_before a [] h = refl
insert_before a (b ∷ S) h = rw (other_atom a b h.0, h.0) refl

union_front : (X Y : List AnyAtom) → Ascending (X ++ Y) → union X Y ≡ X ++ Y
union_front [] Y h = refl
union_front (a ∷ X) Y h = ap (insert a) (union_front X Y h.1) ∙ insert_before a (X ++ Y) h.0

halves : (k : ℕ) (S : List Atom) → atoms_of (take k S) ++ atoms_of (drop k S) ≡ atoms_of S
halves k S = sym (map-append atom_of (take k S) (drop k S)) ∙ ap atoms_of (take-append-drop k S)

pub ascending_take : (k : ℕ) (S : List Atom) → Ascending (atoms_of S) → Ascending (atoms_of (take k S))
ascending_take k S h = ascending_front (atoms_of (take k S)) (atoms_of (drop k S)) (subst Ascending (sym (halves k S)) h)

pub ascending_drop : (k : ℕ) (S : List Atom) → Ascending (atoms_of S) → Ascending (atoms_of (drop k S))
ascending_drop k S h = ascending_back (atoms_of (take k S)) (atoms_of (drop k S)) (subst Ascending (sym (halves k S)) h)

pub union_halves : (k : ℕ) (S : List Atom) → Ascending (atoms_of S) → union (atoms_of (take k S)) (atoms_of (drop k S)) ≡ atoms_of S
union_halves k S h = union_front (atoms_of (take k S)) (atoms_of (drop k S)) (subst Ascending (sym (halves k S)) h) ∙ halves k S

-- ---- lists where each atom follows the one before
abbrev pub InOrder : Option Atom → List Atom → Type 0
InOrder last [] = Unit {0}
InOrder last (a ∷ as') = (follows last a ≡ true) × InOrder (Some a) as'

before_each : (b a : Atom) (as' : List Atom) → precedes (atom_of b) (atom_of a) ≡ true → PrecedesAll (atom_of a) (atoms_of as') → PrecedesAll (atom_of b) (atoms_of as')
before_each b a [] h all = tt
before_each b a (c ∷ as') h all = (precedes_trans (atom_of b) (atom_of a) (atom_of c) h all.0, before_each b a as' h all.1)

order_before : (a : Atom) (as' : List Atom) → InOrder (Some a) as' → PrecedesAll (atom_of a) (atoms_of as')
order_before a [] h = tt
order_before a (b ∷ as') h = (h.0, before_each a b as' h.0 (order_before b as' h.1))

pub order_ascending : (last : Option Atom) (as' : List Atom) → InOrder last as' → Ascending (atoms_of as')
order_ascending last [] h = tt
order_ascending last (a ∷ as') h = (order_before a as' h.1, order_ascending (Some a) as' h.1)

ascending_after : (a : Atom) (as' : List Atom) → PrecedesAll (atom_of a) (atoms_of as') → Ascending (atoms_of as') → InOrder (Some a) as'
ascending_after a [] p h = tt
ascending_after a (b ∷ as') p h = (p.0, ascending_after b as' h.0 h.1)

ascending_order : (as' : List Atom) → Ascending (atoms_of as') → InOrder None as'
ascending_order [] h = tt
ascending_order (a ∷ as') h = (refl, ascending_after a as' h.0 h.1)

-- ---- what is read is the text
abbrev pub text_of_atom : Atom → List ℕ
text_of_atom a = atom_text (atom_of a)

atom_is : (a : Atom) (cs rest : List ℕ) → atom cs ≡ Ok (a, rest) → (cs ≡ text_of_atom a ++ rest) × AtomFits (atom_of a)
unfolding atom
atom_is a cs rest h =
    let first : Outcome Atom = and_then (number (drop 1 cs)) (λ m ds. Ok (Met m, ds)) in
    let second : Outcome Atom = and_then (number (drop 1 cs)) (λ v ds. Ok (Var v, ds)) in
    let third : Outcome Atom = Err Form in
    let later : Outcome Atom = if sees 118 cs then second else third in
    by_test (sees 109 cs)
    (λ y. let p = numbered Met (drop 1 cs) rest a (taken first later (sees 109 cs) y h) in
    subst (λ b. (cs ≡ text_of_atom b ++ rest) × AtomFits (atom_of b)) p.1 (sees_is 109 cs y ∙ ap (λ ds. 109 ∷ ds) p.2, p.3))
    (λ n. by_test (sees 118 cs)
    (λ y. let p = numbered Var (drop 1 cs) rest a (taken second third (sees 118 cs) y (not_taken first later (sees 109 cs) n h)) in
    subst (λ b. (cs ≡ text_of_atom b ++ rest) × AtomFits (atom_of b)) p.1 (sees_is 118 cs y ∙ ap (λ ds. 118 ∷ ds) p.2, p.3))
    (λ m. absurd (err_ok Form (a, rest) (not_taken second third (sees 118 cs) m (not_taken first later (sees 109 cs) n h)))))

abbrev pub AtomsFound : Option Atom → List Atom → List Atom → List ℕ → List ℕ → Type 0
AtomsFound last found all cs rest = (a : Atom) × (as' : List Atom) × (all ≡ found ++ a ∷ as') × (cs ≡ (text_of_atom a ++ further (map text_of_atom as')) ++ rest)
    × InOrder last (a ∷ as') × EachAtomFits (atoms_of (a ∷ as'))

atoms_are : (n : ℕ) (last : Option Atom) (found all : List Atom) (cs rest : List ℕ) → atoms_from n last found cs ≡ Ok (all, rest) → AtomsFound last found all cs rest
unfolding atoms_from
atoms_are zero last found all cs rest h = absurd (err_ok Form (all, rest) h)
atoms_are (suc n) last found all cs rest h =
    let p = in_turn (atom cs) (λ a. if follows last a then (passes 44 >>= (λ more. if more then atoms_from n (Some a) (found ++ a ∷ []) else pure (found ++ a ∷ []))) else refuse) all rest h in
    let a = p.0.0 in
    let ds = p.0.1 in
    let is = atom_is a cs ds p.1 in
    let go_on : Reader (List Atom) = atoms_from n (Some a) (found ++ a ∷ []) in
    let stop : Reader (List Atom) = pure (found ++ a ∷ []) in
    let next : Reader (List Atom) = passes 44 >>= (λ more. if more then go_on else stop) in
    by_test (follows last a)
    (λ y. let q : next ds ≡ Ok (all, rest) = taken_reader next refuse ds (follows last a) y p.2 in
    by_test (sees 44 ds)
    (λ more. let f = atoms_are n (Some a) (found ++ a ∷ []) all (drop 1 ds) rest (taken_both go_on stop (drop 1 ds) ds (sees 44 ds) more q) in (
      a,
      f.0 ∷ f.1,
      f.2 ∙ append_assoc found (a ∷ []) (f.0 ∷ f.1),
      is.0 ∙ ap (λ x. text_of_atom a ++ x) (sees_is 44 ds more ∙ ap (λ x. 44 ∷ x) f.3) ∙ sym (append_assoc (text_of_atom a) (further (map text_of_atom (f.0 ∷ f.1))) rest),
      (y, f.4),
      (is.1, f.5),
    ))
    (λ no. let e = ok_ok (found ++ a ∷ [], ds) (all, rest) (not_taken_both go_on stop (drop 1 ds) ds (sees 44 ds) no q) in
    (a, [], sym (ap (λ x. x.0) e), is.0 ∙ ap (λ x. text_of_atom a ++ x.1) e ∙ ap (λ x. x ++ rest) (sym (append-nil (text_of_atom a))), (y, tt), (is.1, tt))))
    (λ n. absurd (err_ok Form (all, rest) (not_taken_reader next refuse ds (follows last a) n p.2)))

-- the text of a list in brackets, before what follows
abbrev pub listed_text : List Atom → List ℕ
listed_text as' = codes "[" ++ joined (codes ",") (map text_of_atom as') ++ codes "]"

listed_then : (a : Atom) (as' : List Atom) (rest : List ℕ) → listed_text (a ∷ as') ++ rest ≡ 91 ∷ ((text_of_atom a ++ further (map text_of_atom as')) ++ (93 ∷ rest))
listed_then a as' rest = ap (λ x. 91 ∷ x) (append_assoc (text_of_atom a ++ further (map text_of_atom as')) (93 ∷ []) rest)

abbrev pub ListedIs : List Atom → List ℕ → List ℕ → Type 0
ListedIs found cs rest = (cs ≡ listed_text found ++ rest) × InOrder None found × EachAtomFits (atoms_of found)

listed_is : (found : List Atom) (cs rest : List ℕ) → listed cs ≡ Ok (found, rest) → ListedIs found cs rest
unfolding listed
listed_is found cs rest h =
    let some : Reader (List Atom) = (λ us. atoms_from (length us) None [] us) >>= (λ f. expect 93 >>= (λ _. pure f)) in
    let none : Reader (List Atom) = pure [] in
    let p = in_turn (expect 91 cs) (λ _. passes 93 >>= (λ e. if e then none else some)) found rest h in
    let us = p.0.1 in
    let opened : cs ≡ 91 ∷ us = expected 91 cs us p.1 in
    by_test (sees 93 us)
    (λ y. let e = ok_ok ([], drop 1 us) (found, rest) (taken_both none some (drop 1 us) us (sees 93 us) y p.2) in
    subst (λ f. ListedIs f cs rest) (ap (λ x. x.0) e) (opened ∙ ap (λ x. 91 ∷ x) (sees_is 93 us y ∙ ap (λ x. 93 ∷ x.1) e), tt, tt))
    (λ n. let q = in_turn (atoms_from (length us) None [] us) (λ f. expect 93 >>= (λ _. pure f)) found rest (not_taken_both none some (drop 1 us) us (sees 93 us) n p.2) in
    let r = in_turn (expect 93 q.0.1) (λ _. pure q.0.0) found rest q.2 in
    let e = ok_ok (q.0.0, r.0.1) (found, rest) r.2 in
    let f = atoms_are (length us) None [] q.0.0 us q.0.1 q.1 in
    let closed : q.0.1 ≡ 93 ∷ rest = expected 93 q.0.1 r.0.1 r.1 ∙ ap (λ x. 93 ∷ x.1) e in
    let whole : cs ≡ listed_text (f.0 ∷ f.1) ++ rest = opened ∙ ap (λ x. 91 ∷ x) (f.3 ∙ ap (λ x. (text_of_atom f.0 ++ further (map text_of_atom f.1)) ++ x) closed) ∙ sym (listed_then f.0 f.1 rest) in
    subst (λ g. ListedIs g cs rest) (sym f.2 ∙ ap (λ x. x.0) e) (whole, f.4, f.5))

pub listed_ascending : (found : List Atom) (cs rest : List ℕ) → listed cs ≡ Ok (found, rest) → Ascending (atoms_of found)
listed_ascending found cs rest h = order_ascending None found (listed_is found cs rest h).1

texts_same : (as' : List Atom) → map text_of_atom as' ≡ map atom_text (atoms_of as')
texts_same [] = refl
texts_same (a ∷ as') = ap (λ xs. text_of_atom a ∷ xs) (texts_same as')

pub set_is : (S : List AnyAtom) (cs rest : List ℕ) → set cs ≡ Ok (S, rest) → (cs ≡ set_text S ++ rest) × Ascending S × EachAtomFits S
unfolding set
set_is S cs rest h =
    let p = in_turn (listed cs) (λ f. pure (atoms_of f)) S rest h in
    let e = ok_ok (atoms_of p.0.0, p.0.1) (S, rest) p.2 in
    let f = listed_is p.0.0 cs p.0.1 p.1 in
    let same : atoms_of p.0.0 ≡ S = ap (λ x. x.0) e in
    subst (λ R. (cs ≡ set_text R ++ rest) × Ascending R × EachAtomFits R) same
    (f.0 ∙ ap (λ x. listed_text p.0.0 ++ x.1) e ∙ ap (λ xs. ((codes "[" ++ joined (codes ",") xs) ++ codes "]") ++ rest) (texts_same p.0.0), order_ascending None p.0.0 f.1, f.2)

-- ---- the text is read
atom_read : (a : Atom) (rest : List ℕ) → AtomFits (atom_of a) → sees_digit rest ≡ false → atom (text_of_atom a ++ rest) ≡ Ok (a, rest)
unfolding atom sees
atom_read (Met m) rest fits stops = after (number (decimal m ++ rest)) m rest (λ n ds. Ok (Met n, ds)) (number_read m rest fits stops)
atom_read (Var v) rest fits stops = after (number (decimal v ++ rest)) v rest (λ n ds. Ok (Var n, ds)) (number_read v rest fits stops)

atoms_turn : (k : ℕ) (last : Option Atom) (found : List Atom) (a : Atom) (cs ds : List ℕ) → atom cs ≡ Ok (a, ds) → follows last a ≡ true
    → atoms_from (suc k) last found cs ≡ (if sees 44 ds then atoms_from k (Some a) (found ++ a ∷ []) else pure (found ++ a ∷ [])) (if sees 44 ds then drop 1 ds else ds)
unfolding atoms_from
atoms_turn k last found a cs ds h f = rw (h, f) refl

digit_after : (xs : List (List ℕ)) (rest : List ℕ) → sees_digit rest ≡ false → sees_digit (further xs ++ rest) ≡ false
digit_after [] rest h = h
digit_after (x ∷ xs) rest h = refl

atoms_read : (n : ℕ) (last : Option Atom) (found : List Atom) (a : Atom) (as' : List Atom) (rest : List ℕ) → length as' < n → InOrder last (a ∷ as') → EachAtomFits (atoms_of (a ∷ as'))
    → sees 44 rest ≡ false → sees_digit rest ≡ false → atoms_from n last found ((text_of_atom a ++ further (map text_of_atom as')) ++ rest) ≡ Ok (found ++ a ∷ as', rest)
unfolding sees
atoms_read zero last found a as' rest few order fit stops plain = absurd (omega (arith, few))
atoms_read (suc k) last found a [] rest few order fit stops plain =
    ap (λ x. atoms_from (suc k) last found (x ++ rest)) (append-nil (text_of_atom a))
    ∙ atoms_turn k last found a (text_of_atom a ++ rest) rest (atom_read a rest fit.0 plain) order.0
    ∙ rw stops refl
atoms_read (suc k) last found a (b ∷ bs) rest few order fit stops plain =
    let ds = further (map text_of_atom (b ∷ bs)) ++ rest in
    ap (atoms_from (suc k) last found) (append_assoc (text_of_atom a) (further (map text_of_atom (b ∷ bs))) rest)
    ∙ atoms_turn k last found a (text_of_atom a ++ ds) ds (atom_read a ds fit.0 refl) order.0
    ∙ atoms_read k (Some a) (found ++ a ∷ []) b bs rest (omega (arith, few)) order.1 fit.1 stops plain
    ∙ ap (λ xs. Ok (xs, rest)) (append_assoc found (a ∷ []) (b ∷ bs))

abbrev value_of_atom : AnyAtom → Atom
value_of_atom (met m) = Met m
value_of_atom (var v) = Var v

atoms_back : (S : List AnyAtom) → atoms_of (map value_of_atom S) ≡ S
atoms_back [] = refl
atoms_back (met m ∷ S) = ap (λ R. met m ∷ R) (atoms_back S)
atoms_back (var v ∷ S) = ap (λ R. var v ∷ R) (atoms_back S)

listed_some : (us rest : List ℕ) (found : List Atom) → sees 93 us ≡ false → atoms_from (length us) None [] us ≡ Ok (found, 93 ∷ rest) → listed (91 ∷ us) ≡ Ok (found, rest)
unfolding listed expect sees
listed_some us rest found s h = rw (s, h) refl

letter_first : (a : Atom) (ys zs : List ℕ) → sees 93 ((text_of_atom a ++ ys) ++ zs) ≡ false
unfolding sees
letter_first (Met m) ys zs = refl
letter_first (Var v) ys zs = refl

letter_counts : (a : Atom) → 1 ≤ length (text_of_atom a)
letter_counts (Met m) = omega arith
letter_counts (Var v) = omega arith

listed_few : (a : Atom) (as' : List Atom) (r : List ℕ) → length as' < length ((text_of_atom a ++ further (map text_of_atom as')) ++ r)
listed_few a as' r =
    let f = further (map text_of_atom as') in
    let l = further_length (map text_of_atom as') r in
    let n = length-map as' text_of_atom in
    let e : length ((text_of_atom a ++ f) ++ r) ≡ length (text_of_atom a ++ (f ++ r)) = ap length (append_assoc (text_of_atom a) f r) in
    let m = length-append (text_of_atom a) (f ++ r) in
    let k = letter_counts a in
    omega (arith, l, n, e, m, k)

listed_read : (as' : List Atom) (rest : List ℕ) → InOrder None as' → EachAtomFits (atoms_of as') → listed (listed_text as' ++ rest) ≡ Ok (as', rest)
unfolding listed expect sees
listed_read [] rest order fit = refl
listed_read (a ∷ as') rest order fit =
    let us = (text_of_atom a ++ further (map text_of_atom as')) ++ (93 ∷ rest) in
    ap listed (listed_then a as' rest)
    ∙ listed_some us rest (a ∷ as') (letter_first a (further (map text_of_atom as')) (93 ∷ rest))
    (atoms_read (length us) None [] a as' (93 ∷ rest) (listed_few a as' (93 ∷ rest)) order fit refl refl)

pub set_read : (S : List AnyAtom) (rest : List ℕ) → Ascending S → EachAtomFits S → set (set_text S ++ rest) ≡ Ok (S, rest)
unfolding set
set_read S rest up fit =
    let as' = map value_of_atom S in
    let back = atoms_back S in
    let order = ascending_order as' (subst Ascending (sym back) up) in
    let all = after (listed (listed_text as' ++ rest)) as' rest (λ f. pure (atoms_of f)) (listed_read as' rest order (subst EachAtomFits (sym back) fit)) in
    let same : listed_text as' ≡ set_text S = ap (λ xs. (codes "[" ++ joined (codes ",") xs) ++ codes "]") (texts_same as' ∙ ap (map atom_text) back) in
    sym (ap (λ x. set (x ++ rest)) same) ∙ all ∙ ap (λ R. Ok (R, rest)) back
