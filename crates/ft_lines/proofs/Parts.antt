-- The parts of a step: what is read is the text, and the text is read.
use Rattle.std.proofs.Common.{◌≡◌, ◌∙◌, sym, ap, refl, subst, ℕ, zero, suc, ◌≤◌, List, [], ◌∷◌, ◌++◌, length, map, drop, Ok, true, false, append_assoc, append-nil, arith}
use lib.ListN.{length-append}
use Rattle.ft_items.specs.Texts.{part_text, NumberFits, PartsFit}
use Rattle.ft_lines.specs.declared.steps.Part.{Part}
use Rattle.ft_lines.specs.declared.steps.Part.TheVariants.{Number, Slash}
use Rattle.ft_lines.specs.Reading.{Outcome, Reader, ◌>>=◌, and_then, pure, sees, sees_digit, number}
use Rattle.ft_lines.specs.Steps.{part_of, part, parts_from, parts, parts_text}
use Rattle.ft_lines.proofs.Numbers.{number_read}
use Rattle.ft_common.proofs.Choices.{by_test, taken, not_taken}
use Rattle.ft_common.proofs.Results.{ok_ok}
use Rattle.ft_lines.proofs.Chains.{in_turn, taken_both, not_taken_both, sees_is, sees_none, numbered}

abbrev text_of_part : Part → List ℕ
text_of_part p = part_text (part_of p)

abbrev PartFits : Part → Type 0
PartFits (Number n) = NumberFits n
PartFits Slash = Unit {0}

part_is : (p : Part) (cs rest : List ℕ) → part cs ≡ Ok (p, rest) → (cs ≡ text_of_part p ++ rest) × PartFits p
unfolding part
part_is p cs rest h =
    let first : Outcome Part = Ok (Slash, drop 1 cs) in
    let second : Outcome Part = and_then (number cs) (λ n ds. Ok (Number n, ds)) in
    by_test (sees 47 cs)
    (λ y. let e = ok_ok (Slash, drop 1 cs) (p, rest) (taken first second (sees 47 cs) y h) in
    subst (λ q. (cs ≡ text_of_part q ++ rest) × PartFits q) (ap (λ x. x.0) e) (sees_is 47 cs y ∙ ap (λ x. 47 ∷ x.1) e, tt))
    (λ m. let q = numbered Number cs rest p (not_taken first second (sees 47 cs) m h) in
    subst (λ q. (cs ≡ text_of_part q ++ rest) × PartFits q) q.1 (q.2, q.3))

sees_slash : (cs : List ℕ) → sees 47 (47 ∷ cs) ≡ true
unfolding sees
sees_slash cs = refl

part_read : (p : Part) (rest : List ℕ) → PartFits p → sees_digit rest ≡ false → part (text_of_part p ++ rest) ≡ Ok (p, rest)
unfolding part
part_read (Number n) rest fits stops = rw (sees_none 47 n rest fits refl, number_read n rest fits stops) refl
part_read Slash rest fits stops = rw (sees_slash rest) refl

-- parts, a space before each
abbrev row : List Part → List ℕ
row ps = parts_text (map part_of ps)

abbrev EachFits : List Part → Type 0
EachFits [] = Unit {0}
EachFits (p ∷ ps) = PartFits p × EachFits ps

row_then : (p : Part) (ps : List Part) (rest : List ℕ) → row (p ∷ ps) ++ rest ≡ 32 ∷ (text_of_part p ++ (row ps ++ rest))
row_then p ps rest = ap (λ x. 32 ∷ x) (append_assoc (text_of_part p) (row ps) rest)

abbrev PartsFound : List Part → List Part → List ℕ → List ℕ → Type 0
PartsFound found all cs rest = (ps : List Part) × (all ≡ found ++ ps) × (cs ≡ row ps ++ rest) × EachFits ps

none_found : (found all : List Part) (cs rest : List ℕ) → ◌≡◌ {A = Outcome (List Part)} (Ok (found, cs)) (Ok (all, rest)) → PartsFound found all cs rest
none_found found all cs rest h =
    let e = ok_ok (found, cs) (all, rest) h in
    ([], sym (ap (λ x. x.0) e) ∙ sym (append-nil found), ap (λ x. x.1) e, tt)

parts_are : (n : ℕ) (found all : List Part) (cs rest : List ℕ) → parts_from n found cs ≡ Ok (all, rest) → PartsFound found all cs rest
unfolding parts_from
parts_are zero found all cs rest h = none_found found all cs rest h
parts_are (suc n) found all cs rest h =
    let go_on : Reader (List Part) = part >>= (λ p. parts_from n (found ++ p ∷ [])) in
    let stop : Reader (List Part) = pure found in
    by_test (sees 32 cs)
    (λ y. let p = in_turn (part (drop 1 cs)) (λ p. parts_from n (found ++ p ∷ [])) all rest (taken_both go_on stop (drop 1 cs) cs (sees 32 cs) y h) in
    let d = part_is p.0.0 (drop 1 cs) p.0.1 p.1 in
    let f = parts_are n (found ++ p.0.0 ∷ []) all p.0.1 rest p.2 in (
      p.0.0 ∷ f.0,
      f.1 ∙ append_assoc found (p.0.0 ∷ []) f.0,
      sees_is 32 cs y ∙ ap (λ x. 32 ∷ x) (d.0 ∙ ap (λ x. text_of_part p.0.0 ++ x) f.2) ∙ sym (row_then p.0.0 f.0 rest),
      (d.1, f.3),
    ))
    (λ m. none_found found all cs rest (not_taken_both go_on stop (drop 1 cs) cs (sees 32 cs) m h))

fits_each : (ps : List Part) → EachFits ps → PartsFit (map part_of ps)
fits_each [] h = tt
fits_each (Number n ∷ ps) h = (h.0, fits_each ps h.1)
fits_each (Slash ∷ ps) h = fits_each ps h.1

each_fits : (ps : List Part) → PartsFit (map part_of ps) → EachFits ps
each_fits [] h = tt
each_fits (Number n ∷ ps) h = (h.0, each_fits ps h.1)
each_fits (Slash ∷ ps) h = (tt, each_fits ps h)

pub parts_is : (ps : List Part) (cs rest : List ℕ) → parts cs ≡ Ok (ps, rest) → (cs ≡ parts_text (map part_of ps) ++ rest) × PartsFit (map part_of ps)
parts_is ps cs rest h =
    let f = parts_are (length cs) [] ps cs rest h in
    (f.2 ∙ ap (λ qs. row qs ++ rest) (sym f.1), subst (λ qs. PartsFit (map part_of qs)) (sym f.1) (fits_each f.0 f.3))

parts_on : (k : ℕ) (found : List Part) (p : Part) (cs ds : List ℕ) → sees 32 cs ≡ true → part (drop 1 cs) ≡ Ok (p, ds) → parts_from (suc k) found cs ≡ parts_from k (found ++ p ∷ []) ds
unfolding parts_from
parts_on k found p cs ds s h = rw (s, h) refl

parts_end : (n : ℕ) (found : List Part) (cs : List ℕ) → sees 32 cs ≡ false → parts_from n found cs ≡ Ok (found, cs)
unfolding parts_from
parts_end zero found cs s = refl
parts_end (suc k) found cs s = rw s refl

no_digit : (ps : List Part) (rest : List ℕ) → sees_digit rest ≡ false → sees_digit (row ps ++ rest) ≡ false
no_digit [] rest h = h
no_digit (p ∷ ps) rest h = refl

sees_space : (cs : List ℕ) → sees 32 (32 ∷ cs) ≡ true
unfolding sees
sees_space cs = refl

parts_read : (n : ℕ) (found ps : List Part) (rest : List ℕ) → length ps ≤ n → EachFits ps → sees 32 rest ≡ false → sees_digit rest ≡ false → parts_from n found (row ps ++ rest) ≡ Ok (found ++ ps, rest)
parts_read n found [] rest few fits stops plain = parts_end n found rest stops ∙ ap (λ x. Ok (x, rest)) (sym (append-nil found))
parts_read zero found (p ∷ ps) rest few fits stops plain = absurd (omega (arith, few))
parts_read (suc k) found (p ∷ ps) rest few fits stops plain =
    ap (parts_from (suc k) found) (row_then p ps rest)
    ∙ parts_on k found p (32 ∷ (text_of_part p ++ (row ps ++ rest))) (row ps ++ rest) (sees_space (text_of_part p ++ (row ps ++ rest))) (part_read p (row ps ++ rest) fits.0 (no_digit ps rest plain))
    ∙ parts_read k (found ++ p ∷ []) ps rest (omega (arith, few)) fits.1 stops plain
    ∙ ap (λ xs. Ok (xs, rest)) (append_assoc found (p ∷ []) ps)

few_parts : (ps : List Part) (rest : List ℕ) → length ps ≤ length (row ps ++ rest)
few_parts [] rest = omega arith
few_parts (p ∷ ps) rest =
    let l = few_parts ps rest in
    let e : length (row (p ∷ ps) ++ rest) ≡ length (32 ∷ (text_of_part p ++ (row ps ++ rest))) = ap length (row_then p ps rest) in
    let m = length-append (text_of_part p) (row ps ++ rest) in
    omega (arith, l, e, m)

pub parts_back : (ps : List Part) (rest : List ℕ) → PartsFit (map part_of ps) → sees 32 rest ≡ false → sees_digit rest ≡ false → parts (parts_text (map part_of ps) ++ rest) ≡ Ok (ps, rest)
parts_back ps rest fits stops plain = parts_read (length (row ps ++ rest)) [] ps rest (few_parts ps rest) (each_fits ps fits) stops plain
