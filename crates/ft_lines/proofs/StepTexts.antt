-- Steps: what is read is the text, and the text is read.
use Rattle.std.proofs.Common.{◌≡◌, ◌∙◌, sym, ap, ap₂, refl, subst, ℕ, List, [], ◌∷◌, ◌++◌, length, map, take, drop, Ok, Option, Some, None, true, false, append_assoc}
use Rattle.std.specs.List.{list_all}
use Rattle.std.specs.Str.{bytes_eq}
use Rattle.std.proofs.Math.Seq.{take-append_seam, drop-append_seam}
use Rattle.std.proofs.lemmas.List.{take-append-drop}
use Rattle.std.proofs.lemmas.Slice.Eq.{bytes_eq-Decides}
use Rattle.ft_items.specs.Item.{Stated, by_var, by_generic, by_meta, by_metacong, by_abs, by_subst, by_substeq, by_refl, by_sym, by_trans, by_conv, by_conveq, by_left, by_right, by_typeof, by_domain, by_boundary, by_widen, by_btype, by_bterm, by_beqty, by_beqtm, by_rule, by_rulewith, by_inst, by_cong, by_convprem, by_convback, by_arg, by_natural, by_metainst}
use Rattle.ft_items.specs.Texts.{Part as AnyPart, number as any_number, slash, PartsFit, written, step_text, IsOfVersion1}
use Rattle.ft_common.specs.Digits.{run}
use Rattle.ft_lines.specs.declared.words.Word.{Word}
use Rattle.ft_lines.specs.declared.words.Word.TheVariants as word
use Rattle.ft_lines.specs.declared.steps.Part.{Part}
use Rattle.ft_lines.specs.declared.steps.Part.TheVariants.{Number, Slash}
use Rattle.ft_lines.specs.Words.{words, spelling_of, word_of}
use Rattle.ft_lines.specs.Reading.{◌>>=◌, pure, sees, sees_digit}
use Rattle.ft_lines.specs.Steps.{part_of, parts, parts_text, is_letter, sees_letter, word_then, step_word, step, IsWritten}
use Rattle.ft_common.proofs.Lists.{find_passes}
use Rattle.ft_common.proofs.Results.{ok_ok}
use Rattle.ft_lines.proofs.Chains.{in_turn}
use Rattle.ft_lines.proofs.Parts.{parts_is, parts_back}
use Rattle.ft_lines.proofs.Runs.{run_past}

word_of_is : (letters : List ℕ) (w : Word) → word_of letters ≡ Some w → spelling_of w ≡ letters
word_of_is letters w e = (bytes_eq-Decides (spelling_of w) letters).0 (find_passes (λ v. bytes_eq (spelling_of v) letters) words w e)

pub word_of_spelling : (w : Word) → word_of (spelling_of w) ≡ Some w
word_of_spelling word.Var = refl
word_of_spelling word.Generic = refl
word_of_spelling word.Meta = refl
word_of_spelling word.Metacong = refl
word_of_spelling word.Abs = refl
word_of_spelling word.Subst = refl
word_of_spelling word.Substeq = refl
word_of_spelling word.Refl = refl
word_of_spelling word.Sym = refl
word_of_spelling word.Trans = refl
word_of_spelling word.Conv = refl
word_of_spelling word.Conveq = refl
word_of_spelling word.Left = refl
word_of_spelling word.Right = refl
word_of_spelling word.Typeof = refl
word_of_spelling word.Domain = refl
word_of_spelling word.Boundary = refl
word_of_spelling word.Widen = refl
word_of_spelling word.Btype = refl
word_of_spelling word.Bterm = refl
word_of_spelling word.Beqty = refl
word_of_spelling word.Beqtm = refl
word_of_spelling word.Rule = refl
word_of_spelling word.Rulewith = refl
word_of_spelling word.Inst = refl
word_of_spelling word.Cong = refl
word_of_spelling word.Convprem = refl
word_of_spelling word.Convback = refl
word_of_spelling word.Arg = refl
word_of_spelling word.Natural = refl

all_letters : (w : Word) → list_all is_letter (spelling_of w) ≡ true
all_letters word.Var = refl
all_letters word.Generic = refl
all_letters word.Meta = refl
all_letters word.Metacong = refl
all_letters word.Abs = refl
all_letters word.Subst = refl
all_letters word.Substeq = refl
all_letters word.Refl = refl
all_letters word.Sym = refl
all_letters word.Trans = refl
all_letters word.Conv = refl
all_letters word.Conveq = refl
all_letters word.Left = refl
all_letters word.Right = refl
all_letters word.Typeof = refl
all_letters word.Domain = refl
all_letters word.Boundary = refl
all_letters word.Widen = refl
all_letters word.Btype = refl
all_letters word.Bterm = refl
all_letters word.Beqty = refl
all_letters word.Beqtm = refl
all_letters word.Rule = refl
all_letters word.Rulewith = refl
all_letters word.Inst = refl
all_letters word.Cong = refl
all_letters word.Convprem = refl
all_letters word.Convback = refl
all_letters word.Arg = refl
all_letters word.Natural = refl

then_is : (o : Option Word) (cs rest : List ℕ) (w : Word) → word_then o cs ≡ Ok (w, rest) → (o ≡ Some w) × (cs ≡ rest)
then_is None cs rest w h = cc
then_is (Some v) cs rest w h = let e = ok_ok (v, cs) (w, rest) h in (ap (λ p. Some p.0) e, ap (λ p. p.1) e)

step_word_is : (w : Word) (cs rest : List ℕ) → step_word cs ≡ Ok (w, rest) → cs ≡ spelling_of w ++ rest
unfolding step_word
step_word_is w cs rest h =
    let k = run is_letter cs in
    let t = then_is (word_of (take k cs)) (drop k cs) rest w h in
    sym (take-append-drop k cs) ∙ ap (λ x. x ++ drop k cs) (sym (word_of_is (take k cs) w t.0)) ∙ ap (λ x. spelling_of w ++ x) t.1

pub step_is : (w : Word) (ps : List Part) (cs rest : List ℕ) → step cs ≡ Ok ((w, ps), rest) → (cs ≡ (spelling_of w ++ parts_text (map part_of ps)) ++ rest) × PartsFit (map part_of ps)
unfolding step
step_is w ps cs rest h =
    let p = in_turn (step_word cs) (λ v. parts >>= (λ qs. pure (v, qs))) (w, ps) rest h in
    let q = in_turn (parts p.0.1) (λ qs. pure (p.0.0, qs)) (w, ps) rest p.2 in
    let e = ok_ok ((p.0.0, q.0.0), q.0.1) ((w, ps), rest) q.2 in
    let f = step_word_is p.0.0 cs p.0.1 p.1 in
    let g = parts_is q.0.0 p.0.1 q.0.1 q.1 in
    subst (λ r. (cs ≡ (spelling_of r.0.0 ++ parts_text (map part_of r.0.1)) ++ r.1) × PartsFit (map part_of r.0.1)) e
    (f ∙ ap (λ x. spelling_of p.0.0 ++ x) g.0 ∙ sym (append_assoc (spelling_of p.0.0) (parts_text (map part_of q.0.0)) q.0.1), g.1)

-- ---- the text is read
letters_stop : (rest : List ℕ) → sees_letter rest ≡ false → run is_letter rest ≡ 0
letters_stop [] h = refl
letters_stop (c ∷ rest) h = rw h refl

step_word_read : (w : Word) (rest : List ℕ) → sees_letter rest ≡ false → step_word (spelling_of w ++ rest) ≡ Ok (w, rest)
unfolding step_word
step_word_read w rest stops =
    let ds = spelling_of w in
    let k = run_past is_letter ds rest (all_letters w) (letters_stop rest stops) in
    ap (λ j. word_then (word_of (take j (ds ++ rest))) (drop j (ds ++ rest))) k
    ∙ ap (λ x. word_then (word_of x) (drop (length ds) (ds ++ rest))) (take-append_seam ds rest)
    ∙ ap (λ o. word_then o (drop (length ds) (ds ++ rest))) (word_of_spelling w)
    ∙ ap (λ x. Ok (w, x)) (drop-append_seam ds rest)

no_letter : (ps : List AnyPart) (rest : List ℕ) → sees_letter rest ≡ false → sees_letter (parts_text ps ++ rest) ≡ false
no_letter [] rest h = h
no_letter (p ∷ ps) rest h = refl

step_turn : (w : Word) (ps : List Part) (cs us rest : List ℕ) → step_word cs ≡ Ok (w, us) → parts us ≡ Ok (ps, rest) → step cs ≡ Ok ((w, ps), rest)
unfolding step
step_turn w ps cs us rest h k = ap (λ o. Rattle.ft_lines.specs.Reading.and_then o (λ v. parts >>= (λ qs. pure (v, qs)))) h ∙ ap (λ o. Rattle.ft_lines.specs.Reading.and_then o (λ qs. pure (w, qs))) k

word_for : (s : Stated) → IsOfVersion1 s → (w : Word) × (spelling_of w ≡ (written s).0)
word_for (by_var v) h = (word.Var, refl)
word_for (by_generic m) h = (word.Generic, refl)
word_for (by_meta m ps) h = (word.Meta, refl)
word_for (by_metacong m es) h = (word.Metacong, refl)
word_for (by_abs v p) h = (word.Abs, refl)
word_for (by_subst p t) h = (word.Subst, refl)
word_for (by_substeq p e) h = (word.Substeq, refl)
word_for (by_refl p) h = (word.Refl, refl)
word_for (by_sym p) h = (word.Sym, refl)
word_for (by_trans p q) h = (word.Trans, refl)
word_for (by_conv p e) h = (word.Conv, refl)
word_for (by_conveq p e) h = (word.Conveq, refl)
word_for (by_left p) h = (word.Left, refl)
word_for (by_right p) h = (word.Right, refl)
word_for (by_typeof p) h = (word.Typeof, refl)
word_for (by_domain p) h = (word.Domain, refl)
word_for (by_boundary p) h = (word.Boundary, refl)
word_for (by_widen p q) h = (word.Widen, refl)
word_for by_btype h = (word.Btype, refl)
word_for (by_bterm p) h = (word.Bterm, refl)
word_for (by_beqty p q) h = (word.Beqty, refl)
word_for (by_beqtm p s t) h = (word.Beqtm, refl)
word_for (by_rule r ps) h = (word.Rule, refl)
word_for (by_rulewith r b ps) h = (word.Rulewith, refl)
word_for (by_inst r ps) h = (word.Inst, refl)
word_for (by_cong r ps es) h = (word.Cong, refl)
word_for (by_convprem r ps es q) h = (word.Convprem, refl)
word_for (by_convback r ps es q) h = (word.Convback, refl)
word_for (by_arg i p) h = (word.Arg, refl)
word_for (by_natural p) h = (word.Natural, refl)
word_for (by_metainst p ms qs) h = absurd h

abbrev pub value_of_part : AnyPart → Part
value_of_part (any_number n) = Number n
value_of_part slash = Slash

parts_same : (ps : List AnyPart) → map part_of (map value_of_part ps) ≡ ps
parts_same [] = refl
parts_same (any_number n ∷ ps) = ap (λ qs. any_number n ∷ qs) (parts_same ps)
parts_same (slash ∷ ps) = ap (λ qs. slash ∷ qs) (parts_same ps)

pub step_back : (s : Stated) (rest : List ℕ) → IsOfVersion1 s → PartsFit (written s).1 → sees 32 rest ≡ false → sees_digit rest ≡ false → sees_letter rest ≡ false
    → (w : Word) × (ps : List Part) × (step (step_text s ++ rest) ≡ Ok ((w, ps), rest)) × IsWritten s w ps
step_back s rest one fits space digit letter =
    let v = word_for s one in
    let w = v.0 in
    let qs = (written s).1 in
    let ps = map value_of_part qs in
    let same : map part_of ps ≡ qs = parts_same qs in
    let us = parts_text (map part_of ps) ++ rest in
    let text : step_text s ++ rest ≡ spelling_of w ++ us =
    ap₂ (λ x ys. (x ++ parts_text ys) ++ rest) (sym v.1) (sym same) ∙ append_assoc (spelling_of w) (parts_text (map part_of ps)) rest in
    let read = parts_back ps rest (subst PartsFit (sym same) fits) space digit in
    (w, ps, ap step text ∙ step_turn w ps (spelling_of w ++ us) us rest (step_word_read w us (no_letter (map part_of ps) rest letter)) read, (v.1, same))
