-- Lines in UTF-8.
use Rattle.std.proofs.Common.{◌≡◌, ◌∙◌, sym, ap, ap₂, refl, ℕ, ◌<◌, Bool, true, false, List, [], ◌∷◌, ◌++◌, map, flat_map, codes, decimal, cond, encode_utf8_all, append_assoc, append-nil}
use Rattle.std.proofs.lemmas.Grind.{flat_map-append}
use Rattle.std.proofs.lemmas.Str.{encodes-append, encodes-IsAscii, encode_ascii}
use Rattle.std.proofs.lemmas.Fmt.{IsAscii-decimal}
use Rattle.ft_base.specs.Names.{is_name_token}
use Rattle.ft_theory.specs.Expressions.{Expression}
use Rattle.ft_theory.specs.Statements.{Statement}
use Rattle.ft_items.specs.Sets.{Atom, Ascending}
use Rattle.ft_items.specs.Equal.{is_thesis}
use Rattle.ft_items.specs.Item.{Stated, Name, Entry, variable, metavariable, rule, entry, shown}
use Rattle.ft_items.specs.Texts.{spaced, statement_text, set_text, step_text, line_text, Part, number, written, NumberFits, EachNumberFits, StatementFits, EachAtomFits, PartsFit, EntryFits}
use Rattle.ft_texts.proofs.Pieces.{Each}
use Rattle.ft_texts.proofs.Characters.{line_each}
use Rattle.ft_judge.specs.Meaning.{thesis_in, boundary_in}
use Rattle.ft_judge.specs.Laws.{thesis_is, boundary_is}
use Rattle.ft_judge.specs.declared.judgement.Thesis.{Thesis}
use Rattle.ft_judge.specs.declared.judgement.Boundary.{Boundary}
use Rattle.ft_kernel.specs.Steps.{step_of}
use Rattle.ft_kernel.specs.declared.step.Step.{Step}
use Rattle.ft_kernel.specs.declared.step.Step.TheVariants as step
use Rattle.ft_export.specs.Parts.{parts_text, numbers}
use Rattle.ft_export.specs.Written.{AppendsLine}

decimal_plain : (n : ℕ) → NumberFits n → encode_utf8_all (decimal n) ≡ decimal n
decimal_plain n h = encodes-IsAscii (decimal n) (IsAscii-decimal n h)

each_plain : (xs : List ℕ) → Each (λ c. c < 128) xs → encode_utf8_all xs ≡ xs
each_plain [] h = refl
each_plain (c ∷ xs) h = ap₂ (λ a b. a ++ b) (encode_ascii c h.0) (each_plain xs h.1)

-- the bytes of a text after a space
abbrev spaced_bytes : List ℕ → List ℕ
spaced_bytes y = codes " " ++ encode_utf8_all y

-- the text after a space
abbrev after_space : List ℕ → List ℕ
after_space y = codes " " ++ y

encode_further : (ps : List (List ℕ)) → encode_utf8_all (flat_map after_space ps) ≡ flat_map spaced_bytes ps
unfolding lib.Utf8.encode
encode_further [] = refl
encode_further (p ∷ ps) = encodes-append (codes " " ++ p) (flat_map after_space ps) ∙ ap₂ (λ a b. a ++ b) (encodes-append (codes " ") p) (encode_further ps)

encode_spaced : (letter : List ℕ) (ps : List (List ℕ)) → encode_utf8_all letter ≡ letter → encode_utf8_all (letter ++ flat_map after_space ps) ≡ letter ++ flat_map spaced_bytes ps
encode_spaced letter ps h = encodes-append letter (flat_map after_space ps) ∙ ap₂ (λ a b. a ++ b) h (encode_further ps)

-- a line so far, and one more piece
more : (f : List ℕ → List ℕ) (letter : List ℕ) (ps qs : List (List ℕ)) (old out piece new : List ℕ) → out ≡ old ++ (letter ++ flat_map f ps) → piece ≡ flat_map f qs → new ≡ out ++ piece
    → new ≡ old ++ (letter ++ flat_map f (ps ++ qs))
more f letter ps qs old out piece new o p n =
    n ∙ ap (λ z. z ++ piece) o ∙ append_assoc old (letter ++ flat_map f ps) piece
    ∙ ap (λ z. old ++ z) (append_assoc letter (flat_map f ps) piece ∙ ap (λ z. letter ++ z) (ap (λ z. flat_map f ps ++ z) p ∙ sym (flat_map-append f ps qs)))

start : (f : List ℕ → List ℕ) (letter old out : List ℕ) → out ≡ old ++ letter → out ≡ old ++ (letter ++ flat_map f [])
start f letter old out o = o ∙ ap (λ z. old ++ z) (sym (append-nil letter))

number_piece : (n : ℕ) → NumberFits n → parts_text (number n ∷ []) ≡ flat_map spaced_bytes (decimal n ∷ [])
number_piece n h = ap (λ d. (codes " " ++ d) ++ []) (sym (decimal_plain n h))

numbers_piece : (ns : List ℕ) → EachNumberFits ns → parts_text (numbers ns) ≡ flat_map spaced_bytes (map decimal ns)
numbers_piece [] h = refl
numbers_piece (n ∷ ns) h = ap₂ (λ d z. (codes " " ++ d) ++ z) (sym (decimal_plain n h.0)) (numbers_piece ns h.1)

name_piece : (n : Name) → codes " " ++ encode_utf8_all n ≡ flat_map spaced_bytes (n ∷ [])
name_piece n = sym (append-nil (codes " " ++ encode_utf8_all n))

pub variable_line : (v : ℕ) (n : Name) (p : ℕ) (old a b d new : List ℕ) → NumberFits v → is_name_token n ≡ true → NumberFits p
    → a ≡ old ++ codes "V" → b ≡ a ++ parts_text (number v ∷ []) → d ≡ b ++ (codes " " ++ encode_utf8_all n) → new ≡ d ++ parts_text (number p ∷ []) → AppendsLine (variable v n p) old new
unfolding lib.Utf8.encode
variable_line v n p old a b d new hv hn hp ea eb ed e =
    let l = codes "V" in
    let o = start spaced_bytes l old a ea in
    let o1 = more spaced_bytes l [] (decimal v ∷ []) old a (parts_text (number v ∷ [])) b o (number_piece v hv) eb in
    let o2 = more spaced_bytes l (decimal v ∷ []) (n ∷ []) old b (codes " " ++ encode_utf8_all n) d o1 (name_piece n) ed in
    let o3 = more spaced_bytes l (decimal v ∷ n ∷ []) (decimal p ∷ []) old d (parts_text (number p ∷ [])) new o2 (number_piece p hp) e in
    ((hv, hn, hp), o3 ∙ ap (λ z. old ++ z) (sym (encode_spaced l (decimal v ∷ n ∷ decimal p ∷ []) refl)))

pub metavariable_line : (n : Name) (p : ℕ) (old a d new : List ℕ) → is_name_token n ≡ true → NumberFits p
    → a ≡ old ++ codes "M" → d ≡ a ++ (codes " " ++ encode_utf8_all n) → new ≡ d ++ parts_text (number p ∷ []) → AppendsLine (metavariable n p) old new
unfolding lib.Utf8.encode
metavariable_line n p old a d new hn hp ea ed e =
    let l = codes "M" in
    let o = start spaced_bytes l old a ea in
    let o1 = more spaced_bytes l [] (n ∷ []) old a (codes " " ++ encode_utf8_all n) d o (name_piece n) ed in
    let o2 = more spaced_bytes l (n ∷ []) (decimal p ∷ []) old d (parts_text (number p ∷ [])) new o1 (number_piece p hp) e in
    ((hn, hp), o2 ∙ ap (λ z. old ++ z) (sym (encode_spaced l (n ∷ decimal p ∷ []) refl)))

pub rule_line : (n : Name) (ms : List ℕ) (p : ℕ) (old a b d f new : List ℕ) → is_name_token n ≡ true → EachNumberFits ms → NumberFits p
    → a ≡ old ++ codes "R" → b ≡ a ++ (codes " " ++ encode_utf8_all n) → d ≡ b ++ parts_text (numbers ms) → f ≡ d ++ codes " ;" → new ≡ f ++ parts_text (number p ∷ []) → AppendsLine (rule n ms p) old new
unfolding lib.Utf8.encode
rule_line n ms p old a b d f new hn hm hp ea eb ed ef e =
    let l = codes "R" in
    let o = start spaced_bytes l old a ea in
    let o1 = more spaced_bytes l [] (n ∷ []) old a (codes " " ++ encode_utf8_all n) b o (name_piece n) eb in
    let o2 = more spaced_bytes l (n ∷ []) (map decimal ms) old b (parts_text (numbers ms)) d o1 (numbers_piece ms hm) ed in
    let o3 = more spaced_bytes l (n ∷ map decimal ms) (codes ";" ∷ []) old d (codes " ;") f o2 refl ef in
    let o4 = more spaced_bytes l ((n ∷ map decimal ms) ++ (codes ";" ∷ [])) (decimal p ∷ []) old f (parts_text (number p ∷ [])) new o3 (number_piece p hp) e in (
      (hn, hm, hp),
      o4 ∙ ap (λ z. old ++ (l ++ flat_map spaced_bytes (n ∷ z))) (append_assoc (map decimal ms) (codes ";" ∷ []) (decimal p ∷ []))
          ∙ ap (λ z. old ++ z) (sym (encode_spaced l (n ∷ (map decimal ms ++ (codes ";" ∷ decimal p ∷ []))) refl)),
    )

pub shown_line : (p : ℕ) (old a new : List ℕ) → NumberFits p → a ≡ old ++ codes "W" → new ≡ a ++ parts_text (number p ∷ []) → AppendsLine (shown p) old new
unfolding lib.Utf8.encode
shown_line p old a new hp ea e =
    let l = codes "W" in
    let o = more spaced_bytes l [] (decimal p ∷ []) old a (parts_text (number p ∷ [])) new (start spaced_bytes l old a ea) (number_piece p hp) e in
    (hp, o ∙ ap (λ z. old ++ z) (sym (encode_spaced l (decimal p ∷ []) refl)))

-- no step of the program is the instance of an entry
version : (s : Step) → Rattle.ft_items.specs.Texts.IsOfVersion1 (step_of s)
version (step.Var v) = tt
version (step.Generic m) = tt
version (step.Meta m ps) = tt
version (step.Metacong m es) = tt
version (step.Abs v p) = tt
version (step.Subst p t) = tt
version (step.Substeq p e) = tt
version (step.Refl p) = tt
version (step.Sym p) = tt
version (step.Trans p q) = tt
version (step.Conv p e) = tt
version (step.Conveq p e) = tt
version (step.Left p) = tt
version (step.Right p) = tt
version (step.Typeof p) = tt
version (step.Domain p) = tt
version (step.Boundary p) = tt
version (step.Widen p q) = tt
version step.Btype = tt
version (step.Bterm p) = tt
version (step.Beqty p q) = tt
version (step.Beqtm p s t) = tt
version (step.Rule r ps) = tt
version (step.Rulewith r b ps) = tt
version (step.Inst r ps) = tt
version (step.Cong r ps es) = tt
version (step.Convprem r ps es q) = tt
version (step.Convback r ps es q) = tt
version (step.Arg i p) = tt
version (step.Natural p) = tt

-- all characters of an entry's line are ASCII
entry_plain : (e : Entry) → EntryFits e → encode_utf8_all (line_text (entry e)) ≡ line_text (entry e)
entry_plain e h = each_plain (line_text (entry e)) (line_each (λ c. c < 128) (λ c low high. high) (λ n. false) (λ n wrong. absurd (clash wrong)) (entry e) h)
  where
    clash : false ≡ true → ⊥
    clash e = cc

-- the letter of an entry's line
abbrev letter_of : Bool → List ℕ
letter_of b = cond b (codes "J") (codes "B")

entry_line : (x : Statement) (S : List Atom) (s : Stated) (b : Bool) (old a d new : List ℕ) → EntryFits (record { statement = x; set = S; step = s }) → is_thesis x ≡ b
    → a ≡ old ++ letter_of b → d ≡ a ++ codes " " ++ statement_text x → new ≡ d ++ codes " " ++ set_text S ++ codes " " ++ step_text s → AppendsLine (entry (record { statement = x; set = S; step = s })) old new
entry_line x S s b old a d new h t ea ed e =
    let l = letter_of b in
    let f = d ++ codes " " ++ set_text S in
    let o = more after_space l [] (statement_text x ∷ []) old a (codes " " ++ statement_text x) d (start after_space l old a ea) (sym (append-nil (codes " " ++ statement_text x))) (ed ∙ append_assoc a (codes " ") (statement_text x)) in
    let o1 = more after_space l (statement_text x ∷ []) (set_text S ∷ []) old d (codes " " ++ set_text S) f o (sym (append-nil (codes " " ++ set_text S))) (append_assoc d (codes " ") (set_text S)) in
    let o2 = more after_space l (statement_text x ∷ set_text S ∷ []) (step_text s ∷ []) old f (codes " " ++ step_text s) new o1 (sym (append-nil (codes " " ++ step_text s))) (e ∙ append_assoc f (codes " ") (step_text s)) in
    (h, o2 ∙ ap (λ b. old ++ spaced (letter_of b ∷ statement_text x ∷ set_text S ∷ step_text s ∷ [])) (sym t) ∙ ap (λ z. old ++ z) (sym (entry_plain (record { statement = x; set = S; step = s }) h)))

pub thesis_line : (ts : List Expression) (x : Thesis) (S : List Atom) (s : Step) (old a d new : List ℕ) → StatementFits (thesis_in ts x) → Ascending S → EachAtomFits S → PartsFit (written (step_of s)).1
    → a ≡ old ++ codes "J " → d ≡ a ++ statement_text (thesis_in ts x) → new ≡ d ++ codes " " ++ set_text S ++ codes " " ++ step_text (step_of s)
    → AppendsLine (entry (record { statement = thesis_in ts x; set = S; step = step_of s })) old new
thesis_line ts x S s old a d new hx up hS hs ea ed e =
    entry_line (thesis_in ts x) S (step_of s) true old (old ++ codes "J") d new (record { statement = hx; ascending = up; set = hS; version = version s; step = hs }) (thesis_is ts x) refl
    (ed ∙ ap (λ z. z ++ statement_text (thesis_in ts x)) (ea ∙ sym (append_assoc old (codes "J") (codes " ")))) e

pub boundary_line : (ts : List Expression) (x : Boundary) (S : List Atom) (s : Step) (old a d new : List ℕ) → StatementFits (boundary_in ts x) → Ascending S → EachAtomFits S → PartsFit (written (step_of s)).1
    → a ≡ old ++ codes "B " → d ≡ a ++ statement_text (boundary_in ts x) → new ≡ d ++ codes " " ++ set_text S ++ codes " " ++ step_text (step_of s)
    → AppendsLine (entry (record { statement = boundary_in ts x; set = S; step = step_of s })) old new
boundary_line ts x S s old a d new hx up hS hs ea ed e =
    entry_line (boundary_in ts x) S (step_of s) false old (old ++ codes "B") d new (record { statement = hx; ascending = up; set = hS; version = version s; step = hs }) (boundary_is ts x) refl
    (ed ∙ ap (λ z. z ++ statement_text (boundary_in ts x)) (ea ∙ sym (append_assoc old (codes "B") (codes " ")))) e
