-- Entries: what is read is the text of the line, and the line is read.
use Rattle.std.proofs.Common.{◌≡◌, ◌∙◌, ap, refl, subst, ℕ, List, [], ◌∷◌, ◌++◌, map, Ok, Bool, true, false, ◌==◌}
use Rattle.ft_theory.specs.Statements.{Claim, Statement}
use Rattle.ft_items.specs.Sets.{Atom, Ascending}
use Rattle.ft_items.specs.Equal.{is_thesis}
use Rattle.ft_items.specs.Item.{Entry, entry as item_entry}
use Rattle.ft_items.specs.Texts.{statement_text, set_text, step_text, line_text, EachAtomFits, PartsFit, EntryFits}
use Rattle.ft_lines.specs.declared.steps.Part.{Part}
use Rattle.ft_lines.specs.declared.words.Word.{Word}
use Rattle.ft_lines.specs.Reading.{Reader, ◌>>=◌, and_then, pure, expect, sees, sees_digit}
use Rattle.ft_lines.specs.Sets.{set}
use Rattle.ft_lines.specs.Statements.{form, goal as goal_read, statement}
use Rattle.ft_lines.specs.Steps.{part_of, parts_text, step, IsWritten}
use Rattle.ft_lines.specs.Words.{spelling_of}
use Rattle.ft_lines.specs.Entries.{grounds, entry, thesis_entry, boundary_entry, entry_text, IsEntryText}
use Rattle.ft_common.proofs.Results.{ok_ok}
use Rattle.ft_lines.proofs.Chains.{in_turn, expected, expect_next}
use Rattle.ft_lines.proofs.Atoms.{set_is, set_read}
use Rattle.ft_lines.proofs.Claims.{IsStatement, thesis_is, boundary_is, thesis_back, boundary_back}
use Rattle.ft_lines.proofs.StepTexts.{step_is, step_back}

abbrev GroundsAre : List Atom → Word → List Part → List ℕ → List ℕ → Type 0
GroundsAre S w ps cs rest = (cs ≡ 32 ∷ (set_text S ++ (32 ∷ ((spelling_of w ++ parts_text (map part_of ps)) ++ rest)))) × Ascending S × EachAtomFits S × PartsFit (map part_of ps)

grounds_are : (g : List Atom × Word × List Part) (cs rest : List ℕ) → grounds cs ≡ Ok (g, rest) → GroundsAre g.0 g.1 g.2 cs rest
unfolding grounds
grounds_are g cs rest h =
    let last : List Atom → Reader (List Atom × Word × List Part) = λ S. step >>= (λ s. pure (S, s.0, s.1)) in
    let p = in_turn (expect 32 cs) (λ _. set >>= (λ S. expect 32 >>= (λ _. last S))) g rest h in
    let q = in_turn (set p.0.1) (λ S. expect 32 >>= (λ _. last S)) g rest p.2 in
    let r = in_turn (expect 32 q.0.1) (λ _. last q.0.0) g rest q.2 in
    let s = in_turn (step r.0.1) (λ s. pure (q.0.0, s.0, s.1)) g rest r.2 in
    let e = ok_ok ((q.0.0, s.0.0.0, s.0.0.1), s.0.1) (g, rest) s.2 in
    let S = set_is q.0.0 p.0.1 q.0.1 q.1 in
    let t = step_is s.0.0.0 s.0.0.1 r.0.1 s.0.1 s.1 in
    subst (λ x. GroundsAre x.0.0 x.0.1 x.0.2 cs x.1) e
    (expected 32 cs p.0.1 p.1 ∙ ap (λ x. 32 ∷ x) (S.0 ∙ ap (λ x. set_text q.0.0 ++ x) (expected 32 q.0.1 r.0.1 r.1 ∙ ap (λ x. 32 ∷ x) t.0)), S.1, S.2, t.1)

entry_is : (t : Bool) (letter : ℕ) (claim : Reader Claim) → ((x : Statement) (cs rest : List ℕ) → statement claim cs ≡ Ok (x, rest) → IsStatement t x cs rest)
    → (e : Statement × List Atom × Word × List Part) (cs rest : List ℕ) → entry letter claim cs ≡ Ok (e, rest) → IsEntryText t letter e.0 e.1 e.2 e.3 cs rest
unfolding entry
entry_is t letter claim is e cs rest h =
    let last : Statement → Reader (Statement × List Atom × Word × List Part) = λ x. grounds >>= (λ g. pure (x, g.0, g.1, g.2)) in
    let p = in_turn (expect letter cs) (λ _. expect 32 >>= (λ _. statement claim >>= (λ x. last x))) e rest h in
    let q = in_turn (expect 32 p.0.1) (λ _. statement claim >>= (λ x. last x)) e rest p.2 in
    let r = in_turn (statement claim q.0.1) (λ x. last x) e rest q.2 in
    let s = in_turn (grounds r.0.1) (λ g. pure (r.0.0, g.0, g.1, g.2)) e rest r.2 in
    let f = ok_ok ((r.0.0, s.0.0.0, s.0.0.1, s.0.0.2), s.0.1) (e, rest) s.2 in
    let x = is r.0.0 q.0.1 r.0.1 r.1 in
    let g = grounds_are s.0.0 r.0.1 s.0.1 s.1 in
    subst (λ y. IsEntryText t letter y.0.0 y.0.1 y.0.2 y.0.3 cs y.1) f
    (expected letter cs p.0.1 p.1 ∙ ap (λ y. letter ∷ y) (expected 32 p.0.1 q.0.1 q.1 ∙ ap (λ y. 32 ∷ y) (x.0 ∙ ap (λ y. statement_text r.0.0 ++ y) g.0)), x.1, x.2, g.1, g.2, g.3)

pub thesis_entry_is : (e : Statement × List Atom × Word × List Part) (cs rest : List ℕ) → thesis_entry cs ≡ Ok (e, rest) → IsEntryText true 74 e.0 e.1 e.2 e.3 cs rest
thesis_entry_is e cs rest h = entry_is true 74 form thesis_is e cs rest h

pub boundary_entry_is : (e : Statement × List Atom × Word × List Part) (cs rest : List ℕ) → boundary_entry cs ≡ Ok (e, rest) → IsEntryText false 66 e.0 e.1 e.2 e.3 cs rest
boundary_entry_is e cs rest h = entry_is false 66 goal_read boundary_is e cs rest h

-- ---- the line is read
grounds_turn : (S : List Atom) (w : Word) (ps : List Part) (cs ds es us rest : List ℕ) → expect 32 cs ≡ Ok (tt, ds) → set ds ≡ Ok (S, es) → expect 32 es ≡ Ok (tt, us) → step us ≡ Ok ((w, ps), rest)
    → grounds cs ≡ Ok ((S, w, ps), rest)
unfolding grounds
grounds_turn S w ps cs ds es us rest h k l m =
    let last : List Atom → Reader (List Atom × Word × List Part) = λ S. step >>= (λ s. pure (S, s.0, s.1)) in
    ap (λ o. and_then o (λ _. set >>= (λ S. expect 32 >>= (λ _. last S)))) h
    ∙ ap (λ o. and_then o (λ S. expect 32 >>= (λ _. last S))) k
    ∙ ap (λ o. and_then o (λ _. last S)) l
    ∙ ap (λ o. and_then o (λ s. pure (S, s.0, s.1))) m

entry_turn : (letter : ℕ) (claim : Reader Claim) (x : Statement) (S : List Atom) (w : Word) (ps : List Part) (cs ds es us rest : List ℕ)
    → expect letter cs ≡ Ok (tt, ds) → expect 32 ds ≡ Ok (tt, es) → statement claim es ≡ Ok (x, us) → grounds us ≡ Ok ((S, w, ps), rest)
    → entry letter claim cs ≡ Ok ((x, S, w, ps), rest)
unfolding entry
entry_turn letter claim x S w ps cs ds es us rest h k l m =
    let last : Statement → Reader (Statement × List Atom × Word × List Part) = λ x. grounds >>= (λ g. pure (x, g.0, g.1, g.2)) in
    ap (λ o. and_then o (λ _. expect 32 >>= (λ _. statement claim >>= (λ x. last x)))) h
    ∙ ap (λ o. and_then o (λ _. statement claim >>= (λ x. last x))) k
    ∙ ap (λ o. and_then o (λ x. last x)) l
    ∙ ap (λ o. and_then o (λ g. pure (x, g.0, g.1, g.2))) m

none_left : (c : ℕ) → sees c [] ≡ false
unfolding sees
none_left c = refl

entry_back : (letter : ℕ) (claim : Reader Claim) (e : Entry) → letter == letter ≡ true → EntryFits e
    → ((rest : List ℕ) → sees_digit rest ≡ false → statement claim (statement_text e.statement ++ rest) ≡ Ok (e.statement, rest))
    → (w : Word) × (ps : List Part) × (entry letter claim (entry_text letter e) ≡ Ok ((e.statement, e.set, w, ps), [])) × IsWritten e.step w ps
entry_back letter claim e same fits read =
    let t = step_back e.step [] fits.version fits.step (none_left 32) refl refl in
    let us = step_text e.step ++ [] in
    let es = set_text e.set ++ (32 ∷ us) in
    let ds = statement_text e.statement ++ (32 ∷ es) in
    let g = grounds_turn e.set t.0 t.1 (32 ∷ es) es (32 ∷ us) us [] (expect_next 32 es refl) (set_read e.set (32 ∷ us) fits.ascending fits.set) (expect_next 32 us refl) t.2 in
    (t.0, t.1, entry_turn letter claim e.statement e.set t.0 t.1 (letter ∷ 32 ∷ ds) (32 ∷ ds) ds (32 ∷ es) [] (expect_next letter (32 ∷ ds) same) (expect_next 32 ds refl) (read (32 ∷ es) refl) g, t.3)

pub thesis_entry_back : (e : Entry) → EntryFits e → is_thesis e.statement ≡ true
    → (w : Word) × (ps : List Part) × (thesis_entry (line_text (item_entry e)) ≡ Ok ((e.statement, e.set, w, ps), [])) × IsWritten e.step w ps
thesis_entry_back e fits t =
    let r = entry_back 74 form e refl fits (λ rest stops. thesis_back e.statement rest fits.statement t stops) in
    (r.0, r.1, ap thesis_entry (rw t refl) ∙ r.2, r.3)

pub boundary_entry_back : (e : Entry) → EntryFits e → is_thesis e.statement ≡ false
    → (w : Word) × (ps : List Part) × (boundary_entry (line_text (item_entry e)) ≡ Ok ((e.statement, e.set, w, ps), [])) × IsWritten e.step w ps
boundary_entry_back e fits t =
    let r = entry_back 66 goal_read e refl fits (λ rest stops. boundary_back e.statement rest fits.statement t stops) in
    (r.0, r.1, ap boundary_entry (rw t refl) ∙ r.2, r.3)
