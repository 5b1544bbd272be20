-- Terms put for the variables of all domains of a statement, one by one.
use Rattle.std.proofs.Common.{◌≡◌, ◌≢◌, ℕ, zero, suc, ◌+◌, ◌<◌, ◌≤◌, Bool, true, false, ◌&&◌, List, [], ◌∷◌, ◌++◌, refl, sym, ap, ap₂, ◌∙◌, length, take, map, length-append, arith}
use mathlib.Core.Path.{fun_ext}
use Rattle.std.proofs.lemmas.List.{map-append, length-take-le, take_all}
use Rattle.std.proofs.Math.Bool.{and-false}
use Rattle.ft_theory.specs.Expressions.{Expression, meta, no_terms, also, open_at}
use Rattle.ft_theory.specs.Statements.{Claim, Statement, plain, abstracted, map_claim, map_statement, at}
use Rattle.ft_items.specs.Equal.{equal_expressions, typed, terms, paired, left_terms, right_terms}
use Rattle.ft_laws.proofs.Statements.{map_claim-map, map_statement-id}
use Rattle.ft_syntax.specs.Table.{tree}
use Rattle.ft_judge.specs.Meaning.{under}
use Rattle.ft_placing.specs.Opening.{is_put, listed, opened_by, trees_of}
use Rattle.ft_placing.specs.Sides.{fit_domains, lefts_of, rights_of, sides_in, types_fit}
use Rattle.ft_placing.specs.declared.sides.At.{At}
use Rattle.ft_placing.specs.declared.sides.At.TheVariants as at_these
use Rattle.ft_placing.specs.declared.sides.Sides.{Sides}

-- one more term, the last
last_put : (l : ℕ) (done : List Expression) (t e : Expression) → open_at l t (opened_by (suc l) done e) ≡ opened_by l (done ++ t ∷ []) e
last_put l [] t e = let same : l ≡ 0 + l = omega arith in ap (λ n. open_at n t e) same
last_put l (s ∷ done) t e =
    let same : length done + suc l ≡ length (done ++ t ∷ []) + l = omega (arith, length-append done (t ∷ [])) in
    last_put l done t (open_at (length done + suc l) s e) ∙ ap (λ n. opened_by l (done ++ t ∷ []) (open_at n s e)) same

-- one map of a statement's rest after the other
pub compose : (x : Statement) (f g : ℕ → Expression → Expression) (k : ℕ) → map_statement f k (map_statement g (suc k) x) ≡ map_statement (λ l e. f l (g (suc l) e)) k x
compose (plain c) f g k = ap plain (map_claim-map c (f k) (g (suc k)))
compose (abstracted A x) f g k = ap (abstracted (f k (g (suc k) A))) (compose x f g (suc k))

pub next_put : (x : Statement) (done : List Expression) (t : Expression) → map_statement (λ l. open_at l t) 0 (map_statement (λ l. opened_by l done) 1 x) ≡ map_statement (λ l. opened_by l (done ++ t ∷ [])) 0 x
next_put x done t = compose x (λ l. open_at l t) (λ l. opened_by l done) 0 ∙ ap (λ f. map_statement f 0 x) (fun_ext (λ l. fun_ext (λ e. last_put l done t e)))

-- the types of the terms, domain by domain
types_are : (a : At) (ts : List Expression) (done Ds : List ℕ) (ss : List Sides) (c : Claim) → fit_domains a (map_statement (λ l. opened_by l (trees_of ts done)) 0 (under ts Ds (plain c))) (sides_in a ts ss) ≡ types_fit ts done Ds ss
types_are at_these.Terms ts done [] [] c = refl
types_are at_these.Terms ts done [] (s ∷ ss) c = refl
types_are at_these.Terms ts done (D ∷ Ds) [] c = refl
types_are at_these.Terms ts done (D ∷ Ds) (s ∷ ss) c =
    ap (λ b. is_put ts done D s.ty && b)
    (ap (λ x. typed x (sides_in at_these.Terms ts ss)) (next_put (under ts Ds (plain c)) (trees_of ts done) (tree ts s.left) ∙ ap (λ as'. map_statement (λ l. opened_by l as') 0 (under ts Ds (plain c))) (sym (map-append (tree ts) done (s.left ∷ []))))
    ∙ types_are at_these.Terms ts (done ++ s.left ∷ []) Ds ss c)
types_are at_these.EqualTerms ts done [] [] c = refl
types_are at_these.EqualTerms ts done [] (s ∷ ss) c = refl
types_are at_these.EqualTerms ts done (D ∷ Ds) [] c = refl
types_are at_these.EqualTerms ts done (D ∷ Ds) (s ∷ ss) c =
    ap (λ b. is_put ts done D s.ty && b)
    (ap (λ x. paired x (sides_in at_these.EqualTerms ts ss)) (next_put (under ts Ds (plain c)) (trees_of ts done) (tree ts s.left) ∙ ap (λ as'. map_statement (λ l. opened_by l as') 0 (under ts Ds (plain c))) (sym (map-append (tree ts) done (s.left ∷ []))))
    ∙ types_are at_these.EqualTerms ts (done ++ s.left ∷ []) Ds ss c)

pub domains_fit : (a : At) (ts : List Expression) (Ds : List ℕ) (ss : List Sides) (c : Claim) → fit_domains a (under ts Ds (plain c)) (sides_in a ts ss) ≡ types_fit ts [] Ds ss
domains_fit a ts Ds ss c = ap (λ x. fit_domains a x (sides_in a ts ss)) (sym (map_statement-id (under ts Ds (plain c)) 0)) ∙ types_are a ts [] Ds ss c

pub as_many : (ts : List Expression) (done Ds : List ℕ) (ss : List Sides) → length Ds ≢ length ss → types_fit ts done Ds ss ≡ false
as_many ts done [] [] n = absurd (n refl)
as_many ts done [] (s ∷ ss) n = refl
as_many ts done (D ∷ Ds) [] n = refl
as_many ts done (D ∷ Ds) (s ∷ ss) n = ap (λ b. is_put ts done D s.ty && b) (as_many ts (done ++ s.left ∷ []) Ds ss (λ e. n (ap suc e))) ∙ and-false (is_put ts done D s.ty)

-- terms for all domains, and further ones, which are not put
pub at_plain : (c : Claim) (as' : List Expression) → at (plain c) (listed as') ≡ plain c
at_plain c [] = refl
at_plain c (t ∷ as') = at_plain c as'

at_all : (ts : List Expression) (Ds : List ℕ) (as' : List Expression) (g : ℕ → Expression → Expression) (c : Claim) → length Ds ≤ length as'
    → at (map_statement g 0 (under ts Ds (plain c))) (listed as') ≡ plain (map_claim (λ e. opened_by 0 (take (length Ds) as') (g (length Ds) e)) c)
at_all ts [] as' g c l = at_plain (map_claim (g 0) c) as'
at_all ts (D ∷ Ds) [] g c l = absurd (omega (arith, l))
at_all ts (D ∷ Ds) (t ∷ as') g c l =
    let less : length Ds ≤ length as' = omega (arith, l) in
    let same : length Ds ≡ length (take (length Ds) as') + 0 = omega (arith, length-take-le (length Ds) as' less) in
    ap (λ x. at x (listed as')) (compose (under ts Ds (plain c)) (λ l. open_at l t) g 0)
    ∙ at_all ts Ds as' (λ l e. open_at l t (g (suc l) e)) c less
    ∙ ap (λ n. plain (map_claim (λ e. opened_by 0 (take (length Ds) as') (open_at n t (g (suc (length Ds)) e))) c)) same

pub at_more : (ts : List Expression) (Ds : List ℕ) (as' : List Expression) (c : Claim) → length Ds ≤ length as' → at (under ts Ds (plain c)) (listed as') ≡ plain (map_claim (opened_by 0 (take (length Ds) as')) c)
at_more ts Ds as' c l = ap (λ x. at x (listed as')) (sym (map_statement-id (under ts Ds (plain c)) 0)) ∙ at_all ts Ds as' (λ l e. e) c l

-- the terms of theses and of equations
pub terms_are : (ts : List Expression) (ss : List Sides) → terms (sides_in at_these.Terms ts ss) ≡ listed (trees_of ts (lefts_of ss))
terms_are ts [] = refl
terms_are ts (s ∷ ss) = ap (also (tree ts s.left)) (terms_are ts ss)

pub lefts_are : (ts : List Expression) (ss : List Sides) → left_terms (sides_in at_these.EqualTerms ts ss) ≡ listed (trees_of ts (lefts_of ss))
lefts_are ts [] = refl
lefts_are ts (s ∷ ss) = ap (also (tree ts s.left)) (lefts_are ts ss)

pub rights_are : (ts : List Expression) (ss : List Sides) → right_terms (sides_in at_these.EqualTerms ts ss) ≡ listed (trees_of ts (rights_of ss))
rights_are ts [] = refl
rights_are ts (s ∷ ss) = ap (also (tree ts s.right)) (rights_are ts ss)
