-- The comparisons of the nucleus ask what the tests of fit, of start and of type ask.
use Rattle.std.proofs.Common.{◌≡◌, ℕ, zero, suc, Bool, true, false, cond, nat_eq, ◌&&◌, List, [], ◌∷◌, ◌++◌, length, refl, sym, ap, ap₂, ◌∙◌}
use Rattle.std.proofs.Math.Dec.{eqb-suc-zero, eqb-zero-suc, eqb-suc-suc}
use Rattle.std.proofs.Math.Bool.{and-true, and-false, and_comm}
use Rattle.ft_common.proofs.Booleans.{false_true, true_false}
use Rattle.ft_theory.specs.Statements.{Claim, is_type, has_type, equal_types, equal_terms, type_goal, term_goal, type_equation_goal, term_equation_goal, Statement, plain, abstracted, opened, domain_count, boundary_of_claim, boundary_of}
use Rattle.ft_items.specs.Equal.{equal_expressions, equal_claims, equal_statements, is_thesis_claim, is_thesis, has_head, fits_goal, fits, fit_all, starts, start_all, typed, paired}
use Rattle.ft_laws.proofs.Statements.{domain_count-opened}
use Rattle.ft_sound.proofs.EqualLemmas.{equal_back}
use Rattle.ft_reference.specs.Refusals.{expressions}
use Rattle.ft_reference.specs.Compare.{same_form, is_alike, goal_checks, domain_checks, boundary_checks, fit_checks, argument_checks, is_equation_of, left_checks_under, start_checks, head_count, equation_checks, term_checks, pair_checks}
use Rattle.ft_nucleus_laws.proofs.Lists.{and_swap, and_assoc, asked, asked_append, after_forms}

-- three tests, the first of which is stated last
last_first : (a b c : Bool) → (a && (b && (c && true))) ≡ ((b && c) && a)
last_first a b c = ap (λ z. a && (b && z)) (and-true c) ∙ and_comm a (b && c)

-- the thesis fits
fit_goal : (n : ℕ) (c d : Claim) → is_thesis_claim c ≡ true → (same_form (boundary_of_claim c) d && asked (goal_checks n (boundary_of_claim c) d)) ≡ fits_goal c d
fit_goal n (is_type A) type_goal h = refl
fit_goal n (has_type t A) (term_goal B) h = and-true (equal_expressions A B)
fit_goal n (equal_types A B) (type_equation_goal C D) h = ap (λ z. equal_expressions A C && z) (and-true (equal_expressions B D))
fit_goal n (equal_terms s t A) (term_equation_goal u v B) h =
    ap (λ z. equal_expressions A B && (equal_expressions s u && z)) (and-true (equal_expressions t v))
    ∙ and_assoc (equal_expressions A B) (equal_expressions s u) (equal_expressions t v)
fit_goal n type_goal d h = false_true h
fit_goal n (term_goal A) d h = false_true h
fit_goal n (type_equation_goal A B) d h = false_true h
fit_goal n (term_equation_goal s t A) d h = false_true h
fit_goal n c d h = refl

fit_domains : (n : ℕ) (x b : Statement) → is_thesis x ≡ true → (is_alike (boundary_of x) b && asked (domain_checks n (boundary_of x) b)) ≡ fits x b
fit_domains n (plain c) (plain d) h = fit_goal n c d h
fit_domains n (plain c) (abstracted B b) h = refl
fit_domains n (abstracted A x) (plain d) h = refl
fit_domains n (abstracted A x) (abstracted B b) h =
    and_swap (is_alike (boundary_of x) b) (equal_expressions A B) (asked (domain_checks (suc n) (boundary_of x) b))
    ∙ ap (λ z. equal_expressions A B && z) (fit_domains (suc n) x b h)

pub fit_asked : (x b : Statement) → is_thesis x ≡ true → asked (fit_checks x b) ≡ fits x b
fit_asked x b h = fit_domains zero x b h

-- the boundary is the one wanted
same_goal : (n : ℕ) (c d : Claim) → is_thesis_claim c ≡ false → (same_form c d && asked (goal_checks n c d)) ≡ equal_claims c d
same_goal n type_goal type_goal h = refl
same_goal n (term_goal A) (term_goal B) h = and-true (equal_expressions A B)
same_goal n (type_equation_goal A B) (type_equation_goal C D) h = ap (λ z. equal_expressions A C && z) (and-true (equal_expressions B D))
same_goal n (term_equation_goal s t A) (term_equation_goal u v B) h = last_first (equal_expressions A B) (equal_expressions s u) (equal_expressions t v)
same_goal n (is_type A) d h = true_false h
same_goal n (has_type t A) d h = true_false h
same_goal n (equal_types A B) d h = true_false h
same_goal n (equal_terms s t A) d h = true_false h
same_goal n c d h = refl

same_domains : (n : ℕ) (b c : Statement) → is_thesis b ≡ false → (is_alike b c && asked (domain_checks n b c)) ≡ equal_statements b c
same_domains n (plain c) (plain d) h = same_goal n c d h
same_domains n (plain c) (abstracted B y) h = refl
same_domains n (abstracted A x) (plain d) h = refl
same_domains n (abstracted A x) (abstracted B y) h =
    and_swap (is_alike x y) (equal_expressions A B) (asked (domain_checks (suc n) x y)) ∙ ap (λ z. equal_expressions A B && z) (same_domains (suc n) x y h)

pub boundary_asked : (b c : Statement) → is_thesis b ≡ false → asked (boundary_checks b c) ≡ equal_statements b c
boundary_asked b c h = same_domains zero b c h

-- each is a thesis
abbrev pub Theses : List Statement → Type 0
Theses [] = Unit {0}
Theses (x ∷ xs) = (is_thesis x ≡ true) × Theses xs

-- the theses are arguments
pub arguments_asked : (i : Statement → Statement) (ps : List (ℕ × Statement)) (xs : List Statement) → Theses xs → (nat_eq (length xs) (length ps) && asked (argument_checks i ps xs)) ≡ fit_all i ps xs
arguments_asked i [] [] h = refl
arguments_asked i [] (x ∷ xs) h = ap (λ z. z && true) (eqb-suc-zero (length xs))
arguments_asked i (p ∷ ps) [] h = ap (λ z. z && true) (eqb-zero-suc (length ps))
arguments_asked i (p ∷ ps) (x ∷ xs) h =
    ap₂ (λ y z. y && z) (eqb-suc-suc (length xs) (length ps))
    (after_forms (expressions (i p.1)) (fit_checks x (i p.1) ++ argument_checks i ps xs)
    ∙ asked_append (fit_checks x (i p.1)) (argument_checks i ps xs)
    ∙ ap (λ z. z && asked (argument_checks i ps xs)) (fit_asked x (i p.1) h.0))
    ∙ and_swap (nat_eq (length xs) (length ps)) (fits x (i p.1)) (asked (argument_checks i ps xs))
    ∙ ap (λ z. fits x (i p.1) && z) (arguments_asked i ps xs h.1)

-- the equation starts at the thesis
start_domains : (n : ℕ) (x e : Statement) → (is_equation_of x e && asked (left_checks_under n x e)) ≡ starts x e
start_domains n (plain (is_type A)) (plain (equal_types B C)) = and-true (equal_expressions B A) ∙ equal_back B A
start_domains n (plain (has_type t A)) (plain (equal_terms s u B)) =
    ap (λ z. equal_expressions B A && z) (and-true (equal_expressions s t)) ∙ ap₂ (λ y z. y && z) (equal_back B A) (equal_back s t)
start_domains n (plain c) (plain d) = refl
start_domains n (plain c) (abstracted B e) = refl
start_domains n (abstracted A x) (plain d) = refl
start_domains n (abstracted A x) (abstracted B e) =
    and_swap (is_equation_of x e) (equal_expressions B A) (asked (left_checks_under (suc n) x e))
    ∙ ap₂ (λ y z. y && z) (equal_back B A) (start_domains (suc n) x e)

pub start_asked : (x e : Statement) → asked (start_checks x e) ≡ starts x e
start_asked x e = start_domains zero x e

none_left : (xs : List Statement) → asked (equation_checks xs []) ≡ true
none_left [] = refl
none_left (x ∷ xs) = refl

pub equations_asked : (xs es : List Statement) → (nat_eq (length es) (head_count xs) && asked (equation_checks xs es)) ≡ start_all xs es
equations_asked [] [] = refl
equations_asked [] (e ∷ es) = ap (λ z. z && true) (eqb-suc-zero (length es))
equations_asked (x ∷ xs) [] = go (has_head x) (ap (λ z. nat_eq zero (head_count xs) && z) (sym (none_left xs)) ∙ equations_asked xs [])
  where
    go : (b : Bool) → (nat_eq zero (head_count xs) && true) ≡ start_all xs [] → (nat_eq zero (cond b (suc (head_count xs)) (head_count xs)) && true) ≡ cond b false (start_all xs [])
    go true ih = ap (λ z. z && true) (eqb-zero-suc (head_count xs))
    go false ih = ih
equations_asked (x ∷ xs) (e ∷ es) = go (has_head x) (equations_asked xs es) (equations_asked xs (e ∷ es))
  where
    go : (b : Bool) → (nat_eq (length es) (head_count xs) && asked (equation_checks xs es)) ≡ start_all xs es → (nat_eq (suc (length es)) (head_count xs) && asked (equation_checks xs (e ∷ es))) ≡ start_all xs (e ∷ es)
        → (nat_eq (suc (length es)) (cond b (suc (head_count xs)) (head_count xs)) && asked (cond b (start_checks x e ++ equation_checks xs es) (equation_checks xs (e ∷ es)))) ≡ cond b (starts x e && start_all xs es) (start_all xs (e ∷ es))
    go true here later =
        ap₂ (λ y z. y && z) (eqb-suc-suc (length es) (head_count xs)) (asked_append (start_checks x e) (equation_checks xs es) ∙ ap (λ z. z && asked (equation_checks xs es)) (start_asked x e))
        ∙ and_swap (nat_eq (length es) (head_count xs)) (starts x e) (asked (equation_checks xs es))
        ∙ ap (λ z. starts x e && z) here
    go false here later = later

-- terms for domains
pub terms_asked : (b : Statement) (xs : List Statement) → (nat_eq (length xs) (domain_count b) && asked (term_checks b xs)) ≡ typed b xs
terms_asked (plain c) [] = refl
terms_asked (abstracted A b) [] = ap (λ z. z && true) (eqb-zero-suc (domain_count b))
terms_asked (plain c) (x ∷ xs) = ap (λ z. z && asked (term_checks (plain c) (x ∷ xs))) (eqb-suc-zero (length xs))
terms_asked (abstracted A b) (plain (has_type t B) ∷ xs) =
    ap (λ z. z && (equal_expressions B A && asked (term_checks (opened t (abstracted A b)) xs))) (eqb-suc-suc (length xs) (domain_count b) ∙ ap (λ n. nat_eq (length xs) n) (sym (domain_count-opened (abstracted A b) t (domain_count b) refl)))
    ∙ and_swap (nat_eq (length xs) (domain_count (opened t (abstracted A b)))) (equal_expressions B A) (asked (term_checks (opened t (abstracted A b)) xs))
    ∙ ap₂ (λ y z. y && z) (equal_back B A) (terms_asked (opened t (abstracted A b)) xs)
terms_asked (abstracted A b) (x ∷ xs) = and-false (nat_eq (suc (length xs)) (suc (domain_count b)))

-- equations for domains
pub pairs_asked : (b : Statement) (es : List Statement) → (nat_eq (length es) (domain_count b) && asked (pair_checks b es)) ≡ paired b es
pairs_asked (plain c) [] = refl
pairs_asked (abstracted A b) [] = ap (λ z. z && true) (eqb-zero-suc (domain_count b))
pairs_asked (plain c) (e ∷ es) = ap (λ z. z && asked (pair_checks (plain c) (e ∷ es))) (eqb-suc-zero (length es))
pairs_asked (abstracted A b) (plain (equal_terms s t B) ∷ es) =
    ap (λ z. z && (equal_expressions B A && asked (pair_checks (opened s (abstracted A b)) es))) (eqb-suc-suc (length es) (domain_count b) ∙ ap (λ n. nat_eq (length es) n) (sym (domain_count-opened (abstracted A b) s (domain_count b) refl)))
    ∙ and_swap (nat_eq (length es) (domain_count (opened s (abstracted A b)))) (equal_expressions B A) (asked (pair_checks (opened s (abstracted A b)) es))
    ∙ ap₂ (λ y z. y && z) (equal_back B A) (pairs_asked (opened s (abstracted A b)) es)
pairs_asked (abstracted A b) (e ∷ es) = and-false (nat_eq (suc (length es)) (suc (domain_count b)))
