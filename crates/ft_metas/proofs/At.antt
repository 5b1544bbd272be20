-- A statement with terms for the variables of its first domains.
use Rattle.std.proofs.Common.{◌≡◌, ◌∙◌, ℕ, zero, suc, ◌+◌, ◌<◌, List, [], ◌∷◌, ◌++◌, length, get_or, map, refl, sym, ap, arith}
use Rattle.std.proofs.lemmas.List.{length-map}
use Rattle.ft_theory.specs.Expressions.{Expression, bound, open_at}
use Rattle.ft_theory.specs.Statements.{Claim, is_type, has_type, equal_types, equal_terms, type_goal, term_goal, type_equation_goal, term_equation_goal, Statement, plain, abstracted, map_claim, map_statement, opened, domain, domain_count, at}
use Rattle.ft_syntax.specs.Table.{tree, terms_in, Extends, AllBelow}
use Rattle.ft_syntax.specs.Laws.{tree_extends, one_below}
use Rattle.ft_judge.specs.Meaning.{under}
use Rattle.ft_metas.specs.Putting.{terms_of, with_terms, put_in, claim_with}

-- the type of a domain as it stands
abbrev domain_at : Statement → ℕ → Expression
domain_at (plain c) i = bound zero
domain_at (abstracted A x) zero = A
domain_at (abstracted A x) (suc i) = domain_at x i

-- the claim or goal as it stands
abbrev claim_of : Statement → Claim
claim_of (plain c) = c
claim_of (abstracted A x) = claim_of x

moved_domain : (f : ℕ → Expression → Expression) (k i : ℕ) (x : Statement) → i < domain_count x → domain_at (map_statement f k x) i ≡ f (k + i) (domain_at x i)
moved_domain f k i (plain c) l = absurd (omega (arith, l))
moved_domain f k zero (abstracted A x) l = let e : k ≡ k + 0 = omega arith in ap (λ n. f n A) e
moved_domain f k (suc i) (abstracted A x) l =
    let m : i < domain_count x = omega (arith, l) in
    let e : suc k + i ≡ k + suc i = omega arith in
    moved_domain f (suc k) i x m ∙ ap (λ n. f n (domain_at x i)) e

moved_claim : (f : ℕ → Expression → Expression) (k : ℕ) (x : Statement) → claim_of (map_statement f k x) ≡ map_claim (f (k + domain_count x)) (claim_of x)
moved_claim f k (plain c) = let e : k ≡ k + 0 = omega arith in ap (λ n. map_claim (f n) c) e
moved_claim f k (abstracted A x) =
    let e : suc k + domain_count x ≡ k + suc (domain_count x) = omega arith in
    moved_claim f (suc k) x ∙ ap (λ n. map_claim (f n) (claim_of x)) e

moved_count : (f : ℕ → Expression → Expression) (k : ℕ) (x : Statement) → domain_count (map_statement f k x) ≡ domain_count x
moved_count f k (plain c) = refl
moved_count f k (abstracted A x) = ap suc (moved_count f (suc k) x)

-- the next domain
put_domain : (Ts : List Expression) (x : Statement) → length Ts < domain_count x → domain (at x (terms_of Ts)) ≡ with_terms Ts (domain_at x (length Ts))
put_domain Ts (plain c) l = absurd (omega (arith, l))
put_domain [] (abstracted A x) l = refl
put_domain (T ∷ Ts) (abstracted A x) l =
    let m : length Ts < domain_count x = omega (arith, l) in
    let c : domain_count (opened T (abstracted A x)) ≡ domain_count x = moved_count (λ l. open_at l T) zero x in
    let n : length Ts < domain_count (opened T (abstracted A x)) = omega (arith, m, c) in
    let z : 0 + length Ts ≡ length Ts = omega arith in
    put_domain Ts (opened T (abstracted A x)) n ∙ ap (with_terms Ts) (moved_domain (λ l. open_at l T) zero (length Ts) x m ∙ ap (λ n. open_at n T (domain_at x (length Ts))) z)

-- the claim or goal
claim_same : (c : Claim) → claim_with [] c ≡ c
claim_same (is_type A) = refl
claim_same (has_type t A) = refl
claim_same (equal_types A B) = refl
claim_same (equal_terms s t A) = refl
claim_same type_goal = refl
claim_same (term_goal A) = refl
claim_same (type_equation_goal A B) = refl
claim_same (term_equation_goal s t A) = refl

claim_next : (T : Expression) (Ts : List Expression) (c : Claim) → claim_with Ts (map_claim (open_at (length Ts) T) c) ≡ claim_with (T ∷ Ts) c
claim_next T Ts (is_type A) = refl
claim_next T Ts (has_type t A) = refl
claim_next T Ts (equal_types A B) = refl
claim_next T Ts (equal_terms s t A) = refl
claim_next T Ts type_goal = refl
claim_next T Ts (term_goal A) = refl
claim_next T Ts (type_equation_goal A B) = refl
claim_next T Ts (term_equation_goal s t A) = refl

put_claim : (Ts : List Expression) (x : Statement) → length Ts ≡ domain_count x → at x (terms_of Ts) ≡ plain (claim_with Ts (claim_of x))
put_claim [] (plain c) e = ap plain (sym (claim_same c))
put_claim [] (abstracted A x) e = absurd (omega (arith, e))
put_claim (T ∷ Ts) (plain c) e = absurd (omega (arith, e))
put_claim (T ∷ Ts) (abstracted A x) e =
    let m : length Ts ≡ domain_count x = omega (arith, e) in
    let c : domain_count (opened T (abstracted A x)) ≡ domain_count x = moved_count (λ l. open_at l T) zero x in
    let z : 0 + domain_count x ≡ length Ts = omega (arith, m) in
    put_claim Ts (opened T (abstracted A x)) (m ∙ sym c)
    ∙ ap (λ d. plain (claim_with Ts d)) (moved_claim (λ l. open_at l T) zero x ∙ ap (λ n. map_claim (open_at n T) (claim_of x)) z)
    ∙ ap plain (claim_next T Ts (claim_of x))

-- one more term
pub at_push : (Ts : List Expression) (T : Expression) (x : Statement) → at x (terms_of (Ts ++ T ∷ [])) ≡ opened T (at x (terms_of Ts))
at_push [] T x = refl
at_push (U ∷ Ts) T x = at_push Ts T (opened U x)

-- Under the domains of a table.

pub count_under : (ts : List Expression) (ds : List ℕ) (c : Claim) → domain_count (under ts ds (plain c)) ≡ length ds
count_under ts [] c = refl
count_under ts (d ∷ ds) c = ap suc (count_under ts ds c)

claim_under : (ts : List Expression) (ds : List ℕ) (c : Claim) → claim_of (under ts ds (plain c)) ≡ c
claim_under ts [] c = refl
claim_under ts (d ∷ ds) c = claim_under ts ds c

domain_under : (ts : List Expression) (ds : List ℕ) (c : Claim) (i d : ℕ) → i < length ds → d ≡ get_or ds i d → domain_at (under ts ds (plain c)) i ≡ tree ts d
domain_under ts [] c i d l g = absurd (omega (arith, l))
domain_under ts (e ∷ ds) c zero d l g = ap (tree ts) (sym g)
domain_under ts (e ∷ ds) c (suc i) d l g = let m : i < length ds = omega (arith, l) in domain_under ts ds c i d m g

-- the next domain with the terms found, over a table that goes on
pub domain_is : (ts us : List Expression) (ds : List ℕ) (c : Claim) (found : List ℕ) (i d : ℕ) → Extends ts us → AllBelow (length ts) ds → length found ≡ i → i < length ds → d ≡ get_or ds i d
    → domain (at (under ts ds (plain c)) (terms_of (map (tree us) found))) ≡ put_in us found d
domain_is ts us ds c found i d x b n l g =
    let Ts = map (tree us) found in
    let k : length Ts ≡ length found = length-map found (tree us) in
    let w : domain_count (under ts ds (plain c)) ≡ length ds = count_under ts ds c in
    let m : length Ts < domain_count (under ts ds (plain c)) = omega (arith, k, w, n, l) in
    put_domain Ts (under ts ds (plain c)) m
    ∙ ap (λ n. with_terms Ts (domain_at (under ts ds (plain c)) n)) (k ∙ n)
    ∙ ap (with_terms Ts) (domain_under ts ds c i d l g ∙ sym (tree_extends ts us d x (one_below (length ts) i d ds b l g)))

-- the goal with all terms
pub goal_is : (ts : List Expression) (ds : List ℕ) (c : Claim) (Ts : List Expression) → length Ts ≡ length ds → at (under ts ds (plain c)) (terms_of Ts) ≡ plain (claim_with Ts c)
goal_is ts ds c Ts n = put_claim Ts (under ts ds (plain c)) (n ∙ sym (count_under ts ds c)) ∙ ap (λ c. plain (claim_with Ts c)) (claim_under ts ds c)

-- terms of a table as a list
pub terms_listed : (ts : List Expression) (es : List ℕ) → terms_in ts es ≡ terms_of (map (tree ts) es)
terms_listed ts [] = refl
terms_listed ts (e ∷ es) = ap (Rattle.ft_theory.specs.Expressions.also (tree ts e)) (terms_listed ts es)
