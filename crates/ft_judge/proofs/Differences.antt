-- The outcome of comparisons, and what it says of the statements.
use Rattle.std.proofs.Common.{◌≡◌, ◌≢◌, ℕ, zero, suc, ◌<◌, ◌≤◌, ◌↔◌, inl, inr, List, [], ◌∷◌, ◌++◌, length, get_or, drop, Result, Ok, Err, IsOk, refl, sym, ap, ap₂, ◌∙◌, subst, arith, drop-cons, drop_of_length-le}
use Rattle.std.specs.Prelude.{⊤}
use Rattle.ft_theory.specs.Expressions.{Expression}
use Rattle.ft_theory.specs.Statements.{Claim, has_type, equal_types, equal_terms, Statement, plain, abstracted, fill_goal, fill}
use Rattle.ft_syntax.specs.Table.{tree, AllBelow}
use Rattle.ft_judge.specs.Meaning.{claim_in, goal_in, under, thesis_in, boundary_in, head_of_form, head_in}
use Rattle.ft_judge.specs.Fits.{Comparison, types, pair_of, refusal_of, differ, domain_comparisons, form_comparisons, comparisons, IsFormFor, IsSameForm, IsFirstDifference}
use Rattle.ft_judge.specs.declared.judgement.Form.{Form}
use Rattle.ft_judge.specs.declared.judgement.Form.TheVariants.{Ty, Tm, EqTy, EqTm}
use Rattle.ft_judge.specs.declared.judgement.Goal.{Goal}
use Rattle.ft_judge.specs.declared.judgement.Goal.TheVariants as goal
use Rattle.ft_judge.specs.declared.judgement.Thesis.{Thesis}
use Rattle.ft_judge.specs.declared.judgement.Boundary.{Boundary}
use Rattle.ft_judge.specs.declared.fault.Refusal.{Refusal}
use Rattle.ft_judge.specs.declared.fault.Refusal.TheVariants.{TypeDiffers}
use Rattle.ft_judge.proofs.Filling.{fill_under}

-- one list of comparisons after another
pub append_ok : (ts : List Expression) (cs ds : List Comparison) (r s : Result ⊤ Refusal) → IsFirstDifference ts cs r → IsOk r → IsFirstDifference ts ds s → IsFirstDifference ts (cs ++ ds) s
append_ok ts [] ds r s f o g = g
append_ok ts (c ∷ cs) ds r s (inl f) o g = inl (f.0, append_ok ts cs ds r s f.1 o g)
append_ok ts (c ∷ cs) ds r s (inr f) o g = absurd (no r (refusal_of c) o f.1)
  where
    no : (r : Result ⊤ Refusal) (q : Refusal) → IsOk r → r ≡ Err q → ⊥
    no (Ok x) q o e = cc
    no (Err p) q o e = cc

pub append_err : (ts : List Expression) (cs ds : List Comparison) (q : Refusal) → IsFirstDifference ts cs (Err q) → IsFirstDifference ts (cs ++ ds) (Err q)
append_err ts [] ds q f = cc
append_err ts (c ∷ cs) ds q (inl f) = inl (f.0, append_err ts cs ds q f.1)
append_err ts (c ∷ cs) ds q (inr f) = inr f

-- the loop over the domains
pub record Comparing (ts : List Expression) (xs ys : List ℕ) (i : ℕ) : Type 0 where
  pub rest : (r : Result ⊤ Refusal) → IsFirstDifference ts (domain_comparisons i (drop i xs) (drop i ys)) r → IsFirstDifference ts (domain_comparisons 0 xs ys) r

pub comparing_start : (ts : List Expression) (xs ys : List ℕ) → Comparing ts xs ys 0
comparing_start ts xs ys = record { rest = λ r f. f }

drop_one : (xs : List ℕ) (i x : ℕ) → i < length xs → x ≡ get_or xs i x → drop i xs ≡ x ∷ drop (suc i) xs
drop_one xs i x l h = drop-cons xs i x l ∙ ap (λ y. y ∷ drop (suc i) xs) (sym h)

step : (xs ys : List ℕ) (i x y : ℕ) → i < length xs → i < length ys → x ≡ get_or xs i x → y ≡ get_or ys i y →
    domain_comparisons i (drop i xs) (drop i ys) ≡ types (differ x y i) ∷ domain_comparisons (suc i) (drop (suc i) xs) (drop (suc i) ys)
step xs ys i x y l m g h = ap₂ (domain_comparisons i) (drop_one xs i x l g) (drop_one ys i y m h)

pub comparing_more : (ts : List Expression) (xs ys : List ℕ) (i x y : ℕ) → Comparing ts xs ys i → i < length xs → i < length ys → x ≡ get_or xs i x → y ≡ get_or ys i y → tree ts x ≡ tree ts y → Comparing ts xs ys (suc i)
comparing_more ts xs ys i x y c l m g h e = record { rest = λ r f. c.rest r (subst (λ cs. IsFirstDifference ts cs r) (sym (step xs ys i x y l m g h)) (inl (e, f))) }

pub comparing_refused : (ts : List Expression) (xs ys : List ℕ) (i x y : ℕ) → Comparing ts xs ys i → i < length xs → i < length ys → x ≡ get_or xs i x → y ≡ get_or ys i y → tree ts x ≢ tree ts y →
    IsFirstDifference ts (domain_comparisons 0 xs ys) (Err (TypeDiffers (differ x y i)))
comparing_refused ts xs ys i x y c l m g h n =
    c.rest (Err (TypeDiffers (differ x y i))) (subst (λ cs. IsFirstDifference ts cs (Err (TypeDiffers (differ x y i)))) (sym (step xs ys i x y l m g h)) (inr (n, refl)))

pub comparing_end : (ts : List Expression) (xs ys : List ℕ) (i : ℕ) (r : Result ⊤ Refusal) → Comparing ts xs ys i → length xs ≤ i → IsOk r → IsFirstDifference ts (domain_comparisons 0 xs ys) r
comparing_end ts xs ys i r c l o = c.rest r (subst (λ zs. IsFirstDifference ts (domain_comparisons i zs (drop i ys)) r) (sym (drop_of_length-le xs l)) o)

-- the whole
pub both_parts : (ts : List Expression) (x : Thesis) (b : Boundary) (r : Result ⊤ Refusal) → IsFirstDifference ts (domain_comparisons 0 x.domains b.domains) (Ok tt) → IsFirstDifference ts (form_comparisons (length x.domains) x.form b.goal) r →
    IsFirstDifference ts (comparisons x b) r
both_parts ts x b r f g = append_ok ts (domain_comparisons 0 x.domains b.domains) (form_comparisons (length x.domains) x.form b.goal) (Ok tt) r f refl g

pub first_part : (ts : List Expression) (x : Thesis) (b : Boundary) (q : Refusal) → IsFirstDifference ts (domain_comparisons 0 x.domains b.domains) (Err q) → IsFirstDifference ts (comparisons x b) (Err q)
first_part ts x b q f = append_err ts (domain_comparisons 0 x.domains b.domains) (form_comparisons (length x.domains) x.form b.goal) q f

-- where all are the same
abbrev AllSame : List Expression → List Comparison → Type 0
AllSame ts [] = Unit {0}
AllSame ts (c ∷ cs) = (tree ts (pair_of c).found ≡ tree ts (pair_of c).wanted) × AllSame ts cs

all_same : (ts : List Expression) (cs : List Comparison) (r : Result ⊤ Refusal) → IsFirstDifference ts cs r → IsOk r → AllSame ts cs
all_same ts [] r f o = tt
all_same ts (c ∷ cs) r (inl f) o = (f.0, all_same ts cs r f.1 o)
all_same ts (c ∷ cs) r (inr f) o = absurd (no r (refusal_of c) o f.1)
  where
    no : (r : Result ⊤ Refusal) (q : Refusal) → IsOk r → r ≡ Err q → ⊥
    no (Ok x) q o e = cc
    no (Err p) q o e = cc

same_ok : (ts : List Expression) (cs : List Comparison) (r : Result ⊤ Refusal) → IsFirstDifference ts cs r → AllSame ts cs → IsOk r
same_ok ts [] r f a = f
same_ok ts (c ∷ cs) r (inl f) a = same_ok ts cs r f.1 a.1
same_ok ts (c ∷ cs) r (inr f) a = absurd (f.0 a.0)

same_parts : (ts : List Expression) (cs ds : List Comparison) → AllSame ts (cs ++ ds) → AllSame ts cs × AllSame ts ds
same_parts ts [] ds a = (tt, a)
same_parts ts (c ∷ cs) ds a = let p = same_parts ts cs ds a.1 in ((a.0, p.0), p.1)

parts_same : (ts : List Expression) (cs ds : List Comparison) → AllSame ts cs → AllSame ts ds → AllSame ts (cs ++ ds)
parts_same ts [] ds a b = b
parts_same ts (c ∷ cs) ds a b = (a.0, parts_same ts cs ds a.1 b)

-- the claims
claims_same : (ts : List Expression) (k : ℕ) (f : Form) (g : Goal) → IsFormFor f g → AllSame ts (form_comparisons k f g) → fill_goal (goal_in ts g) (head_in ts (head_of_form f)) ≡ claim_in ts f
claims_same ts k (Ty A) goal.Ty h a = refl
claims_same ts k (Ty A) (goal.Tm B) h a = absurd h
claims_same ts k (Ty A) (goal.EqTy C D) h a = absurd h
claims_same ts k (Ty A) (goal.EqTm u v B) h a = absurd h
claims_same ts k (Tm t A) goal.Ty h a = absurd h
claims_same ts k (Tm t A) (goal.Tm B) h a = ap (has_type (tree ts t)) (sym a.0)
claims_same ts k (Tm t A) (goal.EqTy C D) h a = absurd h
claims_same ts k (Tm t A) (goal.EqTm u v B) h a = absurd h
claims_same ts k (EqTy A B) goal.Ty h a = absurd h
claims_same ts k (EqTy A B) (goal.Tm C) h a = absurd h
claims_same ts k (EqTy A B) (goal.EqTy C D) h a = ap₂ equal_types (sym a.0) (sym a.1.0)
claims_same ts k (EqTy A B) (goal.EqTm u v C) h a = absurd h
claims_same ts k (EqTm s t A) goal.Ty h a = absurd h
claims_same ts k (EqTm s t A) (goal.Tm B) h a = absurd h
claims_same ts k (EqTm s t A) (goal.EqTy C D) h a = absurd h
claims_same ts k (EqTm s t A) (goal.EqTm u v B) h a = ap₂ (λ u C. equal_terms u (tree ts v) C) (sym a.1.0) (sym a.0) ∙ ap (λ u. equal_terms (tree ts s) u (tree ts A)) (sym a.1.1.0)

same_claims : (ts : List Expression) (k : ℕ) (f : Form) (g : Goal) → fill_goal (goal_in ts g) (head_in ts (head_of_form f)) ≡ claim_in ts f → IsFormFor f g × AllSame ts (form_comparisons k f g)
same_claims ts k (Ty A) goal.Ty e = (tt, tt)
same_claims ts k (Ty A) (goal.Tm B) e = cc
same_claims ts k (Ty A) (goal.EqTy C D) e = cc
same_claims ts k (Ty A) (goal.EqTm u v B) e = cc
same_claims ts k (Tm t A) goal.Ty e = cc
same_claims ts k (Tm t A) (goal.Tm B) e = (tt, (cc, tt))
same_claims ts k (Tm t A) (goal.EqTy C D) e = cc
same_claims ts k (Tm t A) (goal.EqTm u v B) e = cc
same_claims ts k (EqTy A B) goal.Ty e = cc
same_claims ts k (EqTy A B) (goal.Tm C) e = cc
same_claims ts k (EqTy A B) (goal.EqTy C D) e = (tt, (cc, (cc, tt)))
same_claims ts k (EqTy A B) (goal.EqTm u v C) e = cc
same_claims ts k (EqTm s t A) goal.Ty e = cc
same_claims ts k (EqTm s t A) (goal.Tm B) e = cc
same_claims ts k (EqTm s t A) (goal.EqTy C D) e = cc
same_claims ts k (EqTm s t A) (goal.EqTm u v B) e = (tt, (cc, (cc, (cc, tt))))

-- the domains
domains_same : (ts : List Expression) (k : ℕ) (As Bs : List ℕ) (c d : Claim) → length As ≡ length Bs → AllSame ts (domain_comparisons k As Bs) → d ≡ c → under ts Bs (plain d) ≡ under ts As (plain c)
domains_same ts k [] [] c d l a e = ap plain e
domains_same ts k [] (B ∷ Bs) c d l a e = absurd (omega (arith, l))
domains_same ts k (A ∷ As) [] c d l a e = absurd (omega (arith, l))
domains_same ts k (A ∷ As) (B ∷ Bs) c d l a e = ap₂ abstracted (sym a.0) (domains_same ts (suc k) As Bs c d (omega (arith, l)) a.1 e)

plain_same : (c d : Claim) → plain c ≡ plain d → c ≡ d
plain_same c d e = cc

no_domain : (A : Expression) (x : Statement) (c : Claim) → plain c ≡ abstracted A x → ⊥
no_domain A x c e = cc

domain_same : (A B : Expression) (x y : Statement) → abstracted A x ≡ abstracted B y → (A ≡ B) × (x ≡ y)
domain_same A B x y e = (cc, cc)

same_domains : (ts : List Expression) (k : ℕ) (As Bs : List ℕ) (c d : Claim) → under ts Bs (plain d) ≡ under ts As (plain c) → (length As ≡ length Bs) × AllSame ts (domain_comparisons k As Bs) × (d ≡ c)
same_domains ts k [] [] c d e = (refl, tt, plain_same d c e)
same_domains ts k [] (B ∷ Bs) c d e = absurd (no_domain (tree ts B) (under ts Bs (plain d)) c (sym e))
same_domains ts k (A ∷ As) [] c d e = absurd (no_domain (tree ts A) (under ts As (plain c)) d e)
same_domains ts k (A ∷ As) (B ∷ Bs) c d e =
    let p = domain_same (tree ts B) (tree ts A) (under ts Bs (plain d)) (under ts As (plain c)) e in
    let q = same_domains ts (suc k) As Bs c d p.1 in
    (ap suc q.0, (sym p.0, q.1), q.2)

-- the meaning
pub fits_meaning : (ts : List Expression) (x : Thesis) (b : Boundary) (r : Result ⊤ Refusal) → IsSameForm x b → IsFirstDifference ts (comparisons x b) r → IsOk r ↔ (fill (boundary_in ts b) (head_in ts (head_of_form x.form)) ≡ thesis_in ts x)
fits_meaning ts x b r s f = (to, from)
  where
    h : Expression
    h = head_in ts (head_of_form x.form)

    to : IsOk r → fill (boundary_in ts b) (head_in ts (head_of_form x.form)) ≡ thesis_in ts x
    to o =
        let a = same_parts ts (domain_comparisons 0 x.domains b.domains) (form_comparisons (length x.domains) x.form b.goal) (all_same ts (comparisons x b) r f o) in
        fill_under ts b.domains (goal_in ts b.goal) (head_in ts (head_of_form x.form))
        ∙ domains_same ts 0 x.domains b.domains (claim_in ts x.form) (fill_goal (goal_in ts b.goal) (head_in ts (head_of_form x.form))) s.1 a.0 (claims_same ts (length x.domains) x.form b.goal s.0 a.1)

    from : fill (boundary_in ts b) (head_in ts (head_of_form x.form)) ≡ thesis_in ts x → IsOk r
    from e =
        let q = same_domains ts 0 x.domains b.domains (claim_in ts x.form) (fill_goal (goal_in ts b.goal) (head_in ts (head_of_form x.form))) (sym (fill_under ts b.domains (goal_in ts b.goal) (head_in ts (head_of_form x.form))) ∙ e) in
        same_ok ts (comparisons x b) r f (parts_same ts (domain_comparisons 0 x.domains b.domains) (form_comparisons (length x.domains) x.form b.goal) q.1 (same_claims ts (length x.domains) x.form b.goal q.2).1)

pub misfit_meaning : (ts : List Expression) (x : Thesis) (b : Boundary) → (IsSameForm x b → ⊥) → fill (boundary_in ts b) (head_in ts (head_of_form x.form)) ≡ thesis_in ts x → ⊥
misfit_meaning ts x b n e =
    let q = same_domains ts 0 x.domains b.domains (claim_in ts x.form) (fill_goal (goal_in ts b.goal) (head_in ts (head_of_form x.form))) (sym (fill_under ts b.domains (goal_in ts b.goal) (head_in ts (head_of_form x.form))) ∙ e) in
    n ((same_claims ts 0 x.form b.goal q.2).0, q.0)
