-- Comparison of a thesis with a boundary over a table, as checks of the reference.
use Rattle.std.proofs.Common.{◌≡◌, ◌≢◌, ◌∙◌, ℕ, zero, suc, ◌+◌, ◌<◌, Bool, true, false, cond, ◌⊎◌, inl, inr, Some, List, [], ◌∷◌, ◌++◌, length, map, refl, sym, ap, subst, arith}
use Rattle.std.specs.Prelude.{Result, Ok, Err, ⊤, nat_eq}
use Rattle.std.proofs.lemmas.Bool.Decides.{eqb_tells}
use Rattle.ft_theory.specs.Expressions.{Expression}
use Rattle.ft_theory.specs.Statements.{Claim, plain, boundary_of_claim, boundary_of}
use Rattle.ft_items.specs.Equal.{equal_expressions}
use Rattle.ft_sound.proofs.EqualLemmas.{expression_true, expression_self}
use Rattle.ft_reference.specs.Refusals.{Check, first_refusal}
use Rattle.ft_reference.specs.Refusals as reference
use Rattle.ft_reference.specs.Compare.{type_check, side_check, same_form, is_alike, goal_checks, domain_checks, fit_checks}
use Rattle.ft_syntax.specs.Table.{tree, AllBelow}
use Rattle.ft_judge.specs.Meaning.{claim_in, goal_in, under, thesis_in, boundary_in, FormBelow, GoalBelow, ThesisBelow, BoundaryBelow}
use Rattle.ft_judge.specs.Fits.{Comparison, types, sides, pair_of, refusal_of, domain_comparisons, form_comparisons, comparisons, IsFormFor, IsSameForm, IsFirstDifference}
use Rattle.ft_judge.specs.declared.judgement.Form.{Form}
use Rattle.ft_judge.specs.declared.judgement.Form.TheVariants.{Ty, Tm, EqTy, EqTm}
use Rattle.ft_judge.specs.declared.judgement.Goal.{Goal}
use Rattle.ft_judge.specs.declared.judgement.Goal.TheVariants as goal
use Rattle.ft_judge.specs.declared.judgement.Thesis.{Thesis}
use Rattle.ft_judge.specs.declared.judgement.Boundary.{Boundary}
use Rattle.ft_judge.specs.declared.fault.Differ.{Differ}
use Rattle.ft_judge.specs.declared.fault.Refusal.{Refusal}
use Rattle.ft_judge.specs.declared.fault.Refusal.TheVariants.{WrongForm}
use Rattle.ft_apply.specs.Outcomes.{Tests}

-- the check that a comparison is
abbrev check_of : List Expression → Comparison → Check
check_of ts (types d) = type_check d.under (tree ts d.found) (tree ts d.wanted)
check_of ts (sides d) = side_check d.under (tree ts d.found) (tree ts d.wanted)

abbrev BothBelow : ℕ → List Comparison → Type 0
BothBelow n [] = Unit {0}
BothBelow n (c ∷ cs) = (((pair_of c).found < n) × ((pair_of c).wanted < n)) × BothBelow n cs

-- the outcome of comparisons is that of their checks
same_test : (e f : Expression) → e ≡ f → equal_expressions e f ≡ true
same_test e f h = subst (λ g. equal_expressions e g ≡ true) h (expression_self e)

other_test : (e f : Expression) → e ≢ f → equal_expressions e f ≡ false
other_test e f n = go (equal_expressions e f) refl
  where
    go : (b : Bool) → equal_expressions e f ≡ b → equal_expressions e f ≡ false
    go true h = absurd (n (expression_true e f h))
    go false h = h

first_is : (ts : List Expression) (cs : List Comparison) (r : Result ⊤ Refusal) → BothBelow (length ts) cs → IsFirstDifference ts cs r → Tests ts (map (check_of ts) cs) r
first_is ts [] (Ok x) b f = refl
first_is ts [] (Err q) b f = let no : ⊥ = cc in absurd no
first_is ts (types d ∷ cs) r b (inl f) =
    passes ts d cs r (same_test (tree ts d.found) (tree ts d.wanted) f.0) (first_is ts cs r b.1 f.1)
  where
    passes : (ts : List Expression) (d : Differ) (cs : List Comparison) (r : Result ⊤ Refusal) → equal_expressions (tree ts d.found) (tree ts d.wanted) ≡ true → Tests ts (map (check_of ts) cs) r → Tests ts (map (check_of ts) (types d ∷ cs)) r
    passes ts d cs (Ok x) e h = ap (λ b. cond b (first_refusal (map (check_of ts) cs)) (Some (reference.refusal_of (check_of ts (types d))))) e ∙ h
    passes ts d cs (Err q) e h = (ap (λ b. cond b (first_refusal (map (check_of ts) cs)) (Some (reference.refusal_of (check_of ts (types d))))) e ∙ h.0, h.1)
first_is ts (sides d ∷ cs) r b (inl f) =
    passes ts d cs r (same_test (tree ts d.found) (tree ts d.wanted) f.0) (first_is ts cs r b.1 f.1)
  where
    passes : (ts : List Expression) (d : Differ) (cs : List Comparison) (r : Result ⊤ Refusal) → equal_expressions (tree ts d.found) (tree ts d.wanted) ≡ true → Tests ts (map (check_of ts) cs) r → Tests ts (map (check_of ts) (sides d ∷ cs)) r
    passes ts d cs (Ok x) e h = ap (λ b. cond b (first_refusal (map (check_of ts) cs)) (Some (reference.refusal_of (check_of ts (sides d))))) e ∙ h
    passes ts d cs (Err q) e h = (ap (λ b. cond b (first_refusal (map (check_of ts) cs)) (Some (reference.refusal_of (check_of ts (sides d))))) e ∙ h.0, h.1)
first_is ts (types d ∷ cs) r b (inr f) =
    subst (Tests ts (map (check_of ts) (types d ∷ cs))) (sym f.1)
    (ap (λ b. cond b (first_refusal (map (check_of ts) cs)) (Some (reference.refusal_of (check_of ts (types d))))) (other_test (tree ts d.found) (tree ts d.wanted) f.0), b.0)
first_is ts (sides d ∷ cs) r b (inr f) =
    subst (Tests ts (map (check_of ts) (sides d ∷ cs))) (sym f.1)
    (ap (λ b. cond b (first_refusal (map (check_of ts) cs)) (Some (reference.refusal_of (check_of ts (sides d))))) (other_test (tree ts d.found) (tree ts d.wanted) f.0), b.0)

-- what is compared is what is checked
forms_alike : (f : Form) (g : Goal) → (IsFormFor f g × ((ts : List Expression) → same_form (boundary_of_claim (claim_in ts f)) (goal_in ts g) ≡ true))
    ⊎ ((IsFormFor f g → ⊥) × ((ts : List Expression) → same_form (boundary_of_claim (claim_in ts f)) (goal_in ts g) ≡ false))
forms_alike (Ty A) goal.Ty = inl (tt, λ ts. refl)
forms_alike (Ty A) (goal.Tm B) = inr (λ h. h, λ ts. refl)
forms_alike (Ty A) (goal.EqTy C D) = inr (λ h. h, λ ts. refl)
forms_alike (Ty A) (goal.EqTm u v B) = inr (λ h. h, λ ts. refl)
forms_alike (Tm t A) goal.Ty = inr (λ h. h, λ ts. refl)
forms_alike (Tm t A) (goal.Tm B) = inl (tt, λ ts. refl)
forms_alike (Tm t A) (goal.EqTy C D) = inr (λ h. h, λ ts. refl)
forms_alike (Tm t A) (goal.EqTm u v B) = inr (λ h. h, λ ts. refl)
forms_alike (EqTy A B) goal.Ty = inr (λ h. h, λ ts. refl)
forms_alike (EqTy A B) (goal.Tm C) = inr (λ h. h, λ ts. refl)
forms_alike (EqTy A B) (goal.EqTy C D) = inl (tt, λ ts. refl)
forms_alike (EqTy A B) (goal.EqTm u v C) = inr (λ h. h, λ ts. refl)
forms_alike (EqTm s t A) goal.Ty = inr (λ h. h, λ ts. refl)
forms_alike (EqTm s t A) (goal.Tm B) = inr (λ h. h, λ ts. refl)
forms_alike (EqTm s t A) (goal.EqTy C D) = inr (λ h. h, λ ts. refl)
forms_alike (EqTm s t A) (goal.EqTm u v B) = inl (tt, λ ts. refl)

form_checked : (ts : List Expression) (n : ℕ) (f : Form) (g : Goal) → IsFormFor f g → goal_checks n (boundary_of_claim (claim_in ts f)) (goal_in ts g) ≡ map (check_of ts) (form_comparisons n f g)
form_checked ts n (Ty A) goal.Ty h = refl
form_checked ts n (Ty A) (goal.Tm B) h = absurd h
form_checked ts n (Ty A) (goal.EqTy C D) h = absurd h
form_checked ts n (Ty A) (goal.EqTm u v B) h = absurd h
form_checked ts n (Tm t A) goal.Ty h = absurd h
form_checked ts n (Tm t A) (goal.Tm B) h = refl
form_checked ts n (Tm t A) (goal.EqTy C D) h = absurd h
form_checked ts n (Tm t A) (goal.EqTm u v B) h = absurd h
form_checked ts n (EqTy A B) goal.Ty h = absurd h
form_checked ts n (EqTy A B) (goal.Tm C) h = absurd h
form_checked ts n (EqTy A B) (goal.EqTy C D) h = refl
form_checked ts n (EqTy A B) (goal.EqTm u v C) h = absurd h
form_checked ts n (EqTm s t A) goal.Ty h = absurd h
form_checked ts n (EqTm s t A) (goal.Tm B) h = absurd h
form_checked ts n (EqTm s t A) (goal.EqTy C D) h = absurd h
form_checked ts n (EqTm s t A) (goal.EqTm u v B) h = refl

form_below : (m n : ℕ) (f : Form) (g : Goal) → IsFormFor f g → FormBelow m f → GoalBelow m g → BothBelow m (form_comparisons n f g)
form_below m n (Ty A) goal.Ty h a b = tt
form_below m n (Ty A) (goal.Tm B) h a b = absurd h
form_below m n (Ty A) (goal.EqTy C D) h a b = absurd h
form_below m n (Ty A) (goal.EqTm u v B) h a b = absurd h
form_below m n (Tm t A) goal.Ty h a b = absurd h
form_below m n (Tm t A) (goal.Tm B) h a b = ((a.1, b), tt)
form_below m n (Tm t A) (goal.EqTy C D) h a b = absurd h
form_below m n (Tm t A) (goal.EqTm u v B) h a b = absurd h
form_below m n (EqTy A B) goal.Ty h a b = absurd h
form_below m n (EqTy A B) (goal.Tm C) h a b = absurd h
form_below m n (EqTy A B) (goal.EqTy C D) h a b = ((a.0, b.0), ((a.1, b.1), tt))
form_below m n (EqTy A B) (goal.EqTm u v C) h a b = absurd h
form_below m n (EqTm s t A) goal.Ty h a b = absurd h
form_below m n (EqTm s t A) (goal.Tm B) h a b = absurd h
form_below m n (EqTm s t A) (goal.EqTy C D) h a b = absurd h
form_below m n (EqTm s t A) (goal.EqTm u v B) h a b = ((a.2, b.2), ((a.0, b.0), ((a.1, b.1), tt)))

alike_under : (ts : List Expression) (As Bs : List ℕ) (c d : Claim) → length As ≡ length Bs → is_alike (boundary_of (under ts As (plain c))) (under ts Bs (plain d)) ≡ same_form (boundary_of_claim c) d
alike_under ts [] [] c d e = refl
alike_under ts [] (B ∷ Bs) c d e = absurd (omega (arith, e))
alike_under ts (A ∷ As) [] c d e = absurd (omega (arith, e))
alike_under ts (A ∷ As) (B ∷ Bs) c d e = alike_under ts As Bs c d (omega (arith, e))

other_under : (ts : List Expression) (As Bs : List ℕ) (c d : Claim) → length As ≢ length Bs → is_alike (boundary_of (under ts As (plain c))) (under ts Bs (plain d)) ≡ false
other_under ts [] [] c d n = absurd (n refl)
other_under ts [] (B ∷ Bs) c d n = refl
other_under ts (A ∷ As) [] c d n = refl
other_under ts (A ∷ As) (B ∷ Bs) c d n = other_under ts As Bs c d (λ e. n (ap suc e))

domains_checked : (ts : List Expression) (n : ℕ) (As Bs : List ℕ) (f : Form) (g : Goal) → length As ≡ length Bs → IsFormFor f g
    → domain_checks n (boundary_of (under ts As (plain (claim_in ts f)))) (under ts Bs (plain (goal_in ts g))) ≡ map (check_of ts) (domain_comparisons n As Bs ++ form_comparisons (n + length As) f g)
domains_checked ts n [] [] f g e h = let z : n ≡ n + 0 = omega arith in form_checked ts n f g h ∙ ap (λ k. map (check_of ts) (form_comparisons k f g)) z
domains_checked ts n [] (B ∷ Bs) f g e h = absurd (omega (arith, e))
domains_checked ts n (A ∷ As) [] f g e h = absurd (omega (arith, e))
domains_checked ts n (A ∷ As) (B ∷ Bs) f g e h =
    let z : suc n + length As ≡ n + suc (length As) = omega arith in
    ap (λ cs. type_check n (tree ts A) (tree ts B) ∷ cs)
    (domains_checked ts (suc n) As Bs f g (omega (arith, e)) h ∙ ap (λ k. map (check_of ts) (domain_comparisons (suc n) As Bs ++ form_comparisons k f g)) z)

all_checked : (ts : List Expression) (As Bs : List ℕ) (f : Form) (g : Goal) → length As ≡ length Bs → IsFormFor f g
    → domain_checks zero (boundary_of (under ts As (plain (claim_in ts f)))) (under ts Bs (plain (goal_in ts g))) ≡ map (check_of ts) (domain_comparisons zero As Bs ++ form_comparisons (length As) f g)
all_checked ts As Bs f g e h =
    let z : zero + length As ≡ length As = omega arith in
    domains_checked ts zero As Bs f g e h ∙ ap (λ k. map (check_of ts) (domain_comparisons zero As Bs ++ form_comparisons k f g)) z

both_append : (n : ℕ) (cs ds : List Comparison) → BothBelow n cs → BothBelow n ds → BothBelow n (cs ++ ds)
both_append n [] ds a b = b
both_append n (c ∷ cs) ds a b = (a.0, both_append n cs ds a.1 b)

domains_below : (m n : ℕ) (As Bs : List ℕ) → AllBelow m As → AllBelow m Bs → BothBelow m (domain_comparisons n As Bs)
domains_below m n [] Bs a b = tt
domains_below m n (A ∷ As) [] a b = tt
domains_below m n (A ∷ As) (B ∷ Bs) a b = ((a.0, b.0), domains_below m (suc n) As Bs a.1 b.1)

-- The outcome of the comparison of a thesis with a boundary.
asked_first : (ts : List Expression) (b : Bool) (cs : List Check) (r : Result ⊤ Refusal) → b ≡ true → Tests ts cs r → Tests ts (reference.asks b reference.WrongForm ∷ cs) r
asked_first ts b cs (Ok x) e h = ap (λ b. cond b (first_refusal cs) (Some reference.WrongForm)) e ∙ h
asked_first ts b cs (Err q) e h = (ap (λ b. cond b (first_refusal cs) (Some reference.WrongForm)) e ∙ h.0, h.1)

wrong_first : (ts : List Expression) (b : Bool) (cs : List Check) (r : Result ⊤ Refusal) → b ≡ false → r ≡ Err WrongForm → Tests ts (reference.asks b reference.WrongForm ∷ cs) r
wrong_first ts b cs r e h = subst (Tests ts (reference.asks b reference.WrongForm ∷ cs)) (sym h) (ap (λ b. cond b (first_refusal cs) (Some reference.WrongForm)) e, tt)

pub fit_tested : (ts : List Expression) (x : Thesis) (b : Boundary) (r : Result ⊤ Refusal) → ThesisBelow (length ts) x → BoundaryBelow (length ts) b → ((IsSameForm x b → ⊥) → r ≡ Err WrongForm)
    → (IsSameForm x b → IsFirstDifference ts (comparisons x b) r) → Tests ts (fit_checks (thesis_in ts x) (boundary_in ts b)) r
fit_tested ts x b r below bound wrong first = go (forms_alike x.form b.goal) (eqb_tells (length x.domains) (length b.domains))
  where
    cs : List Check
    cs = domain_checks zero (boundary_of (thesis_in ts x)) (boundary_in ts b)

    go : (IsFormFor x.form b.goal × ((ts : List Expression) → same_form (boundary_of_claim (claim_in ts x.form)) (goal_in ts b.goal) ≡ true)) ⊎ ((IsFormFor x.form b.goal → ⊥) × ((ts : List Expression) → same_form (boundary_of_claim (claim_in ts x.form)) (goal_in ts b.goal) ≡ false))
        → ((nat_eq (length x.domains) (length b.domains) ≡ true) × (length x.domains ≡ length b.domains)) ⊎ ((nat_eq (length x.domains) (length b.domains) ≡ false) × (length x.domains ≢ length b.domains)) → Tests ts (fit_checks (thesis_in ts x) (boundary_in ts b)) r
    go (inl f) (inl e) =
        asked_first ts (is_alike (boundary_of (thesis_in ts x)) (boundary_in ts b)) cs r (alike_under ts x.domains b.domains (claim_in ts x.form) (goal_in ts b.goal) e.1 ∙ f.1 ts)
        (subst (λ ds. Tests ts ds r) (sym (all_checked ts x.domains b.domains x.form b.goal e.1 f.0))
        (first_is ts (domain_comparisons zero x.domains b.domains ++ form_comparisons (length x.domains) x.form b.goal) r
        (both_append (length ts) (domain_comparisons zero x.domains b.domains) (form_comparisons (length x.domains) x.form b.goal) (domains_below (length ts) zero x.domains b.domains below.0 bound.0) (form_below (length ts) (length x.domains) x.form b.goal f.0 below.1 bound.1))
        (first (f.0, e.1))))
    go (inl f) (inr n) = wrong_first ts (is_alike (boundary_of (thesis_in ts x)) (boundary_in ts b)) cs r (other_under ts x.domains b.domains (claim_in ts x.form) (goal_in ts b.goal) n.1) (wrong (λ s. n.1 s.1))
    go (inr f) (inl e) = wrong_first ts (is_alike (boundary_of (thesis_in ts x)) (boundary_in ts b)) cs r (alike_under ts x.domains b.domains (claim_in ts x.form) (goal_in ts b.goal) e.1 ∙ f.1 ts) (wrong (λ s. f.0 s.0))
    go (inr f) (inr n) = wrong_first ts (is_alike (boundary_of (thesis_in ts x)) (boundary_in ts b)) cs r (other_under ts x.domains b.domains (claim_in ts x.form) (goal_in ts b.goal) n.1) (wrong (λ s. n.1 s.1))
