-- Arguments tested one by one: each premise at the instance of the arguments before it.
use Rattle.std.proofs.Common.{◌≡◌, ℕ, Bool, true, false, cond, ◌&&◌, Option, Some, List, [], ◌∷◌, ◌++◌, refl, sym, ap, ap₂, ◌∙◌, subst, append_assoc}
use Rattle.ft_theory.specs.Expressions.{Expression, free, no_arguments, with_body, dummy}
use Rattle.ft_theory.specs.Statements.{Statement, act_statement, domain_count, IsObject, IsEquation}
use Rattle.ft_theory.specs.Rules.{Rule, rule_at, instance_of, FitsPremises}
use Rattle.ft_theory.specs.Steps.{Prim}
use Rattle.ft_theory.specs.Derivability.{PremisesHold}
use Rattle.ft_laws.specs.Instances.{followed_by}
use Rattle.ft_laws.proofs.LaterArguments.{statement_followed}
use Rattle.ft_laws.proofs.Finitary.{premise_at, Sound}
use Rattle.ft_items.specs.Equal.{has_head, head, fits, fit_all, heads}
use Rattle.ft_items.specs.Rows.{at_arguments, are_arguments}
use Rattle.ft_sound.proofs.Arguments.{fits_premise, fits_premise_object, fits_premise_equation}

-- the test, argument by argument
abbrev pub fit_each : List (ℕ × Statement) → List Statement → List (ℕ × Statement) → List Statement → Bool
fit_each done given [] [] = true
fit_each done given [] (x ∷ xs) = false
fit_each done given (p ∷ ps) [] = false
fit_each done given (p ∷ ps) (x ∷ xs) = fits x (at_arguments done (heads given) p.1) && fit_each (done ++ (p ∷ [])) (given ++ (x ∷ [])) ps xs

-- the heads of further theses follow the heads of the first
heads_followed : (xs ys : List Statement) → heads (xs ++ ys) ≡ followed_by (heads xs) (heads ys)
heads_followed [] ys = refl
heads_followed (x ∷ xs) ys = go (has_head x) (heads_followed xs ys)
  where
    go : (t : Bool) → heads (xs ++ ys) ≡ followed_by (heads xs) (heads ys)
        → cond t (with_body (domain_count x) (head x) (heads (xs ++ ys))) (dummy (domain_count x) (heads (xs ++ ys)))
        ≡ followed_by (cond t (with_body (domain_count x) (head x) (heads xs)) (dummy (domain_count x) (heads xs))) (heads ys)
    go true e = ap (with_body (domain_count x) (head x)) e
    go false e = ap (dummy (domain_count x)) e

-- what is derived over the premises so far has one instance
pub instance_so_far : (T : List Rule) (ps qs : List (ℕ × Statement)) (xs ys : List Statement) (b : Statement) → FitsPremises ps (heads xs) → Prim T ps [] b → at_arguments (ps ++ qs) (heads (xs ++ ys)) b ≡ at_arguments ps (heads xs) b
instance_so_far T ps qs xs ys b f p = ap (λ z. at_arguments (ps ++ qs) z b) (heads_followed xs ys) ∙ statement_followed T ps qs (heads xs) (heads ys) b f p

-- one more argument fits
fits_last : (ps : List (ℕ × Statement)) (xs : List Statement) (p : ℕ × Statement) (x : Statement) (i : ℕ → ℕ → Option Expression) → FitsPremises ps (heads xs) → fits x (act_statement free i p.1) ≡ true → FitsPremises (ps ++ (p ∷ [])) (heads (xs ++ (x ∷ [])))
fits_last [] [] p x i f h = go (has_head x) (fits_premise_object i p.1 x h) (λ k. (fits_premise_equation i p.1 x h k).0)
  where
    go : (t : Bool) → (t ≡ true → IsObject p.1) → (t ≡ false → IsEquation p.1) → FitsPremises (p ∷ []) (cond t (with_body (domain_count x) (head x) no_arguments) (dummy (domain_count x) no_arguments))
    go true o e = ((fits_premise i p.1 x h).1, o refl, tt)
    go false o e = ((fits_premise i p.1 x h).1, e refl, tt)
fits_last [] (y ∷ xs) p x i f h = none (has_head y) f
  where
    none : {P : Type 0} (t : Bool) → FitsPremises [] (cond t (with_body (domain_count y) (head y) (heads xs)) (dummy (domain_count y) (heads xs))) → P
    none true f = absurd f
    none false f = absurd f
fits_last (q ∷ ps) [] p x i f h = absurd f
fits_last (q ∷ ps) (y ∷ xs) p x i f h = go (has_head y) f (λ g. fits_last ps xs p x i g h)
  where
    go : (t : Bool) → FitsPremises (q ∷ ps) (cond t (with_body (domain_count y) (head y) (heads xs)) (dummy (domain_count y) (heads xs))) → (FitsPremises ps (heads xs) → FitsPremises (ps ++ (p ∷ [])) (heads (xs ++ (x ∷ []))))
        → FitsPremises (q ∷ (ps ++ (p ∷ []))) (cond t (with_body (domain_count y) (head y) (heads (xs ++ (x ∷ [])))) (dummy (domain_count y) (heads (xs ++ (x ∷ [])))))
    go true f ih = (f.0, f.1, ih f.2)
    go false f ih = (f.0, f.1, ih f.2)

and_same : (a b c d : Bool) → a ≡ c → (c ≡ true → b ≡ d) → (a && b) ≡ (c && d)
and_same a b true d e h = ap₂ (λ x y. x && y) e (h refl)
and_same a b false d e h = ap (λ x. x && b) e

each_from : (T : List Rule) (P : List (ℕ × Statement)) → PremisesHold (λ M x. Prim T M [] x) [] P → (done : List (ℕ × Statement)) (given : List Statement) (ps : List (ℕ × Statement)) (xs : List Statement)
    → P ≡ done ++ ps → FitsPremises done (heads given) → fit_all (at_arguments P (heads (given ++ xs))) ps xs ≡ fit_each done given ps xs
each_from T P h done given [] [] e f = refl
each_from T P h done given [] (x ∷ xs) e f = refl
each_from T P h done given (p ∷ ps) [] e f = refl
each_from T P h done given (p ∷ ps) (x ∷ xs) e f =
    let b : Prim T done [] p.1 = (premise_at (λ M x. Prim T M [] x) [] done p ps (subst (PremisesHold (λ M x. Prim T M [] x) []) e h)).1 in
    let w : at_arguments P (heads (given ++ (x ∷ xs))) p.1 ≡ at_arguments done (heads given) p.1 = ap (λ z. at_arguments z (heads (given ++ (x ∷ xs))) p.1) e ∙ instance_so_far T done (p ∷ ps) given (x ∷ xs) p.1 f b in
    and_same (fits x (at_arguments P (heads (given ++ (x ∷ xs))) p.1)) (fit_all (at_arguments P (heads (given ++ (x ∷ xs)))) ps xs) (fits x (at_arguments done (heads given) p.1)) (fit_each (done ++ (p ∷ [])) (given ++ (x ∷ [])) ps xs)
    (ap (fits x) w)
    (λ t. ap (λ z. fit_all (at_arguments P (heads z)) ps xs) (sym (append_assoc given (x ∷ []) xs))
    ∙ each_from T P h (done ++ (p ∷ [])) (given ++ (x ∷ [])) ps xs (e ∙ sym (append_assoc done (p ∷ []) ps)) (fits_last done given p x (instance_of done (heads given)) f t))

-- for a rule of a sound theory both tests are one
pub arguments_one_by_one : (T : List Rule) → Sound T → (r : ℕ) (R : Rule) → rule_at T r ≡ Some R → (xs : List Statement) → are_arguments R.premises xs ≡ fit_each [] [] R.premises xs
arguments_one_by_one T so r R q xs = each_from T R.premises (so r R q).0 [] [] R.premises xs refl tt
