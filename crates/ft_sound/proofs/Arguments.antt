-- Theses that fit the premises are the arguments that the steps of derivability ask for.
use Rattle.std.proofs.Common.{◌≡◌, ℕ, zero, suc, Bool, true, false, cond, ◌&&◌, Option, List, [], ◌∷◌, refl, sym, ap, ap₂, ◌∙◌, subst}
use Rattle.std.proofs.lemmas.Bool.{and_parts}
use Rattle.ft_common.proofs.Booleans.{false_true}
use Rattle.ft_theory.specs.Expressions.{Expression, bound, free, Arguments, with_body, dummy, act}
use Rattle.ft_theory.specs.Statements.{Claim, term_goal, type_equation_goal, term_equation_goal, Statement, plain, abstracted, map_claim, map_statement, act_statement, domain_count, fill, IsObjectGoal, IsEquationGoal, IsObject, IsEquation}
use Rattle.ft_theory.specs.Rules.{FitsPremises, filled_premises, equated_premises}
use Rattle.ft_laws.proofs.Statements.{domain_count-map, fill_any}
use Rattle.ft_items.specs.Equal.{has_head, head, right_head, fits, fit_all, heads, starts, start_all, right_heads}
use Rattle.ft_items.proofs.SetLemmas.{by_bool}
use Rattle.ft_sound.proofs.EqualLemmas.{fits_true, fits_depth, fits_object, fits_equation, starts_true}

pub object_claim_unmap : (c : Claim) (f : Expression → Expression) → IsObjectGoal (map_claim f c) → IsObjectGoal c
object_claim_unmap (term_goal A) f o = tt
object_claim_unmap c f o = o

pub object_unmap : (x : Statement) (f : ℕ → Expression → Expression) (k : ℕ) → IsObject (map_statement f k x) → IsObject x
object_unmap (plain c) f k o = object_claim_unmap c (f k) o
object_unmap (abstracted A x) f k o = object_unmap x f (suc k) o

pub equation_claim_unmap : (c : Claim) (f : Expression → Expression) → IsEquationGoal (map_claim f c) → IsEquationGoal c
equation_claim_unmap (type_equation_goal A B) f o = tt
equation_claim_unmap (term_equation_goal s t A) f o = tt
equation_claim_unmap c f o = o

pub equation_unmap : (x : Statement) (f : ℕ → Expression → Expression) (k : ℕ) → IsEquation (map_statement f k x) → IsEquation x
equation_unmap (plain c) f k o = equation_claim_unmap c (f k) o
equation_unmap (abstracted A x) f k o = equation_unmap x f (suc k) o

-- what one thesis is for its premise
pub fits_premise : (i : ℕ → ℕ → Option Expression) (b x : Statement) → fits x (act_statement free i b) ≡ true → (x ≡ fill (act_statement free i b) (head x)) × (domain_count x ≡ domain_count b)
fits_premise i b x h = (fits_true x (act_statement free i b) h, fits_depth x (act_statement free i b) h ∙ domain_count-map b (λ l. act free i) zero)

pub fits_premise_object : (i : ℕ → ℕ → Option Expression) (b x : Statement) → fits x (act_statement free i b) ≡ true → has_head x ≡ true → IsObject b
fits_premise_object i b x h k = object_unmap b (λ l. act free i) zero (fits_object x (act_statement free i b) h k)

pub fits_premise_equation : (i : ℕ → ℕ → Option Expression) (b x : Statement) → fits x (act_statement free i b) ≡ true → has_head x ≡ false → IsEquation b × (x ≡ fill (act_statement free i b) (bound zero))
fits_premise_equation i b x h k =
    let e : IsEquation (act_statement free i b) = fits_equation x (act_statement free i b) h k in
    (equation_unmap b (λ l. act free i) zero e, fits_true x (act_statement free i b) h ∙ fill_any (act_statement free i b) (head x) (bound zero) e)

abbrev pub AreArguments : (ℕ → ℕ → Option Expression) → List (ℕ × Statement) → List Statement → Arguments → Type 0
AreArguments i ps xs a = FitsPremises ps a × (filled_premises i ps a ≡ xs)

pub arguments_true : (i : ℕ → ℕ → Option Expression) (ps : List (ℕ × Statement)) (xs : List Statement) → fit_all (act_statement free i) ps xs ≡ true → AreArguments i ps xs (heads xs)
arguments_true i [] [] h = (tt, refl)
arguments_true i [] (x ∷ xs) h = false_true h
arguments_true i (p ∷ ps) [] h = false_true h
arguments_true i (p ∷ ps) (x ∷ xs) h =
    let q : (fits x (act_statement free i p.1) ≡ true) × (fit_all (act_statement free i) ps xs ≡ true) = and_parts (fits x (act_statement free i p.1)) (fit_all (act_statement free i) ps xs) h in
    go (has_head x) q.0 (fits_premise_object i p.1 x q.0) (fits_premise_equation i p.1 x q.0) (arguments_true i ps xs q.1)
  where
    go : (t : Bool) → fits x (act_statement free i p.1) ≡ true → (t ≡ true → IsObject p.1) → (t ≡ false → IsEquation p.1 × (x ≡ fill (act_statement free i p.1) (bound zero))) → AreArguments i ps xs (heads xs)
        → AreArguments i (p ∷ ps) (x ∷ xs) (cond t (with_body (domain_count x) (head x) (heads xs)) (dummy (domain_count x) (heads xs)))
    go true f o e ih = ((((fits_premise i p.1 x f).1, o refl, ih.0)), ap₂ (λ y ys. y ∷ ys) (sym (fits_premise i p.1 x f).0) ih.1)
    go false f o e ih = ((((fits_premise i p.1 x f).1, (e refl).0, ih.0)), ap₂ (λ y ys. y ∷ ys) (sym (e refl).1) ih.1)

abbrev pub AreEqualArguments : (ℕ → ℕ → Option Expression) → List (ℕ × Statement) → List Statement → List Statement → Type 0
AreEqualArguments i ps xs es = FitsPremises ps (right_heads xs es) × (equated_premises i ps (heads xs) (right_heads xs es) ≡ es)

-- with an argument that has no head
no_head : (i : ℕ → ℕ → Option Expression) (p : ℕ × Statement) (ps : List (ℕ × Statement)) (x : Statement) (xs : List Statement) (b : Arguments) (es : List Statement)
    → fits x (act_statement free i p.1) ≡ true → has_head x ≡ false → FitsPremises ps b × (equated_premises i ps (heads xs) b ≡ es)
    → FitsPremises (p ∷ ps) (dummy (domain_count x) b) × (equated_premises i (p ∷ ps) (heads (x ∷ xs)) (dummy (domain_count x) b) ≡ es)
no_head i p ps x xs b es f n ih =
    let k : heads (x ∷ xs) ≡ dummy (domain_count x) (heads xs) = ap (λ t. cond t (with_body (domain_count x) (head x) (heads xs)) (dummy (domain_count x) (heads xs))) n in
    (((fits_premise i p.1 x f).1, (fits_premise_equation i p.1 x f n).0, ih.0), ap (λ a. equated_premises i (p ∷ ps) a (dummy (domain_count x) b)) k ∙ ih.1)

with_head : (i : ℕ → ℕ → Option Expression) (p : ℕ × Statement) (ps : List (ℕ × Statement)) (x e : Statement) (xs : List Statement) (b : Arguments) (es : List Statement)
    → fits x (act_statement free i p.1) ≡ true → has_head x ≡ true → starts x e ≡ true → FitsPremises ps b × (equated_premises i ps (heads xs) b ≡ es)
    → FitsPremises (p ∷ ps) (with_body (domain_count x) (right_head e) b) × (equated_premises i (p ∷ ps) (heads (x ∷ xs)) (with_body (domain_count x) (right_head e) b) ≡ (e ∷ es))
with_head i p ps x e xs b es f n s ih =
    let k : heads (x ∷ xs) ≡ with_body (domain_count x) (head x) (heads xs) = ap (λ t. cond t (with_body (domain_count x) (head x) (heads xs)) (dummy (domain_count x) (heads xs))) n in (
      ((fits_premise i p.1 x f).1, fits_premise_object i p.1 x f n, ih.0),
      ap (λ a. equated_premises i (p ∷ ps) a (with_body (domain_count x) (right_head e) b)) k ∙ ap₂ (λ y ys. y ∷ ys) (sym (starts_true x (act_statement free i p.1) e f s)) ih.1,
    )

pub equations_true : (i : ℕ → ℕ → Option Expression) (ps : List (ℕ × Statement)) (xs es : List Statement) → fit_all (act_statement free i) ps xs ≡ true → start_all xs es ≡ true → AreEqualArguments i ps xs es
equations_true i [] [] [] h k = (tt, refl)
equations_true i [] [] (e ∷ es) h k = false_true k
equations_true i [] (x ∷ xs) es h k = false_true h
equations_true i (p ∷ ps) [] es h k = false_true h
equations_true i (p ∷ ps) (x ∷ xs) [] h k =
    let q : (fits x (act_statement free i p.1) ≡ true) × (fit_all (act_statement free i) ps xs ≡ true) = and_parts (fits x (act_statement free i p.1)) (fit_all (act_statement free i) ps xs) h in
    by_bool (AreEqualArguments i (p ∷ ps) (x ∷ xs) []) (has_head x)
    (λ t. false_true (ap (λ b. cond b false (start_all xs [])) (sym t) ∙ k))
    (λ t. no_head i p ps x xs (right_heads xs []) [] q.0 t (equations_true i ps xs [] q.1 (ap (λ b. cond b false (start_all xs [])) (sym t) ∙ k)))
equations_true i (p ∷ ps) (x ∷ xs) (e ∷ es) h k =
    let q : (fits x (act_statement free i p.1) ≡ true) × (fit_all (act_statement free i) ps xs ≡ true) = and_parts (fits x (act_statement free i p.1)) (fit_all (act_statement free i) ps xs) h in
    by_bool (AreEqualArguments i (p ∷ ps) (x ∷ xs) (e ∷ es)) (has_head x)
    (λ t.
    let r : (starts x e ≡ true) × (start_all xs es ≡ true) = and_parts (starts x e) (start_all xs es) (ap (λ b. cond b (starts x e && start_all xs es) (start_all xs (e ∷ es))) (sym t) ∙ k) in
    subst (λ a. FitsPremises (p ∷ ps) a × (equated_premises i (p ∷ ps) (heads (x ∷ xs)) a ≡ (e ∷ es)))
    (ap (λ b. cond b (with_body (domain_count x) (right_head e) (right_heads xs es)) (dummy (domain_count x) (right_heads xs (e ∷ es)))) (sym t))
    (with_head i p ps x e xs (right_heads xs es) es q.0 t r.0 (equations_true i ps xs es q.1 r.1)))
    (λ t.
    subst (λ a. FitsPremises (p ∷ ps) a × (equated_premises i (p ∷ ps) (heads (x ∷ xs)) a ≡ (e ∷ es)))
    (ap (λ b. cond b (with_body (domain_count x) (right_head e) (right_heads xs es)) (dummy (domain_count x) (right_heads xs (e ∷ es)))) (sym t))
    (no_head i p ps x xs (right_heads xs (e ∷ es)) (e ∷ es) q.0 t (equations_true i ps xs (e ∷ es) q.1 (ap (λ b. cond b (starts x e && start_all xs es) (start_all xs (e ∷ es))) (sym t) ∙ k))))
