-- What has to be the same, one by one.
use Rattle.std.proofs.Common.{◌≡◌, ◌≢◌, ℕ, zero, suc, ◌+◌, ◌<◌, ◌≤◌, Bool, false, ◌&&◌, List, [], ◌∷◌, ◌++◌, refl, sym, ap, ap₂, ◌∙◌, subst, length, drop, get_or}
use Rattle.std.specs.List.{list_all}
use Rattle.std.proofs.lemmas.List.{drop_more, get_or_default}
use Rattle.std.proofs.Math.ListN.{drop_of_length-le}
use Rattle.std.proofs.Math.Bool.{and_assoc, and-false, and-true}
use Rattle.ft_theory.specs.Expressions.{Expression}
use Rattle.ft_theory.specs.Statements.{Claim, plain, map_claim, map_statement}
use Rattle.ft_items.specs.Equal.{equal_claims, equal_expressions, fits, fits_goal}
use Rattle.ft_syntax.specs.Table.{tree}
use Rattle.ft_judge.specs.Meaning.{under, claim_in, goal_in, thesis_in, boundary_in, FormBelow, GoalBelow}
use Rattle.ft_judge.specs.declared.judgement.Form.{Form}
use Rattle.ft_judge.specs.declared.judgement.Form.TheVariants as form
use Rattle.ft_judge.specs.declared.judgement.Goal.{Goal}
use Rattle.ft_judge.specs.declared.judgement.Goal.TheVariants as goal
use Rattle.ft_judge.specs.declared.judgement.Thesis.{Thesis as ThesisValue}
use Rattle.ft_judge.specs.declared.judgement.Boundary.{Boundary as BoundaryValue}
use Rattle.ft_check.specs.Comparing.{same_at, all_same, domains_same, ComparedBelow}
use Rattle.ft_check.specs.declared.compare.Compared.{Compared}

all_last : {A : Type 0} (f : A → Bool) (xs : List A) (x : A) → list_all f (xs ++ x ∷ []) ≡ (list_all f xs && f x)
all_last f [] x = and-true (f x)
all_last f (y ∷ xs) x = ap (λ b. f y && b) (all_last f xs x) ∙ sym (and_assoc (f y) (list_all f xs) (f x))

pub same_pushed : (ts : List Expression) (j : Expression → Expression) (xs ys : List Compared) (x : Compared) → ys ≡ xs ++ x ∷ [] → all_same ts j ys ≡ (all_same ts j xs && same_at ts j x)
same_pushed ts j xs ys x e = ap (all_same ts j) e ∙ all_last (same_at ts j) xs x

below_last : (n : ℕ) (xs : List Compared) (x : Compared) → ComparedBelow n xs → x.found < n → x.wanted < n → ComparedBelow n (xs ++ x ∷ [])
below_last n [] x h f w = (f, w, tt)
below_last n (y ∷ xs) x h f w = (h.0, h.1, below_last n xs x h.2 f w)

pub below_pushed : (n : ℕ) (xs ys : List Compared) (x : Compared) → ys ≡ xs ++ x ∷ [] → ComparedBelow n xs → x.found < n → x.wanted < n → ComparedBelow n ys
below_pushed n xs ys x e h f w = subst (ComparedBelow n) (sym e) (below_last n xs x h f w)

-- the domains
domains_at : (ts : List Expression) (j : Expression → Expression) (As Bs : List ℕ) (k A B : ℕ) → k < length As → k < length Bs → A ≡ get_or As k A → B ≡ get_or Bs k B
    → domains_same ts j (drop k As) (drop k Bs) ≡ (equal_expressions (tree ts A) (j (tree ts B)) && domains_same ts j (drop (k + 1) As) (drop (k + 1) Bs))
domains_at ts j As Bs k A B l m e f =
    ap₂ (domains_same ts j) (drop_more As k 0 l) (drop_more Bs k 0 m)
    ∙ ap₂ (λ A B. equal_expressions (tree ts A) (j (tree ts B)) && domains_same ts j (drop (k + 1) As) (drop (k + 1) Bs)) (get_or_default As k 0 A l ∙ sym e) (get_or_default Bs k 0 B m ∙ sym f)

pub domains_next : (ts : List Expression) (j : Expression → Expression) (As Bs : List ℕ) (k A B : ℕ) (a b c : Bool) → length As ≡ length Bs → k < length As → A ≡ get_or As k A → B ≡ get_or Bs k B
    → a ≡ (b && domains_same ts j (drop k As) (drop k Bs)) → c ≡ (b && equal_expressions (tree ts A) (j (tree ts B))) → a ≡ (c && domains_same ts j (drop (k + 1) As) (drop (k + 1) Bs))
domains_next ts j As Bs k A B a b c same l e f h g =
    let m : k < length Bs = subst (λ n. k < n) same l in
    h ∙ ap (λ d. b && d) (domains_at ts j As Bs k A B l m e f)
    ∙ sym (and_assoc b (equal_expressions (tree ts A) (j (tree ts B))) (domains_same ts j (drop (k + 1) As) (drop (k + 1) Bs)))
    ∙ ap (λ d. d && domains_same ts j (drop (k + 1) As) (drop (k + 1) Bs)) (sym g)

pub domains_end : (ts : List Expression) (j : Expression → Expression) (As Bs : List ℕ) (k : ℕ) (a b : Bool) → length As ≡ length Bs → length As ≤ k → a ≡ (b && domains_same ts j (drop k As) (drop k Bs)) → b ≡ a
domains_end ts j As Bs k a b same l h =
    sym (h ∙ ap₂ (λ As Bs. b && domains_same ts j As Bs) (drop_of_length-le As l) (drop_of_length-le Bs (subst (λ n. n ≤ k) same l)) ∙ and-true b)

-- forms and goals
pub two_pushed : (a b c x y : Bool) → a ≡ (c && x) → b ≡ (a && y) → b ≡ (c && (x && y))
two_pushed a b c x y e f = f ∙ ap (λ d. d && y) e ∙ and_assoc c x y

pub three_pushed : (a b d c x y z : Bool) → a ≡ (c && x) → b ≡ (a && y) → d ≡ (b && z) → d ≡ (c && ((x && y) && z))
three_pushed a b d c x y z e f g = g ∙ ap (λ t. t && z) (two_pushed a b c x y e f) ∙ and_assoc c (x && y) z

pub tm_below : (n : ℕ) (f : Form) (g : Goal) (t A B : ℕ) → f ≡ form.Tm t A → g ≡ goal.Tm B → FormBelow n f → GoalBelow n g → (A < n) × (B < n)
tm_below n f g t A B e d h k = ((subst (FormBelow n) e h).1, subst (GoalBelow n) d k)

pub types_below : (n : ℕ) (f : Form) (g : Goal) (A B C D : ℕ) → f ≡ form.EqTy A B → g ≡ goal.EqTy C D → FormBelow n f → GoalBelow n g → ((A < n) × (C < n)) × ((B < n) × (D < n))
types_below n f g A B C D e d h k = let x = subst (FormBelow n) e h in let y = subst (GoalBelow n) d k in ((x.0, y.0), (x.1, y.1))

pub terms_below : (n : ℕ) (f : Form) (g : Goal) (s t A u v B : ℕ) → f ≡ form.EqTm s t A → g ≡ goal.EqTm u v B → FormBelow n f → GoalBelow n g → ((A < n) × (B < n)) × ((s < n) × (u < n)) × ((t < n) × (v < n))
terms_below n f g s t A u v B e d h k = let x = subst (FormBelow n) e h in let y = subst (GoalBelow n) d k in ((x.2, y.2), (x.0, y.0), (x.1, y.1))

pub types_same : (ts : List Expression) (j : Expression → Expression) (f : Form) (g : Goal) (A B C D : ℕ) (a b c : Bool) → f ≡ form.EqTy A B → g ≡ goal.EqTy C D
    → a ≡ (c && equal_expressions (tree ts A) (j (tree ts C))) → b ≡ (a && equal_expressions (tree ts B) (j (tree ts D))) → b ≡ (c && fits_goal (claim_in ts f) (map_claim j (goal_in ts g)))
types_same ts j f g A B C D a b c e d h k =
    two_pushed a b c (equal_expressions (tree ts A) (j (tree ts C))) (equal_expressions (tree ts B) (j (tree ts D))) h k
    ∙ ap₂ (λ f g. c && fits_goal (claim_in ts f) (map_claim j (goal_in ts g))) (sym e) (sym d)

pub goal_tm_below : (n : ℕ) (f g : Goal) (A B : ℕ) → f ≡ goal.Tm A → g ≡ goal.Tm B → GoalBelow n f → GoalBelow n g → (A < n) × (B < n)
goal_tm_below n f g A B e d h k = (subst (GoalBelow n) e h, subst (GoalBelow n) d k)

pub goal_types_below : (n : ℕ) (f g : Goal) (A B C D : ℕ) → f ≡ goal.EqTy A B → g ≡ goal.EqTy C D → GoalBelow n f → GoalBelow n g → ((A < n) × (C < n)) × ((B < n) × (D < n))
goal_types_below n f g A B C D e d h k = let x = subst (GoalBelow n) e h in let y = subst (GoalBelow n) d k in ((x.0, y.0), (x.1, y.1))

pub goal_terms_below : (n : ℕ) (f g : Goal) (s t A u v B : ℕ) → f ≡ goal.EqTm s t A → g ≡ goal.EqTm u v B → GoalBelow n f → GoalBelow n g → ((s < n) × (u < n)) × ((t < n) × (v < n)) × ((A < n) × (B < n))
goal_terms_below n f g s t A u v B e d h k = let x = subst (GoalBelow n) e h in let y = subst (GoalBelow n) d k in ((x.0, y.0), (x.1, y.1), (x.2, y.2))

pub goal_types_same : (ts : List Expression) (j : Expression → Expression) (f g : Goal) (A B C D : ℕ) (a b c : Bool) → f ≡ goal.EqTy A B → g ≡ goal.EqTy C D
    → a ≡ (c && equal_expressions (tree ts A) (j (tree ts C))) → b ≡ (a && equal_expressions (tree ts B) (j (tree ts D))) → b ≡ (c && equal_claims (goal_in ts f) (map_claim j (goal_in ts g)))
goal_types_same ts j f g A B C D a b c e d h k =
    two_pushed a b c (equal_expressions (tree ts A) (j (tree ts C))) (equal_expressions (tree ts B) (j (tree ts D))) h k
    ∙ ap₂ (λ f g. c && equal_claims (goal_in ts f) (map_claim j (goal_in ts g))) (sym e) (sym d)

-- a thesis
fits_under : (ts : List Expression) (j : Expression → Expression) (m : ℕ) (As Bs : List ℕ) (c d : Claim) → (domains_same ts j As Bs && fits_goal c (map_claim j d)) ≡ fits (under ts As (plain c)) (map_statement (λ k. j) m (under ts Bs (plain d)))
fits_under ts j m [] [] c d = refl
fits_under ts j m [] (B ∷ Bs) c d = refl
fits_under ts j m (A ∷ As) [] c d = refl
fits_under ts j m (A ∷ As) (B ∷ Bs) c d =
    and_assoc (equal_expressions (tree ts A) (j (tree ts B))) (domains_same ts j As Bs) (fits_goal c (map_claim j d))
    ∙ ap (λ b. equal_expressions (tree ts A) (j (tree ts B)) && b) (fits_under ts j (suc m) As Bs c d)

pub thesis_fits : (ts : List Expression) (j : Expression → Expression) (x : ThesisValue) (b : BoundaryValue) (As Bs : List ℕ) (o m n : Bool) → As ≡ x.domains → Bs ≡ b.domains → m ≡ (o && domains_same ts j As Bs) → n ≡ (m && fits_goal (claim_in ts x.form) (map_claim j (goal_in ts b.goal)))
    → n ≡ (o && fits (thesis_in ts x) (map_statement (λ k. j) zero (boundary_in ts b)))
thesis_fits ts j x b As Bs o m n d g e f =
    f ∙ ap (λ m. m && fits_goal (claim_in ts x.form) (map_claim j (goal_in ts b.goal))) (e ∙ ap₂ (λ As Bs. o && domains_same ts j As Bs) d g)
    ∙ and_assoc o (domains_same ts j x.domains b.domains) (fits_goal (claim_in ts x.form) (map_claim j (goal_in ts b.goal)))
    ∙ ap (λ b. o && b) (fits_under ts j zero x.domains b.domains (claim_in ts x.form) (goal_in ts b.goal))

pub other_domains : (ts : List Expression) (j : Expression → Expression) (As Bs : List ℕ) → length As ≢ length Bs → domains_same ts j As Bs ≡ false
other_domains ts j [] [] n = absurd (n refl)
other_domains ts j [] (B ∷ Bs) n = refl
other_domains ts j (A ∷ As) [] n = refl
other_domains ts j (A ∷ As) (B ∷ Bs) n = ap (λ b. equal_expressions (tree ts A) (j (tree ts B)) && b) (other_domains ts j As Bs (λ e. n (ap suc e))) ∙ and-false (equal_expressions (tree ts A) (j (tree ts B)))

pub no_thesis_fits : (ts : List Expression) (j : Expression → Expression) (x : ThesisValue) (b : BoundaryValue) (o : Bool) → length x.domains ≢ length b.domains → false ≡ (o && fits (thesis_in ts x) (map_statement (λ k. j) zero (boundary_in ts b)))
no_thesis_fits ts j x b o n =
    sym (and-false o)
    ∙ ap (λ b. o && b) (ap (λ d. d && fits_goal (claim_in ts x.form) (map_claim j (goal_in ts b.goal))) (sym (other_domains ts j x.domains b.domains n)) ∙ fits_under ts j zero x.domains b.domains (claim_in ts x.form) (goal_in ts b.goal))
