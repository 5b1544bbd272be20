-- Whether claims fit goals, one by one.
use Rattle.std.proofs.Common.{◌≡◌, ◌↔◌, ◌∙◌, sym, ap, refl, subst, ℕ, zero, suc, ◌+◌, ◌<◌, ◌≤◌, ◌≢◌, Bool, true, false, ◌&&◌, List, [], ◌∷◌, length, drop, get_or, ap₂, IsTrue, arith}
use Rattle.std.specs.Cmp.{both_ways}
use Rattle.std.proofs.lemmas.List.{drop_more}
use Rattle.std.proofs.Math.ListN.{drop_of_length-le}
use Rattle.ft_theory.specs.Expressions.{Expression}
use Rattle.ft_items.specs.Equal.{equal_expressions}
use Rattle.ft_sound.proofs.EqualLemmas.{expression_true, expression_self}
use Rattle.ft_judge.specs.Meaning.{FormBelow}
use Rattle.ft_judge.specs.declared.judgement.Goal.{Goal}
use Rattle.ft_run.specs.declared.session.Claimed.{Claimed}
use Rattle.ft_run.specs.Session.{AllFitGoals, FitsGoal, AllClaimsBelow}
use Rattle.ft_run.specs.Given.{fits_one, fits_goals}

-- a test that decides whether expressions are the same is the definition's
pub by_equal : (e f : Expression) (b : Bool) → (IsTrue b ↔ (e ≡ f)) → b ≡ equal_expressions e f
by_equal e f b h = both_ways b (equal_expressions e f)
    (λ yes. subst (λ g. equal_expressions e g ≡ true) (h.0 yes) (expression_self e))
    (λ yes. h.1 (expression_true e f yes))

-- the goal at a place fits the table
pub goal_at : (ts : List Expression) (gs : List Goal) (i : ℕ) (g : Goal) → AllFitGoals ts gs → i < length gs → g ≡ get_or gs i g → FitsGoal ts g
goal_at ts [] i g h l e = absurd (omega arith)
goal_at ts (k ∷ gs) zero g h l e = subst (FitsGoal ts) (sym e) h.0
goal_at ts (k ∷ gs) (suc i) g h l e = let m : i < length gs = omega arith in goal_at ts gs i g h.1 m e

-- the claim at a place is over the table
pub form_at : (n : ℕ) (xs : List Claimed) (i : ℕ) (x : Claimed) → AllClaimsBelow n xs → i < length xs → x ≡ get_or xs i x → FormBelow n x.form
form_at n [] i x h l e = absurd (omega arith)
form_at n (y ∷ xs) zero x h l e = subst (λ z. FormBelow n z.form) (sym e) h.0
form_at n (y ∷ xs) (suc i) x h l e = let m : i < length xs = omega arith in form_at n xs i x h.1 m e

both_false : (b : Bool) {c : Bool} → c ≡ false → (b && c) ≡ false
both_false true e = e
both_false false e = refl

-- as many claims as goals
pub other_length : (ts : List Expression) (gs : List Goal) (xs : List Claimed) → length gs ≢ length xs → false ≡ fits_goals ts gs xs
other_length ts [] [] n = absurd (n refl)
other_length ts [] (x ∷ xs) n = refl
other_length ts (g ∷ gs) [] n = refl
other_length ts (g ∷ gs) (x ∷ xs) n = sym (both_false (fits_one ts g x.form) (sym (other_length ts gs xs (λ e. n (ap suc e)))))

both_drop : (ts : List Expression) (gs : List Goal) (xs : List Claimed) (i : ℕ) (g : Goal) (x : Claimed) → i < length gs → i < length xs → g ≡ get_or gs i g → x ≡ get_or xs i x
    → fits_goals ts (drop i gs) (drop i xs) ≡ (fits_one ts g x.form && fits_goals ts (drop (i + 1) gs) (drop (i + 1) xs))
both_drop ts gs xs i g x l m e f =
    ap₂ (fits_goals ts) (drop_more gs i g l) (drop_more xs i x m)
    ∙ ap₂ (λ g x. fits_one ts g x.form && fits_goals ts (drop (i + 1) gs) (drop (i + 1) xs)) (sym e) (sym f)

-- the claim at the next place fits
pub fits_next : (ts : List Expression) (gs : List Goal) (xs : List Claimed) (i : ℕ) (g : Goal) (x : Claimed) (b : Bool) → length gs ≡ length xs → i < length gs → g ≡ get_or gs i g → x ≡ get_or xs i x
    → b ≡ fits_goals ts (drop i gs) (drop i xs) → fits_one ts g x.form ≡ true → b ≡ fits_goals ts (drop (i + 1) gs) (drop (i + 1) xs)
fits_next ts gs xs i g x b same l e f h fit =
    let m : i < length xs = subst (λ n. i < n) same l in
    h ∙ both_drop ts gs xs i g x l m e f ∙ ap (λ c. c && fits_goals ts (drop (i + 1) gs) (drop (i + 1) xs)) fit

-- or does not
pub fits_not : (ts : List Expression) (gs : List Goal) (xs : List Claimed) (i : ℕ) (g : Goal) (x : Claimed) (b : Bool) → length gs ≡ length xs → i < length gs → g ≡ get_or gs i g → x ≡ get_or xs i x
    → b ≡ fits_goals ts (drop i gs) (drop i xs) → fits_one ts g x.form ≡ false → b ≡ false
fits_not ts gs xs i g x b same l e f h misfit =
    let m : i < length xs = subst (λ n. i < n) same l in
    h ∙ both_drop ts gs xs i g x l m e f ∙ ap (λ c. c && fits_goals ts (drop (i + 1) gs) (drop (i + 1) xs)) misfit

-- no goal is left
pub fits_end : (ts : List Expression) (gs : List Goal) (xs : List Claimed) (i : ℕ) (b : Bool) → length gs ≡ length xs → length gs ≤ i → b ≡ fits_goals ts (drop i gs) (drop i xs) → b ≡ true
fits_end ts gs xs i b same l h =
    let m : length xs ≤ i = subst (λ n. n ≤ i) same l in
    h ∙ ap₂ (fits_goals ts) (drop_of_length-le gs l) (drop_of_length-le xs m)
