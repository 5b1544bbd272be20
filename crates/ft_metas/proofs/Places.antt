-- Places of lists, and states that stay.
use Rattle.std.proofs.Common.{◌≡◌, ◌∙◌, ℕ, zero, suc, ◌<◌, List, [], ◌∷◌, ◌++◌, length, drop, get_or, refl, sym, ap, drop-cons}
use Rattle.ft_syntax.specs.Table.{AllBelow}
use Rattle.ft_syntax.specs.Laws.{extends_trans}
use Rattle.ft_kernel.specs.State.{State}
use Rattle.ft_calls.specs.Answers.{Stays}

-- a member of a list at a place, and what comes after it
pub drop_one : {A : Type 0} (xs : List A) (i : ℕ) (x : A) → i < length xs → x ≡ get_or xs i x → drop i xs ≡ x ∷ drop (suc i) xs
drop_one xs i x l h = drop-cons xs i x l ∙ ap (λ y. y ∷ drop (suc i) xs) (sym h)

pub length_push : {A : Type 0} (xs : List A) (x : A) → length (xs ++ x ∷ []) ≡ suc (length xs)
length_push [] x = refl
length_push (y ∷ xs) x = ap suc (length_push xs x)

pub below_drop : (n i : ℕ) (es : List ℕ) → AllBelow n es → AllBelow n (drop i es)
below_drop n zero es h = h
below_drop n (suc i) [] h = tt
below_drop n (suc i) (e ∷ es) h = below_drop n i es h.1

-- states that stay
pub stays_then : (s t u : State) → Stays s t → Stays t u → Stays s u
stays_then s t u a b = (b.0 ∙ a.0, extends_trans s.trees t.trees u.trees a.1 b.1)
