-- The loop that puts terms for the variables of domains.
use Rattle.std.proofs.Common.{◌≡◌, ◌∙◌, ℕ, suc, ◌-◌, ◌<◌, ◌≤◌, List, [], ◌∷◌, length, drop, get_or, map, refl, sym, ap, ap₂, subst, arith, length-drop, drop_of_length-le}
use Rattle.std.proofs.lemmas.List.{length-map}
use Rattle.ft_theory.specs.Expressions.{Expression, open_at}
use Rattle.ft_theory.specs.Small.{IsSmall}
use Rattle.ft_syntax.specs.Table.{tree, Extends, AllBelow}
use Rattle.ft_syntax.specs.Laws.{tree_extends, trees_extend, below_extends, one_below}
use Rattle.ft_syntax.specs.declared.syntax.SynFault.{SynFault}
use Rattle.ft_syntax.specs.declared.syntax.SynFault.TheVariants as syntax
use Rattle.ft_kernel.specs.State.{State}
use Rattle.ft_calls.specs.Answers.{Stays}
use Rattle.ft_calls.proofs.Declared.{stays_same}
use Rattle.ft_calls.proofs.Later.{AreSmallTrees}
use Rattle.ft_metas.specs.Outcomes.{BigOr}
use Rattle.ft_metas.specs.Putting.{with_terms, put_in}
use Rattle.ft_metas.proofs.Opening.{AllFit, open_fits, terms_back}
use Rattle.ft_metas.proofs.Places.{drop_one, below_drop, stays_then}

-- an expression with the terms is the same over a table that goes on
pub put_extends : (ts us : List Expression) (es : List ℕ) (e : ℕ) → Extends ts us → AllBelow (length ts) es → e < length ts → put_in us es e ≡ put_in ts es e
put_extends ts us es e x b l = ap₂ with_terms (trees_extend ts us es x b) (tree_extends ts us e x l)

-- the terms from a place on
abbrev pub terms_left : State → List ℕ → ℕ → List Expression
terms_left s es i = map (tree s.trees) (drop i es)

-- The first terms have been put, and this has come of the expression.
pub record Opened (s t : State) (es : List ℕ) (e i r : ℕ) : Type 0 where
  pub stays : Stays s t
  pub below : r < length t.trees
  pub done : with_terms (terms_left s es i) (tree t.trees r) ≡ put_in s.trees es e

pub opened_start : (s : State) (es : List ℕ) (e : ℕ) → e < length s.trees → Opened s s es e 0 e
opened_start s es e l = record { stays = stays_same s s refl; below = l; done = refl }

pub opened_below : (s t : State) (es : List ℕ) (e i r d : ℕ) → Opened s t es e i r → AllBelow (length s.trees) es → i < length es → d ≡ get_or es i d → (r < length t.trees) × (d < length t.trees)
opened_below s t es e i r d p b l g = (p.below, below_extends s.trees t.trees d p.stays.1 (one_below (length s.trees) i d es b l g))

-- so many terms come after this one
left_after : (s : State) (es : List ℕ) (i n : ℕ) → i < length es → n ≡ length es - 1 - i → length (terms_left s es (suc i)) ≡ n
left_after s es i n l e =
    let a : length (terms_left s es (suc i)) ≡ length (drop (suc i) es) = length-map (drop (suc i) es) (tree s.trees) in
    let b : length (drop (suc i) es) ≡ length es - suc i = length-drop (suc i) es in
    omega (arith, a, b, e, l)

-- what is opened next, seen from the first table
next_opened : (s t : State) (es : List ℕ) (e i r d n : ℕ) → Opened s t es e i r → AllBelow (length s.trees) es → i < length es → d ≡ get_or es i d → n ≡ length es - 1 - i
    → with_terms (terms_left s es (suc i)) (open_at n (tree t.trees d) (tree t.trees r)) ≡ put_in s.trees es e
next_opened s t es e i r d n p b l g w =
    ap₂ (λ n T. with_terms (terms_left s es (suc i)) (open_at n T (tree t.trees r))) (sym (left_after s es i n l w)) (tree_extends s.trees t.trees d p.stays.1 (one_below (length s.trees) i d es b l g))
    ∙ ap (λ ds. with_terms (map (tree s.trees) ds) (tree t.trees r)) (sym (drop_one es i d l g))
    ∙ p.done

pub opened_more : (s t u : State) (es : List ℕ) (e i r d n q : ℕ) → Opened s t es e i r → AllBelow (length s.trees) es → i < length es → d ≡ get_or es i d → n ≡ length es - 1 - i
    → Stays t u → q < length u.trees → tree u.trees q ≡ open_at n (tree t.trees d) (tree t.trees r) → Opened s u es e (suc i) q
opened_more s t u es e i r d n q p b l g w x k h = record {
  stays = stays_then s t u p.stays x;
  below = k;
  done = ap (with_terms (terms_left s es (suc i))) h ∙ next_opened s t es e i r d n p b l g w;
}

pub opened_end : (s t : State) (es : List ℕ) (e i r : ℕ) → Opened s t es e i r → length es ≤ i → tree t.trees r ≡ put_in s.trees es e
opened_end s t es e i r p l = ap (λ ds. with_terms (map (tree s.trees) ds) (tree t.trees r)) (sym (drop_of_length-le es l)) ∙ p.done

all_fit : (ts us : List Expression) (es : List ℕ) → Extends ts us → AreSmallTrees us → AllBelow (length ts) es → AllFit (map (tree ts) es)
all_fit ts us [] x s h = tt
all_fit ts us (e ∷ es) x s h = ((subst IsSmall (tree_extends ts us e x h.0) (s e (below_extends ts us e x h.0))).kept.2, all_fit ts us es x s h.1)

-- where the outcome is small, what is opened next is
next_small : (s t : State) (es : List ℕ) (e i r d n : ℕ) → Opened s t es e i r → AreSmallTrees t.trees → AllBelow (length s.trees) es → i < length es → d ≡ get_or es i d → n ≡ length es - 1 - i
    → IsSmall (put_in s.trees es e) → IsSmall (open_at n (tree t.trees d) (tree t.trees r))
next_small s t es e i r d n p small b l g w k =
    let D : IsSmall (tree t.trees d) = small d (below_extends s.trees t.trees d p.stays.1 (one_below (length s.trees) i d es b l g)) in
    let R : IsSmall (tree t.trees r) = small r p.below in
    terms_back (terms_left s es (suc i)) (open_at n (tree t.trees d) (tree t.trees r))
    (all_fit s.trees t.trees (drop (suc i) es) p.stays.1 small (below_drop (length s.trees) (suc i) es b))
    (open_fits (tree t.trees r) n (tree t.trees d) D.kept.2 R.kept.2)
    (subst IsSmall (sym (next_opened s t es e i r d n p b l g w)) k)

pub opened_big : (s t : State) (es : List ℕ) (e i r d n : ℕ) (f : SynFault) → Opened s t es e i r → AreSmallTrees t.trees → AllBelow (length s.trees) es → i < length es → d ≡ get_or es i d → n ≡ length es - 1 - i
    → (f ≡ syntax.TooBig → IsSmall (open_at n (tree t.trees d) (tree t.trees r)) → ⊥) → BigOr (IsSmall (put_in s.trees es e)) f
opened_big s t es e i r d n syntax.TooBig p small b l g w h = λ k. h refl (next_small s t es e i r d n p small b l g w k)
opened_big s t es e i r d n syntax.Memory p small b l g w h = tt

pub opened_small : (s t : State) (es : List ℕ) (e i r : ℕ) → Opened s t es e i r → AreSmallTrees t.trees → length es ≤ i → IsSmall (put_in s.trees es e)
opened_small s t es e i r p small l = subst IsSmall (opened_end s t es e i r p l) (small r p.below)

-- what is too big at one place is too big where it is part of more
pub big_weaker : (P Q : Type 0) (f : SynFault) → BigOr P f → (Q → P) → BigOr Q f
big_weaker P Q syntax.TooBig h k = λ q. h (k q)
big_weaker P Q syntax.Memory h k = tt
