-- Terms put one by one.
use Rattle.std.proofs.Common.{◌≡◌, ◌↔◌, ℕ, zero, suc, ◌+◌, ◌-◌, ◌<◌, ◌≤◌, Bool, true, false, List, [], ◌∷◌, refl, sym, ap, ap₂, ◌∙◌, subst, length, drop, take, get_or, map, length-drop, IsTrue, arith}
use Rattle.std.proofs.lemmas.List.{drop_more, get_or_default, length-map, take-map}
use Rattle.std.proofs.Math.ListN.{drop_of_length-le}
use Rattle.ft_theory.specs.Expressions.{Expression, meta, also, open_at}
use Rattle.ft_theory.specs.Small.{IsSmall}
use Rattle.ft_items.specs.Equal.{equal_expressions}
use Rattle.ft_sound.proofs.EqualLemmas.{by_equal, expression_true}
use Rattle.ft_syntax.specs.Laws.{extends_same, extends_trans, one_below, tree_extends, trees_extend}
use Rattle.ft_syntax.specs.Table.{tree, terms_in, Extends, AllBelow}
use Rattle.ft_placing.specs.Opening.{is_put, listed, opened_by, trees_of}
use Rattle.ft_placing.proofs.Smaller.{first_small}

-- The first k terms are put, and the others are to come.
pub record OpenedSoFar (us : List Expression) (list : List ℕ) (e : ℕ) (k : ℕ) (vs : List Expression) (r : ℕ) : Type 0 where
  pub goes_on : Extends us vs
  pub within : r < length vs
  pub same : opened_by 0 (trees_of us (drop k list)) (tree vs r) ≡ opened_by 0 (trees_of us list) (tree us e)

pub opened_start : (us : List Expression) (list : List ℕ) (e : ℕ) → e < length us → OpenedSoFar us list e 0 us e
opened_start us list e l = record { goes_on = extends_same us us refl; within = l; same = refl }

-- the next term
next_is : (us : List Expression) (list : List ℕ) (k t : ℕ) (x : Expression) → k < length list → t ≡ get_or list k t
    → opened_by 0 (trees_of us (drop k list)) x ≡ opened_by 0 (trees_of us (drop (k + 1) list)) (open_at (length list - 1 - k) (tree us t) x)
next_is us list k t x l e =
    let level : length (drop (k + 1) list) + 0 ≡ length list - 1 - k = omega (arith, length-drop (k + 1) list, l) in
    ap (λ es. opened_by 0 (trees_of us es) x) (drop_more list k 0 l)
    ∙ ap (λ t. opened_by 0 (trees_of us (drop (k + 1) list)) (open_at (length (trees_of us (drop (k + 1) list)) + 0) (tree us t) x)) (get_or_default list k 0 t l ∙ sym e)
    ∙ ap (λ n. opened_by 0 (trees_of us (drop (k + 1) list)) (open_at n (tree us t) x)) (ap (λ n. n + 0) (length-map (drop (k + 1) list) (tree us)) ∙ level)

pub opened_more : (us vs ws : List Expression) (list : List ℕ) (e k r s t n : ℕ) → OpenedSoFar us list e k vs r → AllBelow (length us) list → k < length list → t ≡ get_or list k t → n ≡ length list - 1 - k
    → Extends vs ws → s < length ws → tree ws s ≡ open_at n (tree vs t) (tree vs r) → OpenedSoFar us list e (k + 1) ws s
opened_more us vs ws list e k r s t n m b l f g x w h = record {
  goes_on = extends_trans us vs ws m.goes_on x;
  within = w;
  same = ap (opened_by 0 (trees_of us (drop (k + 1) list))) (h ∙ ap₂ (λ n t. open_at n t (tree vs r)) g (tree_extends us vs t m.goes_on (one_below (length us) k t list b l f)))
      ∙ sym (next_is us list k t (tree vs r) l f) ∙ m.same;
}

pub opened_end : (us vs : List Expression) (list : List ℕ) (e k r : ℕ) → OpenedSoFar us list e k vs r → length list ≤ k → tree vs r ≡ opened_by 0 (trees_of us list) (tree us e)
opened_end us vs list e k r m l = ap (λ es. opened_by 0 (trees_of us es) (tree vs r)) (sym (drop_of_length-le list l)) ∙ m.same

pub opened_big : (us vs : List Expression) (list : List ℕ) (e k r t n : ℕ) → OpenedSoFar us list e k vs r → AllBelow (length us) list → k < length list → t ≡ get_or list k t → n ≡ length list - 1 - k
    → IsSmall (tree vs t) → IsSmall (tree vs r) → (IsSmall (open_at n (tree vs t) (tree vs r)) → ⊥) → IsSmall (opened_by 0 (trees_of us list) (tree us e)) → ⊥
opened_big us vs list e k r t n m b l f g st sr big s =
    let same : tree vs t ≡ tree us t = tree_extends us vs t m.goes_on (one_below (length us) k t list b l f) in
    big (first_small 0 n (trees_of us (drop (k + 1) list)) (tree vs t) (tree vs r) st sr
    (subst IsSmall (sym m.same ∙ next_is us list k t (tree vs r) l f ∙ ap (opened_by 0 (trees_of us (drop (k + 1) list))) (ap₂ (λ n t. open_at n t (tree vs r)) (sym g) (sym same))) s))

-- what is found is small, and so nothing that is not
pub big_differs : (e f : Expression) → (IsSmall e → ⊥) → IsSmall f → false ≡ equal_expressions e f
big_differs e f n s = go (equal_expressions e f) refl
  where
    go : (b : Bool) → equal_expressions e f ≡ b → false ≡ b
    go true h = absurd (n (subst IsSmall (sym (expression_true e f h)) s))
    go false h = refl

-- The terms and what is wanted are copied, its outcome is r, and then what is found is copied as f.
pub found_same : (us vs rs ws ts : List Expression) (put list : List ℕ) (w y r x f : ℕ) (b : Bool) → Extends us vs → AllBelow (length us) put → trees_of us put ≡ trees_of ts list → tree vs w ≡ tree ts y → r < length rs
    → tree rs r ≡ opened_by 0 (trees_of vs put) (tree vs w) → Extends rs ws → tree ws f ≡ tree ts x → (IsTrue b ↔ (tree ws r ≡ tree ws f)) → b ≡ is_put ts list y x
found_same us vs rs ws ts put list w y r x f b g h a t l e k q s =
    by_equal (tree ws r) (tree ws f) b s ∙ ap₂ equal_expressions (tree_extends rs ws r k l ∙ e ∙ ap₂ (opened_by 0) (trees_extend us vs put g h ∙ a) t) q

pub found_big : (us vs ts : List Expression) (put list : List ℕ) (w y x : ℕ) → Extends us vs → AllBelow (length us) put → trees_of us put ≡ trees_of ts list → tree vs w ≡ tree ts y → IsSmall (tree ts x)
    → (IsSmall (opened_by 0 (trees_of vs put) (tree vs w)) → ⊥) → false ≡ is_put ts list y x
found_big us vs ts put list w y x g h a t s n =
    big_differs (opened_by 0 (trees_of ts list) (tree ts y)) (tree ts x) (λ k. n (subst IsSmall (sym (ap₂ (opened_by 0) (trees_extend us vs put g h ∙ a) t)) k)) s

-- a metavariable at these terms
listed_are : (ts : List Expression) (es : List ℕ) → terms_in ts es ≡ listed (trees_of ts es)
listed_are ts [] = refl
listed_are ts (e ∷ es) = ap (also (tree ts e)) (listed_are ts es)

pub applied_same : (us rs ws ts : List Expression) (put list : List ℕ) (m r x f : ℕ) (b : Bool) → trees_of us put ≡ trees_of ts list → r < length rs → tree rs r ≡ meta m (terms_in us put) → Extends rs ws → tree ws f ≡ tree ts x
    → (IsTrue b ↔ (tree ws r ≡ tree ws f)) → b ≡ equal_expressions (meta m (listed (trees_of ts list))) (tree ts x)
applied_same us rs ws ts put list m r x f b a l e k q s =
    by_equal (tree ws r) (tree ws f) b s ∙ ap₂ equal_expressions (tree_extends rs ws r k l ∙ e ∙ ap (meta m) (listed_are us put ∙ ap listed a)) q

pub applied_big : (us ts : List Expression) (put list : List ℕ) (m x : ℕ) → trees_of us put ≡ trees_of ts list → IsSmall (tree ts x) → (IsSmall (meta m (terms_in us put)) → ⊥) → false ≡ equal_expressions (meta m (listed (trees_of ts list))) (tree ts x)
applied_big us ts put list m x a s n = big_differs (meta m (listed (trees_of ts list))) (tree ts x) (λ k. n (subst IsSmall (sym (ap (meta m) (listed_are us put ∙ ap listed a))) k)) s
