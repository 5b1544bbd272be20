-- The atoms that refusals name are the least ones.
use Rattle.std.proofs.Common.{◌≡◌, ℕ, Bool, true, false, cond, nat_eq, ◌&&◌, not, Some, List, [], ◌∷◌, ◌⊎◌, inl, inr, refl, sym, ◌∙◌, subst}
use Rattle.std.proofs.lemmas.Bool.{and_parts, and_from, not-true, not_from_false}
use Rattle.std.proofs.lemmas.Option.{same_Some}
use Rattle.ft_common.proofs.Options.{none_some}
use Rattle.ft_common.proofs.Booleans.{true_false}
use Rattle.ft_theory.specs.Rules.{look_up}
use Rattle.ft_items.specs.Sets.{Atom, met, var, precedes, has, Has, Ascending}
use Rattle.ft_items.specs.Rows.{rests_on}
use Rattle.ft_items.proofs.SetLemmas.{all_after, has_true, has_false}
use Rattle.ft_reference.specs.Declare.{first_outside}
use Rattle.ft_reference.specs.Checks.{first_dependent}
use Rattle.ft_nucleus_laws.specs.Laws.{IsLeast, FirstOutsideIsLeast, IsVariable, FirstVariableIsLeast, RestsOn, FirstDependentIsLeast}

-- the first of an ascending list is the least
at_front : (P : Atom → Type 0) (c : Atom) (S : List Atom) → Ascending (c ∷ S) → P c → IsLeast P (c ∷ S) c
at_front P c S asc p = (inl refl, p, others)
  where
    others : (b : Atom) → Has b (c ∷ S) → P b → (c ≡ b) ⊎ (precedes c b ≡ true)
    others b (inl e) q = inl (sym e)
    others b (inr k) q = inr (all_after c b S asc.0 k)

-- one in front that is none of the kind leaves the least as it is
behind : (P : Atom → Type 0) (c : Atom) (S : List Atom) (a : Atom) → (P c → ⊥) → IsLeast P S a → IsLeast P (c ∷ S) a
behind P c S a n l = (inr l.0, l.1, others)
  where
    others : (b : Atom) → Has b (c ∷ S) → P b → (a ≡ b) ⊎ (precedes a b ≡ true)
    others b (inl e) q = absurd (n (subst P e q))
    others b (inr k) q = l.2 b k q

pub first_outside_is_least : FirstOutsideIsLeast
first_outside_is_least others [] a asc h = none_some h
first_outside_is_least others (c ∷ S) a asc h = go (has c others) refl h (first_outside_is_least others S a asc.1)
  where
    go : (t : Bool) → has c others ≡ t → cond t (first_outside others S) (Some c) ≡ Some a → (first_outside others S ≡ Some a → IsLeast (λ b. Has b others → ⊥) S a) → IsLeast (λ b. Has b others → ⊥) (c ∷ S) a
    go true q h ih = behind (λ b. Has b others → ⊥) c S a (λ n. n (has_true c others q)) (ih h)
    go false q h ih = subst (IsLeast (λ b. Has b others → ⊥) (c ∷ S)) (same_Some c a h) (at_front (λ b. Has b others → ⊥) c S asc (λ k. has_false c others q k))

no_metavariable : (m v : ℕ) → met m ≡ var v → ⊥
no_metavariable m v e = cc

pub first_variable_is_least : FirstVariableIsLeast
first_variable_is_least [] v asc h = none_some h
first_variable_is_least (met m ∷ S) v asc h = behind IsVariable (met m) S (var v) (λ p. no_metavariable m p.0 p.1) (first_variable_is_least S v asc.1 h)
first_variable_is_least (var w ∷ S) v asc h = subst (λ z. IsLeast IsVariable (var w ∷ S) (var z)) (same_Some w v h) (at_front IsVariable (var w) S asc (w, refl))

one_variable : (w u : ℕ) → var w ≡ var u → u ≡ w
one_variable w u e = cc

pub first_dependent_is_least : FirstDependentIsLeast
first_dependent_is_least G v w [] asc h = none_some h
first_dependent_is_least G v w (met m ∷ S) asc h = behind (RestsOn G v) (met m) S (var w) (λ p. no_metavariable m p.0 p.1) (first_dependent_is_least G v w S asc.1 h)
first_dependent_is_least G v w (var u ∷ S) asc h = go (not (nat_eq u v) && rests_on v (look_up G u)) refl h (first_dependent_is_least G v w S asc.1)
  where
    go : (t : Bool) → (not (nat_eq u v) && rests_on v (look_up G u)) ≡ t → cond t (Some u) (first_dependent G v S) ≡ Some w → (first_dependent G v S ≡ Some w → IsLeast (RestsOn G v) S (var w)) → IsLeast (RestsOn G v) (var u ∷ S) (var w)
    go true q h ih =
        let k : (not (nat_eq u v) ≡ true) × (rests_on v (look_up G u) ≡ true) = and_parts (not (nat_eq u v)) (rests_on v (look_up G u)) q in
        subst (λ z. IsLeast (RestsOn G v) (var u ∷ S) (var z)) (same_Some u w h) (at_front (RestsOn G v) (var u) S asc (u, refl, not-true (nat_eq u v) k.0, k.1))
    go false q h ih = behind (RestsOn G v) (var u) S (var w) none (ih h)
      where
        none : RestsOn G v (var u) → ⊥
        none p =
            true_false (sym (and_from (not (nat_eq u v)) (rests_on v (look_up G u))
            (not_from_false (nat_eq u v) (subst (λ z. nat_eq z v ≡ false) (one_variable u p.0 p.1) p.2))
            (subst (λ z. rests_on v (look_up G z) ≡ true) (one_variable u p.0 p.1) p.3))
            ∙ q)
