-- Terms with their types and equations, part by part.
use Rattle.std.proofs.Common.{◌≡◌, ◌≢◌, ℕ, zero, suc, ◌+◌, ◌<◌, ◌≤◌, Bool, true, false, ◌&&◌, List, [], ◌∷◌, ◌++◌, refl, sym, ap, ap₂, ◌∙◌, subst, length, drop, take, get_or, map, arith}
use Rattle.std.proofs.lemmas.List.{drop_more, get_or_default, take_more, take-map, map_more}
use Rattle.std.proofs.Math.ListN.{drop_of_length-le}
use Rattle.ft_theory.specs.Expressions.{Expression}
use Rattle.ft_theory.specs.Statements.{Statement, plain}
use Rattle.ft_syntax.specs.Table.{AllBelow}
use Rattle.ft_judge.specs.Meaning.{under}
use Rattle.ft_placing.specs.Opening.{is_put}
use Rattle.ft_placing.specs.Sides.{has_sides, lefts_of, types_fit, SideBelow, SidesBelow}
use Rattle.ft_placing.specs.declared.sides.At.{At}
use Rattle.ft_placing.specs.declared.sides.At.TheVariants as at
use Rattle.ft_placing.specs.declared.sides.Sides.{Sides}

-- no domains, and some
pub plain_sides : (ts : List Expression) (Ds : List ℕ) (x : Statement) → length Ds ≡ 0 → under ts Ds x ≡ x
plain_sides ts [] x h = refl
plain_sides ts (D ∷ Ds) x h = absurd (omega (arith, h))

pub no_sides : (a : At) (ts : List Expression) (Ds : List ℕ) (x : Statement) → length Ds ≢ 0 → has_sides a (under ts Ds x) ≡ false
no_sides a ts [] x h = absurd (h refl)
no_sides at.Terms ts (D ∷ Ds) x h = refl
no_sides at.EqualTerms ts (D ∷ Ds) x h = refl

-- one of the list
pub one_side : (n k : ℕ) (d s : Sides) (ss : List Sides) → SidesBelow n ss → k < length ss → s ≡ get_or ss k d → SideBelow n s
one_side n k d s [] h l e = absurd (omega (arith, l))
one_side n zero d s (r ∷ ss) h l e = subst (SideBelow n) (sym e) h.0
one_side n (suc k) d s (r ∷ ss) h l e = one_side n k d s ss h.1 (omega (arith, l)) e

-- the first of the terms
pub first_below : (n k : ℕ) (es : List ℕ) → AllBelow n es → AllBelow n (take k es)
first_below n zero es h = tt
first_below n (suc k) [] h = tt
first_below n (suc k) (e ∷ es) h = (h.0, first_below n k es h.1)

-- the types, one by one
types_at : (ts : List Expression) (put Ds : List ℕ) (ss : List Sides) (k D : ℕ) (d s : Sides) → k < length Ds → length Ds ≡ length ss → put ≡ lefts_of ss → D ≡ get_or Ds k D → s ≡ get_or ss k d
    → types_fit ts (take k put) (drop k Ds) (drop k ss) ≡ (is_put ts (take k put) D s.ty && types_fit ts (take (k + 1) put) (drop (k + 1) Ds) (drop (k + 1) ss))
types_at ts put Ds ss k D d s l same t e f =
    let more : k < length ss = subst (λ n. k < n) same l in
    ap₂ (types_fit ts (take k put)) (drop_more Ds k 0 l) (drop_more ss k d more)
    ∙ ap₂ (λ D (s : Sides). is_put ts (take k put) D s.ty && types_fit ts (take k put ++ s.left ∷ []) (drop (k + 1) Ds) (drop (k + 1) ss)) (get_or_default Ds k 0 D l ∙ sym e) (sym f)
    ∙ ap (λ es. is_put ts (take k put) D s.ty && types_fit ts es (drop (k + 1) Ds) (drop (k + 1) ss))
    (ap₂ (λ es (s : Sides). es ++ s.left ∷ []) (ap (take k) t ∙ take-map (λ (s : Sides). s.left) k ss) f
    ∙ sym (ap (take (k + 1)) t ∙ take-map (λ (s : Sides). s.left) (k + 1) ss ∙ map_more (λ (s : Sides). s.left) ss k d more))

pub types_next : (ts : List Expression) (put Ds : List ℕ) (ss : List Sides) (k D : ℕ) (d s : Sides) (a b : Bool) → a ≡ types_fit ts (take k put) (drop k Ds) (drop k ss) → k < length Ds → length Ds ≡ length ss → put ≡ lefts_of ss
    → D ≡ get_or Ds k D → s ≡ get_or ss k d → b ≡ is_put ts (take k put) D s.ty → b ≡ true → a ≡ types_fit ts (take (k + 1) put) (drop (k + 1) Ds) (drop (k + 1) ss)
types_next ts put Ds ss k D d s a b h l same t e f g y =
    h ∙ types_at ts put Ds ss k D d s l same t e f ∙ ap (λ c. c && types_fit ts (take (k + 1) put) (drop (k + 1) Ds) (drop (k + 1) ss)) (sym g ∙ y)

pub types_not : (ts : List Expression) (put Ds : List ℕ) (ss : List Sides) (k D : ℕ) (d s : Sides) (a b : Bool) → a ≡ types_fit ts (take k put) (drop k Ds) (drop k ss) → k < length Ds → length Ds ≡ length ss → put ≡ lefts_of ss
    → D ≡ get_or Ds k D → s ≡ get_or ss k d → b ≡ is_put ts (take k put) D s.ty → b ≡ false → false ≡ a
types_not ts put Ds ss k D d s a b h l same t e f g y =
    sym (h ∙ types_at ts put Ds ss k D d s l same t e f ∙ ap (λ c. c && types_fit ts (take (k + 1) put) (drop (k + 1) Ds) (drop (k + 1) ss)) (sym g ∙ y))

pub types_end : (ts : List Expression) (put Ds : List ℕ) (ss : List Sides) (k : ℕ) (a : Bool) → a ≡ types_fit ts (take k put) (drop k Ds) (drop k ss) → length Ds ≡ length ss → length Ds ≤ k → true ≡ a
types_end ts put Ds ss k a h same l =
    sym (h ∙ ap₂ (types_fit ts (take k put)) (drop_of_length-le Ds l) (drop_of_length-le ss (subst (λ n. n ≤ k) same l)))
