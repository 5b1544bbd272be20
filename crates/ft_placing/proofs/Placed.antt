-- What the row of a metavariable at terms concludes, part by part.
use Rattle.std.proofs.Common.{◌≡◌, ◌≢◌, ℕ, ◌≤◌, Bool, true, false, ◌&&◌, Option, Some, None, List, [], ◌∷◌, refl, sym, ap, ap₂, ◌∙◌, subst, length, take, map, arith}
use Rattle.std.specs.Prelude.{option_map}
use Rattle.std.proofs.lemmas.List.{length-map, take_all}
use Rattle.std.proofs.Math.Bool.{and-false}
use Rattle.ft_theory.specs.Expressions.{Expression, meta, Terms}
use Rattle.ft_theory.specs.Statements.{Claim, Statement, plain, map_claim, fill_goal, equate_goal, fill, equate, at}
use Rattle.ft_items.specs.Equal.{equal_claims, equal_statements, is_object_goal, is_object, typed, paired, terms, left_terms, right_terms}
use Rattle.ft_items.specs.Rows.{when}
use Rattle.ft_syntax.specs.Table.{tree, AllBelow}
use Rattle.ft_judge.specs.Meaning.{goal_in, under}
use Rattle.ft_judge.specs.declared.judgement.Goal.{Goal}
use Rattle.ft_placing.specs.Opening.{goal_put, listed, meta_at, opened_by, trees_of}
use Rattle.ft_placing.specs.Sides.{fit_domains, goal_may, lefts_of, placed, rights_of, sides_in, types_fit, with_heads, SidesBelow}
use Rattle.ft_placing.specs.declared.sides.At.{At}
use Rattle.ft_placing.specs.declared.sides.At.TheVariants as at_these
use Rattle.ft_placing.specs.declared.sides.Sides.{Sides}
use Rattle.ft_placing.proofs.Putting.{as_many, at_more, domains_fit, lefts_are, rights_are, terms_are}

-- a statement without domains, and one with them
pub plain_same : (ts : List Expression) (Ds : List ℕ) (c d : Claim) (b : Bool) → length Ds ≡ 0 → b ≡ equal_claims c d → b ≡ equal_statements (plain c) (under ts Ds (plain d))
plain_same ts [] c d b h e = e
plain_same ts (D ∷ Ds) c d b h e = absurd (omega (arith, h))

pub plain_not : (ts : List Expression) (Ds : List ℕ) (c d : Claim) → length Ds ≢ 0 → false ≡ equal_statements (plain c) (under ts Ds (plain d))
plain_not ts [] c d h = absurd (h refl)
plain_not ts (D ∷ Ds) c d h = refl

-- what the program answers, where a condition fails
abbrev tested : Statement → Option Statement → Option Bool
tested y o = option_map (λ z. equal_statements z y) o

object_under : (ts : List Expression) (Ds : List ℕ) (c : Claim) → is_object (under ts Ds (plain c)) ≡ is_object_goal c
object_under ts [] c = refl
object_under ts (D ∷ Ds) c = object_under ts Ds c

pub goal_refused : (a : At) (m : ℕ) (ts : List Expression) (Ds : List ℕ) (g : Goal) (xs : List Statement) (y : Statement) (b : Bool) → b ≡ goal_may a (goal_in ts g) → b ≡ false
    → None ≡ option_map (λ z. equal_statements z y) (placed a m (under ts Ds (plain (goal_in ts g))) xs)
goal_refused at_these.Terms m ts Ds g xs y b h n = let clash : false ≡ true = sym n ∙ h in cc
goal_refused at_these.EqualTerms m ts Ds g xs y b h n =
    ap (λ b. tested y (when (b && paired (under ts Ds (plain (goal_in ts g))) xs) (equate (at (under ts Ds (plain (goal_in ts g))) (left_terms xs)) (meta m (left_terms xs)) (meta m (right_terms xs))))) (sym n ∙ h ∙ sym (object_under ts Ds (goal_in ts g)))

not_fit : (a : At) (m : ℕ) (b : Statement) (xs : List Statement) (y : Statement) → fit_domains a b xs ≡ false → None ≡ tested y (placed a m b xs)
not_fit at_these.Terms m b xs y h = ap (λ c. tested y (when c (fill (at b (terms xs)) (meta m (terms xs))))) (sym h)
not_fit at_these.EqualTerms m b xs y h =
    ap (λ c. tested y (when c (equate (at b (left_terms xs)) (meta m (left_terms xs)) (meta m (right_terms xs))))) (sym (ap (λ c. is_object b && c) h ∙ and-false (is_object b)))

pub other_number : (a : At) (m : ℕ) (ts : List Expression) (Ds : List ℕ) (c : Claim) (ss : List Sides) (y : Statement) → length Ds ≢ length ss
    → None ≡ option_map (λ z. equal_statements z y) (placed a m (under ts Ds (plain c)) (sides_in a ts ss))
other_number a m ts Ds c ss y n = not_fit a m (under ts Ds (plain c)) (sides_in a ts ss) y (domains_fit a ts Ds ss c ∙ as_many ts [] Ds ss n)

pub other_types : (a : At) (m : ℕ) (ts : List Expression) (Ds : List ℕ) (c : Claim) (ss : List Sides) (y : Statement) (b : Bool) → b ≡ types_fit ts [] Ds ss → b ≡ false
    → None ≡ option_map (λ z. equal_statements z y) (placed a m (under ts Ds (plain c)) (sides_in a ts ss))
other_types a m ts Ds c ss y b h n = not_fit a m (under ts Ds (plain c)) (sides_in a ts ss) y (domains_fit a ts Ds ss c ∙ sym h ∙ n)

-- and where all hold
goal_at : (ts : List Expression) (Ds : List ℕ) (ss : List Sides) (c : Claim) → length Ds ≡ length ss → at (under ts Ds (plain c)) (listed (trees_of ts (lefts_of ss))) ≡ plain (map_claim (opened_by 0 (trees_of ts (lefts_of ss))) c)
goal_at ts Ds ss c same =
    let as' = trees_of ts (lefts_of ss) in
    let count : length as' ≡ length ss = length-map (lefts_of ss) (tree ts) ∙ length-map ss (λ (s : Sides). s.left) in
    at_more ts Ds as' c (omega (arith, same, count))
    ∙ ap (λ as'. plain (map_claim (opened_by 0 as') c)) (take_all (length Ds) as' (omega (arith, same, count)))

pub concluded : (a : At) (m : ℕ) (ts : List Expression) (Ds : List ℕ) (g : Goal) (ss : List Sides) → goal_may a (goal_in ts g) ≡ true → types_fit ts [] Ds ss ≡ true → length Ds ≡ length ss
    → placed a m (under ts Ds (plain (goal_in ts g))) (sides_in a ts ss) ≡ Some (plain (with_heads a (goal_put ts (lefts_of ss) g) (meta_at ts m (lefts_of ss)) (meta_at ts m (rights_of ss))))
concluded at_these.Terms m ts Ds g ss may h same =
    let b = under ts Ds (plain (goal_in ts g)) in
    ap (λ c. when c (fill (at b (terms (sides_in at_these.Terms ts ss))) (meta m (terms (sides_in at_these.Terms ts ss))))) (domains_fit at_these.Terms ts Ds ss (goal_in ts g) ∙ h)
    ∙ ap (λ as'. Some (fill (at b as') (meta m as'))) (terms_are ts ss)
    ∙ ap (λ x. Some (fill x (meta_at ts m (lefts_of ss)))) (goal_at ts Ds ss (goal_in ts g) same)
concluded at_these.EqualTerms m ts Ds g ss may h same =
    let b = under ts Ds (plain (goal_in ts g)) in
    let xs = sides_in at_these.EqualTerms ts ss in
    ap₂ (λ c d. when (c && d) (equate (at b (left_terms xs)) (meta m (left_terms xs)) (meta m (right_terms xs)))) (object_under ts Ds (goal_in ts g) ∙ may) (domains_fit at_these.EqualTerms ts Ds ss (goal_in ts g) ∙ h)
    ∙ ap₂ (λ as' bs. Some (equate (at b as') (meta m as') (meta m bs))) (lefts_are ts ss) (rights_are ts ss)
    ∙ ap (λ x. Some (equate x (meta_at ts m (lefts_of ss)) (meta_at ts m (rights_of ss)))) (goal_at ts Ds ss (goal_in ts g) same)

pub is_placed_so : (a : At) (m : ℕ) (ts : List Expression) (Ds put others : List ℕ) (g : Goal) (ss : List Sides) (y : Statement) (may fit same_so : Bool) → may ≡ goal_may a (goal_in ts g) → may ≡ true → fit ≡ types_fit ts [] Ds ss → fit ≡ true → length Ds ≡ length ss
    → put ≡ lefts_of ss → others ≡ rights_of ss → same_so ≡ equal_statements (plain (with_heads a (goal_put ts put g) (meta_at ts m put) (meta_at ts m others))) y
    → Some same_so ≡ option_map (λ z. equal_statements z y) (placed a m (under ts Ds (plain (goal_in ts g))) (sides_in a ts ss))
is_placed_so a m ts Ds put others g ss y may fit same_so h t k u same e f r =
    ap Some (r ∙ ap₂ (λ put others. equal_statements (plain (with_heads a (goal_put ts put g) (meta_at ts m put) (meta_at ts m others))) y) e f)
    ∙ ap (tested y) (sym (concluded a m ts Ds g ss (sym h ∙ t) (sym k ∙ u) same))

-- the terms are in the table
pub lefts_below : (n : ℕ) (es : List ℕ) (ss : List Sides) → es ≡ lefts_of ss → SidesBelow n ss → AllBelow n es
lefts_below n es ss e h = subst (AllBelow n) (sym e) (go ss h)
  where
    go : (ss : List Sides) → SidesBelow n ss → AllBelow n (lefts_of ss)
    go [] h = tt
    go (s ∷ ss) h = (h.0.0, go ss h.1)

pub rights_below : (n : ℕ) (es : List ℕ) (ss : List Sides) → es ≡ rights_of ss → SidesBelow n ss → AllBelow n es
rights_below n es ss e h = subst (AllBelow n) (sym e) (go ss h)
  where
    go : (ss : List Sides) → SidesBelow n ss → AllBelow n (rights_of ss)
    go [] h = tt
    go (s ∷ ss) h = (h.0.1, go ss h.1)
