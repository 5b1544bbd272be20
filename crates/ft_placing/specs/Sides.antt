-- A metavariable at terms, or at both sides of equations.
use Rattle.std.specs.Prelude.{ℕ, ◌<◌, ◌&&◌, Bool, true, false, Option, List, [], ◌∷◌, ◌++◌, map}
use Rattle.ft_theory.specs.Expressions.{Expression}
use Rattle.ft_theory.specs.Statements.{Claim, has_type, equal_terms, Statement, plain, fill_goal, equate_goal}
use Rattle.ft_items.specs.Equal.{is_object_goal, typed, paired}
use Rattle.ft_items.specs.Rows.{applied_meta, meta_congruence}
use Rattle.ft_syntax.specs.Table.{tree}
use Rattle.ft_placing.specs.Opening.{is_put}
use Rattle.ft_placing.specs.declared.sides.At.{At}
use Rattle.ft_placing.specs.declared.sides.At.TheVariants.{Terms, EqualTerms}
use Rattle.ft_placing.specs.declared.sides.Sides.{Sides}

-- the plain term at its type, or the plain equation of both sides
abbrev pub side_in : At → List Expression → Sides → Statement
side_in Terms ts s = plain (has_type (tree ts s.left) (tree ts s.ty))
side_in EqualTerms ts s = plain (equal_terms (tree ts s.left) (tree ts s.right) (tree ts s.ty))

-- each of them
abbrev pub sides_in : At → List Expression → List Sides → List Statement
sides_in a ts ss = map (side_in a ts) ss

-- the terms, or the left sides; and the terms, or the right sides
abbrev pub lefts_of : List Sides → List ℕ
lefts_of ss = map (λ s. s.left) ss

abbrev pub rights_of : List Sides → List ℕ
rights_of ss = map (λ s. s.right) ss

-- the test for a plain term, or for a plain equation of terms
abbrev pub has_sides : At → Statement → Bool
has_sides Terms (plain (has_type t A)) = true
has_sides EqualTerms (plain (equal_terms s t A)) = true
has_sides a x = false

-- and so for each of these
abbrev pub all_have_sides : At → List Statement → Bool
all_have_sides a [] = true
all_have_sides a (x ∷ xs) = has_sides a x && all_have_sides a xs

-- the expressions are among the first n trees
abbrev pub SideBelow : ℕ → Sides → Type 0
SideBelow n s = (s.left < n) × (s.right < n) × (s.ty < n)

abbrev pub SidesBelow : ℕ → List Sides → Type 0
SidesBelow n [] = Unit {0}
SidesBelow n (s ∷ ss) = SideBelow n s × SidesBelow n ss

-- the test of the row: as many terms or equations as the boundary has domains, each at its domain
abbrev pub fit_domains : At → Statement → List Statement → Bool
fit_domains Terms b xs = typed b xs
fit_domains EqualTerms b xs = paired b xs

-- the test that there is one type for each domain, which is that domain with the terms before it put
abbrev pub types_fit : List Expression → List ℕ → List ℕ → List Sides → Bool
types_fit ts done [] [] = true
types_fit ts done [] (s ∷ ss) = false
types_fit ts done (D ∷ Ds) [] = false
types_fit ts done (D ∷ Ds) (s ∷ ss) = is_put ts done D s.ty && types_fit ts (done ++ s.left ∷ []) Ds ss

-- the test of the goal: an equation comes only from that of a type or of a term
abbrev pub goal_may : At → Claim → Bool
goal_may Terms c = true
goal_may EqualTerms c = is_object_goal c

-- the goal with a head, or with two heads that are equal
abbrev pub with_heads : At → Claim → Expression → Expression → Claim
with_heads Terms c h k = fill_goal c h
with_heads EqualTerms c h k = equate_goal c h k

-- what the row concludes of the metavariable m of boundary b
abbrev pub placed : At → ℕ → Statement → List Statement → Option Statement
placed Terms m b xs = applied_meta m b xs
placed EqualTerms m b xs = meta_congruence m b xs
