-- Laws for the crates above.
use Rattle.std.specs.Prelude.{◌≡◌, ℕ, refl, Bool, true, false, ◌&&◌, Option, None, List, [], ◌∷◌}
use Rattle.std.proofs.Common.{ap, ◌∙◌}
use Rattle.std.proofs.Math.Bool.{and-false}
use Rattle.ft_theory.specs.Expressions.{Expression, meta, Terms, no_terms, also}
use Rattle.ft_theory.specs.Statements.{is_type, has_type, equal_types, equal_terms, type_goal, term_goal, type_equation_goal, term_equation_goal, Statement, plain, abstracted, opened, at, fill, equate}
use Rattle.ft_items.specs.Equal.{equal_expressions, is_object, typed, paired, terms, left_terms, right_terms}
use Rattle.ft_items.specs.Rows.{when}
use Rattle.ft_syntax.specs.Arguments.{list_of_terms}
use Rattle.ft_placing.specs.Opening.{listed}
use Rattle.ft_placing.specs.Sides.{all_have_sides, placed}
use Rattle.ft_placing.specs.Applied.{bodies}
use Rattle.ft_placing.specs.declared.sides.At.{At}
use Rattle.ft_placing.specs.declared.sides.At.TheVariants as at_these

-- the terms of a metavariable are the bodies of its arguments
pub terms_listed : (a : Terms) → listed (bodies (list_of_terms a)) ≡ a
terms_listed no_terms = refl
terms_listed (also t a) = ap (also t) (terms_listed a)

-- Where one of the theses is no plain term, or no plain equation of terms, the row concludes nothing.
not_typed : (b : Statement) (xs : List Statement) → all_have_sides at_these.Terms xs ≡ false → typed b xs ≡ false
not_typed b [] h = let clash : true ≡ false = h in absurd (no clash)
  where
    no : true ≡ false → ⊥
    no e = cc
not_typed (plain c) (x ∷ xs) h = refl
not_typed (abstracted A b) (plain (has_type t B) ∷ xs) h = ap (λ c. equal_expressions A B && c) (not_typed (opened t (abstracted A b)) xs h) ∙ and-false (equal_expressions A B)
not_typed (abstracted A b) (plain (is_type B) ∷ xs) h = refl
not_typed (abstracted A b) (plain (equal_types B C) ∷ xs) h = refl
not_typed (abstracted A b) (plain (equal_terms s t B) ∷ xs) h = refl
not_typed (abstracted A b) (plain type_goal ∷ xs) h = refl
not_typed (abstracted A b) (plain (term_goal B) ∷ xs) h = refl
not_typed (abstracted A b) (plain (type_equation_goal B C) ∷ xs) h = refl
not_typed (abstracted A b) (plain (term_equation_goal s t B) ∷ xs) h = refl
not_typed (abstracted A b) (abstracted B x ∷ xs) h = refl

not_paired : (b : Statement) (xs : List Statement) → all_have_sides at_these.EqualTerms xs ≡ false → paired b xs ≡ false
not_paired b [] h = let clash : true ≡ false = h in absurd (no clash)
  where
    no : true ≡ false → ⊥
    no e = cc
not_paired (plain c) (x ∷ xs) h = refl
not_paired (abstracted A b) (plain (equal_terms s t B) ∷ xs) h = ap (λ c. equal_expressions A B && c) (not_paired (opened s (abstracted A b)) xs h) ∙ and-false (equal_expressions A B)
not_paired (abstracted A b) (plain (is_type B) ∷ xs) h = refl
not_paired (abstracted A b) (plain (has_type t B) ∷ xs) h = refl
not_paired (abstracted A b) (plain (equal_types B C) ∷ xs) h = refl
not_paired (abstracted A b) (plain type_goal ∷ xs) h = refl
not_paired (abstracted A b) (plain (term_goal B) ∷ xs) h = refl
not_paired (abstracted A b) (plain (type_equation_goal B C) ∷ xs) h = refl
not_paired (abstracted A b) (plain (term_equation_goal s t B) ∷ xs) h = refl
not_paired (abstracted A b) (abstracted B x ∷ xs) h = refl

pub none_placed : (a : At) (m : ℕ) (b : Statement) (xs : List Statement) → all_have_sides a xs ≡ false → placed a m b xs ≡ None
none_placed at_these.Terms m b xs h = ap (λ c. when c (fill (at b (terms xs)) (meta m (terms xs)))) (not_typed b xs h)
none_placed at_these.EqualTerms m b xs h =
    ap (λ c. when c (equate (at b (left_terms xs)) (meta m (left_terms xs)) (meta m (right_terms xs)))) (ap (λ c. is_object b && c) (not_paired b xs h) ∙ and-false (is_object b))
