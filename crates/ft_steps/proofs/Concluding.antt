-- What steps conclude from statements under domains.
use Rattle.std.proofs.Common.{◌≡◌, ℕ, Option, Some, None, Bool, true, false, List, [], ◌∷◌, refl, sym, ap, ◌∙◌, length, arith}
use Rattle.std.specs.Prelude.{option_map}
use Rattle.ft_theory.specs.Expressions.{Expression}
use Rattle.ft_theory.specs.Statements.{Claim, is_type, has_type, equal_types, equal_terms, type_goal, term_goal, type_equation_goal, term_equation_goal, Statement, plain, abstracted, boundary_of, boundary_of_claim, equate, equate_goal}
use Rattle.ft_items.specs.Equal.{has_head, has_head_claim, head, head_of_claim}
use Rattle.ft_items.specs.Rows.{when, reflexivity, transitivity, conversion, equation_conversion, term_equation_boundary, type_equation_boundary, under_domains}
use Rattle.ft_judge.specs.Meaning.{under}
use Rattle.ft_steps.specs.Parts.{claim_in, plain_in, statement_in}
use Rattle.ft_steps.specs.Rows.{equal_to_itself}
use Rattle.ft_steps.specs.declared.parts.Claim.{Claim as ClaimValue}
use Rattle.ft_steps.specs.declared.parts.Parts.{Parts}

-- a part of the claim, under the domains
under_part : (ts : List Expression) (f : Claim → Option Claim) (As : List ℕ) (c : Claim) → option_map (λ d. under ts As (plain d)) (f c) ≡ under_domains f (under ts As (plain c))
under_part ts f [] c = refl
under_part ts f (A ∷ As) c = go (f c) ∙ ap (option_map (abstracted (Rattle.ft_syntax.specs.Table.tree ts A))) (under_part ts f As c)
  where
    go : (o : Option Claim) → option_map (λ d. under ts (A ∷ As) (plain d)) o ≡ option_map (abstracted (Rattle.ft_syntax.specs.Table.tree ts A)) (option_map (λ d. under ts As (plain d)) o)
    go None = refl
    go (Some d) = refl

pub part_concluded : (ts : List Expression) (f : Claim → Option Claim) (x : Parts) (o : Option ClaimValue) (r : Option Parts) → option_map (claim_in ts) o ≡ f (claim_in ts x.claim)
    → option_map (statement_in ts) r ≡ option_map (λ d. under ts x.domains.now (plain d)) (option_map (claim_in ts) o) → option_map (statement_in ts) r ≡ under_domains f (statement_in ts x)
part_concluded ts f x o r e h = h ∙ ap (option_map (λ d. under ts x.domains.now (plain d))) e ∙ under_part ts f x.domains.now (claim_in ts x.claim)

-- reflexivity, and the boundary of a thesis
when_mapped : {A B : Type 0} (f : A → B) (b : Bool) (x : A) → option_map f (when b x) ≡ when b (f x)
when_mapped f true x = refl
when_mapped f false x = refl

pub reflexive_under : (x : Statement) → under_domains equal_to_itself x ≡ reflexivity x
reflexive_under (plain c) = when_mapped plain (has_head_claim c) (equate_goal (boundary_of_claim c) (head_of_claim c) (head_of_claim c))
reflexive_under (abstracted A x) = ap (option_map (abstracted A)) (reflexive_under x) ∙ when_mapped (abstracted A) (has_head x) (equate (boundary_of x) (head x) (head x))

pub boundary_under : (x : Statement) → under_domains (λ c. Some (boundary_of_claim c)) x ≡ Some (boundary_of x)
boundary_under (plain c) = refl
boundary_under (abstracted A x) = ap (option_map (abstracted A)) (boundary_under x)

-- no domains
pub no_domains : (ts : List Expression) (f : Statement → Option Statement) (As : List ℕ) (c : ClaimValue) (o : Option ClaimValue) (r : Option Statement) → As ≡ [] → option_map (plain_in ts) o ≡ f (plain (claim_in ts c))
    → r ≡ option_map (λ d. under ts As (plain d)) (option_map (claim_in ts) o) → r ≡ f (under ts As (plain (claim_in ts c)))
no_domains ts f As c o r e h q =
    q ∙ ap (λ As. option_map (λ d. under ts As (plain d)) (option_map (claim_in ts) o)) e ∙ go o ∙ h ∙ ap (λ As. f (under ts As (plain (claim_in ts c)))) (sym e)
  where
    go : (o : Option ClaimValue) → option_map (λ d. plain d) (option_map (claim_in ts) o) ≡ option_map (plain_in ts) o
    go None = refl
    go (Some d) = refl

pub some_domains : (ts : List Expression) (f : Statement → Option Statement) (As : List ℕ) (x : Statement) → (As ≡ [] → ⊥) → ((B : Expression) (y : Statement) → None ≡ f (abstracted B y)) → None ≡ f (under ts As x)
some_domains ts f [] x n h = absurd (n refl)
some_domains ts f (A ∷ As) x n h = h _ _

-- domains of the second or third statement
pub transitivity_second : (A : Expression) (u v : Statement) → None ≡ transitivity u (abstracted A v)
transitivity_second C (plain (is_type A)) v = refl
transitivity_second C (plain (has_type t A)) v = refl
transitivity_second C (plain (equal_types A B)) v = refl
transitivity_second C (plain (equal_terms s t A)) v = refl
transitivity_second C (plain type_goal) v = refl
transitivity_second C (plain (term_goal A)) v = refl
transitivity_second C (plain (type_equation_goal A B)) v = refl
transitivity_second C (plain (term_equation_goal s t A)) v = refl
transitivity_second C (abstracted D u) v = refl

pub conversion_second : (A : Expression) (u v : Statement) → None ≡ conversion u (abstracted A v)
conversion_second C (plain (is_type A)) v = refl
conversion_second C (plain (has_type t A)) v = refl
conversion_second C (plain (equal_types A B)) v = refl
conversion_second C (plain (equal_terms s t A)) v = refl
conversion_second C (plain type_goal) v = refl
conversion_second C (plain (term_goal A)) v = refl
conversion_second C (plain (type_equation_goal A B)) v = refl
conversion_second C (plain (term_equation_goal s t A)) v = refl
conversion_second C (abstracted D u) v = refl

pub equation_second : (A : Expression) (u v : Statement) → None ≡ equation_conversion u (abstracted A v)
equation_second C (plain (is_type A)) v = refl
equation_second C (plain (has_type t A)) v = refl
equation_second C (plain (equal_types A B)) v = refl
equation_second C (plain (equal_terms s t A)) v = refl
equation_second C (plain type_goal) v = refl
equation_second C (plain (term_goal A)) v = refl
equation_second C (plain (type_equation_goal A B)) v = refl
equation_second C (plain (term_equation_goal s t A)) v = refl
equation_second C (abstracted D u) v = refl

pub types_second : (A : Expression) (u v : Statement) → None ≡ type_equation_boundary u (abstracted A v)
types_second C (plain (is_type A)) v = refl
types_second C (plain (has_type t A)) v = refl
types_second C (plain (equal_types A B)) v = refl
types_second C (plain (equal_terms s t A)) v = refl
types_second C (plain type_goal) v = refl
types_second C (plain (term_goal A)) v = refl
types_second C (plain (type_equation_goal A B)) v = refl
types_second C (plain (term_equation_goal s t A)) v = refl
types_second C (abstracted D u) v = refl

pub terms_second : (A : Expression) (u v w : Statement) → None ≡ term_equation_boundary u (abstracted A v) w
terms_second C (plain (is_type A)) v w = refl
terms_second C (plain (has_type t A)) v w = refl
terms_second C (plain (equal_types A B)) v w = refl
terms_second C (plain (equal_terms s t A)) v w = refl
terms_second C (plain type_goal) v w = refl
terms_second C (plain (term_goal A)) v w = refl
terms_second C (plain (type_equation_goal A B)) v w = refl
terms_second C (plain (term_equation_goal s t A)) v w = refl
terms_second C (abstracted D u) v w = refl

terms_third_at : (A : Expression) (B : Expression) (v w : Statement) → None ≡ term_equation_boundary (plain (is_type B)) v (abstracted A w)
terms_third_at C D (plain (is_type A)) w = refl
terms_third_at C D (plain (has_type t A)) w = refl
terms_third_at C D (plain (equal_types A B)) w = refl
terms_third_at C D (plain (equal_terms s t A)) w = refl
terms_third_at C D (plain type_goal) w = refl
terms_third_at C D (plain (term_goal A)) w = refl
terms_third_at C D (plain (type_equation_goal A B)) w = refl
terms_third_at C D (plain (term_equation_goal s t A)) w = refl
terms_third_at C D (abstracted E v) w = refl

pub terms_third : (A : Expression) (u v w : Statement) → None ≡ term_equation_boundary u v (abstracted A w)
terms_third C (plain (is_type A)) v w = terms_third_at C A v w
terms_third C (plain (has_type t A)) v w = refl
terms_third C (plain (equal_types A B)) v w = refl
terms_third C (plain (equal_terms s t A)) v w = refl
terms_third C (plain type_goal) v w = refl
terms_third C (plain (term_goal A)) v w = refl
terms_third C (plain (type_equation_goal A B)) v w = refl
terms_third C (plain (term_equation_goal s t A)) v w = refl
terms_third C (abstracted D u) v w = refl

-- of two statements the second has domains, or has none
pub some_others : (ts : List Expression) (f : Statement → Statement → Option Statement) (x y : Statement) (As : List ℕ) → (As ≡ [] → ⊥) → ((A : Expression) (u v : Statement) → None ≡ f u (abstracted A v)) → None ≡ f x (under ts As y)
some_others ts f x y [] n h = absurd (n refl)
some_others ts f x y (A ∷ As) n h = h _ _ _

pub no_others : (ts : List Expression) (f : Statement → Statement → Option Statement) (x y : Statement) (As : List ℕ) (r : Option Statement) → As ≡ [] → r ≡ f x y → r ≡ f x (under ts As y)
no_others ts f x y As r e h = h ∙ ap (λ As. f x (under ts As y)) (sym e)

pub no_length : (As : List ℕ) → length As ≡ 0 → As ≡ []
no_length [] h = refl
no_length (A ∷ As) h = absurd (omega (arith, h))
