-- The theory of natural numbers and dependent products is finitary, rule by rule; and an instance of its beta rule.
use Rattle.std.proofs.Common.{◌≡◌, ℕ, Some, List, [], ◌∷◌, inl, inr, refl, arith}
use Rattle.ft_common.proofs.Options.{none_some}
use Rattle.ft_theory.specs.Expressions.{Expression, bound, free, Arguments, no_arguments, with_body, count, rename, lift, lifts, put, push, pushes, body_or, act, close_at}
use Rattle.ft_theory.specs.Statements.{is_type, has_type, equal_terms, type_goal, term_goal, term_equation_goal, Statement, plain, abstracted, close_statement}
use Rattle.ft_theory.specs.Rules.{Rule, rule_at, instance_of, filled_premises}
use Rattle.ft_theory.specs.Steps.{sequent, sequents, variable, abstraction, for_type, for_term, for_terms, node, none, more, Prim}
use Rattle.ft_theory.specs.WideSteps.{equation_instance}
use Rattle.ft_theory.specs.Derivability.{Der, Finitary, RuleHolds}
use Rattle.ft_laws.specs.Examples.{natural, nought, successor, rule_natural, rule_nought, rule_successor, naturals, base, family, body, argument, product, lambda, application, rule_product, rule_lambda, rule_application, rule_beta, naturals_and_products, ProductsAreFinitary, BetaIsDerivable}
use Rattle.ft_laws.proofs.Admissible.{law}
use Rattle.ft_laws.proofs.Products.{by_step, by_rule, family_boundary, family_is_type, body_boundary, body_in_family, product_is_type, argument_in_base, application_in_family, base_is_type}

pub type_boundary : (T : List Rule) (M : List (ℕ × Statement)) (G : List (ℕ × Expression)) → Der T M G (plain type_goal)
type_boundary T M G = by_step T [] (sequent M G (plain type_goal)) for_type none

pub term_boundary : (T : List Rule) (M : List (ℕ × Statement)) (G : List (ℕ × Expression)) (A : Expression) → Der T M G (plain (is_type A)) → Der T M G (plain (term_goal A))
term_boundary T M G A p = by_step T (sequent M G (plain (is_type A)) ∷ []) (sequent M G (plain (term_goal A))) (for_term A) (more p none)

-- the natural numbers, by steps of all kinds
natural_type : (T : List Rule) (M : List (ℕ × Statement)) (G : List (ℕ × Expression)) → rule_at T 0 ≡ Some rule_natural → Der T M G (plain (is_type natural))
natural_type T M G q = by_rule T M G 0 rule_natural no_arguments q tt tt none

nought_term : (T : List Rule) (M : List (ℕ × Statement)) (G : List (ℕ × Expression)) → rule_at T 1 ≡ Some rule_nought → Der T M G (plain (has_type nought natural))
unfolding act
nought_term T M G q = by_rule T M G 1 rule_nought no_arguments q tt tt none

successor_term : (T : List Rule) (M : List (ℕ × Statement)) (G : List (ℕ × Expression)) (n : Expression) → rule_at T 2 ≡ Some rule_successor → Der T M G (plain (has_type n natural)) → Der T M G (plain (has_type (successor n) natural))
unfolding act
successor_term T M G n q p = by_rule T M G 2 rule_successor (with_body 0 n no_arguments) q (refl, tt, tt) tt (more p none)

-- each rule is well formed over a theory that has the rules that it names
natural_holds : (T : List Rule) → RuleHolds (λ M x. Der T M [] x) rule_natural
natural_holds T = (tt, inl tt, type_boundary T [] [])

nought_holds : (T : List Rule) → rule_at T 0 ≡ Some rule_natural → RuleHolds (λ M x. Der T M [] x) rule_nought
nought_holds T q = (tt, inl tt, term_boundary T [] [] natural (natural_type T [] [] q))

successor_holds : (T : List Rule) → rule_at T 0 ≡ Some rule_natural → RuleHolds (λ M x. Der T M [] x) rule_successor
successor_holds T q = (
  (refl, inl tt, term_boundary T [] [] natural (natural_type T [] [] q), tt),
  inl tt,
  term_boundary T rule_successor.premises [] natural (natural_type T rule_successor.premises [] q),
)

product_holds : (T : List Rule) → RuleHolds (λ M x. Der T M [] x) rule_product
product_holds T = (
  (refl, inl tt, type_boundary T [] [], (refl, inl tt, family_boundary T ((0, plain type_goal) ∷ []) refl, tt)),
  inl tt,
  type_boundary T rule_product.premises [],
)

lambda_holds : (T : List Rule) → rule_at T 3 ≡ Some rule_product → RuleHolds (λ M x. Der T M [] x) rule_lambda
lambda_holds T q = (
  (refl, inl tt, type_boundary T [] [], (refl, inl tt, family_boundary T ((0, plain type_goal) ∷ []) refl, (refl, inl tt, body_boundary T rule_product.premises refl refl, tt))),
  inl tt,
  term_boundary T rule_lambda.premises [] (product base (family (bound 0))) (product_is_type T rule_lambda.premises q refl refl),
)

application_holds : (T : List Rule) → rule_at T 3 ≡ Some rule_product → RuleHolds (λ M x. Der T M [] x) rule_application
application_holds T q =
    let P : List (ℕ × Statement) = rule_application.premises in
    let F : List (ℕ × Statement) = (0, plain type_goal) ∷ (1, abstracted base (plain type_goal)) ∷ (2, plain (term_goal (product base (family (bound 0))))) ∷ [] in (
      (
        refl,
        inl tt,
        type_boundary T [] [],
        (
          refl,
          inl tt,
          family_boundary T ((0, plain type_goal) ∷ []) refl,
          (
            refl,
            inl tt,
            term_boundary T rule_product.premises [] (product base (family (bound 0))) (product_is_type T rule_product.premises q refl refl),
            (refl, inl tt, term_boundary T F [] base (base_is_type T F [] refl), tt),
          ),
        ),
      ),
      inl tt,
      term_boundary T P [] (family argument) (family_is_type T P [] argument refl refl (argument_in_base T P refl refl)),
    )

beta_holds : (T : List Rule) → rule_at T 4 ≡ Some rule_lambda → rule_at T 5 ≡ Some rule_application → RuleHolds (λ M x. Der T M [] x) rule_beta
beta_holds T q r =
    let P : List (ℕ × Statement) = rule_beta.premises in
    let L : List (ℕ × Statement) = rule_lambda.premises in
    let redex : Expression = application base (family (bound 0)) (lambda base (family (bound 0)) (body (bound 0))) argument in
    let a : Der T P [] (plain (has_type argument base)) = argument_in_base T P refl refl in (
      (refl, inl tt, type_boundary T [] [], (refl, inl tt, family_boundary T ((0, plain type_goal) ∷ []) refl, (refl, inl tt, body_boundary T rule_product.premises refl refl, (refl, inl tt, term_boundary T L [] base (base_is_type T L [] refl), tt)))),
      inr tt,
      by_step T (sequent P [] (plain (is_type (family argument))) ∷ sequent P [] (plain (has_type redex (family argument))) ∷ sequent P [] (plain (has_type (body argument) (family argument))) ∷ [])
          (sequent P [] (plain (term_equation_goal redex (body argument) (family argument)))) (for_terms redex (body argument) (family argument))
          (more (family_is_type T P [] argument refl refl a) (more (application_in_family T P q r refl refl refl refl) (more (body_in_family T P [] argument refl refl refl a) none))),
    )

pub products_are_finitary : ProductsAreFinitary
products_are_finitary = (
  natural_holds [],
  (
    nought_holds (rule_natural ∷ []) refl,
    (
      successor_holds (rule_natural ∷ rule_nought ∷ []) refl,
      (
        product_holds naturals,
        (
          lambda_holds (rule_natural ∷ rule_nought ∷ rule_successor ∷ rule_product ∷ []) refl,
          (application_holds (rule_natural ∷ rule_nought ∷ rule_successor ∷ rule_product ∷ rule_lambda ∷ []) refl, (beta_holds (rule_natural ∷ rule_nought ∷ rule_successor ∷ rule_product ∷ rule_lambda ∷ rule_application ∷ []) refl refl, tt)),
        ),
      ),
    ),
  ),
)

pub naturals_are_finitary : Finitary naturals
naturals_are_finitary = (natural_holds [], (nought_holds (rule_natural ∷ []) refl, (successor_holds (rule_natural ∷ rule_nought ∷ []) refl, tt)))

-- `{x : Nat}` before what is derivable at a variable of type `Nat`
under_natural : (x : Statement) → Der naturals_and_products [] ((0, natural) ∷ []) x → Der naturals_and_products [] [] (abstracted natural (close_statement 0 x))
under_natural x p =
    by_step naturals_and_products (sequent [] [] (plain (is_type natural)) ∷ sequent [] ((0, natural) ∷ []) x ∷ []) (sequent [] [] (abstracted natural (close_statement 0 x)))
    (abstraction 0 natural x refl (λ u B e. none_some e)) (more (natural_type naturals_and_products [] [] refl) (more p none))

family_premise : Der naturals_and_products [] [] (abstracted natural (plain (is_type natural)))
unfolding close_at
family_premise = under_natural (plain (is_type natural)) (natural_type naturals_and_products [] ((0, natural) ∷ []) refl)

body_premise : Der naturals_and_products [] [] (abstracted natural (plain (has_type (successor (bound 0)) natural)))
unfolding close_at
body_premise =
    let G : List (ℕ × Expression) = (0, natural) ∷ [] in
    under_natural (plain (has_type (successor (free 0)) natural))
    (successor_term naturals_and_products [] G (free 0) refl
    (by_step naturals_and_products (sequent [] G (plain (is_type natural)) ∷ []) (sequent [] G (plain (has_type (free 0) natural))) (variable 0 natural refl) (more (natural_type naturals_and_products [] G refl) none)))

beta_arguments : Arguments
beta_arguments = with_body 0 natural (with_body 1 natural (with_body 1 (successor (bound 0)) (with_body 0 nought no_arguments)))

beta_instance : Der naturals_and_products [] [] (plain (equal_terms (application natural natural (lambda natural natural (successor (bound 0))) nought) (successor nought) natural))
unfolding beta_arguments act body_or put push pushes count lifts lift rename
beta_instance =
    node (sequents [] [] (filled_premises (instance_of rule_beta.premises beta_arguments) rule_beta.premises beta_arguments))
    (inr (5, omega arith, equation_instance 6 rule_beta beta_arguments refl (refl, tt, (refl, tt, (refl, tt, (refl, tt, tt)))) tt))
    (more (natural_type naturals_and_products [] [] refl) (more family_premise (more body_premise (more (nought_term naturals_and_products [] [] refl) none))))

pub beta_is_derivable : BetaIsDerivable
beta_is_derivable = (law 7 naturals_and_products products_are_finitary [] [] (plain (equal_terms (application natural natural (lambda natural natural (successor (bound 0))) nought) (successor nought) natural))).0 beta_instance
