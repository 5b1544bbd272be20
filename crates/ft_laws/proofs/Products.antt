-- The natural numbers and dependent products: worked derivations, by primitive and wide steps.
use Rattle.std.proofs.Common.{◌≡◌, ℕ, Some, List, [], ◌∷◌, inl, inr, refl, arith}
use Rattle.ft_common.proofs.Options.{none_some}
use Rattle.ft_theory.specs.Expressions.{Expression, bound, free, symbol, Arguments, no_arguments, with_body, no_terms, also, count, lifts, put, push, pushes, body_or, act, open_at, close_at}
use Rattle.ft_theory.specs.Statements.{is_type, has_type, type_goal, term_goal, Statement, plain, abstracted, fill_goal, IsObjectGoal, close_statement}
use Rattle.ft_theory.specs.Rules.{look_up, Rule, rule_at, instance_of, FitsPremises, filled_premises, conclusion_at}
use Rattle.ft_theory.specs.Steps.{Sequent, sequent, sequents, Step, variable, metavariable, abstraction, for_type, for_term, symbol_rule, Tree, Trees, node, none, more, Prim}
use Rattle.ft_theory.specs.WideSteps.{weakening, object_instance}
use Rattle.ft_theory.specs.Derivability.{StepUpTo, Der}
use Rattle.ft_laws.specs.Examples.{natural, nought, successor, rule_natural, rule_nought, rule_successor, naturals, base, family, body, argument, product, lambda, application, rule_product, rule_lambda, rule_application, TwoIsNatural}
use Rattle.ft_laws.proofs.Steps.{do_for_term}

-- primitive derivations of numerals
natural_is_type : (M : List (ℕ × Statement)) (G : List (ℕ × Expression)) → Prim naturals M G (plain (is_type natural))
natural_is_type M G = node (sequent M G (plain type_goal) ∷ []) (symbol_rule 0 rule_natural no_arguments refl tt tt) (more (node [] for_type none) none)

nought_is_natural : (M : List (ℕ × Statement)) (G : List (ℕ × Expression)) → Prim naturals M G (plain (has_type nought natural))
unfolding act
nought_is_natural M G = node (sequent M G (plain (term_goal natural)) ∷ []) (symbol_rule 1 rule_nought no_arguments refl tt tt) (more (do_for_term (natural_is_type M G)) none)

successor_is_natural : (M : List (ℕ × Statement)) (G : List (ℕ × Expression)) (n : Expression) → Prim naturals M G (plain (has_type n natural)) → Prim naturals M G (plain (has_type (successor n) natural))
unfolding act
successor_is_natural M G n p =
    node (sequent M G (plain (term_goal natural)) ∷ sequent M G (plain (has_type n natural)) ∷ []) (symbol_rule 2 rule_successor (with_body 0 n no_arguments) refl (refl, tt, tt) tt)
    (more (do_for_term (natural_is_type M G)) (more p none))

pub two_is_natural : TwoIsNatural
two_is_natural M G = successor_is_natural M G (successor nought) (successor_is_natural M G nought (nought_is_natural M G))

-- a primitive step, and an instance of a symbol rule by its premises alone, among the steps of all kinds
pub by_step : (T : List Rule) (ps : List Sequent) (c : Sequent) → Step T ps c → Trees (StepUpTo 7 T) ps → Tree (StepUpTo 7 T) c
by_step T ps c s ts = node ps (inl s) ts

pub by_rule : (T : List Rule) (M : List (ℕ × Statement)) (G : List (ℕ × Expression)) (r : ℕ) (R : Rule) (a : Arguments) → rule_at T r ≡ Some R → FitsPremises R.premises a → IsObjectGoal R.conclusion
    → Trees (StepUpTo 7 T) (sequents M G (filled_premises (instance_of R.premises a) R.premises a)) → Der T M G (plain (fill_goal (conclusion_at R a) (symbol r a)))
by_rule T M G r R a q f o ts = node (sequents M G (filled_premises (instance_of R.premises a) R.premises a)) (inr (5, omega arith, object_instance r R a q f o)) ts

by_weakening : (T : List Rule) (M : List (ℕ × Statement)) (G : List (ℕ × Expression)) (x : Statement) → Der T M [] x → Der T M G x
by_weakening T M G x p = node (sequent M [] x ∷ []) (inr (1, omega arith, weakening x (λ m b q. q) (λ v A q. none_some q))) (more p none)

-- `A` is a type, where it is a metavariable with the boundary `_ type`
pub base_is_type : (T : List Rule) (M : List (ℕ × Statement)) (G : List (ℕ × Expression)) → look_up M 0 ≡ Some (plain type_goal) → Der T M G (plain (is_type base))
unfolding count
base_is_type T M G q = by_step T (sequent M G (plain type_goal) ∷ []) (sequent M G (plain (is_type base))) (metavariable 0 (plain type_goal) no_terms q tt tt refl) (more (by_step T [] (sequent M G (plain type_goal)) for_type none) none)

-- what is derivable at a variable of type `A` is so under that variable
under_base : (T : List Rule) (M : List (ℕ × Statement)) (x : Statement) → look_up M 0 ≡ Some (plain type_goal) → Der T M ((0, base) ∷ []) x → Der T M [] (abstracted base (close_statement 0 x))
under_base T M x q p =
    by_step T (sequent M [] (plain (is_type base)) ∷ sequent M ((0, base) ∷ []) x ∷ []) (sequent M [] (abstracted base (close_statement 0 x)))
    (abstraction 0 base x refl (λ u B e. none_some e)) (more (base_is_type T M [] q) (more p none))

variable_in_base : (T : List Rule) (M : List (ℕ × Statement)) → look_up M 0 ≡ Some (plain type_goal) → Der T M ((0, base) ∷ []) (plain (has_type (free 0) base))
variable_in_base T M q = by_step T (sequent M ((0, base) ∷ []) (plain (is_type base)) ∷ []) (sequent M ((0, base) ∷ []) (plain (has_type (free 0) base))) (variable 0 base refl) (more (base_is_type T M ((0, base) ∷ []) q) none)

-- the boundary of `B`, and `B` at a term and under a variable
pub family_boundary : (T : List Rule) (M : List (ℕ × Statement)) → look_up M 0 ≡ Some (plain type_goal) → Der T M [] (abstracted base (plain type_goal))
family_boundary T M q = under_base T M (plain type_goal) q (by_step T [] (sequent M ((0, base) ∷ []) (plain type_goal)) for_type none)

pub family_is_type : (T : List Rule) (M : List (ℕ × Statement)) (G : List (ℕ × Expression)) (t : Expression) → look_up M 0 ≡ Some (plain type_goal) → look_up M 1 ≡ Some (abstracted base (plain type_goal)) → Der T M G (plain (has_type t base)) → Der T M G (plain (is_type (family t)))
unfolding count
family_is_type T M G t q r p =
    by_step T (sequent M G (abstracted base (plain type_goal)) ∷ sequent M G (plain (has_type t base)) ∷ []) (sequent M G (plain (is_type (family t))))
    (metavariable 1 (abstracted base (plain type_goal)) (also t no_terms) r ((tt, tt), tt) tt refl) (more (by_weakening T M G (abstracted base (plain type_goal)) (family_boundary T M q)) (more p none))

family_under_base : (T : List Rule) (M : List (ℕ × Statement)) → look_up M 0 ≡ Some (plain type_goal) → look_up M 1 ≡ Some (abstracted base (plain type_goal)) → Der T M [] (abstracted base (plain (is_type (family (bound 0)))))
unfolding close_at
family_under_base T M q r = under_base T M (plain (is_type (family (free 0)))) q (family_is_type T M ((0, base) ∷ []) (free 0) q r (variable_in_base T M q))

-- the boundary of `e`, and `e` at a term and under a variable
pub body_boundary : (T : List Rule) (M : List (ℕ × Statement)) → look_up M 0 ≡ Some (plain type_goal) → look_up M 1 ≡ Some (abstracted base (plain type_goal)) → Der T M [] (abstracted base (plain (term_goal (family (bound 0)))))
unfolding close_at
body_boundary T M q r =
    under_base T M (plain (term_goal (family (free 0)))) q
    (by_step T (sequent M ((0, base) ∷ []) (plain (is_type (family (free 0)))) ∷ []) (sequent M ((0, base) ∷ []) (plain (term_goal (family (free 0))))) (for_term (family (free 0)))
    (more (family_is_type T M ((0, base) ∷ []) (free 0) q r (variable_in_base T M q)) none))

pub body_in_family : (T : List Rule) (M : List (ℕ × Statement)) (G : List (ℕ × Expression)) (t : Expression) → look_up M 0 ≡ Some (plain type_goal) → look_up M 1 ≡ Some (abstracted base (plain type_goal)) → look_up M 2 ≡ Some (abstracted base (plain (term_goal (family (bound 0))))) → Der T M G (plain (has_type t base)) → Der T M G (plain (has_type (body t) (family t)))
unfolding count open_at
body_in_family T M G t q r s p =
    by_step T (sequent M G (abstracted base (plain (term_goal (family (bound 0))))) ∷ sequent M G (plain (has_type t base)) ∷ []) (sequent M G (plain (has_type (body t) (family t))))
    (metavariable 2 (abstracted base (plain (term_goal (family (bound 0))))) (also t no_terms) s ((tt, tt), (tt, (tt, tt))) tt refl)
    (more (by_weakening T M G (abstracted base (plain (term_goal (family (bound 0))))) (body_boundary T M q r)) (more p none))

body_under_base : (T : List Rule) (M : List (ℕ × Statement)) → look_up M 0 ≡ Some (plain type_goal) → look_up M 1 ≡ Some (abstracted base (plain type_goal)) → look_up M 2 ≡ Some (abstracted base (plain (term_goal (family (bound 0))))) → Der T M [] (abstracted base (plain (has_type (body (bound 0)) (family (bound 0)))))
unfolding close_at
body_under_base T M q r s = under_base T M (plain (has_type (body (free 0)) (family (free 0)))) q (body_in_family T M ((0, base) ∷ []) (free 0) q r s (variable_in_base T M q))

-- the product, the lambda term and its application, over the metavariables of the beta rule
pub product_is_type : (T : List Rule) (M : List (ℕ × Statement)) → rule_at T 3 ≡ Some rule_product → look_up M 0 ≡ Some (plain type_goal) → look_up M 1 ≡ Some (abstracted base (plain type_goal)) → Der T M [] (plain (is_type (product base (family (bound 0)))))
unfolding act body_or put push pushes count lifts
product_is_type T M p q r = by_rule T M [] 3 rule_product (with_body 0 base (with_body 1 (family (bound 0)) no_arguments)) p (refl, tt, (refl, tt, tt)) tt (more (base_is_type T M [] q) (more (family_under_base T M q r) none))

lambda_in_product : (T : List Rule) (M : List (ℕ × Statement)) → rule_at T 4 ≡ Some rule_lambda → look_up M 0 ≡ Some (plain type_goal) → look_up M 1 ≡ Some (abstracted base (plain type_goal)) → look_up M 2 ≡ Some (abstracted base (plain (term_goal (family (bound 0)))))
    → Der T M [] (plain (has_type (lambda base (family (bound 0)) (body (bound 0))) (product base (family (bound 0)))))
unfolding act body_or put push pushes count lifts
lambda_in_product T M p q r s =
    by_rule T M [] 4 rule_lambda (with_body 0 base (with_body 1 (family (bound 0)) (with_body 1 (body (bound 0)) no_arguments))) p (refl, tt, (refl, tt, (refl, tt, tt))) tt
    (more (base_is_type T M [] q) (more (family_under_base T M q r) (more (body_under_base T M q r s) none)))

pub argument_in_base : (T : List Rule) (M : List (ℕ × Statement)) → look_up M 0 ≡ Some (plain type_goal) → look_up M 3 ≡ Some (plain (term_goal base)) → Der T M [] (plain (has_type argument base))
unfolding count
argument_in_base T M q r =
    by_step T (sequent M [] (plain (term_goal base)) ∷ []) (sequent M [] (plain (has_type argument base))) (metavariable 3 (plain (term_goal base)) no_terms r (tt, tt) tt refl)
    (more (by_step T (sequent M [] (plain (is_type base)) ∷ []) (sequent M [] (plain (term_goal base))) (for_term base) (more (base_is_type T M [] q) none)) none)

pub application_in_family : (T : List Rule) (M : List (ℕ × Statement)) → rule_at T 4 ≡ Some rule_lambda → rule_at T 5 ≡ Some rule_application → look_up M 0 ≡ Some (plain type_goal) → look_up M 1 ≡ Some (abstracted base (plain type_goal)) → look_up M 2 ≡ Some (abstracted base (plain (term_goal (family (bound 0))))) → look_up M 3 ≡ Some (plain (term_goal base))
    → Der T M [] (plain (has_type (application base (family (bound 0)) (lambda base (family (bound 0)) (body (bound 0))) argument) (family argument)))
unfolding act body_or put push pushes count lifts
application_in_family T M p p' q r s t =
    by_rule T M [] 5 rule_application (with_body 0 base (with_body 1 (family (bound 0)) (with_body 0 (lambda base (family (bound 0)) (body (bound 0))) (with_body 0 argument no_arguments)))) p' (refl, tt, (refl, tt, (refl, tt, (refl, tt, tt)))) tt
    (more (base_is_type T M [] q) (more (family_under_base T M q r) (more (lambda_in_product T M p q r s) (more (argument_in_base T M q t) none))))
