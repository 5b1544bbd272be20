-- A theory over which a variable that is not mentioned cannot be dropped: `absurd (a : Empty) : Nat == Bool`.
use Rattle.std.proofs.Common.{◌≡◌, ℕ, zero, suc, Some, List, [], ◌∷◌, ◌⊎◌, inl, inr, refl, sym, ap, ◌∙◌, subst}
use Rattle.std.proofs.lemmas.Option.{same_Some}
use Rattle.ft_common.proofs.Options.{none_some}
use Rattle.ft_theory.specs.Expressions.{Expression, free, symbol, Arguments, no_arguments, with_body, dummy, act}
use Rattle.ft_theory.specs.Statements.{is_type, has_type, equal_types, equal_terms, type_goal, term_goal, type_equation_goal, term_equation_goal, Statement, plain, abstracted, fill_goal, equate_goal, IsObjectGoal, IsEquationGoal}
use Rattle.ft_theory.specs.Rules.{Rule, rule_at, instance_of, FitsPremises, filled_premises, conclusion_at, look_up}
use Rattle.ft_theory.specs.Steps.{Sequent, sequent, sequents, Step, variable, metavariable, metavariable_equation, metavariable_congruence, abstraction, reflexive_type, reflexive_term, symmetric_types, symmetric_terms, transitive_types, transitive_terms, convert_term, convert_equation, for_type, for_term, for_types, for_terms, symbol_rule, equation_rule, congruence, Tree, node, none, more, Prim}
use Rattle.ft_theory.specs.Derivability.{Der, Finitary, RuleHolds}
use Rattle.ft_laws.specs.Counterexamples.{NoStrengthening}
use Rattle.ft_laws.proofs.Induction.{AllOf, induct}
use Rattle.ft_laws.proofs.Steps.{do_variable, do_for_types}
use Rattle.ft_laws.proofs.Products.{by_step, by_rule}
use Rattle.ft_laws.proofs.ProductsFinitary.{type_boundary, term_boundary}

-- three types, `Nat`, `Bool` and `Empty`, and an equation for each term of the last
abbrev type_rule : Rule
type_rule = record { premises = []; conclusion = type_goal }

abbrev the_type : ℕ → Expression
the_type r = symbol r no_arguments

abbrev absurd_rule : Rule
absurd_rule = record { premises = (0, plain (term_goal (the_type 2))) ∷ []; conclusion = type_equation_goal (the_type 0) (the_type 1) }

abbrev absurd_theory : List Rule
absurd_theory = type_rule ∷ type_rule ∷ type_rule ∷ absurd_rule ∷ []

-- it is finitary
type_by_rule : (T : List Rule) (M : List (ℕ × Statement)) (r : ℕ) → rule_at T r ≡ Some type_rule → Der T M [] (plain (is_type (the_type r)))
type_by_rule T M r q = by_rule T M [] r type_rule no_arguments q tt tt none

type_holds : (T : List Rule) → RuleHolds (λ M x. Der T M [] x) type_rule
type_holds T = (tt, inl tt, type_boundary T [] [])

absurd_holds : RuleHolds (λ M x. Der (type_rule ∷ type_rule ∷ type_rule ∷ []) M [] x) absurd_rule
absurd_holds =
    let T : List Rule = type_rule ∷ type_rule ∷ type_rule ∷ [] in
    let M : List (ℕ × Statement) = absurd_rule.premises in (
      (refl, inl tt, term_boundary T [] [] (the_type 2) (type_by_rule T [] 2 refl), tt),
      inr tt,
      by_step T (sequent M [] (plain (is_type (the_type 0))) ∷ sequent M [] (plain (is_type (the_type 1))) ∷ []) (sequent M [] (plain (type_equation_goal (the_type 0) (the_type 1)))) (for_types (the_type 0) (the_type 1))
          (more (type_by_rule T M 0 refl) (more (type_by_rule T M 1 refl) none)),
    )

absurd_is_finitary : Finitary absurd_theory
absurd_is_finitary = (type_holds [], (type_holds (type_rule ∷ []), (type_holds (type_rule ∷ type_rule ∷ []), (absurd_holds, tt))))

-- with a variable of the type `Empty`, `Nat == Bool` is derivable
type_is_primitive : (G : List (ℕ × Expression)) (r : ℕ) → rule_at absurd_theory r ≡ Some type_rule → Prim absurd_theory [] G (plain (is_type (the_type r)))
type_is_primitive G r q = node (sequent [] G (plain type_goal) ∷ []) (symbol_rule r type_rule no_arguments q tt tt) (more (node [] for_type none) none)

with_variable : Prim absurd_theory [] ((0, the_type 2) ∷ []) (plain (equal_types (the_type 0) (the_type 1)))
unfolding act
with_variable =
    let G : List (ℕ × Expression) = (0, the_type 2) ∷ [] in
    node (sequent [] G (plain (type_equation_goal (the_type 0) (the_type 1))) ∷ sequent [] G (plain (has_type (free 0) (the_type 2))) ∷ []) (equation_rule 3 absurd_rule (with_body 0 (free 0) no_arguments) refl (refl, tt, tt) tt)
    (more (do_for_types (type_is_primitive G 0 refl) (type_is_primitive G 1 refl)) (more (do_variable 0 refl (type_is_primitive G 2 refl)) none))

-- without variables and metavariables there are no terms, and each type equals itself alone
abbrev Separate : Statement → Type 0
Separate (plain (is_type A)) = Unit {0}
Separate (plain (has_type t A)) = ⊥
Separate (plain (equal_types A B)) = A ≡ B
Separate (plain (equal_terms s t A)) = Unit {0}
Separate (plain type_goal) = Unit {0}
Separate (plain (term_goal A)) = Unit {0}
Separate (plain (type_equation_goal A B)) = Unit {0}
Separate (plain (term_equation_goal s t A)) = Unit {0}
Separate (abstracted A x) = Unit {0}

abbrev SeparateIn : Sequent → Type 0
SeparateIn c = c.metavariables ≡ [] → c.variables ≡ [] → Separate c.statement

each_rule : (r : ℕ) (R : Rule) → rule_at absurd_theory r ≡ Some R → (type_rule ≡ R) ⊎ (absurd_rule ≡ R)
each_rule zero R q = inl (same_Some type_rule R q)
each_rule (suc zero) R q = inl (same_Some type_rule R q)
each_rule (suc (suc zero)) R q = inl (same_Some type_rule R q)
each_rule (suc (suc (suc zero))) R q = inr (same_Some absurd_rule R q)
each_rule (suc (suc (suc (suc r)))) R q = none_some q

of_symbol : (r : ℕ) (R : Rule) (a : Arguments) → IsObjectGoal R.conclusion → (type_rule ≡ R) ⊎ (absurd_rule ≡ R) → Separate (plain (fill_goal (conclusion_at R a) (symbol r a)))
of_symbol r R a o (inl e) = subst (λ R. Separate (plain (fill_goal (conclusion_at R a) (symbol r a)))) e tt
of_symbol r R a o (inr e) = absurd (subst (λ R. IsObjectGoal R.conclusion) (sym e) o)

no_premise : (M : List (ℕ × Statement)) (G : List (ℕ × Expression)) (a : Arguments) → M ≡ [] → G ≡ [] → FitsPremises absurd_rule.premises a → AllOf SeparateIn (sequents M G (filled_premises (instance_of absurd_rule.premises a) absurd_rule.premises a)) → ⊥
no_premise M G no_arguments e e' f h = f
no_premise M G (with_body n t a) e e' f h = h.0 e e'
no_premise M G (dummy n a) e e' f h = f.1

of_equation : (M : List (ℕ × Statement)) (G : List (ℕ × Expression)) (R : Rule) (a : Arguments) → M ≡ [] → G ≡ [] → FitsPremises R.premises a → IsEquationGoal R.conclusion → AllOf SeparateIn (sequents M G (filled_premises (instance_of R.premises a) R.premises a)) → (type_rule ≡ R) ⊎ (absurd_rule ≡ R) → ⊥
of_equation M G R a e e' f o h (inl q) = subst (λ R. IsEquationGoal R.conclusion) (sym q) o
of_equation M G R a e e' f o h (inr q) = subst (λ R. FitsPremises R.premises a → AllOf SeparateIn (sequents M G (filled_premises (instance_of R.premises a) R.premises a)) → ⊥) q (no_premise M G a e e') f h

pub no_argument : (a : Arguments) → FitsPremises [] a → no_arguments ≡ a
no_argument no_arguments f = refl
no_argument (with_body n e a) f = absurd f
no_argument (dummy n a) f = absurd f

of_congruence : (r : ℕ) (R : Rule) (a b : Arguments) → FitsPremises R.premises a → FitsPremises R.premises b → IsObjectGoal R.conclusion → (type_rule ≡ R) ⊎ (absurd_rule ≡ R) → Separate (plain (equate_goal (conclusion_at R a) (symbol r a) (symbol r b)))
of_congruence r R a b f f' o (inl e) =
    subst (λ R. FitsPremises R.premises a → FitsPremises R.premises b → Separate (plain (equate_goal (conclusion_at R a) (symbol r a) (symbol r b)))) e
    (λ f f'. ap (symbol r) (sym (no_argument a f) ∙ no_argument b f')) f f'
of_congruence r R a b f f' o (inr e) = absurd (subst (λ R. IsObjectGoal R.conclusion) (sym e) o)

pub no_entry : {A : Type 0} {P : Type 0} (M : List (ℕ × A)) (m : ℕ) (b : A) → M ≡ [] → look_up M m ≡ Some b → P
no_entry M m b e q = none_some (subst (λ M. look_up M m ≡ Some b) e q)

separate : (c : Sequent) → Tree (Step absurd_theory) c → SeparateIn c
separate = induct (Step absurd_theory) SeparateIn (λ ps c s ts h. last ps c s h)
  where
    last : (ps : List Sequent) (c : Sequent) → Step absurd_theory ps c → AllOf SeparateIn ps → SeparateIn c
    last ps c (variable {M} {G} v A q) h e e' = no_entry G v A e' q
    last ps c (metavariable {M} {G} m b a q g o d) h e e' = no_entry M m b e q
    last ps c (metavariable_equation {M} {G} m b a q g o d) h e e' = no_entry M m b e q
    last ps c (metavariable_congruence {M} {G} m b a k q g o d d') h e e' = no_entry M m b e q
    last ps c (abstraction v A x n u) h e e' = tt
    last ps c (reflexive_type A) h e e' = refl
    last ps c (reflexive_term t A) h e e' = tt
    last ps c (symmetric_types A B) h e e' = sym (h.0 e e')
    last ps c (symmetric_terms s t A) h e e' = tt
    last ps c (transitive_types A B C) h e e' = h.0 e e' ∙ h.1.0 e e'
    last ps c (transitive_terms s t u A) h e e' = tt
    last ps c (convert_term t A B) h e e' = h.0 e e'
    last ps c (convert_equation s t A B) h e e' = tt
    last ps c for_type h e e' = tt
    last ps c (for_term A) h e e' = tt
    last ps c (for_types A B) h e e' = tt
    last ps c (for_terms s t A) h e e' = tt
    last ps c (symbol_rule r R a q f o) h e e' = of_symbol r R a o (each_rule r R q)
    last ps c (equation_rule {M} {G} r R a q f o) h e e' = absurd (of_equation M G R a e e' f o h.1 (each_rule r R q))
    last ps c (congruence r R a b q f f' o) h e e' = of_congruence r R a b f f' o (each_rule r R q)

types_differ : the_type 0 ≡ the_type 1 → ⊥
types_differ e = cc

pub no_strengthening : NoStrengthening
no_strengthening h =
    types_differ (separate (sequent [] [] (plain (equal_types (the_type 0) (the_type 1))))
    (h absurd_theory absurd_is_finitary [] [] 0 (the_type 2) (plain (equal_types (the_type 0) (the_type 1))) (refl, λ u B e. none_some e) (tt, tt) with_variable) refl refl)
