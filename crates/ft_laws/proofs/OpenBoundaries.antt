-- A map whose metavariable has a free variable in its boundary `_ : D(v0)`: a term put for the variable is not derivable.
use Rattle.std.proofs.Common.{◌≡◌, ℕ, zero, suc, Some, List, [], ◌∷◌, ◌⊎◌, inl, inr, refl, sym, ap, ◌∙◌, subst}
use Rattle.std.proofs.lemmas.Option.{same_Some}
use Rattle.ft_common.proofs.Options.{none_some}
use Rattle.ft_theory.specs.Expressions.{Expression, bound, free, symbol, meta, Arguments, no_arguments, with_body, dummy, no_terms, count, act, open_at, close_at}
use Rattle.ft_theory.specs.Statements.{is_type, has_type, equal_types, equal_terms, type_goal, term_goal, type_equation_goal, term_equation_goal, Statement, plain, abstracted, at, fill_goal, equate, equate_goal, IsEquationGoal}
use Rattle.ft_theory.specs.Rules.{Rule, rule_at, instance_of, FitsPremises, filled_premises, conclusion_at, look_up}
use Rattle.ft_theory.specs.Steps.{Sequent, sequent, sequents, Step, variable, metavariable, metavariable_equation, metavariable_congruence, abstraction, reflexive_type, reflexive_term, symmetric_types, symmetric_terms, transitive_types, transitive_terms, convert_term, convert_equation, for_type, for_term, for_types, for_terms, symbol_rule, equation_rule, congruence, Tree, node, none, more}
use Rattle.ft_theory.specs.Derivability.{Der, Finitary}
use Rattle.ft_laws.specs.Counterexamples.{OpenMetavariable, with_open_boundary, SubstitutionNeedsVariableFree}
use Rattle.ft_laws.proofs.Induction.{AllOf, induct}
use Rattle.ft_laws.proofs.Opens.{by_test}
use Rattle.ft_laws.proofs.Equal.{at_plain}
use Rattle.ft_laws.proofs.Rules.{found, past}
use Rattle.ft_laws.proofs.Products.{by_rule}
use Rattle.ft_laws.proofs.ProductsFinitary.{type_boundary, term_boundary}
use Rattle.ft_laws.proofs.Strengthening.{no_entry, no_argument}

-- `E type`, `c : E` and `D (n : E) type`
abbrev elements : Expression
elements = symbol 0 no_arguments

abbrev constant : Expression
constant = symbol 1 no_arguments

abbrev dependent : Expression → Expression
dependent n = symbol 2 (with_body 0 n no_arguments)

abbrev elements_rule : Rule
elements_rule = record { premises = []; conclusion = type_goal }

abbrev constant_rule : Rule
constant_rule = record { premises = []; conclusion = term_goal elements }

abbrev dependent_rule : Rule
dependent_rule = record { premises = (0, plain (term_goal elements)) ∷ []; conclusion = type_goal }

abbrev the_theory : List Rule
the_theory = elements_rule ∷ constant_rule ∷ dependent_rule ∷ []

-- it is finitary
elements_type : (T : List Rule) → rule_at T 0 ≡ Some elements_rule → Der T [] [] (plain (is_type elements))
elements_type T q = by_rule T [] [] 0 elements_rule no_arguments q tt tt none

the_theory_is_finitary : Finitary the_theory
the_theory_is_finitary = (
  (tt, inl tt, type_boundary [] [] []),
  (
    (tt, inl tt, term_boundary (elements_rule ∷ []) [] [] elements (elements_type (elements_rule ∷ []) refl)),
    (
      (
        (refl, inl tt, term_boundary (elements_rule ∷ constant_rule ∷ []) [] [] elements (elements_type (elements_rule ∷ constant_rule ∷ []) refl), tt),
        inl tt,
        type_boundary (elements_rule ∷ constant_rule ∷ []) dependent_rule.premises [],
      ),
      tt,
    ),
  ),
)

-- the metavariable m0 with the boundary `_ : D(v0)`
abbrev the_map : List (ℕ × Statement)
the_map = (0, plain (term_goal (dependent (free 0)))) ∷ []

abbrev AnyStep : List Sequent → Sequent → Type 0
AnyStep ps c = Step the_theory ps c ⊎ OpenMetavariable ps c

-- the steps of the theory, over that map
type_elements : (G : List (ℕ × Expression)) → Tree AnyStep (sequent the_map G (plain (is_type elements)))
type_elements G = node (sequent the_map G (plain type_goal) ∷ []) (inl (symbol_rule 0 elements_rule no_arguments refl tt tt)) (more (node [] (inl for_type) none) none)

term_constant : Tree AnyStep (sequent the_map [] (plain (has_type constant elements)))
unfolding act
term_constant =
    node (sequent the_map [] (plain (term_goal elements)) ∷ []) (inl (symbol_rule 1 constant_rule no_arguments refl tt tt))
    (more (node (sequent the_map [] (plain (is_type elements)) ∷ []) (inl (for_term elements)) (more (type_elements []) none)) none)

-- `{x : E} m0() : D(x)` is derivable
under_elements : Tree AnyStep (sequent the_map [] (abstracted elements (plain (has_type (meta 0 no_terms) (dependent (bound 0))))))
unfolding act count close_at
under_elements =
    let G : List (ℕ × Expression) = (0, elements) ∷ [] in
    let v : Tree AnyStep (sequent the_map G (plain (has_type (free 0) elements))) = node (sequent the_map G (plain (is_type elements)) ∷ []) (inl (variable 0 elements refl)) (more (type_elements G) none) in
    let d : Tree AnyStep (sequent the_map G (plain (is_type (dependent (free 0))))) =
    node (sequent the_map G (plain type_goal) ∷ sequent the_map G (plain (has_type (free 0) elements)) ∷ []) (inl (symbol_rule 2 dependent_rule (with_body 0 (free 0) no_arguments) refl (refl, tt, tt) tt))
    (more (node [] (inl for_type) none) (more v none)) in
    let b : Tree AnyStep (sequent the_map G (plain (term_goal (dependent (free 0))))) = node (sequent the_map G (plain (is_type (dependent (free 0)))) ∷ []) (inl (for_term (dependent (free 0)))) (more d none) in
    let m : Tree AnyStep (sequent the_map G (plain (has_type (meta 0 no_terms) (dependent (free 0))))) =
    node (sequent the_map G (plain (term_goal (dependent (free 0)))) ∷ []) (inr (with_open_boundary 0 (plain (term_goal (dependent (free 0)))) no_terms refl tt refl)) (more b none) in
    node (sequent the_map [] (plain (is_type elements)) ∷ sequent the_map G (plain (has_type (meta 0 no_terms) (dependent (free 0)))) ∷ [])
    (inl (abstraction 0 elements (plain (has_type (meta 0 no_terms) (dependent (free 0)))) refl (λ u B e. none_some e))) (more (type_elements []) (more m none))

-- over no variables no term is a free variable or a metavariable, and no type has a free variable as its first argument
abbrev IsSymbol : Expression → Type 0
IsSymbol (bound i) = Unit {0}
IsSymbol (free v) = ⊥
IsSymbol (symbol s a) = Unit {0}
IsSymbol (meta m a) = ⊥

abbrev FirstIsSymbol : Arguments → Type 0
FirstIsSymbol no_arguments = Unit {0}
FirstIsSymbol (with_body n e a) = IsSymbol e
FirstIsSymbol (dummy n a) = Unit {0}

abbrev IsVariableless : Expression → Type 0
IsVariableless (bound i) = Unit {0}
IsVariableless (free v) = Unit {0}
IsVariableless (symbol s a) = FirstIsSymbol a
IsVariableless (meta m a) = Unit {0}

abbrev Expected : Statement → Type 0
Expected (plain (is_type A)) = IsVariableless A
Expected (plain (has_type t A)) = IsSymbol t
Expected (plain (equal_types A B)) = Unit {0}
Expected (plain (equal_terms s t A)) = Unit {0}
Expected (plain type_goal) = Unit {0}
Expected (plain (term_goal A)) = IsVariableless A
Expected (plain (type_equation_goal A B)) = Unit {0}
Expected (plain (term_equation_goal s t A)) = Unit {0}
Expected (abstracted A x) = Unit {0}

abbrev ExpectedIn : Sequent → Type 0
ExpectedIn c = c.metavariables ≡ the_map → c.variables ≡ [] → Expected c.statement

the_boundary : (M : List (ℕ × Statement)) (m : ℕ) (b : Statement) → M ≡ the_map → look_up M m ≡ Some b → plain (term_goal (dependent (free 0))) ≡ b
the_boundary M m b e q =
    let q' : look_up the_map m ≡ Some b = subst (λ M. look_up M m ≡ Some b) e q in
    by_test (plain (term_goal (dependent (free 0))) ≡ b) m 0
    (λ d. found m (0, plain (term_goal (dependent (free 0)))) [] b d q')
    (λ n. none_some (past m (0, plain (term_goal (dependent (free 0)))) [] b n q'))

not_expected : (M : List (ℕ × Statement)) (G : List (ℕ × Expression)) (m : ℕ) (b : Statement) → M ≡ the_map → G ≡ [] → look_up M m ≡ Some b → ExpectedIn (sequent M G b) → ⊥
not_expected M G m b e e' q h = subst Expected (sym (the_boundary M m b e q)) (h e e')

each_rule : (r : ℕ) (R : Rule) → rule_at the_theory r ≡ Some R → (elements_rule ≡ R) ⊎ ((constant_rule ≡ R) ⊎ (dependent_rule ≡ R))
each_rule zero R q = inl (same_Some elements_rule R q)
each_rule (suc zero) R q = inr (inl (same_Some constant_rule R q))
each_rule (suc (suc zero)) R q = inr (inr (same_Some dependent_rule R q))
each_rule (suc (suc (suc r))) R q = none_some q

of_dependent : (M : List (ℕ × Statement)) (G : List (ℕ × Expression)) (a : Arguments) → M ≡ the_map → G ≡ [] → AllOf ExpectedIn (sequents M G (filled_premises (instance_of dependent_rule.premises a) dependent_rule.premises a)) → FirstIsSymbol a
of_dependent M G no_arguments e e' h = tt
of_dependent M G (with_body n t a) e e' h = h.0 e e'
of_dependent M G (dummy n a) e e' h = tt

of_symbol : (M : List (ℕ × Statement)) (G : List (ℕ × Expression)) (r : ℕ) (R : Rule) (a : Arguments) → M ≡ the_map → G ≡ [] → FitsPremises R.premises a → AllOf ExpectedIn (sequents M G (filled_premises (instance_of R.premises a) R.premises a))
    → (elements_rule ≡ R) ⊎ ((constant_rule ≡ R) ⊎ (dependent_rule ≡ R)) → Expected (plain (fill_goal (conclusion_at R a) (symbol r a)))
of_symbol M G r R a e e' f h (inl q) = subst (λ R. FitsPremises R.premises a → Expected (plain (fill_goal (conclusion_at R a) (symbol r a)))) q (λ f. subst FirstIsSymbol (no_argument a f) tt) f
of_symbol M G r R a e e' f h (inr (inl q)) = subst (λ R. Expected (plain (fill_goal (conclusion_at R a) (symbol r a)))) q tt
of_symbol M G r R a e e' f h (inr (inr q)) =
    subst (λ R. AllOf ExpectedIn (sequents M G (filled_premises (instance_of R.premises a) R.premises a)) → Expected (plain (fill_goal (conclusion_at R a) (symbol r a)))) q (of_dependent M G a e e') h

of_equation : (R : Rule) → IsEquationGoal R.conclusion → (elements_rule ≡ R) ⊎ ((constant_rule ≡ R) ⊎ (dependent_rule ≡ R)) → ⊥
of_equation R o (inl q) = subst (λ R. IsEquationGoal R.conclusion) (sym q) o
of_equation R o (inr (inl q)) = subst (λ R. IsEquationGoal R.conclusion) (sym q) o
of_equation R o (inr (inr q)) = subst (λ R. IsEquationGoal R.conclusion) (sym q) o

of_congruence : (r : ℕ) (R : Rule) (a b : Arguments) → (elements_rule ≡ R) ⊎ ((constant_rule ≡ R) ⊎ (dependent_rule ≡ R)) → Expected (plain (equate_goal (conclusion_at R a) (symbol r a) (symbol r b)))
of_congruence r R a b (inl q) = subst (λ R. Expected (plain (equate_goal (conclusion_at R a) (symbol r a) (symbol r b)))) q tt
of_congruence r R a b (inr (inl q)) = subst (λ R. Expected (plain (equate_goal (conclusion_at R a) (symbol r a) (symbol r b)))) q tt
of_congruence r R a b (inr (inr q)) = subst (λ R. Expected (plain (equate_goal (conclusion_at R a) (symbol r a) (symbol r b)))) q tt

expected : (c : Sequent) → Tree AnyStep c → ExpectedIn c
expected = induct AnyStep ExpectedIn (λ ps c s ts h. last ps c s h)
  where
    last : (ps : List Sequent) (c : Sequent) → AnyStep ps c → AllOf ExpectedIn ps → ExpectedIn c
    last ps c (inr (with_open_boundary {M} {G} m b a q o d)) h e e' = absurd (not_expected M G m b e e' q h.0)
    last ps c (inl (variable {M} {G} v A q)) h e e' = no_entry G v A e' q
    last ps c (inl (metavariable {M} {G} m b a q g o d)) h e e' = absurd (not_expected M G m b e e' q h.0)
    last ps c (inl (metavariable_equation {M} {G} m b a q g o d)) h e e' = absurd (not_expected M G m b e e' q h.0)
    last ps c (inl (metavariable_congruence {M} {G} m b a k q g o d d')) h e e' =
        subst (λ z. Expected (equate z (meta m a) (meta m k))) (sym (at_plain a (term_goal (dependent (free 0)))) ∙ ap (λ z. at z a) (the_boundary M m b e q)) tt
    last ps c (inl (abstraction v A x n u)) h e e' = tt
    last ps c (inl (reflexive_type A)) h e e' = tt
    last ps c (inl (reflexive_term t A)) h e e' = tt
    last ps c (inl (symmetric_types A B)) h e e' = tt
    last ps c (inl (symmetric_terms s t A)) h e e' = tt
    last ps c (inl (transitive_types A B C)) h e e' = tt
    last ps c (inl (transitive_terms s t u A)) h e e' = tt
    last ps c (inl (convert_term t A B)) h e e' = h.0 e e'
    last ps c (inl (convert_equation s t A B)) h e e' = tt
    last ps c (inl for_type) h e e' = tt
    last ps c (inl (for_term A)) h e e' = h.0 e e'
    last ps c (inl (for_types A B)) h e e' = tt
    last ps c (inl (for_terms s t A)) h e e' = tt
    last ps c (inl (symbol_rule {M} {G} r R a q f o)) h e e' = of_symbol M G r R a e e' f h.1 (each_rule r R q)
    last ps c (inl (equation_rule r R a q f o)) h e e' = absurd (of_equation R o (each_rule r R q))
    last ps c (inl (congruence r R a b q f f' o)) h e e' = of_congruence r R a b (each_rule r R q)

pub substitution_needs_variable_free : SubstitutionNeedsVariableFree
unfolding open_at
substitution_needs_variable_free h =
    expected (sequent the_map [] (plain (has_type (meta 0 no_terms) (dependent constant))))
    (h the_theory the_theory_is_finitary the_map [] elements constant (plain (has_type (meta 0 no_terms) (dependent (bound 0)))) under_elements term_constant) refl refl
