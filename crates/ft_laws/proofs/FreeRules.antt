-- A theory whose rule has a free variable in its boundary, `D(v5) == A`: weakening fails over it.
use Rattle.std.proofs.Common.{◌≡◌, ℕ, zero, suc, Some, None, List, [], ◌∷◌, ◌⊎◌, inl, inr, refl, sym, ap, ap₂, ◌∙◌, subst}
use Rattle.std.proofs.lemmas.Option.{same_Some}
use Rattle.ft_common.proofs.Options.{none_some}
use Rattle.ft_theory.specs.Expressions.{Expression, bound, free, symbol, meta, Arguments, no_arguments, with_body, dummy, act, open_at, close_at}
use Rattle.ft_theory.specs.Statements.{is_type, has_type, equal_types, equal_terms, type_goal, term_goal, type_equation_goal, term_equation_goal, Statement, plain, abstracted, fill_goal, equate_goal, IsObjectGoal, IsEquationGoal}
use Rattle.ft_theory.specs.Rules.{Rule, rule_at, instance_of, FitsPremises, equated_premises, conclusion_at, look_up}
use Rattle.ft_theory.specs.Steps.{Sequent, sequent, sequents, Step, variable, metavariable, metavariable_equation, metavariable_congruence, abstraction, reflexive_type, reflexive_term, symmetric_types, symmetric_terms, transitive_types, transitive_terms, convert_term, convert_equation, for_type, for_term, for_types, for_terms, symbol_rule, equation_rule, congruence, Tree, node, none, more, Prim}
use Rattle.ft_theory.specs.WideSteps.{weakening}
use Rattle.ft_laws.specs.Counterexamples.{LawNeedsFinitary}
use Rattle.ft_laws.proofs.Induction.{AllOf, induct}
use Rattle.ft_laws.proofs.Steps.{do_variable, do_for_types}
use Rattle.ft_laws.proofs.Peel.{Peeled, peel}
use Rattle.ft_laws.proofs.Admissible.{at_level}
use Rattle.ft_laws.proofs.Strengthening.{no_entry, no_argument}

-- `A type`, `D (n : A) type`, and an equation of `D(v5)` and `A`
abbrev elements : Expression
elements = symbol 0 no_arguments

abbrev dependent : Expression → Expression
dependent n = symbol 1 (with_body 0 n no_arguments)

abbrev elements_rule : Rule
elements_rule = record { premises = []; conclusion = type_goal }

abbrev dependent_rule : Rule
dependent_rule = record { premises = (0, plain (term_goal elements)) ∷ []; conclusion = type_goal }

abbrev free_rule : Rule
free_rule = record { premises = []; conclusion = type_equation_goal (dependent (free 5)) elements }

abbrev free_theory : List Rule
free_theory = elements_rule ∷ dependent_rule ∷ free_rule ∷ []

abbrev the_variables : List (ℕ × Expression)
the_variables = (5, elements) ∷ []

-- `{x : A} D(x) == A` is derivable over no variables, by the variable v5
type_elements : (G : List (ℕ × Expression)) → Prim free_theory [] G (plain (is_type elements))
type_elements G = node (sequent [] G (plain type_goal) ∷ []) (symbol_rule 0 elements_rule no_arguments refl tt tt) (more (node [] for_type none) none)

type_dependent : Prim free_theory [] the_variables (plain (is_type (dependent (free 5))))
unfolding act
type_dependent =
    node (sequent [] the_variables (plain type_goal) ∷ sequent [] the_variables (plain (has_type (free 5) elements)) ∷ []) (symbol_rule 1 dependent_rule (with_body 0 (free 5) no_arguments) refl (refl, tt, tt) tt)
    (more (node [] for_type none) (more (do_variable 5 refl (type_elements the_variables)) none))

the_equation : Prim free_theory [] [] (abstracted elements (plain (equal_types (dependent (bound 0)) elements)))
unfolding act close_at
the_equation =
    let e : Prim free_theory [] the_variables (plain (equal_types (dependent (free 5)) elements)) =
    node (sequent [] the_variables (plain (type_equation_goal (dependent (free 5)) elements)) ∷ []) (equation_rule 2 free_rule no_arguments refl tt tt) (more (do_for_types type_dependent (type_elements the_variables)) none) in
    node (sequent [] [] (plain (is_type elements)) ∷ sequent [] the_variables (plain (equal_types (dependent (free 5)) elements)) ∷ []) (abstraction 5 elements (plain (equal_types (dependent (free 5)) elements)) refl (λ u B e. none_some e))
    (more (type_elements []) (more e none))

-- without metavariables, equal terms are the same, and equal types are the same or both among `A` and `D(v5)`
abbrev IsLinked : Expression → Type 0
IsLinked A = (A ≡ elements) ⊎ (A ≡ dependent (free 5))

abbrev SameOrLinked : Expression → Expression → Type 0
SameOrLinked A B = (A ≡ B) ⊎ (IsLinked A × IsLinked B)

abbrev Linked : Statement → Type 0
Linked (plain (is_type A)) = Unit {0}
Linked (plain (has_type t A)) = Unit {0}
Linked (plain (equal_types A B)) = SameOrLinked A B
Linked (plain (equal_terms s t A)) = s ≡ t
Linked (plain type_goal) = Unit {0}
Linked (plain (term_goal A)) = Unit {0}
Linked (plain (type_equation_goal A B)) = Unit {0}
Linked (plain (term_equation_goal s t A)) = Unit {0}
Linked (abstracted A x) = Unit {0}

abbrev LinkedIn : Sequent → Type 0
LinkedIn c = c.metavariables ≡ [] → Linked c.statement

linked_symmetric : (A B : Expression) → SameOrLinked A B → SameOrLinked B A
linked_symmetric A B (inl e) = inl (sym e)
linked_symmetric A B (inr l) = inr (l.1, l.0)

linked_transitive : (A B C : Expression) → SameOrLinked A B → SameOrLinked B C → SameOrLinked A C
linked_transitive A B C (inl e) l = subst (λ X. SameOrLinked X C) (sym e) l
linked_transitive A B C (inr l) (inl e) = subst (λ X. SameOrLinked A X) e (inr l)
linked_transitive A B C (inr l) (inr k) = inr (l.0, k.1)

each_rule : (r : ℕ) (R : Rule) → rule_at free_theory r ≡ Some R → (elements_rule ≡ R) ⊎ ((dependent_rule ≡ R) ⊎ (free_rule ≡ R))
each_rule zero R q = inl (same_Some elements_rule R q)
each_rule (suc zero) R q = inr (inl (same_Some dependent_rule R q))
each_rule (suc (suc zero)) R q = inr (inr (same_Some free_rule R q))
each_rule (suc (suc (suc r))) R q = none_some q

of_symbol : (r : ℕ) (R : Rule) (a : Arguments) → IsObjectGoal R.conclusion → (elements_rule ≡ R) ⊎ ((dependent_rule ≡ R) ⊎ (free_rule ≡ R)) → Linked (plain (fill_goal (conclusion_at R a) (symbol r a)))
of_symbol r R a o (inl q) = subst (λ R. Linked (plain (fill_goal (conclusion_at R a) (symbol r a)))) q tt
of_symbol r R a o (inr (inl q)) = subst (λ R. Linked (plain (fill_goal (conclusion_at R a) (symbol r a)))) q tt
of_symbol r R a o (inr (inr q)) = absurd (subst (λ R. IsObjectGoal R.conclusion) (sym q) o)

of_equation : (R : Rule) (a : Arguments) → IsEquationGoal R.conclusion → (elements_rule ≡ R) ⊎ ((dependent_rule ≡ R) ⊎ (free_rule ≡ R)) → Linked (plain (fill_goal (conclusion_at R a) (bound zero)))
unfolding act
of_equation R a o (inl q) = absurd (subst (λ R. IsEquationGoal R.conclusion) (sym q) o)
of_equation R a o (inr (inl q)) = absurd (subst (λ R. IsEquationGoal R.conclusion) (sym q) o)
of_equation R a o (inr (inr q)) = subst (λ R. Linked (plain (fill_goal (conclusion_at R a) (bound zero)))) q (inr (inr refl, inl refl))

same_arguments : (M : List (ℕ × Statement)) (G : List (ℕ × Expression)) (a b : Arguments) → M ≡ [] → FitsPremises dependent_rule.premises a → FitsPremises dependent_rule.premises b → AllOf LinkedIn (sequents M G (equated_premises (instance_of dependent_rule.premises a) dependent_rule.premises a b)) → a ≡ b
same_arguments M G no_arguments b e f f' h = absurd f
same_arguments M G (dummy n a) b e f f' h = absurd f.1
same_arguments M G (with_body n s a) no_arguments e f f' h = absurd f'
same_arguments M G (with_body n s a) (dummy l b) e f f' h = absurd f'.1
same_arguments M G (with_body n s a) (with_body l t b) e f f' h =
    ap₂ (λ n s. with_body n s a) (f.0 ∙ sym f'.0) (h.0 e) ∙ ap (with_body l t) (sym (no_argument a f.2) ∙ no_argument b f'.2)

of_congruence : (M : List (ℕ × Statement)) (G : List (ℕ × Expression)) (r : ℕ) (R : Rule) (a b : Arguments) → M ≡ [] → FitsPremises R.premises a → FitsPremises R.premises b → IsObjectGoal R.conclusion → AllOf LinkedIn (sequents M G (equated_premises (instance_of R.premises a) R.premises a b))
    → (elements_rule ≡ R) ⊎ ((dependent_rule ≡ R) ⊎ (free_rule ≡ R)) → Linked (plain (equate_goal (conclusion_at R a) (symbol r a) (symbol r b)))
of_congruence M G r R a b e f f' o h (inl q) =
    subst (λ R. FitsPremises R.premises a → FitsPremises R.premises b → Linked (plain (equate_goal (conclusion_at R a) (symbol r a) (symbol r b)))) q
    (λ f f'. inl (ap (symbol r) (sym (no_argument a f) ∙ no_argument b f'))) f f'
of_congruence M G r R a b e f f' o h (inr (inl q)) =
    subst (λ R. FitsPremises R.premises a → FitsPremises R.premises b → AllOf LinkedIn (sequents M G (equated_premises (instance_of R.premises a) R.premises a b)) → Linked (plain (equate_goal (conclusion_at R a) (symbol r a) (symbol r b)))) q
    (λ f f' h. inl (ap (symbol r) (same_arguments M G a b e f f' h))) f f' h
of_congruence M G r R a b e f f' o h (inr (inr q)) = absurd (subst (λ R. IsObjectGoal R.conclusion) (sym q) o)

linked : (c : Sequent) → Tree (Step free_theory) c → LinkedIn c
linked = induct (Step free_theory) LinkedIn (λ ps c s ts h. last ps c s h)
  where
    last : (ps : List Sequent) (c : Sequent) → Step free_theory ps c → AllOf LinkedIn ps → LinkedIn c
    last ps c (variable v A q) h e = tt
    last ps c (metavariable {M} {G} m b a q g o d) h e = no_entry M m b e q
    last ps c (metavariable_equation {M} {G} m b a q g o d) h e = no_entry M m b e q
    last ps c (metavariable_congruence {M} {G} m b a k q g o d d') h e = no_entry M m b e q
    last ps c (abstraction v A x n u) h e = tt
    last ps c (reflexive_type A) h e = inl refl
    last ps c (reflexive_term t A) h e = refl
    last ps c (symmetric_types A B) h e = linked_symmetric A B (h.0 e)
    last ps c (symmetric_terms s t A) h e = sym (h.0 e)
    last ps c (transitive_types A B C) h e = linked_transitive A B C (h.0 e) (h.1.0 e)
    last ps c (transitive_terms s t u A) h e = h.0 e ∙ h.1.0 e
    last ps c (convert_term t A B) h e = tt
    last ps c (convert_equation s t A B) h e = h.0 e
    last ps c for_type h e = tt
    last ps c (for_term A) h e = tt
    last ps c (for_types A B) h e = tt
    last ps c (for_terms s t A) h e = tt
    last ps c (symbol_rule r R a q f o) h e = of_symbol r R a o (each_rule r R q)
    last ps c (equation_rule r R a q f o) h e = of_equation R a o (each_rule r R q)
    last ps c (congruence {M} {G} r R a b q f f' o) h e = of_congruence M G r R a b e f f' o h.1.1 (each_rule r R q)

-- the number of the free variable that is a symbol's first argument
abbrev number_of_free : Expression → ℕ
number_of_free (bound i) = 0
number_of_free (free v) = v
number_of_free (symbol s a) = 0
number_of_free (meta m a) = 0

abbrev number_of_first : Arguments → ℕ
number_of_first no_arguments = 0
number_of_first (with_body n e a) = number_of_free e
number_of_first (dummy n a) = 0

abbrev number_in : Expression → ℕ
number_in (bound i) = 0
number_in (free v) = 0
number_in (symbol s a) = number_of_first a
number_in (meta m a) = 0

apart : (v : ℕ) → dependent (free v) ≡ elements → ⊥
apart v e = cc

not_linked : (v : ℕ) → look_up the_variables v ≡ None → SameOrLinked (dependent (free v)) elements → ⊥
not_linked v n (inl e) = apart v e
not_linked v n (inr l) = among l.0
  where
    among : IsLinked (dependent (free v)) → ⊥
    among (inl e) = apart v e
    among (inr e) = none_some (sym (subst (λ u. look_up the_variables u ≡ None) (ap number_in e) n))

-- over a v5 of type A it is not derivable
not_derivable : Prim free_theory [] the_variables (abstracted elements (plain (equal_types (dependent (bound 0)) elements))) → ⊥
unfolding open_at
not_derivable p =
    let x : Statement = plain (equal_types (dependent (bound 0)) elements) in
    let u : Peeled free_theory [] the_variables elements x = peel free_theory (sequent [] the_variables (abstracted elements x)) elements x p refl in
    not_linked u.name u.absent (linked (sequent [] ((u.name, elements) ∷ the_variables) (plain (equal_types (dependent (free u.name)) elements))) u.rest refl)

pub law_needs_finitary : LawNeedsFinitary
law_needs_finitary k l h =
    let x : Statement = abstracted elements (plain (equal_types (dependent (bound 0)) elements)) in
    not_derivable
    ((h free_theory [] the_variables x).0
    (node (sequent [] [] x ∷ []) (inr (1, l, weakening x (λ m b q. q) (λ v A q. none_some q))) (more (at_level k free_theory (sequent [] [] x) the_equation) none)))
