-- Derivations over more rules; theories whose boundaries are primitively derivable mention only their own premises.
use Rattle.std.proofs.Common.{◌≡◌, ℕ, zero, Some, List, [], ◌∷◌, ◌⊎◌, inl, inr, sym, ap, ◌∙◌, subst, append_assoc, append-nil}
use Rattle.ft_common.proofs.Options.{none_some}
use Rattle.ft_theory.specs.Expressions.{Expression, MentionsOnly}
use Rattle.ft_theory.specs.Statements.{Statement, plain, domain_count, IsObject, IsEquation}
use Rattle.ft_theory.specs.Rules.{look_up, Rule, rule_at, BoundaryAfter, next_premise, its_conclusion}
use Rattle.ft_theory.specs.Steps.{Sequent, sequent, Step, variable, metavariable, metavariable_equation, metavariable_congruence, abstraction, reflexive_type, reflexive_term, symmetric_types, symmetric_terms, transitive_types, transitive_terms, convert_term, convert_equation, for_type, for_term, for_types, for_terms, symbol_rule, equation_rule, congruence, Tree, Trees, node, none, more, Prim}
use Rattle.ft_theory.specs.Derivability.{PremisesHold, RuleHolds}
use Rattle.std.specs.Prelude.{◌++◌}
use Rattle.ft_laws.proofs.Induction.{AllOf, induct}
use Rattle.ft_laws.proofs.Acts.{MentionsOnly_mono}
use Rattle.ft_laws.proofs.Opens.{by_test}
use Rattle.ft_laws.proofs.Scope.{scope, Fine, InVariables, InMetavariables}
use Rattle.ft_laws.proofs.Statements.{AllOfStatement_mono, AllOfClaim_mono}
use Rattle.ft_laws.proofs.Commute.{ScopedTheory, ScopedPremises, Covered}
use Rattle.ft_laws.proofs.Substitute.{Extends}
use Rattle.ft_laws.proofs.Rules.{look_before, found, past}

-- a primitive step over more rules
pub more_rules_step : (T U : List Rule) → ((r : ℕ) (R : Rule) → rule_at T r ≡ Some R → rule_at U r ≡ Some R) → (ps : List Sequent) (c : Sequent) → Step T ps c → Step U ps c
more_rules_step T U w ps c (variable v A q) = variable v A q
more_rules_step T U w ps c (metavariable m b a q g o d) = metavariable m b a q g o d
more_rules_step T U w ps c (metavariable_equation m b a q g o d) = metavariable_equation m b a q g o d
more_rules_step T U w ps c (metavariable_congruence m b a k q g o d d') = metavariable_congruence m b a k q g o d d'
more_rules_step T U w ps c (abstraction v B x n u) = abstraction v B x n u
more_rules_step T U w ps c (reflexive_type B) = reflexive_type B
more_rules_step T U w ps c (reflexive_term t B) = reflexive_term t B
more_rules_step T U w ps c (symmetric_types B C) = symmetric_types B C
more_rules_step T U w ps c (symmetric_terms s t B) = symmetric_terms s t B
more_rules_step T U w ps c (transitive_types B C D) = transitive_types B C D
more_rules_step T U w ps c (transitive_terms s t u B) = transitive_terms s t u B
more_rules_step T U w ps c (convert_term t A B) = convert_term t A B
more_rules_step T U w ps c (convert_equation s t B C) = convert_equation s t B C
more_rules_step T U w ps c for_type = for_type
more_rules_step T U w ps c (for_term B) = for_term B
more_rules_step T U w ps c (for_types B C) = for_types B C
more_rules_step T U w ps c (for_terms s t B) = for_terms s t B
more_rules_step T U w ps c (symbol_rule r R a q f o) = symbol_rule r R a (w r R q) f o
more_rules_step T U w ps c (equation_rule r R a q f o) = equation_rule r R a (w r R q) f o
more_rules_step T U w ps c (congruence r R a b q f f' o) = congruence r R a b (w r R q) f f' o

-- trees over more rules
pub more_rules : (T U : List Rule) → ((r : ℕ) (R : Rule) → rule_at T r ≡ Some R → rule_at U r ≡ Some R) → (c : Sequent) → Tree (Step T) c → Tree (Step U) c
more_rules T U w = induct (Step T) (λ c. Tree (Step U) c) (λ ps c s ts h. node ps (more_rules_step T U w ps c s) (trees ps h))
  where
    trees : (ps : List Sequent) → AllOf (λ c. Tree (Step U) c) ps → Trees (Step U) ps
    trees [] h = none
    trees (p ∷ ps) h = more h.0 (trees ps h.1)

-- each rule's boundaries are derived by primitive steps, over the whole theory
abbrev pub Sound : List Rule → Type 0
Sound T = (r : ℕ) (R : Rule) → rule_at T r ≡ Some R → RuleHolds (λ M x. Prim T M [] x) R

pub look_covered : (ps : List (ℕ × Statement)) (m k : ℕ) (b : Statement) → look_up ps m ≡ Some b → IsObject b → k ≡ domain_count b → Covered ps m k
look_covered [] m k b q o d = none_some q
look_covered (p ∷ ps) m k b q o d = by_test (Covered (p ∷ ps) m k) m p.0
    (λ e. inl (e, subst IsObject (sym (found m p ps b e q)) o, d ∙ ap domain_count (sym (found m p ps b e q))))
    (λ n. inr (look_covered ps m k b (past m p ps b n q) o d))

scoped_expression : (M all : List (ℕ × Statement)) → Extends M all → (k : ℕ) (e : Expression) → Fine M [] k e → MentionsOnly (λ v. ⊥) (Covered all) e
scoped_expression M all w k e f = MentionsOnly_mono e (InVariables []) (λ v. ⊥) (InMetavariables M) (Covered all) (λ v h. none_some h.1) (λ m k h. look_covered all m k h.0 (w m h.0 h.1) h.2 h.3) f.1

scoped_premises : (T : List Rule) (all M ps : List (ℕ × Statement)) → Extends (M ++ ps) all → PremisesHold (λ M x. Prim T M [] x) M ps → ScopedPremises all ps
scoped_premises T all M [] w h = tt
scoped_premises T all M (p ∷ ps) w h = (
  AllOfStatement_mono p.1 (Fine M []) (λ l. MentionsOnly (λ v. ⊥) (Covered all)) zero (λ l e f. scoped_expression M all (λ m b r. w m b (look_before M (p ∷ ps) m b r)) l e f) (scope T (sequent M [] p.1) h.2),
  scoped_premises T all (M ++ (p ∷ [])) ps (λ m b r. w m b (ap (λ z. look_up z m) (sym (append_assoc M (p ∷ []) ps)) ∙ r)) h.3,
)

pub scoped : (T : List Rule) → Sound T → ScopedTheory T
scoped T s r R q =
    let h : RuleHolds (λ M x. Prim T M [] x) R = s r R q in (
      scoped_premises T R.premises [] R.premises (λ m b r. r) h.0,
      AllOfClaim_mono R.conclusion (Fine R.premises [] zero) (MentionsOnly (λ v. ⊥) (Covered R.premises)) (λ e f. scoped_expression R.premises R.premises (λ m b r. r) zero e f) (scope T (sequent R.premises [] (plain R.conclusion)) h.2),
    )

-- the boundary of one premise
pub premise_at : (D : List (ℕ × Statement) → Statement → Type 0) (M ps : List (ℕ × Statement)) (q : ℕ × Statement) (qs : List (ℕ × Statement)) → PremisesHold D M (ps ++ (q ∷ qs)) → (IsObject q.1 ⊎ IsEquation q.1) × D (M ++ ps) q.1
premise_at D M [] q qs h = (h.1, subst (λ z. D z q.1) (sym (append-nil M)) h.2)
premise_at D M (p ∷ ps) q qs h =
    let r : (IsObject q.1 ⊎ IsEquation q.1) × D ((M ++ (p ∷ [])) ++ ps) q.1 = premise_at D (M ++ (p ∷ [])) ps q qs h.3 in
    (r.0, subst (λ z. D z q.1) (append_assoc M (p ∷ []) ps) r.1)

-- the boundary after some premises
pub boundary_after : (D : List (ℕ × Statement) → Statement → Type 0) (R : Rule) (ps : List (ℕ × Statement)) (b : Statement) → RuleHolds D R → BoundaryAfter R ps b → (IsObject b ⊎ IsEquation b) × D ps b
boundary_after D R ps b h (next_premise _ qs m _ e) = premise_at D [] ps (m, b) qs (subst (PremisesHold D []) e h.0)
boundary_after D R ps b h (its_conclusion _ e) = (h.1, subst (λ z. D z (plain R.conclusion)) e h.2)

pub first_premises : (D : List (ℕ × Statement) → Statement → Type 0) (M ps qs : List (ℕ × Statement)) → PremisesHold D M (ps ++ qs) → PremisesHold D M ps
first_premises D M [] qs h = tt
first_premises D M (p ∷ ps) qs h = (h.0, h.1, h.2, first_premises D (M ++ (p ∷ [])) ps qs h.3)
