-- The laws of what is derivable in their stated form: scope, renaming, substitution, domains, longer theories, levels.
use Rattle.std.proofs.Common.{◌≡◌, ℕ, zero, Some, List, [], ◌∷◌, inl, inr, refl, subst, subst₂}
use Rattle.std.specs.Prelude.{◌++◌}
use Rattle.ft_theory.specs.Expressions.{bound, free, symbol, meta, act, substitute, ClosedAt, MentionsOnly}
use Rattle.ft_theory.specs.Statements.{is_type, has_type, equal_types, plain, abstracted, act_statement, opened, domain_count, fill}
use Rattle.ft_theory.specs.Rules.{Rule, rule_at}
use Rattle.ft_theory.specs.Steps.{Sequent, sequent, abstraction, Tree, Trees, node, none, more, Prim}
use Rattle.ft_theory.specs.WideSteps.{WideStep, weakening, substitution, its_boundary, a_side, equal_substitution, boundary_at_arguments, object_instance, equation_instance, convert_premise, convert_back, metavariable_at_equal_terms, argument_in_type, argument_in_term, term_in_type, term_in_term, natural_variable, natural_symbol, natural_metavariable}
use Rattle.ft_theory.specs.Derivability.{StepUpTo, Finitary}
use Rattle.ft_laws.specs.Syntax.{IsObjectPremise}
use Rattle.ft_laws.specs.Derivations.{DerivableIsPrimitive, FinitaryAtEachLevel, HasVariable, LawScope, LawRenaming, LawSimultaneousSubstitution, LawDomain, LawDomainAtEach, LawLongerTheory, LawLongerTheoryPrimitive, LawUniqueType}
use Rattle.ft_laws.specs.Instances.{LawGeneralInstance, LawRightInstance, LawGeneralEqualInstances}
use Rattle.ft_laws.proofs.Induction.{AllOf, induct}
use Rattle.ft_laws.proofs.Acts.{no_bodies}
use Rattle.ft_laws.proofs.Scope.{scope, Fine}
use Rattle.ft_laws.proofs.Statements.{AllOfStatement_mono, closed-opened, object-map, domain_count-map}
use Rattle.ft_laws.proofs.Peel.{peel, Peeled}
use Rattle.ft_laws.proofs.Steps.{do_variable, do_symmetric_types, do_transitive_types}
use Rattle.ft_laws.proofs.Commute.{ScopedTheory, act-fill}
use Rattle.ft_laws.proofs.Traverse.{traverse}
use Rattle.ft_laws.proofs.Substitute.{substitution_maps}
use Rattle.ft_laws.proofs.Equal.{EqualStatements, reify, transport}
use Rattle.ft_laws.proofs.EqualTerms.{first_domain, at_absent}
use Rattle.ft_laws.proofs.Instances.{instantiate, equal_instances}
use Rattle.ft_laws.proofs.Inversion.{OfTerm, origin}
use Rattle.ft_laws.proofs.NotDerivable.{no_loose_variable}
use Rattle.ft_laws.proofs.Finitary.{Sound, more_rules, scoped, more_rules_step}
use Rattle.ft_laws.proofs.Admissible.{admissible, law, finitary_sound, rule_before, finitary_levels}

scoped_of : (T : List Rule) → Finitary T → ScopedTheory T
scoped_of T f = scoped T (finitary_sound 7 T f)

pub derivable_is_primitive : DerivableIsPrimitive
derivable_is_primitive T f M G x = law 7 T f M G x

pub law_scope : LawScope
law_scope T M G x p = (
  AllOfStatement_mono x (Fine M G) ClosedAt zero (λ l e h. h.0) (scope T (sequent M G x) p),
  AllOfStatement_mono x (Fine M G) (λ l. MentionsOnly (HasVariable G) (IsObjectPremise M)) zero (λ l e h. h.1) (scope T (sequent M G x) p),
)

pub law_renaming : LawRenaming
law_renaming T f M G H r x h p =
    traverse T (scoped_of T f) (sequent M G x) p M H (λ u. free (r u)) no_bodies
    (substitution_maps T M M G H (λ u. free (r u)) (λ m b q. q) (λ v. tt) (λ v A q K s t. do_variable (r v) (s (r v) (substitute (λ u. free (r u)) A) (h v A q)) t))

pub law_simultaneous_substitution : LawSimultaneousSubstitution
law_simultaneous_substitution T f M G H s x c h p =
    traverse T (scoped_of T f) (sequent M G x) p M H s no_bodies
    (substitution_maps T M M G H s (λ m b q. q) c h)

pub law_domain : LawDomain
law_domain T M G A x p =
    let u : Peeled T M G A x = peel T (sequent M G (abstracted A x)) A x p refl in
    (u.first, u.name, (u.absent, u.unmentioned), u.rest)

pub law_domain_at_each : LawDomainAtEach
law_domain_at_each T f M G A x v n w = (
  λ p. (first_domain T M G A x p, at_absent T (scoped_of T f) M G A x v n.0 p),
  λ q. subst (λ z. Prim T M G (abstracted A z)) (closed-opened x A v w)
      (node (sequent M G (plain (is_type A)) ∷ sequent M ((v, A) ∷ G) (opened (free v) (abstracted A x)) ∷ [])
      (abstraction v A (opened (free v) (abstracted A x)) n.0 n.1) (more q.0 (more q.1 none))),
)

pub law_longer_theory_primitive : LawLongerTheoryPrimitive
law_longer_theory_primitive T U M G x p = more_rules T (T ++ U) (λ r R q. rule_before T U r R q) (sequent M G x) p

-- a wide step over more rules
wide_step : (T U : List Rule) → ((r : ℕ) (R : Rule) → rule_at T r ≡ Some R → rule_at U r ≡ Some R) → (n : ℕ) (ps : List Sequent) (c : Sequent) → WideStep T n ps c → WideStep U n ps c
wide_step T U w n ps c (weakening x e s) = weakening x e s
wide_step T U w n ps c (substitution A t x) = substitution A t x
wide_step T U w n ps c (its_boundary x) = its_boundary x
wide_step T U w n ps c (a_side x y s) = a_side x y s
wide_step T U w n ps c (Rattle.ft_theory.specs.WideSteps.first_domain A x) = Rattle.ft_theory.specs.WideSteps.first_domain A x
wide_step T U w n ps c (equal_substitution A s t b h o) = equal_substitution A s t b h o
wide_step T U w n ps c (boundary_at_arguments r R qs b a q e f) = boundary_at_arguments r R qs b a (w r R q) e f
wide_step T U w n ps c (object_instance r R a q f o) = object_instance r R a (w r R q) f o
wide_step T U w n ps c (equation_instance r R a q f o) = equation_instance r R a (w r R q) f o
wide_step T U w n ps c (Rattle.ft_theory.specs.WideSteps.equal_instances r R a b q f f' o) = Rattle.ft_theory.specs.WideSteps.equal_instances r R a b (w r R q) f f' o
wide_step T U w n ps c (convert_premise r R qs k a b h q e f f') = convert_premise r R qs k a b h (w r R q) e f f'
wide_step T U w n ps c (convert_back r R qs k a b h q e f f') = convert_back r R qs k a b h (w r R q) e f f'
wide_step T U w n ps c (metavariable_at_equal_terms m b a k q g o d d') = metavariable_at_equal_terms m b a k q g o d d'
wide_step T U w n ps c (argument_in_type r R a x q m) = argument_in_type r R a x (w r R q) m
wide_step T U w n ps c (argument_in_term r R a A x q m) = argument_in_term r R a A x (w r R q) m
wide_step T U w n ps c (term_in_type m b a x q i) = term_in_type m b a x q i
wide_step T U w n ps c (term_in_term m b a A x q i) = term_in_term m b a A x q i
wide_step T U w n ps c (natural_variable v N A q) = natural_variable v N A q
wide_step T U w n ps c (natural_symbol r R a N A q e) = natural_symbol r R a N A (w r R q) e
wide_step T U w n ps c (natural_metavariable m b a N A q e) = natural_metavariable m b a N A q e

pub law_longer_theory : LawLongerTheory
law_longer_theory k T U M G x = induct (StepUpTo k T) (λ c. Tree (StepUpTo k (T ++ U)) c) (λ ps c s ts h. node ps (step ps c s) (trees ps h)) (sequent M G x)
  where
    trees : (ps : List Sequent) → AllOf (λ c. Tree (StepUpTo k (T ++ U)) c) ps → Trees (StepUpTo k (T ++ U)) ps
    trees [] h = none
    trees (p ∷ ps) h = more h.0 (trees ps h.1)

    step : (ps : List Sequent) (c : Sequent) → StepUpTo k T ps c → StepUpTo k (T ++ U) ps c
    step ps c (inl s) = inl (more_rules_step T (T ++ U) (λ r R q. rule_before T U r R q) ps c s)
    step ps c (inr s) = inr (s.0, s.1, wide_step T (T ++ U) (λ r R q. rule_before T U r R q) s.0 ps c s.2)

pub finitary_at_each_level : FinitaryAtEachLevel
finitary_at_each_level k l T f = finitary_levels k l T f

pub law_general_instance : LawGeneralInstance
law_general_instance T f M G N H i x s p = instantiate T (scoped_of T f) M G N H i x s p

pub law_right_instance : LawRightInstance
law_right_instance T f M G N H i j x s p =
    transport T (scoped_of T f) N (domain_count (act_statement free i x)) H (act_statement free i x) (act_statement free j x) refl
    (equal_instances T (scoped_of T f) M G N H i j x s p) (instantiate T (scoped_of T f) M G N H i x s.left p)

pub law_general_equal_instances : LawGeneralEqualInstances
law_general_equal_instances T f M G N H i j b h s o p =
    reify T (scoped_of T f) N (domain_count b) H (act_statement free i b) (act_statement free j b) (act free i h) (act free j h)
    (domain_count-map b (λ l. act free i) zero) (domain_count-map b (λ l. act free j) zero) (object-map b (λ l. act free i) zero o) (object-map b (λ l. act free j) zero o)
    (subst₂ (λ x y. EqualStatements T N H x y) (act-fill b free i h) (act-fill b free j h) (equal_instances T (scoped_of T f) M G N H i j (fill b h) s p))

-- all types of a term are equal to the one in its last rule
pub law_unique_type : LawUniqueType
law_unique_type T f M G (bound i) A B p p' = absurd (no_loose_variable T M G i A p)
law_unique_type T f M G (free v) A B p p' =
    let so : Sound T = finitary_sound 7 T f in
    let h : OfTerm T M G (free v) A = origin T (scoped T so) (sequent M G (plain (has_type (free v) A))) p in
    do_transitive_types (do_symmetric_types h.2) (admissible T so 7 (sequent M G (plain (has_type (free v) B)) ∷ []) (sequent M G (plain (equal_types h.0 B))) (natural_variable v h.0 B h.1) (more p' none))
law_unique_type T f M G (symbol r a) A B p p' =
    let so : Sound T = finitary_sound 7 T f in
    let h : OfTerm T M G (symbol r a) A = origin T (scoped T so) (sequent M G (plain (has_type (symbol r a) A))) p in
    do_transitive_types (do_symmetric_types h.5) (admissible T so 7 (sequent M G (plain (has_type (symbol r a) B)) ∷ []) (sequent M G (plain (equal_types h.3 B))) (natural_symbol r h.0 a h.3 B h.1 h.4) (more p' none))
law_unique_type T f M G (meta m a) A B p p' =
    let so : Sound T = finitary_sound 7 T f in
    let h : OfTerm T M G (meta m a) A = origin T (scoped T so) (sequent M G (plain (has_type (meta m a) A))) p in
    do_transitive_types (do_symmetric_types h.5) (admissible T so 7 (sequent M G (plain (has_type (meta m a) B)) ∷ []) (sequent M G (plain (equal_types h.3 B))) (natural_metavariable m h.0 a h.3 B h.1 h.4) (more p' none))
