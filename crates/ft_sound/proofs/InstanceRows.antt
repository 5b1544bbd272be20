-- The rows of inversion and of instances of whole entries.
use Rattle.std.proofs.Common.{◌≡◌, ◌≢◌, ℕ, zero, suc, true, ◌&&◌, Option, Some, None, List, [], ◌∷◌, ◌⊎◌, inl, inr, refl, sym, ap, ◌∙◌, subst}
use Rattle.std.specs.Prelude.{option_map}
use Rattle.std.proofs.lemmas.Option.{same_Some}
use Rattle.std.proofs.lemmas.Bool.{and_parts}
use Rattle.ft_common.proofs.Options.{none_some}
use Rattle.ft_common.proofs.Choices.{if_same, if_other}
use Rattle.ft_theory.specs.Expressions.{Expression, bound, free, symbol, meta, Arguments, count}
use Rattle.ft_theory.specs.Statements.{Claim, is_type, has_type, equal_types, type_goal, term_goal, Statement, plain, abstracted, at}
use Rattle.ft_theory.specs.Rules.{look_up, Rule, rule_at, instance_of, FitsPremises, filled_premises, conclusion_at}
use Rattle.ft_theory.specs.Steps.{sequent, sequents, Step, Trees, none, more, Prim}
use Rattle.ft_theory.specs.WideSteps.{Member, here, there, argument_in_type, argument_in_term, term_in_type, term_in_term, natural_variable, natural_symbol, natural_metavariable}
use Rattle.ft_laws.proofs.Opens.{by_test}
use Rattle.ft_laws.proofs.Rules.{whole_instance}
use Rattle.ft_laws.proofs.Scope.{scope, InVariables, InMetavariables}
use Rattle.ft_laws.proofs.Substitute.{weaken}
use Rattle.ft_laws.proofs.Instances.{instantiate}
use Rattle.ft_laws.proofs.Admissible.{admissible}
use Rattle.ft_items.specs.Sets.{Atom, met, var, unions, is_within, Has, Within}
use Rattle.ft_items.specs.Equal.{heads}
use Rattle.ft_items.specs.Store.{Assertion, Annotation, Declared, nth, boundaries_in, annotations_in, Derivable, premises_of, Declarations}
use Rattle.ft_items.specs.Rows.{statements, sets, bounds}
use Rattle.ft_items.specs.Rows as row
use Rattle.ft_items.proofs.SetLemmas.{within_true}
use Rattle.ft_sound.proofs.Arguments.{arguments_true}
use Rattle.ft_sound.proofs.Valid.{MetIn, VarIn, look_mets, mets_look, look_vars, vars_look, Valid, AllValid, WellFormed, sound_rules, scoped_rules, up_all, proper_unions}
use Rattle.ft_sound.proofs.Structural.{from_when}

module _ (W : Declarations) (F : WellFormed W) where
  -- inversion: the i-th of a list is a member
  from_one_member : (xs : List Statement) (i : ℕ) (y : Statement) → row.from_one xs i ≡ Some y → Member y xs
  from_one_member xs zero y e = none_some e
  from_one_member xs (suc i) y e = at_place xs i y e
    where
      at_place : (xs : List Statement) (i : ℕ) (y : Statement) → nth xs i ≡ Some y → Member y xs
      at_place [] i y e = none_some e
      at_place (x ∷ xs) zero y e = subst (λ z. Member z (x ∷ xs)) (same_Some x y e) (here x xs)
      at_place (x ∷ xs) (suc i) y e = there y x xs (at_place xs i y e)

  -- a metavariable that is derived with is declared, in the set
  declared_meta : (S : List Atom) (m : ℕ) (d : Declared) → nth W.metavariables m ≡ Some d → (k : ℕ) → InMetavariables (boundaries_in W S) m k → look_up (boundaries_in W S) m ≡ Some d.boundary
  declared_meta S m d q k i = let h : MetIn W S m i.0 = look_mets W S m i.0 i.1 in mets_look W S m d h.1 q

  type_members : (S : List Atom) (e : Expression) (i : ℕ) (y : Statement) → row.from_one (row.arguments_of W e) i ≡ Some y → Derivable W (plain (is_type e)) S → Derivable W y S
  type_members S (bound j) i y e p = no_member y (from_one_member [] i y e)
    where
      no_member : (y : Statement) → Member y [] → Derivable W y S
      no_member y k = elim k [ ]
  type_members S (free v) i y e p = no_member y (from_one_member [] i y e)
    where
      no_member : (y : Statement) → Member y [] → Derivable W y S
      no_member y k = elim k [ ]
  type_members S (symbol r a) i y e p = go (rule_at W.rules r) refl (from_one_member (row.rule_arguments (rule_at W.rules r) a) i y e)
    where
      no_member : (y : Statement) → Member y [] → Derivable W y S
      no_member y k = elim k [ ]

      go : (o : Option Rule) → rule_at W.rules r ≡ o → Member y (row.rule_arguments o a) → Derivable W y S
      go None q k = no_member y k
      go (Some R) q k = admissible W.rules (sound_rules W F) 7 (sequent (boundaries_in W S) (annotations_in W S) (plain (is_type (symbol r a))) ∷ []) (sequent (boundaries_in W S) (annotations_in W S) y) (argument_in_type r R a y q k) (more p none)
  type_members S (meta m a) i y e p = go (nth W.metavariables m) refl (from_one_member (row.meta_arguments (nth W.metavariables m) a) i y e)
    where
      no_member : (y : Statement) → Member y [] → Derivable W y S
      no_member y k = elim k [ ]

      go : (o : Option Declared) → nth W.metavariables m ≡ o → Member y (row.meta_arguments o a) → Derivable W y S
      go None q k = no_member y k
      go (Some d) q k = admissible W.rules (sound_rules W F) 7 (sequent (boundaries_in W S) (annotations_in W S) (plain (is_type (meta m a))) ∷ []) (sequent (boundaries_in W S) (annotations_in W S) y)
          (term_in_type m d.boundary a y (declared_meta S m d q (count a) (scope W.rules (sequent (boundaries_in W S) (annotations_in W S) (plain (is_type (meta m a)))) p).1.0) k) (more p none)

  term_members : (S : List Atom) (e A : Expression) (i : ℕ) (y : Statement) → row.from_one (row.arguments_of W e) i ≡ Some y → Derivable W (plain (has_type e A)) S → Derivable W y S
  term_members S (bound j) A i y e p = no_member y (from_one_member [] i y e)
    where
      no_member : (y : Statement) → Member y [] → Derivable W y S
      no_member y k = elim k [ ]
  term_members S (free v) A i y e p = no_member y (from_one_member [] i y e)
    where
      no_member : (y : Statement) → Member y [] → Derivable W y S
      no_member y k = elim k [ ]
  term_members S (symbol r a) A i y e p = go (rule_at W.rules r) refl (from_one_member (row.rule_arguments (rule_at W.rules r) a) i y e)
    where
      no_member : (y : Statement) → Member y [] → Derivable W y S
      no_member y k = elim k [ ]

      go : (o : Option Rule) → rule_at W.rules r ≡ o → Member y (row.rule_arguments o a) → Derivable W y S
      go None q k = no_member y k
      go (Some R) q k = admissible W.rules (sound_rules W F) 7 (sequent (boundaries_in W S) (annotations_in W S) (plain (has_type (symbol r a) A)) ∷ []) (sequent (boundaries_in W S) (annotations_in W S) y) (argument_in_term r R a A y q k) (more p none)
  term_members S (meta m a) A i y e p = go (nth W.metavariables m) refl (from_one_member (row.meta_arguments (nth W.metavariables m) a) i y e)
    where
      no_member : (y : Statement) → Member y [] → Derivable W y S
      no_member y k = elim k [ ]

      go : (o : Option Declared) → nth W.metavariables m ≡ o → Member y (row.meta_arguments o a) → Derivable W y S
      go None q k = no_member y k
      go (Some d) q k = admissible W.rules (sound_rules W F) 7 (sequent (boundaries_in W S) (annotations_in W S) (plain (has_type (meta m a) A)) ∷ []) (sequent (boundaries_in W S) (annotations_in W S) y)
          (term_in_term m d.boundary a A y (declared_meta S m d q (count a) (scope W.rules (sequent (boundaries_in W S) (annotations_in W S) (plain (has_type (meta m a) A))) p).0.1.0) k) (more p none)

  pub do_argument : (i : ℕ) (x y : Statement) (S : List Atom) → row.argument W i x ≡ Some y → Derivable W x S → Derivable W y S
  do_argument i (plain (is_type t)) y S e p = type_members S t i y e p
  do_argument i (plain (has_type t A)) y S e p = term_members S t A i y e p
  do_argument i x y S e p = none_some e

  -- the natural type
  boundary_type : (x : Statement) (N : Expression) → row.type_of_boundary x ≡ Some N → x ≡ plain (term_goal N)
  boundary_type (plain (term_goal A)) N e = ap (λ B. plain (term_goal B)) (same_Some A N e)
  boundary_type x N e = none_some e

  abbrev claim_of : Statement → Claim
  claim_of (plain c) = c
  claim_of (abstracted A x) = type_goal

  natural_is : (S : List Atom) (e A N : Expression) → row.natural_type W e ≡ Some N → Derivable W (plain (has_type e A)) S → Derivable W (plain (equal_types N A)) S
  natural_is S (bound j) A N e p = none_some e
  natural_is S (free v) A N e p = go (look_up W.variables v) refl e
    where
      go : (o : Option Annotation) → look_up W.variables v ≡ o → option_map (λ (d : Annotation). d.annotation) o ≡ Some N → Derivable W (plain (equal_types N A)) S
      go None q e = none_some e
      go (Some d) q e =
          let i : InVariables (annotations_in W S) v = (scope W.rules (sequent (boundaries_in W S) (annotations_in W S) (plain (has_type (free v) A))) p).0.1 in
          let h : VarIn W S v i.0 = look_vars W S v i.0 i.1 in
          admissible W.rules (sound_rules W F) 7 (sequent (boundaries_in W S) (annotations_in W S) (plain (has_type (free v) A)) ∷ []) (sequent (boundaries_in W S) (annotations_in W S) (plain (equal_types N A)))
          (natural_variable v N A (vars_look W S v d h.1 q ∙ e)) (more p none)
  natural_is S (symbol r a) A N e p = go (rule_at W.rules r) refl e
    where
      go : (o : Option Rule) → rule_at W.rules r ≡ o → row.natural_of_rule o a ≡ Some N → Derivable W (plain (equal_types N A)) S
      go None q e = none_some e
      go (Some R) q e = admissible W.rules (sound_rules W F) 7 (sequent (boundaries_in W S) (annotations_in W S) (plain (has_type (symbol r a) A)) ∷ []) (sequent (boundaries_in W S) (annotations_in W S) (plain (equal_types N A)))
          (natural_symbol r R a N A q (ap claim_of (boundary_type (plain (conclusion_at R a)) N e))) (more p none)
  natural_is S (meta m a) A N e p = go (nth W.metavariables m) refl e
    where
      go : (o : Option Declared) → nth W.metavariables m ≡ o → row.natural_of_meta o a ≡ Some N → Derivable W (plain (equal_types N A)) S
      go None q e = none_some e
      go (Some d) q e = admissible W.rules (sound_rules W F) 7 (sequent (boundaries_in W S) (annotations_in W S) (plain (has_type (meta m a) A)) ∷ []) (sequent (boundaries_in W S) (annotations_in W S) (plain (equal_types N A)))
          (natural_metavariable m d.boundary a N A (declared_meta S m d q (count a) (scope W.rules (sequent (boundaries_in W S) (annotations_in W S) (plain (has_type (meta m a) A))) p).0.1.0) (boundary_type (at d.boundary a) N e)) (more p none)

  pub do_natural : (x y : Statement) (S : List Atom) → row.natural W x ≡ Some y → Derivable W x S → Derivable W y S
  do_natural (plain (has_type t A)) y S e p = go (row.natural_type W t) refl e
    where
      go : (o : Option Expression) → row.natural_type W t ≡ o → option_map (λ N. plain (equal_types N A)) o ≡ Some y → Derivable W y S
      go None q e = none_some e
      go (Some N) q e = subst (λ z. Derivable W z S) (same_Some (plain (equal_types N A)) y e) (natural_is S t A N q p)
  do_natural x y S e p = none_some e

  -- metavariables that are declared, with their numbers
  abbrev pub AllDeclared : List (ℕ × Declared) → Type 0
  AllDeclared [] = Unit {0}
  AllDeclared (d ∷ ds) = (nth W.metavariables d.0 ≡ Some d.1) × AllDeclared ds

  -- what rests on some metavariables alone is derivable over them as premises
  pub premises_look : (ms : List (ℕ × Declared)) → AllDeclared ms → (m : ℕ) (d : Declared) → nth W.metavariables m ≡ Some d → Has (met m) (row.atoms ms) → look_up (premises_of ms) m ≡ Some d.boundary
  premises_look [] ds m d q k = absurd k
  premises_look (c ∷ ms) ds m d q k = by_test (look_up (premises_of (c ∷ ms)) m ≡ Some d.boundary) m c.0
      (λ f. if_same m c.0 (Some c.1.boundary) (look_up (premises_of ms) m) f ∙ ap (λ (x : Declared). Some x.boundary) (same_Some c.1 d (sym ds.0 ∙ ap (nth W.metavariables) (sym f) ∙ q)))
      (λ n. if_other m c.0 (Some c.1.boundary) (look_up (premises_of ms) m) n ∙ premises_look ms ds.1 m d q (later n k))
    where
      later : m ≢ c.0 → (met m ≡ met c.0) ⊎ Has (met m) (row.atoms ms) → Has (met m) (row.atoms ms)
      later n (inl e) = absurd (n (inner e))
        where
          inner : met m ≡ met c.0 → m ≡ c.0
          inner e = cc
      later n (inr k) = k

  only_metavariables : (ms : List (ℕ × Declared)) (v : ℕ) → Has (var v) (row.atoms ms) → ⊥
  only_metavariables [] v k = k
  only_metavariables (c ∷ ms) v (inl e) = clash e
    where
      clash : var v ≡ met c.0 → ⊥
      clash e = cc
  only_metavariables (c ∷ ms) v (inr k) = only_metavariables ms v k

  pub over_premises : (ms : List (ℕ × Declared)) → AllDeclared ms → (x : Statement) (S : List Atom) → Within S (row.atoms ms) → Derivable W x S → Prim W.rules (premises_of ms) [] x
  over_premises ms ds x S w p = weaken W.rules (scoped_rules W F) (boundaries_in W S) (premises_of ms) (annotations_in W S) [] x
      (λ m b e. let i : MetIn W S m b = look_mets W S m b e in premises_look ms ds m i.0 i.2 (w (met m) i.1) ∙ ap Some i.3)
      (λ v A e. let i : VarIn W S v A = look_vars W S v A e in absurd (only_metavariables ms v (w (var v) i.1)))
      p

  pub do_instance : (p : Assertion) → Valid W p.statement p.set → (ms : List (ℕ × Declared)) → AllDeclared ms → (qs : List Assertion) → AllValid W qs → (y : Statement) → row.instantiated ms p (statements qs) ≡ Some y → Valid W y (unions (sets qs))
  do_instance p v ms ds qs vs y e =
      let R : List Atom = unions (sets qs) in
      let P : List (ℕ × Statement) = premises_of ms in
      let a : Arguments = heads (statements qs) in
      record {
        proper = proper_unions W qs vs;
        derivable = from_when (λ z. Derivable W z R) (((row.differ (row.atoms ms) && row.on_earlier [] ms) && is_within p.set (row.atoms ms)) && row.are_arguments P (statements qs)) (row.at_arguments P a p.statement) y e (λ h.
            let k : (((row.differ (row.atoms ms) && row.on_earlier [] ms) && is_within p.set (row.atoms ms)) ≡ true) × (row.are_arguments P (statements qs) ≡ true) = and_parts ((row.differ (row.atoms ms) && row.on_earlier [] ms) && is_within p.set (row.atoms ms)) (row.are_arguments P (statements qs)) h in
            let l : is_within p.set (row.atoms ms) ≡ true = (and_parts (row.differ (row.atoms ms) && row.on_earlier [] ms) (is_within p.set (row.atoms ms)) k.0).1 in
            let f : FitsPremises P a × (filled_premises (instance_of P a) P a ≡ statements qs) = arguments_true (instance_of P a) P (statements qs) k.1 in
            instantiate W.rules (scoped_rules W F) P [] (boundaries_in W R) (annotations_in W R) (instance_of P a) p.statement
            (whole_instance W.rules P (boundaries_in W R) (annotations_in W R) P a (λ m b r. r) f.0 (subst (λ z. Trees (Step W.rules) (sequents (boundaries_in W R) (annotations_in W R) z)) (sym f.1) (up_all W (scoped_rules W F) qs R (λ x j. j) vs)))
            (over_premises ms ds p.statement p.set (within_true p.set (row.atoms ms) l) v.derivable));
      }
