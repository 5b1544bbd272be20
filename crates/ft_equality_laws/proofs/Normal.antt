-- Normal forms.
use Rattle.std.proofs.Common.{◌≡◌, ℕ, zero, suc, Bool, true, false, Option, Some, None, List, [], ◌∷◌, inl, refl, sym, ap, ◌∙◌, subst, arith, append-nil}
use Rattle.std.specs.Prelude.{option_map, option_to_list}
use Rattle.ft_theory.specs.Expressions.{Expression, bound, free, symbol, Arguments, no_arguments, with_body, dummy, act, act_arguments, instantiate, ArgumentsMentionOnly}
use Rattle.ft_theory.specs.Statements.{Claim, equal_types, equal_terms, type_goal, term_goal, type_equation_goal, term_equation_goal, Statement, plain, abstracted, domain_count, fill_goal, fill, equate_goal, equate, IsObjectGoal, IsObject}
use Rattle.ft_theory.specs.Rules.{look_up, Rule, rule_at, instance_of, FitsPremises, filled_premises, equated_premises, conclusion_at}
use Rattle.ft_theory.specs.Steps.{sequent, sequents, Step, Trees, none, more, Prim}
use Rattle.ft_theory.specs.Derivability.{PremisesHold}
use Rattle.ft_laws.specs.Instances.{statement_at}
use Rattle.ft_laws.specs.Syntax.{HasClosedBodies, IsObjectPremise}
use Rattle.ft_laws.proofs.Steps.{do_symmetric_types, do_transitive_types, do_convert_equation}
use Rattle.ft_laws.proofs.Scope.{scope, Fine, InVariables, InMetavariables, AllOfClaim_head}
use Rattle.ft_laws.proofs.Acts.{MentionsOnly_mono}
use Rattle.ft_laws.proofs.Statements.{domain_count-map, object-map}
use Rattle.ft_laws.proofs.Commute.{ScopedTheory}
use Rattle.ft_laws.proofs.Sides.{parts}
use Rattle.ft_laws.proofs.Equal.{sides_of, types_of}
use Rattle.ft_laws.proofs.EqualTerms.{transitive_flat}
use Rattle.ft_laws.proofs.Finitary.{Sound, scoped}
use Rattle.ft_items.specs.Store.{Declarations}
use Rattle.ft_equality.specs.Shapes.{Computation, EqualityRules, is_principal, are_patterns, determines}
use Rattle.ft_equality.specs.Programs.{give, ◌>>=◌, ◌>>◌}
use Rattle.ft_equality.specs.Comparing.{form_all, visit}
use Rattle.ft_equality.specs.Matching.{match_pattern}
use Rattle.ft_equality.specs.Equality.{normal_of, if_found, contracted, compute, normal_if, principal_normal, normal_by}
use Rattle.ft_equality_laws.proofs.Means.{Below, NormalFact, Means, means_bind, means_weaken}
use Rattle.ft_equality_laws.proofs.Derive.{reflexive_at, right_at}
use Rattle.ft_equality_laws.proofs.Applications.{Stands, Resting, resting, rule_of, congruence_at}
use Rattle.ft_equality_laws.proofs.Parts.{Flat, means_then}
use Rattle.ft_equality_laws.proofs.Patterns.{laid}
use Rattle.ft_equality_laws.proofs.Fitting.{Given, refl_heads}
use Rattle.ft_equality_laws.proofs.Matches.{MatchFact, match_mean, each_looked}
use Rattle.ft_equality_laws.proofs.Equational.{Met, equation_at}
use Rattle.ft_equality_laws.specs.Laws.{Each}
use Rattle.ft_equality_laws.proofs.Each.{each_map}
use Rattle.ft_common.proofs.Options.{none_some as nothing}

-- the goal of an equation, at the type where it has one
abbrev pub equation_goal : Expression → Expression → Option Expression → Claim
equation_goal l r None = type_equation_goal l r
equation_goal l r (Some A) = term_equation_goal l r A

-- What is known of a computation rule that was accepted.
pub record Computes (T : List Rule) (c : Computation) : Type 0 where
  pub is : rule_at T c.rule ≡ Some (record { premises = c.premises; conclusion = equation_goal c.left c.right c.type })
  pub symbol_of : ℕ
  pub patterns : Arguments
  pub left : c.left ≡ symbol symbol_of patterns
  pub pattern : are_patterns patterns ≡ true
  pub determined : Each (λ q. IsObject q.1 × (determines c.left q.0 ≡ true)) c.premises

abbrev pub AllCompute : List Rule → List Computation → Type 0
AllCompute T [] = Unit {0}
AllCompute T (c ∷ cs) = Computes T c × AllCompute T cs

module _ (T : List Rule) (so : Sound T) (M : List (ℕ × Statement)) where
  -- the application at one goal, and an equation of it at another
  regoal : (G : List (ℕ × Expression)) (c d : Claim) (s : ℕ) (a : Arguments) (f : Expression) → IsObjectGoal c → IsObjectGoal d → Prim T M G (plain (fill_goal c (symbol s a))) → Prim T M G (plain (fill_goal d (symbol s a)))
      → Prim T M G (plain (equate_goal d (symbol s a) f)) → Prim T M G (plain (equate_goal c (symbol s a) f))
  regoal G type_goal type_goal s a f o o' p q e = e
  regoal G type_goal (term_goal B) s a f o o' p q e =
      let r : (R : Rule) × (rule_at T s ≡ Some R) = rule_of T so M G type_goal s a tt p in
      absurd (clash B (conclusion_at r.0 a) (resting T so M G type_goal s a r.0 tt r.1 p).stands (resting T so M G (term_goal B) s a r.0 tt r.1 q).stands)
    where
      wrong_goal : (N : Expression) → type_goal ≡ term_goal N → ⊥
      wrong_goal N e = cc

      clash : (B : Expression) (n : Claim) → Stands T M G n type_goal → Stands T M G n (term_goal B) → ⊥
      clash B n x y = wrong_goal y.0 (sym x ∙ y.1)
  regoal G type_goal d s a f o o' p q e = absurd o'
  regoal G (term_goal A) type_goal s a f o o' p q e =
      let r : (R : Rule) × (rule_at T s ≡ Some R) = rule_of T so M G type_goal s a tt q in
      absurd (clash A (conclusion_at r.0 a) (resting T so M G type_goal s a r.0 tt r.1 q).stands (resting T so M G (term_goal A) s a r.0 tt r.1 p).stands)
    where
      wrong_goal : (N : Expression) → type_goal ≡ term_goal N → ⊥
      wrong_goal N e = cc

      clash : (B : Expression) (n : Claim) → Stands T M G n type_goal → Stands T M G n (term_goal B) → ⊥
      clash B n x y = wrong_goal y.0 (sym x ∙ y.1)
  regoal G (term_goal A) (term_goal B) s a f o o' p q e =
      let r : (R : Rule) × (rule_at T s ≡ Some R) = rule_of T so M G (term_goal A) s a tt p in
      do_convert_equation e (alike (conclusion_at r.0 a) (resting T so M G (term_goal A) s a r.0 tt r.1 p).stands (resting T so M G (term_goal B) s a r.0 tt r.1 q).stands)
    where
      type_in : Claim → Expression
      type_in (term_goal C) = C
      type_in c = bound zero

      alike : (n : Claim) → Stands T M G n (term_goal A) → Stands T M G n (term_goal B) → Prim T M G (plain (equal_types B A))
      alike n x y = do_transitive_types (do_symmetric_types y.2) (subst (λ z. Prim T M G (plain (equal_types z A))) (ap type_in (sym x.1 ∙ y.1)) x.2)
  regoal G (term_goal A) d s a f o o' p q e = absurd o'
  regoal G c d s a f o o' p q e = absurd o

  -- what the left side of a rule is, over its premises
  pub left_at : (c : Computation) → Computes T c → (d : Claim) × IsObjectGoal d × Prim T c.premises [] (plain (fill_goal d c.left))
  left_at c h = go c.type h.is
    where
      go : (o : Option Expression) → rule_at T c.rule ≡ Some (record { premises = c.premises; conclusion = equation_goal c.left c.right o }) → (d : Claim) × IsObjectGoal d × Prim T c.premises [] (plain (fill_goal d c.left))
      go None e = (type_goal, tt, (parts T (sequent c.premises [] (plain (type_equation_goal c.left c.right))) (so c.rule (record { premises = c.premises; conclusion = equation_goal c.left c.right None }) e).2).0)
      go (Some A) e = (term_goal A, tt, (parts T (sequent c.premises [] (plain (term_equation_goal c.left c.right A))) (so c.rule (record { premises = c.premises; conclusion = equation_goal c.left c.right (Some A) }) e).2).1)

  -- the rule's equation at an instance, where its left side stands
  contraction : (c : Computation) → Computes T c → (G : List (ℕ × Expression)) (g : Claim) (I : ℕ → ℕ → Option Expression) → IsObjectGoal g → Given T M G I c.premises → Prim T M G (plain (fill_goal g (instantiate I c.left))) → Prim T M G (plain (equate_goal g (instantiate I c.left) (instantiate I c.right)))
  unfolding act
  contraction c h G g I o gi p = go c.type h.is
    where
      u : Arguments
      u = act_arguments free I h.patterns

      is_symbol : instantiate I c.left ≡ symbol h.symbol_of (act_arguments free I h.patterns)
      is_symbol = ap (instantiate I) h.left

      at_symbol : (d : Claim) → IsObjectGoal d → Prim T M G (plain (fill_goal d (instantiate I c.left))) → Prim T M G (plain (equate_goal d (instantiate I c.left) (instantiate I c.right))) → Prim T M G (plain (equate_goal g (instantiate I c.left) (instantiate I c.right)))
      at_symbol d o' q e = subst (λ z. Prim T M G (plain (equate_goal g z (instantiate I c.right)))) (sym is_symbol)
          (regoal G g d h.symbol_of (act_arguments free I h.patterns) (instantiate I c.right) o o' (subst (λ z. Prim T M G (plain (fill_goal g z))) is_symbol p) (subst (λ z. Prim T M G (plain (fill_goal d z))) is_symbol q)
          (subst (λ z. Prim T M G (plain (equate_goal d z (instantiate I c.right)))) is_symbol e))

      mets : (x : Option Expression) → rule_at T c.rule ≡ Some (record { premises = c.premises; conclusion = equation_goal c.left c.right x }) → Each (Met T M G I) c.premises
      mets x e = each_map (λ q. look_up c.premises q.0 ≡ Some q.1) (Met T M G I) c.premises (λ q lk. inl (gi q.0 q.1 lk))
          (each_looked (λ N y. Prim T N [] y) [] c.premises (so c.rule (record { premises = c.premises; conclusion = equation_goal c.left c.right x }) e).0)

      go : (x : Option Expression) → rule_at T c.rule ≡ Some (record { premises = c.premises; conclusion = equation_goal c.left c.right x }) → Prim T M G (plain (equate_goal g (instantiate I c.left) (instantiate I c.right)))
      go None e =
          let q : Prim T M G (plain (equal_types (instantiate I c.left) (instantiate I c.right))) = equation_at T so M G I c.rule (record { premises = c.premises; conclusion = equation_goal c.left c.right None }) e tt (mets None e) in
          at_symbol type_goal tt (types_of T (scoped T so) M G (instantiate I c.left) (instantiate I c.right) q).0 q
      go (Some A) e =
          let q : Prim T M G (plain (equal_terms (instantiate I c.left) (instantiate I c.right) (instantiate I A))) = equation_at T so M G I c.rule (record { premises = c.premises; conclusion = equation_goal c.left c.right (Some A) }) e tt (mets (Some A) e) in
          at_symbol (term_goal (instantiate I A)) tt (sides_of T (scoped T so) M G (instantiate I c.left) (instantiate I c.right) (instantiate I A) q).1 q

module _ (W : Declarations) (so : Sound W.rules) (M : List (ℕ × Statement)) where
  -- what a derivable pattern mentions
  pub only_premises : (qs : List (ℕ × Statement)) (d : Claim) (s : ℕ) (us : Arguments) → IsObjectGoal d → Prim W.rules qs [] (plain (fill_goal d (symbol s us))) → ArgumentsMentionOnly (λ v. ⊥) (IsObjectPremise qs) us
  only_premises qs d s us o p = MentionsOnly_mono (symbol s us) (InVariables []) (λ v. ⊥) (InMetavariables qs) (IsObjectPremise qs) (λ v h. nothing h.1) (λ m k h. h)
      (AllOfClaim_head d (Fine qs [] zero) (symbol s us) o (scope W.rules (sequent qs [] (plain (fill_goal d (symbol s us)))) p)).1

  pub computation_match : (c : Computation) → Computes W.rules c → (n : ℕ) (e : Expression) → Means W.rules M n (MatchFact W.rules M n c.premises c.left e) (match_pattern W c.premises c.left e)
  computation_match c h n e =
      let l : (d : Claim) × IsObjectGoal d × Prim W.rules c.premises [] (plain (fill_goal d c.left)) = left_at W.rules so M c h in
      subst (λ u. Means W.rules M n (MatchFact W.rules M n c.premises u e) (match_pattern W c.premises u e)) (sym h.left)
      (subst (λ qs. Means W.rules M n (MatchFact W.rules M n c.premises (symbol h.symbol_of h.patterns) e) (match_pattern W qs (symbol h.symbol_of h.patterns) e)) (append-nil c.premises)
      (match_mean W so M c.premises [] h.symbol_of h.patterns h.pattern
      (laid W.rules so c.premises [] (symbol h.symbol_of h.patterns) l.0 l.1 h.pattern (subst (λ u. Prim W.rules c.premises [] (plain (fill_goal l.0 u))) h.left l.2))
      (only_premises c.premises l.0 h.symbol_of h.patterns l.1 (subst (λ u. Prim W.rules c.premises [] (plain (fill_goal l.0 u))) h.left l.2))
      (subst (λ qs. PremisesHold (λ N x. Prim W.rules N [] x) [] qs) (sym (append-nil c.premises)) (so c.rule (record { premises = c.premises; conclusion = equation_goal c.left c.right c.type }) h.is).0)
      (each_map (λ q. IsObject q.1 × (determines c.left q.0 ≡ true)) (λ q. IsObject q.1 × (determines (symbol h.symbol_of h.patterns) q.0 ≡ true)) c.premises (λ q d. (d.0, ap (λ u. determines u q.0) (sym h.left) ∙ d.1)) h.determined) n e))

  one_rule : (n : ℕ) (e : Expression) (c : Computation) → Computes W.rules c → (I : ℕ → ℕ → Option Expression) → MatchFact W.rules M n c.premises c.left e (Some I) → Means W.rules M n (NormalFact W.rules M n e) (◌>>=◌ (contracted c I) normal_of)
  one_rule n e c h I m = means_bind W.rules M n (λ r. r ≡ instantiate I c.right) (NormalFact W.rules M n e) (contracted c I) normal_of
      (means_then W.rules M n (λ r. r ≡ instantiate I c.right) (form_all (instantiate I c.right ∷ option_to_list (option_map (instantiate I) c.type))) (give (instantiate I c.right)) refl)
      (λ r eq f g c' o G bl p.
      let sc : ScopedTheory W.rules = scoped W.rules so in
      let k : Prim W.rules M G (plain (equate_goal c' e (instantiate I c.left))) × HasClosedBodies I × Given W.rules M G I c.premises = m c' o G bl p in
      let ct : Prim W.rules M G (plain (equate_goal c' (instantiate I c.left) (instantiate I c.right))) = contraction W.rules so M c h G c' I o k.2 (right_at W.rules sc M G c' e (instantiate I c.left) o k.0) in
      let gr : Prim W.rules M G (plain (equate_goal c' (instantiate I c.right) f)) = subst (λ z. NormalFact W.rules M n z f) eq g c' o G bl (right_at W.rules sc M G c' (instantiate I c.left) (instantiate I c.right) o ct) in
      transitive_flat W.rules M G (plain c') e (instantiate I c.left) f refl o k.0 (transitive_flat W.rules M G (plain c') (instantiate I c.left) (instantiate I c.right) f refl o ct gr))

  compute_mean : (n : ℕ) (e : Expression) (cs : List Computation) → AllCompute W.rules cs → Means W.rules M n (NormalFact W.rules M n e) (compute W cs e)
  compute_mean n e [] h = λ c o G bl p. reflexive_at W.rules M G c e o p
  compute_mean n e (c ∷ cs) h = means_bind W.rules M n (MatchFact W.rules M n c.premises c.left e) (NormalFact W.rules M n e) (match_pattern W c.premises c.left e) (λ found. if_found found (λ I. ◌>>=◌ (contracted c I) normal_of) (λ z. compute W cs e))
      (computation_match c h.0 n e) (λ o m. go (compute_mean n e cs h.1) o m)
    where
      go : Means W.rules M n (NormalFact W.rules M n e) (compute W cs e) → (o : Option (ℕ → ℕ → Option Expression)) → MatchFact W.rules M n c.premises c.left e o
          → Means W.rules M n (NormalFact W.rules M n e) (if_found o (λ I. ◌>>=◌ (contracted c I) normal_of) (λ z. compute W cs e))
      go ih None m = ih
      go ih (Some I) m = one_rule n e c h.0 I m

  -- principal arguments
  abbrev NormalArgs : EqualityRules → ℕ → ℕ → ℕ → Arguments → Arguments → Type 0
  NormalArgs E s i n a b = (I : ℕ → ℕ → Option Expression) (ps : List (ℕ × Statement)) → Flat E s i ps → FitsPremises ps a → FitsPremises ps b × ((G : List (ℕ × Expression)) → Below n G → Trees (Step W.rules) (sequents M G (filled_premises I ps a)) → Trees (Step W.rules) (sequents M G (equated_premises I ps a b)))

  abbrev OneNormal : EqualityRules → ℕ → ℕ → ℕ → Expression → Expression → Type 0
  OneNormal E s i n e f = (B : Statement) → IsObject B → (is_principal E s i ≡ true → domain_count B ≡ zero) → (G : List (ℕ × Expression)) → Below n G → Prim W.rules M G (fill B e) → Prim W.rules M G (equate B e f)

  one_mean : (E : EqualityRules) (s i n : ℕ) (e : Expression) → Means W.rules M n (OneNormal E s i n e) (normal_if (is_principal E s i) e)
  one_mean E s i n e = go (is_principal E s i)
    where
      flat_case : (f : Expression) → NormalFact W.rules M n e f → (B : Statement) → IsObject B → domain_count B ≡ zero → (G : List (ℕ × Expression)) → Below n G → Prim W.rules M G (fill B e) → Prim W.rules M G (equate B e f)
      flat_case f g (plain c) o d G bl p = g c o G bl p
      flat_case f g (abstracted A B) o d G bl p = absurd (grind (arith, d))

      go : (t : Bool) → Means W.rules M n (λ f. (B : Statement) → IsObject B → (t ≡ true → domain_count B ≡ zero) → (G : List (ℕ × Expression)) → Below n G → Prim W.rules M G (fill B e) → Prim W.rules M G (equate B e f)) (normal_if t e)
      go true = λ f g B o d. flat_case f g B o (d refl)
      go false = λ B o d G bl p. refl_heads W.rules (scoped W.rules so) M G B e o p

  no_args : (E : EqualityRules) (s i n : ℕ) (I : ℕ → ℕ → Option Expression) (ps : List (ℕ × Statement)) → FitsPremises ps no_arguments → (G : List (ℕ × Expression)) → Trees (Step W.rules) (sequents M G (equated_premises I ps no_arguments no_arguments))
  no_args E s i n I [] f G = none
  no_args E s i n I (p ∷ ps) f G = absurd f

  body_args : (E : EqualityRules) (s i n k : ℕ) (e f : Expression) (a b : Arguments) → OneNormal E s i n e f → NormalArgs E s (suc i) n a b → NormalArgs E s i n (with_body k e a) (with_body k f b)
  body_args E s i n k e f a b x h I [] fl fit = absurd fit
  body_args E s i n k e f a b x h I (p ∷ ps) fl fit = (
    (fit.0, fit.1, (h I ps fl.1 fit.2).0),
    λ G bl ts. go G bl ts,
  )
    where
      go : (G : List (ℕ × Expression)) → Below n G → Trees (Step W.rules) (sequents M G (filled_premises I (p ∷ ps) (with_body k e a))) → Trees (Step W.rules) (sequents M G (equated_premises I (p ∷ ps) (with_body k e a) (with_body k f b)))
      go G bl (more t ts) = more (x (statement_at I p.1) (object-map p.1 (λ z. act free I) zero fit.1) (λ t. domain_count-map p.1 (λ z. act free I) zero ∙ fl.0 t) G bl t) ((h I ps fl.1 fit.2).1 G bl ts)

  dummy_args : (E : EqualityRules) (s i n k : ℕ) (a b : Arguments) → NormalArgs E s (suc i) n a b → NormalArgs E s i n (dummy k a) (dummy k b)
  dummy_args E s i n k a b h I [] fl fit = absurd fit
  dummy_args E s i n k a b h I (p ∷ ps) fl fit = ((fit.0, fit.1, (h I ps fl.1 fit.2).0), λ G bl ts. go G bl ts)
    where
      go : (G : List (ℕ × Expression)) → Below n G → Trees (Step W.rules) (sequents M G (filled_premises I (p ∷ ps) (dummy k a))) → Trees (Step W.rules) (sequents M G (equated_premises I (p ∷ ps) (dummy k a) (dummy k b)))
      go G bl (more t ts) = (h I ps fl.1 fit.2).1 G bl ts

  principal_mean : (E : EqualityRules) (s i n : ℕ) (a : Arguments) → Means W.rules M n (NormalArgs E s i n a) (principal_normal E s i a)
  principal_mean E s i n no_arguments = λ I ps fl fit. (fit, λ G bl ts. no_args E s i n I ps fit G)
  principal_mean E s i n (with_body k e a) = means_bind W.rules M n (OneNormal E s i n e) (NormalArgs E s i n (with_body k e a)) (normal_if (is_principal E s i) e) (λ f. ◌>>=◌ (principal_normal E s (suc i) a) (λ b. give (with_body k f b))) (one_mean E s i n e)
      (λ f x. means_bind W.rules M n (NormalArgs E s (suc i) n a) (NormalArgs E s i n (with_body k e a)) (principal_normal E s (suc i) a) (λ b. give (with_body k f b)) (principal_mean E s (suc i) n a) (λ b h. body_args E s i n k e f a b x h))
  principal_mean E s i n (dummy k a) = means_bind W.rules M n (NormalArgs E s (suc i) n a) (NormalArgs E s i n (dummy k a)) (principal_normal E s (suc i) a) (λ b. give (dummy k b)) (principal_mean E s (suc i) n a) (λ b h. dummy_args E s i n k a b h)

  symbol_mean : (E : EqualityRules) → AllCompute W.rules E.computations → ((s : ℕ) (R : Rule) → rule_at W.rules s ≡ Some R → Flat E s 1 R.premises) → (n s : ℕ) (a : Arguments) → Means W.rules M n (NormalFact W.rules M n (symbol s a)) (normal_by W E (symbol s a))
  symbol_mean E ac flat n s a = means_bind W.rules M n (NormalArgs E s 1 n a) (NormalFact W.rules M n (symbol s a)) (principal_normal E s 1 a) (λ b. ◌>>◌ (form_all (symbol s b ∷ [])) (compute W E.computations (symbol s b))) (principal_mean E s 1 n a)
      (λ b h. means_then W.rules M n (NormalFact W.rules M n (symbol s a)) (form_all (symbol s b ∷ [])) (compute W E.computations (symbol s b))
      (means_weaken W.rules M n (NormalFact W.rules M n (symbol s b)) (NormalFact W.rules M n (symbol s a)) (compute W E.computations (symbol s b))
      (λ f g c o G bl p.
      let r : (R : Rule) × (rule_at W.rules s ≡ Some R) = rule_of W.rules so M G c s a o p in
      let k : Resting W.rules so M G c r.0 a = resting W.rules so M G c s a r.0 o r.1 p in
      let e : Prim W.rules M G (plain (equate_goal c (symbol s a) (symbol s b))) = congruence_at W.rules so M G c s a b r.0 r.1 k (h (instance_of r.0.premises a) r.0.premises (flat s r.0 r.1) k.fits).0 ((h (instance_of r.0.premises a) r.0.premises (flat s r.0 r.1) k.fits).1 G bl k.arguments) in
      transitive_flat W.rules M G (plain c) (symbol s a) (symbol s b) f refl o e (g c o G bl (right_at W.rules (scoped W.rules so) M G c (symbol s a) (symbol s b) o e)))
      (compute_mean n (symbol s b) E.computations ac)))

  pub normal_mean : (E : EqualityRules) → AllCompute W.rules E.computations → ((s : ℕ) (R : Rule) → rule_at W.rules s ≡ Some R → Flat E s 1 R.premises) → (n : ℕ) (e : Expression) → Means W.rules M n (NormalFact W.rules M n e) (◌>>◌ (visit W e) (normal_by W E e))
  normal_mean E ac flat n e = means_then W.rules M n (NormalFact W.rules M n e) (visit W e) (normal_by W E e) (go e)
    where
      go : (e : Expression) → Means W.rules M n (NormalFact W.rules M n e) (normal_by W E e)
      go (symbol s a) = symbol_mean E ac flat n s a
      go e = λ c o G bl p. reflexive_at W.rules M G c e o p
