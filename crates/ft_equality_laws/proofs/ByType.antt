-- Terms by the extensionality rules of their type.
use Rattle.std.proofs.Common.{◌≡◌, ◌≢◌, ℕ, zero, Bool, true, false, cond, nat_eq, Option, Some, None, List, [], ◌∷◌, ◌++◌, ◌⊎◌, inl, inr, refl, sym, ap, ◌∙◌, subst, append_assoc, append-nil, arith}
use Rattle.std.specs.Prelude.{◌||◌}
use Rattle.ft_theory.specs.Expressions.{Expression, bound, free, symbol, meta, Arguments, no_arguments, with_body, dummy, Terms, no_terms, also, count, act, instantiate, ClosedAt, MentionsOnly, ArgumentsMentionOnly, TermsMentionOnly}
use Rattle.ft_theory.specs.Statements.{is_type, has_type, equal_types, equal_terms, type_goal, term_goal, term_equation_goal, Statement, plain, StatementMentionsOnly, act_statement, domain_count, fill, IsObject, IsEquation}
use Rattle.ft_theory.specs.Rules.{look_up, Rule, rule_at}
use Rattle.ft_theory.specs.Steps.{sequent, IsVariableFree, Prim}
use Rattle.ft_theory.specs.Derivability.{PremisesHold}
use Rattle.ft_laws.specs.Instances.{statement_at, StaysOrGiven, given_equation, EquationStaysOrHolds, IsInstance}
use Rattle.ft_laws.specs.Syntax.{HasClosedBodies, IsObjectPremise}
use Rattle.ft_laws.proofs.Opens.{by_test, Closed_mono}
use Rattle.ft_laws.proofs.Steps.{do_symmetric_types, do_convert_term, do_convert_equation}
use Rattle.ft_laws.proofs.Scope.{scope, Fine, InVariables, InMetavariables}
use Rattle.ft_laws.proofs.Statements.{equation-map, AllOfStatement_mono, act_statement_agree}
use Rattle.ft_laws.proofs.Acts.{MentionsOnly_mono, act_agree}
use Rattle.ft_items.proofs.SetLemmas.{wrong'}
use Rattle.ft_laws.proofs.Commute.{ScopedTheory, not_both}
use Rattle.ft_laws.proofs.Sides.{parts, boundary}
use Rattle.ft_laws.proofs.Substitute.{closed_term}
use Rattle.ft_laws.proofs.Rules.{found, past, look_before}
use Rattle.ft_laws.proofs.Finitary.{Sound, scoped, first_premises}
use Rattle.ft_laws.proofs.Instances.{instantiate as at_instance}
use Rattle.ft_items.specs.Store.{Declarations}
use Rattle.ft_sound.proofs.Good.{look_last}
use Rattle.ft_equality.specs.Shapes.{Extensionality, are_patterns, determines, mentions, arguments_mention, terms_mention}
use Rattle.ft_equality.specs.Comparing.{form_statement, sides_equal}
use Rattle.ft_equality.specs.Matching.{match_pattern}
use Rattle.ft_equality.specs.Equality.{if_found, by_normal_forms, with_sides, equation_holds, equations_hold, by_type}
use Rattle.ft_equality_laws.proofs.Means.{Below, If, EqualAt, Means, means_bind}
use Rattle.ft_equality_laws.proofs.Opening.{SidesEqual, means_both, sides_mean}
use Rattle.ft_equality_laws.proofs.Parts.{means_map, means_then}
use Rattle.ft_equality_laws.proofs.Positions.{some_last, none_before}
use Rattle.ft_equality_laws.proofs.Patterns.{laid, bare_at}
use Rattle.ft_equality_laws.proofs.Fitting.{Given, given_last, given_instance}
use Rattle.ft_equality_laws.proofs.Matches.{MatchFact, match_mean, look_none, premise_of, each_looked}
use Rattle.ft_equality_laws.proofs.Equational.{Met, equation_at}
use Rattle.ft_equality_laws.proofs.Normal.{only_premises}
use Rattle.ft_equality_laws.specs.Laws.{Each}
use Rattle.ft_equality_laws.proofs.Each.{each_map, each_zip, each_join}
use Rattle.std.proofs.lemmas.Option.{same_Some as Some_injective}
use Rattle.ft_common.proofs.Options.{none_some as nothing}
use Rattle.std.proofs.lemmas.Bool.{eq-eqb as test_true}
use Rattle.ft_common.proofs.Choices.{if_same as same, if_other as other}

-- the premises after the determined ones: those of the sides, and equations
abbrev pub side_premises : Extensionality → List (ℕ × Statement)
side_premises x = (x.first, plain (term_goal x.type)) ∷ (x.second, plain (term_goal x.type)) ∷ x.equations

-- What is known of an extensionality rule that was accepted.
pub record Compares (T : List Rule) (x : Extensionality) : Type 0 where
  pub is : rule_at T x.rule ≡ Some (record { premises = x.premises; conclusion = term_equation_goal (meta x.first no_terms) (meta x.second no_terms) x.type })
  pub others : List (ℕ × Statement)
  pub split : x.premises ≡ others ++ side_premises x
  pub symbol_of : ℕ
  pub patterns : Arguments
  pub type_is : x.type ≡ symbol symbol_of patterns
  pub pattern : are_patterns patterns ≡ true
  pub determined : Each (λ q. IsObject q.1 × (determines x.type q.0 ≡ true)) others
  pub equational : Each (λ q. IsEquation q.1) x.equations
  pub no_first : mentions x.first x.type ≡ false
  pub no_second : mentions x.second x.type ≡ false

abbrev pub AllCompare : List Rule → List Extensionality → Type 0
AllCompare T [] = Unit {0}
AllCompare T (x ∷ xs) = Compares T x × AllCompare T xs

pub drop_premises : (D : List (ℕ × Statement) → Statement → Type 0) (before ps qs : List (ℕ × Statement)) → PremisesHold D before (ps ++ qs) → PremisesHold D (before ++ ps) qs
drop_premises D before [] qs h = subst (λ z. PremisesHold D z qs) (sym (append-nil before)) h
drop_premises D before (p ∷ ps) qs h = subst (λ z. PremisesHold D z qs) (append_assoc before (p ∷ []) ps) (drop_premises D (before ++ (p ∷ [])) ps qs h.3)

-- what is mentioned, without two metavariables
neither : (a b : Bool) → (a || b) ≡ false → (a ≡ false) × (b ≡ false)
neither true b h = wrong' h
neither false b h = (refl, h)

unequal : (m n : ℕ) → nat_eq m n ≡ false → n ≢ m
unequal m n h e = wrong' (sym (test_true m n (sym e)) ∙ h)

module _ (f g : ℕ) (P Q : ℕ → ℕ → Type 0) (w : (m k : ℕ) → m ≢ f → m ≢ g → P m k → Q m k) where
  mutual
    narrow : (e : Expression) → mentions f e ≡ false → mentions g e ≡ false → MentionsOnly (λ v. ⊥) P e → MentionsOnly (λ v. ⊥) Q e
    narrow (bound i) a b h = tt
    narrow (free v) a b h = h
    narrow (symbol s c) a b h = narrow_arguments c a b h
    narrow (meta n ts) a b h =
        let a' : (nat_eq f n ≡ false) × (terms_mention f ts ≡ false) = neither (nat_eq f n) (terms_mention f ts) a in
        let b' : (nat_eq g n ≡ false) × (terms_mention g ts ≡ false) = neither (nat_eq g n) (terms_mention g ts) b in
        (w n (count ts) (unequal f n a'.0) (unequal g n b'.0) h.0, narrow_terms ts a'.1 b'.1 h.1)

    narrow_arguments : (c : Arguments) → arguments_mention f c ≡ false → arguments_mention g c ≡ false → ArgumentsMentionOnly (λ v. ⊥) P c → ArgumentsMentionOnly (λ v. ⊥) Q c
    narrow_arguments no_arguments a b h = tt
    narrow_arguments (with_body n e c) a b h =
        let a' : (mentions f e ≡ false) × (arguments_mention f c ≡ false) = neither (mentions f e) (arguments_mention f c) a in
        let b' : (mentions g e ≡ false) × (arguments_mention g c ≡ false) = neither (mentions g e) (arguments_mention g c) b in
        (narrow e a'.0 b'.0 h.0, narrow_arguments c a'.1 b'.1 h.1)
    narrow_arguments (dummy n c) a b h = narrow_arguments c a b h

    narrow_terms : (c : Terms) → terms_mention f c ≡ false → terms_mention g c ≡ false → TermsMentionOnly (λ v. ⊥) P c → TermsMentionOnly (λ v. ⊥) Q c
    narrow_terms no_terms a b h = tt
    narrow_terms (also e c) a b h =
        let a' : (mentions f e ≡ false) × (terms_mention f c ≡ false) = neither (mentions f e) (terms_mention f c) a in
        let b' : (mentions g e ≡ false) × (terms_mention g c ≡ false) = neither (mentions g e) (terms_mention g c) b in
        (narrow e a'.0 b'.0 h.0, narrow_terms c a'.1 b'.1 h.1)

equation_found : (qs : List (ℕ × Statement)) (m : ℕ) (b : Statement) → Each (λ q. IsEquation q.1) qs → look_up qs m ≡ Some b → IsEquation b
equation_found [] m b h l = nothing l
equation_found (q ∷ qs) m b h l = by_test (IsEquation b) m q.0 (λ e. subst IsEquation (found m q qs b e l) h.0) (λ n. equation_found qs m b h.1 (past m q qs b n l))

-- each premise's boundary mentions only premises
each_scoped : (T : List Rule) (all before qs : List (ℕ × Statement)) → ((m : ℕ) (b : Statement) → look_up (before ++ qs) m ≡ Some b → look_up all m ≡ Some b) → PremisesHold (λ N x. Prim T N [] x) before qs
    → Each (λ q. StatementMentionsOnly (λ v. ⊥) (IsObjectPremise all) q.1) qs
each_scoped T all before [] w h = tt
each_scoped T all before (q ∷ qs) w h = (
  AllOfStatement_mono q.1 (Fine before []) (λ l. MentionsOnly (λ v. ⊥) (IsObjectPremise all)) zero
      (λ l e f. MentionsOnly_mono e (InVariables []) (λ v. ⊥) (InMetavariables before) (IsObjectPremise all) (λ v i. nothing i.1) (λ m k i. (i.0, w m i.0 (look_before before (q ∷ qs) m i.0 i.1), i.2, i.3)) f.1) (scope T (sequent before [] q.1) h.2),
  each_scoped T all (before ++ (q ∷ [])) qs (λ m b r. w m b (ap (λ z. look_up z m) (sym (append_assoc before (q ∷ []) qs)) ∙ r)) h.3,
)

module _ (W : Declarations) (so : Sound W.rules) (M : List (ℕ × Statement)) where
  -- equation premises
  abbrev EqFact : ℕ → (ℕ → ℕ → Option Expression) → List (ℕ × Statement) → List (ℕ × Statement) → Type 0
  EqFact n K before qs = (G : List (ℕ × Expression)) → Below n G → IsInstance W.rules before [] M G K → Each (Met W.rules M G K) qs

  one_equation : (G : List (ℕ × Expression)) (K : ℕ → ℕ → Option Expression) (before : List (ℕ × Statement)) (q : ℕ × Statement) → IsInstance W.rules before [] M G K → IsEquation q.1 → Prim W.rules M G (fill (statement_at K q.1) (bound zero)) → IsInstance W.rules (before ++ (q ∷ [])) [] M G K
  one_equation G K before q i o p = record {
    closed = i.closed;
    variables = λ v A e. nothing e;
    objects = λ m b l vf ob. objects_of m b vf ob (look_last before q.0 q.1 m b l);
    equations = λ m b l vf ob. equations_of m b vf ob (look_last before q.0 q.1 m b l);
  }
    where
      objects_of : (m : ℕ) (b : Statement) → IsVariableFree b → IsObject b → (look_up before m ≡ Some b) ⊎ ((m ≡ q.0) × (q.1 ≡ b)) → StaysOrGiven W.rules M G K m b
      objects_of m b vf ob (inl r) = i.objects m b r vf ob
      objects_of m b vf ob (inr r) = absurd (not_both b ob (subst IsEquation r.1 o))

      equations_of : (m : ℕ) (b : Statement) → IsVariableFree b → IsEquation b → (look_up before m ≡ Some b) ⊎ ((m ≡ q.0) × (q.1 ≡ b)) → EquationStaysOrHolds W.rules M G K m b
      equations_of m b vf ob (inl r) = i.equations m b r vf ob
      equations_of m b vf ob (inr r) = given_equation (subst (λ z. Prim W.rules M G (fill (statement_at K z) (bound zero))) r.1 p)

  equations_mean : (n : ℕ) (K : ℕ → ℕ → Option Expression) (before qs : List (ℕ × Statement)) → PremisesHold (λ N x. Prim W.rules N [] x) before qs → Each (λ q. IsEquation q.1) qs → Means W.rules M n (λ r. If r (EqFact n K before qs)) (equations_hold K qs)
  equations_mean n K before [] h e = λ G bl i. tt
  equations_mean n K before (q ∷ qs) h e =
      means_both W.rules M n (SidesEqual W.rules M n (statement_at K q.1)) (EqFact n K before (q ∷ qs)) (equation_holds (statement_at K q.1)) (λ t. equations_hold K qs)
      (means_then W.rules M n (λ r. If r (SidesEqual W.rules M n (statement_at K q.1))) (form_statement (statement_at K q.1)) (sides_equal (statement_at K q.1))
      (sides_mean W.rules (scoped W.rules so) M (domain_count (statement_at K q.1)) n (statement_at K q.1) refl (equation-map q.1 (λ z. act free K) zero e.0)))
      (λ sd. means_map W.rules M n (EqFact n K (before ++ (q ∷ [])) qs) (EqFact n K before (q ∷ qs)) (equations_hold K qs)
      (λ y G bl i.
      let eq : Prim W.rules M G (fill (statement_at K q.1) (bound zero)) = sd G bl (at_instance W.rules (scoped W.rules so) before [] M G K q.1 i h.2) in
      (inr (e.0, eq), y G bl (one_equation G K before q i e.0 eq)))
      (equations_mean n K (before ++ (q ∷ [])) qs h.3 e.1))

  module _ (x : Extensionality) (h : Compares W.rules x) where
    holds : PremisesHold (λ N x. Prim W.rules N [] x) [] (h.others ++ side_premises x)
    holds = subst (λ z. PremisesHold (λ N y. Prim W.rules N [] y) [] z) h.split (so x.rule (record { premises = x.premises; conclusion = term_equation_goal (meta x.first no_terms) (meta x.second no_terms) x.type }) h.is).0

    -- the type is one, over the premises
    type_holds : Prim W.rules x.premises [] (plain (is_type x.type))
    type_holds = (parts W.rules (sequent x.premises [] (plain (term_equation_goal (meta x.first no_terms) (meta x.second no_terms) x.type)))
        (so x.rule (record { premises = x.premises; conclusion = term_equation_goal (meta x.first no_terms) (meta x.second no_terms) x.type }) h.is).2).0

    after_others : PremisesHold (λ N y. Prim W.rules N [] y) h.others (side_premises x)
    after_others = drop_premises (λ N y. Prim W.rules N [] y) [] h.others (side_premises x) holds

    object_among : (m k : ℕ) → m ≢ x.first → m ≢ x.second → IsObjectPremise (h.others ++ side_premises x) m k → IsObjectPremise h.others m k
    object_among m k f g i = go (look_up h.others m) refl
      where
        go : (o : Option Statement) → look_up h.others m ≡ o → IsObjectPremise h.others m k
        go (Some b) e = (i.0, e ∙ sym (sym i.1 ∙ look_before h.others (side_premises x) m b e), i.2, i.3)
        go None e =
            let l : look_up (side_premises x) m ≡ Some i.0 = sym (look_none h.others (side_premises x) m e) ∙ i.1 in
            let l' : look_up x.equations m ≡ Some i.0 = past m (x.second, plain (term_goal x.type)) x.equations i.0 g (past m (x.first, plain (term_goal x.type)) ((x.second, plain (term_goal x.type)) ∷ x.equations) i.0 f l) in
            absurd (not_both i.0 i.2 (equation_found x.equations m i.0 h.equational l'))

    -- the type is a pattern of the determined premises alone
    only_others : ArgumentsMentionOnly (λ v. ⊥) (IsObjectPremise h.others) h.patterns
    only_others = narrow_arguments x.first x.second (IsObjectPremise (h.others ++ side_premises x)) (IsObjectPremise h.others) object_among h.patterns
        (ap (mentions x.first) (sym h.type_is) ∙ h.no_first) (ap (mentions x.second) (sym h.type_is) ∙ h.no_second)
        (subst (λ qs. ArgumentsMentionOnly (λ v. ⊥) (IsObjectPremise qs) h.patterns) h.split (only_premises W so M x.premises type_goal h.symbol_of h.patterns tt (subst (λ u. Prim W.rules x.premises [] (plain (is_type u))) h.type_is type_holds)))

    type_match : (n : ℕ) (A : Expression) → Means W.rules M n (MatchFact W.rules M n h.others x.type A) (match_pattern W x.premises x.type A)
    type_match n A =
        subst (λ u. Means W.rules M n (MatchFact W.rules M n h.others u A) (match_pattern W x.premises u A)) (sym h.type_is)
        (subst (λ qs. Means W.rules M n (MatchFact W.rules M n h.others (symbol h.symbol_of h.patterns) A) (match_pattern W qs (symbol h.symbol_of h.patterns) A)) (sym h.split)
        (match_mean W so M h.others (side_premises x) h.symbol_of h.patterns h.pattern
        (laid W.rules so x.premises [] (symbol h.symbol_of h.patterns) type_goal tt h.pattern (subst (λ u. Prim W.rules x.premises [] (plain (is_type u))) h.type_is type_holds))
        only_others holds
        (each_map (λ q. IsObject q.1 × (determines x.type q.0 ≡ true)) (λ q. IsObject q.1 × (determines (symbol h.symbol_of h.patterns) q.0 ≡ true)) h.others (λ q d. (d.0, ap (λ u. determines u q.0) (sym h.type_is) ∙ d.1)) h.determined) n A))

    -- the names of the sides are new
    not_first : (m : ℕ) (b : Statement) → look_up h.others m ≡ Some b → m ≢ x.first
    not_first m b l e = nothing (sym after_others.0 ∙ ap (look_up h.others) (sym e) ∙ l)

    not_second : (m : ℕ) (b : Statement) → look_up h.others m ≡ Some b → m ≢ x.second
    not_second m b l e = nothing (sym (none_before h.others ((x.first, plain (term_goal x.type)) ∷ []) x.second after_others.3.0) ∙ ap (look_up h.others) (sym e) ∙ l)

    sides_differ : x.second ≢ x.first
    sides_differ e =
        let r : (b : Statement) × (look_up (h.others ++ ((x.first, plain (term_goal x.type)) ∷ [])) x.first ≡ Some b) = some_last h.others (x.first, plain (term_goal x.type)) in
        nothing (sym after_others.3.0 ∙ ap (look_up (h.others ++ ((x.first, plain (term_goal x.type)) ∷ []))) e ∙ r.1)

    module _ (s t : Expression) (I : ℕ → ℕ → Option Expression) where
      K_other : (m k : ℕ) → m ≢ x.first → m ≢ x.second → with_sides x I s t m k ≡ I m k
      K_other m k f g = other m x.first (Some s) (cond (nat_eq m x.second) (Some t) (I m k)) f ∙ other m x.second (Some t) (I m k) g

      K_first : (k : ℕ) → with_sides x I s t x.first k ≡ Some s
      K_first k = same x.first x.first (Some s) (cond (nat_eq x.first x.second) (Some t) (I x.first k)) refl

      K_second : (k : ℕ) → with_sides x I s t x.second k ≡ Some t
      K_second k = other x.second x.first (Some s) (cond (nat_eq x.second x.second) (Some t) (I x.second k)) sides_differ ∙ same x.second x.second (Some t) (I x.second k) refl

      K_alike : (b : Statement) → StatementMentionsOnly (λ v. ⊥) (IsObjectPremise h.others) b → act_statement free (with_sides x I s t) b ≡ act_statement free I b
      K_alike b c = act_statement_agree b free free (with_sides x I s t) I
          (AllOfStatement_mono b (λ k. MentionsOnly (λ v. ⊥) (IsObjectPremise h.others)) (λ k. MentionsOnly (λ v. free v ≡ free v) (λ m k. with_sides x I s t m k ≡ I m k)) zero
          (λ k e u. MentionsOnly_mono e (λ v. ⊥) (λ v. free v ≡ free v) (IsObjectPremise h.others) (λ m k. with_sides x I s t m k ≡ I m k) (λ v i. refl) (λ m k i. K_other m k (not_first m i.0 i.1) (not_second m i.0 i.1)) u) c)

      K_type : instantiate (with_sides x I s t) x.type ≡ instantiate I x.type
      K_type = act_agree x.type free free (with_sides x I s t) I
          (MentionsOnly_mono x.type (λ v. ⊥) (λ v. free v ≡ free v) (IsObjectPremise h.others) (λ m k. with_sides x I s t m k ≡ I m k) (λ v i. refl) (λ m k i. K_other m k (not_first m i.0 i.1) (not_second m i.0 i.1))
          (subst (MentionsOnly (λ v. ⊥) (IsObjectPremise h.others)) (sym h.type_is) only_others))

      K_closed : HasClosedBodies I → ClosedAt zero s → ClosedAt zero t → HasClosedBodies (with_sides x I s t)
      K_closed cl cs ct m k e q = go (nat_eq m x.first) (nat_eq m x.second) q
        where
          go : (a b : Bool) → cond a (Some s) (cond b (Some t) (I m k)) ≡ Some e → ClosedAt k e
          go true b q = subst (ClosedAt k) (Some_injective s e q) (Closed_mono s zero k (omega arith) cs)
          go false true q = subst (ClosedAt k) (Some_injective t e q) (Closed_mono t zero k (omega arith) ct)
          go false false q = cl m k e q

      boundary_alike : (m : ℕ) (b : Statement) → look_up h.others m ≡ Some b → statement_at (with_sides x I s t) b ≡ statement_at I b
      boundary_alike m b l =
          let hd : PremisesHold (λ N y. Prim W.rules N [] y) [] h.others = first_premises (λ N y. Prim W.rules N [] y) [] h.others (side_premises x) holds in
          let r : (q : ℕ × Statement) × (m ≡ q.0) × (StatementMentionsOnly (λ v. ⊥) (IsObjectPremise h.others) q.1 × (look_up h.others q.0 ≡ Some q.1)) =
          premise_of (λ q. StatementMentionsOnly (λ v. ⊥) (IsObjectPremise h.others) q.1 × (look_up h.others q.0 ≡ Some q.1)) h.others m b
          (each_zip (λ q. StatementMentionsOnly (λ v. ⊥) (IsObjectPremise h.others) q.1) (λ q. look_up h.others q.0 ≡ Some q.1) (λ q. StatementMentionsOnly (λ v. ⊥) (IsObjectPremise h.others) q.1 × (look_up h.others q.0 ≡ Some q.1)) h.others (λ q y z. (y, z))
          (each_scoped W.rules h.others [] h.others (λ m b y. y) hd) (each_looked (λ N y. Prim W.rules N [] y) [] h.others hd)) l in
          K_alike b (subst (λ z. StatementMentionsOnly (λ v. ⊥) (IsObjectPremise h.others) z) (Some_injective r.0.1 b (sym r.2.1 ∙ ap (look_up h.others) (sym r.1) ∙ l)) r.2.0)

      K_given : (G : List (ℕ × Expression)) → Given W.rules M G I h.others → Given W.rules M G (with_sides x I s t) h.others
      K_given G g m b l =
          let r : IsObject b × (f : Expression) × (I m (domain_count b) ≡ Some f) × Prim W.rules M G (fill (statement_at I b) f) = g m b l in
          (r.0, r.1, K_other m (domain_count b) (not_first m b l) (not_second m b l) ∙ r.2, subst (λ z. Prim W.rules M G (fill z r.1)) (sym (boundary_alike m b l)) r.3)

    sides_given : (n : ℕ) (s t A : Expression) (I : ℕ → ℕ → Option Expression) → MatchFact W.rules M n h.others x.type A (Some I)
        → EqFact n (with_sides x I s t) ((h.others ++ ((x.first, plain (term_goal x.type)) ∷ [])) ++ ((x.second, plain (term_goal x.type)) ∷ [])) x.equations → EqualAt W.rules M n (term_goal A) s t
    sides_given n s t A I m y G bl ps pt =
        let T : List Rule = W.rules in
        let sc : ScopedTheory W.rules = scoped W.rules so in
        let K : ℕ → ℕ → Option Expression = with_sides x I s t in
        let one : ℕ × Statement = (x.first, plain (term_goal x.type)) in
        let two : ℕ × Statement = (x.second, plain (term_goal x.type)) in
        let tyA : Prim W.rules M G (plain (is_type A)) = parts W.rules (sequent M G (plain (term_goal A))) (boundary W.rules sc (sequent M G (plain (has_type s A))) ps) in
        let k : Prim W.rules M G (plain (equal_types A (instantiate I x.type))) × HasClosedBodies I × Given W.rules M G I h.others = m type_goal tt G bl tyA in
        let KP : instantiate K x.type ≡ instantiate I x.type = K_type s t I in
        let si : Prim W.rules M G (plain (has_type s (instantiate K x.type))) = subst (λ z. Prim W.rules M G (plain (has_type s z))) (sym KP) (do_convert_term ps k.0) in
        let ti : Prim W.rules M G (plain (has_type t (instantiate K x.type))) = subst (λ z. Prim W.rules M G (plain (has_type t z))) (sym KP) (do_convert_term pt k.0) in
        let cs : ClosedAt zero s = closed_term W.rules M G s A ps in
        let ct : ClosedAt zero t = closed_term W.rules M G t A pt in
        let g0 : Given W.rules M G K h.others = K_given s t I G k.2 in
        let g1 : Given W.rules M G K (h.others ++ (one ∷ [])) = given_last W.rules M G K h.others one s g0 tt (K_first s t I zero) si in
        let g2 : Given W.rules M G K ((h.others ++ (one ∷ [])) ++ (two ∷ [])) = given_last W.rules M G K (h.others ++ (one ∷ [])) two t g1 tt (K_second s t I zero) ti in
        let eqs : Each (Met W.rules M G K) x.equations = y G bl (given_instance W.rules M G K ((h.others ++ (one ∷ [])) ++ (two ∷ [])) (K_closed s t I k.1 cs ct) g2) in
        let hd : PremisesHold (λ N z. Prim W.rules N [] z) [] h.others = first_premises (λ N z. Prim W.rules N [] z) [] h.others (side_premises x) holds in
        let mets : Each (Met W.rules M G K) (h.others ++ side_premises x) = each_join (Met W.rules M G K) h.others (side_premises x)
        (each_map (λ q. look_up h.others q.0 ≡ Some q.1) (Met W.rules M G K) h.others (λ q l. inl (g0 q.0 q.1 l)) (each_looked (λ N z. Prim W.rules N [] z) [] h.others hd))
        (inl (tt, s, K_first s t I zero, si), (inl (tt, t, K_second s t I zero, ti), eqs)) in
        let e : Prim W.rules M G (plain (equal_terms (instantiate K (meta x.first no_terms)) (instantiate K (meta x.second no_terms)) (instantiate K x.type))) =
        equation_at W.rules so M G K x.rule (record { premises = x.premises; conclusion = term_equation_goal (meta x.first no_terms) (meta x.second no_terms) x.type }) h.is tt (subst (λ z. Each (Met W.rules M G K) z) (sym h.split) mets) in
        do_convert_equation
        (subst (λ z. Prim W.rules M G (plain (equal_terms s t z))) KP
        (subst (λ z. Prim W.rules M G (plain (equal_terms s z (instantiate K x.type)))) (bare_at K x.second zero no_terms t refl (K_second s t I zero) ct)
        (subst (λ z. Prim W.rules M G (plain (equal_terms z (instantiate K (meta x.second no_terms)) (instantiate K x.type)))) (bare_at K x.first zero no_terms s refl (K_first s t I zero) cs) e)))
        (do_symmetric_types k.0)

    by_rule : (n : ℕ) (s t A : Expression) (I : ℕ → ℕ → Option Expression) → MatchFact W.rules M n h.others x.type A (Some I) → Means W.rules M n (λ r. If r (EqualAt W.rules M n (term_goal A) s t)) (equations_hold (with_sides x I s t) x.equations)
    by_rule n s t A I m = means_map W.rules M n (EqFact n (with_sides x I s t) ((h.others ++ ((x.first, plain (term_goal x.type)) ∷ [])) ++ ((x.second, plain (term_goal x.type)) ∷ [])) x.equations) (EqualAt W.rules M n (term_goal A) s t) (equations_hold (with_sides x I s t) x.equations)
        (λ y. sides_given n s t A I m y) (equations_mean n (with_sides x I s t) ((h.others ++ ((x.first, plain (term_goal x.type)) ∷ [])) ++ ((x.second, plain (term_goal x.type)) ∷ [])) x.equations (drop_premises (λ N x. Prim W.rules N [] x) [] h.others (side_premises x) holds).3.3 h.equational)

  pub by_type_mean : (n : ℕ) (s t A : Expression) (xs : List Extensionality) → AllCompare W.rules xs → Means W.rules M n (λ r. If r (EqualAt W.rules M n (term_goal A) s t)) (by_normal_forms s t) → Means W.rules M n (λ r. If r (EqualAt W.rules M n (term_goal A) s t)) (by_type W xs s t A)
  by_type_mean n s t A [] h nf = nf
  by_type_mean n s t A (x ∷ xs) h nf = means_bind W.rules M n (MatchFact W.rules M n h.0.others x.type A) (λ r. If r (EqualAt W.rules M n (term_goal A) s t)) (match_pattern W x.premises x.type A)
      (λ found. if_found found (λ I. equations_hold (with_sides x I s t) x.equations) (λ z. by_type W xs s t A)) (type_match x h.0 n A) (λ o m. go (by_type_mean n s t A xs h.1 nf) o m)
    where
      go : Means W.rules M n (λ r. If r (EqualAt W.rules M n (term_goal A) s t)) (by_type W xs s t A) → (o : Option (ℕ → ℕ → Option Expression)) → MatchFact W.rules M n h.0.others x.type A o
          → Means W.rules M n (λ r. If r (EqualAt W.rules M n (term_goal A) s t)) (if_found o (λ I. equations_hold (with_sides x I s t) x.equations) (λ z. by_type W xs s t A))
      go ih None m = ih
      go ih (Some I) m = by_rule x h.0 n s t A I m
