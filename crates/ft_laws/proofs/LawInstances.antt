-- The two laws on instances of all of some further metavariables, in their stated form.
use Rattle.std.proofs.Common.{◌≡◌, ◌≢◌, ℕ, zero, Some, None, List, [], ◌∷◌, ◌⊎◌, inl, inr, refl, sym, ap, ◌∙◌, subst, subst₂}
use Rattle.std.proofs.lemmas.Option.{same_Some}
use Rattle.ft_common.proofs.Options.{none_some}
use Rattle.ft_common.proofs.Choices.{if_same, if_other}
use Rattle.ft_theory.specs.Expressions.{Expression, free, Arguments, no_arguments, with_body, dummy, act, MentionsOnly}
use Rattle.ft_theory.specs.Statements.{Statement, domain_count, fill, equate, IsObject, IsEquation}
use Rattle.ft_theory.specs.Rules.{look_up, Rule, instance_of, FitsPremises, filled_premises, equated_premises}
use Rattle.ft_theory.specs.Steps.{sequents, IsVariableFree, Step, Trees, none, more, Prim}
use Rattle.ft_theory.specs.Derivability.{FinitaryUpTo, DerUpTo}
use Rattle.ft_laws.specs.Laws.{Avoids, StatementAvoids, Each, LawInstantiate, LawEqualInstantiate}
use Rattle.std.specs.Prelude.{◌++◌}
use Rattle.ft_laws.proofs.Acts.{act_agree, MentionsOnly_mono, no_bodies, act_nothing}
use Rattle.ft_laws.proofs.Opens.{by_test}
use Rattle.ft_laws.proofs.Statements.{AllOfStatement_mono, act_statement_agree, act_statement_nothing, object-map, domain_count-map}
use Rattle.ft_laws.proofs.Commute.{ScopedTheory, act-fill}
use Rattle.ft_laws.proofs.Equal.{EqualStatements, reify}
use Rattle.ft_laws.specs.Instances.{StaysOrGiven, stays, given, EquationStaysOrHolds, stays_equation, given_equation, IsInstance, StaysOrGivenInBoth, both_stay, both_given, AreEqualInstances, statement_at}
use Rattle.ft_laws.proofs.Instances.{instantiate, equal_instances}
use Rattle.ft_laws.proofs.Rules.{given_object_premise, given_equation_premise, given_two_premises, closed_instance, has_closed_bodies, right_closed, instance_past}
use Rattle.ft_laws.proofs.Finitary.{scoped}
use Rattle.ft_laws.proofs.Admissible.{law, finitary_sound}

-- an instance of ms has nothing for another metavariable
instance_none : (ms : List (ℕ × Statement)) (a : Arguments) (m k : ℕ) → look_up ms m ≡ None → instance_of ms a m k ≡ None
instance_none [] a m k q = refl
instance_none (p ∷ ms) no_arguments m k q = refl
instance_none (p ∷ ms) (dummy n a) m k q = by_test (instance_of (p ∷ ms) (dummy n a) m k ≡ None) m p.0
    (λ e. none_some (sym q ∙ if_same m p.0 (Some p.1) (look_up ms m) e))
    (λ n. instance_none ms a m k (sym (if_other m p.0 (Some p.1) (look_up ms m) n) ∙ q))
instance_none (p ∷ ms) (with_body n e a) m k q = by_test (instance_of (p ∷ ms) (with_body n e a) m k ≡ None) m p.0
    (λ d. none_some (sym q ∙ if_same m p.0 (Some p.1) (look_up ms m) d))
    (λ d. instance_past m n k p ms e a d ∙ instance_none ms a m k (sym (if_other m p.0 (Some p.1) (look_up ms m) d) ∙ q))

avoid : (ms : List (ℕ × Statement)) (a : Arguments) (e : Expression) → Avoids ms e → act free (instance_of ms a) e ≡ e
avoid ms a e u = act_agree e free free (instance_of ms a) no_bodies (MentionsOnly_mono e (λ v. Unit {0}) (λ v. free v ≡ free v) (λ m k. look_up ms m ≡ None) (λ m k. instance_of ms a m k ≡ None) (λ v h. refl) (λ m k h. instance_none ms a m k h) u) ∙ act_nothing e

avoid_statement : (ms : List (ℕ × Statement)) (a : Arguments) (x : Statement) → StatementAvoids ms x → statement_at (instance_of ms a) x ≡ x
avoid_statement ms a x u = act_statement_agree x free free (instance_of ms a) no_bodies (AllOfStatement_mono x (λ l. MentionsOnly (λ v. Unit {0}) (λ m k. look_up ms m ≡ None)) (λ l. MentionsOnly (λ v. free v ≡ free v) (λ m k. instance_of ms a m k ≡ None)) zero (λ l e. MentionsOnly_mono e (λ v. Unit {0}) (λ v. free v ≡ free v) (λ m k. look_up ms m ≡ None) (λ m k. instance_of ms a m k ≡ None) (λ v h. refl) (λ m k h. instance_none ms a m k h)) u) ∙ act_statement_nothing x

-- a name is among ms, or among the others
cases : {A : Type 0} (ms M : List (ℕ × A)) (m : ℕ) (b : A) → look_up (ms ++ M) m ≡ Some b → (look_up ms m ≡ Some b) ⊎ ((look_up ms m ≡ None) × (look_up M m ≡ Some b))
cases [] M m b q = inr (refl, q)
cases (p ∷ ms) M m b q = by_test ((look_up (p ∷ ms) m ≡ Some b) ⊎ ((look_up (p ∷ ms) m ≡ None) × (look_up M m ≡ Some b))) m p.0
    (λ e. inl (if_same m p.0 (Some p.1) (look_up ms m) e ∙ sym (if_same m p.0 (Some p.1) (look_up (ms ++ M) m) e) ∙ q))
    (λ n. step n (cases ms M m b (sym (if_other m p.0 (Some p.1) (look_up (ms ++ M) m) n) ∙ q)))
  where
    step : m ≢ p.0 → (look_up ms m ≡ Some b) ⊎ ((look_up ms m ≡ None) × (look_up M m ≡ Some b)) → (look_up (p ∷ ms) m ≡ Some b) ⊎ ((look_up (p ∷ ms) m ≡ None) × (look_up M m ≡ Some b))
    step n (inl h) = inl (if_other m p.0 (Some p.1) (look_up ms m) n ∙ h)
    step n (inr h) = inr (if_other m p.0 (Some p.1) (look_up ms m) n ∙ h.0, h.1)

instance_derivable : (T : List Rule) (ms M : List (ℕ × Statement)) (G : List (ℕ × Expression)) (a : Arguments) → ((v : ℕ) (A : Expression) → look_up G v ≡ Some A → Avoids ms A) → ((m : ℕ) (b : Statement) → look_up M m ≡ Some b → StatementAvoids ms b)
    → FitsPremises ms a → Trees (Step T) (sequents M G (filled_premises (instance_of ms a) ms a)) → IsInstance T (ms ++ M) G M G (instance_of ms a)
instance_derivable T ms M G a av am f ts = record {
  closed = closed_instance T M G (instance_of ms a) ms a f ts;
  variables = λ v A q. q ∙ ap Some (sym (avoid ms a A (av v A q)));
  objects = λ m b q gl o. object m b gl o (cases ms M m b q);
  equations = λ m b q gl o. equation m b gl o (cases ms M m b q);
}
  where
    object : (m : ℕ) (b : Statement) → IsVariableFree b → IsObject b → (look_up ms m ≡ Some b) ⊎ ((look_up ms m ≡ None) × (look_up M m ≡ Some b)) → StaysOrGiven T M G (instance_of ms a) m b
    object m b gl o (inl q) =
        let r : (e : Expression) × (instance_of ms a m (domain_count b) ≡ Some e) × Prim T M G (fill (statement_at (instance_of ms a) b) e) = given_object_premise T M G (instance_of ms a) ms a m b f ts q o in
        given r.0 r.1 r.2
    object m b gl o (inr q) =
        let E : statement_at (instance_of ms a) b ≡ b = avoid_statement ms a b (am m b q.1) in
        stays (instance_none ms a m (domain_count b) q.0) (q.1 ∙ ap Some (sym E)) (subst IsVariableFree (sym E) gl)

    equation : (m : ℕ) (b : Statement) → IsVariableFree b → IsEquation b → (look_up ms m ≡ Some b) ⊎ ((look_up ms m ≡ None) × (look_up M m ≡ Some b)) → EquationStaysOrHolds T M G (instance_of ms a) m b
    equation m b gl o (inl q) = given_equation (given_equation_premise T M G (instance_of ms a) ms a m b f ts q o)
    equation m b gl o (inr q) =
        let E : statement_at (instance_of ms a) b ≡ b = avoid_statement ms a b (am m b q.1) in
        stays_equation (q.1 ∙ ap Some (sym E)) (subst IsVariableFree (sym E) gl)

equal_derivable : (T : List Rule) → ScopedTheory T → (ms M : List (ℕ × Statement)) (G : List (ℕ × Expression)) (a c : Arguments) → ((v : ℕ) (A : Expression) → look_up G v ≡ Some A → Avoids ms A) → ((m : ℕ) (b : Statement) → look_up M m ≡ Some b → StatementAvoids ms b)
    → FitsPremises ms a → FitsPremises ms c → Trees (Step T) (sequents M G (filled_premises (instance_of ms a) ms a)) → Trees (Step T) (sequents M G (equated_premises (instance_of ms a) ms a c)) → AreEqualInstances T (ms ++ M) G M G (instance_of ms a) (instance_of ms c)
equal_derivable T sc ms M G a c av am f f' ts es = record {
  left = instance_derivable T ms M G a av am f ts;
  closed = has_closed_bodies ms c (right_closed T sc M G (instance_of ms a) ms a c f f' es);
  objects = λ m b q gl o. place m b gl o (cases ms M m b q);
}
  where
    place : (m : ℕ) (b : Statement) → IsVariableFree b → IsObject b → (look_up ms m ≡ Some b) ⊎ ((look_up ms m ≡ None) × (look_up M m ≡ Some b)) → StaysOrGivenInBoth T M G (instance_of ms a) (instance_of ms c) m b
    place m b gl o (inl q) =
        let r : (e : Expression) × (instance_of ms a m (domain_count b) ≡ Some e) × Prim T M G (fill (statement_at (instance_of ms a) b) e) = given_object_premise T M G (instance_of ms a) ms a m b f ts q o in
        let s : (x y : Expression) × (instance_of ms a m (domain_count b) ≡ Some x) × (instance_of ms c m (domain_count b) ≡ Some y) × Prim T M G (equate (statement_at (instance_of ms a) b) x y) = given_two_premises T M G (instance_of ms a) ms a c m b f f' es q o in
        both_given s.0 s.1 s.2 s.3 (subst (λ e. Prim T M G (fill (statement_at (instance_of ms a) b) e)) (same_Some r.0 s.0 (sym r.1 ∙ s.2)) r.2) s.4
    place m b gl o (inr q) =
        let E : statement_at (instance_of ms a) b ≡ b = avoid_statement ms a b (am m b q.1) in
        both_stay (instance_none ms a m (domain_count b) q.0) (instance_none ms c m (domain_count b) q.0) (q.1 ∙ ap Some (sym E)) (subst IsVariableFree (sym E) gl) (avoid_statement ms c b (am m b q.1) ∙ sym E)

each_prim : (k : ℕ) (T : List Rule) → FinitaryUpTo k T → (M : List (ℕ × Statement)) (G : List (ℕ × Expression)) (xs : List Statement) → Each (λ y. DerUpTo k T M G y) xs → Trees (Step T) (sequents M G xs)
each_prim k T fin M G [] h = none
each_prim k T fin M G (x ∷ xs) h = more ((law k T fin M G x).0 h.0) (each_prim k T fin M G xs h.1)

pub law_instantiate : (k : ℕ) → LawInstantiate k
law_instantiate k T fin ms M G a x ap' av am f ts p =
    (law k T fin M G (statement_at (instance_of ms a) x)).1
    (instantiate T (scoped T (finitary_sound k T fin)) (ms ++ M) G M G (instance_of ms a) x (instance_derivable T ms M G a av am f (each_prim k T fin M G (filled_premises (instance_of ms a) ms a) ts)) ((law k T fin (ms ++ M) G x).0 p))

pub law_equal_instantiate : (k : ℕ) → LawEqualInstantiate k
law_equal_instantiate k T fin ms M G a c b h ap' av am f f' ts es o p =
    let sc : ScopedTheory T = scoped T (finitary_sound k T fin) in
    let e : EqualStatements T M G (statement_at (instance_of ms a) (fill b h)) (statement_at (instance_of ms c) (fill b h)) =
    equal_instances T sc (ms ++ M) G M G (instance_of ms a) (instance_of ms c) (fill b h) (equal_derivable T sc ms M G a c av am f f' (each_prim k T fin M G (filled_premises (instance_of ms a) ms a) ts) (each_prim k T fin M G (equated_premises (instance_of ms a) ms a c) es)) ((law k T fin (ms ++ M) G (fill b h)).0 p) in
    (law k T fin M G (equate (statement_at (instance_of ms a) b) (act free (instance_of ms a) h) (act free (instance_of ms c) h))).1
    (reify T sc M (domain_count b) G (statement_at (instance_of ms a) b) (statement_at (instance_of ms c) b) (act free (instance_of ms a) h) (act free (instance_of ms c) h) (domain_count-map b (λ l. act free (instance_of ms a)) zero) (domain_count-map b (λ l. act free (instance_of ms c)) zero) (object-map b (λ l. act free (instance_of ms a)) zero o) (object-map b (λ l. act free (instance_of ms c)) zero o)
    (subst₂ (λ x y. EqualStatements T M G x y) (act-fill b free (instance_of ms a) h) (act-fill b free (instance_of ms c) h) e))
