-- Rules at instances: arguments move between equal boundaries, and what an instance has for each premise.
use Rattle.std.proofs.Common.{◌≡◌, ◌≢◌, ℕ, zero, suc, ◌+◌, Bool, true, false, cond, nat_eq, Option, Some, List, [], ◌∷◌, ◌⊎◌, inl, inr, refl, sym, ap, ap₂, ◌∙◌, subst, subst₂, arith, eqb-true, append_assoc}
use Rattle.std.proofs.lemmas.Option.{same_Some}
use Rattle.std.proofs.lemmas.Bool.{eq-eqb, ne_eqb}
use Rattle.ft_common.proofs.Booleans.{and_right}
use Rattle.ft_common.proofs.Options.{none_some}
use Rattle.ft_common.proofs.Choices.{if_same, if_other}
use Rattle.ft_theory.specs.Expressions.{Expression, bound, free, Arguments, no_arguments, with_body, dummy, act, ClosedAt, ClosedArguments, open_at}
use Rattle.ft_theory.specs.Statements.{Claim, is_type, has_type, equal_types, equal_terms, type_goal, term_goal, type_equation_goal, term_equation_goal, Statement, plain, abstracted, opened, domain_count, fill_goal, fill, equate, IsObject, IsEquation}
use Rattle.ft_theory.specs.Rules.{look_up, Rule, instance_of, FitsPremises, filled_premises, equated_premises}
use Rattle.ft_theory.specs.Steps.{sequent, sequents, Step, Trees, none, more, Prim}
use Rattle.ft_theory.specs.Derivability.{PremisesHold}
use Rattle.std.specs.Prelude.{◌++◌, ◌&&◌}
use Rattle.ft_laws.proofs.Acts.{ClosedBody}
use Rattle.ft_laws.proofs.Opens.{by_test}
use Rattle.ft_laws.proofs.Steps.{do_symmetric_types, do_symmetric_terms, do_convert_equation}
use Rattle.ft_laws.proofs.Scope.{scope, Fine, AllOfStatement_head, Fine-filled_premises}
use Rattle.ft_laws.proofs.Statements.{fill-map, domain_count-map, object-opened, object-map, equation-map, equation-opened}
use Rattle.ft_laws.proofs.Commute.{ScopedTheory, not_both}
use Rattle.ft_laws.proofs.Traverse.{fine_all}
use Rattle.ft_laws.proofs.Substitute.{Extends}
use Rattle.ft_laws.proofs.Peel.{domain_count-fill}
use Rattle.ft_laws.proofs.Equal.{EqualClaims, EqualStatements, grow, equal_here, equal_plain, equal_opened, equal_abstracted, paired_equal, types_of, transport, reify_claim}
use Rattle.ft_laws.proofs.Relate.{head_here, equation_here_claim}
use Rattle.ft_laws.proofs.EqualTerms.{itself, right_side}
use Rattle.ft_laws.specs.Syntax.{HasClosedBodies}
use Rattle.ft_laws.specs.Instances.{given, given_equation, IsInstance, both_given, AreEqualInstances, statement_at}
use Rattle.ft_laws.proofs.Instances.{equal_instances}

-- a boundary equal to another, with one head
pub with_head : (T : List Rule) → ScopedTheory T → (M : List (ℕ × Statement)) (n : ℕ) (G : List (ℕ × Expression)) (b c y : Statement) (h k : Expression) → domain_count b ≡ n → domain_count c ≡ n → domain_count y ≡ n → IsObject b → IsObject c → IsObject y → EqualStatements T M G b c → EqualStatements T M G (fill b h) (fill y k) → EqualStatements T M G (fill b h) (fill c k)
with_head T sc M n G (plain b) (plain c) (plain y) h k z z' z'' o o' o'' e f =
    equal_plain T sc M G (fill_goal b h) (fill_goal c k) (head_here T M G b c h k o o' (equal_here T M G (plain b) (plain c) e) (reify_claim T M G b y h k o o'' (equal_here T M G (plain (fill_goal b h)) (plain (fill_goal y k)) f)))
with_head T sc M n G (plain b) (abstracted C c) y h k z z' z'' o o' o'' e f = absurd (equal_here T M G (plain b) (abstracted C c) e)
with_head T sc M n G (plain b) (plain c) (abstracted Y y) h k z z' z'' o o' o'' e f = absurd (equal_here T M G (plain (fill_goal b h)) (abstracted Y (fill y k)) f)
with_head T sc M n G (abstracted B b) (plain c) y h k z z' z'' o o' o'' e f = absurd (equal_here T M G (abstracted B b) (plain c) e)
with_head T sc M n G (abstracted B b) (abstracted C c) (plain y) h k z z' z'' o o' o'' e f = absurd (equal_here T M G (abstracted B (fill b h)) (plain (fill_goal y k)) f)
with_head T sc M zero G (abstracted B b) (abstracted C c) (abstracted Y y) h k z z' z'' o o' o'' e f = absurd (grind (arith, z))
with_head T sc M (suc n) G (abstracted B b) (abstracted C c) (abstracted Y y) h k z z' z'' o o' o'' e f =
    equal_abstracted T sc M G B C (fill b h) (fill c k) (equal_here T M G (abstracted B b) (abstracted C c) e)
    (λ K s t g r.
    let D : domain_count y ≡ domain_count c = omega (arith, z', z'') in
    let w : EqualStatements T M K (fill (opened s (abstracted B b)) (open_at (domain_count b + zero) s h)) (fill (opened t (abstracted Y y)) (open_at (domain_count c + zero) t k)) =
    subst₂ (λ u v. EqualStatements T M K u v) (fill-map b (λ l. open_at l s) zero h) (fill-map y (λ l. open_at l t) zero k ∙ ap (λ l. fill (opened t (abstracted Y y)) (open_at (l + zero) t k)) D) (equal_opened T sc M G K B Y (fill b h) (fill y k) s t f g r) in
    subst₂ (λ u v. EqualStatements T M K u v) (sym (fill-map b (λ l. open_at l s) zero h)) (sym (fill-map c (λ l. open_at l t) zero k))
    (with_head T sc M n K (opened s (abstracted B b)) (opened t (abstracted C c)) (opened t (abstracted Y y)) (open_at (domain_count b + zero) s h) (open_at (domain_count c + zero) t k)
    (domain_count-map b (λ l. open_at l s) zero ∙ omega (arith, z)) (domain_count-map c (λ l. open_at l t) zero ∙ omega (arith, z')) (domain_count-map y (λ l. open_at l t) zero ∙ omega (arith, z''))
    (object-opened (abstracted B b) s o) (object-opened (abstracted C c) t o') (object-opened (abstracted Y y) t o'') (equal_opened T sc M G K B C b c s t e g r) w))

pub with_equation : (T : List Rule) → ScopedTheory T → (M : List (ℕ × Statement)) (n : ℕ) (G : List (ℕ × Expression)) (b c : Statement) (h k : Expression) → domain_count b ≡ n → IsEquation b → IsEquation c → EqualStatements T M G b c → EqualStatements T M G (fill b h) (fill c k)
with_equation T sc M n G (plain b) (plain c) h k z o o' e = equal_plain T sc M G (fill_goal b h) (fill_goal c k) (equation_here_claim T M G b c h k o o' (equal_here T M G (plain b) (plain c) e))
with_equation T sc M n G (plain b) (abstracted C c) h k z o o' e = absurd (equal_here T M G (plain b) (abstracted C c) e)
with_equation T sc M n G (abstracted B b) (plain c) h k z o o' e = absurd (equal_here T M G (abstracted B b) (plain c) e)
with_equation T sc M zero G (abstracted B b) (abstracted C c) h k z o o' e = absurd (grind (arith, z))
with_equation T sc M (suc n) G (abstracted B b) (abstracted C c) h k z o o' e =
    equal_abstracted T sc M G B C (fill b h) (fill c k) (equal_here T M G (abstracted B b) (abstracted C c) e)
    (λ K s t g r.
    subst₂ (λ u v. EqualStatements T M K u v) (sym (fill-map b (λ l. open_at l s) zero h)) (sym (fill-map c (λ l. open_at l t) zero k))
    (with_equation T sc M n K (opened s (abstracted B b)) (opened t (abstracted C c)) (open_at (domain_count b + zero) s h) (open_at (domain_count c + zero) t k)
    (domain_count-map b (λ l. open_at l s) zero ∙ omega (arith, z)) (equation-opened (abstracted B b) s o) (equation-opened (abstracted C c) t o') (equal_opened T sc M G K B C b c s t e g r)))

-- the same head at the equal boundary
pub move_head : (T : List Rule) → ScopedTheory T → (M : List (ℕ × Statement)) (G : List (ℕ × Expression)) (b c : Statement) (h : Expression) → domain_count c ≡ domain_count b → (IsObject b × IsObject c) ⊎ (IsEquation b × IsEquation c) → EqualStatements T M G b c → Prim T M G (fill b h) → Prim T M G (fill c h)
move_head T sc M G b c h d (inl o) e p = transport T sc M (domain_count b) G (fill b h) (fill c h) (domain_count-fill b h) (with_head T sc M (domain_count b) G b c b h h refl d refl o.0 o.1 o.0 e (itself T sc M G (fill b h) p)) p
move_head T sc M G b c h d (inr o) e p = transport T sc M (domain_count b) G (fill b h) (fill c h) (domain_count-fill b h) (with_equation T sc M (domain_count b) G b c h h refl o.0 o.1 e) p

-- equal statements the other way round
symmetric_claims : (T : List Rule) → ScopedTheory T → (M : List (ℕ × Statement)) (G : List (ℕ × Expression)) (c d : Claim) → EqualClaims T M G c d → EqualClaims T M G d c
symmetric_claims T sc M G (is_type A) (is_type B) e = do_symmetric_types e
symmetric_claims T sc M G (has_type t A) (has_type u B) e = (do_symmetric_types e.0, do_convert_equation (do_symmetric_terms e.1) e.0)
symmetric_claims T sc M G (equal_types A B) (equal_types C D) e = (do_symmetric_types e.0, do_symmetric_types e.1)
symmetric_claims T sc M G (equal_terms s t A) (equal_terms u v B) e = (do_symmetric_types e.0, do_convert_equation (do_symmetric_terms e.1) e.0, do_convert_equation (do_symmetric_terms e.2) e.0)
symmetric_claims T sc M G type_goal type_goal e = tt
symmetric_claims T sc M G (term_goal A) (term_goal B) e = do_symmetric_types e
symmetric_claims T sc M G (type_equation_goal A B) (type_equation_goal C D) e = (do_symmetric_types e.0, do_symmetric_types e.1)
symmetric_claims T sc M G (term_equation_goal s t A) (term_equation_goal u v B) e = (do_symmetric_types e.0, do_convert_equation (do_symmetric_terms e.1) e.0, do_convert_equation (do_symmetric_terms e.2) e.0)
symmetric_claims T sc M G _ _ e = absurd e

pub symmetric_equal : (T : List Rule) → ScopedTheory T → (M : List (ℕ × Statement)) (n : ℕ) (G : List (ℕ × Expression)) (x y : Statement) → domain_count x ≡ n → EqualStatements T M G x y → EqualStatements T M G y x
symmetric_equal T sc M n G (plain c) (plain d) z e = equal_plain T sc M G d c (symmetric_claims T sc M G c d (equal_here T M G (plain c) (plain d) e))
symmetric_equal T sc M n G (plain c) (abstracted B y) z e = absurd (equal_here T M G (plain c) (abstracted B y) e)
symmetric_equal T sc M n G (abstracted A x) (plain d) z e = absurd (equal_here T M G (abstracted A x) (plain d) e)
symmetric_equal T sc M zero G (abstracted A x) (abstracted B y) z e = absurd (grind (arith, z))
symmetric_equal T sc M (suc n) G (abstracted A x) (abstracted B y) z e =
    let AB : Prim T M G (plain (equal_types A B)) = equal_here T M G (abstracted A x) (abstracted B y) e in
    equal_abstracted T sc M G B A y x (do_symmetric_types AB)
    (λ K s t g r.
    let AK : Prim T M K (plain (equal_types A B)) = grow T sc M G K (plain (equal_types A B)) g AB in
    let st : Prim T M K (plain (equal_terms s t B)) = paired_equal T M K s t B r (types_of T sc M K A B AK).1 in
    symmetric_equal T sc M n K (opened t (abstracted A x)) (opened s (abstracted B y)) (domain_count-map x (λ l. open_at l t) zero ∙ omega (arith, z))
    (equal_opened T sc M G K A B x y t s e g (inr (do_convert_equation (do_symmetric_terms st) (do_symmetric_types AK)))))

-- what an instance has for a premise
pub found : {A : Type 0} (m : ℕ) (p : ℕ × A) (ps : List (ℕ × A)) (b : A) → m ≡ p.0 → look_up (p ∷ ps) m ≡ Some b → p.1 ≡ b
found m p ps b e q = same_Some p.1 b (sym (if_same m p.0 (Some p.1) (look_up ps m) e) ∙ q)

pub past : {A : Type 0} (m : ℕ) (p : ℕ × A) (ps : List (ℕ × A)) (b : A) → m ≢ p.0 → look_up (p ∷ ps) m ≡ Some b → look_up ps m ≡ Some b
past m p ps b n q = sym (if_other m p.0 (Some p.1) (look_up ps m) n) ∙ q

pub instance_past : (m n k : ℕ) (p : ℕ × Statement) (ps : List (ℕ × Statement)) (e : Expression) (a : Arguments) → m ≢ p.0 → instance_of (p ∷ ps) (with_body n e a) m k ≡ instance_of ps a m k
instance_past m n k p ps e a d = ap (λ b. cond (b && nat_eq k n) (Some e) (instance_of ps a m k)) (ne_eqb m p.0 d)

instance_found : (m n k : ℕ) (p : ℕ × Statement) (ps : List (ℕ × Statement)) (e : Expression) (a : Arguments) → m ≡ p.0 → k ≡ n → instance_of (p ∷ ps) (with_body n e a) m k ≡ Some e
instance_found m n k p ps e a d d' = ap₂ (λ b c. cond (b && c) (Some e) (instance_of ps a m k)) (eq-eqb m p.0 d) (eq-eqb k n d')

pub look_before : {A : Type 0} (ps qs : List (ℕ × A)) (m : ℕ) (b : A) → look_up ps m ≡ Some b → look_up (ps ++ qs) m ≡ Some b
look_before [] qs m b q = none_some q
look_before (p ∷ ps) qs m b q = by_test (look_up ((p ∷ ps) ++ qs) m ≡ Some b) m p.0
    (λ e. if_same m p.0 (Some p.1) (look_up (ps ++ qs) m) e ∙ sym (if_same m p.0 (Some p.1) (look_up ps m) e) ∙ q)
    (λ n. if_other m p.0 (Some p.1) (look_up (ps ++ qs) m) n ∙ look_before ps qs m b (past m p ps b n q))

pub given_object_premise : (T : List Rule) (N : List (ℕ × Statement)) (H : List (ℕ × Expression)) (i : ℕ → ℕ → Option Expression) (ps : List (ℕ × Statement)) (a : Arguments) (m : ℕ) (b : Statement) → FitsPremises ps a → Trees (Step T) (sequents N H (filled_premises i ps a)) → look_up ps m ≡ Some b → IsObject b
    → (e : Expression) × (instance_of ps a m (domain_count b) ≡ Some e) × Prim T N H (fill (statement_at i b) e)
given_object_premise T N H i [] a m b f ts q o = none_some q
given_object_premise T N H i (p ∷ ps) no_arguments m b f ts q o = absurd f
given_object_premise T N H i (p ∷ ps) (with_body n e a) m b f (more t ts) q o = by_test ((e' : Expression) × (instance_of (p ∷ ps) (with_body n e a) m (domain_count b) ≡ Some e') × Prim T N H (fill (statement_at i b) e')) m p.0
    (λ d.
    let B : p.1 ≡ b = found m p ps b d q in
    (e, instance_found m n (domain_count b) p ps e a d (sym (ap domain_count B) ∙ sym f.0), subst (λ z. Prim T N H (fill (statement_at i z) e)) B t))
    (λ d.
    let r : (e' : Expression) × (instance_of ps a m (domain_count b) ≡ Some e') × Prim T N H (fill (statement_at i b) e') = given_object_premise T N H i ps a m b f.2 ts (past m p ps b d q) o in
    (r.0, instance_past m n (domain_count b) p ps e a d ∙ r.1, r.2))
given_object_premise T N H i (p ∷ ps) (dummy n a) m b f (more t ts) q o = by_test ((e' : Expression) × (instance_of (p ∷ ps) (dummy n a) m (domain_count b) ≡ Some e') × Prim T N H (fill (statement_at i b) e')) m p.0
    (λ d. absurd (not_both b o (subst IsEquation (found m p ps b d q) f.1)))
    (λ d. given_object_premise T N H i ps a m b f.2 ts (past m p ps b d q) o)

pub given_equation_premise : (T : List Rule) (N : List (ℕ × Statement)) (H : List (ℕ × Expression)) (i : ℕ → ℕ → Option Expression) (ps : List (ℕ × Statement)) (a : Arguments) (m : ℕ) (b : Statement) → FitsPremises ps a → Trees (Step T) (sequents N H (filled_premises i ps a)) → look_up ps m ≡ Some b → IsEquation b → Prim T N H (fill (statement_at i b) (bound zero))
given_equation_premise T N H i [] a m b f ts q o = none_some q
given_equation_premise T N H i (p ∷ ps) no_arguments m b f ts q o = absurd f
given_equation_premise T N H i (p ∷ ps) (with_body n e a) m b f (more t ts) q o = by_test (Prim T N H (fill (statement_at i b) (bound zero))) m p.0
    (λ d. absurd (not_both b (subst IsObject (found m p ps b d q) f.1) o))
    (λ d. given_equation_premise T N H i ps a m b f.2 ts (past m p ps b d q) o)
given_equation_premise T N H i (p ∷ ps) (dummy n a) m b f (more t ts) q o = by_test (Prim T N H (fill (statement_at i b) (bound zero))) m p.0
    (λ d. subst (λ z. Prim T N H (fill (statement_at i z) (bound zero))) (found m p ps b d q) t)
    (λ d. given_equation_premise T N H i ps a m b f.2 ts (past m p ps b d q) o)

pub given_two_premises : (T : List Rule) (N : List (ℕ × Statement)) (H : List (ℕ × Expression)) (i : ℕ → ℕ → Option Expression) (ps : List (ℕ × Statement)) (a c : Arguments) (m : ℕ) (b : Statement) → FitsPremises ps a → FitsPremises ps c → Trees (Step T) (sequents N H (equated_premises i ps a c)) → look_up ps m ≡ Some b → IsObject b
    → (e f : Expression) × (instance_of ps a m (domain_count b) ≡ Some e) × (instance_of ps c m (domain_count b) ≡ Some f) × Prim T N H (equate (statement_at i b) e f)
given_two_premises T N H i [] a c m b f f' ts q o = none_some q
given_two_premises T N H i (p ∷ ps) no_arguments c m b f f' ts q o = absurd f
given_two_premises T N H i (p ∷ ps) (with_body n e a) no_arguments m b f f' ts q o = absurd f'
given_two_premises T N H i (p ∷ ps) (with_body n e a) (dummy l c) m b f f' ts q o = absurd (not_both p.1 f.1 f'.1)
given_two_premises T N H i (p ∷ ps) (dummy n a) no_arguments m b f f' ts q o = absurd f'
given_two_premises T N H i (p ∷ ps) (dummy n a) (with_body l e c) m b f f' ts q o = absurd (not_both p.1 f'.1 f.1)
given_two_premises T N H i (p ∷ ps) (with_body n e a) (with_body l h c) m b f f' (more t ts) q o = by_test ((x y : Expression) × (instance_of (p ∷ ps) (with_body n e a) m (domain_count b) ≡ Some x) × (instance_of (p ∷ ps) (with_body l h c) m (domain_count b) ≡ Some y) × Prim T N H (equate (statement_at i b) x y)) m p.0
    (λ d.
    let B : p.1 ≡ b = found m p ps b d q in
    (e, h, instance_found m n (domain_count b) p ps e a d (sym (ap domain_count B) ∙ sym f.0), instance_found m l (domain_count b) p ps h c d (sym (ap domain_count B) ∙ sym f'.0), subst (λ z. Prim T N H (equate (statement_at i z) e h)) B t))
    (λ d.
    let r : (x y : Expression) × (instance_of ps a m (domain_count b) ≡ Some x) × (instance_of ps c m (domain_count b) ≡ Some y) × Prim T N H (equate (statement_at i b) x y) = given_two_premises T N H i ps a c m b f.2 f'.2 ts (past m p ps b d q) o in
    (r.0, r.1, instance_past m n (domain_count b) p ps e a d ∙ r.2, instance_past m l (domain_count b) p ps h c d ∙ r.3, r.4))
given_two_premises T N H i (p ∷ ps) (dummy n a) (dummy l c) m b f f' ts q o = by_test ((x y : Expression) × (instance_of (p ∷ ps) (dummy n a) m (domain_count b) ≡ Some x) × (instance_of (p ∷ ps) (dummy l c) m (domain_count b) ≡ Some y) × Prim T N H (equate (statement_at i b) x y)) m p.0
    (λ d. absurd (not_both b o (subst IsEquation (found m p ps b d q) f.1)))
    (λ d. given_two_premises T N H i ps a c m b f.2 f'.2 ts (past m p ps b d q) o)

-- the bodies of an instance are closed
closed_choice : (b : Bool) (e : Expression) (o : Option Expression) (k : ℕ) → (b ≡ true → ClosedAt k e) → ClosedBody o k → ClosedBody (cond b (Some e) o) k
closed_choice true e o k h c = h refl
closed_choice false e o k h c = c

closed_bodies : (ps : List (ℕ × Statement)) (a : Arguments) (m k : ℕ) → ClosedArguments zero a → ClosedBody (instance_of ps a m k) k
closed_bodies [] a m k c = tt
closed_bodies (p ∷ ps) no_arguments m k c = tt
closed_bodies (p ∷ ps) (with_body n e a) m k c = closed_choice (nat_eq m p.0 && nat_eq k n) e (instance_of ps a m k) k
    (λ h. subst (λ l. ClosedAt l e) (omega arith ∙ sym (eqb-true k n (and_right (nat_eq m p.0) (nat_eq k n) h))) c.0) (closed_bodies ps a m k c.1)
closed_bodies (p ∷ ps) (dummy n a) m k c = closed_bodies ps a m k c

pub has_closed_bodies : (ps : List (ℕ × Statement)) (a : Arguments) → ClosedArguments zero a → HasClosedBodies (instance_of ps a)
has_closed_bodies ps a c m k e q = subst (λ o. ClosedBody o k) q (closed_bodies ps a m k c)

pub closed_instance : (T : List Rule) (N : List (ℕ × Statement)) (H : List (ℕ × Expression)) (i : ℕ → ℕ → Option Expression) (ps : List (ℕ × Statement)) (a : Arguments) → FitsPremises ps a → Trees (Step T) (sequents N H (filled_premises i ps a)) → HasClosedBodies (instance_of ps a)
closed_instance T N H i ps a f ts = has_closed_bodies ps a (Fine-filled_premises N H i ps a f (fine_all T (sequents N H (filled_premises i ps a)) ts)).0

-- the instance of a whole list of premises, for what is derived over part of them
pub whole_instance : (T : List Rule) (M : List (ℕ × Statement)) (N : List (ℕ × Statement)) (H : List (ℕ × Expression)) (ps : List (ℕ × Statement)) (a : Arguments) → Extends M ps → FitsPremises ps a → Trees (Step T) (sequents N H (filled_premises (instance_of ps a) ps a)) → IsInstance T M [] N H (instance_of ps a)
whole_instance T M N H ps a w f ts = record {
  closed = closed_instance T N H (instance_of ps a) ps a f ts;
  variables = λ v A q. none_some q;
  objects = λ m b q gl o.
      let r : (e : Expression) × (instance_of ps a m (domain_count b) ≡ Some e) × Prim T N H (fill (statement_at (instance_of ps a) b) e) = given_object_premise T N H (instance_of ps a) ps a m b f ts (w m b q) o in
      given r.0 r.1 r.2;
  equations = λ m b q gl o. given_equation (given_equation_premise T N H (instance_of ps a) ps a m b f ts (w m b q) o);
}

-- the right arguments of equal instances are closed
pub right_closed : (T : List Rule) → ScopedTheory T → (N : List (ℕ × Statement)) (H : List (ℕ × Expression)) (i : ℕ → ℕ → Option Expression) (ps : List (ℕ × Statement)) (a c : Arguments) → FitsPremises ps a → FitsPremises ps c → Trees (Step T) (sequents N H (equated_premises i ps a c)) → ClosedArguments zero c
right_closed T sc N H i [] a no_arguments f f' ts = tt
right_closed T sc N H i [] a (with_body n e c) f f' ts = absurd f'
right_closed T sc N H i [] a (dummy n c) f f' ts = absurd f'
right_closed T sc N H i (p ∷ ps) no_arguments c f f' ts = absurd f
right_closed T sc N H i (p ∷ ps) (with_body n e a) no_arguments f f' ts = absurd f'
right_closed T sc N H i (p ∷ ps) (with_body n e a) (dummy l c) f f' ts = absurd (not_both p.1 f.1 f'.1)
right_closed T sc N H i (p ∷ ps) (dummy n a) no_arguments f f' ts = absurd f'
right_closed T sc N H i (p ∷ ps) (dummy n a) (with_body l h c) f f' ts = absurd (not_both p.1 f'.1 f.1)
right_closed T sc N H i (p ∷ ps) (with_body n e a) (with_body l h c) f f' (more t ts) =
    let o : IsObject (statement_at i p.1) = object-map p.1 (λ k. act free i) zero f.1 in
    let w : Prim T N H (fill (statement_at i p.1) h) = right_side T sc N (domain_count (statement_at i p.1)) H (statement_at i p.1) e h refl o t in
    let q : ClosedAt (domain_count (statement_at i p.1) + zero) h = (AllOfStatement_head (statement_at i p.1) (Fine N H) zero h o (scope T (sequent N H (fill (statement_at i p.1) h)) w)).0 in
    (subst (λ k. ClosedAt (k + zero) h) (domain_count-map p.1 (λ k. act free i) zero ∙ sym f'.0) q, right_closed T sc N H i ps a c f.2 f'.2 ts)
right_closed T sc N H i (p ∷ ps) (dummy n a) (dummy l c) f f' ts = right_closed T sc N H i ps a c f.2 f'.2 ts

pub whole_pair : (T : List Rule) → ScopedTheory T → (M : List (ℕ × Statement)) (N : List (ℕ × Statement)) (H : List (ℕ × Expression)) (ps : List (ℕ × Statement)) (a c : Arguments) → Extends M ps → FitsPremises ps a → FitsPremises ps c → Trees (Step T) (sequents N H (filled_premises (instance_of ps a) ps a)) → Trees (Step T) (sequents N H (equated_premises (instance_of ps a) ps a c)) → AreEqualInstances T M [] N H (instance_of ps a) (instance_of ps c)
whole_pair T sc M N H ps a c w f f' ts es = record {
  left = whole_instance T M N H ps a w f ts;
  closed = has_closed_bodies ps c (right_closed T sc N H (instance_of ps a) ps a c f f' es);
  objects = λ m b q gl o.
      let r : (e : Expression) × (instance_of ps a m (domain_count b) ≡ Some e) × Prim T N H (fill (statement_at (instance_of ps a) b) e) = given_object_premise T N H (instance_of ps a) ps a m b f ts (w m b q) o in
      let s : (x y : Expression) × (instance_of ps a m (domain_count b) ≡ Some x) × (instance_of ps c m (domain_count b) ≡ Some y) × Prim T N H (equate (statement_at (instance_of ps a) b) x y) = given_two_premises T N H (instance_of ps a) ps a c m b f f' es (w m b q) o in
      let if_same : r.0 ≡ s.0 = same_Some r.0 s.0 (sym r.1 ∙ s.2) in
      both_given s.0 s.1 s.2 s.3 (subst (λ e. Prim T N H (fill (statement_at (instance_of ps a) b) e)) if_same r.2) s.4;
}

-- the right arguments of equal instances are derivable at their own boundaries, premise by premise
pub right_premises : (T : List Rule) → ScopedTheory T → (N : List (ℕ × Statement)) (H : List (ℕ × Expression)) (all : List (ℕ × Statement)) (wa wc : Arguments) → FitsPremises all wa → FitsPremises all wc → Trees (Step T) (sequents N H (filled_premises (instance_of all wa) all wa)) → Trees (Step T) (sequents N H (equated_premises (instance_of all wa) all wa wc))
    → (M ps : List (ℕ × Statement)) (a c : Arguments) → PremisesHold (λ M x. Prim T M [] x) M ps → Extends (M ++ ps) all → FitsPremises ps a → FitsPremises ps c → Trees (Step T) (sequents N H (filled_premises (instance_of all wa) ps a)) → Trees (Step T) (sequents N H (equated_premises (instance_of all wa) ps a c)) → Trees (Step T) (sequents N H (filled_premises (instance_of all wc) ps c))
right_premises T sc N H all wa wc F F' TS ES M [] a c h w f f' ts es = none
right_premises T sc N H all wa wc F F' TS ES M (p ∷ ps) no_arguments c h w f f' ts es = absurd f
right_premises T sc N H all wa wc F F' TS ES M (p ∷ ps) (with_body n e a) no_arguments h w f f' ts es = absurd f'
right_premises T sc N H all wa wc F F' TS ES M (p ∷ ps) (with_body n e a) (dummy l c) h w f f' ts es = absurd (not_both p.1 f.1 f'.1)
right_premises T sc N H all wa wc F F' TS ES M (p ∷ ps) (dummy n a) no_arguments h w f f' ts es = absurd f'
right_premises T sc N H all wa wc F F' TS ES M (p ∷ ps) (dummy n a) (with_body l k c) h w f f' ts es = absurd (not_both p.1 f'.1 f.1)
right_premises T sc N H all wa wc F F' TS ES M (p ∷ ps) (with_body n e a) (with_body l k c) h w f f' (more t ts) (more u es) =
    let bi : Statement = statement_at (instance_of all wa) p.1 in
    let bj : Statement = statement_at (instance_of all wc) p.1 in
    let oi : IsObject bi = object-map p.1 (λ k. act free (instance_of all wa)) zero f.1 in
    let oj : IsObject bj = object-map p.1 (λ k. act free (instance_of all wc)) zero f.1 in
    let q : EqualStatements T N H bi bj = equal_instances T sc M [] N H (instance_of all wa) (instance_of all wc) p.1 (whole_pair T sc M N H all wa wc (λ m b r. w m b (look_before M (p ∷ ps) m b r)) F F' TS ES) h.2 in
    more (move_head T sc N H bi bj k (domain_count-map p.1 (λ k. act free (instance_of all wc)) zero ∙ sym (domain_count-map p.1 (λ k. act free (instance_of all wa)) zero)) (inl (oi, oj)) q (right_side T sc N (domain_count bi) H bi e k refl oi u))
    (right_premises T sc N H all wa wc F F' TS ES (M ++ (p ∷ [])) ps a c h.3 (λ m b r. w m b (ap (λ z. look_up z m) (sym (append_assoc M (p ∷ []) ps)) ∙ r)) f.2 f'.2 ts es)
right_premises T sc N H all wa wc F F' TS ES M (p ∷ ps) (dummy n a) (dummy l c) h w f f' (more t ts) es =
    let bi : Statement = statement_at (instance_of all wa) p.1 in
    let bj : Statement = statement_at (instance_of all wc) p.1 in
    let oi : IsEquation bi = equation-map p.1 (λ k. act free (instance_of all wa)) zero f.1 in
    let oj : IsEquation bj = equation-map p.1 (λ k. act free (instance_of all wc)) zero f.1 in
    let q : EqualStatements T N H bi bj = equal_instances T sc M [] N H (instance_of all wa) (instance_of all wc) p.1 (whole_pair T sc M N H all wa wc (λ m b r. w m b (look_before M (p ∷ ps) m b r)) F F' TS ES) h.2 in
    more (move_head T sc N H bi bj (bound zero) (domain_count-map p.1 (λ k. act free (instance_of all wc)) zero ∙ sym (domain_count-map p.1 (λ k. act free (instance_of all wa)) zero)) (inr (oi, oj)) q t)
    (right_premises T sc N H all wa wc F F' TS ES (M ++ (p ∷ [])) ps a c h.3 (λ m b r. w m b (ap (λ z. look_up z m) (sym (append_assoc M (p ∷ []) ps)) ∙ r)) f.2 f'.2 ts es)
