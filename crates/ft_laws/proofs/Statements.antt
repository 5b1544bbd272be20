-- The laws of expressions, on claims and statements.
use Rattle.std.proofs.Common.{◌≡◌, ℕ, zero, suc, ◌+◌, Option, refl, sym, ap, ap₂, ◌∙◌, arith}
use Rattle.ft_theory.specs.Expressions.{Expression, free, act, ClosedAt, MentionsOnly, Without, open_at, close_at}
use Rattle.ft_theory.specs.Statements.{Claim, is_type, has_type, equal_types, equal_terms, type_goal, term_goal, type_equation_goal, term_equation_goal, Statement, plain, abstracted, map_claim, map_statement, AllOfClaim, AllOfStatement, ClosedStatement, StatementMentionsOnly, act_statement, close_statement, opened, domain, domain_count, fill_goal, fill, equate_goal, equate, IsObjectGoal, IsEquationGoal, IsObject, IsEquation}
use Rattle.ft_laws.proofs.Acts.{IsClosedMap, act-act, after, act_agree, no_bodies, act_nothing}
use Rattle.ft_laws.proofs.Opens.{act-open, close-open, open-close}

-- maps on claims
pub map_claim_agree : (c : Claim) (f h : Expression → Expression) (P : Expression → Type 0) → ((e : Expression) → P e → f e ≡ h e) → AllOfClaim P c → map_claim f c ≡ map_claim h c
map_claim_agree (is_type A) f h P p a = ap is_type (p A a)
map_claim_agree (has_type t A) f h P p a = ap₂ has_type (p t a.0) (p A a.1)
map_claim_agree (equal_types A B) f h P p a = ap₂ equal_types (p A a.0) (p B a.1)
map_claim_agree (equal_terms s t A) f h P p a = ap₂ (λ x y. equal_terms x y (f A)) (p s a.0) (p t a.1) ∙ ap (equal_terms (h s) (h t)) (p A a.2)
map_claim_agree type_goal f h P p a = refl
map_claim_agree (term_goal A) f h P p a = ap term_goal (p A a)
map_claim_agree (type_equation_goal A B) f h P p a = ap₂ type_equation_goal (p A a.0) (p B a.1)
map_claim_agree (term_equation_goal s t A) f h P p a = ap₂ (λ x y. term_equation_goal x y (f A)) (p s a.0) (p t a.1) ∙ ap (term_equation_goal (h s) (h t)) (p A a.2)

pub map_claim-map : (c : Claim) (f g : Expression → Expression) → map_claim f (map_claim g c) ≡ map_claim (λ e. f (g e)) c
map_claim-map (is_type A) f g = refl
map_claim-map (has_type t A) f g = refl
map_claim-map (equal_types A B) f g = refl
map_claim-map (equal_terms s t A) f g = refl
map_claim-map type_goal f g = refl
map_claim-map (term_goal A) f g = refl
map_claim-map (type_equation_goal A B) f g = refl
map_claim-map (term_equation_goal s t A) f g = refl

pub map_claim-id : (c : Claim) → map_claim (λ e. e) c ≡ c
map_claim-id (is_type A) = refl
map_claim-id (has_type t A) = refl
map_claim-id (equal_types A B) = refl
map_claim-id (equal_terms s t A) = refl
map_claim-id type_goal = refl
map_claim-id (term_goal A) = refl
map_claim-id (type_equation_goal A B) = refl
map_claim-id (term_equation_goal s t A) = refl

pub AllOfClaim-map : (c : Claim) (f : Expression → Expression) (P Q : Expression → Type 0) → ((e : Expression) → P e → Q (f e)) → AllOfClaim P c → AllOfClaim Q (map_claim f c)
AllOfClaim-map (is_type A) f P Q p a = p A a
AllOfClaim-map (has_type t A) f P Q p a = (p t a.0, p A a.1)
AllOfClaim-map (equal_types A B) f P Q p a = (p A a.0, p B a.1)
AllOfClaim-map (equal_terms s t A) f P Q p a = (p s a.0, p t a.1, p A a.2)
AllOfClaim-map type_goal f P Q p a = tt
AllOfClaim-map (term_goal A) f P Q p a = p A a
AllOfClaim-map (type_equation_goal A B) f P Q p a = (p A a.0, p B a.1)
AllOfClaim-map (term_equation_goal s t A) f P Q p a = (p s a.0, p t a.1, p A a.2)

pub AllOfClaim_mono : (c : Claim) (P Q : Expression → Type 0) → ((e : Expression) → P e → Q e) → AllOfClaim P c → AllOfClaim Q c
AllOfClaim_mono (is_type A) P Q p a = p A a
AllOfClaim_mono (has_type t A) P Q p a = (p t a.0, p A a.1)
AllOfClaim_mono (equal_types A B) P Q p a = (p A a.0, p B a.1)
AllOfClaim_mono (equal_terms s t A) P Q p a = (p s a.0, p t a.1, p A a.2)
AllOfClaim_mono type_goal P Q p a = tt
AllOfClaim_mono (term_goal A) P Q p a = p A a
AllOfClaim_mono (type_equation_goal A B) P Q p a = (p A a.0, p B a.1)
AllOfClaim_mono (term_equation_goal s t A) P Q p a = (p s a.0, p t a.1, p A a.2)

-- maps on statements
pub map_statement_agree : (x : Statement) (f h : ℕ → Expression → Expression) (P : ℕ → Expression → Type 0) (k : ℕ) → ((l : ℕ) (e : Expression) → P l e → f l e ≡ h l e) → AllOfStatement P k x → map_statement f k x ≡ map_statement h k x
map_statement_agree (plain c) f h P k p a = ap plain (map_claim_agree c (f k) (h k) (P k) (p k) a)
map_statement_agree (abstracted A x) f h P k p a = ap₂ abstracted (p k A a.0) (map_statement_agree x f h P (suc k) p a.1)

pub map_statement-map : (x : Statement) (f g : ℕ → Expression → Expression) (k : ℕ) → map_statement f k (map_statement g k x) ≡ map_statement (λ l e. f l (g l e)) k x
map_statement-map (plain c) f g k = ap plain (map_claim-map c (f k) (g k))
map_statement-map (abstracted A x) f g k = ap (abstracted (f k (g k A))) (map_statement-map x f g (suc k))

pub map_statement-id : (x : Statement) (k : ℕ) → map_statement (λ l e. e) k x ≡ x
map_statement-id (plain c) k = ap plain (map_claim-id c)
map_statement-id (abstracted A x) k = ap (abstracted A) (map_statement-id x (suc k))

pub AllOfStatement-map : (x : Statement) (f : ℕ → Expression → Expression) (P Q : ℕ → Expression → Type 0) (k : ℕ) → ((l : ℕ) (e : Expression) → P l e → Q l (f l e)) → AllOfStatement P k x → AllOfStatement Q k (map_statement f k x)
AllOfStatement-map (plain c) f P Q k p a = AllOfClaim-map c (f k) (P k) (Q k) (p k) a
AllOfStatement-map (abstracted A x) f P Q k p a = (p k A a.0, AllOfStatement-map x f P Q (suc k) p a.1)

pub AllOfStatement_mono : (x : Statement) (P Q : ℕ → Expression → Type 0) (k : ℕ) → ((l : ℕ) (e : Expression) → P l e → Q l e) → AllOfStatement P k x → AllOfStatement Q k x
AllOfStatement_mono (plain c) P Q k p a = AllOfClaim_mono c (P k) (Q k) (p k) a
AllOfStatement_mono (abstracted A x) P Q k p a = (p k A a.0, AllOfStatement_mono x P Q (suc k) p a.1)

pub AllOfStatement_shift : (x : Statement) (P : ℕ → Expression → Type 0) (k : ℕ) → AllOfStatement P (suc k) x → AllOfStatement (λ l. P (suc l)) k x
AllOfStatement_shift (plain c) P k a = a
AllOfStatement_shift (abstracted A x) P k a = (a.0, AllOfStatement_shift x P (suc k) a.1)

pub AllOfStatement_unshift : (x : Statement) (P : ℕ → Expression → Type 0) (k : ℕ) → AllOfStatement (λ l. P (suc l)) k x → AllOfStatement P (suc k) x
AllOfStatement_unshift (plain c) P k a = a
AllOfStatement_unshift (abstracted A x) P k a = (a.0, AllOfStatement_unshift x P (suc k) a.1)

pub AllOfClaim_true : (c : Claim) → AllOfClaim (λ e. Unit {0}) c
AllOfClaim_true (is_type A) = tt
AllOfClaim_true (has_type t A) = (tt, tt)
AllOfClaim_true (equal_types A B) = (tt, tt)
AllOfClaim_true (equal_terms s t A) = (tt, tt, tt)
AllOfClaim_true type_goal = tt
AllOfClaim_true (term_goal A) = tt
AllOfClaim_true (type_equation_goal A B) = (tt, tt)
AllOfClaim_true (term_equation_goal s t A) = (tt, tt, tt)

pub AllOfStatement_true : (x : Statement) (k : ℕ) → AllOfStatement (λ l e. Unit {0}) k x
AllOfStatement_true (plain c) k = AllOfClaim_true c
AllOfStatement_true (abstracted A x) k = (tt, AllOfStatement_true x (suc k))

-- a map that doesn't look at the number of domains
pub map_any : (x : Statement) (f : Expression → Expression) (k l : ℕ) → map_statement (λ j. f) k x ≡ map_statement (λ j. f) l x
map_any (plain c) f k l = refl
map_any (abstracted A x) f k l = ap (abstracted (f A)) (map_any x f (suc k) (suc l))

pub domain_count-map : (x : Statement) (f : ℕ → Expression → Expression) (k : ℕ) → domain_count (map_statement f k x) ≡ domain_count x
domain_count-map (plain c) f k = refl
domain_count-map (abstracted A x) f k = ap suc (domain_count-map x f (suc k))

pub domain_count-opened : (x : Statement) (t : Expression) (k : ℕ) → domain_count x ≡ suc k → domain_count (opened t x) ≡ k
domain_count-opened (plain c) t k e = grind (arith, e)
domain_count-opened (abstracted A x) t k e = domain_count-map x (λ l. open_at l t) zero ∙ omega (arith, e)

-- object boundaries and equations stay what they are
pub object_goal-map : (c : Claim) (f : Expression → Expression) → IsObjectGoal c → IsObjectGoal (map_claim f c)
object_goal-map (is_type A) f o = o
object_goal-map (has_type t A) f o = o
object_goal-map (equal_types A B) f o = o
object_goal-map (equal_terms s t A) f o = o
object_goal-map type_goal f o = o
object_goal-map (term_goal A) f o = o
object_goal-map (type_equation_goal A B) f o = o
object_goal-map (term_equation_goal s t A) f o = o

pub object-map : (x : Statement) (f : ℕ → Expression → Expression) (k : ℕ) → IsObject x → IsObject (map_statement f k x)
object-map (plain c) f k o = object_goal-map c (f k) o
object-map (abstracted A x) f k o = object-map x f (suc k) o

pub equation_goal-map : (c : Claim) (f : Expression → Expression) → IsEquationGoal c → IsEquationGoal (map_claim f c)
equation_goal-map (is_type A) f o = o
equation_goal-map (has_type t A) f o = o
equation_goal-map (equal_types A B) f o = o
equation_goal-map (equal_terms s t A) f o = o
equation_goal-map type_goal f o = o
equation_goal-map (term_goal A) f o = o
equation_goal-map (type_equation_goal A B) f o = o
equation_goal-map (term_equation_goal s t A) f o = o

pub equation-map : (x : Statement) (f : ℕ → Expression → Expression) (k : ℕ) → IsEquation x → IsEquation (map_statement f k x)
equation-map (plain c) f k o = equation_goal-map c (f k) o
equation-map (abstracted A x) f k o = equation-map x f (suc k) o

pub object-opened : (x : Statement) (t : Expression) → IsObject x → IsObject (opened t x)
object-opened (plain c) t o = o
object-opened (abstracted A x) t o = object-map x (λ l. open_at l t) zero o

pub equation-opened : (x : Statement) (t : Expression) → IsEquation x → IsEquation (opened t x)
equation-opened (plain c) t o = o
equation-opened (abstracted A x) t o = equation-map x (λ l. open_at l t) zero o

-- heads
pub fill_goal-map : (c : Claim) (f : Expression → Expression) (h : Expression) → map_claim f (fill_goal c h) ≡ fill_goal (map_claim f c) (f h)
fill_goal-map (is_type A) f h = refl
fill_goal-map (has_type t A) f h = refl
fill_goal-map (equal_types A B) f h = refl
fill_goal-map (equal_terms s t A) f h = refl
fill_goal-map type_goal f h = refl
fill_goal-map (term_goal A) f h = refl
fill_goal-map (type_equation_goal A B) f h = refl
fill_goal-map (term_equation_goal s t A) f h = refl

pub fill-map : (x : Statement) (f : ℕ → Expression → Expression) (k : ℕ) (h : Expression) → map_statement f k (fill x h) ≡ fill (map_statement f k x) (f (domain_count x + k) h)
fill-map (plain c) f k h = ap plain (fill_goal-map c (f k) h) ∙ ap (λ l. plain (fill_goal (map_claim (f k) c) (f l h))) (omega arith)
fill-map (abstracted A x) f k h = ap (abstracted (f k A)) (fill-map x f (suc k) h ∙ ap (λ l. fill (map_statement f (suc k) x) (f l h)) (omega arith))

pub equate_goal-map : (c : Claim) (f : Expression → Expression) (h j : Expression) → map_claim f (equate_goal c h j) ≡ equate_goal (map_claim f c) (f h) (f j)
equate_goal-map (is_type A) f h j = refl
equate_goal-map (has_type t A) f h j = refl
equate_goal-map (equal_types A B) f h j = refl
equate_goal-map (equal_terms s t A) f h j = refl
equate_goal-map type_goal f h j = refl
equate_goal-map (term_goal A) f h j = refl
equate_goal-map (type_equation_goal A B) f h j = refl
equate_goal-map (term_equation_goal s t A) f h j = refl

pub equate-map : (x : Statement) (f : ℕ → Expression → Expression) (k : ℕ) (h j : Expression) → map_statement f k (equate x h j) ≡ equate (map_statement f k x) (f (domain_count x + k) h) (f (domain_count x + k) j)
equate-map (plain c) f k h j = ap plain (equate_goal-map c (f k) h j) ∙ ap (λ l. plain (equate_goal (map_claim (f k) c) (f l h) (f l j))) (omega arith)
equate-map (abstracted A x) f k h j = ap (abstracted (f k A)) (equate-map x f (suc k) h j ∙ ap (λ l. equate (map_statement f (suc k) x) (f l h) (f l j)) (omega arith))

-- the head of an equation doesn't matter
pub fill_goal_any : (c : Claim) (h j : Expression) → IsEquationGoal c → fill_goal c h ≡ fill_goal c j
fill_goal_any (is_type A) h j o = refl
fill_goal_any (has_type t A) h j o = refl
fill_goal_any (equal_types A B) h j o = refl
fill_goal_any (equal_terms s t A) h j o = refl
fill_goal_any type_goal h j o = absurd o
fill_goal_any (term_goal A) h j o = absurd o
fill_goal_any (type_equation_goal A B) h j o = refl
fill_goal_any (term_equation_goal s t A) h j o = refl

pub fill_any : (x : Statement) (h j : Expression) → IsEquation x → fill x h ≡ fill x j
fill_any (plain c) h j o = ap plain (fill_goal_any c h j o)
fill_any (abstracted A x) h j o = ap (abstracted A) (fill_any x h j o)

-- what acts
pub act-opened : (x : Statement) (g : ℕ → Expression) (i : ℕ → ℕ → Option Expression) (t : Expression) → IsClosedMap g i → ClosedAt zero t → ClosedAt zero (act g i t) → act_statement g i (opened t x) ≡ opened (act g i t) (act_statement g i x)
act-opened (plain c) g i t m h h' = refl
act-opened (abstracted A x) g i t m h h' =
    map_statement-map x (λ l. act g i) (λ l. open_at l t) zero
    ∙ map_statement_agree x (λ l e. act g i (open_at l t e)) (λ l e. open_at l (act g i t) (act g i e)) (λ l e. Unit {0}) zero (λ l e u. act-open e g i l t m h h') (AllOfStatement_true x zero)
    ∙ sym (map_statement-map x (λ l. open_at l (act g i t)) (λ l. act g i) zero)
    ∙ ap (map_statement (λ l. open_at l (act g i t)) zero) (map_any x (act g i) zero (suc zero))

pub domain-act : (x : Statement) (g : ℕ → Expression) (i : ℕ → ℕ → Option Expression) → act g i (domain x) ≡ domain (act_statement g i x)
unfolding act
domain-act (plain c) g i = refl
domain-act (abstracted A x) g i = refl

pub act-act_statement : (x : Statement) (g h : ℕ → Expression) (i j : ℕ → ℕ → Option Expression) → IsClosedMap g i → act_statement g i (act_statement h j x) ≡ act_statement (λ v. act g i (h v)) (after g i j) x
act-act_statement x g h i j c =
    map_statement-map x (λ l. act g i) (λ l. act h j) zero
    ∙ map_statement_agree x (λ l e. act g i (act h j e)) (λ l. act (λ v. act g i (h v)) (after g i j)) (λ l e. Unit {0}) zero (λ l e u. act-act e g h i j c) (AllOfStatement_true x zero)

pub act_statement_agree : (x : Statement) (g h : ℕ → Expression) (i j : ℕ → ℕ → Option Expression) → StatementMentionsOnly (λ v. g v ≡ h v) (λ m k. i m k ≡ j m k) x → act_statement g i x ≡ act_statement h j x
act_statement_agree x g h i j u = map_statement_agree x (λ l. act g i) (λ l. act h j) (λ l. MentionsOnly (λ v. g v ≡ h v) (λ m k. i m k ≡ j m k)) zero (λ l e p. act_agree e g h i j p) u

pub act_statement_nothing : (x : Statement) → act_statement free no_bodies x ≡ x
act_statement_nothing x =
    map_statement_agree x (λ l. act free no_bodies) (λ l e. e) (λ l e. Unit {0}) zero (λ l e u. act_nothing e) (AllOfStatement_true x zero)
    ∙ map_statement-id x zero

-- closing and opening
pub opened-closed : (x : Statement) (A : Expression) (v : ℕ) → ClosedStatement zero x → opened (free v) (abstracted A (close_statement v x)) ≡ x
opened-closed x A v c =
    map_statement-map x (λ l. open_at l (free v)) (λ l. close_at l v) zero
    ∙ map_statement_agree x (λ l e. open_at l (free v) (close_at l v e)) (λ l e. e) ClosedAt zero (λ l e h. open-close e l v h) c
    ∙ map_statement-id x zero

pub closed-opened : (y : Statement) (A : Expression) (v : ℕ) → AllOfStatement (λ l. Without v) zero y → close_statement v (opened (free v) (abstracted A y)) ≡ y
closed-opened y A v w =
    map_statement-map y (λ l. close_at l v) (λ l. open_at l (free v)) zero
    ∙ map_statement_agree y (λ l e. close_at l v (open_at l (free v) e)) (λ l e. e) (λ l. Without v) zero (λ l e h. close-open e l v h) w
    ∙ map_statement-id y zero

pub act_nothing_statement : (x : Statement) (k : ℕ) → map_statement (λ l. act free no_bodies) k x ≡ x
act_nothing_statement x k =
    map_statement_agree x (λ l. act free no_bodies) (λ l e. e) (λ l e. Unit {0}) k (λ l e u. act_nothing e) (AllOfStatement_true x k)
    ∙ map_statement-id x k
