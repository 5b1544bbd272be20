-- What the tests of expressions and statements say.
use Rattle.std.proofs.Common.{◌≡◌, suc, Bool, true, false, nat_eq, ◌&&◌, List, [], ◌∷◌, ◌⊎◌, inl, inr, refl, sym, ap, ap₂, ◌∙◌, subst, IsTrue, ◌↔◌}
use Rattle.std.proofs.lemmas.Bool.{eqb-true, eq-eqb, and_parts, and_from}
use Rattle.std.specs.Cmp.{both_ways}
use Rattle.ft_common.proofs.Booleans.{false_true}
use Rattle.ft_theory.specs.Expressions.{Expression, bound, free, symbol, meta, Arguments, no_arguments, with_body, dummy, Terms, no_terms, also, count}
use Rattle.ft_theory.specs.Statements.{Claim, is_type, has_type, equal_types, equal_terms, type_goal, term_goal, type_equation_goal, term_equation_goal, Statement, plain, abstracted, opened, domain_count, fill_goal, fill, equate_goal, equate, IsObjectGoal, IsEquationGoal, IsObject, IsEquation, boundary_of_claim, boundary_of}
use Rattle.ft_theory.specs.Rules.{term_typings, term_equations}
use Rattle.ft_items.specs.Equal.{equal_expressions, equal_arguments, equal_term_lists, equal_claims, equal_statements, is_thesis_claim, is_thesis, is_object_goal, is_object, has_head_claim, has_head, head_of_claim, head, right_of_claim, right_head, fits_goal, fits, starts_claim, starts, typed, terms, paired, left_terms, right_terms}
use Rattle.ft_laws.proofs.Statements.{domain_count-opened}

mutual
  pub expression_true : (e f : Expression) → equal_expressions e f ≡ true → e ≡ f
  expression_true (bound i) (bound j) h = ap bound (eqb-true i j h)
  expression_true (free i) (free j) h = ap free (eqb-true i j h)
  expression_true (symbol s a) (symbol r b) h =
      let q : (nat_eq s r ≡ true) × (equal_arguments a b ≡ true) = and_parts (nat_eq s r) (equal_arguments a b) h in
      ap₂ symbol (eqb-true s r q.0) (args_true a b q.1)
  expression_true (meta s a) (meta r b) h =
      let q : (nat_eq s r ≡ true) × (equal_term_lists a b ≡ true) = and_parts (nat_eq s r) (equal_term_lists a b) h in
      ap₂ meta (eqb-true s r q.0) (lists_true a b q.1)
  expression_true e f h = false_true h

  pub args_true : (a b : Arguments) → equal_arguments a b ≡ true → a ≡ b
  args_true no_arguments no_arguments h = refl
  args_true (with_body n e a) (with_body k f b) h =
      let q : ((nat_eq n k && equal_expressions e f) ≡ true) × (equal_arguments a b ≡ true) = and_parts (nat_eq n k && equal_expressions e f) (equal_arguments a b) h in
      let r : (nat_eq n k ≡ true) × (equal_expressions e f ≡ true) = and_parts (nat_eq n k) (equal_expressions e f) q.0 in
      ap (λ x. with_body x e a) (eqb-true n k r.0) ∙ ap₂ (with_body k) (expression_true e f r.1) (args_true a b q.1)
  args_true (dummy n a) (dummy k b) h =
      let q : (nat_eq n k ≡ true) × (equal_arguments a b ≡ true) = and_parts (nat_eq n k) (equal_arguments a b) h in
      ap₂ dummy (eqb-true n k q.0) (args_true a b q.1)
  args_true a b h = false_true h

  pub lists_true : (a b : Terms) → equal_term_lists a b ≡ true → a ≡ b
  lists_true no_terms no_terms h = refl
  lists_true (also t a) (also u b) h =
      let q : (equal_expressions t u ≡ true) × (equal_term_lists a b ≡ true) = and_parts (equal_expressions t u) (equal_term_lists a b) h in
      ap₂ also (expression_true t u q.0) (lists_true a b q.1)
  lists_true a b h = false_true h

two : {A B C : Type 0} (f : A → B → C) (a c : A) (b d : B) (s t : Bool) → (s ≡ true → a ≡ c) → (t ≡ true → b ≡ d) → (s && t) ≡ true → f a b ≡ f c d
two f a c b d s t p q h = ap₂ f (p (and_parts s t h).0) (q (and_parts s t h).1)

three : {A B C D : Type 0} (f : A → B → C → D) (a a' : A) (b b' : B) (c c' : C) (s t u : Bool) → (s ≡ true → a ≡ a') → (t ≡ true → b ≡ b') → (u ≡ true → c ≡ c') → ((s && t) && u) ≡ true → f a b c ≡ f a' b' c'
three f a a' b b' c c' s t u p q r h =
    let k : ((s && t) ≡ true) × (u ≡ true) = and_parts (s && t) u h in
    ap₂ (λ x y. f x y c) (p (and_parts s t k.0).0) (q (and_parts s t k.0).1) ∙ ap (f a' b') (r k.1)

pub claim_true : (c d : Claim) → equal_claims c d ≡ true → c ≡ d
claim_true (is_type A) (is_type B) h = ap is_type (expression_true A B h)
claim_true (has_type t A) (has_type u B) h = two has_type t u A B (equal_expressions t u) (equal_expressions A B) (expression_true t u) (expression_true A B) h
claim_true (equal_types A B) (equal_types C D) h = two equal_types A C B D (equal_expressions A C) (equal_expressions B D) (expression_true A C) (expression_true B D) h
claim_true (equal_terms s t A) (equal_terms u v B) h = three equal_terms s u t v A B (equal_expressions s u) (equal_expressions t v) (equal_expressions A B) (expression_true s u) (expression_true t v) (expression_true A B) h
claim_true type_goal type_goal h = refl
claim_true (term_goal A) (term_goal B) h = ap term_goal (expression_true A B h)
claim_true (type_equation_goal A B) (type_equation_goal C D) h = two type_equation_goal A C B D (equal_expressions A C) (equal_expressions B D) (expression_true A C) (expression_true B D) h
claim_true (term_equation_goal s t A) (term_equation_goal u v B) h = three term_equation_goal s u t v A B (equal_expressions s u) (equal_expressions t v) (equal_expressions A B) (expression_true s u) (expression_true t v) (expression_true A B) h
claim_true c d h = false_true h

pub statement_true : (x y : Statement) → equal_statements x y ≡ true → x ≡ y
statement_true (plain c) (plain d) h = ap plain (claim_true c d h)
statement_true (plain c) (abstracted B y) h = false_true h
statement_true (abstracted A x) (plain d) h = false_true h
statement_true (abstracted A x) (abstracted B y) h = two abstracted A B x y (equal_expressions A B) (equal_statements x y) (expression_true A B) (statement_true x y) h

-- each tree equals itself
mutual
  pub expression_self : (e : Expression) → equal_expressions e e ≡ true
  expression_self (bound i) = eq-eqb i i refl
  expression_self (free v) = eq-eqb v v refl
  expression_self (symbol s a) = and_from (nat_eq s s) (equal_arguments a a) (eq-eqb s s refl) (args_self a)
  expression_self (meta m a) = and_from (nat_eq m m) (equal_term_lists a a) (eq-eqb m m refl) (lists_self a)

  pub args_self : (a : Arguments) → equal_arguments a a ≡ true
  args_self no_arguments = refl
  args_self (with_body n e a) = and_from (nat_eq n n && equal_expressions e e) (equal_arguments a a) (and_from (nat_eq n n) (equal_expressions e e) (eq-eqb n n refl) (expression_self e)) (args_self a)
  args_self (dummy n a) = and_from (nat_eq n n) (equal_arguments a a) (eq-eqb n n refl) (args_self a)

  pub lists_self : (a : Terms) → equal_term_lists a a ≡ true
  lists_self no_terms = refl
  lists_self (also t a) = and_from (equal_expressions t t) (equal_term_lists a a) (expression_self t) (lists_self a)

pub equal_back : (e f : Expression) → equal_expressions e f ≡ equal_expressions f e
equal_back e f = both_ways (equal_expressions e f) (equal_expressions f e) (go e f) (go f e)
  where
    go : (e f : Expression) → equal_expressions e f ≡ true → equal_expressions f e ≡ true
    go e f h = subst (λ x. equal_expressions x e ≡ true) (expression_true e f h) (expression_self e)

-- a test that decides whether expressions are the same is the definition's
pub by_equal : (e f : Expression) (b : Bool) → (IsTrue b ↔ (e ≡ f)) → b ≡ equal_expressions e f
by_equal e f b h = both_ways b (equal_expressions e f)
    (λ yes. subst (λ g. equal_expressions e g ≡ true) (h.0 yes) (expression_self e))
    (λ yes. h.1 (expression_true e f yes))

pub claim_self : (c : Claim) → equal_claims c c ≡ true
claim_self (is_type A) = expression_self A
claim_self (has_type t A) = and_from (equal_expressions t t) (equal_expressions A A) (expression_self t) (expression_self A)
claim_self (equal_types A B) = and_from (equal_expressions A A) (equal_expressions B B) (expression_self A) (expression_self B)
claim_self (equal_terms s t A) = and_from (equal_expressions s s && equal_expressions t t) (equal_expressions A A) (and_from (equal_expressions s s) (equal_expressions t t) (expression_self s) (expression_self t)) (expression_self A)
claim_self type_goal = refl
claim_self (term_goal A) = expression_self A
claim_self (type_equation_goal A B) = and_from (equal_expressions A A) (equal_expressions B B) (expression_self A) (expression_self B)
claim_self (term_equation_goal s t A) = and_from (equal_expressions s s && equal_expressions t t) (equal_expressions A A) (and_from (equal_expressions s s) (equal_expressions t t) (expression_self s) (expression_self t)) (expression_self A)

pub statement_self : (x : Statement) → equal_statements x x ≡ true
statement_self (plain c) = claim_self c
statement_self (abstracted A x) = and_from (equal_expressions A A) (equal_statements x x) (expression_self A) (statement_self x)

-- a thesis that fits is the boundary filled with its head
pub fits_claim_true : (c d : Claim) → fits_goal c d ≡ true → c ≡ fill_goal d (head_of_claim c)
fits_claim_true (is_type A) type_goal h = refl
fits_claim_true (has_type t A) (term_goal B) h = ap (has_type t) (expression_true A B h)
fits_claim_true (equal_types A B) (type_equation_goal C D) h = two equal_types A C B D (equal_expressions A C) (equal_expressions B D) (expression_true A C) (expression_true B D) h
fits_claim_true (equal_terms s t A) (term_equation_goal u v B) h = three (λ A s t. equal_terms s t A) A B s u t v (equal_expressions A B) (equal_expressions s u) (equal_expressions t v) (expression_true A B) (expression_true s u) (expression_true t v) h
fits_claim_true c d h = false_true h

pub fits_true : (x b : Statement) → fits x b ≡ true → x ≡ fill b (head x)
fits_true (plain c) (plain d) h = ap plain (fits_claim_true c d h)
fits_true (plain c) (abstracted B b) h = false_true h
fits_true (abstracted A x) (plain d) h = false_true h
fits_true (abstracted A x) (abstracted B b) h = two abstracted A B x (fill b (head x)) (equal_expressions A B) (fits x b) (expression_true A B) (fits_true x b) h

pub fits_depth : (x b : Statement) → fits x b ≡ true → domain_count x ≡ domain_count b
fits_depth (plain c) (plain d) h = refl
fits_depth (plain c) (abstracted B b) h = false_true h
fits_depth (abstracted A x) (plain d) h = false_true h
fits_depth (abstracted A x) (abstracted B b) h = ap suc (fits_depth x b (and_parts (equal_expressions A B) (fits x b) h).1)

-- and it has a head exactly for an object
pub fits_claim_object : (c d : Claim) → fits_goal c d ≡ true → has_head_claim c ≡ true → IsObjectGoal d
fits_claim_object (is_type A) type_goal h k = tt
fits_claim_object (has_type t A) (term_goal B) h k = tt
fits_claim_object (equal_types A B) (type_equation_goal C D) h k = false_true k
fits_claim_object (equal_terms s t A) (term_equation_goal u v B) h k = false_true k
fits_claim_object c d h k = false_true h

pub fits_object : (x b : Statement) → fits x b ≡ true → has_head x ≡ true → IsObject b
fits_object (plain c) (plain d) h k = fits_claim_object c d h k
fits_object (plain c) (abstracted B b) h k = false_true h
fits_object (abstracted A x) (plain d) h k = false_true h
fits_object (abstracted A x) (abstracted B b) h k = fits_object x b (and_parts (equal_expressions A B) (fits x b) h).1 k

pub fits_claim_equation : (c d : Claim) → fits_goal c d ≡ true → has_head_claim c ≡ false → IsEquationGoal d
fits_claim_equation (is_type A) type_goal h k = false_true (sym k)
fits_claim_equation (has_type t A) (term_goal B) h k = false_true (sym k)
fits_claim_equation (equal_types A B) (type_equation_goal C D) h k = tt
fits_claim_equation (equal_terms s t A) (term_equation_goal u v B) h k = tt
fits_claim_equation c d h k = false_true h

pub fits_equation : (x b : Statement) → fits x b ≡ true → has_head x ≡ false → IsEquation b
fits_equation (plain c) (plain d) h k = fits_claim_equation c d h k
fits_equation (plain c) (abstracted B b) h k = false_true h
fits_equation (abstracted A x) (plain d) h k = false_true h
fits_equation (abstracted A x) (abstracted B b) h k = fits_equation x b (and_parts (equal_expressions A B) (fits x b) h).1 k

-- an equation that starts from the head of what fits
pub starts_claim_true : (c d e : Claim) → fits_goal c d ≡ true → starts_claim c e ≡ true → e ≡ equate_goal d (head_of_claim c) (right_of_claim e)
starts_claim_true (is_type A) type_goal (equal_types B C) h k = ap (λ x. equal_types x C) (sym (expression_true A B k))
starts_claim_true (has_type t A) (term_goal B) (equal_terms s u C) h k =
    let q : (equal_expressions A C ≡ true) × (equal_expressions t s ≡ true) = and_parts (equal_expressions A C) (equal_expressions t s) k in
    ap₂ (λ x y. equal_terms x u y) (sym (expression_true t s q.1)) (sym (expression_true A C q.0) ∙ expression_true A B h)
starts_claim_true (is_type A) type_goal e h k = false_true k
starts_claim_true (has_type t A) (term_goal B) e h k = false_true k
starts_claim_true (equal_types A B) d e h k = false_true k
starts_claim_true (equal_terms s t A) d e h k = false_true k
starts_claim_true c d e h k = false_true h

pub starts_true : (x b e : Statement) → fits x b ≡ true → starts x e ≡ true → e ≡ equate b (head x) (right_head e)
starts_true (plain c) (plain d) (plain e) h k = ap plain (starts_claim_true c d e h k)
starts_true (plain c) (plain d) (abstracted B e) h k = false_true k
starts_true (plain c) (abstracted B b) e h k = false_true h
starts_true (abstracted A x) (plain d) e h k = false_true h
starts_true (abstracted A x) (abstracted B b) (plain e) h k = false_true k
starts_true (abstracted A x) (abstracted B b) (abstracted C e) h k =
    let q : (equal_expressions A B ≡ true) × (fits x b ≡ true) = and_parts (equal_expressions A B) (fits x b) h in
    let r : (equal_expressions A C ≡ true) × (starts x e ≡ true) = and_parts (equal_expressions A C) (starts x e) k in
    ap₂ abstracted (sym (expression_true A C r.0) ∙ expression_true A B q.0) (starts_true x b e q.1 r.1)

-- a thesis with a head is its boundary filled with it
pub refill_claim : (c : Claim) → has_head_claim c ≡ true → IsObjectGoal (boundary_of_claim c) × (c ≡ fill_goal (boundary_of_claim c) (head_of_claim c))
refill_claim (is_type A) h = (tt, refl)
refill_claim (has_type t A) h = (tt, refl)
refill_claim c h = false_true h

pub refill : (x : Statement) → has_head x ≡ true → IsObject (boundary_of x) × (x ≡ fill (boundary_of x) (head x))
refill (plain c) h = ((refill_claim c h).0, ap plain (refill_claim c h).1)
refill (abstracted A x) h = ((refill x h).0, ap (abstracted A) (refill x h).1)

pub boundary_depth : (x : Statement) → domain_count (boundary_of x) ≡ domain_count x
boundary_depth (plain c) = refl
boundary_depth (abstracted A x) = ap suc (boundary_depth x)

pub object_claim_true : (c : Claim) → is_object_goal c ≡ true → IsObjectGoal c
object_claim_true type_goal h = tt
object_claim_true (term_goal A) h = tt
object_claim_true c h = false_true h

pub object_true : (x : Statement) → is_object x ≡ true → IsObject x
object_true (plain c) h = object_claim_true c h
object_true (abstracted A x) h = object_true x h

-- what isn't a thesis is a boundary
pub boundary_claim_kind : (c : Claim) → is_thesis_claim c ≡ false → IsObjectGoal c ⊎ IsEquationGoal c
boundary_claim_kind type_goal h = inl tt
boundary_claim_kind (term_goal A) h = inl tt
boundary_claim_kind (type_equation_goal A B) h = inr tt
boundary_claim_kind (term_equation_goal s t A) h = inr tt
boundary_claim_kind c h = false_true (sym h)

pub boundary_kind : (x : Statement) → is_thesis x ≡ false → IsObject x ⊎ IsEquation x
boundary_kind (plain c) h = boundary_claim_kind c h
boundary_kind (abstracted A x) h = boundary_kind x h

-- terms at the domains
pub typed_true : (xs : List Statement) (b : Statement) → typed b xs ≡ true → (count (terms xs) ≡ domain_count b) × (term_typings b (terms xs) ≡ xs)
unfolding count
typed_true [] (plain c) h = (refl, refl)
typed_true [] (abstracted A b) h = false_true h
typed_true (plain (has_type t B) ∷ xs) (abstracted A b) h =
    let q : (equal_expressions A B ≡ true) × (typed (opened t (abstracted A b)) xs ≡ true) = and_parts (equal_expressions A B) (typed (opened t (abstracted A b)) xs) h in
    let r : (count (terms xs) ≡ domain_count (opened t (abstracted A b))) × (term_typings (opened t (abstracted A b)) (terms xs) ≡ xs) = typed_true xs (opened t (abstracted A b)) q.1 in
    (ap suc (r.0 ∙ domain_count-opened (abstracted A b) t (domain_count b) refl), ap₂ (λ C ys. plain (has_type t C) ∷ ys) (expression_true A B q.0) r.1)
typed_true (x ∷ xs) (plain c) h = false_true h
typed_true (x ∷ xs) (abstracted A b) h = false_true h

-- equations at the domains
pub paired_true : (es : List Statement) (b : Statement) → paired b es ≡ true → (count (left_terms es) ≡ domain_count b) × (count (right_terms es) ≡ domain_count b) × (term_equations b (left_terms es) (right_terms es) ≡ es)
unfolding count
paired_true [] (plain c) h = (refl, refl, refl)
paired_true [] (abstracted A b) h = false_true h
paired_true (plain (equal_terms s t B) ∷ es) (abstracted A b) h =
    let q : (equal_expressions A B ≡ true) × (paired (opened s (abstracted A b)) es ≡ true) = and_parts (equal_expressions A B) (paired (opened s (abstracted A b)) es) h in
    let r : (count (left_terms es) ≡ domain_count (opened s (abstracted A b))) × (count (right_terms es) ≡ domain_count (opened s (abstracted A b))) × (term_equations (opened s (abstracted A b)) (left_terms es) (right_terms es) ≡ es) = paired_true es (opened s (abstracted A b)) q.1 in
    (ap suc (r.0 ∙ domain_count-opened (abstracted A b) s (domain_count b) refl), ap suc (r.1 ∙ domain_count-opened (abstracted A b) s (domain_count b) refl), ap₂ (λ C ys. plain (equal_terms s t C) ∷ ys) (expression_true A B q.0) r.2)
paired_true (e ∷ es) (plain c) h = false_true h
paired_true (e ∷ es) (abstracted A b) h = false_true h
