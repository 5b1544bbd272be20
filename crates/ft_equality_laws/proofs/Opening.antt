-- Comparing under domains: heads, sides of equations, and boundaries.
use Rattle.std.proofs.Common.{◌≡◌, ◌≤◌, ℕ, zero, suc, Bool, true, false, cond, List, ◌∷◌, refl, sym, ◌∙◌, subst, arith}
use Rattle.ft_theory.specs.Expressions.{Expression, bound, free, Without, open_at}
use Rattle.ft_theory.specs.Statements.{is_type, has_type, equal_types, type_goal, term_goal, type_equation_goal, term_equation_goal, Statement, plain, abstracted, opened, domain_count, fill, equate, IsObject, IsEquation}
use Rattle.ft_theory.specs.Rules.{Rule}
use Rattle.ft_theory.specs.Steps.{sequent, Prim}
use Rattle.ft_laws.proofs.Steps.{do_reflexive_type, do_symmetric_types, do_convert_term}
use Rattle.ft_laws.proofs.Scope.{AllOfStatement-fill, AllOfStatement_head, AllOfStatement-equate, AllOfStatement-equation}
use Rattle.ft_laws.proofs.Statements.{domain_count-map, object-opened, equation-opened, fill_any}
use Rattle.ft_laws.proofs.Commute.{ScopedTheory}
use Rattle.ft_laws.proofs.Sides.{parts}
use Rattle.ft_laws.proofs.EqualTerms.{first_domain, at_absent}
use Rattle.ft_items.specs.Equal.{equal_expressions}
use Rattle.ft_sound.proofs.EqualLemmas.{expression_true}
use Rattle.ft_equality.specs.Programs.{types, terms, Program, give, ◌>>=◌}
use Rattle.ft_equality.specs.Comparing.{variable, decide, and_also, and_then, same_or, types_alike, equal_heads, equal_sides, equal_boundaries}
use Rattle.ft_equality_laws.proofs.Means.{Below, If, EqualAt, Fact, Means, means_bind, means_weaken}
use Rattle.ft_equality_laws.proofs.Derive.{opened_fill, opened_equate, without_in, close_over, below_under, change}

pub if_map : (X Y : Type 0) (b : Bool) → (X → Y) → If b X → If b Y
if_map X Y true f x = f x
if_map X Y false f x = tt

abbrev pub HeadsEqual : List Rule → List (ℕ × Statement) → ℕ → Statement → Expression → Expression → Type 0
HeadsEqual T M n b e f = (G : List (ℕ × Expression)) → Below n G → Prim T M G (fill b e) → Prim T M G (fill b f) → Prim T M G (equate b e f)

abbrev pub SidesEqual : List Rule → List (ℕ × Statement) → ℕ → Statement → Type 0
SidesEqual T M n b = (G : List (ℕ × Expression)) → Below n G → Prim T M G b → Prim T M G (fill b (bound zero))

-- heads of the one boundary are heads of the other
abbrev pub Exchange : List Rule → List (ℕ × Statement) → ℕ → Statement → Statement → Type 0
Exchange T M n b c = (G : List (ℕ × Expression)) → Below n G → Prim T M G b → Prim T M G c → (h : Expression) → (Prim T M G (fill b h) → Prim T M G (fill c h)) × (Prim T M G (fill c h) → Prim T M G (fill b h))

module _ (T : List Rule) (M : List (ℕ × Statement)) where
  pub means_and : (n : ℕ) (X Y : Type 0) (b : Bool) (next : Unit {0} → Program Bool) → If b X → (X → Means T M n (λ r. If r Y) (next tt)) → Means T M n (λ r. If r Y) (and_also b next)
  means_and n X Y true next x f = f x
  means_and n X Y false next x f = tt

  -- a test, and what follows its yes
  pub means_both : (n : ℕ) (X Y : Type 0) (p : Program Bool) (next : Unit {0} → Program Bool) → Means T M n (λ r. If r X) p → (X → Means T M n (λ r. If r Y) (next tt)) → Means T M n (λ r. If r Y) (and_then p next)
  means_both n X Y p next h f = means_bind T M n (λ r. If r X) (λ r. If r Y) p (λ b. and_also b next) h (λ b x. means_and n X Y b next x f)

  pub means_same_or : (n : ℕ) (X : Type 0) (e f : Expression) (p : Program Bool) → (e ≡ f → X) → Means T M n (λ r. If r X) p → Means T M n (λ r. If r X) (same_or e f p)
  means_same_or n X e f p h k = go (equal_expressions e f) (expression_true e f)
    where
      go : (t : Bool) → (t ≡ true → e ≡ f) → Means T M n (λ r. If r X) (cond t (give true) p)
      go true s = h (s refl)
      go false s = k

  pub means_alike : (n : ℕ) (X : Type 0) (A B : Expression) → (A ≡ B → X) → (EqualAt T M n type_goal A B → X) → Means T M n (λ r. If r X) (types_alike A B)
  means_alike n X A B h k = means_same_or n X A B (decide (types A B)) h (λ b x. if_map (EqualAt T M n type_goal A B) X b k x)

module _ (T : List Rule) (sc : ScopedTheory T) (M : List (ℕ × Statement)) where
  under_heads : (n v k : ℕ) (A : Expression) (y : Statement) (e f : Expression) → n ≤ v → domain_count y ≡ k → IsObject y
      → HeadsEqual T M (suc v) (opened (free v) (abstracted A y)) (open_at k (free v) e) (open_at k (free v) f) → HeadsEqual T M n (abstracted A y) e f
  under_heads n v k A y e f le d o h G b p q =
      let pA : Prim T M G (plain (is_type A)) = first_domain T M G A (fill y e) p in
      close_over T M G v A (equate y e f) (b v le).0 (b v le).1 pA
      (AllOfStatement-equate y (λ l. Without v) zero e f o (without_in T M G v A (fill y e) (b v le).0 p) (without_in T M G v A (fill y f) (b v le).0 q))
      (subst (λ z. Prim T M ((v, A) ∷ G) z) (sym (opened_equate A y e f (free v) k d))
      (h ((v, A) ∷ G) (below_under T M n v G A le b pA)
      (subst (λ z. Prim T M ((v, A) ∷ G) z) (opened_fill A y e (free v) k d) (at_absent T sc M G A (fill y e) v (b v le).0 p))
      (subst (λ z. Prim T M ((v, A) ∷ G) z) (opened_fill A y f (free v) k d) (at_absent T sc M G A (fill y f) v (b v le).0 q))))

  pub heads_mean : (k n : ℕ) (b : Statement) (e f : Expression) → domain_count b ≡ k → IsObject b → Means T M n (λ r. If r (HeadsEqual T M n b e f)) (equal_heads k b e f)
  heads_mean zero n (plain type_goal) e f d o = λ r x. x
  heads_mean zero n (plain (term_goal A)) e f d o = λ r x. x
  heads_mean zero n b e f d o = tt
  heads_mean (suc k) n (plain c) e f d o = absurd (grind (arith, d))
  heads_mean (suc k) n (abstracted A y) e f d o = λ v le.
      means_weaken T M (suc v) (λ r. If r (HeadsEqual T M (suc v) (opened (free v) (abstracted A y)) (open_at k (free v) e) (open_at k (free v) f))) (λ r. If r (HeadsEqual T M n (abstracted A y) e f))
      (equal_heads k (opened (free v) (abstracted A y)) (open_at k (free v) e) (open_at k (free v) f))
      (λ r x. if_map (HeadsEqual T M (suc v) (opened (free v) (abstracted A y)) (open_at k (free v) e) (open_at k (free v) f)) (HeadsEqual T M n (abstracted A y) e f) r (under_heads n v k A y e f le (omega (arith, d)) o) x)
      (heads_mean k (suc v) (opened (free v) (abstracted A y)) (open_at k (free v) e) (open_at k (free v) f) (domain_count-map y (λ l. open_at l (free v)) zero ∙ omega (arith, d)) (object-opened (abstracted A y) (free v) o))

  under_sides : (n v : ℕ) (A : Expression) (y : Statement) → n ≤ v → IsEquation y → SidesEqual T M (suc v) (opened (free v) (abstracted A y)) → SidesEqual T M n (abstracted A y)
  under_sides n v A y le o h G b p =
      let pA : Prim T M G (plain (is_type A)) = first_domain T M G A y p in
      close_over T M G v A (fill y (bound zero)) (b v le).0 (b v le).1 pA (AllOfStatement-equation y (λ l. Without v) zero (bound zero) o (without_in T M G v A y (b v le).0 p))
      (subst (λ z. Prim T M ((v, A) ∷ G) z)
      (fill_any (opened (free v) (abstracted A y)) (bound zero) (open_at (domain_count y) (free v) (bound zero)) (equation-opened (abstracted A y) (free v) o) ∙ sym (opened_fill A y (bound zero) (free v) (domain_count y) refl))
      (h ((v, A) ∷ G) (below_under T M n v G A le b pA) (at_absent T sc M G A y v (b v le).0 p)))

  pub sides_mean : (k n : ℕ) (b : Statement) → domain_count b ≡ k → IsEquation b → Means T M n (λ r. If r (SidesEqual T M n b)) (equal_sides k b)
  sides_mean zero n (plain (type_equation_goal A B)) d o = λ r x. if_map (Fact T M n (types A B)) (SidesEqual T M n (plain (type_equation_goal A B))) r
      (λ h G b p. h G b (parts T (sequent M G (plain (type_equation_goal A B))) p).0 (parts T (sequent M G (plain (type_equation_goal A B))) p).1) x
  sides_mean zero n (plain (term_equation_goal s t A)) d o = λ r x. if_map (Fact T M n (terms s t A)) (SidesEqual T M n (plain (term_equation_goal s t A))) r
      (λ h G b p. h G b (parts T (sequent M G (plain (term_equation_goal s t A))) p).1 (parts T (sequent M G (plain (term_equation_goal s t A))) p).2) x
  sides_mean zero n b d o = tt
  sides_mean (suc k) n (plain c) d o = absurd (grind (arith, d))
  sides_mean (suc k) n (abstracted A y) d o = λ v le.
      means_weaken T M (suc v) (λ r. If r (SidesEqual T M (suc v) (opened (free v) (abstracted A y)))) (λ r. If r (SidesEqual T M n (abstracted A y))) (equal_sides k (opened (free v) (abstracted A y)))
      (λ r x. if_map (SidesEqual T M (suc v) (opened (free v) (abstracted A y))) (SidesEqual T M n (abstracted A y)) r (under_sides n v A y le o) x)
      (sides_mean k (suc v) (opened (free v) (abstracted A y)) (domain_count-map y (λ l. open_at l (free v)) zero ∙ omega (arith, d)) (equation-opened (abstracted A y) (free v) o))

  -- one way of an exchange under a domain
  one_way : (n v k : ℕ) (A B : Expression) (y z : Statement) (h : Expression) (G : List (ℕ × Expression)) → n ≤ v → domain_count y ≡ k → domain_count z ≡ k → IsObject y → Below n G → Prim T M G (plain (equal_types A B)) → Prim T M G (abstracted B z)
      → (Prim T M ((v, A) ∷ G) (fill (opened (free v) (abstracted A y)) (open_at k (free v) h)) → Prim T M ((v, A) ∷ G) (fill (opened (free v) (abstracted B z)) (open_at k (free v) h)))
      → Prim T M G (fill (abstracted A y) h) → Prim T M G (fill (abstracted B z) h)
  one_way n v k A B y z h G le d d' o b e q f p =
      close_over T M G v B (fill z h) (b v le).0 (b v le).1 (first_domain T M G B z q)
      (AllOfStatement-fill z (λ l. Without v) zero h (without_in T M G v B z (b v le).0 q) (AllOfStatement_head y (λ l. Without v) zero h o (without_in T M G v A (fill y h) (b v le).0 p)))
      (subst (λ x. Prim T M ((v, B) ∷ G) x) (sym (opened_fill B z h (free v) k d'))
      (change T sc M G v A B (fill (opened (free v) (abstracted B z)) (open_at k (free v) h)) (b v le).0 e
      (f (subst (λ x. Prim T M ((v, A) ∷ G) x) (opened_fill A y h (free v) k d) (at_absent T sc M G A (fill y h) v (b v le).0 p)))))

  under_boundaries : (n v k : ℕ) (A B : Expression) (y z : Statement) → n ≤ v → domain_count y ≡ k → domain_count z ≡ k → IsObject y → IsObject z → EqualAt T M n type_goal A B
      → Exchange T M (suc v) (opened (free v) (abstracted A y)) (opened (free v) (abstracted B z)) → Exchange T M n (abstracted A y) (abstracted B z)
  under_boundaries n v k A B y z le d d' o o' e x G b p q h =
      let pA : Prim T M G (plain (is_type A)) = first_domain T M G A y p in
      let AB : Prim T M G (plain (equal_types A B)) = e G b pA (first_domain T M G B z q) in
      let p' : Prim T M ((v, A) ∷ G) (opened (free v) (abstracted A y)) = at_absent T sc M G A y v (b v le).0 p in
      let q' : Prim T M ((v, B) ∷ G) (opened (free v) (abstracted B z)) = at_absent T sc M G B z v (b v le).0 q in (
        one_way n v k A B y z h G le d d' o b AB q
            (x ((v, A) ∷ G) (below_under T M n v G A le b pA) p' (change T sc M G v B A (opened (free v) (abstracted B z)) (b v le).0 (do_symmetric_types AB) q') (open_at k (free v) h)).0,
        one_way n v k B A z y h G le d' d o' b (do_symmetric_types AB) p
            (x ((v, B) ∷ G) (below_under T M n v G B le b (first_domain T M G B z q)) (change T sc M G v A B (opened (free v) (abstracted A y)) (b v le).0 AB p') q' (open_at k (free v) h)).1,
      )

  pub boundaries_mean : (k n : ℕ) (b c : Statement) → domain_count b ≡ k → domain_count c ≡ k → IsObject b → IsObject c → Means T M n (λ r. If r (Exchange T M n b c)) (equal_boundaries k b c)
  boundaries_mean zero n (plain type_goal) (plain type_goal) d d' o o' = λ G b p q h. (λ x. x, λ x. x)
  boundaries_mean zero n (plain (term_goal A)) (plain (term_goal B)) d d' o o' =
      means_alike T M n (Exchange T M n (plain (term_goal A)) (plain (term_goal B))) A B
      (λ e G b p q h. (λ x. subst (λ C. Prim T M G (plain (has_type h C))) e x, λ x. subst (λ C. Prim T M G (plain (has_type h C))) (sym e) x))
      (λ f G b p q h.
      let AB : Prim T M G (plain (equal_types A B)) = f G b (parts T (sequent M G (plain (term_goal A))) p) (parts T (sequent M G (plain (term_goal B))) q) in
      (λ x. do_convert_term x AB, λ x. do_convert_term x (do_symmetric_types AB)))
  boundaries_mean zero n b c d d' o o' = tt
  boundaries_mean (suc k) n (plain c) z d d' o o' = absurd (grind (arith, d))
  boundaries_mean (suc k) n (abstracted A y) (plain c) d d' o o' = absurd (grind (arith, d'))
  boundaries_mean (suc k) n (abstracted A y) (abstracted B z) d d' o o' =
      means_both T M n (EqualAt T M n type_goal A B) (Exchange T M n (abstracted A y) (abstracted B z)) (types_alike A B) (λ t. ◌>>=◌ variable (λ v. equal_boundaries k (opened (free v) (abstracted A y)) (opened (free v) (abstracted B z))))
      (means_alike T M n (EqualAt T M n type_goal A B) A B (λ e G b p q. subst (λ C. Prim T M G (plain (equal_types A C))) e (do_reflexive_type p)) (λ f. f))
      (λ e v le.
      means_weaken T M (suc v) (λ r. If r (Exchange T M (suc v) (opened (free v) (abstracted A y)) (opened (free v) (abstracted B z)))) (λ r. If r (Exchange T M n (abstracted A y) (abstracted B z))) (equal_boundaries k (opened (free v) (abstracted A y)) (opened (free v) (abstracted B z)))
      (λ r x. if_map (Exchange T M (suc v) (opened (free v) (abstracted A y)) (opened (free v) (abstracted B z))) (Exchange T M n (abstracted A y) (abstracted B z)) r (under_boundaries n v k A B y z le (omega (arith, d)) (omega (arith, d')) o o' e) x)
      (boundaries_mean k (suc v) (opened (free v) (abstracted A y)) (opened (free v) (abstracted B z)) (domain_count-map y (λ l. open_at l (free v)) zero ∙ omega (arith, d)) (domain_count-map z (λ l. open_at l (free v)) zero ∙ omega (arith, d')) (object-opened (abstracted A y) (free v) o) (object-opened (abstracted B z) (free v) o')))
