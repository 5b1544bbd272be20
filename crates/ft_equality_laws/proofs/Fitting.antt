-- The two rounds of matching: boundaries of the places, and repeats.
use Rattle.std.proofs.Common.{◌≡◌, ◌+◌, ℕ, zero, suc, Bool, true, false, cond, nat_eq, ◌&&◌, Option, Some, List, [], ◌∷◌, ◌++◌, ◌⊎◌, inl, inr, refl, sym, ap, ◌∙◌, subst, arith, eqb-true, append_assoc, append-nil}
use Rattle.ft_theory.specs.Expressions.{Expression, free, act, ClosedAt, open_at}
use Rattle.ft_theory.specs.Statements.{type_goal, Statement, plain, abstracted, opened, domain_count, fill, equate, IsObject, boundary_of}
use Rattle.ft_theory.specs.Rules.{look_up, Rule}
use Rattle.ft_theory.specs.Steps.{sequent, Prim}
use Rattle.ft_theory.specs.Derivability.{PremisesHold}
use Rattle.ft_laws.specs.Instances.{statement_at, given, IsInstance}
use Rattle.ft_laws.specs.Syntax.{HasClosedBodies}
use Rattle.ft_laws.proofs.Scope.{scope, Fine, AllOfStatement_head}
use Rattle.ft_laws.proofs.Statements.{domain_count-map, object-map, object-opened, equate-map}
use Rattle.ft_laws.proofs.Commute.{ScopedTheory, not_both}
use Rattle.ft_laws.proofs.Sides.{boundary}
use Rattle.ft_laws.proofs.Traverse.{under_abstraction}
use Rattle.ft_laws.proofs.Equal.{reify}
use Rattle.ft_laws.proofs.EqualTerms.{itself, first_domain, at_fresh}
use Rattle.ft_laws.proofs.Instances.{instantiate}
use Rattle.ft_items.specs.Equal.{equal_statements, has_head, head}
use Rattle.ft_items.proofs.SetLemmas.{both}
use Rattle.ft_sound.proofs.EqualLemmas.{statement_true, refill, boundary_depth}
use Rattle.ft_sound.proofs.Good.{look_last}
use Rattle.ft_equality.specs.Programs.{◌>>◌}
use Rattle.ft_equality.specs.Comparing.{for_each, yes_or, same_or, form_statement, heads_equal, boundaries_equal}
use Rattle.ft_equality.specs.Matching.{instance_by, met_by, stands_at, boundaries_fit, equals_each, first_equals, repeats_equal}
use Rattle.ft_equality_laws.proofs.Means.{Below, If, Means}
use Rattle.ft_equality_laws.proofs.Derive.{symmetric_at}
use Rattle.ft_equality_laws.proofs.Opening.{HeadsEqual, Exchange, means_both, means_same_or, heads_mean, boundaries_mean}
use Rattle.ft_equality_laws.proofs.Parts.{means_true, means_map, means_then}
use Rattle.ft_equality_laws.proofs.Walks.{HasPlace, PlaceIn, Goods}
use Rattle.ft_equality_laws.specs.Laws.{Each}
use Rattle.ft_equality_laws.proofs.Each.{each_map}
use Rattle.ft_common.proofs.Options.{none_some as nothing}
use Rattle.std.proofs.lemmas.Bool.{eq-eqb as test_true}
use Rattle.std.proofs.lemmas.Option.{same_Some as Some_injective}

-- of the places of one metavariable
pub met_each : (Q : ℕ × Statement → Type 0) (P : Statement → Type 0) (m : ℕ) (pl : List (ℕ × Statement)) → ((p : ℕ × Statement) → m ≡ p.0 → Q p → P p.1) → Each Q pl → Each P (met_by m pl)
met_each Q P m [] f h = tt
met_each Q P m (p ∷ pl) f h = go (nat_eq m p.0) (eqb-true m p.0) (met_each Q P m pl f h.1)
  where
    go : (b : Bool) → (b ≡ true → m ≡ p.0) → Each P (met_by m pl) → Each P (cond b (p.1 ∷ met_by m pl) (met_by m pl))
    go true e ih = (f p (e refl) h.0, ih)
    go false e ih = ih

-- and back: of each place
pub each_place : (hs : List (ℕ × Statement)) (P : ℕ → Statement → Type 0) (pl : List (ℕ × Statement)) → Each (PlaceIn hs) pl → ((m : ℕ) (b : Statement) → look_up hs m ≡ Some b → Each (P m) (met_by m pl)) → Each (λ p. P p.0 p.1) pl
each_place hs P [] h f = tt
each_place hs P (p ∷ pl) h f = (
  (subst (λ b. Each (P p.0) (cond b (p.1 ∷ met_by p.0 pl) (met_by p.0 pl))) (test_true p.0 p.0 refl) (f p.0 h.0.1 h.0.2)).0,
  each_place hs P pl h.1 (λ m b l. go m (nat_eq m p.0) (f m b l)),
)
  where
    go : (m : ℕ) (b : Bool) → Each (P m) (cond b (p.1 ∷ met_by m pl) (met_by m pl)) → Each (P m) (met_by m pl)
    go m true h = h.1
    go m false h = h

-- the instance has the first place's argument
pub instance_first : (m k : ℕ) (pl : List (ℕ × Statement)) (x : Statement) (xs : List Statement) → met_by m pl ≡ x ∷ xs → Each (λ y. domain_count y ≡ k) (met_by m pl) → instance_by pl m k ≡ Some (head x)
instance_first m k [] x xs e d = absurd (clash e)
  where
    clash : [] ≡ x ∷ xs → ⊥
    clash e = cc
instance_first m k (p ∷ pl) x xs e d = go (nat_eq m p.0) e d (λ e' d'. instance_first m k pl x xs e' d')
  where
    first : List Statement → Statement
    first [] = plain type_goal
    first (y ∷ ys) = y

    go : (b : Bool) → cond b (p.1 ∷ met_by m pl) (met_by m pl) ≡ x ∷ xs → Each (λ y. domain_count y ≡ k) (cond b (p.1 ∷ met_by m pl) (met_by m pl))
        → (met_by m pl ≡ x ∷ xs → Each (λ y. domain_count y ≡ k) (met_by m pl) → instance_by pl m k ≡ Some (head x))
        → cond (b && nat_eq k (domain_count p.1)) (Some (head p.1)) (instance_by pl m k) ≡ Some (head x)
    go true e d ih = ap (λ t. cond t (Some (head p.1)) (instance_by pl m k)) (test_true k (domain_count p.1) (sym d.0)) ∙ ap (λ z. Some (head (first z))) e
    go false e d ih = ih e d

-- what the instance has is closed
pub instance_closed : (pl : List (ℕ × Statement)) → Each (λ p. ClosedAt (domain_count p.1) (head p.1)) pl → HasClosedBodies (instance_by pl)
instance_closed [] h m k e q = nothing q
instance_closed (p ∷ pl) h m k e q = go (nat_eq m p.0 && nat_eq k (domain_count p.1)) refl q (instance_closed pl h.1 m k e)
  where
    go : (b : Bool) → (nat_eq m p.0 && nat_eq k (domain_count p.1)) ≡ b → cond b (Some (head p.1)) (instance_by pl m k) ≡ Some e → (instance_by pl m k ≡ Some e → ClosedAt k e) → ClosedAt k e
    go true t q ih = subst (λ z. ClosedAt k z) (Some_injective (head p.1) e q) (subst (λ l. ClosedAt l (head p.1)) (sym (eqb-true k (domain_count p.1) (both (nat_eq m p.0) (nat_eq k (domain_count p.1)) t).1)) h.0)
    go false t q ih = ih q

module _ (T : List Rule) (M : List (ℕ × Statement)) where
  abbrev pub Exch : List (ℕ × Expression) → Statement → Statement → Type 0
  Exch G b c = (h : Expression) → (Prim T M G (fill b h) → Prim T M G (fill c h)) × (Prim T M G (fill c h) → Prim T M G (fill b h))

  -- the instance has arguments for these premises, which are objects
  abbrev pub Given : List (ℕ × Expression) → (ℕ → ℕ → Option Expression) → List (ℕ × Statement) → Type 0
  Given G I ps = (m : ℕ) (c : Statement) → look_up ps m ≡ Some c → IsObject c × (f : Expression) × (I m (domain_count c) ≡ Some f) × Prim T M G (fill (statement_at I c) f)

  pub given_last : (G : List (ℕ × Expression)) (I : ℕ → ℕ → Option Expression) (ps : List (ℕ × Statement)) (p : ℕ × Statement) (f : Expression) → Given G I ps → IsObject p.1 → I p.0 (domain_count p.1) ≡ Some f → Prim T M G (fill (statement_at I p.1) f) → Given G I (ps ++ (p ∷ []))
  given_last G I ps p f g o e t m c l = go (look_last ps p.0 p.1 m c l)
    where
      go : (look_up ps m ≡ Some c) ⊎ ((m ≡ p.0) × (p.1 ≡ c)) → IsObject c × (f : Expression) × (I m (domain_count c) ≡ Some f) × Prim T M G (fill (statement_at I c) f)
      go (inl r) = g m c r
      go (inr r) = (subst IsObject r.1 o, f, ap (λ z. I z (domain_count c)) r.0 ∙ ap (λ z. I p.0 (domain_count z)) (sym r.1) ∙ e, subst (λ z. Prim T M G (fill (statement_at I z) f)) r.1 t)

  pub given_instance : (G : List (ℕ × Expression)) (I : ℕ → ℕ → Option Expression) (ps : List (ℕ × Statement)) → HasClosedBodies I → Given G I ps → IsInstance T ps [] M G I
  given_instance G I ps cl g = record {
    closed = cl;
    variables = λ v A q. nothing q;
    objects = λ m b q vf o. given (g m b q).1 (g m b q).2 (g m b q).3;
    equations = λ m b q vf e. absurd (not_both b (g m b q).0 e);
  }

module _ (T : List Rule) (sc : ScopedTheory T) (M : List (ℕ × Statement)) where
  pub refl_heads : (G : List (ℕ × Expression)) (b : Statement) (e : Expression) → IsObject b → Prim T M G (fill b e) → Prim T M G (equate b e e)
  refl_heads G b e o p = reify T sc M (domain_count b) G b b e e refl refl o o (itself T sc M G (fill b e) p)

  pub sym_heads : (k : ℕ) (G : List (ℕ × Expression)) (b : Statement) (e f : Expression) → domain_count b ≡ k → IsObject b → Prim T M G (equate b e f) → Prim T M G (equate b f e)
  sym_heads k G (plain c) e f d o p = symmetric_at T M G c e f o p
  sym_heads zero G (abstracted A y) e f d o p = absurd (grind (arith, d))
  sym_heads (suc k) G (abstracted A y) e f d o p =
      under_abstraction T M G A (equate y f e) (first_domain T M G A (equate y e f) p)
      (λ w q r.
      subst (λ z. Prim T M ((w, A) ∷ G) z) (sym (equate-map y (λ l. open_at l (free w)) zero f e))
      (sym_heads k ((w, A) ∷ G) (opened (free w) (abstracted A y)) (open_at (domain_count y + zero) (free w) e) (open_at (domain_count y + zero) (free w) f) (domain_count-map y (λ l. open_at l (free w)) zero ∙ omega (arith, d)) (object-opened (abstracted A y) (free w) o)
      (subst (λ z. Prim T M ((w, A) ∷ G) z) (equate-map y (λ l. open_at l (free w)) zero e f) (at_fresh T sc M G A (equate y e f) w q p))))

  pub refilled : (G : List (ℕ × Expression)) (x : Statement) → has_head x ≡ true → Prim T M G x → Prim T M G (fill (boundary_of x) (head x))
  refilled G x h p = subst (λ z. Prim T M G z) (refill x h).1 p

  closed_head : (G : List (ℕ × Expression)) (x : Statement) → has_head x ≡ true → Prim T M G x → ClosedAt (domain_count x) (head x)
  closed_head G x h p =
      let r : IsObject (boundary_of x) × (x ≡ fill (boundary_of x) (head x)) = refill x h in
      subst (λ l. ClosedAt l (head x)) (omega (arith, boundary_depth x))
      (AllOfStatement_head (boundary_of x) (Fine M G) zero (head x) r.0 (scope T (sequent M G (fill (boundary_of x) (head x))) (subst (λ z. Prim T M G z) r.1 p))).0

  pub places_closed : (hs pl : List (ℕ × Statement)) (G : List (ℕ × Expression)) → Each (PlaceIn hs) pl → Goods T M G pl → HasClosedBodies (instance_by pl)
  places_closed hs pl G h g = instance_closed pl (go pl h g)
    where
      go : (pl : List (ℕ × Statement)) → Each (PlaceIn hs) pl → Goods T M G pl → Each (λ p. ClosedAt (domain_count p.1) (head p.1)) pl
      go [] h g = tt
      go (p ∷ pl) h g = (closed_head G p.1 h.0.0 g.0, go pl h.1 g.1)

  -- the first round
  stands_mean : (n : ℕ) (b x : Statement) → IsObject b → has_head x ≡ true → domain_count x ≡ domain_count b → Means T M n (λ r. If r (Exchange T M n b (boundary_of x))) (stands_at b x)
  stands_mean n b x o h d =
      means_then T M n (λ r. If r (Exchange T M n b (boundary_of x))) (form_statement (boundary_of x)) (◌>>◌ (form_statement b) (yes_or (equal_statements b (boundary_of x)) (boundaries_equal b (boundary_of x))))
      (means_then T M n (λ r. If r (Exchange T M n b (boundary_of x))) (form_statement b) (yes_or (equal_statements b (boundary_of x)) (boundaries_equal b (boundary_of x))) (go (equal_statements b (boundary_of x)) (statement_true b (boundary_of x))))
    where
      go : (t : Bool) → (t ≡ true → b ≡ boundary_of x) → Means T M n (λ r. If r (Exchange T M n b (boundary_of x))) (yes_or t (boundaries_equal b (boundary_of x)))
      go true e = λ G bl p q h. (λ y. subst (λ z. Prim T M G (fill z h)) (e refl) y, λ y. subst (λ z. Prim T M G (fill z h)) (sym (e refl)) y)
      go false e = boundaries_mean T sc M (domain_count b) n b (boundary_of x) refl (boundary_depth x ∙ d) o (refill x h).0

  abbrev AllExchange : ℕ → Statement → List Statement → Type 0
  AllExchange n b xs = (G : List (ℕ × Expression)) → Below n G → Prim T M G b → Each (λ x. Prim T M G x) xs → Each (λ x. Exch T M G b (boundary_of x)) xs

  all_stand_mean : (n : ℕ) (b : Statement) (xs : List Statement) → IsObject b → Each (λ x. (has_head x ≡ true) × (domain_count x ≡ domain_count b)) xs → Means T M n (λ r. If r (AllExchange n b xs)) (for_each (stands_at b) xs)
  all_stand_mean n b [] o h = λ G bl p g. tt
  all_stand_mean n b (x ∷ xs) o h = means_both T M n (Exchange T M n b (boundary_of x)) (AllExchange n b (x ∷ xs)) (stands_at b x) (λ t. for_each (stands_at b) xs) (stands_mean n b x o h.0.0 h.0.1)
      (λ e. means_map T M n (AllExchange n b xs) (AllExchange n b (x ∷ xs)) (for_each (stands_at b) xs) (λ y G bl p g. (e G bl p (boundary T sc (sequent M G x) g.0), y G bl p g.1)) (all_stand_mean n b xs o h.1))

module _ (T : List Rule) (sc : ScopedTheory T) (M hs rest pl : List (ℕ × Statement)) (inside : Each (PlaceIn hs) pl) where
  abbrev pub Fitting : List (ℕ × Expression) → ℕ × Statement → Type 0
  Fitting G q = Each (λ x. Exch T M G (statement_at (instance_by pl) q.1) (boundary_of x)) (met_by q.0 pl)

  abbrev pub FitFact : ℕ → List (ℕ × Statement) → List (ℕ × Statement) → Type 0
  FitFact n before qs = (G : List (ℕ × Expression)) → Below n G → Goods T M G pl → Given T M G (instance_by pl) before → Each (Fitting G) qs × Given T M G (instance_by pl) (before ++ qs)

  -- a premise has a place, and is the one of its name
  abbrev pub Determined : ℕ × Statement → Type 0
  Determined q = IsObject q.1 × HasPlace q.0 pl × (look_up hs q.0 ≡ Some q.1)

  pub met_heads : (q : ℕ × Statement) → Determined q → Each (λ x. (has_head x ≡ true) × (domain_count x ≡ domain_count q.1)) (met_by q.0 pl)
  met_heads q d = met_each (PlaceIn hs) (λ x. (has_head x ≡ true) × (domain_count x ≡ domain_count q.1)) q.0 pl
      (λ p e i. (i.0, i.4 ∙ ap domain_count (Some_injective i.1 q.1 (sym i.2 ∙ ap (look_up hs) (sym e) ∙ d.2)))) inside

  one_premise : (n : ℕ) (before qs : List (ℕ × Statement)) (q : ℕ × Statement) → Determined q → Prim T before [] q.1 → AllExchange T sc M n (statement_at (instance_by pl) q.1) (met_by q.0 pl) → FitFact n (before ++ (q ∷ [])) qs → FitFact n before (q ∷ qs)
  one_premise n before qs q d hp x y G bl g gi =
      let B : Statement = statement_at (instance_by pl) q.1 in
      let cl : HasClosedBodies (instance_by pl) = places_closed T sc M hs pl G inside g in
      let pb : Prim T M G B = instantiate T sc before [] M G (instance_by pl) q.1 (given_instance T M G (instance_by pl) before cl gi) hp in
      let gm : Each (λ z. Prim T M G z) (met_by q.0 pl) = met_each (λ p. Prim T M G p.1) (λ z. Prim T M G z) q.0 pl (λ p e t. t) g in
      let ex : Fitting G q = x G bl pb gm in
      let hd : Each (λ z. (has_head z ≡ true) × (domain_count z ≡ domain_count q.1)) (met_by q.0 pl) = met_heads q d in
      let z : Statement = d.1.0 in
      let zs : List Statement = d.1.1 in
      let m : met_by q.0 pl ≡ z ∷ zs = d.1.2 in
      let fz : Prim T M G (fill (boundary_of z) (head z)) = refilled T sc M G z (subst (λ xs. Each (λ z. (has_head z ≡ true) × (domain_count z ≡ domain_count q.1)) xs) m hd).0.0 (subst (λ xs. Each (λ z. Prim T M G z) xs) m gm).0 in
      let fb : Prim T M G (fill B (head z)) = ((subst (λ xs. Each (λ w. Exch T M G B (boundary_of w)) xs) m ex).0 (head z)).1 fz in
      let is : instance_by pl q.0 (domain_count q.1) ≡ Some (head z) = instance_first q.0 (domain_count q.1) pl z zs m (each_map (λ w. (has_head w ≡ true) × (domain_count w ≡ domain_count q.1)) (λ w. domain_count w ≡ domain_count q.1) (met_by q.0 pl) (λ w i. i.1) hd) in
      let r : Each (Fitting G) qs × Given T M G (instance_by pl) ((before ++ (q ∷ [])) ++ qs) = y G bl g (given_last T M G (instance_by pl) before q (head z) gi d.0 is fb) in
      ((ex, r.0), subst (λ w. Given T M G (instance_by pl) w) (append_assoc before (q ∷ []) qs) r.1)

  pub fits_mean : (n : ℕ) (before qs : List (ℕ × Statement)) → PremisesHold (λ N x. Prim T N [] x) before (qs ++ rest) → Each Determined qs → Means T M n (λ r. If r (FitFact n before qs)) (boundaries_fit (instance_by pl) (qs ++ rest) pl)
  fits_mean n before [] h d = means_true T M n (FitFact n before []) (boundaries_fit (instance_by pl) rest pl) (λ G bl g gi. (tt, subst (λ z. Given T M G (instance_by pl) z) (sym (append-nil before)) gi))
  fits_mean n before (q ∷ qs) h d =
      means_both T M n (AllExchange T sc M n (statement_at (instance_by pl) q.1) (met_by q.0 pl)) (FitFact n before (q ∷ qs)) (for_each (stands_at (statement_at (instance_by pl) q.1)) (met_by q.0 pl)) (λ t. boundaries_fit (instance_by pl) (qs ++ rest) pl)
      (all_stand_mean T sc M n (statement_at (instance_by pl) q.1) (met_by q.0 pl) (object-map q.1 (λ z. act free (instance_by pl)) zero d.0.0) (heads_again q d.0))
      (λ x. means_map T M n (FitFact n (before ++ (q ∷ [])) qs) (FitFact n before (q ∷ qs)) (boundaries_fit (instance_by pl) (qs ++ rest) pl) (λ y. one_premise n before qs q d.0 h.2 x y) (fits_mean n (before ++ (q ∷ [])) qs h.3 d.1))
    where
      heads_again : (q : ℕ × Statement) → Determined q → Each (λ x. (has_head x ≡ true) × (domain_count x ≡ domain_count (statement_at (instance_by pl) q.1))) (met_by q.0 pl)
      heads_again q d = subst (λ k. Each (λ x. (has_head x ≡ true) × (domain_count x ≡ k)) (met_by q.0 pl)) (sym (domain_count-map q.1 (λ z. act free (instance_by pl)) zero)) (met_heads q d)

  -- the second round
  abbrev pub FirstEquals : List (ℕ × Expression) → List Statement → Type 0
  FirstEquals G [] = Unit {0}
  FirstEquals G (x ∷ xs) = Each (λ y. Prim T M G (equate (boundary_of y) (head y) (head x))) (x ∷ xs)

  abbrev pub RepeatFact : ℕ → List (ℕ × Statement) → Type 0
  RepeatFact n qs = (G : List (ℕ × Expression)) → Below n G → Goods T M G pl → Each (Fitting G) qs → Each (λ q. FirstEquals G (met_by q.0 pl)) qs

  abbrev EqualsEach : ℕ → Expression → List Statement → Type 0
  EqualsEach n e xs = (G : List (ℕ × Expression)) → Below n G → Each (λ y. Prim T M G (fill (boundary_of y) e)) xs → Each (λ y. Prim T M G y) xs → Each (λ y. Prim T M G (equate (boundary_of y) (head y) e)) xs

  equals_each_mean : (n : ℕ) (e : Expression) (xs : List Statement) → Each (λ x. has_head x ≡ true) xs → Means T M n (λ r. If r (EqualsEach n e xs)) (equals_each e xs)
  equals_each_mean n e [] h = λ G bl f p. tt
  equals_each_mean n e (x ∷ xs) h =
      means_both T M n (HeadsEqual T M n (boundary_of x) e (head x)) (EqualsEach n e (x ∷ xs)) (same_or e (head x) (heads_equal (boundary_of x) e (head x))) (λ t. equals_each e xs)
      (means_same_or T M n (HeadsEqual T M n (boundary_of x) e (head x)) e (head x) (heads_equal (boundary_of x) e (head x))
      (λ i G bl p q. subst (λ z. Prim T M G (equate (boundary_of x) e z)) i (refl_heads T sc M G (boundary_of x) e (refill x h.0).0 p))
      (heads_mean T sc M (domain_count (boundary_of x)) n (boundary_of x) e (head x) refl (refill x h.0).0))
      (λ k. means_map T M n (EqualsEach n e xs) (EqualsEach n e (x ∷ xs)) (equals_each e xs)
      (λ y G bl f p. (sym_heads T sc M (domain_count (boundary_of x)) G (boundary_of x) e (head x) refl (refill x h.0).0 (k G bl f.0 (refilled T sc M G x h.0 p.0)), y G bl f.1 p.1))
      (equals_each_mean n e xs h.1))

  abbrev FirstFact : ℕ → Statement → List Statement → Type 0
  FirstFact n b xs = (G : List (ℕ × Expression)) → Below n G → Each (λ y. Prim T M G y) xs → Each (λ x. Exch T M G b (boundary_of x)) xs → FirstEquals G xs

  first_mean : (n : ℕ) (b : Statement) (xs : List Statement) → Each (λ x. has_head x ≡ true) xs → Means T M n (λ r. If r (FirstFact n b xs)) (first_equals xs)
  first_mean n b [] h = λ G bl p ex. tt
  first_mean n b (x ∷ xs) h = means_map T M n (EqualsEach n (head x) xs) (FirstFact n b (x ∷ xs)) (equals_each (head x) xs)
      (λ y G bl p ex.
      let px : Prim T M G (fill (boundary_of x) (head x)) = refilled T sc M G x h.0 p.0 in
      let pb : Prim T M G (fill b (head x)) = (ex.0 (head x)).1 px in (
        refl_heads T sc M G (boundary_of x) (head x) (refill x h.0).0 px,
        y G bl (each_map (λ w. Exch T M G b (boundary_of w)) (λ w. Prim T M G (fill (boundary_of w) (head x))) xs (λ w e. (e (head x)).0 pb) ex.1) p.1,
      ))
      (equals_each_mean n (head x) xs h.1)

  pub repeats_mean : (n : ℕ) (qs : List (ℕ × Statement)) → Each Determined qs → Means T M n (λ r. If r (RepeatFact n qs)) (repeats_equal (qs ++ rest) pl)
  repeats_mean n [] d = means_true T M n (RepeatFact n []) (repeats_equal rest pl) (λ G bl g f. tt)
  repeats_mean n (q ∷ qs) d = means_both T M n (FirstFact n (statement_at (instance_by pl) q.1) (met_by q.0 pl)) (RepeatFact n (q ∷ qs)) (first_equals (met_by q.0 pl)) (λ t. repeats_equal (qs ++ rest) pl)
      (first_mean n (statement_at (instance_by pl) q.1) (met_by q.0 pl) (each_map (λ w. (has_head w ≡ true) × (domain_count w ≡ domain_count q.1)) (λ w. has_head w ≡ true) (met_by q.0 pl) (λ w i. i.0) (met_heads q d.0)))
      (λ x. means_map T M n (RepeatFact n qs) (RepeatFact n (q ∷ qs)) (repeats_equal (qs ++ rest) pl)
      (λ y G bl g f. (x G bl (met_each (λ p. Prim T M G p.1) (λ z. Prim T M G z) q.0 pl (λ p e t. t) g) f.0, y G bl g f.1)) (repeats_mean n qs d.1))
