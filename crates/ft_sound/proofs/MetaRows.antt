-- The rows of the steps that name a variable or a metavariable.
use Rattle.std.proofs.Common.{◌≡◌, ◌≢◌, ℕ, zero, suc, ◌+◌, ◌<◌, ◌≤◌, Bool, true, false, cond, nat_eq, ◌&&◌, not, Option, Some, None, List, [], ◌∷◌, ◌++◌, ◌⊎◌, inl, inr, refl, sym, ap, ap₂, ◌∙◌, subst, arith}
use Rattle.std.proofs.lemmas.Bool.{eqb-true, and_parts}
use Rattle.std.proofs.lemmas.Option.{same_Some}
use Rattle.ft_common.proofs.Booleans.{true_false}
use Rattle.ft_common.proofs.Choices.{if_same, if_other}
use Rattle.ft_theory.specs.Expressions.{Expression, bound, free, symbol, meta, Arguments, Terms, no_terms, also, count, open_at, open_terms, ClosedAt}
use Rattle.ft_theory.specs.Statements.{is_type, has_type, Statement, plain, abstracted, close_statement, opened, domain, domain_count, at, fill, equate, IsObject, IsEquation}
use Rattle.ft_theory.specs.Rules.{look_up, Rule, term_typings, term_equations}
use Rattle.ft_theory.specs.Steps.{sequent, sequents, IsVariableFree, Unmentioned, Step, metavariable, metavariable_equation, abstraction, Trees, node, none, more, Prim}
use Rattle.ft_theory.specs.WideSteps.{metavariable_at_equal_terms}
use Rattle.ft_laws.proofs.Opens.{by_test}
use Rattle.ft_laws.proofs.Fresh.{fresh_absent}
use Rattle.ft_laws.proofs.Commute.{ScopedTheory}
use Rattle.ft_laws.proofs.Scope.{scope, equation-at}
use Rattle.ft_laws.proofs.Statements.{fill-map, fill_any, domain_count-opened}
use Rattle.ft_laws.proofs.Steps.{do_variable}
use Rattle.ft_laws.proofs.Traverse.{Grows, Grows_add, Grows_refl, absent_without, under_abstraction, look_here}
use Rattle.ft_laws.proofs.Substitute.{weaken, weaken_all}
use Rattle.ft_laws.proofs.EqualTerms.{first_domain, at_fresh}
use Rattle.ft_laws.proofs.Admissible.{admissible}
use Rattle.ft_items.specs.Sets.{Atom, met, var, insert, union, unions, without, Has, Within}
use Rattle.ft_items.specs.Equal.{is_object, typed, terms, paired, left_terms, right_terms}
use Rattle.ft_items.specs.Store.{Assertion, Annotation, Declared, nth, boundaries_in, annotations_in, Derivable, Declarations}
use Rattle.ft_items.specs.Rows.{statements, sets, bounds}
use Rattle.ft_items.specs.Rows as row
use Rattle.ft_items.proofs.SetLemmas.{by_bool, insert_new, insert_old, has_union, union_left, union_right, has_without, without_has, ascending_union, ascending_without, has_false}
use Rattle.ft_sound.proofs.EqualLemmas.{object_true, typed_true, paired_true}
use Rattle.ft_sound.proofs.Valid.{MetIn, VarIn, look_mets, mets_look, look_vars, vars_look, Declares, Proper, Valid, AllValid, WellFormed, sound_rules, scoped_rules, up, up_all, global, proper_unions, proper_union, proper_insert}
use Rattle.ft_sound.proofs.Structural.{from_when}

-- terms that begin with free variables
abbrev pub frees : List ℕ → Terms → Terms
frees [] a = a
frees (v ∷ vs) a = also (free v) (frees vs a)

frees_last : (vs : List ℕ) (w : ℕ) (a : Terms) → frees (vs ++ (w ∷ [])) a ≡ frees vs (also (free w) a)
frees_last [] w a = refl
frees_last (v ∷ vs) w a = ap (also (free v)) (frees_last vs w a)

frees_count : (vs : List ℕ) (w : ℕ) → count (frees (vs ++ (w ∷ [])) no_terms) ≡ suc (count (frees vs no_terms))
unfolding count
frees_count [] w = refl
frees_count (v ∷ vs) w = ap suc (frees_count vs w)

open_frees : (vs : List ℕ) (k : ℕ) (t : Expression) (a : Terms) → open_terms k t (frees vs a) ≡ frees vs (open_terms k t a)
unfolding open_at open_terms
open_frees [] k t a = refl
open_frees (v ∷ vs) k t a = ap (also (free v)) (open_frees vs k t a)

open_bounds : (k j : ℕ) (t : Expression) → j ≤ k → open_terms k t (bounds j) ≡ bounds j
unfolding open_at open_terms
open_bounds k zero t h = refl
open_bounds k (suc j) t h = ap₂ also (if_other j k t (bound j) (λ e. grind (arith, e, h))) (open_bounds k j t (omega (arith, h)))

-- the outermost bound variable opened
open_generic : (vs : List ℕ) (k m w : ℕ) → open_at k (free w) (meta m (frees vs (bounds (suc k)))) ≡ meta m (frees (vs ++ (w ∷ [])) (bounds k))
unfolding open_at open_terms
open_generic vs k m w = ap (meta m) (open_frees vs k (free w) (bounds (suc k))
    ∙ ap (frees vs) (ap₂ also (if_same k k (free w) (bound k) refl) (open_bounds k k (free w) (omega arith)))
    ∙ sym (frees_last vs w (bounds k)))

at_last : (vs : List ℕ) (w : ℕ) (b : Statement) → at b (frees (vs ++ (w ∷ [])) no_terms) ≡ opened (free w) (at b (frees vs no_terms))
at_last [] w b = refl
at_last (v ∷ vs) w b = at_last vs w (opened (free v) b)

typings_last : (T : List Rule) (M : List (ℕ × Statement)) (G : List (ℕ × Expression)) (vs : List ℕ) (w : ℕ) (b : Statement) → Trees (Step T) (sequents M G (term_typings b (frees vs no_terms)))
    → Prim T M G (plain (has_type (free w) (domain (at b (frees vs no_terms))))) → Trees (Step T) (sequents M G (term_typings b (frees (vs ++ (w ∷ [])) no_terms)))
typings_last T M G [] w b ts p = more p none
typings_last T M G (v ∷ vs) w b (more t ts) p = more t (typings_last T M G vs w (opened (free v) b) ts p)

-- the metavariable step, for objects and equations
pub meta_step : (T : List Rule) (M : List (ℕ × Statement)) (G : List (ℕ × Expression)) (m : ℕ) (b : Statement) (a : Terms) → look_up M m ≡ Some b → IsVariableFree b → IsObject b ⊎ IsEquation b → count a ≡ domain_count b
    → Prim T M G b → Trees (Step T) (sequents M G (term_typings b a)) → Prim T M G (fill (at b a) (meta m a))
meta_step T M G m b a q gl (inl o) d p ts = node (sequent M G b ∷ sequents M G (term_typings b a)) (metavariable m b a q gl o d) (more p ts)
meta_step T M G m b a q gl (inr o) d p ts = subst (Prim T M G) (fill_any (at b a) (bound zero) (meta m a) (equation-at a b o))
    (node (sequent M G b ∷ sequents M G (term_typings b a)) (metavariable_equation m b a q gl o d) (more p ts))

-- a metavariable applied to variables and bound variables, where some domains are opened already
generic_from : (T : List Rule) → ScopedTheory T → (M : List (ℕ × Statement)) (m : ℕ) (b : Statement) → look_up M m ≡ Some b → IsVariableFree b → IsObject b ⊎ IsEquation b
    → (n : ℕ) (G : List (ℕ × Expression)) (vs : List ℕ) (y : Statement) → at b (frees vs no_terms) ≡ y → domain_count y ≡ n → count (frees vs no_terms) + n ≡ domain_count b
    → Prim T M G b → Trees (Step T) (sequents M G (term_typings b (frees vs no_terms))) → Prim T M G y → Prim T M G (fill y (meta m (frees vs (bounds n))))
generic_from T sc M m b q gl o n G vs (plain c) e d d' pb ts p =
    let z : zero ≡ n = d in
    subst (λ k. Prim T M G (fill (plain c) (meta m (frees vs (bounds k))))) z
    (subst (λ y. Prim T M G (fill y (meta m (frees vs no_terms)))) e (meta_step T M G m b (frees vs no_terms) q gl o (omega (arith, d', z)) pb ts))
generic_from T sc M m b q gl o zero G vs (abstracted A y) e d d' pb ts p = absurd (grind (arith, d))
generic_from T sc M m b q gl o (suc k) G vs (abstracted A y) e d d' pb ts p =
    under_abstraction T M G A (fill y (meta m (frees vs (bounds (suc k))))) (first_domain T M G A y p) (λ w fr fr'.
    let K : List (ℕ × Expression) = (w, A) ∷ G in
    let g : Grows G K = Grows_add G G w A (Grows_refl G) (fresh_absent G w fr) in
    let pw : Prim T M K (plain (has_type (free w) A)) = do_variable w (look_here G w A) (weaken T sc M M G K (plain (is_type A)) (λ m b q. q) g (first_domain T M G A y p)) in
    let dy : domain_count y ≡ k = omega (arith, d) in
    subst (λ z. Prim T M K z) (sym (fill-map y (λ l. open_at l (free w)) zero (meta m (frees vs (bounds (suc k))))
    ∙ ap (λ l. fill (opened (free w) (abstracted A y)) (open_at l (free w) (meta m (frees vs (bounds (suc k)))))) (omega (arith, dy))
    ∙ ap (fill (opened (free w) (abstracted A y))) (open_generic vs k m w)))
    (generic_from T sc M m b q gl o k K (vs ++ (w ∷ [])) (opened (free w) (abstracted A y))
    (at_last vs w b ∙ ap (opened (free w)) e)
    (domain_count-opened (abstracted A y) (free w) k d)
    (ap (λ z. z + k) (frees_count vs w) ∙ omega (arith, d'))
    (weaken T sc M M G K b (λ m b q. q) g pb)
    (typings_last T M K vs w b (weaken_all T sc M G K (term_typings b (frees vs no_terms)) g ts) (subst (λ z. Prim T M K (plain (has_type (free w) (domain z)))) (sym e) pw))
    (at_fresh T sc M G A y w fr p)))

pub generic : (T : List Rule) → ScopedTheory T → (M : List (ℕ × Statement)) (G : List (ℕ × Expression)) (m : ℕ) (b : Statement) → look_up M m ≡ Some b → IsVariableFree b → IsObject b ⊎ IsEquation b → Prim T M G b → Prim T M G (fill b (meta m (bounds (domain_count b))))
unfolding count
generic T sc M G m b q gl o p = generic_from T sc M m b q gl o (domain_count b) G [] b refl refl (omega arith) p none p

-- no other variable of the set rests on v
depends_false : (G : List (ℕ × Annotation)) (v : ℕ) (S : List Atom) → row.depends G v S ≡ false → (w : ℕ) (d : Annotation) → Has (var w) S → w ≢ v → look_up G w ≡ Some d → Has (var v) d.set → ⊥
depends_false G v [] h w d k n q r = k
depends_false G v (met m ∷ S) h w d (inl e) n q r = clash e
  where
    clash : var w ≡ met m → ⊥
    clash e = cc
depends_false G v (met m ∷ S) h w d (inr k) n q r = depends_false G v S h w d k n q r
depends_false G v (var u ∷ S) h w d k n q r = by_bool ⊥ (not (nat_eq u v) && row.rests_on v (look_up G u))
    (λ t. true_false (ap (λ b. cond b true (row.depends G v S)) (sym t) ∙ h))
    (λ t. go k (λ j. depends_false G v S (ap (λ b. cond b true (row.depends G v S)) (sym t) ∙ h) w d j n q r) t)
  where
    inner : var w ≡ var u → w ≡ u
    inner e = cc

    test : (b c : Bool) → b ≡ false → (not b && c) ≡ false → c ≡ false
    test true c h k = true_false h
    test false c h k = k

    differs : u ≢ v → nat_eq u v ≡ false
    differs n = by_bool (nat_eq u v ≡ false) (nat_eq u v) (λ t. absurd (n (eqb-true u v t))) (λ t. t)

    here_false : u ≡ w → (not (nat_eq u v) && row.rests_on v (look_up G u)) ≡ false → ⊥
    here_false e t = has_false (var v) d.set
        (ap (row.rests_on v) (sym q ∙ ap (look_up G) (sym e)) ∙ test (nat_eq u v) (row.rests_on v (look_up G u)) (differs (λ f. n (sym e ∙ f))) t) r

    go : Has (var w) (var u ∷ S) → (Has (var w) S → ⊥) → (not (nat_eq u v) && row.rests_on v (look_up G u)) ≡ false → ⊥
    go (inl e) ih t = here_false (sym (inner e)) t
    go (inr k) ih t = ih k

module _ (W : Declarations) (F : WellFormed W) where
  -- abstraction
  abs_set : ℕ → Annotation → List Atom → List Atom
  abs_set v d S = union d.set (without (var v) S)

  pub do_abs_proper : (v : ℕ) (d : Annotation) (S : List Atom) → look_up W.variables v ≡ Some d → row.depends W.variables v S ≡ false → Proper W S → Proper W (union d.set (without (var v) S))
  do_abs_proper v d S q h p = record {
    ascending = ascending_union d.set (without (var v) S) (ascending_without (var v) S p.ascending);
    closed = λ a k. go a (has_union a d.set (without (var v) S) k);
  }
    where
      D : Proper W d.set
      D = (F.variables v d q).0.proper

      -- what an atom of the set other than v rests on isn't v
      apart : (a : Atom) (R : List Atom) → Has a S → a ≢ var v → Declares W a R → Has (var v) R → ⊥
      apart (met m) R k n de r = (F.metavariables m de.0 de.1).2 v (subst (Has (var v)) (sym de.2) r)
      apart (var w) R k n de r = depends_false W.variables v S h w de.0 k (λ e. n (ap var e)) de.1 (subst (Has (var v)) (sym de.2) r)

      go : (a : Atom) → Has a d.set ⊎ Has a (without (var v) S) → (R : List Atom) × Declares W a R × Within R (union d.set (without (var v) S))
      go a (inl k) = let r : (R : List Atom) × Declares W a R × Within R d.set = D.closed a k in (r.0, r.1, λ c j. union_left c d.set (without (var v) S) (r.2 c j))
      go a (inr k) =
          let b : Has a S × (a ≢ var v) = has_without a (var v) S k in
          let r : (R : List Atom) × Declares W a R × Within R S = p.closed a b.0 in
          (r.0, r.1, λ c j. union_right c d.set (without (var v) S) (without_has c (var v) S (r.2 c j) (λ e. apart a r.0 b.0 b.1 r.1 (subst (λ z. Has z r.0) e j))))

  -- v isn't in the new set, nor in what its variables rest on
  abs_absent : (v : ℕ) (d : Annotation) (S : List Atom) → look_up W.variables v ≡ Some d → Has (var v) (union d.set (without (var v) S)) → ⊥
  abs_absent v d S q k = go (has_union (var v) d.set (without (var v) S) k)
    where
      go : Has (var v) d.set ⊎ Has (var v) (without (var v) S) → ⊥
      go (inl k) = let l : v < v = (F.variables v d q).1 v k in omega (arith, l)
      go (inr k) = (has_without (var v) (var v) S k).1 refl

  abs_unmentioned : (v : ℕ) (d : Annotation) (S : List Atom) → look_up W.variables v ≡ Some d → row.depends W.variables v S ≡ false → Unmentioned v (annotations_in W (union d.set (without (var v) S)))
  abs_unmentioned v d S q h u B r =
      let i : VarIn W (union d.set (without (var v) S)) u B = look_vars W (union d.set (without (var v) S)) u B r in
      let p : Valid W (plain (is_type i.0.annotation)) i.0.set = (F.variables u i.0 i.2).0 in
      subst (λ z. Rattle.ft_theory.specs.Expressions.Without v z) i.3
      (absent_without (boundaries_in W i.0.set) (annotations_in W i.0.set) v zero i.0.annotation (absent i.0 (λ k. rests u i.0 i.1 i.2 k)) (scope W.rules (sequent (boundaries_in W i.0.set) (annotations_in W i.0.set) (plain (is_type i.0.annotation))) p.derivable))
    where
      D : Valid W (plain (is_type d.annotation)) d.set
      D = (F.variables v d q).0

      self : Has (var v) d.set → ⊥
      self k = let l : v < v = (F.variables v d q).1 v k in omega (arith, l)

      absent : (c : Annotation) → (Has (var v) c.set → ⊥) → look_up (annotations_in W c.set) v ≡ None
      absent c n = none_or (look_up (annotations_in W c.set) v) (λ A e. n (look_vars W c.set v A e).1)
        where
          none_or : (o : Option Expression) → ((A : Expression) → o ≡ Some A → ⊥) → o ≡ None
          none_or None f = refl
          none_or (Some A) f = absurd (f A refl)

      rests : (u : ℕ) (c : Annotation) → Has (var u) (union d.set (without (var v) S)) → look_up W.variables u ≡ Some c → Has (var v) c.set → ⊥
      rests u c k e j = go (has_union (var u) d.set (without (var v) S) k)
        where
          same_set_of : (R : List Atom) → Declares W (var u) R → c.set ≡ R
          same_set_of R de = ap (λ (x : Annotation). x.set) (same_Some c de.0 (sym e ∙ de.1)) ∙ de.2

          go : Has (var u) d.set ⊎ Has (var u) (without (var v) S) → ⊥
          go (inl k) = let r : (R : List Atom) × Declares W (var u) R × Within R d.set = D.proper.closed (var u) k in self (r.2 (var v) (subst (Has (var v)) (same_set_of r.0 r.1) j))
          go (inr k) =
              let b : Has (var u) S × (var u ≢ var v) = has_without (var u) (var v) S k in
              depends_false W.variables v S h u c b.0 (λ f. b.1 (ap var f)) e j

  pub do_abs : (v : ℕ) (d : Annotation) (x : Statement) (S : List Atom) → look_up W.variables v ≡ Some d → row.depends W.variables v S ≡ false → Derivable W x S → Derivable W (abstracted d.annotation (close_statement v x)) (union d.set (without (var v) S))
  do_abs v d x S q h p =
      let R : List Atom = union d.set (without (var v) S) in
      node (sequent (boundaries_in W R) (annotations_in W R) (plain (is_type d.annotation)) ∷ sequent (boundaries_in W R) ((v, d.annotation) ∷ annotations_in W R) x ∷ [])
      (abstraction v d.annotation x (absent (λ k. abs_absent v d S q k)) (abs_unmentioned v d S q h))
      (more (up W (scoped_rules W F) (plain (is_type d.annotation)) d.set R (λ a k. union_left a d.set (without (var v) S) k) (F.variables v d q).0.derivable)
      (more (weaken W.rules (scoped_rules W F) (boundaries_in W S) (boundaries_in W R) (annotations_in W S) ((v, d.annotation) ∷ annotations_in W R) x mets vars p) none))
    where
      R : List Atom
      R = union d.set (without (var v) S)

      absent : (Has (var v) R → ⊥) → look_up (annotations_in W R) v ≡ None
      absent n = none_or (look_up (annotations_in W R) v) (λ A e. n (look_vars W R v A e).1)
        where
          none_or : (o : Option Expression) → ((A : Expression) → o ≡ Some A → ⊥) → o ≡ None
          none_or None f = refl
          none_or (Some A) f = absurd (f A refl)

      mets : (m : ℕ) (b : Statement) → look_up (boundaries_in W S) m ≡ Some b → look_up (boundaries_in W R) m ≡ Some b
      mets m b e =
          let i : MetIn W S m b = look_mets W S m b e in
          mets_look W R m i.0 (union_right (met m) d.set (without (var v) S) (without_has (met m) (var v) S i.1 (λ (f : met m ≡ var v). cc))) i.2 ∙ ap Some i.3

      vars : (u : ℕ) (A : Expression) → look_up (annotations_in W S) u ≡ Some A → look_up ((v, d.annotation) ∷ annotations_in W R) u ≡ Some A
      vars u A e =
          let i : VarIn W S u A = look_vars W S u A e in
          by_test (look_up ((v, d.annotation) ∷ annotations_in W R) u ≡ Some A) u v
          (λ f. if_same u v (Some d.annotation) (look_up (annotations_in W R) u) f ∙ ap (λ (c : Annotation). Some c.annotation) (same_Some d i.0 (sym q ∙ ap (look_up W.variables) (sym f) ∙ i.2)) ∙ ap Some i.3)
          (λ n. if_other u v (Some d.annotation) (look_up (annotations_in W R) u) n
          ∙ vars_look W R u i.0 (union_right (var u) d.set (without (var v) S) (without_has (var u) (var v) S i.1 (λ (f : var u ≡ var v). n (cc)))) i.2 ∙ ap Some i.3)

  pub do_var : (v : ℕ) (d : Annotation) → look_up W.variables v ≡ Some d → Valid W (plain (has_type (free v) d.annotation)) (insert (var v) d.set)
  do_var v d q =
      let D : Valid W (plain (is_type d.annotation)) d.set = (F.variables v d q).0 in
      record {
        proper = proper_insert W (var v) d.set d.set (d, q, refl) (λ a k. k) D.proper;
        derivable = do_variable v (vars_look W (insert (var v) d.set) v d (insert_new (var v) d.set) q)
            (up W (scoped_rules W F) (plain (is_type d.annotation)) d.set (insert (var v) d.set) (λ a k. insert_old a (var v) d.set k) D.derivable);
      }

  pub do_generic : (m : ℕ) (d : Declared) → nth W.metavariables m ≡ Some d → Valid W (fill d.boundary (meta m (bounds (domain_count d.boundary)))) (insert (met m) d.set)
  do_generic m d q =
      let D : Valid W d.boundary d.set = (F.metavariables m d q).0 in
      record {
        proper = proper_insert W (met m) d.set d.set (d, q, refl) (λ a k. k) D.proper;
        derivable = generic W.rules (scoped_rules W F) (boundaries_in W (insert (met m) d.set)) (annotations_in W (insert (met m) d.set)) m d.boundary (mets_look W (insert (met m) d.set) m d (insert_new (met m) d.set) q)
            (global W d.boundary d.set D.derivable (F.metavariables m d q).2) (F.metavariables m d q).1
            (up W (scoped_rules W F) d.boundary d.set (insert (met m) d.set) (λ a k. insert_old a (met m) d.set k) D.derivable);
      }

  meta_proper : (m : ℕ) (d : Declared) → nth W.metavariables m ≡ Some d → (U : List Atom) → Proper W U → Proper W (insert (met m) (union d.set U))
  meta_proper m d q U p = proper_insert W (met m) d.set (union d.set U) (d, q, refl) (λ a k. union_left a d.set U k) (proper_union W d.set U (F.metavariables m d q).0.proper p)

  pub do_meta : (m : ℕ) (d : Declared) → nth W.metavariables m ≡ Some d → (ps : List Assertion) → AllValid W ps → (y : Statement) → row.applied_meta m d.boundary (statements ps) ≡ Some y → Valid W y (insert (met m) (union d.set (unions (sets ps))))
  do_meta m d q ps vs y e =
      let U : List Atom = unions (sets ps) in
      let R : List Atom = insert (met m) (union d.set U) in
      let D : Valid W d.boundary d.set = (F.metavariables m d q).0 in
      record {
        proper = meta_proper m d q U (proper_unions W ps vs);
        derivable = from_when (λ z. Derivable W z R) (typed d.boundary (statements ps)) (fill (at d.boundary (terms (statements ps))) (meta m (terms (statements ps)))) y e (λ h.
            let t : (count (terms (statements ps)) ≡ domain_count d.boundary) × (term_typings d.boundary (terms (statements ps)) ≡ statements ps) = typed_true (statements ps) d.boundary h in
            meta_step W.rules (boundaries_in W R) (annotations_in W R) m d.boundary (terms (statements ps)) (mets_look W R m d (insert_new (met m) (union d.set U)) q)
            (global W d.boundary d.set D.derivable (F.metavariables m d q).2) (F.metavariables m d q).1 t.0
            (up W (scoped_rules W F) d.boundary d.set R (λ a k. insert_old a (met m) (union d.set U) (union_left a d.set U k)) D.derivable)
            (subst (λ z. Trees (Step W.rules) (sequents (boundaries_in W R) (annotations_in W R) z)) (sym t.1) (up_all W (scoped_rules W F) ps R (λ a k. insert_old a (met m) (union d.set U) (union_right a d.set U k)) vs)));
      }

  pub do_meta_congruence : (m : ℕ) (d : Declared) → nth W.metavariables m ≡ Some d → (es : List Assertion) → AllValid W es → (y : Statement) → row.meta_congruence m d.boundary (statements es) ≡ Some y → Valid W y (insert (met m) (union d.set (unions (sets es))))
  do_meta_congruence m d q es vs y e =
      let U : List Atom = unions (sets es) in
      let R : List Atom = insert (met m) (union d.set U) in
      let D : Valid W d.boundary d.set = (F.metavariables m d q).0 in
      let l : Terms = left_terms (statements es) in
      let r : Terms = right_terms (statements es) in
      record {
        proper = meta_proper m d q U (proper_unions W es vs);
        derivable = from_when (λ z. Derivable W z R) (is_object d.boundary && paired d.boundary (statements es)) (equate (at d.boundary l) (meta m l) (meta m r)) y e (λ h.
            let k : (is_object d.boundary ≡ true) × (paired d.boundary (statements es) ≡ true) = and_parts (is_object d.boundary) (paired d.boundary (statements es)) h in
            let t : (count l ≡ domain_count d.boundary) × (count r ≡ domain_count d.boundary) × (term_equations d.boundary l r ≡ statements es) = paired_true (statements es) d.boundary k.1 in
            admissible W.rules (sound_rules W F) 6 (sequent (boundaries_in W R) (annotations_in W R) d.boundary ∷ sequents (boundaries_in W R) (annotations_in W R) (term_equations d.boundary l r)) (sequent (boundaries_in W R) (annotations_in W R) (equate (at d.boundary l) (meta m l) (meta m r)))
            (metavariable_at_equal_terms m d.boundary l r (mets_look W R m d (insert_new (met m) (union d.set U)) q) (global W d.boundary d.set D.derivable (F.metavariables m d q).2) (object_true d.boundary k.0) t.0 t.1)
            (more (up W (scoped_rules W F) d.boundary d.set R (λ a k. insert_old a (met m) (union d.set U) (union_left a d.set U k)) D.derivable)
            (subst (λ z. Trees (Step W.rules) (sequents (boundaries_in W R) (annotations_in W R) z)) (sym t.2) (up_all W (scoped_rules W F) es R (λ a k. insert_old a (met m) (union d.set U) (union_right a d.set U k)) vs))));
      }
