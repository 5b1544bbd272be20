-- Normal forms argument by argument.
use Rattle.std.proofs.Common.{◌≡◌, ℕ, zero, suc, Bool, true, false, cond, nat_eq, Option, Some, None, List, [], ◌∷◌, ◌++◌, ◌⊎◌, inl, inr, refl, sym, ap, ◌∙◌, subst, arith, eqb-true, append_assoc}
use Rattle.std.specs.Prelude.{not}
use Rattle.ft_theory.specs.Expressions.{Expression, bound, free, symbol, meta, Arguments, no_arguments, with_body, dummy, Terms, no_terms, also, count, act}
use Rattle.ft_theory.specs.Statements.{is_type, has_type, equal_types, type_goal, term_goal, type_equation_goal, term_equation_goal, Statement, plain, abstracted, opened, domain, domain_count, fill, equate_goal, equate, IsObject, IsEquation, boundary_of}
use Rattle.ft_theory.specs.Rules.{look_up, Rule, rule_at, instance_of, FitsPremises, filled_premises, equated_premises, term_typings, term_equations}
use Rattle.ft_theory.specs.Steps.{sequent, sequents, Step, Trees, none, more, Prim}
use Rattle.ft_theory.specs.Derivability.{PremisesHold}
use Rattle.ft_laws.specs.Instances.{statement_at, both_given, AreEqualInstances}
use Rattle.ft_laws.proofs.Statements.{domain_count-map, object-map}
use Rattle.ft_laws.proofs.Commute.{ScopedTheory, not_both}
use Rattle.ft_laws.proofs.Sides.{boundary-fill, parts, boundary}
use Rattle.ft_laws.proofs.Steps.{do_convert_term, do_reflexive_type}
use Rattle.ft_laws.proofs.Substitute.{Extends}
use Rattle.ft_laws.proofs.Equal.{EqualStatements}
use Rattle.ft_laws.proofs.Instances.{equal_instances}
use Rattle.ft_laws.proofs.Rules.{look_before, given_object_premise, closed_instance, whole_instance, move_head, symmetric_equal}
use Rattle.ft_laws.proofs.Finitary.{Sound, scoped}
use Rattle.ft_items.specs.Equal.{has_head, head}
use Rattle.ft_items.specs.Store.{Declared, nth, Declarations}
use Rattle.ft_items.specs.Rows.{rule_arguments, meta_arguments, arguments_of}
use Rattle.ft_sound.proofs.Good.{look_last}
use Rattle.ft_equality.specs.Shapes.{EqualityRules, is_principal}
use Rattle.ft_equality.specs.Programs.{terms, normals, Program, give, ◌>>◌}
use Rattle.ft_equality.specs.Comparing.{decide, and_also, types_alike, same_or, visit, heads_equal}
use Rattle.ft_equality.specs.Equality.{argument_equal, arguments_equal, terms_alike, terms_equal, parts_equal, normals_equal}
use Rattle.ft_equality_laws.proofs.Means.{Below, If, EqualAt, Fact, Means, means_bind, means_weaken, means_any}
use Rattle.ft_equality_laws.proofs.Derive.{reflexive_at}
use Rattle.ft_equality_laws.proofs.Opening.{if_map, HeadsEqual, means_both, means_same_or, means_alike, heads_mean}
use Rattle.ft_equality_laws.proofs.Applications.{Well, ForAny, well_at, Resting, resting, rule_of, congruence_at, meta_at}
use Rattle.ft_equality_laws.proofs.Positions.{AtPlaces, at_places}
use Rattle.ft_common.proofs.Options.{none_some as nothing}
use Rattle.std.proofs.lemmas.Option.{same_Some as Some_injective}

-- a boundary filled with a head
pub has_head_fill : (b : Statement) (e : Expression) → IsObject b → has_head (fill b e) ≡ true
has_head_fill (plain type_goal) e o = refl
has_head_fill (plain (term_goal A)) e o = refl
has_head_fill (plain c) e o = absurd o
has_head_fill (abstracted A b) e o = has_head_fill b e o

pub no_head_fill : (b : Statement) (e : Expression) → IsEquation b → has_head (fill b e) ≡ false
no_head_fill (plain (type_equation_goal A B)) e o = refl
no_head_fill (plain (term_equation_goal s t A)) e o = refl
no_head_fill (plain c) e o = absurd o
no_head_fill (abstracted A b) e o = no_head_fill b e o

pub head_fill : (b : Statement) (e : Expression) → IsObject b → head (fill b e) ≡ e
head_fill (plain type_goal) e o = refl
head_fill (plain (term_goal A)) e o = refl
head_fill (plain c) e o = absurd o
head_fill (abstracted A b) e o = head_fill b e o

-- a principal argument has no domains
abbrev pub Flat : EqualityRules → ℕ → ℕ → List (ℕ × Statement) → Type 0
Flat E s i [] = Unit {0}
Flat E s i (p ∷ ps) = (is_principal E s i ≡ true → domain_count p.1 ≡ zero) × Flat E s (suc i) ps

module _ (T : List Rule) (M : List (ℕ × Statement)) where
  if_true : (X : Type 0) (r : Bool) → X → If r X
  if_true X true x = x
  if_true X false x = tt

  -- what holds anyway
  pub means_true : (n : ℕ) (X : Type 0) (p : Program Bool) → X → Means T M n (λ r. If r X) p
  means_true n X p x = means_weaken T M n (λ r. Unit {0}) (λ r. If r X) p (λ r u. if_true X r x) (means_any T M n p)

  pub means_map : (n : ℕ) (X Y : Type 0) (p : Program Bool) → (X → Y) → Means T M n (λ r. If r X) p → Means T M n (λ r. If r Y) p
  means_map n X Y p f h = means_weaken T M n (λ r. If r X) (λ r. If r Y) p (λ r x. if_map X Y r f x) h

  pub means_then : {A B : Type 0} (n : ℕ) (Q : B → Type 0) (p : Program A) (q : Program B) → Means T M n Q q → Means T M n Q (◌>>◌ p q)
  means_then n Q p q h = means_bind T M n (λ a. Unit {0}) Q p (λ a. q) (means_any T M n p) (λ a u. h)

  flat_heads : (n : ℕ) (b : Statement) (e f : Expression) → domain_count b ≡ zero → IsObject b → Fact T M n (normals e f) → HeadsEqual T M n b e f
  flat_heads n (plain c) e f d o h = λ G b p q. h c o G b p q
  flat_heads n (abstracted A b) e f d o h = absurd (grind (arith, d))

module _ (T : List Rule) (so : Sound T) (M : List (ℕ × Statement)) (E : EqualityRules) (s : ℕ) (R : Rule) (q : rule_at T s ≡ Some R) (a b : Arguments) where
  abbrev comparing : ℕ → Bool → Expression → Expression → Statement → Program Bool
  comparing i t h k B = cond (not t) (give true) (cond (is_principal E s i) (decide (normals h k)) (heads_equal B h k))

  compare_mean : (n i : ℕ) (B C : Statement) (e f : Expression) → IsObject B → IsObject C → (is_principal E s i ≡ true → domain_count B ≡ zero)
      → Means T M n (λ r. If r (HeadsEqual T M n B e f)) (argument_equal E s i (fill B e) (head (fill C f)))
  compare_mean n i B C e f o o' fl =
      subst (λ z. Means T M n (λ r. If r (HeadsEqual T M n B e f)) (comparing i z (head (fill B e)) (head (fill C f)) (boundary_of (fill B e)))) (sym (has_head_fill B e o))
      (subst (λ z. Means T M n (λ r. If r (HeadsEqual T M n B e f)) (comparing i true z (head (fill C f)) (boundary_of (fill B e)))) (sym (head_fill B e o))
      (subst (λ z. Means T M n (λ r. If r (HeadsEqual T M n B e f)) (comparing i true e z (boundary_of (fill B e)))) (sym (head_fill C f o'))
      (subst (λ z. Means T M n (λ r. If r (HeadsEqual T M n B e f)) (comparing i true e f z)) (sym (boundary-fill B e (inl o)))
      (go (is_principal E s i) fl))))
    where
      go : (t : Bool) → (t ≡ true → domain_count B ≡ zero) → Means T M n (λ r. If r (HeadsEqual T M n B e f)) (cond t (decide (normals e f)) (heads_equal B e f))
      go true h = λ r x. if_map (Fact T M n (normals e f)) (HeadsEqual T M n B e f) r (flat_heads T M n B e f (h refl) o) x
      go false h = heads_mean T (scoped T so) M (domain_count B) n B e f refl o

  abbrev Whole : List (ℕ × Expression) → Type 0
  Whole G = FitsPremises R.premises a × Trees (Step T) (sequents M G (filled_premises (instance_of R.premises a) R.premises a)) × FitsPremises R.premises b × Trees (Step T) (sequents M G (filled_premises (instance_of R.premises b) R.premises b))

  abbrev PairSoFar : List (ℕ × Expression) → List (ℕ × Statement) → Type 0
  PairSoFar G ps = (m : ℕ) (c : Statement) → look_up ps m ≡ Some c → IsObject c
      → (e f : Expression) × (instance_of R.premises a m (domain_count c) ≡ Some e) × (instance_of R.premises b m (domain_count c) ≡ Some f) × Prim T M G (equate (statement_at (instance_of R.premises a) c) e f)

  abbrev ArgsEqual : ℕ → List (ℕ × Statement) → List (ℕ × Statement) → Arguments → Arguments → Type 0
  ArgsEqual n before ps c d = (G : List (ℕ × Expression)) → Below n G → Whole G → FitsPremises ps c → FitsPremises ps d → AtPlaces (instance_of R.premises a) ps c → AtPlaces (instance_of R.premises b) ps d
      → Trees (Step T) (sequents M G (filled_premises (instance_of R.premises a) ps c)) → Trees (Step T) (sequents M G (filled_premises (instance_of R.premises b) ps d)) → PairSoFar G before
      → Trees (Step T) (sequents M G (equated_premises (instance_of R.premises a) ps c d))

  pair_last : (G : List (ℕ × Expression)) (before : List (ℕ × Statement)) (p : ℕ × Statement) (n k : ℕ) (e f : Expression) → PairSoFar G before → n ≡ domain_count p.1 → k ≡ domain_count p.1 → instance_of R.premises a p.0 n ≡ Some e → instance_of R.premises b p.0 k ≡ Some f
      → Prim T M G (equate (statement_at (instance_of R.premises a) p.1) e f) → PairSoFar G (before ++ (p ∷ []))
  pair_last G before p n k e f pair dn dk ie jf t m c l o = go (look_last before p.0 p.1 m c l)
    where
      go : (look_up before m ≡ Some c) ⊎ ((m ≡ p.0) × (p.1 ≡ c))
          → (x y : Expression) × (instance_of R.premises a m (domain_count c) ≡ Some x) × (instance_of R.premises b m (domain_count c) ≡ Some y) × Prim T M G (equate (statement_at (instance_of R.premises a) c) x y)
      go (inl r) = pair m c r o
      go (inr r) = (
        e,
        f,
        ap (λ z. instance_of R.premises a z (domain_count c)) r.0 ∙ ap (instance_of R.premises a p.0) (sym (dn ∙ ap domain_count r.1)) ∙ ie,
        ap (λ z. instance_of R.premises b z (domain_count c)) r.0 ∙ ap (instance_of R.premises b p.0) (sym (dk ∙ ap domain_count r.1)) ∙ jf,
        subst (λ z. Prim T M G (equate (statement_at (instance_of R.premises a) z) e f)) r.1 t,
      )

  pair_skip : (G : List (ℕ × Expression)) (before : List (ℕ × Statement)) (p : ℕ × Statement) → PairSoFar G before → IsEquation p.1 → PairSoFar G (before ++ (p ∷ []))
  pair_skip G before p pair oe m c l o = go (look_last before p.0 p.1 m c l)
    where
      go : (look_up before m ≡ Some c) ⊎ ((m ≡ p.0) × (p.1 ≡ c))
          → (x y : Expression) × (instance_of R.premises a m (domain_count c) ≡ Some x) × (instance_of R.premises b m (domain_count c) ≡ Some y) × Prim T M G (equate (statement_at (instance_of R.premises a) c) x y)
      go (inl r) = pair m c r o
      go (inr r) = absurd (not_both c o (subst IsEquation r.1 oe))

  -- an argument of the second application, at the boundary at the first one's
  moved_back : (G : List (ℕ × Expression)) (before : List (ℕ × Statement)) (p : ℕ × Statement) (f : Expression) → Extends before R.premises → Whole G → PairSoFar G before → IsObject p.1 → Prim T before [] p.1
      → Prim T M G (fill (statement_at (instance_of R.premises b) p.1) f) → Prim T M G (fill (statement_at (instance_of R.premises a) p.1) f)
  moved_back G before p f w W pair o hp t =
      let sc : ScopedTheory T = scoped T so in
      let P : List (ℕ × Statement) = R.premises in
      let Bi : Statement = statement_at (instance_of P a) p.1 in
      let Bj : Statement = statement_at (instance_of P b) p.1 in
      let es : AreEqualInstances T before [] M G (instance_of P a) (instance_of P b) = record {
        left = whole_instance T before M G P a w W.0 W.1;
        closed = closed_instance T M G (instance_of P b) P b W.2 W.3;
        objects = λ m c l g oc.
            let r : (e : Expression) × (instance_of P a m (domain_count c) ≡ Some e) × Prim T M G (fill (statement_at (instance_of P a) c) e) = given_object_premise T M G (instance_of P a) P a m c W.0 W.1 (w m c l) oc in
            let u : (x y : Expression) × (instance_of P a m (domain_count c) ≡ Some x) × (instance_of P b m (domain_count c) ≡ Some y) × Prim T M G (equate (statement_at (instance_of P a) c) x y) = pair m c l oc in
            both_given u.0 u.1 u.2 u.3 (subst (λ e. Prim T M G (fill (statement_at (instance_of P a) c) e)) (Some_injective r.0 u.0 (sym r.1 ∙ u.2)) r.2) u.4;
      } in
      let ee : EqualStatements T M G Bi Bj = equal_instances T sc before [] M G (instance_of P a) (instance_of P b) p.1 es hp in
      move_head T sc M G Bj Bi f (domain_count-map p.1 (λ l. act free (instance_of P a)) zero ∙ sym (domain_count-map p.1 (λ l. act free (instance_of P b)) zero))
      (inl (object-map p.1 (λ l. act free (instance_of P b)) zero o, object-map p.1 (λ l. act free (instance_of P a)) zero o)) (symmetric_equal T sc M (domain_count Bi) G Bi Bj refl ee) t

  one_more : (n l k : ℕ) (before ps : List (ℕ × Statement)) (p : ℕ × Statement) (e f : Expression) (c d : Arguments) → Extends before R.premises → Prim T before [] p.1 → HeadsEqual T M n (statement_at (instance_of R.premises a) p.1) e f
      → ArgsEqual n (before ++ (p ∷ [])) ps c d → ArgsEqual n before (p ∷ ps) (with_body l e c) (with_body k f d)
  one_more n l k before ps p e f c d w hp x y G bl W fs fs' pl pl' (more t ts) (more u us) pair =
      let v : Prim T M G (equate (statement_at (instance_of R.premises a) p.1) e f) = x G bl t (moved_back G before p f w W pair fs.1 hp u) in
      more v (y G bl W fs.2 fs'.2 pl.1 pl'.1 ts us (pair_last G before p l k e f pair fs.0 fs'.0 pl.0 pl'.0 v))

  skip_one : (n l k : ℕ) (before ps : List (ℕ × Statement)) (p : ℕ × Statement) (c d : Arguments) → ArgsEqual n (before ++ (p ∷ [])) ps c d → ArgsEqual n before (p ∷ ps) (dummy l c) (dummy k d)
  skip_one n l k before ps p c d y G bl W fs fs' pl pl' (more t ts) (more u us) pair = y G bl W fs.2 fs'.2 pl pl' ts us (pair_skip G before p pair fs.1)

  pub args_mean : (n i : ℕ) (before ps : List (ℕ × Statement)) (c d : Arguments) → PremisesHold (λ M x. Prim T M [] x) before ps → Extends (before ++ ps) R.premises → Flat E s i ps
      → Means T M n (λ r. If r (ArgsEqual n before ps c d)) (arguments_equal E s i (filled_premises (instance_of R.premises a) ps c) (filled_premises (instance_of R.premises b) ps d))
  args_mean n i before [] c d h w fl = λ G bl W fs fs' pl pl' ts us pair. none
  args_mean n i before (p ∷ ps) no_arguments d h w fl = means_true T M n (ArgsEqual n before (p ∷ ps) no_arguments d) (arguments_equal E s i (filled_premises (instance_of R.premises a) (p ∷ ps) no_arguments) (filled_premises (instance_of R.premises b) (p ∷ ps) d))
      (λ G bl W fs fs' pl pl' ts us pair. absurd fs)
  args_mean n i before (p ∷ ps) (with_body l e c) no_arguments h w fl = means_true T M n (ArgsEqual n before (p ∷ ps) (with_body l e c) no_arguments)
      (arguments_equal E s i (filled_premises (instance_of R.premises a) (p ∷ ps) (with_body l e c)) (filled_premises (instance_of R.premises b) (p ∷ ps) no_arguments)) (λ G bl W fs fs' pl pl' ts us pair. absurd fs')
  args_mean n i before (p ∷ ps) (dummy l c) no_arguments h w fl = means_true T M n (ArgsEqual n before (p ∷ ps) (dummy l c) no_arguments)
      (arguments_equal E s i (filled_premises (instance_of R.premises a) (p ∷ ps) (dummy l c)) (filled_premises (instance_of R.premises b) (p ∷ ps) no_arguments)) (λ G bl W fs fs' pl pl' ts us pair. absurd fs')
  args_mean n i before (p ∷ ps) (with_body l e c) (dummy k d) h w fl = means_true T M n (ArgsEqual n before (p ∷ ps) (with_body l e c) (dummy k d))
      (arguments_equal E s i (filled_premises (instance_of R.premises a) (p ∷ ps) (with_body l e c)) (filled_premises (instance_of R.premises b) (p ∷ ps) (dummy k d))) (λ G bl W fs fs' pl pl' ts us pair. absurd (not_both p.1 fs.1 fs'.1))
  args_mean n i before (p ∷ ps) (dummy l c) (with_body k f d) h w fl = means_true T M n (ArgsEqual n before (p ∷ ps) (dummy l c) (with_body k f d))
      (arguments_equal E s i (filled_premises (instance_of R.premises a) (p ∷ ps) (dummy l c)) (filled_premises (instance_of R.premises b) (p ∷ ps) (with_body k f d))) (λ G bl W fs fs' pl pl' ts us pair. absurd (not_both p.1 fs'.1 fs.1))
  args_mean n i before (p ∷ ps) (with_body l e c) (with_body k f d) h w fl = go h.1 (args_mean n (suc i) (before ++ (p ∷ [])) ps c d h.3 (λ m x r. w m x (ap (λ z. look_up z m) (sym (append_assoc before (p ∷ []) ps)) ∙ r)) fl.1)
    where
      rest : Program Bool
      rest = arguments_equal E s (suc i) (filled_premises (instance_of R.premises a) ps c) (filled_premises (instance_of R.premises b) ps d)

      go : IsObject p.1 ⊎ IsEquation p.1
          → Means T M n (λ r. If r (ArgsEqual n (before ++ (p ∷ [])) ps c d)) (arguments_equal E s (suc i) (filled_premises (instance_of R.premises a) ps c) (filled_premises (instance_of R.premises b) ps d))
          → Means T M n (λ r. If r (ArgsEqual n before (p ∷ ps) (with_body l e c) (with_body k f d)))
          (arguments_equal E s i (filled_premises (instance_of R.premises a) (p ∷ ps) (with_body l e c)) (filled_premises (instance_of R.premises b) (p ∷ ps) (with_body k f d)))
      go (inl o) ih =
          let Bi : Statement = statement_at (instance_of R.premises a) p.1 in
          let Bj : Statement = statement_at (instance_of R.premises b) p.1 in
          means_both T M n (HeadsEqual T M n Bi e f) (ArgsEqual n before (p ∷ ps) (with_body l e c) (with_body k f d))
          (argument_equal E s i (fill Bi e) (head (fill Bj f)))
          (λ t. arguments_equal E s (suc i) (filled_premises (instance_of R.premises a) ps c) (filled_premises (instance_of R.premises b) ps d))
          (compare_mean n i Bi Bj e f (object-map p.1 (λ z. act free (instance_of R.premises a)) zero o) (object-map p.1 (λ z. act free (instance_of R.premises b)) zero o) (λ t. domain_count-map p.1 (λ z. act free (instance_of R.premises a)) zero ∙ fl.0 t))
          (λ x. means_map T M n (ArgsEqual n (before ++ (p ∷ [])) ps c d) (ArgsEqual n before (p ∷ ps) (with_body l e c) (with_body k f d))
          (arguments_equal E s (suc i) (filled_premises (instance_of R.premises a) ps c) (filled_premises (instance_of R.premises b) ps d))
          (λ y. one_more n l k before ps p e f c d (λ m z r. w m z (look_before before (p ∷ ps) m z r)) h.2 x y) ih)
      go (inr o) ih = means_true T M n (ArgsEqual n before (p ∷ ps) (with_body l e c) (with_body k f d))
          (arguments_equal E s i (filled_premises (instance_of R.premises a) (p ∷ ps) (with_body l e c)) (filled_premises (instance_of R.premises b) (p ∷ ps) (with_body k f d))) (λ G bl W fs fs' pl pl' ts us pair. absurd (not_both p.1 fs.1 o))
  args_mean n i before (p ∷ ps) (dummy l c) (dummy k d) h w fl = go h.1 (args_mean n (suc i) (before ++ (p ∷ [])) ps c d h.3 (λ m x r. w m x (ap (λ z. look_up z m) (sym (append_assoc before (p ∷ []) ps)) ∙ r)) fl.1)
    where
      go : IsObject p.1 ⊎ IsEquation p.1
          → Means T M n (λ r. If r (ArgsEqual n (before ++ (p ∷ [])) ps c d)) (arguments_equal E s (suc i) (filled_premises (instance_of R.premises a) ps c) (filled_premises (instance_of R.premises b) ps d))
          → Means T M n (λ r. If r (ArgsEqual n before (p ∷ ps) (dummy l c) (dummy k d)))
          (arguments_equal E s i (filled_premises (instance_of R.premises a) (p ∷ ps) (dummy l c)) (filled_premises (instance_of R.premises b) (p ∷ ps) (dummy k d)))
      go (inl o) ih = means_true T M n (ArgsEqual n before (p ∷ ps) (dummy l c) (dummy k d))
          (arguments_equal E s i (filled_premises (instance_of R.premises a) (p ∷ ps) (dummy l c)) (filled_premises (instance_of R.premises b) (p ∷ ps) (dummy k d))) (λ G bl W fs fs' pl pl' ts us pair. absurd (not_both p.1 o fs.1))
      go (inr o) ih =
          let x : Statement = fill (statement_at (instance_of R.premises a) p.1) (bound zero) in
          let y : Statement = fill (statement_at (instance_of R.premises b) p.1) (bound zero) in
          means_both T M n (Unit {0}) (ArgsEqual n before (p ∷ ps) (dummy l c) (dummy k d))
          (argument_equal E s i x (head y))
          (λ t. arguments_equal E s (suc i) (filled_premises (instance_of R.premises a) ps c) (filled_premises (instance_of R.premises b) ps d))
          (means_true T M n (Unit {0}) (argument_equal E s i x (head y)) tt)
          (λ z. means_map T M n (ArgsEqual n (before ++ (p ∷ [])) ps c d) (ArgsEqual n before (p ∷ ps) (dummy l c) (dummy k d))
          (arguments_equal E s (suc i) (filled_premises (instance_of R.premises a) ps c) (filled_premises (instance_of R.premises b) ps d))
          (λ v. skip_one n l k before ps p c d v) ih)

module _ (T : List Rule) (so : Sound T) (M : List (ℕ × Statement)) where
  abbrev TermsEqual : ℕ → Statement → Statement → Terms → Terms → Type 0
  TermsEqual n b c ts us = (G : List (ℕ × Expression)) → Below n G → count ts ≡ count us → Trees (Step T) (sequents M G (term_typings b ts)) → Trees (Step T) (sequents M G (term_typings c us)) → Trees (Step T) (sequents M G (term_equations b ts us))

  type_of_term_at : (G : List (ℕ × Expression)) (t A : Expression) → Prim T M G (plain (has_type t A)) → Prim T M G (plain (is_type A))
  type_of_term_at G t A p = parts T (sequent M G (plain (term_goal A))) (boundary T (scoped T so) (sequent M G (plain (has_type t A))) p)

  one_term : (n : ℕ) (b c : Statement) (t u : Expression) (ts us : Terms) → EqualAt T M n type_goal (domain c) (domain b) → Fact T M n (terms t u (domain b)) → TermsEqual n (opened t b) (opened u c) ts us → TermsEqual n b c (also t ts) (also u us)
  unfolding count
  one_term n b c t u ts us x f y G bl k (more p ps) (more q qs) =
      more (f G bl p (do_convert_term q (x G bl (type_of_term_at G u (domain c) q) (type_of_term_at G t (domain b) p)))) (y G bl (omega (arith, k)) ps qs)

  terms_mean : (n : ℕ) (b c : Statement) (ts us : Terms) → Means T M n (λ r. If r (TermsEqual n b c ts us)) (terms_equal (term_typings b ts) (term_typings c us))
  terms_mean n b c no_terms no_terms = λ G bl k ts us. none
  terms_mean n b c no_terms (also u us) = tt
  terms_mean n b c (also t ts) no_terms = tt
  terms_mean n b c (also t ts) (also u us) =
      means_both T M n (EqualAt T M n type_goal (domain c) (domain b) × Fact T M n (terms t u (domain b))) (TermsEqual n b c (also t ts) (also u us)) (terms_alike t (domain b) u (domain c)) (λ z. terms_equal (term_typings (opened t b) ts) (term_typings (opened u c) us))
      (means_both T M n (EqualAt T M n type_goal (domain c) (domain b)) (EqualAt T M n type_goal (domain c) (domain b) × Fact T M n (terms t u (domain b))) (types_alike (domain c) (domain b)) (λ z. decide (terms t u (domain b)))
      (means_alike T M n (EqualAt T M n type_goal (domain c) (domain b)) (domain c) (domain b) (λ e G bl p q. subst (λ C. Prim T M G (plain (equal_types (domain c) C))) e (do_reflexive_type p)) (λ f. f))
      (λ y r f. if_map (Fact T M n (terms t u (domain b))) (EqualAt T M n type_goal (domain c) (domain b) × Fact T M n (terms t u (domain b))) r (λ g. (y, g)) f))
      (λ h. means_map T M n (TermsEqual n (opened t b) (opened u c) ts us) (TermsEqual n b c (also t ts) (also u us)) (terms_equal (term_typings (opened t b) ts) (term_typings (opened u c) us)) (λ y. one_term n b c t u ts us h.0 h.1 y)
      (terms_mean n (opened t b) (opened u c) ts us))

module _ (W : Declarations) (E : EqualityRules) (so : Sound W.rules) (M : List (ℕ × Statement)) (flat : (s : ℕ) (R : Rule) → rule_at W.rules s ≡ Some R → Flat E s 1 R.premises)
    (declared : (m : ℕ) (b : Statement) → look_up M m ≡ Some b → (d : Declared) × (nth W.metavariables m ≡ Some d) × (d.boundary ≡ b)) where
  symbols_mean : (n s : ℕ) (a b : Arguments) → Means W.rules M n (λ r. If r (Fact W.rules M n (normals (symbol s a) (symbol s b)))) (arguments_equal E s 1 (arguments_of W (symbol s a)) (arguments_of W (symbol s b)))
  symbols_mean n s a b = go (rule_at W.rules s) refl
    where
      go : (o : Option Rule) → rule_at W.rules s ≡ o → Means W.rules M n (λ r. If r (Fact W.rules M n (normals (symbol s a) (symbol s b)))) (arguments_equal E s 1 (rule_arguments o a) (rule_arguments o b))
      go None e = means_true W.rules M n (Fact W.rules M n (normals (symbol s a) (symbol s b))) (arguments_equal E s 1 [] []) (λ c o G bl p q. nothing (sym e ∙ (rule_of W.rules so M G c s a o p).1))
      go (Some R) e = means_map W.rules M n (ArgsEqual W.rules so M E s R e a b n [] R.premises a b) (Fact W.rules M n (normals (symbol s a) (symbol s b)))
          (arguments_equal E s 1 (filled_premises (instance_of R.premises a) R.premises a) (filled_premises (instance_of R.premises b) R.premises b))
          (λ y c o G bl p p'.
          let h : Resting W.rules so M G c R a = resting W.rules so M G c s a R o e p in
          let h' : Resting W.rules so M G c R b = resting W.rules so M G c s b R o e p' in
          congruence_at W.rules so M G c s a b R e h h'.fits
          (y G bl (h.fits, h.arguments, h'.fits, h'.arguments) h.fits h'.fits
          (at_places (λ N x. Prim W.rules N [] x) (instance_of R.premises a) [] R.premises a (so s R e).0 (λ m k f r. r))
          (at_places (λ N x. Prim W.rules N [] x) (instance_of R.premises b) [] R.premises b (so s R e).0 (λ m k f r. r))
          h.arguments h'.arguments (λ m k l ob. nothing l)))
          (args_mean W.rules so M E s R e a b n 1 [] R.premises a b (so s R e).0 (λ m x r. r) (flat s R e))

  metas_mean : (n m : ℕ) (a b : Terms) → Means W.rules M n (λ r. If r (Fact W.rules M n (normals (meta m a) (meta m b)))) (terms_equal (arguments_of W (meta m a)) (arguments_of W (meta m b)))
  metas_mean n m a b = go (nth W.metavariables m) refl
    where
      go : (o : Option Declared) → nth W.metavariables m ≡ o → Means W.rules M n (λ r. If r (Fact W.rules M n (normals (meta m a) (meta m b)))) (terms_equal (meta_arguments o a) (meta_arguments o b))
      go None e = means_true W.rules M n (Fact W.rules M n (normals (meta m a) (meta m b))) (terms_equal [] [])
          (λ c o G bl p q.
          let w : Well W.rules M G ForAny (meta m a) = well_at W.rules so M G c (meta m a) o p in
          nothing (sym e ∙ (declared m w.0 w.1).1))
      go (Some d) e = means_map W.rules M n (TermsEqual W.rules so M n d.boundary d.boundary a b) (Fact W.rules M n (normals (meta m a) (meta m b))) (terms_equal (term_typings d.boundary a) (term_typings d.boundary b))
          (λ y c o G bl p q.
          let w : Well W.rules M G ForAny (meta m a) = well_at W.rules so M G c (meta m a) o p in
          let v : Well W.rules M G ForAny (meta m b) = well_at W.rules so M G c (meta m b) o q in
          let same : v.0 ≡ w.0 = Some_injective v.0 w.0 (sym v.1 ∙ w.1) in
          let k : (d' : Declared) × (nth W.metavariables m ≡ Some d') × (d'.boundary ≡ w.0) = declared m w.0 w.1 in
          let is : d.boundary ≡ w.0 = ap (λ (z : Declared). z.boundary) (Some_injective d k.0 (sym e ∙ k.1)) ∙ k.2 in
          let cb : count b ≡ domain_count w.0 = v.4 ∙ ap domain_count same in
          meta_at W.rules so M G c m a b w.0 o w.1 w.2 w.3 w.4 cb w.5 p
          (subst (λ z. Trees (Step W.rules) (sequents M G (term_equations z a b))) is
          (y G bl (w.4 ∙ sym cb) (subst (λ z. Trees (Step W.rules) (sequents M G (term_typings z a))) (sym is) w.6) (subst (λ z. Trees (Step W.rules) (sequents M G (term_typings z b))) (same ∙ sym is) v.6))))
          (terms_mean W.rules so M n d.boundary d.boundary a b)

  parts_mean : (n : ℕ) (e f : Expression) → Means W.rules M n (λ r. If r (Fact W.rules M n (normals e f))) (parts_equal W E e f)
  parts_mean n (symbol s a) (symbol r b) = go (nat_eq s r) (eqb-true s r)
    where
      go : (t : Bool) → (t ≡ true → s ≡ r) → Means W.rules M n (λ z. If z (Fact W.rules M n (normals (symbol s a) (symbol r b)))) (and_also t (λ y. arguments_equal E s 1 (arguments_of W (symbol s a)) (arguments_of W (symbol r b))))
      go true h = subst (λ z. Means W.rules M n (λ y. If y (Fact W.rules M n (normals (symbol s a) (symbol z b)))) (arguments_equal E s 1 (arguments_of W (symbol s a)) (arguments_of W (symbol z b)))) (h refl) (symbols_mean n s a b)
      go false h = tt
  parts_mean n (meta m a) (meta k b) = go (nat_eq m k) (eqb-true m k)
    where
      go : (t : Bool) → (t ≡ true → m ≡ k) → Means W.rules M n (λ z. If z (Fact W.rules M n (normals (meta m a) (meta k b)))) (and_also t (λ y. terms_equal (arguments_of W (meta m a)) (arguments_of W (meta k b))))
      go true h = subst (λ z. Means W.rules M n (λ y. If y (Fact W.rules M n (normals (meta m a) (meta z b)))) (terms_equal (arguments_of W (meta m a)) (arguments_of W (meta z b)))) (h refl) (metas_mean n m a b)
      go false h = tt
  parts_mean n e f = tt

  pub normals_mean : (n : ℕ) (e f : Expression) → Means W.rules M n (λ r. If r (Fact W.rules M n (normals e f))) (normals_equal W E e f)
  normals_mean n e f = means_then W.rules M n (λ r. If r (Fact W.rules M n (normals e f))) (visit W e) (◌>>◌ (visit W f) (same_or e f (parts_equal W E e f)))
      (means_then W.rules M n (λ r. If r (Fact W.rules M n (normals e f))) (visit W f) (same_or e f (parts_equal W E e f))
      (means_same_or W.rules M n (Fact W.rules M n (normals e f)) e f (parts_equal W E e f) (λ h c o G b p q. subst (λ z. Prim W.rules M G (plain (equate_goal c e z))) h (reflexive_at W.rules M G c e o p)) (parts_mean n e f)))
