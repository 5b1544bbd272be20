-- The bodies mean what they say; so the answers do.
use Rattle.std.proofs.Common.{◌≡◌, ◌≤◌, arith, ℕ, Bool, true, false, Some, List, refl, subst}
use Rattle.ft_theory.specs.Expressions.{Expression}
use Rattle.ft_theory.specs.Statements.{Claim, is_type, has_type, equal_types, equal_terms, type_goal, term_goal, Statement, plain, equate_goal, IsObjectGoal}
use Rattle.ft_theory.specs.Rules.{look_up, Rule, rule_at}
use Rattle.ft_theory.specs.Steps.{sequent, Prim}
use Rattle.ft_laws.proofs.Steps.{do_symmetric_types, do_convert_term, do_convert_equation}
use Rattle.ft_laws.proofs.Commute.{ScopedTheory}
use Rattle.ft_laws.proofs.Sides.{parts, boundary}
use Rattle.ft_laws.proofs.EqualTerms.{transitive_flat}
use Rattle.ft_laws.proofs.Finitary.{Sound, scoped}
use Rattle.ft_items.specs.Store.{Declared, nth, Declarations}
use Rattle.ft_equality.specs.Shapes.{Computation, EqualityRules}
use Rattle.ft_equality.specs.Matching.{match_pattern}
use Rattle.ft_equality_laws.proofs.Matches.{MatchFact}
use Rattle.ft_equality.specs.Programs.{Question, types, terms, normals, ◌>>=◌, Units, run, solve}
use Rattle.ft_equality.specs.Equality.{by_normal_forms, by_type, answered, bodies, types_are_equal, terms_at, terms_are_equal, normal_form, normal_of}
use Rattle.ft_equality_laws.proofs.Means.{Below, If, EqualAt, Fact, NormalFact, Means, Came, IsSound, Meant, run_means, came_after, came_earlier, came_weaken, below_later, solve_sound}
use Rattle.ft_equality_laws.proofs.Derive.{reflexive_at, symmetric_at, right_at}
use Rattle.ft_equality_laws.proofs.Opening.{if_map, means_same_or}
use Rattle.ft_equality_laws.proofs.Parts.{Flat, means_map, normals_mean}
use Rattle.ft_equality_laws.proofs.Normal.{Computes, AllCompute, computation_match, normal_mean}
use Rattle.ft_equality_laws.proofs.ByType.{AllCompare, by_type_mean}

module _ (W : Declarations) (E : EqualityRules) (so : Sound W.rules) (M : List (ℕ × Statement)) (ac : AllCompute W.rules E.computations) (ax : AllCompare W.rules E.extensionalities)
    (flat : (s : ℕ) (R : Rule) → rule_at W.rules s ≡ Some R → Flat E s 1 R.premises)
    (declared : (m : ℕ) (b : Statement) → look_up M m ≡ Some b → (d : Declared) × (nth W.metavariables m ≡ Some d) × (d.boundary ≡ b)) where
  normal_forms_mean : (n : ℕ) (c : Claim) (s t : Expression) → IsObjectGoal c → Means W.rules M n (λ r. If r (EqualAt W.rules M n c s t)) (by_normal_forms s t)
  normal_forms_mean n c s t o = λ f nf g ng r x. if_map (Fact W.rules M n (normals f g)) (EqualAt W.rules M n c s t) r
      (λ h G bl p q.
      let sc : ScopedTheory W.rules = scoped W.rules so in
      let sf : Prim W.rules M G (plain (equate_goal c s f)) = nf c o G bl p in
      let tg : Prim W.rules M G (plain (equate_goal c t g)) = ng c o G bl q in
      let fg : Prim W.rules M G (plain (equate_goal c f g)) = h c o G bl (right_at W.rules sc M G c s f o sf) (right_at W.rules sc M G c t g o tg) in
      transitive_flat W.rules M G (plain c) s f t refl o sf (transitive_flat W.rules M G (plain c) f g t refl o fg (symmetric_at W.rules M G c t g o tg))) x

  same_at : (n : ℕ) (c : Claim) (e f : Expression) → IsObjectGoal c → e ≡ f → EqualAt W.rules M n c e f
  same_at n c e f o q = λ G bl p p'. subst (λ z. Prim W.rules M G (plain (equate_goal c e z))) q (reflexive_at W.rules M G c e o p)

  type_at_term : (G : List (ℕ × Expression)) (t A : Expression) → Prim W.rules M G (plain (has_type t A)) → Prim W.rules M G (plain (is_type A))
  type_at_term G t A p = parts W.rules (sequent M G (plain (term_goal A))) (boundary W.rules (scoped W.rules so) (sequent M G (plain (has_type t A))) p)

  answered_mean : (q : Question) (n : ℕ) → Means W.rules M n (λ r. If r (Fact W.rules M n q)) (answered W E q)
  answered_mean (types A B) n = means_same_or W.rules M n (EqualAt W.rules M n type_goal A B) A B (by_normal_forms A B) (same_at n type_goal A B tt) (normal_forms_mean n type_goal A B tt)
  answered_mean (terms s t A) n =
      means_same_or W.rules M n (EqualAt W.rules M n (term_goal A) s t) s t (◌>>=◌ (normal_of A) (by_type W E.extensionalities s t)) (same_at n (term_goal A) s t tt)
      (λ f nf. means_map W.rules M n (EqualAt W.rules M n (term_goal f) s t) (EqualAt W.rules M n (term_goal A) s t) (by_type W E.extensionalities s t f)
      (λ y G bl p q.
      let k : Prim W.rules M G (plain (equal_types A f)) = nf type_goal tt G bl (type_at_term G s A p) in
      do_convert_equation (y G bl (do_convert_term p k) (do_convert_term q k)) (do_symmetric_types k))
      (by_type_mean W so M n s t f E.extensionalities ax (normal_forms_mean n (term_goal f) s t tt)))
  answered_mean (normals e f) n = normals_mean W E so M flat declared n e f

  meant : Meant W.rules M (bodies W E)
  meant = record { asks = answered_mean; normals = λ e n. normal_mean W so M E ac flat n e }

  sound : IsSound W.rules M (solve (bodies W E))
  sound = solve_sound W.rules M (bodies W E) meant

  -- The answers.
  pub types_answer : (A B : Expression) (u : Units) → Came u.used (λ b. If b (EqualAt W.rules M u.used type_goal A B)) (types_are_equal W E A B u)
  types_answer A B u = sound.asks (types A B) u

  abbrev pub TermsAlike : ℕ → Expression → Expression → Expression → Expression → Type 0
  TermsAlike n s A t B = (G : List (ℕ × Expression)) → Below n G → Prim W.rules M G (plain (has_type s A)) → Prim W.rules M G (plain (has_type t B)) → Prim W.rules M G (plain (equal_terms s t A))

  pub terms_answer : (s A t B : Expression) (u : Units) → Came u.used (λ b. If b (TermsAlike u.used s A t B)) (terms_are_equal W E s A t B u)
  terms_answer s A t B u = came_after W.rules M u.used (λ b. If b (EqualAt W.rules M u.used type_goal A B)) (λ b. If b (TermsAlike u.used s A t B)) (types_are_equal W E A B u) (terms_at W E s t A) (types_answer A B u) go
    where
      go : (b : Bool) (w : Units) → If b (EqualAt W.rules M u.used type_goal A B) → u.used ≤ w.used → Came u.used (λ b. If b (TermsAlike u.used s A t B)) (terms_at W E s t A b w)
      go false w h le = (tt, le)
      go true w h le = came_earlier W.rules M u.used w.used (λ b. If b (TermsAlike u.used s A t B)) ((solve (bodies W E)).ask (terms s t A) w) le
          (came_weaken W.rules M w.used (λ b. If b (Fact W.rules M w.used (terms s t A))) (λ b. If b (TermsAlike u.used s A t B)) ((solve (bodies W E)).ask (terms s t A) w)
          (λ b x. if_map (Fact W.rules M w.used (terms s t A)) (TermsAlike u.used s A t B) b
          (λ y G bl p q.
          let k : Prim W.rules M G (plain (equal_types A B)) = h G bl (type_at_term G s A p) (type_at_term G t B q) in
          y G (below_later W.rules M u.used w.used G le bl) p (do_convert_term q (do_symmetric_types k))) x)
          (sound.asks (terms s t A) w))

  pub normal_answer : (e : Expression) (u : Units) → Came u.used (NormalFact W.rules M u.used e) (normal_form W E e u)
  normal_answer e u = sound.normals e u

  pub match_answer : (c : Computation) → Computes W.rules c → (e : Expression) (u : Units) → Came u.used (MatchFact W.rules M u.used c.premises c.left e) (run (solve (bodies W E)) (match_pattern W c.premises c.left e) u)
  match_answer c h e u = run_means W.rules M (solve (bodies W E)) sound u.used (MatchFact W.rules M u.used c.premises c.left e) (match_pattern W c.premises c.left e) (computation_match W so M c h u.used e) u (omega arith)
