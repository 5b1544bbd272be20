-- What a match says.
use Rattle.std.proofs.Common.{◌≡◌, ℕ, Bool, true, false, cond, nat_eq, Option, Some, None, List, [], ◌∷◌, ◌++◌, map, refl, sym, ap, ◌∙◌, subst, append_assoc}
use Rattle.ft_theory.specs.Expressions.{Expression, symbol, Arguments, instantiate, ArgumentsMentionOnly}
use Rattle.ft_theory.specs.Statements.{Claim, Statement, plain, domain_count, fill_goal, equate, equate_goal, IsObjectGoal, IsObject, boundary_of}
use Rattle.ft_theory.specs.Rules.{look_up, Rule}
use Rattle.ft_theory.specs.Steps.{Prim}
use Rattle.ft_theory.specs.Derivability.{PremisesHold}
use Rattle.ft_laws.specs.Syntax.{HasClosedBodies, IsObjectPremise}
use Rattle.ft_laws.proofs.Opens.{by_test}
use Rattle.ft_laws.proofs.Rules.{past}
use Rattle.ft_laws.proofs.Finitary.{Sound, scoped, first_premises}
use Rattle.ft_items.specs.Equal.{has_head, head}
use Rattle.ft_items.specs.Store.{Declarations}
use Rattle.ft_equality.specs.Shapes.{are_patterns, determines, applications}
use Rattle.ft_equality.specs.Programs.{give, ◌>>◌}
use Rattle.ft_equality.specs.Comparing.{and_then, form_all, visit_all}
use Rattle.ft_equality.specs.Matching.{walk, instance_by, met_by, boundaries_fit, repeats_equal, matched, match_places, match_pattern}
use Rattle.ft_equality_laws.proofs.Means.{Below, If, Means, means_bind}
use Rattle.ft_equality_laws.proofs.Opening.{means_both}
use Rattle.ft_equality_laws.proofs.Parts.{means_map, means_then}
use Rattle.ft_equality_laws.proofs.Patterns.{Laid}
use Rattle.ft_equality_laws.proofs.Walks.{PlaceIn, Goods, EqualPlace, SymbolFact, pattern_walk}
use Rattle.ft_equality_laws.proofs.Fitting.{each_place, instance_first, Given, places_closed, FitFact, Determined, met_heads, fits_mean, FirstEquals, RepeatFact, repeats_mean, Fitting}
use Rattle.ft_equality_laws.specs.Laws.{Each}
use Rattle.ft_equality_laws.proofs.Each.{each_map, each_zip}
use Rattle.ft_common.proofs.Options.{none_some as nothing}
use Rattle.ft_common.proofs.Choices.{if_same as same}

pub look_none : (before xs : List (ℕ × Statement)) (m : ℕ) → look_up before m ≡ None → look_up (before ++ xs) m ≡ look_up xs m
look_none [] xs m h = refl
look_none (p ∷ before) xs m h = go (nat_eq m p.0) h (look_none before xs m)
  where
    go : (b : Bool) → cond b (Some p.1) (look_up before m) ≡ None → (look_up before m ≡ None → look_up (before ++ xs) m ≡ look_up xs m) → cond b (Some p.1) (look_up (before ++ xs) m) ≡ look_up xs m
    go true h ih = nothing (sym h)
    go false h ih = ih h

-- each premise is the one of its name
pub each_looked : (D : List (ℕ × Statement) → Statement → Type 0) (before qs : List (ℕ × Statement)) → PremisesHold D before qs → Each (λ q. look_up (before ++ qs) q.0 ≡ Some q.1) qs
each_looked D before [] h = tt
each_looked D before (q ∷ qs) h = (
  look_none before (q ∷ qs) q.0 h.0 ∙ same q.0 q.0 (Some q.1) (look_up qs q.0) refl,
  each_map (λ p. look_up ((before ++ (q ∷ [])) ++ qs) p.0 ≡ Some p.1) (λ p. look_up (before ++ (q ∷ qs)) p.0 ≡ Some p.1) qs (λ p e. ap (λ z. look_up z p.0) (sym (append_assoc before (q ∷ []) qs)) ∙ e) (each_looked D (before ++ (q ∷ [])) qs h.3),
)

-- the premise of a name
pub premise_of : (P : ℕ × Statement → Type 0) (qs : List (ℕ × Statement)) (m : ℕ) (b : Statement) → Each P qs → look_up qs m ≡ Some b → (q : ℕ × Statement) × (m ≡ q.0) × P q
premise_of P [] m b h l = nothing l
premise_of P (q ∷ qs) m b h l = by_test ((q : ℕ × Statement) × (m ≡ q.0) × P q) m q.0
    (λ e. (q, e, h.0))
    (λ n. premise_of P qs m b h.1 (past m q qs b n l))

-- the expression equals the pattern at the instance, wherever it stands, and the instance has arguments for the premises
abbrev pub MatchFact : List Rule → List (ℕ × Statement) → ℕ → List (ℕ × Statement) → Expression → Expression → Option (ℕ → ℕ → Option Expression) → Type 0
MatchFact T M n hs u e None = Unit {0}
MatchFact T M n hs u e (Some I) = (c : Claim) → IsObjectGoal c → (G : List (ℕ × Expression)) → Below n G → Prim T M G (plain (fill_goal c e)) → Prim T M G (plain (equate_goal c e (instantiate I u))) × HasClosedBodies I × Given T M G I hs

module _ (W : Declarations) (so : Sound W.rules) (M hs rest : List (ℕ × Statement)) (s : ℕ) (us : Arguments) (pat : are_patterns us ≡ true) (l : Laid W.rules (symbol s us)) (only : ArgumentsMentionOnly (λ v. ⊥) (IsObjectPremise hs) us)
    (h : PremisesHold (λ N x. Prim W.rules N [] x) [] (hs ++ rest)) (d : Each (λ q. IsObject q.1 × (determines (symbol s us) q.0 ≡ true)) hs) where
  -- the places have equal arguments in the instance
  equal_places : (pl : List (ℕ × Statement)) (inside : Each (PlaceIn hs) pl) (G : List (ℕ × Expression)) → Each (Determined W.rules (scoped W.rules so) M hs rest pl inside) hs
      → Each (λ q. FirstEquals W.rules (scoped W.rules so) M hs rest pl inside G (met_by q.0 pl)) hs → Each (EqualPlace W.rules M G (instance_by pl)) pl
  equal_places pl inside G ds fs = each_place hs (λ m x. EqualPlace W.rules M G (instance_by pl) (m, x)) pl inside
      (λ m b lk.
      let r : (q : ℕ × Statement) × (m ≡ q.0) × (Determined W.rules (scoped W.rules so) M hs rest pl inside q × FirstEquals W.rules (scoped W.rules so) M hs rest pl inside G (met_by q.0 pl)) =
      premise_of (λ q. Determined W.rules (scoped W.rules so) M hs rest pl inside q × FirstEquals W.rules (scoped W.rules so) M hs rest pl inside G (met_by q.0 pl)) hs m b
      (each_zip (Determined W.rules (scoped W.rules so) M hs rest pl inside) (λ q. FirstEquals W.rules (scoped W.rules so) M hs rest pl inside G (met_by q.0 pl)) (λ q. Determined W.rules (scoped W.rules so) M hs rest pl inside q × FirstEquals W.rules (scoped W.rules so) M hs rest pl inside G (met_by q.0 pl)) hs (λ q x y. (x, y)) ds fs) lk in
      subst (λ z. Each (λ x. EqualPlace W.rules M G (instance_by pl) (z, x)) (met_by z pl)) (sym r.1) (of_one r.0 r.2.0 r.2.1))
    where
      of_one : (q : ℕ × Statement) → Determined W.rules (scoped W.rules so) M hs rest pl inside q → FirstEquals W.rules (scoped W.rules so) M hs rest pl inside G (met_by q.0 pl) → Each (λ x. EqualPlace W.rules M G (instance_by pl) (q.0, x)) (met_by q.0 pl)
      of_one q dq f =
          let hd : Each (λ z. (has_head z ≡ true) × (domain_count z ≡ domain_count q.1)) (met_by q.0 pl) = met_heads W.rules (scoped W.rules so) M hs rest pl inside q dq in
          let z : Statement = dq.1.0 in
          let is : instance_by pl q.0 (domain_count q.1) ≡ Some (head z) = instance_first q.0 (domain_count q.1) pl z dq.1.1 dq.1.2 (each_map (λ w. (has_head w ≡ true) × (domain_count w ≡ domain_count q.1)) (λ w. domain_count w ≡ domain_count q.1) (met_by q.0 pl) (λ w i. i.1) hd) in
          let f' : Each (λ y. Prim W.rules M G (equate (boundary_of y) (head y) (head z))) (met_by q.0 pl) =
          subst (λ xs. Each (λ y. Prim W.rules M G (equate (boundary_of y) (head y) (head z))) xs) (sym dq.1.2) (subst (λ xs. FirstEquals W.rules (scoped W.rules so) M hs rest pl inside G xs) dq.1.2 f) in
          each_zip (λ w. (has_head w ≡ true) × (domain_count w ≡ domain_count q.1)) (λ y. Prim W.rules M G (equate (boundary_of y) (head y) (head z))) (λ x. EqualPlace W.rules M G (instance_by pl) (q.0, x)) (met_by q.0 pl)
          (λ w i p. (head z, ap (instance_by pl q.0) i.1 ∙ is, p)) hd f'

  places_mean : (n : ℕ) (e : Expression) (o : Option (List (ℕ × Statement))) → SymbolFact W.rules M hs (symbol s us) e o → Means W.rules M n (MatchFact W.rules M n hs (symbol s us) e) (match_places W (hs ++ rest) (symbol s us) o)
  places_mean n e None k = tt
  places_mean n e (Some pl) k =
      means_bind W.rules M n (λ r. If r (First × Second)) (MatchFact W.rules M n hs (symbol s us) e) (and_then (boundaries_fit (instance_by pl) (hs ++ rest) pl) (λ t. repeats_equal (hs ++ rest) pl)) (matched W (symbol s us) (instance_by pl))
      (means_both W.rules M n First (First × Second) (boundaries_fit (instance_by pl) (hs ++ rest) pl) (λ t. repeats_equal (hs ++ rest) pl)
      (fits_mean W.rules (scoped W.rules so) M hs rest pl k.1 n [] hs h ds)
      (λ y. means_map W.rules M n Second (First × Second) (repeats_equal (hs ++ rest) pl) (λ z. (y, z)) (repeats_mean W.rules (scoped W.rules so) M hs rest pl k.1 n hs ds)))
      fin
    where
      First : Type 0
      First = FitFact W.rules (scoped W.rules so) M hs rest pl k.1 n [] hs

      Second : Type 0
      Second = RepeatFact W.rules (scoped W.rules so) M hs rest pl k.1 n hs

      ds : Each (Determined W.rules (scoped W.rules so) M hs rest pl k.1) hs
      ds = each_zip (λ q. IsObject q.1 × (determines (symbol s us) q.0 ≡ true)) (λ q. look_up hs q.0 ≡ Some q.1) (Determined W.rules (scoped W.rules so) M hs rest pl k.1) hs (λ q x y. (x.0, k.0 q.0 x.1, y)) d
          (each_looked (λ N x. Prim W.rules N [] x) [] hs (first_premises (λ N x. Prim W.rules N [] x) [] hs rest h))

      fin : (b : Bool) → If b (First × Second) → Means W.rules M n (MatchFact W.rules M n hs (symbol s us) e) (matched W (symbol s us) (instance_by pl) b)
      fin false f = tt
      fin true f =
          means_then W.rules M n (MatchFact W.rules M n hs (symbol s us) e) (form_all (instantiate (instance_by pl) (symbol s us) ∷ [])) (◌>>◌ (visit_all W (map (instantiate (instance_by pl)) (applications (symbol s us)))) (give (Some (instance_by pl))))
          (means_then W.rules M n (MatchFact W.rules M n hs (symbol s us) e) (visit_all W (map (instantiate (instance_by pl)) (applications (symbol s us)))) (give (Some (instance_by pl)))
          (λ c o G bl p.
          let g : Goods W.rules M G pl = (k.2 c o G p).0 in
          let cl : HasClosedBodies (instance_by pl) = places_closed W.rules (scoped W.rules so) M hs pl G k.1 g in
          let ft : Each (Fitting W.rules (scoped W.rules so) M hs rest pl k.1 G) hs × Given W.rules M G (instance_by pl) hs = f.0 G bl g (λ m b q. nothing q) in
          ((k.2 c o G p).1 (instance_by pl) cl (equal_places pl k.1 G ds (f.1 G bl g ft.0)), cl, ft.1)))

  pub match_mean : (n : ℕ) (e : Expression) → Means W.rules M n (MatchFact W.rules M n hs (symbol s us) e) (match_pattern W (hs ++ rest) (symbol s us) e)
  match_mean n e = means_bind W.rules M n (SymbolFact W.rules M hs (symbol s us) e) (MatchFact W.rules M n hs (symbol s us) e) (walk W (symbol s us) e) (match_places W (hs ++ rest) (symbol s us))
      (pattern_walk W so M hs n s us e pat l only) (places_mean n e)
