-- What the places of a walk say.
use Rattle.std.proofs.Common.{◌≡◌, arith, ℕ, zero, Bool, true, false, cond, nat_eq, ◌&&◌, Option, Some, None, List, [], ◌∷◌, ◌++◌, ◌⊎◌, inl, inr, refl, sym, ap, ◌∙◌, subst, subst₂, eqb-true}
use Rattle.std.specs.Prelude.{not, ◌||◌, option_map}
use Rattle.std.specs.List.{list_any}
use Rattle.ft_theory.specs.Expressions.{Expression, bound, free, symbol, meta, Arguments, no_arguments, with_body, dummy, count, act, act_arguments, instantiate, MentionsOnly, ArgumentsMentionOnly}
use Rattle.ft_theory.specs.Statements.{Claim, Statement, plain, abstracted, domain_count, fill, equate, IsObjectGoal, IsObject, IsEquation, boundary_of}
use Rattle.ft_theory.specs.Rules.{look_up, Rule, rule_at, instance_of, FitsPremises, filled_premises, equated_premises}
use Rattle.ft_theory.specs.Steps.{sequents, Step, Trees, none, more, Prim}
use Rattle.ft_theory.specs.Derivability.{PremisesHold}
use Rattle.ft_laws.specs.Instances.{statement_at}
use Rattle.ft_laws.specs.Syntax.{HasClosedBodies, IsObjectPremise}
use Rattle.ft_laws.proofs.Statements.{object-map, equation-map}
use Rattle.ft_laws.proofs.Commute.{not_both, FitsPremises-act}
use Rattle.ft_laws.proofs.Peel.{domain_count-fill}
use Rattle.ft_laws.proofs.Sides.{boundary-fill}
use Rattle.ft_laws.proofs.Finitary.{Sound}
use Rattle.ft_items.specs.Equal.{equal_term_lists, has_head, head}
use Rattle.ft_items.specs.Store.{Declarations}
use Rattle.ft_items.specs.Rows.{bounds, rule_arguments, arguments_of}
use Rattle.ft_items.proofs.SetLemmas.{wrong, both}
use Rattle.ft_sound.proofs.EqualLemmas.{lists_true}
use Rattle.ft_equality.specs.Shapes.{is_pattern, are_patterns, metavariables_of, metavariables_of_arguments, determines}
use Rattle.ft_equality.specs.Programs.{Program, give, ◌>>=◌, ◌>>◌}
use Rattle.ft_equality.specs.Comparing.{visit}
use Rattle.ft_equality.specs.Matching.{Places, and_places, when, place_or, walk, walk_arguments, met_by}
use Rattle.ft_equality_laws.proofs.Means.{Means, means_bind, means_weaken}
use Rattle.ft_equality_laws.proofs.Applications.{Resting, resting, rule_of, congruence_at}
use Rattle.ft_equality_laws.proofs.Parts.{has_head_fill, no_head_fill, head_fill, means_then}
use Rattle.ft_equality_laws.proofs.Patterns.{count_bounds, bare_at, Laid, AllLaid}
use Rattle.ft_equality_laws.specs.Laws.{Each}
use Rattle.ft_equality_laws.proofs.Each.{each_join, each_split}
use Rattle.ft_common.proofs.Options.{none_some as nothing}
use Rattle.ft_common.proofs.Choices.{if_same as same}

-- some place is of the metavariable
abbrev pub HasPlace : ℕ → List (ℕ × Statement) → Type 0
HasPlace m ps = (x : Statement) × (xs : List Statement) × (met_by m ps ≡ x ∷ xs)

met_join : (m : ℕ) (xs ys : List (ℕ × Statement)) → met_by m (xs ++ ys) ≡ met_by m xs ++ met_by m ys
met_join m [] ys = refl
met_join m (x ∷ xs) ys = go (nat_eq m x.0) (met_join m xs ys)
  where
    go : (b : Bool) → met_by m (xs ++ ys) ≡ met_by m xs ++ met_by m ys → cond b (x.1 ∷ met_by m (xs ++ ys)) (met_by m (xs ++ ys)) ≡ cond b (x.1 ∷ met_by m xs) (met_by m xs) ++ met_by m ys
    go true e = ap (λ z. x.1 ∷ z) e
    go false e = e

place_left : (m : ℕ) (xs ys : List (ℕ × Statement)) → HasPlace m xs → HasPlace m (xs ++ ys)
place_left m xs ys h = (h.0, h.1 ++ met_by m ys, met_join m xs ys ∙ ap (λ z. z ++ met_by m ys) h.2)

place_right : (m : ℕ) (xs ys : List (ℕ × Statement)) → HasPlace m ys → HasPlace m (xs ++ ys)
place_right m xs ys h = go (met_by m xs) refl
  where
    go : (zs : List Statement) → met_by m xs ≡ zs → HasPlace m (xs ++ ys)
    go [] e = (h.0, h.1, met_join m xs ys ∙ ap (λ z. z ++ met_by m ys) e ∙ h.2)
    go (z ∷ zs) e = (z, zs ++ met_by m ys, met_join m xs ys ∙ ap (λ w. w ++ met_by m ys) e)

any_join : (p : ℕ → Bool) (xs ys : List ℕ) → list_any p (xs ++ ys) ≡ true → (list_any p xs ≡ true) ⊎ (list_any p ys ≡ true)
any_join p [] ys h = inr h
any_join p (x ∷ xs) ys h = go (p x) h (any_join p xs ys)
  where
    go : (b : Bool) → (b || list_any p (xs ++ ys)) ≡ true → (list_any p (xs ++ ys) ≡ true → (list_any p xs ≡ true) ⊎ (list_any p ys ≡ true)) → ((b || list_any p xs) ≡ true) ⊎ (list_any p ys ≡ true)
    go true h ih = inl refl
    go false h ih = ih h

any_one : (m n : ℕ) → list_any (nat_eq m) (n ∷ []) ≡ true → m ≡ n
any_one m n h = go (nat_eq m n) h (eqb-true m n)
  where
    go : (b : Bool) → (b || false) ≡ true → (b ≡ true → m ≡ n) → m ≡ n
    go true h k = k refl
    go false h k = wrong h

-- the place's metavariable is one of these, with as many domains
abbrev pub PlaceIn : List (ℕ × Statement) → ℕ × Statement → Type 0
PlaceIn hs p = (has_head p.1 ≡ true) × (b : Statement) × (look_up hs p.0 ≡ Some b) × IsObject b × (domain_count p.1 ≡ domain_count b)

abbrev pub Kinds : List (ℕ × Statement) → Type 0
Kinds ps = Each (λ p. IsObject p.1 ⊎ IsEquation p.1) ps

pub kinds_of : (D : List (ℕ × Statement) → Statement → Type 0) (before ps : List (ℕ × Statement)) → PremisesHold D before ps → Kinds ps
kinds_of D before [] h = tt
kinds_of D before (p ∷ ps) h = (h.1, kinds_of D (before ++ (p ∷ [])) ps h.3)

module _ (T : List Rule) (M : List (ℕ × Statement)) where
  abbrev pub Goods : List (ℕ × Expression) → List (ℕ × Statement) → Type 0
  Goods G pl = Each (λ p. Prim T M G p.1) pl

  -- the instance has something equal for the place
  abbrev pub EqualPlace : List (ℕ × Expression) → (ℕ → ℕ → Option Expression) → ℕ × Statement → Type 0
  EqualPlace G I p = (f : Expression) × (I p.0 (domain_count p.1) ≡ Some f) × Prim T M G (equate (boundary_of p.1) (head p.1) f)

  abbrev pub Walked : List (ℕ × Expression) → Statement → Expression → Expression → List (ℕ × Statement) → Type 0
  Walked G B e u pl = Prim T M G (fill B e) → Goods G pl × ((I : ℕ → ℕ → Option Expression) → HasClosedBodies I → Each (EqualPlace G I) pl → Prim T M G (equate B e (instantiate I u)))

  abbrev pub Covers : List ℕ → List (ℕ × Statement) → Type 0
  Covers ms pl = (m : ℕ) → list_any (nat_eq m) ms ≡ true → HasPlace m pl

  abbrev pub WalkFact : List (ℕ × Statement) → Expression → Statement → Expression → Option (List (ℕ × Statement)) → Type 0
  WalkFact hs u B e None = Unit {0}
  WalkFact hs u B e (Some pl) = ((m : ℕ) → determines u m ≡ true → HasPlace m pl) × Each (PlaceIn hs) pl × ((G : List (ℕ × Expression)) → Walked G B e u pl)

  -- at each goal
  abbrev pub SymbolFact : List (ℕ × Statement) → Expression → Expression → Option (List (ℕ × Statement)) → Type 0
  SymbolFact hs u e None = Unit {0}
  SymbolFact hs u e (Some pl) = ((m : ℕ) → determines u m ≡ true → HasPlace m pl) × Each (PlaceIn hs) pl × ((c : Claim) → IsObjectGoal c → (G : List (ℕ × Expression)) → Walked G (plain c) e u pl)

  abbrev pub ArgsFact : List (ℕ × Statement) → (ℕ → ℕ → Option Expression) → List (ℕ × Statement) → Arguments → Arguments → Option (List (ℕ × Statement)) → Type 0
  ArgsFact hs I ps us a None = Unit {0}
  ArgsFact hs I ps us a (Some pl) = ((m : ℕ) → list_any (nat_eq m) (metavariables_of_arguments us) ≡ true → HasPlace m pl) × Each (PlaceIn hs) pl
      × ((G : List (ℕ × Expression)) → FitsPremises ps a → FitsPremises ps us → Trees (Step T) (sequents M G (filled_premises I ps a))
      → Goods G pl × ((K : ℕ → ℕ → Option Expression) → HasClosedBodies K → Each (EqualPlace G K) pl → Trees (Step T) (sequents M G (equated_premises I ps a (act_arguments free K us)))))

module _ (W : Declarations) (so : Sound W.rules) (M : List (ℕ × Statement)) (hs : List (ℕ × Statement)) where
  T : List Rule
  T = W.rules

  -- a bare metavariable
  meta_walk : (m n k : ℕ) (ts : Rattle.ft_theory.specs.Expressions.Terms) (B : Statement) (e : Expression) → equal_term_lists ts (bounds k) ≡ true → domain_count B ≡ k → IsObject B → IsObjectPremise hs m (count ts)
      → WalkFact W.rules M hs (meta m ts) B e (Some ((m, fill B e) ∷ []))
  meta_walk m n k ts B e h d o im = (
    λ l q. (fill B e, [], same l m (fill B e ∷ []) [] (any_one l m q)),
    ((has_head_fill B e o, im.0, im.1, im.2, domain_count-fill B e ∙ d ∙ sym (count_bounds k) ∙ ap count (sym (lists_true ts (bounds k) h)) ∙ im.3), tt),
    λ G p. (
      (p, tt),
      λ I cl ep.
          let f : Expression = ep.0.0 in
          let at_k : I m k ≡ Some f = ap (I m) (sym (domain_count-fill B e ∙ d)) ∙ ep.0.1 in
          subst (λ z. Prim W.rules M G (equate B e z)) (sym (bare_at I m k ts f h at_k (cl m k f at_k)))
          (subst₂ (λ y z. Prim W.rules M G (equate y z f)) (boundary-fill B e (inl o)) (head_fill B e o) ep.0.2),
    ),
  )

  abbrev ArgsWalk : ℕ → Arguments → Type 0
  ArgsWalk n us = (I : ℕ → ℕ → Option Expression) (ps : List (ℕ × Statement)) (a : Arguments) → Kinds ps → Means W.rules M n (ArgsFact W.rules M hs I ps us a) (walk_arguments W us (filled_premises I ps a))

  no_rule_fact : (s f : ℕ) (us a : Arguments) (I : ℕ → ℕ → Option Expression) → rule_at W.rules f ≡ None → (o : Option (List (ℕ × Statement))) → ArgsFact W.rules M hs I [] us a o → SymbolFact W.rules M hs (symbol s us) (symbol f a) o
  no_rule_fact s f us a I e None h = tt
  no_rule_fact s f us a I e (Some pl) h = (h.0, h.1, λ c o G p. nothing (sym e ∙ (rule_of W.rules so M G c f a o p).1))

  rule_fact : (s f : ℕ) (us a : Arguments) (R : Rule) → rule_at W.rules f ≡ Some R → s ≡ f → Laid W.rules (symbol s us) → (o : Option (List (ℕ × Statement)))
      → ArgsFact W.rules M hs (instance_of R.premises a) R.premises us a o → SymbolFact W.rules M hs (symbol s us) (symbol f a) o
  unfolding act
  rule_fact s f us a R e q l None h = tt
  rule_fact s f us a R e q l (Some pl) h = (
    h.0,
    h.1,
    λ c o G p.
        let k : Resting W.rules so M G c R a = resting W.rules so M G c f a R o e p in
        let fu : FitsPremises R.premises us = l.0 R (ap (rule_at W.rules) q ∙ e) in (
          (h.2 G k.fits fu k.arguments).0,
          λ I cl ep. subst (λ z. Prim W.rules M G (equate (plain c) (symbol f a) (symbol z (act_arguments free I us)))) (sym q)
              (congruence_at W.rules so M G c f a (act_arguments free I us) R e k (FitsPremises-act R.premises us free I fu) ((h.2 G k.fits fu k.arguments).1 I cl ep)),
        ),
  )

  -- two symbols
  symbols_walk : (n s f : ℕ) (us a : Arguments) → Laid W.rules (symbol s us) → ArgsWalk n us
      → Means W.rules M n (SymbolFact W.rules M hs (symbol s us) (symbol f a)) (when (nat_eq s f) (λ z. ◌>>◌ (visit W (symbol f a)) (walk_arguments W us (arguments_of W (symbol f a)))))
  symbols_walk n s f us a l w = go (nat_eq s f) (eqb-true s f)
    where
      by_rule : (o : Option Rule) → rule_at W.rules f ≡ o → s ≡ f → Means W.rules M n (SymbolFact W.rules M hs (symbol s us) (symbol f a)) (walk_arguments W us (rule_arguments o a))
      by_rule None e q = means_weaken W.rules M n (ArgsFact W.rules M hs (λ m k. None) [] us a) (SymbolFact W.rules M hs (symbol s us) (symbol f a)) (walk_arguments W us []) (no_rule_fact s f us a (λ m k. None) e) (w (λ m k. None) [] a tt)
      by_rule (Some R) e q = means_weaken W.rules M n (ArgsFact W.rules M hs (instance_of R.premises a) R.premises us a) (SymbolFact W.rules M hs (symbol s us) (symbol f a)) (walk_arguments W us (filled_premises (instance_of R.premises a) R.premises a))
          (rule_fact s f us a R e q l) (w (instance_of R.premises a) R.premises a (kinds_of (λ N x. Prim W.rules N [] x) [] R.premises (so f R e).0))

      go : (t : Bool) → (t ≡ true → s ≡ f) → Means W.rules M n (SymbolFact W.rules M hs (symbol s us) (symbol f a)) (when t (λ z. ◌>>◌ (visit W (symbol f a)) (walk_arguments W us (arguments_of W (symbol f a)))))
      go true h = means_then W.rules M n (SymbolFact W.rules M hs (symbol s us) (symbol f a)) (visit W (symbol f a)) (walk_arguments W us (arguments_of W (symbol f a))) (by_rule (rule_at W.rules f) refl (h refl))
      go false h = tt

  plain_walk : (n s : ℕ) (us : Arguments) (e : Expression) → Laid W.rules (symbol s us) → ArgsWalk n us → Means W.rules M n (SymbolFact W.rules M hs (symbol s us) e) (walk W (symbol s us) e)
  plain_walk n s us (symbol f a) l w = symbols_walk n s f us a l w
  plain_walk n s us e l w = tt

  at_goal : (c : Claim) (u e : Expression) (o : Option (List (ℕ × Statement))) → IsObjectGoal c → SymbolFact W.rules M hs u e o → WalkFact W.rules M hs u (plain c) e o
  at_goal c u e None o h = tt
  at_goal c u e (Some pl) o h = (h.0, h.1, h.2 c o)

  symbol_walk : (n k s : ℕ) (us : Arguments) (B : Statement) (e : Expression) → is_pattern k (symbol s us) ≡ true → domain_count B ≡ k → IsObject B → Laid W.rules (symbol s us) → ArgsWalk n us
      → Means W.rules M n (WalkFact W.rules M hs (symbol s us) B e) (walk W (symbol s us) (head (fill B e)))
  symbol_walk n k s us (plain c) e h d o l w =
      subst (λ z. Means W.rules M n (WalkFact W.rules M hs (symbol s us) (plain c) e) (walk W (symbol s us) z)) (sym (head_fill (plain c) e o))
      (means_weaken W.rules M n (SymbolFact W.rules M hs (symbol s us) e) (WalkFact W.rules M hs (symbol s us) (plain c) e) (walk W (symbol s us) e) (λ z x. at_goal c (symbol s us) e z o x) (plain_walk n s us e l w))
  symbol_walk n k s us (abstracted A B) e h d o l w = absurd (grind (arith, d, eqb-true k zero (both (nat_eq k zero) (are_patterns us) h).0))

  -- the walk of an argument
  abbrev walk_argument : Expression → Statement → Program Places
  walk_argument u x = place_or u x (walk W u (head x))

  -- an argument and those after it
  argument_walk : (n l : ℕ) (u : Expression) (us : Arguments) (I : ℕ → ℕ → Option Expression) (p : ℕ × Statement) (ps : List (ℕ × Statement)) (e : Expression) (a b : Arguments) → IsObject p.1 ⊎ IsEquation p.1
      → (domain_count (statement_at I p.1) ≡ l → IsObject p.1 → Means W.rules M n (WalkFact W.rules M hs u (statement_at I p.1) e) (walk_argument u (fill (statement_at I p.1) e)))
      → Means W.rules M n (ArgsFact W.rules M hs I ps us a) (walk_arguments W us (filled_premises I ps a))
      → ((xs ys : List (ℕ × Statement)) → WalkFact W.rules M hs u (statement_at I p.1) e (Some xs) → ArgsFact W.rules M hs I ps us a (Some ys) → ArgsFact W.rules M hs I (p ∷ ps) (with_body l u us) b (Some (xs ++ ys)))
      → Means W.rules M n (ArgsFact W.rules M hs I (p ∷ ps) (with_body l u us) b) (walk_arguments W (with_body l u us) (fill (statement_at I p.1) e ∷ filled_premises I ps a))
  argument_walk n l u us I p ps e a b kind wu wa join = go (has_head (fill (statement_at I p.1) e) && nat_eq l (domain_count (fill (statement_at I p.1) e))) refl
    where
      fin : (xs : List (ℕ × Statement)) → WalkFact W.rules M hs u (statement_at I p.1) e (Some xs) → (o : Option (List (ℕ × Statement))) → ArgsFact W.rules M hs I ps us a o → ArgsFact W.rules M hs I (p ∷ ps) (with_body l u us) b (option_map (λ zs. xs ++ zs) o)
      fin xs h None g = tt
      fin xs h (Some ys) g = join xs ys h g

      after : (o : Option (List (ℕ × Statement))) → WalkFact W.rules M hs u (statement_at I p.1) e o
          → Means W.rules M n (ArgsFact W.rules M hs I (p ∷ ps) (with_body l u us) b) (and_places o (λ z. walk_arguments W us (filled_premises I ps a)))
      after None h = tt
      after (Some xs) h = means_bind W.rules M n (ArgsFact W.rules M hs I ps us a) (ArgsFact W.rules M hs I (p ∷ ps) (with_body l u us) b) (walk_arguments W us (filled_premises I ps a)) (λ ys. give (option_map (λ zs. xs ++ zs) ys)) wa (fin xs h)

      by_kind : (has_head (fill (statement_at I p.1) e) && nat_eq l (domain_count (fill (statement_at I p.1) e))) ≡ true → IsObject p.1 ⊎ IsEquation p.1
          → Means W.rules M n (ArgsFact W.rules M hs I (p ∷ ps) (with_body l u us) b) (◌>>=◌ (walk_argument u (fill (statement_at I p.1) e)) (λ found. and_places found (λ z. walk_arguments W us (filled_premises I ps a))))
      by_kind t (inr q) = wrong (sym (no_head_fill (statement_at I p.1) e (equation-map p.1 (λ z. act free I) zero q)) ∙ (both (has_head (fill (statement_at I p.1) e)) (nat_eq l (domain_count (fill (statement_at I p.1) e))) t).0)
      by_kind t (inl o) = means_bind W.rules M n (WalkFact W.rules M hs u (statement_at I p.1) e) (ArgsFact W.rules M hs I (p ∷ ps) (with_body l u us) b) (walk_argument u (fill (statement_at I p.1) e)) (λ found. and_places found (λ z. walk_arguments W us (filled_premises I ps a)))
          (wu (sym (eqb-true l (domain_count (fill (statement_at I p.1) e)) (both (has_head (fill (statement_at I p.1) e)) (nat_eq l (domain_count (fill (statement_at I p.1) e))) t).1 ∙ domain_count-fill (statement_at I p.1) e)) o) after

      go : (t : Bool) → (has_head (fill (statement_at I p.1) e) && nat_eq l (domain_count (fill (statement_at I p.1) e))) ≡ t
          → Means W.rules M n (ArgsFact W.rules M hs I (p ∷ ps) (with_body l u us) b) (when t (λ z. ◌>>=◌ (walk_argument u (fill (statement_at I p.1) e)) (λ found. and_places found (λ z. walk_arguments W us (filled_premises I ps a)))))
      go true t = by_kind t kind
      go false t = tt

  cover_join : (u : Expression) (us : Arguments) (l : ℕ) (xs ys : List (ℕ × Statement)) → ((m : ℕ) → determines u m ≡ true → HasPlace m xs) → ((m : ℕ) → list_any (nat_eq m) (metavariables_of_arguments us) ≡ true → HasPlace m ys)
      → (m : ℕ) → list_any (nat_eq m) (metavariables_of_arguments (with_body l u us)) ≡ true → HasPlace m (xs ++ ys)
  cover_join u us l xs ys c d m q = go (any_join (nat_eq m) (metavariables_of u) (metavariables_of_arguments us) q)
    where
      go : (list_any (nat_eq m) (metavariables_of u) ≡ true) ⊎ (list_any (nat_eq m) (metavariables_of_arguments us) ≡ true) → HasPlace m (xs ++ ys)
      go (inl h) = place_left m xs ys (c m h)
      go (inr h) = place_right m xs ys (d m h)

  bodies_joined : (l k : ℕ) (u : Expression) (us : Arguments) (I : ℕ → ℕ → Option Expression) (p : ℕ × Statement) (ps : List (ℕ × Statement)) (e : Expression) (a : Arguments) (xs ys : List (ℕ × Statement)) (G : List (ℕ × Expression))
      → WalkFact W.rules M hs u (statement_at I p.1) e (Some xs) → ArgsFact W.rules M hs I ps us a (Some ys) → FitsPremises (p ∷ ps) (with_body k e a) → FitsPremises (p ∷ ps) (with_body l u us)
      → Trees (Step W.rules) (sequents M G (filled_premises I (p ∷ ps) (with_body k e a)))
      → Goods W.rules M G (xs ++ ys) × ((K : ℕ → ℕ → Option Expression) → HasClosedBodies K → Each (EqualPlace W.rules M G K) (xs ++ ys) → Trees (Step W.rules) (sequents M G (equated_premises I (p ∷ ps) (with_body k e a) (act_arguments free K (with_body l u us)))))
  unfolding act
  bodies_joined l k u us I p ps e a xs ys G h g f f' (more t ts) = (
    each_join (λ q. Prim W.rules M G q.1) xs ys (h.2 G t).0 (g.2 G f.2 f'.2 ts).0,
    λ K cl ep. more ((h.2 G t).1 K cl (each_split (EqualPlace W.rules M G K) xs ys ep).0) ((g.2 G f.2 f'.2 ts).1 K cl (each_split (EqualPlace W.rules M G K) xs ys ep).1),
  )

  dummies_fact : (l k : ℕ) (us : Arguments) (I : ℕ → ℕ → Option Expression) (p : ℕ × Statement) (ps : List (ℕ × Statement)) (a : Arguments) (o : Option (List (ℕ × Statement))) → ArgsFact W.rules M hs I ps us a o → ArgsFact W.rules M hs I (p ∷ ps) (dummy l us) (dummy k a) o
  unfolding act
  dummies_fact l k us I p ps a None h = tt
  dummies_fact l k us I p ps a (Some pl) h = (h.0, h.1, λ G f f' ts. h.2 G f.2 f'.2 (tail ts))
    where
      tail : {G : List (ℕ × Expression)} → Trees (Step W.rules) (sequents M G (filled_premises I (p ∷ ps) (dummy k a))) → Trees (Step W.rules) (sequents M G (filled_premises I ps a))
      tail (more t ts) = ts

  mixed_fact : (l k : ℕ) (us : Arguments) (I : ℕ → ℕ → Option Expression) (p : ℕ × Statement) (ps : List (ℕ × Statement)) (e : Expression) (a : Arguments) (o : Option (List (ℕ × Statement))) → ArgsFact W.rules M hs I ps us a o → ArgsFact W.rules M hs I (p ∷ ps) (dummy l us) (with_body k e a) o
  mixed_fact l k us I p ps e a None h = tt
  mixed_fact l k us I p ps e a (Some pl) h = (h.0, h.1, λ G f f' ts. absurd (not_both p.1 f.1 f'.1))

  dummy_walk : (n : ℕ) (us : Arguments) (I : ℕ → ℕ → Option Expression) (p : ℕ × Statement) (ps : List (ℕ × Statement)) (x : Statement) (a b : Arguments) (l : ℕ) → Means W.rules M n (ArgsFact W.rules M hs I ps us a) (walk_arguments W us (filled_premises I ps a))
      → ((o : Option (List (ℕ × Statement))) → ArgsFact W.rules M hs I ps us a o → ArgsFact W.rules M hs I (p ∷ ps) (dummy l us) b o)
      → Means W.rules M n (ArgsFact W.rules M hs I (p ∷ ps) (dummy l us) b) (walk_arguments W (dummy l us) (x ∷ filled_premises I ps a))
  dummy_walk n us I p ps x a b l w f = go (not (has_head x))
    where
      go : (t : Bool) → Means W.rules M n (ArgsFact W.rules M hs I (p ∷ ps) (dummy l us) b) (when t (λ z. walk_arguments W us (filled_premises I ps a)))
      go true = means_weaken W.rules M n (ArgsFact W.rules M hs I ps us a) (ArgsFact W.rules M hs I (p ∷ ps) (dummy l us) b) (walk_arguments W us (filled_premises I ps a)) f w
      go false = tt

  mutual
    pub walk_mean : (u : Expression) (n k : ℕ) (B : Statement) (e : Expression) → is_pattern k u ≡ true → domain_count B ≡ k → IsObject B → Laid W.rules u → MentionsOnly (λ v. ⊥) (IsObjectPremise hs) u
        → Means W.rules M n (WalkFact W.rules M hs u B e) (walk_argument u (fill B e))
    walk_mean (bound i) n k B e h d o l m = wrong h
    walk_mean (free v) n k B e h d o l m = wrong h
    walk_mean (meta x ts) n k B e h d o l m = meta_walk x n k ts B e h d o m.0
    walk_mean (symbol s us) n k B e h d o l m = symbol_walk n k s us B e h d o l (λ I ps a ks. args_walk us n I ps a (both (nat_eq k zero) (are_patterns us) h).1 l.1 m ks)

    pub args_walk : (us : Arguments) (n : ℕ) (I : ℕ → ℕ → Option Expression) (ps : List (ℕ × Statement)) (a : Arguments) → are_patterns us ≡ true → AllLaid W.rules us → ArgumentsMentionOnly (λ v. ⊥) (IsObjectPremise hs) us → Kinds ps
        → Means W.rules M n (ArgsFact W.rules M hs I ps us a) (walk_arguments W us (filled_premises I ps a))
    args_walk no_arguments n I [] a h l m ks = (λ x q. wrong q, tt, λ G f f' ts. (tt, λ K cl ep. none))
    args_walk no_arguments n I (p ∷ ps) no_arguments h l m ks = (λ x q. wrong q, tt, λ G f f' ts. absurd f)
    args_walk no_arguments n I (p ∷ ps) (with_body k e a) h l m ks = tt
    args_walk no_arguments n I (p ∷ ps) (dummy k a) h l m ks = tt
    args_walk (with_body j u us) n I [] a h l m ks = tt
    args_walk (with_body j u us) n I (p ∷ ps) no_arguments h l m ks = tt
    args_walk (with_body j u us) n I (p ∷ ps) (with_body k e a) h l m ks =
        let b : (is_pattern j u ≡ true) × (are_patterns us ≡ true) = both (is_pattern j u) (are_patterns us) h in
        argument_walk n j u us I p ps e a (with_body k e a) ks.0 (λ d o. walk_mean u n j (statement_at I p.1) e b.0 d (object-map p.1 (λ z. act free I) zero o) l.0 m.0) (args_walk us n I ps a b.1 l.1 m.1 ks.1)
        (λ xs ys x y. (cover_join u us j xs ys x.0 y.0, each_join (PlaceIn hs) xs ys x.1 y.1, λ G f f' ts. bodies_joined j k u us I p ps e a xs ys G x y f f' ts))
    args_walk (with_body j u us) n I (p ∷ ps) (dummy k a) h l m ks =
        let b : (is_pattern j u ≡ true) × (are_patterns us ≡ true) = both (is_pattern j u) (are_patterns us) h in
        argument_walk n j u us I p ps (bound zero) a (dummy k a) ks.0 (λ d o. walk_mean u n j (statement_at I p.1) (bound zero) b.0 d (object-map p.1 (λ z. act free I) zero o) l.0 m.0) (args_walk us n I ps a b.1 l.1 m.1 ks.1)
        (λ xs ys x y. (cover_join u us j xs ys x.0 y.0, each_join (PlaceIn hs) xs ys x.1 y.1, λ G f f' ts. absurd (not_both p.1 f'.1 f.1)))
    args_walk (dummy j us) n I [] a h l m ks = tt
    args_walk (dummy j us) n I (p ∷ ps) no_arguments h l m ks = tt
    args_walk (dummy j us) n I (p ∷ ps) (with_body k e a) h l m ks = dummy_walk n us I p ps (fill (statement_at I p.1) e) a (with_body k e a) j (args_walk us n I ps a h l m ks.1) (mixed_fact j k us I p ps e a)
    args_walk (dummy j us) n I (p ∷ ps) (dummy k a) h l m ks = dummy_walk n us I p ps (fill (statement_at I p.1) (bound zero)) a (dummy k a) j (args_walk us n I ps a h l m ks.1) (dummies_fact j k us I p ps a)

  -- a pattern against an expression at any goal
  pub pattern_walk : (n s : ℕ) (us : Arguments) (e : Expression) → are_patterns us ≡ true → Laid W.rules (symbol s us) → ArgumentsMentionOnly (λ v. ⊥) (IsObjectPremise hs) us
      → Means W.rules M n (SymbolFact W.rules M hs (symbol s us) e) (walk W (symbol s us) e)
  pattern_walk n s us e h l m = plain_walk n s us e l (λ I ps a ks. args_walk us n I ps a h l.1 m ks)
