-- Words, patterns and fitting keep to entries of the list.
use Rattle.std.proofs.Common.{◌≡◌, ℕ, suc, Bool, true, false, cond, Option, Some, None, List, ◌∷◌, refl, ap₂}
use Rattle.std.specs.Prelude.{codes}
use Rattle.ft_theory.specs.Statements.{equal_terms, Statement, plain}
use Rattle.ft_items.specs.Item.{Item, by_abs, by_subst, by_substeq, by_refl, by_sym, by_trans, by_conv, by_conveq, by_left, by_right, by_typeof, by_domain, by_boundary, by_widen, by_arg, by_natural}
use Rattle.ft_items.specs.Store.{Assertion, Annotation, with_two}
use Rattle.ft_items.specs.Rows.{when}
use Rattle.ft_items.specs.Good.{same_truth}
use Rattle.ft_theory.specs.Rules.{Rule}
use Rattle.ft_reference.specs.Calls.{answer}
use Rattle.ft_reference.specs.Nucleus.{fits_boundary}
use Rattle.ft_grammar.specs.declared.form.OneForm.{OneForm}
use Rattle.ft_grammar.specs.declared.form.OneForm.TheVariants.{Refl, Sym, Left, Right, Typeof, Domain, Natural, Normal, Boundaryof, SomeWord}
use Rattle.ft_grammar.specs.declared.form.TwoForm.{TwoForm}
use Rattle.ft_grammar.specs.declared.form.TwoForm.TheVariants.{Trans, Convert, Equal, Widen, Rewrite, Fill}
use Rattle.ft_meaning.specs.Trees.{Pattern, cons_pattern, some_pattern, symbol_pattern, name_pattern, wildcard, truth_pattern, unit_pattern, none_pattern, nil_pattern, pair_pattern, Patterns, no_patterns, and_pattern}
use Rattle.ft_meaning.specs.Stages.{Stage, word_feature, word_feature_of_two}
use Rattle.ft_meaning.specs.Values.{Value, judgement, boundary, unit, truth, pair, nil, cons, none, some, Environment, performs, stuck, Run, ◌>>=◌, pure, end, nucleus, the_rule, as_statement}
use Rattle.ft_meaning.specs.Matching.{is_applied, if_found, ◌and_also◌, matches, match_arguments}
use Rattle.ft_meaning.specs.Forms.{fitting, abstract_value, substitute_value, conversion, judged, word_at, word_at_two}
use Rattle.ft_meaning_laws.proofs.Grows.{Quiet}
use Rattle.ft_meaning_laws.proofs.Made.{IsEntry, IsThesis, IsBoundary, IsMade, AreMade, IfMade, thesis_later, made_later, are_made_later, Keeps, keeps_bind, keeps_pure, keeps_end, keeps_halt, keeps_cond}
use Rattle.ft_meaning_laws.proofs.Equal.{keeps_compare, keeps_normalise}
use Rattle.ft_meaning_laws.proofs.Calls.{Answers, keeps_nucleus, keeps_judged, keeps_bounded, named_one, named_two, IsRule, IsVariable, variable_resolved, keeps_rule}

where_made : (items : List Item) (b : Bool) (G : Environment) → AreMade items G → IfMade items (when b G)
where_made items true G h = h
where_made items false G h = tt

module _ (B : Stage) where
  -- fitting
  pub keeps_fitting : (items : List Item) (at : ℕ) (j b : Assertion) → IsThesis items j → IsBoundary items b → Keeps B Assertion IsThesis items (fitting at j b)
  keeps_fitting items at j b h k = keeps_cond B Assertion IsThesis items (fits_boundary j b) (pure j) (end (performs (codes "coerce") (pair (judgement j) (boundary b)) at))
      (keeps_pure B Assertion IsThesis items j h) (keeps_end B Assertion IsThesis items (performs (codes "coerce") (pair (judgement j) (boundary b)) at) (h, k))

  -- abstraction and substitution
  pub keeps_abstract : (items : List Item) (at : ℕ) (y : ℕ × Annotation) (v : Value) → IsVariable items y → IsMade items v → Keeps B Value IsMade items (abstract_value at y v)
  keeps_abstract items at y (judgement j) k h = keeps_judged B items at (by_abs y j) (by_abs y.0 h.0.0, ap₂ (with_two by_abs) (variable_resolved items y k) h.0.1) h.1
  keeps_abstract items at y (boundary b) k h = keeps_bounded B items at (by_abs y b) (by_abs y.0 h.0.0, ap₂ (with_two by_abs) (variable_resolved items y k) h.0.1) h.1
  keeps_abstract items at y v k h = keeps_halt B Value IsMade items stuck

  pub keeps_substitute : (items : List Item) (at : ℕ) (v : Value) (t : Assertion) → IsMade items v → IsThesis items t → Keeps B Value IsMade items (substitute_value at v t)
  keeps_substitute items at (judgement j) t h k = keeps_judged B items at (by_subst j t) (named_two items by_subst by_subst (λ n m. refl) j t h.0 k.0) h.1
  keeps_substitute items at (boundary b) t h k = keeps_bounded B items at (by_subst b t) (named_two items by_subst by_subst (λ n m. refl) b t h.0 k.0) h.1
  keeps_substitute items at v t h k = keeps_halt B Value IsMade items stuck

  -- words
  keeps_statement : (items : List Item) (v : Value) (next : Assertion → Run Value) → IsMade items v → ((p : Assertion) → IsEntry items p → Keeps B Value IsMade items (next p)) → Keeps B Value IsMade items (as_statement v >>= next)
  keeps_statement items (judgement j) next h f = f j h.0
  keeps_statement items (boundary b) next h f = f b h.0
  keeps_statement items v next h f = keeps_halt B Value IsMade items stuck

  pub keeps_word : (items : List Item) (at : ℕ) (w : OneForm) (v : Value) → B (word_feature w) ≡ true → IsMade items v → Keeps B Value IsMade items (word_at at w v)
  keeps_word items at Refl (judgement j) b h = keeps_judged B items at (by_refl j) (named_one items by_refl by_refl (λ n. refl) j h.0) refl
  keeps_word items at Sym (judgement j) b h = keeps_judged B items at (by_sym j) (named_one items by_sym by_sym (λ n. refl) j h.0) refl
  keeps_word items at Left v b h = keeps_statement items v (λ p. judged at (λ W. answer W (by_left p))) h (λ p k. keeps_judged B items at (by_left p) (named_one items by_left by_left (λ n. refl) p k) refl)
  keeps_word items at Right v b h = keeps_statement items v (λ p. judged at (λ W. answer W (by_right p))) h (λ p k. keeps_judged B items at (by_right p) (named_one items by_right by_right (λ n. refl) p k) refl)
  keeps_word items at Typeof v b h = keeps_statement items v (λ p. judged at (λ W. answer W (by_typeof p))) h (λ p k. keeps_judged B items at (by_typeof p) (named_one items by_typeof by_typeof (λ n. refl) p k) refl)
  keeps_word items at Domain v b h = keeps_statement items v (λ p. judged at (λ W. answer W (by_domain p))) h (λ p k. keeps_judged B items at (by_domain p) (named_one items by_domain by_domain (λ n. refl) p k) refl)
  keeps_word items at Natural (judgement j) b h = keeps_judged B items at (by_natural j) (named_one items by_natural by_natural (λ n. refl) j h.0) refl
  keeps_word items at Normal (judgement j) b h = keeps_normalise B b items at j j.statement h refl
  keeps_word items at Boundaryof (judgement j) b h = keeps_bounded B items at (by_boundary j) (named_one items by_boundary by_boundary (λ n. refl) j h.0) refl
  keeps_word items at SomeWord v b h = keeps_pure B Value IsMade items (some v) h
  keeps_word items at w v b h = keeps_halt B Value IsMade items stuck

  keeps_conversion : (items : List Item) (at : ℕ) (j k : Assertion) → IsEntry items j → IsEntry items k → (x : Statement) → Keeps B Value IsMade items (judged at (λ W. conversion x W j k))
  keeps_conversion items at j k h l (plain (equal_terms s t A)) = keeps_judged B items at (by_conveq j k) (named_two items by_conveq by_conveq (λ n m. refl) j k h l) refl
  keeps_conversion items at j k h l x = keeps_judged B items at (by_conv j k) (named_two items by_conv by_conv (λ n m. refl) j k h l) refl

  pub keeps_word_two : (items : List Item) (at second : ℕ) (w : TwoForm) (v u : Value) → B (word_feature_of_two w) ≡ true → IsMade items v → IsMade items u → Keeps B Value IsMade items (word_at_two at second w v u)
  keeps_word_two items at second Trans (judgement j) (judgement k) b h l = keeps_judged B items at (by_trans j k) (named_two items by_trans by_trans (λ n m. refl) j k h.0 l.0) refl
  keeps_word_two items at second Convert (judgement j) (judgement k) b h l = keeps_conversion items at j k h.0 l.0 j.statement
  keeps_word_two items at second Equal (judgement j) (judgement k) b h l = keeps_compare B b items at j k j.statement k.statement h l refl refl
  keeps_word_two items at second Widen (judgement j) (judgement k) b h l = keeps_judged B items at (by_widen j k) (named_two items by_widen by_widen (λ n m. refl) j k h.0 l.0) refl
  keeps_word_two items at second Rewrite (judgement j) (judgement k) b h l = keeps_judged B items at (by_substeq j k) (named_two items by_substeq by_substeq (λ n m. refl) j k h.0 l.0) refl
  keeps_word_two items at second Fill (boundary c) (judgement k) b h l = keeps_bind B Assertion Value IsThesis IsMade items (fitting second k c) (λ j. pure (judgement j)) (keeps_fitting items second k c l h)
      (λ xs q j p. keeps_pure B Value IsMade xs (judgement j) p)
  keeps_word_two items at second w v u b h l = keeps_halt B Value IsMade items stuck

  -- patterns
  pub keeps_found : (A : Type 0) (P : List Item → A → Type 0) (items : List Item) (found : Option Environment) (next : Environment → Run A) (other : Run A) → IfMade items found
      → ((G : Environment) → AreMade items G → Keeps B A P items (next G)) → Keeps B A P items other → Keeps B A P items (if_found found next other)
  keeps_found A P items (Some G) next other h f k = f G h
  keeps_found A P items None next other h f k = k

  keeps_and : (items : List Item) (m : Run (Option Environment)) (next : Environment → Run (Option Environment)) → Keeps B (Option Environment) IfMade items m
      → ((later : List Item) → Quiet items later → (G : Environment) → AreMade later G → Keeps B (Option Environment) IfMade later (next G)) → Keeps B (Option Environment) IfMade items (m and_also next)
  keeps_and items m next k f = keeps_bind B (Option Environment) (Option Environment) IfMade IfMade items m (λ found. if_found found next (pure None)) k (λ xs q found h.
      keeps_found (Option Environment) IfMade xs found next (pure None) h (f xs q) (keeps_pure B (Option Environment) IfMade xs None tt))

  mutual
    pub keeps_match : (items : List Item) (at : ℕ) (p : Pattern) (v : Value) (G : Environment) → IsMade items v → AreMade items G → Keeps B (Option Environment) IfMade items (matches at p v G)
    keeps_match items at (cons_pattern a p q) (cons v w) G h g =
        keeps_and items (matches at p v G) (matches at q w) (keeps_match items at p v G h.0 g) (λ xs r H l. keeps_match xs at q w H (made_later items xs r w h.1) l)
    keeps_match items at (cons_pattern a p q) nil G h g = keeps_pure B (Option Environment) IfMade items None tt
    keeps_match items at (some_pattern a p) (some v) G h g = keeps_match items at p v G h g
    keeps_match items at (some_pattern a p) none G h g = keeps_pure B (Option Environment) IfMade items None tt
    keeps_match items at (symbol_pattern a n ps) (judgement j) G h g =
        keeps_bind B (ℕ × Rule) (Option Environment) IsRule IfMade items (the_rule n.name) (λ r. cond (is_applied r.0 j.statement) (match_arguments at ps j 1 G) (pure None)) (keeps_rule B items n.name)
        (λ xs q r k. keeps_cond B (Option Environment) IfMade xs (is_applied r.0 j.statement) (match_arguments at ps j 1 G) (pure None)
        (keeps_match_arguments xs at ps j 1 G (thesis_later items xs q j h) (are_made_later items xs q G g))
        (keeps_pure B (Option Environment) IfMade xs None tt))
    keeps_match items at (name_pattern a n) v G h g = keeps_pure B (Option Environment) IfMade items (Some ((n, v) ∷ G)) (h, g)
    keeps_match items at (wildcard a) v G h g = keeps_pure B (Option Environment) IfMade items (Some G) g
    keeps_match items at (truth_pattern a b) (truth c) G h g = keeps_pure B (Option Environment) IfMade items (when (same_truth b c) G) (where_made items (same_truth b c) G g)
    keeps_match items at (unit_pattern a) unit G h g = keeps_pure B (Option Environment) IfMade items (Some G) g
    keeps_match items at (none_pattern a) none G h g = keeps_pure B (Option Environment) IfMade items (Some G) g
    keeps_match items at (none_pattern a) (some v) G h g = keeps_pure B (Option Environment) IfMade items None tt
    keeps_match items at (nil_pattern a) nil G h g = keeps_pure B (Option Environment) IfMade items (Some G) g
    keeps_match items at (nil_pattern a) (cons v w) G h g = keeps_pure B (Option Environment) IfMade items None tt
    keeps_match items at (pair_pattern a p q) (pair v w) G h g =
        keeps_and items (matches at p v G) (matches at q w) (keeps_match items at p v G h.0 g) (λ xs r H l. keeps_match xs at q w H (made_later items xs r w h.1) l)
    keeps_match items at p v G h g = keeps_halt B (Option Environment) IfMade items stuck

    pub keeps_match_arguments : (items : List Item) (at : ℕ) (ps : Patterns) (j : Assertion) (i : ℕ) (G : Environment) → IsThesis items j → AreMade items G → Keeps B (Option Environment) IfMade items (match_arguments at ps j i G)
    keeps_match_arguments items at no_patterns j i G h g = keeps_pure B (Option Environment) IfMade items (Some G) g
    keeps_match_arguments items at (and_pattern p ps) j i G h g =
        keeps_bind B Assertion (Option Environment) (Answers (by_arg i j)) IfMade items (nucleus at (λ W. answer W (by_arg i j))) (λ a. matches at p (judgement a) G and_also match_arguments at ps j (suc i))
        (keeps_nucleus B items at (by_arg i j) (named_one items (by_arg i) (by_arg i) (λ n. refl) j h.0))
        (λ xs q a k. keeps_and xs (matches at p (judgement a) G) (match_arguments at ps j (suc i)) (keeps_match xs at p (judgement a) G k (are_made_later items xs q G g))
        (λ ys r H m. keeps_match_arguments ys at ps j (suc i) H (thesis_later xs ys r j (thesis_later items xs q j h)) m))
