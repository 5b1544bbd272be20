-- The text of an expression tells the expression, and where it ends.
use Rattle.std.proofs.Common.{◌≡◌, ℕ, ◌<◌, List, [], ◌∷◌, ◌++◌, refl, sym, ap, ◌∙◌, append_assoc, arith}
use Rattle.std.specs.Prelude.{codes}
use Rattle.std.specs.List.{flat_map}
use Rattle.std.specs.Fmt.{decimal}
use Rattle.ft_theory.specs.Expressions.{Expression, bound, free, symbol, meta, Arguments, no_arguments, with_body, dummy, Terms, no_terms, also}
use Rattle.ft_items.specs.Texts.{joined, expression_text, argument_texts, term_texts, NumberFits, ItsNumbersFit, ArgumentNumbersFit, TermNumbersFit}
use Rattle.ft_texts.proofs.Pieces.{Begins, IsNoDigit, tail_same, decimal_same, decimal_begins, wrapped, heads_apart, after_first}

-- the texts, each after a comma
abbrev pub further : List (List ℕ) → List ℕ
further texts = flat_map (λ y. codes "," ++ y) texts

-- an expression's text begins with its letter
text_begins : (e : Expression) (r : List ℕ) (c : ℕ) (s : List ℕ) → c < 98 → expression_text e ++ r ≡ c ∷ s → ⊥
text_begins (bound i) r c s h q = heads_apart (λ e. omega (arith, h, e)) q
text_begins (free v) r c s h q = heads_apart (λ e. omega (arith, h, e)) q
text_begins (symbol f a) r c s h q = heads_apart (λ e. omega (arith, h, e)) q
text_begins (meta m a) r c s h q = heads_apart (λ e. omega (arith, h, e)) q

further_begins : (xs : List (List ℕ)) (r : List ℕ) → Begins IsNoDigit (further xs ++ (41 ∷ r))
further_begins [] r = λ a b. omega (arith, a)
further_begins (x ∷ xs) r = λ a b. omega (arith, a)

-- the text of an argument with a body, before what follows
body_then : (n : ℕ) (e : Expression) (xs r : List ℕ) → (((decimal n ++ (46 ∷ [])) ++ expression_text e) ++ xs) ++ r ≡ decimal n ++ (46 ∷ (expression_text e ++ (xs ++ r)))
body_then n e xs r = append_assoc ((decimal n ++ (46 ∷ [])) ++ expression_text e) xs r ∙ append_assoc (decimal n ++ (46 ∷ [])) (expression_text e) (xs ++ r) ∙ append_assoc (decimal n) (46 ∷ []) (expression_text e ++ (xs ++ r))

-- the text of a dummy, before what follows
dummy_then : (n : ℕ) (xs r : List ℕ) → ((decimal n ++ (46 ∷ 42 ∷ [])) ++ xs) ++ r ≡ decimal n ++ (46 ∷ 42 ∷ (xs ++ r))
dummy_then n xs r = append_assoc (decimal n ++ (46 ∷ 42 ∷ [])) xs r ∙ append_assoc (decimal n) (46 ∷ 42 ∷ []) (xs ++ r)

no_dot : IsNoDigit 46
no_dot a b = omega (arith, a)

no_open : IsNoDigit 40
no_open a b = omega (arith, a)

no_close : IsNoDigit 41
no_close a b = omega (arith, a)

-- all arguments, given that further ones are told by their text
all_arguments : (a b : Arguments) (r s : List ℕ) → ArgumentNumbersFit a → ArgumentNumbersFit b
    → (further (argument_texts a) ++ (41 ∷ r) ≡ further (argument_texts b) ++ (41 ∷ s) → (a ≡ b) × (r ≡ s))
    → joined (codes ",") (argument_texts a) ++ (41 ∷ r) ≡ joined (codes ",") (argument_texts b) ++ (41 ∷ s) → (a ≡ b) × (r ≡ s)
all_arguments no_arguments no_arguments r s t u h q = (refl, tail_same 41 41 r s q)
all_arguments no_arguments (with_body n e b) r s t u h q = absurd (decimal_begins n (46 ∷ (expression_text e ++ (further (argument_texts b) ++ (41 ∷ s)))) 41 r u.0 no_close (sym (q ∙ body_then n e (further (argument_texts b)) (41 ∷ s))))
all_arguments no_arguments (dummy n b) r s t u h q = absurd (decimal_begins n (46 ∷ 42 ∷ (further (argument_texts b) ++ (41 ∷ s))) 41 r u.0 no_close (sym (q ∙ dummy_then n (further (argument_texts b)) (41 ∷ s))))
all_arguments (with_body n e a) no_arguments r s t u h q = absurd (decimal_begins n (46 ∷ (expression_text e ++ (further (argument_texts a) ++ (41 ∷ r)))) 41 s t.0 no_close (sym (body_then n e (further (argument_texts a)) (41 ∷ r)) ∙ q))
all_arguments (dummy n a) no_arguments r s t u h q = absurd (decimal_begins n (46 ∷ 42 ∷ (further (argument_texts a) ++ (41 ∷ r))) 41 s t.0 no_close (sym (dummy_then n (further (argument_texts a)) (41 ∷ r)) ∙ q))
all_arguments (with_body n e a) (with_body m f b) r s t u h q = h (ap (λ z. 44 ∷ z) q)
all_arguments (with_body n e a) (dummy m b) r s t u h q = h (ap (λ z. 44 ∷ z) q)
all_arguments (dummy n a) (with_body m f b) r s t u h q = h (ap (λ z. 44 ∷ z) q)
all_arguments (dummy n a) (dummy m b) r s t u h q = h (ap (λ z. 44 ∷ z) q)

-- all terms, given that further ones are told by their text
all_terms : (a b : Terms) (r s : List ℕ)
    → (further (term_texts a) ++ (41 ∷ r) ≡ further (term_texts b) ++ (41 ∷ s) → (a ≡ b) × (r ≡ s))
    → joined (codes ",") (term_texts a) ++ (41 ∷ r) ≡ joined (codes ",") (term_texts b) ++ (41 ∷ s) → (a ≡ b) × (r ≡ s)
all_terms no_terms no_terms r s h q = (refl, tail_same 41 41 r s q)
all_terms no_terms (also t b) r s h q = absurd (text_begins t (further (term_texts b) ++ (41 ∷ s)) 41 r (omega arith) (sym (q ∙ append_assoc (expression_text t) (further (term_texts b)) (41 ∷ s))))
all_terms (also t a) no_terms r s h q = absurd (text_begins t (further (term_texts a) ++ (41 ∷ r)) 41 s (omega arith) (sym (append_assoc (expression_text t) (further (term_texts a)) (41 ∷ r)) ∙ q))
all_terms (also t a) (also u b) r s h q = h (ap (λ z. 44 ∷ z) q)

-- the text of an application, before what follows
symbol_then : (f : ℕ) (a : Arguments) (r : List ℕ) → expression_text (symbol f a) ++ r ≡ 115 ∷ (decimal f ++ (40 ∷ (joined (codes ",") (argument_texts a) ++ (41 ∷ r))))
symbol_then f a r = ap (λ z. 115 ∷ z) (wrapped (decimal f) (joined (codes ",") (argument_texts a)) r 40 41)

meta_then : (m : ℕ) (a : Terms) (r : List ℕ) → expression_text (meta m a) ++ r ≡ 109 ∷ (decimal m ++ (40 ∷ (joined (codes ",") (term_texts a) ++ (41 ∷ r))))
meta_then m a r = ap (λ z. 109 ∷ z) (wrapped (decimal m) (joined (codes ",") (term_texts a)) r 40 41)

-- an application, given that its arguments are told by their text
application_same : {A : Type 0} (c m n : ℕ) (x y : A) (mk : ℕ → A → Expression) (xs ys r s : List ℕ) → NumberFits m → NumberFits n
    → (xs ++ (41 ∷ r) ≡ ys ++ (41 ∷ s) → (x ≡ y) × (r ≡ s))
    → c ∷ (decimal m ++ (40 ∷ (xs ++ (41 ∷ r)))) ≡ c ∷ (decimal n ++ (40 ∷ (ys ++ (41 ∷ s)))) → (mk m x ≡ mk n y) × (r ≡ s)
application_same c m n x y mk xs ys r s a b h q =
    let p : (m ≡ n) × ((40 ∷ (xs ++ (41 ∷ r))) ≡ (40 ∷ (ys ++ (41 ∷ s)))) = decimal_same m n (40 ∷ (xs ++ (41 ∷ r))) (40 ∷ (ys ++ (41 ∷ s))) a b no_open no_open (tail_same c c (decimal m ++ (40 ∷ (xs ++ (41 ∷ r)))) (decimal n ++ (40 ∷ (ys ++ (41 ∷ s)))) q) in
    let i : (x ≡ y) × (r ≡ s) = h (tail_same 40 40 (xs ++ (41 ∷ r)) (ys ++ (41 ∷ s)) p.1) in
    (same_application m n x y mk p.0 i.0, i.1)
  where
    same_application : {A : Type 0} (m n : ℕ) (x y : A) (mk : ℕ → A → Expression) → m ≡ n → x ≡ y → mk m x ≡ mk n y
    same_application m n x y mk e f = cc

-- two arguments with bodies, given that the bodies and further arguments are told by their texts
bodies_same : (n m : ℕ) (e f : Expression) (a b : Arguments) (r s : List ℕ) → NumberFits n → NumberFits m
    → ((v w : List ℕ) → Begins IsNoDigit v → Begins IsNoDigit w → expression_text e ++ v ≡ expression_text f ++ w → (e ≡ f) × (v ≡ w))
    → (further (argument_texts a) ++ (41 ∷ r) ≡ further (argument_texts b) ++ (41 ∷ s) → (a ≡ b) × (r ≡ s))
    → decimal n ++ (46 ∷ (expression_text e ++ (further (argument_texts a) ++ (41 ∷ r)))) ≡ decimal m ++ (46 ∷ (expression_text f ++ (further (argument_texts b) ++ (41 ∷ s))))
    → (with_body n e a ≡ with_body m f b) × (r ≡ s)
bodies_same n m e f a b r s k l g h q =
    let x : List ℕ = further (argument_texts a) ++ (41 ∷ r) in
    let y : List ℕ = further (argument_texts b) ++ (41 ∷ s) in
    let p : (n ≡ m) × ((46 ∷ (expression_text e ++ x)) ≡ (46 ∷ (expression_text f ++ y))) = decimal_same n m (46 ∷ (expression_text e ++ x)) (46 ∷ (expression_text f ++ y)) k l no_dot no_dot q in
    let i : (e ≡ f) × (x ≡ y) = g x y (further_begins (argument_texts a) r) (further_begins (argument_texts b) s) (tail_same 46 46 (expression_text e ++ x) (expression_text f ++ y) p.1) in
    let j : (a ≡ b) × (r ≡ s) = h i.1 in
    (same_body n m e f a b p.0 i.0 j.0, j.1)
  where
    same_body : (n m : ℕ) (e f : Expression) (a b : Arguments) → n ≡ m → e ≡ f → a ≡ b → with_body n e a ≡ with_body m f b
    same_body n m e f a b p q r = cc

-- two dummies likewise
dummies_same : (n m : ℕ) (a b : Arguments) (r s : List ℕ) → NumberFits n → NumberFits m
    → (further (argument_texts a) ++ (41 ∷ r) ≡ further (argument_texts b) ++ (41 ∷ s) → (a ≡ b) × (r ≡ s))
    → decimal n ++ (46 ∷ 42 ∷ (further (argument_texts a) ++ (41 ∷ r))) ≡ decimal m ++ (46 ∷ 42 ∷ (further (argument_texts b) ++ (41 ∷ s)))
    → (dummy n a ≡ dummy m b) × (r ≡ s)
dummies_same n m a b r s k l h q =
    let x : List ℕ = further (argument_texts a) ++ (41 ∷ r) in
    let y : List ℕ = further (argument_texts b) ++ (41 ∷ s) in
    let p : (n ≡ m) × ((46 ∷ 42 ∷ x) ≡ (46 ∷ 42 ∷ y)) = decimal_same n m (46 ∷ 42 ∷ x) (46 ∷ 42 ∷ y) k l no_dot no_dot q in
    let j : (a ≡ b) × (r ≡ s) = h (tail_same 42 42 x y (tail_same 46 46 (42 ∷ x) (42 ∷ y) p.1)) in
    (same_dummy n m a b p.0 j.0, j.1)
  where
    same_dummy : (n m : ℕ) (a b : Arguments) → n ≡ m → a ≡ b → dummy n a ≡ dummy m b
    same_dummy n m a b p q = cc

-- a body is no dummy
body_no_dummy : {A : Type 0} (n m : ℕ) (e : Expression) (x y : List ℕ) → NumberFits n → NumberFits m → decimal n ++ (46 ∷ (expression_text e ++ x)) ≡ decimal m ++ (46 ∷ 42 ∷ y) → A
body_no_dummy n m e x y k l q = absurd (text_begins e x 42 y (omega arith) (tail_same 46 46 (expression_text e ++ x) (42 ∷ y)
    (decimal_same n m (46 ∷ (expression_text e ++ x)) (46 ∷ 42 ∷ y) k l no_dot no_dot q).1))

-- two terms with further ones, given that both are told by their texts
terms_step : (x y : Expression) (a b : Terms) (r s : List ℕ)
    → ((v w : List ℕ) → Begins IsNoDigit v → Begins IsNoDigit w → expression_text x ++ v ≡ expression_text y ++ w → (x ≡ y) × (v ≡ w))
    → (further (term_texts a) ++ (41 ∷ r) ≡ further (term_texts b) ++ (41 ∷ s) → (a ≡ b) × (r ≡ s))
    → expression_text x ++ (further (term_texts a) ++ (41 ∷ r)) ≡ expression_text y ++ (further (term_texts b) ++ (41 ∷ s)) → (also x a ≡ also y b) × (r ≡ s)
terms_step x y a b r s g h q =
    let i : (x ≡ y) × (further (term_texts a) ++ (41 ∷ r) ≡ further (term_texts b) ++ (41 ∷ s)) = g (further (term_texts a) ++ (41 ∷ r)) (further (term_texts b) ++ (41 ∷ s)) (further_begins (term_texts a) r) (further_begins (term_texts b) s) q in
    let j : (a ≡ b) × (r ≡ s) = h i.1 in
    (same_also x y a b i.0 j.0, j.1)
  where
    same_also : (x y : Expression) (a b : Terms) → x ≡ y → a ≡ b → also x a ≡ also y b
    same_also x y a b p q = cc

mutual
  pub expression_same : (e f : Expression) (r s : List ℕ) → ItsNumbersFit e → ItsNumbersFit f → Begins IsNoDigit r → Begins IsNoDigit s
      → expression_text e ++ r ≡ expression_text f ++ s → (e ≡ f) × (r ≡ s)
  expression_same (bound i) (bound j) r s a b t u q = let p : (i ≡ j) × (r ≡ s) = decimal_same i j r s a b t u (after_first q) in (ap bound p.0, p.1)
  expression_same (bound i) (free w) r s a b t u q = heads_apart (λ e. omega (arith, e)) q
  expression_same (bound i) (symbol g y) r s a b t u q = heads_apart (λ e. omega (arith, e)) q
  expression_same (bound i) (meta g y) r s a b t u q = heads_apart (λ e. omega (arith, e)) q
  expression_same (free v) (bound j) r s a b t u q = heads_apart (λ e. omega (arith, e)) q
  expression_same (free v) (free w) r s a b t u q = let p : (v ≡ w) × (r ≡ s) = decimal_same v w r s a b t u (after_first q) in (ap free p.0, p.1)
  expression_same (free v) (symbol g y) r s a b t u q = heads_apart (λ e. omega (arith, e)) q
  expression_same (free v) (meta g y) r s a b t u q = heads_apart (λ e. omega (arith, e)) q
  expression_same (symbol f x) (bound j) r s a b t u q = heads_apart (λ e. omega (arith, e)) q
  expression_same (symbol f x) (free w) r s a b t u q = heads_apart (λ e. omega (arith, e)) q
  expression_same (symbol f x) (symbol g y) r s a b t u q = application_same 115 f g x y symbol (joined (codes ",") (argument_texts x)) (joined (codes ",") (argument_texts y)) r s a.0 b.0
      (all_arguments x y r s a.1 b.1 (further_arguments x y r s a.1 b.1)) (sym (symbol_then f x r) ∙ q ∙ symbol_then g y s)
  expression_same (symbol f x) (meta g y) r s a b t u q = heads_apart (λ e. omega (arith, e)) q
  expression_same (meta f x) (bound j) r s a b t u q = heads_apart (λ e. omega (arith, e)) q
  expression_same (meta f x) (free w) r s a b t u q = heads_apart (λ e. omega (arith, e)) q
  expression_same (meta f x) (symbol g y) r s a b t u q = heads_apart (λ e. omega (arith, e)) q
  expression_same (meta f x) (meta g y) r s a b t u q = application_same 109 f g x y meta (joined (codes ",") (term_texts x)) (joined (codes ",") (term_texts y)) r s a.0 b.0
      (all_terms x y r s (further_terms x y r s a.1 b.1)) (sym (meta_then f x r) ∙ q ∙ meta_then g y s)

  further_arguments : (a b : Arguments) (r s : List ℕ) → ArgumentNumbersFit a → ArgumentNumbersFit b
      → further (argument_texts a) ++ (41 ∷ r) ≡ further (argument_texts b) ++ (41 ∷ s) → (a ≡ b) × (r ≡ s)
  further_arguments no_arguments no_arguments r s t u q = (refl, after_first q)
  further_arguments no_arguments (with_body m f b) r s t u q = heads_apart (λ e. omega (arith, e)) q
  further_arguments no_arguments (dummy m b) r s t u q = heads_apart (λ e. omega (arith, e)) q
  further_arguments (with_body n e a) no_arguments r s t u q = heads_apart (λ e. omega (arith, e)) q
  further_arguments (dummy n a) no_arguments r s t u q = heads_apart (λ e. omega (arith, e)) q
  further_arguments (with_body n e a) (with_body m f b) r s t u q = bodies_same n m e f a b r s t.0 u.0 (λ v w. expression_same e f v w t.1 u.1) (further_arguments a b r s t.2 u.2)
      (sym (body_then n e (further (argument_texts a)) (41 ∷ r)) ∙ after_first q ∙ body_then m f (further (argument_texts b)) (41 ∷ s))
  further_arguments (dummy n a) (dummy m b) r s t u q = dummies_same n m a b r s t.0 u.0 (further_arguments a b r s t.1 u.1)
      (sym (dummy_then n (further (argument_texts a)) (41 ∷ r)) ∙ after_first q ∙ dummy_then m (further (argument_texts b)) (41 ∷ s))
  further_arguments (with_body n e a) (dummy m b) r s t u q = body_no_dummy n m e (further (argument_texts a) ++ (41 ∷ r)) (further (argument_texts b) ++ (41 ∷ s)) t.0 u.0
      (sym (body_then n e (further (argument_texts a)) (41 ∷ r)) ∙ after_first q ∙ dummy_then m (further (argument_texts b)) (41 ∷ s))
  further_arguments (dummy n a) (with_body m f b) r s t u q = body_no_dummy m n f (further (argument_texts b) ++ (41 ∷ s)) (further (argument_texts a) ++ (41 ∷ r)) u.0 t.0
      (sym (body_then m f (further (argument_texts b)) (41 ∷ s)) ∙ sym (after_first q) ∙ dummy_then n (further (argument_texts a)) (41 ∷ r))

  further_terms : (a b : Terms) (r s : List ℕ) → TermNumbersFit a → TermNumbersFit b
      → further (term_texts a) ++ (41 ∷ r) ≡ further (term_texts b) ++ (41 ∷ s) → (a ≡ b) × (r ≡ s)
  further_terms no_terms no_terms r s t u q = (refl, after_first q)
  further_terms no_terms (also y b) r s t u q = heads_apart (λ e. omega (arith, e)) q
  further_terms (also x a) no_terms r s t u q = heads_apart (λ e. omega (arith, e)) q
  further_terms (also x a) (also y b) r s t u q = terms_step x y a b r s (λ v w. expression_same x y v w t.0 u.0) (further_terms a b r s t.1 u.1)
      (sym (append_assoc (expression_text x) (further (term_texts a)) (41 ∷ r)) ∙ after_first q ∙ append_assoc (expression_text y) (further (term_texts b)) (41 ∷ s))
