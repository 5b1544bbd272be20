-- The loops that put an instance in the arguments of an application, and in the terms of a metavariable.
use Rattle.std.proofs.Common.{◌≡◌, ◌≢◌, ℕ, zero, suc, ◌<◌, ◌≤◌, List, [], ◌∷◌, ◌++◌, length, get_or, take, map, Option, Some, None, option_map, unwrap_or, refl, sym, ap, ap₂, ◌∙◌, subst, arith}
use Rattle.std.proofs.Math.Seq.{take-suc}
use Rattle.std.proofs.lemmas.List.{map-append}
use Rattle.ft_theory.specs.Expressions.{Expression, bound, free, symbol, meta, with_body, dummy, Terms, no_terms, also, count, lifts, put, pushes, body_or, act, act_arguments, act_terms, instantiate}
use Rattle.ft_theory.specs.Small.{IsSmall}
use Rattle.ft_syntax.specs.Arguments.{Argument, node_of, arguments_of, list_of_terms, as_arguments, as_terms, applied, IsTerm, AreTerms, FitsNode, IsApplication}
use Rattle.ft_syntax.specs.Table.{tree, Extends, argument_in, BodyBelow}
use Rattle.ft_syntax.specs.Laws.{extends_same, extends_trans, length_extends, tree_extends, argument_below, pairs_longer, body_for_below, instance_extends}
use Rattle.ft_syntax.specs.Measures.{IsSmallBody, AreSmall}
use Rattle.ft_syntax.specs.Invariant.{IsApplied}
use Rattle.ft_syntax.specs.Instances.{planted, body_for, instance_in, PairsBelow, IsTermOf, AreTermsOf, BodiesBelow, instantiated_argument, KeepsHead, HasBody, IsPlanted, IsNeverSmall}
use Rattle.ft_syntax.specs.declared.syntax.Arg.{Arg}
use Rattle.ft_syntax.specs.declared.syntax.Node.{Node}
use Rattle.ft_syntax.specs.declared.syntax.Node.TheVariants.{Bound, Free, Sym, Meta}
use Rattle.ft_syntax.proofs.Parts.{small_arguments}
use Rattle.ft_syntax.proofs.Lists.{take_all}
use Rattle.ft_syntax.proofs.Changing.{Mapped, mapped_start, mapped_more, mapped_fits, mapped_tree, mapped_body, applied_longer, applied_tree, applied_fits, fits_kept, small_at, KeepsTerms, first_below}
use Rattle.ft_syntax.proofs.Planting.{terms_extend, bodies_longer}

-- variables
pub instantiated_bound : (i : ℕ → ℕ → Option Expression) (e : Expression) (j : ℕ) → e ≡ bound j → e ≡ instantiate i e
unfolding act
instantiated_bound i e j h = h ∙ ap (instantiate i) (sym h)

pub instantiated_free : (i : ℕ → ℕ → Option Expression) (e : Expression) (v : ℕ) → e ≡ free v → e ≡ instantiate i e
unfolding act
instantiated_free i e v h = h ∙ ap (instantiate i) (sym h)

-- what is put for the head of an expression
pub keeps_symbol : (ps : List (ℕ × Arg)) (e : Expression) (s : ℕ) → node_of e ≡ Sym s → KeepsHead ps e
keeps_symbol ps (bound j) s h = tt
keeps_symbol ps (free v) s h = tt
keeps_symbol ps (symbol f a) s h = tt
keeps_symbol ps (meta m a) s h = cc

count_list : (a : Terms) → length (list_of_terms a) ≡ count a
unfolding count
count_list no_terms = refl
count_list (also t a) = ap suc (count_list a)

same_meta : (m n : ℕ) → Meta m ≡ Meta n → m ≡ n
same_meta m n h = cc

pub keeps_meta : (ps : List (ℕ × Arg)) (e : Expression) (m k : ℕ) → node_of e ≡ Meta m → k ≡ length (arguments_of e) → body_for ps m k ≡ None → KeepsHead ps e
keeps_meta ps (bound j) m k h c b = tt
keeps_meta ps (free v) m k h c b = tt
keeps_meta ps (symbol f a) m k h c b = tt
keeps_meta ps (meta n a) m k h c b = ap₂ (body_for ps) (same_meta n m h) (sym (c ∙ count_list a)) ∙ b

pub has_body : (ps : List (ℕ × Arg)) (e : Expression) (m k b : ℕ) → node_of e ≡ Meta m → k ≡ length (arguments_of e) → body_for ps m k ≡ Some b → HasBody ps e b
has_body ps (bound j) m k b h c g = cc
has_body ps (free v) m k b h c g = cc
has_body ps (symbol f a) m k b h c g = cc
has_body ps (meta n a) m k b h c g = ap₂ (body_for ps) (same_meta n m h) (sym (c ∙ count_list a)) ∙ g

pub meta_application : (ps : List (ℕ × Arg)) (e : Expression) (b : ℕ) → HasBody ps e b → IsApplication (node_of e)
meta_application ps (bound j) b h = absurd h
meta_application ps (free v) b h = absurd h
meta_application ps (symbol f a) b h = absurd h
meta_application ps (meta n a) b h = tt

-- the body is a tree of the table
pub has_body_below : (n : ℕ) (ps : List (ℕ × Arg)) (e : Expression) (b : ℕ) → PairsBelow n ps → HasBody ps e b → b < n
has_body_below n ps (bound j) b h g = absurd g
has_body_below n ps (free v) b h g = absurd g
has_body_below n ps (symbol f a) b h g = absurd g
has_body_below n ps (meta m a) b h g = body_for_below n ps m (count a) b h g

-- a table that goes on
body_extends : (ts us : List Expression) (ps : List (ℕ × Arg)) (b : Option ℕ) → Extends ts us → PairsBelow (length ts) ps → BodyBelow (length ts) b →
    option_map (instantiate (instance_in us ps)) (option_map (tree us) b) ≡ option_map (instantiate (instance_in ts ps)) (option_map (tree ts) b)
body_extends ts us ps None x h g = refl
body_extends ts us ps (Some e) x h g = ap Some (ap₂ instantiate (instance_extends ts us ps x h) (tree_extends ts us e x g))

-- applications
act_list : (i : ℕ → ℕ → Option Expression) (ps : List Argument) → act_arguments free i (as_arguments ps) ≡ as_arguments (map (instantiated_argument i) ps)
unfolding act_arguments
act_list i [] = refl
act_list i ((n, Some e) ∷ ps) = ap (with_body n (act free i e)) (act_list i ps)
act_list i ((n, None) ∷ ps) = ap (dummy n) (act_list i ps)

act_term_list : (i : ℕ → ℕ → Option Expression) (ps : List Argument) → AreTerms ps → act_terms free i (as_terms ps) ≡ as_terms (map (instantiated_argument i) ps)
unfolding act_terms
act_term_list i [] h = refl
act_term_list i ((n, Some e) ∷ ps) h = ap (also (act free i e)) (act_term_list i ps h.1)
act_term_list i ((n, None) ∷ ps) h = absurd h.0

kept : (ts : List Expression) (pairs : List (ℕ × Arg)) (h : Node) (ps : List Argument) → IsApplication h → FitsNode h ps → KeepsHead pairs (applied h ps) → instantiate (instance_in ts pairs) (applied h ps) ≡ applied h (map (instantiated_argument (instance_in ts pairs)) ps)
unfolding act body_or
kept ts pairs (Bound j) ps a f k = absurd a
kept ts pairs (Free v) ps a f k = absurd a
kept ts pairs (Sym s) ps a f k = ap (symbol s) (act_list (instance_in ts pairs) ps)
kept ts pairs (Meta m) ps a f k =
    ap (λ b. body_or (option_map (tree ts) b) m (act_terms free (instance_in ts pairs) (as_terms ps))) k ∙ ap (meta m) (act_term_list (instance_in ts pairs) ps f)

keeps : (i : ℕ → ℕ → Option Expression) → KeepsTerms (instantiated_argument i)
keeps i (n, Some e) h = h
keeps i (n, None) h = h

-- the loop over arguments
pub record Instantiating (old cur : List Expression) (pairs : List (ℕ × Arg)) (i : ℕ) (xs ys : List Arg) : Type 0 where
  pub mapped : Mapped (instantiated_argument (instance_in old pairs)) old cur i xs ys

pub instantiating_start : (old : List Expression) (pairs : List (ℕ × Arg)) (xs : List Arg) → Instantiating old old pairs 0 xs []
instantiating_start old pairs xs = record { mapped = mapped_start (instantiated_argument (instance_in old pairs)) old xs }

pub instantiating_more : (old cur next : List Expression) (pairs : List (ℕ × Arg)) (e i : ℕ) (xs ys : List Arg) (x : Arg) (b : Option ℕ) → IsApplied old e xs → PairsBelow (length old) pairs → Instantiating old cur pairs i xs ys → Extends cur next →
    i < length xs → x ≡ get_or xs i x → BodyBelow (length next) b → option_map (tree next) b ≡ option_map (instantiate (instance_in cur pairs)) (option_map (tree cur) x.body) →
    Instantiating old next pairs (suc i) xs (ys ++ record { binders = x.binders; body = b } ∷ [])
instantiating_more old cur next pairs e i xs ys x b q h m g l r w p =
    record {
      mapped = mapped_more (instantiated_argument (instance_in old pairs)) old cur next i xs ys x (record { binders = x.binders; body = b }) m.mapped g l r w
          (ap (λ d. (x.binders, d)) (p ∙ body_extends old cur pairs x.body m.mapped.goes_on h (first_below old e i xs x q l r)));
    }

instantiated_at : (old : List Expression) (pairs : List (ℕ × Arg)) (e : ℕ) (xs : List Arg) → IsApplied old e xs → KeepsHead pairs (tree old e) →
    instantiate (instance_in old pairs) (tree old e) ≡ applied (node_of (tree old e)) (map (instantiated_argument (instance_in old pairs)) (map (argument_in old) xs))
instantiated_at old pairs e xs q k =
    let t = applied_tree old e xs q in
    ap (instantiate (instance_in old pairs)) t ∙ kept old pairs (node_of (tree old e)) (map (argument_in old) xs) q.application (applied_fits old e xs q) (subst (KeepsHead pairs) t k)

pub instantiating_refused : (old cur : List Expression) (pairs : List (ℕ × Arg)) (e i : ℕ) (xs ys : List Arg) (x : Arg) → IsApplied old e xs → PairsBelow (length old) pairs → KeepsHead pairs (tree old e) → Instantiating old cur pairs i xs ys →
    i < length xs → x ≡ get_or xs i x → (IsSmallBody (option_map (instantiate (instance_in cur pairs)) (option_map (tree cur) x.body)) → ⊥) → IsSmall (instantiate (instance_in old pairs) (tree old e)) → ⊥
instantiating_refused old cur pairs e i xs ys x q h k m l r n s =
    let f = instantiated_argument (instance_in old pairs) in let g = node_of (tree old e) in let ps = map (argument_in old) xs in
    let small : AreSmall (map f ps) = small_arguments g (map f ps) (fits_kept f g ps q.application (keeps (instance_in old pairs)) (applied_fits old e xs q)) (subst IsSmall (instantiated_at old pairs e xs q k) s) in
    n (subst IsSmallBody (sym (body_extends old cur pairs x.body m.mapped.goes_on h (first_below old e i xs x q l r))) (small_at f old xs i x small l r))

pub instantiating_longer : (old cur : List Expression) (pairs : List (ℕ × Arg)) (e i : ℕ) (xs ys : List Arg) → IsApplied old e xs → Instantiating old cur pairs i xs ys → IsApplied cur e xs
instantiating_longer old cur pairs e i xs ys q m = applied_longer (instantiated_argument (instance_in old pairs)) old cur e i xs ys q m.mapped

pub instantiating_body : (old cur : List Expression) (pairs : List (ℕ × Arg)) (e i : ℕ) (xs ys : List Arg) (x : Arg) → IsApplied old e xs → Instantiating old cur pairs i xs ys → i < length xs → x ≡ get_or xs i x → BodyBelow (length cur) x.body
instantiating_body old cur pairs e i xs ys x q m l r = mapped_body (instantiated_argument (instance_in old pairs)) old cur e i xs ys x q m.mapped l r

pub instantiating_below : (old cur : List Expression) (pairs : List (ℕ × Arg)) (i : ℕ) (xs ys : List Arg) → Instantiating old cur pairs i xs ys → PairsBelow (length old) pairs → PairsBelow (length cur) pairs
instantiating_below old cur pairs i xs ys m h = pairs_longer (length old) (length cur) pairs (length_extends old cur m.mapped.goes_on) h

pub instantiating_fits : (old cur : List Expression) (pairs : List (ℕ × Arg)) (e i : ℕ) (xs ys : List Arg) → IsApplied old e xs → Instantiating old cur pairs i xs ys → length xs ≤ i → FitsNode (node_of (tree cur e)) (map (argument_in cur) ys)
instantiating_fits old cur pairs e i xs ys q m l = mapped_fits (instantiated_argument (instance_in old pairs)) old cur e i xs ys q (keeps (instance_in old pairs)) m.mapped l

pub instantiating_end : (old cur : List Expression) (pairs : List (ℕ × Arg)) (e i : ℕ) (xs ys : List Arg) → IsApplied old e xs → KeepsHead pairs (tree old e) → Instantiating old cur pairs i xs ys → length xs ≤ i →
    applied (node_of (tree cur e)) (map (argument_in cur) ys) ≡ instantiate (instance_in old pairs) (tree old e)
instantiating_end old cur pairs e i xs ys q k m l = mapped_tree (instantiated_argument (instance_in old pairs)) old cur e i xs ys q m.mapped l ∙ sym (instantiated_at old pairs e xs q k)

pub instantiating_too_big : (old cur : List Expression) (pairs : List (ℕ × Arg)) (e i : ℕ) (xs ys : List Arg) → IsApplied old e xs → KeepsHead pairs (tree old e) → Instantiating old cur pairs i xs ys → length xs ≤ i →
    (IsSmall (applied (node_of (tree cur e)) (map (argument_in cur) ys)) → ⊥) → IsSmall (instantiate (instance_in old pairs) (tree old e)) → ⊥
instantiating_too_big old cur pairs e i xs ys q k m l n s = n (subst IsSmall (sym (instantiating_end old cur pairs e i xs ys q k m l)) s)

-- the body of an argument
pub some_body : (ts us : List Expression) (i : ℕ → ℕ → Option Expression) (j r : ℕ) (b : Option ℕ) → b ≡ Some j → tree us r ≡ instantiate i (tree ts j) → Some (tree us r) ≡ option_map (instantiate i) (option_map (tree ts) b)
some_body ts us i j r b e h = ap Some h ∙ ap (λ c. option_map (instantiate i) (option_map (tree ts) c)) (sym e)

pub some_refused : (ts : List Expression) (i : ℕ → ℕ → Option Expression) (j : ℕ) (b : Option ℕ) → b ≡ Some j → (IsSmall (instantiate i (tree ts j)) → ⊥) → IsSmallBody (option_map (instantiate i) (option_map (tree ts) b)) → ⊥
some_refused ts i j b e n s = n (subst (λ c. IsSmallBody (option_map (instantiate i) (option_map (tree ts) c))) e s)

-- a term of a metavariable
pub term_some : (ts us : List Expression) (i : ℕ → ℕ → Option Expression) (j r : ℕ) (b : Option ℕ) → b ≡ Some j → tree us r ≡ instantiate i (tree ts j) → tree us r ≡ instantiate i (unwrap_or (option_map (tree ts) b) (bound 0))
term_some ts us i j r b e h = h ∙ ap (λ c. instantiate i (unwrap_or (option_map (tree ts) c) (bound 0))) (sym e)

pub term_none : (ts : List Expression) (i : ℕ → ℕ → Option Expression) (j : ℕ) (b : Option ℕ) → b ≡ Some j → (IsSmall (instantiate i (tree ts j)) → ⊥) → IsSmall (instantiate i (unwrap_or (option_map (tree ts) b) (bound 0))) → ⊥
term_none ts i j b e n s = n (subst (λ c. IsSmall (instantiate i (unwrap_or (option_map (tree ts) c) (bound 0)))) e s)

-- the loop over the terms of a metavariable
pub record Gathering (old cur : List Expression) (pairs : List (ℕ × Arg)) (i : ℕ) (xs : List Arg) (ys : List (Option ℕ)) : Type 0 where
  pub goes_on : Extends old cur
  pub below : BodiesBelow (length cur) ys
  pub terms : AreTermsOf cur ys (as_terms (map (instantiated_argument (instance_in old pairs)) (map (argument_in old) (take i xs))))

pub gathering_start : (old : List Expression) (pairs : List (ℕ × Arg)) (xs : List Arg) → Gathering old old pairs 0 xs []
gathering_start old pairs xs = record { goes_on = extends_same old old refl; below = tt; terms = tt }

terms_push : (ts : List Expression) (ys : List (Option ℕ)) (y : Option ℕ) (ps : List Argument) (p : Argument) → AreTermsOf ts ys (as_terms ps) → IsTermOf ts y (unwrap_or p.1 (bound 0)) → AreTermsOf ts (ys ++ y ∷ []) (as_terms (ps ++ p ∷ []))
terms_push ts [] y [] p h t = (t, tt)
terms_push ts [] y (q ∷ ps) p h t = absurd h
terms_push ts (z ∷ ys) y [] p h t = absurd h
terms_push ts (z ∷ ys) y (q ∷ ps) p h t = (h.0, terms_push ts ys y ps p h.1 t)

bodies_push : (n : ℕ) (ys : List (Option ℕ)) (y : Option ℕ) → BodiesBelow n ys → BodyBelow n y → BodiesBelow n (ys ++ y ∷ [])
bodies_push n [] y h b = (b, tt)
bodies_push n (z ∷ ys) y h b = (h.0, bodies_push n ys y h.1 b)

unwrapped : (i : ℕ → ℕ → Option Expression) (b : Option Expression) → unwrap_or (option_map (instantiate i) b) (bound 0) ≡ instantiate i (unwrap_or b (bound 0))
unfolding act
unwrapped i None = refl
unwrapped i (Some e) = refl

term_extends : (ts us : List Expression) (pairs : List (ℕ × Arg)) (b : Option ℕ) → Extends ts us → PairsBelow (length ts) pairs → BodyBelow (length ts) b →
    instantiate (instance_in us pairs) (unwrap_or (option_map (tree us) b) (bound 0)) ≡ instantiate (instance_in ts pairs) (unwrap_or (option_map (tree ts) b) (bound 0))
term_extends ts us pairs None x h g = ap (λ i. instantiate i (bound 0)) (instance_extends ts us pairs x h)
term_extends ts us pairs (Some e) x h g = ap₂ instantiate (instance_extends ts us pairs x h) (tree_extends ts us e x g)

pub gathering_more : (old cur next : List Expression) (pairs : List (ℕ × Arg)) (e i : ℕ) (xs : List Arg) (ys : List (Option ℕ)) (x : Arg) (y : Option ℕ) → IsApplied old e xs → PairsBelow (length old) pairs → Gathering old cur pairs i xs ys → Extends cur next →
    i < length xs → x ≡ get_or xs i x → BodyBelow (length next) y → IsTermOf next y (instantiate (instance_in cur pairs) (unwrap_or (option_map (tree cur) x.body) (bound 0))) → Gathering old next pairs (suc i) xs (ys ++ y ∷ [])
gathering_more old cur next pairs e i xs ys x y q h m g l r w t =
    let j = instance_in old pairs in
    let u : IsTermOf next y (unwrap_or (instantiated_argument j (argument_in old x)).1 (bound 0)) =
    subst (IsTermOf next y) (term_extends old cur pairs x.body m.goes_on h (first_below old e i xs x q l r) ∙ sym (unwrapped j (option_map (tree old) x.body))) t in
    let s : map (instantiated_argument j) (map (argument_in old) (take (suc i) xs)) ≡ map (instantiated_argument j) (map (argument_in old) (take i xs)) ++ instantiated_argument j (argument_in old x) ∷ [] =
    ap (λ zs. map (instantiated_argument j) (map (argument_in old) zs)) (take-suc xs i x l ∙ ap (λ z. take i xs ++ z ∷ []) (sym r))
    ∙ ap (map (instantiated_argument j)) (map-append (argument_in old) (take i xs) (x ∷ [])) ∙ map-append (instantiated_argument j) (map (argument_in old) (take i xs)) (argument_in old x ∷ []) in
    record {
      goes_on = extends_trans old cur next m.goes_on g;
      below = bodies_push (length next) ys y (bodies_longer (length cur) (length next) ys (length_extends cur next g) m.below) w;
      terms = subst (λ ps. AreTermsOf next (ys ++ y ∷ []) (as_terms ps)) (sym s)
          (terms_push next ys y (map (instantiated_argument j) (map (argument_in old) (take i xs))) (instantiated_argument j (argument_in old x)) (terms_extend cur next ys (as_terms (map (instantiated_argument j) (map (argument_in old) (take i xs)))) g m.below m.terms) u);
    }

pub gathering_below : (old cur : List Expression) (pairs : List (ℕ × Arg)) (i : ℕ) (xs : List Arg) (ys : List (Option ℕ)) → Gathering old cur pairs i xs ys → PairsBelow (length old) pairs → PairsBelow (length cur) pairs
gathering_below old cur pairs i xs ys m h = pairs_longer (length old) (length cur) pairs (length_extends old cur m.goes_on) h

pub gathering_body : (old cur : List Expression) (pairs : List (ℕ × Arg)) (e i : ℕ) (xs : List Arg) (ys : List (Option ℕ)) (x : Arg) → IsApplied old e xs → Gathering old cur pairs i xs ys → i < length xs → x ≡ get_or xs i x → BodyBelow (length cur) x.body
gathering_body old cur pairs e i xs ys x q m l r = go x.body (argument_below e i xs x q.below l r)
  where
    go : (b : Option ℕ) → BodyBelow e b → BodyBelow (length cur) b
    go None g = tt
    go (Some j) g = omega (arith, q.within, length_extends old cur m.goes_on)

meta_fits : (pairs : List (ℕ × Arg)) (e : Expression) (b : ℕ) (ps : List Argument) → HasBody pairs e b → FitsNode (node_of e) ps → AreTerms ps
meta_fits pairs (bound j) b ps h f = absurd h
meta_fits pairs (free v) b ps h f = absurd h
meta_fits pairs (symbol s a) b ps h f = absurd h
meta_fits pairs (meta m a) b ps h f = f

some_at : (ts : List Expression) (xs : List Arg) (i : ℕ) (x : Arg) → AreTerms (map (argument_in ts) xs) → i < length xs → x ≡ get_or xs i x → x.body ≢ None
some_at ts [] i x h l g = absurd (omega arith)
some_at ts (y ∷ xs) zero x h l g = λ n. go y.body h.0 (ap (λ z. z.body) (sym g) ∙ n)
  where
    go : (b : Option ℕ) → IsTerm (y.binders, option_map (tree ts) b) → b ≡ None → ⊥
    go None t n = absurd t
    go (Some e) t n = cc
some_at ts (y ∷ xs) (suc i) x h l g = some_at ts xs i x h.1 (omega arith) g

pub gathering_term : (old : List Expression) (pairs : List (ℕ × Arg)) (e b i : ℕ) (xs : List Arg) (x : Arg) → IsApplied old e xs → HasBody pairs (tree old e) b → i < length xs → x ≡ get_or xs i x → x.body ≢ None
gathering_term old pairs e b i xs x q h l g = some_at old xs i x (meta_fits pairs (tree old e) b (map (argument_in old) xs) h (applied_fits old e xs q)) l g

-- the body with the terms
planted_none : (a : Terms) (e : Expression) → planted a 0 e ≡ put (pushes bound a) e
unfolding lifts
planted_none a e = refl

body_put : (ts : List Expression) (pairs : List (ℕ × Arg)) (e : Expression) (b : ℕ) (ps : List Argument) → HasBody pairs e b → arguments_of e ≡ ps →
    instantiate (instance_in ts pairs) e ≡ planted (as_terms (map (instantiated_argument (instance_in ts pairs)) ps)) 0 (tree ts b)
unfolding act body_or
body_put ts pairs (bound j) b ps h g = absurd h
body_put ts pairs (free v) b ps h g = absurd h
body_put ts pairs (symbol s a) b ps h g = absurd h
body_put ts pairs (meta m a) b ps h g =
    let i = instance_in ts pairs in
    let t : act_terms free i a ≡ as_terms (map (instantiated_argument i) ps) =
    ap (act_terms free i) (sym (listed a)) ∙ act_term_list i (list_of_terms a) (fit a) ∙ ap (λ qs. as_terms (map (instantiated_argument i) qs)) g in
    ap (λ c. body_or (option_map (tree ts) c) m (act_terms free i a)) h ∙ ap (λ c. put (pushes bound c) (tree ts b)) t ∙ sym (planted_none (as_terms (map (instantiated_argument i) ps)) (tree ts b))
  where
    listed : (a : Terms) → as_terms (list_of_terms a) ≡ a
    listed no_terms = refl
    listed (also t a) = ap (also t) (listed a)

    fit : (a : Terms) → AreTerms (list_of_terms a)
    fit no_terms = tt
    fit (also t a) = (refl, fit a)

pub gathered_body : (old cur : List Expression) (pairs : List (ℕ × Arg)) (e b i : ℕ) (xs : List Arg) (ys : List (Option ℕ)) → PairsBelow (length old) pairs → HasBody pairs (tree old e) b → Gathering old cur pairs i xs ys → b < length cur
gathered_body old cur pairs e b i xs ys h g m = omega (arith, has_body_below (length old) pairs (tree old e) b h g, length_extends old cur m.goes_on)

pub gathered_put : (old cur : List Expression) (pairs : List (ℕ × Arg)) (e b i : ℕ) (xs : List Arg) (ys : List (Option ℕ)) → IsApplied old e xs → PairsBelow (length old) pairs → HasBody pairs (tree old e) b → Gathering old cur pairs i xs ys → length xs ≤ i →
    (a : Terms) × AreTermsOf cur ys a × (planted a 0 (tree cur b) ≡ instantiate (instance_in old pairs) (tree old e))
gathered_put old cur pairs e b i xs ys q h g m l =
    let a = as_terms (map (instantiated_argument (instance_in old pairs)) (map (argument_in old) xs)) in (
      a,
      subst (λ zs. AreTermsOf cur ys (as_terms (map (instantiated_argument (instance_in old pairs)) (map (argument_in old) zs)))) (take_all i xs l) m.terms,
      ap (planted a 0) (tree_extends old cur b m.goes_on (has_body_below (length old) pairs (tree old e) b h g)) ∙ sym (body_put old pairs (tree old e) b (map (argument_in old) xs) g q.is),
    )

pub gathered_tree : (old cur : List Expression) (pairs : List (ℕ × Arg)) (e b i : ℕ) (xs : List Arg) (ys : List (Option ℕ)) (r : Expression) → IsApplied old e xs → PairsBelow (length old) pairs → HasBody pairs (tree old e) b → Gathering old cur pairs i xs ys → length xs ≤ i →
    IsPlanted cur ys 0 (tree cur b) r → r ≡ instantiate (instance_in old pairs) (tree old e)
gathered_tree old cur pairs e b i xs ys r q h g m l p = let s = gathered_put old cur pairs e b i xs ys q h g m l in p.is s.0 s.1 ∙ s.2

pub gathered_too_big : (old cur : List Expression) (pairs : List (ℕ × Arg)) (e b i : ℕ) (xs : List Arg) (ys : List (Option ℕ)) → IsApplied old e xs → PairsBelow (length old) pairs → HasBody pairs (tree old e) b → Gathering old cur pairs i xs ys → length xs ≤ i →
    IsNeverSmall cur ys 0 (tree cur b) → IsSmall (instantiate (instance_in old pairs) (tree old e)) → ⊥
gathered_too_big old cur pairs e b i xs ys q h g m l p t = let s = gathered_put old cur pairs e b i xs ys q h g m l in p.never s.0 s.1 (subst IsSmall (sym s.2) t)

pub gathered_goes_on : (old cur next : List Expression) (pairs : List (ℕ × Arg)) (i : ℕ) (xs : List Arg) (ys : List (Option ℕ)) → Gathering old cur pairs i xs ys → Extends cur next → Extends old next
gathered_goes_on old cur next pairs i xs ys m g = extends_trans old cur next m.goes_on g
