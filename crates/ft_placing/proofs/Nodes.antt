-- Expressions by their nodes and arguments.
use Rattle.std.proofs.Common.{◌≡◌, ◌≢◌, ℕ, zero, suc, ◌+◌, ◌-◌, ◌<◌, ◌≤◌, Bool, true, false, nat_eq, ◌&&◌, Option, Some, None, List, [], ◌∷◌, ◌++◌, refl, sym, ap, ap₂, ◌∙◌, subst, length, drop, get_or, map, slice_get, arith}
use Rattle.std.specs.Prelude.{option_map}
use Rattle.std.proofs.lemmas.List.{append_assoc, append-nil, drop_more, map-append}
use Rattle.std.proofs.lemmas.Option.{get_or_from_slice_get, slice_get_within}
use Rattle.std.proofs.lemmas.Bool.{eq-eqb, ne_eqb}
use Rattle.std.proofs.Math.ListN.{drop_of_length-le}
use Rattle.ft_theory.specs.Expressions.{Expression, bound, free, symbol, meta, Terms, no_terms, also}
use Rattle.ft_items.specs.Equal.{equal_expressions, equal_term_lists}
use Rattle.ft_items.specs.Rows.{bounds}
use Rattle.ft_syntax.specs.Arguments.{Argument, arguments_of, list_of_terms, node_of}
use Rattle.ft_syntax.specs.Laws.{all_push}
use Rattle.ft_syntax.specs.Table.{tree, argument_in, AllBelow, BodyBelow}
use Rattle.ft_syntax.specs.declared.syntax.Arg.{Arg}
use Rattle.ft_syntax.specs.declared.syntax.Node.{Node}
use Rattle.ft_syntax.specs.declared.syntax.Node.TheVariants as node
use Rattle.ft_placing.specs.Opening.{listed, trees_of}
use Rattle.ft_placing.specs.Applied.{are_bounds, bodies, body_listed, is_bound_body}

-- a bound variable
pub bound_is : (i j : ℕ) (e : Expression) → node.Bound j ≡ node_of e → nat_eq i j ≡ equal_expressions (bound i) e
bound_is i j (bound k) h = let same : j ≡ k = cc in ap (nat_eq i) same
bound_is i j (free v) h = cc
bound_is i j (symbol s a) h = cc
bound_is i j (meta m a) h = cc

pub no_bound : (i : ℕ) (e : Expression) (n : Node) → n ≡ node_of e → ((j : ℕ) → n ≡ node.Bound j → ⊥) → false ≡ equal_expressions (bound i) e
no_bound i (bound k) n h f = absurd (f k h)
no_bound i (free v) n h f = refl
no_bound i (symbol s a) n h f = refl
no_bound i (meta m a) n h f = refl

-- the arguments, one by one
pub first_of_rest : (ps : List Argument) (k : ℕ) (p : Argument) → slice_get ps k ≡ Some p → drop k ps ≡ p ∷ drop (k + 1) ps
first_of_rest ps k p h = drop_more ps k p (slice_get_within ps k p h) ∙ ap (λ q. q ∷ drop (k + 1) ps) (get_or_from_slice_get ps k p p h)

bounds_at : (n k : ℕ) (ps : List Argument) (p : Argument) → k < n → slice_get ps k ≡ Some p → are_bounds (n - k) (drop k ps) ≡ (is_bound_body (n - 1 - k) p.1 && are_bounds (n - (k + 1)) (drop (k + 1) ps))
bounds_at n k ps p l h =
    let left : n - k ≡ suc (n - 1 - k) = omega (arith, l) in
    let next : n - 1 - k ≡ n - (k + 1) = omega (arith, l) in
    ap₂ are_bounds left (first_of_rest ps k p h) ∙ ap (λ m. is_bound_body (n - 1 - k) p.1 && are_bounds m (drop (k + 1) ps)) next

pub bounds_start : (n : ℕ) (ps : List Argument) → are_bounds n ps ≡ are_bounds (n - 0) (drop 0 ps)
bounds_start n ps = let same : n ≡ n - 0 = omega arith in ap (λ m. are_bounds m ps) same

pub bounds_next : (ts : List Expression) (n k i j : ℕ) (ps : List Argument) (x : Arg) (a b : Bool) → a ≡ are_bounds (n - k) (drop k ps) → k < n → i ≡ k → j ≡ n - 1 - k → slice_get ps i ≡ Some (argument_in ts x)
    → b ≡ is_bound_body j (option_map (tree ts) x.body) → b ≡ true → a ≡ are_bounds (n - (k + 1)) (drop (k + 1) ps)
bounds_next ts n k i j ps x a b h l e f g q t =
    h ∙ bounds_at n k ps (argument_in ts x) l (subst (λ i. slice_get ps i ≡ Some (argument_in ts x)) e g)
    ∙ ap (λ c. c && are_bounds (n - (k + 1)) (drop (k + 1) ps)) (ap (λ j. is_bound_body j (option_map (tree ts) x.body)) (sym f) ∙ sym q ∙ t)

pub bounds_not : (ts : List Expression) (n k i j : ℕ) (ps : List Argument) (x : Arg) (a b : Bool) → a ≡ are_bounds (n - k) (drop k ps) → k < n → i ≡ k → j ≡ n - 1 - k → slice_get ps i ≡ Some (argument_in ts x)
    → b ≡ is_bound_body j (option_map (tree ts) x.body) → b ≡ false → false ≡ a
bounds_not ts n k i j ps x a b h l e f g q t =
    sym (h ∙ bounds_at n k ps (argument_in ts x) l (subst (λ i. slice_get ps i ≡ Some (argument_in ts x)) e g)
    ∙ ap (λ c. c && are_bounds (n - (k + 1)) (drop (k + 1) ps)) (ap (λ j. is_bound_body j (option_map (tree ts) x.body)) (sym f) ∙ sym q ∙ t))

pub bounds_end : (n k : ℕ) (ps : List Argument) (a : Bool) → a ≡ are_bounds (n - k) (drop k ps) → length ps ≡ n → n ≤ k → true ≡ a
bounds_end n k ps a h same l =
    let over : length ps ≤ k = omega (arith, same, l) in
    let none : n - k ≡ 0 = omega (arith, l) in
    sym (h ∙ ap₂ are_bounds none (drop_of_length-le ps over))

-- a metavariable at bound variables
bounds_listed : (n : ℕ) (a : Terms) → are_bounds n (list_of_terms a) ≡ equal_term_lists (bounds n) a
bounds_listed zero no_terms = refl
bounds_listed zero (also t a) = refl
bounds_listed (suc n) no_terms = refl
bounds_listed (suc n) (also t a) = ap (λ b. equal_expressions (bound n) t && b) (bounds_listed n a)

bounds_count : (n : ℕ) (a : Terms) → length (list_of_terms a) ≢ n → false ≡ equal_term_lists (bounds n) a
bounds_count zero no_terms h = absurd (h refl)
bounds_count zero (also t a) h = refl
bounds_count (suc n) no_terms h = refl
bounds_count (suc n) (also t a) h = and_no (equal_expressions (bound n) t) (equal_term_lists (bounds n) a) (bounds_count n a (λ e. h (ap suc e)))
  where
    and_no : (x y : Bool) → false ≡ y → false ≡ (x && y)
    and_no true y e = e
    and_no false y e = refl

pub generic_is : (m j n : ℕ) (e : Expression) (b : Bool) → node.Meta j ≡ node_of e → j ≡ m → b ≡ are_bounds n (arguments_of e) → b ≡ equal_expressions (meta m (bounds n)) e
generic_is m j n (bound k) b h f g = cc
generic_is m j n (free v) b h f g = cc
generic_is m j n (symbol s a) b h f g = cc
generic_is m j n (meta p a) b h f g =
    let same : m ≡ p = cc in
    g ∙ bounds_listed n a ∙ ap (λ c. c && equal_term_lists (bounds n) a) (sym (eq-eqb m p same))

pub generic_other : (m j n : ℕ) (e : Expression) → node.Meta j ≡ node_of e → j ≢ m → false ≡ equal_expressions (meta m (bounds n)) e
generic_other m j n (bound k) h f = cc
generic_other m j n (free v) h f = cc
generic_other m j n (symbol s a) h f = cc
generic_other m j n (meta p a) h f =
    let same : j ≡ p = cc in
    sym (ap (λ c. c && equal_term_lists (bounds n) a) (ne_eqb m p (λ e. f (same ∙ sym e))))

pub generic_count : (m j n : ℕ) (e : Expression) → node.Meta j ≡ node_of e → length (arguments_of e) ≢ n → false ≡ equal_expressions (meta m (bounds n)) e
generic_count m j n (bound k) h f = cc
generic_count m j n (free v) h f = cc
generic_count m j n (symbol s a) h f = cc
generic_count m j n (meta p a) h f = and_no (nat_eq m p) (equal_term_lists (bounds n) a) (bounds_count n a f)
  where
    and_no : (x y : Bool) → false ≡ y → false ≡ (x && y)
    and_no true y e = e
    and_no false y e = refl

pub generic_not : (m n : ℕ) (e : Expression) (x : Node) → x ≡ node_of e → ((j : ℕ) → x ≡ node.Meta j → ⊥) → false ≡ equal_expressions (meta m (bounds n)) e
generic_not m n (bound k) x h f = refl
generic_not m n (free v) x h f = refl
generic_not m n (symbol s a) x h f = refl
generic_not m n (meta p a) x h f = absurd (f p h)

-- the bodies, one by one
pub bodies_start : (ts : List Expression) (ps : List Argument) → trees_of ts [] ++ bodies (drop 0 ps) ≡ bodies ps
bodies_start ts ps = refl

pub bodies_next : (ts : List Expression) (k i : ℕ) (ps : List Argument) (x : Arg) (xs ys : List ℕ) (r : List Expression) → trees_of ts xs ++ bodies (drop k ps) ≡ r → i ≡ k → slice_get ps i ≡ Some (argument_in ts x)
    → trees_of ts ys ≡ trees_of ts xs ++ body_listed (option_map (tree ts) x.body) → trees_of ts ys ++ bodies (drop (k + 1) ps) ≡ r
bodies_next ts k i ps x xs ys r h f g q =
    let here : slice_get ps k ≡ Some (argument_in ts x) = subst (λ i. slice_get ps i ≡ Some (argument_in ts x)) f g in
    ap (λ es. es ++ bodies (drop (k + 1) ps)) q
    ∙ append_assoc (trees_of ts xs) (body_listed (option_map (tree ts) x.body)) (bodies (drop (k + 1) ps))
    ∙ ap (λ ps. trees_of ts xs ++ bodies ps) (sym (first_of_rest ps k (argument_in ts x) here)) ∙ h

pub body_pushed : (ts : List Expression) (e : ℕ) (b : Option ℕ) (xs ys : List ℕ) → b ≡ Some e → ys ≡ xs ++ e ∷ [] → trees_of ts ys ≡ trees_of ts xs ++ body_listed (option_map (tree ts) b)
body_pushed ts e b xs ys h q = ap (trees_of ts) q ∙ map-append (tree ts) xs (e ∷ []) ∙ ap (λ b. trees_of ts xs ++ body_listed (option_map (tree ts) b)) (sym h)

pub body_below : (n e : ℕ) (b : Option ℕ) (xs ys : List ℕ) → b ≡ Some e → ys ≡ xs ++ e ∷ [] → AllBelow n xs → BodyBelow n b → AllBelow n ys
body_below n e b xs ys h q a l = subst (AllBelow n) (sym q) (all_push n xs e a (subst (BodyBelow n) h l))

pub no_body_pushed : (ts : List Expression) (b : Option ℕ) (xs : List ℕ) → b ≡ None → trees_of ts xs ≡ trees_of ts xs ++ body_listed (option_map (tree ts) b)
no_body_pushed ts b xs h = sym (append-nil (trees_of ts xs)) ∙ ap (λ b. trees_of ts xs ++ body_listed (option_map (tree ts) b)) (sym h)

pub bodies_end : (ts : List Expression) (k : ℕ) (ps : List Argument) (xs : List ℕ) (r : List Expression) → trees_of ts xs ++ bodies (drop k ps) ≡ r → length ps ≤ k → trees_of ts xs ≡ r
bodies_end ts k ps xs r h l = sym (append-nil (trees_of ts xs)) ∙ ap (λ ps. trees_of ts xs ++ bodies ps) (sym (drop_of_length-le ps l)) ∙ h
