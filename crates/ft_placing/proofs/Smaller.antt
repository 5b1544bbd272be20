-- An expression is no deeper and no larger than what it becomes when a term is put in it.
use Rattle.std.proofs.Common.{◌≡◌, ℕ, zero, suc, ◌+◌, ◌<◌, ◌≤◌, Bool, true, false, cond, nat_eq, max, List, [], ◌∷◌, refl, ap, length, arith}
use Rattle.ft_theory.specs.Expressions.{Expression, bound, free, symbol, meta, Arguments, no_arguments, with_body, dummy, Terms, no_terms, also, open_at, open_arguments, open_terms}
use Rattle.ft_theory.specs.Small.{depth, depth_of_arguments, depth_of_terms, size, size_of_arguments, size_of_terms, IsKept, IsSmall, NumbersFit, NumbersFitInArguments, NumbersFitInTerms}
use Rattle.ft_placing.specs.Opening.{opened_by}

either : (b : Bool) (P : Expression → Type 0) (x y : Expression) → P x → P y → P (cond b x y)
either true P x y h g = h
either false P x y h g = g

one_deep : (e : Expression) → 1 ≤ depth e
one_deep (bound i) = omega arith
one_deep (free v) = omega arith
one_deep (symbol s a) = omega arith
one_deep (meta m a) = omega arith

one_large : (e : Expression) → 1 ≤ size e
one_large (bound i) = omega arith
one_large (free v) = omega arith
one_large (symbol s a) = omega arith
one_large (meta m a) = omega arith

mutual
  unfolding open_at open_arguments open_terms

  numbers_put : (k : ℕ) (t e : Expression) → NumbersFit t → NumbersFit e → NumbersFit (open_at k t e)
  numbers_put k t (bound i) h g = either (nat_eq i k) NumbersFit t (bound i) h g
  numbers_put k t (free v) h g = tt
  numbers_put k t (symbol s a) h g = numbers_put-arguments k t a h g
  numbers_put k t (meta m a) h g = numbers_put-terms k t a h g

  numbers_put-arguments : (k : ℕ) (t : Expression) (a : Arguments) → NumbersFit t → NumbersFitInArguments a → NumbersFitInArguments (open_arguments k t a)
  numbers_put-arguments k t no_arguments h g = tt
  numbers_put-arguments k t (with_body n e a) h g = (g.0, numbers_put (n + k) t e h g.1, numbers_put-arguments k t a h g.2)
  numbers_put-arguments k t (dummy n a) h g = (g.0, numbers_put-arguments k t a h g.1)

  numbers_put-terms : (k : ℕ) (t : Expression) (a : Terms) → NumbersFit t → NumbersFitInTerms a → NumbersFitInTerms (open_terms k t a)
  numbers_put-terms k t no_terms h g = tt
  numbers_put-terms k t (also e a) h g = (numbers_put k t e h g.0, numbers_put-terms k t a h g.1)

max_both : (a b c d : ℕ) → a ≤ c → b ≤ d → max a b ≤ max c d
max_both a b c d h g = omega arith

mutual
  unfolding open_at open_arguments open_terms

  deeper : (k : ℕ) (t e : Expression) → depth e ≤ depth (open_at k t e)
  deeper k t (bound i) = either (nat_eq i k) (λ x. 1 ≤ depth x) t (bound i) (one_deep t) (omega arith)
  deeper k t (free v) = omega arith
  deeper k t (symbol s a) = let h = deeper-arguments k t a in omega (arith, h)
  deeper k t (meta m a) = let h = deeper-terms k t a in omega (arith, h)

  deeper-arguments : (k : ℕ) (t : Expression) (a : Arguments) → depth_of_arguments a ≤ depth_of_arguments (open_arguments k t a)
  deeper-arguments k t no_arguments = omega arith
  deeper-arguments k t (with_body n e a) = max_both (depth e) (depth_of_arguments a) (depth (open_at (n + k) t e)) (depth_of_arguments (open_arguments k t a)) (deeper (n + k) t e) (deeper-arguments k t a)
  deeper-arguments k t (dummy n a) = deeper-arguments k t a

  deeper-terms : (k : ℕ) (t : Expression) (a : Terms) → depth_of_terms a ≤ depth_of_terms (open_terms k t a)
  deeper-terms k t no_terms = omega arith
  deeper-terms k t (also e a) = max_both (depth e) (depth_of_terms a) (depth (open_at k t e)) (depth_of_terms (open_terms k t a)) (deeper k t e) (deeper-terms k t a)

mutual
  unfolding open_at open_arguments open_terms

  larger : (k : ℕ) (t e : Expression) → size e ≤ size (open_at k t e)
  larger k t (bound i) = either (nat_eq i k) (λ x. 1 ≤ size x) t (bound i) (one_large t) (omega arith)
  larger k t (free v) = omega arith
  larger k t (symbol s a) = let h = larger-arguments k t a in omega (arith, h)
  larger k t (meta m a) = let h = larger-terms k t a in omega (arith, h)

  larger-arguments : (k : ℕ) (t : Expression) (a : Arguments) → size_of_arguments a ≤ size_of_arguments (open_arguments k t a)
  larger-arguments k t no_arguments = omega arith
  larger-arguments k t (with_body n e a) = let h = larger (n + k) t e in let g = larger-arguments k t a in omega (arith, h, g)
  larger-arguments k t (dummy n a) = larger-arguments k t a

  larger-terms : (k : ℕ) (t : Expression) (a : Terms) → size_of_terms a ≤ size_of_terms (open_terms k t a)
  larger-terms k t no_terms = omega arith
  larger-terms k t (also e a) = let h = larger k t e in let g = larger-terms k t a in omega (arith, h, g)

-- and so with further terms
deeper_by : (k : ℕ) (as' : List Expression) (e : Expression) → depth e ≤ depth (opened_by k as' e)
deeper_by k [] e = omega arith
deeper_by k (t ∷ as') e = let h = deeper (length as' + k) t e in let g = deeper_by k as' (open_at (length as' + k) t e) in omega (arith, h, g)

larger_by : (k : ℕ) (as' : List Expression) (e : Expression) → size e ≤ size (opened_by k as' e)
larger_by k [] e = omega arith
larger_by k (t ∷ as') e = let h = larger (length as' + k) t e in let g = larger_by k as' (open_at (length as' + k) t e) in omega (arith, h, g)

-- What is small after all terms are put was small after the first of them, where this and what it was put in are small.
pub first_small : (k l : ℕ) (as' : List Expression) (t e : Expression) → IsSmall t → IsSmall e → IsSmall (opened_by k as' (open_at l t e)) → IsSmall (open_at l t e)
first_small k l as' t e h g s =
    let x = open_at l t e in
    let d : depth x ≤ depth (opened_by k as' x) = deeper_by k as' x in
    let z : size x ≤ size (opened_by k as' x) = larger_by k as' x in
    let most : depth (opened_by k as' x) ≤ 1000 = s.kept.0 in
    let most' : size (opened_by k as' x) ≤ 65536 = s.kept.1 in
    record { kept = (omega (arith, d, most), omega (arith, z, most'), numbers_put l t e h.kept.2 g.kept.2) }
