-- What is opened is no less deep and no smaller, and its numbers keep their limits; so an expression that is not small stays so.
use Rattle.std.proofs.Common.{ℕ, ◌+◌, ◌≤◌, nat_eq, List, [], ◌∷◌, length, arith}
use Rattle.ft_common.proofs.Choices.{if_both}
use Rattle.ft_theory.specs.Expressions.{Expression, bound, free, symbol, meta, Arguments, no_arguments, with_body, dummy, Terms, no_terms, also, open_at, open_arguments, open_terms}
use Rattle.ft_theory.specs.Small.{IsSmall, depth, depth_of_arguments, depth_of_terms, size, size_of_arguments, size_of_terms, NumbersFit, NumbersFitInArguments, NumbersFitInTerms}
use Rattle.ft_metas.specs.Putting.{with_terms}

-- depth and size
deep : (e : Expression) → 1 ≤ depth e
deep (bound i) = omega arith
deep (free v) = omega arith
deep (symbol f a) = omega arith
deep (meta m a) = omega arith

sized : (e : Expression) → 1 ≤ size e
sized (bound i) = omega arith
sized (free v) = omega arith
sized (symbol f a) = omega arith
sized (meta m a) = omega arith

mutual
  unfolding open_at

  open_depth : (e : Expression) (k : ℕ) (t : Expression) → depth e ≤ depth (open_at k t e)
  open_depth (bound i) k t = if_both (λ e. 1 ≤ depth e) (nat_eq i k) t (bound i) (λ h. deep t) (λ h. deep (bound i))
  open_depth (free u) k t = omega arith
  open_depth (symbol f a) k t = let h : depth_of_arguments a ≤ depth_of_arguments (open_arguments k t a) = open_depth_of_arguments a k t in omega arith
  open_depth (meta m a) k t = let h : depth_of_terms a ≤ depth_of_terms (open_terms k t a) = open_depth_of_terms a k t in omega arith

  open_depth_of_arguments : (a : Arguments) (k : ℕ) (t : Expression) → depth_of_arguments a ≤ depth_of_arguments (open_arguments k t a)
  open_depth_of_arguments no_arguments k t = omega arith
  open_depth_of_arguments (with_body n e a) k t =
      let g : depth e ≤ depth (open_at (n + k) t e) = open_depth e (n + k) t in
      let h : depth_of_arguments a ≤ depth_of_arguments (open_arguments k t a) = open_depth_of_arguments a k t in
      omega arith
  open_depth_of_arguments (dummy n a) k t = open_depth_of_arguments a k t

  open_depth_of_terms : (a : Terms) (k : ℕ) (t : Expression) → depth_of_terms a ≤ depth_of_terms (open_terms k t a)
  open_depth_of_terms no_terms k t = omega arith
  open_depth_of_terms (also e a) k t =
      let g : depth e ≤ depth (open_at k t e) = open_depth e k t in
      let h : depth_of_terms a ≤ depth_of_terms (open_terms k t a) = open_depth_of_terms a k t in
      omega arith

mutual
  unfolding open_at

  open_size : (e : Expression) (k : ℕ) (t : Expression) → size e ≤ size (open_at k t e)
  open_size (bound i) k t = if_both (λ e. 1 ≤ size e) (nat_eq i k) t (bound i) (λ h. sized t) (λ h. sized (bound i))
  open_size (free u) k t = omega arith
  open_size (symbol f a) k t = let h : size_of_arguments a ≤ size_of_arguments (open_arguments k t a) = open_size_of_arguments a k t in omega arith
  open_size (meta m a) k t = let h : size_of_terms a ≤ size_of_terms (open_terms k t a) = open_size_of_terms a k t in omega arith

  open_size_of_arguments : (a : Arguments) (k : ℕ) (t : Expression) → size_of_arguments a ≤ size_of_arguments (open_arguments k t a)
  open_size_of_arguments no_arguments k t = omega arith
  open_size_of_arguments (with_body n e a) k t =
      let g : size e ≤ size (open_at (n + k) t e) = open_size e (n + k) t in
      let h : size_of_arguments a ≤ size_of_arguments (open_arguments k t a) = open_size_of_arguments a k t in
      omega arith
  open_size_of_arguments (dummy n a) k t = open_size_of_arguments a k t

  open_size_of_terms : (a : Terms) (k : ℕ) (t : Expression) → size_of_terms a ≤ size_of_terms (open_terms k t a)
  open_size_of_terms no_terms k t = omega arith
  open_size_of_terms (also e a) k t =
      let g : size e ≤ size (open_at k t e) = open_size e k t in
      let h : size_of_terms a ≤ size_of_terms (open_terms k t a) = open_size_of_terms a k t in
      omega arith

-- the numbers
mutual
  unfolding open_at

  pub open_fits : (e : Expression) (k : ℕ) (t : Expression) → NumbersFit t → NumbersFit e → NumbersFit (open_at k t e)
  open_fits (bound i) k t g h = if_both NumbersFit (nat_eq i k) t (bound i) (λ y. g) (λ n. h)
  open_fits (free u) k t g h = tt
  open_fits (symbol f a) k t g h = open_fits_arguments a k t g h
  open_fits (meta m a) k t g h = open_fits_terms a k t g h

  open_fits_arguments : (a : Arguments) (k : ℕ) (t : Expression) → NumbersFit t → NumbersFitInArguments a → NumbersFitInArguments (open_arguments k t a)
  open_fits_arguments no_arguments k t g h = tt
  open_fits_arguments (with_body n e a) k t g h = (h.0, open_fits e (n + k) t g h.1, open_fits_arguments a k t g h.2)
  open_fits_arguments (dummy n a) k t g h = (h.0, open_fits_arguments a k t g h.1)

  open_fits_terms : (a : Terms) (k : ℕ) (t : Expression) → NumbersFit t → NumbersFitInTerms a → NumbersFitInTerms (open_terms k t a)
  open_fits_terms no_terms k t g h = tt
  open_fits_terms (also e a) k t g h = (open_fits e k t g h.0, open_fits_terms a k t g h.1)

-- what is opened to a small expression is small
opening_back : (e : Expression) (k : ℕ) (t : Expression) → NumbersFit e → IsSmall (open_at k t e) → IsSmall e
opening_back e k t f s =
    let d : depth e ≤ depth (open_at k t e) = open_depth e k t in
    let z : size e ≤ size (open_at k t e) = open_size e k t in
    let low : depth (open_at k t e) ≤ 1000 = s.kept.0 in
    let few : size (open_at k t e) ≤ 65536 = s.kept.1 in
    record { kept = (omega arith, omega arith, f) }

-- the numbers of each expression keep their limits
abbrev pub AllFit : List Expression → Type 0
AllFit [] = Unit {0}
AllFit (T ∷ Ts) = NumbersFit T × AllFit Ts

pub terms_back : (Ts : List Expression) (E : Expression) → AllFit Ts → NumbersFit E → IsSmall (with_terms Ts E) → IsSmall E
terms_back [] E a f s = s
terms_back (T ∷ Ts) E a f s = opening_back E (length Ts) T f (terms_back Ts (open_at (length Ts) T E) a.1 (open_fits E (length Ts) T a.0 f) s)
