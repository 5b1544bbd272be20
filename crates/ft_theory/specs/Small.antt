-- The depth and the size of an expression, and when it is small: what the program forms is small. The limits are this
-- project's own; what is derivable has none.
use Rattle.std.specs.Prelude.{ℕ, suc, ◌+◌, ◌^◌, ◌<◌, ◌≤◌, max, Bool, true, nat_lt, nat_le, ◌&&◌}
use Rattle.ft_theory.specs.Expressions.{Expression, bound, free, symbol, meta, Arguments, no_arguments, with_body, dummy, Terms, no_terms, also}

-- The depth of a variable is 1. That of an application is 1 more than the greatest depth of its arguments' bodies, and 1
-- without them. A dummy has depth 0.
abbrev mutual
  pub depth : Expression → ℕ
  depth (bound i) = 1
  depth (free v) = 1
  depth (symbol s a) = suc (depth_of_arguments a)
  depth (meta m a) = suc (depth_of_terms a)

  pub depth_of_arguments : Arguments → ℕ
  depth_of_arguments no_arguments = 0
  depth_of_arguments (with_body n e a) = max (depth e) (depth_of_arguments a)
  depth_of_arguments (dummy n a) = depth_of_arguments a

  pub depth_of_terms : Terms → ℕ
  depth_of_terms no_terms = 0
  depth_of_terms (also t a) = max (depth t) (depth_of_terms a)

-- The size of a variable is 1. That of an application is 1 more than the sum of the sizes of its arguments' bodies. A dummy
-- has size 0.
abbrev mutual
  pub size : Expression → ℕ
  size (bound i) = 1
  size (free v) = 1
  size (symbol s a) = suc (size_of_arguments a)
  size (meta m a) = suc (size_of_terms a)

  pub size_of_arguments : Arguments → ℕ
  size_of_arguments no_arguments = 0
  size_of_arguments (with_body n e a) = size e + size_of_arguments a
  size_of_arguments (dummy n a) = size_of_arguments a

  pub size_of_terms : Terms → ℕ
  size_of_terms no_terms = 0
  size_of_terms (also t a) = size t + size_of_terms a

-- The limits of small expressions: the greatest depth, the greatest size, the number that is never reached by the successor of a
-- bound number, and the one that is never reached by the number of an argument's binders.
abbrev pub max_depth : ℕ
max_depth = 1000

abbrev pub max_size : ℕ
max_size = 65536

abbrev pub number_end : ℕ
number_end = 2 ^ 64

abbrev pub binder_end : ℕ
binder_end = 2 ^ 32

-- A limit on numbers: none, that one is at most another or below it, or all of two or of three limits.
pub data Limit : Type 0 where
  no_limit : Limit
  at_most : ℕ → ℕ → Limit
  below : ℕ → ℕ → Limit
  both : Limit → Limit → Limit
  all_three : Limit → Limit → Limit → Limit

-- the limit is kept
abbrev pub IsKept : Limit → Type 0
IsKept no_limit = Unit {0}
IsKept (at_most m n) = m ≤ n
IsKept (below m n) = m < n
IsKept (both k l) = IsKept k × IsKept l
IsKept (all_three k l m) = IsKept k × IsKept l × IsKept m

-- the test that it is
abbrev pub is_kept : Limit → Bool
is_kept no_limit = true
is_kept (at_most m n) = nat_le m n
is_kept (below m n) = nat_lt m n
is_kept (both k l) = is_kept k && is_kept l
is_kept (all_three k l m) = is_kept k && is_kept l && is_kept m

-- the limits of the bound numbers and of the arguments' binders in an expression
abbrev mutual
  pub number_limits : Expression → Limit
  number_limits (bound i) = below (suc i) number_end
  number_limits (free v) = no_limit
  number_limits (symbol s a) = number_limits_of_arguments a
  number_limits (meta m a) = number_limits_of_terms a

  pub number_limits_of_arguments : Arguments → Limit
  number_limits_of_arguments no_arguments = no_limit
  number_limits_of_arguments (with_body n e a) =
      all_three (below n binder_end) (number_limits e) (number_limits_of_arguments a)
  number_limits_of_arguments (dummy n a) = both (below n binder_end) (number_limits_of_arguments a)

  pub number_limits_of_terms : Terms → Limit
  number_limits_of_terms no_terms = no_limit
  number_limits_of_terms (also t a) = both (number_limits t) (number_limits_of_terms a)

-- An expression is small where its depth, its size and its numbers keep their limits.
abbrev pub limits : Expression → Limit
limits e = all_three (at_most (depth e) max_depth) (at_most (size e) max_size) (number_limits e)

pub record IsSmall (e : Expression) : Type 0 where
  pub kept : IsKept (limits e)

-- the test that it is small
abbrev pub is_small : Expression → Bool
is_small e = is_kept (limits e)

-- the numbers of an expression, of arguments and of terms keep their limits
abbrev pub NumbersFit : Expression → Type 0
NumbersFit e = IsKept (number_limits e)

abbrev pub NumbersFitInArguments : Arguments → Type 0
NumbersFitInArguments a = IsKept (number_limits_of_arguments a)

abbrev pub NumbersFitInTerms : Terms → Type 0
NumbersFitInTerms a = IsKept (number_limits_of_terms a)
