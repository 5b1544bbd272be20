-- Patterns against values.
use Rattle.std.specs.Prelude.{ℕ, suc, Bool, false, cond, nat_eq, Option, Some, None, ◌∷◌}
use Rattle.ft_theory.specs.Expressions.{symbol}
use Rattle.ft_theory.specs.Statements.{is_type, has_type, Statement, plain}
use Rattle.ft_items.specs.Store.{Assertion}
use Rattle.ft_items.specs.Rows.{when}
use Rattle.ft_items.specs.Good.{same_truth}
use Rattle.ft_reference.specs.Nucleus as reference
use Rattle.ft_meaning.specs.Trees.{Pattern, cons_pattern, some_pattern, symbol_pattern, name_pattern, wildcard, truth_pattern, unit_pattern, none_pattern, nil_pattern, pair_pattern, Patterns, no_patterns, and_pattern}
use Rattle.ft_meaning.specs.Values.{Value, judgement, unit, truth, pair, nil, cons, none, some, Environment, Run, ◌>>=◌, pure, halt, stuck, nucleus, the_rule}

-- the test for a plain type or term that is the symbol at arguments
abbrev pub is_applied : ℕ → Statement → Bool
is_applied s (plain (is_type (symbol r a))) = nat_eq s r
is_applied s (plain (has_type (symbol r a) A)) = nat_eq s r
is_applied s x = false

-- what follows where a pattern matches, and what where it doesn't
abbrev pub if_found : {A : Type 0} → Option Environment → (Environment → Run A) → Run A → Run A
if_found (Some G) next other = next G
if_found None next other = other

infixl 10 ◌and_also◌
-- a match, and then a further one over what the first names; it matches where both do
abbrev pub ◌and_also◌ : Run (Option Environment) → (Environment → Run (Option Environment)) → Run (Option Environment)
◌and_also◌ m next = m >>= λ found. if_found found next (pure None)

-- A pattern against a value: the named values with those that it names; or None, where it doesn't match. The number is the place
-- of the match. The arguments of a symbol are taken one by one, each matched before the next.
abbrev mutual
  pub matches : ℕ → Pattern → Value → Environment → Run (Option Environment)
  matches at (cons_pattern a p q) (cons v w) G = matches at p v G and_also matches at q w
  matches at (cons_pattern a p q) nil G = pure None
  matches at (some_pattern a p) (some v) G = matches at p v G
  matches at (some_pattern a p) none G = pure None
  matches at (symbol_pattern a n ps) (judgement j) G =
      the_rule n.name >>= λ r. cond (is_applied r.0 j.statement) (match_arguments at ps j 1 G) (pure None)
  matches at (name_pattern a n) v G = pure (Some ((n, v) ∷ G))
  matches at (wildcard a) v G = pure (Some G)
  matches at (truth_pattern a b) (truth c) G = pure (when (same_truth b c) G)
  matches at (unit_pattern a) unit G = pure (Some G)
  matches at (none_pattern a) none G = pure (Some G)
  matches at (none_pattern a) (some v) G = pure None
  matches at (nil_pattern a) nil G = pure (Some G)
  matches at (nil_pattern a) (cons v w) G = pure None
  matches at (pair_pattern a p q) (pair v w) G = matches at p v G and_also matches at q w
  matches at p v G = halt stuck

  -- patterns against the arguments of an application, from the i-th on
  pub match_arguments : ℕ → Patterns → Assertion → ℕ → Environment → Run (Option Environment)
  match_arguments at no_patterns j i G = pure (Some G)
  match_arguments at (and_pattern p ps) j i G = do
    a ← nucleus at (λ W. reference.argument W i j)
    matches at p (judgement a) G and_also match_arguments at ps j (suc i)
