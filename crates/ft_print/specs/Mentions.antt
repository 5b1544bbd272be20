-- The free variables of an expression in the order of its text.
use Rattle.std.specs.Prelude.{ℕ, List, [], ◌∷◌, ◌++◌}
use Rattle.ft_theory.specs.Expressions.{Expression, bound, free, symbol, meta, Arguments, no_arguments, with_body, dummy, Terms, no_terms, also}

-- each as often as it is mentioned
abbrev mutual
  pub mentioned : Expression → List ℕ
  mentioned (bound i) = []
  mentioned (free v) = v ∷ []
  mentioned (symbol s a) = mentioned_by_arguments a
  mentioned (meta m ts) = mentioned_by_terms ts

  pub mentioned_by_arguments : Arguments → List ℕ
  mentioned_by_arguments no_arguments = []
  mentioned_by_arguments (with_body n e a) = mentioned e ++ mentioned_by_arguments a
  mentioned_by_arguments (dummy n a) = mentioned_by_arguments a

  pub mentioned_by_terms : Terms → List ℕ
  mentioned_by_terms no_terms = []
  mentioned_by_terms (also t ts) = mentioned t ++ mentioned_by_terms ts
