-- The instance that pairs of metavariables and arguments of a table are, and what is put for the variables of a body.
use Rattle.std.specs.Prelude.{ℕ, ◌≡◌, ◌+◌, Option, Some, None, is_some, cond, nat_eq, ◌&&◌, List, [], ◌∷◌, option_map}
use Rattle.ft_theory.specs.Expressions.{Expression, bound, free, symbol, meta, Terms, no_terms, also, count, lifts, put, pushes, act}
use Rattle.ft_theory.specs.Small.{IsSmall}
use Rattle.ft_syntax.specs.Arguments.{Argument}
use Rattle.ft_syntax.specs.Measures.{IsSmallBody}
use Rattle.ft_syntax.specs.Table.{tree, BodyBelow}
use Rattle.ft_syntax.specs.declared.syntax.Arg.{Arg}

-- the body for the metavariable m at k terms: that of its first argument that has k binders and a body
abbrev pub body_for : List (ℕ × Arg) → ℕ → ℕ → Option ℕ
body_for [] m k = None
body_for (p ∷ ps) m k = cond (nat_eq m p.0 && nat_eq k p.1.binders && is_some p.1.body) p.1.body (body_for ps m k)

-- the pairs as an instance
abbrev pub instance_in : List Expression → List (ℕ × Arg) → ℕ → ℕ → Option Expression
instance_in ts ps m k = option_map (tree ts) (body_for ps m k)

-- each body is among the first n trees
abbrev pub PairsBelow : ℕ → List (ℕ × Arg) → Type 0
PairsBelow n [] = Unit {0}
PairsBelow n (p ∷ ps) = BodyBelow n p.1.body × PairsBelow n ps

-- the body, below k binders, with the terms for the variables that point past these
abbrev pub planted : Terms → ℕ → Expression → Expression
planted a k e = put (lifts k (pushes bound a)) e

abbrev pub planted_argument : Terms → ℕ → Argument → Argument
planted_argument a k p = (p.0, option_map (planted a (p.0 + k)) p.1)

-- a term of the table, or none for one that is not small
abbrev pub IsTermOf : List Expression → Option ℕ → Expression → Type 0
IsTermOf ts None t = IsSmall t → ⊥
IsTermOf ts (Some e) t = tree ts e ≡ t

abbrev pub AreTermsOf : List Expression → List (Option ℕ) → Terms → Type 0
AreTermsOf ts [] no_terms = Unit {0}
AreTermsOf ts [] (also t a) = ⊥
AreTermsOf ts (x ∷ xs) no_terms = ⊥
AreTermsOf ts (x ∷ xs) (also t a) = IsTermOf ts x t × AreTermsOf ts xs a

abbrev pub BodiesBelow : ℕ → List (Option ℕ) → Type 0
BodiesBelow n [] = Unit {0}
BodiesBelow n (x ∷ xs) = BodyBelow n x × BodiesBelow n xs

-- the argument with the instance put in its body
abbrev pub instantiated_argument : (ℕ → ℕ → Option Expression) → Argument → Argument
instantiated_argument i p = (p.0, option_map (act free i) p.1)

-- nothing is put for the expression's own metavariable
abbrev pub KeepsHead : List (ℕ × Arg) → Expression → Type 0
KeepsHead ps (bound i) = Unit {0}
KeepsHead ps (free v) = Unit {0}
KeepsHead ps (symbol s a) = Unit {0}
KeepsHead ps (meta m a) = body_for ps m (count a) ≡ None

-- r is what planting in e gives, whichever terms these are
pub record IsPlanted (ts : List Expression) (xs : List (Option ℕ)) (k : ℕ) (e r : Expression) : Type 0 where
  pub is : (a : Terms) → AreTermsOf ts xs a → r ≡ planted a k e

-- what planting in e gives is not small
pub record IsNeverSmall (ts : List Expression) (xs : List (Option ℕ)) (k : ℕ) (e : Expression) : Type 0 where
  pub never : (a : Terms) → AreTermsOf ts xs a → IsSmall (planted a k e) → ⊥

pub record IsPlantedBody (ts : List Expression) (xs : List (Option ℕ)) (k : ℕ) (b r : Option Expression) : Type 0 where
  pub is : (a : Terms) → AreTermsOf ts xs a → r ≡ option_map (planted a k) b

pub record IsNeverSmallBody (ts : List Expression) (xs : List (Option ℕ)) (k : ℕ) (b : Option Expression) : Type 0 where
  pub never : (a : Terms) → AreTermsOf ts xs a → IsSmallBody (option_map (planted a k) b) → ⊥

-- the expression is a metavariable at terms for which the body b is put
abbrev pub HasBody : List (ℕ × Arg) → Expression → ℕ → Type 0
HasBody ps (bound i) b = ⊥
HasBody ps (free v) b = ⊥
HasBody ps (symbol s a) b = ⊥
HasBody ps (meta m a) b = body_for ps m (count a) ≡ Some b
