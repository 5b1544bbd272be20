-- Equality by the declared rules: normal forms, types, terms at a type, and normal forms argument by argument.
-- After Bauer and Petković Komel, "An extensible equality checking algorithm for dependent type theories": terms are compared by
-- the extensionality rule of their type, and else by normal forms, which computation rules give.
use Rattle.std.specs.Prelude.{ℕ, suc, Bool, true, false, cond, nat_eq, not, Option, Some, None, option_map, option_to_list, List, [], ◌∷◌, Ok}
use Rattle.ft_theory.specs.Expressions.{Expression, free, symbol, meta, Arguments, no_arguments, with_body, dummy, instantiate}
use Rattle.ft_theory.specs.Statements.{has_type, Statement, plain, act_statement, boundary_of}
use Rattle.ft_items.specs.Equal.{has_head, head}
use Rattle.ft_items.specs.Store.{Declarations}
use Rattle.ft_items.specs.Rows.{arguments_of}
use Rattle.ft_equality.specs.Shapes.{Premises, Computation, Extensionality, EqualityRules, is_principal}
use Rattle.ft_equality.specs.Programs.{Question, types, terms, normals, Program, give, normalises, ◌>>=◌, ◌>>◌, Units, Answer, after, Bodies, solve}
use Rattle.ft_equality.specs.Comparing.{decide, and_also, and_then, for_each, yes_or, same_or, types_alike, form_all, form_statement, visit, heads_equal, sides_equal}
use Rattle.ft_equality.specs.Matching.{Instance, match_pattern}

-- the normal form is asked for
abbrev pub normal_of : Expression → Program Expression
normal_of e = normalises e give

-- what follows an instance that was found, and what is done where there is none
abbrev pub if_found : {A : Type 0} → Option Instance → (Instance → Program A) → (Unit {0} → Program A) → Program A
if_found (Some I) next other = next I
if_found None next other = other tt

-- Normal forms.

-- the right side of a computation rule at an instance; it and its type are formed
abbrev pub contracted : Computation → Instance → Program Expression
contracted c I = do
  form_all (instantiate I c.right ∷ option_to_list (option_map (instantiate I) c.type))
  give (instantiate I c.right)

-- the normal form of the right side of the first rule that matches; where none does the expression is normal
abbrev pub compute : Declarations → List Computation → Expression → Program Expression
compute W [] e = give e
compute W (c ∷ cs) e = do
  found ← match_pattern W c.premises c.left e
  if_found found (λ I. contracted c I >>= normal_of) (λ _. compute W cs e)

-- a principal argument's normal form; another argument stays
abbrev pub normal_if : Bool → Expression → Program Expression
normal_if true e = normal_of e
normal_if false e = give e

-- the arguments of the symbol s, counted on from i, the principal ones by their normal forms
abbrev pub principal_normal : EqualityRules → ℕ → ℕ → Arguments → Program Arguments
principal_normal E s i no_arguments = give no_arguments
principal_normal E s i (with_body n e a) = do
  f ← normal_if (is_principal E s i) e
  b ← principal_normal E s (suc i) a
  give (with_body n f b)
principal_normal E s i (dummy n a) = do
  b ← principal_normal E s (suc i) a
  give (dummy n b)

-- a symbol's principal arguments are normalised, and then the rules are tried; others are normal
abbrev pub normal_by : Declarations → EqualityRules → Expression → Program Expression
normal_by W E (symbol s a) = do
  b ← principal_normal E s 1 a
  form_all (symbol s b ∷ [])
  compute W E.computations (symbol s b)
normal_by W E e = give e

-- Normal forms argument by argument.

-- The i-th argument x of an application of the symbol s, and that of another at the head f, are equal: no equation is compared,
-- principal arguments as normal forms, and others at the boundary of x.
abbrev pub argument_equal : EqualityRules → ℕ → ℕ → Statement → Expression → Program Bool
argument_equal E s i x f = yes_or (not (has_head x)) (cond (is_principal E s i) (decide (normals (head x) f)) (heads_equal (boundary_of x) (head x) f))

-- the arguments of the symbol s are equal, counted on from i
abbrev pub arguments_equal : EqualityRules → ℕ → ℕ → List Statement → List Statement → Program Bool
arguments_equal E s i [] [] = give true
arguments_equal E s i (x ∷ xs) (y ∷ ys) = and_then (argument_equal E s i x (head y)) (λ _. arguments_equal E s (suc i) xs ys)
arguments_equal E s i xs ys = give false

-- a term of type A equals one of type B, after these types, the second on the left
abbrev pub terms_alike : Expression → Expression → Expression → Expression → Program Bool
terms_alike t A u B = and_then (types_alike B A) (λ _. decide (terms t u A))

-- the terms of a metavariable are equal, each at its domain by the first application
abbrev pub terms_equal : List Statement → List Statement → Program Bool
terms_equal [] [] = give true
terms_equal (plain (has_type t A) ∷ xs) (plain (has_type u B) ∷ ys) = and_then (terms_alike t A u B) (λ _. terms_equal xs ys)
terms_equal xs ys = give false

-- one symbol at equal arguments, or one metavariable at equal terms
abbrev pub parts_equal : Declarations → EqualityRules → Expression → Expression → Program Bool
parts_equal W E (symbol s a) (symbol r b) = and_also (nat_eq s r) (λ _. arguments_equal E s 1 (arguments_of W (symbol s a)) (arguments_of W (symbol r b)))
parts_equal W E (meta m a) (meta n b) = and_also (nat_eq m n) (λ _. terms_equal (arguments_of W (meta m a)) (arguments_of W (meta n b)))
parts_equal W E e f = give false

-- the same tree, or equal parts; both are visited first
abbrev pub normals_equal : Declarations → EqualityRules → Expression → Expression → Program Bool
normals_equal W E e f = do
  visit W e
  visit W f
  same_or e f (parts_equal W E e f)

-- Types and terms.

-- the normal forms are equal, the left one normalised first
abbrev pub by_normal_forms : Expression → Expression → Program Bool
by_normal_forms s t = do
  a ← normal_of s
  b ← normal_of t
  decide (normals a b)

-- the instance, with the two terms for the metavariables of the sides
abbrev pub with_sides : Extensionality → Instance → Expression → Expression → Instance
with_sides x I s t m k = cond (nat_eq m x.first) (Some s) (cond (nat_eq m x.second) (Some t) (I m k))

-- an equation's boundary is formed, and its sides are equal
abbrev pub equation_holds : Statement → Program Bool
equation_holds b = do
  form_statement b
  sides_equal b

-- the equation premises hold at the instance, in their order
abbrev pub equations_hold : Instance → Premises → Program Bool
equations_hold I qs = for_each (λ q. equation_holds (act_statement free I q.1)) qs

-- the first extensionality rule whose type matches decides by its equation premises; where none does the normal forms decide
abbrev pub by_type : Declarations → List Extensionality → Expression → Expression → Expression → Program Bool
by_type W [] s t A = by_normal_forms s t
by_type W (x ∷ xs) s t A = do
  found ← match_pattern W x.premises x.type A
  if_found found (λ I. equations_hold (with_sides x I s t) x.equations) (λ _. by_type W xs s t A)

-- The questions and normal forms over declarations with equality rules.
abbrev pub answered : Declarations → EqualityRules → Question → Program Bool
answered W E (types A B) = same_or A B (by_normal_forms A B)
answered W E (terms s t A) = same_or s t (normal_of A >>= by_type W E.extensionalities s t)
answered W E (normals e f) = normals_equal W E e f

-- what is done for each call, once its unit is spent
abbrev pub bodies : Declarations → EqualityRules → Bodies
bodies W E = record { asked = answered W E; normal = λ e. visit W e >> normal_by W E e }

-- The calls: whether two types are equal, whether terms s : A and t : B are, and the normal form of an expression.

-- two types
abbrev pub types_are_equal : Declarations → EqualityRules → Expression → Expression → Units → Answer Bool
types_are_equal W E A B u = (solve (bodies W E)).ask (types A B) u

-- the terms at the first type, where the types are equal
abbrev pub terms_at : Declarations → EqualityRules → Expression → Expression → Expression → Bool → Units → Answer Bool
terms_at W E s t A false u = (Ok false, u)
terms_at W E s t A true u = (solve (bodies W E)).ask (terms s t A) u

-- two terms with their types
abbrev pub terms_are_equal : Declarations → EqualityRules → Expression → Expression → Expression → Expression → Units → Answer Bool
terms_are_equal W E s A t B u = after (types_are_equal W E A B u) (terms_at W E s t A)

-- a normal form
abbrev pub normal_form : Declarations → EqualityRules → Expression → Units → Answer Expression
normal_form W E e u = (solve (bodies W E)).normal e u
