-- Matching of patterns, as programs that ask.
use Rattle.std.specs.Prelude.{ℕ, Bool, true, false, cond, nat_eq, not, ◌&&◌, Option, Some, None, option_map, List, [], ◌∷◌, ◌++◌, map}
use Rattle.ft_theory.specs.Expressions.{Expression, free, symbol, meta, Arguments, no_arguments, with_body, dummy, instantiate}
use Rattle.ft_theory.specs.Statements.{Statement, act_statement, domain_count, boundary_of}
use Rattle.ft_items.specs.Equal.{equal_statements, has_head, head}
use Rattle.ft_items.specs.Store.{Declarations}
use Rattle.ft_items.specs.Rows.{arguments_of}
use Rattle.ft_equality.specs.Shapes.{applications, Premises}
use Rattle.ft_equality.specs.Programs.{Program, give, ◌>>=◌, ◌>>◌}
use Rattle.ft_equality.specs.Comparing.{and_then, for_each, yes_or, same_or, form_all, form_statement, visit, visit_all, heads_equal, boundaries_equal}

-- what an instance puts for each metavariable at so many terms
abbrev pub Instance : Type 0
Instance = ℕ → ℕ → Option Expression

-- First a pattern is walked together with an expression.

-- a place is a metavariable of the pattern with the argument that it meets, as a thesis
abbrev pub Place : Type 0
Place = ℕ × Statement

-- the places, where the expression has the pattern's form
abbrev pub Places : Type 0
Places = Option (List Place)

-- these places with those that follow; there are none where either are not there
abbrev pub and_places : Places → (Unit {0} → Program Places) → Program Places
and_places None next = give None
and_places (Some xs) next = do
  found ← next tt
  give (option_map (λ ys. xs ++ ys) found)

-- the places that follow, where the test holds; else there are none
abbrev pub when : Bool → (Unit {0} → Program Places) → Program Places
when true next = next tt
when false next = give None

-- a metavariable meets the argument itself, which is its place; a symbol has the places of the walk
abbrev pub place_or : Expression → Statement → Program Places → Program Places
place_or (meta m ts) x walked = give (Some ((m, x) ∷ []))
place_or u x walked = walked

-- The places of a symbol at patterns in an expression: it meets its own applications alone, which are visited before their
-- arguments are walked. And of patterns in arguments: each meets one with its number of binders, and a dummy an equation.
abbrev mutual
  pub walk : Declarations → Expression → Expression → Program Places
  walk W (symbol s us) (symbol f a) = when (nat_eq s f) (λ _. visit W (symbol f a) >> walk_arguments W us (arguments_of W (symbol f a)))
  walk W u e = give None

  pub walk_arguments : Declarations → Arguments → List Statement → Program Places
  walk_arguments W no_arguments [] = give (Some [])
  walk_arguments W (with_body n u us) (x ∷ xs) = when (has_head x && nat_eq n (domain_count x)) (λ _. do
    found ← place_or u x (walk W u (head x))
    and_places found (λ _. walk_arguments W us xs))
  walk_arguments W (dummy n us) (x ∷ xs) = when (not (has_head x)) (λ _. walk_arguments W us xs)
  walk_arguments W us xs = give None

-- the instance that puts for each metavariable the argument at its first place
abbrev pub instance_by : List Place → Instance
instance_by [] m k = None
instance_by (p ∷ ps) m k = cond (nat_eq m p.0 && nat_eq k (domain_count p.1)) (Some (head p.1)) (instance_by ps m k)

-- the arguments at the places of one metavariable
abbrev pub met_by : ℕ → List Place → List Statement
met_by m [] = []
met_by m (p ∷ ps) = cond (nat_eq m p.0) (p.1 ∷ met_by m ps) (met_by m ps)

-- Then the places are compared, in two rounds, by the premises of the rule in their order.

-- an argument stands at the boundary b, or at one that equals it; both are formed
abbrev pub stands_at : Statement → Statement → Program Bool
stands_at b x = do
  form_statement (boundary_of x)
  form_statement b
  yes_or (equal_statements b (boundary_of x)) (boundaries_equal b (boundary_of x))

-- the first round: each argument stands at the boundary of its premise at the instance
abbrev pub boundaries_fit : Instance → Premises → List Place → Program Bool
boundaries_fit I qs ps = for_each (λ q. for_each (stands_at (act_statement free I q.1)) (met_by q.0 ps)) qs

-- the head equals that of each of these arguments, at its boundary
abbrev pub equals_each : Expression → List Statement → Program Bool
equals_each e xs = for_each (λ x. same_or e (head x) (heads_equal (boundary_of x) e (head x))) xs

-- the first of these arguments equals the others
abbrev pub first_equals : List Statement → Program Bool
first_equals [] = give true
first_equals (x ∷ xs) = equals_each (head x) xs

-- the second round: the arguments at the places of each metavariable are equal
abbrev pub repeats_equal : Premises → List Place → Program Bool
repeats_equal qs ps = for_each (λ q. first_equals (met_by q.0 ps)) qs

-- the instance, where both rounds ended with yes; the pattern at it is formed, and its applications are visited
abbrev pub matched : Declarations → Expression → Instance → Bool → Program (Option Instance)
matched W u I false = give None
matched W u I true = do
  form_all (instantiate I u ∷ [])
  visit_all W (map (instantiate I) (applications u))
  give (Some I)

-- the instance by these places
abbrev pub match_places : Declarations → Premises → Expression → Places → Program (Option Instance)
match_places W qs u None = give None
match_places W qs u (Some ps) = do
  fits ← and_then (boundaries_fit (instance_by ps) qs ps) (λ _. repeats_equal qs ps)
  matched W u (instance_by ps) fits

-- A pattern of a rule with these premises against an expression: the instance at which it matches, or None.
abbrev pub match_pattern : Declarations → Premises → Expression → Expression → Program (Option Instance)
match_pattern W qs u e = walk W u e >>= match_places W qs u
