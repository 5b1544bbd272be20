-- Programs that form expressions, visit applications, and compare types and terms.
use Rattle.std.specs.Prelude.{ℕ, zero, suc, Bool, true, false, cond, List, [], ◌∷◌, ◌++◌, option_to_list}
use Rattle.std.specs.List.{list_all, flat_map}
use Rattle.ft_theory.specs.Expressions.{Expression, bound, free, open_at}
use Rattle.ft_theory.specs.Statements.{type_goal, term_goal, type_equation_goal, term_equation_goal, Statement, plain, abstracted, opened, domain_count}
use Rattle.ft_theory.specs.Small.{is_small}
use Rattle.ft_items.specs.Equal.{equal_expressions}
use Rattle.ft_items.specs.Store.{Declarations}
use Rattle.ft_items.specs.Rows.{arguments_of, natural_type}
use Rattle.ft_reference.specs.Refusals.{expressions}
use Rattle.ft_equality.specs.Programs.{Question, types, terms, Program, give, stop, opens, asks, ◌>>=◌, ◌>>◌}

-- Yes and no.

-- a question is asked
abbrev pub decide : Question → Program Bool
decide q = asks q give

-- after a yes what follows it; after a no the answer is no
abbrev pub and_also : Bool → (Unit {0} → Program Bool) → Program Bool
and_also true next = next tt
and_also false next = give false

-- the program, and after its yes what follows it
abbrev pub and_then : Program Bool → (Unit {0} → Program Bool) → Program Bool
and_then p next = p >>= λ holds. and_also holds next

-- a yes for each member, in their order
abbrev pub for_each : {A : Type 0} → (A → Program Bool) → List A → Program Bool
for_each p [] = give true
for_each p (x ∷ xs) = and_then (p x) (λ _. for_each p xs)

-- yes where the test holds, and else the program's answer
abbrev pub yes_or : Bool → Program Bool → Program Bool
yes_or b p = cond b (give true) p

-- yes where the expressions are the same tree, and else the program's answer
abbrev pub same_or : Expression → Expression → Program Bool → Program Bool
same_or e f p = yes_or (equal_expressions e f) p

-- two types are the same tree, or they are answered to be equal
abbrev pub types_alike : Expression → Expression → Program Bool
types_alike A B = same_or A B (decide (types A B))

-- Forming and visiting.

-- these expressions are formed, so they are to be small
abbrev pub form_all : List Expression → Program (Unit {0})
form_all es = cond (list_all is_small es) (give tt) stop

-- the expressions of a statement are formed
abbrev pub form_statement : Statement → Program (Unit {0})
form_statement x = form_all (expressions x)

-- To visit an application is to form its arguments as theses, each at its boundary, and its type by declaration. A variable is
-- no application.
abbrev pub visit : Declarations → Expression → Program (Unit {0})
visit W (bound i) = give tt
visit W (free v) = give tt
visit W e = form_all (flat_map expressions (arguments_of W e) ++ option_to_list (natural_type W e))

-- these are visited, in their order
abbrev pub visit_all : Declarations → List Expression → Program (Unit {0})
visit_all W [] = give tt
visit_all W (e ∷ es) = visit W e >> visit_all W es

-- Comparing under n domains, which are opened by variables.

-- a variable is opened
abbrev pub variable : Program ℕ
variable = opens give

-- two heads are equal at the goal of a boundary
abbrev pub equal_heads : ℕ → Statement → Expression → Expression → Program Bool
equal_heads zero (plain type_goal) e f = decide (types e f)
equal_heads zero (plain (term_goal A)) e f = decide (terms e f A)
equal_heads zero b e f = give false
equal_heads (suc n) b e f = do
  v ← variable
  equal_heads n (opened (free v) b) (open_at n (free v) e) (open_at n (free v) f)

-- the sides of an equation's boundary are equal
abbrev pub equal_sides : ℕ → Statement → Program Bool
equal_sides zero (plain (type_equation_goal A B)) = decide (types A B)
equal_sides zero (plain (term_equation_goal s t A)) = decide (terms s t A)
equal_sides zero b = give false
equal_sides (suc n) b = do
  v ← variable
  equal_sides n (opened (free v) b)

-- two boundaries are equal: their domains in order, each opened after it is compared, and then their types
abbrev pub equal_boundaries : ℕ → Statement → Statement → Program Bool
equal_boundaries zero (plain type_goal) (plain type_goal) = give true
equal_boundaries zero (plain (term_goal A)) (plain (term_goal B)) = types_alike A B
equal_boundaries (suc n) (abstracted A x) (abstracted B y) = and_then (types_alike A B) (λ _. do
  v ← variable
  equal_boundaries n (opened (free v) (abstracted A x)) (opened (free v) (abstracted B y)))
equal_boundaries n b c = give false

-- two heads are equal at a boundary, under its domains
abbrev pub heads_equal : Statement → Expression → Expression → Program Bool
heads_equal b e f = equal_heads (domain_count b) b e f

-- the sides of an equation's boundary are equal, under its domains
abbrev pub sides_equal : Statement → Program Bool
sides_equal b = equal_sides (domain_count b) b

-- two boundaries are equal, under their domains
abbrev pub boundaries_equal : Statement → Statement → Program Bool
boundaries_equal b c = equal_boundaries (domain_count b) b c
