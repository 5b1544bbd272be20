-- Declarations to work with: the natural numbers with some further rules, metavariables and variables; and short forms of statements.
use Rattle.std.specs.Prelude.{ℕ, zero, suc, List, [], ◌∷◌, ◌++◌, map, codes, Result, Ok, Err, ◌≡◌}
use Rattle.ft_theory.specs.Expressions.{Expression, bound, free, symbol, meta, no_arguments, with_body, dummy, no_terms, also}
use Rattle.ft_theory.specs.Statements.{is_type, has_type, equal_types, equal_terms, type_goal, term_goal, type_equation_goal, term_equation_goal, Statement, plain, abstracted}
use Rattle.ft_theory.specs.Rules.{Rule}
use Rattle.ft_items.specs.Sets.{Atom, var}
use Rattle.ft_items.specs.Store.{Assertion, Annotation, Declared, Resolved, Declarations}
use Rattle.ft_items.specs.Worked.{Nat, O, S}
use Rattle.ft_reference.specs.Refusals.{Differ, Refusal}
use Rattle.ft_reference.specs.Calls.{answer}

-- Vec(e), of rule 3
abbrev pub Vec : Expression → Expression
Vec e = symbol 3 (with_body 0 e no_arguments)

-- Sum(A, {x} B), of rule 5
abbrev pub Sum : Expression → Expression → Expression
Sum A B = symbol 5 (with_body 0 A (with_body 1 B no_arguments))

-- Fix(e, an equation), of rule 6
abbrev pub Fix : Expression → Expression
Fix e = symbol 6 (with_body 0 e (dummy 0 no_arguments))

-- the type Bool, of rule 7
abbrev pub Bool : Expression
Bool = symbol 7 no_arguments

-- a metavariable without terms, and one at a term
abbrev pub alone : ℕ → Expression
alone m = meta m no_terms

abbrev pub at_one : ℕ → Expression → Expression
at_one m e = meta m (also e no_terms)

-- a premise
abbrev pub declared : Statement → Declared
declared b = record { name = codes "p"; boundary = b; set = [] }

abbrev pub ruled : List (ℕ × Statement) → Rule
ruled ps = record { premises = ps; conclusion = term_goal Nat }

-- `Nat type`, `O : Nat`, `S (n : Nat) : Nat`
abbrev pub nat_rule : Rule
nat_rule = record { premises = []; conclusion = type_goal }

abbrev pub zero_rule : Rule
zero_rule = ruled []

abbrev pub successor_rule : Rule
successor_rule = ruled ((0, plain (term_goal Nat)) ∷ [])

-- `Vec (n : Nat) type`
abbrev pub vector_rule : Rule
vector_rule = record { premises = (1, plain (term_goal Nat)) ∷ []; conclusion = type_goal }

-- `(n : Nat) S n == n : Nat`, which has no symbol
abbrev pub fixed_rule : Rule
fixed_rule = record { premises = (2, plain (term_goal Nat)) ∷ []; conclusion = term_equation_goal (S (alone 2)) (alone 2) Nat }

-- `Sum (A type) ({x : A} B type) type`
abbrev pub sum_rule : Rule
sum_rule = record { premises = (3, plain type_goal) ∷ (4, abstracted (alone 3) (plain type_goal)) ∷ []; conclusion = type_goal }

-- `Fix (n : Nat) (S n == n : Nat) : Nat`
abbrev pub fix_rule : Rule
fix_rule = ruled ((5, plain (term_goal Nat)) ∷ (6, plain (term_equation_goal (S (alone 5)) (alone 5) Nat)) ∷ [])

-- variable 4 of type Nat, and variable 7 of type Vec at variable 4
abbrev pub x_annotation : Annotation
x_annotation = record { name = codes "x"; annotation = Nat; set = [] }

abbrev pub y_annotation : Annotation
y_annotation = record { name = codes "y"; annotation = Vec (free 4); set = var 4 ∷ [] }

-- metavariable 7, a term over {x : Nat}; metavariable 8, an equation over it
abbrev pub term_metavariable : Declared
term_metavariable = declared (abstracted Nat (plain (term_goal Nat)))

abbrev pub equation_metavariable : Declared
equation_metavariable = declared (abstracted Nat (plain (term_equation_goal (bound 0) (bound 0) Nat)))

-- the declarations
abbrev pub declarations : Declarations
declarations = record {
  rules = nat_rule ∷ zero_rule ∷ successor_rule ∷ vector_rule ∷ fixed_rule ∷ sum_rule ∷ fix_rule ∷ nat_rule ∷ [];
  names = codes "Nat" ∷ codes "O" ∷ codes "S" ∷ codes "Vec" ∷ codes "fixed" ∷ codes "Sum" ∷ codes "Fix" ∷ codes "Bool" ∷ [];
  metavariables = declared (plain (term_goal Nat)) ∷ declared (plain (term_goal Nat)) ∷ declared (plain (term_goal Nat)) ∷ declared (plain type_goal) ∷ declared (abstracted (alone 3) (plain type_goal)) ∷ declared (plain (term_goal Nat)) ∷ declared (plain (term_equation_goal (S (alone 5)) (alone 5) Nat)) ∷ term_metavariable ∷ equation_metavariable ∷ [];
  variables = (4, x_annotation) ∷ (7, y_annotation) ∷ [];
}

-- a statement with its set
abbrev pub of : Statement → List Atom → Assertion
of x R = record { statement = x; set = R }

-- plain theses that rest on nothing
abbrev pub type_of : Expression → Assertion
type_of A = of (plain (is_type A)) []

abbrev pub term_of : Expression → Expression → Assertion
term_of t A = of (plain (has_type t A)) []

abbrev pub types_of : Expression → Expression → Assertion
types_of A B = of (plain (equal_types A B)) []

abbrev pub terms_of : Expression → Expression → Expression → Assertion
terms_of s t A = of (plain (equal_terms s t A)) []

-- the same under {x : A}
abbrev pub under : Expression → Assertion → Assertion
under A a = of (abstracted A a.statement) a.set

-- plain boundaries that rest on nothing
abbrev pub type_boundary : Assertion
type_boundary = of (plain type_goal) []

abbrev pub term_boundary_of : Expression → Assertion
term_boundary_of A = of (plain (term_goal A)) []

abbrev pub types_boundary_of : Expression → Expression → Assertion
types_boundary_of A B = of (plain (type_equation_goal A B)) []

abbrev pub terms_boundary_of : Expression → Expression → Expression → Assertion
terms_boundary_of s t A = of (plain (term_equation_goal s t A)) []

-- `x : Nat`, which rests on x
abbrev pub x_term : Assertion
x_term = of (plain (has_type (free 4) Nat)) (var 4 ∷ [])

-- so many symbols S before O
abbrev pub numeral : ℕ → Expression
numeral zero = O
numeral (suc n) = S (numeral n)

-- a bound number that is too big
abbrev pub big : Expression
big = bound 18446744073709551615

-- found and wanted, not under domains
abbrev pub differs : Expression → Expression → Differ
differs found wanted = record { found = found; wanted = wanted; under = 0 }

-- what a call answers, or its refusal
abbrev pub ok : Assertion → Result Assertion Refusal
ok a = Ok a

abbrev pub refused : Refusal → Result Assertion Refusal
refused r = Err r

-- each call over the declarations answers what stands beside it
abbrev pub AnswerOver : Declarations → List (Resolved × Result Assertion Refusal) → Type 0
AnswerOver W ps = map (λ (p : Resolved × Result Assertion Refusal). answer W p.0) ps ≡ map (λ (p : Resolved × Result Assertion Refusal). p.1) ps

abbrev pub Answer : List (Resolved × Result Assertion Refusal) → Type 0
Answer ps = AnswerOver declarations ps

-- the declarations with metavariable 9, a term over {x : Nat} of type Vec at x
abbrev pub dependent_declarations : Declarations
dependent_declarations = record declarations { metavariables = declarations.metavariables ++ (declared (abstracted Nat (plain (term_goal (Vec (bound 0))))) ∷ []) }
