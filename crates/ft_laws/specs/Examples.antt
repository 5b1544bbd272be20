-- Worked examples: the natural numbers, dependent products with their beta rule, and sequents that are not derivable.
-- The rules are those of Haselwarter and Bauer, "Finitary type theories with and without contexts", for Martin-Löf's type theory.
use Rattle.std.specs.Prelude.{ℕ, Some, None, ◌≡◌, List, [], ◌∷◌}
use Rattle.ft_theory.specs.Expressions.{Expression, bound, free, symbol, meta, Arguments, no_arguments, with_body, no_terms, also, put, pushes}
use Rattle.ft_theory.specs.Statements.{is_type, has_type, equal_types, equal_terms, type_goal, term_goal, term_equation_goal, Statement, plain, abstracted}
use Rattle.ft_theory.specs.Rules.{look_up, Rule, rule_at, instance_of, filled_premises, conclusion_at}
use Rattle.ft_theory.specs.Steps.{Prim}
use Rattle.ft_theory.specs.Derivability.{Finitary}

-- `Nat`, `O` and `S(n)`, the symbols of the rules 0, 1 and 2
abbrev pub natural : Expression
natural = symbol 0 no_arguments

abbrev pub nought : Expression
nought = symbol 1 no_arguments

abbrev pub successor : Expression → Expression
successor n = symbol 2 (with_body 0 n no_arguments)

-- `Nat type`, `O : Nat` and `S (n : Nat) : Nat`
abbrev pub rule_natural : Rule
rule_natural = record { premises = []; conclusion = type_goal }

abbrev pub rule_nought : Rule
rule_nought = record { premises = []; conclusion = term_goal natural }

abbrev pub rule_successor : Rule
rule_successor = record { premises = (0, plain (term_goal natural)) ∷ []; conclusion = term_goal natural }

-- the theory of natural numbers
abbrev pub naturals : List Rule
naturals = rule_natural ∷ rule_nought ∷ rule_successor ∷ []

-- the metavariables of the rules for products: a type `A`, a family `B` and a term `e` under one variable of type `A`, a term `a`
abbrev pub base : Expression
base = meta 0 no_terms

abbrev pub family : Expression → Expression
family t = meta 1 (also t no_terms)

abbrev pub body : Expression → Expression
body t = meta 2 (also t no_terms)

abbrev pub function : Expression
function = meta 2 no_terms

abbrev pub argument : Expression
argument = meta 3 no_terms

-- `Pi(A, {x} B)`, `lam(A, {x} B, {x} e)` and `app(A, {x} B, f, a)`, the symbols of the rules 3, 4 and 5
abbrev pub product : Expression → Expression → Expression
product A B = symbol 3 (with_body 0 A (with_body 1 B no_arguments))

abbrev pub lambda : Expression → Expression → Expression → Expression
lambda A B e = symbol 4 (with_body 0 A (with_body 1 B (with_body 1 e no_arguments)))

abbrev pub application : Expression → Expression → Expression → Expression → Expression
application A B f a = symbol 5 (with_body 0 A (with_body 1 B (with_body 0 f (with_body 0 a no_arguments))))

-- `Pi (A type) ({x : A} B type) type`
abbrev pub rule_product : Rule
rule_product = record { premises = (0, plain type_goal) ∷ (1, abstracted base (plain type_goal)) ∷ []; conclusion = type_goal }

-- `lam (A type) ({x : A} B type) ({x : A} e : B{x}) : Pi A B`
abbrev pub rule_lambda : Rule
rule_lambda = record {
  premises = (0, plain type_goal) ∷ (1, abstracted base (plain type_goal)) ∷ (2, abstracted base (plain (term_goal (family (bound 0))))) ∷ [];
  conclusion = term_goal (product base (family (bound 0)));
}

-- `app (A type) ({x : A} B type) (f : Pi A B) (a : A) : B{a}`
abbrev pub rule_application : Rule
rule_application = record {
  premises = (0, plain type_goal) ∷ (1, abstracted base (plain type_goal)) ∷ (2, plain (term_goal (product base (family (bound 0))))) ∷ (3, plain (term_goal base)) ∷ [];
  conclusion = term_goal (family argument);
}

-- `beta (A type) ({x : A} B type) ({x : A} e : B{x}) (a : A) : app A B (lam A B e) a == e{a} : B{a}`
abbrev pub rule_beta : Rule
rule_beta = record {
  premises = (0, plain type_goal) ∷ (1, abstracted base (plain type_goal)) ∷ (2, abstracted base (plain (term_goal (family (bound 0))))) ∷ (3, plain (term_goal base)) ∷ [];
  conclusion = term_equation_goal (application base (family (bound 0)) (lambda base (family (bound 0)) (body (bound 0))) argument) (body argument) (family argument);
}

-- the theory of natural numbers and dependent products
abbrev pub naturals_and_products : List Rule
naturals_and_products = rule_natural ∷ rule_nought ∷ rule_successor ∷ rule_product ∷ rule_lambda ∷ rule_application ∷ rule_beta ∷ []

-- `S(S(O)) : Nat` is primitively derivable over the natural numbers, whatever metavariables and variables there are.
abbrev pub TwoIsNatural : Type 0
TwoIsNatural = (M : List (ℕ × Statement)) (G : List (ℕ × Expression)) → Prim naturals M G (plain (has_type (successor (successor nought)) natural))

-- The theory of natural numbers and dependent products with their beta rule is finitary.
abbrev pub ProductsAreFinitary : Type 0
ProductsAreFinitary = Finitary naturals_and_products

-- `app(Nat, {x} Nat, lam(Nat, {x} Nat, {x} S(x)), O) == S(O) : Nat` is derivable over it: an instance of the beta rule.
abbrev pub BetaIsDerivable : Type 0
BetaIsDerivable = Prim naturals_and_products [] [] (plain (equal_terms (application natural natural (lambda natural natural (successor (bound 0))) nought) (successor nought) natural))

-- Not derivable: a metavariable at its boundary `_ : s(..)`, where s is the symbol of no rule. So an ill-formed boundary gives
-- nothing, at any type.
abbrev pub NothingFromIllFormedBoundary : Type 0
NothingFromIllFormedBoundary = (T : List Rule) → Finitary T → (M : List (ℕ × Statement)) (G : List (ℕ × Expression)) (m s : ℕ) (a : Arguments) (A : Expression)
    → rule_at T s ≡ None → look_up M m ≡ Some (plain (term_goal (symbol s a))) → Prim T M G (plain (has_type (meta m no_terms) A)) → ⊥

-- Not derivable: the equation that an equation boundary states, where its left side is a symbol of no rule.
abbrev pub NothingFromIllFormedEquation : Type 0
NothingFromIllFormedEquation = (T : List Rule) → Finitary T → (M : List (ℕ × Statement)) (G : List (ℕ × Expression)) (s : ℕ) (a : Arguments) (B : Expression)
    → rule_at T s ≡ None → Prim T M G (plain (equal_types (symbol s a) B)) → ⊥

-- Not derivable: a variable at any type, where the type that it is declared with is a symbol of no rule.
abbrev pub NothingFromIllFormedAnnotation : Type 0
NothingFromIllFormedAnnotation = (T : List Rule) → Finitary T → (M : List (ℕ × Statement)) (G : List (ℕ × Expression)) (v s : ℕ) (a : Arguments) (A : Expression)
    → rule_at T s ≡ None → look_up G v ≡ Some (symbol s a) → Prim T M G (plain (has_type (free v) A)) → ⊥

-- Not derivable, over any theory: a variable that the sequent lacks.
abbrev pub NoAbsentVariable : Type 0
NoAbsentVariable = (T : List Rule) (M : List (ℕ × Statement)) (G : List (ℕ × Expression)) (v : ℕ) (A : Expression) → look_up G v ≡ None → Prim T M G (plain (has_type (free v) A)) → ⊥

-- Not derivable, over any theory: a bound variable with no binder around it.
abbrev pub NoLooseVariable : Type 0
NoLooseVariable = (T : List Rule) (M : List (ℕ × Statement)) (G : List (ℕ × Expression)) (i : ℕ) (A : Expression) → Prim T M G (plain (has_type (bound i) A)) → ⊥

-- Not derivable over the natural numbers: `O type`, and so nor is `O : O`.
abbrev pub NoughtIsNoType : Type 0
NoughtIsNoType = (M : List (ℕ × Statement)) (G : List (ℕ × Expression)) → Prim naturals M G (plain (is_type nought)) → ⊥

abbrev pub NoughtIsNotInNought : Type 0
NoughtIsNotInNought = (M : List (ℕ × Statement)) (G : List (ℕ × Expression)) → Prim naturals M G (plain (has_type nought nought)) → ⊥

-- By computation: of two terms put for two bound variables, the last is for the innermost one. What stands under a binder
-- passes it: `f({x} @0, {x} @1, {x} @2)` with v1 and v2 put is `f({x} @0, {x} v2, {x} v1)`.
abbrev pub TermsInOrder : Type 0
TermsInOrder = put (pushes bound (also (free 1) (also (free 2) no_terms))) (symbol 8 (with_body 1 (bound 0) (with_body 1 (bound 1) (with_body 1 (bound 2) no_arguments))))
    ≡ symbol 8 (with_body 1 (bound 0) (with_body 1 (free 2) (with_body 1 (free 1) no_arguments)))

-- the arguments `Nat, {x} Vec(x), v5, O` of `app`, where `Vec` is the symbol of the rule 9
abbrev pub application_arguments : Arguments
application_arguments = with_body 0 natural (with_body 1 (symbol 9 (with_body 0 (bound 0) no_arguments)) (with_body 0 (free 5) (with_body 0 nought no_arguments)))

-- By computation: `app` at them has the conclusion `_ : Vec(O)`.
abbrev pub ConclusionOfApplication : Type 0
ConclusionOfApplication = conclusion_at rule_application application_arguments ≡ term_goal (symbol 9 (with_body 0 nought no_arguments))

-- By computation: its premises at them are `Nat type`, `{x : Nat} Vec(x) type`, `v5 : Pi(Nat, {x} Vec(x))` and `O : Nat`.
abbrev pub PremisesOfApplication : Type 0
PremisesOfApplication = filled_premises (instance_of rule_application.premises application_arguments) rule_application.premises application_arguments
    ≡ plain (is_type natural) ∷ abstracted natural (plain (is_type (symbol 9 (with_body 0 (bound 0) no_arguments))))
    ∷ plain (has_type (free 5) (product natural (symbol 9 (with_body 0 (bound 0) no_arguments)))) ∷ plain (has_type nought natural) ∷ []
