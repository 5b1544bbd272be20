-- Worked answers: shapes and their faults, equations by computation and by extensionality, normal forms, each with its units.
use Rattle.std.specs.Prelude.{ℕ, ◌≡◌, ◌+◌, ◌-◌, true, false, Result, Ok, Err, List, [], ◌∷◌}
use Rattle.ft_theory.specs.Expressions.{Expression, bound, free, symbol, meta, no_arguments, with_body, no_terms, also}
use Rattle.ft_theory.specs.Statements.{type_goal, term_goal, type_equation_goal, term_equation_goal, Statement, plain, abstracted}
use Rattle.ft_theory.specs.Rules.{Rule}
use Rattle.ft_items.specs.Store.{Annotation, Declared, Declarations}
use Rattle.ft_laws.specs.Examples.{natural, nought, successor, rule_natural, rule_nought, rule_successor, base, family, function, product, lambda, application, rule_product, rule_lambda, rule_application, rule_beta}
use Rattle.ft_equality.specs.Results.{◌>>=◌}
use Rattle.ft_equality.specs.Shapes.{ShapeFault, NotEquation, EquationPremise, BadLeft, Undetermined, EqualityRules, no_rules, computation_of, extensionality_of, add_computation, add_extensionality, is_principal}
use Rattle.ft_equality.specs.Programs.{Units, Spent}
use Rattle.ft_equality.specs.Equality.{types_are_equal, terms_are_equal, normal_form}

-- The rules: natural numbers and products are the rules 0 to 6, beta the last of them.

-- the n-th metavariable of a rule, without terms
abbrev pub m : ℕ → Expression
m n = meta n no_terms

-- the premise of a term of this type
abbrev pub a_term : ℕ → Expression → ℕ × Statement
a_term n A = (n, plain (term_goal A))

-- the premise of an equation of two terms of this type
abbrev pub an_equation : ℕ → Expression → Expression → Expression → ℕ × Statement
an_equation n s t A = (n, plain (term_equation_goal s t A))

-- the rule with these premises that equates two terms of this type
abbrev pub equates : List (ℕ × Statement) → Expression → Expression → Expression → Rule
equates ps s t A = record { premises = ps; conclusion = term_equation_goal s t A }

-- `plus(a, b)`, rule 7
abbrev pub plus : Expression → Expression → Expression
plus a b = symbol 7 (with_body 0 a (with_body 0 b no_arguments))

-- `plus (m : Nat) (n : Nat) : Nat`
abbrev pub rule_plus : Rule
rule_plus = record { premises = a_term 0 natural ∷ a_term 1 natural ∷ []; conclusion = term_goal natural }

-- `plusO (n : Nat) : plus O n == n : Nat`, rule 8
abbrev pub rule_plus_nought : Rule
rule_plus_nought = equates (a_term 0 natural ∷ []) (plus nought (m 0)) (m 0) natural

-- `plusS (m : Nat) (n : Nat) : plus (S m) n == S (plus m n) : Nat`, rule 9
abbrev pub rule_plus_successor : Rule
rule_plus_successor = equates (a_term 0 natural ∷ a_term 1 natural ∷ []) (plus (successor (m 0)) (m 1)) (successor (plus (m 0) (m 1))) natural

-- `Unit type`, rule 10
abbrev pub unit : Expression
unit = symbol 10 no_arguments

-- `eta (x : Unit) (y : Unit) : x == y : Unit`, rule 11
abbrev pub rule_eta : Rule
rule_eta = equates (a_term 0 unit ∷ a_term 1 unit ∷ []) (m 0) (m 1) unit

-- `ext (A type) ({x : A} B type) (f : Pi A B) (g : Pi A B) ({x : A} app A B f x == app A B g x : B{x}) : f == g : Pi A B`, rule 12
abbrev pub rule_functions : Rule
rule_functions = record {
  premises = (0, plain type_goal)
      ∷ (1, abstracted base (plain type_goal))
      ∷ (2, plain (term_goal (product base (family (bound 0)))))
      ∷ (3, plain (term_goal (product base (family (bound 0)))))
      ∷ (4, abstracted base (plain (term_equation_goal (application base (family (bound 0)) function (bound 0)) (application base (family (bound 0)) (m 3) (bound 0)) (family (bound 0)))))
      ∷ [];
  conclusion = term_equation_goal function (m 3) (product base (family (bound 0)));
}

-- `Number type`, rule 13
abbrev pub number : Expression
number = symbol 13 no_arguments

-- `eq : Number == Nat`, rule 14
abbrev pub rule_number : Rule
rule_number = record { premises = []; conclusion = type_equation_goal number natural }

-- `l : Nat` and `ll : l == l : Nat`, rules 15 and 16
abbrev pub loop : Expression
loop = symbol 15 no_arguments

abbrev pub rule_loop : Rule
rule_loop = equates [] loop loop natural

-- all of them
abbrev pub rules : List Rule
rules = rule_natural ∷ rule_nought ∷ rule_successor ∷ rule_product ∷ rule_lambda ∷ rule_application ∷ rule_beta
    ∷ rule_plus ∷ rule_plus_nought ∷ rule_plus_successor
    ∷ record { premises = []; conclusion = type_goal } ∷ rule_eta ∷ rule_functions
    ∷ record { premises = []; conclusion = type_goal } ∷ rule_number
    ∷ rule_nought ∷ rule_loop ∷ []

-- a variable without a name, of this type
abbrev pub of : Expression → Annotation
of A = record { name = []; annotation = A; set = [] }

-- a metavariable without a name, `{x : Nat} _ : Nat`
abbrev pub step : Declared
step = record { name = []; boundary = abstracted natural (plain (term_goal natural)); set = [] }

-- the variables 0 and 1 of type Unit, 2 of type Pi(Nat, {x} Nat), and this metavariable
abbrev pub declarations : Declarations
declarations = record {
  rules = rules;
  names = [];
  metavariables = step ∷ [];
  variables = (0, of unit) ∷ (1, of unit) ∷ (2, of (product natural natural)) ∷ [];
}

-- the rules that compute, and those that are extensional, in this order
abbrev pub declared : Result EqualityRules ShapeFault
declared = do
  a ← add_computation no_rules 6 rule_beta
  b ← add_computation a 8 rule_plus_nought
  c ← add_computation b 9 rule_plus_successor
  d ← add_computation c 14 rule_number
  e ← add_computation d 16 rule_loop
  f ← add_extensionality e 11 rule_eta
  add_extensionality f 12 rule_functions

-- the rules that were declared; none after a fault
abbrev pub rules_of : Result EqualityRules ShapeFault → EqualityRules
rules_of (Ok E) = E
rules_of (Err f) = no_rules

-- 1,000 units, of which so many are used; 3 were used before
abbrev pub spent : ℕ → Units
spent n = record { used = 3 + n; left = 1000 - n }

-- Shapes.

-- All are accepted. The first argument of `plus` is principal and the second is not; of `app` the third is and the fourth is not.
abbrev pub AreShapes : Type 0
AreShapes = (declared ≡ Ok (rules_of declared))
    × (is_principal (rules_of declared) 7 1 ≡ true)
    × (is_principal (rules_of declared) 7 2 ≡ false)
    × (is_principal (rules_of declared) 5 3 ≡ true)
    × (is_principal (rules_of declared) 5 4 ≡ false)

-- the faults of computation rules: a symbol rule; `(n : Nat) (n == O : Nat) : S n == O : Nat`, `(n : Nat) : n == O : Nat`,
-- `(m : Nat) (n : Nat) : S m == n : Nat`
abbrev pub AreComputationFaults : Type 0
AreComputationFaults = (computation_of 1 rule_nought ≡ Err NotEquation)
    × (computation_of 17 (equates (a_term 0 natural ∷ an_equation 1 (m 0) nought natural ∷ []) (successor (m 0)) nought natural) ≡ Err (EquationPremise 2))
    × (computation_of 17 (equates (a_term 0 natural ∷ []) (m 0) nought natural) ≡ Err BadLeft)
    × (computation_of 17 (equates (a_term 0 natural ∷ a_term 1 natural ∷ []) (successor (m 0)) (m 1) natural) ≡ Err (Undetermined 2))

-- the faults of extensionality rules: an equation of types; `(O == O : Nat) (x : Unit) (y : Unit) : x == y : Unit`,
-- `(x : Unit) (y : Unit) : y == x : Unit`, `(n : Nat) (x : Unit) (y : Unit) : x == y : Unit`
abbrev pub AreExtensionalityFaults : Type 0
AreExtensionalityFaults = (extensionality_of 14 rule_number ≡ Err NotEquation)
    × (extensionality_of 17 (equates (an_equation 0 nought nought natural ∷ a_term 1 unit ∷ a_term 2 unit ∷ []) (m 1) (m 2) unit) ≡ Err (EquationPremise 1))
    × (extensionality_of 17 (equates (a_term 0 unit ∷ a_term 1 unit ∷ []) (m 1) (m 0) unit) ≡ Err BadLeft)
    × (extensionality_of 17 (equates (a_term 0 natural ∷ a_term 1 unit ∷ a_term 2 unit ∷ []) (m 1) (m 2) unit) ≡ Err (Undetermined 1))

-- Equations.

-- `plus(S(O), S(O)) == S(S(O)) : Nat`
abbrev pub OneAndOne : Type 0
OneAndOne = terms_are_equal declarations (rules_of declared) (plus (successor nought) (successor nought)) natural (successor (successor nought)) natural (spent 0) ≡ (Ok true, spent 15)

-- not where `plusS` is not declared
abbrev pub NotWithoutTheRule : Type 0
NotWithoutTheRule = terms_are_equal declarations (rules_of (add_computation no_rules 8 rule_plus_nought)) (plus (successor nought) (successor nought)) natural (successor (successor nought)) natural (spent 0) ≡ (Ok false, spent 7)

-- two variables of type Unit are equal, by its extensionality rule
abbrev pub UnitIsTrivial : Type 0
UnitIsTrivial = terms_are_equal declarations (rules_of declared) (free 0) unit (free 1) unit (spent 0) ≡ (Ok true, spent 3)

-- `lam(Nat, {x} Nat, {x} app(Nat, {x} Nat, f, x)) == f : Pi(Nat, {x} Nat)`, by the rule for functions and beta
abbrev pub FunctionsAreExtensional : Type 0
FunctionsAreExtensional = terms_are_equal declarations (rules_of declared) (lambda natural natural (application natural natural (free 2) (bound 0))) (product natural natural) (free 2) (product natural natural) (spent 0) ≡ (Ok true, spent 13)

-- not for `lam(Nat, {x} Nat, {x} O)`
abbrev pub ConstantIsAnother : Type 0
ConstantIsAnother = terms_are_equal declarations (rules_of declared) (lambda natural natural nought) (product natural natural) (free 2) (product natural natural) (spent 0) ≡ (Ok false, spent 12)

-- `?(plus(O, O)) == ?(O) : Nat` for the metavariable, term by term
abbrev pub MetavariableAtEqualTerms : Type 0
MetavariableAtEqualTerms = terms_are_equal declarations (rules_of declared) (meta 0 (also (plus nought nought) no_terms)) natural (meta 0 (also nought no_terms)) natural (spent 0) ≡ (Ok true, spent 13)

-- `Pi(Number, {x} Number) == Pi(Nat, {x} Nat)`, argument by argument
abbrev pub ProductsOfNumbers : Type 0
ProductsOfNumbers = types_are_equal declarations (rules_of declared) (product number number) (product natural natural) (spent 0) ≡ (Ok true, spent 15)

-- Normal forms.

-- that of `plus(S(O), S(O))` is `S(plus(O, S(O)))`, since the argument of `S` is not principal
abbrev pub OneAndOneIsNormal : Type 0
OneAndOneIsNormal = normal_form declarations (rules_of declared) (plus (successor nought) (successor nought)) (spent 0) ≡ (Ok (successor (plus nought (successor nought))), spent 3)

-- `app(Nat, {x} Nat, lam(Number, {x} Nat, {x} S(x)), O)` computes, since the types at which it stands are equal
abbrev pub BetaAtEqualTypes : Type 0
BetaAtEqualTypes = normal_form declarations (rules_of declared) (application natural natural (lambda number natural (successor (bound 0))) nought) (spent 0) ≡ (Ok (successor nought), spent 20)

-- a rule that loops spends all units
abbrev pub LoopEnds : Type 0
LoopEnds = normal_form declarations (rules_of declared) loop (spent 0) ≡ (Err Spent, spent 1000)
