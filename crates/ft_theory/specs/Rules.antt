-- Rules, theories, and instances of rules.
-- After Haselwarter and Bauer, "Finitary type theories with and without contexts".
use Rattle.std.specs.Prelude.{ℕ, zero, suc, Option, Some, None, cond, nat_eq, ◌≡◌, List, [], ◌∷◌, ◌++◌, ◌&&◌}
use Rattle.ft_theory.specs.Expressions.{Expression, bound, free, Arguments, no_arguments, with_body, dummy, Terms, no_terms, also, act}
use Rattle.ft_theory.specs.Statements.{Claim, has_type, equal_terms, Statement, plain, map_claim, act_statement, opened, domain, domain_count, fill, equate, IsObject, IsEquation}

-- A finite map is a list of numbers with what they have. The first entry of a number counts.
abbrev pub look_up : {A : Type 0} → List (ℕ × A) → ℕ → Option A
look_up [] v = None
look_up (p ∷ r) v = cond (nat_eq v p.0) (Some p.1) (look_up r v)

-- A map from metavariables to their boundaries, and one from free variables to their types.
abbrev pub BoundaryMap : Type 0
BoundaryMap = List (ℕ × Statement)

abbrev pub TypeMap : Type 0
TypeMap = List (ℕ × Expression)

-- A rule has premises, which are metavariables with their boundaries, and a conclusion, which is a goal without domains.
-- With an object goal it is the rule of the symbol that has its number, so that each symbol has exactly one rule; with an
-- equation goal it is an equation rule. A theory is a list of rules, and a rule's number is its place, counted from 0. The names
-- of the rules stand beside the theory, in the same order; no derivation depends on them.
pub record Rule : Type 0 where
  pub premises : BoundaryMap
  pub conclusion : Claim

-- the rule with a number
abbrev pub rule_at : List Rule → ℕ → Option Rule
rule_at [] r = None
rule_at (R ∷ T) zero = Some R
rule_at (R ∷ T) (suc r) = rule_at T r

-- BoundaryAfter R ps b: after its premises ps the rule has the boundary b. That is the next premise's, or the conclusion's after
-- all premises.
pub data BoundaryAfter (R : Rule) : BoundaryMap → Statement → Type 0 where
  next_premise : (ps qs : BoundaryMap) (m : ℕ) (b : Statement)
      → R.premises ≡ ps ++ ((m, b) ∷ qs) → BoundaryAfter R ps b
  its_conclusion : (ps : BoundaryMap) → R.premises ≡ ps → BoundaryAfter R ps (plain R.conclusion)

-- The instance that maps the premises' metavariables to the bodies of the arguments in their places. A metavariable is
-- replaced where it stands at as many terms as its argument has binders.
abbrev pub instance_of : BoundaryMap → Arguments → ℕ → ℕ → Option Expression
instance_of [] a m k = None
instance_of (p ∷ ps) no_arguments m k = None
instance_of (p ∷ ps) (with_body n e a) m k =
    cond (nat_eq m p.0 && nat_eq k n) (Some e) (instance_of ps a m k)
instance_of (p ∷ ps) (dummy n a) m k = instance_of ps a m k

-- the arguments are of the premises' kinds: as many, each with as many binders as its premise's boundary has domains, and a
-- dummy exactly for an equation
abbrev pub FitsPremises : BoundaryMap → Arguments → Type 0
FitsPremises [] no_arguments = Unit {0}
FitsPremises [] (with_body n e a) = ⊥
FitsPremises [] (dummy n a) = ⊥
FitsPremises (p ∷ ps) no_arguments = ⊥
FitsPremises (p ∷ ps) (with_body n e a) = (n ≡ domain_count p.1) × IsObject p.1 × FitsPremises ps a
FitsPremises (p ∷ ps) (dummy n a) = (n ≡ domain_count p.1) × IsEquation p.1 × FitsPremises ps a

-- The premises' boundaries at an instance, each filled with the argument in its place: what the instance of a rule asks. The
-- instance is that by all arguments, so a boundary stands at an instance by the very argument that fills it. That is no circle:
-- in a finitary theory a boundary mentions only premises before its own, and later arguments change nothing in it.
abbrev pub filled_premises : (ℕ → ℕ → Option Expression) → BoundaryMap → Arguments → List Statement
filled_premises i [] a = []
filled_premises i (p ∷ ps) no_arguments = []
filled_premises i (p ∷ ps) (with_body n e a) =
    fill (act_statement free i p.1) e ∷ filled_premises i ps a
filled_premises i (p ∷ ps) (dummy n a) =
    fill (act_statement free i p.1) (bound zero) ∷ filled_premises i ps a

-- for each object premise, the equation between the arguments of two instances, at the first instance of its boundary
abbrev pub equated_premises : (ℕ → ℕ → Option Expression) → BoundaryMap → Arguments → Arguments
    → List Statement
equated_premises i [] a b = []
equated_premises i (p ∷ ps) no_arguments b = []
equated_premises i (p ∷ ps) (with_body n e a) no_arguments = []
equated_premises i (p ∷ ps) (with_body n e a) (with_body l f b) =
    equate (act_statement free i p.1) e f ∷ equated_premises i ps a b
equated_premises i (p ∷ ps) (with_body n e a) (dummy l b) = []
equated_premises i (p ∷ ps) (dummy n a) no_arguments = []
equated_premises i (p ∷ ps) (dummy n a) (with_body l f b) = []
equated_premises i (p ∷ ps) (dummy n a) (dummy l b) = equated_premises i ps a b

-- the premises at arguments for them, each filled with its own
abbrev pub premises_at : BoundaryMap → Arguments → List Statement
premises_at ps a = filled_premises (instance_of ps a) ps a

-- for each object premise, the equation between the arguments in its place, at the first arguments
abbrev pub equations_at : BoundaryMap → Arguments → Arguments → List Statement
equations_at ps a b = equated_premises (instance_of ps a) ps a b

-- the conclusion at the instance of all premises by the arguments
abbrev pub conclusion_at : Rule → Arguments → Claim
conclusion_at R a = map_claim (act free (instance_of R.premises a)) R.conclusion

-- each term has the type of the domain in its place, with the terms before it for the domains before
abbrev pub term_typings : Statement → Terms → List Statement
term_typings x no_terms = []
term_typings x (also t a) = plain (has_type t (domain x)) ∷ term_typings (opened t x) a

-- each term of the first list equals that of the second, at the type of the domain in its place, with the first list's
-- terms before it for the domains before
abbrev pub term_equations : Statement → Terms → Terms → List Statement
term_equations x no_terms b = []
term_equations x (also s a) no_terms = []
term_equations x (also s a) (also t b) =
    plain (equal_terms s t (domain x)) ∷ term_equations (opened s x) a b
