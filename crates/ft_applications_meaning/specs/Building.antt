-- What a command means over the rules before it: which expressions are built, what they claim, and which rule is declared.
use Rattle.std.specs.Prelude.{ℕ, zero, suc, ◌+◌, Bool, true, cond, nat_lt, ◌&&◌, List, [], ◌∷◌, ◌++◌, map, length, Option, Some, None, option_map, option_and_then}
use Rattle.ft_theory.specs.Expressions.{Expression, symbol}
use Rattle.ft_theory.specs.Small.{is_small}
use Rattle.ft_theory.specs.Statements.{Claim, is_type, type_goal, term_goal, Statement, plain, fill_goal}
use Rattle.ft_theory.specs.Rules.{Rule}
use Rattle.ft_items.specs.Equal.{fit_all, heads}
use Rattle.ft_items.specs.Rows.{when}
use Rattle.ft_items.specs.Good.{equal_names, is_new}
use Rattle.ft_applications_meaning.specs.declared.syntax.Application.{Application}
use Rattle.ft_applications_meaning.specs.declared.syntax.Application.TheOpen.{Application-F}
use Rattle.ft_applications_meaning.specs.declared.syntax.Application.TheFolds.{fold-Application}
use Rattle.ft_applications_meaning.specs.declared.syntax.Premise.{Premise}
use Rattle.ft_applications_meaning.specs.declared.syntax.Premise.TheVariants as premise
use Rattle.ft_applications_meaning.specs.declared.syntax.Conclusion.{Conclusion}
use Rattle.ft_applications_meaning.specs.declared.syntax.Conclusion.TheVariants as conclusion

-- a rule with its name
pub record Declaration : Type 0 where
  pub name : List ℕ
  pub rule : Rule

-- the rules, without their names: a theory
abbrev pub theory : List Declaration → List Rule
theory ds = map (λ d. d.rule) ds

-- the names of the rules, in their order
abbrev pub names : List Declaration → List (List ℕ)
names ds = map (λ d. d.name) ds

-- the first rule of a name, with its number, counted from k
abbrev pub first_named : ℕ → List Declaration → List ℕ → Option (ℕ × Rule)
first_named k [] n = None
first_named k (d ∷ ds) n = cond (equal_names d.name n) (Some (k, d.rule)) (first_named (suc k) ds n)

-- all of them, where all are there
abbrev pub all_of : {A : Type 0} → List (Option A) → Option (List A)
all_of [] = Some []
all_of (None ∷ os) = None
all_of (Some a ∷ os) = option_map (λ as'. a ∷ as') (all_of os)

-- the claims as theses without domains
abbrev pub plains : List Claim → List Statement
plains cs = map plain cs

-- The rule at arguments: as many as it has premises, a type for a type premise, a term of exactly the premise's type for a
-- term premise. What is formed is small.
abbrev pub rule_at_arguments : ℕ × Rule → List Claim → Option Claim
rule_at_arguments r cs =
    when (fit_all (λ b. b) r.1.premises (plains cs) && is_small (symbol r.0 (heads (plains cs)))) (fill_goal r.1.conclusion (symbol r.0 (heads (plains cs))))

-- a name with arguments that have claims: the first rule of the name, at them
abbrev pub claim_of_layer : List Declaration → Application-F (Option Claim) → Option Claim
claim_of_layer ds (Application-F.Apply n os) = option_and_then (λ r. option_and_then (rule_at_arguments r) (all_of os)) (first_named zero ds n)

-- what an expression claims over the rules; None where it is not built over them
abbrev pub claim_of : List Declaration → Application → Option Claim
claim_of ds a = fold-Application (Option Claim) (claim_of_layer ds) a

-- each is true
abbrev pub all_true : List Bool → Bool
all_true [] = true
all_true (b ∷ bs) = b && all_true bs

-- the name is none of the taken ones, and neither are those in the arguments
abbrev pub avoids_in_layer : List (List ℕ) → Application-F Bool → Bool
avoids_in_layer taken (Application-F.Apply n bs) = is_new taken n && all_true bs

-- no name in the expression is one of the taken ones
abbrev pub avoids : List (List ℕ) → Application → Bool
avoids taken a = fold-Application Bool (avoids_in_layer taken) a

-- the type, where a type is claimed
abbrev pub type_claimed : Option Claim → Option Expression
type_claimed (Some (is_type A)) = Some A
type_claimed _ = None

-- the type that an expression of a rule is, whose names are none of the premises before it
abbrev pub type_of : List Declaration → List (List ℕ) → Application → Option Expression
type_of ds taken a = cond (avoids taken a) (type_claimed (claim_of ds a)) None

-- what a premise asks for
abbrev pub goal_of_premise : List Declaration → List (List ℕ) → Premise → Option Claim
goal_of_premise ds taken (premise.Type n) = Some type_goal
goal_of_premise ds taken (premise.Term n a) = option_map term_goal (type_of ds taken a)

-- the name of a premise
abbrev pub name_of_premise : Premise → List ℕ
name_of_premise (premise.Type n) = n
name_of_premise (premise.Term n a) = n

-- the premise's goal for the metavariable m, before further premises
abbrev pub before_premises : ℕ → Option (List (ℕ × Statement)) → Option Claim → Option (List (ℕ × Statement))
before_premises m qs g = option_and_then (λ g. option_map (λ qs. (m, plain g) ∷ qs) qs) g

-- the premises of a rule, whose metavariables are numbered from m; their names differ
abbrev pub premises_of : List Declaration → ℕ → List (List ℕ) → List Premise → Option (List (ℕ × Statement))
premises_of ds m taken [] = Some []
premises_of ds m taken (p ∷ ps) =
    cond (is_new taken (name_of_premise p)) (before_premises m (premises_of ds (suc m) (taken ++ name_of_premise p ∷ []) ps) (goal_of_premise ds taken p)) None

-- what a rule concludes
abbrev pub goal_of_conclusion : List Declaration → List (List ℕ) → Conclusion → Option Claim
goal_of_conclusion ds taken conclusion.Type = Some type_goal
goal_of_conclusion ds taken (conclusion.Term a) = option_map term_goal (type_of ds taken a)

-- the names of the premises
abbrev pub premise_names : List Premise → List (List ℕ)
premise_names ps = map name_of_premise ps

-- how many metavariables the rules have, which are numbered from 0 in the order of the rules
abbrev pub metavariable_count : List Declaration → ℕ
metavariable_count [] = zero
metavariable_count (d ∷ ds) = length d.rule.premises + metavariable_count ds

-- a rule by its premises and its conclusion
abbrev pub rule_by : Option (List (ℕ × Statement)) → Option Claim → Option Rule
rule_by qs g = option_and_then (λ qs. option_map (λ g. record { premises = qs; conclusion = g }) g) qs

-- the rule that a command declares
abbrev pub rule_of : List Declaration → List Premise → Conclusion → Option Rule
rule_of ds ps c = rule_by (premises_of ds (metavariable_count ds) [] ps) (goal_of_conclusion ds (premise_names ps) c)

-- the rule that a command declares: it is built, and there are fewer than 65,536 rules before it
abbrev pub declared : List Declaration → List Premise → Conclusion → Option Rule
declared ds ps c = cond (nat_lt (length ds) 65536) (rule_of ds ps c) None

-- The rules after one more rule of this name. The first rule of a name counts, so a second one adds none.
abbrev pub with_rule : List Declaration → List ℕ → Rule → List Declaration
with_rule ds n R = cond (is_new (names ds) n) (ds ++ record { name = n; rule = R } ∷ []) ds
