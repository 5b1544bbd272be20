-- What a rule at a place claims at arguments.
use Rattle.std.specs.Prelude.{ℕ, zero, suc, List, [], ◌∷◌, map, Option, option_and_then}
use Rattle.ft_theory.specs.Statements.{Claim, type_goal}
use Rattle.ft_theory.specs.Rules.{Rule}
use Rattle.ft_applications_meaning.specs.Building.{Declaration, first_named, rule_at_arguments}
use Rattle.ft_run.specs.declared.session.Known.{Known}

-- the names of the declared rules
abbrev pub names_known : List Known → List (List ℕ)
names_known ks = map (λ k. k.name) ks

-- the rule at a place; anything where there is none
abbrev pub rule_in : List Declaration → ℕ → Rule
rule_in [] k = record { premises = []; conclusion = type_goal }
rule_in (d ∷ ds) zero = d.rule
rule_in (d ∷ ds) (suc k) = rule_in ds k

-- what the rule at a place claims at arguments that have claims
abbrev pub at_place : List Declaration → ℕ → List Claim → Option Claim
at_place ds k cs = rule_at_arguments (k, rule_in ds k) cs

-- what the first rule of a name claims at arguments that have claims
abbrev pub named_at : List Declaration → List ℕ → List Claim → Option Claim
named_at ds n cs = option_and_then (λ r. rule_at_arguments r cs) (first_named zero ds n)
