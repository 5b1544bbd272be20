-- Tests of what the numbers in a step name: None where a number names nothing.
use Rattle.std.specs.Prelude.{ℕ, ◌&&◌, not, Bool, true, Option, option_map, List}
use Rattle.ft_items.specs.Equal.{is_thesis}
use Rattle.ft_items.specs.Store.{Store, each, entry_named, variable_named, metavariable_named, rule_named, Resolved, with_two, Declarations}
use Rattle.ft_items.specs.Rows.{concludes_thesis}
use Rattle.ft_items.specs.Good.{all_theses, of_kind, same_truth}

-- the test that the entry is a thesis
abbrev pub thesis_named : Store → ℕ → Option Bool
thesis_named W p = option_map (λ a. is_thesis a.statement) (entry_named W p)

-- the test that the entry is a boundary
abbrev pub boundary_named : Store → ℕ → Option Bool
boundary_named W p = option_map (λ a. not (is_thesis a.statement)) (entry_named W p)

-- the test that the entry is of the kind that b tells: a thesis where it is true
abbrev pub kind_named : Bool → Store → ℕ → Option Bool
kind_named b W p = option_map (λ a. same_truth (is_thesis a.statement) b) (entry_named W p)

-- the test that each of the entries is a thesis
abbrev pub theses_named : Store → List ℕ → Option Bool
theses_named W ps = option_map all_theses (each (entry_named W) ps)

-- true, where the thing is there
abbrev pub entry_there : Store → ℕ → Option Bool
entry_there W p = option_map (λ a. true) (entry_named W p)

abbrev pub variable_there : Declarations → ℕ → Option Bool
variable_there W v = option_map (λ d. true) (variable_named W v)

abbrev pub metavariable_there : Declarations → ℕ → Option Bool
metavariable_there W m = option_map (λ d. true) (metavariable_named W m)

abbrev pub rule_there : Declarations → ℕ → Option Bool
rule_there W r = option_map (λ R. true) (rule_named W r)

-- both tests, where all is there
abbrev pub both : Option Bool → Option Bool → Option Bool
both x y = with_two ◌&&◌ x y

-- the test, where all is there, and one that names nothing
abbrev pub also : Option Bool → Bool → Option Bool
also x b = option_map (λ c. c && b) x

-- the test that a step has theses and boundaries where its row has them, and concludes what b tells: a thesis where it is true
abbrev pub kinds_right : Bool → Resolved → Bool
kinds_right b s = of_kind s && same_truth (concludes_thesis s) b
