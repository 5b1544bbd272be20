-- The words of the command line, by clap's definition of what a simple command takes.
use Rattle.std.specs.Prelude.{◌+◌, ◌*◌, ◌-◌, ◌&&◌, ◌==◌, ℕ, Bool, true, not, List, [], ◌∷◌, length, Option, Some, None, if◌then◌else◌, nat_le, codes, option_and_then, option_map}
use Rattle.std.specs.List.{list_all}
use Rattle.std.specs.Str.{bytes_eq}
use Rattle.clap.specs.Words.{App, Row, Rule, Text, first_of, fault_of, new_app, new_rule, subcommand_of, with_rule, with_subcommand}
use Rattle.clap.specs.Simple.{on_top, Shape}
use Rattle.clap.specs.declared.builder.ArgAction.TheVariants.{SetTrue}
use Rattle.ft_answers.specs.declared.wanted.Wanted.{Wanted}
use Rattle.ft_answers.specs.declared.wanted.Wanted.TheVariants.{Run, Export, Check}

-- the option `--budget`, with one value
abbrev pub budget : Rule
budget = record (new_rule (codes "budget")) { long = Some (codes "budget") }

-- the flag `--one-thread`
abbrev pub one_thread : Rule
one_thread = record (new_rule (codes "one-thread")) { long = Some (codes "one-thread"); action = Some SetTrue }

-- a word of its own with one option
abbrev pub word : Text → Rule → Shape
word name rule = (with_rule (new_app name) rule).top

-- a command that wants one of its words, and has none for help and version
abbrev pub bare : Text → App
bare name = on_top (λ s. record s {
  no_binary_name = true;
  disable_help_flag = true;
  disable_version_flag = true;
  disable_help_subcommand = true;
  subcommand_required = true;
}) (new_app name)

-- the program's command
abbrev pub andromeda : App
andromeda = with_subcommand (with_subcommand (with_subcommand (bare (codes "andromeda"))
    (word (codes "run") budget)) (word (codes "export") budget)) (word (codes "check") one_thread)

abbrev pub is_digit : ℕ → Bool
is_digit b = nat_le 48 b && nat_le b 57

-- the number that digits spell after a number before them
abbrev pub value_from : ℕ → Text → ℕ
value_from n [] = n
value_from n (d ∷ ds) = value_from (10 * n + (d - 48)) ds

-- The number that a text spells in decimal digits, without a sign and without a leading zero, where it is from 1 to `most`.
abbrev pub number_in : ℕ → Text → Option ℕ
number_in most [] = None
number_in most (d ∷ ds) = if list_all is_digit (d ∷ ds) && (not (d == 48) && nat_le (value_from 0 (d ∷ ds)) most) then Some (value_from 0 (d ∷ ds)) else None

-- the units of the option's value, or those where it is not given
abbrev pub units_of : Option Text → Option ℕ
units_of None = Some 1000000
units_of (Some text) = number_in 1000000000 text

-- what a word asks for with these values of options
abbrev pub wanted_by : Text → List Row → Option Wanted
wanted_by name rows =
    if bytes_eq name (codes "run") then option_map (λ n. Run n) (units_of (first_of (codes "budget") rows))
    else (if bytes_eq name (codes "export") then option_map (λ n. Export n) (units_of (first_of (codes "budget") rows))
    else option_map (λ t. Check (bytes_eq t (codes "true"))) (first_of (codes "one-thread") rows))

-- What the words ask for; nothing where they are not accepted: where the command does not take them, or a number is none.
abbrev pub wanted_of : List Text → Option Wanted
wanted_of words = if length (fault_of andromeda words) == 0
    then option_and_then (λ p. wanted_by p.0 p.1) (subcommand_of andromeda words) else None
