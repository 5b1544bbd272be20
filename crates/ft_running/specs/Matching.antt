-- Parts of a match.
use Rattle.std.specs.Prelude.{ℕ, Bool, false, nat_eq, Option, Some, None}
use Rattle.ft_theory.specs.Expressions.{Expression, symbol}
use Rattle.ft_items.specs.Rows.{when}
use Rattle.ft_items.specs.Store.{Assertion}
use Rattle.ft_reference.specs.Nucleus as reference
use Rattle.ft_grammar.specs.declared.syntax.Named.{Named}
use Rattle.ft_judge.specs.declared.judgement.Form.{Form}
use Rattle.ft_judge.specs.declared.judgement.Form.TheVariants as form
use Rattle.ft_meaning.specs.Matching.{is_applied, matches}
use Rattle.ft_meaning.specs.Trees.{Pattern}
use Rattle.ft_meaning.specs.Values.{Value, judgement, nil, none, Environment, Run, ◌>>=◌}
use Rattle.ft_meaning.specs.Values.{pure, halt, stuck, nucleus, the_rule}

-- a list with a first member against a value that is none
abbrev pub no_member : Value → Run (Option Environment)
no_member nil = pure None
no_member v = halt stuck

-- an option that holds something against a value that is none
abbrev pub nothing_held : Value → Run (Option Environment)
nothing_held none = pure None
nothing_held v = halt stuck

-- the judgement that the value is, where it is the symbol of the name at arguments
abbrev pub symbol_applied : Named → Value → Run (Option Assertion)
symbol_applied n (judgement j) = the_rule n.name >>= λ r. pure (when (is_applied r.0 j.statement) j)
symbol_applied n v = halt stuck

-- the argument of an application at a place
abbrev pub argument_of : ℕ → ℕ → Assertion → Run Assertion
argument_of at i j = nucleus at (λ W. reference.argument W i j)

-- a pattern against it
abbrev pub matches_argument : ℕ → Pattern → Assertion → ℕ → Environment → Run (Option Environment)
matches_argument at p j i G = argument_of at i j >>= λ a. matches at p (judgement a) G

-- the test for an expression that is the symbol at arguments
abbrev pub is_symbol : ℕ → Option Expression → Bool
is_symbol s (Some (symbol r a)) = nat_eq s r
is_symbol s o = false

-- the type or the term of a form
abbrev pub head_in : Form → Option ℕ
head_in (form.Ty A) = Some A
head_in (form.Tm t A) = Some t
head_in x = None
