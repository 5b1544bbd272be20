use Rattle.std.proofs.Common.{◌≡◌, ◌-◌, length, []}
use Rattle.ft_grammar.specs.Forms.{begins_pattern_atom}
use Rattle.ft_grammar.specs.Grammar.{atomic_pattern}
use Rattle.ft_grammar.specs.Reading.{level, read, more_from}
use Rattle.ft_parser.proofs.patterns.Patterns.atomic_patterns.Given as goal

abbrev pub invariant-loop-turn : goal.invariant-loop-turn
invariant-loop-turn t l =
    let one = read (level l.self.depth) atomic_pattern in
    more_from begins_pattern_atom one (length l.fn.tokens) [] l.fn.tokens ≡ more_from begins_pattern_atom one (l._turn-end - l._turn) l.found l.tokens
