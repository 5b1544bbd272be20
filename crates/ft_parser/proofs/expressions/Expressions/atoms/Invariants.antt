use Rattle.std.proofs.Common.{◌≡◌, ◌-◌, length, []}
use Rattle.ft_grammar.specs.Forms.{begins_atom}
use Rattle.ft_grammar.specs.Grammar.{atom}
use Rattle.ft_grammar.specs.Reading.{level, read, more_from}
use Rattle.ft_parser.proofs.expressions.Expressions.atoms.Given as goal

abbrev pub invariant-loop-turn : goal.invariant-loop-turn
invariant-loop-turn t l =
    let one = read (level l.self.depth) atom in
    more_from begins_atom one (length l.fn.tokens) [] l.fn.tokens ≡ more_from begins_atom one (l._turn-end - l._turn) l.found l.tokens
