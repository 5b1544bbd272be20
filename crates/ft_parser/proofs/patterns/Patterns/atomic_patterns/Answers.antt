use Rattle.std.proofs.Common.{rules, arith}
use Rattle.std.proofs.lemmas.Grind.{common_steps}
use Rattle.ft_grammar.specs.Forms.{begins_pattern_atom}
use Rattle.ft_grammar.specs.Grammar.{atomic_pattern}
use Rattle.ft_grammar.specs.Reading.{level, read, more_from}
use Rattle.ft_common.proofs.Turns.{one_more}
use Rattle.ft_parser.proofs.patterns.Patterns.atomic_patterns.Goals as goal

pub loop-turn-preserved : goal.loop-turn-preserved
unfolding more_from
loop-turn-preserved g c =
    let e = one_more (λ n. more_from begins_pattern_atom (read (level c.args.self.now.depth) atomic_pattern) n c.loop-turn.found c.loop-turn.tokens) _ c.loop-turn._turn c.loop-turn-test.true c.loop-turn.invariant in
    first_of (search rules, grind (arith, common_steps))
