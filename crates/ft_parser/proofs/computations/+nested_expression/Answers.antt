use Rattle.std.proofs.Common.{◌≡◌, ◌∙◌, sym, ap, Err, arith}
use Rattle.ft_grammar.specs.Rules.{expression}
use Rattle.ft_grammar.specs.Reading.{level}
use Rattle.ft_common.proofs.Turns.{deeper}
use Rattle.ft_parser.proofs.Turns.{none_left}
use Rattle.ft_parser.proofs.computations.+nested_expression.Goals as goal

pub returns-then-depth-eq0 : goal.returns-then-depth-eq0
returns-then-depth-eq0 t c _ =
    let none : c.args.depth ≡ 0 = omega arith in
    none_left expression c.args.depth none c.args.tokens.now ∙ ap (λ e. Err (e, c.args.tokens.now)) (sym c.too_nested.ensures)

pub returns : goal.returns
returns t c = rw (deeper (λ n. level n expression c.args.tokens.now) c.args.depth (omega arith)) c.level.ensures
