use Rattle.std.proofs.Common.{◌≡◌, ap, arith}
use Rattle.ft_applications.specs.Reading.{expression}
use Rattle.ft_common.proofs.Turns.{deeper}
use Rattle.ft_applications.proofs.reader.+expression.Goals as goal

pub returns-then-depth-eq0 : goal.returns-then-depth-eq0
unfolding expression
returns-then-depth-eq0 t c _ = let none : c.args.depth ≡ 0 = omega arith in
    ap (λ n. expression n c.args.tokens.now) none

pub returns : goal.returns
unfolding expression
returns t c = rw (deeper (λ n. expression n c.args.tokens.now) c.args.depth (omega arith)) c.level.ensures
