use Rattle.std.proofs.Common.{rules, ◌≡◌, ◌∙◌, true, false}
use Rattle.std.specs.Str.{bytes_eq}
use Rattle.ft_types.proofs.Seen.{found_at, other_at}
use Rattle.ft_types.proofs.checker.is_among.Goals as goal

pub returns-then-eq : goal.returns-then-eq
returns-then-eq c =
    let same : bytes_eq c.args.name.now c.other-item.result ≡ true = search rules in
    found_at c.args.names.now c.loop-other.other-index c.other-item.result c.args.name.now c.other-item.is c.loop-other-test.true same ∙ c.loop-other.invariant

pub loop-other-preserved : goal.loop-other-preserved
loop-other-preserved c =
    let other : bytes_eq c.args.name.now c.other-item.result ≡ false = search rules in
    other_at c.args.names.now c.loop-other.other-index c.other-item.result c.args.name.now c.other-item.is c.loop-other-test.true other ∙ c.loop-other.invariant
