use Rattle.std.proofs.Common.{◌≡◌, ◌+◌, ◌-◌, ◌*◌, ◌∙◌, ap, arith, drop}
use Rattle.std.specs.Prelude.{slice_index}
use Rattle.std.proofs.lemmas.List.{drop_more, get_or_default}
use Rattle.ft_grammar.specs.Fronts.{decimal_value}
use Rattle.ft_lexer.proofs.Fronts.{value_above}
use Rattle.ft_lexer.proofs.front.value.Goals as goal

pub returns-then-value-gt-MAX_SOURCE_NUMBER : goal.returns-then-value-gt-MAX_SOURCE_NUMBER
returns-then-value-gt-MAX_SOURCE_NUMBER c =
    let rest = c.args.rest.now in
    let i = c.loop-c.c-index in
    let item : c.c-item.result ≡ slice_index rest i =
    c.c-item.is ∙ get_or_default rest i c.c-item.result 0 c.loop-c-test.true in
    let next : 10 * c.loop-c.value + (slice_index rest i - 48) ≡ 10 * c.loop-c.value + c.digit.result =
    omega (arith, item, c.digit.ensures) in
    let whole : decimal_value c.args.first rest ≡ decimal_value (10 * c.loop-c.value + c.digit.result) (drop (i + 1) rest) =
    c.loop-c.invariant.value ∙ ap (decimal_value c.loop-c.value) (drop_more rest i 0 c.loop-c-test.true)
    ∙ ap (λ n. decimal_value n (drop (i + 1) rest)) next in
    rw (value_above c.args.first (10 * c.loop-c.value + c.digit.result) rest (drop (i + 1) rest) whole c.if-value-gt-MAX_SOURCE_NUMBER.true)
