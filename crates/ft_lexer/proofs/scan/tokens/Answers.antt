use Rattle.std.proofs.Common.{rules, ◌≡◌, ◌∙◌, ap, arith}
use Rattle.std.specs.Str.{chars}
use Rattle.std.proofs.lemmas.Result.{IfOk-weaker}
use Rattle.std.proofs.lemmas.Str.{chars_from_encodes}
use Rattle.ft_grammar.specs.Tokens.{width}
use Rattle.ft_lexer.proofs.Steps.{width_chars}
use Rattle.ft_lexer.proofs.Pieces.{is_ended_of}
use Rattle.ft_lexer.proofs.scan.tokens.Goals as goal

pub scan_of-requires : goal.scan_of-requires
scan_of-requires c =
    let text = c.args.text.now in
    let same : c.deref.result.now ≡ chars text = search (rules, chars_from_encodes) in
    let w = ap width same ∙ width_chars text c.utf8.text in
    omega (arith, w)

pub returns-clause-tokens : goal.returns-clause-tokens
returns-clause-tokens c =
    let same : c.deref.result.now ≡ chars c.args.text.now = search (rules, chars_from_encodes) in
    rw (← same) c.scan_of.ensures

pub returns-clause-ended : goal.returns-clause-ended
returns-clause-ended c = IfOk-weaker c.scan_of.result _ _ (λ v is. is_ended_of v.items c.deref.result.now is) c.scan_of.ensures
