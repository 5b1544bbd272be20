use Rattle.std.proofs.Common.{◌≡◌, ◌∙◌, sym, ap, refl, Bool, true, false, List, Err, arith}
use Rattle.ft_grammar.specs.declared.token.Token.{Token}
use Rattle.ft_grammar.specs.declared.fault.SyntaxFault.TheVariants.{TooNested}
use Rattle.ft_grammar.specs.Reading.{type_level, level, start_of}
use Rattle.ft_common.proofs.Turns.{deeper}
use Rattle.ft_parser.proofs.types.+nested_type.Goals as goal

none_left : (product : Bool) (ts : List Token) → type_level 0 product ts ≡ Err (TooNested (start_of ts), ts)
unfolding level
none_left true ts = refl
none_left false ts = refl

pub returns-then-depth-eq0 : goal.returns-then-depth-eq0
returns-then-depth-eq0 t c _ =
    let none : c.args.depth ≡ 0 = omega arith in
    ap (λ n. type_level n c.args.product c.args.tokens.now) none ∙ none_left c.args.product c.args.tokens.now
    ∙ ap (λ e. Err (e, c.args.tokens.now)) (sym c.too_nested.ensures)

pub returns : goal.returns
returns t c = rw (deeper (λ n. type_level n c.args.product c.args.tokens.now) c.args.depth (omega arith)) c.level.ensures
