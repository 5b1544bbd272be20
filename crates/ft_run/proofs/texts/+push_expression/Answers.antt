use Rattle.std.proofs.Common.{◌≡◌, ◌≢◌, ◌≤◌, ◌+◌, ◌-◌, ℕ, Some, length, slice_get, subst, ◌∙◌, add-one, arith, rules}
use Rattle.ft_syntax.specs.Arguments.{arguments_of}
use Rattle.ft_syntax.specs.Table.{tree}
use Rattle.ft_run.specs.Claiming.{names_known}
use Rattle.ft_run.proofs.Printing.{written_more, written_part, written_ok, written_err, any_err}
use Rattle.ft_run.proofs.texts.+push_expression.Goals as goal

pub loop-i-preserved : goal.loop-i-preserved
loop-i-preserved t c =
    let T = tree c.args.terms.now c.args.e in
    let i : ℕ = c.loop-i.i in
    let back : i + 1 - 1 ≡ i = omega arith in
    let x = tree c.args.terms.now c.argument.result in
    let g : slice_get (arguments_of T) i ≡ Some (0, Some x) = subst (λ k. slice_get (arguments_of T) k ≡ Some (0, Some x)) back c.argument.ensures.argument in
    rw add-one (written_more (names_known c.args.known.now) T i x c.before-in-loop-i.result.now c.args.out.now c.loop-i.out c.push_str.new.self c.push_expression.new.out
    c.loop-i.invariant g c.before-in-loop-i.ensures.first c.before-in-loop-i.ensures.further c.in_ok-push_str.ensures.ok c.in_ok-push_expression.ensures.ok)

pub returns-in_err-push_expression-clause-err : goal.returns-in_err-push_expression-clause-err
returns-in_err-push_expression-clause-err t c =
    let T = tree c.args.terms.now c.args.e in
    let i : ℕ = c.loop-i.i in
    let back : i + 1 - 1 ≡ i = omega arith in
    let x = tree c.args.terms.now c.argument.result in
    let g : slice_get (arguments_of T) i ≡ Some (0, Some x) = subst (λ k. slice_get (arguments_of T) k ≡ Some (0, Some x)) back c.argument.ensures.argument in
    any_err c.from_residual-in_err-push_expression.result (written_part (names_known c.args.known.now) T i x c.before-in-loop-i.result.now c.args.out.now c.loop-i.out c.push_str.new.self c.push_expression.new.out
    c.loop-i.invariant g c.before-in-loop-i.ensures.first c.before-in-loop-i.ensures.further c.in_ok-push_str.ensures.ok c.in_err-push_expression.ensures.err)

pub returns-clause-ok : goal.returns-clause-ok
returns-clause-ok t c =
    let T = tree c.args.terms.now c.args.e in
    let some : length (arguments_of T) ≢ 0 = λ z. c.if-count-eq0.false (c.count-count.ensures ∙ z) in
    let past : length (arguments_of T) ≤ c.loop-i.i = search rules in
    written_ok c.push_str-2.result (names_known c.args.known.now) T c.loop-i.i c.args.out.now c.loop-i.out c.push_str-2.new.self c.loop-i.invariant some past c.push_str-2.ensures.ok

pub returns-clause-err : goal.returns-clause-err
returns-clause-err t c =
    written_err c.push_str-2.result (names_known c.args.known.now) (tree c.args.terms.now c.args.e) c.loop-i.i c.args.out.now c.loop-i.out c.push_str-2.new.self c.loop-i.invariant c.push_str-2.ensures.err
