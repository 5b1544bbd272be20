use Rattle.std.proofs.Common.{◌≡◌, ◌∙◌, ◌++◌, ◌+◌, ◌-◌, ap, sym, subst, ℕ, Some, slice_get, codes, add-one, arith, rules}
use Rattle.ft_items.specs.Texts.{NumberFits}
use Rattle.ft_syntax.specs.Arguments.{node_of, arguments_of}
use Rattle.ft_syntax.specs.Table.{tree, argument_in}
use Rattle.ft_export.specs.Arguments.{binders_text}
use Rattle.std.proofs.lemmas.Result.{on_ok_weaker}
use Rattle.ft_export.proofs.ByArguments.{symbol_written, meta_written, symbol_fits, meta_fits, fits_next, argument_written}
use Rattle.ft_export.proofs.expressions.+expression.Goals as goal

pub push_arguments-loop-i-preserved : goal.push_arguments-loop-i-preserved
push_arguments-loop-i-preserved t c =
    let T = tree c.args.terms.now c.args.e in
    let i : ℕ = c.loop-i.i in
    let x = argument_in c.args.terms.now c.arg-arg.result in
    let back : i + 1 - 1 ≡ i = omega arith in
    let g : slice_get (arguments_of T) i ≡ Some x = subst (λ k. slice_get (arguments_of T) k ≡ Some x) back c.arg-arg.ensures.argument in
    let n : NumberFits c.arg-arg.result.binders = search rules in
    rw add-one (record {
      out = argument_written (node_of T) (arguments_of T) i x c.comma_before.result.now (c.args.out.now ++ codes "(") c.loop-i.out c.push_str-in-loop-i.new.self c.push_binders.new.out c.push_body.new.out
          g c.comma_before.ensures.first c.comma_before.ensures.further c.loop-i.invariant.out c.in_ok-push_str-2.ensures.ok
          (c.in_ok-push_binders.ensures.ok ∙ ap (λ k. c.push_str-in-loop-i.new.self ++ binders_text k c.arg-arg.result.binders) c.node-node.ensures.node) c.in_ok-push_body.ensures.ok;
      fits = fits_next (arguments_of T) i x c.loop-i.invariant.fits g n c.in_ok-push_body.ensures.fits;
    })

pub push_expression-returns-in_ok-push_lettered-in-Sym-clause-ok : goal.push_expression-returns-in_ok-push_lettered-in-Sym-clause-ok
push_expression-returns-in_ok-push_lettered-in-Sym-clause-ok t c =
    on_ok_weaker c.push_arguments.result (symbol_written (tree c.args.terms.now c.args.e) c.in-Sym.s c.args.out.now c.push_lettered-in-Sym.new.out c.push_arguments.new.out
    (sym c.in-Sym.is ∙ c.node.ensures.node) c.in_ok-push_lettered-in-Sym.ensures.ok) c.push_arguments.ensures.ok

pub push_expression-returns-in_ok-push_lettered-in-Sym-clause-fits : goal.push_expression-returns-in_ok-push_lettered-in-Sym-clause-fits
push_expression-returns-in_ok-push_lettered-in-Sym-clause-fits t c =
    let n : NumberFits c.in-Sym.s = search rules in
    on_ok_weaker c.push_arguments.result (symbol_fits (tree c.args.terms.now c.args.e) c.in-Sym.s (sym c.in-Sym.is ∙ c.node.ensures.node) n) c.push_arguments.ensures.fits

pub push_expression-returns-in_ok-push_lettered-in-Meta-clause-ok : goal.push_expression-returns-in_ok-push_lettered-in-Meta-clause-ok
push_expression-returns-in_ok-push_lettered-in-Meta-clause-ok t c =
    on_ok_weaker c.push_arguments-in-Meta.result (meta_written (tree c.args.terms.now c.args.e) c.in-Meta.m c.args.out.now c.push_lettered-in-Meta.new.out c.push_arguments-in-Meta.new.out
    (sym c.in-Meta.is ∙ c.node.ensures.node) c.in_ok-push_lettered-in-Meta.ensures.ok) c.push_arguments-in-Meta.ensures.ok

pub push_expression-returns-in_ok-push_lettered-in-Meta-clause-fits : goal.push_expression-returns-in_ok-push_lettered-in-Meta-clause-fits
push_expression-returns-in_ok-push_lettered-in-Meta-clause-fits t c =
    let n : NumberFits c.in-Meta.m = search rules in
    on_ok_weaker c.push_arguments-in-Meta.result (meta_fits (tree c.args.terms.now c.args.e) c.in-Meta.m (sym c.in-Meta.is ∙ c.node.ensures.node) n) c.push_arguments-in-Meta.ensures.fits
