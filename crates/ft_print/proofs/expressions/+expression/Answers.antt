use Rattle.std.proofs.Common.{◌≡◌, ◌∙◌, ◌++◌, ◌+◌, ◌-◌, ◌^◌, ◌<◌, sym, ap, subst, ℕ, Some, slice_get, add-one, arith, rules}
use Rattle.std.proofs.lemmas.Result.{on_ok_weaker}
use Rattle.ft_items.specs.Store.{declared_by}
use Rattle.ft_syntax.specs.Arguments.{node_of, arguments_of}
use Rattle.ft_syntax.specs.Table.{tree, argument_in}
use Rattle.ft_print.specs.Arguments.{body_text, HasRoom}
use Rattle.ft_print.proofs.ByArguments.{symbol_written, meta_written, argument_written, few_binders, binders_fit, room_for_body, body_within}
use Rattle.ft_print.proofs.expressions.+expression.Goals as goal

pub push_arguments-push_binders-requires : goal.push_arguments-push_binders-requires
push_arguments-push_binders-requires t c =
    let ts = c.args.k.now.trees in
    let e = c.args.e in
    let i : ℕ = c.loop-i.i in
    let r = c.arg-arg.result in
    let back : i + 1 - 1 ≡ i = omega arith in
    let g : slice_get (arguments_of (tree ts e)) i ≡ Some (argument_in ts r) =
    subst (λ us. slice_get (arguments_of (tree us e)) i ≡ Some (argument_in us r)) c.terms-terms.ensures.terms (subst (λ k. slice_get (arguments_of (tree c.terms-terms.result.now e)) k ≡ Some (argument_in c.terms-terms.result.now r)) back c.arg-arg.ensures.argument) in
    binders_fit c.args.n r.binders e c.requires.room (few_binders (tree ts e) i (argument_in ts r) c.requires.small g)

pub push_arguments-overflow_add-n : goal.push_arguments-overflow_add-n
push_arguments-overflow_add-n t c =
    let ts = c.args.k.now.trees in
    let e = c.args.e in
    let i : ℕ = c.loop-i.i in
    let r = c.arg-arg.result in
    let back : i + 1 - 1 ≡ i = omega arith in
    let g : slice_get (arguments_of (tree ts e)) i ≡ Some (argument_in ts r) =
    subst (λ us. slice_get (arguments_of (tree us e)) i ≡ Some (argument_in us r)) c.terms-terms.ensures.terms (subst (λ k. slice_get (arguments_of (tree c.terms-terms.result.now e)) k ≡ Some (argument_in c.terms-terms.result.now r)) back c.arg-arg.ensures.argument) in
    let fits : c.args.n + c.from.result < 2 ^ 128 = subst (λ m. c.args.n + m < 2 ^ 128) (sym c.from.ensures) (binders_fit c.args.n r.binders e c.requires.room (few_binders (tree ts e) i (argument_in ts r) c.requires.small g)) in
    first_of (omega arith, search rules, grind arith)

pub push_arguments-push_body-requires : goal.push_arguments-push_body-requires
push_arguments-push_body-requires t c =
    let ts = c.args.k.now.trees in
    let e = c.args.e in
    let i : ℕ = c.loop-i.i in
    let r = c.arg-arg.result in
    let back : i + 1 - 1 ≡ i = omega arith in
    let g : slice_get (arguments_of (tree ts e)) i ≡ Some (argument_in ts r) =
    subst (λ us. slice_get (arguments_of (tree us e)) i ≡ Some (argument_in us r)) c.terms-terms.ensures.terms (subst (λ k. slice_get (arguments_of (tree c.terms-terms.result.now e)) k ≡ Some (argument_in c.terms-terms.result.now r)) back c.arg-arg.ensures.argument) in
    let room = subst (λ m. Rattle.std.specs.Prelude.IfSome r.body (λ b. HasRoom (c.args.n + m) b)) (sym c.from.ensures) (room_for_body c.args.n r.binders e r.body c.requires.room (few_binders (tree ts e) i (argument_in ts r) c.requires.small g) c.arg-arg.ensures.below) in
    (search rules, (c.requires.good, (body_within e _ r.body c.requires.within c.arg-arg.ensures.below, (room, c.requires.ascending))))

pub push_arguments-loop-i-preserved : goal.push_arguments-loop-i-preserved
push_arguments-loop-i-preserved t c =
    let ts = c.args.k.now.trees in
    let W = declared_by c.args.k.now.items in
    let vs = c.args.variables.now in
    let e = c.args.e in
    let i : ℕ = c.loop-i.i in
    let r = c.arg-arg.result in
    let back : i + 1 - 1 ≡ i = omega arith in
    let g : slice_get (arguments_of (tree ts e)) i ≡ Some (argument_in ts r) =
    subst (λ us. slice_get (arguments_of (tree us e)) i ≡ Some (argument_in us r)) c.terms-terms.ensures.terms (subst (λ k. slice_get (arguments_of (tree c.terms-terms.result.now e)) k ≡ Some (argument_in c.terms-terms.result.now r)) back c.arg-arg.ensures.argument) in
    rw add-one (argument_written W vs c.args.n (arguments_of (tree ts e)) i (argument_in ts r) c.before-in-loop-i.result.now c.args.out.now c.loop-i.out c.push_str.new.self c.push_binders.new.out c.push_body.new.out
    g c.before-in-loop-i.ensures.first c.before-in-loop-i.ensures.further c.loop-i.invariant c.in_ok-push_str.ensures.ok c.in_ok-push_binders.ensures.ok
    (c.in_ok-push_body.ensures.ok ∙ ap (λ m. c.push_binders.new.out ++ body_text W vs (c.args.n + m) (argument_in ts r).1) c.from.ensures))

pub push_part-returns-in_ok-push_symbol-in-Sym : goal.push_part-returns-in_ok-push_symbol-in-Sym
push_part-returns-in_ok-push_symbol-in-Sym t c =
    let W = declared_by c.args.k.now.items in
    let T = tree c.args.k.now.trees c.args.e in
    record {
      ok = on_ok_weaker c.push_arguments.result (symbol_written W c.args.variables.now c.args.n T c.in-Sym.s c.args.out.now c.push_symbol.new.out c.push_arguments.new.out
          (sym c.in-Sym.is ∙ c.node.ensures.node ∙ ap (λ us. node_of (tree us c.args.e)) c.terms.ensures.terms) c.in_ok-push_symbol-in-Sym.ensures.ok) c.push_arguments.ensures.ok;
    }

pub push_part-returns-in_ok-push_metavariable-in-Meta : goal.push_part-returns-in_ok-push_metavariable-in-Meta
push_part-returns-in_ok-push_metavariable-in-Meta t c =
    let W = declared_by c.args.k.now.items in
    let T = tree c.args.k.now.trees c.args.e in
    record {
      ok = on_ok_weaker c.push_arguments-in-Meta.result (meta_written W c.args.variables.now c.args.n T c.in-Meta.m c.args.out.now c.push_metavariable.new.out c.push_arguments-in-Meta.new.out
          (sym c.in-Meta.is ∙ c.node.ensures.node ∙ ap (λ us. node_of (tree us c.args.e)) c.terms.ensures.terms) c.in_ok-push_metavariable-in-Meta.ensures.ok) c.push_arguments-in-Meta.ensures.ok;
    }
