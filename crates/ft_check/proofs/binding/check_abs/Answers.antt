use Rattle.std.proofs.Common.{◌≡◌, ◌∙◌, Some, length, sym, ap, ap₂, subst, take}
use Rattle.ft_theory.specs.Statements.{abstracted, close_statement}
use Rattle.ft_items.specs.Equal.{equal_statements}
use Rattle.ft_items.specs.Good.{reason_of_result}
use Rattle.ft_items.specs.Sets.{union, var, without}
use Rattle.ft_items.specs.Store.{entry_named, store_of}
use Rattle.ft_syntax.specs.Table.{tree}
use Rattle.ft_steps.specs.Parts.{statement_in, PartsBelow}
use Rattle.ft_check.specs.Entries.{entry_in, with_step}
use Rattle.ft_check.specs.Typing.{IsTyped}
use Rattle.ft_check.proofs.Bindings.{as_some}
use Rattle.ft_check.proofs.Concluded.{variable_stands, abstracted_reason}
use Rattle.ft_check.proofs.binding.check_abs.Goals as goal

pub is_abstracted-requires-clause-x : goal.is_abstracted-requires-clause-x
is_abstracted-requires-clause-x c = subst (λ ts. PartsBelow (length ts) c.parts-first.result) (sym c.terms.ensures) (c.parts-first.ensures.below (length c.args.items.now.trees) c.in-Some-entry_before.ensures.below)

pub is_abstracted-requires-clause-y : goal.is_abstracted-requires-clause-y
is_abstracted-requires-clause-y c = subst (λ ts. PartsBelow (length ts) c.parts-stated.result) (sym c.terms.ensures) (c.parts-stated.ensures.below (length c.args.items.now.trees) c.requires)

pub returns : goal.returns
returns c = λ d a t g e f.
    let T = c.args.items.now.trees in
    let W = store_of (take c.args.i c.args.items.now.items) in
    let E = with_step (entry_in T c.args.found) t in
    let b = entry_in T c.in-Some-entry_before.named in
    let x = abstracted (tree T c.in-Some.typed.ty) (close_statement c.args.v b.statement) in
    let s = variable_stands W.declarations c.args.v d e in
    let read : IsTyped T c.in-Some.typed d.1 = as_some (λ x. IsTyped T x d.1) c.typed_before.result c.in-Some.typed (c.typed_before.ensures.is d.1 g s.1) c.in-Some.is in
    abstracted_reason W.declarations.variables c.args.v d b a (entry_named W c.args.p) (tree T c.in-Some.typed.ty) c.in-Some.typed.set.now c.depends.result E _ c.in-Some-entry_before.ensures.entry f s.0 read.type read.set
    (c.depends.ensures g ∙ ap (Rattle.ft_items.specs.Rows.depends W.declarations.variables c.args.v) (c.set.ensures T)) c.if-depends.false
    (c.against_test.ensures T x t
    (subst (λ ts. c.in_ok-is_concluded.is_concluded ≡ equal_statements (abstracted (tree ts c.in-Some.typed.ty) (close_statement c.args.v (statement_in ts c.parts-first.result))) (statement_in ts c.parts-stated.result)) c.terms.ensures c.in_ok-is_concluded.ensures
    ∙ ap₂ (λ y z. equal_statements (abstracted (tree T c.in-Some.typed.ty) (close_statement c.args.v y)) z) (c.parts-first.ensures.is T) (c.parts-stated.ensures.is T))
    ∙ ap (λ S. reason_of_result (Some x) S E) (c.in_ok-set.ensures ∙ ap (union c.in-Some.typed.set.now) (c.in_ok-others.ensures ∙ ap (without (var c.args.v)) (c.set-2.ensures T))))
