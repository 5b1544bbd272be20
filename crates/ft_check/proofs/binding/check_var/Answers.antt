use Rattle.std.proofs.Common.{◌≡◌, ◌∙◌, Some, length, sym, ap, subst, take}
use Rattle.ft_theory.specs.Expressions.{free}
use Rattle.ft_theory.specs.Statements.{has_type, plain}
use Rattle.ft_items.specs.Equal.{equal_statements}
use Rattle.ft_items.specs.Good.{reason_of_result}
use Rattle.ft_items.specs.Sets.{union}
use Rattle.ft_items.specs.Store.{store_of}
use Rattle.ft_syntax.specs.Table.{tree}
use Rattle.ft_steps.specs.Parts.{statement_in, PartsBelow}
use Rattle.ft_check.specs.Entries.{entry_in, with_step}
use Rattle.ft_check.specs.Typing.{IsTyped}
use Rattle.ft_check.proofs.Bindings.{as_some}
use Rattle.ft_check.proofs.Concluded.{variable_stands, variable_reason}
use Rattle.ft_check.proofs.binding.check_var.Goals as goal

pub is_variable-is_concluded-requires-clause-y : goal.is_variable-is_concluded-requires-clause-y
is_variable-is_concluded-requires-clause-y c = subst (λ ts. PartsBelow (length ts) c.parts-stated.result) (sym c.terms.ensures) (c.parts-stated.ensures.below (length c.args.items.now.trees) c.requires)

pub returns : goal.returns
returns c = λ d t g e.
    let T = c.args.items.now.trees in
    let W = store_of (take c.args.i c.args.items.now.items) in
    let E = with_step (entry_in T c.args.found) t in
    let x = plain (has_type (free c.args.v) (tree T c.in-Some.typed.ty)) in
    let s = variable_stands W.declarations c.args.v d e in
    let read : IsTyped T c.in-Some.typed d.1 = as_some (λ x. IsTyped T x d.1) c.typed_before.result c.in-Some.typed (c.typed_before.ensures.is d.1 g s.1) c.in-Some.is in
    variable_reason c.args.v d (tree T c.in-Some.typed.ty) c.in-Some.typed.set.now E _ s.0 read.type read.set
    (c.against_test.ensures T x t
    (subst (λ ts. c.is_variable-is_concluded.result ≡ equal_statements (plain (has_type (free c.args.v) (tree ts c.in-Some.typed.ty))) (statement_in ts c.parts-stated.result)) c.terms.ensures c.is_variable-is_concluded.ensures ∙ ap (equal_statements x) (c.parts-stated.ensures.is T))
    ∙ ap (λ S. reason_of_result (Some x) S E) (c.in_ok-set.ensures ∙ ap (λ R. union R c.in-Some.typed.set.now) c.in_ok-single.ensures))
