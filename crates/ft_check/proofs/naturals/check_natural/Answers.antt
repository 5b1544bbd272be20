use Rattle.std.proofs.Common.{◌≡◌, ◌<◌, Some, length, sym, ap, ◌∙◌, subst}
use Rattle.std.specs.Prelude.{option_map}
use Rattle.std.proofs.lemmas.Option.{same_Some}
use Rattle.ft_theory.specs.Expressions.{Expression}
use Rattle.ft_theory.specs.Statements.{equal_types, has_type, plain}
use Rattle.ft_items.specs.Equal.{equal_statements}
use Rattle.ft_items.specs.Good.{reason_of_result}
use Rattle.ft_items.specs.Rows.{natural}
use Rattle.ft_items.specs.Store.{Assertion}
use Rattle.ft_placing.specs.Applied.{is_left}
use Rattle.ft_steps.specs.Parts.{statement_in, PartsBelow}
use Rattle.ft_syntax.specs.Table.{tree}
use Rattle.ft_check.specs.Earlier.{declared_before}
use Rattle.ft_check.specs.Entries.{entry_in}
use Rattle.ft_check.specs.Judging.{stated}
use Rattle.ft_check.proofs.Concluded.{tested_reason}
use Rattle.ft_check.proofs.Telling.{natural_tested}
use Rattle.ft_check.proofs.naturals.check_natural.Goals as goal

pub left_of-left-requires-clause-y : goal.left_of-left-requires-clause-y
left_of-left-requires-clause-y c = subst (λ ts. PartsBelow (length ts) c.parts-claimed.result) (sym c.terms.ensures) (c.parts-claimed.ensures.below (length c.args.items.now.trees) c.requires)

pub left_of-left-requires-clause-ty : goal.left_of-left-requires-clause-ty
left_of-left-requires-clause-ty c =
    let T = c.args.items.now.trees in
    subst (λ ts. c.in-Some-sides_of.sides.ty < length ts) (sym c.terms.ensures) (c.in-Some-sides_of.ensures.below (length T) (c.parts.ensures.below (length T) c.in-Some.ensures.below)).2

pub is_natural-requires-clause-e : goal.is_natural-requires-clause-e
is_natural-requires-clause-e c =
    let T = c.args.items.now.trees in
    (c.in-Some-sides_of.ensures.below (length T) (c.parts.ensures.below (length T) c.in-Some.ensures.below)).0

pub returns-in-Some-2 : goal.returns-in-Some-2
returns-in-Some-2 c = λ b t g h.
    let T = c.args.items.now.trees in
    let D = declared_before c.args.i c.args.items.now.items in
    let E = stated T c.args.found t in
    let y = (entry_in T c.args.found).statement in
    let S = c.in-Some-sides_of.sides in
    let same : entry_in T c.in-Some.named ≡ b = same_Some _ _ (sym (ap (option_map (entry_in T)) c.in-Some.is) ∙ c.entry_before.ensures.entry ∙ h) in
    let typed : plain (has_type (tree T S.left) (tree T S.ty)) ≡ b.statement = c.in-Some-sides_of.ensures.some T ∙ c.parts.ensures.is T ∙ ap (λ (a : Assertion). a.statement) same in
    tested_reason (natural D b.statement) y b.set E c.in-Some-2.is_concluded c.in_ok-is_natural.field-0 _
    (natural_tested T D (tree T S.left) (tree T S.ty) b.statement y c.left_of-left.result c.in_ok-is_natural.field-0 typed
    (λ N. subst (λ ts. (N : Expression) → is_left ts N c.left_of-left.result ≡ equal_statements (plain (equal_types N (tree ts S.ty))) (statement_in ts c.parts-claimed.result)) c.terms.ensures c.left_of-left.ensures.is N
    ∙ ap (equal_statements (plain (equal_types N (tree T S.ty)))) (c.parts-claimed.ensures.is T))
    (c.in_ok-is_natural.ensures g))
    c.in-Some-2.is
    (λ x w. c.against_test.ensures T x t w ∙ ap (λ S. reason_of_result (Some x) S E) (c.set.ensures T ∙ ap (λ (a : Assertion). a.set) same))
