use Rattle.std.proofs.Common.{rules, ◌≡◌, ◌≢◌, ◌-◌, Some, length, sym, ap, ◌∙◌}
use Rattle.std.specs.Prelude.{option_map}
use Rattle.std.proofs.lemmas.Option.{same_Some}
use Rattle.ft_items.specs.Good.{reason_of_result}
use Rattle.ft_items.specs.Rows.{argument}
use Rattle.ft_items.specs.Store.{Assertion}
use Rattle.ft_placing.specs.Telling.{head_told}
use Rattle.ft_syntax.specs.Table.{tree}
use Rattle.ft_check.specs.Earlier.{declared_before}
use Rattle.ft_check.specs.Entries.{entry_in}
use Rattle.ft_check.specs.Judging.{stated}
use Rattle.ft_check.proofs.Concluded.{tested_reason}
use Rattle.ft_check.proofs.Telling.{argument_tested, later_place}
use Rattle.ft_check.proofs.arguments.check_arg.Goals as goal

pub is_argument-requires-clause-e : goal.is_argument-requires-clause-e
is_argument-requires-clause-e c = c.in-Some-plain_head.ensures.below (length c.args.items.now.trees) (c.parts.ensures.below (length c.args.items.now.trees) c.in-Some.ensures.below)

pub returns-in-Some-2 : goal.returns-in-Some-2
returns-in-Some-2 c = λ b t g h k.
    let T = c.args.items.now.trees in
    let D = declared_before c.args.i c.args.items.now.items in
    let E = stated T c.args.found t in
    let y = (entry_in T c.args.found).statement in
    let later : c.args.place ≢ 0 = search rules in
    let same : entry_in T c.in-Some.named ≡ b = same_Some _ _ (sym (ap (option_map (entry_in T)) c.in-Some.is) ∙ c.entry_before.ensures.entry ∙ h) in
    let told : Some (tree T c.in-Some-plain_head.e) ≡ head_told b.statement =
    sym (ap (option_map (tree T)) c.in-Some-plain_head.is) ∙ c.plain_head.ensures.is T ∙ ap head_told (c.parts.ensures.is T ∙ ap (λ (a : Assertion). a.statement) same) in
    tested_reason (argument D c.args.place b.statement) y b.set E c.in-Some-2.is_concluded c.in_ok-is_argument.field-0 _
    (argument_tested D c.args.place (c.args.place - 1) (tree T c.in-Some-plain_head.e) b.statement y c.in_ok-is_argument.field-0 told (later_place c.args.place later) (c.in_ok-is_argument.ensures g k))
    c.in-Some-2.is
    (λ x w. c.against_test.ensures T x t w ∙ ap (λ S. reason_of_result (Some x) S E) (c.set.ensures T ∙ ap (λ (a : Assertion). a.set) same))
