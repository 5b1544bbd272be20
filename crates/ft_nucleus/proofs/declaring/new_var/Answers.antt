use Rattle.std.proofs.Common.{◌≡◌, ◌∙◌, ap, true}
use Rattle.ft_theory.specs.Statements.{plain, is_type}
use Rattle.ft_items.specs.Item.{variable}
use Rattle.ft_items.specs.Good.{is_plain_type}
use Rattle.ft_syntax.specs.Table.{tree}
use Rattle.ft_kernel.specs.State.{with_item}
use Rattle.ft_calls.proofs.Entries.{stated_is}
use Rattle.ft_calls.proofs.Declared.{variable_allowed, variable_declared, declared_there}
use Rattle.ft_nucleus.proofs.declaring.new_var.Goals as goal

pub push_var-requires-clause-allowed : goal.push_var-requires-clause-allowed
push_var-requires-clause-allowed c =
    let a = c.requires.thesis.0 in
    let s = c.args.k.now in
    variable_allowed s c.args.number c.in_ok-name.name c.args.ty a c.terms-terms.ensures.good c.requires.next c.requires.thesis.1
    (ap is_plain_type (stated_is s c.args.ty a (plain (is_type (tree s.trees c.in-Ok.a))) c.requires.thesis.1 c.in-Ok.ensures.statement))

pub returns-clause-declares : goal.returns-clause-declares
returns-clause-declares c =
    let a = c.requires.thesis.0 in
    let s = c.args.k.now in
    variable_declared s c.push_var.new.self c.args.number c.args.name.now c.args.ty c.in_ok-push_var.field-0 a c.requires.thesis.1
    (ap is_plain_type (stated_is s c.args.ty a (plain (is_type (tree s.trees c.in-Ok.a))) c.requires.thesis.1 c.in-Ok.ensures.statement))
    c.in_ok-push_var.ensures.number (c.in_ok-push_var.ensures.list ∙ ap (λ n. with_item s (variable c.args.number n c.args.ty)) c.in_ok-name.ensures)

pub returns-clause-variable : goal.returns-clause-variable
returns-clause-variable c =
    declared_there c.args.k.now c.push_var.new.self c.args.number c.in_ok-name.name c.args.ty c.in_ok-push_var.field-0 c.in_ok-push_var.ensures.number c.in_ok-push_var.ensures.list
