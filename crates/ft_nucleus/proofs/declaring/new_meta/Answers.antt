use Rattle.std.proofs.Common.{◌≡◌, ◌∙◌, ap, sym}
use Rattle.ft_items.specs.Item.{metavariable}
use Rattle.ft_reference.specs.Declare.{first_variable}
use Rattle.ft_kernel.specs.State.{with_item}
use Rattle.ft_calls.proofs.Declared.{metavariable_allowed, metavariable_declared, metavariable_refused, metavariable_there}
use Rattle.ft_nucleus.proofs.Abstracting.{set_is}
use Rattle.ft_nucleus.proofs.declaring.new_meta.Goals as goal

pub push_met-requires : goal.push_met-requires
push_met-requires c =
    let s = c.args.k.now in
    let a = c.requires.boundary.0 in
    metavariable_allowed s c.in_ok-name.name c.args.b a c.requires.boundary.1 c.requires.boundary.2
    (ap first_variable (set_is s c.args.b a c.set_of.result.now c.requires.boundary.1 c.set_of.ensures ∙ sym c.atoms.ensures.atoms) ∙ sym c.first_variable.ensures ∙ c.in-None.is)

pub returns-clause-declares : goal.returns-clause-declares
returns-clause-declares c =
    let s = c.args.k.now in
    let a = c.requires.boundary.0 in
    metavariable_declared s c.push_met.new.self c.args.name.now c.args.b c.in_ok-push_met.field-0 a c.terms-terms.ensures.good c.requires.boundary.1 c.requires.boundary.2
    (ap first_variable (set_is s c.args.b a c.set_of.result.now c.requires.boundary.1 c.set_of.ensures ∙ sym c.atoms.ensures.atoms) ∙ sym c.first_variable.ensures ∙ c.in-None.is)
    c.in_ok-push_met.ensures.number (c.in_ok-push_met.ensures.list ∙ ap (λ n. with_item s (metavariable n c.args.b)) c.in_ok-name.ensures)

pub returns-clause-metavariable : goal.returns-clause-metavariable
returns-clause-metavariable c =
    metavariable_there c.args.k.now c.push_met.new.self c.in_ok-name.name c.args.b c.in_ok-push_met.field-0 c.in_ok-push_met.ensures.number c.in_ok-push_met.ensures.list
