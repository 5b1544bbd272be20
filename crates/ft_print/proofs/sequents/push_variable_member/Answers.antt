use Rattle.std.proofs.Common.{◌≡◌, ◌∙◌, sym, length}
use Rattle.ft_items.specs.Store.{variables_in}
use Rattle.ft_syntax.specs.Table.{tree}
use Rattle.ft_judge.specs.Meaning.{thesis_in}
use Rattle.ft_kernel.specs.State.{variable_numbered}
use Rattle.ft_print.proofs.Naming.{found_is, found_numbered, not_found}
use Rattle.ft_print.proofs.Members.{type_there, plain_type, variable_written, no_variable}
use Rattle.ft_print.proofs.sequents.push_variable_member.Goals as goal

pub var-requires : goal.var-requires
var-requires c = found_numbered (variables_in c.args.k.now.items) c.args.v c.in-Some.found (sym c.var_numbered.ensures ∙ c.in-Some.is)

pub thesis_of-requires : goal.thesis_of-requires
thesis_of-requires c = type_there c.args.k.now c.in-Some.found c.var.result.now.name c.var.result.now.ty c.requires.good c.var.ensures.variable

pub type_of-requires : goal.type_of-requires
type_of-requires c = plain_type c.args.k.now c.in-Some.found c.var.result.now.name c.var.result.now.ty c.thesis_of.result.now c.requires.good c.var.ensures.variable c.thesis_of.ensures.thesis

pub push_of_type-requires-clause-below : goal.push_of_type-requires-clause-below
push_of_type-requires-clause-below c = c.type_of.ensures.below (length c.args.k.now.trees) c.thesis_of.ensures.below

pub returns-in_ok-push_variable-in-Some : goal.returns-in_ok-push_variable-in-Some
returns-in_ok-push_variable-in-Some c =
    let s = c.args.k.now in
    let x = c.var.result.now in
    let same : c.in-Some.found ≡ c.args.v = found_is (variable_numbered (variables_in s.items) c.args.v) c.args.v c.in-Some.found (sym c.var_numbered.ensures ∙ c.in-Some.is) in
    record {
      ok = variable_written c.push_of_type.result s c.args.variables.now c.args.v c.in-Some.found x.name x.ty (thesis_in s.trees c.thesis_of.result.now) (tree s.trees c.type_of.result) c.args.out.now c.push_variable.new.out c.push_of_type.new.out
          c.requires.good same c.var.ensures.variable c.thesis_of.ensures.thesis (c.type_of.ensures.is s.trees) c.in_ok-push_variable-in-Some.ensures.ok c.push_of_type.ensures.ok;
    }

pub returns-in-None : goal.returns-in-None
returns-in-None c =
    record { ok = no_variable c.args.k.now.items c.args.variables.now c.args.v c.args.out.now c.requires.good (not_found (variable_numbered (variables_in c.args.k.now.items) c.args.v) c.args.v (sym c.var_numbered.ensures ∙ c.in-None.is)) }
