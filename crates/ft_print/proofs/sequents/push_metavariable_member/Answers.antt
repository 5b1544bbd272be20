use Rattle.std.proofs.Common.{◌≡◌, ◌∙◌, sym, length}
use Rattle.ft_items.specs.Store.{metavariables_in}
use Rattle.ft_judge.specs.Meaning.{boundary_in}
use Rattle.ft_print.proofs.Naming.{below_is, past_bound}
use Rattle.ft_print.proofs.Members.{boundary_there, metavariable_written, no_metavariable}
use Rattle.ft_print.proofs.sequents.push_metavariable_member.Goals as goal

pub boundary_at-requires : goal.boundary_at-requires
boundary_at-requires c = boundary_there c.args.k.now c.in-Some.found c.met.result.now.name c.met.result.now.boundary c.requires.good c.met.ensures.metavariable

pub returns-in_ok-push_str-in-Some : goal.returns-in_ok-push_str-in-Some
returns-in_ok-push_str-in-Some c =
    let s = c.args.k.now in
    let x = c.met.result.now in
    let same : c.in-Some.found ≡ c.args.m = below_is c.args.m (length (metavariables_in s.items)) c.in-Some.found (sym c.met_numbered.ensures ∙ c.in-Some.is) in
    record {
      ok = metavariable_written c.push_boundary.result s c.args.variables.now c.args.m c.in-Some.found x.name x.boundary (boundary_in s.trees c.boundary_at.result.now) c.args.out.now c.push_metavariable.new.out c.push_str.new.self c.push_boundary.new.out
          c.requires.good same c.met.ensures.metavariable c.boundary_at.ensures.boundary c.in_ok-push_metavariable-in-Some.ensures.ok c.in_ok-push_str-in-Some.ensures.ok c.push_boundary.ensures.ok;
    }

pub returns-in-None : goal.returns-in-None
returns-in-None c =
    record { ok = no_metavariable c.args.k.now.items c.args.variables.now c.args.m c.args.out.now c.requires.good (past_bound c.args.m (length (metavariables_in c.args.k.now.items)) (sym c.met_numbered.ensures ∙ c.in-None.is)) }
