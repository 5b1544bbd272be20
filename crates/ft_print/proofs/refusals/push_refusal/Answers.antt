use Rattle.std.proofs.Common.{ap, codes}
use Rattle.ft_items.specs.Sets.{var}
use Rattle.ft_items.specs.Store.{declared_by}
use Rattle.ft_meaning.specs.Faults.{atom_text, differ_text, refusal_text}
use Rattle.ft_calls.specs.Answers.{difference_in, refusal_in}
use Rattle.ft_print.proofs.Joining.{two_parts}
use Rattle.ft_print.proofs.refusals.push_refusal.Goals as goal

pub returns-in_ok-push_str-in-TypeDiffers : goal.returns-in_ok-push_str-in-TypeDiffers
returns-in_ok-push_str-in-TypeDiffers c =
    let W = declared_by c.args.k.now.items in
    let ts = c.args.k.now.trees in
    record {
      ok = two_parts c.push_differ.result c.args.out.now (codes "TypeDiffers") (differ_text W (difference_in ts c.in-TypeDiffers.d)) c.push_str-in-TypeDiffers.new.self c.push_differ.new.out (refusal_text W (refusal_in ts c.args.r.now))
          (ap (λ r. refusal_text W (refusal_in ts r)) c.in-TypeDiffers.is) c.in_ok-push_str-in-TypeDiffers.ensures.ok c.push_differ.ensures.ok;
    }

pub returns-in_ok-push_str-in-SidesDiffer : goal.returns-in_ok-push_str-in-SidesDiffer
returns-in_ok-push_str-in-SidesDiffer c =
    let W = declared_by c.args.k.now.items in
    let ts = c.args.k.now.trees in
    record {
      ok = two_parts c.push_differ-in-SidesDiffer.result c.args.out.now (codes "SidesDiffer") (differ_text W (difference_in ts c.in-SidesDiffer.d)) c.push_str-in-SidesDiffer.new.self c.push_differ-in-SidesDiffer.new.out (refusal_text W (refusal_in ts c.args.r.now))
          (ap (λ r. refusal_text W (refusal_in ts r)) c.in-SidesDiffer.is) c.in_ok-push_str-in-SidesDiffer.ensures.ok c.push_differ-in-SidesDiffer.ensures.ok;
    }

pub returns-in_ok-push_str-in-DependentVariable : goal.returns-in_ok-push_str-in-DependentVariable
returns-in_ok-push_str-in-DependentVariable c =
    let W = declared_by c.args.k.now.items in
    let ts = c.args.k.now.trees in
    record {
      ok = two_parts c.push_atom.result c.args.out.now (codes "DependentVariable: ") (atom_text W (var c.in-DependentVariable.v)) c.push_str-in-DependentVariable.new.self c.push_atom.new.out (refusal_text W (refusal_in ts c.args.r.now))
          (ap (λ r. refusal_text W (refusal_in ts r)) c.in-DependentVariable.is) c.in_ok-push_str-in-DependentVariable.ensures.ok c.push_atom.ensures.ok;
    }

pub returns-in_ok-push_str-in-OpenBoundary : goal.returns-in_ok-push_str-in-OpenBoundary
returns-in_ok-push_str-in-OpenBoundary c =
    let W = declared_by c.args.k.now.items in
    let ts = c.args.k.now.trees in
    record {
      ok = two_parts c.push_atom-in-OpenBoundary.result c.args.out.now (codes "OpenBoundary: ") (atom_text W (var c.in-OpenBoundary.v)) c.push_str-in-OpenBoundary.new.self c.push_atom-in-OpenBoundary.new.out (refusal_text W (refusal_in ts c.args.r.now))
          (ap (λ r. refusal_text W (refusal_in ts r)) c.in-OpenBoundary.is) c.in_ok-push_str-in-OpenBoundary.ensures.ok c.push_atom-in-OpenBoundary.ensures.ok;
    }
