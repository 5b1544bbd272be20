use Rattle.std.proofs.Common.{◌≡◌, ◌∙◌, ◌<◌, ◌≤◌, length, Some, ap, sym, subst, arith}
use Rattle.std.specs.Prelude.{Err}
use Rattle.ft_items.specs.Store.{declared_by, metavariables_in}
use Rattle.ft_items.specs.Rows.{natural_type}
use Rattle.ft_syntax.specs.Arguments.{arguments_of}
use Rattle.ft_syntax.specs.Table.{tree}
use Rattle.ft_parts.specs.Types.{FindsType, opened_by}
use Rattle.ft_parts.proofs.Declared.{below_some, no_metavariable, metavariable_lacks, metavariable_short, metavariable_type, meta_terms}
use Rattle.ft_parts.proofs.Told.{finds_none, finds_big}
use Rattle.ft_parts.proofs.types.type_of_metavariable.Goals as goal

pub returns-in-None-clause-finds : goal.returns-in-None-clause-finds
returns-in-None-clause-finds c =
    let s = c.args.k.now in
    let x = tree s.trees c.args.e in
    finds_none s.trees (natural_type (declared_by s.items) x) (no_metavariable s x c.args.m c.met_numbered.result c.terms-terms.ensures.good c.requires.metavariable c.met_numbered.ensures c.in-None.is)

pub returns-in-None-type_of_boundary-clause-finds : goal.returns-in-None-type_of_boundary-clause-finds
returns-in-None-type_of_boundary-clause-finds c =
    let s = c.args.k.now in
    let x = tree s.trees c.args.e in
    let same : c.in-Some.met ≡ c.args.m = below_some c.args.m (length (metavariables_in s.items)) c.in-Some.met (sym c.met_numbered.ensures ∙ c.in-Some.is) in
    finds_none s.trees (natural_type (declared_by s.items) x) (metavariable_lacks s x c.args.m c.in-Some.met c.type_of_boundary.result c.requires.metavariable same c.type_of_boundary.ensures.ty c.in-None-type_of_boundary.is)

pub returns-then-count-domains-clause-finds : goal.returns-then-count-domains-clause-finds
returns-then-count-domains-clause-finds c =
    let s = c.args.k.now in
    let x = tree s.trees c.args.e in
    let p = c.in-Some-type_of_boundary.found in
    let same : c.in-Some.met ≡ c.args.m = below_some c.args.m (length (metavariables_in s.items)) c.in-Some.met (sym c.met_numbered.ensures ∙ c.in-Some.is) in
    let count : c.count.result ≡ length (arguments_of x) = c.count.ensures ∙ ap (λ ts. length (arguments_of (tree ts c.args.e))) c.terms.ensures.terms in
    let less : length (arguments_of x) < p.1 = omega (arith, c.if-count-domains.true, count) in
    finds_none s.trees (natural_type (declared_by s.items) x) (metavariable_short s x c.args.m c.in-Some.met p.0 p.1 c.type_of_boundary.result c.requires.metavariable same c.type_of_boundary.ensures.ty c.in-Some-type_of_boundary.is less)

pub open_all-requires-clause-terms : goal.open_all-requires-clause-terms
open_all-requires-clause-terms c = meta_terms (tree c.args.k.now.trees c.args.e) c.args.m c.requires.metavariable

pub returns-in-Ok-clause-finds : goal.returns-in-Ok-clause-finds
returns-in-Ok-clause-finds c =
    let s = c.args.k.now in
    let x = tree s.trees c.args.e in
    let p = c.in-Some-type_of_boundary.found in
    let same : c.in-Some.met ≡ c.args.m = below_some c.args.m (length (metavariables_in s.items)) c.in-Some.met (sym c.met_numbered.ensures ∙ c.in-Some.is) in
    let count : c.count.result ≡ length (arguments_of x) = c.count.ensures ∙ ap (λ ts. length (arguments_of (tree ts c.args.e))) c.terms.ensures.terms in
    let enough : p.1 ≤ length (arguments_of x) = omega (arith, c.if-count-domains.false, count) in
    metavariable_type s x c.args.m c.in-Some.met p.0 p.1 c.type_of_boundary.result c.requires.metavariable same c.type_of_boundary.ensures.ty c.in-Some-type_of_boundary.is enough ∙ ap Some (sym c.in-Ok.ensures.tree)

pub returns-in-Err-clause-finds : goal.returns-in-Err-clause-finds
returns-in-Err-clause-finds c =
    let s = c.args.k.now in
    let x = tree s.trees c.args.e in
    let p = c.in-Some-type_of_boundary.found in
    let same : c.in-Some.met ≡ c.args.m = below_some c.args.m (length (metavariables_in s.items)) c.in-Some.met (sym c.met_numbered.ensures ∙ c.in-Some.is) in
    let count : c.count.result ≡ length (arguments_of x) = c.count.ensures ∙ ap (λ ts. length (arguments_of (tree ts c.args.e))) c.terms.ensures.terms in
    let enough : p.1 ≤ length (arguments_of x) = omega (arith, c.if-count-domains.false, count) in
    subst (λ f. FindsType c.open_all.new.k.trees (natural_type (declared_by s.items) x) (Err f)) (sym c.from.ensures)
    (finds_big c.open_all.new.k.trees (natural_type (declared_by s.items) x) (opened_by p.1 (arguments_of x) (tree s.trees p.0)) c.in-Err.fault
    (metavariable_type s x c.args.m c.in-Some.met p.0 p.1 c.type_of_boundary.result c.requires.metavariable same c.type_of_boundary.ensures.ty c.in-Some-type_of_boundary.is enough) c.in-Err.ensures.too_big)
