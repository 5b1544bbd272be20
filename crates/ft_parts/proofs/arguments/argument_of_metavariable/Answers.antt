use Rattle.std.proofs.Common.{◌≡◌, ◌∙◌, ◌-◌, ◌<◌, Some, length, ap, ap₂, sym, subst, arith}
use Rattle.std.specs.Prelude.{slice_get, Err}
use Rattle.ft_theory.specs.Statements.{plain, has_type}
use Rattle.ft_items.specs.Store.{declared_by, metavariables_in, Declared, nth}
use Rattle.ft_items.specs.Rows.{arguments_of as arguments_by}
use Rattle.ft_reference.specs.Checks.{is_application}
use Rattle.ft_syntax.specs.Arguments.{arguments_of, node_of}
use Rattle.ft_syntax.specs.Table.{tree, argument_in, BodyBelow}
use Rattle.ft_syntax.specs.Laws.{tree_extends}
use Rattle.ft_syntax.specs.declared.syntax.Node.TheVariants.{Meta}
use Rattle.ft_judge.specs.Meaning.{thesis_in}
use Rattle.ft_parts.specs.Places.{FindsPlace, type_at_place}
use Rattle.ft_parts.proofs.Declared.{below_some, below_less, meta_terms}
use Rattle.ft_parts.proofs.Lines.{met_declared}
use Rattle.ft_parts.proofs.Opened.{no_dummy, term_there}
use Rattle.ft_parts.proofs.Found.{meta_applies, finds_past, finds_empty, no_meta_arguments, meta_count, meta_place, meta_big}
use Rattle.ft_parts.proofs.arguments.argument_of_metavariable.Goals as goal

pub returns-in-None-clause-finds : goal.returns-in-None-clause-finds
returns-in-None-clause-finds c =
    let s = c.args.k.now in
    let x = tree s.trees c.args.e in
    finds_empty s.trees x c.args.i (arguments_by (declared_by s.items) x) c.no_place.result (meta_applies x c.args.m c.requires.metavariable)
    (no_meta_arguments s x c.args.m c.met_numbered.result c.terms-terms.ensures.good c.requires.metavariable c.met_numbered.ensures c.in-None.is) c.no_place.ensures

pub returns-then-i-lt1-clause-finds : goal.returns-then-i-lt1-clause-finds
returns-then-i-lt1-clause-finds c =
    let s = c.args.k.now in
    let x = tree s.trees c.args.e in
    let less : c.args.m < length (metavariables_in s.items) = below_less c.args.m (length (metavariables_in s.items)) c.in-Some.met (sym c.met_numbered.ensures ∙ c.in-Some.is) in
    let d : (d : Declared) × (nth (declared_by s.items).metavariables c.args.m ≡ Some d) = met_declared s c.args.m c.terms-terms.ensures.good less in
    let here : c.count-given.result ≡ length (arguments_of x) = c.count-given.ensures ∙ ap (λ ts. length (arguments_of (tree ts c.args.e))) c.terms-terms.ensures.terms in
    finds_past s.trees x c.args.i c.count-given.result (arguments_by (declared_by s.items) x) c.no_place-then-i-lt1.result (meta_applies x c.args.m c.requires.metavariable)
    (meta_count (declared_by s.items) x c.args.m d.0 c.requires.metavariable d.1 ∙ sym here) c.then-i-lt1.either c.no_place-then-i-lt1.ensures

pub unreachable-requires : goal.unreachable-requires
unreachable-requires c =
    let s = c.args.k.now in
    let x = tree s.trees c.args.e in
    let a = c.arg-argument.result in
    let given : slice_get (arguments_of x) (c.args.i - 1) ≡ Some (argument_in s.trees a) = subst (λ ts. slice_get (arguments_of (tree ts c.args.e)) (c.args.i - 1) ≡ Some (argument_in ts a)) c.terms-terms.ensures.terms c.arg-argument.ensures.argument in
    no_dummy s.trees (arguments_of x) (c.args.i - 1) a (meta_terms x c.args.m c.requires.metavariable) given c.in-None-body.is

pub type_of_place-requires-clause-terms : goal.type_of_place-requires-clause-terms
type_of_place-requires-clause-terms c = meta_terms (tree c.args.k.now.trees c.args.e) c.args.m c.requires.metavariable

pub returns-in-Ok-clause-finds : goal.returns-in-Ok-clause-finds
returns-in-Ok-clause-finds c =
    let s = c.args.k.now in
    let t = c.type_of_place.new.k in
    let W = declared_by s.items in
    let x = tree s.trees c.args.e in
    let a = c.arg-argument.result in
    let m = c.in-Some.met in
    let b = c.in-Some-body.term in
    let terms = meta_terms x c.args.m c.requires.metavariable in
    let same : m ≡ c.args.m = below_some c.args.m (length (metavariables_in s.items)) m (sym c.met_numbered.ensures ∙ c.in-Some.is) in
    let node : node_of x ≡ Meta m = c.requires.metavariable ∙ ap Meta (sym same) in
    let less : m < length (metavariables_in s.items) = subst (λ m. m < length (metavariables_in s.items)) (sym same) (below_less c.args.m (length (metavariables_in s.items)) m (sym c.met_numbered.ensures ∙ c.in-Some.is)) in
    let d : (d : Declared) × (nth (declared_by s.items).metavariables m ≡ Some d) = met_declared s m c.terms-terms.ensures.good less in
    let given : slice_get (arguments_of x) (c.args.i - 1) ≡ Some (argument_in s.trees a) = subst (λ ts. slice_get (arguments_of (tree ts c.args.e)) (c.args.i - 1) ≡ Some (argument_in ts a)) c.terms-terms.ensures.terms c.arg-argument.ensures.argument in
    let there : slice_get (arguments_of x) (c.args.i - 1) ≡ Some (0, Some (tree s.trees b)) = term_there s.trees (arguments_of x) (c.args.i - 1) b a terms given c.in-Some-body.is in
    let low : b < c.args.e = subst (BodyBelow c.args.e) c.in-Some-body.is c.arg-argument.ensures.below in
    let within : b < length s.trees = omega (arith, low, c.requires.below) in (
      meta_applies x m node,
      meta_place W x m c.args.i d.0 (tree s.trees b) node d.1 c.if-i-lt1.false there
          ∙ ap Some (ap₂ (λ t A. plain (has_type t A)) (sym (tree_extends s.trees t.trees b c.in-Ok.ensures.stays.1 within)) (sym c.in-Ok.ensures.ty))
          ∙ ap (λ y. Some (thesis_in t.trees y)) (sym c.plain.ensures),
    )

pub returns-in-Err-clause-finds : goal.returns-in-Err-clause-finds
returns-in-Err-clause-finds c =
    let s = c.args.k.now in
    let t = c.type_of_place.new.k in
    let W = declared_by s.items in
    let x = tree s.trees c.args.e in
    let a = c.arg-argument.result in
    let m = c.in-Some.met in
    let b = c.in-Some-body.term in
    let terms = meta_terms x c.args.m c.requires.metavariable in
    let same : m ≡ c.args.m = below_some c.args.m (length (metavariables_in s.items)) m (sym c.met_numbered.ensures ∙ c.in-Some.is) in
    let node : node_of x ≡ Meta m = c.requires.metavariable ∙ ap Meta (sym same) in
    let less : m < length (metavariables_in s.items) = subst (λ m. m < length (metavariables_in s.items)) (sym same) (below_less c.args.m (length (metavariables_in s.items)) m (sym c.met_numbered.ensures ∙ c.in-Some.is)) in
    let d : (d : Declared) × (nth (declared_by s.items).metavariables m ≡ Some d) = met_declared s m c.terms-terms.ensures.good less in
    let given : slice_get (arguments_of x) (c.args.i - 1) ≡ Some (argument_in s.trees a) = subst (λ ts. slice_get (arguments_of (tree ts c.args.e)) (c.args.i - 1) ≡ Some (argument_in ts a)) c.terms-terms.ensures.terms c.arg-argument.ensures.argument in
    let there : slice_get (arguments_of x) (c.args.i - 1) ≡ Some (0, Some (tree s.trees b)) = term_there s.trees (arguments_of x) (c.args.i - 1) b a terms given c.in-Some-body.is in
    subst (λ f. FindsPlace t.trees (is_application x) c.args.i (arguments_by W x) (Err f)) (sym c.from.ensures)
    (meta_big t.trees x m c.args.i (arguments_by W x) (tree s.trees b) (type_at_place (c.args.i - 1) (nth W.metavariables m) (arguments_of x)) c.in-Err.fault node
    (meta_place W x m c.args.i d.0 (tree s.trees b) node d.1 c.if-i-lt1.false there) c.in-Err.ensures.too_big)
