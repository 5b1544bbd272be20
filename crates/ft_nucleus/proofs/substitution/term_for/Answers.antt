use Rattle.std.proofs.Common.{◌≢◌, length, rules}
use Rattle.std.proofs.lemmas.Result.{err_from_is_err_and}
use Rattle.std.specs.Prelude.{Err}
use Rattle.ft_nucleus.specs.Substituting.{FindsTerm}
use Rattle.ft_nucleus.proofs.Substituting.{first_below, other_type}
use Rattle.ft_nucleus.proofs.substitution.term_for.Goals as goal

pub same_type-requires : goal.same_type-requires
same_type-requires c =
    let n = length c.args.t.now in
    let some : length c.args.domains.now ≢ 0 = search rules in
    ((c.in_ok-term.ensures.below n c.requires.term).1, first_below n c.args.domains.now c.index-domains-0.result c.requires.domains some c.index-domains-0.is)

pub returns-in_err-same_type-clause-finds : goal.returns-in_err-same_type-clause-finds
returns-in_err-same_type-clause-finds c =
    let n = length c.args.t.now in
    let some : length c.args.domains.now ≢ 0 = search rules in
    let e : FindsTerm c.args.t.now c.args.domains.now c.args.y.now (Err c.in_err-same_type.field-0.0) =
    other_type c.args.t.now c.args.domains.now c.args.y.now c.in_ok-term.term c.in_ok-term.ty c.index-domains-0.result c.in_err-same_type.field-0.0 some c.index-domains-0.is c.in_ok-term.ensures.term
    ((c.in_ok-term.ensures.below n c.requires.term).1, first_below n c.args.domains.now c.index-domains-0.result c.requires.domains some c.index-domains-0.is)
    c.in_err-same_type.ensures.other c.in_err-same_type.ensures.refused in
    let p = err_from_is_err_and c.from_residual-in_err-same_type.result c.from_residual-in_err-same_type.ensures.1 in
    rw (p.1, p.2) e

pub returns-clause-below : goal.returns-clause-below
returns-clause-below c = (c.in_ok-term.ensures.below (length c.args.t.now) c.requires.term).0
