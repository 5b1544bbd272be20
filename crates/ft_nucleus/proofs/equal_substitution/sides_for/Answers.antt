use Rattle.std.proofs.Common.{◌≡◌, ◌≢◌, length, get_or, subst, rules}
use Rattle.std.proofs.lemmas.Result.{err_from_is_err_and}
use Rattle.std.specs.Prelude.{Err}
use Rattle.ft_syntax.specs.Table.{AllBelow}
use Rattle.ft_nucleus.specs.Equating.{FindsEquation}
use Rattle.ft_nucleus.proofs.Substituting.{first_below}
use Rattle.ft_nucleus.proofs.Equating.{no_equation, headless, other_type, sides_found}
use Rattle.ft_nucleus.proofs.equal_substitution.sides_for.Goals as goal

pub returns-in_err-left-clause-finds : goal.returns-in_err-left-clause-finds
returns-in_err-left-clause-finds c =
    let some : length c.items-domains.result.now ≢ 0 = search rules in
    let e : FindsEquation c.args.t.now c.args.x.now c.args.y.now (Err c.in_err-left.field-0.0) =
    no_equation c.args.t.now c.args.x.now c.args.y.now c.in_err-left.field-0.0 (subst (λ ds. length ds ≢ 0) c.items-domains.ensures some) c.in_err-left.ensures.other c.in_err-left.ensures.refused in
    let p = err_from_is_err_and c.from_residual.result c.from_residual.ensures.1 in
    rw (p.1, p.2) e

pub returns-then-not-has_head-clause-finds : goal.returns-then-not-has_head-clause-finds
returns-then-not-has_head-clause-finds c =
    let some : length c.items-domains.result.now ≢ 0 = search rules in
    headless c.args.t.now c.args.x.now c.args.y.now c.in_ok-left.left c.in_ok-left.right c.in_ok-left.ty (subst (λ ds. length ds ≢ 0) c.items-domains.ensures some) c.in_ok-left.ensures.equation c.if-not-has_head.ensures

pub same_type-requires : goal.same_type-requires
same_type-requires c =
    let n = length c.args.t.now in
    let some : length c.items-domains.result.now ≢ 0 = search rules in
    let b : AllBelow n c.items-domains.result.now = subst (AllBelow n) (Rattle.std.proofs.Common.sym c.items-domains.ensures) c.requires.thesis.0 in
    ((c.in_ok-left.ensures.below n c.requires.equation).2, first_below n c.items-domains.result.now c.index-domains-0.result b some c.index-domains-0.is)

pub returns-in_err-same_type-clause-finds : goal.returns-in_err-same_type-clause-finds
returns-in_err-same_type-clause-finds c =
    let n = length c.args.t.now in
    let some : length c.items-domains.result.now ≢ 0 = search rules in
    let b : AllBelow n c.items-domains.result.now = subst (AllBelow n) (Rattle.std.proofs.Common.sym c.items-domains.ensures) c.requires.thesis.0 in
    let e : FindsEquation c.args.t.now c.args.x.now c.args.y.now (Err c.in_err-same_type.field-0.0) =
    other_type c.args.t.now c.args.x.now c.args.y.now c.in_ok-left.left c.in_ok-left.right c.in_ok-left.ty c.index-domains-0.result c.in_err-same_type.field-0.0 (subst (λ ds. length ds ≢ 0) c.items-domains.ensures some)
    (subst (λ ds. c.index-domains-0.result ≡ get_or ds 0 c.index-domains-0.result) c.items-domains.ensures c.index-domains-0.is) c.in_ok-left.ensures.equation c.if-not-has_head.ensures
    ((c.in_ok-left.ensures.below n c.requires.equation).2, first_below n c.items-domains.result.now c.index-domains-0.result b some c.index-domains-0.is)
    c.in_err-same_type.ensures.other c.in_err-same_type.ensures.refused in
    let p = err_from_is_err_and c.from_residual-in_err-same_type.result c.from_residual-in_err-same_type.ensures.1 in
    rw (p.1, p.2) e

pub returns-clause-finds : goal.returns-clause-finds
returns-clause-finds c =
    let some : length c.items-domains.result.now ≢ 0 = search rules in
    sides_found c.args.t.now c.args.x.now c.args.y.now c.in_ok-left.left c.in_ok-left.right c.in_ok-left.ty c.index-domains-0.result (subst (λ ds. length ds ≢ 0) c.items-domains.ensures some)
    (subst (λ ds. c.index-domains-0.result ≡ get_or ds 0 c.index-domains-0.result) c.items-domains.ensures c.index-domains-0.is) c.in_ok-left.ensures.equation c.if-not-has_head.ensures c.in_ok-same_type.ensures.equal

pub returns-clause-below : goal.returns-clause-below
returns-clause-below c =
    let h = c.in_ok-left.ensures.below (length c.args.t.now) c.requires.equation in
    (h.0, h.1)
