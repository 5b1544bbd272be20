use Rattle.std.proofs.Common.{rules, ◌<◌, ◌≡◌, ◌≢◌, true, false, [], length, drop, ap, ◌∙◌}
use Rattle.ft_syntax.specs.Laws.{one_below}
use Rattle.ft_steps.specs.Parts.{claim_in, statement_in}
use Rattle.std.proofs.Common.{ℕ, List}
use Rattle.ft_items.specs.Equal.{equal_claims}
use Rattle.ft_syntax.specs.Table.{tree}
use Rattle.ft_steps.specs.Moving.{domains_moved, equated}
use Rattle.ft_steps.specs.declared.moving.Move.TheVariants.{Open}
use Rattle.ft_steps.proofs.Concluding.{no_length}
use Rattle.ft_steps.proofs.Equated.{no_head, others_are, other_number, other_domains, equated_under}
use Rattle.ft_steps.proofs.equating.is_equally_substituted.Goals as goal

pub same-requires : goal.same-requires
same-requires c =
    let n = length c.args.terms.now in
    let some : 0 < length c.args.x.now.domains.now = search rules in
    (one_below n 0 c.index-domains-0.result c.args.x.now.domains.now c.requires.x.0 some c.index-domains-0.is, (c.in-Some.ensures.below n c.requires.e).2)

pub are_domains_moved-requires-clause-work : goal.are_domains_moved-requires-clause-work
are_domains_moved-requires-clause-work c = (c.in-Some.ensures.below (length c.args.terms.now) c.requires.e).0

pub is_equated-requires-clause-sides : goal.is_equated-requires-clause-sides
is_equated-requires-clause-sides c = let b = c.in-Some.ensures.below (length c.args.terms.now) c.requires.e in (b.0, b.1)

pub returns-then-others-found : goal.returns-then-others-found
returns-then-others-found c =
    let T = c.args.terms.now in
    let some : 0 < length c.args.x.now.domains.now = search rules in
    let head : c.has_head.result ≡ true = search rules in
    let typed : c.same.result ≡ true = search rules in
    let other : length (drop 1 c.args.x.now.domains.now) ≢ length c.args.y.now.domains.now = search rules in
    other_number T c.args.x.now.domains.now c.args.y.now.domains.now c.index-domains-0.result (claim_in T c.args.x.now.claim) (claim_in T c.args.y.now.claim) (statement_in T c.args.e.now) c.in-Some.sides _ _ some c.index-domains-0.is (c.in-Some.ensures.is T) (c.has_head.ensures T) head c.same.ensures typed other

pub returns-then-not-branch : goal.returns-then-not-branch
returns-then-not-branch c =
    let T = c.args.terms.now in
    let some : 0 < length c.args.x.now.domains.now = search rules in
    let head : c.has_head.result ≡ true = search rules in
    let typed : c.same.result ≡ true = search rules in
    let other : c.in_ok-are_domains_moved.field-0 ≡ false = search rules in
    other_domains T c.args.x.now.domains.now c.args.y.now.domains.now c.index-domains-0.result (claim_in T c.args.x.now.claim) (claim_in T c.args.y.now.claim) (statement_in T c.args.e.now) c.in-Some.sides _ _ _ some c.index-domains-0.is (c.in-Some.ensures.is T) (c.has_head.ensures T) head c.same.ensures typed (c.in_ok-are_domains_moved.ensures ∙ ap (λ As. domains_moved T (Open c.in-Some.sides.0) 0 As c.args.y.now.domains.now) (others_are c.args.x.now.domains.now)) other

pub returns : goal.returns
returns c =
    let T = c.args.terms.now in
    let some : 0 < length c.args.x.now.domains.now = search rules in
    let head : c.has_head.result ≡ true = search rules in
    let typed : c.same.result ≡ true = search rules in
    let moved : c.in_ok-are_domains_moved.field-0 ≡ true = search rules in
    equated_under T c.args.x.now.domains.now c.args.y.now.domains.now c.index-domains-0.result (claim_in T c.args.x.now.claim) (claim_in T c.args.y.now.claim) (statement_in T c.args.e.now) c.in-Some.sides _ _ _ _ some c.index-domains-0.is (c.in-Some.ensures.is T) (c.has_head.ensures T) head c.same.ensures typed (c.in_ok-are_domains_moved.ensures ∙ ap (λ As. domains_moved T (Open c.in-Some.sides.0) 0 As c.args.y.now.domains.now) (others_are c.args.x.now.domains.now)) moved
    (c.in_ok-yes.ensures ∙ ap (λ (As : List ℕ). equal_claims (equated (length As) (tree T c.in-Some.sides.0) (tree T c.in-Some.sides.1) (claim_in T c.args.x.now.claim)) (claim_in T c.args.y.now.claim)) (others_are c.args.x.now.domains.now))

pub returns-then-not-has_head : goal.returns-then-not-has_head
returns-then-not-has_head c =
    let T = c.args.terms.now in
    let no : c.has_head.result ≡ false = search rules in
    let some : c.args.x.now.domains.now ≡ [] → ⊥ = search rules in
    no_head T c.args.x.now.domains.now (claim_in T c.args.x.now.claim) (statement_in T c.args.e.now) (statement_in T c.args.y.now) c.in-Some.sides _ (λ e. some (no_length c.args.x.now.domains.now e)) (c.in-Some.ensures.is T) (c.has_head.ensures T) no
