use Rattle.std.proofs.Common.{rules, ◌≡◌, ◌<◌, ◌%◌, None, Some, length, set, refl, ap, ◌∙◌, subst}
use Rattle.ft_syntax.specs.declared.index.Link.{Link}
use Rattle.ft_syntax.proofs.Chained.{chained_unmarked, chained_marked}
use Rattle.ft_syntax.proofs.index.chain.Goals as goal

pub returns-in_default-clause-chained : goal.returns-in_default-clause-chained
returns-in_default-clause-chained c =
    let l : Link = record { mark = None; earlier = None } in
    chained_unmarked c.args.heads.now.items c.args.links.now.items c.push.new.self.items l c.in_ok-push.ensures.items refl c.requires.some c.requires.chained

pub returns-clause-chained : goal.returns-clause-chained
returns-clause-chained c =
    let l : Link = record { mark = Some c.in-Some.number; earlier = c.index.result.now } in
    let b = c.bucket_of-bucket.result in
    let k : c.len-place.result ≡ length c.args.links.now.items = search rules in
    let n : c.len.result ≡ length c.args.heads.now.items = search rules in
    let is : b ≡ c.in-Some.number % length c.args.heads.now.items = c.bucket_of-bucket.ensures.is ∙ ap (λ d. c.in-Some.number % d) n in
    let within : b < length c.args.heads.now.items = subst (λ d. b < d) n c.bucket_of-bucket.ensures.within in
    chained_marked c.args.heads.now.items (set c.args.heads.now.items b (Some c.len-place.result)) c.args.links.now.items c.push-2.new.self.items l c.in-Some.number b c.len-place.result
    c.in_ok-push-2.ensures.items refl k is within c.index.ensures refl c.requires.chained
