use Rattle.std.proofs.Common.{◌≡◌, ◌∙◌, ap, ◌++◌, nat_eq}
use Rattle.std.specs.List.{dedup}
use Rattle.std.proofs.lemmas.List.Filters.{dedup_is}
use Rattle.ft_syntax.specs.Table.{tree}
use Rattle.ft_print.specs.Mentions.{mentioned}
use Rattle.ft_print.proofs.Gathered.{sorted_gathered, sorted_ascends}
use Rattle.ft_print.proofs.mentioned.variables_mentioned.Goals as goal

pub returns-clause-variables : goal.returns-clause-variables
returns-clause-variables c =
    let A = tree c.args.terms.now c.args.a in
    let B = tree c.args.terms.now c.args.b in
    let all : c.push_mentioned-2.new.found.items ≡ mentioned A ++ mentioned B =
    c.in_ok-push_mentioned-2.ensures.ok ∙ ap (λ z. z ++ mentioned B) (c.in_ok-push_mentioned.ensures.ok ∙ ap (λ z. z ++ mentioned A) c.new-found.ensures.items) in
    let once : c.dedup.new.self.items ≡ dedup nat_eq c.sort_unstable.new.self.items = dedup_is nat_eq c.sort_unstable.new.self.items c.dedup.new.self.items c.dedup.ensures.filtered in
    sorted_gathered c.push_mentioned-2.new.found.items c.sort_unstable.new.self.items c.dedup.new.self.items A B all c.sort_unstable.ensures.permutation c.sort_unstable.ensures.sorted once

pub returns-clause-ascending : goal.returns-clause-ascending
returns-clause-ascending c =
    let once : c.dedup.new.self.items ≡ dedup nat_eq c.sort_unstable.new.self.items = dedup_is nat_eq c.sort_unstable.new.self.items c.dedup.new.self.items c.dedup.ensures.filtered in
    sorted_ascends c.sort_unstable.new.self.items c.dedup.new.self.items c.sort_unstable.ensures.sorted once
