use Rattle.std.proofs.Common.{◌≡◌, ◌<◌, ◌∙◌, length, true, false, subst, sym}
use Rattle.ft_syntax.specs.Laws.{below_extends, tree_extends}
use Rattle.ft_calls.specs.Forming.{equal_in}
use Rattle.ft_metas.specs.Named.{entry_of}
use Rattle.ft_metas.specs.Outcomes.{Stops}
use Rattle.ft_metas.specs.Operands.{one_checks}
use Rattle.ft_metas.specs.Putting.{put_in}
use Rattle.ft_metas.proofs.Taking.{operand_read, operand_wrong, domain_big, type_same, type_other}
use Rattle.ft_metas.proofs.operands.operand_at.Goals as goal

pub returns-in-Err-clause-checks : goal.returns-in-Err-clause-checks
returns-in-Err-clause-checks c =
    let s = c.args.k.now in
    operand_wrong s c.args.given (put_in s.trees c.args.earlier.now c.args.domain) c.args.j c.thesis_of.result.now c.in-Err.refusal c.thesis_of.ensures.thesis c.in-Err.ensures.other c.in-Err.ensures.refused

pub returns-in-Err-put-clause-checks : goal.returns-in-Err-put-clause-checks
returns-in-Err-put-clause-checks c =
    let s = c.args.k.now in
    let t = c.put.new.k in
    let D = put_in s.trees c.args.earlier.now c.args.domain in
    subst (Stops t.trees (one_checks c.args.given D (entry_of s.items c.args.j).statement)) (sym c.from.ensures)
    (domain_big s t c.args.given D c.args.j c.in-Ok.two.0 c.in-Ok.two.1 c.thesis_of.result.now c.in-Err-put.fault c.thesis_of.ensures.thesis c.in-Ok.ensures.operand c.in-Err-put.ensures.small)

pub same_type-requires : goal.same_type-requires
same_type-requires c =
    let s = c.args.k.now in
    let t = c.put.new.k in
    let b = c.in-Ok.ensures.below (length s.trees) c.thesis_of.ensures.below in
    subst (λ ts. (c.in-Ok.two.1 < length ts) × (c.in-Ok-put.wanted < length ts)) (sym c.terms.ensures.terms) (below_extends s.trees t.trees c.in-Ok.two.1 c.put.ensures.stays.1 b.1, c.in-Ok-put.ensures.within)

pub returns-in-Ok-same_type-clause-within : goal.returns-in-Ok-same_type-clause-within
returns-in-Ok-same_type-clause-within c =
    let b = c.in-Ok.ensures.below (length c.args.k.now.trees) c.thesis_of.ensures.below in
    below_extends c.args.k.now.trees c.put.new.k.trees c.in-Ok.two.0 c.put.ensures.stays.1 b.0

pub returns-in-Ok-same_type-clause-operand : goal.returns-in-Ok-same_type-clause-operand
returns-in-Ok-same_type-clause-operand c =
    let s = c.args.k.now in
    let b = c.in-Ok.ensures.below (length s.trees) c.thesis_of.ensures.below in
    tree_extends s.trees c.put.new.k.trees c.in-Ok.two.0 c.put.ensures.stays.1 b.0
    ∙ operand_read s c.args.given c.args.j c.in-Ok.two.0 c.in-Ok.two.1 c.thesis_of.result.now c.thesis_of.ensures.thesis c.in-Ok.ensures.operand

pub returns-in-Ok-same_type-clause-checks : goal.returns-in-Ok-same_type-clause-checks
returns-in-Ok-same_type-clause-checks c =
    let s = c.args.k.now in
    let t = c.put.new.k in
    let b = c.in-Ok.ensures.below (length s.trees) c.thesis_of.ensures.below in
    type_same s t c.args.given (put_in s.trees c.args.earlier.now c.args.domain) c.args.j c.in-Ok.two.0 c.in-Ok.two.1 c.in-Ok-put.wanted c.thesis_of.result.now c.put.ensures.stays.1 c.thesis_of.ensures.thesis c.in-Ok.ensures.operand b.1
    c.in-Ok-put.ensures.tree c.in-Ok-put.ensures.small (subst (λ ts. equal_in ts c.in-Ok.two.1 c.in-Ok-put.wanted ≡ true) c.terms.ensures.terms c.in-Ok-same_type.ensures.equal)

pub returns-in-Err-same_type-clause-checks : goal.returns-in-Err-same_type-clause-checks
returns-in-Err-same_type-clause-checks c =
    let s = c.args.k.now in
    let t = c.put.new.k in
    let b = c.in-Ok.ensures.below (length s.trees) c.thesis_of.ensures.below in
    type_other s t c.args.given (put_in s.trees c.args.earlier.now c.args.domain) c.args.j c.in-Ok.two.0 c.in-Ok.two.1 c.in-Ok-put.wanted c.thesis_of.result.now c.in-Err-same_type.refusal c.put.ensures.stays.1 c.thesis_of.ensures.thesis c.in-Ok.ensures.operand b.1 c.in-Ok-put.ensures.within
    c.in-Ok-put.ensures.tree c.in-Ok-put.ensures.small (subst (λ ts. equal_in ts c.in-Ok.two.1 c.in-Ok-put.wanted ≡ false) c.terms.ensures.terms c.in-Err-same_type.ensures.other) c.in-Err-same_type.ensures.refused
