use Rattle.std.proofs.Common.{◌∙◌, [], ◌∷◌, subst, sym}
use Rattle.ft_theory.specs.Small.{IsSmall}
use Rattle.ft_reference.specs.Refusals.{AllSmall}
use Rattle.ft_syntax.specs.Laws.{pairs_below_extends}
use Rattle.ft_parts.specs.Instances.{expression_at}
use Rattle.ft_parts.proofs.AtInstances.{at_extends, big_weaker}
use Rattle.ft_parts.proofs.putting.put_three.Goals as goal

pub put-requires-clause-pairs : goal.put-requires-clause-pairs
put-requires-clause-pairs c = pairs_below_extends c.args.k.now.trees c.put_two.new.k.trees c.args.i.now.pairs c.in-Ok.ensures.stays.1 c.requires.pairs

pub returns-in-Ok-put-clause-third : goal.returns-in-Ok-put-clause-third
returns-in-Ok-put-clause-third c = c.in-Ok-put.ensures.tree ∙ at_extends c.args.k.now.trees c.put_two.new.k.trees c.args.i.now.pairs c.args.c c.in-Ok.ensures.stays.1 c.requires.pairs c.requires.below.2

pub returns-in-Ok-put-clause-small : goal.returns-in-Ok-put-clause-small
returns-in-Ok-put-clause-small c =
    (c.in-Ok.ensures.small.0, (c.in-Ok.ensures.small.1.0, (subst IsSmall (at_extends c.args.k.now.trees c.put_two.new.k.trees c.args.i.now.pairs c.args.c c.in-Ok.ensures.stays.1 c.requires.pairs c.requires.below.2) c.in-Ok-put.ensures.small, tt)))

pub returns-in-Err-put-clause-small : goal.returns-in-Err-put-clause-small
returns-in-Err-put-clause-small c =
    let ts = c.args.k.now.trees in
    let us = c.put_two.new.k.trees in
    let ps = c.args.i.now.pairs in
    big_weaker (IsSmall (expression_at us ps c.args.c)) (AllSmall (expression_at ts ps c.args.a ∷ expression_at ts ps c.args.b ∷ expression_at ts ps c.args.c ∷ [])) c.in-Err-put.fault c.in-Err-put.ensures.small
    (λ q. subst IsSmall (sym (at_extends ts us ps c.args.c c.in-Ok.ensures.stays.1 c.requires.pairs c.requires.below.2)) q.1.1.0)

pub returns-in-Err-clause-small : goal.returns-in-Err-clause-small
returns-in-Err-clause-small c =
    let ts = c.args.k.now.trees in
    let ps = c.args.i.now.pairs in
    big_weaker (AllSmall (expression_at ts ps c.args.a ∷ expression_at ts ps c.args.b ∷ [])) (AllSmall (expression_at ts ps c.args.a ∷ expression_at ts ps c.args.b ∷ expression_at ts ps c.args.c ∷ [])) c.in-Err.fault c.in-Err.ensures.small
    (λ q. (q.0, (q.1.0, tt)))
