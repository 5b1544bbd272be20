use Rattle.std.proofs.Common.{◌∙◌, [], ◌∷◌, subst, sym}
use Rattle.ft_theory.specs.Small.{IsSmall}
use Rattle.ft_reference.specs.Refusals.{AllSmall}
use Rattle.ft_syntax.specs.Laws.{pairs_below_extends}
use Rattle.ft_parts.specs.Instances.{expression_at}
use Rattle.ft_parts.proofs.AtInstances.{at_extends, big_weaker}
use Rattle.ft_parts.proofs.putting.put_two.Goals as goal

pub put-requires-2-clause-pairs : goal.put-requires-2-clause-pairs
put-requires-2-clause-pairs c = pairs_below_extends c.args.k.now.trees c.put.new.k.trees c.args.i.now.pairs c.in-Ok.ensures.stays.1 c.requires.pairs

pub returns-in-Ok-put-clause-second : goal.returns-in-Ok-put-clause-second
returns-in-Ok-put-clause-second c = c.in-Ok-put.ensures.tree ∙ at_extends c.args.k.now.trees c.put.new.k.trees c.args.i.now.pairs c.args.b c.in-Ok.ensures.stays.1 c.requires.pairs c.requires.below.1

pub returns-in-Ok-put-clause-small : goal.returns-in-Ok-put-clause-small
returns-in-Ok-put-clause-small c =
    (c.in-Ok.ensures.small, (subst IsSmall (at_extends c.args.k.now.trees c.put.new.k.trees c.args.i.now.pairs c.args.b c.in-Ok.ensures.stays.1 c.requires.pairs c.requires.below.1) c.in-Ok-put.ensures.small, tt))

pub returns-in-Err-put-clause-small : goal.returns-in-Err-put-clause-small
returns-in-Err-put-clause-small c =
    let ts = c.args.k.now.trees in
    let us = c.put.new.k.trees in
    let ps = c.args.i.now.pairs in
    big_weaker (IsSmall (expression_at us ps c.args.b)) (AllSmall (expression_at ts ps c.args.a ∷ expression_at ts ps c.args.b ∷ [])) c.in-Err-put.fault c.in-Err-put.ensures.small
    (λ q. subst IsSmall (sym (at_extends ts us ps c.args.b c.in-Ok.ensures.stays.1 c.requires.pairs c.requires.below.1)) q.1.0)
