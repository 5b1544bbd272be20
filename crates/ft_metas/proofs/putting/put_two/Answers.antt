use Rattle.std.proofs.Common.{◌∙◌, [], ◌∷◌, subst, sym}
use Rattle.ft_theory.specs.Small.{IsSmall}
use Rattle.ft_reference.specs.Refusals.{AllSmall}
use Rattle.ft_syntax.specs.Laws.{all_below_extends}
use Rattle.ft_metas.specs.Putting.{put_in}
use Rattle.ft_metas.proofs.OpenedTerms.{put_extends, big_weaker}
use Rattle.ft_metas.proofs.putting.put_two.Goals as goal

pub put-requires-2-clause-terms : goal.put-requires-2-clause-terms
put-requires-2-clause-terms c = all_below_extends c.args.k.now.trees c.put.new.k.trees c.args.terms.now c.in-Ok.ensures.stays.1 c.requires.terms

pub returns-in-Ok-put-clause-second : goal.returns-in-Ok-put-clause-second
returns-in-Ok-put-clause-second c = c.in-Ok-put.ensures.tree ∙ put_extends c.args.k.now.trees c.put.new.k.trees c.args.terms.now c.args.b c.in-Ok.ensures.stays.1 c.requires.terms c.requires.below.1

pub returns-in-Ok-put-clause-small : goal.returns-in-Ok-put-clause-small
returns-in-Ok-put-clause-small c =
    (c.in-Ok.ensures.small, (subst IsSmall (put_extends c.args.k.now.trees c.put.new.k.trees c.args.terms.now c.args.b c.in-Ok.ensures.stays.1 c.requires.terms c.requires.below.1) c.in-Ok-put.ensures.small, tt))

pub returns-in-Err-put-clause-small : goal.returns-in-Err-put-clause-small
returns-in-Err-put-clause-small c =
    let ts = c.args.k.now.trees in
    let us = c.put.new.k.trees in
    let es = c.args.terms.now in
    big_weaker (IsSmall (put_in us es c.args.b)) (AllSmall (put_in ts es c.args.a ∷ put_in ts es c.args.b ∷ [])) c.in-Err-put.fault c.in-Err-put.ensures.small
    (λ q. subst IsSmall (sym (put_extends ts us es c.args.b c.in-Ok.ensures.stays.1 c.requires.terms c.requires.below.1)) q.1.0)
