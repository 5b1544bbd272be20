use Rattle.std.proofs.Common.{◌∙◌, [], ◌∷◌, subst, sym}
use Rattle.ft_theory.specs.Small.{IsSmall}
use Rattle.ft_reference.specs.Refusals.{AllSmall}
use Rattle.ft_syntax.specs.Laws.{all_below_extends}
use Rattle.ft_metas.specs.Putting.{put_in}
use Rattle.ft_metas.proofs.OpenedTerms.{put_extends, big_weaker}
use Rattle.ft_metas.proofs.putting.put_three.Goals as goal

pub put-requires-clause-terms : goal.put-requires-clause-terms
put-requires-clause-terms c = all_below_extends c.args.k.now.trees c.put_two.new.k.trees c.args.terms.now c.in-Ok.ensures.stays.1 c.requires.terms

pub returns-in-Ok-put-clause-third : goal.returns-in-Ok-put-clause-third
returns-in-Ok-put-clause-third c = c.in-Ok-put.ensures.tree ∙ put_extends c.args.k.now.trees c.put_two.new.k.trees c.args.terms.now c.args.c c.in-Ok.ensures.stays.1 c.requires.terms c.requires.below.2

pub returns-in-Ok-put-clause-small : goal.returns-in-Ok-put-clause-small
returns-in-Ok-put-clause-small c =
    (c.in-Ok.ensures.small.0, (c.in-Ok.ensures.small.1.0, (subst IsSmall (put_extends c.args.k.now.trees c.put_two.new.k.trees c.args.terms.now c.args.c c.in-Ok.ensures.stays.1 c.requires.terms c.requires.below.2) c.in-Ok-put.ensures.small, tt)))

pub returns-in-Err-put-clause-small : goal.returns-in-Err-put-clause-small
returns-in-Err-put-clause-small c =
    let ts = c.args.k.now.trees in
    let us = c.put_two.new.k.trees in
    let es = c.args.terms.now in
    big_weaker (IsSmall (put_in us es c.args.c)) (AllSmall (put_in ts es c.args.a ∷ put_in ts es c.args.b ∷ put_in ts es c.args.c ∷ [])) c.in-Err-put.fault c.in-Err-put.ensures.small
    (λ q. subst IsSmall (sym (put_extends ts us es c.args.c c.in-Ok.ensures.stays.1 c.requires.terms c.requires.below.2)) q.1.1.0)

pub returns-in-Err-clause-small : goal.returns-in-Err-clause-small
returns-in-Err-clause-small c =
    let ts = c.args.k.now.trees in
    let es = c.args.terms.now in
    big_weaker (AllSmall (put_in ts es c.args.a ∷ put_in ts es c.args.b ∷ [])) (AllSmall (put_in ts es c.args.a ∷ put_in ts es c.args.b ∷ put_in ts es c.args.c ∷ [])) c.in-Err.fault c.in-Err.ensures.small
    (λ q. (q.0, (q.1.0, tt)))
