use Rattle.std.proofs.Common.{take, sym, subst}
use Rattle.ft_check.specs.Arguing.{AreTheses}
use Rattle.ft_check.proofs.Applies.{not_read}
use Rattle.ft_check.proofs.congruences.check_cong.Goals as goal

pub returns-in-None : goal.returns-in-None
returns-in-None c = λ R xs ys t g e q u. not_read _ _ (c.rule_at_hand.ensures.is R g e) c.in-None.is

pub returns-in-Some : goal.returns-in-Some
returns-in-Some c = λ R xs ys t g e q u.
    c.check_congruence.ensures R xs ys t g (c.in-Some.ensures.is R g e)
    (subst (λ ps. AreTheses (take c.args.i c.args.items.now.items) ps xs) (sym c.items.ensures) q)
    (subst (λ ps. AreTheses (take c.args.i c.args.items.now.items) ps ys) (sym c.items-in-Some.ensures) u)
