use Rattle.std.proofs.Common.{take, length, sym, subst, ◌<◌}
use Rattle.ft_check.specs.Arguing.{AreTheses}
use Rattle.ft_check.specs.Entries.{entry_in}
use Rattle.ft_check.proofs.NextBoundaries.{too_many_given}
use Rattle.ft_check.proofs.next_boundary.check_inst.Goals as goal

pub returns-in-None : goal.returns-in-None
returns-in-None c = λ R xs t g e q f.
    too_many_given (take c.args.i c.args.items.now.items) c.args.ps.now xs R.1 (entry_in c.args.items.now.trees c.args.found) t q
    (subst (λ ms. length R.1.premises < length ms) c.items-numbers.ensures (c.rule_after.ensures.none R g e c.in-None.is))

pub returns-in-Some : goal.returns-in-Some
returns-in-Some c = λ R xs t g e q f.
    c.check_next.ensures R.1 xs t (c.in-Some.ensures.is R g e) (subst (λ ps. AreTheses (take c.args.i c.args.items.now.items) ps xs) (sym c.items-numbers.ensures) q) f
