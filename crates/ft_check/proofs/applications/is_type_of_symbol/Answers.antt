use Rattle.ft_check.proofs.AtSymbols.{rule_numbers, type_concluded}
use Rattle.ft_check.proofs.applications.is_type_of_symbol.Goals as goal

pub returns-in_ok-yes-in-Tm : goal.returns-in_ok-yes-in-Tm
returns-in_ok-yes-in-Tm c = λ W R s a k e.
    type_concluded c.args.terms.now W c.args.rule.now R c.in-Tm.ty a c.args.left c.in_ok-put-in-Tm.put c.in_ok-yes-in-Tm.yes k c.in-Tm.is
    (c.in_ok-put-in-Tm.ensures.put R.1.premises s a (rule_numbers c.args.terms.now W c.args.rule.now R k) e) c.in_ok-yes-in-Tm.ensures
