use Rattle.std.proofs.Common.{subst}
use Rattle.ft_theory.specs.Expressions.{meta}
use Rattle.ft_syntax.specs.Table.{terms_in}
use Rattle.ft_lines.specs.Expressions.{IsFormed}
use Rattle.ft_lines.proofs.Forming.{formed_is, terms_are}
use Rattle.ft_lines.proofs.expressions.meta_in.Goals as goal

pub returns-clause-formed : goal.returns-clause-formed
returns-clause-formed c =
    subst (λ a. IsFormed (meta c.args.m a) c.meta.new.self c.formed.result) (terms_are c.args.terms.now c.args.args.now)
    (formed_is (meta c.args.m (terms_in c.args.terms.now c.args.args.now)) c.meta.new.self c.meta.result c.formed.result c.formed.ensures
    c.meta.ensures.within c.meta.ensures.tree c.meta.ensures.small c.meta.ensures.too_big)
