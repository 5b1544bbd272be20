use Rattle.std.proofs.Common.{◌≡◌, subst}
use Rattle.ft_syntax.specs.Arguments.{node_of}
use Rattle.ft_syntax.specs.Table.{tree}
use Rattle.ft_syntax.specs.declared.syntax.Node.TheVariants.{Sym, Meta}
use Rattle.ft_placing.specs.Applied.{is_left}
use Rattle.ft_check.specs.Earlier.{declared_before}
use Rattle.ft_check.proofs.Telling.{natural_meta, natural_symbol}
use Rattle.ft_check.proofs.naturals.is_natural.Goals as goal

pub returns-in-Sym : goal.returns-in-Sym
returns-in-Sym c = λ g.
    let T = c.args.items.now.trees in
    natural_symbol (declared_before c.args.i c.args.items.now.items) (tree T c.args.e) c.in-Sym.r (λ N. is_left T N c.args.left) c.is_natural_of_symbol.result
    (subst (λ ts. Sym c.in-Sym.r ≡ node_of (tree ts c.args.e)) c.terms.ensures c.in-Sym.ensures.node) (λ a e. c.is_natural_of_symbol.ensures a g e)

pub returns-in-Meta : goal.returns-in-Meta
returns-in-Meta c = λ g.
    let T = c.args.items.now.trees in
    natural_meta (declared_before c.args.i c.args.items.now.items) (tree T c.args.e) c.in-Meta.m (λ N. is_left T N c.args.left) c.is_natural_of_meta.result
    (subst (λ ts. Meta c.in-Meta.m ≡ node_of (tree ts c.args.e)) c.terms.ensures c.in-Meta.ensures.node) (λ a e. c.is_natural_of_meta.ensures a g e)
