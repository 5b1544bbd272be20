use Rattle.std.proofs.Common.{◌≡◌, subst}
use Rattle.ft_items.specs.Equal.{equal_statements}
use Rattle.ft_syntax.specs.Arguments.{node_of}
use Rattle.ft_syntax.specs.Table.{tree}
use Rattle.ft_syntax.specs.declared.syntax.Node.TheVariants.{Sym, Meta}
use Rattle.ft_check.specs.Earlier.{declared_before}
use Rattle.ft_check.specs.Entries.{entry_in}
use Rattle.ft_check.proofs.Telling.{argument_meta, argument_symbol}
use Rattle.ft_check.proofs.arguments.is_argument.Goals as goal

pub returns-in-Sym : goal.returns-in-Sym
returns-in-Sym c = λ g t.
    let T = c.args.items.now.trees in
    argument_symbol (declared_before c.args.i c.args.items.now.items) (tree T c.args.e) c.in-Sym.r c.args.k (λ z. equal_statements z (entry_in T c.args.found).statement) c.is_argument_of_rule.result
    (subst (λ ts. Sym c.in-Sym.r ≡ node_of (tree ts c.args.e)) c.terms.ensures c.in-Sym.ensures.node) (λ a e. c.is_argument_of_rule.ensures a g e t)

pub returns-in-Meta : goal.returns-in-Meta
returns-in-Meta c = λ g t.
    let T = c.args.items.now.trees in
    argument_meta (declared_before c.args.i c.args.items.now.items) (tree T c.args.e) c.in-Meta.m c.args.k (λ z. equal_statements z (entry_in T c.args.found).statement) c.is_argument_of_meta.result
    (subst (λ ts. Meta c.in-Meta.m ≡ node_of (tree ts c.args.e)) c.terms.ensures c.in-Meta.ensures.node) (λ a e. c.is_argument_of_meta.ensures a g e)
