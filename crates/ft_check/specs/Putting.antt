-- Arguments put for metavariables, in a table of their own.
use Rattle.std.specs.Prelude.{cond, Some, None, length}
use Rattle.ft_theory.specs.Statements.{Statement, domain_count}
use Rattle.ft_items.specs.Equal.{has_head, head}
use Rattle.ft_syntax.specs.Arguments.{Argument}
use Rattle.ft_syntax.specs.Instances.{PairsBelow}
use Rattle.ft_syntax.specs.Table.{ArgumentsBelow}
use Rattle.ft_check.specs.declared.instances.Put.{Put}

-- the head of a thesis as an argument, under as many binders as the thesis has domains; a dummy for an equation
abbrev pub head_argument : Statement → Argument
head_argument x = (domain_count x, cond (has_head x) (Some (head x)) None)

-- the arguments, and what is put for the metavariables, are in the table
abbrev pub IsPutIn : Put → Type 0
IsPutIn x = ArgumentsBelow (length x.terms) x.arguments.items × PairsBelow (length x.terms) x.instance.pairs
