use Rattle.ft_parser.proofs.computations.+nested_expression.Given as goal

abbrev pub decreases-nested_expression : goal.decreases-nested_expression
decreases-nested_expression l = l.depth
