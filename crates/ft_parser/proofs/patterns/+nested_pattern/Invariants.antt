use Rattle.ft_parser.proofs.patterns.+nested_pattern.Given as goal

abbrev pub decreases-nested_pattern : goal.decreases-nested_pattern
decreases-nested_pattern l = l.depth
