-- What a term tells by what it is made of.
use Rattle.std.specs.Prelude.{ℕ, Option, Some, None, List}
use Rattle.ft_theory.specs.Expressions.{Expression}
use Rattle.ft_theory.specs.Statements.{is_type, has_type, Statement, plain}
use Rattle.ft_syntax.specs.Table.{tree}
use Rattle.ft_placing.specs.Opening.{opened_by, trees_of}

-- the type or the term of a plain statement
abbrev pub head_told : Statement → Option Expression
head_told (plain (is_type e)) = Some e
head_told (plain (has_type e A)) = Some e
head_told x = None

-- the expression with the terms put for the variables of as many domains around it
abbrev pub put_in : List Expression → List ℕ → ℕ → Expression
put_in ts es e = opened_by 0 (trees_of ts es) (tree ts e)
