-- The texts of the arguments of an application, as a list.
use Rattle.std.specs.Prelude.{ℕ, suc, ◌+◌, ◌*◌, ◌^◌, ◌<◌, Option, Some, None, List, ◌++◌, map, codes}
use Rattle.ft_theory.specs.Expressions.{Expression}
use Rattle.ft_items.specs.Store.{Declarations}
use Rattle.ft_syntax.specs.Arguments.{Argument}
use Rattle.ft_meaning.specs.Texts.{Text, binders_text, expression_text, in_parentheses}

-- the body of an argument; a dummy is a star
abbrev pub body_text : Declarations → List ℕ → ℕ → Option Expression → Text
body_text W vs n (Some e) = expression_text W vs n e
body_text W vs n None = codes "*"

-- an argument, with its binders before it
abbrev pub argument_text : Declarations → List ℕ → ℕ → Argument → Text
argument_text W vs n p = binders_text n p.0 ++ body_text W vs (n + p.0) p.1

-- the arguments, in parentheses where there are any
abbrev pub arguments_text : Declarations → List ℕ → ℕ → List Argument → Text
arguments_text W vs n ps = in_parentheses (map (argument_text W vs n) ps)

-- the binders around each part of the expression at a place, where n stand around it, can be counted in 128 bits
abbrev pub HasRoom : ℕ → ℕ → Type 0
HasRoom n e = n + 2 ^ 32 * suc e < 2 ^ 128
