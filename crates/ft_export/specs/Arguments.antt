-- The text of an expression by its node and its list of arguments.
use Rattle.std.specs.Prelude.{ℕ, Option, Some, None, List, [], ◌∷◌, ◌++◌, codes, decimal, map}
use Rattle.ft_theory.specs.Expressions.{Expression}
use Rattle.ft_syntax.specs.Arguments.{Argument}
use Rattle.ft_syntax.specs.declared.syntax.Node.{Node}
use Rattle.ft_syntax.specs.declared.syntax.Node.TheVariants.{Bound, Free, Sym, Meta}
use Rattle.ft_items.specs.Texts.{joined, expression_text, NumberFits, ItsNumbersFit}

-- the text of a body, a star where there is none
abbrev pub body_text : Option Expression → List ℕ
body_text (Some e) = expression_text e
body_text None = codes "*"

-- what stands before the body of an argument: at a symbol the number of binders and a dot, at others nothing
abbrev pub binders_text : Node → ℕ → List ℕ
binders_text (Bound i) n = []
binders_text (Free v) n = []
binders_text (Sym s) n = decimal n ++ codes "."
binders_text (Meta m) n = []

-- the text of an argument of the node
abbrev pub argument_text : Node → Argument → List ℕ
argument_text node p = binders_text node p.0 ++ body_text p.1

-- the arguments in parentheses, joined by commas
abbrev pub arguments_text : Node → List Argument → List ℕ
arguments_text node ps = codes "(" ++ joined (codes ",") (map (argument_text node) ps) ++ codes ")"

-- the numbers of a body fit, where there is one
abbrev pub BodyFits : Option Expression → Type 0
BodyFits (Some e) = ItsNumbersFit e
BodyFits None = Unit {0}

-- the numbers of the arguments fit
abbrev pub ArgumentsFit : List Argument → Type 0
ArgumentsFit [] = Unit {0}
ArgumentsFit (p ∷ ps) = NumberFits p.0 × BodyFits p.1 × ArgumentsFit ps
