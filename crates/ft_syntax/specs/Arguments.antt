-- An expression as a node with a list of arguments.
use Rattle.std.specs.Prelude.{ℕ, ◌≡◌, Option, Some, None, List, [], ◌∷◌, unwrap_or}
use Rattle.ft_theory.specs.Expressions.{Expression, bound, free, symbol, meta, Arguments, no_arguments, with_body, dummy, Terms, no_terms, also}
use Rattle.ft_syntax.specs.declared.syntax.Node.{Node}
use Rattle.ft_syntax.specs.declared.syntax.Node.TheVariants.{Bound, Free, Sym, Meta}

-- an argument by itself: its number of binders, and its body, where it is no dummy
abbrev pub Argument : Type 0
Argument = ℕ × Option Expression

-- an expression without its arguments
abbrev pub node_of : Expression → Node
node_of (bound i) = Bound i
node_of (free v) = Free v
node_of (symbol s a) = Sym s
node_of (meta m a) = Meta m

abbrev pub list_of_arguments : Arguments → List Argument
list_of_arguments no_arguments = []
list_of_arguments (with_body n e a) = (n, Some e) ∷ list_of_arguments a
list_of_arguments (dummy n a) = (n, None) ∷ list_of_arguments a

abbrev pub list_of_terms : Terms → List Argument
list_of_terms no_terms = []
list_of_terms (also t a) = (0, Some t) ∷ list_of_terms a

-- the arguments of an expression, in order. A term at a metavariable is an argument without binders.
abbrev pub arguments_of : Expression → List Argument
arguments_of (bound i) = []
arguments_of (free v) = []
arguments_of (symbol s a) = list_of_arguments a
arguments_of (meta m a) = list_of_terms a

abbrev pub with_argument : Argument → Arguments → Arguments
with_argument (n, Some e) a = with_body n e a
with_argument (n, None) a = dummy n a

-- the list as the arguments of a symbol
abbrev pub as_arguments : List Argument → Arguments
as_arguments [] = no_arguments
as_arguments (p ∷ ps) = with_argument p (as_arguments ps)

-- the bodies of the list as the terms of a metavariable
abbrev pub as_terms : List Argument → Terms
as_terms [] = no_terms
as_terms (p ∷ ps) = also (unwrap_or p.1 (bound 0)) (as_terms ps)

-- the expression of a node and a list of arguments
abbrev pub applied : Node → List Argument → Expression
applied (Bound i) ps = bound i
applied (Free v) ps = free v
applied (Sym s) ps = symbol s (as_arguments ps)
applied (Meta m) ps = meta m (as_terms ps)

abbrev pub IsTerm : Argument → Type 0
IsTerm (n, Some e) = n ≡ 0
IsTerm (n, None) = ⊥

abbrev pub AreTerms : List Argument → Type 0
AreTerms [] = Unit {0}
AreTerms (p ∷ ps) = IsTerm p × AreTerms ps

-- a variable has no arguments, and a metavariable has only terms
abbrev pub FitsNode : Node → List Argument → Type 0
FitsNode (Bound i) ps = ps ≡ []
FitsNode (Free v) ps = ps ≡ []
FitsNode (Sym s) ps = Unit {0}
FitsNode (Meta m) ps = AreTerms ps

-- a symbol or a metavariable
abbrev pub IsApplication : Node → Type 0
IsApplication (Bound i) = ⊥
IsApplication (Free v) = ⊥
IsApplication (Sym s) = Unit {0}
IsApplication (Meta m) = Unit {0}
