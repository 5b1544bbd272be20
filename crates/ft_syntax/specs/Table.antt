-- What is seen of a table of expressions: the list of its trees, each named by its place.
use Rattle.std.specs.Prelude.{ℕ, ◌≡◌, ◌≢◌, ◌<◌, Option, Some, None, List, [], ◌∷◌, ◌++◌, map, length, option_map, slice_index_or}
use Rattle.ft_theory.specs.Expressions.{Expression, bound, Arguments, Terms, no_terms, also}
use Rattle.ft_syntax.specs.Arguments.{Argument, as_arguments}
use Rattle.ft_syntax.specs.declared.syntax.Arg.{Arg}

-- the tree at a place
abbrev pub tree : List Expression → ℕ → Expression
tree ts e = slice_index_or ts e (bound 0)

-- the second table goes on from the first: the earlier trees are as they were
abbrev pub Extends : List Expression → List Expression → Type 0
Extends ts us = (more : List Expression) × (us ≡ ts ++ more)

-- the trees of the table are pairwise different, so that each has one number
pub record AreDifferent (ts : List Expression) : Type 0 where
  pub same : (d e : ℕ) → d < length ts → e < length ts → tree ts d ≡ tree ts e → d ≡ e

-- the expression is no tree of the table
pub record IsNew (ts : List Expression) (t : Expression) : Type 0 where
  pub none : (e : ℕ) → e < length ts → tree ts e ≢ t

-- the argument whose body is a tree of the table
abbrev pub argument_in : List Expression → Arg → Argument
argument_in ts x = (x.binders, option_map (tree ts) x.body)

-- the arguments whose bodies are trees of the table
abbrev pub arguments_in : List Expression → List Arg → Arguments
arguments_in ts xs = as_arguments (map (argument_in ts) xs)

-- the terms that are trees of the table
abbrev pub terms_in : List Expression → List ℕ → Terms
terms_in ts [] = no_terms
terms_in ts (e ∷ es) = also (tree ts e) (terms_in ts es)

-- the body is among the first n trees, or there is none
abbrev pub BodyBelow : ℕ → Option ℕ → Type 0
BodyBelow n None = Unit {0}
BodyBelow n (Some e) = e < n

abbrev pub ArgumentsBelow : ℕ → List Arg → Type 0
ArgumentsBelow n [] = Unit {0}
ArgumentsBelow n (x ∷ xs) = BodyBelow n x.body × ArgumentsBelow n xs

abbrev pub AllBelow : ℕ → List ℕ → Type 0
AllBelow n [] = Unit {0}
AllBelow n (e ∷ es) = (e < n) × AllBelow n es

-- a term, as an argument without binders
abbrev pub term_argument : ℕ → Arg
term_argument e = record { binders = 0; body = Some e }
