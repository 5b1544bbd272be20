-- An expression is its node applied to its arguments.
use Rattle.std.proofs.Common.{◌≡◌, suc, ◌+◌, max, List, [], ◌∷◌, Some, None, refl, sym, ap, ap₂, subst, arith}
use Rattle.ft_theory.specs.Expressions.{Expression, bound, free, symbol, meta, Terms, no_terms, also}
use Rattle.ft_theory.specs.Small.{depth, depth_of_arguments, depth_of_terms, size, size_of_arguments, size_of_terms, NumbersFit, NumbersFitInArguments, NumbersFitInTerms, IsSmall}
use Rattle.ft_syntax.specs.Arguments.{Argument, node_of, list_of_arguments, list_of_terms, arguments_of, as_arguments, as_terms, applied, AreTerms, FitsNode, IsApplication}
use Rattle.ft_syntax.specs.Laws.{arguments_listed, terms_listed}
use Rattle.ft_syntax.specs.Measures.{greatest_depth, total_size, AllNumbersFit, AreSmall}
use Rattle.ft_syntax.specs.declared.syntax.Node.{Node}
use Rattle.ft_syntax.specs.declared.syntax.Node.TheVariants.{Bound, Free, Sym, Meta}

pub list_arguments : (ps : List Argument) → list_of_arguments (as_arguments ps) ≡ ps
list_arguments [] = refl
list_arguments ((n, Some e) ∷ ps) = ap (λ qs. (n, Some e) ∷ qs) (list_arguments ps)
list_arguments ((n, None) ∷ ps) = ap (λ qs. (n, None) ∷ qs) (list_arguments ps)

pub list_terms : (ps : List Argument) → AreTerms ps → list_of_terms (as_terms ps) ≡ ps
list_terms [] h = refl
list_terms ((n, Some e) ∷ ps) h = ap₂ (λ m qs. (m, Some e) ∷ qs) (sym h.0) (list_terms ps h.1)
list_terms ((n, None) ∷ ps) h = absurd h.0

pub applied_node_of : (e : Expression) → applied (node_of e) (arguments_of e) ≡ e
applied_node_of (bound i) = refl
applied_node_of (free v) = refl
applied_node_of (symbol s a) = ap (symbol s) (arguments_listed a)
applied_node_of (meta m a) = ap (meta m) (terms_listed a)

pub node_of-applied : (h : Node) (ps : List Argument) → node_of (applied h ps) ≡ h
node_of-applied (Bound i) ps = refl
node_of-applied (Free v) ps = refl
node_of-applied (Sym s) ps = refl
node_of-applied (Meta m) ps = refl

pub arguments_of-applied : (h : Node) (ps : List Argument) → FitsNode h ps → arguments_of (applied h ps) ≡ ps
arguments_of-applied (Bound i) ps f = sym f
arguments_of-applied (Free v) ps f = sym f
arguments_of-applied (Sym s) ps f = list_arguments ps
arguments_of-applied (Meta m) ps f = list_terms ps f

-- the arguments of an expression fit its node
terms_fit : (a : Terms) → AreTerms (list_of_terms a)
terms_fit no_terms = tt
terms_fit (also t a) = (refl, terms_fit a)

pub arguments_fit : (e : Expression) → FitsNode (node_of e) (arguments_of e)
arguments_fit (bound i) = refl
arguments_fit (free v) = refl
arguments_fit (symbol s a) = tt
arguments_fit (meta m a) = terms_fit a

-- measures by the list of arguments
depth_arguments : (ps : List Argument) → depth_of_arguments (as_arguments ps) ≡ greatest_depth ps
depth_arguments [] = refl
depth_arguments ((n, Some e) ∷ ps) = ap (max (depth e)) (depth_arguments ps)
depth_arguments ((n, None) ∷ ps) = depth_arguments ps

depth_terms : (ps : List Argument) → AreTerms ps → depth_of_terms (as_terms ps) ≡ greatest_depth ps
depth_terms [] h = refl
depth_terms ((n, Some e) ∷ ps) h = ap (max (depth e)) (depth_terms ps h.1)
depth_terms ((n, None) ∷ ps) h = absurd h.0

pub depth_applied : (h : Node) (ps : List Argument) → FitsNode h ps → depth (applied h ps) ≡ suc (greatest_depth ps)
depth_applied (Bound i) ps f = ap (λ qs. suc (greatest_depth qs)) (sym f)
depth_applied (Free v) ps f = ap (λ qs. suc (greatest_depth qs)) (sym f)
depth_applied (Sym s) ps f = ap suc (depth_arguments ps)
depth_applied (Meta m) ps f = ap suc (depth_terms ps f)

size_arguments : (ps : List Argument) → size_of_arguments (as_arguments ps) ≡ total_size ps
size_arguments [] = refl
size_arguments ((n, Some e) ∷ ps) = ap (λ k. size e + k) (size_arguments ps)
size_arguments ((n, None) ∷ ps) = size_arguments ps

size_terms : (ps : List Argument) → AreTerms ps → size_of_terms (as_terms ps) ≡ total_size ps
size_terms [] h = refl
size_terms ((n, Some e) ∷ ps) h = ap (λ k. size e + k) (size_terms ps h.1)
size_terms ((n, None) ∷ ps) h = absurd h.0

pub size_applied : (h : Node) (ps : List Argument) → FitsNode h ps → size (applied h ps) ≡ suc (total_size ps)
size_applied (Bound i) ps f = ap (λ qs. suc (total_size qs)) (sym f)
size_applied (Free v) ps f = ap (λ qs. suc (total_size qs)) (sym f)
size_applied (Sym s) ps f = ap suc (size_arguments ps)
size_applied (Meta m) ps f = ap suc (size_terms ps f)

numbers_arguments : (ps : List Argument) → AllNumbersFit ps → NumbersFitInArguments (as_arguments ps)
numbers_arguments [] h = tt
numbers_arguments ((n, Some e) ∷ ps) h = (h.0, h.1, numbers_arguments ps h.2)
numbers_arguments ((n, None) ∷ ps) h = (h.0, numbers_arguments ps h.1)

numbers_terms : (ps : List Argument) → AreTerms ps → AllNumbersFit ps → NumbersFitInTerms (as_terms ps)
numbers_terms [] f h = tt
numbers_terms ((n, Some e) ∷ ps) f h = (h.1, numbers_terms ps f.1 h.2)
numbers_terms ((n, None) ∷ ps) f h = absurd f.0

numbers_of_arguments : (ps : List Argument) → NumbersFitInArguments (as_arguments ps) → AllNumbersFit ps
numbers_of_arguments [] h = tt
numbers_of_arguments ((n, Some e) ∷ ps) h = (h.0, h.1, numbers_of_arguments ps h.2)
numbers_of_arguments ((n, None) ∷ ps) h = (h.0, numbers_of_arguments ps h.1)

numbers_of_terms : (ps : List Argument) → AreTerms ps → NumbersFitInTerms (as_terms ps) → AllNumbersFit ps
numbers_of_terms [] f h = tt
numbers_of_terms ((n, Some e) ∷ ps) f h = (omega (arith, f.0), h.0, numbers_of_terms ps f.1 h.1)
numbers_of_terms ((n, None) ∷ ps) f h = absurd f.0

numbers_applied : (h : Node) (ps : List Argument) → IsApplication h → FitsNode h ps → AllNumbersFit ps → NumbersFit (applied h ps)
numbers_applied (Bound i) ps a f h = absurd a
numbers_applied (Free v) ps a f h = absurd a
numbers_applied (Sym s) ps a f h = numbers_arguments ps h
numbers_applied (Meta m) ps a f h = numbers_terms ps f h

numbers_of_applied : (h : Node) (ps : List Argument) → FitsNode h ps → NumbersFit (applied h ps) → AllNumbersFit ps
numbers_of_applied (Bound i) ps f h = subst AllNumbersFit (sym f) tt
numbers_of_applied (Free v) ps f h = subst AllNumbersFit (sym f) tt
numbers_of_applied (Sym s) ps f h = numbers_of_arguments ps h
numbers_of_applied (Meta m) ps f h = numbers_of_terms ps f h

pub small_applied : (h : Node) (ps : List Argument) → IsApplication h → FitsNode h ps → AreSmall ps → IsSmall (applied h ps)
small_applied h ps a f s =
    record { kept = (omega (arith, s.low, depth_applied h ps f), omega (arith, s.short, size_applied h ps f), numbers_applied h ps a f s.numbers) }

pub small_arguments : (h : Node) (ps : List Argument) → FitsNode h ps → IsSmall (applied h ps) → AreSmall ps
small_arguments h ps f s =
    record { low = omega (arith, s.kept.0, depth_applied h ps f); short = omega (arith, s.kept.1, size_applied h ps f); numbers = numbers_of_applied h ps f s.kept.2 }
