-- Which free variables the arguments of a row mention.
use Rattle.std.proofs.Common.{◌≡◌, ◌≢◌, ℕ, zero, suc, ◌<◌, ◌≤◌, List, [], ◌∷◌, ◌++◌, length, get_or, take, map, Some, None, option_map, refl, sym, ap, ◌∙◌, subst, arith}
use Rattle.ft_theory.specs.Expressions.{Expression, free, Without, ArgumentsMentionOnly, TermsMentionOnly}
use Rattle.ft_syntax.specs.Arguments.{Argument, node_of, arguments_of, AreTerms, FitsNode, as_arguments, as_terms, applied}
use Rattle.ft_syntax.specs.Table.{tree, argument_in}
use Rattle.ft_syntax.specs.declared.syntax.Arg.{Arg}
use Rattle.ft_syntax.specs.declared.syntax.Node.{Node}
use Rattle.ft_syntax.specs.declared.syntax.Node.TheVariants.{Bound, Free, Sym, Meta}
use Rattle.ft_syntax.specs.Invariant.{HasArguments}
use Rattle.ft_syntax.proofs.Parts.{applied_node_of, arguments_fit}
use Rattle.ft_syntax.proofs.Changes.{node_free}
use Rattle.ft_syntax.proofs.Lists.{take_more, take_all}

abbrev pub NoneMention : ℕ → List Argument → Type 0
NoneMention v [] = Unit {0}
NoneMention v ((n, Some e) ∷ ps) = Without v e × NoneMention v ps
NoneMention v ((n, None) ∷ ps) = NoneMention v ps

without_arguments : (v : ℕ) (ps : List Argument) → NoneMention v ps → ArgumentsMentionOnly (λ u. u ≢ v) (λ m k. Unit {0}) (as_arguments ps)
without_arguments v [] h = tt
without_arguments v ((n, Some e) ∷ ps) h = (h.0, without_arguments v ps h.1)
without_arguments v ((n, None) ∷ ps) h = without_arguments v ps h

without_terms : (v : ℕ) (ps : List Argument) → NoneMention v ps → AreTerms ps → TermsMentionOnly (λ u. u ≢ v) (λ m k. Unit {0}) (as_terms ps)
without_terms v [] h f = tt
without_terms v ((n, Some e) ∷ ps) h f = (h.0, without_terms v ps h.1 f.1)
without_terms v ((n, None) ∷ ps) h f = absurd f.0

arguments_without : (v : ℕ) (ps : List Argument) → ArgumentsMentionOnly (λ u. u ≢ v) (λ m k. Unit {0}) (as_arguments ps) → NoneMention v ps
arguments_without v [] h = tt
arguments_without v ((n, Some e) ∷ ps) h = (h.0, arguments_without v ps h.1)
arguments_without v ((n, None) ∷ ps) h = arguments_without v ps h

terms_without : (v : ℕ) (ps : List Argument) → AreTerms ps → TermsMentionOnly (λ u. u ≢ v) (λ m k. Unit {0}) (as_terms ps) → NoneMention v ps
terms_without v [] f h = tt
terms_without v ((n, Some e) ∷ ps) f h = (h.0, terms_without v ps f.1 h.1)
terms_without v ((n, None) ∷ ps) f h = absurd f.0

pub without_applied : (v : ℕ) (h : Node) (ps : List Argument) → FitsNode h ps → h ≢ Free v → NoneMention v ps → Without v (applied h ps)
without_applied v (Bound i) ps f n m = tt
without_applied v (Free u) ps f n m = λ e. n (ap Free e)
without_applied v (Sym s) ps f n m = without_arguments v ps m
without_applied v (Meta k) ps f n m = (tt, without_terms v ps m f)

pub none_applied : (v : ℕ) (h : Node) (ps : List Argument) → FitsNode h ps → Without v (applied h ps) → NoneMention v ps
none_applied v (Bound i) ps f h = subst (NoneMention v) (sym f) tt
none_applied v (Free u) ps f h = subst (NoneMention v) (sym f) tt
none_applied v (Sym s) ps f h = arguments_without v ps h
none_applied v (Meta k) ps f h = terms_without v ps f h.1

-- none of the first i arguments mentions the variable
pub record NoneMentionFirst (ts : List Expression) (v i : ℕ) (xs : List Arg) : Type 0 where
  pub none : NoneMention v (map (argument_in ts) (take i xs))

pub none_mention_start : (ts : List Expression) (v : ℕ) (xs : List Arg) → NoneMentionFirst ts v 0 xs
none_mention_start ts v xs = record { none = tt }

none_mention_push : (v : ℕ) (ps : List Argument) (p : Argument) → NoneMention v ps → NoneMention v (p ∷ []) → NoneMention v (ps ++ p ∷ [])
none_mention_push v [] p h k = k
none_mention_push v ((n, Some e) ∷ ps) p h k = (h.0, none_mention_push v ps p h.1 k)
none_mention_push v ((n, None) ∷ ps) p h k = none_mention_push v ps p h k

pub none_mention_none : (ts : List Expression) (v i : ℕ) (xs : List Arg) (x : Arg) → NoneMentionFirst ts v i xs → i < length xs → x ≡ get_or xs i x → x.body ≡ None → NoneMentionFirst ts v (suc i) xs
none_mention_none ts v i xs x h l g b =
    record { none = subst (NoneMention v) (sym (take_more ts i xs x l g)) (none_mention_push v (map (argument_in ts) (take i xs)) (argument_in ts x) h.none (subst (λ c. NoneMention v ((x.binders, option_map (tree ts) c) ∷ [])) (sym b) tt)) }

pub none_mention_some : (ts : List Expression) (v i j : ℕ) (xs : List Arg) (x : Arg) → NoneMentionFirst ts v i xs → i < length xs → x ≡ get_or xs i x → x.body ≡ Some j → Without v (tree ts j) → NoneMentionFirst ts v (suc i) xs
none_mention_some ts v i j xs x h l g b w =
    record { none = subst (NoneMention v) (sym (take_more ts i xs x l g)) (none_mention_push v (map (argument_in ts) (take i xs)) (argument_in ts x) h.none (subst (λ c. NoneMention v ((x.binders, option_map (tree ts) c) ∷ [])) (sym b) (w, tt))) }

pub without_all : (ts : List Expression) (v e i : ℕ) (xs : List Arg) → HasArguments ts e xs → node_of (tree ts e) ≢ Free v → NoneMentionFirst ts v i xs → length xs ≤ i → Without v (tree ts e)
without_all ts v e i xs h n m l =
    let t = tree ts e in
    let none : NoneMention v (arguments_of t) = subst (NoneMention v) (ap (map (argument_in ts)) (take_all i xs l) ∙ sym h.is) m.none in
    subst (Without v) (applied_node_of t) (without_applied v (node_of t) (arguments_of t) (arguments_fit t) n none)

pub mentioned_here : (ts : List Expression) (v e : ℕ) → node_of (tree ts e) ≡ Free v → Without v (tree ts e) → ⊥
mentioned_here ts v e n w = let w' : Without v (free v) = subst (Without v) (node_free (tree ts e) v n) w in w' refl

none_mention_at : (ts : List Expression) (v i j : ℕ) (xs : List Arg) (x : Arg) → NoneMention v (map (argument_in ts) xs) → i < length xs → x ≡ get_or xs i x → x.body ≡ Some j → Without v (tree ts j)
none_mention_at ts v i j [] x h l g b = absurd (omega arith)
none_mention_at ts v zero j (y ∷ xs) x h l g b =
    let h' : NoneMention v ((y.binders, Some (tree ts j)) ∷ map (argument_in ts) xs) = subst (λ c. NoneMention v ((y.binders, option_map (tree ts) c) ∷ map (argument_in ts) xs)) (sym (ap (λ z. z.body) g) ∙ b) h in
    h'.0
none_mention_at ts v (suc i) j (y ∷ xs) x h l g b = none_mention_at ts v i j xs x (rest v (argument_in ts y) (map (argument_in ts) xs) h) (omega arith) g b
  where
    rest : (v : ℕ) (p : Argument) (ps : List Argument) → NoneMention v (p ∷ ps) → NoneMention v ps
    rest v (n, Some e) ps h = h.1
    rest v (n, None) ps h = h

pub mentioned_argument : (ts : List Expression) (v e i j : ℕ) (xs : List Arg) (x : Arg) → HasArguments ts e xs → i < length xs → x ≡ get_or xs i x → x.body ≡ Some j → (Without v (tree ts j) → ⊥) → Without v (tree ts e) → ⊥
mentioned_argument ts v e i j xs x h l g b n w =
    let t = tree ts e in
    let w' : Without v (applied (node_of t) (arguments_of t)) = subst (Without v) (sym (applied_node_of t)) w in
    n (none_mention_at ts v i j xs x (subst (NoneMention v) h.is (none_applied v (node_of t) (arguments_of t) (arguments_fit t) w')) l g b)
