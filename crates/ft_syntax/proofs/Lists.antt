-- Lists of arguments of a table.
use Rattle.std.proofs.Common.{◌≡◌, ℕ, zero, suc, ◌<◌, ◌≤◌, List, [], ◌∷◌, ◌++◌, length, get_or, take, map, Some, refl, sym, ap, ◌∙◌, subst, arith}
use Rattle.std.proofs.Math.Seq.{take-suc}
use Rattle.std.proofs.lemmas.List.{map-append}
use Rattle.ft_theory.specs.Expressions.{Expression, also}
use Rattle.ft_syntax.specs.Arguments.{AreTerms, as_terms}
use Rattle.ft_syntax.specs.Table.{tree, argument_in, terms_in, BodyBelow, ArgumentsBelow, AllBelow, term_argument}
use Rattle.ft_syntax.specs.declared.syntax.Arg.{Arg}
use Rattle.ft_syntax.specs.Invariant.{HasArguments}
use Rattle.ft_syntax.proofs.Tables.{body_is}

-- the terms of a metavariable
pub terms_below : (n : ℕ) (es : List ℕ) → AllBelow n es → ArgumentsBelow n (map term_argument es)
terms_below n [] h = tt
terms_below n (e ∷ es) h = (h.0, terms_below n es h.1)

pub terms_fit : (ts : List Expression) (es : List ℕ) → AreTerms (map (argument_in ts) (map term_argument es))
terms_fit ts [] = tt
terms_fit ts (e ∷ es) = (refl, terms_fit ts es)

pub terms_are : (ts : List Expression) (es : List ℕ) → as_terms (map (argument_in ts) (map term_argument es)) ≡ terms_in ts es
terms_are ts [] = refl
terms_are ts (e ∷ es) = ap (λ a. also (tree ts e) a) (terms_are ts es)

-- the body of an argument is a tree of the table
pub body_in : (ts : List Expression) (e i j : ℕ) (xs : List Arg) (x : Arg) → HasArguments ts e xs → i < length xs → x ≡ get_or xs i x → x.body ≡ Some j → (j < e) × (j < length ts)
body_in ts e i j xs x h l g b = let k = subst (BodyBelow e) b (body_is ts e i xs x h l g) in (k, omega (arith, h.within))

pub take_all : (i : ℕ) (xs : List Arg) → length xs ≤ i → take i xs ≡ xs
take_all zero [] l = refl
take_all zero (x ∷ xs) l = absurd (omega arith)
take_all (suc i) [] l = refl
take_all (suc i) (x ∷ xs) l = ap (λ ys. x ∷ ys) (take_all i xs (omega arith))

-- the first arguments and one more
pub take_more : (ts : List Expression) (i : ℕ) (xs : List Arg) (x : Arg) → i < length xs → x ≡ get_or xs i x → map (argument_in ts) (take (suc i) xs) ≡ map (argument_in ts) (take i xs) ++ argument_in ts x ∷ []
take_more ts i xs x l g =
    ap (map (argument_in ts)) (take-suc xs i x l ∙ ap (λ y. take i xs ++ y ∷ []) (sym g)) ∙ map-append (argument_in ts) (take i xs) (x ∷ [])

pub terms_more : (es : List ℕ) (xs : List Arg) (i e : ℕ) → xs ≡ map term_argument (take i es) → i < length es → e ≡ get_or es i e → xs ++ record { binders = 0; body = Some e } ∷ [] ≡ map term_argument (take (suc i) es)
terms_more es xs i e h l g =
    ap (λ ys. ys ++ term_argument e ∷ []) h ∙ sym (ap (map term_argument) (take-suc es i e l ∙ ap (λ y. take i es ++ y ∷ []) (sym g)) ∙ map-append term_argument (take i es) (e ∷ []))
