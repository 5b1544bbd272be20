-- Drafts and variables that were bound stay as a state goes further.
use Rattle.std.proofs.Common.{◌≡◌, ◌∙◌, ◌++◌, List, [], ◌∷◌, map, ap, ap₂, refl, sym, subst}
use Rattle.std.specs.Prelude.{reverse}
use Rattle.std.proofs.lemmas.List.{reverse-append}
use Rattle.ft_rules.specs.Drafts.{Drafted, IsDraftOver, draft_in}
use Rattle.ft_rules.proofs.Mets.{drafts_stay, same_later}
use Rattle.ft_running.specs.Asked.{IsVariableIn}
use Rattle.ft_running.specs.Evaluation.{Evaluation, GoesFurther}
use Rattle.ft_running.proofs.Declared.{variable_further, variable_means_further}
use Rattle.ft_drafting.specs.Drafting.{IsDraftIn, draft_over, AreBoundIn, bound_over, bounds_over}
use Rattle.ft_drafting.specs.declared.binding.Bound.{Bound}

pub draft_further : (e f : Evaluation) (d : Drafted) → GoesFurther e f → IsDraftIn e d → IsDraftIn f d
draft_further e f d g is =
    subst (λ items. IsDraftOver items d) (sym g.list.1) (drafts_stay e.list.items g.list.0 d is)

pub draft_same_further : (e f : Evaluation) (d : Drafted) → GoesFurther e f → IsDraftIn e d → draft_over f d ≡ draft_over e d
draft_same_further e f d g is = ap (λ items. draft_in items d) g.list.1 ∙ same_later e.list.items g.list.0 d is

pub bound_further : (e f : Evaluation) (xs : List Bound) → GoesFurther e f → AreBoundIn e xs → AreBoundIn f xs
bound_further e f [] g is = tt
bound_further e f (x ∷ xs) g is = (variable_further e f x.variable g is.0, bound_further e f xs g is.1)

-- each stands for the same
pub one_same_further : (e f : Evaluation) (x : Bound) → GoesFurther e f → IsVariableIn e x.variable → bound_over f x ≡ bound_over e x
one_same_further e f x g is = ap (λ v. record { at = x.at; variable = v }) (variable_means_further e f x.variable g is)

map_further : (e f : Evaluation) (xs : List Bound) → GoesFurther e f → AreBoundIn e xs → map (bound_over f) xs ≡ map (bound_over e) xs
map_further e f [] g is = refl
map_further e f (x ∷ xs) g is = ap₂ (λ y ys. y ∷ ys) (one_same_further e f x g is.0) (map_further e f xs g is.1)

-- what is done to each may be done before they are turned round
map_append : {A B : Type 0} (f : A → B) (xs ys : List A) → map f (xs ++ ys) ≡ map f xs ++ map f ys
map_append f [] ys = refl
map_append f (x ∷ xs) ys = ap (λ zs. f x ∷ zs) (map_append f xs ys)

map_reverse : {A B : Type 0} (f : A → B) (xs : List A) → map f (reverse xs) ≡ reverse (map f xs)
map_reverse f [] = refl
map_reverse f (x ∷ xs) =
    ap (map f) (reverse-append (x ∷ []) xs)
    ∙ map_append f (reverse xs) (x ∷ [])
    ∙ ap (λ ys. ys ++ f x ∷ []) (map_reverse f xs)
    ∙ sym (reverse-append (f x ∷ []) (map f xs))

pub bounds_same_further : (e f : Evaluation) (xs : List Bound) → GoesFurther e f → AreBoundIn e xs → bounds_over f xs ≡ bounds_over e xs
bounds_same_further e f xs g is =
    map_reverse (bound_over f) xs ∙ ap reverse (map_further e f xs g is) ∙ sym (map_reverse (bound_over e) xs)
