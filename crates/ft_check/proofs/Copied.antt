-- Arguments copied into another table, one by one.
use Rattle.std.proofs.Common.{◌≡◌, ℕ, ◌+◌, ◌<◌, ◌≤◌, List, [], ◌∷◌, ◌++◌, refl, sym, ap, ap₂, ◌∙◌, subst, length, drop, get_or, map}
use Rattle.std.proofs.lemmas.List.{append_assoc, append-nil, drop_more, map-append}
use Rattle.std.proofs.Math.ListN.{drop_of_length-le}
use Rattle.ft_theory.specs.Expressions.{Expression}
use Rattle.ft_syntax.specs.Arguments.{as_arguments}
use Rattle.ft_syntax.specs.Laws.{arguments_below_extends, arguments_extend, arguments_push}
use Rattle.ft_syntax.specs.Table.{Extends, argument_in, arguments_in, ArgumentsBelow, BodyBelow}
use Rattle.ft_syntax.specs.declared.syntax.Arg.{Arg}

-- The first k arguments of the other table are in this one.
pub record CopiedSoFar (other : List Expression) (list : List Arg) (k : ℕ) (ts : List Expression) (as' : List Arg) : Type 0 where
  pub below : ArgumentsBelow (length ts) as'
  pub same : map (argument_in ts) as' ++ map (argument_in other) (drop k list) ≡ map (argument_in other) list

pub copied_start : (other ts : List Expression) (list : List Arg) → CopiedSoFar other list 0 ts []
copied_start other ts list = record { below = tt; same = refl }

pub copied_more : (other ts us : List Expression) (list as' bs : List Arg) (k : ℕ) (a d x : Arg) → CopiedSoFar other list k ts as' → k < length list → a ≡ get_or list k d → Extends ts us → BodyBelow (length us) x.body
    → argument_in us x ≡ argument_in other a → bs ≡ as' ++ x ∷ [] → CopiedSoFar other list (k + 1) us bs
copied_more other ts us list as' bs k a d x h l e g b f z = subst (CopiedSoFar other list (k + 1) us) (sym z)
    (record {
      below = arguments_push (length us) as' x (arguments_below_extends ts us as' g h.below) b;
      same = ap (λ z. z ++ map (argument_in other) (drop (k + 1) list)) (map-append (argument_in us) as' (x ∷ []))
          ∙ append_assoc (map (argument_in us) as') (argument_in us x ∷ []) (map (argument_in other) (drop (k + 1) list))
          ∙ ap₂ (λ z y. z ++ y ∷ map (argument_in other) (drop (k + 1) list)) (arguments_extend ts us as' g h.below) (f ∙ ap (argument_in other) e)
          ∙ ap (λ z. map (argument_in ts) as' ++ map (argument_in other) z) (sym (drop_more list k d l))
          ∙ h.same;
    })

pub copied_below : (other ts : List Expression) (list as' : List Arg) (k : ℕ) → CopiedSoFar other list k ts as' → ArgumentsBelow (length ts) as'
copied_below other ts list as' k h = h.below

pub copied_end : (other ts : List Expression) (list as' : List Arg) (k : ℕ) → CopiedSoFar other list k ts as' → length list ≤ k → arguments_in ts as' ≡ arguments_in other list
copied_end other ts list as' k h l =
    ap as_arguments (sym (append-nil (map (argument_in ts) as')) ∙ ap (λ z. map (argument_in ts) as' ++ map (argument_in other) z) (sym (drop_of_length-le list l)) ∙ h.same)
