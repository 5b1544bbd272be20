-- Forming expressions in a table, and lists of arguments in one that goes on.
use Rattle.std.proofs.Common.{◌≡◌, ◌∙◌, sym, ap, refl, subst, ℕ, ◌<◌, List, [], ◌∷◌, ◌++◌, length, map, Result, Ok, Err, IfOk, IfErr, false}
use Rattle.std.proofs.lemmas.List.{map-append}
use Rattle.ft_theory.specs.Expressions.{Expression}
use Rattle.ft_theory.specs.Small.{IsSmall, is_small}
use Rattle.ft_items.proofs.SetLemmas.{by_bool}
use Rattle.ft_syntax.specs.Table.{tree, Extends, argument_in, terms_in, BodyBelow, ArgumentsBelow, AllBelow}
use Rattle.ft_syntax.specs.declared.syntax.Arg.{Arg}
use Rattle.ft_syntax.specs.declared.syntax.SynFault.{SynFault}
use Rattle.ft_syntax.specs.declared.syntax.SynFault.TheVariants as refusal
use Rattle.ft_syntax.specs.Laws.{all_below_extends, all_push, arguments_below_extends, arguments_extend, arguments_push, trees_extend}
use Rattle.ft_lines.specs.declared.fault.Fault.{Fault}
use Rattle.ft_lines.specs.Expressions.{terms_of, IsFormed, outcome_of, small, ReadsTree}
use Rattle.ft_items.proofs.Smallness.{small_true, true_small}

not_small : (e : Expression) → (IsSmall e → ⊥) → is_small e ≡ false
not_small e h = by_bool (is_small e ≡ false) (is_small e) (λ t. absurd (h (true_small e t))) (λ f. f)

formed_made : (e : Expression) (table : List Expression) (made : Result ℕ SynFault)
    → IfOk made (λ r. r < length table) → IfOk made (λ r. tree table r ≡ e) → IfOk made (λ _. IsSmall e) → IfErr made (λ f. f ≡ refusal.TooBig → IsSmall e → ⊥)
    → IsFormed e table (outcome_of made)
formed_made e table (Ok r) within is small big = (within, is, small_true e small)
formed_made e table (Err refusal.TooBig) within is small big = λ no. (refl, not_small e (big refl))
formed_made e table (Err refusal.Memory) within is small big = λ no. absurd (no refl)

pub formed_is : (e : Expression) (table : List Expression) (made : Result ℕ SynFault) (r : Result ℕ Fault) → r ≡ outcome_of made
    → IfOk made (λ r. r < length table) → IfOk made (λ r. tree table r ≡ e) → IfOk made (λ _. IsSmall e) → IfErr made (λ f. f ≡ refusal.TooBig → IsSmall e → ⊥)
    → IsFormed e table r
formed_is e table made r same within is small big = subst (IsFormed e table) (sym same) (formed_made e table made within is small big)

-- terms of the table
pub terms_are : (ts : List Expression) (es : List ℕ) → terms_in ts es ≡ terms_of (map (tree ts) es)
terms_are ts [] = refl
terms_are ts (e ∷ es) = ap (Rattle.ft_theory.specs.Expressions.also (tree ts e)) (terms_are ts es)

pub formed_reads : (e : Expression) (table : List Expression) (r : Result ℕ Fault) (cs : List ℕ) → IsFormed e table r → ReadsTree (small e cs) table r cs
unfolding small
formed_reads e table (Ok r) cs h = (h.0, rw h.2 (ap (λ x. Ok (x, cs)) (sym h.1)))
formed_reads e table (Err f) cs h = λ no. rw ((h no).1) (ap Err (sym (h no).0))

-- one more argument, where the table goes on
pub arguments_more : (ts us : List Expression) (found : List Arg) (x : Arg) → Extends ts us → ArgumentsBelow (length ts) found
    → map (argument_in us) (found ++ x ∷ []) ≡ map (argument_in ts) found ++ argument_in us x ∷ []
arguments_more ts us found x goes_on below = map-append (argument_in us) found (x ∷ []) ∙ ap (λ ps. ps ++ argument_in us x ∷ []) (arguments_extend ts us found goes_on below)

pub arguments_below : (ts us : List Expression) (found : List Arg) (x : Arg) → Extends ts us → ArgumentsBelow (length ts) found → BodyBelow (length us) x.body
    → ArgumentsBelow (length us) (found ++ x ∷ [])
arguments_below ts us found x goes_on below body = arguments_push (length us) found x (arguments_below_extends ts us found goes_on below) body

pub terms_more : (ts us : List Expression) (found : List ℕ) (e : ℕ) → Extends ts us → AllBelow (length ts) found
    → map (tree us) (found ++ e ∷ []) ≡ map (tree ts) found ++ tree us e ∷ []
terms_more ts us found e goes_on below = map-append (tree us) found (e ∷ []) ∙ ap (λ ps. ps ++ tree us e ∷ []) (trees_extend ts us found goes_on below)

pub terms_below : (ts us : List Expression) (found : List ℕ) (e : ℕ) → Extends ts us → AllBelow (length ts) found → e < length us → AllBelow (length us) (found ++ e ∷ [])
terms_below ts us found e goes_on below body = all_push (length us) found e (all_below_extends ts us found goes_on below) body
