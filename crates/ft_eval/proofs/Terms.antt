-- Expressions in a row.
use Rattle.std.proofs.Common.{◌≡◌, ◌≤◌, ◌∙◌, List, [], ◌∷◌, ◌-◌, length, get_or, drop, take, ap, ap₂, sym, refl, subst, Some, Err, map, arith}
use Rattle.std.proofs.Math.Seq.{take-length}
use Rattle.ft_grammar.specs.declared.syntax.Ast.{Ast}
use Rattle.ft_meaning.specs.Trees.{form, forms, and_form}
use Rattle.ft_meaning.specs.Values.{Run, halts, stuck, State as Running}
use Rattle.ft_meaning.specs.Values as meaning
use Rattle.ft_meaning.specs.Forms.{value_or_rule}
use Rattle.ft_eval.specs.Asking.{AsksNothing, AskNothing}

-- what is left of a list after its first member, as it is cut out of it
others : {A : Type 0} (x : A) (xs : List A) → take (length (x ∷ xs) - 1) xs ≡ xs
others x xs = ap (λ n. take n xs) (omega arith) ∙ take-length xs

-- the first and the others
pub forms_parts : (es : List Ast) (e : Ast) → 1 ≤ length es → e ≡ get_or es 0 e
    → forms (map form es) ≡ and_form (form e) (forms (map form (take (length es - 1) (drop 1 es))))
forms_parts [] e l is = absurd (omega (arith, l))
forms_parts (x ∷ es) e l is =
    ap₂ and_form (ap form (sym is)) (ap (λ xs. forms (map form xs)) (sym (others x es)))

-- they ask nothing
pub first_asks : (es : List Ast) (e : Ast) → 1 ≤ length es → e ≡ get_or es 0 e → AskNothing (forms (map form es))
    → AsksNothing (form e) × AskNothing (forms (map form (take (length es - 1) (drop 1 es))))
first_asks es e l is h = subst AskNothing (forms_parts es e l is) h

-- the value of a name takes no arguments
pub named_alone : (es : List Ast) (v : meaning.Value) (o : Run meaning.Value) (s : Running) → 1 ≤ length es
    → value_or_rule (Some v) (forms (map form es)) o s ≡ (Err (halts stuck), s)
named_alone [] v o s l = absurd (omega (arith, l))
named_alone (x ∷ es) v o s l = refl
