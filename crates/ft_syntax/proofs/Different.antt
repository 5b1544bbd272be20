-- Tables whose trees are pairwise different.
use Rattle.std.proofs.Common.{◌≡◌, ℕ, ◌<◌, ◌⊎◌, inl, inr, List, [], ◌∷◌, ◌++◌, length, map, Bool, IsTrue, ◌↔◌, Option, Some, None, option_map, refl, sym, ap, ap₂, ◌∙◌, arith, length-append}
use Rattle.std.proofs.lemmas.Bool.Decides.{eqb_tells}
use Rattle.std.proofs.lemmas.List.{get_or_append_left}
use Rattle.std.proofs.lemmas.Option.{same_Some}
use Rattle.std.proofs.Math.Seq.{get_or-append_seam}
use Rattle.ft_theory.specs.Expressions.{Expression, bound}
use Rattle.ft_syntax.specs.Arguments.{Argument, node_of, arguments_of, applied, FitsNode}
use Rattle.ft_syntax.specs.Table.{tree, AreDifferent, IsNew, argument_in, BodyBelow, ArgumentsBelow}
use Rattle.ft_syntax.specs.Laws.{arguments_longer}
use Rattle.ft_syntax.specs.Invariant.{HasArguments}
use Rattle.ft_syntax.specs.declared.syntax.Arg.{Arg}
use Rattle.ft_syntax.specs.declared.syntax.Node.{Node}
use Rattle.ft_syntax.proofs.Chained.{last_or_less}
use Rattle.ft_syntax.proofs.Parts.{applied_node_of, node_of-applied, arguments_of-applied}

pub none_different : AreDifferent []
none_different = record { same = λ d e i j h. absurd (omega arith) }

-- one more tree, which is new
pub different_more : (ts : List Expression) (t : Expression) → AreDifferent ts → IsNew ts t → AreDifferent (ts ++ t ∷ [])
different_more ts t g n = record { same = λ d e i j h. go d e (place d i) (place e j) h }
  where
    last : tree (ts ++ t ∷ []) (length ts) ≡ t
    last = get_or-append_seam ts t [] (bound 0)

    first : (e : ℕ) → e < length ts → tree (ts ++ t ∷ []) e ≡ tree ts e
    first e l = get_or_append_left ts (t ∷ []) (bound 0) e l

    place : (e : ℕ) → e < length (ts ++ t ∷ []) → (e < length ts) ⊎ (e ≡ length ts)
    place e l = elim (eqb_tells e (length ts)) [
      | inl a ↦ inr a.1
      | inr a ↦ inl (last_or_less e (length ts) (omega (arith, l, length-append ts (t ∷ []))) a.1)
    ]

    go : (d e : ℕ) → (d < length ts) ⊎ (d ≡ length ts) → (e < length ts) ⊎ (e ≡ length ts) → tree (ts ++ t ∷ []) d ≡ tree (ts ++ t ∷ []) e → d ≡ e
    go d e (inl a) (inl b) h = g.same d e a b (sym (first d a) ∙ h ∙ first e b)
    go d e (inl a) (inr b) h = absurd (n.none d a (sym (first d a) ∙ h ∙ ap (tree (ts ++ t ∷ [])) b ∙ last))
    go d e (inr a) (inl b) h = absurd (n.none e b (sym (first e b) ∙ sym h ∙ ap (tree (ts ++ t ∷ [])) a ∙ last))
    go d e (inr a) (inr b) h = a ∙ sym b

-- equal trees have equal nodes and arguments
body_back : (ts : List Expression) (b c : Option ℕ) → AreDifferent ts → BodyBelow (length ts) b → BodyBelow (length ts) c → option_map (tree ts) b ≡ option_map (tree ts) c → b ≡ c
body_back ts None None g i j h = refl
body_back ts None (Some e) g i j h = cc
body_back ts (Some d) None g i j h = cc
body_back ts (Some d) (Some e) g i j h = ap Some (g.same d e i j (same_Some (tree ts d) (tree ts e) h))

binders_of : Argument → ℕ
binders_of p = p.0

body_of : Argument → Option Expression
body_of p = p.1

argument_back : (ts : List Expression) (x y : Arg) → AreDifferent ts → BodyBelow (length ts) x.body → BodyBelow (length ts) y.body → argument_in ts x ≡ argument_in ts y → x ≡ y
unfolding binders_of body_of
argument_back ts x y g i j h = ap₂ (λ n b. record { binders = n; body = b }) (ap binders_of h) (body_back ts x.body y.body g i j (ap body_of h))

first_same : (p q : Argument) (ps qs : List Argument) → p ∷ ps ≡ q ∷ qs → p ≡ q
first_same p q ps qs h = cc

rest_same : (p q : Argument) (ps qs : List Argument) → p ∷ ps ≡ q ∷ qs → ps ≡ qs
rest_same p q ps qs h = cc

arguments_back : (ts : List Expression) (xs ys : List Arg) → AreDifferent ts → ArgumentsBelow (length ts) xs → ArgumentsBelow (length ts) ys → map (argument_in ts) xs ≡ map (argument_in ts) ys → xs ≡ ys
arguments_back ts [] [] g i j h = refl
arguments_back ts [] (y ∷ ys) g i j h = cc
arguments_back ts (x ∷ xs) [] g i j h = cc
arguments_back ts (x ∷ xs) (y ∷ ys) g i j h =
    ap₂ (λ z zs. z ∷ zs) (argument_back ts x y g i.0 j.0 (first_same (argument_in ts x) (argument_in ts y) (map (argument_in ts) xs) (map (argument_in ts) ys) h))
    (arguments_back ts xs ys g i.1 j.1 (rest_same (argument_in ts x) (argument_in ts y) (map (argument_in ts) xs) (map (argument_in ts) ys) h))

pub key_same : (ts : List Expression) (e : ℕ) (h : Node) (xs ys : List Arg) → AreDifferent ts → HasArguments ts e xs → ArgumentsBelow (length ts) ys → FitsNode h (map (argument_in ts) ys) → tree ts e ≡ applied h (map (argument_in ts) ys) →
    (node_of (tree ts e) ≡ h) × (xs ≡ ys)
key_same ts e h xs ys g a b f t =
    let ps = map (argument_in ts) ys in (
      ap node_of t ∙ node_of-applied h ps,
      arguments_back ts xs ys g (arguments_longer e (length ts) xs (omega (arith, a.within)) a.below) b (sym a.is ∙ ap arguments_of t ∙ arguments_of-applied h ps f),
    )

pub row_tree_is : (ts : List Expression) (e : ℕ) (h : Node) (xs : List Arg) → HasArguments ts e xs → node_of (tree ts e) ≡ h → tree ts e ≡ applied h (map (argument_in ts) xs)
row_tree_is ts e h xs a n = sym (applied_node_of (tree ts e)) ∙ ap₂ applied n a.is

-- what the test of a row tells
pub is_row : (ts : List Expression) (e : ℕ) (h : Node) (xs ys : List Arg) (t : Bool) → AreDifferent ts → HasArguments ts e xs → ArgumentsBelow (length ts) ys → FitsNode h (map (argument_in ts) ys) → node_of (tree ts e) ≡ h →
    (IsTrue t ↔ (xs ≡ ys)) → IsTrue t ↔ (tree ts e ≡ applied h (map (argument_in ts) ys))
is_row ts e h xs ys t g a b f n s = (
  λ u. row_tree_is ts e h xs a n ∙ ap (λ zs. applied h (map (argument_in ts) zs)) (s.0 u),
  λ u. s.1 (key_same ts e h xs ys g a b f u).1,
)

pub no_row : (ts : List Expression) (e : ℕ) (h : Node) (ys : List Arg) → (node_of (tree ts e) ≡ h → ⊥) → tree ts e ≡ applied h (map (argument_in ts) ys) → ⊥
no_row ts e h ys n t = n (ap node_of t ∙ node_of-applied h (map (argument_in ts) ys))

-- numbers and trees
pub one_number : (ts : List Expression) (d e : ℕ) → AreDifferent ts → d < length ts → e < length ts → tree ts d ≡ tree ts e → d ≡ e
one_number ts d e g i j h = g.same d e i j h
