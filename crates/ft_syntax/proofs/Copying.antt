-- The loop that copies the arguments of an application of another table.
use Rattle.std.proofs.Common.{◌≡◌, ℕ, suc, ◌<◌, ◌≤◌, List, [], ◌∷◌, ◌++◌, length, get_or, take, map, Option, Some, option_map, refl, sym, ap, ap₂, ◌∙◌, subst}
use Rattle.std.proofs.Math.Seq.{take-suc}
use Rattle.std.proofs.lemmas.List.{map-append}
use Rattle.ft_theory.specs.Expressions.{Expression}
use Rattle.ft_syntax.specs.Arguments.{node_of, applied, FitsNode}
use Rattle.ft_syntax.specs.Table.{tree, Extends, argument_in, BodyBelow, ArgumentsBelow}
use Rattle.ft_syntax.specs.Laws.{extends_same, extends_trans, length_extends, arguments_extend, arguments_longer, arguments_push}
use Rattle.ft_syntax.specs.Invariant.{IsApplied}
use Rattle.ft_syntax.specs.declared.syntax.Arg.{Arg}
use Rattle.ft_syntax.specs.declared.syntax.Node.{Node}
use Rattle.ft_syntax.proofs.Lists.{take_all}
use Rattle.ft_syntax.proofs.Changing.{applied_tree, applied_fits}

-- the first i arguments of the other table are copied
pub record Copying (other old cur : List Expression) (i : ℕ) (xs ys : List Arg) : Type 0 where
  pub goes_on : Extends old cur
  pub below : ArgumentsBelow (length cur) ys
  pub done : map (argument_in cur) ys ≡ map (argument_in other) (take i xs)

pub copying_start : (other old : List Expression) (xs : List Arg) → Copying other old old 0 xs []
copying_start other old xs = record { goes_on = extends_same old old refl; below = tt; done = refl }

pub copying_more : (other old cur next : List Expression) (i : ℕ) (xs ys : List Arg) (x : Arg) (b : Option ℕ) → Copying other old cur i xs ys → Extends cur next → i < length xs → x ≡ get_or xs i x → BodyBelow (length next) b →
    option_map (tree next) b ≡ option_map (tree other) x.body → Copying other old next (suc i) xs (ys ++ record { binders = x.binders; body = b } ∷ [])
copying_more other old cur next i xs ys x b m g l h w q =
    let y : Arg = record { binders = x.binders; body = b } in
    record {
      goes_on = extends_trans old cur next m.goes_on g;
      below = arguments_push (length next) ys y (arguments_longer (length cur) (length next) ys (length_extends cur next g) m.below) w;
      done = map-append (argument_in next) ys (y ∷ [])
          ∙ ap₂ (λ ps d. ps ++ (x.binders, d) ∷ []) (arguments_extend cur next ys g m.below ∙ m.done) q
          ∙ sym (ap (map (argument_in other)) (take-suc xs i x l ∙ ap (λ z. take i xs ++ z ∷ []) (sym h)) ∙ map-append (argument_in other) (take i xs) (x ∷ []));
    }

copying_all : (other old cur : List Expression) (i : ℕ) (xs ys : List Arg) → Copying other old cur i xs ys → length xs ≤ i → map (argument_in cur) ys ≡ map (argument_in other) xs
copying_all other old cur i xs ys m l = m.done ∙ ap (map (argument_in other)) (take_all i xs l)

pub copying_fits : (other old cur : List Expression) (node : Node) (e i : ℕ) (xs ys : List Arg) → node ≡ node_of (tree other e) → IsApplied other e xs → Copying other old cur i xs ys → length xs ≤ i → FitsNode node (map (argument_in cur) ys)
copying_fits other old cur node e i xs ys n a m l = subst (λ h. FitsNode h (map (argument_in cur) ys)) (sym n) (subst (FitsNode (node_of (tree other e))) (sym (copying_all other old cur i xs ys m l)) (applied_fits other e xs a))

pub copying_end : (other old cur : List Expression) (node : Node) (e i : ℕ) (xs ys : List Arg) → node ≡ node_of (tree other e) → IsApplied other e xs → Copying other old cur i xs ys → length xs ≤ i → applied node (map (argument_in cur) ys) ≡ tree other e
copying_end other old cur node e i xs ys n a m l = ap₂ applied n (copying_all other old cur i xs ys m l) ∙ sym (applied_tree other e xs a)

pub copying_goes_on : (other old cur next : List Expression) (i : ℕ) (xs ys : List Arg) → Copying other old cur i xs ys → Extends cur next → Extends old next
copying_goes_on other old cur next i xs ys m g = extends_trans old cur next m.goes_on g

pub copied_some : (ts us : List Expression) (j r : ℕ) (b : Option ℕ) → b ≡ Some j → tree us r ≡ tree ts j → Some (tree us r) ≡ option_map (tree ts) b
copied_some ts us j r b e h = ap Some h ∙ ap (option_map (tree ts)) (sym e)
