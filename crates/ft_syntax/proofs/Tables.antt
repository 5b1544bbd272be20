-- Laws of tables.
use Rattle.std.proofs.Common.{◌≡◌, ℕ, zero, suc, ◌+◌, ◌<◌, List, [], ◌∷◌, ◌++◌, length, get_or, map, Some, option_map, refl, sym, ap, ap₂, ◌∙◌, subst, arith, length-append, append_assoc, append-nil, add-zero, slice_get, take, drop, ◌-◌, ◌≤◌}
use Rattle.std.proofs.lemmas.Option.{slice_get_read, slice_get-map, same_Some}
use Rattle.std.proofs.lemmas.List.{length-map, length-drop, take-append-le, drop-append-le}
use Rattle.std.proofs.Math.Seq.{drop-append_seam, take-length}
use Rattle.ft_syntax.proofs.Parts.{node_of-applied, arguments_of-applied, applied_node_of}
use Rattle.ft_theory.specs.Expressions.{Expression}
use Rattle.ft_theory.specs.Small.{depth, size, IsSmall}
use Rattle.ft_syntax.specs.Arguments.{applied, FitsNode, node_of, arguments_of}
use Rattle.ft_syntax.specs.Table.{tree, Extends, argument_in, BodyBelow, ArgumentsBelow}
use Rattle.ft_syntax.specs.Laws.{argument_below, arguments_extend}
use Rattle.ft_syntax.specs.Invariant.{own, row_tree, trees_after, IsGoodRow, AreGoodRows, HasArguments}
use Rattle.ft_syntax.specs.declared.syntax.Arg.{Arg}
use Rattle.ft_syntax.specs.declared.syntax.Node.{Node}
use Rattle.ft_syntax.specs.declared.table.Row.{Row}

-- the arguments of a row stay where others are put behind them
pub own_append : (parts more : List Arg) (r : Row) → r.first ≤ r.end → r.end ≤ length parts → own (parts ++ more) r ≡ own parts r
own_append parts more r o t =
    let n : r.first ≤ length parts = omega arith in
    let left : length (drop r.first parts) ≡ length parts - r.first = length-drop r.first parts in
    ap (take (r.end - r.first)) (drop-append-le r.first parts more n) ∙ take-append-le (r.end - r.first) (drop r.first parts) more (omega arith)

-- the arguments that were put last
pub own_last : (parts args : List Arg) (r : Row) → r.first ≡ length parts → r.end ≡ length (parts ++ args) → own (parts ++ args) r ≡ args
own_last parts args r f e =
    let n : r.end - r.first ≡ length args = omega (arith, length-append parts args) in
    ap₂ (λ k i. take k (drop i (parts ++ args))) n f ∙ ap (take (length args)) (drop-append_seam parts args) ∙ take-length args

row_longer : (parts more : List Arg) (ts : List Expression) (r : Row) → IsGoodRow parts ts r → row_tree (parts ++ more) ts r ≡ row_tree parts ts r
row_longer parts more ts r g = ap (λ xs. applied r.node (map (argument_in ts) xs)) (own_append parts more r g.ordered g.there)

trees_longer : (parts more : List Arg) (ts : List Expression) (rs : List Row) → AreGoodRows parts ts rs → trees_after (parts ++ more) ts rs ≡ trees_after parts ts rs
trees_longer parts more ts [] g = refl
trees_longer parts more ts (r ∷ rs) g =
    ap (λ t. trees_after (parts ++ more) (ts ++ t ∷ []) rs) (row_longer parts more ts r g.0) ∙ trees_longer parts more (ts ++ row_tree parts ts r ∷ []) rs g.1

good_row_longer : (parts more : List Arg) (ts : List Expression) (r : Row) → IsGoodRow parts ts r → IsGoodRow (parts ++ more) ts r
good_row_longer parts more ts r g =
    let same : own parts r ≡ own (parts ++ more) r = sym (own_append parts more r g.ordered g.there) in
    let tree_same : row_tree parts ts r ≡ row_tree (parts ++ more) ts r = sym (row_longer parts more ts r g) in
    record {
      ordered = g.ordered;
      there = omega (arith, g.there, length-append parts more);
      below = subst (ArgumentsBelow (length ts)) same g.below;
      fits = subst (λ xs. FitsNode r.node (map (argument_in ts) xs)) same g.fits;
      depth_is = g.depth_is ∙ ap depth tree_same;
      size_is = g.size_is ∙ ap size tree_same;
      small = subst IsSmall tree_same g.small;
    }

good_longer : (parts more : List Arg) (ts : List Expression) (rs : List Row) → AreGoodRows parts ts rs → AreGoodRows (parts ++ more) ts rs
good_longer parts more ts [] g = tt
good_longer parts more ts (r ∷ rs) g = (
  good_row_longer parts more ts r g.0,
  subst (λ t. AreGoodRows (parts ++ more) (ts ++ t ∷ []) rs) (sym (row_longer parts more ts r g.0)) (good_longer parts more (ts ++ row_tree parts ts r ∷ []) rs g.1),
)

-- where arguments are put and no row
pub trees_kept : (parts now args : List Arg) (rs : List Row) → now ≡ parts ++ args → AreGoodRows parts [] rs → trees_after now [] rs ≡ trees_after parts [] rs
trees_kept parts now args rs h g = ap (λ p. trees_after p [] rs) h ∙ trees_longer parts args [] rs g

pub rows_kept : (parts now args : List Arg) (rs : List Row) → now ≡ parts ++ args → AreGoodRows parts [] rs → AreGoodRows now [] rs
rows_kept parts now args rs h g = subst (λ p. AreGoodRows p [] rs) (sym h) (good_longer parts args [] rs g)

-- where a row is put behind the others
trees_append : (parts : List Arg) (ts : List Expression) (rs : List Row) (r : Row) → trees_after parts ts (rs ++ r ∷ []) ≡ trees_after parts ts rs ++ row_tree parts (trees_after parts ts rs) r ∷ []
trees_append parts ts [] r = refl
trees_append parts ts (d ∷ rs) r = trees_append parts (ts ++ row_tree parts ts d ∷ []) rs r

good_append : (parts : List Arg) (ts : List Expression) (rs : List Row) (r : Row) → AreGoodRows parts ts rs → IsGoodRow parts (trees_after parts ts rs) r → AreGoodRows parts ts (rs ++ r ∷ [])
good_append parts ts [] r h g = (g, tt)
good_append parts ts (d ∷ rs) r h g = (h.0, good_append parts (ts ++ row_tree parts ts d ∷ []) rs r h.1 g)

pub length_trees : (parts : List Arg) (ts : List Expression) (rs : List Row) → length (trees_after parts ts rs) ≡ length ts + length rs
length_trees parts ts [] = omega arith
length_trees parts ts (r ∷ rs) = omega (arith, length_trees parts (ts ++ row_tree parts ts r ∷ []) rs, length-append ts (row_tree parts ts r ∷ []))

-- a row with its arguments, which are put last
pub record IsNewRow (parts args : List Arg) (ts : List Expression) (r : Row) : Type 0 where
  pub first_is : r.first ≡ length parts
  pub end_is : r.end ≡ length (parts ++ args)
  pub below : ArgumentsBelow (length ts) args
  pub fits : FitsNode r.node (map (argument_in ts) args)
  pub depth_is : r.depth ≡ depth (applied r.node (map (argument_in ts) args))
  pub size_is : r.size ≡ size (applied r.node (map (argument_in ts) args))
  pub small : IsSmall (applied r.node (map (argument_in ts) args))

new_row : (parts args : List Arg) (ts : List Expression) (r : Row) → IsNewRow parts args ts r → IsGoodRow (parts ++ args) ts r
new_row parts args ts r n =
    let same : args ≡ own (parts ++ args) r = sym (own_last parts args r n.first_is n.end_is) in
    record {
      ordered = omega (arith, n.first_is, n.end_is, length-append parts args);
      there = omega (arith, n.end_is);
      below = subst (ArgumentsBelow (length ts)) same n.below;
      fits = subst (λ xs. FitsNode r.node (map (argument_in ts) xs)) same n.fits;
      depth_is = n.depth_is ∙ ap (λ xs. depth (applied r.node (map (argument_in ts) xs))) same;
      size_is = n.size_is ∙ ap (λ xs. size (applied r.node (map (argument_in ts) xs))) same;
      small = subst (λ xs. IsSmall (applied r.node (map (argument_in ts) xs))) same n.small;
    }

pub trees_pushed : (parts now args : List Arg) (rs : List Row) (r : Row) → now ≡ parts ++ args → AreGoodRows parts [] rs → IsNewRow parts args (trees_after parts [] rs) r →
    trees_after now [] (rs ++ r ∷ []) ≡ trees_after parts [] rs ++ applied r.node (map (argument_in (trees_after parts [] rs)) args) ∷ []
trees_pushed parts now args rs r h g n =
    let ts = trees_after parts [] rs in
    let kept : trees_after now [] rs ≡ ts = trees_kept parts now args rs h g in
    let own_is : own now r ≡ args = ap (λ p. own p r) h ∙ own_last parts args r n.first_is n.end_is in
    trees_append now [] rs r ∙ ap₂ (λ us xs. us ++ applied r.node (map (argument_in us) xs) ∷ []) kept own_is

pub rows_pushed : (parts now args : List Arg) (rs : List Row) (r : Row) → now ≡ parts ++ args → AreGoodRows parts [] rs → IsNewRow parts args (trees_after parts [] rs) r → AreGoodRows now [] (rs ++ r ∷ [])
rows_pushed parts now args rs r h g n =
    let kept : trees_after now [] rs ≡ trees_after parts [] rs = trees_kept parts now args rs h g in
    good_append now [] rs r (rows_kept parts now args rs h g)
    (subst (λ us. IsGoodRow now us r) (sym kept) (subst (λ p. IsGoodRow p (trees_after parts [] rs) r) (sym h) (new_row parts args (trees_after parts [] rs) r n)))

-- a table goes on from what it began with
trees_extend : (parts : List Arg) (ts : List Expression) (rs : List Row) → (more : List Expression) × (trees_after parts ts rs ≡ ts ++ more)
trees_extend parts ts [] = ([], sym (append-nil ts))
trees_extend parts ts (r ∷ rs) =
    let l = trees_extend parts (ts ++ row_tree parts ts r ∷ []) rs in (row_tree parts ts r ∷ l.0, l.1 ∙ append_assoc ts (row_tree parts ts r ∷ []) l.0)

get_last : (ts : List Expression) (t : Expression) (us : List Expression) → tree (ts ++ t ∷ us) (length ts) ≡ t
get_last [] t us = refl
get_last (x ∷ ts) t us = get_last ts t us

-- what is known of a row of a table
pub record IsRow (ts : List Expression) (e : ℕ) (r : Row) : Type 0 where
  pub node_is : node_of (tree ts e) ≡ r.node
  pub depth_is : r.depth ≡ depth (tree ts e)
  pub size_is : r.size ≡ size (tree ts e)
  pub small : IsSmall (tree ts e)
  pub within : e < length ts

-- and of its arguments
pub record IsRowWith (parts : List Arg) (ts : List Expression) (e : ℕ) (r : Row) : Type 0 where
  pub row : IsRow ts e r
  pub ordered : r.first ≤ r.end
  pub there : r.end ≤ length parts
  pub arguments : HasArguments ts e (own parts r)

first_row : (parts : List Arg) (ts : List Expression) (r : Row) (rs : List Row) → IsGoodRow parts ts r → IsRowWith parts (trees_after parts ts (r ∷ rs)) (length ts) r
first_row parts ts r rs g =
    let t = row_tree parts ts r in
    let x = trees_extend parts (ts ++ t ∷ []) rs in
    let all = trees_after parts ts (r ∷ rs) in
    let ps = map (argument_in ts) (own parts r) in
    let whole : all ≡ ts ++ t ∷ x.0 = x.1 ∙ append_assoc ts (t ∷ []) x.0 in
    let at : tree all (length ts) ≡ t = ap (λ us. tree us (length ts)) whole ∙ get_last ts t x.0 in
    let within : length ts < length all = omega (arith, ap length whole, length-append ts (t ∷ x.0)) in
    let args : map (argument_in all) (own parts r) ≡ ps = arguments_extend ts all (own parts r) (t ∷ x.0, whole) g.below in
    record {
      row = record {
        node_is = ap node_of at ∙ node_of-applied r.node ps;
        depth_is = g.depth_is ∙ ap depth (sym at);
        size_is = g.size_is ∙ ap size (sym at);
        small = subst IsSmall (sym at) g.small;
        within = within;
      };
      ordered = g.ordered;
      there = g.there;
      arguments = record { within = within; is = ap arguments_of at ∙ arguments_of-applied r.node ps g.fits ∙ sym args; below = g.below };
    }

row_at : (parts : List Arg) (ts : List Expression) (rs : List Row) (e : ℕ) (r : Row) → AreGoodRows parts ts rs → slice_get rs e ≡ Some r → IsRowWith parts (trees_after parts ts rs) (length ts + e) r
row_at parts ts [] e r g h = cc
row_at parts ts (d ∷ rs) zero r g h =
    subst (λ k. IsRowWith parts (trees_after parts ts (d ∷ rs)) k r) (sym (add-zero (length ts)))
    (subst (λ r. IsRowWith parts (trees_after parts ts (d ∷ rs)) (length ts) r) (same_Some d r h) (first_row parts ts d rs g.0))
row_at parts ts (d ∷ rs) (suc e) r g h =
    subst (λ k. IsRowWith parts (trees_after parts ts (d ∷ rs)) k r) (omega (arith, length-append ts (row_tree parts ts d ∷ [])))
    (row_at parts (ts ++ row_tree parts ts d ∷ []) rs e r g.1 h)

row_with : (parts : List Arg) (rs : List Row) (e : ℕ) (r : Row) → AreGoodRows parts [] rs → e < length rs → r ≡ get_or rs e r → IsRowWith parts (trees_after parts [] rs) e r
row_with parts rs e r g l h = subst (λ k. IsRowWith parts (trees_after parts [] rs) k r) (omega arith) (row_at parts [] rs e r g (slice_get_read rs (length rs) e r refl l h))

pub row_got : (parts : List Arg) (rs : List Row) (e : ℕ) (r : Row) → AreGoodRows parts [] rs → slice_get rs e ≡ Some r → IsRowWith parts (trees_after parts [] rs) e r
row_got parts rs e r g h = subst (λ k. IsRowWith parts (trees_after parts [] rs) k r) (omega arith) (row_at parts [] rs e r g h)

pub row_of : (parts : List Arg) (rs : List Row) (e : ℕ) (r : Row) → AreGoodRows parts [] rs → e < length rs → r ≡ get_or rs e r → IsRow (trees_after parts [] rs) e r
row_of parts rs e r g l h = (row_with parts rs e r g l h).row

pub row_first : (parts : List Arg) (rs : List Row) (e : ℕ) (r : Row) → AreGoodRows parts [] rs → e < length rs → r ≡ get_or rs e r → r.first ≤ r.end
row_first parts rs e r g l h = (row_with parts rs e r g l h).ordered

pub row_end : (parts : List Arg) (rs : List Row) (e : ℕ) (r : Row) → AreGoodRows parts [] rs → e < length rs → r ≡ get_or rs e r → r.end ≤ length parts
row_end parts rs e r g l h = (row_with parts rs e r g l h).there

pub row_arguments : (parts now : List Arg) (rs : List Row) (e : ℕ) (r : Row) → AreGoodRows parts [] rs → e < length rs → r ≡ get_or rs e r → now ≡ parts → HasArguments (trees_after parts [] rs) e (own now r)
row_arguments parts now rs e r g l h s = subst (λ p. HasArguments (trees_after parts [] rs) e (own p r)) (sym s) (row_with parts rs e r g l h).arguments

-- a table that goes on
pub extends_last : (ts us : List Expression) (t : Expression) → us ≡ ts ++ t ∷ [] → Extends ts us
extends_last ts us t h = (t ∷ [], h)

pub tree_last : (ts us : List Expression) (e : ℕ) (t : Expression) → us ≡ ts ++ t ∷ [] → e ≡ length ts → tree us e ≡ t
tree_last ts us e t h l = ap₂ tree h l ∙ get_last ts t []

pub length_last : (ts us : List Expression) (t : Expression) → us ≡ ts ++ t ∷ [] → length us ≡ suc (length ts)
length_last ts us t h = omega (arith, ap length h, length-append ts (t ∷ []))

-- reading arguments
pub count_is : (ts : List Expression) (e : ℕ) (xs : List Arg) → HasArguments ts e xs → length (arguments_of (tree ts e)) ≡ length xs
count_is ts e xs h = ap length h.is ∙ length-map xs (argument_in ts)

pub argument_is : (ts : List Expression) (e i : ℕ) (xs : List Arg) (x : Arg) → HasArguments ts e xs → i < length xs → x ≡ get_or xs i x → slice_get (arguments_of (tree ts e)) i ≡ Some (argument_in ts x)
argument_is ts e i xs x h l g =
    ap (λ ps. slice_get ps i) h.is ∙ slice_get-map (argument_in ts) xs i ∙ ap (option_map (argument_in ts)) (slice_get_read xs (length xs) i x refl l g)

pub body_is : (ts : List Expression) (e i : ℕ) (xs : List Arg) (x : Arg) → HasArguments ts e xs → i < length xs → x ≡ get_or xs i x → BodyBelow e x.body
body_is ts e i xs x h l g = argument_below e i xs x h.below l g

-- the tree of a place that has this node and these arguments
pub tree_of_parts : (ts : List Expression) (e : ℕ) (node : Node) (xs args : List Arg) → HasArguments ts e xs → node_of (tree ts e) ≡ node → xs ≡ args → tree ts e ≡ applied node (map (argument_in ts) args)
tree_of_parts ts e node xs args h n a = sym (applied_node_of (tree ts e)) ∙ ap₂ applied n (h.is ∙ ap (map (argument_in ts)) a)
