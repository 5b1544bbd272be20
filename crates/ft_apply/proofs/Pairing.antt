-- The instance that has arguments for premises.
use Rattle.std.proofs.Common.{◌≡◌, ◌∙◌, ℕ, suc, ◌<◌, ◌≤◌, Bool, true, false, cond, nat_eq, ◌&&◌, Option, Some, None, List, [], ◌∷◌, ◌++◌, length, drop, get_or, refl, sym, ap, ap₂, subst, append_assoc, append-nil, drop_of_length-le}
use Rattle.std.specs.Prelude.{option_map, is_some}
use Rattle.std.specs.List.{zip}
use Rattle.std.proofs.Math.Path.{fun_ext}
use Rattle.ft_theory.specs.Expressions.{Expression}
use Rattle.ft_theory.specs.Rules.{instance_of}
use Rattle.ft_items.specs.Item.{Item}
use Rattle.ft_syntax.specs.Arguments.{with_argument}
use Rattle.ft_syntax.specs.Table.{tree, arguments_in, ArgumentsBelow}
use Rattle.ft_syntax.specs.Instances.{body_for, instance_in, PairsBelow}
use Rattle.ft_syntax.specs.declared.syntax.Arg.{Arg}
use Rattle.ft_apply.specs.Named.{premises_in, boundary_of_met}
use Rattle.ft_apply.proofs.Naming.{drop_one}

-- the loop over the arguments
pub record Pairing (ms : List ℕ) (hs : List Arg) (i : ℕ) (pairs : List (ℕ × Arg)) : Type 0 where
  pub done : pairs ++ zip (drop i ms) (drop i hs) ≡ zip ms hs

pub pairing_start : (ms : List ℕ) (hs : List Arg) → Pairing ms hs 0 []
pairing_start ms hs = record { done = refl }

pub pairing_more : (ms : List ℕ) (hs : List Arg) (i m : ℕ) (h : Arg) (pairs next : List (ℕ × Arg)) → Pairing ms hs i pairs → i < length ms → i < length hs → m ≡ get_or ms i m → h ≡ get_or hs i h → next ≡ pairs ++ (m, h) ∷ []
    → Pairing ms hs (suc i) next
pairing_more ms hs i m h pairs next p l k e f n = subst (Pairing ms hs (suc i)) (sym n) (record {
  done =
      append_assoc pairs ((m, h) ∷ []) (zip (drop (suc i) ms) (drop (suc i) hs))
      ∙ ap₂ (λ xs ys. pairs ++ zip xs ys) (sym (drop_one ms i m l e)) (sym (drop_one hs i h k f))
      ∙ p.done;
})

zip_none : (ms : List ℕ) → zip {K = ℕ} {X = Arg} ms [] ≡ []
zip_none [] = refl
zip_none (m ∷ ms) = refl

pub pairing_end : (ms : List ℕ) (hs : List Arg) (i : ℕ) (pairs : List (ℕ × Arg)) → Pairing ms hs i pairs → length hs ≤ i → pairs ≡ zip ms hs
pairing_end ms hs i pairs p l =
    sym (append-nil pairs)
    ∙ ap (λ r. pairs ++ r) (sym (ap (zip (drop i ms)) (drop_of_length-le hs l) ∙ zip_none (drop i ms)))
    ∙ p.done

-- the pairs are over the table
pub pairs_below : (n : ℕ) (ms : List ℕ) (hs : List Arg) → ArgumentsBelow n hs → PairsBelow n (zip ms hs)
pairs_below n [] hs h = tt
pairs_below n (m ∷ ms) [] h = tt
pairs_below n (m ∷ ms) (a ∷ hs) h = (h.0, pairs_below n ms hs h.1)

-- the pairs are the instance
with_none : (ts : List Expression) (b : Bool) (r : Option ℕ) → option_map (tree ts) (cond (b && false) None r) ≡ option_map (tree ts) r
with_none ts true r = refl
with_none ts false r = refl

with_some : (ts : List Expression) (b : Bool) (e : ℕ) (r : Option ℕ) → option_map (tree ts) (cond (b && true) (Some e) r) ≡ cond b (Some (tree ts e)) (option_map (tree ts) r)
with_some ts true e r = refl
with_some ts false e r = refl

body_is : (ts : List Expression) (items : List Item) (ms : List ℕ) (hs : List Arg) (m k : ℕ) → option_map (tree ts) (body_for (zip ms hs) m k) ≡ instance_of (premises_in items ms) (arguments_in ts hs) m k
body_is ts items [] hs m k = refl
body_is ts items (n ∷ ms) [] m k = refl
body_is ts items (n ∷ ms) (a ∷ hs) m k = go a.body (body_is ts items ms hs m k)
  where
    go : (o : Option ℕ) → option_map (tree ts) (body_for (zip ms hs) m k) ≡ instance_of (premises_in items ms) (arguments_in ts hs) m k
        → option_map (tree ts) (cond (nat_eq m n && nat_eq k a.binders && is_some o) o (body_for (zip ms hs) m k))
        ≡ instance_of ((n, boundary_of_met items n) ∷ premises_in items ms) (with_argument (a.binders, option_map (tree ts) o) (arguments_in ts hs)) m k
    go None e = with_none ts (nat_eq m n && nat_eq k a.binders) (body_for (zip ms hs) m k) ∙ e
    go (Some b) e = with_some ts (nat_eq m n && nat_eq k a.binders) b (body_for (zip ms hs) m k) ∙ ap (cond (nat_eq m n && nat_eq k a.binders) (Some (tree ts b))) e

pub instance_is : (ts : List Expression) (items : List Item) (ms : List ℕ) (hs : List Arg) → instance_in ts (zip ms hs) ≡ instance_of (premises_in items ms) (arguments_in ts hs)
instance_is ts items ms hs = fun_ext (λ m. fun_ext (λ k. body_is ts items ms hs m k))
