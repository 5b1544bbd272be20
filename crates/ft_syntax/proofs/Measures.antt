-- The depth and the size of a list of arguments, measured from the first on.
use Rattle.std.proofs.Common.{◌≡◌, ℕ, suc, ◌+◌, ◌^◌, ◌<◌, ◌≤◌, max, List, [], ◌∷◌, length, get_or, drop, map, Option, Some, None, option_map, sym, ap, ◌∙◌, subst, arith, drop-cons, drop_of_length-le}
use Rattle.ft_theory.specs.Expressions.{Expression}
use Rattle.ft_theory.specs.Small.{depth, size, IsSmall}
use Rattle.ft_syntax.specs.Arguments.{Argument}
use Rattle.ft_syntax.specs.Table.{tree, argument_in, ArgumentsBelow}
use Rattle.ft_syntax.specs.Measures.{greatest_depth, total_size, AllNumbersFit, AreSmall}
use Rattle.ft_syntax.specs.declared.syntax.Arg.{Arg}

-- d and z are the depth and the size of the arguments before the rest
pub record Measured (ts : List Expression) (d z : ℕ) (rest all : List Arg) : Type 0 where
  pub depth_is : max d (greatest_depth (map (argument_in ts) rest)) ≡ greatest_depth (map (argument_in ts) all)
  pub size_is : z + total_size (map (argument_in ts) rest) ≡ total_size (map (argument_in ts) all)
  pub to : AllNumbersFit (map (argument_in ts) rest) → AllNumbersFit (map (argument_in ts) all)
  pub from : AllNumbersFit (map (argument_in ts) all) → AllNumbersFit (map (argument_in ts) rest)
  pub below : ArgumentsBelow (length ts) rest

pub measured_start : (ts : List Expression) (all : List Arg) → ArgumentsBelow (length ts) all → Measured ts 0 0 all all
measured_start ts all h = record { depth_is = omega arith; size_is = omega arith; to = λ f. f; from = λ f. f; below = h }

measured_none_cons : (ts : List Expression) (d z n : ℕ) (rest all : List Arg) → Measured ts d z (record { binders = n; body = None } ∷ rest) all → n < 2 ^ 32 → Measured ts d z rest all
measured_none_cons ts d z n rest all m l =
    record { depth_is = m.depth_is; size_is = m.size_is; to = λ f. m.to (l, f); from = λ f. (m.from f).1; below = m.below.1 }

measured_some_cons : (ts : List Expression) (d z n e : ℕ) (rest all : List Arg) → Measured ts d z (record { binders = n; body = Some e } ∷ rest) all → n < 2 ^ 32 → IsSmall (tree ts e) →
    Measured ts (max d (depth (tree ts e))) (z + size (tree ts e)) rest all
measured_some_cons ts d z n e rest all m l s =
    record {
      depth_is = grind (arith, m.depth_is);
      size_is = omega (arith, m.size_is);
      to = λ f. m.to (l, s.kept.2, f);
      from = λ f. (m.from f).2;
      below = m.below.1;
    }

argument_is : (x : Arg) (b : Option ℕ) → x.body ≡ b → x ≡ record { binders = x.binders; body = b }
argument_is x b h = ap (λ c. record { binders = x.binders; body = c }) h

pub drop_one : (all : List Arg) (i : ℕ) (x : Arg) → i < length all → x ≡ get_or all i x → drop i all ≡ x ∷ drop (suc i) all
drop_one all i x l h = drop-cons all i x l ∙ ap (λ y. y ∷ drop (suc i) all) (sym h)

drop_body : (all : List Arg) (i : ℕ) (x : Arg) (b : Option ℕ) → i < length all → x ≡ get_or all i x → x.body ≡ b → drop i all ≡ record { binders = x.binders; body = b } ∷ drop (suc i) all
drop_body all i x b l h k = drop_one all i x l h ∙ ap (λ y. y ∷ drop (suc i) all) (argument_is x b k)

pub measured_none : (ts : List Expression) (d z i : ℕ) (x : Arg) (all : List Arg) → Measured ts d z (drop i all) all → i < length all → x ≡ get_or all i x → x.body ≡ None → x.binders < 2 ^ 32 → Measured ts d z (drop (suc i) all) all
measured_none ts d z i x all m l h b n = measured_none_cons ts d z x.binders (drop (suc i) all) all (subst (λ r. Measured ts d z r all) (drop_body all i x None l h b) m) n

pub measured_some : (ts : List Expression) (d z i : ℕ) (x : Arg) (e : ℕ) (all : List Arg) → Measured ts d z (drop i all) all → i < length all → x ≡ get_or all i x → x.body ≡ Some e → x.binders < 2 ^ 32 → IsSmall (tree ts e) →
    Measured ts (max d (depth (tree ts e))) (z + size (tree ts e)) (drop (suc i) all) all
measured_some ts d z i x e all m l h b n s = measured_some_cons ts d z x.binders e (drop (suc i) all) all (subst (λ r. Measured ts d z r all) (drop_body all i x (Some e) l h b) m) n s

-- what is read of the argument at hand
pub measured_body : (ts : List Expression) (d z i : ℕ) (x : Arg) (e : ℕ) (all : List Arg) → Measured ts d z (drop i all) all → i < length all → x ≡ get_or all i x → x.body ≡ Some e → e < length ts
measured_body ts d z i x e all m l h b = (subst (λ r. Measured ts d z r all) (drop_body all i x (Some e) l h b) m).below.0

binders_fit : (n : ℕ) (b : Option Expression) (ps : List Argument) → AllNumbersFit ((n, b) ∷ ps) → n < 2 ^ 32
binders_fit n None ps h = h.0
binders_fit n (Some e) ps h = h.0

pub refuse_binders : (ts : List Expression) (d z i : ℕ) (x : Arg) (all : List Arg) → Measured ts d z (drop i all) all → i < length all → x ≡ get_or all i x → 2 ^ 32 ≤ x.binders → AreSmall (map (argument_in ts) all) → ⊥
refuse_binders ts d z i x all m l h b s =
    let f : AllNumbersFit (argument_in ts x ∷ map (argument_in ts) (drop (suc i) all)) = subst (λ r. AllNumbersFit (map (argument_in ts) r)) (drop_one all i x l h) (m.from s.numbers) in
    let n = binders_fit x.binders (option_map (tree ts) x.body) (map (argument_in ts) (drop (suc i) all)) f in
    omega arith

pub refuse_size : (ts : List Expression) (d z : ℕ) (rest all : List Arg) → Measured ts d z rest all → 65535 < z → AreSmall (map (argument_in ts) all) → ⊥
refuse_size ts d z rest all m l s = let a = s.short in let b = m.size_is in omega arith

pub measured_end : (ts : List Expression) (d z i : ℕ) (all : List Arg) → Measured ts d z (drop i all) all → length all ≤ i →
    (d ≡ greatest_depth (map (argument_in ts) all)) × (z ≡ total_size (map (argument_in ts) all)) × AllNumbersFit (map (argument_in ts) all)
measured_end ts d z i all m l =
    let n : Measured ts d z [] all = subst (λ r. Measured ts d z r all) (drop_of_length-le all l) m in
    (omega (arith, n.depth_is), omega (arith, n.size_is), n.to tt)
