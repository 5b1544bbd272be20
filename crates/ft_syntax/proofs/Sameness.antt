-- What `==` tells of arguments.
use Rattle.std.proofs.Common.{◌≡◌, List, map, ◌∙◌, ℕ, true, false, ◌&&◌, nat_eq, Option, Some, None, sym, ap, ap₂}
use Rattle.std.specs.Bool.{Decides}
use Rattle.std.proofs.lemmas.Bool.{eqb-true, eq-eqb, and_parts}
use Rattle.std.proofs.lemmas.Option.{none-some, same_Some}
use Rattle.ft_common.proofs.Booleans.{false_true}
use Rattle.ft_theory.specs.Expressions.{Expression}
use Rattle.ft_syntax.specs.Arguments.{applied, node_of}
use Rattle.ft_syntax.specs.Table.{tree, argument_in}
use Rattle.ft_syntax.specs.Invariant.{IsApplied}
use Rattle.ft_syntax.specs.declared.syntax.Arg.{Arg}
use Rattle.ft_syntax.proofs.Parts.{applied_node_of}
use Rattle.ft_syntax.specs.contracts.syntax.ArgPartialEq.TheImpl as arg_eq

argument : ℕ → Option ℕ → Arg
argument n b = record { binders = n; body = b }

binders_same : (x y : Arg) → x ≡ y → nat_eq x.binders y.binders ≡ true
binders_same x y h = eq-eqb x.binders y.binders (ap (λ z. z.binders) h)

decides_parts : (m n : ℕ) (a b : Option ℕ) → Decides ((arg_eq.ghosts).eq (argument m a) (argument n b)) (argument m a ≡ argument n b)
unfolding argument
decides_parts m n None None = (λ h. ap (λ k. argument k None) (eqb-true m n (and_parts (nat_eq m n) true h).0), λ e. ap (λ b. b && true) (binders_same (argument m None) (argument n None) e))
decides_parts m n None (Some e) = (λ h. false_true (and_parts (nat_eq m n) false h).1, λ h. absurd (none-some e (ap (λ z. z.body) h)))
decides_parts m n (Some d) None = (λ h. false_true (and_parts (nat_eq m n) false h).1, λ h. absurd (none-some d (sym (ap (λ z. z.body) h))))
decides_parts m n (Some d) (Some e) = (
  λ h. let t = and_parts (nat_eq m n) (nat_eq d e) h in ap₂ (λ k b. argument k (Some b)) (eqb-true m n t.0) (eqb-true d e t.1),
  λ h. ap₂ (λ a b. a && b) (binders_same (argument m (Some d)) (argument n (Some e)) h) (eq-eqb d e (same_Some d e (ap (λ z. z.body) h))),
)

-- `==` of two arguments tells whether they are the same
pub decides : (x y : Arg) → Decides ((arg_eq.ghosts).eq x y) (x ≡ y)
unfolding argument
decides x y = decides_parts x.binders y.binders x.body y.body

-- an application is its node with its arguments
pub same_tree : (ts : List Expression) (e : ℕ) (xs ys : List Arg) → IsApplied ts e xs → xs ≡ ys → tree ts e ≡ applied (node_of (tree ts e)) (map (argument_in ts) ys)
same_tree ts e xs ys h s = sym (applied_node_of (tree ts e)) ∙ ap (applied (node_of (tree ts e))) (h.is ∙ ap (map (argument_in ts)) s)
