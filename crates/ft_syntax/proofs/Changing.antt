-- The loop over the arguments of an application, each of which is done something to.
use Rattle.std.proofs.Common.{◌≡◌, ℕ, zero, suc, ◌+◌, ◌*◌, ◌<◌, ◌≤◌, List, [], ◌∷◌, ◌++◌, length, get_or, take, map, Option, Some, None, option_map, refl, sym, ap, ap₂, ◌∙◌, subst, arith}
use Rattle.std.proofs.Math.Seq.{take-suc}
use Rattle.std.proofs.lemmas.List.{map-append}
use Rattle.ft_theory.specs.Expressions.{Expression, substitute, in_place_of, open_at}
use Rattle.ft_theory.specs.Small.{IsSmall}
use Rattle.ft_syntax.specs.Arguments.{Argument, node_of, arguments_of, applied, IsTerm, AreTerms, FitsNode, IsApplication}
use Rattle.ft_syntax.specs.Table.{tree, Extends, argument_in, BodyBelow, ArgumentsBelow}
use Rattle.ft_syntax.specs.Laws.{extends_same, extends_trans, length_extends, tree_extends, arguments_extend, body_longer, arguments_longer, arguments_push, argument_below}
use Rattle.ft_syntax.specs.Measures.{IsSmallBody, AreSmall}
use Rattle.ft_syntax.specs.Invariant.{HasArguments, IsApplied}
use Rattle.ft_syntax.specs.Changes.{changed, changed_argument, ChangeBelow}
use Rattle.ft_syntax.specs.declared.syntax.Arg.{Arg}
use Rattle.ft_syntax.specs.declared.syntax.Node.{Node}
use Rattle.ft_syntax.specs.declared.syntax.Node.TheVariants.{Bound, Free, Sym, Meta}
use Rattle.ft_syntax.specs.declared.change.Change.{Change}
use Rattle.ft_syntax.specs.declared.change.Change.TheVariants.{Open, Close, Replace, Raise}
use Rattle.ft_syntax.proofs.Lists.{take_all}
use Rattle.ft_syntax.proofs.Parts.{applied_node_of, arguments_fit, small_arguments}
use Rattle.ft_syntax.proofs.Changes.{changed_applied}

-- f is done to the first i arguments, over a table that has gone on
pub record Mapped (f : Argument → Argument) (old cur : List Expression) (i : ℕ) (xs ys : List Arg) : Type 0 where
  pub goes_on : Extends old cur
  pub below : ArgumentsBelow (length cur) ys
  pub done : map (argument_in cur) ys ≡ map f (map (argument_in old) (take i xs))

pub mapped_start : (f : Argument → Argument) (old : List Expression) (xs : List Arg) → Mapped f old old 0 xs []
mapped_start f old xs = record { goes_on = extends_same old old refl; below = tt; done = refl }

pub mapped_more : (f : Argument → Argument) (old cur next : List Expression) (i : ℕ) (xs ys : List Arg) (x y : Arg) → Mapped f old cur i xs ys → Extends cur next → i < length xs → x ≡ get_or xs i x →
    BodyBelow (length next) y.body → argument_in next y ≡ f (argument_in old x) → Mapped f old next (suc i) xs (ys ++ y ∷ [])
mapped_more f old cur next i xs ys x y m g l h b q =
    record {
      goes_on = extends_trans old cur next m.goes_on g;
      below = arguments_push (length next) ys y (arguments_longer (length cur) (length next) ys (length_extends cur next g) m.below) b;
      done = map-append (argument_in next) ys (y ∷ [])
          ∙ ap₂ (λ ps p. ps ++ p ∷ []) (arguments_extend cur next ys g m.below ∙ m.done) q
          ∙ sym (ap (λ zs. map f (map (argument_in old) zs)) (take-suc xs i x l ∙ ap (λ z. take i xs ++ z ∷ []) (sym h))
          ∙ ap (map f) (map-append (argument_in old) (take i xs) (x ∷ [])) ∙ map-append f (map (argument_in old) (take i xs)) (argument_in old x ∷ []));
    }

pub mapped_end : (f : Argument → Argument) (old cur : List Expression) (i : ℕ) (xs ys : List Arg) → Mapped f old cur i xs ys → length xs ≤ i → map (argument_in cur) ys ≡ map f (map (argument_in old) xs)
mapped_end f old cur i xs ys m l = m.done ∙ ap (λ zs. map f (map (argument_in old) zs)) (take_all i xs l)

-- the body of an argument of an application of the table
pub first_below : (old : List Expression) (e i : ℕ) (xs : List Arg) (x : Arg) → IsApplied old e xs → i < length xs → x ≡ get_or xs i x → BodyBelow (length old) x.body
first_below old e i xs x q l r = body_longer e (length old) x.body (omega (arith, q.within)) (argument_below e i xs x q.below l r)

-- what is done to a term gives a term
abbrev pub KeepsTerms : (Argument → Argument) → Type 0
KeepsTerms f = (p : Argument) → IsTerm p → IsTerm (f p)

terms_kept : (f : Argument → Argument) (ps : List Argument) → KeepsTerms f → AreTerms ps → AreTerms (map f ps)
terms_kept f [] k h = tt
terms_kept f (p ∷ ps) k h = (k p h.0, terms_kept f ps k h.1)

pub fits_kept : (f : Argument → Argument) (h : Node) (ps : List Argument) → IsApplication h → KeepsTerms f → FitsNode h ps → FitsNode h (map f ps)
fits_kept f (Bound i) ps a k g = absurd a
fits_kept f (Free v) ps a k g = absurd a
fits_kept f (Sym s) ps a k g = tt
fits_kept f (Meta m) ps a k g = terms_kept f ps k g

-- each body of small arguments is small
small_first : (p : Argument) (ps : List Argument) → AreSmall (p ∷ ps) → IsSmallBody p.1
small_first (n, Some e) ps s = record { kept = (omega (arith, s.low), omega (arith, s.short), s.numbers.1) }
small_first (n, None) ps s = tt

small_rest : (p : Argument) (ps : List Argument) → AreSmall (p ∷ ps) → AreSmall ps
small_rest (n, Some e) ps s = record { low = omega (arith, s.low); short = omega (arith, s.short); numbers = s.numbers.2 }
small_rest (n, None) ps s = record { low = s.low; short = s.short; numbers = s.numbers.1 }

pub small_at : (f : Argument → Argument) (ts : List Expression) (xs : List Arg) (i : ℕ) (x : Arg) → AreSmall (map f (map (argument_in ts) xs)) → i < length xs → x ≡ get_or xs i x → IsSmallBody (f (argument_in ts x)).1
small_at f ts [] i x s l g = absurd (omega arith)
small_at f ts (y ∷ xs) zero x s l g = subst (λ z. IsSmallBody (f (argument_in ts z)).1) (sym g) (small_first (f (argument_in ts y)) (map f (map (argument_in ts) xs)) s)
small_at f ts (y ∷ xs) (suc i) x s l g = small_at f ts xs i x (small_rest (f (argument_in ts y)) (map f (map (argument_in ts) xs)) s) (omega arith) g

pub applied_tree : (ts : List Expression) (e : ℕ) (xs : List Arg) → IsApplied ts e xs → tree ts e ≡ applied (node_of (tree ts e)) (map (argument_in ts) xs)
applied_tree ts e xs a = sym (applied_node_of (tree ts e)) ∙ ap (applied (node_of (tree ts e))) a.is

pub applied_fits : (ts : List Expression) (e : ℕ) (xs : List Arg) → IsApplied ts e xs → FitsNode (node_of (tree ts e)) (map (argument_in ts) xs)
applied_fits ts e xs a = subst (FitsNode (node_of (tree ts e))) a.is (arguments_fit (tree ts e))

-- a change made to each argument
changed_extends : (ts us : List Expression) (c : Change) (k : ℕ) (e : Expression) → Extends ts us → ChangeBelow (length ts) c → changed us c k e ≡ changed ts c k e
changed_extends ts us (Open t) k e x h = ap (λ u. open_at k u e) (tree_extends ts us t x h)
changed_extends ts us (Close v) k e x h = refl
changed_extends ts us (Replace v t) k e x h = ap (λ u. substitute (in_place_of v u) e) (tree_extends ts us t x h)
changed_extends ts us (Raise n) k e x h = refl

pub change_below : (n m : ℕ) (c : Change) → n ≤ m → ChangeBelow n c → ChangeBelow m c
change_below n m (Open t) l h = omega arith
change_below n m (Close v) l h = tt
change_below n m (Replace v t) l h = omega arith
change_below n m (Raise j) l h = tt

changed_body_extends : (ts us : List Expression) (c : Change) (k : ℕ) (b : Option ℕ) → Extends ts us → ChangeBelow (length ts) c → BodyBelow (length ts) b →
    option_map (changed us c k) (option_map (tree us) b) ≡ option_map (changed ts c k) (option_map (tree ts) b)
changed_body_extends ts us c k None x h g = refl
changed_body_extends ts us c k (Some e) x h g = ap Some (changed_extends ts us c k (tree us e) x h ∙ ap (changed ts c k) (tree_extends ts us e x g))

changed_keeps : (ts : List Expression) (c : Change) (k : ℕ) → KeepsTerms (changed_argument ts c k)
changed_keeps ts c k (n, Some e) h = h
changed_keeps ts c k (n, None) h = h

pub changing_start : (old : List Expression) (c : Change) (k : ℕ) (xs : List Arg) → Mapped (changed_argument old c k) old old 0 xs []
changing_start old c k xs = mapped_start (changed_argument old c k) old xs

pub changing_more : (old cur next : List Expression) (c : Change) (k e i : ℕ) (xs ys : List Arg) (x : Arg) (b : Option ℕ) → IsApplied old e xs → ChangeBelow (length old) c → Mapped (changed_argument old c k) old cur i xs ys → Extends cur next →
    i < length xs → x ≡ get_or xs i x → BodyBelow (length next) b → option_map (tree next) b ≡ option_map (changed cur c (x.binders + k)) (option_map (tree cur) x.body) →
    Mapped (changed_argument old c k) old next (suc i) xs (ys ++ record { binders = x.binders; body = b } ∷ [])
changing_more old cur next c k e i xs ys x b a h m g l q w r =
    mapped_more (changed_argument old c k) old cur next i xs ys x (record { binders = x.binders; body = b }) m g l q w
    (ap (λ d. (x.binders, d)) (r ∙ changed_body_extends old cur c (x.binders + k) x.body m.goes_on h (body_longer e (length old) x.body (omega (arith, a.within)) (argument_below e i xs x a.below l q))))

pub changing_small : (old : List Expression) (c : Change) (k e : ℕ) (xs : List Arg) → IsApplied old e xs → IsSmall (changed old c k (tree old e)) → AreSmall (map (changed_argument old c k) (map (argument_in old) xs))
changing_small old c k e xs a s =
    let h = node_of (tree old e) in let ps = map (argument_in old) xs in
    small_arguments h (map (changed_argument old c k) ps) (fits_kept (changed_argument old c k) h ps a.application (changed_keeps old c k) (applied_fits old e xs a))
    (subst IsSmall (ap (changed old c k) (applied_tree old e xs a) ∙ changed_applied old c k h ps a.application (applied_fits old e xs a)) s)

pub changing_refused : (old cur : List Expression) (c : Change) (k e i : ℕ) (xs ys : List Arg) (x : Arg) → IsApplied old e xs → ChangeBelow (length old) c → Mapped (changed_argument old c k) old cur i xs ys → i < length xs → x ≡ get_or xs i x →
    (IsSmallBody (option_map (changed cur c (x.binders + k)) (option_map (tree cur) x.body)) → ⊥) → IsSmall (changed old c k (tree old e)) → ⊥
changing_refused old cur c k e i xs ys x a h m l q n s =
    n (subst IsSmallBody (sym (changed_body_extends old cur c (x.binders + k) x.body m.goes_on h (body_longer e (length old) x.body (omega (arith, a.within)) (argument_below e i xs x a.below l q))))
    (small_at (changed_argument old c k) old xs i x (changing_small old c k e xs a s) l q))

-- what the loop leaves
pub applied_longer : (f : Argument → Argument) (old cur : List Expression) (e i : ℕ) (xs ys : List Arg) → IsApplied old e xs → Mapped f old cur i xs ys → IsApplied cur e xs
applied_longer f old cur e i xs ys a m =
    let t : tree cur e ≡ tree old e = tree_extends old cur e m.goes_on a.within in
    record {
      within = omega (arith, a.within, length_extends old cur m.goes_on);
      application = subst (λ u. IsApplication (node_of u)) (sym t) a.application;
      is = ap arguments_of t ∙ a.is ∙ sym (arguments_extend old cur xs m.goes_on (arguments_longer e (length old) xs (omega (arith, a.within)) a.below));
      below = a.below;
    }

pub mapped_fits : (f : Argument → Argument) (old cur : List Expression) (e i : ℕ) (xs ys : List Arg) → IsApplied old e xs → KeepsTerms f → Mapped f old cur i xs ys → length xs ≤ i → FitsNode (node_of (tree cur e)) (map (argument_in cur) ys)
mapped_fits f old cur e i xs ys a k m l =
    let t : tree cur e ≡ tree old e = tree_extends old cur e m.goes_on a.within in
    let h = node_of (tree old e) in
    subst (λ u. FitsNode (node_of u) (map (argument_in cur) ys)) (sym t) (subst (FitsNode h) (sym (mapped_end f old cur i xs ys m l)) (fits_kept f h (map (argument_in old) xs) a.application k (applied_fits old e xs a)))

pub mapped_tree : (f : Argument → Argument) (old cur : List Expression) (e i : ℕ) (xs ys : List Arg) → IsApplied old e xs → Mapped f old cur i xs ys → length xs ≤ i → applied (node_of (tree cur e)) (map (argument_in cur) ys) ≡ applied (node_of (tree old e)) (map f (map (argument_in old) xs))
mapped_tree f old cur e i xs ys a m l = ap₂ (λ u ps. applied (node_of u) ps) (tree_extends old cur e m.goes_on a.within) (mapped_end f old cur i xs ys m l)

pub mapped_body : (f : Argument → Argument) (old cur : List Expression) (e i : ℕ) (xs ys : List Arg) (x : Arg) → IsApplied old e xs → Mapped f old cur i xs ys → i < length xs → x ≡ get_or xs i x → BodyBelow (length cur) x.body
mapped_body f old cur e i xs ys x a m l q = body_longer e (length cur) x.body (omega (arith, a.within, length_extends old cur m.goes_on)) (argument_below e i xs x a.below l q)

pub changing_below : (f : Argument → Argument) (old cur : List Expression) (c : Change) (i : ℕ) (xs ys : List Arg) → Mapped f old cur i xs ys → ChangeBelow (length old) c → ChangeBelow (length cur) c
changing_below f old cur c i xs ys m h = change_below (length old) (length cur) c (length_extends old cur m.goes_on) h

changed_at : (old : List Expression) (c : Change) (k e : ℕ) (xs : List Arg) → IsApplied old e xs → changed old c k (tree old e) ≡ applied (node_of (tree old e)) (map (changed_argument old c k) (map (argument_in old) xs))
changed_at old c k e xs a = ap (changed old c k) (applied_tree old e xs a) ∙ changed_applied old c k (node_of (tree old e)) (map (argument_in old) xs) a.application (applied_fits old e xs a)

pub changing_fits : (old cur : List Expression) (c : Change) (k e i : ℕ) (xs ys : List Arg) → IsApplied old e xs → Mapped (changed_argument old c k) old cur i xs ys → length xs ≤ i → FitsNode (node_of (tree cur e)) (map (argument_in cur) ys)
changing_fits old cur c k e i xs ys a m l = mapped_fits (changed_argument old c k) old cur e i xs ys a (changed_keeps old c k) m l

pub changing_end : (old cur : List Expression) (c : Change) (k e i : ℕ) (xs ys : List Arg) → IsApplied old e xs → Mapped (changed_argument old c k) old cur i xs ys → length xs ≤ i → applied (node_of (tree cur e)) (map (argument_in cur) ys) ≡ changed old c k (tree old e)
changing_end old cur c k e i xs ys a m l = mapped_tree (changed_argument old c k) old cur e i xs ys a m l ∙ sym (changed_at old c k e xs a)

pub changing_too_big : (old cur : List Expression) (c : Change) (k e i : ℕ) (xs ys : List Arg) → IsApplied old e xs → Mapped (changed_argument old c k) old cur i xs ys → length xs ≤ i → (IsSmall (applied (node_of (tree cur e)) (map (argument_in cur) ys)) → ⊥) → IsSmall (changed old c k (tree old e)) → ⊥
changing_too_big old cur c k e i xs ys a m l n s = n (subst IsSmall (sym (changing_end old cur c k e i xs ys a m l)) s)

-- a measure of what is below an argument
abbrev pub change_measure : Option ℕ → ℕ
change_measure None = 0
change_measure (Some e) = 4 * e + 3

change_falls : (e i : ℕ) (xs : List Arg) (x : Arg) → ArgumentsBelow e xs → i < length xs → x ≡ get_or xs i x → change_measure x.body < 4 * e + 1
change_falls e i xs x b l g = go x.body (argument_below e i xs x b l g)
  where
    go : (b : Option ℕ) → BodyBelow e b → change_measure b < 4 * e + 1
    go None k = omega arith
    go (Some j) k = omega arith

pub applied_falls : (ts : List Expression) (e i : ℕ) (xs : List Arg) (x : Arg) → IsApplied ts e xs → i < length xs → x ≡ get_or xs i x → change_measure x.body < 4 * e + 1
applied_falls ts e i xs x a l g = change_falls e i xs x a.below l g

pub arguments_applied : (ts : List Expression) (e : ℕ) (xs ys : List Arg) → HasArguments ts e xs → IsApplication (node_of (tree ts e)) → ys ≡ xs → IsApplied ts e ys
arguments_applied ts e xs ys h a g = record { within = h.within; application = a; is = h.is ∙ ap (map (argument_in ts)) (sym g); below = subst (ArgumentsBelow e) (sym g) h.below }
