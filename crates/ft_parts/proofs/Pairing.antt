-- The instance that has a symbol's arguments for the premises of its rule.
use Rattle.std.proofs.Common.{◌≡◌, ◌∙◌, ◌⊎◌, inl, inr, ℕ, zero, suc, ◌+◌, ◌-◌, ◌<◌, ◌≤◌, min, Bool, true, false, cond, nat_eq, ◌&&◌, Option, Some, None, List, [], ◌∷◌, ◌++◌, length, drop, get_or, map, refl, sym, ap, ap₂, subst, arith, append_assoc, append-nil, drop_of_length-le, drop-cons}
use Rattle.std.specs.Prelude.{option_map, is_some, slice_get}
use Rattle.std.specs.List.{zip}
use Rattle.std.proofs.Math.Path.{fun_ext}
use Rattle.std.proofs.lemmas.List.{map-append}
use Rattle.std.proofs.lemmas.Option.{same_Some}
use Rattle.std.proofs.lemmas.Bool.{cases_lt}
use Rattle.ft_common.proofs.Options.{none_some}
use Rattle.ft_theory.specs.Expressions.{Expression, bound, free, symbol, meta, Arguments, no_arguments, with_body, dummy}
use Rattle.ft_theory.specs.Statements.{Statement}
use Rattle.ft_theory.specs.Rules.{Rule, instance_of}
use Rattle.ft_syntax.specs.Arguments.{Argument, arguments_of, list_of_arguments, node_of}
use Rattle.ft_syntax.specs.Table.{tree, argument_in, BodyBelow}
use Rattle.ft_syntax.specs.Instances.{body_for, instance_in, PairsBelow}
use Rattle.ft_syntax.specs.Laws.{body_longer}
use Rattle.ft_syntax.specs.declared.syntax.Arg.{Arg}
use Rattle.ft_syntax.specs.declared.syntax.Node.TheVariants.{Sym}
use Rattle.ft_parts.specs.Types.{instance_at}

-- pairs of metavariables and arguments, as expressions
abbrev pub seen : List Expression → List (ℕ × Arg) → List (ℕ × Argument)
seen ts ps = map (λ (p : ℕ × Arg). (p.0, argument_in ts p.1)) ps

-- the loop over premises and arguments
pub record Pairing (ts : List Expression) (ms : List ℕ) (as' : List Argument) (i : ℕ) (pairs : List (ℕ × Arg)) : Type 0 where
  pub done : seen ts pairs ++ zip (drop i ms) (drop i as') ≡ zip ms as'
  pub below : PairsBelow (length ts) pairs

pub pairing_start : (ts : List Expression) (ms : List ℕ) (as' : List Argument) → Pairing ts ms as' 0 []
pairing_start ts ms as' = record { done = refl; below = tt }

drop_get : (ps : List Argument) (i : ℕ) (p : Argument) → slice_get ps i ≡ Some p → drop i ps ≡ p ∷ drop (suc i) ps
drop_get [] i p h = none_some h
drop_get (q ∷ ps) zero p h = ap (λ x. x ∷ ps) (same_Some q p h)
drop_get (q ∷ ps) (suc i) p h = drop_get ps i p h

pairs_push : (n : ℕ) (ps : List (ℕ × Arg)) (p : ℕ × Arg) → PairsBelow n ps → BodyBelow n p.1.body → PairsBelow n (ps ++ p ∷ [])
pairs_push n [] p h b = (b, tt)
pairs_push n (q ∷ ps) p h b = (h.0, pairs_push n ps p h.1 b)

pub pairing_more : (ts : List Expression) (ms : List ℕ) (as' : List Argument) (i m e : ℕ) (x : Arg) (pairs next : List (ℕ × Arg)) → Pairing ts ms as' i pairs → i < length ms → m ≡ get_or ms i m → slice_get as' (i + 1 - 1) ≡ Some (argument_in ts x)
    → BodyBelow e x.body → e < length ts → next ≡ pairs ++ (m, x) ∷ [] → Pairing ts ms as' (suc i) next
pairing_more ts ms as' i m e x pairs next p l g a b k n =
    let same : i ≡ i + 1 - 1 = omega arith in
    let low : e ≤ length ts = omega (arith, k) in
    let first : drop i ms ≡ m ∷ drop (suc i) ms = drop-cons ms i m l ∙ ap (λ y. y ∷ drop (suc i) ms) (sym g) in
    let second : drop i as' ≡ argument_in ts x ∷ drop (suc i) as' = drop_get as' i (argument_in ts x) (ap (slice_get as') same ∙ a) in
    subst (Pairing ts ms as' (suc i)) (sym n) (record {
      done =
          ap (λ z. z ++ zip (drop (suc i) ms) (drop (suc i) as')) (map-append (λ (p : ℕ × Arg). (p.0, argument_in ts p.1)) pairs ((m, x) ∷ []))
          ∙ append_assoc (seen ts pairs) ((m, argument_in ts x) ∷ []) (zip (drop (suc i) ms) (drop (suc i) as'))
          ∙ ap₂ (λ xs ys. seen ts pairs ++ zip xs ys) (sym first) (sym second)
          ∙ p.done;
      below = pairs_push (length ts) pairs (m, x) p.below (body_longer e (length ts) x.body low b);
    })

zip_none : (ms : List ℕ) → zip {K = ℕ} {X = Argument} ms [] ≡ []
zip_none [] = refl
zip_none (m ∷ ms) = refl

-- nothing is left
none_left : (ms : List ℕ) (as' : List Argument) (i : ℕ) → min (length as') (length ms) ≤ i → zip (drop i ms) (drop i as') ≡ []
none_left ms as' i l = go (cases_lt i (length ms))
  where
    go : (i < length ms) ⊎ (length ms ≤ i) → zip (drop i ms) (drop i as') ≡ []
    go (inl a) = let past : length as' ≤ i = omega (arith, l, a) in ap (zip (drop i ms)) (drop_of_length-le as' past) ∙ zip_none (drop i ms)
    go (inr b) = ap (λ xs. zip xs (drop i as')) (drop_of_length-le ms b)

all_paired : (ts : List Expression) (ms : List ℕ) (as' : List Argument) (i : ℕ) (pairs : List (ℕ × Arg)) → Pairing ts ms as' i pairs → min (length as') (length ms) ≤ i → seen ts pairs ≡ zip ms as'
all_paired ts ms as' i pairs p l = sym (append-nil (seen ts pairs)) ∙ ap (λ r. seen ts pairs ++ r) (sym (none_left ms as' i l)) ∙ p.done

-- The pairs are the instance.

-- the body that pairs have for a metavariable at k terms
abbrev body_among : List (ℕ × Argument) → ℕ → ℕ → Option Expression
body_among [] m k = None
body_among (p ∷ ps) m k = cond (nat_eq m p.0 && nat_eq k p.1.0 && is_some p.1.1) p.1.1 (body_among ps m k)

some_mapped : (ts : List Expression) (o : Option ℕ) → is_some (option_map (tree ts) o) ≡ is_some o
some_mapped ts None = refl
some_mapped ts (Some e) = refl

either_mapped : (ts : List Expression) (b : Bool) (o r : Option ℕ) → option_map (tree ts) (cond b o r) ≡ cond b (option_map (tree ts) o) (option_map (tree ts) r)
either_mapped ts true o r = refl
either_mapped ts false o r = refl

body_seen : (ts : List Expression) (ps : List (ℕ × Arg)) (m k : ℕ) → option_map (tree ts) (body_for ps m k) ≡ body_among (seen ts ps) m k
body_seen ts [] m k = refl
body_seen ts (p ∷ ps) m k =
    either_mapped ts (nat_eq m p.0 && nat_eq k p.1.binders && is_some p.1.body) p.1.body (body_for ps m k)
    ∙ ap₂ (λ b r. cond (nat_eq m p.0 && nat_eq k p.1.binders && b) (option_map (tree ts) p.1.body) r) (sym (some_mapped ts p.1.body)) (body_seen ts ps m k)

-- the numbers of premises
abbrev pub numbers_of : List (ℕ × Statement) → List ℕ
numbers_of ps = map (λ (p : ℕ × Statement). p.0) ps

with_some : {A : Type 0} (a b : Bool) (x y : A) → cond (a && b && true) x y ≡ cond (a && b) x y
with_some true true x y = refl
with_some true false x y = refl
with_some false b x y = refl

with_none : {A : Type 0} (a b : Bool) (x y : A) → cond (a && b && false) x y ≡ y
with_none true true x y = refl
with_none true false x y = refl
with_none false b x y = refl

body_of : (ps : List (ℕ × Statement)) (a : Arguments) (m k : ℕ) → body_among (zip (numbers_of ps) (list_of_arguments a)) m k ≡ instance_of ps a m k
body_of [] a m k = refl
body_of (p ∷ ps) no_arguments m k = refl
body_of (p ∷ ps) (with_body n e a) m k =
    with_some (nat_eq m p.0) (nat_eq k n) (Some e) (body_among (zip (numbers_of ps) (list_of_arguments a)) m k)
    ∙ ap (cond (nat_eq m p.0 && nat_eq k n) (Some e)) (body_of ps a m k)
body_of (p ∷ ps) (dummy n a) m k = with_none (nat_eq m p.0) (nat_eq k n) None (body_among (zip (numbers_of ps) (list_of_arguments a)) m k) ∙ body_of ps a m k

pub instance_seen : (ts : List Expression) (R : Rule) (x : Expression) (s : ℕ) (pairs : List (ℕ × Arg)) → node_of x ≡ Sym s → seen ts pairs ≡ zip (numbers_of R.premises) (arguments_of x) → instance_in ts pairs ≡ instance_at (Some R) x
instance_seen ts R (symbol f a) s pairs n h = fun_ext (λ m. fun_ext (λ k. body_seen ts pairs m k ∙ ap (λ ps. body_among ps m k) h ∙ body_of R.premises a m k))
instance_seen ts R (bound i) s pairs n h = let no : ⊥ = cc in absurd no
instance_seen ts R (free v) s pairs n h = let no : ⊥ = cc in absurd no
instance_seen ts R (meta m a) s pairs n h = let no : ⊥ = cc in absurd no

-- the end of the loop
pub pairing_end : (ts : List Expression) (ms : List ℕ) (i s : ℕ) (R : Rule) (x : Expression) (pairs : List (ℕ × Arg)) → Pairing ts ms (arguments_of x) i pairs → min (length (arguments_of x)) (length ms) ≤ i → numbers_of R.premises ≡ ms → node_of x ≡ Sym s
    → instance_in ts pairs ≡ instance_at (Some R) x
pairing_end ts ms i s R x pairs p l e n = instance_seen ts R x s pairs n (all_paired ts ms (arguments_of x) i pairs p l ∙ ap (λ ns. zip ns (arguments_of x)) (sym e))
