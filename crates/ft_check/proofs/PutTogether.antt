-- Expressions put together in a table that goes on.
use Rattle.std.proofs.Common.{◌≡◌, ◌↔◌, ℕ, ◌<◌, nat_eq, Bool, true, false, cond, ◌&&◌, Option, Some, None, List, [], ◌∷◌, refl, sym, ap₂, ◌∙◌, subst, length, map, IsTrue}
use Rattle.std.specs.Prelude.{is_some, option_map}
use Rattle.ft_theory.specs.Expressions.{Expression, instantiate}
use Rattle.ft_theory.specs.Small.{IsSmall}
use Rattle.ft_theory.specs.Statements.{Statement}
use Rattle.ft_theory.specs.Rules.{instance_of}
use Rattle.ft_items.specs.Equal.{equal_expressions}
use Rattle.ft_sound.proofs.EqualLemmas.{expression_true}
use Rattle.ft_syntax.specs.Arguments.{with_argument}
use Rattle.ft_syntax.specs.Laws.{instance_extends, tree_extends}
use Rattle.ft_syntax.specs.Instances.{body_for, instance_in, PairsBelow}
use Rattle.ft_syntax.specs.Table.{tree, Extends, arguments_in}
use Rattle.ft_syntax.specs.declared.syntax.Arg.{Arg}
use Rattle.ft_check.specs.Comparing.{paired}
use Rattle.ft_sound.proofs.EqualLemmas.{by_equal}

-- What is found is small, and so no instance that is not.
pub too_big_differs : (e f : Expression) → IsSmall e → (IsSmall f → ⊥) → false ≡ equal_expressions e f
too_big_differs e f s n = go (equal_expressions e f) refl
  where
    go : (b : Bool) → equal_expressions e f ≡ b → false ≡ b
    go true h = absurd (n (subst IsSmall (expression_true e f h) s))
    go false h = refl

-- An instance that is not small, where y is copied into the table as w before.
pub instance_too_big : (us vs : List Expression) (ps : List (ℕ × Arg)) (w : ℕ) (x y : Expression) → Extends us vs → PairsBelow (length us) ps → tree vs w ≡ y → IsSmall x → (IsSmall (instantiate (instance_in vs ps) (tree vs w)) → ⊥)
    → false ≡ equal_expressions x (instantiate (instance_in us ps) y)
instance_too_big us vs ps w x y g h t s n =
    too_big_differs x (instantiate (instance_in us ps) y) s (λ k. n (subst IsSmall (sym (ap₂ instantiate (instance_extends us vs ps g h) t)) k))

-- One comparison: y is copied into the table as w, r is its instance, and then x is copied as f.
pub instance_same : (us vs rs ws : List Expression) (ps : List (ℕ × Arg)) (w r f : ℕ) (x y : Expression) (b : Bool)
    → Extends us vs → PairsBelow (length us) ps → tree vs w ≡ y → r < length rs → tree rs r ≡ instantiate (instance_in vs ps) (tree vs w) → Extends rs ws → tree ws f ≡ x
    → (IsTrue b ↔ (tree ws f ≡ tree ws r)) → b ≡ equal_expressions x (instantiate (instance_in us ps) y)
instance_same us vs rs ws ps w r f x y b g h t l e k q s =
    by_equal (tree ws f) (tree ws r) b s ∙ ap₂ equal_expressions q (tree_extends rs ws r k l ∙ e ∙ ap₂ instantiate (instance_extends us vs ps g h) t)

-- The same with the symbol at arguments, which is r.
pub symbol_same : (rs ws : List Expression) (r f : ℕ) (x y : Expression) (b : Bool) → r < length rs → tree rs r ≡ y → Extends rs ws → tree ws f ≡ x → (IsTrue b ↔ (tree ws f ≡ tree ws r)) → b ≡ equal_expressions x y
symbol_same rs ws r f x y b l e k q s = by_equal (tree ws f) (tree ws r) b s ∙ ap₂ equal_expressions q (tree_extends rs ws r k l ∙ e)

-- The instance of pairs is that of the premises at the arguments.
pub paired_instance : (ts : List Expression) (ps : List (ℕ × Statement)) (as' : List Arg) (m k : ℕ) → instance_in ts (paired (map (λ (p : ℕ × Statement). p.0) ps) as') m k ≡ instance_of ps (arguments_in ts as') m k
paired_instance ts [] as' m k = refl
paired_instance ts (p ∷ ps) [] m k = refl
paired_instance ts (p ∷ ps) (a ∷ as') m k = go a.body (paired_instance ts ps as' m k)
  where
    rest : Option ℕ
    rest = body_for (paired (map (λ (p : ℕ × Statement). p.0) ps) as') m k

    with_one : (b : Bool) (e : ℕ) → option_map (tree ts) rest ≡ instance_of ps (arguments_in ts as') m k → option_map (tree ts) (cond (b && true) (Some e) rest) ≡ cond b (Some (tree ts e)) (instance_of ps (arguments_in ts as') m k)
    with_one true e h = refl
    with_one false e h = h

    without : (b : Bool) → option_map (tree ts) rest ≡ instance_of ps (arguments_in ts as') m k → option_map (tree ts) (cond (b && false) None rest) ≡ instance_of ps (arguments_in ts as') m k
    without true h = h
    without false h = h

    go : (o : Option ℕ) → option_map (tree ts) rest ≡ instance_of ps (arguments_in ts as') m k
        → option_map (tree ts) (cond ((nat_eq m p.0 && nat_eq k a.binders) && is_some o) o rest) ≡ instance_of (p ∷ ps) (with_argument (a.binders, option_map (tree ts) o) (arguments_in ts as')) m k
    go None h = without (nat_eq m p.0 && nat_eq k a.binders) h
    go (Some e) h = with_one (nat_eq m p.0 && nat_eq k a.binders) e h
