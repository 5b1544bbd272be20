-- What is declared of the metavariables of a good list, by their lines.
use Rattle.std.proofs.Common.{◌≡◌, ◌∙◌, ℕ, zero, suc, ◌<◌, false, Option, Some, None, List, [], ◌∷◌, length, map, refl, sym, ap, subst}
use Rattle.std.specs.Prelude.{option_map}
use Rattle.std.proofs.lemmas.Option.{same_Some}
use Rattle.ft_common.proofs.Options.{none_some}
use Rattle.ft_items.specs.Item.{Name, Item, variable, metavariable, rule, entry, shown}
use Rattle.ft_items.specs.Equal.{is_thesis}
use Rattle.ft_items.specs.Store.{Assertion, Declared, Store, declared, nth, entry_named, metavariable_named, add, add_all, empty_store, store_of, declared_by, entries_in, metavariables_in}
use Rattle.ft_items.specs.Good.{GoodAfter, Good}
use Rattle.ft_items.proofs.Lists.{before_all, store_is, nth_found, entries_all}
use Rattle.ft_kernel.specs.State.{State, IsBoundaryOf}
use Rattle.ft_metas.specs.Named.{entry_or, entry_of, declared_or, declared_of}

-- the entry of a metavariable's boundary is there
record Bounded (X : Store) (p : ℕ) : Type 0 where
  stated : Assertion
  is : entry_named X p ≡ Some stated
  boundary : is_thesis stated.statement ≡ false

line_in : (W : Store) (items : List Item) (m : ℕ) (x : Name × ℕ) → GoodAfter W items → nth (metavariables_in items) m ≡ Some x → Bounded (add_all W items) x.1
line_in W [] m x g h = none_some h
line_in W (metavariable n p ∷ items) zero x g h =
    let same : (n, p) ≡ x = same_Some (n, p) x h in
    subst (λ (y : Name × ℕ). Bounded (add_all W (metavariable n p ∷ items)) y.1) same
    (record { stated = g.0.0; is = (before_all W (metavariable n p ∷ items)).entries p g.0.0 g.0.1; boundary = g.0.2 })
line_in W (metavariable n p ∷ items) (suc m) x g h = line_in (add W (metavariable n p)) items m x g.1 h
line_in W (variable v n p ∷ items) m x g h = line_in (add W (variable v n p)) items m x g.1 h
line_in W (rule n ms p ∷ items) m x g h = line_in (add W (rule n ms p)) items m x g.1 h
line_in W (entry e ∷ items) m x g h = line_in (add W (entry e)) items m x g.1 h
line_in W (shown p ∷ items) m x g h = line_in (add W (shown p)) items m x g.1 h

pub boundary_there : (s : State) (m : ℕ) (n : Name) (p : ℕ) → Good s.items → nth (metavariables_in s.items) m ≡ Some (n, p) → IsBoundaryOf s p
boundary_there s m n p g h =
    let b : Bounded (store_of s.items) p = line_in empty_store s.items m (n, p) g h in
    (b.stated, sym (ap (λ es. nth es p) (entries_all empty_store s.items)) ∙ b.is, b.boundary)

-- what the store has is what the list has
nth_map : {A B : Type 0} (f : A → B) (xs : List A) (n : ℕ) → nth (map f xs) n ≡ option_map f (nth xs n)
nth_map f [] n = refl
nth_map f (x ∷ xs) zero = refl
nth_map f (x ∷ xs) (suc n) = nth_map f xs n

abbrev with_entry : List Item → Name × ℕ → Declared
with_entry items x = declared x (nth (entries_in items) x.1)

found : (items : List Item) (m : ℕ) → Good items → nth (declared_by items).metavariables m ≡ option_map (with_entry items) (nth (metavariables_in items) m)
found items m g = ap (λ ms. nth ms m) (store_is items g).metavariables ∙ nth_map (with_entry items) (metavariables_in items) m

declared_is : (items : List Item) (m : ℕ) (n : Name) (p : ℕ) → Good items → nth (metavariables_in items) m ≡ Some (n, p) → declared_of items m ≡ with_entry items (n, p)
declared_is items m n p g h = ap declared_or (found items m g ∙ ap (option_map (with_entry items)) h)

pub boundary_declared : (items : List Item) (m : ℕ) (n : Name) (p : ℕ) → Good items → nth (metavariables_in items) m ≡ Some (n, p) → (declared_of items m).boundary ≡ (entry_of items p).statement
boundary_declared items m n p g h = ap (λ (d : Declared). d.boundary) (declared_is items m n p g h) ∙ stated (nth (entries_in items) p)
  where
    stated : (o : Option Assertion) → (declared (n, p) o).boundary ≡ (entry_or o).statement
    stated None = refl
    stated (Some a) = refl

pub set_declared : (items : List Item) (m : ℕ) (n : Name) (p : ℕ) → Good items → nth (metavariables_in items) m ≡ Some (n, p) → (declared_of items m).set ≡ (entry_of items p).set
set_declared items m n p g h = ap (λ (d : Declared). d.set) (declared_is items m n p g h) ∙ rests (nth (entries_in items) p)
  where
    rests : (o : Option Assertion) → (declared (n, p) o).set ≡ (entry_or o).set
    rests None = refl
    rests (Some a) = refl

-- the metavariable of a number, in the store
pub metavariable_is : (items : List Item) (m : ℕ) → Good items → m < length (metavariables_in items) → metavariable_named (declared_by items) m ≡ Some (m, declared_of items m)
metavariable_is items m g l =
    let x : (y : Name × ℕ) × (nth (metavariables_in items) m ≡ Some y) = nth_found (metavariables_in items) m l in
    ap (option_map (λ d. (m, d))) (found items m g ∙ ap (option_map (with_entry items)) x.1) ∙ ap (λ d. Some (m, d)) (sym (declared_is items m x.0.0 x.0.1 g x.1))
