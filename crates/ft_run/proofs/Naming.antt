-- The place of the first rule of a name.
use Rattle.std.proofs.Common.{◌≡◌, ◌∙◌, sym, ap, refl, subst, ℕ, zero, suc, ◌+◌, ◌<◌, List, [], ◌∷◌, length, Option, Some, None, option_map, Bool, true, false, cond, if◌then◌else◌, arith, IfSome, IfNone}
use Rattle.std.proofs.lemmas.Option.{none-some, same_Some}
use Rattle.ft_items.specs.Good.{Good, equal_names}
use Rattle.ft_items.proofs.Lists.{store_is}
use Rattle.ft_kernel.specs.State.{State, place_of_name, rule_names}
use Rattle.ft_applications_meaning.specs.Building.{Declaration, names, first_named}
use Rattle.ft_theory.specs.Expressions.{Expression}
use Rattle.ft_run.specs.declared.session.Known.{Known}
use Rattle.ft_run.specs.Session.{Progress, declarations, IsSession}
use Rattle.ft_run.specs.Claiming.{rule_in, names_known}

pub names_declared : (ts : List Expression) (ks : List Known) → names (declarations ts ks) ≡ names_known ks
names_declared ts [] = refl
names_declared ts (k ∷ ks) = ap (λ ns. k.name ∷ ns) (names_declared ts ks)

first_by_place : (ds : List Declaration) (n : List ℕ) (j : ℕ) → first_named j ds n ≡ option_map (λ k. (j + k, rule_in ds k)) (place_of_name (names ds) n)
first_by_place [] n j = refl
first_by_place (d ∷ ds) n j = go (equal_names d.name n) (place_of_name (names ds) n) (first_by_place ds n (suc j))
  where
    go : (b : Bool) (r : Option ℕ) → first_named (suc j) ds n ≡ option_map (λ k. (suc j + k, rule_in ds k)) r
        → cond b (Some (j, d.rule)) (first_named (suc j) ds n) ≡ option_map (λ k. (j + k, rule_in (d ∷ ds) k)) (if b then Some 0 else option_map suc r)
    go true r h = let z : j ≡ j + 0 = omega arith in ap (λ k. Some (k, d.rule)) z
    go false None h = h
    go false (Some k) h = let z : suc j + k ≡ j + suc k = omega arith in h ∙ ap (λ i. Some (i, rule_in ds k)) z

place_less : (ns : List (List ℕ)) (n : List ℕ) (k : ℕ) → place_of_name ns n ≡ Some k → k < length ns
place_less [] n k e = absurd (none-some k e)
place_less (m ∷ ns) n k e = go (equal_names m n) (place_of_name ns n) (place_less ns n) e
  where
    go : (b : Bool) (r : Option ℕ) → ((j : ℕ) → r ≡ Some j → j < length ns) → (if b then Some 0 else option_map suc r) ≡ Some k → k < length (m ∷ ns)
    go true r h e = let z = same_Some 0 k e in omega arith
    go false None h e = absurd (none-some k e)
    go false (Some j) h e = let z = same_Some (suc j) k e in let l = h j refl in omega arith

length_names : (ds : List Declaration) → length (names ds) ≡ length ds
length_names [] = refl
length_names (d ∷ ds) = ap suc (length_names ds)

-- the names that were declared are those of the kernel's rules
rules_named : (s : State) (ks : List Known) → IsSession s ks → Good s.items → names (declarations s.trees ks) ≡ rule_names s.items
rules_named s ks h g = sym h.names_are ∙ (store_is s.items g).names

found_in : (ds : List Declaration) (n : List ℕ) (k : ℕ) → place_of_name (names ds) n ≡ Some k → (k < length ds) × (first_named zero ds n ≡ Some (k, rule_in ds k))
found_in ds n k e =
    let less = place_less (names ds) n k e in
    let long : length (names ds) ≡ length ds = length_names ds in
    let z : zero + k ≡ k = omega arith in
    (subst (λ m. k < m) long less, first_by_place ds n zero ∙ ap (option_map (λ k. (zero + k, rule_in ds k))) e ∙ ap (λ i. Some (i, rule_in ds k)) z)

missing_in : (ds : List Declaration) (n : List ℕ) → place_of_name (names ds) n ≡ None → first_named zero ds n ≡ None
missing_in ds n e = first_by_place ds n zero ∙ ap (option_map (λ k. (zero + k, rule_in ds k))) e

-- the kernel's answer is the place of the name among the declared rules
named_in : (s : State) (ks : List Known) (p : Progress) (n : List ℕ) (o : Option ℕ) → IsSession s ks → Good s.items → record { state = s; rules = declarations s.trees ks } ≡ p → o ≡ place_of_name (rule_names s.items) n
    → place_of_name (names p.rules) n ≡ o
named_in s ks p n o h g v e = ap (λ (p : Progress). place_of_name (names p.rules) n) (sym v) ∙ ap (λ ns. place_of_name ns n) (rules_named s ks h g) ∙ sym e

-- the answer in the words of the session
pub place_some : (s : State) (ks : List Known) (p : Progress) (n : List ℕ) (o : Option ℕ) → IsSession s ks → Good s.items → record { state = s; rules = declarations s.trees ks } ≡ p → o ≡ place_of_name (rule_names s.items) n
    → IfSome o (λ k. (k < length p.rules) × (first_named zero p.rules n ≡ Some (k, rule_in p.rules k)))
place_some s ks p n None h g v e = tt
place_some s ks p n (Some k) h g v e = found_in p.rules n k (named_in s ks p n (Some k) h g v e)

pub place_none : (s : State) (ks : List Known) (p : Progress) (n : List ℕ) (o : Option ℕ) → IsSession s ks → Good s.items → record { state = s; rules = declarations s.trees ks } ≡ p → o ≡ place_of_name (rule_names s.items) n
    → IfNone o (first_named zero p.rules n ≡ None)
place_none s ks p n None h g v e = missing_in p.rules n (named_in s ks p n None h g v e)
place_none s ks p n (Some k) h g v e = tt
