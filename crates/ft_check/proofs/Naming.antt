-- The names of the rules of a list, and their number.
use Rattle.std.proofs.Common.{◌≡◌, ℕ, nat_lt, ◌<◌, ◌≤◌, Bool, true, false, ◌&&◌, not, List, [], ◌∷◌, refl, sym, ap, ◌∙◌, map, length, take, arith, Option}
use Rattle.std.specs.List.{list_all}
use Rattle.std.proofs.lemmas.List.{length-map}
use Rattle.std.proofs.lemmas.Bool.{lt-ltb, ltb-true, ltb-false}
use Rattle.ft_items.specs.Item.{Name, Item, variable, metavariable, rule, entry, shown}
use Rattle.ft_items.specs.Store.{rules_in, declared_by}
use Rattle.ft_items.specs.Good.{Good, equal_names, is_new}
use Rattle.ft_items.proofs.Lists.{store_is}
use Rattle.ft_stated.specs.First.{first_place, is_rule_of}
use Rattle.ft_check.proofs.Before.{is_not_before, none_before}

new_all : (n : Name) (items : List Item) → is_new (map (λ (x : Name × List ℕ × ℕ). x.0) (rules_in items)) n ≡ list_all (λ i. not (is_rule_of n i)) items
new_all n [] = refl
new_all n (rule m ms p ∷ items) = ap (λ b. not (equal_names m n) && b) (new_all n items)
new_all n (variable v m p ∷ items) = new_all n items
new_all n (metavariable m p ∷ items) = new_all n items
new_all n (entry e ∷ items) = new_all n items
new_all n (shown p ∷ items) = new_all n items

-- a name is new before the place of the first rule that has it
pub new_is : (items : List Item) (i : ℕ) (n : Name) (o : Option ℕ) → o ≡ first_place (is_rule_of n) items → Good (take i items) → is_not_before i o ≡ is_new (declared_by (take i items)).names n
new_is items i n o e g =
    ap (is_not_before i) e ∙ sym (none_before (is_rule_of n) items i)
    ∙ sym (ap (λ ns. is_new ns n) (store_is (take i items) g).names ∙ new_all n (take i items))

-- how many rules a good list has
pub rules_many : (items : List Item) → Good items → length (declared_by items).rules ≡ length (rules_in items)
rules_many items g = ap length (store_is items g).rules ∙ length-map (rules_in items) _

pub room_is : (items : List Item) (b : Bool) → Good items → b ≡ nat_lt 65535 (length (rules_in items)) → nat_lt (length (declared_by items).rules) 65536 ≡ not b
room_is items b g e = ap (λ n. nat_lt n 65536) (rules_many items g) ∙ go (nat_lt 65535 (length (rules_in items))) refl ∙ ap not (sym e)
  where
    below : (c : Bool) → nat_lt (length (rules_in items)) 65536 ≡ c → c ≡ false → 65536 ≤ length (rules_in items)
    below c h f = ltb-false (length (rules_in items)) 65536 (h ∙ f)

    go : (c : Bool) → nat_lt 65535 (length (rules_in items)) ≡ c → nat_lt (length (rules_in items)) 65536 ≡ not c
    go true h = let lt : 65535 < length (rules_in items) = ltb-true 65535 (length (rules_in items)) h in not_below (nat_lt (length (rules_in items)) 65536) refl lt
      where
        not_below : (c : Bool) → nat_lt (length (rules_in items)) 65536 ≡ c → 65535 < length (rules_in items) → c ≡ false
        not_below true k lt = let less : length (rules_in items) < 65536 = ltb-true (length (rules_in items)) 65536 k in absurd (omega (arith, less, lt))
        not_below false k lt = refl
    go false h = let le : length (rules_in items) ≤ 65535 = ltb-false 65535 (length (rules_in items)) h in lt-ltb (length (rules_in items)) 65536 (omega (arith, le))
