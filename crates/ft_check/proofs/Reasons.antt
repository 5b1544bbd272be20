-- The reasons against items, by what their numbers name.
use Rattle.std.proofs.Common.{◌≡◌, ℕ, nat_lt, Bool, true, false, ◌&&◌, not, Option, Some, None, List, [], ◌∷◌, refl, sym, ap, ap₂, ◌∙◌, map, max, take, ◌<◌, ◌≤◌, arith}
use Rattle.std.specs.List.{list_all}
use Rattle.std.proofs.lemmas.Bool.{lt-ltb, le-ltb, ltb-true, ltb-false}
use Rattle.ft_items.specs.Item.{Name, Item, variable, metavariable, rule, entry, shown}
use Rattle.ft_items.specs.Sets.{metavariables_only}
use Rattle.ft_items.specs.Store.{Assertion, annotated, nth, entries_in, variables_in, declared_by}
use Rattle.ft_items.specs.Equal.{is_thesis}
use Rattle.ft_items.specs.Good.{Reject as Reason, Reference as reference, Kind as kind, Premise as premise, Number as number, Loose as loose, Good, is_next, is_plain_type, reason_of_shown, reason_of_metavariable, reason_of_variable, unless}
use Rattle.ft_items.proofs.Lists.{store_is, annotated_number}
use Rattle.ft_stated.specs.First.{at_least, first_place, greatest_number, is_variable_of}
use Rattle.ft_check.specs.Entries.{no_variable}
use Rattle.ft_check.proofs.Before.{equal_swapped, is_not_before, none_before}

-- a shown mark
pub shown_missing : (o : Option Assertion) → None ≡ o → Some reference ≡ reason_of_shown o
shown_missing o h = ap reason_of_shown h

pub shown_right : (o : Option Assertion) (a : Assertion) → Some a ≡ o → true ≡ is_thesis a.statement → None ≡ reason_of_shown o
shown_right o a h t = ap (λ b. unless b kind None) t ∙ ap reason_of_shown h

pub shown_wrong : (o : Option Assertion) (a : Assertion) → Some a ≡ o → false ≡ is_thesis a.statement → Some kind ≡ reason_of_shown o
shown_wrong o a h t = ap (λ b. unless b kind None) t ∙ ap reason_of_shown h

-- a metavariable
pub metavariable_kind : (a : Assertion) → true ≡ is_thesis a.statement → Some kind ≡ reason_of_metavariable (Some a)
metavariable_kind a t = ap (λ b. unless (not b) kind (unless (metavariables_only a.set) loose None)) t

pub metavariable_right : (a : Assertion) → false ≡ is_thesis a.statement → true ≡ metavariables_only a.set → None ≡ reason_of_metavariable (Some a)
metavariable_right a t m = ap₂ (λ b c. unless (not b) kind (unless c loose None)) t m

pub metavariable_loose : (a : Assertion) → false ≡ is_thesis a.statement → false ≡ metavariables_only a.set → Some loose ≡ reason_of_metavariable (Some a)
metavariable_loose a t m = ap₂ (λ b c. unless (not b) kind (unless c loose None)) t m

pub metavariable_missing : (o : Option Assertion) → None ≡ o → Some reference ≡ reason_of_metavariable o
metavariable_missing o h = ap reason_of_metavariable h

pub metavariable_found : (o : Option Assertion) (a : Assertion) (r : Option Reason) → Some a ≡ o → r ≡ reason_of_metavariable (Some a) → r ≡ reason_of_metavariable o
metavariable_found o a r h e = e ∙ ap reason_of_metavariable h

-- a variable
pub variable_kind : (a : Assertion) → false ≡ is_thesis a.statement → Some kind ≡ reason_of_variable (Some a)
variable_kind a t = ap (λ b. unless b kind (unless (is_plain_type a.statement) premise None)) t

pub variable_right : (a : Assertion) → true ≡ is_thesis a.statement → true ≡ is_plain_type a.statement → None ≡ reason_of_variable (Some a)
variable_right a t p = ap₂ (λ b c. unless b kind (unless c premise None)) t p

pub variable_premise : (a : Assertion) → true ≡ is_thesis a.statement → false ≡ is_plain_type a.statement → Some premise ≡ reason_of_variable (Some a)
variable_premise a t p = ap₂ (λ b c. unless b kind (unless c premise None)) t p

pub variable_number : (b : Bool) (r : Option Reason) → false ≡ b → Some number ≡ unless b number r
variable_number b r f = ap (λ b. unless b number r) f

pub variable_missing : (b : Bool) (o : Option Assertion) → true ≡ b → None ≡ o → Some reference ≡ unless b number (reason_of_variable o)
variable_missing b o t h = ap₂ (λ b o. unless b number (reason_of_variable o)) t h

pub variable_found : (b : Bool) (o : Option Assertion) (a : Assertion) (r : Option Reason) → true ≡ b → Some a ≡ o → r ≡ reason_of_variable (Some a) → r ≡ unless b number (reason_of_variable o)
variable_found b o a r t h e = e ∙ ap₂ (λ b o. unless b number (reason_of_variable o)) t h

-- the numbers of the variables of a good list
-- the test that the greatest number, where there is one, is smaller
abbrev pub is_below : ℕ → Option ℕ → Bool
is_below v None = true
is_below v (Some w) = nat_lt w v

below_both : (a b v : ℕ) → (nat_lt a v && nat_lt b v) ≡ nat_lt (max a b) v
below_both a b v = go (nat_lt a v) (nat_lt b v) refl refl
  where
    go : (c d : Bool) → nat_lt a v ≡ c → nat_lt b v ≡ d → (c && d) ≡ nat_lt (max a b) v
    go true true t u = let l : a < v = ltb-true a v t in let r : b < v = ltb-true b v u in sym (lt-ltb (max a b) v (omega (arith, l, r)))
    go true false t f = let r : v ≤ b = ltb-false b v f in sym (le-ltb (max a b) v (omega (arith, r)))
    go false d f u = let l : v ≤ a = ltb-false a v f in sym (le-ltb (max a b) v (omega (arith, l)))

below_greatest : (a v : ℕ) (o : Option ℕ) → (nat_lt a v && is_below v o) ≡ nat_lt (at_least a o) v
below_greatest a v None = go (nat_lt a v)
  where
    go : (b : Bool) → (b && true) ≡ b
    go true = refl
    go false = refl
below_greatest a v (Some b) = below_both a b v

next_below : (f : ℕ × Name × ℕ → Option Assertion) (v : ℕ) (xs : List (ℕ × Name × ℕ)) → is_next (map (λ (x : ℕ × Name × ℕ). annotated x (f x)) xs) v ≡ is_below v (greatest_number xs)
next_below f v [] = refl
next_below f v (x ∷ xs) = ap₂ (λ n b. nat_lt n v && b) (annotated_number x (f x)) (next_below f v xs) ∙ below_greatest x.0 v (greatest_number xs)

pub next_is : (items : List Item) (v : ℕ) (o : Option ℕ) → o ≡ greatest_number (variables_in items) → Good items → is_below v o ≡ is_next (declared_by items).variables v
next_is items v o e g = ap (is_below v) e ∙ sym (ap (λ G. is_next G v) (store_is items g).variables ∙ next_below (λ x. nth (entries_in items) x.2) v (variables_in items))

-- the variables of a list, by their numbers
lacks_all : (v : ℕ) (items : List Item) → no_variable v (variables_in items) ≡ list_all (λ i. not (is_variable_of v i)) items
lacks_all v [] = refl
lacks_all v (variable w n p ∷ items) = ap₂ (λ b c. not b && c) (equal_swapped v w) (lacks_all v items)
lacks_all v (metavariable n p ∷ items) = lacks_all v items
lacks_all v (rule n ms p ∷ items) = lacks_all v items
lacks_all v (entry e ∷ items) = lacks_all v items
lacks_all v (shown p ∷ items) = lacks_all v items

-- no variable has the number before the place of the first that has it
pub lacks_before : (items : List Item) (i v : ℕ) (o : Option ℕ) → o ≡ first_place (is_variable_of v) items → is_not_before i o ≡ no_variable v (variables_in (take i items))
lacks_before items i v o e = ap (is_not_before i) e ∙ sym (lacks_all v (take i items) ∙ none_before (is_variable_of v) items i)
