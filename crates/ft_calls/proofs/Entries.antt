-- What a token names.
use Rattle.std.proofs.Common.{◌≡◌, ◌≢◌, ◌∙◌, ℕ, List, [], ◌∷◌, length, false, Option, Some, None, option_map, ap, ap₂, refl, sym, arith}
use Rattle.std.proofs.lemmas.Option.{same_Some}
use Rattle.ft_common.proofs.Options.{none_some}
use Rattle.ft_theory.specs.Statements.{Statement}
use Rattle.ft_items.specs.Sets.{Atom}
use Rattle.ft_items.specs.Store.{Assertion}
use Rattle.ft_items.specs.Equal.{is_plain}
use Rattle.ft_judge.specs.Meaning.{under, thesis_in}
use Rattle.ft_judge.specs.declared.judgement.Thesis.{Thesis}
use Rattle.ft_kernel.specs.State.{State, entry_at, statement_at, set_at, IsThesisOf}
use Rattle.ft_calls.specs.Forming.{plain_in, HasDomains}

together : (o : Option Assertion) (x : Statement) (S : List Atom) → option_map (λ (a : Assertion). a.statement) o ≡ Some x → option_map (λ (a : Assertion). a.set) o ≡ Some S → o ≡ Some (record { statement = x; set = S })
together None x S h k = none_some h
together (Some a) x S h k = ap₂ (λ x S. Some (record { statement = x; set = S })) (same_Some a.statement x h) (same_Some a.set S k)

-- the statement of an entry
pub stated_is : (s : State) (n : ℕ) (a : Assertion) (x : Statement) → entry_at s n ≡ Some a → statement_at s n ≡ Some x → a.statement ≡ x
stated_is s n a x h k = same_Some a.statement x (ap (option_map (λ (a : Assertion). a.statement)) (sym h) ∙ k)

-- an entry by its statement and its set
pub entry_is : (s : State) (n : ℕ) (x : Statement) (S : List Atom) → statement_at s n ≡ Some x → set_at s n ≡ Some S → entry_at s n ≡ Some (record { statement = x; set = S })
entry_is s n x S h k = together (entry_at s n) x S h k

-- an entry without domains
pub plain_is : (s : State) (j : ℕ) (x : Thesis) → statement_at s j ≡ Some (thesis_in s.trees x) → length x.domains ≡ 0 → statement_at s j ≡ Some (plain_in s.trees x.form)
plain_is s j x h e = h ∙ ap Some (none_around x.domains e)
  where
    none_around : (ds : List ℕ) → length ds ≡ 0 → under s.trees ds (plain_in s.trees x.form) ≡ plain_in s.trees x.form
    none_around [] e = refl
    none_around (d ∷ ds) e = absurd (omega (arith, e))

-- an entry with domains
pub domains_are : (s : State) (j : ℕ) (x : Thesis) → IsThesisOf s j → statement_at s j ≡ Some (thesis_in s.trees x) → length x.domains ≢ 0 → HasDomains s j
domains_are s j x t h n = (t.0, t.1, ap is_plain (stated_is s j t.0 (thesis_in s.trees x) t.1 h) ∙ some_around x.domains n)
  where
    some_around : (ds : List ℕ) → length ds ≢ 0 → is_plain (under s.trees ds (plain_in s.trees x.form)) ≡ false
    some_around [] n = absurd (n refl)
    some_around (d ∷ ds) n = refl
