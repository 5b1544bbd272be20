-- What holds of two worked lists of items: a derivation file of two rules, and S(S(O)) : Nat over the natural numbers.
use Rattle.std.specs.Prelude.{ℕ, ◌≡◌, List, [], ◌∷◌, codes}
use Rattle.ft_theory.specs.Statements.{is_type, has_type, type_goal, term_goal, plain}
use Rattle.ft_theory.specs.Rules.{Rule}
use Rattle.ft_theory.specs.Steps.{Prim}
use Rattle.ft_items.specs.Sets.{var}
use Rattle.ft_items.specs.Item.{by_btype, by_bterm, by_rule, Item, metavariable, rule, shown}
use Rattle.ft_items.specs.Good.{Good, Set, Verdict, Accepted, Rejected, verdict}
use Rattle.ft_items.specs.Worked.{states, Nat, O, S, zero_file}

-- accepted with so many rules, entries and shown marks, and this level
abbrev pub accepted : ℕ → ℕ → ℕ → ℕ → Verdict
accepted r e s l = Accepted (record { rules = r; entries = e; shown = s; level = l })

-- the list of two rules is good, and accepted with these counts
abbrev pub ZeroFileIsGood : Type 0
ZeroFileIsGood = Good (zero_file []) × (verdict (zero_file []) ≡ accepted 2 4 1 1)

-- with a variable in the set of the sixth item it is not good, and that item is named, for its set
abbrev pub OtherSetIsNotGood : Type 0
OtherSetIsNotGood = (Good (zero_file (var 0 ∷ [])) → ⊥) × (verdict (zero_file (var 0 ∷ [])) ≡ Rejected 5 Set)

-- the rules `Nat type`, `O : Nat` and `S (n : Nat) : Nat`, and the mark that shows `S(S(O)) : Nat`
abbrev pub two_file : List Item
two_file = states (plain type_goal) [] by_btype
    ∷ rule (codes "Nat") [] 0
    ∷ states (plain (is_type Nat)) [] (by_rule 0 [])
    ∷ states (plain (term_goal Nat)) [] (by_bterm 1)
    ∷ rule (codes "O") [] 2
    ∷ metavariable (codes "n") 2
    ∷ rule (codes "S") (0 ∷ []) 2
    ∷ states (plain (has_type O Nat)) [] (by_rule 1 [])
    ∷ states (plain (has_type (S O) Nat)) [] (by_rule 2 (3 ∷ []))
    ∷ states (plain (has_type (S (S O)) Nat)) [] (by_rule 2 (4 ∷ []))
    ∷ shown 5
    ∷ []

-- the natural numbers as a theory
abbrev pub natural_numbers : List Rule
natural_numbers = record { premises = []; conclusion = type_goal }
    ∷ record { premises = []; conclusion = term_goal Nat }
    ∷ record { premises = (0, plain (term_goal Nat)) ∷ []; conclusion = term_goal Nat }
    ∷ []

-- the list is good, so `S(S(O)) : Nat` is derivable over the natural numbers, from nothing
abbrev pub TwoIsNatural : Type 0
TwoIsNatural = Good two_file × Prim natural_numbers [] [] (plain (has_type (S (S O)) Nat))
