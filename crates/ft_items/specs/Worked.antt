-- A worked list of items: the derivation of two rules of the natural numbers.
use Rattle.std.specs.Prelude.{ℕ, List, [], ◌∷◌, codes}
use Rattle.ft_theory.specs.Expressions.{Expression, symbol, no_arguments, with_body}
use Rattle.ft_theory.specs.Statements.{is_type, has_type, type_goal, term_goal, Statement, plain}
use Rattle.ft_items.specs.Sets.{Atom}
use Rattle.ft_items.specs.Item.{by_btype, by_bterm, by_rule, by_rulewith, Stated, Item, rule, entry, shown}

-- the entry of a statement with its set and its step
abbrev pub states : Statement → List Atom → Stated → Item
states x S s = entry (record { statement = x; set = S; step = s })

-- The symbols of the natural numbers: rules 0, 1 and 2.

-- the type Nat
abbrev pub Nat : Expression
Nat = symbol 0 no_arguments

-- the term O
abbrev pub O : Expression
O = symbol 1 no_arguments

-- the term S(e)
abbrev pub S : Expression → Expression
S e = symbol 2 (with_body 0 e no_arguments)

-- The rules `Nat type` and `O : Nat`, and the mark that shows `O : Nat`. The entry of `O : Nat`, the sixth item, states this
-- set.
abbrev pub zero_file : List Atom → List Item
zero_file set = states (plain type_goal) [] by_btype
    ∷ rule (codes "Nat") [] 0
    ∷ states (plain (is_type Nat)) [] (by_rule 0 [])
    ∷ states (plain (term_goal Nat)) [] (by_bterm 1)
    ∷ rule (codes "O") [] 2
    ∷ states (plain (has_type O Nat)) set (by_rulewith 1 2 [])
    ∷ shown 3
    ∷ []

-- its text, with the empty set
abbrev pub zero_text : List ℕ
zero_text = codes "andromeda derivation 1\nB T [] btype\nR Nat ; 0\nJ T s0() [] rule 0\nB t s0() [] bterm 1\nR O ; 2\nJ t s1() s0() [] rulewith 1 2\nW 3\nend\n"
