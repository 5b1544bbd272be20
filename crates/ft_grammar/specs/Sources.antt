-- Lists of tokens that end as a source does.
use Rattle.std.specs.Prelude.{◌≡◌, ℕ, true, List, [], ◌∷◌, ◌++◌}
use Rattle.ft_grammar.specs.declared.token.Kind.TheVariants as kind
use Rattle.ft_grammar.specs.declared.token.Token.{Token}
use Rattle.ft_grammar.specs.declared.syntax.Command.{Command}
use Rattle.ft_grammar.specs.Forms.{is_no_end}
use Rattle.ft_grammar.specs.Grammar.{IsSource}

-- the last token of the list, and no other, is the end
abbrev pub IsClosed : List Token → Type 0
IsClosed [] = ⊥
IsClosed (t ∷ []) = t.kind ≡ kind.End
IsClosed (t ∷ u ∷ ts) = (is_no_end t.kind ≡ true) × IsClosed (u ∷ ts)

-- some list that begins with the tokens is a source, at some nesting
abbrev pub CanGoOn : List Token → Type 0
CanGoOn before = (rest : List Token) × (depth : ℕ) × (c : List Command) × IsSource depth c (before ++ rest)

-- no list that begins with the tokens is a source at that nesting
abbrev pub HasNoSource : ℕ → List Token → Type 0
HasNoSource depth before = (c : List Command) (rest : List Token) → IsSource depth c (before ++ rest) → ⊥

-- the tokens have a first one, which begins at that place, with which they can't go on at any nesting
abbrev pub IsFirstUnexpected : ℕ → List Token → Type 0
IsFirstUnexpected at ts =
    (before : List Token) × (t : Token) × (after : List Token) × (ts ≡ before ++ t ∷ after) × (at ≡ t.start) × CanGoOn before
    × ((depth : ℕ) → HasNoSource depth (before ++ t ∷ []))

-- the tokens have one, which begins at that place, with which they can't go on at the nesting; those before it can at some nesting
abbrev pub IsTooNested : ℕ → ℕ → List Token → Type 0
IsTooNested nesting at ts =
    (before : List Token) × (t : Token) × (after : List Token) × (ts ≡ before ++ t ∷ after) × (at ≡ t.start) × CanGoOn before
    × HasNoSource nesting (before ++ t ∷ [])
