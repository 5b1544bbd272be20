-- The tokens of a text. A text is the list of its characters, and a place in it is the number of bytes before it.
use Rattle.std.specs.Prelude.{ℕ, zero, suc, ◌+◌, ◌-◌, List, [], ◌∷◌, ◌++◌, take, Option, Some, None}
use Rattle.std.specs.Char.{len_utf8}
use Rattle.ft_grammar.specs.declared.token.Kind.{Kind}
use Rattle.ft_grammar.specs.declared.token.Kind.TheVariants.{End}
use Rattle.ft_grammar.specs.declared.token.Token.{Token}
use Rattle.ft_grammar.specs.Fronts.{front}

-- how many bytes the characters take
abbrev pub width : List ℕ → ℕ
width [] = 0
width (c ∷ cs) = len_utf8 c + width cs

-- one token for one front, and none for white space and comments
abbrev pub token_at : ℕ → Option Kind → ℕ → List Token
token_at start None end = []
token_at start (Some kind) end = record { kind = kind; start = start; end = end } ∷ []

-- the tokens of the rest of a text from a place on, where so many of its characters belong to a front that was told before
abbrev pub tokens_from : ℕ → ℕ → List ℕ → List Token
tokens_from at told [] = record { kind = End; start = at; end = at } ∷ []
tokens_from at (suc told) (c ∷ cs) = tokens_from (at + len_utf8 c) told cs
tokens_from at zero (c ∷ cs) =
    token_at at (front c cs).0 (at + width (take (front c cs).1 (c ∷ cs)))
    ++ tokens_from (at + len_utf8 c) ((front c cs).1 - 1) cs

-- the tokens of a text
abbrev pub tokens_of : List ℕ → List Token
tokens_of text = tokens_from 0 0 text
