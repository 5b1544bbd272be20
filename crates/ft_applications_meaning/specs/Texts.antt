-- The texts of names, expressions and theses, as bytes.
use Rattle.std.specs.Prelude.{ℕ, List, [], ◌∷◌, ◌++◌, Option, Some, None, codes, encode_utf8_all}
use Rattle.ft_theory.specs.Expressions.{Expression, bound, free, symbol, meta, Arguments, no_arguments, with_body, dummy}
use Rattle.ft_theory.specs.Statements.{Claim, is_type, has_type}
use Rattle.ft_items.specs.Store.{nth}

-- a name in UTF-8
abbrev pub name_text : List ℕ → List ℕ
name_text n = encode_utf8_all n

-- the text of the name that there is
abbrev pub some_name_text : Option (List ℕ) → List ℕ
some_name_text None = []
some_name_text (Some n) = name_text n

-- the name of the rule of a symbol
abbrev pub symbol_text : List (List ℕ) → ℕ → List ℕ
symbol_text ns s = some_name_text (nth ns s)

-- a text in parentheses, unless it is empty
abbrev pub in_parentheses : List ℕ → List ℕ
in_parentheses [] = []
in_parentheses (c ∷ cs) = codes "(" ++ (c ∷ cs) ++ codes ")"

-- A symbol at arguments without binders: its name, and its arguments in parentheses, joined by a comma and a space. No other
-- expression stands in the language of applications.
abbrev mutual
  pub expression_text : List (List ℕ) → Expression → List ℕ
  expression_text ns (bound i) = []
  expression_text ns (free v) = []
  expression_text ns (symbol s no_arguments) = symbol_text ns s
  expression_text ns (symbol s (with_body n e a)) = symbol_text ns s ++ codes "(" ++ expression_text ns e ++ rest_text ns a ++ codes ")"
  expression_text ns (symbol s (dummy n a)) = symbol_text ns s
  expression_text ns (meta m a) = []

  -- further arguments, a comma and a space before each
  pub rest_text : List (List ℕ) → Arguments → List ℕ
  rest_text ns no_arguments = []
  rest_text ns (with_body n e a) = codes ", " ++ expression_text ns e ++ rest_text ns a
  rest_text ns (dummy n a) = rest_text ns a

-- `A type`, or `t : A`; no other thesis stands in the language of applications
abbrev pub claim_text : List (List ℕ) → Claim → List ℕ
claim_text ns (is_type A) = expression_text ns A ++ codes " type"
claim_text ns (has_type t A) = expression_text ns t ++ codes " : " ++ expression_text ns A
claim_text ns _ = []
