-- Rules of a grammar, and the lists of tokens that each has.
use Rattle.std.specs.Prelude.{ℕ, ◌≡◌, Bool, true, false, if◌then◌else◌, List, [], ◌∷◌, ◌++◌, Option, Some, None, ◌⊎◌}
use Rattle.ft_base.specs.declared.word.Word.{Word}
use Rattle.ft_base.specs.contracts.word.WordPartialEq.TheImpl as word_eq
use Rattle.ft_grammar.specs.declared.token.Mark.{Mark}
use Rattle.ft_grammar.specs.contracts.token.MarkPartialEq.TheImpl as mark_eq
use Rattle.ft_grammar.specs.declared.token.Kind.{Kind}
use Rattle.ft_grammar.specs.declared.token.Kind.TheVariants as kind
use Rattle.ft_grammar.specs.declared.token.Token.{Token}
use Rattle.ft_grammar.specs.declared.syntax.Named.{Named}
use Rattle.ft_grammar.specs.declared.syntax.AmlType.{AmlType}
use Rattle.ft_grammar.specs.declared.syntax.Pattern.{Pattern}
use Rattle.ft_grammar.specs.declared.syntax.Ast.{Ast}

-- the parts that count for nesting
pub data Part : Type 0 where
  expression : Part
  pattern : Part
  type : Part
  type_atom : Part

abbrev pub Tree : Part → Type 0
Tree expression = Ast
Tree pattern = Pattern
Tree type = AmlType
Tree type_atom = AmlType

-- a rule whose lists of tokens have values
pub data Rule : Type 0 → Type 1 where
  -- no token
  give : {A : Type 0} → A → Rule A
  -- one token
  name : Rule Named
  number : Rule ℕ
  word : {A : Type 0} → (Word → Option A) → Rule A
  mark : Mark → Rule (Unit {0})
  -- a part that nests one deeper
  part : (p : Part) → Rule (Tree p)
  -- some tokens, by the place at which the first begins
  starting : {A : Type 0} → (ℕ → Rule A) → Rule A
  -- one rule after the other
  sequence : {A B : Type 0} → Rule B → (B → Rule A) → Rule A
  -- either of two rules; a list of the first one begins with a token that passes the test, and a list of the second does not
  either : {A : Type 0} → (Kind → Bool) → Rule A → Rule A → Rule A
  -- the same, by tests of the first token and of the second
  either_by_two : {A : Type 0} → (Kind → Bool) → (Kind → Bool) → Rule A → Rule A → Rule A
  -- the lists of the rule that begin with a token that does not pass the test
  unless : {A : Type 0} → (Kind → Bool) → Rule A → Rule A
  -- these values, and then any number of others; the lists of each begin with a token that passes the test
  more : {A : Type 0} → List A → (Kind → Bool) → Rule A → Rule (List A)

infixl 10 ◌>>=◌
abbrev pub ◌>>=◌ : {A B : Type 0} → Rule B → (B → Rule A) → Rule A
r >>= f = sequence r f

infixl 10 ◌>>◌
abbrev pub ◌>>◌ : {A B : Type 0} → Rule B → Rule A → Rule A
r >> s = sequence r (λ _. s)

-- the word and no other
unfoldable pub exactly : Word → Word → Option (Unit {0})
exactly w v = if (word_eq.ghosts).eq v w then Some tt else None

abbrev pub the : Word → Rule (Unit {0})
the w = word (exactly w)

unfoldable pub is_word : Word → Kind → Bool
is_word w (kind.Word v) = (word_eq.ghosts).eq v w
is_word w _ = false

unfoldable pub is_mark : Mark → Kind → Bool
is_mark m (kind.Mark v) = (mark_eq.ghosts).eq v m
is_mark m _ = false

unfoldable pub is_name : Kind → Bool
is_name (kind.Name n) = true
is_name _ = false

-- the value of a token, where it has one
abbrev pub named : ℕ → Kind → Option Named
named at (kind.Name n) = Some (record { name = n; at = at })
named at _ = None

abbrev pub numbered : Kind → Option ℕ
numbered (kind.Number n) = Some n
numbered _ = None

abbrev pub worded : {A : Type 0} → (Word → Option A) → Kind → Option A
worded value (kind.Word w) = value w
worded value _ = None

-- a list of tokens falls into lists that have these values
abbrev pub AllOf : {A : Type 0} → (A → List Token → Type 0) → List A → List Token → Type 0
AllOf R [] xs = xs ≡ []
AllOf R (a ∷ others) xs = (ys zs : List Token) × (xs ≡ ys ++ zs) × R a ys × AllOf R others zs

-- a list of tokens has a value by a rule, where each part has its values in that way
abbrev pub Is : {A : Type 0} → ((p : Part) → Tree p → List Token → Type 0) → Rule A → A → List Token → Type 0
Is parts (give b) a xs = (a ≡ b) × (xs ≡ [])
Is parts name a xs = (t : Token) × (xs ≡ t ∷ []) × (named t.start t.kind ≡ Some a)
Is parts number a xs = (t : Token) × (xs ≡ t ∷ []) × (numbered t.kind ≡ Some a)
Is parts (word value) a xs = (t : Token) × (xs ≡ t ∷ []) × (worded value t.kind ≡ Some a)
Is parts (mark m) a xs = (t : Token) × (xs ≡ t ∷ []) × (is_mark m t.kind ≡ true)
Is parts (part p) a xs = parts p a xs
Is parts (starting f) a xs = (t : Token) × (ys : List Token) × (xs ≡ t ∷ ys) × Is parts (f t.start) a xs
Is parts (sequence {B = B} r f) a xs = (b : B) × (ys zs : List Token) × (xs ≡ ys ++ zs) × Is parts r b ys × Is parts (f b) a zs
Is parts (either test r s) a xs = Is parts r a xs ⊎ Is parts s a xs
Is parts (either_by_two first second r s) a xs = Is parts r a xs ⊎ Is parts s a xs
Is parts (unless test r) a xs = (t : Token) × (ys : List Token) × (xs ≡ t ∷ ys) × (test t.kind ≡ false) × Is parts r a xs
Is parts (more {A = B} found test r) a xs = (bs : List B) × (a ≡ found ++ bs) × AllOf (Is parts r) bs xs
