-- What holds of the grammar of sources.
use Rattle.std.specs.Prelude.{ℕ, ◌≡◌, ◌≢◌, ◌↔◌, List, Ok, Err}
use Rattle.ft_grammar.specs.declared.token.Token.{Token}
use Rattle.ft_grammar.specs.declared.fault.SyntaxFault.TheVariants.{Unexpected, TooNested, Memory}
use Rattle.ft_grammar.specs.declared.syntax.Command.{Command}
use Rattle.ft_grammar.specs.Tokens.{tokens_of}
use Rattle.ft_grammar.specs.Grammar.{IsSource, nesting}
use Rattle.ft_grammar.specs.Reading.{parse}
use Rattle.ft_grammar.specs.Sources.{IsClosed, IsFirstUnexpected, IsTooNested}

-- A list of tokens is a source of at most one list of commands, whatever the nesting that is allowed.
abbrev pub OneTree : Type 0
OneTree = (depth : ℕ) (c d : List Command) (ts : List Token) → IsSource depth c ts → IsSource depth d ts → c ≡ d

-- What is in the grammar is read, as the same commands.
abbrev pub InGrammarIsAccepted : Type 0
InGrammarIsAccepted = (c : List Command) (ts : List Token) → IsSource nesting c ts → parse ts ≡ Ok c

-- What is read is in the grammar, as the same commands.
abbrev pub AcceptedIsInGrammar : Type 0
AcceptedIsInGrammar = (c : List Command) (ts : List Token) → IsClosed ts → parse ts ≡ Ok c → IsSource nesting c ts

-- Closed tokens are read as commands exactly where they are a source of them.
abbrev pub ReadExactlyAsSource : Type 0
ReadExactlyAsSource = (c : List Command) (ts : List Token) → IsClosed ts → (parse ts ≡ Ok c) ↔ IsSource nesting c ts

-- Reading never answers that memory was refused.
abbrev pub NeverMemory : Type 0
NeverMemory = (ts : List Token) → parse ts ≢ Err Memory

-- `Unexpected` names the first token with which no source goes on, whatever the nesting.
abbrev pub UnexpectedIsFirst : Type 0
UnexpectedIsFirst = (at : ℕ) (ts : List Token) → IsClosed ts → parse ts ≡ Err (Unexpected at) → IsFirstUnexpected at ts

-- `TooNested` names a token with which no source goes on at the nesting of sources, where one goes on with the tokens before it at
-- some nesting.
abbrev pub TooNestedCannotGoOn : Type 0
TooNestedCannotGoOn = (at : ℕ) (ts : List Token) → IsClosed ts → parse ts ≡ Err (TooNested at) → IsTooNested nesting at ts

-- The last token of a text, and no other, is the end.
abbrev pub TokensClosed : Type 0
TokensClosed = (text : List ℕ) → IsClosed (tokens_of text)
