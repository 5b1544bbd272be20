-- What the bytes of a source are: too many, no text, a text outside the grammar, or the text of commands.
use Rattle.std.specs.Prelude.{ℕ, ◌≡◌, ◌<◌, ◌≤◌, List, map, length, Err}
use Rattle.std.specs.Str.{IsUtf8, IsValidUpTo, chars}
use Rattle.ft_grammar.specs.declared.token.Token.{Token}
use Rattle.ft_grammar.specs.declared.fault.SyntaxFault.TheVariants.{Unexpected, TooNested}
use Rattle.ft_grammar.specs.declared.syntax.Command.{Command as Tree}
use Rattle.ft_grammar.specs.Tokens.{tokens_of}
use Rattle.ft_grammar.specs.Grammar.{IsSource, nesting}
use Rattle.ft_grammar.specs.Reading.{parse}
use Rattle.ft_meaning.specs.Trees.{Command, command_of}
use Rattle.ft_meaning.specs.Texts.{Text}

-- What a source is.
pub data Content : Type 0 where
  -- it has more bytes than a source may have
  too_long : Content
  -- it is UTF-8 up to so many bytes, and no further
  no_text : ℕ → Content
  -- a token at a place is not allowed
  unexpected : ℕ → Content
  -- a token at a place begins a part that is nested too deeply
  too_nested : ℕ → Content
  -- it is the text of commands
  commands : List Command → Content

-- how many bytes a source may have
abbrev pub greatest_length : ℕ
greatest_length = 1048576

-- the tokens of a source
abbrev pub source_tokens : Text → List Token
source_tokens source = tokens_of (chars source)

-- the bytes are a text, and not too many
abbrev pub IsText : Text → Type 0
IsText source = (length source ≤ greatest_length) × IsUtf8 source

-- The tokens are those of these commands by the grammar.
abbrev pub IsProgram : List Token → List Command → Type 0
IsProgram tokens cs = (trees : List Tree) × IsSource nesting trees tokens × (cs ≡ map command_of trees)

-- The bytes have this content. Where the tokens are those of no commands, the place is the one at which reading them by the rules of
-- the grammar ends: which part is nested too deeply is not told by the lists of tokens that are in the grammar alone.
abbrev pub HasContent : Text → Content → Type 0
HasContent source too_long = greatest_length < length source
HasContent source (no_text n) = (length source ≤ greatest_length) × IsValidUpTo source n
HasContent source (unexpected at) = IsText source × (parse (source_tokens source) ≡ Err (Unexpected at))
HasContent source (too_nested at) = IsText source × (parse (source_tokens source) ≡ Err (TooNested at))
HasContent source (commands cs) = IsText source × IsProgram (source_tokens source) cs
