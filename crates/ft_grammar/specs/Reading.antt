-- Reading tokens by the rules of a grammar: a function to a tree and the tokens left, or to a fault and the tokens left, of which
-- the first is the one that the fault names. What is left of the nesting bounds the recursion.
use Rattle.std.specs.Prelude.{ℕ, zero, suc, ◌≡◌, ◌≢◌, Bool, true, false, ◌&&◌, if◌then◌else◌, List, [], ◌∷◌, ◌++◌, length, drop, Result, Ok, Err, Option, Some, None}
use Rattle.ft_base.specs.declared.word.Word.{Word}
use Rattle.ft_grammar.specs.declared.token.Mark.{Mark}
use Rattle.ft_grammar.specs.declared.token.Kind.{Kind}
use Rattle.ft_grammar.specs.declared.token.Kind.TheVariants as kind
use Rattle.ft_grammar.specs.declared.token.Token.{Token}
use Rattle.ft_grammar.specs.declared.fault.SyntaxFault.{SyntaxFault}
use Rattle.ft_grammar.specs.declared.fault.SyntaxFault.TheVariants.{Unexpected, TooNested, Memory}
use Rattle.ft_grammar.specs.declared.syntax.Named.{Named}
use Rattle.ft_grammar.specs.declared.syntax.AmlType.{AmlType}
use Rattle.ft_grammar.specs.declared.syntax.Command.{Command}
use Rattle.ft_grammar.specs.Rules.{Rule, Part, Tree, type, type_atom, give, name, number, word, mark, part, starting, sequence, either, either_by_two, unless, more, is_mark, named, numbered, worded}
use Rattle.ft_grammar.specs.Grammar.{rule_of, commands, nesting}

abbrev pub Outcome : Type 0 → Type 0
Outcome A = Result (A × List Token) (SyntaxFault × List Token)

abbrev pub Parser : Type 0 → Type 0
Parser A = List Token → Outcome A

abbrev pub and_then : {A B : Type 0} → Outcome A → (A → Parser B) → Outcome B
and_then (Ok p) f = f p.0 p.1
and_then (Err e) f = Err e

-- the next token; after all of them, the end
abbrev pub kind_of : List Token → Kind
kind_of [] = kind.End
kind_of (t ∷ ts) = t.kind

-- where the next token begins
abbrev pub start_of : List Token → ℕ
start_of [] = 0
start_of (t ∷ ts) = t.start

-- the next token is not allowed
abbrev pub refuse : {A : Type 0} → Parser A
refuse = λ ts. Err (Unexpected (start_of ts), ts)

-- the next token begins a part that is nested too deeply
abbrev pub too_nested : {A : Type 0} → Parser A
too_nested = λ ts. Err (TooNested (start_of ts), ts)

-- the value of the next token, where it has one
abbrev pub value_or_refuse : {A : Type 0} → Option A → Parser A
value_or_refuse (Some a) = λ ts. Ok (a, drop 1 ts)
value_or_refuse None = refuse

unfoldable pub read_name : Parser Named
read_name = λ ts. value_or_refuse (named (start_of ts) (kind_of ts)) ts

unfoldable pub read_number : Parser ℕ
read_number = λ ts. value_or_refuse (numbered (kind_of ts)) ts

unfoldable pub read_word : {A : Type 0} → (Word → Option A) → Parser A
read_word value = λ ts. value_or_refuse (worded value (kind_of ts)) ts

unfoldable pub read_mark : Mark → Parser (Unit {0})
read_mark m = λ ts. if is_mark m (kind_of ts) then Ok (tt, drop 1 ts) else refuse ts

-- what was found and what follows, as long as the next token passes the test; the number bounds the turns
unfoldable pub more_from : {A : Type 0} → (Kind → Bool) → Parser A → ℕ → List A → Parser (List A)
more_from test one zero found = λ ts. Ok (found, ts)
more_from test one (suc n) found = λ ts.
    if test (kind_of ts) then and_then (one ts) (λ a. more_from test one n (found ++ a ∷ [])) else Ok (found, ts)

-- reading by a rule, where the parts are read in that way
abbrev pub read : {A : Type 0} → ((p : Part) → Parser (Tree p)) → Rule A → Parser A
read parts (give a) = λ ts. Ok (a, ts)
read parts name = read_name
read parts number = read_number
read parts (word value) = read_word value
read parts (mark m) = read_mark m
read parts (part p) = parts p
read parts (starting f) = λ ts. read parts (f (start_of ts)) ts
read parts (sequence r f) = λ ts. and_then (read parts r ts) (λ b. read parts (f b))
read parts (either test r s) = λ ts. if test (kind_of ts) then read parts r ts else read parts s ts
read parts (either_by_two first second r s) = λ ts.
    if first (kind_of ts) && second (kind_of (drop 1 ts)) then read parts r ts else read parts s ts
read parts (unless test r) = λ ts. if test (kind_of ts) then refuse ts else read parts r ts
read parts (more found test r) = λ ts. more_from test (read parts r) (length ts) found ts

-- reading a part that nests no deeper than the number
unfoldable pub level : ℕ → (p : Part) → Parser (Tree p)
level zero p = too_nested
level (suc depth) p = read (level depth) (rule_of p)

-- a type, or one without a product
abbrev pub type_level : ℕ → Bool → Parser AmlType
type_level depth true = level depth type
type_level depth false = level depth type_atom

-- what was read, or the fault
abbrev pub answer : {A : Type 0} → Outcome A → Result A SyntaxFault
answer (Ok p) = Ok p.0
answer (Err e) = Err e.0

-- the commands of a source
unfoldable pub parse : List Token → Result (List Command) SyntaxFault
parse ts = answer (read (level nesting) commands ts)

-- what a function that reads ensures
abbrev pub Reads : {A : Type 0} → Outcome A → Result A SyntaxFault → List Token → Type 0
Reads outcome (Ok a) new = outcome ≡ Ok (a, new)
Reads outcome (Err e) new = e ≢ Memory → outcome ≡ Err (e, new)

-- what a function ensures that reads into a value that stands for another one
abbrev pub ReadsInto : {A B : Type 0} → Outcome A → Result B SyntaxFault → List Token → (B → A) → Type 0
ReadsInto outcome (Ok b) new value = outcome ≡ Ok (value b, new)
ReadsInto outcome (Err e) new value = e ≢ Memory → outcome ≡ Err (e, new)

-- what a function that reads a whole source ensures
abbrev pub ReadsAll : {A B : Type 0} → Result A SyntaxFault → Result B SyntaxFault → (B → A) → Type 0
ReadsAll outcome (Ok b) value = outcome ≡ Ok (value b)
ReadsAll outcome (Err e) value = e ≢ Memory → outcome ≡ Err e
