-- The reader of a source, as a function on lists of tokens: what is left of the nesting bounds the recursion.
use Rattle.std.specs.Prelude.{ℕ, zero, suc, ◌≡◌, ◌≢◌, Bool, true, false, if◌then◌else◌, List, [], ◌∷◌, ◌++◌, length, drop, Result, Ok, Err, Option, Some, None}
use Rattle.ft_base.specs.declared.word.Word.{Word}
use Rattle.ft_base.specs.declared.word.Word.TheVariants as word
use Rattle.ft_base.specs.contracts.word.WordPartialEq.TheImpl as word_eq
use Rattle.ft_grammar.specs.declared.token.Mark.{Mark}
use Rattle.ft_grammar.specs.declared.token.Mark.TheVariants as mark
use Rattle.ft_grammar.specs.contracts.token.MarkPartialEq.TheImpl as mark_eq
use Rattle.ft_grammar.specs.declared.token.Kind.{Kind}
use Rattle.ft_grammar.specs.declared.token.Kind.TheVariants as kind
use Rattle.ft_applications.specs.declared.fault.Fault.{Fault}
use Rattle.ft_applications.specs.declared.fault.Fault.TheVariants.{NotYet, Memory}
use Rattle.ft_applications_meaning.specs.declared.syntax.Application.{Application}
use Rattle.ft_applications_meaning.specs.declared.syntax.Application.TheVariants as application
use Rattle.ft_applications_meaning.specs.declared.syntax.Premise.{Premise}
use Rattle.ft_applications_meaning.specs.declared.syntax.Premise.TheVariants as premise
use Rattle.ft_applications_meaning.specs.declared.syntax.Conclusion.{Conclusion}
use Rattle.ft_applications_meaning.specs.declared.syntax.Conclusion.TheVariants as conclusion
use Rattle.ft_applications_meaning.specs.declared.syntax.Command.{Command}
use Rattle.ft_applications_meaning.specs.declared.syntax.Command.TheVariants as command

-- what is read, with the tokens that are left
abbrev pub Outcome : Type 0 → Type 0
Outcome A = Result (A × List Kind) Fault

abbrev pub Reader : Type 0 → Type 0
Reader A = List Kind → Outcome A

abbrev pub and_then : {A B : Type 0} → Outcome A → (A → Reader B) → Outcome B
and_then (Ok p) f = f p.0 p.1
and_then (Err e) f = Err e

infixl 10 ◌>>=◌
abbrev pub ◌>>=◌ : {A B : Type 0} → Reader A → (A → Reader B) → Reader B
p >>= f = λ ts. and_then (p ts) f

infixl 10 ◌>>◌
abbrev pub ◌>>◌ : {A B : Type 0} → Reader A → Reader B → Reader B
p >> q = p >>= (λ _. q)

abbrev pub pure : {A : Type 0} → A → Reader A
pure a = λ ts. Ok (a, ts)

-- what is read, without the tokens that are left
abbrev pub value_of : {A : Type 0} → Outcome A → Result A Fault
value_of (Ok p) = Ok p.0
value_of (Err e) = Err e

-- not in this language
abbrev pub refuse : {A : Type 0} → Reader A
refuse = λ ts. Err NotYet

abbrev pub is_word : Word → Kind → Bool
is_word w (kind.Word v) = (word_eq.ghosts).eq v w
is_word w _ = false

abbrev pub is_mark : Mark → Kind → Bool
is_mark m (kind.Mark v) = (mark_eq.ghosts).eq v m
is_mark m _ = false

abbrev pub is_name : Kind → Bool
is_name (kind.Name n) = true
is_name _ = false

-- whether the next token is the word
unfoldable pub sees_word : Word → List Kind → Bool
sees_word w [] = false
sees_word w (k ∷ ks) = is_word w k

-- whether the next token is the mark
unfoldable pub sees_mark : Mark → List Kind → Bool
sees_mark m [] = false
sees_mark m (k ∷ ks) = is_mark m k

-- whether the next token is a name
unfoldable pub sees_name : List Kind → Bool
sees_name [] = false
sees_name (k ∷ ks) = is_name k

abbrev pub is_end : Kind → Bool
is_end kind.End = true
is_end _ = false

-- whether the end alone is left
unfoldable pub sees_end : List Kind → Bool
sees_end [] = false
sees_end (k ∷ []) = is_end k
sees_end (k ∷ j ∷ ks) = false

-- goes past one token
abbrev pub take_token : Reader (Unit {0})
take_token = λ ts. Ok (tt, drop 1 ts)

unfoldable pub expect_mark : Mark → Reader (Unit {0})
expect_mark m = λ ts. if sees_mark m ts then Ok (tt, drop 1 ts) else refuse ts

abbrev pub name_of : Kind → List Kind → Outcome (List ℕ)
name_of (kind.Name n) ks = Ok (n, ks)
name_of _ ks = Err NotYet

-- a name
unfoldable pub name : Reader (List ℕ)
name [] = Err NotYet
name (k ∷ ks) = name_of k ks

-- what was found with one more, and so on; or what was found, where there was none
abbrev pub go_on : {A : Type 0} → (List A → Reader (List A)) → List A → Option A → Reader (List A)
go_on next found None = pure found
go_on next found (Some a) = next (found ++ a ∷ [])

-- ---- with a reader of applications one level deeper
module _ (inner : Reader Application) where
  -- an argument, where one is next: a name, or an application in parentheses
  unfoldable pub one_argument : Reader (Option Application)
  one_argument = λ ts.
      if sees_name ts then (do
        given ← name
        pure (Some (application.Apply given []))) ts else
      if sees_mark mark.LeftParen ts then (do
        take_token
        given ← inner
        expect_mark mark.RightParen
        pure (Some given)) ts else
      pure None ts

  -- arguments as far as they go; the number bounds the turns
  unfoldable pub arguments_from : ℕ → List Application → Reader (List Application)
  arguments_from zero found = pure found
  arguments_from (suc n) found = one_argument >>= go_on (arguments_from n) found

  -- a name with arguments
  unfoldable pub level : Reader Application
  level = do
    given ← name
    found ← (λ ts. arguments_from (length ts) [] ts)
    pure (application.Apply given found)

-- an application that nests no deeper than the number
unfoldable pub expression : ℕ → Reader Application
expression zero = refuse
expression (suc depth) = level (expression depth)

-- an application at the nesting that a source allows
abbrev pub nested : Reader Application
nested = expression 200

-- a premise, after its parenthesis
unfoldable pub premise_inside : Reader Premise
premise_inside = do
  given ← name
  typed ← (λ ts. Ok (sees_word word.TypeWord ts, ts))
  if typed then (do
    take_token
    pure (premise.Type given)) else (do
      expect_mark mark.Colon
      type ← nested
      pure (premise.Term given type))

-- a premise, where one is next
unfoldable pub one_premise : Reader (Option Premise)
one_premise = λ ts.
    if sees_mark mark.LeftParen ts then (do
      take_token
      given ← premise_inside
      expect_mark mark.RightParen
      pure (Some given)) ts else
    pure None ts

-- premises as far as they go; the number bounds the turns
unfoldable pub premises_from : ℕ → List Premise → Reader (List Premise)
premises_from zero found = pure found
premises_from (suc n) found = one_premise >>= go_on (premises_from n) found

-- what a rule concludes
unfoldable pub concluded : Reader Conclusion
concluded = do
  typed ← (λ ts. Ok (sees_word word.TypeWord ts, ts))
  if typed then (do
    take_token
    pure conclusion.Type) else (do
      expect_mark mark.Colon
      type ← nested
      pure (conclusion.Term type))

-- a rule, after its word
unfoldable pub rule : Reader Command
rule = do
  given ← name
  premises ← (λ ts. premises_from (length ts) [] ts)
  concludes ← concluded
  pure (command.Rule given premises concludes)

-- what is shown, after its word
unfoldable pub show : Reader Command
show = do
  shown ← nested
  pure (command.Show shown)

-- a command
unfoldable pub one_command : Reader Command
one_command = λ ts.
    if sees_word word.Rule ts then (do
      take_token
      rule) ts else
    if sees_word word.Show ts then (do
      take_token
      show) ts else
    refuse ts

-- commands up to the end; the number bounds the turns
unfoldable pub commands_from : ℕ → List Command → Reader (List Command)
commands_from zero found = refuse
commands_from (suc n) found = λ ts.
    if sees_end ts then pure found ts else (do
      given ← one_command
      commands_from n (found ++ given ∷ [])) ts

-- the commands of a source
unfoldable pub source : List Kind → Result (List Command) Fault
source ts = value_of (commands_from (length ts) [] ts)

-- what a function that reads ensures
abbrev pub Reads : {A : Type 0} → Outcome A → Result A Fault → List Kind → Type 0
Reads outcome (Ok a) new = outcome ≡ Ok (a, new)
Reads outcome (Err e) new = e ≢ Memory → outcome ≡ Err e

-- what a function that reads a whole source ensures
abbrev pub ReadsAll : {A : Type 0} → Result A Fault → Result A Fault → Type 0
ReadsAll outcome (Ok a) = outcome ≡ Ok a
ReadsAll outcome (Err e) = e ≢ Memory → outcome ≡ Err e
