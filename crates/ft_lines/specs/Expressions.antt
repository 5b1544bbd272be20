-- Reading expressions. What is read is small, each part of it too.
use Rattle.std.specs.Prelude.{ℕ, zero, suc, ◌<◌, ◌≡◌, ◌≢◌, true, false, if◌then◌else◌, List, [], ◌∷◌, ◌++◌, length, map, Option, Some, None, Result, Ok, Err}
use Rattle.ft_theory.specs.Expressions.{Expression, bound, free, symbol, meta, Terms, no_terms, also}
use Rattle.ft_theory.specs.Small.{is_small}
use Rattle.ft_syntax.specs.Arguments.{Argument, as_arguments}
use Rattle.ft_syntax.specs.Table.{tree, argument_in, BodyBelow, ArgumentsBelow, AllBelow}
use Rattle.ft_syntax.specs.declared.syntax.Arg.{Arg}
use Rattle.ft_syntax.specs.declared.syntax.SynFault.{SynFault}
use Rattle.ft_syntax.specs.declared.syntax.SynFault.TheVariants as refusal
use Rattle.ft_lines.specs.declared.fault.Fault.{Fault}
use Rattle.ft_lines.specs.declared.fault.Fault.TheVariants.{Form, Memory}
use Rattle.ft_lines.specs.Reading.{Outcome, Reader, ◌>>=◌, ◌>>◌, pure, refuse, skip, sees, passes, expect, number, ReadsAs}

-- items with a comma between each two, as far as the commas go; the number bounds the turns
unfoldable pub items_from : {A : Type 0} → Reader A → ℕ → List A → Reader (List A)
items_from item zero found = refuse
items_from item (suc n) found = do
  a ← item
  more ← passes 44
  if more then items_from item n (found ++ a ∷ []) else pure (found ++ a ∷ [])

-- items in parentheses
unfoldable pub in_parentheses : {A : Type 0} → Reader A → Reader (List A)
in_parentheses item = do
  expect 40
  none ← passes 41
  if none then pure [] else (do
    found ← (λ cs. items_from item (length cs) [] cs)
    expect 41
    pure found)

-- the expression, where it is small
unfoldable pub small : Expression → Reader Expression
small e = if is_small e then pure e else refuse

-- the list as the terms of a metavariable
abbrev pub terms_of : List Expression → Terms
terms_of [] = no_terms
terms_of (e ∷ es) = also e (terms_of es)

-- a bound variable, after its letter
unfoldable pub bound_variable : Reader Expression
bound_variable = do
  i ← number
  small (bound i)

-- a free variable, after its letter
unfoldable pub free_variable : Reader Expression
free_variable = do
  v ← number
  small (free v)

-- ---- with a reader of the expressions inside
module _ (inner : Reader Expression) where
  -- an argument: the number of its binders, a dot, and its body or a star
  unfoldable pub argument : Reader Argument
  argument = do
    binders ← number
    expect 46
    star ← passes 42
    if star then pure (binders, None) else (do
      body ← inner
      pure (binders, Some body))

  -- an application of a symbol, after its letter
  unfoldable pub symbol_applied : Reader Expression
  symbol_applied = do
    s ← number
    found ← in_parentheses argument
    small (symbol s (as_arguments found))

  -- an application of a metavariable, after its letter
  unfoldable pub meta_applied : Reader Expression
  meta_applied = do
    m ← number
    found ← in_parentheses inner
    small (meta m (terms_of found))

  -- an application, which begins with `s` or `m`
  unfoldable pub application : Reader Expression
  application = λ cs.
      if sees 115 cs then (do
        skip
        symbol_applied) cs else
      if sees 109 cs then (do
        skip
        meta_applied) cs else
      refuse cs

  -- an expression: a variable, which begins with `b` or `v`, or an application
  unfoldable pub level : Reader Expression
  level = λ cs.
      if sees 98 cs then (do
        skip
        bound_variable) cs else
      if sees 118 cs then (do
        skip
        free_variable) cs else
      application cs

-- an expression of no more than this depth
unfoldable pub expression_within : ℕ → Reader Expression
expression_within zero = refuse
expression_within (suc depth) = level (expression_within depth)

-- an expression
abbrev pub expression : Reader Expression
expression = expression_within 1000

-- What a function ensures that reads into a table of expressions: the value is in the table as what is read.

abbrev pub ReadsTree : Outcome Expression → List Expression → Result ℕ Fault → List ℕ → Type 0
ReadsTree outcome table result new = ReadsAs (λ e. e < length table) (tree table) outcome result new

abbrev pub body_in : List Expression → ℕ × Option ℕ → Argument
body_in table p = argument_in table (record { binders = p.0; body = p.1 })

abbrev pub ReadsArgument : Outcome Argument → List Expression → Result (ℕ × Option ℕ) Fault → List ℕ → Type 0
ReadsArgument outcome table result new = ReadsAs (λ p. BodyBelow (length table) p.1) (body_in table) outcome result new

abbrev pub ReadsArguments : Outcome (List Argument) → List Expression → Result (List Arg) Fault → List ℕ → Type 0
ReadsArguments outcome table result new = ReadsAs (ArgumentsBelow (length table)) (map (argument_in table)) outcome result new

abbrev pub ReadsTerms : Outcome (List Expression) → List Expression → Result (List ℕ) Fault → List ℕ → Type 0
ReadsTerms outcome table result new = ReadsAs (AllBelow (length table)) (map (tree table)) outcome result new

-- what a function ensures that forms an expression in a table: it is formed where it is small
abbrev pub IsFormed : Expression → List Expression → Result ℕ Fault → Type 0
IsFormed e table (Ok r) = (r < length table) × (tree table r ≡ e) × (is_small e ≡ true)
IsFormed e table (Err f) = f ≢ Memory → (f ≡ Form) × (is_small e ≡ false)

-- an expression that is not small is not of the form
abbrev pub outcome_of : Result ℕ SynFault → Result ℕ Fault
outcome_of (Ok e) = Ok e
outcome_of (Err refusal.TooBig) = Err Form
outcome_of (Err refusal.Memory) = Err Memory
