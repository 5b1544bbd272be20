-- The grammar of a source, a rule for each of its forms.
use Rattle.std.specs.Prelude.{ℕ, zero, suc, ◌≡◌, List, [], ◌∷◌, ◌++◌, Option, Some, None}
use Rattle.ft_base.specs.declared.word.Word.TheVariants as w
use Rattle.ft_grammar.specs.declared.token.Mark.TheVariants as m
use Rattle.ft_grammar.specs.declared.token.Kind.TheVariants as kind
use Rattle.ft_grammar.specs.declared.token.Token.{Token}
use Rattle.ft_grammar.specs.declared.syntax.AmlType.{AmlType}
use Rattle.ft_grammar.specs.declared.syntax.AmlType.TheVariants as ty
use Rattle.ft_grammar.specs.declared.syntax.Pattern.{Pattern}
use Rattle.ft_grammar.specs.declared.syntax.Pattern.TheVariants as pat
use Rattle.ft_grammar.specs.declared.syntax.Ast.{Ast}
use Rattle.ft_grammar.specs.declared.syntax.Ast.TheVariants as ast
use Rattle.ft_grammar.specs.declared.syntax.Case.{Case as AnyCase}
use Rattle.ft_grammar.specs.declared.syntax.ValCase.{ValCase as AnyValCase}
use Rattle.ft_grammar.specs.declared.syntax.OpCase.{OpCase as AnyOpCase}
use Rattle.ft_grammar.specs.declared.syntax.Binder.{Binder}
use Rattle.ft_grammar.specs.declared.syntax.Body.{Body}
use Rattle.ft_grammar.specs.declared.syntax.Body.TheVariants as body
use Rattle.ft_grammar.specs.declared.syntax.Premise.{Premise}
use Rattle.ft_grammar.specs.declared.syntax.Conclusion.{Conclusion}
use Rattle.ft_grammar.specs.declared.syntax.Conclusion.TheVariants as conclusion
use Rattle.ft_grammar.specs.declared.syntax.Command.{Command}
use Rattle.ft_grammar.specs.declared.syntax.Command.TheVariants as command
use Rattle.ft_grammar.specs.Rules.{Rule, Part, Tree, expression, pattern, type, type_atom, give, name, number, word, mark, part, starting, either, either_by_two, unless, more, the, is_word, is_mark, is_name, Is, ◌>>=◌, ◌>>◌}
use Rattle.ft_grammar.specs.Forms.{plain_type, word_pattern, word_expression, one_form, one_tree, two_form, two_tree, begins_one, begins_two, begins_atom, begins_pattern_atom, is_no_end}

-- ---- types
unfoldable pub list_type : Rule AmlType
list_type = do
  the w.List
  t ← part type_atom
  give (ty.List t)

unfoldable pub option_type : Rule AmlType
option_type = do
  the w.Option
  t ← part type_atom
  give (ty.Opt t)

unfoldable pub parenthesized_type : Rule AmlType
parenthesized_type = do
  mark m.LeftParen
  t ← part type
  mark m.RightParen
  give t

unfoldable pub atomic_type : Rule AmlType
atomic_type =
    either (is_word w.List) list_type
    (either (is_word w.Option) option_type
    (either (is_mark m.LeftParen) parenthesized_type
    (word plain_type)))

unfoldable pub any_type : Rule AmlType
any_type = do
  t ← atomic_type
  either (is_mark m.Star) (do
    mark m.Star
    u ← part type
    give (ty.Pair t u)) (give t)

-- ---- patterns
unfoldable pub parenthesized_pattern : Rule Pattern
parenthesized_pattern = starting (λ at. do
  mark m.LeftParen
  either (is_mark m.RightParen) (do
    mark m.RightParen
    give (pat.Unit at)) (do
      p ← part pattern
      either (is_mark m.Comma) (do
        mark m.Comma
        q ← part pattern
        mark m.RightParen
        give (pat.Pair at p q)) (do
          mark m.RightParen
          give p)))

unfoldable pub atomic_pattern : Rule Pattern
atomic_pattern = starting (λ at.
    either is_name (do
      n ← name
      give (pat.Name at n.name))
    (either (is_mark m.Underscore) (do
      mark m.Underscore
      give (pat.Wildcard at))
    (either (is_mark m.LeftParen) parenthesized_pattern
    (word (word_pattern at)))))

unfoldable pub some_pattern : Rule Pattern
some_pattern = starting (λ at. do
  the w.SomeWord
  p ← atomic_pattern
  give (pat.SomeWord at p))

unfoldable pub symbol_pattern : Rule Pattern
symbol_pattern = starting (λ at. do
  mark m.At
  n ← name
  ps ← more [] begins_pattern_atom atomic_pattern
  give (pat.Symbol at n ps))

unfoldable pub list_pattern : Rule Pattern
list_pattern = starting (λ at. do
  p ← atomic_pattern
  either (is_mark m.DoubleColon) (do
    mark m.DoubleColon
    q ← part pattern
    give (pat.Cons at p q)) (give p))

unfoldable pub any_pattern : Rule Pattern
any_pattern =
    either (is_word w.SomeWord) some_pattern
    (either (is_mark m.At) symbol_pattern
    list_pattern)

-- ---- expressions
unfoldable pub parenthesized : Rule Ast
parenthesized = starting (λ at. do
  mark m.LeftParen
  either (is_mark m.RightParen) (do
    mark m.RightParen
    give (ast.Unit at)) (do
      e ← part expression
      either (is_mark m.Comma) (do
        mark m.Comma
        f ← part expression
        mark m.RightParen
        give (ast.Pair at e f)) (do
          mark m.RightParen
          give e)))

unfoldable pub none_of : Rule Ast
none_of = starting (λ at. do
  the w.NoneWord
  t ← part type_atom
  give (ast.NoneWord at t))

unfoldable pub nil_of : Rule Ast
nil_of = starting (λ at. do
  the w.Nil
  t ← part type_atom
  give (ast.Nil at t))

-- an atom without braces
unfoldable pub base : Rule Ast
base = starting (λ at.
    either is_name (do
      n ← name
      give (ast.Call at n []))
    (either (is_mark m.LeftParen) parenthesized
    (either (is_word w.NoneWord) none_of
    (either (is_word w.Nil) nil_of
    (word (word_expression at))))))

unfoldable pub brace : Rule Ast
brace = do
  mark m.LeftBrace
  e ← part expression
  mark m.RightBrace
  give e

-- the braces after an expression that begins at the place
unfoldable pub braces : ℕ → Ast → Rule Ast
braces at e = do
  b ← brace
  bs ← more (b ∷ []) (is_mark m.LeftBrace) brace
  give (ast.Subst at e bs)

unfoldable pub atom : Rule Ast
atom = starting (λ at. do
  e ← base
  either (is_mark m.LeftBrace) (braces at e) (give e))

-- a name with braces, or with the atoms to which it is applied
unfoldable pub call : Rule Ast
call = starting (λ at. do
  n ← name
  either (is_mark m.LeftBrace) (braces at (ast.Call at n [])) (do
    es ← more [] begins_atom atom
    give (ast.Call at n es)))

unfoldable pub one_part : Rule Ast
one_part = starting (λ at. do
  f ← word one_form
  e ← atom
  give (one_tree f at e))

unfoldable pub two_parts : Rule Ast
two_parts = starting (λ at. do
  f ← word two_form
  d ← atom
  e ← atom
  give (two_tree f at d e))

unfoldable pub argument : Rule Ast
argument = starting (λ at. do
  the w.Argument
  e ← atom
  n ← number
  give (ast.Argument at e n))

unfoldable pub congruence : Rule Ast
congruence = starting (λ at. do
  the w.Congruence
  n ← name
  d ← atom
  e ← atom
  give (ast.Congruence at n d e))

unfoldable pub perform : Rule Ast
perform = starting (λ at. do
  the w.Perform
  n ← name
  e ← atom
  give (ast.Perform at n e))

unfoldable pub application : Rule Ast
application =
    either is_name call
    (either begins_one one_part
    (either begins_two two_parts
    (either (is_word w.Argument) argument
    (either (is_word w.Congruence) congruence
    (either (is_word w.Perform) perform
    (unless is_name atom))))))

unfoldable pub list_expression : Rule Ast
list_expression = starting (λ at. do
  e ← application
  either (is_mark m.DoubleColon) (do
    mark m.DoubleColon
    f ← part expression
    give (ast.Cons at e f)) (give e))

unfoldable pub let_in : Rule Ast
let_in = starting (λ at. do
  the w.Let
  n ← name
  mark m.Equals
  e ← part expression
  the w.In
  f ← part expression
  give (ast.LetIn at n e f))

unfoldable pub if_then_else : Rule Ast
if_then_else = starting (λ at. do
  the w.If
  c ← part expression
  the w.Then
  e ← part expression
  the w.Else
  f ← part expression
  give (ast.If at c e f))

unfoldable pub case : Rule AnyCase
case = starting (λ at. do
  mark m.Bar
  p ← part pattern
  mark m.Arrow
  e ← part expression
  give (record { at = at; pattern = p; body = e }))

unfoldable pub match_with : Rule Ast
match_with = starting (λ at. do
  the w.Match
  e ← part expression
  the w.With
  c ← case
  cs ← more (c ∷ []) (is_mark m.Bar) case
  the w.End
  give (ast.Match at e cs))

-- a case for an operation, after its bar
unfoldable pub operation_body : ℕ → Rule AnyOpCase
operation_body at = do
  o ← name
  n ← name
  mark m.Arrow
  e ← part expression
  give (record { at = at; operation = o; argument = n; body = e })

unfoldable pub operation_case : Rule AnyOpCase
operation_case = starting (λ at. do
  mark m.Bar
  operation_body at)

-- the case for the value, after its bar
unfoldable pub value_body : ℕ → Rule AnyValCase
value_body at = do
  the w.Val
  n ← name
  mark m.Arrow
  e ← part expression
  give (record { at = at; name = n; body = e })

-- the cases of a handle: the first one may be that for the value
unfoldable pub handle_cases : Rule (Option AnyValCase × List AnyOpCase)
handle_cases = either (is_mark m.Bar) (starting (λ at. do
  mark m.Bar
  either (is_word w.Val) (do
    v ← value_body at
    cs ← more [] (is_mark m.Bar) operation_case
    give (Some v, cs)) (do
      c ← operation_body at
      cs ← more (c ∷ []) (is_mark m.Bar) operation_case
      give (None, cs)))) (give (None, []))

unfoldable pub handle_with : Rule Ast
handle_with = starting (λ at. do
  the w.Handle
  e ← part expression
  the w.With
  cases ← handle_cases
  the w.End
  give (ast.Handle at e cases.0 cases.1))

unfoldable pub abstraction : Rule Ast
abstraction = starting (λ at. do
  mark m.LeftBrace
  n ← name
  mark m.Colon
  e ← part expression
  mark m.RightBrace
  f ← part expression
  give (ast.Abstract at n e f))

unfoldable pub any_expression : Rule Ast
any_expression =
    either (is_word w.Let) let_in
    (either (is_word w.If) if_then_else
    (either (is_word w.Match) match_with
    (either (is_word w.Handle) handle_with
    (either (is_mark m.LeftBrace) abstraction
    list_expression))))

-- ---- commands
unfoldable pub binder : Rule Binder
binder = starting (λ at. do
  mark m.LeftBrace
  n ← name
  mark m.Colon
  e ← part expression
  mark m.RightBrace
  give (record { at = at; name = n; domain = e }))

unfoldable pub type_body : Rule Body
type_body = starting (λ at. do
  n ← name
  the w.TypeWord
  give (body.Type at n))

unfoldable pub term_body : Rule Body
term_body = starting (λ at. do
  n ← name
  mark m.Colon
  e ← part expression
  give (body.Term at n e))

-- the type of an equation, where it is given
unfoldable pub equation_type : Rule (Option Ast)
equation_type = either (is_mark m.Colon) (do
  mark m.Colon
  e ← part expression
  give (Some e)) (give None)

unfoldable pub equation_body : Rule Body
equation_body = starting (λ at. do
  d ← part expression
  mark m.DoubleEquals
  e ← part expression
  t ← equation_type
  the w.By
  n ← name
  give (body.Equation at d e t n))

-- what a premise asks for; binders belong to the premise
unfoldable pub any_body : Rule Body
any_body = unless (is_mark m.LeftBrace)
    (either_by_two is_name (is_word w.TypeWord) type_body
    (either_by_two is_name (is_mark m.Colon) term_body
    equation_body))

unfoldable pub premise : Rule Premise
premise = starting (λ at. do
  mark m.LeftParen
  bs ← more [] (is_mark m.LeftBrace) binder
  b ← any_body
  mark m.RightParen
  give (record { at = at; binders = bs; body = b }))

unfoldable pub type_conclusion : Rule Conclusion
type_conclusion = starting (λ at. do
  the w.TypeWord
  give (conclusion.Type at))

unfoldable pub term_conclusion : Rule Conclusion
term_conclusion = starting (λ at. do
  mark m.Colon
  d ← part expression
  either (is_mark m.DoubleEquals) (do
    mark m.DoubleEquals
    e ← part expression
    t ← equation_type
    give (conclusion.Equation at d e t)) (give (conclusion.Term at d)))

unfoldable pub any_conclusion : Rule Conclusion
any_conclusion = either (is_word w.TypeWord) type_conclusion term_conclusion

unfoldable pub rule_command : Rule Command
rule_command = starting (λ at. do
  the w.Rule
  n ← name
  ps ← more [] (is_mark m.LeftParen) premise
  c ← any_conclusion
  give (command.Rule at n ps c))

unfoldable pub let_command : Rule Command
let_command = starting (λ at. do
  the w.Let
  n ← name
  mark m.Equals
  e ← part expression
  give (command.Let at n e))

unfoldable pub operation_command : Rule Command
operation_command = starting (λ at. do
  the w.Operation
  n ← name
  s ← part type_atom
  mark m.Colon
  t ← part type
  give (command.Operation at n s t))

unfoldable pub computation_command : Rule Command
computation_command = starting (λ at. do
  the w.Computation
  n ← name
  give (command.Computation at n))

unfoldable pub extensionality_command : Rule Command
extensionality_command = starting (λ at. do
  the w.Extensionality
  n ← name
  give (command.Extensionality at n))

unfoldable pub show_command : Rule Command
show_command = starting (λ at. do
  the w.Show
  e ← part expression
  give (command.Show at e))

unfoldable pub any_command : Rule Command
any_command =
    either (is_word w.Rule) rule_command
    (either (is_word w.Let) let_command
    (either (is_word w.Operation) operation_command
    (either (is_word w.Computation) computation_command
    (either (is_word w.Extensionality) extensionality_command
    show_command))))

unfoldable pub commands : Rule (List Command)
commands = more [] is_no_end any_command

-- the rule of each part
abbrev pub rule_of : (p : Part) → Rule (Tree p)
rule_of expression = any_expression
rule_of pattern = any_pattern
rule_of type = any_type
rule_of type_atom = atomic_type

-- a list of tokens has a value as a part of that kind, and nests no deeper than the number
unfoldable pub IsPart : ℕ → (p : Part) → Tree p → List Token → Type 0
IsPart zero p a xs = ⊥
IsPart (suc depth) p a xs = Is (IsPart depth) (rule_of p) a xs

-- the tokens of a source: those of its commands, whose parts nest no deeper than the number, and the end
abbrev pub IsSource : ℕ → List Command → List Token → Type 0
IsSource depth cs ts = (xs : List Token) × (t : Token) × (ts ≡ xs ++ t ∷ []) × (t.kind ≡ kind.End) × Is (IsPart depth) commands cs xs

-- the deepest nesting of the parts of a source
abbrev pub nesting : ℕ
nesting = 200
