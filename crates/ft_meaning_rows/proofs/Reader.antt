-- A second way to read tokens, straight into the trees of the meaning. Nothing rests on it: of each source it is checked, by
-- computation, that the trees of the grammar are those that it finds.
use Rattle.std.proofs.Common.{ℕ, zero, suc, Bool, true, false, List, [], ◌∷◌, ◌++◌, length, drop, Option, Some, None}
use Rattle.ft_base.specs.declared.word.Word.{Word}
use Rattle.ft_base.specs.declared.word.Word.TheVariants as w
use Rattle.ft_grammar.specs.declared.token.Mark.{Mark}
use Rattle.ft_grammar.specs.declared.token.Mark.TheVariants as m
use Rattle.ft_grammar.specs.declared.token.Kind.{Kind}
use Rattle.ft_grammar.specs.declared.token.Token.{Token}
use Rattle.ft_grammar.specs.declared.syntax.Named.{Named}
use Rattle.ft_grammar.specs.Rules.{is_word, is_mark, is_name, named, numbered, worded}
use Rattle.ft_grammar.specs.Forms.{one_form, two_form, begins_one, begins_two, begins_atom, begins_pattern_atom, is_no_end}
use Rattle.ft_grammar.specs.Grammar.{nesting}
use Rattle.ft_grammar.specs.Reading.{kind_of, start_of}
use Rattle.ft_meaning.specs.Trees.{ValueType, judgement, boundary, unit, bool, pair, list, option, Pattern, cons_pattern, some_pattern, symbol_pattern, name_pattern, wildcard, truth_pattern, unit_pattern, none_pattern, nil_pattern, pair_pattern, patterns, Form, let_in, if_then, match_with, handle_with, abstraction, cons_of, one, two, argument, congruence, perform, call, substitution, truth_of, unit_of, pair_of, none_of, nil_of, forms, cases, no_value_case, value_case, handlers, ValueCase, Binder, Body, type_body, term_body, types_body, terms_body, Premise, Command, rule_command, let_command, operation_command, computation_command, extensionality_command, show_command}

abbrev Outcome : Type 0 → Type 0
Outcome A = Option (A × List Token)

abbrev Reader : Type 0 → Type 0
Reader A = List Token → Outcome A

abbrev after : {A B : Type 0} → Outcome A → (A → Reader B) → Outcome B
after None next = None
after (Some p) next = next p.0 p.1

infixl 10 ◌>>=◌
abbrev ◌>>=◌ : {A B : Type 0} → Reader A → (A → Reader B) → Reader B
◌>>=◌ r next = λ ts. after (r ts) next

infixl 10 ◌>>◌
abbrev ◌>>◌ : {A B : Type 0} → Reader A → Reader B → Reader B
◌>>◌ r s = λ ts. after (r ts) (λ a. s)

abbrev give : {A : Type 0} → A → Reader A
give a = λ ts. Some (a, ts)

abbrev value : {A : Type 0} → Option A → Reader A
value None = λ ts. None
value (Some a) = λ ts. Some (a, drop 1 ts)

abbrev name : Reader Named
name = λ ts. value (named (start_of ts) (kind_of ts)) ts

abbrev word : {A : Type 0} → (Word → Option A) → Reader A
word of = λ ts. value (worded of (kind_of ts)) ts

abbrev when : {A : Type 0} → (Kind → Bool) → Reader A → Reader A → Reader A
when {A = A} test r s = λ ts. elim (test (kind_of ts)) as (λ _. Outcome A) [ true ↦ r ts | false ↦ s ts ]

abbrev fails : {A : Type 0} → Reader A
fails = λ ts. None

abbrev mark : Mark → Reader (Unit {0})
mark x = when (is_mark x) (λ ts. Some (tt, drop 1 ts)) fails

abbrev the : Word → Reader (Unit {0})
the x = when (is_word x) (λ ts. Some (tt, drop 1 ts)) fails

abbrev at : {A : Type 0} → (ℕ → Reader A) → Reader A
at r = λ ts. r (start_of ts) ts

abbrev more_from : {A : Type 0} → (Kind → Bool) → Reader A → ℕ → List A → Reader (List A)
more_from test each zero found = give found
more_from test each (suc n) found = when test (each >>= λ a. more_from test each n (found ++ a ∷ [])) (give found)

abbrev more : {A : Type 0} → List A → (Kind → Bool) → Reader A → Reader (List A)
more found test each = λ ts. more_from test each (length ts) found ts

-- Types.

abbrev word_type : Word → Option ValueType
word_type w.Judgement = Some judgement
word_type w.Boundary = Some boundary
word_type w.Unit = Some unit
word_type w.Bool = Some bool
word_type x = None

abbrev atom_of_type : Reader ValueType → Reader ValueType → Reader ValueType
atom_of_type type atom =
    when (is_word w.List) (the w.List >> atom >>= λ A. give (list A))
    (when (is_word w.Option) (the w.Option >> atom >>= λ A. give (option A))
    (when (is_mark m.LeftParen) (mark m.LeftParen >> type >>= λ A. mark m.RightParen >> give A)
    (word word_type)))

abbrev mutual
  type : ℕ → Reader ValueType
  type zero = fails
  type (suc d) = λ ts. (atom_of_type (type d) (type_atom d) >>= λ A.
      when (is_mark m.Star) (mark m.Star >> type d >>= λ B. give (pair A B)) (give A)) ts

  type_atom : ℕ → Reader ValueType
  type_atom zero = fails
  type_atom (suc d) = λ ts. atom_of_type (type d) (type_atom d) ts

-- Patterns.

abbrev word_pattern : ℕ → Word → Option Pattern
word_pattern a w.TrueWord = Some (truth_pattern a true)
word_pattern a w.FalseWord = Some (truth_pattern a false)
word_pattern a w.NoneWord = Some (none_pattern a)
word_pattern a w.Nil = Some (nil_pattern a)
word_pattern a x = None

abbrev atom_of_pattern : Reader Pattern → Reader Pattern
atom_of_pattern pattern = at (λ a.
    when is_name (name >>= λ n. give (name_pattern a n.name))
    (when (is_mark m.Underscore) (mark m.Underscore >> give (wildcard a))
    (when (is_mark m.LeftParen) (mark m.LeftParen >>
    when (is_mark m.RightParen) (mark m.RightParen >> give (unit_pattern a)) (pattern >>= λ p.
    when (is_mark m.Comma) (mark m.Comma >> pattern >>= λ q. mark m.RightParen >> give (pair_pattern a p q)) (mark m.RightParen >> give p)))
    (word (word_pattern a)))))

abbrev pattern : ℕ → Reader Pattern
pattern zero = fails
pattern (suc d) = λ ts. (at (λ a.
    when (is_word w.SomeWord) (the w.SomeWord >> atom_of_pattern (pattern d) >>= λ p. give (some_pattern a p))
    (when (is_mark m.At) (mark m.At >> name >>= λ n. more [] begins_pattern_atom (atom_of_pattern (pattern d)) >>= λ ps. give (symbol_pattern a n (patterns ps)))
    (atom_of_pattern (pattern d) >>= λ p.
    when (is_mark m.DoubleColon) (mark m.DoubleColon >> pattern d >>= λ q. give (cons_pattern a p q)) (give p))))) ts

-- Forms.

abbrev word_form : ℕ → Word → Option Form
word_form a w.TrueWord = Some (truth_of a true)
word_form a w.FalseWord = Some (truth_of a false)
word_form a x = None

module _ (form : Reader Form) (pattern : Reader Pattern) (type_atom : Reader ValueType) where
  abbrev base : Reader Form
  base = at (λ a.
      when is_name (name >>= λ n. give (call a n (forms [])))
      (when (is_mark m.LeftParen) (mark m.LeftParen >>
      when (is_mark m.RightParen) (mark m.RightParen >> give (unit_of a)) (form >>= λ e.
      when (is_mark m.Comma) (mark m.Comma >> form >>= λ f. mark m.RightParen >> give (pair_of a e f)) (mark m.RightParen >> give e)))
      (when (is_word w.NoneWord) (the w.NoneWord >> type_atom >>= λ A. give (none_of a A))
      (when (is_word w.Nil) (the w.Nil >> type_atom >>= λ A. give (nil_of a A))
      (word (word_form a))))))

  abbrev brace : Reader Form
  brace = mark m.LeftBrace >> form >>= λ e. mark m.RightBrace >> give e

  abbrev braces : ℕ → Form → Reader Form
  braces a e = brace >>= λ b. more (b ∷ []) (is_mark m.LeftBrace) brace >>= λ bs. give (substitution a e (forms bs))

  abbrev atom : Reader Form
  atom = at (λ a. base >>= λ e. when (is_mark m.LeftBrace) (braces a e) (give e))

  abbrev application : Reader Form
  application = at (λ a.
      when is_name (name >>= λ n.
      when (is_mark m.LeftBrace) (braces a (call a n (forms []))) (more [] begins_atom atom >>= λ es. give (call a n (forms es))))
      (when begins_one (word one_form >>= λ x. atom >>= λ e. give (one a x e))
      (when begins_two (word two_form >>= λ x. atom >>= λ e. atom >>= λ f. give (two a x e f))
      (when (is_word w.Argument) (the w.Argument >> atom >>= λ e. (λ ts. value (numbered (kind_of ts)) ts) >>= λ i. give (argument a e i))
      (when (is_word w.Congruence) (the w.Congruence >> name >>= λ n. atom >>= λ e. atom >>= λ f. give (congruence a n e f))
      (when (is_word w.Perform) (the w.Perform >> name >>= λ n. atom >>= λ e. give (perform a n e))
      atom))))))

  abbrev case : Reader (Pattern × Form)
  case = do
    mark m.Bar
    p ← pattern
    mark m.Arrow
    e ← form
    give (p, e)

  abbrev operation_case : Reader (Named × Named × Form)
  operation_case = do
    o ← name
    x ← name
    mark m.Arrow
    e ← form
    give (o, x, e)

  abbrev value_body : Reader ValueCase
  value_body = do
    the w.Val
    x ← name
    mark m.Arrow
    e ← form
    give (value_case x e)

  abbrev handle_cases : Reader (ValueCase × List (Named × Named × Form))
  handle_cases = when (is_mark m.Bar) (mark m.Bar >>
      when (is_word w.Val) (do
        v ← value_body
        hs ← more [] (is_mark m.Bar) (mark m.Bar >> operation_case)
        give (v, hs)) (do
          h ← operation_case
          hs ← more (h ∷ []) (is_mark m.Bar) (mark m.Bar >> operation_case)
          give (no_value_case, hs))) (give (no_value_case, []))

  abbrev any_form : Reader Form
  any_form = at (λ a.
      when (is_word w.Let) (do
        the w.Let
        x ← name
        mark m.Equals
        e ← form
        the w.In
        f ← form
        give (let_in a x e f))
      (when (is_word w.If) (do
        the w.If
        e ← form
        the w.Then
        f ← form
        the w.Else
        g ← form
        give (if_then a e f g))
      (when (is_word w.Match) (do
        the w.Match
        e ← form
        the w.With
        c ← case
        cs ← more (c ∷ []) (is_mark m.Bar) case
        the w.End
        give (match_with a e (cases cs)))
      (when (is_word w.Handle) (do
        the w.Handle
        e ← form
        the w.With
        h ← handle_cases
        the w.End
        give (handle_with a e h.0 (handlers h.1)))
      (when (is_mark m.LeftBrace) (do
        mark m.LeftBrace
        x ← name
        mark m.Colon
        e ← form
        mark m.RightBrace
        f ← form
        give (abstraction a x e f))
      (application >>= λ e. when (is_mark m.DoubleColon) (mark m.DoubleColon >> form >>= λ f. give (cons_of a e f)) (give e)))))))

abbrev form : ℕ → Reader Form
form zero = fails
form (suc d) = λ ts. any_form (form d) (pattern d) (type_atom d) ts

-- Commands.

abbrev whole : Reader Form
whole = form nesting

abbrev binder : Reader Binder
binder = at (λ a. do
  mark m.LeftBrace
  x ← name
  mark m.Colon
  e ← whole
  mark m.RightBrace
  give (record { at = a; name = x; domain = e }))

abbrev equation : Form → Form → Reader Body
equation e f = when (is_mark m.Colon) (mark m.Colon >> whole >>= λ A. give (terms_body e f A)) (give (types_body e f))

abbrev name_before : (Kind → Bool) → List Token → Bool
name_before test [] = false
name_before test (t ∷ ts) = elim (is_name t.kind) as (λ _. Bool) [ true ↦ test (kind_of ts) | false ↦ false ]

abbrev when_named : {A : Type 0} → (Kind → Bool) → Reader A → Reader A → Reader A
when_named {A = A} test r s = λ ts. elim (name_before test ts) as (λ _. Outcome A) [ true ↦ r ts | false ↦ s ts ]

abbrev body : Reader (Named × Body)
body =
    when_named (is_word w.TypeWord) (name >>= λ x. the w.TypeWord >> give (x, type_body))
    (when_named (is_mark m.Colon) (name >>= λ x. mark m.Colon >> whole >>= λ A. give (x, term_body A))
    (do
      e ← whole
      mark m.DoubleEquals
      f ← whole
      b ← equation e f
      the w.By
      x ← name
      give (x, b)))

abbrev premise : Reader Premise
premise = at (λ a. mark m.LeftParen >> more [] (is_mark m.LeftBrace) binder >>= λ bs. at (λ b. do
  c ← body
  mark m.RightParen
  give (record { at = a; binders = bs; name = c.0; body_at = b; body = c.1 })))

abbrev conclusion : Reader Body
conclusion = when (is_word w.TypeWord) (the w.TypeWord >> give type_body) (do
  mark m.Colon
  e ← whole
  when (is_mark m.DoubleEquals) (mark m.DoubleEquals >> whole >>= λ f. equation e f) (give (term_body e)))

abbrev command : Reader Command
command = at (λ a.
    when (is_word w.Rule) (do
      the w.Rule
      n ← name
      ps ← more [] (is_mark m.LeftParen) premise
      at (λ c. conclusion >>= λ b. give (rule_command a n ps c b)))
    (when (is_word w.Let) (the w.Let >> name >>= λ x. mark m.Equals >> whole >>= λ e. give (let_command a x e))
    (when (is_word w.Operation) (do
      the w.Operation
      n ← name
      A ← type_atom nesting
      mark m.Colon
      B ← type nesting
      give (operation_command a n A B))
    (when (is_word w.Computation) (the w.Computation >> name >>= λ n. give (computation_command a n))
    (when (is_word w.Extensionality) (the w.Extensionality >> name >>= λ n. give (extensionality_command a n))
    (the w.Show >> whole >>= λ e. give (show_command a e)))))))

abbrev found : Outcome (List Command) → List Command
found None = []
found (Some p) = p.0

-- the commands of the tokens
abbrev pub commands_in : List Token → List Command
commands_in ts = found (more [] is_no_end command ts)
