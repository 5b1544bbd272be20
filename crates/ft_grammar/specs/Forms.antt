-- The words that begin expressions, patterns and types, with what they make.
use Rattle.std.specs.Prelude.{ℕ, Bool, true, false, is_some, Option, Some, None}
use Rattle.ft_base.specs.declared.word.Word.{Word}
use Rattle.ft_base.specs.declared.word.Word.TheVariants as word
use Rattle.ft_grammar.specs.declared.token.Mark.TheVariants as mark
use Rattle.ft_grammar.specs.declared.token.Kind.{Kind}
use Rattle.ft_grammar.specs.declared.token.Kind.TheVariants as kind
use Rattle.ft_grammar.specs.declared.syntax.AmlType.{AmlType}
use Rattle.ft_grammar.specs.declared.syntax.AmlType.TheVariants as ty
use Rattle.ft_grammar.specs.declared.syntax.Pattern.{Pattern}
use Rattle.ft_grammar.specs.declared.syntax.Pattern.TheVariants as pat
use Rattle.ft_grammar.specs.declared.syntax.Ast.{Ast}
use Rattle.ft_grammar.specs.declared.syntax.Ast.TheVariants as ast
use Rattle.ft_grammar.specs.declared.form.OneForm.{OneForm}
use Rattle.ft_grammar.specs.declared.form.OneForm.TheVariants as one
use Rattle.ft_grammar.specs.declared.form.TwoForm.{TwoForm}
use Rattle.ft_grammar.specs.declared.form.TwoForm.TheVariants as two

-- a word that is a type by itself
unfoldable pub plain_type : Word → Option AmlType
plain_type word.Judgement = Some ty.Judgement
plain_type word.Boundary = Some ty.Boundary
plain_type word.Unit = Some ty.Unit
plain_type word.Bool = Some ty.Bool
plain_type _ = None

-- a word that is a pattern by itself
unfoldable pub word_pattern : ℕ → Word → Option Pattern
word_pattern at word.TrueWord = Some (pat.TrueWord at)
word_pattern at word.FalseWord = Some (pat.FalseWord at)
word_pattern at word.NoneWord = Some (pat.NoneWord at)
word_pattern at word.Nil = Some (pat.Nil at)
word_pattern at _ = None

-- a word that is an expression by itself
unfoldable pub word_expression : ℕ → Word → Option Ast
word_expression at word.TrueWord = Some (ast.TrueWord at)
word_expression at word.FalseWord = Some (ast.FalseWord at)
word_expression at _ = None

-- a word before one atom
unfoldable pub one_form : Word → Option OneForm
one_form word.Refl = Some one.Refl
one_form word.Sym = Some one.Sym
one_form word.Left = Some one.Left
one_form word.Right = Some one.Right
one_form word.Typeof = Some one.Typeof
one_form word.Domain = Some one.Domain
one_form word.Natural = Some one.Natural
one_form word.Normal = Some one.Normal
one_form word.Boundaryof = Some one.Boundaryof
one_form word.SomeWord = Some one.SomeWord
one_form _ = None

unfoldable pub one_tree : OneForm → ℕ → Ast → Ast
one_tree one.Refl at e = ast.Refl at e
one_tree one.Sym at e = ast.Sym at e
one_tree one.Left at e = ast.Left at e
one_tree one.Right at e = ast.Right at e
one_tree one.Typeof at e = ast.Typeof at e
one_tree one.Domain at e = ast.Domain at e
one_tree one.Natural at e = ast.Natural at e
one_tree one.Normal at e = ast.Normal at e
one_tree one.Boundaryof at e = ast.Boundaryof at e
one_tree one.SomeWord at e = ast.SomeWord at e

-- a word before two atoms
unfoldable pub two_form : Word → Option TwoForm
two_form word.Trans = Some two.Trans
two_form word.Convert = Some two.Convert
two_form word.Equal = Some two.Equal
two_form word.Widen = Some two.Widen
two_form word.Rewrite = Some two.Rewrite
two_form word.Fill = Some two.Fill
two_form _ = None

unfoldable pub two_tree : TwoForm → ℕ → Ast → Ast → Ast
two_tree two.Trans at e f = ast.Trans at e f
two_tree two.Convert at e f = ast.Convert at e f
two_tree two.Equal at e f = ast.Equal at e f
two_tree two.Widen at e f = ast.Widen at e f
two_tree two.Rewrite at e f = ast.Rewrite at e f
two_tree two.Fill at e f = ast.Fill at e f

unfoldable pub begins_one : Kind → Bool
begins_one (kind.Word w) = is_some (one_form w)
begins_one _ = false

unfoldable pub begins_two : Kind → Bool
begins_two (kind.Word w) = is_some (two_form w)
begins_two _ = false

-- the tokens that begin an atom
unfoldable pub begins_atom : Kind → Bool
begins_atom (kind.Name n) = true
begins_atom (kind.Word word.TrueWord) = true
begins_atom (kind.Word word.FalseWord) = true
begins_atom (kind.Word word.NoneWord) = true
begins_atom (kind.Word word.Nil) = true
begins_atom (kind.Mark mark.LeftParen) = true
begins_atom _ = false

-- the tokens that begin an atom among the patterns
unfoldable pub begins_pattern_atom : Kind → Bool
begins_pattern_atom (kind.Name n) = true
begins_pattern_atom (kind.Word word.TrueWord) = true
begins_pattern_atom (kind.Word word.FalseWord) = true
begins_pattern_atom (kind.Word word.NoneWord) = true
begins_pattern_atom (kind.Word word.Nil) = true
begins_pattern_atom (kind.Mark mark.Underscore) = true
begins_pattern_atom (kind.Mark mark.LeftParen) = true
begins_pattern_atom _ = false

-- all tokens but the end
unfoldable pub is_no_end : Kind → Bool
is_no_end kind.End = false
is_no_end _ = true
