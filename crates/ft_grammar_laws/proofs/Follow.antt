-- The tokens that begin parts, and those that may follow them.
use Rattle.std.proofs.Common.{Bool, true, ◌&&◌, ◌||◌, not}
use Rattle.ft_base.specs.declared.word.Word.TheVariants as w
use Rattle.ft_grammar.specs.declared.token.Mark.TheVariants as m
use Rattle.ft_grammar.specs.declared.token.Kind.{Kind}
use Rattle.ft_grammar.specs.Rules.{Part, expression, pattern, type, type_atom, is_word, is_mark}
use Rattle.ft_grammar.specs.Forms.{begins_one, begins_two, begins_atom, begins_pattern_atom, is_no_end}

abbrev pub anything : Kind → Bool
anything k = true

abbrev pub after_type : Kind → Bool
after_type k = not (is_mark m.Star k)

abbrev pub after_pattern : Kind → Bool
after_pattern k = not (begins_pattern_atom k || is_mark m.DoubleColon k)

abbrev pub after_atom : Kind → Bool
after_atom k = not (is_mark m.LeftBrace k)

abbrev pub after_application : Kind → Bool
after_application k = not (begins_atom k || is_mark m.LeftBrace k)

abbrev pub after_expression : Kind → Bool
after_expression k = not (begins_atom k || is_mark m.LeftBrace k || is_mark m.DoubleColon k)

abbrev pub after_equation : Kind → Bool
after_equation k = after_expression k && not (is_mark m.Colon k)

abbrev pub is_end_word : Kind → Bool
is_end_word = is_word w.End

abbrev pub is_right_paren : Kind → Bool
is_right_paren = is_mark m.RightParen

-- the tokens that begin a type without a product
abbrev pub begins_type : Kind → Bool
begins_type k = is_word w.List k || is_word w.Option k || is_word w.Judgement k || is_word w.Boundary k || is_word w.Unit k || is_word w.Bool k || is_mark m.LeftParen k

abbrev pub begins : Part → Kind → Bool
begins expression k = begins_atom k || begins_one k || begins_two k || is_word w.Argument k || is_word w.Congruence k || is_word w.Perform k
    || is_word w.Let k || is_word w.If k || is_word w.Match k || is_word w.Handle k || is_mark m.LeftBrace k
begins pattern k = begins_pattern_atom k || is_word w.SomeWord k || is_mark m.At k
begins type k = begins_type k
begins type_atom k = begins_type k

abbrev pub begins_body : Kind → Bool
begins_body k = begins expression k && not (is_mark m.LeftBrace k)

abbrev pub begins_conclusion : Kind → Bool
begins_conclusion k = is_word w.TypeWord k || is_mark m.Colon k

abbrev pub is_end : Kind → Bool
is_end k = not (is_no_end k)

abbrev pub after_command : Kind → Bool
after_command k = is_end k || is_word w.Rule k || is_word w.Let k || is_word w.Operation k || is_word w.Computation k || is_word w.Extensionality k || is_word w.Show k

abbrev pub follows : Part → Kind → Bool
follows expression = after_expression
follows pattern = after_pattern
follows type = after_type
follows type_atom = anything
