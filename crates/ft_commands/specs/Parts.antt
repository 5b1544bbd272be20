-- Premises and conclusions as they are written, by their parts.
use Rattle.std.specs.Prelude.{ℕ}
use Rattle.ft_grammar.specs.declared.syntax.Named.{Named}
use Rattle.ft_grammar.specs.declared.syntax.Body.{Body as AnyBody}
use Rattle.ft_grammar.specs.declared.syntax.Body.TheVariants as body
use Rattle.ft_grammar.specs.declared.syntax.Conclusion.{Conclusion}
use Rattle.ft_grammar.specs.declared.syntax.Conclusion.TheVariants as conclusion
use Rattle.ft_meaning.specs.Trees.{Body, type_body, term_body, form, equation_body}

-- what a premise asks for, where its body begins, and its name
abbrev pub body_of : AnyBody → Body
body_of (body.Type at x) = type_body
body_of (body.Term at x A) = term_body (form A)
body_of (body.Equation at e f A x) = equation_body e f A

abbrev pub body_place : AnyBody → ℕ
body_place (body.Type at x) = at
body_place (body.Term at x A) = at
body_place (body.Equation at e f A x) = at

abbrev pub body_name : AnyBody → Named
body_name (body.Type at x) = x
body_name (body.Term at x A) = x
body_name (body.Equation at e f A x) = x

-- what a rule concludes, and where this begins
abbrev pub conclusion_of : Conclusion → Body
conclusion_of (conclusion.Type at) = type_body
conclusion_of (conclusion.Term at A) = term_body (form A)
conclusion_of (conclusion.Equation at e f A) = equation_body e f A

abbrev pub conclusion_place : Conclusion → ℕ
conclusion_place (conclusion.Type at) = at
conclusion_place (conclusion.Term at A) = at
conclusion_place (conclusion.Equation at e f A) = at
