-- The first part that asks the equality checker, in the order of the text.
use Rattle.std.specs.Prelude.{ℕ, Option, List, [], ◌++◌}
use Rattle.ft_grammar.specs.declared.syntax.Body.{Body as AnyBody}
use Rattle.ft_grammar.specs.declared.syntax.Body.TheVariants as body
use Rattle.ft_grammar.specs.declared.syntax.Conclusion.{Conclusion}
use Rattle.ft_grammar.specs.declared.syntax.Conclusion.TheVariants as conclusion
use Rattle.ft_meaning.specs.Trees.{Body, type_body, term_body, equation_body, Premise, form}
use Rattle.ft_meaning.specs.Stages.{SourcePart, first_not_built, no_equality, body_parts, binder_parts}

-- the place of the first of the parts that asks the equality checker
abbrev pub first : List SourcePart → Option ℕ
first = first_not_built no_equality

-- the parts of a premise, in a rule with no premise before it
abbrev pub premise_parts : Premise → List SourcePart
premise_parts p = binder_parts [] p.binders ++ body_parts [] p.body_at p.body

-- the body of a premise as it is written
abbrev pub body_in : AnyBody → Body
body_in (body.Type b x) = type_body
body_in (body.Term b x A) = term_body (form A)
body_in (body.Equation b e f A x) = equation_body e f A

-- the conclusion of a rule as it is written
abbrev pub conclusion_in : Conclusion → Body
conclusion_in (conclusion.Type c) = type_body
conclusion_in (conclusion.Term c A) = term_body (form A)
conclusion_in (conclusion.Equation c e f A) = equation_body e f A
