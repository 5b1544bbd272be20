-- The parts of commands, and what the functions that check them ensure.
use Rattle.std.specs.Prelude.{◌≡◌, ◌≢◌, List, [], ◌++◌, map, Result, Ok, Err}
use Rattle.ft_equality.specs.Results.{◌>>=◌}
use Rattle.ft_items.specs.Item.{Name}
use Rattle.ft_grammar.specs.declared.syntax.Named.{Named}
use Rattle.ft_grammar.specs.declared.syntax.Body.{Body as AnyBody}
use Rattle.ft_grammar.specs.declared.syntax.Body.TheVariants as body
use Rattle.ft_grammar.specs.declared.syntax.Premise.{Premise as AnyPremise}
use Rattle.ft_grammar.specs.declared.syntax.Conclusion.{Conclusion}
use Rattle.ft_grammar.specs.declared.syntax.Conclusion.TheVariants as conclusion
use Rattle.ft_meaning.specs.Trees.{ValueType, Body, type_body, term_body, equation_body, form, binder}
use Rattle.ft_meaning.specs.Typing.{TypeFault, Scope}
use Rattle.ft_meaning.specs.CommandTyping.{binders_scope, premise_typed}
use Rattle.ft_types.specs.declared.fault.TypeFault.{TypeFault as AnyFault}
use Rattle.ft_types.specs.declared.fault.TypeWhy.TheVariants as why
use Rattle.ft_types.specs.Checking.{Checking, scope_of, fault_of}

-- the name of a premise with this body
abbrev pub name_in : AnyBody → Named
name_in (body.Type b x) = x
name_in (body.Term b x A) = x
name_in (body.Equation b e f A x) = x

-- what a premise asks for
abbrev pub body_in : AnyBody → Body
body_in (body.Type b x) = type_body
body_in (body.Term b x A) = term_body (form A)
body_in (body.Equation b e f A x) = equation_body e f A

-- what a rule concludes
abbrev pub conclusion_in : Conclusion → Body
conclusion_in (conclusion.Type c) = type_body
conclusion_in (conclusion.Term c A) = term_body (form A)
conclusion_in (conclusion.Equation c e f A) = equation_body e f A

-- the test of a premise by itself
unfoldable pub premise_has : AnyPremise → List Name → Scope → Result (Unit {0}) TypeFault
premise_has p before s =
    binders_scope (map binder p.binders) s >>= premise_typed (name_in p.body) before (body_in p.body)

-- the second has names within the command that the first has not, before those of the first
abbrev pub Adds : Checking → Checking → Type 0
Adds v w = (more : List (Name × ValueType)) × (w.locals ≡ more ++ v.locals)

-- what a function ensures that enters names within the command
abbrev pub Enters : Result Scope TypeFault → Result (Unit {0}) AnyFault → Checking → Checking → Type 0
Enters outcome (Ok b) v w = (outcome ≡ Ok (scope_of w)) × Adds v w
Enters outcome (Err e) v w = e.why ≢ why.Memory → outcome ≡ Err (fault_of e)

-- What a function ensures that checks a command: the scope is the one after it, or as it was.
abbrev pub Changes : Result Scope TypeFault → Result (Unit {0}) AnyFault → Checking → Checking → Type 0
Changes outcome (Ok b) v w = (outcome ≡ Ok w.top) × (w.locals ≡ [])
Changes outcome (Err e) v w = (e.why ≢ why.Memory → outcome ≡ Err (fault_of e)) × (w.top ≡ v.top)
