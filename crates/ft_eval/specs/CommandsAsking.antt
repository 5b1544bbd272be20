-- Commands that ask nothing of the equality checker.
use Rattle.std.specs.Prelude.{List, [], ◌∷◌}
use Rattle.ft_meaning.specs.Trees.{Binder, Body, type_body, term_body, types_body, terms_body, Premise}
use Rattle.ft_meaning.specs.Trees.{Command, rule_command, let_command, operation_command}
use Rattle.ft_meaning.specs.Trees.{computation_command, extensionality_command, show_command}
use Rattle.ft_eval.specs.Asking.{AsksNothing}

-- neither `normal` nor `equal` stands in the types of the binders
abbrev pub BindersAskNothing : List Binder → Type 0
BindersAskNothing [] = Unit {0}
BindersAskNothing (b ∷ bs) = AsksNothing b.domain × BindersAskNothing bs

-- nor in the body
abbrev pub BodyAsksNothing : Body → Type 0
BodyAsksNothing type_body = Unit {0}
BodyAsksNothing (term_body e) = AsksNothing e
BodyAsksNothing (types_body e f) = AsksNothing e × AsksNothing f
BodyAsksNothing (terms_body e f g) = AsksNothing e × AsksNothing f × AsksNothing g

-- nor in the premises
abbrev pub PremisesAskNothing : List Premise → Type 0
PremisesAskNothing [] = Unit {0}
PremisesAskNothing (p ∷ ps) =
    (BindersAskNothing p.binders × BodyAsksNothing p.body) × PremisesAskNothing ps

-- nor in the command, and it declares no equality rule
abbrev pub CommandAsksNothing : Command → Type 0
CommandAsksNothing (rule_command at n ps c_at c) = PremisesAskNothing ps × BodyAsksNothing c
CommandAsksNothing (let_command at n e) = AsksNothing e
CommandAsksNothing (operation_command at n A B) = Unit {0}
CommandAsksNothing (computation_command at n) = ⊥
CommandAsksNothing (extensionality_command at n) = ⊥
CommandAsksNothing (show_command at e) = AsksNothing e
