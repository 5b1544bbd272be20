-- Expressions that ask nothing of the equality checker.
use Rattle.ft_meaning.specs.Trees.{Form, let_in, if_then, match_with, handle_with, abstraction}
use Rattle.ft_meaning.specs.Trees.{cons_of, one, two, argument, congruence, perform, call}
use Rattle.ft_meaning.specs.Trees.{substitution, truth_of, unit_of, pair_of, none_of, nil_of}
use Rattle.ft_meaning.specs.Trees.{Forms, no_forms, and_form, Cases, no_cases, and_case}
use Rattle.ft_meaning.specs.Trees.{ValueCase, no_value_case, value_case}
use Rattle.ft_meaning.specs.Trees.{Handlers, no_handlers, and_handler}
use Rattle.ft_running.specs.Asked.{IsNoNormal, IsNoEqual}

abbrev mutual
  -- neither `normal` nor `equal` stands in the form
  pub AsksNothing : Form → Type 0
  AsksNothing (let_in at x e f) = AsksNothing e × AsksNothing f
  AsksNothing (if_then at e f g) = AsksNothing e × AsksNothing f × AsksNothing g
  AsksNothing (match_with at e cs) = AsksNothing e × CasesAskNothing cs
  AsksNothing (handle_with at e c hs) = AsksNothing e × ValueCaseAsksNothing c × HandlersAskNothing hs
  AsksNothing (abstraction at x e f) = AsksNothing e × AsksNothing f
  AsksNothing (cons_of at e f) = AsksNothing e × AsksNothing f
  AsksNothing (one at w e) = IsNoNormal w × AsksNothing e
  AsksNothing (two at w e f) = IsNoEqual w × AsksNothing e × AsksNothing f
  AsksNothing (argument at e i) = AsksNothing e
  AsksNothing (congruence at R e f) = AsksNothing e × AsksNothing f
  AsksNothing (perform at op e) = AsksNothing e
  AsksNothing (call at x es) = AskNothing es
  AsksNothing (substitution at e es) = AsksNothing e × AskNothing es
  AsksNothing (truth_of at b) = Unit {0}
  AsksNothing (unit_of at) = Unit {0}
  AsksNothing (pair_of at e f) = AsksNothing e × AsksNothing f
  AsksNothing (none_of at A) = Unit {0}
  AsksNothing (nil_of at A) = Unit {0}

  -- nor in forms in a row
  pub AskNothing : Forms → Type 0
  AskNothing no_forms = Unit {0}
  AskNothing (and_form e es) = AsksNothing e × AskNothing es

  -- nor in the cases of a match
  pub CasesAskNothing : Cases → Type 0
  CasesAskNothing no_cases = Unit {0}
  CasesAskNothing (and_case p e cs) = AsksNothing e × CasesAskNothing cs

  -- nor in the case for values
  pub ValueCaseAsksNothing : ValueCase → Type 0
  ValueCaseAsksNothing no_value_case = Unit {0}
  ValueCaseAsksNothing (value_case x e) = AsksNothing e

  -- nor in the cases for operations
  pub HandlersAskNothing : Handlers → Type 0
  HandlersAskNothing no_handlers = Unit {0}
  HandlersAskNothing (and_handler o x e hs) = AsksNothing e × HandlersAskNothing hs
