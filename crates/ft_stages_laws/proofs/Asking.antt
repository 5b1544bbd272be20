-- What is built asks nothing of the equality checker.
use Rattle.std.proofs.Common.{◌≡◌, ℕ, None, List, [], ◌∷◌, ◌++◌}
use Rattle.std.specs.Prelude.{All}
use Rattle.std.proofs.lemmas.List.Elements.{All-nil, All-cons}
use Rattle.ft_common.proofs.Options.{some_none}
use Rattle.ft_items.specs.Item.{Name}
use Rattle.ft_meaning.specs.Names.{is_among}
use Rattle.ft_meaning.specs.Trees.{Form, let_in, if_then, match_with, handle_with, abstraction, cons_of, one, two, argument, congruence, perform, call, substitution, truth_of, unit_of, pair_of, none_of, nil_of, Forms, no_forms, and_form, Cases, no_cases, and_case, ValueCase, no_value_case, value_case, Handlers, no_handlers, and_handler, Binder, Body, type_body, term_body, types_body, terms_body, Premise, Command, rule_command, let_command, operation_command, computation_command, extensionality_command, show_command}
use Rattle.ft_meaning.specs.Stages.{no_equality, first_not_built, first_unbuilt, parts, all_parts, case_parts, value_parts, handler_parts, body_parts, binder_parts, rule_parts, command_parts, source_parts}
use Rattle.ft_eval.specs.Asking.{AsksNothing, AskNothing, CasesAskNothing, ValueCaseAsksNothing, HandlersAskNothing}
use Rattle.ft_eval.specs.CommandsAsking.{BindersAskNothing, BodyAsksNothing, PremisesAskNothing, CommandAsksNothing}
use Rattle.ft_stages_laws.proofs.Built.{IsBuilt, both_built, word_built, word_built_of_two, call_built}

module _ (ns : List Name) where
  -- two forms, where it is so of each
  asked_two : (e f : Form) → (IsBuilt (parts ns e) → AsksNothing e) → (IsBuilt (parts ns f) → AsksNothing f) → IsBuilt (parts ns e ++ parts ns f) → AsksNothing e × AsksNothing f
  asked_two e f of_e of_f h = let k = both_built (parts ns e) (parts ns f) h in (of_e k.0, of_f k.1)

  -- three forms
  asked_three : (e f g : Form) → (IsBuilt (parts ns e) → AsksNothing e) → (IsBuilt (parts ns f) → AsksNothing f) → (IsBuilt (parts ns g) → AsksNothing g)
      → IsBuilt (parts ns e ++ parts ns f ++ parts ns g) → AsksNothing e × AsksNothing f × AsksNothing g
  asked_three e f g of_e of_f of_g h =
      let k = both_built (parts ns e ++ parts ns f) (parts ns g) h in
      let l = both_built (parts ns e) (parts ns f) k.0 in
      (of_e l.0, of_f l.1, of_g k.1)

  mutual
    pub form_asks : (e : Form) → IsBuilt (parts ns e) → AsksNothing e
    form_asks (let_in at x e f) h = asked_two e f (form_asks e) (form_asks f) h
    form_asks (if_then at e f g) h = asked_three e f g (form_asks e) (form_asks f) (form_asks g) h
    form_asks (match_with at e cs) h = let k = both_built (parts ns e) (case_parts ns cs) h in (form_asks e k.0, cases_ask cs k.1)
    form_asks (handle_with at e v hs) h =
        let k = both_built (parts ns e ++ value_parts ns v) (handler_parts ns hs) h in
        let l = both_built (parts ns e) (value_parts ns v) k.0 in
        (form_asks e l.0, value_asks v l.1, handlers_ask hs k.1)
    form_asks (abstraction at x e f) h = asked_two e f (form_asks e) (form_asks f) h
    form_asks (cons_of at e f) h = asked_two e f (form_asks e) (form_asks f) h
    form_asks (one at w e) h = let k = word_built w at (first_not_built no_equality (parts ns e)) h in (k.0, form_asks e k.1)
    form_asks (two at w e f) h =
        let k = word_built_of_two w at (first_not_built no_equality (parts ns e ++ parts ns f)) h in
        let l = both_built (parts ns e) (parts ns f) k.1 in
        (k.0, form_asks e l.0, form_asks f l.1)
    form_asks (argument at e i) h = form_asks e h
    form_asks (congruence at R e f) h = asked_two e f (form_asks e) (form_asks f) h
    form_asks (perform at op e) h = form_asks e h
    form_asks (call at x es) h = forms_ask es (call_built (is_among ns x.name) at (first_not_built no_equality (all_parts ns es)) h)
    form_asks (substitution at e es) h = let k = both_built (parts ns e) (all_parts ns es) h in (form_asks e k.0, forms_ask es k.1)
    form_asks (truth_of at b) h = tt
    form_asks (unit_of at) h = tt
    form_asks (pair_of at e f) h = asked_two e f (form_asks e) (form_asks f) h
    form_asks (none_of at A) h = tt
    form_asks (nil_of at A) h = tt

    forms_ask : (es : Forms) → IsBuilt (all_parts ns es) → AskNothing es
    forms_ask no_forms h = tt
    forms_ask (and_form e es) h = let k = both_built (parts ns e) (all_parts ns es) h in (form_asks e k.0, forms_ask es k.1)

    cases_ask : (cs : Cases) → IsBuilt (case_parts ns cs) → CasesAskNothing cs
    cases_ask no_cases h = tt
    cases_ask (and_case p e cs) h = let k = both_built (parts ns e) (case_parts ns cs) h in (form_asks e k.0, cases_ask cs k.1)

    value_asks : (v : ValueCase) → IsBuilt (value_parts ns v) → ValueCaseAsksNothing v
    value_asks no_value_case h = tt
    value_asks (value_case x e) h = form_asks e h

    handlers_ask : (hs : Handlers) → IsBuilt (handler_parts ns hs) → HandlersAskNothing hs
    handlers_ask no_handlers h = tt
    handlers_ask (and_handler o x e hs) h = let k = both_built (parts ns e) (handler_parts ns hs) h in (form_asks e k.0, handlers_ask hs k.1)

  body_asks : (at : ℕ) (b : Body) → IsBuilt (body_parts ns at b) → BodyAsksNothing b
  body_asks at type_body h = tt
  body_asks at (term_body e) h = form_asks e h
  body_asks at (types_body e f) h = asked_two e f (form_asks e) (form_asks f) h
  body_asks at (terms_body e f g) h = asked_three e f g (form_asks e) (form_asks f) (form_asks g) h

  binders_ask : (bs : List Binder) → IsBuilt (binder_parts ns bs) → BindersAskNothing bs
  binders_ask [] h = tt
  binders_ask (b ∷ bs) h = let k = both_built (parts ns b.domain) (binder_parts ns bs) h in (form_asks b.domain k.0, binders_ask bs k.1)

-- the premises and the conclusion of a rule
rule_asks : (ns : List Name) (ps : List Premise) (at : ℕ) (c : Body) → IsBuilt (rule_parts ns ps at c) → PremisesAskNothing ps × BodyAsksNothing c
rule_asks ns [] at c h = (tt, body_asks ns at c h)
rule_asks ns (p ∷ ps) at c h =
    let k = both_built (binder_parts ns p.binders ++ body_parts ns p.body_at p.body) (rule_parts (p.name.name ∷ ns) ps at c) h in
    let l = both_built (binder_parts ns p.binders) (body_parts ns p.body_at p.body) k.0 in
    let rest = rule_asks (p.name.name ∷ ns) ps at c k.1 in
    (((binders_ask ns p.binders l.0, body_asks ns p.body_at p.body l.1), rest.0), rest.1)

pub command_asks : (c : Command) → IsBuilt (command_parts c) → CommandAsksNothing c
command_asks (rule_command at n ps c_at c) h = rule_asks [] ps c_at c h
command_asks (let_command at n e) h = form_asks [] e h
command_asks (operation_command at n A B) h = tt
command_asks (computation_command at n) h = some_none h
command_asks (extensionality_command at n) h = some_none h
command_asks (show_command at e) h = form_asks [] e h

pub source_asks : (cs : List Command) → first_unbuilt no_equality cs ≡ None → All CommandAsksNothing cs
source_asks [] h = All-nil CommandAsksNothing
source_asks (c ∷ cs) h = let k = both_built (command_parts c) (source_parts cs) h in All-cons CommandAsksNothing c cs (command_asks c k.0) (source_asks cs k.1)
