-- Stages: which parts of the language are built. Where a source has a part that is not, nothing is run, and the first such part is
-- told.
use Rattle.std.specs.Prelude.{ℕ, Bool, true, false, cond, Option, Some, None, List, [], ◌∷◌, ◌++◌, flat_map}
use Rattle.ft_items.specs.Item.{Name}
use Rattle.ft_grammar.specs.declared.form.OneForm.{OneForm}
use Rattle.ft_grammar.specs.declared.form.OneForm.TheVariants as single
use Rattle.ft_grammar.specs.declared.form.TwoForm.{TwoForm}
use Rattle.ft_grammar.specs.declared.form.TwoForm.TheVariants as double
use Rattle.ft_meaning.specs.Names.{is_among}
use Rattle.ft_meaning.specs.Trees.{Form, let_in, if_then, match_with, handle_with, abstraction, cons_of, one, two, argument, congruence, perform, call, substitution, truth_of, unit_of, pair_of, none_of, nil_of, Forms, no_forms, and_form, Cases, no_cases, and_case, ValueCase, no_value_case, value_case, Handlers, no_handlers, and_handler, Binder, Body, type_body, term_body, types_body, terms_body, Premise, Command, rule_command, let_command, operation_command, computation_command, extensionality_command, show_command}

-- What a part belongs to: applications are rules with plain premises and shown calls of rules; operations come with their
-- handlers; equality is the checker with its declarations; all else are programs.
pub data Feature : Type 0 where
  applications : Feature
  programs : Feature
  operations : Feature
  equality : Feature

-- the test that a feature is built
abbrev pub Stage : Type 0
Stage = Feature → Bool

-- the whole language
abbrev pub all_built : Stage
all_built f = true

-- all but the equality checker
abbrev pub no_equality : Stage
no_equality equality = false
no_equality f = true

-- all but operations and the equality checker
abbrev pub no_operations : Stage
no_operations operations = false
no_operations f = no_equality f

-- applications alone
abbrev pub applications_alone : Stage
applications_alone applications = true
applications_alone f = false

-- the feature of a word before one atom
abbrev pub word_feature : OneForm → Feature
word_feature single.Normal = equality
word_feature w = programs

-- the feature of a word before two atoms
abbrev pub word_feature_of_two : TwoForm → Feature
word_feature_of_two double.Equal = equality
word_feature_of_two w = programs

-- the feature of a call: in a rule one of an earlier premise is a program's
abbrev pub call_feature : List Name → Name → Feature
call_feature premises n = cond (is_among premises n) programs applications

-- a part of a source: what it belongs to, and its place
abbrev pub SourcePart : Type 0
SourcePart = Feature × ℕ

-- The parts of a form in the order of the text, an outer one before those inside it. The names are those of the premises that stand
-- before it in its rule.
module _ (premises : List Name) where
  abbrev mutual
    pub parts : Form → List SourcePart
    parts (let_in at x e f) = (programs, at) ∷ parts e ++ parts f
    parts (if_then at e f g) = (programs, at) ∷ parts e ++ parts f ++ parts g
    parts (match_with at e cs) = (programs, at) ∷ parts e ++ case_parts cs
    parts (handle_with at e c hs) = (operations, at) ∷ parts e ++ value_parts c ++ handler_parts hs
    parts (abstraction at x e f) = (programs, at) ∷ parts e ++ parts f
    parts (cons_of at e f) = (programs, at) ∷ parts e ++ parts f
    parts (one at w e) = (word_feature w, at) ∷ parts e
    parts (two at w e f) = (word_feature_of_two w, at) ∷ parts e ++ parts f
    parts (argument at e i) = (programs, at) ∷ parts e
    parts (congruence at R e f) = (programs, at) ∷ parts e ++ parts f
    parts (perform at op e) = (operations, at) ∷ parts e
    parts (call at x es) = (call_feature premises x.name, at) ∷ all_parts es
    parts (substitution at e es) = (programs, at) ∷ parts e ++ all_parts es
    parts (truth_of at b) = (programs, at) ∷ []
    parts (unit_of at) = (programs, at) ∷ []
    parts (pair_of at e f) = (programs, at) ∷ parts e ++ parts f
    parts (none_of at A) = (programs, at) ∷ []
    parts (nil_of at A) = (programs, at) ∷ []

    -- of forms in a row
    pub all_parts : Forms → List SourcePart
    all_parts no_forms = []
    all_parts (and_form e es) = parts e ++ all_parts es

    -- of the cases of a match
    pub case_parts : Cases → List SourcePart
    case_parts no_cases = []
    case_parts (and_case p e cs) = parts e ++ case_parts cs

    -- of the case for values
    pub value_parts : ValueCase → List SourcePart
    value_parts no_value_case = []
    value_parts (value_case x e) = parts e

    -- of the cases for operations
    pub handler_parts : Handlers → List SourcePart
    handler_parts no_handlers = []
    handler_parts (and_handler o x e hs) = parts e ++ handler_parts hs

  -- of a body or a conclusion, which begins at the place
  abbrev pub body_parts : ℕ → Body → List SourcePart
  body_parts at type_body = (applications, at) ∷ []
  body_parts at (term_body e) = (applications, at) ∷ parts e
  body_parts at (types_body e f) = (programs, at) ∷ parts e ++ parts f
  body_parts at (terms_body e f g) = (programs, at) ∷ parts e ++ parts f ++ parts g

  -- of binders
  abbrev pub binder_parts : List Binder → List SourcePart
  binder_parts = flat_map (λ b. (programs, b.at) ∷ parts b.domain)

-- of the premises and the conclusion of a rule
abbrev pub rule_parts : List Name → List Premise → ℕ → Body → List SourcePart
rule_parts before [] at c = body_parts before at c
rule_parts before (p ∷ ps) at c = binder_parts before p.binders ++ body_parts before p.body_at p.body ++ rule_parts (p.name.name ∷ before) ps at c

-- of a command
abbrev pub command_parts : Command → List SourcePart
command_parts (rule_command at n ps c_at c) = (applications, at) ∷ rule_parts [] ps c_at c
command_parts (let_command at n e) = (programs, at) ∷ parts [] e
command_parts (operation_command at n A C) = (operations, at) ∷ []
command_parts (computation_command at n) = (equality, at) ∷ []
command_parts (extensionality_command at n) = (equality, at) ∷ []
command_parts (show_command at e) = (applications, at) ∷ parts [] e

-- of the commands of a source
abbrev pub source_parts : List Command → List SourcePart
source_parts = flat_map command_parts

-- the place of the first part that is not built
abbrev pub first_not_built : Stage → List SourcePart → Option ℕ
first_not_built B [] = None
first_not_built B (p ∷ ps) = cond (B p.0) (first_not_built B ps) (Some p.1)

-- the same for the commands of a source
abbrev pub first_unbuilt : Stage → List Command → Option ℕ
first_unbuilt B cs = first_not_built B (source_parts cs)
