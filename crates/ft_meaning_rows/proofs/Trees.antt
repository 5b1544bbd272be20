-- The parser's trees of the trees of the meaning. Those have the place of each case of a match or a handler too, which a function
-- gives from the place after the bar.
use Rattle.std.proofs.Common.{◌≡◌, refl, ℕ, true, false, List, [], ◌∷◌, map, Some, None}
use Rattle.ft_grammar.specs.Forms.{one_tree, two_tree}
use Rattle.ft_grammar.specs.declared.form.OneForm.{OneForm}
use Rattle.ft_grammar.specs.declared.form.OneForm.TheVariants as single
use Rattle.ft_grammar.specs.declared.form.TwoForm.{TwoForm}
use Rattle.ft_grammar.specs.declared.form.TwoForm.TheVariants as double
use Rattle.ft_grammar.specs.declared.syntax.Named.{Named}
use Rattle.ft_grammar.specs.declared.syntax.AmlType.{AmlType}
use Rattle.ft_grammar.specs.declared.syntax.AmlType.TheVariants as ty
use Rattle.ft_grammar.specs.declared.syntax.Pattern.{Pattern as AnyPattern}
use Rattle.ft_grammar.specs.declared.syntax.Pattern.TheVariants as pat
use Rattle.ft_grammar.specs.declared.syntax.Case.{Case as AnyCase}
use Rattle.ft_grammar.specs.declared.syntax.ValCase.{ValCase as AnyValCase}
use Rattle.ft_grammar.specs.declared.syntax.OpCase.{OpCase as AnyOpCase}
use Rattle.ft_grammar.specs.declared.syntax.Ast.{Ast}
use Rattle.ft_grammar.specs.declared.syntax.Ast.TheVariants as ast
use Rattle.ft_grammar.specs.declared.syntax.Binder.{Binder as AnyBinder}
use Rattle.ft_grammar.specs.declared.syntax.Body.{Body as AnyBody}
use Rattle.ft_grammar.specs.declared.syntax.Body.TheVariants as body
use Rattle.ft_grammar.specs.declared.syntax.Premise.{Premise as AnyPremise}
use Rattle.ft_grammar.specs.declared.syntax.Conclusion.{Conclusion}
use Rattle.ft_grammar.specs.declared.syntax.Conclusion.TheVariants as conclusion
use Rattle.ft_grammar.specs.declared.syntax.Command.{Command as AnyCommand}
use Rattle.ft_grammar.specs.declared.syntax.Command.TheVariants as command
use Rattle.ft_meaning.specs.Trees.{ValueType, judgement, boundary, unit, bool, pair, list, option, Pattern, cons_pattern, some_pattern, symbol_pattern, name_pattern, wildcard, truth_pattern, unit_pattern, none_pattern, nil_pattern, pair_pattern, Patterns, no_patterns, and_pattern, patterns, Form, let_in, if_then, match_with, handle_with, abstraction, cons_of, one, two, argument, congruence, perform, call, substitution, truth_of, unit_of, pair_of, none_of, nil_of, Forms, no_forms, and_form, forms, Cases, no_cases, and_case, cases, no_value_case, value_case, Handlers, no_handlers, and_handler, handlers, Binder, Body, type_body, term_body, types_body, terms_body, Premise, Command, rule_command, let_command, operation_command, computation_command, extensionality_command, show_command, value_type, pattern, form, binder, premise, command_of}
use Rattle.ft_meaning.proofs.Written.{case, handler, case_parts, handler_parts, value_parts, form_LetIn, form_If, form_Match, form_Handle_None, form_Handle_Some, form_Abstract, form_Cons, form_Refl, form_Sym, form_Left, form_Right, form_Typeof, form_Domain, form_Natural, form_Normal, form_Boundaryof, form_SomeWord, form_Trans, form_Convert, form_Equal, form_Widen, form_Rewrite, form_Fill, form_Argument, form_Congruence, form_Perform, form_Call, form_Subst, form_TrueWord, form_FalseWord, form_Unit, form_Pair, form_NoneWord, form_Nil, pattern_Cons, pattern_SomeWord, pattern_Symbol, pattern_Name, pattern_Wildcard, pattern_TrueWord, pattern_FalseWord, pattern_Unit, pattern_NoneWord, pattern_Nil, pattern_Pair, type_Judgement, type_Boundary, type_Unit, type_Bool, type_Pair, type_List, type_Opt}

-- Types and patterns.

abbrev type_tree : ValueType → AmlType
type_tree judgement = ty.Judgement
type_tree boundary = ty.Boundary
type_tree unit = ty.Unit
type_tree bool = ty.Bool
type_tree (pair A B) = ty.Pair (type_tree A) (type_tree B)
type_tree (list A) = ty.List (type_tree A)
type_tree (option A) = ty.Opt (type_tree A)

type_of_tree : (A : ValueType) → value_type (type_tree A) ≡ A
type_of_tree judgement = type_Judgement
type_of_tree boundary = type_Boundary
type_of_tree unit = type_Unit
type_of_tree bool = type_Bool
type_of_tree (pair A B) = rw (type_Pair (type_tree A) (type_tree B), type_of_tree A, type_of_tree B)
type_of_tree (list A) = rw (type_List (type_tree A), type_of_tree A)
type_of_tree (option A) = rw (type_Opt (type_tree A), type_of_tree A)

abbrev mutual
  pattern_tree : Pattern → AnyPattern
  pattern_tree (cons_pattern at p q) = pat.Cons at (pattern_tree p) (pattern_tree q)
  pattern_tree (some_pattern at p) = pat.SomeWord at (pattern_tree p)
  pattern_tree (symbol_pattern at n ps) = pat.Symbol at n (pattern_trees ps)
  pattern_tree (name_pattern at n) = pat.Name at n
  pattern_tree (wildcard at) = pat.Wildcard at
  pattern_tree (truth_pattern at true) = pat.TrueWord at
  pattern_tree (truth_pattern at false) = pat.FalseWord at
  pattern_tree (unit_pattern at) = pat.Unit at
  pattern_tree (none_pattern at) = pat.NoneWord at
  pattern_tree (nil_pattern at) = pat.Nil at
  pattern_tree (pair_pattern at p q) = pat.Pair at (pattern_tree p) (pattern_tree q)

  pattern_trees : Patterns → List AnyPattern
  pattern_trees no_patterns = []
  pattern_trees (and_pattern p ps) = pattern_tree p ∷ pattern_trees ps

mutual
  pattern_of_tree : (p : Pattern) → pattern (pattern_tree p) ≡ p
  pattern_of_tree (cons_pattern at p q) = rw (pattern_Cons at (pattern_tree p) (pattern_tree q), pattern_of_tree p, pattern_of_tree q)
  pattern_of_tree (some_pattern at p) = rw (pattern_SomeWord at (pattern_tree p), pattern_of_tree p)
  pattern_of_tree (symbol_pattern at n ps) = rw (pattern_Symbol at n (pattern_trees ps), patterns_of_trees ps)
  pattern_of_tree (name_pattern at n) = pattern_Name at n
  pattern_of_tree (wildcard at) = pattern_Wildcard at
  pattern_of_tree (truth_pattern at true) = pattern_TrueWord at
  pattern_of_tree (truth_pattern at false) = pattern_FalseWord at
  pattern_of_tree (unit_pattern at) = pattern_Unit at
  pattern_of_tree (none_pattern at) = pattern_NoneWord at
  pattern_of_tree (nil_pattern at) = pattern_Nil at
  pattern_of_tree (pair_pattern at p q) = rw (pattern_Pair at (pattern_tree p) (pattern_tree q), pattern_of_tree p, pattern_of_tree q)

  patterns_of_trees : (ps : Patterns) → patterns (map pattern (pattern_trees ps)) ≡ ps
  patterns_of_trees no_patterns = refl
  patterns_of_trees (and_pattern p ps) = rw (pattern_of_tree p, patterns_of_trees ps)

-- where a pattern begins
abbrev pattern_place : Pattern → ℕ
pattern_place (cons_pattern at p q) = at
pattern_place (some_pattern at p) = at
pattern_place (symbol_pattern at n ps) = at
pattern_place (name_pattern at n) = at
pattern_place (wildcard at) = at
pattern_place (truth_pattern at b) = at
pattern_place (unit_pattern at) = at
pattern_place (none_pattern at) = at
pattern_place (nil_pattern at) = at
pattern_place (pair_pattern at p q) = at

-- Words.

form_one : (w : OneForm) (at : ℕ) (e : Ast) → form (one_tree w at e) ≡ one at w (form e)
unfolding one_tree
form_one single.Refl = form_Refl
form_one single.Sym = form_Sym
form_one single.Left = form_Left
form_one single.Right = form_Right
form_one single.Typeof = form_Typeof
form_one single.Domain = form_Domain
form_one single.Natural = form_Natural
form_one single.Normal = form_Normal
form_one single.Boundaryof = form_Boundaryof
form_one single.SomeWord = form_SomeWord

form_two : (w : TwoForm) (at : ℕ) (e f : Ast) → form (two_tree w at e f) ≡ two at w (form e) (form f)
unfolding two_tree
form_two double.Trans = form_Trans
form_two double.Convert = form_Convert
form_two double.Equal = form_Equal
form_two double.Widen = form_Widen
form_two double.Rewrite = form_Rewrite
form_two double.Fill = form_Fill

-- Forms and commands.

module _ (bar_before : ℕ → ℕ) where
  abbrev mutual
    tree : Form → Ast
    tree (let_in at x e f) = ast.LetIn at x (tree e) (tree f)
    tree (if_then at e f g) = ast.If at (tree e) (tree f) (tree g)
    tree (match_with at e cs) = ast.Match at (tree e) (case_trees cs)
    tree (handle_with at e no_value_case hs) = ast.Handle at (tree e) None (handler_trees hs)
    tree (handle_with at e (value_case x f) hs) = ast.Handle at (tree e) (Some (record { at = bar_before x.at; name = x; body = tree f })) (handler_trees hs)
    tree (abstraction at x e f) = ast.Abstract at x (tree e) (tree f)
    tree (cons_of at e f) = ast.Cons at (tree e) (tree f)
    tree (one at w e) = one_tree w at (tree e)
    tree (two at w e f) = two_tree w at (tree e) (tree f)
    tree (argument at e i) = ast.Argument at (tree e) i
    tree (congruence at R e f) = ast.Congruence at R (tree e) (tree f)
    tree (perform at op e) = ast.Perform at op (tree e)
    tree (call at x es) = ast.Call at x (trees es)
    tree (substitution at e es) = ast.Subst at (tree e) (trees es)
    tree (truth_of at true) = ast.TrueWord at
    tree (truth_of at false) = ast.FalseWord at
    tree (unit_of at) = ast.Unit at
    tree (pair_of at e f) = ast.Pair at (tree e) (tree f)
    tree (none_of at A) = ast.NoneWord at (type_tree A)
    tree (nil_of at A) = ast.Nil at (type_tree A)

    trees : Forms → List Ast
    trees no_forms = []
    trees (and_form e es) = tree e ∷ trees es

    case_trees : Cases → List AnyCase
    case_trees no_cases = []
    case_trees (and_case p e cs) = record { at = bar_before (pattern_place p); pattern = pattern_tree p; body = tree e } ∷ case_trees cs

    handler_trees : Handlers → List AnyOpCase
    handler_trees no_handlers = []
    handler_trees (and_handler o x e hs) = record { at = bar_before o.at; operation = o; argument = x; body = tree e } ∷ handler_trees hs

  mutual
    form_of_tree : (e : Form) → form (tree e) ≡ e
    form_of_tree (let_in at x e f) = rw (form_LetIn at x (tree e) (tree f), form_of_tree e, form_of_tree f)
    form_of_tree (if_then at e f g) = rw (form_If at (tree e) (tree f) (tree g), form_of_tree e, form_of_tree f, form_of_tree g)
    form_of_tree (match_with at e cs) = rw (form_Match at (tree e) (case_trees cs), form_of_tree e, cases_of_trees cs)
    form_of_tree (handle_with at e no_value_case hs) = rw (form_Handle_None at (tree e) (handler_trees hs), form_of_tree e, handlers_of_trees hs)
    form_of_tree (handle_with at e (value_case x f) hs) =
        let v : AnyValCase = record { at = bar_before x.at; name = x; body = tree f } in
        rw (form_Handle_Some at (tree e) v (handler_trees hs), value_parts v, form_of_tree e, form_of_tree f, handlers_of_trees hs)
    form_of_tree (abstraction at x e f) = rw (form_Abstract at x (tree e) (tree f), form_of_tree e, form_of_tree f)
    form_of_tree (cons_of at e f) = rw (form_Cons at (tree e) (tree f), form_of_tree e, form_of_tree f)
    form_of_tree (one at w e) = rw (form_one w at (tree e), form_of_tree e)
    form_of_tree (two at w e f) = rw (form_two w at (tree e) (tree f), form_of_tree e, form_of_tree f)
    form_of_tree (argument at e i) = rw (form_Argument at (tree e) i, form_of_tree e)
    form_of_tree (congruence at R e f) = rw (form_Congruence at R (tree e) (tree f), form_of_tree e, form_of_tree f)
    form_of_tree (perform at op e) = rw (form_Perform at op (tree e), form_of_tree e)
    form_of_tree (call at x es) = rw (form_Call at x (trees es), forms_of_trees es)
    form_of_tree (substitution at e es) = rw (form_Subst at (tree e) (trees es), form_of_tree e, forms_of_trees es)
    form_of_tree (truth_of at true) = form_TrueWord at
    form_of_tree (truth_of at false) = form_FalseWord at
    form_of_tree (unit_of at) = form_Unit at
    form_of_tree (pair_of at e f) = rw (form_Pair at (tree e) (tree f), form_of_tree e, form_of_tree f)
    form_of_tree (none_of at A) = rw (form_NoneWord at (type_tree A), type_of_tree A)
    form_of_tree (nil_of at A) = rw (form_Nil at (type_tree A), type_of_tree A)

    forms_of_trees : (es : Forms) → forms (map form (trees es)) ≡ es
    forms_of_trees no_forms = refl
    forms_of_trees (and_form e es) = rw (form_of_tree e, forms_of_trees es)

    cases_of_trees : (cs : Cases) → cases (map case (case_trees cs)) ≡ cs
    cases_of_trees no_cases = refl
    cases_of_trees (and_case p e cs) =
        let c : AnyCase = record { at = bar_before (pattern_place p); pattern = pattern_tree p; body = tree e } in
        rw (case_parts c, pattern_of_tree p, form_of_tree e, cases_of_trees cs)

    handlers_of_trees : (hs : Handlers) → handlers (map handler (handler_trees hs)) ≡ hs
    handlers_of_trees no_handlers = refl
    handlers_of_trees (and_handler o x e hs) =
        let h : AnyOpCase = record { at = bar_before o.at; operation = o; argument = x; body = tree e } in
        rw (handler_parts h, form_of_tree e, handlers_of_trees hs)

  abbrev binder_trees : List Binder → List AnyBinder
  binder_trees [] = []
  binder_trees (b ∷ bs) = record { at = b.at; name = b.name; domain = tree b.domain } ∷ binder_trees bs

  binders_of_trees : (bs : List Binder) → map binder (binder_trees bs) ≡ bs
  binders_of_trees [] = refl
  binders_of_trees (b ∷ bs) = rw (form_of_tree b.domain, binders_of_trees bs)

  abbrev body_tree : ℕ → Named → Body → AnyBody
  body_tree b x type_body = body.Type b x
  body_tree b x (term_body A) = body.Term b x (tree A)
  body_tree b x (types_body e f) = body.Equation b (tree e) (tree f) None x
  body_tree b x (terms_body e f A) = body.Equation b (tree e) (tree f) (Some (tree A)) x

  abbrev premise_by_tree : Premise → Body → AnyPremise
  premise_by_tree p c = record { at = p.at; binders = binder_trees p.binders; body = body_tree p.body_at p.name c }

  abbrev premise_trees : List Premise → List AnyPremise
  premise_trees [] = []
  premise_trees (p ∷ ps) = premise_by_tree p p.body ∷ premise_trees ps

  premise_of_tree : (p : Premise) (c : Body) → premise (premise_by_tree p c) ≡ record p { body = c }
  premise_of_tree p type_body = rw (binders_of_trees p.binders)
  premise_of_tree p (term_body A) = rw (binders_of_trees p.binders, form_of_tree A)
  premise_of_tree p (types_body e f) = rw (binders_of_trees p.binders, form_of_tree e, form_of_tree f)
  premise_of_tree p (terms_body e f A) = rw (binders_of_trees p.binders, form_of_tree e, form_of_tree f, form_of_tree A)

  premises_of_trees : (ps : List Premise) → map premise (premise_trees ps) ≡ ps
  premises_of_trees [] = refl
  premises_of_trees (p ∷ ps) = rw (premise_of_tree p p.body, premises_of_trees ps)

  abbrev conclusion_tree : ℕ → Body → Conclusion
  conclusion_tree c type_body = conclusion.Type c
  conclusion_tree c (term_body A) = conclusion.Term c (tree A)
  conclusion_tree c (types_body e f) = conclusion.Equation c (tree e) (tree f) None
  conclusion_tree c (terms_body e f A) = conclusion.Equation c (tree e) (tree f) (Some (tree A))

  abbrev command_tree : Command → AnyCommand
  command_tree (rule_command at n ps c_at c) = command.Rule at n (premise_trees ps) (conclusion_tree c_at c)
  command_tree (let_command at n e) = command.Let at n (tree e)
  command_tree (operation_command at n A B) = command.Operation at n (type_tree A) (type_tree B)
  command_tree (computation_command at n) = command.Computation at n
  command_tree (extensionality_command at n) = command.Extensionality at n
  command_tree (show_command at e) = command.Show at (tree e)

  command_of_tree : (c : Command) → command_of (command_tree c) ≡ c
  command_of_tree (rule_command at n ps c_at type_body) = rw (premises_of_trees ps)
  command_of_tree (rule_command at n ps c_at (term_body A)) = rw (premises_of_trees ps, form_of_tree A)
  command_of_tree (rule_command at n ps c_at (types_body e f)) = rw (premises_of_trees ps, form_of_tree e, form_of_tree f)
  command_of_tree (rule_command at n ps c_at (terms_body e f A)) = rw (premises_of_trees ps, form_of_tree e, form_of_tree f, form_of_tree A)
  command_of_tree (let_command at n e) = rw (form_of_tree e)
  command_of_tree (operation_command at n A B) = rw (type_of_tree A, type_of_tree B)
  command_of_tree (computation_command at n) = refl
  command_of_tree (extensionality_command at n) = refl
  command_of_tree (show_command at e) = rw (form_of_tree e)

  abbrev pub command_trees : List Command → List AnyCommand
  command_trees [] = []
  command_trees (c ∷ cs) = command_tree c ∷ command_trees cs

  pub commands_of_trees : (cs : List Command) → map command_of (command_trees cs) ≡ cs
  commands_of_trees [] = refl
  commands_of_trees (c ∷ cs) = rw (command_of_tree c, commands_of_trees cs)
