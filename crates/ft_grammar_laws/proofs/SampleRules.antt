-- The rules of the grammar have samples.
use Rattle.std.proofs.Common.{refl, ℕ, List, [], ◌∷◌, inl, inr}
use Rattle.ft_base.specs.declared.word.Word.TheVariants as w
use Rattle.ft_grammar.specs.declared.token.Mark.TheVariants as m
use Rattle.ft_grammar.specs.declared.token.Kind.TheVariants as kind
use Rattle.ft_grammar.specs.declared.token.Token.{Token}
use Rattle.ft_grammar.specs.declared.form.OneForm.TheVariants as one
use Rattle.ft_grammar.specs.declared.form.TwoForm.TheVariants as two
use Rattle.ft_grammar.specs.declared.syntax.AmlType.TheVariants as ty
use Rattle.ft_grammar.specs.declared.syntax.Pattern.TheVariants as pat
use Rattle.ft_grammar.specs.declared.syntax.Ast.{Ast}
use Rattle.ft_grammar.specs.declared.syntax.Ast.TheVariants as ast
use Rattle.ft_grammar.specs.declared.syntax.Body.TheVariants as body
use Rattle.ft_grammar.specs.Rules.{Part, Tree, Is, expression, pattern, type, type_atom, unless, either_by_two, is_word, is_mark, is_name, exactly}
use Rattle.ft_grammar.specs.Forms.{plain_type, word_pattern, word_expression, one_form, two_form}
use Rattle.ft_grammar.specs.Grammar.{rule_of, list_type, option_type, parenthesized_type, atomic_type, any_type, parenthesized_pattern, atomic_pattern, some_pattern, symbol_pattern, list_pattern, any_pattern, parenthesized, none_of, nil_of, base, brace, braces, atom, call, one_part, two_parts, argument, congruence, perform, application, list_expression, let_in, if_then_else, case, match_with, operation_body, operation_case, value_body, handle_cases, handle_with, abstraction, any_expression, binder, type_body, term_body, equation_type, equation_body, any_body, premise, type_conclusion, term_conclusion, any_conclusion, rule_command, let_command, operation_command, computation_command, extensionality_command, show_command, any_command, commands}
use Rattle.ft_grammar_laws.proofs.Completions.{at_zero, Sample, Sampled}

module _ (R : (p : Part) → Tree p → List Token → Type 0) where
  abbrev true_token : Token
  true_token = at_zero (kind.Word w.TrueWord)

  atom_sample : Is R atom (ast.TrueWord 0) (true_token ∷ [])
  unfolding atom base word_expression
  atom_sample = (
    true_token,
    [],
    refl,
    (
      ast.TrueWord 0,
      true_token ∷ [],
      [],
      refl,
      (true_token, [], refl, inr (inr (inr (inr (true_token, refl, refl))))),
      inr (refl, refl),
    ),
  )

  no_name_sample : Sample R (λ a. Is R (unless is_name atom) a)
  unfolding is_name
  no_name_sample = (ast.TrueWord 0, true_token ∷ [], refl, (true_token, [], refl, refl, atom_sample))

  expression_sample : Sample R (λ a. Is R any_expression a)
  unfolding any_expression list_expression application is_name
  expression_sample = (
    ast.TrueWord 0,
    true_token ∷ [],
    refl,
    inr (inr (inr (inr (inr (
      true_token,
      [],
      refl,
      (
        ast.TrueWord 0,
        true_token ∷ [],
        [],
        refl,
        inr (inr (inr (inr (inr (inr (true_token, [], refl, refl, atom_sample)))))),
        inr (refl, refl),
      ),
    ))))),
  )

  pattern_sample : Sample R (λ a. Is R any_pattern a)
  unfolding any_pattern list_pattern atomic_pattern word_pattern
  pattern_sample = (
    pat.TrueWord 0,
    true_token ∷ [],
    refl,
    inr (inr (
      true_token,
      [],
      refl,
      (
        pat.TrueWord 0,
        true_token ∷ [],
        [],
        refl,
        (true_token, [], refl, inr (inr (inr (true_token, refl, refl)))),
        inr (refl, refl),
      ),
    )),
  )

  abbrev unit_token : Token
  unit_token = at_zero (kind.Word w.Unit)

  atomic_sample : Is R atomic_type ty.Unit (unit_token ∷ [])
  unfolding atomic_type plain_type
  atomic_sample = inr (inr (inr (unit_token, refl, refl)))

  type_sample : Sample R (λ a. Is R any_type a)
  unfolding any_type
  type_sample = (ty.Unit, unit_token ∷ [], refl, (ty.Unit, unit_token ∷ [], [], refl, atomic_sample, inr (refl, refl)))

  body_sample : Sample R (λ a. Is R (unless (is_mark m.LeftBrace) (either_by_two is_name (is_word w.TypeWord) type_body (either_by_two is_name (is_mark m.Colon) term_body equation_body))) a)
  unfolding is_mark exactly type_body
  body_sample =
      let n = at_zero (kind.Name (120 ∷ [])) in
      let t = at_zero (kind.Word w.TypeWord) in (
        body.Type 0 (record { name = 120 ∷ []; at = 0 }),
        n ∷ t ∷ [],
        refl,
        (
          n,
          t ∷ [],
          refl,
          refl,
          inl (
            n,
            t ∷ [],
            refl,
            (record { name = 120 ∷ []; at = 0 }, n ∷ [], t ∷ [], refl, (n, refl, refl), (tt, t ∷ [], [], refl, (t, refl, refl), (refl, refl))),
          ),
        ),
      )

  pub part_sample : (p : Part) → Sample R (λ a. Is R (rule_of p) a)
  part_sample expression = expression_sample
  part_sample pattern = pattern_sample
  part_sample type = type_sample
  part_sample type_atom = (ty.Unit, unit_token ∷ [], refl, atomic_sample)

  pub sampled_list_type : Sampled R list_type
  unfolding list_type exactly plain_type word_pattern word_expression one_form two_form
  sampled_list_type = ((w.List, tt, refl), λ b0. (tt, λ b1. tt))

  pub sampled_option_type : Sampled R option_type
  unfolding option_type exactly plain_type word_pattern word_expression one_form two_form
  sampled_option_type = ((w.Option, tt, refl), λ b0. (tt, λ b1. tt))

  pub sampled_parenthesized_type : Sampled R parenthesized_type
  unfolding parenthesized_type exactly plain_type word_pattern word_expression one_form two_form
  sampled_parenthesized_type = (tt, λ b0. (tt, λ b1. (tt, λ b2. tt)))

  pub sampled_atomic_type : Sampled R atomic_type
  unfolding atomic_type exactly plain_type word_pattern word_expression one_form two_form
  sampled_atomic_type = ((sampled_list_type), ((sampled_option_type), ((sampled_parenthesized_type), (w.Unit, ty.Unit, refl))))

  pub sampled_any_type : Sampled R any_type
  unfolding any_type exactly plain_type word_pattern word_expression one_form two_form
  sampled_any_type = ((sampled_atomic_type), λ b0. ((tt, λ b1. (tt, λ b2. tt)), tt))

  pub sampled_parenthesized_pattern : Sampled R parenthesized_pattern
  unfolding parenthesized_pattern exactly plain_type word_pattern word_expression one_form two_form
  sampled_parenthesized_pattern = (λ at. (tt, λ b0. ((tt, λ b1. tt), (tt, λ b1. ((tt, λ b2. (tt, λ b3. (tt, λ b4. tt))), (tt, λ b2. tt))))))

  pub sampled_atomic_pattern : Sampled R atomic_pattern
  unfolding atomic_pattern exactly plain_type word_pattern word_expression one_form two_form
  sampled_atomic_pattern = (λ at. ((tt, λ b0. tt), ((tt, λ b0. tt), ((sampled_parenthesized_pattern), (w.TrueWord, pat.TrueWord at, refl)))))

  pub sampled_some_pattern : Sampled R some_pattern
  unfolding some_pattern exactly plain_type word_pattern word_expression one_form two_form
  sampled_some_pattern = (λ at. ((w.SomeWord, tt, refl), λ b0. ((sampled_atomic_pattern), λ b1. tt)))

  pub sampled_symbol_pattern : Sampled R symbol_pattern
  unfolding symbol_pattern exactly plain_type word_pattern word_expression one_form two_form
  sampled_symbol_pattern = (λ at. (tt, λ b0. (tt, λ b1. ((sampled_atomic_pattern), λ b2. tt))))

  pub sampled_list_pattern : Sampled R list_pattern
  unfolding list_pattern exactly plain_type word_pattern word_expression one_form two_form
  sampled_list_pattern = (λ at. ((sampled_atomic_pattern), λ b0. ((tt, λ b1. (tt, λ b2. tt)), tt)))

  pub sampled_any_pattern : Sampled R any_pattern
  unfolding any_pattern exactly plain_type word_pattern word_expression one_form two_form
  sampled_any_pattern = ((sampled_some_pattern), ((sampled_symbol_pattern), (sampled_list_pattern)))

  pub sampled_parenthesized : Sampled R parenthesized
  unfolding parenthesized exactly plain_type word_pattern word_expression one_form two_form
  sampled_parenthesized = (λ at. (tt, λ b0. ((tt, λ b1. tt), (tt, λ b1. ((tt, λ b2. (tt, λ b3. (tt, λ b4. tt))), (tt, λ b2. tt))))))

  pub sampled_none_of : Sampled R none_of
  unfolding none_of exactly plain_type word_pattern word_expression one_form two_form
  sampled_none_of = (λ at. ((w.NoneWord, tt, refl), λ b0. (tt, λ b1. tt)))

  pub sampled_nil_of : Sampled R nil_of
  unfolding nil_of exactly plain_type word_pattern word_expression one_form two_form
  sampled_nil_of = (λ at. ((w.Nil, tt, refl), λ b0. (tt, λ b1. tt)))

  pub sampled_base : Sampled R base
  unfolding base exactly plain_type word_pattern word_expression one_form two_form
  sampled_base = (λ at. ((tt, λ b0. tt), ((sampled_parenthesized), ((sampled_none_of), ((sampled_nil_of), (w.TrueWord, ast.TrueWord at, refl))))))

  pub sampled_brace : Sampled R brace
  unfolding brace exactly plain_type word_pattern word_expression one_form two_form
  sampled_brace = (tt, λ b0. (tt, λ b1. (tt, λ b2. tt)))

  pub sampled_braces : (at : ℕ) (e : Ast) → Sampled R (braces at e)
  unfolding braces exactly plain_type word_pattern word_expression one_form two_form
  sampled_braces at e = ((sampled_brace), λ b0. ((sampled_brace), λ b1. tt))

  pub sampled_atom : Sampled R atom
  unfolding atom exactly plain_type word_pattern word_expression one_form two_form
  sampled_atom = (λ at. ((sampled_base), λ b0. ((sampled_braces at b0), tt)))

  pub sampled_call : Sampled R call
  unfolding call exactly plain_type word_pattern word_expression one_form two_form
  sampled_call = (λ at. (tt, λ b0. ((sampled_braces at (ast.Call at b0 [])), ((sampled_atom), λ b1. tt))))

  pub sampled_one_part : Sampled R one_part
  unfolding one_part exactly plain_type word_pattern word_expression one_form two_form
  sampled_one_part = (λ at. ((w.Refl, one.Refl, refl), λ b0. ((sampled_atom), λ b1. tt)))

  pub sampled_two_parts : Sampled R two_parts
  unfolding two_parts exactly plain_type word_pattern word_expression one_form two_form
  sampled_two_parts = (λ at. ((w.Trans, two.Trans, refl), λ b0. ((sampled_atom), λ b1. ((sampled_atom), λ b2. tt))))

  pub sampled_argument : Sampled R argument
  unfolding argument exactly plain_type word_pattern word_expression one_form two_form
  sampled_argument = (λ at. ((w.Argument, tt, refl), λ b0. ((sampled_atom), λ b1. (tt, λ b2. tt))))

  pub sampled_congruence : Sampled R congruence
  unfolding congruence exactly plain_type word_pattern word_expression one_form two_form
  sampled_congruence = (λ at. ((w.Congruence, tt, refl), λ b0. (tt, λ b1. ((sampled_atom), λ b2. ((sampled_atom), λ b3. tt)))))

  pub sampled_perform : Sampled R perform
  unfolding perform exactly plain_type word_pattern word_expression one_form two_form
  sampled_perform = (λ at. ((w.Perform, tt, refl), λ b0. (tt, λ b1. ((sampled_atom), λ b2. tt))))

  pub sampled_application : Sampled R application
  unfolding application exactly plain_type word_pattern word_expression one_form two_form
  sampled_application = ((sampled_call), ((sampled_one_part), ((sampled_two_parts), ((sampled_argument), ((sampled_congruence), ((sampled_perform), ((sampled_atom), no_name_sample)))))))

  pub sampled_list_expression : Sampled R list_expression
  unfolding list_expression exactly plain_type word_pattern word_expression one_form two_form
  sampled_list_expression = (λ at. ((sampled_application), λ b0. ((tt, λ b1. (tt, λ b2. tt)), tt)))

  pub sampled_let_in : Sampled R let_in
  unfolding let_in exactly plain_type word_pattern word_expression one_form two_form
  sampled_let_in = (λ at. ((w.Let, tt, refl), λ b0. (tt, λ b1. (tt, λ b2. (tt, λ b3. ((w.In, tt, refl), λ b4. (tt, λ b5. tt)))))))

  pub sampled_if_then_else : Sampled R if_then_else
  unfolding if_then_else exactly plain_type word_pattern word_expression one_form two_form
  sampled_if_then_else = (λ at. ((w.If, tt, refl), λ b0. (tt, λ b1. ((w.Then, tt, refl), λ b2. (tt, λ b3. ((w.Else, tt, refl), λ b4. (tt, λ b5. tt)))))))

  pub sampled_case : Sampled R case
  unfolding case exactly plain_type word_pattern word_expression one_form two_form
  sampled_case = (λ at. (tt, λ b0. (tt, λ b1. (tt, λ b2. (tt, λ b3. tt)))))

  pub sampled_match_with : Sampled R match_with
  unfolding match_with exactly plain_type word_pattern word_expression one_form two_form
  sampled_match_with = (λ at. ((w.Match, tt, refl), λ b0. (tt, λ b1. ((w.With, tt, refl), λ b2. ((sampled_case), λ b3. ((sampled_case), λ b4. ((w.End, tt, refl), λ b5. tt)))))))

  pub sampled_operation_body : (at : ℕ) → Sampled R (operation_body at)
  unfolding operation_body exactly plain_type word_pattern word_expression one_form two_form
  sampled_operation_body at = (tt, λ b0. (tt, λ b1. (tt, λ b2. (tt, λ b3. tt))))

  pub sampled_operation_case : Sampled R operation_case
  unfolding operation_case exactly plain_type word_pattern word_expression one_form two_form
  sampled_operation_case = (λ at. (tt, λ b0. (sampled_operation_body at)))

  pub sampled_value_body : (at : ℕ) → Sampled R (value_body at)
  unfolding value_body exactly plain_type word_pattern word_expression one_form two_form
  sampled_value_body at = ((w.Val, tt, refl), λ b0. (tt, λ b1. (tt, λ b2. (tt, λ b3. tt))))

  pub sampled_handle_cases : Sampled R handle_cases
  unfolding handle_cases exactly plain_type word_pattern word_expression one_form two_form
  sampled_handle_cases = ((λ at. (tt, λ b0. (((sampled_value_body at), λ b1. ((sampled_operation_case), λ b2. tt)), ((sampled_operation_body at), λ b1. ((sampled_operation_case), λ b2. tt))))), tt)

  pub sampled_handle_with : Sampled R handle_with
  unfolding handle_with exactly plain_type word_pattern word_expression one_form two_form
  sampled_handle_with = (λ at. ((w.Handle, tt, refl), λ b0. (tt, λ b1. ((w.With, tt, refl), λ b2. ((sampled_handle_cases), λ b3. ((w.End, tt, refl), λ b4. tt))))))

  pub sampled_abstraction : Sampled R abstraction
  unfolding abstraction exactly plain_type word_pattern word_expression one_form two_form
  sampled_abstraction = (λ at. (tt, λ b0. (tt, λ b1. (tt, λ b2. (tt, λ b3. (tt, λ b4. (tt, λ b5. tt)))))))

  pub sampled_any_expression : Sampled R any_expression
  unfolding any_expression exactly plain_type word_pattern word_expression one_form two_form
  sampled_any_expression = ((sampled_let_in), ((sampled_if_then_else), ((sampled_match_with), ((sampled_handle_with), ((sampled_abstraction), (sampled_list_expression))))))

  pub sampled_binder : Sampled R binder
  unfolding binder exactly plain_type word_pattern word_expression one_form two_form
  sampled_binder = (λ at. (tt, λ b0. (tt, λ b1. (tt, λ b2. (tt, λ b3. (tt, λ b4. tt))))))

  pub sampled_type_body : Sampled R type_body
  unfolding type_body exactly plain_type word_pattern word_expression one_form two_form
  sampled_type_body = (λ at. (tt, λ b0. ((w.TypeWord, tt, refl), λ b1. tt)))

  pub sampled_term_body : Sampled R term_body
  unfolding term_body exactly plain_type word_pattern word_expression one_form two_form
  sampled_term_body = (λ at. (tt, λ b0. (tt, λ b1. (tt, λ b2. tt))))

  pub sampled_equation_type : Sampled R equation_type
  unfolding equation_type exactly plain_type word_pattern word_expression one_form two_form
  sampled_equation_type = ((tt, λ b0. (tt, λ b1. tt)), tt)

  pub sampled_equation_body : Sampled R equation_body
  unfolding equation_body exactly plain_type word_pattern word_expression one_form two_form
  sampled_equation_body = (λ at. (tt, λ b0. (tt, λ b1. (tt, λ b2. ((sampled_equation_type), λ b3. ((w.By, tt, refl), λ b4. (tt, λ b5. tt)))))))

  pub sampled_any_body : Sampled R any_body
  unfolding any_body exactly plain_type word_pattern word_expression one_form two_form
  sampled_any_body = (((sampled_type_body), ((sampled_term_body), (sampled_equation_body))), body_sample)

  pub sampled_premise : Sampled R premise
  unfolding premise exactly plain_type word_pattern word_expression one_form two_form
  sampled_premise = (λ at. (tt, λ b0. ((sampled_binder), λ b1. ((sampled_any_body), λ b2. (tt, λ b3. tt)))))

  pub sampled_type_conclusion : Sampled R type_conclusion
  unfolding type_conclusion exactly plain_type word_pattern word_expression one_form two_form
  sampled_type_conclusion = (λ at. ((w.TypeWord, tt, refl), λ b0. tt))

  pub sampled_term_conclusion : Sampled R term_conclusion
  unfolding term_conclusion exactly plain_type word_pattern word_expression one_form two_form
  sampled_term_conclusion = (λ at. (tt, λ b0. (tt, λ b1. ((tt, λ b2. (tt, λ b3. ((sampled_equation_type), λ b4. tt))), tt))))

  pub sampled_any_conclusion : Sampled R any_conclusion
  unfolding any_conclusion exactly plain_type word_pattern word_expression one_form two_form
  sampled_any_conclusion = ((sampled_type_conclusion), (sampled_term_conclusion))

  pub sampled_rule_command : Sampled R rule_command
  unfolding rule_command exactly plain_type word_pattern word_expression one_form two_form
  sampled_rule_command = (λ at. ((w.Rule, tt, refl), λ b0. (tt, λ b1. ((sampled_premise), λ b2. ((sampled_any_conclusion), λ b3. tt)))))

  pub sampled_let_command : Sampled R let_command
  unfolding let_command exactly plain_type word_pattern word_expression one_form two_form
  sampled_let_command = (λ at. ((w.Let, tt, refl), λ b0. (tt, λ b1. (tt, λ b2. (tt, λ b3. tt)))))

  pub sampled_operation_command : Sampled R operation_command
  unfolding operation_command exactly plain_type word_pattern word_expression one_form two_form
  sampled_operation_command = (λ at. ((w.Operation, tt, refl), λ b0. (tt, λ b1. (tt, λ b2. (tt, λ b3. (tt, λ b4. tt))))))

  pub sampled_computation_command : Sampled R computation_command
  unfolding computation_command exactly plain_type word_pattern word_expression one_form two_form
  sampled_computation_command = (λ at. ((w.Computation, tt, refl), λ b0. (tt, λ b1. tt)))

  pub sampled_extensionality_command : Sampled R extensionality_command
  unfolding extensionality_command exactly plain_type word_pattern word_expression one_form two_form
  sampled_extensionality_command = (λ at. ((w.Extensionality, tt, refl), λ b0. (tt, λ b1. tt)))

  pub sampled_show_command : Sampled R show_command
  unfolding show_command exactly plain_type word_pattern word_expression one_form two_form
  sampled_show_command = (λ at. ((w.Show, tt, refl), λ b0. (tt, λ b1. tt)))

  pub sampled_any_command : Sampled R any_command
  unfolding any_command exactly plain_type word_pattern word_expression one_form two_form
  sampled_any_command = ((sampled_rule_command), ((sampled_let_command), ((sampled_operation_command), ((sampled_computation_command), ((sampled_extensionality_command), (sampled_show_command))))))

  pub sampled_commands : Sampled R commands
  unfolding commands exactly plain_type word_pattern word_expression one_form two_form
  sampled_commands = (sampled_any_command)

  pub sampled_part : (p : Part) → Sampled R (rule_of p)
  sampled_part expression = sampled_any_expression
  sampled_part pattern = sampled_any_pattern
  sampled_part type = sampled_any_type
  sampled_part type_atom = sampled_atomic_type
