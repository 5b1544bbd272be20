-- What begins a list of a rule of the grammar does not depend on values.
use Rattle.std.proofs.Common.{refl, ℕ, []}
use Rattle.ft_grammar.specs.declared.syntax.Ast.{Ast}
use Rattle.ft_grammar.specs.declared.syntax.Ast.TheVariants as ast
use Rattle.ft_grammar.specs.Rules.{Part, expression, pattern, type, type_atom, is_word, is_mark, is_name, exactly}
use Rattle.ft_grammar.specs.Forms.{plain_type, word_pattern, word_expression, one_form, two_form, begins_one, begins_two, begins_atom, begins_pattern_atom, is_no_end}
use Rattle.ft_grammar.specs.Grammar.{rule_of, list_type, option_type, parenthesized_type, atomic_type, any_type, parenthesized_pattern, atomic_pattern, some_pattern, symbol_pattern, list_pattern, any_pattern, parenthesized, none_of, nil_of, base, brace, braces, atom, call, one_part, two_parts, argument, congruence, perform, application, list_expression, let_in, if_then_else, case, match_with, operation_body, operation_case, value_body, handle_cases, handle_with, abstraction, any_expression, binder, type_body, term_body, equation_type, equation_body, any_body, premise, type_conclusion, term_conclusion, any_conclusion, rule_command, let_command, operation_command, computation_command, extensionality_command, show_command, any_command, commands}
use Rattle.ft_grammar_laws.proofs.EveryKind.{within}
use Rattle.ft_grammar_laws.proofs.Follow.{begins, follows}
use Rattle.ft_grammar_laws.proofs.Complete.{IsUniform}

pub uniform_list_type : IsUniform begins follows list_type
unfolding list_type is_word is_mark is_name exactly plain_type word_pattern word_expression one_form two_form begins_one begins_two begins_atom begins_pattern_atom is_no_end
uniform_list_type = (tt, λ b0. (tt, λ b1. tt, λ F. tt), λ F. tt)

pub uniform_option_type : IsUniform begins follows option_type
unfolding option_type is_word is_mark is_name exactly plain_type word_pattern word_expression one_form two_form begins_one begins_two begins_atom begins_pattern_atom is_no_end
uniform_option_type = (tt, λ b0. (tt, λ b1. tt, λ F. tt), λ F. tt)

pub uniform_parenthesized_type : IsUniform begins follows parenthesized_type
unfolding parenthesized_type is_word is_mark is_name exactly plain_type word_pattern word_expression one_form two_form begins_one begins_two begins_atom begins_pattern_atom is_no_end
uniform_parenthesized_type = (tt, λ b0. (tt, λ b1. (tt, λ b2. tt, λ F. tt), λ F. tt), λ F. tt)

pub uniform_atomic_type : IsUniform begins follows atomic_type
unfolding atomic_type list_type option_type parenthesized_type is_word is_mark is_name exactly plain_type word_pattern word_expression one_form two_form begins_one begins_two begins_atom begins_pattern_atom is_no_end
uniform_atomic_type = (uniform_list_type, (uniform_option_type, (uniform_parenthesized_type, tt)))

pub uniform_any_type : IsUniform begins follows any_type
unfolding any_type atomic_type list_type option_type parenthesized_type is_word is_mark is_name exactly plain_type word_pattern word_expression one_form two_form begins_one begins_two begins_atom begins_pattern_atom is_no_end
uniform_any_type = (uniform_atomic_type, λ b0. ((tt, λ b1. (tt, λ b2. tt, λ F. tt), λ F. tt), tt), λ F. tt)

pub uniform_parenthesized_pattern : IsUniform begins follows parenthesized_pattern
unfolding parenthesized_pattern is_word is_mark is_name exactly plain_type word_pattern word_expression one_form two_form begins_one begins_two begins_atom begins_pattern_atom is_no_end
uniform_parenthesized_pattern = (λ at. ((tt, λ b0. ((tt, λ b1. tt, λ F. tt), (tt, λ b1. ((tt, λ b2. (tt, λ b3. (tt, λ b4. tt, λ F. tt), λ F. tt), λ F. tt), (tt, λ b2. tt, λ F. tt)), λ F. tt)), λ F. tt), λ F k h. h))

pub uniform_atomic_pattern : IsUniform begins follows atomic_pattern
unfolding atomic_pattern parenthesized_pattern is_word is_mark is_name exactly plain_type word_pattern word_expression one_form two_form begins_one begins_two begins_atom begins_pattern_atom is_no_end
uniform_atomic_pattern = (λ at. (((tt, λ b0. tt, λ F. tt), ((tt, λ b0. tt, λ F. tt), (uniform_parenthesized_pattern, tt))), λ F. (within _ _ (λ n. refl) (λ n. refl) refl refl refl refl)))

pub uniform_some_pattern : IsUniform begins follows some_pattern
unfolding atomic_pattern parenthesized_pattern some_pattern is_word is_mark is_name exactly plain_type word_pattern word_expression one_form two_form begins_one begins_two begins_atom begins_pattern_atom is_no_end
uniform_some_pattern = (λ at. ((tt, λ b0. (uniform_atomic_pattern, λ b1. tt, λ F. tt), λ F. tt), λ F k h. h))

pub uniform_symbol_pattern : IsUniform begins follows symbol_pattern
unfolding atomic_pattern parenthesized_pattern symbol_pattern is_word is_mark is_name exactly plain_type word_pattern word_expression one_form two_form begins_one begins_two begins_atom begins_pattern_atom is_no_end
uniform_symbol_pattern = (λ at. ((tt, λ b0. (tt, λ b1. (uniform_atomic_pattern, λ b2. tt, λ F. (λ c k h. h)), λ F. tt), λ F. tt), λ F k h. h))

pub uniform_list_pattern : IsUniform begins follows list_pattern
unfolding atomic_pattern list_pattern parenthesized_pattern is_word is_mark is_name exactly plain_type word_pattern word_expression one_form two_form begins_one begins_two begins_atom begins_pattern_atom is_no_end
uniform_list_pattern = (λ at. ((uniform_atomic_pattern, λ b0. ((tt, λ b1. (tt, λ b2. tt, λ F. tt), λ F. tt), tt), λ F. tt), λ F k h. h))

pub uniform_any_pattern : IsUniform begins follows any_pattern
unfolding any_pattern atomic_pattern list_pattern parenthesized_pattern some_pattern symbol_pattern is_word is_mark is_name exactly plain_type word_pattern word_expression one_form two_form begins_one begins_two begins_atom begins_pattern_atom is_no_end
uniform_any_pattern = (uniform_some_pattern, (uniform_symbol_pattern, uniform_list_pattern))

pub uniform_parenthesized : IsUniform begins follows parenthesized
unfolding parenthesized is_word is_mark is_name exactly plain_type word_pattern word_expression one_form two_form begins_one begins_two begins_atom begins_pattern_atom is_no_end
uniform_parenthesized = (λ at. ((tt, λ b0. ((tt, λ b1. tt, λ F. tt), (tt, λ b1. ((tt, λ b2. (tt, λ b3. (tt, λ b4. tt, λ F. tt), λ F. tt), λ F. tt), (tt, λ b2. tt, λ F. tt)), λ F. tt)), λ F. tt), λ F k h. h))

pub uniform_none_of : IsUniform begins follows none_of
unfolding none_of is_word is_mark is_name exactly plain_type word_pattern word_expression one_form two_form begins_one begins_two begins_atom begins_pattern_atom is_no_end
uniform_none_of = (λ at. ((tt, λ b0. (tt, λ b1. tt, λ F. tt), λ F. tt), λ F k h. h))

pub uniform_nil_of : IsUniform begins follows nil_of
unfolding nil_of is_word is_mark is_name exactly plain_type word_pattern word_expression one_form two_form begins_one begins_two begins_atom begins_pattern_atom is_no_end
uniform_nil_of = (λ at. ((tt, λ b0. (tt, λ b1. tt, λ F. tt), λ F. tt), λ F k h. h))

pub uniform_base : IsUniform begins follows base
unfolding base nil_of none_of parenthesized is_word is_mark is_name exactly plain_type word_pattern word_expression one_form two_form begins_one begins_two begins_atom begins_pattern_atom is_no_end
uniform_base = (λ at. (((tt, λ b0. tt, λ F. tt), (uniform_parenthesized, (uniform_none_of, (uniform_nil_of, tt)))), λ F. (within _ _ (λ n. refl) (λ n. refl) refl refl refl refl)))

pub uniform_brace : IsUniform begins follows brace
unfolding brace is_word is_mark is_name exactly plain_type word_pattern word_expression one_form two_form begins_one begins_two begins_atom begins_pattern_atom is_no_end
uniform_brace = (tt, λ b0. (tt, λ b1. (tt, λ b2. tt, λ F. tt), λ F. tt), λ F. tt)

pub uniform_braces : (at : ℕ) (e : Ast) → IsUniform begins follows (braces at e)
unfolding brace braces is_word is_mark is_name exactly plain_type word_pattern word_expression one_form two_form begins_one begins_two begins_atom begins_pattern_atom is_no_end
uniform_braces at e = (uniform_brace, λ b0. (uniform_brace, λ b1. tt, λ F. (λ c k h. h)), λ F. tt)

pub uniform_atom : IsUniform begins follows atom
unfolding atom base brace braces nil_of none_of parenthesized is_word is_mark is_name exactly plain_type word_pattern word_expression one_form two_form begins_one begins_two begins_atom begins_pattern_atom is_no_end
uniform_atom = (λ at. ((uniform_base, λ b0. ((uniform_braces at b0), tt), λ F. tt), λ F k h. h))

pub uniform_call : IsUniform begins follows call
unfolding atom base brace braces call nil_of none_of parenthesized is_word is_mark is_name exactly plain_type word_pattern word_expression one_form two_form begins_one begins_two begins_atom begins_pattern_atom is_no_end
uniform_call = (λ at. ((tt, λ b0. ((uniform_braces at (ast.Call at b0 [])), (uniform_atom, λ b1. tt, λ F. (λ c k h. h))), λ F. tt), λ F k h. h))

pub uniform_one_part : IsUniform begins follows one_part
unfolding atom base brace braces nil_of none_of one_part parenthesized is_word is_mark is_name exactly plain_type word_pattern word_expression one_form two_form begins_one begins_two begins_atom begins_pattern_atom is_no_end
uniform_one_part = (λ at. ((tt, λ b0. (uniform_atom, λ b1. tt, λ F. tt), λ F. tt), λ F k h. h))

pub uniform_two_parts : IsUniform begins follows two_parts
unfolding atom base brace braces nil_of none_of parenthesized two_parts is_word is_mark is_name exactly plain_type word_pattern word_expression one_form two_form begins_one begins_two begins_atom begins_pattern_atom is_no_end
uniform_two_parts = (λ at. ((tt, λ b0. (uniform_atom, λ b1. (uniform_atom, λ b2. tt, λ F. tt), λ F. tt), λ F. tt), λ F k h. h))

pub uniform_argument : IsUniform begins follows argument
unfolding argument atom base brace braces nil_of none_of parenthesized is_word is_mark is_name exactly plain_type word_pattern word_expression one_form two_form begins_one begins_two begins_atom begins_pattern_atom is_no_end
uniform_argument = (λ at. ((tt, λ b0. (uniform_atom, λ b1. (tt, λ b2. tt, λ F. tt), λ F. tt), λ F. tt), λ F k h. h))

pub uniform_congruence : IsUniform begins follows congruence
unfolding atom base brace braces congruence nil_of none_of parenthesized is_word is_mark is_name exactly plain_type word_pattern word_expression one_form two_form begins_one begins_two begins_atom begins_pattern_atom is_no_end
uniform_congruence = (λ at. ((tt, λ b0. (tt, λ b1. (uniform_atom, λ b2. (uniform_atom, λ b3. tt, λ F. tt), λ F. tt), λ F. tt), λ F. tt), λ F k h. h))

pub uniform_perform : IsUniform begins follows perform
unfolding atom base brace braces nil_of none_of parenthesized perform is_word is_mark is_name exactly plain_type word_pattern word_expression one_form two_form begins_one begins_two begins_atom begins_pattern_atom is_no_end
uniform_perform = (λ at. ((tt, λ b0. (tt, λ b1. (uniform_atom, λ b2. tt, λ F. tt), λ F. tt), λ F. tt), λ F k h. h))

pub uniform_application : IsUniform begins follows application
unfolding application argument atom base brace braces call congruence nil_of none_of one_part parenthesized perform two_parts is_word is_mark is_name exactly plain_type word_pattern word_expression one_form two_form begins_one begins_two begins_atom begins_pattern_atom is_no_end
uniform_application = (uniform_call, (uniform_one_part, (uniform_two_parts, (uniform_argument, (uniform_congruence, (uniform_perform, uniform_atom))))))

pub uniform_list_expression : IsUniform begins follows list_expression
unfolding application argument atom base brace braces call congruence list_expression nil_of none_of one_part parenthesized perform two_parts is_word is_mark is_name exactly plain_type word_pattern word_expression one_form two_form begins_one begins_two begins_atom begins_pattern_atom is_no_end
uniform_list_expression = (λ at. ((uniform_application, λ b0. ((tt, λ b1. (tt, λ b2. tt, λ F. tt), λ F. tt), tt), λ F. tt), λ F k h. h))

pub uniform_let_in : IsUniform begins follows let_in
unfolding let_in is_word is_mark is_name exactly plain_type word_pattern word_expression one_form two_form begins_one begins_two begins_atom begins_pattern_atom is_no_end
uniform_let_in = (λ at. ((tt, λ b0. (tt, λ b1. (tt, λ b2. (tt, λ b3. (tt, λ b4. (tt, λ b5. tt, λ F. tt), λ F. tt), λ F. tt), λ F. tt), λ F. tt), λ F. tt), λ F k h. h))

pub uniform_if_then_else : IsUniform begins follows if_then_else
unfolding if_then_else is_word is_mark is_name exactly plain_type word_pattern word_expression one_form two_form begins_one begins_two begins_atom begins_pattern_atom is_no_end
uniform_if_then_else = (λ at. ((tt, λ b0. (tt, λ b1. (tt, λ b2. (tt, λ b3. (tt, λ b4. (tt, λ b5. tt, λ F. tt), λ F. tt), λ F. tt), λ F. tt), λ F. tt), λ F. tt), λ F k h. h))

pub uniform_case : IsUniform begins follows case
unfolding case is_word is_mark is_name exactly plain_type word_pattern word_expression one_form two_form begins_one begins_two begins_atom begins_pattern_atom is_no_end
uniform_case = (λ at. ((tt, λ b0. (tt, λ b1. (tt, λ b2. (tt, λ b3. tt, λ F. tt), λ F. tt), λ F. tt), λ F. tt), λ F k h. h))

pub uniform_match_with : IsUniform begins follows match_with
unfolding case match_with is_word is_mark is_name exactly plain_type word_pattern word_expression one_form two_form begins_one begins_two begins_atom begins_pattern_atom is_no_end
uniform_match_with = (λ at. ((tt, λ b0. (tt, λ b1. (tt, λ b2. (uniform_case, λ b3. (uniform_case, λ b4. (tt, λ b5. tt, λ F. tt), λ F. (λ c k h. h)), λ F. tt), λ F. tt), λ F. tt), λ F. tt), λ F k h. h))

pub uniform_operation_body : (at : ℕ) → IsUniform begins follows (operation_body at)
unfolding operation_body is_word is_mark is_name exactly plain_type word_pattern word_expression one_form two_form begins_one begins_two begins_atom begins_pattern_atom is_no_end
uniform_operation_body at = (tt, λ b0. (tt, λ b1. (tt, λ b2. (tt, λ b3. tt, λ F. tt), λ F. tt), λ F. tt), λ F. tt)

pub uniform_operation_case : IsUniform begins follows operation_case
unfolding operation_body operation_case is_word is_mark is_name exactly plain_type word_pattern word_expression one_form two_form begins_one begins_two begins_atom begins_pattern_atom is_no_end
uniform_operation_case = (λ at. ((tt, λ b0. (uniform_operation_body at), λ F. tt), λ F k h. h))

pub uniform_value_body : (at : ℕ) → IsUniform begins follows (value_body at)
unfolding value_body is_word is_mark is_name exactly plain_type word_pattern word_expression one_form two_form begins_one begins_two begins_atom begins_pattern_atom is_no_end
uniform_value_body at = (tt, λ b0. (tt, λ b1. (tt, λ b2. (tt, λ b3. tt, λ F. tt), λ F. tt), λ F. tt), λ F. tt)

pub uniform_handle_cases : IsUniform begins follows handle_cases
unfolding handle_cases operation_body operation_case value_body is_word is_mark is_name exactly plain_type word_pattern word_expression one_form two_form begins_one begins_two begins_atom begins_pattern_atom is_no_end
uniform_handle_cases = ((λ at. ((tt, λ b0. (((uniform_value_body at), λ b1. (uniform_operation_case, λ b2. tt, λ F. (λ c k h. h)), λ F. tt), ((uniform_operation_body at), λ b1. (uniform_operation_case, λ b2. tt, λ F. (λ c k h. h)), λ F. tt)), λ F. tt), λ F k h. h)), tt)

pub uniform_handle_with : IsUniform begins follows handle_with
unfolding handle_cases handle_with operation_body operation_case value_body is_word is_mark is_name exactly plain_type word_pattern word_expression one_form two_form begins_one begins_two begins_atom begins_pattern_atom is_no_end
uniform_handle_with = (λ at. ((tt, λ b0. (tt, λ b1. (tt, λ b2. (uniform_handle_cases, λ b3. (tt, λ b4. tt, λ F. tt), λ F. (λ c k h. h)), λ F. tt), λ F. tt), λ F. tt), λ F k h. h))

pub uniform_abstraction : IsUniform begins follows abstraction
unfolding abstraction is_word is_mark is_name exactly plain_type word_pattern word_expression one_form two_form begins_one begins_two begins_atom begins_pattern_atom is_no_end
uniform_abstraction = (λ at. ((tt, λ b0. (tt, λ b1. (tt, λ b2. (tt, λ b3. (tt, λ b4. (tt, λ b5. tt, λ F. tt), λ F. tt), λ F. tt), λ F. tt), λ F. tt), λ F. tt), λ F k h. h))

pub uniform_any_expression : IsUniform begins follows any_expression
unfolding abstraction any_expression application argument atom base brace braces call case congruence handle_cases handle_with if_then_else let_in list_expression match_with nil_of none_of one_part operation_body operation_case parenthesized perform two_parts value_body is_word is_mark is_name exactly plain_type word_pattern word_expression one_form two_form begins_one begins_two begins_atom begins_pattern_atom is_no_end
uniform_any_expression = (uniform_let_in, (uniform_if_then_else, (uniform_match_with, (uniform_handle_with, (uniform_abstraction, uniform_list_expression)))))

pub uniform_binder : IsUniform begins follows binder
unfolding binder is_word is_mark is_name exactly plain_type word_pattern word_expression one_form two_form begins_one begins_two begins_atom begins_pattern_atom is_no_end
uniform_binder = (λ at. ((tt, λ b0. (tt, λ b1. (tt, λ b2. (tt, λ b3. (tt, λ b4. tt, λ F. tt), λ F. tt), λ F. tt), λ F. tt), λ F. tt), λ F k h. h))

pub uniform_type_body : IsUniform begins follows type_body
unfolding type_body is_word is_mark is_name exactly plain_type word_pattern word_expression one_form two_form begins_one begins_two begins_atom begins_pattern_atom is_no_end
uniform_type_body = (λ at. ((tt, λ b0. (tt, λ b1. tt, λ F. tt), λ F. tt), λ F k h. h))

pub uniform_term_body : IsUniform begins follows term_body
unfolding term_body is_word is_mark is_name exactly plain_type word_pattern word_expression one_form two_form begins_one begins_two begins_atom begins_pattern_atom is_no_end
uniform_term_body = (λ at. ((tt, λ b0. (tt, λ b1. (tt, λ b2. tt, λ F. tt), λ F. tt), λ F. tt), λ F k h. h))

pub uniform_equation_type : IsUniform begins follows equation_type
unfolding equation_type is_word is_mark is_name exactly plain_type word_pattern word_expression one_form two_form begins_one begins_two begins_atom begins_pattern_atom is_no_end
uniform_equation_type = ((tt, λ b0. (tt, λ b1. tt, λ F. tt), λ F. tt), tt)

pub uniform_equation_body : IsUniform begins follows equation_body
unfolding equation_body equation_type is_word is_mark is_name exactly plain_type word_pattern word_expression one_form two_form begins_one begins_two begins_atom begins_pattern_atom is_no_end
uniform_equation_body = (λ at. ((tt, λ b0. (tt, λ b1. (tt, λ b2. (uniform_equation_type, λ b3. (tt, λ b4. (tt, λ b5. tt, λ F. tt), λ F. tt), λ F. (λ c k h. h)), λ F. tt), λ F. tt), λ F. tt), λ F k h. h))

pub uniform_any_body : IsUniform begins follows any_body
unfolding any_body equation_body equation_type term_body type_body is_word is_mark is_name exactly plain_type word_pattern word_expression one_form two_form begins_one begins_two begins_atom begins_pattern_atom is_no_end
uniform_any_body = (uniform_type_body, (uniform_term_body, uniform_equation_body))

pub uniform_premise : IsUniform begins follows premise
unfolding any_body binder equation_body equation_type premise term_body type_body is_word is_mark is_name exactly plain_type word_pattern word_expression one_form two_form begins_one begins_two begins_atom begins_pattern_atom is_no_end
uniform_premise = (λ at. ((tt, λ b0. (uniform_binder, λ b1. (uniform_any_body, λ b2. (tt, λ b3. tt, λ F. tt), λ F. tt), λ F. (λ c k h. h)), λ F. tt), λ F k h. h))

pub uniform_type_conclusion : IsUniform begins follows type_conclusion
unfolding type_conclusion is_word is_mark is_name exactly plain_type word_pattern word_expression one_form two_form begins_one begins_two begins_atom begins_pattern_atom is_no_end
uniform_type_conclusion = (λ at. ((tt, λ b0. tt, λ F. tt), λ F k h. h))

pub uniform_term_conclusion : IsUniform begins follows term_conclusion
unfolding equation_type term_conclusion is_word is_mark is_name exactly plain_type word_pattern word_expression one_form two_form begins_one begins_two begins_atom begins_pattern_atom is_no_end
uniform_term_conclusion = (λ at. ((tt, λ b0. (tt, λ b1. ((tt, λ b2. (tt, λ b3. (uniform_equation_type, λ b4. tt, λ F. (λ c k h. h)), λ F. tt), λ F. tt), tt), λ F. tt), λ F. tt), λ F k h. h))

pub uniform_any_conclusion : IsUniform begins follows any_conclusion
unfolding any_conclusion equation_type term_conclusion type_conclusion is_word is_mark is_name exactly plain_type word_pattern word_expression one_form two_form begins_one begins_two begins_atom begins_pattern_atom is_no_end
uniform_any_conclusion = (uniform_type_conclusion, uniform_term_conclusion)

pub uniform_rule_command : IsUniform begins follows rule_command
unfolding any_body any_conclusion binder equation_body equation_type premise rule_command term_body term_conclusion type_body type_conclusion is_word is_mark is_name exactly plain_type word_pattern word_expression one_form two_form begins_one begins_two begins_atom begins_pattern_atom is_no_end
uniform_rule_command = (λ at. ((tt, λ b0. (tt, λ b1. (uniform_premise, λ b2. (uniform_any_conclusion, λ b3. tt, λ F. tt), λ F. (λ c k h. h)), λ F. tt), λ F. tt), λ F k h. h))

pub uniform_let_command : IsUniform begins follows let_command
unfolding let_command is_word is_mark is_name exactly plain_type word_pattern word_expression one_form two_form begins_one begins_two begins_atom begins_pattern_atom is_no_end
uniform_let_command = (λ at. ((tt, λ b0. (tt, λ b1. (tt, λ b2. (tt, λ b3. tt, λ F. tt), λ F. tt), λ F. tt), λ F. tt), λ F k h. h))

pub uniform_operation_command : IsUniform begins follows operation_command
unfolding operation_command is_word is_mark is_name exactly plain_type word_pattern word_expression one_form two_form begins_one begins_two begins_atom begins_pattern_atom is_no_end
uniform_operation_command = (λ at. ((tt, λ b0. (tt, λ b1. (tt, λ b2. (tt, λ b3. (tt, λ b4. tt, λ F. tt), λ F. tt), λ F. tt), λ F. tt), λ F. tt), λ F k h. h))

pub uniform_computation_command : IsUniform begins follows computation_command
unfolding computation_command is_word is_mark is_name exactly plain_type word_pattern word_expression one_form two_form begins_one begins_two begins_atom begins_pattern_atom is_no_end
uniform_computation_command = (λ at. ((tt, λ b0. (tt, λ b1. tt, λ F. tt), λ F. tt), λ F k h. h))

pub uniform_extensionality_command : IsUniform begins follows extensionality_command
unfolding extensionality_command is_word is_mark is_name exactly plain_type word_pattern word_expression one_form two_form begins_one begins_two begins_atom begins_pattern_atom is_no_end
uniform_extensionality_command = (λ at. ((tt, λ b0. (tt, λ b1. tt, λ F. tt), λ F. tt), λ F k h. h))

pub uniform_show_command : IsUniform begins follows show_command
unfolding show_command is_word is_mark is_name exactly plain_type word_pattern word_expression one_form two_form begins_one begins_two begins_atom begins_pattern_atom is_no_end
uniform_show_command = (λ at. ((tt, λ b0. (tt, λ b1. tt, λ F. tt), λ F. tt), λ F k h. h))

pub uniform_any_command : IsUniform begins follows any_command
unfolding any_body any_command any_conclusion binder computation_command equation_body equation_type extensionality_command let_command operation_command premise rule_command show_command term_body term_conclusion type_body type_conclusion is_word is_mark is_name exactly plain_type word_pattern word_expression one_form two_form begins_one begins_two begins_atom begins_pattern_atom is_no_end
uniform_any_command = (uniform_rule_command, (uniform_let_command, (uniform_operation_command, (uniform_computation_command, (uniform_extensionality_command, uniform_show_command)))))

pub uniform_commands : IsUniform begins follows commands
unfolding any_body any_command any_conclusion binder commands computation_command equation_body equation_type extensionality_command let_command operation_command premise rule_command show_command term_body term_conclusion type_body type_conclusion is_word is_mark is_name exactly plain_type word_pattern word_expression one_form two_form begins_one begins_two begins_atom begins_pattern_atom is_no_end
uniform_commands = uniform_any_command

pub uniform_part : (p : Part) → IsUniform begins follows (rule_of p)
uniform_part expression = uniform_any_expression
uniform_part pattern = uniform_any_pattern
uniform_part type = uniform_any_type
uniform_part type_atom = uniform_atomic_type
