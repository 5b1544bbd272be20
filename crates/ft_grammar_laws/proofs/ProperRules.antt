-- Each rule of the grammar takes a token where the place of one is asked for, and in lists.
use Rattle.std.proofs.Common.{refl, ℕ, []}
use Rattle.ft_grammar.specs.declared.syntax.Ast.{Ast}
use Rattle.ft_grammar.specs.declared.syntax.Ast.TheVariants as ast
use Rattle.ft_grammar.specs.Rules.{Part, expression, pattern, type, type_atom}
use Rattle.ft_grammar.specs.Grammar.{rule_of, list_type, option_type, parenthesized_type, atomic_type, any_type, parenthesized_pattern, atomic_pattern, some_pattern, symbol_pattern, list_pattern, any_pattern, parenthesized, none_of, nil_of, base, brace, braces, atom, call, one_part, two_parts, argument, congruence, perform, application, list_expression, let_in, if_then_else, case, match_with, operation_body, operation_case, value_body, handle_cases, handle_with, abstraction, any_expression, binder, type_body, term_body, equation_type, equation_body, any_body, premise, type_conclusion, term_conclusion, any_conclusion, rule_command, let_command, operation_command, computation_command, extensionality_command, show_command, any_command, commands}
use Rattle.ft_grammar_laws.proofs.Sound.{Proper}

pub proper_list_type : Proper list_type
unfolding list_type
proper_list_type = (tt, λ b0. (tt, λ b1. tt))

pub proper_option_type : Proper option_type
unfolding option_type
proper_option_type = (tt, λ b0. (tt, λ b1. tt))

pub proper_parenthesized_type : Proper parenthesized_type
unfolding parenthesized_type
proper_parenthesized_type = (tt, λ b0. (tt, λ b1. (tt, λ b2. tt)))

pub proper_atomic_type : Proper atomic_type
unfolding atomic_type list_type option_type parenthesized_type
proper_atomic_type = (proper_list_type, (proper_option_type, (proper_parenthesized_type, tt)))

pub proper_any_type : Proper any_type
unfolding any_type atomic_type list_type option_type parenthesized_type
proper_any_type = (proper_atomic_type, λ b0. ((tt, λ b1. (tt, λ b2. tt)), tt))

pub proper_parenthesized_pattern : Proper parenthesized_pattern
unfolding parenthesized_pattern
proper_parenthesized_pattern = (λ at. (refl, (tt, λ b0. ((tt, λ b1. tt), (tt, λ b1. ((tt, λ b2. (tt, λ b3. (tt, λ b4. tt))), (tt, λ b2. tt)))))))

pub proper_atomic_pattern : Proper atomic_pattern
unfolding atomic_pattern parenthesized_pattern
proper_atomic_pattern = (λ at. (refl, ((tt, λ b0. tt), ((tt, λ b0. tt), (proper_parenthesized_pattern, tt)))))

pub proper_some_pattern : Proper some_pattern
unfolding some_pattern atomic_pattern parenthesized_pattern
proper_some_pattern = (λ at. (refl, (tt, λ b0. (proper_atomic_pattern, λ b1. tt))))

pub proper_symbol_pattern : Proper symbol_pattern
unfolding symbol_pattern atomic_pattern parenthesized_pattern
proper_symbol_pattern = (λ at. (refl, (tt, λ b0. (tt, λ b1. ((refl, proper_atomic_pattern), λ b2. tt)))))

pub proper_list_pattern : Proper list_pattern
unfolding list_pattern atomic_pattern parenthesized_pattern
proper_list_pattern = (λ at. (refl, (proper_atomic_pattern, λ b0. ((tt, λ b1. (tt, λ b2. tt)), tt))))

pub proper_any_pattern : Proper any_pattern
unfolding any_pattern atomic_pattern list_pattern some_pattern symbol_pattern
proper_any_pattern = (proper_some_pattern, (proper_symbol_pattern, proper_list_pattern))

pub proper_parenthesized : Proper parenthesized
unfolding parenthesized
proper_parenthesized = (λ at. (refl, (tt, λ b0. ((tt, λ b1. tt), (tt, λ b1. ((tt, λ b2. (tt, λ b3. (tt, λ b4. tt))), (tt, λ b2. tt)))))))

pub proper_none_of : Proper none_of
unfolding none_of
proper_none_of = (λ at. (refl, (tt, λ b0. (tt, λ b1. tt))))

pub proper_nil_of : Proper nil_of
unfolding nil_of
proper_nil_of = (λ at. (refl, (tt, λ b0. (tt, λ b1. tt))))

pub proper_base : Proper base
unfolding base nil_of none_of parenthesized
proper_base = (λ at. (refl, ((tt, λ b0. tt), (proper_parenthesized, (proper_none_of, (proper_nil_of, tt))))))

pub proper_brace : Proper brace
unfolding brace
proper_brace = (tt, λ b0. (tt, λ b1. (tt, λ b2. tt)))

pub proper_braces : (at : ℕ) (e : Ast) → Proper (braces at e)
unfolding braces brace
proper_braces at e = (proper_brace, λ b0. ((refl, proper_brace), λ b1. tt))

pub proper_atom : Proper atom
unfolding atom base brace braces nil_of none_of parenthesized
proper_atom = (λ at. (refl, (proper_base, λ b0. ((proper_braces at b0), tt))))

pub proper_call : Proper call
unfolding call atom base brace braces
proper_call = (λ at. (refl, (tt, λ b0. ((proper_braces at (ast.Call at b0 [])), ((refl, proper_atom), λ b1. tt)))))

pub proper_one_part : Proper one_part
unfolding one_part atom base braces
proper_one_part = (λ at. (refl, (tt, λ b0. (proper_atom, λ b1. tt))))

pub proper_two_parts : Proper two_parts
unfolding two_parts atom base braces
proper_two_parts = (λ at. (refl, (tt, λ b0. (proper_atom, λ b1. (proper_atom, λ b2. tt)))))

pub proper_argument : Proper argument
unfolding argument atom base braces
proper_argument = (λ at. (refl, (tt, λ b0. (proper_atom, λ b1. (tt, λ b2. tt)))))

pub proper_congruence : Proper congruence
unfolding congruence atom base braces
proper_congruence = (λ at. (refl, (tt, λ b0. (tt, λ b1. (proper_atom, λ b2. (proper_atom, λ b3. tt))))))

pub proper_perform : Proper perform
unfolding perform atom base braces
proper_perform = (λ at. (refl, (tt, λ b0. (tt, λ b1. (proper_atom, λ b2. tt)))))

pub proper_application : Proper application
unfolding application argument atom base braces call congruence one_part perform two_parts
proper_application = (proper_call, (proper_one_part, (proper_two_parts, (proper_argument, (proper_congruence, (proper_perform, (refl, proper_atom)))))))

pub proper_list_expression : Proper list_expression
unfolding list_expression application argument atom call congruence one_part perform two_parts
proper_list_expression = (λ at. (refl, (proper_application, λ b0. ((tt, λ b1. (tt, λ b2. tt)), tt))))

pub proper_let_in : Proper let_in
unfolding let_in
proper_let_in = (λ at. (refl, (tt, λ b0. (tt, λ b1. (tt, λ b2. (tt, λ b3. (tt, λ b4. (tt, λ b5. tt))))))))

pub proper_if_then_else : Proper if_then_else
unfolding if_then_else
proper_if_then_else = (λ at. (refl, (tt, λ b0. (tt, λ b1. (tt, λ b2. (tt, λ b3. (tt, λ b4. (tt, λ b5. tt))))))))

pub proper_case : Proper case
unfolding case
proper_case = (λ at. (refl, (tt, λ b0. (tt, λ b1. (tt, λ b2. (tt, λ b3. tt))))))

pub proper_match_with : Proper match_with
unfolding match_with case
proper_match_with = (λ at. (refl, (tt, λ b0. (tt, λ b1. (tt, λ b2. (proper_case, λ b3. ((refl, proper_case), λ b4. (tt, λ b5. tt))))))))

pub proper_operation_body : (at : ℕ) → Proper (operation_body at)
unfolding operation_body
proper_operation_body at = (tt, λ b0. (tt, λ b1. (tt, λ b2. (tt, λ b3. tt))))

pub proper_operation_case : Proper operation_case
unfolding operation_case operation_body
proper_operation_case = (λ at. (refl, (tt, λ b0. (proper_operation_body at))))

pub proper_value_body : (at : ℕ) → Proper (value_body at)
unfolding value_body
proper_value_body at = (tt, λ b0. (tt, λ b1. (tt, λ b2. (tt, λ b3. tt))))

pub proper_handle_cases : Proper handle_cases
unfolding handle_cases operation_body operation_case value_body
proper_handle_cases = ((λ at. (refl, (tt, λ b0. (((proper_value_body at), λ b1. ((refl, proper_operation_case), λ b2. tt)), ((proper_operation_body at), λ b1. ((refl, proper_operation_case), λ b2. tt)))))), tt)

pub proper_handle_with : Proper handle_with
unfolding handle_with handle_cases operation_body operation_case value_body
proper_handle_with = (λ at. (refl, (tt, λ b0. (tt, λ b1. (tt, λ b2. (proper_handle_cases, λ b3. (tt, λ b4. tt)))))))

pub proper_abstraction : Proper abstraction
unfolding abstraction
proper_abstraction = (λ at. (refl, (tt, λ b0. (tt, λ b1. (tt, λ b2. (tt, λ b3. (tt, λ b4. (tt, λ b5. tt))))))))

pub proper_any_expression : Proper any_expression
unfolding any_expression abstraction application case handle_cases handle_with if_then_else let_in list_expression match_with
proper_any_expression = (proper_let_in, (proper_if_then_else, (proper_match_with, (proper_handle_with, (proper_abstraction, proper_list_expression)))))

pub proper_binder : Proper binder
unfolding binder
proper_binder = (λ at. (refl, (tt, λ b0. (tt, λ b1. (tt, λ b2. (tt, λ b3. (tt, λ b4. tt)))))))

pub proper_type_body : Proper type_body
unfolding type_body
proper_type_body = (λ at. (refl, (tt, λ b0. (tt, λ b1. tt))))

pub proper_term_body : Proper term_body
unfolding term_body
proper_term_body = (λ at. (refl, (tt, λ b0. (tt, λ b1. (tt, λ b2. tt)))))

pub proper_equation_type : Proper equation_type
unfolding equation_type
proper_equation_type = ((tt, λ b0. (tt, λ b1. tt)), tt)

pub proper_equation_body : Proper equation_body
unfolding equation_body equation_type
proper_equation_body = (λ at. (refl, (tt, λ b0. (tt, λ b1. (tt, λ b2. (proper_equation_type, λ b3. (tt, λ b4. (tt, λ b5. tt))))))))

pub proper_any_body : Proper any_body
unfolding any_body equation_body equation_type term_body type_body
proper_any_body = (refl, (proper_type_body, (proper_term_body, proper_equation_body)))

pub proper_premise : Proper premise
unfolding premise any_body binder equation_body term_body type_body
proper_premise = (λ at. (refl, (tt, λ b0. ((refl, proper_binder), λ b1. (proper_any_body, λ b2. (tt, λ b3. tt))))))

pub proper_type_conclusion : Proper type_conclusion
unfolding type_conclusion
proper_type_conclusion = (λ at. (refl, (tt, λ b0. tt)))

pub proper_term_conclusion : Proper term_conclusion
unfolding term_conclusion equation_type
proper_term_conclusion = (λ at. (refl, (tt, λ b0. (tt, λ b1. ((tt, λ b2. (tt, λ b3. (proper_equation_type, λ b4. tt))), tt)))))

pub proper_any_conclusion : Proper any_conclusion
unfolding any_conclusion equation_type term_conclusion type_conclusion
proper_any_conclusion = (proper_type_conclusion, proper_term_conclusion)

pub proper_rule_command : Proper rule_command
unfolding rule_command any_body any_conclusion binder premise term_conclusion type_conclusion
proper_rule_command = (λ at. (refl, (tt, λ b0. (tt, λ b1. ((refl, proper_premise), λ b2. (proper_any_conclusion, λ b3. tt))))))

pub proper_let_command : Proper let_command
unfolding let_command
proper_let_command = (λ at. (refl, (tt, λ b0. (tt, λ b1. (tt, λ b2. (tt, λ b3. tt))))))

pub proper_operation_command : Proper operation_command
unfolding operation_command
proper_operation_command = (λ at. (refl, (tt, λ b0. (tt, λ b1. (tt, λ b2. (tt, λ b3. (tt, λ b4. tt)))))))

pub proper_computation_command : Proper computation_command
unfolding computation_command
proper_computation_command = (λ at. (refl, (tt, λ b0. (tt, λ b1. tt))))

pub proper_extensionality_command : Proper extensionality_command
unfolding extensionality_command
proper_extensionality_command = (λ at. (refl, (tt, λ b0. (tt, λ b1. tt))))

pub proper_show_command : Proper show_command
unfolding show_command
proper_show_command = (λ at. (refl, (tt, λ b0. (tt, λ b1. tt))))

pub proper_any_command : Proper any_command
unfolding any_command any_conclusion computation_command extensionality_command let_command operation_command premise rule_command show_command
proper_any_command = (proper_rule_command, (proper_let_command, (proper_operation_command, (proper_computation_command, (proper_extensionality_command, proper_show_command)))))

pub proper_commands : Proper commands
unfolding commands any_command computation_command extensionality_command let_command operation_command rule_command show_command
proper_commands = (refl, proper_any_command)

pub proper_part : (p : Part) → Proper (rule_of p)
proper_part expression = proper_any_expression
proper_part pattern = proper_any_pattern
proper_part type = proper_any_type
proper_part type_atom = proper_atomic_type
