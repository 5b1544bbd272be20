-- The next token tells how a list of a rule of the grammar goes on.
use Rattle.std.proofs.Common.{refl, ℕ, []}
use Rattle.ft_grammar.specs.declared.syntax.Ast.{Ast}
use Rattle.ft_grammar.specs.declared.syntax.Ast.TheVariants as ast
use Rattle.ft_grammar.specs.Rules.{expression, pattern, type, type_atom, is_word, is_mark, is_name, exactly}
use Rattle.ft_grammar.specs.Forms.{plain_type, word_pattern, word_expression, one_form, two_form, begins_one, begins_two, begins_atom, begins_pattern_atom, is_no_end}
use Rattle.ft_grammar.specs.Grammar.{IsPart, list_type, option_type, parenthesized_type, atomic_type, any_type, parenthesized_pattern, atomic_pattern, some_pattern, symbol_pattern, list_pattern, any_pattern, parenthesized, none_of, nil_of, base, brace, braces, atom, call, one_part, two_parts, argument, congruence, perform, application, list_expression, let_in, if_then_else, case, match_with, operation_body, operation_case, value_body, handle_cases, handle_with, abstraction, any_expression, binder, type_body, term_body, equation_type, equation_body, type_conclusion, term_conclusion, any_conclusion, let_command, operation_command, computation_command, extensionality_command, show_command}
use Rattle.ft_grammar_laws.proofs.EveryKind.{within, apart}
use Rattle.ft_grammar_laws.proofs.Follow.{begins, follows, anything, after_type, after_pattern, after_atom, after_application, after_expression, after_equation, is_end_word, after_command}
use Rattle.ft_grammar_laws.proofs.Complete.{Fits, shrink}

pub fits_list_type : (d : ℕ) → Fits begins follows (IsPart d) list_type anything
unfolding list_type is_word is_mark is_name exactly plain_type word_pattern word_expression one_form two_form begins_one begins_two begins_atom begins_pattern_atom is_no_end
fits_list_type d = (λ b0. (anything, tt, (within _ _ (λ n. refl) (λ n. refl) refl refl refl refl), (λ b1. ((follows type_atom), (within _ _ (λ n. refl) (λ n. refl) refl refl refl refl), (within _ _ (λ n. refl) (λ n. refl) refl refl refl refl), tt))))

pub fits_option_type : (d : ℕ) → Fits begins follows (IsPart d) option_type anything
unfolding option_type is_word is_mark is_name exactly plain_type word_pattern word_expression one_form two_form begins_one begins_two begins_atom begins_pattern_atom is_no_end
fits_option_type d = (λ b0. (anything, tt, (within _ _ (λ n. refl) (λ n. refl) refl refl refl refl), (λ b1. ((follows type_atom), (within _ _ (λ n. refl) (λ n. refl) refl refl refl refl), (within _ _ (λ n. refl) (λ n. refl) refl refl refl refl), tt))))

pub fits_parenthesized_type : (d : ℕ) → Fits begins follows (IsPart d) parenthesized_type anything
unfolding parenthesized_type is_word is_mark is_name exactly plain_type word_pattern word_expression one_form two_form begins_one begins_two begins_atom begins_pattern_atom is_no_end
fits_parenthesized_type d = (λ b0. (anything, tt, (within _ _ (λ n. refl) (λ n. refl) refl refl refl refl), (λ b1. ((follows type), (within _ _ (λ n. refl) (λ n. refl) refl refl refl refl), (within _ _ (λ n. refl) (λ n. refl) refl refl refl refl), (λ b2. (anything, tt, (within _ _ (λ n. refl) (λ n. refl) refl refl refl refl), tt))))))

pub fits_atomic_type : (d : ℕ) → Fits begins follows (IsPart d) atomic_type anything
unfolding atomic_type list_type option_type parenthesized_type is_word is_mark is_name exactly plain_type word_pattern word_expression one_form two_form begins_one begins_two begins_atom begins_pattern_atom is_no_end
fits_atomic_type d = ((fits_list_type d), ((fits_option_type d), ((fits_parenthesized_type d), tt, (within _ _ (λ n. refl) (λ n. refl) refl refl refl refl), (apart _ _ (λ n. refl) (λ n. refl) refl refl refl refl)), (within _ _ (λ n. refl) (λ n. refl) refl refl refl refl), (apart _ _ (λ n. refl) (λ n. refl) refl refl refl refl)), (within _ _ (λ n. refl) (λ n. refl) refl refl refl refl), (apart _ _ (λ n. refl) (λ n. refl) refl refl refl refl))

pub fits_any_type : (d : ℕ) → Fits begins follows (IsPart d) any_type after_type
unfolding any_type atomic_type list_type option_type parenthesized_type is_word is_mark is_name exactly plain_type word_pattern word_expression one_form two_form begins_one begins_two begins_atom begins_pattern_atom is_no_end
fits_any_type d = (λ b0. (anything, (fits_atomic_type d), (within _ _ (λ n. refl) (λ n. refl) refl refl refl refl), ((λ b1. (anything, tt, (within _ _ (λ n. refl) (λ n. refl) refl refl refl refl), (λ b2. ((follows type), (within _ _ (λ n. refl) (λ n. refl) refl refl refl refl), (within _ _ (λ n. refl) (λ n. refl) refl refl refl refl), tt)))), tt, (within _ _ (λ n. refl) (λ n. refl) refl refl refl refl), (apart _ _ (λ n. refl) (λ n. refl) refl refl refl refl))))

pub fits_parenthesized_pattern : (d : ℕ) → Fits begins follows (IsPart d) parenthesized_pattern anything
unfolding parenthesized_pattern is_word is_mark is_name exactly plain_type word_pattern word_expression one_form two_form begins_one begins_two begins_atom begins_pattern_atom is_no_end
fits_parenthesized_pattern d = (λ at. (λ b0. (anything, tt, (within _ _ (λ n. refl) (λ n. refl) refl refl refl refl), ((λ b1. (anything, tt, (within _ _ (λ n. refl) (λ n. refl) refl refl refl refl), tt)), (λ b1. ((follows pattern), (within _ _ (λ n. refl) (λ n. refl) refl refl refl refl), (within _ _ (λ n. refl) (λ n. refl) refl refl refl refl), ((λ b2. (anything, tt, (within _ _ (λ n. refl) (λ n. refl) refl refl refl refl), (λ b3. ((follows pattern), (within _ _ (λ n. refl) (λ n. refl) refl refl refl refl), (within _ _ (λ n. refl) (λ n. refl) refl refl refl refl), (λ b4. (anything, tt, (within _ _ (λ n. refl) (λ n. refl) refl refl refl refl), tt)))))), (λ b2. (anything, tt, (within _ _ (λ n. refl) (λ n. refl) refl refl refl refl), tt)), (within _ _ (λ n. refl) (λ n. refl) refl refl refl refl), (apart _ _ (λ n. refl) (λ n. refl) refl refl refl refl)))), (within _ _ (λ n. refl) (λ n. refl) refl refl refl refl), (apart _ _ (λ n. refl) (λ n. refl) refl refl refl refl)))))

pub fits_atomic_pattern : (d : ℕ) → Fits begins follows (IsPart d) atomic_pattern anything
unfolding atomic_pattern parenthesized_pattern is_word is_mark is_name exactly plain_type word_pattern word_expression one_form two_form begins_one begins_two begins_atom begins_pattern_atom is_no_end
fits_atomic_pattern d = (λ at. ((λ b0. (anything, tt, (within _ _ (λ n. refl) (λ n. refl) refl refl refl refl), tt)), ((λ b0. (anything, tt, (within _ _ (λ n. refl) (λ n. refl) refl refl refl refl), tt)), ((fits_parenthesized_pattern d), tt, (within _ _ (λ n. refl) (λ n. refl) refl refl refl refl), (apart _ _ (λ n. refl) (λ n. refl) refl refl refl refl)), (within _ _ (λ n. refl) (λ n. refl) refl refl refl refl), (apart _ _ (λ n. refl) (λ n. refl) refl refl refl refl)), (within _ _ (λ n. refl) (λ n. refl) refl refl refl refl), (apart _ _ (λ n. refl) (λ n. refl) refl refl refl refl)))

pub fits_some_pattern : (d : ℕ) → Fits begins follows (IsPart d) some_pattern anything
unfolding atomic_pattern parenthesized_pattern some_pattern is_word is_mark is_name exactly plain_type word_pattern word_expression one_form two_form begins_one begins_two begins_atom begins_pattern_atom is_no_end
fits_some_pattern d = (λ at. (λ b0. (anything, tt, (within _ _ (λ n. refl) (λ n. refl) refl refl refl refl), (λ b1. (anything, (fits_atomic_pattern d), (within _ _ (λ n. refl) (λ n. refl) refl refl refl refl), tt)))))

pub fits_symbol_pattern : (d : ℕ) → Fits begins follows (IsPart d) symbol_pattern after_pattern
unfolding atomic_pattern parenthesized_pattern symbol_pattern is_word is_mark is_name exactly plain_type word_pattern word_expression one_form two_form begins_one begins_two begins_atom begins_pattern_atom is_no_end
fits_symbol_pattern d = (λ at. (λ b0. (anything, tt, (within _ _ (λ n. refl) (λ n. refl) refl refl refl refl), (λ b1. (anything, tt, (within _ _ (λ n. refl) (λ n. refl) refl refl refl refl), (λ b2. (after_pattern, (anything, (fits_atomic_pattern d), (within _ _ (λ n. refl) (λ n. refl) refl refl refl refl), (within _ _ (λ n. refl) (λ n. refl) refl refl refl refl), (apart _ _ (λ n. refl) (λ n. refl) refl refl refl refl), refl), (within _ _ (λ n. refl) (λ n. refl) refl refl refl refl), tt)))))))

pub fits_list_pattern : (d : ℕ) → Fits begins follows (IsPart d) list_pattern after_pattern
unfolding atomic_pattern list_pattern parenthesized_pattern is_word is_mark is_name exactly plain_type word_pattern word_expression one_form two_form begins_one begins_two begins_atom begins_pattern_atom is_no_end
fits_list_pattern d = (λ at. (λ b0. (anything, (fits_atomic_pattern d), (within _ _ (λ n. refl) (λ n. refl) refl refl refl refl), ((λ b1. (anything, tt, (within _ _ (λ n. refl) (λ n. refl) refl refl refl refl), (λ b2. ((follows pattern), (within _ _ (λ n. refl) (λ n. refl) refl refl refl refl), (within _ _ (λ n. refl) (λ n. refl) refl refl refl refl), tt)))), tt, (within _ _ (λ n. refl) (λ n. refl) refl refl refl refl), (apart _ _ (λ n. refl) (λ n. refl) refl refl refl refl)))))

pub fits_any_pattern : (d : ℕ) → Fits begins follows (IsPart d) any_pattern after_pattern
unfolding any_pattern atomic_pattern list_pattern parenthesized_pattern some_pattern symbol_pattern is_word is_mark is_name exactly plain_type word_pattern word_expression one_form two_form begins_one begins_two begins_atom begins_pattern_atom is_no_end
fits_any_pattern d = ((shrink begins follows (IsPart d) some_pattern after_pattern anything (within _ _ (λ n. refl) (λ n. refl) refl refl refl refl) (fits_some_pattern d)), ((fits_symbol_pattern d), (fits_list_pattern d), (within _ _ (λ n. refl) (λ n. refl) refl refl refl refl), (apart _ _ (λ n. refl) (λ n. refl) refl refl refl refl)), (within _ _ (λ n. refl) (λ n. refl) refl refl refl refl), (apart _ _ (λ n. refl) (λ n. refl) refl refl refl refl))

pub fits_parenthesized : (d : ℕ) → Fits begins follows (IsPart d) parenthesized anything
unfolding parenthesized is_word is_mark is_name exactly plain_type word_pattern word_expression one_form two_form begins_one begins_two begins_atom begins_pattern_atom is_no_end
fits_parenthesized d = (λ at. (λ b0. (anything, tt, (within _ _ (λ n. refl) (λ n. refl) refl refl refl refl), ((λ b1. (anything, tt, (within _ _ (λ n. refl) (λ n. refl) refl refl refl refl), tt)), (λ b1. ((follows expression), (within _ _ (λ n. refl) (λ n. refl) refl refl refl refl), (within _ _ (λ n. refl) (λ n. refl) refl refl refl refl), ((λ b2. (anything, tt, (within _ _ (λ n. refl) (λ n. refl) refl refl refl refl), (λ b3. ((follows expression), (within _ _ (λ n. refl) (λ n. refl) refl refl refl refl), (within _ _ (λ n. refl) (λ n. refl) refl refl refl refl), (λ b4. (anything, tt, (within _ _ (λ n. refl) (λ n. refl) refl refl refl refl), tt)))))), (λ b2. (anything, tt, (within _ _ (λ n. refl) (λ n. refl) refl refl refl refl), tt)), (within _ _ (λ n. refl) (λ n. refl) refl refl refl refl), (apart _ _ (λ n. refl) (λ n. refl) refl refl refl refl)))), (within _ _ (λ n. refl) (λ n. refl) refl refl refl refl), (apart _ _ (λ n. refl) (λ n. refl) refl refl refl refl)))))

pub fits_none_of : (d : ℕ) → Fits begins follows (IsPart d) none_of anything
unfolding none_of is_word is_mark is_name exactly plain_type word_pattern word_expression one_form two_form begins_one begins_two begins_atom begins_pattern_atom is_no_end
fits_none_of d = (λ at. (λ b0. (anything, tt, (within _ _ (λ n. refl) (λ n. refl) refl refl refl refl), (λ b1. ((follows type_atom), (within _ _ (λ n. refl) (λ n. refl) refl refl refl refl), (within _ _ (λ n. refl) (λ n. refl) refl refl refl refl), tt)))))

pub fits_nil_of : (d : ℕ) → Fits begins follows (IsPart d) nil_of anything
unfolding nil_of is_word is_mark is_name exactly plain_type word_pattern word_expression one_form two_form begins_one begins_two begins_atom begins_pattern_atom is_no_end
fits_nil_of d = (λ at. (λ b0. (anything, tt, (within _ _ (λ n. refl) (λ n. refl) refl refl refl refl), (λ b1. ((follows type_atom), (within _ _ (λ n. refl) (λ n. refl) refl refl refl refl), (within _ _ (λ n. refl) (λ n. refl) refl refl refl refl), tt)))))

pub fits_base : (d : ℕ) → Fits begins follows (IsPart d) base anything
unfolding base nil_of none_of parenthesized is_word is_mark is_name exactly plain_type word_pattern word_expression one_form two_form begins_one begins_two begins_atom begins_pattern_atom is_no_end
fits_base d = (λ at. ((λ b0. (anything, tt, (within _ _ (λ n. refl) (λ n. refl) refl refl refl refl), tt)), ((fits_parenthesized d), ((fits_none_of d), ((fits_nil_of d), tt, (within _ _ (λ n. refl) (λ n. refl) refl refl refl refl), (apart _ _ (λ n. refl) (λ n. refl) refl refl refl refl)), (within _ _ (λ n. refl) (λ n. refl) refl refl refl refl), (apart _ _ (λ n. refl) (λ n. refl) refl refl refl refl)), (within _ _ (λ n. refl) (λ n. refl) refl refl refl refl), (apart _ _ (λ n. refl) (λ n. refl) refl refl refl refl)), (within _ _ (λ n. refl) (λ n. refl) refl refl refl refl), (apart _ _ (λ n. refl) (λ n. refl) refl refl refl refl)))

pub fits_brace : (d : ℕ) → Fits begins follows (IsPart d) brace anything
unfolding brace is_word is_mark is_name exactly plain_type word_pattern word_expression one_form two_form begins_one begins_two begins_atom begins_pattern_atom is_no_end
fits_brace d = (λ b0. (anything, tt, (within _ _ (λ n. refl) (λ n. refl) refl refl refl refl), (λ b1. ((follows expression), (within _ _ (λ n. refl) (λ n. refl) refl refl refl refl), (within _ _ (λ n. refl) (λ n. refl) refl refl refl refl), (λ b2. (anything, tt, (within _ _ (λ n. refl) (λ n. refl) refl refl refl refl), tt))))))

pub fits_braces : (d : ℕ) (at : ℕ) (e : Ast) → Fits begins follows (IsPart d) (braces at e) after_atom
unfolding brace braces is_word is_mark is_name exactly plain_type word_pattern word_expression one_form two_form begins_one begins_two begins_atom begins_pattern_atom is_no_end
fits_braces d at e = (λ b0. (anything, (fits_brace d), (within _ _ (λ n. refl) (λ n. refl) refl refl refl refl), (λ b1. (after_atom, (anything, (fits_brace d), (within _ _ (λ n. refl) (λ n. refl) refl refl refl refl), (within _ _ (λ n. refl) (λ n. refl) refl refl refl refl), (apart _ _ (λ n. refl) (λ n. refl) refl refl refl refl), refl), (within _ _ (λ n. refl) (λ n. refl) refl refl refl refl), tt))))

pub fits_atom : (d : ℕ) → Fits begins follows (IsPart d) atom after_atom
unfolding atom base brace braces nil_of none_of parenthesized is_word is_mark is_name exactly plain_type word_pattern word_expression one_form two_form begins_one begins_two begins_atom begins_pattern_atom is_no_end
fits_atom d = (λ at. (λ b0. (anything, (fits_base d), (within _ _ (λ n. refl) (λ n. refl) refl refl refl refl), ((fits_braces d at b0), tt, (within _ _ (λ n. refl) (λ n. refl) refl refl refl refl), (apart _ _ (λ n. refl) (λ n. refl) refl refl refl refl)))))

pub fits_call : (d : ℕ) → Fits begins follows (IsPart d) call after_application
unfolding atom base brace braces call nil_of none_of parenthesized is_word is_mark is_name exactly plain_type word_pattern word_expression one_form two_form begins_one begins_two begins_atom begins_pattern_atom is_no_end
fits_call d = (λ at. (λ b0. (anything, tt, (within _ _ (λ n. refl) (λ n. refl) refl refl refl refl), ((shrink begins follows (IsPart d) (braces at (ast.Call at b0 [])) after_application after_atom (within _ _ (λ n. refl) (λ n. refl) refl refl refl refl) (fits_braces d at (ast.Call at b0 []))), (λ b1. (after_application, (after_atom, (fits_atom d), (within _ _ (λ n. refl) (λ n. refl) refl refl refl refl), (within _ _ (λ n. refl) (λ n. refl) refl refl refl refl), (apart _ _ (λ n. refl) (λ n. refl) refl refl refl refl), refl), (within _ _ (λ n. refl) (λ n. refl) refl refl refl refl), tt)), (within _ _ (λ n. refl) (λ n. refl) refl refl refl refl), (apart _ _ (λ n. refl) (λ n. refl) refl refl refl refl)))))

pub fits_one_part : (d : ℕ) → Fits begins follows (IsPart d) one_part after_atom
unfolding atom base brace braces nil_of none_of one_part parenthesized is_word is_mark is_name exactly plain_type word_pattern word_expression one_form two_form begins_one begins_two begins_atom begins_pattern_atom is_no_end
fits_one_part d = (λ at. (λ b0. (anything, tt, (within _ _ (λ n. refl) (λ n. refl) refl refl refl refl), (λ b1. (after_atom, (fits_atom d), (within _ _ (λ n. refl) (λ n. refl) refl refl refl refl), tt)))))

pub fits_two_parts : (d : ℕ) → Fits begins follows (IsPart d) two_parts after_atom
unfolding atom base brace braces nil_of none_of parenthesized two_parts is_word is_mark is_name exactly plain_type word_pattern word_expression one_form two_form begins_one begins_two begins_atom begins_pattern_atom is_no_end
fits_two_parts d = (λ at. (λ b0. (anything, tt, (within _ _ (λ n. refl) (λ n. refl) refl refl refl refl), (λ b1. (after_atom, (fits_atom d), (within _ _ (λ n. refl) (λ n. refl) refl refl refl refl), (λ b2. (after_atom, (fits_atom d), (within _ _ (λ n. refl) (λ n. refl) refl refl refl refl), tt)))))))

pub fits_argument : (d : ℕ) → Fits begins follows (IsPart d) argument anything
unfolding argument atom base brace braces nil_of none_of parenthesized is_word is_mark is_name exactly plain_type word_pattern word_expression one_form two_form begins_one begins_two begins_atom begins_pattern_atom is_no_end
fits_argument d = (λ at. (λ b0. (anything, tt, (within _ _ (λ n. refl) (λ n. refl) refl refl refl refl), (λ b1. (after_atom, (fits_atom d), (within _ _ (λ n. refl) (λ n. refl) refl refl refl refl), (λ b2. (anything, tt, (within _ _ (λ n. refl) (λ n. refl) refl refl refl refl), tt)))))))

pub fits_congruence : (d : ℕ) → Fits begins follows (IsPart d) congruence after_atom
unfolding atom base brace braces congruence nil_of none_of parenthesized is_word is_mark is_name exactly plain_type word_pattern word_expression one_form two_form begins_one begins_two begins_atom begins_pattern_atom is_no_end
fits_congruence d = (λ at. (λ b0. (anything, tt, (within _ _ (λ n. refl) (λ n. refl) refl refl refl refl), (λ b1. (anything, tt, (within _ _ (λ n. refl) (λ n. refl) refl refl refl refl), (λ b2. (after_atom, (fits_atom d), (within _ _ (λ n. refl) (λ n. refl) refl refl refl refl), (λ b3. (after_atom, (fits_atom d), (within _ _ (λ n. refl) (λ n. refl) refl refl refl refl), tt)))))))))

pub fits_perform : (d : ℕ) → Fits begins follows (IsPart d) perform after_atom
unfolding atom base brace braces nil_of none_of parenthesized perform is_word is_mark is_name exactly plain_type word_pattern word_expression one_form two_form begins_one begins_two begins_atom begins_pattern_atom is_no_end
fits_perform d = (λ at. (λ b0. (anything, tt, (within _ _ (λ n. refl) (λ n. refl) refl refl refl refl), (λ b1. (anything, tt, (within _ _ (λ n. refl) (λ n. refl) refl refl refl refl), (λ b2. (after_atom, (fits_atom d), (within _ _ (λ n. refl) (λ n. refl) refl refl refl refl), tt)))))))

pub fits_application : (d : ℕ) → Fits begins follows (IsPart d) application after_application
unfolding application argument atom base brace braces call congruence nil_of none_of one_part parenthesized perform two_parts is_word is_mark is_name exactly plain_type word_pattern word_expression one_form two_form begins_one begins_two begins_atom begins_pattern_atom is_no_end
fits_application d = ((fits_call d), ((shrink begins follows (IsPart d) one_part after_application after_atom (within _ _ (λ n. refl) (λ n. refl) refl refl refl refl) (fits_one_part d)), ((shrink begins follows (IsPart d) two_parts after_application after_atom (within _ _ (λ n. refl) (λ n. refl) refl refl refl refl) (fits_two_parts d)), ((shrink begins follows (IsPart d) argument after_application anything (within _ _ (λ n. refl) (λ n. refl) refl refl refl refl) (fits_argument d)), ((shrink begins follows (IsPart d) congruence after_application after_atom (within _ _ (λ n. refl) (λ n. refl) refl refl refl refl) (fits_congruence d)), ((shrink begins follows (IsPart d) perform after_application after_atom (within _ _ (λ n. refl) (λ n. refl) refl refl refl refl) (fits_perform d)), (shrink begins follows (IsPart d) atom after_application after_atom (within _ _ (λ n. refl) (λ n. refl) refl refl refl refl) (fits_atom d)), (within _ _ (λ n. refl) (λ n. refl) refl refl refl refl), (apart _ _ (λ n. refl) (λ n. refl) refl refl refl refl)), (within _ _ (λ n. refl) (λ n. refl) refl refl refl refl), (apart _ _ (λ n. refl) (λ n. refl) refl refl refl refl)), (within _ _ (λ n. refl) (λ n. refl) refl refl refl refl), (apart _ _ (λ n. refl) (λ n. refl) refl refl refl refl)), (within _ _ (λ n. refl) (λ n. refl) refl refl refl refl), (apart _ _ (λ n. refl) (λ n. refl) refl refl refl refl)), (within _ _ (λ n. refl) (λ n. refl) refl refl refl refl), (apart _ _ (λ n. refl) (λ n. refl) refl refl refl refl)), (within _ _ (λ n. refl) (λ n. refl) refl refl refl refl), (apart _ _ (λ n. refl) (λ n. refl) refl refl refl refl))

pub fits_list_expression : (d : ℕ) → Fits begins follows (IsPart d) list_expression after_expression
unfolding application argument atom base brace braces call congruence list_expression nil_of none_of one_part parenthesized perform two_parts is_word is_mark is_name exactly plain_type word_pattern word_expression one_form two_form begins_one begins_two begins_atom begins_pattern_atom is_no_end
fits_list_expression d = (λ at. (λ b0. (after_application, (fits_application d), (within _ _ (λ n. refl) (λ n. refl) refl refl refl refl), ((λ b1. (anything, tt, (within _ _ (λ n. refl) (λ n. refl) refl refl refl refl), (λ b2. ((follows expression), (within _ _ (λ n. refl) (λ n. refl) refl refl refl refl), (within _ _ (λ n. refl) (λ n. refl) refl refl refl refl), tt)))), tt, (within _ _ (λ n. refl) (λ n. refl) refl refl refl refl), (apart _ _ (λ n. refl) (λ n. refl) refl refl refl refl)))))

pub fits_let_in : (d : ℕ) → Fits begins follows (IsPart d) let_in after_expression
unfolding let_in is_word is_mark is_name exactly plain_type word_pattern word_expression one_form two_form begins_one begins_two begins_atom begins_pattern_atom is_no_end
fits_let_in d = (λ at. (λ b0. (anything, tt, (within _ _ (λ n. refl) (λ n. refl) refl refl refl refl), (λ b1. (anything, tt, (within _ _ (λ n. refl) (λ n. refl) refl refl refl refl), (λ b2. (anything, tt, (within _ _ (λ n. refl) (λ n. refl) refl refl refl refl), (λ b3. ((follows expression), (within _ _ (λ n. refl) (λ n. refl) refl refl refl refl), (within _ _ (λ n. refl) (λ n. refl) refl refl refl refl), (λ b4. (anything, tt, (within _ _ (λ n. refl) (λ n. refl) refl refl refl refl), (λ b5. ((follows expression), (within _ _ (λ n. refl) (λ n. refl) refl refl refl refl), (within _ _ (λ n. refl) (λ n. refl) refl refl refl refl), tt)))))))))))))

pub fits_if_then_else : (d : ℕ) → Fits begins follows (IsPart d) if_then_else after_expression
unfolding if_then_else is_word is_mark is_name exactly plain_type word_pattern word_expression one_form two_form begins_one begins_two begins_atom begins_pattern_atom is_no_end
fits_if_then_else d = (λ at. (λ b0. (anything, tt, (within _ _ (λ n. refl) (λ n. refl) refl refl refl refl), (λ b1. ((follows expression), (within _ _ (λ n. refl) (λ n. refl) refl refl refl refl), (within _ _ (λ n. refl) (λ n. refl) refl refl refl refl), (λ b2. (anything, tt, (within _ _ (λ n. refl) (λ n. refl) refl refl refl refl), (λ b3. ((follows expression), (within _ _ (λ n. refl) (λ n. refl) refl refl refl refl), (within _ _ (λ n. refl) (λ n. refl) refl refl refl refl), (λ b4. (anything, tt, (within _ _ (λ n. refl) (λ n. refl) refl refl refl refl), (λ b5. ((follows expression), (within _ _ (λ n. refl) (λ n. refl) refl refl refl refl), (within _ _ (λ n. refl) (λ n. refl) refl refl refl refl), tt)))))))))))))

pub fits_case : (d : ℕ) → Fits begins follows (IsPart d) case after_expression
unfolding case is_word is_mark is_name exactly plain_type word_pattern word_expression one_form two_form begins_one begins_two begins_atom begins_pattern_atom is_no_end
fits_case d = (λ at. (λ b0. (anything, tt, (within _ _ (λ n. refl) (λ n. refl) refl refl refl refl), (λ b1. ((follows pattern), (within _ _ (λ n. refl) (λ n. refl) refl refl refl refl), (within _ _ (λ n. refl) (λ n. refl) refl refl refl refl), (λ b2. (anything, tt, (within _ _ (λ n. refl) (λ n. refl) refl refl refl refl), (λ b3. ((follows expression), (within _ _ (λ n. refl) (λ n. refl) refl refl refl refl), (within _ _ (λ n. refl) (λ n. refl) refl refl refl refl), tt)))))))))

pub fits_match_with : (d : ℕ) → Fits begins follows (IsPart d) match_with anything
unfolding case match_with is_word is_mark is_name exactly plain_type word_pattern word_expression one_form two_form begins_one begins_two begins_atom begins_pattern_atom is_no_end
fits_match_with d = (λ at. (λ b0. (anything, tt, (within _ _ (λ n. refl) (λ n. refl) refl refl refl refl), (λ b1. ((follows expression), (within _ _ (λ n. refl) (λ n. refl) refl refl refl refl), (within _ _ (λ n. refl) (λ n. refl) refl refl refl refl), (λ b2. (anything, tt, (within _ _ (λ n. refl) (λ n. refl) refl refl refl refl), (λ b3. (after_expression, (fits_case d), (within _ _ (λ n. refl) (λ n. refl) refl refl refl refl), (λ b4. (is_end_word, (after_expression, (fits_case d), (within _ _ (λ n. refl) (λ n. refl) refl refl refl refl), (within _ _ (λ n. refl) (λ n. refl) refl refl refl refl), (apart _ _ (λ n. refl) (λ n. refl) refl refl refl refl), refl), (within _ _ (λ n. refl) (λ n. refl) refl refl refl refl), (λ b5. (anything, tt, (within _ _ (λ n. refl) (λ n. refl) refl refl refl refl), tt)))))))))))))

pub fits_operation_body : (d : ℕ) (at : ℕ) → Fits begins follows (IsPart d) (operation_body at) after_expression
unfolding operation_body is_word is_mark is_name exactly plain_type word_pattern word_expression one_form two_form begins_one begins_two begins_atom begins_pattern_atom is_no_end
fits_operation_body d at = (λ b0. (anything, tt, (within _ _ (λ n. refl) (λ n. refl) refl refl refl refl), (λ b1. (anything, tt, (within _ _ (λ n. refl) (λ n. refl) refl refl refl refl), (λ b2. (anything, tt, (within _ _ (λ n. refl) (λ n. refl) refl refl refl refl), (λ b3. ((follows expression), (within _ _ (λ n. refl) (λ n. refl) refl refl refl refl), (within _ _ (λ n. refl) (λ n. refl) refl refl refl refl), tt))))))))

pub fits_operation_case : (d : ℕ) → Fits begins follows (IsPart d) operation_case after_expression
unfolding operation_body operation_case is_word is_mark is_name exactly plain_type word_pattern word_expression one_form two_form begins_one begins_two begins_atom begins_pattern_atom is_no_end
fits_operation_case d = (λ at. (λ b0. (anything, tt, (within _ _ (λ n. refl) (λ n. refl) refl refl refl refl), (fits_operation_body d at))))

pub fits_value_body : (d : ℕ) (at : ℕ) → Fits begins follows (IsPart d) (value_body at) after_expression
unfolding value_body is_word is_mark is_name exactly plain_type word_pattern word_expression one_form two_form begins_one begins_two begins_atom begins_pattern_atom is_no_end
fits_value_body d at = (λ b0. (anything, tt, (within _ _ (λ n. refl) (λ n. refl) refl refl refl refl), (λ b1. (anything, tt, (within _ _ (λ n. refl) (λ n. refl) refl refl refl refl), (λ b2. (anything, tt, (within _ _ (λ n. refl) (λ n. refl) refl refl refl refl), (λ b3. ((follows expression), (within _ _ (λ n. refl) (λ n. refl) refl refl refl refl), (within _ _ (λ n. refl) (λ n. refl) refl refl refl refl), tt))))))))

pub fits_handle_cases : (d : ℕ) → Fits begins follows (IsPart d) handle_cases is_end_word
unfolding handle_cases operation_body operation_case value_body is_word is_mark is_name exactly plain_type word_pattern word_expression one_form two_form begins_one begins_two begins_atom begins_pattern_atom is_no_end
fits_handle_cases d = ((λ at. (λ b0. (anything, tt, (within _ _ (λ n. refl) (λ n. refl) refl refl refl refl), ((λ b1. (after_expression, (fits_value_body d at), (within _ _ (λ n. refl) (λ n. refl) refl refl refl refl), (λ b2. (is_end_word, (after_expression, (fits_operation_case d), (within _ _ (λ n. refl) (λ n. refl) refl refl refl refl), (within _ _ (λ n. refl) (λ n. refl) refl refl refl refl), (apart _ _ (λ n. refl) (λ n. refl) refl refl refl refl), refl), (within _ _ (λ n. refl) (λ n. refl) refl refl refl refl), tt)))), (λ b1. (after_expression, (fits_operation_body d at), (within _ _ (λ n. refl) (λ n. refl) refl refl refl refl), (λ b2. (is_end_word, (after_expression, (fits_operation_case d), (within _ _ (λ n. refl) (λ n. refl) refl refl refl refl), (within _ _ (λ n. refl) (λ n. refl) refl refl refl refl), (apart _ _ (λ n. refl) (λ n. refl) refl refl refl refl), refl), (within _ _ (λ n. refl) (λ n. refl) refl refl refl refl), tt)))), (within _ _ (λ n. refl) (λ n. refl) refl refl refl refl), (apart _ _ (λ n. refl) (λ n. refl) refl refl refl refl))))), tt, (within _ _ (λ n. refl) (λ n. refl) refl refl refl refl), (apart _ _ (λ n. refl) (λ n. refl) refl refl refl refl))

pub fits_handle_with : (d : ℕ) → Fits begins follows (IsPart d) handle_with anything
unfolding handle_cases handle_with operation_body operation_case value_body is_word is_mark is_name exactly plain_type word_pattern word_expression one_form two_form begins_one begins_two begins_atom begins_pattern_atom is_no_end
fits_handle_with d = (λ at. (λ b0. (anything, tt, (within _ _ (λ n. refl) (λ n. refl) refl refl refl refl), (λ b1. ((follows expression), (within _ _ (λ n. refl) (λ n. refl) refl refl refl refl), (within _ _ (λ n. refl) (λ n. refl) refl refl refl refl), (λ b2. (anything, tt, (within _ _ (λ n. refl) (λ n. refl) refl refl refl refl), (λ b3. (is_end_word, (fits_handle_cases d), (within _ _ (λ n. refl) (λ n. refl) refl refl refl refl), (λ b4. (anything, tt, (within _ _ (λ n. refl) (λ n. refl) refl refl refl refl), tt)))))))))))

pub fits_abstraction : (d : ℕ) → Fits begins follows (IsPart d) abstraction after_expression
unfolding abstraction is_word is_mark is_name exactly plain_type word_pattern word_expression one_form two_form begins_one begins_two begins_atom begins_pattern_atom is_no_end
fits_abstraction d = (λ at. (λ b0. (anything, tt, (within _ _ (λ n. refl) (λ n. refl) refl refl refl refl), (λ b1. (anything, tt, (within _ _ (λ n. refl) (λ n. refl) refl refl refl refl), (λ b2. (anything, tt, (within _ _ (λ n. refl) (λ n. refl) refl refl refl refl), (λ b3. ((follows expression), (within _ _ (λ n. refl) (λ n. refl) refl refl refl refl), (within _ _ (λ n. refl) (λ n. refl) refl refl refl refl), (λ b4. (anything, tt, (within _ _ (λ n. refl) (λ n. refl) refl refl refl refl), (λ b5. ((follows expression), (within _ _ (λ n. refl) (λ n. refl) refl refl refl refl), (within _ _ (λ n. refl) (λ n. refl) refl refl refl refl), tt)))))))))))))

pub fits_any_expression : (d : ℕ) → Fits begins follows (IsPart d) any_expression after_expression
unfolding abstraction any_expression application argument atom base brace braces call case congruence handle_cases handle_with if_then_else let_in list_expression match_with nil_of none_of one_part operation_body operation_case parenthesized perform two_parts value_body is_word is_mark is_name exactly plain_type word_pattern word_expression one_form two_form begins_one begins_two begins_atom begins_pattern_atom is_no_end
fits_any_expression d = ((fits_let_in d), ((fits_if_then_else d), ((shrink begins follows (IsPart d) match_with after_expression anything (within _ _ (λ n. refl) (λ n. refl) refl refl refl refl) (fits_match_with d)), ((shrink begins follows (IsPart d) handle_with after_expression anything (within _ _ (λ n. refl) (λ n. refl) refl refl refl refl) (fits_handle_with d)), ((fits_abstraction d), (fits_list_expression d), (within _ _ (λ n. refl) (λ n. refl) refl refl refl refl), (apart _ _ (λ n. refl) (λ n. refl) refl refl refl refl)), (within _ _ (λ n. refl) (λ n. refl) refl refl refl refl), (apart _ _ (λ n. refl) (λ n. refl) refl refl refl refl)), (within _ _ (λ n. refl) (λ n. refl) refl refl refl refl), (apart _ _ (λ n. refl) (λ n. refl) refl refl refl refl)), (within _ _ (λ n. refl) (λ n. refl) refl refl refl refl), (apart _ _ (λ n. refl) (λ n. refl) refl refl refl refl)), (within _ _ (λ n. refl) (λ n. refl) refl refl refl refl), (apart _ _ (λ n. refl) (λ n. refl) refl refl refl refl))

pub fits_binder : (d : ℕ) → Fits begins follows (IsPart d) binder anything
unfolding binder is_word is_mark is_name exactly plain_type word_pattern word_expression one_form two_form begins_one begins_two begins_atom begins_pattern_atom is_no_end
fits_binder d = (λ at. (λ b0. (anything, tt, (within _ _ (λ n. refl) (λ n. refl) refl refl refl refl), (λ b1. (anything, tt, (within _ _ (λ n. refl) (λ n. refl) refl refl refl refl), (λ b2. (anything, tt, (within _ _ (λ n. refl) (λ n. refl) refl refl refl refl), (λ b3. ((follows expression), (within _ _ (λ n. refl) (λ n. refl) refl refl refl refl), (within _ _ (λ n. refl) (λ n. refl) refl refl refl refl), (λ b4. (anything, tt, (within _ _ (λ n. refl) (λ n. refl) refl refl refl refl), tt)))))))))))

pub fits_type_body : (d : ℕ) → Fits begins follows (IsPart d) type_body anything
unfolding type_body is_word is_mark is_name exactly plain_type word_pattern word_expression one_form two_form begins_one begins_two begins_atom begins_pattern_atom is_no_end
fits_type_body d = (λ at. (λ b0. (anything, tt, (within _ _ (λ n. refl) (λ n. refl) refl refl refl refl), (λ b1. (anything, tt, (within _ _ (λ n. refl) (λ n. refl) refl refl refl refl), tt)))))

pub fits_term_body : (d : ℕ) → Fits begins follows (IsPart d) term_body after_expression
unfolding term_body is_word is_mark is_name exactly plain_type word_pattern word_expression one_form two_form begins_one begins_two begins_atom begins_pattern_atom is_no_end
fits_term_body d = (λ at. (λ b0. (anything, tt, (within _ _ (λ n. refl) (λ n. refl) refl refl refl refl), (λ b1. (anything, tt, (within _ _ (λ n. refl) (λ n. refl) refl refl refl refl), (λ b2. ((follows expression), (within _ _ (λ n. refl) (λ n. refl) refl refl refl refl), (within _ _ (λ n. refl) (λ n. refl) refl refl refl refl), tt)))))))

pub fits_equation_type : (d : ℕ) → Fits begins follows (IsPart d) equation_type after_equation
unfolding equation_type is_word is_mark is_name exactly plain_type word_pattern word_expression one_form two_form begins_one begins_two begins_atom begins_pattern_atom is_no_end
fits_equation_type d = ((λ b0. (anything, tt, (within _ _ (λ n. refl) (λ n. refl) refl refl refl refl), (λ b1. ((follows expression), (within _ _ (λ n. refl) (λ n. refl) refl refl refl refl), (within _ _ (λ n. refl) (λ n. refl) refl refl refl refl), tt)))), tt, (within _ _ (λ n. refl) (λ n. refl) refl refl refl refl), (apart _ _ (λ n. refl) (λ n. refl) refl refl refl refl))

pub fits_equation_body : (d : ℕ) → Fits begins follows (IsPart d) equation_body anything
unfolding equation_body equation_type is_word is_mark is_name exactly plain_type word_pattern word_expression one_form two_form begins_one begins_two begins_atom begins_pattern_atom is_no_end
fits_equation_body d = (λ at. (λ b0. ((follows expression), (within _ _ (λ n. refl) (λ n. refl) refl refl refl refl), (within _ _ (λ n. refl) (λ n. refl) refl refl refl refl), (λ b1. (anything, tt, (within _ _ (λ n. refl) (λ n. refl) refl refl refl refl), (λ b2. ((follows expression), (within _ _ (λ n. refl) (λ n. refl) refl refl refl refl), (within _ _ (λ n. refl) (λ n. refl) refl refl refl refl), (λ b3. (after_equation, (fits_equation_type d), (within _ _ (λ n. refl) (λ n. refl) refl refl refl refl), (λ b4. (anything, tt, (within _ _ (λ n. refl) (λ n. refl) refl refl refl refl), (λ b5. (anything, tt, (within _ _ (λ n. refl) (λ n. refl) refl refl refl refl), tt)))))))))))))

pub fits_type_conclusion : (d : ℕ) → Fits begins follows (IsPart d) type_conclusion anything
unfolding type_conclusion is_word is_mark is_name exactly plain_type word_pattern word_expression one_form two_form begins_one begins_two begins_atom begins_pattern_atom is_no_end
fits_type_conclusion d = (λ at. (λ b0. (anything, tt, (within _ _ (λ n. refl) (λ n. refl) refl refl refl refl), tt)))

pub fits_term_conclusion : (d : ℕ) → Fits begins follows (IsPart d) term_conclusion after_command
unfolding equation_type term_conclusion is_word is_mark is_name exactly plain_type word_pattern word_expression one_form two_form begins_one begins_two begins_atom begins_pattern_atom is_no_end
fits_term_conclusion d = (λ at. (λ b0. (anything, tt, (within _ _ (λ n. refl) (λ n. refl) refl refl refl refl), (λ b1. ((follows expression), (within _ _ (λ n. refl) (λ n. refl) refl refl refl refl), (within _ _ (λ n. refl) (λ n. refl) refl refl refl refl), ((λ b2. (anything, tt, (within _ _ (λ n. refl) (λ n. refl) refl refl refl refl), (λ b3. ((follows expression), (within _ _ (λ n. refl) (λ n. refl) refl refl refl refl), (within _ _ (λ n. refl) (λ n. refl) refl refl refl refl), (λ b4. (after_equation, (fits_equation_type d), (within _ _ (λ n. refl) (λ n. refl) refl refl refl refl), tt)))))), tt, (within _ _ (λ n. refl) (λ n. refl) refl refl refl refl), (apart _ _ (λ n. refl) (λ n. refl) refl refl refl refl)))))))

pub fits_any_conclusion : (d : ℕ) → Fits begins follows (IsPart d) any_conclusion after_command
unfolding any_conclusion equation_type term_conclusion type_conclusion is_word is_mark is_name exactly plain_type word_pattern word_expression one_form two_form begins_one begins_two begins_atom begins_pattern_atom is_no_end
fits_any_conclusion d = ((shrink begins follows (IsPart d) type_conclusion after_command anything (within _ _ (λ n. refl) (λ n. refl) refl refl refl refl) (fits_type_conclusion d)), (fits_term_conclusion d), (within _ _ (λ n. refl) (λ n. refl) refl refl refl refl), (apart _ _ (λ n. refl) (λ n. refl) refl refl refl refl))

pub fits_let_command : (d : ℕ) → Fits begins follows (IsPart d) let_command after_command
unfolding let_command is_word is_mark is_name exactly plain_type word_pattern word_expression one_form two_form begins_one begins_two begins_atom begins_pattern_atom is_no_end
fits_let_command d = (λ at. (λ b0. (anything, tt, (within _ _ (λ n. refl) (λ n. refl) refl refl refl refl), (λ b1. (anything, tt, (within _ _ (λ n. refl) (λ n. refl) refl refl refl refl), (λ b2. (anything, tt, (within _ _ (λ n. refl) (λ n. refl) refl refl refl refl), (λ b3. ((follows expression), (within _ _ (λ n. refl) (λ n. refl) refl refl refl refl), (within _ _ (λ n. refl) (λ n. refl) refl refl refl refl), tt)))))))))

pub fits_operation_command : (d : ℕ) → Fits begins follows (IsPart d) operation_command after_command
unfolding operation_command is_word is_mark is_name exactly plain_type word_pattern word_expression one_form two_form begins_one begins_two begins_atom begins_pattern_atom is_no_end
fits_operation_command d = (λ at. (λ b0. (anything, tt, (within _ _ (λ n. refl) (λ n. refl) refl refl refl refl), (λ b1. (anything, tt, (within _ _ (λ n. refl) (λ n. refl) refl refl refl refl), (λ b2. ((follows type_atom), (within _ _ (λ n. refl) (λ n. refl) refl refl refl refl), (within _ _ (λ n. refl) (λ n. refl) refl refl refl refl), (λ b3. (anything, tt, (within _ _ (λ n. refl) (λ n. refl) refl refl refl refl), (λ b4. ((follows type), (within _ _ (λ n. refl) (λ n. refl) refl refl refl refl), (within _ _ (λ n. refl) (λ n. refl) refl refl refl refl), tt)))))))))))

pub fits_computation_command : (d : ℕ) → Fits begins follows (IsPart d) computation_command anything
unfolding computation_command is_word is_mark is_name exactly plain_type word_pattern word_expression one_form two_form begins_one begins_two begins_atom begins_pattern_atom is_no_end
fits_computation_command d = (λ at. (λ b0. (anything, tt, (within _ _ (λ n. refl) (λ n. refl) refl refl refl refl), (λ b1. (anything, tt, (within _ _ (λ n. refl) (λ n. refl) refl refl refl refl), tt)))))

pub fits_extensionality_command : (d : ℕ) → Fits begins follows (IsPart d) extensionality_command anything
unfolding extensionality_command is_word is_mark is_name exactly plain_type word_pattern word_expression one_form two_form begins_one begins_two begins_atom begins_pattern_atom is_no_end
fits_extensionality_command d = (λ at. (λ b0. (anything, tt, (within _ _ (λ n. refl) (λ n. refl) refl refl refl refl), (λ b1. (anything, tt, (within _ _ (λ n. refl) (λ n. refl) refl refl refl refl), tt)))))

pub fits_show_command : (d : ℕ) → Fits begins follows (IsPart d) show_command after_command
unfolding show_command is_word is_mark is_name exactly plain_type word_pattern word_expression one_form two_form begins_one begins_two begins_atom begins_pattern_atom is_no_end
fits_show_command d = (λ at. (λ b0. (anything, tt, (within _ _ (λ n. refl) (λ n. refl) refl refl refl refl), (λ b1. ((follows expression), (within _ _ (λ n. refl) (λ n. refl) refl refl refl refl), (within _ _ (λ n. refl) (λ n. refl) refl refl refl refl), tt)))))
