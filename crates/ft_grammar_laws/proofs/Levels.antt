-- The laws of reading at each depth.
use Rattle.std.proofs.Common.{◌≡◌, refl, ℕ, zero, suc, true, IsTrue, List, [], Ok}
use Rattle.ft_grammar.specs.declared.token.Token.{Token}
use Rattle.ft_grammar.specs.Rules.{Part, expression, pattern, type, type_atom, is_word, is_mark, is_name, exactly}
use Rattle.ft_grammar.specs.Forms.{plain_type, word_pattern, word_expression, one_form, two_form, begins_one, begins_two, begins_atom, begins_pattern_atom, is_no_end}
use Rattle.ft_grammar.specs.Grammar.{rule_of, IsPart, list_type, option_type, parenthesized_type, atomic_type, any_type, parenthesized_pattern, atomic_pattern, some_pattern, symbol_pattern, list_pattern, any_pattern, parenthesized, none_of, nil_of, base, brace, braces, atom, call, one_part, two_parts, argument, congruence, perform, application, list_expression, let_in, if_then_else, case, match_with, operation_body, operation_case, value_body, handle_cases, handle_with, abstraction, any_expression, binder, type_body, term_body, equation_type, equation_body, any_body, premise, type_conclusion, term_conclusion, any_conclusion, rule_command, let_command, operation_command, computation_command, extensionality_command, show_command, any_command, commands}
use Rattle.ft_grammar.specs.Reading.{level, too_nested}
use Rattle.ft_grammar_laws.proofs.EveryKind.{within}
use Rattle.ft_grammar_laws.proofs.Follow.{begins, follows}
use Rattle.ft_grammar_laws.proofs.Sound.{eats, PartsEat, IsSound, eaten, sound}
use Rattle.ft_grammar_laws.proofs.ProperRules.{proper_part}
use Rattle.ft_grammar_laws.proofs.Complete.{first, first_is, back, Within, PartsBegin, ReadsBack, Fits}
use Rattle.ft_grammar_laws.proofs.UniformRules.{uniform_part}
use Rattle.ft_grammar_laws.proofs.FitRules.{fits_any_expression, fits_any_pattern, fits_any_type, fits_atomic_type}

eats_part : (p : Part) → IsTrue (eats (rule_of p))
unfolding list_type option_type parenthesized_type atomic_type any_type parenthesized_pattern atomic_pattern some_pattern symbol_pattern list_pattern any_pattern parenthesized none_of nil_of base brace braces atom call one_part two_parts argument congruence perform application list_expression let_in if_then_else case match_with operation_body operation_case value_body handle_cases handle_with abstraction any_expression binder type_body term_body equation_type equation_body any_body premise type_conclusion term_conclusion any_conclusion rule_command let_command operation_command computation_command extensionality_command show_command any_command commands is_word is_mark is_name exactly plain_type word_pattern word_expression one_form two_form begins_one begins_two begins_atom begins_pattern_atom is_no_end
eats_part expression = refl
eats_part pattern = refl
eats_part type = refl
eats_part type_atom = refl

pub parts_eat : (d : ℕ) → PartsEat (IsPart d)
unfolding IsPart
parts_eat zero p a h = absurd h
parts_eat (suc d) p a h = eaten (IsPart d) (parts_eat d) (rule_of p) a [] (eats_part p) h refl

clash : {A : Type 0} (ts : List Token) (a : A) (rest : List Token) → too_nested {A = A} ts ≡ Ok (a, rest) → ⊥
clash ts a rest h = cc

pub parts_sound : (d : ℕ) (p : Part) → IsSound (IsPart d) (level d p) (λ a. IsPart d p a)
unfolding IsPart level
parts_sound zero p ts a rest h = absurd (clash ts a rest h)
parts_sound (suc d) p ts a rest h = sound (IsPart d) (level d) (parts_eat d) (parts_sound d) (rule_of p) (proper_part p) ts a rest h

begins_part : (p : Part) → Within begins follows (first begins follows (rule_of p) (λ k. true)) (begins p)
unfolding list_type option_type parenthesized_type atomic_type any_type parenthesized_pattern atomic_pattern some_pattern symbol_pattern list_pattern any_pattern parenthesized none_of nil_of base brace braces atom call one_part two_parts argument congruence perform application list_expression let_in if_then_else case match_with operation_body operation_case value_body handle_cases handle_with abstraction any_expression binder type_body term_body equation_type equation_body any_body premise type_conclusion term_conclusion any_conclusion rule_command let_command operation_command computation_command extensionality_command show_command any_command commands is_word is_mark is_name exactly plain_type word_pattern word_expression one_form two_form begins_one begins_two begins_atom begins_pattern_atom is_no_end
begins_part expression = (within _ _ (λ n. refl) (λ n. refl) refl refl refl refl)
begins_part pattern = (within _ _ (λ n. refl) (λ n. refl) refl refl refl refl)
begins_part type = (within _ _ (λ n. refl) (λ n. refl) refl refl refl refl)
begins_part type_atom = (within _ _ (λ n. refl) (λ n. refl) refl refl refl refl)

pub parts_begin : (d : ℕ) → PartsBegin begins follows (IsPart d)
unfolding IsPart
parts_begin zero p a xs rest h = absurd h
parts_begin (suc d) p a xs rest h =
    begins_part p _ (first_is begins follows (IsPart d) (parts_begin d) (rule_of p) (λ k. true) (uniform_part p) a xs rest h refl)

fits_part : (d : ℕ) (p : Part) → Fits begins follows (IsPart d) (rule_of p) (follows p)
fits_part d expression = fits_any_expression d
fits_part d pattern = fits_any_pattern d
fits_part d type = fits_any_type d
fits_part d type_atom = fits_atomic_type d

pub parts_back : (d : ℕ) (p : Part) → ReadsBack begins follows (IsPart d) (level d p) (λ a. IsPart d p a) (follows p)
unfolding IsPart level
parts_back zero p a xs rest h next = absurd h
parts_back (suc d) p a xs rest h next =
    back begins follows (IsPart d) (level d) (parts_eat d) (parts_begin d) (parts_back d) (rule_of p) (follows p) (uniform_part p) (fits_part d p) a xs rest h next
