-- The rules of the grammar look no further than the next token.
use Rattle.std.proofs.Common.{◌≡◌, sym, refl, subst, ℕ, zero, suc, ◌≤◌, true, IsTrue, [], ◌∷◌, length}
use Rattle.ft_common.proofs.Booleans.{false_true}
use Rattle.ft_grammar.specs.declared.token.Mark.TheVariants as m
use Rattle.ft_grammar.specs.declared.token.Kind.{Kind}
use Rattle.ft_grammar.specs.declared.token.Kind.TheVariants as kind
use Rattle.ft_grammar.specs.declared.token.Token.{Token}
use Rattle.ft_grammar.specs.declared.syntax.Ast.{Ast}
use Rattle.ft_grammar.specs.declared.syntax.Ast.TheVariants as ast
use Rattle.ft_grammar.specs.Rules.{Rule, Part, expression, pattern, type, type_atom, either_by_two, is_word, is_mark, is_name, exactly}
use Rattle.ft_grammar.specs.Forms.{begins_atom, begins_pattern_atom, is_no_end}
use Rattle.ft_grammar.specs.Grammar.{rule_of, IsPart, list_type, option_type, parenthesized_type, atomic_type, any_type, parenthesized_pattern, atomic_pattern, some_pattern, symbol_pattern, list_pattern, any_pattern, parenthesized, none_of, nil_of, base, brace, braces, atom, call, one_part, two_parts, argument, congruence, perform, application, list_expression, let_in, if_then_else, case, match_with, operation_body, operation_case, value_body, handle_cases, handle_with, abstraction, any_expression, binder, type_body, term_body, equation_type, equation_body, any_body, premise, type_conclusion, term_conclusion, any_conclusion, rule_command, let_command, operation_command, computation_command, extensionality_command, show_command, any_command, commands}
use Rattle.ft_grammar.specs.Reading.{level, read, read_name, read_word, read_mark}
use Rattle.ft_grammar_laws.proofs.Cases.{some_first}
use Rattle.ft_grammar_laws.proofs.Sound.{Proper, eats, eaten, sound}
use Rattle.ft_grammar_laws.proofs.ProperRules.{proper_atomic_pattern, proper_brace, proper_atom, proper_case, proper_operation_case, proper_binder, proper_premise, proper_any_command}
use Rattle.ft_grammar_laws.proofs.Levels.{parts_eat, parts_sound}
use Rattle.ft_grammar_laws.proofs.BodyRules.{a_name}
use Rattle.ft_grammar_laws.proofs.Local.{Looks, Takes, IsLocal, local, nested_local, beyond, left_of}

pub rule_takes : (d : ℕ) {A : Type 0} (r : Rule A) → Proper r → IsTrue (eats r) → Takes (read (level d) r)
rule_takes d r proper eat ts a rest h =
    let got = sound (IsPart d) (level d) (parts_eat d) (parts_sound d) r proper ts a rest h in
    subst (λ us. suc (length rest) ≤ length us) (sym got.1)
    (some_first got.0 (eaten (IsPart d) (parts_eat d) r a got.0 eat got.2) rest)

pub looks_list_type : (d : ℕ) → Looks (level d) list_type
unfolding list_type is_word is_mark is_name begins_atom begins_pattern_atom is_no_end
looks_list_type d = (tt, λ b0. (tt, λ b1. tt))

pub looks_option_type : (d : ℕ) → Looks (level d) option_type
unfolding option_type is_word is_mark is_name begins_atom begins_pattern_atom is_no_end
looks_option_type d = (tt, λ b0. (tt, λ b1. tt))

pub looks_parenthesized_type : (d : ℕ) → Looks (level d) parenthesized_type
unfolding parenthesized_type is_word is_mark is_name begins_atom begins_pattern_atom is_no_end
looks_parenthesized_type d = (tt, λ b0. (tt, λ b1. (tt, λ b2. tt)))

pub looks_atomic_type : (d : ℕ) → Looks (level d) atomic_type
unfolding atomic_type list_type option_type parenthesized_type is_word is_mark is_name begins_atom begins_pattern_atom is_no_end
looks_atomic_type d = ((looks_list_type d), ((looks_option_type d), ((looks_parenthesized_type d), tt)))

pub looks_any_type : (d : ℕ) → Looks (level d) any_type
unfolding any_type atomic_type list_type option_type parenthesized_type is_word is_mark is_name begins_atom begins_pattern_atom is_no_end
looks_any_type d = ((looks_atomic_type d), λ b0. ((tt, λ b1. (tt, λ b2. tt)), tt))

pub looks_parenthesized_pattern : (d : ℕ) → Looks (level d) parenthesized_pattern
unfolding parenthesized_pattern is_word is_mark is_name begins_atom begins_pattern_atom is_no_end
looks_parenthesized_pattern d = (λ at. (tt, λ b0. ((tt, λ b1. tt), (tt, λ b1. ((tt, λ b2. (tt, λ b3. (tt, λ b4. tt))), (tt, λ b2. tt))))))

pub looks_atomic_pattern : (d : ℕ) → Looks (level d) atomic_pattern
unfolding atomic_pattern parenthesized_pattern is_word is_mark is_name begins_atom begins_pattern_atom is_no_end
looks_atomic_pattern d = (λ at. ((tt, λ b0. tt), ((tt, λ b0. tt), ((looks_parenthesized_pattern d), tt))))

pub looks_some_pattern : (d : ℕ) → Looks (level d) some_pattern
unfolding atomic_pattern parenthesized_pattern some_pattern is_word is_mark is_name begins_atom begins_pattern_atom is_no_end
looks_some_pattern d = (λ at. (tt, λ b0. ((looks_atomic_pattern d), λ b1. tt)))

pub looks_symbol_pattern : (d : ℕ) → Looks (level d) symbol_pattern
unfolding atomic_pattern parenthesized_pattern symbol_pattern is_word is_mark is_name begins_atom begins_pattern_atom is_no_end
looks_symbol_pattern d = (λ at. (tt, λ b0. (tt, λ b1. (((looks_atomic_pattern d), refl, rule_takes d atomic_pattern proper_atomic_pattern refl), λ b2. tt))))

pub looks_list_pattern : (d : ℕ) → Looks (level d) list_pattern
unfolding atomic_pattern list_pattern parenthesized_pattern is_word is_mark is_name begins_atom begins_pattern_atom is_no_end
looks_list_pattern d = (λ at. ((looks_atomic_pattern d), λ b0. ((tt, λ b1. (tt, λ b2. tt)), tt)))

pub looks_any_pattern : (d : ℕ) → Looks (level d) any_pattern
unfolding any_pattern atomic_pattern list_pattern parenthesized_pattern some_pattern symbol_pattern is_word is_mark is_name begins_atom begins_pattern_atom is_no_end
looks_any_pattern d = ((looks_some_pattern d), ((looks_symbol_pattern d), (looks_list_pattern d)))

pub looks_parenthesized : (d : ℕ) → Looks (level d) parenthesized
unfolding parenthesized is_word is_mark is_name begins_atom begins_pattern_atom is_no_end
looks_parenthesized d = (λ at. (tt, λ b0. ((tt, λ b1. tt), (tt, λ b1. ((tt, λ b2. (tt, λ b3. (tt, λ b4. tt))), (tt, λ b2. tt))))))

pub looks_none_of : (d : ℕ) → Looks (level d) none_of
unfolding none_of is_word is_mark is_name begins_atom begins_pattern_atom is_no_end
looks_none_of d = (λ at. (tt, λ b0. (tt, λ b1. tt)))

pub looks_nil_of : (d : ℕ) → Looks (level d) nil_of
unfolding nil_of is_word is_mark is_name begins_atom begins_pattern_atom is_no_end
looks_nil_of d = (λ at. (tt, λ b0. (tt, λ b1. tt)))

pub looks_base : (d : ℕ) → Looks (level d) base
unfolding base nil_of none_of parenthesized is_word is_mark is_name begins_atom begins_pattern_atom is_no_end
looks_base d = (λ at. ((tt, λ b0. tt), ((looks_parenthesized d), ((looks_none_of d), ((looks_nil_of d), tt)))))

pub looks_brace : (d : ℕ) → Looks (level d) brace
unfolding brace is_word is_mark is_name begins_atom begins_pattern_atom is_no_end
looks_brace d = (tt, λ b0. (tt, λ b1. (tt, λ b2. tt)))

pub looks_braces : (d : ℕ) (at : ℕ) (e : Ast) → Looks (level d) (braces at e)
unfolding brace braces is_word is_mark is_name begins_atom begins_pattern_atom is_no_end
looks_braces d at e = ((looks_brace d), λ b0. (((looks_brace d), refl, rule_takes d brace proper_brace refl), λ b1. tt))

pub looks_atom : (d : ℕ) → Looks (level d) atom
unfolding atom base brace braces nil_of none_of parenthesized is_word is_mark is_name begins_atom begins_pattern_atom is_no_end
looks_atom d = (λ at. ((looks_base d), λ b0. ((looks_braces d at b0), tt)))

pub looks_call : (d : ℕ) → Looks (level d) call
unfolding atom base brace braces call nil_of none_of parenthesized is_word is_mark is_name begins_atom begins_pattern_atom is_no_end
looks_call d = (λ at. (tt, λ b0. ((looks_braces d at (ast.Call at b0 [])), (((looks_atom d), refl, rule_takes d atom proper_atom refl), λ b1. tt))))

pub looks_one_part : (d : ℕ) → Looks (level d) one_part
unfolding atom base brace braces nil_of none_of one_part parenthesized is_word is_mark is_name begins_atom begins_pattern_atom is_no_end
looks_one_part d = (λ at. (tt, λ b0. ((looks_atom d), λ b1. tt)))

pub looks_two_parts : (d : ℕ) → Looks (level d) two_parts
unfolding atom base brace braces nil_of none_of parenthesized two_parts is_word is_mark is_name begins_atom begins_pattern_atom is_no_end
looks_two_parts d = (λ at. (tt, λ b0. ((looks_atom d), λ b1. ((looks_atom d), λ b2. tt))))

pub looks_argument : (d : ℕ) → Looks (level d) argument
unfolding argument atom base brace braces nil_of none_of parenthesized is_word is_mark is_name begins_atom begins_pattern_atom is_no_end
looks_argument d = (λ at. (tt, λ b0. ((looks_atom d), λ b1. (tt, λ b2. tt))))

pub looks_congruence : (d : ℕ) → Looks (level d) congruence
unfolding atom base brace braces congruence nil_of none_of parenthesized is_word is_mark is_name begins_atom begins_pattern_atom is_no_end
looks_congruence d = (λ at. (tt, λ b0. (tt, λ b1. ((looks_atom d), λ b2. ((looks_atom d), λ b3. tt)))))

pub looks_perform : (d : ℕ) → Looks (level d) perform
unfolding atom base brace braces nil_of none_of parenthesized perform is_word is_mark is_name begins_atom begins_pattern_atom is_no_end
looks_perform d = (λ at. (tt, λ b0. (tt, λ b1. ((looks_atom d), λ b2. tt))))

pub looks_application : (d : ℕ) → Looks (level d) application
unfolding application argument atom base brace braces call congruence nil_of none_of one_part parenthesized perform two_parts is_word is_mark is_name begins_atom begins_pattern_atom is_no_end
looks_application d = ((looks_call d), ((looks_one_part d), ((looks_two_parts d), ((looks_argument d), ((looks_congruence d), ((looks_perform d), (looks_atom d)))))))

pub looks_list_expression : (d : ℕ) → Looks (level d) list_expression
unfolding application argument atom base brace braces call congruence list_expression nil_of none_of one_part parenthesized perform two_parts is_word is_mark is_name begins_atom begins_pattern_atom is_no_end
looks_list_expression d = (λ at. ((looks_application d), λ b0. ((tt, λ b1. (tt, λ b2. tt)), tt)))

pub looks_let_in : (d : ℕ) → Looks (level d) let_in
unfolding let_in is_word is_mark is_name begins_atom begins_pattern_atom is_no_end
looks_let_in d = (λ at. (tt, λ b0. (tt, λ b1. (tt, λ b2. (tt, λ b3. (tt, λ b4. (tt, λ b5. tt)))))))

pub looks_if_then_else : (d : ℕ) → Looks (level d) if_then_else
unfolding if_then_else is_word is_mark is_name begins_atom begins_pattern_atom is_no_end
looks_if_then_else d = (λ at. (tt, λ b0. (tt, λ b1. (tt, λ b2. (tt, λ b3. (tt, λ b4. (tt, λ b5. tt)))))))

pub looks_case : (d : ℕ) → Looks (level d) case
unfolding case is_word is_mark is_name begins_atom begins_pattern_atom is_no_end
looks_case d = (λ at. (tt, λ b0. (tt, λ b1. (tt, λ b2. (tt, λ b3. tt)))))

pub looks_match_with : (d : ℕ) → Looks (level d) match_with
unfolding case match_with is_word is_mark is_name begins_atom begins_pattern_atom is_no_end
looks_match_with d = (λ at. (tt, λ b0. (tt, λ b1. (tt, λ b2. ((looks_case d), λ b3. (((looks_case d), refl, rule_takes d case proper_case refl), λ b4. (tt, λ b5. tt)))))))

pub looks_operation_body : (d : ℕ) (at : ℕ) → Looks (level d) (operation_body at)
unfolding operation_body is_word is_mark is_name begins_atom begins_pattern_atom is_no_end
looks_operation_body d at = (tt, λ b0. (tt, λ b1. (tt, λ b2. (tt, λ b3. tt))))

pub looks_operation_case : (d : ℕ) → Looks (level d) operation_case
unfolding operation_body operation_case is_word is_mark is_name begins_atom begins_pattern_atom is_no_end
looks_operation_case d = (λ at. (tt, λ b0. (looks_operation_body d at)))

pub looks_value_body : (d : ℕ) (at : ℕ) → Looks (level d) (value_body at)
unfolding value_body is_word is_mark is_name begins_atom begins_pattern_atom is_no_end
looks_value_body d at = (tt, λ b0. (tt, λ b1. (tt, λ b2. (tt, λ b3. tt))))

pub looks_handle_cases : (d : ℕ) → Looks (level d) handle_cases
unfolding handle_cases operation_body operation_case value_body is_word is_mark is_name begins_atom begins_pattern_atom is_no_end
looks_handle_cases d = ((λ at. (tt, λ b0. (((looks_value_body d at), λ b1. (((looks_operation_case d), refl, rule_takes d operation_case proper_operation_case refl), λ b2. tt)), ((looks_operation_body d at), λ b1. (((looks_operation_case d), refl, rule_takes d operation_case proper_operation_case refl), λ b2. tt))))), tt)

pub looks_handle_with : (d : ℕ) → Looks (level d) handle_with
unfolding handle_cases handle_with operation_body operation_case value_body is_word is_mark is_name begins_atom begins_pattern_atom is_no_end
looks_handle_with d = (λ at. (tt, λ b0. (tt, λ b1. (tt, λ b2. ((looks_handle_cases d), λ b3. (tt, λ b4. tt))))))

pub looks_abstraction : (d : ℕ) → Looks (level d) abstraction
unfolding abstraction is_word is_mark is_name begins_atom begins_pattern_atom is_no_end
looks_abstraction d = (λ at. (tt, λ b0. (tt, λ b1. (tt, λ b2. (tt, λ b3. (tt, λ b4. (tt, λ b5. tt)))))))

pub looks_any_expression : (d : ℕ) → Looks (level d) any_expression
unfolding abstraction any_expression application argument atom base brace braces call case congruence handle_cases handle_with if_then_else let_in list_expression match_with nil_of none_of one_part operation_body operation_case parenthesized perform two_parts value_body is_word is_mark is_name begins_atom begins_pattern_atom is_no_end
looks_any_expression d = ((looks_let_in d), ((looks_if_then_else d), ((looks_match_with d), ((looks_handle_with d), ((looks_abstraction d), (looks_list_expression d))))))

looks_part : (d : ℕ) (p : Part) → Looks (level d) (rule_of p)
looks_part d expression = looks_any_expression d
looks_part d pattern = looks_any_pattern d
looks_part d type = looks_any_type d
looks_part d type_atom = looks_atomic_type d

pub parts_local : (d : ℕ) (p : Part) → IsLocal (level d p)
unfolding level
parts_local zero p ts = nested_local ts
parts_local (suc d) p ts = local (level d) (parts_local d) (rule_of p) (looks_part d p) ts

-- a name alone
for_name : (P : Token → Type 0) → ((n : _) (s e : ℕ) → P (record { kind = kind.Name n; start = s; end = e })) → (t : Token) → is_name t.kind ≡ true → P t
unfolding is_name
for_name P named t is = by_kind t.kind is
  where
    by_kind : (k : Kind) → is_name k ≡ true → P (record { kind = k; start = t.start; end = t.end })
    by_kind (kind.Name n) is = named n t.start t.end
    by_kind (kind.Number n) is = absurd (false_true is)
    by_kind (kind.Word v) is = absurd (false_true is)
    by_kind (kind.Mark v) is = absurd (false_true is)
    by_kind kind.Bad is = absurd (false_true is)
    by_kind kind.End is = absurd (false_true is)

type_alone : (d : ℕ) (t : Token) → is_name t.kind ≡ true → left_of (read (level (suc d)) type_body (t ∷ [])) ≡ []
unfolding type_body read_name read_word exactly
type_alone d = for_name (λ t. left_of (read (level (suc d)) type_body (t ∷ [])) ≡ []) (λ n s e. refl)

term_alone : (d : ℕ) (t : Token) → is_name t.kind ≡ true → left_of (read (level (suc d)) term_body (t ∷ [])) ≡ []
unfolding term_body read_name read_mark is_mark
term_alone d = for_name (λ t. left_of (read (level (suc d)) term_body (t ∷ [])) ≡ []) (λ n s e. refl)

equation_alone : (d : ℕ) (t : Token) → is_name t.kind ≡ true → left_of (read (level (suc d)) equation_body (t ∷ [])) ≡ []
unfolding equation_body level read_mark is_mark begins_atom
equation_alone d = for_name (λ t. left_of (read (level (suc d)) equation_body (t ∷ [])) ≡ []) (λ n s e. rw (a_name d n s e [] refl refl refl) refl)

other_alone : (d : ℕ) (t : Token) → is_name t.kind ≡ true
    → left_of (read (level (suc d)) (either_by_two is_name (is_mark m.Colon) term_body equation_body) (t ∷ [])) ≡ []
unfolding is_mark is_name
other_alone d = for_name (λ t. left_of (read (level (suc d)) (either_by_two is_name (is_mark m.Colon) term_body equation_body) (t ∷ [])) ≡ [])
    (λ n s e. equation_alone d (record { kind = kind.Name n; start = s; end = e }) refl)

pub looks_binder : (d : ℕ) → Looks (level (suc d)) binder
unfolding binder is_word is_mark is_name begins_atom begins_pattern_atom is_no_end
looks_binder d = (λ at. (tt, λ b0. (tt, λ b1. (tt, λ b2. (tt, λ b3. (tt, λ b4. tt))))))

pub looks_type_body : (d : ℕ) → Looks (level (suc d)) type_body
unfolding type_body is_word is_mark is_name begins_atom begins_pattern_atom is_no_end
looks_type_body d = (λ at. (tt, λ b0. (tt, λ b1. tt)))

pub looks_term_body : (d : ℕ) → Looks (level (suc d)) term_body
unfolding term_body is_word is_mark is_name begins_atom begins_pattern_atom is_no_end
looks_term_body d = (λ at. (tt, λ b0. (tt, λ b1. (tt, λ b2. tt))))

pub looks_equation_type : (d : ℕ) → Looks (level (suc d)) equation_type
unfolding equation_type is_word is_mark is_name begins_atom begins_pattern_atom is_no_end
looks_equation_type d = ((tt, λ b0. (tt, λ b1. tt)), tt)

pub looks_equation_body : (d : ℕ) → Looks (level (suc d)) equation_body
unfolding equation_body equation_type is_word is_mark is_name begins_atom begins_pattern_atom is_no_end
looks_equation_body d = (λ at. (tt, λ b0. (tt, λ b1. (tt, λ b2. ((looks_equation_type d), λ b3. (tt, λ b4. (tt, λ b5. tt)))))))

pub looks_other_body : (d : ℕ) → Looks (level (suc d)) (either_by_two is_name (is_mark m.Colon) term_body equation_body)
unfolding is_name
looks_other_body d = (
  looks_term_body d,
  looks_equation_body d,
  refl,
  beyond is_name (read (level (suc d)) term_body) (local (level (suc d)) (parts_local (suc d)) term_body (looks_term_body d)) (term_alone d),
  beyond is_name (read (level (suc d)) equation_body) (local (level (suc d)) (parts_local (suc d)) equation_body (looks_equation_body d)) (equation_alone d),
)

pub looks_any_body : (d : ℕ) → Looks (level (suc d)) any_body
unfolding any_body is_name
looks_any_body d = (
  looks_type_body d,
  looks_other_body d,
  refl,
  beyond is_name (read (level (suc d)) type_body) (local (level (suc d)) (parts_local (suc d)) type_body (looks_type_body d)) (type_alone d),
  beyond is_name (read (level (suc d)) (either_by_two is_name (is_mark m.Colon) term_body equation_body))
      (local (level (suc d)) (parts_local (suc d)) (either_by_two is_name (is_mark m.Colon) term_body equation_body) (looks_other_body d)) (other_alone d),
)

pub looks_premise : (d : ℕ) → Looks (level (suc d)) premise
unfolding any_body binder equation_body equation_type premise term_body type_body is_word is_mark is_name begins_atom begins_pattern_atom is_no_end
looks_premise d = (λ at. (tt, λ b0. (((looks_binder d), refl, rule_takes (suc d) binder proper_binder refl), λ b1. ((looks_any_body d), λ b2. (tt, λ b3. tt)))))

pub looks_type_conclusion : (d : ℕ) → Looks (level (suc d)) type_conclusion
unfolding type_conclusion is_word is_mark is_name begins_atom begins_pattern_atom is_no_end
looks_type_conclusion d = (λ at. (tt, λ b0. tt))

pub looks_term_conclusion : (d : ℕ) → Looks (level (suc d)) term_conclusion
unfolding equation_type term_conclusion is_word is_mark is_name begins_atom begins_pattern_atom is_no_end
looks_term_conclusion d = (λ at. (tt, λ b0. (tt, λ b1. ((tt, λ b2. (tt, λ b3. ((looks_equation_type d), λ b4. tt))), tt))))

pub looks_any_conclusion : (d : ℕ) → Looks (level (suc d)) any_conclusion
unfolding any_conclusion equation_type term_conclusion type_conclusion is_word is_mark is_name begins_atom begins_pattern_atom is_no_end
looks_any_conclusion d = ((looks_type_conclusion d), (looks_term_conclusion d))

pub looks_rule_command : (d : ℕ) → Looks (level (suc d)) rule_command
unfolding any_body any_conclusion binder equation_body equation_type premise rule_command term_body term_conclusion type_body type_conclusion is_word is_mark is_name begins_atom begins_pattern_atom is_no_end
looks_rule_command d = (λ at. (tt, λ b0. (tt, λ b1. (((looks_premise d), refl, rule_takes (suc d) premise proper_premise refl), λ b2. ((looks_any_conclusion d), λ b3. tt)))))

pub looks_let_command : (d : ℕ) → Looks (level (suc d)) let_command
unfolding let_command is_word is_mark is_name begins_atom begins_pattern_atom is_no_end
looks_let_command d = (λ at. (tt, λ b0. (tt, λ b1. (tt, λ b2. (tt, λ b3. tt)))))

pub looks_operation_command : (d : ℕ) → Looks (level (suc d)) operation_command
unfolding operation_command is_word is_mark is_name begins_atom begins_pattern_atom is_no_end
looks_operation_command d = (λ at. (tt, λ b0. (tt, λ b1. (tt, λ b2. (tt, λ b3. (tt, λ b4. tt))))))

pub looks_computation_command : (d : ℕ) → Looks (level (suc d)) computation_command
unfolding computation_command is_word is_mark is_name begins_atom begins_pattern_atom is_no_end
looks_computation_command d = (λ at. (tt, λ b0. (tt, λ b1. tt)))

pub looks_extensionality_command : (d : ℕ) → Looks (level (suc d)) extensionality_command
unfolding extensionality_command is_word is_mark is_name begins_atom begins_pattern_atom is_no_end
looks_extensionality_command d = (λ at. (tt, λ b0. (tt, λ b1. tt)))

pub looks_show_command : (d : ℕ) → Looks (level (suc d)) show_command
unfolding show_command is_word is_mark is_name begins_atom begins_pattern_atom is_no_end
looks_show_command d = (λ at. (tt, λ b0. (tt, λ b1. tt)))

pub looks_any_command : (d : ℕ) → Looks (level (suc d)) any_command
unfolding any_body any_command any_conclusion binder computation_command equation_body equation_type extensionality_command let_command operation_command premise rule_command show_command term_body term_conclusion type_body type_conclusion is_word is_mark is_name begins_atom begins_pattern_atom is_no_end
looks_any_command d = ((looks_rule_command d), ((looks_let_command d), ((looks_operation_command d), ((looks_computation_command d), ((looks_extensionality_command d), (looks_show_command d))))))

pub looks_commands : (d : ℕ) → Looks (level (suc d)) commands
unfolding any_body any_command any_conclusion binder commands computation_command equation_body equation_type extensionality_command let_command operation_command premise rule_command show_command term_body term_conclusion type_body type_conclusion is_word is_mark is_name begins_atom begins_pattern_atom is_no_end
looks_commands d = ((looks_any_command d), refl, rule_takes (suc d) any_command proper_any_command refl)

pub commands_local : (d : ℕ) → IsLocal (read (level (suc d)) commands)
commands_local d = local (level (suc d)) (parts_local (suc d)) commands (looks_commands d)
