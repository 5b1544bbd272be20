-- Worked item lists: the definitions compute their verdicts.
use Rattle.std.proofs.Common.{◌≡◌, ℕ, List, [], ◌∷◌, ◌++◌, refl}
use Rattle.std.specs.Prelude.{codes}
use Rattle.ft_theory.specs.Expressions.{Expression, bound, free, symbol, meta, no_arguments, with_body, dummy, also, no_terms, act, body_or, count, put, open_at, close_at, rename, lifts, lift, pushes, push}
use Rattle.ft_theory.specs.Statements.{is_type, has_type, equal_types, equal_terms, type_goal, term_goal, type_equation_goal, term_equation_goal, plain, abstracted}
use Rattle.ft_items.specs.Sets.{met, var}
use Rattle.ft_items.specs.Item.{by_var, by_generic, by_meta, by_metacong, by_abs, by_subst, by_substeq, by_refl, by_sym, by_trans, by_conv, by_conveq, by_left, by_right, by_typeof, by_domain, by_boundary, by_widen, by_btype, by_bterm, by_beqty, by_beqtm, by_rule, by_rulewith, by_inst, by_cong, by_convprem, by_convback, by_arg, by_natural, by_metainst, Item, variable, metavariable, rule, shown}
use Rattle.ft_items.specs.Worked.{states, Nat, O, S, zero_file}
use Rattle.ft_items.specs.Good.{Reference, Kind, Premise, Conclusion, Set, Named, Number, Loose, Verdict, Accepted, Rejected, verdict}

abbrev accepted : ℕ → ℕ → ℕ → ℕ → Verdict
accepted r e s l = Accepted (record { rules = r; entries = e; shown = s; level = l })

-- two rules and a mark
abbrev two_rules : List Item
two_rules = zero_file []

two_rules_accepted : verdict two_rules ≡ accepted 2 4 1 1
unfolding act body_or count put open_at close_at rename lifts lift pushes push
two_rules_accepted = refl

-- the first five items
abbrev five : List Item
five = states (plain type_goal) [] by_btype
    ∷ rule (codes "Nat") [] 0
    ∷ states (plain (is_type Nat)) [] (by_rule 0 [])
    ∷ states (plain (term_goal Nat)) [] (by_bterm 1)
    ∷ rule (codes "O") [] 2
    ∷ []

by_rule_alone : verdict (five ++ (states (plain (has_type O Nat)) [] (by_rule 1 []) ∷ shown 3 ∷ [])) ≡ accepted 2 4 1 5
unfolding act body_or count put open_at close_at rename lifts lift pushes push
by_rule_alone = refl

wrong_set : verdict (five ++ (states (plain (has_type O Nat)) (var 0 ∷ []) (by_rulewith 1 2 []) ∷ shown 3 ∷ [])) ≡ Rejected 5 Set
unfolding act body_or count put open_at close_at rename lifts lift pushes push
wrong_set = refl

wrong_conclusion : verdict (five ++ (states (plain (has_type Nat Nat)) [] (by_rulewith 1 2 []) ∷ [])) ≡ Rejected 5 Conclusion
unfolding act body_or count put open_at close_at rename lifts lift pushes push
wrong_conclusion = refl

wrong_premise : verdict (five ++ (states (plain (has_type O Nat)) [] (by_rulewith 0 2 []) ∷ [])) ≡ Rejected 5 Premise
unfolding act body_or count put open_at close_at rename lifts lift pushes push
wrong_premise = refl

-- a boundary where a thesis belongs, before any condition
wrong_kind : verdict (five ++ (states (plain (equal_types Nat Nat)) [] (by_refl 2) ∷ [])) ≡ Rejected 5 Kind
unfolding act body_or count put open_at close_at rename lifts lift pushes push
wrong_kind = refl

-- a thesis stated for a boundary step
stated_kind : verdict (five ++ (states (plain (is_type Nat)) [] by_btype ∷ [])) ≡ Rejected 5 Kind
unfolding act body_or count put open_at close_at rename lifts lift pushes push
stated_kind = refl

no_such_entry : verdict (five ++ (states (plain (equal_types Nat Nat)) [] (by_refl 3) ∷ [])) ≡ Rejected 5 Reference
unfolding act body_or count put open_at close_at rename lifts lift pushes push
no_such_entry = refl

name_again : verdict (five ++ (rule (codes "O") [] 9 ∷ [])) ≡ Rejected 5 Named
unfolding act body_or count put open_at close_at rename lifts lift pushes push
name_again = refl

-- a metavariable instantiated
abbrev with_met : List Item
with_met = two_rules ++ (metavariable (codes "n") 2 ∷ states (plain (has_type (meta 0 no_terms) Nat)) (met 0 ∷ []) (by_generic 0) ∷ [])

instance_accepted : verdict (with_met ++ (states (plain (has_type O Nat)) [] (by_metainst 4 (0 ∷ []) (3 ∷ [])) ∷ [])) ≡ accepted 2 6 1 5
unfolding act body_or count put open_at close_at rename lifts lift pushes push
instance_accepted = refl

instance_premise : verdict (with_met ++ (states (plain (has_type O Nat)) [] (by_metainst 4 (0 ∷ []) (1 ∷ [])) ∷ [])) ≡ Rejected 9 Premise
unfolding act body_or count put open_at close_at rename lifts lift pushes push
instance_premise = refl

instance_set : verdict (with_met ++ (states (plain (has_type O Nat)) (met 0 ∷ []) (by_metainst 4 (0 ∷ []) (3 ∷ [])) ∷ [])) ≡ Rejected 9 Set
unfolding act body_or count put open_at close_at rename lifts lift pushes push
instance_set = refl

-- a rule with a premise, a variable, and one entry for most steps
abbrev many : List Item
many = five ++ (states (plain (has_type O Nat)) [] (by_rulewith 1 2 [])
    ∷ metavariable (codes "n") 2
    ∷ rule (codes "S") (0 ∷ []) 2
    ∷ states (plain (has_type (S O) Nat)) [] (by_rule 2 (3 ∷ []))
    ∷ states (plain (equal_terms O O Nat)) [] (by_refl 3)
    ∷ states (plain (equal_terms (S O) (S O) Nat)) [] (by_cong 2 (3 ∷ []) (5 ∷ []))
    ∷ states (plain (has_type O Nat)) [] (by_arg 1 4)
    ∷ states (plain (equal_types Nat Nat)) [] (by_natural 4)
    ∷ variable 7 (codes "x") 1
    ∷ states (plain (has_type (free 7) Nat)) (var 7 ∷ []) (by_var 7)
    ∷ states (plain (has_type (S (free 7)) Nat)) (var 7 ∷ []) (by_rule 2 (9 ∷ []))
    ∷ states (abstracted Nat (plain (has_type (S (bound 0)) Nat))) [] (by_abs 7 10)
    ∷ states (plain (has_type (S O) Nat)) [] (by_subst 11 3)
    ∷ states (plain (equal_terms (S O) (S O) Nat)) [] (by_substeq 11 5)
    ∷ states (abstracted Nat (plain (equal_terms (S (bound 0)) (S (bound 0)) Nat))) [] (by_refl 11)
    ∷ states (plain (term_goal Nat)) [] (by_inst 2 [])
    ∷ states (plain (term_goal Nat)) [] (by_inst 2 (3 ∷ []))
    ∷ states (plain (has_type O Nat)) [] (by_convprem 2 [] [] 3)
    ∷ states (plain (has_type O Nat)) [] (by_convback 2 [] [] 3)
    ∷ states (plain (has_type (meta 0 no_terms) Nat)) (met 0 ∷ []) (by_generic 0)
    ∷ states (plain (has_type (meta 0 no_terms) Nat)) (met 0 ∷ []) (by_meta 0 [])
    ∷ states (plain (equal_terms (meta 0 no_terms) (meta 0 no_terms) Nat)) (met 0 ∷ []) (by_metacong 0 [])
    ∷ states (plain (equal_terms O O Nat)) [] (by_sym 5)
    ∷ states (plain (equal_terms O O Nat)) [] (by_trans 5 22)
    ∷ states (plain (has_type O Nat)) [] (by_conv 3 8)
    ∷ states (plain (equal_terms O O Nat)) [] (by_conveq 5 8)
    ∷ states (plain (has_type O Nat)) [] (by_left 5)
    ∷ states (plain (has_type O Nat)) [] (by_right 5)
    ∷ states (plain (is_type Nat)) [] (by_typeof 2)
    ∷ states (plain (is_type Nat)) [] (by_domain 11)
    ∷ states (abstracted Nat (plain (term_goal Nat))) [] (by_boundary 11)
    ∷ states (plain (has_type (meta 0 no_terms) Nat)) (met 0 ∷ var 7 ∷ []) (by_widen 20 9)
    ∷ states (plain (type_equation_goal Nat Nat)) [] (by_beqty 1 1)
    ∷ states (plain (term_equation_goal O (S O) Nat)) [] (by_beqtm 1 3 4)
    ∷ [])

many_accepted : verdict many ≡ accepted 3 34 0 7
unfolding act body_or count put open_at close_at rename lifts lift pushes push
many_accepted = refl

-- a variable whose type rests on another one keeps that one from being abstracted
abbrev dependent : List Item
dependent = five ++ (metavariable (codes "n") 2
    ∷ rule (codes "Vec") (0 ∷ []) 0
    ∷ variable 7 (codes "x") 1
    ∷ states (plain (has_type (free 7) Nat)) (var 7 ∷ []) (by_var 7)
    ∷ states (plain (is_type (symbol 2 (with_body 0 (free 7) no_arguments)))) (var 7 ∷ []) (by_rule 2 (3 ∷ []))
    ∷ variable 8 (codes "y") 4
    ∷ states (plain (has_type (free 8) (symbol 2 (with_body 0 (free 7) no_arguments)))) (var 7 ∷ var 8 ∷ []) (by_var 8)
    ∷ [])

dependent_premise : verdict (dependent ++ (states (abstracted Nat (plain (has_type (free 8) (symbol 2 (with_body 0 (bound 0) no_arguments))))) (var 8 ∷ []) (by_abs 7 5) ∷ [])) ≡ Rejected 12 Premise
unfolding act body_or count put open_at close_at rename lifts lift pushes push
dependent_premise = refl

-- the other one goes first
dependent_in_order : verdict (dependent ++ (states (abstracted (symbol 2 (with_body 0 (free 7) no_arguments)) (plain (has_type (bound 0) (symbol 2 (with_body 0 (free 7) no_arguments))))) (var 7 ∷ []) (by_abs 8 5)
    ∷ states (abstracted Nat (abstracted (symbol 2 (with_body 0 (bound 0) no_arguments)) (plain (has_type (bound 0) (symbol 2 (with_body 0 (bound 1) no_arguments)))))) [] (by_abs 7 6) ∷ [])) ≡ accepted 3 8 0 1
unfolding act body_or count put open_at close_at rename lifts lift pushes push
dependent_in_order = refl

number_again : verdict (dependent ++ (variable 8 (codes "z") 99 ∷ [])) ≡ Rejected 12 Number
unfolding act body_or count put open_at close_at rename lifts lift pushes push
number_again = refl

loose_metavariable : verdict (dependent ++ (states (plain (term_goal (symbol 2 (with_body 0 (free 7) no_arguments)))) (var 7 ∷ []) (by_bterm 4) ∷ metavariable (codes "z") 6 ∷ [])) ≡ Rejected 13 Loose
unfolding act body_or count put open_at close_at rename lifts lift pushes push
loose_metavariable = refl

-- a metavariable stands twice
twice_kind : verdict (dependent ++ (rule (codes "z") (0 ∷ 0 ∷ []) 0 ∷ [])) ≡ Rejected 12 Kind
unfolding act body_or count put open_at close_at rename lifts lift pushes push
twice_kind = refl

-- an equation premise: its argument is a dummy, and must be given
abbrev same : Expression
same = symbol 3 (dummy 0 no_arguments)

abbrev with_equation : List Item
with_equation = five ++ (states (plain (has_type O Nat)) [] (by_rulewith 1 2 [])
    ∷ states (plain (type_equation_goal Nat Nat)) [] (by_beqty 1 1)
    ∷ metavariable (codes "h") 4
    ∷ rule (codes "r") (0 ∷ []) 4
    ∷ rule (codes "t") (0 ∷ []) 2
    ∷ states (plain (equal_types Nat Nat)) [] (by_refl 1)
    ∷ states (plain (equal_types Nat Nat)) [] (by_rule 2 (5 ∷ []))
    ∷ states (plain (has_type same Nat)) [] (by_rule 3 (5 ∷ []))
    ∷ states (plain (equal_types Nat Nat)) [] (by_arg 1 7)
    ∷ states (plain (equal_terms same same Nat)) [] (by_cong 3 (5 ∷ []) [])
    ∷ states (plain (equal_types Nat Nat)) (met 0 ∷ []) (by_generic 0)
    ∷ [])

equation_accepted : verdict with_equation ≡ accepted 4 11 0 7
unfolding act body_or count put open_at close_at rename lifts lift pushes push
equation_accepted = refl

equation_premise : verdict (with_equation ++ (states (plain (has_type same Nat)) [] (by_rule 3 (3 ∷ [])) ∷ [])) ≡ Rejected 16 Premise
unfolding act body_or count put open_at close_at rename lifts lift pushes push
equation_premise = refl

equation_missing : verdict (with_equation ++ (states (plain (has_type same Nat)) [] (by_rule 3 []) ∷ [])) ≡ Rejected 16 Premise
unfolding act body_or count put open_at close_at rename lifts lift pushes push
equation_missing = refl

-- a premise under a domain that mentions an earlier premise
abbrev with_pi : List Item
with_pi = five ++ (metavariable (codes "A") 0
    ∷ states (plain (is_type (meta 0 no_terms))) (met 0 ∷ []) (by_generic 0)
    ∷ variable 4 (codes "x") 3
    ∷ states (abstracted (meta 0 no_terms) (plain type_goal)) (met 0 ∷ []) (by_abs 4 0)
    ∷ metavariable (codes "B") 4
    ∷ rule (codes "Pi") (0 ∷ 1 ∷ []) 0
    ∷ variable 9 (codes "n") 1
    ∷ states (abstracted Nat (plain (is_type Nat))) [] (by_abs 9 1)
    ∷ states (plain (is_type (symbol 2 (with_body 0 Nat (with_body 1 Nat no_arguments))))) [] (by_rule 2 (1 ∷ 5 ∷ []))
    ∷ states (abstracted Nat (plain type_goal)) [] (by_inst 2 (1 ∷ []))
    ∷ states (abstracted (meta 0 no_terms) (plain (is_type (meta 1 (also (bound 0) no_terms))))) (met 0 ∷ met 1 ∷ []) (by_generic 1)
    ∷ states (abstracted Nat (plain (is_type Nat))) [] (by_metainst 8 (0 ∷ 1 ∷ []) (1 ∷ 5 ∷ []))
    ∷ [])

pi_accepted : verdict with_pi ≡ accepted 3 10 0 5
unfolding act body_or count put open_at close_at rename lifts lift pushes push
pi_accepted = refl

-- the premises in the other order
pi_loose : verdict (with_pi ++ (rule (codes "z") (1 ∷ 0 ∷ []) 0 ∷ [])) ≡ Rejected 17 Loose
unfolding act body_or count put open_at close_at rename lifts lift pushes push
pi_loose = refl
