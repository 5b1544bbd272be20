-- The checks of each call of the nucleus, in the order of its refusals. A call is a step with what it names, and what it gives
-- is that step's row; only the refusals stand here.
use Rattle.std.specs.Prelude.{ℕ, zero, Bool, true, false, cond, nat_eq, nat_lt, nat_le, not, ◌&&◌, Option, Some, None, is_some, List, [], ◌∷◌, ◌++◌, length}
use Rattle.ft_theory.specs.Expressions.{Expression, bound, free, symbol, meta, Arguments}
use Rattle.ft_theory.specs.Statements.{is_type, has_type, equal_types, equal_terms, Statement, plain, abstracted, domain_count}
use Rattle.ft_theory.specs.Rules.{look_up, Rule, conclusion_at}
use Rattle.ft_items.specs.Sets.{Atom, met, var}
use Rattle.ft_items.specs.Equal.{is_object_goal, is_object, has_head, heads, right_heads}
use Rattle.ft_items.specs.Item.{by_var, by_generic, by_meta, by_metacong, by_abs, by_subst, by_substeq, by_refl, by_sym, by_trans, by_conv, by_conveq, by_left, by_right, by_typeof, by_domain, by_boundary, by_widen, by_btype, by_bterm, by_beqty, by_beqtm, by_rule, by_rulewith, by_inst, by_cong, by_convprem, by_convback, by_arg, by_natural, by_metainst}
use Rattle.ft_items.specs.Store.{Annotation, Declarations, Resolved, premises_of}
use Rattle.ft_items.specs.Rows.{statements, bounds, rests_on, substitution, equal_substitution, symmetry, left_side, right_side, type_part, under_domains, first_domain, term_boundary, type_equation_boundary, applied_meta, meta_congruence, at_arguments, rule_instance, rule_instance_with, boundary_after, boundary_instance, congruence_of, first_premises, arguments_of, from_one, argument, natural_type, instantiated}
use Rattle.ft_reference.specs.Refusals.{WrongForm, NotAbstracted, DependentVariable, ArgumentCount, NotApplication, Check, asks, forms, forms_statement, forms_result, count_check, none_check}
use Rattle.ft_reference.specs.Compare.{type_check, side_check, boundary_checks, fit_checks, argument_checks, head_count, equation_checks, term_checks, pair_checks}

-- Substitution, equality and conversion.

-- the first other variable of the set whose annotation rests on v; in a set it is the least
abbrev pub first_dependent : List (ℕ × Annotation) → ℕ → List Atom → Option ℕ
first_dependent G v [] = None
first_dependent G v (met m ∷ S) = first_dependent G v S
first_dependent G v (var w ∷ S) = cond (not (nat_eq w v) && rests_on v (look_up G w)) (Some w) (first_dependent G v S)

-- a first domain, a plain term, of that domain's type
abbrev pub substitution_checks : Statement → Statement → List Check
substitution_checks (plain c) y = asks false NotAbstracted ∷ []
substitution_checks (abstracted A x) (plain (has_type t B)) = type_check zero B A ∷ forms_result (substitution (abstracted A x) (plain (has_type t B)))
substitution_checks (abstracted A x) y = asks false WrongForm ∷ []

-- a first domain, over a type or a term; a plain term equation, at that domain
abbrev pub equal_substitution_checks : Statement → Statement → List Check
equal_substitution_checks (plain c) y = asks false NotAbstracted ∷ []
equal_substitution_checks (abstracted A x) (plain (equal_terms s t B)) =
    asks (has_head x) WrongForm ∷ type_check zero B A ∷ forms_result (equal_substitution (abstracted A x) (plain (equal_terms s t B)))
equal_substitution_checks (abstracted A x) y = asks false WrongForm ∷ []

-- two plain equations of one form; the second is at the type of the first, and starts where the first ends
abbrev pub transitivity_checks : Statement → Statement → List Check
transitivity_checks (plain (equal_types A B)) (plain (equal_types C D)) = side_check zero C B ∷ []
transitivity_checks (plain (equal_terms s t A)) (plain (equal_terms u v B)) = type_check zero B A ∷ side_check zero u t ∷ []
transitivity_checks x y = asks false WrongForm ∷ []

-- a plain term and a plain type equation, which starts at the term's type
abbrev pub conversion_checks : Statement → Statement → List Check
conversion_checks (plain (has_type t A)) (plain (equal_types B C)) = type_check zero A B ∷ []
conversion_checks x y = asks false WrongForm ∷ []

-- the same for a plain term equation
abbrev pub equation_conversion_checks : Statement → Statement → List Check
equation_conversion_checks (plain (equal_terms s t A)) (plain (equal_types B C)) = type_check zero A B ∷ []
equation_conversion_checks x y = asks false WrongForm ∷ []

-- a plain type and two plain terms; the first term is of that type, and then the second
abbrev pub term_equation_checks : Statement → Statement → Statement → List Check
term_equation_checks (plain (is_type A)) (plain (has_type s B)) (plain (has_type t C)) = type_check zero B A ∷ type_check zero C A ∷ []
term_equation_checks x y z = asks false WrongForm ∷ []

-- Rules at arguments.

-- the theses are as many as the premises, and arguments for them
abbrev pub all_argument_checks : List (ℕ × Statement) → List Statement → List Check
all_argument_checks ps xs = count_check (length xs) (length ps) ∷ argument_checks (at_arguments ps (heads xs)) ps xs

-- the theses are arguments for the first premises
abbrev pub first_argument_checks : Rule → List Statement → List Check
first_argument_checks R xs = argument_checks (at_arguments (first_premises R xs) (heads xs)) (first_premises R xs) xs

-- one equation for each thesis with a head, which starts at that head
abbrev pub all_equation_checks : List Statement → List Statement → List Check
all_equation_checks xs es = count_check (length es) (head_count xs) ∷ equation_checks xs es

-- arguments; the rule at them
abbrev pub rule_checks : ℕ → Rule → List Statement → List Check
rule_checks r R xs = all_argument_checks R.premises xs ++ forms_result (rule_instance r R xs)

-- arguments; the conclusion's boundary at them, which b is to be; the rule at them
abbrev pub rule_with_checks : ℕ → Rule → Statement → List Statement → List Check
rule_with_checks r R b xs =
    all_argument_checks R.premises xs
    ++ (forms_statement (plain (conclusion_at R (heads xs))) ++ (boundary_checks b (plain (conclusion_at R (heads xs))) ++ forms_result (rule_instance_with r R b xs)))

-- no more theses than premises; arguments for the first premises; the next boundary
abbrev pub instance_checks : Rule → List Statement → List Check
instance_checks R xs =
    asks (nat_le (length xs) (length R.premises)) (ArgumentCount (length xs) (length R.premises))
    ∷ (first_argument_checks R xs ++ forms_result (boundary_instance R xs))

-- a symbol; all that the rule at the arguments checks; equations; both sides
abbrev pub congruence_checks : ℕ → Rule → List Statement → List Statement → List Check
congruence_checks r R xs es = asks (is_object_goal R.conclusion) WrongForm ∷ (rule_checks r R xs ++ (all_equation_checks xs es ++ forms_result (congruence_of r R xs es)))

-- fewer theses than premises; arguments for the first premises; equations
abbrev pub equal_argument_checks : Rule → List Statement → List Statement → List Check
equal_argument_checks R xs es =
    asks (nat_lt (length xs) (length R.premises)) (ArgumentCount (length xs) (length R.premises))
    ∷ (first_argument_checks R xs ++ all_equation_checks xs es)

-- the next premise's boundary at a, which the thesis is to fit; that boundary at c
abbrev pub moved_checks : Rule → List Statement → Arguments → Arguments → Statement → List Check
moved_checks R xs a c y = forms_statement (boundary_after R xs a) ++ (fit_checks y (boundary_after R xs a) ++ forms_statement (boundary_after R xs c))

-- all these, and the argument that is moved from the arguments to the right sides
abbrev pub premise_checks : Rule → List Statement → List Statement → Statement → List Check
premise_checks R xs es y = equal_argument_checks R xs es ++ moved_checks R xs (heads xs) (right_heads xs es) y

-- the same from the right sides to the arguments
abbrev pub premise_back_checks : Rule → List Statement → List Statement → Statement → List Check
premise_back_checks R xs es y = equal_argument_checks R xs es ++ moved_checks R xs (right_heads xs es) (heads xs) y

-- Metavariables.

-- an application that fills an object boundary is formed
abbrev pub forms_application : Bool → Expression → List Check
forms_application true e = forms e ∷ []
forms_application false e = []

-- one plain term for each domain, of its type; the metavariable at them
abbrev pub meta_checks : ℕ → Statement → List Statement → List Check
meta_checks m b xs = count_check (length xs) (domain_count b) ∷ (term_checks b xs ++ forms_result (applied_meta m b xs))

-- an object boundary; one plain term equation for each domain; both sides
abbrev pub meta_congruence_checks : ℕ → Statement → List Statement → List Check
meta_congruence_checks m b es = asks (is_object b) WrongForm ∷ count_check (length es) (domain_count b) ∷ (pair_checks b es ++ forms_result (meta_congruence m b es))

-- What an application tells.

-- the test that an expression has arguments
abbrev pub is_application : Expression → Bool
is_application (bound i) = false
is_application (free v) = false
is_application (symbol r a) = true
is_application (meta m a) = true

-- an application with an i-th argument, from 1; that argument
abbrev pub place_checks : Declarations → ℕ → Expression → Statement → List Check
place_checks W i e x =
    asks (is_application e) NotApplication
    ∷ asks (is_some (from_one (arguments_of W e) i)) (ArgumentCount i (length (arguments_of W e)))
    ∷ forms_result (argument W i x)

-- the same for the expression of a plain type or term
abbrev pub application_checks : Declarations → ℕ → Statement → List Check
application_checks W i (plain (is_type e)) = place_checks W i e (plain (is_type e))
application_checks W i (plain (has_type e A)) = place_checks W i e (plain (has_type e A))
application_checks W i x = asks false WrongForm ∷ []

-- the type by declaration is formed; an expression without one has a wrong form, which no term over the declarations is
abbrev pub forms_natural : Option Expression → List Check
forms_natural None = asks false WrongForm ∷ []
forms_natural (Some N) = forms N ∷ []

-- a plain term; its type by declaration
abbrev pub natural_checks : Declarations → Statement → List Check
natural_checks W (plain (has_type e A)) = forms_natural (natural_type W e)
natural_checks W x = asks false WrongForm ∷ []

-- The checks of each call, in order. Steps without checks are never refused.
abbrev pub checks : Declarations → Resolved → List Check
checks W (by_var v) = []
checks W (by_generic m) = forms_application (is_object m.1.boundary) (meta m.0 (bounds (domain_count m.1.boundary)))
checks W (by_meta m ps) = meta_checks m.0 m.1.boundary (statements ps)
checks W (by_metacong m es) = meta_congruence_checks m.0 m.1.boundary (statements es)
checks W (by_abs v p) = none_check DependentVariable (first_dependent W.variables v.0 p.set)
checks W (by_subst p t) = substitution_checks p.statement t.statement
checks W (by_substeq p e) = equal_substitution_checks p.statement e.statement
checks W (by_refl p) = asks (has_head p.statement) WrongForm ∷ []
checks W (by_sym p) = asks (is_some (symmetry p.statement)) WrongForm ∷ []
checks W (by_trans p q) = transitivity_checks p.statement q.statement
checks W (by_conv p e) = conversion_checks p.statement e.statement
checks W (by_conveq p e) = equation_conversion_checks p.statement e.statement
checks W (by_left p) = asks (is_some (under_domains left_side p.statement)) WrongForm ∷ []
checks W (by_right p) = asks (is_some (under_domains right_side p.statement)) WrongForm ∷ []
checks W (by_typeof p) = asks (is_some (under_domains type_part p.statement)) WrongForm ∷ []
checks W (by_domain p) = asks (is_some (first_domain p.statement)) NotAbstracted ∷ []
checks W (by_boundary p) = []
checks W (by_widen p q) = []
checks W by_btype = []
checks W (by_bterm p) = asks (is_some (term_boundary p.statement)) WrongForm ∷ []
checks W (by_beqty p q) = asks (is_some (type_equation_boundary p.statement q.statement)) WrongForm ∷ []
checks W (by_beqtm p s t) = term_equation_checks p.statement s.statement t.statement
checks W (by_rule r ps) = rule_checks r.0 r.1 (statements ps)
checks W (by_rulewith r b ps) = rule_with_checks r.0 r.1 b.statement (statements ps)
checks W (by_inst r ps) = instance_checks r.1 (statements ps)
checks W (by_cong r ps es) = congruence_checks r.0 r.1 (statements ps) (statements es)
checks W (by_convprem r ps es q) = premise_checks r.1 (statements ps) (statements es) q.statement
checks W (by_convback r ps es q) = premise_back_checks r.1 (statements ps) (statements es) q.statement
checks W (by_arg i p) = application_checks W i p.statement
checks W (by_natural p) = natural_checks W p.statement
checks W (by_metainst p ms qs) = all_argument_checks (premises_of ms) (statements qs) ++ forms_result (instantiated ms p (statements qs))
