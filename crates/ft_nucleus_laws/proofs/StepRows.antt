-- What the checks of a call ask is what its row asks: they hold exactly where the step has a conclusion.
use Rattle.std.proofs.Common.{◌≡◌, ℕ, zero, suc, Bool, true, false, cond, nat_eq, nat_lt, nat_le, ◌&&◌, not, Option, Some, None, List, [], ◌∷◌, ◌++◌, length, refl, sym, ap, ap₂, ◌∙◌, arith}
use Rattle.std.proofs.lemmas.Bool.{ltb-true, le-leb, and_parts, not-true}
use Rattle.std.specs.Prelude.{is_some, take}
use Rattle.std.proofs.Math.Dec.{eqb-suc-zero, eqb-suc-suc, leb-zero, leb-suc-zero, leb-suc-suc}
use Rattle.std.proofs.Math.Bool.{and-true}
use Rattle.ft_common.proofs.Options.{is_some-option_map}
use Rattle.ft_theory.specs.Expressions.{Expression, bound, free, symbol, meta, Arguments}
use Rattle.ft_theory.specs.Statements.{is_type, has_type, equal_types, equal_terms, Statement, plain, abstracted, domain_count}
use Rattle.ft_theory.specs.Rules.{look_up, Rule, conclusion_at}
use Rattle.ft_items.specs.Sets.{Atom, met, var, is_within}
use Rattle.ft_items.specs.Equal.{equal_expressions, equal_statements, is_thesis, is_object_goal, is_object, has_head, fits, heads, start_all, right_heads, typed, paired}
use Rattle.ft_items.specs.Item.{by_var, by_generic, by_meta, by_metacong, by_abs, by_subst, by_substeq, by_refl, by_sym, by_trans, by_conv, by_conveq, by_left, by_right, by_typeof, by_domain, by_boundary, by_widen, by_btype, by_bterm, by_beqty, by_beqtm, by_rule, by_rulewith, by_inst, by_cong, by_convprem, by_convback, by_arg, by_natural, by_metainst}
use Rattle.ft_items.specs.Store.{Assertion, Annotation, Declared, Declarations, Resolved, premises_of}
use Rattle.ft_items.specs.Rows.{when, statements, bounds, applied_meta, meta_congruence, rests_on, depends, substitution, equal_substitution, symmetry, transitivity, conversion, equation_conversion, left_side, right_side, type_part, under_domains, first_domain, term_boundary, type_equation_boundary, term_equation_boundary, at_arguments, are_arguments, rule_instance, rule_instance_with, first_premises, boundary_after, boundary_instance, congruence_of, moved, arguments_of, from_one, argument, natural_type, natural, atoms, differ, on_earlier, instantiated, conclusion, theses, boundaries}
use Rattle.ft_items.specs.Good.{all_theses, all_boundaries, of_kind}
use Rattle.ft_reference.specs.Refusals.{DependentVariable, forms_statement, forms_result, none_check, expressions}
use Rattle.ft_reference.specs.Compare.{fit_checks, boundary_checks, term_checks, pair_checks}
use Rattle.ft_reference.specs.Checks.{first_dependent, substitution_checks, equal_substitution_checks, transitivity_checks, conversion_checks, equation_conversion_checks, term_equation_checks, all_argument_checks, first_argument_checks, all_equation_checks, rule_checks, rule_with_checks, instance_checks, congruence_checks, moved_checks, equal_argument_checks, forms_application, meta_checks, meta_congruence_checks, place_checks, application_checks, forms_natural, natural_checks, checks}
use Rattle.ft_reference.specs.Calls.{instance_allowed, may_be_made}
use Rattle.ft_nucleus_laws.proofs.Lists.{and_assoc, asked, asked_append, asked_forms, asked_result, before_result, after_forms}
use Rattle.ft_nucleus_laws.proofs.Tests.{boundary_asked, fit_asked, Theses, arguments_asked, equations_asked, terms_asked, pairs_asked}
use Rattle.ft_sound.proofs.EqualLemmas.{equal_back}

-- options
when_some : {A : Type 0} (b : Bool) (x : A) → is_some (when b x) ≡ b
when_some true x = refl
when_some false x = refl

-- a test, then a result
asked_when : (b : Bool) (x : Statement) → (b && asked (forms_result (when b x))) ≡ is_some (when b x)
asked_when b x = ap (λ z. b && z) (asked_result (when b x)) ∙ and-true b ∙ sym (when_some b x)

-- the kinds of what is named
theses_of : (ps : List Assertion) → all_theses ps ≡ true → Theses (statements ps)
theses_of [] h = tt
theses_of (p ∷ ps) h =
    let k : (is_thesis p.statement ≡ true) × (all_theses ps ≡ true) = and_parts (is_thesis p.statement) (all_theses ps) h in
    (k.0, theses_of ps k.1)

theses_append : (ps qs : List Assertion) → all_theses (ps ++ qs) ≡ true → (all_theses ps ≡ true) × (all_theses qs ≡ true)
theses_append [] qs h = (refl, h)
theses_append (p ∷ ps) qs h =
    let k : (is_thesis p.statement ≡ true) × (all_theses (ps ++ qs) ≡ true) = and_parts (is_thesis p.statement) (all_theses (ps ++ qs)) h in
    let r : (all_theses ps ≡ true) × (all_theses qs ≡ true) = theses_append ps qs k.1 in
    (ap₂ (λ y z. y && z) k.0 r.0, r.1)

-- metavariables
application_asked : (b : Bool) (e : Expression) → asked (forms_application b e) ≡ true
application_asked true e = refl
application_asked false e = refl

meta_asked : (m : ℕ) (b : Statement) (xs : List Statement) → asked (meta_checks m b xs) ≡ is_some (applied_meta m b xs)
meta_asked m b xs = ap (λ z. nat_eq (length xs) (domain_count b) && z) (before_result (term_checks b xs) (applied_meta m b xs)) ∙ terms_asked b xs ∙ sym (when_some (typed b xs) _)

meta_congruence_asked : (m : ℕ) (b : Statement) (es : List Statement) → asked (meta_congruence_checks m b es) ≡ is_some (meta_congruence m b es)
meta_congruence_asked m b es =
    ap (λ z. is_object b && z) (ap (λ z. nat_eq (length es) (domain_count b) && z) (before_result (pair_checks b es) (meta_congruence m b es)) ∙ pairs_asked b es)
    ∙ sym (when_some (is_object b && paired b es) _)

-- abstraction
dependents_asked : (G : List (ℕ × Annotation)) (v : ℕ) (S : List Atom) → asked (none_check DependentVariable (first_dependent G v S)) ≡ not (depends G v S)
dependents_asked G v [] = refl
dependents_asked G v (met m ∷ S) = dependents_asked G v S
dependents_asked G v (var w ∷ S) = go (not (nat_eq w v) && rests_on v (look_up G w)) (dependents_asked G v S)
  where
    go : (b : Bool) → asked (none_check DependentVariable (first_dependent G v S)) ≡ not (depends G v S) → asked (none_check DependentVariable (cond b (Some w) (first_dependent G v S))) ≡ not (cond b true (depends G v S))
    go true ih = refl
    go false ih = ih

-- substitution, equality and conversion
substitution_asked : (x y : Statement) → asked (substitution_checks x y) ≡ is_some (substitution x y)
substitution_asked (plain c) y = refl
substitution_asked (abstracted A x) (plain (has_type t B)) =
    ap (λ z. z && asked (forms_result (substitution (abstracted A x) (plain (has_type t B))))) (equal_back B A) ∙ asked_when (equal_expressions A B) _
substitution_asked (abstracted A x) y = refl

equal_substitution_asked : (x y : Statement) → asked (equal_substitution_checks x y) ≡ is_some (equal_substitution x y)
equal_substitution_asked (plain c) y = refl
equal_substitution_asked (abstracted A x) (plain (equal_terms s t B)) =
    ap (λ z. has_head x && (z && asked (forms_result (equal_substitution (abstracted A x) (plain (equal_terms s t B)))))) (equal_back B A)
    ∙ and_assoc (has_head x) (equal_expressions A B) (asked (forms_result (equal_substitution (abstracted A x) (plain (equal_terms s t B)))))
    ∙ asked_when (has_head x && equal_expressions A B) _
equal_substitution_asked (abstracted A x) y = refl

transitivity_asked : (x y : Statement) → asked (transitivity_checks x y) ≡ is_some (transitivity x y)
transitivity_asked (plain (equal_types A B)) (plain (equal_types C D)) = and-true (equal_expressions C B) ∙ equal_back C B ∙ sym (when_some (equal_expressions B C) _)
transitivity_asked (plain (equal_terms s t A)) (plain (equal_terms u v B)) =
    ap (λ z. equal_expressions B A && z) (and-true (equal_expressions u t))
    ∙ ap₂ (λ y z. y && z) (equal_back B A) (equal_back u t)
    ∙ sym (when_some (equal_expressions A B && equal_expressions t u) _)
transitivity_asked x y = refl

conversion_asked : (x y : Statement) → asked (conversion_checks x y) ≡ is_some (conversion x y)
conversion_asked (plain (has_type t A)) (plain (equal_types B C)) = and-true (equal_expressions A B) ∙ sym (when_some (equal_expressions A B) _)
conversion_asked x y = refl

equation_conversion_asked : (x y : Statement) → asked (equation_conversion_checks x y) ≡ is_some (equation_conversion x y)
equation_conversion_asked (plain (equal_terms s t A)) (plain (equal_types B C)) = and-true (equal_expressions A B) ∙ sym (when_some (equal_expressions A B) _)
equation_conversion_asked x y = refl

term_equation_asked : (x y z : Statement) → asked (term_equation_checks x y z) ≡ is_some (term_equation_boundary x y z)
term_equation_asked (plain (is_type A)) (plain (has_type s B)) (plain (has_type t C)) =
    ap (λ z. equal_expressions B A && z) (and-true (equal_expressions C A)) ∙ sym (when_some (equal_expressions B A && equal_expressions C A) _)
term_equation_asked x y z = refl

-- rules at arguments
all_arguments_asked : (ps : List (ℕ × Statement)) (xs : List Statement) → Theses xs → asked (all_argument_checks ps xs) ≡ are_arguments ps xs
all_arguments_asked ps xs h = arguments_asked (at_arguments ps (heads xs)) ps xs h

rule_asked : (r : ℕ) (R : Rule) (xs : List Statement) → Theses xs → asked (rule_checks r R xs) ≡ are_arguments R.premises xs
rule_asked r R xs h = before_result (all_argument_checks R.premises xs) (rule_instance r R xs) ∙ all_arguments_asked R.premises xs h

rule_with_asked : (r : ℕ) (R : Rule) (b : Statement) (xs : List Statement) → Theses xs → is_thesis b ≡ false → asked (rule_with_checks r R b xs) ≡ is_some (rule_instance_with r R b xs)
rule_with_asked r R b xs h k =
    asked_append (all_argument_checks R.premises xs) (forms_statement C ++ (boundary_checks b C ++ forms_result (rule_instance_with r R b xs)))
    ∙ ap₂ (λ y z. y && z) (all_arguments_asked R.premises xs h)
    (after_forms (expressions C) (boundary_checks b C ++ forms_result (rule_instance_with r R b xs)) ∙ before_result (boundary_checks b C) (rule_instance_with r R b xs) ∙ boundary_asked b C k)
    ∙ sym (when_some (are_arguments R.premises xs && equal_statements b C) _)
  where
    C : Statement
    C = plain (conclusion_at R (heads xs))

-- the first premises
take_count : (xs : List Statement) (ps : List (ℕ × Statement)) → nat_eq (length xs) (length (take (length xs) ps)) ≡ nat_le (length xs) (length ps)
take_count [] ps = sym (leb-zero (length ps))
take_count (x ∷ xs) [] = eqb-suc-zero (length xs) ∙ sym (leb-suc-zero (length xs))
take_count (x ∷ xs) (p ∷ ps) = eqb-suc-suc (length xs) (length (take (length xs) ps)) ∙ take_count xs ps ∙ sym (leb-suc-suc (length xs) (length ps))

first_asked : (R : Rule) (xs : List Statement) → Theses xs → (nat_le (length xs) (length R.premises) && asked (first_argument_checks R xs)) ≡ are_arguments (first_premises R xs) xs
first_asked R xs h = ap (λ z. z && asked (first_argument_checks R xs)) (sym (take_count xs R.premises)) ∙ all_arguments_asked (first_premises R xs) xs h

instance_asked : (R : Rule) (xs : List Statement) → Theses xs → asked (instance_checks R xs) ≡ is_some (boundary_instance R xs)
instance_asked R xs h =
    ap (λ z. nat_le (length xs) (length R.premises) && z) (before_result (first_argument_checks R xs) (boundary_instance R xs))
    ∙ first_asked R xs h
    ∙ sym (when_some (are_arguments (first_premises R xs) xs) _)

congruence_asked : (r : ℕ) (R : Rule) (xs es : List Statement) → Theses xs → asked (congruence_checks r R xs es) ≡ is_some (congruence_of r R xs es)
congruence_asked r R xs es h =
    ap (λ z. is_object_goal R.conclusion && z)
    (asked_append (rule_checks r R xs) (all_equation_checks xs es ++ forms_result (congruence_of r R xs es))
    ∙ ap₂ (λ y z. y && z) (rule_asked r R xs h) (before_result (all_equation_checks xs es) (congruence_of r R xs es) ∙ equations_asked xs es))
    ∙ and_assoc (is_object_goal R.conclusion) (are_arguments R.premises xs) (start_all xs es)
    ∙ sym (when_some (is_object_goal R.conclusion && are_arguments R.premises xs && start_all xs es) _)

-- arguments with equations, and an argument for the premise after them
enough : (xs : List Statement) (ps : List (ℕ × Statement)) → nat_lt (length xs) (length ps) ≡ true → nat_le (length xs) (length ps) ≡ true
enough xs ps h = le-leb (length xs) (length ps) (omega (arith, ltb-true (length xs) (length ps) h))

where_true : (b x y : Bool) → (b ≡ true → x ≡ y) → (b && x) ≡ (b && y)
where_true true x y h = h refl
where_true false x y h = refl

equal_arguments_asked : (R : Rule) (xs es : List Statement) → Theses xs
    → asked (equal_argument_checks R xs es) ≡ (nat_lt (length xs) (length R.premises) && (are_arguments (first_premises R xs) xs && start_all xs es))
equal_arguments_asked R xs es h =
    ap (λ z. nat_lt (length xs) (length R.premises) && z) (asked_append (first_argument_checks R xs) (all_equation_checks xs es))
    ∙ where_true (nat_lt (length xs) (length R.premises)) (asked (first_argument_checks R xs) && asked (all_equation_checks xs es)) (are_arguments (first_premises R xs) xs && start_all xs es)
    (λ e. ap₂ (λ u v. u && v) (ap (λ z. z && asked (first_argument_checks R xs)) (sym (enough xs R.premises e)) ∙ first_asked R xs h) (equations_asked xs es))

moved_fits : (R : Rule) (xs : List Statement) (a c : Arguments) (y : Statement) → is_thesis y ≡ true → asked (moved_checks R xs a c y) ≡ fits y (boundary_after R xs a)
moved_fits R xs a c y k =
    let x : Statement = boundary_after R xs a in
    let z : Statement = boundary_after R xs c in
    after_forms (expressions x) (fit_checks y x ++ forms_statement z)
    ∙ asked_append (fit_checks y x) (forms_statement z)
    ∙ ap₂ (λ u v. u && v) (fit_asked y x k) (asked_forms (expressions z))
    ∙ and-true (fits y x)

moved_asked : (R : Rule) (xs es : List Statement) (a c : Arguments) (y : Statement) → Theses xs → is_thesis y ≡ true
    → asked (equal_argument_checks R xs es ++ moved_checks R xs a c y) ≡ is_some (moved R xs es a c y)
moved_asked R xs es a c y h k =
    asked_append (equal_argument_checks R xs es) (moved_checks R xs a c y)
    ∙ ap₂ (λ u v. u && v) (equal_arguments_asked R xs es h) (moved_fits R xs a c y k)
    ∙ sym (and_assoc (nat_lt (length xs) (length R.premises)) (are_arguments (first_premises R xs) xs && start_all xs es) (fits y (boundary_after R xs a)))
    ∙ sym (when_some (nat_lt (length xs) (length R.premises) && (are_arguments (first_premises R xs) xs && start_all xs es && fits y (boundary_after R xs a))) _)

-- applications
no_place : (i : ℕ) → false ≡ is_some (from_one [] i)
no_place zero = refl
no_place (suc i) = refl

with_result : (b : Bool) (o : Option Statement) → (b && asked (forms_result o)) ≡ b
with_result b o = ap (λ z. b && z) (asked_result o) ∙ and-true b

place_asked : (W : Declarations) (i : ℕ) (e : Expression) (x : Statement) → asked (place_checks W i e x) ≡ is_some (from_one (arguments_of W e) i)
place_asked W i (bound j) x = no_place i
place_asked W i (free v) x = no_place i
place_asked W i (symbol r a) x = with_result (is_some (from_one (arguments_of W (symbol r a)) i)) (argument W i x)
place_asked W i (meta m a) x = with_result (is_some (from_one (arguments_of W (meta m a)) i)) (argument W i x)

argument_asked : (W : Declarations) (i : ℕ) (x : Statement) → asked (application_checks W i x) ≡ is_some (argument W i x)
argument_asked W i (plain (is_type e)) = place_asked W i e (plain (is_type e))
argument_asked W i (plain (has_type e A)) = place_asked W i e (plain (has_type e A))
argument_asked W i x = refl

natural_expression : (o : Option Expression) → asked (forms_natural o) ≡ is_some o
natural_expression None = refl
natural_expression (Some N) = refl

natural_asked : (W : Declarations) (x : Statement) → asked (natural_checks W x) ≡ is_some (natural W x)
natural_asked W (plain (has_type e A)) = natural_expression (natural_type W e) ∙ sym (is_some-option_map (λ N. plain (equal_types N A)) (natural_type W e))
natural_asked W x = refl

-- instances of entries
instantiated_asked : (ms : List (ℕ × Declared)) (p : Assertion) (xs : List Statement) → Theses xs → (differ (atoms ms) && on_earlier [] ms && is_within p.set (atoms ms)) ≡ true
    → asked (all_argument_checks (premises_of ms) xs ++ forms_result (instantiated ms p xs)) ≡ is_some (instantiated ms p xs)
instantiated_asked ms p xs h k =
    before_result (all_argument_checks (premises_of ms) xs) (instantiated ms p xs)
    ∙ all_arguments_asked (premises_of ms) xs h
    ∙ ap (λ z. z && are_arguments (premises_of ms) xs) (sym k)
    ∙ sym (when_some (differ (atoms ms) && on_earlier [] ms && is_within p.set (atoms ms) && are_arguments (premises_of ms) xs) _)

-- each row
row : (W : Declarations) (s : Resolved) → all_theses (theses s) ≡ true → all_boundaries (boundaries s) ≡ true → instance_allowed s ≡ true → asked (checks W s) ≡ is_some (conclusion W s)
row W (by_var v) h b i = refl
row W (by_generic m) h b i = application_asked (is_object m.1.boundary) (meta m.0 (bounds (domain_count m.1.boundary)))
row W (by_meta m ps) h b i = meta_asked m.0 m.1.boundary (statements ps)
row W (by_metacong m es) h b i = meta_congruence_asked m.0 m.1.boundary (statements es)
row W (by_abs v p) h b i = dependents_asked W.variables v.0 p.set ∙ sym (when_some (not (depends W.variables v.0 p.set)) _)
row W (by_subst p t) h b i = substitution_asked p.statement t.statement
row W (by_substeq p e) h b i = equal_substitution_asked p.statement e.statement
row W (by_refl p) h b i = and-true (has_head p.statement) ∙ sym (when_some (has_head p.statement) _)
row W (by_sym p) h b i = and-true (is_some (symmetry p.statement))
row W (by_trans p q) h b i = transitivity_asked p.statement q.statement
row W (by_conv p e) h b i = conversion_asked p.statement e.statement
row W (by_conveq p e) h b i = equation_conversion_asked p.statement e.statement
row W (by_left p) h b i = and-true (is_some (under_domains left_side p.statement))
row W (by_right p) h b i = and-true (is_some (under_domains right_side p.statement))
row W (by_typeof p) h b i = and-true (is_some (under_domains type_part p.statement))
row W (by_domain p) h b i = and-true (is_some (first_domain p.statement))
row W (by_boundary p) h b i = refl
row W (by_widen p q) h b i = refl
row W by_btype h b i = refl
row W (by_bterm p) h b i = and-true (is_some (term_boundary p.statement))
row W (by_beqty p q) h b i = and-true (is_some (type_equation_boundary p.statement q.statement))
row W (by_beqtm p s t) h b i = term_equation_asked p.statement s.statement t.statement
row W (by_rule r ps) h b i = rule_asked r.0 r.1 (statements ps) (theses_of ps h) ∙ sym (when_some (are_arguments r.1.premises (statements ps)) _)
row W (by_rulewith r c ps) h b i = rule_with_asked r.0 r.1 c.statement (statements ps) (theses_of ps h) (not-true (is_thesis c.statement) (and_parts (not (is_thesis c.statement)) true b).0)
row W (by_inst r ps) h b i = instance_asked r.1 (statements ps) (theses_of ps h)
row W (by_cong r ps es) h b i = congruence_asked r.0 r.1 (statements ps) (statements es) (theses_of ps (theses_append ps es h).0)
row W (by_convprem r ps es q) h b i =
    let k : (all_theses ps ≡ true) × (all_theses (es ++ (q ∷ [])) ≡ true) = theses_append ps (es ++ (q ∷ [])) h in
    moved_asked r.1 (statements ps) (statements es) (heads (statements ps)) (right_heads (statements ps) (statements es)) q.statement (theses_of ps k.0) (and_parts (is_thesis q.statement) true (theses_append es (q ∷ []) k.1).1).0
row W (by_convback r ps es q) h b i =
    let k : (all_theses ps ≡ true) × (all_theses (es ++ (q ∷ [])) ≡ true) = theses_append ps (es ++ (q ∷ [])) h in
    moved_asked r.1 (statements ps) (statements es) (right_heads (statements ps) (statements es)) (heads (statements ps)) q.statement (theses_of ps k.0) (and_parts (is_thesis q.statement) true (theses_append es (q ∷ []) k.1).1).0
row W (by_arg i p) h b k = argument_asked W i p.statement
row W (by_natural p) h b i = natural_asked W p.statement
row W (by_metainst p ms qs) h b i = instantiated_asked ms p (statements qs) (theses_of qs h) i

-- A call that may be made asks what its row asks.
pub asks_its_row : (W : Declarations) (s : Resolved) → may_be_made s ≡ true → asked (checks W s) ≡ is_some (conclusion W s)
asks_its_row W s h =
    let k : (of_kind s ≡ true) × (instance_allowed s ≡ true) = and_parts (of_kind s) (instance_allowed s) h in
    let l : (all_theses (theses s) ≡ true) × (all_boundaries (boundaries s) ≡ true) = and_parts (all_theses (theses s)) (all_boundaries (boundaries s)) k.0 in
    row W s l.0 l.1 k.1
