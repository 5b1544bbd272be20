-- The table of steps: what each step concludes where its conditions hold, and the set of the result. One definition a row.
-- After the rules of the context-free theories of Haselwarter and Bauer, "Finitary type theories with and without contexts".
use Rattle.std.specs.Prelude.{ℕ, zero, suc, Option, Some, None, Bool, true, false, cond, nat_eq, nat_lt, ◌&&◌, not, List, [], ◌∷◌, ◌++◌, length, take, drop, option_map}
use Rattle.ft_theory.specs.Expressions.{Expression, bound, free, symbol, meta, Arguments, Terms, no_terms, also, open_at}
use Rattle.ft_theory.specs.Statements.{Claim, is_type, has_type, equal_types, equal_terms, type_goal, term_goal, type_equation_goal, term_equation_goal, Statement, plain, abstracted, act_statement, close_statement, opened, domain_count, at, fill_goal, fill, equate_goal, equate, boundary_of}
use Rattle.ft_theory.specs.Rules.{look_up, Rule, rule_at, instance_of, filled_premises, term_typings, conclusion_at}
use Rattle.ft_items.specs.Sets.{Atom, met, var, insert, union, unions, without, has, is_within}
use Rattle.ft_items.specs.Equal.{equal_expressions, equal_statements, is_thesis, is_object_goal, is_object, has_head, head, fits, fit_all, heads, start_all, right_heads, typed, terms, paired, left_terms, right_terms}
use Rattle.ft_items.specs.Item.{Justification, by_var, by_generic, by_meta, by_metacong, by_abs, by_subst, by_substeq, by_refl, by_sym, by_trans, by_conv, by_conveq, by_left, by_right, by_typeof, by_domain, by_boundary, by_widen, by_btype, by_bterm, by_beqty, by_beqtm, by_rule, by_rulewith, by_inst, by_cong, by_convprem, by_convback, by_arg, by_natural, by_metainst}
use Rattle.ft_items.specs.Store.{Assertion, Annotation, Declared, Declarations, nth, Resolved, premises_of}

-- x, where the test holds
abbrev pub when : {A : Type 0} → Bool → A → Option A
when b x = cond b (Some x) None

-- the statements of these assertions
abbrev pub statements : List Assertion → List Statement
statements [] = []
statements (p ∷ ps) = p.statement ∷ statements ps

-- the sets of these assertions
abbrev pub sets : List Assertion → List (List Atom)
sets [] = []
sets (p ∷ ps) = p.set ∷ sets ps

-- Metavariables and variables.

-- the bound variables of n domains, the outermost first
abbrev pub bounds : ℕ → Terms
bounds zero = no_terms
bounds (suc n) = also (bound n) (bounds n)

-- the metavariable m of boundary b at the terms of these theses: one plain term for each domain, of its type
abbrev pub applied_meta : ℕ → Statement → List Statement → Option Statement
applied_meta m b xs = when (typed b xs) (fill (at b (terms xs)) (meta m (terms xs)))

-- the metavariable m of object boundary b at the left sides equals it at the right sides of these equations, at b with the
-- left sides in place; one equation for each domain, at its type
abbrev pub meta_congruence : ℕ → Statement → List Statement → Option Statement
meta_congruence m b es = when (is_object b && paired b es) (equate (at b (left_terms es)) (meta m (left_terms es)) (meta m (right_terms es)))

-- the test that a variable's annotation rests on the variable v
abbrev pub rests_on : ℕ → Option Annotation → Bool
rests_on v None = false
rests_on v (Some d) = has (var v) d.set

-- the test that some variable of the set, other than v, has an annotation that rests on v
abbrev pub depends : List (ℕ × Annotation) → ℕ → List Atom → Bool
depends G v [] = false
depends G v (met m ∷ S) = depends G v S
depends G v (var w ∷ S) = cond (not (nat_eq w v) && rests_on v (look_up G w)) true (depends G v S)

-- Substitution, equality and conversion.

-- the statement with the term for the variable of its first domain, where that domain is the term's type
abbrev pub substitution : Statement → Statement → Option Statement
substitution (abstracted A x) (plain (has_type t B)) = when (equal_expressions A B) (opened t (abstracted A x))
substitution x y = None

-- the equation between the head of a type or term with the left side for the variable of its first domain and the same with
-- the right side, at the boundary with the left side, where that domain is the type of the sides
abbrev pub equal_substitution : Statement → Statement → Option Statement
equal_substitution (abstracted A x) (plain (equal_terms s t B)) =
    when (has_head x && equal_expressions A B) (equate (opened s (abstracted A (boundary_of x))) (open_at (domain_count x) s (head x)) (open_at (domain_count x) t (head x)))
equal_substitution x y = None

-- a type or term equal to itself, under its domains
abbrev pub reflexivity : Statement → Option Statement
reflexivity x = when (has_head x) (equate (boundary_of x) (head x) (head x))

-- a plain equation with its sides exchanged
abbrev pub symmetry : Statement → Option Statement
symmetry (plain (equal_types A B)) = Some (plain (equal_types B A))
symmetry (plain (equal_terms s t A)) = Some (plain (equal_terms t s A))
symmetry x = None

-- of two plain equations of one form, at one type, with the same side in the middle, the equation of the outer sides
abbrev pub transitivity : Statement → Statement → Option Statement
transitivity (plain (equal_types A B)) (plain (equal_types C D)) = when (equal_expressions B C) (plain (equal_types A D))
transitivity (plain (equal_terms s t A)) (plain (equal_terms u v B)) = when (equal_expressions A B && equal_expressions t u) (plain (equal_terms s v A))
transitivity x y = None

-- a plain term at the right side of the type equation, where its type is the left side
abbrev pub conversion : Statement → Statement → Option Statement
conversion (plain (has_type t A)) (plain (equal_types B C)) = when (equal_expressions A B) (plain (has_type t C))
conversion x y = None

-- a plain equation of terms at the right side of the type equation, where its type is the left side
abbrev pub equation_conversion : Statement → Statement → Option Statement
equation_conversion (plain (equal_terms s t A)) (plain (equal_types B C)) = when (equal_expressions A B) (plain (equal_terms s t C))
equation_conversion x y = None

-- Sides and boundaries.

-- the left side of an equation's claim or goal, as a claim
abbrev pub left_side : Claim → Option Claim
left_side (equal_types A B) = Some (is_type A)
left_side (equal_terms s t A) = Some (has_type s A)
left_side (type_equation_goal A B) = Some (is_type A)
left_side (term_equation_goal s t A) = Some (has_type s A)
left_side c = None

-- the right side of an equation's claim or goal, as a claim
abbrev pub right_side : Claim → Option Claim
right_side (equal_types A B) = Some (is_type B)
right_side (equal_terms s t A) = Some (has_type t A)
right_side (type_equation_goal A B) = Some (is_type B)
right_side (term_equation_goal s t A) = Some (has_type t A)
right_side c = None

-- the type of a claim or goal of terms, as a claim
abbrev pub type_part : Claim → Option Claim
type_part (has_type t A) = Some (is_type A)
type_part (equal_terms s t A) = Some (is_type A)
type_part (term_goal A) = Some (is_type A)
type_part (term_equation_goal s t A) = Some (is_type A)
type_part c = None

-- a part of the claim or goal, under the domains of the statement
abbrev pub under_domains : (Claim → Option Claim) → Statement → Option Statement
under_domains f (plain c) = option_map plain (f c)
under_domains f (abstracted A x) = option_map (abstracted A) (under_domains f x)

-- the first domain of a statement, as a plain type
abbrev pub first_domain : Statement → Option Statement
first_domain (plain c) = None
first_domain (abstracted A x) = Some (plain (is_type A))

-- the boundary of a term at a plain type
abbrev pub term_boundary : Statement → Option Statement
term_boundary (plain (is_type A)) = Some (plain (term_goal A))
term_boundary x = None

-- the boundary of an equation of two plain types
abbrev pub type_equation_boundary : Statement → Statement → Option Statement
type_equation_boundary (plain (is_type A)) (plain (is_type B)) = Some (plain (type_equation_goal A B))
type_equation_boundary x y = None

-- the boundary of an equation of two plain terms at a plain type, which is the type of both
abbrev pub term_equation_boundary : Statement → Statement → Statement → Option Statement
term_equation_boundary (plain (is_type A)) (plain (has_type s B)) (plain (has_type t C)) = when (equal_expressions B A && equal_expressions C A) (plain (term_equation_goal s t A))
term_equation_boundary x y z = None

-- Rules at arguments.

-- the statement at the instance that maps the metavariables of the premises to the arguments
abbrev pub at_arguments : List (ℕ × Statement) → Arguments → Statement → Statement
at_arguments ps a b = act_statement free (instance_of ps a) b

-- The test that the theses are arguments for the premises: as many, and each fits its premise's boundary at all their heads. Only
-- the heads before it count there, since a boundary mentions only premises before its own.
abbrev pub are_arguments : List (ℕ × Statement) → List Statement → Bool
are_arguments ps xs = fit_all (at_arguments ps (heads xs)) ps xs

-- the conclusion of rule r at the arguments, filled with the symbol at their heads where it is an object rule
abbrev pub rule_instance : ℕ → Rule → List Statement → Option Statement
rule_instance r R xs = when (are_arguments R.premises xs) (plain (fill_goal (conclusion_at R (heads xs)) (symbol r (heads xs))))

-- the same, where b is the conclusion's boundary at the arguments
abbrev pub rule_instance_with : ℕ → Rule → Statement → List Statement → Option Statement
rule_instance_with r R b xs = when (are_arguments R.premises xs && equal_statements b (plain (conclusion_at R (heads xs)))) (plain (fill_goal (conclusion_at R (heads xs)) (symbol r (heads xs))))

-- the first premises of a rule, as many as there are arguments
abbrev pub first_premises : Rule → List Statement → List (ℕ × Statement)
first_premises R xs = take (length xs) R.premises

-- the premises after those, the next one first
abbrev pub later_premises : Rule → List Statement → List (ℕ × Statement)
later_premises R xs = drop (length xs) R.premises

-- the boundary at the arguments a for the premises ps, where qs are left: the next premise's, or the conclusion's where none is
abbrev pub next_boundary : Rule → List (ℕ × Statement) → Arguments → List (ℕ × Statement) → Statement
next_boundary R ps a [] = plain (conclusion_at R a)
next_boundary R ps a (q ∷ qs) = at_arguments ps a q.1

-- the boundary after as many premises as there are theses, at the arguments a
abbrev pub boundary_after : Rule → List Statement → Arguments → Statement
boundary_after R xs a = next_boundary R (first_premises R xs) a (later_premises R xs)

-- the boundary after arguments for the first premises, at them
abbrev pub boundary_instance : Rule → List Statement → Option Statement
boundary_instance R xs = when (are_arguments (first_premises R xs) xs) (boundary_after R xs (heads xs))

-- of an object rule r, the equation between its symbol at the arguments and at the right sides of equations that start at the
-- arguments' heads, one for each object premise
abbrev pub congruence_of : ℕ → Rule → List Statement → List Statement → Option Statement
congruence_of r R xs es =
    when (is_object_goal R.conclusion && are_arguments R.premises xs && start_all xs es) (plain (equate_goal (conclusion_at R (heads xs)) (symbol r (heads xs)) (symbol r (right_heads xs es))))

-- Of arguments for the first premises of a rule, which are not all, with equations that start at their heads: the thesis y, which
-- fits the next premise's boundary at a, with its head at that boundary at c.
abbrev pub moved : Rule → List Statement → List Statement → Arguments → Arguments → Statement → Option Statement
moved R xs es a c y =
    when (nat_lt (length xs) (length R.premises)
    && (are_arguments (first_premises R xs) xs && start_all xs es && fits y (boundary_after R xs a)))
    (fill (boundary_after R xs c) (head y))

-- an argument for the premise after such arguments, moved from these to the right sides of the equations
abbrev pub premise_conversion : Rule → List Statement → List Statement → Statement → Option Statement
premise_conversion R xs es y = moved R xs es (heads xs) (right_heads xs es) y

-- the same from the right sides to the arguments
abbrev pub premise_conversion_back : Rule → List Statement → List Statement → Statement → Option Statement
premise_conversion_back R xs es y = moved R xs es (right_heads xs es) (heads xs) y

-- What an application tells of its arguments and its type.

-- the arguments of a symbol, each at its premise's boundary at these arguments
abbrev pub rule_arguments : Option Rule → Arguments → List Statement
rule_arguments None a = []
rule_arguments (Some R) a = filled_premises (instance_of R.premises a) R.premises a

-- the terms of a metavariable, each at its domain
abbrev pub meta_arguments : Option Declared → Terms → List Statement
meta_arguments None a = []
meta_arguments (Some d) a = term_typings d.boundary a

-- the arguments of an application as theses; a variable has none
abbrev pub arguments_of : Declarations → Expression → List Statement
arguments_of W (bound i) = []
arguments_of W (free v) = []
arguments_of W (symbol r a) = rule_arguments (rule_at W.rules r) a
arguments_of W (meta m a) = meta_arguments (nth W.metavariables m) a

-- the i-th, counted from 1
abbrev pub from_one : List Statement → ℕ → Option Statement
from_one xs zero = None
from_one xs (suc i) = nth xs i

-- the i-th argument of the application in a plain type or term, as a thesis
abbrev pub argument : Declarations → ℕ → Statement → Option Statement
argument W i (plain (is_type e)) = from_one (arguments_of W e) i
argument W i (plain (has_type e A)) = from_one (arguments_of W e) i
argument W i x = None

-- the type in the plain boundary of a term
abbrev pub type_of_boundary : Statement → Option Expression
type_of_boundary (plain (term_goal A)) = Some A
type_of_boundary x = None

-- the type in a rule's conclusion at the arguments
abbrev pub natural_of_rule : Option Rule → Arguments → Option Expression
natural_of_rule None a = None
natural_of_rule (Some R) a = type_of_boundary (plain (conclusion_at R a))

-- the type in a metavariable's boundary at the terms
abbrev pub natural_of_meta : Option Declared → Terms → Option Expression
natural_of_meta None a = None
natural_of_meta (Some d) a = type_of_boundary (at d.boundary a)

-- the type that a variable or an application has by its declaration
abbrev pub natural_type : Declarations → Expression → Option Expression
natural_type W (bound i) = None
natural_type W (free v) = option_map (λ d. d.annotation) (look_up W.variables v)
natural_type W (symbol r a) = natural_of_rule (rule_at W.rules r) a
natural_type W (meta m a) = natural_of_meta (nth W.metavariables m) a

-- of a plain term, the equation between the type that it has by its declaration and the stated one
abbrev pub natural : Declarations → Statement → Option Statement
natural W (plain (has_type e A)) = option_map (λ N. plain (equal_types N A)) (natural_type W e)
natural W x = None

-- Instances of whole entries.

-- the metavariables as atoms
abbrev pub atoms : List (ℕ × Declared) → List Atom
atoms [] = []
atoms (d ∷ ds) = met d.0 ∷ atoms ds

-- the test that no atom stands twice
abbrev pub differ : List Atom → Bool
differ [] = true
differ (a ∷ S) = not (has a S) && differ S

-- the test that each boundary rests on earlier metavariables alone, where those before are earlier than all
abbrev pub on_earlier : List Atom → List (ℕ × Declared) → Bool
on_earlier before [] = true
on_earlier before (d ∷ ds) = is_within d.1.set before && on_earlier (before ++ (met d.0 ∷ [])) ds

-- the statement of p at the instance that maps the metavariables to the heads of the theses. The metavariables differ, each
-- rests on earlier ones, p rests on them alone, and the theses are arguments for them.
abbrev pub instantiated : List (ℕ × Declared) → Assertion → List Statement → Option Statement
instantiated ms p xs = when (differ (atoms ms) && on_earlier [] ms && is_within p.set (atoms ms) && are_arguments (premises_of ms) xs) (at_arguments (premises_of ms) (heads xs) p.statement)

-- what the step concludes; None where a condition of its row fails
abbrev pub conclusion : Declarations → Resolved → Option Statement
conclusion W (by_var v) = Some (plain (has_type (free v.0) v.1.annotation))
conclusion W (by_generic m) = Some (fill m.1.boundary (meta m.0 (bounds (domain_count m.1.boundary))))
conclusion W (by_meta m ps) = applied_meta m.0 m.1.boundary (statements ps)
conclusion W (by_metacong m es) = meta_congruence m.0 m.1.boundary (statements es)
conclusion W (by_abs v p) = when (not (depends W.variables v.0 p.set)) (abstracted v.1.annotation (close_statement v.0 p.statement))
conclusion W (by_subst p t) = substitution p.statement t.statement
conclusion W (by_substeq p e) = equal_substitution p.statement e.statement
conclusion W (by_refl p) = reflexivity p.statement
conclusion W (by_sym p) = symmetry p.statement
conclusion W (by_trans p q) = transitivity p.statement q.statement
conclusion W (by_conv p e) = conversion p.statement e.statement
conclusion W (by_conveq p e) = equation_conversion p.statement e.statement
conclusion W (by_left p) = under_domains left_side p.statement
conclusion W (by_right p) = under_domains right_side p.statement
conclusion W (by_typeof p) = under_domains type_part p.statement
conclusion W (by_domain p) = first_domain p.statement
conclusion W (by_boundary p) = Some (boundary_of p.statement)
conclusion W (by_widen p q) = Some p.statement
conclusion W by_btype = Some (plain type_goal)
conclusion W (by_bterm p) = term_boundary p.statement
conclusion W (by_beqty p q) = type_equation_boundary p.statement q.statement
conclusion W (by_beqtm p s t) = term_equation_boundary p.statement s.statement t.statement
conclusion W (by_rule r ps) = rule_instance r.0 r.1 (statements ps)
conclusion W (by_rulewith r b ps) = rule_instance_with r.0 r.1 b.statement (statements ps)
conclusion W (by_inst r ps) = boundary_instance r.1 (statements ps)
conclusion W (by_cong r ps es) = congruence_of r.0 r.1 (statements ps) (statements es)
conclusion W (by_convprem r ps es q) = premise_conversion r.1 (statements ps) (statements es) q.statement
conclusion W (by_convback r ps es q) = premise_conversion_back r.1 (statements ps) (statements es) q.statement
conclusion W (by_arg i p) = argument W i p.statement
conclusion W (by_natural p) = natural W p.statement
conclusion W (by_metainst p ms qs) = instantiated ms p (statements qs)

-- What a step names in one place: an entry, or several in order.
pub data Named (E : Type 0) : Type 0 where
  one : E → Named E
  several : List E → Named E

-- the entries that a step names, place by place
abbrev pub named : {E V M R : Type 0} → Justification E V M R → List (Named E)
named (by_var v) = []
named (by_generic m) = []
named (by_meta m ps) = several ps ∷ []
named (by_metacong m es) = several es ∷ []
named (by_abs v p) = one p ∷ []
named (by_subst p t) = one p ∷ one t ∷ []
named (by_substeq p e) = one p ∷ one e ∷ []
named (by_refl p) = one p ∷ []
named (by_sym p) = one p ∷ []
named (by_trans p q) = one p ∷ one q ∷ []
named (by_conv p e) = one p ∷ one e ∷ []
named (by_conveq p e) = one p ∷ one e ∷ []
named (by_left p) = one p ∷ []
named (by_right p) = one p ∷ []
named (by_typeof p) = one p ∷ []
named (by_domain p) = one p ∷ []
named (by_boundary p) = one p ∷ []
named (by_widen p q) = one p ∷ one q ∷ []
named by_btype = []
named (by_bterm p) = one p ∷ []
named (by_beqty p q) = one p ∷ one q ∷ []
named (by_beqtm p s t) = one p ∷ one s ∷ one t ∷ []
named (by_rule r ps) = several ps ∷ []
named (by_rulewith r b ps) = one b ∷ several ps ∷ []
named (by_inst r ps) = several ps ∷ []
named (by_cong r ps es) = several ps ∷ several es ∷ []
named (by_convprem r ps es q) = several ps ∷ several es ∷ one q ∷ []
named (by_convback r ps es q) = several ps ∷ several es ∷ one q ∷ []
named (by_arg i p) = one p ∷ []
named (by_natural p) = one p ∷ []
named (by_metainst p ms qs) = one p ∷ several qs ∷ []

-- the atoms of what is named in one place
abbrev pub set_of : Named Assertion → List Atom
set_of (one p) = p.set
set_of (several ps) = unions (sets ps)

-- the atoms of all that is named
abbrev pub set_of_all : List (Named Assertion) → List Atom
set_of_all [] = []
set_of_all (n ∷ []) = set_of n
set_of_all (n ∷ m ∷ ns) = union (set_of n) (set_of_all (m ∷ ns))

-- The set of what the step gives is the union of the sets of the entries that it names. But a variable and a metavariable add
-- themselves, with the set of their annotation; abstraction takes its variable out and adds the set of its annotation; and the
-- instance of an entry has the sets of the arguments alone.
abbrev pub result_set : Resolved → List Atom
result_set (by_var v) = insert (var v.0) v.1.set
result_set (by_generic m) = insert (met m.0) m.1.set
result_set (by_meta m ps) = insert (met m.0) (union m.1.set (unions (sets ps)))
result_set (by_metacong m es) = insert (met m.0) (union m.1.set (unions (sets es)))
result_set (by_abs v p) = union v.1.set (without (var v.0) p.set)
result_set (by_metainst p ms qs) = unions (sets qs)
result_set s = set_of_all (named s)

-- the entries that are named in one place
abbrev pub entries_of : {E : Type 0} → Named E → List E
entries_of (one p) = p ∷ []
entries_of (several ps) = ps

-- the entries that are named, in order
abbrev pub all_entries : {E : Type 0} → List (Named E) → List E
all_entries [] = []
all_entries (n ∷ []) = entries_of n
all_entries (n ∷ m ∷ ns) = entries_of n ++ all_entries (m ∷ ns)

-- The entries that the step names where its row has a thesis: all, but for the places where a boundary stands or may stand.
abbrev pub theses : {E V M R : Type 0} → Justification E V M R → List E
theses (by_abs v p) = []
theses (by_subst p t) = t ∷ []
theses (by_left p) = []
theses (by_right p) = []
theses (by_typeof p) = []
theses (by_domain p) = []
theses (by_rulewith r b ps) = ps
theses (by_metainst p ms qs) = qs
theses s = all_entries (named s)

-- the entries that the step names where its row has a boundary; others may be either
abbrev pub boundaries : {E V M R : Type 0} → Justification E V M R → List E
boundaries (by_rulewith r b ps) = b ∷ []
boundaries s = []

-- the test that the step concludes a thesis, and not a boundary
abbrev pub concludes_thesis : Resolved → Bool
concludes_thesis (by_abs v p) = is_thesis p.statement
concludes_thesis (by_subst p t) = is_thesis p.statement
concludes_thesis (by_boundary p) = false
concludes_thesis by_btype = false
concludes_thesis (by_bterm p) = false
concludes_thesis (by_beqty p q) = false
concludes_thesis (by_beqtm p s t) = false
concludes_thesis (by_inst r ps) = false
concludes_thesis (by_metainst p ms qs) = is_thesis p.statement
concludes_thesis s = true
