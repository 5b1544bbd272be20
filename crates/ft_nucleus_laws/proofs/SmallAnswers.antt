-- What is small stays small.
use Rattle.std.proofs.Common.{◌≡◌, ℕ, Bool, true, false, cond, Option, Some, None, List, [], ◌∷◌, ◌++◌, refl, sym, ap, subst}
use Rattle.std.specs.Prelude.{option_map}
use Rattle.std.proofs.lemmas.Option.{same_Some}
use Rattle.ft_common.proofs.Options.{none_some}
use Rattle.ft_common.proofs.Booleans.{true_false}
use Rattle.ft_theory.specs.Expressions.{Expression, bound, free, meta, Arguments}
use Rattle.ft_theory.specs.Statements.{Claim, is_type, has_type, equal_types, equal_terms, type_goal, term_goal, type_equation_goal, term_equation_goal, Statement, plain, abstracted, domain_count, fill_goal, fill, equate_goal, equate, boundary_of_claim, boundary_of}
use Rattle.ft_theory.specs.Rules.{Rule, conclusion_at}
use Rattle.ft_theory.specs.Small.{IsSmall}
use Rattle.ft_items.specs.Equal.{is_object_goal, is_object, head_of_claim, head, heads, right_heads}
use Rattle.ft_items.specs.Item.{by_var, by_generic, by_meta, by_metacong, by_abs, by_subst, by_substeq, by_refl, by_sym, by_trans, by_conv, by_conveq, by_left, by_right, by_typeof, by_domain, by_boundary, by_widen, by_btype, by_bterm, by_beqty, by_beqtm, by_rule, by_rulewith, by_inst, by_cong, by_convprem, by_convback, by_arg, by_natural, by_metainst}
use Rattle.ft_items.specs.Store.{Assertion, Declarations, Resolved, premises_of}
use Rattle.ft_items.specs.Rows.{when, statements, bounds, applied_meta, meta_congruence, substitution, equal_substitution, symmetry, transitivity, conversion, equation_conversion, left_side, right_side, type_part, under_domains, first_domain, term_boundary, type_equation_boundary, term_equation_boundary, rule_instance, rule_instance_with, boundary_after, boundary_instance, congruence_of, moved, argument, natural_type, natural, instantiated, conclusion, result_set}
use Rattle.ft_items.specs.Good.{of_kind, given}
use Rattle.ft_reference.specs.Refusals.{Check, asks, forms, formed, AllSmall, claim_expressions, expressions, forms_all, forms_statement, forms_result}
use Rattle.ft_reference.specs.Compare.{fit_checks, boundary_checks, term_checks, pair_checks}
use Rattle.ft_reference.specs.Checks.{substitution_checks, equal_substitution_checks, forms_application, all_argument_checks, first_argument_checks, all_equation_checks, rule_checks, moved_checks, equal_argument_checks, application_checks, forms_natural, natural_checks, checks}
use Rattle.ft_nucleus_laws.specs.SmallAnswers.{all_expressions, given_expressions, is_abstraction, AnswersSmall}
use Rattle.ft_nucleus_laws.proofs.Calls.{answers_its_row}
use Rattle.ft_items.proofs.Smallness.{true_small}

-- lists
small_split : (xs ys : List Expression) → AllSmall (xs ++ ys) → AllSmall xs × AllSmall ys
small_split [] ys h = (tt, h)
small_split (x ∷ xs) ys h = ((h.0, (small_split xs ys h.1).0), (small_split xs ys h.1).1)

formed_append : (cs ds : List Check) → formed (cs ++ ds) ≡ formed cs ++ formed ds
formed_append [] ds = refl
formed_append (asks b r ∷ cs) ds = formed_append cs ds
formed_append (forms e ∷ cs) ds = ap (λ z. e ∷ z) (formed_append cs ds)

later : (cs ds : List Check) → AllSmall (formed (cs ++ ds)) → AllSmall (formed ds)
later cs ds h = (small_split (formed cs) (formed ds) (subst AllSmall (formed_append cs ds) h)).1

formed_forms : (es : List Expression) → formed (forms_all es) ≡ es
formed_forms [] = refl
formed_forms (e ∷ es) = ap (λ z. e ∷ z) (formed_forms es)

-- a result that is formed is small
result : (o : Option Statement) (x : Statement) → AllSmall (formed (forms_result o)) → o ≡ Some x → AllSmall (expressions x)
result None x h e = none_some e
result (Some y) x h e = subst (λ z. AllSmall (expressions z)) (same_Some y x e) (subst AllSmall (formed_forms (expressions y)) h)

ends : (cs : List Check) (o : Option Statement) (x : Statement) → AllSmall (formed (cs ++ forms_result o)) → o ≡ Some x → AllSmall (expressions x)
ends cs o x h e = result o x (later cs (forms_result o) h) e

when_path : (b : Bool) (x y : Statement) → when b x ≡ Some y → x ≡ y
when_path true x y e = same_Some x y e
when_path false x y e = none_some e

-- heads, boundaries, fillings
bound_small : IsSmall (bound 0)
bound_small = true_small (bound 0) refl

head_small_claim : (c : Claim) → AllSmall (claim_expressions c) → IsSmall (head_of_claim c)
head_small_claim (is_type A) h = h.0
head_small_claim (has_type t A) h = h.0
head_small_claim (equal_types A B) h = bound_small
head_small_claim (equal_terms s t A) h = bound_small
head_small_claim type_goal h = bound_small
head_small_claim (term_goal A) h = bound_small
head_small_claim (type_equation_goal A B) h = bound_small
head_small_claim (term_equation_goal s t A) h = bound_small

head_small : (x : Statement) → AllSmall (expressions x) → IsSmall (head x)
head_small (plain c) h = head_small_claim c h
head_small (abstracted A x) h = head_small x h.1

boundary_small_claim : (c : Claim) → AllSmall (claim_expressions c) → AllSmall (claim_expressions (boundary_of_claim c))
boundary_small_claim (is_type A) h = tt
boundary_small_claim (has_type t A) h = h.1
boundary_small_claim (equal_types A B) h = h
boundary_small_claim (equal_terms s t A) h = h
boundary_small_claim type_goal h = h
boundary_small_claim (term_goal A) h = h
boundary_small_claim (type_equation_goal A B) h = h
boundary_small_claim (term_equation_goal s t A) h = h

boundary_small : (x : Statement) → AllSmall (expressions x) → AllSmall (expressions (boundary_of x))
boundary_small (plain c) h = boundary_small_claim c h
boundary_small (abstracted A x) h = (h.0, boundary_small x h.1)

equate_small_goal : (c : Claim) (e f : Expression) → AllSmall (claim_expressions c) → IsSmall e → IsSmall f → AllSmall (claim_expressions (equate_goal c e f))
equate_small_goal type_goal e f h i j = (i, (j, tt))
equate_small_goal (term_goal A) e f h i j = (i, (j, h))
equate_small_goal (type_equation_goal A B) e f h i j = h
equate_small_goal (term_equation_goal s t A) e f h i j = h
equate_small_goal (is_type A) e f h i j = h
equate_small_goal (has_type t A) e f h i j = h
equate_small_goal (equal_types A B) e f h i j = h
equate_small_goal (equal_terms s t A) e f h i j = h

equate_small : (b : Statement) (e f : Expression) → AllSmall (expressions b) → IsSmall e → IsSmall f → AllSmall (expressions (equate b e f))
equate_small (plain c) e f h i j = equate_small_goal c e f h i j
equate_small (abstracted A b) e f h i j = (h.0, equate_small b e f h.1 i j)

fill_small_goal : (c : Claim) (e : Expression) → AllSmall (claim_expressions c) → (is_object_goal c ≡ true → IsSmall e) → AllSmall (claim_expressions (fill_goal c e))
fill_small_goal type_goal e h i = (i refl, tt)
fill_small_goal (term_goal A) e h i = (i refl, h)
fill_small_goal (type_equation_goal A B) e h i = h
fill_small_goal (term_equation_goal s t A) e h i = h
fill_small_goal (is_type A) e h i = h
fill_small_goal (has_type t A) e h i = h
fill_small_goal (equal_types A B) e h i = h
fill_small_goal (equal_terms s t A) e h i = h

fill_small : (b : Statement) (e : Expression) → AllSmall (expressions b) → (is_object b ≡ true → IsSmall e) → AllSmall (expressions (fill b e))
fill_small (plain c) e h i = fill_small_goal c e h i
fill_small (abstracted A b) e h i = (h.0, fill_small b e h.1 i)

application_small : (t : Bool) (e : Expression) → AllSmall (formed (forms_application t e)) → t ≡ true → IsSmall e
application_small true e h k = h.0
application_small false e h k = true_false (sym k)

-- substitution, equality and conversion
substitution_small : (x y z : Statement) → AllSmall (formed (substitution_checks x y)) → substitution x y ≡ Some z → AllSmall (expressions z)
substitution_small (plain c) y z h e = none_some e
substitution_small (abstracted A x) (plain (has_type t B)) z h e = result (substitution (abstracted A x) (plain (has_type t B))) z h e
substitution_small (abstracted A x) y z h e = none_some e

equal_substitution_small : (x y z : Statement) → AllSmall (formed (equal_substitution_checks x y)) → equal_substitution x y ≡ Some z → AllSmall (expressions z)
equal_substitution_small (plain c) y z h e = none_some e
equal_substitution_small (abstracted A x) (plain (equal_terms s t B)) z h e = result (equal_substitution (abstracted A x) (plain (equal_terms s t B))) z h e
equal_substitution_small (abstracted A x) y z h e = none_some e

-- what is small, at the statement that an option has
at_some : (y z : Statement) → AllSmall (expressions y) → Some y ≡ Some z → AllSmall (expressions z)
at_some y z h e = subst (λ w. AllSmall (expressions w)) (same_Some y z e) h

pub at_when : (b : Bool) (y z : Statement) → AllSmall (expressions y) → when b y ≡ Some z → AllSmall (expressions z)
at_when b y z h e = subst (λ w. AllSmall (expressions w)) (when_path b y z e) h

symmetry_small : (x z : Statement) → AllSmall (expressions x) → symmetry x ≡ Some z → AllSmall (expressions z)
symmetry_small (plain (equal_types A B)) z h e = at_some (plain (equal_types B A)) z (h.1.0, (h.0, tt)) e
symmetry_small (plain (equal_terms s t A)) z h e = at_some (plain (equal_terms t s A)) z (h.1.0, (h.0, h.1.1)) e
symmetry_small x z h e = none_some e

transitivity_small : (x y z : Statement) → AllSmall (expressions x) → AllSmall (expressions y) → transitivity x y ≡ Some z → AllSmall (expressions z)
transitivity_small (plain (equal_types A B)) (plain (equal_types C D)) z h k e = at_when _ (plain (equal_types A D)) z (h.0, k.1) e
transitivity_small (plain (equal_terms s t A)) (plain (equal_terms u v B)) z h k e = at_when _ (plain (equal_terms s v A)) z (h.0, (k.1.0, h.1.1)) e
transitivity_small x y z h k e = none_some e

conversion_small : (x y z : Statement) → AllSmall (expressions x) → AllSmall (expressions y) → conversion x y ≡ Some z → AllSmall (expressions z)
conversion_small (plain (has_type t A)) (plain (equal_types B C)) z h k e = at_when _ (plain (has_type t C)) z (h.0, k.1) e
conversion_small x y z h k e = none_some e

equation_conversion_small : (x y z : Statement) → AllSmall (expressions x) → AllSmall (expressions y) → equation_conversion x y ≡ Some z → AllSmall (expressions z)
equation_conversion_small (plain (equal_terms s t A)) (plain (equal_types B C)) z h k e = at_when _ (plain (equal_terms s t C)) z (h.0, (h.1.0, k.1)) e
equation_conversion_small x y z h k e = none_some e

-- sides and boundaries
abbrev Keeps : (Claim → Option Claim) → Type 0
Keeps f = (c d : Claim) → AllSmall (claim_expressions c) → f c ≡ Some d → AllSmall (claim_expressions d)

claim_some : (c d : Claim) → AllSmall (claim_expressions c) → Some c ≡ Some d → AllSmall (claim_expressions d)
claim_some c d h e = subst (λ w. AllSmall (claim_expressions w)) (same_Some c d e) h

left_keeps : Keeps left_side
left_keeps (equal_types A B) d h e = claim_some (is_type A) d (h.0, tt) e
left_keeps (equal_terms s t A) d h e = claim_some (has_type s A) d (h.0, h.1.1) e
left_keeps (type_equation_goal A B) d h e = claim_some (is_type A) d (h.0, tt) e
left_keeps (term_equation_goal s t A) d h e = claim_some (has_type s A) d (h.0, h.1.1) e
left_keeps c d h e = none_some e

right_keeps : Keeps right_side
right_keeps (equal_types A B) d h e = claim_some (is_type B) d h.1 e
right_keeps (equal_terms s t A) d h e = claim_some (has_type t A) d h.1 e
right_keeps (type_equation_goal A B) d h e = claim_some (is_type B) d h.1 e
right_keeps (term_equation_goal s t A) d h e = claim_some (has_type t A) d h.1 e
right_keeps c d h e = none_some e

type_keeps : Keeps type_part
type_keeps (has_type t A) d h e = claim_some (is_type A) d h.1 e
type_keeps (equal_terms s t A) d h e = claim_some (is_type A) d h.1.1 e
type_keeps (term_goal A) d h e = claim_some (is_type A) d (h.0, tt) e
type_keeps (term_equation_goal s t A) d h e = claim_some (is_type A) d h.1.1 e
type_keeps c d h e = none_some e

part_small : (f : Claim → Option Claim) → Keeps f → (x z : Statement) → AllSmall (expressions x) → under_domains f x ≡ Some z → AllSmall (expressions z)
part_small f k (plain c) z h e = go (f c) refl e
  where
    go : (o : Option Claim) → f c ≡ o → option_map plain o ≡ Some z → AllSmall (expressions z)
    go None q e = none_some e
    go (Some d) q e = at_some (plain d) z (k c d h q) e
part_small f k (abstracted A x) z h e = go (under_domains f x) refl e (λ y. part_small f k x y h.1)
  where
    go : (o : Option Statement) → under_domains f x ≡ o → option_map (abstracted A) o ≡ Some z → ((y : Statement) → under_domains f x ≡ Some y → AllSmall (expressions y)) → AllSmall (expressions z)
    go None q e ih = none_some e
    go (Some y) q e ih = at_some (abstracted A y) z (h.0, ih y q) e

domain_small : (x z : Statement) → AllSmall (expressions x) → first_domain x ≡ Some z → AllSmall (expressions z)
domain_small (plain c) z h e = none_some e
domain_small (abstracted A x) z h e = at_some (plain (is_type A)) z (h.0, tt) e

term_boundary_small : (x z : Statement) → AllSmall (expressions x) → term_boundary x ≡ Some z → AllSmall (expressions z)
term_boundary_small (plain (is_type A)) z h e = at_some (plain (term_goal A)) z h e
term_boundary_small x z h e = none_some e

type_equation_small : (x y z : Statement) → AllSmall (expressions x) → AllSmall (expressions y) → type_equation_boundary x y ≡ Some z → AllSmall (expressions z)
type_equation_small (plain (is_type A)) (plain (is_type B)) z h k e = at_some (plain (type_equation_goal A B)) z (h.0, k) e
type_equation_small x y z h k e = none_some e

term_equation_small : (w x y z : Statement) → AllSmall (expressions w) → AllSmall (expressions x) → AllSmall (expressions y) → term_equation_boundary w x y ≡ Some z → AllSmall (expressions z)
term_equation_small (plain (is_type A)) (plain (has_type s B)) (plain (has_type t C)) z h k l e = at_when _ (plain (term_equation_goal s t A)) z (k.0, (l.0, h)) e
term_equation_small w x y z h k l e = none_some e

-- arguments moved along equations
moved_small : (R : Rule) (xs es : List Statement) (a c : Arguments) (y z : Statement) → AllSmall (expressions y) → AllSmall (formed (moved_checks R xs a c y)) → moved R xs es a c y ≡ Some z → AllSmall (expressions z)
moved_small R xs es a c y z h k e =
    let w : Statement = boundary_after R xs a in
    let x : Statement = boundary_after R xs c in
    at_when _ (fill x (head y)) z
    (fill_small x (head y)
    (subst AllSmall (formed_forms (expressions x)) (later (fit_checks y w) (forms_statement x) (later (forms_statement w) (fit_checks y w ++ forms_statement x) k)))
    (λ o. head_small y h))
    e

-- what an application tells
argument_small : (W : Declarations) (i : ℕ) (x z : Statement) → AllSmall (formed (application_checks W i x)) → argument W i x ≡ Some z → AllSmall (expressions z)
argument_small W i (plain (is_type e)) z h p = result (argument W i (plain (is_type e))) z h p
argument_small W i (plain (has_type e A)) z h p = result (argument W i (plain (has_type e A))) z h p
argument_small W i x z h p = none_some p

natural_small : (W : Declarations) (x z : Statement) → AllSmall (expressions x) → AllSmall (formed (natural_checks W x)) → natural W x ≡ Some z → AllSmall (expressions z)
natural_small W (plain (has_type e A)) z h k p = go (natural_type W e) k p
  where
    go : (o : Option Expression) → AllSmall (formed (forms_natural o)) → option_map (λ N. plain (equal_types N A)) o ≡ Some z → AllSmall (expressions z)
    go None k p = none_some p
    go (Some N) k p = at_some (plain (equal_types N A)) z (k.0, h.1) p
natural_small W x z h k p = none_some p

-- the first of some assertions, and the second
one : (p : Assertion) (ps : List Assertion) → AllSmall (all_expressions (p ∷ ps)) → AllSmall (expressions p.statement)
one p ps h = (small_split (expressions p.statement) (all_expressions ps) h).0

rest : (p : Assertion) (ps : List Assertion) → AllSmall (all_expressions (p ∷ ps)) → AllSmall (all_expressions ps)
rest p ps h = (small_split (expressions p.statement) (all_expressions ps) h).1

row : (W : Declarations) (s : Resolved) (z : Statement) → is_abstraction s ≡ false → AllSmall (given_expressions s) → AllSmall (formed (checks W s)) → conclusion W s ≡ Some z → AllSmall (expressions z)
row W (by_var v) z n g f e = at_some (plain (has_type (free v.0) v.1.annotation)) z (true_small (free v.0) refl, g) e
row W (by_generic m) z n g f e =
    at_some (fill m.1.boundary (meta m.0 (bounds (domain_count m.1.boundary)))) z
    (fill_small m.1.boundary (meta m.0 (bounds (domain_count m.1.boundary))) g (application_small (is_object m.1.boundary) (meta m.0 (bounds (domain_count m.1.boundary))) f)) e
row W (by_meta m ps) z n g f e = ends (term_checks m.1.boundary (statements ps)) (applied_meta m.0 m.1.boundary (statements ps)) z f e
row W (by_metacong m es) z n g f e = ends (pair_checks m.1.boundary (statements es)) (meta_congruence m.0 m.1.boundary (statements es)) z f e
row W (by_abs v p) z n g f e = true_false n
row W (by_subst p t) z n g f e = substitution_small p.statement t.statement z f e
row W (by_substeq p t) z n g f e = equal_substitution_small p.statement t.statement z f e
row W (by_refl p) z n g f e =
    at_when _ (equate (boundary_of p.statement) (head p.statement) (head p.statement)) z
    (equate_small (boundary_of p.statement) (head p.statement) (head p.statement) (boundary_small p.statement g) (head_small p.statement g) (head_small p.statement g)) e
row W (by_sym p) z n g f e = symmetry_small p.statement z g e
row W (by_trans p q) z n g f e = transitivity_small p.statement q.statement z (one p (q ∷ []) g) (one q [] (rest p (q ∷ []) g)) e
row W (by_conv p q) z n g f e = conversion_small p.statement q.statement z (one p (q ∷ []) g) (one q [] (rest p (q ∷ []) g)) e
row W (by_conveq p q) z n g f e = equation_conversion_small p.statement q.statement z (one p (q ∷ []) g) (one q [] (rest p (q ∷ []) g)) e
row W (by_left p) z n g f e = part_small left_side left_keeps p.statement z g e
row W (by_right p) z n g f e = part_small right_side right_keeps p.statement z g e
row W (by_typeof p) z n g f e = part_small type_part type_keeps p.statement z g e
row W (by_domain p) z n g f e = domain_small p.statement z g e
row W (by_boundary p) z n g f e = at_some (boundary_of p.statement) z (boundary_small p.statement g) e
row W (by_widen p q) z n g f e = at_some p.statement z (one p (q ∷ []) g) e
row W by_btype z n g f e = at_some (plain type_goal) z tt e
row W (by_bterm p) z n g f e = term_boundary_small p.statement z g e
row W (by_beqty p q) z n g f e = type_equation_small p.statement q.statement z (one p (q ∷ []) g) (one q [] (rest p (q ∷ []) g)) e
row W (by_beqtm p s t) z n g f e =
    let k : AllSmall (all_expressions (s ∷ t ∷ [])) = rest p (s ∷ t ∷ []) g in
    term_equation_small p.statement s.statement t.statement z (one p (s ∷ t ∷ []) g) (one s (t ∷ []) k) (one t [] (rest s (t ∷ []) k)) e
row W (by_rule r ps) z n g f e = ends (all_argument_checks r.1.premises (statements ps)) (rule_instance r.0 r.1 (statements ps)) z f e
row W (by_rulewith r b ps) z n g f e =
    let C : Statement = plain (conclusion_at r.1 (heads (statements ps))) in
    let o : Option Statement = rule_instance_with r.0 r.1 b.statement (statements ps) in
    ends (boundary_checks b.statement C) o z
    (later (forms_statement C) (boundary_checks b.statement C ++ forms_result o) (later (all_argument_checks r.1.premises (statements ps)) (forms_statement C ++ (boundary_checks b.statement C ++ forms_result o)) f)) e
row W (by_inst r ps) z n g f e = ends (first_argument_checks r.1 (statements ps)) (boundary_instance r.1 (statements ps)) z f e
row W (by_cong r ps es) z n g f e =
    let o : Option Statement = congruence_of r.0 r.1 (statements ps) (statements es) in
    ends (all_equation_checks (statements ps) (statements es)) o z (later (rule_checks r.0 r.1 (statements ps)) (all_equation_checks (statements ps) (statements es) ++ forms_result o) f) e
row W (by_convprem r ps es q) z n g f e =
    moved_small r.1 (statements ps) (statements es) (heads (statements ps)) (right_heads (statements ps) (statements es)) q.statement z (one q (ps ++ es) g) (later (equal_argument_checks r.1 (statements ps) (statements es)) _ f) e
row W (by_convback r ps es q) z n g f e =
    moved_small r.1 (statements ps) (statements es) (right_heads (statements ps) (statements es)) (heads (statements ps)) q.statement z (one q (ps ++ es) g) (later (equal_argument_checks r.1 (statements ps) (statements es)) _ f) e
row W (by_arg i p) z n g f e = argument_small W i p.statement z f e
row W (by_natural p) z n g f e = natural_small W p.statement z g f e
row W (by_metainst p ms qs) z n g f e = ends (all_argument_checks (premises_of ms) (statements qs)) (instantiated ms p (statements qs)) z f e

-- the statement that is given is the conclusion
pub given_conclusion : (W : Declarations) (s : Resolved) (a : Assertion) → given W s ≡ Some a → conclusion W s ≡ Some a.statement
given_conclusion W s a h = go (of_kind s) (conclusion W s) h
  where
    go : (b : Bool) (o : Option Statement) → cond b (option_map (λ x. record { statement = x; set = result_set s }) o) None ≡ Some a → o ≡ Some a.statement
    go true None h = none_some h
    go true (Some x) h = ap (λ (z : Assertion). Some z.statement) (same_Some (record { statement = x; set = result_set s }) a h)
    go false o h = none_some h

pub answers_small : AnswersSmall
answers_small W s a n g h =
    let k : (given W s ≡ Some a) × AllSmall (formed (checks W s)) = (answers_its_row W s a).0 h in
    row W s a.statement n g k.1 (given_conclusion W s a k.0)
