-- Whether a boundary is an instance of another, and the reasons against the boundary of a rule after arguments.
use Rattle.std.proofs.Common.{◌≡◌, ◌≢◌, ℕ, zero, suc, ◌<◌, Bool, true, false, ◌&&◌, Option, Some, None, List, [], ◌∷◌, refl, sym, ap, ap₂, ◌∙◌, length, take}
use Rattle.std.proofs.Math.Bool.{and_assoc, and-false}
use Rattle.ft_theory.specs.Expressions.{Expression, instantiate}
use Rattle.ft_theory.specs.Rules.{Rule, instance_of}
use Rattle.ft_theory.specs.Statements.{Claim, is_type, has_type, equal_types, equal_terms, type_goal, term_goal, type_equation_goal, term_equation_goal, Statement, plain, abstracted, map_claim, map_statement}
use Rattle.ft_items.specs.Item.{Item, Stated}
use Rattle.ft_items.specs.Sets.{Atom, same_set, unions}
use Rattle.ft_items.specs.Equal.{equal_claims, equal_expressions, equal_statements, heads}
use Rattle.ft_items.specs.Store.{Assertion, premises_of}
use Rattle.ft_items.specs.Rows.{are_arguments, boundary_after, boundary_instance, first_premises, sets, statements}
use Rattle.ft_items.specs.Good.{Reject as Reason, Premise as premise, Conclusion as conclusion, Set as set, reason_of_result, unless}
use Rattle.ft_sound.proofs.EqualLemmas.{equal_back}
use Rattle.ft_syntax.specs.Table.{tree}
use Rattle.ft_judge.specs.Meaning.{under, goal_in, boundary_in}
use Rattle.ft_judge.specs.declared.judgement.Boundary.{Boundary as BoundaryValue}
use Rattle.ft_check.specs.Arguing.{AreTheses, IsAfter, boundary_next}
use Rattle.ft_check.specs.Comparing.{domains_same}
use Rattle.ft_check.specs.Entries.{entry_in, with_step}
use Rattle.ft_check.specs.declared.after.After.{After}
use Rattle.ft_check.proofs.Argued.{after_is, theses_length, too_many}
use Rattle.ft_check.proofs.Compares.{other_domains}
use Rattle.ft_check.proofs.Concludes.{premise_not, reasons}

-- a boundary
equal_under : (ts : List Expression) (j : Expression → Expression) (m : ℕ) (As Bs : List ℕ) (c d : Claim)
    → (domains_same ts j As Bs && equal_claims c (map_claim j d)) ≡ equal_statements (under ts As (plain c)) (map_statement (λ k. j) m (under ts Bs (plain d)))
equal_under ts j m [] [] c d = refl
equal_under ts j m [] (B ∷ Bs) c d = refl
equal_under ts j m (A ∷ As) [] c d = refl
equal_under ts j m (A ∷ As) (B ∷ Bs) c d =
    and_assoc (equal_expressions (tree ts A) (j (tree ts B))) (domains_same ts j As Bs) (equal_claims c (map_claim j d))
    ∙ ap (λ b. equal_expressions (tree ts A) (j (tree ts B)) && b) (equal_under ts j (suc m) As Bs c d)

pub boundary_same : (ts : List Expression) (j : Expression → Expression) (x b : BoundaryValue) (As Bs : List ℕ) (o m n : Bool) → As ≡ x.domains → Bs ≡ b.domains
    → m ≡ (o && domains_same ts j As Bs) → n ≡ (m && equal_claims (goal_in ts x.goal) (map_claim j (goal_in ts b.goal)))
    → n ≡ (o && equal_statements (boundary_in ts x) (map_statement (λ k. j) zero (boundary_in ts b)))
boundary_same ts j x b As Bs o m n d g e f =
    f ∙ ap (λ m. m && equal_claims (goal_in ts x.goal) (map_claim j (goal_in ts b.goal))) (e ∙ ap₂ (λ As Bs. o && domains_same ts j As Bs) d g)
    ∙ and_assoc o (domains_same ts j x.domains b.domains) (equal_claims (goal_in ts x.goal) (map_claim j (goal_in ts b.goal)))
    ∙ ap (λ b. o && b) (equal_under ts j zero x.domains b.domains (goal_in ts x.goal) (goal_in ts b.goal))

pub other_boundary : (ts : List Expression) (j : Expression → Expression) (x b : BoundaryValue) (o : Bool) → length x.domains ≢ length b.domains
    → false ≡ (o && equal_statements (boundary_in ts x) (map_statement (λ k. j) zero (boundary_in ts b)))
other_boundary ts j x b o n =
    sym (and-false o)
    ∙ ap (λ b. o && b) (ap (λ d. d && equal_claims (goal_in ts x.goal) (map_claim j (goal_in ts b.goal))) (sym (other_domains ts j x.domains b.domains n)) ∙ equal_under ts j zero x.domains b.domains (goal_in ts x.goal) (goal_in ts b.goal))

-- statements the other way round
two_back : (a b c d : Expression) → (equal_expressions a b && equal_expressions c d) ≡ (equal_expressions b a && equal_expressions d c)
two_back a b c d = ap₂ ◌&&◌ (equal_back a b) (equal_back c d)

three_back : (a b c d e f : Expression) → ((equal_expressions a b && equal_expressions c d) && equal_expressions e f) ≡ ((equal_expressions b a && equal_expressions d c) && equal_expressions f e)
three_back a b c d e f = ap₂ ◌&&◌ (two_back a b c d) (equal_back e f)

claims_back : (c d : Claim) → equal_claims c d ≡ equal_claims d c
claims_back (is_type A) (is_type B) = equal_back A B
claims_back (is_type A) (has_type t B) = refl
claims_back (is_type A) (equal_types B C) = refl
claims_back (is_type A) (equal_terms s t B) = refl
claims_back (is_type A) type_goal = refl
claims_back (is_type A) (term_goal B) = refl
claims_back (is_type A) (type_equation_goal B C) = refl
claims_back (is_type A) (term_equation_goal s t B) = refl
claims_back (has_type t A) (is_type B) = refl
claims_back (has_type t A) (has_type u B) = two_back t u A B
claims_back (has_type t A) (equal_types B C) = refl
claims_back (has_type t A) (equal_terms u v B) = refl
claims_back (has_type t A) type_goal = refl
claims_back (has_type t A) (term_goal B) = refl
claims_back (has_type t A) (type_equation_goal B C) = refl
claims_back (has_type t A) (term_equation_goal u v B) = refl
claims_back (equal_types A B) (is_type C) = refl
claims_back (equal_types A B) (has_type t C) = refl
claims_back (equal_types A B) (equal_types C D) = two_back A C B D
claims_back (equal_types A B) (equal_terms s t C) = refl
claims_back (equal_types A B) type_goal = refl
claims_back (equal_types A B) (term_goal C) = refl
claims_back (equal_types A B) (type_equation_goal C D) = refl
claims_back (equal_types A B) (term_equation_goal s t C) = refl
claims_back (equal_terms s t A) (is_type B) = refl
claims_back (equal_terms s t A) (has_type u B) = refl
claims_back (equal_terms s t A) (equal_types B C) = refl
claims_back (equal_terms s t A) (equal_terms u v B) = three_back s u t v A B
claims_back (equal_terms s t A) type_goal = refl
claims_back (equal_terms s t A) (term_goal B) = refl
claims_back (equal_terms s t A) (type_equation_goal B C) = refl
claims_back (equal_terms s t A) (term_equation_goal u v B) = refl
claims_back type_goal (is_type B) = refl
claims_back type_goal (has_type t B) = refl
claims_back type_goal (equal_types B C) = refl
claims_back type_goal (equal_terms s t B) = refl
claims_back type_goal type_goal = refl
claims_back type_goal (term_goal B) = refl
claims_back type_goal (type_equation_goal B C) = refl
claims_back type_goal (term_equation_goal s t B) = refl
claims_back (term_goal A) (is_type B) = refl
claims_back (term_goal A) (has_type t B) = refl
claims_back (term_goal A) (equal_types B C) = refl
claims_back (term_goal A) (equal_terms s t B) = refl
claims_back (term_goal A) type_goal = refl
claims_back (term_goal A) (term_goal B) = equal_back A B
claims_back (term_goal A) (type_equation_goal B C) = refl
claims_back (term_goal A) (term_equation_goal s t B) = refl
claims_back (type_equation_goal A B) (is_type C) = refl
claims_back (type_equation_goal A B) (has_type t C) = refl
claims_back (type_equation_goal A B) (equal_types C D) = refl
claims_back (type_equation_goal A B) (equal_terms s t C) = refl
claims_back (type_equation_goal A B) type_goal = refl
claims_back (type_equation_goal A B) (term_goal C) = refl
claims_back (type_equation_goal A B) (type_equation_goal C D) = two_back A C B D
claims_back (type_equation_goal A B) (term_equation_goal s t C) = refl
claims_back (term_equation_goal s t A) (is_type B) = refl
claims_back (term_equation_goal s t A) (has_type u B) = refl
claims_back (term_equation_goal s t A) (equal_types B C) = refl
claims_back (term_equation_goal s t A) (equal_terms u v B) = refl
claims_back (term_equation_goal s t A) type_goal = refl
claims_back (term_equation_goal s t A) (term_goal B) = refl
claims_back (term_equation_goal s t A) (type_equation_goal B C) = refl
claims_back (term_equation_goal s t A) (term_equation_goal u v B) = three_back s u t v A B

pub statements_back : (x y : Statement) → equal_statements x y ≡ equal_statements y x
statements_back (plain c) (plain d) = claims_back c d
statements_back (plain c) (abstracted B y) = refl
statements_back (abstracted A x) (plain d) = refl
statements_back (abstracted A x) (abstracted B y) = ap₂ ◌&&◌ (equal_back A B) (statements_back x y)

-- the reasons
pub too_many_given : (items : List Item) (ps : List ℕ) (xs : List Assertion) (R : Rule) (e : Assertion) (t : Stated) → AreTheses items ps xs → length R.premises < length ps
    → Some premise ≡ reason_of_result (boundary_instance R (statements xs)) (unions (sets xs)) (with_step e t)
too_many_given items ps xs R e t h l = premise_not false (are_arguments (first_premises R (statements xs)) (statements xs)) _ _ (with_step e t) refl (too_many items ps xs R h l)

-- after arguments for the first premises
pub are_first : (ts : List Expression) (items : List Item) (x : After) (R : Rule) (ps : List ℕ) (xs : List Assertion) (k : IsAfter ts items x R (length ps)) → AreTheses items ps xs
    → premises_of k.declared ≡ first_premises R (statements xs)
are_first ts items x R ps xs k h = sym k.premises ∙ ap (λ n. take n R.premises) (theses_length items ps xs h)

pub no_arguments : (ts : List Expression) (items : List Item) (x : After) (R : Rule) (ps : List ℕ) (xs : List Assertion) (e : Assertion) (t : Stated) (b : Bool) (k : IsAfter ts items x R (length ps)) → AreTheses items ps xs
    → b ≡ are_arguments (premises_of k.declared) (statements xs) → b ≡ false
    → Some premise ≡ reason_of_result (boundary_instance R (statements xs)) (unions (sets xs)) (with_step e t)
no_arguments ts items x R ps xs e t b k h f n =
    premise_not b (are_arguments (first_premises R (statements xs)) (statements xs)) _ _ (with_step e t) n
    (f ∙ ap (λ qs. are_arguments qs (statements xs)) (are_first ts items x R ps xs k h))

pub boundary_there : (ts : List Expression) (items : List Item) (x : After) (R : Rule) (ps : List ℕ) (xs : List Assertion) (k : IsAfter ts items x R (length ps)) → AreTheses items ps xs
    → map_statement (λ m. instantiate (instance_of (premises_of k.declared) (heads (statements xs)))) zero (entry_in ts x.boundary).statement ≡ boundary_after R (statements xs) (heads (statements xs))
boundary_there ts items x R ps xs k h =
    let X = statements xs in
    let same : length ps ≡ length X = theses_length items ps xs h in
    ap₂ (λ qs w. map_statement (λ k. instantiate (instance_of qs (heads X))) zero w) (are_first ts items x R ps xs k h) (k.boundary.is ∙ ap (boundary_next R) same)
    ∙ sym (after_is R (length X) (heads X))

pub next_judged : (ts : List Expression) (items : List Item) (x : After) (R : Rule) (ps : List ℕ) (xs : List Assertion) (e : Assertion) (t : Stated) (a b d : Bool) (i : ℕ → ℕ → Option Expression) (S : List Atom) (r : Option Reason)
    (k : IsAfter ts items x R (length ps)) → AreTheses items ps xs
    → a ≡ are_arguments (premises_of k.declared) (statements xs) → a ≡ true
    → i ≡ instance_of (premises_of k.declared) (heads (statements xs))
    → b ≡ equal_statements e.statement (map_statement (λ k. instantiate i) zero (entry_in ts x.boundary).statement)
    → S ≡ unions (sets xs) → d ≡ same_set S e.set → r ≡ unless b conclusion (unless d set None)
    → r ≡ reason_of_result (boundary_instance R (statements xs)) (unions (sets xs)) (with_step e t)
next_judged ts items x R ps xs e t a b d i S r k h f n g c s m q =
    let X = statements xs in
    let wanted = boundary_after R X (heads X) in
    reasons a (are_arguments (first_premises R X) X) b d wanted (unions (sets xs)) (with_step e t) r n
    (f ∙ ap (λ qs. are_arguments qs X) (are_first ts items x R ps xs k h))
    (c ∙ ap (λ w. equal_statements e.statement w) (ap (λ i. map_statement (λ k. instantiate i) zero (entry_in ts x.boundary).statement) g ∙ boundary_there ts items x R ps xs k h) ∙ statements_back e.statement wanted)
    (m ∙ ap (λ S. same_set S e.set) s) q
