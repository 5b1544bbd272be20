-- An argument for the next premise, moved along equations, and the reasons against that.
use Rattle.std.proofs.Common.{◌≡◌, ℕ, zero, suc, ◌<◌, Bool, true, false, ◌&&◌, Option, Some, None, List, [], ◌∷◌, refl, sym, ap, ap₂, ◌∙◌, length, nat_lt, arith, IsTrue, ◌↔◌, IfSome}
use Rattle.std.proofs.Math.Bool.{and_assoc, and_comm, and-false, and-true}
use Rattle.std.proofs.lemmas.Bool.{le-ltb}
use Rattle.std.specs.Prelude.{option_map}
use Rattle.ft_theory.specs.Expressions.{Expression, Arguments, instantiate}
use Rattle.ft_theory.specs.Rules.{Rule, instance_of}
use Rattle.ft_theory.specs.Statements.{Claim, is_type, has_type, equal_types, equal_terms, type_goal, term_goal, type_equation_goal, term_equation_goal, Statement, plain, abstracted, fill, fill_goal, map_claim, map_statement}
use Rattle.ft_items.specs.Item.{Item, Stated, Entry as AnyEntry}
use Rattle.ft_items.specs.Sets.{Atom, same_set}
use Rattle.ft_items.specs.Equal.{equal_claims, equal_expressions, equal_statements, fits, fits_goal, head, head_of_claim, heads, is_thesis_claim, right_heads, start_all}
use Rattle.ft_items.specs.Store.{Assertion, premises_of}
use Rattle.ft_items.specs.Rows.{are_arguments, boundary_after, first_premises, moved, statements}
use Rattle.ft_items.specs.Good.{Reject as Reason, Premise as premise, Conclusion as conclusion, Set as set, reason_of_result, unless}
use Rattle.ft_sound.proofs.EqualLemmas.{equal_back, by_equal}
use Rattle.ft_syntax.specs.Instances.{instance_in}
use Rattle.ft_syntax.specs.Table.{tree, BodyBelow}
use Rattle.ft_judge.specs.Meaning.{under, goal_in, boundary_in, head_of_statement, head_of_claim as claim_head}
use Rattle.ft_judge.specs.declared.judgement.Goal.{Goal}
use Rattle.ft_judge.specs.declared.judgement.Goal.TheVariants as goal
use Rattle.ft_judge.specs.declared.judgement.Boundary.{Boundary as BoundaryValue}
use Rattle.ft_check.specs.Arguing.{AreTheses, IsAfter, IsPut, boundary_next}
use Rattle.ft_check.specs.Entries.{entry_in, with_step}
use Rattle.ft_check.specs.Equations.{AreSides, converted, directed, same_head}
use Rattle.ft_check.specs.Putting.{IsPutIn}
use Rattle.ft_check.specs.declared.after.After.{After}
use Rattle.ft_check.specs.declared.conversions.Way.{Way}
use Rattle.ft_check.specs.declared.conversions.Way.TheVariants.{Forth, Back}
use Rattle.ft_check.specs.declared.sides.Sides.{Sides}
use Rattle.ft_check.proofs.Argued.{after_is, theses_length}
use Rattle.ft_check.proofs.Concludes.{premise_not, reasons}
use Rattle.ft_check.proofs.NextBoundaries.{are_first}

-- A claim that fits a goal's instance with the head of a claim that fits another instance of the goal.
abbrev heads_same : Claim → Claim → Bool
heads_same e d = same_head (claim_head e) (claim_head d)

pub type_same : (e : Claim) (D : Expression) → (fits_goal e type_goal && heads_same e (is_type D)) ≡ equal_claims (is_type D) e
type_same (is_type E) D = equal_back E D
type_same (has_type t A) D = refl
type_same (equal_types A B) D = refl
type_same (equal_terms s t A) D = refl
type_same type_goal D = refl
type_same (term_goal A) D = refl
type_same (type_equation_goal A B) D = refl
type_same (term_equation_goal s t A) D = refl

pub term_same : (e : Claim) (u B C : Expression) → (fits_goal e (term_goal C) && heads_same e (has_type u B)) ≡ equal_claims (has_type u C) e
term_same (is_type E) u B C = refl
term_same (has_type t A) u B C = and_comm (equal_expressions A C) (equal_expressions t u) ∙ ap₂ ◌&&◌ (equal_back t u) (equal_back A C)
term_same (equal_types D E) u B C = refl
term_same (equal_terms s t A) u B C = refl
term_same type_goal u B C = refl
term_same (term_goal A) u B C = refl
term_same (type_equation_goal D E) u B C = refl
term_same (term_equation_goal s t A) u B C = refl

pub types_same : (e d : Claim) (C D : Expression) → (fits_goal e (type_equation_goal C D) && heads_same e d) ≡ equal_claims (equal_types C D) e
types_same (is_type E) d C D = refl
types_same (has_type t A) d C D = refl
types_same (equal_types A B) d C D = and-true (equal_expressions A C && equal_expressions B D) ∙ ap₂ ◌&&◌ (equal_back A C) (equal_back B D)
types_same (equal_terms s t A) d C D = refl
types_same type_goal d C D = refl
types_same (term_goal A) d C D = refl
types_same (type_equation_goal A B) d C D = refl
types_same (term_equation_goal s t A) d C D = refl

turned : (x y z : Bool) → (((x && y) && z) && true) ≡ ((y && z) && x)
turned true true true = refl
turned true true false = refl
turned true false z = refl
turned false true true = refl
turned false true false = refl
turned false false z = refl

pub terms_same : (e d : Claim) (u v C : Expression) → (fits_goal e (term_equation_goal u v C) && heads_same e d) ≡ equal_claims (equal_terms u v C) e
terms_same (is_type E) d u v C = refl
terms_same (has_type t A) d u v C = refl
terms_same (equal_types A B) d u v C = refl
terms_same (equal_terms s t A) d u v C =
    turned (equal_expressions A C) (equal_expressions s u) (equal_expressions t v)
    ∙ ap₂ ◌&&◌ (ap₂ ◌&&◌ (equal_back s u) (equal_back t v)) (equal_back A C)
terms_same type_goal d u v C = refl
terms_same (term_goal A) d u v C = refl
terms_same (type_equation_goal A B) d u v C = refl
terms_same (term_equation_goal s t A) d u v C = refl

pub directed_below : (w : Way) (s : Sides) → IsPutIn s.left → IsPutIn s.right → IsPutIn (directed w s).left × IsPutIn (directed w s).right
directed_below Forth s l r = (l, r)
directed_below Back s l r = (r, l)

-- what fits no goal
unfit : {P : Type 0} → false ≡ true → P
unfit h = absurd (no h)
  where
    no : false ≡ true → ⊥
    no e = cc

type_moved : (e d : Claim) → fits_goal d type_goal ≡ true → (fits_goal e type_goal && heads_same e d) ≡ equal_claims (fill_goal type_goal (head_of_claim d)) e
type_moved e (is_type D) h = type_same e D
type_moved e (has_type t A) h = unfit h
type_moved e (equal_types A B) h = unfit h
type_moved e (equal_terms s t A) h = unfit h
type_moved e type_goal h = unfit h
type_moved e (term_goal A) h = unfit h
type_moved e (type_equation_goal A B) h = unfit h
type_moved e (term_equation_goal s t A) h = unfit h

term_moved : (e d : Claim) (B C : Expression) → fits_goal d (term_goal B) ≡ true → (fits_goal e (term_goal C) && heads_same e d) ≡ equal_claims (fill_goal (term_goal C) (head_of_claim d)) e
term_moved e (is_type D) B C h = unfit h
term_moved e (has_type t A) B C h = term_same e t A C
term_moved e (equal_types A D) B C h = unfit h
term_moved e (equal_terms s t A) B C h = unfit h
term_moved e type_goal B C h = unfit h
term_moved e (term_goal A) B C h = unfit h
term_moved e (type_equation_goal A D) B C h = unfit h
term_moved e (term_equation_goal s t A) B C h = unfit h

no_claim_fits : {P : Type 0} (d c : Claim) → is_thesis_claim c ≡ true → fits_goal d c ≡ true → P
no_claim_fits (is_type A) (is_type B) k h = unfit h
no_claim_fits (is_type A) (has_type t B) k h = unfit h
no_claim_fits (is_type A) (equal_types B C) k h = unfit h
no_claim_fits (is_type A) (equal_terms s t B) k h = unfit h
no_claim_fits (has_type u A) (is_type B) k h = unfit h
no_claim_fits (has_type u A) (has_type t B) k h = unfit h
no_claim_fits (has_type u A) (equal_types B C) k h = unfit h
no_claim_fits (has_type u A) (equal_terms s t B) k h = unfit h
no_claim_fits (equal_types A D) (is_type B) k h = unfit h
no_claim_fits (equal_types A D) (has_type t B) k h = unfit h
no_claim_fits (equal_types A D) (equal_types B C) k h = unfit h
no_claim_fits (equal_types A D) (equal_terms s t B) k h = unfit h
no_claim_fits (equal_terms u v A) (is_type B) k h = unfit h
no_claim_fits (equal_terms u v A) (has_type t B) k h = unfit h
no_claim_fits (equal_terms u v A) (equal_types B C) k h = unfit h
no_claim_fits (equal_terms u v A) (equal_terms s t B) k h = unfit h
no_claim_fits type_goal (is_type B) k h = unfit h
no_claim_fits type_goal (has_type t B) k h = unfit h
no_claim_fits type_goal (equal_types B C) k h = unfit h
no_claim_fits type_goal (equal_terms s t B) k h = unfit h
no_claim_fits (term_goal A) (is_type B) k h = unfit h
no_claim_fits (term_goal A) (has_type t B) k h = unfit h
no_claim_fits (term_goal A) (equal_types B C) k h = unfit h
no_claim_fits (term_goal A) (equal_terms s t B) k h = unfit h
no_claim_fits (type_equation_goal A D) (is_type B) k h = unfit h
no_claim_fits (type_equation_goal A D) (has_type t B) k h = unfit h
no_claim_fits (type_equation_goal A D) (equal_types B C) k h = unfit h
no_claim_fits (type_equation_goal A D) (equal_terms s t B) k h = unfit h
no_claim_fits (term_equation_goal u v A) (is_type B) k h = unfit h
no_claim_fits (term_equation_goal u v A) (has_type t B) k h = unfit h
no_claim_fits (term_equation_goal u v A) (equal_types B C) k h = unfit h
no_claim_fits (term_equation_goal u v A) (equal_terms s t B) k h = unfit h
no_claim_fits d type_goal k h = unfit k
no_claim_fits d (term_goal B) k h = unfit k
no_claim_fits d (type_equation_goal B C) k h = unfit k
no_claim_fits d (term_equation_goal s t B) k h = unfit k

claim_moved : (f g : Expression → Expression) (c e d : Claim) → fits_goal d (map_claim f c) ≡ true
    → (fits_goal e (map_claim g c) && heads_same e d) ≡ equal_claims (fill_goal (map_claim g c) (head_of_claim d)) e
claim_moved f g type_goal e d h = type_moved e d h
claim_moved f g (term_goal B) e d h = term_moved e d (f B) (g B) h
claim_moved f g (type_equation_goal B C) e d h = types_same e d (g B) (g C)
claim_moved f g (term_equation_goal s t B) e d h = terms_same e d (g s) (g t) (g B)
claim_moved f g (is_type B) e d h = no_claim_fits d (is_type (f B)) refl h
claim_moved f g (has_type t B) e d h = no_claim_fits d (has_type (f t) (f B)) refl h
claim_moved f g (equal_types B C) e d h = no_claim_fits d (equal_types (f B) (f C)) refl h
claim_moved f g (equal_terms s t B) e d h = no_claim_fits d (equal_terms (f s) (f t) (f B)) refl h

second : (a b : Bool) → (a && b) ≡ true → b ≡ true
second true b h = h
second false b h = unfit h

statement_moved : (f g : ℕ → Expression → Expression) (k : ℕ) (b x y : Statement) → fits y (map_statement f k b) ≡ true
    → (fits x (map_statement g k b) && same_head (head_of_statement x) (head_of_statement y)) ≡ equal_statements (fill (map_statement g k b) (head y)) x
statement_moved f g k (plain c) (plain e) (plain d) h = claim_moved (f k) (g k) c e d h
statement_moved f g k (plain c) (abstracted A x) (plain d) h = refl
statement_moved f g k (plain c) x (abstracted A y) h = unfit h
statement_moved f g k (abstracted B b) x (plain d) h = unfit h
statement_moved f g k (abstracted B b) (plain e) (abstracted A y) h = refl
statement_moved f g k (abstracted B b) (abstracted C x) (abstracted A y) h =
    and_assoc (equal_expressions C (g k B)) (fits x (map_statement g (suc k) b)) (same_head (head_of_statement x) (head_of_statement y))
    ∙ ap₂ ◌&&◌ (equal_back C (g k B)) (statement_moved f g (suc k) b x y (second (equal_expressions A (f k B)) (fits y (map_statement f (suc k) b)) h))

-- the head of an entry
goal_head : (ts : List Expression) (As : List ℕ) (g : Goal) → None ≡ head_of_statement (under ts As (plain (goal_in ts g)))
goal_head ts (A ∷ As) g = goal_head ts As g
goal_head ts [] goal.Ty = refl
goal_head ts [] (goal.Tm A) = refl
goal_head ts [] (goal.EqTy A B) = refl
goal_head ts [] (goal.EqTm s t A) = refl

pub boundary_head : (ts : List Expression) (b : BoundaryValue) (x : Statement) → x ≡ boundary_in ts b → None ≡ head_of_statement x
boundary_head ts b x e = goal_head ts b.domains b.goal ∙ ap head_of_statement (sym e)

pub body_some : (n : ℕ) (b : Option ℕ) → BodyBelow n b → IfSome b (λ e. e < n)
body_some n None h = tt
body_some n (Some e) h = h

-- the heads of two entries
pub no_first : (ts : List Expression) (o : Option ℕ) (h k : Option Expression) → o ≡ None → option_map (tree ts) o ≡ h → true ≡ same_head h k
no_first ts o h k n e = ap (λ h. same_head h k) (sym (ap (option_map (tree ts)) n) ∙ e)

pub no_second : (ts : List Expression) (o p : Option ℕ) (a : ℕ) (h k : Option Expression) → o ≡ Some a → option_map (tree ts) o ≡ h → p ≡ None → option_map (tree ts) p ≡ k → false ≡ same_head h k
no_second ts o p a h k s e n f = ap₂ same_head (sym (ap (option_map (tree ts)) s) ∙ e) (sym (ap (option_map (tree ts)) n) ∙ f)

pub both_heads : (ts : List Expression) (o p : Option ℕ) (a b : ℕ) (h k : Option Expression) (t : Bool) → o ≡ Some a → option_map (tree ts) o ≡ h → p ≡ Some b → option_map (tree ts) p ≡ k → (IsTrue t ↔ (tree ts a ≡ tree ts b)) → t ≡ same_head h k
both_heads ts o p a b h k t s e n f q = by_equal (tree ts a) (tree ts b) t q ∙ ap₂ same_head (sym (ap (option_map (tree ts)) s) ∙ e) (sym (ap (option_map (tree ts)) n) ∙ f)

-- The way from one side to the other.
abbrev pub from_side : Way → List Statement → List Statement → Arguments
from_side Forth X Y = heads X
from_side Back X Y = right_heads X Y

abbrev pub to_side : Way → List Statement → List Statement → Arguments
to_side Forth X Y = right_heads X Y
to_side Back X Y = heads X

converted_is : (w : Way) (R : Rule) (X Y : List Statement) (y : Statement) → converted w R X Y y ≡ moved R X Y (from_side w X Y) (to_side w X Y) y
converted_is Forth R X Y y = refl
converted_is Back R X Y y = refl

from_put : (w : Way) (s : Sides) (ps : List (ℕ × Statement)) (X Y : List Statement) → AreSides s ps X Y → IsPut (directed w s).left ps (from_side w X Y)
from_put Forth s ps X Y h = h.left
from_put Back s ps X Y h = h.right

to_put : (w : Way) (s : Sides) (ps : List (ℕ × Statement)) (X Y : List Statement) → AreSides s ps X Y → IsPut (directed w s).right ps (to_side w X Y)
to_put Forth s ps X Y h = h.right
to_put Back s ps X Y h = h.left

-- the boundary that comes after the first premises, at arguments
bound_at : (ts : List Expression) (items : List Item) (x : After) (R : Rule) (ps : List ℕ) (xs : List Assertion) (a : Arguments) (k : IsAfter ts items x R (length ps)) → AreTheses items ps xs
    → map_statement (λ m. instantiate (instance_of (premises_of k.declared) a)) zero (entry_in ts x.boundary).statement ≡ boundary_after R (statements xs) a
bound_at ts items x R ps xs a k h =
    let X = statements xs in
    let same : length ps ≡ length X = theses_length items ps xs h in
    ap₂ (λ qs w. map_statement (λ k. instantiate (instance_of qs a)) zero w) (are_first ts items x R ps xs k h) (k.boundary.is ∙ ap (boundary_next R) same)
    ∙ sym (after_is R (length X) a)

-- the reasons
abbrev pub conditions : Way → Rule → List Statement → List Statement → Statement → Bool
conditions w R X Y y = nat_lt (length X) (length R.premises) && ((are_arguments (first_premises R X) X && start_all X Y) && fits y (boundary_after R X (from_side w X Y)))

not_converted : (w : Way) (R : Rule) (X Y : List Statement) (y : Statement) (Q : List Atom) (e : AnyEntry) → false ≡ conditions w R X Y y → Some premise ≡ reason_of_result (converted w R X Y y) Q e
not_converted w R X Y y Q e h =
    premise_not false (conditions w R X Y y) (fill (boundary_after R X (to_side w X Y)) (head y)) Q e refl h
    ∙ ap (λ o. reason_of_result o Q e) (sym (converted_is w R X Y y))

pub no_more : (w : Way) (items : List Item) (ps : List ℕ) (R : Rule) (xs : List Assertion) (Y : List Statement) (y : Statement) (Q : List Atom) (e : AnyEntry) → AreTheses items ps xs → length R.premises < length ps
    → Some premise ≡ reason_of_result (converted w R (statements xs) Y y) Q e
no_more w items ps R xs Y y Q e h l =
    let X = statements xs in
    let same : length ps ≡ length X = theses_length items ps xs h in
    not_converted w R X Y y Q e (ap (λ b. b && ((are_arguments (first_premises R X) X && start_all X Y) && fits y (boundary_after R X (from_side w X Y)))) (sym (le-ltb (length X) (length R.premises) (omega (arith, same, l)))))

pub no_premise : (w : Way) (ts : List Expression) (items : List Item) (x : After) (R : Rule) (ps : List ℕ) (xs : List Assertion) (Y : List Statement) (y : Statement) (Q : List Atom) (e : AnyEntry) → IsAfter ts items x R (length ps) → AreTheses items ps xs
    → x.is_premise ≡ false → Some premise ≡ reason_of_result (converted w R (statements xs) Y y) Q e
no_premise w ts items x R ps xs Y y Q e k h n =
    let X = statements xs in
    not_converted w R X Y y Q e (ap (λ b. b && ((are_arguments (first_premises R X) X && start_all X Y) && fits y (boundary_after R X (from_side w X Y))))
    (sym n ∙ k.more ∙ ap (λ n. nat_lt n (length R.premises)) (theses_length items ps xs h)))

no_both : (a b c d : Bool) → d ≡ b → d ≡ false → false ≡ (a && (b && c))
no_both a b c d e f = sym (ap (λ b. a && (b && c)) (sym e ∙ f) ∙ and-false a)

no_last : (a b c d : Bool) → d ≡ c → d ≡ false → false ≡ (a && (b && c))
no_last a b c d e f = sym (ap (λ c. a && (b && c)) (sym e ∙ f) ∙ ap (λ z. a && z) (and-false b) ∙ and-false a)

all_so : (a b c : Bool) → a ≡ true → b ≡ true → c ≡ true → true ≡ (a && (b && c))
all_so a b c h k l = sym (ap₂ (λ a b. a && (b && c)) h k ∙ l)

sides_there : (ts : List Expression) (items : List Item) (x : After) (R : Rule) (ps : List ℕ) (xs : List Assertion) (Y : List Statement) (d : Bool) (k : IsAfter ts items x R (length ps)) → AreTheses items ps xs
    → d ≡ (are_arguments (premises_of k.declared) (statements xs) && start_all (statements xs) Y) → d ≡ (are_arguments (first_premises R (statements xs)) (statements xs) && start_all (statements xs) Y)
sides_there ts items x R ps xs Y d k h f = f ∙ ap (λ qs. are_arguments qs (statements xs) && start_all (statements xs) Y) (are_first ts items x R ps xs k h)

pub no_sides_moved : (w : Way) (ts : List Expression) (items : List Item) (x : After) (R : Rule) (ps : List ℕ) (xs : List Assertion) (Y : List Statement) (y : Statement) (Q : List Atom) (e : AnyEntry) (d : Bool) (k : IsAfter ts items x R (length ps)) → AreTheses items ps xs
    → d ≡ (are_arguments (premises_of k.declared) (statements xs) && start_all (statements xs) Y) → d ≡ false
    → Some premise ≡ reason_of_result (converted w R (statements xs) Y y) Q e
no_sides_moved w ts items x R ps xs Y y Q e d k h f n =
    let X = statements xs in
    not_converted w R X Y y Q e (no_both (nat_lt (length X) (length R.premises)) (are_arguments (first_premises R X) X && start_all X Y) (fits y (boundary_after R X (from_side w X Y))) d (sides_there ts items x R ps xs Y d k h f) n)

fits_there : (w : Way) (ts : List Expression) (items : List Item) (x : After) (R : Rule) (ps : List ℕ) (xs : List Assertion) (Y : List Statement) (y : Statement) (s : Sides) (d : Bool) (k : IsAfter ts items x R (length ps)) → AreTheses items ps xs
    → AreSides s (premises_of k.declared) (statements xs) Y
    → d ≡ fits y (map_statement (λ k. instantiate (instance_in (directed w s).left.terms (directed w s).left.instance.pairs)) zero (entry_in ts x.boundary).statement)
    → d ≡ fits y (boundary_after R (statements xs) (from_side w (statements xs) Y))
fits_there w ts items x R ps xs Y y s d k h p f =
    f ∙ ap (λ i. fits y (map_statement (λ k. instantiate i) zero (entry_in ts x.boundary).statement)) (from_put w s (premises_of k.declared) (statements xs) Y p).instance
    ∙ ap (fits y) (bound_at ts items x R ps xs (from_side w (statements xs) Y) k h)

pub unfit_moved : (w : Way) (ts : List Expression) (items : List Item) (x : After) (R : Rule) (ps : List ℕ) (xs : List Assertion) (Y : List Statement) (y : Statement) (Q : List Atom) (e : AnyEntry) (s : Sides) (d : Bool) (k : IsAfter ts items x R (length ps)) → AreTheses items ps xs
    → AreSides s (premises_of k.declared) (statements xs) Y
    → d ≡ fits y (map_statement (λ k. instantiate (instance_in (directed w s).left.terms (directed w s).left.instance.pairs)) zero (entry_in ts x.boundary).statement)
    → d ≡ false → Some premise ≡ reason_of_result (converted w R (statements xs) Y y) Q e
unfit_moved w ts items x R ps xs Y y Q e s d k h p f n =
    let X = statements xs in
    not_converted w R X Y y Q e (no_last (nat_lt (length X) (length R.premises)) (are_arguments (first_premises R X) X && start_all X Y) (fits y (boundary_after R X (from_side w X Y))) d (fits_there w ts items x R ps xs Y y s d k h p f) n)

-- the conclusion
refilled : (ts : List Expression) (items : List Item) (x : After) (R : Rule) (ps : List ℕ) (xs : List Assertion) (a c : Arguments) (z y : Statement) (k : IsAfter ts items x R (length ps)) → AreTheses items ps xs
    → fits y (boundary_after R (statements xs) a) ≡ true
    → (fits z (boundary_after R (statements xs) c) && same_head (head_of_statement z) (head_of_statement y)) ≡ equal_statements (fill (boundary_after R (statements xs) c) (head y)) z
refilled ts items x R ps xs a c z y k h f =
    let B = (entry_in ts x.boundary).statement in
    let there : (b : Arguments) → map_statement (λ (m : ℕ). instantiate (instance_of (premises_of k.declared) b)) zero B ≡ boundary_after R (statements xs) b = λ b. bound_at ts items x R ps xs b k h in
    ap (λ w. fits z w && same_head (head_of_statement z) (head_of_statement y)) (sym (there c))
    ∙ statement_moved (λ m. instantiate (instance_of (premises_of k.declared) a)) (λ m. instantiate (instance_of (premises_of k.declared) c)) zero B z y (ap (fits y) (there a) ∙ f)
    ∙ ap (λ w. equal_statements (fill w (head y)) z) (there c)

pub moved_judged : (w : Way) (ts : List Expression) (items : List Item) (x : After) (R : Rule) (ps : List ℕ) (xs : List Assertion) (Y : List Statement) (y : Statement) (Q S : List Atom) (e : Assertion) (t : Stated) (s : Sides) (n d b m : Bool) (r : Option Reason)
    (k : IsAfter ts items x R (length ps)) → AreTheses items ps xs → x.is_premise ≡ true
    → n ≡ (are_arguments (premises_of k.declared) (statements xs) && start_all (statements xs) Y) → n ≡ true
    → AreSides s (premises_of k.declared) (statements xs) Y
    → d ≡ fits y (map_statement (λ k. instantiate (instance_in (directed w s).left.terms (directed w s).left.instance.pairs)) zero (entry_in ts x.boundary).statement) → d ≡ true
    → b ≡ (fits e.statement (map_statement (λ k. instantiate (instance_in (directed w s).right.terms (directed w s).right.instance.pairs)) zero (entry_in ts x.boundary).statement)
    && same_head (head_of_statement e.statement) (head_of_statement y))
    → S ≡ Q → m ≡ same_set S e.set → r ≡ unless b conclusion (unless m set None)
    → r ≡ reason_of_result (converted w R (statements xs) Y y) Q (with_step e t)
moved_judged w ts items x R ps xs Y y Q S e t s n d b m r k h q f g p l o c u v z =
    let X = statements xs in
    let fitted = fits_there w ts items x R ps xs Y y s d k h p l in
    let wanted = fill (boundary_after R X (to_side w X Y)) (head y) in
    reasons true (conditions w R X Y y) b m wanted Q (with_step e t) r refl
    (all_so (nat_lt (length X) (length R.premises)) (are_arguments (first_premises R X) X && start_all X Y) (fits y (boundary_after R X (from_side w X Y)))
    (sym (k.more ∙ ap (λ n. nat_lt n (length R.premises)) (theses_length items ps xs h)) ∙ q)
    (sym (sides_there ts items x R ps xs Y n k h f) ∙ g) (sym fitted ∙ o))
    (c ∙ ap (λ i. fits e.statement (map_statement (λ k. instantiate i) zero (entry_in ts x.boundary).statement) && same_head (head_of_statement e.statement) (head_of_statement y)) (to_put w s (premises_of k.declared) X Y p).instance
    ∙ ap (λ z. fits e.statement z && same_head (head_of_statement e.statement) (head_of_statement y)) (bound_at ts items x R ps xs (to_side w X Y) k h)
    ∙ refilled ts items x R ps xs (from_side w X Y) (to_side w X Y) e.statement y k h (sym fitted ∙ o))
    (v ∙ ap (λ S. same_set S e.set) u) z
    ∙ ap (λ o. reason_of_result o Q (with_step e t)) (sym (converted_is w R X Y y))
