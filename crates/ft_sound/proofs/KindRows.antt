-- What a step concludes is a thesis or a boundary as its row says.
use Rattle.std.proofs.Common.{◌≡◌, ℕ, zero, suc, true, false, nat_lt, ◌&&◌, not, Option, Some, None, List, [], ◌∷◌, length, ◌⊎◌, inl, inr, refl, ap, ◌∙◌, subst}
use Rattle.std.specs.Prelude.{option_map}
use Rattle.std.proofs.lemmas.Option.{same_Some}
use Rattle.std.proofs.lemmas.Bool.{and_parts}
use Rattle.ft_common.proofs.Options.{none_some}
use Rattle.ft_theory.specs.Expressions.{Expression, bound, free, symbol, meta, Arguments, no_arguments, with_body, dummy, Terms, no_terms, also, act, open_at}
use Rattle.ft_theory.specs.Statements.{Claim, is_type, has_type, equal_types, equal_terms, type_goal, term_goal, type_equation_goal, term_equation_goal, Statement, plain, abstracted, map_claim, map_statement, act_statement, close_statement, opened, domain_count, at, fill_goal, fill, equate_goal, equate, IsObjectGoal, IsEquationGoal, IsObject, IsEquation, boundary_of_claim, boundary_of}
use Rattle.ft_theory.specs.Rules.{Rule, rule_at, instance_of, BoundaryAfter, filled_premises, term_typings, conclusion_at}
use Rattle.ft_theory.specs.Steps.{Prim}
use Rattle.ft_laws.proofs.Finitary.{boundary_after}
use Rattle.ft_laws.proofs.Statements.{object_goal-map}
use Rattle.ft_items.specs.Equal.{equal_expressions, equal_statements, is_thesis_claim, is_thesis, is_object_goal, is_object, has_head, head, fits, heads, start_all, right_heads, typed, terms, paired, left_terms, right_terms}
use Rattle.ft_items.specs.Item.{by_var, by_generic, by_meta, by_metacong, by_abs, by_subst, by_substeq, by_refl, by_sym, by_trans, by_conv, by_conveq, by_left, by_right, by_typeof, by_domain, by_boundary, by_widen, by_btype, by_bterm, by_beqty, by_beqtm, by_rule, by_rulewith, by_inst, by_cong, by_convprem, by_convback, by_arg, by_natural, by_metainst}
use Rattle.ft_items.specs.Store.{Declared, nth, Resolved, premises_of, Declarations}
use Rattle.ft_items.specs.Rows.{statements, bounds, conclusion, concludes_thesis, theses, boundaries}
use Rattle.ft_items.specs.Rows as row
use Rattle.ft_items.specs.Good.{all_theses, of_kind}
use Rattle.ft_sound.proofs.EqualLemmas.{refill, object_true, object_claim_true}
use Rattle.ft_sound.proofs.Valid.{WellFormed, sound_rules}
use Rattle.ft_sound.proofs.Structural.{from_when}
use Rattle.ft_sound.proofs.RuleRows.{boundary_after_is}
use Rattle.ft_sound.proofs.Steps.{Parts}
use Rattle.ft_laws.proofs.Scope.{object-at}

fill_claim_kind : (c : Claim) (h : Expression) → is_thesis_claim (fill_goal c h) ≡ true
fill_claim_kind (is_type A) h = refl
fill_claim_kind (has_type t A) h = refl
fill_claim_kind (equal_types A B) h = refl
fill_claim_kind (equal_terms s t A) h = refl
fill_claim_kind type_goal h = refl
fill_claim_kind (term_goal A) h = refl
fill_claim_kind (type_equation_goal A B) h = refl
fill_claim_kind (term_equation_goal s t A) h = refl

fill_kind : (b : Statement) (h : Expression) → is_thesis (fill b h) ≡ true
fill_kind (plain c) h = fill_claim_kind c h
fill_kind (abstracted A b) h = fill_kind b h

equate_claim_kind : (c : Claim) (h k : Expression) → IsObjectGoal c → is_thesis_claim (equate_goal c h k) ≡ true
equate_claim_kind type_goal h k o = refl
equate_claim_kind (term_goal A) h k o = refl
equate_claim_kind (is_type A) h k o = refl
equate_claim_kind (has_type t A) h k o = refl
equate_claim_kind (equal_types A B) h k o = refl
equate_claim_kind (equal_terms s t A) h k o = refl
equate_claim_kind (type_equation_goal A B) h k o = absurd o
equate_claim_kind (term_equation_goal s t A) h k o = absurd o

equate_kind : (b : Statement) (h k : Expression) → IsObject b → is_thesis (equate b h k) ≡ true
equate_kind (plain c) h k o = equate_claim_kind c h k o
equate_kind (abstracted A b) h k o = equate_kind b h k o

map_claim_kind : (c : Claim) (f : Expression → Expression) → is_thesis_claim (map_claim f c) ≡ is_thesis_claim c
map_claim_kind (is_type A) f = refl
map_claim_kind (has_type t A) f = refl
map_claim_kind (equal_types A B) f = refl
map_claim_kind (equal_terms s t A) f = refl
map_claim_kind type_goal f = refl
map_claim_kind (term_goal A) f = refl
map_claim_kind (type_equation_goal A B) f = refl
map_claim_kind (term_equation_goal s t A) f = refl

map_kind : (x : Statement) (f : ℕ → Expression → Expression) (k : ℕ) → is_thesis (map_statement f k x) ≡ is_thesis x
map_kind (plain c) f k = map_claim_kind c (f k)
map_kind (abstracted A x) f k = map_kind x f (suc k)

boundary_claim_kind : (c : Claim) → is_thesis_claim (boundary_of_claim c) ≡ false
boundary_claim_kind (is_type A) = refl
boundary_claim_kind (has_type t A) = refl
boundary_claim_kind (equal_types A B) = refl
boundary_claim_kind (equal_terms s t A) = refl
boundary_claim_kind type_goal = refl
boundary_claim_kind (term_goal A) = refl
boundary_claim_kind (type_equation_goal A B) = refl
boundary_claim_kind (term_equation_goal s t A) = refl

boundary_of_kind : (x : Statement) → is_thesis (boundary_of x) ≡ false
boundary_of_kind (plain c) = boundary_claim_kind c
boundary_of_kind (abstracted A x) = boundary_of_kind x

claim_boundary : (c : Claim) → IsObjectGoal c ⊎ IsEquationGoal c → is_thesis_claim c ≡ false
claim_boundary type_goal h = refl
claim_boundary (term_goal A) h = refl
claim_boundary (type_equation_goal A B) h = refl
claim_boundary (term_equation_goal s t A) h = refl
claim_boundary (is_type A) (inl h) = absurd h
claim_boundary (is_type A) (inr h) = absurd h
claim_boundary (has_type t A) (inl h) = absurd h
claim_boundary (has_type t A) (inr h) = absurd h
claim_boundary (equal_types A B) (inl h) = absurd h
claim_boundary (equal_types A B) (inr h) = absurd h
claim_boundary (equal_terms s t A) (inl h) = absurd h
claim_boundary (equal_terms s t A) (inr h) = absurd h

statement_boundary : (x : Statement) → IsObject x ⊎ IsEquation x → is_thesis x ≡ false
statement_boundary (plain c) h = claim_boundary c h
statement_boundary (abstracted A x) h = statement_boundary x h

abbrev Thesis : Statement → Type 0
Thesis y = is_thesis y ≡ true

substitution_kind : (x z y : Statement) → row.substitution x z ≡ Some y → is_thesis y ≡ is_thesis x
substitution_kind (abstracted A x) (plain (has_type t B)) y e = from_when (λ y. is_thesis y ≡ is_thesis (abstracted A x)) (equal_expressions A B) (opened t (abstracted A x)) y e (λ h. map_kind x (λ l. open_at l t) zero)
substitution_kind x z y e = none_some e

equal_substitution_kind : (x z y : Statement) → row.equal_substitution x z ≡ Some y → Thesis y
equal_substitution_kind (abstracted A x) (plain (equal_terms s t B)) y e =
    from_when Thesis (has_head x && equal_expressions A B) (equate (opened s (abstracted A (boundary_of x))) (open_at (domain_count x) s (head x)) (open_at (domain_count x) t (head x))) y e
    (λ h. equate_kind (opened s (abstracted A (boundary_of x))) (open_at (domain_count x) s (head x)) (open_at (domain_count x) t (head x))
    (Rattle.ft_laws.proofs.Statements.object-opened (abstracted A (boundary_of x)) s (refill x (and_parts (has_head x) (equal_expressions A B) h).0).0))
equal_substitution_kind x z y e = none_some e

symmetry_kind : (x y : Statement) → row.symmetry x ≡ Some y → Thesis y
symmetry_kind (plain (equal_types A B)) y e = subst Thesis (same_Some (plain (equal_types B A)) y e) refl
symmetry_kind (plain (equal_terms s t A)) y e = subst Thesis (same_Some (plain (equal_terms t s A)) y e) refl
symmetry_kind x y e = none_some e

transitivity_kind : (x z y : Statement) → row.transitivity x z ≡ Some y → Thesis y
transitivity_kind (plain (equal_types A B)) (plain (equal_types C D)) y e = from_when Thesis (equal_expressions B C) (plain (equal_types A D)) y e (λ h. refl)
transitivity_kind (plain (equal_terms s t A)) (plain (equal_terms u v B)) y e = from_when Thesis (equal_expressions A B && equal_expressions t u) (plain (equal_terms s v A)) y e (λ h. refl)
transitivity_kind x z y e = none_some e

conversion_kind : (x z y : Statement) → row.conversion x z ≡ Some y → Thesis y
conversion_kind (plain (has_type t A)) (plain (equal_types B C)) y e = from_when Thesis (equal_expressions A B) (plain (has_type t C)) y e (λ h. refl)
conversion_kind x z y e = none_some e

equation_conversion_kind : (x z y : Statement) → row.equation_conversion x z ≡ Some y → Thesis y
equation_conversion_kind (plain (equal_terms s t A)) (plain (equal_types B C)) y e = from_when Thesis (equal_expressions A B) (plain (equal_terms s t C)) y e (λ h. refl)
equation_conversion_kind x z y e = none_some e

left_kind : (c d : Claim) → row.left_side c ≡ Some d → is_thesis_claim d ≡ true
left_kind (equal_types A B) d e = subst (λ z. is_thesis_claim z ≡ true) (same_Some (is_type A) d e) refl
left_kind (equal_terms s t A) d e = subst (λ z. is_thesis_claim z ≡ true) (same_Some (has_type s A) d e) refl
left_kind (type_equation_goal A B) d e = subst (λ z. is_thesis_claim z ≡ true) (same_Some (is_type A) d e) refl
left_kind (term_equation_goal s t A) d e = subst (λ z. is_thesis_claim z ≡ true) (same_Some (has_type s A) d e) refl
left_kind c d e = none_some e

right_kind : (c d : Claim) → row.right_side c ≡ Some d → is_thesis_claim d ≡ true
right_kind (equal_types A B) d e = subst (λ z. is_thesis_claim z ≡ true) (same_Some (is_type B) d e) refl
right_kind (equal_terms s t A) d e = subst (λ z. is_thesis_claim z ≡ true) (same_Some (has_type t A) d e) refl
right_kind (type_equation_goal A B) d e = subst (λ z. is_thesis_claim z ≡ true) (same_Some (is_type B) d e) refl
right_kind (term_equation_goal s t A) d e = subst (λ z. is_thesis_claim z ≡ true) (same_Some (has_type t A) d e) refl
right_kind c d e = none_some e

type_kind : (c d : Claim) → row.type_part c ≡ Some d → is_thesis_claim d ≡ true
type_kind (has_type t A) d e = subst (λ z. is_thesis_claim z ≡ true) (same_Some (is_type A) d e) refl
type_kind (equal_terms s t A) d e = subst (λ z. is_thesis_claim z ≡ true) (same_Some (is_type A) d e) refl
type_kind (term_goal A) d e = subst (λ z. is_thesis_claim z ≡ true) (same_Some (is_type A) d e) refl
type_kind (term_equation_goal s t A) d e = subst (λ z. is_thesis_claim z ≡ true) (same_Some (is_type A) d e) refl
type_kind c d e = none_some e

under_kind : (f : Claim → Option Claim) → ((c d : Claim) → f c ≡ Some d → is_thesis_claim d ≡ true) → (x y : Statement) → row.under_domains f x ≡ Some y → Thesis y
under_kind f h (plain c) y e = go (f c) refl e
  where
    go : (o : Option Claim) → f c ≡ o → option_map plain o ≡ Some y → Thesis y
    go None q e = none_some e
    go (Some d) q e = subst Thesis (same_Some (plain d) y e) (h c d q)
under_kind f h (abstracted A x) y e = go (row.under_domains f x) refl e (under_kind f h x)
  where
    go : (o : Option Statement) → row.under_domains f x ≡ o → option_map (abstracted A) o ≡ Some y → ((z : Statement) → row.under_domains f x ≡ Some z → Thesis z) → Thesis y
    go None q e ih = none_some e
    go (Some z) q e ih = subst Thesis (same_Some (abstracted A z) y e) (ih z q)

domain_kind : (x y : Statement) → row.first_domain x ≡ Some y → Thesis y
domain_kind (plain c) y e = none_some e
domain_kind (abstracted A x) y e = subst Thesis (same_Some (plain (is_type A)) y e) refl

term_boundary_kind : (x y : Statement) → row.term_boundary x ≡ Some y → is_thesis y ≡ false
term_boundary_kind (plain (is_type A)) y e = subst (λ z. is_thesis z ≡ false) (same_Some (plain (term_goal A)) y e) refl
term_boundary_kind x y e = none_some e

type_equation_boundary_kind : (x z y : Statement) → row.type_equation_boundary x z ≡ Some y → is_thesis y ≡ false
type_equation_boundary_kind (plain (is_type A)) (plain (is_type B)) y e = subst (λ z. is_thesis z ≡ false) (same_Some (plain (type_equation_goal A B)) y e) refl
type_equation_boundary_kind x z y e = none_some e

term_equation_boundary_kind : (x u v y : Statement) → row.term_equation_boundary x u v ≡ Some y → is_thesis y ≡ false
term_equation_boundary_kind (plain (is_type A)) (plain (has_type s B)) (plain (has_type t C)) y e = from_when (λ z. is_thesis z ≡ false) (equal_expressions B A && equal_expressions C A) (plain (term_equation_goal s t A)) y e (λ h. refl)
term_equation_boundary_kind x u v y e = none_some e

-- all of a list
abbrev AllTheses : List Statement → Type 0
AllTheses [] = Unit {0}
AllTheses (x ∷ xs) = Thesis x × AllTheses xs

filled_kind : (i : ℕ → ℕ → Option Expression) (ps : List (ℕ × Statement)) (a : Arguments) → AllTheses (filled_premises i ps a)
filled_kind i [] a = tt
filled_kind i (p ∷ ps) no_arguments = tt
filled_kind i (p ∷ ps) (with_body n e a) = (fill_kind (act_statement free i p.1) e, filled_kind i ps a)
filled_kind i (p ∷ ps) (dummy n a) = (fill_kind (act_statement free i p.1) (bound zero), filled_kind i ps a)

typings_kind : (a : Terms) (x : Statement) → AllTheses (term_typings x a)
typings_kind no_terms x = tt
typings_kind (also t a) x = (refl, typings_kind a (opened t x))

place_kind : (xs : List Statement) (i : ℕ) (y : Statement) → AllTheses xs → nth xs i ≡ Some y → Thesis y
place_kind [] i y h e = none_some e
place_kind (x ∷ xs) zero y h e = subst Thesis (same_Some x y e) h.0
place_kind (x ∷ xs) (suc i) y h e = place_kind xs i y h.1 e

from_one_kind : (xs : List Statement) (i : ℕ) (y : Statement) → AllTheses xs → row.from_one xs i ≡ Some y → Thesis y
from_one_kind xs zero y h e = none_some e
from_one_kind xs (suc i) y h e = place_kind xs i y h e

arguments_kind : (W : Declarations) (e : Expression) → AllTheses (row.arguments_of W e)
arguments_kind W (bound i) = tt
arguments_kind W (free v) = tt
arguments_kind W (symbol r a) = go (rule_at W.rules r)
  where
    go : (o : Option Rule) → AllTheses (row.rule_arguments o a)
    go None = tt
    go (Some R) = filled_kind (instance_of R.premises a) R.premises a
arguments_kind W (meta m a) = go (nth W.metavariables m)
  where
    go : (o : Option Declared) → AllTheses (row.meta_arguments o a)
    go None = tt
    go (Some d) = typings_kind a d.boundary

argument_kind : (W : Declarations) (i : ℕ) (x y : Statement) → row.argument W i x ≡ Some y → Thesis y
argument_kind W i (plain (is_type t)) y e = from_one_kind (row.arguments_of W t) i y (arguments_kind W t) e
argument_kind W i (plain (has_type t A)) y e = from_one_kind (row.arguments_of W t) i y (arguments_kind W t) e
argument_kind W i x y e = none_some e

natural_kind : (W : Declarations) (x y : Statement) → row.natural W x ≡ Some y → Thesis y
natural_kind W (plain (has_type t A)) y e = go (row.natural_type W t) e
  where
    go : (o : Option Expression) → option_map (λ N. plain (equal_types N A)) o ≡ Some y → Thesis y
    go None e = none_some e
    go (Some N) e = subst Thesis (same_Some (plain (equal_types N A)) y e) refl
natural_kind W x y e = none_some e

moved_kind : (R : Rule) (xs es : List Statement) (a c : Arguments) (x y : Statement) → row.moved R xs es a c x ≡ Some y → Thesis y
moved_kind R xs es a c x y e = from_when Thesis (nat_lt (length xs) (length R.premises) && ((row.are_arguments (row.first_premises R xs) xs && start_all xs es) && fits x (row.boundary_after R xs a))) (fill (row.boundary_after R xs c) (head x)) y e
    (λ h. fill_kind (row.boundary_after R xs c) (head x))

instance_kind : (W : Declarations) → WellFormed W → (r : ℕ) (R : Rule) → rule_at W.rules r ≡ Some R → (xs : List Statement) (y : Statement) → row.boundary_instance R xs ≡ Some y → is_thesis y ≡ false
instance_kind W F r R q xs y e =
    let ps : List (ℕ × Statement) = row.first_premises R xs in
    let k : (b : Statement) × BoundaryAfter R ps b × ((a : Arguments) → row.boundary_after R xs a ≡ row.at_arguments ps a b) = boundary_after_is R xs in
    from_when (λ z. is_thesis z ≡ false) (row.are_arguments ps xs) (row.boundary_after R xs (heads xs)) y e
    (λ h. ap is_thesis (k.2 (heads xs)) ∙ map_kind k.0 (λ l. act free (instance_of ps (heads xs))) zero
    ∙ statement_boundary k.0 (boundary_after (λ M x. Prim W.rules M [] x) R ps k.0 (sound_rules W F r R q) k.1).0)

pub conclusion_kind : (W : Declarations) (F : WellFormed W) (s : Resolved) → Parts W F s → of_kind s ≡ true → (y : Statement) → conclusion W s ≡ Some y → is_thesis y ≡ concludes_thesis s
conclusion_kind W F (by_var v) h k y e = subst Thesis (same_Some (plain (has_type (free v.0) v.1.annotation)) y e) refl
conclusion_kind W F (by_generic m) h k y e = subst Thesis (same_Some (fill m.1.boundary (meta m.0 (bounds (domain_count m.1.boundary)))) y e) (fill_kind m.1.boundary (meta m.0 (bounds (domain_count m.1.boundary))))
conclusion_kind W F (by_meta m ps) h k y e = from_when Thesis (typed m.1.boundary (statements ps)) (fill (at m.1.boundary (terms (statements ps))) (meta m.0 (terms (statements ps)))) y e (λ t. fill_kind (at m.1.boundary (terms (statements ps))) (meta m.0 (terms (statements ps))))
conclusion_kind W F (by_metacong m es) h k y e =
    let b : Statement = m.1.boundary in
    let l : Terms = left_terms (statements es) in
    let r : Terms = right_terms (statements es) in
    from_when Thesis (is_object b && paired b (statements es)) (equate (at b l) (meta m.0 l) (meta m.0 r)) y e (λ t. equate_kind (at b l) (meta m.0 l) (meta m.0 r) (object-at l b (object_true b (and_parts (is_object b) (paired b (statements es)) t).0)))
conclusion_kind W F (by_abs v p) h k y e = from_when (λ z. is_thesis z ≡ is_thesis p.statement) (not (row.depends W.variables v.0 p.set)) (abstracted v.1.annotation (close_statement v.0 p.statement)) y e (λ t. map_kind p.statement (λ l. Rattle.ft_theory.specs.Expressions.close_at l v.0) zero)
conclusion_kind W F (by_subst p t) h k y e = substitution_kind p.statement t.statement y e
conclusion_kind W F (by_substeq p t) h k y e = equal_substitution_kind p.statement t.statement y e
conclusion_kind W F (by_refl p) h k y e = from_when Thesis (has_head p.statement) (equate (boundary_of p.statement) (head p.statement) (head p.statement)) y e (λ t. equate_kind (boundary_of p.statement) (head p.statement) (head p.statement) (refill p.statement t).0)
conclusion_kind W F (by_sym p) h k y e = symmetry_kind p.statement y e
conclusion_kind W F (by_trans p q) h k y e = transitivity_kind p.statement q.statement y e
conclusion_kind W F (by_conv p q) h k y e = conversion_kind p.statement q.statement y e
conclusion_kind W F (by_conveq p q) h k y e = equation_conversion_kind p.statement q.statement y e
conclusion_kind W F (by_left p) h k y e = under_kind row.left_side left_kind p.statement y e
conclusion_kind W F (by_right p) h k y e = under_kind row.right_side right_kind p.statement y e
conclusion_kind W F (by_typeof p) h k y e = under_kind row.type_part type_kind p.statement y e
conclusion_kind W F (by_domain p) h k y e = domain_kind p.statement y e
conclusion_kind W F (by_boundary p) h k y e = subst (λ z. is_thesis z ≡ false) (same_Some (boundary_of p.statement) y e) (boundary_of_kind p.statement)
conclusion_kind W F (by_widen p q) h k y e =
    subst Thesis (same_Some p.statement y e) (and_parts (is_thesis p.statement) (all_theses (q ∷ [])) (and_parts (all_theses (p ∷ q ∷ [])) true k).0).0
conclusion_kind W F by_btype h k y e = subst (λ z. is_thesis z ≡ false) (same_Some (plain type_goal) y e) refl
conclusion_kind W F (by_bterm p) h k y e = term_boundary_kind p.statement y e
conclusion_kind W F (by_beqty p q) h k y e = type_equation_boundary_kind p.statement q.statement y e
conclusion_kind W F (by_beqtm p s t) h k y e = term_equation_boundary_kind p.statement s.statement t.statement y e
conclusion_kind W F (by_rule r ps) h k y e = from_when Thesis (row.are_arguments r.1.premises (statements ps)) (plain (fill_goal (conclusion_at r.1 (heads (statements ps))) (symbol r.0 (heads (statements ps))))) y e (λ t. fill_claim_kind (conclusion_at r.1 (heads (statements ps))) (symbol r.0 (heads (statements ps))))
conclusion_kind W F (by_rulewith r b ps) h k y e = from_when Thesis (row.are_arguments r.1.premises (statements ps) && equal_statements b.statement (plain (conclusion_at r.1 (heads (statements ps))))) (plain (fill_goal (conclusion_at r.1 (heads (statements ps))) (symbol r.0 (heads (statements ps))))) y e (λ t. fill_claim_kind (conclusion_at r.1 (heads (statements ps))) (symbol r.0 (heads (statements ps))))
conclusion_kind W F (by_inst r ps) h k y e = instance_kind W F r.0 r.1 h.0 (statements ps) y e
conclusion_kind W F (by_cong r ps es) h k y e =
    let c : Claim = conclusion_at r.1 (heads (statements ps)) in
    let l : Expression = symbol r.0 (heads (statements ps)) in
    let s : Expression = symbol r.0 (right_heads (statements ps) (statements es)) in
    from_when Thesis ((is_object_goal r.1.conclusion && row.are_arguments r.1.premises (statements ps)) && start_all (statements ps) (statements es)) (plain (equate_goal c l s)) y e
    (λ t. equate_claim_kind c l s (object_goal-map r.1.conclusion (act free (instance_of r.1.premises (heads (statements ps))))
    (object_claim_true r.1.conclusion (and_parts (is_object_goal r.1.conclusion) (row.are_arguments r.1.premises (statements ps)) (and_parts (is_object_goal r.1.conclusion && row.are_arguments r.1.premises (statements ps)) (start_all (statements ps) (statements es)) t).0).0)))
conclusion_kind W F (by_convprem r ps es q) h k y e = moved_kind r.1 (statements ps) (statements es) (heads (statements ps)) (right_heads (statements ps) (statements es)) q.statement y e
conclusion_kind W F (by_convback r ps es q) h k y e = moved_kind r.1 (statements ps) (statements es) (right_heads (statements ps) (statements es)) (heads (statements ps)) q.statement y e
conclusion_kind W F (by_arg i p) h k y e = argument_kind W i p.statement y e
conclusion_kind W F (by_natural p) h k y e = natural_kind W p.statement y e
conclusion_kind W F (by_metainst p ms qs) h k y e = from_when (λ z. is_thesis z ≡ is_thesis p.statement) (((row.differ (row.atoms ms) && row.on_earlier [] ms) && Rattle.ft_items.specs.Sets.is_within p.set (row.atoms ms)) && row.are_arguments (premises_of ms) (statements qs)) (row.at_arguments (premises_of ms) (heads (statements qs)) p.statement) y e (λ t. map_kind p.statement (λ l. act free (instance_of (premises_of ms) (heads (statements qs)))) zero)
