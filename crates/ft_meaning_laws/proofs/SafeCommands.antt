-- Bodies and premises that have types are never stuck, and give boundaries of the kind that typing tells, one for each premise.
use Rattle.std.proofs.Common.{◌≡◌, ℕ, suc, ◌+◌, Bool, true, false, cond, Option, Some, None, Ok, Err, List, [], ◌∷◌, ◌++◌, length, length-append, refl, sym, ap, ◌∙◌, subst, arith}
use Rattle.std.specs.Prelude.{option_map}
use Rattle.std.proofs.lemmas.Option.{same_Some}
use Rattle.ft_common.proofs.Options.{none_some}
use Rattle.ft_common.proofs.Results.{ok_ok, err_ok}
use Rattle.ft_theory.specs.Statements.{is_type, has_type, type_goal, term_goal, type_equation_goal, term_equation_goal, Statement, plain}
use Rattle.ft_items.specs.Item.{Name, by_btype, by_bterm, by_beqty, by_beqtm}
use Rattle.ft_items.specs.Store.{Assertion, Annotation, Declared, Resolved, claim_in, add_metavariable, Declarations}
use Rattle.ft_items.specs.Rows.{atoms, when, term_boundary, type_equation_boundary, term_equation_boundary, conclusion, result_set}
use Rattle.ft_items.specs.Equal.{is_object_goal}
use Rattle.ft_items.specs.Good.{of_kind, given}
use Rattle.ft_reference.specs.Refusals.{Refusal, WrongForm, first_refusal}
use Rattle.ft_reference.specs.Checks.{checks}
use Rattle.ft_reference.specs.Calls.{answered, answer}
use Rattle.ft_reference.specs.Nucleus as reference
use Rattle.ft_reference.specs.Declare.{Outcome as Declaration, outcome, RuleFault, OpenPremise, Draft, next_metavariable, first_outside}
use Rattle.ft_equality.specs.Results as results
use Rattle.ft_grammar.specs.declared.syntax.Named.{Named}
use Rattle.ft_meaning.specs.Trees.{ValueType, Form, place, Binder, Body, type_body, term_body, types_body, terms_body, Premise}
use Rattle.ft_meaning.specs.Trees as type
use Rattle.ft_meaning.specs.Typing.{Scope, with_value, ensure_type, ensure_new, type_of}
use Rattle.ft_meaning.specs.CommandTyping.{ensure_judgement, binders_scope, body_typed, premise_typed, premises_scope, makes_symbol}
use Rattle.ft_meaning.specs.Values.{Value, judgement, Environment, OfRule, fails, halts, nucleus, as_judgement}
use Rattle.ft_meaning.specs.Forms.{meaning, judgement_of, make_variable}
use Rattle.ft_meaning.specs.Commands.{Bound, bind_all, boundary_by, abstract_all, after_premise, add_premise, declare_premises}
use Rattle.ft_meaning_laws.specs.Fits.{HasType, HaveTypes, CanCoerce}
use Rattle.ft_meaning_laws.proofs.Typed.{ground, Safe, IsSafe, Any, safe_here, safe_bind, safe_pure, safe_asked, safe_nucleus, safe_make, safe_judgement, ok_then, ok_both, wanted_is}
use Rattle.ft_meaning_laws.proofs.SafeWords.{Of}
use Rattle.ft_meaning_laws.proofs.SafeForms.{safe_meaning}

-- a form that is a judgement
pub safe_judgement_of : (e : Form) (sc : Scope) (x : Unit {0}) → ensure_judgement e sc ≡ Ok x → (G : Environment) → HaveTypes G sc.values → CanCoerce (ground sc) → IsSafe Assertion (ground sc) Any (judgement_of e G)
safe_judgement_of e sc x u G g c =
    let k : (A : ValueType) × ((type_of e sc ≡ Ok A) × (ensure_type (place e) type.judgement A ≡ Ok x)) = ok_then (type_of e sc) (ensure_type (place e) type.judgement) x u in
    safe_bind Value Assertion (ground sc) (Of k.0) Any (meaning e G) as_judgement (safe_meaning e sc G k.0 k.1.0 g c) (λ v h. safe_judgement (ground sc) v (subst (HasType v) (wanted_is (place e) type.judgement k.0 x k.1.1) h))

-- binders
pub inner_ground : (bs : List Binder) (sc inner : Scope) → binders_scope bs sc ≡ Ok inner → ground inner ≡ ground sc
inner_ground [] sc inner u = ap ground (sym (ok_ok sc inner u))
inner_ground (b ∷ bs) sc inner u = inner_ground bs (with_value b.name.name type.judgement sc) inner (ok_both (ensure_judgement b.domain sc) (binders_scope bs (with_value b.name.name type.judgement sc)) inner u).1

abbrev BindersTyped : Scope → Environment × List Bound → Type 0
BindersTyped inner p = HaveTypes p.0 inner.values

safe_binders : (bs : List Binder) (sc inner : Scope) → binders_scope bs sc ≡ Ok inner → (G : Environment) (xs : List Bound) → HaveTypes G sc.values → CanCoerce (ground sc) → IsSafe (Environment × List Bound) (ground sc) (BindersTyped inner) (bind_all bs G xs)
safe_binders [] sc inner u G xs g c = safe_pure (Environment × List Bound) (ground sc) (BindersTyped inner) (G, xs) (subst (λ (z : Scope). HaveTypes G z.values) (ok_ok sc inner u) g)
safe_binders (b ∷ bs) sc inner u G xs g c =
    let k : ((x : Unit {0}) × (ensure_judgement b.domain sc ≡ Ok x)) × (binders_scope bs (with_value b.name.name type.judgement sc) ≡ Ok inner) = ok_both (ensure_judgement b.domain sc) (binders_scope bs (with_value b.name.name type.judgement sc)) inner u in
    safe_bind Assertion (Environment × List Bound) (ground sc) Any (BindersTyped inner) (judgement_of b.domain G) _ (safe_judgement_of b.domain sc k.0.0 k.0.1 G g c) (λ A p.
    safe_bind (ℕ × Annotation) (Environment × List Bound) (ground sc) Any (BindersTyped inner) (make_variable b.name.at b.name.name A) _ (safe_make (ground sc) b.name.at b.name.name A) (λ x q.
    safe_bind Assertion (Environment × List Bound) (ground sc) Any (BindersTyped inner) (nucleus b.name.at (λ W. reference.variable W x)) _ (safe_nucleus (ground sc) b.name.at (λ W. reference.variable W x)) (λ j r.
    safe_binders bs (with_value b.name.name type.judgement sc) inner k.1 ((b.name.name, judgement j) ∷ G) (record { at = b.name.at; variable = x } ∷ xs) (refl, tt, g) c)))

-- what a call answers is what its row concludes
answered_is : (o : Option Refusal) (p : Option Assertion) (a : Assertion) → answered o p ≡ Ok a → p ≡ Some a
answered_is (Some r) p a e = absurd (err_ok r a e)
answered_is None (Some b) a e = ap Some (ok_ok b a e)
answered_is None None a e = absurd (err_ok WrongForm a e)

concludes : (W : Declarations) (s : Resolved) (a : Assertion) → answer W s ≡ Ok a → conclusion W s ≡ Some a.statement
concludes W s a e = go (of_kind s) (conclusion W s) (answered_is (first_refusal (checks W s)) (given W s) a e)
  where
    go : (b : Bool) (o : Option Statement) → cond b (option_map (λ x. record { statement = x; set = result_set s }) o) None ≡ Some a → o ≡ Some a.statement
    go true (Some x) e = ap (λ (z : Assertion). Some z.statement) (same_Some (record { statement = x; set = result_set s }) a e)
    go true None e = none_some e
    go false o e = none_some e

-- the boundary is of the kind that the body makes
abbrev pub HasKind : Body → Assertion → Type 0
HasKind c b = makes_symbol c ≡ is_object_goal (claim_in b.statement)

kind_of : (x y : Statement) → Some x ≡ Some y → is_object_goal (claim_in x) ≡ is_object_goal (claim_in y)
kind_of x y e = ap (λ z. is_object_goal (claim_in z)) (same_Some x y e)

term_kind : (x y : Statement) → term_boundary x ≡ Some y → true ≡ is_object_goal (claim_in y)
term_kind (plain (is_type A)) y e = kind_of (plain (term_goal A)) y e
term_kind x y e = none_some e

types_kind : (x y z : Statement) → type_equation_boundary x y ≡ Some z → false ≡ is_object_goal (claim_in z)
types_kind (plain (is_type A)) (plain (is_type B)) z e = kind_of (plain (type_equation_goal A B)) z e
types_kind x y z e = none_some e

when_kind : (b : Bool) (x y : Statement) → when b x ≡ Some y → is_object_goal (claim_in x) ≡ is_object_goal (claim_in y)
when_kind true x y e = kind_of x y e
when_kind false x y e = none_some e

terms_kind : (x y z w : Statement) → term_equation_boundary x y z ≡ Some w → false ≡ is_object_goal (claim_in w)
terms_kind (plain (is_type A)) (plain (has_type s B)) (plain (has_type t C)) w e = when_kind _ (plain (term_equation_goal s t A)) w e
terms_kind x y z w e = none_some e

-- bodies
pub safe_body : (b : Body) (sc : Scope) (x : Unit {0}) → body_typed b sc ≡ Ok x → (at : ℕ) (G : Environment) → HaveTypes G sc.values → CanCoerce (ground sc) → IsSafe Assertion (ground sc) (HasKind b) (boundary_by at b G)
safe_body type_body sc x u at G g c = safe_asked (ground sc) (HasKind type_body) at reference.boundary_type (λ W a e. kind_of (plain type_goal) a.statement (concludes W by_btype a e))
safe_body (term_body e) sc x u at G g c =
    let P : Assertion → Type 0 = HasKind (term_body e) in
    safe_bind Assertion Assertion (ground sc) Any P (judgement_of e G) _ (safe_judgement_of e sc x u G g c) (λ A p.
    safe_asked (ground sc) P at (λ W. reference.boundary_term W A) (λ W a q. term_kind A.statement a.statement (concludes W (by_bterm A) a q)))
safe_body (types_body e f) sc x u at G g c =
    let P : Assertion → Type 0 = HasKind (types_body e f) in
    let k : ((y : Unit {0}) × (ensure_judgement e sc ≡ Ok y)) × (ensure_judgement f sc ≡ Ok x) = ok_both (ensure_judgement e sc) (ensure_judgement f sc) x u in
    safe_bind Assertion Assertion (ground sc) Any P (judgement_of e G) _ (safe_judgement_of e sc k.0.0 k.0.1 G g c) (λ A p.
    safe_bind Assertion Assertion (ground sc) Any P (judgement_of f G) _ (safe_judgement_of f sc x k.1 G g c) (λ B q.
    safe_asked (ground sc) P at (λ W. reference.boundary_eq_type W A B) (λ W a q. types_kind A.statement B.statement a.statement (concludes W (by_beqty A B) a q))))
safe_body (terms_body e f h) sc x u at G g c =
    let P : Assertion → Type 0 = HasKind (terms_body e f h) in
    let k : ((y : Unit {0}) × (results.◌>>◌ (ensure_judgement e sc) (ensure_judgement f sc) ≡ Ok y)) × (ensure_judgement h sc ≡ Ok x) = ok_both (results.◌>>◌ (ensure_judgement e sc) (ensure_judgement f sc)) (ensure_judgement h sc) x u in
    let l : ((y : Unit {0}) × (ensure_judgement e sc ≡ Ok y)) × (ensure_judgement f sc ≡ Ok k.0.0) = ok_both (ensure_judgement e sc) (ensure_judgement f sc) k.0.0 k.0.1 in
    safe_bind Assertion Assertion (ground sc) Any P (judgement_of e G) _ (safe_judgement_of e sc l.0.0 l.0.1 G g c) (λ s p.
    safe_bind Assertion Assertion (ground sc) Any P (judgement_of f G) _ (safe_judgement_of f sc k.0.0 l.1 G g c) (λ t q.
    safe_bind Assertion Assertion (ground sc) Any P (judgement_of h G) _ (safe_judgement_of h sc x k.1 G g c) (λ A r.
    safe_asked (ground sc) P at (λ W. reference.boundary_eq_term W A s t) (λ W a q. terms_kind A.statement s.statement t.statement a.statement (concludes W (by_beqtm A s t) a q)))))

premise_body : (n : Named) (before : List Name) (b : Body) (sc : Scope) (x : Unit {0}) → premise_typed n before b sc ≡ Ok x → (y : Unit {0}) × (body_typed b sc ≡ Ok y)
premise_body n before type_body sc x u = (tt, refl)
premise_body n before (term_body e) sc x u = (x, (ok_both (ensure_new n before) (ensure_judgement e sc) x u).1)
premise_body n before (types_body e f) sc x u = (ok_both (body_typed (types_body e f) sc) (ensure_new n before) x u).0
premise_body n before (terms_body e f h) sc x u = (ok_both (body_typed (terms_body e f h) sc) (ensure_new n before) x u).0

safe_abstract_all : (sc : Scope) (xs : List Bound) (b : Assertion) → IsSafe Assertion sc Any (abstract_all xs b)
safe_abstract_all sc [] b = safe_pure Assertion sc Any b tt
safe_abstract_all sc (x ∷ xs) b = safe_bind Assertion Assertion sc Any Any (nucleus x.at (λ W. reference.abstract_variable W x.variable b)) (abstract_all xs) (safe_nucleus sc x.at (λ W. reference.abstract_variable W x.variable b)) (λ c p. safe_abstract_all sc xs c)

-- a premise is added
abbrev pub OneMore : Draft → (ℕ × Declared) × Draft → Type 0
OneMore d p = (p.1.name ≡ d.name) × (length p.1.premises ≡ suc (length d.premises))

safe_premise : (sc : Scope) (at : ℕ) (d : Draft) (n : Name) (b : Assertion) → IsSafe ((ℕ × Declared) × Draft) sc (OneMore d) (add_premise at d n b)
safe_premise sc at d n b s f = go (option_map (OpenPremise (suc (length d.premises))) (first_outside (atoms d.premises) b.set))
  where
    M : ℕ × Declared
    M = next_metavariable s.declarations n b

    result : Option RuleFault → Declaration (Declarations × Draft) (ℕ × Declared) RuleFault
    result o = outcome o (s.declarations, d) (add_metavariable s.declarations n (Some b), record d { premises = d.premises ++ (M ∷ []) }) M

    more : length (d.premises ++ (M ∷ [])) ≡ suc (length d.premises)
    more = length-append d.premises (M ∷ []) ∙ omega arith

    go : (o : Option RuleFault) → Safe ((ℕ × Declared) × Draft) sc (OneMore d) s (after_premise at (result o) s)
    go None = record { names = refl; rules = refl; units = f.units; allows = (refl, more) }
    go (Some w) = safe_here ((ℕ × Declared) × Draft) sc (OneMore d) s f (Err (halts (fails (OfRule w) at))) tt

-- premises
abbrev pub PremisesTyped : Name → ℕ → Scope → Draft × Environment → Type 0
PremisesTyped n k inner p = HaveTypes p.1 inner.values × (p.0.name ≡ n) × (length p.0.premises ≡ k)

pub premises_ground : (ps : List Premise) (before : List Name) (sc inner : Scope) → premises_scope ps before sc ≡ Ok inner → ground inner ≡ ground sc
premises_ground [] before sc inner u = ap ground (sym (ok_ok sc inner u))
premises_ground (p ∷ ps) before sc inner u =
    let k : (mid : Scope) × ((binders_scope p.binders sc ≡ Ok mid) × (_ ≡ Ok inner)) = ok_then (binders_scope p.binders sc) _ inner u in
    premises_ground ps (p.name.name ∷ before) (with_value p.name.name type.judgement sc) inner (ok_both (premise_typed p.name before p.body k.0) _ inner k.1.1).1

pub safe_premises : (n : Name) (k : ℕ) (ps : List Premise) (before : List Name) (sc inner : Scope) → premises_scope ps before sc ≡ Ok inner → (d : Draft) (G : Environment) → d.name ≡ n → length d.premises + length ps ≡ k → HaveTypes G sc.values → CanCoerce (ground sc)
    → IsSafe (Draft × Environment) (ground sc) (PremisesTyped n k inner) (declare_premises ps d G)
safe_premises n k [] before sc inner u d G i l g c = safe_pure (Draft × Environment) (ground sc) (PremisesTyped n k inner) (d, G) (subst (λ (z : Scope). HaveTypes G z.values) (ok_ok sc inner u) g, i, omega (arith, l))
safe_premises n k (p ∷ ps) before sc inner u d G i l g c =
    let P : Draft × Environment → Type 0 = PremisesTyped n k inner in
    let m : (mid : Scope) × ((binders_scope p.binders sc ≡ Ok mid) × (_ ≡ Ok inner)) = ok_then (binders_scope p.binders sc) _ inner u in
    let t : ((x : Unit {0}) × (premise_typed p.name before p.body m.0 ≡ Ok x)) × (premises_scope ps (p.name.name ∷ before) (with_value p.name.name type.judgement sc) ≡ Ok inner) = ok_both (premise_typed p.name before p.body m.0) _ inner m.1.1 in
    let b : (y : Unit {0}) × (body_typed p.body m.0 ≡ Ok y) = premise_body p.name before p.body m.0 t.0.0 t.0.1 in
    let e : ground m.0 ≡ ground sc = inner_ground p.binders sc m.0 m.1.0 in
    safe_bind (Environment × List Bound) (Draft × Environment) (ground sc) (BindersTyped m.0) P (bind_all p.binders G []) _ (safe_binders p.binders sc m.0 m.1.0 G [] g c) (λ H h.
    safe_bind Assertion (Draft × Environment) (ground sc) (HasKind p.body) P (boundary_by p.body_at p.body H.0) _
    (subst (λ z. IsSafe Assertion z (HasKind p.body) (boundary_by p.body_at p.body H.0)) e (safe_body p.body m.0 b.0 b.1 p.body_at H.0 h (subst CanCoerce (sym e) c))) (λ q x.
    safe_bind Assertion (Draft × Environment) (ground sc) Any P (abstract_all H.1 q) _ (safe_abstract_all (ground sc) H.1 q) (λ w y.
    safe_bind ((ℕ × Declared) × Draft) (Draft × Environment) (ground sc) (OneMore d) P (add_premise p.at d p.name.name w) _ (safe_premise (ground sc) p.at d p.name.name w) (λ M o.
    safe_bind Assertion (Draft × Environment) (ground sc) Any P (nucleus p.at (λ W. reference.generic W M.0)) _ (safe_nucleus (ground sc) p.at (λ W. reference.generic W M.0)) (λ j z.
    safe_premises n k ps (p.name.name ∷ before) (with_value p.name.name type.judgement sc) inner t.1 M.1 ((p.name.name, judgement j) ∷ G) (o.0 ∙ i) (omega (arith, l, o.1)) (refl, tt, g) c)))))
