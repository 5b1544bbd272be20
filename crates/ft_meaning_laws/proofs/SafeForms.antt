-- Forms that have a type: a value of it, or an end that typing allows.
use Rattle.std.proofs.Common.{◌≡◌, ℕ, zero, suc, Bool, true, false, ◌⊎◌, Option, Some, None, Result, Ok, Err, List, [], ◌∷◌, ◌++◌, refl, sym, ap, ◌∙◌, subst}
use Rattle.std.specs.Prelude.{nat_eq}
use Rattle.ft_theory.specs.Rules.{Rule}
use Rattle.ft_items.specs.Item.{Name}
use Rattle.ft_items.specs.Store.{Assertion, Annotation}
use Rattle.ft_items.specs.Good.{equal_names}
use Rattle.ft_common.proofs.Booleans.{true_false}
use Rattle.ft_common.proofs.Results.{ok_ok}
use Rattle.ft_reference.specs.Nucleus as reference
use Rattle.ft_equality.specs.Results as results
use Rattle.ft_grammar.specs.declared.syntax.Named.{Named}
use Rattle.ft_meaning.specs.Names.{named}
use Rattle.ft_meaning.specs.Trees.{ValueType, Form, let_in, if_then, match_with, handle_with, abstraction, cons_of, one, two, argument, congruence, perform, call, substitution, truth_of, unit_of, pair_of, none_of, nil_of, Forms, no_forms, and_form, Cases, no_cases, and_case, ValueCase, no_value_case, value_case, Handlers, no_handlers, and_handler, place}
use Rattle.ft_meaning.specs.Trees as type
use Rattle.ft_meaning.specs.Typing.{TypeFault, fault_at, Arity, RuleType, Scope, with_value, meant_by, ensure_type, ensure_statement, ensure_arity, ensure_new, Bindings, bindings, case_scope, word_type, first_wanted, word_type_of_two, form_count, type_of, ensure_judgements, type_of_cases, ensure_cases, type_of_value, ensure_handlers}
use Rattle.ft_meaning.specs.Values.{Value, judgement, unit, truth, pair, nil, cons, none, Environment, NoMatch, State, fails, performs, halts, Outcome, Run, ◌>>=◌, pure, nucleus, the_rule, as_judgement, as_judgements}
use Rattle.ft_meaning.specs.Matching.{matches}
use Rattle.ft_meaning.specs.Forms.{judged, fitting, make_variable, abstract_value, substitute_value, word_at, word_at_two, handled, branch, value_or_rule, meaning, applied, substituted, first_match, of_value, of_operation}
use Rattle.ft_meaning_laws.specs.Fits.{HasType, HaveTypes, CanCoerce}
use Rattle.ft_meaning_laws.proofs.Typed.{ground, Safe, IsSafe, Ready, Any, safe_later, ready_after, safe_bind, safe_pure, safe_end, safe_halt, safe_cond_when, same_operation, suc_zero, fault, safe_spending, safe_nucleus, safe_rule, safe_make, safe_judgement, safe_judgements, NamedHasType, named_has_type, okay, ok_then, ok_both, not_ok, wanted_is, meant_is}
use Rattle.ft_meaning_laws.proofs.SafeWords.{Of, as_type, safe_judged, safe_fitting, either_is, safe_abstract, safe_substitute, safe_word, safe_word_two, Found, safe_found, safe_match}

-- choices
safe_branch : (sc : Scope) (P : Value → Type 0) (v : Value) (m n : Run Value) → HasType v type.bool → IsSafe Value sc P m → IsSafe Value sc P n → IsSafe Value sc P (branch v m n)
safe_branch sc P (truth true) m n h k l = k
safe_branch sc P (truth false) m n h k l = l
safe_branch sc P v m n h k l = absurd h

safe_alone : (sc : Scope) (v : Value) (A C : ValueType) (n : Named) (es : Forms) (m : Run Value) → HasType v A → results.◌>>◌ (ensure_arity n zero (form_count es)) (okay A) ≡ okay C → IsSafe Value sc (Of C) (value_or_rule (Some v) es m)
safe_alone sc v A C n no_forms m h u = as_type sc A C (pure v) u (safe_pure Value sc (Of A) v h)
safe_alone sc v A C n (and_form e es) m h u = not_ok _ C (sym (refuse (nat_eq (suc (form_count es)) zero) (suc_zero (form_count es))) ∙ u)
  where
    refuse : (b : Bool) → b ≡ false → results.◌>>◌ (results.ensure b (fault_at n.at (Arity n.name zero (suc (form_count es))))) (okay A) ≡ fault (fault_at n.at (Arity n.name zero (suc (form_count es))))
    refuse true e = true_false e
    refuse false e = refl

safe_handled : (sc : Scope) (P : Value → Type 0) (A : ValueType) (value : Value → Run Value) (operation : Name → Value → ℕ → Run Value) (s : State) → Ready sc s → (o : Outcome Value) → Safe Value sc (Of A) s o
    → ((v : Value) → HasType v A → IsSafe Value sc P (value v))
    → ((op : Name) (v : Value) (at : ℕ) (B C : ValueType) → named sc.operations op ≡ Some (B, C) → HasType v B → IsSafe Value sc P (operation op v at))
    → Safe Value sc P s (handled value operation o)
safe_handled sc P A value operation s r (Ok v, t) k f g = safe_later Value Value sc (Of A) P s (Ok v, t) (value v t) k (f v k.allows t (ready_after Value sc (Of A) s (Ok v, t) r k))
safe_handled sc P A value operation s r (Err (performs op v at), t) k f g =
    safe_later Value Value sc (Of A) P s (Err (performs op v at), t) (operation op v at t) k
    (g op v at k.allows.0 k.allows.1.0 k.allows.1.1.0 k.allows.1.1.1 t (ready_after Value sc (Of A) s (Err (performs op v at), t) r k))
safe_handled sc P A value operation s r (Err (halts h), t) k f g = record { names = k.names; rules = k.rules; units = k.units; allows = k.allows }

-- a value, and what follows
then_value : (sc : Scope) (A C : ValueType) (m : Run Value) (next : Value → Run Value) → IsSafe Value sc (Of A) m → ((v : Value) → HasType v A → IsSafe Value sc (Of C) (next v)) → IsSafe Value sc (Of C) (m >>= next)
then_value sc A C m next k f = safe_bind Value Value sc (Of A) (Of C) m next k f

then_judgement : (sc : Scope) (C : ValueType) (v : Value) (next : Assertion → Run Value) → HasType v type.judgement → ((j : Assertion) → IsSafe Value sc (Of C) (next j)) → IsSafe Value sc (Of C) (as_judgement v >>= next)
then_judgement sc C v next h f = safe_bind Assertion Value sc Any (Of C) (as_judgement v) next (safe_judgement sc v h) (λ j p. f j)

-- a name: its value, else its rule
safe_named : (gr sc : Scope) (C : ValueType) (x : Named) (es : Forms) (o : Option Value) (p : Option ValueType) → NamedHasType o p
    → elim p as (λ _. Result ValueType TypeFault) [
      | Some A ↦ results.◌>>◌ (ensure_arity x zero (form_count es)) (Ok A)
      | None ↦ results.◌>>=◌ (meant_by sc.rules x) (λ r. results.◌>>◌ (results.◌>>◌ (ensure_arity x r.premises (form_count es)) (ensure_judgements es sc)) (Ok type.judgement))
    ] ≡ Ok C → (m : Run Value)
    → (((r : RuleType) × (named sc.rules x.name ≡ Some r)) × ((y : Unit {0}) × (ensure_judgements es sc ≡ Ok y)) × (okay type.judgement ≡ okay C) → IsSafe Value gr (Of C) m)
    → IsSafe Value gr (Of C) (value_or_rule o es m)
safe_named gr sc C x es (Some v) (Some A) h u m f = safe_alone gr v A C x es m h u
safe_named gr sc C x es None None h u m f =
    let r : (r : RuleType) × ((meant_by sc.rules x ≡ Ok r) × (_ ≡ Ok C)) = ok_then (meant_by sc.rules x) _ C u in
    let k : ((y : Unit {0}) × (results.◌>>◌ (ensure_arity x r.0.premises (form_count es)) (ensure_judgements es sc) ≡ Ok y)) × (okay type.judgement ≡ okay C) = ok_both (results.◌>>◌ (ensure_arity x r.0.premises (form_count es)) (ensure_judgements es sc)) (okay type.judgement) C r.1.1 in
    let l : ((y : Unit {0}) × (ensure_arity x r.0.premises (form_count es) ≡ Ok y)) × (ensure_judgements es sc ≡ Ok k.0.0) = ok_both (ensure_arity x r.0.premises (form_count es)) (ensure_judgements es sc) k.0.0 k.0.1 in
    f ((r.0, meant_is sc.rules x r.0 r.1.0), (k.0.0, l.1), k.1)
safe_named gr sc C x es (Some v) None h u m f = absurd h
safe_named gr sc C x es None (Some A) h u m f = absurd h

mutual
  pub safe_meaning : (e : Form) (sc : Scope) (G : Environment) (C : ValueType) → type_of e sc ≡ Ok C → HaveTypes G sc.values → CanCoerce (ground sc) → IsSafe Value (ground sc) (Of C) (meaning e G)
  safe_meaning (let_in at x e f) sc G C u g c =
      let k : (A : ValueType) × ((type_of e sc ≡ Ok A) × (type_of f (with_value x.name A sc) ≡ Ok C)) = ok_then (type_of e sc) _ C u in
      safe_spending Value (ground sc) (Of C) at _ (then_value (ground sc) k.0 C (meaning e G) _ (safe_meaning e sc G k.0 k.1.0 g c) (λ v h.
      safe_meaning f (with_value x.name k.0 sc) ((x.name, v) ∷ G) C k.1.1 (refl, h, g) c))
  safe_meaning (if_then at e f h) sc G C u g c =
      let k : (B : ValueType) × ((type_of e sc ≡ Ok B) × (_ ≡ Ok C)) = ok_then (type_of e sc) _ C u in
      let l : ((x : Unit {0}) × (ensure_type (place e) type.bool k.0 ≡ Ok x)) × (_ ≡ Ok C) = ok_both (ensure_type (place e) type.bool k.0) _ C k.1.1 in
      let m : (A : ValueType) × ((type_of f sc ≡ Ok A) × (_ ≡ Ok C)) = ok_then (type_of f sc) _ C l.1 in
      let n : (D : ValueType) × ((type_of h sc ≡ Ok D) × (_ ≡ Ok C)) = ok_then (type_of h sc) _ C m.1.1 in
      let o : ((x : Unit {0}) × (ensure_type (place h) m.0 n.0 ≡ Ok x)) × (okay m.0 ≡ okay C) = ok_both (ensure_type (place h) m.0 n.0) _ C n.1.1 in
      safe_spending Value (ground sc) (Of C) at _ (then_value (ground sc) k.0 C (meaning e G) _ (safe_meaning e sc G k.0 k.1.0 g c) (λ v p.
      safe_branch (ground sc) (Of C) v (meaning f G) (meaning h G) (subst (HasType v) (wanted_is (place e) type.bool k.0 l.0.0 l.0.1) p)
      (as_type (ground sc) m.0 C (meaning f G) o.1 (safe_meaning f sc G m.0 m.1.0 g c))
      (as_type (ground sc) m.0 C (meaning h G) o.1 (subst (λ z. IsSafe Value (ground sc) (Of z) (meaning h G)) (wanted_is (place h) m.0 n.0 o.0.0 o.0.1) (safe_meaning h sc G n.0 n.1.0 g c)))))
  safe_meaning (match_with at e cs) sc G C u g c =
      let k : (A : ValueType) × ((type_of e sc ≡ Ok A) × (type_of_cases cs A sc ≡ Ok C)) = ok_then (type_of e sc) _ C u in
      safe_spending Value (ground sc) (Of C) at _ (then_value (ground sc) k.0 C (meaning e G) _ (safe_meaning e sc G k.0 k.1.0 g c) (λ v h.
      safe_cases cs sc k.0 C k.1.1 at v G h g c))
  safe_meaning (handle_with at e d hs) sc G C u g c =
      let k : (A : ValueType) × ((type_of e sc ≡ Ok A) × (_ ≡ Ok C)) = ok_then (type_of e sc) _ C u in
      let l : (B : ValueType) × ((type_of_value d k.0 sc ≡ Ok B) × (_ ≡ Ok C)) = ok_then (type_of_value d k.0 sc) _ C k.1.1 in
      let m : ((x : Unit {0}) × (ensure_handlers hs [] l.0 sc ≡ Ok x)) × (okay l.0 ≡ okay C) = ok_both (ensure_handlers hs [] l.0 sc) _ C l.1.1 in
      safe_spending Value (ground sc) (Of C) at _ (as_type (ground sc) l.0 C (λ s. handled (λ v. of_value d v G) (λ op v p. of_operation hs op v p G) (meaning e G s)) m.1 (λ s r.
      safe_handled (ground sc) (Of l.0) k.0 (λ v. of_value d v G) (λ op v p. of_operation hs op v p G) s r (meaning e G s) (safe_meaning e sc G k.0 k.1.0 g c s r)
      (λ v h. safe_value d sc k.0 l.0 l.1.0 v G h g c)
      (λ op v p B D i h. safe_operation hs [] sc l.0 m.0.0 m.0.1 op v p B D G i h g c)))
  safe_meaning (abstraction at x e f) sc G C u g c =
      let k : (A : ValueType) × ((type_of e sc ≡ Ok A) × (_ ≡ Ok C)) = ok_then (type_of e sc) _ C u in
      let l : ((x : Unit {0}) × (ensure_type (place e) type.judgement k.0 ≡ Ok x)) × (_ ≡ Ok C) = ok_both (ensure_type (place e) type.judgement k.0) _ C k.1.1 in
      let m : (B : ValueType) × ((type_of f (with_value x.name type.judgement sc) ≡ Ok B) × (_ ≡ Ok C)) = ok_then (type_of f (with_value x.name type.judgement sc)) _ C l.1 in
      let n : ((x : Unit {0}) × (ensure_statement (place f) m.0 ≡ Ok x)) × (okay m.0 ≡ okay C) = ok_both (ensure_statement (place f) m.0) _ C m.1.1 in
      safe_spending Value (ground sc) (Of C) at _ (then_value (ground sc) k.0 C (meaning e G) _ (safe_meaning e sc G k.0 k.1.0 g c) (λ v h.
      then_judgement (ground sc) C v _ (subst (HasType v) (wanted_is (place e) type.judgement k.0 l.0.0 l.0.1) h) (λ A.
      safe_bind (ℕ × Annotation) Value (ground sc) Any (Of C) (make_variable at x.name A) _ (safe_make (ground sc) at x.name A) (λ y p.
      safe_bind Assertion Value (ground sc) Any (Of C) (nucleus at (λ W. reference.variable W y)) _ (safe_nucleus (ground sc) at (λ W. reference.variable W y)) (λ j q.
      then_value (ground sc) m.0 C (meaning f ((x.name, judgement j) ∷ G)) (abstract_value at y) (safe_meaning f (with_value x.name type.judgement sc) ((x.name, judgement j) ∷ G) m.0 m.1.0 (refl, tt, g) c) (λ w i.
      as_type (ground sc) m.0 C (abstract_value at y w) n.1 (safe_abstract (ground sc) at y w m.0 i (either_is (place f) m.0 n.0.0 n.0.1))))))))
  safe_meaning (cons_of at e f) sc G C u g c =
      let k : (A : ValueType) × ((type_of e sc ≡ Ok A) × (_ ≡ Ok C)) = ok_then (type_of e sc) _ C u in
      let l : (B : ValueType) × ((type_of f sc ≡ Ok B) × (_ ≡ Ok C)) = ok_then (type_of f sc) _ C k.1.1 in
      let m : ((x : Unit {0}) × (ensure_type (place f) (type.list k.0) l.0 ≡ Ok x)) × (okay (type.list k.0) ≡ okay C) = ok_both (ensure_type (place f) (type.list k.0) l.0) _ C l.1.1 in
      safe_spending Value (ground sc) (Of C) at _ (then_value (ground sc) k.0 C (meaning e G) _ (safe_meaning e sc G k.0 k.1.0 g c) (λ v h.
      then_value (ground sc) l.0 C (meaning f G) (λ w. pure (cons v w)) (safe_meaning f sc G l.0 l.1.0 g c) (λ w i.
      as_type (ground sc) (type.list k.0) C (pure (cons v w)) m.1 (safe_pure Value (ground sc) (Of (type.list k.0)) (cons v w) (h, subst (HasType w) (wanted_is (place f) (type.list k.0) l.0 m.0.0 m.0.1) i)))))
  safe_meaning (one at w e) sc G C u g c =
      let k : (A : ValueType) × ((type_of e sc ≡ Ok A) × (word_type (place e) w A ≡ Ok C)) = ok_then (type_of e sc) (word_type (place e) w) C u in
      safe_spending Value (ground sc) (Of C) at _ (then_value (ground sc) k.0 C (meaning e G) (word_at at w) (safe_meaning e sc G k.0 k.1.0 g c) (λ v h. safe_word (ground sc) at (place e) w v k.0 C k.1.1 h))
  safe_meaning (two at w e f) sc G C u g c =
      let k : (A : ValueType) × ((type_of e sc ≡ Ok A) × (_ ≡ Ok C)) = ok_then (type_of e sc) _ C u in
      let l : ((x : Unit {0}) × (ensure_type (place e) (first_wanted w) k.0 ≡ Ok x)) × (_ ≡ Ok C) = ok_both (ensure_type (place e) (first_wanted w) k.0) _ C k.1.1 in
      let m : (B : ValueType) × ((type_of f sc ≡ Ok B) × (_ ≡ Ok C)) = ok_then (type_of f sc) _ C l.1 in
      let n : ((x : Unit {0}) × (ensure_type (place f) type.judgement m.0 ≡ Ok x)) × (okay (word_type_of_two w) ≡ okay C) = ok_both (ensure_type (place f) type.judgement m.0) _ C m.1.1 in
      safe_spending Value (ground sc) (Of C) at _ (then_value (ground sc) k.0 C (meaning e G) _ (safe_meaning e sc G k.0 k.1.0 g c) (λ v h.
      then_value (ground sc) m.0 C (meaning f G) (word_at_two at (place f) w v) (safe_meaning f sc G m.0 m.1.0 g c) (λ x i.
      as_type (ground sc) (word_type_of_two w) C (word_at_two at (place f) w v x) n.1 (safe_word_two (ground sc) c at (place f) w v x
      (subst (HasType v) (wanted_is (place e) (first_wanted w) k.0 l.0.0 l.0.1) h) (subst (HasType x) (wanted_is (place f) type.judgement m.0 n.0.0 n.0.1) i)))))
  safe_meaning (argument at e i) sc G C u g c =
      let k : (A : ValueType) × ((type_of e sc ≡ Ok A) × (_ ≡ Ok C)) = ok_then (type_of e sc) _ C u in
      let l : ((x : Unit {0}) × (ensure_type (place e) type.judgement k.0 ≡ Ok x)) × (okay type.judgement ≡ okay C) = ok_both (ensure_type (place e) type.judgement k.0) _ C k.1.1 in
      safe_spending Value (ground sc) (Of C) at _ (then_value (ground sc) k.0 C (meaning e G) _ (safe_meaning e sc G k.0 k.1.0 g c) (λ v h.
      then_judgement (ground sc) C v (λ j. judged at (λ W. reference.argument W i j)) (subst (HasType v) (wanted_is (place e) type.judgement k.0 l.0.0 l.0.1) h) (λ j.
      as_type (ground sc) type.judgement C (judged at (λ W. reference.argument W i j)) l.1 (safe_judged (ground sc) at (λ W. reference.argument W i j)))))
  safe_meaning (congruence at R e f) sc G C u g c =
      let r : (r : RuleType) × ((meant_by sc.rules R ≡ Ok r) × (_ ≡ Ok C)) = ok_then (meant_by sc.rules R) _ C u in
      let k : (A : ValueType) × ((type_of e sc ≡ Ok A) × (_ ≡ Ok C)) = ok_then (type_of e sc) _ C r.1.1 in
      let l : ((x : Unit {0}) × (ensure_type (place e) (type.list type.judgement) k.0 ≡ Ok x)) × (_ ≡ Ok C) = ok_both (ensure_type (place e) (type.list type.judgement) k.0) _ C k.1.1 in
      let m : (B : ValueType) × ((type_of f sc ≡ Ok B) × (_ ≡ Ok C)) = ok_then (type_of f sc) _ C l.1 in
      let n : ((x : Unit {0}) × (ensure_type (place f) (type.list type.judgement) m.0 ≡ Ok x)) × (okay type.judgement ≡ okay C) = ok_both (ensure_type (place f) (type.list type.judgement) m.0) _ C m.1.1 in
      safe_spending Value (ground sc) (Of C) at _ (then_value (ground sc) k.0 C (meaning e G) _ (safe_meaning e sc G k.0 k.1.0 g c) (λ v h.
      then_value (ground sc) m.0 C (meaning f G) _ (safe_meaning f sc G m.0 m.1.0 g c) (λ w i.
      safe_bind (List Assertion) Value (ground sc) Any (Of C) (as_judgements v) _ (safe_judgements (ground sc) v (subst (HasType v) (wanted_is (place e) (type.list type.judgement) k.0 l.0.0 l.0.1) h)) (λ js p.
      safe_bind (List Assertion) Value (ground sc) Any (Of C) (as_judgements w) _ (safe_judgements (ground sc) w (subst (HasType w) (wanted_is (place f) (type.list type.judgement) m.0 n.0.0 n.0.1) i)) (λ es q.
      safe_bind (ℕ × Rule) Value (ground sc) Any (Of C) (the_rule R.name) _ (safe_rule (ground sc) R.name r.0 (meant_is sc.rules R r.0 r.1.0)) (λ S t.
      as_type (ground sc) type.judgement C (judged at (λ W. reference.congruence W S js es)) n.1 (safe_judged (ground sc) at (λ W. reference.congruence W S js es))))))))
  safe_meaning (perform at op e) sc G C u g c =
      let o : (o : ValueType × ValueType) × ((meant_by sc.operations op ≡ Ok o) × (_ ≡ Ok C)) = ok_then (meant_by sc.operations op) _ C u in
      let k : (A : ValueType) × ((type_of e sc ≡ Ok A) × (_ ≡ Ok C)) = ok_then (type_of e sc) _ C o.1.1 in
      let l : ((x : Unit {0}) × (ensure_type (place e) o.0.0 k.0 ≡ Ok x)) × (okay o.0.1 ≡ okay C) = ok_both (ensure_type (place e) o.0.0 k.0) _ C k.1.1 in
      safe_spending Value (ground sc) (Of C) at _ (then_value (ground sc) k.0 C (meaning e G) _ (safe_meaning e sc G k.0 k.1.0 g c) (λ v h.
      safe_end Value (ground sc) (Of C) (performs op.name v at) (o.0.0, (o.0.1, (meant_is sc.operations op o.0 o.1.0, subst (HasType v) (wanted_is (place e) o.0.0 k.0 l.0.0 l.0.1) h)))))
  safe_meaning (call at x es) sc G C u g c = safe_spending Value (ground sc) (Of C) at _ (safe_named (ground sc) sc C x es (named G x.name) (named sc.values x.name) (named_has_type G sc.values x.name g) u _
      (λ e. safe_bind (ℕ × Rule) Value (ground sc) Any (Of C) (the_rule x.name) (λ r. applied at r es G []) (safe_rule (ground sc) x.name e.0.0 e.0.1) (λ r p. as_type (ground sc) type.judgement C (applied at r es G []) e.2 (safe_applied es sc e.1.0 e.1.1 at r G [] g c))))
  safe_meaning (substitution at e es) sc G C u g c =
      let k : (A : ValueType) × ((type_of e sc ≡ Ok A) × (_ ≡ Ok C)) = ok_then (type_of e sc) _ C u in
      let l : ((x : Unit {0}) × (ensure_statement (place e) k.0 ≡ Ok x)) × (_ ≡ Ok C) = ok_both (ensure_statement (place e) k.0) _ C k.1.1 in
      let m : ((x : Unit {0}) × (ensure_judgements es sc ≡ Ok x)) × (okay k.0 ≡ okay C) = ok_both (ensure_judgements es sc) _ C l.1 in
      safe_spending Value (ground sc) (Of C) at _ (then_value (ground sc) k.0 C (meaning e G) _ (safe_meaning e sc G k.0 k.1.0 g c) (λ v h.
      as_type (ground sc) k.0 C (substituted at es v G) m.1 (safe_substituted es sc m.0.0 m.0.1 at v k.0 G h (either_is (place e) k.0 l.0.0 l.0.1) g c)))
  safe_meaning (truth_of at b) sc G C u g c = safe_spending Value (ground sc) (Of C) at _ (as_type (ground sc) type.bool C (pure (truth b)) u (safe_pure Value (ground sc) (Of type.bool) (truth b) tt))
  safe_meaning (unit_of at) sc G C u g c = safe_spending Value (ground sc) (Of C) at _ (as_type (ground sc) type.unit C (pure unit) u (safe_pure Value (ground sc) (Of type.unit) unit tt))
  safe_meaning (pair_of at e f) sc G C u g c =
      let k : (A : ValueType) × ((type_of e sc ≡ Ok A) × (_ ≡ Ok C)) = ok_then (type_of e sc) _ C u in
      let l : (B : ValueType) × ((type_of f sc ≡ Ok B) × (okay (type.pair k.0 B) ≡ okay C)) = ok_then (type_of f sc) _ C k.1.1 in
      safe_spending Value (ground sc) (Of C) at _ (then_value (ground sc) k.0 C (meaning e G) _ (safe_meaning e sc G k.0 k.1.0 g c) (λ v h.
      then_value (ground sc) l.0 C (meaning f G) (λ w. pure (pair v w)) (safe_meaning f sc G l.0 l.1.0 g c) (λ w i.
      as_type (ground sc) (type.pair k.0 l.0) C (pure (pair v w)) l.1.1 (safe_pure Value (ground sc) (Of (type.pair k.0 l.0)) (pair v w) (h, i)))))
  safe_meaning (none_of at A) sc G C u g c = safe_spending Value (ground sc) (Of C) at _ (as_type (ground sc) (type.option A) C (pure none) u (safe_pure Value (ground sc) (Of (type.option A)) none tt))
  safe_meaning (nil_of at A) sc G C u g c = safe_spending Value (ground sc) (Of C) at _ (as_type (ground sc) (type.list A) C (pure nil) u (safe_pure Value (ground sc) (Of (type.list A)) nil tt))

  safe_applied : (es : Forms) (sc : Scope) (x : Unit {0}) → ensure_judgements es sc ≡ Ok x → (at : ℕ) (r : ℕ × Rule) (G : Environment) (js : List Assertion) → HaveTypes G sc.values → CanCoerce (ground sc) → IsSafe Value (ground sc) (Of type.judgement) (applied at r es G js)
  safe_applied no_forms sc x u at r G js g c = safe_judged (ground sc) at (λ W. reference.apply W r js)
  safe_applied (and_form e es) sc x u at r G js g c =
      let k : (A : ValueType) × ((type_of e sc ≡ Ok A) × (_ ≡ Ok x)) = ok_then (type_of e sc) _ x u in
      let l : ((y : Unit {0}) × (ensure_type (place e) type.judgement k.0 ≡ Ok y)) × (ensure_judgements es sc ≡ Ok x) = ok_both (ensure_type (place e) type.judgement k.0) _ x k.1.1 in
      then_value (ground sc) k.0 type.judgement (meaning e G) _ (safe_meaning e sc G k.0 k.1.0 g c) (λ v h.
      then_judgement (ground sc) type.judgement v _ (subst (HasType v) (wanted_is (place e) type.judgement k.0 l.0.0 l.0.1) h) (λ j.
      safe_bind Assertion Value (ground sc) Any (Of type.judgement) (nucleus (place e) (λ W. reference.next_boundary W r js)) _ (safe_nucleus (ground sc) (place e) (λ W. reference.next_boundary W r js)) (λ b p.
      safe_bind Assertion Value (ground sc) Any (Of type.judgement) (fitting (place e) j b) _ (safe_fitting (ground sc) c (place e) j b) (λ i q.
      safe_applied es sc x l.1 at r G (js ++ i ∷ []) g c))))

  safe_substituted : (es : Forms) (sc : Scope) (x : Unit {0}) → ensure_judgements es sc ≡ Ok x → (at : ℕ) (v : Value) (A : ValueType) (G : Environment) → HasType v A → (A ≡ type.judgement) ⊎ (A ≡ type.boundary) → HaveTypes G sc.values → CanCoerce (ground sc) → IsSafe Value (ground sc) (Of A) (substituted at es v G)
  safe_substituted no_forms sc x u at v A G h i g c = safe_pure Value (ground sc) (Of A) v h
  safe_substituted (and_form e es) sc x u at v A G h i g c =
      let k : (B : ValueType) × ((type_of e sc ≡ Ok B) × (_ ≡ Ok x)) = ok_then (type_of e sc) _ x u in
      let l : ((y : Unit {0}) × (ensure_type (place e) type.judgement k.0 ≡ Ok y)) × (ensure_judgements es sc ≡ Ok x) = ok_both (ensure_type (place e) type.judgement k.0) _ x k.1.1 in
      then_value (ground sc) k.0 A (meaning e G) _ (safe_meaning e sc G k.0 k.1.0 g c) (λ w p.
      then_judgement (ground sc) A w _ (subst (HasType w) (wanted_is (place e) type.judgement k.0 l.0.0 l.0.1) p) (λ t.
      then_value (ground sc) A A (substitute_value at v t) _ (safe_substitute (ground sc) at v t A h i) (λ z q.
      safe_substituted es sc x l.1 at z A G q i g c)))

  -- the first case has the type, and so have the others
  safe_cases : (cs : Cases) (sc : Scope) (A C : ValueType) → type_of_cases cs A sc ≡ Ok C → (at : ℕ) (v : Value) (G : Environment) → HasType v A → HaveTypes G sc.values → CanCoerce (ground sc) → IsSafe Value (ground sc) (Of C) (first_match at cs v G)
  safe_cases no_cases sc A C u at v G h g c = safe_halt Value (ground sc) (Of C) (fails NoMatch at) tt
  safe_cases (and_case p e cs) sc A C u at v G h g c =
      let i : (inner : Scope) × ((case_scope p A sc ≡ Ok inner) × (_ ≡ Ok C)) = ok_then (case_scope p A sc) _ C u in
      let b : (bs : Bindings) × ((bindings p sc A [] ≡ Ok bs) × (okay (record sc { values = bs ++ sc.values }) ≡ okay i.0)) = ok_then (bindings p sc A []) _ i.0 i.1.0 in
      let k : (B : ValueType) × ((type_of e i.0 ≡ Ok B) × (_ ≡ Ok C)) = ok_then (type_of e i.0) _ C i.1.1 in
      let l : ((x : Unit {0}) × (ensure_cases cs A k.0 sc ≡ Ok x)) × (okay k.0 ≡ okay C) = ok_both (ensure_cases cs A k.0 sc) _ C k.1.1 in
      as_type (ground sc) k.0 C (first_match at (and_case p e cs) v G) l.1
      (safe_bind (Option Environment) Value (ground sc) (Found sc b.0) (Of k.0) (matches at p v G) _ (safe_match sc at p A [] b.0 v G b.1.0 h g) (λ found m.
      safe_found Value (ground sc) (Of k.0) (b.0 ++ sc.values) found (meaning e) (first_match at cs v G) m
      (λ H n. safe_meaning e (record sc { values = b.0 ++ sc.values }) H k.0 (ap (type_of e) (ok_ok _ i.0 b.1.1) ∙ k.1.0) n c)
      (safe_further cs sc A k.0 l.0.0 l.0.1 at v G h g c)))

  safe_further : (cs : Cases) (sc : Scope) (A B : ValueType) (x : Unit {0}) → ensure_cases cs A B sc ≡ Ok x → (at : ℕ) (v : Value) (G : Environment) → HasType v A → HaveTypes G sc.values → CanCoerce (ground sc) → IsSafe Value (ground sc) (Of B) (first_match at cs v G)
  safe_further no_cases sc A B x u at v G h g c = safe_halt Value (ground sc) (Of B) (fails NoMatch at) tt
  safe_further (and_case p e cs) sc A B x u at v G h g c =
      let i : (inner : Scope) × ((case_scope p A sc ≡ Ok inner) × (_ ≡ Ok x)) = ok_then (case_scope p A sc) _ x u in
      let b : (bs : Bindings) × ((bindings p sc A [] ≡ Ok bs) × (okay (record sc { values = bs ++ sc.values }) ≡ okay i.0)) = ok_then (bindings p sc A []) _ i.0 i.1.0 in
      let k : (D : ValueType) × ((type_of e i.0 ≡ Ok D) × (_ ≡ Ok x)) = ok_then (type_of e i.0) _ x i.1.1 in
      let l : ((y : Unit {0}) × (ensure_type (place e) B k.0 ≡ Ok y)) × (ensure_cases cs A B sc ≡ Ok x) = ok_both (ensure_type (place e) B k.0) _ x k.1.1 in
      safe_bind (Option Environment) Value (ground sc) (Found sc b.0) (Of B) (matches at p v G) _ (safe_match sc at p A [] b.0 v G b.1.0 h g) (λ found m.
      safe_found Value (ground sc) (Of B) (b.0 ++ sc.values) found (meaning e) (first_match at cs v G) m
      (λ H n. subst (λ z. IsSafe Value (ground sc) (Of z) (meaning e H)) (wanted_is (place e) B k.0 l.0.0 l.0.1) (safe_meaning e (record sc { values = b.0 ++ sc.values }) H k.0 (ap (type_of e) (ok_ok _ i.0 b.1.1) ∙ k.1.0) n c))
      (safe_further cs sc A B x l.1 at v G h g c))

  safe_value : (d : ValueCase) (sc : Scope) (A B : ValueType) → type_of_value d A sc ≡ Ok B → (v : Value) (G : Environment) → HasType v A → HaveTypes G sc.values → CanCoerce (ground sc) → IsSafe Value (ground sc) (Of B) (of_value d v G)
  safe_value no_value_case sc A B u v G h g c = as_type (ground sc) A B (pure v) u (safe_pure Value (ground sc) (Of A) v h)
  safe_value (value_case x e) sc A B u v G h g c = safe_meaning e (with_value x.name A sc) ((x.name, v) ∷ G) B u (refl, h, g) c

  safe_operation : (hs : Handlers) (before : List Name) (sc : Scope) (B : ValueType) (x : Unit {0}) → ensure_handlers hs before B sc ≡ Ok x → (op : Name) (v : Value) (at : ℕ) (A D : ValueType) (G : Environment) → named sc.operations op ≡ Some (A, D) → HasType v A → HaveTypes G sc.values → CanCoerce (ground sc) → IsSafe Value (ground sc) (Of B) (of_operation hs op v at G)
  safe_operation no_handlers before sc B x u op v at A D G i h g c = safe_end Value (ground sc) (Of B) (performs op v at) (A, (D, (i, h)))
  safe_operation (and_handler o y e hs) before sc B x u op v at A D G i h g c =
      let p : (p : ValueType × ValueType) × ((meant_by sc.operations o ≡ Ok p) × (_ ≡ Ok x)) = ok_then (meant_by sc.operations o) _ x u in
      let k : ((z : Unit {0}) × (ensure_new o before ≡ Ok z)) × (_ ≡ Ok x) = ok_both (ensure_new o before) _ x p.1.1 in
      let l : (C : ValueType) × ((type_of e (with_value y.name p.0.0 sc) ≡ Ok C) × (_ ≡ Ok x)) = ok_then (type_of e (with_value y.name p.0.0 sc)) _ x k.1 in
      let m : ((z : Unit {0}) × (ensure_type (place e) B l.0 ≡ Ok z)) × (ensure_handlers hs (o.name ∷ before) B sc ≡ Ok x) = ok_both (ensure_type (place e) B l.0) _ x l.1.1 in
      safe_cond_when Value (ground sc) (Of B) (equal_names o.name op) (meaning e ((y.name, v) ∷ G)) (of_operation hs op v at G)
      (λ q. subst (λ z. IsSafe Value (ground sc) (Of z) (meaning e ((y.name, v) ∷ G))) (wanted_is (place e) B l.0 m.0.0 m.0.1) (safe_meaning e (with_value y.name p.0.0 sc) ((y.name, v) ∷ G) l.0 l.1.0
      (refl, subst (HasType v) (same_operation sc.operations o.name op p.0 (A, D) q (meant_is sc.operations o p.0 p.1.0) i) h, g) c))
      (safe_operation hs (o.name ∷ before) sc B x m.1 op v at A D G i h g c)
