-- Forms that have a type give a value of it, or end as typing allows.
use Rattle.std.proofs.Common.{◌≡◌, ◌≤◌, ℕ, suc, Bool, true, false, cond, ◌⊎◌, inl, inr, Option, Some, None, Result, Ok, Err, List, ◌∷◌, ◌++◌, refl, sym, subst}
use Rattle.std.specs.Prelude.{is_some, not, codes, ◌||◌}
use Rattle.ft_theory.specs.Rules.{Rule}
use Rattle.ft_theory.specs.Statements.{Statement, is_type, has_type, equal_types, equal_terms, plain}
use Rattle.ft_items.specs.Rows.{when}
use Rattle.ft_items.specs.Item.{Name}
use Rattle.ft_items.specs.Store.{Assertion, Annotation, Declarations}
use Rattle.ft_items.specs.Good.{same_truth}
use Rattle.ft_reference.specs.Refusals.{Refusal, WrongForm}
use Rattle.ft_reference.specs.Nucleus.{fits_boundary}
use Rattle.ft_reference.specs.Nucleus as reference
use Rattle.ft_equality.specs.Results as results
use Rattle.ft_equality.specs.Shapes.{EqualityRules}
use Rattle.ft_theory.specs.Expressions.{Expression}
use Rattle.ft_equality.specs.Programs.{Units, Answer, Spent, NotSmall}
use Rattle.ft_equality.specs.Equality.{types_are_equal, terms_are_equal, normal_form}
use Rattle.ft_grammar.specs.declared.form.OneForm.{OneForm}
use Rattle.ft_grammar.specs.declared.form.OneForm.TheVariants.{Refl, Sym, Left, Right, Typeof, Domain, Natural, Normal, Boundaryof, SomeWord}
use Rattle.ft_grammar.specs.declared.form.TwoForm.{TwoForm}
use Rattle.ft_grammar.specs.declared.form.TwoForm.TheVariants.{Trans, Convert, Equal, Widen, Rewrite, Fill}
use Rattle.ft_grammar.specs.declared.syntax.Named.{Named}
use Rattle.ft_meaning.specs.Names.{named}
use Rattle.ft_meaning.specs.Trees.{ValueType, Pattern, cons_pattern, some_pattern, symbol_pattern, name_pattern, wildcard, truth_pattern, unit_pattern, none_pattern, nil_pattern, pair_pattern, Patterns, no_patterns, and_pattern, Form, let_in, if_then, match_with, handle_with, abstraction, cons_of, one, two, argument, congruence, perform, call, substitution, truth_of, unit_of, pair_of, none_of, nil_of, Forms, no_forms, and_form, Cases, no_cases, and_case, ValueCase, no_value_case, value_case, Handlers, no_handlers, and_handler, place}
use Rattle.ft_meaning.specs.Trees as type
use Rattle.ft_meaning.specs.Typing.{same_type, RuleType, Scope, meant_by, ensure_type, ensure_statement, ensure_arity, pattern_count, fault_at, Unbound, Twice, Bindings, bindings, all_bindings, word_type, first_wanted, word_type_of_two}
use Rattle.ft_meaning.specs.Values.{Value, judgement, boundary, unit, truth, pair, nil, cons, none, some, Environment, Refused, fails, performs, Run, pure, end, settled, checker, nucleus, the_rule}
use Rattle.ft_meaning.specs.Matching.{is_applied, if_found, ◌and_also◌, matches, match_arguments}
use Rattle.ft_meaning.specs.Forms.{judged, bounded, fitting, abstract_value, substitute_value, equation_if, compare, normalise, conversion, word_at, word_at_two}
use Rattle.ft_equality_laws.specs.Laws.{UsesUnits}
use Rattle.ft_equality_laws.proofs.Counts.{units_are_kept}
use Rattle.ft_equality_laws.proofs.GoodLists.{next_more}
use Rattle.ft_common.proofs.Results.{ok_ok}
use Rattle.ft_meaning_laws.specs.Fits.{HasType, HaveTypes, CanCoerce}
use Rattle.ft_meaning_laws.proofs.Typed.{ground, Safe, IsSafe, Any, safe_bind, safe_pure, safe_end, safe_halt, safe_cond, safe_nucleus, safe_rule, okay, ok_then, ok_both, not_ok, same_type_true, wanted_is, meant_is, ensured}

-- values of a type
abbrev pub Of : ValueType → Value → Type 0
Of A v = HasType v A

-- a value of another type that is the same
pub as_type : (sc : Scope) (A B : ValueType) (m : Run Value) → okay A ≡ okay B → IsSafe Value sc (Of A) m → IsSafe Value sc (Of B) m
as_type sc A B m e k = subst (λ z. IsSafe Value sc (Of z) m) (ok_ok A B e) k

-- calls
pub safe_judged : (sc : Scope) (at : ℕ) (ask : Declarations → Result Assertion Refusal) → IsSafe Value sc (Of type.judgement) (judged at ask)
safe_judged sc at ask = safe_bind Assertion Value sc Any (Of type.judgement) (nucleus at ask) (λ j. pure (judgement j)) (safe_nucleus sc at ask) (λ j p. safe_pure Value sc (Of type.judgement) (judgement j) tt)

safe_bounded : (sc : Scope) (at : ℕ) (ask : Declarations → Result Assertion Refusal) → IsSafe Value sc (Of type.boundary) (bounded at ask)
safe_bounded sc at ask = safe_bind Assertion Value sc Any (Of type.boundary) (nucleus at ask) (λ b. pure (boundary b)) (safe_nucleus sc at ask) (λ b p. safe_pure Value sc (Of type.boundary) (boundary b) tt)

pub safe_fitting : (sc : Scope) → CanCoerce sc → (at : ℕ) (j b : Assertion) → IsSafe Assertion sc Any (fitting at j b)
safe_fitting sc c at j b = safe_cond Assertion sc Any (fits_boundary j b) (pure j) (end (performs (codes "coerce") (pair (judgement j) (boundary b)) at))
    (safe_pure Assertion sc Any j tt) (safe_end Assertion sc Any (performs (codes "coerce") (pair (judgement j) (boundary b)) at) (type.pair type.judgement type.boundary, (type.judgement, (c, (tt, tt)))))

-- values by their kind
of_judgement : (sc : Scope) (P : Value → Type 0) (f : Value → Run Value) (v : Value) → HasType v type.judgement → ((j : Assertion) → IsSafe Value sc P (f (judgement j))) → IsSafe Value sc P (f v)
of_judgement sc P f (judgement j) h k = k j
of_judgement sc P f v h k = absurd h

of_boundary : (sc : Scope) (P : Value → Type 0) (f : Value → Run Value) (v : Value) → HasType v type.boundary → ((b : Assertion) → IsSafe Value sc P (f (boundary b))) → IsSafe Value sc P (f v)
of_boundary sc P f (boundary b) h k = k b
of_boundary sc P f v h k = absurd h

-- the type is one of judgements or of boundaries
pub either_or : (a b : Bool) → (a || b) ≡ true → (a ≡ true) ⊎ (b ≡ true)
either_or true b e = inl refl
either_or false b e = inr e

pub either_is : (at : ℕ) (A : ValueType) (u : Unit {0}) → ensure_statement at A ≡ Ok u → (A ≡ type.judgement) ⊎ (A ≡ type.boundary)
either_is at A u e = go (either_or (same_type A type.judgement) (same_type A type.boundary) (ensured (same_type A type.judgement || same_type A type.boundary) _ u e))
  where
    go : (same_type A type.judgement ≡ true) ⊎ (same_type A type.boundary ≡ true) → (A ≡ type.judgement) ⊎ (A ≡ type.boundary)
    go (inl k) = inl (same_type_true A type.judgement k)
    go (inr k) = inr (same_type_true A type.boundary k)

of_either : (sc : Scope) (P : Value → Type 0) (f : Value → Run Value) (v : Value) (A : ValueType) → HasType v A → (A ≡ type.judgement) ⊎ (A ≡ type.boundary) → ((j : Assertion) → IsSafe Value sc P (f (judgement j))) → ((b : Assertion) → IsSafe Value sc P (f (boundary b))) → IsSafe Value sc P (f v)
of_either sc P f v A h (inl e) k l = of_judgement sc P f v (subst (HasType v) e h) k
of_either sc P f v A h (inr e) k l = of_boundary sc P f v (subst (HasType v) e h) l

pub safe_abstract : (sc : Scope) (at : ℕ) (y : ℕ × Annotation) (v : Value) (A : ValueType) → HasType v A → (A ≡ type.judgement) ⊎ (A ≡ type.boundary) → IsSafe Value sc (Of A) (abstract_value at y v)
safe_abstract sc at y v A h (inl e) = of_judgement sc (Of A) (abstract_value at y) v (subst (HasType v) e h) (λ j. subst (λ z. IsSafe Value sc (Of z) (abstract_value at y (judgement j))) (sym e) (safe_judged sc at (λ W. reference.abstract_variable W y j)))
safe_abstract sc at y v A h (inr e) = of_boundary sc (Of A) (abstract_value at y) v (subst (HasType v) e h) (λ b. subst (λ z. IsSafe Value sc (Of z) (abstract_value at y (boundary b))) (sym e) (safe_bounded sc at (λ W. reference.abstract_variable W y b)))

pub safe_substitute : (sc : Scope) (at : ℕ) (v : Value) (t : Assertion) (A : ValueType) → HasType v A → (A ≡ type.judgement) ⊎ (A ≡ type.boundary) → IsSafe Value sc (Of A) (substitute_value at v t)
safe_substitute sc at v t A h (inl e) = of_judgement sc (Of A) (λ v. substitute_value at v t) v (subst (HasType v) e h) (λ j. subst (λ z. IsSafe Value sc (Of z) (substitute_value at (judgement j) t)) (sym e) (safe_judged sc at (λ W. reference.substitute W j t)))
safe_substitute sc at v t A h (inr e) = of_boundary sc (Of A) (λ v. substitute_value at v t) v (subst (HasType v) e h) (λ b. subst (λ z. IsSafe Value sc (Of z) (substitute_value at (boundary b) t)) (sym e) (safe_bounded sc at (λ W. reference.substitute W b t)))

-- equality
safe_checker : (A : Type 0) (sc : Scope) (at : ℕ) (ask : Declarations → EqualityRules → Units → Answer A) → ((W : Declarations) (E : EqualityRules) (u : Units) → UsesUnits u (ask W E u)) → IsSafe A sc Any (checker at ask)
safe_checker A sc at ask uses s r = go (ask s.declarations s.equality_rules s.units) (uses s.declarations s.equality_rules s.units).1
  where
    go : (a : Answer A) → s.units.used ≤ a.1.used → Safe A sc Any s (settled at s a)
    go (Ok a, u) h = record { names = refl; rules = refl; units = next_more s.declarations.variables s.units.used u.used h r.units; allows = tt }
    go (Err Spent, u) h = record { names = refl; rules = refl; units = next_more s.declarations.variables s.units.used u.used h r.units; allows = tt }
    go (Err NotSmall, u) h = record { names = refl; rules = refl; units = next_more s.declarations.variables s.units.used u.used h r.units; allows = tt }

equation_has_type : (b : Bool) (x : Statement) (j k : Assertion) → HasType (equation_if b x j k) (type.option type.judgement)
equation_has_type true x j k = tt
equation_has_type false x j k = tt

safe_compare : (sc : Scope) (at : ℕ) (j k : Assertion) (x y : Statement) → IsSafe Value sc (Of (type.option type.judgement)) (compare at j k x y)
safe_compare sc at j k (plain (is_type A)) (plain (is_type B)) =
    safe_bind Bool Value sc Any (Of (type.option type.judgement)) (checker at (λ W E. types_are_equal W E A B)) (λ b. pure (equation_if b (plain (equal_types A B)) j k))
    (safe_checker Bool sc at (λ W E. types_are_equal W E A B) (λ W E u. (units_are_kept W E u).0 A B)) (λ b p. safe_pure Value sc (Of (type.option type.judgement)) (equation_if b (plain (equal_types A B)) j k) (equation_has_type b (plain (equal_types A B)) j k))
safe_compare sc at j k (plain (has_type t A)) (plain (has_type u B)) =
    safe_bind Bool Value sc Any (Of (type.option type.judgement)) (checker at (λ W E. terms_are_equal W E t A u B)) (λ b. pure (equation_if b (plain (equal_terms t u A)) j k))
    (safe_checker Bool sc at (λ W E. terms_are_equal W E t A u B) (λ W E w. (units_are_kept W E w).1 t A u B)) (λ b p. safe_pure Value sc (Of (type.option type.judgement)) (equation_if b (plain (equal_terms t u A)) j k) (equation_has_type b (plain (equal_terms t u A)) j k))
safe_compare sc at j k x y = safe_halt Value sc (Of (type.option type.judgement)) (fails (Refused WrongForm) at) tt

safe_normalise : (sc : Scope) (at : ℕ) (j : Assertion) (x : Statement) → IsSafe Value sc (Of type.judgement) (normalise at j x)
safe_normalise sc at j (plain (is_type A)) =
    safe_bind Expression Value sc Any (Of type.judgement) (checker at (λ W E. normal_form W E A)) _ (safe_checker Expression sc at (λ W E. normal_form W E A) (λ W E u. (units_are_kept W E u).2 A)) (λ N p. safe_pure Value sc (Of type.judgement) _ tt)
safe_normalise sc at j (plain (has_type t A)) =
    safe_bind Expression Value sc Any (Of type.judgement) (checker at (λ W E. normal_form W E t)) _ (safe_checker Expression sc at (λ W E. normal_form W E t) (λ W E u. (units_are_kept W E u).2 t)) (λ N p. safe_pure Value sc (Of type.judgement) _ tt)
safe_normalise sc at j x = safe_halt Value sc (Of type.judgement) (fails (Refused WrongForm) at) tt

-- words
of_wanted_judgement : (sc : Scope) (at p : ℕ) (w : OneForm) (v : Value) (A C : ValueType) → results.◌>>◌ (ensure_type p type.judgement A) (okay type.judgement) ≡ okay C → HasType v A
    → ((j : Assertion) → IsSafe Value sc (Of type.judgement) (word_at at w (judgement j))) → IsSafe Value sc (Of C) (word_at at w v)
of_wanted_judgement sc at p w v A C u h k =
    let e : ((x : Unit {0}) × (ensure_type p type.judgement A ≡ Ok x)) × (okay type.judgement ≡ okay C) = ok_both (ensure_type p type.judgement A) (okay type.judgement) C u in
    as_type sc type.judgement C (word_at at w v) e.1 (of_judgement sc (Of type.judgement) (word_at at w) v (subst (HasType v) (wanted_is p type.judgement A e.0.0 e.0.1) h) k)

of_wanted_either : (sc : Scope) (at p : ℕ) (w : OneForm) (v : Value) (A C : ValueType) → results.◌>>◌ (ensure_statement p A) (okay type.judgement) ≡ okay C → HasType v A
    → ((j : Assertion) → IsSafe Value sc (Of type.judgement) (word_at at w (judgement j))) → ((b : Assertion) → IsSafe Value sc (Of type.judgement) (word_at at w (boundary b))) → IsSafe Value sc (Of C) (word_at at w v)
of_wanted_either sc at p w v A C u h k l =
    let e : ((x : Unit {0}) × (ensure_statement p A ≡ Ok x)) × (okay type.judgement ≡ okay C) = ok_both (ensure_statement p A) (okay type.judgement) C u in
    as_type sc type.judgement C (word_at at w v) e.1 (of_either sc (Of type.judgement) (word_at at w) v A h (either_is p A e.0.0 e.0.1) k l)

pub safe_word : (sc : Scope) (at p : ℕ) (w : OneForm) (v : Value) (A C : ValueType) → word_type p w A ≡ Ok C → HasType v A → IsSafe Value sc (Of C) (word_at at w v)
safe_word sc at p Refl v A C u h = of_wanted_judgement sc at p Refl v A C u h (λ j. safe_judged sc at (λ W. reference.refl W j))
safe_word sc at p Sym v A C u h = of_wanted_judgement sc at p Sym v A C u h (λ j. safe_judged sc at (λ W. reference.sym W j))
safe_word sc at p Left v A C u h = of_wanted_either sc at p Left v A C u h (λ j. safe_judged sc at (λ W. reference.left_side W j)) (λ b. safe_judged sc at (λ W. reference.left_side W b))
safe_word sc at p Right v A C u h = of_wanted_either sc at p Right v A C u h (λ j. safe_judged sc at (λ W. reference.right_side W j)) (λ b. safe_judged sc at (λ W. reference.right_side W b))
safe_word sc at p Typeof v A C u h = of_wanted_either sc at p Typeof v A C u h (λ j. safe_judged sc at (λ W. reference.type_part W j)) (λ b. safe_judged sc at (λ W. reference.type_part W b))
safe_word sc at p Domain v A C u h = of_wanted_either sc at p Domain v A C u h (λ j. safe_judged sc at (λ W. reference.first_domain W j)) (λ b. safe_judged sc at (λ W. reference.first_domain W b))
safe_word sc at p Natural v A C u h = of_wanted_judgement sc at p Natural v A C u h (λ j. safe_judged sc at (λ W. reference.natural W j))
safe_word sc at p Normal v A C u h = of_wanted_judgement sc at p Normal v A C u h (λ j. safe_normalise sc at j j.statement)
safe_word sc at p Boundaryof v A C u h =
    let e : ((x : Unit {0}) × (ensure_type p type.judgement A ≡ Ok x)) × (okay type.boundary ≡ okay C) = ok_both (ensure_type p type.judgement A) (okay type.boundary) C u in
    as_type sc type.boundary C (word_at at Boundaryof v) e.1 (of_judgement sc (Of type.boundary) (word_at at Boundaryof) v (subst (HasType v) (wanted_is p type.judgement A e.0.0 e.0.1) h) (λ j. safe_bounded sc at (λ W. reference.boundary W j)))
safe_word sc at p SomeWord v A C u h = as_type sc (type.option A) C (pure (some v)) u (safe_pure Value sc (Of (type.option A)) (some v) h)

pub safe_word_two : (sc : Scope) → CanCoerce sc → (at second : ℕ) (w : TwoForm) (v u : Value) → HasType v (first_wanted w) → HasType u type.judgement → IsSafe Value sc (Of (word_type_of_two w)) (word_at_two at second w v u)
safe_word_two sc c at second Trans v u h k = of_judgement sc (Of type.judgement) (λ v. word_at_two at second Trans v u) v h (λ i. of_judgement sc (Of type.judgement) (λ u. word_at_two at second Trans (judgement i) u) u k (λ j. safe_judged sc at (λ W. reference.trans W i j)))
safe_word_two sc c at second Convert v u h k = of_judgement sc (Of type.judgement) (λ v. word_at_two at second Convert v u) v h (λ i. of_judgement sc (Of type.judgement) (λ u. word_at_two at second Convert (judgement i) u) u k (λ j. safe_judged sc at (λ W. conversion i.statement W i j)))
safe_word_two sc c at second Equal v u h k = of_judgement sc (Of (type.option type.judgement)) (λ v. word_at_two at second Equal v u) v h (λ i. of_judgement sc (Of (type.option type.judgement)) (λ u. word_at_two at second Equal (judgement i) u) u k (λ j. safe_compare sc at i j i.statement j.statement))
safe_word_two sc c at second Widen v u h k = of_judgement sc (Of type.judgement) (λ v. word_at_two at second Widen v u) v h (λ i. of_judgement sc (Of type.judgement) (λ u. word_at_two at second Widen (judgement i) u) u k (λ j. safe_judged sc at (λ W. reference.widen W i j)))
safe_word_two sc c at second Rewrite v u h k = of_judgement sc (Of type.judgement) (λ v. word_at_two at second Rewrite v u) v h (λ i. of_judgement sc (Of type.judgement) (λ u. word_at_two at second Rewrite (judgement i) u) u k (λ j. safe_judged sc at (λ W. reference.substitute_equal W i j)))
safe_word_two sc c at second Fill v u h k = of_boundary sc (Of type.judgement) (λ v. word_at_two at second Fill v u) v h (λ b. of_judgement sc (Of type.judgement) (λ u. word_at_two at second Fill (boundary b) u) u k (λ j.
    safe_bind Assertion Value sc Any (Of type.judgement) (fitting second j b) (λ j. pure (judgement j)) (safe_fitting sc c second j b) (λ l p. safe_pure Value sc (Of type.judgement) (judgement l) tt)))

-- patterns
abbrev pub IfTyped : List (Name × ValueType) → Option Environment → Type 0
IfTyped vs None = Unit {0}
IfTyped vs (Some G) = HaveTypes G vs

pub safe_found : (A : Type 0) (sc : Scope) (P : A → Type 0) (vs : List (Name × ValueType)) (found : Option Environment) (next : Environment → Run A) (other : Run A) → IfTyped vs found
    → ((G : Environment) → HaveTypes G vs → IsSafe A sc P (next G)) → IsSafe A sc P other → IsSafe A sc P (if_found found next other)
safe_found A sc P vs (Some G) next other h f k = f G h
safe_found A sc P vs None next other h f k = k

safe_and : (sc : Scope) (vs ws : List (Name × ValueType)) (m : Run (Option Environment)) (next : Environment → Run (Option Environment)) → IsSafe (Option Environment) sc (IfTyped vs) m
    → ((G : Environment) → HaveTypes G vs → IsSafe (Option Environment) sc (IfTyped ws) (next G)) → IsSafe (Option Environment) sc (IfTyped ws) (m and_also next)
safe_and sc vs ws m next k f = safe_bind (Option Environment) (Option Environment) sc (IfTyped vs) (IfTyped ws) m (λ found. if_found found next (pure None)) k (λ found h.
    safe_found (Option Environment) sc (IfTyped ws) vs found next (pure None) h f (safe_pure (Option Environment) sc (IfTyped ws) None tt))

where_typed : (vs : List (Name × ValueType)) (b : Bool) (G : Environment) → HaveTypes G vs → IfTyped vs (when b G)
where_typed vs true G h = h
where_typed vs false G h = tt

abbrev pub Found : Scope → Bindings → Option Environment → Type 0
Found sc bs o = IfTyped (bs ++ sc.values) o

-- the same names
same_found : (sc : Scope) (bs cs : Bindings) (m : Run (Option Environment)) → okay bs ≡ okay cs → IsSafe (Option Environment) (ground sc) (Found sc bs) m → IsSafe (Option Environment) (ground sc) (Found sc cs) m
same_found sc bs cs m e k = subst (λ z. IsSafe (Option Environment) (ground sc) (Found sc z) m) (ok_ok bs cs e) k

-- a symbol, where its parts match
symbol_match : (sc : Scope) (at a : ℕ) (n : Named) (ps : Patterns) (A : ValueType) (bs cs : Bindings) (v : Value) (G : Environment) → bindings (symbol_pattern a n ps) sc A bs ≡ Ok cs → HasType v A → HaveTypes G (bs ++ sc.values)
    → ((j : Assertion) → all_bindings ps sc bs ≡ Ok cs → HaveTypes G (bs ++ sc.values) → IsSafe (Option Environment) (ground sc) (Found sc cs) (match_arguments at ps j 1 G)) → IsSafe (Option Environment) (ground sc) (Found sc cs) (matches at (symbol_pattern a n ps) v G)
symbol_match sc at a n ps type.judgement bs cs (judgement j) G u h g f =
    let k : (r : RuleType) × ((meant_by sc.rules n ≡ Ok r) × (_ ≡ Ok cs)) = ok_then (meant_by sc.rules n) _ cs u in
    safe_bind (ℕ × Rule) (Option Environment) (ground sc) Any (Found sc cs) (the_rule n.name) (λ r. cond (is_applied r.0 j.statement) (match_arguments at ps j 1 G) (pure None)) (safe_rule (ground sc) n.name k.0 (meant_is sc.rules n k.0 k.1.0)) (λ r x.
    safe_cond (Option Environment) (ground sc) (Found sc cs) (is_applied r.0 j.statement) (match_arguments at ps j 1 G) (pure None) (f j (ok_both (ensure_arity n k.0.premises (pattern_count ps)) (all_bindings ps sc bs) cs (ok_both (results.ensure k.0.is_symbol (fault_at n.at (Unbound n.name))) _ cs k.1.1).1).1 g) (safe_pure (Option Environment) (ground sc) (Found sc cs) None tt))
symbol_match sc at a n ps type.judgement bs cs v G u h g f = absurd h
symbol_match sc at a n ps A bs cs v G u h g f = not_ok _ cs u

mutual
  pub safe_match : (sc : Scope) (at : ℕ) (p : Pattern) (A : ValueType) (bs cs : Bindings) (v : Value) (G : Environment) → bindings p sc A bs ≡ Ok cs → HasType v A → HaveTypes G (bs ++ sc.values) → IsSafe (Option Environment) (ground sc) (Found sc cs) (matches at p v G)
  safe_match sc at (cons_pattern a p q) (type.list A) bs cs (cons v w) G u h g =
      let k : (ds : Bindings) × ((bindings p sc A bs ≡ Ok ds) × (bindings q sc (type.list A) ds ≡ Ok cs)) = ok_then (bindings p sc A bs) (bindings q sc (type.list A)) cs u in
      safe_and (ground sc) (k.0 ++ sc.values) (cs ++ sc.values) (matches at p v G) (matches at q w) (safe_match sc at p A bs k.0 v G k.1.0 h.0 g) (λ H l. safe_match sc at q (type.list A) k.0 cs w H k.1.1 h.1 l)
  safe_match sc at (cons_pattern a p q) (type.list A) bs cs nil G u h g = safe_pure (Option Environment) (ground sc) (Found sc cs) None tt
  safe_match sc at (cons_pattern a p q) (type.list A) bs cs v G u h g = absurd h
  safe_match sc at (cons_pattern a p q) A bs cs v G u h g = not_ok _ cs u
  safe_match sc at (some_pattern a p) (type.option A) bs cs (some v) G u h g = safe_match sc at p A bs cs v G u h g
  safe_match sc at (some_pattern a p) (type.option A) bs cs none G u h g = safe_pure (Option Environment) (ground sc) (Found sc cs) None tt
  safe_match sc at (some_pattern a p) (type.option A) bs cs v G u h g = absurd h
  safe_match sc at (some_pattern a p) A bs cs v G u h g = not_ok _ cs u
  safe_match sc at (symbol_pattern a n ps) A bs cs v G u h g = symbol_match sc at a n ps A bs cs v G u h g (λ j. safe_match_arguments sc at ps bs cs j 1 G)
  safe_match sc at (name_pattern a n) A bs cs v G u h g =
      let k : ((x : Unit {0}) × (results.ensure (not (is_some (named bs n))) (fault_at a (Twice n)) ≡ Ok x)) × (okay ((n, A) ∷ bs) ≡ okay cs) = ok_both (results.ensure (not (is_some (named bs n))) (fault_at a (Twice n))) (okay ((n, A) ∷ bs)) cs u in
      same_found sc ((n, A) ∷ bs) cs (pure (Some ((n, v) ∷ G))) k.1 (safe_pure (Option Environment) (ground sc) (Found sc ((n, A) ∷ bs)) (Some ((n, v) ∷ G)) (refl, h, g))
  safe_match sc at (wildcard a) A bs cs v G u h g = same_found sc bs cs (pure (Some G)) u (safe_pure (Option Environment) (ground sc) (Found sc bs) (Some G) g)
  safe_match sc at (truth_pattern a b) type.bool bs cs (truth c) G u h g = same_found sc bs cs (pure (when (same_truth b c) G)) u (safe_pure (Option Environment) (ground sc) (Found sc bs) (when (same_truth b c) G) (where_typed (bs ++ sc.values) (same_truth b c) G g))
  safe_match sc at (truth_pattern a b) type.bool bs cs v G u h g = absurd h
  safe_match sc at (truth_pattern a b) A bs cs v G u h g = not_ok _ cs u
  safe_match sc at (unit_pattern a) type.unit bs cs unit G u h g = same_found sc bs cs (pure (Some G)) u (safe_pure (Option Environment) (ground sc) (Found sc bs) (Some G) g)
  safe_match sc at (unit_pattern a) type.unit bs cs v G u h g = absurd h
  safe_match sc at (unit_pattern a) A bs cs v G u h g = not_ok _ cs u
  safe_match sc at (none_pattern a) (type.option A) bs cs none G u h g = same_found sc bs cs (pure (Some G)) u (safe_pure (Option Environment) (ground sc) (Found sc bs) (Some G) g)
  safe_match sc at (none_pattern a) (type.option A) bs cs (some v) G u h g = safe_pure (Option Environment) (ground sc) (Found sc cs) None tt
  safe_match sc at (none_pattern a) (type.option A) bs cs v G u h g = absurd h
  safe_match sc at (none_pattern a) A bs cs v G u h g = not_ok _ cs u
  safe_match sc at (nil_pattern a) (type.list A) bs cs nil G u h g = same_found sc bs cs (pure (Some G)) u (safe_pure (Option Environment) (ground sc) (Found sc bs) (Some G) g)
  safe_match sc at (nil_pattern a) (type.list A) bs cs (cons v w) G u h g = safe_pure (Option Environment) (ground sc) (Found sc cs) None tt
  safe_match sc at (nil_pattern a) (type.list A) bs cs v G u h g = absurd h
  safe_match sc at (nil_pattern a) A bs cs v G u h g = not_ok _ cs u
  safe_match sc at (pair_pattern a p q) (type.pair A B) bs cs (pair v w) G u h g =
      let k : (ds : Bindings) × ((bindings p sc A bs ≡ Ok ds) × (bindings q sc B ds ≡ Ok cs)) = ok_then (bindings p sc A bs) (bindings q sc B) cs u in
      safe_and (ground sc) (k.0 ++ sc.values) (cs ++ sc.values) (matches at p v G) (matches at q w) (safe_match sc at p A bs k.0 v G k.1.0 h.0 g) (λ H l. safe_match sc at q B k.0 cs w H k.1.1 h.1 l)
  safe_match sc at (pair_pattern a p q) (type.pair A B) bs cs v G u h g = absurd h
  safe_match sc at (pair_pattern a p q) A bs cs v G u h g = not_ok _ cs u

  safe_match_arguments : (sc : Scope) (at : ℕ) (ps : Patterns) (bs cs : Bindings) (j : Assertion) (i : ℕ) (G : Environment) → all_bindings ps sc bs ≡ Ok cs → HaveTypes G (bs ++ sc.values) → IsSafe (Option Environment) (ground sc) (Found sc cs) (match_arguments at ps j i G)
  safe_match_arguments sc at no_patterns bs cs j i G u g = same_found sc bs cs (pure (Some G)) u (safe_pure (Option Environment) (ground sc) (Found sc bs) (Some G) g)
  safe_match_arguments sc at (and_pattern p ps) bs cs j i G u g =
      let k : (ds : Bindings) × ((bindings p sc type.judgement bs ≡ Ok ds) × (all_bindings ps sc ds ≡ Ok cs)) = ok_then (bindings p sc type.judgement bs) (all_bindings ps sc) cs u in
      safe_bind Assertion (Option Environment) (ground sc) Any (Found sc cs) (nucleus at (λ W. reference.argument W i j)) _ (safe_nucleus (ground sc) at (λ W. reference.argument W i j)) (λ a x.
      safe_and (ground sc) (k.0 ++ sc.values) (cs ++ sc.values) (matches at p (judgement a) G) (match_arguments at ps j (suc i)) (safe_match sc at p type.judgement bs k.0 (judgement a) G k.1.0 tt g) (λ H l. safe_match_arguments sc at ps k.0 cs j (suc i) H k.1.1 l))
