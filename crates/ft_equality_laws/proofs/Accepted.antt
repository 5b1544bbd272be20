-- What the shapes that are accepted say.
use Rattle.std.proofs.Common.{◌≡◌, ◌+◌, ℕ, zero, suc, Bool, true, false, cond, nat_eq, ◌&&◌, Option, Some, None, Result, Ok, Err, List, [], ◌∷◌, ◌++◌, ◌⊎◌, inl, inr, refl, sym, ap, ap₂, ◌∙◌, subst, arith, eqb-true, append_assoc}
use Rattle.std.specs.Prelude.{not, ◌||◌, filter, option_map}
use Rattle.std.specs.List.{list_any}
use Rattle.ft_theory.specs.Expressions.{Expression, bound, free, symbol, meta, Arguments, no_arguments, with_body, dummy, no_terms}
use Rattle.ft_theory.specs.Statements.{Claim, is_type, has_type, equal_types, equal_terms, type_goal, term_goal, type_equation_goal, term_equation_goal, Statement, plain, domain_count, fill_goal, IsObjectGoal, IsObject, IsEquation}
use Rattle.ft_theory.specs.Rules.{Rule, rule_at, FitsPremises}
use Rattle.ft_theory.specs.Steps.{Prim}
use Rattle.ft_laws.proofs.Finitary.{Sound}
use Rattle.ft_items.specs.Equal.{equal_expressions, equal_statements, is_object}
use Rattle.ft_items.proofs.SetLemmas.{wrong, wrong', both, not_true}
use Rattle.ft_sound.proofs.EqualLemmas.{expression_true, statement_true, object_true}
use Rattle.ft_equality.specs.Results as results
use Rattle.ft_equality.specs.Results.{ensure, some_or}
use Rattle.ft_equality.specs.Shapes.{Premises, ShapeFault, NotEquation, BadLeft, EquationPremise, Undetermined, Computation, Extensionality, EqualityRules, is_pattern, are_patterns, is_symbol_pattern, determines, mentions, is_object_premise, objects, equations, each_premise, equations_last, sides, term_sides, last_two, is_side_of, computation_of, extensionality_of, is_symbol_at, looks_into, is_principal}
use Rattle.ft_equality_laws.proofs.Parts.{Flat}
use Rattle.ft_equality_laws.proofs.Patterns.{Laid, laid}
use Rattle.ft_equality_laws.proofs.Normal.{equation_goal, Computes, AllCompute, left_at}
use Rattle.ft_equality_laws.proofs.ByType.{Compares}
use Rattle.ft_equality_laws.specs.Laws.{Each}
use Rattle.ft_equality_laws.proofs.Each.{each_zip, each_split}
use Rattle.ft_equality_laws.proofs.Walks.{kinds_of}
use Rattle.ft_common.proofs.Options.{none_some as nothing}
use Rattle.std.proofs.lemmas.Option.{same_Some as Some_injective}

-- results in a row
pub bind_ok : {A B E : Type 0} (m : Result A E) (k : A → Result B E) (b : B) → results.◌>>=◌ m k ≡ Ok b → (a : A) × (m ≡ Ok a) × (k a ≡ Ok b)
bind_ok (Ok a) k b h = (a, refl, h)
bind_ok (Err e) k b h = absurd (clash h)
  where
    clash : Err e ≡ Ok b → ⊥
    clash h = cc

then_ok : {A B E : Type 0} (m : Result A E) (k : Result B E) (b : B) → results.◌>>◌ m k ≡ Ok b → (a : A) × (m ≡ Ok a) × (k ≡ Ok b)
then_ok (Ok a) k b h = (a, refl, h)
then_ok (Err e) k b h = absurd (clash h)
  where
    clash : Err e ≡ Ok b → ⊥
    clash h = cc

ensure_ok : {E : Type 0} (b : Bool) (e : E) (u : Unit {0}) → ensure b e ≡ Ok u → b ≡ true
ensure_ok true e u h = refl
ensure_ok false e u h = absurd (clash h)
  where
    clash : Err e ≡ Ok u → ⊥
    clash h = cc

abbrev value : {A E : Type 0} → A → Result A E → A
value d (Ok a) = a
value d (Err e) = d

pub ok_is : {A E : Type 0} (m : Result A E) (a b : A) → m ≡ Ok a → m ≡ Ok b → a ≡ b
ok_is m a b p q = ap (value a) (sym p ∙ q)

some_ok : {A E : Type 0} (o : Option A) (e : E) (a : A) → some_or o e ≡ Ok a → o ≡ Some a
some_ok (Some b) e a h = ap Some (ap (value b) h)
some_ok {A} {E} None e a h = absurd (clash h)
  where
    clash : Err e ≡ Ok a → ⊥
    clash h = cc

each_premise_ok : (p : ℕ × Statement → Bool) (f : ℕ → ShapeFault) (i : ℕ) (qs : Premises) (u : Unit {0}) → each_premise p f i qs ≡ Ok u → Each (λ q. p q ≡ true) qs
each_premise_ok p f i [] u h = tt
each_premise_ok p f i (q ∷ qs) u h =
    let r : (a : Unit {0}) × (ensure (p q) (f i) ≡ Ok a) × (each_premise p f (suc i) qs ≡ Ok u) = then_ok (ensure (p q) (f i)) (each_premise p f (suc i) qs) u h in
    (ensure_ok (p q) (f i) r.0 r.1, each_premise_ok p f (suc i) qs u r.2)

sides_are : (c : Claim) (x : Expression × Expression × Option Expression) → sides c ≡ Some x → c ≡ equation_goal x.0 x.1 x.2
sides_are (type_equation_goal A B) x h = ap (λ (z : Expression × Expression × Option Expression). equation_goal z.0 z.1 z.2) (Some_injective (A, B, None) x h)
sides_are (term_equation_goal s t A) x h = ap (λ (z : Expression × Expression × Option Expression). equation_goal z.0 z.1 z.2) (Some_injective (s, t, Some A) x h)
sides_are c x h = nothing h

term_sides_are : (c : Claim) (x : Expression × Expression × Expression) → term_sides c ≡ Some x → c ≡ term_equation_goal x.0 x.1 x.2
term_sides_are (term_equation_goal s t A) x h = ap (λ (z : Expression × Expression × Expression). term_equation_goal z.0 z.1 z.2) (Some_injective (s, t, A) x h)
term_sides_are c x h = nothing h

symbol_is : (e : Expression) → is_symbol_pattern e ≡ true → (s : ℕ) × (us : Arguments) × (e ≡ symbol s us) × (are_patterns us ≡ true)
symbol_is (symbol s us) h = (s, us, refl, h)
symbol_is (bound i) h = wrong h
symbol_is (free v) h = wrong h
symbol_is (meta m ts) h = wrong h

-- the rest of the shape of a computation rule
abbrev computation_rest : ℕ → Rule → Expression × Expression × Option Expression → Result Computation ShapeFault
computation_rest r R x = results.◌>>◌ (each_premise is_object_premise EquationPremise 1 R.premises) (results.◌>>◌ (ensure (is_symbol_pattern x.0) BadLeft) (results.◌>>◌ (each_premise (λ q. determines x.0 q.0) Undetermined 1 R.premises)
    (Ok (record { rule = r; premises = R.premises; left = x.0; right = x.1; type = x.2 }))))

pub computes : (T : List Rule) (r : ℕ) (R : Rule) (c : Computation) → rule_at T r ≡ Some R → computation_of r R ≡ Ok c → Computes T c
computes T r R c q h =
    let b : (x : Expression × Expression × Option Expression) × (some_or (sides R.conclusion) NotEquation ≡ Ok x) × (computation_rest r R x ≡ Ok c) = bind_ok (some_or (sides R.conclusion) NotEquation) (computation_rest r R) c h in
    rest b.0 (some_ok (sides R.conclusion) NotEquation b.0 b.1) b.2
  where
    made : Expression × Expression × Option Expression → Computation
    made x = record { rule = r; premises = R.premises; left = x.0; right = x.1; type = x.2 }

    rest : (x : Expression × Expression × Option Expression) → sides R.conclusion ≡ Some x → computation_rest r R x ≡ Ok c → Computes T c
    rest x e k =
        let b1 : (u : Unit {0}) × (each_premise is_object_premise EquationPremise 1 R.premises ≡ Ok u) × (results.◌>>◌ (ensure (is_symbol_pattern x.0) BadLeft) (results.◌>>◌ (each_premise (λ q. determines x.0 q.0) Undetermined 1 R.premises) (Ok (made x))) ≡ Ok c) =
        then_ok (each_premise is_object_premise EquationPremise 1 R.premises) (results.◌>>◌ (ensure (is_symbol_pattern x.0) BadLeft) (results.◌>>◌ (each_premise (λ q. determines x.0 q.0) Undetermined 1 R.premises) (Ok (made x)))) c k in
        let b2 : (u : Unit {0}) × (ensure (is_symbol_pattern x.0) BadLeft ≡ Ok u) × (results.◌>>◌ (each_premise (λ q. determines x.0 q.0) Undetermined 1 R.premises) (Ok (made x)) ≡ Ok c) =
        then_ok (ensure (is_symbol_pattern x.0) BadLeft) (results.◌>>◌ (each_premise (λ q. determines x.0 q.0) Undetermined 1 R.premises) (Ok (made x))) c b1.2 in
        let b3 : (u : Unit {0}) × (each_premise (λ q. determines x.0 q.0) Undetermined 1 R.premises ≡ Ok u) × (Ok (made x) ≡ Ok c) = then_ok (each_premise (λ q. determines x.0 q.0) Undetermined 1 R.premises) (Ok (made x)) c b2.2 in
        let l : (s : ℕ) × (us : Arguments) × (x.0 ≡ symbol s us) × (are_patterns us ≡ true) = symbol_is x.0 (ensure_ok (is_symbol_pattern x.0) BadLeft b2.0 b2.1) in
        subst (Computes T) (ap (value (made x)) b3.2)
        (record {
          is = q ∙ ap (λ z. Some (record { premises = R.premises; conclusion = z })) (sides_are R.conclusion x e);
          symbol_of = l.0;
          patterns = l.1;
          left = l.2;
          pattern = l.3;
          determined = each_zip (λ p. is_object_premise p ≡ true) (λ p. determines x.0 p.0 ≡ true) (λ p. IsObject p.1 × (determines x.0 p.0 ≡ true)) R.premises (λ p y z. (object_true p.1 y, z))
              (each_premise_ok is_object_premise EquationPremise 1 R.premises b1.0 b1.1) (each_premise_ok (λ p. determines x.0 p.0) Undetermined 1 R.premises b3.0 b3.1);
        })

-- equation premises last
filter_none : (qs : Premises) → list_any is_object_premise qs ≡ false → objects qs ≡ []
filter_none [] h = refl
filter_none (q ∷ qs) h = go (is_object_premise q) h (filter_none qs)
  where
    go : (b : Bool) → (b || list_any is_object_premise qs) ≡ false → (list_any is_object_premise qs ≡ false → objects qs ≡ []) → cond b (q ∷ objects qs) (objects qs) ≡ []
    go true h ih = wrong' h
    go false h ih = ih h

parted : (i : ℕ) (qs : Premises) (u : Unit {0}) → equations_last i qs ≡ Ok u → qs ≡ objects qs ++ equations qs
parted i [] u h = refl
parted i (q ∷ qs) u h =
    let r : (a : Unit {0}) × (ensure (is_object_premise q || not (list_any is_object_premise qs)) (EquationPremise i) ≡ Ok a) × (equations_last (suc i) qs ≡ Ok u) =
    then_ok (ensure (is_object_premise q || not (list_any is_object_premise qs)) (EquationPremise i)) (equations_last (suc i) qs) u h in
    go (is_object_premise q) (ensure_ok (is_object_premise q || not (list_any is_object_premise qs)) (EquationPremise i) r.0 r.1) (parted (suc i) qs u r.2)
  where
    go : (b : Bool) → (b || not (list_any is_object_premise qs)) ≡ true → qs ≡ objects qs ++ equations qs
        → q ∷ qs ≡ cond b (q ∷ objects qs) (objects qs) ++ cond (not b) (q ∷ equations qs) (equations qs)
    go true h ih = ap (λ z. q ∷ z) ih
    go false h ih =
        let n : objects qs ≡ [] = filter_none qs (not_true (list_any is_object_premise qs) h) in
        ap (λ z. q ∷ z) (ih ∙ ap (λ z. z ++ equations qs) n) ∙ ap (λ z. z ++ (q ∷ equations qs)) (sym n)

-- what a filter keeps
kept : (p : ℕ × Statement → Bool) (qs : Premises) → Each (λ q. p q ≡ true) (filter p qs)
kept p [] = tt
kept p (q ∷ qs) = go (p q) refl (kept p qs)
  where
    go : (b : Bool) → p q ≡ b → Each (λ q. p q ≡ true) (filter p qs) → Each (λ q. p q ≡ true) (cond b (q ∷ filter p qs) (filter p qs))
    go true e ih = (e, ih)
    go false e ih = ih

filter_each : (P : ℕ × Statement → Type 0) (p : ℕ × Statement → Bool) (qs : Premises) → Each P qs → Each P (filter p qs)
filter_each P p [] h = tt
filter_each P p (q ∷ qs) h = go (p q) (filter_each P p qs h.1)
  where
    go : (b : Bool) → Each P (filter p qs) → Each P (cond b (q ∷ filter p qs) (filter p qs))
    go true ih = (h.0, ih)
    go false ih = ih

object_tests : (b : Statement) → IsObject b → is_object b ≡ true
object_tests (plain type_goal) o = refl
object_tests (plain (term_goal A)) o = refl
object_tests (plain c) o = absurd o
object_tests (Rattle.ft_theory.specs.Statements.abstracted A b) o = object_tests b o

no_object : (b : Statement) → IsObject b ⊎ IsEquation b → not (is_object b) ≡ true → IsEquation b
no_object b (inl o) h = wrong (sym (not_true (is_object b) h) ∙ object_tests b o)
no_object b (inr o) h = o

abbrev together : Premises × (ℕ × Statement) × (ℕ × Statement) → Premises
together r = r.0 ++ (r.1 ∷ r.2 ∷ [])

-- the last two of a list
last_are : (xs : Premises) (r : Premises × (ℕ × Statement) × (ℕ × Statement)) → last_two xs ≡ Some r → xs ≡ r.0 ++ (r.1 ∷ r.2 ∷ [])
last_are [] r h = nothing h
last_are (x ∷ []) r h = nothing h
last_are (x ∷ y ∷ []) r h = ap together (Some_injective ([], x, y) r h)
last_are (x ∷ y ∷ z ∷ zs) r h = go (last_two (y ∷ z ∷ zs)) (last_are (y ∷ z ∷ zs)) h
  where
    go : (o : Option (Premises × (ℕ × Statement) × (ℕ × Statement))) → ((q : Premises × (ℕ × Statement) × (ℕ × Statement)) → o ≡ Some q → y ∷ z ∷ zs ≡ together q)
        → option_map (λ (q : Premises × (ℕ × Statement) × (ℕ × Statement)). (x ∷ q.0, q.1, q.2)) o ≡ Some r → x ∷ y ∷ z ∷ zs ≡ together r
    go None ih h = nothing h
    go (Some q) ih h = ap (λ w. x ∷ w) (ih q refl) ∙ ap together (Some_injective (x ∷ q.0, q.1, q.2) r h)

-- a side is the metavariable of its premise
side_is : (P s : Expression) (q : ℕ × Statement) → is_side_of P s q ≡ true → (s ≡ meta q.0 no_terms) × (q ≡ (q.0, plain (term_goal P))) × (mentions q.0 P ≡ false)
side_is P s q h =
    let a : ((equal_expressions s (meta q.0 no_terms) && equal_statements q.1 (plain (term_goal P))) ≡ true) × (not (mentions q.0 P) ≡ true) = both (equal_expressions s (meta q.0 no_terms) && equal_statements q.1 (plain (term_goal P))) (not (mentions q.0 P)) h in
    let b : (equal_expressions s (meta q.0 no_terms) ≡ true) × (equal_statements q.1 (plain (term_goal P)) ≡ true) = both (equal_expressions s (meta q.0 no_terms)) (equal_statements q.1 (plain (term_goal P))) a.0 in
    (expression_true s (meta q.0 no_terms) b.0, ap (λ z. (q.0, z)) (statement_true q.1 (plain (term_goal P)) b.1), not_true (mentions q.0 P) a.1)

abbrev extensionality_made : ℕ → Rule → Expression × Expression × Expression → Premises × (ℕ × Statement) × (ℕ × Statement) → Extensionality
extensionality_made r R x o = record { rule = r; premises = R.premises; type = x.2; first = o.1.0; second = o.2.0; equations = equations R.premises }

abbrev extensionality_end : ℕ → Rule → Expression × Expression × Expression → Premises × (ℕ × Statement) × (ℕ × Statement) → Result Extensionality ShapeFault
extensionality_end r R x o = results.◌>>◌ (ensure (is_side_of x.2 x.0 o.1 && is_side_of x.2 x.1 o.2 && is_symbol_pattern x.2) BadLeft) (results.◌>>◌ (each_premise (λ q. determines x.2 q.0) Undetermined 1 o.0) (Ok (extensionality_made r R x o)))

abbrev extensionality_rest : ℕ → Rule → Expression × Expression × Expression → Result Extensionality ShapeFault
extensionality_rest r R x = results.◌>>◌ (equations_last 1 R.premises) (results.◌>>=◌ (some_or (last_two (objects R.premises)) BadLeft) (extensionality_end r R x))

pub compares : (T : List Rule) → Sound T → (r : ℕ) (R : Rule) (x : Extensionality) → rule_at T r ≡ Some R → extensionality_of r R ≡ Ok x → Compares T x
compares T so r R x q h =
    let b : (y : Expression × Expression × Expression) × (some_or (term_sides R.conclusion) NotEquation ≡ Ok y) × (extensionality_rest r R y ≡ Ok x) = bind_ok (some_or (term_sides R.conclusion) NotEquation) (extensionality_rest r R) x h in
    rest b.0 (term_sides_are R.conclusion b.0 (some_ok (term_sides R.conclusion) NotEquation b.0 b.1)) b.2
  where
    rest : (y : Expression × Expression × Expression) → R.conclusion ≡ term_equation_goal y.0 y.1 y.2 → extensionality_rest r R y ≡ Ok x → Compares T x
    rest y e k =
        let b1 : (u : Unit {0}) × (equations_last 1 R.premises ≡ Ok u) × (results.◌>>=◌ (some_or (last_two (objects R.premises)) BadLeft) (extensionality_end r R y) ≡ Ok x) =
        then_ok (equations_last 1 R.premises) (results.◌>>=◌ (some_or (last_two (objects R.premises)) BadLeft) (extensionality_end r R y)) x k in
        let b2 : (o : Premises × (ℕ × Statement) × (ℕ × Statement)) × (some_or (last_two (objects R.premises)) BadLeft ≡ Ok o) × (extensionality_end r R y o ≡ Ok x) =
        bind_ok (some_or (last_two (objects R.premises)) BadLeft) (extensionality_end r R y) x b1.2 in
        let o : Premises × (ℕ × Statement) × (ℕ × Statement) = b2.0 in
        let b3 : (u : Unit {0}) × (ensure (is_side_of y.2 y.0 o.1 && is_side_of y.2 y.1 o.2 && is_symbol_pattern y.2) BadLeft ≡ Ok u) × (results.◌>>◌ (each_premise (λ q. determines y.2 q.0) Undetermined 1 o.0) (Ok (extensionality_made r R y o)) ≡ Ok x) =
        then_ok (ensure (is_side_of y.2 y.0 o.1 && is_side_of y.2 y.1 o.2 && is_symbol_pattern y.2) BadLeft) (results.◌>>◌ (each_premise (λ q. determines y.2 q.0) Undetermined 1 o.0) (Ok (extensionality_made r R y o))) x b2.2 in
        let b4 : (u : Unit {0}) × (each_premise (λ q. determines y.2 q.0) Undetermined 1 o.0 ≡ Ok u) × (Ok (extensionality_made r R y o) ≡ Ok x) = then_ok (each_premise (λ q. determines y.2 q.0) Undetermined 1 o.0) (Ok (extensionality_made r R y o)) x b3.2 in
        let t : ((is_side_of y.2 y.0 o.1 && is_side_of y.2 y.1 o.2) ≡ true) × (is_symbol_pattern y.2 ≡ true) = both (is_side_of y.2 y.0 o.1 && is_side_of y.2 y.1 o.2) (is_symbol_pattern y.2) (ensure_ok (is_side_of y.2 y.0 o.1 && is_side_of y.2 y.1 o.2 && is_symbol_pattern y.2) BadLeft b3.0 b3.1) in
        let ss : (is_side_of y.2 y.0 o.1 ≡ true) × (is_side_of y.2 y.1 o.2 ≡ true) = both (is_side_of y.2 y.0 o.1) (is_side_of y.2 y.1 o.2) t.0 in
        let one : (y.0 ≡ meta o.1.0 no_terms) × (o.1 ≡ (o.1.0, plain (term_goal y.2))) × (mentions o.1.0 y.2 ≡ false) = side_is y.2 y.0 o.1 ss.0 in
        let two : (y.1 ≡ meta o.2.0 no_terms) × (o.2 ≡ (o.2.0, plain (term_goal y.2))) × (mentions o.2.0 y.2 ≡ false) = side_is y.2 y.1 o.2 ss.1 in
        let l : (s : ℕ) × (us : Arguments) × (y.2 ≡ symbol s us) × (are_patterns us ≡ true) = symbol_is y.2 t.1 in
        let two_last : objects R.premises ≡ o.0 ++ (o.1 ∷ o.2 ∷ []) = last_are (objects R.premises) o (some_ok (last_two (objects R.premises)) BadLeft o b2.1) in
        let eqs : Premises = equations R.premises in
        subst (Compares T) (ap (value (extensionality_made r R y o)) b4.2)
        (record {
          is = q ∙ ap (λ z. Some (record { premises = R.premises; conclusion = z })) (e ∙ ap₂ (λ u v. term_equation_goal u v y.2) one.0 two.0);
          others = o.0;
          split = parted 1 R.premises b1.0 b1.1 ∙ ap (λ z. z ++ eqs) two_last ∙ append_assoc o.0 (o.1 ∷ o.2 ∷ []) eqs ∙ ap₂ (λ u v. o.0 ++ (u ∷ v ∷ eqs)) one.1 two.1;
          symbol_of = l.0;
          patterns = l.1;
          type_is = l.2;
          pattern = l.3;
          determined = each_zip (λ p. is_object_premise p ≡ true) (λ p. determines y.2 p.0 ≡ true) (λ p. IsObject p.1 × (determines y.2 p.0 ≡ true)) o.0 (λ p u v. (object_true p.1 u, v))
              (each_split (λ p. is_object_premise p ≡ true) o.0 (o.1 ∷ o.2 ∷ []) (subst (λ z. Each (λ p. is_object_premise p ≡ true) z) two_last (kept is_object_premise R.premises))).0
              (each_premise_ok (λ p. determines y.2 p.0) Undetermined 1 o.0 b4.0 b4.1);
          equational = each_zip (λ p. IsObject p.1 ⊎ IsEquation p.1) (λ p. not (is_object_premise p) ≡ true) (λ p. IsEquation p.1) eqs (λ p u v. no_object p.1 u v)
              (filter_each (λ p. IsObject p.1 ⊎ IsEquation p.1) (λ q. not (is_object_premise q)) R.premises (kinds_of (λ N z. Prim T N [] z) [] R.premises (so r R q).0)) (kept (λ q. not (is_object_premise q)) R.premises);
          no_first = one.2;
          no_second = two.2;
        })

-- a premise, counted from 1, has no domains
abbrev ZeroAt : ℕ → List (ℕ × Statement) → Type 0
ZeroAt zero ps = Unit {0}
ZeroAt (suc i) [] = Unit {0}
ZeroAt (suc zero) (p ∷ ps) = domain_count p.1 ≡ zero
ZeroAt (suc (suc i)) (p ∷ ps) = ZeroAt (suc i) ps

zero_at : (i : ℕ) (a : Arguments) (ps : List (ℕ × Statement)) → is_symbol_at i a ≡ true → FitsPremises ps a → are_patterns a ≡ true → ZeroAt i ps
zero_at zero a ps h f k = wrong h
zero_at (suc i) no_arguments ps h f k = wrong h
zero_at (suc zero) (with_body n (symbol s b) a) [] h f k = absurd f
zero_at (suc zero) (with_body n (symbol s b) a) (p ∷ ps) h f k = sym f.0 ∙ eqb-true n zero (both (nat_eq n zero) (are_patterns b) (both (nat_eq n zero && are_patterns b) (are_patterns a) k).0).0
zero_at (suc zero) (with_body n e a) ps h f k = wrong h
zero_at (suc zero) (dummy n a) ps h f k = wrong h
zero_at (suc (suc i)) (with_body n e a) [] h f k = tt
zero_at (suc (suc i)) (with_body n e a) (p ∷ ps) h f k = zero_at (suc i) a ps h f.2 (both (is_pattern n e) (are_patterns a) k).1
zero_at (suc (suc i)) (dummy n a) [] h f k = tt
zero_at (suc (suc i)) (dummy n a) (p ∷ ps) h f k = zero_at (suc i) a ps h f.2 k

looked_into : (T : List Rule) → Sound T → (s i : ℕ) (R : Rule) → rule_at T s ≡ Some R → (c : Computation) → Computes T c → looks_into s i c.left ≡ true → ZeroAt i R.premises
looked_into T so s i R q c h k =
    let l : (d : Claim) × IsObjectGoal d × Prim T c.premises [] (plain (fill_goal d c.left)) = left_at T so [] c h in
    let w : Laid T (symbol h.symbol_of h.patterns) = laid T so c.premises [] (symbol h.symbol_of h.patterns) l.0 l.1 h.pattern (subst (λ u. Prim T c.premises [] (plain (fill_goal l.0 u))) h.left l.2) in
    let b : (nat_eq s h.symbol_of ≡ true) × (is_symbol_at i h.patterns ≡ true) = both (nat_eq s h.symbol_of) (is_symbol_at i h.patterns) (ap (looks_into s i) (sym h.left) ∙ k) in
    zero_at i h.patterns R.premises b.1 (w.0 R (ap (rule_at T) (sym (eqb-true s h.symbol_of b.0)) ∙ q)) h.pattern

principal_at : (T : List Rule) → Sound T → (s i : ℕ) (R : Rule) → rule_at T s ≡ Some R → (cs : List Computation) → AllCompute T cs → list_any (λ c. looks_into s i c.left) cs ≡ true → ZeroAt i R.premises
principal_at T so s i R q [] h k = wrong k
principal_at T so s i R q (c ∷ cs) h k = go (looks_into s i c.left) (looked_into T so s i R q c h.0) k (principal_at T so s i R q cs h.1)
  where
    go : (b : Bool) → (b ≡ true → ZeroAt i R.premises) → (b || list_any (λ c. looks_into s i c.left) cs) ≡ true → (list_any (λ c. looks_into s i c.left) cs ≡ true → ZeroAt i R.premises) → ZeroAt i R.premises
    go true f k ih = f refl
    go false f k ih = ih k

one_more : (j : ℕ) → suc j ≡ 1 + j
one_more j = omega arith

one_more' : (j : ℕ) → 1 + j ≡ suc j
one_more' j = omega arith

no_more : (i : ℕ) → i + zero ≡ i
no_more i = omega arith

further : (i j : ℕ) → i + suc j ≡ suc i + j
further i j = omega arith

flat_from : (E : EqualityRules) (s i : ℕ) (ps : List (ℕ × Statement)) → ((j : ℕ) → is_principal E s (i + j) ≡ true → ZeroAt (suc j) ps) → Flat E s i ps
flat_from E s i [] f = tt
flat_from E s i (p ∷ ps) f = (λ h. f zero (ap (is_principal E s) (no_more i) ∙ h), flat_from E s (suc i) ps (λ j h. f (suc j) (ap (is_principal E s) (further i j) ∙ h)))

pub flat_of : (T : List Rule) → Sound T → (E : EqualityRules) → AllCompute T E.computations → (s : ℕ) (R : Rule) → rule_at T s ≡ Some R → Flat E s 1 R.premises
flat_of T so E ac s R q = flat_from E s 1 R.premises (λ j h. principal_at T so s (suc j) R q E.computations ac (ap (is_principal E s) (one_more j) ∙ h))
