-- What each item that is allowed declares keeps the declarations of a list well formed.
use Rattle.std.proofs.Common.{◌≡◌, ◌≢◌, ℕ, zero, suc, ◌<◌, Bool, true, false, nat_lt, ◌&&◌, not, Option, Some, None, List, [], ◌∷◌, ◌++◌, length, ◌⊎◌, inl, inr, refl, sym, ap, ◌∙◌, subst, append_assoc, append-nil}
use Rattle.std.proofs.lemmas.Bool.{ltb-true, and_parts, not-true}
use Rattle.std.proofs.lemmas.Option.{same_Some}
use Rattle.ft_common.proofs.Booleans.{false_true}
use Rattle.ft_common.proofs.Options.{none_some}
use Rattle.ft_common.proofs.Choices.{if_same, if_other}
use Rattle.ft_theory.specs.Statements.{is_type, Statement, plain, abstracted, IsObject, IsEquation}
use Rattle.ft_theory.specs.Rules.{look_up, Rule}
use Rattle.ft_theory.specs.Steps.{Prim}
use Rattle.ft_theory.specs.Derivability.{DerUpTo, PremisesHold, RuleHolds, FinitaryAfter, FinitaryUpTo}
use Rattle.ft_laws.proofs.Opens.{by_test}
use Rattle.ft_laws.proofs.Rules.{look_before}
use Rattle.ft_laws.proofs.Commute.{ScopedTheory}
use Rattle.ft_laws.proofs.Finitary.{scoped}
use Rattle.ft_laws.proofs.Admissible.{finitary_sound, law, rule_before}
use Rattle.ft_items.specs.Sets.{Atom, met, var, Has, Within, is_within, same_set, metavariables_only, has}
use Rattle.ft_items.specs.Equal.{equal_statements, is_thesis, is_plain}
use Rattle.ft_items.specs.Item.{Name, Entry, entry}
use Rattle.ft_items.specs.Store.{Assertion, Annotation, Declared, Store, nth, type_in, claim_in, premises_of, Derivable, Resolved, resolve, add_variable, add_metavariable, add_rule, add, Declarations, declared_variable, declared_metavariable, declared_rule}
use Rattle.ft_items.specs.Rows.{conclusion, result_set, atoms, differ, on_earlier, concludes_thesis}
use Rattle.ft_items.specs.Good.{Reject, Kind, Conclusion, Set, unless, of_kind, same_truth, is_next, is_plain_type, reason_of_result, reason_of_entry, reason_in}
use Rattle.ft_items.proofs.Lists.{nth_before, nth_within}
use Rattle.ft_items.proofs.SetLemmas.{same_set_true, no_variable, within_true, has_false}
use Rattle.ft_sound.proofs.EqualLemmas.{statement_true, boundary_kind}
use Rattle.ft_sound.proofs.Valid.{Later, Declares, Valid, WellFormed, WellFormedStore, later_valid, scoped_rules}
use Rattle.ft_sound.proofs.InstanceRows.{AllDeclared, over_premises}
use Rattle.ft_sound.proofs.Steps.{resolved, sound_step}

-- an entry states what its step gives
abbrev pub StatesWhatItsStepGives : Store → Entry → Type 0
StatesWhatItsStepGives W e = (s : Resolved) × (resolve W e.step ≡ Some s) × (of_kind s ≡ true) × (conclusion W.declarations s ≡ Some e.statement) × (result_set s ≡ e.set)

-- a test that held
pub unless_none : (b : Bool) (why : Reject) (next : Option Reject) → unless b why next ≡ None → (b ≡ true) × (next ≡ None)
unless_none true why next e = (refl, e)
unless_none false why next e = none_some (sym e)

-- the last of a list
pub nth_last : {A : Type 0} (xs : List A) (y : A) (n : ℕ) (x : A) → nth (xs ++ (y ∷ [])) n ≡ Some x → (nth xs n ≡ Some x) ⊎ ((n ≡ length xs) × (y ≡ x))
nth_last [] y zero x e = inr (refl, same_Some y x e)
nth_last [] y (suc n) x e = none_some e
nth_last (z ∷ xs) y zero x e = inl e
nth_last (z ∷ xs) y (suc n) x e = next (nth_last xs y n x e)
  where
    next : (nth xs n ≡ Some x) ⊎ ((n ≡ length xs) × (y ≡ x)) → (nth xs n ≡ Some x) ⊎ ((suc n ≡ suc (length xs)) × (y ≡ x))
    next (inl h) = inl h
    next (inr h) = inr (ap suc h.0, h.1)

pub look_last : {A : Type 0} (xs : List (ℕ × A)) (v : ℕ) (a : A) (u : ℕ) (d : A) → look_up (xs ++ ((v, a) ∷ [])) u ≡ Some d → (look_up xs u ≡ Some d) ⊎ ((u ≡ v) × (a ≡ d))
look_last {A} [] v a u d e = by_test ((look_up {A = A} [] u ≡ Some d) ⊎ ((u ≡ v) × (a ≡ d))) u v
    (λ f. inr (f, same_Some a d (sym (if_same u v (Some a) None f) ∙ e)))
    (λ n. none_some (sym (if_other u v (Some a) None n) ∙ e))
look_last {A} (p ∷ xs) v a u d e = by_test ((look_up (p ∷ xs) u ≡ Some d) ⊎ ((u ≡ v) × (a ≡ d))) u p.0
    (λ f. inl (if_same u p.0 (Some p.1) (look_up xs u) f ∙ sym (if_same u p.0 (Some p.1) (look_up (xs ++ ((v, a) ∷ [])) u) f) ∙ e))
    (λ n. next n (look_last xs v a u d (sym (if_other u p.0 (Some p.1) (look_up (xs ++ ((v, a) ∷ [])) u) n) ∙ e)))
  where
    next : u ≢ p.0 → (look_up xs u ≡ Some d) ⊎ ((u ≡ v) × (a ≡ d)) → (look_up (p ∷ xs) u ≡ Some d) ⊎ ((u ≡ v) × (a ≡ d))
    next n (inl h) = inl (if_other u p.0 (Some p.1) (look_up xs u) n ∙ h)
    next n (inr h) = inr h

pub next_above : (xs : List (ℕ × Annotation)) (v u : ℕ) (d : Annotation) → is_next xs v ≡ true → look_up xs u ≡ Some d → u < v
next_above [] v u d h e = none_some e
next_above (p ∷ xs) v u d h e =
    let k : (nat_lt p.0 v ≡ true) × (is_next xs v ≡ true) = and_parts (nat_lt p.0 v) (is_next xs v) h in
    by_test (u < v) u p.0
    (λ f. subst (λ z. z < v) (sym f) (ltb-true p.0 v k.0))
    (λ n. next_above xs v u d k.1 (sym (if_other u p.0 (Some p.1) (look_up xs u) n) ∙ e))

-- what is to be shown of each declaration
abbrev MetHolds : Declarations → ℕ → Declared → Type 0
MetHolds W m d = Valid W d.boundary d.set × (IsObject d.boundary ⊎ IsEquation d.boundary) × ((v : ℕ) → Has (var v) d.set → ⊥) × ((n : ℕ) → Has (met n) d.set → n < m)

abbrev VarHolds : Declarations → ℕ → Annotation → Type 0
VarHolds W v d = Valid W (plain (is_type d.annotation)) d.set × ((w : ℕ) → Has (var w) d.set → w < v)

later_well_formed : (W X : Declarations) → WellFormed W → Later W X → ((k : ℕ) → FinitaryUpTo k X.rules)
    → ((m : ℕ) (d : Declared) → nth X.metavariables m ≡ Some d → (nth W.metavariables m ≡ Some d) ⊎ MetHolds X m d)
    → ((v : ℕ) (d : Annotation) → look_up X.variables v ≡ Some d → (look_up W.variables v ≡ Some d) ⊎ VarHolds X v d)
    → WellFormed X
later_well_formed W X F l fin ms vs = record {
  finitary = fin;
  metavariables = λ m d q. met_case m d (ms m d q);
  variables = λ v d q. var_case v d (vs v d q);
}
  where
    sc : ScopedTheory X.rules
    sc = scoped X.rules (finitary_sound zero X.rules (fin zero))

    met_case : (m : ℕ) (d : Declared) → (nth W.metavariables m ≡ Some d) ⊎ MetHolds X m d → MetHolds X m d
    met_case m d (inl q) = let h : MetHolds W m d = F.metavariables m d q in (later_valid W X d.boundary d.set sc l h.0, h.1, h.2, h.3)
    met_case m d (inr h) = h

    var_case : (v : ℕ) (d : Annotation) → (look_up W.variables v ≡ Some d) ⊎ VarHolds X v d → VarHolds X v d
    var_case v d (inl q) = let h : VarHolds W v d = F.variables v d q in (later_valid W X (plain (is_type d.annotation)) d.set sc l h.0, h.1)
    var_case v d (inr h) = h

-- further declarations, over which all is well formed
abbrev pub Grown : Declarations → Declarations → Type 0
Grown W X = Later W X × WellFormed X

pub over : (W : Store) (X : Declarations) → WellFormedStore W → Grown W.declarations X → WellFormedStore (record W { declarations = X })
over W X F g = record {
  declarations = g.1;
  entries = λ p a q. later_valid W.declarations X a.statement a.set (scoped_rules X g.1) g.0 (F.entries p a q);
}

-- an entry
pub as_given : (W : Store) (e : Entry) → reason_in W (entry e) ≡ None → StatesWhatItsStepGives W e
as_given W e h = go (resolve W e.step) refl h
  where
    result : (s : Resolved) → resolve W e.step ≡ Some s → of_kind s ≡ true → (o : Option Statement) → conclusion W.declarations s ≡ o → reason_of_result o (result_set s) e ≡ None → StatesWhatItsStepGives W e
    result s q kind None c h = none_some (sym h)
    result s q kind (Some x) c h =
        let k : (equal_statements x e.statement ≡ true) × (unless (same_set (result_set s) e.set) Set None ≡ None) = unless_none (equal_statements x e.statement) Conclusion (unless (same_set (result_set s) e.set) Set None) h in
        let l : (same_set (result_set s) e.set ≡ true) × (None ≡ None) = unless_none (same_set (result_set s) e.set) Set None k.1 in
        (s, q, kind, c ∙ ap Some (statement_true x e.statement k.0), same_set_true (result_set s) e.set l.0)

    go : (o : Option Resolved) → resolve W e.step ≡ o → reason_of_entry W.declarations o e ≡ None → StatesWhatItsStepGives W e
    go None q h = none_some (sym h)
    go (Some s) q h =
        let k : ((of_kind s && same_truth (concludes_thesis s) (is_thesis e.statement)) ≡ true) × (reason_of_result (conclusion W.declarations s) (result_set s) e ≡ None) = unless_none (of_kind s && same_truth (concludes_thesis s) (is_thesis e.statement)) Kind (reason_of_result (conclusion W.declarations s) (result_set s) e) h in
        result s q (and_parts (of_kind s) (same_truth (concludes_thesis s) (is_thesis e.statement)) k.0).0 (conclusion W.declarations s) refl k.1

pub entry_valid : (W : Store) → WellFormedStore W → (e : Entry) → reason_in W (entry e) ≡ None → Valid W.declarations e.statement e.set
entry_valid W F e h =
    let g : StatesWhatItsStepGives W e = as_given W e h in
    subst (Valid W.declarations e.statement) g.4 (sound_step W.declarations F.declarations g.0 (resolved W F e.step g.0 g.1) e.statement g.3)

pub add_entry : (W : Store) → WellFormedStore W → (e : Entry) → reason_in W (entry e) ≡ None → WellFormedStore (add W (entry e))
add_entry W F e h = record {
  declarations = F.declarations;
  entries = λ p a q. entries p a (nth_last W.entries (record { statement = e.statement; set = e.set }) p a q);
}
  where
    entries : (p : ℕ) (a : Assertion) → (nth W.entries p ≡ Some a) ⊎ ((p ≡ length W.entries) × (record { statement = e.statement; set = e.set } ≡ a)) → Valid W.declarations a.statement a.set
    entries p a (inl q) = F.entries p a q
    entries p a (inr q) = subst (λ (z : Assertion). Valid W.declarations z.statement z.set) q.1 (entry_valid W F e h)

-- a variable
pub plain_type : (x : Statement) → is_plain_type x ≡ true → x ≡ plain (is_type (type_in x))
plain_type (plain (is_type A)) h = refl
plain_type x h = false_true h

pub variable_grown : (W : Declarations) → WellFormed W → (v : ℕ) (n : Name) (a : Assertion) → is_next W.variables v ≡ true → is_plain_type a.statement ≡ true
    → Valid W a.statement a.set → Grown W (add_variable W v n (Some a))
variable_grown W F v n a next u p = (l, later_well_formed W X F l F.finitary (λ m d q. inl q) (λ u d q. case u d (look_last W.variables v (declared_variable n a) u d q)))
  where
    X : Declarations
    X = add_variable W v n (Some a)

    l : Later W X
    l = record { rules = λ r R q. q; metavariables = λ m d q. q; variables = λ u d q. look_before W.variables ((v, declared_variable n a) ∷ []) u d q }

    below : (w : ℕ) → Has (var w) a.set → w < v
    below w j = let r : (R : List Atom) × Declares W (var w) R × Within R a.set = p.proper.closed (var w) j in next_above W.variables v w r.1.0 next r.1.1

    valid : Valid X (plain (is_type (type_in a.statement))) a.set
    valid = later_valid W X (plain (is_type (type_in a.statement))) a.set (scoped_rules W F) l (subst (λ z. Valid W z a.set) (plain_type a.statement u) p)

    case : (w : ℕ) (d : Annotation) → (look_up W.variables w ≡ Some d) ⊎ ((w ≡ v) × (declared_variable n a ≡ d)) → (look_up W.variables w ≡ Some d) ⊎ VarHolds X w d
    case w d (inl q) = inl q
    case w d (inr q) = inr (subst (λ (z : Annotation). VarHolds X w z) q.1 (valid, λ i j. subst (λ z. i < z) (sym q.0) (below i j)))

-- a metavariable
pub metavariable_grown : (W : Declarations) → WellFormed W → (n : Name) (a : Assertion) → is_thesis a.statement ≡ false → metavariables_only a.set ≡ true
    → Valid W a.statement a.set → Grown W (add_metavariable W n (Some a))
metavariable_grown W F n a t u p = (l, later_well_formed W X F l F.finitary (λ m d q. case m d (nth_last W.metavariables (declared_metavariable n a) m d q)) (λ v d q. inl q))
  where
    X : Declarations
    X = add_metavariable W n (Some a)

    l : Later W X
    l = record { rules = λ r R q. q; metavariables = λ m d q. nth_before W.metavariables (declared_metavariable n a ∷ []) m d q; variables = λ u d q. q }

    below : (w : ℕ) → Has (met w) a.set → w < length W.metavariables
    below w j = let r : (R : List Atom) × Declares W (met w) R × Within R a.set = p.proper.closed (met w) j in nth_within W.metavariables w r.1.0 r.1.1

    valid : Valid X a.statement a.set
    valid = later_valid W X a.statement a.set (scoped_rules W F) l p

    case : (m : ℕ) (d : Declared) → (nth W.metavariables m ≡ Some d) ⊎ ((m ≡ length W.metavariables) × (declared_metavariable n a ≡ d)) → (nth W.metavariables m ≡ Some d) ⊎ MetHolds X m d
    case m d (inl q) = inl q
    case m d (inr q) = inr (subst (λ (z : Declared). MetHolds X m z) q.1 (valid, boundary_kind a.statement t, (λ v j. no_variable v a.set u j), λ i j. subst (λ z. i < z) (sym q.0) (below i j)))

-- a rule
premises_last : (ms : List (ℕ × Declared)) (d : ℕ × Declared) → premises_of (ms ++ (d ∷ [])) ≡ premises_of ms ++ ((d.0, d.1.boundary) ∷ [])
premises_last [] d = refl
premises_last (c ∷ ms) d = ap (λ z. (c.0, c.1.boundary) ∷ z) (premises_last ms d)

pub atoms_last : (ms : List (ℕ × Declared)) (d : ℕ × Declared) → atoms (ms ++ (d ∷ [])) ≡ atoms ms ++ (met d.0 ∷ [])
atoms_last [] d = refl
atoms_last (c ∷ ms) d = ap (λ z. met c.0 ∷ z) (atoms_last ms d)

pub has_last : (S : List Atom) (a c : Atom) → Has c (S ++ (a ∷ [])) → Has c S ⊎ (c ≡ a)
has_last [] a c (inl e) = inr e
has_last [] a c (inr k) = absurd k
has_last (b ∷ S) a c (inl e) = inl (inl e)
has_last (b ∷ S) a c (inr k) = next (has_last S a c k)
  where
    next : Has c S ⊎ (c ≡ a) → Has c (b ∷ S) ⊎ (c ≡ a)
    next (inl k) = inl (inr k)
    next (inr e) = inr e

absent_premise : (ms : List (ℕ × Declared)) (m : ℕ) → (Has (met m) (atoms ms) → ⊥) → look_up (premises_of ms) m ≡ None
absent_premise [] m n = refl
absent_premise (d ∷ ms) m n = if_other m d.0 (Some d.1.boundary) (look_up (premises_of ms) m) (λ e. n (inl (ap met e))) ∙ absent_premise ms m (λ k. n (inr k))

declared_last : (W : Declarations) (F : WellFormed W) (ms : List (ℕ × Declared)) (d : ℕ × Declared) → AllDeclared W F ms → nth W.metavariables d.0 ≡ Some d.1 → AllDeclared W F (ms ++ (d ∷ []))
declared_last W F [] d h q = (q, tt)
declared_last W F (c ∷ ms) d h q = (h.0, declared_last W F ms d h.1 q)

premises_hold : (W : Declarations) (F : WellFormed W) (k : ℕ) (done ms : List (ℕ × Declared)) → AllDeclared W F done → AllDeclared W F ms
    → ((a : Atom) → Has a (atoms done) → Has a (atoms ms) → ⊥) → differ (atoms ms) ≡ true → on_earlier (atoms done) ms ≡ true
    → PremisesHold (λ M x. DerUpTo k W.rules M [] x) (premises_of done) (premises_of ms)
premises_hold W F k done [] dd dm ap' df oe = tt
premises_hold W F k done (d ∷ ms) dd dm apart df oe =
    let p : (not (has (met d.0) (atoms ms)) ≡ true) × (differ (atoms ms) ≡ true) = and_parts (not (has (met d.0) (atoms ms))) (differ (atoms ms)) df in
    let q : (is_within d.1.set (atoms done) ≡ true) × (on_earlier (atoms done ++ (met d.0 ∷ [])) ms ≡ true) = and_parts (is_within d.1.set (atoms done)) (on_earlier (atoms done ++ (met d.0 ∷ [])) ms) oe in
    let h : MetHolds W d.0 d.1 = F.metavariables d.0 d.1 dm.0 in (
      absent_premise done d.0 (λ j. apart (met d.0) j (inl refl)),
      h.1,
      (law k W.rules (F.finitary k) (premises_of done) [] d.1.boundary).1 (over_premises W F done dd d.1.boundary d.1.set (within_true d.1.set (atoms done) q.0) h.0.derivable),
      subst (λ z. PremisesHold (λ M x. DerUpTo k W.rules M [] x) z (premises_of ms)) (premises_last done d)
          (premises_hold W F k (done ++ (d ∷ [])) ms (declared_last W F done d dd dm.0) dm.1
          (λ a i j. later a (not-true (has (met d.0) (atoms ms)) p.0) (has_last (atoms done) (met d.0) a (subst (Has a) (atoms_last done d) i)) j)
          p.1 (subst (λ z. on_earlier z ms ≡ true) (sym (atoms_last done d)) q.1)),
    )
  where
    later : (a : Atom) → has (met d.0) (atoms ms) ≡ false → Has a (atoms done) ⊎ (a ≡ met d.0) → Has a (atoms ms) → ⊥
    later a f (inl i) j = apart a i (inr j)
    later a f (inr e) j = has_false (met d.0) (atoms ms) f (subst (λ z. Has z (atoms ms)) e j)

finitary_last : (D : List Rule → List (ℕ × Statement) → Statement → Type 0) (T Rs : List Rule) (R : Rule) → FinitaryAfter D T Rs → RuleHolds (D (T ++ Rs)) R → FinitaryAfter D T (Rs ++ (R ∷ []))
finitary_last D T [] R f h = (subst (λ z. RuleHolds (D z) R) (append-nil T) h, tt)
finitary_last D T (S ∷ Rs) R f h = (f.0, finitary_last D (T ++ (S ∷ [])) Rs R f.1 (subst (λ z. RuleHolds (D z) R) (sym (append_assoc T (S ∷ []) Rs)) h))

plain_claim : (x : Statement) → is_plain x ≡ true → x ≡ plain (claim_in x)
plain_claim (plain c) h = refl
plain_claim (abstracted A x) h = false_true h

pub rule_grown : (W : Declarations) (F : WellFormed W) (n : Name) (ds : List (ℕ × Declared)) (a : Assertion) → AllDeclared W F ds
    → differ (atoms ds) ≡ true → is_thesis a.statement ≡ false → is_plain a.statement ≡ true → on_earlier [] ds ≡ true → is_within a.set (atoms ds) ≡ true
    → Derivable W a.statement a.set → Grown W (add_rule W n (Some ds) (Some a))
rule_grown W F n ds a dm different t flat ordered within p = (l, later_well_formed W X F l fin (λ m d q. inl q) (λ v d q. inl q))
  where
    X : Declarations
    X = add_rule W n (Some ds) (Some a)

    R : Rule
    R = declared_rule ds a

    e : a.statement ≡ plain (claim_in a.statement)
    e = plain_claim a.statement flat

    holds : (n : ℕ) → RuleHolds (λ M x. DerUpTo n W.rules M [] x) R
    holds n = (
      premises_hold W F n [] ds tt dm (λ a i j. i) different ordered,
      subst (λ z. IsObject z ⊎ IsEquation z) e (boundary_kind a.statement t),
      (law n W.rules (F.finitary n) (premises_of ds) [] (plain (claim_in a.statement))).1
          (subst (λ z. Prim W.rules (premises_of ds) [] z) e (over_premises W F ds dm a.statement a.set (within_true a.set (atoms ds) within) p)),
    )

    fin : (n : ℕ) → FinitaryUpTo n X.rules
    fin n = finitary_last (λ T M x. DerUpTo n T M [] x) [] W.rules R (F.finitary n) (holds n)

    l : Later W X
    l = record { rules = λ r S q. rule_before W.rules (R ∷ []) r S q; metavariables = λ m d q. q; variables = λ u d q. q }
