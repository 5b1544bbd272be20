-- Variables that are declared, and that are bound.
use Rattle.std.proofs.Common.{◌≡◌, ◌≢◌, ◌∙◌, ◌≤◌, ◌++◌, ap, ap₂, refl, sym, subst, ℕ, arith, Some, None, List, [], ◌∷◌, Bool, true, false, cond, nat_eq, append-nil}
use Rattle.std.specs.Prelude.{Result, Ok, Err, option_map, length}
use Rattle.ft_theory.specs.Expressions.{Expression}
use Rattle.std.proofs.lemmas.Option.{same_Some}
use Rattle.ft_common.proofs.Choices.{if_same, if_other}
use Rattle.ft_common.proofs.Options.{some_none}
use Rattle.ft_common.proofs.Results.{ok_ok, err_ok}
use Rattle.ft_theory.specs.Rules.{look_up}
use Rattle.ft_items.specs.Item.{Name, variable, by_abs}
use Rattle.ft_items.specs.Store.{Assertion, Annotation, Declarations, store_of, declared_by, declared_variable, add_variable, resolve, with_two, variables_in}
use Rattle.ft_items.specs.Good.{Good, is_plain_type}
use Rattle.ft_reference.specs.Refusals as reference
use Rattle.ft_reference.specs.Refusals.{WrongForm}
use Rattle.ft_reference.specs.Declare.{Outcome, outcome, refused_unless, new_variable}
use Rattle.ft_base.specs.Budget.{Budget}
use Rattle.ft_meaning.specs.Values as meaning
use Rattle.ft_meaning.specs.Values.{after, declare, after_declaration, spend, judgement, boundary, halts, fails}
use Rattle.ft_meaning.specs.Forms.{make_variable, abstract_value}
use Rattle.ft_judge.specs.declared.fault.Refusal.{Refusal}
use Rattle.ft_judge.specs.declared.fault.Refusal.TheVariants as refusal
use Rattle.ft_judge.specs.declared.fault.Fault.{Fault}
use Rattle.ft_judge.specs.declared.fault.Fault.TheVariants.{Refused, Memory}
use Rattle.ft_kernel.specs.State.{State, entry_at, variable_numbered, next_number, IsThesisOf, IsBoundaryOf, IsVariableOf}
use Rattle.ft_calls.specs.Answers.{refusal_in, RefusalBelow, Answers}
use Rattle.ft_calls.specs.Declaring.{DeclaresVariable}
use Rattle.ft_calls.proofs.Answering.{entry_in}
use Rattle.ft_calls.proofs.Variables.{variable_is, no_variable}
use Rattle.ft_values.specs.Kept.{stated, stated_at, GoesOn}
use Rattle.ft_telling.specs.Telling.{state_of, halted_at, variable_at, annotation_or, TellsVariable, TellsJudgement, TellsBoundary}
use Rattle.ft_telling.proofs.Calls.{tells_judgement, tells_boundary}

-- ---- a number that no variable has

unnumbered : (vs : List (ℕ × Name × ℕ)) (v : ℕ) → next_number vs ≤ v → variable_numbered vs v ≡ None
unnumbered [] v h = refl
unnumbered (x ∷ vs) v h =
    let other : x.0 ≢ v = omega (arith, h) in
    if_other x.0 v (Some (x.1, x.2)) (variable_numbered vs v) other ∙ unnumbered vs v (omega (arith, h))

last_there : {A : Type 0} (G : List (ℕ × A)) (v : ℕ) (d : A) → look_up G v ≡ None → look_up (G ++ (v, d) ∷ []) v ≡ Some d
last_there [] v d h = if_same v v (Some d) None refl
last_there (p ∷ G) v d h = go (nat_eq v p.0) h (λ g. last_there G v d g)
  where
    go : (b : Bool) → cond b (Some p.1) (look_up G v) ≡ None → (look_up G v ≡ None → look_up (G ++ (v, d) ∷ []) v ≡ Some d)
        → cond b (Some p.1) (look_up (G ++ (v, d) ∷ []) v) ≡ Some d
    go true h ih = some_none h
    go false h ih = ih h

-- ---- a variable that is declared

-- what the declaration answers, by whether the type is plain
abbrev declaring : Declarations → ℕ → Name → Assertion → Bool → Outcome Declarations (ℕ × Annotation) reference.Refusal
declaring W v n a b = outcome (refused_unless b WrongForm) W (add_variable W v n (Some a)) (v, declared_variable n a)

-- what is answered is the variable with what is declared of it
answered_is : (W : Declarations) (v w : ℕ) (n : Name) (a : Assertion) (x : Annotation) (b : Bool) → (declaring W v n a b).answer ≡ Ok (w, x)
    → (w ≡ v) × (x ≡ declared_variable n a) × ((declaring W v n a b).after ≡ add_variable W v n (Some a))
answered_is W v w n a x true h =
    let same : (v, declared_variable n a) ≡ (w, x) = ok_ok (v, declared_variable n a) (w, x) h in
    (sym (ap (λ (p : ℕ × Annotation). p.0) same), sym (ap (λ (p : ℕ × Annotation). p.1) same), refl)
answered_is W v w n a x false h = absurd (err_ok WrongForm (w, x) h)

declared_there : (s t : State) (v w : ℕ) (n : Name) (a : Assertion) (x : Annotation) → Good s.items → next_number (variables_in s.items) ≤ v
    → (new_variable (declared_by s.items) v n a).answer ≡ Ok (w, x) → (new_variable (declared_by s.items) v n a).after ≡ declared_by t.items
    → variable_at t w ≡ (w, x)
declared_there s t v w n a x g next is after_is =
    let W : Declarations = declared_by s.items in
    let parts = answered_is W v w n a x (is_plain_type a.statement) is in
    let none : look_up W.variables v ≡ None = no_variable s v g (unnumbered (variables_in s.items) v next) in
    let there : look_up (declared_by t.items).variables v ≡ Some (declared_variable n a) =
    ap (λ (X : Declarations). look_up X.variables v) (sym after_is ∙ parts.2) ∙ last_there W.variables v (declared_variable n a) none in
    ap (λ d. (w, d)) (ap annotation_or (ap (look_up (declared_by t.items).variables) parts.0 ∙ there) ∙ sym parts.1)

-- what a declaration of an outcome gives
abbrev declared_from : ℕ → Declarations → Result (ℕ × Annotation) reference.Refusal → meaning.State → meaning.Outcome (ℕ × Annotation)
declared_from at W r x = after_declaration meaning.Refused at W r x

-- the refusal names no expression; so where there is one
abbrev NamesNothing : reference.Refusal → Type 0
NamesNothing (reference.TypeDiffers d) = ⊥
NamesNothing (reference.SidesDiffer d) = ⊥
NamesNothing r = Unit {0}

abbrev NamesNothingIn : {A : Type 0} → Result A reference.Refusal → Type 0
NamesNothingIn (Ok a) = Unit {0}
NamesNothingIn (Err r) = NamesNothing r

names_below : (ts : List Expression) (q : Refusal) → NamesNothing (refusal_in ts q) → RefusalBelow (length ts) q
names_below ts refusal.WrongForm h = tt
names_below ts refusal.NotAbstracted h = tt
names_below ts (refusal.TypeDiffers d) h = absurd h
names_below ts (refusal.SidesDiffer d) h = absurd h
names_below ts (refusal.DependentVariable w) h = tt
names_below ts (refusal.OpenBoundary w) h = tt
names_below ts (refusal.ArgumentCount m k) h = tt
names_below ts refusal.TooBig h = tt
names_below ts refusal.NotApplication h = tt

-- a variable is refused for the form of its type alone
variable_names : (b : Bool) (W : Declarations) (v : ℕ) (n : Name) (p : Assertion)
    → NamesNothingIn {A = ℕ × Annotation} (outcome (refused_unless b reference.WrongForm) W (add_variable W v n (Some p)) (v, declared_variable n p)).answer
variable_names true W v n p = tt
variable_names false W v n p = tt

-- the declaration after the unit
declare_tells : (s t : State) (u : Budget) (at v : ℕ) (n : Name) (p : ℕ) (a : Assertion) (r : Result ℕ Fault) → Good s.items → next_number (variables_in s.items) ≤ v
    → entry_at s p ≡ Some a → DeclaresVariable s v n p r t
    → TellsVariable (declare meaning.Refused at (λ W. new_variable W v n a) (state_of s u)) (halted_at at r) t u
declare_tells s t u at v n p a (Ok w) g next here h =
    let same : h.0 ≡ a = same_Some h.0 a (sym h.1 ∙ here) in
    let W : Declarations = declared_by s.items in
    let x : Annotation = h.2.0 in
    let is : (new_variable W v n a).answer ≡ Ok (w, x) = ap (λ a. (new_variable W v n a).answer) (sym same) ∙ h.2.1 in
    let left : (new_variable W v n a).after ≡ declared_by t.items = ap (λ a. (new_variable W v n a).after) (sym same) ∙ h.2.2 in
    ap₂ (λ X o. declared_from at X o (state_of s u)) left is
    ∙ ap (λ y. (Ok y, state_of t u)) (sym (declared_there s t v w n a x g next is left))
declare_tells s t u at v n p a (Err (Refused q)) g next here h = λ _.
    let same : h.0 ≡ a = same_Some h.0 a (sym h.1 ∙ here) in
    let W : Declarations = declared_by s.items in
    let is : (new_variable W v n a).answer ≡ Err (refusal_in t.trees q) = ap (λ a. (new_variable W v n a).answer) (sym same) ∙ h.2.0 in (
      names_below t.trees q (subst (NamesNothingIn {A = ℕ × Annotation}) is (variable_names (is_plain_type a.statement) W v n a)),
      ap (λ o. declared_from at (new_variable W v n a).after o (state_of s u)) is
          ∙ ap (λ items. (Err (halts (fails (meaning.Refused (refusal_in t.trees q)) at)), record (state_of s u) { declarations = declared_by items })) (sym h.2.1.0),
    )
declare_tells s t u at v n p a (Err Memory) g next here h = λ no. absurd (no refl)

pub variable_tells : (s t : State) (u w : Budget) (at : ℕ) (n : Name) (p : ℕ) (r : Result ℕ Fault) → Good s.items → next_number (variables_in s.items) ≤ u.used → IsThesisOf s p
    → spend at (state_of s u) ≡ (Ok tt, state_of s w) → DeclaresVariable s u.used n p r t
    → TellsVariable (make_variable at n (stated_at s p) (state_of s u)) (halted_at at r) t w
variable_tells s t u w at n p r g next is spent h =
    subst (λ (o : meaning.Outcome (ℕ × Annotation)). TellsVariable o (halted_at at r) t w)
    (ap (λ (o : meaning.Outcome (Unit {0})). after o (λ _. declare meaning.Refused at (λ W. new_variable W u.used n (stated_at s p)))) (sym spent))
    (subst (λ a. TellsVariable (declare meaning.Refused at (λ W. new_variable W u.used n a) (state_of s w)) (halted_at at r) t w) (sym (ap stated is.1))
    (declare_tells s t w at u.used n p is.0 r g next is.1 h))

-- the list after it
pub declared_goes_on : (s t : State) (v : ℕ) (n : Name) (p : ℕ) (r : Result ℕ Fault) → DeclaresVariable s v n p r t → GoesOn s t
declared_goes_on s t v n p (Ok w) h = (variable v n p ∷ [], h.2.3, (tt, tt))
declared_goes_on s t v n p (Err (Refused q)) h = ([], h.2.1.0 ∙ sym (append-nil s.items), tt)
declared_goes_on s t v n p (Err Memory) h = ([], h.2.0 ∙ sym (append-nil s.items), tt)

-- ---- a variable that is bound

resolved_abs : (s : State) (v p : ℕ) (d : Annotation) (a : Assertion) → look_up (declared_by s.items).variables v ≡ Some d → entry_at s p ≡ Some a
    → resolve (store_of s.items) (by_abs v p) ≡ Some (by_abs (v, d) a)
resolved_abs s v p d a look here = ap₂ (λ o q. with_two by_abs (option_map (λ d. (v, d)) o) q) look (entry_in s p a here)

-- the variable of the list, with what is declared
pub known_variable : (s : State) (v : ℕ) → Good s.items → IsVariableOf s v → (d : Annotation) × (look_up (declared_by s.items).variables v ≡ Some d)
known_variable s v g h = let is = variable_is s v h.0.0 h.0.1 g h.1 in (declared_variable is.0 is.1, is.4)

pub bound_tells : (s t : State) (u : Budget) (at v j : ℕ) (r : Result ℕ Fault) → Good s.items → IsVariableOf s v → IsThesisOf s j → Answers s (by_abs v j) r t
    → TellsJudgement (abstract_value at (variable_at s v) (judgement (stated_at s j)) (state_of s u)) (halted_at at r) t u
bound_tells s t u at v j r g var is h =
    let k = known_variable s v g var in
    subst (λ d. TellsJudgement (abstract_value at (v, d) (judgement (stated_at s j)) (state_of s u)) (halted_at at r) t u) (sym (ap annotation_or k.1))
    (subst (λ a. TellsJudgement (abstract_value at (v, k.0) (judgement a) (state_of s u)) (halted_at at r) t u) (sym (ap stated is.1))
    (tells_judgement s t u at (by_abs v j) (by_abs (v, k.0) is.0) r (resolved_abs s v j k.0 is.0 k.1 is.1) h))

pub bound_boundary_tells : (s t : State) (u : Budget) (at v b : ℕ) (r : Result ℕ Fault) → Good s.items → IsVariableOf s v → IsBoundaryOf s b → Answers s (by_abs v b) r t
    → TellsBoundary (abstract_value at (variable_at s v) (boundary (stated_at s b)) (state_of s u)) (halted_at at r) t u
bound_boundary_tells s t u at v b r g var is h =
    let k = known_variable s v g var in
    subst (λ d. TellsBoundary (abstract_value at (v, d) (boundary (stated_at s b)) (state_of s u)) (halted_at at r) t u) (sym (ap annotation_or k.1))
    (subst (λ a. TellsBoundary (abstract_value at (v, k.0) (boundary a) (state_of s u)) (halted_at at r) t u) (sym (ap stated is.1))
    (tells_boundary s t u at (by_abs v b) (by_abs (v, k.0) is.0) r (resolved_abs s v b k.0 is.0 k.1 is.1) h))
