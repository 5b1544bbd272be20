-- Patterns against values, as the meaning has them.
use Rattle.std.proofs.Common.{◌≡◌, ◌∙◌, sym, ap, ap₂, refl, subst, ℕ, ◌∷◌, Some, None, Bool, true, false, cond, Option, if◌then◌else◌}
use Rattle.std.specs.Prelude.{Result, Ok, Err}
use Rattle.std.proofs.lemmas.Option.{same_Some}
use Rattle.ft_items.specs.Rows.{when}
use Rattle.ft_items.specs.Good.{same_truth}
use Rattle.ft_items.specs.Item.{Name}
use Rattle.ft_meaning.specs.Matching.{matches, ◌and_also◌, if_found}
use Rattle.ft_meaning.specs.Trees.{Pattern, cons_pattern, some_pattern, name_pattern, truth_pattern, unit_pattern, none_pattern, nil_pattern, pair_pattern}
use Rattle.ft_meaning.specs.Values.{Value, judgement, boundary, unit, truth, pair, nil, cons, none, some, Environment, State as Running, Outcome, Run, halts, stuck, after, pure}
use Rattle.ft_telling.specs.declared.halt.Halt.{Halt}
use Rattle.ft_telling.specs.declared.halt.Why.TheVariants as why
use Rattle.ft_values.specs.declared.scopes.Scope.{Scope}
use Rattle.ft_values.specs.declared.values.Value.{Value as AnyValue}
use Rattle.ft_running.specs.Evaluation.{Evaluation, run_of, value_over, IsValueOf, environment_of, IsScopeIn, IsEvaluation, GoesFurther}
use Rattle.ft_running.specs.Matching.{no_member, nothing_held}
use Rattle.ft_running.specs.Readers.{truth_in, is_unit, is_nil, is_none, pair_in, list_in, option_in}
use Rattle.ft_running.specs.Telling.{TellsMatch, found_in, IsFoundIn}
use Rattle.ft_running.proofs.Further.{means_further}

-- ---- what is found where a value is of the kind

-- where it is not, the run is stuck
abbrev pub or_stuck : Bool → Option Environment → Running → Outcome (Option Environment)
or_stuck b found x = cond b (Ok found, x) (Err (halts stuck), x)

-- what the code answers
abbrev pub found_or : ℕ → Bool → Option Scope → Result (Option Scope) Halt
found_or at b found = if b then Ok found else Err (record { at = at; why = why.Stuck })

pub found_told : (e : Evaluation) (o : Outcome (Option Environment)) (at : ℕ) (b : Bool) (found : Option Scope) (r : Result (Option Scope) Halt)
    → r ≡ found_or at b found → o ≡ or_stuck b (found_in e found) (run_of e) → IsFoundIn e found → TellsMatch o r e
found_told e o at b found r is h w = subst (λ r. TellsMatch o r e) (sym is) (go b h)
  where
    go : (b : Bool) → o ≡ or_stuck b (found_in e found) (run_of e) → TellsMatch o (found_or at b found) e
    go true h = (h, w)
    go false h = λ _. (tt, h)

unit_is : (at a : ℕ) (w : Value) (G : Environment) (x : Running) → matches at (unit_pattern a) w G x ≡ or_stuck (is_unit w) (Some G) x
unit_is at a (judgement j) G x = refl
unit_is at a (boundary b) G x = refl
unit_is at a unit G x = refl
unit_is at a (truth b) G x = refl
unit_is at a (pair v w) G x = refl
unit_is at a nil G x = refl
unit_is at a (cons v w) G x = refl
unit_is at a none G x = refl
unit_is at a (some v) G x = refl

pub unit_told : (e : Evaluation) (s : Scope) (at a : ℕ) (w : Value) (b : Bool) (r : Result (Option Scope) Halt)
    → r ≡ found_or at b (Some s) → b ≡ is_unit w → IsScopeIn e s → TellsMatch (matches at (unit_pattern a) w (environment_of e s) (run_of e)) r e
unit_told e s at a w b r is h within =
    found_told e (matches at (unit_pattern a) w (environment_of e s) (run_of e)) at b (Some s) r is
    (unit_is at a w (environment_of e s) (run_of e) ∙ ap (λ b. or_stuck b (Some (environment_of e s)) (run_of e)) (sym h)) within

none_is : (at a : ℕ) (w : Value) (G : Environment) (x : Running) → None ≡ option_in w → matches at (none_pattern a) w G x ≡ or_stuck (is_none w) (Some G) x
none_is at a (judgement j) G x h = refl
none_is at a (boundary b) G x h = refl
none_is at a unit G x h = refl
none_is at a (truth b) G x h = refl
none_is at a (pair v w) G x h = refl
none_is at a nil G x h = refl
none_is at a (cons v w) G x h = refl
none_is at a none G x h = refl
none_is at a (some v) G x h = cc

pub none_told : (e : Evaluation) (s : Scope) (at a : ℕ) (w : Value) (b : Bool) (r : Result (Option Scope) Halt)
    → r ≡ found_or at b (Some s) → b ≡ is_none w → None ≡ option_in w → IsScopeIn e s → TellsMatch (matches at (none_pattern a) w (environment_of e s) (run_of e)) r e
none_told e s at a w b r is h n within =
    found_told e (matches at (none_pattern a) w (environment_of e s) (run_of e)) at b (Some s) r is
    (none_is at a w (environment_of e s) (run_of e) n ∙ ap (λ b. or_stuck b (Some (environment_of e s)) (run_of e)) (sym h)) within

some_is_not_none : (at a : ℕ) (u w : Value) (G : Environment) (x : Running) → Some u ≡ option_in w → matches at (none_pattern a) w G x ≡ (Ok None, x)
some_is_not_none at a u (judgement j) G x h = cc
some_is_not_none at a u (boundary b) G x h = cc
some_is_not_none at a u unit G x h = cc
some_is_not_none at a u (truth b) G x h = cc
some_is_not_none at a u (pair v w) G x h = cc
some_is_not_none at a u nil G x h = cc
some_is_not_none at a u (cons v w) G x h = cc
some_is_not_none at a u none G x h = cc
some_is_not_none at a u (some v) G x h = refl

pub held_told : (e : Evaluation) (s : Scope) (at a : ℕ) (u w : Value) → Some u ≡ option_in w
    → TellsMatch (matches at (none_pattern a) w (environment_of e s) (run_of e)) (Ok None) e
held_told e s at a u w h = (some_is_not_none at a u w (environment_of e s) (run_of e) h, tt)

nil_is : (at a : ℕ) (w : Value) (G : Environment) (x : Running) → None ≡ list_in w → matches at (nil_pattern a) w G x ≡ or_stuck (is_nil w) (Some G) x
nil_is at a (judgement j) G x h = refl
nil_is at a (boundary b) G x h = refl
nil_is at a unit G x h = refl
nil_is at a (truth b) G x h = refl
nil_is at a (pair v w) G x h = refl
nil_is at a nil G x h = refl
nil_is at a (cons v w) G x h = cc
nil_is at a none G x h = refl
nil_is at a (some v) G x h = refl

pub nil_told : (e : Evaluation) (s : Scope) (at a : ℕ) (w : Value) (b : Bool) (r : Result (Option Scope) Halt)
    → r ≡ found_or at b (Some s) → b ≡ is_nil w → None ≡ list_in w → IsScopeIn e s → TellsMatch (matches at (nil_pattern a) w (environment_of e s) (run_of e)) r e
nil_told e s at a w b r is h n within =
    found_told e (matches at (nil_pattern a) w (environment_of e s) (run_of e)) at b (Some s) r is
    (nil_is at a w (environment_of e s) (run_of e) n ∙ ap (λ b. or_stuck b (Some (environment_of e s)) (run_of e)) (sym h)) within

cons_is_not_nil : (at a : ℕ) (u : Value × Value) (w : Value) (G : Environment) (x : Running) → Some u ≡ list_in w → matches at (nil_pattern a) w G x ≡ (Ok None, x)
cons_is_not_nil at a u (judgement j) G x h = cc
cons_is_not_nil at a u (boundary b) G x h = cc
cons_is_not_nil at a u unit G x h = cc
cons_is_not_nil at a u (truth b) G x h = cc
cons_is_not_nil at a u (pair v w) G x h = cc
cons_is_not_nil at a u nil G x h = cc
cons_is_not_nil at a u (cons v w) G x h = refl
cons_is_not_nil at a u none G x h = cc
cons_is_not_nil at a u (some v) G x h = cc

pub member_told : (e : Evaluation) (s : Scope) (at a : ℕ) (u : Value × Value) (w : Value) → Some u ≡ list_in w
    → TellsMatch (matches at (nil_pattern a) w (environment_of e s) (run_of e)) (Ok None) e
member_told e s at a u w h = (cons_is_not_nil at a u w (environment_of e s) (run_of e) h, tt)

no_member_is : (w : Value) (x : Running) → no_member w x ≡ or_stuck (is_nil w) None x
no_member_is (judgement j) x = refl
no_member_is (boundary b) x = refl
no_member_is unit x = refl
no_member_is (truth b) x = refl
no_member_is (pair v w) x = refl
no_member_is nil x = refl
no_member_is (cons v w) x = refl
no_member_is none x = refl
no_member_is (some v) x = refl

pub no_member_told : (e : Evaluation) (at : ℕ) (w : Value) (b : Bool) (r : Result (Option Scope) Halt) → r ≡ found_or at b None → b ≡ is_nil w
    → TellsMatch (no_member w (run_of e)) r e
no_member_told e at w b r is h =
    found_told e (no_member w (run_of e)) at b None r is (no_member_is w (run_of e) ∙ ap (λ b. or_stuck b None (run_of e)) (sym h)) tt

nothing_is : (w : Value) (x : Running) → nothing_held w x ≡ or_stuck (is_none w) None x
nothing_is (judgement j) x = refl
nothing_is (boundary b) x = refl
nothing_is unit x = refl
nothing_is (truth b) x = refl
nothing_is (pair v w) x = refl
nothing_is nil x = refl
nothing_is (cons v w) x = refl
nothing_is none x = refl
nothing_is (some v) x = refl

pub nothing_told : (e : Evaluation) (at : ℕ) (w : Value) (b : Bool) (r : Result (Option Scope) Halt) → r ≡ found_or at b None → b ≡ is_none w
    → TellsMatch (nothing_held w (run_of e)) r e
nothing_told e at w b r is h =
    found_told e (nothing_held w (run_of e)) at b None r is (nothing_is w (run_of e) ∙ ap (λ b. or_stuck b None (run_of e)) (sym h)) tt

-- ---- truth values

truth_some : (at a : ℕ) (b c : Bool) (w : Value) (G : Environment) (x : Running) → Some c ≡ truth_in w → matches at (truth_pattern a b) w G x ≡ (Ok (when (same_truth b c) G), x)
truth_some at a b c (judgement j) G x h = cc
truth_some at a b c (boundary k) G x h = cc
truth_some at a b c unit G x h = cc
truth_some at a b c (truth d) G x h = ap (λ d. (Ok (when (same_truth b d) G), x)) (same_Some d c (sym h))
truth_some at a b c (pair v w) G x h = cc
truth_some at a b c nil G x h = cc
truth_some at a b c (cons v w) G x h = cc
truth_some at a b c none G x h = cc
truth_some at a b c (some v) G x h = cc

truth_none : (at a : ℕ) (b : Bool) (w : Value) (G : Environment) (x : Running) → None ≡ truth_in w → matches at (truth_pattern a b) w G x ≡ (Err (halts stuck), x)
truth_none at a b (judgement j) G x h = refl
truth_none at a b (boundary k) G x h = refl
truth_none at a b unit G x h = refl
truth_none at a b (truth d) G x h = cc
truth_none at a b (pair v w) G x h = refl
truth_none at a b nil G x h = refl
truth_none at a b (cons v w) G x h = refl
truth_none at a b none G x h = refl
truth_none at a b (some v) G x h = refl

-- the scope where the two are the same
abbrev pub scope_when : Bool → Scope → Option Scope
scope_when b s = if b then Some s else None

pub truth_told : (e : Evaluation) (s : Scope) (at a : ℕ) (b c : Bool) (w : Value) → Some c ≡ truth_in w → IsScopeIn e s
    → TellsMatch (matches at (truth_pattern a b) w (environment_of e s) (run_of e)) (Ok (scope_when (same_truth b c) s)) e
truth_told e s at a b c w h within =
    let G = environment_of e s in
    let x = run_of e in
    subst (λ o. TellsMatch o (Ok (scope_when (same_truth b c) s)) e) (sym (truth_some at a b c w G x h)) (go (same_truth b c))
  where
    go : (t : Bool) → TellsMatch (Ok (when t (environment_of e s)), run_of e) (Ok (scope_when t s)) e
    go true = (refl, within)
    go false = (refl, tt)

pub truth_stuck : (e : Evaluation) (s : Scope) (at a : ℕ) (b : Bool) (w : Value) (h : Halt) → None ≡ truth_in w → h ≡ record { at = at; why = why.Stuck }
    → TellsMatch (matches at (truth_pattern a b) w (environment_of e s) (run_of e)) (Err h) e
truth_stuck e s at a b w h n is =
    subst (λ h. TellsMatch (matches at (truth_pattern a b) w (environment_of e s) (run_of e)) (Err h) e) (sym is) (λ _. (tt, truth_none at a b w (environment_of e s) (run_of e) n))

-- ---- names

pub name_told : (e f : Evaluation) (s t : Scope) (at a : ℕ) (n : Name) (w : Value) → environment_of f t ≡ (n, w) ∷ environment_of e s → run_of f ≡ run_of e → IsScopeIn f t
    → TellsMatch (matches at (name_pattern a n) w (environment_of e s) (run_of e)) (Ok (Some t)) f
name_told e f s t at a n w means same within = (ap₂ (λ G x. (Ok (Some G), x)) (sym means) (sym same), within)

-- ---- a match, and a further one

pub found_next : (m : Run (Option Environment)) (next : Environment → Run (Option Environment)) (x y : Running) (G : Environment) → m x ≡ (Ok (Some G), y) → (m and_also next) x ≡ next G y
found_next m next x y G h = ap (λ o. after o (λ found. if_found found next (pure None))) h

pub none_next : (m : Run (Option Environment)) (next : Environment → Run (Option Environment)) (x y : Running) → m x ≡ (Ok None, y) → (m and_also next) x ≡ (Ok None, y)
none_next m next x y h = ap (λ o. after o (λ found. if_found found next (pure None))) h

pub halts_next : (m : Run (Option Environment)) (next : Environment → Run (Option Environment)) (x : Running) (h : Halt) (e : Evaluation) → TellsMatch (m x) (Err h) e
    → TellsMatch ((m and_also next) x) (Err h) e
halts_next m next x h e told = λ other. ((told other).0, ap (λ o. after o (λ found. if_found found next (pure None))) (told other).1)

pub both_found : (e f g : Evaluation) (at : ℕ) (p q : Pattern) (s found : Scope) (a b : AnyValue) (r : Result (Option Scope) Halt)
    → IsEvaluation e → GoesFurther e f → IsValueOf e b
    → TellsMatch (matches at p (value_over e a) (environment_of e s) (run_of e)) (Ok (Some found)) f
    → TellsMatch (matches at q (value_over f b) (environment_of f found) (run_of f)) r g
    → TellsMatch ((matches at p (value_over e a) (environment_of e s) and_also matches at q (value_over e b)) (run_of e)) r g
both_found e f g at p q s found a b r is further within first second =
    subst (λ o. TellsMatch o r g)
    (sym (found_next (matches at p (value_over e a) (environment_of e s)) (matches at q (value_over e b)) (run_of e) (run_of f) (environment_of f found) first.0
    ∙ ap (λ w. matches at q w (environment_of f found) (run_of f)) (sym (means_further e f b is further within))))
    second

-- ---- lists, options and pairs

pub cons_is : (at a : ℕ) (p q : Pattern) (u w : Value) (t : Value) (G : Environment) (x : Running) → Some (u, t) ≡ list_in w
    → matches at (cons_pattern a p q) w G x ≡ (matches at p u G and_also matches at q t) x
cons_is at a p q u (judgement j) t G x h = cc
cons_is at a p q u (boundary b) t G x h = cc
cons_is at a p q u unit t G x h = cc
cons_is at a p q u (truth b) t G x h = cc
cons_is at a p q u (pair v w) t G x h = cc
cons_is at a p q u nil t G x h = cc
cons_is at a p q u (cons v w) t G x h =
    ap (λ (y : Value × Value). (matches at p y.0 G and_also matches at q y.1) x) (same_Some (v, w) (u, t) (sym h))
cons_is at a p q u none t G x h = cc
cons_is at a p q u (some v) t G x h = cc

pub no_cons_is : (at a : ℕ) (p q : Pattern) (w : Value) (G : Environment) (x : Running) → None ≡ list_in w → matches at (cons_pattern a p q) w G x ≡ no_member w x
no_cons_is at a p q (judgement j) G x h = refl
no_cons_is at a p q (boundary b) G x h = refl
no_cons_is at a p q unit G x h = refl
no_cons_is at a p q (truth b) G x h = refl
no_cons_is at a p q (pair v w) G x h = refl
no_cons_is at a p q nil G x h = refl
no_cons_is at a p q (cons v w) G x h = cc
no_cons_is at a p q none G x h = refl
no_cons_is at a p q (some v) G x h = refl

pub some_is : (at a : ℕ) (p : Pattern) (u w : Value) (G : Environment) (x : Running) → Some u ≡ option_in w → matches at (some_pattern a p) w G x ≡ matches at p u G x
some_is at a p u (judgement j) G x h = cc
some_is at a p u (boundary b) G x h = cc
some_is at a p u unit G x h = cc
some_is at a p u (truth b) G x h = cc
some_is at a p u (pair v w) G x h = cc
some_is at a p u nil G x h = cc
some_is at a p u (cons v w) G x h = cc
some_is at a p u none G x h = cc
some_is at a p u (some v) G x h = ap (λ y. matches at p y G x) (same_Some v u (sym h))

pub no_some_is : (at a : ℕ) (p : Pattern) (w : Value) (G : Environment) (x : Running) → None ≡ option_in w → matches at (some_pattern a p) w G x ≡ nothing_held w x
no_some_is at a p (judgement j) G x h = refl
no_some_is at a p (boundary b) G x h = refl
no_some_is at a p unit G x h = refl
no_some_is at a p (truth b) G x h = refl
no_some_is at a p (pair v w) G x h = refl
no_some_is at a p nil G x h = refl
no_some_is at a p (cons v w) G x h = refl
no_some_is at a p none G x h = refl
no_some_is at a p (some v) G x h = cc

pub pair_is : (at a : ℕ) (p q : Pattern) (u w : Value) (t : Value) (G : Environment) (x : Running) → Some (u, t) ≡ pair_in w
    → matches at (pair_pattern a p q) w G x ≡ (matches at p u G and_also matches at q t) x
pair_is at a p q u (judgement j) t G x h = cc
pair_is at a p q u (boundary b) t G x h = cc
pair_is at a p q u unit t G x h = cc
pair_is at a p q u (truth b) t G x h = cc
pair_is at a p q u (pair v w) t G x h =
    ap (λ (y : Value × Value). (matches at p y.0 G and_also matches at q y.1) x) (same_Some (v, w) (u, t) (sym h))
pair_is at a p q u nil t G x h = cc
pair_is at a p q u (cons v w) t G x h = cc
pair_is at a p q u none t G x h = cc
pair_is at a p q u (some v) t G x h = cc

pub no_pair_is : (at a : ℕ) (p q : Pattern) (w : Value) (G : Environment) (x : Running) → None ≡ pair_in w → matches at (pair_pattern a p q) w G x ≡ (Err (halts stuck), x)
no_pair_is at a p q (judgement j) G x h = refl
no_pair_is at a p q (boundary b) G x h = refl
no_pair_is at a p q unit G x h = refl
no_pair_is at a p q (truth b) G x h = refl
no_pair_is at a p q (pair v w) G x h = cc
no_pair_is at a p q nil G x h = refl
no_pair_is at a p q (cons v w) G x h = refl
no_pair_is at a p q none G x h = refl
no_pair_is at a p q (some v) G x h = refl
