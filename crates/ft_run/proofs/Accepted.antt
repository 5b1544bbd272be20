-- A rule that is accepted is allowed, and the session goes on with it.
use Rattle.std.proofs.Common.{◌≡◌, ◌∙◌, sym, ap, ap₂, refl, subst, ℕ, zero, suc, ◌<◌, ◌≤◌, List, [], ◌∷◌, ◌++◌, map, length, Option, Some, None, is_some, option_map, option_and_then, Bool, true, false, cond, not, ◌&&◌, nat_eq, nat_lt, arith, IfSome, IfNone}
use Rattle.std.proofs.lemmas.Bool.{le-ltb, lt-ltb, ne_eqb}
use Rattle.ft_theory.specs.Expressions.{Expression}
use Rattle.ft_theory.specs.Statements.{Claim, is_type, has_type, equal_types, equal_terms, type_goal, term_goal, type_equation_goal, term_equation_goal, plain}
use Rattle.ft_theory.specs.Rules.{Rule}
use Rattle.ft_items.specs.Sets.{Atom, met, has, is_within}
use Rattle.ft_items.specs.Equal.{is_thesis}
use Rattle.ft_items.specs.Item.{Item, rule}
use Rattle.ft_items.specs.Store.{Declared, nth, each, entry_named, metavariable_named, premises_of, add_rule, empty_store, store_of, Declarations, declared_by}
use Rattle.ft_items.specs.Rows.{atoms, differ, on_earlier}
use Rattle.ft_items.specs.Good.{Allowed, equal_names, is_new}
use Rattle.ft_items.proofs.Lists.{entries_all, declared_last}
use Rattle.ft_judge.specs.Meaning.{goal_in}
use Rattle.ft_judge.specs.declared.judgement.Goal.{Goal}
use Rattle.ft_kernel.specs.State.{State, with_item}
use Rattle.ft_applications_meaning.specs.Building.{Declaration, theory, names, first_named}
use Rattle.ft_run.specs.declared.session.Known.{Known}
use Rattle.ft_run.specs.Session.{Progress, numbered, boundaries_in, declaration, declarations, IsSimpleGoal, FitsKnown, AreKnown, IsSession, HasEntry, AreMade, goals_in}
use Rattle.ft_run.specs.Claiming.{rule_in}
use Rattle.ft_applications_meaning.specs.Histories.{declares, told_rule, told}
use Rattle.ft_run.proofs.Telling.{told_last, steps_last}
use Rattle.std.proofs.lemmas.Option.{none-some}
use Rattle.ft_run.proofs.Keeping.{declarations_length, theory_length}

-- Metavariables that are made: what they declare, and why a rule may have them.
record Made (W : Declarations) (m : ℕ) (gs : List Claim) (ms : List ℕ) : Type 0 where
  pub ds : List (ℕ × Declared)
  pub found : each (metavariable_named W) ms ≡ Some ds
  pub premises : premises_of ds ≡ numbered m (map plain gs)
  pub differing : differ (atoms ds) ≡ true
  pub fresh : (j : ℕ) → j < m → has (met j) (atoms ds) ≡ false
  pub earlier : (before : List Atom) → on_earlier before ds ≡ true

unequal : (j m : ℕ) → j < m → nat_eq j m ≡ false
unequal j m l = ne_eqb j m (λ e. omega (arith, e, l))

made_in : (s : State) (m : ℕ) (gs : List Claim) (ms : List ℕ) → AreMade s m gs ms → Made (declared_by s.items) m gs ms
made_in s m [] [] h = record { ds = []; found = refl; premises = refl; differing = refl; fresh = λ j l. refl; earlier = λ before. refl }
made_in s m [] (k ∷ ms) h = absurd h
made_in s m (g ∷ gs) [] h = absurd h
made_in s m (g ∷ gs) (k ∷ ms) h =
    let W : Declarations = declared_by s.items in
    let d : Declared = h.1.0 in
    let more : Made W (suc m) gs ms = made_in s (suc m) gs ms h.2 in
    let less : m < suc m = omega arith in
    record {
      ds = (m, d) ∷ more.ds;
      found = ap (λ k. each (metavariable_named W) (k ∷ ms)) h.0 ∙ ap₂ (λ o os. option_and_then (λ b. option_map (λ bs. b ∷ bs) os) (option_map (λ d. (m, d)) o)) h.1.1 more.found;
      premises = ap₂ (λ b ps. (m, b) ∷ ps) h.1.2 more.premises;
      differing = ap₂ (λ a b. not a && b) (more.fresh m less) more.differing;
      fresh = λ j l. let l2 : j < suc m = omega arith in ap₂ (λ a b. cond a true b) (unequal j m l) (more.fresh j l2);
      earlier = λ before. ap₂ (λ S b. is_within S before && b) h.1.3 (more.earlier (before ++ met m ∷ []));
    }

pub goal_no_thesis : (g : Claim) → IsSimpleGoal g → is_thesis (plain g) ≡ false
goal_no_thesis (is_type A) h = absurd h
goal_no_thesis (has_type t A) h = absurd h
goal_no_thesis (equal_types A B) h = absurd h
goal_no_thesis (equal_terms s t A) h = absurd h
goal_no_thesis type_goal h = refl
goal_no_thesis (term_goal A) h = refl
goal_no_thesis (type_equation_goal A B) h = absurd h
goal_no_thesis (term_equation_goal s t A) h = absurd h

pub entry_there : (s : State) (b : ℕ) (c : Claim) → HasEntry s b c → entry_named (store_of s.items) b ≡ Some (record { statement = plain c; set = [] })
entry_there s b c h = ap (λ es. nth es b) (entries_all empty_store s.items) ∙ h

-- the rule is allowed
allowed_in : (s : State) (ks : List Known) (k : Known) (ms : List ℕ) (b : ℕ) → IsSession s ks → is_new (names (declarations s.trees ks)) k.name ≡ true → length (declarations s.trees ks) < 65536
    → FitsKnown s.trees k → AreMade s k.first (goals_in s.trees k.premises.items) ms → HasEntry s b (goal_in s.trees k.conclusion) → Allowed s.items (rule k.name ms b)
allowed_in s ks k ms b h n l f m e =
    let M : Made (declared_by s.items) k.first (goals_in s.trees k.premises.items) ms = made_in s k.first (goals_in s.trees k.premises.items) ms m in
    let long : length (declared_by s.items).rules ≡ length (declarations s.trees ks) = ap length h.rules ∙ theory_length (declarations s.trees ks) in (
      ap (λ ns. is_new ns k.name) h.names_are ∙ n,
      subst (λ i. i < 65536) (sym long) l,
      M.ds,
      M.found,
      record { statement = plain (goal_in s.trees k.conclusion); set = [] },
      entry_there s b (goal_in s.trees k.conclusion) e,
      M.differing,
      goal_no_thesis (goal_in s.trees k.conclusion) f.1.1,
      refl,
      M.earlier [],
      refl,
    )

pub accepted_allowed : (s : State) (ks : List Known) (p : Progress) (k : Known) (n : List ℕ) (ms : List ℕ) (b : ℕ) → IsSession s ks → record { state = s; rules = declarations s.trees ks } ≡ p
    → is_new (names p.rules) k.name ≡ true → length p.rules < 65536 → FitsKnown p.state.trees k → AreMade p.state k.first (goals_in p.state.trees k.premises.items) ms
    → HasEntry p.state b (goal_in p.state.trees k.conclusion) → n ≡ k.name → Allowed s.items (rule n ms b)
accepted_allowed s ks p k n ms b h v new room f m e q =
    let back : p ≡ record { state = s; rules = declarations s.trees ks } = sym v in
    subst (λ n. Allowed s.items (rule n ms b)) (sym q)
    (allowed_in s ks k ms b h
    (subst (λ (p : Progress). is_new (names p.rules) k.name ≡ true) back new)
    (subst (λ (p : Progress). length p.rules < 65536) back room)
    (subst (λ (p : Progress). FitsKnown p.state.trees k) back f)
    (subst (λ (p : Progress). AreMade p.state k.first (goals_in p.state.trees k.premises.items) ms) back m)
    (subst (λ (p : Progress). HasEntry p.state b (goal_in p.state.trees k.conclusion)) back e))

-- One more declared rule.

pub declarations_last : (ts : List Expression) (ks : List Known) (k : Known) → declarations ts (ks ++ k ∷ []) ≡ declarations ts ks ++ declaration ts k ∷ []
declarations_last ts [] k = refl
declarations_last ts (x ∷ ks) k = ap (λ ds. declaration ts x ∷ ds) (declarations_last ts ks k)

theory_last : (ds : List Declaration) (d : Declaration) → theory (ds ++ d ∷ []) ≡ theory ds ++ d.rule ∷ []
theory_last [] d = refl
theory_last (x ∷ ds) d = ap (λ rs. x.rule ∷ rs) (theory_last ds d)

names_last : (ds : List Declaration) (d : Declaration) → names (ds ++ d ∷ []) ≡ names ds ++ d.name ∷ []
names_last [] d = refl
names_last (x ∷ ds) d = ap (λ ns. x.name ∷ ns) (names_last ds d)

known_last : (ts : List Expression) (ks : List Known) (k : Known) → AreKnown ts ks → FitsKnown ts k → AreKnown ts (ks ++ k ∷ [])
known_last ts [] k h f = (f, tt)
known_last ts (x ∷ ks) k h f = (h.0, known_last ts ks k h.1 f)

plain_goals : (ts : List Expression) (gs : List Goal) → map plain (goals_in ts gs) ≡ boundaries_in ts gs
plain_goals ts [] = refl
plain_goals ts (g ∷ gs) = ap (λ bs. plain (goal_in ts g) ∷ bs) (plain_goals ts gs)

-- the session with one more rule
session_in : (s : State) (ks : List Known) (k : Known) (ms : List ℕ) (b : ℕ) → IsSession s ks
    → FitsKnown s.trees k → AreMade s k.first (goals_in s.trees k.premises.items) ms → HasEntry s b (goal_in s.trees k.conclusion) → IsSession (with_item s (rule k.name ms b)) (ks ++ k ∷ [])
session_in s ks k ms b h f m e =
    let W : Declarations = declared_by s.items in
    let ds : List Declaration = declarations s.trees ks in
    let d : Declaration = declaration s.trees k in
    let M : Made W k.first (goals_in s.trees k.premises.items) ms = made_in s k.first (goals_in s.trees k.premises.items) ms m in
    let after : declared_by (s.items ++ rule k.name ms b ∷ []) ≡ add_rule W k.name (Some M.ds) (Some (record { statement = plain (goal_in s.trees k.conclusion); set = [] })) =
    declared_last s.items (rule k.name ms b) ∙ ap₂ (λ os o. add_rule W k.name os o) M.found (entry_there s b (goal_in s.trees k.conclusion) e) in
    let premises : premises_of M.ds ≡ numbered k.first (boundaries_in s.trees k.premises.items) = M.premises ∙ ap (numbered k.first) (plain_goals s.trees k.premises.items) in
    record {
      known = known_last s.trees ks k h.known f;
      rules =
          ap (λ X. X.rules) after
          ∙ ap₂ (λ (rs : List Rule) ps. rs ++ record { premises = ps; conclusion = goal_in s.trees k.conclusion } ∷ []) h.rules premises
          ∙ sym (theory_last ds d)
          ∙ ap theory (sym (declarations_last s.trees ks k));
      names_are =
          ap (λ X. X.names) after
          ∙ ap (λ ns. ns ++ k.name ∷ []) h.names_are
          ∙ sym (names_last ds d)
          ∙ ap names (sym (declarations_last s.trees ks k));
      steps = steps_last s.items (rule k.name ms b) h.steps tt;
    }

-- what the rule tells
told_rule_in : (s : State) (k : Known) (ms : List ℕ) (b : ℕ) → AreMade s k.first (goals_in s.trees k.premises.items) ms → HasEntry s b (goal_in s.trees k.conclusion)
    → told (s.items ++ rule k.name ms b ∷ []) ≡ told s.items ++ declares k.name (declaration s.trees k).rule ∷ []
told_rule_in s k ms b m e =
    let W : Declarations = declared_by s.items in
    let M : Made W k.first (goals_in s.trees k.premises.items) ms = made_in s k.first (goals_in s.trees k.premises.items) ms m in
    let premises : premises_of M.ds ≡ numbered k.first (boundaries_in s.trees k.premises.items) = M.premises ∙ ap (numbered k.first) (plain_goals s.trees k.premises.items) in
    told_last s.items (rule k.name ms b)
    ∙ ap₂ (λ os o. told s.items ++ told_rule k.name os o) M.found (entry_there s b (goal_in s.trees k.conclusion) e)
    ∙ ap (λ ps. told s.items ++ declares k.name (record { premises = ps; conclusion = goal_in s.trees k.conclusion }) ∷ []) premises

-- Names that are new, and room.

new_in : (ds : List Declaration) (n : List ℕ) (j : ℕ) → first_named j ds n ≡ None → is_new (names ds) n ≡ true
new_in [] n j e = refl
new_in (d ∷ ds) n j e = go (equal_names d.name n) (new_in ds n (suc j)) e
  where
    go : (b : Bool) → (first_named (suc j) ds n ≡ None → is_new (names ds) n ≡ true) → cond b (Some (j, d.rule)) (first_named (suc j) ds n) ≡ None → (not b && is_new (names ds) n) ≡ true
    go true more e = absurd (none-some (j, d.rule) (sym e))
    go false more e = more e

old_in : (ds : List Declaration) (n : List ℕ) (j : ℕ) (x : ℕ × Rule) → first_named j ds n ≡ Some x → is_new (names ds) n ≡ false
old_in [] n j x e = absurd (none-some x e)
old_in (d ∷ ds) n j x e = go (equal_names d.name n) (old_in ds n (suc j) x) e
  where
    go : (b : Bool) → (first_named (suc j) ds n ≡ Some x → is_new (names ds) n ≡ false) → cond b (Some (j, d.rule)) (first_named (suc j) ds n) ≡ Some x → (not b && is_new (names ds) n) ≡ false
    go true more e = refl
    go false more e = more e

-- The same, in the words of the session.

pub session_accepted : (s t : State) (ks js : List Known) (p : Progress) (k : Known) (n : List ℕ) (ms : List ℕ) (b : ℕ) → IsSession s ks → record { state = s; rules = declarations s.trees ks } ≡ p
    → FitsKnown p.state.trees k → AreMade p.state k.first (goals_in p.state.trees k.premises.items) ms → HasEntry p.state b (goal_in p.state.trees k.conclusion)
    → n ≡ k.name → t ≡ with_item s (rule n ms b) → js ≡ ks ++ k ∷ [] → IsSession t js
session_accepted s t ks js p k n ms b h v f m e q a j =
    let st : s ≡ p.state = ap (λ p. p.state) v in
    let f2 : FitsKnown s.trees k = subst (λ (s : State). FitsKnown s.trees k) (sym st) f in
    let m2 : AreMade s k.first (goals_in s.trees k.premises.items) ms = subst (λ (s : State). AreMade s k.first (goals_in s.trees k.premises.items) ms) (sym st) m in
    let e2 : HasEntry s b (goal_in s.trees k.conclusion) = subst (λ (s : State). HasEntry s b (goal_in s.trees k.conclusion)) (sym st) e in
    let same : with_item s (rule k.name ms b) ≡ t = ap (λ n. with_item s (rule n ms b)) (sym q) ∙ sym a in
    subst (λ t. IsSession t js) same (subst (IsSession (with_item s (rule k.name ms b))) (sym j) (session_in s ks k ms b h f2 m2 e2))

pub rules_accepted : (s t : State) (ks js : List Known) (p : Progress) (k : Known) (i : Item) → record { state = s; rules = declarations s.trees ks } ≡ p
    → t ≡ with_item s i → js ≡ ks ++ k ∷ [] → declarations t.trees js ≡ p.rules ++ declaration p.state.trees k ∷ []
rules_accepted s t ks js p k i v a j =
    ap₂ (λ (t : State) js. declarations t.trees js) a j ∙ declarations_last s.trees ks k ∙ ap (λ (p : Progress). p.rules ++ declaration p.state.trees k ∷ []) v

pub told_accepted : (s t : State) (ks : List Known) (p : Progress) (k : Known) (n : List ℕ) (ms : List ℕ) (b : ℕ) → record { state = s; rules = declarations s.trees ks } ≡ p
    → AreMade p.state k.first (goals_in p.state.trees k.premises.items) ms → HasEntry p.state b (goal_in p.state.trees k.conclusion)
    → n ≡ k.name → t ≡ with_item s (rule n ms b) → told t.items ≡ told p.state.items ++ declares k.name (declaration p.state.trees k).rule ∷ []
told_accepted s t ks p k n ms b v m e q a =
    let st : s ≡ p.state = ap (λ p. p.state) v in
    ap (λ (t : State). told t.items) a
    ∙ ap₂ (λ (s : State) n. told (s.items ++ rule n ms b ∷ [])) st q
    ∙ told_rule_in p.state k ms b m e

pub state_accepted : (s t : State) (ks : List Known) (p : Progress) (n m : List ℕ) (ms : List ℕ) (b : ℕ) → record { state = s; rules = declarations s.trees ks } ≡ p
    → n ≡ m → t ≡ with_item s (rule n ms b) → t ≡ with_item p.state (rule m ms b)
state_accepted s t ks p n m ms b v q a = a ∙ ap₂ (λ (p : Progress) n. with_item p.state (rule n ms b)) v q

new_where_none : (ds : List Declaration) (n : List ℕ) (o : Option ℕ) → IfNone o (first_named zero ds n ≡ None) → is_some o ≡ false → is_new (names ds) n ≡ true
new_where_none ds n None h e = new_in ds n zero h
new_where_none ds n (Some k) h e = absurd (clash e)
  where
    clash : true ≡ false → ⊥
    clash e = cc

-- no place of the name: it is new
pub new_there : (p : Progress) (n : List ℕ) (o : Option ℕ) → IfNone o (first_named zero p.rules n ≡ None) → is_some o ≡ false → is_new (names p.rules) n ≡ true
new_there p n o h e = new_where_none p.rules n o h e

-- a place of the name: it is not new
pub not_new : (p : Progress) (n : List ℕ) (o : Option ℕ) → IfSome o (λ k. (k < length p.rules) × (first_named zero p.rules n ≡ Some (k, rule_in p.rules k))) → is_some o ≡ true
    → is_new (names p.rules) n ≡ false
not_new p n None h e = absurd (clash e)
  where
    clash : false ≡ true → ⊥
    clash e = cc
not_new p n (Some k) h e = old_in p.rules n zero (k, rule_in p.rules k) h.1

pub known_length : (s : State) (ks : List Known) (p : Progress) → record { state = s; rules = declarations s.trees ks } ≡ p → length p.rules ≡ length ks
known_length s ks p v = ap (λ (p : Progress). length p.rules) (sym v) ∙ declarations_length s.trees ks

-- fewer known rules than the most: there is room
pub room_there : (s : State) (ks : List Known) (p : Progress) → record { state = s; rules = declarations s.trees ks } ≡ p → length ks < 65536 → length p.rules < 65536
room_there s ks p v l = subst (λ n. n < 65536) (sym (known_length s ks p v)) l

pub room_found : (s : State) (ks : List Known) (p : Progress) → record { state = s; rules = declarations s.trees ks } ≡ p → length ks < 65536 → nat_lt (length p.rules) 65536 ≡ true
room_found s ks p v l = lt-ltb (length p.rules) 65536 (room_there s ks p v l)

-- as many as the most: there is none
pub no_room : (s : State) (ks : List Known) (p : Progress) → record { state = s; rules = declarations s.trees ks } ≡ p → 65536 ≤ length ks → nat_lt (length p.rules) 65536 ≡ false
no_room s ks p v l =
    let l2 : 65536 ≤ length p.rules = subst (λ n. 65536 ≤ n) (sym (known_length s ks p v)) l in
    le-ltb (length p.rules) 65536 l2
