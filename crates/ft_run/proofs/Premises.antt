-- Premises one by one, and the rule that they make.
use Rattle.std.proofs.Common.{◌≡◌, ◌∙◌, sym, ap, ap₂, refl, subst, ℕ, suc, ◌+◌, ◌<◌, List, [], ◌∷◌, ◌++◌, map, length, take, drop, get_or, ◌≤◌, Option, Some, None, option_map, Bool, true, false, cond, nat_lt, append_assoc, append-nil, arith, Result, Ok, Err, OnOk}
use Rattle.std.proofs.lemmas.List.{map-append, drop_all}
use Rattle.std.proofs.Math.Seq.{take-suc, drop-cons}
use Rattle.ft_theory.specs.Expressions.{Expression}
use Rattle.ft_theory.specs.Statements.{Claim, Statement, plain}
use Rattle.ft_theory.specs.Rules.{Rule}
use Rattle.ft_items.specs.Item.{Name, entry, rule}
use Rattle.ft_items.specs.Store.{metavariables_in}
use Rattle.ft_items.specs.Good.{is_new}
use Rattle.ft_judge.specs.Meaning.{goal_in}
use Rattle.ft_judge.specs.declared.judgement.Goal.{Goal}
use Rattle.ft_kernel.specs.State.{State, with_item}
use Rattle.ft_syntax.specs.Table.{Extends}
use Rattle.ft_applications_meaning.specs.declared.syntax.Premise.{Premise}
use Rattle.ft_applications_meaning.specs.declared.syntax.Conclusion.{Conclusion}
use Rattle.ft_applications_meaning.specs.Building.{Declaration, premises_of, before_premises, goal_of_premise, goal_of_conclusion, name_of_premise, premise_names, metavariable_count, rule_by, rule_of, declared}
use Rattle.ft_run.specs.Session.{Progress, numbered, boundaries_in, goals_in, FitsGoal, AllFitGoals, HasMet, AreMade, GoesOn, Keeps, IsCounted}
use Rattle.ft_applications_meaning.specs.Histories.{told, declares}
use Rattle.ft_run.specs.Running.{IsDeclared}
use Rattle.ft_run.specs.Asking.{goal_of_new}
use Rattle.ft_run.specs.Declaring.{first_number}
use Rattle.ft_run.proofs.Keeping.{boundaries_kept, goals_fit, keeps_then, keeps_tell}
use Rattle.ft_judge.specs.Laws.{goal_extends}
use Rattle.ft_run.proofs.Going.{length_last, made_stays, none_more, same_metavariables}

-- the premises of a rule, by those that were asked for and those that are left
abbrev pub IsAskedFor : List Declaration → ℕ → List Premise → ℕ → List Statement → Type 0
IsAskedFor ds m ps i bs = premises_of ds m [] ps ≡ option_map (λ qs. numbered m bs ++ qs) (premises_of ds (m + i) (premise_names (take i ps)) (drop i ps))

-- the premises from one on, by its goal
premises_from : (ds : List Declaration) (m : ℕ) (ns : List (List ℕ)) (p : Premise) (ps : List Premise)
    → premises_of ds m ns (p ∷ ps) ≡ before_premises m (premises_of ds (suc m) (ns ++ name_of_premise p ∷ []) ps) (goal_of_new ds ns p)
premises_from ds m ns p ps = go (is_new ns (name_of_premise p))
  where
    go : (b : Bool) → cond b (before_premises m (premises_of ds (suc m) (ns ++ name_of_premise p ∷ []) ps) (goal_of_premise ds ns p)) None
        ≡ before_premises m (premises_of ds (suc m) (ns ++ name_of_premise p ∷ []) ps) (cond b (goal_of_premise ds ns p) None)
    go true = refl
    go false = refl

numbered_last : (m : ℕ) (bs : List Statement) (b : Statement) → numbered m (bs ++ b ∷ []) ≡ numbered m bs ++ (m + length bs, b) ∷ []
numbered_last m [] b = let z : m ≡ m + 0 = omega arith in ap (λ k. (k, b) ∷ []) z
numbered_last m (c ∷ bs) b =
    let z : suc m + length bs ≡ m + suc (length bs) = omega arith in
    ap (λ qs. (m, c) ∷ qs) (numbered_last (suc m) bs b ∙ ap (λ k. numbered (suc m) bs ++ (k, b) ∷ []) z)

boundaries_length : (ts : List Expression) (gs : List Goal) → length (boundaries_in ts gs) ≡ length gs
boundaries_length ts [] = refl
boundaries_length ts (g ∷ gs) = ap suc (boundaries_length ts gs)

goals_length : (ts : List Expression) (gs : List Goal) → length (goals_in ts gs) ≡ length gs
goals_length ts [] = refl
goals_length ts (g ∷ gs) = ap suc (goals_length ts gs)

-- the premises that are left, after one more
left_next : (ds : List Declaration) (m : ℕ) (ps : List Premise) (i : ℕ) (p : Premise) → i < length ps → p ≡ get_or ps i p
    → premises_of ds (m + i) (premise_names (take i ps)) (drop i ps) ≡ before_premises (m + i) (premises_of ds (m + suc i) (premise_names (take (suc i) ps)) (drop (suc i) ps)) (goal_of_new ds (premise_names (take i ps)) p)
left_next ds m ps i p l e =
    let here : drop i ps ≡ p ∷ drop (suc i) ps = drop-cons ps i p l ∙ ap (λ q. q ∷ drop (suc i) ps) (sym e) in
    let names : premise_names (take i ps) ++ name_of_premise p ∷ [] ≡ premise_names (take (suc i) ps) =
    ap (λ q. premise_names (take i ps) ++ name_of_premise q ∷ []) e ∙ sym (map-append name_of_premise (take i ps) (get_or ps i p ∷ [])) ∙ ap premise_names (sym (take-suc ps i p l)) in
    let z : suc (m + i) ≡ m + suc i = omega arith in
    ap (premises_of ds (m + i) (premise_names (take i ps))) here
    ∙ premises_from ds (m + i) (premise_names (take i ps)) p (drop (suc i) ps)
    ∙ ap₂ (λ k ns. before_premises (m + i) (premises_of ds k ns (drop (suc i) ps)) (goal_of_new ds (premise_names (take i ps)) p)) z names

-- one more premise
pub asked_next : (ds : List Declaration) (m : ℕ) (ps : List Premise) (i : ℕ) (p : Premise) (bs : List Statement) (g : Claim) → i < length ps → p ≡ get_or ps i p → length bs ≡ i
    → goal_of_new ds (premise_names (take i ps)) p ≡ Some g → IsAskedFor ds m ps i bs → IsAskedFor ds m ps (suc i) (bs ++ plain g ∷ [])
asked_next ds m ps i p bs g l e long new h =
    let rest = premises_of ds (m + suc i) (premise_names (take (suc i) ps)) (drop (suc i) ps) in
    h ∙ ap (option_map (λ qs. numbered m bs ++ qs)) (left_next ds m ps i p l e ∙ ap (before_premises (m + i) rest) new)
    ∙ more rest
    ∙ ap (λ qs. option_map (λ ps. qs ++ ps) rest) (ap (λ k. numbered m bs ++ (m + k, plain g) ∷ []) (sym long) ∙ sym (numbered_last m bs (plain g)))
  where
    more : (o : Option (List (ℕ × Statement))) → option_map (λ qs. numbered m bs ++ qs) (before_premises (m + i) o (Some g)) ≡ option_map (λ ps. (numbered m bs ++ (m + i, plain g) ∷ []) ++ ps) o
    more None = refl
    more (Some qs) = ap Some (sym (append_assoc (numbered m bs) ((m + i, plain g) ∷ []) qs))

-- a premise that asks for nothing
pub asked_none : (ds : List Declaration) (m : ℕ) (ps : List Premise) (i : ℕ) (p : Premise) (bs : List Statement) → i < length ps → p ≡ get_or ps i p
    → goal_of_new ds (premise_names (take i ps)) p ≡ None → IsAskedFor ds m ps i bs → premises_of ds m [] ps ≡ None
asked_none ds m ps i p bs l e none h =
    let rest = premises_of ds (m + suc i) (premise_names (take (suc i) ps)) (drop (suc i) ps) in
    h ∙ ap (option_map (λ qs. numbered m bs ++ qs)) (left_next ds m ps i p l e ∙ ap (before_premises (m + i) rest) none)

-- no premise is left
pub asked_all : (ds : List Declaration) (m : ℕ) (ps : List Premise) (i : ℕ) (bs : List Statement) → length ps ≤ i → IsAskedFor ds m ps i bs → premises_of ds m [] ps ≡ Some (numbered m bs)
asked_all ds m ps i bs l h =
    h ∙ ap (λ qs. option_map (λ rs. numbered m bs ++ rs) (premises_of ds (m + i) (premise_names (take i ps)) qs)) (drop_all i ps l) ∙ ap Some (append-nil (numbered m bs))

-- Goals and metavariables, with one more.

pub goals_kept : (ts us : List Expression) → Extends ts us → (gs : List Goal) → AllFitGoals ts gs → goals_in us gs ≡ goals_in ts gs
goals_kept ts us x [] h = refl
goals_kept ts us x (g ∷ gs) h = ap₂ (λ c cs. c ∷ cs) (goal_extends ts us g x h.0.0) (goals_kept ts us x gs h.1)

fits_last : (ts : List Expression) (gs : List Goal) (g : Goal) → AllFitGoals ts gs → FitsGoal ts g → AllFitGoals ts (gs ++ g ∷ [])
fits_last ts [] g h f = (f, tt)
fits_last ts (x ∷ gs) g h f = (h.0, fits_last ts gs g h.1 f)

pub fits_next : (p q : Progress) (gs hs : List Goal) (g : Goal) → GoesOn p q → AllFitGoals p.state.trees gs → FitsGoal q.state.trees g → hs ≡ gs ++ g ∷ [] → AllFitGoals q.state.trees hs
fits_next p q gs hs g k h f e = subst (AllFitGoals q.state.trees) (sym e) (fits_last q.state.trees gs g (goals_fit p.state.trees q.state.trees k.trees gs h) f)

made_last : (s : State) (m : ℕ) (gs : List Claim) (ms : List ℕ) (g : Claim) (k : ℕ) → AreMade s m gs ms → k ≡ m + length gs → HasMet s k g → AreMade s m (gs ++ g ∷ []) (ms ++ k ∷ [])
made_last s m [] [] g k h e f = let z : k ≡ m = omega (arith, e) in (z, subst (λ k. HasMet s k g) z f, tt)
made_last s m [] (j ∷ ms) g k h e f = absurd h
made_last s m (x ∷ gs) [] g k h e f = absurd h
made_last s m (x ∷ gs) (j ∷ ms) g k h e f = let z : k ≡ suc m + length gs = omega (arith, e) in (h.0, h.1, made_last s (suc m) gs ms g k h.2 z f)

pub made_next : (p q : Progress) (m i : ℕ) (gs hs : List Goal) (ms ns : List ℕ) (g : Goal) (k : ℕ) → GoesOn p q → AllFitGoals p.state.trees gs → AreMade p.state m (goals_in p.state.trees gs) ms
    → length gs ≡ i → k ≡ m + i → HasMet q.state k (goal_in q.state.trees g) → hs ≡ gs ++ g ∷ [] → ns ≡ ms ++ k ∷ [] → AreMade q.state m (goals_in q.state.trees hs) ns
made_next p q m i gs hs ms ns g k goes f h long e met a b =
    let same : goals_in q.state.trees gs ≡ goals_in p.state.trees gs = goals_kept p.state.trees q.state.trees goes.trees gs f in
    let kept : AreMade q.state m (goals_in q.state.trees gs) ms = subst (λ gs. AreMade q.state m gs ms) (sym same) (made_stays p.state q.state goes.items.0 m (goals_in p.state.trees gs) ms goes.items.1 h) in
    let z : k ≡ m + length (goals_in q.state.trees gs) = e ∙ ap (λ n. m + n) (sym long ∙ sym (goals_length q.state.trees gs)) in
    subst (λ hs. AreMade q.state m (goals_in q.state.trees hs) ns) (sym a)
    (subst (λ gs. AreMade q.state m gs ns) (sym (map-append (goal_in q.state.trees) gs (g ∷ [])))
    (subst (AreMade q.state m (goals_in q.state.trees gs ++ goal_in q.state.trees g ∷ [])) (sym b)
    (made_last q.state m (goals_in q.state.trees gs) ms (goal_in q.state.trees g) k kept z met)))

pub long_next : (gs hs : List Goal) (g : Goal) (i : ℕ) → length gs ≡ i → hs ≡ gs ++ g ∷ [] → length hs ≡ suc i
long_next gs hs g i e a = ap length a ∙ length_last gs g ∙ ap suc e

-- the premises that were asked for, with one more, over the later trees
pub premises_next : (p q : Progress) (ds : List Declaration) (m : ℕ) (ps : List Premise) (i : ℕ) (r : Premise) (gs hs : List Goal) (g : Goal) → GoesOn p q → AllFitGoals p.state.trees gs → p.rules ≡ ds
    → i < length ps → r ≡ get_or ps i r → length gs ≡ i → goal_of_new p.rules (premise_names (take i ps)) r ≡ Some (goal_in q.state.trees g) → hs ≡ gs ++ g ∷ []
    → IsAskedFor ds m ps i (boundaries_in p.state.trees gs) → IsAskedFor ds m ps (suc i) (boundaries_in q.state.trees hs)
premises_next p q ds m ps i r gs hs g goes f same l e long new a h =
    let kept : boundaries_in q.state.trees gs ≡ boundaries_in p.state.trees gs = boundaries_kept p.state.trees q.state.trees goes.trees gs f in
    let all : boundaries_in p.state.trees gs ++ plain (goal_in q.state.trees g) ∷ [] ≡ boundaries_in q.state.trees hs =
    ap (λ bs. bs ++ plain (goal_in q.state.trees g) ∷ []) (sym kept) ∙ sym (map-append (λ g. plain (goal_in q.state.trees g)) gs (g ∷ [])) ∙ ap (boundaries_in q.state.trees) (sym a) in
    subst (IsAskedFor ds m ps (suc i)) all
    (asked_next ds m ps i r (boundaries_in p.state.trees gs) (goal_in q.state.trees g) l e (boundaries_length p.state.trees gs ∙ long) (ap (λ ds. goal_of_new ds (premise_names (take i ps)) r) (sym same) ∙ new) h)

-- The rule that is declared.

pub first_made : (s : State) (m : ℕ) (gs : List Claim) (ms : List ℕ) → AreMade s m gs ms → AreMade s (first_number ms) gs ms
first_made s m [] [] h = tt
first_made s m [] (k ∷ ms) h = absurd h
first_made s m (g ∷ gs) [] h = absurd h
first_made s m (g ∷ gs) (k ∷ ms) h = subst (λ j. AreMade s j (g ∷ gs) (k ∷ ms)) (sym h.0) h

pub first_numbered : (s : State) (ts us : List Expression) (m : ℕ) (gs : List Goal) (ms : List ℕ) → AreMade s m (goals_in ts gs) ms → numbered (first_number ms) (boundaries_in us gs) ≡ numbered m (boundaries_in us gs)
first_numbered s ts us m [] ms h = refl
first_numbered s ts us m (g ∷ gs) [] h = absurd h
first_numbered s ts us m (g ∷ gs) (k ∷ ms) h = ap (λ j. numbered j (boundaries_in us (g ∷ gs))) h.0

rule_is : (ds : List Declaration) (ps : List Premise) (c : Conclusion) (m : ℕ) (qs : List (ℕ × Statement)) (g : Claim) → m ≡ metavariable_count ds → premises_of ds m [] ps ≡ Some qs
    → goal_of_conclusion ds (premise_names ps) c ≡ Some g → rule_of ds ps c ≡ Some (record { premises = qs; conclusion = g })
rule_is ds ps c m qs g e f h = ap₂ rule_by (ap (λ m. premises_of ds m [] ps) (sym e) ∙ f) h

pub rule_declared : (ds : List Declaration) (ps : List Premise) (c : Conclusion) (m : ℕ) (qs : List (ℕ × Statement)) (g : Claim) → m ≡ metavariable_count ds → premises_of ds m [] ps ≡ Some qs
    → goal_of_conclusion ds (premise_names ps) c ≡ Some g → nat_lt (length ds) 65536 ≡ true → declared ds ps c ≡ Some (record { premises = qs; conclusion = g })
rule_declared ds ps c m qs g e f h b = ap₂ (λ b R. cond b R None) b (rule_is ds ps c m qs g e f h)

count_last : (ds : List Declaration) (d : Declaration) → metavariable_count (ds ++ d ∷ []) ≡ metavariable_count ds + length d.rule.premises
count_last [] d = omega arith
count_last (x ∷ ds) d = let h = count_last ds d in omega (arith, h)

numbered_length : (m : ℕ) (bs : List Statement) → length (numbered m bs) ≡ length bs
numbered_length m [] = refl
numbered_length m (b ∷ bs) = ap suc (numbered_length (suc m) bs)

-- a rule's metavariables are counted with it
pub counted_next : (ds : List Declaration) (ts : List Expression) (n : Name) (k : ℕ) (gs : List Goal) (g : Claim) (c l : ℕ) → c ≡ metavariable_count ds → length gs ≡ l
    → c + l ≡ metavariable_count (ds ++ record { name = n; rule = record { premises = numbered k (boundaries_in ts gs); conclusion = g } } ∷ [])
counted_next ds ts n k gs g c l e f =
    ap₂ (λ a b. a + b) e (sym f ∙ sym (boundaries_length ts gs) ∙ sym (numbered_length k (boundaries_in ts gs)))
    ∙ sym (count_last ds (record { name = n; rule = record { premises = numbered k (boundaries_in ts gs); conclusion = g } }))

-- The same, after the conclusion was asked for.

pub made_later : (p q : Progress) (m k : ℕ) (gs : List Goal) (ms : List ℕ) → Keeps p q → AllFitGoals p.state.trees gs → AreMade p.state m (goals_in p.state.trees gs) ms → k ≡ first_number ms
    → AreMade q.state k (goals_in q.state.trees gs) ms
made_later p q m k gs ms keeps f h e =
    subst (λ k. AreMade q.state k (goals_in q.state.trees gs) ms) (sym e)
    (first_made q.state m (goals_in q.state.trees gs) ms
    (subst (λ gs. AreMade q.state m gs ms) (sym (goals_kept p.state.trees q.state.trees keeps.trees gs f))
    (made_stays p.state q.state (map entry keeps.items.0) m (goals_in p.state.trees gs) ms keeps.items.1 h)))

pub declared_after : {A E : Type 0} (r : Result A E) (o p q s t : Progress) (n a : Name) (ps : List Premise) (c : Conclusion) (m k : ℕ) (gs : List Goal) (ms : List ℕ) (g : Goal)
    → m ≡ metavariable_count o.rules → GoesOn o p → Keeps p q → Keeps q s → s.state.trees ≡ q.state.trees → AllFitGoals p.state.trees gs → AreMade p.state m (goals_in p.state.trees gs) ms
    → premises_of o.rules m [] ps ≡ Some (numbered m (boundaries_in p.state.trees gs)) → goal_of_conclusion p.rules (premise_names ps) c ≡ Some (goal_in q.state.trees g) → k ≡ first_number ms → a ≡ n
    → OnOk r (t.rules ≡ s.rules ++ record { name = a; rule = record { premises = numbered k (boundaries_in s.state.trees gs); conclusion = goal_in s.state.trees g } } ∷ [])
    → OnOk r (told t.state.items ≡ told s.state.items ++ declares a (record { premises = numbered k (boundaries_in s.state.trees gs); conclusion = goal_in s.state.trees g }) ∷ [])
    → OnOk r (nat_lt (length s.rules) 65536 ≡ true)
    → OnOk r (IsDeclared o t n ps c)
declared_after (Err x) o p q s t n a ps c m k gs ms g count goes kp kq trees f made premises concludes first copy h tell b = tt
declared_after (Ok x) o p q s t n a ps c m k gs ms g count goes kp kq trees f made premises concludes first copy h tell b =
    let rules : s.rules ≡ o.rules = kq.rules ∙ kp.rules ∙ goes.rules in
    let whole : numbered k (boundaries_in s.state.trees gs) ≡ numbered m (boundaries_in p.state.trees gs) =
    ap (λ k. numbered k (boundaries_in s.state.trees gs)) first ∙ first_numbered p.state p.state.trees s.state.trees m gs ms made
    ∙ ap (numbered m) (boundaries_kept p.state.trees s.state.trees (keeps_then p q s kp kq).trees gs f) in
    let goal : goal_of_conclusion o.rules (premise_names ps) c ≡ Some (goal_in s.state.trees g) =
    ap (λ ds. goal_of_conclusion ds (premise_names ps) c) (sym goes.rules) ∙ concludes ∙ ap (λ ts. Some (goal_in ts g)) (sym trees) in
    let room : nat_lt (length o.rules) 65536 ≡ true = ap (λ ds. nat_lt (length ds) 65536) (sym rules) ∙ b in
    let R : Rule = record { premises = numbered k (boundaries_in s.state.trees gs); conclusion = goal_in s.state.trees g } in (
      R,
      rule_declared o.rules ps c m (numbered m (boundaries_in p.state.trees gs)) (goal_in s.state.trees g) count premises goal room
          ∙ ap (λ qs. Some (record { premises = qs; conclusion = goal_in s.state.trees g })) (sym whole),
      h ∙ ap₂ (λ ds n. ds ++ record { name = n; rule = R } ∷ []) rules copy,
      tell ∙ ap₂ (λ ts n. ts ++ declares n R ∷ []) (keeps_tell q s kq ∙ keeps_tell p q kp ∙ goes.tells) copy,
    )

pub counted_after : {A E : Type 0} (r : Result A E) (o p q s t : Progress) (a n : Name) (ms : List ℕ) (b m k l : ℕ) (gs : List Goal) (g : Claim) → m ≡ metavariable_count o.rules → p.rules ≡ o.rules → Keeps p q → Keeps q s
    → length (metavariables_in p.state.items) ≡ m + l → length gs ≡ l
    → OnOk r (t.state ≡ with_item s.state (rule n ms b))
    → OnOk r (t.rules ≡ s.rules ++ record { name = a; rule = record { premises = numbered k (boundaries_in s.state.trees gs); conclusion = g } } ∷ [])
    → OnOk r (IsCounted t)
counted_after (Err x) o p q s t a n ms b m k l gs g count same kp kq more long state rules = tt
counted_after (Ok x) o p q s t a n ms b m k l gs g count same kp kq more long state rules =
    let here : m ≡ metavariable_count s.rules = count ∙ ap metavariable_count (sym (kq.rules ∙ kp.rules ∙ same)) in
    ap (λ (s : State). length (metavariables_in s.items)) state
    ∙ ap length (none_more s.state n ms b ∙ same_metavariables q s kq ∙ same_metavariables p q kp)
    ∙ more ∙ counted_next s.rules s.state.trees a k gs g m l here long
    ∙ ap metavariable_count (sym rules)

-- Premises that are asked for, and for which nothing is made.

-- whatever the number of the first metavariable, the first i premises ask for so many boundaries
abbrev pub AreWanted : List Declaration → List Premise → ℕ → Type 0
AreWanted ds ps i = (m : ℕ) → (bs : List Statement) × (length bs ≡ i) × IsAskedFor ds m ps i bs

pub wanted_next : (ds es : List Declaration) (ps : List Premise) (i : ℕ) (p : Premise) (g : Claim) → es ≡ ds → i < length ps → p ≡ get_or ps i p
    → goal_of_new es (premise_names (take i ps)) p ≡ Some g → AreWanted ds ps i → AreWanted ds ps (i + 1)
wanted_next ds es ps i p g same l e new h m =
    let one : suc i ≡ i + 1 = omega arith in
    let bs : List Statement = (h m).0 in
    subst (λ i. (bs : List Statement) × (length bs ≡ i) × IsAskedFor ds m ps i bs) one (
      bs ++ plain g ∷ [],
      length_last bs (plain g) ∙ ap suc (h m).1,
      asked_next ds m ps i p bs g l e (h m).1 (ap (λ ds. goal_of_new ds (premise_names (take i ps)) p) (sym same) ∙ new) (h m).2,
    )

pub wanted_none : (ds es : List Declaration) (ps : List Premise) (i : ℕ) (p : Premise) (m : ℕ) → es ≡ ds → i < length ps → p ≡ get_or ps i p
    → goal_of_new es (premise_names (take i ps)) p ≡ None → AreWanted ds ps i → premises_of ds m [] ps ≡ None
wanted_none ds es ps i p m same l e new h =
    asked_none ds m ps i p (h m).0 l e (ap (λ ds. goal_of_new ds (premise_names (take i ps)) p) (sym same) ∙ new) (h m).2

pub wanted_all : (ds : List Declaration) (ps : List Premise) (i m : ℕ) → length ps ≤ i → AreWanted ds ps i → (qs : List (ℕ × Statement)) × (premises_of ds m [] ps ≡ Some qs)
wanted_all ds ps i m l h = (numbered m (h m).0, asked_all ds m ps i (h m).0 l (h m).2)

-- a rule that is built, where nothing is made
pub built_rule : (ds es : List Declaration) (ps : List Premise) (c : Conclusion) (g : Claim) → ((m : ℕ) → (qs : List (ℕ × Statement)) × (premises_of ds m [] ps ≡ Some qs)) → es ≡ ds
    → goal_of_conclusion es (premise_names ps) c ≡ Some g → nat_lt (length ds) 65536 ≡ true → (R : Rule) × (declared ds ps c ≡ Some R)
built_rule ds es ps c g h same e b =
    let qs = h (metavariable_count ds) in
    (record { premises = qs.0; conclusion = g }, rule_declared ds ps c (metavariable_count ds) qs.0 g refl qs.1 (ap (λ ds. goal_of_conclusion ds (premise_names ps) c) (sym same) ∙ e) b)
