-- The rule at a place of a session, and the step that concludes by it.
use Rattle.std.proofs.Common.{◌≡◌, ◌∙◌, sym, ap, ap₂, refl, subst, ℕ, zero, suc, ◌<◌, List, [], ◌∷◌, map, length, get_or, Option, Some, None, option_map, option_and_then, Bool, true, if◌then◌else◌, arith}
use Rattle.ft_theory.specs.Expressions.{Expression, symbol}
use Rattle.ft_theory.specs.Statements.{plain, fill_goal}
use Rattle.ft_theory.specs.Rules.{rule_at}
use Rattle.ft_items.specs.Equal.{fit_all, heads}
use Rattle.ft_items.specs.Item.{Item, entry, by_rule}
use Rattle.ft_items.specs.Store.{nth, each, entry_named, rules_in, empty_store, store_of, declared_by}
use Rattle.ft_items.specs.Good.{Allowed, Good}
use Rattle.ft_items.proofs.Lists.{entries_all, store_is}
use Rattle.std.proofs.lemmas.Bool.{lt-ltb}
use Rattle.std.proofs.lemmas.List.{length-map}
use Rattle.ft_judge.specs.Meaning.{claim_in, goal_in, GoalBelow}
use Rattle.ft_judge.specs.declared.judgement.Form.{Form}
use Rattle.ft_judge.specs.declared.judgement.Goal.{Goal}
use Rattle.ft_kernel.specs.State.{State, if_below}
use Rattle.ft_applications_meaning.specs.Building.{Declaration, theory, plains}
use Rattle.ft_run.specs.declared.session.Known.{Known}
use Rattle.ft_run.specs.declared.session.Claimed.{Claimed}
use Rattle.ft_run.specs.Given.{fits_goals}
use Rattle.ft_run.specs.Session.{Progress, numbered, boundaries_in, declaration, declarations, IsSimpleGoal, AllFitGoals, FitsKnown, AreKnown, IsSession, AreClaimed, AllClaimsBelow, claims_in}
use Rattle.ft_run.proofs.Simple.{IsSimpleRule, AreSimplePremises, AreSimpleClaims, assertions}
use Rattle.ft_run.specs.Claiming.{rule_in}
use Rattle.ft_run.proofs.Keeping.{declarations_length, theory_length, fits_declared}
use Rattle.ft_run.proofs.Allowed.{rule_allowed}

-- a place of the rules is one of the known
pub place_below : (s : State) (ks : List Known) (p : Progress) (i : ℕ) → record { state = s; rules = declarations s.trees ks } ≡ p → i < length p.rules → i < length ks
place_below s ks p i v l = subst (λ n. i < n) (ap (λ p. length p.rules) (sym v) ∙ declarations_length s.trees ks) l

rule_in_at : (ts : List Expression) (ks : List Known) (i : ℕ) (k : Known) → AreKnown ts ks → i < length ks → k ≡ get_or ks i k
    → (rule_in (declarations ts ks) i ≡ (declaration ts k).rule) × FitsKnown ts k
rule_in_at ts [] i k h l e = absurd (omega arith)
rule_in_at ts (x ∷ ks) zero k h l e = (ap (λ k. (declaration ts k).rule) (sym e), subst (FitsKnown ts) (sym e) h.0)
rule_in_at ts (x ∷ ks) (suc i) k h l e =
    let l2 : i < length ks = omega arith in
    rule_in_at ts ks i k h.1 l2 e

-- the goals of the premises at a place fit the table
pub goals_at : (s : State) (ks : List Known) (i : ℕ) (k : Known) (ts : List Expression) (gs : List Goal) → IsSession s ks → i < length ks → k ≡ get_or ks i k → ts ≡ s.trees → gs ≡ k.premises.items → AllFitGoals ts gs
goals_at s ks i k ts gs h l e t g =
    let f = (rule_in_at s.trees ks i k h.known l e).1.0 in
    subst (λ ts. AllFitGoals ts gs) (sym t) (subst (AllFitGoals s.trees) (sym g) f)

-- a test of the claims against these goals is one against the rule's premises
pub fits_at : (s : State) (ks : List Known) (p : Progress) (i : ℕ) (k : Known) (ts : List Expression) (gs : List Goal) (xs : List Claimed) (b : Bool) → IsSession s ks → record { state = s; rules = declarations s.trees ks } ≡ p
    → i < length ks → k ≡ get_or ks i k → ts ≡ s.trees → gs ≡ k.premises.items → b ≡ fits_goals ts gs xs → b ≡ fit_all (λ b. b) (rule_in p.rules i).premises (plains (claims_in p.state.trees xs))
fits_at s ks p i k ts gs xs b h v l e t g f =
    let r = rule_in_at s.trees ks i k h.known l e in
    f ∙ ap₂ (λ ts gs. fits_goals ts gs xs) t g ∙ fits_declared s.trees k.first k.premises.items xs
    ∙ ap (λ R. fit_all (λ b. b) R.premises (plains (claims_in s.trees xs))) (sym r.0)
    ∙ ap (λ p. fit_all (λ b. b) (rule_in p.rules i).premises (plains (claims_in p.state.trees xs))) v

pub goal_below_at : (s : State) (ks : List Known) (p : Progress) (i : ℕ) (k : Known) → IsSession s ks → record { state = s; rules = declarations s.trees ks } ≡ p → i < length ks → k ≡ get_or ks i k → GoalBelow (length p.state.trees) k.conclusion
goal_below_at s ks p i k h v l e = subst (λ p. GoalBelow (length p.state.trees) k.conclusion) v (rule_in_at s.trees ks i k h.known l e).1.1.0

pub conclusion_at : (s : State) (ks : List Known) (p : Progress) (i : ℕ) (k : Known) → IsSession s ks → record { state = s; rules = declarations s.trees ks } ≡ p → i < length ks → k ≡ get_or ks i k
    → (rule_in p.rules i).conclusion ≡ goal_in p.state.trees k.conclusion
conclusion_at s ks p i k h v l e =
    let r = rule_in_at s.trees ks i k h.known l e in
    subst (λ p. (rule_in p.rules i).conclusion ≡ goal_in p.state.trees k.conclusion) v (ap (λ R. R.conclusion) r.0)

rule_at_in : (ds : List Declaration) (i : ℕ) → i < length ds → rule_at (theory ds) i ≡ Some (rule_in ds i)
rule_at_in [] i l = absurd (omega arith)
rule_at_in (d ∷ ds) zero l = refl
rule_at_in (d ∷ ds) (suc i) l = let m : i < length ds = omega arith in rule_at_in ds i m

premises_simple : (ts : List Expression) (m : ℕ) (gs : List Goal) → AllFitGoals ts gs → AreSimplePremises (numbered m (boundaries_in ts gs))
premises_simple ts m [] h = tt
premises_simple ts m (g ∷ gs) h = (h.0.1, premises_simple ts (suc m) gs h.1)

rule_simple : (ts : List Expression) (ks : List Known) (i : ℕ) → AreKnown ts ks → i < length ks → IsSimpleRule (rule_in (declarations ts ks) i)
rule_simple ts [] i h l = absurd (omega arith)
rule_simple ts (k ∷ ks) zero h l = (premises_simple ts k.first k.premises.items h.0.0, h.0.1.1)
rule_simple ts (k ∷ ks) (suc i) h l = let l2 : i < length ks = omega arith in rule_simple ts ks i h.1 l2

claims_simple : (s : State) (xs : List Claimed) → AreClaimed s xs → AreSimpleClaims (claims_in s.trees xs)
claims_simple s [] h = tt
claims_simple s (x ∷ xs) h = (h.0.simple, claims_simple s xs h.1)

entries_claimed : (s : State) (xs : List Claimed) → AreClaimed s xs → each (entry_named (store_of s.items)) (map (λ x. x.entry) xs) ≡ Some (assertions (claims_in s.trees xs))
entries_claimed s [] h = refl
entries_claimed s (x ∷ xs) h =
    let here : entry_named (store_of s.items) x.entry ≡ Some (record { statement = plain (claim_in s.trees x.form); set = [] }) =
    ap (λ es. nth es x.entry) (entries_all empty_store s.items) ∙ h.0.entry in
    ap₂ (λ o os. option_and_then (λ b. option_map (λ bs. b ∷ bs) os) o) here (entries_claimed s xs h.1)

all_below : (s : State) (xs : List Claimed) → AreClaimed s xs → AllClaimsBelow (length s.trees) xs
all_below s [] h = tt
all_below s (x ∷ xs) h = (h.0.below, all_below s xs h.1)

-- what is claimed is over the table
pub claimed_below : (s : State) (ks : List Known) (p : Progress) (ts : List Expression) (xs : List Claimed) → record { state = s; rules = declarations s.trees ks } ≡ p → ts ≡ s.trees → AreClaimed p.state xs → AllClaimsBelow (length ts) xs
claimed_below s ks p ts xs v t c = subst (λ ts. AllClaimsBelow (length ts) xs) (ap (λ p. p.state.trees) (sym v) ∙ sym t) (all_below p.state xs c)

concluded_in : (s : State) (ks : List Known) (i : ℕ) (xs : List Claimed) (js : List ℕ) (f : Form) → IsSession s ks → i < length ks → AreClaimed s xs → js ≡ map (λ x. x.entry) xs
    → fit_all (λ b. b) (rule_in (declarations s.trees ks) i).premises (plains (claims_in s.trees xs)) ≡ true
    → claim_in s.trees f ≡ fill_goal (rule_in (declarations s.trees ks) i).conclusion (symbol i (heads (plains (claims_in s.trees xs))))
    → Allowed s.items (entry (record { statement = plain (claim_in s.trees f); set = []; step = by_rule i js }))
concluded_in s ks i xs js f h l c j fit claim =
    let ds : List Declaration = declarations s.trees ks in
    let m : i < length ds = subst (λ n. i < n) (sym (declarations_length s.trees ks)) l in
    let there : rule_at (declared_by s.items).rules i ≡ Some (rule_in ds i) = ap (λ T. rule_at T i) h.rules ∙ rule_at_in ds i m in
    let given : each (entry_named (store_of s.items)) js ≡ Some (assertions (claims_in s.trees xs)) = ap (each (entry_named (store_of s.items))) j ∙ entries_claimed s xs c in
    subst (λ c. Allowed s.items (entry (record { statement = plain c; set = []; step = by_rule i js }))) (sym claim)
    (rule_allowed s.items i (rule_in ds i) js (claims_in s.trees xs) there (rule_simple s.trees ks i h.known l) (claims_simple s xs c) given fit)

abbrev pub Concludes : ℕ → List Claimed → List ℕ → Form → Progress → Type 0
Concludes i xs js f p = AreClaimed p.state xs → fit_all (λ b. b) (rule_in p.rules i).premises (plains (claims_in p.state.trees xs)) ≡ true
    → claim_in p.state.trees f ≡ fill_goal (rule_in p.rules i).conclusion (symbol i (heads (plains (claims_in p.state.trees xs))))
    → Allowed p.state.items (entry (record { statement = plain (claim_in p.state.trees f); set = []; step = by_rule i js }))

-- the step by a rule at claims that fit it is allowed
pub concluded_allowed : (s : State) (ks : List Known) (p : Progress) (i r : ℕ) (xs : List Claimed) (js : List ℕ) (f : Form) → IsSession s ks → record { state = s; rules = declarations s.trees ks } ≡ p
    → i < length ks → r ≡ i → AreClaimed p.state xs → js ≡ map (λ x. x.entry) xs
    → fit_all (λ b. b) (rule_in p.rules i).premises (plains (claims_in p.state.trees xs)) ≡ true
    → claim_in p.state.trees f ≡ fill_goal (rule_in p.rules i).conclusion (symbol i (heads (plains (claims_in p.state.trees xs))))
    → Allowed p.state.items (entry (record { statement = plain (claim_in p.state.trees f); set = []; step = by_rule r js }))
concluded_allowed s ks p i r xs js f h v l q c j fit claim =
    subst (λ r. Allowed p.state.items (entry (record { statement = plain (claim_in p.state.trees f); set = []; step = by_rule r js }))) (sym q)
    (subst (Concludes i xs js f) v (λ c fit claim. concluded_in s ks i xs js f h l c j fit claim) c fit claim)

pub goal_simple_at : (s : State) (ks : List Known) (p : Progress) (i : ℕ) (k : Known) → IsSession s ks → record { state = s; rules = declarations s.trees ks } ≡ p → i < length ks → k ≡ get_or ks i k → IsSimpleGoal (goal_in p.state.trees k.conclusion)
goal_simple_at s ks p i k h v l e = subst (λ p. IsSimpleGoal (goal_in p.state.trees k.conclusion)) v (rule_in_at s.trees ks i k h.known l e).1.1.1

rules_length : (items : List Item) → Good items → length (rules_in items) ≡ length (declared_by items).rules
rules_length items g = sym (ap length (store_is items g).rules ∙ length-map (rules_in items) _)

-- a place of the rules is the number of a rule of the kernel
pub rule_found : (s : State) (ks : List Known) (p : Progress) (i : ℕ) (o : Option ℕ) → IsSession s ks → Good s.items → record { state = s; rules = declarations s.trees ks } ≡ p → i < length p.rules
    → o ≡ if_below i (length (rules_in s.items)) → o ≡ Some i
rule_found s ks p i o h g v l e =
    let same : length p.rules ≡ length (rules_in s.items) =
    sym (rules_length s.items g ∙ ap length h.rules ∙ theory_length (declarations s.trees ks) ∙ ap (λ p. length p.rules) v) in
    let below : i < length (rules_in s.items) = subst (λ n. i < n) same l in
    e ∙ ap (λ b. if b then Some i else None) (lt-ltb i (length (rules_in s.items)) below)
