-- Metavariables of a session as it goes on.
use Rattle.std.proofs.Common.{◌≡◌, ◌∙◌, sym, ap, refl, subst, ℕ, suc, List, [], ◌∷◌, ◌++◌, map, length, Option, Some, None, append_assoc, append-nil, Result, Ok, Err, IfOk, OnOk, OnErr}
use Rattle.ft_base.specs.declared.memory.Memory.{Memory}
use Rattle.ft_theory.specs.Statements.{Claim, plain}
use Rattle.ft_items.specs.Item.{Name, Item, Entry, metavariable, rule, entry, shown}
use Rattle.ft_items.specs.Store.{Assertion, Declared, Store, nth, entry_named, add_metavariable, add, add_all, empty_store, store_of, metavariables_in, Declarations, declared_by}
use Rattle.ft_items.specs.Good.{Allowed, Good}
use Rattle.std.proofs.lemmas.List.{length-map}
use Rattle.ft_items.proofs.Lists.{store_is, nth_end, before_all, metavariables_append, declared_last}
use Rattle.ft_kernel.specs.State.{State, with_item}
use Rattle.ft_run.specs.declared.session.Known.{Known}
use Rattle.ft_run.specs.Session.{Progress, declarations, IsSession, HasEntry, HasMet, AreMade, Keeps, GoesOn}
use Rattle.ft_run.specs.Asking.{HasGoal}
use Rattle.ft_applications_meaning.specs.Histories.{told}
use Rattle.ft_run.proofs.Telling.{told_metavariable, steps_last}
use Rattle.ft_run.proofs.Keeping.{keeps_tell}
use Rattle.ft_run.proofs.Accepted.{entry_there, goal_no_thesis}

no_metavariables : (es : List Entry) → metavariables_in (map entry es) ≡ []
no_metavariables [] = refl
no_metavariables (e ∷ es) = no_metavariables es

-- entries are no metavariables
pub same_metavariables : (p q : Progress) → Keeps p q → metavariables_in q.state.items ≡ metavariables_in p.state.items
same_metavariables p q k =
    ap metavariables_in k.items.1 ∙ metavariables_append p.state.items (map entry k.items.0)
    ∙ ap (λ ms. metavariables_in p.state.items ++ ms) (no_metavariables k.items.0) ∙ append-nil (metavariables_in p.state.items)

pub length_last : {A : Type 0} (xs : List A) (x : A) → length (xs ++ x ∷ []) ≡ suc (length xs)
length_last [] x = refl
length_last (y ∷ xs) x = ap suc (length_last xs x)

-- one more metavariable
pub one_more : (s : State) (n : Name) (b : ℕ) → length (metavariables_in (with_item s (metavariable n b)).items) ≡ suc (length (metavariables_in s.items))
one_more s n b = ap length (metavariables_append s.items (metavariable n b ∷ [])) ∙ length_last (metavariables_in s.items) (n, b)

-- a rule is none
pub none_more : (s : State) (n : Name) (ms : List ℕ) (b : ℕ) → metavariables_in (with_item s (rule n ms b)).items ≡ metavariables_in s.items
none_more s n ms b = metavariables_append s.items (rule n ms b ∷ []) ∙ append-nil (metavariables_in s.items)

-- a shown mark is none
pub shown_no_more : (s : State) (j : ℕ) → metavariables_in (with_item s (shown j)).items ≡ metavariables_in s.items
shown_no_more s j = metavariables_append s.items (shown j ∷ []) ∙ append-nil (metavariables_in s.items)

-- Metavariables stay.

pub add_append : (W : Store) (is js : List Item) → add_all W (is ++ js) ≡ add_all (add_all W is) js
add_append W [] js = refl
add_append W (i ∷ is) js = add_append (add W i) is js

met_stays : (s t : State) (more : List Item) (m : ℕ) (g : Claim) → t.items ≡ s.items ++ more → HasMet s m g → HasMet t m g
met_stays s t more m g e h =
    let there : store_of t.items ≡ add_all (store_of s.items) more = ap store_of e ∙ add_append empty_store s.items more in
    (h.0, ap (λ (W : Store). nth W.declarations.metavariables m) there ∙ (before_all (store_of s.items) more).metavariables m h.0 h.1, h.2, h.3)

-- what was made stays made
pub made_stays : (s t : State) (more : List Item) (m : ℕ) (gs : List Claim) (ms : List ℕ) → t.items ≡ s.items ++ more → AreMade s m gs ms → AreMade t m gs ms
made_stays s t more m [] [] e h = tt
made_stays s t more m [] (k ∷ ms) e h = absurd h
made_stays s t more m (g ∷ gs) [] e h = absurd h
made_stays s t more m (g ∷ gs) (k ∷ ms) e h = (h.0, met_stays s t more m g e h.1, made_stays s t more (suc m) gs ms e h.2)

-- A metavariable for a goal.

pub met_allowed : (s : State) (n : Name) (b : ℕ) → HasGoal s b → Allowed s.items (metavariable n b)
met_allowed s n b h = (record { statement = plain h.0; set = [] }, entry_there s b h.0 h.2, goal_no_thesis h.0 h.1, refl)

pub met_made : (s t : State) (n : Name) (b m : ℕ) (g : Claim) → Good s.items → t ≡ with_item s (metavariable n b) → m ≡ length (metavariables_in s.items) → HasEntry s b g → HasMet t m g
met_made s t n b m g good a e h =
    let W : Declarations = declared_by s.items in
    let d : Declared = record { name = n; boundary = plain g; set = [] } in
    let after : declared_by (s.items ++ metavariable n b ∷ []) ≡ add_metavariable W n (Some (record { statement = plain g; set = [] })) =
    declared_last s.items (metavariable n b) ∙ ap (add_metavariable W n) (entry_there s b g h) in
    let long : length W.metavariables ≡ length (metavariables_in s.items) = ap length (store_is s.items good).metavariables ∙ length-map (metavariables_in s.items) _ in
    subst (λ (t : State). HasMet t m g) (sym a)
    (d, ap (λ (X : Declarations). nth X.metavariables m) after ∙ ap (nth (W.metavariables ++ d ∷ [])) (e ∙ sym long) ∙ nth_end W.metavariables d, refl, refl)

stays_metavariable_rules : (W : Declarations) (n : Name) (o : Option Assertion) → ((add_metavariable W n o).rules ≡ W.rules) × ((add_metavariable W n o).names ≡ W.names)
stays_metavariable_rules W n None = (refl, refl)
stays_metavariable_rules W n (Some a) = (refl, refl)

session_met : (s : State) (n : Name) (b : ℕ) (ks : List Known) → IsSession s ks → IsSession (with_item s (metavariable n b)) ks
session_met s n b ks h =
    let more = declared_last s.items (metavariable n b) in
    let same = stays_metavariable_rules (declared_by s.items) n (entry_named (store_of s.items) b) in
    record {
      known = h.known;
      rules = ap (λ (W : Declarations). W.rules) more ∙ same.0 ∙ h.rules;
      names_are = ap (λ (W : Declarations). W.names) more ∙ same.1 ∙ h.names_are;
      steps = steps_last s.items (metavariable n b) h.steps tt;
    }

-- after a push of a metavariable, whether there was memory for it or not
pub session_after_met : (r : Result ℕ Memory) (s t : State) (n : Name) (b : ℕ) (ks : List Known) → IsSession s ks → OnOk r (t ≡ with_item s (metavariable n b)) → OnErr r (t ≡ s) → IsSession t ks
session_after_met (Ok j) s t n b ks h a e = subst (λ t. IsSession t ks) (sym a) (session_met s n b ks h)
session_after_met (Err m) s t n b ks h a e = subst (λ t. IsSession t ks) (sym e) h

pub rules_after_met : (r : Result ℕ Memory) (s t : State) (n : Name) (b : ℕ) (ks : List Known) (p : Progress) → record { state = s; rules = declarations s.trees ks } ≡ p → OnOk r (t ≡ with_item s (metavariable n b)) → OnErr r (t ≡ s)
    → declarations t.trees ks ≡ p.rules
rules_after_met (Ok j) s t n b ks p v a e = ap (λ (t : State). declarations t.trees ks) a ∙ ap (λ (p : Progress). p.rules) v
rules_after_met (Err m) s t n b ks p v a e = ap (λ (t : State). declarations t.trees ks) e ∙ ap (λ (p : Progress). p.rules) v

pub mets_after : (r : Result ℕ Memory) (s t : State) (n : Name) (b : ℕ) (p : Progress) → s ≡ p.state → Good s.items → IfOk r (λ m. m ≡ length (metavariables_in s.items)) → OnOk r (t ≡ with_item s (metavariable n b))
    → (g : Claim) → HasEntry p.state b g → IfOk r (λ m. HasMet t m g)
mets_after (Ok m) s t n b p v good e a g h = met_made s t n b m g good a e (subst (λ (s : State). HasEntry s b g) (sym v) h)
mets_after (Err m) s t n b p v good e a g h = tt

-- How a session goes on.

pub goes_kept : (p q : Progress) → Keeps p q → GoesOn p q
goes_kept p q k = record { trees = k.trees; items = (map entry k.items.0, k.items.1); tells = keeps_tell p q k; rules = k.rules }

pub goes_same : (p : Progress) → GoesOn p p
goes_same p = record { trees = ([], sym (append-nil p.state.trees)); items = ([], sym (append-nil p.state.items)); tells = refl; rules = refl }

pub goes_then : (p q r : Progress) → GoesOn p q → GoesOn q r → GoesOn p r
goes_then p q r f g = record {
  trees = (f.trees.0 ++ g.trees.0, g.trees.1 ∙ ap (λ ts. ts ++ g.trees.0) f.trees.1 ∙ append_assoc p.state.trees f.trees.0 g.trees.0);
  items = (f.items.0 ++ g.items.0, g.items.1 ∙ ap (λ is. is ++ g.items.0) f.items.1 ∙ append_assoc p.state.items f.items.0 g.items.0);
  tells = g.tells ∙ f.tells;
  rules = g.rules ∙ f.rules;
}

pub goes_item : (p q : Progress) (n : Name) (b : ℕ) → q.state ≡ with_item p.state (metavariable n b) → q.rules ≡ p.rules → GoesOn p q
goes_item p q n b a e = record {
  trees = ([], ap (λ (s : State). s.trees) a ∙ sym (append-nil p.state.trees));
  items = (metavariable n b ∷ [], ap (λ (s : State). s.items) a);
  tells = ap (λ (s : State). told s.items) a ∙ told_metavariable p.state.items n b;
  rules = e;
}

pub goes_equal : (p q : Progress) → q ≡ p → GoesOn p q
goes_equal p q e = subst (GoesOn p) (sym e) (goes_same p)
