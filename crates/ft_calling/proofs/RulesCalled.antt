-- Rules, by their names and by what their calls answer.
use Rattle.std.proofs.Common.{◌≡◌, ◌∙◌, ◌<◌, ℕ, zero, suc, Bool, true, false, cond, Option, Some, None, List, [], ◌∷◌, ◌++◌, length, ap, ap₂, refl, sym, subst, arith, IfOk, IfSome, option_map, option_and_then}
use Rattle.std.specs.Prelude.{Result}
use Rattle.std.proofs.lemmas.List.{length-map}
use Rattle.std.proofs.lemmas.Option.{same_Some}
use Rattle.ft_common.proofs.Options.{some_none}
use Rattle.ft_theory.specs.Rules.{Rule}
use Rattle.ft_theory.specs.Rules as theory
use Rattle.ft_laws.proofs.Admissible.{rule_before}
use Rattle.ft_items.specs.Item.{Name, Item, variable, metavariable, rule, entry, shown, by_rule, by_inst, by_cong}
use Rattle.ft_items.specs.Store.{Assertion, Declared, Declarations, Store, empty_store, store_of, add, add_all, add_rule, add_variable, add_metavariable, declared_by, declared_rule, each, entry_named, metavariable_named, rule_named, rules_in, with_three, ruled, nth, entries_in}
use Rattle.ft_items.specs.Good.{Good, equal_names}
use Rattle.ft_items.proofs.Lists.{store_is, store_append}
use Rattle.ft_reference.specs.Nucleus as reference
use Rattle.ft_meaning.specs.Names.{number_of}
use Rattle.ft_meaning.specs.Values.{nucleus, the, the_rule}
use Rattle.ft_meaning.specs.Forms.{judged}
use Rattle.ft_judge.specs.declared.fault.Fault.{Fault}
use Rattle.ft_kernel.specs.State.{State, place_of_name, rule_names, IsThesisOf, IsBoundaryOf}
use Rattle.ft_calls.specs.Answers.{Answers}
use Rattle.ft_apply.specs.Named.{AreThesesOf}
use Rattle.ft_telling.specs.declared.halt.Halt.{Halt}
use Rattle.ft_telling.specs.Telling.{state_of, halted_at}
use Rattle.ft_telling.specs.Words.{stated_all, AreEntriesOf}
use Rattle.ft_telling.proofs.Calls.{tells_judgement}
use Rattle.ft_telling.proofs.RulesTold.{arguments_named, conclusion_tells, premise_tells}
use Rattle.ft_calling.specs.Calling.{ToldJudgement, ToldGoal, ToldRule, TellsRule, IsRuleOf, rule_at, rule_or}
use Rattle.ft_calling.specs.Laws.{RulesStay}
use Rattle.ft_calling.proofs.Leaving.{rules_append}
use Rattle.ft_calling.proofs.Telling.{told_judgement, told_goal}

-- ---- the rule of a number

rule_within : (T : List Rule) (r : ℕ) → r < length T → theory.rule_at T r ≡ Some (rule_or (theory.rule_at T r))
rule_within [] r h = absurd (omega (arith, h))
rule_within (R ∷ T) zero h = refl
rule_within (R ∷ T) (suc r) h = rule_within T r (omega (arith, h))

as_many_rules : (items : List Item) → Good items → length (declared_by items).rules ≡ length (rules_in items)
as_many_rules items g =
    ap length (store_is items g).rules
    ∙ length-map (rules_in items) (λ (x : Name × List ℕ × ℕ). ruled (each (metavariable_named (declared_by items)) x.1) (nth (entries_in items) x.2))

rule_there : (s : State) (r : ℕ) → Good s.items → IsRuleOf s r
    → theory.rule_at (declared_by s.items).rules r ≡ Some (rule_at s r).1
rule_there s r g is =
    rule_within (declared_by s.items).rules r (subst (λ n. r < n) (sym (as_many_rules s.items g)) is)

pub rule_known : (s : State) (r : ℕ) → Good s.items → IsRuleOf s r
    → rule_named (declared_by s.items) r ≡ Some (rule_at s r)
rule_known s r g is = ap (option_map (λ R. (r, R))) (rule_there s r g is)

-- ---- the rule of a name

place_is_number : (ns : List Name) (n : Name) → place_of_name ns n ≡ number_of ns n
place_is_number [] n = refl
place_is_number (m ∷ ns) n =
    ap (λ o. cond (equal_names m n) (Some zero) (option_map suc o)) (place_is_number ns n)

number_within : (ns : List Name) (n : Name) (r : ℕ) → number_of ns n ≡ Some r → r < length ns
number_within [] n r h = some_none (sym h)
number_within (m ∷ ns) n r h = go (equal_names m n) (number_of ns n) (λ k e. number_within ns n k e) refl h
  where
    go : (b : Bool) (o : Option ℕ) → ((k : ℕ) → number_of ns n ≡ Some k → k < length ns) → number_of ns n ≡ o
        → cond b (Some zero) (option_map suc o) ≡ Some r → r < suc (length ns)
    go true o ih e h = let is = same_Some zero r h in omega (arith, is)
    go false None ih e h = some_none (sym h)
    go false (Some k) ih e h =
        let is = same_Some (suc k) r h in
        let less = ih k e in omega (arith, is, less)

names_are : (s : State) → Good s.items → (declared_by s.items).names ≡ rule_names s.items
names_are s g = (store_is s.items g).names

named_within : (s : State) (n : Name) (r : ℕ) → Good s.items
    → number_of (declared_by s.items).names n ≡ Some r → IsRuleOf s r
named_within s n r g e =
    subst (λ k. r < k)
    (ap length (names_are s g) ∙ length-map (rules_in s.items) (λ (x : Name × List ℕ × ℕ). x.0))
    (number_within (declared_by s.items).names n r e)

pub named_told : (s : State) (n : Name) (r : Option ℕ) → Good s.items
    → r ≡ place_of_name (rule_names s.items) n → ToldRule s n r
named_told s n r g is u =
    go r (ap (λ ns. number_of ns n) (names_are s g) ∙ sym (place_is_number (rule_names s.items) n) ∙ sym is)
  where
    go : (r : Option ℕ) → number_of (declared_by s.items).names n ≡ r
        → TellsRule (the_rule n (state_of s u)) r s u
    go None e = ap (λ o. the (option_and_then (rule_named (declared_by s.items)) o) (state_of s u)) e
    go (Some r) e =
        ap (λ o. the (option_and_then (rule_named (declared_by s.items)) o) (state_of s u)) e
        ∙ ap (λ o. the o (state_of s u)) (rule_known s r g (named_within s n r g e))

pub named_is_rule : (s : State) (n : Name) (r : Option ℕ)
    → r ≡ place_of_name (rule_names s.items) n → IfSome r (λ r. IsRuleOf s r)
named_is_rule s n None is = tt
named_is_rule s n (Some r) is =
    subst (λ k. r < k) (length-map (rules_in s.items) (λ (x : Name × List ℕ × ℕ). x.0))
    (number_within (rule_names s.items) n r (sym (place_is_number (rule_names s.items) n) ∙ sym is))

-- ---- rules at arguments

theses_entries : (s : State) (js : List ℕ) → AreThesesOf s js → AreEntriesOf s js
theses_entries s [] h = tt
theses_entries s (j ∷ js) h = ((h.0.0, h.0.1), theses_entries s js h.1)

pub applied_told : (s t : State) (at r : ℕ) (js : List ℕ) (o : Result ℕ Fault) (q : Result ℕ Halt)
    → Good s.items → IsRuleOf s r → AreThesesOf s js → Answers s (by_rule r js) o t
    → IfOk o (λ j. IsThesisOf t j) → q ≡ halted_at at o
    → ToldJudgement s (judged at (λ W. reference.apply W (rule_at s r) (stated_all s js))) q t
applied_told s t at r js o q g is args a kind e =
    told_judgement s t (by_rule r js)
    (judged at (λ W. reference.apply W (rule_at s r) (stated_all s js))) at o q
    (λ u. conclusion_tells s t u at r (rule_at s r) js o (rule_known s r g is)
    (theses_entries s js args) a) a kind e

pub next_told : (s t : State) (at r : ℕ) (js : List ℕ) (o : Result ℕ Fault) (q : Result ℕ Halt)
    → Good s.items → IsRuleOf s r → AreThesesOf s js → Answers s (by_inst r js) o t
    → IfOk o (λ b. IsBoundaryOf t b) → q ≡ halted_at at o
    → ToldGoal s (nucleus at (λ W. reference.next_boundary W (rule_at s r) (stated_all s js))) q t
next_told s t at r js o q g is args a kind e =
    told_goal s t (by_inst r js)
    (nucleus at (λ W. reference.next_boundary W (rule_at s r) (stated_all s js))) at o q
    (λ u. premise_tells s t u at r (rule_at s r) js o (rule_known s r g is)
    (theses_entries s js args) a) a kind e

pub congruence_told : (s t : State) (at r : ℕ) (js es : List ℕ) (o : Result ℕ Fault)
    (q : Result ℕ Halt) → Good s.items → IsRuleOf s r → AreThesesOf s js → AreThesesOf s es
    → Answers s (by_cong r js es) o t → IfOk o (λ j. IsThesisOf t j) → q ≡ halted_at at o
    → ToldJudgement s
    (judged at (λ W. reference.congruence W (rule_at s r) (stated_all s js) (stated_all s es))) q t
congruence_told s t at r js es o q g is args eqs a kind e =
    told_judgement s t (by_cong r js es)
    (judged at (λ W. reference.congruence W (rule_at s r) (stated_all s js) (stated_all s es))) at o q
    (λ u. tells_judgement s t u at (by_cong r js es)
    (by_cong (rule_at s r) (stated_all s js) (stated_all s es)) o
    (ap₂ (λ R a. with_three by_cong R a (each (entry_named (store_of s.items)) es))
    (rule_known s r g is) (arguments_named s js (theses_entries s js args))
    ∙ ap (with_three by_cong (Some (rule_at s r)) (Some (stated_all s js)))
    (arguments_named s es (theses_entries s es eqs))) a) a kind e

-- ---- rules stay

-- the rules of the one stand in the other
abbrev RulesKept : Declarations → Declarations → Type 0
RulesKept W X = (r : ℕ) (R : Rule) → theory.rule_at W.rules r ≡ Some R → theory.rule_at X.rules r ≡ Some R

variable_keeps : (W : Declarations) (v : ℕ) (n : Name) (o : Option Assertion) → RulesKept W (add_variable W v n o)
variable_keeps W v n None r R h = h
variable_keeps W v n (Some a) r R h = h

metavariable_keeps : (W : Declarations) (n : Name) (o : Option Assertion) → RulesKept W (add_metavariable W n o)
metavariable_keeps W n None r R h = h
metavariable_keeps W n (Some a) r R h = h

rule_keeps : (W : Declarations) (n : Name) (os : Option (List (ℕ × Declared))) (o : Option Assertion) → RulesKept W (add_rule W n os o)
rule_keeps W n None o r R h = h
rule_keeps W n (Some ds) None r R h = h
rule_keeps W n (Some ds) (Some a) r R h = rule_before W.rules (declared_rule ds a ∷ []) r R h

item_keeps : (W : Store) (i : Item) → RulesKept W.declarations (add W i).declarations
item_keeps W (variable v n p) r R h = variable_keeps W.declarations v n (entry_named W p) r R h
item_keeps W (metavariable n p) r R h = metavariable_keeps W.declarations n (entry_named W p) r R h
item_keeps W (rule n ms p) r R h = rule_keeps W.declarations n (each (metavariable_named W.declarations) ms) (entry_named W p) r R h
item_keeps W (entry e) r R h = h
item_keeps W (shown p) r R h = h

items_keep : (W : Store) (items : List Item) → RulesKept W.declarations (add_all W items).declarations
items_keep W [] r R h = h
items_keep W (i ∷ items) r R h = items_keep (add W i) items r R (item_keeps W i r R h)

pub rules_stay : RulesStay
rules_stay s t r g on is = (
  subst (λ n. r < n) (sym longer) (within (rules_in s.items) (rules_in on.0) r is),
  ap (λ R. (r, rule_or R)) (there ∙ sym (rule_there s r g is)),
)
  where
    longer : length (rules_in t.items) ≡ length (rules_in s.items ++ rules_in on.0)
    longer = ap (λ items. length (rules_in items)) on.1 ∙ ap length (rules_append s.items on.0)

    there : theory.rule_at (declared_by t.items).rules r ≡ Some (rule_at s r).1
    there =
        ap (λ items. theory.rule_at (declared_by items).rules r) on.1
        ∙ ap (λ (W : Store). theory.rule_at W.declarations.rules r) (store_append empty_store s.items on.0)
        ∙ items_keep (store_of s.items) on.0 r (rule_at s r).1 (rule_there s r g is)

    within : {A : Type 0} (xs ys : List A) (n : ℕ) → n < length xs → n < length (xs ++ ys)
    within [] ys n h = absurd (omega (arith, h))
    within (x ∷ xs) ys zero h = omega arith
    within (x ∷ xs) ys (suc n) h = let k = within xs ys n (omega (arith, h)) in omega (arith, k)
