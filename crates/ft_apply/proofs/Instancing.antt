-- The next boundary of a rule at arguments.
use Rattle.std.proofs.Common.{◌≡◌, ◌∙◌, ℕ, zero, suc, ◌<◌, ◌≤◌, true, cond, nat_eq, nat_le, ◌&&◌, Option, Some, None, List, [], ◌∷◌, ◌++◌, length, take, drop, refl, sym, ap, ap₂, subst, arith}
use Rattle.std.specs.Prelude.{Ok}
use Rattle.std.proofs.lemmas.Bool.{and_from, le-leb, lt-leb, eq-eqb}
use Rattle.ft_theory.specs.Expressions.{Expression, free, Arguments}
use Rattle.ft_theory.specs.Statements.{Statement, plain, act_statement}
use Rattle.ft_theory.specs.Rules.{Rule, instance_of}
use Rattle.ft_items.specs.Item.{Item, by_inst}
use Rattle.ft_items.specs.Equal.{heads}
use Rattle.ft_items.specs.Store.{resolve, rules_in}
use Rattle.ft_items.specs.Good.{Good, of_kind}
use Rattle.ft_items.specs.Rows.{when, at_arguments, are_arguments, first_premises, later_premises, next_boundary, boundary_instance}
use Rattle.ft_reference.specs.Refusals.{first_refusal, AllSmall, expressions, forms_result}
use Rattle.ft_reference.specs.Refusals as reference
use Rattle.ft_reference.specs.Checks.{instance_checks, first_argument_checks}
use Rattle.ft_nucleus_laws.proofs.Lists.{asked, passed}
use Rattle.ft_nucleus_laws.proofs.Tests.{Theses, arguments_asked}
use Rattle.ft_syntax.specs.Table.{AllBelow}
use Rattle.ft_syntax.specs.Instances.{instance_in}
use Rattle.ft_syntax.specs.declared.syntax.Arg.{Arg}
use Rattle.ft_syntax.specs.declared.syntax.SynFault.{SynFault}
use Rattle.ft_judge.specs.Faults as faults
use Rattle.ft_judge.specs.Meaning.{boundary_in}
use Rattle.ft_judge.specs.declared.judgement.Boundary.{Boundary}
use Rattle.ft_judge.specs.declared.fault.Fault.{Fault}
use Rattle.ft_judge.specs.declared.fault.Fault.TheVariants.{Refused, Memory}
use Rattle.ft_judge.specs.declared.fault.Refusal.TheVariants.{ArgumentCount}
use Rattle.ft_kernel.specs.State.{State}
use Rattle.ft_calls.specs.Forming.{Gives, Refuses}
use Rattle.ft_calls.proofs.Answering.{store}
use Rattle.ft_apply.specs.Named.{entries_of, statements_of, premises_in, boundary_of_met, AreThesesOf, rule_of, next_of, boundary_after}
use Rattle.ft_apply.specs.Outcomes.{BigOr, Stops, Formed, given_checks}
use Rattle.ft_apply.specs.Instances.{boundary_at}
use Rattle.ft_apply.proofs.Naming.{each_named, theses_of, theses_are, as_many}
use Rattle.ft_apply.proofs.RuleLines.{IsRuleOf, rule_resolved}
use Rattle.ft_apply.proofs.Asking.{both_pass, refused_first}
use Rattle.ft_apply.proofs.Calls.{formed_ok}
use Rattle.ft_calls.proofs.Later.{forms_fail}

-- the first premises
pub premises_taken : (items : List Item) (n : ℕ) (ms : List ℕ) → take n (premises_in items ms) ≡ premises_in items (take n ms)
premises_taken items zero ms = refl
premises_taken items (suc n) [] = refl
premises_taken items (suc n) (m ∷ ms) = ap (λ ps. (m, boundary_of_met items m) ∷ ps) (premises_taken items n ms)

pub premises_count : (items : List Item) (ms : List ℕ) → length (premises_in items ms) ≡ length ms
premises_count items [] = refl
premises_count items (m ∷ ms) = ap suc (premises_count items ms)

pub taken_below : (n k : ℕ) (ms : List ℕ) → AllBelow n ms → AllBelow n (take k ms)
taken_below n zero ms h = tt
taken_below n (suc k) [] h = tt
taken_below n (suc k) (m ∷ ms) h = (h.0, taken_below n k ms h.1)

pub length_taken : {A : Type 0} (n : ℕ) (xs : List A) → n ≤ length xs → length (take n xs) ≡ n
length_taken zero xs l = refl
length_taken (suc n) [] l = absurd (omega arith)
length_taken (suc n) (x ∷ xs) l = ap suc (length_taken n xs (omega arith))

-- theses that pass the checks are arguments
pub given_fit : (ps : List (ℕ × Statement)) (xs : List Statement) → Theses xs → length xs ≡ length ps → first_refusal (given_checks ps xs) ≡ None → are_arguments ps xs ≡ true
given_fit ps xs t l h =
    sym (arguments_asked (at_arguments ps (heads xs)) ps xs t)
    ∙ and_from (nat_eq (length xs) (length ps)) (asked (given_checks ps xs)) (eq-eqb (length xs) (length ps) l) (passed (given_checks ps xs) h).0

-- the first premises of a rule of the list
pub first_is : (items : List Item) (r : ℕ) (ms : List ℕ) (p : ℕ) (js : List ℕ) → IsRuleOf items r ms p → first_premises (rule_of items r) (statements_of items js) ≡ premises_in items (take (length js) ms)
first_is items r ms p js R = ap₂ take (as_many items js) R.premises ∙ premises_taken items (length js) ms

pub premises_many : (items : List Item) (r : ℕ) (ms : List ℕ) (p : ℕ) → IsRuleOf items r ms p → length (rule_of items r).premises ≡ length ms
premises_many items r ms p R = ap length R.premises ∙ premises_count items ms

-- too many
pub next_count : (ts : List Expression) (items : List Item) (r : ℕ) (ms : List ℕ) (p : ℕ) (js : List ℕ) → IsRuleOf items r ms p → length ms < length js
    → Refuses ts (instance_checks (rule_of items r) (statements_of items js)) (ArgumentCount (length js) (length ms))
next_count ts items r ms p js R l = (
  ap (λ b. cond b rest (Some (reference.ArgumentCount (length xs) (length ps)))) (lt-leb (length xs) (length ps) more)
      ∙ ap₂ (λ a b. Some (reference.ArgumentCount a b)) (as_many items js) (premises_many items r ms p R),
  tt,
)
  where
    xs : List Statement
    xs = statements_of items js

    ps : List (ℕ × Statement)
    ps = (rule_of items r).premises

    rest : Option reference.Refusal
    rest = first_refusal (first_argument_checks (rule_of items r) xs ++ forms_result (boundary_instance (rule_of items r) xs))

    more : length ps < length xs
    more = subst (λ n. length ps < n) (sym (as_many items js)) (subst (λ n. n < length js) (sym (premises_many items r ms p R)) l)

-- enough premises
counted : (items : List Item) (r : ℕ) (ms : List ℕ) (p : ℕ) (js : List ℕ) → IsRuleOf items r ms p → length js ≤ length ms → nat_le (length (statements_of items js)) (length (rule_of items r).premises) ≡ true
counted items r ms p js R l =
    le-leb (length (statements_of items js)) (length (rule_of items r).premises)
    (subst (λ n. n ≤ length (rule_of items r).premises) (sym (as_many items js)) (subst (λ n. length js ≤ n) (sym (premises_many items r ms p R)) l))

-- what the count lets through
after_count : (R : Rule) (xs : List Statement) → nat_le (length xs) (length R.premises) ≡ true → first_refusal (instance_checks R xs) ≡ first_refusal (given_checks (first_premises R xs) xs ++ forms_result (boundary_instance R xs))
after_count R xs h = ap (λ b. cond b (first_refusal (first_argument_checks R xs ++ forms_result (boundary_instance R xs))) (Some (reference.ArgumentCount (length xs) (length R.premises)))) h

-- arguments that do not fit
pub next_misfit : (ts : List Expression) (items : List Item) (r : ℕ) (ms : List ℕ) (p : ℕ) (js : List ℕ) (f : Fault) → IsRuleOf items r ms p → length js ≤ length ms
    → Stops ts (given_checks (premises_in items (take (length js) ms)) (statements_of items js)) f
    → Stops ts (instance_checks (rule_of items r) (statements_of items js)) f
next_misfit ts items r ms p js (Refused q) R l h =
    let k : Refuses ts (given_checks (first_premises (rule_of items r) (statements_of items js)) (statements_of items js) ++ forms_result (boundary_instance (rule_of items r) (statements_of items js))) q =
    refused_first ts (given_checks (first_premises (rule_of items r) (statements_of items js)) (statements_of items js)) (forms_result (boundary_instance (rule_of items r) (statements_of items js))) q
    (subst (λ ps. Refuses ts (given_checks ps (statements_of items js)) q) (sym (first_is items r ms p js R)) h) in
    (after_count (rule_of items r) (statements_of items js) (counted items r ms p js R l) ∙ k.0, k.1)
next_misfit ts items r ms p js Memory R l h = tt

-- the boundary after the arguments, at their instance
none_left : {A : Type 0} (n : ℕ) (xs : List A) → drop n xs ≡ [] → take n xs ≡ xs
none_left zero xs e = sym e
none_left (suc n) [] e = refl
none_left (suc n) (x ∷ xs) e = ap (λ ys. x ∷ ys) (none_left n xs e)

pub next_is : (R : Rule) (xs : List Statement) (a : Arguments) → act_statement free (instance_of (first_premises R xs) a) (boundary_after R (length xs)) ≡ next_boundary R (first_premises R xs) a (later_premises R xs)
next_is R xs a = go (later_premises R xs) refl
  where
    go : (qs : List (ℕ × Statement)) → later_premises R xs ≡ qs → act_statement free (instance_of (first_premises R xs) a) (next_of R qs) ≡ next_boundary R (first_premises R xs) a qs
    go [] e = ap (λ ps. act_statement free (instance_of ps a) (plain R.conclusion)) (none_left (length xs) R.premises e)
    go (q ∷ qs) e = refl

-- the row
row_is : (items : List Item) (r : ℕ) (ms : List ℕ) (p : ℕ) (js : List ℕ) → IsRuleOf items r ms p → Theses (statements_of items js) → length js ≤ length ms
    → first_refusal (given_checks (premises_in items (take (length js) ms)) (statements_of items js)) ≡ None
    → boundary_instance (rule_of items r) (statements_of items js) ≡ Some (act_statement free (instance_of (premises_in items (take (length js) ms)) (heads (statements_of items js))) (boundary_after (rule_of items r) (length js)))
row_is items r ms p js R t l h =
    ap (λ b. when b (next_boundary (rule_of items r) P (heads xs) (later_premises (rule_of items r) xs)))
    (given_fit P xs t long (subst (λ ps. first_refusal (given_checks ps xs) ≡ None) (sym first) h))
    ∙ ap Some
    (sym (next_is (rule_of items r) xs (heads xs))
    ∙ ap₂ (λ ps n. act_statement free (instance_of ps (heads xs)) (boundary_after (rule_of items r) n)) first (as_many items js))
  where
    xs : List Statement
    xs = statements_of items js

    P : List (ℕ × Statement)
    P = first_premises (rule_of items r) xs

    first : P ≡ premises_in items (take (length js) ms)
    first = first_is items r ms p js R

    long : length xs ≡ length P
    long = as_many items js ∙ sym (ap length first ∙ premises_count items (take (length js) ms) ∙ length_taken (length js) ms l)

-- the next boundary that is formed, seen from the first state
formed_there : (s t : State) (r : ℕ) (ms js : List ℕ) (ps : List (ℕ × Arg)) (b : Boundary) → t.items ≡ s.items → instance_in t.trees ps ≡ instance_of (premises_in s.items (take (length js) ms)) (heads (statements_of s.items js))
    → boundary_in t.trees b ≡ boundary_after (rule_of t.items r) (length js)
    → boundary_at t.trees ps (boundary_in t.trees b) ≡ act_statement free (instance_of (premises_in s.items (take (length js) ms)) (heads (statements_of s.items js))) (boundary_after (rule_of s.items r) (length js))
formed_there s t r ms js ps b e i h = ap₂ (λ i x. act_statement free i x) i (h ∙ ap (λ items. boundary_after (rule_of items r) (length js)) e)

pub next_given : (s t u : State) (r : ℕ) (ms : List ℕ) (p : ℕ) (js : List ℕ) (ps : List (ℕ × Arg)) (b c : Boundary) → IsRuleOf s.items r ms p → AreThesesOf s js → length js ≤ length ms → t.items ≡ s.items
    → first_refusal (given_checks (premises_in s.items (take (length js) ms)) (statements_of s.items js)) ≡ None
    → instance_in t.trees ps ≡ instance_of (premises_in s.items (take (length js) ms)) (heads (statements_of s.items js))
    → boundary_in t.trees b ≡ boundary_after (rule_of t.items r) (length js)
    → boundary_in u.trees c ≡ boundary_at t.trees ps (boundary_in t.trees b) → AllSmall (expressions (boundary_at t.trees ps (boundary_in t.trees b)))
    → Formed (boundary_in u.trees) u.trees (instance_checks (rule_of s.items r) (statements_of s.items js)) (boundary_instance (rule_of s.items r) (statements_of s.items js)) (Ok c)
next_given s t u r ms p js ps b c R a l e h i n q small =
    let xs : List Statement = statements_of s.items js in
    let there : boundary_at t.trees ps (boundary_in t.trees b) ≡ act_statement free (instance_of (premises_in s.items (take (length js) ms)) (heads xs)) (boundary_after (rule_of s.items r) (length js)) = formed_there s t r ms js ps b e i n in
    let row : boundary_instance (rule_of s.items r) xs ≡ Some (boundary_in u.trees c) = row_is s.items r ms p js R (theses_are s js a) l h ∙ ap Some (sym there ∙ sym q) in
    let g : Gives (given_checks (first_premises (rule_of s.items r) xs) xs ++ forms_result (boundary_instance (rule_of s.items r) xs)) (boundary_instance (rule_of s.items r) xs) (boundary_in u.trees c) =
    formed_ok (given_checks (first_premises (rule_of s.items r) xs) xs) (boundary_instance (rule_of s.items r) xs) (boundary_in u.trees c)
    (subst (λ ps. first_refusal (given_checks ps xs) ≡ None) (sym (first_is s.items r ms p js R)) h) row (subst (λ x. AllSmall (expressions x)) (sym q) small) in
    (after_count (rule_of s.items r) xs (counted s.items r ms p js R l) ∙ g.0, g.1)

pub next_big : (s t u : State) (r : ℕ) (ms : List ℕ) (p : ℕ) (js : List ℕ) (ps : List (ℕ × Arg)) (b : Boundary) (f : SynFault) → IsRuleOf s.items r ms p → AreThesesOf s js → length js ≤ length ms → t.items ≡ s.items
    → first_refusal (given_checks (premises_in s.items (take (length js) ms)) (statements_of s.items js)) ≡ None
    → instance_in t.trees ps ≡ instance_of (premises_in s.items (take (length js) ms)) (heads (statements_of s.items js))
    → boundary_in t.trees b ≡ boundary_after (rule_of t.items r) (length js)
    → BigOr (AllSmall (expressions (boundary_at t.trees ps (boundary_in t.trees b)))) f
    → Stops u.trees (instance_checks (rule_of s.items r) (statements_of s.items js)) (faults.refused f)
next_big s t u r ms p js ps b f R a l e h i n small = go f small
  where
    xs : List Statement
    xs = statements_of s.items js

    there : boundary_at t.trees ps (boundary_in t.trees b) ≡ act_statement free (instance_of (premises_in s.items (take (length js) ms)) (heads xs)) (boundary_after (rule_of s.items r) (length js))
    there = formed_there s t r ms js ps b e i n

    row : boundary_instance (rule_of s.items r) xs ≡ Some (boundary_at t.trees ps (boundary_in t.trees b))
    row = row_is s.items r ms p js R (theses_are s js a) l h ∙ ap Some (sym there)

    go : (f : SynFault) → BigOr (AllSmall (expressions (boundary_at t.trees ps (boundary_in t.trees b)))) f
        → Stops u.trees (instance_checks (rule_of s.items r) xs) (faults.refused f)
    go Rattle.ft_syntax.specs.declared.syntax.SynFault.TheVariants.TooBig small = (
      after_count (rule_of s.items r) xs (counted s.items r ms p js R l)
          ∙ both_pass (given_checks (first_premises (rule_of s.items r) xs) xs) (forms_result (boundary_instance (rule_of s.items r) xs)) (subst (λ ps. first_refusal (given_checks ps xs) ≡ None) (sym (first_is s.items r ms p js R)) h)
          ∙ ap (λ o. first_refusal (forms_result o)) row
          ∙ forms_fail (expressions (boundary_at t.trees ps (boundary_in t.trees b))) small,
      tt,
    )
    go Rattle.ft_syntax.specs.declared.syntax.SynFault.TheVariants.Memory small = tt

-- The call.
pub inst_resolved : (s : State) (r : ℕ) (js : List ℕ) → Good s.items → r < length (rules_in s.items) → AreThesesOf s js → resolve (store s) (by_inst r js) ≡ Some (by_inst (r, rule_of s.items r) (entries_of s.items js))
inst_resolved s r js g l a = ap₂ (λ o os. Rattle.ft_items.specs.Store.with_two by_inst o os) (rule_resolved s.items r g l) (each_named s js a)

pub inst_kind : (s : State) (r : ℕ) (js : List ℕ) → AreThesesOf s js → of_kind (by_inst (r, rule_of s.items r) (entries_of s.items js)) ≡ true
inst_kind s r js a = ap (λ b. b && true) (theses_of s js a)
