-- The conclusion of a rule at arguments.
use Rattle.std.proofs.Common.{◌≡◌, ◌≢◌, ◌∙◌, ◌⊎◌, inl, inr, not, ℕ, ◌<◌, true, false, cond, nat_eq, ◌&&◌, Some, None, List, [], ◌∷◌, ◌++◌, length, refl, sym, ap, ap₂, subst}
use Rattle.std.specs.Prelude.{Result, Ok, Err, ⊤}
use Rattle.std.proofs.lemmas.Bool.{eq-eqb}
use Rattle.std.proofs.lemmas.Bool.Decides.{eqb_tells}
use Rattle.ft_theory.specs.Expressions.{Expression, symbol, instantiate}
use Rattle.ft_theory.specs.Statements.{Claim, is_type, has_type, equal_types, equal_terms, type_goal, term_goal, type_equation_goal, term_equation_goal, Statement, plain, map_claim, fill_goal}
use Rattle.ft_theory.specs.Rules.{Rule, instance_of, conclusion_at}
use Rattle.ft_items.specs.Item.{Item, by_rule, by_rulewith}
use Rattle.ft_items.specs.Equal.{heads, is_thesis, is_plain}
use Rattle.ft_items.specs.Store.{Assertion, resolve, rules_in, with_two, with_three, claim_in as claim_of}
use Rattle.ft_items.specs.Good.{Good, of_kind}
use Rattle.ft_items.specs.Rows.{when, are_arguments, rule_instance, rule_instance_with}
use Rattle.ft_reference.specs.Refusals.{Check, first_refusal, AllSmall, claim_expressions, forms_result, forms_statement}
use Rattle.ft_reference.specs.Refusals as reference
use Rattle.ft_reference.specs.Compare.{boundary_checks}
use Rattle.ft_reference.specs.Checks.{all_argument_checks, rule_checks, rule_with_checks}
use Rattle.ft_nucleus_laws.proofs.Lists.{passed}
use Rattle.ft_nucleus_laws.proofs.Tests.{Theses, arguments_asked, boundary_asked}
use Rattle.ft_syntax.specs.Table.{Extends, arguments_in, ArgumentsBelow}
use Rattle.ft_syntax.specs.Instances.{instance_in}
use Rattle.ft_syntax.specs.declared.syntax.Arg.{Arg}
use Rattle.ft_syntax.specs.declared.syntax.SynFault.{SynFault}
use Rattle.ft_syntax.specs.declared.syntax.SynFault.TheVariants as syntax
use Rattle.ft_judge.specs.Faults as faults
use Rattle.ft_judge.specs.Meaning.{claim_in, goal_in, under, boundary_in}
use Rattle.ft_judge.specs.declared.judgement.Boundary.{Boundary}
use Rattle.ft_judge.specs.declared.judgement.Form.{Form}
use Rattle.ft_judge.specs.declared.judgement.Goal.{Goal}
use Rattle.ft_judge.specs.declared.fault.Refusal.{Refusal}
use Rattle.ft_judge.specs.declared.fault.Refusal.TheVariants.{ArgumentCount, TooBig}
use Rattle.ft_judge.specs.declared.fault.Fault.{Fault}
use Rattle.ft_judge.specs.declared.fault.Fault.TheVariants.{Refused, Memory}
use Rattle.ft_kernel.specs.State.{State, statement_at, IsBoundaryOf}
use Rattle.ft_calls.specs.Forming.{Gives, Refuses, plain_in, plain_goal_in}
use Rattle.ft_calls.proofs.Answering.{store, entry_in}
use Rattle.ft_apply.specs.Named.{entry_of, entries_of, statements_of, premises_in, AreThesesOf, rule_of}
use Rattle.ft_apply.specs.Outcomes.{BigOr, Stops, Asks, Tests, Formed, given_checks}
use Rattle.ft_apply.specs.Instances.{goal_at, filled_at}
use Rattle.ft_apply.proofs.Naming.{entry_found, statement_found, each_named, theses_of, as_many}
use Rattle.ft_apply.proofs.RuleLines.{IsRuleOf, rule_resolved}
use Rattle.ft_apply.proofs.Asking.{both_pass, refused_first, refused_later}
use Rattle.ft_apply.proofs.Instancing.{premises_count}
use Rattle.ft_apply.proofs.Calls.{formed_ok}
use Rattle.ft_apply.proofs.Fitted.{heads_stay}
use Rattle.ft_calls.proofs.Later.{forms_pass, forms_fail}

-- Arguments for all premises.
pub all_counted : (ts : List Expression) (items : List Item) (r : ℕ) (ms : List ℕ) (p : ℕ) (js : List ℕ) → IsRuleOf items r ms p → length js ≢ length ms
    → Stops ts (all_argument_checks (rule_of items r).premises (statements_of items js)) (Refused (ArgumentCount (length js) (length ms)))
all_counted ts items r ms p js R n = (
  ap (λ b. cond b (first_refusal (given_checks ps xs)) (Some (reference.ArgumentCount (length xs) (length ps)))) (other (eqb_tells (length xs) (length ps)))
      ∙ ap₂ (λ a b. Some (reference.ArgumentCount a b)) (as_many items js) many,
  tt,
)
  where
    xs : List Statement
    xs = statements_of items js

    ps : List (ℕ × Statement)
    ps = (rule_of items r).premises

    many : length ps ≡ length ms
    many = ap length R.premises ∙ premises_count items ms

    other : ((nat_eq (length xs) (length ps) ≡ true) × (length xs ≡ length ps)) ⊎ ((nat_eq (length xs) (length ps) ≡ false) × (length xs ≢ length ps)) → nat_eq (length xs) (length ps) ≡ false
    other (inl h) = absurd (n (sym (as_many items js) ∙ h.1 ∙ many))
    other (inr h) = h.0

pub all_asked : (ts : List Expression) (items : List Item) (r : ℕ) (ms : List ℕ) (p : ℕ) (js : List ℕ) → IsRuleOf items r ms p → length js ≡ length ms
    → first_refusal (all_argument_checks (rule_of items r).premises (statements_of items js)) ≡ first_refusal (given_checks (premises_in items ms) (statements_of items js))
all_asked ts items r ms p js R e =
    ap (λ b. cond b (first_refusal (given_checks ps xs)) (Some (reference.ArgumentCount (length xs) (length ps)))) (eq-eqb (length xs) (length ps) (as_many items js ∙ e ∙ sym (ap length R.premises ∙ premises_count items ms)))
    ∙ ap (λ ps. first_refusal (given_checks ps xs)) R.premises
  where
    xs : List Statement
    xs = statements_of items js

    ps : List (ℕ × Statement)
    ps = (rule_of items r).premises

pub all_same : {A : Type 0} (ts : List Expression) (cs ds : List Check) (r : Result A Fault) → first_refusal cs ≡ first_refusal ds → Asks ts ds r → Asks ts cs r
all_same ts cs ds (Ok x) e h = e ∙ h
all_same ts cs ds (Err (Refused q)) e h = (e ∙ h.0, h.1)
all_same ts cs ds (Err Memory) e h = tt

-- arguments that pass the checks are arguments
pub all_fit : (ps : List (ℕ × Statement)) (xs : List Statement) → Theses xs → first_refusal (all_argument_checks ps xs) ≡ None → are_arguments ps xs ≡ true
all_fit ps xs t h = sym (arguments_asked (Rattle.ft_items.specs.Rows.at_arguments ps (heads xs)) ps xs t) ∙ (passed (all_argument_checks ps xs) h).0

-- the goal that a rule concludes, as it is read
under_claim : (ts : List Expression) (ds : List ℕ) (c : Claim) → is_plain (under ts ds (plain c)) ≡ true → claim_of (under ts ds (plain c)) ≡ c
under_claim ts [] c h = refl
under_claim ts (d ∷ ds) c h = let no : ⊥ = cc in absurd no

pub conclusion_read : (s : State) (r : ℕ) (ms : List ℕ) (p : ℕ) (b : Boundary) → IsRuleOf s.items r ms p → statement_at s p ≡ Some (boundary_in s.trees b) → goal_in s.trees b.goal ≡ (rule_of s.items r).conclusion
conclusion_read s r ms p b R h =
    sym (under_claim s.trees b.domains (goal_in s.trees b.goal) (ap is_plain (sym (statement_found s p (boundary_in s.trees b) h)) ∙ R.plain))
    ∙ ap claim_of (sym (statement_found s p (boundary_in s.trees b) h))
    ∙ sym R.conclusion

-- The conclusion that is formed.
pub conclusion_there : (s t : State) (r : ℕ) (ps : List (ℕ × Arg)) (xs : List Statement) → t.items ≡ s.items → instance_in t.trees ps ≡ instance_of (rule_of s.items r).premises (heads xs)
    → goal_at t.trees ps (rule_of t.items r).conclusion ≡ conclusion_at (rule_of s.items r) (heads xs)
conclusion_there s t r ps xs e i = ap₂ (λ i items. map_claim (instantiate i) (rule_of items r).conclusion) i e

-- a goal is small where what fills it is
pub fill_small : (c : Claim) (e : Expression) → AllSmall (claim_expressions (fill_goal c e)) → AllSmall (claim_expressions c)
fill_small (is_type A) e h = h
fill_small (has_type t A) e h = h
fill_small (equal_types A B) e h = h
fill_small (equal_terms s t A) e h = h
fill_small type_goal e h = tt
fill_small (term_goal A) e h = h.1
fill_small (type_equation_goal A B) e h = h
fill_small (term_equation_goal s t A) e h = h

-- what is formed of a rule at arguments
abbrev pub concluded : Rule → ℕ → List Statement → Claim
concluded R r xs = fill_goal (conclusion_at R (heads xs)) (symbol r (heads xs))

pub concluded_small : (s t : State) (r : ℕ) (ps : List (ℕ × Arg)) (xs : List Statement) → t.items ≡ s.items → instance_in t.trees ps ≡ instance_of (rule_of s.items r).premises (heads xs)
    → AllSmall (claim_expressions (concluded (rule_of s.items r) r xs)) → AllSmall (claim_expressions (goal_at t.trees ps (rule_of t.items r).conclusion))
concluded_small s t r ps xs e i h =
    subst (λ c. AllSmall (claim_expressions c)) (sym (conclusion_there s t r ps xs e i)) (fill_small (conclusion_at (rule_of s.items r) (heads xs)) (symbol r (heads xs)) h)

pub filled_there : (s t u : State) (r : ℕ) (ps : List (ℕ × Arg)) (hs : List Arg) (g : Goal) (xs : List Statement) → t.items ≡ s.items → Extends t.trees u.trees
    → instance_in t.trees ps ≡ instance_of (rule_of s.items r).premises (heads xs) → arguments_in t.trees hs ≡ heads xs → ArgumentsBelow (length t.trees) hs
    → goal_in u.trees g ≡ goal_at t.trees ps (rule_of t.items r).conclusion → filled_at u.trees g r hs ≡ concluded (rule_of s.items r) r xs
filled_there s t u r ps hs g xs e x i a b q =
    ap₂ (λ c as'. fill_goal c (symbol r as')) (q ∙ conclusion_there s t r ps xs e i) (heads_stay t.trees u.trees hs x b ∙ a)

-- The rule at arguments.
pub rule_misfit : (ts : List Expression) (r : ℕ) (R : Rule) (xs : List Statement) (f : Fault) → Stops ts (all_argument_checks R.premises xs) f → Stops ts (rule_checks r R xs) f
rule_misfit ts r R xs (Refused q) h = refused_first ts (all_argument_checks R.premises xs) (forms_result (rule_instance r R xs)) q h
rule_misfit ts r R xs Memory h = tt

pub rule_row : (r : ℕ) (R : Rule) (xs : List Statement) → Theses xs → first_refusal (all_argument_checks R.premises xs) ≡ None → rule_instance r R xs ≡ Some (plain (concluded R r xs))
rule_row r R xs t h = ap (λ b. when b (plain (concluded R r xs))) (all_fit R.premises xs t h)

pub rule_big : (ts : List Expression) (r : ℕ) (R : Rule) (xs : List Statement) (P : Type 0) (f : SynFault) → Theses xs → first_refusal (all_argument_checks R.premises xs) ≡ None
    → (AllSmall (claim_expressions (concluded R r xs)) → P) → BigOr P f → Stops ts (rule_checks r R xs) (faults.refused f)
rule_big ts r R xs P syntax.TooBig t h k n = (
  both_pass (all_argument_checks R.premises xs) (forms_result (rule_instance r R xs)) h
      ∙ ap (λ o. first_refusal (forms_result o)) (rule_row r R xs t h)
      ∙ forms_fail (claim_expressions (concluded R r xs)) (λ s. n (k s)),
  tt,
)
rule_big ts r R xs P syntax.Memory t h k n = tt

pub rule_formed : (ts : List Expression) (r : ℕ) (R : Rule) (xs : List Statement) (f : Form) → Theses xs → first_refusal (all_argument_checks R.premises xs) ≡ None → claim_in ts f ≡ concluded R r xs
    → AllSmall (claim_expressions (concluded R r xs)) → Formed (plain_in ts) ts (rule_checks r R xs) (rule_instance r R xs) (Ok f)
rule_formed ts r R xs f t h e s =
    formed_ok (all_argument_checks R.premises xs) (rule_instance r R xs) (plain_in ts f) h (rule_row r R xs t h ∙ ap (λ c. Some (plain c)) (sym e)) (subst (λ c. AllSmall (claim_expressions c)) (sym e) s)

pub rule_step : (s : State) (r : ℕ) (js : List ℕ) → Good s.items → r < length (rules_in s.items) → AreThesesOf s js → resolve (store s) (by_rule r js) ≡ Some (by_rule (r, rule_of s.items r) (entries_of s.items js))
rule_step s r js g l a = ap₂ (λ o os. with_two by_rule o os) (rule_resolved s.items r g l) (each_named s js a)

pub rule_kind : (s : State) (r : ℕ) (js : List ℕ) → AreThesesOf s js → of_kind (by_rule (r, rule_of s.items r) (entries_of s.items js)) ≡ true
rule_kind s r js a = ap (λ b. b && true) (theses_of s js a)

-- The rule at arguments with the boundary of its conclusion.
abbrev with_later : ℕ → Rule → Statement → List Statement → List Check
with_later r R b xs = boundary_checks b (plain (conclusion_at R (heads xs))) ++ forms_result (rule_instance_with r R b xs)

pub with_misfit : (ts : List Expression) (r : ℕ) (R : Rule) (b : Statement) (xs : List Statement) (f : Fault) → Stops ts (all_argument_checks R.premises xs) f
    → Stops ts (rule_with_checks r R b xs) f
with_misfit ts r R b xs (Refused q) h = refused_first ts (all_argument_checks R.premises xs) (forms_statement (plain (conclusion_at R (heads xs))) ++ with_later r R b xs) q h
with_misfit ts r R b xs Memory h = tt

pub with_big : (ts : List Expression) (r : ℕ) (R : Rule) (b : Statement) (xs : List Statement) (f : SynFault) → first_refusal (all_argument_checks R.premises xs) ≡ None
    → BigOr (AllSmall (claim_expressions (conclusion_at R (heads xs)))) f → Stops ts (rule_with_checks r R b xs) (faults.refused f)
with_big ts r R b xs syntax.TooBig h n =
    refused_later ts (all_argument_checks R.premises xs) (forms_statement (plain (conclusion_at R (heads xs))) ++ with_later r R b xs) TooBig h
    (refused_first ts (forms_statement (plain (conclusion_at R (heads xs)))) (with_later r R b xs) TooBig (forms_fail (claim_expressions (conclusion_at R (heads xs))) n, tt))
with_big ts r R b xs syntax.Memory h n = tt

-- after the arguments and the conclusion
with_passed : (r : ℕ) (R : Rule) (b : Statement) (xs : List Statement) → first_refusal (all_argument_checks R.premises xs) ≡ None → AllSmall (claim_expressions (conclusion_at R (heads xs))) → first_refusal (rule_with_checks r R b xs) ≡ first_refusal (with_later r R b xs)
with_passed r R b xs h k =
    both_pass (all_argument_checks R.premises xs) (forms_statement (plain (conclusion_at R (heads xs))) ++ with_later r R b xs) h
    ∙ both_pass (forms_statement (plain (conclusion_at R (heads xs)))) (with_later r R b xs) (forms_pass (claim_expressions (conclusion_at R (heads xs))) k)

pub with_other : (ts : List Expression) (r : ℕ) (R : Rule) (b : Statement) (xs : List Statement) (q : Refusal) → first_refusal (all_argument_checks R.premises xs) ≡ None
    → AllSmall (claim_expressions (conclusion_at R (heads xs))) → Refuses ts (boundary_checks b (plain (conclusion_at R (heads xs)))) q → Stops ts (rule_with_checks r R b xs) (Refused q)
with_other ts r R b xs q h k n =
    let l : Refuses ts (with_later r R b xs) q = refused_first ts (boundary_checks b (plain (conclusion_at R (heads xs)))) (forms_result (rule_instance_with r R b xs)) q n in
    (with_passed r R b xs h k ∙ l.0, l.1)

with_row : (r : ℕ) (R : Rule) (b : Statement) (xs : List Statement) → Theses xs → is_thesis b ≡ false → first_refusal (all_argument_checks R.premises xs) ≡ None → first_refusal (boundary_checks b (plain (conclusion_at R (heads xs)))) ≡ None
    → rule_instance_with r R b xs ≡ Some (plain (concluded R r xs))
with_row r R b xs t k h l =
    ap₂ (λ b c. when (b && c) (plain (concluded R r xs))) (all_fit R.premises xs t h)
    (sym (boundary_asked b (plain (conclusion_at R (heads xs))) k) ∙ (passed (boundary_checks b (plain (conclusion_at R (heads xs)))) l).0)

pub with_filled_big : (ts : List Expression) (r : ℕ) (R : Rule) (b : Statement) (xs : List Statement) (f : SynFault) → Theses xs → is_thesis b ≡ false → first_refusal (all_argument_checks R.premises xs) ≡ None
    → AllSmall (claim_expressions (conclusion_at R (heads xs))) → first_refusal (boundary_checks b (plain (conclusion_at R (heads xs)))) ≡ None
    → BigOr (AllSmall (claim_expressions (concluded R r xs))) f → Stops ts (rule_with_checks r R b xs) (faults.refused f)
with_filled_big ts r R b xs syntax.TooBig t k h s l n = (
  with_passed r R b xs h s
      ∙ both_pass (boundary_checks b (plain (conclusion_at R (heads xs)))) (forms_result (rule_instance_with r R b xs)) l
      ∙ ap (λ o. first_refusal (forms_result o)) (with_row r R b xs t k h l)
      ∙ forms_fail (claim_expressions (concluded R r xs)) n,
  tt,
)
with_filled_big ts r R b xs syntax.Memory t k h s l n = tt

pub with_formed : (ts : List Expression) (r : ℕ) (R : Rule) (b : Statement) (xs : List Statement) (f : Form) → Theses xs → is_thesis b ≡ false → first_refusal (all_argument_checks R.premises xs) ≡ None
    → AllSmall (claim_expressions (conclusion_at R (heads xs))) → first_refusal (boundary_checks b (plain (conclusion_at R (heads xs)))) ≡ None → claim_in ts f ≡ concluded R r xs → AllSmall (claim_expressions (concluded R r xs))
    → Formed (plain_in ts) ts (rule_with_checks r R b xs) (rule_instance_with r R b xs) (Ok f)
with_formed ts r R b xs f t k h s l e m =
    let g : Gives (with_later r R b xs) (rule_instance_with r R b xs) (plain_in ts f) =
    formed_ok (boundary_checks b (plain (conclusion_at R (heads xs)))) (rule_instance_with r R b xs) (plain_in ts f) l (with_row r R b xs t k h l ∙ ap (λ c. Some (plain c)) (sym e)) (subst (λ c. AllSmall (claim_expressions c)) (sym e) m) in
    (with_passed r R b xs h s ∙ g.0, g.1)

pub with_step : (s : State) (r b : ℕ) (js : List ℕ) → Good s.items → r < length (rules_in s.items) → IsBoundaryOf s b → AreThesesOf s js
    → resolve (store s) (by_rulewith r b js) ≡ Some (by_rulewith (r, rule_of s.items r) (entry_of s.items b) (entries_of s.items js))
with_step s r b js g l h a =
    ap₂ (λ o os. with_three by_rulewith o (Rattle.ft_items.specs.Store.entry_named (store s) b) os) (rule_resolved s.items r g l) (each_named s js a)
    ∙ ap (λ o. with_three by_rulewith (Some (r, rule_of s.items r)) o (Some (entries_of s.items js))) (entry_in s b h.0 h.1 ∙ ap Some (sym (entry_found s b h.0 h.1)))

pub with_kind : (s : State) (r b : ℕ) (js : List ℕ) → IsBoundaryOf s b → AreThesesOf s js → of_kind (by_rulewith (r, rule_of s.items r) (entry_of s.items b) (entries_of s.items js)) ≡ true
with_kind s r b js h a =
    ap₂ (λ x y. x && (not y && true)) (theses_of s js a) (ap (λ (c : Assertion). is_thesis c.statement) (entry_found s b h.0 h.1) ∙ h.2)

pub boundary_there : (s : State) (b : ℕ) → IsBoundaryOf s b → is_thesis (entry_of s.items b).statement ≡ false
boundary_there s b h = ap (λ (c : Assertion). is_thesis c.statement) (entry_found s b h.0 h.1) ∙ h.2

-- the boundary that was compared with the conclusion, seen from the first state
pub compared : (s t u : State) (r b : ℕ) (ps : List (ℕ × Arg)) (g : Goal) (B : Boundary) (xs : List Statement) (q : Result ⊤ Refusal) → t.items ≡ s.items → u.items ≡ t.items
    → instance_in t.trees ps ≡ instance_of (rule_of s.items r).premises (heads xs) → goal_in u.trees g ≡ goal_at t.trees ps (rule_of t.items r).conclusion → statement_at u b ≡ Some (boundary_in u.trees B)
    → Tests u.trees (boundary_checks (boundary_in u.trees B) (plain_goal_in u.trees g)) q → Tests u.trees (boundary_checks (entry_of s.items b).statement (plain (conclusion_at (rule_of s.items r) (heads xs)))) q
compared s t u r b ps g B xs q e f i h k m = subst (λ cs. Tests u.trees cs q) (ap₂ boundary_checks same (ap plain (h ∙ conclusion_there s t r ps xs e i))) m
  where
    same : boundary_in u.trees B ≡ (entry_of s.items b).statement
    same = sym (statement_found u b (boundary_in u.trees B) k) ∙ ap (λ items. (entry_of items b).statement) (f ∙ e)
