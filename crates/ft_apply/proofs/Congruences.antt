-- The symbol of a rule at equal arguments.
use Rattle.std.proofs.Common.{◌≡◌, ◌∙◌, ℕ, ◌<◌, Bool, true, false, cond, ◌&&◌, Option, Some, None, List, [], ◌∷◌, ◌++◌, length, refl, sym, ap, ap₂, subst}
use Rattle.std.specs.Prelude.{Ok}
use Rattle.std.proofs.lemmas.Bool.{and_parts, and_from}
use Rattle.std.proofs.lemmas.Option.{same_Some}
use Rattle.ft_common.proofs.Options.{some_none}
use Rattle.ft_common.proofs.Booleans.{false_true}
use Rattle.ft_theory.specs.Expressions.{Expression, symbol, instantiate}
use Rattle.ft_theory.specs.Statements.{Claim, is_type, has_type, equal_types, equal_terms, type_goal, term_goal, type_equation_goal, term_equation_goal, Statement, plain, map_claim, fill_goal, equate_goal}
use Rattle.ft_theory.specs.Small.{is_small}
use Rattle.ft_theory.specs.Rules.{Rule, instance_of, conclusion_at}
use Rattle.ft_items.specs.Equal.{is_thesis, is_object_goal, heads, right_heads, start_all}
use Rattle.ft_items.specs.Item.{by_cong}
use Rattle.ft_items.specs.Store.{Assertion, claim_in as claim_of, each, entry_named, resolve, rules_in, with_three}
use Rattle.ft_items.specs.Good.{all_theses, Good, of_kind}
use Rattle.ft_items.specs.Rows.{when, are_arguments, rule_instance, congruence_of}
use Rattle.ft_items.proofs.Smallness.{true_small}
use Rattle.ft_reference.specs.Refusals.{Check, first_refusal, AllSmall, claim_expressions, forms_all, forms_result}
use Rattle.ft_reference.specs.Refusals as reference
use Rattle.ft_reference.specs.Declare.{first_of}
use Rattle.ft_reference.specs.Checks.{all_argument_checks, all_equation_checks, rule_checks, congruence_checks}
use Rattle.ft_nucleus_laws.proofs.Lists.{passed, first_append}
use Rattle.ft_nucleus_laws.proofs.Tests.{Theses, equations_asked}
use Rattle.ft_syntax.specs.Table.{arguments_in}
use Rattle.ft_syntax.specs.declared.syntax.Arg.{Arg}
use Rattle.ft_syntax.specs.declared.syntax.SynFault.{SynFault}
use Rattle.ft_syntax.specs.declared.syntax.SynFault.TheVariants as syntax
use Rattle.ft_judge.specs.Faults as faults
use Rattle.ft_judge.specs.Meaning.{claim_in, goal_in, boundary_in}
use Rattle.ft_judge.specs.declared.judgement.Boundary.{Boundary}
use Rattle.ft_judge.specs.declared.judgement.Form.{Form}
use Rattle.ft_judge.specs.declared.fault.Refusal.TheVariants.{WrongForm}
use Rattle.ft_judge.specs.declared.fault.Fault.{Fault}
use Rattle.ft_judge.specs.declared.fault.Fault.TheVariants.{Refused, Memory}
use Rattle.ft_kernel.specs.State.{State, statement_at}
use Rattle.ft_calls.specs.Forming.{Gives, Refuses, plain_in}
use Rattle.ft_calls.proofs.Answering.{store}
use Rattle.ft_calls.proofs.Later.{forms_fail}
use Rattle.ft_apply.specs.Named.{entries_of, statements_of, AreThesesOf, rule_of}
use Rattle.ft_apply.specs.Outcomes.{BigOr, Stops, Formed}
use Rattle.ft_apply.specs.Instances.{equal_to, equated_at}
use Rattle.ft_apply.proofs.Naming.{each_named, theses_of}
use Rattle.ft_apply.proofs.RuleLines.{IsRuleOf, rule_resolved}
use Rattle.ft_apply.proofs.Asking.{both_pass, refused_first, refused_later}
use Rattle.ft_apply.proofs.Calls.{formed_ok}
use Rattle.ft_apply.proofs.Concluded.{all_fit, conclusion_read, concluded, rule_row}

-- a test that is passed
pub test_passes : (b : Bool) (o : Option reference.Refusal) (r : reference.Refusal) → cond b o (Some r) ≡ None → (b ≡ true) × (o ≡ None)
test_passes true o r h = (refl, h)
test_passes false o r h = some_none h

-- two lists of checks that pass
pub parts_pass : (cs ds : List Check) → first_refusal (cs ++ ds) ≡ None → (first_refusal cs ≡ None) × (first_refusal ds ≡ None)
parts_pass cs ds h = go (first_refusal cs) refl (sym (first_append cs ds) ∙ h)
  where
    go : (o : Option reference.Refusal) → first_refusal cs ≡ o → first_of o (first_refusal ds) ≡ None → (first_refusal cs ≡ None) × (first_refusal ds ≡ None)
    go None e k = (e, k)
    go (Some r) e k = some_none k

-- what was formed is small
pub forms_small : (es : List Expression) → first_refusal (forms_all es) ≡ None → AllSmall es
forms_small [] h = tt
forms_small (e ∷ es) h =
    let p : (is_small e ≡ true) × (first_refusal (forms_all es) ≡ None) = test_passes (is_small e) (first_refusal (forms_all es)) reference.TooBig h in
    (true_small e p.0, forms_small es p.1)

-- theses, and theses after them
pub theses_after : (xs ys : List Assertion) → all_theses xs ≡ true → all_theses ys ≡ true → all_theses (xs ++ ys) ≡ true
theses_after [] ys h k = k
theses_after (x ∷ xs) ys h k =
    let p : (is_thesis x.statement ≡ true) × (all_theses xs ≡ true) = and_parts (is_thesis x.statement) (all_theses xs) h in
    and_from (is_thesis x.statement) (all_theses (xs ++ ys)) p.0 (theses_after xs ys p.1 k)

-- What the rule at the arguments gives.
pub claim_given : (ts : List Expression) (r : ℕ) (R : Rule) (xs : List Statement) (f : Form) → Theses xs → Gives (rule_checks r R xs) (rule_instance r R xs) (plain_in ts f) → claim_in ts f ≡ concluded R r xs
claim_given ts r R xs f t g =
    ap claim_of (same_Some (plain_in ts f) (plain (concluded R r xs)) (sym g.1 ∙ rule_row r R xs t (parts_pass (all_argument_checks R.premises xs) (forms_result (rule_instance r R xs)) g.0).0))

pub claim_small : (ts : List Expression) (r : ℕ) (R : Rule) (xs : List Statement) (f : Form) → Gives (rule_checks r R xs) (rule_instance r R xs) (plain_in ts f) → AllSmall (claim_expressions (claim_in ts f))
claim_small ts r R xs f g =
    forms_small (claim_expressions (claim_in ts f))
    (ap (λ o. first_refusal (forms_result o)) (sym g.1) ∙ (parts_pass (all_argument_checks R.premises xs) (forms_result (rule_instance r R xs)) g.0).1)

-- The equation that is formed.
abbrev pub equated_claim : Rule → ℕ → List Statement → List Statement → Claim
equated_claim R r xs es = equate_goal (conclusion_at R (heads xs)) (symbol r (heads xs)) (symbol r (right_heads xs es))

equal_is : (c : Claim) (e f : Expression) → is_object_goal c ≡ true → equal_to (fill_goal c e) f ≡ equate_goal c e f
equal_is type_goal e f h = refl
equal_is (term_goal A) e f h = refl
equal_is (is_type A) e f h = false_true h
equal_is (has_type t A) e f h = false_true h
equal_is (equal_types A B) e f h = false_true h
equal_is (equal_terms s t A) e f h = false_true h
equal_is (type_equation_goal A B) e f h = false_true h
equal_is (term_equation_goal s t A) e f h = false_true h

pub object_at : (f : Expression → Expression) (c : Claim) → is_object_goal (map_claim f c) ≡ is_object_goal c
object_at f (is_type A) = refl
object_at f (has_type t A) = refl
object_at f (equal_types A B) = refl
object_at f (equal_terms s t A) = refl
object_at f type_goal = refl
object_at f (term_goal A) = refl
object_at f (type_equation_goal A B) = refl
object_at f (term_equation_goal s t A) = refl

pub equated_there : (s t : State) (r : ℕ) (js ks : List ℕ) (f : Form) (rs : List Arg) → t.items ≡ s.items → is_object_goal (rule_of s.items r).conclusion ≡ true → Theses (statements_of s.items js)
    → Gives (rule_checks r (rule_of s.items r) (statements_of s.items js)) (rule_instance r (rule_of s.items r) (statements_of s.items js)) (plain_in t.trees f)
    → arguments_in t.trees rs ≡ right_heads (statements_of t.items js) (statements_of t.items ks)
    → equated_at t.trees f r rs ≡ equated_claim (rule_of s.items r) r (statements_of s.items js) (statements_of s.items ks)
equated_there s t r js ks f rs e o h g a =
    ap₂ (λ c as'. equal_to c (symbol r as')) (claim_given t.trees r R xs f h g) (a ∙ ap (λ items. right_heads (statements_of items js) (statements_of items ks)) e)
    ∙ equal_is (conclusion_at R (heads xs)) (symbol r (heads xs)) (symbol r (right_heads xs es)) (object_at (instantiate (instance_of R.premises (heads xs))) R.conclusion ∙ o)
  where
    R : Rule
    R = rule_of s.items r

    xs : List Statement
    xs = statements_of s.items js

    es : List Statement
    es = statements_of s.items ks

-- The row.
pub starts_all : (xs es : List Statement) → first_refusal (all_equation_checks xs es) ≡ None → start_all xs es ≡ true
starts_all xs es h = sym (equations_asked xs es) ∙ (passed (all_equation_checks xs es) h).0

congruence_row : (r : ℕ) (R : Rule) (xs es : List Statement) → is_object_goal R.conclusion ≡ true → Theses xs → first_refusal (rule_checks r R xs) ≡ None → first_refusal (all_equation_checks xs es) ≡ None
    → congruence_of r R xs es ≡ Some (plain (equated_claim R r xs es))
congruence_row r R xs es o t h k =
    ap (λ b. when b (plain (equated_claim R r xs es)))
    (and_from (is_object_goal R.conclusion && are_arguments R.premises xs) (start_all xs es)
    (and_from (is_object_goal R.conclusion) (are_arguments R.premises xs) o (all_fit R.premises xs t (parts_pass (all_argument_checks R.premises xs) (forms_result (rule_instance r R xs)) h).0))
    (starts_all xs es k))

-- The checks, in order.
abbrev after_rule : ℕ → Rule → List Statement → List Statement → List Check
after_rule r R xs es = all_equation_checks xs es ++ forms_result (congruence_of r R xs es)

pub congruence_wrong : (ts : List Expression) (r : ℕ) (R : Rule) (xs es : List Statement) → is_object_goal R.conclusion ≡ false → Stops ts (congruence_checks r R xs es) (Refused WrongForm)
congruence_wrong ts r R xs es o = (ap (λ b. cond b (first_refusal (rule_checks r R xs ++ after_rule r R xs es)) (Some reference.WrongForm)) o, tt)

of_object : (r : ℕ) (R : Rule) (xs es : List Statement) → is_object_goal R.conclusion ≡ true → first_refusal (congruence_checks r R xs es) ≡ first_refusal (rule_checks r R xs ++ after_rule r R xs es)
of_object r R xs es o = ap (λ b. cond b (first_refusal (rule_checks r R xs ++ after_rule r R xs es)) (Some reference.WrongForm)) o

pub congruence_misfit : (ts : List Expression) (r : ℕ) (R : Rule) (xs es : List Statement) (f : Fault) → is_object_goal R.conclusion ≡ true → Stops ts (rule_checks r R xs) f → Stops ts (congruence_checks r R xs es) f
congruence_misfit ts r R xs es (Refused q) o h =
    let k : Refuses ts (rule_checks r R xs ++ after_rule r R xs es) q = refused_first ts (rule_checks r R xs) (after_rule r R xs es) q h in
    (of_object r R xs es o ∙ k.0, k.1)
congruence_misfit ts r R xs es Memory o h = tt

pub congruence_misstart : (ts : List Expression) (r : ℕ) (R : Rule) (xs es : List Statement) (f : Fault) → is_object_goal R.conclusion ≡ true → first_refusal (rule_checks r R xs) ≡ None → Stops ts (all_equation_checks xs es) f
    → Stops ts (congruence_checks r R xs es) f
congruence_misstart ts r R xs es (Refused q) o h k =
    let l : Refuses ts (rule_checks r R xs ++ after_rule r R xs es) q =
    refused_later ts (rule_checks r R xs) (after_rule r R xs es) q h (refused_first ts (all_equation_checks xs es) (forms_result (congruence_of r R xs es)) q k) in
    (of_object r R xs es o ∙ l.0, l.1)
congruence_misstart ts r R xs es Memory o h k = tt

pub congruence_big : (ts : List Expression) (r : ℕ) (R : Rule) (xs es : List Statement) (f : SynFault) → is_object_goal R.conclusion ≡ true → Theses xs → first_refusal (rule_checks r R xs) ≡ None
    → first_refusal (all_equation_checks xs es) ≡ None → BigOr (AllSmall (claim_expressions (equated_claim R r xs es))) f → Stops ts (congruence_checks r R xs es) (faults.refused f)
congruence_big ts r R xs es syntax.TooBig o t h k n = (
  of_object r R xs es o
      ∙ both_pass (rule_checks r R xs) (after_rule r R xs es) h
      ∙ both_pass (all_equation_checks xs es) (forms_result (congruence_of r R xs es)) k
      ∙ ap (λ x. first_refusal (forms_result x)) (congruence_row r R xs es o t h k)
      ∙ forms_fail (claim_expressions (equated_claim R r xs es)) n,
  tt,
)
congruence_big ts r R xs es syntax.Memory o t h k n = tt

pub congruence_formed : (ts : List Expression) (r : ℕ) (R : Rule) (xs es : List Statement) (f : Form) → is_object_goal R.conclusion ≡ true → Theses xs → first_refusal (rule_checks r R xs) ≡ None
    → first_refusal (all_equation_checks xs es) ≡ None → claim_in ts f ≡ equated_claim R r xs es → AllSmall (claim_expressions (equated_claim R r xs es))
    → Formed (plain_in ts) ts (congruence_checks r R xs es) (congruence_of r R xs es) (Ok f)
congruence_formed ts r R xs es f o t h k e s =
    let g : Gives (after_rule r R xs es) (congruence_of r R xs es) (plain_in ts f) =
    formed_ok (all_equation_checks xs es) (congruence_of r R xs es) (plain_in ts f) k (congruence_row r R xs es o t h k ∙ ap (λ c. Some (plain c)) (sym e)) (subst (λ c. AllSmall (claim_expressions c)) (sym e) s) in
    (of_object r R xs es o ∙ both_pass (rule_checks r R xs) (after_rule r R xs es) h ∙ g.0, g.1)

-- The call.
pub congruence_step : (s : State) (r : ℕ) (js ks : List ℕ) → Good s.items → r < length (rules_in s.items) → AreThesesOf s js → AreThesesOf s ks
    → resolve (store s) (by_cong r js ks) ≡ Some (by_cong (r, rule_of s.items r) (entries_of s.items js) (entries_of s.items ks))
congruence_step s r js ks g l a b =
    ap₂ (λ o os. with_three by_cong o os (each (entry_named (store s)) ks)) (rule_resolved s.items r g l) (each_named s js a)
    ∙ ap (λ os. with_three by_cong (Some (r, rule_of s.items r)) (Some (entries_of s.items js)) os) (each_named s ks b)

pub congruence_kind : (s : State) (r : ℕ) (js ks : List ℕ) → AreThesesOf s js → AreThesesOf s ks → of_kind (by_cong (r, rule_of s.items r) (entries_of s.items js) (entries_of s.items ks)) ≡ true
congruence_kind s r js ks a b = ap (λ b. b && true) (theses_after (entries_of s.items js) (entries_of s.items ks) (theses_of s js a) (theses_of s ks b))

-- that a rule has a symbol, as it is read
pub symbol_told : (s : State) (r : ℕ) (ms : List ℕ) (p : ℕ) (b : Boundary) → IsRuleOf s.items r ms p → statement_at s p ≡ Some (boundary_in s.trees b) → is_object_goal (goal_in s.trees b.goal) ≡ is_object_goal (rule_of s.items r).conclusion
symbol_told s r ms p b R h = ap is_object_goal (conclusion_read s r ms p b R h)
