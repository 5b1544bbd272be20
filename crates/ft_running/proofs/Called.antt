-- Calls of the nucleus on the kernel of a state.
use Rattle.std.proofs.Common.{◌≡◌, ◌∙◌, ◌≤◌, ℕ, ap, sym, refl, arith, Some, None, Ok, Err}
use Rattle.std.specs.Prelude.{Option, Result, IfSome, IfNone, IfOk}
use Rattle.ft_common.proofs.Results.{ok_ok, err_ok}
use Rattle.ft_items.specs.Item.{Name}
use Rattle.ft_items.specs.Store.{declared_by}
use Rattle.ft_items.specs.Good.{Good}
use Rattle.ft_kernel.specs.State.{State, next_number, IsVariableOf}
use Rattle.ft_meaning.specs.Names.{rule_of_name}
use Rattle.ft_meaning.specs.Values as meaning
use Rattle.ft_meaning.specs.Values.{the, halts, stuck}
use Rattle.ft_telling.specs.declared.halt.Halt.{Halt}
use Rattle.ft_calling.specs.Calling.{Told, Leaves, rule_at, ToldRule}
use Rattle.ft_calling.specs.Calling as calling
use Rattle.ft_calling.proofs.RulesCalled.{rule_known}
use Rattle.ft_running.specs.Evaluation.{Evaluation, IsEvaluation, GoesFurther, with_list, run_of}
use Rattle.ft_running.specs.Asked.{rule_in, rule_or, IsRuleOf, IsVariableIn}
use Rattle.ft_telling.proofs.Variables.{known_variable}
use Rattle.ft_base.specs.Budget.{Budget}
use Rattle.ft_values.specs.Kept.{GoesOn}
use Rattle.ft_running.proofs.Further.{list_evaluation, list_goes, further_both}

-- a call leaves a state that goes further
pub leaves_evaluation : (e : Evaluation) (t : State) → IsEvaluation e → Leaves e.list t → IsEvaluation (with_list t e)
leaves_evaluation e t is l =
    list_evaluation e t e.units is (l.goes_on.0, l.goes_on.1) (omega (arith, is.numbered, ap next_number l.variables)) is.within

pub leaves_goes : (e : Evaluation) (t : State) → Leaves e.list t → GoesFurther e (with_list t e)
leaves_goes e t l = list_goes e t e.units l.goes_on (omega arith) refl

-- what goes on from there goes on from before the call
pub leaves_further : (e f : Evaluation) (t : State) → Leaves e.list t → GoesFurther (record e { list = t }) f → GoesFurther e f
leaves_further e f t l g = further_both e (record e { list = t }) f (leaves_goes e t l) g

pub declared_further : (e f : Evaluation) (t : State) (u : Budget) → GoesOn e.list t → e.units.used ≤ u.used → u.total ≡ e.units.total
    → GoesFurther (record e { list = t; units = u }) f → GoesFurther e f
declared_further e f t u on more total g = further_both e (record e { list = t; units = u }) f (list_goes e t u on more total) g

-- a rule of a good list
pub rule_is_in : (e : Evaluation) (r : ℕ) → Good e.list.items → calling.IsRuleOf e.list r → IsRuleOf e r × (rule_in e r ≡ rule_at e.list r)
rule_is_in e r g is = let known = rule_known e.list r g is in ((is, rule_at e.list r, known), ap rule_or known)

-- the rule of a name
the_is : {A : Type 0} (o : Option A) (a : A) (s : meaning.State) → the o s ≡ (Ok a, s) → o ≡ Some a
the_is None a s h = absurd (err_ok (halts stuck) a (ap (λ (p : meaning.Outcome _). p.0) h))
the_is (Some b) a s h = ap (λ x. Some x) (ok_ok b a (ap (λ (p : meaning.Outcome _). p.0) h))

the_none : {A : Type 0} (o : Option A) (s : meaning.State) → the o s ≡ (Err (halts stuck), s) → o ≡ None
the_none None s h = refl
the_none (Some b) s h = absurd (err_ok (halts stuck) b (sym (ap (λ (p : meaning.Outcome _). p.0) h)))

pub rule_some : (e : Evaluation) (n : Name) (o : Option ℕ) → Good e.list.items → ToldRule e.list n o → IfSome o (λ r. calling.IsRuleOf e.list r)
    → IfSome o (λ r. rule_of_name (declared_by e.list.items) n ≡ Some (rule_in e r))
rule_some e n None g told is = tt
rule_some e n (Some r) g told is =
    the_is (rule_of_name (declared_by e.list.items) n) (rule_at e.list r) (run_of e) (told e.units)
    ∙ ap (λ R. Some R) (sym (rule_is_in e r g is).1)

pub rule_none : (e : Evaluation) (n : Name) (o : Option ℕ) → ToldRule e.list n o
    → IfNone o (rule_of_name (declared_by e.list.items) n ≡ None)
rule_none e n None told = the_none (rule_of_name (declared_by e.list.items) n) (run_of e) (told e.units)
rule_none e n (Some r) told = tt

pub rules_are : (e : Evaluation) (o : Option ℕ) → Good e.list.items → IfSome o (λ r. calling.IsRuleOf e.list r) → IfSome o (λ r. IsRuleOf e r)
rules_are e None g is = tt
rules_are e (Some r) g is = (rule_is_in e r g is).0

-- a variable of a good list
pub variables_are : (e : Evaluation) (o : Result ℕ Halt) → Good e.list.items → IfOk o (λ v. IsVariableOf e.list v) → IfOk o (λ v. IsVariableIn e v)
variables_are e (Ok v) g is = let k = known_variable e.list v g is in (is, k.0, k.1)
variables_are e (Err h) g is = tt
