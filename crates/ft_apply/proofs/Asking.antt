-- Checks of the parts of a call, one after the other.
use Rattle.std.proofs.Common.{◌≡◌, ◌∙◌, ℕ, suc, ◌<◌, ◌≤◌, None, List, [], ◌∷◌, ◌++◌, length, drop, get_or, refl, sym, ap, ap₂, drop_of_length-le}
use Rattle.ft_theory.specs.Expressions.{Expression, free}
use Rattle.ft_theory.specs.Statements.{Statement, act_statement}
use Rattle.ft_reference.specs.Refusals.{Check, first_refusal, AllSmall, forms_all, forms_statement}
use Rattle.ft_reference.specs.Refusals as reference
use Rattle.ft_reference.specs.Declare.{first_of}
use Rattle.ft_reference.specs.Compare.{fit_checks, argument_checks}
use Rattle.ft_nucleus_laws.proofs.Lists.{first_append}
use Rattle.ft_syntax.specs.Instances.{PairsBelow}
use Rattle.ft_syntax.specs.Laws.{instance_extends}
use Rattle.ft_syntax.specs.declared.syntax.Arg.{Arg}
use Rattle.ft_syntax.specs.declared.syntax.SynFault.{SynFault}
use Rattle.ft_syntax.specs.declared.syntax.SynFault.TheVariants as syntax
use Rattle.ft_judge.specs.Faults.{refused}
use Rattle.ft_judge.specs.declared.fault.Refusal.{Refusal}
use Rattle.ft_judge.specs.declared.fault.Fault.{Fault}
use Rattle.ft_judge.specs.declared.fault.Fault.TheVariants.{Refused, Memory}
use Rattle.ft_kernel.specs.State.{State}
use Rattle.ft_calls.specs.Answers.{Stays}
use Rattle.ft_calls.specs.Forming.{Refuses}
use Rattle.ft_apply.specs.Named.{entry_of, statements_of, boundary_of_met, premises_in}
use Rattle.ft_apply.specs.Outcomes.{BigOr, Stops, one_argument_checks}
use Rattle.ft_apply.specs.Instances.{boundary_at}
use Rattle.ft_apply.proofs.Naming.{drop_one}
use Rattle.ft_calls.proofs.Declared.{stays_same}
use Rattle.ft_calls.proofs.Later.{forms_fail}
use Rattle.ft_apply.proofs.AtInstances.{stays_then}

-- a fault of what is formed is a refusal of these checks, whatever comes after them
pub forming_refused : (ts : List Expression) (P : Type 0) (es : List Expression) (cs : List Check) (f : SynFault) → (AllSmall es → P) → BigOr P f → Stops ts (forms_all es ++ cs) (refused f)
forming_refused ts P es cs syntax.TooBig k n = (first_append (forms_all es) cs ∙ ap (λ o. first_of o (first_refusal cs)) (forms_fail es (λ s. n (k s))), tt)
forming_refused ts P es cs syntax.Memory k n = tt

-- two lists of checks
pub both_pass : (cs ds : List Check) → first_refusal cs ≡ None → first_refusal (cs ++ ds) ≡ first_refusal ds
both_pass cs ds h = first_append cs ds ∙ ap (λ o. first_of o (first_refusal ds)) h

pub refused_first : (ts : List Expression) (cs ds : List Check) (q : Refusal) → Refuses ts cs q → Refuses ts (cs ++ ds) q
refused_first ts cs ds q h = (first_append cs ds ∙ ap (λ o. first_of o (first_refusal ds)) h.0, h.1)

pub refused_later : (ts : List Expression) (cs ds : List Check) (q : Refusal) → first_refusal cs ≡ None → Refuses ts ds q → Refuses ts (cs ++ ds) q
refused_later ts cs ds q h k = (both_pass cs ds h ∙ k.0, k.1)

-- The loop over the arguments: what is left to be checked decides.
abbrev checked : State → List (ℕ × Arg) → List ℕ → List ℕ → List Check
checked s ps ms js = argument_checks (boundary_at s.trees ps) (premises_in s.items ms) (statements_of s.items js)

pub record Fitting (s t : State) (ps : List (ℕ × Arg)) (ms js : List ℕ) (n : ℕ) : Type 0 where
  pub stays : Stays s t
  pub rest : first_refusal (checked s ps ms js) ≡ first_refusal (checked s ps (drop n ms) (drop n js))

pub fitting_start : (s : State) (ps : List (ℕ × Arg)) (ms js : List ℕ) → Fitting s s ps ms js 0
fitting_start s ps ms js = record { stays = stays_same s s refl; rest = refl }

-- one argument, over the first state
abbrev one_checked : State → List (ℕ × Arg) → ℕ → ℕ → List Check
one_checked s ps m j = one_argument_checks (boundary_at s.trees ps (boundary_of_met s.items m)) (entry_of s.items j).statement

one_stays : (s t : State) (ps : List (ℕ × Arg)) (m j : ℕ) → Stays s t → PairsBelow (length s.trees) ps → one_checked t ps m j ≡ one_checked s ps m j
one_stays s t ps m j x b =
    ap₂ (λ i items. one_argument_checks (act_statement free i (boundary_of_met items m)) (entry_of items j).statement) (instance_extends s.trees t.trees ps x.1 b) x.0

split_one : (s : State) (ps : List (ℕ × Arg)) (ms js : List ℕ) (n m j : ℕ) → n < length ms → n < length js → m ≡ get_or ms n m → j ≡ get_or js n j
    → first_refusal (checked s ps (drop n ms) (drop n js)) ≡ first_of (first_refusal (one_checked s ps m j)) (first_refusal (checked s ps (drop (suc n) ms) (drop (suc n) js)))
split_one s ps ms js n m j l k e f =
    ap₂ (λ ms js. first_refusal (checked s ps ms js)) (drop_one ms n m l e) (drop_one js n j k f)
    ∙ ap first_refusal (sym (Rattle.std.proofs.Common.append_assoc (forms_statement B) (fit_checks X B) more))
    ∙ first_append (forms_statement B ++ fit_checks X B) more
  where
    B : Statement
    B = boundary_at s.trees ps (boundary_of_met s.items m)

    X : Statement
    X = (entry_of s.items j).statement

    more : List Check
    more = checked s ps (drop (suc n) ms) (drop (suc n) js)

pub fitting_more : (s t u : State) (ps : List (ℕ × Arg)) (ms js : List ℕ) (n m j : ℕ) → Fitting s t ps ms js n → PairsBelow (length s.trees) ps → n < length ms → n < length js → m ≡ get_or ms n m → j ≡ get_or js n j
    → Stays t u → first_refusal (one_argument_checks (boundary_at t.trees ps (boundary_of_met t.items m)) (entry_of t.items j).statement) ≡ None → Fitting s u ps ms js (suc n)
fitting_more s t u ps ms js n m j p b l k e f x h = record {
  stays = stays_then s t u p.stays x;
  rest =
      p.rest
      ∙ split_one s ps ms js n m j l k e f
      ∙ ap (λ o. first_of o (first_refusal (checked s ps (drop (suc n) ms) (drop (suc n) js)))) (ap first_refusal (sym (one_stays s t ps m j p.stays b)) ∙ h);
}

pub fitting_refused : (s t u : State) (ps : List (ℕ × Arg)) (ms js : List ℕ) (n m j : ℕ) (q : Refusal) → Fitting s t ps ms js n → PairsBelow (length s.trees) ps → n < length ms → n < length js → m ≡ get_or ms n m → j ≡ get_or js n j
    → Refuses u.trees (one_argument_checks (boundary_at t.trees ps (boundary_of_met t.items m)) (entry_of t.items j).statement) q → Refuses u.trees (argument_checks (boundary_at s.trees ps) (premises_in s.items ms) (statements_of s.items js)) q
fitting_refused s t u ps ms js n m j q p b l k e f h = (
  p.rest
      ∙ split_one s ps ms js n m j l k e f
      ∙ ap (λ o. first_of o (first_refusal (checked s ps (drop (suc n) ms) (drop (suc n) js)))) (ap first_refusal (sym (one_stays s t ps m j p.stays b)) ∙ h.0),
  h.1,
)

pub fitting_fault : (s t u : State) (ps : List (ℕ × Arg)) (ms js : List ℕ) (n m j : ℕ) (f : Fault) → Fitting s t ps ms js n → PairsBelow (length s.trees) ps → n < length ms → n < length js → m ≡ get_or ms n m → j ≡ get_or js n j
    → Stops u.trees (one_argument_checks (boundary_at t.trees ps (boundary_of_met t.items m)) (entry_of t.items j).statement) f → Stops u.trees (argument_checks (boundary_at s.trees ps) (premises_in s.items ms) (statements_of s.items js)) f
fitting_fault s t u ps ms js n m j (Refused q) p b l k e f h = fitting_refused s t u ps ms js n m j q p b l k e f h
fitting_fault s t u ps ms js n m j Memory p b l k e f h = tt

none_left : (i : Statement → Statement) (ps : List (ℕ × Statement)) → first_refusal (argument_checks i ps []) ≡ None
none_left i [] = refl
none_left i (p ∷ ps) = refl

pub fitting_end : (s t : State) (ps : List (ℕ × Arg)) (ms js : List ℕ) (n : ℕ) → Fitting s t ps ms js n → length js ≤ n → first_refusal (argument_checks (boundary_at s.trees ps) (premises_in s.items ms) (statements_of s.items js)) ≡ None
fitting_end s t ps ms js n p l =
    p.rest
    ∙ ap (λ js. first_refusal (checked s ps (drop n ms) js)) (drop_of_length-le js l)
    ∙ none_left (boundary_at s.trees ps) (premises_in s.items (drop n ms))
