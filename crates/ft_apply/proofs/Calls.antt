-- What calls of rules answer, by what their parts formed.
use Rattle.std.proofs.Common.{◌≡◌, ◌∙◌, true, Option, Some, None, List, ◌++◌, sym, ap, subst}
use Rattle.std.specs.Prelude.{Ok, Err}
use Rattle.ft_theory.specs.Statements.{Statement}
use Rattle.ft_items.specs.Sets.{Atom}
use Rattle.ft_items.specs.Item.{Stated}
use Rattle.ft_items.specs.Store.{Resolved, resolve}
use Rattle.ft_items.specs.Rows.{conclusion, result_set}
use Rattle.ft_items.specs.Good.{of_kind}
use Rattle.ft_reference.specs.Refusals.{Check, first_refusal, AllSmall, expressions, forms_result}
use Rattle.ft_reference.specs.Checks.{checks}
use Rattle.ft_judge.specs.declared.fault.Fault.{Fault}
use Rattle.ft_judge.specs.declared.fault.Fault.TheVariants.{Refused, Memory}
use Rattle.ft_kernel.specs.State.{State}
use Rattle.ft_calls.specs.Answers.{IsAnswer, Answers, Stays}
use Rattle.ft_calls.specs.Forming.{Gives}
use Rattle.ft_calls.proofs.Answering.{store, declarations, rests, answered_ok, refused}
use Rattle.ft_calls.proofs.Later.{answer_before, forms_pass}
use Rattle.ft_apply.specs.Outcomes.{Stops}
use Rattle.ft_apply.proofs.Asking.{both_pass}

-- Calls after other work on the table.

-- what is formed is answered, over the list as it was
pub formed_answered : (s t : State) (n : Stated) (r : Resolved) (x : Statement) (S : List Atom) → Stays s t → resolve (store s) n ≡ Some r → of_kind r ≡ true → Gives (checks (declarations s) r) (conclusion (declarations s) r) x → S ≡ result_set r
    → IsAnswer t n (Ok (rests x S))
formed_answered s t n r x S k e o g u =
    answer_before s t n (Ok (rests x S)) k.0 (subst (λ S. IsAnswer s n (Ok (rests x S))) (sym u) (answered_ok s n r x e o g))

-- a fault of the parts is the call's
pub formed_fault : (s t : State) (n : Stated) (r : Resolved) (f : Fault) → resolve (store s) n ≡ Some r → Stops t.trees (checks (declarations s) r) f → Stays s t → Answers s n (Err f) t
formed_fault s t n r (Refused q) e h k = refused s t n r q e h k
formed_fault s t n r Memory e h k = k

-- Checks that end with what the row forms.
pub formed_ok : (cs : List Check) (row : Option Statement) (x : Statement) → first_refusal cs ≡ None → row ≡ Some x → AllSmall (expressions x) → Gives (cs ++ forms_result row) row x
formed_ok cs row x h e k = (both_pass cs (forms_result row) h ∙ ap (λ o. first_refusal (forms_result o)) e ∙ forms_pass (expressions x) k, e)
