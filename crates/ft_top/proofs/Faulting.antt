-- What is known of the faults of streams after a call.
use Rattle.std.proofs.Common.{◌≡◌, ◌∙◌, ap, ℕ, Bool, ◌⊎◌, List, Option, inl, inr}
use Rattle.std.specs.Prelude.{Result, Ok, Err, IsErrOf}
use Rattle.ft_streams.specs.Streams.{NoFaultUnless}
use Rattle.ft_answers.specs.declared.status.Status.{Status}
use Rattle.ft_answers.specs.declared.status.Status.TheVariants as status
use Rattle.ft_answers.specs.Statuses.{Ends, IsFaulty, number_of}

-- where less is said
pub fault_weaker : (P Q : Type 0) (before after : ℕ) (failed : Bool) → (P → Q) → NoFaultUnless P before after failed → NoFaultUnless Q before after failed
fault_weaker P Q before after failed f (inl h) = inl h
fault_weaker P Q before after failed f (inr h) = inr (f h.0, h.1)

-- where a value was had
pub fault_none : {T : Type 0} (r : Result T Status) (v : T) (s : Status) (Q : Type 0) (before after : ℕ) (failed : Bool) → r ≡ Ok v
    → NoFaultUnless (IsErrOf r s) before after failed → NoFaultUnless Q before after failed
fault_none r v s Q before after failed e h = fault_weaker (IsErrOf r s) Q before after failed (λ k. cc) h

-- where the error is passed on
pub fault_passed : {T U : Type 0} (r : Result T Status) (q : Result U Status) (s : Status) (e : Status) (before after : ℕ) (failed : Bool) → r ≡ Err e → q ≡ Err e
    → NoFaultUnless (IsErrOf r s) before after failed → NoFaultUnless (IsErrOf q s) before after failed
fault_passed r q s e before after failed h k n = fault_weaker (IsErrOf r s) (IsErrOf q s) before after failed (λ f. let same : e ≡ s = cc in k ∙ ap Err same) n

-- where a call that has no text of its own was ended
pub fault_ended : {T : Type 0} (r : Result T Status) (line : List ℕ) (s : Status) (n : ℕ) (old new : Option (List ℕ)) (before after : ℕ) (failed : Bool) → r ≡ Err s
    → Ends line (number_of s) n old new → NoFaultUnless (IsErrOf r status.ReadFault) before after failed → NoFaultUnless (IsFaulty n) before after failed
fault_ended r line s n old new before after failed k (inl e) h =
    fault_weaker (IsErrOf r status.ReadFault) (IsFaulty n) before after failed (λ f. let same : s ≡ status.ReadFault = cc in inl (e.0 ∙ ap number_of same)) h
fault_ended r line s n old new before after failed k (inr e) h =
    fault_weaker (IsErrOf r status.ReadFault) (IsFaulty n) before after failed (λ f. inr e.0) h
