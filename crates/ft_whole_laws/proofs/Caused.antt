-- The causes of statuses, from how a call goes.
use Rattle.std.proofs.Common.{◌≡◌, refl, ℕ, ◌≤◌, ◌⊎◌, inl, inr, arith}
use Rattle.ft_answers.specs.declared.wanted.Wanted.{Wanted}
use Rattle.ft_answers.specs.declared.wanted.Wanted.TheVariants.{Run, Export, Check}
use Rattle.ft_whole_answers.specs.declared.status.Status.{Status}
use Rattle.ft_whole_answers.specs.declared.status.Status.TheVariants as status
use Rattle.ft_whole_answers.specs.Statuses.{number_of, IsStatus}
use Rattle.ft_whole_answers.specs.Asking.{IsAsked, IsNoJob}
use Rattle.ft_whole_answers.specs.Answers.{IsOfRun, IsOfCheck, IsOfInput}
use Rattle.ft_whole_answers.specs.Calls.{Call, Goes, ReadFails, TakesTooMany}
use Rattle.ft_whole_laws.specs.Laws.{CausesFollow}
use Rattle.ft_whole_laws.proofs.Asked.{breaks}

-- the number of a status for an input that was read to its end
abbrev pub IsWhole : ℕ → Type 0
IsWhole n = (n ≡ 0) ⊎ ((6 ≤ n) × (n ≤ 16))

of_run : (s : Status) → IsOfRun s → IsWhole (number_of s)
of_run status.Done i = inl refl
of_run status.Usage i = absurd i
of_run status.ReadFault i = absurd i
of_run status.WriteFault i = absurd i
of_run status.TooLong i = absurd i
of_run status.NotUtf8 i = inr (omega arith, omega arith)
of_run status.Syntax i = inr (omega arith, omega arith)
of_run status.NameOrType i = inr (omega arith, omega arith)
of_run status.Rule i = inr (omega arith, omega arith)
of_run status.Unhandled i = inr (omega arith, omega arith)
of_run status.Refused i = inr (omega arith, omega arith)
of_run status.NoMatch i = inr (omega arith, omega arith)
of_run status.Spent i = inr (omega arith, omega arith)
of_run status.Shape i = absurd i
of_run status.Rejected i = absurd i
of_run status.File i = absurd i
of_run status.Memory i = absurd i

of_check : (s : Status) → IsOfCheck s → IsWhole (number_of s)
of_check status.Done i = inl refl
of_check status.Usage i = absurd i
of_check status.ReadFault i = absurd i
of_check status.WriteFault i = absurd i
of_check status.TooLong i = absurd i
of_check status.NotUtf8 i = absurd i
of_check status.Syntax i = absurd i
of_check status.NameOrType i = absurd i
of_check status.Rule i = absurd i
of_check status.Unhandled i = absurd i
of_check status.Refused i = absurd i
of_check status.NoMatch i = absurd i
of_check status.Spent i = absurd i
of_check status.Shape i = absurd i
of_check status.Rejected i = inr (omega arith, omega arith)
of_check status.File i = inr (omega arith, omega arith)
of_check status.Memory i = absurd i

pub of_input : (j : Wanted) (s : Status) → IsOfInput j s → IsWhole (number_of s)
of_input (Run b) s i = of_run s i
of_input (Export b) s i = of_run s i
of_input (Check t) s i = of_check s i

-- such a number is none of those from 1 to 5
not_whole : (n m k : ℕ) → n ≡ m → n ≡ k → IsWhole m → 1 ≤ k → k ≤ 5 → ⊥
not_whole n m k e f (inl z) p q = absurd (omega (arith, e, f, z, p, q))
not_whole n m k e f (inr w) p q = let lower : 6 ≤ m = w.0 in absurd (omega (arith, e, f, lower, q))

-- one number is not two
differ : {P : Type 0} (n m k : ℕ) → n ≡ m → n ≡ k → (m ≡ k → ⊥) → P
differ n m k e f d = absurd (d (omega (arith, e, f)))

module _ (c : Call) where
  status_by : Goes c → IsStatus c.result
  status_by (Goes.of_usage none (inl p)) = (status.Usage, p.0)
  status_by (Goes.of_usage none (inr p)) = (status.WriteFault, p.0)
  status_by (Goes.of_fault j a r (inl p)) = (status.ReadFault, p.0)
  status_by (Goes.of_fault j a r (inr p)) = (status.WriteFault, p.0)
  status_by (Goes.of_length j a o l (inl p)) = (status.TooLong, p.0)
  status_by (Goes.of_length j a o l (inr p)) = (status.WriteFault, p.0)
  status_by (Goes.of_text j a r s i k text t w) = (s, k)
  status_by (Goes.of_break j a r m l) = broken (breaks j c.result m)
    where
      broken : (c.result ≡ 4) ⊎ (c.result ≡ 17) → IsStatus c.result
      broken (inl e) = (status.WriteFault, e)
      broken (inr e) = (status.Memory, e)
  status_by (Goes.of_memory k e) = (status.Memory, k)

  -- a call that broke off has another number than this
  not_broken : {P : Type 0} (k : ℕ) → c.result ≡ k → k ≤ 5 → (k ≡ 4 → ⊥) → (c.result ≡ 4) ⊎ (c.result ≡ 17) → P
  not_broken k e q d (inl f) = absurd (d (omega (arith, e, f)))
  not_broken k e q d (inr f) = absurd (omega (arith, e, f, q))

  usage_by : c.result ≡ 2 → Goes c → IsNoJob c.words
  usage_by z (Goes.of_usage none e) = none
  usage_by z (Goes.of_fault j a r (inl p)) = differ c.result 2 3 z p.0 (λ x. absurd (omega (arith, x)))
  usage_by z (Goes.of_fault j a r (inr p)) = differ c.result 2 4 z p.0 (λ x. absurd (omega (arith, x)))
  usage_by z (Goes.of_length j a o l (inl p)) = differ c.result 2 5 z p.0 (λ x. absurd (omega (arith, x)))
  usage_by z (Goes.of_length j a o l (inr p)) = differ c.result 2 4 z p.0 (λ x. absurd (omega (arith, x)))
  usage_by z (Goes.of_text j a r s i k text t w) = absurd (not_whole c.result (number_of s) 2 k z (of_input j s i) (omega arith) (omega arith))
  usage_by z (Goes.of_break j a r m l) = not_broken 2 z (omega arith) (λ x. absurd (omega (arith, x))) (breaks j c.result m)
  usage_by z (Goes.of_memory k e) = differ c.result 2 17 z k (λ x. absurd (omega (arith, x)))

  read_by : c.result ≡ 3 → Goes c → ReadFails c
  read_by z (Goes.of_usage none (inl p)) = differ c.result 3 2 z p.0 (λ x. absurd (omega (arith, x)))
  read_by z (Goes.of_usage none (inr p)) = differ c.result 3 4 z p.0 (λ x. absurd (omega (arith, x)))
  read_by z (Goes.of_fault j a r e) = r
  read_by z (Goes.of_length j a o l (inl p)) = differ c.result 3 5 z p.0 (λ x. absurd (omega (arith, x)))
  read_by z (Goes.of_length j a o l (inr p)) = differ c.result 3 4 z p.0 (λ x. absurd (omega (arith, x)))
  read_by z (Goes.of_text j a r s i k text t w) = absurd (not_whole c.result (number_of s) 3 k z (of_input j s i) (omega arith) (omega arith))
  read_by z (Goes.of_break j a r m l) = not_broken 3 z (omega arith) (λ x. absurd (omega (arith, x))) (breaks j c.result m)
  read_by z (Goes.of_memory k e) = differ c.result 3 17 z k (λ x. absurd (omega (arith, x)))

  long_by : c.result ≡ 5 → Goes c → (job : Wanted) × IsAsked c.words job × TakesTooMany job c
  long_by z (Goes.of_usage none (inl p)) = differ c.result 5 2 z p.0 (λ x. absurd (omega (arith, x)))
  long_by z (Goes.of_usage none (inr p)) = differ c.result 5 4 z p.0 (λ x. absurd (omega (arith, x)))
  long_by z (Goes.of_fault j a r (inl p)) = differ c.result 5 3 z p.0 (λ x. absurd (omega (arith, x)))
  long_by z (Goes.of_fault j a r (inr p)) = differ c.result 5 4 z p.0 (λ x. absurd (omega (arith, x)))
  long_by z (Goes.of_length j a o l e) = (j, a, o)
  long_by z (Goes.of_text j a r s i k text t w) = absurd (not_whole c.result (number_of s) 5 k z (of_input j s i) (omega arith) (omega arith))
  long_by z (Goes.of_break j a r m l) = not_broken 5 z (omega arith) (λ x. absurd (omega (arith, x))) (breaks j c.result m)
  long_by z (Goes.of_memory k e) = differ c.result 5 17 z k (λ x. absurd (omega (arith, x)))

pub causes : CausesFollow
causes c g w = record {
  status = status_by c g;
  usage = λ z. usage_by c z g;
  read = λ z. read_by c z g;
  write = w;
  long = λ z. long_by c z g;
}
