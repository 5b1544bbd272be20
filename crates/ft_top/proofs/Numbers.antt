-- The numbers of the statuses of inputs that were read whole.
use Rattle.std.proofs.Common.{◌≡◌, refl, ℕ, ◌<◌, ◌⊎◌, inl, inr, arith}
use Rattle.ft_answers.specs.declared.words.Job.{Job}
use Rattle.ft_answers.specs.declared.words.Job.TheVariants as job
use Rattle.ft_answers.specs.declared.status.Status.{Status}
use Rattle.ft_answers.specs.declared.status.Status.TheVariants as status
use Rattle.ft_answers.specs.Statuses.{IsOfInput, number_of}

-- the number is that of no error
pub record Excludes (n : ℕ) : Type 0 where
  pub usage : n ≡ 2 → ⊥
  pub read : n ≡ 3 → ⊥
  pub write : n ≡ 4 → ⊥
  pub long : n ≡ 5 → ⊥
  pub memory : n ≡ 17 → ⊥

no_error : (n : ℕ) → (n < 2) ⊎ ((5 < n) × (n < 17)) → Excludes n
no_error n (inl h) = record {
  usage = λ e. absurd (omega (arith, e, h));
  read = λ e. absurd (omega (arith, e, h));
  write = λ e. absurd (omega (arith, e, h));
  long = λ e. absurd (omega (arith, e, h));
  memory = λ e. absurd (omega (arith, e, h));
}
no_error n (inr h) = record {
  usage = λ e. absurd (omega (arith, e, h.0, h.1));
  read = λ e. absurd (omega (arith, e, h.0, h.1));
  write = λ e. absurd (omega (arith, e, h.0, h.1));
  long = λ e. absurd (omega (arith, e, h.0, h.1));
  memory = λ e. absurd (omega (arith, e, h.0, h.1));
}

pub excluded : (j : Job) (s : Status) → IsOfInput j s → Excludes (number_of s)
excluded j status.Done h = no_error 0 (inl (omega arith))
excluded j status.Syntax h = no_error 7 (inr (omega arith, omega arith))
excluded j status.Rule h = no_error 9 (inr (omega arith, omega arith))
excluded j status.Rejected h = no_error 15 (inr (omega arith, omega arith))
excluded j status.File h = no_error 16 (inr (omega arith, omega arith))
excluded job.Run _ h = absurd h
excluded job.Export _ h = absurd h
excluded job.Check _ h = absurd h

-- a file is rejected, or at fault, by `check` alone
pub of_file : (j : Job) (s : Status) → IsOfInput j s → (number_of s ≡ 15) ⊎ (number_of s ≡ 16) → j ≡ job.Check
of_file job.Check s h k = refl
of_file _ status.Done h (inl k) = absurd (omega (arith, k))
of_file _ status.Done h (inr k) = absurd (omega (arith, k))
of_file _ status.Syntax h (inl k) = absurd (omega (arith, k))
of_file _ status.Syntax h (inr k) = absurd (omega (arith, k))
of_file _ status.Rule h (inl k) = absurd (omega (arith, k))
of_file _ status.Rule h (inr k) = absurd (omega (arith, k))
of_file job.Run _ h k = absurd h
of_file job.Export _ h k = absurd h
