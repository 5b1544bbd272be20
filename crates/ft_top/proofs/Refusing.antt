-- Calls whose words ask for no job.
use Rattle.std.proofs.Common.{◌≡◌, ◌∙◌, sym, ℕ, ◌⊎◌, List, Option, arith, inl, inr}
use Rattle.ft_streams.specs.Streams.{Appends}
use Rattle.ft_answers.specs.declared.status.Status.TheVariants as status
use Rattle.ft_answers.specs.Words.{IsNoJob}
use Rattle.ft_answers.specs.Statuses.{IsStatus, IsReadWhole, Ends, usage_line}
use Rattle.ft_answers.specs.Answer.{IsAnswer, IsBroken}
use Rattle.ft_top.proofs.Numbers.{excluded}
use Rattle.ft_top.proofs.Calling.{Told}

pub refused_status : (n : ℕ) (before after : Option (List ℕ)) → Ends usage_line 2 n before after → IsStatus n
refused_status n before after (inl p) = (status.Usage, p.0)
refused_status n before after (inr p) = (status.WriteFault, p.0)

-- no other number
pub no_more : (n m : ℕ) (before after : Option (List ℕ)) → Ends usage_line 2 n before after → n ≡ m → (2 ≡ m → ⊥) → (4 ≡ m → ⊥) → ⊥
no_more n m before after (inl p) k two four = two (sym p.0 ∙ k)
no_more n m before after (inr p) k two four = four (sym p.0 ∙ k)

pub not_whole : (n : ℕ) (before after : Option (List ℕ)) → Ends usage_line 2 n before after → IsReadWhole n → ⊥
not_whole n before after (inl p) (j, s, i, k) = (excluded j s i).usage (sym k ∙ p.0)
not_whole n before after (inr p) (j, s, i, k) = (excluded j s i).write (sym k ∙ p.0)

pub refused_told : (words : List (List ℕ)) (bs : List ℕ) (faults later n : ℕ) (before after : Option (List ℕ)) → IsNoJob words → Ends usage_line 2 n before after
    → (n ≡ 17) ⊎ Told words bs faults later n before after
refused_told words bs faults later n before after none (inl p) = inr (inl (usage_line, (2, (IsAnswer.of_usage none, p.0, p.1))))
refused_told words bs faults later n before after none (inr p) = inr (inr (p.0, IsBroken.of_answer usage_line 2 (IsAnswer.of_usage none) p.1))
