-- What a call answers, from how it goes.
use Rattle.std.proofs.Common.{◌≡◌, sym, refl, subst, ◌<◌, ◌⊎◌, inl, inr, length}
use Rattle.ft_meaning.specs.Texts.{Text}
use Rattle.ft_meaning.specs.Sources.{too_long}
use Rattle.ft_meaning.specs.Transcript.{transcript_of}
use Rattle.ft_answers.specs.declared.wanted.Wanted.{Wanted}
use Rattle.ft_answers.specs.declared.wanted.Wanted.TheVariants.{Run, Export, Check}
use Rattle.ft_whole_answers.specs.Statuses.{too_long_line}
use Rattle.ft_whole_answers.specs.Asking.{IsAsked, limit, line_for}
use Rattle.ft_whole_answers.specs.Runs.{IsFile, built}
use Rattle.ft_whole_answers.specs.Answers.{IsText, IsCheckText}
use Rattle.ft_whole_answers.specs.Calls.{Call, Goes, Writes, ReadFails}
use Rattle.ft_whole_answers.specs.Clauses.{IsGiven}
use Rattle.ft_whole_laws.specs.Laws.{AnswersFollow}
use Rattle.ft_whole_laws.proofs.Asked.{one_job, no_job, told, breaks}

-- the text for an input that is too long
long : (job : Wanted) (bytes : Text) → limit job < length bytes → IsText job bytes (line_for job too_long_line) 5
long (Run n) bytes h = record { transcript = transcript_of built bytes n too_long; of_bytes = (too_long, h, refl); lines = refl; ending = refl }
long (Export n) bytes h = record { transcript = transcript_of built bytes n too_long; of_bytes = (too_long, h, refl); file = IsFile.of_none (λ x. x); ending = refl }
long (Check t) bytes h = IsCheckText.of_length h

-- what is to be answered
abbrev Answer : Call → Wanted → Text → Type 0
Answer c job bytes = (c.result ≡ 17) ⊎ ((text : Text) × IsText job bytes text c.result × Writes c text)

module _ (c : Call) (job : Wanted) (bytes : Text) (given : IsGiven c job bytes) (reads : ReadFails c → ⊥) (writes : c.result ≡ 4 → ⊥) where
  same : (j : Wanted) → IsAsked c.words j → j ≡ job
  same j a = one_job c.words j job a given.asked

  by_way : Goes c → Answer c job bytes
  by_way (Goes.of_usage none e) = absurd (no_job c.words job none given.asked)
  by_way (Goes.of_fault j a r e) = absurd (reads r)
  by_way (Goes.of_length j a o l (inr p)) = absurd (writes p.0)
  by_way (Goes.of_length j a o l (inl p)) =
      let h : limit j < length bytes = told (λ bs. limit j < length bs) c.input.left bytes given.told l in
      inr (line_for job too_long_line, subst (λ n. IsText job bytes (line_for job too_long_line) n) (sym p.0) (long job bytes (subst (λ j. limit j < length bytes) (same j a) h)), subst (λ j. Writes c (line_for j too_long_line)) (same j a) p.1)
  by_way (Goes.of_text j a r s i k text t w) =
      inr (text, subst (λ j. IsText j bytes text c.result) (same j a) (told (λ bs. IsText j bs text c.result) c.input.left bytes given.told t), w)
  by_way (Goes.of_break j a r m l) = broken (breaks j c.result m)
    where
      broken : (c.result ≡ 4) ⊎ (c.result ≡ 17) → Answer c job bytes
      broken (inl e) = absurd (writes e)
      broken (inr e) = inl e
  by_way (Goes.of_memory k e) = inl k

pub answers : AnswersFollow
answers c g w job bytes given reads writes = by_way c job bytes given reads (λ e. writes (w e)) g
