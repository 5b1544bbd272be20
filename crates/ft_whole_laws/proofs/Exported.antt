-- What is exported is accepted, from how a call goes.
use Rattle.std.proofs.Common.{◌≡◌, ◌∙◌, refl, ap, subst, ℕ, ◌≤◌, ◌⊎◌, inl, inr, arith, List, Option, Some, None}
use Rattle.ft_base.specs.Names.{is_name_token}
use Rattle.ft_items.specs.Good.{counts}
use Rattle.ft_sound.specs.Soundness.{GoodAreAccepted}
use Rattle.ft_verdicts.specs.Verdicts.{IsVerdict, verdict_line, verdict_status}
use Rattle.ft_meaning.specs.Texts.{Text}
use Rattle.ft_meaning.specs.Events.{Event}
use Rattle.ft_meaning.specs.Stages.{first_unbuilt}
use Rattle.ft_meaning.specs.Sources.{Content, too_long, no_text, unexpected, too_nested, commands}
use Rattle.ft_meaning.specs.Transcript.{transcript_of, unless_unbuilt}
use Rattle.ft_answers.specs.declared.wanted.Wanted.TheVariants.{Export}
use Rattle.ft_whole_answers.specs.Runs.{IsFile, IsDerivationText, IsExport, IsRun, built}
use Rattle.ft_whole_answers.specs.Answers.{IsText}
use Rattle.ft_whole_answers.specs.Calls.{Call, Goes, Writes}
use Rattle.ft_whole_answers.specs.Clauses.{IsGiven, IsOfEndedRun, IsAccepted}
use Rattle.ft_whole_laws.specs.Laws.{ExportsFollow}
use Rattle.ft_whole_laws.proofs.Asked.{one_job, told, breaks}

-- the status of a run that ended is none of those from 1 to 7
early : {P : Type 0} (n m : ℕ) → IsOfEndedRun n → n ≡ m → 1 ≤ m → m ≤ 7 → P
early n m (inl z) e p q = absurd (omega (arith, z, e, p))
early n m (inr w) e p q = let lower : 8 ≤ n = w.0 in absurd (omega (arith, lower, e, q))

-- nor 17
late : {P : Type 0} (n : ℕ) → IsOfEndedRun n → n ≡ 17 → P
late n (inl z) e = absurd (omega (arith, z, e))
late n (inr w) e = let upper : n ≤ 14 = w.1 in absurd (omega (arith, upper, e))

-- where no command is run, no run ended
without : {P : Type 0} (bytes : Text) (budget n : ℕ) (content : Content) → (IsRun content → ⊥) → IsOfEndedRun n → n ≡ (transcript_of built bytes budget content).status → P
without bytes budget n too_long none w e = early n 5 w e (omega arith) (omega arith)
without bytes budget n (no_text at) none w e = early n 6 w e (omega arith) (omega arith)
without bytes budget n (unexpected at) none w e = early n 7 w e (omega arith) (omega arith)
without bytes budget n (too_nested at) none w e = early n 7 w e (omega arith) (omega arith)
without {P = P} bytes budget n (commands cs) none w e = go (first_unbuilt built cs) refl e
  where
    go : (o : Option ℕ) → first_unbuilt built cs ≡ o → n ≡ (unless_unbuilt bytes budget cs o).status → P
    go None same e = absurd (none same)
    go (Some at) same e = early n 7 w e (omega arith) (omega arith)

-- the text of a derivation is accepted
accepted : GoodAreAccepted → (text : Text) (done : List Event) → IsDerivationText text done → IsAccepted text
accepted law text done d = (counts d.items, subst (λ v. IsVerdict is_name_token text (verdict_line v) (verdict_status v)) (law d.items d.derivation.good) (IsVerdict.of_items d.items d.written))

-- so is the file of a run that ended
file_accepted : GoodAreAccepted → (bytes text : Text) (budget n : ℕ) (content : Content) (done : List Event) → IsOfEndedRun n → n ≡ (transcript_of built bytes budget content).status → IsFile content done text → IsAccepted text
file_accepted law bytes text budget n content done w e (IsFile.of_run t r d) = accepted law text done d
file_accepted law bytes text budget n content done w e (IsFile.of_none none) = without bytes budget n content none w e

-- what is to be told of an export
abbrev Exported : Call → ℕ → Text → Type 0
Exported c budget bytes = (text : Text) × IsExport bytes budget text c.result × Writes c text × IsAccepted text

module _ (law : GoodAreAccepted) (c : Call) (budget : ℕ) (bytes : Text) (given : IsGiven c (Export budget) bytes) (ended : IsOfEndedRun c.result) where
  of_export : (text : Text) → IsExport bytes budget text c.result → Writes c text → Exported c budget bytes
  of_export text x w = (text, x, w, file_accepted law bytes text budget c.result x.of_bytes.0 x.transcript.events ended (x.ending ∙ ap (λ t. t.status) x.of_bytes.2) x.file)

  by_way : Goes c → Exported c budget bytes
  by_way (Goes.of_usage none (inl p)) = early c.result 2 ended p.0 (omega arith) (omega arith)
  by_way (Goes.of_usage none (inr p)) = early c.result 4 ended p.0 (omega arith) (omega arith)
  by_way (Goes.of_fault j a r (inl p)) = early c.result 3 ended p.0 (omega arith) (omega arith)
  by_way (Goes.of_fault j a r (inr p)) = early c.result 4 ended p.0 (omega arith) (omega arith)
  by_way (Goes.of_length j a o l (inl p)) = early c.result 5 ended p.0 (omega arith) (omega arith)
  by_way (Goes.of_length j a o l (inr p)) = early c.result 4 ended p.0 (omega arith) (omega arith)
  by_way (Goes.of_text j a r s i k text t w) =
      of_export text (subst (λ j. IsText j bytes text c.result) (one_job c.words j (Export budget) a given.asked) (told (λ bs. IsText j bs text c.result) c.input.left bytes given.told t)) w
  by_way (Goes.of_break j a r m l) = broken (breaks j c.result m)
    where
      broken : (c.result ≡ 4) ⊎ (c.result ≡ 17) → Exported c budget bytes
      broken (inl e) = early c.result 4 ended e (omega arith) (omega arith)
      broken (inr e) = late c.result ended e
  by_way (Goes.of_memory k e) = late c.result ended k

pub exports : GoodAreAccepted → ExportsFollow
exports law c g budget bytes given ended = by_way law c budget bytes given ended g
