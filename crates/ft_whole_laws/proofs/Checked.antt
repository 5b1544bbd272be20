-- What a verdict tells of its file, from how a call goes.
use Rattle.std.proofs.Common.{◌≡◌, refl, subst, ℕ, ◌⊎◌, inl, inr, arith, Bool, List}
use Rattle.ft_base.specs.Names.{is_name_token}
use Rattle.ft_items.specs.Item.{Item}
use Rattle.ft_items.specs.Good.{Verdict, Accepted, Rejected, verdict}
use Rattle.ft_items.specs.Texts.{IsTextOf}
use Rattle.ft_items.specs.Faults.{Fault, HasFault}
use Rattle.ft_sound.specs.Soundness.{AcceptedAreDerivable}
use Rattle.ft_verdicts.specs.Verdicts.{IsVerdict, verdict_status}
use Rattle.ft_meaning.specs.Texts.{Text}
use Rattle.ft_answers.specs.declared.wanted.Wanted.TheVariants.{Check}
use Rattle.ft_whole_answers.specs.Answers.{IsText, IsCheckText}
use Rattle.ft_whole_answers.specs.Calls.{Call, Goes}
use Rattle.ft_whole_answers.specs.Clauses.{IsGiven, TellsAccepted, TellsRejected}
use Rattle.ft_whole_laws.specs.Laws.{ChecksFollow}
use Rattle.ft_whole_laws.proofs.Asked.{one_job, told, breaks}

-- the status of a verdict
abbrev IsOfVerdict : ℕ → Type 0
IsOfVerdict n = (n ≡ 0) ⊎ ((n ≡ 15) ⊎ (n ≡ 16))

-- it is none of these
other : {P : Type 0} (n : ℕ) → IsOfVerdict n → (n ≡ 2) ⊎ ((n ≡ 3) ⊎ ((n ≡ 4) ⊎ ((n ≡ 5) ⊎ (n ≡ 17)))) → P
other n v e = absurd (grind arith)

-- the file has a verdict with this status
abbrev Verdicts : ℕ → Text → Type 0
Verdicts n bytes = (text : Text) × IsVerdict is_name_token bytes text n

of_text : (bytes text : Text) (most n : ℕ) → IsOfVerdict n → IsCheckText bytes most text n → Verdicts n bytes
of_text bytes text most n v (IsCheckText.of_file h t m x) = (text, x)
of_text bytes text most n v (IsCheckText.of_length h) = other 5 v (inr (inr (inr (inl refl))))

module _ (c : Call) (one_thread : Bool) (bytes : Text) (given : IsGiven c (Check one_thread) bytes) (v : IsOfVerdict c.result) where
  by_way : Goes c → Verdicts c.result bytes
  by_way (Goes.of_usage none (inl p)) = other c.result v (inl p.0)
  by_way (Goes.of_usage none (inr p)) = other c.result v (inr (inr (inl p.0)))
  by_way (Goes.of_fault j a r (inl p)) = other c.result v (inr (inl p.0))
  by_way (Goes.of_fault j a r (inr p)) = other c.result v (inr (inr (inl p.0)))
  by_way (Goes.of_length j a o l (inl p)) = other c.result v (inr (inr (inr (inl p.0))))
  by_way (Goes.of_length j a o l (inr p)) = other c.result v (inr (inr (inl p.0)))
  by_way (Goes.of_text j a r s i k text t w) =
      of_text bytes text 67108864 c.result v (subst (λ j. IsText j bytes text c.result) (one_job c.words j (Check one_thread) a given.asked) (told (λ bs. IsText j bs text c.result) c.input.left bytes given.told t))
  by_way (Goes.of_break j a r m l) = broken (breaks j c.result m)
    where
      broken : (c.result ≡ 4) ⊎ (c.result ≡ 17) → Verdicts c.result bytes
      broken (inl e) = other c.result v (inr (inr (inl e)))
      broken (inr e) = other c.result v (inr (inr (inr (inr e))))
  by_way (Goes.of_memory k e) = other c.result v (inr (inr (inr (inr k))))

accepted_by : AcceptedAreDerivable → (bytes : Text) (items : List Item) → IsTextOf is_name_token bytes items → (v : Verdict) → verdict items ≡ v → verdict_status v ≡ 0 → TellsAccepted bytes
accepted_by law bytes items t (Accepted k) e h = record { items = items; counts = k; text = t; accepted = e; derivable = law items k e }
accepted_by law bytes items t (Rejected k why) e h = absurd (omega (arith, h))

rejected_by : (bytes : Text) (items : List Item) → IsTextOf is_name_token bytes items → (v : Verdict) → verdict items ≡ v → verdict_status v ≡ 15 → TellsRejected bytes
rejected_by bytes items t (Accepted k) e h = absurd (omega (arith, h))
rejected_by bytes items t (Rejected k why) e h = record { items = items; item = k; why = why; text = t; rejected = e }

no_fault : (v : Verdict) → verdict_status v ≡ 16 → ⊥
no_fault (Accepted k) h = absurd (omega (arith, h))
no_fault (Rejected k why) h = absurd (omega (arith, h))

tells_accepted : AcceptedAreDerivable → (bytes text : Text) (n : ℕ) → IsVerdict is_name_token bytes text n → n ≡ 0 → TellsAccepted bytes
tells_accepted law bytes text n (IsVerdict.of_items items t) h = accepted_by law bytes items t (verdict items) refl h
tells_accepted law bytes text n (IsVerdict.of_fault f t) h = absurd (omega (arith, h))

tells_rejected : (bytes text : Text) (n : ℕ) → IsVerdict is_name_token bytes text n → n ≡ 15 → TellsRejected bytes
tells_rejected bytes text n (IsVerdict.of_items items t) h = rejected_by bytes items t (verdict items) refl h
tells_rejected bytes text n (IsVerdict.of_fault f t) h = absurd (omega (arith, h))

tells_filed : (bytes text : Text) (n : ℕ) → IsVerdict is_name_token bytes text n → n ≡ 16 → (f : Fault) × HasFault is_name_token bytes f
tells_filed bytes text n (IsVerdict.of_items items t) h = absurd (no_fault (verdict items) h)
tells_filed bytes text n (IsVerdict.of_fault f t) h = (f, t)

pub checks : AcceptedAreDerivable → ChecksFollow
checks law c g one_thread bytes given = record {
  accepted = λ h. let x = by_way c one_thread bytes given (inl h) g in tells_accepted law bytes x.0 c.result x.1 h;
  rejected = λ h. let x = by_way c one_thread bytes given (inr (inl h)) g in tells_rejected bytes x.0 c.result x.1 h;
  filed = λ h. let x = by_way c one_thread bytes given (inr (inr h)) g in tells_filed bytes x.0 c.result x.1 h;
}
