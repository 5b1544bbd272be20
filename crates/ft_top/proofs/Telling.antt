-- What a verdict tells of its file, and an export of its source.
use Rattle.std.proofs.Common.{◌≡◌, ◌∙◌, sym, refl, subst, ℕ, ◌⊎◌, List, Option, Some, arith, inl, inr}
use Rattle.ft_base.specs.Names.{is_name_token}
use Rattle.ft_items.specs.Item.{Item}
use Rattle.ft_items.specs.Store.{Derivable}
use Rattle.ft_items.specs.Good.{Reject, Counts, Verdict, Accepted, Rejected, verdict}
use Rattle.ft_items.specs.Texts.{IsTextOf}
use Rattle.ft_items.specs.Faults.{Fault, HasFault}
use Rattle.ft_sound.specs.Soundness.{AcceptedAreDerivable, EachEntry}
use Rattle.ft_streams.specs.Streams.{Appends}
use Rattle.ft_answers.specs.declared.words.Job.{Job}
use Rattle.ft_answers.specs.declared.words.Job.TheVariants as job
use Rattle.ft_answers.specs.Words.{IsAsked}
use Rattle.ft_verdicts.specs.Verdicts.{IsVerdict, verdict_line, verdict_status}
use Rattle.ft_answers.specs.Exports.{IsExport}
use Rattle.ft_answers.specs.Answer.{IsText}
use Rattle.ft_top.specs.Calls.{IsAcceptedExport, IsKnown, IsCall}
use Rattle.ft_top.proofs.Asking.{one_job}
use Rattle.ft_top.proofs.Numbers.{of_file}
use Rattle.ft_top.proofs.Calling.{of_told, neither}

rejected_by : (items : List Item) (v : Verdict) → verdict items ≡ v → verdict_status v ≡ 15 → (k : ℕ) × ((why : Reject) × (verdict items ≡ Rejected k why))
rejected_by items (Accepted c) e h = absurd (omega (arith, h))
rejected_by items (Rejected k why) e h = (k, (why, e))

accepted_by : (items : List Item) (v : Verdict) → verdict items ≡ v → verdict_status v ≡ 0 → (c : Counts) × (verdict items ≡ Accepted c)
accepted_by items (Accepted c) e h = (c, e)
accepted_by items (Rejected k why) e h = absurd (omega (arith, h))

no_fault_status : (v : Verdict) → verdict_status v ≡ 16 → ⊥
no_fault_status (Accepted c) h = absurd (omega (arith, h))
no_fault_status (Rejected k why) h = absurd (omega (arith, h))

-- the file has these items, and the k-th is rejected
abbrev pub RejectedFile : List ℕ → Type 0
RejectedFile bs = (items : List Item) × ((k : ℕ) × ((why : Reject) × (IsTextOf is_name_token bs items × (verdict items ≡ Rejected k why))))

verdict_rejected : (bs line : List ℕ) (n : ℕ) → IsVerdict is_name_token bs line n → n ≡ 15 → RejectedFile bs
verdict_rejected bs line n (IsVerdict.of_items items t) h = let r = rejected_by items (verdict items) refl h in (items, (r.0, (r.1.0, (t, r.1.1))))
verdict_rejected bs line n (IsVerdict.of_fault f t) h = absurd (omega (arith, h))

-- the file has these items, which are accepted
abbrev pub AcceptedFile : List ℕ → Type 0
AcceptedFile bs = (items : List Item) × ((c : Counts) × (IsTextOf is_name_token bs items × (verdict items ≡ Accepted c)))

verdict_accepted : (bs line : List ℕ) (n : ℕ) → IsVerdict is_name_token bs line n → n ≡ 0 → AcceptedFile bs
verdict_accepted bs line n (IsVerdict.of_items items t) h = let r = accepted_by items (verdict items) refl h in (items, (r.0, (t, r.1)))
verdict_accepted bs line n (IsVerdict.of_fault f t) h = absurd (omega (arith, h))

verdict_filed : (bs line : List ℕ) (n : ℕ) → IsVerdict is_name_token bs line n → n ≡ 16 → (f : Fault) × HasFault is_name_token bs f
verdict_filed bs line n (IsVerdict.of_items items t) h = absurd (no_fault_status (verdict items) h)
verdict_filed bs line n (IsVerdict.of_fault f t) h = (f, t)

-- the text of an input that was read whole
abbrev pub Texted : Job → List ℕ → ℕ → Option (List ℕ) → Option (List ℕ) → Type 0
Texted j bs n before after = (text : List ℕ) × (IsText j bs text n × Appends before text after × IsAcceptedExport j text)

text_of_call : (bs : List ℕ) {j : Job} {left rest : Option (List ℕ)} {taken taken' faults later : ℕ} {before after : Option (List ℕ)} {n : ℕ} → left ≡ Some bs → (n ≡ 4 → ⊥) → (n ≡ 3 → ⊥) → (n ≡ 5 → ⊥) → (n ≡ 7 → ⊥) → (n ≡ 17 → ⊥) → IsCall j left rest taken taken' faults later before after n → Texted j bs n before after
text_of_call bs told a b d e f (IsCall.of_fault r (inl p)) = absurd (b p.0)
text_of_call bs told a b d e f (IsCall.of_fault r (inr p)) = absurd (a p.0)
text_of_call bs told a b d e f (IsCall.of_length o h (inl p)) = absurd (d p.0)
text_of_call bs told a b d e f (IsCall.of_length o h (inr p)) = absurd (a p.0)
text_of_call bs told a b d e f (IsCall.of_another r q h (inl p)) = absurd (e p.0)
text_of_call bs told a b d e f (IsCall.of_another r q h (inr p)) = absurd (a p.0)
text_of_call bs {j = j} {left = left} told a b d e f (IsCall.of_text s text i q h k w) =
    let known = of_told (IsKnown j text s) left bs told h in
    (text, (subst (λ n. IsText j bs text n) (sym k) known.1, w, known.3))
text_of_call bs told a b d e f (IsCall.of_break k h) = absurd (a k)
text_of_call bs told a b d e f (IsCall.of_memory k h) = absurd (f k)

pub accepted_text : AcceptedAreDerivable → (words : List (List ℕ)) (bs : List ℕ) {j : Job} {left rest : Option (List ℕ)} {taken taken' faults later : ℕ} {before after : Option (List ℕ)} {n : ℕ} → IsAsked words j → n ≡ 0 → IsAsked words job.Check → left ≡ Some bs → IsCall j left rest taken taken' faults later before after n
    → (items : List Item) × ((c : Counts) × (IsTextOf is_name_token bs items × (verdict items ≡ Accepted c) × EachEntry (λ W e. Derivable W e.statement e.set) items))
accepted_text law words bs {j = j} {before = before} {after = after} {n = n} asked z asked' told call =
    let t : Texted j bs n before after = text_of_call bs told (λ k. absurd (omega (arith, k, z))) (λ k. absurd (omega (arith, k, z))) (λ k. absurd (omega (arith, k, z))) (λ k. absurd (omega (arith, k, z))) (λ k. absurd (omega (arith, k, z))) call in
    let f : AcceptedFile bs = verdict_accepted bs t.0 n (subst (λ j. IsText j bs t.0 n) (one_job words j job.Check asked asked') t.1.0) z in
    (f.0, (f.1.0, (f.1.1.0, f.1.1.1, law f.0 f.1.0 f.1.1.1)))

-- the status of a rejected file, or of one at fault
abbrev OfFile : ℕ → Type 0
OfFile n = (n ≡ 15) ⊎ (n ≡ 16)

along : {n m : ℕ} → n ≡ m → OfFile n → OfFile m
along k (inl z) = inl (sym k ∙ z)
along k (inr z) = inr (sym k ∙ z)

no_file : {n : ℕ} → OfFile n → (n ≡ 3) ⊎ ((n ≡ 4) ⊎ ((n ≡ 5) ⊎ ((n ≡ 7) ⊎ (n ≡ 17)))) → ⊥
no_file (inl z) (inl k) = absurd (omega (arith, z, k))
no_file (inl z) (inr (inl k)) = absurd (omega (arith, z, k))
no_file (inl z) (inr (inr (inl k))) = absurd (omega (arith, z, k))
no_file (inl z) (inr (inr (inr (inl k)))) = absurd (omega (arith, z, k))
no_file (inl z) (inr (inr (inr (inr k)))) = absurd (omega (arith, z, k))
no_file (inr z) (inl k) = absurd (omega (arith, z, k))
no_file (inr z) (inr (inl k)) = absurd (omega (arith, z, k))
no_file (inr z) (inr (inr (inl k))) = absurd (omega (arith, z, k))
no_file (inr z) (inr (inr (inr (inl k)))) = absurd (omega (arith, z, k))
no_file (inr z) (inr (inr (inr (inr k)))) = absurd (omega (arith, z, k))

file_text : (bs : List ℕ) {j : Job} {left rest : Option (List ℕ)} {taken taken' faults later : ℕ} {before after : Option (List ℕ)} {n : ℕ} → OfFile n → left ≡ Some bs → IsCall j left rest taken taken' faults later before after n → (text : List ℕ) × IsVerdict is_name_token bs text n
file_text bs z told (IsCall.of_fault r (inl p)) = absurd (no_file z (inl p.0))
file_text bs z told (IsCall.of_fault r (inr p)) = absurd (no_file z (inr (inl p.0)))
file_text bs z told (IsCall.of_length o h (inl p)) = absurd (no_file z (inr (inr (inl p.0))))
file_text bs z told (IsCall.of_length o h (inr p)) = absurd (no_file z (inr (inl p.0)))
file_text bs z told (IsCall.of_another r q h (inl p)) = absurd (no_file z (inr (inr (inr (inl p.0)))))
file_text bs z told (IsCall.of_another r q h (inr p)) = absurd (no_file z (inr (inl p.0)))
file_text bs {j = j} {left = left} {n = n} z told (IsCall.of_text s text i q h k w) =
    let known = of_told (IsKnown j text s) left bs told h in
    (text, subst (λ j. IsText j bs text n) (of_file j s i (along k z)) (subst (λ n. IsText j bs text n) (sym k) known.1))
file_text bs z told (IsCall.of_break k h) = absurd (no_file z (inr (inl k)))
file_text bs z told (IsCall.of_memory k h) = absurd (no_file z (inr (inr (inr (inr k)))))

pub rejected_text : (bs : List ℕ) {j : Job} {left rest : Option (List ℕ)} {taken taken' faults later : ℕ} {before after : Option (List ℕ)} {n : ℕ} → n ≡ 15 → left ≡ Some bs → IsCall j left rest taken taken' faults later before after n → RejectedFile bs
rejected_text bs {n = n} z told call = let t = file_text bs (inl z) told call in verdict_rejected bs t.0 n t.1 z

pub filed_text : (bs : List ℕ) {j : Job} {left rest : Option (List ℕ)} {taken taken' faults later : ℕ} {before after : Option (List ℕ)} {n : ℕ} → n ≡ 16 → left ≡ Some bs → IsCall j left rest taken taken' faults later before after n → (f : Fault) × HasFault is_name_token bs f
filed_text bs {n = n} z told call = let t = file_text bs (inr z) told call in verdict_filed bs t.0 n t.1 z

no_other : {n : ℕ} → (n ≡ 0) ⊎ (n ≡ 9) → (m : ℕ) → (m ≡ 0 → ⊥) → (m ≡ 9 → ⊥) → n ≡ m → ⊥
no_other z m a b k = neither z k a b

pub exported_text : (words : List (List ℕ)) (bs : List ℕ) {j : Job} {left rest : Option (List ℕ)} {taken taken' faults later : ℕ} {before after : Option (List ℕ)} {n : ℕ} → IsAsked words j → (n ≡ 0) ⊎ (n ≡ 9) → IsAsked words job.Export → left ≡ Some bs → IsCall j left rest taken taken' faults later before after n
    → (text : List ℕ) × (IsExport bs text n × Appends before text after × ((c : Counts) × IsVerdict is_name_token text (verdict_line (Accepted c)) 0))
exported_text words bs {j = j} {before = before} {after = after} {n = n} asked z asked' told call =
    let t : Texted j bs n before after = text_of_call bs told
    (no_other z 4 (λ k. absurd (omega (arith, k))) (λ k. absurd (omega (arith, k))))
    (no_other z 3 (λ k. absurd (omega (arith, k))) (λ k. absurd (omega (arith, k))))
    (no_other z 5 (λ k. absurd (omega (arith, k))) (λ k. absurd (omega (arith, k))))
    (no_other z 7 (λ k. absurd (omega (arith, k))) (λ k. absurd (omega (arith, k))))
    (no_other z 17 (λ k. absurd (omega (arith, k))) (λ k. absurd (omega (arith, k)))) call in
    let same = one_job words j job.Export asked asked' in
    (t.0, (subst (λ j. IsText j bs t.0 n) same t.1.0, t.1.1, subst (λ j. IsAcceptedExport j t.0) same t.1.2))
