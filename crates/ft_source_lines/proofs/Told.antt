-- The line of a content is the line of the fault that tells it.
use Rattle.std.proofs.Common.{◌≡◌, sym, subst, ℕ, Some, Result, Ok, Err, IfOk, IfSome}
use Rattle.ft_meaning.specs.Texts.{Text}
use Rattle.ft_meaning.specs.Stages.{Stage}
use Rattle.ft_meaning.specs.Sources.{Content}
use Rattle.ft_meaning.specs.Transcript.{transcript_of}
use Rattle.ft_source.specs.declared.fault.SourceFault.{SourceFault}
use Rattle.ft_source.specs.Contents.{content_of}

-- the text is that of the transcript for the content, at each stage and within each budget
abbrev pub IsLine : Text → Content → Text → Type 0
IsLine bytes c t = (B : Stage) (budget : ℕ) → t ≡ (transcript_of B bytes budget c).text

-- the line of each source is the line of this one
pub of_each : {E : Type 0} (r : Result Text E) (c : Content) (bytes : Text) → IfOk r (λ t. (B : Stage) (source : Text) (budget : ℕ) → t ≡ (transcript_of B source budget c).text) → IfOk r (IsLine bytes c)
of_each (Ok t) c bytes h = λ B budget. h B bytes budget
of_each (Err e) c bytes h = h

-- so is the line of the same text
pub of_text : {E : Type 0} (r : Result Text E) (c : Content) (text bytes : Text) → text ≡ bytes → IfOk r (IsLine text c) → IfOk r (IsLine bytes c)
of_text r c text bytes e h = subst (λ bs. IfOk r (IsLine bs c)) e h

-- the line of the content that the fault tells
pub of_fault : {E : Type 0} (r : Result Text E) (fault : SourceFault) (c : Content) (bytes : Text) → content_of fault ≡ Some c → IfOk r (IsLine bytes c) → IfOk r (λ t. IfSome (content_of fault) (λ c. IsLine bytes c t))
of_fault r fault c bytes e h = subst (λ o. IfOk r (λ t. IfSome o (λ c. IsLine bytes c t))) (sym e) h
