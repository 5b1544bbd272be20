-- A whole file.
use Rattle.std.proofs.Common.{◌≡◌, ◌∙◌, sym, subst, ap, refl, ℕ, true, inl, inr, List, [], ◌∷◌}
use Rattle.std.specs.Prelude.{Result, Ok, Err, IfOk, IfErr}
use Rattle.ft_base.specs.Names.{is_name_token}
use Rattle.ft_items.specs.Item.{Name, Item}
use Rattle.ft_items.specs.Texts.{IsTextOf}
use Rattle.ft_items.specs.Lines.{lines_in, first_line, AreLinesAfterFirst, AreLinesOf}
use Rattle.ft_items.specs.Faults.{FaultFrom, FormFault, VersionFault, Form, Version}
use Rattle.ft_texts.specs.Laws.{Visible}
use Rattle.ft_texts.proofs.Faults.{text_has_no_fault}
use Rattle.ft_texts.proofs.ByLines.{text_by_lines}
use Rattle.ft_texts.proofs.Lines.{at_most_one_list}
use Rattle.ft_stated.specs.Lines.{Listing}
use Rattle.ft_read.specs.declared.fault.FileFault.{FileFault}
use Rattle.ft_read.specs.declared.fault.FileFault.TheVariants as told
use Rattle.ft_read.specs.Files.{IsFault, IsFirstFault, IsLaterFault}
use Rattle.ft_read.proofs.Turns.{some_line}

-- ---- the fault of a file

-- there is no line feed
pub no_line : (bytes : List ℕ) → lines_in bytes ≡ bytes ∷ [] → IsFault bytes (told.Form 1)
no_line bytes e = subst (λ ls. FormFault is_name_token ls 1) (sym e) refl

-- the first line is not as it should be
pub first_fault : (bytes l rest : List ℕ) (f : FileFault) → lines_in bytes ≡ l ∷ lines_in rest → IsFirstFault l f → IsFault bytes f
first_fault bytes l rest f e h = go (some_line rest) f h
  where
    go : (m : List ℕ) × (ls : List (List ℕ)) × (lines_in rest ≡ m ∷ ls) → (f : FileFault) → IsFirstFault l f → IsFault bytes f
    go line (told.Form n) h = subst (λ ls. FormFault is_name_token ls n) (sym (e ∙ ap (λ ls. l ∷ ls) line.2)) (inr h)
    go line (told.Version n) h = (h.1, subst VersionFault (sym (e ∙ ap (λ ls. l ∷ ls) line.2)) h.0)
    go line told.Memory h = tt

-- a line after the first is at fault
pub later_fault : (bytes l rest : List ℕ) (f : FileFault) → lines_in bytes ≡ l ∷ lines_in rest → l ≡ first_line → IsLaterFault (lines_in rest) f → IsFault bytes f
later_fault bytes l rest f e first h = go (some_line rest) f h
  where
    go : (m : List ℕ) × (ls : List (List ℕ)) × (lines_in rest ≡ m ∷ ls) → (f : FileFault) → IsLaterFault (lines_in rest) f → IsFault bytes f
    go line (told.Form n) h =
        subst (λ ls. FormFault is_name_token ls n) (sym (e ∙ ap (λ ls. l ∷ ls) line.2)) (inl (first, subst (λ ls. FaultFrom is_name_token 2 ls n) line.2 h))
    go line (told.Version n) h = absurd h
    go line told.Memory h = tt

-- the lines are those of the items
pub lines_of : (bytes l rest : List ℕ) (items : List Item) → lines_in bytes ≡ l ∷ lines_in rest → l ≡ first_line → AreLinesAfterFirst is_name_token (lines_in rest) items
    → AreLinesOf is_name_token (lines_in bytes) items
lines_of bytes l rest items e first h = subst (λ ls. AreLinesOf is_name_token ls items) (sym e) (first, h)

-- ---- what is read, by the text

pub text_read : ((n : Name) → is_name_token n ≡ true → Visible n) → (bytes : List ℕ) (r : Result Listing FileFault)
    → IfOk r (λ x. AreLinesOf is_name_token (lines_in bytes) x.items) → IfOk r (λ x. IsTextOf is_name_token bytes x.items)
text_read shows bytes (Ok x) h = (text_by_lines is_name_token shows bytes x.items).1 h
text_read shows bytes (Err f) h = tt

pub same_read : ((n : Name) → is_name_token n ≡ true → Visible n) → (bytes : List ℕ) (r : Result Listing FileFault)
    → IfOk r (λ x. AreLinesOf is_name_token (lines_in bytes) x.items) → (items : List Item) → IsTextOf is_name_token bytes items → IfOk r (λ x. x.items ≡ items)
same_read shows bytes (Ok x) h items t = at_most_one_list is_name_token shows bytes x.items items ((text_by_lines is_name_token shows bytes x.items).1 h) t
same_read shows bytes (Err f) h items t = tt

pub text_is_read : ((n : Name) → is_name_token n ≡ true → Visible n) → (bytes : List ℕ) (r : Result Listing FileFault)
    → IfErr r (λ f. IsFault bytes f) → (items : List Item) → IsTextOf is_name_token bytes items → IfErr r (λ f. f ≡ told.Memory)
text_is_read shows bytes (Ok x) h items t = tt
text_is_read shows bytes (Err (told.Form n)) h items t = absurd (text_has_no_fault is_name_token shows bytes items (Form n) t h)
text_is_read shows bytes (Err (told.Version n)) h items t = absurd (text_has_no_fault is_name_token shows bytes items (Version n) t h)
text_is_read shows bytes (Err told.Memory) h items t = refl
