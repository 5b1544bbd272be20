-- The first line, and the number that is a whole text.
use Rattle.std.proofs.Common.{◌≡◌, ◌≢◌, ◌∙◌, sym, ap, refl, ℕ, List, [], ◌∷◌, ◌++◌, length, append-nil, arith}
use Rattle.std.specs.Prelude.{codes, Result, Ok, Err}
use Rattle.std.specs.Fmt.{decimal, digits}
use Rattle.ft_items.specs.Lines.{first_line}
use Rattle.ft_items.specs.Texts.{NumberFits}
use Rattle.ft_items.specs.Faults.{IsOtherVersion}
use Rattle.ft_lines.specs.declared.fault.Fault.{Fault}
use Rattle.ft_lines.specs.declared.fault.Fault.TheVariants.{Form, Memory}
use Rattle.ft_lines.specs.Reading.{Outcome, number}
use Rattle.ft_lines.specs.Laws.{NumberIsRead, NumberIsText}
use Rattle.ft_read.specs.Files.{IsFirstLineOf}

-- ---- a whole number

no_rest : (cs : List ℕ) → length cs ≡ 0 → cs ≡ []
no_rest [] h = refl
no_rest (c ∷ cs) h = absurd (omega (arith, h))

-- what is read to the end is the text of the number
pub number_whole : NumberIsText → (text rest : List ℕ) (n : ℕ) → number text ≡ Ok (n, rest) → length rest ≡ 0 → NumberFits n × (text ≡ decimal n)
number_whole is_text text rest n read none =
    let t : (text ≡ decimal n ++ rest) × NumberFits n = is_text n text rest read in
    (t.1, t.0 ∙ ap (λ r. decimal n ++ r) (no_rest rest none) ∙ append-nil (decimal n))

-- the text of a number is read to the end
pub number_read : NumberIsRead → (text : List ℕ) (n : ℕ) → NumberFits n → text ≡ decimal n → number text ≡ Ok (n, [])
number_read is_read text n fits e = ap number (e ∙ sym (append-nil (decimal n))) ∙ is_read n [] fits refl

no_fault : (f : Fault) (p : ℕ × List ℕ) → ◌≡◌ {A = Outcome ℕ} (Err f) (Ok p) → ⊥
no_fault f p h = cc

same_rest : (p q : ℕ × List ℕ) → ◌≡◌ {A = Outcome ℕ} (Ok p) (Ok q) → p.1 ≡ q.1
same_rest p q h = cc

form_memory : Form ≡ Memory → ⊥
form_memory e = cc

-- a text that is refused, or goes on after a number, is the text of none
pub refused_none : NumberIsRead → (text : List ℕ) (f : Fault) → (f ≢ Memory → number text ≡ Err f) → ◌≡◌ {A = Result ℕ Fault} (Err f) (Err Form)
    → (n : ℕ) → NumberFits n → text ≡ decimal n → ⊥
refused_none is_read text f refused form n fits e =
    let is_form : f ≡ Form = cc in
    no_fault f (n, []) (sym (refused (λ m. form_memory (sym is_form ∙ m))) ∙ number_read is_read text n fits e)

pub longer_none : NumberIsRead → (text rest : List ℕ) (m : ℕ) → number text ≡ Ok (m, rest) → length rest ≢ 0 → (n : ℕ) → NumberFits n → text ≡ decimal n → ⊥
longer_none is_read text rest m read some n fits e = some (ap length (same_rest (m, rest) (n, []) (sym read ∙ number_read is_read text n fits e)))

-- ---- the first line

one_decimal : decimal 1 ≡ codes "1"
unfolding digits
one_decimal = refl

first_is : first_line ≡ codes "andromeda derivation " ++ decimal 1
first_is = ap (λ x. codes "andromeda derivation " ++ x) (sym one_decimal)

-- the first line of version 1 is the first line
pub first_of_one : (l : List ℕ) → IsFirstLineOf 1 l → l ≡ first_line
first_of_one l h = h.1 ∙ sym first_is

-- the first line of no version is not the first line, nor that of another version
pub first_of_none : (l : List ℕ) → ((v : ℕ) → IsFirstLineOf v l → ⊥) → (l ≢ first_line) × (IsOtherVersion l → ⊥)
first_of_none l none = (λ e. none 1 (omega arith, e ∙ first_is), λ o. none o.0 (o.1, o.3))

pub first_of_other : (l : List ℕ) (v : ℕ) → IsFirstLineOf v l → v ≢ 1 → IsOtherVersion l
first_of_other l v h other = (v, h.0, other, h.1)
