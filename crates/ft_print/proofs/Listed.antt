-- The lines of judgements, one after the other.
use Rattle.std.proofs.Common.{◌≡◌, ◌∙◌, sym, ap, ap₂, refl, ℕ, suc, ◌≤◌, Option, Some, None, option_map, option_and_then, List, [], ◌∷◌, ◌++◌, take, flat_map, slice_get, length, append_assoc, append-nil}
use Rattle.std.proofs.lemmas.List.{take_all}
use Rattle.std.proofs.lemmas.Option.{same_Some}
use Rattle.ft_common.proofs.Options.{none_some, some_none}
use Rattle.ft_items.specs.Store.{Assertion, each, Declarations}
use Rattle.ft_meaning.specs.Texts.{Text, sequent_text}
use Rattle.ft_meaning.specs.Lines.{line}
use Rattle.ft_print.proofs.Joining.{take_next}

-- the lines of judgements
abbrev pub sequent_lines : Declarations → List Assertion → Text
sequent_lines W js = flat_map (λ j. line (sequent_text W j)) js

lines_last : (W : Declarations) (entries : List Assertion) (a : Assertion) → sequent_lines W (entries ++ a ∷ []) ≡ sequent_lines W entries ++ line (sequent_text W a)
lines_last W [] a = append-nil (line (sequent_text W a))
lines_last W (b ∷ entries) a = ap (λ z. line (sequent_text W b) ++ z) (lines_last W entries a) ∙ sym (append_assoc (line (sequent_text W b)) (sequent_lines W entries) (line (sequent_text W a)))

each_parts : (o : Option Assertion) (r : Option (List Assertion)) (entries : List Assertion) → option_and_then (λ b. option_map (λ bs. b ∷ bs) r) o ≡ Some entries
    → (b : Assertion) × (bs : List Assertion) × (o ≡ Some b) × (r ≡ Some bs) × (b ∷ bs ≡ entries)
each_parts None r entries e = none_some e
each_parts (Some b) None entries e = none_some e
each_parts (Some b) (Some bs) entries e = (b, bs, refl, refl, same_Some (b ∷ bs) entries e)

each_last : (f : ℕ → Option Assertion) (js : List ℕ) (j : ℕ) (entries : List Assertion) (a : Assertion) → each f js ≡ Some entries → f j ≡ Some a → each f (js ++ j ∷ []) ≡ Some (entries ++ a ∷ [])
each_last f [] j entries a e h = ap (λ o. option_and_then (λ b. option_map (λ bs. b ∷ bs) (Some [])) o) h ∙ ap (λ es. Some (es ++ a ∷ [])) (same_Some [] entries e)
each_last f (i ∷ js) j entries a e h =
    let k = each_parts (f i) (each f js) entries e in
    let ih : each f (js ++ j ∷ []) ≡ Some (k.1 ++ a ∷ []) = each_last f js j k.1 a k.3 h in
    ap₂ (λ r o. option_and_then (λ b. option_map (λ bs. b ∷ bs) r) o) ih k.2 ∙ ap (λ es. Some (es ++ a ∷ [])) k.4

made : {A : Type 0} (F : A → Text) (t : Text) (o : Option A) → Some t ≡ option_map F o → (a : A) × (o ≡ Some a) × (t ≡ F a)
made F t None e = some_none e
made F t (Some a) e = (a, refl, same_Some t (F a) e)

-- one more judgement
pub lines_next : (W : Declarations) (f : ℕ → Option Assertion) (js : List ℕ) (i j : ℕ) (out mid new : Text) → slice_get js i ≡ Some j → Some out ≡ option_map (sequent_lines W) (each f (take i js)) → Some mid ≡ option_map (λ a. out ++ sequent_text W a) (f j)
    → new ≡ mid ++ 10 ∷ [] → Some new ≡ option_map (sequent_lines W) (each f (take (suc i) js))
lines_next W f js i j out mid new g o m e =
    let r = made (sequent_lines W) out (each f (take i js)) o in
    let s = made (λ a. out ++ sequent_text W a) mid (f j) m in
    let text : new ≡ sequent_lines W (r.0 ++ s.0 ∷ []) =
    e ∙ ap (λ z. z ++ 10 ∷ []) s.2 ∙ append_assoc out (sequent_text W s.0) (10 ∷ []) ∙ ap (λ z. z ++ line (sequent_text W s.0)) r.2 ∙ sym (lines_last W r.0 s.0) in
    ap Some text ∙ sym (ap (option_map (sequent_lines W)) (ap (each f) (take_next js i j g) ∙ each_last f (take i js) j r.0 s.0 r.1 s.1))

-- no more judgement
pub lines_end : (W : Declarations) (f : ℕ → Option Assertion) (js : List ℕ) (i : ℕ) (out : Text) → length js ≤ i → Some out ≡ option_map (sequent_lines W) (each f (take i js)) → Some out ≡ option_map (sequent_lines W) (each f js)
lines_end W f js i out l o = o ∙ ap (λ xs. option_map (sequent_lines W) (each f xs)) (take_all i js l)
