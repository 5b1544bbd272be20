-- A turn of the loop that reads items with commas between them.
use Rattle.std.proofs.Common.{◌≡◌, ◌∙◌, sym, ap, refl, ℕ, suc, ◌+◌, ◌-◌, ◌<◌, List, [], ◌∷◌, ◌++◌, drop, Ok, Bool, true, false, if◌then◌else◌}
use Rattle.ft_lines.specs.Reading.{Outcome, Reader, pure, sees}
use Rattle.ft_lines.specs.Expressions.{items_from}
use Rattle.ft_common.proofs.Turns.{one_more}

pub items_turn : {A : Type 0} (item : Reader A) (k : ℕ) (found : List A) (a : A) (cs ds : List ℕ) → item cs ≡ Ok (a, ds)
    → items_from item (suc k) found cs ≡ (if sees 44 ds then items_from item k (found ++ a ∷ []) else pure (found ++ a ∷ [])) (if sees 44 ds then drop 1 ds else ds)
unfolding items_from
items_turn item k found a cs ds h = rw h refl

pub items_on : {A : Type 0} (item : Reader A) (k : ℕ) (found : List A) (a : A) (cs ds : List ℕ) → item cs ≡ Ok (a, ds) → sees 44 ds ≡ true
    → items_from item (suc k) found cs ≡ items_from item k (found ++ a ∷ []) (drop 1 ds)
items_on item k found a cs ds h s = items_turn item k found a cs ds h ∙ rw s refl

pub items_end : {A : Type 0} (item : Reader A) (k : ℕ) (found : List A) (a : A) (cs ds : List ℕ) → item cs ≡ Ok (a, ds) → sees 44 ds ≡ false
    → items_from item (suc k) found cs ≡ Ok (found ++ a ∷ [], ds)
items_end item k found a cs ds h s = items_turn item k found a cs ds h ∙ rw s refl

pub items_more : {A : Type 0} (item : Reader A) (whole : Outcome (List A)) (n at : ℕ) (found next : List A) (a : A) (cs ds es : List ℕ) (told : Bool)
    → at < n → whole ≡ items_from item (n - at) found cs → item cs ≡ Ok (a, ds) → next ≡ found ++ a ∷ [] → told ≡ sees 44 ds → told ≡ true
    → es ≡ (if sees 44 ds then drop 1 ds else ds) → whole ≡ items_from item (n - (at + 1)) next es
items_more item whole n at found next a cs ds es told below w i f t y r =
    let s : sees 44 ds ≡ true = sym t ∙ y in
    let rest : drop 1 ds ≡ es = sym (r ∙ ap (λ b. if b then drop 1 ds else ds) s) in
    one_more (λ k. items_from item k found cs) n at below w
    ∙ items_on item (n - (at + 1)) found a cs ds i s
    ∙ ap (λ g. items_from item (n - (at + 1)) g (drop 1 ds)) (sym f)
    ∙ ap (items_from item (n - (at + 1)) next) rest

pub items_last : {A : Type 0} (item : Reader A) (whole : Outcome (List A)) (n at : ℕ) (found next : List A) (a : A) (cs ds es : List ℕ) (told : Bool)
    → at < n → whole ≡ items_from item (n - at) found cs → item cs ≡ Ok (a, ds) → next ≡ found ++ a ∷ [] → told ≡ sees 44 ds → told ≡ false
    → es ≡ (if sees 44 ds then drop 1 ds else ds) → whole ≡ Ok (next, es)
items_last item whole n at found next a cs ds es told below w i f t y r =
    let s : sees 44 ds ≡ false = sym t ∙ y in
    let rest : ds ≡ es = sym (r ∙ ap (λ b. if b then drop 1 ds else ds) s) in
    one_more (λ k. items_from item k found cs) n at below w
    ∙ items_end item (n - (at + 1)) found a cs ds i s
    ∙ ap (λ g. Ok (g, ds)) (sym f)
    ∙ ap (λ x. Ok (next, x)) rest
