-- Values while the list of items and the table grow.
use Rattle.std.proofs.Common.{◌≡◌, ◌∙◌, ◌++◌, sym, ap, ap₂, refl, ℕ, List, [], ◌∷◌, length, Some}
use Rattle.std.proofs.Math.ListN.{get_or-append}
use Rattle.ft_items.specs.Item.{Item}
use Rattle.ft_items.specs.Store.{Assertion, nth, entries_in}
use Rattle.ft_items.proofs.Lists.{nth_before, entries_append}
use Rattle.ft_kernel.specs.State.{State, entry_at}
use Rattle.ft_meaning.specs.Values as meaning
use Rattle.ft_values.specs.Kept.{Kept, judgement, boundary, unit, truth, pair, nil, cons, none, some, stated, stated_at, value_of, IsOver, HasMore, AreQuiet}
use Rattle.ft_values.specs.declared.values.Value.{Value}
use Rattle.ft_values.specs.Rows.{kept_in, Below}
use Rattle.ft_values.proofs.Rows.{kept_same}

pub quiet_append : (xs ys : List Item) → AreQuiet xs → AreQuiet ys → AreQuiet (xs ++ ys)
quiet_append [] ys h k = k
quiet_append (x ∷ xs) ys h k = (h.0, quiet_append xs ys h.1 k)

pub entry_goes_on : (s t : State) (n : ℕ) (a : Assertion) → HasMore s t → entry_at s n ≡ Some a → entry_at t n ≡ Some a
entry_goes_on s t n a g h =
    ap (λ (items : List Item). nth (entries_in items) n) g.1 ∙ ap (λ X. nth X n) (entries_append s.items g.0)
    ∙ nth_before (entries_in s.items) (entries_in g.0) n a h

stated_stays : (s t : State) (n : ℕ) (a : Assertion) → HasMore s t → entry_at s n ≡ Some a → stated_at t n ≡ stated_at s n
stated_stays s t n a g h = ap stated (entry_goes_on s t n a g h ∙ sym h)

pub value_stays : (s t : State) (k : Kept) → HasMore s t → IsOver s k → value_of t k ≡ value_of s k
value_stays s t (judgement j) g h = ap meaning.judgement (stated_stays s t j h.0 g h.1)
value_stays s t (boundary b) g h = ap meaning.boundary (stated_stays s t b h.0 g h.1)
value_stays s t unit g h = refl
value_stays s t (truth b) g h = refl
value_stays s t (pair v w) g h = ap₂ meaning.pair (value_stays s t v g h.0) (value_stays s t w g h.1)
value_stays s t nil g h = refl
value_stays s t (cons v w) g h = ap₂ meaning.cons (value_stays s t v g h.0) (value_stays s t w g h.1)
value_stays s t none g h = refl
value_stays s t (some v) g h = ap meaning.some (value_stays s t v g h)

pub over_stays : (s t : State) (k : Kept) → HasMore s t → IsOver s k → IsOver t k
over_stays s t (judgement j) g h = (h.0, entry_goes_on s t j h.0 g h.1, h.2)
over_stays s t (boundary b) g h = (h.0, entry_goes_on s t b h.0 g h.1, h.2)
over_stays s t unit g h = tt
over_stays s t (truth b) g h = tt
over_stays s t (pair v w) g h = (over_stays s t v g h.0, over_stays s t w g h.1)
over_stays s t nil g h = tt
over_stays s t (cons v w) g h = (over_stays s t v g h.0, over_stays s t w g h.1)
over_stays s t none g h = tt
over_stays s t (some v) g h = over_stays s t v g h

pub rows_stay : (ks more : List Kept) (v : Value) → Below (length ks) v → kept_in (ks ++ more) v ≡ kept_in ks v
rows_stay ks more v h = kept_same ks (ks ++ more) v (λ n lt. get_or-append ks more unit n lt) h
