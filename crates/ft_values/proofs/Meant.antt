-- The judgements of a list, as the meaning has them.
use Rattle.std.proofs.Common.{◌≡◌, ◌∙◌, ap, refl, ℕ, List, ◌∷◌, Some, None, Option}
use Rattle.std.specs.Prelude.{option_map, map}
use Rattle.ft_items.specs.Store.{Assertion}
use Rattle.ft_kernel.specs.State.{State}
use Rattle.ft_meaning.specs.Values.{Outcome, State as Running, the, pure, after, as_judgements}
use Rattle.ft_values.specs.Kept.{Kept, judgement, boundary, unit, truth, pair, nil, cons, none, some, stated_at, value_of, judgements_in}

-- a first judgement before those of the rest
first_of : (s : State) (j : ℕ) (o : Option (List ℕ)) (t : Running)
    → after (the (option_map (map (stated_at s)) o) t) (λ js. pure (stated_at s j ∷ js)) ≡ the (option_map (map (stated_at s)) (option_map (λ js. j ∷ js) o)) t
first_of s j None t = refl
first_of s j (Some js) t = refl

pub members_are : (s : State) (k : Kept) (t : Running) → as_judgements (value_of s k) t ≡ the (option_map (map (stated_at s)) (judgements_in k)) t
members_are s (judgement j) t = refl
members_are s (boundary b) t = refl
members_are s unit t = refl
members_are s (truth b) t = refl
members_are s (pair v w) t = refl
members_are s nil t = refl
members_are s (cons (judgement j) w) t =
    ap (λ (o : Outcome (List Assertion)). after o (λ js. pure (stated_at s j ∷ js))) (members_are s w t) ∙ first_of s j (judgements_in w) t
members_are s (cons (boundary b) w) t = refl
members_are s (cons unit w) t = refl
members_are s (cons (truth b) w) t = refl
members_are s (cons (pair a b) w) t = refl
members_are s (cons nil w) t = refl
members_are s (cons (cons a b) w) t = refl
members_are s (cons none w) t = refl
members_are s (cons (some a) w) t = refl
members_are s none t = refl
members_are s (some v) t = refl
