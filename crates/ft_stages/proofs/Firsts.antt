-- The first part that is not built, of parts in two rows.
use Rattle.std.proofs.Common.{◌≡◌, ◌∙◌, ℕ, Bool, true, false, cond, Option, Some, None, List, [], ◌∷◌, ◌++◌, refl, sym, ap}
use Rattle.ft_meaning.specs.Stages.{SourcePart, no_equality}
use Rattle.ft_stages.specs.First.{first}

-- what there is first, else what there is second
abbrev pub either : Option ℕ → Option ℕ → Option ℕ
either (Some n) o = Some n
either None o = o

pub first_append : (ps qs : List SourcePart) → first (ps ++ qs) ≡ either (first ps) (first qs)
first_append [] qs = refl
first_append (p ∷ ps) qs = go (no_equality p.0) (first_append ps qs)
  where
    go : (b : Bool) → first (ps ++ qs) ≡ either (first ps) (first qs) → cond b (first (ps ++ qs)) (Some p.1) ≡ either (cond b (first ps) (Some p.1)) (first qs)
    go true h = h
    go false h = refl

-- it is in the first row
pub first_here : (ps qs : List SourcePart) (at : ℕ) → first ps ≡ Some at → first (ps ++ qs) ≡ Some at
first_here ps qs at h = first_append ps qs ∙ ap (λ o. either o (first qs)) h

-- it is not in the first row
pub first_later : (ps qs : List SourcePart) → first ps ≡ None → first (ps ++ qs) ≡ first qs
first_later ps qs h = first_append ps qs ∙ ap (λ o. either o (first qs)) h

-- rows with the same first ones
pub first_same : (ps qs rs ss : List SourcePart) → first ps ≡ first rs → first qs ≡ first ss → first (ps ++ qs) ≡ first (rs ++ ss)
first_same ps qs rs ss h k = first_append ps qs ∙ ap (λ o. either o (first qs)) h ∙ ap (either (first rs)) k ∙ sym (first_append rs ss)

-- a row of parts is one after another
pub record Splits (rs ps qs : List SourcePart) : Type 0 where
  pub is : rs ≡ ps ++ qs

pub splits_here : {rs ps qs : List SourcePart} {at : ℕ} → Splits rs ps qs → first ps ≡ Some at → first rs ≡ Some at
splits_here {ps = ps} {qs = qs} {at = at} s h = ap first s.is ∙ first_here ps qs at h

pub splits_later : {rs ps qs : List SourcePart} → Splits rs ps qs → first ps ≡ None → first rs ≡ first qs
splits_later {ps = ps} {qs = qs} s h = ap first s.is ∙ first_later ps qs h
