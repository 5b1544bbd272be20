-- Parts of a source that are all built.
use Rattle.std.proofs.Common.{◌≡◌, ℕ, Bool, true, false, cond, Some, None, List, [], ◌∷◌, ◌++◌, refl, ap, ◌∙◌}
use Rattle.ft_common.proofs.Options.{some_none}
use Rattle.ft_meaning.specs.Stages.{Stage, Feature, SourcePart, first_not_built}

-- no part is found that is not built
pub record AllBuilt (B : Stage) (ps : List SourcePart) : Type 0 where
  pub none : first_not_built B ps ≡ None

first_built : (B : Stage) (b : Bool) (at : ℕ) (ps : List SourcePart) → cond b (first_not_built B ps) (Some at) ≡ None → (b ≡ true) × AllBuilt B ps
first_built B true at ps h = (refl, record { none = h })
first_built B false at ps h = some_none h

-- the first part, and those after it
pub here_built : (B : Stage) (f : Feature) (at : ℕ) (ps : List SourcePart) → AllBuilt B ((f, at) ∷ ps) → B f ≡ true
here_built B f at ps h = (first_built B (B f) at ps h.none).0

pub rest_built : (B : Stage) (f : Feature) (at : ℕ) (ps : List SourcePart) → AllBuilt B ((f, at) ∷ ps) → AllBuilt B ps
rest_built B f at ps h = (first_built B (B f) at ps h.none).1

-- of two rows of parts the first, and the second
both_built : (B : Stage) (ps qs : List SourcePart) → AllBuilt B (ps ++ qs) → AllBuilt B ps × AllBuilt B qs
both_built B [] qs h = (record { none = refl }, h)
both_built B (p ∷ ps) qs h = go (B p.0) refl h.none (both_built B ps qs)
  where
    go : (b : Bool) → B p.0 ≡ b → cond b (first_not_built B (ps ++ qs)) (Some p.1) ≡ None → (AllBuilt B (ps ++ qs) → AllBuilt B ps × AllBuilt B qs) → AllBuilt B (p ∷ ps) × AllBuilt B qs
    go true e k ih = let r : AllBuilt B ps × AllBuilt B qs = ih (record { none = k }) in (record { none = ap (λ z. cond z (first_not_built B ps) (Some p.1)) e ∙ r.0.none }, r.1)
    go false e k ih = some_none k

pub left_built : (B : Stage) (ps qs : List SourcePart) → AllBuilt B (ps ++ qs) → AllBuilt B ps
left_built B ps qs h = (both_built B ps qs h).0

pub right_built : (B : Stage) (ps qs : List SourcePart) → AllBuilt B (ps ++ qs) → AllBuilt B qs
right_built B ps qs h = (both_built B ps qs h).1
