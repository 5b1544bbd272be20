-- Theses in a list.
use Rattle.std.proofs.Common.{ℕ, List, [], ◌∷◌, ◌++◌}
use Rattle.ft_kernel.specs.State.{State, IsThesisOf}
use Rattle.ft_metas.specs.Named as metas
use Rattle.ft_apply.specs.Named.{AreThesesOf}

pub theses_more : (s : State) (js : List ℕ) (j : ℕ) → AreThesesOf s js → IsThesisOf s j → AreThesesOf s (js ++ j ∷ [])
theses_more s [] j h t = (t, tt)
theses_more s (i ∷ js) j h t = (h.0, theses_more s js j h.1 t)

pub theses_same : (s : State) (js : List ℕ) → AreThesesOf s js → metas.AreThesesOf s js
theses_same s [] h = tt
theses_same s (j ∷ js) h = (h.0, theses_same s js h.1)
