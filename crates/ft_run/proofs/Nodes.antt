-- How many names stand in an application.
use Rattle.std.specs.Prelude.{ℕ, suc, ◌+◌, List, [], ◌∷◌}
use Rattle.ft_applications_meaning.specs.declared.syntax.Application.{Application}
use Rattle.ft_applications_meaning.specs.declared.syntax.Application.TheOpen.{Application-F}
use Rattle.ft_applications_meaning.specs.declared.syntax.Application.TheFolds.{fold-Application}

-- the sum of numbers
abbrev pub total : List ℕ → ℕ
total [] = 0
total (n ∷ ns) = n + total ns

-- how many names stand in an application
abbrev pub nodes_in_layer : Application-F ℕ → ℕ
nodes_in_layer (Application-F.Apply n ks) = suc (total ks)

abbrev pub nodes : Application → ℕ
nodes a = fold-Application ℕ nodes_in_layer a
