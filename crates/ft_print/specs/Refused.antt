-- Parts of the text of a refusal.
use Rattle.std.specs.Prelude.{ℕ, ◌<◌, List, ◌++◌, codes, decimal}
use Rattle.ft_judge.specs.declared.fault.Differ.{Differ}

-- both expressions are among the first n trees
abbrev pub DifferBelow : ℕ → Differ → Type 0
DifferBelow n d = (d.found < n) × (d.wanted < n)

-- so many arguments given, and so many wanted
abbrev pub counts_text : ℕ → ℕ → List ℕ
counts_text given wanted = codes "ArgumentCount: " ++ decimal given ++ codes " given, " ++ decimal wanted ++ codes " wanted"
