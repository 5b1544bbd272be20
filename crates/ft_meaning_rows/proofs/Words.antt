-- By computation.
use Rattle.std.proofs.Common.{refl}
use Rattle.ft_meaning_rows.specs.Written.{Holds, AllHold}
use Rattle.ft_meaning_rows.specs.Words as row
use Rattle.ft_meaning_rows.proofs.Running.{holds, running}

equations : Holds row.equations
unfolding running
equations = holds row.equations refl

parts : Holds row.parts
unfolding running
parts = holds row.parts refl

conversions : Holds row.conversions
unfolding running
conversions = holds row.conversions refl

local : Holds row.local
unfolding running
local = holds row.local refl

patterns : Holds row.patterns
unfolding running
patterns = holds row.patterns refl

equation_premise : Holds row.equation_premise
unfolding running
equation_premise = holds row.equation_premise refl

pub each_holds : AllHold row.words
each_holds = (equations, (parts, (conversions, (local, (patterns, (equation_premise, tt))))))
