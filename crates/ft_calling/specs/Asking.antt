-- Which words are asked of the nucleus.

use Rattle.ft_grammar.specs.declared.form.OneForm.{OneForm}
use Rattle.ft_grammar.specs.declared.form.OneForm.TheVariants.{Normal, Boundaryof, SomeWord}
use Rattle.ft_grammar.specs.declared.form.TwoForm.{TwoForm}
use Rattle.ft_grammar.specs.declared.form.TwoForm.TheVariants.{Equal}

-- The word is asked of a judgement: `normal` is asked of the equality checker, `boundaryof` gives a
-- boundary, `some` asks nothing.
abbrev pub IsAskedOfJudgement : OneForm → Type 0
IsAskedOfJudgement Normal = ⊥
IsAskedOfJudgement Boundaryof = ⊥
IsAskedOfJudgement SomeWord = ⊥
IsAskedOfJudgement w = Unit {0}

-- it may stand before a boundary, where all words but those for parts are stuck; `some` asks nothing
abbrev pub IsAskedOfBoundary : OneForm → Type 0
IsAskedOfBoundary SomeWord = ⊥
IsAskedOfBoundary w = Unit {0}

-- the word is asked of two judgements; `equal` is asked of the equality checker
abbrev pub IsAskedOfTwo : TwoForm → Type 0
IsAskedOfTwo Equal = ⊥
IsAskedOfTwo w = Unit {0}
