-- Worked instances of the definitions, by computation.
use Rattle.std.proofs.Common.{refl}
use Rattle.ft_theory.specs.Expressions.{put, act, pushes, push, lift, lifts, rename, body_or, count}
use Rattle.ft_laws.specs.Examples.{TermsInOrder, ConclusionOfApplication, PremisesOfApplication}

pub terms_in_order : TermsInOrder
unfolding put pushes push lifts lift rename
terms_in_order = refl

pub conclusion_of_application : ConclusionOfApplication
unfolding put act pushes push body_or count lifts
conclusion_of_application = refl

pub premises_of_application : PremisesOfApplication
unfolding put act pushes push body_or count lifts lift rename
premises_of_application = refl
