-- Runs in a row.
use Rattle.std.proofs.Common.{◌≡◌, ap, refl, Ok, Err}
use Rattle.ft_meaning.specs.Values.{Outcome, Run, after, State as Running}
use Rattle.ft_running.specs.Evaluation.{Evaluation}
use Rattle.ft_running.specs.Telling.{TellsEnd}
use Rattle.ft_running.specs.declared.ending.End.{End}
use Rattle.ft_running.specs.declared.ending.End.TheVariants as ending

-- what follows what follows a value
pub after_after : {A B C : Type 0} (o : Outcome A) (f : A → Run B) (g : B → Run C)
    → after (after o f) g ≡ after o (λ a s. after (f a s) g)
after_after (Ok a, s) f g = refl
after_after (Err e, s) f g = refl

-- two runs that give the same after each value
pub after_same : {A B : Type 0} (o : Outcome A) (f g : A → Run B)
    → ((a : A) (s : Running) → f a s ≡ g a s) → after o f ≡ after o g
after_same (Ok a, s) f g same = same a s
after_same (Err e, s) f g same = refl

-- an end stays one whatever would follow a value
pub ends_after : {A B : Type 0} (o : Outcome A) (f : A → Run B) (e : End) (S : Evaluation)
    → TellsEnd o e S → TellsEnd (after o f) e S
ends_after o f (ending.Performs op) S h = (ap (λ o. after o f) h.0, h.1)
ends_after o f (ending.Halts q) S h = λ no. ((h no).0, ap (λ o. after o f) (h no).1)
