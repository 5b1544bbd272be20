-- Words ask for one job; what is said of bytes that are told.
use Rattle.std.proofs.Common.{◌≡◌, ◌∙◌, sym, subst, ℕ, ◌⊎◌, inl, List, Option, Some}
use Rattle.std.specs.Prelude.{IfSome}
use Rattle.ft_common.proofs.Options.{one_value, none_some}
use Rattle.ft_meaning.specs.Texts.{Text}
use Rattle.ft_answers.specs.declared.wanted.Wanted.{Wanted}
use Rattle.ft_answers.specs.declared.wanted.Wanted.TheVariants.{Run, Export, Check}
use Rattle.ft_answers.specs.CommandLine.{wanted_of}
use Rattle.ft_whole_answers.specs.Asking.{IsAsked, IsNoJob, MayBreakOff}

pub one_job : (words : List Text) (j k : Wanted) → IsAsked words j → IsAsked words k → j ≡ k
one_job words j k a b = one_value (wanted_of words) j k a b

pub no_job : (words : List Text) (j : Wanted) → IsNoJob words → IsAsked words j → ⊥
no_job words j n a = none_some (sym n ∙ a)

pub told : (P : Text → Type 0) (o : Option Text) (bs : Text) → o ≡ Some bs → IfSome o P → P bs
told P o bs e h = subst (λ o. IfSome o P) e h

pub breaks : (j : Wanted) (n : ℕ) → MayBreakOff j n → (n ≡ 4) ⊎ (n ≡ 17)
breaks (Run b) n h = h
breaks (Export b) n h = h
breaks (Check t) n h = inl h
