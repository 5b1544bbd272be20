-- Rules at arguments, as the meaning has them.
use Rattle.std.proofs.Common.{◌≡◌, ◌∙◌, ap, ap₂, refl, sym, ℕ, List, [], ◌∷◌, Some}
use Rattle.std.specs.Prelude.{option_map, option_and_then}
use Rattle.ft_items.specs.Item.{by_inst, by_rule}
use Rattle.ft_items.specs.Store.{Assertion, store_of, with_two, each, entry_named}
use Rattle.ft_kernel.specs.State.{State}
use Rattle.ft_calls.proofs.Answering.{entry_in}
use Rattle.ft_values.specs.Kept.{stated}
use Rattle.ft_telling.specs.Words.{stated_all, AreEntriesOf, ConclusionsAreTold, PremisesAreTold}
use Rattle.ft_telling.proofs.Calls.{tells_judgement, tells_statement}

-- the entries of arguments
pub arguments_named : (s : State) (js : List ℕ) → AreEntriesOf s js → each (entry_named (store_of s.items)) js ≡ Some (stated_all s js)
arguments_named s [] h = refl
arguments_named s (j ∷ js) h =
    ap₂ (λ o q. option_and_then (λ (b : Assertion). option_map (λ bs. b ∷ bs) q) o)
    (entry_in s j h.0.0 h.0.1 ∙ ap (λ (a : Assertion). Some a) (sym (ap stated h.0.1))) (arguments_named s js h.1)

pub conclusion_tells : ConclusionsAreTold
conclusion_tells s t u at r R js o named h a =
    tells_judgement s t u at (by_rule r js) (by_rule R (stated_all s js)) o (ap₂ (with_two by_rule) named (arguments_named s js h)) a

pub premise_tells : PremisesAreTold
premise_tells s t u at r R js o named h a =
    tells_statement s t u at (by_inst r js) (by_inst R (stated_all s js)) o (ap₂ (with_two by_inst) named (arguments_named s js h)) a
