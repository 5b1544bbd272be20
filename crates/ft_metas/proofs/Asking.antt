-- Checks of the parts of a call, one after the other.
use Rattle.std.proofs.Common.{◌≡◌, ◌∙◌, None, List, ◌++◌, ap}
use Rattle.ft_theory.specs.Expressions.{Expression}
use Rattle.ft_reference.specs.Refusals.{Check, first_refusal, AllSmall, forms_all}
use Rattle.ft_reference.specs.Declare.{first_of}
use Rattle.ft_nucleus_laws.proofs.Lists.{first_append}
use Rattle.ft_syntax.specs.declared.syntax.SynFault.{SynFault}
use Rattle.ft_syntax.specs.declared.syntax.SynFault.TheVariants as syntax
use Rattle.ft_judge.specs.Faults as faults
use Rattle.ft_judge.specs.declared.fault.Refusal.{Refusal}
use Rattle.ft_judge.specs.declared.fault.Fault.{Fault}
use Rattle.ft_judge.specs.declared.fault.Fault.TheVariants.{Refused, Memory}
use Rattle.ft_calls.specs.Forming.{Refuses}
use Rattle.ft_calls.proofs.Later.{forms_fail}
use Rattle.ft_metas.specs.Outcomes.{BigOr, Stops}

-- two lists of checks
pub both_pass : (cs ds : List Check) → first_refusal cs ≡ None → first_refusal (cs ++ ds) ≡ first_refusal ds
both_pass cs ds h = first_append cs ds ∙ ap (λ o. first_of o (first_refusal ds)) h

pub refused_first : (ts : List Expression) (cs ds : List Check) (q : Refusal) → Refuses ts cs q → Refuses ts (cs ++ ds) q
refused_first ts cs ds q h = (first_append cs ds ∙ ap (λ o. first_of o (first_refusal ds)) h.0, h.1)

pub stops_first : (ts : List Expression) (cs ds : List Check) (f : Fault) → Stops ts cs f → Stops ts (cs ++ ds) f
stops_first ts cs ds (Refused q) h = refused_first ts cs ds q h
stops_first ts cs ds Memory h = tt

-- the same refusals, by other checks
pub stops_as : (ts : List Expression) (cs ds : List Check) (f : Fault) → first_refusal cs ≡ first_refusal ds → Stops ts ds f → Stops ts cs f
stops_as ts cs ds (Refused q) e h = (e ∙ h.0, h.1)
stops_as ts cs ds Memory e h = tt

-- what is formed at the end is too big
pub big_last : (ts : List Expression) (cs ds : List Check) (es : List Expression) (P : Type 0) (f : SynFault) → first_refusal cs ≡ None → first_refusal ds ≡ first_refusal (forms_all es) → (AllSmall es → P) → BigOr P f → Stops ts (cs ++ ds) (faults.refused f)
big_last ts cs ds es P syntax.TooBig h e k n = (both_pass cs ds h ∙ e ∙ forms_fail es (λ s. n (k s)), tt)
big_last ts cs ds es P syntax.Memory h e k n = tt
