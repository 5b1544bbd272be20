-- The parts of statements, by which is asked for.
use Rattle.std.specs.Prelude.{ℕ, ◌≡◌, option_map, Option, None, is_some, Result, List, [], ◌∷◌}
use Rattle.ft_theory.specs.Statements.{Claim, Statement, plain}
use Rattle.ft_theory.specs.Expressions.{Expression}
use Rattle.ft_items.specs.Item.{Stated, by_left, by_right, by_typeof, by_domain}
use Rattle.ft_items.specs.Rows.{left_side, right_side, type_part, under_domains, first_domain}
use Rattle.ft_reference.specs.Refusals.{Check, Refusal, WrongForm, NotAbstracted, asks}
use Rattle.ft_judge.specs.Meaning.{claim_in, under}
use Rattle.ft_judge.specs.declared.judgement.Form.{Form}
use Rattle.ft_judge.specs.declared.fault.Refusal as judge
use Rattle.ft_calls.specs.Forming.{Forms, plain_in}
use Rattle.ft_nucleus.specs.declared.parts.Which.{Which}
use Rattle.ft_nucleus.specs.declared.parts.Which.TheVariants.{Left, Right, Ty, Domain}

-- the step for the part of an entry
abbrev pub side_step : Which → ℕ → Stated
side_step Left p = by_left p
side_step Right p = by_right p
side_step Ty p = by_typeof p
side_step Domain p = by_domain p

-- the part of a claim or goal below its domains; the first domain is none
abbrev pub claim_part : Which → Claim → Option Claim
claim_part Left c = left_side c
claim_part Right c = right_side c
claim_part Ty c = type_part c
claim_part Domain c = None

-- the part of a statement
abbrev pub side_row : Which → Statement → Option Statement
side_row Left x = under_domains left_side x
side_row Right x = under_domains right_side x
side_row Ty x = under_domains type_part x
side_row Domain x = first_domain x

-- why there is none
abbrev pub side_refusal : Which → Refusal
side_refusal Left = WrongForm
side_refusal Right = WrongForm
side_refusal Ty = WrongForm
side_refusal Domain = NotAbstracted

-- the check of the call
abbrev pub side_checks : Which → Statement → List Check
side_checks w x = asks (is_some (side_row w x)) (side_refusal w) ∷ []

-- the domains that stand around the part
abbrev pub domains_left : Which → List ℕ → List ℕ
domains_left Left ds = ds
domains_left Right ds = ds
domains_left Ty ds = ds
domains_left Domain ds = []

-- a form is the part of the claim or goal under the domains, or there is none
abbrev pub FormsSide : Which → List Expression → List ℕ → Claim → Result Form judge.Refusal → Type 0
FormsSide w ts ds c r =
    Forms (λ f. under ts (domains_left w ds) (plain_in ts f)) ts (side_checks w (under ts ds (plain c))) (side_row w (under ts ds (plain c))) r

-- so it is for each claim or goal over a table that has the given form as its part below the domains
abbrev pub FormsPart : Which → Option Form → List ℕ → Result Form judge.Refusal → Type 0
FormsPart w below ds r = (ts : List Expression) (c : Claim) → option_map (claim_in ts) below ≡ claim_part w c → FormsSide w ts ds c r

-- and for the first domain of each claim or goal
abbrev pub FormsDomain : List ℕ → Result Form judge.Refusal → Type 0
FormsDomain ds r = (ts : List Expression) (c : Claim) → FormsSide Domain ts ds c r
