-- The parts of statements under their domains, and the calls that give them.
use Rattle.std.proofs.Common.{◌≡◌, ◌∙◌, ℕ, Option, Some, None, is_some, List, [], ◌∷◌, refl, ap, ap₂, sym, subst, option_map}
use Rattle.std.specs.Prelude.{Result, ok_or, IfSome, IfOk}
use Rattle.ft_theory.specs.Expressions.{Expression}
use Rattle.ft_theory.specs.Statements.{Claim, Statement, plain, abstracted, boundary_of}
use Rattle.ft_items.specs.Item.{by_left, by_right, by_typeof, by_domain, by_boundary}
use Rattle.ft_items.specs.Equal.{is_thesis}
use Rattle.ft_items.specs.Rows.{under_domains, left_side, right_side, type_part}
use Rattle.ft_items.specs.Store.{Assertion, Resolved}
use Rattle.ft_reference.specs.Refusals.{asks, first_refusal}
use Rattle.ft_reference.specs.Refusals as reference
use Rattle.ft_syntax.specs.Table.{tree, AllBelow}
use Rattle.ft_judge.specs.Meaning.{claim_in, under, FormBelow}
use Rattle.ft_judge.specs.declared.judgement.Form.{Form}
use Rattle.ft_judge.specs.declared.fault.Refusal.{Refusal}
use Rattle.ft_judge.specs.declared.fault.Refusal.TheVariants.{WrongForm}
use Rattle.ft_calls.proofs.Calling.{IsCallOfOne, IsCallOfEither, one_thesis}
use Rattle.ft_nucleus.specs.Sides.{side_step, side_row, side_refusal, side_checks, claim_part, domains_left, FormsSide}
use Rattle.ft_nucleus.specs.declared.parts.Which.{Which}
use Rattle.ft_nucleus.specs.declared.parts.Which.TheVariants.{Left, Right, Ty, Domain}

under_both : (A : Expression) (f : Claim → Statement) (o : Option Claim) → option_map (abstracted A) (option_map f o) ≡ option_map (λ d. abstracted A (f d)) o
under_both A f None = refl
under_both A f (Some c) = refl

under_domains-under : (f : Claim → Option Claim) (ts : List Expression) (ds : List ℕ) (c : Claim) → under_domains f (under ts ds (plain c)) ≡ option_map (λ d. under ts ds (plain d)) (f c)
under_domains-under f ts [] c = refl
under_domains-under f ts (d ∷ ds) c = ap (option_map (abstracted (tree ts d))) (under_domains-under f ts ds c) ∙ under_both (tree ts d) (λ d. under ts ds (plain d)) (f c)

-- a side or the type, below the domains
pub part_is : (w : Which) (ts : List Expression) (ds : List ℕ) (c : Claim) → (w ≡ Domain → ⊥) → side_row w (under ts ds (plain c)) ≡ option_map (λ d. under ts ds (plain d)) (claim_part w c)
part_is Left ts ds c n = under_domains-under left_side ts ds c
part_is Right ts ds c n = under_domains-under right_side ts ds c
part_is Ty ts ds c n = under_domains-under type_part ts ds c
part_is Domain ts ds c n = absurd (n refl)

left_around : (w : Which) (ds : List ℕ) → (w ≡ Domain → ⊥) → domains_left w ds ≡ ds
left_around Left ds n = refl
left_around Right ds n = refl
left_around Ty ds n = refl
left_around Domain ds n = absurd (n refl)

pub part_given : (w : Which) (ts : List Expression) (ds : List ℕ) (c : Claim) (b : Option Form) (r : Result Form Refusal) → (w ≡ Domain → ⊥) → r ≡ ok_or b WrongForm
    → option_map (claim_in ts) b ≡ claim_part w c → FormsSide w ts ds c r
part_given w ts ds c b r n same h = subst (FormsSide w ts ds c) (sym same) (go b h)
  where
    row : (o : Option Form) → option_map (claim_in ts) o ≡ claim_part w c → side_row w (under ts ds (plain c)) ≡ option_map (λ d. under ts ds (plain d)) (option_map (claim_in ts) o)
    row o h = part_is w ts ds c n ∙ ap (option_map (λ d. under ts ds (plain d))) (sym h)

    refusal_is : (w : Which) → (w ≡ Domain → ⊥) → side_refusal w ≡ reference.WrongForm
    refusal_is Left n = refl
    refusal_is Right n = refl
    refusal_is Ty n = refl
    refusal_is Domain n = absurd (n refl)

    go : (o : Option Form) → option_map (claim_in ts) o ≡ claim_part w c → FormsSide w ts ds c (ok_or o WrongForm)
    go None h = (ap₂ (λ o q. first_refusal (asks (is_some o) q ∷ [])) (row None h) (refusal_is w n), tt)
    go (Some f) h = (ap (λ o. first_refusal (asks (is_some o) (side_refusal w) ∷ [])) (row (Some f) h), row (Some f) h ∙ ap (λ es. Some (under ts es (plain (claim_in ts f)))) (sym (left_around w ds n)))

-- the calls, each by its step
abbrev pub side_of : Which → Assertion → Resolved
side_of Left P = by_left P
side_of Right P = by_right P
side_of Ty P = by_typeof P
side_of Domain P = by_domain P

pub parted : (w : Which) → IsCallOfEither (side_step w) (side_of w) (side_checks w) (side_row w)
parted Left = record { resolves = λ W p. refl; kind = λ P. refl; checks_are = λ W P. refl; row_is = λ W P. refl; set_is = λ P. refl }
parted Right = record { resolves = λ W p. refl; kind = λ P. refl; checks_are = λ W P. refl; row_is = λ W P. refl; set_is = λ P. refl }
parted Ty = record { resolves = λ W p. refl; kind = λ P. refl; checks_are = λ W P. refl; row_is = λ W P. refl; set_is = λ P. refl }
parted Domain = record { resolves = λ W p. refl; kind = λ P. refl; checks_are = λ W P. refl; row_is = λ W P. refl; set_is = λ P. refl }

pub left_below : (w : Which) (n : ℕ) (ds : List ℕ) → AllBelow n ds → AllBelow n (domains_left w ds)
left_below Left n ds h = h
left_below Right n ds h = h
left_below Ty n ds h = h
left_below Domain n ds h = tt

pub part_below : (n : ℕ) (b : Option Form) (r : Result Form Refusal) → r ≡ ok_or b WrongForm → IfSome b (λ f. FormBelow n f) → IfOk r (λ f. FormBelow n f)
part_below n b r same h = subst (λ r. IfOk r (λ f. FormBelow n f)) (sym same) (go b h)
  where
    go : (o : Option Form) → IfSome o (λ f. FormBelow n f) → IfOk (ok_or o WrongForm) (λ f. FormBelow n f)
    go None h = tt
    go (Some f) h = h

pub bounds : IsCallOfOne by_boundary by_boundary (λ x. []) (λ x. Some (boundary_of x))
bounds = record { resolves = λ W p. refl; kind = λ P h. one_thesis (is_thesis P.statement) h; checks_are = λ W P. refl; row_is = λ W P. refl; set_is = λ P. refl }
