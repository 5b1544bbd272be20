-- Lists of checks: when no check fails.
use Rattle.std.proofs.Common.{◌≡◌, Bool, true, false, cond, ◌&&◌, Option, Some, None, List, [], ◌∷◌, ◌++◌, refl, ap, ◌∙◌}
use Rattle.std.proofs.lemmas.Bool.{and_parts, and_from}
use Rattle.std.proofs.Math.Bool.{and-true}
use Rattle.std.proofs.lemmas.Option.{same_Some}
use Rattle.ft_common.proofs.Options.{none_some, some_none}
use Rattle.ft_theory.specs.Expressions.{Expression}
use Rattle.ft_theory.specs.Statements.{Statement}
use Rattle.ft_theory.specs.Small.{is_small}
use Rattle.ft_reference.specs.Refusals.{Refusal, Check, asks, forms, holds, refusal_of, first_refusal, formed, AllSmall, forms_all, forms_result, expressions}
use Rattle.ft_reference.specs.Declare.{first_of}
use Rattle.ft_nucleus_laws.specs.Laws.{AllHold, FailsFirst}
use Rattle.ft_items.proofs.Smallness.{small_true, true_small}

-- conjunctions
pub and_swap : (a b c : Bool) → (a && (b && c)) ≡ (b && (a && c))
and_swap true b c = refl
and_swap false true c = refl
and_swap false false c = refl

pub and_assoc : (a b c : Bool) → (a && (b && c)) ≡ ((a && b) && c)
and_assoc true b c = refl
and_assoc false b c = refl

-- the tests that the checks ask
abbrev pub asked : List Check → Bool
asked [] = true
asked (asks b r ∷ cs) = b && asked cs
asked (forms e ∷ cs) = asked cs

pub asked_append : (cs ds : List Check) → asked (cs ++ ds) ≡ (asked cs && asked ds)
asked_append [] ds = refl
asked_append (asks b r ∷ cs) ds = ap (λ z. b && z) (asked_append cs ds) ∙ and_assoc b (asked cs) (asked ds)
asked_append (forms e ∷ cs) ds = asked_append cs ds

pub asked_forms : (es : List Expression) → asked (forms_all es) ≡ true
asked_forms [] = refl
asked_forms (e ∷ es) = asked_forms es

pub asked_result : (o : Option Statement) → asked (forms_result o) ≡ true
asked_result None = refl
asked_result (Some x) = asked_forms (expressions x)

-- checks that form a result at their end
pub before_result : (cs : List Check) (o : Option Statement) → asked (cs ++ forms_result o) ≡ asked cs
before_result cs o = asked_append cs (forms_result o) ∙ ap (λ z. asked cs && z) (asked_result o) ∙ and-true (asked cs)

-- checks after an expression is formed
pub after_forms : (es : List Expression) (cs : List Check) → asked (forms_all es ++ cs) ≡ asked cs
after_forms es cs = asked_append (forms_all es) cs ∙ ap (λ z. z && asked cs) (asked_forms es)

-- no check fails exactly where all that is asked holds and all that is formed is small
pub passes : (cs : List Check) → asked cs ≡ true → AllSmall (formed cs) → first_refusal cs ≡ None
passes [] h k = refl
passes (asks b r ∷ cs) h k =
    let p : (b ≡ true) × (asked cs ≡ true) = and_parts b (asked cs) h in
    ap (λ z. cond z (first_refusal cs) (Some r)) p.0 ∙ passes cs p.1 k
passes (forms e ∷ cs) h k = ap (λ z. cond z (first_refusal cs) (Some (refusal_of (forms e)))) (small_true e k.0) ∙ passes cs h k.1

-- where a test decides between a later refusal and a present one, and there is none, the test holds
none_after : (b : Bool) (o : Option Refusal) (r : Refusal) → cond b o (Some r) ≡ None → (b ≡ true) × (o ≡ None)
none_after true o r h = (refl, h)
none_after false o r h = some_none h

pub passed : (cs : List Check) → first_refusal cs ≡ None → (asked cs ≡ true) × AllSmall (formed cs)
passed [] h = (refl, tt)
passed (asks b r ∷ cs) h =
    let p : (b ≡ true) × (first_refusal cs ≡ None) = none_after b (first_refusal cs) r h in
    (and_from b (asked cs) p.0 (passed cs p.1).0, (passed cs p.1).1)
passed (forms e ∷ cs) h =
    let p : (is_small e ≡ true) × (first_refusal cs ≡ None) = none_after (is_small e) (first_refusal cs) (refusal_of (forms e)) h in
    ((passed cs p.1).0, (true_small e p.0, (passed cs p.1).1))

-- the first refusal is that of the first check that fails
pub fails_first : (cs : List Check) (r : Refusal) → first_refusal cs ≡ Some r → FailsFirst cs r
fails_first [] r h = none_some h
fails_first (c ∷ cs) r h = go (holds c) refl h (fails_first cs r)
  where
    go : (b : Bool) → holds c ≡ b → cond b (first_refusal cs) (Some (refusal_of c)) ≡ Some r → (first_refusal cs ≡ Some r → FailsFirst cs r) → FailsFirst (c ∷ cs) r
    go true q k ih = let f : FailsFirst cs r = ih k in (c ∷ f.0, f.1, f.2, ap (λ z. c ∷ z) f.3, (q, f.4), f.5, f.6)
    go false q k ih = ([], c, cs, refl, tt, q, same_Some (refusal_of c) r k)

pub first_fails : (before : List Check) (c : Check) (after : List Check) → AllHold before → holds c ≡ false → first_refusal (before ++ (c ∷ after)) ≡ Some (refusal_of c)
first_fails [] c after h k = ap (λ z. cond z (first_refusal after) (Some (refusal_of c))) k
first_fails (b ∷ before) c after h k = ap (λ z. cond z (first_refusal (before ++ (c ∷ after))) (Some (refusal_of b))) h.0 ∙ first_fails before c after h.1 k

-- the first refusal of two lists, one after the other
pub first_append : (cs ds : List Check) → first_refusal (cs ++ ds) ≡ first_of (first_refusal cs) (first_refusal ds)
first_append [] ds = refl
first_append (c ∷ cs) ds = go (holds c) (first_append cs ds)
  where
    go : (b : Bool) → first_refusal (cs ++ ds) ≡ first_of (first_refusal cs) (first_refusal ds) → cond b (first_refusal (cs ++ ds)) (Some (refusal_of c)) ≡ first_of (cond b (first_refusal cs) (Some (refusal_of c))) (first_refusal ds)
    go true ih = ih
    go false ih = refl
