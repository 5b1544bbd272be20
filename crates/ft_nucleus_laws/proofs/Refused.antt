-- When declarations and wide metavariables are refused.
use Rattle.std.proofs.Common.{◌≡◌, ℕ, zero, suc, ◌<◌, ◌≤◌, Bool, true, false, cond, nat_lt, nat_le, ◌&&◌, ◌↔◌, Option, Some, None, [], length, refl, sym, ap, ◌∙◌, arith}
use Rattle.std.specs.Prelude.{option_map, Result, Ok, Err}
use Rattle.std.proofs.lemmas.Bool.{ltb-true, ltb-false, lt-ltb, le-ltb, lt-leb}
use Rattle.std.proofs.lemmas.Option.{same_Some}
use Rattle.ft_common.proofs.Options.{none_some}
use Rattle.ft_common.proofs.Booleans.{false_true, true_false}
use Rattle.ft_theory.specs.Expressions.{meta}
use Rattle.ft_theory.specs.Statements.{domain_count}
use Rattle.ft_theory.specs.Small.{depth, size, size_of_terms, number_limits, is_kept, is_small}
use Rattle.ft_items.specs.Sets.{Atom}
use Rattle.ft_items.specs.Item.{by_generic}
use Rattle.ft_items.specs.Rows.{bounds, atoms}
use Rattle.ft_items.specs.Good.{is_new, given}
use Rattle.ft_reference.specs.Refusals.{first_refusal, TooBig}
use Rattle.ft_reference.specs.Checks.{forms_application}
use Rattle.ft_reference.specs.Calls.{answered}
use Rattle.ft_reference.specs.Declare.{outcome, refused_unless, first_of, RuleFault, Duplicate, TooMany, OpenPremise, OpenConclusion, Draft, name_fault, next_metavariable, next_rule, first_outside}
use Rattle.ft_nucleus_laws.specs.Laws.{Answers, NamesRefused, OpenRefused, WideRefused}

-- an outcome is refused with e exactly where e is the refusal
refused : {S A : Type 0} (o : Option RuleFault) (old made : S) (a : A) (e : RuleFault) → Answers (outcome o old made a) (Err e) ↔ (o ≡ Some e)
refused {S} {A} None old made a e = (λ h. absurd (clash (outcome None old made a).answer refl h), λ h. none_some h)
  where
    clash : (x : Result A RuleFault) → x ≡ Ok a → x ≡ Err e → ⊥
    clash x p q = cc
refused {S} {A} (Some f) old made a e = (λ h. ap Some (same (outcome (Some f) old made a).answer refl h), λ h. ap Err (same_Some f e h))
  where
    same : (x : Result A RuleFault) → x ≡ Err f → x ≡ Err e → f ≡ e
    same x p q = cc

-- the faults of a name, by the two tests
abbrev faults : Bool → Bool → Option RuleFault
faults b c = first_of (refused_unless b Duplicate) (refused_unless c TooMany)

duplicate_is : (b c : Bool) (o : Option RuleFault) → ((a : RuleFault) → o ≡ Some a → a ≡ Duplicate → ⊥) → (first_of (faults b c) o ≡ Some Duplicate) ↔ (b ≡ false)
duplicate_is false c o n = (λ h. refl, λ h. refl)
duplicate_is true false o n = (λ h. absurd (clash h), λ h. true_false h)
  where
    clash : Some TooMany ≡ Some Duplicate → ⊥
    clash h = cc
duplicate_is true true o n = (λ h. absurd (n Duplicate h refl), λ h. true_false h)

too_many_is : (b c : Bool) (o : Option RuleFault) → ((a : RuleFault) → o ≡ Some a → a ≡ TooMany → ⊥) → (first_of (faults b c) o ≡ Some TooMany) ↔ ((b ≡ true) × (c ≡ false))
too_many_is false c o n = (λ h. absurd (clash h), λ h. false_true h.0)
  where
    clash : Some Duplicate ≡ Some TooMany → ⊥
    clash h = cc
too_many_is true false o n = (λ h. (refl, refl), λ h. refl)
too_many_is true true o n = (λ h. absurd (n TooMany h refl), λ h. true_false h.1)

open_is : (b c : Bool) (o : Option Atom) (a : Atom) → (first_of (faults b c) (option_map OpenConclusion o) ≡ Some (OpenConclusion a)) ↔ ((b ≡ true) × (c ≡ true) × (o ≡ Some a))
open_is false c o a = (λ h. absurd (clash h), λ h. false_true h.0)
  where
    clash : Some Duplicate ≡ Some (OpenConclusion a) → ⊥
    clash h = cc
open_is true false o a = (λ h. absurd (clash h), λ h. false_true h.1)
  where
    clash : Some TooMany ≡ Some (OpenConclusion a) → ⊥
    clash h = cc
open_is true true None a = (λ h. none_some h, λ h. none_some h.2)
open_is true true (Some b) a = (λ h. (refl, refl, ap Some (inside h)), λ h. ap (λ z. option_map OpenConclusion z) h.2)
  where
    inside : Some (OpenConclusion b) ≡ Some (OpenConclusion a) → b ≡ a
    inside h = cc

-- one after the other
through : {P Q R : Type 0} → P ↔ Q → Q ↔ R → P ↔ R
through f g = (λ p. g.0 (f.0 p), λ r. f.1 (g.1 r))

-- there are too many
many : (n : ℕ) → (nat_lt n 65536 ≡ false) ↔ (65536 ≤ n)
many n = (ltb-false n 65536, le-ltb n 65536)

few : (n : ℕ) → (nat_lt n 65536 ≡ true) ↔ (n < 65536)
few n = (ltb-true n 65536, lt-ltb n 65536)

with_many : (P : Type 0) (n : ℕ) → (P × (nat_lt n 65536 ≡ false)) ↔ (P × (65536 ≤ n))
with_many P n = (λ h. (h.0, (many n).0 h.1), λ h. (h.0, (many n).1 h.1))

none_fault : (e : RuleFault) (f : RuleFault) → None ≡ Some f → f ≡ e → ⊥
none_fault e f h k = none_some h

no_more : (o : Option RuleFault) → first_of o None ≡ o
no_more None = refl
no_more (Some e) = refl

open_not : (e : RuleFault) → ((a : Atom) → OpenConclusion a ≡ e → ⊥) → (o : Option Atom) (f : RuleFault) → option_map OpenConclusion o ≡ Some f → f ≡ e → ⊥
open_not e n None f h k = none_fault e f h k
open_not e n (Some a) f h k = n a (inside h ∙ k)
  where
    inside : Some (OpenConclusion a) ≡ Some f → OpenConclusion a ≡ f
    inside h = cc

not_duplicate : (a : Atom) → OpenConclusion a ≡ Duplicate → ⊥
not_duplicate a h = cc

not_many : (a : Atom) → OpenConclusion a ≡ TooMany → ⊥
not_many a h = cc

path_first : (o p : Option RuleFault) (e : RuleFault) → o ≡ p → (o ≡ Some e) ↔ (p ≡ Some e)
path_first o p e q = (λ h. sym q ∙ h, λ h. q ∙ h)

pub names_refused : NamesRefused
names_refused W d c = (
  through (refused (name_fault W d.name) W W begun Duplicate) (through (path_first (name_fault W d.name) (first_of (faults B C) None) Duplicate (sym (no_more (faults B C)))) (duplicate_is B C None (none_fault Duplicate))),
  through (refused (name_fault W d.name) W W begun TooMany) (through (path_first (name_fault W d.name) (first_of (faults B C) None) TooMany (sym (no_more (faults B C)))) (through (too_many_is B C None (none_fault TooMany)) (with_many (B ≡ true) (length W.rules)))),
  through (refused _ W _ (next_rule W d.premises c) Duplicate) (duplicate_is B C (option_map OpenConclusion (first_outside (atoms d.premises) c.set)) (open_not Duplicate not_duplicate (first_outside (atoms d.premises) c.set))),
  through (refused _ W _ (next_rule W d.premises c) TooMany) (through (too_many_is B C (option_map OpenConclusion (first_outside (atoms d.premises) c.set)) (open_not TooMany not_many (first_outside (atoms d.premises) c.set))) (with_many (B ≡ true) (length W.rules))),
)
  where
    B : Bool
    B = is_new W.names d.name

    C : Bool
    C = nat_lt (length W.rules) 65536

    begun : Draft
    begun = record { name = d.name; premises = [] }

premise_is : (i : ℕ) (o : Option Atom) (a : Atom) → (option_map (OpenPremise i) o ≡ Some (OpenPremise i a)) ↔ (o ≡ Some a)
premise_is i None a = (λ h. none_some h, λ h. none_some h)
premise_is i (Some b) a = (λ h. ap Some (inside h), λ h. ap (λ z. option_map (OpenPremise i) z) h)
  where
    inside : Some (OpenPremise i b) ≡ Some (OpenPremise i a) → b ≡ a
    inside h = cc

pub open_refused : OpenRefused
open_refused W d n b a = (
  through (refused (option_map (OpenPremise (suc (length d.premises))) (first_outside (atoms d.premises) b.set)) _ _ (next_metavariable W n b) (OpenPremise (suc (length d.premises)) a)) (premise_is (suc (length d.premises)) (first_outside (atoms d.premises) b.set) a),
  through (refused _ W _ (next_rule W d.premises b) (OpenConclusion a)) (through (open_is (is_new W.names d.name) (nat_lt (length W.rules) 65536) (first_outside (atoms d.premises) b.set) a) (λ h. (h.0, (few (length W.rules)).0 h.1, h.2), λ h. (h.0, (few (length W.rules)).1 h.1, h.2))),
)

-- wide metavariables
wide : (n : ℕ) → size_of_terms (bounds n) ≡ n
wide zero = refl
wide (suc n) = omega (arith, wide n)

not_small : (m n : ℕ) → 65536 ≤ n → is_small (meta m (bounds n)) ≡ false
not_small m n h = ap (λ z. (nat_le (depth (meta m (bounds n))) 1000 && z) && is_kept (number_limits (meta m (bounds n)))) too_wide ∙ neither (nat_le (depth (meta m (bounds n))) 1000) (is_kept (number_limits (meta m (bounds n))))
  where
    too_wide : nat_le (size (meta m (bounds n))) 65536 ≡ false
    too_wide = lt-leb (size (meta m (bounds n))) 65536 (omega (arith, h, wide n))

    neither : (a b : Bool) → ((a && false) && b) ≡ false
    neither true b = refl
    neither false b = refl

pub wide_refused : WideRefused
wide_refused W m d o h =
    ap (λ z. answered (first_refusal (forms_application z (meta m (bounds (domain_count d.boundary))))) (given W (by_generic (m, d)))) o
    ∙ ap (λ z. answered (cond z None (Some TooBig)) (given W (by_generic (m, d)))) (not_small m (domain_count d.boundary) h)
