-- The laws of the syntax in their stated form: substitutions and instances, one after the other.
use Rattle.std.proofs.Common.{◌≡◌, ◌≢◌, ℕ, Option, Some, None, refl, sym, ap, ◌∙◌, subst}
use mathlib.Core.Path.{fun_ext}
use Rattle.ft_common.proofs.Choices.{if_same, if_other}
use Rattle.ft_theory.specs.Expressions.{Expression, free, act, substitute, in_place_of, MentionsOnly, open_at, ClosedAt}
use Rattle.ft_laws.specs.Syntax.{PutsClosed, SubstitutionAfterSubstitution, SubstitutionOfAbsent, OpenIsSubstitution, instance_after, InstanceOfInstance, IsObjectPremise, InstanceOfRuleInstance}
use Rattle.ft_laws.proofs.Acts.{IsClosedMap, act-act, after, after_at, no_bodies, act_agree, act_nothing, MentionsOnly_mono}
use Rattle.ft_laws.proofs.Opens.{by_test, act-open}
use Rattle.ft_laws.proofs.Statements.{AllOfStatement_mono}
use Rattle.ft_laws.proofs.Commute.{Covered, boundary-act}
use Rattle.ft_laws.proofs.Instances.{closed_map}
use Rattle.ft_laws.proofs.Finitary.{look_covered}

-- a substitution as a closed map
pub closed_substitution : (s : ℕ → Expression) → PutsClosed s → IsClosedMap s no_bodies
closed_substitution s c = record { frees = c; bodies = λ m k. tt }

pub substitution_after_substitution : SubstitutionAfterSubstitution
substitution_after_substitution s t e c = act-act e s t no_bodies no_bodies (closed_substitution s c)

pub substitution_of_absent : SubstitutionOfAbsent
substitution_of_absent v t e w =
    act_agree e (in_place_of v t) free no_bodies no_bodies (MentionsOnly_mono e (λ u. u ≢ v) (λ u. in_place_of v t u ≡ free u) (λ m k. Unit {0}) (λ m k. no_bodies m k ≡ no_bodies m k) (λ u n. if_other u v t (free u) n) (λ m k h. refl) w)
    ∙ act_nothing e

pub open_is_substitution : OpenIsSubstitution
unfolding act
open_is_substitution k v t e c w =
    let p : in_place_of v t v ≡ t = if_same v v t (free v) refl in
    act-open e (in_place_of v t) no_bodies k (free v) (closed_substitution (in_place_of v t) closed) tt (subst (ClosedAt 0) (sym p) c)
    ∙ ap (λ u. open_at k u (substitute (in_place_of v t) e)) p
    ∙ ap (open_at k t) (substitution_of_absent v t e w)
  where
    closed : PutsClosed (in_place_of v t)
    closed u = by_test (ClosedAt 0 (in_place_of v t u)) u v
        (λ q. subst (ClosedAt 0) (sym (if_same u v t (free u) q)) c)
        (λ n. subst (ClosedAt 0) (sym (if_other u v t (free u) n)) tt)

-- both ways to write an instance after another
after_is : (i j : ℕ → ℕ → Option Expression) (m k : ℕ) → after free i j m k ≡ instance_after i j m k
after_is i j m k = by_body (j m k)
  where
    by_body : (o : Option Expression) → after_at free i o m k ≡ elim o as (λ o. Option Expression) [ None ↦ i m k | Some e ↦ Some (act free i e) ]
    by_body None = refl
    by_body (Some e) = refl

pub instance_of_instance : InstanceOfInstance
unfolding act
instance_of_instance i j e c =
    act-act e free free i j (closed_map i c)
    ∙ ap (λ o. act free o e) (fun_ext (λ m. fun_ext (λ k. after_is i j m k)))

pub instance_of_rule_instance : InstanceOfRuleInstance
instance_of_rule_instance i ps a b c f u =
    boundary-act ps b a free i (closed_map i c) f
    (AllOfStatement_mono b (λ l. MentionsOnly (λ v. ⊥) (IsObjectPremise ps)) (λ l. MentionsOnly (λ v. ⊥) (Covered ps)) 0
    (λ l e. MentionsOnly_mono e (λ v. ⊥) (λ v. ⊥) (IsObjectPremise ps) (Covered ps) (λ v h. h) (λ m k h. look_covered ps m k h.0 h.1 h.2 h.3)) u)
