-- Later arguments change nothing in the boundaries before them.
use Rattle.std.proofs.Common.{◌≡◌, ℕ, zero, Some, cond, ◌&&◌, List, [], ◌∷◌, ◌++◌, refl, sym, ap, ap₂, ◌∙◌, subst, append-nil}
use Rattle.std.proofs.lemmas.Bool.{eq-eqb}
use Rattle.ft_common.proofs.Options.{none_some}
use Rattle.ft_theory.specs.Expressions.{Expression, free, Arguments, no_arguments, with_body, dummy, MentionsOnly}
use Rattle.ft_theory.specs.Statements.{Statement, domain_count, IsObject}
use Rattle.ft_theory.specs.Rules.{Rule, BoundaryAfter, next_premise, its_conclusion, instance_of, FitsPremises}
use Rattle.ft_theory.specs.Steps.{sequent, Prim}
use Rattle.ft_laws.specs.Instances.{statement_at, followed_by, LawLaterArguments}
use Rattle.ft_laws.proofs.Opens.{by_test}
use Rattle.ft_laws.proofs.Acts.{MentionsOnly_mono}
use Rattle.ft_laws.proofs.Statements.{AllOfStatement_mono, act_statement_agree}
use Rattle.ft_laws.proofs.Scope.{scope, Fine, InVariables, InMetavariables}
use Rattle.ft_laws.proofs.Commute.{not_both}
use Rattle.ft_laws.proofs.Rules.{found, past, instance_past}
use Rattle.ft_laws.proofs.Finitary.{boundary_after}
use Rattle.ft_laws.proofs.Admissible.{finitary_sound}

-- a metavariable of the first premises has the argument that it has among the first
instance_followed : (ps qs : List (ℕ × Statement)) (a c : Arguments) (m k : ℕ) → FitsPremises ps a → InMetavariables ps m k
    → instance_of (ps ++ qs) (followed_by a c) m k ≡ instance_of ps a m k
instance_followed [] qs a c m k f i = none_some i.1
instance_followed (p ∷ ps) qs no_arguments c m k f i = absurd f
instance_followed (p ∷ ps) qs (with_body n e a) c m k f i =
    by_test (instance_of (p ∷ (ps ++ qs)) (with_body n e (followed_by a c)) m k ≡ instance_of (p ∷ ps) (with_body n e a) m k) m p.0
    (λ q. let d : k ≡ n = i.3 ∙ ap domain_count (sym (found m p ps i.0 q i.1)) ∙ sym f.0 in hit (ps ++ qs) (followed_by a c) q d ∙ sym (hit ps a q d))
    (λ q. instance_past m n k p (ps ++ qs) e (followed_by a c) q ∙ instance_followed ps qs a c m k f.2 (i.0, past m p ps i.0 q i.1, i.2, i.3) ∙ sym (instance_past m n k p ps e a q))
  where
    hit : (qs : List (ℕ × Statement)) (a : Arguments) → m ≡ p.0 → k ≡ n → instance_of (p ∷ qs) (with_body n e a) m k ≡ Some e
    hit qs a q r = ap₂ (λ b c. cond (b && c) (Some e) (instance_of qs a m k)) (eq-eqb m p.0 q) (eq-eqb k n r)
instance_followed (p ∷ ps) qs (dummy n a) c m k f i =
    by_test (instance_of (ps ++ qs) (followed_by a c) m k ≡ instance_of ps a m k) m p.0
    (λ q. absurd (not_both p.1 (subst IsObject (sym (found m p ps i.0 q i.1)) i.2) f.1))
    (λ q. instance_followed ps qs a c m k f.2 (i.0, past m p ps i.0 q i.1, i.2, i.3))

-- what is derived over the first premises mentions no others
pub statement_followed : (T : List Rule) (ps qs : List (ℕ × Statement)) (a c : Arguments) (b : Statement) → FitsPremises ps a → Prim T ps [] b
    → statement_at (instance_of (ps ++ qs) (followed_by a c)) b ≡ statement_at (instance_of ps a) b
statement_followed T ps qs a c b f p = act_statement_agree b free free (instance_of (ps ++ qs) (followed_by a c)) (instance_of ps a)
    (AllOfStatement_mono b (Fine ps []) (λ k. MentionsOnly (λ v. free v ≡ free v) (λ m k. instance_of (ps ++ qs) (followed_by a c) m k ≡ instance_of ps a m k)) zero
    (λ k e u. MentionsOnly_mono e (InVariables []) (λ v. free v ≡ free v) (InMetavariables ps) (λ m k. instance_of (ps ++ qs) (followed_by a c) m k ≡ instance_of ps a m k)
    (λ v h. refl) (λ m k h. instance_followed ps qs a c m k f h) u.1)
    (scope T (sequent ps [] b) p))

-- the premises that come after the first ones
premises_after : (R : Rule) (ps : List (ℕ × Statement)) (b : Statement) → BoundaryAfter R ps b → (qs : List (ℕ × Statement)) × (R.premises ≡ ps ++ qs)
premises_after R ps b (next_premise _ qs m _ e) = ((m, b) ∷ qs, e)
premises_after R ps b (its_conclusion _ e) = ([], e ∙ sym (append-nil ps))

pub law_later_arguments : LawLaterArguments
law_later_arguments T f r R q ps b w a c h =
    let k : (qs : List (ℕ × Statement)) × (R.premises ≡ ps ++ qs) = premises_after R ps b w in
    ap (λ z. statement_at (instance_of z (followed_by a c)) b) k.1
    ∙ statement_followed T ps k.0 a c b h (boundary_after (λ M x. Prim T M [] x) R ps b (finitary_sound 7 T f r R q) w).1
