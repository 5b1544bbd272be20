-- Acting commutes with what the steps are made of: filling, equations, terms at domains, instances of rules.
use Rattle.std.proofs.Common.{◌≡◌, ℕ, zero, ◌&&◌, Bool, true, false, cond, nat_eq, Option, Some, List, [], ◌∷◌, ◌⊎◌, inl, inr, refl, sym, ap, ap₂, ◌∙◌}
use Rattle.std.proofs.lemmas.Bool.{eq-eqb}
use Rattle.ft_common.proofs.Booleans.{true_false}
use Rattle.ft_theory.specs.Expressions.{Expression, bound, free, Arguments, no_arguments, with_body, dummy, Terms, no_terms, also, act, act_arguments, act_terms, ClosedTerms, MentionsOnly}
use Rattle.ft_theory.specs.Statements.{Claim, has_type, equal_terms, type_goal, term_goal, Statement, plain, abstracted, map_claim, AllOfClaim, StatementMentionsOnly, act_statement, opened, domain_count, at, fill, equate, IsObjectGoal, IsEquationGoal, IsObject, IsEquation}
use Rattle.ft_theory.specs.Rules.{Rule, rule_at, instance_of, FitsPremises, filled_premises, equated_premises, term_typings, term_equations, conclusion_at}
use Rattle.ft_theory.specs.Steps.{IsVariableFree}
use Rattle.ft_laws.proofs.Acts.{IsClosedMap, after, after_at, MentionsOnly_mono}
use Rattle.ft_laws.proofs.ClosedActs.{Closed-act}
use Rattle.ft_laws.proofs.Statements.{act-opened, domain-act, act-act_statement, act_statement_agree, fill-map, equate-map, AllOfStatement_mono}

abbrev pub acts : (ℕ → Expression) → (ℕ → ℕ → Option Expression) → List Statement → List Statement
acts g i [] = []
acts g i (x ∷ xs) = act_statement g i x ∷ acts g i xs

pub act-fill : (x : Statement) (g : ℕ → Expression) (i : ℕ → ℕ → Option Expression) (h : Expression) → act_statement g i (fill x h) ≡ fill (act_statement g i x) (act g i h)
act-fill x g i h = fill-map x (λ l. act g i) zero h

pub act-equate : (x : Statement) (g : ℕ → Expression) (i : ℕ → ℕ → Option Expression) (h j : Expression) → act_statement g i (equate x h j) ≡ equate (act_statement g i x) (act g i h) (act g i j)
act-equate x g i h j = equate-map x (λ l. act g i) zero h j

pub act-at : (a : Terms) (x : Statement) (g : ℕ → Expression) (i : ℕ → ℕ → Option Expression) → IsClosedMap g i → ClosedTerms zero a → act_statement g i (at x a) ≡ at (act_statement g i x) (act_terms g i a)
unfolding act
act-at no_terms x g i m c = refl
act-at (also t a) x g i m c = act-at a (opened t x) g i m c.1 ∙ ap (λ y. at y (act_terms g i a)) (act-opened x g i t m c.0 (Closed-act t g i zero m c.0))

pub term_typings-act : (a : Terms) (x : Statement) (g : ℕ → Expression) (i : ℕ → ℕ → Option Expression) → IsClosedMap g i → ClosedTerms zero a → acts g i (term_typings x a) ≡ term_typings (act_statement g i x) (act_terms g i a)
unfolding act
term_typings-act no_terms x g i m c = refl
term_typings-act (also t a) x g i m c =
    ap₂ (λ D r. plain (has_type (act g i t) D) ∷ r) (domain-act x g i)
    (term_typings-act a (opened t x) g i m c.1 ∙ ap (λ y. term_typings y (act_terms g i a)) (act-opened x g i t m c.0 (Closed-act t g i zero m c.0)))

pub term_equations-act : (a b : Terms) (x : Statement) (g : ℕ → Expression) (i : ℕ → ℕ → Option Expression) → IsClosedMap g i → ClosedTerms zero a → acts g i (term_equations x a b) ≡ term_equations (act_statement g i x) (act_terms g i a) (act_terms g i b)
unfolding act
term_equations-act no_terms b x g i m c = refl
term_equations-act (also s a) no_terms x g i m c = refl
term_equations-act (also s a) (also t b) x g i m c =
    ap₂ (λ D r. plain (equal_terms (act g i s) (act g i t) D) ∷ r) (domain-act x g i)
    (term_equations-act a b (opened s x) g i m c.1 ∙ ap (λ y. term_equations y (act_terms g i a) (act_terms g i b)) (act-opened x g i s m c.0 (Closed-act s g i zero m c.0)))

-- The metavariables of object premises, each with its boundary's number of domains. A theory is scoped where its rules' boundaries
-- mention no free variable and only those of the rule itself. That is all that most laws ask of a theory.
abbrev pub Covered : List (ℕ × Statement) → ℕ → ℕ → Type 0
Covered [] m k = ⊥
Covered (p ∷ ps) m k = ((m ≡ p.0) × IsObject p.1 × (k ≡ domain_count p.1)) ⊎ Covered ps m k

abbrev pub ScopedPremises : List (ℕ × Statement) → List (ℕ × Statement) → Type 0
ScopedPremises all [] = Unit {0}
ScopedPremises all (p ∷ ps) = StatementMentionsOnly (λ v. ⊥) (Covered all) p.1 × ScopedPremises all ps

abbrev pub ScopedRule : Rule → Type 0
ScopedRule R = ScopedPremises R.premises R.premises × AllOfClaim (MentionsOnly (λ v. ⊥) (Covered R.premises)) R.conclusion

abbrev pub ScopedTheory : List Rule → Type 0
ScopedTheory T = (r : ℕ) (R : Rule) → rule_at T r ≡ Some R → ScopedRule R

and_same : (i j k l : ℕ) → i ≡ j → k ≡ l → (nat_eq i j && nat_eq k l) ≡ true
and_same i j k l e f = ap₂ ◌&&◌ (eq-eqb i j e) (eq-eqb k l f)

pub not_both_goal : (c : Claim) → IsObjectGoal c → IsEquationGoal c → ⊥
not_both_goal type_goal o e = e
not_both_goal (term_goal A) o e = e
not_both_goal c o e = o

pub not_both : (x : Statement) → IsObject x → IsEquation x → ⊥
not_both (plain c) o e = not_both_goal c o e
not_both (abstracted A x) o e = not_both x o e

-- an instance under what acts
pub instance_of-act : (ps : List (ℕ × Statement)) (a : Arguments) (g : ℕ → Expression) (i : ℕ → ℕ → Option Expression) (m k : ℕ) → FitsPremises ps a → Covered ps m k → after g i (instance_of ps a) m k ≡ instance_of ps (act_arguments g i a) m k
unfolding act
instance_of-act [] a g i m k f c = absurd c
instance_of-act (p ∷ ps) no_arguments g i m k f c = absurd f
instance_of-act (p ∷ ps) (with_body n e a) g i m k f c = by_body (λ c. instance_of-act ps a g i m k f.2 c) (nat_eq m p.0 && nat_eq k n) refl c
  where
    by_body : (Covered ps m k → after g i (instance_of ps a) m k ≡ instance_of ps (act_arguments g i a) m k) → (b : Bool) → (nat_eq m p.0 && nat_eq k n) ≡ b → ((m ≡ p.0) × IsObject p.1 × (k ≡ domain_count p.1)) ⊎ Covered ps m k → after_at g i (cond (nat_eq m p.0 && nat_eq k n) (Some e) (instance_of ps a m k)) m k ≡ cond (nat_eq m p.0 && nat_eq k n) (Some (act g i e)) (instance_of ps (act_arguments g i a) m k)
    by_body rec true q c = ap (λ b. after_at g i (cond b (Some e) (instance_of ps a m k)) m k) q ∙ ap (λ b. cond b (Some (act g i e)) (instance_of ps (act_arguments g i a) m k)) (sym q)
    by_body rec false q (inl c) = true_false (sym (and_same m p.0 k n c.0 (c.2 ∙ sym f.0)) ∙ q)
    by_body rec false q (inr c) = ap (λ b. after_at g i (cond b (Some e) (instance_of ps a m k)) m k) q ∙ rec c ∙ ap (λ b. cond b (Some (act g i e)) (instance_of ps (act_arguments g i a) m k)) (sym q)
instance_of-act (p ∷ ps) (dummy n a) g i m k f (inl c) = absurd (not_both p.1 c.1 f.1)
instance_of-act (p ∷ ps) (dummy n a) g i m k f (inr c) = instance_of-act ps a g i m k f.2 c

pub FitsPremises-act : (ps : List (ℕ × Statement)) (a : Arguments) (g : ℕ → Expression) (i : ℕ → ℕ → Option Expression) → FitsPremises ps a → FitsPremises ps (act_arguments g i a)
unfolding act
FitsPremises-act [] no_arguments g i f = f
FitsPremises-act [] (with_body n e a) g i f = f
FitsPremises-act [] (dummy n a) g i f = f
FitsPremises-act (p ∷ ps) no_arguments g i f = f
FitsPremises-act (p ∷ ps) (with_body n e a) g i f = (f.0, f.1, FitsPremises-act ps a g i f.2)
FitsPremises-act (p ∷ ps) (dummy n a) g i f = (f.0, f.1, FitsPremises-act ps a g i f.2)

-- a boundary of a rule at an instance, under what acts
pub boundary-act : (all : List (ℕ × Statement)) (b : Statement) (a : Arguments) (g : ℕ → Expression) (i : ℕ → ℕ → Option Expression) → IsClosedMap g i → FitsPremises all a → StatementMentionsOnly (λ v. ⊥) (Covered all) b → act_statement g i (act_statement free (instance_of all a) b) ≡ act_statement free (instance_of all (act_arguments g i a)) b
unfolding act
boundary-act all b a g i m f u =
    act-act_statement b g free i (instance_of all a) m
    ∙ act_statement_agree b g free (after g i (instance_of all a)) (instance_of all (act_arguments g i a))
    (AllOfStatement_mono b (λ l. MentionsOnly (λ v. ⊥) (Covered all)) (λ l. MentionsOnly (λ v. g v ≡ free v) (λ m k. after g i (instance_of all a) m k ≡ instance_of all (act_arguments g i a) m k)) zero
    (λ l e. MentionsOnly_mono e (λ v. ⊥) (λ v. g v ≡ free v) (Covered all) (λ m k. after g i (instance_of all a) m k ≡ instance_of all (act_arguments g i a) m k) (λ v h. absurd h) (λ m k c. instance_of-act all a g i m k f c)) u)

pub conclusion-act : (R : Rule) (a : Arguments) (g : ℕ → Expression) (i : ℕ → ℕ → Option Expression) → IsClosedMap g i → FitsPremises R.premises a → ScopedRule R → map_claim (act g i) (conclusion_at R a) ≡ conclusion_at R (act_arguments g i a)
conclusion-act R a g i m f s = ap (λ x. claim_of x) (boundary-act R.premises (plain R.conclusion) a g i m f s.1)
  where
    claim_of : Statement → Claim
    claim_of (plain c) = c
    claim_of (abstracted A x) = type_goal

-- with parts `ps` of the premises `all`, and parts `a` of the arguments
pub filled_premises-act : (all ps : List (ℕ × Statement)) (whole a : Arguments) (g : ℕ → Expression) (i : ℕ → ℕ → Option Expression) → IsClosedMap g i → FitsPremises all whole → ScopedPremises all ps → FitsPremises ps a → acts g i (filled_premises (instance_of all whole) ps a) ≡ filled_premises (instance_of all (act_arguments g i whole)) ps (act_arguments g i a)
unfolding act
filled_premises-act all [] whole a g i m f s f' = refl
filled_premises-act all (p ∷ ps) whole no_arguments g i m f s f' = refl
filled_premises-act all (p ∷ ps) whole (with_body n e a) g i m f s f' =
    ap₂ (λ x xs. x ∷ xs) (act-fill (act_statement free (instance_of all whole) p.1) g i e ∙ ap (λ x. fill x (act g i e)) (boundary-act all p.1 whole g i m f s.0)) (filled_premises-act all ps whole a g i m f s.1 f'.2)
filled_premises-act all (p ∷ ps) whole (dummy n a) g i m f s f' =
    ap₂ (λ x xs. x ∷ xs) (act-fill (act_statement free (instance_of all whole) p.1) g i (bound zero) ∙ ap (λ x. fill x (bound zero)) (boundary-act all p.1 whole g i m f s.0)) (filled_premises-act all ps whole a g i m f s.1 f'.2)

pub equated_premises-act : (all ps : List (ℕ × Statement)) (whole a b : Arguments) (g : ℕ → Expression) (i : ℕ → ℕ → Option Expression) → IsClosedMap g i → FitsPremises all whole → ScopedPremises all ps → FitsPremises ps a → FitsPremises ps b → acts g i (equated_premises (instance_of all whole) ps a b) ≡ equated_premises (instance_of all (act_arguments g i whole)) ps (act_arguments g i a) (act_arguments g i b)
unfolding act
equated_premises-act all [] whole a b g i m f s f' f'' = refl
equated_premises-act all (p ∷ ps) whole no_arguments b g i m f s f' f'' = refl
equated_premises-act all (p ∷ ps) whole (with_body n e a) no_arguments g i m f s f' f'' = refl
equated_premises-act all (p ∷ ps) whole (with_body n e a) (with_body l h b) g i m f s f' f'' =
    ap₂ (λ x xs. x ∷ xs) (act-equate (act_statement free (instance_of all whole) p.1) g i e h ∙ ap (λ x. equate x (act g i e) (act g i h)) (boundary-act all p.1 whole g i m f s.0)) (equated_premises-act all ps whole a b g i m f s.1 f'.2 f''.2)
equated_premises-act all (p ∷ ps) whole (with_body n e a) (dummy l b) g i m f s f' f'' = refl
equated_premises-act all (p ∷ ps) whole (dummy n a) no_arguments g i m f s f' f'' = refl
equated_premises-act all (p ∷ ps) whole (dummy n a) (with_body l h b) g i m f s f' f'' = refl
equated_premises-act all (p ∷ ps) whole (dummy n a) (dummy l b) g i m f s f' f'' = equated_premises-act all ps whole a b g i m f s.1 f'.2 f''.2

-- a boundary without free variables
pub variable_free-act : (b : Statement) (g : ℕ → Expression) (i : ℕ → ℕ → Option Expression) → IsVariableFree b → act_statement g i b ≡ act_statement free i b
variable_free-act b g i u = act_statement_agree b g free i i
    (AllOfStatement_mono b (λ l. MentionsOnly (λ v. ⊥) (λ m k. Unit {0})) (λ l. MentionsOnly (λ v. g v ≡ free v) (λ m k. i m k ≡ i m k)) zero
    (λ l e. MentionsOnly_mono e (λ v. ⊥) (λ v. g v ≡ free v) (λ m k. Unit {0}) (λ m k. i m k ≡ i m k) (λ v h. absurd h) (λ m k h. refl)) u)
