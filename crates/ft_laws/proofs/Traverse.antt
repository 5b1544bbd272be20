-- One traversal of derivations for renaming, weakening, substitution and instances.
use Rattle.std.proofs.Common.{◌≡◌, ◌≢◌, ℕ, zero, suc, ◌≤◌, max, cond, nat_eq, Option, Some, None, List, [], ◌∷◌, refl, sym, ap, ap₂, ◌∙◌, subst, subst₂, arith}
use Rattle.std.proofs.lemmas.Option.{same_Some}
use Rattle.ft_common.proofs.Options.{none_some}
use Rattle.ft_common.proofs.Choices.{if_same, if_other}
use Rattle.ft_theory.specs.Expressions.{Expression, bound, free, symbol, meta, Arguments, Terms, no_terms, also, count, body_or, act, act_arguments, act_terms, ClosedAt, ClosedTerms, Without}
use Rattle.ft_theory.specs.Statements.{is_type, has_type, Statement, plain, abstracted, map_claim, map_statement, AllOfStatement, ClosedStatement, act_statement, close_statement, opened, domain_count, at, fill_goal, fill, equate_goal, equate, IsObject, IsEquation}
use Rattle.ft_theory.specs.Rules.{look_up, Rule, instance_of, FitsPremises, filled_premises, equated_premises, term_typings, term_equations, conclusion_at}
use Rattle.ft_theory.specs.Steps.{Sequent, sequent, sequents, IsVariableFree, Unmentioned, Step, variable, metavariable, metavariable_equation, metavariable_congruence, abstraction, reflexive_type, reflexive_term, symmetric_types, symmetric_terms, transitive_types, transitive_terms, convert_term, convert_equation, for_type, for_term, for_types, for_terms, symbol_rule, equation_rule, congruence, Tree, Trees, node, none, more, Prim}
use Rattle.ft_laws.specs.Instances.{statement_at}
use Rattle.ft_laws.proofs.Induction.{AllOf, induct}
use Rattle.ft_laws.proofs.Acts.{IsClosedMap, act_agree, MentionsOnly_mono, count-act}
use Rattle.ft_laws.proofs.Opens.{by_test}
use Rattle.ft_laws.proofs.Steps.{do_reflexive_type, do_reflexive_term, do_symmetric_types, do_symmetric_terms, do_transitive_types, do_transitive_terms, do_convert_term, do_convert_equation, do_for_type, do_for_term, do_for_types, do_for_terms, do_variable}
use Rattle.ft_laws.proofs.Fresh.{limit_of_statement, limit_of_variables, above_statement, fresh_absent, fresh_unmentioned}
use Rattle.ft_laws.proofs.Scope.{scope, Fine, FineStatement, FineTerms, InVariables, InMetavariables, Fine-term_typings, Fine-close}
use Rattle.ft_laws.proofs.Statements.{act-opened, opened-closed, closed-opened, AllOfStatement_mono, fill_goal-map, equate_goal-map, map_statement_agree}
use Rattle.ft_laws.proofs.Commute.{acts, act-fill, act-equate, act-at, term_typings-act, term_equations-act, ScopedTheory, ScopedRule, conclusion-act, filled_premises-act, equated_premises-act, FitsPremises-act, variable_free-act}

-- the second map has all that the first has
abbrev pub Grows : List (ℕ × Expression) → List (ℕ × Expression) → Type 0
Grows G H = (v : ℕ) (A : Expression) → look_up G v ≡ Some A → look_up H v ≡ Some A

-- what an instance makes of a metavariable at terms
abbrev pub applied : (ℕ → ℕ → Option Expression) → ℕ → Terms → Expression
applied i m a = body_or (i m (count a)) m a

-- Maps T M G N H g i: over T, the substitution g and the instance i lead from the maps M, G to the maps N, H. What is put is
-- closed. What is put for a variable has the variable's type wherever that type is derivable, over each larger map; so types
-- that are not derivable do no harm. What is put for a metavariable meets its three steps, where its boundary is derivable.
pub record Maps (T : List Rule) (M : List (ℕ × Statement)) (G : List (ℕ × Expression)) (N : List (ℕ × Statement)) (H : List (ℕ × Expression)) (g : ℕ → Expression) (i : ℕ → ℕ → Option Expression) : Type 0 where
  pub closed : IsClosedMap g i
  pub frees : (v : ℕ) (A : Expression) → look_up G v ≡ Some A → (K : List (ℕ × Expression)) → Grows H K → Prim T N K (plain (is_type (act g i A))) → Prim T N K (plain (has_type (g v) (act g i A)))
  pub objects : (m : ℕ) (b : Statement) → look_up M m ≡ Some b → IsVariableFree b → IsObject b → (K : List (ℕ × Expression)) → Grows H K → (a : Terms) → count a ≡ domain_count b → Prim T N K (statement_at i b) → Trees (Step T) (sequents N K (term_typings (statement_at i b) a)) → Prim T N K (fill (at (statement_at i b) a) (applied i m a))
  pub equations : (m : ℕ) (b : Statement) → look_up M m ≡ Some b → IsVariableFree b → IsEquation b → (K : List (ℕ × Expression)) → Grows H K → (a : Terms) → count a ≡ domain_count b → Prim T N K (statement_at i b) → Trees (Step T) (sequents N K (term_typings (statement_at i b) a)) → Prim T N K (fill (at (statement_at i b) a) (bound zero))
  pub congruences : (m : ℕ) (b : Statement) → look_up M m ≡ Some b → IsVariableFree b → IsObject b → (K : List (ℕ × Expression)) → Grows H K → (a c : Terms) → count a ≡ domain_count b → count c ≡ domain_count b → Prim T N K (fill (at (statement_at i b) a) (applied i m a)) → Prim T N K (fill (at (statement_at i b) a) (applied i m c)) → Trees (Step T) (sequents N K (term_equations (statement_at i b) a c)) → Prim T N K (equate (at (statement_at i b) a) (applied i m a) (applied i m c))

-- the substitution g, but with t for v
abbrev pub send : (ℕ → Expression) → ℕ → Expression → ℕ → Expression
send g v t u = cond (nat_eq u v) t (g u)

pub send_without : (e : Expression) (g : ℕ → Expression) (i : ℕ → ℕ → Option Expression) (v : ℕ) (t : Expression) → Without v e → act (send g v t) i e ≡ act g i e
send_without e g i v t w = act_agree e (send g v t) g i i (MentionsOnly_mono e (λ u. u ≢ v) (λ u. send g v t u ≡ g u) (λ m k. Unit {0}) (λ m k. i m k ≡ i m k) (λ u n. if_other u v t (g u) n) (λ m k h. refl) w)

pub send_without_statement : (x : Statement) (g : ℕ → Expression) (i : ℕ → ℕ → Option Expression) (v : ℕ) (t : Expression) (k : ℕ) → AllOfStatement (λ l. Without v) k x → map_statement (λ l. act (send g v t) i) k x ≡ map_statement (λ l. act g i) k x
send_without_statement x g i v t k w = map_statement_agree x (λ l. act (send g v t) i) (λ l. act g i) (λ l. Without v) k (λ l e h. send_without e g i v t h) w

-- what is scoped over G does not mention what G lacks
pub absent_without : (M : List (ℕ × Statement)) (G : List (ℕ × Expression)) (v : ℕ) (k : ℕ) (e : Expression) → look_up G v ≡ None → Fine M G k e → Without v e
absent_without M G v k e n f = MentionsOnly_mono e (InVariables G) (λ u. u ≢ v) (InMetavariables M) (λ m k. Unit {0}) (λ u h q. none_some (sym n ∙ ap (look_up G) (sym q) ∙ h.1)) (λ m k h. tt) f.1

pub send_closed : (g : ℕ → Expression) (i : ℕ → ℕ → Option Expression) (v : ℕ) (t : Expression) → IsClosedMap g i → ClosedAt zero t → IsClosedMap (send g v t) i
send_closed g i v t m c = record { frees = λ u. by_test (ClosedAt zero (send g v t u)) u v (λ e. subst (ClosedAt zero) (sym (if_same u v t (g u) e)) c) (λ n. subst (ClosedAt zero) (sym (if_other u v t (g u) n)) (m.frees u)); bodies = m.bodies }

pub Grows_add : (G H : List (ℕ × Expression)) (w : ℕ) (A : Expression) → Grows G H → look_up H w ≡ None → Grows G ((w, A) ∷ H)
Grows_add G H w A s n u B q = if_other u w (Some A) (look_up H u) (λ e. none_some (sym n ∙ ap (look_up H) (sym e) ∙ s u B q)) ∙ s u B q

pub Grows_refl : (G : List (ℕ × Expression)) → Grows G G
Grows_refl G v A q = q

-- under an abstraction, with t for the variable
pub Maps_under : (T : List Rule) (M : List (ℕ × Statement)) (G : List (ℕ × Expression)) (N : List (ℕ × Statement)) (H K : List (ℕ × Expression)) (g : ℕ → Expression) (i : ℕ → ℕ → Option Expression) (v : ℕ) (A t : Expression)
    → Maps T M G N H g i → look_up G v ≡ None → Unmentioned v G → Fine M G zero A → Grows H K → ClosedAt zero t
    → ((L : List (ℕ × Expression)) → Grows K L → Prim T N L (plain (is_type (act g i A))) → Prim T N L (plain (has_type t (act g i A))))
    → Maps T M ((v, A) ∷ G) N K (send g v t) i
Maps_under T M G N H K g i v A t m n u f s c h = record {
  closed = send_closed g i v t m.closed c;
  frees = λ w B q L s' p. by_test (Prim T N L (plain (has_type (send g v t w) (act (send g v t) i B)))) w v
      (λ e.
      let AB : A ≡ B = same_Some A B (sym (if_same w v (Some A) (look_up G w) e) ∙ q) in
      let Ae : act (send g v t) i B ≡ act g i A = ap (act (send g v t) i) (sym AB) ∙ send_without A g i v t (absent_without M G v zero A n f) in
      subst₂ (λ z D. Prim T N L (plain (has_type z D))) (sym (if_same w v t (g w) e)) (sym Ae)
      (h L s' (subst (λ D. Prim T N L (plain (is_type D))) Ae p)))
      (λ e.
      let q' : look_up G w ≡ Some B = sym (if_other w v (Some A) (look_up G w) e) ∙ q in
      let Be : act (send g v t) i B ≡ act g i B = send_without B g i v t (u w B q') in
      subst₂ (λ z D. Prim T N L (plain (has_type z D))) (sym (if_other w v t (g w) e)) (sym Be)
      (m.frees w B q' L (λ x C r. s' x C (s x C r)) (subst (λ D. Prim T N L (plain (is_type D))) Be p)));
  objects = λ k b q gl o L s'. m.objects k b q gl o L (λ x C r. s' x C (s x C r));
  equations = λ k b q gl o L s'. m.equations k b q gl o L (λ x C r. s' x C (s x C r));
  congruences = λ k b q gl o L s'. m.congruences k b q gl o L (λ x C r. s' x C (s x C r));
}

-- the statement is derivable wherever its maps lead
abbrev pub Carried : List Rule → Sequent → Type 0
Carried T c = (N : List (ℕ × Statement)) (H : List (ℕ × Expression)) (g : ℕ → Expression) (i : ℕ → ℕ → Option Expression) → Maps T c.metavariables c.variables N H g i → Prim T N H (act_statement g i c.statement)

pub carry_all : (T : List Rule) (M : List (ℕ × Statement)) (G : List (ℕ × Expression)) (N : List (ℕ × Statement)) (H : List (ℕ × Expression)) (g : ℕ → Expression) (i : ℕ → ℕ → Option Expression) → Maps T M G N H g i → (xs : List Statement) → AllOf (Carried T) (sequents M G xs) → Trees (Step T) (sequents N H (acts g i xs))
carry_all T M G N H g i m [] h = none
carry_all T M G N H g i m (x ∷ xs) h = more (h.0 N H g i m) (carry_all T M G N H g i m xs h.1)

pub fine_all : (T : List Rule) (cs : List Sequent) → Trees (Step T) cs → AllOf (λ c. FineStatement c.metavariables c.variables c.statement) cs
fine_all T [] none = tt
fine_all T (c ∷ cs) (more t ts) = (scope T c t, fine_all T cs ts)

-- the abstraction of what is derived at a fresh variable
pub under_abstraction : (T : List Rule) (N : List (ℕ × Statement)) (H : List (ℕ × Expression)) (A : Expression) (y : Statement) → Prim T N H (plain (is_type A))
    → ((w : ℕ) → limit_of_variables H ≤ w → limit_of_statement y ≤ w → Prim T N ((w, A) ∷ H) (opened (free w) (abstracted A y))) → Prim T N H (abstracted A y)
under_abstraction T N H A y p h =
    let w : ℕ = max (limit_of_variables H) (limit_of_statement y) in
    let a : limit_of_variables H ≤ w = omega arith in
    let b : limit_of_statement y ≤ w = omega arith in
    subst (λ z. Prim T N H (abstracted A z)) (closed-opened y A w (above_statement y zero w b))
    (node (sequent N H (plain (is_type A)) ∷ sequent N ((w, A) ∷ H) (opened (free w) (abstracted A y)) ∷ [])
    (abstraction w A (opened (free w) (abstracted A y)) (fresh_absent H w a) (fresh_unmentioned H w a))
    (more p (more (h w a b) none)))

pub metavariable-act : (b : Statement) (a : Terms) (k : ℕ) (g : ℕ → Expression) (i : ℕ → ℕ → Option Expression) → IsClosedMap g i → IsVariableFree b → ClosedTerms zero a → act_statement g i (fill (at b a) (meta k a)) ≡ fill (at (statement_at i b) (act_terms g i a)) (applied i k (act_terms g i a))
unfolding act
metavariable-act b a k g i m gl c =
    act-fill (at b a) g i (meta k a)
    ∙ ap₂ fill (act-at a b g i m c ∙ ap (λ z. at z (act_terms g i a)) (variable_free-act b g i gl)) (ap (λ n. body_or (i k n) k (act_terms g i a)) (sym (count-act a g i)))

pub metavariable_equation-act : (b : Statement) (a : Terms) (g : ℕ → Expression) (i : ℕ → ℕ → Option Expression) → IsClosedMap g i → IsVariableFree b → ClosedTerms zero a → act_statement g i (fill (at b a) (bound zero)) ≡ fill (at (statement_at i b) (act_terms g i a)) (bound zero)
unfolding act
metavariable_equation-act b a g i m gl c = act-fill (at b a) g i (bound zero) ∙ ap (λ z. fill z (bound zero)) (act-at a b g i m c ∙ ap (λ z. at z (act_terms g i a)) (variable_free-act b g i gl))

pub metavariable_pair-act : (b : Statement) (a c : Terms) (k : ℕ) (g : ℕ → Expression) (i : ℕ → ℕ → Option Expression) → IsClosedMap g i → IsVariableFree b → ClosedTerms zero a → act_statement g i (equate (at b a) (meta k a) (meta k c)) ≡ equate (at (statement_at i b) (act_terms g i a)) (applied i k (act_terms g i a)) (applied i k (act_terms g i c))
unfolding act
metavariable_pair-act b a c k g i m gl h =
    act-equate (at b a) g i (meta k a) (meta k c)
    ∙ ap (λ z. equate z (act g i (meta k a)) (act g i (meta k c))) (act-at a b g i m h ∙ ap (λ z. at z (act_terms g i a)) (variable_free-act b g i gl))
    ∙ ap₂ (equate (at (statement_at i b) (act_terms g i a))) (ap (λ n. body_or (i k n) k (act_terms g i a)) (sym (count-act a g i))) (ap (λ n. body_or (i k n) k (act_terms g i c)) (sym (count-act c g i)))

pub metavariable_right-act : (b : Statement) (a c : Terms) (k : ℕ) (g : ℕ → Expression) (i : ℕ → ℕ → Option Expression) → IsClosedMap g i → IsVariableFree b → ClosedTerms zero a → act_statement g i (fill (at b a) (meta k c)) ≡ fill (at (statement_at i b) (act_terms g i a)) (applied i k (act_terms g i c))
unfolding act
metavariable_right-act b a c k g i m gl h =
    act-fill (at b a) g i (meta k c)
    ∙ ap₂ fill (act-at a b g i m h ∙ ap (λ z. at z (act_terms g i a)) (variable_free-act b g i gl)) (ap (λ n. body_or (i k n) k (act_terms g i c)) (sym (count-act c g i)))

pub Fine-term_equations : (M : List (ℕ × Statement)) (G : List (ℕ × Expression)) (a c : Terms) (x : Statement) → count a ≡ count c → AllOf (λ c. FineStatement c.metavariables c.variables c.statement) (sequents M G (term_equations x a c)) → FineTerms M G a × FineTerms M G c
unfolding count
Fine-term_equations M G no_terms no_terms x e h = ((tt, tt), (tt, tt))
Fine-term_equations M G no_terms (also t c) x e h = absurd (grind (arith, e))
Fine-term_equations M G (also s a) no_terms x e h = absurd (grind (arith, e))
Fine-term_equations M G (also s a) (also t c) x e h =
    let rest : FineTerms M G a × FineTerms M G c = Fine-term_equations M G a c (opened s x) (omega (arith, e)) h.1 in
    (((h.0.0.0, rest.0.0), (h.0.0.1, rest.0.1)), ((h.0.1.0, rest.1.0), (h.0.1.1, rest.1.1)))

pub look_here : (G : List (ℕ × Expression)) (w : ℕ) (A : Expression) → look_up ((w, A) ∷ G) w ≡ Some A
look_here G w A = if_same w w (Some A) (look_up G w) refl

pub abstraction-act : (M : List (ℕ × Statement)) (G : List (ℕ × Expression)) (g : ℕ → Expression) (i : ℕ → ℕ → Option Expression) (v : ℕ) (t A : Expression) (x : Statement) → IsClosedMap g i → ClosedAt zero t → look_up G v ≡ None → FineStatement M ((v, A) ∷ G) x
    → act_statement (send g v t) i x ≡ opened t (abstracted (act g i A) (map_statement (λ l. act g i) (suc zero) (close_statement v x)))
unfolding act
abstraction-act M G g i v t A x m ct n f =
    let s : ℕ → Expression = send g v t in
    let y : Statement = close_statement v x in
    let sv : s v ≡ t = if_same v v t (g v) refl in
    let fy : AllOfStatement (Fine M G) (suc zero) y = Fine-close M G v A x f in
    let wy : AllOfStatement (λ l. Without v) (suc zero) y = AllOfStatement_mono y (Fine M G) (λ l. Without v) (suc zero) (λ l e h. absent_without M G v l e n h) fy in
    let cx : ClosedStatement zero x = AllOfStatement_mono x (Fine M ((v, A) ∷ G)) (λ l. ClosedAt l) zero (λ l e h. h.0) f in
    ap (act_statement s i) (sym (opened-closed x A v cx))
    ∙ act-opened (abstracted A y) s i (free v) (send_closed g i v t m ct) tt (subst (ClosedAt zero) (sym sv) ct)
    ∙ ap (λ t. opened t (act_statement s i (abstracted A y))) sv
    ∙ ap (λ z. opened t (abstracted (act g i A) z)) (send_without_statement y g i v t (suc zero) wy)

pub rule-act : (R : Rule) (a : Arguments) (g : ℕ → Expression) (i : ℕ → ℕ → Option Expression) (h : Expression) → IsClosedMap g i → FitsPremises R.premises a → ScopedRule R → map_claim (act g i) (fill_goal (conclusion_at R a) h) ≡ fill_goal (conclusion_at R (act_arguments g i a)) (act g i h)
rule-act R a g i h m f s = fill_goal-map (conclusion_at R a) (act g i) h ∙ ap (λ c. fill_goal c (act g i h)) (conclusion-act R a g i m f s)

pub rule_pair-act : (R : Rule) (a : Arguments) (g : ℕ → Expression) (i : ℕ → ℕ → Option Expression) (h j : Expression) → IsClosedMap g i → FitsPremises R.premises a → ScopedRule R → map_claim (act g i) (equate_goal (conclusion_at R a) h j) ≡ equate_goal (conclusion_at R (act_arguments g i a)) (act g i h) (act g i j)
rule_pair-act R a g i h j m f s = equate_goal-map (conclusion_at R a) (act g i) h j ∙ ap (λ c. equate_goal c (act g i h) (act g i j)) (conclusion-act R a g i m f s)

-- The traversal: what is derivable is derivable wherever its maps lead.
pub traverse : (T : List Rule) → ScopedTheory T → (c : Sequent) → Tree (Step T) c → Carried T c
unfolding act
traverse T sc = induct (Step T) (Carried T) step
  where
    step : (ps : List Sequent) (c : Sequent) → Step T ps c → Trees (Step T) ps → AllOf (Carried T) ps → Carried T c
    step ps c (variable v A q) ts h N H g i m = m.frees v A q H (Grows_refl H) (h.0 N H g i m)
    step ps c (metavariable {M} {G} k b a q gl o d) (more tb ts) h N H g i m =
        let fa : FineTerms M G a = Fine-term_typings M G a b (fine_all T (sequents M G (term_typings b a)) ts) in
        let pb : Prim T N H (statement_at i b) = subst (λ z. Prim T N H z) (variable_free-act b g i gl) (h.0 N H g i m) in
        let pa : Trees (Step T) (sequents N H (term_typings (statement_at i b) (act_terms g i a))) =
        subst (λ xs. Trees (Step T) (sequents N H xs)) (term_typings-act a b g i m.closed fa.0 ∙ ap (λ z. term_typings z (act_terms g i a)) (variable_free-act b g i gl)) (carry_all T M G N H g i m (term_typings b a) h.1) in
        subst (λ z. Prim T N H z) (sym (metavariable-act b a k g i m.closed gl fa.0)) (m.objects k b q gl o H (Grows_refl H) (act_terms g i a) (count-act a g i ∙ d) pb pa)
    step ps c (metavariable_equation {M} {G} k b a q gl o d) (more tb ts) h N H g i m =
        let fa : FineTerms M G a = Fine-term_typings M G a b (fine_all T (sequents M G (term_typings b a)) ts) in
        let pb : Prim T N H (statement_at i b) = subst (λ z. Prim T N H z) (variable_free-act b g i gl) (h.0 N H g i m) in
        let pa : Trees (Step T) (sequents N H (term_typings (statement_at i b) (act_terms g i a))) =
        subst (λ xs. Trees (Step T) (sequents N H xs)) (term_typings-act a b g i m.closed fa.0 ∙ ap (λ z. term_typings z (act_terms g i a)) (variable_free-act b g i gl)) (carry_all T M G N H g i m (term_typings b a) h.1) in
        subst (λ z. Prim T N H z) (sym (metavariable_equation-act b a g i m.closed gl fa.0)) (m.equations k b q gl o H (Grows_refl H) (act_terms g i a) (count-act a g i ∙ d) pb pa)
    step ps c (metavariable_congruence {M} {G} k b a e q gl o d d') (more tl (more tr ts)) h N H g i m =
        let fa : FineTerms M G a × FineTerms M G e = Fine-term_equations M G a e b (d ∙ sym d') (fine_all T (sequents M G (term_equations b a e)) ts) in
        let pl : Prim T N H (fill (at (statement_at i b) (act_terms g i a)) (applied i k (act_terms g i a))) = subst (λ z. Prim T N H z) (metavariable-act b a k g i m.closed gl fa.0.0) (h.0 N H g i m) in
        let pr : Prim T N H (fill (at (statement_at i b) (act_terms g i a)) (applied i k (act_terms g i e))) = subst (λ z. Prim T N H z) (metavariable_right-act b a e k g i m.closed gl fa.0.0) (h.1.0 N H g i m) in
        let pa : Trees (Step T) (sequents N H (term_equations (statement_at i b) (act_terms g i a) (act_terms g i e))) =
        subst (λ xs. Trees (Step T) (sequents N H xs)) (term_equations-act a e b g i m.closed fa.0.0 ∙ ap (λ z. term_equations z (act_terms g i a) (act_terms g i e)) (variable_free-act b g i gl)) (carry_all T M G N H g i m (term_equations b a e) h.1.1) in
        subst (λ z. Prim T N H z) (sym (metavariable_pair-act b a e k g i m.closed gl fa.0.0)) (m.congruences k b q gl o H (Grows_refl H) (act_terms g i a) (act_terms g i e) (count-act a g i ∙ d) (count-act e g i ∙ d') pl pr pa)
    step ps c (abstraction {M} {G} v A x n u) (more tA (more tx none)) h N H g i m =
        let fA : FineStatement M G (plain (is_type A)) = scope T (sequent M G (plain (is_type A))) tA in
        let fx : FineStatement M ((v, A) ∷ G) x = scope T (sequent M ((v, A) ∷ G) x) tx in
        under_abstraction T N H (act g i A) (map_statement (λ l. act g i) (suc zero) (close_statement v x)) (h.0 N H g i m)
        (λ w a b. subst (λ z. Prim T N ((w, act g i A) ∷ H) z) (abstraction-act M G g i v (free w) A x m.closed tt n fx)
        (h.1.0 N ((w, act g i A) ∷ H) (send g v (free w)) i
        (Maps_under T M G N H ((w, act g i A) ∷ H) g i v A (free w) m n u fA (Grows_add H H w (act g i A) (Grows_refl H) (fresh_absent H w a)) tt
        (λ L s p. do_variable w (s w (act g i A) (look_here H w (act g i A))) p))))
    step ps c (reflexive_type A) ts h N H g i m = do_reflexive_type (h.0 N H g i m)
    step ps c (reflexive_term t A) ts h N H g i m = do_reflexive_term (h.0 N H g i m)
    step ps c (symmetric_types A B) ts h N H g i m = do_symmetric_types (h.0 N H g i m)
    step ps c (symmetric_terms s t A) ts h N H g i m = do_symmetric_terms (h.0 N H g i m)
    step ps c (transitive_types A B C) ts h N H g i m = do_transitive_types (h.0 N H g i m) (h.1.0 N H g i m)
    step ps c (transitive_terms s t u A) ts h N H g i m = do_transitive_terms (h.0 N H g i m) (h.1.0 N H g i m)
    step ps c (convert_term t A B) ts h N H g i m = do_convert_term (h.0 N H g i m) (h.1.0 N H g i m)
    step ps c (convert_equation s t A B) ts h N H g i m = do_convert_equation (h.0 N H g i m) (h.1.0 N H g i m)
    step ps c for_type ts h N H g i m = do_for_type
    step ps c (for_term A) ts h N H g i m = do_for_term (h.0 N H g i m)
    step ps c (for_types A B) ts h N H g i m = do_for_types (h.0 N H g i m) (h.1.0 N H g i m)
    step ps c (for_terms s t A) ts h N H g i m = do_for_terms (h.0 N H g i m) (h.1.0 N H g i m) (h.1.1.0 N H g i m)
    step ps c (symbol_rule {M} {G} r R a q f o) ts h N H g i m =
        subst (λ z. Prim T N H (plain z)) (sym (rule-act R a g i (symbol r a) m.closed f (sc r R q)))
        (node (sequent N H (plain (conclusion_at R (act_arguments g i a))) ∷ sequents N H (filled_premises (instance_of R.premises (act_arguments g i a)) R.premises (act_arguments g i a)))
        (symbol_rule r R (act_arguments g i a) q (FitsPremises-act R.premises a g i f) o)
        (more (subst (λ z. Prim T N H (plain z)) (conclusion-act R a g i m.closed f (sc r R q)) (h.0 N H g i m))
        (subst (λ xs. Trees (Step T) (sequents N H xs)) (filled_premises-act R.premises R.premises a a g i m.closed f (sc r R q).0 f) (carry_all T M G N H g i m (filled_premises (instance_of R.premises a) R.premises a) h.1))))
    step ps c (equation_rule {M} {G} r R a q f o) ts h N H g i m =
        subst (λ z. Prim T N H (plain z)) (sym (rule-act R a g i (bound zero) m.closed f (sc r R q)))
        (node (sequent N H (plain (conclusion_at R (act_arguments g i a))) ∷ sequents N H (filled_premises (instance_of R.premises (act_arguments g i a)) R.premises (act_arguments g i a)))
        (equation_rule r R (act_arguments g i a) q (FitsPremises-act R.premises a g i f) o)
        (more (subst (λ z. Prim T N H (plain z)) (conclusion-act R a g i m.closed f (sc r R q)) (h.0 N H g i m))
        (subst (λ xs. Trees (Step T) (sequents N H xs)) (filled_premises-act R.premises R.premises a a g i m.closed f (sc r R q).0 f) (carry_all T M G N H g i m (filled_premises (instance_of R.premises a) R.premises a) h.1))))
    step ps c (congruence {M} {G} r R a b q f f' o) ts h N H g i m =
        subst (λ z. Prim T N H (plain z)) (sym (rule_pair-act R a g i (symbol r a) (symbol r b) m.closed f (sc r R q)))
        (node (sequent N H (plain (fill_goal (conclusion_at R (act_arguments g i a)) (symbol r (act_arguments g i a)))) ∷ sequent N H (plain (fill_goal (conclusion_at R (act_arguments g i a)) (symbol r (act_arguments g i b)))) ∷ sequents N H (equated_premises (instance_of R.premises (act_arguments g i a)) R.premises (act_arguments g i a) (act_arguments g i b)))
        (congruence r R (act_arguments g i a) (act_arguments g i b) q (FitsPremises-act R.premises a g i f) (FitsPremises-act R.premises b g i f') o)
        (more (subst (λ z. Prim T N H (plain z)) (rule-act R a g i (symbol r a) m.closed f (sc r R q)) (h.0 N H g i m))
        (more (subst (λ z. Prim T N H (plain z)) (rule-act R a g i (symbol r b) m.closed f (sc r R q)) (h.1.0 N H g i m))
        (subst (λ xs. Trees (Step T) (sequents N H xs)) (equated_premises-act R.premises R.premises a a b g i m.closed f (sc r R q).0 f f') (carry_all T M G N H g i m (equated_premises (instance_of R.premises a) R.premises a b) h.1.1)))))
