-- Two maps through one derivation: what they make of a derivable statement is equal, part by part, at equal terms.
use Rattle.std.proofs.Common.{◌≡◌, ℕ, zero, suc, Option, Some, None, List, [], ◌∷◌, inr, refl, sym, ap, ◌∙◌, subst, subst₂, arith}
use Rattle.std.proofs.lemmas.Option.{same_Some}
use Rattle.ft_common.proofs.Choices.{if_same, if_other}
use Rattle.ft_theory.specs.Expressions.{Expression, bound, free, symbol, Arguments, no_arguments, with_body, dummy, Terms, no_terms, also, count, act, act_arguments, act_terms, ClosedAt, ClosedTerms}
use Rattle.ft_theory.specs.Statements.{Claim, is_type, has_type, equal_types, equal_terms, type_goal, term_goal, type_equation_goal, term_equation_goal, Statement, plain, abstracted, map_claim, map_statement, act_statement, close_statement, opened, domain, domain_count, at, fill_goal, fill, equate_goal, equate, IsObjectGoal, IsEquationGoal, IsObject, IsEquation}
use Rattle.ft_theory.specs.Rules.{look_up, Rule, instance_of, FitsPremises, filled_premises, equated_premises, term_typings, term_equations, conclusion_at}
use Rattle.ft_theory.specs.Steps.{Sequent, sequent, sequents, IsVariableFree, Unmentioned, Step, variable, metavariable, metavariable_equation, metavariable_congruence, abstraction, reflexive_type, reflexive_term, symmetric_types, symmetric_terms, transitive_types, transitive_terms, convert_term, convert_equation, for_type, for_term, for_types, for_terms, symbol_rule, equation_rule, congruence, Tree, Trees, node, none, more, Prim}
use Rattle.ft_laws.specs.Instances.{statement_at}
use Rattle.ft_laws.proofs.Induction.{AllOf, induct}
use Rattle.ft_laws.proofs.Acts.{IsClosedMap, count-act}
use Rattle.ft_laws.proofs.Opens.{by_test}
use Rattle.ft_laws.proofs.Steps.{do_symmetric_types, do_convert_term, do_convert_equation}
use Rattle.ft_laws.proofs.Scope.{scope, Fine, FineStatement, FineTerms, object-at, equation-at, domain_count-at, Fine-term_typings}
use Rattle.ft_laws.proofs.Peel.{domain_count-fill, domain_count-equate}
use Rattle.ft_laws.proofs.Statements.{domain_count-map, object-map, object_goal-map, equation-map, equation_goal-map, act-opened, domain-act}
use Rattle.ft_laws.proofs.Commute.{acts, act-fill, term_typings-act, ScopedTheory, conclusion-act, filled_premises-act, boundary-act, ScopedPremises, FitsPremises-act, variable_free-act}
use Rattle.ft_laws.proofs.ClosedActs.{Closed-act}
use Rattle.ft_laws.proofs.Traverse.{Grows, Grows_refl, applied, Maps, send, send_closed, send_without, absent_without, Maps_under, abstraction-act, traverse, metavariable-act, metavariable_equation-act, metavariable_pair-act, rule-act, rule_pair-act, fine_all, metavariable_right-act, Fine-term_equations}
use Rattle.ft_laws.proofs.Equal.{Paired, AllPaired, EqualClaims, EqualHere, EqualStatements, Grows_trans, grow_paired, equal_plain, equal_here, equal_abstracted, equal_flat, paired_equal, sides_of, types_of, paired_closed, reify, transport}

-- Pairs T M G N H g i h j: g and i lead from M, G to N, H, and h and j put closed expressions that are equal to theirs: paired
-- for each variable, and with equal heads for each object metavariable at equal terms. Nothing else is asked of h and j.
pub record Pairs (T : List Rule) (M : List (ℕ × Statement)) (G : List (ℕ × Expression)) (N : List (ℕ × Statement)) (H : List (ℕ × Expression)) (g : ℕ → Expression) (i : ℕ → ℕ → Option Expression) (h : ℕ → Expression) (j : ℕ → ℕ → Option Expression) : Type 0 where
  pub left : Maps T M G N H g i
  pub closed : IsClosedMap h j
  pub related : (v : ℕ) (A : Expression) → look_up G v ≡ Some A → Paired T N H (g v) (h v) (act g i A)
  pub heads : (m : ℕ) (b : Statement) → look_up M m ≡ Some b → IsVariableFree b → IsObject b → (K : List (ℕ × Expression)) → Grows H K → (a c : Terms) → count a ≡ domain_count b → count c ≡ domain_count b
      → Prim T N K (statement_at i b) → EqualStatements T N K (statement_at i b) (statement_at j b) → Trees (Step T) (sequents N K (term_typings (statement_at i b) a)) → Trees (Step T) (sequents N K (term_typings (statement_at j b) c)) → Trees (Step T) (sequents N K (term_equations (statement_at i b) a c))
      → EqualHere T N K (fill (at (statement_at i b) a) (applied i m a)) (fill (at (statement_at j b) c) (applied j m c))

-- the statement is equal to itself under all such pairs
abbrev pub Related : List Rule → Sequent → Type 0
Related T c = (N : List (ℕ × Statement)) (H : List (ℕ × Expression)) (g : ℕ → Expression) (i : ℕ → ℕ → Option Expression) (h : ℕ → Expression) (j : ℕ → ℕ → Option Expression) → Pairs T c.metavariables c.variables N H g i h j → EqualStatements T N H (act_statement g i c.statement) (act_statement h j c.statement)

-- pairs of heads, by cases
pub equation_here_claim : (T : List Rule) (M : List (ℕ × Statement)) (G : List (ℕ × Expression)) (c d : Claim) (h k : Expression) → IsEquationGoal c → IsEquationGoal d → EqualClaims T M G c d → EqualClaims T M G (fill_goal c h) (fill_goal d k)
equation_here_claim T M G (type_equation_goal A B) (type_equation_goal C D) h k o o' e = e
equation_here_claim T M G (term_equation_goal s t A) (term_equation_goal u v B) h k o o' e = e
equation_here_claim T M G (type_equation_goal A B) (term_equation_goal u v C) h k o o' e = absurd e
equation_here_claim T M G (term_equation_goal s t A) (type_equation_goal C D) h k o o' e = absurd e
equation_here_claim T M G (type_equation_goal A B) (is_type C) h k o o' e = absurd o'
equation_here_claim T M G (type_equation_goal A B) (has_type u C) h k o o' e = absurd o'
equation_here_claim T M G (type_equation_goal A B) (equal_types C D) h k o o' e = absurd o'
equation_here_claim T M G (type_equation_goal A B) (equal_terms u v C) h k o o' e = absurd o'
equation_here_claim T M G (type_equation_goal A B) type_goal h k o o' e = absurd o'
equation_here_claim T M G (type_equation_goal A B) (term_goal C) h k o o' e = absurd o'
equation_here_claim T M G (term_equation_goal s t A) (is_type C) h k o o' e = absurd o'
equation_here_claim T M G (term_equation_goal s t A) (has_type u C) h k o o' e = absurd o'
equation_here_claim T M G (term_equation_goal s t A) (equal_types C D) h k o o' e = absurd o'
equation_here_claim T M G (term_equation_goal s t A) (equal_terms u v C) h k o o' e = absurd o'
equation_here_claim T M G (term_equation_goal s t A) type_goal h k o o' e = absurd o'
equation_here_claim T M G (term_equation_goal s t A) (term_goal C) h k o o' e = absurd o'
equation_here_claim T M G (is_type A) d h k o o' e = absurd o
equation_here_claim T M G (has_type t A) d h k o o' e = absurd o
equation_here_claim T M G (equal_types A B) d h k o o' e = absurd o
equation_here_claim T M G (equal_terms s t A) d h k o o' e = absurd o
equation_here_claim T M G type_goal d h k o o' e = absurd o
equation_here_claim T M G (term_goal A) d h k o o' e = absurd o

pub equation_here : (T : List Rule) (M : List (ℕ × Statement)) (G : List (ℕ × Expression)) (x y : Statement) (h k : Expression) → IsEquation x → IsEquation y → EqualHere T M G x y → EqualHere T M G (fill x h) (fill y k)
equation_here T M G (plain c) (plain d) h k o o' e = equation_here_claim T M G c d h k o o' e
equation_here T M G (plain c) (abstracted B y) h k o o' e = absurd e
equation_here T M G (abstracted A x) (plain d) h k o o' e = absurd e
equation_here T M G (abstracted A x) (abstracted B y) h k o o' e = e

pub pair_here_core : (T : List Rule) (M : List (ℕ × Statement)) (G : List (ℕ × Expression)) (c d : Claim) (h h' k k' : Expression) → IsObjectGoal c → IsObjectGoal d → EqualClaims T M G (fill_goal c h) (fill_goal d h') → EqualClaims T M G (fill_goal c k) (fill_goal d k') → EqualClaims T M G (equate_goal c h k) (equate_goal d h' k')
pair_here_core T M G type_goal type_goal h h' k k' o o' e f = (e, f)
pair_here_core T M G (term_goal A) (term_goal B) h h' k k' o o' e f = (e.0, e.1, f.1)
pair_here_core T M G type_goal (term_goal B) h h' k k' o o' e f = absurd e
pair_here_core T M G (term_goal A) type_goal h h' k k' o o' e f = absurd e
pair_here_core T M G (term_goal A) _ h h' k k' o o' e f = absurd o'
pair_here_core T M G type_goal _ h h' k k' o o' e f = absurd o'
pair_here_core T M G _ _ h h' k k' o o' e f = absurd o

pub pair_here : (T : List Rule) (M : List (ℕ × Statement)) (G : List (ℕ × Expression)) (x y : Statement) (h h' k k' : Expression) → domain_count x ≡ zero → IsObject x → IsObject y → EqualHere T M G (fill x h) (fill y h') → EqualHere T M G (fill x k) (fill y k') → EqualHere T M G (equate x h k) (equate y h' k')
pair_here T M G (plain c) (plain d) h h' k k' z o o' e f = pair_here_core T M G c d h h' k k' o o' e f
pair_here T M G (plain c) (abstracted B y) h h' k k' z o o' e f = absurd e
pair_here T M G (abstracted A x) y h h' k k' z o o' e f = absurd (grind (arith, z))

-- a head for both sides, and the right head at the left type
pub head_here : (T : List Rule) (M : List (ℕ × Statement)) (G : List (ℕ × Expression)) (c d : Claim) (h k : Expression) → IsObjectGoal c → IsObjectGoal d → EqualClaims T M G c d → Prim T M G (plain (equate_goal c h k)) → EqualClaims T M G (fill_goal c h) (fill_goal d k)
head_here T M G type_goal type_goal h k o o' e p = p
head_here T M G (term_goal A) (term_goal B) h k o o' e p = (e, p)
head_here T M G type_goal (term_goal B) h k o o' e p = absurd e
head_here T M G (term_goal A) type_goal h k o o' e p = absurd e
head_here T M G (term_goal A) _ h k o o' e p = absurd o'
head_here T M G type_goal _ h k o o' e p = absurd o'
head_here T M G _ _ h k o o' e p = absurd o

pub back_here : (T : List Rule) (M : List (ℕ × Statement)) (G : List (ℕ × Expression)) (c d : Claim) (k : Expression) → IsObjectGoal c → IsObjectGoal d → EqualClaims T M G c d → Prim T M G (plain (fill_goal d k)) → Prim T M G (plain (fill_goal c k))
back_here T M G type_goal type_goal k o o' e p = p
back_here T M G (term_goal A) (term_goal B) k o o' e p = do_convert_term p (do_symmetric_types e)
back_here T M G type_goal (term_goal B) k o o' e p = absurd e
back_here T M G (term_goal A) type_goal k o o' e p = absurd e
back_here T M G (term_goal A) _ k o o' e p = absurd o'
back_here T M G type_goal _ k o o' e p = absurd o'
back_here T M G _ _ k o o' e p = absurd o

-- the trees of premises, mapped
pub traverse_all : (T : List Rule) → ScopedTheory T → (M : List (ℕ × Statement)) (G : List (ℕ × Expression)) (N : List (ℕ × Statement)) (H : List (ℕ × Expression)) (g : ℕ → Expression) (i : ℕ → ℕ → Option Expression) → Maps T M G N H g i → (xs : List Statement) → Trees (Step T) (sequents M G xs) → Trees (Step T) (sequents N H (acts g i xs))
traverse_all T sc M G N H g i m [] none = none
traverse_all T sc M G N H g i m (x ∷ xs) (more t ts) = more (traverse T sc (sequent M G x) t N H g i m) (traverse_all T sc M G N H g i m xs ts)

pub transport_all : (T : List Rule) → ScopedTheory T → (M : List (ℕ × Statement)) (G : List (ℕ × Expression)) (N : List (ℕ × Statement)) (H : List (ℕ × Expression)) (g : ℕ → Expression) (i : ℕ → ℕ → Option Expression) (h : ℕ → Expression) (j : ℕ → ℕ → Option Expression) → Pairs T M G N H g i h j → (xs : List Statement) → Trees (Step T) (sequents M G xs) → AllOf (Related T) (sequents M G xs) → Trees (Step T) (sequents N H (acts h j xs))
transport_all T sc M G N H g i h j m [] none r = none
transport_all T sc M G N H g i h j m (x ∷ xs) (more t ts) r =
    more (transport T sc N (domain_count (act_statement g i x)) H (act_statement g i x) (act_statement h j x) refl (r.0 N H g i h j m) (traverse T sc (sequent M G x) t N H g i m.left)) (transport_all T sc M G N H g i h j m xs ts r.1)

pub pairing_trees : (T : List Rule) (M : List (ℕ × Statement)) (G : List (ℕ × Expression)) (N : List (ℕ × Statement)) (H : List (ℕ × Expression)) (g : ℕ → Expression) (i : ℕ → ℕ → Option Expression) (h : ℕ → Expression) (j : ℕ → ℕ → Option Expression) → Pairs T M G N H g i h j → (a : Terms) (x : Statement) → ClosedTerms zero a → AllOf (Related T) (sequents M G (term_typings x a)) → Trees (Step T) (sequents N H (term_equations (act_statement g i x) (act_terms g i a) (act_terms h j a)))
unfolding act
pairing_trees T M G N H g i h j m no_terms x c r = none
pairing_trees T M G N H g i h j m (also t a) x c r =
    let e : EqualClaims T N H (has_type (act g i t) (act g i (domain x))) (has_type (act h j t) (act h j (domain x))) = equal_here T N H (plain (has_type (act g i t) (act g i (domain x)))) (plain (has_type (act h j t) (act h j (domain x)))) (r.0 N H g i h j m) in
    more (subst (λ D. Prim T N H (plain (equal_terms (act g i t) (act h j t) D))) (domain-act x g i) e.1)
    (subst (λ y. Trees (Step T) (sequents N H (term_equations y (act_terms g i a) (act_terms h j a)))) (act-opened x g i t m.left.closed c.0 (Closed-act t g i zero m.left.closed c.0)) (pairing_trees T M G N H g i h j m a (opened t x) c.1 r.1))

pub pairs_of_equations : (T : List Rule) (M : List (ℕ × Statement)) (G : List (ℕ × Expression)) (a b : Terms) (x : Statement) → count a ≡ count b → Trees (Step T) (sequents M G (term_equations x a b)) → AllPaired T M G x a b
unfolding count
pairs_of_equations T M G no_terms no_terms x e ts = tt
pairs_of_equations T M G no_terms (also t b) x e ts = absurd (grind (arith, e))
pairs_of_equations T M G (also s a) no_terms x e ts = absurd (grind (arith, e))
pairs_of_equations T M G (also s a) (also t b) x e (more p ts) = (inr p, pairs_of_equations T M G a b (opened s x) (omega (arith, e)) ts)

pub equation_trees : (T : List Rule) → ScopedTheory T → (M : List (ℕ × Statement)) (G : List (ℕ × Expression)) (N : List (ℕ × Statement)) (H : List (ℕ × Expression)) (g : ℕ → Expression) (i : ℕ → ℕ → Option Expression) (h : ℕ → Expression) (j : ℕ → ℕ → Option Expression) → Pairs T M G N H g i h j → (all ps : List (ℕ × Statement)) (whole a : Arguments) → FitsPremises all whole → FitsPremises ps a → ScopedPremises all ps → AllOf (Related T) (sequents M G (filled_premises (instance_of all whole) ps a)) → Trees (Step T) (sequents N H (equated_premises (instance_of all (act_arguments g i whole)) ps (act_arguments g i a) (act_arguments h j a)))
unfolding act
equation_trees T sc M G N H g i h j m all [] whole no_arguments f f' s r = none
equation_trees T sc M G N H g i h j m all [] whole (with_body n e a) f f' s r = absurd f'
equation_trees T sc M G N H g i h j m all [] whole (dummy n a) f f' s r = absurd f'
equation_trees T sc M G N H g i h j m all (p ∷ ps) whole no_arguments f f' s r = absurd f'
equation_trees T sc M G N H g i h j m all (p ∷ ps) whole (with_body n e a) f f' s r =
    let b : Statement = act_statement free (instance_of all (act_arguments g i whole)) p.1 in
    let c : Statement = act_statement free (instance_of all (act_arguments h j whole)) p.1 in
    let xb : act_statement g i (fill (act_statement free (instance_of all whole) p.1) e) ≡ fill b (act g i e) = act-fill (act_statement free (instance_of all whole) p.1) g i e ∙ ap (λ x. fill x (act g i e)) (boundary-act all p.1 whole g i m.left.closed f s.0) in
    let yc : act_statement h j (fill (act_statement free (instance_of all whole) p.1) e) ≡ fill c (act h j e) = act-fill (act_statement free (instance_of all whole) p.1) h j e ∙ ap (λ x. fill x (act h j e)) (boundary-act all p.1 whole h j m.closed f s.0) in
    more (reify T sc N (domain_count p.1) H b c (act g i e) (act h j e) (domain_count-map p.1 (λ l. act free (instance_of all (act_arguments g i whole))) zero) (domain_count-map p.1 (λ l. act free (instance_of all (act_arguments h j whole))) zero)
    (object-map p.1 (λ l. act free (instance_of all (act_arguments g i whole))) zero f'.1) (object-map p.1 (λ l. act free (instance_of all (act_arguments h j whole))) zero f'.1)
    (subst₂ (λ u v. EqualStatements T N H u v) xb yc (r.0 N H g i h j m)))
    (equation_trees T sc M G N H g i h j m all ps whole a f f'.2 s.1 r.1)
equation_trees T sc M G N H g i h j m all (p ∷ ps) whole (dummy n a) f f' s r = equation_trees T sc M G N H g i h j m all ps whole a f f'.2 s.1 r.1

-- under an abstraction, with s and t for the variable
pub under_pair : (T : List Rule) → ScopedTheory T → (M : List (ℕ × Statement)) (G : List (ℕ × Expression)) (N : List (ℕ × Statement)) (H K : List (ℕ × Expression)) (g : ℕ → Expression) (i : ℕ → ℕ → Option Expression) (h : ℕ → Expression) (j : ℕ → ℕ → Option Expression) (v : ℕ) (A s t : Expression)
    → Pairs T M G N H g i h j → look_up G v ≡ None → Unmentioned v G → Fine M G zero A → Grows H K → Paired T N K s t (act g i A) → Pairs T M ((v, A) ∷ G) N K (send g v s) i (send h v t) j
under_pair T sc M G N H K g i h j v A s t m n u f gr rl =
    let cl : ClosedAt zero s × ClosedAt zero t = paired_closed T sc N K s t (act g i A) rl in
    record {
      left = Maps_under T M G N H K g i v A s m.left n u f gr cl.0 (λ L g2 p. (sides_of T sc N L s t (act g i A) (paired_equal T N L s t (act g i A) (grow_paired T sc N K L s t (act g i A) g2 rl) p)).1);
      closed = send_closed h j v t m.closed cl.1;
      related = λ w B q. by_test (Paired T N K (send g v s w) (send h v t w) (act (send g v s) i B)) w v
          (λ e.
          let AB : A ≡ B = same_Some A B (sym (if_same w v (Some A) (look_up G w) e) ∙ q) in
          let Ae : act (send g v s) i B ≡ act g i A = ap (act (send g v s) i) (sym AB) ∙ send_without A g i v s (absent_without M G v zero A n f) in
          subst (λ D. Paired T N K (send g v s w) (send h v t w) D) (sym Ae) (subst₂ (λ x y. Paired T N K x y (act g i A)) (sym (if_same w v s (g w) e)) (sym (if_same w v t (h w) e)) rl))
          (λ e.
          let q' : look_up G w ≡ Some B = sym (if_other w v (Some A) (look_up G w) e) ∙ q in
          let Be : act (send g v s) i B ≡ act g i B = send_without B g i v s (u w B q') in
          subst (λ D. Paired T N K (send g v s w) (send h v t w) D) (sym Be) (subst₂ (λ x y. Paired T N K x y (act g i B)) (sym (if_other w v s (g w) e)) (sym (if_other w v t (h w) e)) (grow_paired T sc N H K (g w) (h w) (act g i B) gr (m.related w B q'))));
      heads = λ k b q gl o L g3. m.heads k b q gl o L (Grows_trans H K L gr g3);
    }

-- The second traversal: what is derivable is equal to itself under all such pairs.
pub relate : (T : List Rule) → ScopedTheory T → (c : Sequent) → Tree (Step T) c → Related T c
unfolding act
relate T sc = induct (Step T) (Related T) step
  where
    step : (ps : List Sequent) (c : Sequent) → Step T ps c → Trees (Step T) ps → AllOf (Related T) ps → Related T c
    step ps c (variable {M} {G} v A q) (more t none) r N H g i h j m =
        let AA : Prim T N H (plain (equal_types (act g i A) (act h j A))) = equal_here T N H (plain (is_type (act g i A))) (plain (is_type (act h j A))) (r.0 N H g i h j m) in
        equal_plain T sc N H (has_type (g v) (act g i A)) (has_type (h v) (act h j A)) (AA, paired_equal T N H (g v) (h v) (act g i A) (m.related v A q) (types_of T sc N H (act g i A) (act h j A) AA).0)
    step ps c (metavariable {M} {G} k b a q gl o d) (more tb ts) r N H g i h j m =
        let fa : FineTerms M G a = Fine-term_typings M G a b (fine_all T (sequents M G (term_typings b a)) ts) in
        let bi : Statement = statement_at i b in
        let bj : Statement = statement_at j b in
        let al : Terms = act_terms g i a in
        let ar : Terms = act_terms h j a in
        let gi : act_statement g i b ≡ bi = variable_free-act b g i gl in
        let gj : act_statement h j b ≡ bj = variable_free-act b h j gl in
        let dl : count al ≡ domain_count b = count-act a g i ∙ d in
        let dr : count ar ≡ domain_count b = count-act a h j ∙ d in
        let here : EqualHere T N H (fill (at bi al) (applied i k al)) (fill (at bj ar) (applied j k ar)) =
        m.heads k b q gl o H (Grows_refl H) al ar dl dr
        (subst (λ z. Prim T N H z) gi (traverse T sc (sequent M G b) tb N H g i m.left))
        (subst₂ (λ x y. EqualStatements T N H x y) gi gj (r.0 N H g i h j m))
        (subst (λ xs. Trees (Step T) (sequents N H xs)) (term_typings-act a b g i m.left.closed fa.0 ∙ ap (λ z. term_typings z al) gi) (traverse_all T sc M G N H g i m.left (term_typings b a) ts))
        (subst (λ xs. Trees (Step T) (sequents N H xs)) (term_typings-act a b h j m.closed fa.0 ∙ ap (λ z. term_typings z ar) gj) (transport_all T sc M G N H g i h j m (term_typings b a) ts r.1))
        (subst (λ z. Trees (Step T) (sequents N H (term_equations z al ar))) gi (pairing_trees T M G N H g i h j m a b fa.0 r.1)) in
        subst₂ (λ x y. EqualStatements T N H x y) (sym (metavariable-act b a k g i m.left.closed gl fa.0)) (sym (metavariable-act b a k h j m.closed gl fa.0))
        (equal_flat T sc N H (fill (at bi al) (applied i k al)) (fill (at bj ar) (applied j k ar)) (domain_count-fill (at bi al) (applied i k al) ∙ domain_count-at al bi (dl ∙ sym (domain_count-map b (λ l. act free i) zero))) here)
    step ps c (metavariable_equation {M} {G} k b a q gl o d) (more tb ts) r N H g i h j m =
        let fa : FineTerms M G a = Fine-term_typings M G a b (fine_all T (sequents M G (term_typings b a)) ts) in
        let bi : Statement = statement_at i b in
        let bj : Statement = statement_at j b in
        let al : Terms = act_terms g i a in
        let ar : Terms = act_terms h j a in
        let gi : act_statement g i b ≡ bi = variable_free-act b g i gl in
        let gj : act_statement h j b ≡ bj = variable_free-act b h j gl in
        let dl : count al ≡ domain_count b = count-act a g i ∙ d in
        let eb : EqualStatements T N H bi bj = subst₂ (λ x y. EqualStatements T N H x y) gi gj (r.0 N H g i h j m) in
        let rel : AllPaired T N H bi al ar = pairs_of_equations T N H al ar bi (count-act a g i ∙ sym (count-act a h j)) (subst (λ z. Trees (Step T) (sequents N H (term_equations z al ar))) gi (pairing_trees T M G N H g i h j m a b fa.0 r.1)) in
        let here : EqualHere T N H (fill (at bi al) (bound zero)) (fill (at bj ar) (bound zero)) =
        equation_here T N H (at bi al) (at bj ar) (bound zero) (bound zero) (equation-at al bi (equation-map b (λ l. act free i) zero o)) (equation-at ar bj (equation-map b (λ l. act free j) zero o)) (eb H (Grows_refl H) al ar rel) in
        subst₂ (λ x y. EqualStatements T N H x y) (sym (metavariable_equation-act b a g i m.left.closed gl fa.0)) (sym (metavariable_equation-act b a h j m.closed gl fa.0))
        (equal_flat T sc N H (fill (at bi al) (bound zero)) (fill (at bj ar) (bound zero)) (domain_count-fill (at bi al) (bound zero) ∙ domain_count-at al bi (dl ∙ sym (domain_count-map b (λ l. act free i) zero))) here)
    step ps c (metavariable_congruence {M} {G} k b a e q gl o d d') (more tl (more tr ts)) r N H g i h j m =
        let fa : FineTerms M G a × FineTerms M G e = Fine-term_equations M G a e b (d ∙ sym d') (fine_all T (sequents M G (term_equations b a e)) ts) in
        let bi : Statement = statement_at i b in
        let bj : Statement = statement_at j b in
        let al : Terms = act_terms g i a in
        let ar : Terms = act_terms h j a in
        let el : Terms = act_terms g i e in
        let er : Terms = act_terms h j e in
        let dl : count al ≡ domain_count b = count-act a g i ∙ d in
        let flat : domain_count (at bi al) ≡ zero = domain_count-at al bi (dl ∙ sym (domain_count-map b (λ l. act free i) zero)) in
        let x : EqualHere T N H (fill (at bi al) (applied i k al)) (fill (at bj ar) (applied j k ar)) =
        equal_here T N H (fill (at bi al) (applied i k al)) (fill (at bj ar) (applied j k ar)) (subst₂ (λ x y. EqualStatements T N H x y) (metavariable-act b a k g i m.left.closed gl fa.0.0) (metavariable-act b a k h j m.closed gl fa.0.0) (r.0 N H g i h j m)) in
        let y : EqualHere T N H (fill (at bi al) (applied i k el)) (fill (at bj ar) (applied j k er)) =
        equal_here T N H (fill (at bi al) (applied i k el)) (fill (at bj ar) (applied j k er)) (subst₂ (λ x y. EqualStatements T N H x y) (metavariable_right-act b a e k g i m.left.closed gl fa.0.0) (metavariable_right-act b a e k h j m.closed gl fa.0.0) (r.1.0 N H g i h j m)) in
        subst₂ (λ x y. EqualStatements T N H x y) (sym (metavariable_pair-act b a e k g i m.left.closed gl fa.0.0)) (sym (metavariable_pair-act b a e k h j m.closed gl fa.0.0))
        (equal_flat T sc N H (equate (at bi al) (applied i k al) (applied i k el)) (equate (at bj ar) (applied j k ar) (applied j k er)) (domain_count-equate (at bi al) (applied i k al) (applied i k el) ∙ flat)
        (pair_here T N H (at bi al) (at bj ar) (applied i k al) (applied j k ar) (applied i k el) (applied j k er) flat (object-at al bi (object-map b (λ l. act free i) zero o)) (object-at ar bj (object-map b (λ l. act free j) zero o)) x y))
    step ps c (abstraction {M} {G} v A x n u) (more tA (more tx none)) r N H g i h j m =
        let fA : FineStatement M G (plain (is_type A)) = scope T (sequent M G (plain (is_type A))) tA in
        let fx : FineStatement M ((v, A) ∷ G) x = scope T (sequent M ((v, A) ∷ G) x) tx in
        let AA : Prim T N H (plain (equal_types (act g i A) (act h j A))) = equal_here T N H (plain (is_type (act g i A))) (plain (is_type (act h j A))) (r.0 N H g i h j m) in
        equal_abstracted T sc N H (act g i A) (act h j A) (map_statement (λ l. act g i) (suc zero) (close_statement v x)) (map_statement (λ l. act h j) (suc zero) (close_statement v x)) AA
        (λ K s t gr rl.
        let cl : ClosedAt zero s × ClosedAt zero t = paired_closed T sc N K s t (act g i A) rl in
        subst₂ (λ x y. EqualStatements T N K x y) (abstraction-act M G g i v s A x m.left.closed cl.0 n fx) (abstraction-act M G h j v t A x m.closed cl.1 n fx)
        (r.1.0 N K (send g v s) i (send h v t) j (under_pair T sc M G N H K g i h j v A s t m n u fA gr rl)))
    step ps c (reflexive_type A) ts r N H g i h j m =
        let e : Prim T N H (plain (equal_types (act g i A) (act h j A))) = equal_here T N H (plain (is_type (act g i A))) (plain (is_type (act h j A))) (r.0 N H g i h j m) in
        equal_plain T sc N H (equal_types (act g i A) (act g i A)) (equal_types (act h j A) (act h j A)) (e, e)
    step ps c (reflexive_term t A) ts r N H g i h j m =
        let e : EqualClaims T N H (has_type (act g i t) (act g i A)) (has_type (act h j t) (act h j A)) = equal_here T N H (plain (has_type (act g i t) (act g i A))) (plain (has_type (act h j t) (act h j A))) (r.0 N H g i h j m) in
        equal_plain T sc N H (equal_terms (act g i t) (act g i t) (act g i A)) (equal_terms (act h j t) (act h j t) (act h j A)) (e.0, e.1, e.1)
    step ps c (symmetric_types A B) ts r N H g i h j m =
        let e : EqualClaims T N H (equal_types (act g i A) (act g i B)) (equal_types (act h j A) (act h j B)) = equal_here T N H (plain (equal_types (act g i A) (act g i B))) (plain (equal_types (act h j A) (act h j B))) (r.0 N H g i h j m) in
        equal_plain T sc N H (equal_types (act g i B) (act g i A)) (equal_types (act h j B) (act h j A)) (e.1, e.0)
    step ps c (symmetric_terms s t A) ts r N H g i h j m =
        let e : EqualClaims T N H (equal_terms (act g i s) (act g i t) (act g i A)) (equal_terms (act h j s) (act h j t) (act h j A)) = equal_here T N H (plain (equal_terms (act g i s) (act g i t) (act g i A))) (plain (equal_terms (act h j s) (act h j t) (act h j A))) (r.0 N H g i h j m) in
        equal_plain T sc N H (equal_terms (act g i t) (act g i s) (act g i A)) (equal_terms (act h j t) (act h j s) (act h j A)) (e.0, e.2, e.1)
    step ps c (transitive_types A B C) ts r N H g i h j m =
        let e : EqualClaims T N H (equal_types (act g i A) (act g i B)) (equal_types (act h j A) (act h j B)) = equal_here T N H (plain (equal_types (act g i A) (act g i B))) (plain (equal_types (act h j A) (act h j B))) (r.0 N H g i h j m) in
        let f : EqualClaims T N H (equal_types (act g i B) (act g i C)) (equal_types (act h j B) (act h j C)) = equal_here T N H (plain (equal_types (act g i B) (act g i C))) (plain (equal_types (act h j B) (act h j C))) (r.1.0 N H g i h j m) in
        equal_plain T sc N H (equal_types (act g i A) (act g i C)) (equal_types (act h j A) (act h j C)) (e.0, f.1)
    step ps c (transitive_terms s t u A) ts r N H g i h j m =
        let e : EqualClaims T N H (equal_terms (act g i s) (act g i t) (act g i A)) (equal_terms (act h j s) (act h j t) (act h j A)) = equal_here T N H (plain (equal_terms (act g i s) (act g i t) (act g i A))) (plain (equal_terms (act h j s) (act h j t) (act h j A))) (r.0 N H g i h j m) in
        let f : EqualClaims T N H (equal_terms (act g i t) (act g i u) (act g i A)) (equal_terms (act h j t) (act h j u) (act h j A)) = equal_here T N H (plain (equal_terms (act g i t) (act g i u) (act g i A))) (plain (equal_terms (act h j t) (act h j u) (act h j A))) (r.1.0 N H g i h j m) in
        equal_plain T sc N H (equal_terms (act g i s) (act g i u) (act g i A)) (equal_terms (act h j s) (act h j u) (act h j A)) (e.0, e.1, f.2)
    step ps c (convert_term {M} {G} t A B) (more tt' (more te none)) r N H g i h j m =
        let e : EqualClaims T N H (has_type (act g i t) (act g i A)) (has_type (act h j t) (act h j A)) = equal_here T N H (plain (has_type (act g i t) (act g i A))) (plain (has_type (act h j t) (act h j A))) (r.0 N H g i h j m) in
        let f : EqualClaims T N H (equal_types (act g i A) (act g i B)) (equal_types (act h j A) (act h j B)) = equal_here T N H (plain (equal_types (act g i A) (act g i B))) (plain (equal_types (act h j A) (act h j B))) (r.1.0 N H g i h j m) in
        equal_plain T sc N H (has_type (act g i t) (act g i B)) (has_type (act h j t) (act h j B)) (f.1, do_convert_equation e.1 (traverse T sc (sequent M G (plain (equal_types A B))) te N H g i m.left))
    step ps c (convert_equation {M} {G} s t A B) (more tt' (more te none)) r N H g i h j m =
        let e : EqualClaims T N H (equal_terms (act g i s) (act g i t) (act g i A)) (equal_terms (act h j s) (act h j t) (act h j A)) = equal_here T N H (plain (equal_terms (act g i s) (act g i t) (act g i A))) (plain (equal_terms (act h j s) (act h j t) (act h j A))) (r.0 N H g i h j m) in
        let f : EqualClaims T N H (equal_types (act g i A) (act g i B)) (equal_types (act h j A) (act h j B)) = equal_here T N H (plain (equal_types (act g i A) (act g i B))) (plain (equal_types (act h j A) (act h j B))) (r.1.0 N H g i h j m) in
        let p : Prim T N H (plain (equal_types (act g i A) (act g i B))) = traverse T sc (sequent M G (plain (equal_types A B))) te N H g i m.left in
        equal_plain T sc N H (equal_terms (act g i s) (act g i t) (act g i B)) (equal_terms (act h j s) (act h j t) (act h j B)) (f.1, do_convert_equation e.1 p, do_convert_equation e.2 p)
    step ps c for_type ts r N H g i h j m = equal_plain T sc N H type_goal type_goal tt
    step ps c (for_term A) ts r N H g i h j m =
        equal_plain T sc N H (term_goal (act g i A)) (term_goal (act h j A)) (equal_here T N H (plain (is_type (act g i A))) (plain (is_type (act h j A))) (r.0 N H g i h j m))
    step ps c (for_types A B) ts r N H g i h j m =
        equal_plain T sc N H (type_equation_goal (act g i A) (act g i B)) (type_equation_goal (act h j A) (act h j B)) (equal_here T N H (plain (is_type (act g i A))) (plain (is_type (act h j A))) (r.0 N H g i h j m), equal_here T N H (plain (is_type (act g i B))) (plain (is_type (act h j B))) (r.1.0 N H g i h j m))
    step ps c (for_terms s t A) ts r N H g i h j m =
        let e : EqualClaims T N H (has_type (act g i s) (act g i A)) (has_type (act h j s) (act h j A)) = equal_here T N H (plain (has_type (act g i s) (act g i A))) (plain (has_type (act h j s) (act h j A))) (r.1.0 N H g i h j m) in
        let f : EqualClaims T N H (has_type (act g i t) (act g i A)) (has_type (act h j t) (act h j A)) = equal_here T N H (plain (has_type (act g i t) (act g i A))) (plain (has_type (act h j t) (act h j A))) (r.1.1.0 N H g i h j m) in
        equal_plain T sc N H (term_equation_goal (act g i s) (act g i t) (act g i A)) (term_equation_goal (act h j s) (act h j t) (act h j A)) (e.0, e.1, f.1)
    step ps c (symbol_rule {M} {G} k R a q f o) (more tb ts) r N H g i h j m =
        let al : Arguments = act_arguments g i a in
        let ar : Arguments = act_arguments h j a in
        let ci : Claim = conclusion_at R al in
        let cj : Claim = conclusion_at R ar in
        let gi : map_claim (act g i) (conclusion_at R a) ≡ ci = conclusion-act R a g i m.left.closed f (sc k R q) in
        let gj : map_claim (act h j) (conclusion_at R a) ≡ cj = conclusion-act R a h j m.closed f (sc k R q) in
        let oi : IsObjectGoal ci = object_goal-map R.conclusion (act free (instance_of R.premises al)) o in
        let oj : IsObjectGoal cj = object_goal-map R.conclusion (act free (instance_of R.premises ar)) o in
        let e0 : EqualStatements T N H (plain ci) (plain cj) = subst₂ (λ x y. EqualStatements T N H (plain x) (plain y)) gi gj (r.0 N H g i h j m) in
        let ec : EqualClaims T N H ci cj = equal_here T N H (plain ci) (plain cj) e0 in
        let bl : Prim T N H (plain ci) = subst (λ z. Prim T N H (plain z)) gi (traverse T sc (sequent M G (plain (conclusion_at R a))) tb N H g i m.left) in
        let br : Prim T N H (plain cj) = transport T sc N zero H (plain ci) (plain cj) refl e0 bl in
        let dl : Trees (Step T) (sequents N H (filled_premises (instance_of R.premises al) R.premises al)) = subst (λ xs. Trees (Step T) (sequents N H xs)) (filled_premises-act R.premises R.premises a a g i m.left.closed f (sc k R q).0 f) (traverse_all T sc M G N H g i m.left (filled_premises (instance_of R.premises a) R.premises a) ts) in
        let dr : Trees (Step T) (sequents N H (filled_premises (instance_of R.premises ar) R.premises ar)) = subst (λ xs. Trees (Step T) (sequents N H xs)) (filled_premises-act R.premises R.premises a a h j m.closed f (sc k R q).0 f) (transport_all T sc M G N H g i h j m (filled_premises (instance_of R.premises a) R.premises a) ts r.1) in
        let L : Prim T N H (plain (fill_goal ci (symbol k al))) = node (sequent N H (plain ci) ∷ sequents N H (filled_premises (instance_of R.premises al) R.premises al)) (symbol_rule k R al q (FitsPremises-act R.premises a g i f) o) (more bl dl) in
        let S : Prim T N H (plain (fill_goal cj (symbol k ar))) = node (sequent N H (plain cj) ∷ sequents N H (filled_premises (instance_of R.premises ar) R.premises ar)) (symbol_rule k R ar q (FitsPremises-act R.premises a h j f) o) (more br dr) in
        let C : Prim T N H (plain (equate_goal ci (symbol k al) (symbol k ar))) =
        node (sequent N H (plain (fill_goal ci (symbol k al))) ∷ sequent N H (plain (fill_goal ci (symbol k ar))) ∷ sequents N H (equated_premises (instance_of R.premises al) R.premises al ar))
        (congruence k R al ar q (FitsPremises-act R.premises a g i f) (FitsPremises-act R.premises a h j f) o)
        (more L (more (back_here T N H ci cj (symbol k ar) oi oj ec S) (equation_trees T sc M G N H g i h j m R.premises R.premises a a f f (sc k R q).0 r.1))) in
        subst₂ (λ x y. EqualStatements T N H (plain x) (plain y)) (sym (rule-act R a g i (symbol k a) m.left.closed f (sc k R q))) (sym (rule-act R a h j (symbol k a) m.closed f (sc k R q)))
        (equal_plain T sc N H (fill_goal ci (symbol k al)) (fill_goal cj (symbol k ar)) (head_here T N H ci cj (symbol k al) (symbol k ar) oi oj ec C))
    step ps c (equation_rule {M} {G} k R a q f o) (more tb ts) r N H g i h j m =
        let ci : Claim = conclusion_at R (act_arguments g i a) in
        let cj : Claim = conclusion_at R (act_arguments h j a) in
        let ec : EqualClaims T N H ci cj = equal_here T N H (plain ci) (plain cj) (subst₂ (λ x y. EqualStatements T N H (plain x) (plain y)) (conclusion-act R a g i m.left.closed f (sc k R q)) (conclusion-act R a h j m.closed f (sc k R q)) (r.0 N H g i h j m)) in
        subst₂ (λ x y. EqualStatements T N H (plain x) (plain y)) (sym (rule-act R a g i (bound zero) m.left.closed f (sc k R q))) (sym (rule-act R a h j (bound zero) m.closed f (sc k R q)))
        (equal_plain T sc N H (fill_goal ci (bound zero)) (fill_goal cj (bound zero)) (equation_here_claim T N H ci cj (bound zero) (bound zero) (equation_goal-map R.conclusion (act free (instance_of R.premises (act_arguments g i a))) o) (equation_goal-map R.conclusion (act free (instance_of R.premises (act_arguments h j a))) o) ec))
    step ps c (congruence {M} {G} k R a b q f f' o) ts r N H g i h j m =
        let al : Arguments = act_arguments g i a in
        let ar : Arguments = act_arguments h j a in
        let sl : Expression = symbol k (act_arguments g i b) in
        let sr : Expression = symbol k (act_arguments h j b) in
        let ci : Claim = conclusion_at R al in
        let cj : Claim = conclusion_at R ar in
        let x : EqualClaims T N H (fill_goal ci (symbol k al)) (fill_goal cj (symbol k ar)) = equal_here T N H (plain (fill_goal ci (symbol k al))) (plain (fill_goal cj (symbol k ar)))
        (subst₂ (λ x y. EqualStatements T N H (plain x) (plain y)) (rule-act R a g i (symbol k a) m.left.closed f (sc k R q)) (rule-act R a h j (symbol k a) m.closed f (sc k R q)) (r.0 N H g i h j m)) in
        let y : EqualClaims T N H (fill_goal ci sl) (fill_goal cj sr) = equal_here T N H (plain (fill_goal ci sl)) (plain (fill_goal cj sr))
        (subst₂ (λ x y. EqualStatements T N H (plain x) (plain y)) (rule-act R a g i (symbol k b) m.left.closed f (sc k R q)) (rule-act R a h j (symbol k b) m.closed f (sc k R q)) (r.1.0 N H g i h j m)) in
        subst₂ (λ x y. EqualStatements T N H (plain x) (plain y)) (sym (rule_pair-act R a g i (symbol k a) (symbol k b) m.left.closed f (sc k R q))) (sym (rule_pair-act R a h j (symbol k a) (symbol k b) m.closed f (sc k R q)))
        (equal_plain T sc N H (equate_goal ci (symbol k al) sl) (equate_goal cj (symbol k ar) sr) (pair_here_core T N H ci cj (symbol k al) (symbol k ar) sl sr (object_goal-map R.conclusion (act free (instance_of R.premises al)) o) (object_goal-map R.conclusion (act free (instance_of R.premises ar)) o) x y))
