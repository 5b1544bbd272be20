-- A derivation of a statement under a domain ends with an abstraction.
use Rattle.std.proofs.Common.{◌≡◌, ℕ, zero, suc, None, List, ◌∷◌, refl, sym, ap, ◌∙◌, subst, subst₂, arith}
use Rattle.ft_theory.specs.Expressions.{Expression, bound, free, meta, ClosedAt}
use Rattle.ft_theory.specs.Statements.{is_type, has_type, Statement, plain, abstracted, close_statement, opened, domain, domain_count, at, fill, equate}
use Rattle.ft_theory.specs.Rules.{look_up, Rule}
use Rattle.ft_theory.specs.Steps.{sequent, Sequent, Unmentioned, Step, variable, metavariable, metavariable_equation, metavariable_congruence, abstraction, reflexive_type, reflexive_term, symmetric_types, symmetric_terms, transitive_types, transitive_terms, convert_term, convert_equation, for_type, for_term, for_types, for_terms, symbol_rule, equation_rule, congruence, Tree, Trees, node, none, more, Prim}
use Rattle.ft_laws.proofs.Scope.{scope, Fine, domain_count-at}
use Rattle.ft_laws.proofs.Statements.{opened-closed, AllOfStatement_mono}

pub record Peeled (T : List Rule) (M : List (ℕ × Statement)) (G : List (ℕ × Expression)) (A : Expression) (y : Statement) : Type 0 where
  pub name : ℕ
  pub absent : look_up G name ≡ None
  pub unmentioned : Unmentioned name G
  pub first : Prim T M G (plain (is_type A))
  pub rest : Prim T M ((name, A) ∷ G) (opened (free name) (abstracted A y))

pub domain_count-fill : (x : Statement) (h : Expression) → domain_count (fill x h) ≡ domain_count x
domain_count-fill (plain c) h = refl
domain_count-fill (abstracted A x) h = ap suc (domain_count-fill x h)

pub domain_count-equate : (x : Statement) (h j : Expression) → domain_count (equate x h j) ≡ domain_count x
domain_count-equate (plain c) h j = refl
domain_count-equate (abstracted A x) h j = ap suc (domain_count-equate x h j)

abbrev tail : Statement → Statement
tail (plain c) = plain c
tail (abstracted A x) = x

flat : {P : Type 0} (x : Statement) (A : Expression) (y : Statement) → domain_count x ≡ zero → x ≡ abstracted A y → P
flat x A y d e = absurd (grind (arith, d, ap domain_count e))

pub peel : (T : List Rule) (c : Sequent) (A : Expression) (y : Statement) → Tree (Step T) c → c.statement ≡ abstracted A y → Peeled T c.metavariables c.variables A y
peel T c A y (node ps s ts) e = last_step ps c s ts e
  where
    last_step : (ps : List Sequent) (c : Sequent) → Step T ps c → Trees (Step T) ps → c.statement ≡ abstracted A y → Peeled T c.metavariables c.variables A y
    last_step ps c (variable v B q) ts e = flat (plain (has_type (free v) B)) A y refl e
    last_step ps c (metavariable m b a q g o d) ts e = flat (fill (at b a) (meta m a)) A y (domain_count-fill (at b a) (meta m a) ∙ domain_count-at a b d) e
    last_step ps c (metavariable_equation m b a q g o d) ts e = flat (fill (at b a) (bound zero)) A y (domain_count-fill (at b a) (bound zero) ∙ domain_count-at a b d) e
    last_step ps c (metavariable_congruence m b a k q g o d d') ts e = flat (equate (at b a) (meta m a) (meta m k)) A y (domain_count-equate (at b a) (meta m a) (meta m k) ∙ domain_count-at a b d) e
    last_step ps c (abstraction {M} {G} v B x n u) (more t (more t' none)) e =
        let p : B ≡ A = ap domain e in
        let q : close_statement v x ≡ y = ap tail e in
        let back : opened (free v) (abstracted B (close_statement v x)) ≡ x = opened-closed x B v (AllOfStatement_mono x (Fine M ((v, B) ∷ G)) (λ l. ClosedAt l) zero (λ l e f. f.0) (scope T (sequent M ((v, B) ∷ G) x) t')) in
        record { name = v; absent = n; unmentioned = u; first = subst (λ B. Prim T M G (plain (is_type B))) p t; rest = subst₂ (λ B z. Prim T M ((v, B) ∷ G) (opened (free v) (abstracted B z))) p q (subst (λ z. Prim T M ((v, B) ∷ G) z) (sym back) t') }
    last_step ps c (reflexive_type B) ts e = flat c.statement A y refl e
    last_step ps c (reflexive_term t B) ts e = flat c.statement A y refl e
    last_step ps c (symmetric_types B C) ts e = flat c.statement A y refl e
    last_step ps c (symmetric_terms s t B) ts e = flat c.statement A y refl e
    last_step ps c (transitive_types B C D) ts e = flat c.statement A y refl e
    last_step ps c (transitive_terms s t u B) ts e = flat c.statement A y refl e
    last_step ps c (convert_term t B C) ts e = flat c.statement A y refl e
    last_step ps c (convert_equation s t B C) ts e = flat c.statement A y refl e
    last_step ps c for_type ts e = flat c.statement A y refl e
    last_step ps c (for_term B) ts e = flat c.statement A y refl e
    last_step ps c (for_types B C) ts e = flat c.statement A y refl e
    last_step ps c (for_terms s t B) ts e = flat c.statement A y refl e
    last_step ps c (symbol_rule r R a q f o) ts e = flat c.statement A y refl e
    last_step ps c (equation_rule r R a q f o) ts e = flat c.statement A y refl e
    last_step ps c (congruence r R a b q f f' o) ts e = flat c.statement A y refl e
