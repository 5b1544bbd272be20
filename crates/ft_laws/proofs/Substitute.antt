-- Weakening, substitution of one term, and of all terms of a metavariable.
use Rattle.std.proofs.Common.{◌≡◌, ℕ, zero, suc, Some, List, [], ◌∷◌, refl, sym, ap, ◌∙◌, subst, arith}
use Rattle.ft_common.proofs.Choices.{if_same}
use Rattle.ft_theory.specs.Expressions.{Expression, bound, free, meta, Terms, no_terms, also, count, body_or, act, ClosedAt, Without}
use Rattle.ft_theory.specs.Statements.{is_type, has_type, Statement, plain, abstracted, AllOfStatement, act_statement, opened, domain_count, at, fill, equate}
use Rattle.ft_theory.specs.Rules.{look_up, Rule, term_typings, term_equations}
use Rattle.ft_theory.specs.Steps.{sequent, sequents, Step, metavariable, metavariable_equation, metavariable_congruence, Trees, node, none, more, Prim}
use Rattle.ft_laws.specs.Instances.{statement_at}
use Rattle.ft_laws.proofs.Acts.{no_bodies, act_nothing}
use Rattle.ft_laws.proofs.Steps.{do_variable}
use Rattle.ft_laws.proofs.Scope.{scope, Fine, FineStatement}
use Rattle.ft_laws.proofs.Peel.{peel, Peeled}
use Rattle.ft_laws.proofs.Statements.{act-opened, act_statement_nothing, act_nothing_statement, AllOfStatement_mono, domain_count-opened}
use Rattle.ft_laws.proofs.Commute.{ScopedTheory}
use Rattle.ft_laws.proofs.Traverse.{Grows, Grows_refl, Maps, send, send_without_statement, absent_without, Maps_under, traverse}

abbrev pub Extends : List (ℕ × Statement) → List (ℕ × Statement) → Type 0
Extends M N = (m : ℕ) (b : Statement) → look_up M m ≡ Some b → look_up N m ≡ Some b

-- a substitution for free variables, where the metavariables stay
pub substitution_maps : (T : List Rule) (M N : List (ℕ × Statement)) (G H : List (ℕ × Expression)) (g : ℕ → Expression) → Extends M N → ((v : ℕ) → ClosedAt zero (g v))
    → ((v : ℕ) (A : Expression) → look_up G v ≡ Some A → (K : List (ℕ × Expression)) → Grows H K → Prim T N K (plain (is_type (act g no_bodies A))) → Prim T N K (plain (has_type (g v) (act g no_bodies A))))
    → Maps T M G N H g no_bodies
unfolding body_or
substitution_maps T M N G H g e c s = record {
  closed = record { frees = c; bodies = λ m k. tt };
  frees = s;
  objects = λ m b q gl o K s' a d p ts.
      let E : statement_at no_bodies b ≡ b = act_statement_nothing b in
      subst (λ z. Prim T N K (fill (at z a) (meta m a))) (sym E)
      (node (sequent N K b ∷ sequents N K (term_typings b a)) (metavariable m b a (e m b q) gl o d) (more (subst (λ z. Prim T N K z) E p) (subst (λ z. Trees (Step T) (sequents N K (term_typings z a))) E ts)));
  equations = λ m b q gl o K s' a d p ts.
      let E : statement_at no_bodies b ≡ b = act_statement_nothing b in
      subst (λ z. Prim T N K (fill (at z a) (bound zero))) (sym E)
      (node (sequent N K b ∷ sequents N K (term_typings b a)) (metavariable_equation m b a (e m b q) gl o d) (more (subst (λ z. Prim T N K z) E p) (subst (λ z. Trees (Step T) (sequents N K (term_typings z a))) E ts)));
  congruences = λ m b q gl o K s' a c d d' p p' ts.
      let E : statement_at no_bodies b ≡ b = act_statement_nothing b in
      subst (λ z. Prim T N K (equate (at z a) (meta m a) (meta m c))) (sym E)
      (node (sequent N K (fill (at b a) (meta m a)) ∷ sequent N K (fill (at b a) (meta m c)) ∷ sequents N K (term_equations b a c)) (metavariable_congruence m b a c (e m b q) gl o d d')
      (more (subst (λ z. Prim T N K (fill (at z a) (meta m a))) E p) (more (subst (λ z. Prim T N K (fill (at z a) (meta m c))) E p') (subst (λ z. Trees (Step T) (sequents N K (term_equations z a c))) E ts))));
}

-- nothing is put for anything
pub identity : (T : List Rule) (M N : List (ℕ × Statement)) (G H : List (ℕ × Expression)) → Extends M N → Grows G H → Maps T M G N H free no_bodies
identity T M N G H e s = substitution_maps T M N G H free e (λ v. tt) (λ v A q K s' p. do_variable v (subst (λ B. look_up K v ≡ Some B) (sym (act_nothing A)) (s' v A (s v A q))) p)

pub weaken : (T : List Rule) → ScopedTheory T → (M N : List (ℕ × Statement)) (G H : List (ℕ × Expression)) (x : Statement) → Extends M N → Grows G H → Prim T M G x → Prim T N H x
weaken T sc M N G H x e s p = subst (λ z. Prim T N H z) (act_statement_nothing x) (traverse T sc (sequent M G x) p N H free no_bodies (identity T M N G H e s))

pub weaken_all : (T : List Rule) → ScopedTheory T → (M : List (ℕ × Statement)) (G H : List (ℕ × Expression)) (xs : List Statement) → Grows G H → Trees (Step T) (sequents M G xs) → Trees (Step T) (sequents M H xs)
weaken_all T sc M G H [] s none = none
weaken_all T sc M G H (x ∷ xs) s (more t ts) = more (weaken T sc M M G H x (λ m b q. q) s t) (weaken_all T sc M G H xs s ts)

pub closed_term : (T : List Rule) (M : List (ℕ × Statement)) (G : List (ℕ × Expression)) (t A : Expression) → Prim T M G (plain (has_type t A)) → ClosedAt zero t
closed_term T M G t A p = (scope T (sequent M G (plain (has_type t A))) p).0.0

pub substitute : (T : List Rule) → ScopedTheory T → (M : List (ℕ × Statement)) (G : List (ℕ × Expression)) (A t : Expression) (y : Statement) → Prim T M G (abstracted A y) → Prim T M G (plain (has_type t A)) → Prim T M G (opened t (abstracted A y))
unfolding act
substitute T sc M G A t y p q =
    let f : FineStatement M G (abstracted A y) = scope T (sequent M G (abstracted A y)) p in
    let u : Peeled T M G A y = peel T (sequent M G (abstracted A y)) A y p refl in
    let v : ℕ = u.name in
    let ct : ClosedAt zero t = closed_term T M G t A q in
    let s : ℕ → Expression = send free v t in
    let sv : s v ≡ t = if_same v v t (free v) refl in
    let id : Maps T M G M G free no_bodies = identity T M M G G (λ m b q. q) (Grows_refl G) in
    let AA : act free no_bodies A ≡ A = act_nothing A in
    let m : Maps T M ((v, A) ∷ G) M G s no_bodies =
    Maps_under T M G M G G free no_bodies v A t id u.absent u.unmentioned f.0 (Grows_refl G) ct
    (λ L g r. subst (λ D. Prim T M L (plain (has_type t D))) (sym AA) (weaken T sc M M G L (plain (has_type t A)) (λ m b q. q) g q)) in
    let wy : AllOfStatement (λ l. Without v) (suc zero) y = AllOfStatement_mono y (Fine M G) (λ l. Without v) (suc zero) (λ l e h. absent_without M G v l e u.absent h) f.1 in
    let path : act_statement s no_bodies (opened (free v) (abstracted A y)) ≡ opened t (abstracted A y) =
    act-opened (abstracted A y) s no_bodies (free v) m.closed tt (subst (ClosedAt zero) (sym sv) ct)
    ∙ ap (λ t. opened t (act_statement s no_bodies (abstracted A y))) sv
    ∙ ap (λ z. opened t (abstracted A z)) (send_without_statement y free no_bodies v t (suc zero) wy ∙ act_nothing_statement y (suc zero)) in
    subst (λ z. Prim T M G z) path (traverse T sc (sequent M ((v, A) ∷ G) (opened (free v) (abstracted A y))) u.rest M G s no_bodies m)

-- all terms of a metavariable at once
pub substitute_all : (T : List Rule) → ScopedTheory T → (M : List (ℕ × Statement)) (G : List (ℕ × Expression)) (a : Terms) (x : Statement) → count a ≡ domain_count x → Prim T M G x → Trees (Step T) (sequents M G (term_typings x a)) → Prim T M G (at x a)
unfolding count
substitute_all T sc M G no_terms x d p ts = p
substitute_all T sc M G (also t a) (plain c) d p ts = absurd (grind (arith, d))
substitute_all T sc M G (also t a) (abstracted A y) d p (more q ts) =
    substitute_all T sc M G a (opened t (abstracted A y)) (sym (domain_count-opened (abstracted A y) t (count a) (sym d))) (substitute T sc M G A t y p q) ts
