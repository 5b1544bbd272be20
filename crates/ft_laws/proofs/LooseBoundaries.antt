-- A metavariable step without its boundary as a premise: a derivable term has a type that is not derivable.
use Rattle.std.proofs.Common.{◌≡◌, ℕ, zero, Some, List, [], ◌∷◌, ◌⊎◌, inl, inr, refl, sym, ap, ◌∙◌, subst}
use Rattle.ft_common.proofs.Options.{none_some}
use Rattle.ft_theory.specs.Expressions.{bound, meta, Terms, no_terms, count}
use Rattle.ft_theory.specs.Statements.{is_type, has_type, equal_types, equal_terms, type_goal, term_goal, type_equation_goal, term_equation_goal, Statement, plain, abstracted, at, fill, equate}
use Rattle.ft_theory.specs.Rules.{look_up}
use Rattle.ft_theory.specs.Steps.{Sequent, sequent, Step, variable, metavariable, metavariable_equation, metavariable_congruence, abstraction, reflexive_type, reflexive_term, symmetric_types, symmetric_terms, transitive_types, transitive_terms, convert_term, convert_equation, for_type, for_term, for_types, for_terms, symbol_rule, equation_rule, congruence, Tree, node, none, Prim}
use Rattle.ft_laws.specs.Counterexamples.{LooseMetavariable, loose, SidesNeedTheBoundary}
use Rattle.ft_laws.proofs.Equal.{at_plain}
use Rattle.ft_laws.proofs.Opens.{by_test}
use Rattle.ft_laws.proofs.Rules.{found, past}

-- a metavariable m0 with the boundary `_ : m1()`, and no m1
abbrev loose_map : List (ℕ × Statement)
loose_map = (0, plain (term_goal (meta 1 no_terms))) ∷ []

only_terms : (m : ℕ) (b : Statement) (a : Terms) → look_up loose_map m ≡ Some b → at b a ≡ plain (term_goal (meta 1 no_terms))
only_terms m b a q = by_test (at b a ≡ plain (term_goal (meta 1 no_terms))) m 0
    (λ e. ap (λ z. at z a) (sym (found m (0, plain (term_goal (meta 1 no_terms))) [] b e q)) ∙ at_plain a (term_goal (meta 1 no_terms)))
    (λ n. none_some (past m (0, plain (term_goal (meta 1 no_terms))) [] b n q))

abbrev IsNoType : Statement → Type 0
IsNoType (plain (is_type A)) = ⊥
IsNoType (plain (has_type t A)) = Unit {0}
IsNoType (plain (equal_types A B)) = Unit {0}
IsNoType (plain (equal_terms s t A)) = Unit {0}
IsNoType (plain type_goal) = Unit {0}
IsNoType (plain (term_goal A)) = Unit {0}
IsNoType (plain (type_equation_goal A B)) = Unit {0}
IsNoType (plain (term_equation_goal s t A)) = Unit {0}
IsNoType (abstracted A x) = Unit {0}

-- over no rules and that map, nothing is derivably a type
no_types : (c : Sequent) → c.metavariables ≡ loose_map → Tree (λ ps c. Step [] ps c ⊎ LooseMetavariable ps c) c → IsNoType c.statement
no_types c e (node ps s ts) = last ps c s e
  where
    at_terms : (M : List (ℕ × Statement)) (m : ℕ) (b : Statement) (a : Terms) → M ≡ loose_map → look_up M m ≡ Some b → plain (term_goal (meta 1 no_terms)) ≡ at b a
    at_terms M m b a e q = sym (only_terms m b a (subst (λ M. look_up M m ≡ Some b) e q))

    last : (ps : List Sequent) (c : Sequent) → Step [] ps c ⊎ LooseMetavariable ps c → c.metavariables ≡ loose_map → IsNoType c.statement
    last ps c (inr (loose {M} {G} m b a q g o d)) e = subst (λ z. IsNoType (fill z (meta m a))) (at_terms M m b a e q) tt
    last ps c (inl (variable v A q)) e = tt
    last ps c (inl (metavariable {M} {G} m b a q g o d)) e = subst (λ z. IsNoType (fill z (meta m a))) (at_terms M m b a e q) tt
    last ps c (inl (metavariable_equation {M} {G} m b a q g o d)) e = subst (λ z. IsNoType (fill z (bound zero))) (at_terms M m b a e q) tt
    last ps c (inl (metavariable_congruence {M} {G} m b a k q g o d d')) e = subst (λ z. IsNoType (equate z (meta m a) (meta m k))) (at_terms M m b a e q) tt
    last ps c (inl (abstraction v A x n u)) e = tt
    last ps c (inl (reflexive_type A)) e = tt
    last ps c (inl (reflexive_term t A)) e = tt
    last ps c (inl (symmetric_types A B)) e = tt
    last ps c (inl (symmetric_terms s t A)) e = tt
    last ps c (inl (transitive_types A B C)) e = tt
    last ps c (inl (transitive_terms s t u A)) e = tt
    last ps c (inl (convert_term t A B)) e = tt
    last ps c (inl (convert_equation s t A B)) e = tt
    last ps c (inl for_type) e = tt
    last ps c (inl (for_term A)) e = tt
    last ps c (inl (for_types A B)) e = tt
    last ps c (inl (for_terms s t A)) e = tt
    last ps c (inl (symbol_rule r R a q f o)) e = none_some q
    last ps c (inl (equation_rule r R a q f o)) e = none_some q
    last ps c (inl (congruence r R a b q f f' o)) e = none_some q

pub sides_need_the_boundary : SidesNeedTheBoundary
unfolding count
sides_need_the_boundary h =
    no_types (sequent loose_map [] (plain (is_type (meta 1 no_terms)))) refl
    (h [] tt loose_map [] (meta 0 no_terms) (meta 1 no_terms) (node [] (inr (loose 0 (plain (term_goal (meta 1 no_terms))) no_terms refl (tt, tt) tt refl)) none))
