-- Sequents that are not derivable: by inversion of a derivation of a term or a type, and by what a derivation may mention.
use Rattle.std.proofs.lemmas.Option.{same_Some}
use Rattle.ft_common.proofs.Options.{none_some}
use Rattle.ft_laws.proofs.ProductsFinitary.{naturals_are_finitary}
use Rattle.std.proofs.Common.{◌≡◌, ℕ, None, List, sym, ap, ◌∙◌, subst, arith}
use Rattle.ft_theory.specs.Expressions.{Expression, bound, free, symbol, meta, Arguments, no_arguments, no_terms}
use Rattle.ft_theory.specs.Statements.{Claim, is_type, has_type, equal_types, type_goal, term_goal, Statement, plain, at, abstracted, equal_terms, term_equation_goal, type_equation_goal}
use Rattle.ft_theory.specs.Rules.{Rule, rule_at, conclusion_at}
use Rattle.ft_theory.specs.Steps.{sequent, Prim}
use Rattle.ft_laws.specs.Examples.{nought, rule_nought, naturals, NothingFromIllFormedBoundary, NothingFromIllFormedEquation, NothingFromIllFormedAnnotation, NoAbsentVariable, NoLooseVariable, NoughtIsNoType, NoughtIsNotInNought}
use Rattle.ft_laws.proofs.Scope.{scope}
use Rattle.ft_laws.proofs.Commute.{ScopedTheory}
use Rattle.ft_laws.proofs.Sides.{parts, boundary}
use Rattle.ft_laws.proofs.Equal.{types_of}
use Rattle.ft_laws.proofs.Inversion.{OfType, OfTerm, origin}
use Rattle.ft_laws.proofs.Finitary.{scoped}
use Rattle.ft_laws.proofs.Admissible.{finitary_sound}

-- a symbol of no rule is no type
pub no_rule : (T : List Rule) → ScopedTheory T → (M : List (ℕ × Statement)) (G : List (ℕ × Expression)) (s : ℕ) (a : Arguments) → rule_at T s ≡ None → Prim T M G (plain (is_type (symbol s a))) → ⊥
no_rule T sc M G s a n p =
    let h : OfType T M G (symbol s a) = origin T sc (sequent M G (plain (is_type (symbol s a)))) p in
    none_some (sym n ∙ h.1)

pub nothing_from_boundary : NothingFromIllFormedBoundary
nothing_from_boundary T f M G m s a A n q p =
    let sc : ScopedTheory T = scoped T (finitary_sound 7 T f) in
    let h : OfTerm T M G (meta m no_terms) A = origin T sc (sequent M G (plain (has_type (meta m no_terms) A))) p in
    let e : h.3 ≡ symbol s a = goal_type h.3 (symbol s a) (sym h.4 ∙ ap (λ b. at b no_terms) (same_Some h.0 (plain (term_goal (symbol s a))) (sym h.1 ∙ q))) in
    no_rule T sc M G s a n (subst (λ z. Prim T M G (plain (is_type z))) e (types_of T sc M G h.3 A h.5).0)
  where
    the_type : Claim → Expression
    the_type (term_goal A) = A
    the_type type_goal = bound 0
    the_type (is_type A) = A
    the_type (has_type t A) = A
    the_type (equal_types A B) = A
    the_type (equal_terms s t A) = A
    the_type (type_equation_goal A B) = A
    the_type (term_equation_goal s t A) = A

    below : Statement → Expression
    below (plain c) = the_type c
    below (abstracted A x) = A

    goal_type : (A B : Expression) → plain (term_goal A) ≡ plain (term_goal B) → A ≡ B
    goal_type A B e = ap below e

pub nothing_from_equation : NothingFromIllFormedEquation
nothing_from_equation T f M G s a B n p =
    let sc : ScopedTheory T = scoped T (finitary_sound 7 T f) in
    no_rule T sc M G s a n (types_of T sc M G (symbol s a) B p).0

pub nothing_from_annotation : NothingFromIllFormedAnnotation
nothing_from_annotation T f M G v s a A n q p =
    let sc : ScopedTheory T = scoped T (finitary_sound 7 T f) in
    let h : OfTerm T M G (free v) A = origin T sc (sequent M G (plain (has_type (free v) A))) p in
    no_rule T sc M G s a n (subst (λ z. Prim T M G (plain (is_type z))) (same_Some h.0 (symbol s a) (sym h.1 ∙ q)) (types_of T sc M G h.0 A h.2).0)

pub no_absent_variable : NoAbsentVariable
no_absent_variable T M G v A n p = none_some (sym n ∙ (scope T (sequent M G (plain (has_type (free v) A))) p).0.1.1)

pub no_loose_variable : NoLooseVariable
no_loose_variable T M G i A p = no_less i (scope T (sequent M G (plain (has_type (bound i) A))) p).0.0
  where
    no_less : (i : ℕ) → Rattle.std.specs.Prelude.◌<◌ i 0 → ⊥
    no_less i l = omega arith

-- the natural numbers are scoped, since no boundary of theirs mentions anything
naturals_scoped : ScopedTheory naturals
naturals_scoped = scoped naturals (finitary_sound 7 naturals naturals_are_finitary)

pub nought_is_no_type : NoughtIsNoType
nought_is_no_type M G p =
    let h : OfType naturals M G nought = origin naturals naturals_scoped (sequent M G (plain (is_type nought))) p in
    clash (ap (λ R. conclusion_at R no_arguments) (same_Some rule_nought h.0 h.1) ∙ h.3)
  where
    is_term : Claim → Type 0
    is_term (term_goal A) = Unit {0}
    is_term type_goal = ⊥
    is_term (is_type A) = ⊥
    is_term (has_type t A) = ⊥
    is_term (equal_types A B) = ⊥
    is_term (equal_terms s t A) = ⊥
    is_term (type_equation_goal A B) = ⊥
    is_term (term_equation_goal s t A) = ⊥

    clash : conclusion_at rule_nought no_arguments ≡ type_goal → ⊥
    clash e = subst is_term e tt

pub nought_is_not_in_nought : NoughtIsNotInNought
nought_is_not_in_nought M G p =
    nought_is_no_type M G (parts naturals (sequent M G (plain (term_goal nought))) (boundary naturals naturals_scoped (sequent M G (plain (has_type nought nought))) p))
