-- A number above all free variables of an expression, a statement or a map is new to it.
use Rattle.std.proofs.Common.{◌≡◌, ◌≢◌, ℕ, zero, suc, ◌≤◌, max, Some, None, List, [], ◌∷◌, refl, sym, ◌∙◌, subst, arith}
use Rattle.std.proofs.lemmas.Option.{same_Some}
use Rattle.ft_common.proofs.Choices.{if_same, if_other}
use Rattle.ft_theory.specs.Expressions.{Expression, bound, free, symbol, meta, Arguments, no_arguments, with_body, dummy, Terms, no_terms, also, Without, ArgumentsMentionOnly, TermsMentionOnly}
use Rattle.ft_theory.specs.Statements.{Claim, is_type, has_type, equal_types, equal_terms, type_goal, term_goal, type_equation_goal, term_equation_goal, Statement, plain, abstracted, AllOfClaim, AllOfStatement}
use Rattle.ft_theory.specs.Rules.{look_up}
use Rattle.ft_theory.specs.Steps.{Unmentioned}
use Rattle.ft_laws.proofs.Opens.{by_test}

abbrev mutual
  limit : Expression → ℕ
  limit (bound i) = zero
  limit (free v) = suc v
  limit (symbol f a) = limit_of_arguments a
  limit (meta m a) = limit_of_terms a

  limit_of_arguments : Arguments → ℕ
  limit_of_arguments no_arguments = zero
  limit_of_arguments (with_body n e a) = max (limit e) (limit_of_arguments a)
  limit_of_arguments (dummy n a) = limit_of_arguments a

  limit_of_terms : Terms → ℕ
  limit_of_terms no_terms = zero
  limit_of_terms (also t a) = max (limit t) (limit_of_terms a)

mutual
  above : (e : Expression) (v : ℕ) → limit e ≤ v → Without v e
  above (bound i) v h = tt
  above (free u) v h = λ e. grind (arith, e, h)
  above (symbol f a) v h = above_arguments a v h
  above (meta m a) v h = (tt, above_terms a v h)

  above_arguments : (a : Arguments) (v : ℕ) → limit_of_arguments a ≤ v → ArgumentsMentionOnly (λ u. u ≢ v) (λ m k. Unit {0}) a
  above_arguments no_arguments v h = tt
  above_arguments (with_body n e a) v h = (above e v (omega arith), above_arguments a v (omega arith))
  above_arguments (dummy n a) v h = above_arguments a v h

  above_terms : (a : Terms) (v : ℕ) → limit_of_terms a ≤ v → TermsMentionOnly (λ u. u ≢ v) (λ m k. Unit {0}) a
  above_terms no_terms v h = tt
  above_terms (also t a) v h = (above t v (omega arith), above_terms a v (omega arith))

abbrev limit_of_claim : Claim → ℕ
limit_of_claim (is_type A) = limit A
limit_of_claim (has_type t A) = max (limit t) (limit A)
limit_of_claim (equal_types A B) = max (limit A) (limit B)
limit_of_claim (equal_terms s t A) = max (limit s) (max (limit t) (limit A))
limit_of_claim type_goal = zero
limit_of_claim (term_goal A) = limit A
limit_of_claim (type_equation_goal A B) = max (limit A) (limit B)
limit_of_claim (term_equation_goal s t A) = max (limit s) (max (limit t) (limit A))

abbrev pub limit_of_statement : Statement → ℕ
limit_of_statement (plain c) = limit_of_claim c
limit_of_statement (abstracted A x) = max (limit A) (limit_of_statement x)

above_claim : (c : Claim) (v : ℕ) → limit_of_claim c ≤ v → AllOfClaim (Without v) c
above_claim (is_type A) v h = above A v h
above_claim (has_type t A) v h = (above t v (omega arith), above A v (omega arith))
above_claim (equal_types A B) v h = (above A v (omega arith), above B v (omega arith))
above_claim (equal_terms s t A) v h = (above s v (omega arith), above t v (omega arith), above A v (omega arith))
above_claim type_goal v h = tt
above_claim (term_goal A) v h = above A v h
above_claim (type_equation_goal A B) v h = (above A v (omega arith), above B v (omega arith))
above_claim (term_equation_goal s t A) v h = (above s v (omega arith), above t v (omega arith), above A v (omega arith))

pub above_statement : (x : Statement) (k v : ℕ) → limit_of_statement x ≤ v → AllOfStatement (λ l. Without v) k x
above_statement (plain c) k v h = above_claim c v h
above_statement (abstracted A x) k v h = (above A v (omega arith), above_statement x (suc k) v (omega arith))

abbrev pub limit_of_variables : List (ℕ × Expression) → ℕ
limit_of_variables [] = zero
limit_of_variables (p ∷ G) = max (suc p.0) (max (limit p.1) (limit_of_variables G))

pub fresh_absent : (G : List (ℕ × Expression)) (v : ℕ) → limit_of_variables G ≤ v → look_up G v ≡ None
fresh_absent [] v h = refl
fresh_absent (p ∷ G) v h = if_other v p.0 (Some p.1) (look_up G v) (λ e. grind (arith, e, h)) ∙ fresh_absent G v (omega arith)

pub fresh_unmentioned : (G : List (ℕ × Expression)) (v : ℕ) → limit_of_variables G ≤ v → Unmentioned v G
fresh_unmentioned [] v h u B e = absurd (apart e)
  where
    apart : None ≡ Some B → ⊥
    apart e = cc
fresh_unmentioned (p ∷ G) v h u B e = by_test (Without v B) u p.0
    (λ q. subst (Without v) (same_Some p.1 B (sym (if_same u p.0 (Some p.1) (look_up G u) q) ∙ e)) (above p.1 v (omega arith)))
    (λ q. fresh_unmentioned G v (omega arith) u B (sym (if_other u p.0 (Some p.1) (look_up G u) q) ∙ e))
