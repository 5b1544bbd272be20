-- What is small stays small: no call but abstraction answers an expression that is not small and was not given.
use Rattle.std.specs.Prelude.{ℕ, ◌+◌, ◌*◌, ◌^◌, ◌<◌, Bool, true, false, Ok, List, [], ◌∷◌, ◌++◌, ◌≡◌}
use Rattle.ft_theory.specs.Expressions.{Expression, close_at}
use Rattle.ft_theory.specs.Statements.{domain_count}
use Rattle.ft_theory.specs.Small.{depth, size, IsSmall}
use Rattle.ft_items.specs.Item.{by_var, by_generic, by_meta, by_metacong, by_abs, by_subst, by_substeq, by_refl, by_sym, by_trans, by_conv, by_conveq, by_left, by_right, by_typeof, by_domain, by_boundary, by_widen, by_btype, by_bterm, by_beqty, by_beqtm, by_rule, by_rulewith, by_inst, by_cong, by_convprem, by_convback, by_arg, by_natural, by_metainst}
use Rattle.ft_items.specs.Store.{Assertion, Annotation, Resolved, Declarations}
use Rattle.ft_reference.specs.Refusals.{AllSmall, expressions}
use Rattle.ft_reference.specs.Calls.{answer}

-- the expressions of these assertions
abbrev pub all_expressions : List Assertion → List Expression
all_expressions [] = []
all_expressions (p ∷ ps) = expressions p.statement ++ all_expressions ps

-- the expressions of the statements that a call has, and of its variable's type or its metavariable's boundary
abbrev pub given_expressions : Resolved → List Expression
given_expressions (by_var v) = v.1.annotation ∷ []
given_expressions (by_generic m) = expressions m.1.boundary
given_expressions (by_meta m ps) = expressions m.1.boundary ++ all_expressions ps
given_expressions (by_metacong m es) = expressions m.1.boundary ++ all_expressions es
given_expressions (by_abs v p) = v.1.annotation ∷ expressions p.statement
given_expressions (by_subst p t) = all_expressions (p ∷ t ∷ [])
given_expressions (by_substeq p e) = all_expressions (p ∷ e ∷ [])
given_expressions (by_refl p) = expressions p.statement
given_expressions (by_sym p) = expressions p.statement
given_expressions (by_trans p q) = all_expressions (p ∷ q ∷ [])
given_expressions (by_conv p e) = all_expressions (p ∷ e ∷ [])
given_expressions (by_conveq p e) = all_expressions (p ∷ e ∷ [])
given_expressions (by_left p) = expressions p.statement
given_expressions (by_right p) = expressions p.statement
given_expressions (by_typeof p) = expressions p.statement
given_expressions (by_domain p) = expressions p.statement
given_expressions (by_boundary p) = expressions p.statement
given_expressions (by_widen p q) = all_expressions (p ∷ q ∷ [])
given_expressions by_btype = []
given_expressions (by_bterm p) = expressions p.statement
given_expressions (by_beqty p q) = all_expressions (p ∷ q ∷ [])
given_expressions (by_beqtm p s t) = all_expressions (p ∷ s ∷ t ∷ [])
given_expressions (by_rule r ps) = all_expressions ps
given_expressions (by_rulewith r b ps) = all_expressions (b ∷ ps)
given_expressions (by_inst r ps) = all_expressions ps
given_expressions (by_cong r ps es) = all_expressions (ps ++ es)
given_expressions (by_convprem r ps es q) = all_expressions (q ∷ (ps ++ es))
given_expressions (by_convback r ps es q) = all_expressions (q ∷ (ps ++ es))
given_expressions (by_arg i p) = expressions p.statement
given_expressions (by_natural p) = expressions p.statement
given_expressions (by_metainst p ms qs) = all_expressions (p ∷ qs)

-- the test for a call that binds a variable
abbrev pub is_abstraction : Resolved → Bool
is_abstraction (by_abs v p) = true
is_abstraction s = false

-- Where all that a call has is small, all that it answers is; abstraction is left out, since a bound number counts the domains
-- around it, of which there may be any number. The laws below say how many there may be.
abbrev pub AnswersSmall : Type 0
AnswersSmall = (W : Declarations) (s : Resolved) (a : Assertion) → is_abstraction s ≡ false → AllSmall (given_expressions s) → answer W s ≡ Ok a → AllSmall (expressions a.statement)

-- Closing an expression over a variable changes neither its depth nor its size.
abbrev pub ClosingKeepsSize : Type 0
ClosingKeepsSize = (e : Expression) (k v : ℕ) → (depth (close_at k v e) ≡ depth e) × (size (close_at k v e) ≡ size e)

-- It keeps the expression small under so many domains that the new bound number, past them and all binders of a small
-- expression, is below its end.
abbrev pub ClosingKeepsSmall : Type 0
ClosingKeepsSmall = (e : Expression) (k v : ℕ) → k + 1000 * 2 ^ 32 < 2 ^ 64 → IsSmall e → IsSmall (close_at k v e)

-- So abstraction answers small expressions where it has small ones, for each statement with at most so many domains.
abbrev pub AbstractionsSmall : Type 0
AbstractionsSmall = (W : Declarations) (v : ℕ × Annotation) (p a : Assertion) → domain_count p.statement + 1000 * 2 ^ 32 < 2 ^ 64
    → AllSmall (given_expressions (by_abs v p)) → answer W (by_abs v p) ≡ Ok a → AllSmall (expressions a.statement)
