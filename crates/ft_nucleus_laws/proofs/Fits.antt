-- A thesis fits exactly where filling the boundary with its head gives it.
use Rattle.std.proofs.Common.{◌≡◌, ℕ, suc, true, false, ◌&&◌, None, refl, sym, ◌∙◌, subst}
use Rattle.std.proofs.lemmas.Bool.{and_from}
use Rattle.ft_common.proofs.Booleans.{true_false}
use Rattle.ft_theory.specs.Expressions.{Expression}
use Rattle.ft_theory.specs.Statements.{Claim, is_type, has_type, equal_types, equal_terms, type_goal, term_goal, type_equation_goal, term_equation_goal, Statement, plain, abstracted, fill_goal, fill, boundary_of}
use Rattle.ft_items.specs.Equal.{equal_expressions, is_thesis_claim, is_thesis, head, fits_goal, fits}
use Rattle.ft_sound.proofs.EqualLemmas.{expression_self, fits_true}
use Rattle.ft_reference.specs.Refusals.{first_refusal, formed, AllSmall}
use Rattle.ft_reference.specs.Compare.{goal_checks, domain_checks, fit_checks}
use Rattle.ft_nucleus_laws.specs.Laws.{FitsIsFilling}
use Rattle.ft_nucleus_laws.proofs.Lists.{passes, passed}
use Rattle.ft_nucleus_laws.proofs.Tests.{fit_asked}

-- what is filled fits
filled_goal : (c : Claim) (h : Expression) → is_thesis_claim c ≡ false → fits_goal (fill_goal c h) c ≡ true
filled_goal type_goal h k = refl
filled_goal (term_goal A) h k = expression_self A
filled_goal (type_equation_goal A B) h k = and_from (equal_expressions A A) (equal_expressions B B) (expression_self A) (expression_self B)
filled_goal (term_equation_goal s t A) h k =
    and_from (equal_expressions A A && equal_expressions s s) (equal_expressions t t) (and_from (equal_expressions A A) (equal_expressions s s) (expression_self A) (expression_self s)) (expression_self t)
filled_goal (is_type A) h k = true_false k
filled_goal (has_type t A) h k = true_false k
filled_goal (equal_types A B) h k = true_false k
filled_goal (equal_terms s t A) h k = true_false k

filled_fits : (b : Statement) (h : Expression) → is_thesis b ≡ false → fits (fill b h) b ≡ true
filled_fits (plain c) h k = filled_goal c h k
filled_fits (abstracted A b) h k = and_from (equal_expressions A A) (fits (fill b h) b) (expression_self A) (filled_fits b h k)

-- comparison forms nothing
no_goal_formed : (n : ℕ) (c d : Claim) → AllSmall (formed (goal_checks n c d))
no_goal_formed n (term_goal A) (term_goal B) = tt
no_goal_formed n (type_equation_goal A B) (type_equation_goal C D) = tt
no_goal_formed n (term_equation_goal s t A) (term_equation_goal u v B) = tt
no_goal_formed n c d = tt

nothing_formed : (n : ℕ) (b c : Statement) → AllSmall (formed (domain_checks n b c))
nothing_formed n (plain c) (plain d) = no_goal_formed n c d
nothing_formed n (plain c) (abstracted B y) = tt
nothing_formed n (abstracted A x) (plain d) = tt
nothing_formed n (abstracted A x) (abstracted B y) = nothing_formed (suc n) x y

pub fits_is_filling : FitsIsFilling
fits_is_filling x b h k = (there, back)
  where
    there : first_refusal (fit_checks x b) ≡ None → fill b (head x) ≡ x
    there n = sym (fits_true x b (sym (fit_asked x b h) ∙ (passed (fit_checks x b) n).0))

    back : fill b (head x) ≡ x → first_refusal (fit_checks x b) ≡ None
    back e = passes (fit_checks x b) (fit_asked x b h ∙ subst (λ z. fits z b ≡ true) e (filled_fits b (head x) k)) (nothing_formed 0 (boundary_of x) b)
