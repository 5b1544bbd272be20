-- Whether a judgement fits a boundary.
use Rattle.std.proofs.Common.{◌≡◌, ◌∙◌, ℕ, Bool, true, false, Some, None, List, [], ◌∷◌, length, ◌==◌, ap, ap₂, refl, sym}
use Rattle.std.specs.Prelude.{⊤, Result, Ok, Err, is_ok}
use Rattle.ft_common.proofs.Options.{none_some}
use Rattle.ft_theory.specs.Expressions.{Expression}
use Rattle.ft_theory.specs.Statements.{Statement, plain}
use Rattle.ft_items.specs.Equal.{is_thesis, fits as statement_fits}
use Rattle.ft_items.specs.Store.{Assertion}
use Rattle.ft_sound.proofs.EqualLemmas.{fits_true}
use Rattle.ft_reference.specs.Refusals.{first_refusal}
use Rattle.ft_reference.specs.Compare.{fit_checks}
use Rattle.ft_reference.specs.Nucleus.{fits_boundary}
use Rattle.ft_nucleus_laws.proofs.Lists.{passed}
use Rattle.ft_nucleus_laws.proofs.Tests.{fit_asked}
use Rattle.ft_nucleus_laws.proofs.Fits.{fits_is_filling}
use Rattle.ft_judge.specs.Meaning.{thesis_in, boundary_in, under, claim_in, ThesisBelow, BoundaryBelow}
use Rattle.ft_judge.specs.Fits.{IsSameForm, IsFirstDifference, comparisons}
use Rattle.ft_judge.specs.declared.judgement.Thesis.{Thesis}
use Rattle.ft_judge.specs.declared.judgement.Boundary.{Boundary}
use Rattle.ft_judge.specs.declared.fault.Refusal.{Refusal}
use Rattle.ft_judge.specs.declared.fault.Refusal.TheVariants.{WrongForm}
use Rattle.ft_kernel.specs.State.{State, entry_at, statement_at, IsThesisOf, IsBoundaryOf}
use Rattle.ft_telling.specs.Words.{is_term_equation}
use Rattle.ft_calls.proofs.Entries.{stated_is}
use Rattle.ft_apply.specs.Outcomes.{Tests}
use Rattle.ft_apply.proofs.Comparing.{fit_tested}
use Rattle.ft_values.specs.Kept.{stated, stated_at}

-- the outcome of the checks is that of the test
tested_is : (ts : List Expression) (x b : Statement) (r : Result ⊤ Refusal) → is_thesis x ≡ true
    → is_thesis b ≡ false → Tests ts (fit_checks x b) r → is_ok r ≡ statement_fits x b
tested_is ts x b (Ok y) thesis bound t =
    sym (sym (fit_asked x b thesis) ∙ (passed (fit_checks x b) t).0)
tested_is ts x b (Err q) thesis bound t = go (statement_fits x b) refl
  where
    go : (c : Bool) → statement_fits x b ≡ c → false ≡ statement_fits x b
    go false e = sym e
    go true e =
        let none : first_refusal (fit_checks x b) ≡ None =
        (fits_is_filling x b thesis bound).1 (sym (fits_true x b e)) in
        none_some (sym none ∙ t.0)

-- what an entry states
entry_states : (s : State) (n : ℕ) (a : Assertion) (x : Statement) → entry_at s n ≡ Some a
    → statement_at s n ≡ Some x → (stated_at s n).statement ≡ x
entry_states s n a x h k = ap (λ o. (stated o).statement) h ∙ stated_is s n a x h k

pub fits_boundary_is : (s : State) (j b : ℕ) (x : Thesis) (y : Boundary) (r : Result ⊤ Refusal)
    → IsThesisOf s j → IsBoundaryOf s b → statement_at s j ≡ Some (thesis_in s.trees x)
    → statement_at s b ≡ Some (boundary_in s.trees y) → ThesisBelow (length s.trees) x
    → BoundaryBelow (length s.trees) y → ((IsSameForm x y → ⊥) → r ≡ Err WrongForm)
    → (IsSameForm x y → IsFirstDifference s.trees (comparisons x y) r)
    → is_ok r ≡ fits_boundary (stated_at s j) (stated_at s b)
fits_boundary_is s j b x y r thesis bound found wanted below_x below_y wrong first =
    let X = thesis_in s.trees x in
    let Y = boundary_in s.trees y in
    tested_is s.trees X Y r
    (ap is_thesis (sym (stated_is s j thesis.0 X thesis.1 found)) ∙ thesis.2)
    (ap is_thesis (sym (stated_is s b bound.0 Y bound.1 wanted)) ∙ bound.2)
    (fit_tested s.trees x y r below_x below_y wrong first)
    ∙ sym (ap₂ statement_fits (entry_states s j thesis.0 X thesis.1 found)
    (entry_states s b bound.0 Y bound.1 wanted))

-- a thesis with domains is no plain equation
pub no_plain_equation : (s : State) (j : ℕ) (x : Thesis) → IsThesisOf s j → statement_at s j ≡ Some (thesis_in s.trees x)
    → {n : ℕ} → n ≡ length x.domains → (n == 0) ≡ false → is_term_equation (stated_at s j).statement ≡ false
no_plain_equation s j x thesis found {n} is some =
    ap is_term_equation (entry_states s j thesis.0 (thesis_in s.trees x) thesis.1 found) ∙ go x.domains (sym (ap (λ n. n == 0) is) ∙ some)
  where
    go : (ds : List ℕ) → (length ds == 0) ≡ false → is_term_equation (under s.trees ds (plain (claim_in s.trees x.form))) ≡ false
    go [] h = cc
    go (d ∷ ds) h = refl
