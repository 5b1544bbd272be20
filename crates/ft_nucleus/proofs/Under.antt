-- What calls do under domains.
use Rattle.std.proofs.Common.{◌≡◌, ℕ, true, false, cond, Some, None, List, [], ◌∷◌, refl, ap, ap₂, ◌∙◌, sym, subst}
use Rattle.ft_theory.specs.Expressions.{Expression}
use Rattle.ft_theory.specs.Statements.{Claim, Statement, plain, abstracted, equate, boundary_of_claim, boundary_of}
use Rattle.ft_items.specs.Equal.{has_head_claim, has_head, head_of_claim, head}
use Rattle.ft_items.specs.Rows.{when, reflexivity}
use Rattle.ft_reference.specs.Refusals.{WrongForm, first_refusal}
use Rattle.ft_syntax.specs.Table.{tree, AllBelow}
use Rattle.ft_judge.specs.Meaning.{under}
use Rattle.ft_calls.specs.Forming.{Gives}
use Rattle.ft_nucleus.specs.Forms.{equal_to_itself, reflexivity_checks}

-- whether there is a head, and which, is said below the domains
pub has_head-under : (ts : List Expression) (ds : List ℕ) (x : Statement) → has_head (under ts ds x) ≡ has_head x
has_head-under ts [] x = refl
has_head-under ts (d ∷ ds) x = has_head-under ts ds x

pub head-under : (ts : List Expression) (ds : List ℕ) (x : Statement) → head (under ts ds x) ≡ head x
head-under ts [] x = refl
head-under ts (d ∷ ds) x = head-under ts ds x

pub boundary_of-under : (ts : List Expression) (ds : List ℕ) (x : Statement) → boundary_of (under ts ds x) ≡ under ts ds (boundary_of x)
boundary_of-under ts [] x = refl
boundary_of-under ts (d ∷ ds) x = ap (abstracted (tree ts d)) (boundary_of-under ts ds x)

pub equate-under : (ts : List Expression) (ds : List ℕ) (x : Statement) (h k : Expression) → equate (under ts ds x) h k ≡ under ts ds (equate x h k)
equate-under ts [] x h k = refl
equate-under ts (d ∷ ds) x h k = ap (abstracted (tree ts d)) (equate-under ts ds x h k)

-- a type or term equal to itself
pub itself_given : (ts : List Expression) (ds : List ℕ) (c d : Claim) → has_head_claim c ≡ true → d ≡ equal_to_itself c
    → Gives (reflexivity_checks (under ts ds (plain c))) (reflexivity (under ts ds (plain c))) (under ts ds (plain d))
itself_given ts ds c d h e =
    let y : has_head (under ts ds (plain c)) ≡ true = has_head-under ts ds (plain c) ∙ h in (
      ap (λ b. cond b None (Some WrongForm)) y,
      ap (λ b. when b (equate (boundary_of (under ts ds (plain c))) (head (under ts ds (plain c))) (head (under ts ds (plain c))))) y
          ∙ ap₂ (λ x h. Some (equate x h h)) (boundary_of-under ts ds (plain c)) (head-under ts ds (plain c))
          ∙ ap Some (equate-under ts ds (plain (boundary_of_claim c)) (head_of_claim c) (head_of_claim c))
          ∙ ap (λ d. Some (under ts ds (plain d))) (sym e),
    )

pub itself_refused : (ts : List Expression) (ds : List ℕ) (c : Claim) → has_head_claim c ≡ false → first_refusal (reflexivity_checks (under ts ds (plain c))) ≡ Some WrongForm
itself_refused ts ds c h = ap (λ b. cond b None (Some WrongForm)) (has_head-under ts ds (plain c) ∙ h)

-- the same domains are of the same table
pub all_below_same : (n : ℕ) (ds es : List ℕ) → es ≡ ds → AllBelow n ds → AllBelow n es
all_below_same n ds es e h = subst (AllBelow n) (sym e) h
