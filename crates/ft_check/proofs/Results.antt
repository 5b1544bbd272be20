-- Whether what is stated is the result of a step.
use Rattle.std.proofs.Common.{◌≡◌, ◌≢◌, ℕ, Bool, inl, inr, length, true, false, ◌&&◌, List, [], ◌∷◌, refl, sym, ap, ◌∙◌, subst}
use Rattle.std.specs.Cmp.{both_ways}
use Rattle.std.proofs.lemmas.List.{length-map}
use Rattle.ft_theory.specs.Expressions.{Expression}
use Rattle.ft_theory.specs.Statements.{plain, type_goal}
use Rattle.ft_items.specs.Sets.{Atom, same_set, has, is_within, Has, Ascending}
use Rattle.ft_items.specs.Equal.{equal_statements}
use Rattle.ft_items.proofs.SetLemmas.{both, both_true, by_bool, same_set_true, same_set_self, has_false, within_true, ascending_equal}
use Rattle.ft_assume.specs.Atoms.{atom_of, atoms_of}
use Rattle.ft_assume.specs.declared.atom.Atom.{Atom as AtomValue}
use Rattle.ft_judge.specs.Meaning.{claim_in, goal_in, under, thesis_in, boundary_in}
use Rattle.ft_judge.specs.declared.judgement.Form.{Form}
use Rattle.ft_judge.specs.declared.judgement.Form.TheVariants as form
use Rattle.ft_judge.specs.declared.judgement.Goal.{Goal}
use Rattle.ft_judge.specs.declared.judgement.Goal.TheVariants as goal
use Rattle.ft_judge.specs.declared.judgement.Thesis.{Thesis as ThesisValue}
use Rattle.ft_judge.specs.declared.judgement.Boundary.{Boundary as BoundaryValue}
use Rattle.ft_check.specs.Entries.{is_nil}

-- sets with the same atoms
has_each : (S R : List Atom) → ((a : Atom) → Has a S → Has a R) → is_within S R ≡ true
has_each [] R h = refl
has_each (a ∷ S) R h = both_true (has a R) (is_within S R) (has_test a R (h a (inl refl))) (has_each S R (λ b k. h b (inr k)))
  where
    has_test : (a : Atom) (R : List Atom) → Has a R → has a R ≡ true
    has_test a R k = by_bool (has a R ≡ true) (has a R) (λ t. t) (λ f. absurd (has_false a R f k))

within_self : (S : List Atom) → is_within S S ≡ true
within_self S = has_each S S (λ a k. k)

lengths_same : (S R : List Atom) → same_set S R ≡ true → length S ≡ length R
lengths_same S R h = ap length (same_set_true S R h)

pub other_length : (xs ys : List AtomValue) (S R : List Atom) → atoms_of xs ≡ S → atoms_of ys ≡ R → length xs ≢ length ys → false ≡ same_set S R
other_length xs ys S R e f n = go (same_set S R) refl
  where
    go : (b : Bool) → same_set S R ≡ b → false ≡ b
    go true h = absurd (n (sym (length-map xs atom_of) ∙ ap length e ∙ lengths_same S R h ∙ ap length (sym f) ∙ length-map ys atom_of))
    go false h = refl

pub same_members : (S R : List Atom) → Ascending S → Ascending R → (is_within S R && is_within R S) ≡ same_set S R
same_members S R a b = both_ways (is_within S R && is_within R S) (same_set S R)
    (λ h. let p = both (is_within S R) (is_within R S) h in
    subst (λ Q. same_set S Q ≡ true) (ascending_equal S R a b (within_true S R p.0) (within_true R S p.1)) (same_set_self S))
    (λ h. let e : S ≡ R = same_set_true S R h in subst (λ Q. (is_within S Q && is_within Q S) ≡ true) e (both_true (is_within S S) (is_within S S) (within_self S) (within_self S)))

-- the boundary of a type
type_goal_under : (ts : List Expression) (As : List ℕ) → is_nil As ≡ equal_statements (plain type_goal) (under ts As (plain type_goal))
type_goal_under ts [] = refl
type_goal_under ts (A ∷ As) = refl

pub type_goal_is : (ts : List Expression) (b : BoundaryValue) → b.goal ≡ goal.Ty → is_nil b.domains ≡ equal_statements (plain type_goal) (boundary_in ts b)
type_goal_is ts b e = type_goal_under ts b.domains ∙ ap (λ g. equal_statements (plain type_goal) (under ts b.domains (plain (goal_in ts g)))) (sym e)

no_type_under : (ts : List Expression) (As : List ℕ) (g : Goal) → (g ≡ goal.Ty → ⊥) → false ≡ equal_statements (plain type_goal) (under ts As (plain (goal_in ts g)))
no_type_under ts (A ∷ As) g h = refl
no_type_under ts [] goal.Ty h = absurd (h refl)
no_type_under ts [] (goal.Tm A) h = refl
no_type_under ts [] (goal.EqTy A B) h = refl
no_type_under ts [] (goal.EqTm s t A) h = refl

pub no_type_goal : (ts : List Expression) (b : BoundaryValue) → (b.goal ≡ goal.Ty → ⊥) → false ≡ equal_statements (plain type_goal) (boundary_in ts b)
no_type_goal ts b h = no_type_under ts b.domains b.goal h

-- a thesis is no boundary
thesis_no_goal : (ts : List Expression) (As : List ℕ) (f : Form) → (false ≡ equal_statements (plain type_goal) (under ts As (plain (claim_in ts f))))
thesis_no_goal ts (A ∷ As) f = refl
thesis_no_goal ts [] (form.Ty A) = refl
thesis_no_goal ts [] (form.Tm t A) = refl
thesis_no_goal ts [] (form.EqTy A B) = refl
thesis_no_goal ts [] (form.EqTm s t A) = refl

pub thesis_no_type_goal : (ts : List Expression) (x : ThesisValue) → false ≡ equal_statements (plain type_goal) (thesis_in ts x)
thesis_no_type_goal ts x = thesis_no_goal ts x.domains x.form
