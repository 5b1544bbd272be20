-- The rows of the steps that name a rule, over any maps.
use Rattle.std.proofs.Common.{◌≡◌, ℕ, zero, true, nat_lt, ◌&&◌, Some, List, [], ◌∷◌, ◌++◌, length, ◌⊎◌, inl, inr, refl, sym, ap, ◌∙◌, subst, append-nil}
use Rattle.std.proofs.lemmas.List.{take-append-drop}
use Rattle.std.proofs.lemmas.Bool.{and_parts}
use Rattle.ft_theory.specs.Expressions.{Expression, bound, free, symbol, Arguments, act}
use Rattle.ft_theory.specs.Statements.{Statement, plain, act_statement, fill_goal, fill, equate_goal, IsObjectGoal, IsEquationGoal}
use Rattle.ft_theory.specs.Rules.{Rule, rule_at, instance_of, BoundaryAfter, next_premise, its_conclusion, FitsPremises, filled_premises, equated_premises, conclusion_at}
use Rattle.ft_theory.specs.Steps.{sequent, sequents, Step, Tree, Trees, node, none, more, Prim}
use Rattle.ft_theory.specs.WideSteps.{WideStep, boundary_at_arguments, object_instance, equation_instance, equal_instances, convert_premise, convert_back}
use Rattle.ft_laws.proofs.Statements.{fill_goal_any, equation_goal-map}
use Rattle.ft_laws.proofs.Finitary.{Sound}
use Rattle.ft_laws.proofs.Admissible.{admissible}
use Rattle.ft_items.specs.Equal.{equal_statements, is_object_goal, fits, head, heads, start_all, right_heads}
use Rattle.ft_items.specs.Rows as row
use Rattle.ft_sound.proofs.EqualLemmas.{object_claim_true, fits_true}
use Rattle.ft_sound.proofs.Arguments.{arguments_true, equations_true}
use Rattle.ft_sound.proofs.Structural.{from_when}

pub join : (S : List Rattle.ft_theory.specs.Steps.Sequent → Rattle.ft_theory.specs.Steps.Sequent → Type 0) (M : List (ℕ × Statement)) (G : List (ℕ × Expression)) (xs ys : List Statement) → Trees S (sequents M G xs) → Trees S (sequents M G ys) → Trees S (sequents M G (xs ++ ys))
join S M G [] ys none u = u
join S M G (x ∷ xs) ys (more t ts) u = more t (join S M G xs ys ts u)

-- the boundary after as many premises as there are theses is one of the rule, at arguments
pub boundary_after_is : (R : Rule) (xs : List Statement) → (b : Statement) × BoundaryAfter R (row.first_premises R xs) b × ((a : Arguments) → row.boundary_after R xs a ≡ row.at_arguments (row.first_premises R xs) a b)
boundary_after_is R xs = go (row.first_premises R xs) (row.later_premises R xs) (take-append-drop (length xs) R.premises)
  where
    go : (ps later : List (ℕ × Statement)) → ps ++ later ≡ R.premises → (b : Statement) × BoundaryAfter R ps b × ((a : Arguments) → row.next_boundary R ps a later ≡ row.at_arguments ps a b)
    go ps [] w =
        let e : R.premises ≡ ps = sym w ∙ append-nil ps in
        (plain R.conclusion, its_conclusion ps e, λ a. ap (λ z. row.at_arguments z a (plain R.conclusion)) e)
    go ps (n ∷ later) w = (n.1, next_premise ps later n.0 n.1 (sym w), λ a. refl)

module _ (T : List Rule) (so : Sound T) (M : List (ℕ × Statement)) (G : List (ℕ × Expression)) (r : ℕ) (R : Rule) (q : rule_at T r ≡ Some R) where
  -- the theses as trees for what the arguments must be
  trees_for : (ps : List (ℕ × Statement)) (xs : List Statement) → row.are_arguments ps xs ≡ true → Trees (Step T) (sequents M G xs) → Trees (Step T) (sequents M G (filled_premises (instance_of ps (heads xs)) ps (heads xs)))
  trees_for ps xs h ts = subst (λ z. Trees (Step T) (sequents M G z)) (sym (arguments_true (instance_of ps (heads xs)) ps xs h).1) ts

  fits_for : (ps : List (ℕ × Statement)) (xs : List Statement) → row.are_arguments ps xs ≡ true → FitsPremises ps (heads xs)
  fits_for ps xs h = (arguments_true (instance_of ps (heads xs)) ps xs h).0

  equation_trees_for : (ps : List (ℕ × Statement)) (xs es : List Statement) → row.are_arguments ps xs ≡ true → start_all xs es ≡ true → Trees (Step T) (sequents M G xs) → Trees (Step T) (sequents M G es)
      → Trees (Step T) (sequents M G (filled_premises (instance_of ps (heads xs)) ps (heads xs) ++ equated_premises (instance_of ps (heads xs)) ps (heads xs) (right_heads xs es)))
  equation_trees_for ps xs es h k ts us =
      join (Step T) M G (filled_premises (instance_of ps (heads xs)) ps (heads xs)) (equated_premises (instance_of ps (heads xs)) ps (heads xs) (right_heads xs es)) (trees_for ps xs h ts)
      (subst (λ z. Trees (Step T) (sequents M G z)) (sym (equations_true (instance_of ps (heads xs)) ps xs es h k).1) us)

  pub at_arguments : (xs : List Statement) → row.are_arguments R.premises xs ≡ true → Trees (Step T) (sequents M G xs) → Prim T M G (plain (fill_goal (conclusion_at R (heads xs)) (symbol r (heads xs))))
  at_arguments xs h ts = go (so r R q).1
    where
      go : IsObjectGoal R.conclusion ⊎ IsEquationGoal R.conclusion → Prim T M G (plain (fill_goal (conclusion_at R (heads xs)) (symbol r (heads xs))))
      go (inl o) = admissible T so 5 (sequents M G (filled_premises (instance_of R.premises (heads xs)) R.premises (heads xs))) (sequent M G (plain (fill_goal (conclusion_at R (heads xs)) (symbol r (heads xs)))))
          (object_instance r R (heads xs) q (fits_for R.premises xs h) o) (trees_for R.premises xs h ts)
      go (inr o) = subst (λ c. Prim T M G (plain c)) (fill_goal_any (conclusion_at R (heads xs)) (bound zero) (symbol r (heads xs)) (equation_goal-map R.conclusion (act free (instance_of R.premises (heads xs))) o))
          (admissible T so 5 (sequents M G (filled_premises (instance_of R.premises (heads xs)) R.premises (heads xs))) (sequent M G (plain (fill_goal (conclusion_at R (heads xs)) (bound zero))))
          (equation_instance r R (heads xs) q (fits_for R.premises xs h) o) (trees_for R.premises xs h ts))

  pub do_rule : (xs : List Statement) (y : Statement) → row.rule_instance r R xs ≡ Some y → Trees (Step T) (sequents M G xs) → Prim T M G y
  do_rule xs y e ts = from_when (Prim T M G) (row.are_arguments R.premises xs) (plain (fill_goal (conclusion_at R (heads xs)) (symbol r (heads xs)))) y e (λ h. at_arguments xs h ts)

  pub do_rule_with : (b : Statement) (xs : List Statement) (y : Statement) → row.rule_instance_with r R b xs ≡ Some y → Trees (Step T) (sequents M G xs) → Prim T M G y
  do_rule_with b xs y e ts = from_when (Prim T M G) (row.are_arguments R.premises xs && equal_statements b (plain (conclusion_at R (heads xs)))) (plain (fill_goal (conclusion_at R (heads xs)) (symbol r (heads xs)))) y e
      (λ h. at_arguments xs (and_parts (row.are_arguments R.premises xs) (equal_statements b (plain (conclusion_at R (heads xs)))) h).0 ts)

  pub do_boundary_instance : (xs : List Statement) (y : Statement) → row.boundary_instance R xs ≡ Some y → Trees (Step T) (sequents M G xs) → Prim T M G y
  do_boundary_instance xs y e ts =
      let ps : List (ℕ × Statement) = row.first_premises R xs in
      let k : (b : Statement) × BoundaryAfter R ps b × ((a : Arguments) → row.boundary_after R xs a ≡ row.at_arguments ps a b) = boundary_after_is R xs in
      from_when (Prim T M G) (row.are_arguments ps xs) (row.boundary_after R xs (heads xs)) y e
      (λ h. subst (Prim T M G) (sym (k.2 (heads xs)))
      (admissible T so 5 (sequents M G (filled_premises (instance_of ps (heads xs)) ps (heads xs))) (sequent M G (act_statement free (instance_of ps (heads xs)) k.0))
      (boundary_at_arguments r R ps k.0 (heads xs) q k.1 (fits_for ps xs h)) (trees_for ps xs h ts)))

  pub do_congruence : (xs es : List Statement) (y : Statement) → row.congruence_of r R xs es ≡ Some y → Trees (Step T) (sequents M G xs) → Trees (Step T) (sequents M G es) → Prim T M G y
  do_congruence xs es y e ts us = from_when (Prim T M G) ((is_object_goal R.conclusion && row.are_arguments R.premises xs) && start_all xs es) (plain (equate_goal (conclusion_at R (heads xs)) (symbol r (heads xs)) (symbol r (right_heads xs es)))) y e (λ h.
      let k : ((is_object_goal R.conclusion && row.are_arguments R.premises xs) ≡ true) × (start_all xs es ≡ true) = and_parts (is_object_goal R.conclusion && row.are_arguments R.premises xs) (start_all xs es) h in
      let l : (is_object_goal R.conclusion ≡ true) × (row.are_arguments R.premises xs ≡ true) = and_parts (is_object_goal R.conclusion) (row.are_arguments R.premises xs) k.0 in
      admissible T so 6 (sequents M G (filled_premises (instance_of R.premises (heads xs)) R.premises (heads xs) ++ equated_premises (instance_of R.premises (heads xs)) R.premises (heads xs) (right_heads xs es)))
      (sequent M G (plain (equate_goal (conclusion_at R (heads xs)) (symbol r (heads xs)) (symbol r (right_heads xs es)))))
      (Rattle.ft_theory.specs.WideSteps.equal_instances r R (heads xs) (right_heads xs es) q (fits_for R.premises xs l.1) (equations_true (instance_of R.premises (heads xs)) R.premises xs es l.1 k.1).0 (object_claim_true R.conclusion l.0))
      (equation_trees_for R.premises xs es l.1 k.1 ts us))

  pub do_premise_conversion : (xs es : List Statement) (x y : Statement) → row.premise_conversion R xs es x ≡ Some y → Trees (Step T) (sequents M G xs) → Trees (Step T) (sequents M G es) → Prim T M G x → Prim T M G y
  do_premise_conversion xs es x y e ts us p =
      let ps : List (ℕ × Statement) = row.first_premises R xs in
      let l : Arguments = heads xs in
      let n : Arguments = right_heads xs es in
      let k : (b : Statement) × BoundaryAfter R ps b × ((a : Arguments) → row.boundary_after R xs a ≡ row.at_arguments ps a b) = boundary_after_is R xs in
      from_when (Prim T M G) (nat_lt (length xs) (length R.premises) && ((row.are_arguments ps xs && start_all xs es) && fits x (row.boundary_after R xs l))) (fill (row.boundary_after R xs n) (head x)) y e (λ s.
      let t : ((row.are_arguments ps xs && start_all xs es) && fits x (row.boundary_after R xs l)) ≡ true = (and_parts (nat_lt (length xs) (length R.premises)) ((row.are_arguments ps xs && start_all xs es) && fits x (row.boundary_after R xs l)) s).1 in
      let u : ((row.are_arguments ps xs && start_all xs es) ≡ true) × (fits x (row.boundary_after R xs l) ≡ true) = and_parts (row.are_arguments ps xs && start_all xs es) (fits x (row.boundary_after R xs l)) t in
      let v : (row.are_arguments ps xs ≡ true) × (start_all xs es ≡ true) = and_parts (row.are_arguments ps xs) (start_all xs es) u.0 in
      subst (λ z. Prim T M G (fill z (head x))) (sym (k.2 n))
      (admissible T so 6 (sequent M G (fill (row.at_arguments ps l k.0) (head x)) ∷ sequents M G (filled_premises (instance_of ps l) ps l ++ equated_premises (instance_of ps l) ps l n))
      (sequent M G (fill (row.at_arguments ps n k.0) (head x)))
      (convert_premise r R ps k.0 l n (head x) q k.1 (fits_for ps xs v.0) (equations_true (instance_of ps l) ps xs es v.0 v.1).0)
      (more (subst (Prim T M G) (fits_true x (row.boundary_after R xs l) u.1 ∙ ap (λ z. fill z (head x)) (k.2 l)) p) (equation_trees_for ps xs es v.0 v.1 ts us))))

  pub do_premise_conversion_back : (xs es : List Statement) (x y : Statement) → row.premise_conversion_back R xs es x ≡ Some y → Trees (Step T) (sequents M G xs) → Trees (Step T) (sequents M G es) → Prim T M G x → Prim T M G y
  do_premise_conversion_back xs es x y e ts us p =
      let ps : List (ℕ × Statement) = row.first_premises R xs in
      let l : Arguments = heads xs in
      let n : Arguments = right_heads xs es in
      let k : (b : Statement) × BoundaryAfter R ps b × ((a : Arguments) → row.boundary_after R xs a ≡ row.at_arguments ps a b) = boundary_after_is R xs in
      from_when (Prim T M G) (nat_lt (length xs) (length R.premises) && ((row.are_arguments ps xs && start_all xs es) && fits x (row.boundary_after R xs n))) (fill (row.boundary_after R xs l) (head x)) y e (λ s.
      let t : ((row.are_arguments ps xs && start_all xs es) && fits x (row.boundary_after R xs n)) ≡ true = (and_parts (nat_lt (length xs) (length R.premises)) ((row.are_arguments ps xs && start_all xs es) && fits x (row.boundary_after R xs n)) s).1 in
      let u : ((row.are_arguments ps xs && start_all xs es) ≡ true) × (fits x (row.boundary_after R xs n) ≡ true) = and_parts (row.are_arguments ps xs && start_all xs es) (fits x (row.boundary_after R xs n)) t in
      let v : (row.are_arguments ps xs ≡ true) × (start_all xs es ≡ true) = and_parts (row.are_arguments ps xs) (start_all xs es) u.0 in
      subst (λ z. Prim T M G (fill z (head x))) (sym (k.2 l))
      (admissible T so 6 (sequent M G (fill (row.at_arguments ps n k.0) (head x)) ∷ sequents M G (filled_premises (instance_of ps l) ps l ++ equated_premises (instance_of ps l) ps l n))
      (sequent M G (fill (row.at_arguments ps l k.0) (head x)))
      (convert_back r R ps k.0 l n (head x) q k.1 (fits_for ps xs v.0) (equations_true (instance_of ps l) ps xs es v.0 v.1).0)
      (more (subst (Prim T M G) (fits_true x (row.boundary_after R xs n) u.1 ∙ ap (λ z. fill z (head x)) (k.2 n)) p) (equation_trees_for ps xs es v.0 v.1 ts us))))
