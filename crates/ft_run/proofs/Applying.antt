-- A rule at what is claimed: each part of the step, by the parts before it.
use Rattle.std.proofs.Common.{◌≡◌, ◌∙◌, sym, ap, ap₂, refl, subst, ℕ, List, [], ◌∷◌, map, length, Some, None, Bool, true, false, ◌&&◌}
use Rattle.ft_theory.specs.Expressions.{Expression, symbol, with_body, dummy}
use Rattle.ft_theory.specs.Small.{IsSmall, is_small}
use Rattle.ft_theory.specs.Statements.{Claim, is_type, has_type, equal_types, equal_terms, type_goal, term_goal, type_equation_goal, term_equation_goal, plain, fill_goal}
use Rattle.ft_items.specs.Equal.{fit_all, heads}
use Rattle.ft_items.specs.Rows.{when}
use Rattle.ft_syntax.specs.Table.{tree, arguments_in, ArgumentsBelow}
use Rattle.ft_syntax.specs.declared.syntax.Arg.{Arg}
use Rattle.ft_judge.specs.Meaning.{claim_in, goal_in, FormBelow}
use Rattle.ft_judge.specs.declared.judgement.Form.{Form}
use Rattle.ft_judge.specs.declared.judgement.Form.TheVariants.{Ty, Tm, EqTy, EqTm}
use Rattle.ft_judge.specs.declared.judgement.Goal.{Goal}
use Rattle.ft_kernel.specs.State.{State}
use Rattle.ft_applications_meaning.specs.Building.{Declaration, plains}
use Rattle.ft_run.specs.declared.session.Claimed.{Claimed}
use Rattle.ft_run.specs.Given.{argument_of}
use Rattle.ft_run.specs.Session.{Progress, IsSimple, AreSimple, IsSimpleClaim, IsSimpleGoal, HasEntry, IsClaimed, AreClaimed, claims_in, Keeps}
use Rattle.ft_run.specs.Claiming.{rule_in, at_place}
use Rattle.ft_run.proofs.Keeping.{all_claimed_kept}
use Rattle.ft_items.proofs.Smallness.{small_true, true_small}
use Rattle.std.proofs.lemmas.Bool.{false_from_ne_true}

argument_below : (n : ℕ) (f : Form) → FormBelow n f → ArgumentsBelow n (argument_of f ∷ [])
argument_below n (Ty A) h = (h, tt)
argument_below n (Tm t A) h = (h.0, tt)
argument_below n (EqTy A B) h = (tt, tt)
argument_below n (EqTm s t A) h = (tt, tt)

arguments_below_map : (s : State) (xs : List Claimed) → AreClaimed s xs → ArgumentsBelow (length s.trees) (map (λ x. argument_of x.form) xs)
arguments_below_map s [] h = tt
arguments_below_map s (x ∷ xs) h = ((argument_below (length s.trees) x.form h.0.below).0, arguments_below_map s xs h.1)

-- the heads are in the table
pub arguments_below : (s : State) (xs : List Claimed) (as' : List Arg) → AreClaimed s xs → as' ≡ map (λ x. argument_of x.form) xs → ArgumentsBelow (length s.trees) as'
arguments_below s xs as' h e = subst (ArgumentsBelow (length s.trees)) (sym e) (arguments_below_map s xs h)

arguments_heads : (ts : List Expression) (xs : List Claimed) → arguments_in ts (map (λ x. argument_of x.form) xs) ≡ heads (plains (claims_in ts xs))
arguments_heads ts [] = refl
arguments_heads ts (x ∷ xs) = here x.form (arguments_heads ts xs)
  where
    here : (f : Form) → arguments_in ts (map (λ x. argument_of x.form) xs) ≡ heads (plains (claims_in ts xs))
        → arguments_in ts (argument_of f ∷ map (λ x. argument_of x.form) xs) ≡ heads (plain (claim_in ts f) ∷ plains (claims_in ts xs))
    here (Ty A) h = ap (λ a. with_body 0 (tree ts A) a) h
    here (Tm t A) h = ap (λ a. with_body 0 (tree ts t) a) h
    here (EqTy A B) h = ap (λ a. dummy 0 a) h
    here (EqTm s t A) h = ap (λ a. dummy 0 a) h

-- the arguments of the symbol are the heads of what is claimed
pub heads_are : (ts : List Expression) (xs : List Claimed) (as' : List Arg) → as' ≡ map (λ x. argument_of x.form) xs → arguments_in ts as' ≡ heads (plains (claims_in ts xs))
heads_are ts xs as' e = ap (arguments_in ts) e ∙ arguments_heads ts xs

-- what does not fit claims nothing
pub misfit_none : (ds : List Declaration) (i : ℕ) (cs : List Claim) (b : Bool) → b ≡ fit_all (λ b. b) (rule_in ds i).premises (plains cs) → b ≡ false → at_place ds i cs ≡ None
misfit_none ds i cs b e f =
    ap (λ b. when (b && is_small (symbol i (heads (plains cs)))) (fill_goal (rule_in ds i).conclusion (symbol i (heads (plains cs))))) (sym e ∙ f)

false_none : (b c : Bool) (x : Claim) → c ≡ false → when (b && c) x ≡ None
false_none true c x e = ap (λ c. when c x) e
false_none false c x e = refl

-- what is not small claims nothing
pub big_none : (p : Progress) (i : ℕ) (xs : List Claimed) (as' : List Arg) → as' ≡ map (λ x. argument_of x.form) xs
    → (IsSmall (symbol i (arguments_in p.state.trees as')) → ⊥) → at_place p.rules i (claims_in p.state.trees xs) ≡ None
big_none p i xs as' e big =
    let cs = claims_in p.state.trees xs in
    let same = heads_are p.state.trees xs as' e in
    false_none (fit_all (λ b. b) (rule_in p.rules i).premises (plains cs)) (is_small (symbol i (heads (plains cs)))) (fill_goal (rule_in p.rules i).conclusion (symbol i (heads (plains cs))))
    (false_from_ne_true (is_small (symbol i (heads (plains cs)))) (λ small. big (subst (λ a. IsSmall (symbol i a)) (sym same) (true_small (symbol i (heads (plains cs))) small))))

-- what fits and is small claims its conclusion
pub fit_some : (p : Progress) (i : ℕ) (xs : List Claimed) (as' : List Arg) (b : Bool) (c : Claim) → as' ≡ map (λ x. argument_of x.form) xs
    → b ≡ fit_all (λ b. b) (rule_in p.rules i).premises (plains (claims_in p.state.trees xs)) → b ≡ true → IsSmall (symbol i (arguments_in p.state.trees as'))
    → c ≡ fill_goal (rule_in p.rules i).conclusion (symbol i (heads (plains (claims_in p.state.trees xs)))) → at_place p.rules i (claims_in p.state.trees xs) ≡ Some c
fit_some p i xs as' b c e f t small g =
    let cs = claims_in p.state.trees xs in
    let same = heads_are p.state.trees xs as' e in
    ap₂ (λ b d. when (b && d) (fill_goal (rule_in p.rules i).conclusion (symbol i (heads (plains cs))))) (sym f ∙ t)
    (small_true (symbol i (heads (plains cs))) (subst (λ a. IsSmall (symbol i a)) same small))
    ∙ ap Some (sym g)

-- the same, after the symbol was formed
pub fit_kept : (p q : Progress) (i : ℕ) (xs : List Claimed) (b : Bool) → Keeps p q → AreClaimed p.state xs
    → b ≡ fit_all (λ b. b) (rule_in p.rules i).premises (plains (claims_in p.state.trees xs)) → b ≡ true → fit_all (λ b. b) (rule_in q.rules i).premises (plains (claims_in q.state.trees xs)) ≡ true
fit_kept p q i xs b k h f t =
    ap₂ (λ ds cs. fit_all (λ b. b) (rule_in ds i).premises (plains cs)) k.rules (all_claimed_kept p q xs k h).0 ∙ sym f ∙ t

-- the form claims what the rule concludes
pub concludes : (p q : Progress) (i : ℕ) (xs : List Claimed) (as' : List Arg) (h : ℕ) (g : Goal) (f : Form) → Keeps p q → AreClaimed p.state xs → as' ≡ map (λ x. argument_of x.form) xs
    → tree q.state.trees h ≡ symbol i (arguments_in p.state.trees as') → (rule_in q.rules i).conclusion ≡ goal_in q.state.trees g
    → ((ts : List Expression) → claim_in ts f ≡ fill_goal (goal_in ts g) (tree ts h))
    → claim_in q.state.trees f ≡ fill_goal (rule_in q.rules i).conclusion (symbol i (heads (plains (claims_in q.state.trees xs))))
concludes p q i xs as' h g f k c e t r claim =
    claim q.state.trees
    ∙ ap₂ fill_goal (sym r) (t ∙ ap (symbol i) (heads_are p.state.trees xs as' e) ∙ ap (λ cs. symbol i (heads (plains cs))) (sym (all_claimed_kept p q xs k c).0))

-- the claim over the earlier state
pub concludes_before : (p q : Progress) (i : ℕ) (xs : List Claimed) (ts : List Expression) (f : Form) → Keeps p q → AreClaimed p.state xs → ts ≡ q.state.trees
    → claim_in q.state.trees f ≡ fill_goal (rule_in q.rules i).conclusion (symbol i (heads (plains (claims_in q.state.trees xs))))
    → claim_in ts f ≡ fill_goal (rule_in p.rules i).conclusion (symbol i (heads (plains (claims_in p.state.trees xs))))
concludes_before p q i xs ts f k c e claim =
    ap (λ ts. claim_in ts f) e ∙ claim ∙ ap₂ (λ ds cs. fill_goal (rule_in ds i).conclusion (symbol i (heads (plains cs)))) k.rules (all_claimed_kept p q xs k c).0

heads_simple : (s : State) (xs : List Claimed) → AreClaimed s xs → AreSimple (heads (plains (claims_in s.trees xs)))
heads_simple s [] h = tt
heads_simple s (x ∷ xs) h = here x.form h.0.simple (heads_simple s xs h.1)
  where
    here : (f : Form) → IsSimpleClaim (claim_in s.trees f) → AreSimple (heads (plains (claims_in s.trees xs))) → AreSimple (heads (plain (claim_in s.trees f) ∷ plains (claims_in s.trees xs)))
    here (Ty A) g k = (refl, g, k)
    here (Tm t A) g k = (refl, g.0, k)
    here (EqTy A B) g k = absurd g
    here (EqTm s t A) g k = absurd g

fill_simple : (g : Claim) (e : Expression) → IsSimpleGoal g → IsSimple e → IsSimpleClaim (fill_goal g e)
fill_simple (is_type A) e h k = absurd h
fill_simple (has_type t A) e h k = absurd h
fill_simple (equal_types A B) e h k = absurd h
fill_simple (equal_terms s t A) e h k = absurd h
fill_simple type_goal e h k = k
fill_simple (term_goal A) e h k = (k, h)
fill_simple (type_equation_goal A B) e h k = absurd h
fill_simple (term_equation_goal s t A) e h k = absurd h

-- what is concluded is claimed
pub is_claimed : (q r : Progress) (i j : ℕ) (xs : List Claimed) (g : Goal) (f : Form) → AreClaimed q.state xs → (rule_in q.rules i).conclusion ≡ goal_in q.state.trees g → IsSimpleGoal (goal_in q.state.trees g)
    → claim_in q.state.trees f ≡ fill_goal (rule_in q.rules i).conclusion (symbol i (heads (plains (claims_in q.state.trees xs))))
    → FormBelow (length q.state.trees) f → r.state.trees ≡ q.state.trees → HasEntry r.state j (claim_in q.state.trees f) → IsClaimed r.state (record { entry = j; form = f })
is_claimed q r i j xs g f c e simple claim below same entry = record {
  below = subst (λ ts. FormBelow (length ts) f) (sym same) below;
  simple = subst (λ ts. IsSimpleClaim (claim_in ts f)) (sym same) (subst IsSimpleClaim (sym claim)
      (fill_simple (rule_in q.rules i).conclusion (symbol i (heads (plains (claims_in q.state.trees xs)))) (subst IsSimpleGoal (sym e) simple) (heads_simple q.state xs c)));
  entry = subst (λ ts. HasEntry r.state j (claim_in ts f)) (sym same) entry;
}
