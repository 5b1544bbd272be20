-- What premises and conclusions ask for, part by part.
use Rattle.std.proofs.Common.{◌≡◌, ◌∙◌, sym, ap, refl, subst, ℕ, suc, ◌<◌, List, [], ◌∷◌, length, Option, Some, None, option_map, option_and_then, Bool, true, false, cond, ◌&&◌, not, nat_eq, ◌+◌, drop, get_or, arith}
use Rattle.std.specs.Str.{bytes_eq}
use Rattle.std.proofs.Math.Seq.{drop-cons}
use Rattle.ft_theory.specs.Statements.{Claim, is_type, has_type, equal_types, equal_terms, type_goal, term_goal, type_equation_goal, term_equation_goal, plain}
use Rattle.ft_items.specs.Item.{entry, by_btype, by_bterm}
use Rattle.ft_items.specs.Store.{with_one, declared_by}
use Rattle.ft_items.specs.Good.{Allowed, given, is_new, equal_names}
use Rattle.ft_judge.specs.Meaning.{claim_in, goal_in, FormBelow}
use Rattle.ft_judge.specs.declared.judgement.Form.{Form}
use Rattle.ft_judge.specs.declared.judgement.Goal.{Goal}
use Rattle.ft_kernel.specs.State.{State}
use Rattle.ft_applications_meaning.specs.declared.syntax.Application.{Application}
use Rattle.ft_applications_meaning.specs.declared.syntax.Premise.{Premise}
use Rattle.ft_applications_meaning.specs.Building.{Declaration, claim_of, avoids, type_claimed, name_of_premise, premise_names}
use Rattle.ft_run.specs.Session.{IsSimpleClaim, HasEntry, IsClaimed}
use Rattle.ft_run.specs.Asking.{HasType, IsGoalAsked, IsTypeOf, goal_of_type}
use Rattle.ft_run.proofs.Accepted.{entry_there}

-- the boundary of a type
type_allowed : (s : State) (g : Claim) → HasType s g None → Allowed s.items (entry (record { statement = plain g; set = []; step = by_btype }))
type_allowed s (is_type A) h = absurd h
type_allowed s (has_type t A) h = absurd h
type_allowed s (equal_types A B) h = absurd h
type_allowed s (equal_terms t u A) h = absurd h
type_allowed s type_goal h = refl
type_allowed s (term_goal A) h = absurd h
type_allowed s (type_equation_goal A B) h = absurd h
type_allowed s (term_equation_goal t u A) h = absurd h

-- the boundary of a term of a type
term_allowed : (s : State) (j : ℕ) (g : Claim) → HasType s g (Some j) → Allowed s.items (entry (record { statement = plain g; set = []; step = by_bterm j }))
term_allowed s j (is_type A) h = absurd h
term_allowed s j (has_type t A) h = absurd h
term_allowed s j (equal_types A B) h = absurd h
term_allowed s j (equal_terms t u A) h = absurd h
term_allowed s j type_goal h = absurd h
term_allowed s j (term_goal A) h = ap (λ o. option_and_then (given (declared_by s.items)) (with_one by_bterm o)) (entry_there s j (is_type A) h)
term_allowed s j (type_equation_goal A B) h = absurd h
term_allowed s j (term_equation_goal t u A) h = absurd h

pub asks_type : (s : State) (g : Goal) (o : Option ℕ) → IsGoalAsked s g o → o ≡ None → Allowed s.items (entry (record { statement = plain (goal_in s.trees g); set = []; step = by_btype }))
asks_type s g o h e = type_allowed s (goal_in s.trees g) (subst (HasType s (goal_in s.trees g)) e h.1)

pub asks_term : (s : State) (g : Goal) (o : Option ℕ) (j : ℕ) → IsGoalAsked s g o → o ≡ Some j → Allowed s.items (entry (record { statement = plain (goal_in s.trees g); set = []; step = by_bterm j }))
asks_term s g o j h e = term_allowed s j (goal_in s.trees g) (subst (HasType s (goal_in s.trees g)) e h.1)

-- a type that is claimed is that of a term that is asked for
pub goal_asked : (s : State) (j : ℕ) (f : Form) (g : Goal) → IsClaimed s (record { entry = j; form = f }) → IsTypeOf f g → IsGoalAsked s g (Some j)
goal_asked s j f g h t =
    subst (λ g. IsGoalAsked s g (Some j)) (sym t.2) (
      (subst (FormBelow (length s.trees)) t.1 h.below, subst (λ f. IsSimpleClaim (claim_in s.trees f)) t.1 h.simple),
      subst (λ f. HasEntry s j (claim_in s.trees f)) t.1 h.entry,
    )

nothing_asked : (b : Bool) → option_map term_goal (cond b None None) ≡ None
nothing_asked true = refl
nothing_asked false = refl

-- names that are taken
pub taken_unasked : (ds : List Declaration) (ns : List (List ℕ)) (a : Application) (b : Bool) → b ≡ avoids ns a → b ≡ false → goal_of_type ds ns a ≡ None
taken_unasked ds ns a b e f = ap (λ b. option_map term_goal (cond b (type_claimed (claim_of ds a)) None)) (sym e ∙ f)

-- nothing is claimed
pub none_unasked : (ds : List Declaration) (ns : List (List ℕ)) (a : Application) → claim_of ds a ≡ None → goal_of_type ds ns a ≡ None
none_unasked ds ns a h = ap (λ o. option_map term_goal (cond (avoids ns a) (type_claimed o) None)) h ∙ nothing_asked (avoids ns a)

-- Names that are taken, or not.

same_names : (m n : List ℕ) → bytes_eq m n ≡ equal_names m n
same_names [] [] = refl
same_names [] (d ∷ n) = refl
same_names (c ∷ m) [] = refl
same_names (c ∷ m) (d ∷ n) = ap (λ b. nat_eq c d && b) (same_names m n)

module _ (ps : List Premise) (n : List ℕ) (i : ℕ) (p : Premise) (m : List ℕ) (b : Bool) (l : i < length ps) (e : p ≡ get_or ps i p) (q : m ≡ name_of_premise p) (f : b ≡ bytes_eq m n) where
  here : is_new (premise_names (drop i ps)) n ≡ (not b && is_new (premise_names (drop (suc i) ps)) n)
  here =
      ap (λ qs. is_new (premise_names qs) n) (drop-cons ps i p l ∙ ap (λ r. r ∷ drop (suc i) ps) (sym e))
      ∙ ap (λ b. not b && is_new (premise_names (drop (suc i) ps)) n) (sym (same_names (name_of_premise p) n) ∙ ap (λ m. bytes_eq m n) (sym q) ∙ sym f)

  pub new_not : b ≡ true → is_new (premise_names (drop i ps)) n ≡ false
  new_not t = here ∙ ap (λ b. not b && is_new (premise_names (drop (suc i) ps)) n) t

  pub new_next : b ≡ false → is_new (premise_names (drop i ps)) n ≡ is_new (premise_names (drop (i + 1) ps)) n
  new_next t =
      let z : suc i ≡ i + 1 = omega arith in
      here ∙ ap (λ b. not b && is_new (premise_names (drop (suc i) ps)) n) t ∙ ap (λ k. is_new (premise_names (drop k ps)) n) z
