-- Expressions and boundaries at an instance, while the table goes on.
use Rattle.std.proofs.Common.{◌≡◌, ◌∙◌, ℕ, zero, suc, ◌<◌, ◌≤◌, List, [], ◌∷◌, ◌++◌, length, drop, get_or, map, refl, sym, ap, ap₂, subst, append_assoc, append-nil, drop_of_length-le, drop-cons}
use Rattle.std.proofs.lemmas.List.{map-append}
use Rattle.ft_theory.specs.Expressions.{Expression, instantiate}
use Rattle.ft_theory.specs.Statements.{Claim, term_goal, type_equation_goal, term_equation_goal, plain, abstracted, map_claim, map_statement}
use Rattle.ft_theory.specs.Small.{IsSmall}
use Rattle.ft_reference.specs.Refusals.{AllSmall, claim_expressions, expressions}
use Rattle.ft_syntax.specs.Table.{tree, Extends, AllBelow}
use Rattle.ft_syntax.specs.Instances.{instance_in, PairsBelow}
use Rattle.ft_syntax.specs.Laws.{extends_trans, tree_extends, trees_extend, all_below_extends, all_push, one_below, instance_extends, pairs_below_extends}
use Rattle.ft_syntax.specs.declared.syntax.Arg.{Arg}
use Rattle.ft_judge.specs.Meaning.{goal_in, under, boundary_in, GoalBelow}
use Rattle.ft_judge.specs.Laws.{goal_extends}
use Rattle.ft_judge.specs.declared.judgement.Goal.{Goal}
use Rattle.ft_judge.specs.declared.judgement.Goal.TheVariants as goal
use Rattle.ft_judge.specs.declared.judgement.Boundary.{Boundary}
use Rattle.ft_kernel.specs.State.{State}
use Rattle.ft_calls.specs.Answers.{Stays}
use Rattle.ft_calls.proofs.Declared.{stays_same}
use Rattle.ft_syntax.specs.declared.syntax.SynFault.{SynFault}
use Rattle.ft_syntax.specs.declared.syntax.SynFault.TheVariants as syntax
use Rattle.ft_parts.specs.Instances.{BigOr}
use Rattle.ft_parts.specs.Instances.{expression_at, goal_at, boundary_at}

-- a member of a list at a place, and what comes after it
drop_one : {A : Type 0} (xs : List A) (i : ℕ) (x : A) → i < length xs → x ≡ get_or xs i x → drop i xs ≡ x ∷ drop (suc i) xs
drop_one xs i x l h = drop-cons xs i x l ∙ ap (λ y. y ∷ drop (suc i) xs) (sym h)

-- states that stay
pub stays_then : (s t u : State) → Stays s t → Stays t u → Stays s u
stays_then s t u a b = (b.0 ∙ a.0, extends_trans s.trees t.trees u.trees a.1 b.1)

-- an expression and a goal at the instance are the same over a table that goes on
pub at_extends : (ts us : List Expression) (ps : List (ℕ × Arg)) (e : ℕ) → Extends ts us → PairsBelow (length ts) ps → e < length ts → expression_at us ps e ≡ expression_at ts ps e
at_extends ts us ps e x h l = ap₂ instantiate (instance_extends ts us ps x h) (tree_extends ts us e x l)

pub goal_at_extends : (ts us : List Expression) (ps : List (ℕ × Arg)) (g : Goal) → Extends ts us → PairsBelow (length ts) ps → GoalBelow (length ts) g → goal_at us ps (goal_in us g) ≡ goal_at ts ps (goal_in ts g)
goal_at_extends ts us ps g x h l = ap₂ (λ i c. map_claim (instantiate i) c) (instance_extends ts us ps x h) (goal_extends ts us g x l)

-- the loop over several expressions
pub record Putting (s t : State) (ps : List (ℕ × Arg)) (es : List ℕ) (j : ℕ) (list : List ℕ) : Type 0 where
  pub stays : Stays s t
  pub below : AllBelow (length t.trees) list
  pub done : map (tree t.trees) list ++ map (expression_at s.trees ps) (drop j es) ≡ map (expression_at s.trees ps) es
  pub small : AllSmall (map (expression_at s.trees ps) (drop j es)) → AllSmall (map (expression_at s.trees ps) es)
  pub rest : AllSmall (map (expression_at s.trees ps) es) → AllSmall (map (expression_at s.trees ps) (drop j es))

pub putting_start : (s : State) (ps : List (ℕ × Arg)) (es : List ℕ) → Putting s s ps es 0 []
putting_start s ps es = record { stays = stays_same s s refl; below = tt; done = refl; small = λ h. h; rest = λ h. h }

next_at : (s t : State) (ps : List (ℕ × Arg)) (es : List ℕ) (j e : ℕ) (list : List ℕ) → Putting s t ps es j list → PairsBelow (length s.trees) ps → AllBelow (length s.trees) es → j < length es → e ≡ get_or es j e
    → expression_at t.trees ps e ≡ expression_at s.trees ps e
next_at s t ps es j e list p b h l g = at_extends s.trees t.trees ps e p.stays.1 b (one_below (length s.trees) j e es h l g)

first_at : (s : State) (ps : List (ℕ × Arg)) (es : List ℕ) (j e : ℕ) → j < length es → e ≡ get_or es j e → map (expression_at s.trees ps) (drop j es) ≡ expression_at s.trees ps e ∷ map (expression_at s.trees ps) (drop (suc j) es)
first_at s ps es j e l g = ap (map (expression_at s.trees ps)) (drop_one es j e l g)

pub putting_more : (s t u : State) (ps : List (ℕ × Arg)) (es : List ℕ) (j e r : ℕ) (list next : List ℕ) → Putting s t ps es j list → PairsBelow (length s.trees) ps → AllBelow (length s.trees) es → j < length es → e ≡ get_or es j e
    → Stays t u → r < length u.trees → tree u.trees r ≡ expression_at t.trees ps e → IsSmall (expression_at t.trees ps e) → next ≡ list ++ r ∷ [] → Putting s u ps es (suc j) next
putting_more s t u ps es j e r list next p b h l g x w q small n =
    let E : Expression = expression_at s.trees ps e in
    let old : expression_at t.trees ps e ≡ E = next_at s t ps es j e list p b h l g in
    subst (Putting s u ps es (suc j)) (sym n) (record {
      stays = stays_then s t u p.stays x;
      below = all_push (length u.trees) list r (all_below_extends t.trees u.trees list x.1 p.below) w;
      done =
          ap (λ z. z ++ map (expression_at s.trees ps) (drop (suc j) es)) (map-append (tree u.trees) list (r ∷ []) ∙ ap₂ (λ ys y. ys ++ y ∷ []) (trees_extend t.trees u.trees list x.1 p.below) (q ∙ old))
          ∙ append_assoc (map (tree t.trees) list) (E ∷ []) (map (expression_at s.trees ps) (drop (suc j) es))
          ∙ ap (λ z. map (tree t.trees) list ++ z) (sym (first_at s ps es j e l g))
          ∙ p.done;
      small = λ k. p.small (subst AllSmall (sym (first_at s ps es j e l g)) (subst IsSmall old small, k));
      rest = λ k. (subst AllSmall (first_at s ps es j e l g) (p.rest k)).1;
    })

pub putting_refused : (s t : State) (ps : List (ℕ × Arg)) (es : List ℕ) (j e : ℕ) (list : List ℕ) → Putting s t ps es j list → PairsBelow (length s.trees) ps → AllBelow (length s.trees) es → j < length es → e ≡ get_or es j e
    → (IsSmall (expression_at t.trees ps e) → ⊥) → AllSmall (map (expression_at s.trees ps) es) → ⊥
putting_refused s t ps es j e list p b h l g n k = n (subst IsSmall (sym (next_at s t ps es j e list p b h l g)) (subst AllSmall (first_at s ps es j e l g) (p.rest k)).0)

pub small_next : (s t : State) (ps : List (ℕ × Arg)) (es : List ℕ) (j e : ℕ) (list : List ℕ) → Putting s t ps es j list → PairsBelow (length s.trees) ps → AllBelow (length s.trees) es → j < length es → e ≡ get_or es j e
    → AllSmall (map (expression_at s.trees ps) es) → IsSmall (expression_at t.trees ps e)
small_next s t ps es j e list p b h l g k = subst IsSmall (sym (next_at s t ps es j e list p b h l g)) (subst AllSmall (first_at s ps es j e l g) (p.rest k)).0

pub putting_end : (s t : State) (ps : List (ℕ × Arg)) (es : List ℕ) (j : ℕ) (list : List ℕ) → Putting s t ps es j list → length es ≤ j → map (tree t.trees) list ≡ map (expression_at s.trees ps) es
putting_end s t ps es j list p l =
    sym (append-nil (map (tree t.trees) list))
    ∙ ap (λ ds. map (tree t.trees) list ++ map (expression_at s.trees ps) ds) (sym (drop_of_length-le es l))
    ∙ p.done

pub putting_small : (s t : State) (ps : List (ℕ × Arg)) (es : List ℕ) (j : ℕ) (list : List ℕ) → Putting s t ps es j list → length es ≤ j → AllSmall (map (expression_at s.trees ps) es)
putting_small s t ps es j list p l = p.small (subst (λ ds. AllSmall (map (expression_at s.trees ps) ds)) (sym (drop_of_length-le es l)) tt)

pub putting_below : (s t : State) (ps : List (ℕ × Arg)) (es : List ℕ) (j e : ℕ) (list : List ℕ) → Putting s t ps es j list → AllBelow (length s.trees) es → j < length es → e ≡ get_or es j e → e < length t.trees
putting_below s t ps es j e list p h l g = Rattle.ft_syntax.specs.Laws.below_extends s.trees t.trees e p.stays.1 (one_below (length s.trees) j e es h l g)

pub putting_pairs : (s t : State) (ps : List (ℕ × Arg)) (es : List ℕ) (j : ℕ) (list : List ℕ) → Putting s t ps es j list → PairsBelow (length s.trees) ps → PairsBelow (length t.trees) ps
putting_pairs s t ps es j list p h = pairs_below_extends s.trees t.trees ps p.stays.1 h

-- the whole boundary
map_under : (f : Expression → Expression) (ts us : List Expression) (k : ℕ) (As Bs : List ℕ) (c d : Claim) → map (tree us) Bs ≡ map (λ A. f (tree ts A)) As → d ≡ map_claim f c
    → under us Bs (plain d) ≡ map_statement (λ l. f) k (under ts As (plain c))
map_under f ts us k [] [] c d e g = ap plain g
map_under f ts us k [] (B ∷ Bs) c d e g = cc
map_under f ts us k (A ∷ As) [] c d e g = cc
map_under f ts us k (A ∷ As) (B ∷ Bs) c d e g =
    let first : tree us B ≡ f (tree ts A) = cc in
    let rest : map (tree us) Bs ≡ map (λ A. f (tree ts A)) As = cc in
    ap₂ abstracted first (map_under f ts us (suc k) As Bs c d rest g)

pub boundary_put : (ts us : List Expression) (ps : List (ℕ × Arg)) (b r : Boundary) → map (tree us) r.domains ≡ map (expression_at ts ps) b.domains → goal_in us r.goal ≡ goal_at ts ps (goal_in ts b.goal)
    → boundary_in us r ≡ boundary_at ts ps (boundary_in ts b)
boundary_put ts us ps b r e g = map_under (instantiate (instance_in ts ps)) ts us zero b.domains r.domains (goal_in ts b.goal) (goal_in us r.goal) e g

expressions_under : (f : Expression → Expression) (ts : List Expression) (k : ℕ) (As : List ℕ) (c : Claim) → expressions (map_statement (λ l. f) k (under ts As (plain c))) ≡ map (λ A. f (tree ts A)) As ++ claim_expressions (map_claim f c)
expressions_under f ts k [] c = refl
expressions_under f ts k (A ∷ As) c = ap (λ es. f (tree ts A) ∷ es) (expressions_under f ts (suc k) As c)

small_append : (es fs : List Expression) → AllSmall es → AllSmall fs → AllSmall (es ++ fs)
small_append [] fs h k = k
small_append (e ∷ es) fs h k = (h.0, small_append es fs h.1 k)

small_parts : (es fs : List Expression) → AllSmall (es ++ fs) → AllSmall es × AllSmall fs
small_parts [] fs h = (tt, h)
small_parts (e ∷ es) fs h = let p : AllSmall es × AllSmall fs = small_parts es fs h.1 in ((h.0, p.0), p.1)

pub boundary_small : (ts : List Expression) (ps : List (ℕ × Arg)) (b : Boundary) → AllSmall (map (expression_at ts ps) b.domains) → AllSmall (claim_expressions (goal_at ts ps (goal_in ts b.goal)))
    → AllSmall (expressions (boundary_at ts ps (boundary_in ts b)))
boundary_small ts ps b h k = subst AllSmall (sym (expressions_under (instantiate (instance_in ts ps)) ts zero b.domains (goal_in ts b.goal))) (small_append (map (expression_at ts ps) b.domains) (claim_expressions (goal_at ts ps (goal_in ts b.goal))) h k)

pub small_boundary : (ts : List Expression) (ps : List (ℕ × Arg)) (b : Boundary) → AllSmall (expressions (boundary_at ts ps (boundary_in ts b)))
    → AllSmall (map (expression_at ts ps) b.domains) × AllSmall (claim_expressions (goal_at ts ps (goal_in ts b.goal)))
small_boundary ts ps b h = small_parts (map (expression_at ts ps) b.domains) (claim_expressions (goal_at ts ps (goal_in ts b.goal))) (subst AllSmall (expressions_under (instantiate (instance_in ts ps)) ts zero b.domains (goal_in ts b.goal)) h)

-- what is too big at one place is too big where it is part of more
pub big_weaker : (P Q : Type 0) (f : SynFault) → BigOr P f → (Q → P) → BigOr Q f
big_weaker P Q syntax.TooBig h k = λ q. h (k q)
big_weaker P Q syntax.Memory h k = tt

-- Goals at an instance, by their form.
pub goal_tm : (ts us : List Expression) (ps : List (ℕ × Arg)) (g : Goal) (A r : ℕ) → g ≡ goal.Tm A → tree us r ≡ expression_at ts ps A → goal_in us (goal.Tm r) ≡ goal_at ts ps (goal_in ts g)
goal_tm ts us ps g A r e h = ap term_goal h ∙ ap (λ g. goal_at ts ps (goal_in ts g)) (sym e)

pub goal_eqty : (ts us : List Expression) (ps : List (ℕ × Arg)) (g : Goal) (A B r q : ℕ) → g ≡ goal.EqTy A B → tree us r ≡ expression_at ts ps A → tree us q ≡ expression_at ts ps B → goal_in us (goal.EqTy r q) ≡ goal_at ts ps (goal_in ts g)
goal_eqty ts us ps g A B r q e h k = ap₂ type_equation_goal h k ∙ ap (λ g. goal_at ts ps (goal_in ts g)) (sym e)

pub goal_eqtm : (ts us : List Expression) (ps : List (ℕ × Arg)) (g : Goal) (s t A r q p : ℕ) → g ≡ goal.EqTm s t A → tree us r ≡ expression_at ts ps s → tree us q ≡ expression_at ts ps t → tree us p ≡ expression_at ts ps A
    → goal_in us (goal.EqTm r q p) ≡ goal_at ts ps (goal_in ts g)
goal_eqtm ts us ps g s t A r q p e h k l =
    ap₂ (λ a b. term_equation_goal a b (tree us p)) h k ∙ ap (term_equation_goal (expression_at ts ps s) (expression_at ts ps t)) l ∙ ap (λ g. goal_at ts ps (goal_in ts g)) (sym e)

-- the expressions of such a goal
abbrev pub AllOfGoal : List Expression → List (ℕ × Arg) → Goal → Type 0
AllOfGoal ts ps g = AllSmall (claim_expressions (goal_at ts ps (goal_in ts g)))

pub goal_of : (ts : List Expression) (ps : List (ℕ × Arg)) (g h : Goal) → g ≡ h → AllOfGoal ts ps h → AllOfGoal ts ps g
goal_of ts ps g h e a = subst (AllOfGoal ts ps) (sym e) a

pub of_goal : (ts : List Expression) (ps : List (ℕ × Arg)) (g h : Goal) → g ≡ h → AllOfGoal ts ps g → AllOfGoal ts ps h
of_goal ts ps g h e a = subst (AllOfGoal ts ps) e a
