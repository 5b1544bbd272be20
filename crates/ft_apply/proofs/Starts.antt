-- Equations that start at theses, and the arguments at their right sides.
use Rattle.std.proofs.Common.{◌≡◌, ◌≢◌, ◌∙◌, ℕ, zero, suc, ◌+◌, ◌-◌, ◌<◌, ◌≤◌, Bool, true, false, cond, Option, Some, None, List, [], ◌∷◌, ◌++◌, length, drop, get_or, map, refl, sym, ap, ap₂, subst, arith, append_assoc, append-nil, drop_of_length-le}
use Rattle.std.specs.Prelude.{Result, Ok, Err, ⊤, option_map, is_some}
use Rattle.std.proofs.lemmas.List.{map-append, length-drop}
use Rattle.std.proofs.lemmas.Option.{same_Some}
use Rattle.std.proofs.lemmas.Bool.{eq-eqb, ne_eqb}
use Rattle.ft_common.proofs.Options.{none_some, some_none}
use Rattle.ft_theory.specs.Expressions.{Expression, with_body, dummy}
use Rattle.ft_theory.specs.Statements.{Claim, plain, Statement, domain_count, boundary_of_claim, boundary_of}
use Rattle.ft_items.specs.Item.{Item}
use Rattle.ft_items.specs.Equal.{equal_expressions, has_head, right_of_claim, right_head, right_heads}
use Rattle.ft_sound.proofs.EqualLemmas.{expression_self}
use Rattle.ft_reference.specs.Refusals.{first_refusal}
use Rattle.ft_reference.specs.Refusals as reference
use Rattle.ft_reference.specs.Declare.{first_of}
use Rattle.ft_reference.specs.Compare.{differ_at, side_check, same_form, is_alike, goal_checks, domain_checks, fit_checks, is_equation_for, is_equation_of, left_checks, left_checks_under, start_checks, head_count, equation_checks}
use Rattle.ft_reference.specs.Checks.{all_equation_checks}
use Rattle.ft_nucleus_laws.proofs.Lists.{first_append}
use Rattle.ft_syntax.specs.Arguments.{Argument, as_arguments, with_argument}
use Rattle.ft_syntax.specs.Table.{tree, argument_in, arguments_in, BodyBelow, ArgumentsBelow}
use Rattle.ft_syntax.specs.Laws.{arguments_push}
use Rattle.ft_syntax.specs.declared.syntax.Arg.{Arg}
use Rattle.ft_judge.specs.Meaning.{claim_in, goal_in, under, thesis_in, boundary_in, FormBelow, GoalBelow, ThesisBelow, BoundaryBelow}
use Rattle.ft_judge.specs.declared.judgement.Form.{Form}
use Rattle.ft_judge.specs.declared.judgement.Form.TheVariants.{Ty, Tm, EqTy, EqTm}
use Rattle.ft_judge.specs.declared.judgement.Goal.{Goal}
use Rattle.ft_judge.specs.declared.judgement.Goal.TheVariants as goal
use Rattle.ft_judge.specs.declared.judgement.Thesis.{Thesis}
use Rattle.ft_judge.specs.declared.judgement.Boundary.{Boundary}
use Rattle.ft_judge.specs.declared.fault.Refusal.{Refusal}
use Rattle.ft_judge.specs.declared.fault.Refusal.TheVariants.{WrongForm, ArgumentCount}
use Rattle.ft_judge.specs.declared.fault.Fault.{Fault}
use Rattle.ft_judge.specs.declared.fault.Fault.TheVariants.{Refused, Memory}
use Rattle.ft_kernel.specs.State.{State, statement_at}
use Rattle.ft_calls.specs.Forming.{Refuses}
use Rattle.ft_apply.specs.Named.{entry_of, statements_of, head_argument}
use Rattle.ft_apply.specs.Outcomes.{Tests, Stops}
use Rattle.ft_apply.specs.Starting.{start_of, statements_from, next_checks, next_right, later_equations}
use Rattle.ft_apply.proofs.Naming.{drop_one, statement_found, statement_head, count_under, as_many, length_push}

-- Where a form and an equation have a goal, they are of one kind.
by_start : (P : Form → Form → Goal → ℕ → Type 0) → ((A B C : ℕ) → P (Ty A) (EqTy B C) (goal.EqTy A C) C) → ((t A s u B : ℕ) → P (Tm t A) (EqTm s u B) (goal.EqTm t u A) u)
    → (f g : Form) (b : Goal) (r : ℕ) → start_of f g ≡ Some (b, r) → P f g b r
by_start P p q (Ty A) (EqTy B C) b r h = subst (λ (z : Goal × ℕ). P (Ty A) (EqTy B C) z.0 z.1) (same_Some (goal.EqTy A C, C) (b, r) h) (p A B C)
by_start P p q (Tm t A) (EqTm s u B) b r h = subst (λ (z : Goal × ℕ). P (Tm t A) (EqTm s u B) z.0 z.1) (same_Some (goal.EqTm t u A, u) (b, r) h) (q t A s u B)
by_start P p q f g b r h = none_some h

-- Others are of two kinds.
other_form : (ts : List Expression) (f g : Form) → start_of f g ≡ None → is_equation_for (claim_in ts f) (claim_in ts g) ≡ false
other_form ts (Ty A) (EqTy B C) h = some_none h
other_form ts (Tm t A) (EqTm s u B) h = some_none h
other_form ts f g h = refl

unlike_under : (ts : List Expression) (As Bs : List ℕ) (c d : Claim) → is_equation_for c d ≡ false → is_equation_of (under ts As (plain c)) (under ts Bs (plain d)) ≡ false
unlike_under ts [] [] c d h = h
unlike_under ts [] (B ∷ Bs) c d h = refl
unlike_under ts (A ∷ As) [] c d h = refl
unlike_under ts (A ∷ As) (B ∷ Bs) c d h = unlike_under ts As Bs c d h

wrong_start : (ts : List Expression) (x y : Thesis) → start_of x.form y.form ≡ None → Refuses ts (start_checks (thesis_in ts x) (thesis_in ts y)) WrongForm
wrong_start ts x y h = (
  ap (λ b. cond b (first_refusal (left_checks_under zero (thesis_in ts x) (thesis_in ts y))) (Some reference.WrongForm))
      (unlike_under ts x.domains y.domains (claim_in ts x.form) (claim_in ts y.form) (other_form ts x.form y.form h)),
  tt,
)

-- The equation d starts at the claim c where it fits the goal g.
record StartsAsFits (c d g : Claim) : Type 0 where
  form : is_equation_for c d ≡ same_form (boundary_of_claim d) g
  checks : (n : ℕ) → first_refusal (left_checks n c d) ≡ first_refusal (goal_checks n (boundary_of_claim d) g)

same_side_passes : (n : ℕ) (e : Expression) → None ≡ first_refusal (side_check n e e ∷ [])
same_side_passes n e = sym (ap (λ b. cond b None (Some (reference.SidesDiffer (differ_at n e e)))) (expression_self e))

claims_start : (ts : List Expression) (f g : Form) (b : Goal) (r : ℕ) → start_of f g ≡ Some (b, r) → StartsAsFits (claim_in ts f) (claim_in ts g) (goal_in ts b)
claims_start ts =
    by_start (λ f g b r. StartsAsFits (claim_in ts f) (claim_in ts g) (goal_in ts b))
    (λ A B C. record {
      form = refl;
      checks = λ n. ap (λ o. cond (equal_expressions (tree ts B) (tree ts A)) o (Some (reference.SidesDiffer (differ_at n (tree ts B) (tree ts A))))) (same_side_passes n (tree ts C));
    })
    (λ t A s u B. record {
      form = refl;
      checks = λ n. ap
          (λ o. cond (equal_expressions (tree ts B) (tree ts A)) (cond (equal_expressions (tree ts s) (tree ts t)) o (Some (reference.SidesDiffer (differ_at n (tree ts s) (tree ts t))))) (Some (reference.TypeDiffers (differ_at n (tree ts B) (tree ts A)))))
          (same_side_passes n (tree ts u));
    })

alike_under : (ts : List Expression) (As Bs : List ℕ) (c d g : Claim) → StartsAsFits c d g → is_equation_of (under ts As (plain c)) (under ts Bs (plain d)) ≡ is_alike (boundary_of (under ts Bs (plain d))) (under ts As (plain g))
alike_under ts [] [] c d g h = h.form
alike_under ts [] (B ∷ Bs) c d g h = refl
alike_under ts (A ∷ As) [] c d g h = refl
alike_under ts (A ∷ As) (B ∷ Bs) c d g h = alike_under ts As Bs c d g h

checks_under : (ts : List Expression) (n : ℕ) (As Bs : List ℕ) (c d g : Claim) → StartsAsFits c d g
    → first_refusal (left_checks_under n (under ts As (plain c)) (under ts Bs (plain d))) ≡ first_refusal (domain_checks n (boundary_of (under ts Bs (plain d))) (under ts As (plain g)))
checks_under ts n [] [] c d g h = h.checks n
checks_under ts n [] (B ∷ Bs) c d g h = refl
checks_under ts n (A ∷ As) [] c d g h = refl
checks_under ts n (A ∷ As) (B ∷ Bs) c d g h =
    ap (λ o. cond (equal_expressions (tree ts B) (tree ts A)) o (Some (reference.TypeDiffers (differ_at n (tree ts B) (tree ts A))))) (checks_under ts (suc n) As Bs c d g h)

starts_as_fits : (ts : List Expression) (x y : Thesis) (b : Boundary) (r : ℕ) → start_of x.form y.form ≡ Some (b.goal, r) → b.domains ≡ x.domains
    → first_refusal (start_checks (thesis_in ts x) (thesis_in ts y)) ≡ first_refusal (fit_checks (thesis_in ts y) (boundary_in ts b))
starts_as_fits ts x y b r h e =
    ap₂ (λ a o. cond a o (Some reference.WrongForm)) (alike_under ts x.domains y.domains (claim_in ts x.form) (claim_in ts y.form) (goal_in ts b.goal) same)
    (checks_under ts zero x.domains y.domains (claim_in ts x.form) (claim_in ts y.form) (goal_in ts b.goal) same)
    ∙ ap (λ ds. first_refusal (fit_checks (thesis_in ts y) (under ts ds (plain (goal_in ts b.goal))))) (sym e)
  where
    same : StartsAsFits (claim_in ts x.form) (claim_in ts y.form) (goal_in ts b.goal)
    same = claims_start ts x.form y.form b.goal r h

-- The goal is of the table.
goal_below : (n : ℕ) (f g : Form) (b : Goal) (r : ℕ) → start_of f g ≡ Some (b, r) → FormBelow n f → FormBelow n g → GoalBelow n b × (r < n)
goal_below n = by_start (λ f g b r. FormBelow n f → FormBelow n g → GoalBelow n b × (r < n)) (λ A B C h k. ((h, k.1), k.1)) (λ t A s u B h k. ((h.0, k.1, h.1), k.1))

pub start_below : (n : ℕ) (x y : Thesis) (b : Boundary) (r : ℕ) → start_of x.form y.form ≡ Some (b.goal, r) → b.domains ≡ x.domains → ThesisBelow n x → ThesisBelow n y → BoundaryBelow n b
start_below n x y b r h e k l = (subst (Rattle.ft_syntax.specs.Table.AllBelow n) (sym e) k.0, (goal_below n x.form y.form b.goal r h k.1 l.1).0)

pub side_below : (n : ℕ) (x y : Thesis) (b : Goal) (r : ℕ) → start_of x.form y.form ≡ Some (b, r) → ThesisBelow n x → ThesisBelow n y → r < n
side_below n x y b r h k l = (goal_below n x.form y.form b r h k.1 l.1).1

-- What is found out of two entries.
pub start_wrong : (s : State) (j e : ℕ) (x y : Thesis) → statement_at s j ≡ Some (thesis_in s.trees x) → statement_at s e ≡ Some (thesis_in s.trees y) → start_of x.form y.form ≡ None
    → Refuses s.trees (start_checks (entry_of s.items j).statement (entry_of s.items e).statement) WrongForm
start_wrong s j e x y h k n =
    subst (λ cs. Refuses s.trees cs WrongForm) (ap₂ start_checks (sym (statement_found s j (thesis_in s.trees x) h)) (sym (statement_found s e (thesis_in s.trees y) k))) (wrong_start s.trees x y n)

pub start_tested : (s : State) (j e : ℕ) (x y : Thesis) (b : Boundary) (r : ℕ) (q : Result ⊤ Refusal) → statement_at s j ≡ Some (thesis_in s.trees x) → statement_at s e ≡ Some (thesis_in s.trees y)
    → start_of x.form y.form ≡ Some (b.goal, r) → b.domains ≡ x.domains → Tests s.trees (fit_checks (thesis_in s.trees y) (boundary_in s.trees b)) q
    → Tests s.trees (start_checks (entry_of s.items j).statement (entry_of s.items e).statement) q
start_tested s j e x y b r q h k m d t = go q t
  where
    same : first_refusal (start_checks (entry_of s.items j).statement (entry_of s.items e).statement) ≡ first_refusal (fit_checks (thesis_in s.trees y) (boundary_in s.trees b))
    same =
        ap₂ (λ X E. first_refusal (start_checks X E)) (statement_found s j (thesis_in s.trees x) h) (statement_found s e (thesis_in s.trees y) k)
        ∙ starts_as_fits s.trees x y b r m d

    go : (q : Result ⊤ Refusal) → Tests s.trees (fit_checks (thesis_in s.trees y) (boundary_in s.trees b)) q → Tests s.trees (start_checks (entry_of s.items j).statement (entry_of s.items e).statement) q
    go (Ok z) t = same ∙ t
    go (Err f) t = (same ∙ t.0, t.1)

-- The right side, as an argument.
right_under : (ts : List Expression) (Bs : List ℕ) (d : Claim) → right_head (under ts Bs (plain d)) ≡ right_of_claim d
right_under ts [] d = refl
right_under ts (B ∷ Bs) d = right_under ts Bs d

right_claim : (ts : List Expression) (f g : Form) (b : Goal) (r : ℕ) → start_of f g ≡ Some (b, r) → tree ts r ≡ right_of_claim (claim_in ts g)
right_claim ts = by_start (λ f g b r. tree ts r ≡ right_of_claim (claim_in ts g)) (λ A B C. refl) (λ t A s u B. refl)

pub right_is : (s : State) (j e : ℕ) (x y : Thesis) (b : Goal) (r n : ℕ) → statement_at s j ≡ Some (thesis_in s.trees x) → statement_at s e ≡ Some (thesis_in s.trees y)
    → start_of x.form y.form ≡ Some (b, r) → n ≡ length x.domains → ◌≡◌ {A = Argument} (n, Some (tree s.trees r)) (domain_count (entry_of s.items j).statement, Some (right_head (entry_of s.items e).statement))
right_is s j e x y b r n h k m c =
    ap₂ (λ n e. (n, Some e))
    (c ∙ sym (count_under s.trees x.domains (claim_in s.trees x.form)) ∙ ap domain_count (sym (statement_found s j (thesis_in s.trees x) h)))
    (right_claim s.trees x.form y.form b r m ∙ sym (right_under s.trees y.domains (claim_in s.trees y.form)) ∙ ap right_head (sym (statement_found s e (thesis_in s.trees y) k)))

-- A thesis and the equations that are left.
pub head_told : (ts : List Expression) (a : Arg) (x : Statement) → argument_in ts a ≡ head_argument x → is_some a.body ≡ has_head x
head_told ts a x h = body (option_map (tree ts) a.body) ∙ ap (λ (p : Argument). is_some p.1) h ∙ ap is_some (statement_head x) ∙ chosen (has_head x)
  where
    body : (o : Option Expression) → is_some a.body ≡ is_some (option_map (tree ts) a.body)
    body o = go a.body
      where
        go : (o : Option ℕ) → is_some o ≡ is_some (option_map (tree ts) o)
        go None = refl
        go (Some e) = refl

    chosen : (b : Bool) → is_some (cond b (Some (Rattle.ft_items.specs.Equal.head x)) None) ≡ b
    chosen true = refl
    chosen false = refl

-- without a head
pub right_none : (ts : List Expression) (a : Arg) (x : Statement) (es : List Statement) → argument_in ts a ≡ head_argument x → has_head x ≡ false → argument_in ts a ≡ next_right x es
right_none ts a x es h n = h ∙ ap (λ o. (domain_count x, o)) (statement_head x ∙ ap (λ b. cond b (Some (Rattle.ft_items.specs.Equal.head x)) None) n) ∙ go es
  where
    go : (es : List Statement) → ◌≡◌ {A = Argument} (domain_count x, None) (next_right x es)
    go [] = refl
    go (e ∷ es) = sym (ap (λ b. (domain_count x, cond b (Some (right_head e)) None)) n)

pub later_same : (x : Statement) (es : List Statement) → has_head x ≡ false → es ≡ later_equations x es
later_same x [] n = refl
later_same x (e ∷ es) n = sym (ap (λ b. cond b es (e ∷ es)) n)

pub none_checked : (x : Statement) (es : List Statement) → has_head x ≡ false → first_refusal (next_checks x es) ≡ None
none_checked x [] n = refl
none_checked x (e ∷ es) n = ap (λ b. first_refusal (cond b (start_checks x e) [])) n

-- with a head
pub first_left : (items : List Item) (ks : List ℕ) (n k : ℕ) → n < length ks → k ≡ get_or ks n k → statements_from items n ks ≡ (entry_of items k).statement ∷ statements_from items (suc n) ks
first_left items ks n k l e = ap (statements_of items) (drop_one ks n k l e)

pub right_some : (x e : Statement) (es fs : List Statement) (p : Argument) → p ≡ (domain_count x, Some (right_head e)) → has_head x ≡ true → es ≡ e ∷ fs → p ≡ next_right x es
right_some x e es fs p h y q = h ∙ sym (ap (λ b. (domain_count x, cond b (Some (right_head e)) None)) y) ∙ ap (next_right x) (sym q)

pub later_next : (x e : Statement) (es fs : List Statement) → has_head x ≡ true → es ≡ e ∷ fs → fs ≡ later_equations x es
later_next x e es fs y q = sym (ap (λ b. cond b fs (e ∷ fs)) y) ∙ ap (later_equations x) (sym q)

pub next_checked : (x e : Statement) (es fs : List Statement) → has_head x ≡ true → es ≡ e ∷ fs → start_checks x e ≡ next_checks x es
next_checked x e es fs y q = sym (ap (λ b. cond b (start_checks x e) []) y) ∙ ap (next_checks x) (sym q)

-- all of them
abbrev rights : List Statement → List Statement → List Argument
rights [] es = []
rights (x ∷ xs) es = next_right x es ∷ rights xs (later_equations x es)

rights_listed : (xs es : List Statement) → as_arguments (rights xs es) ≡ right_heads xs es
rights_listed [] es = refl
rights_listed (x ∷ xs) [] = ap (dummy (domain_count x)) (rights_listed xs [])
rights_listed (x ∷ xs) (e ∷ es) = go (has_head x) (rights_listed xs es) (rights_listed xs (e ∷ es))
  where
    go : (b : Bool) → as_arguments (rights xs es) ≡ right_heads xs es → as_arguments (rights xs (e ∷ es)) ≡ right_heads xs (e ∷ es)
        → with_argument (domain_count x, cond b (Some (right_head e)) None) (as_arguments (rights xs (cond b es (e ∷ es))))
        ≡ cond b (with_body (domain_count x) (right_head e) (right_heads xs es)) (dummy (domain_count x) (right_heads xs (e ∷ es)))
    go true here later = ap (with_body (domain_count x) (right_head e)) here
    go false here later = ap (dummy (domain_count x)) later

no_equations : (xs : List Statement) → first_refusal (equation_checks xs []) ≡ None
no_equations [] = refl
no_equations (x ∷ xs) = refl

checks_next : (x : Statement) (xs es : List Statement) → first_refusal (equation_checks (x ∷ xs) es) ≡ first_of (first_refusal (next_checks x es)) (first_refusal (equation_checks xs (later_equations x es)))
checks_next x xs [] = sym (no_equations xs)
checks_next x xs (e ∷ es) = go (has_head x)
  where
    go : (b : Bool) → first_refusal (cond b (start_checks x e ++ equation_checks xs es) (equation_checks xs (e ∷ es)))
        ≡ first_of (first_refusal (cond b (start_checks x e) [])) (first_refusal (equation_checks xs (cond b es (e ∷ es))))
    go true = first_append (start_checks x e) (equation_checks xs es)
    go false = refl

count_next : (x : Statement) (xs es : List Statement) → length es ≡ head_count (x ∷ xs) → length (later_equations x es) ≡ head_count xs
count_next x xs [] h = go (has_head x) h
  where
    go : (b : Bool) → zero ≡ cond b (suc (head_count xs)) (head_count xs) → zero ≡ head_count xs
    go true h = absurd (omega (arith, h))
    go false h = h
count_next x xs (e ∷ es) h = go (has_head x) h
  where
    go : (b : Bool) → suc (length es) ≡ cond b (suc (head_count xs)) (head_count xs) → length (cond b es (e ∷ es)) ≡ head_count xs
    go true h = omega (arith, h)
    go false h = h

-- The loop over the theses: what is left decides.
pub record Starting (s : State) (js ks : List ℕ) (i n : ℕ) (found : List Arg) : Type 0 where
  pub count : length (statements_from s.items n ks) ≡ head_count (statements_from s.items i js)
  pub rest : first_refusal (equation_checks (statements_of s.items js) (statements_of s.items ks)) ≡ first_refusal (equation_checks (statements_from s.items i js) (statements_from s.items n ks))
  pub done : as_arguments (map (argument_in s.trees) found ++ rights (statements_from s.items i js) (statements_from s.items n ks)) ≡ right_heads (statements_of s.items js) (statements_of s.items ks)
  pub below : ArgumentsBelow (length s.trees) found
  pub long : length found ≡ i

pub starting_start : (s : State) (js ks : List ℕ) → length ks ≡ head_count (statements_of s.items js) → Starting s js ks 0 0 []
starting_start s js ks h = record { count = as_many s.items ks ∙ h; rest = refl; done = rights_listed (statements_of s.items js) (statements_of s.items ks); below = tt; long = refl }

-- where the next thesis has a head, an equation is left
pub starting_there : (s : State) (js ks : List ℕ) (i n j : ℕ) (found : List Arg) → Starting s js ks i n found → i < length js → j ≡ get_or js i j → has_head (entry_of s.items j).statement ≡ true → n < length ks
starting_there s js ks i n j found p l e h =
    let one : head_count (statements_from s.items i js) ≡ suc (head_count (statements_from s.items (suc i) js)) =
    ap head_count (first_left s.items js i j l e) ∙ ap (λ b. cond b (suc (head_count (statements_from s.items (suc i) js))) (head_count (statements_from s.items (suc i) js))) h in
    let left : length (statements_from s.items n ks) ≡ length ks - n = as_many s.items (drop n ks) ∙ length-drop n ks in
    let count : length (statements_from s.items n ks) ≡ head_count (statements_from s.items i js) = p.count in
    omega (arith, one, left, count)

pub starting_more : (s : State) (js ks : List ℕ) (i n m j : ℕ) (a : Arg) (found more : List Arg) → Starting s js ks i n found → i < length js → j ≡ get_or js i j
    → argument_in s.trees a ≡ next_right (entry_of s.items j).statement (statements_from s.items n ks) → BodyBelow (length s.trees) a.body
    → statements_from s.items m ks ≡ later_equations (entry_of s.items j).statement (statements_from s.items n ks)
    → first_refusal (next_checks (entry_of s.items j).statement (statements_from s.items n ks)) ≡ None → more ≡ found ++ a ∷ [] → Starting s js ks (suc i) m more
starting_more s js ks i n m j a found more p l e r b u h k = subst (Starting s js ks (suc i) m) (sym k) (record {
  count = ap length u ∙ count_next X Xs Es (p.count ∙ ap head_count here);
  rest =
      p.rest
      ∙ ap (λ xs. first_refusal (equation_checks xs Es)) here
      ∙ checks_next X Xs Es
      ∙ ap (λ o. first_of o (first_refusal (equation_checks Xs (later_equations X Es)))) h
      ∙ ap (λ es. first_refusal (equation_checks Xs es)) (sym u);
  done =
      ap (λ as'. as_arguments (as' ++ rights Xs (statements_from s.items m ks))) (map-append (argument_in s.trees) found (a ∷ []))
      ∙ ap as_arguments (append_assoc (map (argument_in s.trees) found) (argument_in s.trees a ∷ []) (rights Xs (statements_from s.items m ks)))
      ∙ ap₂ (λ y es. as_arguments (map (argument_in s.trees) found ++ y ∷ rights Xs es)) r u
      ∙ ap (λ xs. as_arguments (map (argument_in s.trees) found ++ rights xs Es)) (sym here)
      ∙ p.done;
  below = arguments_push (length s.trees) found a p.below b;
  long = length_push found a ∙ ap suc p.long;
})
  where
    X : Statement
    X = (entry_of s.items j).statement

    Xs : List Statement
    Xs = statements_from s.items (suc i) js

    Es : List Statement
    Es = statements_from s.items n ks

    here : statements_from s.items i js ≡ X ∷ Xs
    here = first_left s.items js i j l e

pub starting_fault : (s : State) (js ks : List ℕ) (i n j : ℕ) (found : List Arg) (f : Fault) → Starting s js ks i n found → i < length js → j ≡ get_or js i j
    → Stops s.trees (next_checks (entry_of s.items j).statement (statements_from s.items n ks)) f → Stops s.trees (equation_checks (statements_of s.items js) (statements_of s.items ks)) f
starting_fault s js ks i n j found (Refused q) p l e h = (
  p.rest
      ∙ ap (λ xs. first_refusal (equation_checks xs (statements_from s.items n ks))) (first_left s.items js i j l e)
      ∙ checks_next (entry_of s.items j).statement (statements_from s.items (suc i) js) (statements_from s.items n ks)
      ∙ ap (λ o. first_of o (first_refusal (equation_checks (statements_from s.items (suc i) js) (later_equations (entry_of s.items j).statement (statements_from s.items n ks))))) h.0,
  h.1,
)
starting_fault s js ks i n j found Memory p l e h = tt

-- at the end
none_left : (s : State) (js : List ℕ) (i : ℕ) → length js ≤ i → statements_from s.items i js ≡ []
none_left s js i l = ap (statements_of s.items) (drop_of_length-le js l)

pub starting_end : (s : State) (js ks : List ℕ) (i n : ℕ) (found : List Arg) → Starting s js ks i n found → length js ≤ i → first_refusal (equation_checks (statements_of s.items js) (statements_of s.items ks)) ≡ None
starting_end s js ks i n found p l = p.rest ∙ ap (λ xs. first_refusal (equation_checks xs (statements_from s.items n ks))) (none_left s js i l)

pub starting_heads : (s : State) (js ks : List ℕ) (i n : ℕ) (found : List Arg) → Starting s js ks i n found → length js ≤ i → arguments_in s.trees found ≡ right_heads (statements_of s.items js) (statements_of s.items ks)
starting_heads s js ks i n found p l =
    ap as_arguments (sym (append-nil (map (argument_in s.trees) found)))
    ∙ ap (λ xs. as_arguments (map (argument_in s.trees) found ++ rights xs (statements_from s.items n ks))) (sym (none_left s js i l))
    ∙ p.done

-- The count of those with a head.
pub record Counting (items : List Item) (js : List ℕ) (i n : ℕ) : Type 0 where
  pub done : n + head_count (statements_from items i js) ≡ head_count (statements_of items js)
  pub within : n ≤ i

pub counting_start : (items : List Item) (js : List ℕ) → Counting items js 0 0
counting_start items js = record { done = omega arith; within = omega arith }

pub counting_head : (items : List Item) (js : List ℕ) (i n j : ℕ) → Counting items js i n → i < length js → j ≡ get_or js i j → has_head (entry_of items j).statement ≡ true → Counting items js (suc i) (suc n)
counting_head items js i n j p l e h =
    let one : head_count (statements_from items i js) ≡ suc (head_count (statements_from items (suc i) js)) =
    ap head_count (first_left items js i j l e) ∙ ap (λ b. cond b (suc (head_count (statements_from items (suc i) js))) (head_count (statements_from items (suc i) js))) h in
    let done : n + head_count (statements_from items i js) ≡ head_count (statements_of items js) = p.done in
    let within : n ≤ i = p.within in
    record { done = omega (arith, one, done); within = omega (arith, within) }

pub counting_other : (items : List Item) (js : List ℕ) (i n j : ℕ) → Counting items js i n → i < length js → j ≡ get_or js i j → has_head (entry_of items j).statement ≡ false → Counting items js (suc i) n
counting_other items js i n j p l e h =
    let same : head_count (statements_from items i js) ≡ head_count (statements_from items (suc i) js) =
    ap head_count (first_left items js i j l e) ∙ ap (λ b. cond b (suc (head_count (statements_from items (suc i) js))) (head_count (statements_from items (suc i) js))) h in
    let done : n + head_count (statements_from items i js) ≡ head_count (statements_of items js) = p.done in
    let within : n ≤ i = p.within in
    record { done = omega (arith, same, done); within = omega (arith, within) }

pub counting_end : (items : List Item) (js : List ℕ) (i n : ℕ) → Counting items js i n → length js ≤ i → n ≡ head_count (statements_of items js)
counting_end items js i n p l =
    let done : n + head_count (statements_from items i js) ≡ head_count (statements_of items js) = p.done in
    let none : head_count (statements_from items i js) ≡ 0 = ap (λ ks. head_count (statements_of items ks)) (drop_of_length-le js l) in
    omega (arith, done, none)

-- Another count than that of the heads.
pub starts_counted : (s : State) (ts : List Expression) (js ks : List ℕ) (w : ℕ) → w ≡ head_count (statements_of s.items js) → length ks ≢ w
    → Stops ts (all_equation_checks (statements_of s.items js) (statements_of s.items ks)) (Refused (ArgumentCount (length ks) w))
starts_counted s ts js ks w e n = (
  ap (λ b. cond b (first_refusal (equation_checks xs es)) (Some (reference.ArgumentCount (length es) (head_count xs)))) (ne_eqb (length es) (head_count xs) (λ h. n (sym (as_many s.items ks) ∙ h ∙ sym e)))
      ∙ ap₂ (λ a b. Some (reference.ArgumentCount a b)) (as_many s.items ks) (sym e),
  tt,
)
  where
    xs : List Statement
    xs = statements_of s.items js

    es : List Statement
    es = statements_of s.items ks

pub starts_asked : (s : State) (js ks : List ℕ) (w : ℕ) → w ≡ head_count (statements_of s.items js) → length ks ≡ w
    → first_refusal (all_equation_checks (statements_of s.items js) (statements_of s.items ks)) ≡ first_refusal (equation_checks (statements_of s.items js) (statements_of s.items ks))
starts_asked s js ks w e n =
    ap (λ b. cond b (first_refusal (equation_checks xs es)) (Some (reference.ArgumentCount (length es) (head_count xs)))) (eq-eqb (length es) (head_count xs) (as_many s.items ks ∙ n ∙ e))
  where
    xs : List Statement
    xs = statements_of s.items js

    es : List Statement
    es = statements_of s.items ks
