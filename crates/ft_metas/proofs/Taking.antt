-- Terms or equations for the domains of a boundary, one after the other.
use Rattle.std.proofs.Common.{◌≡◌, ◌≢◌, ◌∙◌, ◌⊎◌, inl, inr, ℕ, zero, suc, ◌<◌, ◌≤◌, true, false, cond, nat_eq, Option, Some, None, List, [], ◌∷◌, ◌++◌, length, drop, get_or, map, refl, sym, ap, ap₂, subst, append-nil, append_assoc, drop_of_length-le}
use Rattle.std.proofs.lemmas.Bool.{eq-eqb}
use Rattle.std.proofs.lemmas.Bool.Decides.{eqb_tells}
use Rattle.std.proofs.lemmas.List.{map-append}
use Rattle.std.proofs.lemmas.Option.{same_Some}
use Rattle.ft_common.proofs.Choices.{if_true, if_false}
use Rattle.ft_common.proofs.Options.{none_some}
use Rattle.ft_theory.specs.Expressions.{Expression, also}
use Rattle.ft_theory.specs.Small.{IsSmall, is_small}
use Rattle.ft_theory.specs.Statements.{Claim, has_type, equal_terms, Statement, plain, opened, domain, domain_count, at}
use Rattle.ft_items.specs.Equal.{equal_expressions, head, left_head}
use Rattle.ft_items.specs.Item.{Item}
use Rattle.ft_items.proofs.Smallness.{small_true}
use Rattle.ft_reference.specs.Refusals as reference
use Rattle.ft_reference.specs.Refusals.{Check, first_refusal}
use Rattle.ft_syntax.specs.Table.{tree, terms_in, Extends, AllBelow}
use Rattle.ft_syntax.specs.Laws.{trees_extend, all_below_extends, all_push}
use Rattle.ft_syntax.specs.declared.syntax.SynFault.{SynFault}
use Rattle.ft_syntax.specs.declared.syntax.SynFault.TheVariants as syntax
use Rattle.ft_judge.specs.Faults as faults
use Rattle.ft_judge.specs.Meaning.{claim_in, under, thesis_in}
use Rattle.ft_judge.specs.declared.judgement.Thesis.{Thesis}
use Rattle.ft_judge.specs.declared.fault.Refusal.{Refusal}
use Rattle.ft_judge.specs.declared.fault.Refusal.TheVariants as judge
use Rattle.ft_judge.specs.declared.fault.Fault.{Fault}
use Rattle.ft_judge.specs.declared.fault.Fault.TheVariants.{Refused, Memory}
use Rattle.ft_kernel.specs.State.{State, statement_at}
use Rattle.ft_calls.specs.Answers.{Stays}
use Rattle.ft_calls.specs.Forming.{equal_in, differ_at}
use Rattle.ft_calls.proofs.Declared.{stays_same}
use Rattle.ft_metas.specs.Named.{entry_of, statements_of}
use Rattle.ft_metas.specs.Outcomes.{BigOr, Stops}
use Rattle.ft_metas.specs.Putting.{terms_of, put_in}
use Rattle.ft_metas.specs.Operands.{operand_in, operand_of, operands_of, operand_checks, all_checks, type_checks, one_checks, StatesOperand, StatesNone}
use Rattle.ft_metas.specs.declared.operands.Given.{Given}
use Rattle.ft_metas.specs.declared.operands.Given.TheVariants as given
use Rattle.ft_metas.proofs.Asking.{both_pass, refused_first}
use Rattle.ft_metas.proofs.At.{at_push, count_under, domain_is, terms_listed}
use Rattle.ft_metas.proofs.Naming.{statement_found, as_many}
use Rattle.ft_metas.proofs.Places.{drop_one, length_push, stays_then}

-- The form of what is given.

around : (g : Given) (ts : List Expression) (ds : List ℕ) (x : Statement) → length ds ≢ 0 → operand_in g (under ts ds x) ≡ None
around g ts [] x n = absurd (n refl)
around given.Terms ts (d ∷ ds) x n = refl
around given.Equations ts (d ∷ ds) x n = refl

pub none_under : (g : Given) (y : Thesis) → length y.domains ≢ 0 → StatesNone g y
none_under g y n ts = around g ts y.domains (plain (claim_in ts y.form)) n

-- One that is given.

operand_is : (g : Given) (x : Statement) (p : Expression × Expression) → operand_in g x ≡ Some p → p.0 ≡ operand_of g x
operand_is given.Terms (plain (has_type t A)) p h = ap (λ (q : Expression × Expression). q.0) (sym (same_Some (t, A) p h))
operand_is given.Equations (plain (equal_terms s t A)) p h = ap (λ (q : Expression × Expression). q.0) (sym (same_Some (s, A) p h))
operand_is given.Terms x p h = none_some h
operand_is given.Equations x p h = none_some h

-- the checks of the first, and then those of the others
operand_step : (g : Given) (b x : Statement) (xs : List Statement) → first_refusal (operand_checks g b (x ∷ xs)) ≡ first_refusal (one_checks g (domain b) x ++ operand_checks g (opened (operand_of g x) b) xs)
operand_step given.Terms b (plain (has_type t A)) xs = refl
operand_step given.Equations b (plain (equal_terms s t A)) xs = refl
operand_step given.Terms b x xs = refl
operand_step given.Equations b x xs = refl

-- the statement of a thesis, as it is read
stated : (s : State) (j : ℕ) (y : Thesis) → statement_at s j ≡ Some (thesis_in s.trees y) → (entry_of s.items j).statement ≡ thesis_in s.trees y
stated s j y h = statement_found s j (thesis_in s.trees y) h

pub operand_read : (s : State) (g : Given) (j t A : ℕ) (y : Thesis) → statement_at s j ≡ Some (thesis_in s.trees y) → StatesOperand g y t A → tree s.trees t ≡ operand_of g (entry_of s.items j).statement
operand_read s g j t A y h p =
    let e : (entry_of s.items j).statement ≡ thesis_in s.trees y = stated s j y h in
    operand_is g (thesis_in s.trees y) (tree s.trees t, tree s.trees A) (p s.trees) ∙ ap (operand_of g) (sym e)

pub operand_wrong : (s : State) (g : Given) (D : Expression) (j : ℕ) (y : Thesis) (q : Refusal) → statement_at s j ≡ Some (thesis_in s.trees y) → StatesNone g y → q ≡ judge.WrongForm
    → Stops s.trees (one_checks g D (entry_of s.items j).statement) (Refused q)
operand_wrong s g D j y q h n same =
    subst (λ q. Stops s.trees (one_checks g D (entry_of s.items j).statement) (Refused q)) (sym same)
    (ap (λ o. first_refusal (type_checks D o)) (ap (operand_in g) (stated s j y h) ∙ n s.trees), tt)

-- the checks of one that has the form
one_checked : (s : State) (g : Given) (D : Expression) (j t A : ℕ) (y : Thesis) → statement_at s j ≡ Some (thesis_in s.trees y) → StatesOperand g y t A
    → first_refusal (one_checks g D (entry_of s.items j).statement) ≡ first_refusal (type_checks D (Some (tree s.trees t, tree s.trees A)))
one_checked s g D j t A y h p = ap (λ o. first_refusal (type_checks D o)) (ap (operand_in g) (stated s j y h) ∙ p s.trees)

pub domain_big : (s t : State) (g : Given) (D : Expression) (j v A : ℕ) (y : Thesis) (f : SynFault) → statement_at s j ≡ Some (thesis_in s.trees y) → StatesOperand g y v A → BigOr (IsSmall D) f
    → Stops t.trees (one_checks g D (entry_of s.items j).statement) (faults.refused f)
domain_big s t g D j v A y syntax.TooBig h p n = (one_checked s g D j v A y h p ∙ big D (first_refusal (reference.asks (equal_expressions (tree s.trees A) D) (reference.TypeDiffers (record { found = tree s.trees A; wanted = D; under = zero })) ∷ [])) n, tt)
  where
    big : (D : Expression) (o : Option reference.Refusal) → (IsSmall D → ⊥) → cond (is_small D) o (Some reference.TooBig) ≡ Some reference.TooBig
    big D o n = Rattle.ft_common.proofs.Choices.by_test (is_small D) (λ y. absurd (n (Rattle.ft_items.proofs.Smallness.true_small D y))) (λ f. if_false o (Some reference.TooBig) (is_small D) f)
domain_big s t g D j v A y syntax.Memory h p n = tt

-- after the domain is formed its type is compared
compared : (D A : Expression) → IsSmall D → (T : Expression) → first_refusal (type_checks D (Some (T, A))) ≡ cond (equal_expressions A D) None (Some (reference.TypeDiffers (record { found = A; wanted = D; under = zero })))
compared D A small T = if_true (cond (equal_expressions A D) None (Some (reference.TypeDiffers (record { found = A; wanted = D; under = zero })))) (Some reference.TooBig) (is_small D) (small_true D small)

pub type_other : (s t : State) (g : Given) (D : Expression) (j v A w : ℕ) (y : Thesis) (q : Refusal) → Extends s.trees t.trees → statement_at s j ≡ Some (thesis_in s.trees y) → StatesOperand g y v A → A < length s.trees → w < length t.trees
    → tree t.trees w ≡ D → IsSmall D → equal_in t.trees A w ≡ false → q ≡ judge.TypeDiffers (differ_at zero A w) → Stops t.trees (one_checks g D (entry_of s.items j).statement) (Refused q)
type_other s t g D j v A w y q x h p l m e small n same =
    let a : tree t.trees A ≡ tree s.trees A = Rattle.ft_syntax.specs.Laws.tree_extends s.trees t.trees A x l in
    subst (λ q. Stops t.trees (one_checks g D (entry_of s.items j).statement) (Refused q)) (sym same) (
      one_checked s g D j v A y h p
          ∙ compared D (tree s.trees A) small (tree s.trees v)
          ∙ ap₂ (λ A D. cond (equal_expressions A D) None (Some (reference.TypeDiffers (record { found = A; wanted = D; under = zero })))) (sym a) (sym e)
          ∙ if_false None (Some (reference.TypeDiffers (record { found = tree t.trees A; wanted = tree t.trees w; under = zero }))) (equal_in t.trees A w) n,
      (Rattle.ft_syntax.specs.Laws.below_extends s.trees t.trees A x l, m),
    )

pub type_same : (s t : State) (g : Given) (D : Expression) (j v A w : ℕ) (y : Thesis) → Extends s.trees t.trees → statement_at s j ≡ Some (thesis_in s.trees y) → StatesOperand g y v A → A < length s.trees
    → tree t.trees w ≡ D → IsSmall D → equal_in t.trees A w ≡ true → first_refusal (one_checks g D (entry_of s.items j).statement) ≡ None
type_same s t g D j v A w y x h p l e small k =
    let a : tree t.trees A ≡ tree s.trees A = Rattle.ft_syntax.specs.Laws.tree_extends s.trees t.trees A x l in
    one_checked s g D j v A y h p
    ∙ compared D (tree s.trees A) small (tree s.trees v)
    ∙ if_true None (Some (reference.TypeDiffers (record { found = tree s.trees A; wanted = D; under = zero }))) (equal_expressions (tree s.trees A) D) (ap₂ equal_expressions (sym a) (sym e) ∙ k)

-- The loop over what is given: what is left decides.

pub record Taking (s t : State) (g : Given) (b : Statement) (js : List ℕ) (i : ℕ) (found : List ℕ) : Type 0 where
  pub stays : Stays s t
  pub below : AllBelow (length t.trees) found
  pub long : length found ≡ i
  pub taken : map (tree t.trees) found ++ map (operand_of g) (statements_of s.items (drop i js)) ≡ map (operand_of g) (statements_of s.items js)
  pub rest : first_refusal (operand_checks g b (statements_of s.items js)) ≡ first_refusal (operand_checks g (at b (terms_of (map (tree t.trees) found))) (statements_of s.items (drop i js)))

pub taking_start : (s : State) (g : Given) (b : Statement) (js : List ℕ) → Taking s s g b js 0 []
taking_start s g b js = record { stays = stays_same s s refl; below = tt; long = refl; taken = refl; rest = refl }

-- the checks of what comes after the next one
abbrev later_checks : State → State → Given → List ℕ → Claim → List ℕ → ℕ → ℕ → List ℕ → List Check
later_checks s t g ds c js i j found =
    operand_checks g (opened (operand_of g (entry_of s.items j).statement) (at (under s.trees ds (plain c)) (terms_of (map (tree t.trees) found)))) (statements_of s.items (drop (suc i) js))

-- what is left, by the next one
next_rest : (s t : State) (g : Given) (ds : List ℕ) (c : Claim) (js : List ℕ) (i d j : ℕ) (found : List ℕ) → Taking s t g (under s.trees ds (plain c)) js i found → AllBelow (length s.trees) ds → i < length ds → d ≡ get_or ds i d → i < length js → j ≡ get_or js i j
    → first_refusal (operand_checks g (under s.trees ds (plain c)) (statements_of s.items js))
    ≡ first_refusal (one_checks g (put_in t.trees found d) (entry_of t.items j).statement ++ later_checks s t g ds c js i j found)
next_rest s t g ds c js i d j found p b l e m k =
    let B = at (under s.trees ds (plain c)) (terms_of (map (tree t.trees) found)) in
    let x = (entry_of s.items j).statement in
    p.rest
    ∙ ap (λ ks. first_refusal (operand_checks g B (statements_of s.items ks))) (drop_one js i j m k)
    ∙ operand_step g B x (statements_of s.items (drop (suc i) js))
    ∙ ap₂ (λ D items. first_refusal (one_checks g D (entry_of items j).statement ++ later_checks s t g ds c js i j found)) (domain_is s.trees t.trees ds c found i d p.stays.1 b p.long l e) (sym p.stays.0)

pub taking_more : (s t u : State) (g : Given) (ds : List ℕ) (c : Claim) (js : List ℕ) (i d j n : ℕ) (found next : List ℕ) → Taking s t g (under s.trees ds (plain c)) js i found → AllBelow (length s.trees) ds → i < length ds → d ≡ get_or ds i d → i < length js → j ≡ get_or js i j
    → Stays t u → n < length u.trees → tree u.trees n ≡ operand_of g (entry_of t.items j).statement → first_refusal (one_checks g (put_in t.trees found d) (entry_of t.items j).statement) ≡ None
    → next ≡ found ++ n ∷ [] → Taking s u g (under s.trees ds (plain c)) js (suc i) next
taking_more s t u g ds c js i d j n found next p b l e m k x w q h same = subst (Taking s u g (under s.trees ds (plain c)) js (suc i)) (sym same) (record {
  stays = stays_then s t u p.stays x;
  below = all_push (length u.trees) found n (all_below_extends t.trees u.trees found x.1 p.below) w;
  long = length_push found n ∙ ap suc p.long;
  taken =
      ap (λ z. z ++ map (operand_of g) (statements_of s.items (drop (suc i) js))) listed
      ∙ append_assoc (map (tree t.trees) found) (operand_of g (entry_of s.items j).statement ∷ []) (map (operand_of g) (statements_of s.items (drop (suc i) js)))
      ∙ ap (λ ks. map (tree t.trees) found ++ map (operand_of g) (statements_of s.items ks)) (sym (drop_one js i j m k))
      ∙ p.taken;
  rest =
      next_rest s t g ds c js i d j found p b l e m k
      ∙ both_pass (one_checks g (put_in t.trees found d) (entry_of t.items j).statement) (later_checks s t g ds c js i j found) h
      ∙ ap (λ B. first_refusal (operand_checks g B (statements_of s.items (drop (suc i) js))))
      (sym (at_push (map (tree t.trees) found) (operand_of g (entry_of s.items j).statement) (under s.trees ds (plain c))) ∙ ap (λ Ts. at (under s.trees ds (plain c)) (terms_of Ts)) (sym listed));
})
  where
    read : operand_of g (entry_of t.items j).statement ≡ operand_of g (entry_of s.items j).statement
    read = ap (λ items. operand_of g (entry_of items j).statement) p.stays.0

    listed : map (tree u.trees) (found ++ n ∷ []) ≡ map (tree t.trees) found ++ operand_of g (entry_of s.items j).statement ∷ []
    listed = map-append (tree u.trees) found (n ∷ []) ∙ ap₂ (λ ys y. ys ++ y ∷ []) (trees_extend t.trees u.trees found x.1 p.below) (q ∙ read)

pub taking_fault : (s t u : State) (g : Given) (ds : List ℕ) (c : Claim) (js : List ℕ) (i d j : ℕ) (found : List ℕ) (f : Fault) → Taking s t g (under s.trees ds (plain c)) js i found → AllBelow (length s.trees) ds → i < length ds → d ≡ get_or ds i d → i < length js → j ≡ get_or js i j
    → Stops u.trees (one_checks g (put_in t.trees found d) (entry_of t.items j).statement) f → Stops u.trees (operand_checks g (under s.trees ds (plain c)) (statements_of s.items js)) f
taking_fault s t u g ds c js i d j found (Refused q) p b l e m k h =
    let z = refused_first u.trees (one_checks g (put_in t.trees found d) (entry_of t.items j).statement) (later_checks s t g ds c js i j found) q h in
    (next_rest s t g ds c js i d j found p b l e m k ∙ z.0, z.1)
taking_fault s t u g ds c js i d j found Memory p b l e m k h = tt

none_left : (g : Given) (b : Statement) → first_refusal (operand_checks g b []) ≡ None
none_left given.Terms b = refl
none_left given.Equations b = refl

pub taking_end : (s t : State) (g : Given) (b : Statement) (js : List ℕ) (i : ℕ) (found : List ℕ) → Taking s t g b js i found → length js ≤ i → first_refusal (operand_checks g b (statements_of s.items js)) ≡ None
taking_end s t g b js i found p l =
    p.rest
    ∙ ap (λ ks. first_refusal (operand_checks g (at b (terms_of (map (tree t.trees) found))) (statements_of s.items ks))) (drop_of_length-le js l)
    ∙ none_left g (at b (terms_of (map (tree t.trees) found)))

operands_listed : (g : Given) (xs : List Statement) → operands_of g xs ≡ terms_of (map (operand_of g) xs)
operands_listed given.Terms [] = refl
operands_listed given.Terms (x ∷ xs) = ap (also (head x)) (operands_listed given.Terms xs)
operands_listed given.Equations [] = refl
operands_listed given.Equations (x ∷ xs) = ap (also (left_head x)) (operands_listed given.Equations xs)

pub taken_all : (s t : State) (g : Given) (b : Statement) (js : List ℕ) (i : ℕ) (found : List ℕ) → Taking s t g b js i found → length js ≤ i → terms_in t.trees found ≡ operands_of g (statements_of s.items js)
taken_all s t g b js i found p l =
    terms_listed t.trees found
    ∙ ap terms_of (sym (append-nil (map (tree t.trees) found)) ∙ ap (λ ks. map (tree t.trees) found ++ map (operand_of g) (statements_of s.items ks)) (sym (drop_of_length-le js l)) ∙ p.taken)
    ∙ sym (operands_listed g (statements_of s.items js))

-- The count.

pub counted_not : (ts us : List Expression) (items : List Item) (g : Given) (ds : List ℕ) (c : Claim) (js : List ℕ) → length js ≢ length ds
    → Stops us (all_checks g (under ts ds (plain c)) (statements_of items js)) (Refused (judge.ArgumentCount (length js) (length ds)))
counted_not ts us items g ds c js n = (
  ap (λ b. cond b (first_refusal (operand_checks g b' xs)) (Some (reference.ArgumentCount (length xs) (domain_count b')))) (other (eqb_tells (length xs) (domain_count b')))
      ∙ ap₂ (λ a b. Some (reference.ArgumentCount a b)) (as_many items js) (count_under ts ds c),
  tt,
)
  where
    xs : List Statement
    xs = statements_of items js

    b' : Statement
    b' = under ts ds (plain c)

    other : ((nat_eq (length xs) (domain_count b') ≡ true) × (length xs ≡ domain_count b')) ⊎ ((nat_eq (length xs) (domain_count b') ≡ false) × (length xs ≢ domain_count b')) → nat_eq (length xs) (domain_count b') ≡ false
    other (inl h) = absurd (n (sym (as_many items js) ∙ h.1 ∙ count_under ts ds c))
    other (inr h) = h.0

pub counted : (ts : List Expression) (items : List Item) (g : Given) (ds : List ℕ) (c : Claim) (js : List ℕ) → length js ≡ length ds
    → first_refusal (all_checks g (under ts ds (plain c)) (statements_of items js)) ≡ first_refusal (operand_checks g (under ts ds (plain c)) (statements_of items js))
counted ts items g ds c js e =
    if_true (first_refusal (operand_checks g (under ts ds (plain c)) (statements_of items js))) (Some (reference.ArgumentCount (length (statements_of items js)) (domain_count (under ts ds (plain c)))))
    (nat_eq (length (statements_of items js)) (domain_count (under ts ds (plain c))))
    (eq-eqb (length (statements_of items js)) (domain_count (under ts ds (plain c))) (as_many items js ∙ e ∙ sym (count_under ts ds c)))
