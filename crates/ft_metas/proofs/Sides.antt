-- The right sides of plain equations.
use Rattle.std.proofs.Common.{◌≡◌, ◌∙◌, ℕ, zero, suc, ◌<◌, ◌≤◌, Bool, true, false, cond, nat_eq, Some, None, List, [], ◌∷◌, ◌++◌, length, drop, get_or, map, refl, sym, ap, ap₂, subst, arith, append-nil, append_assoc, drop_of_length-le}
use Rattle.std.proofs.lemmas.List.{map-append}
use Rattle.ft_common.proofs.Booleans.{true_false}
use Rattle.ft_common.proofs.Options.{none_some}
use Rattle.ft_theory.specs.Expressions.{Expression, also, meta}
use Rattle.ft_theory.specs.Small.{IsSmall, is_small}
use Rattle.ft_theory.specs.Statements.{Claim, is_type, has_type, equal_types, equal_terms, type_goal, term_goal, type_equation_goal, term_equation_goal, Statement, plain, opened, domain, domain_count, equate_goal}
use Rattle.ft_items.specs.Equal.{equal_expressions, right_head, right_terms, is_object_goal}
use Rattle.ft_items.specs.Item.{Item}
use Rattle.ft_reference.specs.Refusals as reference
use Rattle.ft_reference.specs.Refusals.{Check, asks, forms, first_refusal, AllSmall, claim_expressions}
use Rattle.ft_reference.specs.Compare.{differ_at, type_check, pair_checks}
use Rattle.ft_syntax.specs.Table.{tree, terms_in, Extends, AllBelow}
use Rattle.ft_syntax.specs.Laws.{all_push, extends_trans, tree_extends}
use Rattle.ft_syntax.specs.declared.syntax.SynFault.{SynFault}
use Rattle.ft_syntax.specs.declared.syntax.SynFault.TheVariants as syntax
use Rattle.ft_judge.specs.Meaning.{claim_in, goal_in, under, thesis_in, GoalBelow}
use Rattle.ft_judge.specs.Laws.{goal_extends}
use Rattle.ft_judge.specs.declared.judgement.Goal.{Goal}
use Rattle.ft_judge.specs.declared.judgement.Goal.TheVariants as goal
use Rattle.ft_judge.specs.declared.judgement.Form.{Form}
use Rattle.ft_judge.specs.declared.judgement.Form.TheVariants.{Ty, Tm, EqTy, EqTm}
use Rattle.ft_judge.specs.declared.judgement.Thesis.{Thesis}
use Rattle.ft_kernel.specs.State.{State, statement_at}
use Rattle.ft_metas.specs.Named.{entry_of, statements_of}
use Rattle.ft_metas.specs.Outcomes.{BigOr}
use Rattle.ft_metas.specs.Putting.{terms_of, meta_in, equated_at, IsObjectOver, IsEquationOf}
use Rattle.ft_metas.specs.Operands.{operand_in, all_checks, IsPlainEquation, AreEquations}
use Rattle.ft_metas.specs.declared.operands.Given.TheVariants as given
use Rattle.ft_metas.proofs.At.{terms_listed}
use Rattle.ft_metas.proofs.Applied.{terms_extend}
use Rattle.ft_metas.proofs.Naming.{statement_found}
use Rattle.ft_metas.proofs.Places.{drop_one}

-- the checks after one that passed
after_asks : (b : Bool) (r : reference.Refusal) (cs : List Check) → first_refusal (asks b r ∷ cs) ≡ None → first_refusal cs ≡ None
after_asks true r cs h = h
after_asks false r cs h = let clash : Some r ≡ None = h in cc

after_forms : (e : Expression) (cs : List Check) → first_refusal (forms e ∷ cs) ≡ None → first_refusal cs ≡ None
after_forms e cs h = go (is_small e) h
  where
    go : (b : Bool) → cond b (first_refusal cs) (Some reference.TooBig) ≡ None → first_refusal cs ≡ None
    go true h = h
    go false h = let clash : Some reference.TooBig ≡ None = h in cc

-- what passes the checks of equations is one
pairs_are : (b : Statement) (xs : List Statement) → first_refusal (pair_checks b xs) ≡ None → AreEquations xs
pairs_are b [] h = tt
pairs_are b (plain (equal_terms s t A) ∷ xs) h =
    let more : List Check = pair_checks (opened s b) xs in
    let typed : first_refusal (type_check zero A (domain b) ∷ more) ≡ None = after_forms (domain b) (type_check zero A (domain b) ∷ more) h in
    (((s, A), refl), pairs_are (opened s b) xs (after_asks (equal_expressions A (domain b)) (reference.TypeDiffers (differ_at zero A (domain b))) more typed))
pairs_are b (x ∷ xs) h = let clash : Some reference.WrongForm ≡ None = h in cc

pub equations_are : (b : Statement) (xs : List Statement) → first_refusal (all_checks given.Equations b xs) ≡ None → AreEquations xs
equations_are b xs h = pairs_are b xs (after_asks (nat_eq (length xs) (domain_count b)) (reference.ArgumentCount (length xs) (domain_count b)) (pair_checks b xs) h)

-- one of several
pub equation_at : (items : List Item) (js : List ℕ) (i j : ℕ) → AreEquations (statements_of items js) → i < length js → j ≡ get_or js i j → IsPlainEquation (entry_of items j).statement
equation_at items [] i j h l e = absurd (omega arith)
equation_at items (k ∷ js) zero j h l e = subst (λ k. IsPlainEquation (entry_of items k).statement) (sym e) h.0
equation_at items (k ∷ js) (suc i) j h l e = let m : i < length js = omega arith in equation_at items js i j h.1 m e

-- the right side, as it is read
right_under : (ts : List Expression) (ds : List ℕ) (x : Statement) → right_head (under ts ds x) ≡ right_head x
right_under ts [] x = refl
right_under ts (d ∷ ds) x = right_under ts ds x

pub right_read : (s : State) (j l r A : ℕ) (y : Thesis) → statement_at s j ≡ Some (thesis_in s.trees y) → y.form ≡ EqTm l r A → tree s.trees r ≡ right_head (entry_of s.items j).statement
right_read s j l r A y h e =
    ap (λ f. right_head (plain (claim_in s.trees f))) (sym e)
    ∙ sym (right_under s.trees y.domains (plain (claim_in s.trees y.form)))
    ∙ ap right_head (sym (statement_found s j (thesis_in s.trees y) h))

-- another form is no equation of terms
no_pair : (ts : List Expression) (ds : List ℕ) (f : Form) (p : Expression × Expression) → ((l r A : ℕ) → f ≡ EqTm l r A → ⊥) → operand_in given.Equations (under ts ds (plain (claim_in ts f))) ≡ Some p → ⊥
no_pair ts (d ∷ ds) f p n h = none_some h
no_pair ts [] (Ty A) p n h = none_some h
no_pair ts [] (Tm t A) p n h = none_some h
no_pair ts [] (EqTy A B) p n h = none_some h
no_pair ts [] (EqTm l r A) p n h = n l r A refl

pub is_equation : (s : State) (j : ℕ) (y : Thesis) → statement_at s j ≡ Some (thesis_in s.trees y) → IsPlainEquation (entry_of s.items j).statement → ((l r A : ℕ) → y.form ≡ EqTm l r A → ⊥) → ⊥
is_equation s j y h p n = no_pair s.trees y.domains y.form p.0 n (ap (operand_in given.Equations) (sym (statement_found s j (thesis_in s.trees y) h)) ∙ p.1)

-- the loop over the right sides: those found and those to come are all
pub record Siding (s : State) (js : List ℕ) (i : ℕ) (found : List ℕ) : Type 0 where
  pub below : AllBelow (length s.trees) found
  pub done : map (tree s.trees) found ++ map right_head (statements_of s.items (drop i js)) ≡ map right_head (statements_of s.items js)

pub siding_start : (s : State) (js : List ℕ) → Siding s js 0 []
siding_start s js = record { below = tt; done = refl }

pub siding_more : (s : State) (js : List ℕ) (i j r : ℕ) (found next : List ℕ) → Siding s js i found → i < length js → j ≡ get_or js i j → r < length s.trees → tree s.trees r ≡ right_head (entry_of s.items j).statement → next ≡ found ++ r ∷ [] → Siding s js (suc i) next
siding_more s js i j r found next p l g b e n = subst (Siding s js (suc i)) (sym n) (record {
  below = all_push (length s.trees) found r p.below b;
  done =
      ap (λ z. z ++ map right_head (statements_of s.items (drop (suc i) js))) (map-append (tree s.trees) found (r ∷ []) ∙ ap (λ y. map (tree s.trees) found ++ y ∷ []) e)
      ∙ append_assoc (map (tree s.trees) found) (right_head (entry_of s.items j).statement ∷ []) (map right_head (statements_of s.items (drop (suc i) js)))
      ∙ ap (λ ks. map (tree s.trees) found ++ map right_head (statements_of s.items ks)) (sym (drop_one js i j l g))
      ∙ p.done;
})

rights_listed : (xs : List Statement) → right_terms xs ≡ terms_of (map right_head xs)
rights_listed [] = refl
rights_listed (x ∷ xs) = ap (also (right_head x)) (rights_listed xs)

pub siding_end : (s : State) (js : List ℕ) (i : ℕ) (found : List ℕ) → Siding s js i found → length js ≤ i → terms_in s.trees found ≡ right_terms (statements_of s.items js)
siding_end s js i found p l =
    terms_listed s.trees found
    ∙ ap terms_of (sym (append-nil (map (tree s.trees) found)) ∙ ap (λ ks. map (tree s.trees) found ++ map right_head (statements_of s.items ks)) (sym (drop_of_length-le js l)) ∙ p.done)
    ∙ sym (rights_listed (statements_of s.items js))

-- The equation of an object goal.

pub left_part : (c : Claim) (e f : Expression) → is_object_goal c ≡ true → AllSmall (claim_expressions (equate_goal c e f)) → IsSmall e × IsSmall f
left_part type_goal e f o h = (h.0, h.1.0)
left_part (term_goal A) e f o h = (h.0, h.1.0)
left_part (is_type A) e f o h = true_false (sym o)
left_part (has_type t A) e f o h = true_false (sym o)
left_part (equal_types A B) e f o h = true_false (sym o)
left_part (equal_terms s t A) e f o h = true_false (sym o)
left_part (type_equation_goal A B) e f o h = true_false (sym o)
left_part (term_equation_goal s t A) e f o h = true_false (sym o)

pub parts_whole : (c : Claim) (e f : Expression) → AllSmall (claim_expressions c) → IsSmall e → IsSmall f → AllSmall (claim_expressions (equate_goal c e f))
parts_whole type_goal e f h i j = (i, (j, tt))
parts_whole (term_goal A) e f h i j = (i, (j, h))
parts_whole (type_equation_goal A B) e f h i j = h
parts_whole (term_equation_goal s t A) e f h i j = h
parts_whole (is_type A) e f h i j = h
parts_whole (has_type t A) e f h i j = h
parts_whole (equal_types A B) e f h i j = h
parts_whole (equal_terms s t A) e f h i j = h

-- what is too big where it is formed
pub fault_big : (P Q : Type 0) (f : SynFault) → (f ≡ syntax.TooBig → P → ⊥) → (Q → P) → BigOr Q f
fault_big P Q syntax.TooBig n k = λ q. n refl (k q)
fault_big P Q syntax.Memory n k = tt

-- a goal is that of a type or a term over each table, or over none
object_any : (ts us : List Expression) (g : Goal) → is_object_goal (goal_in ts g) ≡ is_object_goal (goal_in us g)
object_any ts us goal.Ty = refl
object_any ts us (goal.Tm A) = refl
object_any ts us (goal.EqTy A B) = refl
object_any ts us (goal.EqTm l r A) = refl

pub object_over : (us : List Expression) (g : Goal) (c : Claim) → goal_in us g ≡ c → is_object_goal c ≡ true → IsObjectOver g true
object_over us g c e h ts = object_any ts us g ∙ ap is_object_goal e ∙ h

pub no_object : (g : Goal) → IsObjectOver g true → (g ≡ goal.Ty → ⊥) → ((A : ℕ) → g ≡ goal.Tm A → ⊥) → ⊥
no_object goal.Ty h i j = i refl
no_object (goal.Tm A) h i j = j A refl
no_object (goal.EqTy A B) h i j = true_false (sym (h []))
no_object (goal.EqTm l r A) h i j = true_false (sym (h []))

-- the equation over the last table is that over the first
pub equation_is : (s t u : List Expression) (g : Goal) (m : ℕ) (es fs : List ℕ) (l r : ℕ) (f : Form) → Extends s t → Extends t u → GoalBelow (length s) g → AllBelow (length s) fs → l < length t → IsEquationOf g l r f
    → tree t l ≡ meta_in s m es → tree u r ≡ meta_in t m fs → claim_in u f ≡ equated_at s g m es fs
equation_is s t u g m es fs l r f x y k b w e p q =
    e u
    ∙ ap₂ (λ c a. equate_goal c a (tree u r)) (goal_extends s u g (extends_trans s t u x y) k) (tree_extends t u l y w ∙ p)
    ∙ ap (equate_goal (goal_in s g) (meta_in s m es)) (q ∙ ap (meta m) (terms_extend s t fs x b))
