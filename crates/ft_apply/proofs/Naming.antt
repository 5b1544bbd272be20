-- What numbers of a list name, and the heads and sets of theses.
use Rattle.std.proofs.Common.{◌≡◌, ◌∙◌, ℕ, zero, suc, ◌-◌, ◌<◌, ◌≤◌, Bool, true, false, cond, ◌&&◌, Option, Some, None, List, [], ◌∷◌, ◌++◌, length, drop, get_or, map, refl, sym, ap, ap₂, subst, arith, append_assoc, append-nil, drop-cons, drop_of_length-le}
use Rattle.std.specs.Prelude.{option_map, option_and_then}
use Rattle.std.proofs.lemmas.List.{map-append}
use Rattle.ft_common.proofs.Options.{none_some}
use Rattle.ft_theory.specs.Expressions.{Expression}
use Rattle.ft_theory.specs.Statements.{Claim, is_type, has_type, equal_types, equal_terms, type_goal, term_goal, type_equation_goal, term_equation_goal, Statement, plain, abstracted, domain_count}
use Rattle.ft_items.specs.Sets.{Atom, unions, union}
use Rattle.ft_items.specs.Item.{Item}
use Rattle.ft_items.specs.Equal.{is_thesis, has_head_claim, has_head, head_of_claim, head, heads}
use Rattle.ft_items.specs.Store.{Assertion, each, entry_named}
use Rattle.ft_items.specs.Rows.{sets}
use Rattle.ft_items.specs.Good.{all_theses}
use Rattle.ft_syntax.specs.Arguments.{as_arguments, with_argument}
use Rattle.ft_syntax.specs.Table.{tree, argument_in, arguments_in, BodyBelow, ArgumentsBelow}
use Rattle.ft_syntax.specs.Laws.{arguments_push}
use Rattle.ft_syntax.specs.declared.syntax.Arg.{Arg}
use Rattle.ft_judge.specs.Meaning.{claim_in, under, thesis_in, head_of_form, head_of_thesis, head_of_statement, FormBelow, ThesisBelow}
use Rattle.ft_judge.specs.Meaning as judge
use Rattle.ft_judge.specs.declared.judgement.Form.{Form}
use Rattle.ft_judge.specs.declared.judgement.Form.TheVariants.{Ty, Tm, EqTy, EqTm}
use Rattle.ft_judge.specs.declared.judgement.Thesis.{Thesis}
use Rattle.ft_kernel.specs.State.{State, entry_at, statement_at, set_at, IsThesisOf}
use Rattle.ft_calls.proofs.Answering.{store, entry_in}
use Rattle.ft_nucleus_laws.proofs.Tests.{Theses}
use Rattle.ft_apply.specs.Named.{entry_or, entry_of, entries_of, statements_of, AreThesesOf, head_argument}

-- a member of a list at a place, and what comes after it
pub drop_one : {A : Type 0} (xs : List A) (i : ℕ) (x : A) → i < length xs → x ≡ get_or xs i x → drop i xs ≡ x ∷ drop (suc i) xs
drop_one xs i x l h = drop-cons xs i x l ∙ ap (λ y. y ∷ drop (suc i) xs) (sym h)

-- one of several theses
pub thesis_named : (s : State) (js : List ℕ) (i j : ℕ) → AreThesesOf s js → i < length js → j ≡ get_or js i j → IsThesisOf s j
thesis_named s [] i j h l e = absurd (omega arith)
thesis_named s (k ∷ js) zero j h l e = subst (IsThesisOf s) (sym e) h.0
thesis_named s (k ∷ js) (suc i) j h l e = let m : i < length js = omega arith in thesis_named s js i j h.1 m e

-- what an entry has
pub entry_found : (s : State) (j : ℕ) (a : Assertion) → entry_at s j ≡ Some a → entry_of s.items j ≡ a
entry_found s j a h = ap entry_or h

pub statement_found : (s : State) (j : ℕ) (x : Statement) → statement_at s j ≡ Some x → (entry_of s.items j).statement ≡ x
statement_found s j x h = go (entry_at s j) h
  where
    go : (o : Option Assertion) → option_map (λ (a : Assertion). a.statement) o ≡ Some x → (entry_or o).statement ≡ x
    go None e = none_some e
    go (Some a) e = cc

pub set_found : (s : State) (j : ℕ) (S : List Atom) → set_at s j ≡ Some S → (entry_of s.items j).set ≡ S
set_found s j S h = go (entry_at s j) h
  where
    go : (o : Option Assertion) → option_map (λ (a : Assertion). a.set) o ≡ Some S → (entry_or o).set ≡ S
    go None e = none_some e
    go (Some a) e = cc

-- several
pub each_named : (s : State) (js : List ℕ) → AreThesesOf s js → each (entry_named (store s)) js ≡ Some (entries_of s.items js)
each_named s [] h = refl
each_named s (j ∷ js) h =
    ap₂ (λ o os. option_and_then (λ b. option_map (λ bs. b ∷ bs) os) o) (entry_in s j h.0.0 h.0.1) (each_named s js h.1)
    ∙ ap (λ a. Some (a ∷ entries_of s.items js)) (sym (entry_found s j h.0.0 h.0.1))

thesis_is : (s : State) (j : ℕ) → IsThesisOf s j → is_thesis (entry_of s.items j).statement ≡ true
thesis_is s j h = ap (λ (a : Assertion). is_thesis a.statement) (entry_found s j h.0 h.1) ∙ h.2

pub theses_of : (s : State) (js : List ℕ) → AreThesesOf s js → all_theses (entries_of s.items js) ≡ true
theses_of s [] h = refl
theses_of s (j ∷ js) h = ap₂ (λ b c. b && c) (thesis_is s j h.0) (theses_of s js h.1)

pub theses_are : (s : State) (js : List ℕ) → AreThesesOf s js → Theses (statements_of s.items js)
theses_are s [] h = tt
theses_are s (j ∷ js) h = (thesis_is s j h.0, theses_are s js h.1)

pub as_many : (items : List Item) (js : List ℕ) → length (statements_of items js) ≡ length js
as_many items [] = refl
as_many items (j ∷ js) = ap suc (as_many items js)

-- The head of a thesis.
claim_head : (c : Claim) → judge.head_of_claim c ≡ cond (has_head_claim c) (Some (head_of_claim c)) None
claim_head (is_type A) = refl
claim_head (has_type t A) = refl
claim_head (equal_types A B) = refl
claim_head (equal_terms s t A) = refl
claim_head type_goal = refl
claim_head (term_goal A) = refl
claim_head (type_equation_goal A B) = refl
claim_head (term_equation_goal s t A) = refl

pub statement_head : (x : Statement) → head_of_statement x ≡ cond (has_head x) (Some (head x)) None
statement_head (plain c) = claim_head c
statement_head (abstracted A x) = statement_head x

pub heads_listed : (xs : List Statement) → as_arguments (map head_argument xs) ≡ heads xs
heads_listed [] = refl
heads_listed (x ∷ xs) = ap₂ (λ o r. with_argument (domain_count x, o) r) (statement_head x) (heads_listed xs) ∙ go (has_head x)
  where
    go : (b : Bool) → with_argument (domain_count x, cond b (Some (head x)) None) (heads xs)
        ≡ cond b (Rattle.ft_theory.specs.Expressions.with_body (domain_count x) (head x) (heads xs)) (Rattle.ft_theory.specs.Expressions.dummy (domain_count x) (heads xs))
    go true = refl
    go false = refl

pub count_under : (ts : List Expression) (ds : List ℕ) (c : Claim) → domain_count (under ts ds (plain c)) ≡ length ds
count_under ts [] c = refl
count_under ts (d ∷ ds) c = ap suc (count_under ts ds c)

pub head_is : (s : State) (j : ℕ) (x : Thesis) (a : Arg) → statement_at s j ≡ Some (thesis_in s.trees x) → a ≡ head_of_thesis x → option_map (tree s.trees) a.body ≡ head_of_statement (thesis_in s.trees x)
    → argument_in s.trees a ≡ head_argument (entry_of s.items j).statement
head_is s j x a h e m =
    ap₂ (λ n o. (n, o)) (ap (λ (z : Arg). z.binders) e ∙ sym (count_under s.trees x.domains (claim_in s.trees x.form))) m
    ∙ ap head_argument (sym (statement_found s j (thesis_in s.trees x) h))

form_head_below : (n : ℕ) (f : Form) → FormBelow n f → BodyBelow n (head_of_form f)
form_head_below n (Ty A) h = h
form_head_below n (Tm t A) h = h.0
form_head_below n (EqTy A B) h = tt
form_head_below n (EqTm s t A) h = tt

pub head_below : (n : ℕ) (x : Thesis) (a : Arg) → a ≡ head_of_thesis x → ThesisBelow n x → BodyBelow n a.body
head_below n x a e h = subst (λ (z : Arg). BodyBelow n z.body) (sym e) (form_head_below n x.form h.1)

-- The loop over the heads: those found and those to come are the heads of all.
pub record Heading (s : State) (js : List ℕ) (i : ℕ) (found : List Arg) : Type 0 where
  pub done : as_arguments (map (argument_in s.trees) found ++ map head_argument (statements_of s.items (drop i js))) ≡ heads (statements_of s.items js)
  pub below : ArgumentsBelow (length s.trees) found
  pub long : length found ≡ i

pub heading_start : (s : State) (js : List ℕ) → Heading s js 0 []
heading_start s js = record { done = heads_listed (statements_of s.items js); below = tt; long = refl }

pub length_push : {A : Type 0} (xs : List A) (x : A) → length (xs ++ x ∷ []) ≡ suc (length xs)
length_push [] x = refl
length_push (y ∷ xs) x = ap suc (length_push xs x)

pub heading_more : (s : State) (js : List ℕ) (i j : ℕ) (a : Arg) (found next : List Arg) → Heading s js i found → i < length js → j ≡ get_or js i j → argument_in s.trees a ≡ head_argument (entry_of s.items j).statement
    → BodyBelow (length s.trees) a.body → next ≡ found ++ a ∷ [] → Heading s js (suc i) next
heading_more s js i j a found next h l g e b n = subst (Heading s js (suc i)) (sym n) (record {
  done =
      ap (λ as'. as_arguments (as' ++ map head_argument (statements_of s.items (drop (suc i) js)))) (map-append (argument_in s.trees) found (a ∷ []))
      ∙ ap as_arguments (append_assoc (map (argument_in s.trees) found) (argument_in s.trees a ∷ []) (map head_argument (statements_of s.items (drop (suc i) js))))
      ∙ ap (λ z. as_arguments (map (argument_in s.trees) found ++ z ∷ map head_argument (statements_of s.items (drop (suc i) js)))) e
      ∙ ap (λ ks. as_arguments (map (argument_in s.trees) found ++ map head_argument (statements_of s.items ks))) (sym (drop_one js i j l g))
      ∙ h.done;
  below = arguments_push (length s.trees) found a h.below b;
  long = length_push found a ∙ ap suc h.long;
})

pub heading_end : (s : State) (js : List ℕ) (i : ℕ) (found : List Arg) → Heading s js i found → length js ≤ i → arguments_in s.trees found ≡ heads (statements_of s.items js)
heading_end s js i found h l =
    ap as_arguments (sym (append-nil (map (argument_in s.trees) found)))
    ∙ ap (λ ks. as_arguments (map (argument_in s.trees) found ++ map head_argument (statements_of s.items ks))) (sym (drop_of_length-le js l))
    ∙ h.done

-- The loop over the sets, from the last: the set is that of the theses from a place on.
pub record Joining (items : List Item) (js : List ℕ) (i : ℕ) (set : List Atom) : Type 0 where
  pub done : set ≡ unions (sets (entries_of items (drop (length js - i) js)))

pub joining_start : (items : List Item) (js : List ℕ) → Joining items js 0 []
joining_start items js = record { done = ap (λ ks. unions (sets (entries_of items ks))) (sym (drop_of_length-le js (omega arith))) }

pub joining_more : (s : State) (js : List ℕ) (i n j : ℕ) (S set next : List Atom) → Joining s.items js i set → i < length js → n ≡ length js - 1 - i → j ≡ get_or js n j → set_at s j ≡ Some S → next ≡ union S set → Joining s.items js (suc i) next
joining_more s js i n j S set next h l p g e u = record {
  done =
      u
      ∙ ap₂ union (sym (set_found s j S e)) h.done
      ∙ ap (λ m. unions (sets (entry_of s.items j ∷ entries_of s.items (drop m js)))) later
      ∙ ap (λ ks. unions (sets (entries_of s.items ks))) (sym (drop_one js n j below g))
      ∙ ap (λ m. unions (sets (entries_of s.items (drop m js)))) here;
}
  where
    below : n < length js
    below = omega arith

    later : length js - i ≡ suc n
    later = omega arith

    here : n ≡ length js - suc i
    here = omega arith

pub joining_end : (items : List Item) (js : List ℕ) (i : ℕ) (set : List Atom) → Joining items js i set → length js ≤ i → set ≡ unions (sets (entries_of items js))
joining_end items js i set h l = h.done ∙ ap (λ n. unions (sets (entries_of items (drop n js)))) none
  where
    none : length js - i ≡ 0
    none = omega arith
