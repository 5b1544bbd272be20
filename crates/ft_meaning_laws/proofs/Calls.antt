-- Calls of the nucleus keep to entries of a good list.
use Rattle.std.proofs.Common.{◌≡◌, ℕ, zero, suc, Bool, true, false, cond, Option, Some, None, Result, Ok, Err, List, [], ◌∷◌, ◌++◌, length, refl, sym, ap, ap₂, ◌∙◌, subst}
use Rattle.std.specs.Prelude.{option_map, option_and_then}
use Rattle.ft_theory.specs.Rules.{look_up, Rule, rule_at}
use Rattle.ft_theory.specs.Statements.{Statement}
use Rattle.std.proofs.lemmas.Option.{same_Some}
use Rattle.ft_common.proofs.Options.{none_some}
use Rattle.ft_items.specs.Equal.{is_thesis}
use Rattle.ft_items.specs.Item.{Name, Stated, Item, variable, entry}
use Rattle.ft_items.specs.Store.{Assertion, Annotation, Declared, nth, each, entry_named, variable_named, metavariable_named, rule_named, with_one, with_two, resolve, Resolved, add_variable, add, empty_store, store_of, declared_variable, Declarations, declared_by, Store}
use Rattle.ft_items.specs.Rows.{conclusion, result_set, concludes_thesis}
use Rattle.ft_items.specs.Good.{of_kind, given, is_plain_type, is_next}
use Rattle.ft_items.proofs.Lists.{nth_end, look_new, store_last, declared_last}
use Rattle.ft_sound.proofs.Valid.{WellFormedStore}
use Rattle.ft_sound.proofs.Steps.{resolved}
use Rattle.ft_sound.proofs.KindRows.{conclusion_kind}
use Rattle.ft_reference.specs.Refusals.{Refusal, WrongForm}
use Rattle.ft_reference.specs.Calls.{answer}
use Rattle.ft_reference.specs.Declare.{outcome, refused_unless, new_variable}
use Rattle.ft_nucleus_laws.proofs.Calls.{answers_its_row, answer_gives}
use Rattle.ft_equality.specs.Programs.{spend_from}
use Rattle.ft_meaning.specs.Names.{number_of, rule_of_name}
use Rattle.ft_meaning.specs.Values.{Value, judgement, boundary, State, Refused, stuck, pure, the, settled, answered, nucleus, after_declaration, declare, the_rule}
use Rattle.ft_meaning.specs.Stages.{Stage}
use Rattle.ft_meaning.specs.Values as values
use Rattle.ft_meaning.specs.Forms.{judged, bounded, make_variable}
use Rattle.ft_meaning_laws.proofs.Grows.{quiet_self, quiet_last, next_later, next_last}
use Rattle.ft_meaning_laws.proofs.Lists.{sound_last, AreAccepted}
use Rattle.ft_meaning_laws.proofs.Made.{IsEntry, AllTheses, IsMade, holds_last, Kept, Keeps, keeps_bind, keeps_pure, keeps_halt, keeps_weaken}

-- what a call names is in the list
abbrev pub Named : List Item → Resolved → Type 0
Named items c = (n : Stated) × (resolve (store_of items) n ≡ Some c)

-- kinds
given_is : (W : Declarations) (c : Resolved) (a : Assertion) → given W c ≡ Some a → (of_kind c ≡ true) × (conclusion W c ≡ Some a.statement)
given_is W c a h = go (of_kind c) refl (conclusion W c) refl h
  where
    go : (b : Bool) → of_kind c ≡ b → (o : Option Statement) → conclusion W c ≡ o → cond b (option_map (λ x. record { statement = x; set = result_set c }) o) None ≡ Some a → (of_kind c ≡ true) × (conclusion W c ≡ Some a.statement)
    go true k None l e = none_some e
    go true k (Some x) l e = (k, l ∙ ap (λ (z : Assertion). Some z.statement) (same_Some (record { statement = x; set = result_set c }) a e))
    go false k o l e = none_some e

answer_kind : (items : List Item) → WellFormedStore (store_of items) → (n : Stated) (c : Resolved) → resolve (store_of items) n ≡ Some c → (a : Assertion) → given (declared_by items) c ≡ Some a → is_thesis a.statement ≡ concludes_thesis c
answer_kind items F n c r a h =
    let k : (of_kind c ≡ true) × (conclusion (declared_by items) c ≡ Some a.statement) = given_is (declared_by items) c a h in
    conclusion_kind (declared_by items) F.declarations c (resolved (store_of items) F n c r) k.0 a.statement k.1

-- one more entry
pub entry_end : (items : List Item) (a : Assertion) (n : Stated) → IsEntry (items ++ (entry (record { statement = a.statement; set = a.set; step = n }) ∷ [])) a
entry_end items a n = (
  length (store_of items).entries,
  subst (λ (z : Store). nth z.entries (length (store_of items).entries) ≡ Some a) (sym (store_last empty_store items (entry (record { statement = a.statement; set = a.set; step = n })))) (nth_end (store_of items).entries a),
)

-- an answer is an entry of the longer list
abbrev pub Answers : Resolved → List Item → Assertion → Type 0
Answers c items a = IsEntry items a × (is_thesis a.statement ≡ concludes_thesis c)

-- the same, with what is known of the statement
abbrev pub AnswersWith : (Statement → Type 0) → Resolved → List Item → Assertion → Type 0
AnswersWith Q c items a = Answers c items a × Q a.statement

-- what names name
pub named_one : (items : List Item) (f : ℕ → Stated) (g : Assertion → Resolved) → ((n : ℕ) → resolve (store_of items) (f n) ≡ with_one g (entry_named (store_of items) n)) → (a : Assertion) → IsEntry items a → Named items (g a)
named_one items f g r a h = (f h.0, r h.0 ∙ ap (with_one g) h.1)

pub named_two : (items : List Item) (f : ℕ → ℕ → Stated) (g : Assertion → Assertion → Resolved)
    → ((n m : ℕ) → resolve (store_of items) (f n m) ≡ with_two g (entry_named (store_of items) n) (entry_named (store_of items) m)) → (a b : Assertion) → IsEntry items a → IsEntry items b → Named items (g a b)
named_two items f g r a b h k = (f h.0 k.0, r h.0 k.0 ∙ ap₂ (with_two g) h.1 k.1)

pub each_entry : (items : List Item) (js : List Assertion) → AllTheses items js → (ns : List ℕ) × (each (entry_named (store_of items)) ns ≡ Some js)
each_entry items [] h = ([], refl)
each_entry items (j ∷ js) h =
    let k : (ns : List ℕ) × (each (entry_named (store_of items)) ns ≡ Some js) = each_entry items js h.1 in
    (h.0.0.0 ∷ k.0, ap₂ (λ o os. option_and_then (λ b. option_map (λ bs. b ∷ bs) os) o) h.0.0.1 k.1)

-- a rule, or a variable, of the list
abbrev pub IsRule : List Item → ℕ × Rule → Type 0
IsRule items r = rule_at (declared_by items).rules r.0 ≡ Some r.1

abbrev pub IsVariable : List Item → ℕ × Annotation → Type 0
IsVariable items v = look_up (declared_by items).variables v.0 ≡ Some v.1

pub rule_resolved : (items : List Item) (r : ℕ × Rule) → IsRule items r → rule_named (declared_by items) r.0 ≡ Some r
rule_resolved items r h = ap (option_map (λ R. (r.0, R))) h

pub variable_resolved : (items : List Item) (v : ℕ × Annotation) → IsVariable items v → variable_named (declared_by items) v.0 ≡ Some v
variable_resolved items v h = ap (option_map (λ d. (v.0, d))) h

-- the rule of a number is one of the list's
rule_there : (W : Declarations) (r : ℕ) (R : ℕ × Rule) → rule_named W r ≡ Some R → rule_at W.rules R.0 ≡ Some R.1
rule_there W r R h = go (rule_at W.rules r) refl h
  where
    go : (o : Option Rule) → rule_at W.rules r ≡ o → option_map (λ S. (r, S)) o ≡ Some R → rule_at W.rules R.0 ≡ Some R.1
    go None q e = none_some e
    go (Some S) q e = subst (λ (z : ℕ × Rule). rule_at W.rules z.0 ≡ Some z.1) (same_Some (r, S) R e) q

rule_of_name_there : (W : Declarations) (n : Name) (R : ℕ × Rule) → rule_of_name W n ≡ Some R → rule_at W.rules R.0 ≡ Some R.1
rule_of_name_there W n R h = go (number_of W.names n) h
  where
    go : (o : Option ℕ) → option_and_then (rule_named W) o ≡ Some R → rule_at W.rules R.0 ≡ Some R.1
    go None e = none_some e
    go (Some r) e = rule_there W r R e

-- a metavariable of the list
abbrev pub IsMetavariable : List Item → ℕ × Declared → Type 0
IsMetavariable items m = nth (declared_by items).metavariables m.0 ≡ Some m.1

pub metavariable_resolved : (items : List Item) (m : ℕ × Declared) → IsMetavariable items m → metavariable_named (declared_by items) m.0 ≡ Some m
metavariable_resolved items m h = ap (option_map (λ d. (m.0, d))) h

module _ (B : Stage) where
  -- a call of the nucleus on what is in the list
  pub keeps_nucleus_with : (Q : Statement → Type 0) (items : List Item) (at : ℕ) (c : Resolved) → Named items c → ((x : Statement) → conclusion (declared_by items) c ≡ Some x → Q x) → Keeps B Assertion (AnswersWith Q c) items (nucleus at (λ W. answer W c))
  keeps_nucleus_with Q items at c n f s h = go (answer s.declarations c) refl
    where
      W : Declarations
      W = declared_by items

      here : answer s.declarations c ≡ answer W c
      here = ap (λ z. answer z c) h.declarations

      made : (a : Assertion) → answer W c ≡ Ok a → Kept B Assertion (AnswersWith Q c) items (Ok a, s)
      made a e =
          let i : Item = entry (record { statement = a.statement; set = a.set; step = n.0 }) in
          let row : given W c ≡ Some a = ((answers_its_row W c a).0 e).0 in
          record {
            later = items ++ (i ∷ []);
            quiet = quiet_last items i refl;
            holds = holds_last B items i s s h (sound_last B items i h.list (answer_gives (store_of items) n.0 c a n.1 e)) refl h.declarations h.next;
            gives = ((entry_end items a n.0, answer_kind items h.list.well n.0 c n.1 a row), f a.statement (given_is W c a row).1);
          }

      go : (r : Result Assertion Refusal) → answer s.declarations c ≡ r → Kept B Assertion (AnswersWith Q c) items (answered at r s)
      go (Ok a) e = made a (sym here ∙ e)
      go (Err r) e = record { later = items; quiet = quiet_self items; holds = h; gives = tt }

  pub keeps_nucleus : (items : List Item) (at : ℕ) (c : Resolved) → Named items c → Keeps B Assertion (Answers c) items (nucleus at (λ W. answer W c))
  keeps_nucleus items at c n = keeps_weaken B Assertion (AnswersWith (λ x. Unit {0}) c) (Answers c) items (nucleus at (λ W. answer W c)) (λ later a p. p.0) (keeps_nucleus_with (λ x. Unit {0}) items at c n (λ x e. tt))

  pub keeps_judged : (items : List Item) (at : ℕ) (c : Resolved) → Named items c → concludes_thesis c ≡ true → Keeps B Value IsMade items (judged at (λ W. answer W c))
  keeps_judged items at c n k = keeps_bind B Assertion Value (Answers c) IsMade items (nucleus at (λ W. answer W c)) (λ j. pure (judgement j)) (keeps_nucleus items at c n)
      (λ xs q j p. keeps_pure B Value IsMade xs (judgement j) (p.0, p.1 ∙ k))

  pub keeps_bounded : (items : List Item) (at : ℕ) (c : Resolved) → Named items c → concludes_thesis c ≡ false → Keeps B Value IsMade items (bounded at (λ W. answer W c))
  keeps_bounded items at c n k = keeps_bind B Assertion Value (Answers c) IsMade items (nucleus at (λ W. answer W c)) (λ b. pure (boundary b)) (keeps_nucleus items at c n)
      (λ xs q b p. keeps_pure B Value IsMade xs (boundary b) (p.0, p.1 ∙ k))

  pub keeps_the : (A : Type 0) (P : List Item → A → Type 0) (items : List Item) (o : Option A) → ((a : A) → o ≡ Some a → P items a) → Keeps B A P items (the o)
  keeps_the A P items (Some a) f = keeps_pure B A P items a (f a refl)
  keeps_the A P items None f = keeps_halt B A P items stuck

  pub keeps_rule : (items : List Item) (n : Name) → Keeps B (ℕ × Rule) IsRule items (the_rule n)
  keeps_rule items n s h = keeps_the (ℕ × Rule) IsRule items (rule_of_name s.declarations n)
      (λ R e. subst (λ (z : Declarations). rule_at z.rules R.0 ≡ Some R.1) h.declarations (rule_of_name_there s.declarations n R e)) s h

  -- a new variable
  pub keeps_make : (items : List Item) (at : ℕ) (n : Name) (A : Assertion) → IsEntry items A → Keeps B (ℕ × Annotation) IsVariable items (make_variable at n A)
  keeps_make items at n A a s h = spends s.units.left
    where
      v : ℕ
      v = s.units.used

      W : Declarations
      W = declared_by items

      i : Item
      i = variable v n a.0

      x : ℕ × Annotation
      x = (v, declared_variable n A)

      named : (add (store_of items) i).declarations ≡ add_variable W v n (Some A)
      named = ap (add_variable W v n) a.1

      fresh : is_next (add (store_of items) i).declarations.variables (suc v) ≡ true
      fresh = subst (λ (z : Declarations). is_next z.variables (suc v) ≡ true) (sym named) (next_last W.variables v x.1 h.next)

      there : IsVariable (items ++ (i ∷ [])) x
      there = subst (λ (z : Declarations). look_up z.variables v ≡ Some x.1) (sym (declared_last items i ∙ named)) (look_new W.variables v x.1 h.next)

      made : (t : State) → t.declarations ≡ s.declarations → t.equality_rules ≡ s.equality_rules → t.units.used ≡ suc v → (b : Bool) → is_plain_type A.statement ≡ b
          → Kept B (ℕ × Annotation) IsVariable items (after_declaration Refused at (outcome (refused_unless b WrongForm) t.declarations (add_variable t.declarations v n (Some A)) x).after (outcome (refused_unless b WrongForm) t.declarations (add_variable t.declarations v n (Some A)) x).answer t)
      made t e r u true k = record {
        later = items ++ (i ∷ []);
        quiet = quiet_last items i refl;
        holds = holds_last B items i s (record t { declarations = add_variable t.declarations v n (Some A) }) h (sound_last B items i h.list (h.next, A, a.1, k)) r
            (ap (λ z. add_variable z v n (Some A)) (e ∙ h.declarations) ∙ sym named) (subst (λ w. is_next (add (store_of items) i).declarations.variables w ≡ true) (sym u) fresh);
        gives = there;
      }
      made t e r u false k = record {
        later = items;
        quiet = quiet_self items;
        holds = record {
          list = h.list;
          equality = subst (AreAccepted W.rules) (sym r) h.equality;
          declarations = e ∙ h.declarations;
          next = subst (λ w. is_next W.variables w ≡ true) (sym u) (next_later W.variables v h.next);
        };
        gives = tt;
      }

      spends : (left : ℕ) → Kept B (ℕ × Annotation) IsVariable items (values.after (settled {A = Unit {0}} at s (spend_from v left (λ u. (Ok tt, u)))) (λ u. declare Refused at (λ Z. new_variable Z v n A)))
      spends zero = record { later = items; quiet = quiet_self items; holds = record { list = h.list; equality = h.equality; declarations = h.declarations; next = h.next }; gives = tt }
      spends (suc left) = made (record s { units = record { used = suc v; left = left } }) refl refl refl (is_plain_type A.statement) refl
