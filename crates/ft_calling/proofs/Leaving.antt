-- What a call leaves.
use Rattle.std.proofs.Common.{◌≡◌, ◌∙◌, ℕ, List, [], ◌∷◌, ◌++◌, ap, refl, sym, append-nil, IfOk, OnErr}
use Rattle.std.specs.Prelude.{Result, Ok, Err}
use Rattle.ft_items.specs.Item.{Stated, Item, variable, metavariable, rule, entry, shown}
use Rattle.ft_items.specs.Store.{Assertion, variables_in, rules_in, declared_by}
use Rattle.ft_items.proofs.Lists.{declared_last}
use Rattle.ft_judge.specs.declared.fault.Fault.{Fault}
use Rattle.ft_judge.specs.declared.fault.Fault.TheVariants.{Refused, Memory}
use Rattle.ft_kernel.specs.State.{State}
use Rattle.ft_calls.specs.Answers.{Gains, Stays, Answers}
use Rattle.ft_telling.specs.Telling.{halted_at}
use Rattle.ft_calling.specs.Calling.{Leaves}

-- the variables, and the rules, of a longer list
pub variables_append : (xs ys : List Item) → variables_in (xs ++ ys) ≡ variables_in xs ++ variables_in ys
variables_append [] ys = refl
variables_append (variable v n p ∷ xs) ys = ap (λ vs. (v, n, p) ∷ vs) (variables_append xs ys)
variables_append (metavariable n p ∷ xs) ys = variables_append xs ys
variables_append (rule n ms p ∷ xs) ys = variables_append xs ys
variables_append (entry e ∷ xs) ys = variables_append xs ys
variables_append (shown p ∷ xs) ys = variables_append xs ys

pub rules_append : (xs ys : List Item) → rules_in (xs ++ ys) ≡ rules_in xs ++ rules_in ys
rules_append [] ys = refl
rules_append (variable v n p ∷ xs) ys = rules_append xs ys
rules_append (metavariable n p ∷ xs) ys = rules_append xs ys
rules_append (rule n ms p ∷ xs) ys = ap (λ rs. (n, ms, p) ∷ rs) (rules_append xs ys)
rules_append (entry e ∷ xs) ys = rules_append xs ys
rules_append (shown p ∷ xs) ys = rules_append xs ys

-- after an entry, and after none
gained_leaves : (s t : State) (a : Assertion) (n : Stated) (j : ℕ) → Gains s a n j t → Leaves s t
gained_leaves s t a n j g =
    let e : Item = entry (record { statement = a.statement; set = a.set; step = n }) in
    record {
      goes_on = (e ∷ [], g.0, (tt, tt));
      trees = g.2;
      declared = ap declared_by g.0 ∙ declared_last s.items e;
      variables = ap variables_in g.0 ∙ variables_append s.items (e ∷ []) ∙ append-nil (variables_in s.items);
    }

pub stays_leaves : (s t : State) → Stays s t → Leaves s t
stays_leaves s t h =
    record {
      goes_on = ([], h.0 ∙ sym (append-nil s.items), tt);
      trees = h.1;
      declared = ap declared_by h.0;
      variables = ap variables_in h.0;
    }

pub call_leaves : (s t : State) (n : Stated) (r : Result ℕ Fault) → Answers s n r t → Leaves s t
call_leaves s t n (Ok j) h = gained_leaves s t h.0 n j h.2
call_leaves s t n (Err (Refused q)) h = stays_leaves s t h.2
call_leaves s t n (Err Memory) h = stays_leaves s t h

-- after a fault
pub call_same : (s t : State) (n : Stated) (at : ℕ) (r : Result ℕ Fault) → Answers s n r t
    → OnErr (halted_at at r) (t.items ≡ s.items)
call_same s t n at (Ok j) h = tt
call_same s t n at (Err (Refused q)) h = h.2.0
call_same s t n at (Err Memory) h = h.0

-- the kind of what is answered
pub halted_kind : (P : ℕ → Type 0) (at : ℕ) (r : Result ℕ Fault) → IfOk r P → IfOk (halted_at at r) P
halted_kind P at (Ok j) h = h
halted_kind P at (Err f) h = tt
