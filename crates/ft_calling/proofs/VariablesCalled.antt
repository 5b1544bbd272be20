-- Variables, by what their calls answer.
use Rattle.std.proofs.Common.{◌≡◌, ◌∙◌, ◌+◌, ◌≤◌, ℕ, List, [], ◌∷◌, ◌++◌, ap, refl, sym, subst, arith, IfOk, OnErr, append-nil, option_map}
use Rattle.std.specs.Prelude.{Result, Ok, Err}
use Rattle.ft_items.specs.Item.{Name, variable, by_var, by_abs, by_subst}
use Rattle.ft_items.specs.Store.{with_one, variables_in}
use Rattle.ft_items.specs.Good.{Good}
use Rattle.ft_reference.specs.Nucleus as reference
use Rattle.ft_syntax.specs.Laws.{extends_same}
use Rattle.ft_syntax.specs.Table.{Extends}
use Rattle.ft_base.specs.Budget.{Budget}
use Rattle.ft_meaning.specs.Values as meaning
use Rattle.ft_meaning.specs.Values.{after, declare, spend, nucleus, judgement, boundary}
use Rattle.ft_meaning.specs.Forms.{make_variable, abstract_value, substitute_value, bounded}
use Rattle.ft_reference.specs.Declare.{new_variable}
use Rattle.ft_judge.specs.declared.fault.Fault.{Fault}
use Rattle.ft_judge.specs.declared.fault.Fault.TheVariants.{Refused, Memory}
use Rattle.ft_kernel.specs.State.{State, next_number, IsThesisOf, IsBoundaryOf, IsVariableOf}
use Rattle.ft_calls.specs.Answers.{Answers}
use Rattle.ft_calls.specs.Declaring.{DeclaresVariable}
use Rattle.ft_calls.proofs.Answering.{resolves_two}
use Rattle.ft_values.specs.Kept.{stated, stated_at}
use Rattle.ft_telling.specs.declared.halt.Halt.{Halt}
use Rattle.ft_telling.specs.Telling.{state_of, halted_at, variable_at, annotation_or, HaltsSo, TellsBoundary, TellsStatement}
use Rattle.ft_telling.proofs.Calls.{tells_two, tells_boundary, tells_statement}
use Rattle.ft_telling.proofs.Variables.{variable_tells, declared_goes_on, bound_tells, bound_boundary_tells, known_variable}
use Rattle.ft_calling.specs.Calling.{ToldVariable, ToldThesis, ToldJudgement, ToldBoundary, VariablesBelow}
use Rattle.ft_calling.proofs.Leaving.{variables_append, halted_kind}
use Rattle.ft_calling.proofs.Telling.{told_judgement, told_boundary, told_thesis}

-- ---- a new variable

-- the numbers after one more
next_after : (vs : List (ℕ × Name × ℕ)) (v m : ℕ) (n : Name) (p : ℕ) → next_number vs ≤ m → v + 1 ≤ m
    → next_number (vs ++ (v, n, p) ∷ []) ≤ m
next_after [] v m n p h k = omega (arith, k)
next_after (x ∷ vs) v m n p h k =
    let rest = next_after vs v m n p (omega (arith, h)) k in omega (arith, h, rest)

below_more : (s t : State) (v m : ℕ) (n : Name) (p : ℕ)
    → t.items ≡ s.items ++ variable v n p ∷ [] → VariablesBelow v s → v + 1 ≤ m → VariablesBelow m t
below_more s t v m n p e h k =
    subst (λ vs. next_number vs ≤ m)
    (sym (ap variables_in e ∙ variables_append s.items (variable v n p ∷ [])))
    (next_after (variables_in s.items) v m n p (omega (arith, h, k)) k)

below_same : (s t : State) (m w : ℕ) → t.items ≡ s.items → VariablesBelow m s → m ≤ w → VariablesBelow w t
below_same s t m w e h k =
    subst (λ items. next_number (variables_in items) ≤ w) (sym e) (omega (arith, h, k))

declared_told : (s t : State) (u w : Budget) (at v : ℕ) (n : Name) (p : ℕ) (r : Result ℕ Fault)
    → v ≡ u.used → Good s.items → VariablesBelow u.used s → IsThesisOf s p
    → spend at (state_of s u) ≡ (Ok tt, state_of s w) → w.used ≡ u.used + 1
    → DeclaresVariable s v n p r t → IfOk r (λ v. IsVariableOf t v)
    → ToldVariable s u (make_variable at n (stated_at s p)) (halted_at at r) t w
declared_told s t u w at v n p r number good next is spent used h kind =
    record {
      tells = variable_tells s t u w at n p r good next is spent
          (subst (λ v. DeclaresVariable s v n p r t) number h);
      kind = halted_kind (λ v. IsVariableOf t v) at r kind;
      goes_on = declared_goes_on s t v n p r h;
      trees = trees_go_on r h;
      below = below_after r h;
      same = same_after r h;
    }
  where
    trees_go_on : (r : Result ℕ Fault) → DeclaresVariable s v n p r t → Extends s.trees t.trees
    trees_go_on (Ok x) h = h.2.4
    trees_go_on (Err (Refused q)) h = h.2.1.1
    trees_go_on (Err Memory) h = h.2.1

    below_after : (r : Result ℕ Fault) → DeclaresVariable s v n p r t → VariablesBelow w.used t
    below_after (Ok x) h =
        below_more s t v w.used n p h.2.3 (subst (λ v. VariablesBelow v s) (sym number) next)
        (omega (arith, number, used))
    below_after (Err (Refused q)) h = below_same s t u.used w.used h.2.1.0 next (omega (arith, used))
    below_after (Err Memory) h = below_same s t u.used w.used h.2.0 next (omega (arith, used))

    same_after : (r : Result ℕ Fault) → DeclaresVariable s v n p r t
        → OnErr (halted_at at r) (t.items ≡ s.items)
    same_after (Ok x) h = tt
    same_after (Err (Refused q)) h = h.2.1.0
    same_after (Err Memory) h = h.2.0

pub variable_told : (s t : State) (u w : Budget) (at v : ℕ) (n : Name) (p : ℕ) (r : Result ℕ Fault)
    (o : Result ℕ Halt) → v ≡ u.used → Good s.items → VariablesBelow u.used s → IsThesisOf s p
    → spend at (state_of s u) ≡ (Ok tt, state_of s w) → w.used ≡ u.used + 1
    → DeclaresVariable s v n p r t → IfOk r (λ v. IsVariableOf t v) → o ≡ halted_at at r
    → ToldVariable s u (make_variable at n (stated_at s p)) o t w
variable_told s t u w at v n p r o number good next is spent used h kind e =
    subst (λ o. ToldVariable s u (make_variable at n (stated_at s p)) o t w) (sym e)
    (declared_told s t u w at v n p r number good next is spent used h kind)

-- where no unit is left
pub unspent_told : (s t : State) (u w : Budget) (at : ℕ) (n : Name) (p : ℕ) (h : Halt) → s ≡ t
    → VariablesBelow u.used s → u.used ≤ w.used → HaltsSo (spend at (state_of s u)) h s w
    → ToldVariable s u (make_variable at n (stated_at s p)) (Err h) t w
unspent_told s t u w at n p h e next more halts =
    subst (λ t. ToldVariable s u (make_variable at n (stated_at s p)) (Err h) t w) e
    (record {
      tells = λ no. (
        (halts no).0,
        ap (λ (o : meaning.Outcome (Unit {0})). after o
            (λ _. declare meaning.Refused at (λ W. new_variable W u.used n (stated_at s p)))) (halts no).1,
      );
      kind = tt;
      goes_on = ([], sym (append-nil s.items), tt);
      trees = extends_same s.trees s.trees refl;
      below = omega (arith, next, more);
      same = refl;
    })

-- ---- a variable as a term

pub term_told : (s t : State) (at v : ℕ) (r : Result ℕ Fault) (o : Result ℕ Halt) → Good s.items
    → IsVariableOf s v → Answers s (by_var v) r t → IfOk r (λ j. IsThesisOf t j) → o ≡ halted_at at r
    → ToldThesis s (nucleus at (λ W. reference.variable W (variable_at s v))) o t
term_told s t at v r o g is a kind e =
    told_thesis s t (by_var v) (nucleus at (λ W. reference.variable W (variable_at s v))) at r o
    tells a kind e
  where
    tells : (u : Budget) → TellsStatement
        (nucleus at (λ W. reference.variable W (variable_at s v)) (state_of s u)) (halted_at at r) t u
    tells u =
        let k = known_variable s v g is in
        subst (λ d. TellsStatement (nucleus at (λ W. reference.variable W (v, d)) (state_of s u))
        (halted_at at r) t u) (sym (ap annotation_or k.1))
        (tells_statement s t u at (by_var v) (by_var (v, k.0)) r
        (ap (λ o. with_one by_var (option_map (λ d. (v, d)) o)) k.1) a)

-- ---- a variable that is bound

pub bound_told : (s t : State) (at v j : ℕ) (r : Result ℕ Fault) (o : Result ℕ Halt) → Good s.items
    → IsVariableOf s v → IsThesisOf s j → Answers s (by_abs v j) r t → IfOk r (λ j. IsThesisOf t j)
    → o ≡ halted_at at r
    → ToldJudgement s (abstract_value at (variable_at s v) (judgement (stated_at s j))) o t
bound_told s t at v j r o g var is a kind e =
    told_judgement s t (by_abs v j) (abstract_value at (variable_at s v) (judgement (stated_at s j)))
    at r o (λ u. bound_tells s t u at v j r g var is a) a kind e

pub bound_boundary_told : (s t : State) (at v b : ℕ) (r : Result ℕ Fault) (o : Result ℕ Halt)
    → Good s.items → IsVariableOf s v → IsBoundaryOf s b → Answers s (by_abs v b) r t
    → IfOk r (λ b. IsBoundaryOf t b) → o ≡ halted_at at r
    → ToldBoundary s (abstract_value at (variable_at s v) (boundary (stated_at s b))) o t
bound_boundary_told s t at v b r o g var is a kind e =
    told_boundary s t (by_abs v b) (abstract_value at (variable_at s v) (boundary (stated_at s b)))
    at r o (λ u. bound_boundary_tells s t u at v b r g var is a) a kind e

-- ---- a term for a variable

pub substituted_told : (s t : State) (at j p : ℕ) (r : Result ℕ Fault) (o : Result ℕ Halt)
    → IsThesisOf s j → IsThesisOf s p → Answers s (by_subst j p) r t → IfOk r (λ j. IsThesisOf t j)
    → o ≡ halted_at at r
    → ToldJudgement s (substitute_value at (judgement (stated_at s j)) (stated_at s p)) o t
substituted_told s t at j p r o is term a kind e =
    told_judgement s t (by_subst j p)
    (substitute_value at (judgement (stated_at s j)) (stated_at s p)) at r o
    (λ u. tells_two by_subst by_subst (λ W p q. refl) s t u at j p r (is.0, is.1) (term.0, term.1) a)
    a kind e

pub substituted_boundary_told : (s t : State) (at b p : ℕ) (r : Result ℕ Fault) (o : Result ℕ Halt)
    → IsBoundaryOf s b → IsThesisOf s p → Answers s (by_subst b p) r t
    → IfOk r (λ b. IsBoundaryOf t b) → o ≡ halted_at at r
    → ToldBoundary s (substitute_value at (boundary (stated_at s b)) (stated_at s p)) o t
substituted_boundary_told s t at b p r o is term a kind e =
    told_boundary s t (by_subst b p)
    (substitute_value at (boundary (stated_at s b)) (stated_at s p)) at r o tells a kind e
  where
    tells : (u : Budget) → TellsBoundary
        (substitute_value at (boundary (stated_at s b)) (stated_at s p) (state_of s u))
        (halted_at at r) t u
    tells u =
        subst (λ a. TellsBoundary (bounded at (λ W. reference.substitute W a (stated_at s p))
        (state_of s u)) (halted_at at r) t u) (sym (ap stated is.1))
        (subst (λ c. TellsBoundary (bounded at (λ W. reference.substitute W is.0 c) (state_of s u))
        (halted_at at r) t u) (sym (ap stated term.1))
        (tells_boundary s t u at (by_subst b p) (by_subst is.0 term.0) r
        (resolves_two s (by_subst b p) by_subst b p is.0 term.0 refl is.1 term.1) a))
