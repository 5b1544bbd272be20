-- Arguments of rules, and new variables.
use Rattle.std.proofs.Common.{◌≡◌, ◌∙◌, ℕ, List, ap, ap₂, sym, refl, subst, Some, None, Ok, Err}
use Rattle.std.specs.Prelude.{Result}
use Rattle.ft_theory.specs.Rules.{Rule}
use Rattle.ft_items.specs.Item.{Name}
use Rattle.ft_items.specs.Store.{Assertion, Annotation}
use Rattle.ft_reference.specs.Nucleus as reference
use Rattle.ft_kernel.specs.State.{IsThesisOf}
use Rattle.ft_meaning.specs.Values.{Value, judgement, boundary, unit, truth, pair, nil, cons, none, some, Run, after, pure, nucleus, halts, stuck, State as Running}
use Rattle.ft_meaning.specs.Forms.{fitting, make_variable}
use Rattle.ft_telling.specs.Telling.{variable_at}
use Rattle.ft_values.specs.Kept.{stated_at}
use Rattle.ft_values.specs.Kept as kept
use Rattle.ft_values.specs.declared.values.Value.{Value as AnyValue}
use Rattle.ft_running.specs.Ends.{IsMemory}
use Rattle.ft_running.specs.Evaluation.{Evaluation, GoesFurther, run_of, value_over, IsValueOf, with_kept}
use Rattle.ft_running.specs.Readers.{judgement_in, stated_in}
use Rattle.ft_running.specs.Telling.{TellsEnd}
use Rattle.ft_running.specs.Asked.{TellsEntry, TellsGoal, TellsTerm, TellsDeclared, next_argument, new_term, IsVariableIn}
use Rattle.ft_running.specs.declared.ending.End.{End}
use Rattle.ft_running.specs.declared.ending.End.TheVariants as ending
use Rattle.ft_telling.specs.declared.halt.Why.TheVariants as why
use Rattle.ft_running.proofs.Ended.{stuck_told, memory_told}
use Rattle.ft_running.proofs.Further.{stated_further}
use Rattle.ft_running.proofs.Declared.{variable_further, variable_means_further}
use Rattle.ft_running.proofs.AtValues.{read_judgement}
use Rattle.ft_running.proofs.AtPairs.{ends_after}
use Rattle.ft_common.proofs.Options.{some_none}

-- ---- an argument of a rule

pub argument_fitted : (e f g : Evaluation) (at j b : ℕ) (R : ℕ × Rule) (xs : List Assertion) (v : Value) (r : Result ℕ End) → stated_in e (Some j) ≡ judgement_in v
    → IsThesisOf e.list j → GoesFurther e f → TellsGoal (nucleus at (λ W. reference.next_boundary W R xs) (run_of e)) (Ok b) f
    → TellsEntry (fitting at (stated_at f.list j) (stated_at f.list b) (run_of f)) r g
    → TellsEntry (next_argument at R xs v (run_of e)) r g
argument_fitted e f g at j b R xs v r first thesis further goal told =
    subst (λ o. TellsEntry o r g)
    (ap (λ a. fitting at a (stated_at f.list b) (run_of f)) (stated_further e f j further thesis)
    ∙ sym (ap (λ o. after o (λ b. fitting at (stated_at e.list j) b)) goal.0)
    ∙ sym (ap (λ v. next_argument at R xs v (run_of e)) (read_judgement e v j first)))
    told

pub no_boundary : (e f : Evaluation) (at j : ℕ) (R : ℕ × Rule) (xs : List Assertion) (v : Value) (end : End) → stated_in e (Some j) ≡ judgement_in v
    → TellsEnd (nucleus at (λ W. reference.next_boundary W R xs) (run_of e)) end f
    → TellsEnd (next_argument at R xs v (run_of e)) end f
no_boundary e f at j R xs v end first told =
    subst (λ o. TellsEnd o end f)
    (sym (ap (λ v. next_argument at R xs v (run_of e)) (read_judgement e v j first)))
    (ends_after (nucleus at (λ W. reference.next_boundary W R xs) (run_of e)) (λ b. fitting at (stated_at e.list j) b) end f told)

stuck_argument : (at : ℕ) (R : ℕ × Rule) (xs : List Assertion) (v : Value) (s : Running) → judgement_in v ≡ None → next_argument at R xs v s ≡ (Err (halts stuck), s)
stuck_argument at R xs (judgement a) s h = some_none h
stuck_argument at R xs (boundary a) s h = refl
stuck_argument at R xs unit s h = refl
stuck_argument at R xs (truth c) s h = refl
stuck_argument at R xs (pair x y) s h = refl
stuck_argument at R xs nil s h = refl
stuck_argument at R xs (cons x y) s h = refl
stuck_argument at R xs none s h = refl
stuck_argument at R xs (some x) s h = refl

pub no_argument : (e : Evaluation) (at : ℕ) (R : ℕ × Rule) (xs : List Assertion) (v : Value) (end : End) → judgement_in v ≡ None
    → end ≡ ending.Halts (record { at = at; why = why.Stuck }) → TellsEnd (next_argument at R xs v (run_of e)) end e
no_argument e at R xs v end h is = stuck_told (next_argument at R xs v (run_of e)) at end e is (stuck_argument at R xs v (run_of e) h)

-- ---- a new variable

-- what follows the type, and the variable
abbrev after_type : ℕ → Name → Assertion → Run ((ℕ × Annotation) × Value)
after_type at x A = λ s. after (make_variable at x A s) (λ y. λ s. after (nucleus at (λ W. reference.variable W y) s) (λ j. pure (y, judgement j)))

type_read : (e : Evaluation) (at j : ℕ) (x : Name) (v : Value) → stated_in e (Some j) ≡ judgement_in v
    → new_term at x v (run_of e) ≡ after_type at x (stated_at e.list j) (run_of e)
type_read e at j x v first = ap (λ v. new_term at x v (run_of e)) (read_judgement e v j first)

variable_made : (e f : Evaluation) (at j y : ℕ) (x : Name) (v : Value) → stated_in e (Some j) ≡ judgement_in v
    → TellsDeclared (make_variable at x (stated_at e.list j) (run_of e)) (Ok y) f
    → new_term at x v (run_of e) ≡ after (nucleus at (λ W. reference.variable W (variable_at f.list y)) (run_of f)) (λ j. pure (variable_at f.list y, judgement j))
variable_made e f at j y x v first made =
    type_read e at j x v first
    ∙ ap (λ o. after o (λ y. λ s. after (nucleus at (λ W. reference.variable W y) s) (λ j. pure (y, judgement j)))) made.0

pub term_made : (e f g h : Evaluation) (at j y k : ℕ) (x : Name) (v : Value) (u : AnyValue) → stated_in e (Some j) ≡ judgement_in v
    → TellsDeclared (make_variable at x (stated_at e.list j) (run_of e)) (Ok y) f
    → GoesFurther f g → TellsEntry (nucleus at (λ W. reference.variable W (variable_at f.list y)) (run_of f)) (Ok k) g
    → h ≡ with_kept (kept.judgement k) g → value_over h u ≡ judgement (stated_at g.list k) → IsValueOf h u
    → TellsTerm (new_term at x v (run_of e)) (Ok (y, u)) h
term_made e f g h at j y k x v u first made further entry adds means is =
    let list = ap (λ (e : Evaluation). e.list) adds in (
      variable_made e f at j y x v first made
          ∙ ap (λ o. after o (λ j. pure (variable_at f.list y, judgement j))) entry.0
          ∙ ap₂ (λ z w. (Ok (z, w), run_of g)) (sym (variable_means_further f g y further made.1) ∙ ap (λ l. variable_at l y) (sym list)) (sym means)
          ∙ ap (λ s. (Ok (variable_at h.list y, value_over h u), s)) (sym (ap run_of adds)),
      subst (λ (e : Evaluation). IsVariableIn e y) (sym adds) (variable_further f g y further made.1),
      is,
    )

pub no_term : (e f g : Evaluation) (at j y : ℕ) (x : Name) (v : Value) (end : End) → stated_in e (Some j) ≡ judgement_in v
    → TellsDeclared (make_variable at x (stated_at e.list j) (run_of e)) (Ok y) f
    → TellsEnd (nucleus at (λ W. reference.variable W (variable_at f.list y)) (run_of f)) end g
    → TellsEnd (new_term at x v (run_of e)) end g
no_term e f g at j y x v end first made told =
    subst (λ o. TellsEnd o end g) (sym (variable_made e f at j y x v first made))
    (ends_after (nucleus at (λ W. reference.variable W (variable_at f.list y)) (run_of f)) (λ j. pure (variable_at f.list y, judgement j)) end g told)

pub no_variable : (e f : Evaluation) (at j : ℕ) (x : Name) (v : Value) (end : End) → stated_in e (Some j) ≡ judgement_in v
    → TellsEnd (make_variable at x (stated_at e.list j) (run_of e)) end f → TellsEnd (new_term at x v (run_of e)) end f
no_variable e f at j x v end first told =
    subst (λ o. TellsEnd o end f) (sym (type_read e at j x v first))
    (ends_after (make_variable at x (stated_at e.list j) (run_of e)) (λ y. λ s. after (nucleus at (λ W. reference.variable W y) s) (λ j. pure (y, judgement j))) end f told)

stuck_type : (at : ℕ) (x : Name) (v : Value) (s : Running) → judgement_in v ≡ None → new_term at x v s ≡ (Err (halts stuck), s)
stuck_type at n (judgement a) s h = some_none h
stuck_type at n (boundary a) s h = refl
stuck_type at n unit s h = refl
stuck_type at n (truth c) s h = refl
stuck_type at n (pair x y) s h = refl
stuck_type at n nil s h = refl
stuck_type at n (cons x y) s h = refl
stuck_type at n none s h = refl
stuck_type at n (some x) s h = refl

pub no_type : (e : Evaluation) (at : ℕ) (x : Name) (v : Value) (end : End) → judgement_in v ≡ None
    → end ≡ ending.Halts (record { at = at; why = why.Stuck }) → TellsEnd (new_term at x v (run_of e)) end e
no_type e at x v end h is = stuck_told (new_term at x v (run_of e)) at end e is (stuck_type at x v (run_of e) h)

pub no_memory : (e f : Evaluation) (at : ℕ) (x : Name) (v : Value) (end : End) → IsMemory end → TellsEnd (new_term at x v (run_of e)) end f
no_memory e f at x v end is = memory_told (new_term at x v (run_of e)) end f is
