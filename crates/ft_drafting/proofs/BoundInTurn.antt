-- Variables that are bound in turn, and metavariables, by what their calls answer.
use Rattle.std.proofs.Common.{◌≡◌, ◌∙◌, ◌<◌, ℕ, zero, suc, ◌+◌, Option, Some, None, List, [], ◌∷◌, length, map, take, get_or, ap, ap₂, refl, sym, subst, IfOk, arith}
use Rattle.std.specs.Prelude.{Result, Ok, option_map, reverse}
use Rattle.std.proofs.lemmas.List.{reverse-append, take_more}
use Rattle.ft_items.specs.Item.{by_abs, by_generic}
use Rattle.ft_items.specs.Store.{Assertion, Declared, nth, declared_by, metavariables_in, with_one, with_two, metavariable_named}
use Rattle.ft_items.specs.Good.{Good}
use Rattle.ft_base.specs.Budget.{Budget}
use Rattle.ft_reference.specs.Nucleus as reference
use Rattle.ft_meaning.specs.Values as meaning
use Rattle.ft_meaning.specs.Values.{nucleus, after}
use Rattle.ft_meaning.specs.Forms.{judged}
use Rattle.ft_meaning.specs.Commands.{abstract_all}
use Rattle.ft_meaning.specs.Commands as command
use Rattle.ft_judge.specs.declared.fault.Fault.{Fault}
use Rattle.ft_kernel.specs.State.{State, IsThesisOf, IsBoundaryOf, IsVariableOf}
use Rattle.ft_calls.specs.Answers.{Answers}
use Rattle.ft_calls.proofs.Answering.{entry_in}
use Rattle.ft_metas.specs.Named as metas
use Rattle.ft_metas.proofs.Declared.{metavariable_is}
use Rattle.ft_rules.specs.Drafts.{declared_or, met_of}
use Rattle.ft_values.specs.Kept.{stated, stated_at}
use Rattle.ft_telling.specs.declared.halt.Halt.{Halt}
use Rattle.ft_telling.specs.Telling.{state_of, halted_at, variable_at, annotation_or, TellsStatement}
use Rattle.ft_telling.proofs.Calls.{tells_statement, tells_judgement}
use Rattle.ft_telling.proofs.Variables.{known_variable}
use Rattle.ft_calling.specs.Calling.{ToldGoal, ToldJudgement}
use Rattle.ft_calling.proofs.Telling.{told_goal, told_judgement}
use Rattle.ft_running.specs.Asked.{TellsGoal, IsVariableIn}
use Rattle.ft_running.specs.Evaluation.{Evaluation, run_of, GoesFurther}
use Rattle.ft_running.specs.Telling.{TellsEnd}
use Rattle.ft_running.specs.declared.ending.End.{End}
use Rattle.ft_running.proofs.AtPairs.{ends_after}
use Rattle.ft_running.proofs.Declared.{variable_further, variable_means_further}
use Rattle.ft_drafting.specs.Drafting.{AreBoundIn, bound_over, bounds_over}
use Rattle.ft_drafting.specs.declared.binding.Bound.{Bound}

-- ---- a variable that is bound

pub bound_told : (s t : State) (at v b : ℕ) (r : Result ℕ Fault) (o : Result ℕ Halt) → Good s.items → IsVariableOf s v → IsBoundaryOf s b
    → Answers s (by_abs v b) r t → IfOk r (λ b. IsBoundaryOf t b) → o ≡ halted_at at r
    → ToldGoal s (nucleus at (λ W. reference.abstract_variable W (variable_at s v) (stated_at s b))) o t
bound_told s t at v b r o g var is h kind e =
    told_goal s t (by_abs v b) (nucleus at (λ W. reference.abstract_variable W (variable_at s v) (stated_at s b))) at r o tells h kind e
  where
    tells : (u : Budget) → TellsStatement
        (nucleus at (λ W. reference.abstract_variable W (variable_at s v) (stated_at s b)) (state_of s u)) (halted_at at r) t u
    tells u =
        let k = known_variable s v g var in
        subst (λ d. TellsStatement (nucleus at (λ W. reference.abstract_variable W (v, d) (stated_at s b)) (state_of s u)) (halted_at at r) t u) (sym (ap annotation_or k.1))
        (subst (λ a. TellsStatement (nucleus at (λ W. reference.abstract_variable W (v, k.0) a) (state_of s u)) (halted_at at r) t u) (sym (ap stated is.1))
        (tells_statement s t u at (by_abs v b) (by_abs (v, k.0) is.0) r
        (ap₂ (λ o q. with_two by_abs (option_map (λ d. (v, d)) o) q) k.1 (entry_in s b is.0 is.1)) h))

-- ---- a metavariable at its bound variables

same_declared : (o : Option Declared) → metas.declared_or o ≡ declared_or o
same_declared None = refl
same_declared (Some d) = refl

-- the metavariable of a number, as drafts have it
pub met_is : (s : State) (m : ℕ) → Good s.items → m < length (metavariables_in s.items) → metavariable_named (declared_by s.items) m ≡ Some (met_of s.items m)
met_is s m g l =
    metavariable_is s.items m g l ∙ ap (λ d. Some (m, d)) (same_declared (nth (declared_by s.items).metavariables m))

pub generic_told : (s t : State) (at m : ℕ) (r : Result ℕ Fault) (o : Result ℕ Halt) → Good s.items → m < length (metavariables_in s.items)
    → Answers s (by_generic m) r t → IfOk r (λ j. IsThesisOf t j) → o ≡ halted_at at r
    → ToldJudgement s (judged at (λ W. reference.generic W (met_of s.items m))) o t
generic_told s t at m r o g l h kind e =
    told_judgement s t (by_generic m) (judged at (λ W. reference.generic W (met_of s.items m))) at r o
    (λ u. tells_judgement s t u at (by_generic m) (by_generic (met_of s.items m)) r (ap (with_one by_generic) (met_is s m g l)) h)
    h kind e

-- ---- variables that are bound in turn

-- each of them, by its place
pub is_bound : (e : Evaluation) (xs : List Bound) (i : ℕ) (x : Bound) → i < length xs → x ≡ get_or xs i x → AreBoundIn e xs → IsVariableIn e x.variable
is_bound e [] i x l is h = absurd (omega (arith, l))
is_bound e (y ∷ xs) zero x l is h = subst (λ (x : Bound). IsVariableIn e x.variable) (sym is) h.0
is_bound e (y ∷ xs) (suc i) x l is h = is_bound e xs i x (omega (arith, l)) is h.1

-- the last of the first ones comes first
pub bounds_last : (e : Evaluation) (xs : List Bound) (i : ℕ) (x : Bound) → i < length xs → x ≡ get_or xs i x
    → bounds_over e (take (i + 1) xs) ≡ bound_over e x ∷ bounds_over e (take i xs)
bounds_last e xs i x l is =
    ap (λ ys. map (bound_over e) (reverse ys)) (take_more xs i x l)
    ∙ ap (map (bound_over e)) (reverse-append (take i xs) (get_or xs i x ∷ []))
    ∙ ap (λ y. bound_over e y ∷ map (bound_over e) (reverse (take i xs))) (sym is)

-- one is bound, and the rest follows
pub next_bound : (x : command.Bound) (xs : List command.Bound) (a b : Assertion) (s t : meaning.State)
    → nucleus x.at (λ W. reference.abstract_variable W x.variable a) s ≡ (Ok b, t)
    → abstract_all (x ∷ xs) a s ≡ abstract_all xs b t
next_bound x xs a b s t h = ap (λ (o : meaning.Outcome Assertion). after o (abstract_all xs)) h

-- or it ends there
pub bound_ends : (x : command.Bound) (xs : List command.Bound) (a : Assertion) (e f : Evaluation) (end : End)
    → TellsEnd (nucleus x.at (λ W. reference.abstract_variable W x.variable a) (run_of e)) end f
    → TellsEnd (abstract_all (x ∷ xs) a (run_of e)) end f
bound_ends x xs a e f end told =
    ends_after (nucleus x.at (λ W. reference.abstract_variable W x.variable a) (run_of e)) (abstract_all xs) end f told

-- ---- one turn, over a state that went further

-- it is a variable there
pub still_bound : (e w : Evaluation) (xs : List Bound) (i : ℕ) (x : Bound) → i < length xs → x ≡ get_or xs i x → AreBoundIn e xs → GoesFurther e w
    → IsVariableIn w x.variable
still_bound e w xs i x l is h g = variable_further e w x.variable g (is_bound e xs i x l is h)

-- what the nucleus is asked, there
abbrev pub asked : Evaluation → Bound → ℕ → meaning.Outcome Assertion
asked w x b = nucleus x.at (λ W. reference.abstract_variable W (variable_at w.list x.variable) (stated_at w.list b)) (run_of w)

-- what is left to do with the first variables
abbrev pub left_of : Evaluation → Evaluation → List Bound → ℕ → ℕ → meaning.Outcome Assertion
left_of e w xs k b = abstract_all (bounds_over e (take k xs)) (stated_at w.list b) (run_of w)

asked_before : (e w : Evaluation) (x : Bound) (b : ℕ) → GoesFurther e w → IsVariableIn e x.variable
    → asked w x b ≡ nucleus x.at (λ W. reference.abstract_variable W (bound_over e x).variable (stated_at w.list b)) (run_of w)
asked_before e w x b g is =
    ap (λ v. nucleus x.at (λ W. reference.abstract_variable W v (stated_at w.list b)) (run_of w)) (variable_means_further e w x.variable g is)

left_first : (e w : Evaluation) (xs : List Bound) (k i : ℕ) (x : Bound) (b : ℕ) → k ≡ i + 1 → i < length xs → x ≡ get_or xs i x
    → left_of e w xs k b ≡ abstract_all (bound_over e x ∷ bounds_over e (take i xs)) (stated_at w.list b) (run_of w)
left_first e w xs k i x b next l is =
    ap (λ k. left_of e w xs k b) next
    ∙ ap (λ ys. abstract_all ys (stated_at w.list b) (run_of w)) (bounds_last e xs i x l is)

pub turn_goes_on : (e w f : Evaluation) (xs : List Bound) (k i : ℕ) (x : Bound) (b c : ℕ) (o : meaning.Outcome Assertion) → k ≡ i + 1 → i < length xs → x ≡ get_or xs i x
    → AreBoundIn e xs → GoesFurther e w → left_of e w xs k b ≡ o → TellsGoal (asked w x b) (Ok c) f → left_of e f xs i c ≡ o
turn_goes_on e w f xs k i x b c o next l is h g left told =
    let there = is_bound e xs i x l is h in
    sym (next_bound (bound_over e x) (bounds_over e (take i xs)) (stated_at w.list b) (stated_at f.list c) (run_of w) (run_of f)
    (sym (asked_before e w x b g there) ∙ told.0))
    ∙ sym (left_first e w xs k i x b next l is) ∙ left

pub turn_ends : (e w f : Evaluation) (xs : List Bound) (k i : ℕ) (x : Bound) (b : ℕ) (end : End) (o : meaning.Outcome Assertion) → k ≡ i + 1 → i < length xs → x ≡ get_or xs i x
    → AreBoundIn e xs → GoesFurther e w → left_of e w xs k b ≡ o → TellsEnd (asked w x b) end f → TellsEnd o end f
turn_ends e w f xs k i x b end o next l is h g left told =
    let there = is_bound e xs i x l is h in
    subst (λ o. TellsEnd o end f) (sym (left_first e w xs k i x b next l is) ∙ left)
    (bound_ends (bound_over e x) (bounds_over e (take i xs)) (stated_at w.list b) w f end
    (subst (λ o. TellsEnd o end f) (asked_before e w x b g there) told))
