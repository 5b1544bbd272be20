-- Words at values, by what the values are.
use Rattle.std.proofs.Common.{◌≡◌, ℕ, ap, ap₂, sym, refl, subst, Some, None, Ok, Err}
use Rattle.std.specs.Prelude.{Result}
use Rattle.ft_items.specs.Store.{Assertion, Annotation}
use Rattle.ft_reference.specs.Nucleus as reference
use Rattle.ft_grammar.specs.declared.form.OneForm.{OneForm}
use Rattle.ft_grammar.specs.declared.form.OneForm.TheVariants as one
use Rattle.ft_meaning.specs.Values.{Value, judgement, boundary, unit, truth, pair, nil, cons, none, some, halts, stuck, State as Running}
use Rattle.ft_meaning.specs.Forms.{word_at, abstract_value, judged}
use Rattle.ft_telling.specs.Telling.{variable_at}
use Rattle.ft_values.specs.Kept.{stated_at}
use Rattle.ft_values.specs.declared.values.Value.{Value as AnyValue}
use Rattle.ft_calling.specs.Asking.{IsAskedOfJudgement, IsAskedOfBoundary}
use Rattle.ft_running.specs.Evaluation.{Evaluation, run_of, value_over, IsValueOf}
use Rattle.ft_running.specs.Readers.{judgement_in, boundary_in, stated_in}
use Rattle.ft_running.specs.Telling.{TellsValue, TellsEnd}
use Rattle.ft_running.specs.Asked.{argument_at}
use Rattle.ft_running.specs.declared.ending.End.{End}
use Rattle.ft_running.specs.declared.ending.End.TheVariants as ending
use Rattle.ft_telling.specs.declared.halt.Why.TheVariants as why
use Rattle.ft_running.proofs.Ended.{stuck_told}
use Rattle.ft_common.proofs.Options.{some_none}
use Rattle.std.proofs.lemmas.Option.{same_Some}

-- ---- what a value is

judgement_is : (v : Value) (a : Assertion) → judgement_in v ≡ Some a → v ≡ judgement a
judgement_is (judgement b) a h = let same : b ≡ a = same_Some b a h in ap judgement same
judgement_is (boundary b) a h = some_none (sym h)
judgement_is unit a h = some_none (sym h)
judgement_is (truth b) a h = some_none (sym h)
judgement_is (pair x y) a h = some_none (sym h)
judgement_is nil a h = some_none (sym h)
judgement_is (cons x y) a h = some_none (sym h)
judgement_is none a h = some_none (sym h)
judgement_is (some x) a h = some_none (sym h)

boundary_is : (v : Value) (a : Assertion) → boundary_in v ≡ Some a → v ≡ boundary a
boundary_is (boundary b) a h = let same : b ≡ a = same_Some b a h in ap boundary same
boundary_is (judgement b) a h = some_none (sym h)
boundary_is unit a h = some_none (sym h)
boundary_is (truth b) a h = some_none (sym h)
boundary_is (pair x y) a h = some_none (sym h)
boundary_is nil a h = some_none (sym h)
boundary_is (cons x y) a h = some_none (sym h)
boundary_is none a h = some_none (sym h)
boundary_is (some x) a h = some_none (sym h)

-- the value of a token that was read
pub read_judgement : (e : Evaluation) (v : Value) (j : ℕ) → stated_in e (Some j) ≡ judgement_in v → v ≡ judgement (stated_at e.list j)
read_judgement e v j h = judgement_is v (stated_at e.list j) (sym h)

pub read_boundary : (e : Evaluation) (v : Value) (b : ℕ) → stated_in e (Some b) ≡ boundary_in v → v ≡ boundary (stated_at e.list b)
read_boundary e v b h = boundary_is v (stated_at e.list b) (sym h)

-- ---- words

stuck_word : (at : ℕ) (w : OneForm) (v : Value) (s : Running) → IsAskedOfBoundary w → judgement_in v ≡ None → boundary_in v ≡ None
    → word_at at w v s ≡ (Err (halts stuck), s)
stuck_word at w (judgement a) s q h k = some_none h
stuck_word at w (boundary a) s q h k = some_none k
stuck_word at one.Refl unit s q h k = refl
stuck_word at one.Refl (truth b) s q h k = refl
stuck_word at one.Refl (pair x y) s q h k = refl
stuck_word at one.Refl nil s q h k = refl
stuck_word at one.Refl (cons x y) s q h k = refl
stuck_word at one.Refl none s q h k = refl
stuck_word at one.Refl (some x) s q h k = refl
stuck_word at one.Sym unit s q h k = refl
stuck_word at one.Sym (truth b) s q h k = refl
stuck_word at one.Sym (pair x y) s q h k = refl
stuck_word at one.Sym nil s q h k = refl
stuck_word at one.Sym (cons x y) s q h k = refl
stuck_word at one.Sym none s q h k = refl
stuck_word at one.Sym (some x) s q h k = refl
stuck_word at one.Left unit s q h k = refl
stuck_word at one.Left (truth b) s q h k = refl
stuck_word at one.Left (pair x y) s q h k = refl
stuck_word at one.Left nil s q h k = refl
stuck_word at one.Left (cons x y) s q h k = refl
stuck_word at one.Left none s q h k = refl
stuck_word at one.Left (some x) s q h k = refl
stuck_word at one.Right unit s q h k = refl
stuck_word at one.Right (truth b) s q h k = refl
stuck_word at one.Right (pair x y) s q h k = refl
stuck_word at one.Right nil s q h k = refl
stuck_word at one.Right (cons x y) s q h k = refl
stuck_word at one.Right none s q h k = refl
stuck_word at one.Right (some x) s q h k = refl
stuck_word at one.Typeof unit s q h k = refl
stuck_word at one.Typeof (truth b) s q h k = refl
stuck_word at one.Typeof (pair x y) s q h k = refl
stuck_word at one.Typeof nil s q h k = refl
stuck_word at one.Typeof (cons x y) s q h k = refl
stuck_word at one.Typeof none s q h k = refl
stuck_word at one.Typeof (some x) s q h k = refl
stuck_word at one.Domain unit s q h k = refl
stuck_word at one.Domain (truth b) s q h k = refl
stuck_word at one.Domain (pair x y) s q h k = refl
stuck_word at one.Domain nil s q h k = refl
stuck_word at one.Domain (cons x y) s q h k = refl
stuck_word at one.Domain none s q h k = refl
stuck_word at one.Domain (some x) s q h k = refl
stuck_word at one.Natural unit s q h k = refl
stuck_word at one.Natural (truth b) s q h k = refl
stuck_word at one.Natural (pair x y) s q h k = refl
stuck_word at one.Natural nil s q h k = refl
stuck_word at one.Natural (cons x y) s q h k = refl
stuck_word at one.Natural none s q h k = refl
stuck_word at one.Natural (some x) s q h k = refl
stuck_word at one.Normal unit s q h k = refl
stuck_word at one.Normal (truth b) s q h k = refl
stuck_word at one.Normal (pair x y) s q h k = refl
stuck_word at one.Normal nil s q h k = refl
stuck_word at one.Normal (cons x y) s q h k = refl
stuck_word at one.Normal none s q h k = refl
stuck_word at one.Normal (some x) s q h k = refl
stuck_word at one.Boundaryof unit s q h k = refl
stuck_word at one.Boundaryof (truth b) s q h k = refl
stuck_word at one.Boundaryof (pair x y) s q h k = refl
stuck_word at one.Boundaryof nil s q h k = refl
stuck_word at one.Boundaryof (cons x y) s q h k = refl
stuck_word at one.Boundaryof none s q h k = refl
stuck_word at one.Boundaryof (some x) s q h k = refl
stuck_word at one.SomeWord unit s q h k = absurd q
stuck_word at one.SomeWord (truth b) s q h k = absurd q
stuck_word at one.SomeWord (pair x y) s q h k = absurd q
stuck_word at one.SomeWord nil s q h k = absurd q
stuck_word at one.SomeWord (cons x y) s q h k = absurd q
stuck_word at one.SomeWord none s q h k = absurd q
stuck_word at one.SomeWord (some x) s q h k = absurd q

pub at_judgement : (e f : Evaluation) (at : ℕ) (w : OneForm) (v : Value) (j : ℕ) (r : Result AnyValue End) → stated_in e (Some j) ≡ judgement_in v
    → TellsValue (word_at at w (judgement (stated_at e.list j)) (run_of e)) r f → TellsValue (word_at at w v (run_of e)) r f
at_judgement e f at w v j r h told = subst (λ v. TellsValue (word_at at w v (run_of e)) r f) (sym (read_judgement e v j h)) told

pub at_boundary : (e f : Evaluation) (at : ℕ) (w : OneForm) (v : Value) (b : ℕ) (r : Result AnyValue End) → stated_in e (Some b) ≡ boundary_in v
    → TellsValue (word_at at w (boundary (stated_at e.list b)) (run_of e)) r f → TellsValue (word_at at w v (run_of e)) r f
at_boundary e f at w v b r h told = subst (λ v. TellsValue (word_at at w v (run_of e)) r f) (sym (read_boundary e v b h)) told

pub at_nothing : (e : Evaluation) (at : ℕ) (w : OneForm) (v : Value) (end : End) → IsAskedOfBoundary w → judgement_in v ≡ None → boundary_in v ≡ None
    → end ≡ ending.Halts (record { at = at; why = why.Stuck }) → TellsEnd (word_at at w v (run_of e)) end e
at_nothing e at w v end asked none_there no_boundary is = stuck_told (word_at at w v (run_of e)) at end e is (stuck_word at w v (run_of e) asked none_there no_boundary)

pub asked_of_both : (w : OneForm) → IsAskedOfJudgement w → IsAskedOfBoundary w
asked_of_both one.Refl h = tt
asked_of_both one.Sym h = tt
asked_of_both one.Left h = tt
asked_of_both one.Right h = tt
asked_of_both one.Typeof h = tt
asked_of_both one.Domain h = tt
asked_of_both one.Natural h = tt
asked_of_both one.Normal h = absurd h
asked_of_both one.Boundaryof h = absurd h
asked_of_both one.SomeWord h = absurd h

pub some_told : (e f : Evaluation) (at : ℕ) (v : Value) (w : AnyValue) → value_over f w ≡ some v → run_of f ≡ run_of e → IsValueOf f w
    → TellsValue (word_at at one.SomeWord v (run_of e)) (Ok w) f
some_told e f at v w means run is = (ap₂ (λ x s. (Ok x, s)) (sym means) (sym run), is)

-- ---- arguments

no_judgement : (at i : ℕ) (v : Value) (s : Running) → judgement_in v ≡ None → argument_at at i v s ≡ (Err (halts stuck), s)
no_judgement at i (judgement a) s h = some_none h
no_judgement at i (boundary a) s h = refl
no_judgement at i unit s h = refl
no_judgement at i (truth b) s h = refl
no_judgement at i (pair x y) s h = refl
no_judgement at i nil s h = refl
no_judgement at i (cons x y) s h = refl
no_judgement at i none s h = refl
no_judgement at i (some x) s h = refl

pub argument_told : (e f : Evaluation) (at i : ℕ) (v : Value) (j : ℕ) (r : Result AnyValue End) → stated_in e (Some j) ≡ judgement_in v
    → TellsValue (judged at (λ W. reference.argument W i (stated_at e.list j)) (run_of e)) r f → TellsValue (argument_at at i v (run_of e)) r f
argument_told e f at i v j r h told = subst (λ v. TellsValue (argument_at at i v (run_of e)) r f) (sym (read_judgement e v j h)) told

pub no_argument : (e : Evaluation) (at i : ℕ) (v : Value) (end : End) → judgement_in v ≡ None
    → end ≡ ending.Halts (record { at = at; why = why.Stuck }) → TellsEnd (argument_at at i v (run_of e)) end e
no_argument e at i v end h is = stuck_told (argument_at at i v (run_of e)) at end e is (no_judgement at i v (run_of e) h)

-- ---- variables

stuck_bound : (at : ℕ) (x : ℕ × Annotation) (v : Value) (s : Running) → judgement_in v ≡ None → boundary_in v ≡ None
    → abstract_value at x v s ≡ (Err (halts stuck), s)
stuck_bound at x (judgement a) s h k = some_none h
stuck_bound at x (boundary a) s h k = some_none k
stuck_bound at x unit s h k = refl
stuck_bound at x (truth b) s h k = refl
stuck_bound at x (pair v w) s h k = refl
stuck_bound at x nil s h k = refl
stuck_bound at x (cons v w) s h k = refl
stuck_bound at x none s h k = refl
stuck_bound at x (some v) s h k = refl

pub bound_judgement : (e f : Evaluation) (at y : ℕ) (v : Value) (j : ℕ) (r : Result AnyValue End) → stated_in e (Some j) ≡ judgement_in v
    → TellsValue (abstract_value at (variable_at e.list y) (judgement (stated_at e.list j)) (run_of e)) r f → TellsValue (abstract_value at (variable_at e.list y) v (run_of e)) r f
bound_judgement e f at y v j r h told = subst (λ v. TellsValue (abstract_value at (variable_at e.list y) v (run_of e)) r f) (sym (read_judgement e v j h)) told

pub bound_boundary : (e f : Evaluation) (at y : ℕ) (v : Value) (b : ℕ) (r : Result AnyValue End) → stated_in e (Some b) ≡ boundary_in v
    → TellsValue (abstract_value at (variable_at e.list y) (boundary (stated_at e.list b)) (run_of e)) r f → TellsValue (abstract_value at (variable_at e.list y) v (run_of e)) r f
bound_boundary e f at y v b r h told = subst (λ v. TellsValue (abstract_value at (variable_at e.list y) v (run_of e)) r f) (sym (read_boundary e v b h)) told

pub bound_nothing : (e : Evaluation) (at y : ℕ) (v : Value) (end : End) → judgement_in v ≡ None → boundary_in v ≡ None
    → end ≡ ending.Halts (record { at = at; why = why.Stuck }) → TellsEnd (abstract_value at (variable_at e.list y) v (run_of e)) end e
bound_nothing e at y v end h k is = stuck_told (abstract_value at (variable_at e.list y) v (run_of e)) at end e is (stuck_bound at (variable_at e.list y) v (run_of e) h k)

pub word_same : (e f : Evaluation) (at : ℕ) (w x : OneForm) (v : Value) (r : Result AnyValue End) → w ≡ x
    → TellsValue (word_at at x v (run_of e)) r f → TellsValue (word_at at w v (run_of e)) r f
word_same e f at w x v r is told = subst (λ w. TellsValue (word_at at w v (run_of e)) r f) (sym is) told
