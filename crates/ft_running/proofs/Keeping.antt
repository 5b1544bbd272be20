-- States with one more value, or with one more name.
use Rattle.std.proofs.Common.{◌≡◌, ◌++◌, sym, ap, subst, List, [], ◌∷◌}
use Rattle.std.specs.Prelude.{Result, Ok, Err, IfOk, OnOk, OnErr}
use Rattle.ft_items.specs.Item.{Name}
use Rattle.ft_kernel.specs.State.{State}
use Rattle.ft_values.specs.declared.scopes.Scope.{Scope}
use Rattle.ft_values.specs.declared.values.Value.{Value}
use Rattle.ft_values.specs.Kept.{Kept, value_of, IsOver}
use Rattle.ft_values.specs.Named.{value_in, environment_in}
use Rattle.ft_values.specs.Rows.{kept_in}
use Rattle.ft_values.specs.Scopes.{names_in}
use Rattle.ft_running.specs.Evaluation.{Evaluation, IsValueOf, value_over, IsScopeIn, environment_of, IsEvaluation, GoesFurther, with_kept, with_row, with_top}
use Rattle.ft_running.proofs.Further.{kept_evaluation, kept_goes, row_evaluation, row_goes, top_evaluation, further_same}

-- ---- one more value, or memory was refused

pub kept_holds : {A E : Type 0} (e : Evaluation) (ks : List Kept) (k : Kept) (r : Result A E) → IsEvaluation e → IsOver e.list k
    → OnOk r (ks ≡ e.values ++ k ∷ []) → OnErr r (ks ≡ e.values) → IsEvaluation (record e { values = ks })
kept_holds e ks k (Ok v) is over ok err = subst (λ ks. IsEvaluation (record e { values = ks })) (sym ok) (kept_evaluation e k is over)
kept_holds e ks k (Err m) is over ok err = subst (λ ks. IsEvaluation (record e { values = ks })) (sym err) is

pub kept_further : {A E : Type 0} (e : Evaluation) (ks : List Kept) (k : Kept) (r : Result A E)
    → OnOk r (ks ≡ e.values ++ k ∷ []) → OnErr r (ks ≡ e.values) → GoesFurther e (record e { values = ks })
kept_further e ks k (Ok v) ok err = subst (λ ks. GoesFurther e (record e { values = ks })) (sym ok) (kept_goes e k)
kept_further e ks k (Err m) ok err = subst (λ ks. GoesFurther e (record e { values = ks })) (sym err) (further_same e)

pub kept_means : {E : Type 0} (s : State) (ks : List Kept) (k : Kept) (r : Result Value E) → IfOk r (λ v. kept_in ks v ≡ k) → IfOk r (λ v. value_in s ks v ≡ value_of s k)
kept_means s ks k (Ok v) h = ap (value_of s) h
kept_means s ks k (Err m) h = tt

pub kept_adds : {A E : Type 0} (e : Evaluation) (ks : List Kept) (k : Kept) (r : Result A E) → OnOk r (ks ≡ e.values ++ k ∷ []) → OnOk r (record e { values = ks } ≡ with_kept k e)
kept_adds e ks k (Ok v) h = ap (λ ks. record e { values = ks }) h
kept_adds e ks k (Err m) h = tt

pub kept_err : {A E : Type 0} (e : Evaluation) (ks : List Kept) (r : Result A E) → OnErr r (ks ≡ e.values) → OnErr r (record e { values = ks } ≡ e)
kept_err e ks (Ok v) h = tt
kept_err e ks (Err m) h = ap (λ ks. record e { values = ks }) h

-- ---- one more name in a scope, or memory was refused

pub row_holds : {A E : Type 0} (e : Evaluation) (es : List (List (Name × Value))) (s : Scope) (n : Name) (v : Value) (r : Result A E) → IsEvaluation e → IsScopeIn e s → IsValueOf e v
    → OnOk r (es ≡ e.scopes ++ ((n, v) ∷ names_in e.scopes s) ∷ []) → OnErr r (es ≡ e.scopes) → IsEvaluation (record e { scopes = es })
row_holds e es s n v (Ok t) is within below ok err = subst (λ es. IsEvaluation (record e { scopes = es })) (sym ok) (row_evaluation e s n v is within below)
row_holds e es s n v (Err m) is within below ok err = subst (λ es. IsEvaluation (record e { scopes = es })) (sym err) is

pub row_further : {A E : Type 0} (e : Evaluation) (es : List (List (Name × Value))) (s : Scope) (n : Name) (v : Value) (r : Result A E)
    → OnOk r (es ≡ e.scopes ++ ((n, v) ∷ names_in e.scopes s) ∷ []) → OnErr r (es ≡ e.scopes) → GoesFurther e (record e { scopes = es })
row_further e es s n v (Ok t) ok err = subst (λ es. GoesFurther e (record e { scopes = es })) (sym ok) (row_goes e s n v)
row_further e es s n v (Err m) ok err = subst (λ es. GoesFurther e (record e { scopes = es })) (sym err) (further_same e)

pub row_means : {E : Type 0} (e : Evaluation) (es : List (List (Name × Value))) (s : Scope) (n : Name) (v : Value) (r : Result Scope E)
    → IfOk r (λ t. names_in es t ≡ (n, v) ∷ names_in e.scopes s)
    → IfOk r (λ t. environment_in e.list e.values (names_in es t ++ e.top) ≡ (n, value_over e v) ∷ environment_of e s)
row_means e es s n v (Ok t) h = ap (λ ns. environment_in e.list e.values (ns ++ e.top)) h
row_means e es s n v (Err m) h = tt

pub row_adds : {A E : Type 0} (e : Evaluation) (es : List (List (Name × Value))) (s : Scope) (n : Name) (v : Value) (r : Result A E)
    → OnOk r (es ≡ e.scopes ++ ((n, v) ∷ names_in e.scopes s) ∷ []) → OnOk r (record e { scopes = es } ≡ with_row s n v e)
row_adds e es s n v (Ok t) h = ap (λ es. record e { scopes = es }) h
row_adds e es s n v (Err m) h = tt

pub row_err : {A E : Type 0} (e : Evaluation) (es : List (List (Name × Value))) (r : Result A E) → OnErr r (es ≡ e.scopes) → OnErr r (record e { scopes = es } ≡ e)
row_err e es (Ok v) h = tt
row_err e es (Err m) h = ap (λ es. record e { scopes = es }) h

-- ---- one more name for the commands after, or memory was refused

pub top_holds : {A E : Type 0} (e : Evaluation) (ns : List (Name × Value)) (n : Name) (v : Value) (r : Result A E) → IsEvaluation e → IsValueOf e v
    → OnOk r (ns ≡ (n, v) ∷ e.top) → OnErr r (ns ≡ e.top) → IsEvaluation (record e { top = ns })
top_holds e ns n v (Ok t) is below ok err = subst (λ ns. IsEvaluation (record e { top = ns })) (sym ok) (top_evaluation e n v is below)
top_holds e ns n v (Err m) is below ok err = subst (λ ns. IsEvaluation (record e { top = ns })) (sym err) is

pub top_adds : {A E : Type 0} (e : Evaluation) (ns : List (Name × Value)) (n : Name) (v : Value) (r : Result A E) → OnOk r (ns ≡ (n, v) ∷ e.top) → OnOk r (record e { top = ns } ≡ with_top n v e)
top_adds e ns n v (Ok t) h = ap (λ ns. record e { top = ns }) h
top_adds e ns n v (Err m) h = tt

pub top_err : {A E : Type 0} (e : Evaluation) (ns : List (Name × Value)) (r : Result A E) → OnErr r (ns ≡ e.top) → OnErr r (record e { top = ns } ≡ e)
top_err e ns (Ok v) h = tt
top_err e ns (Err m) h = ap (λ ns. record e { top = ns }) h
