-- States that go further.
use Rattle.std.proofs.Common.{◌≡◌, ◌≤◌, ◌∙◌, ◌++◌, sym, ap, ap₂, refl, subst, ℕ, zero, suc, List, [], ◌∷◌, length, arith, append-nil, append_assoc}
use Rattle.std.specs.Prelude.{slice_index_or, Result, Ok, Err}
use Rattle.std.proofs.lemmas.List.{length-append}
use Rattle.ft_base.specs.Budget.{Budget}
use Rattle.ft_items.specs.Item.{Name, Item, Stated, variable, metavariable, rule, entry, shown}
use Rattle.ft_items.specs.Store.{variables_in}
use Rattle.ft_judge.specs.declared.fault.Fault.{Fault}
use Rattle.ft_judge.specs.declared.fault.Fault.TheVariants.{Refused, Memory}
use Rattle.ft_kernel.specs.State.{State, next_number, IsThesisOf, IsBoundaryOf}
use Rattle.ft_calls.specs.Answers.{Answers}
use Rattle.ft_telling.proofs.Calls.{goes_on}
use Rattle.ft_values.specs.declared.scopes.Scope.{Scope}
use Rattle.ft_values.specs.declared.scopes.Scope.TheVariants as scope
use Rattle.ft_values.specs.declared.values.Value.{Value}
use Rattle.ft_values.specs.declared.values.Value.TheVariants as value
use Rattle.ft_values.specs.Kept.{Kept, unit, value_of, IsOver, HasMore, GoesOn, stated, stated_at}
use Rattle.ft_values.specs.Named.{environment_in, NamesBelow}
use Rattle.ft_values.specs.Rows.{kept_in, Below}
use Rattle.ft_values.specs.Scopes.{names_in, IsScopeOf}
use Rattle.ft_values.proofs.Rows.{below_more}
use Rattle.ft_values.proofs.Staying.{value_stays, over_stays, rows_stay, entry_goes_on, quiet_append}
use Rattle.ft_values.proofs.Layers.{scope_stays, names_stay}
use Rattle.ft_running.specs.Evaluation.{Evaluation, IsValueOf, value_over, IsScopeIn, names_over, environment_of, AllOver, AllBelow, IsEvaluation, GoesFurther, with_list, with_kept, with_row, with_top, without_scopes}

-- ---- lists that go on

more_both : {A : Type 0} (xs ys zs more further : List A) → ys ≡ xs ++ more → zs ≡ ys ++ further → zs ≡ xs ++ (more ++ further)
more_both xs ys zs more further g h = h ∙ ap (λ l. l ++ further) g ∙ append_assoc xs more further

pub further_same : (e : Evaluation) → GoesFurther e e
further_same e = record {
  list = ([], sym (append-nil e.list.items), tt);
  values = ([], sym (append-nil e.values));
  scopes = ([], sym (append-nil e.scopes));
  top = refl;
  used = omega arith;
  total = refl;
}

pub further_both : (e f g : Evaluation) → GoesFurther e f → GoesFurther f g → GoesFurther e g
further_both e f g h k = record {
  list = (
    h.list.0 ++ k.list.0,
    more_both e.list.items f.list.items g.list.items h.list.0 k.list.0 h.list.1 k.list.1,
    quiet_append h.list.0 k.list.0 h.list.2 k.list.2,
  );
  values = (h.values.0 ++ k.values.0, more_both e.values f.values g.values h.values.0 k.values.0 h.values.1 k.values.1);
  scopes = (h.scopes.0 ++ k.scopes.0, more_both e.scopes f.scopes g.scopes h.scopes.0 k.scopes.0 h.scopes.1 k.scopes.1);
  top = k.top ∙ h.top;
  used = omega (arith, h.used, k.used);
  total = k.total ∙ h.total;
}

-- ---- values

pub over_value : (s : State) (ks : List Kept) (v : Value) → AllOver s ks → Below (length ks) v → IsOver s (kept_in ks v)
over_value s ks value.Unit h b = tt
over_value s ks (value.Truth t) h b = tt
over_value s ks value.Nil h b = tt
over_value s ks value.NoneValue h b = tt
over_value s ks (value.At n) h b = h n b

pub below_further : (e f : Evaluation) (v : Value) → GoesFurther e f → IsValueOf e v → IsValueOf f v
below_further e f v g b =
    below_more (length e.values) (length f.values) v (omega (arith, ap length g.values.1, length-append e.values g.values.0)) b

pub kept_further : (e f : Evaluation) (v : Value) → GoesFurther e f → IsValueOf e v → kept_in f.values v ≡ kept_in e.values v
kept_further e f v g b = ap (λ ks. kept_in ks v) g.values.1 ∙ rows_stay e.values g.values.0 v b

pub means_further : (e f : Evaluation) (v : Value) → IsEvaluation e → GoesFurther e f → IsValueOf e v → value_over f v ≡ value_over e v
means_further e f v is g b =
    ap (value_of f.list) (kept_further e f v g b)
    ∙ value_stays e.list f.list (kept_in e.values v) (g.list.0, g.list.1) (over_value e.list e.values v is.values_over b)

-- ---- names

pub names_below_more : (m n : ℕ) (ns : List (Name × Value)) → m ≤ n → NamesBelow m ns → NamesBelow n ns
names_below_more m n [] l h = tt
names_below_more m n (p ∷ ps) l h = (below_more m n p.1 l h.0, names_below_more m n ps l h.1)

names_below_both : (n : ℕ) (ms ns : List (Name × Value)) → NamesBelow n ms → NamesBelow n ns → NamesBelow n (ms ++ ns)
names_below_both n [] ns g h = h
names_below_both n (p ∷ ps) ns g h = (g.0, names_below_both n ps ns g.1 h)

pub scope_below : (n : ℕ) (es : List (List (Name × Value))) (s : Scope) → AllBelow n es → IsScopeOf (length es) s → NamesBelow n (names_in es s)
scope_below n es scope.Top h w = tt
scope_below n es (scope.Within k) h w = h k w

pub all_names_below : (e : Evaluation) (s : Scope) → IsEvaluation e → IsScopeIn e s → NamesBelow (length e.values) (names_over e s)
all_names_below e s is w =
    names_below_both (length e.values) (names_in e.scopes s) e.top (scope_below (length e.values) e.scopes s is.scopes_below w) is.top_below

names_mean_further : (e f : Evaluation) (ns : List (Name × Value)) → IsEvaluation e → GoesFurther e f → NamesBelow (length e.values) ns
    → environment_in f.list f.values ns ≡ environment_in e.list e.values ns
names_mean_further e f [] is g h = refl
names_mean_further e f (p ∷ ps) is g h =
    ap₂ (λ v G. (p.0, v) ∷ G) (means_further e f p.1 is g h.0) (names_mean_further e f ps is g h.1)

pub scope_further : (e f : Evaluation) (s : Scope) → GoesFurther e f → IsScopeIn e s → IsScopeIn f s
scope_further e f s g w = subst (λ es. IsScopeOf (length es) s) (sym g.scopes.1) (scope_stays e.scopes g.scopes.0 s w)

pub environment_further : (e f : Evaluation) (s : Scope) → IsEvaluation e → GoesFurther e f → IsScopeIn e s → environment_of f s ≡ environment_of e s
environment_further e f s is g w =
    ap (environment_in f.list f.values)
    (ap₂ (λ (ms ns : List (Name × Value)). ms ++ ns) (ap (λ es. names_in es s) g.scopes.1 ∙ names_stay e.scopes g.scopes.0 s w) g.top)
    ∙ names_mean_further e f (names_over e s) is g (all_names_below e s is w)

pub thesis_further : (e f : Evaluation) (j : ℕ) → GoesFurther e f → IsThesisOf e.list j → IsThesisOf f.list j
thesis_further e f j g h = (h.0, entry_goes_on e.list f.list j h.0 (g.list.0, g.list.1) h.1, h.2)

-- what a thesis states stays
pub stated_further : (e f : Evaluation) (j : ℕ) → GoesFurther e f → IsThesisOf e.list j → stated_at f.list j ≡ stated_at e.list j
stated_further e f j g h = ap stated (entry_goes_on e.list f.list j h.0 (g.list.0, g.list.1) h.1 ∙ sym h.1)

pub boundary_further : (e f : Evaluation) (b : ℕ) → GoesFurther e f → IsBoundaryOf e.list b → IsBoundaryOf f.list b
boundary_further e f b g h = (h.0, entry_goes_on e.list f.list b h.0 (g.list.0, g.list.1) h.1, h.2)

-- ---- one more value

all_over_more : (s : State) (ks : List Kept) (k : Kept) → AllOver s ks → IsOver s k → AllOver s (ks ++ k ∷ [])
all_over_more s [] k h o zero lt = o
all_over_more s [] k h o (suc n) lt = absurd (omega arith)
all_over_more s (x ∷ ks) k h o zero lt = h zero (omega arith)
all_over_more s (x ∷ ks) k h o (suc n) lt = all_over_more s ks k (λ m l. h (suc m) (omega (arith, l))) o n (omega arith)

all_below_more : (m n : ℕ) (es : List (List (Name × Value))) → m ≤ n → AllBelow m es → AllBelow n es
all_below_more m n es l h k lt = names_below_more m n (slice_index_or es k []) l (h k lt)

pub kept_evaluation : (e : Evaluation) (k : Kept) → IsEvaluation e → IsOver e.list k → IsEvaluation (with_kept k e)
kept_evaluation e k is o =
    let l : length e.values ≤ length (e.values ++ k ∷ []) = omega (arith, length-append e.values (k ∷ [])) in
    record {
      values_over = all_over_more e.list e.values k is.values_over o;
      scopes_below = all_below_more (length e.values) (length (e.values ++ k ∷ [])) e.scopes l is.scopes_below;
      top_below = names_below_more (length e.values) (length (e.values ++ k ∷ [])) e.top l is.top_below;
      numbered = is.numbered;
      within = is.within;
    }

pub kept_goes : (e : Evaluation) (k : Kept) → GoesFurther e (with_kept k e)
kept_goes e k = record {
  list = ([], sym (append-nil e.list.items), tt);
  values = (k ∷ [], refl);
  scopes = ([], sym (append-nil e.scopes));
  top = refl;
  used = omega arith;
  total = refl;
}

-- ---- one more row of scopes, and names for the commands after

all_below_push : (n : ℕ) (es : List (List (Name × Value))) (ns : List (Name × Value)) → AllBelow n es → NamesBelow n ns → AllBelow n (es ++ ns ∷ [])
all_below_push n [] ns h o zero lt = o
all_below_push n [] ns h o (suc k) lt = absurd (omega arith)
all_below_push n (x ∷ es) ns h o zero lt = h zero (omega arith)
all_below_push n (x ∷ es) ns h o (suc k) lt = all_below_push n es ns (λ m l. h (suc m) (omega (arith, l))) o k (omega arith)

pub row_evaluation : (e : Evaluation) (s : Scope) (n : Name) (v : Value) → IsEvaluation e → IsScopeIn e s → IsValueOf e v → IsEvaluation (with_row s n v e)
row_evaluation e s n v is w b = record {
  values_over = is.values_over;
  scopes_below = all_below_push (length e.values) e.scopes ((n, v) ∷ names_in e.scopes s) is.scopes_below (b, scope_below (length e.values) e.scopes s is.scopes_below w);
  top_below = is.top_below;
  numbered = is.numbered;
  within = is.within;
}

pub row_goes : (e : Evaluation) (s : Scope) (n : Name) (v : Value) → GoesFurther e (with_row s n v e)
row_goes e s n v = record {
  list = ([], sym (append-nil e.list.items), tt);
  values = ([], sym (append-nil e.values));
  scopes = (((n, v) ∷ names_in e.scopes s) ∷ [], refl);
  top = refl;
  used = omega arith;
  total = refl;
}

pub top_evaluation : (e : Evaluation) (n : Name) (v : Value) → IsEvaluation e → IsValueOf e v → IsEvaluation (with_top n v e)
top_evaluation e n v is b = record {
  values_over = is.values_over;
  scopes_below = is.scopes_below;
  top_below = (b, is.top_below);
  numbered = is.numbered;
  within = is.within;
}

pub cleared_evaluation : (e : Evaluation) → IsEvaluation e → IsEvaluation (without_scopes e)
cleared_evaluation e is = record {
  values_over = is.values_over;
  scopes_below = λ k lt. absurd (omega (arith, lt));
  top_below = is.top_below;
  numbered = is.numbered;
  within = is.within;
}

-- ---- a list that goes on

pub list_evaluation : (e : Evaluation) (t : State) (u : Budget) → IsEvaluation e → HasMore e.list t → next_number (variables_in t.items) ≤ u.used → u.used ≤ u.total
    → IsEvaluation (record e { list = t; units = u })
list_evaluation e t u is g next within = record {
  values_over = λ n lt. over_stays e.list t (slice_index_or e.values n unit) g (is.values_over n lt);
  scopes_below = is.scopes_below;
  top_below = is.top_below;
  numbered = next;
  within = within;
}

pub list_goes : (e : Evaluation) (t : State) (u : Budget) → GoesOn e.list t → e.units.used ≤ u.used → u.total ≡ e.units.total → GoesFurther e (record e { list = t; units = u })
list_goes e t u g used total = record {
  list = g;
  values = ([], sym (append-nil e.values));
  scopes = ([], sym (append-nil e.scopes));
  top = refl;
  used = used;
  total = total;
}

-- a call adds no variable
entry_adds_none : (items : List Item) (i : Item) → variables_in (i ∷ []) ≡ [] → variables_in (items ++ i ∷ []) ≡ variables_in items
entry_adds_none [] i h = h
entry_adds_none (variable v n p ∷ items) i h = ap (λ vs. (v, n, p) ∷ vs) (entry_adds_none items i h)
entry_adds_none (metavariable n p ∷ items) i h = entry_adds_none items i h
entry_adds_none (rule n ms p ∷ items) i h = entry_adds_none items i h
entry_adds_none (entry e ∷ items) i h = entry_adds_none items i h
entry_adds_none (shown p ∷ items) i h = entry_adds_none items i h

pub call_variables : (s t : State) (n : Stated) (r : Result ℕ Fault) → Answers s n r t → variables_in t.items ≡ variables_in s.items
call_variables s t n (Ok j) h =
    ap variables_in h.2.0 ∙ entry_adds_none s.items (entry (record { statement = h.0.statement; set = h.0.set; step = n })) refl
call_variables s t n (Err (Refused q)) h = ap variables_in h.2.0
call_variables s t n (Err Memory) h = ap variables_in h.0

pub call_evaluation : (e : Evaluation) (n : Stated) (r : Result ℕ Fault) (t : State) → IsEvaluation e → Answers e.list n r t → IsEvaluation (with_list t e)
call_evaluation e n r t is h =
    let g = goes_on e.list t n r h in list_evaluation e t e.units is (g.0, g.1) (omega (arith, is.numbered, ap next_number (call_variables e.list t n r h))) is.within

pub call_goes : (e : Evaluation) (n : Stated) (r : Result ℕ Fault) (t : State) → Answers e.list n r t → GoesFurther e (with_list t e)
call_goes e n r t h = list_goes e t e.units (goes_on e.list t n r h) (omega arith) refl
