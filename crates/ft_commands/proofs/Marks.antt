-- Marks of what is shown, and what further items tell.
use Rattle.std.proofs.Common.{◌≡◌, ◌∙◌, ◌<◌, ◌++◌, ℕ, List, [], ◌∷◌, length, get_or, map, ap, ap₂, sym, refl, subst, append-nil, append_assoc, zero, suc, arith}
use Rattle.std.specs.Prelude.{Result, Ok, Err, OnOk, OnErr}
use Rattle.ft_base.specs.declared.memory.Memory.{Memory}
use Rattle.ft_items.specs.Item.{Item, variable, metavariable, rule, entry, shown}
use Rattle.ft_items.specs.Store.{Assertion, Store, Declarations, entries_in, entry_named, store_of, declared_by, variables_in, add, add_all, empty_store, sequent_in}
use Rattle.ft_items.proofs.Lists.{entries_append, store_append}
use Rattle.ft_kernel.specs.State.{State, with_item, next_number, IsThesisOf}
use Rattle.ft_calls.proofs.Answering.{entry_in}
use Rattle.ft_calling.proofs.Leaving.{variables_append}
use Rattle.ft_meaning.specs.Events.{Told, states, told_from, told_by_item, told_shown, told_by_event, shows}
use Rattle.ft_meaning.specs.Commands as command
use Rattle.ft_apply.specs.Named.{AreThesesOf}
use Rattle.ft_telling.specs.Words.{stated_all}
use Rattle.ft_values.specs.Kept.{GoesOn, AreQuiet, stated}
use Rattle.ft_running.specs.Evaluation.{Evaluation, IsEvaluation}
use Rattle.ft_running.proofs.Further.{list_evaluation}
use Rattle.ft_commands.specs.Doing.{with_marks, ItemsTell, IsShown, shown_by, told_by}
use Rattle.ft_commands.specs.declared.done.Done.{Done}
use Rattle.ft_commands.specs.declared.done.Done.TheVariants as done

-- ---- marks after marks

marks_more : (js ks : List ℕ) → map shown (js ++ ks) ≡ map shown js ++ map shown ks
marks_more [] ks = refl
marks_more (j ∷ js) ks = ap (λ xs. shown j ∷ xs) (marks_more js ks)

pub marks_both : (js ks : List ℕ) (e : Evaluation) → with_marks ks (with_marks js e) ≡ with_marks (js ++ ks) e
marks_both js ks e =
    ap (λ items. record e { list = record { trees = e.list.trees; items = items } })
    (append_assoc e.list.items (map shown js) (map shown ks) ∙ ap (λ xs. e.list.items ++ xs) (sym (marks_more js ks)))

pub no_marks : (e : Evaluation) → e ≡ with_marks [] e
no_marks e = ap (λ items. record e { list = record { trees = e.list.trees; items = items } }) (sym (append-nil e.list.items))

-- ---- marks add no entry, and declare nothing

no_entries : (js : List ℕ) → entries_in (map shown js) ≡ []
no_entries [] = refl
no_entries (j ∷ js) = no_entries js

no_variables : (js : List ℕ) → variables_in (map shown js) ≡ []
no_variables [] = refl
no_variables (j ∷ js) = no_variables js

no_addition : (W : Store) (js : List ℕ) → add_all W (map shown js) ≡ W
no_addition W [] = refl
no_addition W (j ∷ js) = no_addition W js

pub entries_marked : (js : List ℕ) (e : Evaluation) → entries_in (with_marks js e).list.items ≡ entries_in e.list.items
entries_marked js e =
    entries_append e.list.items (map shown js) ∙ ap (λ xs. entries_in e.list.items ++ xs) (no_entries js) ∙ append-nil (entries_in e.list.items)

pub variables_marked : (js : List ℕ) (e : Evaluation) → variables_in (with_marks js e).list.items ≡ variables_in e.list.items
variables_marked js e =
    variables_append e.list.items (map shown js) ∙ ap (λ xs. variables_in e.list.items ++ xs) (no_variables js) ∙ append-nil (variables_in e.list.items)

pub store_marked : (js : List ℕ) (e : Evaluation) → store_of (with_marks js e).list.items ≡ store_of e.list.items
store_marked js e = store_append empty_store e.list.items (map shown js) ∙ no_addition (store_of e.list.items) js

pub thesis_marked : (js : List ℕ) (e : Evaluation) (j : ℕ) → IsThesisOf e.list j → IsThesisOf (with_marks js e).list j
thesis_marked js e j h = (h.0, ap (λ es. Rattle.ft_items.specs.Store.nth es j) (entries_marked js e) ∙ h.1, h.2)

pub theses_marked : (js : List ℕ) (e : Evaluation) (ks : List ℕ) → AreThesesOf e.list ks → AreThesesOf (with_marks js e).list ks
theses_marked js e [] h = tt
theses_marked js e (k ∷ ks) h = (thesis_marked js e k h.0, theses_marked js e ks h.1)

pub stated_marked : (js : List ℕ) (e : Evaluation) (ks : List ℕ) → stated_all (with_marks js e).list ks ≡ stated_all e.list ks
stated_marked js e [] = refl
stated_marked js e (k ∷ ks) =
    ap₂ (λ (a : Assertion) bs. a ∷ bs) (ap (λ es. stated (Rattle.ft_items.specs.Store.nth es k)) (entries_marked js e)) (stated_marked js e ks)

pub marks_leave : (js : List ℕ) (e : Evaluation) → IsEvaluation e → IsEvaluation (with_marks js e)
marks_leave js e is =
    list_evaluation e (with_marks js e).list e.units is (map shown js, refl) (omega (arith, is.numbered, ap next_number (variables_marked js e))) is.within

pub mark_leaves : (e : Evaluation) (t : State) (j : ℕ) (r : Result (Unit {0}) Memory) → IsEvaluation e → OnOk r (t ≡ with_item e.list (shown j)) → OnErr r (t ≡ e.list)
    → IsEvaluation (record e { list = t })
mark_leaves e t j (Ok x) is ok err = subst (λ t. IsEvaluation (record e { list = t })) (sym ok) (marks_leave (j ∷ []) e is)
mark_leaves e t j (Err m) is ok err = subst (λ t. IsEvaluation (record e { list = t })) (sym err) is

-- each of the entries is that of a thesis
pub thesis_at : (s : State) (js : List ℕ) (i d : ℕ) → AreThesesOf s js → i < length js → IsThesisOf s (get_or js i d)
thesis_at s [] i d h l = absurd (omega (arith, l))
thesis_at s (j ∷ js) zero d h l = h.0
thesis_at s (j ∷ js) (suc i) d h l = thesis_at s js i d h.1 (omega (arith, l))

-- ---- what items tell

told_append : (W : Store) (xs ys : List Item) → told_from W (xs ++ ys) ≡ told_from W xs ++ told_from (add_all W xs) ys
told_append W [] ys = refl
told_append W (x ∷ xs) ys =
    ap (λ ts. told_by_item W x ++ ts) (told_append (add W x) xs ys)
    ∙ sym (append_assoc (told_by_item W x) (told_from (add W x) xs) (told_from (add_all (add W x) xs) ys))

told_quiet : (W : Store) (xs : List Item) → AreQuiet xs → told_from W xs ≡ []
told_quiet W [] h = refl
told_quiet W (variable v n p ∷ xs) h = told_quiet (add W (variable v n p)) xs h.1
told_quiet W (metavariable n p ∷ xs) h = told_quiet (add W (metavariable n p)) xs h.1
told_quiet W (rule n ms p ∷ xs) h = absurd h.0
told_quiet W (entry e ∷ xs) h = told_quiet (add W (entry e)) xs h.1
told_quiet W (shown p ∷ xs) h = absurd h.0

-- the store after items that go on
store_on : (s t : State) (g : GoesOn s t) → add_all (store_of s.items) g.0 ≡ store_of t.items
store_on s t g = sym (ap store_of g.1 ∙ store_append empty_store s.items g.0)

pub quiet_tell : (s t : State) → GoesOn s t → ItemsTell s t []
quiet_tell s t g = (g.0, g.1, told_quiet (store_of s.items) g.0 g.2)

-- further items after those that go on
pub more_tell : (s t u : State) (more : List Item) (ts : List Told) → GoesOn s t → u.items ≡ t.items ++ more
    → told_from (store_of t.items) more ≡ ts → ItemsTell s u ts
more_tell s t u more ts g h tells = (
  g.0 ++ more,
  h ∙ ap (λ xs. xs ++ more) g.1 ∙ append_assoc s.items g.0 more,
  told_append (store_of s.items) g.0 more
      ∙ ap (λ xs. xs ++ told_from (add_all (store_of s.items) g.0) more) (told_quiet (store_of s.items) g.0 g.2)
      ∙ ap (λ W. told_from W more) (store_on s t g) ∙ tells,
)

-- marks tell the judgements of their entries
told_marks : (s : State) (js : List ℕ) → AreThesesOf s js
    → told_from (store_of s.items) (map shown js) ≡ map told_by_event (map (shows (declared_by s.items)) (stated_all s js))
told_marks s [] h = refl
told_marks s (j ∷ js) h =
    ap₂ (λ (ts us : List Told). ts ++ us)
    (ap (told_shown (declared_by s.items)) (entry_in s j h.0.0 h.0.1)
    ∙ ap (λ (a : Assertion). states (declared_by s.items).rules (sequent_in (declared_by s.items) a.statement a.set) ∷ []) (sym (ap stated h.0.1)))
    (told_marks s js h.1)

pub shown_tell : (e : Evaluation) (d : Done) (m : command.Done) → IsShown e d m → told_from (store_of e.list.items) (map shown (shown_by d)) ≡ told_by e m
shown_tell e (done.Accepted n) m h = absurd h
shown_tell e done.Quiet m h = absurd h
shown_tell e (done.Shown js) (command.Accepted n R) h = absurd h
shown_tell e (done.Shown js) (command.Shown bs) h =
    told_marks e.list js.items h.0 ∙ ap (λ bs. map told_by_event (map (shows (declared_by e.list.items)) bs)) (sym h.1)
shown_tell e (done.Shown js) command.ShownNone h = absurd h
shown_tell e (done.Shown js) command.Quiet h = absurd h
shown_tell e done.ShownNone (command.Accepted n R) h = absurd h
shown_tell e done.ShownNone (command.Shown bs) h = absurd h
shown_tell e done.ShownNone command.ShownNone h = refl
shown_tell e done.ShownNone command.Quiet h = absurd h

-- what is shown is so over the marks
pub shown_marked : (js : List ℕ) (e : Evaluation) (d : Done) (m : command.Done) → IsShown e d m → IsShown (with_marks js e) d m
shown_marked js e (done.Accepted n) m h = absurd h
shown_marked js e done.Quiet m h = absurd h
shown_marked js e (done.Shown ks) (command.Accepted n R) h = absurd h
shown_marked js e (done.Shown ks) (command.Shown bs) h = (theses_marked js e ks.items h.0, h.1 ∙ sym (stated_marked js e ks.items))
shown_marked js e (done.Shown ks) command.ShownNone h = absurd h
shown_marked js e (done.Shown ks) command.Quiet h = absurd h
shown_marked js e done.ShownNone (command.Accepted n R) h = absurd h
shown_marked js e done.ShownNone (command.Shown bs) h = absurd h
shown_marked js e done.ShownNone command.ShownNone h = tt
shown_marked js e done.ShownNone command.Quiet h = absurd h

pub shown_theses : (e : Evaluation) (d : Done) (m : command.Done) → IsShown e d m → AreThesesOf e.list (shown_by d)
shown_theses e (done.Accepted n) m h = tt
shown_theses e done.Quiet m h = tt
shown_theses e (done.Shown ks) (command.Accepted n R) h = absurd h
shown_theses e (done.Shown ks) (command.Shown bs) h = h.0
shown_theses e (done.Shown ks) command.ShownNone h = absurd h
shown_theses e (done.Shown ks) command.Quiet h = absurd h
shown_theses e done.ShownNone m h = tt
