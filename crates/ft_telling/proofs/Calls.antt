-- From what a call of the nucleus answers to what the meaning gives.
use Rattle.std.proofs.Common.{◌≡◌, ◌∙◌, ◌++◌, ap, ap₂, refl, sym, subst, ℕ, [], ◌∷◌, Some, append-nil}
use Rattle.std.specs.Prelude.{Result, Ok, Err}
use Rattle.std.proofs.lemmas.Option.{same_Some}
use Rattle.ft_items.specs.Item.{Stated, entry}
use Rattle.ft_items.specs.Store.{Assertion, Store, Resolved, Declarations, nth, store_of, entries_in, entry_named, resolve, with_one, with_two, declared_by}
use Rattle.ft_items.proofs.Lists.{nth_end, entries_append, declared_last}
use Rattle.ft_reference.specs.Refusals as reference
use Rattle.ft_reference.specs.Calls.{answer}
use Rattle.ft_base.specs.Budget.{Budget}
use Rattle.ft_meaning.specs.Values.{Outcome, Run, answered, after, pure, nucleus, judgement, boundary, halts}
use Rattle.ft_meaning.specs.Values as meaning
use Rattle.ft_meaning.specs.Forms.{judged, bounded}
use Rattle.ft_judge.specs.declared.fault.Fault.{Fault}
use Rattle.ft_judge.specs.declared.fault.Fault.TheVariants.{Refused, Memory}
use Rattle.ft_kernel.specs.State.{State, entry_at, IsEntryOf}
use Rattle.ft_calls.specs.Answers.{refusal_in, IsAnswer, Gains, Stays, Answers}
use Rattle.ft_calls.proofs.Answering.{resolves_one, resolves_two}
use Rattle.ft_values.specs.Kept.{stated, stated_at, GoesOn}
use Rattle.ft_telling.specs.Telling.{state_of, TellsJudgement, TellsBoundary, TellsStatement, halted_at}

-- ---- the list after a call

-- a new entry declares nothing
gained_state : (s t : State) (a : Assertion) (n : Stated) (j : ℕ) (u : Budget) → Gains s a n j t → state_of t u ≡ state_of s u
gained_state s t a n j u g =
    ap (λ (W : Declarations). record (state_of s u) { declarations = W })
    (ap declared_by g.0 ∙ declared_last s.items (entry (record { statement = a.statement; set = a.set; step = n })))

-- and its token names what it states
gained_entry : (s t : State) (a : Assertion) (n : Stated) (j : ℕ) → Gains s a n j t → entry_at t j ≡ Some a
gained_entry s t a n j g =
    ap (λ items. nth (entries_in items) j) g.0
    ∙ ap (λ es. nth es j) (entries_append s.items (entry (record { statement = a.statement; set = a.set; step = n }) ∷ []))
    ∙ ap (nth (entries_in s.items ++ a ∷ [])) g.1
    ∙ nth_end (entries_in s.items) a

stays_state : (s t : State) (u : Budget) → Stays s t → state_of t u ≡ state_of s u
stays_state s t u h = ap (λ items. record (state_of s u) { declarations = declared_by items }) h.0

pub goes_on : (s t : State) (n : Stated) (r : Result ℕ Fault) → Answers s n r t → GoesOn s t
goes_on s t n (Ok j) h = (entry (record { statement = h.0.statement; set = h.0.set; step = n }) ∷ [], h.2.0, (tt, tt))
goes_on s t n (Err (Refused q)) h = ([], h.2.0 ∙ sym (append-nil s.items), tt)
goes_on s t n (Err Memory) h = ([], h.0 ∙ sym (append-nil s.items), tt)

-- ---- what is answered

-- what the reference answers where the step names this
answer_is : (s : State) (n : Stated) (R : Resolved) (o : Result Assertion reference.Refusal) → resolve (store_of s.items) n ≡ Some R → IsAnswer s n o → answer (declared_by s.items) R ≡ o
answer_is s n R o e h = ap (answer (declared_by s.items)) (sym (same_Some h.0 R (sym h.1 ∙ e))) ∙ h.2

-- an answer as the meaning has it
abbrev pub judged_by : ℕ → Result Assertion reference.Refusal → Run meaning.Value
judged_by at r = λ s. after (answered at r s) (λ j. pure (judgement j))

abbrev bounded_by : ℕ → Result Assertion reference.Refusal → Run meaning.Value
bounded_by at r = λ s. after (answered at r s) (λ b. pure (boundary b))

pub tells_judgement : (s t : State) (u : Budget) (at : ℕ) (n : Stated) (R : Resolved) (r : Result ℕ Fault) → resolve (store_of s.items) n ≡ Some R → Answers s n r t
    → TellsJudgement (judged at (λ W. answer W R) (state_of s u)) (halted_at at r) t u
tells_judgement s t u at n R (Ok j) e h =
    ap (λ r. judged_by at r (state_of s u)) (answer_is s n R (Ok h.0) e h.1)
    ∙ ap₂ (λ (a : Assertion) (x : meaning.State). (Ok (judgement a), x)) (ap stated (sym (gained_entry s t h.0 n j h.2))) (sym (gained_state s t h.0 n j u h.2))
tells_judgement s t u at n R (Err (Refused q)) e h = λ _. (
  h.1,
  ap (λ r. judged_by at r (state_of s u)) (answer_is s n R (Err (refusal_in t.trees q)) e h.0)
      ∙ ap (λ (x : meaning.State). (Err (halts (meaning.fails (meaning.Refused (refusal_in t.trees q)) at)), x)) (sym (stays_state s t u h.2)),
)
tells_judgement s t u at n R (Err Memory) e h = λ no. absurd (no refl)

pub tells_boundary : (s t : State) (u : Budget) (at : ℕ) (n : Stated) (R : Resolved) (r : Result ℕ Fault) → resolve (store_of s.items) n ≡ Some R → Answers s n r t
    → TellsBoundary (bounded at (λ W. answer W R) (state_of s u)) (halted_at at r) t u
tells_boundary s t u at n R (Ok j) e h =
    ap (λ r. bounded_by at r (state_of s u)) (answer_is s n R (Ok h.0) e h.1)
    ∙ ap₂ (λ (a : Assertion) (x : meaning.State). (Ok (boundary a), x)) (ap stated (sym (gained_entry s t h.0 n j h.2))) (sym (gained_state s t h.0 n j u h.2))
tells_boundary s t u at n R (Err (Refused q)) e h = λ _. (
  h.1,
  ap (λ r. bounded_by at r (state_of s u)) (answer_is s n R (Err (refusal_in t.trees q)) e h.0)
      ∙ ap (λ (x : meaning.State). (Err (halts (meaning.fails (meaning.Refused (refusal_in t.trees q)) at)), x)) (sym (stays_state s t u h.2)),
)
tells_boundary s t u at n R (Err Memory) e h = λ no. absurd (no refl)

pub tells_statement : (s t : State) (u : Budget) (at : ℕ) (n : Stated) (R : Resolved) (r : Result ℕ Fault) → resolve (store_of s.items) n ≡ Some R → Answers s n r t
    → TellsStatement (nucleus at (λ W. answer W R) (state_of s u)) (halted_at at r) t u
tells_statement s t u at n R (Ok j) e h =
    ap (λ r. answered at r (state_of s u)) (answer_is s n R (Ok h.0) e h.1)
    ∙ ap₂ (λ (a : Assertion) (x : meaning.State). (Ok a, x)) (ap stated (sym (gained_entry s t h.0 n j h.2))) (sym (gained_state s t h.0 n j u h.2))
tells_statement s t u at n R (Err (Refused q)) e h = λ _. (
  h.1,
  ap (λ r. answered at r (state_of s u)) (answer_is s n R (Err (refusal_in t.trees q)) e h.0)
      ∙ ap (λ (x : meaning.State). (Err (halts (meaning.fails (meaning.Refused (refusal_in t.trees q)) at)), x)) (sym (stays_state s t u h.2)),
)
tells_statement s t u at n R (Err Memory) e h = λ no. absurd (no refl)

-- ---- calls of one and of two entries

pub tells_one : (f : Assertion → Resolved) (n : ℕ → Stated) → ((W : Store) (p : ℕ) → resolve W (n p) ≡ with_one f (entry_named W p))
    → (s t : State) (u : Budget) (at p : ℕ) (r : Result ℕ Fault) → IsEntryOf s p → Answers s (n p) r t
    → TellsJudgement (judged at (λ W. answer W (f (stated_at s p))) (state_of s u)) (halted_at at r) t u
tells_one f n resolves s t u at p r is h =
    subst (λ a. TellsJudgement (judged at (λ W. answer W (f a)) (state_of s u)) (halted_at at r) t u) (sym (ap stated is.1))
    (tells_judgement s t u at (n p) (f is.0) r (resolves_one s (n p) f p is.0 (resolves (store_of s.items) p) is.1) h)

pub bounds_one : (f : Assertion → Resolved) (n : ℕ → Stated) → ((W : Store) (p : ℕ) → resolve W (n p) ≡ with_one f (entry_named W p))
    → (s t : State) (u : Budget) (at p : ℕ) (r : Result ℕ Fault) → IsEntryOf s p → Answers s (n p) r t
    → TellsBoundary (bounded at (λ W. answer W (f (stated_at s p))) (state_of s u)) (halted_at at r) t u
bounds_one f n resolves s t u at p r is h =
    subst (λ a. TellsBoundary (bounded at (λ W. answer W (f a)) (state_of s u)) (halted_at at r) t u) (sym (ap stated is.1))
    (tells_boundary s t u at (n p) (f is.0) r (resolves_one s (n p) f p is.0 (resolves (store_of s.items) p) is.1) h)

pub tells_two : (f : Assertion → Assertion → Resolved) (n : ℕ → ℕ → Stated) → ((W : Store) (p q : ℕ) → resolve W (n p q) ≡ with_two f (entry_named W p) (entry_named W q))
    → (s t : State) (u : Budget) (at p q : ℕ) (r : Result ℕ Fault) → IsEntryOf s p → IsEntryOf s q → Answers s (n p q) r t
    → TellsJudgement (judged at (λ W. answer W (f (stated_at s p) (stated_at s q))) (state_of s u)) (halted_at at r) t u
tells_two f n resolves s t u at p q r is js h =
    subst (λ a. TellsJudgement (judged at (λ W. answer W (f a (stated_at s q))) (state_of s u)) (halted_at at r) t u) (sym (ap stated is.1))
    (subst (λ b. TellsJudgement (judged at (λ W. answer W (f is.0 b)) (state_of s u)) (halted_at at r) t u) (sym (ap stated js.1))
    (tells_judgement s t u at (n p q) (f is.0 js.0) r (resolves_two s (n p q) f p q is.0 js.0 (resolves (store_of s.items) p q) is.1 js.1) h))
